use Rattle.std.proofs.Common.{rules, ◌≡◌, ◌++◌}
use Rattle.example_script.specs.Script.{back_line}
use Rattle.example_script.proofs.Numbers.{one_more}
use Rattle.example_script.proofs.script.put_back.Goals as goal

pub loop-i-preserved : goal.loop-i-preserved
loop-i-preserved c =
    let puts : c.put_line.new.script.items ≡ c.loop-i.script.items ++ back_line c.args.size c.loop-i.i = search rules in
    one_more (back_line c.args.size) c.loop-i.i c.args.size _ _ _ c.loop-i-test.true puts c.loop-i.invariant
