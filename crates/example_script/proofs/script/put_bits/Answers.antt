use Rattle.example_script.specs.Script.{bit_lines}
use Rattle.example_script.proofs.Numbers.{one_more}
use Rattle.example_script.proofs.script.put_bits.Goals as goal

pub loop-i-preserved : goal.loop-i-preserved
loop-i-preserved c = one_more bit_lines c.loop-i.i c.args.size _ _ _ c.loop-i-test.true c.in_ok-put_bit.ensures c.loop-i.invariant
