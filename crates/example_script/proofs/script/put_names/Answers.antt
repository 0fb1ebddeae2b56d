use Rattle.std.proofs.Common.{rules, ◌≡◌, ◌++◌, ◌∷◌, [], ap, sym, ◌∙◌}
use Rattle.std.proofs.lemmas.List.Folds.{flat_map-map}
use Rattle.example_script.specs.Lines.{numbered}
use Rattle.example_script.specs.Script.{one_to}
use Rattle.example_script.proofs.Numbers.{one_more, none_left}
use Rattle.example_script.proofs.script.put_names.Goals as goal

pub loop-i-preserved : goal.loop-i-preserved
loop-i-preserved c =
    let puts : c.put_name.new.script.items ≡ c.loop-i.script.items ++ 32 ∷ numbered (c.args.letter ∷ []) c.loop-i.i = search rules in
    one_more (λ number. 32 ∷ numbered (c.args.letter ∷ []) number) c.loop-i.i c.args.size _ _ _ c.loop-i-test.true puts c.loop-i.invariant

pub returns : goal.returns
returns c =
    none_left (λ number. 32 ∷ numbered (c.args.letter ∷ []) number) c.loop-i.i c.args.size _ _ c.loop-i-test.false c.loop-i.invariant
    ∙ ap (λ xs. c.args.script.now.items ++ xs) (sym (flat_map-map (λ word. 32 ∷ word) (numbered (c.args.letter ∷ [])) (one_to c.args.size)))
