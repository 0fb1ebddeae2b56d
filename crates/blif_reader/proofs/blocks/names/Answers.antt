use Rattle.std.proofs.Common.{◌∙◌, ◌++◌, List, ℕ, ap, ap₂, map}
use Rattle.blif_reader.specs.Parts.{Use}
use Rattle.blif_reader.specs.Ends.{words_between}
use Rattle.blif_reader.proofs.WordEnds.{words_none, are_within}
use Rattle.blif_reader.proofs.blocks.names.Goals as goal

pub invariant_of-result : goal.invariant_of-result
invariant_of-result c = record { placed = are_within _ _ _ c.in_ok-push_words-2.ensures }

pub returns : goal.returns
returns c =
    let words : List Use → List (List ℕ) = map (λ u. u.word) in
    let none = ap (λ es. words_between 0 es c.new-bytes.result.items) c.new-ends.ensures.items ∙ words_none 0 c.new-bytes.result.items in
    c.in_ok-push_words-2.ensures.same
    ∙ ap₂ (λ (xs ys : List (List ℕ)). xs ++ ys) (c.in_ok-push_words.ensures.same ∙ ap₂ (λ (xs ys : List (List ℕ)). xs ++ ys) none (ap words c.of.ensures)) (ap words c.of-2.ensures)
