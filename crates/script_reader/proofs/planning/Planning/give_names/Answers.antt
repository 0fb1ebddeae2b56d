use Rattle.std.proofs.Common.{◌+◌, ◌≤◌, length, get_or, drop, sym, ap, ◌∙◌, arith}
use Rattle.std.proofs.lemmas.Bool.{leb-true}
use Rattle.std.proofs.lemmas.List.{drop_more, drop_all}
use Rattle.text_words.specs.Left.{word_of}
use Rattle.script_reader.specs.Nets.{give_names}
use Rattle.script_reader.specs.Requests.{is_short}
use Rattle.script_reader.specs.Names.{State}
use Rattle.script_reader.specs.Views.{state_of, words_of}
use Rattle.script_reader.proofs.Finding.{words_left, word_passes, no_word}
use Rattle.script_reader.proofs.Pairs.{none_made, one_given}
use Rattle.script_reader.proofs.planning.Planning.give_names.Goals as goal
use Rattle.std.proofs.lemmas.Grind.{common_steps}

pub returns-then-place-made : goal.returns-then-place-made
returns-then-place-made c =
    let i = c.loop-place.place in
    sym (none_made (state_of c.loop-place.self) c.args.line c.args.last (drop i (words_of c.args.names.now)))
    ∙ sym (ap (give_names (state_of c.loop-place.self) c.args.line c.args.last (drop i (words_of c.args.names.now))) (drop_all i c.args.made.now c.if-place-made.true)) ∙ c.loop-place.invariant

pub give_name-requires : goal.give_name-requires
give_name-requires c =
    let short : length (get_or c.args.names.now c.loop-place.place no_word).bytes.now ≤ 63 = leb-true _ _ (word_passes is_short c.args.names.now c.loop-place.place no_word c.requires c.loop-place-test.true) in
    omega (arith, short)

pub loop-place-preserved : goal.loop-place-preserved
loop-place-preserved c =
    let i = c.loop-place.place in
    let names = c.args.names.now in
    let made = c.args.made.now in
    let s = state_of c.loop-place.self in
    ap (λ (t : State). give_names t c.args.line c.args.last (drop (i + 1) (words_of names)) (drop (i + 1) made)) c.in_ok-give_name.ensures
    ∙ one_given s c.args.line c.args.last (drop i (words_of names)) (drop i made) (word_of (get_or names i no_word)) (drop (i + 1) (words_of names)) _ (drop (i + 1) made)
    (words_left names i no_word c.loop-place-test.true) (drop_more made i 0 c.if-place-made.false) ∙ c.loop-place.invariant

pub returns : goal.returns
returns c = grind (arith, common_steps)
