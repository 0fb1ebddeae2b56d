use Rattle.std.proofs.Common.{◌≡◌, ◌+◌, true, false, get_or, drop, sym, ap, ◌∙◌, rules, arith}
use Rattle.std.specs.List.{list_any}
use Rattle.text_words.specs.Left.{word_of}
use Rattle.script_reader.specs.Nets.{is_given}
use Rattle.script_reader.specs.Views.{state_of, words_of}
use Rattle.script_reader.proofs.Finding.{words_left, no_word, any_more, any_is}
use Rattle.script_reader.proofs.planning.Planning.any_given.Goals as goal
use Rattle.std.proofs.lemmas.Grind.{common_steps}

pub returns-then-contains_key : goal.returns-then-contains_key
returns-then-contains_key c =
    let names = c.args.names.now in
    let i = c.loop-name.name-index in
    let p = is_given (state_of c.args.self.now) in
    let yes : p (word_of (get_or names i no_word)) ≡ true = search rules in
    sym (sym c.loop-name.invariant ∙ ap (list_any p) (words_left names i no_word c.loop-name-test.true) ∙ any_is p (word_of (get_or names i no_word)) (drop (i + 1) (words_of names)) yes)

pub loop-name-preserved : goal.loop-name-preserved
loop-name-preserved c =
    let names = c.args.names.now in
    let i = c.loop-name.name-index in
    let p = is_given (state_of c.args.self.now) in
    let no : p (word_of (get_or names i no_word)) ≡ false = search rules in
    sym (any_more p (word_of (get_or names i no_word)) (drop (i + 1) (words_of names)) no) ∙ sym (ap (list_any p) (words_left names i no_word c.loop-name-test.true)) ∙ c.loop-name.invariant

pub returns : goal.returns
returns c = grind (arith, common_steps)
