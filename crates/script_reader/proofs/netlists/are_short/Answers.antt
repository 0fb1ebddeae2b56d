use Rattle.std.proofs.Common.{◌+◌, get_or, drop, sym, ap, ◌∙◌, arith}
use Rattle.std.specs.List.{list_all}
use Rattle.std.proofs.lemmas.Bool.{le-leb, lt-leb}
use Rattle.text_words.specs.Left.{word_of}
use Rattle.script_reader.specs.Requests.{is_short}
use Rattle.script_reader.specs.Views.{words_of}
use Rattle.script_reader.proofs.Finding.{words_left, no_word, all_more, all_not}
use Rattle.script_reader.proofs.netlists.are_short.Goals as goal
use Rattle.std.proofs.lemmas.Grind.{common_steps}

pub returns-then-name-gt-MOST_NAME_BYTES : goal.returns-then-name-gt-MOST_NAME_BYTES
returns-then-name-gt-MOST_NAME_BYTES c =
    let names = c.args.names.now in
    let i = c.loop-name.name-index in
    sym (sym c.loop-name.invariant ∙ ap (list_all is_short) (words_left names i no_word c.loop-name-test.true)
    ∙ all_not is_short (word_of (get_or names i no_word)) (drop (i + 1) (words_of names)) (lt-leb _ _ c.if-name-gt-MOST_NAME_BYTES.true))

pub loop-name-preserved : goal.loop-name-preserved
loop-name-preserved c =
    let names = c.args.names.now in
    let i = c.loop-name.name-index in
    sym (all_more is_short (word_of (get_or names i no_word)) (drop (i + 1) (words_of names)) (le-leb _ _ c.if-name-gt-MOST_NAME_BYTES.false))
    ∙ sym (ap (list_all is_short) (words_left names i no_word c.loop-name-test.true)) ∙ c.loop-name.invariant

pub returns : goal.returns
returns c = grind (arith, common_steps)
