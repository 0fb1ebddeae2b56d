use Rattle.std.proofs.Common.{get_or}
use Rattle.text_words.specs.Text.{lines_of}
use Rattle.text_words.proofs.Standing.{each_line, each_word}
use Rattle.text_words.proofs.laws.words_stand_at_their_places.Goals as goal

pub returns-clause-lines : goal.returns-clause-lines
returns-clause-lines c = each_line

pub returns-clause-words : goal.returns-clause-words
returns-clause-words c = λ text k d lt. each_word text (get_or (lines_of text) k d) (each_line text k d lt)
