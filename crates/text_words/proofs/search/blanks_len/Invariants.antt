use Rattle.std.proofs.Common.{◌≡◌, ℕ, ◌<◌, false, get_or}
use Rattle.text_words.specs.Text.{is_inner}
use Rattle.text_words.proofs.search.blanks_len.Given as goal

-- no byte so far is one
abbrev pub invariant-loop-n : goal.invariant-loop-n
invariant-loop-n l = (k : ℕ) → k < l.n → is_inner (get_or l.text k 0) ≡ false
