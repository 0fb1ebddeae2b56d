use Rattle.std.proofs.Common.{◌≡◌, ℕ, ◌<◌, false, get_or}
use Rattle.text_words.specs.Text.{is_hash}
use Rattle.text_words.proofs.search.code_len.Given as goal

-- no byte so far is one
abbrev pub invariant-loop-n : goal.invariant-loop-n
invariant-loop-n l = (k : ℕ) → k < l.n → is_hash (get_or l.line k 0) ≡ false
