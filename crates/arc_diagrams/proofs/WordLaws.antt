-- the levels of pointers
use Rattle.std.specs.Prelude.{◌≡◌, ℕ, ◌+◌, ◌^◌, ◌<◌, ◌≤◌, ◌==◌, Bool, true, false}
use Rattle.std.proofs.Common.{refl, sym, ◌∙◌, ap, inl, inr, arith}
use Rattle.std.proofs.lemmas.Bool.Decides.{nat_tests}
use Rattle.rec_words.specs.Words.{terminal, level_of, IsTerminal}
use Rattle.canon_file.specs.Walks.{is_at}
pub use Rattle.canon_file.proofs.FileLaws.{terminal_ends as terminal_is}
use Rattle.arc_diagrams.specs.Arcs.{IsWithin}

-- what the test of a level says
pub level_at : (i w : ℕ) → i ≤ level_of w → is_at i w ≡ true → level_of w ≡ i
level_at i w deep e = grind (arith, nat_tests)

pub level_past : (i w : ℕ) → is_at i w ≡ false → i < level_of w
level_past i w e = grind (arith, nat_tests)

pub at_from : (i w : ℕ) → level_of w ≡ i → is_at i w ≡ true
at_from i w e = grind (arith, nat_tests)

pub past_from : (i w : ℕ) → i < level_of w → is_at i w ≡ false
past_from i w e = grind (arith, nat_tests)

-- truth values lie below every level
pub level-terminal : (w : ℕ) → IsTerminal w → level_of w ≡ 65536
level-terminal w (inl zeros) = omega arith
level-terminal w (inr ones) = omega arith

-- a pointer below all levels is a truth value
pub terminal_from : (n w : ℕ) → IsWithin n w → n ≤ level_of w → IsTerminal w
terminal_from n w (inl node) deep = absurd (omega arith)
terminal_from n w (inr end) deep = end

-- the value of a truth value's word
pub value-terminal : (b : Bool) → (terminal b == 2 ^ 63 + 1) ≡ b
value-terminal true = refl
value-terminal false = refl

pub terminal-value : (w : ℕ) → IsTerminal w → terminal (w == 2 ^ 63 + 1) ≡ w
terminal-value w (inl zeros) = let other : (w == 2 ^ 63 + 1) ≡ false = grind (arith, nat_tests) in ap terminal other ∙ sym zeros
terminal-value w (inr ones) = let same : (w == 2 ^ 63 + 1) ≡ true = grind (arith, nat_tests) in ap terminal same ∙ sym ones
