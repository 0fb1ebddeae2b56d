-- The numbers of a level are no more than the arcs to nodes.
use Rattle.std.proofs.Common.{◌≡◌, ℕ, ◌≤◌, ◌<◌, ◌+◌, ◌*◌, Bool, true, false, cond, subst, sym, arith}
use Rattle.std.specs.Prelude.{Option, Some, None, IfSome, ◌==◌}
use Rattle.rec_words.specs.Words.{level_of, node_word, level_numbers}
use Rattle.arc_file.specs.declared.writer.ArcWriter.{ArcWriter}
use Rattle.arc_file.specs.Writers.{inner_count}
use Rattle.shelf_model.specs.Calls.{longest, most_piece}
use Rattle.block_stream.specs.Appenders.{filling_of}
use Rattle.tuple_asks.specs.declared.ask.Ask.{Ask}
use Rattle.tuple_asks.specs.declared.place.Numbered.{Numbered}
use Rattle.tuple_asks.specs.declared.place.Asking.{Asking}
use Rattle.tuple_asks.specs.declared.place.Phase.{Phase}
use Rattle.tuple_asks.specs.declared.place.Phase.TheVariants as phases
use Rattle.tuple_asks.specs.Soundness.{is_due, is_asker, next_number, next_numbered}
use Rattle.top_down_sweep.specs.Sweeps.{IsPhaseAt}

-- the next number is at most one more, and then an arc to a node is put
next_fits : (last : Option Numbered) (a : Ask) (count : ℕ) → is_due last a ≡ true
    → IfSome last (λ x. x.number ≤ count)
    → next_number last (level_of a.key) ≤ count + cond (is_asker a.asker) 1 0
next_fits None a count due few = omega arith
next_fits (Some x) a count due few =
    subst (λ b. next_number (Some x) (level_of a.key) ≤ count + cond b 1 0) (sym due)
    (by (level_of x.key == level_of a.key))
  where
    by : (b : Bool) → cond b (x.number + 1) 0 ≤ count + 1
    by true = omega (arith, few)
    by false = omega arith

-- while asks are answered the last number is among those
pub last_fits : (w : ArcWriter) (taken : Option Ask) (phase : Phase) (s : Asking) → phase ≡ phases.Asking s → IsPhaseAt w taken phase → IfSome s.last (λ x. x.number ≤ inner_count w)
last_fits w taken phase s is at = subst (IsPhaseAt w taken) is at

-- once the tuple of an ask is numbered
pub number_fits : (w v : ArcWriter) (taken : Option Ask) (phase : Phase) (s : Asking) (a : Ask)
    → phase ≡ phases.Asking s → IsPhaseAt w taken phase → is_due s.last a ≡ true
    → inner_count v ≡ inner_count w + cond (is_asker a.asker) 1 0 → (next_numbered s a).number ≤ inner_count v
number_fits w v taken phase s a is at due count =
    let fits = next_fits s.last a (inner_count w) due (last_fits w taken phase s is at) in
    omega (arith, fits, count)

-- the level of an identifier
pub level_of_node : (level number : ℕ) → number < level_numbers → level_of (node_word level number) ≡ level
level_of_node level number below = omega (arith, below)

-- there are fewer arcs than numbers
pub few_arcs : (w : ArcWriter) → inner_count w < level_numbers
few_arcs w =
    let stored : (filling_of w.inner).stored * (8 * 2) ≤ longest = subst (λ k. (filling_of w.inner).stored * (8 * k) ≤ longest) w.inner_width w.inner.fills.fits in
    let waits : (filling_of w.inner).waiting * (8 * 2) ≤ most_piece = subst (λ k. (filling_of w.inner).waiting * (8 * k) ≤ most_piece) w.inner_width w.inner.fills.in_piece in
    omega (arith, stored, waits)

pub last_few : (w : ArcWriter) (taken : Option Ask) (phase : Phase) (s : Asking) → phase ≡ phases.Asking s → IsPhaseAt w taken phase → IfSome s.last (λ x. x.number < level_numbers)
last_few w taken phase s is at = by s.last (last_fits w taken phase s is at)
  where
    by : (last : Option Numbered) → IfSome last (λ x. x.number ≤ inner_count w) → IfSome last (λ x. x.number < level_numbers)
    by None fits = tt
    by (Some x) fits = let few = few_arcs w in omega (arith, fits, few)

-- and there would be with one more
pub arcs_and_one : (w : ArcWriter) → inner_count w + 1 < level_numbers
arcs_and_one w =
    let stored : (filling_of w.inner).stored * (8 * 2) ≤ longest = subst (λ k. (filling_of w.inner).stored * (8 * k) ≤ longest) w.inner_width w.inner.fills.fits in
    let waits : (filling_of w.inner).waiting * (8 * 2) ≤ most_piece = subst (λ k. (filling_of w.inner).waiting * (8 * k) ≤ most_piece) w.inner_width w.inner.fills.in_piece in
    omega (arith, stored, waits)
