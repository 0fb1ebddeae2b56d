-- Lines that show the entries of their steps.
use Rattle.std.proofs.Common.{◌≡◌, ◌∙◌, ℕ, suc, ◌+◌, ◌*◌, ◌<◌, ◌≤◌, Bool, nat_le, nat_lt, List, [], ◌∷◌, ◌++◌, length, take, drop, refl, sym, ap, ap₂, subst, inl, arith, append_assoc}
use Rattle.std.specs.Prelude.{IsTrue}
use Rattle.std.specs.List.{list_all}
use Rattle.std.proofs.lemmas.Bool.{leb-true, ltb-true, lt-ltb, and_from, and_parts}
use Rattle.std.proofs.lemmas.List.{append-nil, drop-take, take-take}
use Rattle.shelf_model.specs.declared.file_no.FileNo.{FileNo}
use Rattle.bool_tables.specs.declared.steps.Planned.{Planned}
use Rattle.catalogue.specs.declared.layout.Entry.{Entry}
use Rattle.catalogue.specs.Counts.{entry_at, count_in}
use Rattle.catalogue.specs.Entries.{IsEntryOf}
use Rattle.script_reader.specs.declared.plan.LineEnd.{LineEnd}
use Rattle.script_runner.specs.Text.{entry_line, banner_line, lines_from_step}
use Rattle.script_runner.specs.Shapes.{AreShown, IsShapeFront}
use Rattle.script_runner.specs.Said.{whole_lines}
use Rattle.script_runner.proofs.SaidLaws.{whole_lines-append, entry_line_is_one}

-- where the first entries of a catalogue stay, what stands at the place of each of them stays
pub same_entries : (count : ℕ) (xs ys : List ℕ) → take (128 * count) ys ≡ take (128 * count) xs → (k : ℕ) → k < count
    → take 128 (drop (128 * k) ys) ≡ take 128 (drop (128 * k) xs)
same_entries count xs ys same k within = in_front ys ∙ ap (λ zs. drop (128 * k) (take (128 * k + 128) zs)) same ∙ sym (in_front xs)
  where
    room : 128 * k + 128 ≤ 128 * count
    room = omega (arith, within)

    in_front : (zs : List ℕ) → take 128 (drop (128 * k) zs) ≡ drop (128 * k) (take (128 * k + 128) (take (128 * count) zs))
    in_front zs = sym (drop-take (128 * k) 128 zs) ∙ ap (drop (128 * k)) (sym (take-take (128 * k + 128) (128 * count) zs room))

-- lines that show steps below a bound show the same where these entries stay
pub still_shown : (steps : List Planned) (bound : ℕ) (r q : FileNo → List ℕ) (lines : List LineEnd) (bytes : List ℕ) → ((k : ℕ) → k < bound → entry_at k q ≡ entry_at k r)
    → IsTrue (list_all (λ (l : LineEnd). nat_lt l.shows bound) lines) → AreShown steps r lines bytes → AreShown steps q lines bytes
still_shown steps bound r q [] bytes same below shown = shown
still_shown steps bound r q (line ∷ lines) bytes same below shown =
    let here : line.shows < bound =
    ltb-true line.shows bound (and_parts (nat_lt line.shows bound) (list_all (λ (l : LineEnd). nat_lt l.shows bound) lines) below).0 in (
      shown.0,
      shown.1,
      record { entry = shown.2.entry; number = shown.2.number; bytes = same line.shows here ∙ shown.2.bytes },
      shown.3,
      still_shown steps bound r q lines shown.1 same (and_parts (nat_lt line.shows bound) (list_all (λ (l : LineEnd). nat_lt l.shows bound) lines) below).1 shown.4,
    )

-- lines and more lines
pub shown_then : (steps : List Planned) (r : FileNo → List ℕ) (xs ys : List LineEnd) (a b : List ℕ) → AreShown steps r xs a → AreShown steps r ys b → AreShown steps r (xs ++ ys) (a ++ b)
shown_then steps r [] ys a b first second = subst (λ p. AreShown steps r ys (p ++ b)) (sym first) second
shown_then steps r (line ∷ xs) ys a b first second = (
  first.0,
  first.1 ++ b,
  first.2,
  ap (λ p. p ++ b) first.3 ∙ append_assoc (entry_line steps line first.0) first.1 b,
  shown_then steps r xs ys first.1 b first.4 second,
)

-- one line
pub one_shown : (steps : List Planned) (r : FileNo → List ℕ) (line : LineEnd) (e : Entry) (bytes : List ℕ) → IsEntryOf line.shows r e → bytes ≡ entry_line steps line e
    → AreShown steps r (line ∷ []) bytes
one_shown steps r line e bytes is bytes_are = (e, [], is, bytes_are ∙ sym (append-nil (entry_line steps line e)), refl)

-- so many lines are so many
pub shown_lines : (steps : List Planned) (r : FileNo → List ℕ) (lines : List LineEnd) (bytes : List ℕ) → AreShown steps r lines bytes → whole_lines bytes ≡ length lines
shown_lines steps r [] bytes shown = ap whole_lines shown
shown_lines steps r (line ∷ lines) bytes shown =
    ap whole_lines shown.3 ∙ whole_lines-append (entry_line steps line shown.0) shown.1
    ∙ ap₂ (λ a b. a + b) (entry_line_is_one steps line shown.0) (shown_lines steps r lines shown.1 shown.4) ∙ one_more (length lines)
  where
    one_more : (n : ℕ) → 1 + n ≡ suc n
    one_more n = omega arith

-- lines that show no step above a number show steps below the next one, and all later ones
pub below_next : (number : ℕ) (lines : List LineEnd) → IsTrue (list_all (λ (l : LineEnd). nat_le l.shows number) lines) → IsTrue (list_all (λ (l : LineEnd). nat_lt l.shows (number + 1)) lines)
below_next number [] all = refl
below_next number (line ∷ lines) all =
    let rest : Bool = list_all (λ (l : LineEnd). nat_le l.shows number) lines in
    let here : line.shows ≤ number = leb-true line.shows number (and_parts (nat_le line.shows number) rest all).0 in
    and_from (nat_lt line.shows (number + 1)) (list_all (λ (l : LineEnd). nat_lt l.shows (number + 1)) lines) (lt-ltb line.shows (number + 1) (omega (arith, here)))
    (below_next number lines (and_parts (nat_le line.shows number) rest all).1)

pub below_later : (bound later : ℕ) (lines : List LineEnd) → bound ≤ later → IsTrue (list_all (λ (l : LineEnd). nat_lt l.shows bound) lines)
    → IsTrue (list_all (λ (l : LineEnd). nat_lt l.shows later) lines)
below_later bound later [] up all = refl
below_later bound later (line ∷ lines) up all =
    let rest : Bool = list_all (λ (l : LineEnd). nat_lt l.shows bound) lines in
    let here : line.shows < bound = ltb-true line.shows bound (and_parts (nat_lt line.shows bound) rest all).0 in
    and_from (nat_lt line.shows later) (list_all (λ (l : LineEnd). nat_lt l.shows later) lines) (lt-ltb line.shows later (omega (arith, here, up)))
    (below_later bound later lines up (and_parts (nat_lt line.shows bound) rest all).1)

-- the shape of a run that has said nothing
pub says_no_shape : (steps : List Planned) (lines : List LineEnd) (first here : FileNo → List ℕ) → IsShapeFront steps lines first here []
says_no_shape steps lines first here = record {
  rest = banner_line first lines;
  shape = record {
    spoken = [];
    later = lines_from_step (count_in first) lines;
    parts = refl;
    body = [];
    shown = refl;
    end = [];
    ends = inl refl;
    text_is = sym (append-nil (banner_line first lines));
  };
}
