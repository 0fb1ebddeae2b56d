-- The entries of the first steps, as they are read one after the other.
use Rattle.std.proofs.Common.{◌≡◌, ℕ, suc, zero, ◌+◌, ◌-◌, ◌<◌, ◌≤◌, ◌||◌, ◌&&◌, not, Bool, true, false, cond, List, [], ◌∷◌, ◌++◌, length, refl, sym, ap, subst, ◌∙◌, inl, inr, arith}
use Rattle.std.specs.Prelude.{slice_index_or}
use Rattle.std.specs.List.{flat_map, list_any, range_with_len}
use Rattle.std.proofs.lemmas.Bool.{cases_lt}
use Rattle.std.proofs.lemmas.List.{append-nil}
use Rattle.std.proofs.lemmas.List.Folds.{list_any-append}
use Rattle.std.proofs.lemmas.Grind.{flat_map-append}
use Rattle.shelf_model.specs.declared.file_no.FileNo.{FileNo}
use Rattle.shelf_model.specs.declared.fault.StreamFault.{StreamFault}
use Rattle.shelf_model.specs.declared.fault.StreamFault.TheVariants as stream
use Rattle.catalogue.specs.declared.layout.Entry.{Entry}
use Rattle.catalogue.specs.Counts.{count_in, entry_at}
use Rattle.catalogue.specs.Entries.{IsEntryOf, IsEntryFault}
use Rattle.catalogue.proofs.Fields.{ReadsAs, entry_reads, same_fields}
use Rattle.diagram_list.specs.Faults.{list_fault}
use Rattle.diagram_list.specs.Listing.{entry_read, entry_in, drops, is_dropped, is_named, diagram_line, step_line, first_steps}
use Rattle.diagram_list.specs.Lists.{WereRead, IsNext, IsDamage}

-- numbers one behind the other, in two parts
range_parts : (a i j : ℕ) → range_with_len a (i + j) ≡ range_with_len a i ++ range_with_len (a + i) j
range_parts a zero j =
    let none : zero + j ≡ j = omega arith in
    let start : a ≡ a + zero = omega arith in
    ap (range_with_len a) none ∙ ap (λ b. range_with_len b j) start
range_parts a (suc i) j =
    let more : suc i + j ≡ suc (i + j) = omega arith in
    let start : a + 1 + i ≡ a + suc i = omega arith in
    ap (range_with_len a) more ∙ ap (λ xs. a ∷ xs) (range_parts (a + 1) i j ∙ ap (λ b. range_with_len (a + 1) i ++ range_with_len b j) start)

steps_more : (k : ℕ) → first_steps (k + 1) ≡ first_steps k ++ k ∷ []
steps_more k = range_parts 0 k 1 ∙ ap (λ b. range_with_len 0 k ++ b ∷ []) (omega arith)

-- the lines of one step more
pub lines_more : (f : ℕ → List ℕ) (k : ℕ) → flat_map f (first_steps k) ++ f k ≡ flat_map f (first_steps (k + 1))
lines_more f k =
    ap (λ xs. flat_map f (first_steps k) ++ xs) (sym (append-nil (f k)))
    ∙ sym (flat_map-append f (first_steps k) (k ∷ []))
    ∙ sym (ap (flat_map f) (steps_more k))

-- the lines of the first steps are the first lines
pub lines_first : (f : ℕ → List ℕ) (k n : ℕ) → k ≤ n → (rest : List ℕ) × (flat_map f (first_steps n) ≡ flat_map f (first_steps k) ++ rest)
lines_first f k n within =
    let whole : n ≡ k + (n - k) = omega arith in (
      flat_map f (range_with_len (0 + k) (n - k)),
      ap (λ m. flat_map f (first_steps m)) whole ∙ ap (flat_map f) (range_parts 0 k (n - k)) ∙ flat_map-append f (first_steps k) (range_with_len (0 + k) (n - k)),
    )

-- the entry that stands whole is the one that is read
pub read_is : (k : ℕ) (r : FileNo → List ℕ) (e : Entry) → IsEntryOf k r e → entry_in r k ≡ e
unfolding entry_in
read_is k r e is =
    let reads : ReadsAs e (entry_at k r) = entry_reads e (entry_at k r) is.entry.fits (sym is.bytes) in
    same_fields (entry_read (entry_at k r)) e (sym reads.number) (sym reads.kind) (sym reads.answer) (sym reads.count) (sym reads.turns) (sym reads.parts) (sym reads.name_len) (sym reads.name)

pub stands_read : (k : ℕ) (r : FileNo → List ℕ) (e : Entry) → IsEntryOf k r e → IsEntryOf k r (entry_in r k)
stands_read k r e is = subst (IsEntryOf k r) (sym (read_is k r e is)) is

-- what one step more drops
dropped_more : (r : FileNo → List ℕ) (k j : ℕ) → is_dropped r (k + 1) j ≡ (is_dropped r k j || drops j (entry_in r k))
dropped_more r k j =
    let test : ℕ → Bool = λ i. drops j (entry_in r i) in
    ap (list_any test) (steps_more k) ∙ list_any-append test (first_steps k) (k ∷ []) ∙ ap (λ b. is_dropped r k j || b) (or_false (drops j (entry_in r k)))
  where
    or_false : (b : Bool) → (b || false) ≡ b
    or_false true = refl
    or_false false = refl

-- no step was read yet
pub read_none : (r : FileNo → List ℕ) (marks : List Bool) → ((j : ℕ) → j < length marks → slice_index_or marks j false ≡ false) → WereRead 0 r marks
read_none r marks all = record { stand = λ k none. absurd (omega (arith, none)); marks_are = all }

-- one step more was read
pub read_more : (k : ℕ) (r : FileNo → List ℕ) (e : Entry) (old new : List Bool) → IsEntryOf k r e → length new ≡ length old
    → ((j : ℕ) → j < length old → slice_index_or new j false ≡ (slice_index_or old j false || drops j e)) → WereRead k r old → WereRead (k + 1) r new
read_more k r e old new is long marks so_far = record {
  stand = λ j within. elim (cases_lt j k) [
    | inl before ↦ so_far.stand j before
    | inr after ↦ let same : k ≡ j = omega (arith, within, after) in subst (λ i. IsEntryOf i r (entry_in r i)) same (stands_read k r e is)
  ];
  marks_are = λ j within.
      let inside : j < length old = omega (arith, within, long) in
      marks j inside ∙ ap (λ b. b || drops j e) (so_far.marks_are j inside) ∙ ap (λ x. is_dropped r k j || drops j x) (sym (read_is k r e is)) ∙ sym (dropped_more r k j);
}

-- the line of a step, by its entry and its mark
line_is : (r : FileNo → List ℕ) (n k : ℕ) (e : Entry) (mark shown : Bool) → IsEntryOf k r e → mark ≡ is_dropped r n k → shown ≡ (is_named e && not mark)
    → step_line r n k ≡ cond shown (diagram_line e) []
line_is r n k e mark shown is mark_is shown_is =
    ap (λ x. cond (is_named x && not (is_dropped r n k)) (diagram_line x) []) (read_is k r e is)
    ∙ ap (λ b. cond (is_named e && not b) (diagram_line e) []) (sym mark_is)
    ∙ ap (λ b. cond b (diagram_line e) []) (sym shown_is)

pub no_line : (r : FileNo → List ℕ) (k : ℕ) (e : Entry) (mark shown : Bool) → IsNext k mark r → IsEntryOf k r e → shown ≡ (is_named e && not mark) → shown ≡ false → step_line r (count_in r) k ≡ []
no_line r k e mark shown next is shown_is hidden = line_is r (count_in r) k e mark shown is next.mark_is shown_is ∙ ap (λ b. cond b (diagram_line e) []) hidden

pub its_line : (r : FileNo → List ℕ) (k : ℕ) (e : Entry) (mark shown : Bool) → IsNext k mark r → IsEntryOf k r e → shown ≡ (is_named e && not mark) → shown ≡ true → step_line r (count_in r) k ≡ diagram_line e
its_line r k e mark shown next is shown_is seen = line_is r (count_in r) k e mark shown is next.mark_is shown_is ∙ ap (λ b. cond b (diagram_line e) []) seen

-- an entry that stands isn't met as damage
pub no_damage : (k : ℕ) (r : FileNo → List ℕ) (fault : StreamFault) → IsEntryOf k r (entry_in r k) → IsEntryFault k r fault → ¬ (IsDamage (list_fault fault))
no_damage k r stream.Shelf stands met damage = absurd (let same = damage.2 in cc)
no_damage k r (stream.Damaged f at) stands met damage = met.2 (entry_in r k) stands
