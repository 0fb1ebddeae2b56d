-- How the rows of a level get their numbers, one after the other.
use Rattle.std.specs.Prelude.{◌≡◌, ℕ, zero, suc, ◌+◌, ◌-◌, ◌<◌, ◌≤◌, ◌==◌, ◌&&◌, nat_lt, Bool, true, false, cond, List, [], ◌∷◌, ◌++◌, length, map, filter, take, drop, set, Option, Some}
use Rattle.std.proofs.Common.{◌∙◌, refl, sym, ap, subst, inl, inr, arith}
use Rattle.std.proofs.lemmas.Bool.Decides.{nat_tests}
use Rattle.std.proofs.lemmas.List.{append_assoc, append-nil, length-append, drop_all, drop_more, map_push, take_more_set}
use Rattle.rec_words.specs.Records.{node_words}
use Rattle.rec_words.specs.declared.rec.Rec.{Rec}
use Rattle.block_stream.specs.Items.{item_record}
use Rattle.list_laws.specs.Members.{IsAscending}
use Rattle.run_files.specs.Items.{record_at}
use Rattle.canon_file.specs.declared.row.Row.{Row}
use Rattle.canon_file.specs.Rows.{row_before, row_word, place_of}
use Rattle.canon_file.specs.Pairs.{differs, word_in}
use Rattle.canon_file.specs.Canon.{numbered}
use Rattle.canon_file.proofs.MemberLaws.{either_bit}
use Rattle.arc_diagrams.specs.Reducing.{IsRising, distinct_after}
use Rattle.arc_diagrams.proofs.RowPlaces.{place_at}
use Rattle.arc_diagrams.proofs.RowLists.{after-new}
use Rattle.node_file.specs.Nodes.{node_records}
use Rattle.room_reduction.specs.Records.{node_record, row_in, word}
use Rattle.room_reduction.proofs.FirstPlaces.{numbered_push}
use Rattle.room_reduction.specs.Levels.{IsNumbering, distinct_rows, last_row}
use Rattle.room_reduction.proofs.RowOrder.{distinct_rows_ascend}

-- the rows from a place on whose pointers differ
abbrev later : List Rec → ℕ → List Row
later first place = filter differs (map row_in (drop place first))

-- at first no row has a number
pub none_numbered : (level : ℕ) (first : List Rec) (last : Row) → IsNumbering level first 0 0 last first
none_numbered level first last = record {
  done = [];
  count_is = refl;
  nodes_are = refl;
  whole = refl;
  ends = λ some. absurd (omega (arith, some));
}

-- some row was numbered
and_false : (m : ℕ) (b : Bool) → nat_lt 0 (suc m) && b ≡ false → b ≡ false
and_false m b e = grind (arith, nat_tests)

module _ (level : ℕ) (first : List Rec) (place : ℕ) (r : Rec) (below : place < length first)
    (is : r ≡ record_at first place) where
  -- the next of them is the row at the place, where its pointers differ
  later-is : later first place
      ≡ cond (differs (row_in r)) (row_in r ∷ later first (place + 1)) (later first (place + 1))
  later-is =
      ap (λ xs. filter differs (map row_in xs)) (drop_more first place (record { w = [] }) below)
      ∙ ap (λ x. cond (differs (row_in x)) (row_in x ∷ later first (place + 1)) (later first (place + 1))) (sym is)

  later-one : differs (row_in r) ≡ true → later first place ≡ row_in r ∷ later first (place + 1)
  later-one differ = later-is ∙ ap (λ b. cond b (row_in r ∷ later first (place + 1)) (later first (place + 1))) differ

  -- another one is numbered
  new_one : (count : ℕ) (last : Row) (rs : List Row)
      → nat_lt 0 count && ((last.low == word 0 r) && (last.high == word 1 r)) ≡ false
      → distinct_after (last_row count last) (row_in r ∷ rs) ≡ row_in r ∷ distinct_after (Some (row_in r)) rs
  new_one zero last rs other = refl
  new_one (suc m) last rs other = after-new last (row_in r) rs (and_false m _ other)

  some_last : (count : ℕ) (row : Row) → 0 < count → last_row count row ≡ Some row
  some_last zero row some = absurd (omega (arith, some))
  some_last (suc m) row some = refl

  pub new_numbered : (count : ℕ) (last : Row) (rows : List Rec) → count < length rows
      → nat_lt 0 count && ((last.low == word 0 r) && (last.high == word 1 r)) ≡ false → differs (row_in r) ≡ true
      → IsNumbering level first place count last rows
      → IsNumbering level first (place + 1) (count + 1) (row_in r)
      (set rows count (node_record (row_word level count) (row_in r)))
  new_numbered count last rows within other differ n =
      let rest : List Row = distinct_after (Some (row_in r)) (later first (place + 1)) in
      let more : last_row (count + 1) (row_in r) ≡ Some (row_in r) = some_last (count + 1) (row_in r) (omega arith) in
      let long : 0 + length n.done ≡ count = omega (arith, n.count_is) in
      record {
        done = n.done ++ row_in r ∷ [];
        count_is = length-append n.done (row_in r ∷ []) ∙ ap (λ m. m + 1) n.count_is;
        nodes_are = take_more_set rows count (node_record (row_word level count) (row_in r)) within
            ∙ ap (λ xs. xs ++ node_record (row_word level count) (row_in r) ∷ []) n.nodes_are
            ∙ sym (ap node_records (numbered_push level 0 count n.done (row_in r) long)
            ∙ map_push (item_record node_words) (numbered level 0 n.done)
            (record { uid = row_word level count; low = word 0 r; high = word 1 r }));
        whole = n.whole ∙ ap (λ rs. n.done ++ distinct_after (last_row count last) rs) (later-one differ)
            ∙ ap (λ rs. n.done ++ rs) (new_one count last (later first (place + 1)) other)
            ∙ sym (append_assoc n.done (row_in r ∷ []) rest)
            ∙ ap (λ l. (n.done ++ row_in r ∷ []) ++ distinct_after l (later first (place + 1))) (sym more);
        ends = λ some. (n.done, refl);
      }

  -- the word of the row's source, once it was numbered
  pub row_named : (count : ℕ) (last : Row) (rows : List Rec) → IsRising (map row_in first)
      → (differs (row_in r) ≡ true → 0 < count) → (differs (row_in r) ≡ true → last.low ≡ word 0 r)
      → (differs (row_in r) ≡ true → last.high ≡ word 1 r) → IsNumbering level first (place + 1) count last rows
      → cond (differs (row_in r)) (row_word level (count - 1)) (word 0 r)
      ≡ word_in level (distinct_rows first) (row_in r)
  row_named count last rows rising some low high n =
      elim (either_bit (differs (row_in r))) [
        | inl e ↦
            let (front, done_is) = n.ends (some e) in
            let row : last ≡ row_in r = λ j. record { low = low e j; high = high e j } in
            let rest : List Row = distinct_after (last_row count last) (later first (place + 1)) in
            let stands : distinct_rows first ≡ front ++ row_in r ∷ rest =
            n.whole ∙ ap (λ xs. xs ++ rest) done_is ∙ append_assoc front (last ∷ []) rest
            ∙ ap (λ x. front ++ x ∷ rest) row in
            let placed : place_of (row_in r) (distinct_rows first) ≡ length front =
            ap (place_of (row_in r)) stands ∙ place_at front (row_in r) rest
            (subst (IsAscending row_before) stands (distinct_rows_ascend first rising)) in
            let number : count - 1 ≡ length front =
            omega (arith, n.count_is, ap length done_is, length-append front (last ∷ [])) in
            ap (λ b. cond b (row_word level (count - 1)) (word 0 r)) e ∙ ap (row_word level) (number ∙ sym placed)
            ∙ ap (λ b. cond b (row_word level (place_of (row_in r) (distinct_rows first))) (word 0 r)) (sym e)
        | inr e ↦
            ap (λ b. cond b (row_word level (count - 1)) (word 0 r)) e
            ∙ ap (λ b. cond b (row_word level (place_of (row_in r) (distinct_rows first))) (word 0 r)) (sym e)
      ]

none_left : (last : Option Row) → distinct_after last [] ≡ []
none_left last = refl

-- when no row is left the nodes are those of the distinct rows
pub all_numbered : (level : ℕ) (first : List Rec) (place count : ℕ) (last : Row) (rows : List Rec)
    → length first ≤ place → IsNumbering level first place count last rows
    → take count rows ≡ node_records (numbered level 0 (distinct_rows first))
all_numbered level first place count last rows past n =
    n.nodes_are ∙ ap (λ rs. node_records (numbered level 0 rs))
    (sym (n.whole ∙ ap (λ xs. n.done ++ distinct_after (last_row count last) (filter differs (map row_in xs)))
    (drop_all place first past) ∙ ap (λ rs. n.done ++ rs) (none_left (last_row count last)) ∙ append-nil n.done))
