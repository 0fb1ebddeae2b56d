-- The sources of a level, and the rows that they have.
use Rattle.std.specs.Prelude.{◌≡◌, ℕ, ◌+◌, ◌-◌, ◌<◌, ◌≤◌, ◌==◌, false, List, [], length, map, filter}
use Rattle.std.specs.List.Sorted.{IsPermutation}
use Rattle.std.proofs.Common.{◌∙◌, sym, ap, subst, inl, inr, arith}
use Rattle.std.proofs.lemmas.Bool.{cases_lt}
use Rattle.std.proofs.lemmas.Bool.Decides.{nat_tests}
use Rattle.std.proofs.lemmas.List.{get_or_default}
use Rattle.rec_words.specs.Words.{level_of}
use Rattle.rec_words.specs.declared.rec.Rec.{Rec}
use Rattle.list_laws.specs.Members.{Has}
use Rattle.list_laws.proofs.SameMembers.{has_at, contains_from_has, same_permuted}
use Rattle.run_files.specs.Items.{record_at}
use Rattle.canon_file.specs.Pairs.{differs, word_in}
use Rattle.canon_file.proofs.MemberLaws.{has_map, map_has, has_filter, filter_has}
use Rattle.canon_file.proofs.RowLaws.{ascending_same, same_row}
use Rattle.arc_file.specs.declared.arc.Arc.{Arc}
use Rattle.arc_diagrams.specs.Arcs.{sources_of, IsComplete}
use Rattle.arc_diagrams.specs.Reduction.{final_pointer, final_pair, final_rows}
use Rattle.arc_diagrams.specs.Reducing.{IsRising}
use Rattle.arc_diagrams.proofs.FinalLaws.{finds_final}
use Rattle.room_reduction.specs.Records.{row_in, word}
use Rattle.room_reduction.specs.Sources.{AreSources}
use Rattle.room_reduction.specs.Levels.{KeepsEnds, KeepsSources, IsKnown, AreKnown, Names, IsRowOf, AreRowsOf, IsLevel, distinct_rows}
use Rattle.room_reduction.proofs.RowOrder.{distinct_rows_are}

-- a member of the records stands at a place
pub member_place : (r : Rec) (rs : List Rec) → Has r rs → (k : ℕ) × (k < length rs) × (record_at rs k ≡ r)
member_place r rs m =
    let (k, below, e) = contains_from_has r rs m in
    (k, below, get_or_default rs k (record { w = [] }) r below ∙ e)

-- truth values are their own final pointers
pub final_keeps_ends : (n root : ℕ) (arcs : List Arc) → n ≤ 65535 → IsComplete n root arcs
    → KeepsEnds (final_pointer n arcs)
final_keeps_ends n root arcs few complete = (finds_final n root arcs few complete).ends

-- the source at a place has arcs
source_arc : (n root : ℕ) (arcs : List Arc) (sources : List Rec) (k : ℕ) → IsComplete n root arcs
    → AreSources n root arcs sources → k < length sources
    → (a : Arc) × Has a arcs × (a.source ≡ word 0 (record_at sources k))
source_arc n root arcs sources k complete are below =
    let r = record_at sources k in
    let m = has_at sources k (record { w = [] }) below in
    let (a, in_arcs, source, side) = complete.both (word 0 r) (are.met r m) (are.within r m) false in
    (a, in_arcs, source)

-- the row of a source has its pair
pub row_pair : (n root : ℕ) (arcs : List Arc) (sources : List Rec) (k : ℕ) (r : Rec) → AreSources n root arcs sources
    → k < length sources → IsRowOf (final_pointer n arcs) k sources r
    → row_in r ≡ final_pair n arcs (word 0 (record_at sources k))
row_pair n root arcs sources k r are below row =
    let m = has_at sources k (record { w = [] }) below in
    same_row _ _ (row.low ∙ ap (final_pointer n arcs) (are.low (record_at sources k) m))
    (row.high ∙ ap (final_pointer n arcs) (are.high (record_at sources k) m))

module _ (n root : ℕ) (arcs : List Arc) (level from end : ℕ) (sources rows sorted : List Rec)
    (is : IsLevel n root arcs level from end sources) (many : from + length rows ≡ end) (within : end ≤ length sources)
    (are_rows : AreRowsOf (final_pointer n arcs) from sources rows) (moved : IsPermutation rows sorted) where
  -- a row is that of a source of the level
  row_source : (r : Rec) → Has r sorted
      → (k : ℕ) × (from ≤ k) × (k < end) × IsRowOf (final_pointer n arcs) k sources r
  row_source r m =
      let (k, below, e) = member_place r rows ((same_permuted rows sorted moved).back r m) in
      let row = subst (IsRowOf (final_pointer n arcs) (from + k) sources) e (are_rows k below) in
      (from + k, omega arith, omega (arith, below, many), row)

  -- each source of the level has one
  source_row : (k : ℕ) → from ≤ k → k < end → (r : Rec) × Has r sorted × IsRowOf (final_pointer n arcs) k sources r
  source_row k later before =
      let j : ℕ = k - from in
      let below : j < length rows = omega (arith, later, before, many) in
      let place : from + j ≡ k = omega (arith, later) in
      let r = record_at rows j in (
        r,
        (same_permuted rows sorted moved).there r (has_at rows j (record { w = [] }) below),
        subst (λ p. IsRowOf (final_pointer n arcs) p sources r) place (are_rows j below),
      )

  -- so the rows that differ are those of the level
  pub rows_are : IsRising (map row_in sorted) → final_rows n arcs level ≡ distinct_rows sorted
  unfolding final_rows
  rows_are rising =
      ascending_same (filter differs (map (final_pair n arcs) (sources_of arcs level)))
      (filter differs (map row_in sorted)) (record {
        there = λ x m.
            let (in_pairs, differ) = filter_has differs x (map (final_pair n arcs) (sources_of arcs level)) m in
            let (s, in_sources, is_x) = map_has (final_pair n arcs) x (sources_of arcs level) in_pairs in
            let of_arcs : List ℕ = map (λ (b : Arc). b.source) arcs in
            let (in_all, here) = filter_has (λ v. level_of v == level) s of_arcs in_sources in
            let (a, in_arcs, of_a) = map_has (λ (a : Arc). a.source) s arcs in_all in
            let (w, in_room, of_w) = is.sources_are.each a in_arcs in
            let (k, below, at) = member_place w sources in_room in
            let source : word 0 (record_at sources k) ≡ s = ap (word 0) at ∙ of_w ∙ of_a in
            let level_is : level_of s ≡ level = grind (arith, nat_tests) in
            let (later, before) = place_in_level k below (ap level_of source ∙ level_is) in
            let (r, in_rows, row) = source_row k later before in
            let same : row_in r ≡ x =
            row_pair n root arcs sources k r is.sources_are below row ∙ ap (final_pair n arcs) source ∙ is_x in
            has_filter differs x (map row_in sorted)
            (subst (λ y. Has y (map row_in sorted)) same (has_map row_in r sorted in_rows)) differ;
        back = λ x m.
            let (in_rows, differ) = filter_has differs x (map row_in sorted) m in
            let (r, in_sorted, is_x) = map_has row_in x sorted in_rows in
            let (k, later, before, row) = row_source r in_sorted in
            let below : k < length sources = omega (arith, before, within) in
            let (a, in_arcs, of_a) = source_arc n root arcs sources k is.complete is.sources_are below in
            let here : level_of a.source ≡ level = ap level_of of_a ∙ is.own k later before in
            let of_level : Has a.source (sources_of arcs level) =
            has_filter (λ v. level_of v == level) a.source (map (λ (b : Arc). b.source) arcs)
            (has_map (λ (b : Arc). b.source) a arcs in_arcs) (grind (arith, nat_tests)) in
            let same : final_pair n arcs a.source ≡ x =
            ap (final_pair n arcs) of_a ∙ sym (row_pair n root arcs sources k r is.sources_are below row) ∙ is_x in
            has_filter differs x (map (final_pair n arcs) (sources_of arcs level))
            (subst (λ y. Has y (map (final_pair n arcs) (sources_of arcs level))) same
            (has_map (final_pair n arcs) a.source (sources_of arcs level) of_level)) differ;
      })
      ∙ sym (distinct_rows_are sorted rising)
    where
      place_in_level : (k : ℕ) → k < length sources → level_of (word 0 (record_at sources k)) ≡ level
          → (from ≤ k) × (k < end)
      place_in_level k below here =
          elim (cases_lt k from) [
            | inl early ↦ absurd (let above = is.before k early in omega (arith, above, here))
            | inr later ↦ elim (cases_lt k end) [
              | inl before ↦ (later, before)
              | inr past ↦ absurd (let deeper = is.behind k past below in omega (arith, deeper, here))
            ]
          ]

  -- and the word of a row is the final pointer of its source
  pub row_word_is : IsRising (map row_in sorted) → (r : Rec) → Has r sorted
      → word_in level (distinct_rows sorted) (row_in r) ≡ final_pointer n arcs (word 0 (record_at sources (word 2 r)))
  row_word_is rising r m =
      let (k, later, before, row) = row_source r m in
      let below : k < length sources = omega (arith, before, within) in
      let (a, in_arcs, of_a) = source_arc n root arcs sources k is.complete is.sources_are below in
      let here : level_of a.source ≡ level = ap level_of of_a ∙ is.own k later before in
      let pair : row_in r ≡ final_pair n arcs a.source =
      row_pair n root arcs sources k r is.sources_are below row ∙ ap (final_pair n arcs) (sym of_a) in
      let rows : distinct_rows sorted ≡ final_rows n arcs level = sym (rows_are rising) in
      let source : word 0 (record_at sources (word 2 r)) ≡ a.source =
      ap (λ p. word 0 (record_at sources p)) row.place_is ∙ sym of_a in
      (λ j. word_in level (rows j) (pair j))
      ∙ (λ j. word_in (sym here j) (final_rows n arcs (sym here j)) (final_pair n arcs a.source))
      ∙ sym ((finds_final n root arcs is.few is.complete).sources a in_arcs)
      ∙ ap (final_pointer n arcs) (sym source)

  -- so the sources say their final pointers, once the rows are named
  pub level_known : (new : List Rec) → KeepsSources sources new → Names (final_pointer n arcs) sorted sources new
      → AreKnown (final_pointer n arcs) from new
  level_known new same names k later below =
      elim (cases_lt k end) [
        | inl before ↦
            let (r, m, row) = source_row k later before in
            subst (IsKnown (final_pointer n arcs) new) row.place_is (names.own r m)
        | inr past ↦ names.keeps k (is.known k past (omega (arith, below, same.many)))
      ]
