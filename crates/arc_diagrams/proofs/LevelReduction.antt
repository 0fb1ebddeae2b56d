-- one level of the reduction, above levels whose final pointers are the pointers of what they stand for
use Rattle.std.specs.Prelude.{◌≡◌, ℕ, suc, ◌==◌, Bool, true, false, not, cond, List, [], ◌∷◌, map, filter}
use Rattle.std.proofs.Common.{refl, sym, ◌∙◌, ap, subst, inl, inr, true≢false, arith}
use Rattle.std.proofs.lemmas.Bool.Decides.{nat_tests}
use Rattle.bool_tables.specs.Tables.{low_half, high_half, same_bits}
use Rattle.canon_file.specs.declared.row.Row.{Row}
use Rattle.canon_file.specs.Members.{Has, SameMembers}
use Rattle.canon_file.specs.Pieces.{splits, halves}
use Rattle.canon_file.specs.Rows.{row_word, place_of, row_of, rows_with}
use Rattle.canon_file.specs.Pairs.{differs, word_in}
use Rattle.canon_file.specs.Walks.{is_at, table_of}
use Rattle.canon_file.proofs.MemberLaws.{either_bit, has_map, map_has, has_filter, filter_has}
use Rattle.canon_file.proofs.PieceLaws.{same_bits-self, same_from_bits, low-append, high-append, unsplit_same}
use Rattle.canon_file.proofs.RowLaws.{same_row, ascending_same}
use Rattle.arc_diagrams.specs.Arcs.{onward}
use Rattle.arc_diagrams.specs.Reduction.{pair_of, rows_of}
use Rattle.arc_diagrams.proofs.TableLaws.{table_parts, length-table_of}
use Rattle.arc_diagrams.proofs.MetLaws.{next, next_has}

-- the halves of what a pointer stands for are what is met next on either side
pub low-met : (targets : ℕ → Row) (h i w : ℕ) → low_half h (table_of targets (suc h) i w) ≡ table_of targets h (suc i) (onward targets i false w)
low-met targets h i w =
    let low = table_of targets h (suc i) (onward targets i false w) in
    let high = table_of targets h (suc i) (onward targets i true w) in
    ap (low_half h) (table_parts targets h i w) ∙ low-append h low high (length-table_of targets h (suc i) (onward targets i false w))

pub high-met : (targets : ℕ → Row) (h i w : ℕ) → high_half h (table_of targets (suc h) i w) ≡ table_of targets h (suc i) (onward targets i true w)
high-met targets h i w =
    let low = table_of targets h (suc i) (onward targets i false w) in
    let high = table_of targets h (suc i) (onward targets i true w) in
    ap (high_half h) (table_parts targets h i w) ∙ high-append h low high (length-table_of targets h (suc i) (onward targets i false w))

-- so the pieces of the next level are what is met there
pub halves-met : (targets : ℕ → Row) (h i : ℕ) (ws : List ℕ)
    → halves h (map (table_of targets (suc h) i) ws) ≡ map (table_of targets h (suc i)) (next targets i ws)
halves-met targets h i [] = refl
halves-met targets h i (w ∷ ws) = λ j. low-met targets h i w j ∷ high-met targets h i w j ∷ halves-met targets h i ws j

-- two halves differ where their two pointers do
differ_alike : (p q : List Bool) (r : Row) → (p ≡ q → r.low ≡ r.high) → (r.low ≡ r.high → p ≡ q) → not (same_bits p q) ≡ differs r
differ_alike p q r there back =
    elim (either_bit (r.low == r.high)) [
      | inl e ↦
          let words : r.low ≡ r.high = grind (arith, nat_tests) in
          let same : same_bits p q ≡ true = ap (same_bits p) (sym (back words)) ∙ same_bits-self p in
          ap not same ∙ ap not (sym e)
      | inr e ↦ elim (either_bit (same_bits p q)) [
        | inl same ↦
            let words : r.low ≡ r.high = there (same_from_bits p q same) in
            absurd (true≢false (sym (grind (arith, nat_tests)) ∙ e))
        | inr other ↦ ap not other ∙ ap not (sym e)
      ]
    ]

module _ (targets : ℕ → Row) (h i : ℕ) (ws sources : List ℕ) (f : ℕ → ℕ) (g : List Bool → ℕ)
    (tells : (w : ℕ) → Has w (next targets i ws) → f w ≡ g (table_of targets h (suc i) w))
    (apart : (v w : ℕ) → Has v (next targets i ws) → Has w (next targets i ws)
    → g (table_of targets h (suc i) v) ≡ g (table_of targets h (suc i) w) → table_of targets h (suc i) v ≡ table_of targets h (suc i) w)
    (same : SameMembers sources (filter (is_at i) ws)) where
  -- the row of what a pointer stands for
  row-met : (w : ℕ) → Has w ws
      → row_of g h (table_of targets (suc h) i w) ≡ (let r : Row = record { low = f (onward targets i false w); high = f (onward targets i true w) } in r)
  row-met w m =
      same_row _ _
      (ap g (low-met targets h i w) ∙ sym (tells (onward targets i false w) (next_has targets i w false ws m)))
      (ap g (high-met targets h i w) ∙ sym (tells (onward targets i true w) (next_has targets i w true ws m)))

  -- that of a node of the level is its pair
  pub pair-at : (w : ℕ) → Has w ws → is_at i w ≡ true → row_of g h (table_of targets (suc h) i w) ≡ pair_of targets f w
  pair-at w m e = row-met w m ∙ (λ j. let r : Row = record { low = f (cond (e j) (targets w).low w); high = f (cond (e j) (targets w).high w) } in r)

  -- what a node stands for splits exactly where its pair differs
  pub splits-at : (w : ℕ) → Has w ws → is_at i w ≡ true → splits h (table_of targets (suc h) i w) ≡ differs (pair_of targets f w)
  splits-at w m e =
      let p : List Bool = table_of targets (suc h) i w in
      differ_alike (low_half h p) (high_half h p) (row_of g h p) (ap g)
      (λ equal. low-met targets h i w
      ∙ apart (onward targets i false w) (onward targets i true w) (next_has targets i w false ws m) (next_has targets i w true ws m)
      (ap g (sym (low-met targets h i w)) ∙ equal ∙ ap g (high-met targets h i w))
      ∙ sym (high-met targets h i w))
      ∙ ap differs (pair-at w m e)

  -- what a deeper pointer stands for doesn't split
  past-halves : (w : ℕ) → is_at i w ≡ false → low_half h (table_of targets (suc h) i w) ≡ table_of targets h (suc i) w
  past-halves w e = low-met targets h i w ∙ (λ j. table_of targets h (suc i) (cond (e j) (targets w).low w))

  unsplit-past : (w : ℕ) → is_at i w ≡ false → splits h (table_of targets (suc h) i w) ≡ false
  unsplit-past w e =
      unsplit_same h (table_of targets (suc h) i w)
      (past-halves w e ∙ sym (high-met targets h i w ∙ (λ j. table_of targets h (suc i) (cond (e j) (targets w).high w))))

  -- the rows of the level's sources are the rows of the pieces
  pub rows-at : rows_of targets f sources ≡ rows_with g h (map (table_of targets (suc h) i) ws)
  rows-at =
      let ps : List (List Bool) = map (table_of targets (suc h) i) ws in
      ascending_same (filter differs (map (pair_of targets f) sources)) (map (row_of g h) (filter (splits h) ps)) (record {
        there = λ r k.
            let (m, e) = filter_has differs r (map (pair_of targets f) sources) k in
            let (s, member, pair) = map_has (pair_of targets f) r sources m in
            let (met, here) = filter_has (is_at i) s ws (same.there s member) in
            let split : splits h (table_of targets (suc h) i s) ≡ true = splits-at s met here ∙ ap differs pair ∙ e in
            subst (λ z. Has z (map (row_of g h) (filter (splits h) ps))) (pair-at s met here ∙ pair)
            (has_map (row_of g h) (table_of targets (suc h) i s) (filter (splits h) ps)
            (has_filter (splits h) (table_of targets (suc h) i s) ps (has_map (table_of targets (suc h) i) s ws met) split));
        back = λ r k.
            let (p, m, row) = map_has (row_of g h) r (filter (splits h) ps) k in
            let (member, split) = filter_has (splits h) p ps m in
            let (w, met, is_table) = map_has (table_of targets (suc h) i) p ws member in
            elim (either_bit (is_at i w)) [
              | inl here ↦
                  let pair : pair_of targets f w ≡ r = sym (pair-at w met here) ∙ ap (row_of g h) is_table ∙ row in
                  let e : differs r ≡ true = ap differs (sym pair) ∙ sym (splits-at w met here) ∙ ap (splits h) is_table ∙ split in
                  has_filter differs r (map (pair_of targets f) sources)
                  (subst (λ z. Has z (map (pair_of targets f) sources)) pair
                  (has_map (pair_of targets f) w sources (same.back w (has_filter (is_at i) w ws met here)))) e
              | inr past ↦ absurd (true≢false (sym split ∙ ap (splits h) (sym is_table) ∙ unsplit-past w past))
            ];
      })

  -- the final pointer of what is met is the pointer of what it stands for
  pub words-at : (w : ℕ) → Has w ws
      → cond (is_at i w) (word_in i (rows_of targets f sources) (pair_of targets f w)) (f w)
      ≡ cond (splits h (table_of targets (suc h) i w))
      (row_word i (place_of (row_of g h (table_of targets (suc h) i w)) (rows_with g h (map (table_of targets (suc h) i) ws))))
      (g (low_half h (table_of targets (suc h) i w)))
  words-at w m =
      let p : List Bool = table_of targets (suc h) i w in
      let ps : List (List Bool) = map (table_of targets (suc h) i) ws in
      elim (either_bit (is_at i w)) [
        | inl here ↦
            ap (λ b. cond b (word_in i (rows_of targets f sources) (pair_of targets f w)) (f w)) here
            ∙ (λ j. word_in i (rows-at j) (sym (pair-at w m here) j))
            ∙ (λ j. cond ((ap differs (pair-at w m here) ∙ sym (splits-at w m here)) j) (row_word i (place_of (row_of g h p) (rows_with g h ps))) (g (low_half h p)))
        | inr past ↦
            ap (λ b. cond b (word_in i (rows_of targets f sources) (pair_of targets f w)) (f w)) past
            ∙ ap f (λ j. cond (sym past j) (targets w).low w)
            ∙ tells (onward targets i false w) (next_has targets i w false ws m)
            ∙ ap g (sym (low-met targets h i w))
            ∙ (λ j. cond (sym (unsplit-past w past) j) (row_word i (place_of (row_of g h p) (rows_with g h ps))) (g (low_half h p)))
      ]
