-- walks through the canonical nodes
use Rattle.std.specs.Prelude.{◌≡◌, ℕ, zero, suc, ◌+◌, ◌^◌, ◌<◌, ◌≤◌, Bool, true, false, cond, List, [], ◌∷◌, ◌++◌, length, get_or}
use Rattle.std.proofs.Common.{refl, sym, ◌∙◌, ap, subst, inl, inr, arith}
use Rattle.std.proofs.lemmas.List.{append-nil, get_or-take, get_or-drop}
use Rattle.bool_tables.specs.Tables.{low_half, high_half, half_where, value_at, place_of_bits}
use Rattle.bool_tables.proofs.Halves.{twice}
use Rattle.rec_words.specs.Words.{terminal}
use Rattle.canon_file.specs.declared.row.Row.{Row}
use Rattle.list_laws.specs.Members.{Has}
use Rattle.canon_file.specs.Pieces.{splits, halves}
use Rattle.canon_file.specs.Rows.{row_word, place_of, row_of, rows_with, pointer, levels, Fits}
use Rattle.canon_file.specs.Canon.{canon_nodes, canon_root}
use Rattle.canon_file.specs.Walks.{is_at, walk, table_of, nowhere, row_at, Agrees}
use Rattle.std.proofs.lemmas.Bool.{cases_Bool}
use Rattle.bool_tables.proofs.StepHalves.{length-half}
use Rattle.canon_file.proofs.PieceLaws.{unsplit, has_low, has_high}
use Rattle.canon_file.proofs.RowLaws.{has_row, pointer-unsplit, pointer-split}
use Rattle.canon_file.proofs.StandLaws.{at_level, deeper_at, pointer_deep, placed, agrees}

-- the digits spell a place of the table
pub place_below : (bits : List Bool) → place_of_bits bits < 2 ^ length bits
place_below [] = omega arith
place_below (true ∷ bits) = omega (arith, place_below bits, twice (length bits))
place_below (false ∷ bits) = omega (arith, place_below bits, twice (length bits))

-- the value at a place is that of the half that its first digit chooses
value-half : (t bits : List Bool) (b : Bool)
    → value_at (half_where (length bits) b t) (place_of_bits bits) ≡ value_at t (place_of_bits (b ∷ bits))
value-half t bits true = get_or-drop (2 ^ length bits) t (place_of_bits bits) false
value-half t bits false =
    let same : place_of_bits bits ≡ 0 + place_of_bits bits = omega arith in
    get_or-take (2 ^ length bits) t (place_of_bits bits) false (place_below bits) ∙ ap (λ k. get_or t k false) same

-- what a digit chooses of the two halves' is that of the half that it chooses
pub below-half : (f : List Bool → ℕ) (h : ℕ) (b : Bool) (p : List Bool) → cond b (f (high_half h p)) (f (low_half h p)) ≡ f (half_where h b p)
below-half f h true p = refl
below-half f h false p = refl

same_half : (h : ℕ) (b : Bool) (p : List Bool) → low_half h p ≡ high_half h p → low_half h p ≡ half_where h b p
same_half h true p e = e
same_half h false p e = refl

half_has : (h : ℕ) (b : Bool) (p : List Bool) (ps : List (List Bool)) → Has p ps → Has (half_where h b p) (halves h ps)
half_has h true p ps m = has_high h p ps m
half_has h false p ps m = has_low h p ps m

-- the table of a pointer, by whether it is of the level
abbrev pub parts_by : (ℕ → Row) → ℕ → ℕ → ℕ → Bool → List Bool
parts_by arcs h i w b = cond b
    (table_of arcs h (suc i) (arcs w).low ++ table_of arcs h (suc i) (arcs w).high)
    (table_of arcs h (suc i) w ++ table_of arcs h (suc i) w)

-- where a walk goes from w on level i
abbrev pub onward : (ℕ → Row) → ℕ → Bool → ℕ → ℕ
onward arcs i b w = cond (is_at i w) (cond b (arcs w).high (arcs w).low) w

-- from the pointer of a piece it goes to the pointer of the half that the digit chooses
onward-pointer : (arcs : ℕ → Row) (h i : ℕ) (b : Bool) (ps : List (List Bool)) (p : List Bool) → i + suc h ≤ 65535
    → Agrees arcs i (levels (suc h) i ps) → Has p ps → onward arcs i b (pointer (suc h) i ps p) ≡ pointer h (suc i) (halves h ps) (half_where h b p)
onward-pointer arcs h i b ps p l a m =
    let below : List Bool → ℕ = pointer h (suc i) (halves h ps) in
    elim (cases_Bool (splits h p)) [
      | inl e ↦
          let r : Row = row_of below h p in
          let w : ℕ = row_word i (place_of r (rows_with below h ps)) in
          let at = placed r (rows_with below h ps) nowhere (has_row below h p ps m e) in
          let here : arcs w ≡ r = a.0 _ at.0 ∙ at.1 in
          ap (onward arcs i b) (pointer-split h i ps p e)
          ∙ (λ j. cond (at_level i (place_of r (rows_with below h ps)) j) (cond b (here j).high (here j).low) w)
          ∙ below-half below h b p
      | inr e ↦
          let w : ℕ = below (low_half h p) in
          let deep : is_at i w ≡ false = deeper_at i w (pointer_deep h (suc i) (halves h ps) (low_half h p) (omega arith)) in
          ap (onward arcs i b) (pointer-unsplit h i ps p e)
          ∙ (λ j. cond (deep j) (cond b (arcs w).high (arcs w).low) w)
          ∙ ap below (same_half h b p (unsplit h p e))
    ]

-- the walk from a piece's pointer ends at the value that the piece has at the place of the digits
pub pointer_walks : (arcs : ℕ → Row) (h i : ℕ) (ps : List (List Bool)) (p bits : List Bool) → i + h ≤ 65535
    → Agrees arcs i (levels h i ps) → Fits (levels h i ps) → Has p ps → length p ≡ 2 ^ h → length bits ≡ h
    → walk arcs i bits (pointer h i ps p) ≡ terminal (value_at p (place_of_bits bits))
pointer_walks arcs zero i ps p [] l a f m n k = refl
pointer_walks arcs zero i ps p (b ∷ bits) l a f m n k = absurd (omega arith)
pointer_walks arcs (suc h) i ps p [] l a f m n k = absurd (omega arith)
pointer_walks arcs (suc h) i ps p (b ∷ bits) l a f m n k =
    let long : h ≡ length bits = omega arith in
    ap (walk arcs (suc i) bits) (onward-pointer arcs h i b ps p l a m)
    ∙ pointer_walks arcs h (suc i) (halves h ps) (half_where h b p) bits (omega arith) a.1 f.1 (half_has h b p ps m) (length-half h b p n) (sym long)
    ∙ (λ j. terminal (value_at (half_where (long j) b p) (place_of_bits bits)))
    ∙ ap terminal (value-half p bits b)

-- a walk through the canonical nodes ends at the table's value
pub nodes_walk : (n : ℕ) (t bits : List Bool) → n ≤ 65535 → length t ≡ 2 ^ n → Fits (levels n 0 (t ∷ [])) → length bits ≡ n
    → walk (row_at (canon_nodes n t)) 0 bits (canon_root n t) ≡ terminal (value_at t (place_of_bits bits))
unfolding canon_nodes canon_root
nodes_walk n t bits few long fits digits =
    let agree : Agrees (row_at (canon_nodes n t)) 0 (levels n 0 (t ∷ [])) =
    subst (λ ns. Agrees (row_at ns) 0 (levels n 0 (t ∷ []))) (append-nil (canon_nodes n t)) (agrees 0 (levels n 0 (t ∷ [])) [] fits) in
    pointer_walks (row_at (canon_nodes n t)) n 0 (t ∷ []) t bits (omega arith) agree fits (inl refl) long digits
