-- What the pointers of a table's pieces are, and where they lead in its canonical diagram.
use Rattle.std.specs.Prelude.{◌≡◌, ℕ, zero, suc, ◌+◌, ◌≤◌, Bool, true, false, cond, List, [], ◌∷◌, get_or}
use Rattle.std.proofs.Common.{refl, ◌∙◌, ap, subst, inl, inr, arith}
use Rattle.std.proofs.lemmas.Bool.{cases_Bool}
use Rattle.std.proofs.lemmas.List.{append-nil}
use Rattle.bool_tables.specs.Tables.{low_half, half_where}
use Rattle.rec_words.specs.Words.{level_of}
use Rattle.list_laws.specs.Members.{Has}
use Rattle.canon_file.specs.declared.row.Row.{Row}
use Rattle.canon_file.specs.Pieces.{splits, halves, pieces}
use Rattle.canon_file.specs.Rows.{row_word, place_of, row_of, rows_with, pointer, levels}
use Rattle.canon_file.specs.Canon.{canon_nodes, canon_root}
use Rattle.canon_file.specs.Laws.{HasForm}
use Rattle.canon_file.specs.Walks.{nowhere, row_at, Agrees}
use Rattle.canon_file.proofs.PieceLaws.{has_low, has_high, unsplit}
use Rattle.canon_file.proofs.RowLaws.{has_row, pointer-split, pointer-unsplit}
use Rattle.canon_file.proofs.StandLaws.{at_level, placed, agrees}
use Rattle.canon_file.proofs.WalkLaws.{below-half}
use Rattle.arc_diagrams.specs.Arcs.{onward}
use Rattle.top_down.specs.Tuples.{IsFrom}
use Rattle.top_down.proofs.TupleLaws.{from_terminal, onward-past}

-- the pointer of a piece of level i, where h levels follow
abbrev pub piece_pointer : List Bool → ℕ → ℕ → List Bool → ℕ
piece_pointer t i h p = pointer h i (pieces i h t) p

-- a pointer of level i is a truth value or a node of that level or a deeper one
pub pointer_from : (n h i : ℕ) (ps : List (List Bool)) (p : List Bool) → i + h ≡ n → n ≤ 65535
    → IsFrom n i (pointer h i ps p)
pointer_from n zero i ps p end top = from_terminal n i (get_or p 0 false) (omega arith) top
pointer_from n (suc h) i ps p end top =
    let f : List Bool → ℕ = pointer h (suc i) (halves h ps) in
    let deeper : IsFrom n (suc i) (f (low_half h p)) =
    pointer_from n h (suc i) (halves h ps) (low_half h p) (omega arith) top in
    by (splits h p) (place_of (row_of f h p) (rows_with f h ps)) (f (low_half h p)) deeper
  where
    by : (b : Bool) (k w : ℕ) → IsFrom n (suc i) w → IsFrom n i (cond b (row_word i k) w)
    by true k w deeper = record { deep = omega arith; within = inl (omega arith) }
    by false k w deeper = record { deep = omega (arith, deeper.deep); within = deeper.within }

-- where the pointer is of its piece's own level, the piece splits
pub pointer_splits : (n h i : ℕ) (ps : List (List Bool)) (p : List Bool) → i + suc h ≡ n → n ≤ 65535
    → level_of (pointer (suc h) i ps p) ≡ i → splits h p ≡ true
pointer_splits n h i ps p end top here =
    elim (cases_Bool (splits h p)) [
      | inl split ↦ split
      | inr unsplit ↦
          let deep : suc i ≤ level_of (pointer h (suc i) (halves h ps) (low_half h p)) =
          (pointer_from n h (suc i) (halves h ps) (low_half h p) (omega arith) top).deep in
          let same : level_of (pointer (suc h) i ps p) ≡ level_of (pointer h (suc i) (halves h ps) (low_half h p)) =
          ap level_of (pointer-unsplit h i ps p unsplit) in
          absurd (omega (arith, deep, same, here))
    ]

-- a piece that doesn't split has the same half on each side
same_half : (h : ℕ) (side : Bool) (p : List Bool) → splits h p ≡ false → low_half h p ≡ half_where h side p
same_half h true p e = unsplit h p e
same_half h false p e = refl

-- where the nodes are the rows of the level and of each deeper one, the pointer of a piece leads to that of its half
pointer_onward : (targets : ℕ → Row) (n h i : ℕ) (side : Bool) (ps : List (List Bool)) (p : List Bool)
    → i + suc h ≡ n → n ≤ 65535 → Agrees targets i (levels (suc h) i ps) → Has p ps
    → onward targets i side (pointer (suc h) i ps p) ≡ pointer h (suc i) (halves h ps) (half_where h side p)
pointer_onward targets n h i side ps p end top agree member =
    let f : List Bool → ℕ = pointer h (suc i) (halves h ps) in
    elim (cases_Bool (splits h p)) [
      | inl split ↦
          let r : Row = row_of f h p in
          let k : ℕ = place_of r (rows_with f h ps) in
          let at = placed r (rows_with f h ps) nowhere (has_row f h p ps member split) in
          let row : targets (row_word i k) ≡ r = agree.0 k at.0 ∙ at.1 in
          ap (onward targets i side) (pointer-split h i ps p split)
          ∙ (λ j. cond (at_level i k j) (cond side (row j).high (row j).low) (row_word i k)) ∙ below-half f h side p
      | inr same ↦
          let deep : suc i ≤ level_of (f (low_half h p)) =
          (pointer_from n h (suc i) (halves h ps) (low_half h p) (omega arith) top).deep in
          ap (onward targets i side) (pointer-unsplit h i ps p same)
          ∙ onward-past targets i (f (low_half h p)) side deep ∙ ap f (same_half h side p same)
    ]

-- a half of a piece is a piece of the next level
pub half_piece : (t : List Bool) (i h : ℕ) (side : Bool) (p : List Bool) → Has p (pieces i (suc h) t)
    → Has (half_where h side p) (pieces (suc i) h t)
half_piece t i h true p m = has_high h p (pieces i (suc h) t) m
half_piece t i h false p m = has_low h p (pieces i (suc h) t) m

module _ (n : ℕ) (t : List Bool) (form : HasForm n t) where
  -- the table is the piece of level 0
  pub whole_piece : Has t (pieces 0 n t)
  whole_piece = inl refl

  -- and its pointer is the root
  pub root_pointer : piece_pointer t 0 n t ≡ canon_root n t
  unfolding canon_root
  root_pointer = refl

  -- the nodes of each level have the rows of its pieces
  nodes_agree : (i h : ℕ) → i + h ≡ n → Agrees (row_at (canon_nodes n t)) i (levels h i (pieces i h t))
  unfolding canon_nodes
  nodes_agree zero h end =
      let all : Agrees (row_at (canon_nodes n t)) 0 (levels n 0 (t ∷ [])) =
      subst (λ ns. Agrees (row_at ns) 0 (levels n 0 (t ∷ []))) (append-nil (canon_nodes n t))
      (agrees 0 (levels n 0 (t ∷ [])) [] form.fits) in
      let same : n ≡ h = omega arith in
      subst (λ k. Agrees (row_at (canon_nodes n t)) 0 (levels k 0 (t ∷ []))) same all
  nodes_agree (suc i) h end = (nodes_agree i (suc h) (omega arith)).1

  -- a pointer of level i is a truth value or a node of that level or a deeper one
  pub piece_from : (i h : ℕ) (p : List Bool) → i + h ≡ n → IsFrom n i (piece_pointer t i h p)
  piece_from i h p end = pointer_from n h i (pieces i h t) p end form.few

  -- where the pointer of a piece is of the piece's own level, the piece splits
  pub piece_splits : (i h : ℕ) (p : List Bool) → i + suc h ≡ n → level_of (piece_pointer t i (suc h) p) ≡ i
      → splits h p ≡ true
  piece_splits i h p end here = pointer_splits n h i (pieces i (suc h) t) p end form.few here

  -- from level i the pointer of a piece leads to that of its half
  pub piece_onward : (i h : ℕ) (side : Bool) (p : List Bool) → i + suc h ≡ n → Has p (pieces i (suc h) t)
      → onward (row_at (canon_nodes n t)) i side (piece_pointer t i (suc h) p)
      ≡ piece_pointer t (suc i) h (half_where h side p)
  piece_onward i h side p end member =
      pointer_onward (row_at (canon_nodes n t)) n h i side (pieces i (suc h) t) p end form.few
      (nodes_agree i (suc h) end) member
