-- the arcs of the canonical nodes
use Rattle.std.specs.Prelude.{◌≡◌, ◌⊎◌, ℕ, zero, suc, ◌+◌, ◌^◌, ◌<◌, ◌≤◌, ◌==◌, ◌&&◌, Bool, true, false, cond, List, [], ◌∷◌, ◌++◌, length, get_or}
use Rattle.std.proofs.Common.{refl, sym, ◌∙◌, ap, subst, inl, inr, arith}
use Rattle.std.proofs.lemmas.List.{length-replicate, get_or-replicate}
use Rattle.bool_tables.specs.Tables.{low_half, high_half, place_of_bits}
use Rattle.rec_words.specs.Words.{terminal, level_of, IsTerminal}
use Rattle.rec_words.specs.declared.node.Node.{Node}
use Rattle.canon_file.specs.declared.row.Row.{Row}
use Rattle.canon_file.specs.Members.{Has, IsAscending}
use Rattle.canon_file.specs.Pieces.{splits, halves}
use Rattle.canon_file.specs.Rows.{row_before, row_word, place_of, row_of, rows_with, pointer, levels}
use Rattle.canon_file.specs.Canon.{numbered, nodes_of, canon_nodes, canon_root}
use Rattle.canon_file.specs.Laws.{HasForm}
use Rattle.canon_file.specs.NodeFiles.{IsDescending}
use Rattle.canon_file.specs.Walks.{is_at, walk, row_at}
use Rattle.canon_file.proofs.MemberLaws.{either_bit}
use Rattle.canon_file.proofs.PieceLaws.{unsplit, half_has, has_low, has_high}
use Rattle.canon_file.proofs.RowLaws.{has_row, row_has, pointer-split, pointer-unsplit, are_rows}
use Rattle.canon_file.proofs.StandLaws.{has_append}
use Rattle.canon_file.proofs.FileLaws.{is_node_file, terminal_ends}
use Rattle.canon_file.proofs.WalkLaws.{place_below, nodes_walk}
use Rattle.arc_file.specs.declared.arc.Arc.{Arc}
use Rattle.arc_diagrams.specs.Arcs.{targets_of, target_on, IsWithin, IsMet, IsComplete, StandFor, arcs_of}
use Rattle.arc_diagrams.specs.Laws.{CanonIsDiagram, ConstantIsDiagram}
use Rattle.arc_diagrams.proofs.WordLaws.{past_from, level-terminal}
use Rattle.arc_diagrams.proofs.RowPlaces.{has_left, has_right, numbered_has, numbered_row, place_at}

-- what two arcs of a node say of it, where b tells whether it is the one asked for
abbrev row_with : Node → List Arc → ℕ → Bool → Row
row_with x arcs w b = record {
  low = cond (b && true) x.low (cond (b && false) x.high (target_on arcs w false));
  high = cond (b && false) x.low (cond (b && true) x.high (target_on arcs w true));
}

row_with-is : (x : Node) (xs : List Node) (w : ℕ) (b : Bool) → targets_of (arcs_of xs) w ≡ row_at xs w
    → row_with x (arcs_of xs) w b ≡ cond b (record { low = x.low; high = x.high }) (row_at xs w)
row_with-is x xs w true rest = refl
row_with-is x xs w false rest = rest

-- the targets of a node are its two pointers
pub targets-arcs_of : (xs : List Node) (w : ℕ) → targets_of (arcs_of xs) w ≡ row_at xs w
targets-arcs_of [] w = refl
targets-arcs_of (x ∷ xs) w = row_with-is x xs w (x.uid == w) (targets-arcs_of xs w)

-- the arc of a node on a side
abbrev pub arc_to : Node → Bool → Arc
arc_to x side = record { source = x.uid; high = side; target = cond side x.high x.low }

pub has_arc_to : (x : Node) (side : Bool) (xs : List Node) → Has x xs → Has (arc_to x side) (arcs_of xs)
has_arc_to x side [] m = absurd m
has_arc_to x true (y ∷ xs) (inl e) = inr (inl (ap (λ z. arc_to z true) e))
has_arc_to x false (y ∷ xs) (inl e) = inl (ap (λ z. arc_to z false) e)
has_arc_to x side (y ∷ xs) (inr m) = inr (inr (has_arc_to x side xs m))

arc_to_has : (a : Arc) (xs : List Node) → Has a (arcs_of xs) → (x : Node) × (side : Bool) × Has x xs × (arc_to x side ≡ a)
arc_to_has a [] m = absurd m
arc_to_has a (x ∷ xs) (inl e) = (x, false, inl refl, e)
arc_to_has a (x ∷ xs) (inr (inl e)) = (x, true, inl refl, e)
arc_to_has a (x ∷ xs) (inr (inr m)) = let (y, side, k, e) = arc_to_has a xs m in (y, side, inr k, e)

-- a piece's pointer is a truth value or a node of a level below the number of variables
pointer_within : (h i : ℕ) (ps : List (List Bool)) (p : List Bool) → IsWithin (i + h) (pointer h i ps p)
pointer_within zero i ps p = inr (terminal_ends (get_or p 0 false))
pointer_within (suc h) i ps p =
    let same : suc i + h ≡ i + suc h = omega arith in
    elim (either_bit (splits h p)) [
      | inl e ↦
          let k : ℕ = place_of (row_of (pointer h (suc i) (halves h ps)) h p) (rows_with (pointer h (suc i) (halves h ps)) h ps) in
          let below : level_of (row_word i k) < i + suc h = omega arith in
          subst (IsWithin (i + suc h)) (sym (pointer-split h i ps p e)) (inl below)
      | inr e ↦
          subst (IsWithin (i + suc h)) (sym (pointer-unsplit h i ps p e))
          (subst (λ n. IsWithin n (pointer h (suc i) (halves h ps) (low_half h p))) same (pointer_within h (suc i) (halves h ps) (low_half h p)))
    ]

-- the pointer is a truth value or that of one of the nodes
abbrev IsOf : List Node → ℕ → Type 0
IsOf xs w = IsTerminal w ⊎ ((x : Node) × Has x xs × (x.uid ≡ w))

of_more : (xs ys : List Node) (w : ℕ) → IsOf xs w → IsOf (xs ++ ys) w
of_more xs ys w (inl end) = inl end
of_more xs ys w (inr (x, m, e)) = inr (x, has_left x xs ys m, e)

-- so is that of a piece
pointer_of : (h i : ℕ) (ps : List (List Bool)) (p : List Bool) → Has p ps → IsOf (nodes_of i (levels h i ps)) (pointer h i ps p)
pointer_of zero i ps p m = inl (terminal_ends (get_or p 0 false))
pointer_of (suc h) i ps p m =
    let f : List Bool → ℕ = pointer h (suc i) (halves h ps) in
    let deeper : List Node = nodes_of (suc i) (levels h (suc i) (halves h ps)) in
    let here : List Node = numbered i 0 (rows_with f h ps) in
    elim (either_bit (splits h p)) [
      | inl e ↦
          let (x, k, uid, low, high) = numbered_has i 0 (row_of f h p) (rows_with f h ps) (has_row f h p ps m e) in
          inr (x, has_right x deeper here k, uid ∙ ap (row_word i) (omega arith) ∙ sym (pointer-split h i ps p e))
      | inr e ↦
          subst (IsOf (deeper ++ here)) (sym (pointer-unsplit h i ps p e))
          (of_more deeper here (f (low_half h p)) (pointer_of h (suc i) (halves h ps) (low_half h p) (has_low h p ps m)))
    ]

-- and each pointer of a node
node_of : (h i : ℕ) (ps : List (List Bool)) (x : Node) → Has x (nodes_of i (levels h i ps))
    → IsOf (nodes_of i (levels h i ps)) x.low × IsOf (nodes_of i (levels h i ps)) x.high
node_of zero i ps x m = absurd m
node_of (suc h) i ps x m =
    let f : List Bool → ℕ = pointer h (suc i) (halves h ps) in
    let deeper : List Node = nodes_of (suc i) (levels h (suc i) (halves h ps)) in
    let here : List Node = numbered i 0 (rows_with f h ps) in
    elim (has_append x deeper here m) [
      | inl k ↦
          let (low, high) = node_of h (suc i) (halves h ps) x k in
          (of_more deeper here x.low low, of_more deeper here x.high high)
      | inr k ↦
          let (r, front, rest, row, uid, low, high) = numbered_row i 0 (rows_with f h ps) x k in
          let (p, piece, split, e) = row_has f h r ps (subst (Has r) (sym row) (has_right r front (r ∷ rest) (inl refl))) in (
            subst (IsOf (deeper ++ here)) (ap (λ (s : Row). s.low) e ∙ sym low)
                (of_more deeper here (f (low_half h p)) (pointer_of h (suc i) (halves h ps) (low_half h p) (has_low h p ps piece))),
            subst (IsOf (deeper ++ here)) (ap (λ (s : Row). s.high) e ∙ sym high)
                (of_more deeper here (f (high_half h p)) (pointer_of h (suc i) (halves h ps) (high_half h p) (has_high h p ps piece))),
          )
    ]

-- what is met: the pointers of the first pieces, and each pointer of a node
uid_met : (IsSeen : ℕ → Type 0) (h i : ℕ) (ps : List (List Bool)) → ((p : List Bool) → Has p ps → IsSeen (pointer h i ps p))
    → ((x : Node) → Has x (nodes_of i (levels h i ps)) → IsSeen x.low × IsSeen x.high)
    → (x : Node) → Has x (nodes_of i (levels h i ps)) → IsSeen x.uid
uid_met IsSeen zero i ps begins goes_on x m = absurd m
uid_met IsSeen (suc h) i ps begins goes_on x m =
    let f : List Bool → ℕ = pointer h (suc i) (halves h ps) in
    let deeper : List Node = nodes_of (suc i) (levels h (suc i) (halves h ps)) in
    let here : List Node = numbered i 0 (rows_with f h ps) in
    elim (has_append x deeper here m) [
      | inl k ↦
          uid_met IsSeen h (suc i) (halves h ps) (λ q n.
          let (p, piece, half) = half_has h q ps n in
          elim (either_bit (splits h p)) [
            | inl e ↦
                let (y, l, uid, low, high) = numbered_has i 0 (row_of f h p) (rows_with f h ps) (has_row f h p ps piece e) in
                let seen = goes_on y (has_right y deeper here l) in
                elim half [
                  | inl first ↦ subst IsSeen (low ∙ ap f first) seen.0
                  | inr second ↦ subst IsSeen (high ∙ ap f second) seen.1
                ]
            | inr e ↦
                let seen : IsSeen (f (low_half h p)) = subst IsSeen (pointer-unsplit h i ps p e) (begins p piece) in
                elim half [
                  | inl first ↦ subst IsSeen (ap f first) seen
                  | inr second ↦ subst IsSeen (ap f (unsplit h p e ∙ second)) seen
                ]
          ])
          (λ y l. goes_on y (has_left y deeper here l)) x k
      | inr k ↦
          let (r, front, rest, row, uid, low, high) = numbered_row i 0 (rows_with f h ps) x k in
          let (p, piece, split, e) = row_has f h r ps (subst (Has r) (sym row) (has_right r front (r ∷ rest) (inl refl))) in
          let ascends : IsAscending row_before (front ++ r ∷ rest) = subst (IsAscending row_before) row (are_rows f h ps).ascend in
          let place : place_of (row_of f h p) (rows_with f h ps) ≡ 0 + length front =
          (λ j. place_of (e j) (row j)) ∙ place_at front r rest ascends ∙ omega arith in
          subst IsSeen (pointer-split h i ps p split ∙ ap (row_word i) place ∙ sym uid) (begins p piece)
    ]

-- nodes that descend are told apart by their identifiers
same_node : (xs : List Node) (x y : Node) → IsDescending xs → Has x xs → Has y xs → x.uid ≡ y.uid → x ≡ y
same_node [] x y d m k e = absurd m
same_node (z ∷ xs) x y d (inl a) (inl b) e = sym a ∙ b
same_node (z ∷ xs) x y d (inl a) (inr k) e = absurd (omega (arith, d.0 y k, ap (λ (v : Node). v.uid) a))
same_node (z ∷ xs) x y d (inr m) (inl b) e = absurd (omega (arith, d.0 x m, ap (λ (v : Node). v.uid) b))
same_node (z ∷ xs) x y d (inr m) (inr k) e = same_node xs x y d.1 m k e

-- the arcs to a pointer and to the nodes
of_source : (n : ℕ) (xs : List Node) (w : ℕ) (side : Bool) → level_of w < n → n ≤ 65535 → IsOf xs w
    → (a : Arc) × Has a (arcs_of xs) × (a.source ≡ w) × (a.high ≡ side)
of_source n xs w side below few (inl end) = absurd (omega (arith, level-terminal w end))
of_source n xs w side below few (inr (x, m, e)) = (arc_to x side, has_arc_to x side xs m, e, refl)

-- what is said of both sides is said of either
pub side_of : (P : ℕ → Type 0) (x : Node) (side : Bool) → P x.low → P x.high → P (cond side x.high x.low)
side_of P x true low high = high
side_of P x false low high = low

module _ (n : ℕ) (t : List Bool) (form : HasForm n t) where
  -- a pointer of the diagram is a truth value or a node of a level below n
  of_within : (w : ℕ) → IsOf (canon_nodes n t) w → IsWithin n w
  of_within w (inl end) = inr end
  of_within w (inr (x, m, e)) =
      let file = is_node_file n t form.few form.whole form.fits in
      inl (omega (arith, (file.proper x m).level, ap level_of e))

  root_of : IsOf (canon_nodes n t) (canon_root n t)
  unfolding canon_nodes canon_root
  root_of = pointer_of n 0 (t ∷ []) t (inl refl)

  both_of : (x : Node) → Has x (canon_nodes n t) → IsOf (canon_nodes n t) x.low × IsOf (canon_nodes n t) x.high
  unfolding canon_nodes
  both_of = node_of n 0 (t ∷ [])

  met_of : (w : ℕ) → IsMet (canon_root n t) (arcs_of (canon_nodes n t)) w → IsOf (canon_nodes n t) w
  met_of w (inl first) = subst (IsOf (canon_nodes n t)) first root_of
  met_of w (inr (a, m, e)) =
      let (x, side, k, same) = arc_to_has a (canon_nodes n t) m in
      let (low, high) = both_of x k in
      subst (IsOf (canon_nodes n t)) (ap (λ (b : Arc). b.target) same ∙ e) (side_of (IsOf (canon_nodes n t)) x side low high)

  source_met : (x : Node) → Has x (canon_nodes n t) → IsMet (canon_root n t) (arcs_of (canon_nodes n t)) x.uid
  unfolding canon_nodes canon_root
  source_met = uid_met (IsMet (canon_root n t) (arcs_of (canon_nodes n t))) n 0 (t ∷ [])
      (λ p m. elim m [ inl e ↦ inl (ap (pointer n 0 (t ∷ [])) e) | inr k ↦ absurd k ])
      (λ x m. (inr (arc_to x false, has_arc_to x false (canon_nodes n t) m, refl), inr (arc_to x true, has_arc_to x true (canon_nodes n t) m, refl)))

  -- the arcs of the canonical nodes are a complete set
  pub canon_complete : IsComplete n (canon_root n t) (arcs_of (canon_nodes n t))
  canon_complete =
      let xs : List Node = canon_nodes n t in
      let file = is_node_file n t form.few form.whole form.fits in
      record {
        begins = of_within (canon_root n t) root_of;
        within = λ a m.
            let (x, side, k, same) = arc_to_has a xs m in
            let (low, high) = both_of x k in
            subst (IsWithin n) (ap (λ (b : Arc). b.target) same) (side_of (IsWithin n) x side (of_within x.low low) (of_within x.high high));
        deeper = λ a m.
            let (x, side, k, same) = arc_to_has a xs m in
            let proper = file.proper x k in
            subst (λ (b : Arc). level_of b.source < level_of b.target) same (side_of (λ w. level_of x.uid < level_of w) x side proper.low proper.high);
        both = λ w seen below side. of_source n xs w side below form.few (met_of w seen);
        once = λ a b m k source high.
            let (x, side, in_x, is_x) = arc_to_has a xs m in
            let (y, other, in_y, is_y) = arc_to_has b xs k in
            let node : x ≡ y = same_node xs x y file.descend in_x in_y (ap (λ (c : Arc). c.source) is_x ∙ source ∙ sym (ap (λ (c : Arc). c.source) is_y)) in
            let sides : side ≡ other = ap (λ (c : Arc). c.high) is_x ∙ high ∙ sym (ap (λ (c : Arc). c.high) is_y) in
            sym (ap (λ (c : Arc). c.target) is_x) ∙ (λ j. (arc_to (node j) (sides j)).target) ∙ ap (λ (c : Arc). c.target) is_y;
        met = λ a m.
            let (x, side, k, same) = arc_to_has a xs m in
            subst (IsMet (canon_root n t) (arcs_of xs)) (ap (λ (b : Arc). b.source) same) (source_met x k);
      }

  -- and stand for the table
  pub canon_stands : StandFor n (canon_root n t) (arcs_of (canon_nodes n t)) t
  canon_stands = record {
    whole = form.whole;
    walks = λ bits k.
        (λ j. walk (λ w. targets-arcs_of (canon_nodes n t) w j) 0 bits (canon_root n t))
        ∙ nodes_walk n t bits form.few form.whole form.fits k;
  }

pub canon_is_diagram : (n : ℕ) → CanonIsDiagram n
canon_is_diagram n t form = record { complete = canon_complete n t form; stands = canon_stands n t form }

-- a walk from a truth value stays there
walk-terminal : (targets : ℕ → Row) (bits : List Bool) (i : ℕ) (b : Bool) → i + length bits ≤ 65536 → walk targets i bits (terminal b) ≡ terminal b
walk-terminal targets [] i b few = refl
walk-terminal targets (d ∷ bits) i b few =
    let deep : level_of (terminal b) ≡ 65536 = level-terminal (terminal b) (terminal_ends b) in
    let past : is_at i (terminal b) ≡ false = past_from i (terminal b) (omega arith) in
    (λ j. walk targets (suc i) bits (cond (past j) (cond d (targets (terminal b)).high (targets (terminal b)).low) (terminal b)))
    ∙ walk-terminal targets bits (suc i) b (omega arith)

-- a truth value with no arcs stands for the constant table
pub constant_is_diagram : (n : ℕ) → ConstantIsDiagram n
constant_is_diagram n b few = record {
  complete = record {
    begins = inr (terminal_ends b);
    within = λ a m. absurd m;
    deeper = λ a m. absurd m;
    both = λ w met below side. elim met [
      | inl e ↦ absurd (omega (arith, level-terminal (terminal b) (terminal_ends b), ap level_of e))
      | inr (a, m, e) ↦ absurd m
    ];
    once = λ a c m k source high. absurd m;
    met = λ a m. absurd m;
  };
  stands = record {
    whole = length-replicate (2 ^ n) b;
    walks = λ bits k.
        walk-terminal (targets_of []) bits 0 b (omega arith)
        ∙ ap terminal (sym (get_or-replicate (2 ^ n) (place_of_bits bits) b false (subst (λ m. place_of_bits bits < 2 ^ m) k (place_below bits))));
  };
}
