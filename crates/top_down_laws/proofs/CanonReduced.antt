-- The canonical nodes of a table are those of a reduced diagram.
use Rattle.std.proofs.Common.{◌≡◌, ℕ, ◌+◌, ◌*◌, ◌≤◌, ◌∙◌, ◌^◌, Bool, true, false, List, [], ◌∷◌, refl, sym, ap, inl, inr, arith}
use Rattle.std.specs.Prelude.{◌⊎◌, zero, suc, length}
use Rattle.list_laws.specs.Members.{IsAscending}
use Rattle.list_laws.proofs.MemberLaws.{has_append}
use Rattle.rec_words.specs.Words.{level_of}
use Rattle.rec_words.specs.declared.node.Node.{Node}
use Rattle.canon_file.specs.declared.row.Row.{Row}
use Rattle.canon_file.specs.Members.{Has}
use Rattle.canon_file.specs.Pieces.{halves}
use Rattle.canon_file.specs.Rows.{row_before, row_word, pointer, levels, Fits}
use Rattle.canon_file.specs.Canon.{numbered, nodes_of, canon_nodes, canon_root}
use Rattle.canon_file.specs.Laws.{HasForm}
use Rattle.canon_file.proofs.FileLaws.{is_node_file}
use Rattle.canon_file.proofs.RowLaws.{same_row, row_order, are_rows}
use Rattle.canon_file.proofs.StandLaws.{nodes_deep}
use Rattle.arc_file.specs.declared.arc.Arc.{Arc}
use Rattle.arc_diagrams.specs.Arcs.{arcs_of, IsMet, IsWithin}
use Rattle.arc_diagrams.proofs.CanonArcs.{arc_to, has_arc_to, canon_is_diagram}
use Rattle.top_down_laws.specs.Readings.{IsIn, IsReduced}

-- the rows of each level ascend
abbrev AllAscend : List (List Row) → Type 0
AllAscend [] = Unit {0}
AllAscend (rs ∷ deeper) = IsAscending row_before rs × AllAscend deeper

levels_ascend : (h i : ℕ) (ps : List (List Bool)) → AllAscend (levels h i ps)
levels_ascend zero i ps = tt
levels_ascend (suc h) i ps = (
  (are_rows (pointer h (suc i) (halves h ps)) h ps).ascend,
  levels_ascend h (suc i) (halves h ps),
)

-- the row of a node
numbered_row : (i k : ℕ) (rs : List Row) (x : Node) → Has x (numbered i k rs)
    → (r : Row) × Has r rs × (r.low ≡ x.low) × (r.high ≡ x.high)
numbered_row i k [] x m = absurd m
numbered_row i k (r ∷ rs) x (inl e) = (
  r,
  inl refl,
  ap (λ (y : Node). y.low) e,
  ap (λ (y : Node). y.high) e,
)
numbered_row i k (r ∷ rs) x (inr m) = let (s, there, low, high) = numbered_row i (suc k) rs x m in
    (s, inr there, low, high)

numbered_level : (i k : ℕ) (rs : List Row) (x : Node) → k + length rs ≤ 2 ^ 47
    → Has x (numbered i k rs) → level_of x.uid ≡ i
numbered_level i k [] x few m = absurd m
numbered_level i k (r ∷ rs) x few (inl e) = (let uid : row_word i k ≡ x.uid =
    ap (λ (y : Node). y.uid) e in omega (arith, uid, few))
numbered_level i k (r ∷ rs) x few (inr m) = numbered_level i (suc k) rs x (omega (arith, few)) m

-- a row that comes before others isn't among them
not_among : (r s : Row) → row_before r s ≡ true → r.low ≡ s.low → r.high ≡ s.high → ⊥
not_among r s before low high =
    let same : r ≡ s = same_row r s low high in
    let none : row_before r s ≡ false = ap (row_before r) (sym same) ∙ row_order.none r in
    absurd (let clash : true ≡ false = sym before ∙ none in cc)

rows_differ : (i k : ℕ) (rs : List Row) → IsAscending row_before rs → (x y : Node)
    → Has x (numbered i k rs) → Has y (numbered i k rs)
    → x.low ≡ y.low → x.high ≡ y.high → x.uid ≡ y.uid
rows_differ i k [] up x y m l low high = absurd m
rows_differ i k (r ∷ rs) up x y (inl a) (inl b) low high = ap (λ (z : Node). z.uid) (sym a ∙ b)
rows_differ i k (r ∷ rs) up x y (inl a) (inr l) low high =
    let (s, there, is_low, is_high) = numbered_row i (suc k) rs y l in
    absurd (not_among r s (up.0 s there) (ap (λ (z : Node). z.low) a ∙ low ∙ sym is_low)
    (ap (λ (z : Node). z.high) a ∙ high ∙ sym is_high))
rows_differ i k (r ∷ rs) up x y (inr m) (inl b) low high =
    let (s, there, is_low, is_high) = numbered_row i (suc k) rs x m in
    absurd (not_among r s (up.0 s there) (ap (λ (z : Node). z.low) b ∙ sym low ∙ sym is_low)
    (ap (λ (z : Node). z.high) b ∙ sym high ∙ sym is_high))
rows_differ i k (r ∷ rs) up x y (inr m) (inr l) low high =
    rows_differ i (suc k) rs up.1 x y m l low high

nodes_differ : (i : ℕ) (ls : List (List Row)) → Fits ls → AllAscend ls → (x y : Node)
    → Has x (nodes_of i ls) → Has y (nodes_of i ls)
    → level_of x.uid ≡ level_of y.uid → x.low ≡ y.low → x.high ≡ y.high → x.uid ≡ y.uid
nodes_differ i [] fits up x y m l level low high = absurd m
nodes_differ i (rs ∷ deeper) fits up x y m l level low high =
    by (λ a b. nodes_differ (suc i) deeper fits.1 up.1 x y a b level low high)
    (has_append x (nodes_of (suc i) deeper) (numbered i 0 rs) m)
    (has_append y (nodes_of (suc i) deeper) (numbered i 0 rs) l)
  where
    by : (Has x (nodes_of (suc i) deeper) → Has y (nodes_of (suc i) deeper) → x.uid ≡ y.uid)
        → Has x (nodes_of (suc i) deeper) ⊎ Has x (numbered i 0 rs)
        → Has y (nodes_of (suc i) deeper) ⊎ Has y (numbered i 0 rs) → x.uid ≡ y.uid
    by rest (inl a) (inl b) = rest a b
    by rest (inl a) (inr b) =
        let deep : suc i * 2 ^ 47 ≤ x.uid = nodes_deep (suc i) deeper x a in
        let here : level_of y.uid ≡ i = numbered_level i 0 rs y (omega (arith, fits.0)) b in
        absurd (omega (arith, deep, here, level))
    by rest (inr a) (inl b) =
        let deep : suc i * 2 ^ 47 ≤ y.uid = nodes_deep (suc i) deeper y b in
        let here : level_of x.uid ≡ i = numbered_level i 0 rs x (omega (arith, fits.0)) a in
        absurd (omega (arith, deep, here, level))
    by rest (inr a) (inr b) = rows_differ i 0 rs up.0 x y a b low high

-- the source of an arc of nodes is one of the nodes
source_node : (xs : List Node) (a : Arc) → Has a (arcs_of xs)
    → (x : Node) × Has x xs × (x.uid ≡ a.source)
source_node [] a m = absurd m
source_node (x ∷ xs) a (inl e) = (x, inl refl, ap (λ (b : Arc). b.source) e)
source_node (x ∷ xs) a (inr (inl e)) = (x, inl refl, ap (λ (b : Arc). b.source) e)
source_node (x ∷ xs) a (inr (inr m)) = let (y, there, uid) = source_node xs a m in
    (y, inr there, uid)

module _ (n : ℕ) (t : List Bool) (form : HasForm n t) where
  -- what is met is a truth value or a node
  met_in : (w : ℕ) → IsMet (canon_root n t) (arcs_of (canon_nodes n t)) w → IsWithin n w
      → IsIn (canon_nodes n t) w
  met_in w met (inr end) = inl end
  met_in w met (inl low) =
      let (a, m, source, _) = (canon_is_diagram n t form).complete.both w met low false in
      let (x, there, uid) = source_node (canon_nodes n t) a m in
      inr (x, there, uid ∙ source)

  pub root_in : IsIn (canon_nodes n t) (canon_root n t)
  root_in = met_in (canon_root n t) (inl refl) (canon_is_diagram n t form).complete.begins

  leads : (x : Node) → Has x (canon_nodes n t) → (side : Bool)
      → IsIn (canon_nodes n t) (arc_to x side).target
  leads x m side =
      let there : Has (arc_to x side) (arcs_of (canon_nodes n t)) =
      has_arc_to x side (canon_nodes n t) m in
      met_in (arc_to x side).target (inr (
        arc_to x side,
        there,
        refl,
      )) ((canon_is_diagram n t form).complete.within (arc_to x side) there)

  level_nodes_differ : (x y : Node) → Has x (canon_nodes n t) → Has y (canon_nodes n t)
      → level_of x.uid ≡ level_of y.uid
      → x.low ≡ y.low → x.high ≡ y.high → x.uid ≡ y.uid
  unfolding canon_nodes
  level_nodes_differ = nodes_differ 0 (levels n 0 (t ∷ [])) form.fits (levels_ascend n 0 (t ∷ []))

  pub canon_reduced : IsReduced n (canon_nodes n t)
  canon_reduced =
      let file = is_node_file n t form.few form.whole form.fits in
      record {
        proper = file.proper;
        descend = file.descend;
        leads_low = λ x m. leads x m false;
        leads_high = λ x m. leads x m true;
        differ = level_nodes_differ;
      }
