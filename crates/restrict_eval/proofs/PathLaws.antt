-- How a path goes on through the nodes of a canonical file.
use Rattle.std.specs.Prelude.{◌≡◌, ℕ, zero, suc, ◌+◌, ◌<◌, ◌≤◌, ◌==◌, Bool, true, false, cond, List, [], ◌∷◌, ◌++◌, length, get_or}
use Rattle.std.proofs.Common.{refl, sym, ◌∙◌, ap, subst, inl, inr, arith}
use Rattle.std.proofs.lemmas.Bool.Decides.{nat_tests}
use Rattle.rec_words.specs.Words.{level_of, IsTerminal}
use Rattle.rec_words.specs.declared.node.Node.{Node}
use Rattle.list_laws.specs.Members.{Has}
use Rattle.canon_file.specs.declared.row.Row.{Row}
use Rattle.canon_file.specs.Canon.{canon_nodes, canon_root}
use Rattle.canon_file.specs.Laws.{HasForm}
use Rattle.canon_file.specs.NodeFiles.{IsProper, IsDescending}
use Rattle.canon_file.specs.Walks.{is_at, walk, row_at}
use Rattle.canon_file.proofs.FileLaws.{is_node_file}
use Rattle.arc_file.specs.declared.arc.Arc.{Arc}
use Rattle.arc_diagrams.specs.Arcs.{targets_of, arcs_of, IsWithin, IsMet}
use Rattle.arc_diagrams.proofs.WordLaws.{at_from, past_from, level-terminal}
use Rattle.arc_diagrams.proofs.CanonArcs.{targets-arcs_of, arc_to, has_arc_to, side_of, canon_complete}
use Rattle.top_down_laws.specs.Readings.{IsIn}
use Rattle.restrict_eval.specs.Eval.{side_by}

-- a walk goes on from a node as from where it leads on the side of its level
walk_on : (arcs : ℕ → Row) (i k : ℕ) (bits : List Bool) (p c : ℕ) → level_of p ≡ i + k → k < length bits → i + k < level_of c
    → c ≡ cond (get_or bits k false) (arcs p).high (arcs p).low → walk arcs i bits p ≡ walk arcs i bits c
walk_on arcs i k [] p c level some deep is = absurd (omega (arith, some))
walk_on arcs i zero (b ∷ bits) p c level some deep is =
    let here : is_at i p ≡ true = at_from i p (omega (arith, level)) in
    let past : is_at i c ≡ false = past_from i c (omega (arith, deep)) in
    (λ j. walk arcs (suc i) bits (cond (here j) (cond b (arcs p).high (arcs p).low) p))
    ∙ ap (walk arcs (suc i) bits) (sym is)
    ∙ sym (λ j. walk arcs (suc i) bits (cond (past j) (cond b (arcs c).high (arcs c).low) c))
walk_on arcs i (suc k) (b ∷ bits) p c level some deep is =
    let past_p : is_at i p ≡ false = past_from i p (omega (arith, level)) in
    let past_c : is_at i c ≡ false = past_from i c (omega (arith, deep)) in
    (λ j. walk arcs (suc i) bits (cond (past_p j) (cond b (arcs p).high (arcs p).low) p))
    ∙ walk_on arcs (suc i) k bits p c (omega (arith, level)) (omega (arith, some)) (omega (arith, deep)) is
    ∙ sym (λ j. walk arcs (suc i) bits (cond (past_c j) (cond b (arcs c).high (arcs c).low) c))

-- from a truth value it goes nowhere
pub walk_stays : (arcs : ℕ → Row) (i : ℕ) (bits : List Bool) (p : ℕ) → IsTerminal p → i + length bits ≤ 65536 → walk arcs i bits p ≡ p
walk_stays arcs i [] p end few = refl
walk_stays arcs i (b ∷ bits) p end few =
    let past : is_at i p ≡ false = past_from i p (omega (arith, few, level-terminal p end)) in
    (λ j. walk arcs (suc i) bits (cond (past j) (cond b (arcs p).high (arcs p).low) p)) ∙ walk_stays arcs (suc i) bits p end (omega (arith, few))

-- the nodes before one are above it, and those behind it are below it
pub before_above : (xs ys : List Node) (y z : Node) → IsDescending (xs ++ y ∷ ys) → Has z xs → y.uid < z.uid
before_above [] ys y z d m = absurd m
before_above (x ∷ xs) ys y z d (inl e) = subst (λ (v : Node). y.uid < v.uid) e (d.0 y (last_of xs ys y))
  where
    last_of : (xs ys : List Node) (y : Node) → Has y (xs ++ y ∷ ys)
    last_of [] ys y = inl refl
    last_of (x ∷ xs) ys y = inr (last_of xs ys y)
before_above (x ∷ xs) ys y z d (inr m) = before_above xs ys y z d.1 m

above_before : (xs ys : List Node) (y z : Node) → IsDescending (xs ++ y ∷ ys) → Has z (xs ++ y ∷ ys) → y.uid < z.uid → Has z xs
above_before [] ys y z d (inl e) above = absurd (omega (arith, above, ap (λ (v : Node). v.uid) e))
above_before [] ys y z d (inr m) above = absurd (omega (arith, above, d.0 z m))
above_before (x ∷ xs) ys y z d (inl e) above = inl e
above_before (x ∷ xs) ys y z d (inr m) above = inr (above_before xs ys y z d.1 m above)

-- the pointers of a node
row_of_node : (xs ys : List Node) (y : Node) → IsDescending (xs ++ y ∷ ys) → row_at (xs ++ y ∷ ys) y.uid ≡ record { low = y.low; high = y.high }
row_of_node [] ys y d =
    let here : (y.uid == y.uid) ≡ true = grind (arith, nat_tests) in
    λ j. cond (here j) (record { low = y.low; high = y.high }) (row_at ys y.uid)
row_of_node (x ∷ xs) ys y d =
    let above : y.uid < x.uid = before_above (x ∷ xs) ys y x d (inl refl) in
    let other : (x.uid == y.uid) ≡ false = grind (arith, nat_tests) in
    (λ j. cond (other j) (record { low = x.low; high = x.high }) (row_at (xs ++ y ∷ ys) y.uid)) ∙ row_of_node xs ys y d.1

-- the node of an arc
source_has : (a : Arc) (xs : List Node) → Has a (arcs_of xs) → (x : Node) × Has x xs × (x.uid ≡ a.source)
source_has a [] m = absurd m
source_has a (x ∷ xs) (inl e) = (x, inl refl, ap (λ (b : Arc). b.source) e)
source_has a (x ∷ xs) (inr (inl e)) = (x, inl refl, ap (λ (b : Arc). b.source) e)
source_has a (x ∷ xs) (inr (inr m)) = let (y, k, e) = source_has a xs m in (y, inr k, e)

-- a pointer that is met is a truth value or a node of the file
met_one : (n : ℕ) (t : List Bool) (w : ℕ) → HasForm n t → IsWithin n w → IsMet (canon_root n t) (arcs_of (canon_nodes n t)) w → IsIn (canon_nodes n t) w
met_one n t w form (inr end) met = inl end
met_one n t w form (inl below) met =
    let (a, m, source, high) = (canon_complete n t form).both w met below false in
    let (x, k, e) = source_has a (canon_nodes n t) m in
    inr (x, k, e ∙ source)

pub root_one : (n : ℕ) (t : List Bool) → HasForm n t → IsIn (canon_nodes n t) (canon_root n t)
root_one n t form = met_one n t (canon_root n t) form (canon_complete n t form).begins (inl refl)

module _ (n : ℕ) (t : List Bool) (form : HasForm n t) (xs ys : List Node) (y : Node) (split : canon_nodes n t ≡ xs ++ y ∷ ys) where
  descends : IsDescending (xs ++ y ∷ ys)
  descends = subst IsDescending split (is_node_file n t form.few form.whole form.fits).descend

  -- a node leads to truth values and to nodes before it
  pub side_one : IsProper n y → (bits : List Bool) → IsIn xs (side_by bits y)
  side_one proper bits =
      let b : Bool = get_or bits (level_of y.uid) false in
      let m : Has y (canon_nodes n t) = subst (Has y) (sym split) (middle xs) in
      let arc : Has (arc_to y b) (arcs_of (canon_nodes n t)) = has_arc_to y b (canon_nodes n t) m in
      let within : IsWithin n (cond b y.high y.low) = (canon_complete n t form).within (arc_to y b) arc in
      let above : y.uid < cond b y.high y.low = side_of (λ w. y.uid < w) y b (let l = proper.low in omega (arith, l)) (let h = proper.high in omega (arith, h)) in
      elim (met_one n t (cond b y.high y.low) form within (inr (arc_to y b, arc, refl))) [
        | inl end ↦ inl end
        | inr one ↦ (let uid : one.0.uid ≡ cond b y.high y.low = one.2 in
            inr (one.0, above_before xs ys y one.0 descends (subst (Has one.0) split one.1) (omega (arith, uid, above)), one.2))
      ]
    where
      middle : (zs : List Node) → Has y (zs ++ y ∷ ys)
      middle [] = inl refl
      middle (z ∷ zs) = inr (middle zs)

  -- and its walk goes on from there
  pub side_walks : IsProper n y → (bits : List Bool) → length bits ≡ n
      → walk (targets_of (arcs_of (canon_nodes n t))) 0 bits y.uid ≡ walk (targets_of (arcs_of (canon_nodes n t))) 0 bits (side_by bits y)
  side_walks proper bits long =
      let l : ℕ = level_of y.uid in
      let below : l < n = proper.level in
      let row : targets_of (arcs_of (canon_nodes n t)) y.uid ≡ record { low = y.low; high = y.high } =
      targets-arcs_of (canon_nodes n t) y.uid ∙ ap (λ zs. row_at zs y.uid) split ∙ row_of_node xs ys y descends in
      let deep : l < level_of (side_by bits y) = side_of (λ w. l < level_of w) y (get_or bits l false) proper.low proper.high in
      walk_on (targets_of (arcs_of (canon_nodes n t))) 0 l bits y.uid (side_by bits y) (omega arith) (omega (arith, below, long)) (omega (arith, deep))
      (sym (ap (λ (r : Row). cond (get_or bits l false) r.high r.low) row))
