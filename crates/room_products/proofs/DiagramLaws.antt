-- The sources of all slots are a diagram of the table of the roots.
use Rattle.std.specs.Prelude.{◌≡◌, ℕ, zero, suc, ◌+◌, ◌<◌, ◌≤◌, Bool, true, false, cond, List, [], ◌++◌, take}
use Rattle.std.proofs.Common.{refl, sym, ◌∙◌, ap, subst, inl, inr, arith}
use Rattle.rec_words.specs.Words.{terminal, level_of, IsTerminal}
use Rattle.rec_words.specs.declared.rec.Rec.{Rec}
use Rattle.list_laws.specs.Members.{Has}
use Rattle.canon_file.specs.Walks.{is_at, table_of}
use Rattle.canon_file.proofs.MemberLaws.{either_bit}
use Rattle.run_files.specs.Items.{record_at}
use Rattle.arc_file.specs.declared.arc.Arc.{Arc}
use Rattle.arc_diagrams.specs.Arcs.{target_on, targets_of, IsWithin, IsMet, IsComplete, StandFor}
use Rattle.arc_diagrams.proofs.WordLaws.{level_at, level_past, level-terminal, terminal_is}
use Rattle.arc_diagrams.proofs.TargetLaws.{the_target}
use Rattle.arc_diagrams.proofs.TableLaws.{stand_for-table}
use Rattle.top_down.specs.declared.tuple.Tuple.{Tuple}
use Rattle.top_down.specs.declared.tuple.Goal.{Goal}
use Rattle.top_down.specs.declared.tuple.Goal.TheVariants.{Go}
use Rattle.top_down.specs.Tuples.{Targets, level_of_tuple}
use Rattle.top_down.specs.Rules.{Rule, IsAsked, IsRule, below_on, table_for}
use Rattle.top_down.proofs.TupleLaws.{table-terminal}
use Rattle.top_down.proofs.PointwiseLaws.{are_later}
use Rattle.top_down.proofs.TurnLaws.{tuple_deep}
use Rattle.room_reduction.specs.Records.{word}
use Rattle.room_reduction.specs.Sources.{AreSources}
use Rattle.room_products.specs.Slots.{pair_at, id_at}
use Rattle.room_products.specs.Joining.{IsAnswer, IsSourceOf, IsJoining, AreDone}
use Rattle.room_products.specs.Joined.{arcs_in, AreOfTable}
use Rattle.room_products.proofs.SourceRows.{arc_from, row_arc, arc_row, answer_on}
use Rattle.room_products.proofs.SourceRows.{place_row, row_slot, same_row, rows_ascend, slot_row}

module _ (n root : ℕ) (roots : Tuple) (rule : Rule) (targets : Targets) (slots firsts : List Rec) (count : ℕ)
    (sources : List Rec) (few : n ≤ 65535) (laws : IsRule n rule targets)
    (joining : IsJoining n root roots rule targets [] slots firsts count sources count)
    (done : AreDone (take count slots) (take count sources)) where
  abbrev rows : List Rec
  rows = take count sources

  abbrev arcs : List Arc
  arcs = arcs_in (take count sources)

  -- the slot of a row, and the row of a slot
  slot_of : (r : Rec) → Has r rows → (place : ℕ) × (place < count) × IsSourceOf rule targets slots count place r
  slot_of = row_slot rule targets slots count sources joining.sources_are

  row_of : (k : ℕ) → k < count → (r : Rec) × Has r rows × (word 0 r ≡ id_at slots k)
  row_of k below = slot_row slots sources count k joining.slots_are.within done below

  -- the pairs on the sides of a slot's may be asked for
  side_asked : (place : ℕ) (side : Bool) → place < count
      → IsAsked n rule (suc (level_of (id_at slots place))) (below_on rule targets side (pair_at slots place))
  side_asked place side under =
      let at = joining.slots_are.levels place under in
      let low = joining.slots_are.low place under in
      let here : IsAsked n rule (level_of_tuple (pair_at slots place)) (pair_at slots place) =
      subst (λ l. IsAsked n rule l (pair_at slots place)) at (joining.slots_are.asked place under) in
      subst (λ l. IsAsked n rule (suc l) (below_on rule targets side (pair_at slots place))) (sym at)
      (laws.sides_asked (pair_at slots place) side (omega (arith, at, low)) here)

  -- a slot to which a side leads may be asked for below, and lies deeper
  leads_below : (place k : ℕ) (side : Bool) → place < count → k < count
      → rule.goal (below_on rule targets side (pair_at slots place)) ≡ Go (pair_at slots k)
      → IsAsked n rule (suc (level_of (id_at slots place))) (pair_at slots k)
      × (level_of (id_at slots place) < level_of (id_at slots k))
  leads_below place k side under within goes =
      let low = joining.slots_are.low place under in
      let above : IsAsked n rule (suc (level_of (id_at slots place))) (pair_at slots k) =
      laws.goes_asked (suc (level_of (id_at slots place))) (below_on rule targets side (pair_at slots place))
      (pair_at slots k) (omega (arith, low)) (side_asked place side under) goes in
      let deep = tuple_deep n (suc (level_of (id_at slots place))) (pair_at slots k) above.from in
      let at = joining.slots_are.levels k within in
      (above, omega (arith, deep, at))

  -- what a source has on a side is a truth value, or a node of a level below n
  answer_within : (goal : Goal) (w : ℕ) → IsAnswer goal slots count w → IsWithin n w
  answer_within goal w (inl (value, _, e)) = inr (subst IsTerminal (sym e) (terminal_is value))
  answer_within goal w (inr (k, below, _, e)) =
      inl (subst (λ v. level_of v < n) (sym e) (joining.slots_are.low k below))

  answer_deeper : (r : Rec) (place : ℕ) (side : Bool) → place < count → IsSourceOf rule targets slots count place r
      → level_of (word 0 r) < level_of (arc_from r side).target
  answer_deeper r place side under is =
      let low = joining.slots_are.low place under in
      let here = ap level_of is.source_is in
      elim (answer_on rule targets slots count place r side is) [
        | inl (value, _, e) ↦
            let there = ap level_of e ∙ level-terminal (terminal value) (terminal_is value) in
            omega (arith, low, here, there, few)
        | inr (k, below, goes, e) ↦
            let there = ap level_of e in
            let deep = (leads_below place k side under below goes).1 in
            omega (arith, here, there, deep)
      ]

  -- a node that is met is the identifier of a slot
  met_slot : (w : ℕ) → IsMet root arcs w → level_of w < n → (k : ℕ) × (k < count) × (id_at slots k ≡ w)
  met_slot w (inl first) low = (0, joining.some, joining.root_is ∙ first)
  met_slot w (inr (a, m, e)) low =
      let (r, side, in_rows, is) = arc_row a rows m in
      let (place, under, source) = slot_of r in_rows in
      let target : (arc_from r side).target ≡ w = ap (λ (b : Arc). b.target) is ∙ e in
      elim (answer_on rule targets slots count place r side source) [
        | inl (value, _, ends) ↦
            let deep = ap level_of (sym target ∙ ends) ∙ level-terminal (terminal value) (terminal_is value) in
            absurd (omega (arith, deep, low, few))
        | inr (k, below, _, goes) ↦ (k, below, sym goes ∙ target)
      ]

  -- the identifier of a slot is met
  slot_met : (k : ℕ) → k < count → IsMet root arcs (id_at slots k)
  slot_met k below = elim (joining.met k below) [
    | inl first ↦ inl first
    | inr (inl none) ↦ absurd none
    | inr (inr (j, early, inl low)) ↦
        let there = place_row rule targets slots count sources joining.sources_are j early in
        inr (arc_from (record_at sources j) false, row_arc (record_at sources j) false rows there, low)
    | inr (inr (j, early, inr high)) ↦
        let there = place_row rule targets slots count sources joining.sources_are j early in
        inr (arc_from (record_at sources j) true, row_arc (record_at sources j) true rows there, high)
  ]

  row_met : (r : Rec) → Has r rows → IsMet root arcs (word 0 r)
  row_met r m =
      let (place, under, is) = slot_of r m in
      subst (IsMet root arcs) (sym is.source_is) (slot_met place under)

  -- two arcs from one source on one side lead to the same pointer
  same_target : (a b : Arc) → Has a arcs → Has b arcs → a.source ≡ b.source → a.high ≡ b.high → a.target ≡ b.target
  same_target a b m k source high =
      let (r, side, in_r, is_r) = arc_row a rows m in
      let (s, other, in_s, is_s) = arc_row b rows k in
      let row : r ≡ s =
      same_row rule targets slots count sources joining.sources_are r s in_r in_s
      (ap (λ (c : Arc). c.source) is_r ∙ source ∙ sym (ap (λ (c : Arc). c.source) is_s)) in
      let sides : side ≡ other = ap (λ (c : Arc). c.high) is_r ∙ high ∙ sym (ap (λ (c : Arc). c.high) is_s) in
      sym (ap (λ (c : Arc). c.target) is_r) ∙ (λ j. (arc_from (row j) (sides j)).target)
      ∙ ap (λ (c : Arc). c.target) is_s

  -- the arcs are complete
  rows_complete : IsComplete n root arcs
  rows_complete = record {
    begins = inl (subst (λ w. level_of w < n) joining.root_is (joining.slots_are.low 0 joining.some));
    within = λ a m.
        let (r, side, in_rows, is) = arc_row a rows m in
        let (place, under, source) = slot_of r in_rows in
        subst (λ (b : Arc). IsWithin n b.target) is
        (answer_within (rule.goal (below_on rule targets side (pair_at slots place))) (arc_from r side).target
        (answer_on rule targets slots count place r side source));
    deeper = λ a m.
        let (r, side, in_rows, is) = arc_row a rows m in
        let (place, under, source) = slot_of r in_rows in
        subst (λ (b : Arc). level_of b.source < level_of b.target) is (answer_deeper r place side under source);
    both = λ w met low side.
        let (k, below, is) = met_slot w met low in
        let (r, in_rows, source) = row_of k below in
        (arc_from r side, row_arc r side rows in_rows, source ∙ is, refl);
    once = same_target;
    met = λ a m.
        let (r, side, in_rows, is) = arc_row a rows m in
        subst (IsMet root arcs) (ap (λ (b : Arc). b.source) is) (row_met r in_rows);
  }

  -- the target of a row on a side
  row_target : (r : Rec) (side : Bool) → Has r rows → (arc_from r side).target ≡ target_on arcs (word 0 r) side
  row_target r side m = the_target n root arcs (arc_from r side) rows_complete (row_arc r side rows m)

  -- the identifier of a slot stands for the table of its pair
  abbrev stands_for : ℕ → ℕ → ℕ → Type 0
  stands_for h i k = table_of (targets_of arcs) h i (id_at slots k) ≡ table_for rule targets h i (pair_at slots k)

  -- one side of a slot, where deeper ones stand for their pairs
  side_stands : (h k : ℕ) → suc (level_of (id_at slots k) + h) ≡ n → k < count
      → ((j : ℕ) → j < count → suc (level_of (id_at slots k)) ≤ level_of (id_at slots j)
      → IsAsked n rule (suc (level_of (id_at slots k))) (pair_at slots j)
      → stands_for h (suc (level_of (id_at slots k))) j)
      → (side : Bool)
      → table_of (targets_of arcs) h (suc (level_of (id_at slots k))) (target_on arcs (id_at slots k) side)
      ≡ table_for rule targets h (suc (level_of (id_at slots k))) (below_on rule targets side (pair_at slots k))
  side_stands h k end below stand side =
      let i : ℕ = suc (level_of (id_at slots k)) in
      let x : Tuple = below_on rule targets side (pair_at slots k) in
      let next : IsAsked n rule i x = side_asked k side below in
      let (r, in_rows, at) = row_of k below in
      let (place, under, source) = slot_of r in_rows in
      let same : place ≡ k = joining.slots_are.differ place k under below (sym source.source_is ∙ at) in
      let target : target_on arcs (id_at slots k) side ≡ (arc_from r side).target =
      ap (λ w. target_on arcs w side) (sym at) ∙ sym (row_target r side in_rows) in
      let is : IsAnswer (rule.goal x) slots count (arc_from r side).target =
      subst (λ p. IsAnswer (rule.goal (below_on rule targets side (pair_at slots p))) slots count
      (arc_from r side).target) same (answer_on rule targets slots count place r side source) in
      elim is [
        | inl (value, says, e) ↦
            ap (table_of (targets_of arcs) h i) (target ∙ e)
            ∙ table-terminal (targets_of arcs) h i value (omega (arith, end, few))
            ∙ sym (laws.ends h i x value (omega (arith, end)) next says)
        | inr (j, within, goes, e) ↦
            let (above, deep) = leads_below k j side below within goes in
            ap (table_of (targets_of arcs) h i) (target ∙ e)
            ∙ stand j within (omega (arith, deep)) above
            ∙ sym (laws.goes h i x (pair_at slots j) (omega (arith, end)) next goes)
      ]

  slot_stands : (h i k : ℕ) → i + h ≡ n → k < count → i ≤ level_of (id_at slots k) → IsAsked n rule i (pair_at slots k)
      → stands_for h i k
  slot_stands zero i k end below deep asked =
      let low = joining.slots_are.low k below in
      absurd (omega (arith, low, end, deep))
  slot_stands (suc h) i k end below deep asked =
      let s : ℕ = id_at slots k in
      let x : Tuple = pair_at slots k in
      let is_level : level_of s ≡ level_of_tuple x = joining.slots_are.levels k below in
      elim (either_bit (is_at i s)) [
        | inl e ↦
            let here : level_of s ≡ i = level_at i s deep e in
            let sides : (side : Bool) → table_of (targets_of arcs) h (suc (level_of s)) (target_on arcs s side)
            ≡ table_for rule targets h (suc (level_of s)) (below_on rule targets side x) =
            side_stands h k (omega (arith, here, end)) below
            (λ j within later there.
            slot_stands h (suc (level_of s)) j (omega (arith, here, end)) within later there) in
            let at : i ≡ level_of_tuple x = sym here ∙ is_level in
            let halves : table_for rule targets (suc h) (level_of_tuple x) x
            ≡ table_for rule targets h (suc (level_of_tuple x)) (below_on rule targets false x)
            ++ table_for rule targets h (suc (level_of_tuple x)) (below_on rule targets true x) =
            laws.splits h x (subst (λ l. IsAsked n rule l x) at asked) (omega (arith, at, end)) in
            ap (λ b. cond b
            (table_of (targets_of arcs) h (suc i) (target_on arcs s false)
            ++ table_of (targets_of arcs) h (suc i) (target_on arcs s true))
            (table_of (targets_of arcs) h (suc i) s ++ table_of (targets_of arcs) h (suc i) s)) e
            ∙ (λ j. table_of (targets_of arcs) h (suc (sym here j)) (target_on arcs s false)
            ++ table_of (targets_of arcs) h (suc (sym here j)) (target_on arcs s true))
            ∙ (λ j. sides false j ++ sides true j)
            ∙ (λ j. table_for rule targets h (suc (is_level j)) (below_on rule targets false x)
            ++ table_for rule targets h (suc (is_level j)) (below_on rule targets true x))
            ∙ sym halves ∙ (λ j. table_for rule targets (suc h) (sym at j) x)
        | inr e ↦
            let later : i < level_of s = level_past i s e in
            let twice_same : table_for rule targets (suc h) i x
            ≡ table_for rule targets h (suc i) x ++ table_for rule targets h (suc i) x =
            laws.passes h i x asked (omega (arith, end)) (omega (arith, later, is_level)) in
            let below_here : IsAsked n rule (suc i) x = record {
              from = are_later n i x asked.from (omega (arith, later, is_level));
              may = laws.later i x asked (omega (arith, later, is_level));
            } in
            let rest : stands_for h (suc i) k = slot_stands h (suc i) k (omega (arith, end)) below later below_here in
            ap (λ b. cond b
            (table_of (targets_of arcs) h (suc i) (target_on arcs s false)
            ++ table_of (targets_of arcs) h (suc i) (target_on arcs s true))
            (table_of (targets_of arcs) h (suc i) s ++ table_of (targets_of arcs) h (suc i) s)) e
            ∙ (λ j. rest j ++ rest j) ∙ sym twice_same
      ]

  -- so the arcs stand for the table of the roots
  rows_stand : IsAsked n rule 0 roots → StandFor n root arcs (table_for rule targets n 0 roots)
  rows_stand asked =
      let first : IsAsked n rule 0 (pair_at slots 0) = subst (IsAsked n rule 0) (sym joining.begins) asked in
      subst (StandFor n root arcs)
      (ap (table_of (targets_of arcs) n 0) (sym joining.root_is)
      ∙ slot_stands n 0 0 (omega arith) joining.some (omega arith) first
      ∙ ap (table_for rule targets n 0) joining.begins)
      (stand_for-table n root arcs rows_complete)

  -- and the rows are their sources
  rows_are : AreSources n root arcs rows
  rows_are = record {
    ascend = rows_ascend rule targets slots count sources joining.sources_are;
    met = row_met;
    within = λ r m.
        let (place, under, is) = slot_of r m in
        subst (λ w. level_of w < n) (sym is.source_is) (joining.slots_are.low place under);
    each = λ a m.
        let (r, side, in_rows, is) = arc_row a rows m in (r, in_rows, ap (λ (b : Arc). b.source) is);
    low = λ r m. row_target r false m;
    high = λ r m. row_target r true m;
  }

  pub rows_of_table : IsAsked n rule 0 roots → AreOfTable n root (table_for rule targets n 0 roots) (take count sources)
  rows_of_table asked = record {
    sources_are = rows_are;
    diagram = record { complete = rows_complete; stands = rows_stand asked };
  }
