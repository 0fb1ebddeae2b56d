-- The sources of all slots, one by one.
use Rattle.std.specs.Prelude.{◌≡◌, ℕ, ◌<◌, ◌≤◌, Bool, true, false, List, [], ◌∷◌, length, map, take}
use Rattle.std.proofs.Common.{refl, sym, ◌∙◌, ap, subst, inl, inr, arith}
use Rattle.std.proofs.lemmas.Bool.{cases_lt}
use Rattle.std.proofs.lemmas.List.{length-take-le, get_or-take}
use Rattle.list_laws.specs.Members.{Has}
use Rattle.list_laws.proofs.MemberLaws.{has_map}
use Rattle.list_laws.proofs.SameMembers.{has_at}
use Rattle.rec_words.specs.declared.rec.Rec.{Rec}
use Rattle.run_files.specs.Items.{record_at}
use Rattle.arc_file.specs.declared.arc.Arc.{Arc}
use Rattle.arc_diagrams.proofs.CanonArcs.{arc_to, has_arc_to}
use Rattle.top_down.specs.Tuples.{Targets}
use Rattle.top_down.specs.Rules.{Rule, below_on}
use Rattle.room_reduction.specs.Records.{word}
use Rattle.room_reduction.proofs.LevelSources.{member_place}
use Rattle.room_products.specs.Slots.{pair_at, id_at}
use Rattle.room_products.specs.Joining.{IsAnswer, IsSourceOf, AreSourcesOf, AreDone}
use Rattle.room_products.specs.Joined.{node_of, arcs_in}

-- the arc of a source on a side
abbrev pub arc_from : Rec → Bool → Arc
arc_from r side = arc_to (node_of r) side

pub row_arc : (r : Rec) (side : Bool) (rows : List Rec) → Has r rows → Has (arc_from r side) (arcs_in rows)
row_arc r side rows m = has_arc_to (node_of r) side (map node_of rows) (has_map node_of r rows m)

pub arc_row : (a : Arc) (rows : List Rec) → Has a (arcs_in rows)
    → (r : Rec) × (side : Bool) × Has r rows × (arc_from r side ≡ a)
arc_row a [] m = absurd m
arc_row a (r ∷ rows) (inl e) = (r, false, inl refl, e)
arc_row a (r ∷ rows) (inr (inl e)) = (r, true, inl refl, e)
arc_row a (r ∷ rows) (inr (inr m)) = let (q, side, there, e) = arc_row a rows m in (q, side, inr there, e)

-- what a source has on a side
pub answer_on : (rule : Rule) (targets : Targets) (slots : List Rec) (count place : ℕ) (r : Rec) (side : Bool)
    → IsSourceOf rule targets slots count place r
    → IsAnswer (rule.goal (below_on rule targets side (pair_at slots place))) slots count (arc_from r side).target
answer_on rule targets slots count place r false is = is.low
answer_on rule targets slots count place r true is = is.high

module _ (rule : Rule) (targets : Targets) (slots : List Rec) (count : ℕ) (sources : List Rec)
    (are : AreSourcesOf rule targets slots count sources count) where
  long : length (take count sources) ≡ count
  long = length-take-le count sources are.within

  row_place : (r : Rec) → Has r (take count sources) → (k : ℕ) × (k < count) × (record_at sources k ≡ r)
  row_place r m =
      let (k, below, at) = member_place r (take count sources) m in
      let within : k < count = omega (arith, below, long) in
      (k, within, sym (get_or-take count sources k (record { w = [] }) within) ∙ at)

  pub place_row : (k : ℕ) → k < count → Has (record_at sources k) (take count sources)
  place_row k below =
      subst (λ r. Has r (take count sources)) (get_or-take count sources k (record { w = [] }) below)
      (has_at (take count sources) k (record { w = [] }) (omega (arith, below, long)))

  -- each is that of a slot
  pub row_slot : (r : Rec) → Has r (take count sources)
      → (place : ℕ) × (place < count) × IsSourceOf rule targets slots count place r
  row_slot r m =
      let (k, below, at) = row_place r m in
      let (place, under, is) = are.each k below in
      (place, under, subst (IsSourceOf rule targets slots count place) at is)

  -- each stands once
  pub same_row : (r s : Rec) → Has r (take count sources) → Has s (take count sources) → word 0 r ≡ word 0 s → r ≡ s
  same_row r s in_r in_s same =
      let (j, first, at_first) = row_place r in_r in
      let (k, second, at_second) = row_place s in_s in
      let one : word 0 (record_at sources j) ≡ word 0 (record_at sources k) =
      ap (word 0) at_first ∙ same ∙ ap (word 0) (sym at_second) in
      elim (cases_lt j k) [
        | inl before ↦ (let rises = are.ascend j k before second in absurd (omega (arith, rises, one)))
        | inr behind ↦ elim (cases_lt k j) [
          | inl after ↦ (let rises = are.ascend k j after first in absurd (omega (arith, rises, one)))
          | inr here ↦
              let place : j ≡ k = omega (arith, behind, here) in
              sym at_first ∙ ap (record_at sources) place ∙ at_second
        ]
      ]

  -- they ascend
  pub rows_ascend : (j k : ℕ) → j < k → k < length (take count sources)
      → word 0 (record_at (take count sources) j) < word 0 (record_at (take count sources) k)
  rows_ascend j k before below =
      let within : k < count = omega (arith, below, long) in
      let early : j < count = omega (arith, before, within) in
      let first : word 0 (record_at (take count sources) j) ≡ word 0 (record_at sources j) =
      ap (word 0) (get_or-take count sources j (record { w = [] }) early) in
      let second : word 0 (record_at (take count sources) k) ≡ word 0 (record_at sources k) =
      ap (word 0) (get_or-take count sources k (record { w = [] }) within) in
      let rises = are.ascend j k before within in
      omega (arith, first, second, rises)

-- where all are done, each slot has one
pub slot_row : (slots sources : List Rec) (count k : ℕ) → count ≤ length slots
    → AreDone (take count slots) (take count sources) → k < count
    → (r : Rec) × Has r (take count sources) × (word 0 r ≡ id_at slots k)
slot_row slots sources count k within done below =
    let (j, among, is) = done k (omega (arith, below, length-take-le count slots within)) in (
      record_at (take count sources) j,
      has_at (take count sources) j (record { w = [] }) among,
      is ∙ ap (word 2) (get_or-take count slots k (record { w = [] }) below),
    )
