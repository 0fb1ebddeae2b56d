-- The step from the deeper levels of a diagram to the next one above them.
use Rattle.std.specs.Prelude.{◌≡◌, ◌≢◌, ℕ, suc, ◌-◌, ◌<◌, ◌≤◌, List, [], ◌++◌, length}
use Rattle.std.proofs.Common.{◌∙◌, sym, ap, subst, inl, inr, arith}
use Rattle.std.proofs.lemmas.Bool.{cases_lt}
use Rattle.std.proofs.lemmas.List.{map-append}
use Rattle.rec_words.specs.Words.{level_of}
use Rattle.rec_words.specs.Records.{node_words}
use Rattle.rec_words.specs.declared.rec.Rec.{Rec}
use Rattle.block_stream.specs.Items.{item_record}
use Rattle.list_laws.specs.Members.{Has}
use Rattle.list_laws.proofs.SameMembers.{has_at}
use Rattle.run_files.specs.Items.{record_at}
use Rattle.canon_file.specs.Canon.{numbered}
use Rattle.arc_file.specs.declared.arc.Arc.{Arc}
use Rattle.arc_diagrams.specs.Arcs.{targets_of, IsMet, IsComplete}
use Rattle.arc_diagrams.specs.Reduction.{final_pointer, final_rows, final_nodes}
use Rattle.arc_diagrams.specs.Reducing.{nodes_from}
use Rattle.arc_diagrams.proofs.Remaining.{nodes_from-level}
use Rattle.node_file.specs.Nodes.{node_records}
use Rattle.room_reduction.specs.Records.{word}
use Rattle.room_reduction.specs.Sources.{AreSources}
use Rattle.room_reduction.specs.Levels.{KeepsSources, AreKnown, IsLevel, IsDone, nodes_down_to}
use Rattle.room_reduction.proofs.LevelSources.{member_place}

-- sources whose identifiers and targets are kept are still those of the arcs
are_kept : (n root : ℕ) (arcs : List Arc) (old new : List Rec) → KeepsSources old new → AreSources n root arcs old
    → AreSources n root arcs new
are_kept n root arcs old new same are = record {
  ascend = λ j k before below.
      let first = same.source j in
      let second = same.source k in
      let rises = are.ascend j k before (omega (arith, below, same.many)) in
      omega (arith, first, second, rises);
  met = λ r m.
      let (k, below, at) = member_place r new m in
      subst (IsMet root arcs) (sym (same.source k) ∙ ap (word 0) at) (are.met (record_at old k) (old_has k below));
  within = λ r m.
      let (k, below, at) = member_place r new m in
      subst (λ w. level_of w < n) (sym (same.source k) ∙ ap (word 0) at)
      (are.within (record_at old k) (old_has k below));
  each = λ a m.
      let (r, in_old, of_r) = are.each a m in
      let (k, below, at) = member_place r old in_old in (
        record_at new k,
        has_at new k (record { w = [] }) (omega (arith, below, same.many)),
        same.source k ∙ ap (word 0) at ∙ of_r,
      );
  low = λ r m.
      let (k, below, at) = member_place r new m in
      sym (ap (word 1) at) ∙ same.low k ∙ are.low (record_at old k) (old_has k below)
      ∙ ap (λ w. (targets_of arcs w).low) (sym (same.source k) ∙ ap (word 0) at);
  high = λ r m.
      let (k, below, at) = member_place r new m in
      sym (ap (word 2) at) ∙ same.high k ∙ are.high (record_at old k) (old_has k below)
      ∙ ap (λ w. (targets_of arcs w).high) (sym (same.source k) ∙ ap (word 0) at);
}
  where
    old_has : (k : ℕ) → k < length new → Has (record_at old k) old
    old_has k below = has_at old k (record { w = [] }) (omega (arith, below, same.many))

-- the levels of sources rise
levels_rise : (n root : ℕ) (arcs : List Arc) (sources : List Rec) (j k : ℕ) → AreSources n root arcs sources → j ≤ k
    → k < length sources → level_of (word 0 (record_at sources j)) ≤ level_of (word 0 (record_at sources k))
levels_rise n root arcs sources j k are order below =
    elim (cases_lt j k) [
      | inl before ↦ let rises = are.ascend j k before below in omega (arith, rises)
      | inr later ↦
          let same : j ≡ k = omega (arith, order, later) in
          let one = ap (λ p. level_of (word 0 (record_at sources p))) same in omega (arith, one)
    ]

-- a level is that of the sources which end where the deeper ones begin
pub is_level : (n root : ℕ) (arcs : List Arc) (level from end : ℕ) (sources : List Rec) → n ≤ 65535
    → IsComplete n root arcs → end ≤ length sources → from ≤ end
    → ((k : ℕ) → from ≤ k → k < end → level_of (word 0 (record_at sources k)) ≡ level)
    → (0 < from → level_of (word 0 (record_at sources (from - 1))) ≢ level)
    → IsDone n root arcs (suc level) end sources → IsLevel n root arcs level from end sources
is_level n root arcs level from end sources few complete within order own other done = record {
  few = few;
  complete = complete;
  sources_are = done.sources_are;
  known = done.known;
  own = own;
  before = λ k early.
      let differ = other (omega (arith, early)) in
      let above = done.before (from - 1) (omega (arith, early, order)) in
      let rises = levels_rise n root arcs sources k (from - 1) done.sources_are (omega (arith, early))
      (omega (arith, early, order, within)) in
      omega (arith, differ, above, rises);
  behind = λ k later below. let deep = done.behind k later below in omega (arith, deep);
}

-- so the level is done after the deeper ones
pub level_done : (n root : ℕ) (arcs : List Arc) (level from end : ℕ) (sources new : List Rec)
    → IsLevel n root arcs level from end sources → KeepsSources sources new
    → AreKnown (final_pointer n arcs) from new → IsDone n root arcs level from new
level_done n root arcs level from end sources new is same known = record {
  sources_are = are_kept n root arcs sources new same is.sources_are;
  known = known;
  before = λ k early. subst (λ w. level_of w < level) (sym (same.source k)) (is.before k early);
  behind = λ k later below.
      elim (cases_lt k end) [
        | inl before ↦
            let here = ap level_of (same.source k) ∙ is.own k later before in omega (arith, here)
        | inr past ↦
            let deep = is.behind k past (omega (arith, below, same.many)) in
            let here = ap level_of (same.source k) in omega (arith, here, deep)
      ];
}

-- its nodes stand behind theirs
pub nodes_onward : (n : ℕ) (arcs : List Arc) (level : ℕ) → level < n
    → nodes_down_to (suc level) n arcs ++ node_records (numbered level 0 (final_rows n arcs level))
    ≡ nodes_down_to level n arcs
nodes_onward n arcs level below =
    sym (ap node_records (nodes_from-level n arcs level below)
    ∙ map-append (item_record node_words) (nodes_from n arcs (suc level)) (numbered level 0 (final_rows n arcs level)))

-- at first no level is done, and there is no node
pub none_done : (n root : ℕ) (arcs : List Arc) (i from : ℕ) (sources : List Rec) → i ≡ n → from ≡ length sources
    → AreSources n root arcs sources → IsDone n root arcs i from sources
none_done n root arcs i from sources top all are = record {
  sources_are = are;
  known = λ k later below. absurd (omega (arith, all, later, below));
  before = λ k early.
      let member = has_at sources k (record { w = [] }) (omega (arith, all, early)) in
      let shallow = are.within (record_at sources k) member in
      omega (arith, top, shallow);
  behind = λ k later below. absurd (omega (arith, all, later, below));
}

pub none_made : (n : ℕ) (arcs : List Arc) (i : ℕ) → i ≡ n → [] ≡ nodes_down_to i n arcs
none_made n arcs i top =
    let none : n - i ≡ 0 = omega (arith, top) in sym (ap (λ h. node_records (final_nodes n arcs h i)) none)
