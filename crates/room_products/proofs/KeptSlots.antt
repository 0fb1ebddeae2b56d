-- what is known of slots that stay as they are while more are used
use Rattle.std.specs.Prelude.{ℕ, ◌<◌, ◌≤◌, Bool, false, true, List}
use Rattle.std.proofs.Common.{sym, ◌∙◌, ap, subst, inl, inr, arith}
use Rattle.rec_words.specs.declared.rec.Rec.{Rec}
use Rattle.run_files.specs.Items.{record_at}
use Rattle.top_down.specs.declared.tuple.Goal.{Goal}
use Rattle.top_down.specs.declared.tuple.Goal.TheVariants.{Go}
use Rattle.top_down.specs.Tuples.{Targets}
use Rattle.top_down.specs.Rules.{Rule, below_on}
use Rattle.room_reduction.specs.Records.{word}
use Rattle.room_products.specs.Slots.{pair_at, KeepsSlots}
use Rattle.room_products.specs.Joining.{IsAnswer, IsSourceOf, AreSourcesOf}

-- slots that are kept are kept by what keeps those
pub keeps_both : (first second third : ℕ) (old mid new : List Rec) → KeepsSlots first second old mid
    → KeepsSlots second third mid new → KeepsSlots first third old new
keeps_both first second third old mid new before after =
    let later : first ≤ second = before.later in
    let latest : second ≤ third = after.later in
    record {
      many = after.many ∙ before.many;
      later = omega arith;
      pairs = λ k below. after.pairs k (omega arith) ∙ before.pairs k below;
      ids = λ k below. after.ids k (omega arith) ∙ before.ids k below;
    }

-- what answers a pair still answers it
pub answer_kept : (goal : Goal) (count more : ℕ) (old new : List Rec) (w : ℕ) → KeepsSlots count more old new
    → IsAnswer goal old count w → IsAnswer goal new more w
answer_kept goal count more old new w kept (inl ends) = inl ends
answer_kept goal count more old new w kept (inr (k, below, goes, same)) =
    let later : count ≤ more = kept.later in
    inr (k, omega arith, goes ∙ ap Go (sym (kept.pairs k below)), same ∙ sym (kept.ids k below))

-- the source of a pair still is its source
pub source_kept : (rule : Rule) (targets : Targets) (count more : ℕ) (old new : List Rec) (place : ℕ) (r : Rec)
    → KeepsSlots count more old new → place < count → IsSourceOf rule targets old count place r
    → IsSourceOf rule targets new more place r
source_kept rule targets count more old new place r kept below source = record {
  source_is = source.source_is ∙ sym (kept.ids place below);
  low = on false (word 1 r) source.low;
  high = on true (word 2 r) source.high;
}
  where
    on : (side : Bool) (w : ℕ) → IsAnswer (rule.goal (below_on rule targets side (pair_at old place))) old count w
        → IsAnswer (rule.goal (below_on rule targets side (pair_at new place))) new more w
    on side w answer = subst (λ x. IsAnswer (rule.goal (below_on rule targets side x)) new more w)
        (sym (kept.pairs place below))
        (answer_kept (rule.goal (below_on rule targets side (pair_at old place))) count more old new w kept answer)

-- so are all sources that are done
pub sources_kept : (rule : Rule) (targets : Targets) (count more : ℕ) (old new sources : List Rec) (done : ℕ)
    → KeepsSlots count more old new → AreSourcesOf rule targets old count sources done
    → AreSourcesOf rule targets new more sources done
sources_kept rule targets count more old new sources done kept are = record {
  within = are.within;
  each = λ k below.
      let (place, used, source) = are.each k below in
      let later : count ≤ more = kept.later in
      (place, omega arith, source_kept rule targets count more old new place (record_at sources k) kept used source);
  ascend = are.ascend;
}
