-- what is known once a pair has its answer
use Rattle.std.specs.Prelude.{◌≡◌, ◌⊎◌, ℕ, ◌+◌, ◌<◌, ◌≤◌, None, List, ◌∷◌}
use Rattle.std.proofs.Common.{refl, sym, ◌∙◌, ap, subst, inl, inr, arith}
use Rattle.std.proofs.lemmas.Bool.{cases_lt}
use Rattle.bool_tables.specs.declared.steps.Bin.{Bin}
use Rattle.rec_words.specs.declared.rec.Rec.{Rec}
use Rattle.top_down.specs.declared.tuple.Tuple.{Tuple}
use Rattle.top_down.specs.declared.tuple.Goal.{Goal}
use Rattle.top_down.specs.declared.tuple.Goal.TheVariants.{End, Go}
use Rattle.top_down.specs.Operations.{product_goal, product_rule}
use Rattle.top_down.specs.Tuples.{Targets, level_of_tuple}
use Rattle.top_down.specs.Rules.{Rule, IsRule, IsAsked}
use Rattle.top_down.proofs.ProductLaws.{product_goes}
use Rattle.room_products.specs.Goals.{end_in}
use Rattle.room_products.specs.Slots.{id_at, AreSlots, KeepsSlots}
use Rattle.room_products.specs.Joining.{IsTarget, IsJoining}
use Rattle.room_products.proofs.KeptSlots.{sources_kept}

-- a pair that doesn't end is asked for itself
pub goes_itself : (op : Bin) (x : Tuple) → end_in (product_goal op x) ≡ None → product_goal op x ≡ Go x
goes_itself op x none = by (product_goal op x) refl none
  where
    by : (goal : Goal) → product_goal op x ≡ goal → end_in goal ≡ None → product_goal op x ≡ Go x
    by (End value) e ended = cc
    by (Go y) e ended = e ∙ ap Go (sym (product_goes op x y e).0)

-- it may be asked for at its own level
pub asked_there : (n i : ℕ) (op : Bin) (x : Tuple) → IsAsked n (product_rule op) i x
    → IsAsked n (product_rule op) (level_of_tuple x) x
asked_there n i op x asked = record {
  from = record {
    first = record { deep = omega arith; within = asked.from.first.within };
    second = record { deep = omega arith; within = asked.from.second.within };
    third = record { deep = omega arith; within = asked.from.third.within };
  };
  may = refl;
}

-- which lies below the number of variables
pub below_all : (n i : ℕ) (op : Bin) (targets : Targets) (x : Tuple) → i ≤ n → IsRule n (product_rule op) targets
    → IsAsked n (product_rule op) i x → end_in (product_goal op x) ≡ None → level_of_tuple x < n
below_all n i op targets x within rule asked none = rule.goes_low i x x within asked (goes_itself op x none)

-- a word more may be owed
pub target_owed : (owed : List ℕ) (sources : List Rec) (done w more : ℕ) → IsTarget owed sources done w
    → IsTarget (more ∷ owed) sources done w
target_owed owed sources done w more (inl has) = inl (inr has)
target_owed owed sources done w more (inr target) = inr target

-- once a slot more is used, its identifier is owed
pub joining_more : (n root : ℕ) (roots : Tuple) (rule : Rule) (targets : Targets) (owed : List ℕ)
    (old new firsts later sources : List Rec) (count done w : ℕ) → KeepsSlots count (count + 1) old new
    → id_at new count ≡ w → AreSlots n rule new later (count + 1)
    → IsJoining n root roots rule targets owed old firsts count sources done
    → IsJoining n root roots rule targets (w ∷ owed) new later (count + 1) sources done
joining_more n root roots rule targets owed old new firsts later sources count done w kept id slots joining = record {
  slots_are = slots;
  sources_are = sources_kept rule targets count (count + 1) old new sources done kept joining.sources_are;
  some = omega arith;
  begins = kept.pairs 0 joining.some ∙ joining.begins;
  root_is = kept.ids 0 joining.some ∙ joining.root_is;
  met = λ k below. elim (cases_lt k count) [
    | inl older ↦ met_before k older (joining.met k older)
    | inr newer ↦
        let same : count ≡ k = omega (arith, below, newer) in
        inr (inl (inl (sym id ∙ ap (id_at new) same)))
  ];
}
  where
    met_before : (k : ℕ) → k < count → (root ≡ id_at old k) ⊎ IsTarget owed sources done (id_at old k)
        → (root ≡ id_at new k) ⊎ IsTarget (w ∷ owed) sources done (id_at new k)
    met_before k older (inl first) = inl (first ∙ sym (kept.ids k older))
    met_before k older (inr target) = inr (subst (IsTarget (w ∷ owed) sources done) (sym (kept.ids k older))
        (target_owed owed sources done (id_at old k) w target))
