use Rattle.std.proofs.Common.{◌≡◌, ◌⊎◌, ◌+◌, ◌≤◌, length, drop, sym, ◌∙◌, inl, inr, arith}
use Rattle.std.proofs.lemmas.Bool.{cases_lt, true≢false}
use Rattle.catalogue.specs.Standings.{without_budget}
use Rattle.catalogue.proofs.Budget.{length-without_budget}
use Rattle.catalogue.proofs.Shared.{shared, shared_past, AreSame, first_on, later_on, first_ends}
use Rattle.catalogue.proofs.compare.shared_len.Goals.{else-a-i-via-then-a-i+else-not-is_of_budget, else-a-i-via-else-a-i}
use Rattle.catalogue.proofs.compare.shared_len.Goals as goal

pub returns-then-not-is_of_budget-clause-first : goal.returns-then-not-is_of_budget-clause-first
returns-then-not-is_of_budget-clause-first c = λ none.
    let differ : ¬ (AreSame c.args.at c.loop-i.i c.args.a.now c.args.b.now) = λ same. elim same [
      | inl even ↦ c.if-a-i.true even
      | inr budget ↦ true≢false (sym (c.is_of_budget.ensures.1 budget) ∙ c.if-not-is_of_budget.true)
    ] in
    let ends : shared (drop c.loop-i.i (without_budget c.args.a.now)) (drop c.loop-i.i (without_budget c.args.b.now)) ≡ 0 =
    first_ends c.args.at c.loop-i.i c.args.a.now c.args.b.now none (omega arith) (omega arith) differ in
    let so_far = c.loop-i.invariant.first none in
    omega arith

pub loop-i-preserved : goal.loop-i-preserved
loop-i-preserved c =
    let same : AreSame c.args.at c.loop-i.i c.args.a.now c.args.b.now = elim c.else-a-i.branch [
      | else-a-i-via-then-a-i+else-not-is_of_budget w ↦ inr (w.is_of_budget.ensures.0 w.if-not-is_of_budget.false)
      | else-a-i-via-else-a-i w ↦ inl w.if-a-i.false
    ] in record {
      first = λ none.
          let more : shared (drop c.loop-i.i (without_budget c.args.a.now)) (drop c.loop-i.i (without_budget c.args.b.now))
          ≡ 1 + shared (drop (c.loop-i.i + 1) (without_budget c.args.a.now)) (drop (c.loop-i.i + 1) (without_budget c.args.b.now)) =
          first_on c.args.at c.loop-i.i c.args.a.now c.args.b.now (omega arith) (omega arith) same in
          let so_far = c.loop-i.invariant.first none in
          omega arith;
      later = λ past.
          let more : shared (drop c.loop-i.i c.args.a.now) (drop c.loop-i.i c.args.b.now) ≡ 1 + shared (drop (c.loop-i.i + 1) c.args.a.now) (drop (c.loop-i.i + 1) c.args.b.now) =
          later_on c.args.at c.loop-i.i c.args.a.now c.args.b.now past (omega arith) (omega arith) same in
          let so_far = c.loop-i.invariant.later past in
          omega arith;
    }

pub returns-clause-first : goal.returns-clause-first
returns-clause-first c = λ none.
    let long : length (without_budget c.args.a.now) ≡ length c.args.a.now = length-without_budget c.args.a.now in
    let other_long : length (without_budget c.args.b.now) ≡ length c.args.b.now = length-without_budget c.args.b.now in
    let past : (length (without_budget c.args.a.now) ≤ c.loop-i.i) ⊎ (length (without_budget c.args.b.now) ≤ c.loop-i.i) = elim (cases_lt (length c.args.b.now) (length c.args.a.now)) [
      | inl shorter ↦ inr (omega arith)
      | inr longer ↦ inl (omega arith)
    ] in
    let ends : shared (drop c.loop-i.i (without_budget c.args.a.now)) (drop c.loop-i.i (without_budget c.args.b.now)) ≡ 0 =
    shared_past c.loop-i.i (without_budget c.args.a.now) (without_budget c.args.b.now) past in
    let so_far = c.loop-i.invariant.first none in
    omega arith

pub returns-clause-later : goal.returns-clause-later
returns-clause-later c = λ later.
    let past : (length c.args.a.now ≤ c.loop-i.i) ⊎ (length c.args.b.now ≤ c.loop-i.i) = elim (cases_lt (length c.args.b.now) (length c.args.a.now)) [
      | inl shorter ↦ inr (omega arith)
      | inr longer ↦ inl (omega arith)
    ] in
    let ends : shared (drop c.loop-i.i c.args.a.now) (drop c.loop-i.i c.args.b.now) ≡ 0 = shared_past c.loop-i.i c.args.a.now c.args.b.now past in
    let so_far = c.loop-i.invariant.later later in
    omega arith
