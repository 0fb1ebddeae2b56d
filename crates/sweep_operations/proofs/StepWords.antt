-- An operation by its parts.
use Rattle.std.proofs.Common.{◌≡◌, ◌≢◌, ◌∙◌, refl, sym, ap, subst}
use Rattle.std.specs.Prelude.{Option, Some, None, IfSome, IfNone}
use Rattle.sweep_operations.specs.declared.steps.StepOperation.{StepOperation}
use Rattle.sweep_operations.specs.declared.steps.StepOperation.TheVariants as steps
use Rattle.sweep_operations.specs.OperationWords.{Operations, step_parts, step_of_parts, step_again}

-- the operation that is found has those parts
found_parts : (p : Operations) (x : StepOperation) → step_of_parts p ≡ Some x → step_parts x ≡ p
found_parts (Some o, (None, None)) x is =
    let e : steps.Operator o.op ≡ x = (cc) in subst (λ y. step_parts y ≡ (Some o, (None, None))) e refl
found_parts (Some o, (None, Some r)) x is = (cc)
found_parts (Some o, (Some q, None)) x is = (cc)
found_parts (Some o, (Some q, Some r)) x is = (cc)
found_parts (None, (Some q, None)) x is =
    let e : steps.Quantifier q.kind q.variable ≡ x = (cc) in
    subst (λ y. step_parts y ≡ (None, (Some q, None))) e refl
found_parts (None, (Some q, Some r)) x is = (cc)
found_parts (None, (None, Some r)) x is =
    let e : steps.Restriction r.variable r.value ≡ x = (cc) in
    subst (λ y. step_parts y ≡ (None, (None, Some r))) e refl
found_parts (None, (None, None)) x is =
    let e : steps.Choice ≡ x = (cc) in subst (λ y. step_parts y ≡ (None, (None, None))) e refl

pub if_found : (r : Option StepOperation) (P : StepOperation → Type 0) (p : Operations) → r ≡ step_of_parts p
    → ((x : StepOperation) → step_parts x ≡ p → P x) → IfSome r P
if_found None P p is there = tt
if_found (Some x) P p is there = there x (found_parts p x (sym is))

pub if_missing : (r : Option StepOperation) (Q : Type 0) (p : Operations) → r ≡ step_of_parts p
    → (((x : StepOperation) → step_parts x ≢ p) → Q) → IfNone r Q
if_missing None Q p is there = there (λ x same.
    let found : None ≡ Some x = is ∙ sym (ap step_of_parts same) ∙ step_again x in (cc))
if_missing (Some x) Q p is there = tt
