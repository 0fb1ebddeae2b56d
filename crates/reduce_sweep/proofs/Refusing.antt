-- Why a call of a list and a write are refused.
use Rattle.std.proofs.Common.{◌≡◌, ◌∙◌, ◌^◌, ◌≤◌, ap, sym, subst, inr}
use Rattle.std.specs.Prelude.{Result, Ok, Err, IfErr, IsErrAnd, IsErrOf}
use Rattle.shelf_model.specs.declared.file_no.FileNo.{FileNo}
use Rattle.shelf_model.specs.declared.sort_fault.SortFault.{SortFault}
use Rattle.shelf_model.specs.declared.sort_fault.SortFault.TheVariants.{Shelf, Damaged, RunsSpent}
use Rattle.shelf_model.specs.declared.fault.StreamFault.{StreamFault}
use Rattle.shelf_model.specs.declared.fault.StreamFault.TheVariants as stream
use Rattle.shelf_model.specs.SortFaults.{handed_on}
use Rattle.reduce_lists.specs.Damage.{IsListCause}
use Rattle.reduce_sweep.specs.declared.reduce.ReduceSweep.{ReduceSweep}
use Rattle.reduce_sweep.specs.Sweeps.{Refuses}

-- a call of a list is refused
pub list_refuses : (inner ends : FileNo) (t : ReduceSweep) (e : SortFault) → IsListCause t.parts e
    → Refuses inner ends t e
list_refuses inner ends t Shelf cause = tt
list_refuses inner ends t (Damaged f at) cause = inr (inr cause)
list_refuses inner ends t RunsSpent cause = cause

-- a write is refused where a call of the folder failed
pub write_refuses : {T : Type 0} (inner ends : FileNo) (t : ReduceSweep) (result : Result T SortFault)
    (fault : StreamFault) → IsErrAnd result (λ e. e ≡ handed_on fault) → fault ≡ stream.Shelf
    → IfErr result (Refuses inner ends t)
write_refuses inner ends t (Ok x) fault is shelf = tt
write_refuses inner ends t (Err e) fault is shelf = subst (Refuses inner ends t) (sym (is ∙ ap handed_on shelf)) tt

-- where it is refused for want of a part number, no number below 2 ^ 32 is left
pub refused_spent : {T : Type 0} (inner ends : FileNo) (t : ReduceSweep) (result : Result T SortFault)
    → IfErr result (Refuses inner ends t) → IsErrOf result RunsSpent → 2 ^ 32 ≤ t.parts.next
refused_spent inner ends t result refused spent =
    subst (λ (r : Result _ SortFault). IfErr r (Refuses inner ends t)) spent refused
