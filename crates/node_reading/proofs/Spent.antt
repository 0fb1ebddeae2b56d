-- No fault of a stream, or of a file of nodes, is for want of a part number.
use Rattle.std.proofs.Common.{◌≢◌}
use Rattle.std.specs.Prelude.{Result, Ok, Err, IfErr}
use Rattle.shelf_model.specs.declared.file_no.FileNo.{FileNo}
use Rattle.shelf_model.specs.declared.fault.StreamFault.{StreamFault}
use Rattle.shelf_model.specs.declared.fault.StreamFault.TheVariants as stream
use Rattle.shelf_model.specs.declared.sort_fault.SortFault.{SortFault}
use Rattle.shelf_model.specs.declared.sort_fault.SortFault.TheVariants as sort
use Rattle.shelf_model.specs.SortFaults.{handed_on}
use Rattle.node_reading.specs.Reading.{IsFaultOf}

-- one of a stream isn't
pub not_spent : (e : StreamFault) → handed_on e ≢ sort.RunsSpent
not_spent stream.Shelf is = cc
not_spent (stream.Damaged f at) is = cc

-- nor is one of a file
pub file_not_spent : (file : FileNo) (e : SortFault) → IsFaultOf file e → e ≢ sort.RunsSpent
file_not_spent file sort.Shelf fault is = cc
file_not_spent file (sort.Damaged f at) fault is = cc
file_not_spent file sort.RunsSpent fault is = absurd fault

pub answer_not_spent : {T : Type 0} (file : FileNo) (result : Result T SortFault) → IfErr result (IsFaultOf file)
    → IfErr result (λ e. e ≢ sort.RunsSpent)
answer_not_spent file (Ok x) fault = tt
answer_not_spent file (Err e) fault = file_not_spent file e fault
