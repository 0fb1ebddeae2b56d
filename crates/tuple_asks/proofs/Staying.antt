-- What is read of operands where their files stay as they are.
use Rattle.std.proofs.Common.{◌≡◌, ℕ, ◌∙◌, List, refl, sym, subst, ap, ◌+◌}
use Rattle.std.specs.Prelude.{◌⊎◌, Option, Some, None}
use Rattle.shelf_model.specs.declared.file_no.FileNo.{FileNo}
use Rattle.shelf_model.specs.declared.sort_fault.SortFault.{SortFault}
use Rattle.shelf_model.specs.Folder.{Folder, file_in}
use Rattle.shelf_model.specs.Moments.{Ran, Stays}
use Rattle.shelf_model.specs.World.{World, now, file}
use Rattle.shelf_model.proofs.Runs.{ran_end}
use Rattle.node_reading.specs.Reading.{bytes_of}
use Rattle.node_reading.proofs.NodeReading.{still_reading, trailer_before}
use Rattle.tuple_asks.specs.declared.operand.Operand.{Operand}
use Rattle.tuple_asks.specs.Operands.{IsOperand}
use Rattle.node_file.specs.Readers.{AreLeft}
use Rattle.top_down_laws.specs.Readings.{Reading}
use Rattle.tuple_asks.specs.Readings.{IsReadOf}
use Rattle.node_reading.specs.Resuming.{IsPlaceFault}
use Rattle.sweep_core.specs.Saving.{reads_of}
use Rattle.tuple_asks.specs.Resuming.{IsOperandFault, IsHandFault, operand_calls}

pub looked_same : (old new : World) → Ran (Stays (now old)) old new → (f : FileNo)
    → (file new f).bytes ≡ (file old f).bytes
looked_same old new ran f = ap (λ (d : Folder). (file_in d f).bytes)
    (ran_end old new (Stays (now old)) ran)

-- what was read of an operand stays where the bytes of its file do
pub read_still : (n : ℕ) (o : Operand) (old new : World) (r : Reading) → IsOperand n o
    → (file new o.file).bytes ≡ (file old o.file).bytes → IsReadOf o old r → IsReadOf o new r
read_still n o old new r is same read =
    let bytes : bytes_of o.reader new ≡ bytes_of o.reader old =
    ap (λ f. (file new f).bytes) is.file_is ∙ same ∙ sym (ap (λ f. (file old f).bytes) is.file_is)
    in
    record {
      hand_is = read.hand_is;
      reads = still_reading o.reader o.reader old new refl bytes read.reads read.reads.reads;
      left = subst (λ b. AreLeft o.reader b r.unread) (sym bytes) read.left;
    }

-- where the files stay, they are read as they were
pub reads_stay : (old new : World) → Ran (Stays (now old)) old new → reads_of new ≡ reads_of old
reads_stay old new ran = ap (λ (d : Folder). λ (f : FileNo). (file_in d f).bytes) (ran_end old new (Stays (now old)) ran)

pub fault_before : (n step : ℕ) (f : FileNo) (read : Option ℕ) (old mid : World) (e : SortFault)
    → Ran (Stays (now old)) old mid → IsOperandFault n step f read mid e → IsOperandFault n step f read old e
fault_before n step f None old mid e ran fault = trailer_before f n old mid e (looked_same old mid ran f) fault
fault_before n step f (Some place) old mid e ran fault =
    subst (λ r. IsPlaceFault n step (record { file = f; place = place + 1 }) r e ⊎ IsHandFault n f r e)
    (reads_stay old mid ran) fault

pub calls_before : (f : FileNo) (old mid : World) → Ran (Stays (now old)) old mid
    → operand_calls (reads_of mid f) ≡ operand_calls (reads_of old f)
calls_before f old mid ran = ap (λ (r : FileNo → List ℕ). operand_calls (r f)) (reads_stay old mid ran)
