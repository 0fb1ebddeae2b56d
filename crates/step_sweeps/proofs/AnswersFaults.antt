-- Where a step that answers by reading finds a file damaged.
use Rattle.std.proofs.Common.{◌≡◌, ℕ, ◌∙◌, List, subst, ap, inl, inr}
use Rattle.shelf_model.specs.declared.file_no.FileNo.{FileNo}
use Rattle.shelf_model.specs.declared.sort_fault.SortFault.{SortFault}
use Rattle.shelf_model.specs.declared.sort_fault.SortFault.TheVariants.{Shelf, Damaged, RunsSpent}
use Rattle.shelf_model.specs.File.{File}
use Rattle.shelf_model.specs.World.{World, file}
use Rattle.node_file.specs.declared.reader.NodeReader.{NodeReader}
use Rattle.node_file.specs.Readers.{file_of, trailer_of}
use Rattle.node_reading.specs.Reading.{bytes_of, IsDamagedNode, IsNodeFault}
use Rattle.restrict_eval.specs.declared.eval.EvalSweep.{EvalSweep}
use Rattle.restrict_eval.specs.declared.same.SameSweep.{SameSweep}
use Rattle.node_reading.specs.Missing.{IsMissedAt}
use Rattle.restrict_eval.specs.Eval as eval
use Rattle.restrict_eval.specs.Same as same
use Rattle.step_sweeps.specs.Damage.{IsDamagedBy, MissesNone, MissesNamed, IsReadFault}

-- the bytes that a reader reads are those that the file had
bytes_then : (read : FileNo) (r : NodeReader) (new old : World) → file_of r ≡ read → file new read ≡ file old read
    → bytes_of r new ≡ (file old read).bytes
bytes_then read r new old place same = ap (λ g. (file new g).bytes) place ∙ ap (λ (x : File). x.bytes) same

-- a damaged node is damage of its file
node_damage : (Misses : List ℕ → ℕ → Type 0) (n : ℕ) (read : FileNo) (r : NodeReader) (new old : World) (f : FileNo) (at : ℕ) → file_of r ≡ read
    → (trailer_of r).n ≡ n → file new read ≡ file old read → IsNodeFault r new (Damaged f at)
    → IsDamagedBy Misses n read old f at
node_damage Misses n read r new old f at place variables same fault = (
  fault.0 ∙ place,
  inr (inl (subst (λ k. IsDamagedNode k (file old read).bytes at) variables
      (subst (λ bytes. IsDamagedNode (trailer_of r).n bytes at) (bytes_then read r new old place same) fault.1))),
)

-- damage that a comparison finds is that of one of its files
pub same_fault : (n : ℕ) (left right : FileNo) (s : SameSweep) (new old : World) (e : SortFault)
    → file_of s.left ≡ left → file_of s.right ≡ right → (trailer_of s.left).n ≡ n → (trailer_of s.right).n ≡ n
    → file new left ≡ file old left → file new right ≡ file old right → same.IsDamage s new e
    → IsReadFault MissesNone n left right old e
same_fault n left right s new old Shelf one two first second here there damage = tt
same_fault n left right s new old (Damaged f at) one two first second here there (inl fault) =
    inl (node_damage MissesNone n left s.left new old f at one first here fault)
same_fault n left right s new old (Damaged f at) one two first second here there (inr fault) =
    inr (node_damage MissesNone n right s.right new old f at two second there fault)
same_fault n left right s new old RunsSpent one two first second here there damage = damage

-- damage that an evaluation finds is that of its file
pub eval_fault : (n : ℕ) (read : FileNo) (s : EvalSweep) (new old : World) (e : SortFault) → file_of s.nodes ≡ read
    → (trailer_of s.nodes).n ≡ n → file new read ≡ file old read → eval.IsDamage s new e
    → IsReadFault MissesNamed n read read old e
eval_fault n read s new old Shelf place variables same damage = tt
eval_fault n read s new old (Damaged f at) place variables same (inl fault) =
    inl (node_damage MissesNamed n read s.nodes new old f at place variables same fault)
eval_fault n read s new old (Damaged f at) place variables same (inr fault) = inl (
  fault.0 ∙ place,
  inr (inr (subst (λ bytes. IsMissedAt bytes at) (bytes_then read s.nodes new old place same) fault.1)),
)
eval_fault n read s new old RunsSpent place variables same damage = damage
