-- What the files say of a job and its committed steps. A folder and an image are taken by the bytes of each file.
use Rattle.std.specs.Prelude.{◌≡◌, ℕ, ◌*◌, Bool, IsTrue, List, length, take, drop, nat_lt, if◌then◌else◌}
use Rattle.shelf_model.specs.declared.file_no.FileNo.{FileNo}
pub use Rattle.file_writes.specs.Present.{present}
use Rattle.catalogue.specs.Files.{entry_size, job_gate, catalogue, step_gate}

-- a job is stored exactly where its gate isn't empty
abbrev pub is_stored : (FileNo → List ℕ) → Bool
is_stored r = nat_lt 0 (length (r job_gate))

-- the count of committed steps: none where no job is stored, and else the length of their gate
abbrev pub count_in : (FileNo → List ℕ) → ℕ
count_in r = if is_stored r then length (r step_gate) else 0

-- the bytes at the place of a step's entry: those of an entry, or fewer where the catalogue ends
abbrev pub entry_at : ℕ → (FileNo → List ℕ) → List ℕ
entry_at k r = take entry_size (drop (entry_size * k) (r catalogue))

-- a job is stored, and so many steps are committed
pub record HasCount (n : ℕ) (r : FileNo → List ℕ) : Type 0 where
  pub stored : IsTrue (is_stored r)
  pub count : count_in r ≡ n
