-- The first records of a file, read piece by piece.
use Rattle.std.proofs.Common.{◌≡◌, ℕ, ◌+◌, ◌≤◌, Bool, ap, arith}
use Rattle.shelf_model.specs.declared.file_no.FileNo.{FileNo}
use Rattle.shelf_model.specs.Folder.{Folder, file_in}
use Rattle.shelf_model.specs.World.{World, now, file}
use Rattle.shelf_model.specs.Calls.{Told}
use Rattle.shelf_model.specs.Moments.{Stays}
use Rattle.shelf_model.proofs.Runs.{told, ran_end}
use Rattle.block_stream.specs.Reads.{Looked}
use Rattle.block_stream.proofs.WriteRuns.{looked_on}

-- reading a piece takes no more calls than the piece has records
pub piece_looked : {S : Type 0} (tells : S → Bool) (world : S → World) (a w : ℕ) (old s t : S) → 1 ≤ w
    → Told tells old s (Looked a (world old) (world s)) → Told tells s t (Looked 1 (world s) (world t))
    → Told tells old t (Looked (a + w) (world old) (world t))
piece_looked tells world a w old s t some before piece =
    looked_on tells world a w old s t before (told tells s t _ _ piece (λ _ looked. record {
      run = looked.run;
      few = omega (arith, some, looked.few);
    }))

-- looking leaves the bytes of a file
pub bytes_looked : (n : ℕ) (f : FileNo) (old new : World) → Looked n old new → (file new f).bytes ≡ (file old f).bytes
bytes_looked n f old new looked =
    ap (λ (d : Folder). (file_in d f).bytes) (ran_end old new (Stays (now old)) looked.run)
