use Rattle.std.proofs.Common.{◌≡◌, ℕ, ◌*◌, ◌≤◌, ◌++◌, List, length, IsTrue}
use Rattle.shelf_model.specs.World.{file}
use Rattle.shelf_model.specs.Calls.{Told}
use Rattle.block_stream.specs.Reads.{Looked}
use Rattle.block_stream.specs.Forwards.{reading_of}
use Rattle.arc_file.specs.declared.arc.Arc.{Arc}
use Rattle.arc_file.specs.Files.{BeginWith}
use Rattle.packed_records.specs.Packed.{packed}
use Rattle.room_reduction.specs.Filling.{AreMet, AreTaken}
use Rattle.room_reduction.proofs.filling.read_arcs.Given as goal

-- the first arcs were taken, and the stream has the others before it
abbrev pub invariant-loop-arc : goal.invariant-loop-arc
invariant-loop-arc g l = record {
  within : l.found ≤ 4 * length l.sources;
  same_file : (reading_of l.arcs).file ≡ l.fn.from.file;
  taken : IsTrue (g.S.Shelf.tells l.shelf) → (root : ℕ) (all these left : List Arc) →
      BeginWith these l.fn.from.count (file (g.S.Shelf.world l.fn.shelf) l.fn.from.file).bytes →
      AreMet l.n root all (these ++ left) (packed l.fn.sources) l.before →
      AreTaken l.n root all left l.fn.from.count l._arc l.arcs (file (g.S.Shelf.world l.fn.shelf) l.fn.from.file).bytes
      (packed l.sources) l.found;
  looked : Told g.S.Shelf.tells l.fn.shelf l.shelf
      (Looked l._arc (g.S.Shelf.world l.fn.shelf) (g.S.Shelf.world l.shelf));
  folder_later : (g.S.Shelf.faults l.fn.shelf).folder ≤ (g.S.Shelf.faults l.shelf).folder;
  say_is : (g.S.Shelf.faults l.shelf).say ≡ (g.S.Shelf.faults l.fn.shelf).say;
  text_is : (path : List ℕ) → (g.S.Shelf.faults l.shelf).text path ≡ (g.S.Shelf.faults l.fn.shelf).text path;
}
