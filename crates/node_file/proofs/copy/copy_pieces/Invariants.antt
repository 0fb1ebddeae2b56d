use Rattle.std.proofs.Common.{◌≡◌, ◌*◌, ◌≤◌, ℕ, List, take}
use Rattle.std.specs.Prelude.{IsTrue}
use Rattle.shelf_model.specs.World.{file}
use Rattle.shelf_model.specs.Calls.{Told, most_piece}
use Rattle.node_file.specs.Changes.{Changed}
use Rattle.node_file.proofs.copy.copy_pieces.Given as goal

-- the pieces before this one stand in the file
abbrev pub invariant-loop-piece : goal.invariant-loop-piece
invariant-loop-piece g l = record {
  copied : IsTrue (g.S.Shelf.tells l.shelf) → (file (g.S.Shelf.world l.shelf) l.fn.to).bytes
      ≡ take (l.piece * most_piece) (file (g.S.Shelf.world l.fn.shelf) l.fn.from).bytes;
  so_far : Told g.S.Shelf.tells l.fn.shelf l.shelf
      (Changed (2 * l.piece) l.fn.to (g.S.Shelf.world l.fn.shelf) (g.S.Shelf.world l.shelf));
  folder_later : (g.S.Shelf.faults l.fn.shelf).folder ≤ (g.S.Shelf.faults l.shelf).folder;
  say_is : (g.S.Shelf.faults l.shelf).say ≡ (g.S.Shelf.faults l.fn.shelf).say;
  text_is : (path : List ℕ) → (g.S.Shelf.faults l.shelf).text path ≡ (g.S.Shelf.faults l.fn.shelf).text path;
}
