use Rattle.std.proofs.Common.{◌≡◌}
use Rattle.std.specs.Prelude.{None}
use Rattle.std.specs.Map.{lookup}
use Rattle.std.specs.BTreeMap.{is_at}
use Rattle.shelf_model.specs.declared.file_no.FileNo.{FileNo}
use Rattle.shelf_model.specs.File.{firm_file}
use Rattle.shelf_model.specs.Folder.{file_cmp}
use Rattle.shelf_memory.specs.Benches.{IsFresh, SameTexts, file_at}
use Rattle.shelf_memory.specs.Choices.{chosen_of}
use Rattle.shelf_memory.specs.Files.{stored_in}
use Rattle.shelf_memory.proofs.bench.Bench.take_files.Given as goal

-- each file that isn't among those to come is as the choice takes it
abbrev pub invariant-loop-f : goal.invariant-loop-f
invariant-loop-f l = record {
  fresh : IsFresh l.self;
  taken : (q : FileNo) → lookup (is_at (file_cmp q)) l.f-iterator ≡ None → file_at l.self q ≡ firm_file (chosen_of l.choice q (stored_in l.files q));
  texts : SameTexts l.fn.self l.self;
}
