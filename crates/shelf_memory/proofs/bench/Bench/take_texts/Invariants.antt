use Rattle.std.proofs.Common.{◌≡◌, ℕ, List}
use Rattle.std.specs.Prelude.{None, string_bytes}
use Rattle.std.specs.Map.{lookup}
use Rattle.std.specs.Ordering.{nat_cmp}
use Rattle.std.specs.Cmp.Lexicographic.{slice_cmp}
use Rattle.std.specs.BTreeMap.{is_at}
use Rattle.shelf_model.specs.declared.file_no.FileNo.{FileNo}
use Rattle.shelf_model.specs.File.{no_file}
use Rattle.shelf_memory.specs.Benches.{IsFresh, file_at, world_of}
use Rattle.shelf_memory.specs.Texts.{text_at}
use Rattle.shelf_memory.proofs.bench.Bench.take_texts.Given as goal

-- each text that isn't among those to come was put
abbrev pub invariant-loop-path : goal.invariant-loop-path
invariant-loop-path l = record {
  fresh : IsFresh l.self;
  taken : (q : List ℕ) → lookup (is_at (λ path. slice_cmp nat_cmp q (string_bytes path))) l.path-iterator ≡ None → (world_of l.self).texts q ≡ text_at l.texts q;
  files : (f : FileNo) → file_at l.self f ≡ no_file;
}
