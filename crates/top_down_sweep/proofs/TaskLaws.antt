-- The operations on canonical files as tasks.
use Rattle.std.proofs.Common.{ℕ, Bool, List, sym, subst}
use Rattle.shelf_model.specs.declared.file_no.FileNo.{FileNo}
use Rattle.shelf_model.specs.World.{World}
use Rattle.canon_file.specs.Canon.{canon_nodes, canon_root, canon_bytes}
use Rattle.canon_file.specs.Laws.{HasForm}
use Rattle.node_file.specs.Nodes.{HasNodes}
use Rattle.top_down_laws.specs.Operations.{canon_diagrams}
use Rattle.tuple_asks.specs.declared.files.Files.{Files}
use Rattle.top_down.specs.declared.tuple.Tuple.{Tuple}
use Rattle.tuple_asks.specs.Readings.{IsNodeFile, AreNodeFiles}
use Rattle.node_file.specs.Canonical.{IsCanonicalFile}
use Rattle.top_down_sweep.specs.Tasks.{AreCanonicalFiles}

-- the roots of three tables' files
abbrev pub file_roots : ℕ → List Bool → List Bool → List Bool → Tuple
file_roots n t u v = record {
  first = canon_root n t;
  second = canon_root n u;
  third = canon_root n v;
}

-- canonical files are those of the diagrams' nodes, with their roots
pub node_files : (n : ℕ) (t u v : List Bool) (files : Files) (world : World)
    → ((s : List Bool) → HasForm n s → HasNodes n (canon_root n s) (canon_nodes n s)
    (canon_bytes n s)) → AreCanonicalFiles n t u v files world
    → AreNodeFiles files world n (file_roots n t u v) (canon_diagrams n t u v)
node_files n t u v files world read canonical = record {
  first = one t files.first canonical.first;
  second = one u files.second canonical.second;
  third = one v files.third canonical.third;
}
  where
    one : (s : List Bool) (f : FileNo) → IsCanonicalFile n s f world
        → IsNodeFile f world n (canon_root n s) (canon_nodes n s)
    one s f is = subst (HasNodes n (canon_root n s) (canon_nodes n s)) (sym is.bytes_are)
        (read s is.form)
