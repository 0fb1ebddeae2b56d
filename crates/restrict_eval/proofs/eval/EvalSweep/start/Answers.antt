use Rattle.std.proofs.Common.{◌+◌, ◌≤◌, ◌∙◌, length, sym, ap, subst, refl}
use Rattle.canon_file.specs.Canon.{canon_nodes, canon_root}
use Rattle.shelf_model.specs.World.{file}
use Rattle.node_file.specs.declared.trailer.Trailer.{Trailer}
use Rattle.node_file.specs.Nodes.{HasNodes}
use Rattle.node_file.specs.Readers.{trailer_of}
use Rattle.bool_tables.specs.Steps.{bits_at}
use Rattle.node_reading.proofs.NodeReading.{looked_same, starts_reading}
use Rattle.restrict_eval.proofs.Canonical.{begins_canonical}
use Rattle.restrict_eval.proofs.EvalKeeps.{bits_long, begins_path, begins_way}
use Rattle.restrict_eval.proofs.eval.EvalSweep.start.Goals as goal

-- nothing was read
pub returns-clause-in_step : goal.returns-clause-in_step
returns-clause-in_step g c = λ told.
    let old = g.S.Shelf.world c.args.shelf.now in
    let new = g.S.Shelf.world c.start.new.shelf in
    let same = looked_same 2 c.args.f c.args.f old new (c.start.ensures.content.did told) refl in
    starts_reading c.in_ok-nodes.nodes c.args.f c.args.n old new c.in_ok-nodes.ensures.file c.in_ok-nodes.ensures.variables c.in_ok-nodes.ensures.reads
    (c.in_ok-nodes.ensures.trailer told) same

-- and the path leads to the root
pub returns-clause-trusts : goal.returns-clause-trusts
returns-clause-trusts g c = λ told.
    begins_path c.in_ok-nodes.nodes c.trailer-root.result.root _ (ap (λ (t : Trailer). t.root) c.trailer-root.ensures)
    c.in_ok-nodes.ensures.root c.in_ok-nodes.ensures.place (returns-clause-in_step g c told).count

-- the path from the root of a canonical file leads to the table's value
pub returns-clause-remains : goal.returns-clause-remains
returns-clause-remains g c = λ told t canon.
    let old = g.S.Shelf.world c.args.shelf.now in
    let new = g.S.Shelf.world c.start.new.shelf in
    let n = c.args.n in
    let same = looked_same 2 c.args.f c.args.f old new (c.start.ensures.content.did told) refl in
    let holds = c.canonical_files_are_read.ensures n t canon.form in
    let nodes = c.in_ok-nodes.ensures.nodes told (canon_root n t) (canon_nodes n t) (subst (HasNodes n (canon_root n t) (canon_nodes n t)) (sym canon.bytes_are) holds) in
    let canonical = begins_canonical n t c.in_ok-nodes.nodes c.args.f old new canon.form canon.bytes_are holds c.in_ok-nodes.ensures.file c.in_ok-nodes.ensures.variables
    (c.in_ok-nodes.ensures.trailer told).0 nodes.0 same in
    let root = ap (λ (v : Trailer). v.root) (c.trailer-root.ensures ∙ canonical.trailer_is) in
    let bits = bits_at (trailer_of c.in_ok-nodes.nodes).n c.args.text.now c.args.at in
    let long = bits_long (trailer_of c.in_ok-nodes.nodes).n c.args.text.now c.args.at (subst (λ m. c.args.at + m ≤ length c.args.text.now) (sym c.in_ok-nodes.ensures.variables) c.requires.bits) ∙ c.in_ok-nodes.ensures.variables in
    record {
      file_is = canonical;
      followed = begins_way n t c.in_ok-nodes.nodes (file old c.args.f).bytes _ bits c.trailer-root.result.root canon.form root long nodes.1
          (ap (λ f. (file new f).bytes) c.in_ok-nodes.ensures.file ∙ same);
      come = returns-clause-trusts g c told;
    }
