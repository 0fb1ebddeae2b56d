use Rattle.std.proofs.Common.{◌∙◌, length, ap, sym, subst}
use Rattle.shelf_model.specs.Folder.{Folder, file_in}
use Rattle.shelf_model.specs.Moments.{Stays}
use Rattle.shelf_model.specs.World.{World, now, file}
use Rattle.shelf_model.proofs.Runs.{ran_end}
use Rattle.canon_file.specs.Canon.{canon_nodes, canon_root}
use Rattle.node_file.specs.Nodes.{HasNodes, HasTrailer}
use Rattle.node_file.specs.Readers.{file_of, trailer_of}
use Rattle.node_reading.specs.Reading.{bytes_of}
use Rattle.restrict_eval.proofs.Canonical.{begins_canonical}
use Rattle.restrict_eval.proofs.resuming.begin_at.Goals as goal

-- the file of a table is read as its nodes say
pub returns-clause-canonical : goal.returns-clause-canonical
returns-clause-canonical g c = λ told t is.
    let said = c.in_ok-nodes.ensures in
    let n = c.args.n in
    let f = c.args.unread.file in
    let r = c.in_ok-nodes.nodes in
    let old = g.S.Shelf.world c.args.shelf.now in
    let new = g.S.Shelf.world c.resume_at.new.shelf in
    let root = canon_root n t in
    let nodes = canon_nodes n t in
    let law = c.canonical_files_are_read.ensures n t is.form in
    let reads = said.reads told in
    let found = said.nodes told root nodes (subst (HasNodes n root nodes) (sym is.bytes_are) law) in
    let same = ap (λ (d : Folder). (file_in d f).bytes)
    (ran_end old new (Stays (now old)) (said.content.did told)) in
    let bytes = ap (λ g. (file new g).bytes) said.file ∙ same in
    begins_canonical n t r f old new is.form is.bytes_are law said.file said.variables
    (subst (HasTrailer n (trailer_of r).root) bytes
    (subst (λ m. HasTrailer m (trailer_of r).root (bytes_of r new)) said.variables reads.trailer)) found.1 same

pub returns-clause-left : goal.returns-clause-left
returns-clause-left g c = λ told t is.
    let n = c.args.n in
    let root = canon_root n t in
    let nodes = canon_nodes n t in
    let law = c.canonical_files_are_read.ensures n t is.form in
    (c.in_ok-nodes.ensures.nodes told root nodes (subst (HasNodes n root nodes) (sym is.bytes_are) law)).2
