use Rattle.std.proofs.Common.{◌≡◌, ◌<◌, ◌∙◌, refl, ap, arith}
use Rattle.std.specs.Prelude.{Ok}
use Rattle.shelf_model.specs.World.{file}
use Rattle.run_tiers.proofs.FaultLaws.{sort_shelf_then, sort_shelf_on}
use Rattle.node_file.specs.declared.trailer.Trailer.{Trailer}
use Rattle.node_file.specs.Readers.{left_of, trailer_of}
use Rattle.node_reading.proofs.NodeReading.{if_handed, looked_same, starts_reading}
use Rattle.node_reading.proofs.Staying.{looked_stays, stays_on}
use Rattle.node_reading.proofs.Wholes.{none_read, begun_by, fine, stream_fine, all_read, node_whole_fault, fewer_left, last_given, comes_on}
use Rattle.node_reading.proofs.whole.read_whole.Goals as goal

-- none was read at first
pub read-init : goal.read-init
read-init g c =
    let old = g.S.Shelf.world c.args.shelf.now in
    let new = g.S.Shelf.world c.start.new.shelf in
    let said = c.in_ok-nodes.ensures in
    record {
      file_is = said.file;
      variables = said.variables;
      begun = begun_by _ _ said.given;
      given = λ less. let all : left_of c.in_ok-nodes.nodes ≡ (trailer_of c.in_ok-nodes.nodes).count = said.place in absurd (omega (arith, less, all));
      come = λ told.
          let same = looked_same 2 c.args.f c.args.f old new (c.start.ensures.content.did told) refl in
          let reading = starts_reading c.in_ok-nodes.nodes c.args.f c.args.n old new said.file said.variables said.reads (said.trailer told) same in
          let here = ap (λ f. (file new f).bytes) said.file ∙ same in
          record {
            same = here;
            reading = reading;
            read = none_read c.args.n _ _ (said.place ∙ (said.trailer told).1);
          };
      content = looked_stays g.S.Shelf.tells g.S.Shelf.world 2 _ _ c.start.ensures.content;
      faults = stream_fine _ _ c.in_ok-nodes.nodes tt said.faults;
    }

pub next_node-requires-clause-begun : goal.next_node-requires-clause-begun
next_node-requires-clause-begun g c = c.read.invariant.begun

pub next_node-requires-clause-reads : goal.next_node-requires-clause-reads
next_node-requires-clause-reads g c = λ told. (c.read.invariant.come told).reading

-- one node more was read
pub read-smaller : goal.read-smaller
read-smaller g c = fewer_left g.S.Shelf.tells g.S.Shelf.world g.S.Shelf.faults _ _ _ _ c.in_ok-next_node.field-0 (omega arith) c.in_ok-next_node.ensures.gives

pub read-preserved : goal.read-preserved
read-preserved g c =
    let gives = c.in_ok-next_node.ensures.gives in
    let so_far = c.read.invariant in
    let some : 0 < left_of c.read.nodes = omega arith in
    record {
      file_is = gives.file_is ∙ so_far.file_is;
      variables = ap (λ (t : Trailer). t.n) gives.trailer_is ∙ so_far.variables;
      begun = gives.begun;
      given = λ less. last_given g.S.Shelf.tells g.S.Shelf.world g.S.Shelf.faults _ _ _ _ c.in_ok-next_node.field-0 some gives;
      come = λ told. comes_on g.S.Shelf.tells g.S.Shelf.world g.S.Shelf.faults _ _ _ _ c.args.n _ c.in_ok-next_node.field-0 some so_far.variables so_far.given
          told gives (so_far.come (gives.content.before told));
      content = stays_on g.S.Shelf.tells g.S.Shelf.world _ _ _ so_far.content (looked_stays g.S.Shelf.tells g.S.Shelf.world 1 _ _ gives.content);
      faults = sort_shelf_then _ _ _ _ (Ok tt) so_far.faults (fine _ _ c.in_ok-next_node.field-0 tt gives.faults);
    }

-- a node is damaged
pub returns-in_err-next_node-clause-damaged : goal.returns-in_err-next_node-clause-damaged
returns-in_err-next_node-clause-damaged g c =
    let gives = c.in_err-next_node.ensures.gives in
    let so_far = c.read.invariant in
    if_handed _ c.from_residual-in_err-next_node.result _ c.from_residual-in_err-next_node.ensures.1
    (λ told. node_whole_fault c.args.n c.args.f c.read.nodes (g.S.Shelf.world c.args.shelf.now) (g.S.Shelf.world c.read.shelf) c.in_err-next_node.field-0.0
    so_far.file_is so_far.variables (so_far.come (gives.content.before told)).same (gives.damage told))

pub returns-in_err-next_node-clause-content : goal.returns-in_err-next_node-clause-content
returns-in_err-next_node-clause-content g c =
    stays_on g.S.Shelf.tells g.S.Shelf.world _ _ _ c.read.invariant.content
    (looked_stays g.S.Shelf.tells g.S.Shelf.world 1 _ _ c.in_err-next_node.ensures.gives.content)

pub returns-in_err-next_node-clause-faults : goal.returns-in_err-next_node-clause-faults
returns-in_err-next_node-clause-faults g c =
    sort_shelf_then _ _ _ _ _ c.read.invariant.faults
    (sort_shelf_on _ _ c.in_err-next_node.field-0.0 _ c.from_residual-in_err-next_node.ensures.1 c.in_err-next_node.ensures.gives.faults)

-- all nodes were read
pub returns-clause-whole : goal.returns-clause-whole
returns-clause-whole g c = λ told.
    let come = c.read.invariant.come told in
    let front : left_of c.read.nodes ≡ 0 = omega arith in
    all_read c.args.n _ c.read.nodes _ c.read.invariant.variables front come

pub returns-clause-content : goal.returns-clause-content
returns-clause-content g c = c.read.invariant.content

pub returns-clause-faults : goal.returns-clause-faults
returns-clause-faults g c = c.read.invariant.faults
