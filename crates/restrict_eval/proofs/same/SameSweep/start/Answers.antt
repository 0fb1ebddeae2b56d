use Rattle.std.proofs.Common.{◌∙◌, ◌+◌, [], sym, ap, subst, refl, inr}
use Rattle.block_stream.proofs.WriteRuns.{looked_on}
use Rattle.canon_file.specs.Canon.{canon_nodes, canon_root}
use Rattle.node_file.specs.Nodes.{HasNodes}
use Rattle.node_reading.specs.Reading.{count_of}
use Rattle.node_reading.proofs.NodeReading.{if_handed, looked_same, starts_reading, trailer_fault}
use Rattle.restrict_eval.proofs.Starting.{no_damage, two_faults}
use Rattle.restrict_eval.proofs.Canonical.{begins_canonical, begins_left}
use Rattle.restrict_eval.proofs.same.SameSweep.start.Goals as goal

-- a canonical file has its trailer
pub returns-in_err-left-clause-undamaged : goal.returns-in_err-left-clause-undamaged
returns-in_err-left-clause-undamaged g c = if_handed _ c.from_residual.result _ c.from_residual.ensures.1
    (λ told t u first second. no_damage c.in_err-left.field-0.0
    (c.in_err-left.ensures.sound told (canon_root c.args.n t) (canon_nodes c.args.n t)
    (subst (HasNodes c.args.n (canon_root c.args.n t) (canon_nodes c.args.n t)) (sym first.bytes_are) (c.canonical_files_are_read.ensures c.args.n t first.form))))

pub returns-in_err-right-clause-undamaged : goal.returns-in_err-right-clause-undamaged
returns-in_err-right-clause-undamaged g c = if_handed _ c.from_residual-in_err-right.result _ c.from_residual-in_err-right.ensures.1
    (λ told t u first second.
    let same = looked_same 2 c.args.g c.args.g (g.S.Shelf.world c.args.shelf.now) (g.S.Shelf.world c.start.new.shelf) (c.start.ensures.content.did (c.start-2.ensures.content.before told)) refl in
    no_damage c.in_err-right.field-0.0
    (c.in_err-right.ensures.sound told (canon_root c.args.n u) (canon_nodes c.args.n u)
    (subst (HasNodes c.args.n (canon_root c.args.n u) (canon_nodes c.args.n u)) (sym (same ∙ second.bytes_are)) (c.canonical_files_are_read.ensures c.args.n u second.form))))

-- the second file was read as the first call found it
pub returns-in_err-right-clause-damage : goal.returns-in_err-right-clause-damage
returns-in_err-right-clause-damage g c = if_handed _ c.from_residual-in_err-right.result _ c.from_residual-in_err-right.ensures.1
    (λ told.
    let same = looked_same 2 c.args.g c.args.g (g.S.Shelf.world c.args.shelf.now) (g.S.Shelf.world c.start.new.shelf) (c.start.ensures.content.did (c.start-2.ensures.content.before told)) refl in
    inr (trailer_fault c.args.g c.args.n (g.S.Shelf.world c.args.shelf.now) (g.S.Shelf.world c.start.new.shelf) c.in_err-right.field-0.0 same
    c.in_err-right.ensures.damage (c.in_err-right.ensures.damaged told)))

-- two calls for each file
pub returns-in_err-right-clause-content : goal.returns-in_err-right-clause-content
returns-in_err-right-clause-content g c = looked_on g.S.Shelf.tells g.S.Shelf.world 2 2 _ _ _ c.start.ensures.content c.start-2.ensures.content

pub returns-clause-content : goal.returns-clause-content
returns-clause-content g c = looked_on g.S.Shelf.tells g.S.Shelf.world 2 2 _ _ _ c.start.ensures.content c.start-2.ensures.content

pub returns-clause-faults : goal.returns-clause-faults
returns-clause-faults g c = two_faults _ _ _ _ _ _ c.in_ok-left.ensures.faults c.in_ok-right.ensures.faults

-- the trailers are those of the files
pub returns-clause-in_step : goal.returns-clause-in_step
returns-clause-in_step g c = λ told.
    let old = g.S.Shelf.world c.args.shelf.now in
    let mid = g.S.Shelf.world c.start.new.shelf in
    let new = g.S.Shelf.world c.start-2.new.shelf in
    let before = c.start-2.ensures.content.before told in
    record {
      left_reads = starts_reading c.in_ok-left.left c.args.f c.args.n old new c.in_ok-left.ensures.file c.in_ok-left.ensures.variables c.in_ok-left.ensures.reads
          (c.in_ok-left.ensures.trailer before)
          (looked_same 2 c.args.f c.args.f mid new (c.start-2.ensures.content.did told) refl ∙ looked_same 2 c.args.f c.args.f old mid (c.start.ensures.content.did before) refl);
      right_reads = starts_reading c.in_ok-right.right c.args.g c.args.n mid new c.in_ok-right.ensures.file c.in_ok-right.ensures.variables c.in_ok-right.ensures.reads
          (c.in_ok-right.ensures.trailer told) (looked_same 2 c.args.g c.args.g mid new (c.start-2.ensures.content.did told) refl);
    }

-- all nodes are left
pub returns-clause-left : goal.returns-clause-left
returns-clause-left g c = λ told.
    let old = g.S.Shelf.world c.args.shelf.now in
    let mid = g.S.Shelf.world c.start.new.shelf in
    let before = c.start-2.ensures.content.before told in
    let second = looked_same 2 c.args.g c.args.g old mid (c.start.ensures.content.did before) refl in
    let here = c.in_ok-left.ensures.place ∙ (c.in_ok-left.ensures.trailer before).1 in
    let there = c.in_ok-right.ensures.place ∙ (c.in_ok-right.ensures.trailer told).1 ∙ ap count_of second in
    λ i. here i + there i + 1

pub returns-clause-remains : goal.returns-clause-remains
returns-clause-remains g c = λ told t u first second.
    let old = g.S.Shelf.world c.args.shelf.now in
    let mid = g.S.Shelf.world c.start.new.shelf in
    let new = g.S.Shelf.world c.start-2.new.shelf in
    let n = c.args.n in
    let before = c.start-2.ensures.content.before told in
    let left_same = looked_same 2 c.args.f c.args.f mid new (c.start-2.ensures.content.did told) refl ∙ looked_same 2 c.args.f c.args.f old mid (c.start.ensures.content.did before) refl in
    let right_now = looked_same 2 c.args.g c.args.g mid new (c.start-2.ensures.content.did told) refl in
    let right_there = looked_same 2 c.args.g c.args.g old mid (c.start.ensures.content.did before) refl ∙ second.bytes_are in
    let left_file = c.canonical_files_are_read.ensures n t first.form in
    let right_file = c.canonical_files_are_read.ensures n u second.form in
    let left_nodes = c.in_ok-left.ensures.nodes before (canon_root n t) (canon_nodes n t) (subst (HasNodes n (canon_root n t) (canon_nodes n t)) (sym first.bytes_are) left_file) in
    let right_nodes = c.in_ok-right.ensures.nodes told (canon_root n u) (canon_nodes n u) (subst (HasNodes n (canon_root n u) (canon_nodes n u)) (sym right_there) right_file) in
    record {
      first_is = begins_canonical n t c.in_ok-left.left c.args.f old new first.form first.bytes_are left_file c.in_ok-left.ensures.file c.in_ok-left.ensures.variables
          (c.in_ok-left.ensures.trailer before).0 left_nodes.0 left_same;
      second_is = begins_canonical n u c.in_ok-right.right c.args.g mid new second.form right_there right_file c.in_ok-right.ensures.file c.in_ok-right.ensures.variables
          (c.in_ok-right.ensures.trailer told).0 right_nodes.0 right_now;
      compared = (
        [],
        begins_left (canon_nodes n t) c.in_ok-left.left c.args.f old new c.in_ok-left.ensures.file left_nodes.1 left_same,
        begins_left (canon_nodes n u) c.in_ok-right.right c.args.g mid new c.in_ok-right.ensures.file right_nodes.1 right_now,
      );
    }
