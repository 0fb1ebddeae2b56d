use Rattle.std.proofs.Common.{◌≤◌, ◌++◌, List, [], length, refl, sym, subst, inl, arith}
use Rattle.std.specs.Prelude.{IfSome}
use Rattle.std.proofs.lemmas.List.{append-nil}
use Rattle.arc_file.specs.declared.arc.Arc.{Arc}
use Rattle.arc_file.specs.Files.{BeginWith}
use Rattle.room_reduction.proofs.FirstRecords.{bytes_looked}
use Rattle.packed_records.specs.Packed.{packed}
use Rattle.packed_records.proofs.PackedLaws.{length-packed}
use Rattle.room_reduction.specs.Filling.{AreMet}
use Rattle.room_reduction.proofs.FilledLaws.{none_met, ok_both, some_both, are_sources}
use Rattle.room_reduction.proofs.filling.read_sources.Goals as goal

pub returns-clause-read : goal.returns-clause-read
returns-clause-read g c =
    let n = c.args.n in
    let made = c.args.made.now in
    let world = g.S.Shelf.world in
    ok_both _ _ _ c.read_arcs-2.result (λ found within read tells inner ends has_inner has_ends complete.
    let all : List Arc = inner ++ ends in
    let mid = c.read_arcs-2.ensures.content.before tells in
    let looked = c.in_ok-inner.ensures.content.did mid in
    let same = bytes_looked made.inner_count made.ends (world c.args.shelf.now) (world c.read_arcs.new.shelf) looked in
    let none = none_met n made.root all (packed c.args.sources.now) in
    let begun = c.in-Some.ensures.met made.root all all (inl refl) none in
    let first = subst (λ o. IfSome o (AreMet n made.root all ends (packed c.read_arcs.new.sources))) c.in-Some-inner.is
    (c.in_ok-inner.ensures.read mid made.root all inner ends has_inner.begin begun) in
    let both = read tells made.root all ends [] (subst (BeginWith ends made.ends_count) (sym same) has_ends.begin)
    (subst (λ xs. AreMet n made.root all xs (packed c.read_arcs.new.sources) c.in-Some-inner.found)
    (sym (append-nil ends)) first) in
    let sources = c.read_arcs-2.new.sources in
    some_both _ _ _ found (λ k below met.
    let many : k ≤ length (packed sources) = omega (arith, below, length-packed sources) in
    are_sources n made.root all (packed sources) k complete met many)
    within both)
    c.read_arcs-2.ensures.within c.read_arcs-2.ensures.read
