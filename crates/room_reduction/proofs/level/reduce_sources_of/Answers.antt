use Rattle.std.proofs.Common.{◌∙◌, ◌+◌, ◌≤◌, length, refl, sym, ap, arith}
use Rattle.std.proofs.lemmas.Option.{IfSome_then}
use Rattle.arc_diagrams.specs.Reduction.{final_pointer}
use Rattle.canon_file.specs.Canon.{numbered}
use Rattle.node_file.specs.Nodes.{node_records}
use Rattle.room_reduction.specs.Sources.{sources_in}
use Rattle.room_reduction.proofs.PackedSources.{sources_many}
use Rattle.room_reduction.proofs.LevelSources.{final_keeps_ends, rows_are, row_word_is, level_known}
use Rattle.room_reduction.proofs.level.reduce_sources_of.Goals as goal

pub returns-clause-nodes : goal.returns-clause-nodes
returns-clause-nodes c =
    let room = c.requires.within in
    let sources = sources_in c.args.index.total c.args.sources.now in
    let all = sources_many c.args.index.total c.args.sources.now c.requires.many in
    let within : c.args.from + length c.args.rows.now ≤ length sources = omega (arith, room, all) in
    IfSome_then c.number_rows.result c.number_rows.ensures.nodes (λ count made n root arcs is.
    let rows = c.if-not-collect_rows.ensures refl (final_pointer n arcs)
    (final_keeps_ends n root arcs is.few is.complete) is.known in
    made ∙ ap (λ rs. node_records (numbered c.args.level 0 rs))
    (sym (rows_are n root arcs c.args.level c.args.from _ sources c.collect_rows.new.rows
    c.sort_unstable.new.self is (ap (λ m. c.args.from + m) c.collect_rows.auto.rows) within rows
    c.sort_unstable.ensures.permutation (c.if-not-are_rising.ensures refl))))

pub returns-clause-known : goal.returns-clause-known
returns-clause-known c =
    let room = c.requires.within in
    let sources = sources_in c.args.index.total c.args.sources.now in
    let all = sources_many c.args.index.total c.args.sources.now c.requires.many in
    let within : c.args.from + length c.args.rows.now ≤ length sources = omega (arith, room, all) in
    IfSome_then c.number_rows.result c.number_rows.ensures.names (λ count names n root arcs is.
    let rising = c.if-not-are_rising.ensures refl in
    let many = ap (λ m. c.args.from + m) c.collect_rows.auto.rows in
    let rows = c.if-not-collect_rows.ensures refl (final_pointer n arcs)
    (final_keeps_ends n root arcs is.few is.complete) is.known in
    level_known n root arcs c.args.level c.args.from _ sources c.collect_rows.new.rows
    c.sort_unstable.new.self is many within rows c.sort_unstable.ensures.permutation
    (sources_in c.args.index.total c.number_rows.new.sources) c.number_rows.ensures.same
    (names rising (final_pointer n arcs)
    (row_word_is n root arcs c.args.level c.args.from _ sources c.collect_rows.new.rows
    c.sort_unstable.new.self is many within rows c.sort_unstable.ensures.permutation rising)))
