use Rattle.std.proofs.Common.{◌≡◌, ◌≤◌, ◌∙◌, ◌+◌, ◌-◌, ℕ, suc, List, length, take, sym, subst, arith}
use Rattle.std.proofs.lemmas.List.{length-take-le, take-append-le}
use Rattle.arc_file.specs.declared.arc.Arc.{Arc}
use Rattle.arc_diagrams.specs.Arcs.{IsComplete}
use Rattle.room_reduction.specs.Sources.{sources_in}
use Rattle.room_reduction.specs.Levels.{IsLevel, IsDone}
use Rattle.room_reduction.proofs.PackedSources.{sources_many}
use Rattle.room_reduction.proofs.LevelSteps.{is_level, level_done}
use Rattle.room_reduction.proofs.level.nodes_of_level.Goals as goal

-- the rows are as many as the level has sources
whole : (c : goal.In_ok-count)
    → c.args.end ≡ c.level_start-from.result + length (take (c.args.end - c.level_start-from.result) c.args.rows.now)
whole c =
    let order = c.level_start-from.ensures.order in
    let enough = c.if-end-from.false in
    let taken = length-take-le (c.args.end - c.level_start-from.result) c.args.rows.now enough in
    omega (arith, taken, order)

-- the sources of the level end where the deeper ones begin
is : (c : goal.In_ok-count) (n root : ℕ) (arcs : List Arc) → n ≤ 65535 → IsComplete n root arcs
    → IsDone n root arcs (suc c.args.level) c.args.end (sources_in c.args.index.total c.args.sources.now)
    → IsLevel n root arcs c.args.level c.level_start-from.result
    (c.level_start-from.result + length (take (c.args.end - c.level_start-from.result) c.args.rows.now))
    (sources_in c.args.index.total c.args.sources.now)
is c n root arcs few complete done =
    let sources = sources_in c.args.index.total c.args.sources.now in
    let start = c.level_start-from.ensures in
    let all = sources_many c.args.index.total c.args.sources.now c.requires.many in
    let room = c.requires.within in
    subst (λ e. IsLevel n root arcs c.args.level c.level_start-from.result e sources) (whole c)
    (is_level n root arcs c.args.level c.level_start-from.result c.args.end sources few complete
    (omega (arith, all, room)) start.order (λ k later early. start.own k later early ∙ c.from.ensures)
    (λ some same. start.other some (same ∙ sym c.from.ensures)) done)

pub returns-clause-done : goal.returns-clause-done
returns-clause-done c n root arcs few below complete done =
    let made = c.in_ok-count.ensures in
    let found = is c n root arcs few complete done in
    level_done n root arcs c.args.level c.level_start-from.result _ _ _ found made.same
    (made.known n root arcs found)

pub returns-clause-nodes : goal.returns-clause-nodes
returns-clause-nodes c n root arcs few below complete done =
    let made = c.in_ok-count.ensures in
    let own = c.reduce_sources_of.new.rows in
    let within = made.within in
    let still = c.reduce_sources_of.auto.rows in
    take-append-le c.in_ok-count.count own _ (omega (arith, within, still))
    ∙ made.nodes n root arcs (is c n root arcs few complete done)
