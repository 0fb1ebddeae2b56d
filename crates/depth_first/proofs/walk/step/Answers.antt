use Rattle.std.proofs.Common.{◌≡◌, ◌<◌, length, get_or, refl, arith, List, ℕ, subst}
use Rattle.depth_first.specs.declared.state.State.{State}
use Rattle.depth_first.specs.Graph.{edges_of}
use Rattle.depth_first.specs.Views.{graph_of}
use Rattle.depth_first.proofs.Steps.{edges_read, length_graph, frame_inside, target_within, Looks, steps_leaves, steps_enters, steps_closes, target_inside}
use Rattle.depth_first.proofs.Passes.{steps_jumps}
use Rattle.depth_first.proofs.walk.step.Goals as goal

pub returns-then-frame-targets-clause-walked : goal.returns-then-frame-targets-clause-walked
returns-then-frame-targets-clause-walked c =
    let g : List (List ℕ) = graph_of c.args.edges.now in
    let states : List State = c.args.walk.now.states.items in
    let order : List ℕ = c.args.walk.now.order.items in
    let stack = c.args.walk.now.stack.items in
    let targets : List ℕ = c.as_slice-targets.result.now in
    let inside : c.args.frame.node < length c.args.edges.now = frame_inside c.args.edges.now states order stack c.args.frame c.requires.before in
    let e : edges_of g c.args.frame.node ≡ targets = edges_read c.args.edges.now c.args.frame.node c.index-edges-frame.result targets inside c.index-edges-frame.is c.as_slice-targets.ensures.value in
    steps_leaves g states order stack c.args.frame _ _ _ targets c.requires.before e c.if-frame-targets.true c.in_ok-leave.ensures.states c.in_ok-leave.ensures.order c.in_ok-leave.ensures.stack

pub index-here-requires : goal.index-here-requires
index-here-requires c =
    let g : List (List ℕ) = graph_of c.args.edges.now in
    let states : List State = c.args.walk.now.states.items in
    let order : List ℕ = c.args.walk.now.order.items in
    let stack = c.args.walk.now.stack.items in
    let targets : List ℕ = c.as_slice-targets.result.now in
    let inside : c.args.frame.node < length c.args.edges.now = frame_inside c.args.edges.now states order stack c.args.frame c.requires.before in
    let e : edges_of g c.args.frame.node ≡ targets = edges_read c.args.edges.now c.args.frame.node c.index-edges-frame.result targets inside c.index-edges-frame.is c.as_slice-targets.ensures.value in
    let within : get_or targets c.args.frame.next 0 < length states = target_within g states order stack c.args.frame targets c.requires.graph c.requires.before e c.if-frame-targets.false in
    omega arith

pub returns-in_ok-follow-in-Done-clause-walked : goal.returns-in_ok-follow-in-Done-clause-walked
returns-in_ok-follow-in-Done-clause-walked c =
    let g : List (List ℕ) = graph_of c.args.edges.now in
    let states : List State = c.args.walk.now.states.items in
    let order : List ℕ = c.args.walk.now.order.items in
    let stack = c.args.walk.now.stack.items in
    let targets : List ℕ = c.as_slice-targets.result.now in
    let inside : c.args.frame.node < length c.args.edges.now = frame_inside c.args.edges.now states order stack c.args.frame c.requires.before in
    let e : edges_of g c.args.frame.node ≡ targets = edges_read c.args.edges.now c.args.frame.node c.index-edges-frame.result targets inside c.index-edges-frame.is c.as_slice-targets.ensures.value in
    let t : ℕ = get_or targets c.args.frame.next 0 in
    let l : Looks g states c.args.frame targets t c.index-here.result.now = record { edges = e; more = c.if-frame-targets.false; target = refl; read = c.index-here.ensures } in
    steps_jumps g (graph_of c.args.jumps.now) states order stack c.args.frame targets t c.index-here.result.now c.jump.result _ _ _ c.requires.graph c.requires.jumps c.requires.before l c.jump.ensures c.in-Done.is c.in_ok-follow-in-Done.ensures.states c.in_ok-follow-in-Done.ensures.order c.in_ok-follow-in-Done.ensures.stack

pub enter-requires : goal.enter-requires
enter-requires c =
    let g : List (List ℕ) = graph_of c.args.edges.now in
    let states : List State = c.args.walk.now.states.items in
    let order : List ℕ = c.args.walk.now.order.items in
    let stack = c.args.walk.now.stack.items in
    let targets : List ℕ = c.as_slice-targets.result.now in
    let inside : c.args.frame.node < length c.args.edges.now = frame_inside c.args.edges.now states order stack c.args.frame c.requires.before in
    let e : edges_of g c.args.frame.node ≡ targets = edges_read c.args.edges.now c.args.frame.node c.index-edges-frame.result targets inside c.index-edges-frame.is c.as_slice-targets.ensures.value in
    target_within g states order stack c.args.frame targets c.requires.graph c.requires.before e c.if-frame-targets.false

pub returns-in_ok-enter-in-New-clause-walked : goal.returns-in_ok-enter-in-New-clause-walked
returns-in_ok-enter-in-New-clause-walked c =
    let g : List (List ℕ) = graph_of c.args.edges.now in
    let states : List State = c.args.walk.now.states.items in
    let order : List ℕ = c.args.walk.now.order.items in
    let stack = c.args.walk.now.stack.items in
    let targets : List ℕ = c.as_slice-targets.result.now in
    let inside : c.args.frame.node < length c.args.edges.now = frame_inside c.args.edges.now states order stack c.args.frame c.requires.before in
    let e : edges_of g c.args.frame.node ≡ targets = edges_read c.args.edges.now c.args.frame.node c.index-edges-frame.result targets inside c.index-edges-frame.is c.as_slice-targets.ensures.value in
    let t : ℕ = get_or targets c.args.frame.next 0 in
    let l : Looks g states c.args.frame targets t c.index-here.result.now = record { edges = e; more = c.if-frame-targets.false; target = refl; read = c.index-here.ensures } in
    steps_enters g states order stack c.args.frame targets t c.index-here.result.now c.requires.graph c.requires.before l _ _ _ c.in-New.is c.in_ok-enter-in-New.ensures.states c.in_ok-enter-in-New.ensures.order c.in_ok-enter-in-New.ensures.stack

pub returns-in-OnWay-clause-walked : goal.returns-in-OnWay-clause-walked
returns-in-OnWay-clause-walked c =
    let g : List (List ℕ) = graph_of c.args.edges.now in
    let states : List State = c.args.walk.now.states.items in
    let order : List ℕ = c.args.walk.now.order.items in
    let stack = c.args.walk.now.stack.items in
    let targets : List ℕ = c.as_slice-targets.result.now in
    let inside : c.args.frame.node < length c.args.edges.now = frame_inside c.args.edges.now states order stack c.args.frame c.requires.before in
    let e : edges_of g c.args.frame.node ≡ targets = edges_read c.args.edges.now c.args.frame.node c.index-edges-frame.result targets inside c.index-edges-frame.is c.as_slice-targets.ensures.value in
    let t : ℕ = get_or targets c.args.frame.next 0 in
    let l : Looks g states c.args.frame targets t c.index-here.result.now = record { edges = e; more = c.if-frame-targets.false; target = refl; read = c.index-here.ensures } in
    let inside_t : t < length g = target_inside g states order stack c.args.frame targets t c.index-here.result.now c.requires.graph c.requires.before l in
    (subst (λ n. t < n) (length_graph c.args.edges.now) inside_t, steps_closes g states order stack c.args.frame targets t c.index-here.result.now c.requires.graph c.requires.before l c.in-OnWay.is)
