use Rattle.std.proofs.Common.{◌≡◌, true, false, ◌<◌, ◌++◌, ◌∷◌, [], List, ℕ, length, get_or, ◌∙◌, ap, sym, subst, arith}
use Rattle.std.proofs.lemmas.Grind.{common_steps}
use Rattle.std.proofs.lemmas.List.{get_or_default}
use Rattle.depth_first.specs.declared.state.State.{State}
use Rattle.depth_first.specs.declared.state.State.TheVariants.{New}
use Rattle.depth_first.specs.Walk.{IsWalk, is_done}
use Rattle.depth_first.specs.Views.{graph_of}
use Rattle.depth_first.proofs.Steps.{length_graph}
use Rattle.depth_first.proofs.Roots.{visits_nothing, is_fresh, begins, finishes, nil_of_length}
use Rattle.depth_first.proofs.walk.visit_root.Goals as goal

pub returns-then-is_done-clause-walked : goal.returns-then-is_done-clause-walked
returns-then-is_done-clause-walked c =
    let g : List (List ℕ) = graph_of c.args.edges.now in
    let states : List State = c.args.walk.now.states.items in
    let w : IsWalk g states c.args.walk.now.order.items [] = subst (IsWalk g states c.args.walk.now.order.items) c.requires.empty c.requires.before in
    let inside : c.args.root < length g = subst (λ n. c.args.root < n) (sym (length_graph c.args.edges.now)) c.requires.inside in
    let size : length states ≡ length g = w.size in
    let read : get_or states c.args.root New ≡ c.index-state.result.now = get_or_default states c.args.root New c.index-state.result.now (omega arith) ∙ sym c.index-state.ensures in
    let gone : is_done (get_or states c.args.root New) ≡ true = ap is_done read ∙ sym c.is_done.ensures ∙ c.if-is_done.true in
    rw c.requires.empty (visits_nothing g states c.args.walk.now.order.items c.args.root inside w gone)

pub way-init : goal.way-init
way-init c =
    let g : List (List ℕ) = graph_of c.args.edges.now in
    let states : List State = c.args.walk.now.states.items in
    let w : IsWalk g states c.args.walk.now.order.items [] = subst (IsWalk g states c.args.walk.now.order.items) c.requires.empty c.requires.before in
    let inside : c.args.root < length g = subst (λ n. c.args.root < n) (sym (length_graph c.args.edges.now)) c.requires.inside in
    let size : length states ≡ length g = w.size in
    let read : get_or states c.args.root New ≡ c.index-state.result.now = get_or_default states c.args.root New c.index-state.result.now (omega arith) ∙ sym c.index-state.ensures in
    let other : is_done (get_or states c.args.root New) ≡ false = ap is_done read ∙ sym c.is_done.ensures ∙ c.if-is_done.false in
    let fresh : get_or states c.args.root New ≡ New = is_fresh g states c.args.walk.now.order.items c.args.root inside w other in
    let b = begins g states c.args.walk.now.order.items c.args.root inside w _ _ _ fresh c.in_ok-begin.ensures.states c.in_ok-begin.ensures.order (c.in_ok-begin.ensures.stack ∙ ap (λ s. s ++ record { node = c.args.root; next = 0 } ∷ []) c.requires.empty) in
    record { walk = b.0; same = b.1 }

pub returns-clause-walked : goal.returns-clause-walked
returns-clause-walked c =
    let none : length c.way.walk.stack.items ≡ 0 = grind (arith, common_steps) in
    let empty : c.way.walk.stack.items ≡ [] = nil_of_length c.way.walk.stack.items none in
    finishes (graph_of c.args.edges.now) c.args.walk.now.order.items c.args.root _ _ _ _ c.way.invariant.walk c.way.invariant.same empty empty
