use Rattle.std.proofs.Common.{◌≡◌, ◌<◌, [], Bool, List, ℕ, length, sym, subst, arith}
use Rattle.std.proofs.lemmas.Grind.{common_steps}
use Rattle.depth_first.specs.Search.{Spreads, IsSearch}
use Rattle.depth_first.specs.Views.{graph_of}
use Rattle.depth_first.proofs.Steps.{length_graph}
use Rattle.depth_first.proofs.Roots.{nil_of_length}
use Rattle.depth_first.proofs.Searches.{search_starts, waits_inside, search_goes_on, search_ends}
use Rattle.depth_first.proofs.search.reached_from.Goals as goal

pub search-init : goal.search-init
search-init c =
    let inside : c.args.node < length (graph_of c.args.edges.now) = subst (λ n. c.args.node < n) (sym (length_graph c.args.edges.now)) c.requires.inside in
    search_starts (graph_of c.args.edges.now) c.requires.graph c.args.node inside _ _ _ (length c.args.edges.now) _ _ c.edges_at.ensures c.in_ok-reached.ensures (sym (length_graph c.args.edges.now)) c.new-later.ensures.items c.in_ok-reach_all.ensures

pub edges_at-requires-in-Some : goal.edges_at-requires-in-Some
edges_at-requires-in-Some c =
    let inside : c.args.node < length (graph_of c.args.edges.now) = subst (λ n. c.args.node < n) (sym (length_graph c.args.edges.now)) c.requires.inside in
    subst (λ n. c.in-Some.next < n) (length_graph c.args.edges.now) (waits_inside (graph_of c.args.edges.now) c.requires.graph c.args.node inside c.search.reached.items c.pop.new.self.items c.search.later.items c.in-Some.next c.in-Some.ensures.items c.search.invariant)

pub search-preserved : goal.search-preserved
search-preserved c =
    let g : List (List ℕ) = graph_of c.args.edges.now in
    let inside : c.args.node < length g = subst (λ n. c.args.node < n) (sym (length_graph c.args.edges.now)) c.requires.inside in
    let s = subst (λ t. Spreads t c.search.reached.items c.pop.new.self.items c.reach_all-in-Some.new.reached.items c.reach_all-in-Some.new.later.items) c.edges_at-in-Some.ensures c.in_ok-reach_all-2.ensures in
    search_goes_on g c.requires.graph c.args.node inside c.search.reached.items c.pop.new.self.items c.search.later.items c.in-Some.next _ _ c.in-Some.ensures.items c.search.invariant s

pub returns : goal.returns
returns c =
    let g : List (List ℕ) = graph_of c.args.edges.now in
    let reached : List Bool = c.search.reached.items in
    let inside : c.args.node < length g = subst (λ n. c.args.node < n) (sym (length_graph c.args.edges.now)) c.requires.inside in
    let none : length c.search.later.items ≡ 0 = grind (arith, common_steps) in
    let k : IsSearch g c.args.node reached [] = subst (IsSearch g c.args.node reached) (nil_of_length c.search.later.items none) c.search.invariant in
    record { size = k.size; found = k.found; all = search_ends g c.requires.graph c.args.node inside reached k }

pub reach_all-requires : goal.reach_all-requires
reach_all-requires c = grind (arith, common_steps)

pub reach_all-requires-in-Some : goal.reach_all-requires-in-Some
reach_all-requires-in-Some c = grind (arith, common_steps)
