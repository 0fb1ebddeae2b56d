use Rattle.std.proofs.Common.{◌≡◌, ◌<◌, ◌∙◌, ap, sym, subst, refl, arith}
use Rattle.std.specs.Prelude.{Option, IsSome}
use Rattle.rec_words.specs.Words.{level_of}
use Rattle.arc_file.specs.declared.arc.Arc.{Arc}
use Rattle.arc_diagrams.specs.declared.final_arc.FinalArc.{FinalArc}
use Rattle.std.proofs.lemmas.Bool.Decides.{nat_tests}
use Rattle.run_tiers.proofs.Slots.{none_from}
use Rattle.reduce_sweep.specs.declared.reduce.ReduceSweep.{ReduceSweep}
use Rattle.reduce_sweep.specs.Changes.{ForwardsAlong}
use Rattle.list_laws.proofs.AnswerLaws.{on_ok_both}
use Rattle.std.proofs.lemmas.Result.{on_ok_weaker}
use Rattle.reduce_sweep.proofs.ForwardingKeeps.{name_given_up, none_left, none_as_far, leads_within, arc_leads, comes_after, arc_forwarded}
use Rattle.reduce_sweep.proofs.reduce.ReduceSweep.forward_name.Goals as goal

-- no arc to a node is left
pub returns-in_default-clause-keeps : goal.returns-in_default-clause-keeps
returns-in_default-clause-keeps g c = on_ok_both c.give_up_name.result (λ known rest told d k names is here holds left.
    let s = c.args.self.now in
    name_given_up s.place c.give_up_name.new.self _ d k c.args.name.now names c.requires.phase
    (ap (λ (r : ReduceSweep). r.place) c.give_up_name.ensures.rest ∙ (λ j. record s.place { known = known j })) left is
    (none_left s _ k c.args.name.now.source (none_from _ c.in_default.not-Some) holds) (rest told k c.args.name.now names is holds))
    c.give_up_name.ensures.known c.give_up_name.ensures.left

-- none leads to the name's source any more
pub returns-then-lt-clause-keeps : goal.returns-then-lt-clause-keeps
returns-then-lt-clause-keeps g c =
    let source_is = c.ptr-source.ensures.value in
    let less = c.if-lt.true in
    let is_less = c.lt.ensures in
    let below : c.in-Some.arc.target < c.args.name.now.source = grind (arith, nat_tests) in
    on_ok_both c.give_up_name-then-lt.result (λ known rest told d k names is here holds left.
    let s = c.args.self.now in
    name_given_up s.place c.give_up_name-then-lt.new.self _ d k c.args.name.now names c.requires.phase
    (ap (λ (r : ReduceSweep). r.place) c.give_up_name-then-lt.ensures.rest ∙ (λ j. record s.place { known = known j })) left is
    (none_as_far s _ k c.in-Some.arc c.args.name.now.source c.in-Some.is holds below) (rest told k c.args.name.now names is holds))
    c.give_up_name-then-lt.ensures.known c.give_up_name-then-lt.ensures.left

-- the next arc leads no further than to the name's source
pub returns-then-gt-clause-keeps : goal.returns-then-gt-clause-keeps
returns-then-gt-clause-keeps g c =
    let source_is = c.ptr-source.ensures.value in
    let further = c.if-gt.true in
    let is_further = c.gt.ensures in
    let above : c.args.name.now.source < c.in-Some.arc.target = grind (arith, nat_tests) in
    on_ok_weaker c.read_inner.result (λ passed told d k names is here holds left.
    absurd (omega (arith, above, leads_within c.args.self.now _ d k c.args.name.now names c.in-Some.arc c.requires.phase left is c.in-Some.is holds)))
    c.read_inner.ensures.passed

-- it leads there
pub returns-clause-keeps : goal.returns-clause-keeps
returns-clause-keeps g c =
    let source_is = c.ptr-source.ensures.value in
    let not_less = c.if-lt.false in
    let is_less = c.lt.ensures in
    let not_further = c.if-gt.false in
    let is_further = c.gt.ensures in
    let to_source : c.args.name.now.source ≡ c.in-Some.arc.target = grind (arith, nat_tests) in
    on_ok_weaker c.forward_along.result (λ along told d k names is here holds left.
    let s = c.args.self.now in
    let a = c.in-Some.arc in
    let one : FinalArc = record { source = a.source; high = a.high; target = c.args.name.now.pointer } in
    let work = c.requires.fit.at_work (c.forward_along.ensures.does.leaves.content.before told) in
    let taken = comes_after s.place d k a left (arc_leads s _ k a c.in-Some.is (work.reads_inner (subst IsSome (sym c.in-Some.is) refl)) holds) (ap level_of (sym to_source) ∙ here) in
    arc_forwarded s.place c.forward_along.new.self _ d k c.args.name.now names a one c.requires.phase (ap (λ (r : ReduceSweep). r.place) c.forward_along.ensures.rest) left is to_source refl refl refl
    (subst (λ (o : Option Arc). ForwardsAlong o c.forward_along.new.self (g.S.Shelf.world c.forward_along.new.shelf) k one) c.in-Some.is (along told k holds taken)))
    c.forward_along.ensures.along
