use Rattle.std.proofs.Common.{subst, sym, ◌∙◌, refl, arith}
use Rattle.std.specs.Prelude.{Option, Ok, IsSome}
use Rattle.run_merge.specs.Lists.{Shows, Gives}
use Rattle.run_merge.specs.Sorters as sorters
use Rattle.level_queue.specs.Queues.{Lists, shown, credit}
use Rattle.run_merge.proofs.SorterLaws.{shown_so}
use Rattle.run_merge.proofs.RefusedLaws.{gives_refused}
use Rattle.level_queue.proofs.QueueLaws.{queue_given, given_reached}
use Rattle.level_queue.proofs.queue.LevelQueue.take.Goals as goal

pub returns-in_err-item-clause-list : goal.returns-in_err-item-clause-list
returns-in_err-item-clause-list g c told xs list =
    let v = g.S.Shelf.world c.peek.new.shelf in
    gives_refused (Lists g.T.Spill.is_value g.T.Spill.words g.T.Ord.cmp c.peek.new.self v) (Lists g.T.Spill.is_value g.T.Spill.words g.T.Ord.cmp _ v) xs
    c.from_residual.result c.in_err-item.field-0.0 c.from_residual.ensures.1 (c.in_err-item.ensures.list told xs list)

pub returns-in_default-clause-list : goal.returns-in_default-clause-list
returns-in_default-clause-list g c told xs list =
    subst (λ (o : Option g.row.T.Denot). Shows (Lists g.T.Spill.is_value g.T.Spill.words g.T.Ord.cmp c.peek.new.self (g.S.Shelf.world c.peek.new.shelf)) xs (Ok o))
    c.in_default.is (c.in_ok-item.ensures.list told xs list)

pub drop_first-requires-clause-known : goal.drop_first-requires-clause-known
unfolding shown
drop_first-requires-clause-known g c =
    let is_shown = shown_so (sorters.shown c.peek.new.self.sorter) c.in_ok-item.field-0 c.in-Some.item c.in-Some.is c.in_ok-item.ensures.shown in
    subst IsSome (sym is_shown) refl

pub returns-clause-list : goal.returns-clause-list
unfolding shown
returns-clause-list g c told xs list =
    let v = g.S.Shelf.world c.peek.new.shelf in
    let shows = subst (λ (o : Option g.row.T.Denot). Shows (Lists g.T.Spill.is_value g.T.Spill.words g.T.Ord.cmp c.peek.new.self v) xs (Ok o)) c.in-Some.is (c.in_ok-item.ensures.list told xs list) in
    let is_shown = shown_so (sorters.shown c.peek.new.self.sorter) c.in_ok-item.field-0 c.in-Some.item c.in-Some.is c.in_ok-item.ensures.shown in
    queue_given g.T.Spill.is_value g.T.Spill.words g.T.Ord.cmp g.met.T.Ord.total c.peek.new.self c.drop_first.new.self v v c.in-Some.item xs shows.2
    (subst (λ (o : Option g.row.T.Denot). Gives (sorters.Lists g.T.Spill.is_value g.T.Spill.words g.T.Ord.cmp c.drop_first.new.self v) xs (Ok o)) is_shown (c.drop_first.ensures.list v xs shows.2.sorter))

pub returns-clause-values : goal.returns-clause-values
unfolding shown
returns-clause-values g c =
    let o = c.in_ok-item.field-0 in
    let is_shown = shown_so (sorters.shown c.peek.new.self.sorter) o c.in-Some.item c.in-Some.is c.in_ok-item.ensures.shown in
    let least = subst (λ (p : Option g.row.T.Denot). sorters.LeavesAbove g.T.Spill.words c.drop_first.new.self (Ok p)) (is_shown ∙ sym c.in-Some.is) c.drop_first.ensures.least in
    record {
      sorter = c.drop_first.ensures.values;
      reached = given_reached g.T.Spill.is_value g.T.Spill.words c.drop_first.new.self o c.in-Some.item c.in-Some.is c.in_ok-item.ensures.value least;
    }

pub returns-clause-calls : goal.returns-clause-calls
unfolding credit
returns-clause-calls g c told =
    let shows = c.peek.ensures.calls told in
    let gives = c.drop_first.ensures.credit in
    omega (arith, shows, gives)
