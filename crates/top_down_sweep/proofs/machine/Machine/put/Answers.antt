use Rattle.top_down_sweep.proofs.StandingOn.{stands_written}
use Rattle.top_down_sweep.proofs.Holding.{written_at}
use Rattle.std.specs.Prelude.{◌==◌, ◌||◌}
use Rattle.std.proofs.Common.{◌∙◌, sym, ap, refl, rules}
use Rattle.top_down_sweep.specs.Meaning.{leads_to_one}
use Rattle.top_down_sweep.proofs.MetOnes.{one_put}
use Rattle.top_down_sweep.proofs.machine.Machine.put.Goals.{then-self, else-self}
use Rattle.top_down_sweep.proofs.Doing.{does_wrote}
use Rattle.top_down_sweep.proofs.machine.Machine.put.Goals as goal

-- only the files of arcs were written to
pub returns-in_err-put-clause-does : goal.returns-in_err-put-clause-does
returns-in_err-put-clause-does g c = does_wrote g.S.Shelf.tells g.S.Shelf.world g.S.Shelf.faults 1 _
    _ c.args.self.now _ c.put.new.self c.from_residual.result refl
    c.put.ensures.same c.put.ensures.content (search rules) (search rules)

pub returns-clause-does : goal.returns-clause-does
returns-clause-does g c = does_wrote g.S.Shelf.tells g.S.Shelf.world g.S.Shelf.faults 1 _ _
    c.args.self.now _ c.put.new.self _ refl
    c.put.ensures.same c.put.ensures.content (search rules) tt

-- asks wait as before
pub returns-clause-holds : goal.returns-clause-holds
returns-clause-holds g c = written_at g.S.Shelf.tells g.S.Shelf.world 1 _ _
    c.args.self.now _ refl
    (λ j. record {
      first = c.args.self.now.operands.first.file;
      second = c.args.self.now.operands.second.file;
      third = c.args.self.now.operands.third.file;
      inner = c.put.ensures.same.inner_is j;
      ends = c.put.ensures.same.ends_are j;
    }) c.requires.fit.sound.operands c.put.ensures.content

-- it is known whether one leads to 1
pub returns-clause-one : goal.returns-clause-one
returns-clause-one g c = elim c.if-self.branch [
  | then-self w ↦ w.self-is ∙ w.if-self.true ∙ sym (ap (λ b. b || leads_to_one c.args.arc) w.if-self.true)
  | else-self w ↦ w.self-is ∙ w.eq-self.ensures ∙ ap (λ p. c.args.arc.target == p) w.terminal.ensures
      ∙ sym (ap (λ b. b || leads_to_one c.args.arc) w.if-self.false)
]

-- it stands behind the others
pub returns-clause-written : goal.returns-clause-written
returns-clause-written g c told k stands = stands_written 1 c.args.self.now _ _ _ k _ _ refl
    (λ j. record {
      first = c.args.self.now.operands.first.file;
      second = c.args.self.now.operands.second.file;
      third = c.args.self.now.operands.third.file;
      inner = c.put.ensures.same.inner_is j;
      ends = c.put.ensures.same.ends_are j;
    }) c.requires.fit.sound.operands (c.put.ensures.content.did told)
    (c.in_ok-put.ensures.arcs told k.inner k.ends stands.written)
    (returns-clause-one g c ∙ one_put _ k.ends c.args.arc stands.one_is) stands

pub returns-in_err-put-clause-one : goal.returns-in_err-put-clause-one
returns-in_err-put-clause-one g c = elim c.if-self.branch [
  | then-self w ↦ w.self-is ∙ w.if-self.true ∙ sym (ap (λ b. b || leads_to_one c.args.arc) w.if-self.true)
  | else-self w ↦ w.self-is ∙ w.eq-self.ensures ∙ ap (λ p. c.args.arc.target == p) w.terminal.ensures
      ∙ sym (ap (λ b. b || leads_to_one c.args.arc) w.if-self.false)
]

-- and so many stand there
pub returns-clause-count : goal.returns-clause-count
returns-clause-count g c = c.in_ok-put.ensures.inner

pub returns-clause-arcs : goal.returns-clause-arcs
returns-clause-arcs g c = c.in_ok-put.ensures.arcs
