use Rattle.std.proofs.Common.{◌≡◌, subst}
use Rattle.std.specs.Prelude.{IfOk}
use Rattle.step_sweeps.specs.Points.{IsOfEvaluation}
use Rattle.step_sweeps.proofs.AnswerEvaluating.{Starts, Rebuilds, start_begun, start_refused, foreign_refused, rebuild_begun, rebuild_refused}
use Rattle.step_sweeps.proofs.answers.begin_evaluation.Goals as goal
use Rattle.step_sweeps.proofs.answers.begin_evaluation.Given.{Over}

-- what the start says
starts : (g : Over) (c : goal.After-start g) → Starts g.S.Shelf.tells g.S.Shelf.world g.S.Shelf.faults c.args.n
    c.args.file c.args.text.now
    c.args.at c.args.going.now.step c.args.shelf.now c.start.new.shelf c.start.result
starts g c = record {
  ready = c.start.ensures.ready;
  in_step = c.start.ensures.in_step;
  trusts = c.start.ensures.trusts;
  file_is = c.start.ensures.file;
  variables = c.start.ensures.variables;
  bits = c.start.ensures.bits;
  parts = subst (λ p. IfOk c.start.result (λ s. s.parts ≡ p)) c.no_parts.ensures c.start.ensures.parts;
  left_is = c.start.ensures.left;
  remains = c.start.ensures.remains;
  damage = c.start.ensures.damage;
  undamaged = c.start.ensures.undamaged;
  content = c.start.ensures.content;
  faults = c.start.ensures.faults;
  refused = c.start.ensures.refused;
}

pub returns-in_default-clause-begun : goal.returns-in_default-clause-begun
returns-in_default-clause-begun g c = start_begun g.S.Shelf.tells g.S.Shelf.world g.S.Shelf.faults c.args.n c.args.file c.args.text.now
    c.args.at c.args.going.now c.requires.going c.requires.earlier c.args.shelf.now c.start.new.shelf c.start.result
    c.in_default.is (starts g c)

pub returns-in_default-clause-refused : goal.returns-in_default-clause-refused
returns-in_default-clause-refused g c = start_refused g.S.Shelf.tells g.S.Shelf.world g.S.Shelf.faults c.args.n
    c.args.file c.args.text.now
    c.args.at c.args.going.now c.requires.going c.requires.earlier c.args.shelf.now c.start.new.shelf
    c.start.result c.in_default.is (starts g c)

-- a checkpoint that isn't one of the evaluation
pub returns-then-not-is_of_evaluation-clause-refused : goal.returns-then-not-is_of_evaluation-clause-refused
returns-then-not-is_of_evaluation-clause-refused g c = foreign_refused g.S.Shelf.tells g.S.Shelf.world
    g.S.Shelf.faults c.args.n c.args.file c.args.text.now
    c.args.at c.args.going.now c.requires.going c.requires.earlier
    c.args.shelf.now c.foreign_point.new.shelf c.in-Some.point c.in-Some.is c.foreign_point.result
    (λ ours. let true = c.is_of_evaluation.ensures.1 ours in let false = c.if-not-is_of_evaluation.true in absurd (cc))
    c.foreign_point.ensures.kind c.foreign_point.ensures.content c.foreign_point.ensures.calls
    c.foreign_point.ensures.faults

-- one that is
is_of : (g : Over) (c : goal.After-rebuild g) → IsOfEvaluation c.in-Some.point c.args.n c.args.file c.args.text.now
    c.args.at
is_of g c = c.is_of_evaluation.ensures.0 c.if-not-is_of_evaluation.false

rebuilds : (g : Over) (c : goal.After-rebuild g) → Rebuilds g.S.Shelf.tells g.S.Shelf.world g.S.Shelf.faults
    c.in-Some.point c.args.text.now c.args.shelf.now c.rebuild.new.shelf c.rebuild.result
rebuilds g c = record {
  ready = c.rebuild.ensures.ready;
  in_step = c.rebuild.ensures.in_step;
  names = c.rebuild.ensures.names;
  reads = c.rebuild.ensures.reads;
  remains = c.rebuild.ensures.remains;
  damage = c.rebuild.ensures.damage;
  undamaged = c.rebuild.ensures.undamaged;
  content = c.rebuild.ensures.content;
  calls = c.rebuild.ensures.calls;
  faults = c.rebuild.ensures.faults;
}

pub returns-clause-begun : goal.returns-clause-begun
returns-clause-begun g c = rebuild_begun g.S.Shelf.tells g.S.Shelf.world g.S.Shelf.faults c.args.n c.args.file c.args.text.now
    c.args.at c.args.going.now c.requires.going c.requires.earlier c.args.shelf.now c.rebuild.new.shelf
    c.in-Some.point c.in-Some.is c.rebuild.result (is_of g c) (rebuilds g c)

pub returns-clause-refused : goal.returns-clause-refused
returns-clause-refused g c = rebuild_refused g.S.Shelf.tells g.S.Shelf.world g.S.Shelf.faults c.args.n c.args.file c.args.text.now
    c.args.at c.args.going.now c.requires.going c.requires.earlier c.args.shelf.now c.rebuild.new.shelf
    c.in-Some.point c.in-Some.is c.rebuild.result (is_of g c) (rebuilds g c)
