use Rattle.std.proofs.Common.{◌≡◌}
use Rattle.std.specs.Prelude.{Result, Ok, Err, IfOk, IsErrAnd}
use Rattle.shelf_model.specs.declared.sort_fault.SortFault.{SortFault}
use Rattle.top_down_sweep.proofs.Makings.{starts_ok}
use Rattle.top_down_sweep.specs.Beginning.{files_from}
use Rattle.table_work.proofs.Starting.{makes_soon, no_damage, start_refused}
use Rattle.table_work.proofs.sweep.TableSweep.begin.Goals as goal

-- the operation on canonical files is the task of its step's table
pub returns : goal.returns
returns g c = record {
  starts = record {
    begun = c.in_ok-sweep.ensures.begun;
    variables = c.in_ok-sweep.ensures.variables;
    leaves = starts_ok g.S.Shelf.tells g.S.Shelf.world g.S.Shelf.faults c.args.n
        (files_from c.args.operands c.args.parts) c.args.parts c.args.shelf.now c.begin.new.shelf
        c.in_ok-sweep.sweep _ c.in_ok-sweep.ensures.leaves;
    few_calls = c.begin.ensures.few_calls;
    remains = λ told. makes_soon g.O.Operation.rule g.O.Operation.begins c.args.operation (g.O.TableOperation.step c.args.operation) c.args.n
        c.args.operands c.args.parts c.operations_on_canonical_files_are_work.ensures
        (g.met.O.TableOperation.same_rule c.args.operation) (g.met.O.TableOperation.same_begins c.args.operation)
        c.requires.within c.requires.past_made _ (g.S.Shelf.world c.args.shelf.now)
        (g.S.Shelf.world c.begin.new.shelf) (c.in_ok-sweep.ensures.remains told) (c.in_ok-sweep.ensures.left told);
    undamaged = tt;
  };
  operation = c.in_ok-sweep.ensures.operation;
}

-- a fault is no sweep
no_sweep : {T : Type 0} (P : T → Type 0) (r : Result T SortFault) (e : SortFault) → IsErrAnd r (λ x. x ≡ e) → IfOk r P
no_sweep P (Ok x) e is = absurd is
no_sweep P (Err x) e is = tt

pub returns-in_err-sweep : goal.returns-in_err-sweep
returns-in_err-sweep g c = record {
  starts = start_refused g.O.Operation.rule g.O.Operation.begins g.S.Shelf.tells g.S.Shelf.world g.S.Shelf.faults
      (g.O.TableOperation.step c.args.operation) c.args.n c.args.operands c.args.parts c.args.shelf.now
      c.begin.new.shelf c.in_err-sweep.field-0.0 c.from_residual.result c.from_residual.ensures.1
      c.in_err-sweep.ensures.leaves c.begin.ensures.few_calls
      (λ told. no_damage g.O.Operation.rule g.O.Operation.begins c.args.operation (g.O.TableOperation.step c.args.operation) c.args.n
      c.args.operands c.args.parts c.operations_on_canonical_files_are_work.ensures
      (g.met.O.TableOperation.same_rule c.args.operation) (g.met.O.TableOperation.same_begins c.args.operation)
      c.requires.within c.requires.past_made (g.S.Shelf.world c.args.shelf.now) c.in_err-sweep.field-0.0
      (c.in_err-sweep.ensures.undamaged told));
  operation = no_sweep _ c.from_residual.result _ c.from_residual.ensures.1;
}
