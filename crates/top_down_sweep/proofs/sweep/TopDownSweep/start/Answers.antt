use Rattle.top_down_sweep.specs.Meaning.{first_contents}
use Rattle.std.proofs.Common.{◌+◌, ◌*◌, ◌≡◌, ap, inl, ◌∙◌, false, refl, sym, subst, arith}
use Rattle.std.specs.Prelude.{length}
use Rattle.top_down_sweep.proofs.TurnNumbers.{unread_is}
use Rattle.top_down_laws.specs.Laws.{unread_all}
use Rattle.sweep_core.specs.Sweeps.{IsNoDamage}
use Rattle.top_down_sweep.specs.Waiting.{AreApart}
use Rattle.top_down_sweep.specs.Sweeps.{files_in}
use Rattle.tuple_asks.specs.declared.files.Files.{Files}
use Rattle.top_down_sweep.proofs.StandingOn.{all_still}
use Rattle.node_reading.proofs.NodeReading.{if_handed}
use Rattle.shelf_model.specs.SortFaults.{handed_on}
use Rattle.tuple_asks.specs.Damage.{IsStartFault}
use Rattle.sweep_core.specs.Accounts.{CanBeTaken}
use Rattle.node_reading.proofs.Staying.{looked_stays}
use Rattle.tuple_asks.proofs.StartLeaves.{only_looked, then_cut, others_uncut}
use Rattle.top_down_sweep.proofs.Holding.{operands_still}
use Rattle.tuple_asks.proofs.Staying.{looked_same}
use Rattle.top_down_sweep.proofs.OperandsStay.{task_on}
use Rattle.top_down_sweep.proofs.Known.{none_asks}
use Rattle.top_down_sweep.specs.declared.machine.Machine.{Machine}
use Rattle.tuple_asks.specs.declared.place.Phase.TheVariants.{Fresh}
use Rattle.node_reading.proofs.Wholes.{stream_fine}
use Rattle.run_tiers.proofs.FaultLaws.{sort_shelf_then, sort_shelf_on}
use Rattle.tuple_asks.specs.Operands.{IsStartDamage}
use Rattle.top_down_sweep.proofs.sweep.TopDownSweep.start.Goals as goal

-- the operands were looked at, and the files of arcs were cut
pub returns-in_err-operands-clause-content : goal.returns-in_err-operands-clause-content
returns-in_err-operands-clause-content g c = only_looked g.S.Shelf.tells g.S.Shelf.world c.args.files.inner
    c.args.files.ends 0 0 _ _ (looked_stays g.S.Shelf.tells g.S.Shelf.world 6 _ _ c.start.ensures.content)

pub returns-in_err-writer-clause-content : goal.returns-in_err-writer-clause-content
returns-in_err-writer-clause-content g c = then_cut g.S.Shelf.tells g.S.Shelf.world c.args.files.inner
    c.args.files.ends 0 0 2 _ _ _ (looked_stays g.S.Shelf.tells g.S.Shelf.world 6 _ _ c.start.ensures.content)
    c.start-2.ensures.content

pub returns-clause-content : goal.returns-clause-content
returns-clause-content g c = then_cut g.S.Shelf.tells g.S.Shelf.world c.args.files.inner
    c.args.files.ends 0 0 2 _ _ _ (looked_stays g.S.Shelf.tells g.S.Shelf.world 6 _ _ c.start.ensures.content)
    c.start-2.ensures.content

-- the queue is empty, and the files of arcs have no parts that can be taken
pub returns-clause-ready : goal.returns-clause-ready
returns-clause-ready g c = record {
  served = record {
    values = c.start-3.ensures.values;
    serves = c.start-3.ensures.serves c.args.parts c.requires.past_made;
    inner_made = subst (λ f. ¬ CanBeTaken c.args.parts.step c.args.parts.next f) (sym c.in_ok-writer.ensures.files.0) c.requires.inner_made;
    ends_made = subst (λ f. ¬ CanBeTaken c.args.parts.step c.args.parts.next f) (sym c.in_ok-writer.ensures.files.1) c.requires.ends_made;
    inner_apart = λ run. c.start-3.ensures.runs _ run;
    ends_apart = λ run. c.start-3.ensures.runs _ run;
  };
  operands = c.in_ok-operands.ensures.are;
  phase = c.start-3.ensures.last;
}

-- no ask waits, no arc was put, and the operands are read from the front on
pub returns-clause-trusts : goal.returns-clause-trusts
returns-clause-trusts g c told =
    let m : Machine = record {
      place = record { variables = c.args.n; phase = Fresh; has_one = false };
      operands = c.in_ok-operands.operands;
      queue = c.start-3.result;
      writer = c.in_ok-writer.writer;
      parts = c.args.parts;
    } in
    let files = c.in_ok-writer.ensures.files in (
      none_asks _ _ m (g.S.Shelf.world c.start-2.new.shelf)
          (c.start-3.ensures.list (g.S.Shelf.world c.start-2.new.shelf)) (λ f made run. c.start-3.ensures.runs f run)
          c.in_ok-operands.ensures.unread
          (λ apart. operands_still m (g.S.Shelf.world c.start.new.shelf) (g.S.Shelf.world c.start-2.new.shelf) c.in_ok-operands.ensures.are
          (λ f is_apart. others_uncut 2 c.args.files.inner c.args.files.ends f _ _ (c.start-2.ensures.content.did told) (λ is. is_apart.not_inner (is ∙ sym files.0)) (λ is. is_apart.not_ends (is ∙ sym files.1)))
          apart (c.in_ok-operands.ensures.reading (c.start-2.ensures.content.before told))),
      c.in_ok-operands.ensures.unread,
      c.in_ok-writer.ensures.arcs told,
    )

-- the files of arcs couldn't be cut
pub returns-in_err-writer-clause-damage : goal.returns-in_err-writer-clause-damage
returns-in_err-writer-clause-damage g c = if_handed _ c.from_residual-in_err-writer.result _ c.from_residual-in_err-writer.ensures.1
    (λ told. subst (λ e. IsStartFault c.args.files c.args.n (g.S.Shelf.world c.args.shelf.now) (handed_on e)) (sym c.in_err-writer.ensures.cause) (inl tt))

-- nothing waits, nothing was read of files of the task's diagrams, which stay, and nothing was put
pub returns-clause-remains : goal.returns-clause-remains
returns-clause-remains g c told t is =
    let m : Machine = record {
      place = record { variables = c.args.n; phase = Fresh; has_one = false };
      operands = c.in_ok-operands.operands;
      queue = c.start-3.result;
      writer = c.in_ok-writer.writer;
      parts = c.args.parts;
    } in
    let made = c.in_ok-writer.ensures.files in
    let read = c.in_ok-operands.ensures.files in
    let same : files_in m ≡ c.args.files = λ i. record {
      first = read.first_is i;
      second = read.second_is i;
      third = read.third_is i;
      inner = made.0 i;
      ends = made.1 i;
    } in
    let apart : AreApart (files_in m) c.args.parts.step = subst (λ (fs : Files). AreApart fs c.args.parts.step) (sym same) is.apart in
    let before = c.start-2.ensures.content.before told in
    let unread = c.in_ok-operands.ensures.nodes before is.roots t.diagrams is.nodes_are in
    record {
      on_files = task_on t _ _ c.args.n c.args.files (files_in m) c.args.parts.step c.args.parts.step
          (g.S.Shelf.world c.args.shelf.now) (g.S.Shelf.world c.start-2.new.shelf) same refl
          (λ f is_apart. others_uncut 2 c.args.files.inner c.args.files.ends f _ _ (c.start-2.ensures.content.did told)
          is_apart.not_inner is_apart.not_ends
          ∙ looked_same _ _ (c.start.ensures.content.did before).run f) is;
      left = record {
        roots_are = ap (g.O.Operation.begins c.args.operation) unread.roots_are ∙ is.begins_are;
        stands = record {
          asks_are = c.start-3.ensures.list (g.S.Shelf.world c.start-2.new.shelf);
          read = all_still m (g.S.Shelf.world c.start.new.shelf) (g.S.Shelf.world c.start-2.new.shelf) (unread_all t.diagrams)
              c.in_ok-operands.ensures.are
              (λ f is_apart. others_uncut 2 c.args.files.inner c.args.files.ends f _ _ (c.start-2.ensures.content.did told) (λ it. is_apart.not_inner (it ∙ sym made.0)) (λ it. is_apart.not_ends (it ∙ sym made.1)))
              apart unread.read;
          written = c.in_ok-writer.ensures.arcs told;
          one_is = refl;
          no_run = λ f own run. c.start-3.ensures.runs f run;
          apart = apart;
        };
      };
    }

-- and no file of them is damaged
pub returns-in_err-operands-clause-undamaged : goal.returns-in_err-operands-clause-undamaged
returns-in_err-operands-clause-undamaged g c = if_handed _ c.from_residual.result _ c.from_residual.ensures.1
    (λ told t is. c.in_err-operands.ensures.undamaged told is.roots t.diagrams is.nodes_are)

pub returns-in_err-writer-clause-undamaged : goal.returns-in_err-writer-clause-undamaged
returns-in_err-writer-clause-undamaged g c = if_handed _ c.from_residual-in_err-writer.result _ c.from_residual-in_err-writer.ensures.1
    (λ told t is. subst (λ e. IsNoDamage (handed_on e)) (sym c.in_err-writer.ensures.cause) tt)

-- no more turns than these remain
pub returns-clause-left : goal.returns-clause-left
returns-clause-left g c told w is =
    let m : Machine = record {
      place = record { variables = c.args.n; phase = Fresh; has_one = false };
      operands = c.in_ok-operands.operands;
      queue = c.start-3.result;
      writer = c.in_ok-writer.writer;
      parts = c.args.parts;
    } in
    ap (λ nodes. 6 * length w.tuples + nodes + 5) (unread_is m
    (g.S.Shelf.world c.start-2.new.shelf) (first_contents w.task)
    (returns-clause-remains g c told w.task is).left.stands)

-- why it is refused, and which faults are counted
pub returns-in_err-operands-clause-refused : goal.returns-in_err-operands-clause-refused
returns-in_err-operands-clause-refused g c = if_handed _ c.from_residual.result _ c.from_residual.ensures.1
    c.in_err-operands.ensures.damage

pub returns-in_err-writer-clause-refused : goal.returns-in_err-writer-clause-refused
returns-in_err-writer-clause-refused g c = if_handed _ c.from_residual-in_err-writer.result _
    c.from_residual-in_err-writer.ensures.1
    (subst (λ e. IsStartDamage c.args.files (handed_on e)) (sym c.in_err-writer.ensures.cause) tt)

pub returns-in_err-operands-clause-damage : goal.returns-in_err-operands-clause-damage
returns-in_err-operands-clause-damage g c = if_handed _ c.from_residual.result _ c.from_residual.ensures.1
    c.in_err-operands.ensures.trailer

pub returns-in_err-operands-clause-faults : goal.returns-in_err-operands-clause-faults
returns-in_err-operands-clause-faults g c = sort_shelf_on _ _ c.in_err-operands.field-0.0 c.from_residual.result
    c.from_residual.ensures.1 c.in_err-operands.ensures.faults

pub returns-clause-faults : goal.returns-clause-faults
returns-clause-faults g c = sort_shelf_then _ _ _ _ _ c.in_ok-operands.ensures.faults
    (stream_fine _ _ _ _ c.in_ok-writer.ensures.faults)

-- few calls are made
pub returns-in_err-operands-clause-few_calls : goal.returns-in_err-operands-clause-few_calls
returns-in_err-operands-clause-few_calls g c = λ told.
    let few = (c.start.ensures.content.did told).few in omega (arith, few)

pub returns-in_err-writer-clause-few_calls : goal.returns-in_err-writer-clause-few_calls
returns-in_err-writer-clause-few_calls g c = λ told.
    let first = (c.start.ensures.content.did (c.start-2.ensures.content.before told)).few in
    let second = (c.start-2.ensures.content.did told).few in
    omega (arith, first, second)

pub returns-clause-few_calls : goal.returns-clause-few_calls
returns-clause-few_calls g c = λ told.
    let first = (c.start.ensures.content.did (c.start-2.ensures.content.before told)).few in
    let second = (c.start-2.ensures.content.did told).few in
    omega (arith, first, second)
