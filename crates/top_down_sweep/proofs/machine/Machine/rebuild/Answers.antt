use Rattle.std.proofs.Common.{◌≡◌, ◌≤◌, ◌*◌, ◌∙◌, refl, ap, sym, subst, arith}
use Rattle.shelf_model.specs.Calls.{Told}
use Rattle.shelf_model.specs.World.{file}
use Rattle.arc_file.specs.declared.unreduced.Unreduced.{Unreduced}
use Rattle.arc_file.specs.Arcs.{arc_size}
use Rattle.arc_file.specs.Files.{BeginWith}
use Rattle.arc_file.specs.Pairs.{CutBoth}
use Rattle.arc_file.specs.Writers.{made_of, HoldsArcs}
use Rattle.level_queue.specs.Queues.{credit}
use Rattle.level_queue.specs.Tables.{AreTables, ServeTables, NamesAny, TablesList, tables_left}
use Rattle.node_reading.proofs.NodeReading.{if_handed}
use Rattle.node_reading.proofs.Spent.{not_spent}
use Rattle.sweep_core.specs.Accounts.{CanBeTaken}
use Rattle.sweep_core.specs.Resting.{made_rests}
use Rattle.top_down_sweep.specs.declared.machine.Machine.{Machine}
use Rattle.tuple_asks.specs.declared.place.Place.{Place}
use Rattle.tuple_asks.specs.Items.{ask_words, IsAsk, ask_cmp}
use Rattle.tuple_asks.specs.Resuming.{OfArcs, arcs_of}
use Rattle.top_down_sweep.specs.Resumes.{parts_at, queue_tables}
use Rattle.tuple_asks.specs.SavedRules.{table_in}
use Rattle.tuple_asks.specs.Operands.{AreOperands}
use Rattle.top_down_sweep.specs.Sweeps.{IsPhaseAt}
use Rattle.top_down_sweep.proofs.Restoring.{IsRebuilt, named_run, restores, phase_kept, arcs_sound, arcs_fault}
use Rattle.tuple_asks.proofs.StartLeaves.{only_looked, then_cut}
use Rattle.node_reading.proofs.Wholes.{stream_fine}
use Rattle.run_tiers.proofs.FaultLaws.{sort_shelf_then, sort_shelf_on}
use Rattle.top_down_sweep.proofs.machine.Machine.rebuild.Goals as goal

pub resume-requires-clause-apart : goal.resume-requires-clause-apart
resume-requires-clause-apart g c = λ same. c.requires.rules.arcs.two_files
    (sym (ap (λ (u : Unreduced). u.inner) c.made.ensures) ∙ same ∙ ap (λ (u : Unreduced). u.ends) c.made.ensures)

pub thaw-requires-clause-tables : goal.thaw-requires-clause-tables
thaw-requires-clause-tables g c = subst AreTables (sym c.queue_tables-tables.ensures) c.requires.queue.are

-- the operands can't be read on
pub returns-in_err-operands-clause-damage : goal.returns-in_err-operands-clause-damage
returns-in_err-operands-clause-damage g c = if_handed _ c.from_residual.result _ c.from_residual.ensures.1
    (λ told. c.in_err-operands.ensures.damage told)

pub returns-in_err-operands-clause-undamaged : goal.returns-in_err-operands-clause-undamaged
returns-in_err-operands-clause-undamaged g c = if_handed _ c.from_residual.result _ c.from_residual.ensures.1
    (λ told t rule begins tuples turns goes. c.in_err-operands.ensures.undamaged told goes.on_files.roots t.diagrams
    goes.on_files.nodes_are goes.among)

pub returns-in_err-operands-clause-kind : goal.returns-in_err-operands-clause-kind
returns-in_err-operands-clause-kind g c = if_handed _ c.from_residual.result _ c.from_residual.ensures.1
    c.in_err-operands.ensures.kind

pub returns-in_err-operands-clause-content : goal.returns-in_err-operands-clause-content
returns-in_err-operands-clause-content g c =
    let a = c.args.saved.now.arcs in
    only_looked g.S.Shelf.tells g.S.Shelf.world a.inner a.ends (a.inner_count * arc_size) (a.ends_count * arc_size) _ _
    c.operands.ensures.content

-- a file of arcs is too short
pub returns-in_err-writer-clause-damage : goal.returns-in_err-writer-clause-damage
returns-in_err-writer-clause-damage g c = if_handed _ c.from_residual-in_err-writer.result _
    c.from_residual-in_err-writer.ensures.1 (λ told.
    OfArcs (arcs_fault c.args.saved.now.arcs c.made.result _ _ c.in_err-writer.field-0.0 c.made.ensures
    (c.operands.ensures.content.did (c.resume.ensures.content.before told)) (c.in_err-writer.ensures.short told)))

pub returns-in_err-writer-clause-undamaged : goal.returns-in_err-writer-clause-undamaged
returns-in_err-writer-clause-undamaged g c = if_handed _ c.from_residual-in_err-writer.result _
    c.from_residual-in_err-writer.ensures.1 (λ told t rule begins tuples turns goes.
    let x = c.args.saved.now in
    arcs_sound x.arcs c.made.result _ _ c.in_err-writer.field-0.0 x.asking t c.args.from.now x tuples turns refl
    c.made.ensures (c.operands.ensures.content.did (c.resume.ensures.content.before told)) goes.goes_on
    (c.in_err-writer.ensures.short told))

pub returns-in_err-writer-clause-kind : goal.returns-in_err-writer-clause-kind
returns-in_err-writer-clause-kind g c = if_handed _ c.from_residual-in_err-writer.result _
    c.from_residual-in_err-writer.ensures.1 (not_spent c.in_err-writer.field-0.0)

pub returns-in_err-writer-clause-content : goal.returns-in_err-writer-clause-content
returns-in_err-writer-clause-content g c =
    let a = c.args.saved.now.arcs in
    then_cut g.S.Shelf.tells g.S.Shelf.world a.inner a.ends (a.inner_count * arc_size) (a.ends_count * arc_size) 4 _ _ _
    c.operands.ensures.content
    (subst (λ (u : Unreduced). Told g.S.Shelf.tells c.operands.new.shelf c.resume.new.shelf (CutBoth 4 u.inner
    (u.inner_count * arc_size) u.ends (u.ends_count * arc_size) (g.S.Shelf.world c.operands.new.shelf)
    (g.S.Shelf.world c.resume.new.shelf))) c.made.ensures c.resume.ensures.content)

pub returns-in_err-writer-clause-calls : goal.returns-in_err-writer-clause-calls
returns-in_err-writer-clause-calls g c = λ told.
    let first = c.operands.ensures.calls (c.resume.ensures.content.before told) in
    let few = (c.resume.ensures.content.did told).few in
    omega (arith, first, few)

-- it is rebuilt
pub returns-clause-content : goal.returns-clause-content
returns-clause-content g c =
    let a = c.args.saved.now.arcs in
    then_cut g.S.Shelf.tells g.S.Shelf.world a.inner a.ends (a.inner_count * arc_size) (a.ends_count * arc_size) 4 _ _ _
    c.operands.ensures.content
    (subst (λ (u : Unreduced). Told g.S.Shelf.tells c.operands.new.shelf c.resume.new.shelf (CutBoth 4 u.inner
    (u.inner_count * arc_size) u.ends (u.ends_count * arc_size) (g.S.Shelf.world c.operands.new.shelf)
    (g.S.Shelf.world c.resume.new.shelf))) c.made.ensures c.resume.ensures.content)

pub returns-clause-calls : goal.returns-clause-calls
returns-clause-calls g c = λ told.
    let first = c.operands.ensures.calls (c.resume.ensures.content.before told) in
    let few = (c.resume.ensures.content.did told).few in
    omega (arith, first, few)

pub returns-clause-files : goal.returns-clause-files
returns-clause-files g c =
    let arcs : made_of c.in_ok-writer.writer c.made.result.root ≡ arcs_of c.args.saved.now.arcs =
    c.in_ok-writer.ensures.files ∙ c.made.ensures in
    let read = c.in_ok-operands.ensures.files in
    λ i. record {
      first = read.first_is i;
      second = read.second_is i;
      third = read.third_is i;
      inner = (arcs i).inner;
      ends = (arcs i).ends;
    }

pub returns-clause-sound : goal.returns-clause-sound
returns-clause-sound g c =
    let from = c.args.from.now in
    let x = c.args.saved.now in
    let rules = c.requires.rules.arcs in
    let arcs : made_of c.in_ok-writer.writer c.made.result.root ≡ arcs_of x.arcs =
    c.in_ok-writer.ensures.files ∙ c.made.ensures in
    let place = sym c.place.ensures in
    record {
      served = record {
        values = c.thaw.ensures.values;
        serves = c.thaw.ensures.serves (parts_at from) refl
            (subst (ServeTables (parts_at from)) (sym c.queue_tables-tables.ensures) c.requires.queue.served);
        inner_made = subst (λ f. ¬ CanBeTaken from.step from.next_part f) (sym (ap (λ (u : Unreduced). u.inner) arcs))
            (made_rests from x.arcs.inner rules.parts rules.inner_made).taken;
        ends_made = subst (λ f. ¬ CanBeTaken from.step from.next_part f) (sym (ap (λ (u : Unreduced). u.ends) arcs))
            (made_rests from x.arcs.ends rules.parts rules.ends_made).taken;
        inner_apart = λ run. c.requires.rules.no_runs.inner (named_run from.step (table_in from 0) x.arcs.inner
            (subst (NamesAny from.step (queue_tables from)) (ap (λ (u : Unreduced). u.inner) arcs)
            (subst (λ ts. NamesAny from.step ts (made_of c.in_ok-writer.writer c.made.result.root).inner)
            c.queue_tables-tables.ensures (c.thaw.ensures.runs _ run))));
        ends_apart = λ run. c.requires.rules.no_runs.ends (named_run from.step (table_in from 0) x.arcs.ends
            (subst (NamesAny from.step (queue_tables from)) (ap (λ (u : Unreduced). u.ends) arcs)
            (subst (λ ts. NamesAny from.step ts (made_of c.in_ok-writer.writer c.made.result.root).ends)
            c.queue_tables-tables.ensures (c.thaw.ensures.runs _ run))));
      };
      operands = subst (λ (p : Place). AreOperands p.variables c.in_ok-operands.operands) place
          c.in_ok-operands.ensures.are;
      phase = subst (λ (p : Place). IsPhaseAt c.in_ok-writer.writer c.thaw.result.last p.phase) place
          (phase_kept c.in_ok-writer.writer c.thaw.result.last x.taken x.arcs x.asking c.thaw.ensures.last
          (ap (λ (u : Unreduced). u.inner_count) arcs) c.requires.rules.phase);
    }

pub returns-clause-remains : goal.returns-clause-remains
returns-clause-remains g c = λ told t rule begins tuples turns goes.
    let from = c.args.from.now in
    let x = c.args.saved.now in
    let old = g.S.Shelf.world c.args.shelf.now in
    let mid = g.S.Shelf.world c.operands.new.shelf in
    let new = g.S.Shelf.world c.resume.new.shelf in
    let before = c.resume.ensures.content.before told in
    let made = c.made.ensures in
    let arcs : made_of c.in_ok-writer.writer c.made.result.root ≡ arcs_of x.arcs = c.in_ok-writer.ensures.files ∙ made in
    let m : Machine = record {
      place = c.place.result;
      operands = c.in_ok-operands.operands;
      queue = c.thaw.result;
      writer = c.in_ok-writer.writer;
      parts = record { step = from.step; next = from.next_part };
    } in
    let is : IsRebuilt from x old mid new m = record {
      looked = c.operands.ensures.content.did before;
      cut = subst (λ (u : Unreduced). CutBoth 4 u.inner (u.inner_count * arc_size) u.ends (u.ends_count * arc_size) mid
          new) made (c.resume.ensures.content.did told);
      place_is = c.place.ensures;
      parts_are = refl;
      files_are = returns-clause-files g c;
      operands = c.in_ok-operands.ensures.are;
      nodes = c.in_ok-operands.ensures.nodes before;
      inner_many = ap (λ (u : Unreduced). u.inner_count) arcs;
      ends_many = ap (λ (u : Unreduced). u.ends_count) arcs;
      arcs = λ xs ys. subst (λ (u : Unreduced). BeginWith xs u.inner_count (file mid u.inner).bytes
          → BeginWith ys u.ends_count (file mid u.ends).bytes → HoldsArcs c.in_ok-writer.writer new xs ys) made
          (c.in_ok-writer.ensures.arcs told xs ys);
      lists = λ xs list. c.thaw.ensures.list new xs
          (subst (λ ts. TablesList IsAsk ask_words ask_cmp from.step ts x.taken new xs)
          (sym c.queue_tables-tables.ensures) list);
      last_is = c.thaw.ensures.last;
      runs = λ f run. subst (λ ts. NamesAny from.step ts f) c.queue_tables-tables.ensures (c.thaw.ensures.runs f run);
    } in
    restores from x c.requires.rules old mid new m is t rule begins tuples turns goes

-- what it owes and has paid for
pub returns-clause-credit : goal.returns-clause-credit
returns-clause-credit g c = subst (λ ts. credit c.thaw.result ≤ 64 * tables_left ts) c.queue_tables-tables.ensures
    (subst (λ n. credit c.thaw.result ≤ 64 * n) c.thaw.ensures.count c.thaw.ensures.credit)

pub returns-clause-stock : goal.returns-clause-stock
returns-clause-stock g c = c.thaw.ensures.stock

pub returns-in_err-operands-clause-calls : goal.returns-in_err-operands-clause-calls
returns-in_err-operands-clause-calls g c = λ told. let first = c.operands.ensures.calls told in omega (arith, first)

-- which faults are counted
pub returns-in_err-operands-clause-faults : goal.returns-in_err-operands-clause-faults
returns-in_err-operands-clause-faults g c = sort_shelf_on _ _ c.in_err-operands.field-0.0 c.from_residual.result
    c.from_residual.ensures.1 c.in_err-operands.ensures.faults

pub returns-clause-faults : goal.returns-clause-faults
returns-clause-faults g c = sort_shelf_then _ _ _ _ _ c.in_ok-operands.ensures.faults
    (stream_fine _ _ _ _ c.in_ok-writer.ensures.faults)

-- where it stands
pub returns-clause-place : goal.returns-clause-place
returns-clause-place g c = c.place.ensures
