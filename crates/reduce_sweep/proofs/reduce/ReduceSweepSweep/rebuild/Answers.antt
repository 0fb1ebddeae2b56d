use Rattle.std.proofs.Common.{◌≡◌, ◌≢◌, ℕ, ◌≤◌, ◌*◌, ◌∙◌, [], ◌∷◌, refl, sym, ap, subst, inl, inr, arith}
use Rattle.std.specs.Prelude.{Option, Some, None, IfNone, Err}
use Rattle.std.proofs.lemmas.Result.{err_from_is_err_and}
use Rattle.rec_words.specs.Words.{node_size}
use Rattle.shelf_model.specs.declared.file_no.FileNo.{FileNo}
use Rattle.shelf_model.specs.World.{now}
use Rattle.shelf_model.proofs.Runs.{ran_end}
use Rattle.arc_file.specs.declared.kind.Kind.TheVariants.{End}
use Rattle.arc_file.specs.declared.unreduced.Unreduced.{Unreduced}
use Rattle.arc_file.specs.Streams.{file_of, left_of, given_of}
use Rattle.arc_file.specs.Readers.{inner_of, ends_of, left_over_of}
use Rattle.arc_diagrams.specs.Items.{source_row_words, IsSourceRow, source_row_cmp, name_words, IsName, name_cmp}
use Rattle.run_tiers.specs.declared.run.RunTable.{RunTable}
use Rattle.run_tiers.specs.Tables.{Names}
use Rattle.run_merge.specs.Tables.{TableLists}
use Rattle.sweep_core.specs.Accounts.{CanBeTaken}
use Rattle.sweep_core.specs.Carries.{OnlyCutBehind}
use Rattle.sweep_core.specs.Saving.{IsMadePart, IsReadPart, IsOfStep, reads_of}
use Rattle.reduce_lists.specs.declared.held.Ahead.{Ahead}
use Rattle.reduce_lists.specs.declared.held.Lists.{Lists}
use Rattle.reduce_lists.proofs.Beginning.{as_before, emptied, ReadsNothing, inner_damaged, ends_damaged, then_looked}
use Rattle.reduce_lists.proofs.Refusing.{if_err_weaker}
use Rattle.reduce_lists.proofs.Within.{within_read_inner, within_read_end, within_at_first}
use Rattle.reduce_sweep.specs.declared.place.Place.{Place}
use Rattle.reduce_sweep.specs.declared.reduce.ReduceSweep.{ReduceSweep}
use Rattle.reduce_sweep.specs.declared.saved.Saved.{Saved}
use Rattle.reduce_sweep.specs.Calls.{IsInStep}
use Rattle.reduce_sweep.specs.Sweeps.{IsSound, IsPhaseAt, accounts, task_of, turns_left}
use Rattle.reduce_sweep.specs.Remaining.{RemainsOf}
use Rattle.reduce_sweep.specs.SavedPhase.{phase_of}
use Rattle.reduce_sweep.specs.SavedTables.{parts_left, IsPicked}
use Rattle.reduce_sweep.specs.Resumes.{KeepsRules, RestsOn, IsOperand, place_of}
use Rattle.reduce_sweep.specs.ResumeLaws.{one_reduction, fits_at}
use Rattle.reduce_sweep.proofs.Counting.{few_at_first, few_read_inner, few_read_end}
use Rattle.reduce_sweep.proofs.FrozenTables.{not_named}
use Rattle.reduce_sweep.proofs.Rebuilding.{IsRebuilt, cut_rests, picked_saved, picked_second, picked_third, picked_left, left_named, thawed_queue, step_rebuilt, made_not_taken, handed, stands_for, stands_remain, blamed_undamaged}
use Rattle.reduce_sweep.proofs.reduce.ReduceSweepSweep.rebuild.Goals as goal

-- what is said of none
of_none : {X P : Type 0} (o : Option X) → ((x : X) → o ≢ Some x) → IfNone o P → P
of_none None other none = none
of_none (Some x) other none = absurd (other x refl)

-- its words are those of a reduction, in some phase
pub unreachable-requires : goal.unreachable-requires
unreachable-requires g c = of_none c.value_of.result c.in_default.not-Some c.value_of.ensures.none c.requires.fits.saved
    c.requires.fits.holds

pub unreachable-requires-in_default-phase : goal.unreachable-requires-in_default-phase
unreachable-requires-in_default-phase g c =
    let fits = c.requires.fits in
    let same : fits.saved ≡ c.in-Some.saved = one_reduction c.args.from.now fits.saved c.in-Some.saved fits.holds
    c.in-Some.ensures.found in
    c.in_default-phase.not-Some fits.phase
    (c.phase.ensures ∙ ap (λ (y : Saved). phase_of y.phase) (sym same) ∙ fits.phase_is)

-- the file of the nodes is cut behind those that are kept, and arcs are read
pub returns-in_err-writer-clause-content : goal.returns-in_err-writer-clause-content
returns-in_err-writer-clause-content g c =
    let tells = g.S.Shelf.tells in
    let world = g.S.Shelf.world in
    let from = c.args.from.now in
    let x = c.in-Some.saved in
    let p = c.in-Some-phase.phase in
    let holds = c.in-Some.ensures.found in
    let phase_is : phase_of x.phase ≡ Some p = sym c.phase.ensures ∙ c.in-Some-phase.is in
    let rules : KeepsRules from x p = fits_at from x p c.requires.fits holds phase_is in
    cut_rests tells world from x p holds rules c.args.shelf.now c.writer.new.shelf c.writer.ensures.content

pub returns-in_err-inner-clause-content : goal.returns-in_err-inner-clause-content
returns-in_err-inner-clause-content g c =
    let tells = g.S.Shelf.tells in
    let world = g.S.Shelf.world in
    let from = c.args.from.now in
    let x = c.in-Some.saved in
    let p = c.in-Some-phase.phase in
    let holds = c.in-Some.ensures.found in
    let phase_is : phase_of x.phase ≡ Some p = sym c.phase.ensures ∙ c.in-Some-phase.is in
    let rules : KeepsRules from x p = fits_at from x p c.requires.fits holds phase_is in
    let to = x.kept * node_size in
    cut_rests tells world from x p holds rules c.args.shelf.now c.next_inner.new.shelf
    (then_looked tells world x.out to c.args.shelf.now c.writer.new.shelf c.next_inner.new.shelf
    c.writer.ensures.content c.next_inner.ensures.content)

pub returns-in_err-end-clause-content : goal.returns-in_err-end-clause-content
returns-in_err-end-clause-content g c =
    let tells = g.S.Shelf.tells in
    let world = g.S.Shelf.world in
    let from = c.args.from.now in
    let x = c.in-Some.saved in
    let p = c.in-Some-phase.phase in
    let holds = c.in-Some.ensures.found in
    let phase_is : phase_of x.phase ≡ Some p = sym c.phase.ensures ∙ c.in-Some-phase.is in
    let rules : KeepsRules from x p = fits_at from x p c.requires.fits holds phase_is in
    let to = x.kept * node_size in
    cut_rests tells world from x p holds rules c.args.shelf.now c.next_end.new.shelf
    (then_looked tells world x.out to c.args.shelf.now c.next_inner.new.shelf c.next_end.new.shelf
    (then_looked tells world x.out to c.args.shelf.now c.writer.new.shelf c.next_inner.new.shelf
    c.writer.ensures.content c.next_inner.ensures.content) c.next_end.ensures.content)

pub returns-clause-content : goal.returns-clause-content
returns-clause-content g c =
    let tells = g.S.Shelf.tells in
    let world = g.S.Shelf.world in
    let from = c.args.from.now in
    let x = c.in-Some.saved in
    let p = c.in-Some-phase.phase in
    let holds = c.in-Some.ensures.found in
    let phase_is : phase_of x.phase ≡ Some p = sym c.phase.ensures ∙ c.in-Some-phase.is in
    let rules : KeepsRules from x p = fits_at from x p c.requires.fits holds phase_is in
    let to = x.kept * node_size in
    cut_rests tells world from x p holds rules c.args.shelf.now c.next_end.new.shelf
    (then_looked tells world x.out to c.args.shelf.now c.next_inner.new.shelf c.next_end.new.shelf
    (then_looked tells world x.out to c.args.shelf.now c.writer.new.shelf c.next_inner.new.shelf
    c.writer.ensures.content c.next_inner.ensures.content) c.next_end.ensures.content)

-- a file that is too short is to blame, or the last arc of a file
pub returns-in_err-writer-clause-undamaged : goal.returns-in_err-writer-clause-undamaged
returns-in_err-writer-clause-undamaged g c =
    let world = g.S.Shelf.world in
    let from = c.args.from.now in
    let x = c.in-Some.saved in
    let p = c.in-Some-phase.phase in
    let holds = c.in-Some.ensures.found in
    let phase_is : phase_of x.phase ≡ Some p = sym c.phase.ensures ∙ c.in-Some-phase.is in
    let rules : KeepsRules from x p = fits_at from x p c.requires.fits holds phase_is in
    if_err_weaker c.from_residual.result (λ e short told d turns stands.
    blamed_undamaged from x p (world c.args.shelf.now) e holds phase_is rules
    (record { saved = x; holds = holds; cause = inl (short told) }) d turns stands)
    (handed _ c.from_residual.result c.writer.result c.in_err-writer.field-0.0 c.from_residual.ensures.1
    c.in_err-writer.was c.writer.ensures.damage)

pub returns-in_err-inner-clause-damage : goal.returns-in_err-inner-clause-damage
returns-in_err-inner-clause-damage g c =
    let world = g.S.Shelf.world in
    let from = c.args.from.now in
    let x = c.in-Some.saved in
    let p = c.in-Some-phase.phase in
    let holds = c.in-Some.ensures.found in
    let phase_is : phase_of x.phase ≡ Some p = sym c.phase.ensures ∙ c.in-Some-phase.is in
    let rules : KeepsRules from x p = fits_at from x p c.requires.fits holds phase_is in
    let to = x.kept * node_size in
    let left : left_over_of c.start-reader.result ≡ x.arcs = c.start-reader.ensures.left_over in
    let out = err_from_is_err_and c.from_residual-in_err-inner.result c.from_residual-in_err-inner.ensures.1 in
    if_err_weaker c.from_residual-in_err-inner.result
    (λ e start told. record { saved = x; holds = holds; cause = inr (start told) })
    (inner_damaged _ x.arcs (world c.args.shelf.now) (world c.writer.new.shelf) (inner_of c.start-reader.result)
    (inner_of c.next_inner.new.self) c.from_residual-in_err-inner.result c.in_err-inner.field-0.0 (out.1 ∙ ap Err out.2)
    (record {
      place = ap (λ (u : Unreduced). u.inner) left;
      reads = c.start-reader.ensures.reads_inner;
      arcs = c.start-reader.ensures.inner_arcs;
    })
    (ap (λ (u : Unreduced). u.inner_count) left) c.start-reader.ensures.given.0
    (λ told. emptied x.out x.arcs.inner to (world c.args.shelf.now) (world c.writer.new.shelf) rules.inner_apart
    (c.writer.ensures.content.did (c.next_inner.ensures.content.before told)))
    c.in_err-inner.ensures.place (λ told. c.in_err-inner.ensures.value told (c.start-reader.ensures.reads_inner _)))

pub returns-in_err-end-clause-damage : goal.returns-in_err-end-clause-damage
returns-in_err-end-clause-damage g c =
    let world = g.S.Shelf.world in
    let from = c.args.from.now in
    let x = c.in-Some.saved in
    let p = c.in-Some-phase.phase in
    let holds = c.in-Some.ensures.found in
    let phase_is : phase_of x.phase ≡ Some p = sym c.phase.ensures ∙ c.in-Some-phase.is in
    let rules : KeepsRules from x p = fits_at from x p c.requires.fits holds phase_is in
    let to = x.kept * node_size in
    let left : left_over_of c.start-reader.result ≡ x.arcs = c.start-reader.ensures.left_over in
    let out = err_from_is_err_and c.from_residual-in_err-end.result c.from_residual-in_err-end.ensures.1 in
    let kept : ends_of c.next_inner.new.self ≡ ends_of c.start-reader.result = c.in_ok-inner.ensures.ends in
    let nothing : ReadsNothing End (ends_of c.start-reader.result) x.arcs.ends x.arcs.ends_count = record {
      place = ap (λ (u : Unreduced). u.ends) left;
      reads = c.start-reader.ensures.reads_ends;
      arcs = c.start-reader.ensures.end_arcs;
    } in
    let reads = subst (λ r. ReadsNothing End r x.arcs.ends x.arcs.ends_count) (sym kept) nothing in
    if_err_weaker c.from_residual-in_err-end.result
    (λ e start told. record { saved = x; holds = holds; cause = inr (start told) })
    (ends_damaged _ x.arcs (world c.args.shelf.now) (world c.next_inner.new.shelf) (ends_of c.next_inner.new.self)
    (ends_of c.next_end.new.self) c.from_residual-in_err-end.result c.in_err-end.field-0.0 (out.1 ∙ ap Err out.2)
    reads (ap left_of kept ∙ ap (λ (u : Unreduced). u.ends_count) left)
    (ap given_of kept ∙ c.start-reader.ensures.given.1)
    (λ told.
    let read_told = c.next_end.ensures.content.before told in
    let stays = as_before x.out x.arcs.ends to (world c.args.shelf.now) (world c.writer.new.shelf)
    (world c.next_inner.new.shelf) (world c.next_end.new.shelf) rules.ends_apart
    (c.writer.ensures.content.did (c.next_inner.ensures.content.before read_told))
    (c.next_inner.ensures.content.did read_told) (c.next_end.ensures.content.did told) in
    stays.1.0 ∙ stays.0)
    c.in_err-end.ensures.place (λ told. c.in_err-end.ensures.value told (reads.reads _)))

-- which isn't so where the checkpoint stands for something
pub returns-in_err-inner-clause-undamaged : goal.returns-in_err-inner-clause-undamaged
returns-in_err-inner-clause-undamaged g c =
    let world = g.S.Shelf.world in
    let from = c.args.from.now in
    let x = c.in-Some.saved in
    let p = c.in-Some-phase.phase in
    let holds = c.in-Some.ensures.found in
    let phase_is : phase_of x.phase ≡ Some p = sym c.phase.ensures ∙ c.in-Some-phase.is in
    let rules : KeepsRules from x p = fits_at from x p c.requires.fits holds phase_is in
    if_err_weaker c.from_residual-in_err-inner.result (λ e blames told d turns stands.
    blamed_undamaged from x p (world c.args.shelf.now) e holds phase_is rules (blames told) d turns stands)
    (returns-in_err-inner-clause-damage g c)

pub returns-in_err-end-clause-undamaged : goal.returns-in_err-end-clause-undamaged
returns-in_err-end-clause-undamaged g c =
    let world = g.S.Shelf.world in
    let from = c.args.from.now in
    let x = c.in-Some.saved in
    let p = c.in-Some-phase.phase in
    let holds = c.in-Some.ensures.found in
    let phase_is : phase_of x.phase ≡ Some p = sym c.phase.ensures ∙ c.in-Some-phase.is in
    let rules : KeepsRules from x p = fits_at from x p c.requires.fits holds phase_is in
    if_err_weaker c.from_residual-in_err-end.result (λ e blames told d turns stands.
    blamed_undamaged from x p (world c.args.shelf.now) e holds phase_is rules (blames told) d turns stands)
    (returns-in_err-end-clause-damage g c)

-- its tables can be read
pub thaw-requires-clause-tables : goal.thaw-requires-clause-tables
thaw-requires-clause-tables g c =
    let from = c.args.from.now in
    let x = c.in-Some.saved in
    let p = c.in-Some-phase.phase in
    let holds = c.in-Some.ensures.found in
    let phase_is : phase_of x.phase ≡ Some p = sym c.phase.ensures ∙ c.in-Some-phase.is in
    let rules : KeepsRules from x p = fits_at from x p c.requires.fits holds phase_is in
    let picked0 : IsPicked from 0 c.table_of.result = c.table_of.ensures in
    let picked1 : IsPicked from 1 c.table_of-2.result = c.table_of-2.ensures in
    let picked2 : IsPicked from 2 c.table_of-3.result = c.table_of-3.ensures in
    record {
      first = (picked_saved p from x 0 c.table_of.result (omega arith) rules picked0).read;
      second = picked_second p from x c.table_of-2.result rules picked1;
      third = picked_third p from x c.table_of-3.result rules picked2;
    }

pub thaw-requires-2-clause-table : goal.thaw-requires-2-clause-table
thaw-requires-2-clause-table g c =
    let from = c.args.from.now in
    let x = c.in-Some.saved in
    let p = c.in-Some-phase.phase in
    let holds = c.in-Some.ensures.found in
    let phase_is : phase_of x.phase ≡ Some p = sym c.phase.ensures ∙ c.in-Some-phase.is in
    let rules : KeepsRules from x p = fits_at from x p c.requires.fits holds phase_is in
    let picked3 : IsPicked from 3 c.table_of-4.result = c.table_of-4.ensures in
    (picked_saved p from x 3 c.table_of-4.result (omega arith) rules picked3).read

pub thaw-requires-3-clause-table : goal.thaw-requires-3-clause-table
thaw-requires-3-clause-table g c =
    let from = c.args.from.now in
    let x = c.in-Some.saved in
    let p = c.in-Some-phase.phase in
    let holds = c.in-Some.ensures.found in
    let phase_is : phase_of x.phase ≡ Some p = sym c.phase.ensures ∙ c.in-Some-phase.is in
    let rules : KeepsRules from x p = fits_at from x p c.requires.fits holds phase_is in
    let picked4 : IsPicked from 4 c.table_of-5.result = c.table_of-5.ensures in
    (picked_saved p from x 4 c.table_of-5.result (omega arith) rules picked4).read

-- its lists hold values, and no file is another's
pub returns-clause-ready : goal.returns-clause-ready
returns-clause-ready g c =
    let from = c.args.from.now in
    let x = c.in-Some.saved in
    let p = c.in-Some-phase.phase in
    let holds = c.in-Some.ensures.found in
    let phase_is : phase_of x.phase ≡ Some p = sym c.phase.ensures ∙ c.in-Some-phase.is in
    let rules : KeepsRules from x p = fits_at from x p c.requires.fits holds phase_is in
    let left : left_over_of c.start-reader.result ≡ x.arcs = c.start-reader.ensures.left_over in
    let picked0 : IsPicked from 0 c.table_of.result = c.table_of.ensures in
    let picked3 : IsPicked from 3 c.table_of-4.result = c.table_of-4.ensures in
    let picked4 : IsPicked from 4 c.table_of-5.result = c.table_of-5.ensures in
    let a : Ahead = record {
      reader = c.next_end.new.self;
      inner = c.in_ok-inner.inner;
      end = c.in_ok-end.end;
      queue = c.thaw.result;
    } in
    let l : Lists = record { rows = c.thaw-2.result; names = c.thaw-3.result } in
    let w = c.in_ok-writer.writer in
    let place_is : c.place-place.result ≡ place_of x p = c.place-place.ensures in
    let saved0 = picked_saved p from x 0 c.table_of.result (omega arith) rules picked0 in
    let saved3 = picked_saved p from x 3 c.table_of-4.result (omega arith) rules picked3 in
    let saved4 = picked_saved p from x 4 c.table_of-5.result (omega arith) rules picked4 in
    let out = c.in_ok-writer.ensures.file in
    let inner = ap file_of c.in_ok-end.ensures.inner ∙ c.in_ok-inner.ensures.file
    ∙ ap (λ (u : Unreduced). u.inner) left in
    let ends = c.in_ok-end.ensures.file ∙ ap file_of c.in_ok-inner.ensures.ends ∙ ap (λ (u : Unreduced). u.ends) left in
    let sound : IsSound (record { place = place_of x p; ahead = a; lists = l; writer = w; parts = parts_left from }) =
    record {
      served = record {
        queue_values = c.thaw.ensures.values;
        row_values = c.thaw-2.ensures.values;
        name_values = c.thaw-3.ensures.values;
        queue_served = c.thaw.ensures.serves (parts_left from) refl saved0.served;
        rows_served = c.thaw-2.ensures.serves (parts_left from) refl saved3.served;
        names_served = c.thaw-3.ensures.serves (parts_left from) refl saved4.served;
        out_made = subst (λ f. ¬ CanBeTaken from.step from.next_part f) (sym out)
            (made_not_taken from.step from.next_part x.out rules.parts rules.made);
        inner_made = subst (λ f. ¬ CanBeTaken from.step from.next_part f) (sym inner) rules.inner.made;
        ends_made = subst (λ f. ¬ CanBeTaken from.step from.next_part f) (sym ends) rules.ends.made;
        out_inner = λ e. rules.inner_apart (sym inner ∙ e ∙ out);
        out_ends = λ e. rules.ends_apart (sym ends ∙ e ∙ out);
        no_run = λ run. elim run [
          | inl q ↦ not_named from.step c.table_of.result x.out saved0.apart
              (subst (Names from.step c.table_of.result) out (c.thaw.ensures.runs _ q))
          | inr other ↦ elim other [
            | inl q ↦ not_named from.step c.table_of-4.result x.out saved3.apart
                (subst (Names from.step c.table_of-4.result) out (c.thaw-2.ensures.runs _ q))
            | inr q ↦ not_named from.step c.table_of-5.result x.out saved4.apart
                (subst (Names from.step c.table_of-5.result) out (c.thaw-3.ensures.runs _ q))
          ]
        ];
      };
      within = within_read_end x.arcs c.next_inner.new.self c.next_end.new.self _ c.in_ok-end.ensures.inner
          c.in_ok-end.ensures.file c.in_ok-end.ensures.place
          (within_read_inner x.arcs c.start-reader.result c.next_inner.new.self _ c.in_ok-inner.ensures.ends
          c.in_ok-inner.ensures.file c.in_ok-inner.ensures.place
          (within_at_first x.arcs c.start-reader.result left c.start-reader.ensures.given.0
          c.start-reader.ensures.given.1));
      few = few_read_end x.arcs c.next_inner.new.self c.next_end.new.self _ _ _ c.in_ok-end.ensures.inner
          c.in_ok-end.ensures.place
          (few_read_inner x.arcs c.start-reader.result c.next_inner.new.self _ _ _ c.in_ok-inner.ensures.ends
          c.in_ok-inner.ensures.place
          (few_at_first x.arcs c.start-reader.result left rules.inner.few rules.ends.few));
      variables = c.in_ok-writer.ensures.variables;
      phase = subst (λ n. IsPhaseAt x.level n p) (sym c.in_ok-writer.ensures.count) rules.phase_at;
    } in
    subst (λ (pl : Place). IsSound (record { place = pl; ahead = a; lists = l; writer = w; parts = parts_left from })) (sym place_is) sound

-- it is at work, or its file is firm
pub returns-clause-in_step : goal.returns-clause-in_step
returns-clause-in_step g c = λ told.
    let world = g.S.Shelf.world in
    let from = c.args.from.now in
    let x = c.in-Some.saved in
    let p = c.in-Some-phase.phase in
    let holds = c.in-Some.ensures.found in
    let phase_is : phase_of x.phase ≡ Some p = sym c.phase.ensures ∙ c.in-Some-phase.is in
    let rules : KeepsRules from x p = fits_at from x p c.requires.fits holds phase_is in
    let left : left_over_of c.start-reader.result ≡ x.arcs = c.start-reader.ensures.left_over in
    let picked0 : IsPicked from 0 c.table_of.result = c.table_of.ensures in
    let picked3 : IsPicked from 3 c.table_of-4.result = c.table_of-4.ensures in
    let picked4 : IsPicked from 4 c.table_of-5.result = c.table_of-5.ensures in
    let a : Ahead = record {
      reader = c.next_end.new.self;
      inner = c.in_ok-inner.inner;
      end = c.in_ok-end.end;
      queue = c.thaw.result;
    } in
    let l : Lists = record { rows = c.thaw-2.result; names = c.thaw-3.result } in
    let w = c.in_ok-writer.writer in
    let place_is : c.place-place.result ≡ place_of x p = c.place-place.ensures in
    let read_told = c.next_end.ensures.content.before told in
    let cut_told = c.next_inner.ensures.content.before read_told in
    let is : IsRebuilt from x p a l w c.start-reader.result c.next_inner.new.self (world c.args.shelf.now)
    (world c.writer.new.shelf) (world c.next_inner.new.shelf) (world c.next_end.new.shelf) = record {
      begun = record {
        apart_inner = λ e. rules.inner_apart (sym e);
        apart_ends = λ e. rules.ends_apart (sym e);
        cut = c.writer.ensures.content.did cut_told;
        looked = c.next_inner.ensures.content.did read_told;
        again = c.next_end.ensures.content.did told;
        no_inner = record {
          place = ap (λ (u : Unreduced). u.inner) left;
          reads = c.start-reader.ensures.reads_inner;
          arcs = c.start-reader.ensures.inner_arcs;
        };
        no_end = record {
          place = ap (λ (u : Unreduced). u.ends) left;
          reads = c.start-reader.ensures.reads_ends;
          arcs = c.start-reader.ensures.end_arcs;
        };
        ends_kept = c.in_ok-inner.ensures.ends;
        inner_kept = c.in_ok-end.ensures.inner;
        one_inner = record {
          place = c.in_ok-inner.ensures.file;
          up = c.in_ok-inner.ensures.place;
          reads = c.in_ok-inner.ensures.reads read_told;
          arcs = c.in_ok-inner.ensures.arcs read_told;
        };
        one_end = record {
          place = c.in_ok-end.ensures.file;
          up = c.in_ok-end.ensures.place;
          reads = c.in_ok-end.ensures.reads told;
          arcs = c.in_ok-end.ensures.arcs told;
        };
        written = c.in_ok-writer.ensures.holds cut_told;
      };
      opened_is = left;
      file_is = c.in_ok-writer.ensures.file;
      count_is = c.in_ok-writer.ensures.count;
      rest = ran_end (world c.args.shelf.now) (world c.next_end.new.shelf)
          (OnlyCutBehind from (RestsOn from) (now (world c.args.shelf.now))) ((returns-clause-content g c).did told);
      thawed = record {
        queue_list = thawed_queue from x (c.table_of.result ∷ c.table_of-2.result ∷ c.table_of-3.result ∷ [])
            c.last_arc.result c.thaw.result picked0 c.last_arc.ensures c.thaw.ensures.list;
        rows_list = λ count at xs lists. c.thaw-2.ensures.list at xs
            (subst (λ (t : RunTable). TableLists IsSourceRow source_row_words source_row_cmp from.step t at xs)
            (sym (picked3.used (omega (arith, count)))) lists);
        names_list = λ count at xs lists. c.thaw-3.ensures.list at xs
            (subst (λ (t : RunTable). TableLists IsName name_words name_cmp from.step t at xs)
            (sym (picked4.used (omega (arith, count)))) lists);
        last_is = c.thaw.ensures.last ∙ c.last_arc.ensures;
        queue_held = c.thaw.ensures.count ∙ picked_left from 0 c.table_of.result picked0;
        rows_held = c.thaw-2.ensures.count ∙ picked_left from 3 c.table_of-4.result picked3;
        names_held = c.thaw-3.ensures.count ∙ picked_left from 4 c.table_of-5.result picked4;
      };
      firm = c.in_ok-writer.ensures.firm cut_told;
    } in
    subst (λ (pl : Place). IsInStep (record { place = pl; ahead = a; lists = l; writer = w; parts = parts_left from })
    (world c.next_end.new.shelf)) (sym place_is)
    (step_rebuilt from x p a l w c.start-reader.result c.next_inner.new.self (world c.args.shelf.now)
    (world c.writer.new.shelf) (world c.next_inner.new.shelf) (world c.next_end.new.shelf) is (record {
      queue_in_step = c.thaw.ensures.in_step _;
      rows_in_step = c.thaw-2.ensures.in_step _;
      names_in_step = c.thaw-3.ensures.in_step _;
    }))

-- it makes the file of the nodes, and reads those of arcs
pub returns-clause-files : goal.returns-clause-files
returns-clause-files g c =
    let from = c.args.from.now in
    let x = c.in-Some.saved in
    let p = c.in-Some-phase.phase in
    let holds = c.in-Some.ensures.found in
    let phase_is : phase_of x.phase ≡ Some p = sym c.phase.ensures ∙ c.in-Some-phase.is in
    let rules : KeepsRules from x p = fits_at from x p c.requires.fits holds phase_is in
    let a : Ahead = record {
      reader = c.next_end.new.self;
      inner = c.in_ok-inner.inner;
      end = c.in_ok-end.end;
      queue = c.thaw.result;
    } in
    let l : Lists = record { rows = c.thaw-2.result; names = c.thaw-3.result } in
    let w = c.in_ok-writer.writer in
    let place_is : c.place-place.result ≡ place_of x p = c.place-place.ensures in
    let out = c.in_ok-writer.ensures.file in
    subst (λ (pl : Place). let r : ReduceSweep = record { place = pl; ahead = a; lists = l; writer = w; parts = parts_left from } in
    IsOfStep (accounts.makes r) (IsOperand (task_of r)) from.step from.next_part) (sym place_is) (record {
      parts = rules.parts;
      made = λ f is. subst (IsMadePart from.step from.next_part) (sym (is ∙ out)) rules.made;
      others = λ f operand. elim operand [
        | inl read ↦ subst (IsReadPart from.step from.next_part) (sym read.0) (rules.inner.read read.1)
        | inr read ↦ subst (IsReadPart from.step from.next_part) (sym read.0) (rules.ends.read read.1)
      ];
      apart = λ f operand is. elim operand [
        | inl read ↦ rules.inner_apart (sym read.0 ∙ is ∙ out)
        | inr read ↦ rules.ends_apart (sym read.0 ∙ is ∙ out)
      ];
    })

pub returns-clause-operands : goal.returns-clause-operands
returns-clause-operands g c =
    let from = c.args.from.now in
    let x = c.in-Some.saved in
    let p = c.in-Some-phase.phase in
    let holds = c.in-Some.ensures.found in
    let a : Ahead = record {
      reader = c.next_end.new.self;
      inner = c.in_ok-inner.inner;
      end = c.in_ok-end.end;
      queue = c.thaw.result;
    } in
    let l : Lists = record { rows = c.thaw-2.result; names = c.thaw-3.result } in
    let w = c.in_ok-writer.writer in
    let place_is : c.place-place.result ≡ place_of x p = c.place-place.ensures in
    subst (λ (pl : Place). let r : ReduceSweep = record { place = pl; ahead = a; lists = l; writer = w; parts = parts_left from } in
    (f : FileNo) → IsOperand (task_of r) f → (n : ℕ) → RestsOn from f n) (sym place_is)
    (λ f operand n. record { saved = x; holds = holds; rests = inl operand })

-- and what the checkpoint stands for remains
pub returns-clause-remains : goal.returns-clause-remains
returns-clause-remains g c = λ told d turns stands.
    let world = g.S.Shelf.world in
    let from = c.args.from.now in
    let x = c.in-Some.saved in
    let p = c.in-Some-phase.phase in
    let holds = c.in-Some.ensures.found in
    let phase_is : phase_of x.phase ≡ Some p = sym c.phase.ensures ∙ c.in-Some-phase.is in
    let rules : KeepsRules from x p = fits_at from x p c.requires.fits holds phase_is in
    let left : left_over_of c.start-reader.result ≡ x.arcs = c.start-reader.ensures.left_over in
    let picked0 : IsPicked from 0 c.table_of.result = c.table_of.ensures in
    let picked3 : IsPicked from 3 c.table_of-4.result = c.table_of-4.ensures in
    let picked4 : IsPicked from 4 c.table_of-5.result = c.table_of-5.ensures in
    let a : Ahead = record {
      reader = c.next_end.new.self;
      inner = c.in_ok-inner.inner;
      end = c.in_ok-end.end;
      queue = c.thaw.result;
    } in
    let l : Lists = record { rows = c.thaw-2.result; names = c.thaw-3.result } in
    let w = c.in_ok-writer.writer in
    let place_is : c.place-place.result ≡ place_of x p = c.place-place.ensures in
    let read_told = c.next_end.ensures.content.before told in
    let cut_told = c.next_inner.ensures.content.before read_told in
    let is : IsRebuilt from x p a l w c.start-reader.result c.next_inner.new.self (world c.args.shelf.now)
    (world c.writer.new.shelf) (world c.next_inner.new.shelf) (world c.next_end.new.shelf) = record {
      begun = record {
        apart_inner = λ e. rules.inner_apart (sym e);
        apart_ends = λ e. rules.ends_apart (sym e);
        cut = c.writer.ensures.content.did cut_told;
        looked = c.next_inner.ensures.content.did read_told;
        again = c.next_end.ensures.content.did told;
        no_inner = record {
          place = ap (λ (u : Unreduced). u.inner) left;
          reads = c.start-reader.ensures.reads_inner;
          arcs = c.start-reader.ensures.inner_arcs;
        };
        no_end = record {
          place = ap (λ (u : Unreduced). u.ends) left;
          reads = c.start-reader.ensures.reads_ends;
          arcs = c.start-reader.ensures.end_arcs;
        };
        ends_kept = c.in_ok-inner.ensures.ends;
        inner_kept = c.in_ok-end.ensures.inner;
        one_inner = record {
          place = c.in_ok-inner.ensures.file;
          up = c.in_ok-inner.ensures.place;
          reads = c.in_ok-inner.ensures.reads read_told;
          arcs = c.in_ok-inner.ensures.arcs read_told;
        };
        one_end = record {
          place = c.in_ok-end.ensures.file;
          up = c.in_ok-end.ensures.place;
          reads = c.in_ok-end.ensures.reads told;
          arcs = c.in_ok-end.ensures.arcs told;
        };
        written = c.in_ok-writer.ensures.holds cut_told;
      };
      opened_is = left;
      file_is = c.in_ok-writer.ensures.file;
      count_is = c.in_ok-writer.ensures.count;
      rest = ran_end (world c.args.shelf.now) (world c.next_end.new.shelf)
          (OnlyCutBehind from (RestsOn from) (now (world c.args.shelf.now))) ((returns-clause-content g c).did told);
      thawed = record {
        queue_list = thawed_queue from x (c.table_of.result ∷ c.table_of-2.result ∷ c.table_of-3.result ∷ [])
            c.last_arc.result c.thaw.result picked0 c.last_arc.ensures c.thaw.ensures.list;
        rows_list = λ count at xs lists. c.thaw-2.ensures.list at xs
            (subst (λ (t : RunTable). TableLists IsSourceRow source_row_words source_row_cmp from.step t at xs)
            (sym (picked3.used (omega (arith, count)))) lists);
        names_list = λ count at xs lists. c.thaw-3.ensures.list at xs
            (subst (λ (t : RunTable). TableLists IsName name_words name_cmp from.step t at xs)
            (sym (picked4.used (omega (arith, count)))) lists);
        last_is = c.thaw.ensures.last ∙ c.last_arc.ensures;
        queue_held = c.thaw.ensures.count ∙ picked_left from 0 c.table_of.result picked0;
        rows_held = c.thaw-2.ensures.count ∙ picked_left from 3 c.table_of-4.result picked3;
        names_held = c.thaw-3.ensures.count ∙ picked_left from 4 c.table_of-5.result picked4;
      };
      firm = c.in_ok-writer.ensures.firm cut_told;
    } in
    subst (λ (pl : Place). let r : ReduceSweep = record { place = pl; ahead = a; lists = l; writer = w; parts = parts_left from } in
    RemainsOf r (world c.next_end.new.shelf) d × (turns_left r ≤ turns)) (sym place_is)
    (stands_remain from x a l w c.start-reader.result c.next_inner.new.self (world c.args.shelf.now)
    (world c.writer.new.shelf) (world c.next_inner.new.shelf) (world c.next_end.new.shelf) holds d turns p rules is
    (stands_for from x p (reads_of (world c.args.shelf.now)) d turns holds phase_is stands))

-- the calls that its runs cost are paid for
pub returns-clause-credit : goal.returns-clause-credit
returns-clause-credit g c =
    let from = c.args.from.now in
    let picked0 : IsPicked from 0 c.table_of.result = c.table_of.ensures in
    let picked3 : IsPicked from 3 c.table_of-4.result = c.table_of-4.ensures in
    let picked4 : IsPicked from 4 c.table_of-5.result = c.table_of-5.ensures in
    let queue = c.thaw.ensures.credit in
    let rows = c.thaw-2.ensures.credit in
    let names = c.thaw-3.ensures.credit in
    let queue_held = c.thaw.ensures.count ∙ picked_left from 0 c.table_of.result picked0 in
    let rows_held = c.thaw-2.ensures.count ∙ picked_left from 3 c.table_of-4.result picked3 in
    let names_held = c.thaw-3.ensures.count ∙ picked_left from 4 c.table_of-5.result picked4 in
    let all = left_named from in
    omega (arith, queue, rows, names, queue_held, rows_held, names_held, all)

pub returns-clause-faults : goal.returns-clause-faults
returns-clause-faults g c =
    let first = c.writer.ensures.faults in
    let second = c.next_inner.ensures.faults in
    let third = c.next_end.ensures.faults in
    record {
      later = (let i = first.later in let j = second.later in let k = third.later in omega (arith, i, j, k));
      cause = λ is. cc;
      say_is = third.say_is ∙ second.say_is ∙ first.say_is;
      text_is = λ path. third.text_is path ∙ second.text_is path ∙ first.text_is path;
    }
