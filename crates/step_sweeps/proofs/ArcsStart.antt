-- The sweep that makes a step's arcs, from its beginning on.
use Rattle.std.proofs.Common.{◌≡◌, ◌≢◌, ◌∙◌, ℕ, ◌+◌, ◌*◌, ◌<◌, ◌≤◌, Bool, length, ap, sym, subst, refl, inl, inr, arith}
use Rattle.std.specs.Prelude.{IsTrue, None, Ok, Err}
use Rattle.shelf_model.specs.declared.file_no.FileNo.{FileNo}
use Rattle.shelf_model.specs.declared.sort_fault.SortFault.{SortFault}
use Rattle.shelf_model.specs.Calls.{Told}
use Rattle.shelf_model.specs.Faults.{Faults}
use Rattle.shelf_model.specs.File.{File}
use Rattle.shelf_model.specs.Moments.{Ran, Throughout, OnlyChanged}
use Rattle.shelf_model.specs.World.{Moment, World, now, file}
use Rattle.shelf_model.proofs.Changing.{told_changed_more}
use Rattle.file_numbers.specs.Files.{checkpoint_file, checkpoint_gate}
use Rattle.run_tiers.specs.declared.parts.Parts.{Parts}
use Rattle.run_tiers.specs.Parts.{IsTaken}
use Rattle.run_tiers.specs.Syncs.{IsFirm}
use Rattle.run_tiers.proofs.FaultLaws.{sort_shelf_on}
use Rattle.step_going.specs.Standing.{HasNone}
use Rattle.step_going.proofs.Kept.{safe_along, standing_along}
use Rattle.step_going.proofs.Shown.{quiet_stops}
use Rattle.sweep_checkpoint.specs.declared.going.Going.{Going}
use Rattle.sweep_checkpoint.specs.Stops.{SamePoints}
use Rattle.sweep_core.specs.Saving.{IsOfStep, IsMadePart}
use Rattle.sweep_core.proofs.Untaken.{none_changed}
use Rattle.top_down_sweep.specs.declared.beginning.OperandFiles.{OperandFiles}
use Rattle.tuple_asks.specs.declared.files.Files.{Files}
use Rattle.sweep_operations.specs.declared.steps.StepOperation.{StepOperation}
use Rattle.top_down_sweep.specs.Beginning.{files_from, after_two}
use Rattle.sweep_operations.specs.Operations.{rule_of, begins_of}
use Rattle.top_down_sweep.specs.Sweeps.{IsMade, files_of}
use Rattle.tuple_asks.specs.Operands.{IsRead}
use Rattle.table_work.specs.declared.sweep.TableSweep.{TableSweep}
use Rattle.table_work.specs.Tables.{sweep_of, work_of, StartsTable, AreGivenTo}
use Rattle.resumable.specs.Diagrams.{arcs_of, diagram_rests}
use Rattle.resumable.proofs.DiagramPoints.{diagram_local}
use Rattle.step_sweeps.specs.declared.task.Making.{Making}
use Rattle.step_sweeps.specs.Damage.{MissesAsked, AsksOwn}
use Rattle.step_sweeps.specs.Given.{Tables, AreEarlier, tuples_by, nodes_by}
use Rattle.step_sweeps.specs.Kinds.{arcs_kind}
use Rattle.step_sweeps.specs.Made.{OnlyStep}
use Rattle.step_sweeps.specs.Makes.{IsGivenFor, AreFirm, HasNoGate, goes_on_by}
use Rattle.step_sweeps.specs.Parts.{parts_of}
use Rattle.step_sweeps.specs.Started.{Starts}
use Rattle.step_sweeps.specs.Sweeping.{MaySweep, IsEarly, SweepsArcs, IsCovered, arcs_most}
use Rattle.step_sweeps.proofs.Faults.{start_fault}
use Rattle.step_sweeps.proofs.Running.{not_of_step, file_stays, earlier_stays, the_fault}
use Rattle.step_sweeps.proofs.Stops.{given_shows}
use Rattle.step_sweeps.proofs.StopsAnew.{held_points}
use Rattle.step_sweeps.proofs.UnderWay.{IsSafeAt}

-- the files of a step's arcs are of that step, and its operands are of others
pub arcs_of_step : (n : ℕ) (operands : OperandFiles) (number next : ℕ) (files : Files)
    → files ≡ (arcs_of n operands number).files → AreEarlier number operands → 5 ≤ next
    → IsOfStep (IsMade files) (IsRead files) number next
arcs_of_step n operands number next files are earlier from = record {
  parts = omega (arith, from);
  made = λ f is. elim is [
    | inl inner ↦ made f 3 (inner ∙ ap (λ (x : Files). x.inner) are) (omega arith) (omega arith)
    | inr ends ↦ made f 4 (ends ∙ ap (λ (x : Files). x.ends) are) (omega arith) (omega arith)
  ];
  others = λ f read. inl (other f read);
  apart = λ f read mine. other f read (elim mine [
    | inl inner ↦ ap (λ (h : FileNo). h.step) (inner ∙ ap (λ (x : Files). x.inner) are)
    | inr ends ↦ ap (λ (h : FileNo). h.step) (ends ∙ ap (λ (x : Files). x.ends) are)
  ]);
}
  where
    made : (f : FileNo) (part : ℕ) → f ≡ record { step = number; part = part } → 3 ≤ part → part ≤ 4
        → IsMadePart number next f
    made f part is low high =
        let same : f.part ≡ part = ap (λ (h : FileNo). h.part) is in
        record {
          step_is = ap (λ (h : FileNo). h.step) is;
          part = inr (omega (arith, same, low), omega (arith, same, high), omega (arith, same, high, from));
        }

    before : (f g : FileNo) → f ≡ g → g.step < number → f.step ≢ number
    before f g is earlier same =
        let step : f.step ≡ g.step = ap (λ (h : FileNo). h.step) is in
        absurd (omega (arith, step, earlier, same))

    other : (f : FileNo) → IsRead files f → f.step ≢ number
    other f (inl first) = before f operands.first (first ∙ ap (λ (x : Files). x.first) are) earlier.first
    other f (inr (inl second)) = before f operands.second (second ∙ ap (λ (x : Files). x.second) are) earlier.second
    other f (inr (inr third)) = before f operands.third (third ∙ ap (λ (x : Files). x.third) are) earlier.third

-- the operands' files, of earlier steps, are sure still where only files of the step were changed
pub read_firm : (making : Making) (files : Files) (old new : World) (f : FileNo) → AreEarlier making.number making.operands
    → files ≡ (arcs_of making.n making.operands making.number).files → AreFirm making old
    → ((g : FileNo) → g.step < making.number → file new g ≡ file old g) → IsRead files f → IsFirm (file new f)
read_firm making files old new f earlier are firm same read = elim read [
  | inl first ↦ one f making.operands.first (first ∙ ap (λ (x : Files). x.first) are) earlier.first firm.first
  | inr (inl second) ↦ one f making.operands.second (second ∙ ap (λ (x : Files). x.second) are) earlier.second firm.second
  | inr (inr third) ↦ one f making.operands.third (third ∙ ap (λ (x : Files). x.third) are) earlier.third firm.third
]
  where
    one : (f g : FileNo) → f ≡ g → g.step < making.number → IsFirm (file old g) → IsFirm (file new f)
    one f g is before firm = subst (λ h. IsFirm (file new h)) (sym is) (subst IsFirm (sym (same g before)) firm)

module _ {S : Type 0} (tells : S → Bool) (world : S → World) (counts : S → Faults) (making : Making) (base : Going)
    (before mid : S) where
  -- what the sweep is given
  given_to : (g : Tables) (w : World) → AreEarlier making.number making.operands → IsGivenFor making (record base { last = None }) w g
      → AreGivenTo making.number making.operation making.n making.operands w g
  given_to g w earlier given = record {
    files = given.given;
    first_stays = not_of_step making.number 3 making.operands.first earlier.first;
    second_stays = not_of_step making.number 3 making.operands.second earlier.second;
    third_stays = not_of_step making.number 3 making.operands.third earlier.third;
  }

  -- nothing was done of it but turns that were made before
  abbrev pub anew : Going
  anew = record base { last = None }

  abbrev taken : FileNo → Type 0
  taken f = IsTaken (parts_of making.number) (after_two (parts_of making.number)) f

  module _ (content : Told tells before mid
      (Ran (OnlyChanged taken (now (world before))) (world before) (world mid))) where
    pub start_content : Told tells before mid
        (Ran (OnlyStep making.number (now (world before))) (world before) (world mid))
    start_content = told_changed_more tells world taken (λ q. q.step ≡ making.number) before mid (λ f is. is.step_is) content

    no_gate : ¬ (taken (checkpoint_gate making.number))
    no_gate is = let from = is.from in absurd (omega (arith, from))

    no_points : ¬ (taken (checkpoint_file making.number))
    no_points is = let from = is.from in absurd (omega (arith, from))

    -- the checkpoints and their gate stay
    pub start_points : IsTrue (tells mid) → Throughout (world before) (world mid)
        (λ (m : Moment). SamePoints making.number (now (world before)).folder m.folder)
    start_points told = held_points taken making.number (world before) (world mid) no_points no_gate (content.did told)

    -- where no checkpoint is gated all that are are there
    pub start_covered : IsTrue (tells mid) → HasNoGate making.number (world before) → IsCovered making.number (world mid)
    start_covered told gate =
        let same : file (world mid) (checkpoint_gate making.number) ≡ file (world before) (checkpoint_gate making.number) =
        file_stays taken (world before) (world mid) (checkpoint_gate making.number) no_gate (content.did told) in
        let empty : length (file (world mid) (checkpoint_gate making.number)).bytes ≡ 0 =
        ap (λ (x : File). length x.bytes) same ∙ ap length gate in
        omega (arith, empty)

    -- none of the step's checkpoints is gated still, and meanwhile
    pub start_safe : IsTrue (tells mid) → (g : Tables) → IsGivenFor making anew (world before) g
        → Throughout (world before) (world mid) (IsSafeAt making g)
    start_safe told g given = safe_along (goes_on_by making g) diagram_rests making.number
        (diagram_local making.operation making.n making.operands making.number g) taken 3 None no_gate tt
        tells world before mid content (λ _. given.standing) told

    start_none : IsTrue (tells mid) → (g : Tables) → IsGivenFor making anew (world before) g
        → HasNone making.number (now (world mid)).folder
    start_none told g given = standing_along (goes_on_by making g) diagram_rests making.number
        (diagram_local making.operation making.n making.operands making.number g) taken 3 None no_gate tt
        tells world before mid content (λ _. given.standing) told

  pub starts_arcs : MaySweep making.number anew → AreEarlier making.number making.operands
      → IsEarly tells world making anew before → (s : TableSweep StepOperation)
      → StartsTable rule_of begins_of tells world counts making.operation making.n making.operands
      (parts_of making.number) before mid (Ok s)
      → Starts tells world counts arcs_kind (λ g job s. job ≡ work_of making.operation making.n g) (arcs_most making anew)
      8 making anew before mid s
  starts_arcs may earlier early s started =
      let begun = started.begun in
      let next : (sweep_of s).machine.parts.next ≡ 5 = ap (λ (p : Parts). p.next) begun.parts_are in
      let stock = begun.stock_is in
      let shown : base.shown ≡ base.turns = may.shown_is in
      let budget = may.budget in
      record {
        may = record {
          ready = begun.ready;
          works = inr (omega (arith, shown, budget));
          step_is = ap (λ (p : Parts). p.step) begun.parts_are;
          files = subst (λ k. IsOfStep (IsMade (files_of (sweep_of s))) (IsRead (files_of (sweep_of s))) making.number k)
              (sym next) (arcs_of_step making.n making.operands making.number 5 (files_of (sweep_of s)) begun.files_are
              earlier (omega arith));
          paid = record {
            interval = omega (arith, budget);
            shown = omega (arith, shown);
            paid = omega (arith, next, stock, shown);
          };
        };
        in_step = begun.in_step;
        under_way = λ told g given.
            let ran = started.leaves.content.did told in
            let before_told = started.leaves.content.before told in
            let turns = early before_told g given.given refl in
            let soon = started.remains told g (given_to g (world before) earlier given) in
            let few = soon.few in (
              work_of making.operation making.n g,
              refl,
              record {
                remains = soon.makes;
                operands = λ f read. read_firm making (files_of (sweep_of s)) (world before) (world mid) f earlier
                    begun.files_are given.firm
                    (earlier_stays making.number (world before) (world mid)
                    ((start_content started.leaves.content).did told)) read;
                standing = start_none started.leaves.content told g given;
                sure = λ c is. absurd (cc);
              },
              omega (arith, few),
            );
        images = start_safe started.leaves.content;
        content = start_content started.leaves.content;
        within = omega (arith, next);
        untaken = λ told. none_changed taken making.number (sweep_of s).machine.parts.next (world before) (world mid)
            (λ f is free. let below : f.part < 5 = is.below in
            let from : (sweep_of s).machine.parts.next ≤ f.part = free.from in absurd (omega (arith, below, from, next)))
            (started.leaves.content.did told);
        owed = omega (arith, next);
        stock = omega (arith, stock);
        calls = λ told. let calls = begun.calls told in omega (arith, calls);
        points = start_points started.leaves.content;
        faults = started.leaves.faults;
      }

  -- it was refused to begin
  pub start_refused : AreEarlier making.number making.operands → (e : SortFault)
      → StartsTable rule_of begins_of tells world counts making.operation making.n making.operands
      (parts_of making.number) before mid (Err e) → SweepsArcs tells world counts making anew anew before mid (Err e)
  start_refused earlier e started = record {
    going = record { step_is = refl; sweep_is = refl; budget_is = refl };
    files = tt;
    parts = tt;
    made = tt;
    undamaged = λ told g given. started.undamaged told g (given_to g (world before) earlier given);
    spent = λ was. let spent = started.leaves.spent.0 (the_fault e was) in absurd (omega (arith, spent));
    images = start_safe started.leaves.content;
    damaged = λ told last gate. start_fault (MissesAsked (AsksOwn making.operation making.operands)) making.n making.operands
        (files_from making.operands (parts_of making.number)) (world before) e refl refl refl
        (λ other. started.leaves.damage other told);
    ordered = tt;
    content = start_content started.leaves.content;
    grew = tt;
    paid = tt;
    taken = tt;
    untaken = tt;
    recent = tt;
    calls = tt;
    few_calls = λ told g given.
        let few = started.few_calls told in (
          record {
            left = 6 * tuples_by making.operation making.n g + 3 * nodes_by making.operation making.n g + 5;
            few = omega arith;
            takes = record { saves = 0; parts = 0; few_saves = omega arith; few_parts = omega arith };
          },
          tt,
          omega (arith, few),
        );
    stops = λ told g given within.
        let few = started.few_calls told in
        quiet_stops making.number 0 _ (world before) (world mid) (given_shows making anew (world before) g given)
        (start_points started.leaves.content told) (omega (arith, few));
    faults = sort_shelf_on (counts before) (counts mid) e (Err e) refl started.leaves.faults;
  }
