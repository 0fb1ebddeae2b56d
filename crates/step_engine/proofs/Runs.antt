-- The runs of steps that sweep, from what the sweeps say.
use Rattle.std.proofs.Common.{◌≡◌, ◌∙◌, ℕ, ◌+◌, ◌-◌, ◌*◌, ◌/◌, ◌^◌, ◌<◌, ◌≤◌, Bool, true, false, cond, nat_lt, List, [], ◌∷◌, refl, sym, ap, subst, inl, inr, arith}
use Rattle.std.specs.Prelude.{IsTrue, Some, Result, Ok, Err, IsErrAnd}
use Rattle.std.specs.List.{list_all}
use Rattle.std.proofs.lemmas.Bool.{and_parts, ltb-true}
use Rattle.std.proofs.lemmas.Option.{same_Some}
use Rattle.bool_tables.specs.declared.steps.Step.{Step}
use Rattle.bool_tables.specs.declared.steps.Step.TheVariants.{Const, Var, Pair, Ite, Quantify, Restrict, Drop, Same, Leq, Eval, Size}
use Rattle.bool_tables.specs.declared.steps.Planned.{Planned}
use Rattle.bool_tables.specs.Plans.{operands, levels_of, makes_diagram}
use Rattle.shelf_model.specs.declared.file_no.FileNo.{FileNo}
use Rattle.shelf_model.specs.declared.sort_fault.SortFault.{SortFault}
use Rattle.shelf_model.specs.declared.sort_fault.SortFault.TheVariants as sort
use Rattle.shelf_model.specs.Calls.{Told}
use Rattle.shelf_model.specs.Faults.{Faults}
use Rattle.shelf_model.specs.File.{firm_file}
use Rattle.shelf_model.specs.Folder.{AreFiles}
use Rattle.shelf_model.specs.Moments.{Ran, OnlyChanged}
use Rattle.shelf_model.specs.World.{World, now, file}
use Rattle.catalogue.specs.declared.layout.Entry.{Entry}
use Rattle.run_tiers.specs.Faults.{OnlySortShelf}
use Rattle.run_tiers.proofs.FaultLaws.{sort_shelf_on, sort_shelf_then}
use Rattle.step_work.specs.Tuples.{joins, sweeps}
use Rattle.node_file.specs.Canonical.{IsMade}
use Rattle.node_reading.specs.Reading.{count_of}
use Rattle.sweep_core.specs.Accounts.{NoneFilled}
use Rattle.sweep_core.specs.Saving.{reads_of}
use Rattle.sweep_core.specs.Sweeps.{IsNoDamage}
use Rattle.sweep_core.proofs.Untaken.{none_then}
use Rattle.sweep_checkpoint.specs.Stops.{shown_by, StopsCost}
use Rattle.sweep_checkpoint.specs.declared.going.Going.{Going}
use Rattle.resumable.specs.Diagrams.{DiagramGoesOn, diagram_rests}
use Rattle.sound_image.specs.Files.{node_file}
use Rattle.sound_image.specs.Jobs.{Job, nodes_at}
use Rattle.sound_image.specs.Entries as entries
use Rattle.sound_image.specs.Entries.{IsEntryOfStep, kind_of, answer_of, work_of}
use Rattle.sound_image.specs.Holds.{Holds}
use Rattle.sound_image.specs.Holds as held
use Rattle.top_down_sweep.specs.declared.beginning.OperandFiles.{OperandFiles}
use Rattle.sweep_operations.specs.declared.steps.StepOperation.{StepOperation}
use Rattle.sweep_operations.specs.declared.steps.StepOperation.TheVariants as operations
use Rattle.step_sweeps.specs.declared.diagram.MadeDiagram.{MadeDiagram}
use Rattle.step_sweeps.specs.declared.task.Making.{Making}
use Rattle.step_sweeps.specs.Damage.{IsDamagedBy, MissesNamed, AsksOwn, MissesIn, IsArcsFault}
use Rattle.step_sweeps.specs.Given.{AreEarlier}
use Rattle.step_sweeps.specs.Going.{rest_calls}
use Rattle.step_sweeps.specs.Made.{IsCounted}
use Rattle.step_sweeps.specs.Makes.{table_by, operand_nodes, IsGivenFor, IsDiagramOf, Makes}
use Rattle.step_sweeps.specs.Operations.{IsWithin}
use Rattle.step_sweeps.specs.Stops.{step_stop}
use Rattle.step_engine.specs.declared.entries.Spent.{Spent}
use Rattle.step_engine.specs.declared.sweeping.Sweeping.{Sweeping}
use Rattle.step_engine.specs.Finding.{JobGoesOn, FindsGoing}
use Rattle.step_engine.specs.Simple.{reads, MayRun, IsStepOf}
use Rattle.step_engine.specs.Sweeping.{files_of, sweeping_of}
use Rattle.step_engine.specs.StepEntries.{diagram_entry, IsEntryFor}
use Rattle.step_engine.specs.StepFaults.{IsMakingFault, IsStepFault, IsRunFault, IsSoundFault, IsOfKind}
use Rattle.step_engine.specs.Running.{run_calls, nodes_read, PaysRest, SparesParts, IsReadyFor, IsGoneOn, RunsStep}
use Rattle.step_engine.proofs.EntryLaws.{IsSpent, for_diagram, diagram_entry_is}
use Rattle.step_engine.proofs.Operands.{IsGivenTo, held_diagrams, step_given}
use Rattle.step_engine.proofs.RunFaults.{faults_ok, fault_before, refused_first, refused_then, gate_as, shelf_sound, not_spent_kind}
use Rattle.step_engine.proofs.Went.{stands_as, safe_as, IsSet, Went, Swept, went_first, set_found, same_diagrams, same_gate, pays_for, parts_for, ends_for, went_then}

-- a run that is refused, for a fault that is handed on
pub handed_runs : {S : Type 0} (tells : S → Bool) (world : S → World) (counts : S → Faults) (n : ℕ) (text : List ℕ) (number : ℕ) (p : Planned)
    (before after : S) (e : SortFault) (r : Result Entry SortFault) → IsErrAnd r (λ f. f ≡ e)
    → RunsStep tells world counts n text number p before after (Err e) → RunsStep tells world counts n text number p before after r
handed_runs tells world counts n text number p before after e (Ok x) is runs = absurd is
handed_runs tells world counts n text number p before after e (Err f) is runs =
    subst (λ x. RunsStep tells world counts n text number p before after (Err x)) (sym is) runs

-- the calls of a step that sweeps
pub swept_calls : (step : Step) (turns rest now_clock clock : ℕ) → sweeps step ≡ true → now_clock ≤ clock + (229 * turns + 13 + rest)
    → now_clock ≤ clock + (run_calls step turns + rest)
swept_calls step turns rest now_clock clock swept few =
    subst (λ b. now_clock ≤ clock + (cond b (229 * turns + 13) 5 + rest)) (sym swept) few

-- a step that sweeps isn't one that takes one turn
pub never_one : {A : Type 0} (step : Step) → sweeps step ≡ true → sweeps step ≡ false → A
never_one step swept not = absurd cc

-- what a sound folder allows of a fault: none of damage, and none of parts below so much work
pub sound_fault : (step : Step) (work bound : ℕ) (e : SortFault) → IsOfKind step e → bound ≡ work → IsNoDamage e
    → (e ≡ sort.RunsSpent → 2 ^ 35 ≤ bound) → IsSoundFault step work e
sound_fault step work bound sort.Shelf kind same none spent = tt
sound_fault step work bound (sort.Damaged f at) kind same none spent = none
sound_fault step work bound sort.RunsSpent kind same none spent = (kind, subst (λ w. 2 ^ 35 ≤ w) same (spent refl))

pub of_kind : (step : Step) (e : SortFault) → joins step ≡ true → IsOfKind step e
of_kind step sort.Shelf joined = tt
of_kind step (sort.Damaged f at) joined = tt
of_kind step sort.RunsSpent joined = joined

module _ {S : Type 0} (tells : S → Bool) (world : S → World) (counts : S → Faults) (n : ℕ) (text : List ℕ) (number : ℕ) (p : Planned)
    (swept : sweeps p.step ≡ true) (before after : S) (went : Went tells world counts n text number p before after) where
  few_run : IsTrue (tells after) → (job : Job) → IsStepOf job n text number p → Holds job number (now (world before)).folder → (rest : ℕ)
      → PaysRest p.step number (reads_of (world before)) rest
      → (world after).clock ≤ (world before).clock + (run_calls p.step (work_of job p.step) + rest)
  few_run told job is holds rest pays = swept_calls p.step (work_of job p.step) rest _ _ swept (went.few_calls told job is holds rest pays)

  -- a run that is refused
  pub refused_runs : (e : SortFault)
      → (IsTrue (tells after) → (job : Job) → IsStepOf job n text number p → Holds job number (now (world before)).folder
      → IsSoundFault p.step (work_of job p.step) e)
      → (IsTrue (tells after) → IsRunFault n number p.step (world before) e) → IsOfKind p.step e
      → OnlySortShelf {T = Entry} (counts before) (counts after) (Err e)
      → RunsStep tells world counts n text number p before after (Err e)
  refused_runs e sound damaged kind faults = record {
    content = went.content;
    fits = tt;
    entry = tt;
    made = tt;
    untaken = tt;
    unmade = tt;
    resumes = went.resumes;
    sound = sound;
    damaged = damaged;
    kind = kind;
    calls = tt;
    few_parts = tt;
    one_turn = λ told not. never_one p.step swept not;
    few_calls = few_run;
    stops = λ told job is holds small shown rest gone. (went.stops told job is holds small shown rest gone, tt);
    faults = faults;
  }

  -- and one that ends
  pub ended_runs : (e : Entry) (turns : ℕ) → e.turns ≡ turns → IsEntryFor p.step number e
      → (IsTrue (tells after) → (job : Job) → IsReadyFor job n text number p (world before) → IsEntryOfStep job number e)
      → (IsTrue (tells after) → (job : Job) → IsReadyFor job n text number p (world before) → held.IsMade job number (now (world after)).folder)
      → (IsTrue (tells after) → NoneFilled number e.parts (world before) (world after))
      → (IsTrue (tells after) → makes_diagram p.step ≡ false → (file (world before) (node_file number)).bytes ≡ []
      → (file (world after) (node_file number)).bytes ≡ [])
      → (IsTrue (tells after) → (rest : ℕ) → PaysRest p.step number (reads_of (world before)) rest → turns < 2 ^ 64 - 1
      → (world after).clock ≤ (world before).clock + (229 * turns + 13 + rest))
      → (IsTrue (tells after) → (spare : ℕ) → SparesParts number (reads_of (world before)) spare
      → e.parts ≤ 5 + turns / 16 + spare)
      → (IsTrue (tells after) → (job : Job) → IsStepOf job n text number p → Holds job number (now (world before)).folder
      → work_of job p.step < 2 ^ 61 → (shown rest : ℕ) → IsGoneOn p.step number (world before) shown rest
      → (shown ≤ turns) × ((world after).clock ≤ (world before).clock + (229 * (turns - shown) + 13 + rest)))
      → OnlySortShelf {T = Entry} (counts before) (counts after) (Ok e)
      → RunsStep tells world counts n text number p before after (Ok e)
  ended_runs e turns turns_is fits entry made untaken unmade calls few_parts ends faults = record {
    content = went.content;
    fits = fits;
    entry = entry;
    made = made;
    untaken = untaken;
    unmade = unmade;
    resumes = went.resumes;
    sound = tt;
    damaged = tt;
    kind = tt;
    calls = λ told rest pays exact. swept_calls p.step e.turns rest _ _ swept
        (subst (λ k. (world after).clock ≤ (world before).clock + (229 * k + 13 + rest)) (sym turns_is)
        (calls told rest pays (subst (λ k. k < 2 ^ 64 - 1) turns_is exact)));
    few_parts = λ told spare spares. subst (λ k. e.parts ≤ 5 + k / 16 + spare) (sym turns_is)
        (few_parts told spare spares);
    one_turn = λ told not. never_one p.step swept not;
    few_calls = few_run;
    stops = λ told job is holds small shown rest gone. (
      went.stops told job is holds small shown rest gone,
      subst (λ k. (shown ≤ k) × ((world after).clock ≤ (world before).clock + (run_calls p.step (k - shown) + rest))) (sym turns_is)
          (let ended = ends told job is holds small shown rest gone in
          (ended.0, swept_calls p.step (turns - shown) rest _ _ swept ended.1)),
    );
    faults = faults;
  }

-- a step that makes a diagram isn't one that makes none
pub always_made : {A : Type 0} (step : Step) → makes_diagram step ≡ true → makes_diagram step ≡ false → A
always_made step makes not = absurd cc

-- none was filled before the sweep, nor by it of those whose parts it didn't take
pub taken_then : (number next parts : ℕ) (before mid after : World) → 3 ≤ next → parts ≡ next
    → NoneFilled number 3 before mid → NoneFilled number next mid after → NoneFilled number parts before after
taken_then number next parts before mid after from is first second =
    subst (λ k. NoneFilled number k before after) (sym is) (none_then number 3 next before mid after from first second)

-- a run that is refused before it sweeps
pub first_refused : {S : Type 0} (tells : S → Bool) (world : S → World) (counts : S → Faults) (n : ℕ) (text : List ℕ) (number : ℕ) (p : Planned)
    (swept : sweeps p.step ≡ true) (before after : S) (e : SortFault) → FindsGoing tells world counts number before after (Err e)
    → RunsStep tells world counts n text number p before after (Err e)
first_refused tells world counts n text number p swept before after e found =
    refused_runs tells world counts n text number p swept before after
    (went_first tells world counts n text number p swept before after (Err e) found) e
    (λ told job is holds. shelf_sound p.step (work_of job p.step) e (found.sound told job
    (record { well_formed = is.well_formed; within = is.within }) holds))
    (λ told. refused_first n number p.step swept (world before) e (found.damaged told)) (not_spent_kind p.step e found.kind)
    (sort_shelf_on (counts before) (counts after) e (Err e) refl found.faults)

-- what is known of a step that makes a diagram of others
pub record IsOperation (n number : ℕ) (step : Step) (sweeping : Sweeping) : Type 0 where
  pub makes : makes_diagram step ≡ true
  pub sweeps_is : sweeps step ≡ true
  pub joins_is : joins step ≡ true
  pub kind_is : kind_of step ≡ 1
  pub no_answer : (job : Job) → answer_of job step ≡ 0
  pub counts : (job : Job) → entries.count_of job number step ≡ nodes_at job number
  pub earlier : IsTrue (list_all (λ k. nat_lt k number) (operands step)) → AreEarlier number sweeping.operands
  pub within : IsTrue (list_all (λ level. nat_lt level n) (levels_of step)) → IsWithin n sweeping.operation
  pub fault : (world : World) (e : SortFault) → IsArcsFault sweeping.operation n sweeping.operands world e → IsStepFault n step world e
  pub reads_is : reads step ≡ true
  pub nodes : (r : FileNo → List ℕ)
      → count_of (r sweeping.operands.first) + count_of (r sweeping.operands.second) + count_of (r sweeping.operands.third) ≤ nodes_read step r

-- of a list of earlier steps the first is one, and so are the others
pub first_below : (number a : ℕ) (more : List ℕ) → IsTrue (list_all (λ k. nat_lt k number) (a ∷ more)) → a < number
first_below number a more h = ltb-true a number (and_parts (nat_lt a number) (list_all (λ k. nat_lt k number) more) h).0

pub more_below : (number a : ℕ) (more : List ℕ) → IsTrue (list_all (λ k. nat_lt k number) (a ∷ more)) → IsTrue (list_all (λ k. nat_lt k number) more)
more_below number a more h = (and_parts (nat_lt a number) (list_all (λ k. nat_lt k number) more) h).1

-- where an operation asks each file for its own pointers, one that misses a node misses one that another names
named_in : (operation : StepOperation) (operands : OperandFiles) (n : ℕ) (read : FileNo) (world : World) (f : FileNo)
    (at : ℕ) → AsksOwn operation operands → IsDamagedBy (MissesIn operation operands) n read world f at
    → IsDamagedBy MissesNamed n read world f at
named_in operation operands n read world f at own (is, inl trailer) = (is, inl trailer)
named_in operation operands n read world f at own (is, inr (inl node)) = (is, inr (inl node))
named_in operation operands n read world f at own (is, inr (inr missed)) = (is, inr (inr (missed.named own)))

-- faults of two, three and one operands
two_faults : (operation : StepOperation) (n a b : ℕ) (world : World) (e : SortFault)
    → AsksOwn operation (files_of a b b) → IsArcsFault operation n (files_of a b b) world e
    → IsMakingFault n (a ∷ b ∷ []) world e
two_faults operation n a b world sort.Shelf own is = tt
two_faults operation n a b world (sort.Damaged f at) own (inl one) =
    inl (named_in operation (files_of a b b) n _ world f at own one)
two_faults operation n a b world (sort.Damaged f at) own (inr (inl two)) =
    inr (inl (named_in operation (files_of a b b) n _ world f at own two))
two_faults operation n a b world (sort.Damaged f at) own (inr (inr two)) =
    inr (inl (named_in operation (files_of a b b) n _ world f at own two))
two_faults operation n a b world sort.RunsSpent own is = tt

three_faults : (operation : StepOperation) (n a b c : ℕ) (world : World) (e : SortFault)
    → AsksOwn operation (files_of a b c) → IsArcsFault operation n (files_of a b c) world e
    → IsMakingFault n (a ∷ b ∷ c ∷ []) world e
three_faults operation n a b c world sort.Shelf own is = tt
three_faults operation n a b c world (sort.Damaged f at) own (inl one) =
    inl (named_in operation (files_of a b c) n _ world f at own one)
three_faults operation n a b c world (sort.Damaged f at) own (inr (inl two)) =
    inr (inl (named_in operation (files_of a b c) n _ world f at own two))
three_faults operation n a b c world (sort.Damaged f at) own (inr (inr three)) =
    inr (inr (inl (named_in operation (files_of a b c) n _ world f at own three)))
three_faults operation n a b c world sort.RunsSpent own is = tt

one_fault : (operation : StepOperation) (n a : ℕ) (world : World) (e : SortFault)
    → AsksOwn operation (files_of a a a) → IsArcsFault operation n (files_of a a a) world e
    → IsMakingFault n (a ∷ []) world e
one_fault operation n a world sort.Shelf own is = tt
one_fault operation n a world (sort.Damaged f at) own (inl one) =
    inl (named_in operation (files_of a a a) n _ world f at own one)
one_fault operation n a world (sort.Damaged f at) own (inr (inl one)) =
    inl (named_in operation (files_of a a a) n _ world f at own one)
one_fault operation n a world (sort.Damaged f at) own (inr (inr one)) =
    inl (named_in operation (files_of a a a) n _ world f at own one)
one_fault operation n a world sort.RunsSpent own is = tt

pub is_operation : (n number : ℕ) (step : Step) (sweeping : Sweeping) → sweeping_of step ≡ Some sweeping → IsOperation n number step sweeping
is_operation n number (Const value) sweeping none = cc
is_operation n number (Var level) sweeping none = cc
is_operation n number (Pair op left right) sweeping some =
    subst (IsOperation n number (Pair op left right)) (same_Some _ sweeping some) (record {
      makes = refl;
      sweeps_is = refl;
      joins_is = refl;
      kind_is = refl;
      no_answer = λ job. refl;
      counts = λ job. refl;
      earlier = λ h. record {
        first = first_below number left (right ∷ []) h;
        second = first_below number right [] (more_below number left (right ∷ []) h);
        third = first_below number right [] (more_below number left (right ∷ []) h);
      };
      within = λ h. tt;
      fault = λ world e. two_faults (operations.Operator op) n left right world e tt;
      reads_is = refl;
      nodes = λ r. omega arith;
    })
is_operation n number (Ite test if_one if_zero) sweeping some =
    subst (IsOperation n number (Ite test if_one if_zero)) (same_Some _ sweeping some) (record {
      makes = refl;
      sweeps_is = refl;
      joins_is = refl;
      kind_is = refl;
      no_answer = λ job. refl;
      counts = λ job. refl;
      earlier = λ h. record {
        first = first_below number test (if_one ∷ if_zero ∷ []) h;
        second = first_below number if_one (if_zero ∷ []) (more_below number test (if_one ∷ if_zero ∷ []) h);
        third = first_below number if_zero [] (more_below number if_one (if_zero ∷ []) (more_below number test (if_one ∷ if_zero ∷ []) h));
      };
      within = λ h. tt;
      fault = λ world e. three_faults operations.Choice n test if_one if_zero world e tt;
      reads_is = refl;
      nodes = λ r. omega arith;
    })
is_operation n number (Quantify kind of level) sweeping some =
    subst (IsOperation n number (Quantify kind of level)) (same_Some _ sweeping some) (record {
      makes = refl;
      sweeps_is = refl;
      joins_is = refl;
      kind_is = refl;
      no_answer = λ job. refl;
      counts = λ job. refl;
      earlier = λ h. record {
        first = first_below number of [] h;
        second = first_below number of [] h;
        third = first_below number of [] h;
      };
      within = λ h. first_below n level [] h;
      fault = λ world e. one_fault (operations.Quantifier kind level) n of world e refl;
      reads_is = refl;
      nodes = λ r. omega arith;
    })
is_operation n number (Restrict of level value) sweeping some =
    subst (IsOperation n number (Restrict of level value)) (same_Some _ sweeping some) (record {
      makes = refl;
      sweeps_is = refl;
      joins_is = refl;
      kind_is = refl;
      no_answer = λ job. refl;
      counts = λ job. refl;
      earlier = λ h. record {
        first = first_below number of [] h;
        second = first_below number of [] h;
        third = first_below number of [] h;
      };
      within = λ h. first_below n level [] h;
      fault = λ world e. one_fault (operations.Restriction level value) n of world e tt;
      reads_is = refl;
      nodes = λ r. omega arith;
    })
is_operation n number (Drop gone) sweeping none = cc
is_operation n number (Same left right) sweeping none = cc
is_operation n number (Leq left right) sweeping none = cc
is_operation n number (Eval of at) sweeping none = cc
is_operation n number (Size of) sweeping none = cc

-- what a diagram took
abbrev pub spent_by : MadeDiagram → Spent
spent_by m = record { turns = m.turns; parts = m.next }

-- what a step is given
abbrev pub making_of : ℕ → Sweeping → ℕ → Making
making_of n sweeping number =
    record { operation = sweeping.operation; n = n; operands = sweeping.operands; number = number }

module _ {S : Type 0} (tells : S → Bool) (world : S → World) (counts : S → Faults) (n : ℕ) (text : List ℕ) (number : ℕ) (p : Planned)
    (sweeping : Sweeping) (some : sweeping_of p.step ≡ Some sweeping) (may : MayRun n text number p)
    (files_are : (s : S) → IsTrue (tells s) → AreFiles (now (world s)).folder) (before mid after : S) (going : Going)
    (found : FindsGoing tells world counts number before mid (Ok going)) where
  is_one : IsOperation n number p.step sweeping
  is_one = is_operation n number p.step sweeping some

  step_is : going.step ≡ number
  step_is = found.going.0

  -- what the operation is given, where the step is set
  record IsGivenAs (job : Job) : Type 1 where
    given : IsGivenTo job number p.step sweeping (world mid) n
    goes_is : JobGoesOn job number ≡ DiagramGoesOn sweeping.operation n sweeping.operands going.step given.tables
    for : IsGivenFor (making_of n sweeping going.step) going (world mid) given.tables

  given_as : (job : Job) → IsSet job n text number p going.last (now (world mid)).folder → IsGivenAs job
  given_as job set =
      let given : IsGivenTo job number p.step sweeping (world mid) n = step_given job n number text p sweeping (world mid) some set.is
      (held_diagrams job number (now (world mid)).folder set.holds) in
      let goes_is : JobGoesOn job number ≡ DiagramGoesOn sweeping.operation n sweeping.operands going.step given.tables =
      given.goes_is ∙ (λ i. DiagramGoesOn sweeping.operation n sweeping.operands (sym step_is i) given.tables) in
      record {
        given = given;
        goes_is = goes_is;
        for = record {
          given = given.are;
          firm = record {
            first = given.firm.first;
            second = given.firm.second;
            third = given.firm.third;
          };
          standing = stands_as job number going.step _ diagram_rests goes_is given.rests_is (sym step_is) going.last
              (now (world mid)).folder set.stands;
        };
      }

  module _ (result : Result MadeDiagram SortFault)
      (said : Makes tells world counts (making_of n sweeping going.step) going mid after result) where
    swept_by : Swept tells world counts n text number p going.last 11 (operand_nodes (making_of n sweeping going.step)) mid after
    swept_by = record {
      content = subst (λ k. Told tells mid after (Ran (OnlyChanged (λ f. f.step ≡ k) (now (world mid))) (world mid) (world after))) step_is said.content;
      safe = λ told job set.
          let its = given_as job set in
          safe_as job number going.step _ its.goes_is (sym step_is) (world mid) (world after) (said.images told its.given.tables its.for);
      few_calls = λ told job set.
          let its = given_as job set in
          subst (λ w. (world after).clock ≤ (world mid).clock + (229 * w + 11 + rest_calls going.last (operand_nodes (making_of n sweeping going.step) (reads_of (world mid)))))
          its.given.work_is (said.few_calls told its.given.tables its.for);
      stops = λ told job set small.
          let its = given_as job set in
          subst (λ k. StopsCost k (shown_by going.last)
          ((world mid).clock + (step_stop + rest_calls going.last (operand_nodes (making_of n sweeping going.step) (reads_of (world mid))))) (world mid) (world after))
          step_is (said.stops told its.given.tables its.for (subst (λ w. w < 2 ^ 61) (sym its.given.work_is) small));
    }

    went : Went tells world counts n text number p before after
    went = went_then tells world counts n text number p files_are is_one.sweeps_is before mid after going found 11
        (operand_nodes (making_of n sweeping going.step)) (omega arith) is_one.nodes swept_by

    set_in : IsTrue (tells after) → (job : Job) → IsStepOf job n text number p → Holds job number (now (world before)).folder
        → IsSet job n text number p going.last (now (world mid)).folder
    set_in told job is holds =
        set_found tells world counts n text number p files_are is_one.sweeps_is before mid after going found 11
        (operand_nodes (making_of n sweeping going.step)) (omega arith) is_one.nodes (said.content.before told) job is holds

  -- an operation that is refused
  pub operation_refused : (e : SortFault) → Makes tells world counts (making_of n sweeping going.step) going mid after (Err e)
      → RunsStep tells world counts n text number p before after (Err e)
  operation_refused e said =
      refused_runs tells world counts n text number p is_one.sweeps_is before after (went (Err e) said) e
      (λ told job is holds.
      let its = given_as job (set_in (Err e) said told job is holds) in
      sound_fault p.step (work_of job p.step) _ e (of_kind p.step e is_one.joins_is) its.given.work_is (said.undamaged told its.given.tables its.for)
      (λ is_spent. said.spent (ap (λ f. Err f) is_spent) told its.given.tables its.for))
      (λ told.
      let told_mid = said.content.before told in
      refused_then n number p.step is_one.sweeps_is (world before) going.last e (found.last told_mid)
      (λ none empty.
      fault_before n (world before) (world mid) (same_diagrams tells world counts n text number p files_are is_one.sweeps_is before mid after going found 11
      (operand_nodes (making_of n sweeping going.step)) (omega arith) is_one.nodes told_mid) p.step e is_one.sweeps_is (is_one.fault (world mid) e
      (said.damaged told none (gate_as found.going.0 (world mid) (same_gate tells world counts n text number p files_are is_one.sweeps_is before mid after going
      found 11 (operand_nodes (making_of n sweeping going.step)) (omega arith) is_one.nodes told_mid ∙ empty))))))
      (of_kind p.step e is_one.joins_is)
      (sort_shelf_then (counts before) (counts mid) (counts after) (Ok going) (Err e) found.faults
      (sort_shelf_on (counts mid) (counts after) e (Err e) refl said.faults))

  -- an operation that made its diagram
  pub operation_made : (m : MadeDiagram) (e : Entry) → e ≡ diagram_entry text p number m.nodes (spent_by m)
      → m.nodes < 2 ^ 64 → m.turns < 2 ^ 64 → Makes tells world counts (making_of n sweeping going.step) going mid after (Ok m)
      → RunsStep tells world counts n text number p before after (Ok e)
  operation_made m e e_is small few said =
      ended_runs tells world counts n text number p is_one.sweeps_is before after (went (Ok m) said) e m.turns (ap (λ (x : Entry). x.turns) e_is)
      (for_diagram number m.nodes (spent_by m) text p e e_is may.few_steps may.named small took is_one.kind_is)
      (λ told job ready.
      let its = given_as job (set_in (Ok m) said told job ready.step (ready.holds is_one.reads_is)) in
      let diagram : IsDiagramOf (making_of n sweeping going.step) its.given.tables m (world after) = said.made told its.given.tables its.for in
      subst (IsEntryOfStep job number) (sym e_is)
      (diagram_entry_is job number m.nodes (spent_by m) text p may.few_steps may.named ready.step.text_is ready.step.step_is is_one.kind_is is_one.makes
      (is_one.no_answer job) (is_one.counts job ∙ sym (diagram.made.nodes_are ∙ its.given.nodes_are)) small took
      (subst (λ w. m.turns ≤ w) its.given.work_is diagram.few)))
      (λ told job ready _.
      let its = given_as job (set_in (Ok m) said told job ready.step (ready.holds is_one.reads_is)) in
      let making = making_of n sweeping going.step in
      let made : IsMade n (table_by making its.given.tables) (node_file number) m.nodes (world after) =
      subst (λ k. IsMade n (table_by making its.given.tables) (node_file k) m.nodes (world after)) step_is (said.made told its.given.tables its.for).made in
      (made.file_is ∙ ap firm_file its.given.bytes_are, its.given.form made.form))
      (λ told. taken_then number m.next e.parts (world before) (world mid) (world after) took.from
      (ap (λ (x : Entry). x.parts) e_is) (found.untaken (said.content.before told))
      (subst (λ k. NoneFilled k m.next (world mid) (world after)) step_is (said.untaken told)))
      (λ told not. always_made p.step is_one.makes not)
      (λ told rest pays exact.
      pays_for tells world counts n text number p files_are is_one.sweeps_is before mid after going found 11
      (operand_nodes (making_of n sweeping going.step)) (omega arith) is_one.nodes (said.content.before told) m.turns rest pays
      (let called = said.calls told exact in omega (arith, called)))
      (λ told spare spares. subst (λ k. k ≤ 5 + m.turns / 16 + spare) (sym (ap (λ (x : Entry). x.parts) e_is))
      (parts_for number (reads_of (world before)) going.last m.turns m.next spare
      (found.last (said.content.before told)) spares said.few_anew took.few))
      (λ told job is holds small shown rest gone.
      let its = given_as job (set_in (Ok m) said told job is holds) in
      let diagram : IsDiagramOf (making_of n sweeping going.step) its.given.tables m (world after) = said.made told its.given.tables its.for in
      let few_turns : m.turns ≤ work_of job p.step = subst (λ w. m.turns ≤ w) its.given.work_is diagram.few in
      ends_for tells world counts n text number p files_are is_one.sweeps_is before mid after going found 11
      (operand_nodes (making_of n sweeping going.step)) (omega arith) is_one.nodes (said.content.before told) job is holds m.turns shown rest gone said.grew
      (said.calls told (omega (arith, few_turns, small))))
      (sort_shelf_then (counts before) (counts mid) (counts after) (Ok going) (Ok e) found.faults
      (faults_ok (counts mid) (counts after) m e said.faults))
    where
      took : IsSpent (spent_by m)
      took =
          let counted : IsCounted m.turns m.next = said.counted in
          record { some = counted.some; turns = few; from = counted.from; parts = counted.below; few = counted.few }
