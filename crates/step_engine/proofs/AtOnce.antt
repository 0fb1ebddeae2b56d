-- The runs of steps that are sure to be done at once.
use Rattle.std.proofs.Common.{◌≡◌, ◌∙◌, ℕ, ◌+◌, ◌*◌, ◌^◌, ◌<◌, ◌≤◌, Bool, true, false, cond, List, refl, sym, ap, subst, arith}
use Rattle.std.specs.Prelude.{IsTrue, Option, Some, None, Result, Ok, Err, IsErrAnd, IfOk, IfSome, IfNone}
use Rattle.bool_tables.specs.declared.steps.Step.{Step}
use Rattle.bool_tables.specs.declared.steps.Planned.{Planned}
use Rattle.bool_tables.specs.Plans.{makes_diagram}
use Rattle.shelf_model.specs.declared.fault.Failed.{Failed}
use Rattle.shelf_model.specs.declared.file_no.FileNo.{FileNo}
use Rattle.shelf_model.specs.Calls.{Told}
use Rattle.shelf_model.specs.Faults.{Faults, OnlyFolder, OnlyShelf}
use Rattle.shelf_model.specs.File.{firm_file}
use Rattle.shelf_model.specs.Folder.{AreFiles}
use Rattle.shelf_model.specs.Moments.{Ran, Stays}
use Rattle.shelf_model.specs.World.{World, now, file}
use Rattle.shelf_model.proofs.Changing.{told_changed_more, told_changed_none}
use Rattle.shelf_model.proofs.Runs.{told_here, ran_stands}
use Rattle.block_stream.specs.Reads.{Looked}
use Rattle.catalogue.specs.declared.layout.Entry.{Entry}
use Rattle.step_work.specs.Tuples.{sweeps}
use Rattle.sound_image.specs.Files.{node_file}
use Rattle.sound_image.specs.Jobs.{Job}
use Rattle.sound_image.specs.Entries.{IsEntryOfStep}
use Rattle.step_sweeps.specs.declared.at_once.AtMost.{AtMost}
use Rattle.step_sweeps.specs.declared.diagram.MadeDiagram.{MadeDiagram}
use Rattle.step_sweeps.specs.AtOnce.{MakesNow, IsMadeNow}
use Rattle.step_sweeps.proofs.AtOnce.{folder_answered, folder_fine, folder_refused}
use Rattle.step_engine.specs.declared.sweeping.Sweeping.{Sweeping}
use Rattle.step_engine.specs.AtOnce.{IsNextOf, OnlyNodes, turns_now, IsRunNow, RunsNow}
use Rattle.step_engine.specs.OneFile.{OnlyFile}
use Rattle.step_engine.specs.Running.{IsReadyFor, RunsStep}
use Rattle.step_engine.specs.Simple.{reads, MayRun}
use Rattle.step_engine.specs.StepEntries.{diagram_entry, one_turn}
use Rattle.step_engine.specs.Sweeping.{sweeping_of}
use Rattle.step_engine.proofs.EntryLaws.{IsSpent, for_diagram, diagram_entry_is, one_within}
use Rattle.step_engine.proofs.OneTurn.{IsSimple, simple_made}
use Rattle.step_engine.proofs.Operands.{IsGivenTo, step_given, waiting_diagrams}
use Rattle.step_engine.proofs.RunFaults.{shelf_fine}
use Rattle.step_engine.proofs.Runs.{IsOperation, is_operation, making_of, never_one, spent_by}

-- no call was made
pub same_faults : {A : Type 0} (counts : Faults) (x : A) → OnlyFolder counts counts (Ok x)
same_faults counts x = record { later = omega arith; cause = tt; say_is = refl; text_is = λ path. refl }

-- a step that doesn't read what earlier steps left is ready where they wait
ready_now : (job : Job) (n : ℕ) (text : List ℕ) (number : ℕ) (p : Planned) (world : World) → reads p.step ≡ false
    → IsNextOf job n text number p world → IsReadyFor job n text number p world
ready_now job n text number p world quiet next = record { step = next.step; holds = λ read. absurd cc }

-- the turns and the calls of a step that takes one turn
one_turn_few : (step : Step) (turns : ℕ) (most : AtMost) → turns ≡ 1 → 1 ≤ most.turns → turns ≤ turns_now step most
one_turn_few step turns most is enough = at (makes_diagram step)
  where
    at : (b : Bool) → turns ≤ cond b most.turns 1
    at true = omega (arith, is, enough)
    at false = omega (arith, is)

module _ {S : Type 0} (tells : S → Bool) (world : S → World) (counts : S → Faults) (n : ℕ) (text : List ℕ) (number : ℕ)
    (p : Planned) (most : AtMost) where
  -- no call was made, and nothing is made
  pub none_now : (s : S) → RunsNow tells world counts n text number p most s s (Ok None)
  none_now s = record {
    run = tt;
    not_made = told_here tells s _ (λ _. record { run = ran_stands (world s) (Stays (now (world s))) refl; few = omega arith });
    few_calls = λ told job next. omega arith;
    one_turn = λ told not. omega arith;
    short = λ told. omega arith;
    content = told_changed_none tells world (λ q. IsTrue (makes_diagram p.step) × (q ≡ node_file number)) s;
    faults = same_faults (counts s) None;
  }

  -- a step that reads nothing was run in one turn
  pub quiet_run : (before after : S) (e : Entry) → reads p.step ≡ false → sweeps p.step ≡ false
      → RunsStep tells world counts n text number p before after (Ok e) → e.turns ≤ turns_now p.step most → e.parts ≡ 3
      → (IsTrue (tells after) → (world after).clock ≤ (world before).clock + cond (makes_diagram p.step) 5 0)
      → IsRunNow tells world n text number p most before after e
  quiet_run before after e quiet not runs few parts calls = record {
    fits = runs.fits;
    few = few;
    parts_is = parts;
    entry = λ told job next. runs.entry told job (ready_now job n text number p (world before) quiet next);
    spared = λ told job next swept. absurd cc;
    made = λ told job next. runs.made told job (ready_now job n text number p (world before) quiet next);
    calls = λ told. subst (λ b. (world after).clock ≤ (world before).clock
        + cond b (8 * e.turns + 10) (cond (makes_diagram p.step) 5 0)) (sym not) (calls told);
  }

  -- the drop of a diagram
  pub drop_now : (s : S) (e : Entry) → reads p.step ≡ false → sweeps p.step ≡ false → makes_diagram p.step ≡ false
      → RunsStep tells world counts n text number p s s (Ok e) → e.turns ≡ 1 → e.parts ≡ 3
      → RunsNow tells world counts n text number p most s s (Ok (Some e))
  drop_now s e quiet not makes runs turns parts =
      let none = none_now s in
      record {
        run = quiet_run s s e quiet not runs
            (subst (λ b. e.turns ≤ cond b most.turns 1) (sym makes) (omega (arith, turns))) parts (λ told. omega arith);
        not_made = tt;
        few_calls = none.few_calls;
        one_turn = none.one_turn;
        short = none.short;
        content = none.content;
        faults = same_faults (counts s) (Some e);
      }

  -- the node file of a step that makes a diagram was written
  nodes_only : (before after : S) → makes_diagram p.step ≡ true
      → Told tells before after (Ran (OnlyFile (node_file number) (now (world before))) (world before) (world after))
      → Told tells before after (Ran (OnlyNodes p.step number (now (world before))) (world before) (world after))
  nodes_only before after makes content = told_changed_more tells world (λ q. q ≡ node_file number)
      (λ q. IsTrue (makes_diagram p.step) × (q ≡ node_file number)) before after (λ q is. (makes, is)) content

  -- a constant or a variable
  module _ (files_are : (s : S) → IsTrue (tells s) → AreFiles (now (world s)).folder) (f : FileNo)
      (f_is : f ≡ node_file number) (nodes : ℕ) (bytes : List ℕ) (simple : IsSimple n number p.step nodes bytes)
      (may : MayRun n text number p) (before after : S)
      (content : Told tells before after (Ran (OnlyFile f (now (world before))) (world before) (world after)))
      (calls : IsTrue (tells after) → (world after).clock ≤ (world before).clock + 5) where
    its_own : Told tells before after (Ran (OnlyNodes p.step number (now (world before))) (world before) (world after))
    its_own = nodes_only before after simple.makes
        (subst (λ h. Told tells before after (Ran (OnlyFile h (now (world before))) (world before) (world after))) f_is content)

    pub simple_failed : (e : Failed) → OnlyFolder {T = Option Entry} (counts before) (counts after) (Err e)
        → RunsNow tells world counts n text number p most before after (Err e)
    simple_failed e faults = record {
      run = tt;
      not_made = tt;
      few_calls = λ told job next. let few = calls told in let one = one_within job p.step in omega (arith, few, one);
      one_turn = λ told not. calls told;
      short = λ told. let few = calls told in omega (arith, few);
      content = its_own;
      faults = faults;
    }

    pub simple_now : (count : ℕ) (e : Entry) → reads p.step ≡ false → 1 ≤ most.turns → count ≡ nodes → nodes < 2 ^ 64
        → e ≡ diagram_entry text p number count one_turn → (IsTrue (tells after) → file (world after) f ≡ firm_file bytes)
        → OnlyShelf {T = ℕ} (counts before) (counts after) (Ok count)
        → RunsNow tells world counts n text number p most before after (Ok (Some e))
    simple_now count e quiet enough count_is small e_is made faults = record {
      run = quiet_run before after e quiet simple.not_swept
          (simple_made tells world counts n text number p files_are f f_is nodes bytes simple may before after content calls
          count e count_is small e_is made (shelf_fine _ _ _ _ faults))
          (one_turn_few p.step e.turns most (ap (λ (x : Entry). x.turns) e_is) enough) (ap (λ (x : Entry). x.parts) e_is)
          (λ told. subst (λ b. (world after).clock ≤ (world before).clock + cond b 5 0) (sym simple.makes) (calls told));
      not_made = tt;
      few_calls = λ told job next. let few = calls told in let one = one_within job p.step in omega (arith, few, one);
      one_turn = λ told not. calls told;
      short = λ told. let few = calls told in omega (arith, few);
      content = its_own;
      faults = folder_fine _ _ _ _ faults;
    }

  -- a step that makes a diagram of others
  module _ (sweeping : Sweeping) (some : sweeping_of p.step ≡ Some sweeping) (may : MayRun n text number p)
      (before after : S) where
    its : IsOperation n number p.step sweeping
    its = is_operation n number p.step sweeping some

    given : (job : Job) → IsNextOf job n text number p (world before) → IsGivenTo job number p.step sweeping (world before) n
    given job next = step_given job n number text p sweeping (world before) some next.step
        (waiting_diagrams job next.committed number (now (world before)).folder next.waits)

    -- what it leaves and costs, whatever it answers
    pub operation_leaves : (r : Result (Option MadeDiagram) Failed) (q : Result (Option Entry) Failed)
        → IfOk q (λ found. IfSome found (IsRunNow tells world n text number p most before after))
        → IfOk q (λ found. IfNone found (Told tells before after (Looked (4 + most.looks) (world before) (world after))))
        → OnlyFolder (counts before) (counts after) q
        → MakesNow tells world counts (making_of n sweeping number) most 4 before after r
        → RunsNow tells world counts n text number p most before after q
    operation_leaves r q run not_made faults makes = record {
      run = run;
      not_made = not_made;
      few_calls = λ told job next.
          let its_own = given job next in
          let few = makes.few_calls told its_own.tables its_own.are in
          let work = its_own.work_is in
          omega (arith, few, work);
      one_turn = λ told not. never_one p.step its.sweeps_is not;
      short = λ told. let few = makes.short told in omega (arith, few);
      content = nodes_only before after its.makes makes.content;
      faults = faults;
    }

    -- it was made
    pub operation_run : (m : MadeDiagram) (e : Entry) → e ≡ diagram_entry text p number m.nodes (spent_by m)
        → m.nodes < 2 ^ 64 → m.turns < 2 ^ 64
        → IsMadeNow tells world (making_of n sweeping number) most.turns 4 before after m
        → IsRunNow tells world n text number p most before after e
    operation_run m e e_is small fits is = record {
      fits = for_diagram number m.nodes (spent_by m) text p e e_is may.few_steps may.named small took its.kind_is;
      few = subst (λ b. e.turns ≤ cond b most.turns 1) (sym its.makes) (subst (λ k. k ≤ most.turns) (sym turns) is.few);
      parts_is = ap (λ (x : Entry). x.parts) e_is ∙ is.next_is;
      entry = λ told job next.
          let its_own = given job next in
          let made = is.made told its_own.tables its_own.are in
          let within = made.few in
          let work = its_own.work_is in
          subst (IsEntryOfStep job number) (sym e_is)
          (diagram_entry_is job number m.nodes (spent_by m) text p may.few_steps may.named next.step.text_is next.step.step_is
          its.kind_is its.makes (its.no_answer job) (its.counts job ∙ sym (made.made.nodes_are ∙ its_own.nodes_are)) small took
          (omega (arith, within, work)));
      spared = λ told job next swept.
          let its_own = given job next in
          let within = (is.made told its_own.tables its_own.are).few in
          let work = its_own.work_is in
          omega (arith, within, work, turns);
      made = λ told job next _.
          let its_own = given job next in
          let made = (is.made told its_own.tables its_own.are).made in
          (made.file_is ∙ ap firm_file its_own.bytes_are, its_own.form made.form);
      calls = λ told. subst (λ b. (world after).clock ≤ (world before).clock
          + cond b (8 * e.turns + 10) (cond (makes_diagram p.step) 5 0)) (sym its.sweeps_is)
          (let few = is.calls told in omega (arith, few, turns));
    }
      where
        turns : e.turns ≡ m.turns
        turns = ap (λ (x : Entry). x.turns) e_is

        took : IsSpent (spent_by m)
        took =
            let some_turns = is.some in
            let next = is.next_is in
            record {
              some = omega (arith, some_turns);
              turns = fits;
              from = omega (arith, next);
              parts = omega (arith, next);
              few = omega (arith, next);
            }

    -- what it answers of what was made
    pub operation_made_now : (found : Option MadeDiagram) (m : MadeDiagram) (e : Entry) → found ≡ Some m
        → e ≡ diagram_entry text p number m.nodes (spent_by m) → m.nodes < 2 ^ 64 → m.turns < 2 ^ 64
        → MakesNow tells world counts (making_of n sweeping number) most 4 before after (Ok found)
        → RunsNow tells world counts n text number p most before after (Ok (Some e))
    operation_made_now found m e is e_is small fits makes =
        let its_own : MakesNow tells world counts (making_of n sweeping number) most 4 before after (Ok (Some m)) =
        subst (λ o. MakesNow tells world counts (making_of n sweeping number) most 4 before after (Ok o)) is makes in
        operation_leaves (Ok (Some m)) (Ok (Some e)) (operation_run m e e_is small fits its_own.made) tt
        (folder_answered _ _ _ _ its_own.faults) its_own

    pub operation_none_now : (found : Option MadeDiagram) → found ≡ None
        → MakesNow tells world counts (making_of n sweeping number) most 4 before after (Ok found)
        → RunsNow tells world counts n text number p most before after (Ok None)
    operation_none_now found is makes =
        let its_own : MakesNow tells world counts (making_of n sweeping number) most 4 before after (Ok None) =
        subst (λ o. MakesNow tells world counts (making_of n sweeping number) most 4 before after (Ok o)) is makes in
        operation_leaves (Ok None) (Ok None) tt its_own.not_made (folder_answered _ _ _ _ its_own.faults) its_own

    pub operation_failed_now : (e : Failed) (r : Result (Option Entry) Failed) → IsErrAnd r (λ f. f ≡ e)
        → MakesNow tells world counts (making_of n sweeping number) most 4 before after (Err e)
        → RunsNow tells world counts n text number p most before after r
    operation_failed_now e (Ok x) is makes = absurd is
    operation_failed_now e (Err f) is makes =
        operation_leaves (Err e) (Err f) tt tt (folder_refused _ _ _ _ makes.faults) makes
