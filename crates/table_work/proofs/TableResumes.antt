-- A sweep that makes a step's table, saved and rebuilt as the sweep from the root down that it is.
use Rattle.std.proofs.Common.{◌≡◌, ℕ, ◌-◌, ◌≤◌, ◌∙◌, Bool, List, ◌++◌, length, replicate, sym, subst, ap, arith, length-append}
use Rattle.std.specs.Prelude.{Result}
use Rattle.std.proofs.lemmas.List.{length-replicate}
use Rattle.list_laws.proofs.MemberLaws.{has_left}
use Rattle.saved_words.specs.declared.carried.Carried.{Ghosts}
use Rattle.shelf_model.specs.declared.file_no.FileNo.{FileNo}
use Rattle.shelf_model.specs.declared.sort_fault.SortFault.{SortFault}
use Rattle.shelf_model.specs.Faults.{Faults}
use Rattle.shelf_model.specs.World.{World}
use Rattle.sweep_core.specs.declared.checkpoint.Checkpoint.{Checkpoint}
use Rattle.sweep_core.specs.Accounts.{Accounts}
use Rattle.sweep_core.specs.Carries.{Carries, IsStill}
use Rattle.sweep_core.specs.Saving.{Saving}
use Rattle.sweep_core.specs.Sweeps.{IsNoDamage}
use Rattle.top_down.specs.declared.tuple.Tuple.{Tuple}
use Rattle.top_down.specs.Rules.{Rule}
use Rattle.tuple_asks.specs.declared.files.Files.{Files}
use Rattle.top_down_sweep.specs.declared.sweep.TopDownSweep.{TopDownSweep}
use Rattle.top_down_sweep.specs.Beginning.{IsReady}
use Rattle.top_down_sweep.specs.Making.{accounts_along}
use Rattle.top_down_sweep.specs.Meaning.{Remains}
use Rattle.top_down_sweep.specs.Resumes.{Fits, Names}
use Rattle.top_down_sweep.specs.ResumeLaws.{one_machine}
use Rattle.top_down_sweep.specs.Sweeps.{SweepTask, task_of, IsSound}
use Rattle.top_down_sweep.specs.Turns.{Work, turns_left, left_of}
use Rattle.table_work.specs.Jobs.{TableWork, MakesWithin, turns_of}
use Rattle.table_work.specs.TableSaving.{StandsFor}

-- what a save of what is seen leaves and costs
pub carries_along : {P Q S T : Type 0} (view : Q → P) (tells : S → Bool) (world : S → World) (counts : S → Faults)
    (accounts : Accounts P) (calls parts : ℕ) (before after : S) (old new : Q) (r : Result T SortFault)
    → Carries tells world counts accounts calls parts before after (view old) (view new) r
    → Carries tells world counts (accounts_along view accounts) calls parts before after old new r
carries_along view tells world counts accounts calls parts before after old new r c = record {
  made = c.made;
  making = c.making;
  step_is = c.step_is;
  later = c.later;
  within = c.within;
  content = c.content;
  untaken = c.untaken;
  calls = c.calls;
  spent = c.spent;
  faults = c.faults;
}

-- two files that stay are two
pub ready_on : {O : Type 0} (p q : TopDownSweep O) → IsReady p → task_of q ≡ task_of p → IsSound q → IsReady q
ready_on p q ready same sound = record {
  sound = sound;
  two_files = λ is. ready.two_files (ap (λ (t : SweepTask). t.files.inner) (sym same) ∙ is
      ∙ ap (λ (t : SweepTask). t.files.ends) same);
}

-- the files of arcs that a lawful checkpoint names are two
pub ready_rebuilt : {O : Type 0} (o : Ghosts O) (c : Checkpoint) (s : TopDownSweep O) → Fits o c → Names o c (task_of s)
    → IsSound s → IsReady s
ready_rebuilt o c s fits names sound = record {
  sound = sound;
  two_files = λ is. fits.rules.arcs.two_files
      (let same = one_machine o c fits.saved names.saved fits.operation names.operation fits.holds names.holds in
      ap (λ m. m.arcs.inner) same ∙ ap (λ (files : Files). files.inner) names.files_are ∙ is
      ∙ ap (λ (files : Files). files.ends) (sym names.files_are) ∙ ap (λ m. m.arcs.ends) (sym same));
}

module _ {O : Type 0} (rule : O → Rule) (begins : O → Tuple → Tuple) where
  -- a table's task, with as many tuples as may be met
  abbrev padded : (s : TopDownSweep O) (world : World) (job : TableWork) → MakesWithin rule begins s world job → List Tuple
  padded s world job w = w.tuples ++ replicate (job.tuples - length w.tuples) w.makes.task.roots

  padded_many : (s : TopDownSweep O) (world : World) (job : TableWork) (w : MakesWithin rule begins s world job)
      → length (padded s world job w) ≡ job.tuples
  padded_many s world job w =
      let more = length-replicate (job.tuples - length w.tuples) w.makes.task.roots in
      let all = length-append w.tuples (replicate (job.tuples - length w.tuples) w.makes.task.roots) in
      let few = w.few in
      omega (arith, more, all, few)

  abbrev padded_work : (s : TopDownSweep O) (world : World) (job : TableWork) → MakesWithin rule begins s world job → Work
  padded_work s world job w = record {
    task = w.makes.task;
    tuples = padded s world job w;
    all_met = λ x met. has_left x w.tuples _ (w.all_met x met);
  }

  -- what is kept of each task is kept of each table
  pub keeps_tables : (told : Type 0) (p q : TopDownSweep O) (old new : World)
      → (told → (w : Work) → Remains rule begins p old w.task → Remains rule begins q new w.task)
      → told → (job : TableWork) → MakesWithin rule begins p old job → MakesWithin rule begins q new job
  keeps_tables told p q old new keeps is job within = record {
    makes = record {
      task = within.makes.task;
      variables_are = within.makes.variables_are;
      table_is = within.makes.table_is;
      remains = keeps is (padded_work p old job within) within.makes.remains;
    };
    tuples = within.tuples;
    all_met = within.all_met;
    few = within.few;
  }

  -- no more turns remain of it
  pub left_tables : (told : Type 0) (p q : TopDownSweep O) (old new : World)
      → (told → (w : Work) → Remains rule begins p old w.task → left_of q new w ≤ left_of p old w)
      → told → (job : TableWork) → MakesWithin rule begins p old job → turns_of q new job ≤ turns_of p old job
  left_tables told p q old new left is job within =
      subst (λ k. turns_left q.machine new k ≤ turns_left p.machine old k) (padded_many p old job within)
      (left is (padded_work p old job within) within.makes.remains)

  -- a checkpoint stands for it
  pub stands_tables : {Task : Type 0} (top : Saving Task Work) (c : Checkpoint) (text : List ℕ) (r : FileNo → List ℕ)
      (told : Type 0) (p q : TopDownSweep O) (old new : World)
      → (told → (w : Work) → Remains rule begins p old w.task → top.stands c text r w (left_of q new w))
      → told → (job : TableWork) → MakesWithin rule begins p old job → StandsFor top c text r job (turns_of q new job)
  stands_tables top c text r told p q old new stands is job within =
      let many = padded_many p old job within in
      let work : Work = padded_work p old job within in
      record {
        work = work;
        variables_are = within.makes.variables_are;
        table_is = within.makes.table_is;
        many = many;
        stands = subst (λ k. top.stands c text r work (turns_left q.machine new k)) many
            (stands is work within.makes.remains);
      }

  -- what is so where something remains of a task is so where a table remains to be made
  pub where_tables : {A : Type 0} (told : Type 0) (p : TopDownSweep O) (old : World)
      → (told → (w : Work) → Remains rule begins p old w.task → A)
      → told → (job : TableWork) → MakesWithin rule begins p old job → A
  where_tables told p old so is job within = so is (padded_work p old job within) within.makes.remains

  -- it is what it was while the files that it uses stay
  pub still_tables : (steps trusts : World → Type 0) (q : TopDownSweep O) (old new : World)
      → IsStill steps trusts (λ world (w : Work). Remains rule begins q world w.task) (left_of q) old new
      → IsStill steps trusts (λ world job. MakesWithin rule begins q world job) (λ world job. turns_of q world job) old new
  still_tables steps trusts q old new still = record {
    steps = still.steps;
    trusted = still.trusted;
    keeps = keeps_tables Unit q q old new (λ is. still.keeps) tt;
    fewer = left_tables Unit q q old new (λ is. still.fewer) tt;
  }

  -- what a checkpoint stood for remains of a sweep that is rebuilt
  pub rebuilt_tables : {Task : Type 0} (top : Saving Task Work) (c : Checkpoint) (text : List ℕ) (r : FileNo → List ℕ)
      (told : Type 0) (q : TopDownSweep O) (new : World)
      → (told → (w : Work) (turns : ℕ) → top.stands c text r w turns
      → Remains rule begins q new w.task × (left_of q new w ≤ turns))
      → told → (job : TableWork) (turns : ℕ) → StandsFor top c text r job turns
      → MakesWithin rule begins q new job × (turns_of q new job ≤ turns)
  rebuilt_tables top c text r told q new remains is job turns s =
      let (here, few) = remains is s.work turns s.stands in
      let many = s.many in (
        record {
          makes = record {
            task = s.work.task;
            variables_are = s.variables_are;
            table_is = s.table_is;
            remains = here;
          };
          tuples = s.work.tuples;
          all_met = s.work.all_met;
          few = omega (arith, many);
        },
        subst (λ k. turns_left q.machine new k ≤ turns) many few,
      )

  pub undamaged_stands : {Task : Type 0} (top : Saving Task Work) (c : Checkpoint) (text : List ℕ) (r : FileNo → List ℕ)
      (told : Type 0) (e : SortFault)
      → (told → (w : Work) (turns : ℕ) → top.stands c text r w turns → IsNoDamage e)
      → told → (job : TableWork) (turns : ℕ) → StandsFor top c text r job turns → IsNoDamage e
  undamaged_stands top c text r told e none is job turns s = none is s.work turns s.stands
