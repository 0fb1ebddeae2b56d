-- The runs of steps that answer by reading diagrams, from what the sweeps say.
use Rattle.std.proofs.Common.{◌≡◌, ◌∙◌, ℕ, ◌+◌, ◌*◌, ◌/◌, ◌^◌, ◌<◌, ◌≤◌, Bool, true, false, nat_le, nat_lt, List, [], ◌∷◌, length, take, drop, refl, sym, ap, subst, inl, inr, arith}
use Rattle.std.specs.Prelude.{IsTrue, Result, Ok, Err}
use Rattle.std.specs.List.{list_all}
use Rattle.std.proofs.lemmas.Bool.{and_parts, leb-true}
use Rattle.bool_tables.specs.declared.steps.Step.{Step}
use Rattle.bool_tables.specs.declared.steps.Step.TheVariants.{Same, Leq, Eval}
use Rattle.bool_tables.specs.declared.steps.Planned.{Planned}
use Rattle.bool_tables.specs.Plans.{is_bit, has_bits, operands, makes_diagram}
use Rattle.bool_tables.specs.Steps.{eval_at}
use Rattle.shelf_model.specs.declared.file_no.FileNo.{FileNo}
use Rattle.shelf_model.specs.declared.sort_fault.SortFault.{SortFault}
use Rattle.shelf_model.specs.declared.sort_fault.SortFault.TheVariants as sort
use Rattle.shelf_model.specs.Faults.{Faults}
use Rattle.shelf_model.specs.File.{File}
use Rattle.shelf_model.specs.Folder.{AreFiles}
use Rattle.shelf_model.specs.Moments.{OnlyChanged}
use Rattle.shelf_model.specs.World.{World, now}
use Rattle.shelf_model.proofs.Changing.{told_changed_more}
use Rattle.shelf_model.proofs.Runs.{ran_end}
use Rattle.catalogue.specs.declared.layout.Entry.{Entry}
use Rattle.run_tiers.proofs.FaultLaws.{sort_shelf_on, sort_shelf_then}
use Rattle.step_work.specs.Tuples.{sweeps}
use Rattle.sweep_core.specs.Accounts.{NoneFilled}
use Rattle.sweep_core.specs.Saving.{reads_of}
use Rattle.sweep_checkpoint.specs.Stops.{shown_by, StopsCost}
use Rattle.sweep_checkpoint.specs.declared.going.Going.{Going}
use Rattle.resumable.specs.Answers.{ComparisonGoesOn, EvaluationGoesOn, ImplicationGoesOn}
use Rattle.resumable.specs.Kinds.{StepGoesOn, RestsOn}
use Rattle.sound_image.specs.Files.{node_file}
use Rattle.sound_image.specs.Jobs.{Job, step_at, table_at}
use Rattle.sound_image.specs.Entries as entries
use Rattle.sound_image.specs.Entries.{IsEntryOfStep, kind_of, answer_of, bit_of, work_of}
use Rattle.sound_image.specs.Holds.{Holds}
use Rattle.step_sweeps.specs.declared.answers.Answered.{Answered}
use Rattle.step_sweeps.specs.Answers.{Question, IsAsked, Answers, IsBehindNodes, comparing, implying, evaluating}
use Rattle.step_sweeps.specs.Damage.{IsReadFault, IsImplicationFault, MissesNone, MissesNamed}
use Rattle.step_sweeps.specs.Going.{rest_calls}
use Rattle.step_sweeps.specs.Made.{IsCounted}
use Rattle.step_sweeps.specs.Stops.{step_stop}
use Rattle.step_engine.specs.declared.entries.Spent.{Spent}
use Rattle.step_engine.specs.Finding.{JobGoesOn, JobRests, FindsGoing}
use Rattle.step_engine.specs.Simple.{reads, MayRun, IsStepOf}
use Rattle.step_engine.specs.StepEntries.{answer_entry}
use Rattle.step_engine.specs.StepFaults.{IsReadingFault, IsStepFault, IsOfKind}
use Rattle.step_engine.specs.Running.{nodes_read, RunsStep}
use Rattle.step_engine.proofs.EntryLaws.{IsSpent, for_nameless, nameless_entry_is, bit_says}
use Rattle.step_engine.proofs.Operands.{held_diagrams, two_given, one_given, work_given}
use Rattle.step_engine.proofs.RunFaults.{faults_ok, fault_before, refused_then, gate_as}
use Rattle.step_engine.proofs.Runs.{first_below, more_below, sound_fault, refused_runs, ended_runs, taken_then}
use Rattle.step_engine.proofs.Went.{stands_as, safe_as, IsSet, Went, Swept, set_found, same_diagrams, same_gate, pays_for, parts_for, ends_for, went_then}

-- what is known of a step that asks such a question
pub record AsksFor {Given : Type 0} (q : Question Given) (n number : ℕ) (step : Step) : Type 0 where
  pub sweeps_is : sweeps step ≡ true
  pub kind_is : kind_of step ≡ 3
  pub no_diagram : makes_diagram step ≡ false
  pub counts : (job : Job) → entries.count_of job number step ≡ 0
  pub reads_is : reads step ≡ true
  pub few : q.some ≤ 11
  pub nodes : (r : FileNo → List ℕ) → q.nodes r ≤ nodes_read step r
  pub fault : (world : World) (e : SortFault) → q.is_fault world e → IsStepFault n step world e

-- the tables of which a job's step asks it, in whose words the step goes on: its answer is the step's, and its work
pub record AsksOf {Given : Type 0} (q : Question Given) (job : Job) (number : ℕ) (step : Step) (world : World) : Type 1 where
  pub tables : Given
  pub given : q.are_given world tables
  pub goes_is : JobGoesOn job number ≡ q.goes_on number tables
  pub rests_is : JobRests job number ≡ q.rests
  pub work_is : q.work tables ≡ work_of job step
  pub answer_is : answer_of job step ≡ bit_of (q.answer tables)

-- what an answer took
abbrev pub spent_on : Answered → Spent
spent_on a = record { turns = a.turns; parts = a.next }

module _ {S Given : Type 0} (tells : S → Bool) (world : S → World) (counts : S → Faults) (n : ℕ) (text : List ℕ) (number : ℕ) (p : Planned)
    (q : Question Given) (asks : AsksFor q n number p.step) (may : MayRun n text number p)
    (files_are : (s : S) → IsTrue (tells s) → AreFiles (now (world s)).folder) (before mid after : S) (going : Going)
    (found : FindsGoing tells world counts number before mid (Ok going))
    (asked : (job : Job) → IsStepOf job n text number p → Holds job number (now (world mid)).folder → AsksOf q job number p.step (world mid)) where
  step_is : going.step ≡ number
  step_is = found.going.0

  -- the question of the job's tables, where the step is set
  record IsAskedAs (job : Job) : Type 1 where
    of : AsksOf q job number p.step (world mid)
    goes_is : JobGoesOn job number ≡ q.goes_on going.step of.tables
    asked_of : IsAsked q going (world mid) of.tables

  asked_as : (job : Job) → IsSet job n text number p going.last (now (world mid)).folder → IsAskedAs job
  asked_as job set =
      let of : AsksOf q job number p.step (world mid) = asked job set.is set.holds in
      let goes_is : JobGoesOn job number ≡ q.goes_on going.step of.tables =
      of.goes_is ∙ (λ i. q.goes_on (sym step_is i) of.tables) in
      record {
        of = of;
        goes_is = goes_is;
        asked_of = record {
          given = of.given;
          standing = stands_as job number going.step _ q.rests goes_is of.rests_is (sym step_is) going.last (now (world mid)).folder set.stands;
        };
      }

  module _ (result : Result Answered SortFault) (said : Answers tells world counts q going mid after result) where
    swept_by : Swept tells world counts n text number p going.last q.some q.nodes mid after
    swept_by = record {
      content = told_changed_more tells world (IsBehindNodes going.step) (λ f. f.step ≡ number) mid after (λ f own. own.step_is ∙ step_is) said.content;
      safe = λ told job set.
          let its = asked_as job set in
          safe_as job number going.step _ its.goes_is (sym step_is) (world mid) (world after) (said.images told its.of.tables its.asked_of);
      few_calls = λ told job set.
          let its = asked_as job set in
          subst (λ w. (world after).clock ≤ (world mid).clock + (229 * w + q.some + rest_calls going.last (q.nodes (reads_of (world mid)))))
          its.of.work_is (said.few_calls told its.of.tables its.asked_of);
      stops = λ told job set small.
          let its = asked_as job set in
          subst (λ k. StopsCost k (shown_by going.last)
          ((world mid).clock + (step_stop + rest_calls going.last (q.nodes (reads_of (world mid))))) (world mid) (world after))
          step_is (said.stops told its.of.tables its.asked_of (subst (λ w. w < 2 ^ 61) (sym its.of.work_is) small));
    }

    went : Went tells world counts n text number p before after
    went = went_then tells world counts n text number p files_are asks.sweeps_is before mid after going found q.some q.nodes asks.few asks.nodes swept_by

    set_in : IsTrue (tells after) → (job : Job) → IsStepOf job n text number p → Holds job number (now (world before)).folder
        → IsSet job n text number p going.last (now (world mid)).folder
    set_in told job is holds =
        set_found tells world counts n text number p files_are asks.sweeps_is before mid after going found q.some q.nodes asks.few asks.nodes
        (said.content.before told) job is holds

  -- a question that is refused
  pub question_refused : (e : SortFault) → Answers tells world counts q going mid after (Err e) → IsOfKind p.step e
      → RunsStep tells world counts n text number p before after (Err e)
  question_refused e said kind =
      refused_runs tells world counts n text number p asks.sweeps_is before after (went (Err e) said) e
      (λ told job is holds.
      let its = asked_as job (set_in (Err e) said told job is holds) in
      sound_fault p.step (work_of job p.step) _ e kind its.of.work_is (said.undamaged told its.of.tables its.asked_of)
      (λ is_spent. said.spent (ap (λ f. Err f) is_spent) told its.of.tables its.asked_of))
      (λ told.
      let told_mid = said.content.before told in
      refused_then n number p.step asks.sweeps_is (world before) going.last e (found.last told_mid)
      (λ none empty.
      fault_before n (world before) (world mid) (same_diagrams tells world counts n text number p files_are asks.sweeps_is before mid after going found
      q.some q.nodes asks.few asks.nodes told_mid) p.step e asks.sweeps_is (asks.fault (world mid) e
      (said.damaged told none (gate_as step_is (world mid) (same_gate tells world counts n text number p files_are asks.sweeps_is before mid after going found
      q.some q.nodes asks.few asks.nodes told_mid ∙ empty))))))
      kind
      (sort_shelf_then (counts before) (counts mid) (counts after) (Ok going) (Err e) found.faults
      (sort_shelf_on (counts mid) (counts after) e (Err e) refl said.faults))

  -- a question that is answered
  pub question_answered : (a : Answered) (e : Entry) → e ≡ answer_entry number a.answer (spent_on a) → a.turns < 2 ^ 64
      → Answers tells world counts q going mid after (Ok a) → RunsStep tells world counts n text number p before after (Ok e)
  question_answered a e e_is few said =
      ended_runs tells world counts n text number p asks.sweeps_is before after (went (Ok a) said) e a.turns (ap (λ (x : Entry). x.turns) e_is)
      (for_nameless number 3 (bit_of a.answer) 0 (spent_on a) p e e_is may.few_steps (omega arith, omega arith) (bit_says a.answer) (omega arith)
      took asks.kind_is)
      (λ told job ready.
      let its = asked_as job (set_in (Ok a) said told job ready.step (ready.holds asks.reads_is)) in
      let answer = said.answer told its.of.tables its.asked_of in
      subst (IsEntryOfStep job number) (sym e_is)
      (nameless_entry_is job number 3 (bit_of a.answer) 0 (spent_on a) p may.few_steps ready.step.step_is asks.kind_is (omega arith, omega arith)
      (bit_says a.answer) asks.no_diagram (its.of.answer_is ∙ ap bit_of (sym answer.answer_is)) (asks.counts job) (omega arith) took
      (subst (λ w. a.turns ≤ w) its.of.work_is answer.few)))
      (λ told job ready diagram.
      absurd (let not : makes_diagram (step_at job number).step ≡ false =
      ap (λ (x : Planned). makes_diagram x.step) ready.step.step_is ∙ asks.no_diagram in cc))
      (λ told. taken_then number a.next e.parts (world before) (world mid) (world after) took.from
      (ap (λ (x : Entry). x.parts) e_is) (found.untaken (said.content.before told))
      (subst (λ k. NoneFilled k a.next (world mid) (world after)) step_is (said.untaken told)))
      (λ told not empty.
      let told_mid = said.content.before told in
      ap (λ (x : File). x.bytes)
      (ran_end (world mid) (world after) (OnlyChanged (IsBehindNodes going.step) (now (world mid))) (said.content.did told)
      (node_file number) (λ behind. let from = behind.from in absurd (omega (arith, from))))
      ∙ same_diagrams tells world counts n text number p files_are asks.sweeps_is before mid after going found q.some
      q.nodes asks.few asks.nodes told_mid number ∙ empty)
      (λ told rest pays exact.
      pays_for tells world counts n text number p files_are asks.sweeps_is before mid after going found q.some q.nodes asks.few asks.nodes
      (said.content.before told) a.turns rest pays (let called = said.calls told exact in omega (arith, called)))
      (λ told spare spares. subst (λ k. k ≤ 5 + a.turns / 16 + spare) (sym (ap (λ (x : Entry). x.parts) e_is))
      (parts_for number (reads_of (world before)) going.last a.turns a.next spare
      (found.last (said.content.before told)) spares said.few_anew took.few))
      (λ told job is holds small shown rest gone.
      let its = asked_as job (set_in (Ok a) said told job is holds) in
      let answer = said.answer told its.of.tables its.asked_of in
      let few_turns : a.turns ≤ work_of job p.step = subst (λ w. a.turns ≤ w) its.of.work_is answer.few in
      ends_for tells world counts n text number p files_are asks.sweeps_is before mid after going found q.some q.nodes asks.few asks.nodes
      (said.content.before told) job is holds a.turns shown rest gone said.grew
      (said.calls told (omega (arith, few_turns, small))))
      (sort_shelf_then (counts before) (counts mid) (counts after) (Ok going) (Ok e) found.faults
      (faults_ok (counts mid) (counts after) a e said.faults))
    where
      took : IsSpent (spent_on a)
      took =
          let counted : IsCounted a.turns a.next = said.counted in
          record { some = counted.some; turns = few; from = counted.from; parts = counted.below; few = counted.few }

-- where a diagram that is read is damaged
two_read : (Misses : List ℕ → ℕ → Type 0) (n left right : ℕ) (world : World) (e : SortFault)
    → IsReadFault Misses n (node_file left) (node_file right) world e
    → IsReadingFault Misses n (left ∷ right ∷ []) world e
two_read Misses n left right world sort.Shelf is = tt
two_read Misses n left right world (sort.Damaged f at) (inl one) = inl one
two_read Misses n left right world (sort.Damaged f at) (inr two) = inr (inl two)
two_read Misses n left right world sort.RunsSpent is = is

one_read : (Misses : List ℕ → ℕ → Type 0) (n of : ℕ) (world : World) (e : SortFault)
    → IsReadFault Misses n (node_file of) (node_file of) world e → IsReadingFault Misses n (of ∷ []) world e
one_read Misses n of world sort.Shelf is = tt
one_read Misses n of world (sort.Damaged f place) (inl one) = inl one
one_read Misses n of world (sort.Damaged f place) (inr two) = inl two
one_read Misses n of world sort.RunsSpent is = is

implied : (n left right : ℕ) (world : World) (e : SortFault)
    → IsImplicationFault MissesNamed n (node_file left) (node_file right) world e → IsStepFault n (Leq left right) world e
implied n left right world sort.Shelf is = tt
implied n left right world (sort.Damaged f at) (inl one) = inl one
implied n left right world (sort.Damaged f at) (inr two) = inr (inl two)
implied n left right world sort.RunsSpent is = tt

pub same_fault : (n left right : ℕ) (f g : FileNo) → f ≡ node_file left → g ≡ node_file right → (step : Step) → step ≡ Same left right
    → (world : World) (e : SortFault) → IsReadFault MissesNone n f g world e → IsStepFault n step world e
same_fault n left right f g f_is g_is step is world e fault =
    subst (λ s. IsStepFault n s world e) (sym is) (two_read MissesNone n left right world e
    (subst (λ v. v) (λ i. IsReadFault MissesNone n (f_is i) (g_is i) world e) fault))

pub leq_fault : (n left right : ℕ) (f g : FileNo) → f ≡ node_file left → g ≡ node_file right → (step : Step) → step ≡ Leq left right
    → (world : World) (e : SortFault) → IsImplicationFault MissesNamed n f g world e → IsStepFault n step world e
leq_fault n left right f g f_is g_is step is world e fault =
    subst (λ s. IsStepFault n s world e) (sym is) (implied n left right world e
    (subst (λ v. v) (λ i. IsImplicationFault MissesNamed n (f_is i) (g_is i) world e) fault))

pub eval_fault : (n of at : ℕ) (f : FileNo) → f ≡ node_file of → (step : Step) → step ≡ Eval of at → (world : World) (e : SortFault)
    → IsReadFault MissesNamed n f f world e → IsStepFault n step world e
eval_fault n of at f f_is step is world e fault =
    subst (λ s. IsStepFault n s world e) (sym is) (one_read MissesNamed n of world e
    (subst (λ h. IsReadFault MissesNamed n h h world e) f_is fault))

-- the bits of an evaluation stand in the text
pub bits_within : (n of at : ℕ) (text : List ℕ) (step : Step) → step ≡ Eval of at → IsTrue (has_bits n text step) → at + n ≤ length text
bits_within n of at text step is bits =
    leb-true (at + n) (length text) (and_parts (nat_le (at + n) (length text)) (list_all is_bit (take n (drop at text)))
    (subst (λ s. IsTrue (has_bits n text s)) is bits)).0

-- the value by the job's text is the value by the text
pub value_given : (job : Job) (n number of at : ℕ) (text : List ℕ) (p : Planned) → IsStepOf job n text number p
    → eval_at job.n job.text (table_at job of) at ≡ eval_at n text (table_at job of) at
value_given job n number of at text p is = λ j. eval_at (is.n_is j) (is.text_is j) (table_at job of) at

-- the files of two steps before one that is gone on with
pub earlier_two : (number left right : ℕ) (f g : FileNo) (going : Going) (step : Step) → f ≡ node_file left → g ≡ node_file right
    → operands step ≡ left ∷ right ∷ [] → going.step ≡ number → IsTrue (list_all (λ k. nat_lt k number) (operands step))
    → (f.step < going.step) × (g.step < going.step)
earlier_two number left right f g going step f_is g_is names number_is below =
    let both = subst (λ ks. IsTrue (list_all (λ k. nat_lt k number) ks)) names below in (
      subst (λ v. v) (λ i. (sym f_is i).step < sym number_is i) (first_below number left (right ∷ []) both),
      subst (λ v. v) (λ i. (sym g_is i).step < sym number_is i) (first_below number right [] (more_below number left (right ∷ []) both)),
    )

pub earlier_one : (number of : ℕ) (f : FileNo) (going : Going) (step : Step) → f ≡ node_file of → operands step ≡ of ∷ [] → going.step ≡ number
    → IsTrue (list_all (λ k. nat_lt k number) (operands step)) → f.step < going.step
earlier_one number of f going step f_is names number_is below =
    subst (λ v. v) (λ i. (sym f_is i).step < sym number_is i)
    (first_below number of [] (subst (λ ks. IsTrue (list_all (λ k. nat_lt k number) ks)) names below))

-- a comparison
module _ (n number left right : ℕ) (f g : FileNo) (f_is : f ≡ node_file left) (g_is : g ≡ node_file right) where
  pub same_asks : (step : Step) → step ≡ Same left right → AsksFor (comparing n f g) n number step
  same_asks step is = subst (AsksFor (comparing n f g) n number) (sym is) (record {
    sweeps_is = refl;
    kind_is = refl;
    no_diagram = refl;
    counts = λ job. refl;
    reads_is = refl;
    few = omega arith;
    nodes = λ r. subst (λ v. v) (λ i. (comparing n (sym f_is i) (sym g_is i)).nodes r ≤ nodes_read (Same left right) r) (omega arith);
    fault = same_fault n left right f g f_is g_is (Same left right) refl;
  })

  pub same_asked : (text : List ℕ) (p : Planned) (world : World) → p.step ≡ Same left right → (job : Job) → IsStepOf job n text number p
      → Holds job number (now world).folder → AsksOf (comparing n f g) job number p.step world
  same_asked text p world step_is job is holds =
      let found : (step_at job number).step ≡ Same left right = ap (λ (x : Planned). x.step) is.step_is ∙ step_is in
      record {
        tables = record { left = table_at job left; right = table_at job right };
        given = two_given job n number text p world (Same left right) left right f g f_is g_is step_is refl is (held_diagrams job number (now world).folder holds);
        goes_is = ap (λ s r. StepGoesOn job.n job.text job.steps number s r) found
            ∙ (λ i. ComparisonGoesOn (is.n_is i) (sym f_is i) (sym g_is i) number (table_at job left) (table_at job right));
        rests_is = ap (λ s c h many. RestsOn s c h many) found;
        work_is = work_given job n number text p (Same 0 1) (Same left right) step_is refl (λ i h x. refl) is;
        answer_is = ap (answer_of job) step_is;
      }

  -- and an implication
  pub leq_asks : (step : Step) → step ≡ Leq left right → AsksFor (implying n f g) n number step
  leq_asks step is = subst (AsksFor (implying n f g) n number) (sym is) (record {
    sweeps_is = refl;
    kind_is = refl;
    no_diagram = refl;
    counts = λ job. refl;
    reads_is = refl;
    few = omega arith;
    nodes = λ r. subst (λ v. v) (λ i. (implying n (sym f_is i) (sym g_is i)).nodes r ≤ nodes_read (Leq left right) r) (omega arith);
    fault = leq_fault n left right f g f_is g_is (Leq left right) refl;
  })

  pub leq_asked : (text : List ℕ) (p : Planned) (world : World) → p.step ≡ Leq left right → (job : Job) → IsStepOf job n text number p
      → Holds job number (now world).folder → AsksOf (implying n f g) job number p.step world
  leq_asked text p world step_is job is holds =
      let found : (step_at job number).step ≡ Leq left right = ap (λ (x : Planned). x.step) is.step_is ∙ step_is in
      record {
        tables = record { left = table_at job left; right = table_at job right };
        given = two_given job n number text p world (Leq left right) left right f g f_is g_is step_is refl is (held_diagrams job number (now world).folder holds);
        goes_is = ap (λ s r. StepGoesOn job.n job.text job.steps number s r) found
            ∙ (λ i. ImplicationGoesOn (is.n_is i) (sym f_is i) (sym g_is i) number (table_at job left) (table_at job right));
        rests_is = ap (λ s c h many. RestsOn s c h many) found;
        work_is = work_given job n number text p (Leq 0 1) (Leq left right) step_is refl (λ i h x. refl) is;
        answer_is = ap (answer_of job) step_is;
      }

-- an evaluation
module _ (n number of at : ℕ) (text : List ℕ) (f : FileNo) (f_is : f ≡ node_file of) where
  pub eval_asks : (step : Step) → step ≡ Eval of at → AsksFor (evaluating n f text at) n number step
  eval_asks step is = subst (AsksFor (evaluating n f text at) n number) (sym is) (record {
    sweeps_is = refl;
    kind_is = refl;
    no_diagram = refl;
    counts = λ job. refl;
    reads_is = refl;
    few = omega arith;
    nodes = λ r. subst (λ v. v) (λ i. (evaluating n (sym f_is i) text at).nodes r ≤ nodes_read (Eval of at) r) (omega arith);
    fault = eval_fault n of at f f_is (Eval of at) refl;
  })

  pub eval_asked : (p : Planned) (world : World) → p.step ≡ Eval of at → (job : Job) → IsStepOf job n text number p
      → Holds job number (now world).folder → AsksOf (evaluating n f text at) job number p.step world
  eval_asked p world step_is job is holds =
      let found : (step_at job number).step ≡ Eval of at = ap (λ (x : Planned). x.step) is.step_is ∙ step_is in
      record {
        tables = table_at job of;
        given = one_given job n number text p world (Eval of at) of f f_is step_is refl is (held_diagrams job number (now world).folder holds);
        goes_is = ap (λ s r. StepGoesOn job.n job.text job.steps number s r) found
            ∙ (λ i. EvaluationGoesOn (is.n_is i) (sym f_is i) (is.text_is i) at number (table_at job of));
        rests_is = ap (λ s c h many. RestsOn s c h many) found;
        work_is = work_given job n number text p (Eval 0 at) (Eval of at) step_is refl (λ i h x. refl) is;
        answer_is = ap (answer_of job) step_is ∙ ap bit_of (value_given job n number of at text p is);
      }
