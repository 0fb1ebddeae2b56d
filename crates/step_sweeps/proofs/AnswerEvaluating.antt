-- An evaluation that is begun, anew or from the step's last checkpoint, and the question that its sweeps answer.
use Rattle.std.proofs.Common.{◌≡◌, ◌≢◌, ◌⊎◌, ◌∙◌, ℕ, ◌+◌, ◌/◌, ◌^◌, ◌<◌, ◌≤◌, Bool, List, ap, sym, subst, refl, inl, inr, arith}
use Rattle.std.specs.Prelude.{IsTrue, Some, None, Result, Ok, Err, IfOk, IfErr}
use Rattle.bool_tables.specs.declared.steps.Step.TheVariants.{Eval}
use Rattle.shelf_model.specs.declared.file_no.FileNo.{FileNo}
use Rattle.shelf_model.specs.declared.sort_fault.SortFault.{SortFault}
use Rattle.shelf_model.specs.declared.sort_fault.SortFault.TheVariants.{Shelf, Damaged, RunsSpent}
use Rattle.shelf_model.specs.Calls.{Told}
use Rattle.shelf_model.specs.Faults.{Faults}
use Rattle.shelf_model.specs.Moments.{Ran, Stays}
use Rattle.shelf_model.specs.World.{World, now, file}
use Rattle.shelf_model.proofs.Numbers.{cases_file}
use Rattle.shelf_model.proofs.Runs.{told}
use Rattle.block_stream.specs.Reads.{Looked}
use Rattle.node_file.specs.Canonical.{IsCanonicalFile}
use Rattle.node_file.specs.Readers.{file_of, trailer_of}
use Rattle.node_reading.specs.Reading.{count_of, IsTrailerFault, IsFaultOf}
use Rattle.run_tiers.specs.Faults.{OnlySortShelf}
use Rattle.run_tiers.specs.Syncs.{IsFirm}
use Rattle.sweep_checkpoint.specs.declared.going.Going.{Going}
use Rattle.sweep_core.specs.declared.checkpoint.Checkpoint.{Checkpoint}
use Rattle.sweep_core.specs.Carries.{OnlyCutBehind}
use Rattle.sweep_core.specs.Saving.{reads_of}
use Rattle.sweep_core.specs.Sweeps.{IsNoDamage}
use Rattle.restrict_eval.specs.declared.eval.EvalSweep.{EvalSweep}
use Rattle.restrict_eval.specs.contracts.eval.EvalSweepSweep.TheImpl as sweeps
use Rattle.restrict_eval.specs.Eval.{Evaluated, OneTable, parts_of, task_of, turns_left, IsReady, IsInStep, HasCome, RemainsOf, IsDamage}
use Rattle.restrict_eval.specs.EvalResumes.{Evaluates, Names, RestsOn, StandsFor, Blames, one_evaluation, apart}
use Rattle.step_going.specs.Found.{IsComeTo}
use Rattle.step_going.specs.Standing.{IsLocal, IsStanding, StandsIn}
use Rattle.resumable.specs.Answers.{evaluation_of, one_table, no_parts, EvaluationGoesOn, evaluation_rests}
use Rattle.resumable.specs.Points.{EvaluatesFrom}
use Rattle.resumable.proofs.AnswerPoints.{evaluation_local, evaluates_from}
use Rattle.step_sweeps.specs.Answers.{IsAsked, Answers, evaluating}
use Rattle.step_sweeps.specs.Begun.{Begun}
use Rattle.step_sweeps.specs.Damage.{IsReadFault, MissesNamed}
use Rattle.step_sweeps.specs.Going.{MayGoOn, next_of, rest_calls}
use Rattle.step_sweeps.specs.Points.{IsOfEvaluation}
use Rattle.step_sweeps.proofs.AnswerQuiet.{refuses_foreign, Unchanged, stays_unchanged, refuses, quiet_images, quiet_content, OnlyReads, begun_reading, rebuilt_unchanged}
use Rattle.step_sweeps.proofs.AnswerRuns.{IsAnsweredBy}
use Rattle.step_sweeps.proofs.AnswersFaults.{eval_fault}
use Rattle.step_sweeps.proofs.AnswersRuns.{one_within}
use Rattle.step_sweeps.proofs.Running.{not_spent}

-- a fault of the file's trailer is one of the evaluation
trailer_fault : (n : ℕ) (f : FileNo) (world : World) (e : SortFault) → IsTrailerFault f n world e
    → IsReadFault MissesNamed n f f world e
trailer_fault n f world Shelf fault = tt
trailer_fault n f world (Damaged g at) fault = inl (fault.0, inl fault)
trailer_fault n f world RunsSpent fault = fault

-- a checkpoint of the evaluation of a file rests on all of it, and on no other file
evaluated_file : (c : Checkpoint) (n : ℕ) (read f : FileNo) (at : ℕ) → Evaluates c n read at
    → ((m : ℕ) → RestsOn c f m) ⊎ (¬ (RestsOn c f 0))
evaluated_file c n read f at names = elim (cases_file f names.saved.unread.file) [
  | inl same ↦ inl (λ m. record { saved = names.saved; holds = names.holds; read = same })
  | inr other ↦ inr (λ on.
      let one = one_evaluation c on.saved names.saved on.holds names.holds in
      other (on.read ∙ (λ i. (one i).unread.file)))
]

-- what a start says
pub record Starts {S : Type 0} (tells : S → Bool) (world : S → World) (counts : S → Faults) (n : ℕ) (read : FileNo)
    (text : List ℕ) (place number : ℕ) (before after : S) (result : Result EvalSweep SortFault) : Type 0 where
  pub ready : IfOk result IsReady
  pub in_step : IfOk result (λ s. IsTrue (tells after) → IsInStep s (world after))
  pub trusts : IfOk result (λ s. IsTrue (tells after) → HasCome s (world after))
  pub file_is : IfOk result (λ s. file_of s.nodes ≡ read)
  pub variables : IfOk result (λ s. (trailer_of s.nodes).n ≡ n)
  pub bits : IfOk result (λ s. (s.text.now ≡ text) × (s.at ≡ place))
  pub parts : IfOk result (λ s. parts_of s ≡ no_parts number)
  pub left_is : IfOk result (λ s. IsTrue (tells after) → turns_left s ≡ count_of (file (world before) read).bytes + 1)
  pub remains : IfOk result (λ s. IsTrue (tells after) → (t : List Bool) → IsCanonicalFile n t read (world before)
      → RemainsOf s (world after) (one_table n t))
  pub damage : IfErr result (λ e. IsTrue (tells after) → IsTrailerFault read n (world before) e)
  pub undamaged : IfErr result (λ e. IsTrue (tells after) → (t : List Bool) → IsCanonicalFile n t read (world before)
      → IsNoDamage e)
  pub content : Told tells before after (Looked 2 (world before) (world after))
  pub faults : OnlySortShelf (counts before) (counts after) result
  pub refused : IfErr result (IsFaultOf read)

-- what a rebuild says
pub record Rebuilds {S : Type 0} (tells : S → Bool) (world : S → World) (counts : S → Faults) (c : Checkpoint)
    (text : List ℕ) (before after : S) (result : Result EvalSweep SortFault) : Type 0 where
  pub ready : IfOk result IsReady
  pub in_step : IfOk result (λ s. IsTrue (tells after) → IsInStep s (world after))
  pub names : IfOk result (λ s. Names c (task_of s))
  pub reads : IfOk result (λ s. s.text.now ≡ text)
  pub remains : IfOk result (λ s. IsTrue (tells after) → (d : OneTable) (turns : ℕ)
      → StandsFor c text (reads_of (world before)) d turns → RemainsOf s (world after) d × (turns_left s ≤ turns))
  pub damage : IfErr result (λ e. IsTrue (tells after) → Blames c (world before) e)
  pub undamaged : IfErr result (λ e. IsTrue (tells after) → (d : OneTable) (turns : ℕ)
      → StandsFor c text (reads_of (world before)) d turns → IsNoDamage e)
  pub content : Told tells before after (Ran (OnlyCutBehind c (RestsOn c) (now (world before))) (world before)
      (world after))
  pub calls : IsTrue (tells after) → (task : Evaluated) → Names c task → (world after).clock ≤ (world before).clock
      + 2 ^ 20 + count_of (reads_of (world before) task.file) / 8
  pub faults : OnlySortShelf (counts before) (counts after) result

module _ {S : Type 0} (tells : S → Bool) (world : S → World) (counts : S → Faults) (n : ℕ) (read : FileNo)
    (text : List ℕ) (place : ℕ) (going : Going) (may : MayGoOn going) (earlier : read.step < going.step)
    (before after : S) where
  abbrev Goes : List Bool → (FileNo → List ℕ) → Type 0
  Goes t = EvaluationGoesOn n read text place going.step t

  local : (t : List Bool) → IsLocal (Goes t) evaluation_rests going.step
  local t = evaluation_local n read text place going.step t

  abbrev Begins : EvalSweep → Type 0
  Begins = Begun tells world counts sweeps.ghosts (evaluating n read text place) (one_table n)
      (evaluation_of n read text place going.step) going before after

  abbrev IsRefused : SortFault → Type 0
  IsRefused e = Answers tells world counts (evaluating n read text place) going before after (Err e)

  -- an evaluation makes nothing, takes nothing, and reads a file of an earlier step
  only_reads : (s : EvalSweep) → task_of s ≡ evaluation_of n read text place going.step
      → OnlyReads tells world counts sweeps.ghosts (evaluating n read text place) (one_table n)
      (evaluation_of n read text place going.step) going may local before after s
  only_reads s task_is = record {
    task_is = task_is;
    none_made = λ f none. none;
    step_is = ap (λ (t : Evaluated). t.parts.step) task_is;
    next_is = ap (λ (t : Evaluated). t.parts.next) task_is;
    none_owed = refl;
    earlier = λ f is. subst (λ (g : FileNo). g.step < going.step)
        (sym (is ∙ ap (λ (t : Evaluated). t.file) task_is)) earlier;
  }

  -- which is sure
  operand_firm : (s : EvalSweep) → task_of s ≡ evaluation_of n read text place going.step → (t : List Bool)
      → IsAsked (evaluating n read text place) going (world before) t → (f : FileNo) → f ≡ (task_of s).file
      → IsFirm (file (world before) f)
  operand_firm s task_is t asked f is = subst (λ h. IsFirm (file (world before) h))
      (sym (is ∙ ap (λ (x : Evaluated). x.file) task_is)) asked.given.firm

  -- anew
  module _ (none : going.last ≡ None) (result : Result EvalSweep SortFault)
      (starts : Starts tells world counts n read text place going.step before after result) where
    come_to : (going.turns ≡ 0) × (going.sweep ≡ 0)
    come_to = subst (λ l. IsComeTo l going) none may.going_of.come_to

    start_quiet : Told tells before after (Unchanged (world before) (world after))
    start_quiet = told tells before after _ _ starts.content
        (λ _ looked. stays_unchanged (world before) (world after) looked.run)

    start_calls : IsTrue (tells after) → (world after).clock ≤ (world before).clock
        + (2 + rest_calls going.last (count_of (reads_of (world before) read)))
    start_calls told_new = let few = (starts.content.did told_new).few in omega (arith, few)

  start_begun_ok : (s : EvalSweep) → going.last ≡ None
      → Starts tells world counts n read text place going.step before after (Ok s) → Begins s
  start_begun_ok s none starts =
      let task_is : task_of s ≡ evaluation_of n read text place going.step = λ i. record {
        file = starts.file_is i;
        variables = starts.variables i;
        text = starts.bits.0 i;
        at = starts.bits.1 i;
        parts = starts.parts i;
      } in
      let come = come_to none (Ok s) starts in
      begun_reading tells world counts sweeps.ghosts (evaluating n read text place) (one_table n)
      (evaluation_of n read text place going.step) going may local before after s (only_reads s task_is) (record {
        ready = starts.ready;
        in_step = starts.in_step;
        trusts = λ told_new none. starts.trusts told_new;
        first = come.1;
        none_taken = ap next_of none;
        operands = λ told_new t asked f is. operand_firm s task_is t asked f is;
        remains = λ told_new t asked. starts.remains told_new t asked.given.canonical;
        few = λ told_new t asked.
            let few = one_within n (Eval 0 place) t (turns_left s) (file (world before) read).bytes
            asked.given.canonical.bytes_are (starts.left_is told_new) in
            let turns : going.turns ≡ 0 = come.0 in
            omega (arith, few, turns);
        quiet = start_quiet none (Ok s) starts;
        calls = start_calls none (Ok s) starts;
        faults = starts.faults;
      })

  pub start_begun : (result : Result EvalSweep SortFault) → going.last ≡ None
      → Starts tells world counts n read text place going.step before after result → IfOk result Begins
  start_begun (Ok s) none starts = start_begun_ok s none starts
  start_begun (Err e) none starts = tt

  pub start_refused : (result : Result EvalSweep SortFault) → going.last ≡ None
      → Starts tells world counts n read text place going.step before after result → IfErr result IsRefused
  start_refused (Ok s) none starts = tt
  start_refused (Err e) none starts =
      let quiet = start_quiet none (Err e) starts in
      refuses tells world counts (evaluating n read text place) going local before after (Err e) (record {
        undamaged = λ told_new t asked. starts.undamaged told_new t asked.given.canonical;
        kind = λ told_new. not_spent (IsFaultOf read) e (λ spent. spent) starts.refused;
        damaged = λ told_new none gate. trailer_fault n read (world before) e (starts.damage told_new);
        images = quiet_images tells world counts (evaluating n read text place) going local before after quiet;
        content = quiet_content tells world counts (evaluating n read text place) going local before after quiet;
        calls = start_calls none (Err e) starts;
        soon = omega arith;
        faults = starts.faults;
      })

  -- from the step's last checkpoint
  module _ (c : Checkpoint) (last : going.last ≡ Some c) where
    come_from : IsComeTo (Some c) going
    come_from = subst (λ l. IsComeTo l going) last may.going_of.come_to

    not_none : ¬ (going.last ≡ None)
    not_none none = absurd (cc)

    -- one with which the step stands is of this evaluation
    from_point : (t : List Bool) → IsAsked (evaluating n read text place) going (world before) t
        → EvaluatesFrom n read text place going.step t (reads_of (world before)) c
    from_point t asked =
        let stands : StandsIn (Goes t) evaluation_rests going.step c.next_part (now (world before)).folder c =
        subst (λ l. IsStanding (Goes t) evaluation_rests going.step (next_of l) (now (world before)).folder l)
        last asked.standing in
        evaluates_from n read text place going.step t (reads_of (world before)) c stands.last stands.goes_on

    is_ours : (t : List Bool) → IsAsked (evaluating n read text place) going (world before) t
        → IsOfEvaluation c n read text place
    is_ours t asked =
        let from = (from_point t asked).goes in
        let names = from.names in
        record {
          evaluates = record {
            saved = names.saved;
            holds = names.holds;
            variables_are = names.variables_are;
            file_is = names.file_is;
            at_is = names.at_is;
          };
          none_taken = names.next_is;
          first_sweep = from.sweep_is;
          fits = from.fits;
        }

    pub foreign_refused : (e : SortFault) → ¬ (IsOfEvaluation c n read text place) → e ≢ RunsSpent
        → Told tells before after (Ran (Stays (now (world before))) (world before) (world after))
        → (IsTrue (tells after) → (world after).clock ≤ (world before).clock + 1)
        → OnlySortShelf {T = Unit} (counts before) (counts after) (Err e) → IsRefused e
    foreign_refused e foreign kind content calls faults =
        refuses_foreign tells world counts (evaluating n read text place) going local before after c last (omega arith, omega arith)
        e (λ t asked. foreign (is_ours t asked)) kind content calls faults

    -- and then it is rebuilt
    module _ (ours : IsOfEvaluation c n read text place) (result : Result EvalSweep SortFault)
        (rebuilds : Rebuilds tells world counts c text before after result) where
      rebuild_quiet : Told tells before after (Unchanged (world before) (world after))
      rebuild_quiet = told tells before after _ _ rebuilds.content
          (λ _ ran. rebuilt_unchanged c (RestsOn c) (world before) (world after)
          (λ f. evaluated_file c n read f place ours.evaluates) ran)

      rebuild_calls : IsTrue (tells after) → (world after).clock ≤ (world before).clock
          + (2 + rest_calls going.last (count_of (reads_of (world before) read)))
      rebuild_calls told_new =
          let task : Evaluated = record (evaluation_of n read text place c.step) {
            parts = record { step = c.step; next = c.next_part };
          } in
          let few = rebuilds.calls told_new task (record {
            saved = ours.evaluates.saved;
            holds = ours.evaluates.holds;
            file_is = ours.evaluates.file_is;
            variables_are = ours.evaluates.variables_are;
            at_is = ours.evaluates.at_is;
            step_is = refl;
            next_is = refl;
          }) in
          subst (λ l. (world after).clock ≤ (world before).clock + (2 + rest_calls l
          (count_of (reads_of (world before) read)))) (sym last) (omega (arith, few))

    rebuild_task : IsOfEvaluation c n read text place → (s : EvalSweep) → Names c (task_of s) → s.text.now ≡ text
        → task_of s ≡ evaluation_of n read text place going.step
    rebuild_task ours s names reads =
        let one = one_evaluation c names.saved ours.evaluates.saved names.holds ours.evaluates.holds in
        let step_is : c.step ≡ going.step = come_from.2.step_is in
        λ i. record {
          file = (sym names.file_is ∙ (λ j. (one j).unread.file) ∙ ours.evaluates.file_is) i;
          variables = (sym names.variables_are ∙ (λ j. (one j).n) ∙ ours.evaluates.variables_are) i;
          text = reads i;
          at = (sym names.at_is ∙ (λ j. (one j).at) ∙ ours.evaluates.at_is) i;
          parts = record { step = (sym names.step_is ∙ step_is) i; next = (sym names.next_is ∙ ours.none_taken) i };
        }

    rebuild_begun_ok : IsOfEvaluation c n read text place → (s : EvalSweep)
        → Rebuilds tells world counts c text before after (Ok s) → Begins s
    rebuild_begun_ok ours s rebuilds =
        let task_is = rebuild_task ours s rebuilds.names rebuilds.reads in
        begun_reading tells world counts sweeps.ghosts (evaluating n read text place) (one_table n)
        (evaluation_of n read text place going.step) going may local before after s (only_reads s task_is) (record {
          ready = rebuilds.ready;
          in_step = rebuilds.in_step;
          trusts = λ told_new none. absurd (not_none none);
          first = come_from.1 ∙ ours.first_sweep;
          none_taken = ap next_of last ∙ ours.none_taken;
          operands = λ told_new t asked f is. operand_firm s task_is t asked f is;
          remains = λ told_new t asked.
              let from = from_point t asked in
              (rebuilds.remains told_new (one_table n t) from.goes.left from.goes.stands).0;
          few = λ told_new t asked.
              let from = from_point t asked in
              let less = (rebuilds.remains told_new (one_table n t) from.goes.left from.goes.stands).1 in
              let few = from.few in
              let turns : going.turns ≡ c.turns = come_from.0 in
              omega (arith, less, few, turns);
          quiet = rebuild_quiet ours (Ok s) rebuilds;
          calls = rebuild_calls ours (Ok s) rebuilds;
          faults = rebuilds.faults;
        })

    pub rebuild_begun : (result : Result EvalSweep SortFault) → IsOfEvaluation c n read text place
        → Rebuilds tells world counts c text before after result → IfOk result Begins
    rebuild_begun (Ok s) ours rebuilds = rebuild_begun_ok ours s rebuilds
    rebuild_begun (Err e) ours rebuilds = tt

    pub rebuild_refused : (result : Result EvalSweep SortFault) → IsOfEvaluation c n read text place
        → Rebuilds tells world counts c text before after result → IfErr result IsRefused
    rebuild_refused (Ok s) ours rebuilds = tt
    rebuild_refused (Err e) ours rebuilds =
        let quiet = rebuild_quiet ours (Err e) rebuilds in
        refuses tells world counts (evaluating n read text place) going local before after (Err e) (record {
          undamaged = λ told_new t asked.
              let from = (from_point t asked).goes in
              rebuilds.undamaged told_new (one_table n t) from.left from.stands;
          kind = λ told_new. not_spent (Blames c (world before)) e
              (λ spent. elim spent.cause [ inl fault ↦ fault | inr fault ↦ fault ]) (rebuilds.damage told_new);
          damaged = λ told_new none gate. absurd (not_none none);
          images = quiet_images tells world counts (evaluating n read text place) going local before after quiet;
          content = quiet_content tells world counts (evaluating n read text place) going local before after quiet;
          calls = rebuild_calls ours (Err e) rebuilds;
          soon = omega arith;
          faults = rebuilds.faults;
        })

-- the sweeps of the kind answer the question
pub evaluated_by : (n : ℕ) (read : FileNo) (text : List ℕ) (place number : ℕ)
    → IsAnsweredBy sweeps.ghosts (evaluating n read text place) (one_table n) (evaluation_of n read text place number)
    number
evaluated_by n read text place number = record {
  local = λ t. evaluation_local n read text place number t;
  goes_on = λ t turns r few goes. record { turns = turns; goes_on = goes; few = few };
  rests = λ c f n on. on;
  apart = apart;
  soon = omega arith;
}

-- a fault that is no damage, and not for want of a part number
quiet_fault : (n : ℕ) (read : FileNo) (world : World) (e : SortFault) → e ≢ RunsSpent → IsNoDamage e
    → IsReadFault MissesNamed n read read world e
quiet_fault n read world Shelf kind none = tt
quiet_fault n read world (Damaged f at) kind none = absurd none
quiet_fault n read world RunsSpent kind none = absurd (kind refl)

-- a turn finds the file damaged, which was so at first
pub evaluated_fault : (n : ℕ) (read : FileNo) (text : List ℕ) (place number : ℕ) (t : EvalSweep) (new old : World)
    (e : SortFault) → task_of t ≡ evaluation_of n read text place number → file new read ≡ file old read
    → e ≢ RunsSpent → IsDamage t new e ⊎ IsNoDamage e → IsReadFault MissesNamed n read read old e
evaluated_fault n read text place number t new old e task_is here kind (inl damage) =
    eval_fault n read t new old e (ap (λ (x : Evaluated). x.file) task_is) (ap (λ (x : Evaluated). x.variables) task_is)
    here damage
evaluated_fault n read text place number t new old e task_is here kind (inr none) = quiet_fault n read old e kind none
