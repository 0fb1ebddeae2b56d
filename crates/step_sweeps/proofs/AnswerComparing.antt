-- A comparison that is begun, anew or from the step's last checkpoint.
use Rattle.std.proofs.Common.{◌≡◌, ◌≢◌, ◌⊎◌, ◌∙◌, ℕ, ◌+◌, ◌/◌, ◌^◌, ◌<◌, ◌≤◌, Bool, List, ap, sym, subst, refl, inl, inr, arith}
use Rattle.std.specs.Prelude.{IsTrue, Some, None, Result, Ok, Err, IfOk, IfErr}
use Rattle.bool_tables.specs.declared.steps.Step.TheVariants.{Same}
use Rattle.shelf_model.specs.declared.file_no.FileNo.{FileNo}
use Rattle.shelf_model.specs.declared.sort_fault.SortFault.{SortFault}
use Rattle.shelf_model.specs.declared.sort_fault.SortFault.TheVariants.{Shelf, Damaged, RunsSpent}
use Rattle.shelf_model.specs.Calls.{Told}
use Rattle.shelf_model.specs.Faults.{Faults}
use Rattle.shelf_model.specs.Moments.{Ran, Stays}
use Rattle.shelf_model.specs.World.{World, now, file}
use Rattle.shelf_model.proofs.Numbers.{cases_file}
use Rattle.shelf_model.proofs.Runs.{told}
use Rattle.block_stream.specs.Reads.{Looked}
use Rattle.node_file.specs.Canonical.{IsCanonicalFile}
use Rattle.node_file.specs.Readers.{file_of, trailer_of}
use Rattle.node_reading.specs.Reading.{count_of, IsTrailerFault}
use Rattle.run_tiers.specs.Faults.{OnlySortShelf}
use Rattle.run_tiers.specs.Syncs.{IsFirm}
use Rattle.sweep_checkpoint.specs.declared.going.Going.{Going}
use Rattle.sweep_core.specs.declared.checkpoint.Checkpoint.{Checkpoint}
use Rattle.sweep_core.specs.Carries.{OnlyCutBehind}
use Rattle.sweep_core.specs.Saving.{reads_of}
use Rattle.sweep_core.specs.Sweeps.{IsNoDamage}
use Rattle.restrict_eval.specs.declared.same.SameSweep.{SameSweep}
use Rattle.restrict_eval.specs.contracts.same.SameSweepSweep.TheImpl as sweeps
use Rattle.restrict_eval.specs.Same.{Compared, Tables, parts_of, task_of, turns_left, IsReady, IsInStep, RemainsOf, IsDamage, IsFaultOfEither}
use Rattle.restrict_eval.specs.SameResumes.{Compares, Names, RestsOn, StandsFor, Blames, one_comparison, apart}
use Rattle.step_going.specs.Found.{IsComeTo}
use Rattle.step_going.specs.Standing.{IsLocal, IsStanding, StandsIn}
use Rattle.resumable.specs.Answers.{comparison_of, two_tables, no_parts, ComparisonGoesOn, comparison_rests}
use Rattle.resumable.specs.Points.{ComparesFrom}
use Rattle.resumable.proofs.AnswerPoints.{comparison_local, compares_from}
use Rattle.step_sweeps.specs.Answers.{TwoTables, IsAsked, Answers, comparing}
use Rattle.step_sweeps.specs.Begun.{Begun}
use Rattle.step_sweeps.specs.Damage.{IsReadFault, MissesNone}
use Rattle.step_sweeps.specs.Going.{MayGoOn, next_of, rest_calls}
use Rattle.step_sweeps.specs.Points.{IsOfComparison}
use Rattle.step_sweeps.proofs.AnswerQuiet.{refuses_foreign, Unchanged, stays_unchanged, refuses, quiet_images, quiet_content, OnlyReads, begun_reading, rebuilt_unchanged}
use Rattle.step_sweeps.proofs.AnswerRuns.{IsAnsweredBy}
use Rattle.step_sweeps.proofs.AnswersFaults.{same_fault}
use Rattle.step_sweeps.proofs.AnswersRuns.{two_within}
use Rattle.step_sweeps.proofs.Running.{not_spent}

-- a fault of either file's trailer is one of the comparison
trailer_fault : (n : ℕ) (left right : FileNo) (world : World) (e : SortFault)
    → IsTrailerFault left n world e ⊎ IsTrailerFault right n world e → IsReadFault MissesNone n left right world e
trailer_fault n left right world Shelf fault = tt
trailer_fault n left right world (Damaged f at) (inl fault) = inl (fault.0, inl fault)
trailer_fault n left right world (Damaged f at) (inr fault) = inr (fault.0, inl fault)
trailer_fault n left right world RunsSpent (inl fault) = fault
trailer_fault n left right world RunsSpent (inr fault) = fault

-- a checkpoint of the comparison of two files of an earlier step rests on all of each, and on no other file
compared_files : (c : Checkpoint) (n : ℕ) (left right f : FileNo) → Compares c n left right
    → ((m : ℕ) → RestsOn c f m) ⊎ (¬ (RestsOn c f 0))
compared_files c n left right f names = elim (cases_file f names.saved.left.file) [
  | inl first ↦ inl (λ m. record { saved = names.saved; holds = names.holds; read = inl first })
  | inr other ↦ elim (cases_file f names.saved.right.file) [
    | inl second ↦ inl (λ m. record { saved = names.saved; holds = names.holds; read = inr second })
    | inr neither ↦ inr (λ on.
        let one = one_comparison c on.saved names.saved on.holds names.holds in
        elim on.read [
          | inl first ↦ other (first ∙ (λ i. (one i).left.file))
          | inr second ↦ neither (second ∙ (λ i. (one i).right.file))
        ])
  ]
]

-- what a start says
pub record Starts {S : Type 0} (tells : S → Bool) (world : S → World) (counts : S → Faults) (n : ℕ)
    (left right : FileNo) (number : ℕ) (before after : S) (result : Result SameSweep SortFault) : Type 0 where
  pub ready : IfOk result IsReady
  pub in_step : IfOk result (λ s. IsTrue (tells after) → IsInStep s (world after))
  pub files : IfOk result (λ s. (file_of s.left ≡ left) × (file_of s.right ≡ right))
  pub variables : IfOk result (λ s. ((trailer_of s.left).n ≡ n) × ((trailer_of s.right).n ≡ n))
  pub parts : IfOk result (λ s. parts_of s ≡ no_parts number)
  pub left_is : IfOk result (λ s. IsTrue (tells after)
      → turns_left s ≡ count_of (file (world before) left).bytes + count_of (file (world before) right).bytes + 1)
  pub remains : IfOk result (λ s. IsTrue (tells after) → (t u : List Bool) → IsCanonicalFile n t left (world before)
      → IsCanonicalFile n u right (world before) → RemainsOf s (world after) (two_tables n t u))
  pub damage : IfErr result (λ e. IsTrue (tells after)
      → IsTrailerFault left n (world before) e ⊎ IsTrailerFault right n (world before) e)
  pub undamaged : IfErr result (λ e. IsTrue (tells after) → (t u : List Bool) → IsCanonicalFile n t left (world before)
      → IsCanonicalFile n u right (world before) → IsNoDamage e)
  pub content : Told tells before after (Looked 4 (world before) (world after))
  pub faults : OnlySortShelf (counts before) (counts after) result
  pub refused : IfErr result (IsFaultOfEither left right)

-- what a rebuild says
pub record Rebuilds {S : Type 0} (tells : S → Bool) (world : S → World) (counts : S → Faults) (c : Checkpoint)
    (before after : S) (result : Result SameSweep SortFault) : Type 0 where
  pub ready : IfOk result IsReady
  pub in_step : IfOk result (λ s. IsTrue (tells after) → IsInStep s (world after))
  pub names : IfOk result (λ s. Names c (task_of s))
  pub remains : IfOk result (λ s. IsTrue (tells after) → (d : Tables) (turns : ℕ)
      → StandsFor c (reads_of (world before)) d turns → RemainsOf s (world after) d × (turns_left s ≤ turns))
  pub damage : IfErr result (λ e. IsTrue (tells after) → Blames c (world before) e)
  pub undamaged : IfErr result (λ e. IsTrue (tells after) → (d : Tables) (turns : ℕ)
      → StandsFor c (reads_of (world before)) d turns → IsNoDamage e)
  pub content : Told tells before after (Ran (OnlyCutBehind c (RestsOn c) (now (world before))) (world before)
      (world after))
  pub calls : IsTrue (tells after) → (task : Compared) → Names c task → (world after).clock ≤ (world before).clock
      + 2 ^ 20 + (count_of (reads_of (world before) task.first) + count_of (reads_of (world before) task.second)) / 8
  pub faults : OnlySortShelf (counts before) (counts after) result

module _ {S : Type 0} (tells : S → Bool) (world : S → World) (counts : S → Faults) (n : ℕ) (left right : FileNo)
    (going : Going) (may : MayGoOn going) (earlier : (left.step < going.step) × (right.step < going.step))
    (before after : S) where
  abbrev Goes : TwoTables → (FileNo → List ℕ) → Type 0
  Goes g = ComparisonGoesOn n left right going.step g.left g.right

  local : (g : TwoTables) → IsLocal (Goes g) comparison_rests going.step
  local g = comparison_local n left right going.step g.left g.right

  abbrev Begins : SameSweep → Type 0
  Begins = Begun tells world counts sweeps.ghosts (comparing n left right) (λ g. two_tables n g.left g.right)
      (comparison_of n left right going.step) going before after

  abbrev IsRefused : SortFault → Type 0
  IsRefused e = Answers tells world counts (comparing n left right) going before after (Err e)

  -- a comparison makes nothing, takes nothing, and reads files of earlier steps
  only_reads : (s : SameSweep) → task_of s ≡ comparison_of n left right going.step
      → OnlyReads tells world counts sweeps.ghosts (comparing n left right) (λ g. two_tables n g.left g.right)
      (comparison_of n left right going.step) going may local before after s
  only_reads s task_is = record {
    task_is = task_is;
    none_made = λ f none. none;
    step_is = ap (λ (t : Compared). t.parts.step) task_is;
    next_is = ap (λ (t : Compared). t.parts.next) task_is;
    none_owed = refl;
    earlier = λ f read. elim read [
      | inl first ↦ subst (λ (g : FileNo). g.step < going.step)
          (sym (first ∙ ap (λ (t : Compared). t.first) task_is)) earlier.0
      | inr second ↦ subst (λ (g : FileNo). g.step < going.step)
          (sym (second ∙ ap (λ (t : Compared). t.second) task_is)) earlier.1
    ];
  }

  -- they are sure
  operands_firm : (s : SameSweep) → task_of s ≡ comparison_of n left right going.step → (g : TwoTables)
      → IsAsked (comparing n left right) going (world before) g → (f : FileNo)
      → (f ≡ (task_of s).first) ⊎ (f ≡ (task_of s).second) → IsFirm (file (world before) f)
  operands_firm s task_is g asked f (inl first) = subst (λ h. IsFirm (file (world before) h))
      (sym (first ∙ ap (λ (t : Compared). t.first) task_is)) asked.given.left_is.firm
  operands_firm s task_is g asked f (inr second) = subst (λ h. IsFirm (file (world before) h))
      (sym (second ∙ ap (λ (t : Compared). t.second) task_is)) asked.given.right_is.firm

  -- anew
  module _ (none : going.last ≡ None) (result : Result SameSweep SortFault)
      (starts : Starts tells world counts n left right going.step before after result) where
    come_to : (going.turns ≡ 0) × (going.sweep ≡ 0)
    come_to = subst (λ l. IsComeTo l going) none may.going_of.come_to

    start_quiet : Told tells before after (Unchanged (world before) (world after))
    start_quiet = told tells before after _ _ starts.content
        (λ _ looked. stays_unchanged (world before) (world after) looked.run)

    start_calls : IsTrue (tells after) → (world after).clock ≤ (world before).clock
        + (4 + rest_calls going.last (count_of (reads_of (world before) left) + count_of (reads_of (world before) right)))
    start_calls told_new = let few = (starts.content.did told_new).few in omega (arith, few)

  start_begun_ok : (s : SameSweep) → going.last ≡ None
      → Starts tells world counts n left right going.step before after (Ok s) → Begins s
  start_begun_ok s none starts =
      let task_is : task_of s ≡ comparison_of n left right going.step = λ i. record {
        first = starts.files.0 i;
        second = starts.files.1 i;
        first_variables = starts.variables.0 i;
        second_variables = starts.variables.1 i;
        parts = starts.parts i;
      } in
      let come = come_to none (Ok s) starts in
      let quiet = start_quiet none (Ok s) starts in
      begun_reading tells world counts sweeps.ghosts (comparing n left right) (λ g. two_tables n g.left g.right)
      (comparison_of n left right going.step) going may local before after s (only_reads s task_is) (record {
        ready = starts.ready;
        in_step = starts.in_step;
        trusts = λ told_new none. tt;
        first = come.1;
        none_taken = ap next_of none;
        operands = λ told_new g asked f read. operands_firm s task_is g asked f read;
        remains = λ told_new g asked. starts.remains told_new g.left g.right asked.given.left_is.canonical
            asked.given.right_is.canonical;
        few = λ told_new g asked.
            let few = two_within n (Same 0 1) g.left g.right (turns_left s) (file (world before) left).bytes
            (file (world before) right).bytes asked.given.left_is.canonical.bytes_are
            asked.given.right_is.canonical.bytes_are (starts.left_is told_new) in
            let turns : going.turns ≡ 0 = come.0 in
            omega (arith, few, turns);
        quiet = quiet;
        calls = start_calls none (Ok s) starts;
        faults = starts.faults;
      })

  pub start_begun : (result : Result SameSweep SortFault) → going.last ≡ None
      → Starts tells world counts n left right going.step before after result → IfOk result Begins
  start_begun (Ok s) none starts = start_begun_ok s none starts
  start_begun (Err e) none starts = tt

  pub start_refused : (result : Result SameSweep SortFault) → going.last ≡ None
      → Starts tells world counts n left right going.step before after result → IfErr result IsRefused
  start_refused (Ok s) none starts = tt
  start_refused (Err e) none starts =
      let quiet = start_quiet none (Err e) starts in
      refuses tells world counts (comparing n left right) going local before after (Err e) (record {
        undamaged = λ told_new g asked. starts.undamaged told_new g.left g.right asked.given.left_is.canonical
            asked.given.right_is.canonical;
        kind = λ told_new. not_spent (IsFaultOfEither left right) e (λ spent. spent) starts.refused;
        damaged = λ told_new none gate. trailer_fault n left right (world before) e (starts.damage told_new);
        images = quiet_images tells world counts (comparing n left right) going local before after quiet;
        content = quiet_content tells world counts (comparing n left right) going local before after quiet;
        calls = start_calls none (Err e) starts;
        soon = omega arith;
        faults = starts.faults;
      })

  -- from the step's last checkpoint
  module _ (c : Checkpoint) (last : going.last ≡ Some c) where
    come_from : IsComeTo (Some c) going
    come_from = subst (λ l. IsComeTo l going) last may.going_of.come_to

    not_none : ¬ (going.last ≡ None)
    not_none none = absurd (cc)

    -- one with which the step stands is of this comparison
    from_point : (g : TwoTables) → IsAsked (comparing n left right) going (world before) g
        → ComparesFrom n left right going.step g.left g.right (reads_of (world before)) c
    from_point g asked =
        let stands : StandsIn (Goes g) comparison_rests going.step c.next_part (now (world before)).folder c =
        subst (λ l. IsStanding (Goes g) comparison_rests going.step (next_of l) (now (world before)).folder l)
        last asked.standing in
        compares_from n left right going.step g.left g.right (reads_of (world before)) c stands.last
        stands.goes_on

    -- which is what is looked for in it
    is_ours : (g : TwoTables) → IsAsked (comparing n left right) going (world before) g → IsOfComparison c n left right
    is_ours g asked =
        let from = (from_point g asked).goes in
        let names = from.names in
        record {
          compares = record {
            saved = names.saved;
            holds = names.holds;
            variables_are = names.first_variables_are;
            first_is = names.first_is;
            second_is = names.second_is;
          };
          none_taken = names.next_is;
          first_sweep = from.sweep_is;
          fits = from.fits;
        }

    pub foreign_refused : (e : SortFault) → ¬ (IsOfComparison c n left right) → e ≢ RunsSpent
        → Told tells before after (Ran (Stays (now (world before))) (world before) (world after))
        → (IsTrue (tells after) → (world after).clock ≤ (world before).clock + 1)
        → OnlySortShelf {T = Unit} (counts before) (counts after) (Err e) → IsRefused e
    foreign_refused e foreign kind content calls faults =
        refuses_foreign tells world counts (comparing n left right) going local before after c last (omega arith, omega arith) e
        (λ g asked. foreign (is_ours g asked)) kind content calls faults

    -- and then it is rebuilt
    module _ (ours : IsOfComparison c n left right) (result : Result SameSweep SortFault)
        (rebuilds : Rebuilds tells world counts c before after result) where
      rebuild_quiet : Told tells before after (Unchanged (world before) (world after))
      rebuild_quiet = told tells before after _ _ rebuilds.content
          (λ _ ran. rebuilt_unchanged c (RestsOn c) (world before) (world after)
          (λ f. compared_files c n left right f ours.compares) ran)

      rebuild_calls : IsTrue (tells after) → (world after).clock ≤ (world before).clock
          + (4 + rest_calls going.last (count_of (reads_of (world before) left) + count_of (reads_of (world before) right)))
      rebuild_calls told_new =
          let task : Compared = record (comparison_of n left right c.step) { parts = record { step = c.step; next = c.next_part } } in
          let few = rebuilds.calls told_new task (record {
            saved = ours.compares.saved;
            holds = ours.compares.holds;
            first_is = ours.compares.first_is;
            second_is = ours.compares.second_is;
            first_variables_are = ours.compares.variables_are;
            second_variables_are = ours.compares.variables_are;
            step_is = refl;
            next_is = refl;
          }) in
          subst (λ l. (world after).clock ≤ (world before).clock + (4 + rest_calls l
          (count_of (reads_of (world before) left) + count_of (reads_of (world before) right)))) (sym last)
          (omega (arith, few))

    rebuild_task : IsOfComparison c n left right → (s : SameSweep) → Names c (task_of s) → task_of s ≡ comparison_of n left right going.step
    rebuild_task ours s names =
        let one = one_comparison c names.saved ours.compares.saved names.holds ours.compares.holds in
        let step_is : c.step ≡ going.step = come_from.2.step_is in
        λ i. record {
          first = (sym names.first_is ∙ (λ j. (one j).left.file) ∙ ours.compares.first_is) i;
          second = (sym names.second_is ∙ (λ j. (one j).right.file) ∙ ours.compares.second_is) i;
          first_variables = (sym names.first_variables_are ∙ (λ j. (one j).n) ∙ ours.compares.variables_are) i;
          second_variables = (sym names.second_variables_are ∙ (λ j. (one j).n) ∙ ours.compares.variables_are) i;
          parts = record { step = (sym names.step_is ∙ step_is) i; next = (sym names.next_is ∙ ours.none_taken) i };
        }

    rebuild_begun_ok : IsOfComparison c n left right → (s : SameSweep) → Rebuilds tells world counts c before after (Ok s) → Begins s
    rebuild_begun_ok ours s rebuilds =
        let task_is = rebuild_task ours s rebuilds.names in
        begun_reading tells world counts sweeps.ghosts (comparing n left right) (λ g. two_tables n g.left g.right)
        (comparison_of n left right going.step) going may local before after s (only_reads s task_is) (record {
          ready = rebuilds.ready;
          in_step = rebuilds.in_step;
          trusts = λ told_new none. tt;
          first = come_from.1 ∙ ours.first_sweep;
          none_taken = ap next_of last ∙ ours.none_taken;
          operands = λ told_new g asked f read. operands_firm s task_is g asked f read;
          remains = λ told_new g asked.
              let from = from_point g asked in
              (rebuilds.remains told_new (two_tables n g.left g.right) from.goes.left from.goes.stands).0;
          few = λ told_new g asked.
              let from = from_point g asked in
              let less = (rebuilds.remains told_new (two_tables n g.left g.right) from.goes.left from.goes.stands).1 in
              let few = from.few in
              let turns : going.turns ≡ c.turns = come_from.0 in
              omega (arith, less, few, turns);
          quiet = rebuild_quiet ours (Ok s) rebuilds;
          calls = rebuild_calls ours (Ok s) rebuilds;
          faults = rebuilds.faults;
        })

    pub rebuild_begun : (result : Result SameSweep SortFault) → IsOfComparison c n left right → Rebuilds tells world counts c before after result
        → IfOk result Begins
    rebuild_begun (Ok s) ours rebuilds = rebuild_begun_ok ours s rebuilds
    rebuild_begun (Err e) ours rebuilds = tt

    pub rebuild_refused : (result : Result SameSweep SortFault) → IsOfComparison c n left right
        → Rebuilds tells world counts c before after result → IfErr result IsRefused
    rebuild_refused (Ok s) ours rebuilds = tt
    rebuild_refused (Err e) ours rebuilds =
        let quiet = rebuild_quiet ours (Err e) rebuilds in
        refuses tells world counts (comparing n left right) going local before after (Err e) (record {
          undamaged = λ told_new g asked.
              let from = (from_point g asked).goes in
              rebuilds.undamaged told_new (two_tables n g.left g.right) from.left from.stands;
          kind = λ told_new. not_spent (Blames c (world before)) e
              (λ spent. elim spent.cause [ inl fault ↦ fault | inr (inl fault) ↦ fault | inr (inr fault) ↦ fault ])
              (rebuilds.damage told_new);
          damaged = λ told_new none gate. absurd (not_none none);
          images = quiet_images tells world counts (comparing n left right) going local before after quiet;
          content = quiet_content tells world counts (comparing n left right) going local before after quiet;
          calls = rebuild_calls ours (Err e) rebuilds;
          soon = omega arith;
          faults = rebuilds.faults;
        })

-- the sweeps of the kind answer the question
pub compared_by : (n : ℕ) (left right : FileNo) (number : ℕ) → IsAnsweredBy sweeps.ghosts (comparing n left right)
    (λ g. two_tables n g.left g.right) (comparison_of n left right number) number
compared_by n left right number = record {
  local = λ g. comparison_local n left right number g.left g.right;
  goes_on = λ g turns r few goes. record { turns = turns; goes_on = goes; few = few };
  rests = λ c f n on. on;
  apart = apart;
  soon = omega arith;
}

-- a fault that is no damage, and not for want of a part number
quiet_fault : (n : ℕ) (left right : FileNo) (world : World) (e : SortFault) → e ≢ RunsSpent → IsNoDamage e
    → IsReadFault MissesNone n left right world e
quiet_fault n left right world Shelf kind none = tt
quiet_fault n left right world (Damaged f at) kind none = absurd none
quiet_fault n left right world RunsSpent kind none = absurd (kind refl)

-- a turn finds one of the two files damaged, which were so at first
pub compared_fault : (n : ℕ) (left right : FileNo) (number : ℕ) (t : SameSweep) (new old : World) (e : SortFault)
    → task_of t ≡ comparison_of n left right number → file new left ≡ file old left → file new right ≡ file old right
    → e ≢ RunsSpent → IsDamage t new e ⊎ IsNoDamage e → IsReadFault MissesNone n left right old e
compared_fault n left right number t new old e task_is here there kind (inl damage) =
    same_fault n left right t new old e (ap (λ (x : Compared). x.first) task_is) (ap (λ (x : Compared). x.second) task_is)
    (ap (λ (x : Compared). x.first_variables) task_is) (ap (λ (x : Compared). x.second_variables) task_is) here there damage
compared_fault n left right number t new old e task_is here there kind (inr none) =
    quiet_fault n left right old e kind none
