-- An implication that is begun, anew or from the step's last checkpoint, and the question that its sweeps answer.
use Rattle.std.proofs.Common.{◌≡◌, ◌≢◌, ◌⊎◌, ◌∙◌, ℕ, ◌+◌, ◌*◌, ◌/◌, ◌^◌, ◌<◌, ◌≤◌, Bool, List, [], ◌∷◌, ap, sym, subst, refl, inl, inr, arith}
use Rattle.std.specs.Prelude.{IsTrue, Some, None, Result, Ok, Err, IfOk, IfErr}
use Rattle.bool_tables.specs.declared.steps.Step.TheVariants.{Leq}
use Rattle.shelf_model.specs.declared.file_no.FileNo.{FileNo}
use Rattle.shelf_model.specs.declared.sort_fault.SortFault.{SortFault}
use Rattle.shelf_model.specs.declared.sort_fault.SortFault.TheVariants.{Shelf, Damaged, RunsSpent}
use Rattle.shelf_model.specs.Calls.{Told}
use Rattle.shelf_model.specs.Faults.{Faults}
use Rattle.shelf_model.specs.Folder.{AreFiles}
use Rattle.shelf_model.specs.Moments.{Ran, Stays, Throughout, OnlyChanged}
use Rattle.shelf_model.specs.World.{Moment, World, now, file}
use Rattle.shelf_model.proofs.Runs.{told, ran_weakens, ran_end}
use Rattle.file_numbers.specs.Files.{inner_file, ends_file, checkpoint_gate}
use Rattle.node_file.specs.Canonical.{IsCanonicalFile}
use Rattle.node_reading.specs.Reading.{count_of}
use Rattle.run_tiers.specs.declared.parts.Parts.{Parts}
use Rattle.run_tiers.specs.Faults.{OnlySortShelf}
use Rattle.run_tiers.specs.Parts.{IsTaken}
use Rattle.run_tiers.specs.Syncs.{IsFirm}
use Rattle.sweep_checkpoint.specs.declared.going.Going.{Going}
use Rattle.sweep_checkpoint.specs.Going.{first_owed}
use Rattle.sweep_core.specs.declared.checkpoint.Checkpoint.{Checkpoint}
use Rattle.sweep_core.specs.Accounts.{CanBeTaken, NoneFilled}
use Rattle.sweep_core.specs.Carries.{IsBehindPoints, OnlyCutBehind}
use Rattle.sweep_core.specs.Saving.{IsOfStep, reads_of}
use Rattle.sweep_core.specs.Sweeps.{IsNoDamage}
use Rattle.sweep_core.specs.Tables.{records_named}
use Rattle.sweep_core.proofs.Untaken.{none_changed}
use Rattle.step_work.specs.Works.{work_for}
use Rattle.top_down_sweep.specs.Beginning as top
use Rattle.top_down_sweep.specs.Beginning.{files_from, after_two}
use Rattle.top_down_sweep.specs.Resumes.{RestsOn, Names, Blames, reading_calls}
use Rattle.tuple_asks.specs.Resuming.{saved_files}
use Rattle.top_down_sweep.specs.ResumeLaws.{one_machine, apart}
use Rattle.tuple_asks.specs.declared.files.Files.{Files}
use Rattle.top_down_sweep.specs.Sweeps.{SweepTask, IsMade, variables_of}
use Rattle.tuple_asks.specs.Operands.{IsRead}
use Rattle.top_down_sweep.specs.Waiting.{AreApart}
use Rattle.top_down_sweep.proofs.Makings.{apart_from}
use Rattle.table_work.specs.Tables.{operand_files}
use Rattle.product_sweep.specs.declared.leq.LeqSweep.{LeqSweep}
use Rattle.product_sweep.specs.contracts.leq.LeqSweepSweep.TheImpl as sweeps
use Rattle.top_down_sweep.specs.Knowing.{bytes_in}
use Rattle.top_down_sweep.proofs.StepKnown.{product_stays}
use Rattle.product_sweep.specs.Products.{rule_of, begins_of}
use Rattle.product_sweep.specs.Implications.{Implication, Refutes, turns_left, accounts, task_of, product_in, IsReady, IsInStep, IsTrusted, IsDamage}
use Rattle.product_sweep.specs.LeqSaving.{StandsFor, leq_saving, product_words}
use Rattle.step_going.specs.Found.{IsComeTo}
use Rattle.step_going.specs.Standing.{IsLocal, AreSafe, IsStanding, StandsIn}
use Rattle.step_going.proofs.Kept.{RestsApart, MadeSure, standing_later, standing_rebuilt, safe_rebuilt, safe_along, standing_along}
use Rattle.resumable.specs.Answers.{two_files, no_parts, ImplicationGoesOn, implication_rests}
use Rattle.resumable.specs.Diagrams.{arcs_of}
use Rattle.resumable.specs.Points.{RefutesFrom}
use Rattle.resumable.proofs.AnswerPoints.{implication_local, refutes_from}
use Rattle.resumable.proofs.MadeFronts.{AreThere, implied_there}
use Rattle.step_sweeps.specs.Answers.{TwoTables, IsAsked, Answers, refuting, refutation_of}
use Rattle.step_sweeps.specs.Begun.{Begun}
use Rattle.step_sweeps.specs.Damage.{MissesAsked, IsImplicationFault}
use Rattle.step_sweeps.specs.Going.{MayGoOn, next_of, rest_calls}
use Rattle.step_sweeps.specs.Points.{IsOfImplication}
use Rattle.step_sweeps.proofs.AnswerFronts.{cut_behind_points}
use Rattle.step_sweeps.proofs.AnswerQuiet.{refuses_foreign, refuses, taken_from}
use Rattle.step_sweeps.proofs.AnswerRuns.{IsAnsweredBy}
use Rattle.step_sweeps.proofs.ArcsPoints.{front_there}
use Rattle.step_sweeps.proofs.Faults.{start_fault, turn_fault, never_blamed}
use Rattle.step_sweeps.proofs.ImpliedWork.{implication_fault, turn_fault_at, within_work}
use Rattle.step_sweeps.proofs.Rebuilt.{made_sure, sure_still}
use Rattle.step_sweeps.proofs.Running.{not_of_step, file_stays, one_point, not_spent}
use Rattle.step_sweeps.proofs.Unfilled.{none_cut}

-- a file of an earlier step isn't behind the step's checkpoints
earlier_apart : (number : ℕ) (f : FileNo) → f.step < number → ¬ (IsBehindPoints number f)
earlier_apart number f before behind =
    let same : f.step ≡ number = behind.step_is in
    absurd (omega (arith, same, before))

-- the files that such a sweep makes
module _ (n : ℕ) (left right : FileNo) (number : ℕ) (earlier : (left.step < number) × (right.step < number))
    (s : LeqSweep) (task_is : task_of s ≡ arcs_of n (two_files left right) number) where
  its_arcs : (f : FileNo) → accounts.makes s f → (f ≡ inner_file number) ⊎ (f ≡ ends_file number)
  its_arcs f made = subst (λ (t : SweepTask). IsMade t.files f) task_is made

  its_operands : (f : FileNo) → IsRead (task_of s).files f → (f ≡ left) ⊎ (f ≡ right)
  its_operands f read = elim (subst (λ (t : SweepTask). IsRead t.files f) task_is read) [
    | inl first ↦ inl first
    | inr (inl second) ↦ inr second
    | inr (inr third) ↦ inr third
  ]

  operand_earlier : (f : FileNo) → IsRead (task_of s).files f → f.step < number
  operand_earlier f read = elim (its_operands f read) [
    | inl is ↦ subst (λ (g : FileNo). g.step < number) (sym is) earlier.0
    | inr is ↦ subst (λ (g : FileNo). g.step < number) (sym is) earlier.1
  ]

  arcs_behind : (f : FileNo) → accounts.makes s f → IsBehindPoints number f
  arcs_behind f made = elim (its_arcs f made) [
    | inl is ↦ (let part = ap (λ (g : FileNo). g.part) is in
        record { step_is = ap (λ (g : FileNo). g.step) is; from = omega (arith, part) })
    | inr is ↦ (let part = ap (λ (g : FileNo). g.part) is in
        record { step_is = ap (λ (g : FileNo). g.step) is; from = omega (arith, part) })
  ]

  of_step : (next : ℕ) → 5 ≤ next → IsOfStep (accounts.makes s) (leq_saving.operands (task_of s)) number next
  of_step next from = record {
    parts = omega (arith, from);
    made = λ f made. elim (its_arcs f made) [
      | inl is ↦ (let part = ap (λ (g : FileNo). g.part) is in record {
        step_is = ap (λ (g : FileNo). g.step) is;
        part = inr (omega (arith, part), omega (arith, part), omega (arith, part, from));
      })
      | inr is ↦ (let part = ap (λ (g : FileNo). g.part) is in record {
        step_is = ap (λ (g : FileNo). g.step) is;
        part = inr (omega (arith, part), omega (arith, part), omega (arith, part, from));
      })
    ];
    others = λ f read. inl (λ same. let before = operand_earlier f read in absurd (omega (arith, same, before)));
    apart = λ f read made.
        let before = operand_earlier f read in
        let same = (arcs_behind f made).step_is in
        absurd (omega (arith, same, before));
  }

-- what a start says
pub record Starts {S : Type 0} (tells : S → Bool) (world : S → World) (counts : S → Faults) (n : ℕ)
    (left right : FileNo) (number : ℕ) (before after : S) (result : Result LeqSweep SortFault) : Type 0 where
  pub ready : IfOk result IsReady
  pub in_step : IfOk result (λ s. IsTrue (tells after) → IsInStep s (world after))
  pub trusts : IfOk result (λ s. IsTrue (tells after) → IsTrusted s (world after))
  pub begun : IfOk result (λ s. top.Begun rule_of begins_of tells world (files_from (operand_files left right right) (no_parts number))
      (after_two (no_parts number)) before after (product_in s))
  pub variables : IfOk result (λ s. variables_of (product_in s) ≡ n)
  pub leaves : top.Starts tells world counts n (files_from (operand_files left right right) (no_parts number))
      (no_parts number) before after result
  pub few_calls : IsTrue (tells after) → (world after).clock ≤ (world before).clock + 8
  pub means : IfOk result (λ s. IsTrue (tells after) → (t u : List Bool) → IsCanonicalFile n t left (world before)
      → IsCanonicalFile n u right (world before) → ¬ CanBeTaken number 3 left → ¬ CanBeTaken number 3 right
      → Refutes s (world after) (record { n = n; left = t; right = u }))
  pub half : IfOk result (λ s. IsTrue (tells after) → (t u : List Bool) → IsCanonicalFile n t left (world before)
      → IsCanonicalFile n u right (world before) → ¬ CanBeTaken number 3 left → ¬ CanBeTaken number 3 right
      → 2 * turns_left s (world after) (record { n = n; left = t; right = u }) ≤ work_for n (Leq 0 1) (t ∷ u ∷ []))
  pub undamaged : IfErr result (λ e. IsTrue (tells after) → (t u : List Bool) → IsCanonicalFile n t left (world before)
      → IsCanonicalFile n u right (world before) → ¬ CanBeTaken number 3 left → ¬ CanBeTaken number 3 right
      → IsNoDamage e)

-- what a rebuild says
pub record Rebuilds {S : Type 0} (tells : S → Bool) (world : S → World) (counts : S → Faults) (c : Checkpoint)
    (before after : S) (result : Result LeqSweep SortFault) : Type 0 where
  pub ready : IfOk result IsReady
  pub in_step : IfOk result (λ s. IsTrue (tells after) → IsInStep s (world after))
  pub parts : IfOk result (λ s. (accounts.step s ≡ c.step) × (accounts.next s ≡ c.next_part))
  pub files : IfOk result (λ s. IsOfStep (accounts.makes s) (leq_saving.operands (task_of s)) (accounts.step s)
      (accounts.next s))
  pub names : IfOk result (λ s. Names product_words c (task_of s))
  pub remains : IfOk result (λ s. IsTrue (tells after) → (d : Implication) (turns : ℕ)
      → StandsFor c [] (reads_of (world before)) d turns
      → Refutes s (world after) d × (turns_left s (world after) d ≤ turns))
  pub damage : IfErr result (λ e. IsTrue (tells after) → Blames product_words c (world before) e)
  pub undamaged : IfErr result (λ e. IsTrue (tells after) → (d : Implication) (turns : ℕ)
      → StandsFor c [] (reads_of (world before)) d turns → IsNoDamage e)
  pub content : Told tells before after (Ran (OnlyCutBehind c (RestsOn product_words c) (now (world before)))
      (world before) (world after))
  pub calls : IsTrue (tells after) → (task : SweepTask) → Names product_words c task → (world after).clock
      ≤ (world before).clock + 2 ^ 20 + reading_calls task (reads_of (world before))
  pub credit : IfOk result (λ s. accounts.credit s ≤ 64 * records_named c)
  pub stock : IfOk result (λ s. accounts.stock s ≤ 50688)
  pub faults : OnlySortShelf (counts before) (counts after) result

module _ {S : Type 0} (tells : S → Bool) (world : S → World) (counts : S → Faults) (n : ℕ) (left right : FileNo)
    (going : Going) (may : MayGoOn going) (earlier : (left.step < going.step) × (right.step < going.step))
    (before after : S) where
  abbrev Goes : TwoTables → (FileNo → List ℕ) → Type 0
  Goes g = ImplicationGoesOn n left right going.step g.left g.right

  local : (g : TwoTables) → IsLocal (Goes g) implication_rests going.step
  local g = implication_local n left right going.step g.left g.right

  abbrev Begins : LeqSweep → Type 0
  Begins = Begun tells world counts sweeps.ghosts (refuting n left right) (refutation_of n)
      (arcs_of n (two_files left right) going.step) going before after

  abbrev IsRefused : SortFault → Type 0
  IsRefused e = Answers tells world counts (refuting n left right) going before after (Err e)

  -- the operands are sure, and stay so
  operands_firm : (s : LeqSweep) → task_of s ≡ arcs_of n (two_files left right) going.step
      → Ran (OnlyChanged (IsBehindPoints going.step) (now (world before))) (world before) (world after)
      → (g : TwoTables) → IsAsked (refuting n left right) going (world before) g → (f : FileNo)
      → IsRead (task_of s).files f → IsFirm (file (world after) f)
  operands_firm s task_is ran g asked f read =
      let same = file_stays (IsBehindPoints going.step) (world before) (world after) f
      (earlier_apart going.step f (operand_earlier n left right going.step earlier s task_is f read)) ran in
      subst IsFirm (sym same) (elim (its_operands n left right going.step earlier s task_is f read) [
        | inl is ↦ subst (λ h. IsFirm (file (world before) h)) (sym is) asked.given.left_is.firm
        | inr is ↦ subst (λ h. IsFirm (file (world before) h)) (sym is) asked.given.right_is.firm
      ])

  gate_outside : ¬ (IsBehindPoints going.step (checkpoint_gate going.step))
  gate_outside behind = let from = behind.from in absurd (omega (arith, from))

  -- anew
  module _ (none : going.last ≡ None) (result : Result LeqSweep SortFault)
      (starts : Starts tells world counts n left right going.step before after result) where
    come_to : (going.turns ≡ 0) × (going.sweep ≡ 0)
    come_to = subst (λ l. IsComeTo l going) none may.going_of.come_to

    start_content : Told tells before after
        (Ran (OnlyChanged (IsBehindPoints going.step) (now (world before))) (world before) (world after))
    start_content = told tells before after _ _ starts.leaves.content
        (λ _ run. ran_weakens (world before) (world after) _ (OnlyChanged (IsBehindPoints going.step) (now (world before)))
        (λ m only f outside. only f (λ (taken : IsTaken _ _ f).
        outside (record { step_is = taken.step_is; from = taken.from }))) run)

    nothing_rests : RestsApart implication_rests (IsBehindPoints going.step) going.step going.last
    nothing_rests = subst (RestsApart implication_rests (IsBehindPoints going.step) going.step) (sym none) tt

    start_images : IsTrue (tells after) → (g : TwoTables) → IsAsked (refuting n left right) going (world before) g
        → Throughout (world before) (world after) (λ (m : Moment). AreSafe (Goes g) going.step m.folder)
    start_images told_new g asked = safe_along (Goes g) implication_rests going.step (local g)
        (IsBehindPoints going.step) (next_of going.last) going.last gate_outside nothing_rests tells world before after
        start_content (λ told_old. asked.standing) told_new

    start_calls : IsTrue (tells after) → (world after).clock ≤ (world before).clock + (11 + rest_calls going.last
        (count_of (reads_of (world before) left) + count_of (reads_of (world before) right)
        + count_of (reads_of (world before) right)))
    start_calls told_new = let few = starts.few_calls told_new in omega (arith, few)

  start_begun_ok : (s : LeqSweep) → going.last ≡ None
      → Starts tells world counts n left right going.step before after (Ok s) → Begins s
  start_begun_ok s none starts =
      let number = going.step in
      let begun = starts.begun in
      let task_is : task_of s ≡ arcs_of n (two_files left right) number = λ i. record {
        files = begun.files_are i;
        variables = starts.variables i;
      } in
      let step_is : accounts.step s ≡ number = ap (λ (p : Parts). p.step) begun.parts_are in
      let next_is : accounts.next s ≡ 5 = ap (λ (p : Parts). p.next) begun.parts_are in
      let stock_is : accounts.stock s ≡ 0 = begun.stock_is in
      let come = come_to none (Ok s) starts in
      let content = start_content none (Ok s) starts in
      let budget : 16384 ≤ going.budget = may.budget in
      let shown : going.shown ≡ going.turns = may.going_of.shown_is in
      let taken = taken_from going.last in
      let left_apart = not_of_step number 3 left earlier.0 in
      let right_apart = not_of_step number 3 right earlier.1 in
      record {
        ready = starts.ready;
        in_step = starts.in_step;
        task_is = task_is;
        step_is = step_is;
        files = of_step n left right number earlier s task_is (accounts.next s) (omega (arith, next_is));
        made = arcs_behind n left right number earlier s task_is;
        first = come.1;
        paid = record {
          interval = omega (arith, budget);
          shown = omega (arith, shown);
          paid = omega (arith, next_is, stock_is);
        };
        asked = λ told_new g asked. record {
          remains = starts.means told_new g.left g.right asked.given.left_is.canonical
              asked.given.right_is.canonical left_apart right_apart;
          few =
              let half = starts.half told_new g.left g.right asked.given.left_is.canonical
              asked.given.right_is.canonical left_apart right_apart in
              let within = within_work n g.left g.right _ half in
              let turns : going.turns ≡ 0 = come.0 in
              omega (arith, within, turns);
          operands = operands_firm s task_is (content.did told_new) g asked;
          standing = standing_later (Goes g) implication_rests number (next_of going.last)
              (accounts.next s) (now (world after)).folder going.last
              (let first : next_of going.last ≡ 3 = ap next_of none in omega (arith, first, next_is))
              (standing_along (Goes g) implication_rests number (local g) (IsBehindPoints number)
              (next_of going.last) going.last gate_outside (nothing_rests none (Ok s) starts) tells world before after
              content (λ told_old. asked.standing) told_new);
          sure = λ c last f m on made. absurd (cc);
        };
        images = start_images none (Ok s) starts;
        trusts = λ told_new none. starts.trusts told_new;
        content = content;
        within = omega (arith, next_is);
        untaken = λ told_new. none_changed (IsTaken (no_parts number) (after_two (no_parts number))) number
            (accounts.next s) (world before) (world after) (λ f is free.
            let below : f.part < 5 = is.below in let from : accounts.next s ≤ f.part = free.from in
            absurd (omega (arith, below, from, next_is)))
            (starts.leaves.content.did told_new);
        owed = omega (arith, next_is, taken);
        stock = λ none. stock_is;
        calls = λ told_new. let paid = begun.calls told_new in omega (arith, paid, stock_is);
        faults = starts.leaves.faults;
      }

  pub start_begun : (result : Result LeqSweep SortFault) → going.last ≡ None
      → Starts tells world counts n left right going.step before after result → IfOk result Begins
  start_begun (Ok s) none starts = start_begun_ok s none starts
  start_begun (Err e) none starts = tt

  pub start_refused : (result : Result LeqSweep SortFault) → going.last ≡ None
      → Starts tells world counts n left right going.step before after result → IfErr result IsRefused
  start_refused (Ok s) none starts = tt
  start_refused (Err e) none starts =
      refuses tells world counts (refuting n left right) going local before after (Err e) (record {
        undamaged = λ told_new g asked. starts.undamaged told_new g.left g.right asked.given.left_is.canonical
            asked.given.right_is.canonical (not_of_step going.step 3 left earlier.0)
            (not_of_step going.step 3 right earlier.1);
        kind = λ told_new same. let many : 2 ^ 32 ≤ 4 = starts.leaves.spent.0 (ap Err same) in
            absurd (omega (arith, many));
        damaged = λ told_new none gate. implication_fault (MissesAsked Unit) n left right (world before) e
            (start_fault (MissesAsked Unit) n (operand_files left right right) (files_from (operand_files left right right)
            (no_parts going.step)) (world before) e refl refl refl
            (λ other. starts.leaves.damage other told_new));
        images = start_images none (Err e) starts;
        content = start_content none (Err e) starts;
        calls = start_calls none (Err e) starts;
        soon = omega arith;
        faults = starts.leaves.faults;
      })

  -- from the step's last checkpoint
  module _ (c : Checkpoint) (last : going.last ≡ Some c) where
    come_from : IsComeTo (Some c) going
    come_from = subst (λ l. IsComeTo l going) last may.going_of.come_to

    not_none : ¬ (going.last ≡ None)
    not_none none = absurd (cc)

    -- one with which the step stands is of this implication
    stands_at : (g : TwoTables) → IsAsked (refuting n left right) going (world before) g
        → StandsIn (Goes g) implication_rests going.step c.next_part (now (world before)).folder c
    stands_at g asked =
        subst (λ l. IsStanding (Goes g) implication_rests going.step (next_of l) (now (world before)).folder l)
        last asked.standing

    from_point : (g : TwoTables) → IsAsked (refuting n left right) going (world before) g
        → RefutesFrom n left right going.step g.left g.right (reads_of (world before)) c
    from_point g asked =
        let stands = stands_at g asked in
        refutes_from n left right going.step g.left g.right (reads_of (world before)) c stands.last
        stands.goes_on

    is_ours : (g : TwoTables) → IsAsked (refuting n left right) going (world before) g
        → IsOfImplication c n left right
    is_ours g asked =
        let from = (from_point g asked).goes in
        record {
          first_sweep = from.sweep_is;
          names = subst (λ k. Names product_words c (arcs_of n (two_files left right) k)) (sym from.last.rules.step_is)
              from.names;
          fits = from.fits;
        }

    pub foreign_refused : (e : SortFault) → ¬ (IsOfImplication c n left right) → e ≢ RunsSpent
        → Told tells before after (Ran (Stays (now (world before))) (world before) (world after))
        → (IsTrue (tells after) → (world after).clock ≤ (world before).clock + 1)
        → OnlySortShelf {T = Unit} (counts before) (counts after) (Err e) → IsRefused e
    foreign_refused e foreign kind content calls faults =
        refuses_foreign tells world counts (refuting n left right) going local before after c last (omega arith, omega arith) e
        (λ g asked. foreign (is_ours g asked)) kind content calls faults

    -- and then it is rebuilt
    module _ (files : IsTrue (tells before) → AreFiles (now (world before)).folder) (ours : IsOfImplication c n left right)
        (result : Result LeqSweep SortFault) (rebuilds : Rebuilds tells world counts c before after result) where
      its_step : c.step ≡ going.step
      its_step = come_from.2.step_is

      its_names : Names product_words c (arcs_of n (two_files left right) going.step)
      its_names = subst (λ k. Names product_words c (arcs_of n (two_files left right) k)) its_step ours.names

      rebuild_content : Told tells before after
          (Ran (OnlyChanged (IsBehindPoints going.step) (now (world before))) (world before) (world after))
      rebuild_content = told tells before after _ _ rebuilds.content
          (λ _ ran. ran_weakens (world before) (world after) _ (OnlyChanged (IsBehindPoints going.step) (now (world before)))
          (cut_behind_points product_words n (two_files left right) going.step c ours.fits its_names its_step
          (record { first = earlier.0; second = earlier.1; third = earlier.1 }) (now (world before))) ran)

      rebuild_calls : IsTrue (tells after) → (world after).clock ≤ (world before).clock + (2 ^ 20
          + (count_of (reads_of (world before) left) + count_of (reads_of (world before) right)
          + count_of (reads_of (world before) right)) / 8)
      rebuild_calls told_new =
          let few = rebuilds.calls told_new (arcs_of n (two_files left right) going.step) its_names in
          omega (arith, few)

      rest_within : IsTrue (tells after) → (world after).clock ≤ (world before).clock + (11 + rest_calls going.last
          (count_of (reads_of (world before) left) + count_of (reads_of (world before) right)
          + count_of (reads_of (world before) right)))
      rest_within told_new =
          let few = rebuild_calls told_new in
          subst (λ l. (world after).clock ≤ (world before).clock + (11 + rest_calls l
          (count_of (reads_of (world before) left) + count_of (reads_of (world before) right)
          + count_of (reads_of (world before) right)))) (sym last) (omega (arith, few))

      module _ (told_new : IsTrue (tells after)) (g : TwoTables)
          (asked : IsAsked (refuting n left right) going (world before) g) where
        all_there : AreThere (implication_rests c) (reads_of (world before))
        all_there = implied_there n left right going.step g.left g.right (reads_of (world before)) c
            (stands_at g asked).goes_on (stands_at g asked).last

        all_sure : MadeSure implication_rests (implication_rests c) (now (world before)).folder c
        all_sure = made_sure (Goes g) implication_rests going.step c.next_part (implication_rests c) c
            (now (world before)).folder (stands_at g asked) (λ f m on made. all_there f m on)

        rebuild_images : Throughout (world before) (world after) (λ (m : Moment). AreSafe (Goes g) going.step m.folder)
        rebuild_images = safe_rebuilt (Goes g) implication_rests going.step (local g) (implication_rests c)
            c.next_part (world before) (world after) c (files (rebuilds.content.before told_new))
            (rebuilds.content.did told_new) (λ f m on. on) all_sure (stands_at g asked)

        cut : OnlyCutBehind c (RestsOn product_words c) (now (world before)) (now (world after))
        cut = ran_end (world before) (world after) (OnlyCutBehind c (RestsOn product_words c) (now (world before)))
            (rebuilds.content.did told_new)

        stands_still : StandsIn (Goes g) implication_rests going.step c.next_part
            (now (world after)).folder c
        stands_still = standing_rebuilt (Goes g) implication_rests going.step (local g)
            (implication_rests c) c.next_part (now (world before)) (now (world after)) c
            (files (rebuilds.content.before told_new)) cut (λ f m on. on) all_sure (stands_at g asked)

        rebuild_standing : (next : ℕ) → next ≡ c.next_part → IsStanding (Goes g) implication_rests going.step
            next (now (world after)).folder going.last
        rebuild_standing next next_is =
            subst (IsStanding (Goes g) implication_rests going.step next (now (world after)).folder) (sym last)
            (subst (λ k. StandsIn (Goes g) implication_rests going.step k (now (world after)).folder c)
            (sym next_is) stands_still)

        arcs_sure : (f : FileNo) (m : ℕ) → IsMade (arcs_of n (two_files left right) going.step).files f
            → implication_rests c f m → m ≤ (file (world after) f).firm
        arcs_sure f m made on = sure_still (Goes g) implication_rests going.step c.next_part
            (implication_rests c) c (IsMade (arcs_of n (two_files left right) going.step).files) (now (world before))
            (now (world after)) cut stands_still (λ h k at. at)
            (λ h k at mine. front_there product_words c (arcs_of n (two_files left right) going.step) ours.fits
            its_names (reads_of (world before)) all_there h mine k at) f m on made

    rebuild_task : IsOfImplication c n left right → (s : LeqSweep) → Names product_words c (task_of s)
        → task_of s ≡ arcs_of n (two_files left right) going.step
    rebuild_task ours s names =
        let own : Names product_words c (arcs_of n (two_files left right) going.step) =
        subst (λ k. Names product_words c (arcs_of n (two_files left right) k)) come_from.2.step_is ours.names in
        let one = one_machine product_words c names.saved own.saved names.operation own.operation names.holds own.holds in
        λ i. record {
          files = (sym names.files_are ∙ (λ j. saved_files (one j)) ∙ own.files_are) i;
          variables = (sym names.variables_are ∙ (λ j. (one j).variables) ∙ own.variables_are) i;
        }

    rebuild_begun_ok : (IsTrue (tells before) → AreFiles (now (world before)).folder) → IsOfImplication c n left right
        → (s : LeqSweep) → Rebuilds tells world counts c before after (Ok s) → Begins s
    rebuild_begun_ok files ours s rebuilds =
        let number = going.step in
        let task_is = rebuild_task ours s rebuilds.names in
        let step_is : accounts.step s ≡ number = rebuilds.parts.0 ∙ come_from.2.step_is in
        let next_is : accounts.next s ≡ c.next_part = rebuilds.parts.1 in
        let stock = rebuilds.stock in
        let credit = rebuilds.credit in
        let content = rebuild_content files ours (Ok s) rebuilds in
        let budget : 16384 ≤ going.budget = may.budget in
        let shown : going.shown ≡ going.turns = may.going_of.shown_is in
        let turns : going.turns ≡ c.turns = come_from.0 in
        let few_parts = come_from.3 in
        record {
          ready = rebuilds.ready;
          in_step = rebuilds.in_step;
          task_is = task_is;
          step_is = step_is;
          files = subst (λ k. IsOfStep (accounts.makes s) (leq_saving.operands (task_of s)) k (accounts.next s)) step_is
              rebuilds.files;
          made = arcs_behind n left right number earlier s task_is;
          first = come_from.1 ∙ ours.first_sweep;
          paid = record {
            interval = omega (arith, budget);
            shown = omega (arith, shown);
            paid = omega (arith, next_is, stock, few_parts, turns, shown);
          };
          asked = λ told_new g asked.
              let from = from_point g asked in
              let again = rebuilds.remains told_new (refutation_of n g) from.goes.left from.goes.stands in
              record {
                remains = again.0;
                few = let less = again.1 in let few = from.few in omega (arith, less, few, turns);
                operands = operands_firm s task_is (content.did told_new) g asked;
                standing = rebuild_standing files ours (Ok s) rebuilds told_new g asked (accounts.next s) next_is;
                sure = λ d its f m on made.
                    let same : d ≡ c = one_point c d _ last its in
                    arcs_sure files ours (Ok s) rebuilds told_new g asked f m
                    (subst (λ (t : SweepTask). IsMade t.files f) task_is made)
                    (subst (λ k. implication_rests k f m) same on);
              };
          images = rebuild_images files ours (Ok s) rebuilds;
          trusts = λ told_new none. absurd (not_none none);
          content = content;
          within = let most = come_from.2.parts.1 in omega (arith, next_is, most);
          untaken = λ told_new. subst (λ k. NoneFilled number k (world before) (world after)) (sym next_is)
              (none_cut c (RestsOn product_words c) number (world before) (world after) come_from.2.step_is
              come_from.2.parts.0 (rebuilds.content.did told_new));
          owed = subst (λ l. accounts.next s ≤ first_owed l (accounts.next s)) (sym last) (omega (arith, next_is));
          stock = λ none. absurd (not_none none);
          calls = λ told_new.
              let few = rebuild_calls files ours (Ok s) rebuilds told_new in
              subst (λ l. (world after).clock + (accounts.credit s + accounts.stock s / 256)
              ≤ (world before).clock + (11 + rest_calls l (count_of (reads_of (world before) left)
              + count_of (reads_of (world before) right) + count_of (reads_of (world before) right)))) (sym last)
              (omega (arith, few, credit, stock));
          faults = rebuilds.faults;
        }

    pub rebuild_begun : (IsTrue (tells before) → AreFiles (now (world before)).folder)
        → (result : Result LeqSweep SortFault) → IsOfImplication c n left right
        → Rebuilds tells world counts c before after result → IfOk result Begins
    rebuild_begun files (Ok s) ours rebuilds = rebuild_begun_ok files ours s rebuilds
    rebuild_begun files (Err e) ours rebuilds = tt

    pub rebuild_refused : (IsTrue (tells before) → AreFiles (now (world before)).folder)
        → (result : Result LeqSweep SortFault) → IsOfImplication c n left right
        → Rebuilds tells world counts c before after result → IfErr result IsRefused
    rebuild_refused files (Ok s) ours rebuilds = tt
    rebuild_refused files (Err e) ours rebuilds =
        refuses tells world counts (refuting n left right) going local before after (Err e) (record {
          undamaged = λ told_new g asked.
              let from = (from_point g asked).goes in
              rebuilds.undamaged told_new (refutation_of n g) from.left from.stands;
          kind = λ told_new. not_spent (Blames product_words c (world before)) e
              (never_blamed product_words c (world before)) (rebuilds.damage told_new);
          damaged = λ told_new none gate. absurd (not_none none);
          images = rebuild_images files ours (Err e) rebuilds;
          content = rebuild_content files ours (Err e) rebuilds;
          calls = rest_within files ours (Err e) rebuilds;
          soon = omega arith;
          faults = rebuilds.faults;
        })

-- the sweeps of the kind answer the question
pub implied_by : (n : ℕ) (left right : FileNo) (number : ℕ) → IsAnsweredBy sweeps.ghosts (refuting n left right)
    (refutation_of n) (arcs_of n (two_files left right) number) number
implied_by n left right number = record {
  local = λ g. implication_local n left right number g.left g.right;
  goes_on = λ g turns r few goes. record { turns = turns; goes_on = goes; few = few };
  rests = λ c f n on. on;
  apart = apart product_words;
  soon = omega arith;
}

-- a turn finds one of the two files damaged, which were so at first
pub implied_fault : (n : ℕ) (left right : FileNo) (number : ℕ) (t : LeqSweep) (new old : World) (e : SortFault)
    → (left.step < number) × (right.step < number) → task_of t ≡ arcs_of n (two_files left right) number
    → accounts.step t ≡ number → file new left ≡ file old left → file new right ≡ file old right
    → IsDamage t new e ⊎ IsNoDamage e → IsImplicationFault (MissesAsked Unit) n left right old e
implied_fault n left right number t new old e earlier task_is step_is here there (inl damage) =
    let files = ap (λ (x : SweepTask). x.files) task_is in
    let left_apart = not_of_step number 3 left earlier.0 in
    let right_apart = not_of_step number 3 right earlier.1 in
    turn_fault_at t.phase n left right t old new e
    (turn_fault Unit n (operand_files left right right) (rule_of (product_in t).operation)
    (begins_of (product_in t).operation) (product_in t).machine old new e
    (ap (λ (x : SweepTask). x.variables) task_is) (record {
      first = ap (λ (x : Files). x.first) files;
      second = ap (λ (x : Files). x.second) files;
      third = ap (λ (x : Files). x.third) files;
      first_kept = here;
      second_kept = there;
      third_kept = there;
    })
    (subst (λ v. v) (λ i. AreApart (sym files i) (sym step_is i))
    (apart_from (operand_files left right right) (no_parts number) (omega arith) left_apart right_apart right_apart))
    (λ own. product_stays (product_in t).operation.op (bytes_in (product_in t).machine new)))
    damage
implied_fault n left right number t new old Shelf earlier task_is step_is here there (inr none) = tt
implied_fault n left right number t new old (Damaged f at) earlier task_is step_is here there (inr none) = absurd none
implied_fault n left right number t new old RunsSpent earlier task_is step_is here there (inr none) = tt
