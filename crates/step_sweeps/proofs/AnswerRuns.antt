-- A question's sweep that was begun, and then run and saved, to its end or until it was refused.
use Rattle.std.proofs.Common.{◌≡◌, ◌⊎◌, ◌∙◌, ℕ, ◌+◌, ◌-◌, ◌*◌, ◌^◌, ◌<◌, ◌≤◌, max, Bool, List, [], length, ap, sym, subst, refl}
use Rattle.std.proofs.Common.{inl, inr, arith}
use Rattle.std.specs.Prelude.{IsTrue, None, Result, Ok, Err, IsErrOf, IsErrAnd}
use Rattle.shelf_model.specs.declared.file_no.FileNo.{FileNo}
use Rattle.shelf_model.specs.declared.sort_fault.SortFault.{SortFault}
use Rattle.shelf_model.specs.declared.sort_fault.SortFault.TheVariants.{RunsSpent}
use Rattle.shelf_model.specs.Calls.{Told}
use Rattle.shelf_model.specs.Faults.{Faults}
use Rattle.shelf_model.specs.File.{File}
use Rattle.shelf_model.specs.Folder.{Image, AreFiles, IsImage, bytes_in}
use Rattle.shelf_model.specs.Moments.{Ran, Throughout, OnlyChanged}
use Rattle.shelf_model.specs.World.{Moment, World, now, file}
use Rattle.shelf_model.proofs.Changing.{told_changed_then, told_changed_more}
use Rattle.shelf_model.proofs.Runs.{joins}
use Rattle.file_numbers.specs.Files.{checkpoint_file, checkpoint_gate}
use Rattle.run_tiers.specs.Faults.{OnlySortShelf}
use Rattle.run_tiers.proofs.FaultLaws.{sort_shelf_on, sort_shelf_then}
use Rattle.step_going.specs.Standing.{IsLocal, AreSafe}
use Rattle.step_going.proofs.GoneOn.{GoesOnBy, went_safe}
use Rattle.step_going.proofs.Shown.{ShowsSurely, standing_shows, stops_more, stops_join, quiet_stops, saved_stops}
use Rattle.sweep_checkpoint.specs.Going.{IsOfGoing, IsAsBefore, GoesOn, AreSure, TakesParts, TakesCalls, interval_of, first_owed}
use Rattle.sweep_checkpoint.specs.Saves.{gated_size, IsGateSure}
use Rattle.sweep_checkpoint.specs.Stops.{AreStops, StopsCost, stop_calls}
use Rattle.sweep_checkpoint.specs.declared.going.Going.{Going}
use Rattle.sweep_core.specs.declared.checkpoint.Checkpoint.{Checkpoint}
use Rattle.sweep_core.specs.declared.sweep.Sweep as sweep
use Rattle.sweep_core.specs.Accounts.{Accounts, NoneFilled, StayEmpty}
use Rattle.sweep_core.specs.Carries.{IsBehindPoints}
use Rattle.sweep_core.specs.Saving.{IsRestingPlace, reads_of}
use Rattle.sweep_core.specs.Sweeps.{IsNoDamage}
use Rattle.step_sweeps.specs.declared.answers.Answered.{Answered}
use Rattle.step_sweeps.specs.Answers.{Question, IsAsked, IsBehindNodes, Answers}
use Rattle.step_sweeps.specs.Begun.{Begun, IsOnTheWay}
use Rattle.step_sweeps.specs.Going.{MayGoOn, next_of, rest_calls}
use Rattle.step_sweeps.specs.Made.{IsCounted}
use Rattle.step_sweeps.specs.Stops.{shown_by, step_stop}
use Rattle.sweep_checkpoint.specs.Going.{IsPaidTo}
use Rattle.step_sweeps.proofs.AnswerQuiet.{behind_nodes}
use Rattle.step_sweeps.proofs.Costs.{few_saves}
use Rattle.step_sweeps.proofs.Running.{file_stays}
use Rattle.step_sweeps.proofs.StopsAnew.{run_within, held_points, shown_within}
use Rattle.step_sweeps.proofs.AnswerSums.{calls_of, spent_of, few_anew_of}
use Rattle.step_sweeps.proofs.StepStands.{gate_sure, points_there, rests_sure}
use Rattle.step_sweeps.proofs.Unfilled.{none_swept}

-- so many turns and saves were made, and this is what they took, whether the sweep was refused or not
pub record Took {P : Type 0} (accounts : Accounts P) (going : Going) (turns : ℕ) (old new : World) (s t : P) : Type 0 where
  pub saves : ℕ
  pub few : interval_of going.budget * saves + going.shown ≤ max going.shown (going.turns + turns)
  pub parts : TakesParts accounts (turns + 1) saves s t
  pub calls : TakesCalls accounts (turns + 1) saves (first_owed going.last (accounts.next s)) old new s t

-- what is known of a sweep that was run and saved, and of what that left, whichever way it ended
pub record Went {S P : Type 0} (tells : S → Bool) (world : S → World) (kind : sweep.Ghosts P) (going : Going)
    (old new : S) (s t : P) : Type 0 where
  pub content : Told tells old new (Ran (OnlyChanged (IsOfGoing (kind.accounts.makes s) going.step) (now (world old)))
      (world old) (world new))
  pub took : IsTrue (tells new) → (job : kind.Job) → kind.remains s (world old) job
      → Took kind.accounts going (kind.left s (world old) job) (world old) (world new) s t
  pub images : IsTrue (tells new) → (job : kind.Job) → kind.remains s (world old) job
      → AreSure (kind.saving.operands (kind.task s)) going.step (now (world old)).folder → IsPaidTo kind.accounts going s
      → Throughout (world old) (world new) (λ (m : Moment). (image : Image) → IsImage m.folder image
      → IsAsBefore (kind.accounts.makes s) going.step (kind.accounts.next s) (now (world old)).folder (bytes_in image)
      ⊎ GoesOn kind.saving going.step going.sweep (kind.task s) job
      (going.turns + kind.left s (world old) job) (bytes_in image))
  pub stops : IsTrue (tells new) → IsGateSure going.step (now (world old)).folder → 16384 ≤ interval_of going.budget
      → going.shown ≤ going.turns → (job : kind.Job) → kind.remains s (world old) job
      → going.turns + kind.left s (world old) job < 2 ^ 61
      → AreStops going.step going.shown ((world old).clock + stop_calls kind.accounts going s) (world old) (world new)

-- so many turns were made in all, as many as 64 bits count, and this is what they and the saves took
pub record Cost {S P : Type 0} (tells : S → Bool) (world : S → World) (accounts : Accounts P) (going : Going) (turns : ℕ)
    (old new : S) (s t : P) : Type 0 where
  pub saves : ℕ
  pub few : interval_of going.budget * saves + going.shown ≤ turns
  pub parts : TakesParts accounts (turns - going.turns) saves s t
  pub calls : IsTrue (tells new) → TakesCalls accounts (turns - going.turns) saves
      (first_owed going.last (accounts.next s)) (world old) (world new) s t

-- the sweeps of the kind answer the question: where one goes on the step does, from checkpoints that rest on no less
pub record IsAnsweredBy {Given P : Type 0} (kind : sweep.Ghosts P) (q : Question Given) (job_of : Given → kind.Job)
    (task : kind.Task) (step : ℕ) : Type 0 where
  pub local : (g : Given) → IsLocal (q.goes_on step g) q.rests step
  pub goes_on : (g : Given) (turns : ℕ) (r : FileNo → List ℕ) → turns < q.work g
      → GoesOn kind.saving step 0 task (job_of g) turns r → q.goes_on step g r
  pub rests : (c : Checkpoint) (f : FileNo) (n : ℕ) → q.rests c f n → kind.saving.rests c f n
  pub apart : (c : Checkpoint) (text : List ℕ) (f : FileNo) (n : ℕ) → kind.saving.fits c text → kind.saving.rests c f n
      → IsRestingPlace c f
  -- and to begin one takes few calls
  pub soon : q.some ≤ 11

module _ {S Given P : Type 0} (tells : S → Bool) (world : S → World) (counts : S → Faults) (kind : sweep.Ghosts P)
    (q : Question Given) (job_of : Given → kind.Job) (task : kind.Task) (going : Going)
    (may : MayGoOn going) (by : IsAnsweredBy kind q job_of task going.step) (before mid after : S) (s t : P)
    (begun : Begun tells world counts kind q job_of task going before mid s)
    (went : Went tells world kind going mid after s t) where
  -- only files of the step behind its node file are changed
  pub went_content : Told tells before after
      (Ran (OnlyChanged (IsBehindNodes going.step) (now (world before))) (world before) (world after))
  went_content = told_changed_then tells world (IsBehindNodes going.step) (IsOfGoing (kind.accounts.makes s) going.step)
      before mid after (λ f is. elim is [
        | inl mine ↦ behind_nodes going.step f (begun.made f mine)
        | inr rest ↦ record { step_is = rest.0; from = rest.1 }
      ]) (told_changed_more tells world (IsBehindPoints going.step) (IsBehindNodes going.step) before mid
      (λ f behind. behind_nodes going.step f behind) begun.content) went.content

  -- files of earlier steps are as they were
  pub earlier_stays : IsTrue (tells after) → (f : FileNo) → f.step < going.step
      → file (world after) f ≡ file (world before) f
  earlier_stays tells_new f earlier =
      file_stays (IsBehindNodes going.step) (world before) (world after) f
      (λ behind. let same : f.step ≡ going.step = behind.step_is in absurd (omega (arith, same, earlier)))
      (went_content.did tells_new)

  -- where no checkpoint was gated, none is behind the beginning
  none_gated : IsTrue (tells mid) → reads_of (world before) (checkpoint_gate going.step) ≡ []
      → gated_size going.step (now (world mid)).folder ≤ length (file (world mid) (checkpoint_file going.step)).bytes
  none_gated told_mid empty =
      let same : file (world mid) (checkpoint_gate going.step) ≡ file (world before) (checkpoint_gate going.step) =
      file_stays (IsBehindPoints going.step) (world before) (world mid) (checkpoint_gate going.step)
      (λ behind. let from = behind.from in absurd (omega (arith, from))) (begun.content.did told_mid) in
      let none : length (file (world mid) (checkpoint_gate going.step)).bytes ≡ 0 =
      ap (λ (x : File). length x.bytes) same ∙ ap length empty in
      omega (arith, none)

  -- a step that is asked of these tables
  module _ (tells_new : IsTrue (tells after)) (g : Given) (asked : IsAsked q going (world before) g) where
    pub on_the_way : IsOnTheWay kind q (job_of g) going s (world mid) g
    on_the_way = begun.asked (went.content.before tells_new) g asked

    went_sure : AreSure (kind.saving.operands (kind.task s)) going.step (now (world mid)).folder
    went_sure = record {
      gate = gate_sure (q.goes_on going.step g) q.rests going.step (kind.accounts.next s)
          (now (world mid)).folder going.last on_the_way.standing;
      operands_are = on_the_way.operands;
    }

    goes_on_by : GoesOnBy kind.saving (q.goes_on going.step g) q.rests going.step going.sweep
        (kind.task s) (job_of g) (going.turns + kind.left s (world mid) (job_of g))
    goes_on_by = record {
      goes_on = λ r goes. by.goes_on g (going.turns + kind.left s (world mid) (job_of g)) r on_the_way.few
          (subst (λ v. GoesOn kind.saving going.step v task (job_of g)
          (going.turns + kind.left s (world mid) (job_of g)) r) begun.first
          (subst (λ k. GoesOn kind.saving going.step going.sweep k (job_of g)
          (going.turns + kind.left s (world mid) (job_of g)) r) begun.task_is goes));
      rests_within = λ r goes. by.rests goes.point;
      apart = by.apart;
    }

    -- whatever a stop leaves can be begun or gone on with
    pub went_images : Throughout (world before) (world after)
        (λ (m : Moment). AreSafe (q.goes_on going.step g) going.step m.folder)
    went_images = joins (world before) (world mid) (world after)
        (λ m. AreSafe (q.goes_on going.step g) going.step m.folder)
        (begun.images (went.content.before tells_new) g asked)
        (went_safe kind.saving (q.goes_on going.step g) q.rests going.step going.sweep
        (kind.task s) (job_of g) (going.turns + kind.left s (world mid) (job_of g)) (by.local g) goes_on_by
        (kind.accounts.makes s) (kind.accounts.next s) (world mid) (world after) going.last on_the_way.standing
        (rests_sure q.rests (kind.accounts.makes s) (now (world mid)).folder going.last on_the_way.sure)
        (went.images tells_new (job_of g) on_the_way.remains went_sure begun.paid))

    -- what the turns and the saves take is within the step's work
    went_took : Took kind.accounts going (kind.left s (world mid) (job_of g)) (world mid) (world after) s t
    went_took = went.took tells_new (job_of g) on_the_way.remains

    took_few : 16384 * went_took.saves ≤ kind.left s (world mid) (job_of g)
    took_few =
        let shown : going.shown ≡ going.turns = may.going_of.shown_is in
        let few = went_took.few in
        let saves = few_saves (interval_of going.budget) went_took.saves going.shown _ begun.paid.interval few in
        omega (arith, shown, saves)

    pub went_few_calls : (world after).clock ≤ (world before).clock
        + (229 * q.work g + q.some + rest_calls going.last (q.nodes (reads_of (world before))))
    went_few_calls =
        let few = took_few in
        let way = on_the_way.few in
        let calls = calls_of (kind.left s (world mid) (job_of g) + 1) went_took.saves
        (first_owed going.last (kind.accounts.next s)) (kind.accounts.next s) (kind.accounts.next t)
        (kind.accounts.stock s) (kind.accounts.stock t) (kind.accounts.credit s) (kind.accounts.credit t)
        (q.some + rest_calls going.last (q.nodes (reads_of (world before)))) (world before).clock (world mid).clock
        (world after).clock (begun.calls (went.content.before tells_new)) went_took.calls.paid went_took.parts.spent
        begun.owed (omega (arith, few)) in
        omega (arith, calls, way)

    pub went_spent : 2 ^ 32 ≤ kind.accounts.next t → 2 ^ 35 ≤ q.work g
    went_spent spent =
        let paid = begun.paid.paid in
        let shown : going.shown ≡ going.turns = may.going_of.shown_is in
        spent_of going.turns (kind.left s (world mid) (job_of g)) went_took.saves (kind.accounts.next s)
        (kind.accounts.next t) (kind.accounts.stock s) (kind.accounts.stock t) (q.work g) (omega (arith, paid, shown))
        went_took.parts.spent took_few on_the_way.few spent

    -- each image shows at first what the last checkpoint shows, and likewise where the sweep was begun
    pub shows_first : ShowsSurely going.step (shown_by going.last) (now (world before)).folder
    shows_first = standing_shows (q.goes_on going.step g) q.rests going.step
        (next_of going.last) (now (world before)).folder going.last asked.standing

    shows_begun : ShowsSurely going.step (shown_by going.last) (now (world mid)).folder
    shows_begun = standing_shows (q.goes_on going.step g) q.rests going.step
        (kind.accounts.next s) (now (world mid)).folder going.last on_the_way.standing

    -- what a stop costs while it is begun, and while it is run and saved
    pub went_stops : q.work g < 2 ^ 61 → StopsCost going.step (shown_by going.last)
        ((world before).clock + (step_stop + rest_calls going.last (q.nodes (reads_of (world before)))))
        (world before) (world after)
    went_stops work =
        let most : ℕ = (world before).clock + (step_stop + rest_calls going.last (q.nodes (reads_of (world before)))) in
        let begin = begun.content.did (went.content.before tells_new) in
        let run = went.content.did tells_new in
        let calls = begun.calls (went.content.before tells_new) in
        let soon = by.soon in
        let few = on_the_way.few in
        stops_join going.step (shown_by going.last) most (world before) (world mid) (world after) run.moments.past
        (quiet_stops going.step (shown_by going.last) most (world before) (world mid) shows_first
        (held_points (IsBehindPoints going.step) going.step (world before) (world mid)
        (λ behind. let from = behind.from in absurd (omega (arith, from)))
        (λ behind. let from = behind.from in absurd (omega (arith, from))) begin) (omega (arith, calls, soon)))
        (stops_more going.step (shown_by going.last) ((world mid).clock + stop_calls kind.accounts going s) most
        (world mid) (world after) (run_within going (kind.accounts.credit s) (kind.accounts.next s)
        (kind.accounts.stock s) (world before).clock (world mid).clock
        (q.some + rest_calls going.last (q.nodes (reads_of (world before)))) (step_stop
        + rest_calls going.last (q.nodes (reads_of (world before)))) calls begun.owed (omega (arith, soon)))
        (saved_stops going.step (shown_by going.last) going.shown ((world mid).clock + stop_calls kind.accounts going s)
        (world mid) (world after) shows_begun (shown_within may)
        (went.stops tells_new went_sure.gate begun.paid.interval begun.paid.shown (job_of g) on_the_way.remains
        (omega (arith, few, work)))))

    went_covered : AreFiles (now (world mid)).folder
        → gated_size going.step (now (world mid)).folder ≤ length (file (world mid) (checkpoint_file going.step)).bytes
    went_covered files = points_there (q.goes_on going.step g) q.rests going.step
        (kind.accounts.next s) (now (world mid)).folder going.last files on_the_way.standing

  fault_is : (e : SortFault) → IsErrOf {T = Answered} (Err e) RunsSpent → e ≡ RunsSpent
  fault_is e is = cc

  -- why it was refused
  pub record IsRefused (e : SortFault) : Type 0 where
    pub undamaged : IsTrue (tells after) → (job : kind.Job) → kind.remains s (world mid) job
        → gated_size going.step (now (world mid)).folder ≤ length (file (world mid) (checkpoint_file going.step)).bytes
        → IsNoDamage e
    pub covered : IsTrue (tells after) → kind.trusts s (world mid)
        → gated_size going.step (now (world mid)).folder ≤ length (file (world mid) (checkpoint_file going.step)).bytes
        → kind.damaged t (world after) e ⊎ IsNoDamage e
    pub spent : e ≡ RunsSpent → 2 ^ 32 ≤ kind.accounts.next t
    pub faults : OnlySortShelf {T = Unit} (counts mid) (counts after) (Err e)

  pub refused : (e : SortFault) → (IsTrue (tells mid) → AreFiles (now (world mid)).folder) → IsRefused e
      → (IsTrue (tells after) → kind.damaged t (world after) e ⊎ IsNoDamage e → q.is_fault (world before) e)
      → Answers tells world counts q going before after (Err e)
  refused e files r fault = record {
    answer = tt;
    undamaged = λ tells_new g asked. r.undamaged tells_new (job_of g) (on_the_way tells_new g asked).remains
        (went_covered tells_new g asked (files (went.content.before tells_new)));
    spent = λ spent tells_new g asked. went_spent tells_new g asked (r.spent (fault_is e spent));
    few_calls = went_few_calls;
    images = went_images;
    damaged = λ tells_new none empty.
        let told_mid = went.content.before tells_new in
        fault tells_new (r.covered tells_new (begun.trusts told_mid none) (none_gated told_mid empty));
    content = went_content;
    counted = tt;
    few_anew = tt;
    untaken = tt;
    calls = tt;
    grew = tt;
    stops = λ tells_new g asked. went_stops tells_new g asked;
    faults = sort_shelf_then (counts before) (counts mid) (counts after) (Ok s) (Err e) begun.faults
        (sort_shelf_on (counts mid) (counts after) e (Err e) refl r.faults);
  }

  -- it has ended, behind so many turns of the step in all
  pub record HasEnded (turns : ℕ) : Type 0 where
    pub keeps : IsTrue (tells after) → (job : kind.Job) → kind.remains s (world mid) job
        → kind.remains t (world after) job
    pub few : IsTrue (tells after) → (job : kind.Job) → kind.remains s (world mid) job
        → turns ≤ going.turns + kind.left s (world mid) job + 1
    pub cost : turns < 2 ^ 64 - 1 → Cost tells world kind.accounts going turns mid after s t
    pub grew : going.turns ≤ turns
    pub more : kind.accounts.next s ≤ kind.accounts.next t
    pub untaken : IsTrue (tells after)
        → StayEmpty (kind.accounts.makes s) going.step (kind.accounts.next t) (world mid) (world after)
    pub faults : OnlySortShelf {T = Unit} (counts mid) (counts after) (Ok tt)

  went_calls : (turns : ℕ) → IsTrue (tells after) → Cost tells world kind.accounts going turns mid after s t
      → (world after).clock ≤ (world before).clock + (229 * (turns - going.turns) + q.some
      + rest_calls going.last (q.nodes (reads_of (world before))))
  went_calls turns tells_new cost =
      let shown : going.shown ≡ going.turns = may.going_of.shown_is in
      let saves = few_saves (interval_of going.budget) cost.saves going.shown turns begun.paid.interval cost.few in
      let calls = calls_of (turns - going.turns) cost.saves
      (first_owed going.last (kind.accounts.next s)) (kind.accounts.next s) (kind.accounts.next t)
      (kind.accounts.stock s) (kind.accounts.stock t) (kind.accounts.credit s) (kind.accounts.credit t)
      (q.some + rest_calls going.last (q.nodes (reads_of (world before)))) (world before).clock (world mid).clock
      (world after).clock (begun.calls (went.content.before tells_new)) (cost.calls tells_new).paid cost.parts.spent
      begun.owed (omega (arith, shown, saves)) in
      omega (arith, calls)

  pub answered : (a : Answered) → HasEnded a.turns → IsCounted a.turns a.next
      → a.next ≡ kind.accounts.next t
      → (IsTrue (tells after) → (g : Given) → kind.remains t (world after) (job_of g) → a.answer ≡ q.answer g)
      → Answers tells world counts q going before after (Ok a)
  answered a ended counted next_is right = record {
    answer = λ tells_new g asked.
        let way = on_the_way tells_new g asked in
        let few = ended.few tells_new (job_of g) way.remains in
        let within = way.few in
        record {
          answer_is = right tells_new g (ended.keeps tells_new (job_of g) way.remains);
          few = omega (arith, few, within);
        };
    undamaged = tt;
    spent = λ spent. absurd (cc);
    few_calls = went_few_calls;
    images = went_images;
    damaged = tt;
    content = went_content;
    untaken = λ told. subst (λ k. NoneFilled going.step k (world before) (world after)) (sym next_is)
        (none_swept (kind.accounts.makes s) (kind.saving.operands (kind.task s)) going.step (kind.accounts.next s)
        (kind.accounts.next t) (world before) (world mid) (world after) begun.files ended.more
        (begun.untaken (went.content.before told)) (ended.untaken told));
    counted = counted;
    few_anew = λ none.
        let first : first_owed going.last (kind.accounts.next s) ≡ first_owed None (kind.accounts.next s) =
        ap (λ last. first_owed last (kind.accounts.next s)) none in
        let owed = begun.owed in
        few_anew_of a.turns going.turns a.next (kind.accounts.next s) (kind.accounts.next t) (kind.accounts.stock s)
        (kind.accounts.stock t) (omega (arith, owed, first)) (begun.stock none) (omega (arith, next_is)) counted.below (λ below.
        let cost = ended.cost below in
        let saves = few_saves (interval_of going.budget) cost.saves going.shown a.turns begun.paid.interval cost.few in
        (cost.saves, omega (arith, saves), cost.parts.spent));
    calls = λ tells_new below. went_calls a.turns tells_new (ended.cost below);
    grew = ended.grew;
    stops = λ tells_new g asked. went_stops tells_new g asked;
    faults = sort_shelf_then (counts before) (counts mid) (counts after) (Ok s) (Ok a) begun.faults
        (record {
          later = ended.faults.later;
          cause = λ is. cc;
          say_is = ended.faults.say_is;
          text_is = ended.faults.text_is;
        });
  }

-- what is answered where a fault is handed on
pub answers_on : {S Given : Type 0} (tells : S → Bool) (world : S → World) (counts : S → Faults) (q : Question Given)
    (going : Going) (before after : S) (e : SortFault) (r : Result Answered SortFault) → IsErrAnd r (λ x. x ≡ e)
    → Answers tells world counts q going before after (Err e) → Answers tells world counts q going before after r
answers_on tells world counts q going before after e (Ok a) is answers = absurd is
answers_on tells world counts q going before after e (Err x) is answers =
    subst (λ y. Answers tells world counts q going before after (Err y)) (sym is) answers
