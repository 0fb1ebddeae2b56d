-- The beginning of a question's sweep that changes no file: each image stays safe, and the step stands with its last
-- checkpoint.
use Rattle.std.proofs.Common.{◌≡◌, ◌≢◌, ◌⊎◌, ◌∙◌, ℕ, ◌+◌, ◌≤◌, Bool, [], ap, sym, subst, refl, inl, inr, arith}
use Rattle.std.specs.Prelude.{◌<◌, IsTrue, Result, Ok, Err, IfErr, IsErrOf, Option, Some, None}
use Rattle.shelf_model.specs.declared.file_no.FileNo.{FileNo}
use Rattle.shelf_model.specs.declared.sort_fault.SortFault.{SortFault}
use Rattle.shelf_model.specs.declared.sort_fault.SortFault.TheVariants.{RunsSpent}
use Rattle.shelf_model.specs.Calls.{Told}
use Rattle.shelf_model.specs.Faults.{Faults}
use Rattle.shelf_model.specs.Folder.{Folder, file_in}
use Rattle.shelf_model.specs.Moments.{Ran, Stays, Throughout, OnlyChanged}
use Rattle.shelf_model.specs.World.{Moment, World, now, file}
use Rattle.shelf_model.proofs.Changing.{told_changed_more}
use Rattle.shelf_model.proofs.Runs.{told, ran_weakens, ran_end}
use Rattle.file_numbers.specs.Files.{inner_part, checkpoint_gate}
use Rattle.run_tiers.specs.Faults.{OnlySortShelf}
use Rattle.run_tiers.specs.Syncs.{IsFirm}
use Rattle.run_tiers.proofs.FaultLaws.{sort_shelf_on}
use Rattle.step_going.specs.Standing.{IsLocal, AreSafe, IsStanding}
use Rattle.step_going.proofs.Kept.{rests_apart, safe_along, standing_along}
use Rattle.step_going.proofs.Shown.{standing_shows, quiet_stops}
use Rattle.sweep_checkpoint.specs.Retires.{first_taken}
use Rattle.sweep_checkpoint.specs.declared.going.Going.{Going}
use Rattle.sweep_core.specs.declared.checkpoint.Checkpoint.{Checkpoint}
use Rattle.sweep_core.specs.declared.sweep.Sweep as sweep
use Rattle.sweep_core.specs.Carries.{OnlyCutBehind, IsBehindPoints}
use Rattle.sweep_core.specs.Saving.{reads_of}
use Rattle.sweep_core.specs.Sweeps.{IsNoDamage}
use Rattle.step_sweeps.specs.declared.answers.Answered.{Answered}
use Rattle.step_sweeps.specs.Answers.{Question, IsAsked, IsBehindNodes, Answers}
use Rattle.step_sweeps.specs.Begun.{Begun}
use Rattle.step_sweeps.specs.Going.{MayGoOn, next_of, rest_calls}
use Rattle.step_sweeps.specs.Stops.{shown_by, step_stop}
use Rattle.step_sweeps.proofs.StopsAnew.{held_points}
use Rattle.step_sweeps.proofs.Unfilled.{none_quiet}

-- no file changes
abbrev pub Unchanged : World → World → Type 0
Unchanged old new = Ran (OnlyChanged (λ f. ⊥) (now old)) old new

-- none is changed where the folder stays as it is
pub stays_unchanged : (old new : World) → Ran (Stays (now old)) old new → Unchanged old new
stays_unchanged old new run = ran_weakens old new (Stays (now old)) (OnlyChanged (λ f. ⊥) (now old))
    (λ m stays f outside. ap (λ (d : Folder). file_in d f) stays) run

-- nor by a rebuild from a checkpoint that rests on all of each file on which it rests
pub rebuilt_unchanged : (c : Checkpoint) (held : FileNo → ℕ → Type 0) (old new : World)
    → ((f : FileNo) → ((n : ℕ) → held f n) ⊎ (¬ (held f 0))) → Ran (OnlyCutBehind c held (now old)) old new
    → Unchanged old new
rebuilt_unchanged c held old new each ran = ran_weakens old new (OnlyCutBehind c held (now old)) _
    (λ m cut f outside. elim (each f) [ inl all ↦ cut.whole f all | inr none ↦ cut.others f none ]) ran

-- what is behind the checkpoints is behind the node file
pub behind_nodes : (step : ℕ) (f : FileNo) → IsBehindPoints step f → IsBehindNodes step f
behind_nodes step f behind = record { step_is = behind.step_is; from = let from = behind.from in omega (arith, from) }

-- each file is as it was
pub file_unchanged : (old new : World) → Unchanged old new → (f : FileNo) → file new f ≡ file old f
file_unchanged old new run f = ran_end old new (OnlyChanged (λ f. ⊥) (now old)) run f (λ changed. changed)

module _ {S Given : Type 0} (tells : S → Bool) (world : S → World) (counts : S → Faults) (q : Question Given)
    (going : Going) (local : (g : Given) → IsLocal (q.goes_on going.step g) q.rests going.step)
    (before after : S) where
  -- what a sweep leaves that couldn't be begun
  pub record Refuses {P : Type 0} (result : Result P SortFault) : Type 0 where
    pub undamaged : IfErr result (λ e. IsTrue (tells after) → (g : Given) → IsAsked q going (world before) g
        → IsNoDamage e)
    pub kind : IfErr result (λ e. IsTrue (tells after) → e ≢ RunsSpent)
    pub damaged : IfErr result (λ e. IsTrue (tells after) → going.last ≡ None
        → reads_of (world before) (checkpoint_gate going.step) ≡ [] → q.is_fault (world before) e)
    pub images : IsTrue (tells after) → (g : Given) → IsAsked q going (world before) g
        → Throughout (world before) (world after)
        (λ (m : Moment). AreSafe (q.goes_on going.step g) going.step m.folder)
    pub content : Told tells before after
        (Ran (OnlyChanged (IsBehindPoints going.step) (now (world before))) (world before) (world after))
    pub calls : IsTrue (tells after) → (world after).clock
        ≤ (world before).clock + (q.some + rest_calls going.last (q.nodes (reads_of (world before))))
    pub soon : q.some ≤ 11
    pub faults : OnlySortShelf (counts before) (counts after) result

  -- the fault of such a result
  fault_is : (e : SortFault) → IsErrOf {T = Answered} (Err e) RunsSpent → e ≡ RunsSpent
  fault_is e is = cc

  pub refuses : {P : Type 0} (result : Result P SortFault) → Refuses result
      → IfErr result (λ e. Answers tells world counts q going before after (Err e))
  refuses (Ok s) r = tt
  refuses (Err e) r = record {
    answer = tt;
    undamaged = r.undamaged;
    spent = λ spent tells_new g asked. absurd (r.kind tells_new (fault_is e spent));
    few_calls = λ tells_new g asked. let few = r.calls tells_new in omega (arith, few);
    images = r.images;
    damaged = r.damaged;
    content = told_changed_more tells world (IsBehindPoints going.step) (IsBehindNodes going.step) before after
        (λ f behind. behind_nodes going.step f behind) r.content;
    counted = tt;
    few_anew = tt;
    untaken = tt;
    calls = tt;
    grew = tt;
    stops = λ tells_new g asked work.
        let few = r.calls tells_new in
        let soon = r.soon in
        quiet_stops going.step (shown_by going.last)
        ((world before).clock + (step_stop + rest_calls going.last (q.nodes (reads_of (world before)))))
        (world before) (world after)
        (standing_shows (q.goes_on going.step g) q.rests going.step (next_of going.last)
        (now (world before)).folder going.last asked.standing)
        (held_points (IsBehindPoints going.step) going.step (world before) (world after)
        (λ behind. let from = behind.from in absurd (omega (arith, from)))
        (λ behind. let from = behind.from in absurd (omega (arith, from))) (r.content.did tells_new))
        (omega (arith, few, soon));
    faults = sort_shelf_on _ _ e (Err e) refl r.faults;
  }

  -- no file was changed, and so none of the gate, the checkpoints and what the last one rests on
  module _ (quiet : Told tells before after (Unchanged (world before) (world after))) where
    pub quiet_content : Told tells before after
        (Ran (OnlyChanged (IsBehindPoints going.step) (now (world before))) (world before) (world after))
    quiet_content = told_changed_more tells world (λ f. ⊥) (IsBehindPoints going.step) before after
        (λ f none. absurd none) quiet

    pub quiet_images : IsTrue (tells after) → (g : Given) → IsAsked q going (world before) g
        → Throughout (world before) (world after)
        (λ (m : Moment). AreSafe (q.goes_on going.step g) going.step m.folder)
    quiet_images tells_new g asked = safe_along (q.goes_on going.step g) q.rests going.step
        (local g) (λ f. ⊥) (next_of going.last) going.last (λ none. none)
        (rests_apart q.rests (λ f. ⊥) going.step going.last (λ none. none) (λ c f n is none. none)) tells world before after
        quiet (λ tells_old. asked.standing) tells_new

    pub quiet_standing : IsTrue (tells after) → (g : Given) → IsAsked q going (world before) g
        → IsStanding (q.goes_on going.step g) q.rests going.step (next_of going.last)
        (now (world after)).folder going.last
    quiet_standing tells_new g asked = standing_along (q.goes_on going.step g) q.rests going.step
        (local g) (λ f. ⊥) (next_of going.last) going.last (λ none. none)
        (rests_apart q.rests (λ f. ⊥) going.step going.last (λ none. none) (λ c f n is none. none)) tells world before after
        quiet (λ tells_old. asked.standing) tells_new

  -- the step's last checkpoint is none of the question's sweep, so that doesn't begin, and nothing was changed
  pub refuses_foreign : (c : Checkpoint) → going.last ≡ Some c → (1 ≤ q.some) × (q.some ≤ 11) → (e : SortFault)
      → ((g : Given) → ¬ (IsAsked q going (world before) g)) → e ≢ RunsSpent
      → Told tells before after (Ran (Stays (now (world before))) (world before) (world after))
      → (IsTrue (tells after) → (world after).clock ≤ (world before).clock + 1)
      → OnlySortShelf {T = Unit} (counts before) (counts after) (Err e)
      → Answers tells world counts q going before after (Err e)
  refuses_foreign c last some e foreign kind content calls faults =
      let quiet = told tells before after _ _ content
      (λ _ stays. stays_unchanged (world before) (world after) stays) in
      refuses (Err e) (record {
        undamaged = λ told_new g asked. absurd (foreign g asked);
        kind = λ told_new. kind;
        damaged = λ told_new none gate. absurd (cc);
        images = quiet_images quiet;
        content = quiet_content quiet;
        calls = λ told_new. let few = calls told_new in let one = some.0 in omega (arith, few, one);
        soon = some.1;
        faults = faults;
      })

-- the first part that was taken since a checkpoint is one of a run
pub taken_from : (last : Option Checkpoint) → 5 ≤ first_taken last
taken_from None = omega arith
taken_from (Some c) = omega arith

-- a sweep of a question that only reads, behind such a beginning
module _ {S Given P : Type 0} (tells : S → Bool) (world : S → World) (counts : S → Faults) (kind : sweep.Ghosts P)
    (q : Question Given) (job_of : Given → kind.Job) (task : kind.Task) (going : Going) (may : MayGoOn going)
    (local : (g : Given) → IsLocal (q.goes_on going.step g) q.rests going.step)
    (before after : S) (s : P) where
  -- it makes no file, takes no part, and reads files of earlier steps
  pub record OnlyReads : Type 0 where
    pub task_is : kind.task s ≡ task
    pub none_made : (f : FileNo) → ¬ (kind.accounts.makes s f)
    pub step_is : kind.accounts.step s ≡ going.step
    pub next_is : kind.accounts.next s ≡ inner_part
    pub none_owed : kind.accounts.credit s + kind.accounts.stock s ≡ 0
    pub earlier : (f : FileNo) → kind.saving.operands (kind.task s) f → f.step < going.step

  pub record IsBegun : Type 0 where
    pub ready : kind.ready s
    pub in_step : IsTrue (tells after) → kind.in_step s (world after)
    pub trusts : IsTrue (tells after) → going.last ≡ None → kind.trusts s (world after)
    pub first : going.sweep ≡ 0
    pub none_taken : next_of going.last ≡ inner_part
    pub operands : IsTrue (tells after) → (g : Given) → IsAsked q going (world before) g → (f : FileNo)
        → kind.saving.operands (kind.task s) f → IsFirm (file (world before) f)
    pub remains : IsTrue (tells after) → (g : Given) → IsAsked q going (world before) g
        → kind.remains s (world after) (job_of g)
    pub few : IsTrue (tells after) → (g : Given) → IsAsked q going (world before) g
        → going.turns + kind.left s (world after) (job_of g) < q.work g
    pub quiet : Told tells before after (Unchanged (world before) (world after))
    pub calls : IsTrue (tells after) → (world after).clock
        ≤ (world before).clock + (q.some + rest_calls going.last (q.nodes (reads_of (world before))))
    pub faults : OnlySortShelf (counts before) (counts after) (Ok s)

  pub begun_reading : OnlyReads → IsBegun → Begun tells world counts kind q job_of task going before after s
  begun_reading reads b =
      let next : kind.accounts.next s ≡ 3 = reads.next_is in
      let owed : kind.accounts.credit s + kind.accounts.stock s ≡ 0 = reads.none_owed in
      let shown : going.shown ≡ going.turns = may.going_of.shown_is in
      let budget : 16384 ≤ going.budget = may.budget in
      let taken : 5 ≤ first_taken going.last = taken_from going.last in
      record {
        ready = b.ready;
        in_step = b.in_step;
        task_is = reads.task_is;
        step_is = reads.step_is;
        files = record {
          parts = omega (arith, next);
          made = λ f mine. absurd (reads.none_made f mine);
          others = λ f read. inl (λ same. let before : f.step < going.step = reads.earlier f read in
              absurd (omega (arith, same, before)));
          apart = λ f read mine. reads.none_made f mine;
        };
        made = λ f mine. absurd (reads.none_made f mine);
        first = b.first;
        paid = record {
          interval = omega (arith, budget);
          shown = omega (arith, shown);
          paid = omega (arith, next, owed);
        };
        asked = λ told g asked. record {
          remains = b.remains told g asked;
          few = b.few told g asked;
          operands = λ f read. subst IsFirm (sym (file_unchanged (world before) (world after) (b.quiet.did told) f))
              (b.operands told g asked f read);
          standing = subst (λ next. IsStanding (q.goes_on going.step g) q.rests going.step next
              (now (world after)).folder going.last) (b.none_taken ∙ sym reads.next_is)
              (quiet_standing tells world counts q going local before after b.quiet told g asked);
          sure = λ c last f n on mine. absurd (reads.none_made f mine);
        };
        images = quiet_images tells world counts q going local before after b.quiet;
        trusts = b.trusts;
        content = quiet_content tells world counts q going local before after b.quiet;
        within = omega (arith, next);
        untaken = λ told. none_quiet going.step (kind.accounts.next s) (world before) (world after)
            (λ f. file_unchanged (world before) (world after) (b.quiet.did told) f);
        owed = omega (arith, next, taken);
        stock = λ none. omega (arith, owed);
        calls = λ told. let few = b.calls told in omega (arith, few, owed);
        faults = b.faults;
      }
