-- How writing goes on.
use Rattle.std.proofs.Common.{◌≡◌, ℕ, ◌+◌, ◌≤◌, Bool, refl, ap, subst, ◌∙◌, arith}
use Rattle.std.specs.Prelude.{Result}
use Rattle.shelf_model.specs.declared.file_no.FileNo.{FileNo}
use Rattle.shelf_model.specs.declared.fault.Failed.{Failed}
use Rattle.shelf_model.specs.World.{Moment, World, now}
use Rattle.shelf_model.specs.Calls.{Told, OnShelf, Synced}
use Rattle.shelf_model.proofs.Files.{kept_sync}
use Rattle.shelf_model.proofs.Runs.{told_then, ran_on, ran_end, ran_joins, ran_call, ran_weakens}
use Rattle.shelf_model.specs.Moments.{Stays}
use Rattle.block_stream.specs.Reads.{Looked}
use Rattle.block_stream.specs.Writes.{DuringWrite, Wrote}

-- a sync after a write
synced_then : (f : FileNo) (result : Result Unit Failed) (old mid new : World) → Wrote 1 f old mid → Synced f result mid new → Wrote 2 f old new
synced_then f result old mid new wrote did =
    let before : DuringWrite f (now old) (now mid) = ran_end old mid (DuringWrite f (now old)) wrote.run in
    record {
      run = ran_on old mid new (DuringWrite f (now old)) wrote.run did.shelf (record {
        others = λ q differ. did.others q differ ∙ before.others q differ;
        kept = λ front kept. kept_sync f result mid new front did (before.kept front kept);
      });
      few = let first : mid.clock ≤ old.clock + 1 = wrote.few in let ticks : new.clock ≡ mid.clock + 1 = did.shelf.ticks.clock_is in omega arith;
    }

pub sync_on : {S : Type 0} (tells : S → Bool) (world : S → World) (f : FileNo) (result : Result Unit Failed) (old s t : S)
    → Told tells old s (Wrote 1 f (world old) (world s)) → Told tells s t (Synced f result (world s) (world t)) → Told tells old t (Wrote 2 f (world old) (world t))
sync_on tells world f result old s t wrote call =
    told_then tells old s t _ _ _ wrote call (λ _ first did. synced_then f result (world old) (world s) (world t) first did)

-- a write after a write
wrote_then : (m n : ℕ) (f : FileNo) (old mid new : World) → Wrote m f old mid → Wrote n f mid new → Wrote (m + n) f old new
wrote_then m n f old mid new first second =
    let before : DuringWrite f (now old) (now mid) = ran_end old mid (DuringWrite f (now old)) first.run in
    record {
      run = ran_joins old mid new (DuringWrite f (now old)) first.run
          (ran_weakens mid new (DuringWrite f (now mid)) (DuringWrite f (now old)) (λ m during. record {
            others = λ q differ. during.others q differ ∙ before.others q differ;
            kept = λ front kept. during.kept front (before.kept front kept);
          }) second.run);
      few = let one : mid.clock ≤ old.clock + m = first.few in let two : new.clock ≤ mid.clock + n = second.few in omega arith;
    }

pub wrote_on : {S : Type 0} (tells : S → Bool) (world : S → World) (m n : ℕ) (f g : FileNo) (old s t : S) → g ≡ f
    → Told tells old s (Wrote m f (world old) (world s)) → Told tells s t (Wrote n g (world s) (world t)) → Told tells old t (Wrote (m + n) f (world old) (world t))
wrote_on tells world m n f g old s t same first second =
    told_then tells old s t _ _ _ first second (λ _ one two. wrote_then m n f (world old) (world s) (world t) one (subst (λ h. Wrote n h (world s) (world t)) same two))

-- a look after a look
looked_then : (m n : ℕ) (old mid new : World) → Looked m old mid → Looked n mid new → Looked (m + n) old new
looked_then m n old mid new first second =
    let before : Stays (now old) (now mid) = ran_end old mid (Stays (now old)) first.run in
    record {
      run = ran_joins old mid new (Stays (now old)) first.run (ran_weakens mid new (Stays (now mid)) (Stays (now old)) (λ m stays. stays ∙ before) second.run);
      few = let one : mid.clock ≤ old.clock + m = first.few in let two : new.clock ≤ mid.clock + n = second.few in omega arith;
    }

pub looked_on : {S : Type 0} (tells : S → Bool) (world : S → World) (m n : ℕ) (old s t : S)
    → Told tells old s (Looked m (world old) (world s)) → Told tells s t (Looked n (world s) (world t)) → Told tells old t (Looked (m + n) (world old) (world t))
looked_on tells world m n old s t first second =
    told_then tells old s t _ _ _ first second (λ _ one two. looked_then m n (world old) (world s) (world t) one two)

-- one more call that looks
pub looks_on : {S : Type 0} (tells : S → Bool) (world : S → World) (n : ℕ) (old s t : S) (X : Type 0)
    → Told tells old s (Looked n (world old) (world s)) → Told tells s t X → (X → OnShelf (world s) (world t)) → (X → now (world t) ≡ now (world s)) → Told tells old t (Looked (n + 1) (world old) (world t))
looks_on tells world n old s t X first call on_shelf same =
    told_then tells old s t _ _ _ first call (λ _ one did. looked_then n 1 (world old) (world s) (world t) one (record {
      run = ran_call (world s) (world t) (Stays (now (world s))) (on_shelf did) refl (ap (λ (m : Moment). m.folder) (same did));
      few = let ticks : (world t).clock ≡ (world s).clock + 1 = (on_shelf did).ticks.clock_is in omega arith;
    }))
