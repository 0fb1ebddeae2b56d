-- What leaves a step standing: changes of files on which it doesn't rest, a sweep of it that goes on or is made ready to
-- be saved, and one that is rebuilt.
use Rattle.std.proofs.Common.{◌≡◌, ◌⊎◌, ℕ, ◌*◌, ◌≤◌, Bool, List, length, take, refl, sym, ap, subst, ◌∙◌, inl, inr, arith}
use Rattle.std.specs.Prelude.{IsTrue, Option, Some, None}
use Rattle.std.proofs.lemmas.List.{length-take-le}
use Rattle.shelf_model.specs.declared.file_no.FileNo.{FileNo}
use Rattle.shelf_model.specs.File.{File, firm_file, IsFile, IsKept}
use Rattle.shelf_model.specs.Folder.{Folder, file_in, AreFiles, OnlyChanges}
use Rattle.shelf_model.specs.World.{Moment, World, now}
use Rattle.shelf_model.specs.Calls.{Told}
use Rattle.shelf_model.specs.Moments.{Throughout, Ran, OnlyChanged, Quiet}
use Rattle.shelf_model.proofs.Runs.{weakens, ran_end}
use Rattle.file_numbers.specs.Files.{checkpoint_file, checkpoint_gate}
use Rattle.run_tiers.specs.Syncs.{IsFirm}
use Rattle.sweep_core.specs.declared.checkpoint.Checkpoint.{Checkpoint}
use Rattle.sweep_core.specs.Accounts.{CanBeTaken}
use Rattle.sweep_core.specs.Saving.{IsMadePart, IsOfStep}
use Rattle.sweep_core.specs.Carries.{OnlySaved, OnlyCutBehind}
use Rattle.sweep_checkpoint.specs.Gated.{present, last_gated}
use Rattle.sweep_checkpoint.specs.Saves.{gated_size}
use Rattle.sweep_checkpoint.proofs.AsBefore.{same_last, points_stay, gate_stays}
use Rattle.step_going.specs.Standing.{IsLocal, AreSafe, StandsIn, IsStanding}
use Rattle.step_going.proofs.Deciding.{either_way, cases_bytes, cases_sure}
use Rattle.step_going.proofs.Gated.{last_as}
use Rattle.step_going.proofs.Safe.{RestsSure, safe_standing}

-- neither the checkpoints of the step are among these files, where one is gated, nor a file on which the last one rests
abbrev pub RestsApart : (Checkpoint → FileNo → ℕ → Type 0) → (FileNo → Type 0) → ℕ → Option Checkpoint → Type 0
RestsApart rests these step None = Unit
RestsApart rests these step (Some c) = (¬ (these (checkpoint_file step))) × ((f : FileNo) (n : ℕ) → rests c f n → ¬ (these f))

-- so it is of any last one, where they are no checkpoints of the step and none on which any rests
pub rests_apart : (rests : Checkpoint → FileNo → ℕ → Type 0) (these : FileNo → Type 0) (step : ℕ) (last : Option Checkpoint)
    → ¬ (these (checkpoint_file step)) → ((c : Checkpoint) (f : FileNo) (n : ℕ) → rests c f n → ¬ (these f)) → RestsApart rests these step last
rests_apart rests these step None points other = tt
rests_apart rests these step (Some c) points other = (points, other c)

-- what stays of a file on which a checkpoint rests: its front gives what it gave, and is sure
pub record Stays (old m : Folder) (f : FileNo) (n : ℕ) : Type 0 where
  pub same : take n (file_in m f).bytes ≡ take n (file_in old f).bytes
  pub sure : IsFirm (file_in m f) ⊎ (n ≤ (file_in m f).firm)

-- a file that is as it was
stays_same : (old m : Folder) (f : FileNo) (n : ℕ) → file_in m f ≡ file_in old f → IsFirm (file_in old f) ⊎ (n ≤ (file_in old f).firm) → Stays old m f n
stays_same old m f n same sure = record {
  same = ap (λ (x : File). take n x.bytes) same;
  sure = subst (λ (x : File). IsFirm x ⊎ (n ≤ x.firm)) (sym same) sure;
}

-- a file that was made sure
stays_firm : (old m : Folder) (f : FileNo) (n : ℕ) → file_in m f ≡ firm_file (file_in old f).bytes → Stays old m f n
stays_firm old m f n firm = record {
  same = ap (λ (x : File). take n x.bytes) firm;
  sure = inl (subst IsFirm (sym firm) refl);
}

-- a file that is made, of which what was kept is kept: what was sure of it stays sure, and is as it was
record IsMade (old m : Folder) (f : FileNo) (n : ℕ) : Type 0 where
  same : take n (file_in m f).bytes ≡ take n (file_in old f).bytes
  sure : n ≤ (file_in m f).firm

made_sure : (old m : Folder) (f : FileNo) (n : ℕ) → IsFile (file_in old f) → ((front : List ℕ) → length front ≡ n → IsKept front (file_in old f) → IsKept front (file_in m f))
    → n ≤ (file_in old f).firm → IsMade old m f n
made_sure old m f n is_file kept few =
    let within : (file_in old f).firm ≤ length (file_in old f).bytes = is_file.firm_within in
    let long : length (take n (file_in old f).bytes) ≡ n = length-take-le n (file_in old f).bytes (omega (arith, few, within)) in
    let front : IsKept (take n (file_in old f).bytes) (file_in old f) = record { sure = omega (arith, long, few); same = ap (λ k. take k (file_in old f).bytes) long } in
    let still : IsKept (take n (file_in old f).bytes) (file_in m f) = kept (take n (file_in old f).bytes) long front in
    let far : length (take n (file_in old f).bytes) ≤ (file_in m f).firm = still.sure in
    record {
      same = ap (λ k. take k (file_in m f).bytes) (sym long) ∙ still.same;
      sure = omega (arith, far, long);
    }

stays_made : (old m : Folder) (f : FileNo) (n : ℕ) → IsMade old m f n → Stays old m f n
stays_made old m f n made = record { same = made.same; sure = inr made.sure }

-- a file that isn't made and can't be taken
stays_other : (makes : FileNo → Type 0) (step next : ℕ) (old m : Moment) (f : FileNo) (n : ℕ) → OnlySaved makes step next old m → ¬ (makes f)
    → ¬ CanBeTaken step next f → IsFirm (file_in old.folder f) ⊎ (n ≤ (file_in old.folder f).firm) → Stays old.folder m.folder f n
stays_other makes step next old m f n saved other apart sure = elim (saved.others f other apart) [
  | inl same ↦ stays_same old.folder m.folder f n same sure
  | inr firm ↦ stays_firm old.folder m.folder f n firm.1
]

-- whether it is made or not
stays_saved : (makes : FileNo → Type 0) (step next : ℕ) (old m : Moment) (f : FileNo) (n : ℕ) → AreFiles old.folder → OnlySaved makes step next old m
    → ¬ CanBeTaken step next f → (makes f → n ≤ (file_in old.folder f).firm) → IsFirm (file_in old.folder f) ⊎ (n ≤ (file_in old.folder f).firm)
    → Stays old.folder m.folder f n
unfolding stays_made stays_other
stays_saved makes step next old m f n are_files saved apart mine_sure sure =
    let made : makes f → Stays old.folder m.folder f n = λ mine. stays_made old.folder m.folder f n (made_sure old.folder m.folder f n (are_files f) (λ front _. saved.kept f mine front) (mine_sure mine)) in
    let other : ¬ (makes f) → Stays old.folder m.folder f n = λ not_made. stays_other makes step next old m f n saved not_made apart sure in
    record {
      same = either_way (makes f) (take n (file_in m.folder f).bytes ≡ take n (file_in old.folder f).bytes)
          (cases_bytes (take n (file_in m.folder f).bytes) (take n (file_in old.folder f).bytes)) (λ mine. (made mine).same) (λ not_made. (other not_made).same);
      sure = either_way (makes f) (IsFirm (file_in m.folder f) ⊎ (n ≤ (file_in m.folder f).firm)) (cases_sure (file_in m.folder f) n)
          (λ mine. (made mine).sure) (λ not_made. (other not_made).sure);
    }

-- what was sure of the files that are made is sure still
pub rests_sure_saved : (rests : Checkpoint → FileNo → ℕ → Type 0) (makes : FileNo → Type 0) (step next : ℕ) (old m : Moment) (last : Option Checkpoint) → AreFiles old.folder
    → OnlySaved makes step next old m → RestsSure rests makes old.folder last → RestsSure rests makes m.folder last
rests_sure_saved rests makes step next old m None are_files saved sure = tt
rests_sure_saved rests makes step next old m (Some c) are_files saved sure = λ f n is mine.
    (made_sure old.folder m.folder f n (are_files f) (λ front _. saved.kept f mine front) (sure f n is mine)).sure

-- of each file that a sweep of the step makes so much is sure as the checkpoint rests on, or it rests on all of it
abbrev pub MadeSure : (Checkpoint → FileNo → ℕ → Type 0) → (FileNo → ℕ → Type 0) → Folder → Checkpoint → Type 0
MadeSure rests held folder c = (f : FileNo) (n : ℕ) → rests c f n → IsMadePart c.step c.next_part f
    → (n ≤ (file_in folder f).firm) ⊎ ((k : ℕ) → held f k)

-- then a file stays while a sweep is rebuilt
stays_cut : (held : FileNo → ℕ → Type 0) (old m : Moment) (c : Checkpoint) (f : FileNo) (n : ℕ) → AreFiles old.folder → OnlyCutBehind c held old m → held f n
    → (IsMadePart c.step c.next_part f → (n ≤ (file_in old.folder f).firm) ⊎ ((k : ℕ) → held f k)) → IsFirm (file_in old.folder f) ⊎ (n ≤ (file_in old.folder f).firm)
    → Stays old.folder m.folder f n
unfolding stays_made
stays_cut held old m c f n are_files only is mine_sure sure =
    let made : IsMadePart c.step c.next_part f → Stays old.folder m.folder f n = λ mine. elim (mine_sure mine) [
      | inl few ↦ stays_made old.folder m.folder f n (made_sure old.folder m.folder f n (are_files f) (only.kept f n is) few)
      | inr all ↦ stays_same old.folder m.folder f n (only.whole f all) sure
    ] in
    let other : ¬ IsMadePart c.step c.next_part f → Stays old.folder m.folder f n = λ not_made. stays_same old.folder m.folder f n (only.unmade f not_made) sure in
    record {
      same = only.reads f n is;
      sure = either_way (IsMadePart c.step c.next_part f) (IsFirm (file_in m.folder f) ⊎ (n ≤ (file_in m.folder f).firm)) (cases_sure (file_in m.folder f) n)
          (λ mine. (made mine).sure) (λ not_made. (other not_made).sure);
    }

module _ (Q : (FileNo → List ℕ) → Type 0) (rests : Checkpoint → FileNo → ℕ → Type 0) (step : ℕ) where
  -- a later part number
  pub standing_later : (next later : ℕ) (folder : Folder) (last : Option Checkpoint) → next ≤ later → IsStanding Q rests step next folder last
      → IsStanding Q rests step later folder last
  standing_later next later folder None more none = none
  standing_later next later folder (Some c) more s = record {
    last = s.last;
    goes_on = s.goes_on;
    gate = s.gate;
    points = s.points;
    sure = s.sure;
    apart = s.apart;
    taken = let taken = s.taken in omega (arith, taken, more);
  }

  module _ (local : IsLocal Q rests step) where
    -- where the gate, the checkpoints, and all that the last one rests on stay, it stands
    pub stands_where : (next : ℕ) (old m : Folder) (c : Checkpoint) → StandsIn Q rests step next old c
        → file_in m (checkpoint_gate step) ≡ file_in old (checkpoint_gate step) → file_in m (checkpoint_file step) ≡ file_in old (checkpoint_file step)
        → ((f : FileNo) (n : ℕ) → rests c f n → Stays old m f n) → StandsIn Q rests step next m c
    stands_where next old m c s gate points stays =
        let same : last_gated step (present m) ≡ last_gated step (present old) =
        same_last step (present m) (present old) (ap (λ (x : File). x.bytes) points) (ap (λ (x : File). x.bytes) gate) in
        record {
          last = last_as step (present old) (present m) c same s.last;
          goes_on = local c (present old) (present m) s.last same (λ f n is. (stays f n is).same) s.goes_on;
          gate = subst IsFirm (sym gate) s.gate;
          points = subst (λ (x : File). 16384 * length x.bytes ≤ (file_in m (checkpoint_file step)).firm) (sym gate)
              (subst (λ (x : File). gated_size step old ≤ x.firm) (sym points) s.points);
          sure = λ f n is. (stays f n is).sure;
          apart = s.apart;
          taken = s.taken;
        }

    -- where other files change
    pub standing_kept : (these : FileNo → Type 0) (next : ℕ) (old m : Folder) (last : Option Checkpoint) → OnlyChanges these old m → ¬ (these (checkpoint_gate step))
        → RestsApart rests these step last → IsStanding Q rests step next old last → IsStanding Q rests step next m last
    standing_kept these next old m None only gate apart none = only (checkpoint_gate step) gate ∙ none
    standing_kept these next old m (Some c) only gate apart s =
        stands_where next old m c s (only (checkpoint_gate step) gate) (only (checkpoint_file step) apart.0)
        (λ f n is. stays_same old m f n (only f (apart.1 f n is)) (s.sure f n is))

    -- while a sweep of the step goes on, or is made ready to be saved
    pub standing_saved : (makes operands : FileNo → Type 0) (next : ℕ) (old m : Moment) (last : Option Checkpoint) → AreFiles old.folder
        → IsOfStep makes operands step next → RestsSure rests makes old.folder last → OnlySaved makes step next old m
        → IsStanding Q rests step next old.folder last → IsStanding Q rests step next m.folder last
    standing_saved makes operands next old m None are_files files sure saved none = gate_stays makes operands step next old m files saved ∙ none
    standing_saved makes operands next old m (Some c) are_files files sure saved s =
        let step_is : c.step ≡ step = s.last.rules.step_is in
        let taken : c.next_part ≤ next = s.taken in
        stands_where next old.folder m.folder c s (gate_stays makes operands step next old m files saved) (points_stay makes operands step next old m files saved)
        (λ f n is. stays_saved makes step next old m f n are_files saved
        (λ free. let from = free.from in (s.apart f n is).taken (record { step_is = free.step_is ∙ sym step_is; from = omega (arith, from, taken) }))
        (sure f n is) (s.sure f n is))

    -- while a sweep is rebuilt from the checkpoint
    pub standing_rebuilt : (held : FileNo → ℕ → Type 0) (next : ℕ) (old m : Moment) (c : Checkpoint) → AreFiles old.folder → OnlyCutBehind c held old m
        → ((f : FileNo) (n : ℕ) → rests c f n → held f n) → MadeSure rests held old.folder c
        → StandsIn Q rests step next old.folder c → StandsIn Q rests step next m.folder c
    standing_rebuilt held next old m c are_files only within sure s =
        let gate : ¬ IsMadePart c.step c.next_part (checkpoint_gate step) =
        λ mine. elim mine.part [ inl none ↦ absurd (omega (arith, none)) | inr arcs ↦ let from = arcs.0 in absurd (omega (arith, from)) ] in
        let points : ¬ IsMadePart c.step c.next_part (checkpoint_file step) =
        λ mine. elim mine.part [ inl none ↦ absurd (omega (arith, none)) | inr arcs ↦ let from = arcs.0 in absurd (omega (arith, from)) ] in
        stands_where next old.folder m.folder c s (only.unmade (checkpoint_gate step) gate) (only.unmade (checkpoint_file step) points)
        (λ f n is. stays_cut held old m c f n are_files only (within f n is) (sure f n is) (s.sure f n is))

    -- and each image is safe meanwhile
    pub safe_rebuilt : (held : FileNo → ℕ → Type 0) (next : ℕ) (old new : World) (c : Checkpoint) → AreFiles (now old).folder
        → Ran (OnlyCutBehind c held (now old)) old new → ((f : FileNo) (n : ℕ) → rests c f n → held f n)
        → MadeSure rests held (now old).folder c
        → StandsIn Q rests step next (now old).folder c → Throughout old new (λ m. AreSafe Q step m.folder)
    safe_rebuilt held next old new c are_files run within sure s =
        weakens old new (Quiet (now old).said (OnlyCutBehind c held (now old))) (λ m. AreSafe Q step m.folder)
        (λ m quiet. safe_standing Q rests step local next m.folder (Some c)
        (standing_rebuilt held next (now old) m c are_files quiet.holds within sure s)) run.moments

    module _ (these : FileNo → Type 0) (next : ℕ) (last : Option Checkpoint) (gate : ¬ (these (checkpoint_gate step))) (apart : RestsApart rests these step last) where
      -- over a run that changes other files, each image of each moment is safe, and the step stands at its end
      pub safe_over : (old new : World) → Ran (OnlyChanged these (now old)) old new → IsStanding Q rests step next (now old).folder last
          → Throughout old new (λ m. AreSafe Q step m.folder)
      safe_over old new run s =
          weakens old new (Quiet (now old).said (OnlyChanged these (now old))) (λ m. AreSafe Q step m.folder)
          (λ m quiet. safe_standing Q rests step local next m.folder last (standing_kept these next (now old).folder m.folder last quiet.holds gate apart s)) run.moments

      pub standing_over : (old new : World) → Ran (OnlyChanged these (now old)) old new → IsStanding Q rests step next (now old).folder last
          → IsStanding Q rests step next (now new).folder last
      standing_over old new run s =
          standing_kept these next (now old).folder (now new).folder last (ran_end old new (OnlyChanged these (now old)) run) gate apart s

      -- the same of stations that tell
      module _ {S : Type 0} (tells : S → Bool) (world : S → World) (old new : S) (did : Told tells old new (Ran (OnlyChanged these (now (world old))) (world old) (world new)))
          (stood : IsTrue (tells old) → IsStanding Q rests step next (now (world old)).folder last) where
        pub safe_along : IsTrue (tells new) → Throughout (world old) (world new) (λ m. AreSafe Q step m.folder)
        safe_along tells_new = safe_over (world old) (world new) (did.did tells_new) (stood (did.before tells_new))

        pub standing_along : IsTrue (tells new) → IsStanding Q rests step next (now (world new)).folder last
        standing_along tells_new = standing_over (world old) (world new) (did.did tells_new) (stood (did.before tells_new))
