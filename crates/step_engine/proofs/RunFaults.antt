-- Why a run of a step is refused, and what its calls counted.
use Rattle.std.proofs.Common.{◌≡◌, ◌≢◌, ◌⊎◌, ◌∙◌, ℕ, ◌-◌, List, [], ◌∷◌, length, refl, sym, ap, subst, inl, inr, true}
use Rattle.std.specs.Prelude.{Option, Some, None, Ok, Err}
use Rattle.rec_words.specs.Words.{node_size}
use Rattle.bool_tables.specs.declared.steps.Step.{Step}
use Rattle.bool_tables.specs.declared.steps.Step.TheVariants.{Const, Var, Pair, Ite, Quantify, Restrict, Drop, Same, Leq, Eval, Size}
use Rattle.shelf_model.specs.declared.file_no.FileNo.{FileNo}
use Rattle.shelf_model.specs.declared.fault.StreamFault.{StreamFault}
use Rattle.shelf_model.specs.declared.fault.StreamFault.TheVariants as stream
use Rattle.shelf_model.specs.declared.sort_fault.SortFault.{SortFault}
use Rattle.shelf_model.specs.declared.sort_fault.SortFault.TheVariants as sort
use Rattle.shelf_model.specs.Faults.{Faults, OnlyShelf}
use Rattle.shelf_model.specs.SortFaults.{handed_on}
use Rattle.shelf_model.specs.World.{World, now, file}
use Rattle.run_tiers.specs.Faults.{OnlySortShelf}
use Rattle.node_file.specs.Nodes.{HasTrailer}
use Rattle.step_work.specs.Tuples.{sweeps}
use Rattle.node_reading.specs.Reading.{IsDamagedNode}
use Rattle.sweep_core.specs.declared.checkpoint.Checkpoint.{Checkpoint}
use Rattle.sweep_checkpoint.specs.Gated.{present, last_gated}
use Rattle.sweep_checkpoint.specs.Loads.{Tells}
use Rattle.step_sweeps.specs.Damage.{IsDamagedBy}
use Rattle.sound_image.specs.Files.{node_file, checkpoint_gate}
use Rattle.step_engine.specs.StepFaults.{MissesNone, MissesNamed, IsDamagedAmong, IsReadingFault, IsMakingFault, IsStepFault, IsRunFault, IsSoundFault, IsOfKind}
use Rattle.step_engine.proofs.Told.{is_told, gate_filled, gate_empty}

-- what a call counted that ended well, whatever it gives
pub faults_ok : {A B : Type 0} (old new : Faults) (x : A) (y : B) → OnlySortShelf old new (Ok x) → OnlySortShelf old new (Ok y)
faults_ok old new x y only = record {
  later = only.later;
  cause = λ is. cc;
  say_is = only.say_is;
  text_is = only.text_is;
}

-- a fault of the folder, as a stream hands it on
pub shelf_faults : {A B : Type 0} (old new : Faults) (e : StreamFault) → OnlyShelf {T = A} old new (Err e) → OnlySortShelf {T = B} old new (Err (handed_on e))
shelf_faults {A} {B} old new stream.Shelf only = record { later = only.later; cause = λ is. only.cause refl; say_is = only.say_is; text_is = only.text_is }
shelf_faults {A} {B} old new (stream.Damaged f at) only = record { later = only.later; cause = λ is. cc; say_is = only.say_is; text_is = only.text_is }

pub shelf_fine : {A B : Type 0} (old new : Faults) (x : A) (y : B) → OnlyShelf old new (Ok x) → OnlySortShelf old new (Ok y)
shelf_fine old new x y only = record { later = only.later; cause = λ is. cc; say_is = only.say_is; text_is = only.text_is }

-- where reads of node files give what they gave, a step that is refused for damage would have been before
module _ (n : ℕ) (old new : World) (reads : (k : ℕ) → (file new (node_file k)).bytes ≡ (file old (node_file k)).bytes) where
  damaged_before : (Misses : List ℕ → ℕ → Type 0) (k : ℕ) (f : FileNo) (at : ℕ) → IsDamagedBy Misses n (node_file k) new f at
      → IsDamagedBy Misses n (node_file k) old f at
  damaged_before Misses k f at (is, inl trailer) = (
    is,
    inl (
      trailer.0,
      trailer.1 ∙ ap (λ (bytes : List ℕ). length bytes - node_size) (reads k),
      λ root has. trailer.2 root (subst (HasTrailer n root) (sym (reads k)) has),
    ),
  )
  damaged_before Misses k f at (is, inr (inl node)) = (is, inr (inl (subst (λ bytes. IsDamagedNode n bytes at) (reads k) node)))
  damaged_before Misses k f at (is, inr (inr missed)) = (is, inr (inr (subst (λ bytes. Misses bytes at) (reads k) missed)))

  among_before : (Misses : List ℕ → ℕ → Type 0) (ks : List ℕ) (f : FileNo) (at : ℕ) → IsDamagedAmong Misses n ks new f at → IsDamagedAmong Misses n ks old f at
  among_before Misses [] f at is = is
  among_before Misses (k ∷ ks) f at (inl here) = inl (damaged_before Misses k f at here)
  among_before Misses (k ∷ ks) f at (inr more) = inr (among_before Misses ks f at more)

  reading_before : (Misses : List ℕ → ℕ → Type 0) (ks : List ℕ) (e : SortFault) → IsReadingFault Misses n ks new e → IsReadingFault Misses n ks old e
  reading_before Misses ks sort.Shelf is = tt
  reading_before Misses ks (sort.Damaged f at) is = among_before Misses ks f at is
  reading_before Misses ks sort.RunsSpent is = is

  making_before : (ks : List ℕ) (e : SortFault) → IsMakingFault n ks new e → IsMakingFault n ks old e
  making_before ks sort.Shelf is = tt
  making_before ks (sort.Damaged f at) is = among_before MissesNamed ks f at is
  making_before ks sort.RunsSpent is = tt

  pub fault_before : (step : Step) (e : SortFault) → sweeps step ≡ true → IsStepFault n step new e → IsStepFault n step old e
  fault_before (Const value) e swept is = cc
  fault_before (Var level) e swept is = cc
  fault_before (Pair op left right) e swept is = making_before (left ∷ right ∷ []) e is
  fault_before (Ite test if_one if_zero) e swept is = making_before (test ∷ if_one ∷ if_zero ∷ []) e is
  fault_before (Quantify kind operand level) e swept is = making_before (operand ∷ []) e is
  fault_before (Restrict operand level value) e swept is = making_before (operand ∷ []) e is
  fault_before (Drop gone) e swept is = cc
  fault_before (Same left right) e swept is = reading_before MissesNone (left ∷ right ∷ []) e is
  fault_before (Leq left right) e swept is = making_before (left ∷ right ∷ []) e is
  fault_before (Eval operand at) e swept is = reading_before MissesNamed (operand ∷ []) e is
  fault_before (Size operand) e swept is = cc

-- a call of the folder may fail in each step
pub shelf_fault : (n : ℕ) (step : Step) (world : World) → sweeps step ≡ true → IsStepFault n step world sort.Shelf
shelf_fault n (Const value) world swept = refl
shelf_fault n (Var level) world swept = refl
shelf_fault n (Pair op left right) world swept = tt
shelf_fault n (Ite test if_one if_zero) world swept = tt
shelf_fault n (Quantify kind operand level) world swept = tt
shelf_fault n (Restrict operand level value) world swept = tt
shelf_fault n (Drop gone) world swept = refl
shelf_fault n (Same left right) world swept = tt
shelf_fault n (Leq left right) world swept = tt
shelf_fault n (Eval operand at) world swept = tt
shelf_fault n (Size operand) world swept = cc

-- a step is refused before it sweeps: a call of the folder failed, or it has a gated checkpoint
module _ (n number : ℕ) (step : Step) (swept : sweeps step ≡ true) (world : World) where
  pub refused_first : (e : SortFault) → (e ≡ sort.Shelf) ⊎ ((file world (checkpoint_gate number)).bytes ≢ []) → IsRunFault n number step world e
  refused_first e (inl shelf) = inl (subst (IsStepFault n step world) (sym shelf) (shelf_fault n step world swept))
  refused_first e (inr gated) = inr (swept, gated)

  -- or while it sweeps: as a step that begins anew, or it has gone on from a checkpoint
  pub refused_then : (last : Option Checkpoint) (e : SortFault) → Tells number (last_gated number (present (now world).folder)) last
      → (last ≡ None → (file world (checkpoint_gate number)).bytes ≡ [] → IsStepFault n step world e)
      → IsRunFault n number step world e
  refused_then None e told anew = inl (anew refl (gate_empty number (present (now world).folder) told))
  refused_then (Some c) e told anew =
      let its = is_told number (last_gated number (present (now world).folder)) c told in
      inr (swept, gate_filled number (present (now world).folder) its.bytes its.last_is)

-- the gate of a step, by its number
pub gate_as : {step number : ℕ} → step ≡ number → (world : World) → (file world (checkpoint_gate number)).bytes ≡ []
    → (file world (checkpoint_gate step)).bytes ≡ []
gate_as same world empty = subst (λ s. (file world (checkpoint_gate s)).bytes ≡ []) (sym same) empty

-- a fault that isn't want of parts is one of any step, and a call of the folder may fail in a sound folder
pub not_spent_kind : (step : Step) (e : SortFault) → e ≢ sort.RunsSpent → IsOfKind step e
not_spent_kind step sort.Shelf kind = tt
not_spent_kind step (sort.Damaged f at) kind = tt
not_spent_kind step sort.RunsSpent kind = absurd (kind refl)

pub shelf_sound : (step : Step) (work : ℕ) (e : SortFault) → e ≡ sort.Shelf → IsSoundFault step work e
shelf_sound step work e shelf = subst (IsSoundFault step work) (sym shelf) tt
