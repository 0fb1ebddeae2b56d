-- Where a step that sweeps found damage, in longer runs.
use Rattle.std.proofs.Common.{◌≡◌, ◌≢◌, ◌∙◌, ℕ, zero, suc, ◌<◌, ◌≤◌, Bool, true, false, not, ◌||◌, ◌==◌, List, [], ◌∷◌, length, take, get_or, sym, ap, subst, inl, inr, arith}
use Rattle.std.specs.Prelude.{IsTrue}
use Rattle.std.specs.List.{list_all, list_any}
use Rattle.std.proofs.lemmas.Bool.{and_parts}
use Rattle.std.proofs.lemmas.List.{get_or-take, length-take}
use Rattle.bool_tables.specs.declared.steps.Step.{Step}
use Rattle.bool_tables.specs.declared.steps.Step.TheVariants.{Const, Var, Pair, Ite, Quantify, Restrict, Drop, Same, Leq, Eval, Size}
use Rattle.bool_tables.specs.declared.steps.Planned.{Planned}
use Rattle.bool_tables.specs.Plans.{operands, drops, is_live, is_diagram}
use Rattle.shelf_model.specs.declared.file_no.FileNo.{FileNo}
use Rattle.shelf_model.specs.declared.fault.StreamFault.TheVariants as stream
use Rattle.shelf_model.specs.declared.sort_fault.SortFault.{SortFault}
use Rattle.shelf_model.specs.declared.sort_fault.SortFault.TheVariants as sort
use Rattle.shelf_model.specs.Folder.{Folder, file_in}
use Rattle.shelf_model.specs.World.{Moment, World, now}
use Rattle.shelf_model.specs.Moments.{Throughout}
use Rattle.catalogue.specs.Counts.{present, count_in}
use Rattle.step_work.specs.Tuples.{sweeps}
use Rattle.sound_image.specs.Files.{node_file, checkpoint_gate}
use Rattle.step_work.specs.Plans.{no_step}
use Rattle.sweep_checkpoint.specs.Loads.{IsLoadFault}
use Rattle.step_engine.specs.StepFaults.{MissesNone, MissesNamed, IsKindFault, IsDamagedAmong, IsReadingFault, IsMakingFault, IsStepFault}
use Rattle.script_runner.specs.Running.{IsMetDamage}

-- a station with that folder
abbrev with_folder : Folder → World → World
with_folder folder w = record w { clock = 0; moment = λ _. record { folder = folder; said = [] } }

-- damage is judged by the folder alone
among_there : (Misses : List ℕ → ℕ → Type 0) (n : ℕ) (xs : List ℕ) (a b : World) (f : FileNo) (at : ℕ)
    → (now b).folder ≡ (now a).folder → IsDamagedAmong Misses n xs a f at → IsDamagedAmong Misses n xs b f at
among_there Misses n [] a b f at same fault = fault
among_there Misses n (x ∷ xs) a b f at same fault = elim fault [
  | inl one ↦
      let here : IsDamagedAmong Misses n (x ∷ []) b f at =
      subst (λ (folder : Folder). IsDamagedAmong Misses n (x ∷ []) (with_folder folder a) f at) (sym same) (inl one) in
      elim here [ inl first ↦ inl first | inr none ↦ absurd none ]
  | inr rest ↦ inr (among_there Misses n xs a b f at same rest)
]

reading_there : (Misses : List ℕ → ℕ → Type 0) (n : ℕ) (xs : List ℕ) (a b : World) (fault : SortFault)
    → (now b).folder ≡ (now a).folder → IsReadingFault Misses n xs a fault → IsReadingFault Misses n xs b fault
reading_there Misses n xs a b sort.Shelf same is = tt
reading_there Misses n xs a b (sort.Damaged f at) same is = among_there Misses n xs a b f at same is
reading_there Misses n xs a b sort.RunsSpent same is = is

making_there : (n : ℕ) (xs : List ℕ) (a b : World) (fault : SortFault) → (now b).folder ≡ (now a).folder
    → IsMakingFault n xs a fault → IsMakingFault n xs b fault
making_there n xs a b sort.Shelf same is = tt
making_there n xs a b (sort.Damaged f at) same is = among_there MissesNamed n xs a b f at same is
making_there n xs a b sort.RunsSpent same is = tt

pub fault_there : (n : ℕ) (s : Step) (a b : World) (fault : SortFault) → (now b).folder ≡ (now a).folder
    → IsStepFault n s a fault → IsStepFault n s b fault
fault_there n (Const value) a b fault same is = is
fault_there n (Var level) a b fault same is = is
fault_there n (Pair op left right) a b fault same is = making_there n (left ∷ right ∷ []) a b fault same is
fault_there n (Ite test if_one if_zero) a b fault same is =
    making_there n (test ∷ if_one ∷ if_zero ∷ []) a b fault same is
fault_there n (Quantify kind operand level) a b fault same is = making_there n (operand ∷ []) a b fault same is
fault_there n (Restrict operand level value) a b fault same is = making_there n (operand ∷ []) a b fault same is
fault_there n (Drop gone) a b fault same is = is
fault_there n (Same left right) a b fault same is = reading_there MissesNone n (left ∷ right ∷ []) a b fault same is
fault_there n (Leq left right) a b fault same is = making_there n (left ∷ right ∷ []) a b fault same is
fault_there n (Eval operand at) a b fault same is = reading_there MissesNamed n (operand ∷ []) a b fault same is
fault_there n (Size operand) a b fault same is = (
  is.0,
  is.1,
  subst (λ (folder : Folder). IsKindFault operand 1 (present folder) is.0) (sym same) is.2,
)

-- a damaged file among those of some steps is that of a step that passes what all of them pass
among_passes : (Misses : List ℕ → ℕ → Type 0) (P : ℕ → Bool) (n : ℕ) (xs : List ℕ) (world : World) (f : FileNo) (at : ℕ)
    → IsTrue (list_all P xs) → IsDamagedAmong Misses n xs world f at → (k : ℕ) × (f ≡ node_file k) × IsTrue (P k)
among_passes Misses P n [] world f at all fault = absurd fault
among_passes Misses P n (x ∷ xs) world f at all (inl here) = (x, here.0, (and_parts (P x) (list_all P xs) all).0)
among_passes Misses P n (x ∷ xs) world f at all (inr rest) =
    among_passes Misses P n xs world f at (and_parts (P x) (list_all P xs) all).1 rest

-- so is one that a step that sweeps names
pub fault_passes : (P : ℕ → Bool) (n : ℕ) (s : Step) (world : World) (f : FileNo) (at : ℕ) → IsTrue (sweeps s)
    → IsTrue (list_all P (operands s)) → IsStepFault n s world (sort.Damaged f at)
    → (k : ℕ) × (f ≡ node_file k) × IsTrue (P k)
fault_passes P n (Const value) world f at swept all fault = absurd cc
fault_passes P n (Var level) world f at swept all fault = absurd cc
fault_passes P n (Pair op left right) world f at swept all fault =
    among_passes MissesNamed P n (left ∷ right ∷ []) world f at all fault
fault_passes P n (Ite test if_one if_zero) world f at swept all fault =
    among_passes MissesNamed P n (test ∷ if_one ∷ if_zero ∷ []) world f at all fault
fault_passes P n (Quantify kind operand level) world f at swept all fault =
    among_passes MissesNamed P n (operand ∷ []) world f at all fault
fault_passes P n (Restrict operand level value) world f at swept all fault =
    among_passes MissesNamed P n (operand ∷ []) world f at all fault
fault_passes P n (Drop gone) world f at swept all fault = absurd cc
fault_passes P n (Same left right) world f at swept all fault =
    among_passes MissesNone P n (left ∷ right ∷ []) world f at all fault
fault_passes P n (Leq left right) world f at swept all fault =
    among_passes MissesNamed P n (left ∷ right ∷ []) world f at all fault
fault_passes P n (Eval operand bits) world f at swept all fault =
    among_passes MissesNamed P n (operand ∷ []) world f at all fault
fault_passes P n (Size operand) world f at swept all fault = absurd cc

-- a diagram that is live after some steps is dropped by none of them
pub live_not_dropped : (steps : List Planned) (count k j : ℕ) → j < count → count ≤ length steps
    → IsTrue (is_live (take count steps) k) → (get_or steps j no_step).step ≢ Drop k
live_not_dropped steps count k j below within live drops_it =
    let inside : j < length (take count steps) = omega (arith, below, within, length-take count steps) in
    let test : Planned → Bool = λ s. drops k s.step in
    none_passes test (take count steps) j inside
    (and_parts (is_diagram (take count steps) k) (not (list_any test (take count steps))) live).1
    (subst (λ (s : Planned). IsTrue (test s)) (sym (get_or-take count steps j no_step below))
    (subst (λ s. IsTrue (drops k s)) (sym drops_it) (same_number k)))
  where
    same_number : (x : ℕ) → IsTrue (x == x)
    same_number x = search arith

    none_passes : (test : Planned → Bool) (xs : List Planned) (i : ℕ) → i < length xs
        → IsTrue (not (list_any test xs)) → IsTrue (test (get_or xs i no_step)) → ⊥
    none_passes test [] i inside none one = absurd (omega (arith, inside))
    none_passes test (x ∷ xs) zero inside none one = by_test (test x) one none
      where
        by_test : (b : Bool) → IsTrue b → IsTrue (not (b || list_any test xs)) → ⊥
        by_test true one none = cc
        by_test false one none = cc
    none_passes test (x ∷ xs) (suc i) inside none one =
        let less : i < length xs = omega (arith, inside) in
        none_passes test xs i less (further (test x) none) one
      where
        further : (b : Bool) → IsTrue (not (b || list_any test xs)) → IsTrue (not (list_any test xs))
        further true none = absurd cc
        further false none = none

-- what a step of a part of a run met is met in the run
pub met_since : (n : ℕ) (steps : List Planned) (f : FileNo) (at : ℕ) (first : Folder) (old mid new : World)
    → old.clock ≤ mid.clock → IsMetDamage n steps f at first mid new → IsMetDamage n steps f at first old new
met_since n steps f at first old mid new later (inl entry) = inl entry
met_since n steps f at first old mid new later (inr (inl swept)) = inr (inl (record {
  step = swept.step;
  within = swept.within;
  swept = swept.swept;
  began = swept.began;
  since = let since = swept.since in omega (arith, later, since);
  until = swept.until;
  committed = swept.committed;
  none_gated = swept.none_gated;
  fault = swept.fault;
  uncommitted = swept.uncommitted;
  at_first = swept.at_first;
}))
met_since n steps f at first old mid new later (inr (inr point)) = inr (inr (record {
  step = point.step;
  within = point.within;
  swept = point.swept;
  looked = point.looked;
  since = let since = point.since in omega (arith, later, since);
  until = point.until;
  committed = point.committed;
  fault = point.fault;
  uncommitted = point.uncommitted;
}))

pub met_until : (n : ℕ) (steps : List Planned) (f : FileNo) (at : ℕ) (first : Folder) (old mid new : World)
    (P : Moment → Type 0) → Throughout mid new P → IsMetDamage n steps f at first old mid
    → IsMetDamage n steps f at first old new
met_until n steps f at first old mid new P run (inl entry) = inl entry
met_until n steps f at first old mid new P run (inr (inl swept)) =
    let same : (new.moment swept.began).folder ≡ (mid.moment swept.began).folder =
    ap (λ (m : Moment). m.folder) (run.past swept.began swept.until) in
    inr (inl (record {
      step = swept.step;
      within = swept.within;
      swept = swept.swept;
      began = swept.began;
      since = swept.since;
      until = let until = swept.until in let later = run.later in omega (arith, until, later);
      committed = ap (λ (folder : Folder). count_in (present folder)) same ∙ swept.committed;
      none_gated = ap (λ (folder : Folder). (file_in folder (checkpoint_gate swept.step)).bytes) same ∙ swept.none_gated;
      fault = fault_there n _ _ _ (sort.Damaged f at) same swept.fault;
      uncommitted = swept.uncommitted;
      at_first = λ k below is. ap (λ (folder : Folder). file_in folder f) same ∙ swept.at_first k below is;
    }))
met_until n steps f at first old mid new P run (inr (inr point)) =
    let same : (new.moment point.looked).folder ≡ (mid.moment point.looked).folder =
    ap (λ (m : Moment). m.folder) (run.past point.looked point.until) in
    inr (inr (record {
      step = point.step;
      within = point.within;
      swept = point.swept;
      looked = point.looked;
      since = point.since;
      until = let until = point.until in let later = run.later in omega (arith, until, later);
      committed = ap (λ (folder : Folder). count_in (present folder)) same ∙ point.committed;
      fault = subst (λ (folder : Folder). IsLoadFault point.step (present folder) (stream.Damaged f at)) (sym same)
          point.fault;
      uncommitted = point.uncommitted;
    }))
