-- What is emptied of a step that went on from a checkpoint: how its last one is found, and the runs that this names.
use Rattle.std.proofs.Common.{◌≡◌, ◌≢◌, ◌∙◌, ◌⊎◌, ℕ, ◌+◌, ◌-◌, ◌<◌, ◌≤◌, min, max, Bool, true, List, [], length, take, get_or, refl, sym, ap, subst, inl, inr, arith}
use Rattle.std.specs.Prelude.{IsTrue, Result, Ok, Err, OnOk, Option, Some, None}
use Rattle.std.specs.List.{Any}
use Rattle.std.proofs.lemmas.Bool.{cases_lt}
use Rattle.std.proofs.lemmas.List.{length-take, get_or-take, get_or_default}
use Rattle.bool_tables.specs.declared.steps.Step.{Step}
use Rattle.bool_tables.specs.declared.steps.Step.TheVariants.{Const, Var, Pair, Ite, Quantify, Restrict, Drop, Same, Leq, Eval, Size}
use Rattle.shelf_model.specs.declared.file_no.FileNo.{FileNo}
use Rattle.shelf_model.specs.declared.fault.Failed.{Failed}
use Rattle.shelf_model.specs.File.{File}
use Rattle.shelf_model.specs.Folder.{file_in}
use Rattle.shelf_model.specs.World.{World, Moment, now, file}
use Rattle.shelf_model.specs.Calls.{Told, Measured, WasCut}
use Rattle.shelf_model.specs.Moments.{Ran}
use Rattle.shelf_model.proofs.Numbers.{cases_file}
use Rattle.shelf_model.proofs.Runs.{told, told_then, ran_call, ran_joins, ran_weakens}
use Rattle.file_numbers.specs.Files.{first_run_part, checkpoint_gate}
use Rattle.run_tiers.specs.declared.run.Run.{Run}
use Rattle.step_work.specs.Tuples.{sweeps}
use Rattle.sweep_core.specs.declared.checkpoint.Checkpoint.{Checkpoint}
use Rattle.sweep_checkpoint.specs.Gated.{last_gated}
use Rattle.sweep_checkpoint.specs.Loads.{DuringLoad, Tells}
use Rattle.sweep_checkpoint.specs.Retires.{NamedAmong, NamedIn, IsBetween, Emptied}
use Rattle.step_going.proofs.Telling.{one_point}
use Rattle.sound_image.specs.Steps.{IsBehind, IsCutBy, IsTidied}
use Rattle.step_engine.specs.OneFile.{OnlyTidied}
use Rattle.step_engine.specs.LeftBehind.{IsLastPoint, NamedBy, IsLeftBehind, IsRunOf, most_cut}
use Rattle.step_engine.proofs.Cutting.{stays_tidy}

-- the gate of the checkpoints is one of the files that a step leaves behind
gate_cut : (step : Step) (number next : ℕ) → IsTrue (sweeps step) → IsCutBy step number next (checkpoint_gate number)
gate_cut step number next swept = inr (swept, record { step_is = refl; from = omega arith; until = omega arith })

-- where something is gated, a load of the last checkpoint changes no other file
load_tidies : (step : Step) (number next : ℕ) (old m : Moment) → IsTrue (sweeps step) → (file_in old.folder (checkpoint_gate number)).bytes ≢ []
    → DuringLoad number old m → IsTidied step number next old.folder m.folder
load_tidies step number next old m swept some during = record {
  only = λ q apart. during.others q (λ same. apart (subst (IsCutBy step number next) (sym same) (gate_cut step number next swept)));
  empty = λ q none. elim (cases_file q (checkpoint_gate number)) [
    | inl same ↦ absurd (some (ap (λ f. (file_in old.folder f).bytes) (sym same) ∙ ap (λ (x : File). x.bytes) none))
    | inr other ↦ during.others q other ∙ none
  ];
  stays = λ q none. during.reads q ∙ none;
}

module _ {S : Type 0} (tells : S → Bool) (world : S → World) where
  -- the length of the gate was asked
  pub asked_tidies : (step : Step) (number next : ℕ) (f : FileNo) (r : Result ℕ Failed) (old new : S)
      → Told tells old new (Measured f r (world old) (world new))
      → Told tells old new (Ran (OnlyTidied step number next (now (world old))) (world old) (world new))
  asked_tidies step number next f r old new did = told tells old new _ _ did (λ _ asked.
      ran_call (world old) (world new) (OnlyTidied step number next (now (world old))) asked.shelf
      (stays_tidy step number next (now (world old)).folder)
      (subst (λ (m : Moment). OnlyTidied step number next (now (world old)) m) (sym asked.same) (stays_tidy step number next (now (world old)).folder)))

  -- and as it wasn't 0 the last checkpoint was loaded
  pub loaded_tidies : (step : Step) (number next n : ℕ) (f : FileNo) (old mid new : S) → IsTrue (sweeps step) → f ≡ checkpoint_gate number → n ≢ 0
      → Told tells old mid (Measured f (Ok n) (world old) (world mid)) → Told tells mid new (Ran (DuringLoad number (now (world mid))) (world mid) (world new))
      → Told tells old new (Ran (OnlyTidied step number next (now (world old))) (world old) (world new))
  loaded_tidies step number next n f old mid new swept gate_is some asked load =
      told_then tells old mid new _ _ _ asked load (λ _ was ran.
      let P : Moment → Type 0 = OnlyTidied step number next (now (world old)) in
      let gated : (file_in (now (world old)).folder (checkpoint_gate number)).bytes ≢ [] =
      λ none. some (was.ok ∙ ap (λ g. length (file (world old) g).bytes) gate_is ∙ ap length none) in
      ran_joins (world old) (world mid) (world new) P
      (ran_call (world old) (world mid) P was.shelf (stays_tidy step number next (now (world old)).folder)
      (subst P (sym was.same) (stays_tidy step number next (now (world old)).folder)))
      (ran_weakens (world mid) (world new) (DuringLoad number (now (world mid))) P
      (λ m during. load_tidies step number next (now (world old)) m swept gated (subst (λ (o : Moment). DuringLoad number o m) was.same during)) ran))

-- there is but one
pub one_last : (number : ℕ) (r : FileNo → List ℕ) (a b : Option Checkpoint) → IsLastPoint number r a → IsLastPoint number r b → a ≡ b
one_last number r None None none other = refl
one_last number r None (Some d) none is = absurd (none d is)
one_last number r (Some c) None is none = absurd (none c is)
one_last number r (Some c) (Some d) first second = ap Some (by_bytes (last_gated number r) first second)
  where
    by_bytes : (bytes : Option (List ℕ)) → Tells number bytes (Some c) → Tells number bytes (Some d) → c ≡ d
    by_bytes None first second = absurd first
    by_bytes (Some x) first second = one_point x c d first.fits second.fits first.used second.used

-- of the files that are emptied, some and then others
pub emptied_then : (first second these : FileNo → Type 0) (old mid new : World) → ((f : FileNo) → these f → first f ⊎ second f)
    → Emptied first old mid → Emptied second mid new → Emptied these old new
emptied_then first second these old mid new either a b = record {
  empty = λ f is. elim (either f is) [
    | inl one ↦ b.still f (a.empty f one)
    | inr two ↦ b.empty f two
  ];
  still = λ f is. b.still f (a.still f is);
}

pub emptied_none : (these : FileNo → Type 0) (w : World) → ((f : FileNo) → ¬ (these f)) → Emptied these w w
emptied_none these w none = record { empty = λ f is. absurd (none f is); still = λ f is. is }

-- a step of none of these kinds sweeps
pub sweeps_else : (step : Step) → ((value : Bool) → step ≢ Const value) → ((level : ℕ) → step ≢ Var level) → ((gone : ℕ) → step ≢ Drop gone)
    → ((operand : ℕ) → step ≢ Size operand) → sweeps step ≡ true
sweeps_else (Const value) no_const no_var no_drop no_size = absurd (no_const value refl)
sweeps_else (Var level) no_const no_var no_drop no_size = absurd (no_var level refl)
sweeps_else (Pair op left right) no_const no_var no_drop no_size = refl
sweeps_else (Ite test if_one if_zero) no_const no_var no_drop no_size = refl
sweeps_else (Quantify kind operand level) no_const no_var no_drop no_size = refl
sweeps_else (Restrict operand level value) no_const no_var no_drop no_size = refl
sweeps_else (Drop gone) no_const no_var no_drop no_size = absurd (no_drop gone refl)
sweeps_else (Same left right) no_const no_var no_drop no_size = refl
sweeps_else (Leq left right) no_const no_var no_drop no_size = refl
sweeps_else (Eval operand at) no_const no_var no_drop no_size = refl
sweeps_else (Size operand) no_const no_var no_drop no_size = absurd (no_size operand refl)

-- one run
module _ {S : Type 0} (tells : S → Bool) (world : S → World) (number until part : ℕ) where
  abbrev pub this : FileNo → Type 0
  this = IsRunOf number until (λ p. p ≡ part)

  pub emptied_one : (result : Result Unit Failed) (old new : S)
      → Told tells old new (WasCut (record { step = number; part = part }) 0 result (world old) (world new))
      → OnOk result (IsTrue (tells new) → Emptied this (world old) (world new))
  emptied_one (Ok x) old new call = λ tells_new.
      let f : FileNo = record { step = number; part = part } in
      let did = call.did tells_new in
      let none : (file (world new) f).bytes ≡ [] = ap (λ (y : File). y.bytes) did.ok in
      record {
        empty = λ q is. subst (λ g. (file (world new) g).bytes ≡ []) (λ i. record { step = sym is.step_is i; part = sym is.one_of i }) none;
        still = λ q was. elim (cases_file q f) [
          | inl same ↦ subst (λ g. (file (world new) g).bytes ≡ []) (sym same) none
          | inr differ ↦ ap (λ (y : File). y.bytes) (did.others q differ) ∙ was
        ];
      }
  emptied_one (Err e) old new call = tt

-- one of the first items has it, or the next one does
any_more : {X : Type 0} (P : X → Type 0) (xs : List X) (k : ℕ) (x : X) → k < length xs → get_or xs k x ≡ x → Any P (take (k + 1) xs)
    → Any P (take k xs) ⊎ P x
any_more P xs k x within here some =
    let j : ℕ = some.0 in
    let inside : j < length (take (k + 1) xs) = some.2 in
    let cut : length (take (k + 1) xs) ≡ min (k + 1) (length xs) = length-take (k + 1) xs in
    let shorter : length (take k xs) ≡ min k (length xs) = length-take k xs in
    let is : get_or xs j some.1 ≡ some.1 = sym (get_or-take (k + 1) xs j some.1 (omega (arith, inside, cut))) ∙ some.3 in
    elim (cases_lt j k) [
      | inl earlier ↦ inl (j, some.1, omega (arith, earlier, shorter, within), get_or-take k xs j some.1 earlier ∙ is, some.4)
      | inr last ↦
          let same : j ≡ k = omega (arith, last, inside, cut) in
          inr (subst P (sym is ∙ ap (λ i. get_or xs i some.1) same ∙ get_or_default xs k some.1 x within ∙ here) some.4)
    ]

-- one slot more of a table
pub among_more : (number until : ℕ) (table : List Run) (k : ℕ) (run : Run) → k < length table → get_or table k run ≡ run → (f : FileNo)
    → IsRunOf number until (λ p. NamedAmong p (take (k + 1) table)) f
    → IsRunOf number until (λ p. NamedAmong p (take k table)) f ⊎ IsRunOf number until (λ p. p ≡ run.part) f
among_more number until table k run within is f of = elim (any_more (λ (x : Run). x.part ≡ f.part) table k run within is of.one_of) [
  | inl earlier ↦ inl (record { step_is = of.step_is; from = of.from; below = of.below; one_of = earlier })
  | inr last ↦ inr (record { step_is = of.step_is; from = of.from; below = of.below; one_of = sym last })
]

-- one table more
pub in_more : (number until : ℕ) (tables : List (List Run)) (k : ℕ) (table : List Run) → k < length tables → get_or tables k table ≡ table → (f : FileNo)
    → IsRunOf number until (λ p. NamedIn p (take (k + 1) tables)) f
    → IsRunOf number until (λ p. NamedIn p (take k tables)) f ⊎ IsRunOf number until (λ p. NamedAmong p table) f
in_more number until tables k table within is f of = elim (any_more (NamedAmong f.part) tables k table within is of.one_of) [
  | inl earlier ↦ inl (record { step_is = of.step_is; from = of.from; below = of.below; one_of = earlier })
  | inr last ↦ inr (record { step_is = of.step_is; from = of.from; below = of.below; one_of = last })
]

-- what a step leaves behind that went on is empty, where the runs that its last checkpoint names were emptied, then its
-- last parts, and then those before the first run
pub all_empty : (step : Step) (number next until first : ℕ) (last : Option Checkpoint) (a b c d : World) → until ≡ max first_run_part next
    → first ≤ max first_run_part (until - most_cut) → Emptied (IsRunOf number until (NamedBy last)) a b
    → IsTidied step number until (now b).folder (now c).folder
    → ((f : FileNo) → f.step ≡ number → IsBetween first until f.part → (file c f).bytes ≡ [])
    → IsTidied step number first_run_part (now c).folder (now d).folder → ((f : FileNo) → IsBehind number first_run_part f → (file d f).bytes ≡ [])
    → (f : FileNo) → IsLeftBehind number next last f → (file d f).bytes ≡ []
all_empty step number next until first last a b c d until_is first_is named tidied_late late tidied_early early f left =
    elim (cases_lt f.part first_run_part) [
      | inl before ↦ no_run before
      | inr behind ↦ elim left.which [
        | inl before ↦ no_run before
        | inr (inl is) ↦ tidied_early.stays f (tidied_late.stays f (named.empty f (record {
          step_is = left.behind.step_is;
          from = behind;
          below = let below = left.behind.until in omega (arith, below, until_is, behind);
          one_of = is;
        })))
        | inr (inr is_late) ↦ tidied_early.stays f (late f left.behind.step_is (record {
          from = let below = left.behind.until in omega (arith, is_late, first_is, until_is, behind, below);
          below = let below = left.behind.until in omega (arith, below, until_is, behind);
        }))
      ]
    ]
  where
    no_run : f.part < first_run_part → (file d f).bytes ≡ []
    no_run before = early f (record { step_is = left.behind.step_is; from = left.behind.from; until = before })
