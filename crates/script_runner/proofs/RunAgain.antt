-- A step that finds damage is run once more: what both runs leave together.
use Rattle.std.proofs.Common.{◌≡◌, ◌∙◌, ℕ, ◌+◌, ◌/◌, ◌≤◌, Bool, true, false, List, [], refl, sym, ap, subst, inl, inr, arith}
use Rattle.std.specs.Prelude.{IsTrue, Result, Ok, Err, IfOk, IfErr}
use Rattle.bool_tables.specs.declared.steps.Step.{Step}
use Rattle.bool_tables.specs.declared.steps.Step.TheVariants.{Const, Var, Pair, Ite, Quantify, Restrict, Drop, Same, Leq, Eval, Size}
use Rattle.bool_tables.specs.declared.steps.Planned.{Planned}
use Rattle.shelf_model.specs.declared.file_no.FileNo.{FileNo}
use Rattle.shelf_model.specs.declared.fault.StreamFault.{StreamFault}
use Rattle.shelf_model.specs.declared.fault.StreamFault.TheVariants as stream
use Rattle.shelf_model.specs.declared.sort_fault.SortFault.{SortFault}
use Rattle.shelf_model.specs.declared.sort_fault.SortFault.TheVariants as sort
use Rattle.shelf_model.specs.SortFaults.{handed_on}
use Rattle.shelf_model.specs.Calls.{Told}
use Rattle.shelf_model.specs.Faults.{Faults, OnlyShelf}
use Rattle.shelf_model.specs.Folder.{file_in}
use Rattle.shelf_model.specs.Moments.{Ran}
use Rattle.shelf_model.specs.World.{Moment, World, now, file}
use Rattle.shelf_model.proofs.Changing.{told_changed_then}
use Rattle.run_tiers.specs.Faults.{OnlySortShelf}
use Rattle.catalogue.specs.declared.layout.Entry.{Entry}
use Rattle.catalogue.specs.Counts.{present}
use Rattle.step_work.specs.Tuples.{sweeps}
use Rattle.sweep_core.specs.Saving.{reads_of}
use Rattle.sweep_checkpoint.specs.Loads.{IsLoadFault}
use Rattle.sound_image.specs.Files.{checkpoint_gate}
use Rattle.sound_image.specs.Jobs.{Job}
use Rattle.sound_image.specs.Entries.{work_of}
use Rattle.sound_image.specs.Holds.{Holds}
use Rattle.step_engine.specs.OneFile.{ChangesFile, OnlyMade, OnlyFile}
use Rattle.step_engine.specs.Simple.{reads, IsStepOf}
use Rattle.step_engine.specs.StepFaults.{IsRunFault, IsSoundFault, IsOfKind}
use Rattle.step_engine.specs.Running.{RunsStep, IsReadyFor, SparesParts}
use Rattle.script_runner.specs.Running.{stood_after}
use Rattle.script_runner.specs.Anew.{found_damage, IsFound, MakesStep}
use Rattle.script_runner.proofs.SweepDamage.{fault_there}
use Rattle.script_runner.proofs.Paying.{none_told}

-- a step that sweeps reads what earlier steps left
sweeping_reads : (s : Step) → IsTrue (sweeps s) → IsTrue (reads s)
sweeping_reads (Const value) swept = absurd cc
sweeping_reads (Var level) swept = absurd cc
sweeping_reads (Pair op left right) swept = refl
sweeping_reads (Ite test if_one if_zero) swept = refl
sweeping_reads (Quantify kind operand level) swept = refl
sweeping_reads (Restrict operand level value) swept = refl
sweeping_reads (Drop gone) swept = absurd cc
sweeping_reads (Same left right) swept = refl
sweeping_reads (Leq left right) swept = refl
sweeping_reads (Eval operand at) swept = refl
sweeping_reads (Size operand) swept = absurd cc

not_both : (b : Bool) → IsTrue b → b ≡ false → ⊥
not_both true swept unswept = absurd cc
not_both false swept unswept = absurd cc

-- damage that a step that sweeps found is none where the folder holds the steps before
found_sweeping : (s : Step) (fault : SortFault) → IsTrue (found_damage s fault) → IsTrue (sweeps s)
found_sweeping s sort.Shelf found = absurd cc
found_sweeping s (sort.Damaged f at) found = found
found_sweeping s sort.RunsSpent found = absurd cc

not_sound : (s : Step) (fault : SortFault) (work : ℕ) → IsTrue (found_damage s fault) → IsSoundFault s work fault → ⊥
not_sound s sort.Shelf work found sound = absurd cc
not_sound s (sort.Damaged f at) work found sound = sound
not_sound s sort.RunsSpent work found sound = absurd cc

-- what every answer has
for_ok : {T E : Type 0} (P : T → Type 0) (result : Result T E) → ((x : T) → P x) → IfOk result P
for_ok P (Ok x) all = all x
for_ok P (Err e) all = tt

for_err : {T E : Type 0} (P : E → Type 0) (result : Result T E) → ((e : E) → P e) → IfErr result P
for_err P (Ok x) all = tt
for_err P (Err e) all = all e

-- the counts of a run, a look and another run
faults_then : {T U : Type 0} (old mid new : Faults) (first : Result U SortFault) (result : Result T SortFault)
    → OnlySortShelf old mid first → OnlySortShelf mid new result → OnlySortShelf old new result
faults_then old mid new first result a b = record {
  later = let a = a.later in let b = b.later in omega (arith, a, b);
  cause = λ is. let low = a.later in let rose = b.cause is in omega (arith, low, rose);
  say_is = b.say_is ∙ a.say_is;
  text_is = λ path. b.text_is path ∙ a.text_is path;
}

-- the look's, as those of what sorts
handed_faults : {T : Type 0} (old new : Faults) (result : Result T StreamFault) (U : Type 0) (x : U) → OnlyShelf old new result
    → OnlySortShelf {T = U} old new (Ok x)
handed_faults old new result U x a = record {
  later = a.later;
  cause = λ is. absurd cc;
  say_is = a.say_is;
  text_is = a.text_is;
}

handed_fault : {T U : Type 0} (old new : Faults) (fault : StreamFault) → OnlyShelf {T = T} old new (Err fault)
    → OnlySortShelf {T = U} old new (Err (handed_on fault))
handed_fault old new stream.Shelf a = record { later = a.later; cause = λ is. a.cause refl; say_is = a.say_is; text_is = a.text_is }
handed_fault old new (stream.Damaged f at) a =
    record { later = a.later; cause = λ is. absurd cc; say_is = a.say_is; text_is = a.text_is }

module _ {S : Type 0} (tells : S → Bool) (world : S → World) (counts : S → Faults) (n : ℕ) (text : List ℕ) (k : ℕ) (p : Planned) where
  -- it sweeps, and found damage
  module _ (damage : SortFault) (is_found : IsTrue (found_damage p.step damage)) (old s : S)
      (first : RunsStep tells world counts n text k p old s (Err damage)) where
    swept : IsTrue (sweeps p.step)
    swept = found_sweeping p.step damage is_found

    -- so the folder doesn't hold the steps before it
    not_held : IsTrue (tells s) → (job : Job) → IsStepOf job n text k p → Holds job k (now (world old)).folder → ⊥
    not_held tells_s job step holds =
        not_sound p.step damage (work_of job p.step) is_found (first.sound tells_s job step holds)

    not_ready : IsTrue (tells s) → (job : Job) → IsReadyFor job n text k p (world old) → ⊥
    not_ready tells_s job ready = not_held tells_s job ready.step (ready.holds (sweeping_reads p.step swept))

    own_gate : (q : FileNo) → q ≡ checkpoint_gate k → ChangesFile p.step k q
    own_gate q is = inr (swept, ap (λ (g : FileNo). g.step) is)

    -- the look at its last checkpoint, and the cut of their gate
    abbrev Aside : S → Type 0
    Aside t = Told tells s t (Ran (OnlyFile (checkpoint_gate k) (now (world s))) (world s) (world t))

    to_aside : (t : S) → Aside t → Told tells old t (Ran (OnlyMade p.step k (now (world old))) (world old) (world t))
    to_aside t aside =
        told_changed_then tells world (ChangesFile p.step k) (λ q. q ≡ checkpoint_gate k) old s t own_gate first.content aside

    -- its last checkpoint is damaged
    pub found_damaged : (t : S) (fault : StreamFault) → Aside t
        → (IsTrue (tells t) → IsLoadFault k (present (now (world s)).folder) fault)
        → OnlyShelf {T = Unit} (counts s) (counts t) (Err fault) → (handed : SortFault) → handed ≡ handed_on fault
        → MakesStep tells world counts n text k p old t (Err handed)
    found_damaged t fault aside lacked looks handed handed_is =
        subst (λ x. MakesStep tells world counts n text k p old t (Err x)) (sym handed_is) (record {
          content = to_aside t aside;
          fits = tt;
          entry = tt;
          made = tt;
          untaken = tt;
          unmade = tt;
          resumes = λ tells_t job step holds. absurd (not_held (aside.before tells_t) job step holds);
          sound = λ tells_t job step holds. absurd (not_held (aside.before tells_t) job step holds);
          damaged = found fault lacked;
          kind = of_kind fault;
          few_parts = tt;
          one_turn = λ tells_t unswept. absurd (not_both (sweeps p.step) swept unswept);
          few_calls = λ tells_t job step holds. absurd (not_held (aside.before tells_t) job step holds);
          stops = λ tells_t job step holds. absurd (not_held (aside.before tells_t) job step holds);
          faults = faults_then (counts old) (counts s) (counts t) _ _ first.faults (handed_fault (counts s) (counts t) fault looks);
        })
      where
        of_kind : (found : StreamFault) → IsOfKind p.step (handed_on found)
        of_kind stream.Shelf = tt
        of_kind (stream.Damaged g b) = tt

        found : (found : StreamFault) → (IsTrue (tells t) → IsLoadFault k (present (now (world s)).folder) found) → IsTrue (tells t)
            → IsFound n k p.step (world old) (world t) (handed_on found)
        found stream.Shelf lacked tells_t = tt
        found (stream.Damaged g b) lacked tells_t =
            let ran = first.content.did (aside.before tells_t) in
            let rest = aside.did tells_t in
            let same : (world t).moment (world s).clock ≡ (world s).moment (world s).clock = rest.moments.past (world s).clock (omega arith) in
            inr (
              swept,
              inr (record {
                looked = (world s).clock;
                since = ran.moments.later;
                until = rest.moments.later;
                fault = subst (λ (m : Moment). IsLoadFault k (present m.folder) (stream.Damaged g b)) (sym same) (lacked tells_t);
              }),
            )

    -- it isn't, what was gated is set aside, and the step is run once more
    module _ (t u : S) (aside : Aside t) (empty : IsTrue (tells t) → (file (world t) (checkpoint_gate k)).bytes ≡ [])
        (looks : OnlyShelf {T = Unit} (counts s) (counts t) (Ok tt)) (result : Result Entry SortFault)
        (second : RunsStep tells world counts n text k p t u result) where
      tells_t : IsTrue (tells u) → IsTrue (tells t)
      tells_t tells_u = second.content.before tells_u

      tells_s : IsTrue (tells u) → IsTrue (tells s)
      tells_s tells_u = aside.before (tells_t tells_u)

      parts_few : (r : Result Entry SortFault) → IfOk r (λ e. IsTrue (tells u) → (spare : ℕ)
          → SparesParts k (reads_of (world t)) spare → e.parts ≤ 5 + e.turns / 16 + spare)
          → IfOk r (λ e. IsTrue (tells u) → (spare : ℕ)
          → SparesParts k (reads_of (world old)) spare → e.parts ≤ 5 + e.turns / 16 + spare)
      parts_few (Ok e) few = λ tells_u spare spares.
          let fewest = few tells_u 0 (λ c told. absurd (none_told k (reads_of (world t)) (empty (tells_t tells_u)) c told)) in
          omega (arith, fewest)
      parts_few (Err fault) few = tt

      found_anew : (r : Result Entry SortFault) → IfErr r (λ fault. IsTrue (tells u) → IsRunFault n k p.step (world t) fault)
          → IfErr r (λ fault. IsTrue (tells u) → IsFound n k p.step (world old) (world u) fault)
      found_anew (Ok e) damaged = tt
      found_anew (Err sort.Shelf) damaged = λ tells_u. tt
      found_anew (Err (sort.Damaged g b)) damaged = λ tells_u. inr (
        swept,
        inl (elim (damaged tells_u) [
          | inl anew ↦
              let ran = (to_aside t aside).did (tells_t tells_u) in
              let rest = second.content.did tells_u in
              let same : (world u).moment (world t).clock ≡ (world t).moment (world t).clock = rest.moments.past (world t).clock (omega arith) in
              record {
                began = (world t).clock;
                since = ran.moments.later;
                until = rest.moments.later;
                none_gated = ap (λ (m : Moment). (file_in m.folder (checkpoint_gate k)).bytes) same ∙ empty (tells_t tells_u);
                fault = fault_there n p.step (world t) (stood_after (world t).clock (world u)) (sort.Damaged g b)
                    (ap (λ (m : Moment). m.folder) same) anew;
              }
          | inr again ↦ absurd (again.1 (empty (tells_t tells_u)))
        ]),
      )
      found_anew (Err sort.RunsSpent) damaged = λ tells_u. tt

      pub run_again : MakesStep tells world counts n text k p old u result
      run_again = record {
        content = told_changed_then tells world (ChangesFile p.step k) (ChangesFile p.step k) old t u (λ q own. own)
            (to_aside t aside) second.content;
        fits = second.fits;
        entry = for_ok _ result (λ e tells_u job ready. absurd (not_ready (tells_s tells_u) job ready));
        made = for_ok _ result (λ e tells_u job ready. absurd (not_ready (tells_s tells_u) job ready));
        untaken = for_ok _ result (λ e tells_u job step holds. absurd (not_held (tells_s tells_u) job step holds));
        unmade = for_ok _ result (λ e tells_u job step holds. absurd (not_held (tells_s tells_u) job step holds));
        resumes = λ tells_u job step holds. absurd (not_held (tells_s tells_u) job step holds);
        sound = for_err _ result (λ fault tells_u job step holds. absurd (not_held (tells_s tells_u) job step holds));
        damaged = found_anew result second.damaged;
        kind = second.kind;
        few_parts = parts_few result second.few_parts;
        one_turn = λ tells_u unswept. absurd (not_both (sweeps p.step) swept unswept);
        few_calls = λ tells_u job step holds. absurd (not_held (tells_s tells_u) job step holds);
        stops = λ tells_u job step holds. absurd (not_held (tells_s tells_u) job step holds);
        faults = faults_then (counts old) (counts t) (counts u) _ _
            (faults_then (counts old) (counts s) (counts t) _ _ first.faults (handed_faults (counts s) (counts t) _ Unit tt looks))
            second.faults;
      }
