-- Which files runs of a step's calls change, what counts of faults they leave, and what is handed on.
use Rattle.std.proofs.Common.{◌≡◌, ◌≢◌, ◌∙◌, ℕ, ◌<◌, ◌≤◌, Bool, ap, subst, arith}
use Rattle.std.specs.Prelude.{Option, Some, None, IfSome, IfNone, Result, Ok, Err, IfOk, IfErr, IsErrOf}
use Rattle.shelf_model.specs.declared.file_no.FileNo.{FileNo}
use Rattle.shelf_model.specs.declared.sort_fault.SortFault.{SortFault}
use Rattle.shelf_model.specs.declared.sort_fault.SortFault.TheVariants.{RunsSpent}
use Rattle.shelf_model.specs.Faults.{Faults, OnlyShelf}
use Rattle.shelf_model.specs.Calls.{Told}
use Rattle.shelf_model.specs.Folder.{Folder, file_in}
use Rattle.shelf_model.specs.Moments.{Ran, Stays, OnlyChanged}
use Rattle.shelf_model.specs.World.{World, now, file}
use Rattle.shelf_model.proofs.Runs.{told, ran_end, ran_weakens}
use Rattle.file_numbers.specs.Files.{checkpoint_file, checkpoint_gate}
use Rattle.run_tiers.specs.Faults.{OnlySortShelf}
use Rattle.sweep_core.specs.declared.checkpoint.Checkpoint.{Checkpoint}
use Rattle.sweep_core.specs.Accounts.{CanBeTaken}
use Rattle.step_sweeps.specs.Made.{node_file, OnlyStep}

-- a file of an earlier step is none of the step, and can't be taken
pub not_of_step : (step next : ℕ) (f : FileNo) → f.step < step → ¬ CanBeTaken step next f
not_of_step step next f before free =
    let same : f.step ≡ step = free.step_is in
    absurd (omega (arith, same, before))

-- a node file of an earlier step isn't the step's, and neither are the file of the step's checkpoints and their gate
pub nodes_apart : (number : ℕ) (f : FileNo) → f.step < number → ¬ (f ≡ node_file number)
nodes_apart number f before same = absurd (let step = ap (λ (x : FileNo). x.step) same in omega (arith, step, before))

pub points_apart : (number : ℕ) → ¬ (checkpoint_file number ≡ node_file number)
points_apart number same = absurd (let part = ap (λ (x : FileNo). x.part) same in omega (arith, part))

pub gate_apart : (number : ℕ) → ¬ (checkpoint_gate number ≡ node_file number)
gate_apart number same = absurd (let part = ap (λ (x : FileNo). x.part) same in omega (arith, part))

-- a file outside the ones that a run changed is as it was
pub file_stays : (these : FileNo → Type 0) (old new : World) (f : FileNo) → ¬ (these f)
    → Ran (OnlyChanged these (now old)) old new → file new f ≡ file old f
file_stays these old new f outside ran = ran_end old new (OnlyChanged these (now old)) ran f outside

-- so is one of an earlier step
pub earlier_stays : (number : ℕ) (old new : World) → Ran (OnlyStep number (now old)) old new → (f : FileNo)
    → f.step < number → file new f ≡ file old f
earlier_stays number old new ran f before =
    file_stays (λ q. q.step ≡ number) old new f (λ same. absurd (omega (arith, same, before))) ran

-- what is so of any answer
pub if_ok : {A E : Type 0} (r : Result A E) (P : A → Type 0) → ((x : A) → P x) → IfOk r P
if_ok (Ok x) P is = is x
if_ok (Err e) P is = tt

-- what follows of an answer, and of a fault
pub ok_more : {A E : Type 0} (r : Result A E) (P Q : A → Type 0) → ((x : A) → P x → Q x) → IfOk r P → IfOk r Q
ok_more (Ok x) P Q more is = more x is
ok_more (Err e) P Q more is = tt

pub ok_both : {A E : Type 0} (r : Result A E) (P Q R : A → Type 0) → ((x : A) → P x → Q x → R x) → IfOk r P → IfOk r Q
    → IfOk r R
ok_both (Ok x) P Q R both p q = both x p q
ok_both (Err e) P Q R both p q = tt

pub err_more : {A E : Type 0} (r : Result A E) (P Q : E → Type 0) → ((e : E) → P e → Q e) → IfErr r P → IfErr r Q
err_more (Ok x) P Q more is = tt
err_more (Err e) P Q more is = more e is

-- what holds of what was given
pub of_some : {A : Type 0} (o : Option A) (x : A) (P : A → Type 0) → o ≡ Some x → IfSome o P → P x
of_some o x P is held = subst (λ q. IfSome q P) is held

pub of_none : {A : Type 0} (o : Option A) (P : Type 0) → o ≡ None → IfNone o P → P
of_none {A} o P is held = subst (λ (q : Option A). IfNone q P) is held

pub of_ok : {A E : Type 0} (r : Result A E) (x : A) (P : A → Type 0) → r ≡ Ok x → IfOk r P → P x
of_ok r x P is held = subst (λ q. IfOk q P) is held

-- a step's last checkpoint is one
pub one_point : (c d : Checkpoint) (last : Option Checkpoint) → last ≡ Some c → last ≡ Some d → d ≡ c
one_point c d last one other = cc

-- an answer with no other count of faults than the folder's
pub folder_ok : {A : Type 0} (old new : Faults) (x : A) → OnlyShelf old new (Ok x)
    → OnlySortShelf {T = Unit} old new (Ok tt)
folder_ok old new x only =
    record { later = only.later; cause = λ is. absurd (cc); say_is = only.say_is; text_is = only.text_is }

-- the counts of faults over two calls, where something else is answered in the end
pub faults_ok : {A B C : Type 0} (old mid new : Faults) (first : Result A SortFault) (second : Result B SortFault)
    (x : C) → OnlySortShelf old mid first → OnlySortShelf mid new second → OnlySortShelf {T = C} old new (Ok x)
faults_ok old mid new first second x one two = record {
  later = let a : old.folder ≤ mid.folder = one.later in
      let b : mid.folder ≤ new.folder = two.later in
      omega (arith, a, b);
  cause = λ is. absurd (cc);
  say_is = two.say_is ∙ one.say_is;
  text_is = λ path. two.text_is path ∙ one.text_is path;
}

-- what has a cause that is no want of a part number is no such fault
pub not_spent : (Cause : SortFault → Type 0) (e : SortFault) → ¬ (Cause RunsSpent) → Cause e → e ≢ RunsSpent
not_spent Cause e never is same = never (subst Cause same is)

-- where it is said that no part number is left, that is the fault
pub the_fault : {A B : Type 0} (e : SortFault) → IsErrOf {T = A} (Err e) RunsSpent → IsErrOf {T = B} (Err e) RunsSpent
the_fault e was = let same : e ≡ RunsSpent = cc in ap Err same

-- a look changes no file
pub stays_step : {S : Type 0} (tells : S → Bool) (world : S → World) (number : ℕ) (old new : S)
    → Told tells old new (Ran (Stays (now (world old))) (world old) (world new))
    → Told tells old new (Ran (OnlyStep number (now (world old))) (world old) (world new))
stays_step tells world number old new look = told tells old new _ _ look
    (λ _ ran. ran_weakens (world old) (world new) (Stays (now (world old))) (OnlyStep number (now (world old)))
    (λ m stays f outside. ap (λ (d : Folder). file_in d f) stays) ran)
