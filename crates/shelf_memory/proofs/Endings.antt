-- How the counts at the end of a call give the causes of its answer.
use Rattle.std.proofs.Common.{◌≡◌, ◌⊎◌, ℕ, ◌+◌, ◌-◌, ◌^◌, ◌<◌, ◌≤◌, min, Bool, true, false, ◌||◌, refl, ap, ◌∙◌, inl, inr, arith}
use Rattle.std.specs.Prelude.{Result, Ok, Err, OnErr, IsErr, is_err, String}
use Rattle.std.proofs.Math.Bool.{or-true}
use Rattle.std.specs.Global.{Global}
use Rattle.std.specs.BTreeMap.{BTreeMap}
use Rattle.shelf_memory.specs.declared.counts.Counts.{Counts}
use Rattle.shelf_memory.specs.declared.texts.Text.{Text}
use Rattle.std.specs.Bool.{Decides}
use Rattle.shelf_model.specs.declared.fault.Failed.{Failed}
use Rattle.shelf_model.specs.Faults.{Rose, OnlyFolder}
use Rattle.shelf_memory.specs.declared.bench.Bench.{Bench}
use Rattle.shelf_memory.specs.Disks.{clock_after}
use Rattle.shelf_memory.specs.Texts.{raised, count_at}
use Rattle.shelf_memory.specs.Failures.{seen}
use Rattle.shelf_memory.specs.Benches.{faults_in, clock_of, starved_of, file_at, lists, SameBytes, FailsExactly}

-- a count that rises with a failure rose at each
pub rose_with : {T : Type 0} (result : Result T Failed) (failed : Bool) (old new : ℕ) → is_err result ≡ failed → new ≡ raised failed old → OnErr result (Rose old new)
rose_with (Ok x) failed old new answer rise = tt
rose_with (Err e) true old new answer rise = let rises : new ≡ min (old + 1) (2 ^ 64 - 1) = rise in omega (arith, rises)
rose_with (Err e) false old new answer rise = let wrong : true ≡ false = answer in cc

-- a failure has one of the two causes
cause_of : {T : Type 0} (Reason : Type 0) (fails refused : Bool) (result : Result T Failed) (old new : ℕ) → (fails ≡ true → Reason)
    → is_err result ≡ (fails || refused) → new ≡ raised refused old → OnErr result (Reason ⊎ Rose old new)
cause_of Reason fails refused (Ok x) old new means answer rise = tt
cause_of Reason true refused (Err e) old new means answer rise = inl (means refl)
cause_of Reason false true (Err e) old new means answer rise = inr (let rises : new ≡ min (old + 1) (2 ^ 64 - 1) = rise in omega (arith, rises))
cause_of Reason false false (Err e) old new means answer rise = let wrong : true ≡ false = answer in cc

-- where memory was refused the count of that rose, or it stands, and nothing was told before
refused_where : (refused : Bool) (old new : ℕ) → new ≡ raised refused old → old < new → refused ≡ true
refused_where true old new rise more = refl
refused_where false old new rise more = let same : new ≡ old = rise in absurd (omega (arith, same, more))

ticks_where : (refused : Bool) (clock after old new : ℕ) → new ≡ raised refused old → after ≡ clock_after refused clock → (clock < 2 ^ 64 - 1 → old ≡ 0)
    → new ≡ old → after ≡ min (clock + 1) (2 ^ 64 - 1)
ticks_where true clock after old new rise tick none same =
    let rises : new ≡ min (old + 1) (2 ^ 64 - 1) = rise in
    let dark : after ≡ 2 ^ 64 - 1 = tick in
    grind (arith, rises, dark, none, same)
ticks_where false clock after old new rise tick none same = tick

-- a call that fails where it is to fail, or where memory was refused
pub fails_exactly : {T : Type 0} (Reason : Type 0) (fails refused : Bool) (result : Result T Failed) (old new : Bench) → Decides fails Reason
    → is_err result ≡ (fails || refused) → starved_of new ≡ raised refused (starved_of old) → starved_of old ≤ starved_of new
    → clock_of new ≡ clock_after refused (clock_of old) → OnErr result (SameBytes old new) → ((n : ℕ) → lists new n ≡ lists old n)
    → new.failures.watch ≡ seen old.failures.watch (file_at new) → FailsExactly Reason result old new
fails_exactly Reason fails refused result old new means answer rise more tick kept listed watched = record {
  cause = cause_of Reason fails refused result (starved_of old) (starved_of new) means.0 answer rise;
  due = λ reason. answer ∙ ap (λ b. b || refused) (means.1 reason);
  starving = λ rose. answer ∙ ap (λ b. fails || b) (refused_where refused (starved_of old) (starved_of new) rise rose) ∙ or-true fails;
  later = more;
  kept = kept;
  ticks = ticks_where refused (clock_of old) (clock_of new) (starved_of old) (starved_of new) rise tick (λ counts. (old.counts_are counts).1);
  dark = λ rose. tick ∙ ap (λ b. clock_after b (clock_of old)) (refused_where refused (starved_of old) (starved_of new) rise rose);
  lists_are = listed;
  watch_is = watched;
}

-- the counts of a call of the folder
pub only_folder : {T : Type 0} (failed : Bool) (result : Result T Failed) (old new : Counts) (texts : BTreeMap (String Global) Text) → is_err result ≡ failed
    → new.folder ≡ raised failed old.folder → old.folder ≤ new.folder → new.say ≡ old.say → new.pathless ≡ old.pathless
    → OnlyFolder (faults_in old texts) (faults_in new texts) result
only_folder failed result old new texts answer rise more say pathless = record {
  later = more;
  cause = rose_with result failed old.folder new.folder answer rise;
  say_is = say;
  text_is = λ path. ap (λ others. count_at others texts path) pathless;
}

-- what holds where a call failed
pub on_failure : {T : Type 0} (result : Result T Failed) (X : Type 0) → (IsErr result → X) → OnErr result X
on_failure (Ok x) X holds = tt
on_failure (Err e) X holds = holds refl
