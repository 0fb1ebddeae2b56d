-- What a call of a sweep that only reads leaves and costs.
use Rattle.std.proofs.Common.{◌≡◌, ◌+◌, ◌≤◌, Bool, refl, ap, arith}
use Rattle.std.specs.Prelude.{Result, Ok, Err}
use Rattle.shelf_model.specs.declared.sort_fault.SortFault.{SortFault}
use Rattle.shelf_model.specs.Calls.{Told}
use Rattle.shelf_model.specs.Faults.{Faults}
use Rattle.shelf_model.specs.Moments.{Stays}
use Rattle.shelf_model.specs.World.{World, now}
use Rattle.shelf_model.proofs.Runs.{told, told_here, ran_stands, ran_weakens}
use Rattle.block_stream.specs.Reads.{Looked}
use Rattle.run_tiers.specs.Faults.{OnlySortShelf}
use Rattle.run_tiers.specs.declared.parts.Parts.{Parts}
use Rattle.sweep_core.specs.Accounts.{OnlyOwn, Leaves}
use Rattle.sweep_core.proofs.Leaving.{own_stays}
use Rattle.sweep_core.proofs.Untaken.{stays_empty}
use Rattle.restrict_eval.specs.Accounts.{reading_accounts}

-- where a call went well, another answer has no other cause
pub faults_ok : {A B : Type 0} (old new : Faults) (result : Result A SortFault) (x : B) → OnlySortShelf old new result → OnlySortShelf old new (Ok x)
faults_ok old new result x faults = record { later = faults.later; cause = λ is. cc; say_is = faults.say_is; text_is = faults.text_is }

pub faults_err : {A B : Type 0} (old new : Faults) (e : SortFault) → OnlySortShelf {T = A} old new (Err e) → OnlySortShelf {T = B} old new (Err e)
faults_err old new e faults = record { later = faults.later; cause = λ is. faults.cause (ap Err (cc)); say_is = faults.say_is; text_is = faults.text_is }

module _ {S P : Type 0} (tells : S → Bool) (world : S → World) (counts : S → Faults) (parts_of : P → Parts) where
  -- one call was made, and no part was taken
  pub looked_leaves : {T : Type 0} (before after : S) (old new : P) (result : Result T SortFault) → parts_of new ≡ parts_of old
      → Told tells before after (Looked 1 (world before) (world after)) → OnlySortShelf (counts before) (counts after) result
      → Leaves tells world counts (reading_accounts parts_of) 1 0 before after old new result
  looked_leaves before after old new result same content faults =
      let next : (parts_of new).next ≡ (parts_of old).next = ap (λ (p : Parts). p.next) same in
      record {
        made = λ f mine. mine;
        making = λ f mine. mine;
        step_is = ap (λ (p : Parts). p.step) same;
        later = omega (arith, next);
        within = λ few. omega (arith, next, few);
        content = told tells before after _ _ content (λ _ looked. ran_weakens (world before) (world after) (Stays (now (world before)))
            (OnlyOwn (λ f. ⊥) (parts_of old).step (parts_of old).next (now (world before)))
            (λ m stays. own_stays (λ f. ⊥) (parts_of old).step (parts_of old).next (now (world before)) m stays) looked.run);
        untaken = λ is. stays_empty (λ f. ⊥) (parts_of old).step (parts_of new).next (world before) (world after)
            (content.did is).run;
        calls = λ is. let few : (world after).clock ≤ (world before).clock + 1 = (content.did is).few in omega (arith, few);
        spent = omega (arith, next);
        faults = faults;
      }

  -- no call was made
  pub still_leaves : {T : Type 0} (s : S) (old new : P) (x : T) → parts_of new ≡ parts_of old → Leaves tells world counts (reading_accounts parts_of) 1 0 s s old new (Ok x)
  still_leaves s old new x same = looked_leaves s s old new (Ok x) same
      (told_here tells s _ (λ _. record { run = ran_stands (world s) (Stays (now (world s))) refl; few = omega arith }))
      (record { later = omega arith; cause = λ is. cc; say_is = refl; text_is = λ path. refl })
