-- Turns of a sweep, one after another, none of which ended it: what they leave and cost together.
use Rattle.std.proofs.Common.{◌≡◌, ℕ, ◌+◌, ◌*◌, ◌-◌, ◌^◌, ◌<◌, ◌≤◌, IsTrue, arith, min}
use Rattle.std.specs.Prelude.{Result, Ok}
use Rattle.shelf_model.specs.declared.sort_fault.SortFault.{SortFault}
use Rattle.shelf_model.specs.declared.shelf.Shelf as shelf
use Rattle.sweep_core.specs.declared.sweep.Sweep as sweep
use Rattle.sweep_core.specs.declared.turn.Turn.{Turn}
use Rattle.sweep_core.specs.declared.turn.Turn.TheVariants.{More, Ended}
use Rattle.sweep_core.specs.Accounts.{Leaves}
use Rattle.sweep_core.specs.Counted.{AreAll, Fell}
use Rattle.sweep_core.proofs.Leaving.{leaves_then, leaves_more}

-- so many turns were made, none of which ended the sweep
pub record TurnsMade {P S : Type 0} (kind : sweep.Ghosts P) (folder : shelf.Ghosts S) (made : ℕ) (before now : S)
    (old new : P) : Type 0 where
  pub fell : kind.fuel new + made ≤ kind.fuel old
  pub fewer : IsTrue (folder.tells now) → (job : kind.Job) → kind.remains old (folder.world before) job →
      kind.left new (folder.world now) job + made ≤ kind.left old (folder.world before) job
  pub leaves : Leaves {T = Turn} folder.tells folder.world folder.faults kind.accounts (224 * made) (12 * made)
      before now old new (Ok More)

-- turns were made, none of which ended the sweep, and the count of them is as 64 bits count
pub record TurnsCounted {P S : Type 0} (kind : sweep.Ghosts P) (folder : shelf.Ghosts S) (turns : ℕ)
    (before now : S) (old new : P) : Type 0 where
  pub made : ℕ
  pub turns_is : turns ≡ min made (2 ^ 64 - 1)
  pub so_far : TurnsMade kind folder made before now old new

module _ {P S : Type 0} (kind : sweep.Ghosts P) (folder : shelf.Ghosts S) where
  -- what the turns leave with further ones, whatever these answer
  pub leaves_next : {T : Type 0} (made more : ℕ) (before now after : S) (old mid new : P)
      (result : Result T SortFault) → TurnsMade kind folder made before now old mid
      → Leaves folder.tells folder.world folder.faults kind.accounts (224 * more) (12 * more) now after mid new result
      → Leaves folder.tells folder.world folder.faults kind.accounts (224 * (made + more)) (12 * (made + more))
      before after old new result
  leaves_next made more before now after old mid new result so_far leaves =
      leaves_more folder.tells folder.world folder.faults kind.accounts (224 * made + 224 * more)
      (224 * (made + more)) (12 * made + 12 * more) (12 * (made + more)) before after old new result
      (omega arith) (omega arith)
      (leaves_then folder.tells folder.world folder.faults kind.accounts (224 * made) (224 * more) (12 * made)
      (12 * more) before now after old mid new (Ok More) result so_far.leaves leaves)

  -- further turns, none of which ended the sweep
  pub turns_then : (made more : ℕ) (before now after : S) (old mid new : P)
      → TurnsMade kind folder made before now old mid
      → (IsTrue (folder.tells now) → (job : kind.Job) → kind.remains old (folder.world before) job →
      kind.remains mid (folder.world now) job)
      → TurnsMade kind folder more now after mid new
      → TurnsMade kind folder (made + more) before after old new
  turns_then made more before now after old mid new so_far keeps further = record {
    fell = let i = so_far.fell in let j = further.fell in omega (arith, i, j);
    fewer = λ told job remains.
        let told_now = further.leaves.content.before told in
        let fewer_so_far = so_far.fewer told_now job remains in
        let fewer_now = further.fewer told job (keeps told_now job remains) in
        omega (arith, fewer_so_far, fewer_now);
    leaves = leaves_next made more before now after old mid new (Ok More) so_far further.leaves;
  }

  -- what the turns leave with a further one, whatever it answers: there are no more than there was fuel for, and one
  pub leaves_within : {T : Type 0} (made most : ℕ) (before now after : S) (old mid new : P)
      (result : Result T SortFault) → made < most → TurnsMade kind folder made before now old mid
      → Leaves folder.tells folder.world folder.faults kind.accounts 224 12 now after mid new result
      → Leaves folder.tells folder.world folder.faults kind.accounts (224 * min most (kind.fuel old + 1))
      (12 * min most (kind.fuel old + 1)) before after old new result
  leaves_within made most before now after old mid new result below so_far leaves =
      let fell = so_far.fell in
      leaves_more folder.tells folder.world folder.faults kind.accounts (224 * (made + 1))
      (224 * min most (kind.fuel old + 1)) (12 * (made + 1)) (12 * min most (kind.fuel old + 1)) before after old new
      result (omega (arith, below, fell)) (omega (arith, below, fell))
      (leaves_next made 1 before now after old mid new result so_far leaves)

  -- so many turns at once, where none of them ended the sweep
  pub turns_made : (turns most : ℕ) (now after : S) (mid new : P) (turn : Turn) → turn ≡ More → AreAll most turns turn
      → Fell (kind.fuel mid) (kind.fuel new) turns turn
      → (IsTrue (folder.tells after) → (job : kind.Job) → kind.remains mid (folder.world now) job →
      Fell (kind.left mid (folder.world now) job) (kind.left new (folder.world after) job) turns turn)
      → Leaves folder.tells folder.world folder.faults kind.accounts (224 * min most (kind.fuel mid + 1))
      (12 * min most (kind.fuel mid + 1)) now after mid new (Ok turn)
      → TurnsMade kind folder turns now after mid new
  turns_made turns most now after mid new Ended is all fell fewer leaves = absurd (cc)
  turns_made turns most now after mid new More is all fell fewer leaves = record {
    fell = fell;
    fewer = fewer;
    leaves = leaves_more folder.tells folder.world folder.faults kind.accounts (224 * min most (kind.fuel mid + 1))
        (224 * turns) (12 * min most (kind.fuel mid + 1)) (12 * turns) now after mid new (Ok More)
        (omega (arith, all)) (omega (arith, all)) leaves;
  }

  -- turns that were counted, and further ones, none of which ended the sweep
  pub turns_counted : (turns more next : ℕ) (before now after : S) (old mid new : P)
      → next ≡ min (turns + more) (2 ^ 64 - 1) → TurnsCounted kind folder turns before now old mid
      → (IsTrue (folder.tells now) → (job : kind.Job) → kind.remains old (folder.world before) job →
      kind.remains mid (folder.world now) job)
      → TurnsMade kind folder more now after mid new
      → TurnsCounted kind folder next before after old new
  turns_counted turns more next before now after old mid new next_is counted keeps further =
      let turns_is = counted.turns_is in
      record {
        made = counted.made + more;
        turns_is = omega (arith, next_is, turns_is);
        so_far = turns_then counted.made more before now after old mid new counted.so_far keeps further;
      }

  -- what turns that were counted leave with further ones, of which there are no more than there was fuel for, and one
  pub leaves_fueled : {T : Type 0} (turns most : ℕ) (before now after : S) (old mid new : P)
      (result : Result T SortFault) → TurnsCounted kind folder turns before now old mid
      → Leaves folder.tells folder.world folder.faults kind.accounts (224 * min most (kind.fuel mid + 1))
      (12 * min most (kind.fuel mid + 1)) now after mid new result
      → Leaves folder.tells folder.world folder.faults kind.accounts (224 * (kind.fuel old + 1))
      (12 * (kind.fuel old + 1)) before after old new result
  leaves_fueled turns most before now after old mid new result counted leaves =
      let fell = counted.so_far.fell in
      leaves_more folder.tells folder.world folder.faults kind.accounts
      (224 * (counted.made + min most (kind.fuel mid + 1))) (224 * (kind.fuel old + 1))
      (12 * (counted.made + min most (kind.fuel mid + 1))) (12 * (kind.fuel old + 1)) before after old new result
      (omega (arith, fell)) (omega (arith, fell))
      (leaves_next counted.made (min most (kind.fuel mid + 1)) before now after old mid new result counted.so_far
      leaves)
