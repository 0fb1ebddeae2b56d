-- the list of a queue from that of its sorter
use Rattle.std.proofs.Common.{◌≡◌, ℕ, ◌*◌, ◌≤◌, false, true≢false, List, ◌∷◌, All, length, refl, sym, subst, ap, ◌∙◌, inl, arith}
use Rattle.std.specs.Prelude.{Option, Some, None, Result, Ok, Err, IfSome, IsErrAnd}
use Rattle.std.specs.List.Sorted.{IsPermutation, IsSorted}
use Rattle.std.specs.Ordering.{nat_cmp, is_lt}
use Rattle.std.specs.Cmp.Lexicographic.{slice_cmp}
use Rattle.std.specs.declared.cmp.Ordering.{Ordering}
use Rattle.std.specs.Cmp.{IsTotalOrder, IsStrictWeakOrder}
use Rattle.std.proofs.lemmas.List.MinMax.{ranks_by}
use Rattle.std.proofs.lemmas.List.Elements.{All-tail, All-cons}
use Rattle.std.proofs.lemmas.List.Sorted.{All-permutation}
use Rattle.shelf_model.specs.declared.sort_fault.SortFault.{SortFault}
use Rattle.shelf_model.specs.declared.sort_fault.SortFault.TheVariants.{Shelf, Damaged, RunsSpent}
use Rattle.shelf_model.specs.declared.file_no.FileNo.{FileNo}
use Rattle.shelf_model.specs.Moments.{Ran, Stays}
use Rattle.shelf_model.specs.World.{World, now, file}
use Rattle.rec_words.specs.declared.rec.Rec.{Rec}
use Rattle.run_files.specs.Items.{record_of}
use Rattle.run_merge.specs.Lists.{Joins, Shows, Gives, GivesValue}
use Rattle.run_merge.specs.declared.sorter.Sorter.{Sorter}
use Rattle.run_tiers.specs.declared.parts.Parts.{Parts}
use Rattle.run_tiers.specs.Parts.{Took, Spilled, WasTaken}
use Rattle.run_merge.specs.Sorters as sorters
use Rattle.run_files.proofs.RecordOrder.{none_less}
use Rattle.run_merge.proofs.RefusedLaws.{err_of}
use Rattle.run_merge.proofs.SorterLaws.{credit_bounded, in_step_kept, list_counted, list_kept, list_kept_unchanged, list_kept_with_parts, serves_on}
use Rattle.run_merge.proofs.RunFiles.{sorter_taken}
use Rattle.level_queue.specs.declared.queue.LevelQueue.{LevelQueue}
use Rattle.level_queue.specs.Queues.{held, credit, IsInStep, IsRunOf, IsNoLess, IsReached, AnswersNoLess, IsOutOfOrder, IsBelow, IsQueueFault, IsQueueCause, Serves, Lists}

-- what follows from the list of which an item joined the other
joins_so : {T : Type 0} (P Q : List T → Type 0) (x : T) (xs : List T) (result : Result Unit SortFault)
    → ((ys : List T) → IsPermutation (x ∷ xs) ys → P ys → Q ys) → Joins P x xs result → Joins Q x xs result
joins_so P Q x xs (Ok u) joined is = (is.0, is.1, joined is.0 is.1 is.2)
joins_so P Q x xs (Err Shelf) joined is = tt
joins_so P Q x xs (Err (Damaged f at)) joined is = is
joins_so P Q x xs (Err RunsSpent) joined is = tt

-- what follows from the list of which the first item is shown
shows_so : {T : Type 0} (P Q : List T → Type 0) (xs : List T) (result : Result (Option T) SortFault) → (P xs → Q xs) → Shows P xs result → Shows Q xs result
shows_so P Q xs (Ok (Some x)) kept is = (is.0, is.1, kept is.2)
shows_so P Q xs (Ok None) kept is = (is.0, kept is.1)
shows_so P Q xs (Err Shelf) kept is = tt
shows_so P Q xs (Err (Damaged f at)) kept is = is
shows_so P Q xs (Err RunsSpent) kept is = is

-- an item that isn't less than the last one taken joins
pub queue_joined : {T : Type 0} (is_value : T → Type 0) (words : T → List ℕ) (cmp : T → T → Ordering) (q : LevelQueue T) (s : Sorter T) (old new : World) (x : T) (xs : List T) (result : Result Unit SortFault)
    → IsNoLess cmp q.last x → Lists is_value words cmp q old xs
    → Joins (sorters.Lists is_value words cmp s new) x xs result
    → Joins (Lists is_value words cmp (record { sorter = s; last = q.last }) new) x xs result
queue_joined {T = T} is_value words cmp q s old new x xs result no_less list joined =
    let after : LevelQueue T = record { sorter = s; last = q.last } in
    joins_so (sorters.Lists is_value words cmp s new) (Lists is_value words cmp after new) x xs result
    (λ ys moved sorted. record { sorter = sorted; reached = All-permutation (IsNoLess cmp q.last) (x ∷ xs) ys moved (All-cons (IsNoLess cmp q.last) x xs no_less list.reached) })
    joined

-- the first item is shown
pub queue_shown : {T : Type 0} (is_value : T → Type 0) (words : T → List ℕ) (cmp : T → T → Ordering) (q : LevelQueue T) (s : Sorter T) (old new : World) (xs : List T) (result : Result (Option T) SortFault)
    → Lists is_value words cmp q old xs
    → Shows (sorters.Lists is_value words cmp s new) xs result
    → Shows (Lists is_value words cmp (record { sorter = s; last = q.last }) new) xs result
queue_shown {T = T} is_value words cmp q s old new xs result list shown =
    let after : LevelQueue T = record { sorter = s; last = q.last } in
    shows_so (sorters.Lists is_value words cmp s new) (Lists is_value words cmp after new) xs result
    (λ sorted. record { sorter = sorted; reached = list.reached }) shown

-- the first item is taken, and none of the others is less
pub queue_given : {T : Type 0} (is_value : T → Type 0) (words : T → List ℕ) (cmp : T → T → Ordering) → IsTotalOrder cmp
    → (q : LevelQueue T) (s : Sorter T) (old new : World) (x : T) (xs : List T)
    → Lists is_value words cmp q old xs
    → Gives (sorters.Lists is_value words cmp s new) xs (Ok (Some x))
    → Gives (Lists is_value words cmp (record { sorter = s; last = Some x }) new) xs (Ok (Some x))
queue_given {T = T} is_value words cmp total q s old new x xs list given =
    let order : IsStrictWeakOrder (λ (a b : T). is_lt (cmp a b)) = ranks_by total (λ (a : T). a) in
    let up = subst (IsSorted cmp) given.1 list.sorter.ascends in
    let after : All (IsNoLess cmp (Some x)) given.0 =
    All-tail (IsNoLess cmp (Some x)) x given.0 (none_less (λ (a b : T). is_lt (cmp a b)) order x given.0 up) in
    (given.0, given.1, record { sorter = given.2; reached = after })

-- a queue holds as many items as its list has
pub queue_counted : {T : Type 0} (is_value : T → Type 0) (words : T → List ℕ) (cmp : T → T → Ordering) (q : LevelQueue T) (world : World) (xs : List T)
    → Lists is_value words cmp q world xs → length xs ≡ held q
unfolding held
queue_counted is_value words cmp q world xs list = list_counted is_value words cmp q.sorter world xs list.sorter

-- what is paid for calls is at most 64 for each item
pub queue_credit : {T : Type 0} (q : LevelQueue T) → credit q ≤ 64 * held q
unfolding credit held
queue_credit q = credit_bounded q.sorter

-- a queue's list stays where the bytes of its runs stay
pub queue_kept : {T : Type 0} (is_value : T → Type 0) (words : T → List ℕ) (cmp : T → T → Ordering) (q : LevelQueue T) (old new : World) (xs : List T)
    → ((f : FileNo) → IsRunOf q f → (file new f).bytes ≡ (file old f).bytes) → Lists is_value words cmp q old xs → Lists is_value words cmp q new xs
unfolding IsRunOf
queue_kept is_value words cmp q old new xs same list =
    record { sorter = list_kept is_value words cmp q.sorter old new xs same list.sorter; reached = list.reached }

-- and its windows hold what the files of its runs do
pub queue_in_step_kept : {T : Type 0} (q : LevelQueue T) (old new : World)
    → ((f : FileNo) → IsRunOf q f → (file new f).bytes ≡ (file old f).bytes) → IsInStep q old → IsInStep q new
unfolding IsRunOf IsInStep
queue_in_step_kept q old new same step = in_step_kept q.sorter old new same step

-- so it stays while no file changes
pub queue_kept_unchanged : {T : Type 0} (is_value : T → Type 0) (words : T → List ℕ) (cmp : T → T → Ordering) (q : LevelQueue T) (old new : World) (xs : List T)
    → Ran (Stays (now old)) old new → Lists is_value words cmp q old xs → Lists is_value words cmp q new xs
queue_kept_unchanged is_value words cmp q old new xs ran list =
    record { sorter = list_kept_unchanged is_value words cmp q.sorter old new xs ran list.sorter; reached = list.reached }

-- and where parts that can serve the queue were taken
pub queue_kept_with_parts : {T : Type 0} (is_value : T → Type 0) (words : T → List ℕ) (cmp : T → T → Ordering) (q : LevelQueue T) (before after : Parts) (old new : World) (xs : List T)
    → Serves before q → Spilled before after old new → Lists is_value words cmp q old xs → Lists is_value words cmp q new xs
unfolding Serves
queue_kept_with_parts is_value words cmp q before after old new xs serves spilled list =
    record { sorter = list_kept_with_parts is_value words cmp q.sorter before after old new xs serves spilled list.sorter; reached = list.reached }

-- parts that can serve a queue still can when some of them were taken
pub queue_serves_on : {T : Type 0} (q : LevelQueue T) (old new : Parts) → Serves old q → Took old new → Serves new q
unfolding Serves
queue_serves_on q old new serves took = serves_on q.sorter old new serves took

-- the last item taken stays below the records that are left where an item that isn't less joins
pub reached_joined : {T : Type 0} (is_value : T → Type 0) (words : T → List ℕ) (cmp : T → T → Ordering) (last : Option T) (old new : Sorter T) (x : T)
    → ((y : T) → is_value y → is_lt (cmp x y) ≡ false → sorters.IsAbove (record_of words y) old → sorters.IsAbove (record_of words y) new)
    → IsNoLess cmp last x → IfSome last (IsReached is_value words old) → IfSome last (IsReached is_value words new)
reached_joined is_value words cmp None old new x joins no_less reached = tt
reached_joined is_value words cmp (Some l) old new x joins no_less reached =
    record { value = reached.value; above = joins l reached.value no_less reached.above }

-- and where none of the room becomes less
pub reached_stays : {T : Type 0} (is_value : T → Type 0) (words : T → List ℕ) (last : Option T) (old new : Sorter T)
    → ((r : Rec) → sorters.IsAbove r old → sorters.IsAbove r new) → IfSome last (IsReached is_value words old) → IfSome last (IsReached is_value words new)
reached_stays is_value words None old new above reached = tt
reached_stays is_value words (Some l) old new above reached = record { value = reached.value; above = above (record_of words l) reached.above }

-- an item in order isn't less than the last one taken
pub answers_ordered : {T : Type 0} (cmp : T → T → Ordering) (last item : Option T) → IfSome item (IsNoLess cmp last) → AnswersNoLess cmp last (Ok item)
answers_ordered cmp last None order = tt
answers_ordered cmp last (Some x) order = order

-- the first of a list of which none is less than the last one taken is in order
pub listed_in_order : {T : Type 0} (P : List T → Type 0) (cmp : T → T → Ordering) (xs : List T) (last item : Option T) → IsOutOfOrder cmp last item → All (IsNoLess cmp last) xs → Shows P xs (Ok item) → ⊥
listed_in_order P cmp xs None item out reached shown = out
listed_in_order P cmp xs (Some l) None out reached shown = out
listed_in_order {T = T} P cmp xs (Some l) (Some x) out reached (rest, is, now) =
    let all : All (IsNoLess cmp (Some l)) (x ∷ rest) = subst (All (IsNoLess cmp (Some l))) is reached in
    let first : is_lt (cmp x l) ≡ false = all 0 x (omega arith) in
    true≢false (sym out ∙ first)

-- so is an item of the room
pub own_in_order : {T : Type 0} (is_value : T → Type 0) (words : T → List ℕ) (cmp : T → T → Ordering)
    → ((x y : T) → is_value x → is_value y → cmp x y ≡ slice_cmp nat_cmp (words x) (words y))
    → (s : Sorter T) (last item : Option T) → IsOutOfOrder cmp last item → GivesValue is_value (Ok item) → sorters.AnswersOwn words s (Ok item) → IfSome last (IsReached is_value words s) → sorters.first_place_of s ≡ None → ⊥
own_in_order is_value words cmp ordered s None item out value own reached none = out
own_in_order is_value words cmp ordered s (Some l) None out value own reached none = out
own_in_order is_value words cmp ordered s (Some l) (Some x) out value own reached none =
    let first : is_lt (cmp x l) ≡ false = ap is_lt (ordered x l value reached.value) ∙ own none (record_of words l) reached.above in
    true≢false (sym out ∙ first)

-- an item out of order is that of a run at that place
pub below_there : {T : Type 0} (is_value : T → Type 0) (words : T → List ℕ) (cmp : T → T → Ordering) (s : Sorter T) (world : World) (last item : Option T) (f : FileNo) (at : ℕ) → IsOutOfOrder cmp last item
    → GivesValue is_value (Ok item) → sorters.first_place_of s ≡ Some (f, at) → sorters.AnswersThere words s world (Ok item) → IsBelow is_value words cmp last s world f at
below_there is_value words cmp s world None item f at out value place there = absurd out
below_there is_value words cmp s world (Some l) None f at out value place there = absurd out
below_there is_value words cmp s world (Some l) (Some x) f at out value place there =
    (x, l, value, refl, out, subst (λ o. IfSome o (sorters.IsNextRecord s world (record_of words x))) place there)

-- of a list nothing is shown where the sorter shows nothing of its own because of the shelf
pub shows_on : {T : Type 0} (P Q : List T → Type 0) (xs : List T) (r : Result (Option T) SortFault) (e : SortFault) → IsErrAnd r (λ y. y ≡ e) → Shows P xs (Err e) → Shows Q xs r
shows_on P Q xs (Ok o) e is shows = absurd is
shows_on {T = T} P Q xs (Err Shelf) e is shows = tt
shows_on {T = T} P Q xs (Err (Damaged f at)) e is shows = subst (λ (y : SortFault). Shows P xs (err_of {T = T} y)) (sym is) shows
shows_on {T = T} P Q xs (Err RunsSpent) e is shows = subst (λ (y : SortFault). Shows P xs (err_of {T = T} y)) (sym is) shows

-- a fault of the sorter is one of the queue
pub fault_of_sorter : {T : Type 0} (is_value : T → Type 0) (words : T → List ℕ) (cmp : T → T → Ordering) (old new : LevelQueue T) (before after : World) (e : SortFault)
    → sorters.IsReadFault is_value words old.sorter before e → IsQueueFault is_value words cmp old new before after e
unfolding sorters.IsReadFault
fault_of_sorter is_value words cmp old new before after Shelf fault = tt
fault_of_sorter is_value words cmp old new before after (Damaged f at) fault = inl fault
fault_of_sorter is_value words cmp old new before after RunsSpent fault = fault

pub cause_of_sorter : {T : Type 0} (old new : LevelQueue T) (e : SortFault) → sorters.IsReadCause old.sorter e → IsQueueCause old new e
unfolding sorters.IsReadCause
cause_of_sorter old new Shelf cause = tt
cause_of_sorter old new (Damaged f at) cause = inl cause
cause_of_sorter old new RunsSpent cause = cause

-- an item that was given is below the records that are left
pub given_reached : {T : Type 0} (is_value : T → Type 0) (words : T → List ℕ) (s : Sorter T) (o : Option T) (x : T) → o ≡ Some x
    → GivesValue is_value (Ok o) → sorters.LeavesAbove words s (Ok o) → IsReached is_value words s x
given_reached {T = T} is_value words s o x is value above = record {
  value = subst (λ (p : Option T). GivesValue is_value (Ok p)) is value;
  above = subst (λ (p : Option T). sorters.LeavesAbove words s (Ok p)) is above;
}

-- the runs of a queue that parts can serve are those of parts that were taken
pub queue_taken : {T : Type 0} (q : LevelQueue T) (parts : Parts) (f : FileNo) → Serves parts q → IsRunOf q f → WasTaken parts f
unfolding Serves IsRunOf
queue_taken q parts f serves run = sorter_taken q.sorter parts f serves run
