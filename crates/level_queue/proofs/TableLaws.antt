-- what tables of a queue stand for
use Rattle.std.proofs.Common.{◌≡◌, ℕ, List, sym, subst}
use Rattle.std.specs.Prelude.{Option, Some, None, Result, Ok, Err, IfSome, IsErrAnd}
use Rattle.std.specs.declared.cmp.Ordering.{Ordering}
use Rattle.shelf_model.specs.declared.sort_fault.SortFault.{SortFault}
use Rattle.shelf_model.specs.declared.sort_fault.SortFault.TheVariants.{Shelf, Damaged, RunsSpent}
use Rattle.shelf_model.specs.Moments.{Ran}
use Rattle.shelf_model.specs.World.{World, now}
use Rattle.run_tiers.specs.declared.parts.Parts.{Parts}
use Rattle.run_tiers.specs.declared.run.RunTable.{RunTable}
use Rattle.run_tiers.specs.Syncs.{AnyFroze}
use Rattle.rec_words.specs.declared.rec.Rec.{Rec}
use Rattle.run_files.specs.Items.{record_of}
use Rattle.run_merge.specs.declared.sorter.Sorter.{Sorter}
use Rattle.run_merge.specs.Sorters as sorters
use Rattle.run_merge.specs.Lists.{Freezes}
use Rattle.run_merge.specs.Shown.{table_kept}
use Rattle.run_merge.proofs.FreezeLaws.{list_kept_frozen, table_kept_frozen}
use Rattle.level_queue.specs.declared.queue.LevelQueue.{LevelQueue}
use Rattle.level_queue.specs.Queues.{IsReached, Serves, Lists}
use Rattle.level_queue.specs.Tables.{AreFirmTables, ServeTables, TablesList, TablesStay, table_at}

module _ {T : Type 0} (is_value : T → Type 0) (words : T → List ℕ) (cmp : T → T → Ordering) where
  pub queue_kept_frozen : (q : LevelQueue T) (before after : Parts) (old new : World) (xs : List T)
      → Serves before q → Ran (AnyFroze before after (now old)) old new → Lists is_value words cmp q old xs → Lists is_value words cmp q new xs
  unfolding Serves
  queue_kept_frozen q before after old new xs serves ran list = record {
    sorter = list_kept_frozen is_value words cmp q.sorter before after old new xs serves ran list.sorter;
    reached = list.reached;
  }

  pub tables_kept : (step : ℕ) (tables : List RunTable) (last : Option T) (old new : World) (xs : List T)
      → TablesStay step tables old new → TablesList is_value words cmp step tables last old xs → TablesList is_value words cmp step tables last new xs
  tables_kept step tables last old new xs stay list = record {
    sorter = table_kept is_value words cmp step (table_at tables 0) old new xs stay list.sorter;
    reached = list.reached;
  }

  pub tables_kept_frozen : (tables : List RunTable) (last : Option T) (before after : Parts) (old new : World) (xs : List T)
      → ServeTables before tables → Ran (AnyFroze before after (now old)) old new → AreFirmTables before.step tables old → TablesList is_value words cmp before.step tables last old xs
      → AreFirmTables before.step tables new × TablesList is_value words cmp before.step tables last new xs
  tables_kept_frozen tables last before after old new xs serves ran firm list =
      let kept = table_kept_frozen is_value words cmp (table_at tables 0) before after old new xs serves ran firm list.sorter in
      (kept.0, record { sorter = kept.1; reached = list.reached })

-- a fault that one freeze answers is that of the other
pub freezes_on : {T U V : Type 0} (Old Now : List T → Type 0) (Stood : U → List T → Type 0) (Stands : V → List T → Type 0) (xs : List T) (r : Result V SortFault) (e : SortFault)
    → IsErrAnd r (λ y. y ≡ e) → Freezes Old Stood xs (Err e) → Freezes Now Stands xs r
freezes_on Old Now Stood Stands xs (Ok u) e is froze = absurd is
freezes_on {T = T} {U = U} Old Now Stood Stands xs (Err Shelf) e is froze = tt
freezes_on {T = T} {U = U} Old Now Stood Stands xs (Err (Damaged f at)) e is froze = subst (λ (y : SortFault). Freezes Old Stood xs (refused y)) (sym is) froze
  where
    refused : SortFault → Result U SortFault
    refused y = Err y
freezes_on {T = T} {U = U} Old Now Stood Stands xs (Err RunsSpent) e is froze = tt

-- the last item taken is a value, and no record stands in a room that is empty
pub reached_thawed : {T : Type 0} (is_value : T → Type 0) (words : T → List ℕ) (last : Option T) (s : Sorter T) → ((r : Rec) → sorters.IsAbove r s) → IfSome last is_value → IfSome last (IsReached is_value words s)
reached_thawed is_value words None s above value = tt
reached_thawed is_value words (Some l) s above value = record { value = value; above = above (record_of words l) }
