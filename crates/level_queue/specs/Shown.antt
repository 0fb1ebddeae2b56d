-- What tables and the last item taken stand for, by what files hold.
use Rattle.std.specs.Prelude.{◌≡◌, ℕ, List, Option, take}
use Rattle.std.specs.declared.cmp.Ordering.{Ordering}
use Rattle.shelf_model.specs.declared.file_no.FileNo.{FileNo}
use Rattle.shelf_model.specs.World.{World, file}
use Rattle.run_tiers.specs.declared.run.RunTable.{RunTable}
use Rattle.run_merge.specs.Shown as sorters
use Rattle.level_queue.specs.Tables.{TablesList, TablesShow, IsBeforeAnyEnd, table_at}

module _ {T : Type 0} (is_value : T → Type 0) (words : T → List ℕ) (cmp : T → T → Ordering) (step : ℕ)
    (tables : List RunTable) (last : Option T) where
  -- what they stand for in a world they also do by the bytes that the files have there
  pub shows_now : (world : World) (xs : List T) → TablesList is_value words cmp step tables last world xs
      → TablesShow is_value words cmp step tables last (λ f. (file world f).bytes) xs
  shows_now world xs list = record {
    sorter = sorters.shows_now is_value words cmp step (table_at tables 0) world xs list.sorter;
    reached = list.reached;
  }

  -- it stays so where the bytes of their runs do up to where they end
  pub shows_stay : (old new : FileNo → List ℕ) (xs : List T)
      → ((f : FileNo) (n : ℕ) → IsBeforeAnyEnd step tables f n → take n (new f) ≡ take n (old f))
      → TablesShow is_value words cmp step tables last old xs → TablesShow is_value words cmp step tables last new xs
  shows_stay old new xs same shows = record {
    sorter = sorters.shows_stay is_value words cmp step (table_at tables 0) old new xs same shows.sorter;
    reached = shows.reached;
  }

  -- and what they stand for by the bytes that the files have in a world they also do there
  pub shown_lists : (world : World) (xs : List T)
      → TablesShow is_value words cmp step tables last (λ f. (file world f).bytes) xs
      → TablesList is_value words cmp step tables last world xs
  shown_lists world xs shows = record {
    sorter = sorters.shown_lists is_value words cmp step (table_at tables 0) world xs shows.sorter;
    reached = shows.reached;
  }
