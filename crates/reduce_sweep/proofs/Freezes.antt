-- What a freeze of the queue, of the rows or of the names leaves of a reduction.
use Rattle.std.proofs.Common.{◌≡◌, ℕ, ◌⊎◌, ◌∙◌, List, refl, arith, sym, subst, ap}
use Rattle.std.specs.Prelude.{Bool, IsTrue, Result, Ok, Err, OnOk, IfOk, IfErr}
use Rattle.shelf_model.specs.declared.file_no.FileNo.{FileNo}
use Rattle.shelf_model.specs.declared.sort_fault.SortFault.{SortFault}
use Rattle.shelf_model.specs.Calls.{Told}
use Rattle.shelf_model.specs.Faults.{Faults}
use Rattle.shelf_model.specs.Moments.{Ran}
use Rattle.shelf_model.specs.World.{World, now}
use Rattle.shelf_model.proofs.Runs.{told, ran_weakens}
use Rattle.run_tiers.specs.declared.parts.Parts.{Parts}
use Rattle.run_tiers.specs.declared.run.RunTable.{RunTable}
use Rattle.run_tiers.specs.Faults.{OnlySortShelf}
use Rattle.run_tiers.specs.Parts.{Took, IsTaken, WasTaken, Paid, PaidParts}
use Rattle.run_tiers.specs.Syncs.{Froze, AnyFroze}
use Rattle.run_tiers.specs.Tables.{IsTable, IsTidyTable, IsBareTable, IsFirmTable, Names, ServeTable, table_left}
use Rattle.run_tiers.proofs.SyncLaws.{same_or_firm_more, same_or_firm_kept}
use Rattle.run_merge.specs.Tables.{TableLists}
use Rattle.run_merge.specs.declared.sorter.Sorter.{Sorter}
use Rattle.run_merge.specs.Sorters as sorters
use Rattle.run_merge.proofs.RunFiles.{sorter_taken}
use Rattle.level_queue.specs.declared.queue.LevelQueue.{LevelQueue}
use Rattle.level_queue.specs.Queues as queues
use Rattle.level_queue.specs.Tables.{AreTables, AreTidyTables, AreFirmTables, NamesAny, ServeTables, TablesList, table_at, tables_left}
use Rattle.level_queue.proofs.QueueLaws.{queue_taken}
use Rattle.arc_diagrams.specs.Items.{final_arc_words, IsFinalArc, final_arc_cmp, source_row_words, IsSourceRow, source_row_cmp, name_words, IsName, name_cmp}
use Rattle.arc_diagrams.specs.declared.final_arc.FinalArc.{FinalArc}
use Rattle.arc_diagrams.specs.declared.source_row.SourceRow.{SourceRow}
use Rattle.arc_diagrams.specs.declared.name.Name.{Name}
use Rattle.arc_file.specs.declared.reader.ArcReader.{ArcReader}
use Rattle.arc_file.specs.Streams.{file_of}
use Rattle.arc_file.specs.Readers.{inner_of, ends_of}
use Rattle.sweep_core.specs.Accounts.{CanBeTaken}
use Rattle.sweep_core.specs.Carries.{IsBehindPoints, OnlySaved}
use Rattle.sweep_core.specs.Sweeps.{IsNoDamage}
use Rattle.sweep_core.proofs.Untaken.{froze_empty}
use Rattle.reduce_lists.specs.declared.held.Ahead.{Ahead}
use Rattle.reduce_lists.specs.declared.held.Lists.{Lists}
use Rattle.reduce_lists.specs.AtWork.{AreListed}
use Rattle.reduce_lists.specs.Contents.{QueueLists, RowLists, NameLists}
use Rattle.reduce_lists.specs.Damage.{IsListCause}
use Rattle.reduce_lists.proofs.Freezing.{BytesUntaken, bytes_frozen, queue_froze_works, queue_froze_listed, queue_froze_holds, rows_froze_work, rows_froze_listed, rows_froze_hold, names_froze_work, names_froze_listed, names_froze_hold}
use Rattle.reduce_lists.proofs.Listing.{could_be, serves_queue, serves_rows, serves_names}
use Rattle.reduce_sweep.specs.declared.reduce.ReduceSweep.{ReduceSweep}
use Rattle.reduce_sweep.specs.Sweeps.{held_of, out_of, credit_of, stock_of}
use Rattle.reduce_sweep.specs.Calls.{IsFit}
use Rattle.reduce_sweep.specs.Settling.{KeepsAll, Settles, QueueFroze, RowsFroze, NamesFroze}

-- a run's file is behind the checkpoints
behind : (parts : Parts) (f : FileNo) → WasTaken parts f → IsBehindPoints parts.step f
behind parts f was = record { step_is = was.step_is; from = was.from }

module _ {S : Type 0} (tells : S → Bool) (world : S → World) (counts : S → Faults) (old new : S) (s : ReduceSweep)
    (fit : IsFit tells world old s) (after : Parts) (took : Took s.parts after) (is_run : FileNo → Type 0)
    (runs : (f : FileNo) → is_run f → WasTaken s.parts f)
    (content : Told tells old new (Ran (Froze is_run s.parts after (now (world old))) (world old) (world new))) where
  froze_content : Told tells old new (Ran (OnlySaved (λ f. f ≡ out_of s) s.parts.step s.parts.next (now (world old)))
      (world old) (world new))
  froze_content = told tells old new _ _ content (λ _ ran.
      ran_weakens (world old) (world new) (Froze is_run s.parts after (now (world old)))
      (OnlySaved (λ f. f ≡ out_of s) s.parts.step s.parts.next (now (world old))) (λ m froze. record {
        others = λ f other apart. same_or_firm_more is_run (IsBehindPoints s.parts.step) f (now (world old)) m
            (λ run. behind s.parts f (runs f run)) (froze f (λ taken. apart (could_be s.parts after f taken)));
        kept = λ f mine front kept. same_or_firm_kept is_run f (now (world old)) m front
            (froze f (λ taken. fit.sound.served.out_made
            (subst (CanBeTaken s.parts.step s.parts.next) mine (could_be s.parts after f taken)))) kept;
      }) ran)

  pub others_froze : Told tells old new (Ran (AnyFroze s.parts after (now (world old))) (world old) (world new))
  others_froze = told tells old new _ _ content (λ _ ran.
      ran_weakens (world old) (world new) (Froze is_run s.parts after (now (world old)))
      (AnyFroze s.parts after (now (world old))) (λ m froze f apart.
      same_or_firm_more is_run (λ g. Unit) f (now (world old)) m (λ run. tt) (froze f apart)) ran)

  pub same_bytes : IsTrue (tells new) → BytesUntaken s.parts (world old) (world new)
  same_bytes tell = bytes_frozen is_run s.parts after (world old) (world new) (content.did tell)

  -- the same reduction with other lists, but for the arcs of its files
  pub froze_settles : (a : Ahead) (l : Lists) {A : Type 0} (m n : ℕ) (result : Result A SortFault)
      → a.reader ≡ s.ahead.reader
      → (IsTrue (tells new) → Paid m (credit_of s) (credit_of (record s { ahead = a; lists = l; parts = after }))
      (world old) (world new))
      → PaidParts n (stock_of s) (stock_of (record s { ahead = a; lists = l; parts = after })) s.parts after
      → OnlySortShelf (counts old) (counts new) result → IfErr result (IsListCause after)
      → IfErr result (λ e. IsTrue (tells new) → AreListed s.ahead s.lists (world old) → IsNoDamage e)
      → OnOk result (KeepsAll tells world old new s (record s { ahead = a; lists = l; parts = after }))
      → Settles tells world counts m n old new s (record s { ahead = a; lists = l; parts = after }) result
  froze_settles a l m n result reader calls spent faults refused spared keeps = record {
    carries = record {
      made = λ f e. e;
      making = λ f e. e;
      step_is = took.step_is;
      later = took.later;
      within = took.within;
      content = froze_content;
      untaken = λ told. froze_empty (λ f. f ≡ out_of s) is_run s.parts.step s.parts after (world old) (world new)
          (content.did told);
      calls = calls;
      spent = spent;
      faults = faults;
    };
    same = record {
      out_is = refl;
      arcs_are = refl;
      inner_is = ap (λ (r : ArcReader). file_of (inner_of r)) reader;
      ends_are = ap (λ (r : ArcReader). file_of (ends_of r)) reader;
      variables_are = refl;
    };
    refused = refused;
    spared = spared;
    keeps = keeps;
  }

-- the queue was frozen
module _ {S : Type 0} (tells : S → Bool) (world : S → World) (counts : S → Faults) (old new : S) (s : ReduceSweep)
    (fit : IsFit tells world old s) (after : Parts) (took : Took s.parts after) (q : LevelQueue FinalArc)
    (content : Told tells old new (Ran (Froze (queues.IsRunOf s.ahead.queue) s.parts after (now (world old)))
    (world old) (world new))) where
  abbrev queue_frozen : ReduceSweep
  queue_frozen = record s { ahead = record s.ahead { queue = q }; parts = after }

  same_for_queue : IsTrue (tells new) → BytesUntaken s.parts (world old) (world new)
  same_for_queue = same_bytes tells world counts old new s fit after took (queues.IsRunOf s.ahead.queue)
      (λ f. queue_taken s.ahead.queue s.parts f fit.sound.served.queue_served) content

  pub queue_keeps_all : {A : Type 0} (result : Result A SortFault) → queues.HoldsValues IsFinalArc final_arc_words q
      → queues.Serves after q → queues.last_of q ≡ queues.last_of s.ahead.queue
      → ((f : FileNo) → queues.IsRunOf q f → queues.IsRunOf s.ahead.queue f ⊎ IsTaken s.parts after f)
      → OnOk result (queues.held q ≡ queues.held s.ahead.queue)
      → OnOk result (IsTrue (tells new) → queues.IsInStep s.ahead.queue (world old) → queues.IsInStep q (world new))
      → OnOk result (IsTrue (tells new) → (xs : List FinalArc) → QueueLists s.ahead.queue (world old) xs
      → QueueLists q (world new) xs)
      → OnOk result (KeepsAll tells world old new s queue_frozen)
  queue_keeps_all (Err e) values serves last runs count step list = tt
  queue_keeps_all (Ok x) values serves last runs count step list = record {
    fit = record {
      sound = record {
        served = serves_queue (held_of s) fit.sound.served after took q values serves runs;
        within = fit.sound.within;
        few = fit.sound.few;
        variables = fit.sound.variables;
        phase = fit.sound.phase;
      };
      at_work = λ told. queue_froze_works (held_of s) fit.sound.served (world old) (world new) (same_for_queue told) q
          (step told) (fit.at_work (content.before told));
    };
    place_is = refl;
    reader_is = refl;
    inner_is = refl;
    end_is = refl;
    queue_held = count;
    rows_held = refl;
    names_held = refl;
    nodes_many = refl;
    listed = λ told. queue_froze_listed (held_of s) fit.sound.served (world old) (world new) (same_for_queue told) q
        (list told);
    holds = λ told. queue_froze_holds (held_of s) fit.sound.served (world old) (world new) (same_for_queue told) q last
        (list told);
  }

  pub queue_settles : {A : Type 0} (result : Result A SortFault)
      → (IsTrue (tells new) → Paid 2048 (queues.credit s.ahead.queue) (queues.credit q) (world old) (world new))
      → PaidParts 512 (queues.stock s.ahead.queue) (queues.stock q) s.parts after
      → OnlySortShelf (counts old) (counts new) result → IfErr result (IsListCause after)
      → IfErr result (λ e. IsTrue (tells new) → AreListed s.ahead s.lists (world old) → IsNoDamage e)
      → OnOk result (KeepsAll tells world old new s queue_frozen)
      → Settles tells world counts 2048 512 old new s queue_frozen result
  queue_settles result calls spent faults refused spared keeps =
      froze_settles tells world counts old new s fit after took (queues.IsRunOf s.ahead.queue)
      (λ f. queue_taken s.ahead.queue s.parts f fit.sound.served.queue_served) content (record s.ahead { queue = q })
      s.lists 2048 512 result refl (λ told. (let paid = calls told in omega (arith, paid))) (omega (arith, spent)) faults
      refused spared keeps

  pub queue_others : Told tells old new (Ran (AnyFroze s.parts after (now (world old))) (world old) (world new))
  queue_others = others_froze tells world counts old new s fit after took (queues.IsRunOf s.ahead.queue)
      (λ f. queue_taken s.ahead.queue s.parts f fit.sound.served.queue_served) content

  pub queue_froze : (result : Result (List RunTable) SortFault) → IfOk result AreTables → IfOk result AreTidyTables
      → IfOk result (ServeTables after) → IfOk result (λ tables. tables_left tables ≡ queues.held s.ahead.queue)
      → OnOk result (queues.held q ≡ queues.held s.ahead.queue)
      → IfOk result (λ tables. (f : FileNo) → queues.IsRunOf q f → NamesAny after.step tables f)
      → IfOk result (λ tables. (f : FileNo) → NamesAny after.step tables f → queues.IsRunOf q f)
      → IfOk result (λ tables. IsTrue (tells new) → AreFirmTables after.step tables (world new))
      → IfOk result (λ tables. IsTrue (tells new) → (xs : List FinalArc) → QueueLists s.ahead.queue (world old) xs
      → TablesList IsFinalArc final_arc_words final_arc_cmp after.step tables (queues.last_of q) (world new) xs)
      → IfOk result (λ tables. QueueFroze tells world old new s queue_frozen (table_at tables 0)
      × IsBareTable (table_at tables 1) × IsBareTable (table_at tables 2))
  queue_froze (Err e) are tidy serves left count named only firm stands = tt
  queue_froze (Ok tables) are tidy serves left count named only firm stands = (
    record {
      is = record {
        read = are.first;
        tidy = tidy.first;
        served = serves;
        counted = left ∙ sym count;
        named = named;
        only = only;
      };
      stands = λ told k holds. (firm told, (stands told k.queue holds.queue_is).sorter);
    },
    tidy.second,
    tidy.third,
  )

-- the rows were frozen
module _ {S : Type 0} (tells : S → Bool) (world : S → World) (counts : S → Faults) (old new : S) (s : ReduceSweep)
    (fit : IsFit tells world old s) (after : Parts) (took : Took s.parts after) (rows : Sorter SourceRow)
    (content : Told tells old new (Ran (Froze (sorters.IsRunOf s.lists.rows) s.parts after (now (world old)))
    (world old) (world new))) where
  abbrev rows_frozen : ReduceSweep
  rows_frozen = record s { lists = record s.lists { rows = rows }; parts = after }

  same_for_rows : IsTrue (tells new) → BytesUntaken s.parts (world old) (world new)
  same_for_rows = same_bytes tells world counts old new s fit after took (sorters.IsRunOf s.lists.rows)
      (λ f. sorter_taken s.lists.rows s.parts f fit.sound.served.rows_served) content

  pub rows_keep_all : {A : Type 0} (result : Result A SortFault) → sorters.HoldsValues IsSourceRow source_row_words rows
      → sorters.Serves after rows
      → ((f : FileNo) → sorters.IsRunOf rows f → sorters.IsRunOf s.lists.rows f ⊎ IsTaken s.parts after f)
      → OnOk result (sorters.held rows ≡ sorters.held s.lists.rows)
      → OnOk result (IsTrue (tells new) → sorters.IsInStep s.lists.rows (world old) → sorters.IsInStep rows (world new))
      → OnOk result (IsTrue (tells new) → (xs : List SourceRow) → RowLists s.lists.rows (world old) xs
      → RowLists rows (world new) xs)
      → OnOk result (KeepsAll tells world old new s rows_frozen)
  rows_keep_all (Err e) values serves runs count step list = tt
  rows_keep_all (Ok x) values serves runs count step list = record {
    fit = record {
      sound = record {
        served = serves_rows (held_of s) fit.sound.served after took rows values serves runs;
        within = fit.sound.within;
        few = fit.sound.few;
        variables = fit.sound.variables;
        phase = fit.sound.phase;
      };
      at_work = λ told. rows_froze_work (held_of s) fit.sound.served (world old) (world new) (same_for_rows told) rows
          (step told) (fit.at_work (content.before told));
    };
    place_is = refl;
    reader_is = refl;
    inner_is = refl;
    end_is = refl;
    queue_held = refl;
    rows_held = count;
    names_held = refl;
    nodes_many = refl;
    listed = λ told. rows_froze_listed (held_of s) fit.sound.served (world old) (world new) (same_for_rows told) rows
        (list told);
    holds = λ told. rows_froze_hold (held_of s) fit.sound.served (world old) (world new) (same_for_rows told) rows
        (list told);
  }

  pub rows_settle : {A : Type 0} (result : Result A SortFault)
      → (IsTrue (tells new) → Paid 2048 (sorters.credit s.lists.rows) (sorters.credit rows) (world old) (world new))
      → PaidParts 512 (sorters.stock s.lists.rows) (sorters.stock rows) s.parts after
      → OnlySortShelf (counts old) (counts new) result → IfErr result (IsListCause after)
      → IfErr result (λ e. IsTrue (tells new) → AreListed s.ahead s.lists (world old) → IsNoDamage e)
      → OnOk result (KeepsAll tells world old new s rows_frozen)
      → Settles tells world counts 2048 512 old new s rows_frozen result
  rows_settle result calls spent faults refused spared keeps =
      froze_settles tells world counts old new s fit after took (sorters.IsRunOf s.lists.rows)
      (λ f. sorter_taken s.lists.rows s.parts f fit.sound.served.rows_served) content s.ahead
      (record s.lists { rows = rows }) 2048 512 result refl (λ told. (let paid = calls told in omega (arith, paid)))
      (omega (arith, spent)) faults refused spared keeps

  pub rows_others : Told tells old new (Ran (AnyFroze s.parts after (now (world old))) (world old) (world new))
  rows_others = others_froze tells world counts old new s fit after took (sorters.IsRunOf s.lists.rows)
      (λ f. sorter_taken s.lists.rows s.parts f fit.sound.served.rows_served) content

  pub rows_froze : (result : Result RunTable SortFault) → IfOk result IsTable → IfOk result IsTidyTable
      → IfOk result (ServeTable after) → IfOk result (λ table. table_left table ≡ sorters.held s.lists.rows)
      → OnOk result (sorters.held rows ≡ sorters.held s.lists.rows)
      → IfOk result (λ table. (f : FileNo) → sorters.IsRunOf rows f → Names after.step table f)
      → IfOk result (λ table. (f : FileNo) → Names after.step table f → sorters.IsRunOf rows f)
      → IfOk result (λ table. IsTrue (tells new) → IsFirmTable after.step table (world new))
      → IfOk result (λ table. IsTrue (tells new) → (xs : List SourceRow) → RowLists s.lists.rows (world old) xs
      → TableLists IsSourceRow source_row_words source_row_cmp after.step table (world new) xs)
      → IfOk result (RowsFroze tells world old new s rows_frozen)
  rows_froze (Err e) read tidy serves left count named only firm stands = tt
  rows_froze (Ok table) read tidy serves left count named only firm stands = record {
    is = record {
      read = read;
      tidy = tidy;
      served = serves;
      counted = left ∙ sym count;
      named = named;
      only = only;
    };
    stands = λ told k holds. (firm told, stands told k.rows holds.rows_is);
  }

-- the names were frozen
module _ {S : Type 0} (tells : S → Bool) (world : S → World) (counts : S → Faults) (old new : S) (s : ReduceSweep)
    (fit : IsFit tells world old s) (after : Parts) (took : Took s.parts after) (names : Sorter Name)
    (content : Told tells old new (Ran (Froze (sorters.IsRunOf s.lists.names) s.parts after (now (world old)))
    (world old) (world new))) where
  abbrev names_frozen : ReduceSweep
  names_frozen = record s { lists = record s.lists { names = names }; parts = after }

  same_for_names : IsTrue (tells new) → BytesUntaken s.parts (world old) (world new)
  same_for_names = same_bytes tells world counts old new s fit after took (sorters.IsRunOf s.lists.names)
      (λ f. sorter_taken s.lists.names s.parts f fit.sound.served.names_served) content

  pub names_keep_all : {A : Type 0} (result : Result A SortFault) → sorters.HoldsValues IsName name_words names
      → sorters.Serves after names
      → ((f : FileNo) → sorters.IsRunOf names f → sorters.IsRunOf s.lists.names f ⊎ IsTaken s.parts after f)
      → OnOk result (sorters.held names ≡ sorters.held s.lists.names)
      → OnOk result (IsTrue (tells new) → sorters.IsInStep s.lists.names (world old)
      → sorters.IsInStep names (world new))
      → OnOk result (IsTrue (tells new) → (xs : List Name) → NameLists s.lists.names (world old) xs
      → NameLists names (world new) xs)
      → OnOk result (KeepsAll tells world old new s names_frozen)
  names_keep_all (Err e) values serves runs count step list = tt
  names_keep_all (Ok x) values serves runs count step list = record {
    fit = record {
      sound = record {
        served = serves_names (held_of s) fit.sound.served after took names values serves runs;
        within = fit.sound.within;
        few = fit.sound.few;
        variables = fit.sound.variables;
        phase = fit.sound.phase;
      };
      at_work = λ told. names_froze_work (held_of s) fit.sound.served (world old) (world new) (same_for_names told)
          names (step told) (fit.at_work (content.before told));
    };
    place_is = refl;
    reader_is = refl;
    inner_is = refl;
    end_is = refl;
    queue_held = refl;
    rows_held = refl;
    names_held = count;
    nodes_many = refl;
    listed = λ told. names_froze_listed (held_of s) fit.sound.served (world old) (world new) (same_for_names told) names
        (list told);
    holds = λ told. names_froze_hold (held_of s) fit.sound.served (world old) (world new) (same_for_names told) names
        (list told);
  }

  pub names_settle : {A : Type 0} (result : Result A SortFault)
      → (IsTrue (tells new) → Paid 2048 (sorters.credit s.lists.names) (sorters.credit names) (world old) (world new))
      → PaidParts 512 (sorters.stock s.lists.names) (sorters.stock names) s.parts after
      → OnlySortShelf (counts old) (counts new) result → IfErr result (IsListCause after)
      → IfErr result (λ e. IsTrue (tells new) → AreListed s.ahead s.lists (world old) → IsNoDamage e)
      → OnOk result (KeepsAll tells world old new s names_frozen)
      → Settles tells world counts 2048 512 old new s names_frozen result
  names_settle result calls spent faults refused spared keeps =
      froze_settles tells world counts old new s fit after took (sorters.IsRunOf s.lists.names)
      (λ f. sorter_taken s.lists.names s.parts f fit.sound.served.names_served) content s.ahead
      (record s.lists { names = names }) 2048 512 result refl (λ told. (let paid = calls told in omega (arith, paid)))
      (omega (arith, spent)) faults refused spared keeps

  pub names_others : Told tells old new (Ran (AnyFroze s.parts after (now (world old))) (world old) (world new))
  names_others = others_froze tells world counts old new s fit after took (sorters.IsRunOf s.lists.names)
      (λ f. sorter_taken s.lists.names s.parts f fit.sound.served.names_served) content

  pub names_froze : (result : Result RunTable SortFault) → IfOk result IsTable → IfOk result IsTidyTable
      → IfOk result (ServeTable after) → IfOk result (λ table. table_left table ≡ sorters.held s.lists.names)
      → OnOk result (sorters.held names ≡ sorters.held s.lists.names)
      → IfOk result (λ table. (f : FileNo) → sorters.IsRunOf names f → Names after.step table f)
      → IfOk result (λ table. (f : FileNo) → Names after.step table f → sorters.IsRunOf names f)
      → IfOk result (λ table. IsTrue (tells new) → IsFirmTable after.step table (world new))
      → IfOk result (λ table. IsTrue (tells new) → (xs : List Name) → NameLists s.lists.names (world old) xs
      → TableLists IsName name_words name_cmp after.step table (world new) xs)
      → IfOk result (NamesFroze tells world old new s names_frozen)
  names_froze (Err e) read tidy serves left count named only firm stands = tt
  names_froze (Ok table) read tidy serves left count named only firm stands = record {
    is = record {
      read = read;
      tidy = tidy;
      served = serves;
      counted = left ∙ sym count;
      named = named;
      only = only;
    };
    stands = λ told k holds. (firm told, stands told k.names holds.names_is);
  }
