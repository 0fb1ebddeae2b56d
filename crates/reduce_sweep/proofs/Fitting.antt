-- What a call of the queue, of the rows or of the names leaves.
use Rattle.std.proofs.Common.{◌≡◌, ℕ, ◌⊎◌, List, arith, refl, ap, sym, subst}
use Rattle.std.specs.Prelude.{Bool, IsTrue, Result, Ok, Err, OnOk, IfErr}
use Rattle.shelf_model.specs.declared.sort_fault.SortFault.{SortFault}
use Rattle.shelf_model.specs.declared.file_no.FileNo.{FileNo}
use Rattle.shelf_model.specs.Calls.{Told}
use Rattle.shelf_model.specs.Faults.{Faults}
use Rattle.shelf_model.specs.World.{World}
use Rattle.run_tiers.specs.declared.parts.Parts.{Parts}
use Rattle.run_tiers.specs.Faults.{OnlySortShelf}
use Rattle.run_tiers.specs.Parts.{Took, IsTaken, Spilled, Paid, PaidParts}
use Rattle.run_merge.specs.declared.sorter.Sorter.{Sorter}
use Rattle.run_merge.specs.Sorters as sorters
use Rattle.level_queue.specs.declared.queue.LevelQueue.{LevelQueue}
use Rattle.level_queue.specs.Queues as queues
use Rattle.arc_diagrams.specs.Items.{final_arc_words, IsFinalArc, source_row_words, IsSourceRow, name_words, IsName}
use Rattle.arc_diagrams.specs.declared.final_arc.FinalArc.{FinalArc}
use Rattle.arc_diagrams.specs.declared.source_row.SourceRow.{SourceRow}
use Rattle.arc_diagrams.specs.declared.name.Name.{Name}
use Rattle.arc_file.specs.declared.reader.ArcReader.{ArcReader}
use Rattle.arc_file.specs.Streams.{file_of}
use Rattle.arc_file.specs.Readers.{inner_of, ends_of}
use Rattle.sweep_core.proofs.Untaken.{spilled_empty}
use Rattle.reduce_lists.specs.declared.held.Ahead.{Ahead}
use Rattle.reduce_lists.specs.declared.held.Lists.{Lists}
use Rattle.reduce_lists.specs.Held.{AreServed, AreWithin}
use Rattle.reduce_lists.specs.AtWork.{AreListed}
use Rattle.reduce_lists.specs.Damage.{IsDamageOf, IsListCause}
use Rattle.reduce_lists.specs.Contents.{QueueLists, RowLists, NameLists}
use Rattle.reduce_lists.proofs.Listing.{serves_queue, serves_rows, serves_names, own_content, queue_works, rows_work, names_work, queue_listed, rows_listed, names_listed}
use Rattle.reduce_lists.proofs.Refusing.{if_err_weaker}
use Rattle.reduce_sweep.specs.declared.reduce.ReduceSweep.{ReduceSweep}
use Rattle.reduce_sweep.specs.Sweeps.{held_of, out_of, inner_file, ends_file, credit_of, stock_of, AreFew, IsSound}
use Rattle.reduce_sweep.specs.Calls.{IsFit, KeepsLists, Does}
use Rattle.reduce_sweep.proofs.Refusing.{list_refuses}

module _ {S : Type 0} (tells : S → Bool) (world : S → World) (counts : S → Faults) (old new : S) (s : ReduceSweep)
    (fit : IsFit tells world old s) (after : Parts) (took : Took s.parts after)
    (content : Told tells old new (Spilled s.parts after (world old) (world new))) where
  -- the same reduction with other lists, but for the arcs of its files
  module _ (a : Ahead) (l : Lists) where
    abbrev with_lists : ReduceSweep
    with_lists = record s { ahead = a; lists = l; parts = after }

    sound_with : a.reader ≡ s.ahead.reader → AreFew s.place.arcs a.reader a.inner a.end → AreServed a l s.writer after
        → IsSound with_lists
    sound_with reader few served = record {
      served = served;
      few = few;
      within = subst (AreWithin s.place.arcs) (sym reader) fit.sound.within;
      variables = fit.sound.variables;
      phase = fit.sound.phase;
    }

    -- what the call that changed them left and cost
    does_with : {A : Type 0} (m n : ℕ) (result : Result A SortFault) → a.reader ≡ s.ahead.reader
        → (IsTrue (tells new) → Paid m (credit_of s) (credit_of with_lists) (world old) (world new))
        → PaidParts n (stock_of s) (stock_of with_lists) s.parts after
        → OnlySortShelf (counts old) (counts new) result → IfErr result (IsListCause after)
        → IfErr result (λ e. IsTrue (tells new) → AreListed s.ahead s.lists (world old)
        → IsDamageOf s.ahead.reader (world old) e)
        → Does tells world counts m n old new s with_lists result
    does_with m n result reader calls spent faults refused damage = record {
      leaves = record {
        made = λ f e. e;
        making = λ f e. e;
        step_is = took.step_is;
        later = took.later;
        within = took.within;
        content = own_content tells world old new (held_of s) fit.sound.served after content;
        untaken = λ told. spilled_empty (λ f. f ≡ out_of s) s.parts.step s.parts after (world old) (world new)
            (content.did told);
        calls = calls;
        spent = spent;
        faults = faults;
      };
      same = record {
        out_is = refl;
        arcs_are = refl;
        inner_is = ap (λ (r : ArcReader). file_of (inner_of r)) reader;
        ends_are = ap (λ (r : ArcReader). file_of (ends_of r)) reader;
        variables_are = refl;
      };
      refused = if_err_weaker result (λ e. list_refuses (inner_file s) (ends_file s) with_lists e) refused;
      damage = damage;
    }

  -- the queue is another
  module _ (q : LevelQueue FinalArc) where
    abbrev queue_changed : ReduceSweep
    queue_changed = record s { ahead = record s.ahead { queue = q }; parts = after }

    pub queue_fits : {A : Type 0} (result : Result A SortFault)
        → queues.HoldsValues IsFinalArc final_arc_words q → queues.Serves after q
        → ((f : FileNo) → queues.IsRunOf q f → queues.IsRunOf s.ahead.queue f ⊎ IsTaken s.parts after f)
        → OnOk result (IsTrue (tells new) → queues.IsInStep s.ahead.queue (world old)
        → queues.IsInStep q (world new))
        → OnOk result (IsFit tells world new queue_changed)
    queue_fits (Err e) values serves runs step = tt
    queue_fits (Ok x) values serves runs step = record {
      sound = sound_with (record s.ahead { queue = q }) s.lists refl fit.sound.few
          (serves_queue (held_of s) fit.sound.served after took q values serves runs);
      at_work = λ told. queue_works tells world old new (held_of s) fit.sound.served after content fit.at_work told
          q (step told);
    }

    pub queue_keeps : {A : Type 0} (result : Result A SortFault)
        → OnOk result (IsTrue (tells new) → (xs : List FinalArc) → QueueLists s.ahead.queue (world old) xs
        → (ys : List FinalArc) × QueueLists q (world new) ys)
        → OnOk result (KeepsLists tells world old new s queue_changed)
    queue_keeps (Err e) known = tt
    queue_keeps (Ok x) known = λ told lists.
        queue_listed tells world old new (held_of s) fit.sound.served after content told lists q (known told)

    pub queue_does : {A : Type 0} (m n : ℕ) (result : Result A SortFault)
        → (IsTrue (tells new) → Paid m (queues.credit s.ahead.queue) (queues.credit q) (world old) (world new))
        → PaidParts n (queues.stock s.ahead.queue) (queues.stock q) s.parts after
        → OnlySortShelf (counts old) (counts new) result → IfErr result (IsListCause after)
        → IfErr result (λ e. IsTrue (tells new) → AreListed s.ahead s.lists (world old)
        → IsDamageOf s.ahead.reader (world old) e)
        → Does tells world counts m n old new s queue_changed result
    queue_does m n result calls spent faults refused damage =
        does_with (record s.ahead { queue = q }) s.lists m n result refl
        (λ told. (let paid = calls told in omega (arith, paid))) (omega (arith, spent)) faults refused damage

  -- the rows are others
  module _ (rows : Sorter SourceRow) where
    abbrev rows_changed : ReduceSweep
    rows_changed = record s { lists = record s.lists { rows = rows }; parts = after }

    pub rows_fit : {A : Type 0} (result : Result A SortFault)
        → sorters.HoldsValues IsSourceRow source_row_words rows → sorters.Serves after rows
        → ((f : FileNo) → sorters.IsRunOf rows f → sorters.IsRunOf s.lists.rows f ⊎ IsTaken s.parts after f)
        → OnOk result (IsTrue (tells new) → sorters.IsInStep s.lists.rows (world old)
        → sorters.IsInStep rows (world new))
        → OnOk result (IsFit tells world new rows_changed)
    rows_fit (Err e) values serves runs step = tt
    rows_fit (Ok x) values serves runs step = record {
      sound = sound_with s.ahead (record s.lists { rows = rows }) refl fit.sound.few
          (serves_rows (held_of s) fit.sound.served after took rows values serves runs);
      at_work = λ told. rows_work tells world old new (held_of s) fit.sound.served after content fit.at_work told
          rows (step told);
    }

    pub rows_keep : {A : Type 0} (result : Result A SortFault)
        → OnOk result (IsTrue (tells new) → (xs : List SourceRow) → RowLists s.lists.rows (world old) xs
        → (ys : List SourceRow) × RowLists rows (world new) ys)
        → OnOk result (KeepsLists tells world old new s rows_changed)
    rows_keep (Err e) known = tt
    rows_keep (Ok x) known = λ told lists.
        rows_listed tells world old new (held_of s) fit.sound.served after content told lists rows (known told)

    pub rows_do : {A : Type 0} (m n : ℕ) (result : Result A SortFault)
        → (IsTrue (tells new) → Paid m (sorters.credit s.lists.rows) (sorters.credit rows) (world old) (world new))
        → PaidParts n (sorters.stock s.lists.rows) (sorters.stock rows) s.parts after
        → OnlySortShelf (counts old) (counts new) result → IfErr result (IsListCause after)
        → IfErr result (λ e. IsTrue (tells new) → AreListed s.ahead s.lists (world old)
        → IsDamageOf s.ahead.reader (world old) e)
        → Does tells world counts m n old new s rows_changed result
    rows_do m n result calls spent faults refused damage =
        does_with s.ahead (record s.lists { rows = rows }) m n result refl
        (λ told. (let paid = calls told in omega (arith, paid))) (omega (arith, spent)) faults refused damage

  -- the names are others
  module _ (names : Sorter Name) where
    abbrev names_changed : ReduceSweep
    names_changed = record s { lists = record s.lists { names = names }; parts = after }

    pub names_fit : {A : Type 0} (result : Result A SortFault)
        → sorters.HoldsValues IsName name_words names → sorters.Serves after names
        → ((f : FileNo) → sorters.IsRunOf names f → sorters.IsRunOf s.lists.names f ⊎ IsTaken s.parts after f)
        → OnOk result (IsTrue (tells new) → sorters.IsInStep s.lists.names (world old)
        → sorters.IsInStep names (world new))
        → OnOk result (IsFit tells world new names_changed)
    names_fit (Err e) values serves runs step = tt
    names_fit (Ok x) values serves runs step = record {
      sound = sound_with s.ahead (record s.lists { names = names }) refl fit.sound.few
          (serves_names (held_of s) fit.sound.served after took names values serves runs);
      at_work = λ told. names_work tells world old new (held_of s) fit.sound.served after content fit.at_work told
          names (step told);
    }

    pub names_keep : {A : Type 0} (result : Result A SortFault)
        → OnOk result (IsTrue (tells new) → (xs : List Name) → NameLists s.lists.names (world old) xs
        → (ys : List Name) × NameLists names (world new) ys)
        → OnOk result (KeepsLists tells world old new s names_changed)
    names_keep (Err e) known = tt
    names_keep (Ok x) known = λ told lists.
        names_listed tells world old new (held_of s) fit.sound.served after content told lists names (known told)

    pub names_do : {A : Type 0} (m n : ℕ) (result : Result A SortFault)
        → (IsTrue (tells new) → Paid m (sorters.credit s.lists.names) (sorters.credit names) (world old) (world new))
        → PaidParts n (sorters.stock s.lists.names) (sorters.stock names) s.parts after
        → OnlySortShelf (counts old) (counts new) result → IfErr result (IsListCause after)
        → IfErr result (λ e. IsTrue (tells new) → AreListed s.ahead s.lists (world old)
        → IsDamageOf s.ahead.reader (world old) e)
        → Does tells world counts m n old new s names_changed result
    names_do m n result calls spent faults refused damage =
        does_with s.ahead (record s.lists { names = names }) m n result refl
        (λ told. (let paid = calls told in omega (arith, paid))) (omega (arith, spent)) faults refused damage
