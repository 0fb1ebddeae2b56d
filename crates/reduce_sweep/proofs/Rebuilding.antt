-- A reduction that is rebuilt.
use Rattle.std.proofs.Common.{◌≡◌, ◌≢◌, ℕ, ◌+◌, ◌*◌, ◌<◌, ◌≤◌, ◌∙◌, Bool, List, [], ◌∷◌, All, length, map, take, replicate, length-append, length-take, refl, sym, ap, subst, arith, inl, inr}
use Rattle.std.specs.Prelude.{◌⊎◌, Result, Ok, Err, IfErr, IsErrAnd, Option, Some}
use Rattle.std.specs.List.{sum_by}
use Rattle.std.proofs.lemmas.Bool.{cases_lt}
use Rattle.std.proofs.lemmas.List.{get_or_past, length-map}
use Rattle.std.proofs.lemmas.List.Elements.{All-get_or, All-head, All-tail, All-weaker}
use Rattle.std.proofs.lemmas.List.Sums.{sum_by-cons}
use Rattle.rec_words.specs.Words.{node_size}
use Rattle.shelf_model.specs.declared.file_no.FileNo.{FileNo}
use Rattle.shelf_model.specs.declared.fault.Failed.{Failed}
use Rattle.shelf_model.specs.declared.sort_fault.SortFault.{SortFault}
use Rattle.shelf_model.specs.declared.sort_fault.SortFault.TheVariants.{Shelf, Damaged, RunsSpent}
use Rattle.shelf_model.specs.Calls.{Told, Synced}
use Rattle.shelf_model.specs.File.{File, IsKept, firm_file}
use Rattle.shelf_model.specs.Folder.{Folder, file_in}
use Rattle.shelf_model.specs.Moments.{Ran, Stays}
use Rattle.shelf_model.specs.World.{Moment, World, now, file}
use Rattle.shelf_model.proofs.Files.{kept_sync, same_files}
use Rattle.shelf_model.proofs.Runs.{told, ran_on, ran_end, ran_weakens}
use Rattle.file_numbers.specs.Files.{inner_part}
use Rattle.canon_file.specs.Canon.{canon_nodes, canon_root, canon_bytes, node_bytes, trailer_bytes}
use Rattle.canon_file.proofs.ByteLaws.{length-node_bytes}
use Rattle.canon_file.proofs.CanonLaws.{canon_bytes-is}
use Rattle.block_stream.specs.Reads.{Looked}
use Rattle.block_stream.specs.Writes.{DuringCut, count_of}
use Rattle.node_file.specs.declared.writer.NodeWriter.{NodeWriter}
use Rattle.node_file.specs.Writers as nodes
use Rattle.arc_file.specs.declared.arc.Arc.{Arc}
use Rattle.arc_file.specs.declared.kind.Kind.TheVariants.{Inner, End}
use Rattle.arc_file.specs.declared.reader.ArcReader.{ArcReader}
use Rattle.arc_file.specs.declared.stream.ArcStream.{ArcStream}
use Rattle.arc_file.specs.declared.unreduced.Unreduced.{Unreduced}
use Rattle.arc_file.specs.Files.{HasArcs}
use Rattle.arc_file.specs.Streams.{left_of}
use Rattle.arc_file.specs.Readers.{inner_of, ends_of, left_over_of}
use Rattle.arc_diagrams.specs.Items.{final_arc_words, IsFinalArc, final_arc_cmp, source_row_words, IsSourceRow, source_row_cmp, name_words, IsName, name_cmp}
use Rattle.arc_diagrams.specs.declared.final_arc.FinalArc.{FinalArc}
use Rattle.arc_diagrams.specs.declared.source_row.SourceRow.{SourceRow}
use Rattle.arc_diagrams.specs.declared.name.Name.{Name}
use Rattle.run_tiers.specs.declared.run.Run.{Run}
use Rattle.run_tiers.specs.declared.run.RunTable.{RunTable}
use Rattle.run_tiers.specs.Tables.{IsInUse, IsEmptyTable, no_run, no_runs, run_left, table_left}
use Rattle.run_tiers.proofs.FrozenTables.{bare_table}
use Rattle.run_tiers.proofs.TableLaws.{empty_table}
use Rattle.run_merge.specs.Tables.{TableLists}
use Rattle.run_merge.specs.Shown as sorter_shown
use Rattle.run_merge.specs.Sorters as sorters
use Rattle.level_queue.specs.declared.queue.LevelQueue.{LevelQueue}
use Rattle.level_queue.specs.Queues.{IsNoLess}
use Rattle.level_queue.specs.Queues as queues
use Rattle.level_queue.specs.Shown as queue_shown
use Rattle.level_queue.specs.Tables.{TablesList, table_at}
use Rattle.sweep_core.specs.declared.checkpoint.Checkpoint.{Checkpoint}
use Rattle.sweep_core.specs.Carries.{OnlyCutBehind}
use Rattle.sweep_core.specs.Accounts.{CanBeTaken}
use Rattle.sweep_core.specs.Saving.{IsMadePart, reads_of}
use Rattle.sweep_core.specs.Sweeps.{IsFirm, IsNoDamage}
use Rattle.sweep_core.specs.Tables.{tables_in_use, records_left, records_named}
use Rattle.reduce_lists.specs.declared.held.Ahead.{Ahead}
use Rattle.reduce_lists.specs.declared.held.Lists.{Lists}
use Rattle.reduce_lists.specs.AtWork.{AreInStep}
use Rattle.reduce_lists.specs.Contents.{Contents, QueueLists, RowLists, NameLists}
use Rattle.reduce_lists.specs.Damage.{IsDamageAtStart}
use Rattle.reduce_lists.proofs.Beginning.{HasBegun, held_at_first, work_begins}
use Rattle.reduce_lists.proofs.Undamaged.{begins_undamaged}
use Rattle.reduce_sweep.specs.declared.phase.Phase.{Phase}
use Rattle.reduce_sweep.specs.declared.phase.Phase.TheVariants.{Between, Collect, Number, Forward, Ended}
use Rattle.reduce_sweep.specs.declared.reduce.ReduceSweep.{ReduceSweep}
use Rattle.reduce_sweep.specs.declared.saved.Saved.{Saved}
use Rattle.reduce_sweep.specs.Sweeps.{arcs_weight, lists_weight, fuel_at, one_if_some}
use Rattle.reduce_sweep.specs.Calls.{IsStepAt}
use Rattle.reduce_sweep.specs.Remaining.{Diagram, IsWorking, RemainsIn}
use Rattle.reduce_sweep.specs.SavedPhase.{phase_of}
use Rattle.reduce_sweep.specs.SavedTables.{as_table, tables_of, parts_left, IsSavedTable, AreSavedTables, IsRunFront, IsPicked}
use Rattle.reduce_sweep.specs.Resumes.{HasWords, IsKeptAt, KeepsRules, IsRest, RestsOn, place_of, arc_at, weight_of, GoesOn, StandsAt, StandsFor, IsShortFault, Blames}
use Rattle.reduce_sweep.specs.ResumeLaws.{one_reduction, one_phase}
use Rattle.reduce_sweep.proofs.Counting.{read_on}
use Rattle.reduce_sweep.proofs.FrozenTables.{bare_read, bare_served, unused}
use Rattle.reduce_sweep.proofs.Unhandled.{no_arcs}

-- a sync leaves the bytes
bytes_synced : (f : FileNo) (result : Result Unit Failed) (old new : World) → Synced f result old new
    → (file new f).bytes ≡ (file old f).bytes
bytes_synced f (Ok x) old new did = ap (λ (y : File). y.bytes) did.ok
bytes_synced f (Err e) old new did = ap (λ (y : File). y.bytes) (same_files f old new did.failed)

pub cut_synced : (f : FileNo) (to : ℕ) (result : Result Unit Failed) (old mid new : World)
    → Ran (DuringCut f to (now old)) old mid → Synced f result mid new → Ran (DuringCut f to (now old)) old new
cut_synced f to result old mid new ran did =
    let before : DuringCut f to (now old) (now mid) = ran_end old mid (DuringCut f to (now old)) ran in
    ran_on old mid new (DuringCut f to (now old)) ran did.shelf (record {
      others = λ q differ. did.others q differ ∙ before.others q differ;
      reads = λ n short. ap (take n) (bytes_synced f result mid new did) ∙ before.reads n short;
      kept = λ front short kept. kept_sync f result mid new front did (before.kept front short kept);
    })

-- a run that a checkpoint names isn't the file of the nodes
run_differs : (c : Checkpoint) (x : Saved) (f : FileNo) (n : ℕ) → AreSavedTables c x.out.part → IsRunFront c f n
    → f ≢ x.out
run_differs c x f n tables (k, below, (slot, r, within, is, (used, file_is, front))) same =
    let count = tables.count in
    let table = table_at (tables_of c) k in
    let saved : IsSavedTable c x.out.part table = tables.each k (omega (arith, below, count)) in
    let apart : r.part ≢ x.out.part = subst (λ (q : Run). IsInUse q → q.part ≢ x.out.part) is
    (All-get_or (λ (q : Run). IsInUse q → q.part ≢ x.out.part) table.runs slot r within saved.apart) used in
    apart (sym (ap (λ (g : FileNo). g.part) file_is) ∙ ap (λ (g : FileNo). g.part) same)

run_apart : (p : Phase) (c : Checkpoint) (x : Saved) (f : FileNo) (n : ℕ) → IsKeptAt p c x → IsRunFront c f n → f ≢ x.out
run_apart Between c x f n kept run = run_differs c x f n kept run
run_apart (Collect s) c x f n kept run = run_differs c x f n kept run
run_apart (Number s) c x f n kept run = run_differs c x f n kept run
run_apart Forward c x f n kept run = run_differs c x f n kept run
run_apart (Ended count) c x f n kept (k, below, before) = let none = kept.no_tables in absurd (omega (arith, none, below))

-- the bytes that it rests on stay where the file of the nodes is cut behind those that are kept
module _ (c : Checkpoint) (x : Saved) (p : Phase) (holds : HasWords c x) (rules : KeepsRules c x p) (old m : Moment)
    (cut : DuringCut x.out (x.kept * node_size) old m) where
  rest_reads : (f : FileNo) (n : ℕ) → IsRest c x f n
      → take n (file_in m.folder f).bytes ≡ take n (file_in old.folder f).bytes
  rest_reads f n (inl (inl (is, some))) =
      ap (λ (y : File). take n y.bytes) (cut.others f (λ made. rules.inner_apart (sym is ∙ made)))
  rest_reads f n (inl (inr (is, some))) =
      ap (λ (y : File). take n y.bytes) (cut.others f (λ made. rules.ends_apart (sym is ∙ made)))
  rest_reads f n (inr (inl (is, few))) =
      subst (λ q. take n (file_in m.folder q).bytes ≡ take n (file_in old.folder q).bytes) (sym is)
      (cut.reads n (omega (arith, few)))
  rest_reads f n (inr (inr run)) =
      ap (λ (y : File). take n y.bytes) (cut.others f (run_apart p c x f n rules.kept_at run))

  rest_kept : (f : FileNo) (front : List ℕ) → IsRest c x f (length front) → IsKept front (file_in old.folder f)
      → IsKept front (file_in m.folder f)
  rest_kept f front (inl (inl (is, some))) =
      subst (IsKept front) (sym (cut.others f (λ made. rules.inner_apart (sym is ∙ made))))
  rest_kept f front (inl (inr (is, some))) =
      subst (IsKept front) (sym (cut.others f (λ made. rules.ends_apart (sym is ∙ made))))
  rest_kept f front (inr (inl (is, few))) =
      subst (λ q. IsKept front (file_in old.folder q) → IsKept front (file_in m.folder q)) (sym is)
      (cut.kept front (omega (arith, few)))
  rest_kept f front (inr (inr run)) =
      subst (IsKept front) (sym (cut.others f (run_apart p c x f (length front) rules.kept_at run)))

  is_rest : (f : FileNo) (n : ℕ) → RestsOn c f n → IsRest c x f n
  is_rest f n on = subst (λ (y : Saved). IsRest c y f n) (one_reduction c on.saved x on.holds holds) on.rests

  whole_same : (f : FileNo) → IsRest c x f (node_size * x.kept + 1) → file_in m.folder f ≡ file_in old.folder f
  whole_same f (inl (inl (is, some))) = cut.others f (λ made. rules.inner_apart (sym is ∙ made))
  whole_same f (inl (inr (is, some))) = cut.others f (λ made. rules.ends_apart (sym is ∙ made))
  whole_same f (inr (inl (is, few))) = absurd (omega (arith, few))
  whole_same f (inr (inr run)) = cut.others f (run_apart p c x f (node_size * x.kept + 1) rules.kept_at run)

  pub behind_rests : OnlyCutBehind c (RestsOn c) old m
  behind_rests = record {
    unmade = λ f free. cut.others f (λ is. free (subst (IsMadePart c.step c.next_part) (sym is) rules.made));
    others = λ f free. cut.others f
        (λ made. free (record { saved = x; holds = holds; rests = inr (inl (made, omega arith)) }));
    whole = λ f all. whole_same f (is_rest f (node_size * x.kept + 1) (all (node_size * x.kept + 1)));
    reads = λ f n on. rest_reads f n (is_rest f n on);
    kept = λ f n on front long. rest_kept f front (subst (IsRest c x f) (sym long) (is_rest f n on));
  }

pub cut_rests : {S : Type 0} (tells : S → Bool) (world : S → World) (c : Checkpoint) (x : Saved) (p : Phase)
    → HasWords c x → KeepsRules c x p → (old new : S)
    → Told tells old new (Ran (DuringCut x.out (x.kept * node_size) (now (world old))) (world old) (world new))
    → Told tells old new (Ran (OnlyCutBehind c (RestsOn c) (now (world old))) (world old) (world new))
cut_rests tells world c x p holds rules old new did = told tells old new _ _ did
    (λ _ ran. ran_weakens (world old) (world new) (DuringCut x.out (x.kept * node_size) (now (world old)))
    (OnlyCutBehind c (RestsOn c) (now (world old)))
    (λ m here. behind_rests c x p holds rules (now (world old)) m here) ran)

picked_going : (c : Checkpoint) (part k : ℕ) (table : RunTable) → k < 5 → AreSavedTables c part → IsPicked c k table
    → IsSavedTable c part table
picked_going c part k table below tables picked =
    let count = tables.count in
    subst (IsSavedTable c part) (sym (picked.used (omega (arith, below, count)))) (tables.each k below)

picked_none : (c : Checkpoint) (part k : ℕ) (table : RunTable) → 3 ≤ c.next_part → c.tables ≡ 0 → IsPicked c k table
    → IsSavedTable c part table
picked_none c part k table past none picked =
    subst (IsSavedTable c part) (sym (picked.unused (omega (arith, none)))) (record {
      read = bare_read (record { runs = replicate 64 no_run }) bare_table;
      served = bare_served (parts_left c) (record { runs = replicate 64 no_run }) past bare_table;
      apart = All-weaker (λ (r : Run). r ≡ no_run) (λ (r : Run). IsInUse r → r.part ≢ part)
          (λ r is used. absurd (unused r is used)) (replicate 64 no_run) bare_table.bare;
    })

-- it can be read, parts serve it, and it names no part of the nodes
pub picked_saved : (p : Phase) (c : Checkpoint) (x : Saved) (k : ℕ) (table : RunTable) → k < 5 → KeepsRules c x p
    → IsPicked c k table → IsSavedTable c x.out.part table
picked_saved Between c x k table below rules picked = picked_going c x.out.part k table below rules.kept_at picked
picked_saved (Collect s) c x k table below rules picked = picked_going c x.out.part k table below rules.kept_at picked
picked_saved (Number s) c x k table below rules picked = picked_going c x.out.part k table below rules.kept_at picked
picked_saved Forward c x k table below rules picked = picked_going c x.out.part k table below rules.kept_at picked
picked_saved (Ended count) c x k table below rules picked =
    picked_none c x.out.part k table rules.parts rules.kept_at.no_tables picked

-- the second and the third have no run
empty_going : (c : Checkpoint) (k : ℕ) (table : RunTable) → k < 5 → c.tables ≡ 5
    → IsEmptyTable (table_at (tables_of c) k) → IsPicked c k table → IsEmptyTable table
empty_going c k table below count empty picked =
    subst IsEmptyTable (sym (picked.used (omega (arith, below, count)))) empty

empty_none : (c : Checkpoint) (k : ℕ) (table : RunTable) → c.tables ≡ 0 → IsPicked c k table → IsEmptyTable table
empty_none c k table none picked = subst IsEmptyTable (sym (picked.unused (omega (arith, none)))) empty_table

pub picked_second : (p : Phase) (c : Checkpoint) (x : Saved) (table : RunTable) → KeepsRules c x p → IsPicked c 1 table
    → IsEmptyTable table
picked_second Between c x table rules picked =
    empty_going c 1 table (omega arith) rules.kept_at.count rules.kept_at.second picked
picked_second (Collect s) c x table rules picked =
    empty_going c 1 table (omega arith) rules.kept_at.count rules.kept_at.second picked
picked_second (Number s) c x table rules picked =
    empty_going c 1 table (omega arith) rules.kept_at.count rules.kept_at.second picked
picked_second Forward c x table rules picked =
    empty_going c 1 table (omega arith) rules.kept_at.count rules.kept_at.second picked
picked_second (Ended count) c x table rules picked = empty_none c 1 table rules.kept_at.no_tables picked

pub picked_third : (p : Phase) (c : Checkpoint) (x : Saved) (table : RunTable) → KeepsRules c x p → IsPicked c 2 table
    → IsEmptyTable table
picked_third Between c x table rules picked =
    empty_going c 2 table (omega arith) rules.kept_at.count rules.kept_at.third picked
picked_third (Collect s) c x table rules picked =
    empty_going c 2 table (omega arith) rules.kept_at.count rules.kept_at.third picked
picked_third (Number s) c x table rules picked =
    empty_going c 2 table (omega arith) rules.kept_at.count rules.kept_at.third picked
picked_third Forward c x table rules picked =
    empty_going c 2 table (omega arith) rules.kept_at.count rules.kept_at.third picked
picked_third (Ended count) c x table rules picked = empty_none c 2 table rules.kept_at.no_tables picked

-- how many records are left of a table that is in use, and of one that isn't
abbrev pub left_at : Checkpoint → ℕ → ℕ
left_at c k = table_left (table_at (tables_of c) k)

bare_left : (runs : List Run) → All (λ r. r ≡ no_run) runs → sum_by run_left runs ≡ 0
bare_left [] bare = refl
bare_left (r ∷ runs) bare =
    let here : run_left r ≡ 0 = ap run_left (All-head (λ (q : Run). q ≡ no_run) r runs bare) in
    let rest = bare_left runs (All-tail (λ (q : Run). q ≡ no_run) r runs bare) in
    let all = sum_by-cons run_left r runs in
    omega (arith, here, rest, all)

pub picked_left : (c : Checkpoint) (k : ℕ) (table : RunTable) → IsPicked c k table → table_left table ≡ left_at c k
picked_left c k table picked = elim (cases_lt k c.tables) [
  | inl below ↦ ap table_left (picked.used below)
  | inr past ↦ (
      let many : length (tables_of c) ≡ length (tables_in_use c) = length-map (tables_in_use c) as_table in
      let few = length-take c.tables c.runs in
      let gone : table_at (tables_of c) k ≡ no_runs =
      get_or_past (tables_of c) k no_runs (omega (arith, many, few, past)) in
      ap table_left (picked.unused past) ∙ bare_left (replicate 64 no_run) bare_table.bare
      ∙ sym (ap table_left gone))
]

-- three of them have no more than all
three_of : (ts : List (List Run))
    → table_left (table_at (map as_table ts) 0) + table_left (table_at (map as_table ts) 3)
    + table_left (table_at (map as_table ts) 4) ≤ sum_by records_left ts
three_of [] = let z : table_left no_runs ≡ 0 = refl in omega (arith, z)
three_of (a ∷ []) =
    let z : table_left no_runs ≡ 0 = refl in
    let first = sum_by-cons records_left a [] in
    omega (arith, z, first)
three_of (a ∷ b ∷ []) =
    let z : table_left no_runs ≡ 0 = refl in
    let first = sum_by-cons records_left a (b ∷ []) in
    omega (arith, z, first)
three_of (a ∷ b ∷ c ∷ []) =
    let z : table_left no_runs ≡ 0 = refl in
    let first = sum_by-cons records_left a (b ∷ c ∷ []) in
    omega (arith, z, first)
three_of (a ∷ b ∷ c ∷ d ∷ []) =
    let z : table_left no_runs ≡ 0 = refl in
    let first = sum_by-cons records_left a (b ∷ c ∷ d ∷ []) in
    let second = sum_by-cons records_left b (c ∷ d ∷ []) in
    let third = sum_by-cons records_left c (d ∷ []) in
    let fourth = sum_by-cons records_left d [] in
    omega (arith, z, first, second, third, fourth)
three_of (a ∷ b ∷ c ∷ d ∷ e ∷ ts) =
    let first = sum_by-cons records_left a (b ∷ c ∷ d ∷ e ∷ ts) in
    let second = sum_by-cons records_left b (c ∷ d ∷ e ∷ ts) in
    let third = sum_by-cons records_left c (d ∷ e ∷ ts) in
    let fourth = sum_by-cons records_left d (e ∷ ts) in
    let fifth = sum_by-cons records_left e ts in
    omega (arith, first, second, third, fourth, fifth)

pub left_named : (c : Checkpoint) → left_at c 0 + left_at c 3 + left_at c 4 ≤ records_named c
left_named c = three_of (tables_in_use c)

-- the lists are those of the tables
pub record HasThawed (c : Checkpoint) (x : Saved) (a : Ahead) (l : Lists) : Type 0 where
  pub queue_list : c.tables ≡ 5 → (world : World) (xs : List FinalArc)
      → TablesList IsFinalArc final_arc_words final_arc_cmp c.step (tables_of c) (arc_at x.last) world xs
      → QueueLists a.queue world xs
  pub rows_list : c.tables ≡ 5 → (world : World) (xs : List SourceRow)
      → TableLists IsSourceRow source_row_words source_row_cmp c.step (table_at (tables_of c) 3) world xs
      → RowLists l.rows world xs
  pub names_list : c.tables ≡ 5 → (world : World) (xs : List Name)
      → TableLists IsName name_words name_cmp c.step (table_at (tables_of c) 4) world xs → NameLists l.names world xs
  pub last_is : queues.last_of a.queue ≡ arc_at x.last
  pub queue_held : queues.held a.queue ≡ left_at c 0
  pub rows_held : sorters.held l.rows ≡ left_at c 3
  pub names_held : sorters.held l.names ≡ left_at c 4

-- so it is of a queue that was thawed of its tables
pub thawed_queue : (c : Checkpoint) (x : Saved) (tables : List RunTable) (last : Option FinalArc)
    (q : LevelQueue FinalArc) → IsPicked c 0 (table_at tables 0) → last ≡ arc_at x.last
    → ((world : World) (xs : List FinalArc)
    → TablesList IsFinalArc final_arc_words final_arc_cmp c.step tables last world xs → QueueLists q world xs)
    → c.tables ≡ 5 → (world : World) (xs : List FinalArc)
    → TablesList IsFinalArc final_arc_words final_arc_cmp c.step (tables_of c) (arc_at x.last) world xs
    → QueueLists q world xs
thawed_queue c x tables last q picked same list count world xs shown = list world xs (record {
  sorter = subst (λ (t : RunTable). TableLists IsFinalArc final_arc_words final_arc_cmp c.step t world xs)
      (sym (picked.used (omega (arith, count)))) shown.sorter;
  reached = subst (λ (o : Option FinalArc). All (IsNoLess final_arc_cmp o) xs) (sym same) shown.reached;
})

-- what was done when it was rebuilt
pub record IsRebuilt (c : Checkpoint) (x : Saved) (p : Phase) (a : Ahead) (l : Lists) (w : NodeWriter)
    (opened read : ArcReader) (first second third last : World) : Type 0 where
  pub begun : HasBegun a w x.arcs x.out (x.kept * node_size) (take (x.kept * node_size) (file first x.out).bytes) opened
      read first second third last
  pub opened_is : left_over_of opened ≡ x.arcs
  pub file_is : (nodes.filling_of w).file ≡ x.out
  pub count_is : count_of (nodes.filling_of w) ≡ x.kept
  pub rest : OnlyCutBehind c (RestsOn c) (now first) (now last)
  pub thawed : HasThawed c x a l
  pub firm : (count : ℕ) → p ≡ Ended count
      → file second x.out ≡ firm_file (take (x.kept * node_size) (file first x.out).bytes)

abbrev pub rebuilt : Checkpoint → Saved → Phase → Ahead → Lists → NodeWriter → ReduceSweep
rebuilt c x p a l w = record { place = place_of x p; ahead = a; lists = l; writer = w; parts = parts_left c }

-- the file of the nodes stays while arcs are read
pub looked_twice : (f : FileNo) (second third last : World) → Looked 1 second third → Looked 1 third last
    → file last f ≡ file second f
looked_twice f second third last looked again =
    let one : (now third).folder ≡ (now second).folder = ran_end second third (Stays (now second)) looked.run in
    let two : (now last).folder ≡ (now third).folder = ran_end third last (Stays (now third)) again.run in
    ap (λ (d : Folder). file_in d f) (two ∙ one)

-- where it has ended, the file of the nodes is firm; and else it is at work
pub step_rebuilt : (c : Checkpoint) (x : Saved) (p : Phase) (a : Ahead) (l : Lists) (w : NodeWriter)
    (opened read : ArcReader) (first second third last : World)
    → IsRebuilt c x p a l w opened read first second third last → AreInStep a l last
    → IsStepAt p (rebuilt c x p a l w) last
step_rebuilt c x Between a l w opened read first second third last is step =
    work_begins a w x.arcs x.out (x.kept * node_size) (take (x.kept * node_size) (file first x.out).bytes) opened read
    first second third last is.begun l step
step_rebuilt c x (Collect s) a l w opened read first second third last is step =
    work_begins a w x.arcs x.out (x.kept * node_size) (take (x.kept * node_size) (file first x.out).bytes) opened read
    first second third last is.begun l step
step_rebuilt c x (Number s) a l w opened read first second third last is step =
    work_begins a w x.arcs x.out (x.kept * node_size) (take (x.kept * node_size) (file first x.out).bytes) opened read
    first second third last is.begun l step
step_rebuilt c x Forward a l w opened read first second third last is step =
    work_begins a w x.arcs x.out (x.kept * node_size) (take (x.kept * node_size) (file first x.out).bytes) opened read
    first second third last is.begun l step
step_rebuilt c x (Ended count) a l w opened read first second third last is step =
    let there : file last (nodes.filling_of w).file
    ≡ firm_file (take (x.kept * node_size) (file first x.out).bytes) =
    ap (file last) is.file_is ∙ looked_twice x.out second third last is.begun.looked is.begun.again
    ∙ is.firm count refl in
    subst IsFirm (sym there) refl

-- what the step makes isn't taken any more
pub made_not_taken : (step next : ℕ) (f : FileNo) → inner_part ≤ next → IsMadePart step next f
    → ¬ CanBeTaken step next f
made_not_taken step next f past made can =
    let from = can.from in
    elim made.part [
      | inl nodes ↦ absurd (omega (arith, from, nodes, past))
      | inr arcs ↦ absurd (let below = arcs.2 in omega (arith, from, below))
    ]

-- what is said of a fault is so of one that is handed on
pub handed : {A B : Type 0} (P : SortFault → Type 0) (result : Result A SortFault) (before : Result B SortFault)
    (e : SortFault) → IsErrAnd result (λ f. f ≡ e) → before ≡ Err e → IfErr before P → IfErr result P
handed P (Ok x) before e is was cause = absurd is
handed P (Err f) before e is was cause = subst (λ r. IfErr r P) (was ∙ ap Err (sym is)) cause

module _ (c : Checkpoint) (x : Saved) (a : Ahead) (l : Lists) (w : NodeWriter) (opened read : ArcReader)
    (first second third last : World) (holds : HasWords c x) (d : Diagram) (turns : ℕ) where
  -- what is kept is what remains
  goes_remain : (p : Phase) → c.tables ≡ 5 → IsRebuilt c x p a l w opened read first second third last
      → GoesOn c x p (reads_of first) d turns
      → IsWorking (rebuilt c x p a l w) last d × (fuel_at p (arcs_weight a + lists_weight l) ≤ turns)
  goes_remain p count is goes =
      let k : Contents = goes.contents in
      let same : (f : FileNo) (n : ℕ) → IsRest c x f n → take n (reads_of last f) ≡ take n (reads_of first f) =
      λ f n rests. is.rest.reads f n (record { saved = x; holds = holds; rests = rests }) in
      let begun = is.begun in
      let inner : left_of (inner_of a.reader) + one_if_some a.inner ≡ x.arcs.inner_count =
      ap (λ (s : ArcStream). left_of s + one_if_some a.inner) begun.inner_kept
      ∙ read_on Inner (inner_of opened) (inner_of read) a.inner begun.one_inner.up
      ∙ ap (λ (u : Unreduced). u.inner_count) is.opened_is in
      let ends : left_of (ends_of a.reader) + one_if_some a.end ≡ x.arcs.ends_count =
      read_on End (ends_of read) (ends_of a.reader) a.end begun.one_end.up
      ∙ ap left_of begun.ends_kept ∙ ap (λ (u : Unreduced). u.ends_count) is.opened_is in
      let weight : arcs_weight a + lists_weight l ≡ weight_of c x =
      λ i. 4 * inner i + 3 * ends i + 3 * is.thawed.queue_held i
      + (2 * is.thawed.rows_held i + is.thawed.names_held i) in
      let same_fuel : fuel_at p (arcs_weight a + lists_weight l) ≡ fuel_at p (weight_of c x) = ap (fuel_at p) weight in
      let few = goes.few in
      let many : x.kept * node_size ≡ node_size * x.kept = omega arith in (
        record {
          contents = k;
          holds = held_at_first a w x.arcs x.out (x.kept * node_size)
              (take (x.kept * node_size) (file first x.out).bytes) opened read first second third last begun l k
              (record {
                queue_is = is.thawed.queue_list count last k.queue
                    (queue_shown.shown_lists IsFinalArc final_arc_words final_arc_cmp c.step (tables_of c)
                    (arc_at x.last) last k.queue
                    (queue_shown.shows_stay IsFinalArc final_arc_words final_arc_cmp c.step (tables_of c)
                    (arc_at x.last) (reads_of first) (reads_of last) k.queue
                    (λ f n before. same f n (inr (inr (0, omega (arith, count), before)))) goes.queue_shown));
                last_is = is.thawed.last_is ∙ sym goes.last_is;
                rows_is = is.thawed.rows_list count last k.rows
                    (sorter_shown.shown_lists IsSourceRow source_row_words source_row_cmp c.step
                    (table_at (tables_of c) 3) last k.rows
                    (sorter_shown.shows_stay IsSourceRow source_row_words source_row_cmp c.step
                    (table_at (tables_of c) 3) (reads_of first) (reads_of last) k.rows
                    (λ f n before. same f n (inr (inr (3, omega (arith, count), before)))) goes.rows_shown));
                names_is = is.thawed.names_list count last k.names
                    (sorter_shown.shown_lists IsName name_words name_cmp c.step (table_at (tables_of c) 4) last k.names
                    (sorter_shown.shows_stay IsName name_words name_cmp c.step (table_at (tables_of c) 4)
                    (reads_of first) (reads_of last) k.names
                    (λ f n before. same f n (inr (inr (4, omega (arith, count), before)))) goes.names_shown));
              })
              (ap (λ n. take n (file first x.out).bytes) many ∙ goes.nodes_are)
              (goes.nodes_many ∙ sym is.count_is) goes.inner_has goes.ends_has;
          left = goes.left;
        },
        omega (arith, few, same_fuel),
      )

  pub stands_remain : (p : Phase) → KeepsRules c x p → IsRebuilt c x p a l w opened read first second third last
      → StandsAt p c x (reads_of first) d turns
      → RemainsIn p (rebuilt c x p a l w) last d × (fuel_at p (arcs_weight a + lists_weight l) ≤ turns)
  stands_remain Between rules is stands = goes_remain Between rules.kept_at.count is stands
  stands_remain (Collect s) rules is stands = goes_remain (Collect s) rules.kept_at.count is stands
  stands_remain (Number s) rules is stands = goes_remain (Number s) rules.kept_at.count is stands
  stands_remain Forward rules is stands = goes_remain Forward rules.kept_at.count is stands
  stands_remain (Ended count) rules is stands =
      let kept = rules.kept_at.kept_is in
      let many : x.kept * node_size ≡ node_size * (count + 1) = omega (arith, kept) in
      let bytes : take (x.kept * node_size) (file first x.out).bytes ≡ canon_bytes x.variables d.table =
      ap (λ n. take n (file first x.out).bytes) many ∙ stands.bytes_are in (
        record {
          firm = ap (file last) is.file_is ∙ looked_twice x.out second third last is.begun.looked is.begun.again
              ∙ is.firm count refl ∙ ap firm_file bytes;
          count_is = ap Some stands.count_is;
        },
        omega arith,
      )

-- where a checkpoint stands for something, a rebuild finds no damage
undamaged_there : (x : Saved) (world : World) (e : SortFault) (inner ends : List Arc)
    → x.kept * node_size ≤ length (reads_of world x.out)
    → HasArcs Inner inner x.arcs.inner_count (file world x.arcs.inner).bytes
    → HasArcs End ends x.arcs.ends_count (file world x.arcs.ends).bytes
    → IsShortFault x (reads_of world) e ⊎ IsDamageAtStart x.arcs world e → IsNoDamage e
undamaged_there x world Shelf inner ends long has_inner has_ends (inl short) = tt
undamaged_there x world (Damaged f at) inner ends long has_inner has_ends (inl short) =
    absurd (let less = short.short in omega (arith, less, long))
undamaged_there x world RunsSpent inner ends long has_inner has_ends (inl short) = tt
undamaged_there x world e inner ends long has_inner has_ends (inr start) =
    let r : Result Unit SortFault = Err e in
    begins_undamaged Unit x.arcs world r (λ t. start) tt inner ends has_inner has_ends

-- so many first bytes are all there where they have that length
long_enough : (n m : ℕ) (bytes front : List ℕ) → take n bytes ≡ front → length front ≡ m → n ≤ m → n ≤ length bytes
long_enough n m bytes front is long more =
    let many = length-take n bytes in
    let same : length (take n bytes) ≡ m = ap length is ∙ long in
    omega (arith, many, same, more)

length-canon : (n : ℕ) (t : List Bool) → length (canon_bytes n t) ≡ 24 * length (canon_nodes n t) + 24
length-canon n t =
    let trailer = trailer_bytes (canon_root n t) (length (canon_nodes n t)) n in
    ap length (canon_bytes-is n t) ∙ length-append (node_bytes (canon_nodes n t)) trailer
    ∙ ap (λ k. k + 24) (length-node_bytes (canon_nodes n t))

module _ (c : Checkpoint) (x : Saved) (world : World) (d : Diagram) (turns : ℕ) (e : SortFault) where
  goes_undamaged : (p : Phase) → GoesOn c x p (reads_of world) d turns
      → IsShortFault x (reads_of world) e ⊎ IsDamageAtStart x.arcs world e → IsNoDamage e
  goes_undamaged p goes cause =
      let many : length (node_bytes goes.contents.nodes) ≡ 24 * x.kept =
      length-node_bytes goes.contents.nodes ∙ ap (λ n. 24 * n) goes.nodes_many in
      let long : node_size * x.kept ≤ length (reads_of world x.out) =
      long_enough (node_size * x.kept) (24 * x.kept) (reads_of world x.out) (node_bytes goes.contents.nodes)
      goes.nodes_are many (omega arith) in
      undamaged_there x world e goes.contents.inner goes.contents.ends (omega (arith, long)) goes.inner_has
      goes.ends_has cause

  stands_undamaged : (p : Phase) → KeepsRules c x p → StandsAt p c x (reads_of world) d turns
      → IsShortFault x (reads_of world) e ⊎ IsDamageAtStart x.arcs world e → IsNoDamage e
  stands_undamaged Between rules stands cause = goes_undamaged Between stands cause
  stands_undamaged (Collect s) rules stands cause = goes_undamaged (Collect s) stands cause
  stands_undamaged (Number s) rules stands cause = goes_undamaged (Number s) stands cause
  stands_undamaged Forward rules stands cause = goes_undamaged Forward stands cause
  stands_undamaged (Ended count) rules stands cause =
      let kept = rules.kept_at in
      let is = kept.kept_is in
      let nodes = stands.count_is in
      let many : length (canon_bytes x.variables d.table) ≡ node_size * (count + 1) =
      (let all = length-canon x.variables d.table in omega (arith, all, nodes)) in
      let long : node_size * (count + 1) ≤ length (reads_of world x.out) =
      long_enough (node_size * (count + 1)) (node_size * (count + 1)) (reads_of world x.out)
      (canon_bytes x.variables d.table) stands.bytes_are many (omega arith) in
      undamaged_there x world e [] [] (omega (arith, long, is))
      (subst (λ n. HasArcs Inner [] n (file world x.arcs.inner).bytes) (sym kept.no_inner)
      (no_arcs Inner (file world x.arcs.inner).bytes))
      (subst (λ n. HasArcs End [] n (file world x.arcs.ends).bytes) (sym kept.no_ends)
      (no_arcs End (file world x.arcs.ends).bytes)) cause

-- what a checkpoint stands for, it does with these words
pub stands_for : (c : Checkpoint) (x : Saved) (p : Phase) (r : FileNo → List ℕ) (d : Diagram) (turns : ℕ)
    → HasWords c x → phase_of x.phase ≡ Some p → StandsFor c r d turns → StandsAt p c x r d turns
stands_for c x p r d turns holds phase_is stands =
    let same : stands.saved ≡ x = one_reduction c stands.saved x stands.holds holds in
    let phase : stands.phase ≡ p = one_phase x stands.phase p
    (ap (λ (y : Saved). phase_of y.phase) (sym same) ∙ stands.phase_is) phase_is in
    subst (λ v. v) (λ i. StandsAt (phase i) c (same i) r d turns) stands.stands

pub blamed_undamaged : (c : Checkpoint) (x : Saved) (p : Phase) (world : World) (e : SortFault) → HasWords c x
    → phase_of x.phase ≡ Some p → KeepsRules c x p → Blames c world e → (d : Diagram) (turns : ℕ)
    → StandsFor c (reads_of world) d turns → IsNoDamage e
blamed_undamaged c x p world e holds phase_is rules blames d turns stands =
    stands_undamaged c x world d turns e p rules (stands_for c x p (reads_of world) d turns holds phase_is stands)
    (subst (λ (y : Saved). IsShortFault y (reads_of world) e ⊎ IsDamageAtStart y.arcs world e)
    (one_reduction c blames.saved x blames.holds holds) blames.cause)
