-- A reduction whose lists were made sure, as it stands in a checkpoint.
use Rattle.std.proofs.Common.{◌≡◌, ℕ, ◌+◌, ◌*◌, ◌<◌, ◌≤◌, ◌∙◌, Bool, List, [], All, length, map, take, get_or, refl, sym, ap, subst, arith, inl, inr}
use Rattle.std.specs.Prelude.{IsTrue, Option, Some, None}
use Rattle.std.proofs.lemmas.List.{take_all, get_or-map, get_or_default, length-map}
use Rattle.std.proofs.lemmas.List.Elements.{All-from_get_or}
use Rattle.rec_words.specs.Words.{node_size}
use Rattle.shelf_model.specs.declared.file_no.FileNo.{FileNo}
use Rattle.shelf_model.specs.File.{File, firm_file}
use Rattle.shelf_model.specs.World.{World, file}
use Rattle.shelf_model.proofs.Numbers.{cases_file}
use Rattle.file_numbers.specs.Files.{inner_part}
use Rattle.canon_file.specs.Canon.{node_bytes}
use Rattle.canon_file.proofs.ByteLaws.{length-node_bytes}
use Rattle.block_stream.specs.Writes.{count_of}
use Rattle.node_file.specs.Writers as nodes
use Rattle.arc_diagrams.specs.Items.{final_arc_words, IsFinalArc, final_arc_cmp, source_row_words, IsSourceRow, source_row_cmp, name_words, IsName, name_cmp}
use Rattle.arc_diagrams.specs.declared.final_arc.FinalArc.{FinalArc}
use Rattle.arc_file.specs.declared.kind.Kind.TheVariants.{Inner, End}
use Rattle.arc_file.specs.declared.unreduced.Unreduced.{Unreduced}
use Rattle.arc_file.specs.Streams.{file_of, left_of}
use Rattle.arc_file.specs.Readers.{inner_of, ends_of}
use Rattle.run_tiers.specs.declared.parts.Parts.{Parts}
use Rattle.run_tiers.specs.declared.run.Run.{Run}
use Rattle.run_tiers.specs.declared.run.RunTable.{RunTable}
use Rattle.run_tiers.specs.Tables.{IsInUse, IsTable, IsTidyTable, ServeTable, no_run, no_runs}
use Rattle.run_tiers.specs.Tables as runs
use Rattle.run_merge.specs.Shown.{shows_now}
use Rattle.run_merge.specs.Tables.{TableShows, IsBeforeEnd}
use Rattle.level_queue.specs.Queues as queues
use Rattle.level_queue.specs.Tables.{TablesShow, table_at}
use Rattle.sweep_core.specs.declared.checkpoint.Checkpoint.{Checkpoint}
use Rattle.sweep_core.specs.Accounts.{CanBeTaken}
use Rattle.sweep_core.specs.Saving.{IsMadePart, IsReadPart, IsOfStep, IsSure, reads_of}
use Rattle.sweep_core.specs.Tables as points
use Rattle.sweep_core.specs.Tables.{tables_in_use}
use Rattle.reduce_lists.specs.AtWork.{IsAtWork}
use Rattle.reduce_lists.specs.Held.{IsRun}
use Rattle.reduce_lists.specs.Contents.{Contents, Holds}
use Rattle.reduce_sweep.specs.declared.phase.Phase.{Phase}
use Rattle.reduce_sweep.specs.declared.phase.Phase.TheVariants.{Between, Collect, Number, Forward, Ended}
use Rattle.reduce_sweep.specs.declared.place.Place.{Place}
use Rattle.reduce_sweep.specs.declared.reduce.ReduceSweep.{ReduceSweep}
use Rattle.reduce_sweep.specs.declared.saved.Saved.{Saved}
use Rattle.reduce_sweep.specs.Sweeps.{out_of, inner_file, ends_file, arcs_of, task_of, fuel_at, turns_left, one_if_some, arcs_weight, lists_weight, IsGoing, IsSound}
use Rattle.reduce_sweep.specs.Calls.{SameTask}
use Rattle.reduce_sweep.specs.Remaining.{Diagram, IsLeft, IsWorking}
use Rattle.saved_words.specs.Fronts.{IsFront}
use Rattle.reduce_sweep.specs.SavedReduction.{saved_count, saved_words, IsSaved}
use Rattle.reduce_sweep.specs.SavedPhase.{phase_of, saved_phase, pair_at, row_at}
use Rattle.reduce_sweep.specs.SavedTables.{as_table, tables_of, parts_left, IsSavedTable, AreSavedTables}
use Rattle.reduce_sweep.specs.Resumes.{HasWords, IsKeptAt, Fits, IsOperand, RestsOn, IsRest, arc_at, weight_of, GoesOn, StandsAt, Names}
use Rattle.reduce_sweep.specs.ResumeLaws.{one_reduction, names_slot}
use Rattle.reduce_sweep.specs.Saving.{saved_of, item_at}
use Rattle.reduce_sweep.specs.Settling.{KeepsAll, AllFroze, IsTableOf}
use Rattle.reduce_sweep.proofs.FrozenTables.{five, tables_back, bare_read, bare_served, bare_empty, bare_tidy, lawful_slots, bare_names, named_slot, apart_from, sure_front, unused}
use Rattle.reduce_sweep.proofs.Unhandled.{unhandled}
use Rattle.canon_file.specs.declared.row.Row.{Row}

-- what is kept of a phase is that of it
row_back : (o : Option Row) → row_at (pair_at o) ≡ o
row_back None = refl
row_back (Some r) = refl

pub phase_back : (p : Phase) → phase_of (saved_phase p) ≡ Some p
phase_back Between = refl
phase_back (Collect s) = refl
phase_back (Number s) = ap (λ o. Some (Number (record { number = s.number; last = o }))) (row_back s.last)
phase_back Forward = refl
phase_back (Ended count) = refl

arc_back : (o : Option FinalArc) → arc_at (item_at o) ≡ o
arc_back None = refl
arc_back (Some a) = refl

-- where turns are left it hasn't ended
pub going_of : (p : Phase) (n : ℕ) → 0 < fuel_at p n → IsGoing p
going_of p n left count is = absurd (let none : 0 < 0 = subst (λ q. 0 < fuel_at q n) is left in omega (arith, none))

kept_going : (p : Phase) (c : Checkpoint) (x : Saved) → IsGoing p → AreSavedTables c x.out.part → IsKeptAt p c x
kept_going Between c x going tables = tables
kept_going (Collect s) c x going tables = tables
kept_going (Number s) c x going tables = tables
kept_going Forward c x going tables = tables
kept_going (Ended count) c x going tables = absurd (going count refl)

pub stands_going : (p : Phase) (c : Checkpoint) (x : Saved) (r : FileNo → List ℕ) (d : Diagram) (turns : ℕ) → IsGoing p
    → GoesOn c x p r d turns → StandsAt p c x r d turns
stands_going Between c x r d turns going goes = goes
stands_going (Collect s) c x r d turns going goes = goes
stands_going (Number s) c x r d turns going goes = goes
stands_going Forward c x r d turns going goes = goes
stands_going (Ended count) c x r d turns going goes = absurd (going count refl)

-- what is made from a part number on is so from a later one on
made_later : (step next later : ℕ) (f : FileNo) → next ≤ later → IsMadePart step next f → IsMadePart step later f
made_later step next later f more made = record {
  step_is = made.step_is;
  part = elim made.part [
    | inl none ↦ inl none
    | inr arcs ↦ inr (arcs.0, arcs.1, (let below = arcs.2 in omega (arith, below, more)))
  ];
}

read_later : (step next later : ℕ) (f : FileNo) → next ≤ later → IsReadPart step next f → IsReadPart step later f
read_later step next later f more (inl other) = inl other
read_later step next later f more (inr made) = inr (made_later step next later f more made)

-- the checkpoint was filled with the tables and the words of the reduction
pub record IsFilledWith (c : Checkpoint) (t : ReduceSweep) (tables : List RunTable) : Type 0 where
  pub step_is : c.step ≡ t.parts.step
  pub next_is : c.next_part ≡ t.parts.next
  pub count : c.tables ≡ 5
  pub holds : HasWords c (saved_of t)
  pub tables_are : tables_of c ≡ tables
  pub in_use : tables_in_use c ≡ map (λ (table : RunTable). table.runs) tables

-- its tables, its words and the parts were put there
pub filled_with : (c : Checkpoint) (t : ReduceSweep) (tables : List RunTable) (x : Saved) (carry : List ℕ)
    → c.step ≡ t.parts.step → c.next_part ≡ t.parts.next → c.tables ≡ length tables → length tables ≡ 5
    → c.carry ≡ carry → tables_in_use c ≡ map (λ (table : RunTable). table.runs) tables → x ≡ saved_of t
    → IsFront saved_count saved_words IsSaved x carry → IsFilledWith c t tables
filled_with c t tables x carry step_is next_is count many carry_is runs x_is front = record {
  step_is = step_is;
  next_is = next_is;
  count = count ∙ many;
  holds = subst (λ v. v) (λ i. IsFront saved_count saved_words IsSaved (x_is i) (sym carry_is i)) front;
  tables_are = ap (map as_table) runs ∙ tables_back tables;
  in_use = runs;
}

-- what is left stays where its place does
pub left_on : (s t : ReduceSweep) (d : Diagram) (k : Contents) → t.place ≡ s.place → IsLeft s.place d k
    → IsLeft t.place d k
left_on s t d k same = subst (λ (p : Place). IsLeft p d k) (sym same)

-- so it works on what it worked on, where it holds what it held
pub working_on : {S : Type 0} (tells : S → Bool) (world : S → World) (before after : S) (s t : ReduceSweep)
    → KeepsAll tells world before after s t → IsTrue (tells after) → (d : Diagram) → IsWorking s (world before) d
    → IsWorking t (world after) d
working_on tells world before after s t keeps told d working = record {
  contents = working.contents;
  holds = keeps.holds told working.contents working.holds;
  left = left_on s t d working.contents keeps.place_is working.left;
}

module _ {S : Type 0} (tells : S → Bool) (world : S → World) (before after : S) (s t : ReduceSweep)
    (tables : List RunTable) (c : Checkpoint) (sound : IsSound t) (same : SameTask s t)
    (froze : AllFroze tells world before after s t tables) (filled : IsFilledWith c t tables) where
  parts_are : parts_left c ≡ t.parts
  parts_are = λ i. record { step = filled.step_is i; next = filled.next_is i }

  past : 3 ≤ t.parts.next
  past = froze.queue.is.served.past_made

  -- each of the tables is lawful, and names no file but runs
  record IsGood (table : RunTable) : Type 0 where
    read : IsTable table
    tidy : IsTidyTable table
    served : ServeTable t.parts table
    apart : ¬ runs.Names t.parts.step table (out_of t)

  good : (is_run : FileNo → Type 0) (count : ℕ) (table : RunTable) → IsTableOf t is_run count table
      → ¬ is_run (out_of t) → IsGood table
  good is_run count table is none = record {
    read = is.read;
    tidy = is.tidy;
    served = is.served;
    apart = λ names. none (is.only (out_of t) names);
  }

  bare_good : (table : RunTable) → runs.IsBareTable table → IsGood table
  bare_good table bare = record {
    read = bare_read table bare;
    tidy = bare_tidy table bare;
    served = bare_served t.parts table past bare;
    apart = bare_names t.parts.step table bare (out_of t);
  }

  each_good : (k : ℕ) → k < 5 → IsGood (table_at tables k)
  each_good = five (λ k. IsGood (table_at tables k))
      (good _ _ (table_at tables 0) froze.queue.is (λ run. sound.served.no_run (inl run)))
      (bare_good (table_at tables 1) froze.second) (bare_good (table_at tables 2) froze.third)
      (good _ _ (table_at tables 3) froze.rows.is (λ run. sound.served.no_run (inr (inl run))))
      (good _ _ (table_at tables 4) froze.names.is (λ run. sound.served.no_run (inr (inr run))))

  saved_tables : (out_of t).step ≡ t.parts.step → AreSavedTables c (out_of t).part
  saved_tables step_is = record {
    count = filled.count;
    each = λ k below.
        let table = table_at tables k in
        let is = each_good k below in
        let saved : IsSavedTable c (out_of t).part table = record {
          read = is.read;
          served = subst (λ (p : Parts). ServeTable p table) (sym parts_are) is.served;
          apart = apart_from t.parts.step table (out_of t) step_is is.apart;
        } in
        subst (λ (ts : List RunTable). IsSavedTable c (out_of t).part (table_at ts k)) (sym filled.tables_are) saved;
    second = subst (λ (ts : List RunTable). runs.IsEmptyTable (table_at ts 1)) (sym filled.tables_are)
        (bare_empty (table_at tables 1) froze.second);
    third = subst (λ (ts : List RunTable). runs.IsEmptyTable (table_at ts 2)) (sym filled.tables_are)
        (bare_empty (table_at tables 2) froze.third);
  }

  -- so the tables of the checkpoint are
  pub filled_tables : points.HasTables c
  filled_tables =
      let slots : All (All (points.IsSlot t.parts.next)) (map (λ (table : RunTable). table.runs) tables) =
      All-from_get_or (All (points.IsSlot t.parts.next)) (map (λ (table : RunTable). table.runs) tables) [] (λ k below.
      let all : length (map (λ (table : RunTable). table.runs) tables) ≡ length tables =
      length-map tables (λ (table : RunTable). table.runs) in
      let many = froze.many in
      let within : k < 5 = omega (arith, below, all, many) in
      let is = each_good k within in
      subst (All (points.IsSlot t.parts.next))
      (sym (get_or-map (λ (table : RunTable). table.runs) tables k no_runs [] (omega (arith, within, many))))
      (lawful_slots t.parts (table_at tables k) is.read is.tidy is.served)) in
      let count = filled.count in
      record {
        tables = omega (arith, count);
        runs = subst (λ v. v) (λ i. All (All (points.IsSlot (sym filled.next_is i))) (sym filled.in_use i)) slots;
      }

  -- a run of the reduction is one that the checkpoint names
  named_run : (j : ℕ) (f : FileNo) → runs.Names t.parts.step (table_at tables j) f
      → (f.step ≡ c.step) × points.Names c f.part
  named_run j f names =
      let here = named_slot t.parts.step (table_at tables j) f names in
      let r : Run = get_or (table_at tables j).runs here.0 no_run in
      let same_table : table_at tables j ≡ table_at (tables_of c) j =
      ap (λ (ts : List RunTable). table_at ts j) (sym filled.tables_are) in
      let within : here.0 < length (table_at (tables_of c) j).runs =
      subst (λ (u : RunTable). here.0 < length u.runs) same_table here.1 in
      let is : get_or (table_at (tables_of c) j).runs here.0 r ≡ r =
      subst (λ (u : RunTable). get_or u.runs here.0 r ≡ r) same_table
      (get_or_default (table_at tables j).runs here.0 r no_run here.1) in (
        ap (λ (g : FileNo). g.step) here.2 ∙ sym filled.step_is,
        subst (points.Names c) (sym (ap (λ (g : FileNo). g.part) here.2)) (names_slot c j here.0 r within is),
      )

  pub used_run : (f : FileNo) → IsRun t.ahead t.lists f → (f.step ≡ c.step) × points.Names c f.part
  used_run f (inl run) = named_run 0 f (froze.queue.is.named f run)
  used_run f (inr (inl run)) = named_run 3 f (froze.rows.is.named f run)
  used_run f (inr (inr run)) = named_run 4 f (froze.names.is.named f run)

  -- a file of arcs of which some are left is an operand
  pub inner_operand : 0 < left_of (inner_of t.ahead.reader) + one_if_some t.ahead.inner
      → IsOperand (task_of s) (inner_file t)
  inner_operand some =
      let few = sound.few.inner_few in
      let count : (arcs_of t).inner_count ≡ (arcs_of s).inner_count = ap (λ (u : Unreduced). u.inner_count) same.arcs_are in
      inl (
        sound.within.inner_within.file_is ∙ ap (λ (u : Unreduced). u.inner) same.arcs_are,
        omega (arith, some, few, count),
      )

  pub ends_operand : 0 < left_of (ends_of t.ahead.reader) + one_if_some t.ahead.end
      → IsOperand (task_of s) (ends_file t)
  ends_operand some =
      let few = sound.few.ends_few in
      let count : (arcs_of t).ends_count ≡ (arcs_of s).ends_count = ap (λ (u : Unreduced). u.ends_count) same.arcs_are in
      inr (
        sound.within.ends_within.file_is ∙ ap (λ (u : Unreduced). u.ends) same.arcs_are,
        omega (arith, some, few, count),
      )

  not_taken : (f : FileNo) → ¬ CanBeTaken t.parts.step t.parts.next f → ¬ CanBeTaken c.step c.next_part f
  not_taken f none can = none (record {
    step_is = can.step_is ∙ filled.step_is;
    from = (let from = can.from in let next = filled.next_is in omega (arith, from, next));
  })

  -- and the checkpoint keeps the rules
  module _ (files : IsOfStep (λ f. f ≡ out_of s) (IsOperand (task_of s)) s.parts.step s.parts.next)
      (step_is : t.parts.step ≡ s.parts.step) (later : s.parts.next ≤ t.parts.next) where
    step_same : c.step ≡ s.parts.step
    step_same = filled.step_is ∙ step_is

    next_later : s.parts.next ≤ c.next_part
    next_later = let next = filled.next_is in omega (arith, next, later)

    out_made : IsMadePart c.step c.next_part (out_of t)
    out_made = subst (λ v. v) (λ i. IsMadePart (sym step_same i) c.next_part (sym same.out_is i))
        (made_later s.parts.step s.parts.next c.next_part (out_of s) next_later (files.made (out_of s) refl))

    operand_read : (f : FileNo) → IsOperand (task_of s) f → IsReadPart c.step c.next_part f
    operand_read f operand = subst (λ st. IsReadPart st c.next_part f) (sym step_same)
        (read_later s.parts.step s.parts.next c.next_part f next_later (files.others f operand))

    pub carried_fits : IsGoing t.place.phase → Fits c
    carried_fits going =
        let parts : inner_part ≤ s.parts.next = files.parts in
        let inner_few = sound.few.inner_few in
        let ends_few = sound.few.ends_few in
        let inner_most = sound.few.inner_most in
        let ends_most = sound.few.ends_most in
        record {
          saved = saved_of t;
          holds = filled.holds;
          phase = t.place.phase;
          phase_is = phase_back t.place.phase;
          rules = record {
            parts = omega (arith, parts, next_later);
            made = out_made;
            inner_apart = sound.served.out_inner;
            ends_apart = sound.served.out_ends;
            inner = record {
              made = not_taken (inner_file t) sound.served.inner_made;
              read = λ some. operand_read (inner_file t) (inner_operand some);
              few = omega (arith, inner_few, inner_most);
            };
            ends = record {
              made = not_taken (ends_file t) sound.served.ends_made;
              read = λ some. operand_read (ends_file t) (ends_operand some);
              few = omega (arith, ends_few, ends_most);
            };
            phase_at = sound.phase;
            kept_at = kept_going t.place.phase c (saved_of t) going
                (saved_tables (out_made.step_is ∙ filled.step_is));
          };
        }

  pub carried_names : Names c (task_of s)
  carried_names = record {
    saved = saved_of t;
    holds = filled.holds;
    out_is = same.out_is;
    inner_is = same.inner_is;
    ends_are = same.ends_are;
    root_is = ap (λ (u : Unreduced). u.root) same.arcs_are;
    variables_are = same.variables_are;
  }

  -- where it holds these, the checkpoint stands for them
  module _ (told : IsTrue (tells after)) (k : Contents) (was : Holds s.ahead s.lists s.writer (world before) k)
      (holds : Holds t.ahead t.lists t.writer (world after) k) where
    node_count : length (node_bytes k.nodes) ≡ node_size * count_of (nodes.filling_of t.writer)
    node_count = length-node_bytes k.nodes ∙ ap (λ n. 24 * n) holds.nodes_many

    nodes_firm : file (world after) (out_of t) ≡ firm_file (node_bytes k.nodes)
    nodes_firm = froze.nodes_are told k was

    weight_is : weight_of c (saved_of t) ≡ arcs_weight t.ahead + lists_weight t.lists
    weight_is =
        let queue : table_of_queue ≡ queues.held t.ahead.queue = ap (λ (ts : List RunTable). runs.table_left (table_at ts 0))
        filled.tables_are ∙ froze.queue.is.counted in
        let rows = ap (λ (ts : List RunTable). runs.table_left (table_at ts 3)) filled.tables_are ∙ froze.rows.is.counted in
        let names = ap (λ (ts : List RunTable). runs.table_left (table_at ts 4)) filled.tables_are ∙ froze.names.is.counted
        in
        λ i. 4 * (left_of (inner_of t.ahead.reader) + one_if_some t.ahead.inner)
        + 3 * (left_of (ends_of t.ahead.reader) + one_if_some t.ahead.end) + 3 * queue i + (2 * rows i + names i)
      where
        table_of_queue : ℕ
        table_of_queue = runs.table_left (table_at (tables_of c) 0)

    pub carried_goes : (d : Diagram) → IsLeft t.place d k → IsAtWork t.ahead t.lists t.writer (world after)
        → GoesOn c (saved_of t) t.place.phase (reads_of (world after)) d (turns_left t)
    carried_goes d left work = record {
      contents = k;
      queue_shown = subst (λ v. v) (λ i. TablesShow IsFinalArc final_arc_words final_arc_cmp (sym filled.step_is i)
          (sym filled.tables_are i) (sym (arc_back (queues.last_of t.ahead.queue)) i) (reads_of (world after)) k.queue)
          (record {
            sorter = shows_now IsFinalArc final_arc_words final_arc_cmp t.parts.step (table_at tables 0) (world after)
                k.queue (froze.queue.stands told k was).1;
            reached = holds.queue_is.reached;
          });
      last_is = sym holds.last_is ∙ sym (arc_back (queues.last_of t.ahead.queue));
      inner_has = unhandled Inner t.ahead.inner (inner_of t.ahead.reader)
          (file (world after) (file_of (inner_of t.ahead.reader))).bytes k.inner work.reads_inner holds.inner_is;
      ends_has = unhandled End t.ahead.end (ends_of t.ahead.reader)
          (file (world after) (file_of (ends_of t.ahead.reader))).bytes k.ends work.reads_ends holds.ends_is;
      rows_shown = subst (λ v. v) (λ i. TableShows IsSourceRow source_row_words source_row_cmp (sym filled.step_is i)
          (table_at (sym filled.tables_are i) 3) (reads_of (world after)) k.rows)
          (shows_now IsSourceRow source_row_words source_row_cmp t.parts.step (table_at tables 3) (world after) k.rows
          (froze.rows.stands told k was).1);
      names_shown = subst (λ v. v) (λ i. TableShows IsName name_words name_cmp (sym filled.step_is i)
          (table_at (sym filled.tables_are i) 4) (reads_of (world after)) k.names)
          (shows_now IsName name_words name_cmp t.parts.step (table_at tables 4) (world after) k.names
          (froze.names.stands told k was).1);
      nodes_are = ap (λ (x : File). take (node_size * count_of (nodes.filling_of t.writer)) x.bytes) nodes_firm
          ∙ take_all (node_size * count_of (nodes.filling_of t.writer)) (node_bytes k.nodes)
          (let all = node_count in omega (arith, all));
      nodes_many = holds.nodes_many;
      left = record { is_of = left.is_of; taken = left.taken; remains = left.remains };
      few = (let same_fuel : fuel_at t.place.phase (weight_of c (saved_of t)) ≡ turns_left t =
          ap (fuel_at t.place.phase) weight_is in omega (arith, same_fuel));
    }

    -- and all that it rests on but the arcs is sure
    run_sure : (j : ℕ) → j < 5 → (f : FileNo) (n : ℕ) → IsBeforeEnd t.parts.step (table_at tables j) f n
        → n ≤ (file (world after) f).firm
    run_sure = five (λ j. (f : FileNo) (n : ℕ) → IsBeforeEnd t.parts.step (table_at tables j) f n
        → n ≤ (file (world after) f).firm)
        (λ f n. (let stands = froze.queue.stands told k was in
        sure_front IsFinalArc final_arc_words t.parts.step (table_at tables 0) (world after) f n stands.0 stands.1.runs))
        (λ f n before. absurd (bare_before (table_at tables 1) froze.second f n before))
        (λ f n before. absurd (bare_before (table_at tables 2) froze.third f n before))
        (λ f n. (let stands = froze.rows.stands told k was in
        sure_front IsSourceRow source_row_words t.parts.step (table_at tables 3) (world after) f n stands.0 stands.1.runs))
        (λ f n. (let stands = froze.names.stands told k was in
        sure_front IsName name_words t.parts.step (table_at tables 4) (world after) f n stands.0 stands.1.runs))
      where
        bare_before : (table : RunTable) → runs.IsBareTable table → (f : FileNo) (n : ℕ)
            → ¬ IsBeforeEnd t.parts.step table f n
        bare_before table bare f n (slot, r, within, is, (used, file_is, front)) =
            unused r (sym is ∙ bare.bare slot r within) used

    rest_sure : (f : FileNo) (n : ℕ) → IsRest c (saved_of t) f n
        → IsSure (λ g. g ≡ out_of s) (IsOperand (task_of s)) (world after) f n
    rest_sure f n (inl (inl (is, some))) = inl (subst (IsOperand (task_of s)) (sym is) (inner_operand some))
    rest_sure f n (inl (inr (is, some))) = inl (subst (IsOperand (task_of s)) (sym is) (ends_operand some))
    rest_sure f n (inr (inl (is, few))) =
        let all : (file (world after) f).firm ≡ length (node_bytes k.nodes) =
        ap (λ g. (file (world after) g).firm) is ∙ ap (λ (x : File). x.firm) nodes_firm in
        let many = node_count in
        inr (inl (is ∙ same.out_is), omega (arith, few, all, many))
    rest_sure f n (inr (inr (j, below, before))) =
        let count = filled.count in
        let moved : IsBeforeEnd t.parts.step (table_at tables j) f n =
        subst (λ v. v) (λ i. IsBeforeEnd (filled.step_is i) (table_at (filled.tables_are i) j) f n) before in
        let sure = run_sure j (omega (arith, below, count)) f n moved in
        inr (elim (cases_file f (out_of s)) [ inl is ↦ inl is | inr other ↦ inr other ], sure)

    pub carried_sure : (f : FileNo) (n : ℕ) → RestsOn c f n
        → IsSure (λ g. g ≡ out_of s) (IsOperand (task_of s)) (world after) f n
    carried_sure f n on = rest_sure f n
        (subst (λ (x : Saved). IsRest c x f n) (one_reduction c on.saved (saved_of t) on.holds filled.holds) on.rests)
