-- A machine that is rebuilt: what stays of the files, and what remains of its task.
use Rattle.std.proofs.Common.{◌≡◌, ◌∙◌, ℕ, ◌+◌, ◌*◌, ◌<◌, ◌≤◌, List, [], length, take, refl, sym, ap, subst, inl, inr}
use Rattle.std.proofs.Common.{arith}
use Rattle.std.specs.Prelude.{Option, Some, None, map, get_or, IfSome}
use Rattle.std.proofs.lemmas.List.{length-map, get_or-map, get_or_default}
use Rattle.shelf_model.specs.declared.file_no.FileNo.{FileNo}
use Rattle.shelf_model.specs.declared.fault.StreamFault.{StreamFault}
use Rattle.shelf_model.specs.declared.fault.StreamFault.TheVariants as stream
use Rattle.shelf_model.specs.File.{File, IsKept}
use Rattle.shelf_model.specs.SortFaults.{handed_on}
use Rattle.shelf_model.specs.Folder.{file_in}
use Rattle.shelf_model.specs.Moments.{Ran, Stays}
use Rattle.shelf_model.specs.World.{Moment, World, now, file}
use Rattle.shelf_model.proofs.Runs.{ran_end}
use Rattle.arc_file.specs.declared.arc.Arc.{Arc}
use Rattle.arc_file.specs.Arcs.{arc_size}
use Rattle.arc_file.specs.Files.{BeginWith}
use Rattle.arc_file.specs.Pairs.{DuringCuts, CutBoth}
use Rattle.arc_file.specs.declared.unreduced.Unreduced.{Unreduced}
use Rattle.arc_file.specs.declared.writer.ArcWriter.{ArcWriter}
use Rattle.arc_file.specs.Writers.{inner_count, ends_count, HoldsArcs, IsShortOfEither}
use Rattle.block_stream.specs.Reads.{IsShort}
use Rattle.level_queue.specs.Queues as queues
use Rattle.level_queue.specs.Shown.{shown_lists}
use Rattle.level_queue.specs.Tables.{NamesAny, IsBeforeAnyEnd, TablesList}
use Rattle.run_files.specs.declared.head.Head.{Head}
use Rattle.run_files.specs.Heads.{IsUsed, head_at, no_head}
use Rattle.run_tiers.specs.declared.run.RunTable.{RunTable}
use Rattle.run_tiers.specs.Tables.{IsInUse, no_run, head_of, Names}
use Rattle.run_tiers.proofs.TableLaws.{head_used, use_of}
use Rattle.level_queue.proofs.QueueLaws.{queue_counted}
use Rattle.saved_words.specs.declared.carried.Carried.{Ghosts}
use Rattle.sweep_core.specs.declared.checkpoint.Checkpoint.{Checkpoint}
use Rattle.sweep_core.specs.Carries.{OnlyCutBehind}
use Rattle.sweep_core.specs.Saving.{IsMadePart, reads_of}
use Rattle.sweep_core.specs.Sweeps.{IsNoDamage}
use Rattle.top_down.specs.declared.tuple.Tuple.{Tuple}
use Rattle.top_down.specs.Rules.{Rule}
use Rattle.top_down_laws.specs.Laws.{unread_all}
use Rattle.top_down_laws.specs.Readings.{Diagrams}
use Rattle.tuple_asks.specs.declared.ask.Ask.{Ask}
use Rattle.top_down_sweep.specs.declared.machine.Machine.{Machine}
use Rattle.tuple_asks.specs.declared.place.Asking.{Asking}
use Rattle.tuple_asks.specs.declared.place.Numbered.{Numbered}
use Rattle.tuple_asks.specs.declared.place.Place.{Place}
use Rattle.tuple_asks.specs.declared.place.Phase.{Phase}
use Rattle.tuple_asks.specs.declared.saved.SavedMachine.{SavedMachine}
use Rattle.tuple_asks.specs.declared.saved.SavedArcs.{SavedArcs}
use Rattle.tuple_asks.specs.declared.files.Files.{Files}
use Rattle.tuple_asks.specs.Items.{ask_words, IsAsk, ask_cmp}
use Rattle.top_down_sweep.specs.Meaning.{Task, Contents, StandsFor, IsLeft, first_contents, RemainsIn}
use Rattle.tuple_asks.specs.Readings.{AreRead}
use Rattle.tuple_asks.specs.Readings.{HaveNodes}
use Rattle.top_down_sweep.specs.Meaning.{IsTaskOn, IsTaskOver}
use Rattle.tuple_asks.specs.Resuming.{saved_place, phase_at, AreReadAs}
use Rattle.top_down_sweep.specs.Rebuilds.{Restores}
use Rattle.top_down_sweep.specs.ResumeLaws.{shows_still, goes_still, one_machine}
use Rattle.top_down_sweep.specs.Resumes.{Holds, queue_tables, parts_at, IsRest}
use Rattle.tuple_asks.specs.Resuming.{saved_files}
use Rattle.tuple_asks.specs.SavedRules.{table_in, KeepsRules}
use Rattle.top_down_sweep.specs.Resumes.{RestsOn, OnOperand, OnInner, OnEnds, OnRun}
use Rattle.tuple_asks.specs.Resuming.{reading_at, readings_at}
use Rattle.tuple_asks.specs.Resuming.{AreAmong}
use Rattle.top_down_sweep.specs.Resumes.{Shows, saved_sides, GoesOnAt, GoesOn}
use Rattle.tuple_asks.specs.SavedRules.{IsSavedPhase, IsOfRuns}
use Rattle.tuple_asks.specs.Resuming.{arcs_of, IsArcsFault}
use Rattle.top_down_sweep.specs.Sweeps.{files_in, IsMade, IsPhaseAt}
use Rattle.tuple_asks.specs.Operands.{AreOperands, IsRead}
use Rattle.top_down_sweep.specs.Turns.{left_at, sides_at}
use Rattle.top_down_sweep.specs.Waiting.{Waits}
use Rattle.top_down_sweep.proofs.Holding.{SameApart}
use Rattle.tuple_asks.proofs.Staying.{looked_same}
use Rattle.top_down_sweep.proofs.StandingOn.{all_still}
use Rattle.tuple_asks.proofs.StartLeaves.{cut_since, others_uncut}
use Rattle.top_down_sweep.proofs.TurnNumbers.{unread_is, owed_is}
use Rattle.tuple_asks.proofs.Staying.{reads_stay}

-- a file that a table names is that of a run of which records are left
pub named_run : (step : ℕ) (table : RunTable) (f : FileNo) → Names step table f → IsOfRuns step table.runs f
named_run step table f (k, within, used, is) =
    let runs = table.runs in
    let long = length-map runs (head_of step) in
    let below : k < length runs = omega (arith, within, long) in
    let r = get_or runs k no_run in
    let here : head_at (map (head_of step) runs) k ≡ head_of step r = get_or-map (head_of step) runs k no_run no_head below in
    let in_use : IsInUse r = use_of step r (subst IsUsed here used) in
    let file : (head_of step r).file ≡ record { step = step; part = r.part } =
    ap (λ (h : Head). h.file) (head_used step r in_use) in (
      k,
      r,
      below,
      get_or_default runs k r no_run below,
      (in_use, is ∙ ap (λ (h : Head). h.file) here ∙ file),
    )

-- what a sweep rests on stays where its files of arcs are cut behind their arcs
module _ (c : Checkpoint) (x : SavedMachine) (rules : KeepsRules c x) (old m : Moment)
    (cut : DuringCuts x.arcs.inner (x.arcs.inner_count * arc_size) x.arcs.ends (x.arcs.ends_count * arc_size) old m) where
  operand_same : (f : FileNo) → IsRead (saved_files x) f → file_in m.folder f ≡ file_in old.folder f
  operand_same f (inl is) = cut.others f (λ same. rules.first.not_inner (sym is ∙ same))
      (λ same. rules.first.not_ends (sym is ∙ same))
  operand_same f (inr (inl is)) = cut.others f (λ same. rules.second.not_inner (sym is ∙ same))
      (λ same. rules.second.not_ends (sym is ∙ same))
  operand_same f (inr (inr is)) = cut.others f (λ same. rules.third.not_inner (sym is ∙ same))
      (λ same. rules.third.not_ends (sym is ∙ same))

  run_same : (f : FileNo) (n : ℕ) → IsBeforeAnyEnd c.step (queue_tables c) f n
      → file_in m.folder f ≡ file_in old.folder f
  run_same f n (k, r, within, at, (used, file_is, upto)) = cut.others f
      (λ is. rules.no_runs.inner (k, r, within, at, (used, sym is ∙ file_is)))
      (λ is. rules.no_runs.ends (k, r, within, at, (used, sym is ∙ file_is)))

  pub rest_reads : (f : FileNo) (n : ℕ) → IsRest c x f n
      → take n (file_in m.folder f).bytes ≡ take n (file_in old.folder f).bytes
  rest_reads f n (OnOperand read) = ap (λ (y : File). take n y.bytes) (operand_same f read)
  rest_reads f n (OnInner is upto) =
      subst (λ q. take n (file_in m.folder q).bytes ≡ take n (file_in old.folder q).bytes) (sym is)
      (cut.first_reads n upto)
  rest_reads f n (OnEnds is upto) =
      subst (λ q. take n (file_in m.folder q).bytes ≡ take n (file_in old.folder q).bytes) (sym is)
      (cut.second_reads n upto)
  rest_reads f n (OnRun before) = ap (λ (y : File). take n y.bytes) (run_same f n before)

  rest_kept : (f : FileNo) (front : List ℕ) → IsRest c x f (length front) → IsKept front (file_in old.folder f)
      → IsKept front (file_in m.folder f)
  rest_kept f front (OnOperand read) = subst (IsKept front) (sym (operand_same f read))
  rest_kept f front (OnInner is upto) =
      subst (λ q. IsKept front (file_in old.folder q) → IsKept front (file_in m.folder q)) (sym is)
      (cut.first_kept front upto)
  rest_kept f front (OnEnds is upto) =
      subst (λ q. IsKept front (file_in old.folder q) → IsKept front (file_in m.folder q)) (sym is)
      (cut.second_kept front upto)
  rest_kept f front (OnRun before) = subst (IsKept front) (sym (run_same f (length front) before))

  -- more bytes than it rests on of either file of arcs
  beyond : ℕ
  beyond = x.arcs.inner_count * arc_size + x.arcs.ends_count * arc_size + 1

  whole_same : (f : FileNo) → IsRest c x f beyond → file_in m.folder f ≡ file_in old.folder f
  unfolding beyond
  whole_same f (OnOperand read) = operand_same f read
  whole_same f (OnInner is upto) = absurd (omega (arith, upto))
  whole_same f (OnEnds is upto) = absurd (omega (arith, upto))
  whole_same f (OnRun before) = run_same f beyond before

  pub cut_rests : {O : Type 0} (o : Ghosts O) (operation : O) → Holds o c x operation
      → OnlyCutBehind c (RestsOn o c) old m
  cut_rests o operation holds = record {
    unmade = λ f free. cut.others f
        (λ is. free (subst (IsMadePart c.step c.next_part) (sym is) rules.arcs.inner_made))
        (λ is. free (subst (IsMadePart c.step c.next_part) (sym is) rules.arcs.ends_made));
    others = λ f free. cut.others f (λ is. free (record {
      saved = x;
      operation = operation;
      holds = holds;
      rests = OnInner is (omega arith);
    })) (λ is. free (record {
      saved = x;
      operation = operation;
      holds = holds;
      rests = OnEnds is (omega arith);
    }));
    whole = λ f all.
        let on = all beyond in
        whole_same f (subst (λ (y : SavedMachine). IsRest c y f beyond)
        (one_machine o c on.saved x on.operation operation on.holds holds) on.rests);
    reads = λ f n on. rest_reads f n (subst (λ (y : SavedMachine). IsRest c y f n)
        (one_machine o c on.saved x on.operation operation on.holds holds) on.rests);
    kept = λ f n on front long. rest_kept f front (subst (IsRest c x f) (sym long)
        (subst (λ (y : SavedMachine). IsRest c y f n)
        (one_machine o c on.saved x on.operation operation on.holds holds) on.rests));
  }

-- a machine that was rebuilt: the operands were read on, the files of arcs were cut, and the queue was thawed
pub record IsRebuilt (c : Checkpoint) (x : SavedMachine) (old mid new : World) (m : Machine) : Type 0 where
  pub looked : Ran (Stays (now old)) old mid
  pub cut : CutBoth 4 x.arcs.inner (x.arcs.inner_count * arc_size) x.arcs.ends (x.arcs.ends_count * arc_size) mid new
  pub place_is : m.place ≡ saved_place x
  pub parts_are : m.parts ≡ parts_at c
  pub files_are : files_in m ≡ saved_files x
  pub operands : AreOperands x.variables m.operands
  pub nodes : (roots : Tuple) (d : Diagrams) → HaveNodes (saved_files x) (reads_of old) x.variables roots d
      → AreAmong d x → AreReadAs m.operands mid roots (readings_at d x)
  pub inner_many : inner_count m.writer ≡ x.arcs.inner_count
  pub ends_many : ends_count m.writer ≡ x.arcs.ends_count
  pub arcs : (xs ys : List Arc) → BeginWith xs x.arcs.inner_count (file mid x.arcs.inner).bytes
      → BeginWith ys x.arcs.ends_count (file mid x.arcs.ends).bytes → HoldsArcs m.writer new xs ys
  pub lists : (xs : List Ask) → TablesList IsAsk ask_words ask_cmp c.step (queue_tables c) x.taken new xs
      → Waits m.queue new xs
  pub last_is : queues.last_of m.queue ≡ x.taken
  pub runs : (f : FileNo) → queues.IsRunOf m.queue f → NamesAny c.step (queue_tables c) f

module _ (c : Checkpoint) (x : SavedMachine) (rules : KeepsRules c x) (old mid new : World) (m : Machine)
    (is : IsRebuilt c x old mid new m) (t : Task) (rule : Rule) (begins : Tuple → Tuple) (tuples turns : ℕ)
    (goes : GoesOn rule begins c x (reads_of old) t tuples turns) where
  during : DuringCuts x.arcs.inner (x.arcs.inner_count * arc_size) x.arcs.ends (x.arcs.ends_count * arc_size) (now old)
      (now new)
  during = cut_since x.arcs.inner x.arcs.ends (x.arcs.inner_count * arc_size) (x.arcs.ends_count * arc_size) (now old)
      (now mid) (now new) (ran_end old mid (Stays (now old)) is.looked)
      (ran_end mid new (DuringCuts x.arcs.inner (x.arcs.inner_count * arc_size) x.arcs.ends
      (x.arcs.ends_count * arc_size) (now mid)) is.cut.run)

  shown_new : (asks : List Ask) (inner ends : List Arc) → Shows c x (reads_of old) asks inner ends
      → Shows c x (reads_of new) asks inner ends
  shown_new asks inner ends shows = shows_still rule begins c x (reads_of old) (reads_of new)
      (λ f n rests. rest_reads c x rules (now old) (now new) during f n rests) asks inner ends shows

  goes_new : GoesOn rule begins c x (reads_of new) t tuples turns
  goes_new = goes_still rule begins c x (reads_of old) (reads_of new)
      (λ f n rests. rest_reads c x rules (now old) (now new) during f n rests) t tuples turns goes

  on_files : IsTaskOn t rule begins m.place.variables (files_in m) m.parts.step new
  on_files =
      let place : saved_place x ≡ m.place = sym is.place_is in
      let parts : parts_at c ≡ m.parts = sym is.parts_are in
      let files : saved_files x ≡ files_in m = sym is.files_are in
      subst (λ v. v) (λ i. IsTaskOver t rule begins (place i).variables (files i) (parts i).step (reads_of new))
      goes_new.on_files

  same_apart : SameApart (files_in m) m.parts.step mid new
  same_apart f apart = others_uncut 4 x.arcs.inner x.arcs.ends f mid new is.cut
      (λ it. apart.not_inner (it ∙ sym (ap (λ (fs : Files). fs.inner) is.files_are)))
      (λ it. apart.not_ends (it ∙ sym (ap (λ (fs : Files). fs.ends) is.files_are)))

  read_mid : AreReadAs m.operands mid goes.on_files.roots (readings_at t.diagrams x)
  read_mid = is.nodes goes.on_files.roots t.diagrams goes.on_files.nodes_are goes.among

  read_new : AreRead m.operands new (readings_at t.diagrams x)
  read_new = all_still m mid new (readings_at t.diagrams x)
      (subst (λ n. AreOperands n m.operands) (sym (ap (λ (p : Place). p.variables) is.place_is)) is.operands)
      same_apart on_files.apart read_mid.read

  abbrev contents : List Ask → List Arc → List Arc → Contents
  contents asks inner ends = record { asks = asks; readings = readings_at t.diagrams x; inner = inner; ends = ends }

  no_run_named : (f : FileNo) → IsMade (files_in m) f → ¬ NamesAny c.step (queue_tables c) f
  no_run_named f (inl it) named = rules.no_runs.inner (named_run c.step (table_in c 0) x.arcs.inner
      (subst (NamesAny c.step (queue_tables c)) (it ∙ ap (λ (fs : Files). fs.inner) is.files_are) named))
  no_run_named f (inr it) named = rules.no_runs.ends (named_run c.step (table_in c 0) x.arcs.ends
      (subst (NamesAny c.step (queue_tables c)) (it ∙ ap (λ (fs : Files). fs.ends) is.files_are) named))

  stands_for : (asks : List Ask) (inner ends : List Arc) → Shows c x (reads_of old) asks inner ends
      → StandsFor m new (contents asks inner ends)
  stands_for asks inner ends before = record {
    asks_are = is.lists asks (shown_lists IsAsk ask_words ask_cmp c.step (queue_tables c) x.taken new asks
        (shown_new asks inner ends before).asks_are);
    read = read_new;
    written = is.arcs inner ends
        (subst (BeginWith inner x.arcs.inner_count) (sym (looked_same old mid is.looked x.arcs.inner)) before.inner_are)
        (subst (BeginWith ends x.arcs.ends_count) (sym (looked_same old mid is.looked x.arcs.ends)) before.ends_are);
    one_is = ap (λ (p : Place). p.has_one) is.place_is ∙ before.one_is;
    no_run = λ f made run. no_run_named f made (is.runs f run);
    apart = on_files.apart;
  }

  -- how many sides have an arc or an ask
  sides_same : (last : Option Numbered) (k : Contents) → StandsFor m new k
      → sides_at last m ≡ saved_sides last x.arcs k.asks
  sides_same None k stands = refl
  sides_same (Some y) k stands =
      let inner = is.inner_many in
      let ends = is.ends_many in
      let held = queue_counted IsAsk ask_words ask_cmp m.queue new k.asks stands.asks_are in
      omega (arith, inner, ends, held)

  record RestoresAt (p : Phase) : Type 0 where
    left : RemainsIn t begins p m new
    few : left_at p m new tuples ≤ turns

  restores_at : (a : Option Asking) → GoesOnAt a t c x (reads_of old) tuples turns
      → RestoresAt (phase_at a)
  restores_at None at =
      let stands = stands_for [] [] [] at.shows in
      let unread : readings_at t.diagrams x ≡ unread_all t.diagrams = λ i. record {
        first = reading_at t.diagrams.first (at.first_unread i);
        second = reading_at t.diagrams.second (at.second_unread i);
        third = reading_at t.diagrams.third (at.third_unread i);
      } in
      let first : contents [] [] [] ≡ first_contents t = λ i. record {
        asks = [];
        readings = unread i;
        inner = [];
        ends = [];
      } in
      let few = at.few in
      let many = unread_is m new (contents [] [] []) stands in
      record {
        left = record {
          roots_are = ap begins read_mid.roots_are ∙ goes.on_files.begins_are;
          stands = subst (StandsFor m new) first stands;
        };
        few = omega (arith, few, many);
      }
  restores_at (Some s) at =
      let k = contents at.asks at.inner at.ends in
      let stands = stands_for at.asks at.inner at.ends at.shows in
      let few = at.few in
      let owed = owed_is m new k stands in
      let sides = sides_same s.last k stands in
      record {
        left = record {
          contents = k;
          stands = stands;
          left = subst (λ last. IsLeft t s last k) (sym is.last_is) at.left;
        };
        few = omega (arith, few, owed, sides);
      }

  pub restores : Restores t rule begins m new tuples turns
  restores =
      let at = restores_at x.asking goes.goes_on in
      let phase : phase_at x.asking ≡ m.place.phase = sym (ap (λ (p : Place). p.phase) is.place_is) in
      record {
        on_files = on_files;
        left = subst (λ (p : Phase). RemainsIn t begins p m new) phase at.left;
        few = subst (λ (p : Phase). left_at p m new tuples ≤ turns) phase at.few;
      }

-- where the machine stands is as the rules have it
pub phase_kept : (w : ArcWriter) (last taken : Option Ask) (a : SavedArcs) (asking : Option Asking) → last ≡ taken
    → inner_count w ≡ a.inner_count → IsSavedPhase a taken asking → IsPhaseAt w last (phase_at asking)
phase_kept w last taken a None same many rule = same ∙ rule
phase_kept w last taken a (Some s) same many rule = below s.last rule
  where
    below : (o : Option Numbered) → IfSome o (λ y. y.number ≤ a.inner_count) → IfSome o (λ y. y.number ≤ inner_count w)
    below None rule = tt
    below (Some y) rule = omega (arith, rule, many)

-- the files of arcs are as long as they were, where arcs stand there
record HasBegun (a : SavedArcs) (r : FileNo → List ℕ) : Type 0 where
  inner : List Arc
  ends : List Arc
  inner_are : BeginWith inner a.inner_count (r a.inner)
  ends_are : BeginWith ends a.ends_count (r a.ends)

begun_at : (a : Option Asking) (t : Task) (c : Checkpoint) (x : SavedMachine) (r : FileNo → List ℕ) (tuples turns : ℕ)
    → GoesOnAt a t c x r tuples turns → HasBegun x.arcs r
begun_at None t c x r tuples turns at = record {
  inner = [];
  ends = [];
  inner_are = at.shows.inner_are;
  ends_are = at.shows.ends_are;
}
begun_at (Some s) t c x r tuples turns at = record {
  inner = at.inner;
  ends = at.ends;
  inner_are = at.shows.inner_are;
  ends_are = at.shows.ends_are;
}

long_enough : (xs : List Arc) (count : ℕ) (bytes : List ℕ) → BeginWith xs count bytes → count * 16 ≤ length bytes
long_enough xs count bytes begin =
    let whole = begin.items.whole in
    let many : length xs ≡ count = begin.count_is in
    omega (arith, whole, many)

short_none : (a : SavedArcs) (world : World) (e : StreamFault) → HasBegun a (reads_of world)
    → IsShortOfEither (arcs_of a) world e → IsNoDamage (handed_on e)
short_none a world stream.Shelf begun short = tt
short_none a world (stream.Damaged f at) begun (inl (is, short)) =
    let few : length (file world a.inner).bytes < a.inner_count * 16 = short.0 in
    let long = long_enough begun.inner a.inner_count (reads_of world a.inner) begun.inner_are in
    absurd (omega (arith, few, long))
short_none a world (stream.Damaged f at) begun (inr (is, short)) =
    let few : length (file world a.ends).bytes < a.ends_count * 16 = short.0 in
    let long = long_enough begun.ends a.ends_count (reads_of world a.ends) begun.ends_are in
    absurd (omega (arith, few, long))

pub arcs_sound : (a : SavedArcs) (made : Unreduced) (old mid : World) (e : StreamFault)
    (asking : Option Asking) (t : Task) (c : Checkpoint) (x : SavedMachine) (tuples turns : ℕ) → x.arcs ≡ a
    → made ≡ arcs_of a → Ran (Stays (now old)) old mid → GoesOnAt asking t c x (reads_of old) tuples turns
    → IsShortOfEither made mid e → IsNoDamage (handed_on e)
arcs_sound a made old mid e asking t c x tuples turns same is ran goes short =
    short_none a mid e (subst (HasBegun a) (sym (reads_stay old mid ran))
    (subst (λ (b : SavedArcs). HasBegun b (reads_of old)) same (begun_at asking t c x (reads_of old) tuples turns goes)))
    (subst (λ (u : Unreduced). IsShortOfEither u mid e) is short)

-- one that is shorter was so before
pub arcs_fault : (a : SavedArcs) (made : Unreduced) (old mid : World) (e : StreamFault) → made ≡ arcs_of a
    → Ran (Stays (now old)) old mid → IsShortOfEither made mid e → IsArcsFault a old (handed_on e)
arcs_fault a made old mid stream.Shelf is ran short = tt
arcs_fault a made old mid (stream.Damaged f at) is ran short = elim (subst (λ (u : Unreduced). IsShortOfEither u mid
    (stream.Damaged f at)) is short) [
      | inl (here, short) ↦ inl (
        here,
        subst (λ bytes. IsShort 2 a.inner_count bytes (stream.Damaged f at))
            (looked_same old mid ran a.inner) short,
      )
      | inr (here, short) ↦ inr (
        here,
        subst (λ bytes. IsShort 2 a.ends_count bytes (stream.Damaged f at))
            (looked_same old mid ran a.ends) short,
      )
    ]
