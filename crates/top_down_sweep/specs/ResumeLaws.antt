-- The laws of the checkpoints of sweeps from the root down: they stand while what they rest on does, which no sweep
-- writes.
use Rattle.std.specs.Prelude.{◌≡◌, ℕ, ◌+◌, ◌*◌, ◌≤◌, ◌<◌, List, [], ◌∷◌, length, take, drop, get_or}
use Rattle.std.specs.Prelude.{slice_index_or, Option, Some, None}
use Rattle.std.proofs.Common.{refl, sym, ap, subst, ◌∙◌, inl, inr, arith}
use Rattle.std.proofs.lemmas.List.{get_or_default, length-take, take-append-drop, take-take, take_at}
use Rattle.std.proofs.lemmas.List.Elements.{All-get_or}
use Rattle.shelf_model.specs.declared.file_no.FileNo.{FileNo}
use Rattle.block_stream.specs.Records.{records_of}
use Rattle.block_stream.proofs.RecordLaws.{records_append}
use Rattle.arc_file.specs.declared.arc.Arc.{Arc}
use Rattle.arc_file.specs.Files.{BeginWith}
use Rattle.rec_words.specs.declared.node.Node.{Node}
use Rattle.node_file.specs.Nodes.{HasNodes}
use Rattle.run_tiers.specs.declared.run.Run.{Run}
use Rattle.run_tiers.specs.Tables.{IsInUse, IsSlot, no_run}
use Rattle.run_merge.specs.Tables.{IsBeforeEnd}
use Rattle.level_queue.specs.Shown.{shows_stay}
use Rattle.saved_words.specs.declared.carried.Carried.{Ghosts}
use Rattle.sweep_core.specs.declared.checkpoint.Checkpoint.{Checkpoint}
use Rattle.sweep_core.specs.Resting.{same_fronts, read_rests, made_rests}
use Rattle.sweep_core.specs.Saving.{IsMadePart, IsReadPart, IsRestingPlace}
use Rattle.sweep_core.specs.Tables as core
use Rattle.top_down.specs.declared.tuple.Tuple.{Tuple}
use Rattle.top_down.specs.Rules.{Rule}
use Rattle.tuple_asks.specs.declared.ask.Ask.{Ask}
use Rattle.tuple_asks.specs.declared.place.Asking.{Asking}
use Rattle.tuple_asks.specs.declared.saved.SavedMachine.{SavedMachine}
use Rattle.tuple_asks.specs.Items.{ask_words, IsAsk, ask_cmp}
use Rattle.top_down_sweep.specs.Meaning.{Task, IsTaskOver}
use Rattle.top_down_sweep.specs.Resumes.{Holds, queue_tables, HasQueue, Fits}
use Rattle.tuple_asks.specs.Resuming.{saved_files}
use Rattle.tuple_asks.specs.SavedRules.{table_in, KeepsRules}
use Rattle.top_down_sweep.specs.Resumes.{IsRest, RestsOn, Shows, GoesOnAt, GoesOn, StandsFor}
use Rattle.top_down_sweep.specs.Resumes.{OnOperand, OnInner, OnEnds, OnRun}
use Rattle.tuple_asks.specs.Saved.{machine_spelling}
use Rattle.tuple_asks.specs.Operands.{IsRead}
use Rattle.top_down_sweep.specs.Turns.{Work}

-- bytes that begin with arcs do where they are the same up to the arcs' end
pub begin_still : (xs : List Arc) (count : ℕ) (old new : List ℕ) → take (count * 16) new ≡ take (count * 16) old
    → BeginWith xs count old → BeginWith xs count new
begin_still xs count old new same begin =
    let many : length xs ≡ count = begin.count_is in
    let n = count * 16 in
    let whole = begin.items.whole in
    let all : length xs * (8 * 2) ≤ length old = omega (arith, whole) in
    let front = length-take n old in
    let other = length-take n new in
    let long : length (take n new) ≡ length (take n old) = ap length same in
    let short : length xs * (8 * 2) ≤ length (take n new) = omega (arith, many, all, front, long) in
    let before : length xs * (8 * 2) ≤ length (take n old) = omega (arith, many, all, front) in
    record {
      items = record {
        values = begin.items.values;
        whole = omega (arith, many, all, front, long, other);
        same = begin.items.same
            ∙ ap (records_of 2 (length xs)) (sym (take-append-drop n old))
            ∙ records_append 2 (length xs) (take n old) (drop n old) before
            ∙ ap (records_of 2 (length xs)) (sym same)
            ∙ sym (records_append 2 (length xs) (take n new) (drop n new) short)
            ∙ ap (records_of 2 (length xs)) (take-append-drop n new);
      };
      count_is = begin.count_is;
    }

-- with the same bytes where it rests, a sweep goes on in the same way
module _ (rule : Rule) (begins : Tuple → Tuple) (c : Checkpoint) (m : SavedMachine) (old new : FileNo → List ℕ)
    (same : (f : FileNo) (n : ℕ) → IsRest c m f n → take n (new f) ≡ take n (old f)) where
  operand_still : (f : FileNo) → IsRead (saved_files m) f → new f ≡ old f
  operand_still f read = same_fronts (new f) (old f) (λ n. same f n (OnOperand read))

  nodes_still : (n root : ℕ) (f : FileNo) → IsRead (saved_files m) f → (nodes : List Node) → HasNodes n root nodes (old f)
      → HasNodes n root nodes (new f)
  nodes_still n root f read nodes = subst (HasNodes n root nodes) (sym (operand_still f read))

  task_still : (t : Task) → IsTaskOver t rule begins m.variables (saved_files m) c.step old
      → IsTaskOver t rule begins m.variables (saved_files m) c.step new
  task_still t is = record {
    variables_are = is.variables_are;
    rule_is = is.rule_is;
    roots = is.roots;
    begins_are = is.begins_are;
    nodes_are = record {
      first = nodes_still m.variables is.roots.first m.first.file (inl refl) t.diagrams.first is.nodes_are.first;
      second = nodes_still m.variables is.roots.second m.second.file (inr (inl refl)) t.diagrams.second
          is.nodes_are.second;
      third = nodes_still m.variables is.roots.third m.third.file (inr (inr refl)) t.diagrams.third
          is.nodes_are.third;
    };
    apart = is.apart;
  }

  pub shows_still : (asks : List Ask) (inner ends : List Arc) → Shows c m old asks inner ends
      → Shows c m new asks inner ends
  shows_still asks inner ends shows = record {
    asks_are = shows_stay IsAsk ask_words ask_cmp c.step (queue_tables c) m.taken old new asks
        (λ f n before. same f n (OnRun before)) shows.asks_are;
    inner_are = begin_still inner m.arcs.inner_count (old m.arcs.inner) (new m.arcs.inner)
        (same m.arcs.inner (m.arcs.inner_count * 16) (OnInner refl (omega arith))) shows.inner_are;
    ends_are = begin_still ends m.arcs.ends_count (old m.arcs.ends) (new m.arcs.ends)
        (same m.arcs.ends (m.arcs.ends_count * 16) (OnEnds refl (omega arith))) shows.ends_are;
    one_is = shows.one_is;
  }

  goes_still_at : (a : Option Asking) (t : Task) (tuples turns : ℕ)
      → GoesOnAt a t c m old tuples turns → GoesOnAt a t c m new tuples turns
  goes_still_at None t tuples turns at = record {
    shows = shows_still [] [] [] at.shows;
    first_unread = at.first_unread;
    second_unread = at.second_unread;
    third_unread = at.third_unread;
    few = at.few;
  }
  goes_still_at (Some s) t tuples turns at = record {
    asks = at.asks;
    inner = at.inner;
    ends = at.ends;
    shows = shows_still at.asks at.inner at.ends at.shows;
    left = at.left;
    few = at.few;
  }

  pub goes_still : (t : Task) (tuples turns : ℕ) → GoesOn rule begins c m old t tuples turns
      → GoesOn rule begins c m new t tuples turns
  goes_still t tuples turns goes = record {
    on_files = task_still t goes.on_files;
    among = goes.among;
    goes_on = goes_still_at m.asking t tuples turns goes.goes_on;
  }

pub stays : {O : Type 0} (o : Ghosts O) (rule : O → Rule) (begins : O → Tuple → Tuple) (c : Checkpoint)
    (text : List ℕ) (old new : FileNo → List ℕ) (w : Work) (turns : ℕ) → Fits o c
    → ((f : FileNo) (n : ℕ) → RestsOn o c f n → take n (new f) ≡ take n (old f))
    → StandsFor o rule begins c old w.task (length w.tuples) turns
    → StandsFor o rule begins c new w.task (length w.tuples) turns
stays o rule begins c text old new w turns fits same stands = record {
  saved = stands.saved;
  operation = stands.operation;
  holds = stands.holds;
  goes_on = goes_still (rule stands.operation) (begins stands.operation) c stands.saved old new
      (λ f n rests. same f n (record {
        saved = stands.saved;
        operation = stands.operation;
        holds = stands.holds;
        rests = rests;
      })) w.task (length w.tuples) turns stands.goes_on;
}

-- the first words are those of one machine
pub one_machine : {O : Type 0} (o : Ghosts O) (c : Checkpoint) (x y : SavedMachine) (a b : O) → Holds o c x a
    → Holds o c y b → x ≡ y
one_machine {O} o c x y a b first second =
    let words : (z : SavedMachine) (d : O) → Holds o c z d
    → machine_spelling.words z ≡ take machine_spelling.count c.carry = λ z d holds.
    sym (take_at (machine_spelling.words z) (o.words d) machine_spelling.count
    (machine_spelling.long z holds.value.0))
    ∙ ap (take machine_spelling.count) holds.words_are
    ∙ take-take machine_spelling.count (machine_spelling.count + o.count) c.carry (omega arith) in
    machine_spelling.differ x y first.value.0 second.value.0 (words x a first ∙ sym (words y b second))

-- a run of the queue has a part that was taken, and the checkpoint names it
record IsNamedRun (c : Checkpoint) (f : FileNo) : Type 0 where
  step_is : f.step ≡ c.step
  from : 3 ≤ f.part
  below : f.part < c.next_part
  named : core.Names c f.part

-- the first of the tables that are in use
pub first_names : (tables : List (List Run)) (count part : ℕ) → count ≡ 3 → core.NamedAmong part (slice_index_or tables 0 [])
    → core.NamedIn part (take count tables)
first_names [] count part is (k, r, within, at, same) = absurd (omega (arith, within))
first_names (runs ∷ tables) count part is named =
    subst (λ n. core.NamedIn part (take n (runs ∷ tables))) (sym is) (0, runs, omega arith, refl, named)

run_named : (c : Checkpoint) (f : FileNo) (n : ℕ) → HasQueue c → IsBeforeEnd c.step (table_in c 0) f n → IsNamedRun c f
run_named c f n queue (k, r, within, is, (used, file_is, upto)) =
    let runs = (table_in c 0).runs in
    let at : get_or runs k no_run ≡ r = get_or_default runs k no_run r within ∙ is in
    let used_at : IsInUse (get_or runs k no_run) = subst IsInUse (sym at) used in
    let part : f.part ≡ (get_or runs k no_run).part = ap (λ (g : FileNo). g.part) file_is ∙ ap (λ (q : Run). q.part) (sym at) in
    let past = (All-get_or (λ (q : Run). IsInUse q → IsSlot q) runs k no_run within queue.are.first.slots used_at).past_made in
    let below = All-get_or (λ (q : Run). IsInUse q → q.part < c.next_part) runs k no_run within queue.served.runs_made
    used_at in
    record {
      step_is = ap (λ (g : FileNo). g.step) file_is;
      from = omega (arith, part, past);
      below = omega (arith, part, below);
      named = first_names c.runs c.tables f.part queue.tables (k, r, within, is, sym (ap (λ (g : FileNo). g.part) file_is));
    }

named_rests : (c : Checkpoint) (f : FileNo) → IsNamedRun c f → IsRestingPlace c f
named_rests c f run =
    let from : 3 ≤ f.part = run.from in
    let below : f.part < c.next_part = run.below in
    record {
      taken = λ can. let past : c.next_part ≤ f.part = can.from in omega (arith, past, below);
      no_points = λ same. let is = ap (λ (g : FileNo). g.part) same in omega (arith, from, is);
      no_gate = λ same. let is = ap (λ (g : FileNo). g.part) same in omega (arith, from, is);
      named = λ step past. run.named;
    }

rests_apart : (c : Checkpoint) (m : SavedMachine) (f : FileNo) (n : ℕ) → HasQueue c → KeepsRules c m → IsRest c m f n
    → IsRestingPlace c f
rests_apart c m f n queue rules (OnOperand (inl is)) =
    read_rests c f rules.arcs.parts (subst (IsReadPart c.step c.next_part) (sym is) rules.first.other)
rests_apart c m f n queue rules (OnOperand (inr (inl is))) =
    read_rests c f rules.arcs.parts (subst (IsReadPart c.step c.next_part) (sym is) rules.second.other)
rests_apart c m f n queue rules (OnOperand (inr (inr is))) =
    read_rests c f rules.arcs.parts (subst (IsReadPart c.step c.next_part) (sym is) rules.third.other)
rests_apart c m f n queue rules (OnInner is upto) =
    made_rests c f rules.arcs.parts (subst (IsMadePart c.step c.next_part) (sym is) rules.arcs.inner_made)
rests_apart c m f n queue rules (OnEnds is upto) =
    made_rests c f rules.arcs.parts (subst (IsMadePart c.step c.next_part) (sym is) rules.arcs.ends_made)
rests_apart c m f n queue rules (OnRun before) = named_rests c f (run_named c f n queue before)

pub apart : {O : Type 0} (o : Ghosts O) (c : Checkpoint) (text : List ℕ) (f : FileNo) (n : ℕ) → Fits o c
    → RestsOn o c f n → IsRestingPlace c f
apart o c text f n fits on = rests_apart c on.saved f n fits.queue
    (subst (KeepsRules c) (one_machine o c fits.saved on.saved fits.operation on.operation fits.holds on.holds) fits.rules)
    on.rests
