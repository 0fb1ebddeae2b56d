-- A sweep that was made ready to be saved, and its checkpoint.
use Rattle.std.proofs.Common.{◌≡◌, ◌∙◌, ℕ, ◌+◌, ◌≤◌, ◌<◌, Bool, List, length, map, refl, sym, ap, subst, inl, inr, arith}
use Rattle.std.specs.Prelude.{Result, IsTrue}
use Rattle.shelf_model.specs.declared.file_no.FileNo.{FileNo}
use Rattle.shelf_model.specs.declared.sort_fault.SortFault.{SortFault}
use Rattle.shelf_model.specs.Faults.{Faults}
use Rattle.shelf_model.specs.World.{World, file}
use Rattle.arc_file.specs.declared.unreduced.Unreduced.{Unreduced}
use Rattle.run_tiers.specs.declared.parts.Parts.{Parts}
use Rattle.run_tiers.specs.declared.run.RunTable.{RunTable}
use Rattle.level_queue.specs.Queues as queues
use Rattle.level_queue.specs.Tables.{ServeTables, table_at}
use Rattle.saved_words.specs.declared.carried.Carried.{Ghosts}
use Rattle.saved_words.specs.Fronts.{IsFront}
use Rattle.saved_words.specs.Joined.{pair_words, IsPair}
use Rattle.sweep_core.specs.declared.checkpoint.Checkpoint.{Checkpoint}
use Rattle.sweep_core.specs.Carries.{IsUsed, IsStill}
use Rattle.sweep_core.specs.Saving.{IsOfStep, IsFilled, IsSure, reads_of}
use Rattle.sweep_core.specs.Tables as core
use Rattle.top_down.specs.declared.tuple.Tuple.{Tuple}
use Rattle.top_down.specs.Rules.{Rule}
use Rattle.top_down_sweep.specs.declared.machine.Machine.{Machine}
use Rattle.tuple_asks.specs.declared.saved.SavedMachine.{SavedMachine}
use Rattle.tuple_asks.specs.declared.files.Files.{Files}
use Rattle.top_down_sweep.specs.declared.sweep.TopDownSweep.{TopDownSweep}
use Rattle.top_down_sweep.specs.Calls.{SameTask, IsInStep, IsTrusted}
use Rattle.top_down_sweep.specs.Knowing.{bytes_in}
use Rattle.top_down_sweep.specs.Waiting.{AreApart}
use Rattle.top_down_sweep.proofs.Known.{saved_bytes}
use Rattle.top_down_sweep.specs.Freezing.{KeepsAll, Saves, HasSettled, HasTables}
use Rattle.top_down_sweep.specs.Fuel.{weight, machine_fuel}
use Rattle.top_down_sweep.specs.Meaning.{Task, IsTaskOn, Remains}
use Rattle.top_down_sweep.specs.Rebuilds.{saved_machine}
use Rattle.top_down_sweep.specs.ResumeLaws.{one_machine, first_names}
use Rattle.top_down_sweep.specs.Resumes.{Holds, queue_tables, parts_at, HasQueue, Fits, IsRest, RestsOn, StandsFor}
use Rattle.tuple_asks.specs.SavedRules.{KeepsRules}
use Rattle.tuple_asks.specs.Saved.{machine_spelling}
use Rattle.top_down_sweep.specs.Sweeps.{files_in, IsMade, IsSoundMachine}
use Rattle.tuple_asks.specs.Operands.{IsRead}
use Rattle.top_down_sweep.specs.Turns.{Work, left_of}
use Rattle.top_down_sweep.proofs.OperandsStay.{saved_on}
use Rattle.top_down_sweep.proofs.Restoring.{named_run}
use Rattle.top_down_sweep.proofs.SavedNow.{IsSameBut, KeepsLists, lists_of, fuel_same, remains_same, left_same, trusts_same, contents_of}
use Rattle.top_down_sweep.proofs.SavedStands.{goes_saved, rests_sure}
use Rattle.top_down_sweep.proofs.SavedTables.{runs_in, queue_again, has_queue, lawful, of_later, keeps_rules}
use Rattle.top_down_sweep.proofs.StillSame.{steps_still, lists_still, on_files_still}

-- the words are those of that machine
pub held_in : {O : Type 0} (o : Ghosts O) (c : Checkpoint) (x y : SavedMachine) (a : O) (words : List ℕ)
    → IsFront (machine_spelling.count + o.count) (pair_words machine_spelling.words o.words)
    (IsPair machine_spelling.is_value o.is_value) (x, a) words → x ≡ y → c.carry ≡ words → Holds o c y a
held_in o c x y a words front is carry = subst (λ v. v) (λ i. IsFront (machine_spelling.count + o.count)
    (pair_words machine_spelling.words o.words) (IsPair machine_spelling.is_value o.is_value) (is i, a) (sym carry i)) front

-- the same place, operands and last ask
pub but_of : {S T : Type 0} (tells : S → Bool) (world : S → World) (counts : S → Faults) (calls parts : ℕ) (s t : S)
    (m q : Machine) (result : Result T SortFault) → Saves tells world counts calls parts s t m q result → IsSameBut m q
but_of tells world counts calls parts s t m q result saves = record {
  place_is = saves.place_is;
  operands_are = saves.operands_are;
  last_is = saves.last_is;
}

-- the arcs and the asks of a sweep were made sure, and a checkpoint was filled with the tables and what is saved of it
pub record IsCarried {S O : Type 0} (o : Ghosts O) (tells : S → Bool) (world : S → World) (s t : S) (p : TopDownSweep O)
    (q : Machine) (made : Unreduced) (tables : List RunTable) (c : Checkpoint) : Type 0 where
  pub sound : IsSoundMachine p.machine
  pub works : 0 < machine_fuel p.machine
  pub of_step : IsOfStep (λ f. IsMade (files_in p.machine) f) (λ f. IsRead (files_in p.machine) f) p.machine.parts.step
      p.machine.parts.next
  pub same : SameTask p.machine q
  pub but : IsSameBut p.machine q
  pub keeps : KeepsAll tells world s t p.machine q
  pub parts_step : q.parts.step ≡ p.machine.parts.step
  pub later : p.machine.parts.next ≤ q.parts.next
  pub bytes : IsTrue (tells t) → AreApart (files_in p.machine) p.machine.parts.step
      → bytes_in q (world t) ≡ bytes_in p.machine (world s)
  pub on_files : IsTrue (tells t) → (t' : Task) (rule : Rule) (begins : Tuple → Tuple)
      → IsTaskOn t' rule begins p.machine.place.variables (files_in p.machine) p.machine.parts.step (world s)
      → IsTaskOn t' rule begins q.place.variables (files_in q) q.parts.step (world t)
  pub settled : HasSettled tells world s t p.machine q made
  pub has : HasTables tells world s t p.machine q tables
  pub many : length tables ≡ 3
  pub step_is : c.step ≡ p.machine.parts.step
  pub next_is : c.next_part ≡ q.parts.next
  pub count_is : c.tables ≡ length tables
  pub runs_are : core.tables_in_use c ≡ map runs_in tables
  pub holds : Holds o c (saved_machine q made) p.operation

-- what the machine's calls say
pub carried_of : {S O T : Type 0} (o : Ghosts O) (tells : S → Bool) (world : S → World) (counts : S → Faults)
    (calls parts : ℕ) (s t : S) (p : TopDownSweep O) (q : Machine) (result : Result T SortFault) (made : Unreduced)
    (tables : List RunTable) (c : Checkpoint) → IsSoundMachine p.machine → 0 < machine_fuel p.machine
    → IsOfStep (λ f. IsMade (files_in p.machine) f) (λ f. IsRead (files_in p.machine) f) p.machine.parts.step
    p.machine.parts.next → Saves tells world counts calls parts s t p.machine q result
    → KeepsAll tells world s t p.machine q → HasSettled tells world s t p.machine q made
    → HasTables tells world s t p.machine q tables → length tables ≡ 3 → c.step ≡ p.machine.parts.step
    → c.next_part ≡ q.parts.next → c.tables ≡ length tables → core.tables_in_use c ≡ map runs_in tables
    → Holds o c (saved_machine q made) p.operation → IsCarried o tells world s t p q made tables c
carried_of o tells world counts calls parts s t p q result made tables c sound works of_step saves keeps settled has many
    step next count runs holds = record {
      sound = sound;
      works = works;
      of_step = of_step;
      same = saves.same;
      but = but_of tells world counts calls parts s t p.machine q result saves;
      keeps = keeps;
      parts_step = saves.carries.step_is;
      later = saves.carries.later;
      bytes = λ told. saved_bytes tells world counts calls parts s t p.machine q result sound saves.same saves.carries
          told;
      on_files = λ told t' rule begins is. saved_on tells world counts calls parts s t p.machine q result t' rule begins
          sound saves.same saves.carries told is;
      settled = settled;
      has = has;
      many = many;
      step_is = step;
      next_is = next;
      count_is = count;
      runs_are = runs;
      holds = holds;
    }

module _ {S O : Type 0} (o : Ghosts O) (tells : S → Bool) (world : S → World) (s t : S) (p : TopDownSweep O)
    (q : Machine) (made : Unreduced) (tables : List RunTable) (c : Checkpoint)
    (is : IsCarried o tells world s t p q made tables c) where
  abbrev r : TopDownSweep O
  r = record p { machine = q }

  -- what its turns put stands there still, and what remained of a job remains
  pub carried_trusts : IsTrue (tells t) → (rule : O → Rule) (begins : O → Tuple → Tuple)
      → IsTrusted rule begins p (world s) → IsTrusted rule begins r (world t)
  carried_trusts told rule begins trusts = trusts_same p.machine q is.but (world s) (world t)
      (lists_of tells world s t p.machine q
      is.same.files_are is.parts_step (is.bytes told) is.keeps told) is.works (rule p.operation) (begins p.operation) trusts

  pub carried_keeps : IsTrue (tells t) → (rule : O → Rule) (begins : O → Tuple → Tuple) (t' : Task)
      → Remains rule begins p (world s) t' → Remains rule begins r (world t) t'
  carried_keeps told rule begins t' remains = record {
    on_files = is.on_files told t' (rule p.operation) (begins p.operation) remains.on_files;
    left = remains_same p.machine q is.but (world s) (world t) (lists_of tells world s t p.machine q
        is.same.files_are is.parts_step (is.bytes told) is.keeps told)
        is.works t' (begins p.operation) remains.left;
  }

  pub carried_left : IsTrue (tells t) → (rule : O → Rule) (begins : O → Tuple → Tuple) (w : Work)
      → Remains rule begins p (world s) w.task → left_of r (world t) w ≤ left_of p (world s) w
  carried_left told rule begins w remains =
      let same = left_same p.machine q is.but (world s) (world t) (lists_of tells world s t p.machine q
      is.same.files_are is.parts_step (is.bytes told) is.keeps told)
      is.works w.task (begins p.operation) (length w.tuples) remains.left in
      omega (arith, same)

  -- the checkpoint has its tables
  step_now : c.step ≡ q.parts.step
  step_now = is.step_is ∙ sym is.parts_step

  parts_now : parts_at c ≡ q.parts
  parts_now = λ i. record { step = step_now i; next = is.next_is i }

  served : ServeTables (parts_at c) tables
  served = subst (λ (a : Parts). ServeTables a tables) (sym parts_now) is.has.served

  again : queue_tables c ≡ tables
  again = queue_again c tables is.many is.count_is is.runs_are

  queue : HasQueue c
  queue = has_queue c tables is.many is.count_is is.runs_are is.has.are served

  pub carried_filled : IsFilled q.parts.next c
  carried_filled = record {
    next_is = is.next_is;
    tables = lawful c tables is.many is.count_is is.runs_are is.has.are is.has.tidy served;
  }

  -- and keeps the rules
  works_now : 0 < machine_fuel q
  works_now = subst (λ n. 0 < n) (sym (fuel_same p.machine q is.but is.keeps.load)) is.works

  of_now : IsOfStep (λ f. IsMade (files_in q) f) (λ f. IsRead (files_in q) f) c.step c.next_part
  of_now =
      let next : c.next_part ≡ q.parts.next = is.next_is in
      let later : p.machine.parts.next ≤ q.parts.next = is.later in
      of_later (files_in p.machine) (files_in q) p.machine.parts.step p.machine.parts.next c.step c.next_part
      is.same.files_are is.step_is (omega (arith, next, later)) is.of_step

  rules : KeepsRules c (saved_machine q made)
  rules = keeps_rules c q made tables (weight q) step_now is.keeps.fit.sound works_now of_now is.settled.made_is
      is.settled.inner_few is.settled.ends_few again is.has.only

  pub carried_fits : Fits o c
  carried_fits = record {
    queue = queue;
    saved = saved_machine q made;
    operation = p.operation;
    holds = is.holds;
    rules = rules;
  }

  -- it stands for what remains
  pub carried_stands : IsTrue (tells t) → (rule : O → Rule) (begins : O → Tuple → Tuple) (w : Work)
      → Remains rule begins p (world s) w.task
      → StandsFor o rule begins c (reads_of (world t)) w.task (length w.tuples) (left_of r (world t) w)
  carried_stands told rule begins w remains = record {
    saved = saved_machine q made;
    operation = p.operation;
    holds = is.holds;
    goes_on = goes_saved tells world s t p.machine q is.but is.keeps told c made tables step_now again is.settled is.has
        w.task (rule p.operation) (begins p.operation) (length w.tuples) is.works
        (is.on_files told w.task (rule p.operation) (begins p.operation) remains.on_files) remains.left;
  }

  -- and all that it rests on is sure
  pub carried_sure : IsTrue (tells t) → (rule : O → Rule) (begins : O → Tuple → Tuple) (t' : Task)
      → Remains rule begins p (world s) t' → (f : FileNo) (n : ℕ) → RestsOn o c f n
      → IsSure (λ g. IsMade (files_in p.machine) g) (λ g. IsRead (files_in p.machine) g) (world t) f n
  carried_sure told rule begins t' remains f n on =
      let (k, stands) = contents_of t' (begins p.operation) p.machine (world s) is.works remains.left in
      rests_sure tells world s t p.machine q is.but is.keeps told c made tables step_now again is.settled is.has k stands
      is.same.files_are f n (subst (λ (y : SavedMachine). IsRest c y f n)
      (one_machine o c on.saved (saved_machine q made) on.operation p.operation on.holds is.holds) on.rests)

  -- a run of the queue is one that it names
  run_used : (f : FileNo) → queues.IsRunOf q.queue f → (f.step ≡ c.step) × core.Names c f.part
  run_used f run =
      let (k, x, within, at, (used, file_is)) = named_run q.parts.step (table_at tables 0) f (is.has.named f run) in
      let runs = ap (λ (a : RunTable). a.runs) (sym (ap (λ ts. table_at ts 0) again)) in (
        ap (λ (g : FileNo). g.step) file_is ∙ sym step_now,
        first_names c.runs c.tables f.part (is.count_is ∙ is.many) (subst (core.NamedAmong f.part) runs
            (k, x, within, at, sym (ap (λ (g : FileNo). g.part) file_is))),
      )

  -- in a later world in which those files are the same, all of this is as it was
  module _ (later : World) (used : (f : FileNo) → IsUsed (λ g. IsMade (files_in p.machine) g)
      (λ g. IsRead (files_in p.machine) g) c f → file later f ≡ file (world t) f) where
    read_used : (f : FileNo) → IsRead (files_in q) f → file later f ≡ file (world t) f
    read_used f read = used f (inl (subst (λ (fs : Files). IsRead fs f) is.same.files_are read))

    made_used : (f : FileNo) → IsMade (files_in q) f → file later f ≡ file (world t) f
    made_used f mine = used f (inr (inl (subst (λ (fs : Files). IsMade fs f) is.same.files_are mine)))

    runs_used : (f : FileNo) → queues.IsRunOf q.queue f → file later f ≡ file (world t) f
    runs_used f run = used f (inr (inr (run_used f run)))

    but_still : IsSameBut q q
    but_still = record { place_is = refl; operands_are = refl; last_is = refl }

    lists : KeepsLists q q (world t) later
    lists = lists_still q is.keeps.fit.sound (world t) later read_used made_used runs_used

    pub carried_still : (rule : O → Rule) (begins : O → Tuple → Tuple) → IsStill (IsInStep r) (IsTrusted rule begins r)
        (λ world' (w : Work). Remains rule begins r world' w.task) (left_of r) (world t) later
    carried_still rule begins = record {
      steps = steps_still q is.keeps.fit.sound (world t) later read_used made_used runs_used;
      trusted = trusts_same q q but_still (world t) later lists works_now (rule p.operation) (begins p.operation);
      keeps = λ w remains. record {
        on_files = on_files_still q is.keeps.fit.sound (world t) later read_used made_used runs_used w.task
            (rule p.operation) (begins p.operation) q.place.variables q.parts.step remains.on_files;
        left = remains_same q q but_still (world t) later lists works_now w.task (begins p.operation) remains.left;
      };
      fewer = λ w remains. (let same = left_same q q but_still (world t) later lists works_now w.task (begins p.operation)
          (length w.tuples) remains.left in omega (arith, same));
    }
