-- A sweep that is rebuilt from a checkpoint.
use Rattle.std.proofs.Common.{◌≡◌, ◌∙◌, ℕ, ◌+◌, ◌/◌, ◌≤◌, List, [], ◌∷◌, length, take, sym, ap, subst, inl, inr, arith}
use Rattle.std.specs.Prelude.{Option, Some, None, ◌^◌, slice_index_or}
use Rattle.std.specs.List.{sum_by}
use Rattle.std.proofs.lemmas.List.Sums.{sum_by-cons}
use Rattle.shelf_model.specs.declared.file_no.FileNo.{FileNo}
use Rattle.shelf_model.specs.World.{World}
use Rattle.arc_file.specs.Writers.{AreInStep}
use Rattle.run_tiers.specs.declared.run.Run.{Run}
use Rattle.run_tiers.specs.Tables.{run_left}
use Rattle.saved_words.specs.declared.carried.Carried.{Ghosts}
use Rattle.saved_words.specs.Fronts.{one_front}
use Rattle.saved_words.specs.Joined.{pair_words, IsPair, pair_differs}
use Rattle.sweep_core.specs.declared.checkpoint.Checkpoint.{Checkpoint}
use Rattle.sweep_core.specs.Saving.{IsMadePart, IsReadPart, IsOfStep}
use Rattle.sweep_core.specs.Tables as core
use Rattle.node_reading.specs.Reading.{count_of}
use Rattle.top_down.specs.declared.tuple.Tuple.{Tuple}
use Rattle.top_down.specs.Rules.{Rule}
use Rattle.top_down_sweep.specs.Meaning.{Task}
use Rattle.top_down_sweep.specs.declared.machine.Machine.{Machine}
use Rattle.tuple_asks.specs.declared.place.Asking.{Asking}
use Rattle.tuple_asks.specs.declared.place.Place.{Place}
use Rattle.tuple_asks.specs.declared.place.Phase.{Phase}
use Rattle.tuple_asks.specs.declared.saved.SavedMachine.{SavedMachine}
use Rattle.tuple_asks.specs.declared.files.Files.{Files}
use Rattle.top_down_sweep.specs.Calls.{IsStepAt, IsMachineInStep}
use Rattle.tuple_asks.specs.Resuming.{saved_place, phase_at}
use Rattle.top_down_sweep.specs.Resumes.{Holds, Fits, GoesOn, StandsFor, Names, NamesAll, reading_calls}
use Rattle.tuple_asks.specs.Resuming.{saved_files, operand_calls}
use Rattle.tuple_asks.specs.SavedRules.{KeepsRules}
use Rattle.top_down_sweep.specs.ResumeLaws.{one_machine}
use Rattle.tuple_asks.specs.Saved.{machine_spelling}
use Rattle.top_down_sweep.specs.Sweeps.{SweepTask, IsMade}
use Rattle.tuple_asks.specs.Operands.{IsRead}

-- the words are those of one machine and one operation
pub one_kept : {O : Type 0} (o : Ghosts O) → ((x : O) → o.is_value x → length (o.words x) ≡ o.count)
    → ((x y : O) → o.is_value x → o.is_value y → o.words x ≡ o.words y → x ≡ y) → (c : Checkpoint)
    (x y : SavedMachine) (a b : O) → Holds o c x a → Holds o c y b → ◌≡◌ {A = SavedMachine × O} (x, a) (y, b)
one_kept {O} o long differ c x y a b first second =
    one_front (machine_spelling.count + o.count) (pair_words machine_spelling.words o.words)
    (IsPair machine_spelling.is_value o.is_value)
    (pair_differs machine_spelling.count o.count machine_spelling.words o.words machine_spelling.is_value o.is_value
    machine_spelling.long long machine_spelling.differ differ) (x, a) (y, b) c.carry first second

-- so a checkpoint names one operation and one task
pub one_named : {O : Type 0} (o : Ghosts O) → ((x : O) → o.is_value x → length (o.words x) ≡ o.count)
    → ((x y : O) → o.is_value x → o.is_value y → o.words x ≡ o.words y → x ≡ y) → (c : Checkpoint) (a b : O)
    (t u : SweepTask) → NamesAll o c a t → NamesAll o c b u → (a ≡ b) × (t ≡ u)
one_named {O} o long differ c a b t u first second =
    let same = one_kept o long differ c first.saved second.saved a b first.holds second.holds in
    let machines : first.saved ≡ second.saved = ap (λ (p : SavedMachine × O). p.0) same in
    let files : t.files ≡ u.files = sym first.files_are ∙ ap saved_files machines ∙ second.files_are in
    let variables : t.variables ≡ u.variables =
    sym first.variables_are ∙ ap (λ (m : SavedMachine). m.variables) machines ∙ second.variables_are in (
      ap (λ (p : SavedMachine × O). p.1) same,
      λ i. record { files = files i; variables = variables i },
    )

-- its files are those of its step
pub of_step : (c : Checkpoint) (x : SavedMachine) → KeepsRules c x
    → IsOfStep (λ f. IsMade (saved_files x) f) (λ f. IsRead (saved_files x) f) c.step c.next_part
of_step c x rules = record {
  parts = rules.arcs.parts;
  made = made_part;
  others = read_part;
  apart = apart;
}
  where
    made_part : (f : FileNo) → IsMade (saved_files x) f → IsMadePart c.step c.next_part f
    made_part f (inl is) = subst (IsMadePart c.step c.next_part) (sym is) rules.arcs.inner_made
    made_part f (inr is) = subst (IsMadePart c.step c.next_part) (sym is) rules.arcs.ends_made

    read_part : (f : FileNo) → IsRead (saved_files x) f → IsReadPart c.step c.next_part f
    read_part f (inl is) = subst (IsReadPart c.step c.next_part) (sym is) rules.first.other
    read_part f (inr (inl is)) = subst (IsReadPart c.step c.next_part) (sym is) rules.second.other
    read_part f (inr (inr is)) = subst (IsReadPart c.step c.next_part) (sym is) rules.third.other

    apart : (f : FileNo) → IsRead (saved_files x) f → ¬ IsMade (saved_files x) f
    apart f (inl is) (inl it) = rules.first.not_inner (sym is ∙ it)
    apart f (inl is) (inr it) = rules.first.not_ends (sym is ∙ it)
    apart f (inr (inl is)) (inl it) = rules.second.not_inner (sym is ∙ it)
    apart f (inr (inl is)) (inr it) = rules.second.not_ends (sym is ∙ it)
    apart f (inr (inr is)) (inl it) = rules.third.not_inner (sym is ∙ it)
    apart f (inr (inr is)) (inr it) = rules.third.not_ends (sym is ∙ it)

-- and they end behind its arcs
step_in : (a : Option Asking) (m : Machine) (world : World) → AreInStep m.writer world → IsStepAt (phase_at a) m world
step_in None m world step = step
step_in (Some s) m world step = step

pub begun_step : (x : SavedMachine) (m : Machine) (world : World) → m.place ≡ saved_place x → AreInStep m.writer world
    → IsMachineInStep m world
begun_step x m world place step = subst (λ (p : Phase). IsStepAt p m world) (sym (ap (λ (p : Place). p.phase) place))
    (step_in x.asking m world step)

-- what is left of the runs of the first table is some of what is left of all
pub first_left : (tables : List (List Run)) (count : ℕ) → count ≡ 3
    → sum_by run_left (slice_index_or tables 0 []) ≤ sum_by core.records_left (take count tables)
first_left [] count is =
    subst (λ n. sum_by run_left [] ≤ sum_by core.records_left (take n [])) (sym is) (omega arith)
first_left (runs ∷ tables) count is =
    let all : sum_by core.records_left (runs ∷ take 2 tables)
    ≡ core.records_left runs + sum_by core.records_left (take 2 tables) = sum_by-cons core.records_left runs (take 2 tables) in
    subst (λ n. sum_by run_left runs ≤ sum_by core.records_left (take n (runs ∷ tables))) (sym is)
    (omega (arith, all))

-- the machine keeps the rules, and goes on as its checkpoint stands
module _ {O : Type 0} (o : Ghosts O) (c : Checkpoint) (x : SavedMachine) (a : O) (holds : Holds o c x a) where
  pub rules_of : Fits o c → KeepsRules c x
  rules_of fits = subst (KeepsRules c) (one_machine o c fits.saved x fits.operation a fits.holds holds) fits.rules

  pub goes_of : ((y : O) → o.is_value y → length (o.words y) ≡ o.count)
      → ((y z : O) → o.is_value y → o.is_value z → o.words y ≡ o.words z → y ≡ z) → (rule : O → Rule)
      (begins : O → Tuple → Tuple) (r : FileNo → List ℕ) (t : Task) (tuples turns : ℕ)
      → StandsFor o rule begins c r t tuples turns → GoesOn (rule a) (begins a) c x r t tuples turns
  goes_of long differ rule begins r t tuples turns stands =
      subst (λ (p : SavedMachine × O). GoesOn (rule p.1) (begins p.1) c p.0 r t tuples turns)
      (one_kept o long differ c stands.saved x stands.operation a stands.holds holds) stands.goes_on

  -- and no more calls than these read on
  three_calls : (first second third : ℕ) → (5 + first / 8) + (5 + second / 8) + (5 + third / 8) + 4
      ≤ 2 ^ 20 + (first + second + third) / 8
  three_calls first second third = omega arith

  few_calls : (files : Files) (r : FileNo → List ℕ) → operand_calls (r files.first) + operand_calls (r files.second)
      + operand_calls (r files.third) + 4
      ≤ 2 ^ 20 + (count_of (r files.first) + count_of (r files.second) + count_of (r files.third)) / 8
  few_calls files r = three_calls (count_of (r files.first)) (count_of (r files.second)) (count_of (r files.third))

  pub named_calls : (task : SweepTask) (r : FileNo → List ℕ) → Names o c task
      → operand_calls (r x.first.file) + operand_calls (r x.second.file) + operand_calls (r x.third.file) + 4
      ≤ 2 ^ 20 + reading_calls task r
  named_calls task r names =
      let files : saved_files x ≡ task.files =
      ap saved_files (sym (one_machine o c names.saved x names.operation a names.holds holds)) ∙ names.files_are in
      subst (λ (fs : Files). operand_calls (r x.first.file) + operand_calls (r x.second.file)
      + operand_calls (r x.third.file) + 4
      ≤ 2 ^ 20 + (count_of (r fs.first) + count_of (r fs.second) + count_of (r fs.third)) / 8) files
      (few_calls (saved_files x) r)
