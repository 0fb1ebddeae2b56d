-- A machine in a later world in which the files that it works on are the same.
use Rattle.std.proofs.Common.{◌≡◌, ◌∙◌, ℕ, length, refl, sym, ap, subst, inl, inr}
use Rattle.shelf_model.specs.declared.file_no.FileNo.{FileNo}
use Rattle.shelf_model.specs.File.{File}
use Rattle.shelf_model.specs.World.{World, file}
use Rattle.arc_file.specs.Writers.{inner_file, ends_file}
use Rattle.level_queue.specs.Queues as queues
use Rattle.level_queue.proofs.QueueLaws.{queue_kept}
use Rattle.sweep_core.specs.Sweeps.{IsFirm}
use Rattle.top_down.specs.declared.tuple.Tuple.{Tuple}
use Rattle.top_down.specs.Rules.{Rule}
use Rattle.top_down_sweep.specs.declared.machine.Machine.{Machine}
use Rattle.tuple_asks.specs.declared.place.Phase.{Phase}
use Rattle.tuple_asks.specs.declared.place.Phase.TheVariants as phases
use Rattle.top_down_sweep.specs.Calls.{IsStepAt, IsMachineInStep}
use Rattle.tuple_asks.specs.Items.{ask_words, IsAsk, ask_cmp}
use Rattle.top_down_sweep.specs.Meaning.{Task, IsTaskOn}
use Rattle.tuple_asks.specs.Readings.{AreRead}
use Rattle.top_down_sweep.specs.Sweeps.{files_in, IsMade, IsSoundMachine}
use Rattle.tuple_asks.specs.Operands.{IsRead}
use Rattle.tuple_asks.specs.Operands.{AreReading}
use Rattle.top_down_sweep.proofs.Holding.{operand_still}
use Rattle.top_down_sweep.proofs.SavedNow.{KeepsLists}
use Rattle.tuple_asks.proofs.Staying.{read_still}
use Rattle.top_down_sweep.proofs.StandingOn.{arcs_still}
use Rattle.tuple_asks.proofs.StartKeeps.{moved_file}
use Rattle.top_down_laws.specs.Readings.{Readings}

module _ (q : Machine) (sound : IsSoundMachine q) (old new : World)
    (operands : (f : FileNo) → IsRead (files_in q) f → file new f ≡ file old f)
    (arcs : (f : FileNo) → IsMade (files_in q) f → file new f ≡ file old f)
    (runs : (f : FileNo) → queues.IsRunOf q.queue f → file new f ≡ file old f) where
  bytes_same : (f : FileNo) → file new f ≡ file old f → (file new f).bytes ≡ (file old f).bytes
  bytes_same f same = ap (λ (x : File). x.bytes) same

  first_same : (file new q.operands.first.file).bytes ≡ (file old q.operands.first.file).bytes
  first_same = bytes_same q.operands.first.file (operands q.operands.first.file (inl refl))

  second_same : (file new q.operands.second.file).bytes ≡ (file old q.operands.second.file).bytes
  second_same = bytes_same q.operands.second.file (operands q.operands.second.file (inr (inl refl)))

  third_same : (file new q.operands.third.file).bytes ≡ (file old q.operands.third.file).bytes
  third_same = bytes_same q.operands.third.file (operands q.operands.third.file (inr (inr refl)))

  inner_same : file new (inner_file q.writer) ≡ file old (inner_file q.writer)
  inner_same = arcs (inner_file q.writer) (inl refl)

  ends_same : file new (ends_file q.writer) ≡ file old (ends_file q.writer)
  ends_same = arcs (ends_file q.writer) (inr refl)

  -- it is in step
  step_at : (p : Phase) → IsStepAt p q old → IsStepAt p q new
  step_at phases.Fresh step = record {
    inner_step = ap (λ (x : File). length x.bytes) inner_same ∙ step.inner_step;
    ends_step = ap (λ (x : File). length x.bytes) ends_same ∙ step.ends_step;
  }
  step_at (phases.Asking s) step = record {
    inner_step = ap (λ (x : File). length x.bytes) inner_same ∙ step.inner_step;
    ends_step = ap (λ (x : File). length x.bytes) ends_same ∙ step.ends_step;
  }
  step_at (phases.Ended made) (first, second) =
      (subst IsFirm (sym inner_same) first, subst IsFirm (sym ends_same) second)

  pub steps_still : IsMachineInStep q old → IsMachineInStep q new
  steps_still step = step_at q.place.phase step

  -- its operands are read as they were
  reading_still : AreReading q.operands old → AreReading q.operands new
  reading_still reading = record {
    first = operand_still _ q.operands.first old new sound.operands.first first_same reading.first;
    second = operand_still _ q.operands.second old new sound.operands.second second_same reading.second;
    third = operand_still _ q.operands.third old new sound.operands.third third_same reading.third;
  }

  read_on : (r : Readings) → AreRead q.operands old r → AreRead q.operands new r
  read_on r read = record {
    first = read_still _ q.operands.first old new r.first sound.operands.first first_same read.first;
    second = read_still _ q.operands.second old new r.second sound.operands.second second_same read.second;
    third = read_still _ q.operands.third old new r.third sound.operands.third third_same read.third;
  }

  run_bytes : (f : FileNo) → queues.IsRunOf q.queue f → (file new f).bytes ≡ (file old f).bytes
  run_bytes f run = bytes_same f (runs f run)

  -- and so are its lists
  pub lists_still : KeepsLists q q old new
  lists_still = record {
    files = refl;
    step = refl;
    bytes = λ apart i. record { first = first_same i; second = second_same i; third = third_same i };
    asks = λ bytes holds. (let (asks, hold) = holds in (
      asks,
      record {
        wait = queue_kept IsAsk ask_words ask_cmp q.queue old new asks run_bytes hold.wait;
        fit = hold.fit;
        known = hold.known;
        hands = hold.hands;
        no_run = hold.no_run;
        reading = λ apart. reading_still (hold.reading apart);
      },
    ));
    arcs = λ xs ys. arcs_still q.writer old new xs ys inner_same ends_same;
    stands = λ k stands. record {
      asks_are = queue_kept IsAsk ask_words ask_cmp q.queue old new k.asks run_bytes stands.asks_are;
      read = read_on k.readings stands.read;
      written = arcs_still q.writer old new k.inner k.ends inner_same ends_same stands.written;
      one_is = stands.one_is;
      no_run = stands.no_run;
      apart = stands.apart;
    };
  }

  -- an operation on its files is the task that it was
  pub on_files_still : (t : Task) (rule : Rule) (begins : Tuple → Tuple) (n step : ℕ)
      → IsTaskOn t rule begins n (files_in q) step old → IsTaskOn t rule begins n (files_in q) step new
  on_files_still t rule begins n step is = record {
    variables_are = is.variables_are;
    rule_is = is.rule_is;
    roots = is.roots;
    begins_are = is.begins_are;
    nodes_are = record {
      first = moved_file q.operands.first.file n is.roots.first t.diagrams.first old new first_same
          is.nodes_are.first;
      second = moved_file q.operands.second.file n is.roots.second t.diagrams.second old new second_same
          is.nodes_are.second;
      third = moved_file q.operands.third.file n is.roots.third t.diagrams.third old new third_same
          is.nodes_are.third;
    };
    apart = is.apart;
  }
