-- A machine that is made sure, call by call.
use Rattle.std.proofs.Common.{◌≡◌, ℕ, ◌+◌, ◌<◌, ◌≤◌, ◌∙◌, Bool, false, List, length, refl, sym, subst, ap, inl, inr, arith}
use Rattle.std.specs.Prelude.{◌⊎◌, Option, Result, Ok, Err, IsErrAnd, IfOk, IfErr, IfSome, OnOk, IsTrue}
use Rattle.std.proofs.lemmas.Result.{on_ok_weaker}
use Rattle.rec_words.specs.Words.{terminal}
use Rattle.shelf_model.specs.declared.file_no.FileNo.{FileNo}
use Rattle.shelf_model.specs.declared.sort_fault.SortFault.{SortFault}
use Rattle.shelf_model.specs.declared.sort_fault.SortFault.TheVariants.{Shelf, Damaged, RunsSpent}
use Rattle.shelf_model.specs.Calls.{Told}
use Rattle.shelf_model.specs.Faults.{Faults}
use Rattle.shelf_model.specs.File.{File}
use Rattle.shelf_model.specs.Moments.{Ran}
use Rattle.shelf_model.specs.World.{World, now, file}
use Rattle.shelf_model.proofs.Runs.{told, ran_end, ran_weakens}
use Rattle.arc_file.specs.declared.arc.Arc.{Arc}
use Rattle.arc_file.specs.declared.unreduced.Unreduced.{Unreduced}
use Rattle.arc_file.specs.declared.writer.ArcWriter.{ArcWriter}
use Rattle.arc_file.specs.Pairs.{WroteBoth}
use Rattle.arc_file.specs.Writers.{inner_file, ends_file, inner_count, made_of, SameFiles, AreInStep, HoldsArcs, IsFileOf}
use Rattle.run_tiers.specs.declared.parts.Parts.{Parts}
use Rattle.run_tiers.specs.declared.run.RunTable.{RunTable}
use Rattle.run_tiers.specs.Faults.{OnlySortShelf}
use Rattle.run_tiers.specs.Parts.{IsTaken, Took, Paid, PaidParts}
use Rattle.run_tiers.specs.Syncs.{Froze}
use Rattle.run_tiers.proofs.FaultLaws.{on_fault}
use Rattle.run_tiers.proofs.SyncLaws.{same_or_firm_bytes}
use Rattle.run_merge.specs.Lists.{Freezes}
use Rattle.run_merge.specs.Sorters as sorters
use Rattle.level_queue.specs.declared.queue.LevelQueue.{LevelQueue}
use Rattle.level_queue.specs.Queues as queues
use Rattle.level_queue.specs.Tables.{AreTables, AreTidyTables, ServeTables, AreFirmTables, NamesAny, TablesList}
use Rattle.level_queue.proofs.QueueLaws.{queue_serves_on, queue_taken}
use Rattle.sweep_core.specs.Accounts.{CanBeTaken}
use Rattle.sweep_core.specs.Carries.{IsBehindPoints, OnlySaved}
use Rattle.sweep_core.specs.Sweeps.{IsNoDamage}
use Rattle.sweep_core.proofs.Carrying.{froze_saved, carries_then, carries_more, carries_ok, carries_err}
use Rattle.sweep_core.proofs.Untaken.{froze_empty}
use Rattle.tuple_asks.specs.declared.ask.Ask.{Ask}
use Rattle.tuple_asks.specs.declared.place.Phase.{Phase}
use Rattle.tuple_asks.specs.declared.place.Phase.TheVariants as phases
use Rattle.top_down_sweep.specs.declared.machine.Machine.{Machine}
use Rattle.tuple_asks.specs.Items.{ask_words, IsAsk, ask_cmp}
use Rattle.top_down_sweep.specs.Fuel.{fuel_at, machine_fuel}
use Rattle.top_down_sweep.specs.Sweeps.{files_in, IsMade, IsServed, IsPhaseAt, IsSoundMachine, HasMade, machine_accounts, Refuses}
use Rattle.tuple_asks.specs.Knowing.{FileBytes}
use Rattle.top_down_sweep.specs.Waiting.{Waits, AreApart, HoldsSome}
use Rattle.top_down_sweep.specs.Meaning.{Contents, StandsFor}
use Rattle.top_down_sweep.specs.Calls.{IsFit, IsStepAt, IsMachineInStep}
use Rattle.top_down_sweep.specs.Freezing.{KeepsAll, Saves, HasSettled, HasTables}
use Rattle.top_down_sweep.proofs.Doing.{task_then}
use Rattle.top_down_sweep.proofs.Holding.{SameApart, operands_still, holds_written, runs_apart, served_on, if_err_map}
use Rattle.top_down_sweep.proofs.OwnRuns.{serves_past, push_refuses}
use Rattle.top_down_sweep.proofs.StandingOn.{all_still, arcs_still, stands_written}

-- nothing is owed of what succeeds where it is refused
pub refused_ok : {T : Type 0} (P : SortFault → Type 0) (Q : Type 0) (r : Result T SortFault) → IsErrAnd r P → OnOk r Q
refused_ok P Q (Ok x) is = absurd is
refused_ok P Q (Err e) is = tt

-- while it works, its files of arcs end behind what was put
works_at : (p : Phase) (m : Machine) (world : World) (n : ℕ) → 0 < fuel_at p n → IsStepAt p m world
    → AreInStep m.writer world
works_at phases.Fresh m world n works step = step
works_at (phases.Asking s) m world n works step = step
works_at (phases.Ended made) m world n works step = absurd (omega (arith, works))

pub fit_works : {S : Type 0} (tells : S → Bool) (world : S → World) (s : S) (m : Machine) → IsSoundMachine m
    → 0 < machine_fuel m → (IsTrue (tells s) → IsMachineInStep m (world s)) → IsFit tells world s m
fit_works tells world s m sound works step = record {
  sound = sound;
  at_work = λ is. works_at m.place.phase m (world s) _ works (step is);
}

-- the writer's files and their arcs stay, and so does all that is sound
phase_same : (p : Phase) (last : Option Ask) (v w : ArcWriter) → SameFiles v w → inner_count w ≡ inner_count v
    → IsPhaseAt v last p → IsPhaseAt w last p
phase_same phases.Fresh last v w same count is = is
phase_same (phases.Asking s) last v w same count is = subst (λ n. IfSome s.last (λ x. x.number ≤ n)) (sym count) is
phase_same (phases.Ended made) last v w same count is =
    subst (λ v. v) (λ i. HasMade (sym same.inner_is i) (sym same.ends_are i) made) is

settled_sound : (m : Machine) (w : ArcWriter) → SameFiles m.writer w → inner_count w ≡ inner_count m.writer
    → IsSoundMachine m → IsSoundMachine (record m { writer = w })
settled_sound m w same count sound =
    let served = sound.served in
    record {
      served = record {
        values = served.values;
        serves = served.serves;
        inner_made = subst (λ f. ¬ CanBeTaken m.parts.step m.parts.next f) (sym same.inner_is) served.inner_made;
        ends_made = subst (λ f. ¬ CanBeTaken m.parts.step m.parts.next f) (sym same.ends_are) served.ends_made;
        inner_apart = subst (λ f. ¬ queues.IsRunOf m.queue f) (sym same.inner_is) served.inner_apart;
        ends_apart = subst (λ f. ¬ queues.IsRunOf m.queue f) (sym same.ends_are) served.ends_apart;
      };
      operands = sound.operands;
      phase = phase_same m.place.phase (queues.last_of m.queue) m.writer w same count sound.phase;
    }

settled_files : (m : Machine) (w : ArcWriter) → SameFiles m.writer w → files_in (record m { writer = w }) ≡ files_in m
settled_files m w same = λ i. record {
  first = m.operands.first.file;
  second = m.operands.second.file;
  third = m.operands.third.file;
  inner = same.inner_is i;
  ends = same.ends_are i;
}

module _ {S : Type 0} (tells : S → Bool) (world : S → World) where
  -- the arcs were made sure
  pub settle_keeps : (s t : S) (m : Machine) (w : ArcWriter) → IsFit tells world s m → SameFiles m.writer w
      → inner_count w ≡ inner_count m.writer
      → Told tells s t (WroteBoth 4 (inner_file m.writer) (ends_file m.writer) (world s) (world t))
      → (IsTrue (tells t) → AreInStep w (world t))
      → (IsTrue (tells t) → (xs ys : List Arc) → HoldsArcs m.writer (world s) xs ys → HoldsArcs w (world t) xs ys)
      → KeepsAll tells world s t m (record m { writer = w })
  settle_keeps s t m w fit same count did step arcs =
      let q : Machine = record m { writer = w } in
      let files = settled_files m w same in
      record {
        fit = record { sound = settled_sound m w same count fit.sound; at_work = step };
        load = refl;
        asks = λ is bytes holds. (let (asks, hold) = holds in (
          asks,
          holds_written bytes 4 m q (world s) (world t) asks refl files fit.sound.operands (did.did is) hold,
        ));
        arcs = arcs;
        stands = λ is k stands. stands_written 4 m q (world s) (world t) k k.inner k.ends refl files fit.sound.operands
            (did.did is) (arcs is k.inner k.ends stands.written) stands.one_is stands;
      }

-- a file of arcs has no part that can be taken
made_free : (m : Machine) → IsServed m → (f : FileNo) → IsMade (files_in m) f
    → ¬ CanBeTaken m.parts.step m.parts.next f
made_free m served f (inl is) free = served.inner_made (subst (CanBeTaken m.parts.step m.parts.next) is free)
made_free m served f (inr is) free = served.ends_made (subst (CanBeTaken m.parts.step m.parts.next) is free)

-- and is no run
made_no_run : (m : Machine) → IsServed m → (f : FileNo) → IsMade (files_in m) f → ¬ queues.IsRunOf m.queue f
made_no_run m served f (inl is) run = served.inner_apart (subst (queues.IsRunOf m.queue) is run)
made_no_run m served f (inr is) run = served.ends_apart (subst (queues.IsRunOf m.queue) is run)

module _ (m : Machine) (after : Parts) (old new : World) (served : IsServed m)
    (ran : Ran (Froze (queues.IsRunOf m.queue) m.parts after (now old)) old new) where
  -- so it stays where runs are made sure
  pub arcs_frozen : (f : FileNo) → IsMade (files_in m) f → file new f ≡ file old f
  arcs_frozen f made =
      elim (ran_end old new (Froze (queues.IsRunOf m.queue) m.parts after (now old)) ran f
      (λ taken. made_free m served f made (record { step_is = taken.step_is; from = taken.from }))) [
        | inl same ↦ same
        | inr firm ↦ absurd (made_no_run m served f made firm.0)
      ]

  -- and what is apart reads as it did
  apart_frozen : SameApart (files_in m) m.parts.step old new
  apart_frozen f apart = same_or_firm_bytes (queues.IsRunOf m.queue) f (now old) (now new)
      (ran_end old new (Froze (queues.IsRunOf m.queue) m.parts after (now old)) ran f
      (λ taken. let early : f.part < 3 = apart.no_part taken.step_is in
      let from : m.parts.next ≤ f.part = taken.from in
      let past : 3 ≤ m.parts.next = serves_past m.parts m.queue served.serves in
      absurd (omega (arith, early, from, past))))

module _ {S : Type 0} (tells : S → Bool) (world : S → World) (s t : S) (m : Machine) (q : LevelQueue Ask)
    (after : Parts) (fit : IsFit tells world s m)
    (did : Told tells s t (Ran (Froze (queues.IsRunOf m.queue) m.parts after (now (world s))) (world s) (world t)))
    (took : Took m.parts after)
    (runs : (f : FileNo) → queues.IsRunOf q f → queues.IsRunOf m.queue f ⊎ IsTaken m.parts after f) where
  abbrev frozen : Machine
  frozen = record m { queue = q; parts = after }

  -- each file of arcs stays
  pub arcs_same : IsTrue (tells t) → (f : FileNo) → IsMade (files_in m) f → file (world t) f ≡ file (world s) f
  arcs_same is = arcs_frozen m after (world s) (world t) fit.sound.served (did.did is)

  apart_same : IsTrue (tells t) → SameApart (files_in m) m.parts.step (world s) (world t)
  apart_same is = apart_frozen m after (world s) (world t) fit.sound.served (did.did is)

  -- where the list stays, all that it stands for does
  freeze_keeps : queues.HoldsValues IsAsk ask_words q → queues.Serves after q
      → queues.last_of q ≡ queues.last_of m.queue → queues.held q ≡ queues.held m.queue
      → (IsTrue (tells t) → (asks : List Ask) → Waits m.queue (world s) asks → Waits q (world t) asks)
      → KeepsAll tells world s t m frozen
  freeze_keeps values serves last count list = record {
    fit = record {
      sound = record {
        served = served_on m q after fit.sound.served took values serves runs;
        operands = fit.sound.operands;
        phase = subst (λ o. IsPhaseAt m.writer o m.place.phase) (sym last) fit.sound.phase;
      };
      at_work = λ is. (let step = fit.at_work (did.before is) in record {
        inner_step = ap (λ (x : File). length x.bytes) (arcs_same is (inner_file m.writer) (inl refl)) ∙ step.inner_step;
        ends_step = ap (λ (x : File). length x.bytes) (arcs_same is (ends_file m.writer) (inr refl)) ∙ step.ends_step;
      });
    };
    load = count;
    asks = λ is bytes holds. (let (asks, hold) = holds in (
      asks,
      record {
        wait = list is asks hold.wait;
        fit = hold.fit;
        known = hold.known;
        hands = hold.hands;
        no_run = runs_apart m q after fit.sound.served runs hold.no_run;
        reading = λ apart. (let before : AreApart (files_in m) m.parts.step =
            subst (AreApart (files_in m)) took.step_is apart in
            operands_still m (world s) (world t) fit.sound.operands (apart_same is) before (hold.reading before));
      },
    ));
    arcs = λ is xs ys. arcs_still m.writer (world s) (world t) xs ys (arcs_same is (inner_file m.writer) (inl refl))
        (arcs_same is (ends_file m.writer) (inr refl));
    stands = λ is k stands. record {
      asks_are = list is k.asks stands.asks_are;
      read = all_still m (world s) (world t) k.readings fit.sound.operands (apart_same is) stands.apart stands.read;
      written = arcs_still m.writer (world s) (world t) k.inner k.ends
          (arcs_same is (inner_file m.writer) (inl refl)) (arcs_same is (ends_file m.writer) (inr refl)) stands.written;
      one_is = stands.one_is;
      no_run = runs_apart m q after fit.sound.served runs stands.no_run;
      apart = subst (AreApart (files_in m)) (sym took.step_is) stands.apart;
    };
  }

  -- what the tables stand for
  abbrev Shown : List RunTable → List Ask → Type 0
  Shown tables = TablesList IsAsk ask_words ask_cmp after.step tables (queues.last_of q) (world t)

  module _ (result : Result (List RunTable) SortFault)
      (list : IsTrue (tells t) → (asks : List Ask) → Waits m.queue (world s) asks
      → Freezes (Waits q (world t)) Shown asks result) where
    freeze_keeps_all : queues.HoldsValues IsAsk ask_words q → queues.Serves after q
        → queues.last_of q ≡ queues.last_of m.queue → OnOk result (queues.held q ≡ queues.held m.queue)
        → OnOk result (KeepsAll tells world s t m frozen)
    freeze_keeps_all values serves last count = by result count list
      where
        by : (r : Result (List RunTable) SortFault) → OnOk r (queues.held q ≡ queues.held m.queue)
            → (IsTrue (tells t) → (asks : List Ask) → Waits m.queue (world s) asks
            → Freezes (Waits q (world t)) Shown asks r) → OnOk r (KeepsAll tells world s t m frozen)
        by (Ok tables) many kept = freeze_keeps values serves last many (λ is asks waits. (kept is asks waits).0)
        by (Err e) many kept = tt

    freeze_lists : IfOk result (λ tables. IsTrue (tells t) → (k : Contents) → StandsFor m (world s) k
        → Shown tables k.asks)
    freeze_lists = by result list
      where
        by : (r : Result (List RunTable) SortFault) → (IsTrue (tells t) → (asks : List Ask)
            → Waits m.queue (world s) asks → Freezes (Waits q (world t)) Shown asks r)
            → IfOk r (λ tables. IsTrue (tells t) → (k : Contents) → StandsFor m (world s) k → Shown tables k.asks)
        by (Ok tables) kept = λ is k stands. (kept is k.asks stands.asks_are).1
        by (Err e) kept = tt

    -- and what is said of them
    pub freeze_tables : IfOk result AreTables → IfOk result AreTidyTables → IfOk result (ServeTables after)
        → IfOk result (λ tables. (f : FileNo) → queues.IsRunOf q f → NamesAny after.step tables f)
        → IfOk result (λ tables. (f : FileNo) → NamesAny after.step tables f → queues.IsRunOf q f)
        → IfOk result (λ tables. IsTrue (tells t) → AreFirmTables after.step tables (world t))
        → IfOk result (HasTables tells world s t m frozen)
    freeze_tables are tidy served named only firm = by result freeze_lists are tidy served named only firm
      where
        by : (r : Result (List RunTable) SortFault)
            → IfOk r (λ tables. IsTrue (tells t) → (k : Contents) → StandsFor m (world s) k → Shown tables k.asks)
            → IfOk r AreTables → IfOk r AreTidyTables → IfOk r (ServeTables after)
            → IfOk r (λ tables. (f : FileNo) → queues.IsRunOf q f → NamesAny after.step tables f)
            → IfOk r (λ tables. (f : FileNo) → NamesAny after.step tables f → queues.IsRunOf q f)
            → IfOk r (λ tables. IsTrue (tells t) → AreFirmTables after.step tables (world t))
            → IfOk r (HasTables tells world s t m frozen)
        by (Ok tables) lists are tidy served named only firm = record {
          are = are;
          tidy = tidy;
          served = served;
          named = named;
          only = only;
          firm = firm;
          list = lists;
        }
        by (Err e) lists are tidy served named only firm = tt

    freeze_undamaged : IfErr result (λ e. IsTrue (tells t) → (bytes : Option FileBytes)
        → HoldsSome bytes m (world s) → IsNoDamage e)
    freeze_undamaged = by result list
      where
        by : (r : Result (List RunTable) SortFault) → (IsTrue (tells t) → (asks : List Ask)
            → Waits m.queue (world s) asks → Freezes (Waits q (world t)) Shown asks r)
            → IfErr r (λ e. IsTrue (tells t) → (bytes : Option FileBytes)
            → HoldsSome bytes m (world s) → IsNoDamage e)
        by (Ok tables) kept = tt
        by (Err Shelf) kept = λ is bytes holds. tt
        by (Err (Damaged f at)) kept = λ is bytes holds. (let (asks, hold) = holds in kept is asks hold.wait)
        by (Err RunsSpent) kept = λ is bytes holds. tt

    pub freeze_saves : (counts : S → Faults) → queues.HoldsValues IsAsk ask_words q → queues.Serves after q
        → queues.last_of q ≡ queues.last_of m.queue → OnOk result (queues.held q ≡ queues.held m.queue)
        → (IsTrue (tells t) → Paid 2048 (queues.credit m.queue) (queues.credit q) (world s) (world t))
        → PaidParts 512 (queues.stock m.queue) (queues.stock q) m.parts after
        → OnlySortShelf (counts s) (counts t) result → IfErr result (sorters.IsPushCause after m.queue.sorter)
        → Saves tells world counts 2048 512 s t m frozen result
    freeze_saves counts values serves last count paid spent faults cause =
        let served = fit.sound.served in
        record {
          carries = record {
            made = λ f mine. mine;
            making = λ f mine. mine;
            step_is = took.step_is;
            later = took.later;
            within = took.within;
            content = told tells s t _ _ did (λ _ ran. ran_weakens (world s) (world t)
                (Froze (queues.IsRunOf m.queue) m.parts after (now (world s)))
                (OnlySaved (λ f. IsMade (files_in m) f) m.parts.step m.parts.next (now (world s)))
                (λ at froze. froze_saved (λ f. IsMade (files_in m) f) (queues.IsRunOf m.queue) m.parts after
                (now (world s)) at (λ f run. behind f run) (made_free m served) froze) ran);
            untaken = λ is. froze_empty (λ f. IsMade (files_in m) f) (queues.IsRunOf m.queue) m.parts.step m.parts after
                (world s) (world t) (did.did is);
            calls = paid;
            spent = (let all = spent in omega (arith, all));
            faults = faults;
          };
          same = record { files_are = refl; variables_are = refl };
          place_is = refl;
          operands_are = refl;
          last_is = last;
          refused = push_refuses frozen m.queue result (queue_serves_on m.queue m.parts after served.serves took) cause;
          undamaged = freeze_undamaged;
          keeps = freeze_keeps_all values serves last count;
        }
      where
        behind : (f : FileNo) → queues.IsRunOf m.queue f → IsBehindPoints m.parts.step f
        behind f run =
            let taken = queue_taken m.queue m.parts f fit.sound.served.serves run in
            record { step_is = taken.step_is; from = taken.from }

module _ {S : Type 0} (tells : S → Bool) (world : S → World) where
  -- what stays, and stays again
  keeps_then : (s t u : S) (p q r : Machine) → (IsTrue (tells u) → IsTrue (tells t))
      → KeepsAll tells world s t p q → KeepsAll tells world t u q r → KeepsAll tells world s u p r
  keeps_then s t u p q r before first second = record {
    fit = second.fit;
    load = second.load ∙ first.load;
    asks = λ is bytes holds. second.asks is bytes (first.asks (before is) bytes holds);
    arcs = λ is xs ys held. second.arcs is xs ys (first.arcs (before is) xs ys held);
    stands = λ is k stands. second.stands is k (first.stands (before is) k stands);
  }

  -- the arcs that were made sure are so where their files stay
  pub settled_on : (s t u : S) (p q r : Machine) (made : Unreduced) → HasSettled tells world s t p q made
      → (IsTrue (tells u) → IsTrue (tells t)) → r.writer ≡ q.writer
      → (IsTrue (tells u) → (f : FileNo) → IsMade (files_in q) f → file (world u) f ≡ file (world t) f)
      → HasSettled tells world s u p r made
  settled_on s t u p q r made settled before writer same = record {
    made_is = subst (λ (w : ArcWriter). made ≡ made_of w (terminal false)) (sym writer) settled.made_is;
    inner_few = settled.inner_few;
    ends_few = settled.ends_few;
    files = λ is inner ends held. (let are = settled.files (before is) inner ends held in record {
      inner_file = subst (IsFileOf inner made.inner_count)
          (sym (same is made.inner (inl (ap (λ (x : Unreduced). x.inner) settled.made_is)))) are.inner_file;
      ends_file = subst (IsFileOf ends made.ends_count)
          (sym (same is made.ends (inr (ap (λ (x : Unreduced). x.ends) settled.made_is)))) are.ends_file;
    });
  }

  -- and tables are those of what was before
  pub tables_on : (s t u : S) (p q r : Machine) (tables : List RunTable) → (IsTrue (tells u) → IsTrue (tells t))
      → KeepsAll tells world s t p q → HasTables tells world t u q r tables → HasTables tells world s u p r tables
  tables_on s t u p q r tables before keeps has = record {
    are = has.are;
    tidy = has.tidy;
    served = has.served;
    named = has.named;
    only = has.only;
    firm = has.firm;
    list = λ is k stands. has.list is k (keeps.stands (before is) k stands);
  }

  module _ (counts : S → Faults) where
    -- one call after another
    pub saves_then : {A B : Type 0} (k n a b : ℕ) (s t u : S) (p q r : Machine) (one : Result A SortFault)
        (two : Result B SortFault) → Saves tells world counts k a s t p q one → KeepsAll tells world s t p q
        → Saves tells world counts n b t u q r two → Saves tells world counts (k + n) (a + b) s u p r two
    saves_then k n a b s t u p q r one two x keeps y =
        let before = y.carries.content.before in
        record {
          carries = carries_then tells world counts machine_accounts k n a b s t u p q r one two x.carries y.carries;
          same = task_then p q r x.same y.same;
          place_is = y.place_is ∙ x.place_is;
          operands_are = y.operands_are ∙ x.operands_are;
          last_is = y.last_is ∙ x.last_is;
          refused = y.refused;
          undamaged = if_err_map two (λ e none is bytes holds. none is bytes (keeps.asks (before is) bytes holds)) y.undamaged;
          keeps = on_ok_weaker two (λ more. keeps_then s t u p q r before keeps more) y.keeps;
        }

    -- a call costs no more than what is more
    pub saves_more : {T : Type 0} (k n a b : ℕ) (s t : S) (p q : Machine) (result : Result T SortFault) → k ≤ n → a ≤ b
        → Saves tells world counts k a s t p q result → Saves tells world counts n b s t p q result
    saves_more k n a b s t p q result calls parts x = record {
      carries = carries_more tells world counts machine_accounts k n a b s t p q result calls parts x.carries;
      same = x.same;
      place_is = x.place_is;
      operands_are = x.operands_are;
      last_is = x.last_is;
      refused = x.refused;
      undamaged = x.undamaged;
      keeps = x.keeps;
    }

    -- what is answered instead where nothing failed
    pub saves_ok : {A B : Type 0} (k a : ℕ) (s t : S) (p q : Machine) (x : A) (y : B)
        → Saves tells world counts k a s t p q (Ok x) → Saves tells world counts k a s t p q (Ok y)
    saves_ok k a s t p q x y d = record {
      carries = carries_ok tells world counts machine_accounts k a s t p q (Ok x) y d.carries;
      same = d.same;
      place_is = d.place_is;
      operands_are = d.operands_are;
      last_is = d.last_is;
      refused = tt;
      undamaged = tt;
      keeps = d.keeps;
    }

    -- a refusal that is handed on
    pub saves_err : {A B : Type 0} (k a : ℕ) (s t : S) (p q : Machine) (result : Result B SortFault) (e : SortFault)
        → IsErrAnd result (λ f. f ≡ e) → Saves {T = A} tells world counts k a s t p q (Err e)
        → Saves tells world counts k a s t p q result
    saves_err k a s t p q result e is d = record {
      carries = carries_err tells world counts machine_accounts k a s t p q result e is d.carries;
      same = d.same;
      place_is = d.place_is;
      operands_are = d.operands_are;
      last_is = d.last_is;
      refused = on_fault result e (Refuses q) is d.refused;
      undamaged = on_fault result e (λ f. IsTrue (tells t) → (bytes : Option FileBytes)
          → HoldsSome bytes p (world s) → IsNoDamage f) is d.undamaged;
      keeps = refused_ok _ _ result is;
    }
