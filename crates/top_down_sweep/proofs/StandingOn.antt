-- The lists that a machine stands for, from call to call.
use Rattle.std.proofs.Common.{◌≡◌, ℕ, ◌∙◌, Bool, List, [], ◌∷◌, sym, subst, ap, inl, inr}
use Rattle.std.specs.Prelude.{◌⊎◌, Option, Some, None, Result, Ok, Err, IfOk, IfErr, OnOk, IsTrue}
use Rattle.std.specs.List.Sorted.{IsSorted}
use Rattle.shelf_model.specs.declared.file_no.FileNo.{FileNo}
use Rattle.shelf_model.specs.declared.sort_fault.SortFault.{SortFault}
use Rattle.shelf_model.specs.declared.sort_fault.SortFault.TheVariants.{Shelf, Damaged, RunsSpent}
use Rattle.shelf_model.specs.File.{File}
use Rattle.shelf_model.specs.Folder.{Folder, file_in}
use Rattle.shelf_model.specs.Calls.{Told}
use Rattle.shelf_model.specs.Moments.{Ran, Stays}
use Rattle.shelf_model.specs.World.{World, now, file}
use Rattle.shelf_model.proofs.Runs.{ran_end}
use Rattle.arc_file.specs.declared.arc.Arc.{Arc}
use Rattle.arc_file.specs.declared.writer.ArcWriter.{ArcWriter}
use Rattle.arc_file.specs.Pairs.{DuringWrites, WroteBoth}
use Rattle.arc_file.specs.Writers.{inner_file, ends_file, HoldsArcs}
use Rattle.arc_file.proofs.WriterLaws.{held_on}
use Rattle.run_tiers.specs.declared.parts.Parts.{Parts}
use Rattle.run_tiers.specs.Parts.{IsTaken, OnlyTaken, Spilled, Took}
use Rattle.run_merge.specs.Lists.{Joins, Shows, Gives, AnswersShown}
use Rattle.level_queue.specs.declared.queue.LevelQueue.{LevelQueue}
use Rattle.level_queue.specs.Queues as queues
use Rattle.level_queue.proofs.QueueLaws.{queue_kept}
use Rattle.sweep_core.specs.Accounts.{CanBeTaken}
use Rattle.sweep_core.specs.Sweeps.{IsNoDamage}
use Rattle.top_down_laws.specs.Readings.{Readings}
use Rattle.tuple_asks.specs.declared.ask.Ask.{Ask}
use Rattle.tuple_asks.specs.declared.operand.Operands.{Operands}
use Rattle.tuple_asks.specs.declared.place.Place.{Place}
use Rattle.top_down_sweep.specs.declared.machine.Machine.{Machine}
use Rattle.tuple_asks.specs.Items.{ask_words, IsAsk, ask_cmp}
use Rattle.top_down_sweep.specs.Sweeps.{files_in, IsMade, IsServed}
use Rattle.tuple_asks.specs.Operands.{AreOperands}
use Rattle.tuple_asks.specs.Knowing.{FileBytes}
use Rattle.top_down_sweep.specs.Waiting.{Waits, AreApart, HoldsSome}
use Rattle.top_down_sweep.specs.Meaning.{Contents, StandsFor, some_one}
use Rattle.tuple_asks.specs.Readings.{AreRead}
use Rattle.top_down_sweep.specs.Changes.{ShowsAsk, TakesAsk, JoinAsks}
use Rattle.top_down_sweep.proofs.OwnRuns.{serves_past}
use Rattle.top_down_sweep.proofs.Holding.{SameApart, apart_written, apart_spilled, runs_apart}
use Rattle.tuple_asks.proofs.Staying.{looked_same}
use Rattle.tuple_asks.proofs.Staying.{read_still}

-- the asks that wait ascend
pub asks_ascend : (q : LevelQueue Ask) (world : World) (asks : List Ask) → Waits q world asks
    → IsSorted ask_cmp asks
asks_ascend q world asks waits = waits.sorter.ascends

pub all_still : (m : Machine) (old new : World) (r : Readings)
    → AreOperands m.place.variables m.operands → SameApart (files_in m) m.parts.step old new
    → AreApart (files_in m) m.parts.step → AreRead m.operands old r → AreRead m.operands new r
all_still m old new r are same apart read = record {
  first = read_still _ m.operands.first old new r.first are.first
      (same m.operands.first.file apart.first) read.first;
  second = read_still _ m.operands.second old new r.second are.second
      (same m.operands.second.file apart.second) read.second;
  third = read_still _ m.operands.third old new r.third are.third
      (same m.operands.third.file apart.third) read.third;
}

-- and what a writer holds stays where its files do
pub arcs_still : (w : ArcWriter) (old new : World) (inner ends : List Arc)
    → file new (inner_file w) ≡ file old (inner_file w)
    → file new (ends_file w) ≡ file old (ends_file w) → HoldsArcs w old inner ends
    → HoldsArcs w new inner ends
arcs_still w old new inner ends first second held = record {
  inner_are = held_on w.inner old new inner first held.inner_are;
  inner_many = held.inner_many;
  ends_are = held_on w.ends old new ends second held.ends_are;
  ends_many = held.ends_many;
}

-- arcs were put
pub stands_written : (n : ℕ) (m q : Machine) (old new : World) (k : Contents)
    (inner ends : List Arc) → q ≡ record m { place = record m.place { has_one = q.place.has_one }; writer = q.writer }
    → files_in q ≡ files_in m → AreOperands m.place.variables m.operands
    → WroteBoth n (inner_file m.writer) (ends_file m.writer) old new
    → HoldsArcs q.writer new inner ends → q.place.has_one ≡ some_one ends → StandsFor m old k
    → StandsFor q new (record k { inner = inner; ends = ends })
stands_written n m q old new k inner ends rest files are wrote held one stands =
    let same :
    files_in (record m { place = record m.place { has_one = q.place.has_one }; writer = q.writer }) ≡ files_in m =
    ap files_in (sym rest) ∙ files in
    let during = ran_end old new (DuringWrites (inner_file m.writer) (ends_file m.writer) (now old))
    wrote.run in
    let unwritten : (f : FileNo) → queues.IsRunOf m.queue f
    → (file new f).bytes ≡ (file old f).bytes =
    λ f run. ap (λ (x : File). x.bytes) (during.others f (λ is. stands.no_run f (inl is) run)
    (λ is. stands.no_run f (inr is) run)) in
    subst (λ (p : Machine). StandsFor p new (record k { inner = inner; ends = ends })) (sym rest)
    (record {
      asks_are = queue_kept IsAsk ask_words ask_cmp m.queue old new k.asks unwritten
          stands.asks_are;
      read = all_still m old new k.readings are (apart_written m n old new wrote) stands.apart
          stands.read;
      written = held;
      one_is = one;
      no_run = λ f made. stands.no_run f (subst (λ fs. IsMade fs f) same made);
      apart = subst (λ fs. AreApart fs m.parts.step) (sym same) stands.apart;
    })

-- they do where parts were taken, and where files were looked at
pub arcs_spilled : (m : Machine) (after : Parts) (old new : World) → IsServed m
    → Spilled m.parts after old new → (inner ends : List Arc) → HoldsArcs m.writer old inner ends
    → HoldsArcs m.writer new inner ends
arcs_spilled m after old new served spilled inner ends held =
    arcs_still m.writer old new inner ends (untaken _ served.inner_made)
    (untaken _ served.ends_made) held
  where
    untaken : (f : FileNo) → ¬ CanBeTaken m.parts.step m.parts.next f → file new f ≡ file old f
    untaken f free = ran_end old new (OnlyTaken m.parts after (now old)) spilled f
        (λ taken. free (record { step_is = taken.step_is; from = taken.from }))

pub arcs_shown : (w : ArcWriter) (old new : World) → Ran (Stays (now old)) old new
    → (inner ends : List Arc) → HoldsArcs w old inner ends → HoldsArcs w new inner ends
arcs_shown w old new ran inner ends held = arcs_still w old new inner ends (same _) (same _) held
  where
    same : (f : FileNo) → file new f ≡ file old f
    same f = ap (λ (d : Folder). file_in d f) (ran_end old new (Stays (now old)) ran)

-- a queue has another list, and parts were taken
pub stands_spilled : (m : Machine) (q : LevelQueue Ask) (after : Parts) (old new : World)
    (k : Contents) (asks : List Ask) → IsServed m → AreOperands m.place.variables m.operands
    → Spilled m.parts after old new → Took m.parts after
    → ((f : FileNo) → queues.IsRunOf q f → queues.IsRunOf m.queue f ⊎ IsTaken m.parts after f)
    → Waits q new asks → StandsFor m old k
    → StandsFor (record m { queue = q; parts = after }) new (record k { asks = asks })
stands_spilled m q after old new k asks served are spilled took runs waits stands = record {
  asks_are = waits;
  read = all_still m old new k.readings are
      (apart_spilled m after old new (serves_past m.parts m.queue served.serves) spilled) stands.apart stands.read;
  written = arcs_spilled m after old new served spilled k.inner k.ends stands.written;
  one_is = stands.one_is;
  no_run = runs_apart m q after served runs stands.no_run;
  apart = subst (AreApart (files_in m)) (sym took.step_is) stands.apart;
}

-- files were looked at
pub stands_shown : (m : Machine) (q : LevelQueue Ask) (old new : World) (k : Contents)
    → AreOperands m.place.variables m.operands → Ran (Stays (now old)) old new
    → ((f : FileNo) → queues.IsRunOf q f → queues.IsRunOf m.queue f) → Waits q new k.asks
    → StandsFor m old k → StandsFor (record m { queue = q }) new k
stands_shown m q old new k are ran runs waits stands = record {
  asks_are = waits;
  read = all_still m old new k.readings are (λ f _. looked_same old new ran f) stands.apart
      stands.read;
  written = arcs_shown m.writer old new ran k.inner k.ends stands.written;
  one_is = stands.one_is;
  no_run = λ f made run. stands.no_run f made (runs f run);
  apart = stands.apart;
}

-- operands were read
pub stands_read : (m : Machine) (o : Operands) (old new : World) (k : Contents) (r : Readings)
    → files_in (record m { operands = o }) ≡ files_in m → Ran (Stays (now old)) old new
    → AreRead o new r → StandsFor m old k
    → StandsFor (record m { operands = o }) new (record k { readings = r })
stands_read m o old new k r files ran read stands = record {
  asks_are = queue_kept IsAsk ask_words ask_cmp m.queue old new k.asks
      (λ f run. looked_same old new ran f) stands.asks_are;
  read = read;
  written = arcs_shown m.writer old new ran k.inner k.ends stands.written;
  one_is = stands.one_is;
  no_run = λ f made. stands.no_run f (subst (λ fs. IsMade fs f) files made);
  apart = subst (λ fs. AreApart fs m.parts.step) (sym files) stands.apart;
}

-- of the place only that counts, whether an arc that was put leads to 1
pub stands_placed : (m q : Machine) (place : Place) (world : World) (k : Contents)
    → q ≡ record m { place = place } → place.has_one ≡ m.place.has_one → StandsFor m world k → StandsFor q world k
stands_placed m q place world k rest one stands = subst (λ (p : Machine). StandsFor p world k)
    (sym rest) (record {
      asks_are = stands.asks_are;
      read = stands.read;
      written = stands.written;
      one_is = one ∙ stands.one_is;
      no_run = stands.no_run;
      apart = stands.apart;
    })

-- no damage is found by a call of the queue
undamaged_shown : (Now : List Ask → Type 0) (asks : List Ask) (e : SortFault)
    → Shows Now asks (Err e) → IsNoDamage e
undamaged_shown Now asks Shelf shown = tt
undamaged_shown Now asks (Damaged f at) shown = shown
undamaged_shown Now asks RunsSpent shown = tt

undamaged_given : (Now : List Ask → Type 0) (asks : List Ask) (e : SortFault)
    → Gives Now asks (Err e) → IsNoDamage e
undamaged_given Now asks Shelf given = tt
undamaged_given Now asks (Damaged f at) given = given
undamaged_given Now asks RunsSpent given = tt

undamaged_joined : (Now : List Ask → Type 0) (a : Ask) (asks : List Ask) (e : SortFault)
    → Joins Now a asks (Err e) → IsNoDamage e
undamaged_joined Now a asks Shelf joined = tt
undamaged_joined Now a asks (Damaged f at) joined = joined
undamaged_joined Now a asks RunsSpent joined = tt

-- where an ask was shown, it is the one that is taken
pub first_taken : (found shown : Option Ask) (a : Ask) → AnswersShown shown (Ok found)
    → shown ≡ Some a → found ≡ Some a
first_taken found None a answers is = absurd (cc)
first_taken found (Some b) a answers is = cc

module _ {S : Type 0} (tells : S → Bool) (world : S → World) (s t : S) (m : Machine)
    (q : LevelQueue Ask) where
  -- the first ask was shown
  pub shows_ask : (result : Result (Option Ask) SortFault)
      → AreOperands m.place.variables m.operands
      → Told tells s t (Ran (Stays (now (world s))) (world s) (world t))
      → (IsTrue (tells t) → (asks : List Ask) → Waits m.queue (world s) asks
      → Shows (Waits q (world t)) asks result)
      → ((f : FileNo) → queues.IsRunOf q f → queues.IsRunOf m.queue f)
      → IfOk result (λ found. IsTrue (tells t) → (k : Contents) → StandsFor m (world s) k
      → ShowsAsk (record m { queue = q }) (world t) k found)
  shows_ask (Err e) are did list runs = tt
  shows_ask (Ok None) are did list runs = λ told k stands.
      let shown = list told k.asks stands.asks_are in (
        shown.0,
        stands_shown m q (world s) (world t) k are (did.did told) runs shown.1 stands,
      )
  shows_ask (Ok (Some a)) are did list runs = λ told k stands.
      let shown = list told k.asks stands.asks_are in (
        shown.0,
        shown.1,
        stands_shown m q (world s) (world t) k are (did.did told) runs shown.2 stands,
      )

  pub shows_undamaged : (result : Result (Option Ask) SortFault)
      → (IsTrue (tells t) → (asks : List Ask) → Waits m.queue (world s) asks
      → Shows (Waits q (world t)) asks result)
      → IfErr result (λ e. IsTrue (tells t) → (bytes : Option FileBytes)
      → HoldsSome bytes m (world s) → IsNoDamage e)
  shows_undamaged (Ok found) list = tt
  shows_undamaged (Err e) list = λ told bytes holds.
      let (asks, hold) = holds in
      undamaged_shown (Waits q (world t)) asks e (list told asks hold.wait)

  module _ (after : Parts) (did : Told tells s t (Spilled m.parts after (world s) (world t))) where
    -- it was taken
    pub takes_ask : (a : Ask) (found : Option Ask) → IsServed m
        → AreOperands m.place.variables m.operands → Took m.parts after
        → ((f : FileNo) → queues.IsRunOf q f → queues.IsRunOf m.queue f ⊎ IsTaken m.parts after f)
        → (IsTrue (tells t) → (asks : List Ask) → Waits m.queue (world s) asks
        → Gives (Waits q (world t)) asks (Ok found)) → found ≡ Some a → IsTrue (tells t)
        → (k : Contents) → StandsFor m (world s) k
        → TakesAsk (record m { queue = q; parts = after }) (world t) k a
    takes_ask a found served are took runs list is = λ told k stands.
        let given = subst (λ o. Gives (Waits q (world t)) k.asks (Ok o)) is
        (list told k.asks stands.asks_are) in (
          given.0,
          given.1,
          stands_spilled m q after (world s) (world t) k given.0 served are (did.did told) took runs
              given.2 stands,
        )

    pub takes_undamaged : (e : SortFault)
        → (IsTrue (tells t) → (asks : List Ask) → Waits m.queue (world s) asks
        → Gives (Waits q (world t)) asks (Err e)) → IsTrue (tells t) → (bytes : Option FileBytes)
        → HoldsSome bytes m (world s) → IsNoDamage e
    takes_undamaged e list told bytes holds =
        let (asks, hold) = holds in
        undamaged_given (Waits q (world t)) asks e (list told asks hold.wait)

    -- an ask was put
    pub joins_ask : (a : Ask) (result : Result Unit SortFault) → IsServed m
        → AreOperands m.place.variables m.operands → Took m.parts after
        → ((f : FileNo) → queues.IsRunOf q f → queues.IsRunOf m.queue f ⊎ IsTaken m.parts after f)
        → (IsTrue (tells t) → (asks : List Ask) → Waits m.queue (world s) asks
        → Joins (Waits q (world t)) a asks result)
        → OnOk result (IsTrue (tells t) → (k : Contents) → StandsFor m (world s) k
        → JoinAsks (record m { queue = q; parts = after }) (world t) k (a ∷ []))
    joins_ask a (Err e) served are took runs list = tt
    joins_ask a (Ok u) served are took runs list = λ told k stands.
        let joined = list told k.asks stands.asks_are in (
          joined.0,
          joined.1,
          stands_spilled m q after (world s) (world t) k joined.0 served are (did.did told) took
              runs joined.2 stands,
        )

    pub joins_undamaged : (a : Ask) (result : Result Unit SortFault)
        → (IsTrue (tells t) → (asks : List Ask) → Waits m.queue (world s) asks
        → Joins (Waits q (world t)) a asks result)
        → IfErr result (λ e. IsTrue (tells t) → (bytes : Option FileBytes)
        → HoldsSome bytes m (world s) → IsNoDamage e)
    joins_undamaged a (Ok u) list = tt
    joins_undamaged a (Err e) list = λ told bytes holds.
        let (asks, hold) = holds in
        undamaged_joined (Waits q (world t)) a asks e (list told asks hold.wait)
