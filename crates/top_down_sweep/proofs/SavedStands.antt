-- What a checkpoint of a machine that was made sure stands for, and what of it is sure.
use Rattle.std.proofs.Common.{◌≡◌, ◌∙◌, ◌⊎◌, ℕ, ◌-◌, ◌*◌, ◌<◌, ◌≤◌, Bool, List, length, map, refl, sym, ap, subst, inl, inr, arith}
use Rattle.std.specs.Prelude.{Option, Some, None, get_or, IsTrue}
use Rattle.std.proofs.lemmas.List.{length-map, get_or-map, get_or_default}
use Rattle.std.proofs.lemmas.List.Elements.{All-get_or}
use Rattle.shelf_model.specs.declared.file_no.FileNo.{FileNo}
use Rattle.shelf_model.specs.File.{File}
use Rattle.shelf_model.specs.World.{World, file}
use Rattle.shelf_model.proofs.Numbers.{cases_file}
use Rattle.arc_file.specs.declared.unreduced.Unreduced.{Unreduced}
use Rattle.node_file.specs.Readers.{left_of}
use Rattle.run_files.specs.declared.head.Head.{Head}
use Rattle.run_files.specs.Heads.{IsRun, no_head, bytes_of}
use Rattle.run_tiers.specs.declared.run.Run.{Run}
use Rattle.run_tiers.specs.declared.run.RunTable.{RunTable}
use Rattle.run_tiers.specs.Syncs.{IsFirm}
use Rattle.run_tiers.specs.Tables.{IsInUse, no_run, head_of, heads_of}
use Rattle.run_tiers.proofs.TableLaws.{head_used}
use Rattle.level_queue.specs.Queues as queues
use Rattle.level_queue.specs.Shown.{shows_now}
use Rattle.level_queue.specs.Tables.{TablesList, table_at}
use Rattle.level_queue.proofs.QueueLaws.{queue_counted}
use Rattle.sweep_core.specs.declared.checkpoint.Checkpoint.{Checkpoint}
use Rattle.sweep_core.specs.Saving.{IsSure, reads_of}
use Rattle.top_down.specs.declared.tuple.Tuple.{Tuple}
use Rattle.top_down.specs.Rules.{Rule}
use Rattle.top_down_laws.specs.Laws.{unread_all}
use Rattle.top_down_laws.specs.Readings as readings
use Rattle.top_down_laws.specs.Turns.{unread_count, owed}
use Rattle.top_down_sweep.specs.declared.machine.Machine.{Machine}
use Rattle.tuple_asks.specs.declared.place.Numbered.{Numbered}
use Rattle.tuple_asks.specs.declared.place.Place.{Place}
use Rattle.tuple_asks.specs.declared.place.Phase.{Phase}
use Rattle.tuple_asks.specs.declared.place.Phase.TheVariants as phases
use Rattle.tuple_asks.specs.declared.saved.SavedMachine.{SavedMachine}
use Rattle.tuple_asks.specs.declared.files.Files.{Files}
use Rattle.top_down_sweep.specs.Freezing.{KeepsAll, HasSettled, HasTables}
use Rattle.top_down_sweep.specs.Fuel.{fuel_at, weight, machine_fuel}
use Rattle.tuple_asks.specs.Items.{ask_words, IsAsk, ask_cmp}
use Rattle.top_down_sweep.specs.Meaning.{Task, Contents, waiting_of, StandsFor, IsLeft, first_contents, RemainsIn, RemainsOf, IsTaskOver, IsTaskOn}
use Rattle.tuple_asks.specs.Readings.{AreRead}
use Rattle.tuple_asks.specs.Resuming.{read_at}
use Rattle.top_down_sweep.specs.Rebuilds.{asking_in, saved_machine}
use Rattle.tuple_asks.specs.SavedRules.{table_in}
use Rattle.top_down_sweep.specs.Resumes.{queue_tables, Shows, saved_sides, GoesOnAt, GoesOn, IsRest, OnOperand, OnInner, OnEnds, OnRun}
use Rattle.tuple_asks.specs.Resuming.{saved_files, readings_at, AreAmong}
use Rattle.top_down_sweep.specs.Sweeps.{files_in, IsMade}
use Rattle.tuple_asks.specs.Operands.{IsRead}
use Rattle.top_down_sweep.specs.Turns.{left_at, turns_left, sides_at}
use Rattle.top_down_sweep.proofs.SavedNow.{IsSameBut, reading_saved, among_saved}
use Rattle.top_down_sweep.proofs.SavedTables.{run_is_named}
use Rattle.top_down_sweep.proofs.TurnNumbers.{unread_is, owed_is}

-- the operands of a machine are saved as they were read
readings_saved : (d : readings.Diagrams) (q : Machine) (made : Unreduced) (world : World) (r : readings.Readings)
    → AreRead q.operands world r → readings.AreReadings d r → readings_at d (saved_machine q made) ≡ r
readings_saved d q made world r read up_to =
    let o = q.operands in
    let first = reading_saved d.first o.first world r.first read.first up_to.first o.first.hand refl in
    let second = reading_saved d.second o.second world r.second read.second up_to.second o.second.hand refl in
    let third = reading_saved d.third o.third world r.third read.third up_to.third o.third.hand refl in
    λ i. record { first = sym first i; second = sym second i; third = sym third i }

nodes_among : (d : readings.Diagrams) (q : Machine) (made : Unreduced) (world : World) (r : readings.Readings)
    → AreRead q.operands world r → readings.AreReadings d r → AreAmong d (saved_machine q made)
nodes_among d q made world r read up_to =
    let o = q.operands in
    record {
      first = among_saved d.first o.first world r.first read.first up_to.first o.first.hand refl;
      second = among_saved d.second o.second world r.second read.second up_to.second o.second.hand refl;
      third = among_saved d.third o.third world r.third read.third up_to.third o.third.hand refl;
    }

-- at first nothing was read
first_readings : (d : readings.Diagrams) → readings.AreReadings d (unread_all d)
first_readings d = record { first = refl; second = refl; third = refl }

module _ {S : Type 0} (tells : S → Bool) (world : S → World) (s t : S) (m q : Machine) (same : IsSameBut m q)
    (keeps : KeepsAll tells world s t m q) (told : IsTrue (tells t)) (c : Checkpoint) (made : Unreduced)
    (tables : List RunTable) (step : c.step ≡ q.parts.step) (again : queue_tables c ≡ tables)
    (settled : HasSettled tells world s t m q made) (has : HasTables tells world s t m q tables) where
  abbrev x : SavedMachine
  x = saved_machine q made

  shows : (k : Contents) → StandsFor m (world s) k → Shows c x (reads_of (world t)) k.asks k.inner k.ends
  shows k stands =
      let arcs = settled.files told k.inner k.ends stands.written in
      record {
        asks_are = shows_now IsAsk ask_words ask_cmp c.step (queue_tables c) x.taken (world t) k.asks
            (subst (λ v. v) (λ i. TablesList IsAsk ask_words ask_cmp (sym step i) (sym again i) (queues.last_of q.queue)
            (world t) k.asks) (has.list told k stands));
        inner_are = arcs.inner_file.begin;
        ends_are = arcs.ends_file.begin;
        one_is = ap (λ (p : Place). p.has_one) same.place_is ∙ stands.one_is;
      }

  sides_saved : (last : Option Numbered) (k : Contents) → StandsFor q (world t) k
      → sides_at last q ≡ saved_sides last x.arcs k.asks
  sides_saved None k stands = refl
  sides_saved (Some y) k stands =
      let inner = ap (λ (u : Unreduced). u.inner_count) settled.made_is in
      let ends = ap (λ (u : Unreduced). u.ends_count) settled.made_is in
      let held = queue_counted IsAsk ask_words ask_cmp q.queue (world t) k.asks stands.asks_are in
      omega (arith, inner, ends, held)

  -- what remains in each phase, a checkpoint stands for
  record GoesAt (t' : Task) (p : Phase) (tuples : ℕ) : Type 0 where
    among : AreAmong t'.diagrams x
    goes : GoesOnAt (asking_in p) t' c x (reads_of (world t)) tuples (left_at p q (world t) tuples)

  goes_at : (t' : Task) (begins : Tuple → Tuple) (p : Phase) (n tuples : ℕ) → 0 < fuel_at p n
      → RemainsIn t' begins p m (world s) → GoesAt t' p tuples
  goes_at t' begins phases.Fresh n tuples works is =
      let k = first_contents t' in
      let stands = keeps.stands told k is.stands in
      let d = t'.diagrams in
      let read = readings_saved d q made (world t) (unread_all d) stands.read (first_readings d) in
      let many = unread_is q (world t) k stands in
      let counted : unread_count (readings_at d x) ≡ unread_count (unread_all d) = ap unread_count read in
      let hands = stands.read in
      record {
        among = nodes_among d q made (world t) (unread_all d) stands.read (first_readings d);
        goes = record {
          shows = shows k is.stands;
          first_unread = ap (λ h. read_at h (left_of q.operands.first.reader)) hands.first.hand_is;
          second_unread = ap (λ h. read_at h (left_of q.operands.second.reader)) hands.second.hand_is;
          third_unread = ap (λ h. read_at h (left_of q.operands.third.reader)) hands.third.hand_is;
          few = omega (arith, many, counted);
        };
      }
  goes_at t' begins (phases.Asking a) n tuples works is =
      let k = is.contents in
      let stands = keeps.stands told k is.stands in
      let d = t'.diagrams in
      let up_to = is.left.waits.reading in
      let read = readings_saved d q made (world t) k.readings stands.read up_to in
      let owes = owed_is q (world t) k stands in
      let counted : owed (readings_at d x) (map waiting_of k.asks) ≡ owed k.readings (map waiting_of k.asks) =
      ap (λ (r : readings.Readings). owed r (map waiting_of k.asks)) read in
      let sides = sides_saved a.last k stands in
      record {
        among = nodes_among d q made (world t) k.readings stands.read up_to;
        goes = record {
          asks = k.asks;
          inner = k.inner;
          ends = k.ends;
          shows = shows k is.stands;
          left = subst (λ v. v) (λ i. IsLeft t' a (sym same.last_is i) (record {
            asks = k.asks;
            readings = sym read i;
            inner = k.inner;
            ends = k.ends;
          })) is.left;
          few = omega (arith, owes, counted, sides);
        };
      }
  goes_at t' begins (phases.Ended made') n tuples works is = absurd (omega (arith, works))

  -- the files are those of the machine
  files_saved : saved_files x ≡ files_in q
  files_saved = λ i. record {
    first = q.operands.first.file;
    second = q.operands.second.file;
    third = q.operands.third.file;
    inner = (settled.made_is i).inner;
    ends = (settled.made_is i).ends;
  }

  pub goes_saved : (t' : Task) (rule : Rule) (begins : Tuple → Tuple) (tuples : ℕ) → 0 < machine_fuel m
      → IsTaskOn t' rule begins q.place.variables (files_in q) q.parts.step (world t)
      → RemainsOf t' begins m (world s)
      → GoesOn rule begins c x (reads_of (world t)) t' tuples (turns_left q (world t) tuples)
  goes_saved t' rule begins tuples works on_files remains =
      let at = goes_at t' begins m.place.phase (weight m) tuples works remains in
      let place = sym same.place_is in
      record {
        on_files = subst (λ v. v) (λ i. IsTaskOver t' rule begins q.place.variables (sym files_saved i) (sym step i)
            (reads_of (world t))) on_files;
        among = at.among;
        goes_on = subst (λ (p : Place). GoesOnAt (asking_in p.phase) t' c x (reads_of (world t)) tuples
            (left_at p.phase q (world t) tuples)) place at.goes;
      }

  -- the arcs and the runs are sure
  firm_long : (f : File) (n : ℕ) → IsFirm f → n ≤ length f.bytes → n ≤ f.firm
  firm_long f n firm few = let sure = ap (λ (y : File). y.firm) firm in omega (arith, sure, few)

  sure_of : (makes operands : FileNo → Type 0) (f : FileNo) (n : ℕ) → makes f ⊎ (¬ (makes f))
      → n ≤ (file (world t) f).firm → IsSure makes operands (world t) f n
  sure_of makes operands f n either few = inr (either, few)

  made_or_not : (f : FileNo) → IsMade (files_in m) f ⊎ (¬ IsMade (files_in m) f)
  made_or_not f = elim (cases_file f (files_in m).inner) [
    | inl is ↦ inl (inl is)
    | inr not_inner ↦ elim (cases_file f (files_in m).ends) [
      | inl is ↦ inl (inr is)
      | inr not_ends ↦ inr (λ made. elim made [ inl is ↦ not_inner is | inr is ↦ not_ends is ])
    ]
  ]

  run_long : (k : Contents) → StandsFor m (world s) k → (r : Run) (i : ℕ) → i < length (table_at tables 0).runs
      → get_or (table_at tables 0).runs i no_run ≡ r → IsInUse r
      → r.end * 64 ≤ length (file (world t) (record { step = q.parts.step; part = r.part })).bytes
  run_long k stands r i within at used =
      let rs = (table_at tables 0).runs in
      let heads = heads_of q.parts.step (table_at tables 0) in
      let long = length-map rs (head_of q.parts.step) in
      let lists = has.list told k stands in
      let here : get_or heads i no_head ≡ head_of q.parts.step r =
      get_or-map (head_of q.parts.step) rs i no_run no_head within ∙ ap (head_of q.parts.step) at in
      let run : IsRun IsAsk ask_words (head_of q.parts.step r) (bytes_of (world t) (head_of q.parts.step r)) =
      subst (λ (h : Head). IsRun IsAsk ask_words h (bytes_of (world t) h)) here
      (All-get_or (λ (h : Head). IsRun IsAsk ask_words h (bytes_of (world t) h)) heads i no_head
      (omega (arith, long, within)) lists.sorter.runs) in
      let is = head_used q.parts.step r used in
      let whole = (subst (λ (h : Head). IsRun IsAsk ask_words h (bytes_of (world t) h)) is run (r.end - 1)
      (omega (arith, used)) (omega (arith, used))).whole in
      omega (arith, whole, used)

  pub rests_sure : (k : Contents) → StandsFor m (world s) k → files_in q ≡ files_in m → (f : FileNo) (n : ℕ)
      → IsRest c x f n → IsSure (λ g. IsMade (files_in m) g) (λ g. IsRead (files_in m) g) (world t) f n
  rests_sure k stands files f n (OnOperand read) =
      inl (subst (λ (fs : Files). IsRead fs f) (files_saved ∙ files) read)
  rests_sure k stands files f n (OnInner is upto) =
      let arcs = (settled.files told k.inner k.ends stands.written).inner_file in
      let all = arcs.all in
      let few : n ≤ length (file (world t) made.inner).bytes = omega (arith, all, upto) in
      subst (λ g. IsSure (λ h. IsMade (files_in m) h) (λ h. IsRead (files_in m) h) (world t) g n) (sym is)
      (sure_of (IsMade (files_in m)) (IsRead (files_in m)) made.inner n (made_or_not made.inner) (firm_long (file (world t) made.inner) n arcs.firm few))
  rests_sure k stands files f n (OnEnds is upto) =
      let arcs = (settled.files told k.inner k.ends stands.written).ends_file in
      let all = arcs.all in
      let few : n ≤ length (file (world t) made.ends).bytes = omega (arith, all, upto) in
      subst (λ g. IsSure (λ h. IsMade (files_in m) h) (λ h. IsRead (files_in m) h) (world t) g n) (sym is)
      (sure_of (IsMade (files_in m)) (IsRead (files_in m)) made.ends n (made_or_not made.ends) (firm_long (file (world t) made.ends) n arcs.firm few))
  rests_sure k stands files f n (OnRun (i, r, within, is, (used, file_is, upto))) =
      let table : table_in c 0 ≡ table_at tables 0 = ap (λ ts. table_at ts 0) again in
      let runs : (table_in c 0).runs ≡ (table_at tables 0).runs = ap (λ (w : RunTable). w.runs) table in
      let there : i < length (table_at tables 0).runs = subst (λ rs. i < length rs) runs within in
      let at : get_or (table_at tables 0).runs i no_run ≡ r = ap (λ rs. get_or rs i no_run) (sym runs)
      ∙ get_or_default (table_in c 0).runs i no_run r within ∙ is in
      let here : f ≡ record { step = q.parts.step; part = r.part } = file_is
      ∙ (λ j. record { step = step j; part = r.part }) in
      let long = run_long k stands r i there at used in
      let firm = has.firm told f (run_is_named q.parts.step (table_at tables 0) f
      (i, r, there, ap (λ rs. get_or rs i r) (sym runs) ∙ is, (used, here))) in
      let bytes : length (file (world t) f).bytes
      ≡ length (file (world t) (record { step = q.parts.step; part = r.part })).bytes =
      ap (λ g. length (file (world t) g).bytes) here in
      sure_of (IsMade (files_in m)) (IsRead (files_in m)) f n (made_or_not f) (firm_long (file (world t) f) n firm (omega (arith, upto, long, bytes)))
