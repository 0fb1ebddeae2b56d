-- What waits, and what was read of the operands, from call to call.
use Rattle.std.proofs.Common.{◌≡◌, ℕ, ◌≤◌, ◌<◌, ◌∙◌, Bool, true, false, List, [], ◌∷◌, All, refl, sym, subst, ap, inl}
use Rattle.std.proofs.Common.{inr, arith}
use Rattle.std.specs.Prelude.{◌⊎◌, Option, Some, None, Result, Ok, Err, IfSome, IfOk, IfErr, OnOk, IsTrue, get_or}
use Rattle.std.specs.Prelude.{◌||◌}
use Rattle.std.specs.List.Sorted.{IsSorted}
use Rattle.std.specs.Ordering.{nat_cmp, ordering_then, is_lt, MatchOrdering}
use Rattle.std.specs.declared.cmp.Ordering.{Ordering}
use Rattle.std.specs.declared.cmp.Ordering.TheVariants.{Less, Equal, Greater}
use Rattle.std.specs.Cmp.{IsTotalOrder, IsStrictWeakOrder}
use Rattle.std.proofs.lemmas.Cmp.{ranked, then_total, on_total, nat_cmp_total}
use Rattle.std.proofs.lemmas.List.MinMax.{ranks_by}
use Rattle.std.proofs.lemmas.List.Elements.{All-tail, All-cons}
use Rattle.std.proofs.lemmas.List.Sorted.{All-permutation}
use Rattle.rec_words.specs.Words.{level_of, IsNodeWord}
use Rattle.rec_words.specs.declared.node.Node.{Node}
use Rattle.shelf_model.specs.declared.file_no.FileNo.{FileNo}
use Rattle.shelf_model.specs.declared.sort_fault.SortFault.{SortFault}
use Rattle.shelf_model.specs.declared.sort_fault.SortFault.TheVariants.{Shelf, Damaged, RunsSpent}
use Rattle.shelf_model.specs.File.{File}
use Rattle.shelf_model.specs.Calls.{Told}
use Rattle.shelf_model.specs.Moments.{Ran, Stays}
use Rattle.shelf_model.specs.World.{World, now, file}
use Rattle.shelf_model.proofs.Runs.{ran_end}
use Rattle.arc_file.specs.Pairs.{DuringWrites, WroteBoth}
use Rattle.arc_file.specs.Writers.{inner_file, ends_file}
use Rattle.run_tiers.specs.declared.parts.Parts.{Parts}
use Rattle.run_tiers.specs.Parts.{IsTaken, OnlyTaken, Spilled, Took}
use Rattle.run_files.proofs.RecordOrder.{none_less}
use Rattle.run_merge.specs.Lists.{Joins, Shows, Gives}
use Rattle.level_queue.specs.declared.queue.LevelQueue.{LevelQueue}
use Rattle.level_queue.specs.Queues as queues
use Rattle.level_queue.proofs.QueueLaws.{queue_kept}
use Rattle.sweep_core.specs.Accounts.{CanBeTaken}
use Rattle.sweep_core.proofs.Leaving.{taken_before}
use Rattle.node_file.specs.declared.reader.NodeReader.{NodeReader}
use Rattle.node_reading.specs.Reading.{bytes_of, IsReading}
use Rattle.node_reading.proofs.NodeReading.{still_reading}
use Rattle.tuple_asks.specs.declared.ask.Ask.{Ask}
use Rattle.tuple_asks.specs.declared.ask.Member.{Member}
use Rattle.tuple_asks.specs.declared.operand.Operand.{Operand}
use Rattle.tuple_asks.specs.declared.operand.Operands.{Operands}
use Rattle.tuple_asks.specs.declared.place.Place.{Place}
use Rattle.top_down_sweep.specs.declared.machine.Machine.{Machine}
use Rattle.tuple_asks.specs.declared.files.Files.{Files}
use Rattle.tuple_asks.specs.Items.{ask_words, IsAsk, member_cmp, members_cmp, ask_cmp}
use Rattle.top_down_sweep.specs.Sweeps.{files_in, IsMade, IsServed, IsTakenTo}
use Rattle.tuple_asks.specs.Operands.{IsOperand, AreOperands}
use Rattle.top_down_sweep.specs.Waiting.{Waits, IsApart, AreApart}
use Rattle.tuple_asks.specs.Operands.{IsReadTo, AreReadTo, Fits, AreReading, HasNoHands}
use Rattle.top_down_sweep.specs.Waiting.{AreBytesOf, KnowsAsk, Holds, HoldsSome, HoldsFirst}
use Rattle.top_down.specs.declared.tuple.Tuple.{Tuple}
use Rattle.top_down.specs.Rules.{Rule}
use Rattle.tuple_asks.specs.Knowing.{FileBytes, KnowsMembers, KnowsBelow, KnowsHands, StaysKnown}
use Rattle.top_down_sweep.specs.Knowing.{bytes_in}
use Rattle.tuple_asks.specs.Members.{is_node}
use Rattle.tuple_asks.specs.Damage.{IsReadDamage}
use Rattle.top_down_sweep.specs.Damage.{IsMachineDamage}
use Rattle.top_down_sweep.specs.Calls.{KeepsAsks}
use Rattle.top_down_sweep.proofs.OwnRuns.{serves_past}
use Rattle.tuple_asks.proofs.Staying.{looked_same}

-- each file apart from what is written stays
abbrev pub SameApart : Files → ℕ → World → World → Type 0
SameApart files step old new = (f : FileNo) → IsApart files step f
    → (file new f).bytes ≡ (file old f).bytes

pub apart_written : (m : Machine) (n : ℕ) (old new : World)
    → WroteBoth n (inner_file m.writer) (ends_file m.writer) old new
    → SameApart (files_in m) m.parts.step old new
apart_written m n old new wrote f apart =
    ap (λ (x : File). x.bytes) ((ran_end old new
    (DuringWrites (inner_file m.writer) (ends_file m.writer) (now old)) wrote.run).others f
    apart.not_inner apart.not_ends)

pub apart_spilled : (m : Machine) (after : Parts) (old new : World) → 3 ≤ m.parts.next
    → Spilled m.parts after old new → SameApart (files_in m) m.parts.step old new
apart_spilled m after old new past spilled f apart =
    ap (λ (x : File). x.bytes) (ran_end old new (OnlyTaken m.parts after (now old)) spilled f
    (λ taken. let early : f.part < 3 = apart.no_part taken.step_is in let from : m.parts.next
    ≤ f.part = taken.from in absurd (omega (arith, early, from, past))))

-- a reader has read its file as it is
still : (r : NodeReader) (old new : World) → bytes_of r new ≡ bytes_of r old → IsReading r old
    → IsReading r new
still r old new same reading = still_reading r r old new refl same reading reading.reads

pub operand_still : (n : ℕ) (o : Operand) (old new : World) → IsOperand n o
    → (file new o.file).bytes ≡ (file old o.file).bytes → IsReading o.reader old
    → IsReading o.reader new
operand_still n o old new is same = still o.reader old new
    (ap (λ f. (file new f).bytes) is.file_is ∙ same ∙ sym (ap (λ f. (file old f).bytes) is.file_is))

pub operands_still : (m : Machine) (old new : World) → AreOperands m.place.variables m.operands
    → SameApart (files_in m) m.parts.step old new → AreApart (files_in m) m.parts.step
    → AreReading m.operands old → AreReading m.operands new
operands_still m old new are same apart reading = record {
  first = operand_still _ m.operands.first old new are.first
      (same m.operands.first.file apart.first) reading.first;
  second = operand_still _ m.operands.second old new are.second
      (same m.operands.second.file apart.second) reading.second;
  third = operand_still _ m.operands.third old new are.third
      (same m.operands.third.file apart.third) reading.third;
}

-- arcs were put
pub holds_written : (bytes : Option FileBytes) (n : ℕ) (m q : Machine) (old new : World) (asks : List Ask)
    → q ≡ record m { place = record m.place { has_one = q.place.has_one }; writer = q.writer } → files_in q ≡ files_in m
    → AreOperands m.place.variables m.operands
    → WroteBoth n (inner_file m.writer) (ends_file m.writer) old new → Holds bytes m old asks
    → Holds bytes q new asks
holds_written bytes n m q old new asks rest files are wrote hold =
    let same :
    files_in (record m { place = record m.place { has_one = q.place.has_one }; writer = q.writer }) ≡ files_in m =
    ap files_in (sym rest) ∙ files in
    let during = ran_end old new (DuringWrites (inner_file m.writer) (ends_file m.writer) (now old))
    wrote.run in
    let unwritten : (f : FileNo) → queues.IsRunOf m.queue f
    → (file new f).bytes ≡ (file old f).bytes =
    λ f run. ap (λ (x : File). x.bytes) (during.others f (λ is. hold.no_run f (inl is) run)
    (λ is. hold.no_run f (inr is) run)) in
    subst (λ (p : Machine). Holds bytes p new asks) (sym rest) (record {
      wait = queue_kept IsAsk ask_words ask_cmp m.queue old new asks unwritten hold.wait;
      fit = hold.fit;
      known = hold.known;
      hands = hold.hands;
      no_run = λ f made. hold.no_run f (subst (λ fs. IsMade fs f) same made);
      reading = λ apart. (let before : AreApart (files_in m) m.parts.step =
          subst (λ fs. AreApart fs m.parts.step) same apart in
          operands_still m old new are (apart_written m n old new wrote) before
          (hold.reading before));
    })

-- another place is known
pub holds_placed : (bytes : Option FileBytes) (m q : Machine) (place : Place) (world : World)
    → q ≡ record m { place = place } → HoldsSome bytes m world → HoldsSome bytes q world
holds_placed bytes m q place world rest (asks, hold) =
    subst (λ (p : Machine). HoldsSome bytes p world) (sym rest) (
      asks,
      record {
        wait = hold.wait;
        fit = hold.fit;
        known = hold.known;
        hands = hold.hands;
        no_run = hold.no_run;
        reading = hold.reading;
      },
    )

-- runs of the queue in files that aren't made
pub runs_apart : (m : Machine) (q : LevelQueue Ask) (after : Parts) → IsServed m
    → ((f : FileNo) → queues.IsRunOf q f → queues.IsRunOf m.queue f ⊎ IsTaken m.parts after f)
    → ((f : FileNo) → IsMade (files_in m) f → ¬ queues.IsRunOf m.queue f) → (f : FileNo)
    → IsMade (files_in m) f → ¬ queues.IsRunOf q f
runs_apart m q after served runs apart f made run = elim (runs f run)
    [ inl old ↦ apart f made old | inr taken ↦ untaken made taken ]
  where
    untaken : IsMade (files_in m) f → IsTaken m.parts after f → ⊥
    untaken (inl is) t = served.inner_made (subst (CanBeTaken m.parts.step m.parts.next) is
        (record { step_is = t.step_is; from = t.from }))
    untaken (inr is) t = served.ends_made (subst (CanBeTaken m.parts.step m.parts.next) is
        (record { step_is = t.step_is; from = t.from }))

-- a queue that parts were taken for is served as it was
pub served_on : (m : Machine) (q : LevelQueue Ask) (after : Parts) → IsServed m → Took m.parts after
    → queues.HoldsValues IsAsk ask_words q → queues.Serves after q
    → ((f : FileNo) → queues.IsRunOf q f → queues.IsRunOf m.queue f ⊎ IsTaken m.parts after f)
    → IsServed (record m { queue = q; parts = after })
served_on m q after served took values serves runs = record {
  values = values;
  serves = serves;
  inner_made = λ free. served.inner_made (taken_before m.parts.step m.parts.next after.step after.next _
      took.step_is took.later free);
  ends_made = λ free. served.ends_made (taken_before m.parts.step m.parts.next after.step after.next _
      took.step_is took.later free);
  inner_apart = runs_apart m q after served runs no_run (inner_file m.writer) (inl refl);
  ends_apart = runs_apart m q after served runs no_run (ends_file m.writer) (inr refl);
}
  where
    no_run : (f : FileNo) → IsMade (files_in m) f → ¬ queues.IsRunOf m.queue f
    no_run f (inl is) run = served.inner_apart (subst (queues.IsRunOf m.queue) is run)
    no_run f (inr is) run = served.ends_apart (subst (queues.IsRunOf m.queue) is run)

-- and so is one that was looked at
pub served_shown : (m : Machine) (q : LevelQueue Ask) → IsServed m
    → queues.HoldsValues IsAsk ask_words q → queues.Serves m.parts q
    → ((f : FileNo) → queues.IsRunOf q f → queues.IsRunOf m.queue f)
    → IsServed (record m { queue = q })
served_shown m q served values serves runs = served_on m q m.parts served
    (record { step_is = refl; later = omega arith; within = λ few. few }) values serves (λ f run. inl (runs f run))

module _ (m : Machine) (q : LevelQueue Ask) (after : Parts) (old new : World) (served : IsServed m)
    (are : AreOperands m.place.variables m.operands)
    (spilled : Spilled m.parts after old new) (took : Took m.parts after)
    (runs : (f : FileNo) → queues.IsRunOf q f
    → queues.IsRunOf m.queue f ⊎ IsTaken m.parts after f) where
  still_read : (bytes : Option FileBytes) (asks : List Ask) → Holds bytes m old asks
      → AreApart (files_in m) after.step → AreReading m.operands new
  still_read bytes asks hold apart =
      let before : AreApart (files_in m) m.parts.step = subst (AreApart (files_in m)) took.step_is
      apart in
      operands_still m old new are (apart_spilled m after old new (serves_past m.parts m.queue served.serves) spilled)
      before (hold.reading before)

  -- the first ask was taken
  pub holds_taken : (bytes : Option FileBytes) (found : Option Ask) (asks : List Ask)
      → Gives (Waits q new) asks (Ok found) → Holds bytes m old asks
      → HoldsSome bytes (record m { queue = q; parts = after }) new
  holds_taken bytes None asks given hold = (
    [],
    record {
      wait = subst (Waits q new) given.0 given.1;
      fit = λ k d within. absurd (omega (arith, within));
      known = λ k d within. absurd (omega (arith, within));
      hands = hold.hands;
      no_run = runs_apart m q after served runs hold.no_run;
      reading = still_read bytes asks hold;
    },
  )
  holds_taken bytes (Some a) asks given hold = (
    given.0,
    record {
      wait = given.2;
      fit = All-tail (Fits m.operands) a given.0 (subst (All (Fits m.operands)) given.1 hold.fit);
      known = All-tail (KnowsAsk bytes) a given.0 (subst (All (KnowsAsk bytes)) given.1 hold.known);
      hands = hold.hands;
      no_run = runs_apart m q after served runs hold.no_run;
      reading = still_read bytes asks hold;
    },
  )

  -- an ask was put
  pub holds_put : (bytes : Option FileBytes) (a : Ask) (result : Result Unit SortFault) (asks : List Ask)
      → Joins (Waits q new) a asks result → Fits m.operands a → KnowsAsk bytes a → Holds bytes m old asks
      → OnOk result (HoldsSome bytes (record m { queue = q; parts = after }) new)
  holds_put bytes a (Err e) asks joined fits knows hold = tt
  holds_put bytes a (Ok u) asks joined fits knows hold = (
    joined.0,
    record {
      wait = joined.2;
      fit = All-permutation (Fits m.operands) (a ∷ asks) joined.0 joined.1
          (All-cons (Fits m.operands) a asks fits hold.fit);
      known = All-permutation (KnowsAsk bytes) (a ∷ asks) joined.0 joined.1
          (All-cons (KnowsAsk bytes) a asks knows hold.known);
      hands = hold.hands;
      no_run = runs_apart m q after served runs hold.no_run;
      reading = still_read bytes asks hold;
    },
  )

-- the first ask is shown
pub holds_shown : (bytes : Option FileBytes) (m : Machine) (q : LevelQueue Ask) (old new : World) (found : Option Ask)
    (asks : List Ask) → AreOperands m.place.variables m.operands
    → Shows (Waits q new) asks (Ok found) → Ran (Stays (now old)) old new
    → ((f : FileNo) → queues.IsRunOf q f → queues.IsRunOf m.queue f) → Holds bytes m old asks
    → IfSome found (λ a. HoldsFirst bytes a (record m { queue = q }) new)
holds_shown bytes m q old new None asks are shown ran runs hold = tt
holds_shown bytes m q old new (Some a) asks are shown ran runs hold = (
  shown.0,
  record {
    wait = subst (Waits q new) shown.1 shown.2;
    fit = subst (All (Fits m.operands)) shown.1 hold.fit;
    known = subst (All (KnowsAsk bytes)) shown.1 hold.known;
    hands = hold.hands;
    no_run = λ f made run. hold.no_run f made (runs f run);
    reading = λ apart. operands_still m old new are (λ f _. looked_same old new ran f) apart
        (hold.reading apart);
  },
)

-- the order of asks
member_total : (f : Ask → Member) → IsTotalOrder (λ (x y : Ask). member_cmp (f x) (f y))
member_total f = then_total (on_total (λ a. (f a).low) nat_cmp_total)
    (on_total (λ a. (f a).high) nat_cmp_total)

pub ask_total : IsTotalOrder ask_cmp
ask_total =
    then_total (on_total (λ (a : Ask). a.key) nat_cmp_total)
    (then_total (then_total (member_total (λ a. a.members.first))
    (then_total (member_total (λ a. a.members.second)) (member_total (λ a. a.members.third))))
    (on_total (λ (a : Ask). a.asker) nat_cmp_total))

pub key_from : (a b : Ask) → is_lt (ask_cmp b a) ≡ false → a.key ≤ b.key
key_from a b none = by (nat_cmp b.key a.key) (ranked b.key a.key (nat_cmp b.key a.key) refl) none
  where
    by : (o : Ordering) → MatchOrdering o (b.key < a.key) (b.key ≡ a.key) (a.key < b.key)
        → is_lt (ordering_then o (ordering_then (members_cmp b.members a.members)
        (nat_cmp b.asker a.asker))) ≡ false → a.key ≤ b.key
    by Less below none = absurd (cc)
    by Equal same none = omega (arith, same)
    by Greater above none = omega (arith, above)

-- an ask of a deeper level than the last one taken comes no earlier
pub deeper_no_less : (last : Option Ask) (level : ℕ) (a : Ask) → IsTakenTo level last
    → level < level_of a.key → queues.IsNoLess ask_cmp last a
deeper_no_less None level a taken deeper = tt
deeper_no_less (Some l) level a taken deeper =
    by (nat_cmp a.key l.key) (ranked a.key l.key (nat_cmp a.key l.key) refl)
  where
    by : (o : Ordering) → MatchOrdering o (a.key < l.key) (a.key ≡ l.key) (l.key < a.key)
        → is_lt (ordering_then o (ordering_then (members_cmp a.members l.members)
        (nat_cmp a.asker l.asker))) ≡ false
    by Less below = absurd (omega (arith, below, taken, deeper))
    by Equal same = absurd (omega (arith, same, taken, deeper))
    by Greater above = refl

-- no key of those that wait is less than the first one's
keys_from : (a : Ask) (rest : List Ask) → IsSorted ask_cmp (a ∷ rest)
    → All (λ (b : Ask). a.key ≤ b.key) (a ∷ rest)
keys_from a rest up =
    let order : IsStrictWeakOrder (λ (x y : Ask). is_lt (ask_cmp x y)) = ranks_by ask_total
    (λ (x : Ask). x) in
    λ k d within. key_from a (get_or (a ∷ rest) k d)
    (none_less (λ (x y : Ask). is_lt (ask_cmp x y)) order a rest up k d within)

read_to : (o : Operand) (k l : ℕ) → k ≤ l → IsReadTo k o → IsReadTo l o
read_to o k l later read = by o.hand read
  where
    by : (hand : Option Node) → IfSome hand (λ x. x.uid ≤ k) → IfSome hand (λ x. x.uid ≤ l)
    by None read = tt
    by (Some x) read = omega (arith, read, later)

-- a node was read that the first ask wants
pub holds_read : (bytes : Option FileBytes) (m : Machine) (o : Operands) (old new : World) (a : Ask)
    → files_in (record m { operands = o }) ≡ files_in m → IsReadTo a.key o.first
    → IsReadTo a.key o.second → IsReadTo a.key o.third
    → Ran (Stays (now old)) old new → (AreApart (files_in m) m.parts.step
    → AreReading m.operands old → AreReading o new)
    → (IfSome bytes (λ b. KnowsHands b m.operands) → (AreApart (files_in m) m.parts.step → AreReading m.operands old)
    → IfSome bytes (λ b. KnowsHands b o))
    → HoldsFirst bytes a m old → HoldsSome bytes (record m { operands = o }) new
holds_read bytes m o old new a files first second third ran on hands (rest, hold) =
    let keys = keys_from a rest hold.wait.sorter.ascends in (
      a ∷ rest,
      record {
        wait = queue_kept IsAsk ask_words ask_cmp m.queue old new (a ∷ rest)
            (λ f run. looked_same old new ran f) hold.wait;
        fit = λ k d within. record {
          first = read_to o.first a.key _ (keys k d within) first;
          second = read_to o.second a.key _ (keys k d within) second;
          third = read_to o.third a.key _ (keys k d within) third;
        };
        known = hold.known;
        hands = hands hold.hands hold.reading;
        no_run = λ f made. hold.no_run f (subst (λ fs. IsMade fs f) files made);
        reading = λ apart. (let before : AreApart (files_in m) m.parts.step =
            subst (λ fs. AreApart fs m.parts.step) files apart in on before (hold.reading before));
      },
    )

-- the first ask that waits fits
pub first_fits : (bytes : Option FileBytes) (a : Ask) (m : Machine) (world : World) → HoldsFirst bytes a m world
    → Fits m.operands a
first_fits bytes a m world (rest, hold) = hold.fit 0 a (omega arith)

-- and names what the files know
pub first_knows : (bytes : Option FileBytes) (a : Ask) (m : Machine) (world : World) → HoldsFirst bytes a m world
    → KnowsAsk bytes a
first_knows bytes a m world (rest, hold) = hold.known 0 a (omega arith)

pub first_hands : (bytes : Option FileBytes) (a : Ask) (m : Machine) (world : World) → HoldsFirst bytes a m world
    → IfSome bytes (λ b. KnowsHands b m.operands)
first_hands bytes a m world (rest, hold) = hold.hands

pub first_holds : (bytes : Option FileBytes) (a : Ask) (m : Machine) (world : World) → HoldsFirst bytes a m world
    → HoldsSome bytes m world
first_holds bytes a m world (rest, hold) = (a ∷ rest, hold)

-- whatever the files know of it
pub first_forgets : (bytes : Option FileBytes) (a : Ask) (m : Machine) (world : World) → HoldsFirst bytes a m world
    → HoldsFirst None a m world
first_forgets bytes a m world (rest, hold) = (
  rest,
  record {
    wait = hold.wait;
    fit = hold.fit;
    known = λ k d within. tt;
    hands = tt;
    no_run = hold.no_run;
    reading = hold.reading;
  },
)

-- what follows of each refusal
pub if_err_map : {A : Type 0} {P Q : SortFault → Type 0} (result : Result A SortFault)
    → ((e : SortFault) → P e → Q e) → IfErr result P → IfErr result Q
if_err_map (Ok x) f is = tt
if_err_map (Err e) f is = f e is

pub third_wanted : (b c d : Bool) → b ≡ false → c ≡ false → (b || (c || d)) ≡ true → d ≡ true
third_wanted true c d first second any = absurd (cc)
third_wanted false true d first second any = absurd (cc)
third_wanted false false d first second any = any

module _ {S : Type 0} (tells : S → Bool) (world : S → World) where
  -- the first ask was shown
  pub shown_at : (s t : S) (m : Machine) (q : LevelQueue Ask)
      (result : Result (Option Ask) SortFault) → AreOperands m.place.variables m.operands
      → Told tells s t (Ran (Stays (now (world s))) (world s) (world t))
      → (IsTrue (tells t) → (asks : List Ask) → Waits m.queue (world s) asks
      → Shows (Waits q (world t)) asks result)
      → ((f : FileNo) → queues.IsRunOf q f → queues.IsRunOf m.queue f)
      → IfOk result (λ found. IfSome found (λ a. IsTrue (tells t) → (bytes : Option FileBytes)
      → HoldsSome bytes m (world s) → HoldsFirst bytes a (record m { queue = q }) (world t)))
  shown_at s t m q (Ok None) are did list runs = tt
  shown_at s t m q (Ok (Some a)) are did list runs = λ told bytes holds.
      let (asks, hold) = holds in
      holds_shown bytes m q (world s) (world t) (Some a) asks are (list told asks hold.wait)
      (did.did told) runs hold
  shown_at s t m q (Err e) are did list runs = tt

  -- it was taken
  pub taken_at : (s t : S) (m : Machine) (q : LevelQueue Ask) (after : Parts) (found : Option Ask)
      → IsServed m → AreOperands m.place.variables m.operands
      → Told tells s t (Spilled m.parts after (world s) (world t)) → Took m.parts after
      → ((f : FileNo) → queues.IsRunOf q f → queues.IsRunOf m.queue f ⊎ IsTaken m.parts after f)
      → (IsTrue (tells t) → (asks : List Ask) → Waits m.queue (world s) asks
      → Gives (Waits q (world t)) asks (Ok found))
      → IsTrue (tells t) → (bytes : Option FileBytes)
      → KeepsAsks bytes m (world s) (record m { queue = q; parts = after }) (world t)
  taken_at s t m q after found served are did took runs list told bytes holds =
      let (asks, hold) = holds in
      holds_taken m q after (world s) (world t) served are (did.did told) took runs bytes found asks
      (list told asks hold.wait) hold

  -- an ask was put
  pub put_at : (s t : S) (m : Machine) (q : LevelQueue Ask) (after : Parts) (a : Ask)
      (result : Result Unit SortFault) → IsServed m → AreOperands m.place.variables m.operands
      → Told tells s t (Spilled m.parts after (world s) (world t)) → Took m.parts after
      → ((f : FileNo) → queues.IsRunOf q f → queues.IsRunOf m.queue f ⊎ IsTaken m.parts after f)
      → (IsTrue (tells t) → (asks : List Ask) → Waits m.queue (world s) asks
      → Joins (Waits q (world t)) a asks result)
      → OnOk result (IsTrue (tells t) → Fits m.operands a → (bytes : Option FileBytes) → KnowsAsk bytes a
      → KeepsAsks bytes m (world s) (record m { queue = q; parts = after }) (world t))
  put_at s t m q after a (Err e) served are did took runs list = tt
  put_at s t m q after a (Ok u) served are did took runs list = λ told fits bytes knows holds.
      let (asks, hold) = holds in
      holds_put m q after (world s) (world t) served are (did.did told) took runs bytes a (Ok u) asks
      (list told asks hold.wait) fits knows hold

  -- an arc was put
  pub written_at : (n : ℕ) (s t : S) (m q : Machine)
      → q ≡ record m { place = record m.place { has_one = q.place.has_one }; writer = q.writer }
      → files_in q ≡ files_in m → AreOperands m.place.variables m.operands
      → Told tells s t (WroteBoth n (inner_file m.writer) (ends_file m.writer) (world s) (world t))
      → IsTrue (tells t) → (bytes : Option FileBytes) → KeepsAsks bytes m (world s) q (world t)
  written_at n s t m q rest files are did told bytes holds =
      let (asks, hold) = holds in
      (asks, holds_written bytes n m q (world s) (world t) asks rest files are (did.did told) hold)

-- an ask that is put again fits
pub again_fits : (m q : Machine) (a b : Ask) → q ≡ record m { queue = q.queue; parts = q.parts }
    → a.key < b.key → Fits m.operands a → Fits q.operands b
again_fits m q a b rest later fits = subst (λ (p : Machine). Fits p.operands b) (sym rest) (record {
  first = read_to m.operands.first a.key b.key (omega (arith, later)) fits.first;
  second = read_to m.operands.second a.key b.key (omega (arith, later)) fits.second;
  third = read_to m.operands.third a.key b.key (omega (arith, later)) fits.third;
})

-- no operand was read past the level of an ask that fits
pub read_level : (o : Operands) (a : Ask) (level : ℕ) → level ≡ level_of a.key
    → Fits o a → AreReadTo level o
read_level o a level is fits = record {
  first = by o.first.hand fits.first;
  second = by
      o.second.hand fits.second;
  third = by o.third.hand fits.third;
}
  where
    by : (hand : Option Node) → IfSome hand (λ x. x.uid ≤ a.key)
        → IfSome hand (λ x. level_of x.uid ≤ level)
    by None read = tt
    by (Some x) read = omega (arith, read, is)

-- an ask of a deeper level fits
pub deeper_fits : (o : Operands) (level : ℕ) (b : Ask) → level < level_of b.key
    → AreReadTo level o → Fits o b
deeper_fits o level b deeper read =
    record {
      first = by o.first.hand read.first;
      second = by o.second.hand
          read.second;
      third = by o.third.hand read.third;
    }
  where
    by : (hand : Option Node) → IfSome hand (λ x. level_of x.uid ≤ level)
        → IfSome hand (λ x. x.uid ≤ b.key)
    by None read = tt
    by (Some x) read = omega (arith, read, deeper)

-- where no node is at hand each ask fits
pub fresh_fits : (o : Operands) (b : Ask) → HasNoHands o → Fits o b
fresh_fits o b none = record {
  first = by o.first none.first;
  second = by
      o.second none.second;
  third = by o.third none.third;
}
  where
    by : (x : Operand) → x.hand ≡ None → IsReadTo b.key x
    by x is = subst (λ hand. IfSome hand (λ n. n.uid ≤ b.key)) (sym is) tt

-- the key of the first of them is a node
pub first_node : (bytes : Option FileBytes) (a : Ask) (m : Machine) (world : World) → HoldsFirst bytes a m world
    → IsNodeWord a.key
first_node bytes a m world first =
    let values : All IsAsk (a ∷ first.0) = first.1.wait.sorter.values in
    let is : IsAsk a = values 0 a (omega arith) in
    is.form.key_is

-- the files stay where one operand's stays

pub first_files : (m : Machine) (x : Operand) → x.file ≡ m.operands.first.file
    → files_in (record m { operands = record m.operands { first = x } }) ≡ files_in m
first_files m x same i = record {
  first = same i;
  second = m.operands.second.file;
  third = m.operands.third.file;
  inner = inner_file m.writer;
  ends = ends_file m.writer;
}

-- what they hold stays where nothing is written
pub first_bytes : (m : Machine) (x : Operand) (old new : World) → x.file ≡ m.operands.first.file
    → Ran (Stays (now old)) old new
    → bytes_in (record m { operands = record m.operands { first = x } }) new ≡ bytes_in m old
first_bytes m x old new same ran i = record {
  first = (ap (λ f. (file new f).bytes) same ∙ looked_same old new ran m.operands.first.file) i;
  second = looked_same old new ran m.operands.second.file i;
  third = looked_same old new ran m.operands.third.file i;
}

-- the first operand was refused
pub first_damage : (rule : Rule) (begins : Tuple → Tuple) (m : Machine) (x : Operand) (a : Ask) (world : World)
    (e : SortFault)
    → x.file ≡ m.operands.first.file → IsNodeWord a.key → queues.shown m.queue ≡ Some a
    → is_node a.key a.members.first ≡ true → (AreApart (files_in m) m.parts.step
    → IsReadDamage m.place.variables m.operands.first.file a.key world e)
    → (AreApart (files_in m) m.parts.step
    → StaysKnown rule begins (bytes_in (record m { operands = record m.operands { first = x } }) world)
    → KnowsMembers (bytes_in (record m { operands = record m.operands { first = x } }) world) a.members)
    → IsMachineDamage rule begins (record m { operands = record m.operands { first = x } }) world e
first_damage rule begins m x a world Shelf same node shown asked damage knows = tt
first_damage rule begins m x a world (Damaged f at) same node shown asked damage knows = λ apart.
    let before : AreApart (files_in m) m.parts.step = subst (λ fs. AreApart fs m.parts.step)
    (first_files m x same) apart in
    record {
      ask = a;
      node = node;
      shown_is = shown;
      known = knows before;
      damaged = inl (
        asked,
        subst (λ g. IsReadDamage m.place.variables g a.key world (Damaged f at))
            (sym same) (damage before),
      );
    }
first_damage rule begins m x a world RunsSpent same node shown asked damage knows = tt

-- the first operand's next node was read
pub first_read : (told : Type 0) (m : Machine) (x : Operand) (a : Ask)
    (result : Result Unit SortFault) (old new : World) → AreOperands m.place.variables m.operands
    → x.file ≡ m.operands.first.file
    → OnOk result (IsReadTo a.key x) → (told → IsReading m.operands.first.reader old
    → OnOk result (IsReading x.reader new)) → (told → IsReading m.operands.first.reader old
    → OnOk result (KnowsBelow (file old m.operands.first.file).bytes x.hand)) → (told → Ran (Stays (now old)) old new)
    → OnOk result (told → (bytes : Option FileBytes) → AreBytesOf bytes m old → HoldsFirst bytes a m old
    → HoldsSome bytes (record m { operands = record m.operands { first = x } }) new)
first_read told m x a (Err e) old new are same to reads below ran = tt
first_read told m x a (Ok u) old new are same to reads below ran = λ is bytes of first.
    let fits = first_fits bytes a m old first in
    holds_read bytes m (record m.operands { first = x }) old new a (first_files m x same) to fits.second
    fits.third (ran is)
    (λ apart reading. record {
      first = reads is reading.first;
      second = operand_still _ m.operands.second old new are.second
          (looked_same old new (ran is) m.operands.second.file) reading.second;
      third = operand_still _ m.operands.third old new are.third
          (looked_same old new (ran is) m.operands.third.file) reading.third;
    }) (hands_on is bytes of) first
  where
    hands_on : told → (bs : Option FileBytes) → AreBytesOf bs m old → IfSome bs (λ b. KnowsHands b m.operands)
        → (AreApart (files_in m) m.parts.step → AreReading m.operands old)
        → IfSome bs (λ b. KnowsHands b (record m.operands { first = x }))
    hands_on is None of hands reading = tt
    hands_on is (Some b) (same_bytes, apart) hands reading =
        let knows : KnowsBelow b.first x.hand = subst (λ (v : FileBytes). KnowsBelow v.first x.hand) (sym same_bytes)
        (below is (reading apart).first) in
        record { first = knows; second = hands.second; third = hands.third }

pub second_files : (m : Machine) (x : Operand) → x.file ≡ m.operands.second.file
    → files_in (record m { operands = record m.operands { second = x } }) ≡ files_in m
second_files m x same i = record {
  first = m.operands.first.file;
  second = same i;
  third = m.operands.third.file;
  inner = inner_file m.writer;
  ends = ends_file m.writer;
}

-- what they hold stays where nothing is written
pub second_bytes : (m : Machine) (x : Operand) (old new : World) → x.file ≡ m.operands.second.file
    → Ran (Stays (now old)) old new
    → bytes_in (record m { operands = record m.operands { second = x } }) new ≡ bytes_in m old
second_bytes m x old new same ran i = record {
  first = looked_same old new ran m.operands.first.file i;
  second = (ap (λ f. (file new f).bytes) same ∙ looked_same old new ran m.operands.second.file) i;
  third = looked_same old new ran m.operands.third.file i;
}

-- the second operand was refused
pub second_damage : (rule : Rule) (begins : Tuple → Tuple) (m : Machine) (x : Operand) (a : Ask) (world : World)
    (e : SortFault)
    → x.file ≡ m.operands.second.file → IsNodeWord a.key → queues.shown m.queue ≡ Some a
    → is_node a.key a.members.second ≡ true → (AreApart (files_in m) m.parts.step
    → IsReadDamage m.place.variables m.operands.second.file a.key world e)
    → (AreApart (files_in m) m.parts.step
    → StaysKnown rule begins (bytes_in (record m { operands = record m.operands { second = x } }) world)
    → KnowsMembers (bytes_in (record m { operands = record m.operands { second = x } }) world) a.members)
    → IsMachineDamage rule begins (record m { operands = record m.operands { second = x } }) world e
second_damage rule begins m x a world Shelf same node shown asked damage knows = tt
second_damage rule begins m x a world (Damaged f at) same node shown asked damage knows = λ apart.
    let before : AreApart (files_in m) m.parts.step = subst (λ fs. AreApart fs m.parts.step)
    (second_files m x same) apart in
    record {
      ask = a;
      node = node;
      shown_is = shown;
      known = knows before;
      damaged = inr (inl (
        asked,
        subst (λ g. IsReadDamage m.place.variables g a.key world
            (Damaged f at)) (sym same) (damage before),
      ));
    }
second_damage rule begins m x a world RunsSpent same node shown asked damage knows = tt

-- the second operand's next node was read
pub second_read : (told : Type 0) (m : Machine) (x : Operand) (a : Ask)
    (result : Result Unit SortFault) (old new : World) → AreOperands m.place.variables m.operands
    → x.file ≡ m.operands.second.file
    → OnOk result (IsReadTo a.key x) → (told → IsReading m.operands.second.reader old
    → OnOk result (IsReading x.reader new)) → (told → IsReading m.operands.second.reader old
    → OnOk result (KnowsBelow (file old m.operands.second.file).bytes x.hand)) → (told → Ran (Stays (now old)) old new)
    → OnOk result (told → (bytes : Option FileBytes) → AreBytesOf bytes m old → HoldsFirst bytes a m old
    → HoldsSome bytes (record m { operands = record m.operands { second = x } }) new)
second_read told m x a (Err e) old new are same to reads below ran = tt
second_read told m x a (Ok u) old new are same to reads below ran = λ is bytes of first.
    let fits = first_fits bytes a m old first in
    holds_read bytes m (record m.operands { second = x }) old new a (second_files m x same) fits.first to
    fits.third (ran is)
    (λ apart reading. record {
      first = operand_still _ m.operands.first old new are.first
          (looked_same old new (ran is) m.operands.first.file) reading.first;
      second = reads is reading.second;
      third = operand_still _ m.operands.third old new are.third
          (looked_same old new (ran is) m.operands.third.file) reading.third;
    }) (hands_on is bytes of) first
  where
    hands_on : told → (bs : Option FileBytes) → AreBytesOf bs m old → IfSome bs (λ b. KnowsHands b m.operands)
        → (AreApart (files_in m) m.parts.step → AreReading m.operands old)
        → IfSome bs (λ b. KnowsHands b (record m.operands { second = x }))
    hands_on is None of hands reading = tt
    hands_on is (Some b) (same_bytes, apart) hands reading =
        let knows : KnowsBelow b.second x.hand = subst (λ (v : FileBytes). KnowsBelow v.second x.hand) (sym same_bytes)
        (below is (reading apart).second) in
        record { first = hands.first; second = knows; third = hands.third }

pub third_files : (m : Machine) (x : Operand) → x.file ≡ m.operands.third.file
    → files_in (record m { operands = record m.operands { third = x } }) ≡ files_in m
third_files m x same i = record {
  first = m.operands.first.file;
  second = m.operands.second.file;
  third = same i;
  inner = inner_file m.writer;
  ends = ends_file m.writer;
}

-- what they hold stays where nothing is written
pub third_bytes : (m : Machine) (x : Operand) (old new : World) → x.file ≡ m.operands.third.file
    → Ran (Stays (now old)) old new
    → bytes_in (record m { operands = record m.operands { third = x } }) new ≡ bytes_in m old
third_bytes m x old new same ran i = record {
  first = looked_same old new ran m.operands.first.file i;
  second = looked_same old new ran m.operands.second.file i;
  third = (ap (λ f. (file new f).bytes) same ∙ looked_same old new ran m.operands.third.file) i;
}

-- the third operand was refused
pub third_damage : (rule : Rule) (begins : Tuple → Tuple) (m : Machine) (x : Operand) (a : Ask) (world : World)
    (e : SortFault)
    → x.file ≡ m.operands.third.file → IsNodeWord a.key → queues.shown m.queue ≡ Some a
    → is_node a.key a.members.third ≡ true → (AreApart (files_in m) m.parts.step
    → IsReadDamage m.place.variables m.operands.third.file a.key world e)
    → (AreApart (files_in m) m.parts.step
    → StaysKnown rule begins (bytes_in (record m { operands = record m.operands { third = x } }) world)
    → KnowsMembers (bytes_in (record m { operands = record m.operands { third = x } }) world) a.members)
    → IsMachineDamage rule begins (record m { operands = record m.operands { third = x } }) world e
third_damage rule begins m x a world Shelf same node shown asked damage knows = tt
third_damage rule begins m x a world (Damaged f at) same node shown asked damage knows = λ apart.
    let before : AreApart (files_in m) m.parts.step = subst (λ fs. AreApart fs m.parts.step)
    (third_files m x same) apart in
    record {
      ask = a;
      node = node;
      shown_is = shown;
      known = knows before;
      damaged = inr (inr (
        asked,
        subst (λ g. IsReadDamage m.place.variables g a.key world
            (Damaged f at)) (sym same) (damage before),
      ));
    }
third_damage rule begins m x a world RunsSpent same node shown asked damage knows = tt

-- the third operand's next node was read
pub third_read : (told : Type 0) (m : Machine) (x : Operand) (a : Ask)
    (result : Result Unit SortFault) (old new : World) → AreOperands m.place.variables m.operands
    → x.file ≡ m.operands.third.file
    → OnOk result (IsReadTo a.key x) → (told → IsReading m.operands.third.reader old
    → OnOk result (IsReading x.reader new)) → (told → IsReading m.operands.third.reader old
    → OnOk result (KnowsBelow (file old m.operands.third.file).bytes x.hand)) → (told → Ran (Stays (now old)) old new)
    → OnOk result (told → (bytes : Option FileBytes) → AreBytesOf bytes m old → HoldsFirst bytes a m old
    → HoldsSome bytes (record m { operands = record m.operands { third = x } }) new)
third_read told m x a (Err e) old new are same to reads below ran = tt
third_read told m x a (Ok u) old new are same to reads below ran = λ is bytes of first.
    let fits = first_fits bytes a m old first in
    holds_read bytes m (record m.operands { third = x }) old new a (third_files m x same) fits.first
    fits.second to (ran is)
    (λ apart reading. record {
      first = operand_still _ m.operands.first old new are.first
          (looked_same old new (ran is) m.operands.first.file) reading.first;
      second = operand_still _ m.operands.second old new are.second
          (looked_same old new (ran is) m.operands.second.file) reading.second;
      third = reads is reading.third;
    }) (hands_on is bytes of) first
  where
    hands_on : told → (bs : Option FileBytes) → AreBytesOf bs m old → IfSome bs (λ b. KnowsHands b m.operands)
        → (AreApart (files_in m) m.parts.step → AreReading m.operands old)
        → IfSome bs (λ b. KnowsHands b (record m.operands { third = x }))
    hands_on is None of hands reading = tt
    hands_on is (Some b) (same_bytes, apart) hands reading =
        let knows : KnowsBelow b.third x.hand = subst (λ (v : FileBytes). KnowsBelow v.third x.hand) (sym same_bytes)
        (below is (reading apart).third) in
        record { first = hands.first; second = hands.second; third = knows }
