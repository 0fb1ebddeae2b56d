-- A machine that was made sure, and what a checkpoint of it stands for.
use Rattle.std.proofs.Common.{◌≡◌, ◌∙◌, ℕ, ◌+◌, ◌-◌, ◌*◌, ◌<◌, ◌≤◌, Bool, List, [], ◌∷◌, length, take, sym, ap, subst, arith}
use Rattle.std.specs.Prelude.{Option, Some, None, slice_get, IfSome, IsTrue}
use Rattle.std.proofs.lemmas.List.{length-append, take_at}
use Rattle.rec_words.specs.declared.node.Node.{Node}
use Rattle.rec_words.specs.Words.{node_size}
use Rattle.shelf_model.specs.Calls.{longest}
use Rattle.shelf_model.specs.World.{World}
use Rattle.node_file.specs.declared.reader.NodeReader.{NodeReader}
use Rattle.node_file.specs.Readers.{left_of}
use Rattle.level_queue.specs.Queues as queues
use Rattle.top_down.specs.declared.tuple.Tuple.{Tuple}
use Rattle.top_down_laws.specs.Readings as readings
use Rattle.top_down_sweep.specs.declared.machine.Machine.{Machine}
use Rattle.tuple_asks.specs.declared.operand.Operand.{Operand}
use Rattle.tuple_asks.specs.declared.operand.Operands.{Operands}
use Rattle.tuple_asks.specs.declared.place.Place.{Place}
use Rattle.tuple_asks.specs.declared.place.Phase.{Phase}
use Rattle.tuple_asks.specs.declared.place.Phase.TheVariants as phases
use Rattle.top_down_sweep.specs.Calls.{IsTrustedAt, IsMachineTrusted, KeepsAsks}
use Rattle.top_down_sweep.specs.Freezing.{KeepsAll}
use Rattle.top_down_sweep.specs.Fuel.{asks_behind, unread, fuel_at, weight, machine_fuel}
use Rattle.top_down_sweep.specs.Ordered.{KeepsArcs}
use Rattle.top_down_sweep.specs.Meaning.{Task, Contents, first_contents, StandsFor, IsLeft, RemainsIn, RemainsOf}
use Rattle.tuple_asks.specs.Readings.{IsReadOf, roots_of}
use Rattle.tuple_asks.specs.Resuming.{read_at}
use Rattle.tuple_asks.specs.Resuming.{reading_at, IsAmong}
use Rattle.top_down_sweep.specs.Turns.{left_at, turns_left, owed_by, sides_at}
use Rattle.top_down.specs.Rules.{Rule}
use Rattle.tuple_asks.specs.Knowing.{FileBytes}
use Rattle.top_down_sweep.specs.Knowing.{bytes_in}
use Rattle.top_down_sweep.specs.Sweeps.{files_in}
use Rattle.top_down_sweep.specs.Waiting.{AreApart, HoldsSome}
use Rattle.tuple_asks.specs.Operands.{HasNoHands}
use Rattle.top_down_sweep.proofs.Known.{asks_kept}
use Rattle.top_down_sweep.proofs.Orders.{put_kept}
use Rattle.tuple_asks.proofs.ResumeReading.{get_behind}
use Rattle.top_down_sweep.proofs.TurnNumbers.{operand_left, owed_is, sides_are}

-- what stays of a machine whose place, operands and last ask are the same
pub record IsSameBut (m q : Machine) : Type 0 where
  pub place_is : q.place ≡ m.place
  pub operands_are : q.operands ≡ m.operands
  pub last_is : queues.last_of q.queue ≡ queues.last_of m.queue

-- what waits, was read and was put stays
pub record KeepsLists (m q : Machine) (old new : World) : Type 0 where
  pub files : files_in q ≡ files_in m
  pub step : q.parts.step ≡ m.parts.step
  pub bytes : AreApart (files_in m) m.parts.step → bytes_in q new ≡ bytes_in m old
  pub asks : (bytes : Option FileBytes) → KeepsAsks bytes m old q new
  pub arcs : KeepsArcs m old q new
  pub stands : (k : Contents) → StandsFor m old k → StandsFor q new k

pub lists_of : {S : Type 0} (tells : S → Bool) (world : S → World) (s t : S) (m q : Machine)
    → files_in q ≡ files_in m → q.parts.step ≡ m.parts.step
    → (AreApart (files_in m) m.parts.step → bytes_in q (world t) ≡ bytes_in m (world s))
    → KeepsAll tells world s t m q → IsTrue (tells t) → KeepsLists m q (world s) (world t)
lists_of tells world s t m q files step bytes keeps told = record {
  files = files;
  step = step;
  bytes = bytes;
  asks = keeps.asks told;
  arcs = keeps.arcs told;
  stands = keeps.stands told;
}

module _ (m q : Machine) (same : IsSameBut m q) where
  -- its fuel
  pub fuel_same : queues.held q.queue ≡ queues.held m.queue → machine_fuel q ≡ machine_fuel m
  fuel_same load =
      let place = same.place_is in
      let last = same.last_is in
      let operands = same.operands_are in
      λ i. fuel_at (place i).phase (2 * asks_behind (last i) + load i + unread (operands i))

  module _ (old new : World) (keeps : KeepsLists m q old new) (works : 0 < machine_fuel m) where
    -- what remains of a task
    remains_in : (t' : Task) (begins : Tuple → Tuple) (p : Phase) (n : ℕ) → 0 < fuel_at p n
        → RemainsIn t' begins p m old → RemainsIn t' begins p q new
    remains_in t' begins phases.Fresh n some is = record {
      roots_are = ap (λ (o : Operands). begins (roots_of o)) same.operands_are ∙ is.roots_are;
      stands = keeps.stands _ is.stands;
    }
    remains_in t' begins (phases.Asking a) n some is = record {
      contents = is.contents;
      stands = keeps.stands is.contents is.stands;
      left = subst (λ last. IsLeft t' a last is.contents) (sym same.last_is) is.left;
    }
    remains_in t' begins (phases.Ended made) n some is = absurd (omega (arith, some))

    pub remains_same : (t' : Task) (begins : Tuple → Tuple) → RemainsOf t' begins m old → RemainsOf t' begins q new
    remains_same t' begins is = subst (λ (p : Place). RemainsIn t' begins p.phase q new) (sym same.place_is)
        (remains_in t' begins m.place.phase (weight m) works is)

    -- and so do the turns that are left of it
    left_in : (t' : Task) (begins : Tuple → Tuple) (p : Phase) (n tuples : ℕ) → 0 < fuel_at p n
        → RemainsIn t' begins p m old → left_at p q new tuples ≡ left_at p m old tuples
    left_in t' begins phases.Fresh n tuples some is =
        ap (λ (o : Operands). 6 * tuples + unread o + 5) same.operands_are
    left_in t' begins (phases.Asking a) n tuples some is =
        let k = is.contents in
        let stands = keeps.stands k is.stands in
        let now_owed = owed_is q new k stands in
        let was_owed = owed_is m old k is.stands in
        let now_sides = sides_are a.last q new k stands in
        let was_sides = sides_are a.last m old k is.stands in
        let owed : owed_by q new ≡ owed_by m old = now_owed ∙ sym was_owed in
        let sides : sides_at a.last q ≡ sides_at a.last m = now_sides ∙ sym was_sides in
        λ i. 6 * tuples + owed i + 1 - 3 * sides i
    left_in t' begins (phases.Ended made) n tuples some is = absurd (omega (arith, some))

    pub left_same : (t' : Task) (begins : Tuple → Tuple) (tuples : ℕ) → RemainsOf t' begins m old
        → turns_left q new tuples ≡ turns_left m old tuples
    left_same t' begins tuples is = ap (λ (p : Place). left_at p.phase q new tuples) same.place_is
        ∙ left_in t' begins m.place.phase (weight m) tuples works is

    -- what its turns put stands there still
    trusts_in : (rule : Rule) (begins : Tuple → Tuple) (p : Phase) (n : ℕ) → 0 < fuel_at p n
        → IsTrustedAt rule begins p m old → IsTrustedAt rule begins p q new
    trusts_in rule begins phases.Fresh n some (holds, hands, arcs) = (
      asks_kept m q old new keeps.files rule begins keeps.step keeps.bytes (λ bs stays of. keeps.asks bs) holds,
      subst HasNoHands (sym same.operands_are) hands,
      keeps.arcs [] [] arcs,
    )
    trusts_in rule begins (phases.Asking a) n some (holds, put) = (
      asks_kept m q old new keeps.files rule begins keeps.step keeps.bytes (λ bs stays of. keeps.asks bs) holds,
      put_kept a m q old new same.last_is keeps.arcs put,
    )
    trusts_in rule begins (phases.Ended made) n some is = absurd (omega (arith, some))

    pub trusts_same : (rule : Rule) (begins : Tuple → Tuple) → IsMachineTrusted rule begins m old
        → IsMachineTrusted rule begins q new
    trusts_same rule begins is = subst (λ (p : Place). IsTrustedAt rule begins p.phase q new) (sym same.place_is)
        (trusts_in rule begins m.place.phase (weight m) works is)

-- where something of a task remains, it is known what waits
some_contents : (t' : Task) (begins : Tuple → Tuple) (p : Phase) (m : Machine) (world : World) (n : ℕ)
    → 0 < fuel_at p n → RemainsIn t' begins p m world → (k : Contents) × StandsFor m world k
some_contents t' begins phases.Fresh m world n works is = (first_contents t', is.stands)
some_contents t' begins (phases.Asking a) m world n works is = (is.contents, is.stands)
some_contents t' begins (phases.Ended made) m world n works is = absurd (omega (arith, works))

pub contents_of : (t' : Task) (begins : Tuple → Tuple) (m : Machine) (world : World) → 0 < machine_fuel m
    → RemainsOf t' begins m world → (k : Contents) × StandsFor m world k
contents_of t' begins m world works is = some_contents t' begins m.place.phase m world (weight m) works is

-- asks wait that fit
trusted_in : (rule : Rule) (begins : Tuple → Tuple) (p : Phase) (m : Machine) (world : World) (n : ℕ) → 0 < fuel_at p n
    → IsTrustedAt rule begins p m world → HoldsSome None m world
trusted_in rule begins phases.Fresh m world n works (holds, hands, arcs) = holds.some
trusted_in rule begins (phases.Asking a) m world n works (holds, put) = holds.some
trusted_in rule begins (phases.Ended made) m world n works is = absurd (omega (arith, works))

pub trusted_some : (rule : Rule) (begins : Tuple → Tuple) (m : Machine) (world : World) → 0 < machine_fuel m
    → IsMachineTrusted rule begins m world → HoldsSome None m world
trusted_some rule begins m world works is = trusted_in rule begins m.place.phase m world (weight m) works is

-- an operand is saved as it was read
module _ (nodes : List Node) (o : Operand) (world : World) (r : readings.Reading) (read : IsReadOf o world r)
    (up_to : readings.IsReading nodes r) where
  pub reading_saved : (hand : Option Node) → o.hand ≡ hand
      → r ≡ reading_at nodes (read_at hand (left_of o.reader))
  reading_saved None none =
      let hand : r.hand ≡ None = sym read.hand_is ∙ none in
      let all : nodes ≡ r.unread = subst (λ h. readings.IsReadTo nodes r.unread h) hand up_to in
      λ i. record { hand = hand i; unread = sym all i }
  reading_saved (Some x) some =
      let hand : r.hand ≡ Some x = sym read.hand_is ∙ some in
      let (behind, all) = subst (λ h. readings.IsReadTo nodes r.unread h) hand up_to in
      let many = operand_left o world r read in
      let front : take (left_of o.reader) nodes ≡ r.unread =
      ap (take (left_of o.reader)) all ∙ take_at r.unread (x ∷ behind) (left_of o.reader) many in
      let there : slice_get nodes (left_of o.reader) ≡ Some x =
      ap (λ xs. slice_get xs (left_of o.reader)) all ∙ get_behind r.unread x behind (left_of o.reader) many in
      λ i. record { hand = (hand ∙ sym there) i; unread = sym front i }

  pub among_saved : (hand : Option Node) → o.hand ≡ hand → IsAmong nodes (read_at hand (left_of o.reader))
  among_saved None none = tt
  among_saved (Some x) some =
      let hand : r.hand ≡ Some x = sym read.hand_is ∙ some in
      let (behind, all) = subst (λ h. readings.IsReadTo nodes r.unread h) hand up_to in
      let many = operand_left o world r read in
      let long : length nodes ≡ length r.unread + length (x ∷ behind) = ap length all
      ∙ length-append r.unread (x ∷ behind) in
      omega (arith, many, long)

-- no more nodes weren't read than the longest file has
pub few_unread_nodes : (r : NodeReader) (hand : Option Node)
    → IfSome (read_at hand (left_of r)) (λ place. place * node_size ≤ longest)
few_unread_nodes r None = tt
few_unread_nodes r (Some x) = let within = r.within in let fits = r.fits in omega (arith, within, fits)
