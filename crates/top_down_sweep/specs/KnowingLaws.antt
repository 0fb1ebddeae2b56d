-- The files of a task's diagrams know all that its asks name.
use Rattle.std.proofs.Common.{◌≡◌, ℕ, suc, ◌+◌, ◌^◌, ◌<◌, ◌∙◌, Bool, true, false, cond, List, [], ◌∷◌, length, refl, sym, subst, ap, inl, inr, arith}
use Rattle.std.specs.Prelude.{Option, Some, None, get_or, nat_lt, slice_index}
use Rattle.std.proofs.lemmas.Bool.{ltb-true}
use Rattle.rec_words.specs.Records.{node_words, IsNode}
use Rattle.rec_words.specs.declared.node.Node.{Node}
use Rattle.shelf_model.specs.World.{World}
use Rattle.canon_file.specs.declared.row.Row.{Row}
use Rattle.canon_file.specs.Members.{Has}
use Rattle.canon_file.specs.Walks.{row_at}
use Rattle.block_stream.specs.Reads.{IsRecordOf}
use Rattle.block_stream.proofs.ItemLaws.{nth_item}
use Rattle.node_file.specs.Nodes.{HasNodes}
use Rattle.node_file.proofs.FileLaws.{items_of_file, count_of_file}
use Rattle.node_reading.specs.Missing.{IsThere, IsKnown}
use Rattle.top_down.specs.declared.tuple.Tuple.{Tuple}
use Rattle.top_down_laws.specs.Forms.{member_at}
use Rattle.top_down_laws.specs.Readings.{IsIn, IsReduced, IsReading, Reading, Readings, AreReadings}
use Rattle.top_down_laws.specs.Remains as laws
use Rattle.top_down_laws.proofs.MemberLaws.{row_at-node, node_in, hand_in}
use Rattle.tuple_asks.specs.declared.ask.Member.{Member}
use Rattle.tuple_asks.specs.declared.ask.Ask.{Ask}
use Rattle.tuple_asks.specs.declared.operand.Operand.{Operand}
use Rattle.tuple_asks.specs.declared.operand.Operands.{Operands}
use Rattle.tuple_asks.specs.Knowing.{FileBytes, KnowsMember, KnowsMembers, KnowsBelow, KnowsHands}
use Rattle.top_down_sweep.specs.Meaning.{Task, row_of, waiting_of}
use Rattle.tuple_asks.specs.Readings.{IsReadOf, AreRead}

-- the files are those of the task's diagrams
pub record AreOfTask (t : Task) (b : FileBytes) : Type 0 where
  pub roots : Tuple
  pub first : HasNodes t.n roots.first t.diagrams.first b.first
  pub second : HasNodes t.n roots.second t.diagrams.second b.second
  pub third : HasNodes t.n roots.third t.diagrams.third b.third

-- a member of a list stands at a place
has_place : (x : Node) (xs : List Node) → Has x xs → (k : ℕ) × (k < length xs) × (get_or xs k x ≡ x)
has_place x [] m = absurd m
has_place x (y ∷ ys) (inl e) = (0, omega arith, e)
has_place x (y ∷ ys) (inr m) = let (k, below, is) = has_place x ys m in (suc k, omega (arith, below), is)

module _ (n root : ℕ) (nodes : List Node) (bytes : List ℕ) (has : HasNodes n root nodes bytes) where
  -- a node of the file is there
  node_there : (x : Node) → Has x nodes → IsThere bytes x.uid
  node_there x m =
      let (k, below, is) = has_place x nodes m in
      let from_front : 0 + k ≡ k = omega arith in
      let item = subst (λ p. IsRecordOf node_words 3 p bytes (get_or nodes k x)) from_front
      (nth_item IsNode node_words 3 0 k bytes nodes x (items_of_file n root nodes bytes has) below) in
      let count = count_of_file n root nodes bytes has in
      record {
        place = k;
        among = omega (arith, below, count);
        is = ap (λ (ws : List ℕ). slice_index ws 0) (sym item.same) ∙ ap (λ (y : Node). y.uid) is;
      }

  -- so a pointer of the diagram is known
  in_known : (w : ℕ) → IsIn nodes w → IsKnown bytes w
  in_known w (inl end) = inl end
  in_known w (inr (x, m, uid)) = inr (inl (subst (IsThere bytes) uid (node_there x m)))

  module _ (reduced : IsReduced n nodes) where
    -- where a node leads too
    below_known : (hand : Option Node) (unread : List Node) → IsReading nodes (record { hand = hand; unread = unread })
        → KnowsBelow bytes hand
    below_known None unread reading = tt
    below_known (Some x) unread reading =
        let m = hand_in nodes unread x reading in
        (in_known x.low (reduced.leads_low x m), in_known x.high (reduced.leads_high x m))

    -- and both pointers of a member that was read, or wasn't
    row_known : (key w : ℕ) → key < 2 ^ 63 → IsIn nodes w
        → IsKnown bytes (member_at (row_at nodes) key w).low × IsKnown bytes (member_at (row_at nodes) key w).high
    row_known key w node is = by (nat_lt w key) refl
      where
        by : (c : Bool) → nat_lt w key ≡ c
            → (λ (r : Row). IsKnown bytes r.low × IsKnown bytes r.high) (cond c (row_at nodes w) (record { low = w; high = w }))
        by true before =
            let less : w < key = ltb-true w key before in
            let (x, m, uid) = node_in nodes w is (omega (arith, less, node)) in
            let row : row_at nodes w ≡ record { low = x.low; high = x.high } =
            ap (row_at nodes) (sym uid) ∙ row_at-node nodes reduced.descend x m in
            subst (λ (r : Row). IsKnown bytes r.low × IsKnown bytes r.high) (sym row)
            (in_known x.low (reduced.leads_low x m), in_known x.high (reduced.leads_high x m))
        by false behind = (in_known w is, in_known w is)

-- such a row is that of a known member
member_known : (bytes : List ℕ) (m : Member) (r : Row) → r ≡ row_of m → IsKnown bytes r.low × IsKnown bytes r.high
    → KnowsMember bytes m
member_known bytes m r same known = record {
  low = subst (IsKnown bytes) (ap (λ (x : Row). x.low) same) known.0;
  high = subst (IsKnown bytes) (ap (λ (x : Row). x.high) same) known.1;
}

module _ (t : Task) (b : FileBytes) (are : AreOfTask t b) where
  -- an ask for an open tuple names what the files know
  pub open_known : (a : Ask) (o : laws.Open) → laws.IsOpen t.n t.rule t.diagrams o
      → laws.waiting_of (record {
        first = row_at t.diagrams.first;
        second = row_at t.diagrams.second;
        third = row_at t.diagrams.third;
      }) o ≡ waiting_of a → KnowsMembers b a.members
  open_known a o opened same =
      let task = t.is_task in
      let level = opened.key_is.level in
      let low = opened.low in
      let node : o.key < 2 ^ 63 = omega (arith, level, low, task.few) in
      record {
        first = member_known b.first a.members.first _ (ap (λ (w : _). w.form.first) same)
            (row_known t.n are.roots.first t.diagrams.first b.first are.first task.reduced.first o.key
            o.tuple.first node opened.members.first);
        second = member_known b.second a.members.second _ (ap (λ (w : _). w.form.second) same)
            (row_known t.n are.roots.second t.diagrams.second b.second are.second task.reduced.second o.key
            o.tuple.second node opened.members.second);
        third = member_known b.third a.members.third _ (ap (λ (w : _). w.form.third) same)
            (row_known t.n are.roots.third t.diagrams.third b.third are.third task.reduced.third o.key
            o.tuple.third node opened.members.third);
      }

  hand_known : (n root : ℕ) (nodes : List Node) (bytes : List ℕ) → HasNodes n root nodes bytes → IsReduced n nodes
      → (o : Operand) (world : World) (r : Reading) → IsReadOf o world r → IsReading nodes r → KnowsBelow bytes o.hand
  hand_known n root nodes bytes has reduced o world r read reading =
      subst (KnowsBelow bytes) (sym read.hand_is)
      (below_known n root nodes bytes has reduced r.hand r.unread reading)

  -- and so do the nodes at hand
  pub hands_known : (o : Operands) (world : World) (r : Readings) → AreRead o world r → AreReadings t.diagrams r
      → KnowsHands b o
  hands_known o world r read reading = record {
    first = hand_known t.n are.roots.first t.diagrams.first b.first are.first t.is_task.reduced.first o.first world
        r.first read.first reading.first;
    second = hand_known t.n are.roots.second t.diagrams.second b.second are.second t.is_task.reduced.second o.second
        world r.second read.second reading.second;
    third = hand_known t.n are.roots.third t.diagrams.third b.third are.third t.is_task.reduced.third o.third world
        r.third read.third reading.third;
  }
