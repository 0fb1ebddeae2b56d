-- The reading of an operand's next node, and where its file is damaged.
use Rattle.std.proofs.Common.{◌≡◌, ◌≢◌, ℕ, ◌+◌, ◌*◌, ◌<◌, ◌≤◌, ◌∙◌, Bool, true, false, cond, List, refl, sym, subst, ap, inl, inr, arith}
use Rattle.std.specs.Prelude.{Option, Some, None, Ok, IfSome, ◌==◌, slice_index}
use Rattle.std.proofs.lemmas.Bool.Decides.{nat_tests}
use Rattle.rec_words.specs.declared.node.Node.{Node}
use Rattle.shelf_model.specs.declared.sort_fault.SortFault.{SortFault}
use Rattle.shelf_model.specs.declared.sort_fault.SortFault.TheVariants.{Shelf, Damaged, RunsSpent}
use Rattle.shelf_model.specs.World.{World, file}
use Rattle.node_file.specs.declared.reader.NodeReader.{NodeReader}
use Rattle.node_file.specs.Nodes.{identifier_at, IsNodeAt}
use Rattle.node_file.specs.Readers.{file_of, trailer_of, left_of}
use Rattle.node_reading.specs.Reading.{bytes_of, count_of, IsReading, IsDamagedNode, IsNodeFault, IsItsNode, Rises}
use Rattle.tuple_asks.specs.declared.operand.Operand.{Operand}
use Rattle.tuple_asks.specs.declared.ask.Member.{Member}
use Rattle.tuple_asks.specs.Members.{is_node, wants}
use Rattle.tuple_asks.specs.Operands.{IsOperand, IsGivenAt}
use Rattle.tuple_asks.specs.Operands.{IsReadTo}
use Rattle.node_reading.specs.Missing.{IsAbsent}
use Rattle.tuple_asks.specs.Damage.{IsReadDamage}
use Rattle.node_reading.specs.Missing.{IsKnown}

-- a node is wanted that comes behind the one at hand
pub behind_hand : (o : Operand) (key : ℕ) (m : Member) → wants key o.hand m ≡ true → IsReadTo key o
    → IfSome o.hand (λ x. x.uid < key)
behind_hand o key m want read = by o.hand want read
  where
    by : (hand : Option Node) → wants key hand m ≡ true → IfSome hand (λ x. x.uid ≤ key)
        → IfSome hand (λ x. x.uid < key)
    by None want read = tt
    by (Some x) want read = other (x.uid == key) refl want
      where
        other : (b : Bool) → (x.uid == key) ≡ b → cond b false (is_node key m) ≡ true → x.uid < key
        other true same none = absurd (cc)
        other false same is = let differ : x.uid ≢ key = grind (arith, nat_tests) in omega
            (arith, read, differ)

pub wanted_is : (hand : Option Node) (key : ℕ) (m : Member) → wants key hand m ≡ true
    → is_node key m ≡ true
wanted_is None key m want = want
wanted_is (Some x) key m want = by (x.uid == key) want
  where
    by : (b : Bool) → cond b false (is_node key m) ≡ true → is_node key m ≡ true
    by true none = absurd (cc)
    by false is = is

pub same_some : (x y : Node) → Some x ≡ Some y → x ≡ y
same_some x y same = cc

-- the identifier of the node at a place
pub node_identifier : (n place : ℕ) (bytes : List ℕ) (x : Node) → IsNodeAt n place bytes x
    → identifier_at place bytes ≡ x.uid
node_identifier n place bytes x at = ap (λ (ws : List ℕ). slice_index ws 0) (sym at.record_is.same)

module _ (n : ℕ) (o : Operand) (r : NodeReader) (old new : World) (key : ℕ) (is : IsOperand n o)
    (reading : IsReading o.reader old)
    (behind : IfSome o.hand (λ x. x.uid < key)) (file_is : file_of r ≡ file_of o.reader)
    (trailer_is : trailer_of r ≡ trailer_of o.reader)
    (same : bytes_of r new ≡ bytes_of o.reader old) where
  -- the bytes that are read are those of the operand's file
  its_bytes : (file new o.file).bytes ≡ bytes_of o.reader old
  its_bytes = ap (λ f. (file new f).bytes) (sym (file_is ∙ is.file_is)) ∙ same

  count_is : (trailer_of o.reader).count ≡ count_of (bytes_of o.reader old)
  count_is = reading.count

  within : left_of o.reader ≤ (trailer_of o.reader).count
  within = o.reader.within

  -- the record that was read last, if any, comes before the key
  last_before : left_of o.reader < count_of (bytes_of o.reader old)
      → identifier_at (left_of o.reader) (bytes_of o.reader old) < key
  last_before some = by o.hand behind is.given_is
    where
      by : (hand : Option Node) → IfSome hand (λ x. x.uid < key) → IsGivenAt o.reader hand
          → identifier_at (left_of o.reader) (bytes_of o.reader old) < key
      by None before all = (let count = count_is in absurd (omega (arith, some, all, count)))
      by (Some x) before given =
          let last : identifier_at (left_of o.reader) (bytes_of o.reader old) ≡ x.uid =
          subst (λ g. IfSome g (λ k. identifier_at (left_of o.reader) (bytes_of o.reader old)
          ≡ k)) given reading.reads.last in
          omega (arith, last, before)

  -- the next node comes behind the key
  pub passed : (x : Node) (at : ℕ) → Rises o.reader r (Ok (Some x))
      → IsItsNode r (bytes_of o.reader old) (Ok (Some x)) → key < x.uid → at ≡ left_of r * 24
      → IsReadDamage n o.file key new (Damaged o.file at)
  passed x at rises node later place =
      let fewer : left_of o.reader ≡ left_of r + 1 = rises.1 in
      let bytes = its_bytes in
      let uid : identifier_at (left_of r) (bytes_of o.reader old) ≡ x.uid = node_identifier
      (trailer_of r).n (left_of r) (bytes_of o.reader old) x node in
      let among : left_of r < count_of (bytes_of o.reader old) = let w = within in let c = count_is
      in omega (arith, fewer, w, c) in (
        refl,
        inr (subst (λ b. IsAbsent b key at) (sym bytes) (inl (record {
          place = left_of r;
          among = among;
          at_is = place;
          behind = omega (arith, uid, later);
          before = λ some. subst (λ p. identifier_at p (bytes_of o.reader old) < key) fewer
              (last_before (omega (arith, fewer, some)));
        }))),
      )

  -- there is no next node
  pub none_next : (at : ℕ) → Rises o.reader r (Ok None) → at ≡ left_of r * 24
      → IsReadDamage n o.file key new (Damaged o.file at)
  none_next at rises place =
      let none : left_of o.reader ≡ 0 = rises.0 in
      let still : left_of r ≡ 0 = rises.1 in (
        refl,
        inr (subst (λ b. IsAbsent b key at) (sym its_bytes) (inr (record {
          at_is = omega (arith, place, still);
          before = λ some. subst (λ p. identifier_at p (bytes_of o.reader old) < key) none
              (last_before (omega (arith, none, some)));
        }))),
      )

  -- the reader refused it
  pub fault_read : (e : SortFault) → IsNodeFault o.reader old e → IsReadDamage n o.file key new e
  fault_read Shelf fault = tt
  fault_read (Damaged f at) fault = (
    fault.0 ∙ is.file_is,
    inl (subst (λ b. IsDamagedNode n b at) (sym its_bytes)
        (subst (λ m. IsDamagedNode m (bytes_of o.reader old) at) is.variables_are fault.1)),
  )
  fault_read RunsSpent fault = fault

  -- so the operand is damaged where the next node, if there is one, comes behind the key
  pub next_refused : (found : Option Node) (e : SortFault) → Rises o.reader r (Ok found)
      → IsItsNode r (bytes_of o.reader old) (Ok found) → ((x : Node) → found ≡ Some x → key < x.uid)
      → e ≡ Damaged o.file (left_of r * 24) → IsReadDamage n o.file key new e
  next_refused None e rises node later said = subst (IsReadDamage n o.file key new) (sym said)
      (none_next (left_of r * 24) rises refl)
  next_refused (Some x) e rises node later said = subst (IsReadDamage n o.file key new) (sym said)
      (passed x (left_of r * 24) rises node (later x refl) refl)

-- the node that was read leads to pointers that its file names
pub node_below : (n place : ℕ) (bytes : List ℕ) (x : Node) → IsNodeAt n place bytes x → place < count_of bytes
    → IsKnown bytes x.low × IsKnown bytes x.high
node_below n place bytes x at among = (
  inr (inr (record {
    place = place;
    since = omega arith;
    among = among;
    side = inl (sym (ap (λ (ws : List ℕ). slice_index ws 1) at.record_is.same));
  })),
  inr (inr (record {
    place = place;
    since = omega arith;
    among = among;
    side = inr (sym (ap (λ (ws : List ℕ). slice_index ws 2) at.record_is.same));
  })),
)
