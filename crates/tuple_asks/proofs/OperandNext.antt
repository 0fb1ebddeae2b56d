-- The next node of an operand, of the list of those that weren't read.
use Rattle.std.proofs.Common.{◌≡◌, ℕ, ◌<◌, ◌≤◌, ◌∙◌, List, [], ◌∷◌, ◌++◌, length, refl, sym, subst, ap, arith}
use Rattle.std.specs.Prelude.{Option, Some, None, Ok, Err}
use Rattle.std.proofs.lemmas.List.{same_from_push}
use Rattle.rec_words.specs.declared.node.Node.{Node}
use Rattle.shelf_model.specs.declared.fault.StreamFault.{StreamFault}
use Rattle.shelf_model.specs.declared.fault.StreamFault.TheVariants as stream
use Rattle.shelf_model.specs.SortFaults.{handed_on}
use Rattle.shelf_model.specs.World.{World}
use Rattle.block_stream.specs.Reads.{Looked}
use Rattle.block_stream.specs.Items.{GivesLast}
use Rattle.sweep_core.specs.Sweeps.{IsNoDamage}
use Rattle.node_file.specs.declared.reader.NodeReader.{NodeReader}
use Rattle.node_file.specs.Readers.{file_of, trailer_of, Reads, AreLeft}
use Rattle.node_reading.specs.Reading.{bytes_of}
use Rattle.node_reading.proofs.NodeReading.{looked_same, still_reading}
use Rattle.top_down_laws.specs.Readings.{Reading}
use Rattle.tuple_asks.specs.declared.operand.Operand.{Operand}
use Rattle.tuple_asks.specs.Readings.{IsReadOf}
use Rattle.tuple_asks.specs.Readings.{HasNext, ReadsNext}

-- no list with a last node is empty
none_left : (unread : List Node) (x : Node) → [] ≡ unread ++ x ∷ [] → ⊥
none_left unread x is = let long = ap length is in absurd (by unread is)
  where
    by : (xs : List Node) → [] ≡ xs ++ x ∷ [] → ⊥
    by [] same = cc
    by (y ∷ ys) same = cc

-- the reader finds no damage where nodes are left
pub next_undamaged : (r : NodeReader) (bytes : List ℕ) (xs : List Node) (e : StreamFault)
    → GivesLast (AreLeft r bytes) xs (Err e) → IsNoDamage (handed_on e)
next_undamaged r bytes xs stream.Shelf given = tt
next_undamaged r bytes xs (stream.Damaged f at) given = given

-- the next node is no later than the key, where one is left that isn't
pub never_passed : (q : NodeReader) (bytes : List ℕ) (key : ℕ) (r : Reading)
    (found : Option Node) → GivesLast (AreLeft q bytes) r.unread (Ok found) → ((x : Node) → found ≡ Some x → key < x.uid)
    → HasNext key r → ⊥
never_passed q bytes key r None given later next = none_left next.unread next.node (sym given ∙ next.are)
never_passed q bytes key r (Some x) given later next =
    let same = same_from_push given.0 next.unread x next.node (sym given.1 ∙ next.are) in
    let behind : key < x.uid = later x refl in
    let upto : x.uid ≤ key = subst (λ (y : Node). y.uid ≤ key) (sym same.1) next.upto in
    omega (arith, behind, upto)

-- it is at hand from then on
pub reads_next : (o q : Operand) (x : Node) (old new : World) (r : Reading)
    → file_of q.reader ≡ file_of o.reader → trailer_of q.reader ≡ trailer_of o.reader
    → Looked 1 old new → Reads q.reader (bytes_of o.reader old)
    → GivesLast (AreLeft q.reader (bytes_of o.reader old)) r.unread (Ok q.hand)
    → q.hand ≡ Some x → IsReadOf o old r → ReadsNext q new r
reads_next o q x old new r file trailer looked reads gives is read =
    let same : bytes_of q.reader new ≡ bytes_of o.reader old =
    looked_same 1 (file_of o.reader) (file_of q.reader) old new looked file in
    let given = subst (λ found. GivesLast (AreLeft q.reader (bytes_of o.reader old)) r.unread
    (Ok found)) is gives in (
      x,
      given.0,
      given.1,
      record {
        hand_is = is;
        reads = still_reading o.reader q.reader old new trailer same read.reads reads;
        left = subst (λ b. AreLeft q.reader b given.0) (sym same) given.2;
      },
    )
