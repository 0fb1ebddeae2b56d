-- An operand that is read on from where it was.
use Rattle.std.proofs.Common.{◌≡◌, ◌∙◌, ℕ, ◌+◌, ◌<◌, List, [], ◌∷◌, ◌++◌, length, take, drop, refl, sym, ap, subst, arith, append_assoc, length-append}
use Rattle.std.specs.Prelude.{zero, suc, slice_get, Option, Some, None, Ok, Err}
use Rattle.std.proofs.lemmas.List.{length-take-le, take_at, take-take, take-append-drop}
use Rattle.rec_words.specs.declared.node.Node.{Node}
use Rattle.canon_file.specs.NodeFiles.{IsProper}
use Rattle.shelf_model.specs.declared.file_no.FileNo.{FileNo}
use Rattle.shelf_model.specs.declared.sort_fault.SortFault.{SortFault}
use Rattle.shelf_model.specs.declared.sort_fault.SortFault.TheVariants.{Shelf, Damaged, RunsSpent}
use Rattle.shelf_model.specs.World.{World}
use Rattle.node_file.specs.declared.reader.NodeReader.{NodeReader}
use Rattle.node_file.specs.declared.trailer.Trailer.{Trailer}
use Rattle.node_file.specs.Readers.{file_of, trailer_of, left_of, AreLeft}
use Rattle.node_reading.specs.Reading.{bytes_of, IsBegun, IsReading, IsNodeFault, IsDamagedNode, Rises, GivesOf}
use Rattle.sweep_core.specs.Sweeps.{IsNoDamage}
use Rattle.tuple_asks.specs.Resuming.{IsReadAs}
use Rattle.tuple_asks.specs.Resuming.{reading_at, IsHandFault}
use Rattle.tuple_asks.specs.Operands.{IsOperand}

-- a damaged node is the one at hand
pub hand_fault : (n : ℕ) (f : FileNo) (old : NodeReader) (world : World) (r : FileNo → List ℕ) (e : SortFault)
    → file_of old ≡ f → (trailer_of old).n ≡ n → bytes_of old world ≡ r f → IsNodeFault old world e
    → IsHandFault n f r e
hand_fault n f old world r Shelf file_is variables same fault = tt
hand_fault n f old world r (Damaged g at) file_is variables same fault = (
  fault.0 ∙ file_is,
  subst (λ v. v) (λ i. IsDamagedNode (variables i) (same i) at) fault.1,
)
hand_fault n f old world r RunsSpent file_is variables same fault = absurd fault

-- where the nodes are as they were left, the next one isn't damaged
pub next_sound : (new : NodeReader) (bytes : List ℕ) (xs : List Node) (e : SortFault)
    → GivesOf new bytes xs (Err e) → IsNoDamage e
next_sound new bytes xs e gives = subst IsNoDamage (sym gives) tt

-- the operand with that node at hand
pub resumed_is : (n : ℕ) (f : FileNo) (old new : NodeReader) (hand : Option Node) → 0 < left_of old → file_of old ≡ f
    → (trailer_of old).n ≡ n → file_of new ≡ file_of old → trailer_of new ≡ trailer_of old → IsBegun new
    → Rises old new (Ok hand) → IsOperand n (record { file = f; reader = new; hand = hand })
resumed_is n f old new None some file_is variables same_file same_trailer begun rises =
    let none : left_of old ≡ 0 = rises.0 in absurd (omega (arith, some, none))
resumed_is n f old new (Some x) some file_is variables same_file same_trailer begun rises = record {
  file_is = same_file ∙ file_is;
  variables_are = ap (λ (t : Trailer). t.n) same_trailer ∙ variables;
  hand_is = subst (λ k. IsProper k x) variables rises.0;
  given_is = rises.3;
  begun = begun;
}

-- the element behind a front
pub get_behind : {A : Type 0} (front : List A) (x : A) (back : List A) (k : ℕ) → length front ≡ k
    → slice_get (front ++ x ∷ back) k ≡ Some x
get_behind [] x back zero long = refl
get_behind [] x back (suc k) long = absurd (omega (arith, long))
get_behind (y ∷ front) x back zero long = absurd (omega (arith, long))
get_behind (y ∷ front) x back (suc k) long = get_behind front x back k (omega (arith, long))

-- the last of so many nodes is the one at hand, and those before it are left
module _ (nodes rest : List Node) (x : Node) (place : ℕ) (within : place < length nodes)
    (are : take (place + 1) nodes ≡ rest ++ x ∷ []) where
  front_long : length rest ≡ place
  front_long =
      let all = length-take-le (place + 1) nodes (omega (arith, within)) in
      let long : length (take (place + 1) nodes) ≡ length rest + 1 = ap length are ∙ length-append rest (x ∷ []) in
      omega (arith, all, long)

  pub front_is : rest ≡ take place nodes
  front_is = sym (take_at rest (x ∷ []) place front_long) ∙ ap (take place) (sym are)
      ∙ take-take place (place + 1) nodes (omega arith)

  pub hand_is : slice_get nodes place ≡ Some x
  hand_is =
      let all : nodes ≡ rest ++ x ∷ drop (place + 1) nodes = sym (take-append-drop (place + 1) nodes)
      ∙ ap (λ ys. ys ++ drop (place + 1) nodes) are ∙ append_assoc rest (x ∷ []) (drop (place + 1) nodes) in
      ap (λ ys. slice_get ys place) all ∙ get_behind rest x (drop (place + 1) nodes) place front_long

-- so the operand was read so far
pub resumed_read : (f : FileNo) (old new : NodeReader) (hand : Option Node) (before after : World) (root place : ℕ)
    (nodes : List Node) → place < length nodes → (trailer_of old).root ≡ root → trailer_of new ≡ trailer_of old
    → bytes_of new after ≡ bytes_of old before → IsReading new after
    → GivesOf new (bytes_of old before) (take (place + 1) nodes) (Ok hand)
    → IsReadAs (record { file = f; reader = new; hand = hand }) after root (reading_at nodes (Some place))
resumed_read f old new None before after root place nodes within root_is trailer same reading gives =
    let all = length-take-le (place + 1) nodes (omega (arith, within)) in
    let none : length (take (place + 1) nodes) ≡ 0 = ap length gives in
    absurd (omega (arith, all, none))
resumed_read f old new (Some x) before after root place nodes within root_is trailer same reading (rest, are, left) =
    record {
      root_is = ap (λ (t : Trailer). t.root) trailer ∙ root_is;
      read = record {
        hand_is = sym (hand_is nodes rest x place within are);
        reads = reading;
        left = subst (λ v. v) (λ i. AreLeft new (sym same i) (front_is nodes rest x place within are i)) left;
      };
    }
