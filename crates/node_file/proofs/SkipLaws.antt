-- Passing over nodes.
use Rattle.std.proofs.Common.{◌≡◌, ℕ, ◌+◌, ◌<◌, min, Bool, List, [], ◌∷◌, length, take, refl, sym, subst, ap, ◌∙◌, arith}
use Rattle.std.specs.Prelude.{IsTrue, Option, Some, None, Ok, Err}
use Rattle.std.proofs.lemmas.List.{length_push, take_all, take_at, take_min, take-take}
use Rattle.rec_words.specs.declared.node.Node.{Node}
use Rattle.shelf_model.specs.declared.file_no.FileNo.{FileNo}
use Rattle.shelf_model.specs.declared.fault.StreamFault.{StreamFault}
use Rattle.shelf_model.specs.declared.fault.StreamFault.TheVariants.{Shelf, Damaged}
use Rattle.shelf_model.specs.Folder.{file_in}
use Rattle.shelf_model.specs.World.{World, now, file}
use Rattle.shelf_model.specs.Calls.{Told}
use Rattle.shelf_model.specs.Moments.{Stays}
use Rattle.shelf_model.proofs.Runs.{ran_end}
use Rattle.block_stream.specs.Reads.{Looked}
use Rattle.block_stream.specs.Items.{GivesLast}
use Rattle.block_stream.proofs.WriteRuns.{looked_on}
use Rattle.node_file.specs.declared.reader.NodeReader.{NodeReader}
use Rattle.node_file.specs.Readers.{AreLeft, GoesUp, left_of}

-- where nodes are left, one is given
pub goes_down : (old new : NodeReader) (o : Option Node) → 0 < left_of old → GoesUp old new (Ok o) → left_of old ≡ left_of new + 1
goes_down old new None some goes = let none : left_of old ≡ 0 = goes.0 in absurd (omega arith)
goes_down old new (Some x) some goes = goes.1

-- a look leaves the bytes of each file
pub same_bytes : (n : ℕ) (f g : FileNo) (old new : World) → Looked n old new → g ≡ f → (file new g).bytes ≡ (file old f).bytes
same_bytes n f g old new looked same = ap (λ folder. (file_in folder g).bytes) (ran_end old new (Stays (now old)) looked.run) ∙ ap (λ h. (file old h).bytes) same

-- two looks, the second of which takes a number of calls that is known by then
pub looked_told : {S : Type 0} (tells : S → Bool) (world : S → World) (m n k : ℕ) (old s t : S)
    → Told tells old s (Looked m (world old) (world s)) → Told tells s t (Looked n (world s) (world t)) → (IsTrue (tells s) → n ≡ k) → Told tells old t (Looked (m + k) (world old) (world t))
looked_told tells world m n k old s t first second known = record {
  before = λ told_t. first.before (second.before told_t);
  did = λ told_t. subst (λ j. Looked (m + j) (world old) (world t)) (known (second.before told_t)) ((looked_on tells world m n old s t first second).did told_t);
}

-- there are as many nodes as are left
pub as_many_left : (r : NodeReader) (bytes : List ℕ) (xs : List Node) → AreLeft r bytes xs → length xs ≡ left_of r
as_many_left r bytes xs left =
    let all : r.nodes.reading.bound + length xs ≡ left_of r = left.behind.all in
    let front : r.nodes.reading.bound ≡ 0 = r.front in
    omega arith

-- all are left of those that are left
pub all_left : (r : NodeReader) (bytes : List ℕ) (xs : List Node) → AreLeft r bytes xs → AreLeft r bytes (take (left_of r) xs)
all_left r bytes xs left =
    let many : length xs ≡ left_of r = as_many_left r bytes xs left in
    subst (AreLeft r bytes) (sym (take_all (left_of r) xs (omega arith))) left

-- one node fewer is left
pub fewer_left : (old new : NodeReader) (bytes : List ℕ) (xs : List Node) (o : Option Node) → 0 < left_of old → AreLeft old bytes (take (left_of old) xs)
    → GivesLast (AreLeft new bytes) (take (left_of old) xs) (Ok o) → AreLeft new bytes (take (left_of new) xs)
fewer_left old new bytes xs None some left none =
    let many : length (take (left_of old) xs) ≡ left_of old = as_many_left old bytes (take (left_of old) xs) left in
    let empty : length (take (left_of old) xs) ≡ 0 = ap length none in
    absurd (omega arith)
fewer_left old new bytes xs (Some x) some left gives =
    let rest : List Node = gives.0 in
    let many : length (take (left_of old) xs) ≡ left_of old = as_many_left old bytes (take (left_of old) xs) left in
    let fewer : length rest ≡ left_of new = as_many_left new bytes rest gives.2 in
    let one_more : length (take (left_of old) xs) ≡ length rest + 1 = ap length gives.1 ∙ length_push rest x in
    let same : take (left_of new) xs ≡ rest =
    sym (take-take (left_of new) (left_of old) xs (omega arith)) ∙ ap (take (left_of new)) gives.1 ∙ take_at rest (x ∷ []) (left_of new) fewer in
    subst (AreLeft new bytes) (sym same) gives.2

-- what is left before a place
pub left_before : (r : NodeReader) (bytes : List ℕ) (place many : ℕ) (xs : List Node) → length xs ≡ many → left_of r ≡ min place many
    → AreLeft r bytes (take (left_of r) xs) → AreLeft r bytes (take place xs)
left_before r bytes place many xs long here left =
    subst (AreLeft r bytes) (ap (λ k. take k xs) (here ∙ ap (min place) (sym long)) ∙ take_min place xs) left

-- damage isn't found among nodes that are left
pub no_damage : {T : Type 0} (Rest : List T → Type 0) (xs : List T) (e : StreamFault) → GivesLast Rest xs (Err e) → e ≡ Shelf
no_damage Rest xs Shelf gives = refl
no_damage Rest xs (Damaged f at) gives = absurd gives
