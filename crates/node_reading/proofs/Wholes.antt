-- The nodes of a file that were read, from its end on.
use Rattle.std.proofs.Common.{◌≡◌, ℕ, ◌+◌, ◌<◌, ◌≤◌, ◌∙◌, List, Bool, refl, sym, subst, ap, inl, inr, arith}
use Rattle.std.specs.Prelude.{Option, Ok, Some, None, IsTrue, IsSome, IfSome, slice_index}
use Rattle.std.proofs.lemmas.Bool.{cases_lt}
use Rattle.rec_words.specs.declared.node.Node.{Node}
use Rattle.shelf_model.specs.declared.file_no.FileNo.{FileNo}
use Rattle.shelf_model.specs.declared.sort_fault.SortFault.{SortFault}
use Rattle.shelf_model.specs.declared.sort_fault.SortFault.TheVariants as sort
use Rattle.shelf_model.specs.Faults.{Faults, OnlyShelf}
use Rattle.shelf_model.specs.World.{World, file}
use Rattle.node_file.specs.declared.reader.NodeReader.{NodeReader}
use Rattle.node_file.specs.declared.trailer.Trailer.{Trailer}
use Rattle.node_file.specs.Nodes.{identifier_at, IsNodeAt, HasTrailer}
use Rattle.node_file.specs.Readers.{file_of, trailer_of, left_of, given_of}
use Rattle.run_tiers.specs.Faults.{OnlySortShelf}
use Rattle.node_reading.specs.Reading.{bytes_of, count_of, IsReading, IsDamagedNode, IsNodeFault, IsTrailerFault, GivesNode}
use Rattle.node_reading.specs.Missing.{IsWhole, IsWholeFault}

-- the records at a place and behind it are those of nodes that may stand there, and their identifiers descend
pub record AreRead (n place : ℕ) (bytes : List ℕ) : Type 0 where
  pub nodes : (k : ℕ) → place ≤ k → k < count_of bytes → (x : Node) × IsNodeAt n k bytes x
  pub ordered : (k : ℕ) → place ≤ k → k + 1 < count_of bytes → identifier_at (k + 1) bytes < identifier_at k bytes

-- a reader has come to its place in these bytes of a file, over nodes in order
pub record HasComeBack (n : ℕ) (r : NodeReader) (bytes : List ℕ) (world : World) : Type 0 where
  pub same : bytes_of r world ≡ bytes
  pub reading : IsReading r world
  pub read : AreRead n (left_of r) bytes

-- the identifier of a record is that of its node
pub node_identifier : (n place : ℕ) (bytes : List ℕ) (x : Node) → IsNodeAt n place bytes x → identifier_at place bytes ≡ x.uid
node_identifier n place bytes x at = ap (λ (ws : List ℕ). slice_index ws 0) (sym at.record_is.same)

-- none was read at first
pub none_read : (n place : ℕ) (bytes : List ℕ) → place ≡ count_of bytes → AreRead n place bytes
none_read n place bytes is = record {
  nodes = λ k from below. absurd (omega (arith, is, from, below));
  ordered = λ k from below. absurd (omega (arith, is, from, below));
}

-- a place from l on is l, or is behind it
from_place : (P : ℕ → Type 0) (l k : ℕ) → P l → (l + 1 ≤ k → P k) → l ≤ k → P k
from_place P l k here later from = elim (cases_lt l k) [
  | inl beyond ↦ later (omega (arith, beyond))
  | inr until ↦ (let same : l ≡ k = omega (arith, from, until) in subst P same here)
]

-- one node more was read
pub one_more_read : (n place : ℕ) (bytes : List ℕ) (x : Node) → IsNodeAt n place bytes x
    → (place + 1 < count_of bytes → identifier_at (place + 1) bytes < x.uid)
    → AreRead n (place + 1) bytes → AreRead n place bytes
one_more_read n place bytes x at rises read = record {
  nodes = λ k from below. from_place (λ k. (x : Node) × IsNodeAt n k bytes x) place k (x, at)
      (λ beyond. read.nodes k beyond below) from;
  ordered = λ k from below. from_place (λ k. k + 1 < count_of bytes → identifier_at (k + 1) bytes < identifier_at k bytes) place k
      (λ within. subst (λ u. identifier_at (place + 1) bytes < u) (sym (node_identifier n place bytes x at)) (rises within))
      (λ beyond within. read.ordered k beyond within) from below;
}

-- none is left
pub all_read : (n : ℕ) (bytes : List ℕ) (r : NodeReader) (world : World) → (trailer_of r).n ≡ n → left_of r ≡ 0
    → HasComeBack n r bytes world → IsWhole n bytes
all_read n bytes r world variables front come = record {
  root = (trailer_of r).root;
  trailer = subst (HasTrailer n (trailer_of r).root) come.same
      (subst (λ m. HasTrailer m (trailer_of r).root (bytes_of r world)) variables come.reading.trailer);
  nodes = λ k below. come.read.nodes k (omega (arith, front)) below;
  ordered = λ k below. come.read.ordered k (omega (arith, front)) below;
}

-- where none was given there is no last one, and all are left
pub begun_by : (given : Option ℕ) (A : Type 0) → given ≡ None → IsSome given → A
begun_by None A none some = cc
begun_by (Some g) A none some = cc

-- the counts of faults where an answer stands for another
pub fine : {A B : Type 0} (old new : Faults) (x : A) (y : B) → OnlySortShelf old new (Ok x) → OnlySortShelf old new (Ok y)
fine old new x y faults = record { later = faults.later; cause = λ is. cc; say_is = faults.say_is; text_is = faults.text_is }

pub stream_fine : {A B : Type 0} (old new : Faults) (x : A) (y : B) → OnlyShelf old new (Ok x) → OnlySortShelf old new (Ok y)
stream_fine old new x y faults = record { later = faults.later; cause = λ is. cc; say_is = faults.say_is; text_is = faults.text_is }

-- the identifier given last is above a value that is that of its record
above_last : (given : Option ℕ) (v u : ℕ) → IsSome given → IfSome given (λ g. v ≡ g) → IfSome given (λ g. g < u) → v < u
above_last (Some g) v u some is above = subst (λ w. w < u) (sym is) above
above_last None v u some is above = cc

-- a node's damage is the file's
pub node_whole_fault : (n : ℕ) (f : FileNo) (r : NodeReader) (old world : World) (e : SortFault) → file_of r ≡ f → (trailer_of r).n ≡ n
    → bytes_of r world ≡ (file old f).bytes → IsNodeFault r world e → IsWholeFault n f old e
node_whole_fault n f r old world sort.Shelf place variables same fault = tt
node_whole_fault n f r old world (sort.Damaged g at) place variables same fault = inr (
  fault.0 ∙ place,
  subst (λ bytes. IsDamagedNode n bytes at) same
      (subst (λ m. IsDamagedNode m (bytes_of r world) at) variables fault.1),
)
node_whole_fault n f r old world sort.RunsSpent place variables same fault = absurd fault

-- so is that of its trailer
pub trailer_whole_fault : (n : ℕ) (f : FileNo) (world : World) (e : SortFault) → IsTrailerFault f n world e → IsWholeFault n f world e
trailer_whole_fault n f world sort.Shelf fault = tt
trailer_whole_fault n f world (sort.Damaged g at) fault = inl fault
trailer_whole_fault n f world sort.RunsSpent fault = absurd fault

module _ {S : Type 0} (tells : S → Bool) (world : S → World) (counts : S → Faults) (before after : S) (old new : NodeReader) where
  -- where nodes are left one is given
  pub fewer_left : (found : Option Node) → 0 < left_of old → GivesNode tells world counts before after old new (Ok found)
      → left_of new < left_of old
  fewer_left (Some x) some gives =
      let fewer : left_of old ≡ left_of new + 1 = gives.rises.1 in
      omega (arith, fewer)
  fewer_left None some gives =
      let none : left_of old ≡ 0 = gives.rises.0 in
      absurd (omega (arith, some, none))

  pub last_given : (found : Option Node) → 0 < left_of old → GivesNode tells world counts before after old new (Ok found)
      → IsSome (given_of new)
  last_given (Some x) some gives = subst IsSome (sym gives.rises.3) refl
  last_given None some gives =
      let none : left_of old ≡ 0 = gives.rises.0 in
      absurd (omega (arith, some, none))

  -- the reader has come over it
  pub comes_on : (n : ℕ) (bytes : List ℕ) (found : Option Node) → 0 < left_of old → (trailer_of old).n ≡ n
      → (left_of old < (trailer_of old).count → IsSome (given_of old)) → IsTrue (tells after)
      → GivesNode tells world counts before after old new (Ok found)
      → HasComeBack n old bytes (world before) → HasComeBack n new bytes (world after)
  comes_on n bytes (Some x) some variables given told gives come =
      let fewer : left_of old ≡ left_of new + 1 = gives.rises.1 in
      let count : (trailer_of old).count ≡ count_of bytes = come.reading.count ∙ ap count_of come.same in
      let now : (trailer_of new).n ≡ n = ap (λ (t : Trailer). t.n) gives.trailer_is ∙ variables in
      let at : IsNodeAt n (left_of new) bytes x =
      subst (λ m. IsNodeAt m (left_of new) bytes x) now
      (subst (λ b. IsNodeAt (trailer_of new).n (left_of new) b x) come.same (gives.value told)) in
      record {
        same = gives.same told ∙ come.same;
        reading = gives.reads told;
        read = one_more_read n (left_of new) bytes x at
            (λ within. subst (λ k. identifier_at k bytes < x.uid) fewer
            (above_last (given_of old) (identifier_at (left_of old) bytes) x.uid
            (given (omega (arith, fewer, count, within)))
            (subst (λ b. IfSome (given_of old) (λ g. identifier_at (left_of old) b ≡ g)) come.same come.reading.reads.last)
            gives.rises.2))
            (subst (λ k. AreRead n k bytes) fewer come.read);
      }
  comes_on n bytes None some variables given told gives come =
      let none : left_of old ≡ 0 = gives.rises.0 in
      absurd (omega (arith, some, none))
