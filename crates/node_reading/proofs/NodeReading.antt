-- The reading of the next node of a file.
use Rattle.std.proofs.Common.{◌≡◌, ℕ, ◌+◌, ◌-◌, ◌/◌, ◌<◌, ◌≤◌, ◌∙◌, Bool, List, refl, sym, subst, ap, inl, inr, arith}
use Rattle.std.specs.Prelude.{length, Result, Option, Ok, Err, Some, None, IsTrue, IsSome, OnOk, IfErr, IsErrAnd}
use Rattle.rec_words.specs.declared.node.Node.{Node}
use Rattle.shelf_model.specs.declared.file_no.FileNo.{FileNo}
use Rattle.shelf_model.specs.declared.fault.StreamFault.{StreamFault}
use Rattle.shelf_model.specs.declared.fault.StreamFault.TheVariants as stream
use Rattle.shelf_model.specs.declared.sort_fault.SortFault.{SortFault}
use Rattle.shelf_model.specs.declared.sort_fault.SortFault.TheVariants as sort
use Rattle.shelf_model.specs.SortFaults.{handed_on}
use Rattle.shelf_model.specs.Calls.{Told}
use Rattle.shelf_model.specs.Faults.{Faults, OnlyShelf}
use Rattle.shelf_model.specs.World.{World, file}
use Rattle.run_tiers.specs.Faults.{OnlySortShelf}
use Rattle.block_stream.specs.Reads.{Looked, IsDamageOf}
use Rattle.block_stream.specs.Items.{GivesLast}
use Rattle.node_file.specs.declared.reader.NodeReader.{NodeReader}
use Rattle.node_file.specs.declared.trailer.Trailer.{Trailer}
use Rattle.node_file.specs.Nodes.{HasTrailer, IsTrailerDamage, IsNodeAt}
use Rattle.node_file.specs.Readers.{file_of, trailer_of, left_of, given_of, Reads, AreLeft, GoesUp, IsNodePlace, IsNodeAnswer}
pub use Rattle.node_file.proofs.SkipLaws.{same_bytes as looked_same}
use Rattle.node_reading.specs.Reading.{bytes_of, count_of, IsTrailerFault, IsBegun, IsReading, IsDamagedNode, IsNodeFault, IsFaultOf, Rises, IsItsNode, GivesOf, GivesNode}

-- the answer, with its fault handed on
abbrev pub handed : Result (Option Node) StreamFault → Result (Option Node) SortFault
handed (Ok found) = Ok found
handed (Err e) = Err (handed_on e)

-- a refusal that was handed on
pub is_handed : {T : Type 0} (result : Result T SortFault) (e : SortFault)
    → IsErrAnd result (λ f. f ≡ e) → result ≡ Err e
is_handed (Ok x) e is = absurd is
is_handed (Err f) e is = ap Err is

pub if_handed : {T : Type 0} (P : SortFault → Type 0) (result : Result T SortFault) (e : SortFault)
    → IsErrAnd result (λ f. f ≡ e) → P e → IfErr result P
if_handed P (Ok x) e is p = absurd is
if_handed P (Err f) e is p = subst P (sym is) p

-- what the reader says of the call
pub record HasRead {S : Type 0} (tells : S → Bool) (world : S → World) (counts : S → Faults)
    (before after : S) (old new : NodeReader) (result : Result (Option Node) StreamFault) : Type 0
  where
    pub file_is : file_of new ≡ file_of old
    pub trailer_is : trailer_of new ≡ trailer_of old
    pub goes : GoesUp old new result
    pub place : IfErr result (IsNodePlace (file_of old) (left_of old) (given_of old))
    pub reads : IsTrue (tells after) → Reads old (bytes_of old (world before))
        → OnOk result (Reads new (bytes_of old (world before)))
    pub value : IsTrue (tells after) → Reads old (bytes_of old (world before))
        → IsNodeAnswer (trailer_of old).n (left_of old) (bytes_of old (world before)) result
    pub items : IsTrue (tells after) → Reads old (bytes_of old (world before)) → (xs : List Node)
        → AreLeft old (bytes_of old (world before)) xs
        → GivesLast (AreLeft new (bytes_of old (world before))) xs result
    pub content : Told tells before after (Looked 1 (world before) (world after))
    pub faults : OnlyShelf (counts before) (counts after) result

rises : (old new : NodeReader) (result : Result (Option Node) StreamFault) → GoesUp old new result
    → Rises old new (handed result)
rises old new (Ok (Some x)) goes = goes
rises old new (Ok None) goes = goes
rises old new (Err e) goes = tt

begun : (old new : NodeReader) (result : Result (Option Node) StreamFault)
    → trailer_of new ≡ trailer_of old → IsBegun old → GoesUp old new result
    → OnOk (handed result) (IsBegun new)
begun old new (Ok (Some x)) trailer is goes =
    let fewer : left_of old ≡ left_of new + 1 = goes.1 in
    let within : left_of old ≤ (trailer_of old).count = old.within in
    let count : (trailer_of new).count ≡ (trailer_of old).count = ap (λ (t : Trailer). t.count)
    trailer in
    λ given. omega (arith, fewer, within, count)
begun old new (Ok None) trailer is goes =
    let none : left_of old ≡ 0 = goes.0 in
    let still : left_of new ≡ 0 = goes.1 in
    let count : (trailer_of new).count ≡ (trailer_of old).count = ap (λ (t : Trailer). t.count)
    trailer in
    λ given. let some : left_of old < (trailer_of old).count = is (subst IsSome goes.2 given) in
    omega (arith, none, still, count, some)
begun old new (Err e) trailer is goes = tt

its_node : (old new : NodeReader) (bytes : List ℕ) (result : Result (Option Node) StreamFault)
    → trailer_of new ≡ trailer_of old → GoesUp old new result
    → IsNodeAnswer (trailer_of old).n (left_of old) bytes result
    → IsItsNode new bytes (handed result)
its_node old new bytes (Ok (Some x)) trailer goes value =
    let fewer : left_of old ≡ left_of new + 1 = goes.1 in
    let place : left_of old - 1 ≡ left_of new = omega (arith, fewer) in
    subst (λ (t : Trailer). IsNodeAt t.n (left_of new) bytes x) (sym trailer)
    (subst (λ p. IsNodeAt (trailer_of old).n p bytes x) place value)
its_node old new bytes (Ok None) trailer goes value = tt
its_node old new bytes (Err e) trailer goes value = tt

gives_of : (new : NodeReader) (bytes : List ℕ) (xs : List Node)
    (result : Result (Option Node) StreamFault) → GivesLast (AreLeft new bytes) xs result
    → GivesOf new bytes xs (handed result)
gives_of new bytes xs (Ok (Some x)) gives = gives
gives_of new bytes xs (Ok None) gives = gives
gives_of new bytes xs (Err stream.Shelf) gives = refl
gives_of new bytes xs (Err (stream.Damaged f at)) gives = absurd gives

-- the damage is that of a node
node_fault : (old new : NodeReader) (world : World) (result : Result (Option Node) StreamFault)
    → IsBegun old → IsReading old world → GoesUp old new result
    → IfErr result (IsNodePlace (file_of old) (left_of old) (given_of old))
    → IsNodeAnswer (trailer_of old).n (left_of old) (bytes_of old world) result
    → IfErr (handed result) (IsNodeFault old world)
node_fault old new world (Ok found) is reading goes place value = tt
node_fault old new world (Err stream.Shelf) is reading goes place value = tt
node_fault old new world (Err (stream.Damaged f at)) is reading goes place value =
    let some : 0 < left_of old = goes.0 in
    let within : left_of old ≤ (trailer_of old).count = old.within in
    let count : (trailer_of old).count ≡ count_of (bytes_of old world) = reading.count in (
      place.0,
      elim value [
        | inl here ↦ record {
          place = left_of old - 1;
          among = omega (arith, some, within, count);
          at_is = here.0;
          damaged = inl here.1;
        }
        | inr behind ↦ record {
          place = left_of old;
          among = elim place.1 [
            | inl here ↦ absurd (omega (arith, some, here, behind.0))
            | inr given ↦ (let began : left_of old < (trailer_of old).count = is given.1 in omega
                (arith, began, count))
          ];
          at_is = behind.0;
          damaged = inr (some, behind.1);
        }
      ],
    )

fault_of : (old new : NodeReader) (result : Result (Option Node) StreamFault)
    → GoesUp old new result → IfErr (handed result) (IsFaultOf (file_of old))
fault_of old new (Ok found) goes = tt
fault_of old new (Err stream.Shelf) goes = tt
fault_of old new (Err (stream.Damaged f at)) goes = goes.1

sort_faults : (old new : Faults) (result : Result (Option Node) StreamFault)
    → OnlyShelf old new result → OnlySortShelf old new (handed result)
sort_faults old new (Ok found) faults = record {
  later = faults.later;
  cause = λ is. cc;
  say_is =
      faults.say_is;
  text_is = faults.text_is;
}
sort_faults old new (Err stream.Shelf) faults =
    record {
      later = faults.later;
      cause = λ is. faults.cause refl;
      say_is = faults.say_is;
      text_is
          = faults.text_is;
    }
sort_faults old new (Err (stream.Damaged f at)) faults =
    record {
      later = faults.later;
      cause = λ is. cc;
      say_is = faults.say_is;
      text_is =
          faults.text_is;
    }

on_ok : (A B : Type 0) (result : Result (Option Node) StreamFault) → (A → OnOk result B)
    → OnOk (handed result) (A → B)
on_ok A B (Ok found) f = f
on_ok A B (Err e) f = tt

if_err : (A : Type 0) (P : SortFault → Type 0) (result : Result (Option Node) StreamFault)
    → (A → IfErr (handed result) P) → IfErr (handed result) (λ e. A → P e)
if_err A P (Ok found) f = tt
if_err A P (Err e) f = f

on_ok_weaker : (A B : Type 0) (result : Result (Option Node) StreamFault) → (A → B) → OnOk result A
    → OnOk result B
on_ok_weaker A B (Ok found) f x = f x
on_ok_weaker A B (Err e) f x = tt

-- it has read what stands there
pub still_reading : (old new : NodeReader) (before after : World) → trailer_of new ≡ trailer_of old
    → bytes_of new after ≡ bytes_of old before
    → IsReading old before → Reads new (bytes_of old before) → IsReading new after
still_reading old new before after trailer same reading reads = record {
  reads = subst (Reads new) (sym same) reads;
  trailer = subst (λ (t : Trailer). HasTrailer t.n t.root (bytes_of new after)) (sym trailer)
      (subst (HasTrailer (trailer_of old).n (trailer_of old).root) (sym same) reading.trailer);
  count = ap (λ (t : Trailer). t.count) trailer ∙ reading.count ∙ ap count_of (sym same);
}

-- a reader has read nothing at first
pub starts_reading : (r : NodeReader) (f : FileNo) (n : ℕ) (old new : World) → file_of r ≡ f
    → (trailer_of r).n ≡ n → ((bytes : List ℕ) → Reads r bytes)
    → HasTrailer n (trailer_of r).root (file old f).bytes
    × ((trailer_of r).count ≡ length (file old f).bytes / 24 - 1)
    → (file new f).bytes ≡ (file old f).bytes → IsReading r new
starts_reading r f n old new place variables reads has same =
    let bytes : bytes_of r new ≡ (file old f).bytes = ap (λ g. (file new g).bytes) place ∙ same in
    record {
      reads = reads (bytes_of r new);
      trailer = subst (λ b. HasTrailer (trailer_of r).n (trailer_of r).root b) (sym bytes)
          (subst (λ m. HasTrailer m (trailer_of r).root (file old f).bytes) (sym variables) has.0);
      count = has.1 ∙ ap count_of (sym bytes);
    }

-- why a start is refused
pub trailer_fault : (f : FileNo) (n : ℕ) (old new : World) (e : StreamFault)
    → (file new f).bytes ≡ (file old f).bytes → IsDamageOf f e
    → IsTrailerDamage n (file new f).bytes e
    → IsTrailerFault f n old (handed_on e)
trailer_fault f n old new stream.Shelf same place damage = tt
trailer_fault f n old new (stream.Damaged g at) same place damage =
    let there : IsTrailerDamage n (file old f).bytes (stream.Damaged g at) =
    subst (λ bytes. IsTrailerDamage n bytes (stream.Damaged g at)) same damage in
    (place, there.0, there.1)

-- it is refused for the same reason where the bytes were the same before
pub trailer_before : (f : FileNo) (n : ℕ) (old new : World) (e : SortFault)
    → (file new f).bytes ≡ (file old f).bytes → IsTrailerFault f n new e → IsTrailerFault f n old e
trailer_before f n old new sort.Shelf same fault = tt
trailer_before f n old new (sort.Damaged g at) same fault = (
  fault.0,
  fault.1 ∙ ap (λ (bytes : List ℕ). length bytes - 24) same,
  λ root has. fault.2 root
      (subst (HasTrailer n root) (sym same) has),
)
trailer_before f n old new sort.RunsSpent same fault = fault

-- what was damaged before a call is so after it
pub node_fault_after : (old new : NodeReader) (before after : World) (e : SortFault)
    → file_of new ≡ file_of old → trailer_of new ≡ trailer_of old
    → bytes_of new after ≡ bytes_of old before
    → IsNodeFault old before e → IsNodeFault new after e
node_fault_after old new before after sort.Shelf place trailer same fault = tt
node_fault_after old new before after (sort.Damaged f at) place trailer same fault = (
  fault.0 ∙ sym place,
  subst (λ (t : Trailer). IsDamagedNode t.n (bytes_of new after) at) (sym trailer)
      (subst (λ bytes. IsDamagedNode (trailer_of old).n bytes at) (sym same) fault.1),
)
node_fault_after old new before after sort.RunsSpent place trailer same fault = fault

module _ {S : Type 0} (tells : S → Bool) (world : S → World) (counts : S → Faults) where
  -- the next node was given
  pub gave : (before after : S) (old new : NodeReader) (result : Result (Option Node) StreamFault)
      → IsBegun old → (IsTrue (tells before) → IsReading old (world before))
      → HasRead tells world counts before after old new result
      → GivesNode tells world counts before after old new (handed result)
  gave before after old new result is reading has =
      let same : IsTrue (tells after) → bytes_of new (world after) ≡ bytes_of old (world before) =
      λ told. looked_same 1 (file_of old) (file_of new) (world before) (world after)
      (has.content.did told) has.file_is in
      let at_first : IsTrue (tells after) → IsReading old (world before) = λ told. reading
      (has.content.before told) in
      record {
        file_is = has.file_is;
        trailer_is = has.trailer_is;
        rises = rises old new result has.goes;
        begun = begun old new result has.trailer_is is has.goes;
        same = same;
        reads = on_ok (IsTrue (tells after)) (IsReading new (world after)) result
            (λ told. on_ok_weaker (Reads new (bytes_of old (world before)))
            (IsReading new (world after)) result
            (still_reading old new (world before) (world after) has.trailer_is (same told)
            (at_first told)) (has.reads told (at_first told).reads));
        value = λ told. its_node old new (bytes_of old (world before)) result has.trailer_is
            has.goes (has.value told (at_first told).reads);
        items = λ told xs left. gives_of new (bytes_of old (world before)) xs result
            (has.items told (at_first told).reads xs left);
        damage = if_err (IsTrue (tells after)) (IsNodeFault old (world before)) result
            (λ told. node_fault old new (world before) result is (at_first told) has.goes has.place
            (has.value told (at_first told).reads));
        refused = fault_of old new result has.goes;
        content = has.content;
        faults = sort_faults (counts before) (counts after) result has.faults;
      }
