-- What is held at the beginning of a reduction.
use Rattle.std.proofs.Common.{◌≡◌, ◌≢◌, ℕ, ◌<◌, ◌-◌, ◌*◌, refl, ap, sym, subst, ◌∙◌, inl, inr, List}
use Rattle.std.specs.Prelude.{[], Bool, Option, Ok, None, Result, Err, IfErr, length, take}
use Rattle.canon_file.specs.Canon.{node_bytes}
use Rattle.arc_file.specs.declared.arc.Arc.{Arc}
use Rattle.arc_file.specs.declared.kind.Kind.{Kind}
use Rattle.arc_file.specs.declared.kind.Kind.TheVariants.{Inner, End}
use Rattle.arc_file.specs.Files.{HasArcs, IsDamagedArc}
use Rattle.shelf_model.specs.declared.file_no.FileNo.{FileNo}
use Rattle.shelf_model.specs.declared.fault.StreamFault.{StreamFault}
use Rattle.shelf_model.specs.declared.fault.StreamFault.TheVariants.{Shelf, Damaged}
use Rattle.shelf_model.specs.declared.sort_fault.SortFault.{SortFault}
use Rattle.shelf_model.specs.SortFaults.{handed_on}
use Rattle.shelf_model.specs.File.{File, IsKept}
use Rattle.shelf_model.specs.Folder.{Folder, file_in}
use Rattle.shelf_model.specs.World.{World, now, file}
use Rattle.shelf_model.specs.Moments.{Ran, Stays}
use Rattle.shelf_model.specs.Calls.{Told}
use Rattle.shelf_model.proofs.Runs.{told, told_then, ran_end, ran_joins, ran_weakens}
use Rattle.block_stream.specs.Items.{GivesLast}
use Rattle.block_stream.specs.Reads.{Looked}
use Rattle.block_stream.specs.Writes.{Cut, DuringCut, count_of}
use Rattle.node_file.specs.declared.writer.NodeWriter.{NodeWriter}
use Rattle.node_file.specs.Writers as writers
use Rattle.arc_file.specs.declared.stream.ArcStream.{ArcStream}
use Rattle.arc_file.specs.Streams as streams
use Rattle.arc_file.specs.Streams.{file_of, left_of, given_of}
use Rattle.arc_file.specs.declared.unreduced.Unreduced.{Unreduced}
use Rattle.arc_file.specs.declared.reader.ArcReader.{ArcReader}
use Rattle.arc_file.specs.Readers.{inner_of, ends_of}
use Rattle.level_queue.specs.Queues as queues
use Rattle.reduce_lists.specs.declared.held.Ahead.{Ahead}
use Rattle.reduce_lists.specs.declared.held.Lists.{Lists}
use Rattle.reduce_lists.specs.Contents.{Contents, Holds, IsUnread, QueueLists, RowLists, NameLists}
use Rattle.reduce_lists.specs.Damage.{IsDamagedAt, IsDamageAtStart}
use Rattle.reduce_lists.specs.AtWork.{AreInStep, IsAtWork}
use Rattle.reduce_lists.proofs.Holding.{writer_kept}
use Rattle.reduce_lists.proofs.NextArcs.{unread_on}

-- another file is as it was before the file of the nodes was cut
pub emptied : (out f : FileNo) (to : ℕ) (first second : World) → f ≢ out
    → Ran (DuringCut out to (now first)) first second → file second f ≡ file first f
emptied out f to first second other cut = (ran_end first second (DuringCut out to (now first)) cut).others f other

-- a file is as it was before the file of the nodes was cut and the first arcs were read
pub as_before : (out f : FileNo) (to : ℕ) (first second third fourth : World) → f ≢ out
    → Ran (DuringCut out to (now first)) first second → Looked 1 second third → Looked 1 third fourth
    → (file second f ≡ file first f) × ((file third f ≡ file second f) × (file fourth f ≡ file third f))
as_before out f to first second third fourth other cut looked again =
    let one : (now third).folder ≡ (now second).folder = ran_end second third (Stays (now second)) looked.run in
    let two : (now fourth).folder ≡ (now third).folder = ran_end third fourth (Stays (now third)) again.run in (
      emptied out f to first second other cut,
      (ap (λ (d : Folder). file_in d f) one, ap (λ (d : Folder). file_in d f) two),
    )

-- the writer holds what it held
written_still : (w : NodeWriter) (bytes : List ℕ) (second third fourth : World) → Looked 1 second third
    → Looked 1 third fourth → writers.Holds w second bytes → writers.Holds w fourth bytes
written_still w bytes second third fourth looked again holds =
    let one : (now third).folder ≡ (now second).folder = ran_end second third (Stays (now second)) looked.run in
    let two : (now fourth).folder ≡ (now third).folder = ran_end third fourth (Stays (now third)) again.run in
    writer_kept w second fourth bytes (ap (λ (d : Folder). (file_in d (writers.filling_of w).file).bytes) (two ∙ one))
    holds

-- one arc was read of a file
pub record ReadsOne (kind : Kind) (world : World) (s t : ArcStream) (next : Option Arc) : Type 0 where
  pub place : file_of t ≡ file_of s
  pub up : streams.GoesUp kind s t (Ok next)
  pub reads : streams.Reads kind s (file world (file_of s)).bytes → streams.Reads kind t (file world (file_of s)).bytes
  pub arcs : streams.Reads kind s (file world (file_of s)).bytes → (ys : List Arc)
      → streams.AreLeft kind s (file world (file_of s)).bytes ys
      → GivesLast (streams.AreLeft kind t (file world (file_of s)).bytes) ys (Ok next)

-- nothing of a file was read yet
pub record ReadsNothing (kind : Kind) (s : ArcStream) (f : FileNo) (count : ℕ) : Type 0 where
  pub place : file_of s ≡ f
  pub reads : (bytes : List ℕ) → streams.Reads kind s bytes
  pub arcs : (bytes : List ℕ) → (ys : List Arc) → HasArcs kind ys count bytes → streams.AreLeft kind s bytes ys

-- what was read is as the bytes say that the file had at first, and has when all have begun
pub reads_begun : (kind : Kind) (f : FileNo) (first read last : World) (s t u : ArcStream) (next : Option Arc)
    (count : ℕ)
    → ReadsNothing kind s f count → ReadsOne kind read s t next → u ≡ t → file read f ≡ file first f
    → file last f ≡ file first f → streams.Reads kind u (file last (file_of u)).bytes
reads_begun kind f first read last s t u next count begun one same before after =
    let here : file read (file_of s) ≡ file first f = ap (file read) begun.place ∙ before in
    let there : file last (file_of u) ≡ file first f =
    ap (file last) (ap file_of same ∙ one.place ∙ begun.place) ∙ after in
    subst (λ v. v) (λ j. streams.Reads kind (sym same j) ((here ∙ sym there) j).bytes)
    (one.reads (begun.reads (file read (file_of s)).bytes))

-- and its arcs are unread
pub unread_begun : (kind : Kind) (f : FileNo) (first read last : World) (s t u : ArcStream) (next : Option Arc)
    (xs : List Arc) (count : ℕ)
    → ReadsNothing kind s f count → ReadsOne kind read s t next → u ≡ t → file read f ≡ file first f
    → file last f ≡ file first f
    → HasArcs kind xs count (file first f).bytes → IsUnread kind next u (file last (file_of u)).bytes xs
unread_begun kind f first read last s t u next xs count begun one same before after has =
    let here : file read (file_of s) ≡ file first f = ap (file read) begun.place ∙ before in
    let there : file last (file_of u) ≡ file first f =
    ap (file last) (ap file_of same ∙ one.place ∙ begun.place) ∙ after in
    let left = one.arcs (begun.reads (file read (file_of s)).bytes) xs
    (begun.arcs (file read (file_of s)).bytes xs
    (subst (λ (g : File). HasArcs kind xs count g.bytes) (sym here) has)) in
    subst (λ v. v) (λ j. IsUnread kind next (sym same j) ((here ∙ sym there) j).bytes xs)
    (unread_on kind s t (file read (file_of s)).bytes xs next one.up left)

-- the lists are these
pub record AreHeld (a : Ahead) (l : Lists) (world : World) (k : Contents) : Type 0 where
  pub queue_is : QueueLists a.queue world k.queue
  pub last_is : queues.last_of a.queue ≡ k.last
  pub rows_is : RowLists l.rows world k.rows
  pub names_is : NameLists l.names world k.names

-- what a sweep holds at first: all arcs, of which none is handled
abbrev pub at_first : List Arc → List Arc → Contents
at_first inner ends = record { queue = []; last = None; inner = inner; ends = ends; rows = []; names = []; nodes = [] }

-- what was done at the beginning of a reduction: the file of the nodes was cut to these bytes, and an arc of each other
-- file was read
pub record HasBegun (a : Ahead) (w : NodeWriter) (made : Unreduced) (out : FileNo) (to : ℕ) (bytes : List ℕ)
    (opened read : ArcReader) (first second third last : World) : Type 0 where
  pub apart_inner : out ≢ made.inner
  pub apart_ends : out ≢ made.ends
  pub cut : Ran (DuringCut out to (now first)) first second
  pub looked : Looked 1 second third
  pub again : Looked 1 third last
  pub no_inner : ReadsNothing Inner (inner_of opened) made.inner made.inner_count
  pub no_end : ReadsNothing End (ends_of opened) made.ends made.ends_count
  pub ends_kept : ends_of read ≡ ends_of opened
  pub inner_kept : inner_of a.reader ≡ inner_of read
  pub one_inner : ReadsOne Inner second (inner_of opened) (inner_of read) a.inner
  pub one_end : ReadsOne End third (ends_of read) (ends_of a.reader) a.end
  pub written : writers.Holds w second bytes

module _ (a : Ahead) (w : NodeWriter) (made : Unreduced) (out : FileNo) (to : ℕ) (bytes : List ℕ)
    (opened read : ArcReader) (first second third last : World)
    (begun : HasBegun a w made out to bytes opened read first second third last) where
  inner_stays : (file second made.inner ≡ file first made.inner)
      × ((file third made.inner ≡ file second made.inner) × (file last made.inner ≡ file third made.inner))
  inner_stays = as_before out made.inner to first second third last (λ e. begun.apart_inner (sym e)) begun.cut begun.looked
      begun.again

  ends_stays : (file second made.ends ≡ file first made.ends)
      × ((file third made.ends ≡ file second made.ends) × (file last made.ends ≡ file third made.ends))
  ends_stays = as_before out made.ends to first second third last (λ e. begun.apart_ends (sym e)) begun.cut begun.looked
      begun.again

  no_end_yet : ReadsNothing End (ends_of read) made.ends made.ends_count
  no_end_yet = subst (λ r. ReadsNothing End r made.ends made.ends_count) (sym begun.ends_kept) begun.no_end

  -- so what it knows of its files is as they say
  pub work_begins : (l : Lists) → AreInStep a l last → IsAtWork a l w last
  work_begins l in_step = record {
    writes = (written_still w bytes second third last begun.looked begun.again begun.written).in_step;
    reads_inner = λ some. reads_begun Inner made.inner first second last (inner_of opened) (inner_of read) (inner_of a.reader)
        a.inner made.inner_count begun.no_inner begun.one_inner begun.inner_kept
        inner_stays.0 (inner_stays.1.1 ∙ inner_stays.1.0 ∙ inner_stays.0);
    reads_ends = λ some. reads_begun End made.ends first third last (ends_of read) (ends_of a.reader) (ends_of a.reader) a.end
        made.ends_count no_end_yet begun.one_end refl
        (ends_stays.1.0 ∙ ends_stays.0) (ends_stays.1.1 ∙ ends_stays.1.0 ∙ ends_stays.0);
    lists = in_step;
  }

  -- and it holds all arcs of whole files, with the lists and the nodes that there are
  pub held_at_first : (l : Lists) (k : Contents) → AreHeld a l last k → bytes ≡ node_bytes k.nodes
      → length k.nodes ≡ count_of (writers.filling_of w)
      → HasArcs Inner k.inner made.inner_count (file first made.inner).bytes
      → HasArcs End k.ends made.ends_count (file first made.ends).bytes → Holds a l w last k
  held_at_first l k held nodes many has_inner has_ends = record {
    queue_is = held.queue_is;
    last_is = held.last_is;
    inner_is = unread_begun Inner made.inner first second last (inner_of opened) (inner_of read) (inner_of a.reader)
        a.inner k.inner made.inner_count begun.no_inner begun.one_inner begun.inner_kept
        inner_stays.0 (inner_stays.1.1 ∙ inner_stays.1.0 ∙ inner_stays.0) has_inner;
    ends_is = unread_begun End made.ends first third last (ends_of read) (ends_of a.reader) (ends_of a.reader) a.end
        k.ends made.ends_count no_end_yet begun.one_end refl
        (ends_stays.1.0 ∙ ends_stays.0) (ends_stays.1.1 ∙ ends_stays.1.0 ∙ ends_stays.0) has_ends;
    rows_is = held.rows_is;
    names_is = held.names_is;
    nodes_is = subst (writers.Holds w last) nodes
        (written_still w bytes second third last begun.looked begun.again begun.written);
    nodes_many = many;
  }

-- what is damaged in a file of which nothing was read is its last arc
damaged_last : (kind : Kind) (g : FileNo) (count : ℕ) (first read : World) (s t : ArcStream) (f : FileNo) (at : ℕ)
    → ReadsNothing kind s g count → left_of s ≡ count → given_of s ≡ None
    → file read g ≡ file first g → streams.GoesUp kind s t (Err (Damaged f at))
    → streams.IsArcAnswer kind s (file read (file_of s)).bytes (Err (Damaged f at))
    → IsDamagedAt kind g count None first f at
damaged_last kind g count first read s t f at begun left given before up is = record {
  file_is = up.1.0 ∙ begun.place;
  some = subst (λ k. 0 < k) left up.0;
  at_is = up.1.1 ∙ ap (λ k. (k - 1) * 16) left;
  damaged = subst (λ v. v) (λ j. IsDamagedArc kind (left j - 1)
      ((ap (file read) begun.place ∙ before ∙ sym (ap (file first) (up.1.0 ∙ begun.place))) j).bytes (given j)) is;
}

-- so it is told by a call that answers that fault
pub inner_damaged : {A : Type 0} (told : Type 0) (made : Unreduced) (first read : World) (s t : ArcStream)
    (r : Result A SortFault) (e : StreamFault) → r ≡ Err (handed_on e)
    → ReadsNothing Inner s made.inner made.inner_count → left_of s ≡ made.inner_count → given_of s ≡ None
    → (told → file read made.inner ≡ file first made.inner)
    → streams.GoesUp Inner s t (Err e) → (told → streams.IsArcAnswer Inner s (file read (file_of s)).bytes (Err e))
    → IfErr r (λ fault. told → IsDamageAtStart made first fault)
inner_damaged told made first read s t r Shelf is begun left given before up answer =
    subst (λ q. IfErr q (λ fault. told → IsDamageAtStart made first fault)) (sym is) (λ tells. tt)
inner_damaged told made first read s t r (Damaged f at) is begun left given before up answer =
    subst (λ q. IfErr q (λ fault. told → IsDamageAtStart made first fault)) (sym is)
    (λ tells. inl (damaged_last Inner made.inner made.inner_count first read s t f at begun left given
    (before tells) up (answer tells)))

pub ends_damaged : {A : Type 0} (told : Type 0) (made : Unreduced) (first read : World) (s t : ArcStream)
    (r : Result A SortFault) (e : StreamFault) → r ≡ Err (handed_on e)
    → ReadsNothing End s made.ends made.ends_count → left_of s ≡ made.ends_count → given_of s ≡ None
    → (told → file read made.ends ≡ file first made.ends)
    → streams.GoesUp End s t (Err e) → (told → streams.IsArcAnswer End s (file read (file_of s)).bytes (Err e))
    → IfErr r (λ fault. told → IsDamageAtStart made first fault)
ends_damaged told made first read s t r Shelf is begun left given before up answer =
    subst (λ q. IfErr q (λ fault. told → IsDamageAtStart made first fault)) (sym is) (λ tells. tt)
ends_damaged told made first read s t r (Damaged f at) is begun left given before up answer =
    subst (λ q. IfErr q (λ fault. told → IsDamageAtStart made first fault)) (sym is)
    (λ tells. inr (damaged_last End made.ends made.ends_count first read s t f at begun left given (before tells) up
    (answer tells)))

module _ {S : Type 0} (tells : S → Bool) (world : S → World) (out : FileNo) (to : ℕ) where
  -- the file of the nodes was cut
  pub was_cut : (n : ℕ) (s t : S) → Told tells s t (Cut n out to (world s) (world t))
      → Told tells s t (Ran (DuringCut out to (now (world s))) (world s) (world t))
  was_cut n s t did = told tells s t _ _ did (λ _ cut. cut.run)

  -- and another file was looked at
  pub then_looked : (s t u : S) → Told tells s t (Ran (DuringCut out to (now (world s))) (world s) (world t))
      → Told tells t u (Looked 1 (world t) (world u))
      → Told tells s u (Ran (DuringCut out to (now (world s))) (world s) (world u))
  then_looked s t u first second = told_then tells s t u _ _ _ first second (λ _ a b.
      let cut = ran_end (world s) (world t) (DuringCut out to (now (world s))) a in
      ran_joins (world s) (world t) (world u) (DuringCut out to (now (world s))) a
      (ran_weakens (world t) (world u) (Stays (now (world t))) (DuringCut out to (now (world s))) (λ m same. record {
        others = λ q other. ap (λ (d : Folder). file_in d q) same ∙ cut.others q other;
        reads = λ n short. ap (λ (d : Folder). take n (file_in d out).bytes) same ∙ cut.reads n short;
        kept = λ front short kept. subst (λ (d : Folder). IsKept front (file_in d out)) (sym same)
            (cut.kept front short kept);
      }) b.run))
