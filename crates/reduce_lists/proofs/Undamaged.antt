-- Files of arcs in order aren't damaged.
use Rattle.std.proofs.Common.{All, ◌≡◌, ℕ, ◌+◌, ◌-◌, ◌<◌, Bool, false, List, [], ◌∷◌, ◌++◌, length, get_or, sym, ap, subst, ◌∙◌, inl, inr, arith}
use Rattle.std.proofs.lemmas.Bool.{true≢false}
use Rattle.std.specs.Prelude.{Option, Some, None, Result, Ok, Err, IfSome, IfErr}
use Rattle.std.specs.List.Sorted.{IsSortedBy}
use Rattle.std.proofs.Math.Seq.{get_or-append_seam}
use Rattle.std.proofs.lemmas.List.{get_or_append_left, length_push}
use Rattle.std.proofs.lemmas.List.Elements.{All-get_or}
use Rattle.block_stream.specs.Reads.{IsRecordOf}
use Rattle.block_stream.specs.Items.{AreItems}
use Rattle.block_stream.proofs.ItemLaws.{nth_item}
use Rattle.shelf_model.specs.declared.file_no.FileNo.{FileNo}
use Rattle.shelf_model.specs.declared.sort_fault.SortFault.{SortFault}
use Rattle.shelf_model.specs.declared.sort_fault.SortFault.TheVariants.{Shelf, Damaged, RunsSpent}
use Rattle.shelf_model.specs.File.{File}
use Rattle.shelf_model.specs.World.{World, file}
use Rattle.arc_file.specs.declared.arc.Arc.{Arc}
use Rattle.arc_file.specs.declared.kind.Kind.{Kind}
use Rattle.arc_file.specs.declared.kind.Kind.TheVariants.{Inner, End}
use Rattle.arc_file.specs.declared.stream.ArcStream.{ArcStream}
use Rattle.arc_file.specs.declared.unreduced.Unreduced.{Unreduced}
use Rattle.arc_file.specs.Arcs.{arc_words, IsArc}
use Rattle.arc_file.specs.ArcLaws.{same_arc}
use Rattle.arc_file.specs.Files.{Leads, HasArcs, IsArcAt, IsDamagedArc, IsInOrder, is_before}
use Rattle.arc_file.specs.Streams.{left_of, given_of, IsInOrderBefore, AreLeft}
use Rattle.arc_file.specs.Readers.{inner_of, ends_of}
use Rattle.sweep_core.specs.Sweeps.{IsNoDamage}
use Rattle.reduce_lists.specs.Held.{Held}
use Rattle.reduce_lists.specs.Contents.{Contents, Holds, IsUnread}
use Rattle.reduce_lists.specs.Damage.{IsDamagedAt, IsDamageOf, IsDamagedRecord, IsDamageAmong, IsDamageAtStart}

-- what stands behind others in order doesn't come before the last of them
last_first : {X : Type 0} (lt : X → X → Bool) (xs : List X) (m : ℕ) (d y : X) → length xs ≡ m + 1
    → IsSortedBy lt (xs ++ y ∷ []) → lt y (get_or xs m d) ≡ false
last_first lt xs m d y many sorted =
    let long : length (xs ++ y ∷ []) ≡ length xs + 1 = length_push xs y in
    let here : get_or (xs ++ y ∷ []) m d ≡ get_or xs m d = get_or_append_left xs (y ∷ []) d m (omega (arith, many)) in
    let next : get_or (xs ++ y ∷ []) (m + 1) d ≡ y =
    ap (λ k. get_or (xs ++ y ∷ []) k d) (sym many) ∙ get_or-append_seam xs y [] d in
    (λ j. lt (sym next j) (sym here j)) ∙ sorted m d (omega arith) (omega (arith, long, many))

not_before : (kind : Kind) (xs : List Arc) (m : ℕ) (d next : Arc) → length xs ≡ m + 1 → IsInOrder kind (xs ++ next ∷ [])
    → is_before kind next (get_or xs m d) ≡ false
not_before Inner xs m d next many ordered = last_first (is_before Inner) xs m d next many ordered
not_before End xs m d next many ordered = last_first (is_before End) xs m d next many ordered

-- an arc of a list in order doesn't come before the one in front of it
in_order : (kind : Kind) (xs : List Arc) (m : ℕ) (d : Arc) → m + 1 < length xs → IsInOrder kind xs
    → is_before kind (get_or xs (m + 1) d) (get_or xs m d) ≡ false
in_order Inner xs m d within ordered = ordered m d (omega arith) within
in_order End xs m d within ordered = ordered m d (omega arith) within

-- each of some arcs that stand in their file from the front on stands at its place
arc_at : (kind : Kind) (bytes : List ℕ) (xs : List Arc) (m : ℕ) (d : Arc) → AreItems IsArc arc_words 2 0 bytes xs
    → All (Leads kind) xs → m < length xs → IsArcAt kind m bytes (get_or xs m d)
arc_at kind bytes xs m d items lead within =
    let here : 0 + m ≡ m = omega arith in
    record {
      is_arc = All-get_or IsArc xs m d within items.values;
      leads = All-get_or (Leads kind) xs m d within lead;
      record_is = subst (λ p. IsRecordOf arc_words 2 p bytes (get_or xs m d)) here
          (nth_item IsArc arc_words 2 0 m bytes xs d items within);
    }

-- it isn't damaged, where the one behind it doesn't come before it
none_at : (kind : Kind) (bytes : List ℕ) (xs : List Arc) (m : ℕ) (d : Arc) (given : Option Arc)
    → AreItems IsArc arc_words 2 0 bytes xs → All (Leads kind) xs → m < length xs
    → ((next : Arc) → given ≡ Some next → IsArcAt kind (m + 1) bytes next → is_before kind next (get_or xs m d) ≡ false)
    → ¬ IsDamagedArc kind m bytes given
none_at kind bytes xs m d given items lead within later damaged =
    let at : IsArcAt kind m bytes (get_or xs m d) = arc_at kind bytes xs m d items lead within in
    elim damaged [
      | inl none ↦ none (get_or xs m d) at
      | inr late ↦ (
          let found = late.2 in
          let same : late.0 ≡ get_or xs m d = same_arc late.0 (get_or xs m d) found.here.is_arc at.is_arc
          (found.here.record_is.same ∙ sym at.record_is.same) in
          absurd (true≢false (sym found.before ∙ ap (is_before kind late.1) same
          ∙ later late.1 found.was_given found.behind)))
    ]

-- the last of them isn't
none_at_last : (kind : Kind) (bytes : List ℕ) (xs : List Arc) (given : Option Arc)
    → AreItems IsArc arc_words 2 0 bytes xs → All (Leads kind) xs → IsInOrderBefore kind xs given
    → 0 < length xs → ¬ IsDamagedArc kind (length xs - 1) bytes given
none_at_last kind bytes [] given items lead ordered some = absurd (omega (arith, some))
none_at_last kind bytes (y ∷ ys) given items lead ordered some =
    none_at kind bytes (y ∷ ys) (length (y ∷ ys) - 1) y given items lead (omega arith)
    (λ next is at. not_before kind (y ∷ ys) (length (y ∷ ys) - 1) y next (omega arith)
    (subst (IsInOrderBefore kind (y ∷ ys)) is ordered))

-- none of a file's is, where its arcs are in order
none_of_file : (kind : Kind) (xs : List Arc) (count : ℕ) (bytes : List ℕ) (m : ℕ) (given : Option Arc)
    → HasArcs kind xs count bytes → m < count → IfSome given (λ next. m + 1 < count)
    → ¬ IsDamagedArc kind m bytes given
none_of_file kind [] count bytes m given has within behind =
    let none : 0 ≡ count = has.begin.count_is in absurd (omega (arith, none, within))
none_of_file kind (y ∷ ys) count bytes m given has within behind =
    let xs : List Arc = y ∷ ys in
    let many : length xs ≡ count = has.begin.count_is in
    none_at kind bytes xs m y given has.begin.items has.lead (omega (arith, many, within)) (λ next is at.
    let further : m + 1 < count = subst (λ o. IfSome o (λ n. m + 1 < count)) is behind in
    let there : IsArcAt kind (m + 1) bytes (get_or xs (m + 1) y) =
    arc_at kind bytes xs (m + 1) y has.begin.items has.lead (omega (arith, many, further)) in
    let same : next ≡ get_or xs (m + 1) y = same_arc next (get_or xs (m + 1) y) at.is_arc there.is_arc
    (at.record_is.same ∙ sym there.record_is.same) in
    ap (λ n. is_before kind n (get_or xs m y)) same ∙ in_order kind xs m y (omega (arith, many, further)) has.ordered)

none_in_file : (kind : Kind) (read : FileNo) (xs : List Arc) (count : ℕ) (world : World) (f : FileNo) (at : ℕ)
    → HasArcs kind xs count (file world read).bytes → ¬ IsDamagedRecord kind read count world f at
none_in_file kind read xs count world f at has d =
    none_of_file kind xs count (file world f).bytes d.place d.given
    (subst (λ (g : File). HasArcs kind xs count g.bytes) (sym (ap (file world) d.file_is)) has) d.within d.behind
    d.damaged

-- so where the arcs of two files are in order, none of them is
pub none_among : (made : Unreduced) (world : World) (e : SortFault) (inner ends : List Arc)
    → HasArcs Inner inner made.inner_count (file world made.inner).bytes
    → HasArcs End ends made.ends_count (file world made.ends).bytes → IsDamageAmong made world e → IsNoDamage e
none_among made world Shelf inner ends has_inner has_ends damage = tt
none_among made world (Damaged f at) inner ends has_inner has_ends damage = elim damage [
  | inl d ↦ none_in_file Inner made.inner inner made.inner_count world f at has_inner d
  | inr d ↦ none_in_file End made.ends ends made.ends_count world f at has_ends d
]
none_among made world RunsSpent inner ends has_inner has_ends damage = tt

-- where the arcs are those of a file, in its order, the next record from its end on isn't damaged
none_next : (kind : Kind) (s : ArcStream) (bytes : List ℕ) (xs : List Arc) → AreLeft kind s bytes xs → 0 < left_of s
    → ¬ IsDamagedArc kind (left_of s - 1) bytes (given_of s)
none_next kind s bytes xs left some damaged =
    let zero : 0 + length xs ≡ length xs = omega arith in
    let all : length xs ≡ left_of s = sym zero ∙ ap (λ b. b + length xs) (sym s.front) ∙ left.behind.all in
    let items : AreItems IsArc arc_words 2 0 bytes xs =
    subst (λ v. v) (λ j. AreItems IsArc arc_words (s.width j) (s.front j) bytes xs) left.behind.items in
    none_at_last kind bytes xs s.given items left.lead left.ordered (omega (arith, all, some))
    (subst (λ n. IsDamagedArc kind (n - 1) bytes s.given) (sym all) damaged)

-- what is damaged at the start is one of them
among_at_start : (made : Unreduced) (world : World) (e : SortFault) → IsDamageAtStart made world e
    → IsDamageAmong made world e
among_at_start made world Shelf damage = tt
among_at_start made world (Damaged f at) damage = elim damage [
  | inl d ↦ inl (of_last Inner made.inner made.inner_count d)
  | inr d ↦ inr (of_last End made.ends made.ends_count d)
]
  where
    of_last : (kind : Kind) (read : FileNo) (count : ℕ) → IsDamagedAt kind read count None world f at
        → IsDamagedRecord kind read count world f at
    of_last kind read count d = record {
      place = count - 1;
      given = None;
      file_is = d.file_is;
      within = let some = d.some in omega (arith, some);
      behind = tt;
      at_is = d.at_is;
      damaged = d.damaged;
    }
among_at_start made world RunsSpent damage = tt

-- so a reduction that can't begin with them found no damage
pub begins_undamaged : {A : Type 0} (told : Type 0) (made : Unreduced) (world : World) (r : Result A SortFault)
    → IfErr r (λ e. told → IsDamageAtStart made world e)
    → IfErr r (λ e. told → (inner ends : List Arc) → HasArcs Inner inner made.inner_count (file world made.inner).bytes
    → HasArcs End ends made.ends_count (file world made.ends).bytes → IsNoDamage e)
begins_undamaged told made world (Ok x) damage = tt
begins_undamaged told made world (Err e) damage = λ tells inner ends has_inner has_ends.
    none_among made world e inner ends has_inner has_ends (among_at_start made world e (damage tells))

-- where the arcs that aren't handled are known, the next record isn't damaged
none_unhandled : (kind : Kind) (next : Option Arc) (s : ArcStream) (bytes : List ℕ) (xs : List Arc)
    → IsUnread kind next s bytes xs → 0 < left_of s
    → ¬ IsDamagedArc kind (left_of s - 1) bytes (given_of s)
none_unhandled kind None s bytes xs unread some damaged = absurd (omega (arith, unread.1, some))
none_unhandled kind (Some a) s bytes xs unread some damaged = none_next kind s bytes unread.0 unread.2.left some damaged

-- so what is held shows no damage
pub none_held : (s : Held) (world : World) (k : Contents) (e : SortFault) → Holds s.ahead s.lists s.writer world k
    → IsDamageOf s.ahead.reader world e → IsNoDamage e
none_held s world k Shelf holds damage = tt
none_held s world k (Damaged f at) holds damage = elim damage [
  | inl d ↦ none_unhandled Inner s.ahead.inner (inner_of s.ahead.reader) (file world f).bytes k.inner
      (subst (λ (g : File). IsUnread Inner s.ahead.inner (inner_of s.ahead.reader) g.bytes k.inner)
      (sym (ap (file world) d.file_is)) holds.inner_is) d.some d.damaged
  | inr d ↦ none_unhandled End s.ahead.end (ends_of s.ahead.reader) (file world f).bytes k.ends
      (subst (λ (g : File). IsUnread End s.ahead.end (ends_of s.ahead.reader) g.bytes k.ends)
      (sym (ap (file world) d.file_is)) holds.ends_is) d.some d.damaged
]
none_held s world k RunsSpent holds damage = tt
