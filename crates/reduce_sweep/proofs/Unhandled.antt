-- The arcs that aren't handled, as they stand in their files.
use Rattle.std.proofs.Common.{◌≡◌, ℕ, ◌+◌, ◌*◌, ◌≤◌, ◌∙◌, List, [], ◌∷◌, ◌++◌, length, map, drop, refl, sym, ap, subst, arith}
use Rattle.std.specs.Prelude.{Option, Some, None, IsSome, IfSome}
use Rattle.std.proofs.lemmas.List.{length_push, map_push}
use Rattle.std.proofs.lemmas.List.Elements.{All-nil, All-push}
use Rattle.block_stream.specs.Records.{records_of, record_of, from_place}
use Rattle.block_stream.specs.Reads.{IsRecordOf}
use Rattle.block_stream.specs.Items.{AreItems, item_record}
use Rattle.block_stream.proofs.ItemLaws.{no_items}
use Rattle.block_stream.proofs.RecordLaws.{records_more}
use Rattle.arc_file.specs.declared.arc.Arc.{Arc}
use Rattle.arc_file.specs.declared.kind.Kind.{Kind}
use Rattle.arc_file.specs.declared.kind.Kind.TheVariants.{Inner, End}
use Rattle.arc_file.specs.declared.stream.ArcStream.{ArcStream}
use Rattle.arc_file.specs.Arcs.{arc_words, IsArc}
use Rattle.arc_file.specs.Files.{HasArcs, IsArcAt, IsInOrder, Leads}
use Rattle.arc_file.specs.Streams.{left_of, Reads, IsInOrderBefore}
use Rattle.reduce_lists.specs.Contents.{IsUnread}
use Rattle.reduce_sweep.specs.Sweeps.{one_if_some}

-- the value of the record behind others stands with them
item_behind : {T : Type 0} (is_value : T → Type 0) (words : T → List ℕ) (k : ℕ) (bytes : List ℕ) (xs : List T) (x : T)
    → is_value x → IsRecordOf words k (length xs) bytes x → AreItems is_value words k 0 bytes xs
    → AreItems is_value words k 0 bytes (xs ++ x ∷ [])
item_behind is_value words k bytes xs x is of items =
    let n : ℕ = length xs in
    let count : length (xs ++ x ∷ []) ≡ n + 1 = length_push xs x in
    let front : from_place k 0 bytes ≡ bytes = (let z : 0 * (8 * k) ≡ 0 = omega arith in ap (λ m. drop m bytes) z) in
    let earlier : map (item_record words) xs ≡ records_of k n bytes = items.same ∙ ap (records_of k n) front in
    let last : item_record words x ≡ record_of k (drop (n * (8 * k)) bytes) = (λ j. record { w = of.same j }) in
    record {
      values = All-push is_value xs x items.values is;
      whole = subst (λ m. (0 + m) * (8 * k) ≤ length bytes) (sym count)
          (let whole = of.whole in let z : 0 + (n + 1) ≡ n + 1 = omega arith in
          subst (λ m. m * (8 * k) ≤ length bytes) (sym z) whole);
      same = map_push (item_record words) xs x ∙ (λ t. earlier t ++ last t ∷ []) ∙ sym (records_more k n bytes)
          ∙ (λ t. records_of k (sym count t) (sym front t));
    }

-- no arcs are in order
none_in_order : (kind : Kind) → IsInOrder kind []
none_in_order Inner = λ k d from within. absurd (omega (arith, within))
none_in_order End = λ k d from within. absurd (omega (arith, within))

pub no_arcs : (kind : Kind) (bytes : List ℕ) → HasArcs kind [] 0 bytes
no_arcs kind bytes = record {
  begin = record { items = no_items IsArc arc_words 2 bytes; count_is = refl };
  lead = All-nil (Leads kind);
  ordered = none_in_order kind;
}

-- the arcs that aren't handled are the first ones of the file: those that weren't read, and the one at hand
pub unhandled : (kind : Kind) (next : Option Arc) (s : ArcStream) (bytes : List ℕ) (xs : List Arc)
    → (IsSome next → Reads kind s bytes) → IsUnread kind next s bytes xs
    → HasArcs kind xs (left_of s + one_if_some next) bytes
unhandled kind None s bytes xs reads unread =
    let none : 0 ≡ left_of s + 0 = (let left = unread.1 in omega (arith, left)) in
    subst (λ v. v) (λ j. HasArcs kind (sym unread.0 j) (none j) bytes) (no_arcs kind bytes)
unhandled kind (Some a) s bytes xs reads (front, is, reading) =
    let left = reading.left in
    let items : AreItems IsArc arc_words 2 0 bytes front =
    subst (λ v. v) (λ j. AreItems IsArc arc_words (s.width j) (s.front j) bytes front) left.behind.items in
    let many : length front ≡ left_of s = (let zero : 0 + length front ≡ length front = omega arith in
    sym zero ∙ ap (λ b. b + length front) (sym s.front) ∙ left.behind.all) in
    let here : IsArcAt kind (left_of s) bytes a =
    subst (λ o. IfSome o (λ g. IsArcAt kind (left_of s) bytes g)) reading.given (reads refl).last in
    let all : length (front ++ a ∷ []) ≡ left_of s + 1 = length_push front a ∙ ap (λ n. n + 1) many in
    subst (λ (ys : List Arc). HasArcs kind ys (left_of s + 1) bytes) (sym is) (record {
      begin = record {
        items = item_behind IsArc arc_words 2 bytes front a here.is_arc
            (subst (λ n. IsRecordOf arc_words 2 n bytes a) (sym many) here.record_is) items;
        count_is = all;
      };
      lead = All-push (Leads kind) front a left.lead here.leads;
      ordered = subst (IsInOrderBefore kind front) reading.given left.ordered;
    })

-- where the one at hand is read as it was, they are the same
pub unread_kept : (kind : Kind) (next : Option Arc) (s : ArcStream) (old new : List ℕ) (xs : List Arc)
    → (IsSome next → new ≡ old) → IsUnread kind next s old xs → IsUnread kind next s new xs
unread_kept kind None s old new xs same unread = unread
unread_kept kind (Some a) s old new xs same unread =
    subst (λ bytes. IsUnread kind (Some a) s bytes xs) (sym (same refl)) unread
