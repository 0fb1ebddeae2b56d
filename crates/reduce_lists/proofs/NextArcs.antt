-- Which arc is collected next, and what of the arcs is read on.
use Rattle.std.proofs.Common.{◌≡◌, ℕ, ◌≤◌, arith, refl, ap, sym, subst, ◌∙◌, inl, inr, List, ◌++◌}
use Rattle.std.proofs.lemmas.Bool.Decides.{nat_tests}
use Rattle.std.proofs.lemmas.List.{same_from_push}
use Rattle.std.specs.Prelude.{◌∷◌, [], false, true, Bool, cond, Option, Some, None, IfSome, Ok, map, length}
use Rattle.std.specs.Cmp.{IsStrictWeakOrder}
use Rattle.std.specs.List.Sorted.{IsSorted}
use Rattle.std.specs.Ordering.{is_lt, is_ge, nat_cmp}
use Rattle.block_stream.specs.Items.{GivesLast}
use Rattle.canon_file.specs.Members.{Has}
use Rattle.canon_file.proofs.MemberLaws.{map_has}
use Rattle.canon_file.proofs.StandLaws.{has_append}
use Rattle.run_merge.specs.Lists.{Gives}
use Rattle.level_queue.specs.Queues.{Reaches}
use Rattle.arc_file.specs.declared.arc.Arc.{Arc}
use Rattle.arc_file.specs.declared.kind.Kind.{Kind}
use Rattle.arc_file.specs.declared.kind.Kind.TheVariants.{End}
use Rattle.arc_file.specs.declared.stream.ArcStream.{ArcStream}
use Rattle.arc_file.specs.Files.{end_cmp, IsEndOrder}
use Rattle.arc_file.specs.Streams as streams
use Rattle.arc_diagrams.specs.Items.{as_arc, final_arc_cmp}
use Rattle.arc_diagrams.specs.declared.final_arc.FinalArc.{FinalArc}
use Rattle.arc_diagrams.proofs.ItemOrders.{arcs_greatest}
use Rattle.arc_diagrams.proofs.ListViews.{none_before, sorted_rest}
use Rattle.arc_diagrams.proofs.RowPlaces.{has_right}
use Rattle.shelf_model.specs.World.{World}
use Rattle.reduce_lists.specs.Contents.{Contents, IsUnread, to_collect}
use Rattle.reduce_lists.specs.Changes.{IsAt, IsGreatest, next_of, ComesNext, ShowsQueued}
use Rattle.reduce_lists.specs.Held.{Held}

-- the order of arcs to truth values chains
end_weak : IsStrictWeakOrder (λ x y. is_lt (end_cmp x y))
end_weak = record { one_way = λ x y e. grind (arith, nat_tests); chain = λ x y z e f. grind (arith, nat_tests) }

end_not_greater : (x y : Arc) → is_lt (end_cmp y x) ≡ false → x.source ≤ y.source
end_not_greater x y e = grind (arith, nat_tests)

-- the last of the arcs to truth values has the greatest source
last_greatest : (front : List Arc) (a : Arc) → IsEndOrder (front ++ a ∷ []) → (x : Arc) → Has x front
    → x.source ≤ a.source
last_greatest [] a up x m = absurd m
last_greatest (y ∷ ys) a up x (inl e) =
    subst (λ (z : Arc). z.source ≤ a.source) e
    (end_not_greater y a (none_before (λ p q. is_lt (end_cmp p q)) end_weak y (ys ++ a ∷ []) up a
    (has_right a ys (a ∷ []) (inl refl))))
last_greatest (y ∷ ys) a up x (inr m) =
    last_greatest ys a (sorted_rest (λ p q. is_lt (end_cmp p q)) y (ys ++ a ∷ []) up) x m

-- the arc to a truth value that was read last is the last of those that aren't handled
pub at_end : (k : Contents) (next : Option Arc) (s : ArcStream) (bytes : List ℕ) (a : FinalArc) → next ≡ Some (as_arc a)
    → IsUnread End next s bytes k.ends → IsAt false k a
at_end k next s bytes a is unread =
    let some : IsUnread End (Some (as_arc a)) s bytes k.ends =
    subst (λ (o : Option Arc). IsUnread End o s bytes k.ends) is unread in
    (some.0, some.1)

-- none of them has a greater source
pub ends_below : (next : Option Arc) (s : ArcStream) (bytes : List ℕ) (xs : List Arc) (a : Arc) → next ≡ Some a
    → IsUnread End next s bytes xs → (x : Arc) → Has x xs → x.source ≤ a.source
ends_below next s bytes xs a is unread x m =
    let some : IsUnread End (Some a) s bytes xs = subst (λ (o : Option Arc). IsUnread End o s bytes xs) is unread in
    let up : IsEndOrder (some.0 ++ a ∷ []) =
    subst (λ (o : Option Arc). streams.IsInOrderBefore End some.0 o) some.2.given some.2.left.ordered in
    elim (has_append x some.0 (a ∷ []) (subst (λ (ys : List Arc). Has x ys) some.1 m)) [
      | inl k ↦ last_greatest some.0 a up x k
      | inr k ↦ elim k [
        | inl e ↦ (let same : a.source ≡ x.source =
            ap (λ (y : Arc). y.source) e in omega (arith, same))
        | inr none ↦ absurd none
      ]
    ]

-- no arc of the queue has a greater source than its first one
pub queue_below : (xs rest : List FinalArc) (a : FinalArc) → xs ≡ a ∷ rest → IsSorted final_arc_cmp xs → (x : Arc)
    → Has x (map as_arc xs) → x.source ≤ a.source
queue_below xs rest a is up x m =
    let (y, k, e) = map_has as_arc x xs m in
    let same : y.source ≡ x.source = ap (λ (z : Arc). z.source) e in
    elim (subst (λ (ys : List FinalArc). Has y ys) is k) [
      | inl first ↦ (let here : a.source ≡ y.source =
          ap (λ (z : FinalArc). z.source) first in omega (arith, same, here))
      | inr later ↦ (
          let below : y.source ≤ a.source = arcs_greatest a rest (subst (IsSorted final_arc_cmp) is up) y later in
          omega (arith, same, below))
    ]

-- an arc has the greatest source where none of the queue and none to a truth value has a greater one
pub greatest_of : (k : Contents) (a : FinalArc) → ((x : Arc) → Has x (map as_arc k.queue) → x.source ≤ a.source)
    → ((x : Arc) → Has x k.ends → x.source ≤ a.source) → IsGreatest k a
greatest_of k a queue ends x m =
    elim (has_append x (map as_arc k.queue) k.ends m) [ inl h ↦ queue x h | inr h ↦ ends x h ]

-- an arc of the queue whose source is no less than that of the arc to a truth value has the greatest one
pub greatest_queued : (k : Contents) (a : FinalArc) (end : Arc) → is_ge (nat_cmp a.source end.source) ≡ true
    → ((x : Arc) → Has x (map as_arc k.queue) → x.source ≤ a.source)
    → ((x : Arc) → Has x k.ends → x.source ≤ end.source) → IsGreatest k a
greatest_queued k a end test queue ends =
    let above : end.source ≤ a.source = grind (arith, nat_tests) in
    greatest_of k a queue (λ x m. let below : x.source ≤ end.source = ends x m in omega (arith, below, above))

-- where it is less, the arc to a truth value has
pub greatest_read : (k : Contents) (a : FinalArc) (end : FinalArc) → is_ge (nat_cmp a.source end.source) ≡ false
    → ((x : Arc) → Has x (map as_arc k.queue) → x.source ≤ a.source)
    → ((x : Arc) → Has x k.ends → x.source ≤ end.source) → IsGreatest k end
greatest_read k a end test queue ends =
    let above : a.source ≤ end.source = grind (arith, nat_tests) in
    greatest_of k end (λ x m. let below : x.source ≤ a.source = queue x m in omega (arith, below, above)) ends

-- no arc is to be collected where the queue is empty and none to a truth value is left
pub none_first : (k : Contents) → k.queue ≡ [] → k.ends ≡ [] → to_collect k ≡ []
none_first k queue ends = λ j. map as_arc (queue j) ++ ends j

-- the items behind the first
abbrev tail_of : {T : Type 0} → List T → List T
tail_of [] = []
tail_of (x ∷ xs) = xs

-- the first item was taken: the others are left
pub rest_is : {T : Type 0} (Now : List T → Type 0) (xs rest : List T) (x : T) (o : Option T) → xs ≡ x ∷ rest
    → Gives Now xs (Ok o) → Now rest
rest_is Now xs rest x None is given = absurd (omega (arith, ap length (sym given.0 ∙ is)))
rest_is Now xs rest x (Some y) is given = subst Now (ap tail_of (sym given.1 ∙ is)) given.2

-- the first item, where there is one
abbrev head_of : {T : Type 0} → List T → Option T
head_of [] = None
head_of (x ∷ xs) = Some x

-- it is the last one taken from then on
pub first_reached : {T : Type 0} (Now : List T → Type 0) (xs rest : List T) (x : T) (old new o : Option T)
    → xs ≡ x ∷ rest → Gives Now xs (Ok o) → Reaches old new (Ok o) → new ≡ Some x
first_reached Now xs rest x old new None is given reached = absurd (omega (arith, ap length (sym given.0 ∙ is)))
first_reached Now xs rest x old new (Some y) is given reached = reached ∙ ap head_of (sym given.1 ∙ is)

-- what a reader answers is the next arc, and those before it are unread
pub unread_on : (kind : Kind) (s t : ArcStream) (bytes : List ℕ) (front : List Arc) (next : Option Arc)
    → streams.GoesUp kind s t (Ok next)
    → GivesLast (streams.AreLeft kind t bytes) front (Ok next) → IsUnread kind next t bytes front
unread_on kind s t bytes front None up left = (left, up.1)
unread_on kind s t bytes front (Some a) up left = (left.0, left.1, record { given = up.4; left = left.2 })

-- once the next arc of a file is handled, those before it are unread
pub read_on : (kind : Kind) (s t : ArcStream) (bytes : List ℕ) (xs : List Arc) (next : Option Arc) (a : Arc)
    → streams.GoesUp kind s t (Ok next)
    → ((ys : List Arc) → streams.AreLeft kind s bytes ys → GivesLast (streams.AreLeft kind t bytes) ys (Ok next))
    → IsUnread kind (Some a) s bytes xs
    → (front : List Arc) × (xs ≡ front ++ a ∷ []) × IsUnread kind next t bytes front
read_on kind s t bytes xs next a up left unread =
    (unread.0, unread.1, unread_on kind s t bytes unread.0 next up (left unread.0 unread.2.left))

-- the last of two lists that are the same
pub last_same : (xs ys : List Arc) (a b : Arc) → xs ++ a ∷ [] ≡ ys ++ b ∷ [] → a ≡ b
last_same xs ys a b same = (same_from_push xs ys a b same).1

-- the arc that comes next has the greatest source
pub comes_next : (k : Contents) (queued : Option FinalArc) (end : Option Arc) (s : ArcStream) (bytes : List ℕ)
    → IfSome queued (λ a. (rest : List FinalArc) × (k.queue ≡ a ∷ rest)) → (queued ≡ None → k.queue ≡ [])
    → IsSorted final_arc_cmp k.queue → IsUnread End end s bytes k.ends → ComesNext k (next_of queued end)
comes_next k None None s bytes some none up unread = none_first k (none refl) unread.0
comes_next k (Some a) None s bytes (rest, is) none up unread = (
  (rest, is),
  greatest_of k a (queue_below k.queue rest a is up) (λ x m. absurd (subst (λ (xs : List Arc). Has x xs) unread.0 m)),
)
comes_next k None (Some e) s bytes some none up unread =
    let read : FinalArc = record { source = e.source; high = e.high; target = e.target } in (
      at_end k (Some e) s bytes read refl unread,
      greatest_of k read (λ x m. absurd (subst (λ (xs : List FinalArc). Has x (map as_arc xs)) (none refl) m))
          (ends_below (Some e) s bytes k.ends e refl unread),
    )
comes_next k (Some a) (Some e) s bytes (rest, is) none up unread = by (is_ge (nat_cmp a.source e.source)) refl
  where
    read : FinalArc
    read = record { source = e.source; high = e.high; target = e.target }

    by : (b : Bool) → is_ge (nat_cmp a.source e.source) ≡ b → ComesNext k (cond b (Some (a, true)) (Some (read, false)))
    by true test = (
      (rest, is),
      greatest_queued k a e test (queue_below k.queue rest a is up)
          (ends_below (Some e) s bytes k.ends e refl unread),
    )
    by false test = (
      at_end k (Some e) s bytes read refl unread,
      greatest_read k a read test
          (queue_below k.queue rest a is up) (ends_below (Some e) s bytes k.ends e refl unread),
    )

pub shown_comes : (t : Held) (new : World) (k : Contents) (queued : Option FinalArc) → ShowsQueued t new k queued
    → ComesNext k (next_of queued t.ahead.end)
shown_comes t new k None (none, holds) =
    comes_next k None t.ahead.end _ _ tt (λ _. none) holds.queue_is.sorter.ascends holds.ends_is
shown_comes t new k (Some a) (rest, is, holds) =
    comes_next k (Some a) t.ahead.end _ _ (rest, is) (λ e. cc) holds.queue_is.sorter.ascends holds.ends_is
