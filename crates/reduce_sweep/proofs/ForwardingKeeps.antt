-- The forwarding of a name keeps what remains of a reduction.
use Rattle.std.proofs.lemmas.Bool.Decides.{nat_tests}
use Rattle.std.proofs.lemmas.List.{length-append}
use Rattle.std.proofs.lemmas.List.Sorted.{sorted_far}
use Rattle.std.proofs.Math.Seq.{get_or-append_seam}
use Rattle.std.proofs.Common.{◌≡◌, ◌≢◌, ℕ, ◌≤◌, ◌<◌, arith, refl, ap, sym, subst, ◌∙◌, inl, inr, List, ◌++◌}
use Rattle.std.specs.Cmp.{IsStrictWeakOrder}
use Rattle.std.specs.List.Sorted.{IsPermutation, IsSorted}
use Rattle.std.specs.Ordering.{is_lt}
use Rattle.std.specs.Prelude.{◌+◌, ◌∷◌, [], ◌==◌, Bool, true, false, cond, Option, Some, None, IfSome, Result, Ok, Err, OnOk, map, length}
use Rattle.rec_words.specs.Words.{level_of}
use Rattle.rec_words.specs.declared.node.Node.{Node}
use Rattle.shelf_model.specs.World.{World, file}
use Rattle.shelf_model.specs.declared.sort_fault.SortFault.{SortFault}
use Rattle.canon_file.specs.Members.{Has, SameMembers}
use Rattle.arc_file.specs.declared.arc.Arc.{Arc}
use Rattle.arc_file.specs.declared.kind.Kind.TheVariants.{Inner}
use Rattle.arc_file.specs.Files.{inner_cmp, IsInnerOrder, IsArcAt}
use Rattle.arc_file.specs.Readers.{inner_of}
use Rattle.arc_file.specs.Streams.{IsInOrderBefore, Reads, file_of, left_of}
use Rattle.arc_diagrams.specs.Arcs.{IsComplete}
use Rattle.arc_diagrams.specs.Items.{as_arc, name_cmp}
use Rattle.arc_diagrams.specs.Reducing.{IsForwarding}
use Rattle.arc_diagrams.specs.declared.final_arc.FinalArc.{FinalArc}
use Rattle.arc_diagrams.specs.declared.name.Name.{Name}
use Rattle.arc_diagrams.proofs.Forwarding.{forward-below}
use Rattle.arc_diagrams.proofs.ItemOrders.{names_greatest}
use Rattle.arc_diagrams.proofs.ListViews.{same_permuted, same_self, same_map, same_append, taken_last, contains_from_has}
use Rattle.arc_diagrams.proofs.Phases.{one_forwarded, name_done, root_done, level_done}
use Rattle.arc_diagrams.proofs.RowPlaces.{has_right}
use Rattle.arc_diagrams.proofs.SameLists.{forwards-same}
use Rattle.reduce_lists.specs.Contents.{Contents, Holds, IsUnread, IsTakenTo, to_collect}
use Rattle.reduce_lists.specs.Changes.{JoinsQueue, PassesInner}
use Rattle.reduce_sweep.specs.declared.phase.Phase.TheVariants.{Between, Forward}
use Rattle.reduce_sweep.specs.declared.place.Place.{Place}
use Rattle.reduce_sweep.specs.declared.reduce.ReduceSweep.{ReduceSweep}
use Rattle.reduce_sweep.specs.Sweeps.{held_of}
use Rattle.reduce_sweep.specs.Remaining.{Diagram, IsLeft, IsWorking, RemainsAt, IsForwarded}
use Rattle.reduce_sweep.specs.Changes.{known_with, ForwardsAlong}

-- the order of arcs to nodes chains
inner_weak : IsStrictWeakOrder (λ x y. is_lt (inner_cmp x y))
inner_weak = record { one_way = λ x y e. grind (arith, nat_tests); chain = λ x y z e f. grind (arith, nat_tests) }

not_further : (x y : Arc) → is_lt (inner_cmp y x) ≡ false → x.target ≤ y.target
not_further x y e = grind (arith, nat_tests)

-- in the order of their file the last of the arcs to nodes leads furthest
last_furthest : (xs : List Arc) (y : Arc) → IsInnerOrder (xs ++ y ∷ []) → (x : Arc) → Has x (xs ++ y ∷ []) → x.target ≤ y.target
last_furthest xs y up x m =
    let (k, below, e) = contains_from_has x (xs ++ y ∷ []) m in
    let long : length (xs ++ y ∷ []) ≡ length xs + 1 = length-append xs (y ∷ []) in
    let far = sorted_far (λ a b. is_lt (inner_cmp a b)) inner_weak (xs ++ y ∷ []) up k (length xs) x (omega (arith, below, long)) (omega (arith, long)) in
    not_further x y (subst (λ v. v) (λ j. is_lt (inner_cmp (get_or-append_seam xs y [] x j) (e j)) ≡ false) far)

-- the arc that was read last leads furthest of those that aren't handled
read_furthest : (front unread : List Arc) (a : Arc) (given : Option Arc) → unread ≡ front ++ a ∷ [] → given ≡ Some a → IsInOrderBefore Inner front given
    → (x : Arc) → Has x unread → x.target ≤ a.target
read_furthest front unread a given is is_given ordered x m =
    last_furthest front a (subst (λ (o : Option Arc). IsInOrderBefore Inner front o) is_given ordered) x (subst (λ xs. Has x xs) is m)

-- a name to which no arc is left is given up, and that of the root says the root's final pointer
given_up : (n root i : ℕ) (arcs queue unread : List Arc) (names rest : List Name) (nodes : List Node) (known : ℕ) (m : Name) (same : Bool) → (m.source == root) ≡ same
    → SameMembers names (m ∷ rest) → ((x : Arc) → Has x unread → x.target ≢ m.source) → IsForwarding n root i arcs queue unread names nodes (Some known)
    → IsForwarding n root i arcs queue unread rest nodes (Some (cond same m.pointer known))
given_up n root i arcs queue unread names rest nodes known m true same taken none f =
    root_done n root i arcs queue unread names rest nodes (Some known) (Some m.pointer) m taken none (grind (arith, nat_tests)) refl f
given_up n root i arcs queue unread names rest nodes known m false same taken none f =
    name_done n root i arcs queue unread names rest nodes (Some known) m taken none (λ is. by m.source root is same) f
  where
    by : (x y : ℕ) → x ≡ y → (x == y) ≡ false → ⊥
    by x y is other = grind (arith, nat_tests)

-- the final pointer is forwarded along an arc
one_along : (n root i : ℕ) (arcs ends unread front : List Arc) (queue more : List FinalArc) (names : List Name) (nodes : List Node) (known : Option ℕ) (a : Arc) (m : Name) (told : FinalArc)
    → IsComplete n root arcs → unread ≡ front ++ a ∷ [] → Has m names → m.source ≡ a.target → told.source ≡ a.source → told.high ≡ a.high → told.target ≡ m.pointer
    → IsPermutation (told ∷ queue) more → IsForwarding n root i arcs (map as_arc queue ++ ends) unread names nodes known
    → IsForwarding n root i arcs (map as_arc more ++ ends) front names nodes known
one_along n root i arcs ends unread front queue more names nodes known a m told complete is member to_source source high target joined f =
    let taken : SameMembers unread (a ∷ front) = subst (λ xs. SameMembers xs (a ∷ front)) (sym is) (taken_last [] front a) in
    let along = one_forwarded n root i arcs (map as_arc queue ++ ends) unread front names nodes known a (as_arc told) m complete taken member to_source source high target f in
    let same : SameMembers (as_arc told ∷ map as_arc queue ++ ends) (map as_arc more ++ ends) =
    same_append (map as_arc (told ∷ queue)) (map as_arc more) ends ends (same_map as_arc (told ∷ queue) more (same_permuted (told ∷ queue) more joined)) (same_self ends) in
    record {
      level = along.level;
      forwards = forwards-same n i arcs (as_arc told ∷ map as_arc queue ++ ends) (map as_arc more ++ ends) front front names names same (same_self front) (same_self names) along.forwards;
      made = along.made;
      root_found = along.root_found;
    }

-- what remains while names are forwarded
forwarded_at : (p : Place) (d : Diagram) (k : Contents) → p.phase ≡ Forward → IsLeft p d k → IsForwarded p.variables p.arcs.root p.level p.known d k
forwarded_at p d k phase left = subst (λ f. RemainsAt f p.variables p.arcs.root p.level p.known d k) phase left.remains

-- a name is one of a source of the level
pub name_here : (p : Place) (d : Diagram) (k : Contents) (m : Name) (rest : List Name) → p.phase ≡ Forward → IsLeft p d k → k.names ≡ m ∷ rest → level_of m.source ≡ p.level
name_here p d k m rest phase left is =
    let (a, _, level, source, _) = (forwarded_at p d k phase left).forwarding.forwards.names_right m (subst (Has m) (sym is) (inl refl)) in
    ap level_of (sym source) ∙ level

-- no name is left, and the level is done
pub names_done : (p : Place) (u : ReduceSweep) (world : World) (d : Diagram) (k : Contents) → p.phase ≡ Forward → u.place ≡ record p { phase = Between } → IsLeft p d k → k.names ≡ []
    → Holds u.ahead u.lists u.writer world k → IsWorking u world d
names_done p u world d k phase place left none holds =
    let are = forwarded_at p d k phase left in
    record {
      contents = k;
      holds = holds;
      left = subst (λ (q : Place). IsLeft q d k) (sym place) (record {
        is_of = left.is_of;
        taken = left.taken;
        remains = record {
          within = omega (arith, are.forwarding.level);
          remains = level_done p.variables p.arcs.root p.level d.arcs (to_collect k) k.inner k.nodes (Some p.known)
              (subst (λ names. IsForwarding p.variables p.arcs.root p.level d.arcs (to_collect k) k.inner names k.nodes (Some p.known)) none are.forwarding);
          no_rows = are.no_rows;
          no_names = none;
        };
      });
    }

-- the name is given up, and what remains is kept
pub name_given_up : (p : Place) (u : ReduceSweep) (world : World) (d : Diagram) (k : Contents) (m : Name) (rest : List Name) → p.phase ≡ Forward → u.place ≡ record p { known = known_with p m } → IsLeft p d k
    → k.names ≡ m ∷ rest → ((x : Arc) → Has x k.inner → x.target ≢ m.source) → Holds u.ahead u.lists u.writer world (record k { names = rest }) → IsWorking u world d
name_given_up p u world d k m rest phase place left taken none holds =
    let are = forwarded_at p d k phase left in
    let members : SameMembers k.names (m ∷ rest) = subst (λ xs. SameMembers k.names xs) taken (same_self k.names) in
    record {
      contents = record k { names = rest };
      holds = holds;
      left = subst (λ (q : Place). IsLeft q d (record k { names = rest })) (sym place) (record {
        is_of = left.is_of;
        taken = left.taken;
        remains = subst (λ f. RemainsAt f p.variables p.arcs.root p.level (known_with p m) d (record k { names = rest })) (sym phase) (record {
          forwarding = given_up p.variables p.arcs.root p.level d.arcs (to_collect k) k.inner k.names rest k.nodes p.known m (m.source == p.arcs.root) refl members none are.forwarding;
          no_rows = are.no_rows;
        });
      });
    }

-- where no arc to a node is left, none leads to the name's source
pub none_left : (s : ReduceSweep) (world : World) (k : Contents) (source : ℕ) → s.ahead.inner ≡ None → Holds s.ahead s.lists s.writer world k → (x : Arc) → Has x k.inner → x.target ≢ source
none_left s world k source none holds x m =
    let empty : IsUnread Inner None (inner_of s.ahead.reader) (file world (file_of (inner_of s.ahead.reader))).bytes k.inner =
    subst (λ (o : Option Arc). IsUnread Inner o (inner_of s.ahead.reader) (file world (file_of (inner_of s.ahead.reader))).bytes k.inner) none holds.inner_is in
    absurd (subst (λ xs. Has x xs) empty.0 m)

-- the arcs that aren't handled: that which was read last leads furthest
record IsFurthest (k : Contents) (a : Arc) : Type 0 where
  pub front : List Arc
  pub is : k.inner ≡ front ++ a ∷ []
  pub furthest : (x : Arc) → Has x k.inner → x.target ≤ a.target

furthest_read : (s : ReduceSweep) (world : World) (k : Contents) (a : Arc) → s.ahead.inner ≡ Some a → Holds s.ahead s.lists s.writer world k → IsFurthest k a
furthest_read s world k a next holds =
    let unread : IsUnread Inner (Some a) (inner_of s.ahead.reader) (file world (file_of (inner_of s.ahead.reader))).bytes k.inner =
    subst (λ (o : Option Arc). IsUnread Inner o (inner_of s.ahead.reader) (file world (file_of (inner_of s.ahead.reader))).bytes k.inner) next holds.inner_is in
    record {
      front = unread.0;
      is = unread.1;
      furthest = read_furthest unread.0 k.inner a _ unread.1 unread.2.given unread.2.left.ordered;
    }

-- where the next arc leads less far than to the name's source, none leads to it
pub none_as_far : (s : ReduceSweep) (world : World) (k : Contents) (a : Arc) (source : ℕ) → s.ahead.inner ≡ Some a → Holds s.ahead s.lists s.writer world k → a.target < source
    → (x : Arc) → Has x k.inner → x.target ≢ source
none_as_far s world k a source next holds less x m same =
    let far : IsFurthest k a = furthest_read s world k a next holds in
    omega (arith, far.furthest x m, less, same)

-- the next arc leads no further than to the source of the first name
pub leads_within : (s : ReduceSweep) (world : World) (d : Diagram) (k : Contents) (m : Name) (rest : List Name) (a : Arc) → s.place.phase ≡ Forward → IsLeft s.place d k → k.names ≡ m ∷ rest → s.ahead.inner ≡ Some a
    → Holds s.ahead s.lists s.writer world k → a.target ≤ m.source
leads_within s world d k m rest a phase left named next holds =
    let p = s.place in
    let are = forwarded_at p d k phase left in
    let far : IsFurthest k a = furthest_read s world k a next holds in
    let member : Has m k.names = subst (λ xs. Has m xs) (sym named) (inl refl) in
    let unread : Has a k.inner = subst (λ xs. Has a xs) (sym far.is) (has_right a far.front (a ∷ []) (inl refl)) in
    forward-below p.variables p.level d.arcs (to_collect k) k.inner k.names m a member
    (λ q in_names. elim (subst (λ xs. Has q xs) named in_names) [ inl same ↦ omega (arith, ap (λ (x : Name). x.source) same) | inr later ↦ names_greatest m rest (subst (λ xs. IsSorted name_cmp xs) named holds.names_is.ascends) q later ])
    unread are.forwarding.forwards

-- the next arc is from a shallower level than the one that it leads to
pub arc_leads : (s : ReduceSweep) (world : World) (k : Contents) (a : Arc) → s.ahead.inner ≡ Some a → Reads Inner (inner_of s.ahead.reader) (file world (file_of (inner_of s.ahead.reader))).bytes
    → Holds s.ahead s.lists s.writer world k → level_of a.source < level_of a.target
arc_leads s world k a next reads holds =
    let bytes = (file world (file_of (inner_of s.ahead.reader))).bytes in
    let unread : IsUnread Inner (Some a) (inner_of s.ahead.reader) bytes k.inner = subst (λ (o : Option Arc). IsUnread Inner o (inner_of s.ahead.reader) bytes k.inner) next holds.inner_is in
    let at : IsArcAt Inner (left_of (inner_of s.ahead.reader)) bytes a =
    subst (λ (o : Option Arc). IfSome o (λ g. IsArcAt Inner (left_of (inner_of s.ahead.reader)) bytes g)) unread.2.given reads.last in
    at.leads.1

-- so it comes after what was taken
pub comes_after : (p : Place) (d : Diagram) (k : Contents) (a : Arc) → IsLeft p d k → level_of a.source < level_of a.target → level_of a.target ≡ p.level → IsTakenTo (level_of a.source + 1) k.last
comes_after p d k a left leads level = by k.last left.taken
  where
    by : (last : Option FinalArc) → IsTakenTo p.level last → IsTakenTo (level_of a.source + 1) last
    by None taken = tt
    by (Some x) taken = omega (arith, taken, leads, level)

-- the arc is handled with the name's pointer, and what remains is kept
pub arc_forwarded : (p : Place) (u : ReduceSweep) (world : World) (d : Diagram) (k : Contents) (m : Name) (rest : List Name) (a : Arc) (told : FinalArc) → p.phase ≡ Forward → u.place ≡ p → IsLeft p d k
    → k.names ≡ m ∷ rest → m.source ≡ a.target → told.source ≡ a.source → told.high ≡ a.high → told.target ≡ m.pointer → ForwardsAlong (Some a) u world k told → IsWorking u world d
arc_forwarded p u world d k m rest a told phase place left named to_source source high target (queue, front, joined, split, holds) =
    let are = forwarded_at p d k phase left in
    let member : Has m k.names = subst (λ xs. Has m xs) (sym named) (inl refl) in
    let l : Contents = record k { queue = queue; inner = front } in
    record {
      contents = l;
      holds = holds;
      left = subst (λ (q : Place). IsLeft q d l) (sym place) (record {
        is_of = left.is_of;
        taken = left.taken;
        remains = subst (λ f. RemainsAt f p.variables p.arcs.root p.level p.known d l) (sym phase) (record {
          forwarding = one_along p.variables p.arcs.root p.level d.arcs k.ends k.inner front k.queue queue k.names k.nodes (Some p.known) a m told
              left.is_of.diagram.complete split member to_source source high target joined are.forwarding;
          no_rows = are.no_rows;
        });
      });
    }

-- an arc was pushed and the next one to a node passed over
along : (o : Option Arc) (u : ReduceSweep) (new : World) (k : Contents) (queue : List FinalArc) (a : FinalArc) → IsPermutation (a ∷ k.queue) queue
    → PassesInner o (held_of u) new (record k { queue = queue }) → ForwardsAlong o u new k a
along None u new k queue a joined passes = passes
along (Some x) u new k queue a joined (front, split, holds) = (queue, front, joined, split, holds)

pub passed_along : (inner : Option Arc) (s t u : ReduceSweep) (told later : Type 0) (old between new : World) (a : FinalArc) (result : Result Unit SortFault) → t.ahead.inner ≡ inner → (later → told)
    → (told → (k : Contents) → Holds s.ahead s.lists s.writer old k → IsTakenTo (level_of a.source + 1) k.last
    → JoinsQueue (held_of t) between k a)
    → OnOk result (later → (k : Contents) → Holds t.ahead t.lists t.writer between k
    → PassesInner t.ahead.inner (held_of u) new k)
    → OnOk result (later → (k : Contents) → Holds s.ahead s.lists s.writer old k → IsTakenTo (level_of a.source + 1) k.last → ForwardsAlong inner u new k a)
passed_along inner s t u told later old between new a (Err e) is before joined passed = tt
passed_along inner s t u told later old between new a (Ok x) is before joined passed = λ tell k holds taken.
    let (queue, permuted, held) = joined (before tell) k holds taken in
    along inner u new k queue a permuted
    (subst (λ (o : Option Arc). PassesInner o (held_of u) new (record k { queue = queue })) is
    (passed tell (record k { queue = queue }) held))
