-- what remains to be done of a reduction that goes from the deepest level to the first, between two levels and within
-- one
use Rattle.std.specs.Prelude.{◌≡◌, ◌⊎◌, ◌-◌, ◌<◌, ◌≤◌, ◌==◌, ◌&&◌, ℕ, suc, Bool, true, false, cond, List, [], ◌∷◌, ◌++◌, map, Option, Some, None}
use Rattle.rec_words.specs.Words.{level_of}
use Rattle.rec_words.specs.declared.node.Node.{Node}
use Rattle.canon_file.specs.declared.row.Row.{Row}
use Rattle.canon_file.specs.Members.{Has}
use Rattle.canon_file.specs.Rows.{row_before}
use Rattle.canon_file.specs.Pairs.{differs}
use Rattle.canon_file.specs.Canon.{numbered}
use Rattle.arc_file.specs.declared.arc.Arc.{Arc}
use Rattle.arc_diagrams.specs.Items.{pair}
use Rattle.arc_diagrams.specs.Reduction.{final_pointer, final_pair, final_rows, final_nodes}
use Rattle.arc_diagrams.specs.declared.source_row.SourceRow.{SourceRow}
use Rattle.arc_diagrams.specs.declared.name.Name.{Name}

-- the arc with the final pointer of its target
abbrev pub final_arc : ℕ → List Arc → Arc → Arc
final_arc n arcs a = record { source = a.source; high = a.high; target = final_pointer n arcs a.target }

-- the nodes of level i and of all deeper ones
abbrev pub nodes_from : ℕ → List Arc → ℕ → List Node
nodes_from n arcs i = final_nodes n arcs (n - i) i

-- an arc of the set from a level below `above` to level `to` or a deeper one, with its final target
abbrev pub Comes : ℕ → ℕ → ℕ → List Arc → Arc → Type 0
Comes n above to arcs q = (a : Arc) × Has a arcs × (level_of a.source < above) × (to ≤ level_of a.target)
    × (final_arc n arcs a ≡ q)

-- the queue has those arcs and no others
pub record Queues (n above to : ℕ) (arcs queue : List Arc) : Type 0 where
  pub from : (q : Arc) → Has q queue → Comes n above to arcs q
  pub each : (a : Arc) → Has a arcs → level_of a.source < above → to ≤ level_of a.target
      → Has (final_arc n arcs a) queue

-- the arcs that aren't read yet are those to nodes of levels below i
pub record Leaves (i : ℕ) (arcs unread : List Arc) : Type 0 where
  pub from : (a : Arc) → Has a unread → Has a arcs × (level_of a.target < i)
  pub each : (a : Arc) → Has a arcs → level_of a.target < i → Has a unread

-- the root's final pointer is known where its level is i or a deeper one
abbrev pub KnowsRoot : ℕ → ℕ → ℕ → List Arc → Option ℕ → Type 0
KnowsRoot n root i arcs known = i ≤ level_of root → known ≡ Some (final_pointer n arcs root)

-- level i and all deeper ones are done
pub record Remains (n root i : ℕ) (arcs queue unread : List Arc) (nodes : List Node) (known : Option ℕ) : Type 0 where
  pub queued : Queues n i i arcs queue
  pub leaves : Leaves i arcs unread
  pub made : nodes ≡ nodes_from n arcs i
  pub root_known : KnowsRoot n root i arcs known

-- the source is among the rows or the names
abbrev pub IsCollected : List SourceRow → List Name → ℕ → Type 0
IsCollected rows names source = ((r : SourceRow) × Has r rows × (r.source ≡ source))
    ⊎ ((m : Name) × Has m names × (m.source ≡ source))

-- the row is that of a source of level i
abbrev pub IsRightRow : ℕ → ℕ → List Arc → SourceRow → Type 0
IsRightRow n i arcs r =
    (a : Arc) × Has a arcs × (level_of a.source ≡ i) × (a.source ≡ r.source) × (final_pair n arcs a.source ≡ pair r)
    × (differs (pair r) ≡ true)

-- the name is that of a source of level i
abbrev pub IsRightName : ℕ → ℕ → List Arc → Name → Type 0
IsRightName n i arcs m = (a : Arc) × Has a arcs × (level_of a.source ≡ i) × (a.source ≡ m.source)
    × (final_pointer n arcs a.source ≡ m.pointer)

-- while the sources of level i are collected, the greatest first: the queue has the arcs that weren't
-- taken, noted those of the source at hand, and the rows and names the sources before it
pub record Collects (n i : ℕ) (arcs queue noted : List Arc) (rows : List SourceRow) (names : List Name) : Type 0 where
  pub queue_from : (q : Arc) → Has q queue → Comes n (suc i) (suc i) arcs q
  pub noted_from : (p : Arc) → Has p noted → Comes n (suc i) (suc i) arcs p × (level_of p.source ≡ i)
  pub each : (a : Arc) → Has a arcs → level_of a.source < suc i → suc i ≤ level_of a.target
      → Has (final_arc n arcs a) queue ⊎ (Has (final_arc n arcs a) noted ⊎ IsCollected rows names a.source)
  pub rows_right : (r : SourceRow) → Has r rows → IsRightRow n i arcs r
  pub names_right : (m : Name) → Has m names → IsRightName n i arcs m
  -- so far a source has a name only where its two final pointers are equal
  pub names_plain : (m : Name) → Has m names → differs (final_pair n arcs m.source) ≡ false
  pub one_source : (p q : Arc) → Has p noted → Has q noted → p.source ≡ q.source
  pub queue_behind : (source : ℕ) → IsCollected rows names source → (q : Arc) → Has q queue → q.source < source
  pub noted_behind : (source : ℕ) → IsCollected rows names source → (p : Arc) → Has p noted → p.source < source
  pub queue_below : (p : Arc) → Has p noted → (q : Arc) → Has q queue → q.source ≤ p.source

-- the rows of an ascending list that differ from the one before, which is the given one at first
abbrev pub distinct_after : Option Row → List Row → List Row
distinct_after last [] = []
distinct_after None (x ∷ xs) = x ∷ distinct_after (Some x) xs
distinct_after (Some p) (x ∷ xs) = cond ((p.low == x.low) && (p.high == x.high)) (distinct_after (Some p) xs)
    (x ∷ distinct_after (Some x) xs)

-- no row is before one that stands in front of it
abbrev pub IsRising : List Row → Type 0
IsRising [] = Unit {0}
IsRising (x ∷ xs) = ((y : Row) → Has y xs → row_before y x ≡ false) × IsRising xs

-- while the rows of level i are numbered, in ascending order: done has those with a number, last is the one numbered
-- last
pub record Numbers (n i : ℕ) (arcs : List Arc) (done : List Row) (last : Option Row) (rows : List SourceRow)
    (names : List Name) : Type 0 where
  pub whole : final_rows n arcs i ≡ done ++ distinct_after last (map pair rows)
  pub ends : (p : Row) → last ≡ Some p → (front : List Row) × (done ≡ front ++ p ∷ [])
  pub each : (a : Arc) → Has a arcs → level_of a.source ≡ i → IsCollected rows names a.source
  pub rows_right : (r : SourceRow) → Has r rows → IsRightRow n i arcs r
  pub names_right : (m : Name) → Has m names → IsRightName n i arcs m

-- each source of level i has a name, and each name is right
pub record AreNamed (n i : ℕ) (arcs : List Arc) (names : List Name) : Type 0 where
  pub each : (a : Arc) → Has a arcs → level_of a.source ≡ i → (m : Name) × Has m names × (m.source ≡ a.source)
  pub right : (m : Name) → Has m names → IsRightName n i arcs m

-- while the arcs to level i are read and get their final targets, in descending order of these
-- sources: a source to which an arc isn't read yet still has its name
pub record Forwards (n i : ℕ) (arcs queue unread : List Arc) (names : List Name) : Type 0 where
  pub queue_from : (q : Arc) → Has q queue → Comes n i i arcs q
  pub each : (a : Arc) → Has a arcs → level_of a.source < i → i ≤ level_of a.target
      → Has (final_arc n arcs a) queue ⊎ (Has a unread × (level_of a.target ≡ i))
  pub unread_from : (a : Arc) → Has a unread → Has a arcs × (level_of a.target < suc i)
  pub unread_each : (a : Arc) → Has a arcs → level_of a.target < i → Has a unread
  pub named : (a : Arc) → Has a unread → level_of a.target ≡ i → (m : Name) × Has m names × (m.source ≡ a.target)
  pub names_right : (m : Name) → Has m names → IsRightName n i arcs m

-- the root's final pointer is known where the root is deeper than level i; where it is of level i, it
-- is known or the root still has its name
pub record FindsRoot (n root i : ℕ) (arcs : List Arc) (names : List Name) (known : Option ℕ) : Type 0 where
  pub deeper : suc i ≤ level_of root → known ≡ Some (final_pointer n arcs root)
  pub here : level_of root ≡ i → (known ≡ Some (final_pointer n arcs root)) ⊎
      ((m : Name) × Has m names × (m.source ≡ root))

-- the arcs of the source at hand, of which the targets on some sides are known
abbrev pub side_arcs : ℕ → Bool → Option ℕ → List Arc
side_arcs source side None = []
side_arcs source side (Some target) = record { source = source; high = side; target = target } ∷ []

abbrev pub noted_arcs : ℕ → Option ℕ → Option ℕ → List Arc
noted_arcs source low high = side_arcs source false low ++ side_arcs source true high

-- the deeper levels are done, and the sources of level i are collected
pub record IsCollecting (n root i : ℕ) (arcs queue noted unread : List Arc) (rows : List SourceRow) (names : List Name)
    (nodes : List Node) (known : Option ℕ) : Type 0 where
  pub level : i < n
  pub collects : Collects n i arcs queue noted rows names
  pub leaves : Leaves (suc i) arcs unread
  pub made : nodes ≡ nodes_from n arcs (suc i)
  pub root_known : KnowsRoot n root (suc i) arcs known

-- then its rows are numbered
pub record IsNumbering (n root i : ℕ) (arcs queue unread : List Arc) (done : List Row) (last : Option Row)
    (rows : List SourceRow) (names : List Name) (nodes : List Node) (known : Option ℕ) : Type 0 where
  pub level : i < n
  pub numbers : Numbers n i arcs done last rows names
  pub queued : Queues n i (suc i) arcs queue
  pub leaves : Leaves (suc i) arcs unread
  pub made : nodes ≡ nodes_from n arcs (suc i) ++ numbered i 0 done
  pub root_known : KnowsRoot n root (suc i) arcs known

-- and the arcs to it get their final targets
pub record IsForwarding (n root i : ℕ) (arcs queue unread : List Arc) (names : List Name) (nodes : List Node)
    (known : Option ℕ) : Type 0 where
  pub level : i < n
  pub forwards : Forwards n i arcs queue unread names
  pub made : nodes ≡ nodes_from n arcs i
  pub root_found : FindsRoot n root i arcs names known
