-- How many turns a sweep from the root to the leaves has made.
use Rattle.std.specs.Prelude.{◌≡◌, ℕ, suc, ◌+◌, ◌*◌, ◌^◌, ◌<◌, ◌≤◌, ◌==◌, ◌&&◌, true, false, cond, List, [], ◌∷◌, ◌++◌, length, Option, Some, None}
use Rattle.std.specs.List.{sum_by}
use Rattle.std.specs.List.Sorted.{IsPermutation}
use Rattle.rec_words.specs.Words.{level_of}
use Rattle.rec_words.specs.declared.node.Node.{Node}
use Rattle.canon_file.specs.declared.row.Row.{Row}
use Rattle.canon_file.specs.Members.{Has}
use Rattle.arc_file.specs.declared.arc.Arc.{Arc}
use Rattle.top_down.specs.declared.tuple.Tuple.{Tuple}
use Rattle.top_down.specs.Rules.{Rule}
use Rattle.top_down.specs.Asks.{side_arcs}
use Rattle.top_down_laws.specs.Forms.{Form, Waiting, nobody, first_form, next_key}
use Rattle.top_down_laws.specs.Readings.{Diagrams, targets_in, Readings, with_first, with_second, with_third, want, filled_form, asked_on}
use Rattle.top_down_laws.specs.Remains.{Place, at_place, Numbered, identifier, Remains, IsMet, answer_arcs, goal_on, side_waits, next_numbered}
use Rattle.top_down_laws.specs.Laws.{unread_all}

-- 1 where the member is a node of that level that wasn't read
abbrev pub waits_at : ℕ → Row → ℕ
waits_at level m = cond ((m.low == m.high) && (level_of m.low == level)) 1 0

-- how often a tuple in that form is still taken, at most: once for each such member
abbrev pub stages : Form → ℕ
stages f = waits_at (level_of f.key) f.first
    + (waits_at (level_of f.key) f.second + waits_at (level_of f.key) f.third)

-- the nodes that weren't read, and how often the asks that wait are still taken
abbrev pub unread_count : Readings → ℕ
unread_count r = length r.first.unread + (length r.second.unread + length r.third.unread)

abbrev pub owed : Readings → List Waiting → ℕ
owed r waiting = unread_count r + sum_by (λ a. stages a.form) waiting

-- how many sides the tuples have that were numbered: each has an arc or an ask, and so has each
-- answer to another
abbrev pub sides_count : Option Numbered → List Waiting → List Arc → List Arc → ℕ
sides_count None waiting inner ends = 0
sides_count (Some x) waiting inner ends = length inner + (length ends + length waiting)

-- the turns so far, with what is owed, are no more than the nodes, three for the root's ask, and
-- three for each side of a tuple
abbrev pub IsCounted : Diagrams → ℕ → Option Numbered → Readings → List Waiting → List Arc
    → List Arc
    → Type 0
IsCounted d turns newest r waiting inner ends =
    turns + owed r waiting
    ≤ unread_count (unread_all d) + 3 + 3 * sides_count newest waiting inner ends

-- at first no turn was made
abbrev pub CountBegins : Type 0
CountBegins = (d : Diagrams) (x : Tuple)
    → IsCounted d 0 None (unread_all d) (record { form = first_form x; asker = nobody } ∷ []) [] []

-- the order of the asks changes nothing
abbrev pub CountInAnyOrder : Type 0
CountInAnyOrder = (d : Diagrams) (turns : ℕ) (newest : Option Numbered) (r : Readings)
    (waiting others : List Waiting) (inner ends : List Arc) → IsPermutation waiting others
    → IsCounted d turns newest r waiting inner ends
    → IsCounted d turns newest r others inner ends

-- a turn that reads a node is counted
pub record CountsReads (d : Diagrams) (turns : ℕ) (newest : Option Numbered) (r : Readings)
    (waiting : List Waiting) (inner ends : List Arc) (x : Node) (unread : List Node) : Type 0 where
  pub first : r.first.unread ≡ unread ++ x ∷ []
      → IsCounted d (suc turns) newest (with_first r (record { hand = Some x; unread = unread }))
      waiting inner ends
  pub second : r.second.unread ≡ unread ++ x ∷ []
      → IsCounted d (suc turns) newest (with_second r (record { hand = Some x; unread = unread }))
      waiting inner ends
  pub third : r.third.unread ≡ unread ++ x ∷ []
      → IsCounted d (suc turns) newest (with_third r (record { hand = Some x; unread = unread }))
      waiting inner ends

abbrev pub ReadIsCounted : Type 0
ReadIsCounted = (d : Diagrams) (turns : ℕ) (newest : Option Numbered) (r : Readings)
    (waiting : List Waiting) (inner ends : List Arc) (x : Node) (unread : List Node)
    → IsCounted d turns newest r waiting inner ends
    → CountsReads d turns newest r waiting inner ends x unread

-- a turn that asks again is counted
abbrev pub ReadOnIsCounted : ℕ → Rule → Diagrams → Tuple → Type 0
ReadOnIsCounted n rule d roots =
    (turns : ℕ) (place : Place) (a : Waiting) (rest : List Waiting) (last : Option Waiting)
    (r : Readings) (inner ends : List Arc)
    → Remains n rule d roots place (a ∷ rest) last r inner ends
    → want r a.form ≡ false → next_key (filled_form r a.form) < 2 ^ 63
    → IsCounted d turns place.newest r (a ∷ rest) inner ends
    → IsCounted d (suc turns) place.newest r (asked_on r a ∷ rest) inner ends

-- so is one that answers by a known number
abbrev pub KnownIsCounted : ℕ → Rule → Diagrams → Tuple → Type 0
KnownIsCounted n rule d roots =
    (turns root : ℕ) (x : Numbered) (a : Waiting) (rest : List Waiting) (last : Option Waiting)
    (r : Readings) (inner ends : List Arc)
    → Remains n rule d roots (at_place root (Some x)) (a ∷ rest) last r inner ends
    → IsCounted d turns (Some x) r (a ∷ rest) inner ends
    → IsCounted d (suc turns) (Some x) r rest (inner ++ answer_arcs a.asker (identifier x)) ends

-- and one that gives a new number
abbrev pub NewIsCounted : ℕ → Rule → Diagrams → Tuple → Type 0
NewIsCounted n rule d roots =
    (turns : ℕ) (place : Place) (a : Waiting) (rest : List Waiting) (last : Option Waiting)
    (r : Readings) (inner ends : List Arc)
    → Remains n rule d roots place (a ∷ rest) last r inner ends
    → IsCounted d turns place.newest r (a ∷ rest) inner ends
    → (let x : Numbered = next_numbered place.newest a.form in
    IsCounted d (suc turns) (Some x) r
    (side_waits (identifier x) false (goal_on rule r a.form false)
    ++ (side_waits (identifier x) true (goal_on rule r a.form true) ++ rest))
    (inner ++ answer_arcs a.asker (identifier x))
    (ends ++ (side_arcs (identifier x) false (goal_on rule r a.form false)
    ++ side_arcs (identifier x) true (goal_on rule r a.form true))))

-- the turns are no more than six for each tuple that is met, one for each node that was read, and
-- three
abbrev pub TurnsAreFew : ℕ → Rule → Diagrams → Tuple → Type 0
TurnsAreFew n rule d roots =
    (turns : ℕ) (place : Place) (waiting : List Waiting) (last : Option Waiting) (r : Readings)
    (inner ends : List Arc) (all : List Tuple)
    → Remains n rule d roots place waiting last r inner ends
    → IsCounted d turns place.newest r waiting inner ends
    → ((x : Tuple) → IsMet rule (targets_in d) roots x → Has x all)
    → turns + unread_count r ≤ 6 * length all + unread_count (unread_all d) + 3
