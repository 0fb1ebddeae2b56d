-- The arcs in the bytes of an arc file, their order, and what of them is damaged.
use Rattle.std.specs.Prelude.{◌≡◌, ◌⊎◌, ℕ, ◌+◌, ◌^◌, ◌<◌, Bool, true, not, nat_lt, List, length, filter, All, Option, Some}
use Rattle.std.specs.List.Sorted.{IsSorted}
use Rattle.std.specs.Ordering.{is_lt, nat_cmp, bool_cmp, ordering_then}
use Rattle.std.specs.declared.cmp.Ordering.{Ordering}
use Rattle.rec_words.specs.Words.{level_of, IsTerminal}
use Rattle.block_stream.specs.Reads.{IsRecordOf}
use Rattle.block_stream.specs.Items.{AreItems}
use Rattle.arc_file.specs.declared.arc.Arc.{Arc}
use Rattle.arc_file.specs.declared.kind.Kind.{Kind}
use Rattle.arc_file.specs.declared.kind.Kind.TheVariants.{Inner, End}
use Rattle.arc_file.specs.Arcs.{arc_words, IsArc}

-- the arcs of a list that lead to nodes
abbrev pub inner_arcs : List Arc → List Arc
inner_arcs = filter (λ a. nat_lt a.target (2 ^ 63))

-- those that lead to truth values
abbrev pub end_arcs : List Arc → List Arc
end_arcs = filter (λ a. not (nat_lt a.target (2 ^ 63)))

-- the order of arcs to nodes: by the target, then by the source, the low one before the high one
abbrev pub inner_cmp : Arc → Arc → Ordering
inner_cmp a b = ordering_then (nat_cmp a.target b.target)
    (ordering_then (nat_cmp a.source b.source) (bool_cmp a.high b.high))

-- the order of arcs to truth values: by the source, the low one before the high one
abbrev pub end_cmp : Arc → Arc → Ordering
end_cmp a b = ordering_then (nat_cmp a.source b.source) (bool_cmp a.high b.high)

-- no arc stands before one that comes before it
abbrev pub IsInnerOrder : List Arc → Type 0
IsInnerOrder = IsSorted inner_cmp

abbrev pub IsEndOrder : List Arc → Type 0
IsEndOrder = IsSorted end_cmp

-- an inner arc leads to a node that lies deeper than its source, an end arc to a truth value
abbrev pub Leads : Kind → Arc → Type 0
Leads Inner a = (a.target < 2 ^ 63) × (level_of a.source < level_of a.target)
Leads End a = IsTerminal a.target

-- one arc comes before another in the order of its file
abbrev pub is_before : Kind → Arc → Arc → Bool
is_before Inner a b = is_lt (inner_cmp a b)
is_before End a b = is_lt (end_cmp a b)

-- the arcs are in the order of their file
abbrev pub IsInOrder : Kind → List Arc → Type 0
IsInOrder Inner xs = IsInnerOrder xs
IsInOrder End xs = IsEndOrder xs

-- the bytes begin with these arcs, so many of them
pub record BeginWith (xs : List Arc) (count : ℕ) (bytes : List ℕ) : Type 0 where
  pub items : AreItems IsArc arc_words 2 0 bytes xs
  pub count_is : length xs ≡ count

-- and they are those of a file, in its order
pub record HasArcs (kind : Kind) (xs : List Arc) (count : ℕ) (bytes : List ℕ) : Type 0 where
  pub begin : BeginWith xs count bytes
  pub lead : All (Leads kind) xs
  pub ordered : IsInOrder kind xs

-- a whole record stands at that place, and it is that of this arc, which may stand in the file
pub record IsArcAt (kind : Kind) (place : ℕ) (bytes : List ℕ) (a : Arc) : Type 0 where
  pub is_arc : IsArc a
  pub leads : Leads kind a
  pub record_is : IsRecordOf arc_words 2 place bytes a

-- an arc stands at that place, and the one behind it, which was given, comes before it
pub record IsMisplaced (kind : Kind) (place : ℕ) (bytes : List ℕ) (given : Option Arc) (a next : Arc) : Type 0 where
  pub here : IsArcAt kind place bytes a
  pub behind : IsArcAt kind (place + 1) bytes next
  pub was_given : given ≡ Some next
  pub before : is_before kind next a ≡ true

-- at that place stands no whole record of such an arc, or that of one that isn't in order with the arc behind it
abbrev pub IsDamagedArc : Kind → ℕ → List ℕ → Option Arc → Type 0
IsDamagedArc kind place bytes given = ((a : Arc) → ¬ IsArcAt kind place bytes a)
    ⊎ ((a : Arc) × (next : Arc) × IsMisplaced kind place bytes given a next)
