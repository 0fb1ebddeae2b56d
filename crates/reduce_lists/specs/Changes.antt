-- What calls change of what a reduction holds.
use Rattle.std.specs.List.Sorted.{IsPermutation}
use Rattle.std.specs.Ordering.{is_ge, nat_cmp}
use Rattle.std.specs.Prelude.{◌≡◌, cond, ◌≤◌, Bool, true, false, List, [], ◌∷◌, ◌++◌, Option, Some, None}
use Rattle.shelf_model.specs.World.{World}
use Rattle.canon_file.specs.Members.{Has}
use Rattle.arc_file.specs.declared.arc.Arc.{Arc}
use Rattle.arc_diagrams.specs.Items.{as_arc}
use Rattle.arc_diagrams.specs.declared.final_arc.FinalArc.{FinalArc}
use Rattle.arc_diagrams.specs.declared.source_row.SourceRow.{SourceRow}
use Rattle.arc_diagrams.specs.declared.name.Name.{Name}
use Rattle.reduce_lists.specs.Held.{Held}
use Rattle.reduce_lists.specs.Contents.{Contents, Holds, to_collect}

-- the arc is in the queue from then on, unless it comes before what was taken, and all else stays
abbrev pub JoinsQueue : Held → World → Contents → FinalArc → Type 0
JoinsQueue t new k a = (queue : List FinalArc) × IsPermutation (a ∷ k.queue) queue
    × Holds t.ahead t.lists t.writer new (record k { queue = queue })

-- the row is one of the rows from then on, and all else stays
abbrev pub JoinsRows : Held → World → Contents → SourceRow → Type 0
JoinsRows t new k r = (rows : List SourceRow) × IsPermutation (r ∷ k.rows) rows
    × Holds t.ahead t.lists t.writer new (record k { rows = rows })

-- the name is one of the names from then on, and all else stays
abbrev pub JoinsNames : Held → World → Contents → Name → Type 0
JoinsNames t new k m = (names : List Name) × IsPermutation (m ∷ k.names) names
    × Holds t.ahead t.lists t.writer new (record k { names = names })

-- the first row is given, and the others are left; None is answered where there is none
abbrev pub GivesRow : Held → World → Contents → Option SourceRow → Type 0
GivesRow t new k None = (k.rows ≡ []) × Holds t.ahead t.lists t.writer new k
GivesRow t new k (Some r) = (rest : List SourceRow) × (k.rows ≡ r ∷ rest)
    × Holds t.ahead t.lists t.writer new (record k { rows = rest })

-- the first name is shown, and stays; None is answered where there is none
abbrev pub ShowsName : Held → World → Contents → Option Name → Type 0
ShowsName t new k None = (k.names ≡ []) × Holds t.ahead t.lists t.writer new k
ShowsName t new k (Some m) = (rest : List Name) × (k.names ≡ m ∷ rest) × Holds t.ahead t.lists t.writer new k

-- the first arc of the queue is shown, and stays; None is answered where there is none
abbrev pub ShowsQueued : Held → World → Contents → Option FinalArc → Type 0
ShowsQueued t new k None = (k.queue ≡ []) × Holds t.ahead t.lists t.writer new k
ShowsQueued t new k (Some a) = (rest : List FinalArc) × (k.queue ≡ a ∷ rest) × Holds t.ahead t.lists t.writer new k

-- the next arc to a node is handled
abbrev pub PassesInner : Option Arc → Held → World → Contents → Type 0
PassesInner None t new k = ⊥
PassesInner (Some a) t new k = (front : List Arc) × (k.inner ≡ front ++ a ∷ [])
    × Holds t.ahead t.lists t.writer new (record k { inner = front })

-- the arc is the first of the queue, or the one to a truth value that was read last
abbrev pub IsAt : Bool → Contents → FinalArc → Type 0
IsAt true k a = (rest : List FinalArc) × (k.queue ≡ a ∷ rest)
IsAt false k a = (front : List Arc) × (k.ends ≡ front ++ as_arc a ∷ [])

-- no arc that is to be collected has a greater source
abbrev pub IsGreatest : Contents → FinalArc → Type 0
IsGreatest k a = (x : Arc) → Has x (to_collect k) → x.source ≤ a.source

-- the arc that comes next is one with the greatest source, and there is none where none is to be collected
abbrev pub ComesNext : Contents → Option (FinalArc × Bool) → Type 0
ComesNext k None = to_collect k ≡ []
ComesNext k (Some next) = IsAt next.1 k next.0 × IsGreatest k next.0

-- the arc with the greater source of the first one of the queue and the one to a truth value, and whether it is the
-- former
abbrev pub next_of : Option FinalArc → Option Arc → Option (FinalArc × Bool)
next_of None None = None
next_of (Some a) None = Some (a, true)
next_of None (Some e) = Some (record { source = e.source; high = e.high; target = e.target }, false)
next_of (Some a) (Some e) = cond (is_ge (nat_cmp a.source e.source)) (Some (a, true))
    (Some (record { source = e.source; high = e.high; target = e.target }, false))

-- the arc is handled, and all else stays
abbrev pub Passes : Bool → Held → World → Contents → FinalArc → Type 0
Passes true t new k a = (rest : List FinalArc) × (k.queue ≡ a ∷ rest)
    × Holds t.ahead t.lists t.writer new (record k { queue = rest; last = Some a })
Passes false t new k a = (front : List Arc) × (k.ends ≡ front ++ as_arc a ∷ [])
    × Holds t.ahead t.lists t.writer new (record k { ends = front })
