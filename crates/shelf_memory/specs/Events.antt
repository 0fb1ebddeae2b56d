-- The moments that the events of a station lead through.
use Rattle.std.specs.Prelude.{ℕ, suc, zero, List, [], ◌∷◌, ◌++◌}
use Rattle.std.specs.FinMap.{insert, empty}
use Rattle.shelf_model.specs.declared.file_no.FileNo.{FileNo}
use Rattle.shelf_model.specs.File.{File, firm_file}
use Rattle.shelf_model.specs.Folder.{file_in}
use Rattle.shelf_model.specs.World.{Moment}
use Rattle.shelf_memory.specs.Changes.{changed}
use Rattle.shelf_memory.specs.declared.event.Call.{Call}
use Rattle.shelf_memory.specs.declared.event.Call.TheVariants.{Nothing, Changed, Said}
use Rattle.shelf_memory.specs.declared.event.Event.{Event}
use Rattle.shelf_memory.specs.declared.event.Event.TheVariants.{Called, Put}

-- the moment at which one file is another
abbrev pub with_file : FileNo → File → Moment → Moment
with_file f file m = record { folder = insert m.folder f file; said = m.said }

-- the moment after a call
abbrev pub after_call : Call → Moment → Moment
after_call Nothing m = m
after_call (Changed f change) m = with_file f (changed change (file_in m.folder f)) m
after_call (Said bytes) m = record { folder = m.folder; said = m.said ++ bytes.items }

-- the moment after an event
abbrev pub after : Event → Moment → Moment
after (Called call) m = after_call call m
after (Put f bytes) m = with_file f (firm_file bytes.items) m

-- no files, and nothing said
abbrev pub first_moment : Moment
first_moment = record { folder = empty; said = [] }

-- the moment after these events, from this one on
unfoldable pub replayed : Moment → List Event → Moment
replayed m [] = m
replayed m (e ∷ es) = replayed (after e m) es

-- how many of the events are calls
unfoldable pub calls_in : List Event → ℕ
calls_in [] = 0
calls_in (Called call ∷ es) = suc (calls_in es)
calls_in (Put f bytes ∷ es) = calls_in es

-- the events up to the end of the first k calls, and what was put before the next
unfoldable pub first_calls : ℕ → List Event → List Event
first_calls k [] = []
first_calls k (Put f bytes ∷ es) = Put f bytes ∷ first_calls k es
first_calls zero (Called call ∷ es) = []
first_calls (suc k) (Called call ∷ es) = Called call ∷ first_calls k es

-- what stood after the first k calls
unfoldable pub moment_of : List Event → ℕ → Moment
moment_of es k = replayed first_moment (first_calls k es)
