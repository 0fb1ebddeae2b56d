-- What is made of the pairs of pointers into two diagrams.
use Rattle.std.specs.Prelude.{◌≡◌, ℕ, Bool, Option, Some, None, List}
use Rattle.list_laws.specs.Members.{Has}
use Rattle.rec_words.specs.declared.rec.Rec.{Rec}
use Rattle.canon_file.specs.declared.row.Row.{Row}
use Rattle.top_down.specs.declared.tuple.Goal.{Goal}
use Rattle.top_down.specs.declared.tuple.Goal.TheVariants.{End, Go}
use Rattle.top_down.specs.Tuples.{Targets}
use Rattle.room_reduction.specs.Records.{uid_in, low_in, high_in}

-- the truth value in which a pair ends
abbrev pub end_in : Goal → Option Bool
end_in (End value) = Some value
end_in (Go x) = None

-- the records are those of nodes that have these pointers
abbrev pub GivesRows : (ℕ → Row) → List Rec → Type 0
GivesRows targets nodes = (r : Rec) → Has r nodes → targets (uid_in r) ≡ record { low = low_in r; high = high_in r }

-- so are those of both diagrams
pub record GiveRows (targets : Targets) (left right : List Rec) : Type 0 where
  pub first : GivesRows targets.first left
  pub second : GivesRows targets.second right
