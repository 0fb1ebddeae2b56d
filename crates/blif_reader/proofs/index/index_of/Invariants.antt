use Rattle.std.proofs.Common.{◌≡◌, ◌≤◌, List, ℕ, length, drop}
use Rattle.std.specs.List.{position_from}
use Rattle.std.specs.Str.{bytes_eq}
use Rattle.blif_reader.specs.Index.{found_in}
use Rattle.blif_reader.specs.Views.{names_in}
use Rattle.blif_reader.proofs.index.index_of.Given as goal

-- the index has the places of the names from a place on
abbrev pub invariant-names : goal.invariant-names
invariant-names l = record {
  has : (q : List ℕ) → found_in l.index q ≡ position_from (bytes_eq q) l.place (drop l.place (names_in l.names));
  within : l.place ≤ length (names_in l.names);
}

abbrev pub decreases-names : goal.decreases-names
decreases-names l = l.place
