use Rattle.std.proofs.Common.{◌≡◌, ℕ, List, take}
use Rattle.std.specs.List.{IsDistinct}
use Rattle.std.specs.Str.{bytes_eq}
use Rattle.script_reader.specs.Names.{place_of}
use Rattle.script_reader.specs.Views.{texts, found_in}
use Rattle.script_reader.proofs.places.places_of.Given as goal

-- the map has the names so far, which differ
abbrev pub invariant-loop-place : goal.invariant-loop-place
invariant-loop-place l = record {
  places : (name : List ℕ) → found_in l.places name ≡ place_of (take l.place (texts l.names)) name;
  differ : IsDistinct bytes_eq (take l.place (texts l.names));
}
