use Rattle.std.proofs.Common.{◌≡◌, length, drop}
use Rattle.depth_first.specs.Tables.{IsBlankBut}
use Rattle.depth_first.proofs.table.make_blank.Given as goal

-- only the entries at the places that are left may not be blank
abbrev pub invariant-loop-place : goal.invariant-loop-place
invariant-loop-place g l = record {
  size : length l.table ≡ length l.fn.table;
  others : IsBlankBut (drop l.place-index l.places) l.blank l.table;
}
