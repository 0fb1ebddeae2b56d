-- What the room keeps of a level, in the level's record.
use Rattle.std.specs.Prelude.{[], ◌∷◌}
use Rattle.rec_words.specs.declared.rec.Rec.{Rec}
use Rattle.room_reduction.specs.Records.{word}
use Rattle.room_products.specs.declared.level.Level.{Level}

-- what a record says of its level
abbrev pub level_in : Rec → Level
level_in r = record {
  begin = word 0 r;
  first_slot = word 1 r;
  last_slot = word 2 r;
  used = word 3 r;
  left_nodes = word 4 r;
  right_nodes = word 5 r;
}

-- the record that says this
abbrev pub level_record : Level → Rec
level_record x = record {
  w = x.begin ∷ x.first_slot ∷ x.last_slot ∷ x.used ∷ x.left_nodes ∷ x.right_nodes ∷ 0 ∷ 0 ∷ [];
}
