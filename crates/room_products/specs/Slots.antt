-- The slots of the room: the pairs of pointers that are to be answered, each with its identifier.
use Rattle.std.specs.Prelude.{◌≡◌, ℕ, ◌<◌, ◌≤◌, List, length}
use Rattle.rec_words.specs.Words.{node_word, level_of}
use Rattle.rec_words.specs.declared.rec.Rec.{Rec}
use Rattle.run_files.specs.Items.{record_at}
use Rattle.top_down.specs.declared.tuple.Tuple.{Tuple}
use Rattle.top_down.specs.Operations.{two}
use Rattle.top_down.specs.Tuples.{level_of_tuple}
use Rattle.top_down.specs.Rules.{Rule, IsAsked}
use Rattle.room_reduction.specs.Records.{word}
use Rattle.room_products.specs.Level.{level_in}

-- the pair of the slot at a place, and its identifier
abbrev pub pair_at : List Rec → ℕ → Tuple
pair_at slots k = two (word 0 (record_at slots k)) (word 1 (record_at slots k))

abbrev pub id_at : List Rec → ℕ → ℕ
id_at slots k = word 2 (record_at slots k)

-- how many identifiers of a level are used
abbrev pub used_at : List Rec → ℕ → ℕ
used_at firsts level = (level_in (record_at firsts level)).used

-- the first so many slots hold pairs that are asked for, each once with an identifier of its level
pub record AreSlots (n : ℕ) (rule : Rule) (slots firsts : List Rec) (count : ℕ) : Type 0 where
  pub within : count ≤ length slots
  pub asked : (k : ℕ) → k < count → IsAsked n rule (level_of (id_at slots k)) (pair_at slots k)
  pub levels : (k : ℕ) → k < count → level_of (id_at slots k) ≡ level_of_tuple (pair_at slots k)
  pub low : (k : ℕ) → k < count → level_of (id_at slots k) < n
  pub numbers : (k : ℕ) → k < count →
      id_at slots k < node_word (level_of (id_at slots k)) (used_at firsts (level_of (id_at slots k)))
  pub differ : (j k : ℕ) → j < count → k < count → id_at slots j ≡ id_at slots k → j ≡ k

-- there are no fewer slots, and the first so many hold what they held
pub record KeepsSlots (count more : ℕ) (old new : List Rec) : Type 0 where
  pub many : length new ≡ length old
  pub later : count ≤ more
  pub pairs : (k : ℕ) → k < count → pair_at new k ≡ pair_at old k
  pub ids : (k : ℕ) → k < count → id_at new k ≡ id_at old k

-- of each level as many identifiers are used as before
abbrev pub KeepsUsed : List Rec → List Rec → Type 0
KeepsUsed old new = (level : ℕ) → used_at new level ≡ used_at old level
