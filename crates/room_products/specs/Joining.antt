-- What the room holds while the pairs of two diagrams are answered.
use Rattle.std.specs.Prelude.{◌≡◌, ◌⊎◌, ℕ, ◌<◌, ◌≤◌, Bool, false, true, List, length}
use Rattle.list_laws.specs.Members.{Has}
use Rattle.rec_words.specs.Words.{terminal}
use Rattle.rec_words.specs.declared.rec.Rec.{Rec}
use Rattle.run_files.specs.Items.{record_at}
use Rattle.top_down.specs.declared.tuple.Tuple.{Tuple}
use Rattle.top_down.specs.declared.tuple.Goal.{Goal}
use Rattle.top_down.specs.declared.tuple.Goal.TheVariants.{End, Go}
use Rattle.top_down.specs.Tuples.{Targets}
use Rattle.top_down.specs.Rules.{Rule, below_on}
use Rattle.room_reduction.specs.Records.{uid_in, low_in, high_in}
use Rattle.room_products.specs.Slots.{pair_at, id_at, AreSlots}

-- the word is the truth value in which a pair ends, or the identifier of the slot of the pair that is asked for
abbrev pub IsAnswer : Goal → List Rec → ℕ → ℕ → Type 0
IsAnswer goal slots count w = ((value : Bool) × (goal ≡ End value) × (w ≡ terminal value))
    ⊎ ((k : ℕ) × (k < count) × (goal ≡ Go (pair_at slots k)) × (w ≡ id_at slots k))

-- the record is the source of the pair at a place: its identifier, and what is made of the pairs on its two sides
pub record IsSourceOf (rule : Rule) (targets : Targets) (slots : List Rec) (count place : ℕ) (r : Rec) : Type 0 where
  pub source_is : uid_in r ≡ id_at slots place
  pub low : IsAnswer (rule.goal (below_on rule targets false (pair_at slots place))) slots count (low_in r)
  pub high : IsAnswer (rule.goal (below_on rule targets true (pair_at slots place))) slots count (high_in r)

-- the first so many records are sources of slots, in ascending order
pub record AreSourcesOf (rule : Rule) (targets : Targets) (slots : List Rec) (count : ℕ) (sources : List Rec) (done : ℕ)
    : Type 0 where
  pub within : done ≤ length sources
  pub each : (k : ℕ) → k < done → (place : ℕ) × (place < count)
      × IsSourceOf rule targets slots count place (record_at sources k)
  pub ascend : (j k : ℕ) → j < k → k < done → uid_in (record_at sources j) < uid_in (record_at sources k)

-- the word is one of these, or the target of one of the first so many sources
abbrev pub IsTarget : List ℕ → List Rec → ℕ → ℕ → Type 0
IsTarget owed sources done w = Has w owed ⊎ ((k : ℕ) × (k < done)
    × ((low_in (record_at sources k) ≡ w) ⊎ (high_in (record_at sources k) ≡ w)))

-- so many slots are used and so many sources are done, where the first slot is that of the roots; each slot's
-- identifier is the root's, the target of a source, or one of these words
pub record IsJoining (n root : ℕ) (roots : Tuple) (rule : Rule) (targets : Targets) (owed : List ℕ)
    (slots firsts : List Rec) (count : ℕ) (sources : List Rec) (done : ℕ) : Type 0 where
  pub slots_are : AreSlots n rule slots firsts count
  pub sources_are : AreSourcesOf rule targets slots count sources done
  pub some : 0 < count
  pub begins : pair_at slots 0 ≡ roots
  pub root_is : id_at slots 0 ≡ root
  pub met : (k : ℕ) → k < count → (root ≡ id_at slots k) ⊎ IsTarget owed sources done (id_at slots k)

-- each slot has its source
abbrev pub AreDone : List Rec → List Rec → Type 0
AreDone slots sources = (k : ℕ) → k < length slots
    → (j : ℕ) × (j < length sources) × (uid_in (record_at sources j) ≡ id_at slots k)
