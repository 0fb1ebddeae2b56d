-- What is known of slots while it is noted where the sources of a level begin.
use Rattle.std.specs.Prelude.{◌≡◌, ℕ, ◌<◌, List, [], length}
use Rattle.std.proofs.Common.{set, sym, ◌∙◌, ap, subst, inl, inr, get_or-set_other, get_or-set_same}
use Rattle.std.proofs.lemmas.Bool.Decides.{eqb_tells}
use Rattle.rec_words.specs.Words.{node_word, level_of}
use Rattle.rec_words.specs.declared.rec.Rec.{Rec}
use Rattle.top_down.specs.declared.tuple.Tuple.{Tuple}
use Rattle.top_down.specs.Tuples.{Targets}
use Rattle.top_down.specs.Rules.{Rule}
use Rattle.room_products.specs.Level.{level_in}
use Rattle.room_products.specs.Slots.{id_at, used_at, KeepsUsed}
use Rattle.room_products.specs.Joining.{IsJoining}

-- where the record of a level is another one that has as many used identifiers, no more are used
used-marked : (firsts : List Rec) (level : ℕ) (r : Rec) → level < length firsts
    → (level_in r).used ≡ used_at firsts level → KeepsUsed firsts (set firsts level r)
used-marked firsts level r below used i = elim (eqb_tells i level) [
  | inl same ↦
      ap (used_at (set firsts level r)) same.1
      ∙ ap (λ x. (level_in x).used) (get_or-set_same firsts level r (record { w = [] }) below)
      ∙ used ∙ ap (used_at firsts) (sym same.1)
  | inr other ↦ ap (λ x. (level_in x).used) (get_or-set_other firsts level i r (record { w = [] }) other.1)
]

-- and all that is known of the slots stays
pub joining_marked : (firsts : List Rec) (level : ℕ) (r : Rec) → level < length firsts
    → (level_in r).used ≡ used_at firsts level
    → (n root : ℕ) (roots : Tuple) (rule : Rule) (targets : Targets) (owed : List ℕ) (slots : List Rec) (count : ℕ)
    (sources : List Rec) (done : ℕ) → IsJoining n root roots rule targets owed slots firsts count sources done
    → IsJoining n root roots rule targets owed slots (set firsts level r) count sources done
joining_marked firsts level r below same n root roots rule targets owed slots count sources done joining =
    let are = joining.slots_are in
    record {
      slots_are = record {
        within = are.within;
        asked = are.asked;
        levels = are.levels;
        low = are.low;
        numbers = λ k used.
            subst (λ m. id_at slots k < node_word (level_of (id_at slots k)) m)
            (sym (used-marked firsts level r below same (level_of (id_at slots k)))) (are.numbers k used);
        differ = are.differ;
      };
      sources_are = joining.sources_are;
      some = joining.some;
      begins = joining.begins;
      root_is = joining.root_is;
      met = joining.met;
    }
