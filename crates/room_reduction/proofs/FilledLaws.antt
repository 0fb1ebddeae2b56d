-- The sources that stand in the room when all arcs were read.
use Rattle.std.proofs.Common.{◌≡◌, ℕ, ◌<◌, ◌≤◌, Bool, true, false, List, [], length, take, sym, ap, subst, ◌∙◌, inl, inr, arith}
use Rattle.std.specs.Prelude.{Result, Ok, Err, Option, Some, None, IfOk, IfSome}
use Rattle.std.proofs.lemmas.Bool.{cases_lt}
use Rattle.std.proofs.lemmas.List.{length-take-le, get_or-take}
use Rattle.rec_words.specs.declared.rec.Rec.{Rec}
use Rattle.rec_words.specs.Words.{level_of}
use Rattle.list_laws.proofs.SameMembers.{has_at}
use Rattle.canon_file.specs.Members.{Has}
use Rattle.run_files.specs.Items.{record_at}
use Rattle.arc_file.specs.declared.arc.Arc.{Arc}
use Rattle.arc_diagrams.specs.Arcs.{IsComplete, IsMet, target_on}
use Rattle.arc_diagrams.proofs.TargetLaws.{the_target}
use Rattle.room_reduction.specs.Records.{word}
use Rattle.room_reduction.specs.Sources.{AreSources}
use Rattle.room_reduction.specs.Filling.{word_on, IsPut, AreMet}
use Rattle.room_reduction.proofs.LevelSources.{member_place}

module _ (n root : ℕ) (all : List Arc) (xs : List Rec) (count : ℕ) (complete : IsComplete n root all)
    (old : AreMet n root all [] xs count) where
  -- each source stands at one place alone
  one_place : (j k : ℕ) → j < count → k < count → word 0 (record_at xs j) ≡ word 0 (record_at xs k) → j ≡ k
  one_place j k first second same = elim (cases_lt j k) [
    | inl before ↦ let less = old.ascend j k before second in absurd (omega (arith, less, same))
    | inr behind ↦ elim (cases_lt k j) [
      | inl later ↦ let less = old.ascend k j later first in absurd (omega (arith, less, same))
      | inr other ↦ omega (arith, behind, other)
    ]
  ]

  -- each arc was put
  was_put : (a : Arc) → Has a all → IsPut all xs count a
  was_put a has = elim (old.each a has) [ inl waits ↦ absurd waits | inr put ↦ put ]

  -- a record has on each side the target of its source
  target_is : (k : ℕ) → k < count → (side : Bool)
      → word_on side (record_at xs k) ≡ target_on all (word 0 (record_at xs k)) side
  target_is k below side =
      let w : ℕ = word 0 (record_at xs k) in
      let (a, has, source, high) = complete.both w (old.met k below) (old.levels k below) side in
      let put = was_put a has in
      let same : put.place ≡ k = one_place put.place k put.within below (put.source_is ∙ source) in
      ap (λ q. word_on side (record_at xs q)) (sym same)
      ∙ ap (λ b. word_on b (record_at xs put.place)) (sym high) ∙ put.target_is
      ∙ the_target n root all put.one complete put.has
      ∙ (λ j. target_on all ((put.same_source ∙ source) j) ((put.same_side ∙ high) j))

  -- the records of a front part
  module _ (within : count ≤ length xs) where
    in_front : (k : ℕ) → k < count → record_at (take count xs) k ≡ record_at xs k
    in_front k below = get_or-take count xs k (record { w = [] }) below

    -- each of them is a record among the first
    among : (r : Rec) → Has r (take count xs) → (k : ℕ) × (k < count) × (record_at xs k ≡ r)
    among r has =
        let (k, below, at) = member_place r (take count xs) has in
        let long = length-take-le count xs within in
        let early : k < count = omega (arith, below, long) in
        (k, early, sym (in_front k early) ∙ at)

    pub are_sources : AreSources n root all (take count xs)
    are_sources =
        let long = length-take-le count xs within in
        record {
          ascend = λ j k before below.
              let late : k < count = omega (arith, below, long) in
              let early : j < count = omega (arith, before, late) in
              let first = ap (word 0) (in_front j early) in
              let second = ap (word 0) (in_front k late) in
              let less = old.ascend j k before late in
              omega (arith, first, second, less);
          met = λ r has. let (k, below, at) = among r has in
              subst (λ s. IsMet root all (word 0 s)) at (old.met k below);
          within = λ r has. let (k, below, at) = among r has in
              subst (λ s. level_of (word 0 s) < n) at (old.levels k below);
          each = λ a has.
              let put = was_put a has in
              let short : put.place < length (take count xs) = omega (arith, long, put.within) in (
                record_at (take count xs) put.place,
                has_at (take count xs) put.place (record { w = [] }) short,
                ap (word 0) (in_front put.place put.within) ∙ put.source_is,
              );
          low = λ r has. let (k, below, at) = among r has in
              subst (λ s. word 1 s ≡ target_on all (word 0 s) false) at (target_is k below false);
          high = λ r has. let (k, below, at) = among r has in
              subst (λ s. word 2 s ≡ target_on all (word 0 s) true) at (target_is k below true);
        }

-- before any arc was read nothing is met
pub none_met : (n root : ℕ) (all : List Arc) (xs : List Rec) → AreMet n root all all xs 0
none_met n root all xs = record {
  ascend = λ j k before below. absurd (omega (arith, below));
  met = λ k below. absurd (omega (arith, below));
  levels = λ k below. absurd (omega (arith, below));
  known = λ a has. has;
  each = λ a has. inl has;
}

-- what follows from two facts of an answer
pub ok_both : {T E : Type 0} (P Q R : T → Type 0) (result : Result T E) → ((x : T) → P x → Q x → R x)
    → IfOk result P → IfOk result Q → IfOk result R
ok_both P Q R (Ok x) follows p q = follows x p q
ok_both P Q R (Err e) follows p q = tt

pub some_both : {T : Type 0} (P Q R : T → Type 0) (found : Option T) → ((x : T) → P x → Q x → R x)
    → IfSome found P → IfSome found Q → IfSome found R
some_both P Q R (Some x) follows p q = follows x p q
some_both P Q R None follows p q = tt

-- what follows from a fact of an answer
pub ok_weaker : {T E : Type 0} (P R : T → Type 0) (result : Result T E) → ((x : T) → P x → R x) → IfOk result P
    → IfOk result R
ok_weaker P R (Ok x) follows p = follows x p
ok_weaker P R (Err e) follows p = tt
