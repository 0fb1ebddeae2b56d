-- the targets of a node, and the arcs that have them
use Rattle.std.specs.Prelude.{◌≡◌, ℕ, ◌<◌, ◌==◌, ◌&&◌, Bool, true, false, cond, List, [], ◌∷◌}
use Rattle.std.proofs.Common.{refl, sym, ◌∙◌, ap, subst, inl, inr, true≢false, arith}
use Rattle.std.proofs.lemmas.Bool.Decides.{nat_tests}
use Rattle.bool_tables.specs.Tables.{same_bit}
use Rattle.rec_words.specs.Words.{level_of}
use Rattle.canon_file.specs.Members.{Has}
use Rattle.canon_file.proofs.MemberLaws.{either_bit}
use Rattle.arc_file.specs.declared.arc.Arc.{Arc}
use Rattle.arc_diagrams.specs.Arcs.{target_on, IsWithin, IsMet, IsComplete}

same_bit-self : (b : Bool) → same_bit b b ≡ true
same_bit-self true = refl
same_bit-self false = refl

pub bit_same : (b c : Bool) → same_bit b c ≡ true → b ≡ c
bit_same true c e = sym e
bit_same false true e = absurd (true≢false (sym e))
bit_same false false e = refl

both_true : (b c : Bool) → b && c ≡ true → (b ≡ true) × (c ≡ true)
both_true true c e = (refl, e)
both_true false c e = absurd (true≢false (sym e))

-- the arc is from that source on that side
abbrev pub is_from : Arc → ℕ → Bool → Bool
is_from a source side = (a.source == source) && same_bit a.high side

pub from_is : (a : Arc) (s : ℕ) (side : Bool) → a.source ≡ s → a.high ≡ side → is_from a s side ≡ true
from_is a s side f g =
    let same : same_bit a.high side ≡ true = ap (same_bit a.high) (sym g) ∙ same_bit-self a.high in
    grind (arith, nat_tests)

pub is_from-true : (a : Arc) (s : ℕ) (side : Bool) → is_from a s side ≡ true → (a.source ≡ s) × (a.high ≡ side)
is_from-true a s side e =
    let (f, g) = both_true (a.source == s) (same_bit a.high side) e in
    let source : a.source ≡ s = grind (arith, nat_tests) in
    (source, bit_same a.high side g)

-- where a source has an arc on a side, its target there is that of an arc
pub target_has : (arcs : List Arc) (s : ℕ) (side : Bool) (a : Arc) → Has a arcs → a.source ≡ s → a.high ≡ side
    → (b : Arc) × Has b arcs × (b.source ≡ s) × (b.high ≡ side) × (b.target ≡ target_on arcs s side)
target_has [] s side a m f g = absurd m
target_has (b ∷ arcs) s side a m f g =
    elim (either_bit (is_from b s side)) [
      | inl e ↦
          let (x, y) = is_from-true b s side e in
          (b, inl refl, x, y, ap (λ c. cond c b.target (target_on arcs s side)) (sym e))
      | inr e ↦ elim m [
        | inl same ↦ absurd (true≢false (sym (from_is b s side (ap (λ (d : Arc). d.source) same ∙ f) (ap (λ (d : Arc). d.high) same ∙ g)) ∙ e))
        | inr k ↦
            let (c, l, x, y, z) = target_has arcs s side a k f g in
            (c, inr l, x, y, z ∙ ap (λ d. cond d b.target (target_on arcs s side)) (sym e))
      ]
    ]

-- in a complete set, the target on a side is that of every arc there
pub the_target : (n root : ℕ) (arcs : List Arc) (b : Arc) → IsComplete n root arcs → Has b arcs
    → b.target ≡ target_on arcs b.source b.high
the_target n root arcs b w m =
    let (c, k, source, side, target) = target_has arcs b.source b.high b m refl refl in
    w.once b c m k (sym source) (sym side) ∙ target

-- a node that is met has an arc on each side, which leads to its target there
pub arc_on : (n root : ℕ) (arcs : List Arc) (w : ℕ) (side : Bool) → IsComplete n root arcs → IsMet root arcs w → level_of w < n
    → (b : Arc) × Has b arcs × (b.source ≡ w) × (b.high ≡ side) × (b.target ≡ target_on arcs w side)
arc_on n root arcs w side c met below =
    let (a, m, source, high) = c.both w met below side in
    target_has arcs w side a m source high

-- each pointer that is met is a truth value or a node of a level below n
pub met_within : (n root : ℕ) (arcs : List Arc) (w : ℕ) → IsComplete n root arcs → IsMet root arcs w → IsWithin n w
met_within n root arcs w c (inl first) = subst (IsWithin n) first c.begins
met_within n root arcs w c (inr (a, m, e)) = subst (IsWithin n) e (c.within a m)
