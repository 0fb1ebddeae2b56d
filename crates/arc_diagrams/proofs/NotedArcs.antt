-- the source at hand, of which the targets on some sides are known
use Rattle.std.specs.Prelude.{◌≡◌, ◌==◌, ◌&&◌, ℕ, Bool, true, false, cond, List, [], ◌∷◌, Option, Some, None}
use Rattle.std.specs.Option.{unwrap_or}
use Rattle.bool_tables.specs.Tables.{same_bit}
use Rattle.std.proofs.Common.{refl, sym, ◌∙◌, ap, inl, inr}
use Rattle.rec_words.specs.Words.{terminal}
use Rattle.canon_file.specs.declared.row.Row.{Row}
use Rattle.canon_file.specs.Members.{Has, SameMembers}
use Rattle.canon_file.proofs.RowLaws.{same_row}
use Rattle.arc_file.specs.declared.arc.Arc.{Arc}
use Rattle.arc_diagrams.specs.Arcs.{target_on, targets_of}
use Rattle.arc_diagrams.specs.Reducing.{side_arcs, noted_arcs}
use Rattle.arc_diagrams.proofs.TargetLaws.{from_is}

-- its targets: the truth value 0 where one isn't known
on-first : (arcs : List Arc) (a : Arc) → target_on (a ∷ arcs) a.source a.high ≡ a.target
on-first arcs a = ap (λ b. cond b a.target (target_on arcs a.source a.high)) (from_is a a.source a.high refl refl)

-- an arc of the other side is passed by
on-other : (arcs : List Arc) (a : Arc) (side : Bool) → same_bit a.high side ≡ false → target_on (a ∷ arcs) a.source side ≡ target_on arcs a.source side
on-other arcs a side other = ap (λ b. cond ((a.source == a.source) && b) a.target (target_on arcs a.source side)) other ∙ by (a.source == a.source)
  where
    by : (b : Bool) → cond (b && false) a.target (target_on arcs a.source side) ≡ target_on arcs a.source side
    by true = refl
    by false = refl

low-noted : (source : ℕ) (low high : Option ℕ) → target_on (noted_arcs source low high) source false ≡ unwrap_or low (terminal false)
low-noted source None None = refl
low-noted source None (Some v) = on-other [] (record { source = source; high = true; target = v }) false refl
low-noted source (Some w) high = on-first (side_arcs source true high) (record { source = source; high = false; target = w })

high-noted : (source : ℕ) (low high : Option ℕ) → target_on (noted_arcs source low high) source true ≡ unwrap_or high (terminal false)
high-noted source None None = refl
high-noted source None (Some v) = on-first [] (record { source = source; high = true; target = v })
high-noted source (Some w) None = on-other [] (record { source = source; high = false; target = w }) true refl
high-noted source (Some w) (Some v) =
    on-other (side_arcs source true (Some v)) (record { source = source; high = false; target = w }) true refl
    ∙ on-first [] (record { source = source; high = true; target = v })

pub noted-pair : (source : ℕ) (low high : Option ℕ)
    → targets_of (noted_arcs source low high) source ≡ (let r : Row = record { low = unwrap_or low (terminal false); high = unwrap_or high (terminal false) } in r)
noted-pair source low high = same_row _ _ (low-noted source low high) (high-noted source low high)

-- each of its arcs is of the source
pub noted_source : (source : ℕ) (low high : Option ℕ) (a : Arc) → Has a (noted_arcs source low high) → a.source ≡ source
noted_source source None None a m = absurd m
noted_source source None (Some v) a (inl e) = ap (λ (b : Arc). b.source) (sym e)
noted_source source None (Some v) a (inr m) = absurd m
noted_source source (Some w) high a (inl e) = ap (λ (b : Arc). b.source) (sym e)
noted_source source (Some w) None a (inr m) = absurd m
noted_source source (Some w) (Some v) a (inr (inl e)) = ap (λ (b : Arc). b.source) (sym e)
noted_source source (Some w) (Some v) a (inr (inr none)) = absurd none

-- a side becomes known
pub low_known : (source w : ℕ) (high : Option ℕ)
    → SameMembers (record { source = source; high = false; target = w } ∷ noted_arcs source None high) (noted_arcs source (Some w) high)
low_known source w high = record { there = λ a m. m; back = λ a m. m }

pub high_known : (source v : ℕ) (low : Option ℕ)
    → SameMembers (record { source = source; high = true; target = v } ∷ noted_arcs source low None) (noted_arcs source low (Some v))
high_known source v None = record { there = λ a m. m; back = λ a m. m }
high_known source v (Some w) = record {
  there = λ a m. elim m [ inl e ↦ inr (inl e) | inr k ↦ elim k [ inl e ↦ inl e | inr none ↦ absurd none ] ];
  back = λ a m. elim m [ inl e ↦ inr (inl e) | inr k ↦ elim k [ inl e ↦ inl e | inr none ↦ absurd none ] ];
}

-- a side that is known has its arc
pub low_there : (source w : ℕ) (high : Option ℕ) → Has (let a : Arc = record { source = source; high = false; target = w } in a) (noted_arcs source (Some w) high)
low_there source w high = inl refl

pub high_there : (source v : ℕ) (low : Option ℕ) → Has (let a : Arc = record { source = source; high = true; target = v } in a) (noted_arcs source low (Some v))
high_there source v None = inl refl
high_there source v (Some w) = inr (inl refl)
