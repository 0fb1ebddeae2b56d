-- The arc that a stream comes to: it stands in its file, or is damaged.
use Rattle.std.proofs.Common.{All, ◌≡◌, ◌⊎◌, ℕ, ◌+◌, ◌-◌, ◌<◌, true, false, List, [], ◌∷◌, ◌++◌, length, sym, subst, ◌∙◌, inl, inr, arith}
use Rattle.std.specs.Prelude.{Option, Some, IfSome}
use Rattle.std.proofs.lemmas.List.{get_or_append_left, length_push}
use Rattle.std.proofs.lemmas.List.Elements.{All-get_or}
use Rattle.std.proofs.Math.Seq.{get_or-append_seam}
use Rattle.block_stream.specs.Reads.{IsRecordOf}
use Rattle.arc_file.specs.declared.arc.Arc.{Arc}
use Rattle.arc_file.specs.declared.kind.Kind.{Kind}
use Rattle.arc_file.specs.Arcs.{arc_words, IsArc}
use Rattle.arc_file.specs.ArcLaws.{same_arc}
use Rattle.arc_file.specs.Files.{Leads, is_before, IsInOrder, IsArcAt, IsDamagedArc}
use Rattle.arc_file.specs.Streams.{IsInOrderBefore}
use Rattle.arc_file.proofs.OrderLaws.{in_order_last, in_order_alone}

-- an arc that was read and may stand in its file
pub arc_at : (kind : Kind) (k place : ℕ) (bytes : List ℕ) (a : Arc) → k ≡ 2 → IsArc a → Leads kind a → IsRecordOf arc_words k place bytes a → IsArcAt kind place bytes a
arc_at kind k place bytes a width is_arc leads record_is = record {
  is_arc = is_arc;
  leads = leads;
  record_is = subst (λ j. IsRecordOf arc_words j place bytes a) width record_is;
}

-- one that may not, or not before the one that was given
pub arc_damaged : (kind : Kind) (k left : ℕ) (bytes : List ℕ) (a : Arc) (given : Option Arc) → k ≡ 2 → 0 < left → IsArc a → IsRecordOf arc_words k (left - 1) bytes a
    → IfSome given (λ g. IsArcAt kind left bytes g)
    → (¬ Leads kind a) ⊎ ((next : Arc) × (given ≡ Some next) × (is_before kind next a ≡ true) × Leads kind a)
    → IsDamagedArc kind (left - 1) bytes given
arc_damaged kind k left bytes a given width some is_arc record_is last (inl astray) =
    let at_two : IsRecordOf arc_words 2 (left - 1) bytes a = subst (λ j. IsRecordOf arc_words j (left - 1) bytes a) width record_is in
    inl (λ b at. astray (subst (Leads kind) (same_arc b a at.is_arc is_arc (at.record_is.same ∙ sym at_two.same)) at.leads))
arc_damaged kind k left bytes a given width some is_arc record_is last (inr late) =
    let behind : IsArcAt kind left bytes late.0 = subst (λ o. IfSome o (λ g. IsArcAt kind left bytes g)) late.1 last in
    let here : left ≡ left - 1 + 1 = omega (arith, some) in
    inr (
      a,
      late.0,
      record {
        here = arc_at kind k (left - 1) bytes a width is_arc late.3 record_is;
        behind = subst (λ p. IsArcAt kind p bytes late.0) here behind;
        was_given = late.1;
        before = late.2;
      },
    )

-- the last of arcs that may stand in their file does
pub last_leads : (kind : Kind) (xs rest : List Arc) (a : Arc) → xs ≡ rest ++ a ∷ [] → All (Leads kind) xs → Leads kind a
last_leads kind xs rest a split lead =
    let long : length (rest ++ a ∷ []) ≡ length rest + 1 = length_push rest a in
    subst (Leads kind) (get_or-append_seam rest a [] a) (All-get_or (Leads kind) (rest ++ a ∷ []) (length rest) a (omega (arith, long)) (subst (All (Leads kind)) split lead))

-- and so do the others
pub front_lead : (kind : Kind) (xs rest : List Arc) (a : Arc) → xs ≡ rest ++ a ∷ [] → All (Leads kind) xs → All (Leads kind) rest
front_lead kind xs rest a split lead k d below =
    let long : length (rest ++ a ∷ []) ≡ length rest + 1 = length_push rest a in
    subst (Leads kind) (get_or_append_left rest (a ∷ []) d k below) (All-get_or (Leads kind) (rest ++ a ∷ []) k d (omega (arith, long, below)) (subst (All (Leads kind)) split lead))

-- the last of arcs in order isn't damaged
pub last_is_sound : (kind : Kind) (xs rest : List Arc) (a : Arc) (given : Option Arc) → xs ≡ rest ++ a ∷ [] → All (Leads kind) xs → IsInOrderBefore kind xs given
    → (¬ Leads kind a) ⊎ ((next : Arc) × (given ≡ Some next) × (is_before kind next a ≡ true) × Leads kind a) → ⊥
last_is_sound kind xs rest a given split lead ordered (inl astray) = astray (last_leads kind xs rest a split lead)
last_is_sound kind xs rest a given split lead ordered (inr late) =
    let whole : IsInOrder kind (xs ++ late.0 ∷ []) = subst (IsInOrderBefore kind xs) late.1 ordered in
    let not : is_before kind late.0 a ≡ false = in_order_last kind rest a late.0 (subst (λ ys. IsInOrder kind (ys ++ late.0 ∷ [])) split whole) in
    let before : is_before kind late.0 a ≡ true = late.2 in
    cc

-- the arcs before the last are in order with it
pub front_ordered : (kind : Kind) (xs rest : List Arc) (a : Arc) (given : Option Arc) → xs ≡ rest ++ a ∷ [] → IsInOrderBefore kind xs given → IsInOrder kind (rest ++ a ∷ [])
front_ordered kind xs rest a given split ordered = subst (IsInOrder kind) split (in_order_alone kind xs given ordered)
