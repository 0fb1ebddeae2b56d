-- Lists in order, without their last member.
use Rattle.std.proofs.Common.{◌≡◌, ◌+◌, Bool, false, List, [], ◌∷◌, ◌++◌, length, get_or, sym, ap, ◌∙◌, arith}
use Rattle.std.specs.Prelude.{Option, Some, None}
use Rattle.std.specs.List.Sorted.{IsSortedBy}
use Rattle.std.proofs.lemmas.List.{get_or_append_left, length_push}
use Rattle.std.proofs.Math.Seq.{get_or-append_seam}
use Rattle.arc_file.specs.declared.arc.Arc.{Arc}
use Rattle.arc_file.specs.declared.kind.Kind.{Kind}
use Rattle.arc_file.specs.declared.kind.Kind.TheVariants.{Inner, End}
use Rattle.arc_file.specs.Files.{is_before, IsInOrder}
use Rattle.arc_file.specs.Streams.{IsInOrderBefore}

module _ {X : Type 0} (lt : X → X → Bool) where
  -- a list in order is so without its last member
  sorted_front : (xs : List X) (y : X) → IsSortedBy lt (xs ++ y ∷ []) → IsSortedBy lt xs
  sorted_front xs y sorted k d from below =
      let long : length (xs ++ y ∷ []) ≡ length xs + 1 = length_push xs y in
      let here : get_or (xs ++ y ∷ []) k d ≡ get_or xs k d = get_or_append_left xs (y ∷ []) d k (omega (arith, below)) in
      let next : get_or (xs ++ y ∷ []) (k + 1) d ≡ get_or xs (k + 1) d = get_or_append_left xs (y ∷ []) d (k + 1) (omega (arith, below)) in
      (λ i. lt (sym next i) (sym here i)) ∙ sorted k d from (omega (arith, long, below))

  -- its last member doesn't come before the one before it
  sorted_last : (xs : List X) (x y : X) → IsSortedBy lt ((xs ++ x ∷ []) ++ y ∷ []) → lt y x ≡ false
  sorted_last xs x y sorted =
      let long : length ((xs ++ x ∷ []) ++ y ∷ []) ≡ length (xs ++ x ∷ []) + 1 = length_push (xs ++ x ∷ []) y in
      let inner : length (xs ++ x ∷ []) ≡ length xs + 1 = length_push xs x in
      let here : get_or ((xs ++ x ∷ []) ++ y ∷ []) (length xs) x ≡ x =
      get_or_append_left (xs ++ x ∷ []) (y ∷ []) x (length xs) (omega (arith, inner)) ∙ get_or-append_seam xs x [] x in
      let next : get_or ((xs ++ x ∷ []) ++ y ∷ []) (length xs + 1) x ≡ y =
      ap (λ k. get_or ((xs ++ x ∷ []) ++ y ∷ []) k x) (sym inner) ∙ get_or-append_seam (xs ++ x ∷ []) y [] x in
      (λ i. lt (sym next i) (sym here i)) ∙ sorted (length xs) x (omega arith) (omega (arith, long, inner))

-- arcs in the order of their file are so without the last one
pub in_order_front : (kind : Kind) (xs : List Arc) (a : Arc) → IsInOrder kind (xs ++ a ∷ []) → IsInOrder kind xs
in_order_front Inner xs a ordered = sorted_front (is_before Inner) xs a ordered
in_order_front End xs a ordered = sorted_front (is_before End) xs a ordered

-- the last one doesn't come before the one before it
pub in_order_last : (kind : Kind) (xs : List Arc) (a next : Arc) → IsInOrder kind ((xs ++ a ∷ []) ++ next ∷ []) → is_before kind next a ≡ false
in_order_last Inner xs a next ordered = sorted_last (is_before Inner) xs a next ordered
in_order_last End xs a next ordered = sorted_last (is_before End) xs a next ordered

-- what is in order with the arc behind it is in order
pub in_order_alone : (kind : Kind) (xs : List Arc) (given : Option Arc) → IsInOrderBefore kind xs given → IsInOrder kind xs
in_order_alone kind xs None ordered = ordered
in_order_alone kind xs (Some g) ordered = in_order_front kind xs g ordered
