-- Ways with a last frame, and orders with a last node.
use Rattle.std.proofs.Common.{◌≡◌, ◌≢◌, ℕ, ◌+◌, ◌<◌, ◌==◌, ◌||◌, Bool, true, false, List, [], ◌∷◌, ◌++◌, length, get_or, refl, ap, ◌∙◌, arith, length-append, eq-eqb}
use Rattle.std.proofs.lemmas.List.{get_or_append_left}
use Rattle.std.proofs.Math.Seq.{get_or-append_seam}
use Rattle.std.proofs.lemmas.List.Folds.{list_any-append, list_any_at}
use Rattle.depth_first.specs.declared.walk.Frame.{Frame}
use Rattle.depth_first.specs.Graph.{has}
use Rattle.depth_first.specs.Walk.{node_at, next_at}

pub node_front : (fs gs : List Frame) (p : ℕ) → p < length fs → node_at (fs ++ gs) p ≡ node_at fs p
node_front fs gs p lt = ap (λ (f : Frame). f.node) (get_or_append_left fs gs _ p lt)

pub next_front : (fs gs : List Frame) (p : ℕ) → p < length fs → next_at (fs ++ gs) p ≡ next_at fs p
next_front fs gs p lt = ap (λ (f : Frame). f.next) (get_or_append_left fs gs _ p lt)

pub node_last : (fs : List Frame) (f : Frame) → node_at (fs ++ f ∷ []) (length fs) ≡ f.node
node_last fs f = ap (λ (f : Frame). f.node) (get_or-append_seam fs f [] _)

pub next_last : (fs : List Frame) (f : Frame) → next_at (fs ++ f ∷ []) (length fs) ≡ f.next
next_last fs f = ap (λ (f : Frame). f.next) (get_or-append_seam fs f [] _)

pub length_more : (fs : List Frame) (f : Frame) → length (fs ++ f ∷ []) ≡ length fs + 1
length_more fs f = length-append fs (f ∷ [])

pub has_push : (xs : List ℕ) (s x : ℕ) → has (xs ++ s ∷ []) x ≡ (has xs x || (s == x))
has_push xs s x = list_any-append (λ y. y == x) xs (s ∷ []) ∙ ap (λ b. has xs x || b) (or-false (s == x)) where
  or-false : (b : Bool) → (b || false) ≡ b
  or-false true = refl
  or-false false = refl

pub has_still : (xs : List ℕ) (s x : ℕ) → has xs x ≡ true → has (xs ++ s ∷ []) x ≡ true
has_still xs s x h = has_push xs s x ∙ ap (λ b. b || (s == x)) h

pub has_last : (xs : List ℕ) (s : ℕ) → has (xs ++ s ∷ []) s ≡ true
has_last xs s = has_push xs s s ∙ ap (λ b. has xs s || b) (eq-eqb s s refl) ∙ or-true (has xs s) where
  or-true : (b : Bool) → (b || true) ≡ true
  or-true true = refl
  or-true false = refl

pub has_other : (xs : List ℕ) (s x : ℕ) → s ≢ x → has (xs ++ s ∷ []) x ≡ has xs x
has_other xs s x ne = has_push xs s x ∙ grind arith

pub has_at : (xs : List ℕ) (i : ℕ) → i < length xs → has xs (get_or xs i 0) ≡ true
has_at xs i lt = list_any_at (λ y. y == get_or xs i 0) xs i 0 lt (eq-eqb _ _ refl)
