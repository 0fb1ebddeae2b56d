-- Items of so many bytes each, one behind the other: one more of them, how long they are, and that their bytes tell
-- them.
use Rattle.std.proofs.Common.{◌≡◌, ℕ, ◌+◌, ◌-◌, ◌*◌, ◌<◌, ◌≤◌, List, [], ◌∷◌, ◌++◌, length, take, drop, set, get_or, refl, sym, ap, ◌∙◌, arith}
use Rattle.std.specs.Prelude.{All}
use Rattle.std.specs.List.{flat_map}
use Rattle.std.proofs.Math.Seq.{take-add}
use borrow.Rule.Slice.PartMut.{put_mid}
use Rattle.std.proofs.lemmas.Slice.{take-put_mid, drop-put_mid}
use Rattle.std.proofs.lemmas.List.{append-nil, length-append, take-append-drop, nil_from_length, take_at, drop_at, drop-drop, take_more, take_more_set}
use Rattle.std.proofs.lemmas.List.Concat.{flat_map-append}
use Rattle.std.proofs.lemmas.List.Elements.{All-head, All-tail}

module _ {X : Type 0} (f : X → List ℕ) (w : ℕ) (P : X → Type 0) (long : (x : X) → P x → length (f x) ≡ w) where
  -- so many items have so many times the bytes
  pub length_flat : (xs : List X) → All P xs → length (flat_map f xs) ≡ w * length xs
  length_flat [] each = omega arith
  length_flat (x ∷ xs) each =
      let first : length (f x) ≡ w = long x (All-head P x xs each) in
      let rest : length (flat_map f xs) ≡ w * length xs = length_flat xs (All-tail P x xs each) in
      let both : length (f x ++ flat_map f xs) ≡ length (f x) + length (flat_map f xs) = length-append (f x) (flat_map f xs) in
      omega arith

  -- items of the same bytes are the same
  pub same_flat : ((x y : X) → P x → P y → f x ≡ f y → x ≡ y) → (xs ys : List X) → length xs ≡ length ys → All P xs → All P ys → flat_map f xs ≡ flat_map f ys → xs ≡ ys
  same_flat one [] [] count left right same = refl
  same_flat one [] (y ∷ ys) count left right same = absurd (omega arith)
  same_flat one (x ∷ xs) [] count left right same = absurd (omega arith)
  same_flat one (x ∷ xs) (y ∷ ys) count left right same =
      let a : P x = All-head P x xs left in
      let b : P y = All-head P y ys right in
      let first : f x ≡ f y = sym (take_at (f x) (flat_map f xs) w (long x a)) ∙ ap (take w) same ∙ take_at (f y) (flat_map f ys) w (long y b) in
      let rest : flat_map f xs ≡ flat_map f ys = sym (drop_at (f x) (flat_map f xs) w (long x a)) ∙ ap (drop w) same ∙ drop_at (f y) (flat_map f ys) w (long y b) in
      let count_rest : length xs ≡ length ys = omega arith in
      λ i. one x y a b first i ∷ same_flat one xs ys count_rest (All-tail P x xs left) (All-tail P y ys right) rest i

-- one item more is put behind the others
pub put_one : {X : Type 0} (f : X → List ℕ) (w : ℕ) (xs : List X) (k : ℕ) (x : X) (initial before piece rest : List ℕ) → k < length xs → get_or xs k x ≡ x
    → length (flat_map f (take k xs)) ≡ w * k → w * k + w ≤ length initial → length before ≡ length initial
    → before ≡ flat_map f (take k xs) ++ drop (w * k) initial → piece ≡ f x ++ rest → length (f x) ≡ w → length piece ≡ w
    → put_mid (w * k) (w * k + w - w * k) before piece ≡ flat_map f (take (k + 1) xs) ++ drop (w * (k + 1)) initial
put_one f w xs k x initial before piece rest within is count room kept stood put long all =
    let whole : List ℕ = flat_map f (take k xs) in
    let next : w * k + w ≡ w * (k + 1) = omega arith in
    let both : length (f x ++ rest) ≡ length (f x) + length rest = length-append (f x) rest in
    let same : length piece ≡ length (f x ++ rest) = ap length put in
    let none : rest ≡ [] = nil_from_length rest (omega arith) in
    let exact : piece ≡ f x = put ∙ ap (λ ys. f x ++ ys) none ∙ append-nil (f x) in
    let front : take (w * k) before ≡ whole = ap (take (w * k)) stood ∙ take_at whole (drop (w * k) initial) (w * k) count in
    let behind : drop (w * (k + 1)) before ≡ drop (w * (k + 1)) initial =
    ap (λ n. drop n before) (sym next) ∙ sym (drop-drop w (w * k) before) ∙ ap (λ b. drop w (drop (w * k) b)) stood ∙ ap (drop w) (drop_at whole (drop (w * k) initial) (w * k) count)
    ∙ drop-drop w (w * k) initial ∙ ap (λ n. drop n initial) next in
    let more : flat_map f (take (k + 1) xs) ≡ whole ++ f x =
    ap (flat_map f) (take_more xs k x within ∙ ap (λ y. take k xs ++ y ∷ []) is) ∙ flat_map-append f (take k xs) (x ∷ []) ∙ ap (λ ys. whole ++ ys) (append-nil (f x)) in
    let after : List ℕ = put_mid (w * k) (w * k + w - w * k) before piece in
    sym (take-append-drop (w * (k + 1)) after)
    ∙ (λ i. take-put_mid (w * k) (w * k + w - w * k) before piece (w * (k + 1)) (omega arith) (omega arith) i ++ drop-put_mid (w * k) (w * k + w - w * k) before piece (w * (k + 1)) (omega arith) (omega arith) (omega arith) i)
    ∙ (λ i. (front i ++ exact i) ++ behind i) ∙ ap (λ ys. ys ++ drop (w * (k + 1)) initial) (sym more)

-- one item more is read behind the others
pub read_one : {X : Type 0} (f : X → List ℕ) (w : ℕ) (ys : List X) (k : ℕ) (x : X) (bytes : List ℕ) → k < length ys
    → flat_map f (take k ys) ≡ take (w * k) bytes → f x ≡ take w (drop (w * k) bytes) → flat_map f (take (k + 1) (set ys k x)) ≡ take (w * (k + 1)) bytes
read_one f w ys k x bytes within so_far is =
    let next : w * k + w ≡ w * (k + 1) = omega arith in
    ap (flat_map f) (take_more_set ys k x within) ∙ flat_map-append f (take k ys) (x ∷ [])
    ∙ (λ i. so_far i ++ (append-nil (f x) ∙ is) i) ∙ sym (take-add (w * k) w bytes) ∙ ap (λ n. take n bytes) next
