-- The text up to a line's end has the lines up to this one.
use Rattle.std.proofs.Common.{◌≡◌, ℕ, suc, ◌+◌, ◌≤◌, Bool, true, false, List, [], ◌∷◌, ◌++◌, length, take, refl, sym, ap, subst, ◌∙◌, arith}
use Rattle.std.specs.List.{slice_split, onto_first}
use Rattle.std.proofs.Math.Nat.{min-le_right}
use Rattle.std.proofs.lemmas.List.{length-take}
use Rattle.std.proofs.lemmas.List.Splits.{slice_split-cons_yes, slice_split-cons_no, length-slice_split}
use Rattle.text_words.specs.Text.{Line, numbered, lines_of, is_feed}
use Rattle.script_reader.specs.Signals.{text_up_to}

-- the place behind pieces that stand one byte apart
abbrev span : List (List ℕ) → ℕ
span [] = 0
span (p ∷ ps) = length p + 1 + span ps

head_same : {A : Type 0} (a b : A) (xs ys : List A) → a ∷ xs ≡ b ∷ ys → a ≡ b
head_same a b xs ys e = cc

tail_same : {A : Type 0} (a b : A) (xs ys : List A) → a ∷ xs ≡ b ∷ ys → xs ≡ ys
tail_same a b xs ys e = cc

not_none : {A : Type 0} (xs : List A) (y : A) (ys : List A) → [] ≡ xs ++ y ∷ ys → ⊥
not_none [] y ys e = absurd cc
not_none (x ∷ xs) y ys e = absurd cc

-- what is cut off behind one of the pieces of some bytes leaves the pieces up to it
front_split : (p : ℕ → Bool) (xs : List ℕ) (ps : List (List ℕ)) (q : List ℕ) (qs : List (List ℕ)) → slice_split p xs ≡ ps ++ q ∷ qs → slice_split p (take (span ps + length q) xs) ≡ ps ++ q ∷ []
front_split p [] [] q qs e = subst (λ r. slice_split p (take (0 + length r) []) ≡ r ∷ []) (head_same _ _ _ _ e) refl
front_split p [] (r ∷ ps) q qs e = absurd (not_none ps q qs (tail_same _ _ _ _ e))
front_split p (x ∷ xs) ps q qs e = by (front_split p xs) (p x) refl ps e
  where
    more : ((ps : List (List ℕ)) (q : List ℕ) (qs : List (List ℕ)) → slice_split p xs ≡ ps ++ q ∷ qs → slice_split p (take (span ps + length q) xs) ≡ ps ++ q ∷ []) → p x ≡ false
        → (ps zs : List (List ℕ)) → slice_split p xs ≡ zs → onto_first x (slice_split p xs) ≡ ps ++ q ∷ qs → slice_split p (take (span ps + length q) (x ∷ xs)) ≡ ps ++ q ∷ []
    more rec fails ps [] is e = absurd (let count = length-slice_split p xs in omega (arith, count, ap length is))
    more rec fails [] (f ∷ fs) is e =
        let joined : (x ∷ f) ∷ fs ≡ q ∷ qs = sym (ap (onto_first x) is) ∙ e in
        let count : 0 + suc (length f) ≡ suc (0 + length f) = omega arith in
        subst (λ r. slice_split p (take (0 + length r) (x ∷ xs)) ≡ r ∷ []) (head_same _ _ _ _ joined)
        (ap (λ k. slice_split p (take k (x ∷ xs))) count ∙ slice_split-cons_no p x (take (0 + length f) xs) fails ∙ ap (onto_first x) (rec [] f fs is))
    more rec fails (r ∷ ps) (f ∷ fs) is e =
        let joined : (x ∷ f) ∷ fs ≡ r ∷ (ps ++ q ∷ qs) = sym (ap (onto_first x) is) ∙ e in
        let rest : fs ≡ ps ++ q ∷ qs = tail_same _ _ _ _ joined in
        let count : suc (length f) + 1 + span ps + length q ≡ suc (length f + 1 + span ps + length q) = omega arith in
        subst (λ r. slice_split p (take (length r + 1 + span ps + length q) (x ∷ xs)) ≡ r ∷ (ps ++ q ∷ [])) (head_same _ _ _ _ joined)
        (ap (λ k. slice_split p (take k (x ∷ xs))) count ∙ slice_split-cons_no p x (take (length f + 1 + span ps + length q) xs) fails
        ∙ ap (onto_first x) (rec (f ∷ ps) q qs (is ∙ ap (λ gs. f ∷ gs) rest)))

    by : ((ps : List (List ℕ)) (q : List ℕ) (qs : List (List ℕ)) → slice_split p xs ≡ ps ++ q ∷ qs → slice_split p (take (span ps + length q) xs) ≡ ps ++ q ∷ [])
        → (t : Bool) → p x ≡ t → (ps : List (List ℕ)) → slice_split p (x ∷ xs) ≡ ps ++ q ∷ qs → slice_split p (take (span ps + length q) (x ∷ xs)) ≡ ps ++ q ∷ []
    by rec true passes [] e =
        let split : [] ∷ slice_split p xs ≡ q ∷ qs = sym (slice_split-cons_yes p x xs passes) ∙ e in
        subst (λ r. slice_split p (take (0 + length r) (x ∷ xs)) ≡ r ∷ []) (head_same _ _ _ _ split) refl
    by rec true passes (r ∷ ps) e =
        let split : [] ∷ slice_split p xs ≡ r ∷ (ps ++ q ∷ qs) = sym (slice_split-cons_yes p x xs passes) ∙ e in
        let count : 0 + 1 + span ps + length q ≡ suc (span ps + length q) = omega arith in
        subst (λ r. slice_split p (take (length r + 1 + span ps + length q) (x ∷ xs)) ≡ r ∷ (ps ++ q ∷ [])) (head_same _ _ _ _ split)
        (ap (λ k. slice_split p (take k (x ∷ xs))) count ∙ slice_split-cons_yes p x (take (span ps + length q) xs) passes ∙ ap (λ zs. [] ∷ zs) (rec ps q qs (tail_same _ _ _ _ split)))
    by rec false fails ps e = more rec fails ps (slice_split p xs) refl (sym (slice_split-cons_no p x xs fails) ∙ e)

-- the pieces of lines up to one of them
record PiecesUpTo (n at : ℕ) (ps : List (List ℕ)) (before : List Line) (line : Line) : Type 0 where
  front : List (List ℕ)
  piece : List ℕ
  others : List (List ℕ)
  split : ps ≡ front ++ piece ∷ others
  ends : line.at + length line.bytes ≡ at + (span front + length piece)
  lines : numbered n at (front ++ piece ∷ []) ≡ before ++ line ∷ []

pieces_up_to : (n at : ℕ) (ps : List (List ℕ)) (before : List Line) (line : Line) (behind : List Line) → numbered n at ps ≡ before ++ line ∷ behind → PiecesUpTo n at ps before line
pieces_up_to n at [] before line behind e = absurd (not_none before line behind e)
pieces_up_to n at (p ∷ ps) [] line behind e =
    let is : record { number = n; at = at; bytes = p } ≡ line = head_same _ _ _ _ e in
    let place : at + length p ≡ at + (0 + length p) = omega arith in
    record {
      front = [];
      piece = p;
      others = ps;
      split = refl;
      ends = sym (ap (λ (l : Line). l.at + length l.bytes) is) ∙ place;
      lines = ap (λ (l : Line). l ∷ []) is;
    }
pieces_up_to n at (p ∷ ps) (b ∷ before) line behind e =
    let is : record { number = n; at = at; bytes = p } ≡ b = head_same _ _ _ _ e in
    let u = pieces_up_to (n + 1) (at + length p + 1) ps before line behind (tail_same _ _ _ _ e) in
    let place : at + length p + 1 + (span u.front + length u.piece) ≡ at + (length p + 1 + span u.front + length u.piece) = omega arith in
    record {
      front = p ∷ u.front;
      piece = u.piece;
      others = u.others;
      split = ap (λ qs. p ∷ qs) u.split;
      ends = u.ends ∙ place;
      lines = ap (λ (l : Line). l ∷ numbered (n + 1) (at + length p + 1) (u.front ++ u.piece ∷ [])) is ∙ ap (λ ls. b ∷ ls) u.lines;
    }

pub lines_up_to : (text : List ℕ) (before : List Line) (line : Line) (behind : List Line) → lines_of text ≡ before ++ line ∷ behind → lines_of (text_up_to text line) ≡ before ++ line ∷ []
lines_up_to text before line behind e =
    let u = pieces_up_to 1 0 (slice_split is_feed text) before line behind e in
    let place : 0 + (span u.front + length u.piece) ≡ span u.front + length u.piece = omega arith in
    ap (λ k. numbered 1 0 (slice_split is_feed (take k text))) (u.ends ∙ place) ∙ ap (numbered 1 0) (front_split is_feed text u.front u.piece u.others u.split) ∙ u.lines

-- and isn't longer than the text
pub up_to_short : (text : List ℕ) (line : Line) → length (text_up_to text line) ≤ length text
up_to_short text line =
    let n : ℕ = line.at + length line.bytes in
    let cut = length-take n text in
    omega (arith, cut, min-le_right n (length text))
