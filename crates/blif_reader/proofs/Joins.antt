-- Lines joined one after the other, and what their words say of a line's kind.
use Rattle.std.proofs.lemmas.Bool.Decides.{nat_tests}
use Rattle.std.proofs.Common.{nat_eq, not, length-append, append_assoc, ◌≡◌, ℕ, ◌+◌, ◌<◌, Bool, true, false, List, [], ◌∷◌, ◌++◌, length, drop, map, refl, sym, ap, ap₂, ◌∙◌, arith, cond}
use Rattle.std.proofs.lemmas.List.{append-nil}
use Rattle.std.proofs.lemmas.List.Sums.{fold-append}
use Rattle.std.specs.List.{slice_split}
use Rattle.text_words.specs.Text as text
use Rattle.text_words.specs.Text.{Word, numbered, words_from, is_feed}
use Rattle.text_words.specs.Places.{IsRest}
use Rattle.blif_reader.specs.declared.line.Line as declared
use Rattle.blif_reader.proofs.Pieces.{pieces_some}
use Rattle.blif_reader.specs.Grammar.{Shape, shape_of}
use Rattle.blif_reader.specs.Text.{Line, has_words, goes_on, code_of, text_of, words_of, onto, joined, first_words, words_at}
use Rattle.blif_reader.specs.Lines.{IsShown, line_of, no_shape, with_word, with_words, words_joined}

-- one line, where the next is joined to it
joined_on : (l : text.Line) (ls : List text.Line) → goes_on (code_of l.bytes) ≡ true → joined (l ∷ ls) ≡ onto l.number (words_of (text_of (code_of l.bytes))) (joined ls)
unfolding joined
joined_on l ls e = ap (λ b. cond b (onto l.number (words_of (text_of (code_of l.bytes))) (joined ls)) (record { number = l.number; words = words_of (text_of (code_of l.bytes)) } ∷ joined ls)) e

-- one line, where the next isn't
joined_apart : (l : text.Line) (ls : List text.Line) → goes_on (code_of l.bytes) ≡ false → joined (l ∷ ls) ≡ record { number = l.number; words = words_of (text_of (code_of l.bytes)) } ∷ joined ls
unfolding joined
joined_apart l ls e = ap (λ b. cond b (onto l.number (words_of (text_of (code_of l.bytes))) (joined ls)) (record { number = l.number; words = words_of (text_of (code_of l.bytes)) } ∷ joined ls)) e

-- no lines
pub joined_none : joined [] ≡ []
unfolding joined
joined_none = refl

onto_first : (n : ℕ) (ws : List (List ℕ)) (ls : List Line) → onto n ws ls ≡ record { number = n; words = ws ++ first_words ls } ∷ drop 1 ls
onto_first n ws [] = ap (λ us. record { number = n; words = us } ∷ []) (sym (append-nil ws))
onto_first n ws (l ∷ ls) = refl

-- what the first line of lines is, and what stands behind it
pub first_joined : (l : text.Line) (ls : List text.Line) (b : Bool) → b ≡ goes_on (code_of l.bytes) → joined (l ∷ ls) ≡ record { number = l.number; words = words_of (text_of (code_of l.bytes)) ++ words_joined b ls } ∷ cond b (drop 1 (joined ls)) (joined ls)
first_joined l ls true e = joined_on l ls (sym e) ∙ onto_first l.number _ (joined ls)
first_joined l ls false e = joined_apart l ls (sym e) ∙ ap (λ us. record { number = l.number; words = us } ∷ joined ls) (sym (append-nil (words_of (text_of (code_of l.bytes)))))

-- the first of lines has the number of the first, and words
pub head_joined : (l : text.Line) (ls : List text.Line) → joined (l ∷ ls) ≡ record { number = l.number; words = first_words (joined (l ∷ ls)) } ∷ drop 1 (joined (l ∷ ls))
head_joined l ls =
    let e = first_joined l ls (goes_on (code_of l.bytes)) refl in
    rw e refl

-- joined lines don't depend on the place of the text
joined_anywhere : (n a b : ℕ) (ps : List (List ℕ)) → joined (numbered n a ps) ≡ joined (numbered n b ps)
joined_anywhere n a b [] = refl
joined_anywhere n a b (p ∷ ps) =
    let e = joined_anywhere (n + 1) (a + length p + 1) (b + length p + 1) ps in
    let t : Bool = goes_on (code_of p) in
    first_joined _ (numbered (n + 1) (a + length p + 1) ps) t refl
    ∙ ap (λ js. record { number = n; words = words_of (text_of (code_of p)) ++ cond t (first_words js) [] } ∷ cond t (drop 1 js) js) e
    ∙ sym (first_joined _ (numbered (n + 1) (b + length p + 1) ps) t refl)

-- the line that a text begins with, and those behind it
pub begins_with : (ls : List text.Line) (n : ℕ) (bytes : List ℕ) → IsRest ls n bytes → (joined ls ≡ record { number = n; words = words_at n bytes } ∷ drop 1 (joined ls)) × (first_words (joined ls) ≡ words_at n bytes)
begins_with ls n bytes rest =
    let anywhere : joined ls ≡ joined (numbered n 0 (slice_split is_feed bytes)) = ap joined rest.same ∙ joined_anywhere n rest.at 0 (slice_split is_feed bytes) in
    let same : first_words (joined ls) ≡ words_at n bytes = ap first_words anywhere in
    (by_pieces (slice_split is_feed bytes) (pieces_some bytes) rest.same ∙ ap (λ us. record { number = n; words = us } ∷ drop 1 (joined ls)) same, same)
  where
    by_pieces : (ps : List (List ℕ)) → 0 < length ps → ls ≡ numbered n rest.at ps → joined ls ≡ record { number = n; words = first_words (joined ls) } ∷ drop 1 (joined ls)
    by_pieces [] some e = absurd (omega (arith, some))
    by_pieces (p ∷ ps) some e = rw e (head_joined _ _)

-- the shape of words and of one word more
word_more : (ws : List (List ℕ)) (w : List ℕ) → with_word (shape_of ws) w ≡ shape_of (ws ++ w ∷ [])
word_more [] w = refl
word_more (a ∷ []) w = refl
word_more (a ∷ b ∷ ws) w =
    let more : length (a ∷ b ∷ ws) + 1 ≡ length (a ∷ b ∷ ws ++ w ∷ []) = sym (length-append (a ∷ b ∷ ws) (w ∷ [])) in
    by_tests (nat_eq (length (a ∷ b ∷ ws)) 0) (nat_eq (length (a ∷ b ∷ ws)) 1) (many 0 _ (omega arith)) (many 1 _ (omega arith)) ∙ ap (λ k. record { first = a; second = b; count = k }) more
  where
    many : (k n : ℕ) → k < n → nat_eq n k ≡ false
    many k n lt = grind (arith, nat_tests)

    by_tests : (p q : Bool) → p ≡ false → q ≡ false → ◌≡◌ {A = Shape} (record { first = cond p w a; second = cond q w b; count = length (a ∷ b ∷ ws) + 1 }) (record { first = a; second = b; count = length (a ∷ b ∷ ws) + 1 })
    by_tests true q e f = absurd (cc)
    by_tests false true e f = absurd (cc)
    by_tests false false e f = refl

-- the shape of words and of more
words_more : (ws vs : List (List ℕ)) → with_words (shape_of ws) vs ≡ shape_of (ws ++ vs)
words_more ws [] = ap shape_of (sym (append-nil ws))
words_more ws (v ∷ vs) = ap (λ s. with_words s vs) (word_more ws v) ∙ words_more (ws ++ v ∷ []) vs ∙ ap shape_of (append_assoc ws (v ∷ []) vs)

-- the shape of words, one after the other
pub shape_is : (ws : List (List ℕ)) → with_words no_shape ws ≡ shape_of ws
shape_is ws = words_more [] ws

-- words so far, and those of a line and of the lines that are joined to it
pub shape_step : (s s2 total : Shape) (l : text.Line) (ls all : List text.Line) (code : List ℕ) (b : Bool) → all ≡ l ∷ ls → code ≡ text_of (code_of l.bytes) → b ≡ goes_on (code_of l.bytes) → s2 ≡ with_words s (words_of code)
    → with_words s (first_words (joined all)) ≡ total → with_words s2 (words_joined b ls) ≡ total
shape_step s s2 total l ls all code b split spelt e more so_far =
    ap (λ t. with_words t (words_joined b ls)) (more ∙ ap (λ t. with_words s (words_of t)) spelt)
    ∙ sym (ap (λ js. with_words s (first_words (joined js))) split ∙ ap (λ js. with_words s (first_words js)) (first_joined l ls b e)
    ∙ fold-append with_word s (words_of (text_of (code_of l.bytes))) (words_joined b ls))
    ∙ so_far

-- the lines behind a line and those that are joined to it
pub behind_step : (total : List Line) (l : text.Line) (ls all : List text.Line) (b : Bool) → all ≡ l ∷ ls → b ≡ goes_on (code_of l.bytes) → drop 1 (joined all) ≡ total → cond b (drop 1 (joined ls)) (joined ls) ≡ total
behind_step total l ls all b split e so_far = sym (ap (λ js. drop 1 (joined js)) split ∙ ap (drop 1) (first_joined l ls b e)) ∙ so_far

-- no lines are left
pub shape_end : (s total : Shape) (ls : List text.Line) → ls ≡ [] → with_words s (first_words (joined ls)) ≡ total → s ≡ total
shape_end s total ls none so_far = sym (ap (λ js. with_words s (first_words (joined js))) none ∙ ap (λ js. with_words s (first_words js)) joined_none) ∙ so_far

pub behind_end : (total : List Line) (ls new : List text.Line) → ls ≡ [] → new ≡ [] → drop 1 (joined ls) ≡ total → joined new ≡ total
behind_end total ls new none gone so_far = ap joined gone ∙ joined_none ∙ sym (ap (λ js. drop 1 (joined js)) none ∙ ap (drop 1) joined_none) ∙ so_far

-- no words are left of a line, and no lines
pub words_end : (ws : List Word) (b : Bool) (ls : List text.Line) → ws ≡ [] → ls ≡ [] → map (λ w. w.bytes) ws ++ words_joined b ls ≡ []
words_end ws b ls none gone = ap₂ (λ (us : List Word) (js : List text.Line). map (λ (w : Word). w.bytes) us ++ words_joined b js) none gone ∙ by_joins b where
  by_joins : (b : Bool) → words_joined b [] ≡ []
  by_joins true = ap first_words joined_none
  by_joins false = refl

-- no words are left of a line: those of the next are
pub words_step : (ws us : List Word) (b b2 : Bool) (l : text.Line) (ls all : List text.Line) (code : List ℕ) (total : List (List ℕ)) → ws ≡ [] → b ≡ true → all ≡ l ∷ ls → code ≡ text_of (code_of l.bytes) → b2 ≡ goes_on (code_of l.bytes) → us ≡ words_from 0 code
    → map (λ w. w.bytes) ws ++ words_joined b all ≡ total → map (λ w. w.bytes) us ++ words_joined b2 ls ≡ total
words_step ws us b b2 l ls all code total none joins split spelt e read so_far =
    ap (λ (vs : List Word). map (λ (w : Word). w.bytes) vs ++ words_joined b2 ls) (read ∙ ap (words_from 0) spelt)
    ∙ sym (ap₂ (λ (vs : List Word) (t : Bool). map (λ (w : Word). w.bytes) vs ++ words_joined t all) none joins
    ∙ ap (λ js. first_words (joined js)) split ∙ ap first_words (first_joined l ls b2 e))
    ∙ so_far

-- a line that shows words has some
pub has_some : (l : declared.Line) → IsShown l → (l.shape.count ≡ 0 → ⊥) → has_words (line_of l) ≡ true
has_some l shown some = by_count (length (words_at l.number l.text.now)) (ap (λ (s : Shape). s.count) shown) where
  by_count : (n : ℕ) → l.shape.count ≡ n → not (nat_eq n 0) ≡ true
  by_count n e = let lt : 0 < n = omega (arith, some, e) in grind (arith, nat_tests)
