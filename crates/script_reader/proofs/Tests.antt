-- Tests over lists that are seen as others.
use Rattle.std.proofs.lemmas.List.{drop-map}
use Rattle.std.specs.Prelude.{drop, ◌≡◌, ℕ, zero, suc, ◌<◌, Bool, ◌||◌, List, [], ◌∷◌, length, map}
use Rattle.std.specs.List.{list_any, slice_index_or}
use Rattle.std.proofs.Common.{refl, ap, sym, ◌∙◌, arith}
use Rattle.text_words.specs.Left.{word_of}
use Rattle.text_words.specs.declared.words.Word as shown
use Rattle.script_reader.specs.Keywords.{word_at, texts_of}
use Rattle.script_reader.specs.Views.{words_of}

-- a test finds one among views of a list where it finds one in the list
pub any_map : {X Y : Type 0} (p : X → Bool) (h : Y → X) (ys : List Y) → list_any p (map h ys) ≡ list_any (λ y. p (h y)) ys
any_map p h [] = refl
any_map p h (y ∷ ys) = ap (λ b. p (h y) || b) (any_map p h ys)

-- a word of a line is that at its place
pub at_word : (words : List shown.Word) (k : ℕ) (d : shown.Word) → k < length words → word_of (slice_index_or words k d) ≡ word_at k (words_of words)
at_word [] k d below = absurd (omega arith)
at_word (w ∷ words) zero d below = refl
at_word (w ∷ words) (suc k) d below = at_word words k d (omega arith)

-- the bytes of the words behind the first
pub rest_texts : (words : List shown.Word) (all : List (List ℕ)) → all ≡ texts_of (words_of (drop 1 words)) → all ≡ texts_of (drop 1 (words_of words))
rest_texts words all is = is ∙ ap texts_of (sym (drop-map word_of 1 words))
