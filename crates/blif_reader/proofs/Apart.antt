-- Names that differ, where no word is driven twice.
use Rattle.std.proofs.Common.{◌≡◌, ⊎_elim, ℕ, zero, suc, ◌+◌, ◌<◌, ◌≤◌, Bool, true, false, cond, ◌||◌, List, [], ◌∷◌, ◌++◌, length, get_or, map, Some, None, refl, sym, ap, ◌∙◌, arith, zero-add, add-zero, add_assoc}
use Rattle.std.specs.List.{position_from, list_any}
use Rattle.std.specs.Str.{bytes_eq}
use Rattle.std.specs.Cmp.Lexicographic.{bytes_decides}
use Rattle.std.proofs.Math.Bool.{or-true}
use Rattle.std.proofs.lemmas.Bool.{cases_Bool, true≢false}
use Rattle.std.proofs.lemmas.List.{map-append}
use Rattle.std.proofs.lemmas.List.Folds.{list_any-append}
use Rattle.blif_reader.specs.declared.parts.Part.{Part}
use Rattle.blif_reader.specs.declared.parts.Part.TheVariants.{Inputs, Blocks, Drivers}
use Rattle.blif_reader.specs.Statements.{Statement}
use Rattle.blif_reader.specs.Parts.{Use, is_one, part_words, part_of, input_words, block_words, uses_in, words_in, first_again}
use Rattle.blif_reader.specs.Index.{place_of}
use Rattle.blif_reader.specs.Netlist.{names_of}
use Rattle.blif_reader.proofs.Windows.{words_on_each}

-- how often a word stands among some
count : List ℕ → List (List ℕ) → ℕ
count q [] = 0
count q (w ∷ ws) = cond (bytes_eq q w) 1 0 + count q ws

count_none : (q : List ℕ) → count q [] ≡ 0
unfolding count
count_none q = refl

count-append : (q : List ℕ) (ws vs : List (List ℕ)) → count q (ws ++ vs) ≡ count q ws + count q vs
unfolding count
count-append q [] vs = sym (zero-add (count q vs))
count-append q (w ∷ ws) vs = ap (λ n. cond (bytes_eq q w) 1 0 + n) (count-append q ws vs) ∙ sym (add_assoc (cond (bytes_eq q w) 1 0) (count q ws) (count q vs))

count_here : (q w : List ℕ) (ws : List (List ℕ)) → bytes_eq q w ≡ true → count q (w ∷ ws) ≡ 1 + count q ws
unfolding count
count_here q w ws e = ap (λ b. cond b 1 0 + count q ws) e

count_there : (q w : List ℕ) (ws : List (List ℕ)) → bytes_eq q w ≡ false → count q (w ∷ ws) ≡ count q ws
unfolding count
count_there q w ws e = ap (λ b. cond b 1 0 + count q ws) e ∙ zero-add (count q ws)

-- a word is one of some words and one more
one_of_more : (before : List (List ℕ)) (w q : List ℕ) → is_one before q ≡ true → is_one (before ++ w ∷ []) q ≡ true
one_of_more before w q e = list_any-append (bytes_eq q) before (w ∷ []) ∙ ap (λ b. b || list_any (bytes_eq q) (w ∷ [])) e

one_of_last : (before : List (List ℕ)) (w q : List ℕ) → bytes_eq q w ≡ true → is_one (before ++ w ∷ []) q ≡ true
one_of_last before w q e = list_any-append (bytes_eq q) before (w ∷ []) ∙ ap (λ b. is_one before q || (b || false)) e ∙ or-true (is_one before q)

-- the first use is of a new word, and no other is of one before it
again_parts : (before : List (List ℕ)) (u : Use) (us : List Use) → first_again before (u ∷ us) ≡ None → (is_one before u.word ≡ false) × (first_again (before ++ u.word ∷ []) us ≡ None)
unfolding first_again
again_parts before u us none = by_test (is_one before u.word) refl none where
  by_test : (b : Bool) → is_one before u.word ≡ b → cond b (Some u.line) (first_again (before ++ u.word ∷ []) us) ≡ None → (is_one before u.word ≡ false) × (first_again (before ++ u.word ∷ []) us ≡ None)
  by_test true e h = absurd (cc)
  by_test false e h = (e, h)

-- where no use is of a word that was used before, each word is used once at most, and those before never
used_once : (before : List (List ℕ)) (us : List Use) (q : List ℕ) → first_again before us ≡ None → (count q (map (λ u. u.word) us) ≤ 1) × (is_one before q ≡ true → count q (map (λ u. u.word) us) ≡ 0)
used_once before [] q none = (omega (arith, count_none q), λ h. count_none q)
used_once before (u ∷ us) q none =
    let parts = again_parts before u us none in
    let rest = used_once (before ++ u.word ∷ []) us q parts.1 in
    ⊎_elim
    (λ (e : bytes_eq q u.word ≡ true).
    let once : count q (map (λ (v : Use). v.word) us) ≡ 0 = rest.1 (one_of_last before u.word q e) in
    let here = count_here q u.word (map (λ (v : Use). v.word) us) e in
    (omega (arith, once, here), λ h. absurd (true≢false (sym h ∙ ap (is_one before) ((bytes_decides q u.word).0 e) ∙ parts.0))))
    (λ (e : bytes_eq q u.word ≡ false).
    let there = count_there q u.word (map (λ (v : Use). v.word) us) e in
    (omega (arith, rest.0, there), λ h. there ∙ rest.1 (one_of_more before u.word q h)))
    (cases_Bool (bytes_eq q u.word))

-- the words of one part of a line and of those behind it
words_more : (part : Part) (s : Statement) (ss : List Statement) → words_in part (s ∷ ss) ≡ part_words part s.kind s.words ++ words_in part ss
words_more part s ss = map-append (λ (u : Use). u.word) (part_of part s) (uses_in part ss) ∙ ap (λ ws. ws ++ words_in part ss) (words_on_each s.line (part_words part s.kind s.words))

-- what is driven is an input or a block's output
drivers_split : (q : List ℕ) (ss : List Statement) → count q (words_in Drivers ss) ≡ count q (words_in Inputs ss) + count q (words_in Blocks ss)
drivers_split q [] = omega (arith, count_none q)
drivers_split q (s ∷ ss) =
    let a = ap (count q) (words_more Drivers s ss) ∙ count-append q (part_words Drivers s.kind s.words) (words_in Drivers ss) in
    let b = ap (count q) (words_more Inputs s ss) ∙ count-append q (part_words Inputs s.kind s.words) (words_in Inputs ss) in
    let c = ap (count q) (words_more Blocks s ss) ∙ count-append q (part_words Blocks s.kind s.words) (words_in Blocks ss) in
    let d = count-append q (input_words s.kind s.words) (block_words s.kind s.words) in
    omega (arith, a, b, c, d, drivers_split q ss)

-- a word at a place is counted
count_some : (ws : List (List ℕ)) (s : ℕ) (q : List ℕ) → s < length ws → get_or ws s [] ≡ q → 1 ≤ count q ws
count_some [] s q lt e = absurd (omega arith)
count_some (w ∷ ws) zero q lt e = omega (arith, count_here q w ws ((bytes_decides q w).1 (sym e)))
count_some (w ∷ ws) (suc s) q lt e =
    ⊎_elim
    (λ (y : bytes_eq q w ≡ true). omega (arith, count_here q w ws y))
    (λ (n : bytes_eq q w ≡ false). omega (arith, count_there q w ws n, count_some ws s q (omega arith) e))
    (cases_Bool (bytes_eq q w))

-- a word that stands once has the place at which it stands
place_once : (ws : List (List ℕ)) (i s : ℕ) (q : List ℕ) → s < length ws → get_or ws s [] ≡ q → count q ws ≤ 1 → position_from (bytes_eq q) i ws ≡ Some (i + s)
place_once [] i s q lt e once = absurd (omega arith)
place_once (w ∷ ws) i zero q lt e once = ap (λ b. cond b (Some i) (position_from (bytes_eq q) (i + 1) ws)) ((bytes_decides q w).1 (sym e)) ∙ ap Some (sym (add-zero i))
place_once (w ∷ ws) i (suc s) q lt e once =
    ⊎_elim
    (λ (y : bytes_eq q w ≡ true). absurd (omega (arith, count_here q w ws y, count_some ws s q (omega arith) e)))
    (λ (n : bytes_eq q w ≡ false).
    let place : i + 1 + s ≡ i + suc s = omega arith in
    ap (λ b. cond b (Some i) (position_from (bytes_eq q) (i + 1) ws)) n ∙ place_once ws (i + 1) s q (omega arith) e (omega (arith, count_there q w ws n)) ∙ ap Some place)
    (cases_Bool (bytes_eq q w))

-- a name's place is that of its signal
pub names_differ : (ss : List Statement) → first_again [] (uses_in Drivers ss) ≡ None → (s : ℕ) → s < length (names_of ss) → place_of (names_of ss) (get_or (names_of ss) s []) ≡ Some s
names_differ ss none s lt =
    let q : List ℕ = get_or (names_of ss) s [] in
    let once : count q (names_of ss) ≤ 1 = omega (arith, count-append q (words_in Inputs ss) (words_in Blocks ss), drivers_split q ss, (used_once [] (uses_in Drivers ss) q none).0) in
    place_once (names_of ss) 0 s q lt refl once ∙ ap Some (zero-add s)
