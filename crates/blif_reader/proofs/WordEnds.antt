-- Words whose bytes stand end to end.
use Rattle.std.proofs.Common.{◌≡◌, ℕ, zero, suc, ◌+◌, ◌-◌, ◌<◌, ◌≤◌, List, [], ◌∷◌, ◌++◌, length, get_or, take, drop, refl, ap, ap₂, ◌∙◌, arith, length-append, length-drop}
use Rattle.std.proofs.lemmas.List.{take_all, take-append-le, drop-append-le}
use Rattle.std.proofs.Math.Seq.{drop-append_seam}
use Rattle.blif_reader.specs.Ends.{AreEnds, AreWithin, Holds, words_between}

-- there are so many
pub length-words_between : (from : ℕ) (ends bytes : List ℕ) → length (words_between from ends bytes) ≡ length ends
unfolding words_between
length-words_between from [] bytes = refl
length-words_between from (e ∷ es) bytes = ap suc (length-words_between e es bytes)

-- none
pub words_none : (from : ℕ) (bytes : List ℕ) → words_between from [] bytes ≡ []
unfolding words_between
words_none from bytes = refl

-- where ends begin, they are within
ends_within : (from : ℕ) (ends : List ℕ) (size : ℕ) → AreEnds from ends size → from ≤ size
ends_within from [] size e = omega (arith, e)
ends_within from (e ∷ es) size placed = let h = ends_within e es size placed.1 in omega (arith, placed.0, h)

-- the end at a place, and the one before it
end_within : (from : ℕ) (ends : List ℕ) (size k : ℕ) → AreEnds from ends size → k < length ends → (get_or (from ∷ ends) k 0 ≤ get_or ends k 0) × (get_or ends k 0 ≤ size)
end_within from [] size k placed lt = absurd (omega arith)
end_within from (e ∷ es) size zero placed lt = (placed.0, ends_within e es size placed.1)
end_within from (e ∷ es) size (suc k) placed lt = end_within e es size k placed.1 (omega arith)

-- the word at a place
pub word_between : (from : ℕ) (ends bytes : List ℕ) (k : ℕ) → k < length ends → get_or (words_between from ends bytes) k [] ≡ take (get_or ends k 0 - get_or (from ∷ ends) k 0) (drop (get_or (from ∷ ends) k 0) bytes)
unfolding words_between
word_between from [] bytes k lt = absurd (omega arith)
word_between from (e ∷ es) bytes zero lt = refl
word_between from (e ∷ es) bytes (suc k) lt = word_between e es bytes k (omega arith)

-- a word more
word_push : (from : ℕ) (ends bytes word : List ℕ) → AreEnds from ends (length bytes) → words_between from (ends ++ length (bytes ++ word) ∷ []) (bytes ++ word) ≡ words_between from ends bytes ++ word ∷ []
unfolding words_between
word_push from [] bytes word placed =
    let size : length (bytes ++ word) ≡ length bytes + length word = length-append bytes word in
    let gone : drop from (bytes ++ word) ≡ word = ap (λ n. drop n (bytes ++ word)) placed ∙ drop-append_seam bytes word in
    ap (λ w. w ∷ []) (ap (take (length (bytes ++ word) - from)) gone ∙ take_all (length (bytes ++ word) - from) word (omega (arith, size, placed)))
word_push from (e ∷ es) bytes word placed =
    let within : e ≤ length bytes = ends_within e es (length bytes) placed.1 in
    let rest : length (drop from bytes) ≡ length bytes - from = length-drop from bytes in
    ap₂ ◌∷◌ (ap (take (e - from)) (drop-append-le from bytes word (omega (arith, placed.0, within))) ∙ take-append-le (e - from) (drop from bytes) word (omega (arith, within, rest))) (word_push e es bytes word placed.1)

end_push : (from : ℕ) (ends : List ℕ) (size size2 : ℕ) → size ≤ size2 → AreEnds from ends size → AreEnds from (ends ++ size2 ∷ []) size2
end_push from [] size size2 le e = (omega (arith, e), refl)
end_push from (e ∷ es) size size2 le placed = (placed.0, end_push e es size size2 le placed.1)

pub holds_more : (ends bytes ends2 bytes2 word : List ℕ) (size : ℕ) → AreEnds 0 ends (length bytes) → bytes2 ≡ bytes ++ word → size ≡ length bytes2 → ends2 ≡ ends ++ size ∷ [] → Holds ends2 bytes2 (words_between 0 ends bytes ++ word ∷ [])
holds_more ends bytes ends2 bytes2 word size placed b s e =
    let size_is : size ≡ length (bytes ++ word) = s ∙ ap length b in
    let ends_are : ends2 ≡ ends ++ length (bytes ++ word) ∷ [] = e ∙ ap (λ n. ends ++ n ∷ []) size_is in
    let longer : length bytes ≤ length (bytes ++ word) = omega (arith, length-append bytes word) in
    rw (b, ends_are) (record { same = word_push 0 ends bytes word placed; placed = end_push 0 ends (length bytes) (length (bytes ++ word)) longer placed })

-- places that words end at are within
pub are_within : (ends bytes : List ℕ) (words : List (List ℕ)) → Holds ends bytes words → AreWithin ends (length bytes)
are_within ends bytes words h = record { rise = λ k lt. (end_within 0 ends (length bytes) k h.placed lt).0; within = λ k lt. (end_within 0 ends (length bytes) k h.placed lt).1 }

-- the place before one, where there is one
pub start_at : (ends : List ℕ) (k : ℕ) → (k ≡ 0 → ⊥) → get_or (0 ∷ ends) k 0 ≡ get_or ends (k - 1) 0
start_at ends zero some = absurd (some refl)
start_at ends (suc k) some = ap (λ n. get_or ends n 0) (omega arith)
