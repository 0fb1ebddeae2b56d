-- Indexes by bytes, and the places of names.
use Rattle.std.proofs.Common.{◌≡◌, ◌⊎◌, inl, inr, ⊎_elim, ℕ, ◌+◌, ◌<◌, Bool, true, false, cond, ◌||◌, List, [], ◌∷◌, ◌++◌, length, get_or, drop, map, Option, Some, None, is_some, Vec, refl, sym, ap, ap₂, ◌∙◌, subst, append_assoc}
use Rattle.std.proofs.lemmas.Bool.{cases_Bool}
use Rattle.std.specs.List.{position_from}
use Rattle.std.specs.Str.{bytes_eq}
use Rattle.std.specs.BTreeMap as tree
use Rattle.std.specs.Ordering.{is_eq, nat_cmp}
use Rattle.std.specs.Map.{lookup, KeepsOthers, IsKeyTest, AreApart}
use Rattle.std.specs.Cmp.Lexicographic.{slice_cmp, bytes_decides, nat_list_eq_equiv}
use Rattle.std.proofs.lemmas.Cmp.{eq_by_cmp_equiv, nat_list_cmp_total}
use Rattle.std.proofs.lemmas.Map.Text.{is_eq-slice_cmp}
use Rattle.std.specs.declared.alloc.Global.{Global}
use Rattle.std.proofs.lemmas.List.{append-nil, map_push, drop_more}
use Rattle.std.proofs.lemmas.List.Folds.{list_any-append}
use Rattle.blif_reader.specs.Index.{Index, found_in, Puts}
use Rattle.blif_reader.specs.Parts.{Use, is_one, first_again}

other_entries : {K X : Type 0} (eq : K → K → Bool) (test : K → Bool) (old new : List (K × X)) → KeepsOthers eq test old new → (other : K → Bool) → IsKeyTest eq other → AreApart test other → lookup other new ≡ lookup other old
unfolding KeepsOthers
other_entries eq test old new h = h

apart : (bs cs ks : List ℕ) → bytes_eq bs cs ≡ false → bytes_eq bs ks ≡ true → bytes_eq cs ks ≡ false
apart bs cs ks n y = nat_list_eq_equiv.symm cs ks ∙ sym (nat_list_eq_equiv.congr bs ks cs y) ∙ n

apart_in_order : (bs cs ks : List ℕ) → bytes_eq bs cs ≡ false → is_eq (slice_cmp nat_cmp bs ks) ≡ true → is_eq (slice_cmp nat_cmp cs ks) ≡ false
apart_in_order bs cs ks n y = is_eq-slice_cmp cs ks ∙ apart bs cs ks n (sym (is_eq-slice_cmp bs ks) ∙ y)

-- what a word had
pub had : (old : Index) (key : Vec ℕ Global) (word : List ℕ) (o : Option ℕ) → key.items ≡ word → o ≡ tree.get_by (λ (k : Vec ℕ Global). slice_cmp nat_cmp key.items k.items) old → o ≡ found_in old word
unfolding found_in
had old key word o e h = h ∙ ap (λ t. tree.get_by (λ (k : Vec ℕ Global). slice_cmp nat_cmp t k.items) old) e

-- what an index has after a word was put
pub puts_word : (old new : Index) (key : Vec ℕ Global) (word : List ℕ) (n : ℕ) → key.items ≡ word → tree.UpdatesBy (λ (x y : Vec ℕ Global). slice_cmp nat_cmp x.items y.items) (λ k. slice_cmp nat_cmp key.items k.items) old new (Some n) → Puts old new word n
unfolding found_in
puts_word old new key word n e h q = ⊎_elim
    (λ (y : bytes_eq word q ≡ true).
    let same : key.items ≡ q = e ∙ (bytes_decides word q).0 y in
    subst (λ l. found_in new l ≡ Some n) same h.1 ∙ sym (ap (λ b. cond b (Some n) (found_in old q)) y))
    (λ (no : bytes_eq word q ≡ false).
    let away : bytes_eq key.items q ≡ false = ap (λ l. bytes_eq l q) e ∙ no in
    other_entries _ _ _ _ h.3 (λ k. is_eq (slice_cmp nat_cmp q k.items)) (λ x y. (eq_by_cmp_equiv nat_list_cmp_total).congr q x.items y.items) (λ k. apart_in_order key.items q k.items away) ∙ sym (ap (λ b. cond b (Some n) (found_in old q)) no))
    (cases_Bool (bytes_eq word q))

-- the name in front of those that an index has
pub places_before : (old new : Index) (names : List (List ℕ)) (place : ℕ) → place < length names → Puts old new (get_or names place []) place
    → ((q : List ℕ) → found_in old q ≡ position_from (bytes_eq q) (place + 1) (drop (place + 1) names)) → (q : List ℕ) → found_in new q ≡ position_from (bytes_eq q) place (drop place names)
places_before old new names place lt puts so_far q =
    puts q ∙ ap₂ (λ b o. cond b (Some place) o) (nat_list_eq_equiv.symm (get_or names place []) q) (so_far q) ∙ sym (ap (position_from (bytes_eq q) place) (drop_more names place [] lt))

-- one word more in an index
pub words_more : (old new : Index) (words : List (List ℕ)) (word : List ℕ) (n : ℕ) → Puts old new word n → ((q : List ℕ) → is_some (found_in old q) ≡ is_one words q) → (q : List ℕ) → is_some (found_in new q) ≡ is_one (words ++ word ∷ []) q
words_more old new words word n puts so_far q =
    ap is_some (puts q) ∙ ⊎_elim
    (λ (y : bytes_eq word q ≡ true). ap (λ b. is_some (cond b (Some n) (found_in old q))) y ∙ sym (ap (λ b. is_one words q || (b || false)) (nat_list_eq_equiv.symm q word ∙ y) ∙ or-true (is_one words q)))
    (λ (no : bytes_eq word q ≡ false). ap (λ b. is_some (cond b (Some n) (found_in old q))) no ∙ so_far q ∙ sym (ap (λ b. is_one words q || (b || false)) (nat_list_eq_equiv.symm q word ∙ no) ∙ or-false (is_one words q)))
    (cases_Bool (bytes_eq word q))
    ∙ sym (list_any-append (bytes_eq q) words (word ∷ []))
  where
    or-true : (b : Bool) → (b || true) ≡ true
    or-true true = refl
    or-true false = refl

    or-false : (b : Bool) → (b || false) ≡ b
    or-false true = refl
    or-false false = refl

-- the first use is of a word that was used before
pub again_here : (before : List (List ℕ)) (u : Use) (us all : List Use) (total : Option ℕ) → all ≡ u ∷ us → is_one before u.word ≡ true → first_again before all ≡ total → Some u.line ≡ total
unfolding first_again
again_here before u us all total split used so_far = sym (ap (first_again before) split ∙ ap (λ b. cond b (Some u.line) (first_again (before ++ u.word ∷ []) us)) used) ∙ so_far

-- it isn't
pub again_later : (before : List (List ℕ)) (u : Use) (us all : List Use) (total : Option ℕ) → all ≡ u ∷ us → is_one before u.word ≡ false → first_again before all ≡ total → first_again (before ++ u.word ∷ []) us ≡ total
unfolding first_again
again_later before u us all total split fresh so_far = sym (ap (first_again before) split ∙ ap (λ b. cond b (Some u.line) (first_again (before ++ u.word ∷ []) us)) fresh) ∙ so_far

-- no use is left
pub again_none : (before : List (List ℕ)) (all : List Use) (total : Option ℕ) → all ≡ [] → first_again before all ≡ total → None ≡ total
unfolding first_again
again_none before all total none so_far = sym (ap (first_again before) none) ∙ so_far

-- the uses so far, of words that differ, are in the index, and the first use of a word that was used before is one of those that are left
pub record Seen (all left : List Use) (index : Index) : Type 0 where
  pub before : List Use
  pub split : before ++ left ≡ all
  pub words : (q : List ℕ) → is_some (found_in index q) ≡ is_one (map (λ u. u.word) before) q
  pub line : first_again (map (λ u. u.word) before) left ≡ first_again [] all

-- no use so far
pub seen_none : (all : List Use) (index : Index) → ((q : List ℕ) → found_in index q ≡ None) → Seen all all index
seen_none all index none = record { before = []; split = refl; words = λ q. ap is_some (none q); line = refl }

-- one use more
pub seen_more : (all left rest : List Use) (u : Use) (old new : Index) (n : ℕ) → left ≡ u ∷ rest → Puts old new u.word n → is_some (found_in old u.word) ≡ false → Seen all left old → Seen all rest new
seen_more all left rest u old new n split puts fresh seen =
    let before : List (List ℕ) = map (λ (v : Use). v.word) seen.before in
    let more : map (λ (v : Use). v.word) (seen.before ++ u ∷ []) ≡ before ++ u.word ∷ [] = map_push (λ (v : Use). v.word) seen.before u in
    record {
      before = seen.before ++ u ∷ [];
      split = append_assoc seen.before (u ∷ []) rest ∙ ap (λ us. seen.before ++ us) (sym split) ∙ seen.split;
      words = λ q. words_more old new before u.word n puts seen.words q ∙ ap (λ ws. is_one ws q) (sym more);
      line = ap (λ ws. first_again ws rest) more ∙ again_later before u rest left _ split (sym (seen.words u.word) ∙ fresh) seen.line;
    }

-- a use of a word that was used before
pub seen_again : (all left rest : List Use) (u : Use) (index : Index) → left ≡ u ∷ rest → is_some (found_in index u.word) ≡ true → Seen all left index → Some u.line ≡ first_again [] all
seen_again all left rest u index split used seen = again_here _ u rest left _ split (sym (seen.words u.word) ∙ used) seen.line

-- no use is left
pub seen_all : (all left : List Use) (index : Index) → left ≡ [] → Seen all left index → (None ≡ first_again [] all) × ((q : List ℕ) → is_some (found_in index q) ≡ is_one (map (λ u. u.word) all) q)
seen_all all left index none seen =
    let same : seen.before ≡ all = sym (append-nil seen.before) ∙ ap (λ us. seen.before ++ us) (sym none) ∙ seen.split in
    (again_none _ left _ none seen.line, λ q. seen.words q ∙ ap (λ us. is_one (map (λ (u : Use). u.word) us) q) same)
