-- How many signals, blocks and rows statements have.
use Rattle.std.proofs.Common.{◌≡◌, ◌⊎◌, inl, inr, ⊎_elim, ℕ, zero, suc, ◌+◌, ◌-◌, ◌<◌, ◌≤◌, Bool, true, false, not, List, [], ◌∷◌, ◌++◌, length, get_or, map, replicate, filter, cond, Option, Some, None, unwrap_or, Ok, Err, refl, sym, ap, ◌∙◌, subst, arith, length-append, length-drop}
use Rattle.std.specs.Prelude.{nat_lt}
use Rattle.std.specs.List.{position_from, list_any, All}
use Rattle.std.proofs.lemmas.List.{length-map, length-replicate, get_or-replicate, get_or_append_left, get_or-append_right, get_or-map}
use Rattle.std.proofs.lemmas.Bool.{cases_Bool, cases_lt, ltb-false}
use Rattle.std.specs.Str.{bytes_eq}
use Rattle.rec_words.specs.Words.{most_variables}
use Rattle.blif_reader.specs.declared.fault.BlifFault.{BlifFault}
use Rattle.blif_reader.specs.declared.fault.BlifKind.{BlifKind}
use Rattle.blif_reader.specs.declared.grammar.Kind.{Kind}
use Rattle.blif_reader.specs.declared.grammar.Kind.TheVariants as kind
use Rattle.blif_reader.specs.declared.parts.Part.TheVariants.{Inputs, Outputs, Blocks, Drivers, Uses}
use Rattle.blif_reader.specs.declared.statement.Statement as declared
use Rattle.blif_reader.specs.Statements.{Statement, statement_of, Follows}
use Rattle.blif_reader.specs.Parts.{Use, input_words, output_words, block_words, read_words, part_of, uses_in, words_in, first_again, first_missing, lists_inputs}
use Rattle.blif_reader.specs.Index.{signal_of}
use Rattle.blif_reader.specs.declared.grammar.Context.TheVariants.{Start}
use Rattle.blif_reader.specs.Netlist.{Cover, IsRow, IsTables, names_of, net_of_text, covers_of, block_cover, cover_before, reads_of, rows_behind, row_before, begins_block, is_names, sound, unless_on}
use Rattle.blif_reader.proofs.Apart.{names_differ}
use Rattle.blif_reader.proofs.Rows.{covers_fit}
use Rattle.std.proofs.lemmas.List.Elements.{All-from_recursion}

-- a driven word is an input or a block's output
drivers_count : (ss : List Statement) → length (uses_in Drivers ss) ≡ length (uses_in Inputs ss) + length (uses_in Blocks ss)
drivers_count [] = refl
drivers_count (s ∷ ss) =
    let a = length-append (part_of Drivers s) (uses_in Drivers ss) in
    let b = length-append (part_of Inputs s) (uses_in Inputs ss) in
    let c = length-append (part_of Blocks s) (uses_in Blocks ss) in
    let d : length (part_of Drivers s) ≡ length (input_words s.kind s.words) + length (block_words s.kind s.words) = length-map (input_words s.kind s.words ++ block_words s.kind s.words) _ ∙ length-append (input_words s.kind s.words) (block_words s.kind s.words) in
    let e : length (part_of Inputs s) ≡ length (input_words s.kind s.words) = length-map (input_words s.kind s.words) _ in
    let f : length (part_of Blocks s) ≡ length (block_words s.kind s.words) = length-map (block_words s.kind s.words) _ in
    omega (arith, drivers_count ss)

-- an output is used
outputs_count : (ss : List Statement) → length (uses_in Outputs ss) ≤ length (uses_in Uses ss)
outputs_count [] = omega arith
outputs_count (s ∷ ss) =
    let a = length-append (part_of Uses s) (uses_in Uses ss) in
    let b = length-append (part_of Outputs s) (uses_in Outputs ss) in
    let d : length (part_of Uses s) ≡ length (output_words s.kind s.words) + length (read_words s.kind s.words) = length-map (output_words s.kind s.words ++ read_words s.kind s.words) _ ∙ length-append (output_words s.kind s.words) (read_words s.kind s.words) in
    let e : length (part_of Outputs s) ≡ length (output_words s.kind s.words) = length-map (output_words s.kind s.words) _ in
    omega (arith, outputs_count ss)

length_filter : (s : Statement) (ss : List Statement) → length (filter begins_block (s ∷ ss)) ≡ cond (begins_block s) 1 0 + length (filter begins_block ss)
length_filter s ss = ⊎_elim
    (λ (e : begins_block s ≡ true). ap (λ b. length (cond b (s ∷ filter begins_block ss) (filter begins_block ss))) e ∙ sym (ap (λ b. cond b 1 0 + length (filter begins_block ss)) e ∙ omega arith))
    (λ (e : begins_block s ≡ false). ap (λ b. length (cond b (s ∷ filter begins_block ss) (filter begins_block ss))) e ∙ sym (ap (λ b. cond b 1 0 + length (filter begins_block ss)) e ∙ omega arith))
    (cases_Bool (begins_block s))

-- a block drives one word
one_output : (k : Kind) (words : List (List ℕ)) → 0 < length words → length (block_words k words) ≡ cond (is_names k) 1 0
one_output kind.Model words some = refl
one_output kind.Inputs words some = refl
one_output kind.Outputs words some = refl
one_output kind.Names words some = length-drop (length words - 1) words ∙ omega arith
one_output (kind.Row v) words some = refl
one_output kind.End words some = refl

blocks_count : (ds : List declared.Statement) → length (uses_in Blocks (map statement_of ds)) ≡ length (filter begins_block (map statement_of ds))
blocks_count [] = refl
blocks_count (d ∷ ds) =
    let s : Statement = statement_of d in
    let ss : List Statement = map statement_of ds in
    let worded : 0 < length s.words = d.worded in
    let a = length-append (part_of Blocks s) (uses_in Blocks ss) in
    let b : length (part_of Blocks s) ≡ length (block_words s.kind s.words) = length-map (block_words s.kind s.words) _ in
    let c : length (block_words s.kind s.words) ≡ cond (begins_block s) 1 0 = one_output s.kind s.words (omega arith) in
    let f = length_filter s ss in
    omega (arith, blocks_count ds)

covers_count : (ss : List Statement) → length (covers_of ss) ≡ length (filter begins_block ss)
covers_count [] = refl
covers_count (s ∷ ss) =
    let a = length-append (cover_before s ss) (covers_of ss) in
    let b : length (cover_before s ss) ≡ cond (begins_block s) 1 0 = ⊎_elim
    (λ (e : begins_block s ≡ true). ap (λ b. length (cond b (block_cover s ss ∷ []) [])) e ∙ sym (ap (λ b. cond b 1 0) e))
    (λ (e : begins_block s ≡ false). ap (λ b. length (cond b (block_cover s ss ∷ []) [])) e ∙ sym (ap (λ b. cond b 1 0) e))
    (cases_Bool (begins_block s)) in
    let f = length_filter s ss in
    omega (arith, covers_count ss)

one_at_most : (b : Bool) → cond b 1 0 ≤ 1
one_at_most true = omega arith
one_at_most false = omega arith

filter_short : (ss : List Statement) → length (filter begins_block ss) ≤ length ss
filter_short [] = omega arith
filter_short (s ∷ ss) = let f = length_filter s ss in omega (arith, filter_short ss, one_at_most (begins_block s))

row_short : (k : Kind) (words : List (List ℕ)) (rows : List (List ℕ)) → length (row_before k words rows) ≤ 1 + length rows
row_short kind.Model words rows = omega arith
row_short kind.Inputs words rows = omega arith
row_short kind.Outputs words rows = omega arith
row_short kind.Names words rows = omega arith
row_short (kind.Row v) words rows = omega arith
row_short kind.End words rows = omega arith

rows_short : (ss : List Statement) → length (rows_behind ss) ≤ length ss
rows_short [] = omega arith
rows_short (s ∷ ss) = omega (arith, row_short s.kind s.words (rows_behind ss), rows_short ss)

-- a cover has no more rows than there are statements
cover_rows : (ss : List Statement) (k : ℕ) (d : Cover) → k < length (covers_of ss) → length (get_or (covers_of ss) k d).rows ≤ length ss
cover_rows [] k d lt = absurd (omega arith)
cover_rows (s ∷ ss) k d lt = ⊎_elim
    (λ (e : begins_block s ≡ true). first k (λ j l. cover_rows ss j d l) e lt)
    (λ (e : begins_block s ≡ false).
    let same : covers_of (s ∷ ss) ≡ covers_of ss = ap (λ b. cond b (block_cover s ss ∷ []) [] ++ covers_of ss) e in
    let lt2 : k < length (covers_of ss) = subst (λ cs. k < length cs) same lt in
    subst (λ cs. length (get_or cs k d).rows ≤ length (s ∷ ss)) (sym same) (omega (arith, cover_rows ss k d lt2)))
    (cases_Bool (begins_block s))
  where
    first : (k : ℕ) → ((j : ℕ) → j < length (covers_of ss) → length (get_or (covers_of ss) j d).rows ≤ length ss) → begins_block s ≡ true → k < length (covers_of (s ∷ ss)) → length (get_or (covers_of (s ∷ ss)) k d).rows ≤ length (s ∷ ss)
    first zero others e lt = subst (λ cs. length (get_or cs zero d).rows ≤ length (s ∷ ss)) (sym (ap (λ b. cond b (block_cover s ss ∷ []) [] ++ covers_of ss) e)) (omega (arith, rows_short ss))
    first (suc k) others e lt =
        let same : covers_of (s ∷ ss) ≡ block_cover s ss ∷ covers_of ss = ap (λ b. cond b (block_cover s ss ∷ []) [] ++ covers_of ss) e in
        let lt2 : suc k < length (block_cover s ss ∷ covers_of ss) = subst (λ cs. suc k < length cs) same lt in
        subst (λ cs. length (get_or cs (suc k) d).rows ≤ length (s ∷ ss)) (sym same) (omega (arith, others k (omega arith)))

position_inside : (t : List ℕ → Bool) (i : ℕ) (xs : List (List ℕ)) → 0 < length xs → unwrap_or (position_from t i xs) 0 < i + length xs
position_inside t i [] some = absurd (omega arith)
position_inside t i (x ∷ []) some = ⊎_elim
    (λ (e : t x ≡ true). subst (λ b. unwrap_or (cond b (Some i) None) 0 < i + length (x ∷ [])) (sym e) (omega arith))
    (λ (e : t x ≡ false). subst (λ b. unwrap_or (cond b (Some i) None) 0 < i + length (x ∷ [])) (sym e) (omega arith))
    (cases_Bool (t x))
position_inside t i (x ∷ y ∷ ys) some = ⊎_elim
    (λ (e : t x ≡ true). subst (λ b. unwrap_or (cond b (Some i) (position_from t (i + 1) (y ∷ ys))) 0 < i + length (x ∷ y ∷ ys)) (sym e) (omega arith))
    (λ (e : t x ≡ false). subst (λ b. unwrap_or (cond b (Some i) (position_from t (i + 1) (y ∷ ys))) 0 < i + length (x ∷ y ∷ ys)) (sym e) (let h = position_inside t (i + 1) (y ∷ ys) (omega arith) in omega (arith, h)))
    (cases_Bool (t x))

-- each number of a word is that of a signal, where there is one
numbers_inside : (names words : List (List ℕ)) (i : ℕ) → 0 < length names → i < length (map (signal_of names) words) → get_or (map (signal_of names) words) i 0 < length names
numbers_inside names words i some lt =
    let n : length (map (signal_of names) words) ≡ length words = length-map words _ in
    subst (λ k. k < length names) (sym (get_or-map (signal_of names) words i [] 0 (omega arith)))
    (let h = position_inside (bytes_eq (get_or words i [])) 0 names some in omega (arith, h))

-- where words are used and none is missing, some are driven
driven_some : (words : List (List ℕ)) (us : List Use) → first_missing words us ≡ None → 0 < length us → 0 < length words
driven_some (w ∷ ws) us none some = omega arith
driven_some [] [] none some = absurd (omega arith)
driven_some [] (u ∷ us) none some = absurd (cc)

-- what sound statements keep
unpack : (a b : Bool) (f g : BlifFault) (o p : Option ℕ) (k l : BlifKind) (ss ts : List Statement) → cond a (Err f) (cond b (Err g) (unless_on o k (unless_on p l (Ok ss)))) ≡ Ok ts → (b ≡ false) × (p ≡ None) × (o ≡ None)
unpack true b f g o p k l ss ts e = absurd (cc)
unpack false true f g o p k l ss ts e = absurd (cc)
unpack false false f g (Some n) p k l ss ts e = absurd (cc)
unpack false false f g None (Some n) k l ss ts e = absurd (cc)
unpack false false f g None None k l ss ts e = (refl, refl, refl)

sound_ok : (ss ts : List Statement) → sound ss ≡ Ok ts → (length (words_in Inputs ss) ≤ most_variables) × (first_missing (words_in Drivers ss) (uses_in Uses ss) ≡ None) × (first_again [] (uses_in Drivers ss) ≡ None)
sound_ok ss ts e =
    let u = unpack (not (list_any lists_inputs ss)) (nat_lt most_variables (length (words_in Inputs ss))) _ _ (first_again [] (uses_in Drivers ss)) (first_missing (words_in Drivers ss) (uses_in Uses ss)) _ _ ss ts e in
    (ltb-false _ _ u.0, u.1, u.2)

-- tables of sound statements
pub tables_sound : (ds : List declared.Statement) → length ds ≤ 4194305 → Follows Start (map statement_of ds) → sound (map statement_of ds) ≡ Ok (map statement_of ds) → IsTables (net_of_text (map statement_of ds))
tables_sound ds few follows e =
    let ss : List Statement = map statement_of ds in
    let ok = sound_ok ss ss e in
    let n : ℕ = length (words_in Inputs ss) in
    let ns : List (List ℕ) = names_of ss in
    let inputs : n ≤ most_variables = ok.0 in
    let statements : length ss ≡ length ds = length-map ds _ in
    let a : n ≡ length (uses_in Inputs ss) = length-map (uses_in Inputs ss) _ in
    let b : length (words_in Blocks ss) ≡ length (uses_in Blocks ss) = length-map (uses_in Blocks ss) _ in
    let names : length ns ≡ n + length (words_in Blocks ss) = length-append (words_in Inputs ss) (words_in Blocks ss) in
    let blocks : length (uses_in Blocks ss) ≡ length (filter begins_block ss) = blocks_count ds in
    let short : length (filter begins_block ss) ≤ length ss = filter_short ss in
    let covers : length (covers_of ss) ≡ length (filter begins_block ss) = covers_count ss in
    let reads : length (reads_of ss) ≡ length (filter begins_block ss) = length-map (filter begins_block ss) _ in
    let inner : List (List ℕ) = map (λ ws. map (signal_of ns) ws) (reads_of ss) in
    let inner_len : length inner ≡ length (reads_of ss) = length-map (reads_of ss) _ in
    let outer : List (List ℕ) = replicate n [] in
    let outer_len : length outer ≡ n = length-replicate n [] in
    let edges : length (outer ++ inner) ≡ length outer + length inner = length-append outer inner in
    let low : (s : ℕ) → s < n → get_or (outer ++ inner) s [] ≡ [] = (λ s lt. get_or_append_left outer inner [] s (omega arith) ∙ get_or-replicate n s [] [] lt) in
    let at_block : (s : ℕ) → n ≤ s → s < length (outer ++ inner) → get_or (outer ++ inner) s [] ≡ map (signal_of ns) (get_or (reads_of ss) (s - n) []) =
    λ s l lt. get_or-append_right outer inner n s [] outer_len l ∙ get_or-map (λ ws. map (signal_of ns) ws) (reads_of ss) (s - n) [] [] (omega arith) in
    record {
      few = omega arith;
      few_inputs = inputs;
      apart = names_differ ss ok.2;
      signals = omega arith;
      blocks = omega arith;
      graph = λ s i lt less. ⊎_elim
          (λ (l : s < n). let none : length (get_or (outer ++ inner) s []) ≡ 0 = ap length (low s l) in absurd (omega arith))
          (λ (l : n ≤ s).
          let k : ℕ = s - n in
          let here : get_or (outer ++ inner) s [] ≡ map (signal_of ns) (get_or (reads_of ss) k []) =
          get_or-append_right outer inner n s [] outer_len l ∙ get_or-map (λ ws. map (signal_of ns) ws) (reads_of ss) k [] [] (omega arith) in
          let less2 : i < length (map (signal_of ns) (get_or (reads_of ss) k [])) = subst (λ es. i < length es) here less in
          subst (λ es. get_or es i 0 < length (outer ++ inner)) (sym here)
          (let h = numbers_inside ns (get_or (reads_of ss) k []) i (omega arith) less2 in omega (arith, h)))
          (cases_lt s n);
      leaves = λ s lt. ap length (low s lt);
      outputs = λ i lt.
          let o : length (words_in Outputs ss) ≡ length (uses_in Outputs ss) = length-map (uses_in Outputs ss) _ in
          let p : length (map (signal_of ns) (words_in Outputs ss)) ≡ length (words_in Outputs ss) = length-map (words_in Outputs ss) _ in
          let q : length (words_in Drivers ss) ≡ length (uses_in Drivers ss) = length-map (uses_in Drivers ss) _ in
          let used : length (uses_in Outputs ss) ≤ length (uses_in Uses ss) = outputs_count ss in
          let some : 0 < length (words_in Drivers ss) = driven_some (words_in Drivers ss) (uses_in Uses ss) ok.1 (omega arith) in
          let driven : length (uses_in Drivers ss) ≡ length (uses_in Inputs ss) + length (uses_in Blocks ss) = drivers_count ss in
          numbers_inside ns (words_in Outputs ss) i (omega arith) lt;
      cells = λ k lt.
          let d : Cover = record { line = 0; value = true; rows = [] } in
          let k_is : n + k - n ≡ k = omega arith in
          let width : length (get_or (outer ++ inner) (n + k) []) ≡ length (get_or (reads_of ss) k []) =
          ap length (at_block (n + k) (omega arith) (omega arith)) ∙ length-map (get_or (reads_of ss) (n + k - n) []) _ ∙ ap (λ j. length (get_or (reads_of ss) j [])) k_is in
          subst (λ w. All (IsRow w) (get_or (covers_of ss) k d).rows) (sym width) (All-from_recursion _ _ (covers_fit Start ss follows k d lt));
      rows = λ k lt. let h = cover_rows ss k (record { line = 0; value = true; rows = [] }) lt in omega (arith, h);
    }
