-- Rows have one character for each input of their block.
use Rattle.std.proofs.Common.{◌≡◌, ⊎_elim, ℕ, zero, suc, ◌+◌, ◌-◌, ◌<◌, ◌==◌, Bool, true, false, cond, ◌&&◌, List, [], ◌∷◌, ◌++◌, length, get_or, drop, map, filter, Option, Some, None, Result, Ok, Err, refl, sym, ap, subst, arith, length-drop}
use Rattle.std.specs.List.{AllByRecursion, list_all}
use Rattle.std.specs.Prelude.{codes}
use Rattle.std.specs.Str.{bytes_eq}
use Rattle.std.proofs.lemmas.Bool.{cases_Bool, eqb-true}
use Rattle.std.proofs.lemmas.List.{length-take-le}
use Rattle.blif_reader.specs.declared.fault.BlifFault.{BlifFault}
use Rattle.blif_reader.specs.declared.fault.BlifKind.{BlifKind}
use Rattle.blif_reader.specs.declared.fault.BlifKind.TheVariants as fault
use Rattle.blif_reader.specs.declared.grammar.Kind.{Kind}
use Rattle.blif_reader.specs.declared.grammar.Kind.TheVariants as kind
use Rattle.blif_reader.specs.declared.grammar.Context.{Context}
use Rattle.blif_reader.specs.declared.grammar.Context.TheVariants.{Start, Between, Block, Ended}
use Rattle.blif_reader.specs.Text.{Line}
use Rattle.blif_reader.specs.Grammar.{word_at, shape_of, is_cell, is_dotted, digit_of, keyword_of, row_value, row_beside, kind_of, after}
use Rattle.blif_reader.specs.declared.statement.Statement as declared
use Rattle.blif_reader.specs.Statements.{statement_of, Statement, ◌>>=◌, on_line, statements, after_statement, Follows}
use Rattle.blif_reader.specs.Parts.{block_inputs}
use Rattle.blif_reader.specs.Netlist.{Cover, IsRow, cells_of, row_before, rows_behind, is_names, begins_block, block_cover, covers_of, reads_of}

-- statements that were read follow each other
pub read_follows : (c : Context) (ls : List Line) (ss : List Statement) → statements c ls ≡ Ok ss → Follows c ss
unfolding statements
read_follows Start [] ss h = absurd (cc)
read_follows Between [] ss h = let e : [] ≡ ss = cc in subst (Follows Between) e tt
read_follows (Block n first) [] ss h = let e : [] ≡ ss = cc in subst (Follows (Block n first)) e tt
read_follows Ended [] ss h = let e : [] ≡ ss = cc in subst (Follows Ended) e tt
read_follows c (l ∷ ls) ss h = by_kind c l ls ss (λ d ts e. read_follows d ls ts e) (kind_of c l.words) refl h where
  by_rest : (c : Context) (s : Statement) (ls : List Line) (ss : List Statement) → ((d : Context) (ts : List Statement) → statements d ls ≡ Ok ts → Follows d ts) → kind_of c s.words ≡ Ok s.kind
      → (q : Result (List Statement) BlifFault) → statements (after_statement c s) ls ≡ q → (q >>= λ ts. Ok (s ∷ ts)) ≡ Ok ss → Follows c ss
  by_rest c s ls ss others k (Err f) e h = absurd (cc)
  by_rest c s ls ss others k (Ok ts) e h = let same : s ∷ ts ≡ ss = cc in subst (Follows c) same (k, others (after_statement c s) ts e)

  by_kind : (c : Context) (l : Line) (ls : List Line) (ss : List Statement) → ((d : Context) (ts : List Statement) → statements d ls ≡ Ok ts → Follows d ts)
      → (r : Result Kind BlifKind) → kind_of c l.words ≡ r → ((on_line l.number r >>= λ k. Ok (record { line = l.number; kind = k; words = l.words })) >>= λ s. statements (after_statement c s) ls >>= λ ts. Ok (s ∷ ts)) ≡ Ok ss → Follows c ss
  by_kind c l ls ss others (Err k) e h = absurd (cc)
  by_kind c l ls ss others (Ok k) e h = by_rest c (record { line = l.number; kind = k; words = l.words }) ls ss others e (statements (after c k (length l.words)) ls) refl h

-- no keyword is a row
keyword_apart : (a b c d e : Bool) (v : Bool) → cond a (Ok kind.Inputs) (cond b (Ok kind.Outputs) (cond c (cond d (Err fault.Row) (Ok kind.Names)) (cond e (Ok kind.End) (Err fault.Keyword)))) ≡ Ok (kind.Row v) → ⊥
keyword_apart true b c d e v h = cc
keyword_apart false true c d e v h = cc
keyword_apart false false true true e v h = cc
keyword_apart false false true false e v h = cc
keyword_apart false false false d true v h = cc
keyword_apart false false false d false v h = cc

keyword_not_row : (word : List ℕ) (n : ℕ) (v : Bool) → keyword_of word n ≡ Ok (kind.Row v) → ⊥
keyword_not_row word n v h = keyword_apart (bytes_eq word (codes ".inputs")) (bytes_eq word (codes ".outputs")) (bytes_eq word (codes ".names")) (n == 1) (bytes_eq word (codes ".end")) v h

-- a row has an output
row_has : (first r : Option Bool) (v : Bool) → row_beside first r ≡ Ok (kind.Row v) → (w : Bool) × (r ≡ Some w)
row_has first None v h = absurd (cc)
row_has None (Some w) v h = (w, refl)
row_has (Some o) (Some w) v h = (w, refl)

-- the characters of words that are a row
row_cells : (n : ℕ) (words : List (List ℕ)) (v : Bool) → row_value n (shape_of words) ≡ Some v → IsRow n (cells_of words)
row_cells n words v h = by_tests (n == 0) (length words == 1) (length words == 2) (length (word_at 0 words) == n) (list_all is_cell (word_at 0 words)) refl refl refl refl refl h where
  by_tests : (a b c d e : Bool) → (n == 0) ≡ a → (length words == 1) ≡ b → (length words == 2) ≡ c → (length (word_at 0 words) == n) ≡ d → list_all is_cell (word_at 0 words) ≡ e
      → cond a (cond b (digit_of (word_at 0 words)) None) (cond (c && d && e) (digit_of (word_at 1 words)) None) ≡ Some v → IsRow n (cells_of words)
  by_tests true true c d e pa pb pc pd pe q =
      let none : n ≡ 0 = eqb-true n 0 pa in
      subst (IsRow n) (sym (ap (λ t. cond t [] (word_at 0 words)) pb)) (record { size = sym none; characters = refl })
  by_tests true false c d e pa pb pc pd pe q = absurd (cc)
  by_tests false b true true true pa pb pc pd pe q =
      let two : length words ≡ 2 = eqb-true (length words) 2 pc in
      let more : (length words == 1) ≡ false = ap (λ k. k == 1) two in
      subst (IsRow n) (sym (ap (λ t. cond t [] (word_at 0 words)) more)) (record { size = eqb-true (length (word_at 0 words)) n pd; characters = pe })
  by_tests false b false d e pa pb pc pd pe q = absurd (cc)
  by_tests false b true false e pa pb pc pd pe q = absurd (cc)
  by_tests false b true true false pa pb pc pd pe q = absurd (cc)

-- a row of a block with n inputs
row_of_block : (n : ℕ) (first : Option Bool) (words : List (List ℕ)) (v : Bool) → kind_of (Block n first) words ≡ Ok (kind.Row v) → IsRow n (cells_of words)
row_of_block n first words v h = by_dot (is_dotted (word_at 0 words)) h where
  by_dot : (b : Bool) → cond b (keyword_of (word_at 0 words) (length words)) (row_beside first (row_value n (shape_of words))) ≡ Ok (kind.Row v) → IsRow n (cells_of words)
  by_dot true q = absurd (keyword_not_row (word_at 0 words) (length words) v q)
  by_dot false q = let has = row_has first (row_value n (shape_of words)) v q in row_cells n words has.0 has.1

-- the rows that stand behind a block's line
rows_fit : (n : ℕ) (first : Option Bool) (ss : List Statement) → Follows (Block n first) ss → AllByRecursion (IsRow n) (rows_behind ss)
rows_fit n first [] f = tt
rows_fit n first (s ∷ ss) f = by_kind s.kind f.0 (λ first2 g. rows_fit n first2 ss g) f.1 where
  by_kind : (k : Kind) → kind_of (Block n first) s.words ≡ Ok k → ((first2 : Option Bool) → Follows (Block n first2) ss → AllByRecursion (IsRow n) (rows_behind ss)) → Follows (after (Block n first) k (length s.words)) ss
      → AllByRecursion (IsRow n) (row_before k s.words (rows_behind ss))
  by_kind kind.Model e others g = tt
  by_kind kind.Inputs e others g = tt
  by_kind kind.Outputs e others g = tt
  by_kind kind.Names e others g = tt
  by_kind (kind.Row v) e others g = (row_of_block n first s.words v e, others (Some v) g)
  by_kind kind.End e others g = tt

names_is : (k : Kind) → is_names k ≡ true → k ≡ kind.Names
names_is kind.Model e = absurd (cc)
names_is kind.Inputs e = absurd (cc)
names_is kind.Outputs e = absurd (cc)
names_is kind.Names e = refl
names_is (kind.Row v) e = absurd (cc)
names_is kind.End e = absurd (cc)

inputs_len : (words : List (List ℕ)) → length (block_inputs words) ≡ length words - 2
inputs_len words = length-take-le (length words - 2) (drop 1 words) (omega (arith, length-drop 1 words))

-- each block's rows have a character for each word that it reads
pub covers_fit : (c : Context) (ss : List Statement) → Follows c ss → (k : ℕ) (d : Cover) → k < length (covers_of ss) → AllByRecursion (IsRow (length (get_or (reads_of ss) k []))) (get_or (covers_of ss) k d).rows
covers_fit c [] f k d lt = absurd (omega arith)
covers_fit c (s ∷ ss) f k d lt = ⊎_elim
    (λ (e : begins_block s ≡ true).
    let covers : covers_of (s ∷ ss) ≡ block_cover s ss ∷ covers_of ss = ap (λ b. cond b (block_cover s ss ∷ []) [] ++ covers_of ss) e in
    let reads : reads_of (s ∷ ss) ≡ block_inputs s.words ∷ reads_of ss = ap (λ b. map (λ t. block_inputs t.words) (cond b (s ∷ filter begins_block ss) (filter begins_block ss))) e in
    subst (λ cs. AllByRecursion (IsRow (length (get_or (reads_of (s ∷ ss)) k []))) (get_or cs k d).rows) (sym covers)
    (subst (λ rs. AllByRecursion (IsRow (length (get_or rs k []))) (get_or (block_cover s ss ∷ covers_of ss) k d).rows) (sym reads)
    (first k (λ j l. covers_fit (after_statement c s) ss f.1 j d l) e (subst (λ cs. k < length cs) covers lt))))
    (λ (e : begins_block s ≡ false).
    let covers : covers_of (s ∷ ss) ≡ covers_of ss = ap (λ b. cond b (block_cover s ss ∷ []) [] ++ covers_of ss) e in
    let reads : reads_of (s ∷ ss) ≡ reads_of ss = ap (λ b. map (λ t. block_inputs t.words) (cond b (s ∷ filter begins_block ss) (filter begins_block ss))) e in
    subst (λ cs. AllByRecursion (IsRow (length (get_or (reads_of (s ∷ ss)) k []))) (get_or cs k d).rows) (sym covers)
    (subst (λ rs. AllByRecursion (IsRow (length (get_or rs k []))) (get_or (covers_of ss) k d).rows) (sym reads)
    (covers_fit (after_statement c s) ss f.1 k d (subst (λ cs. k < length cs) covers lt))))
    (cases_Bool (begins_block s))
  where
    first : (k : ℕ) → ((j : ℕ) → j < length (covers_of ss) → AllByRecursion (IsRow (length (get_or (reads_of ss) j []))) (get_or (covers_of ss) j d).rows) → begins_block s ≡ true → k < length (block_cover s ss ∷ covers_of ss)
        → AllByRecursion (IsRow (length (get_or (block_inputs s.words ∷ reads_of ss) k []))) (get_or (block_cover s ss ∷ covers_of ss) k d).rows
    first zero others e lt2 =
        let behind : Follows (Block (length s.words - 2) None) ss = subst (λ t. Follows (after c t (length s.words)) ss) (names_is s.kind e) f.1 in
        subst (λ n. AllByRecursion (IsRow n) (rows_behind ss)) (sym (inputs_len s.words)) (rows_fit (length s.words - 2) None ss behind)
    first (suc j) others e lt2 = others j (omega arith)

-- the rows behind the line at a place, where it begins a block
pub behind_fit : (c : Context) (ds : List declared.Statement) → Follows c (map statement_of ds) → (place : ℕ) (d : declared.Statement) → place < length ds → is_names (get_or ds place d).kind ≡ true
    → AllByRecursion (IsRow (length (statement_of (get_or ds place d)).words - 2)) (rows_behind (map statement_of (drop (place + 1) ds)))
behind_fit c [] f place d lt e = absurd (omega arith)
behind_fit c (x ∷ ds) f zero d lt e =
    let s : Statement = statement_of x in
    let behind : Follows (Block (length s.words - 2) None) (map statement_of ds) = subst (λ t. Follows (after c t (length s.words)) (map statement_of ds)) (names_is s.kind e) f.1 in
    rows_fit (length s.words - 2) None (map statement_of ds) behind
behind_fit c (x ∷ ds) f (suc k) d lt e = subst (λ n. AllByRecursion (IsRow (length (statement_of (get_or ds k d)).words - 2)) (rows_behind (map statement_of (drop n (x ∷ ds))))) place (behind_fit (after_statement c (statement_of x)) ds f.1 k d (omega arith) e) where
  place : suc (k + 1) ≡ suc k + 1
  place = omega arith
