-- The parts of a checkpoint's bytes, and that they tell the checkpoint.
use Rattle.std.proofs.Common.{◌≡◌, ℕ, ◌+◌, ◌*◌, ◌^◌, ◌<◌, List, [], ◌∷◌, ◌++◌, length, take, drop, get_or, refl, sym, ap, ◌∙◌, arith}
use Rattle.std.specs.Prelude.{All}
use Rattle.std.specs.List.{flat_map}
use Rattle.std.specs.Int.{w64, to_be_bytes, from_be_bytes}
use Rattle.std.proofs.lemmas.Nat.{from_be_bytes-to_be_bytes_8}
use Rattle.std.proofs.lemmas.List.{length-append, take_at, drop_at, take-take, drop-take}
use Rattle.std.proofs.lemmas.List.Elements.{All-nil, All-cons, All-head, All-tail}
use Rattle.run_tiers.specs.declared.run.Run.{Run}
use Rattle.sweep_core.specs.declared.checkpoint.Checkpoint.{Checkpoint}
use Rattle.sweep_checkpoint.specs.Points.{words_bytes, run_bytes, table_bytes, head_words, used_bytes, AreWords, AreThree, AreRuns, IsTable, AreTables, Fits}

module _ {X : Type 0} (f : X → List ℕ) (w : ℕ) (P : X → Type 0) (long : (x : X) → P x → length (f x) ≡ w) where
  -- so many items have so many times the bytes
  pub length_flat : (xs : List X) → All P xs → length (flat_map f xs) ≡ w * length xs
  length_flat [] each = omega arith
  length_flat (x ∷ xs) each =
      let first : length (f x) ≡ w = long x (All-head P x xs each) in
      let rest : length (flat_map f xs) ≡ w * length xs = length_flat xs (All-tail P x xs each) in
      let both : length (f x ++ flat_map f xs) ≡ length (f x) + length (flat_map f xs) = length-append (f x) (flat_map f xs) in
      omega arith

  -- items of the same bytes are the same
  pub same_flat : ((x y : X) → P x → P y → f x ≡ f y → x ≡ y) → (xs ys : List X) → length xs ≡ length ys → All P xs → All P ys → flat_map f xs ≡ flat_map f ys → xs ≡ ys
  same_flat one [] [] count left right same = refl
  same_flat one [] (y ∷ ys) count left right same = absurd (omega arith)
  same_flat one (x ∷ xs) [] count left right same = absurd (omega arith)
  same_flat one (x ∷ xs) (y ∷ ys) count left right same =
      let a : P x = All-head P x xs left in
      let b : P y = All-head P y ys right in
      let first : f x ≡ f y = sym (take_at (f x) (flat_map f xs) w (long x a)) ∙ ap (take w) same ∙ take_at (f y) (flat_map f ys) w (long y b) in
      let rest : flat_map f xs ≡ flat_map f ys = sym (drop_at (f x) (flat_map f xs) w (long x a)) ∙ ap (drop w) same ∙ drop_at (f y) (flat_map f ys) w (long y b) in
      let count_rest : length xs ≡ length ys = omega arith in
      λ i. one x y a b first i ∷ same_flat one xs ys count_rest (All-tail P x xs left) (All-tail P y ys right) rest i

abbrev pub IsWord : ℕ → Type 0
IsWord word = word < 2 ^ 64

-- a word has eight bytes
word_long : (x : ℕ) → IsWord x → length (to_be_bytes w64 x) ≡ 8
word_long x is = refl

same_word : (x y : ℕ) → IsWord x → IsWord y → to_be_bytes w64 x ≡ to_be_bytes w64 y → x ≡ y
same_word x y a b same = sym (from_be_bytes-to_be_bytes_8 x a) ∙ ap (from_be_bytes w64) same ∙ from_be_bytes-to_be_bytes_8 y b

pub length_words : (ws : List ℕ) → AreWords ws → length (words_bytes ws) ≡ 8 * length ws
length_words ws each = length_flat (to_be_bytes w64) 8 IsWord word_long ws each

pub same_words : (ws vs : List ℕ) → length ws ≡ length vs → AreWords ws → AreWords vs → words_bytes ws ≡ words_bytes vs → ws ≡ vs
same_words ws vs count a b same = same_flat (to_be_bytes w64) 8 IsWord word_long same_word ws vs count a b same

-- three words
abbrev run_words : Run → List ℕ
run_words r = r.part ∷ r.next ∷ r.end ∷ []

three : (r : Run) → AreThree r → AreWords (run_words r)
three r is = All-cons IsWord r.part (r.next ∷ r.end ∷ []) is.part (All-cons IsWord r.next (r.end ∷ []) is.next (All-cons IsWord r.end [] is.last (All-nil IsWord)))

pub run_long : (r : Run) → AreThree r → length (run_bytes r) ≡ 24
run_long r is = refl

same_run : (r s : Run) → AreThree r → AreThree s → run_bytes r ≡ run_bytes s → r ≡ s
same_run r s a b same =
    let words : run_words r ≡ run_words s = same_words (run_words r) (run_words s) refl (three r a) (three s b) same in
    λ i. record { part = get_or (words i) 0 0; next = get_or (words i) 1 0; end = get_or (words i) 2 0 }

pub length_runs : (table : List Run) → AreRuns table → length (table_bytes table) ≡ 24 * length table
length_runs table each = length_flat run_bytes 24 AreThree run_long table each

pub table_long : (table : List Run) → IsTable table → length (table_bytes table) ≡ 1536
table_long table is = length_runs table is.runs ∙ ap (λ n. 24 * n) is.slots

same_table : (a b : List Run) → IsTable a → IsTable b → table_bytes a ≡ table_bytes b → a ≡ b
same_table a b left right same = same_flat run_bytes 24 AreThree run_long same_run a b (left.slots ∙ sym right.slots) left.runs right.runs same

pub length_tables : (tables : List (List Run)) → AreTables tables → length (flat_map table_bytes tables) ≡ 1536 * length tables
length_tables tables each = length_flat table_bytes 1536 IsTable table_long tables each

pub same_tables : (a b : List (List Run)) → length a ≡ length b → AreTables a → AreTables b → flat_map table_bytes a ≡ flat_map table_bytes b → a ≡ b
same_tables a b count left right same = same_flat table_bytes 1536 IsTable table_long same_table a b count left right same

-- three parts of a list, one behind the other
pub record AreParts (head carry tables whole : List ℕ) : Type 0 where
  pub head_is : head ≡ take 48 whole
  pub carry_is : carry ≡ take 2000 (drop 48 whole)
  pub tables_are : tables ≡ take 13824 (drop 2048 whole)

-- what is put one behind the other is so taken apart
pub taken_apart : (head carry tables whole : List ℕ) → length head ≡ 48 → length carry ≡ 2000 → length tables ≡ 13824 → take 15872 whole ≡ head ++ carry ++ tables → AreParts head carry tables whole
taken_apart head carry tables whole first second third same =
    let both : length (head ++ carry) ≡ length head + length carry = length-append head carry in
    let far : length (head ++ carry) ≡ 2048 = omega arith in
    let behind : drop 2048 (take 15872 whole) ≡ tables = ap (drop 2048) same ∙ drop_at (head ++ carry) tables 2048 far in
    let front : take 2048 (take 15872 whole) ≡ head ++ carry = ap (take 2048) same ∙ take_at (head ++ carry) tables 2048 far in
    let begin : take 2048 whole ≡ head ++ carry = sym (take-take 2048 15872 whole (omega arith)) ∙ front in
    record {
      head_is = sym (sym (take-take 48 2048 whole (omega arith)) ∙ ap (take 48) begin ∙ take_at head carry 48 first);
      carry_is = sym (sym (drop-take 48 2000 whole) ∙ ap (drop 48) begin ∙ drop_at head carry 48 first);
      tables_are = sym (sym (drop-take 2048 13824 whole) ∙ behind);
    }

-- the parts of a checkpoint's bytes
pub parts_of : (c : Checkpoint) (whole : List ℕ) → Fits c → take 15872 whole ≡ used_bytes c → AreParts (words_bytes (head_words c)) (words_bytes c.carry) (flat_map table_bytes c.runs) whole
unfolding used_bytes
parts_of c whole fits same =
    taken_apart (words_bytes (head_words c)) (words_bytes c.carry) (flat_map table_bytes c.runs) whole
    refl
    (length_words c.carry fits.carry ∙ ap (λ n. 8 * n) fits.carried)
    (length_tables c.runs fits.tables ∙ ap (λ n. 1536 * n) fits.tabled)
    same

-- a checkpoint has so many bytes
pub length_used : (c : Checkpoint) → Fits c → length (used_bytes c) ≡ 15872
unfolding used_bytes
length_used c fits =
    let carry : length (words_bytes c.carry) ≡ 2000 = length_words c.carry fits.carry ∙ ap (λ n. 8 * n) fits.carried in
    let tables : length (flat_map table_bytes c.runs) ≡ 13824 = length_tables c.runs fits.tables ∙ ap (λ n. 1536 * n) fits.tabled in
    length-append (words_bytes (head_words c) ++ words_bytes c.carry) (flat_map table_bytes c.runs)
    ∙ (λ i. length-append (words_bytes (head_words c)) (words_bytes c.carry) i + tables i)
    ∙ ap (λ n. 48 + n + 13824) carry
