-- The parts of a checkpoint's bytes, and that they tell the checkpoint.
use Rattle.std.proofs.Common.{◌≡◌, ℕ, ◌+◌, ◌-◌, ◌*◌, ◌^◌, ◌<◌, List, [], ◌∷◌, ◌++◌, length, min, take, drop, get_or, replicate, refl, sym, ap, subst, ◌∙◌, append_assoc, inl, inr, arith}
use Rattle.std.specs.List.{flat_map}
use Rattle.std.specs.Int.{w64, to_be_bytes, from_be_bytes}
use Rattle.std.proofs.Math.Seq.{take-add}
use Rattle.std.proofs.lemmas.Nat.{from_be_bytes-to_be_bytes_8}
use borrow.Rule.Slice.PartMut.{put_mid}
use Rattle.std.proofs.lemmas.Slice.{take-put_mid, drop-put_mid}
use Rattle.std.proofs.lemmas.Bool.{cases_lt}
use Rattle.std.proofs.lemmas.List.{append-nil, nil_from_length, take-append-drop, length-drop, length-append, length-replicate, length-take, get_or-take, get_or-drop, get_or_past, take_at, drop_at, take-take, drop-take, drop-drop}
use Rattle.std.proofs.lemmas.List.Elements.{All-nil, All-cons}
use Rattle.run_tiers.specs.declared.run.Run.{Run}
use Rattle.sweep_core.specs.declared.checkpoint.Checkpoint.{Checkpoint}
use Rattle.sweep_checkpoint.specs.Points.{words_bytes, run_bytes, table_bytes, head_words, used_bytes, point_bytes, AreWords, AreThree, AreRuns, IsTable, AreTables, Fits}
use Rattle.sweep_checkpoint.proofs.Flat.{length_flat, same_flat}

abbrev pub IsWord : ℕ → Type 0
IsWord word = word < 2 ^ 64

-- a word has eight bytes
word_long : (x : ℕ) → IsWord x → length (to_be_bytes w64 x) ≡ 8
word_long x is = refl

same_word : (x y : ℕ) → IsWord x → IsWord y → to_be_bytes w64 x ≡ to_be_bytes w64 y → x ≡ y
same_word x y a b same = sym (from_be_bytes-to_be_bytes_8 x a) ∙ ap (from_be_bytes w64) same ∙ from_be_bytes-to_be_bytes_8 y b

pub length_words : (ws : List ℕ) → AreWords ws → length (words_bytes ws) ≡ 8 * length ws
length_words ws each = length_flat (to_be_bytes w64) 8 IsWord word_long ws each

pub same_words : (ws vs : List ℕ) → length ws ≡ length vs → AreWords ws → AreWords vs → words_bytes ws ≡ words_bytes vs → ws ≡ vs
same_words ws vs count a b same = same_flat (to_be_bytes w64) 8 IsWord word_long same_word ws vs count a b same

-- three words
abbrev run_words : Run → List ℕ
run_words r = r.part ∷ r.next ∷ r.end ∷ []

three : (r : Run) → AreThree r → AreWords (run_words r)
three r is = All-cons IsWord r.part (r.next ∷ r.end ∷ []) is.part (All-cons IsWord r.next (r.end ∷ []) is.next (All-cons IsWord r.end [] is.last (All-nil IsWord)))

pub run_long : (r : Run) → AreThree r → length (run_bytes r) ≡ 24
run_long r is = refl

same_run : (r s : Run) → AreThree r → AreThree s → run_bytes r ≡ run_bytes s → r ≡ s
same_run r s a b same =
    let words : run_words r ≡ run_words s = same_words (run_words r) (run_words s) refl (three r a) (three s b) same in
    λ i. record { part = get_or (words i) 0 0; next = get_or (words i) 1 0; end = get_or (words i) 2 0 }

pub length_runs : (table : List Run) → AreRuns table → length (table_bytes table) ≡ 24 * length table
length_runs table each = length_flat run_bytes 24 AreThree run_long table each

pub table_long : (table : List Run) → IsTable table → length (table_bytes table) ≡ 1536
table_long table is = length_runs table is.runs ∙ ap (λ n. 24 * n) is.slots

same_table : (a b : List Run) → IsTable a → IsTable b → table_bytes a ≡ table_bytes b → a ≡ b
same_table a b left right same = same_flat run_bytes 24 AreThree run_long same_run a b (left.slots ∙ sym right.slots) left.runs right.runs same

pub length_tables : (tables : List (List Run)) → AreTables tables → length (flat_map table_bytes tables) ≡ 1536 * length tables
length_tables tables each = length_flat table_bytes 1536 IsTable table_long tables each

pub same_tables : (a b : List (List Run)) → length a ≡ length b → AreTables a → AreTables b → flat_map table_bytes a ≡ flat_map table_bytes b → a ≡ b
same_tables a b count left right same = same_flat table_bytes 1536 IsTable table_long same_table a b count left right same

-- three parts of a list, one behind the other
pub record AreParts (head carry tables whole : List ℕ) : Type 0 where
  pub head_is : head ≡ take 48 whole
  pub carry_is : carry ≡ take 2000 (drop 48 whole)
  pub tables_are : tables ≡ take 13824 (drop 2048 whole)

-- what is put one behind the other is so taken apart
pub taken_apart : (head carry tables whole : List ℕ) → length head ≡ 48 → length carry ≡ 2000 → length tables ≡ 13824 → take 15872 whole ≡ head ++ carry ++ tables → AreParts head carry tables whole
taken_apart head carry tables whole first second third same =
    let both : length (head ++ carry) ≡ length head + length carry = length-append head carry in
    let far : length (head ++ carry) ≡ 2048 = omega arith in
    let behind : drop 2048 (take 15872 whole) ≡ tables = ap (drop 2048) same ∙ drop_at (head ++ carry) tables 2048 far in
    let front : take 2048 (take 15872 whole) ≡ head ++ carry = ap (take 2048) same ∙ take_at (head ++ carry) tables 2048 far in
    let begin : take 2048 whole ≡ head ++ carry = sym (take-take 2048 15872 whole (omega arith)) ∙ front in
    record {
      head_is = sym (sym (take-take 48 2048 whole (omega arith)) ∙ ap (take 48) begin ∙ take_at head carry 48 first);
      carry_is = sym (sym (drop-take 48 2000 whole) ∙ ap (drop 48) begin ∙ drop_at head carry 48 first);
      tables_are = sym (sym (drop-take 2048 13824 whole) ∙ behind);
    }

-- and put together again
pub put_together : (head carry tables whole : List ℕ) → AreParts head carry tables whole → take 15872 whole ≡ head ++ carry ++ tables
put_together head carry tables whole parts =
    let last : take 15872 whole ≡ take 2048 whole ++ take 13824 (drop 2048 whole) = take-add 2048 13824 whole in
    let first : take 2048 whole ≡ take 48 whole ++ take 2000 (drop 48 whole) = take-add 48 2000 whole in
    last ∙ ap (λ xs. xs ++ take 13824 (drop 2048 whole)) first
    ∙ (λ i. sym parts.head_is i ++ sym parts.carry_is i ++ sym parts.tables_are i)

-- the parts of a checkpoint's bytes
pub parts_of : (c : Checkpoint) (whole : List ℕ) → Fits c → take 15872 whole ≡ used_bytes c → AreParts (words_bytes (head_words c)) (words_bytes c.carry) (flat_map table_bytes c.runs) whole
unfolding used_bytes
parts_of c whole fits same =
    taken_apart (words_bytes (head_words c)) (words_bytes c.carry) (flat_map table_bytes c.runs) whole
    refl
    (length_words c.carry fits.carry ∙ ap (λ n. 8 * n) fits.carried)
    (length_tables c.runs fits.tables ∙ ap (λ n. 1536 * n) fits.tabled)
    same

pub used_from : (c : Checkpoint) (whole : List ℕ) → AreParts (words_bytes (head_words c)) (words_bytes c.carry) (flat_map table_bytes c.runs) whole → take 15872 whole ≡ used_bytes c
unfolding used_bytes
used_from c whole parts = put_together (words_bytes (head_words c)) (words_bytes c.carry) (flat_map table_bytes c.runs) whole parts

-- a checkpoint has so many bytes
pub length_used : (c : Checkpoint) → Fits c → length (used_bytes c) ≡ 15872
unfolding used_bytes
length_used c fits =
    let carry : length (words_bytes c.carry) ≡ 2000 = length_words c.carry fits.carry ∙ ap (λ n. 8 * n) fits.carried in
    let tables : length (flat_map table_bytes c.runs) ≡ 13824 = length_tables c.runs fits.tables ∙ ap (λ n. 1536 * n) fits.tabled in
    length-append (words_bytes (head_words c) ++ words_bytes c.carry) (flat_map table_bytes c.runs)
    ∙ (λ i. length-append (words_bytes (head_words c)) (words_bytes c.carry) i + tables i)
    ∙ ap (λ n. 48 + n + 13824) carry

pub length_point : (c : Checkpoint) → Fits c → length (point_bytes c) ≡ 16384
unfolding point_bytes
length_point c fits =
    let used : length (used_bytes c) ≡ 15872 = length_used c fits in
    let rest : length (replicate {A = ℕ} 512 0) ≡ 512 = length-replicate {A = ℕ} 512 0 in
    let both : length (used_bytes c ++ replicate {A = ℕ} 512 0) ≡ length (used_bytes c) + length (replicate {A = ℕ} 512 0) = length-append (used_bytes c) (replicate {A = ℕ} 512 0) in
    omega (arith, both, used, rest)

-- the words in front are those of the checkpoint
pub head_fields : (c : Checkpoint) (head : List ℕ) → head_words c ≡ head → (c.step ≡ get_or head 0 0) × (c.sweep ≡ get_or head 1 0) × (c.turns ≡ get_or head 2 0) × (c.next_part ≡ get_or head 3 0) × (c.budget ≡ get_or head 4 0) × (c.tables ≡ get_or head 5 0)
head_fields c head same = (
  ap (λ xs. get_or xs 0 0) same,
  ap (λ xs. get_or xs 1 0) same,
  ap (λ xs. get_or xs 2 0) same,
  ap (λ xs. get_or xs 3 0) same,
  ap (λ xs. get_or xs 4 0) same,
  ap (λ xs. get_or xs 5 0) same,
)

-- bytes at a place are bytes
pub bytes_fit : (bytes : List ℕ) (at n : ℕ) → ((k : ℕ) → get_or bytes k 0 < 256) → (i : ℕ) → get_or (take n (drop at bytes)) i 0 < 256
bytes_fit bytes at n each i = elim (cases_lt i n) [
  | inl within ↦
      let same : get_or (take n (drop at bytes)) i 0 ≡ get_or bytes (at + i) 0 = get_or-take n (drop at bytes) i 0 within ∙ get_or-drop at bytes i 0 in
      let small : get_or bytes (at + i) 0 < 256 = each (at + i) in
      omega (arith, same, small)
  | inr past ↦
      let cut : length (take n (drop at bytes)) ≡ min n (length (drop at bytes)) = length-take n (drop at bytes) in
      let none : get_or (take n (drop at bytes)) i 0 ≡ 0 = get_or_past (take n (drop at bytes)) i 0 (omega (arith, cut, past)) in
      omega (arith, none)
]

-- a slot's words
pub three_of : (r : Run) → AreWords (run_words r) → AreThree r
three_of r each = record { part = each 0 0 (omega arith); next = each 1 0 (omega arith); last = each 2 0 (omega arith) }

-- what is put in full is all there is
full : (n : ℕ) (p a rest : List ℕ) → p ≡ a ++ rest → length p ≡ n → length a ≡ n → p ≡ a
full n p a rest put long exact =
    let both : length (a ++ rest) ≡ length a + length rest = length-append a rest in
    let same : length p ≡ length (a ++ rest) = ap length put in
    let none : rest ≡ [] = nil_from_length rest (omega arith) in
    put ∙ ap (λ ys. a ++ ys) none ∙ append-nil a

-- three parts, put one behind the other
pub put_three : (whole p q r : List ℕ) (a b d e f g : List ℕ) → length whole ≡ 16384 → p ≡ a ++ e → length p ≡ 48 → length a ≡ 48
    → q ≡ b ++ f → length q ≡ 2000 → length b ≡ 2000 → r ≡ d ++ g → length r ≡ 13824 → length d ≡ 13824
    → put_mid 2048 13824 (put_mid 48 2000 (put_mid 0 48 whole p) q) r ≡ a ++ b ++ d ++ drop 15872 whole
put_three whole p q r a b d e f g size put_p long_p long_a put_q long_q long_b put_r long_r long_d =
    let one : List ℕ = put_mid 0 48 whole p in
    let two : List ℕ = put_mid 48 2000 one q in
    let three : List ℕ = put_mid 2048 13824 two r in
    let first : take 48 one ≡ p = take-put_mid 0 48 whole p 48 (omega (arith, long_p)) (omega arith) in
    let first_rest : drop 48 one ≡ drop 48 whole = drop-put_mid 0 48 whole p 48 (omega arith) (omega arith) long_p in
    let one_long : length one ≡ 16384 =
    ap length (sym (take-append-drop 48 one) ∙ (λ i. first i ++ first_rest i)) ∙ length-append p (drop 48 whole) ∙ (let rest : length (drop 48 whole) ≡ length whole - 48 = length-drop 48 whole in omega (arith, rest, size, long_p)) in
    let second : take 2048 two ≡ p ++ q = take-put_mid 48 2000 one q 2048 (omega (arith, long_q)) (omega (arith, one_long)) ∙ ap (λ xs. xs ++ q) first in
    let second_rest : drop 2048 two ≡ drop 2048 one = drop-put_mid 48 2000 one q 2048 (omega arith) (omega (arith, one_long)) long_q in
    let two_long : length two ≡ 16384 =
    ap length (sym (take-append-drop 2048 two) ∙ (λ i. second i ++ second_rest i)) ∙ length-append (p ++ q) (drop 2048 one)
    ∙ (let rest : length (drop 2048 one) ≡ length one - 2048 = length-drop 2048 one in let both : length (p ++ q) ≡ length p + length q = length-append p q in omega (arith, rest, both, one_long, long_p, long_q)) in
    let third : take 15872 three ≡ p ++ q ++ r = take-put_mid 2048 13824 two r 15872 (omega (arith, long_r)) (omega (arith, two_long)) ∙ ap (λ xs. xs ++ r) second in
    let third_rest : drop 15872 three ≡ drop 15872 whole =
    drop-put_mid 2048 13824 two r 15872 (omega arith) (omega (arith, two_long)) long_r ∙ drop-put_mid 48 2000 one q 15872 (omega arith) (omega (arith, one_long)) long_q ∙ drop-put_mid 0 48 whole p 15872 (omega arith) (omega arith) long_p in
    sym (take-append-drop 15872 three) ∙ (λ i. third i ++ third_rest i)
    ∙ (λ i. full 48 p a e put_p long_p long_a i ++ full 2000 q b f put_q long_q long_b i ++ full 13824 r d g put_r long_r long_d i ++ drop 15872 whole)

-- three words that were read
pub run_read : (bytes : List ℕ) (at part next last : ℕ) → to_be_bytes w64 part ≡ take 8 (drop at bytes) → to_be_bytes w64 next ≡ take 8 (drop (at + 8) bytes) → to_be_bytes w64 last ≡ take 8 (drop (at + 16) bytes)
    → run_bytes (record { part = part; next = next; end = last }) ≡ take 24 (drop at bytes)
run_read bytes at part next last one two three =
    let here : List ℕ = drop at bytes in
    let second : drop (at + 8) bytes ≡ drop 8 here = sym (drop-drop 8 at bytes) in
    let third : drop (at + 16) bytes ≡ drop 16 here = sym (drop-drop 16 at bytes) in
    let pair : take 16 here ≡ take 8 here ++ take 8 (drop 8 here) = take-add 8 8 here in
    let all : take 24 here ≡ take 16 here ++ take 8 (drop 16 here) = take-add 16 8 here in
    ap (λ xs. to_be_bytes w64 part ++ (to_be_bytes w64 next ++ xs)) (append-nil (to_be_bytes w64 last))
    ∙ (λ i. one i ++ ((two ∙ ap (take 8) second) i ++ (three ∙ ap (take 8) third) i))
    ∙ sym (append_assoc (take 8 here) (take 8 (drop 8 here)) (take 8 (drop 16 here)))
    ∙ ap (λ xs. xs ++ take 8 (drop 16 here)) (sym pair) ∙ sym all

-- what was read of a checkpoint's bytes
pub record IsReadFrom (bytes head carry : List ℕ) (runs : List (List Run)) : Type 0 where
  pub six : length head ≡ 6
  pub words : AreWords head
  pub head_is : words_bytes head ≡ take 48 bytes
  pub carried : length carry ≡ 250
  pub carry_words : AreWords carry
  pub carry_is : words_bytes carry ≡ take 2000 (drop 48 bytes)
  pub tabled : length runs ≡ 9
  pub tables : AreTables runs
  pub runs_are : flat_map table_bytes runs ≡ take 13824 (drop 2048 bytes)

-- the words in front alone
pub same_head : (bytes head : List ℕ) (c : Checkpoint) → length head ≡ 6 → AreWords head → words_bytes head ≡ take 48 bytes → Fits c → take 15872 bytes ≡ used_bytes c → head_words c ≡ head
same_head bytes head c six words is fits used =
    same_words (head_words c) head (sym six) fits.words words ((parts_of c bytes fits used).head_is ∙ sym is)

-- it is all that a checkpoint of these bytes has
pub same_point : (bytes head carry : List ℕ) (runs : List (List Run)) (c d : Checkpoint) → IsReadFrom bytes head carry runs → head_words d ≡ head → d.carry ≡ carry → d.runs ≡ runs → Fits c → take 15872 bytes ≡ used_bytes c → d ≡ c
same_point bytes head carry runs c d read head_d carry_d runs_d fits used =
    let parts = parts_of c bytes fits used in
    let first : head_words d ≡ head_words c = head_d ∙ sym (same_head bytes head c read.six read.words read.head_is fits used) in
    let second : d.carry ≡ c.carry = carry_d ∙ same_words carry c.carry (read.carried ∙ sym fits.carried) read.carry_words fits.carry (read.carry_is ∙ sym parts.carry_is) in
    let third : d.runs ≡ c.runs = runs_d ∙ same_tables runs c.runs (read.tabled ∙ sym fits.tabled) read.tables fits.tables (read.runs_are ∙ sym parts.tables_are) in
    λ i. record {
      step = get_or (first i) 0 0;
      sweep = get_or (first i) 1 0;
      turns = get_or (first i) 2 0;
      next_part = get_or (first i) 3 0;
      budget = get_or (first i) 4 0;
      tables = get_or (first i) 5 0;
      carry = second i;
      runs = third i;
    }

-- and a checkpoint that has it fits, and its bytes are these
pub read_fits : (bytes head carry : List ℕ) (runs : List (List Run)) (d : Checkpoint) → IsReadFrom bytes head carry runs → head_words d ≡ head → d.carry ≡ carry → d.runs ≡ runs → Fits d
read_fits bytes head carry runs d read head_d carry_d runs_d = record {
  words = subst AreWords (sym head_d) read.words;
  carried = ap length carry_d ∙ read.carried;
  carry = subst AreWords (sym carry_d) read.carry_words;
  tabled = ap length runs_d ∙ read.tabled;
  tables = subst AreTables (sym runs_d) read.tables;
}

pub read_used : (bytes head carry : List ℕ) (runs : List (List Run)) (d : Checkpoint) → IsReadFrom bytes head carry runs → head_words d ≡ head → d.carry ≡ carry → d.runs ≡ runs → take 15872 bytes ≡ used_bytes d
read_used bytes head carry runs d read head_d carry_d runs_d = used_from d bytes (record {
  head_is = ap words_bytes head_d ∙ read.head_is;
  carry_is = ap words_bytes carry_d ∙ read.carry_is;
  tables_are = ap (flat_map table_bytes) runs_d ∙ read.runs_are;
})

-- six words are these
six_words : (head : List ℕ) → length head ≡ 6 → get_or head 0 0 ∷ get_or head 1 0 ∷ get_or head 2 0 ∷ get_or head 3 0 ∷ get_or head 4 0 ∷ get_or head 5 0 ∷ [] ≡ head
six_words [] six = absurd (omega arith)
six_words (a ∷ []) six = absurd (omega arith)
six_words (a ∷ b ∷ []) six = absurd (omega arith)
six_words (a ∷ b ∷ d ∷ []) six = absurd (omega arith)
six_words (a ∷ b ∷ d ∷ e ∷ []) six = absurd (omega arith)
six_words (a ∷ b ∷ d ∷ e ∷ f ∷ []) six = absurd (omega arith)
six_words (a ∷ b ∷ d ∷ e ∷ f ∷ g ∷ []) six = refl
six_words (a ∷ b ∷ d ∷ e ∷ f ∷ g ∷ h ∷ more) six = absurd (omega arith)

-- the checkpoint of a step and a budget that six words, the words of a sweep and tables are
abbrev pub point_from : ℕ → ℕ → List ℕ → List ℕ → List (List Run) → Checkpoint
point_from step budget head carry runs = record {
  step = step;
  sweep = get_or head 1 0;
  turns = get_or head 2 0;
  next_part = get_or head 3 0;
  budget = budget;
  tables = get_or head 5 0;
  carry = carry;
  runs = runs;
}

-- they are its words, where two of them are the step and the budget
pub head_from : (step budget : ℕ) (head carry : List ℕ) (runs : List (List Run)) → length head ≡ 6 → get_or head 0 0 ≡ step → get_or head 4 0 ≡ budget
    → head_words (point_from step budget head carry runs) ≡ head
head_from step budget head carry runs six step_is budget_is =
    (λ i. sym step_is i ∷ get_or head 1 0 ∷ get_or head 2 0 ∷ get_or head 3 0 ∷ sym budget_is i ∷ get_or head 5 0 ∷ []) ∙ six_words head six
