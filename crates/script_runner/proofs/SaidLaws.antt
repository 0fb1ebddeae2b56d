-- How many steps stand behind what was said.
use Rattle.std.proofs.Common.{◌≡◌, ◌∙◌, ◌⊎◌, ℕ, zero, suc, ◌+◌, ◌-◌, ◌/◌, ◌%◌, ◌<◌, ◌≤◌, ◌==◌, min, Bool, true, false, cond, List, [], ◌∷◌, ◌++◌, length, get_or, refl, sym, ap, ap₂, subst, inl, inr, arith}
use Rattle.std.specs.Prelude.{codes}
use Rattle.std.specs.List.{flat_map}
use Rattle.std.specs.Fmt.{decimal, digits, digits_onto, digit_glyph}
use Rattle.std.proofs.lemmas.Bool.{lt-ltb}
use Rattle.std.proofs.lemmas.List.Sums.{sum_by-cons, sum_by-append}
use Rattle.script_reader.specs.declared.plan.LineEnd.{LineEnd}
use Rattle.bool_tables.specs.declared.steps.Step.{Step}
use Rattle.bool_tables.specs.declared.steps.Step.TheVariants.{Const, Var, Pair, Ite, Quantify, Restrict, Drop, Same, Leq, Eval, Size}
use Rattle.bool_tables.specs.declared.steps.Planned.{Planned}
use Rattle.catalogue.specs.declared.layout.Entry.{Entry}
use Rattle.step_work.specs.Plans.{no_step}
use Rattle.sound_image.specs.Jobs.{Job, step_at}
use Rattle.sound_image.specs.Entries.{answer_of, count_of}
use Rattle.script_runner.specs.Text.{line_of, start_line, resume_line, nodes_line, dropped_line, truth_line, value_line, answer_line, said_line, entry_line, ended_before}
use Rattle.script_runner.specs.Said.{whole_lines, acknowledged, no_line, said_count}

-- the whole lines of two parts
pub whole_lines-append : (xs ys : List ℕ) → whole_lines (xs ++ ys) ≡ whole_lines xs + whole_lines ys
whole_lines-append xs ys = sum_by-append (λ byte. cond (byte == 10) 1 0) xs ys

whole_lines-cons : (x : ℕ) (xs : List ℕ) → whole_lines (x ∷ xs) ≡ cond (x == 10) 1 0 + whole_lines xs
whole_lines-cons x xs = sum_by-cons (λ byte. cond (byte == 10) 1 0) x xs

-- a front part has no more of them than the whole
pub whole_lines-front : (xs ys : List ℕ) → whole_lines xs ≤ whole_lines (xs ++ ys)
whole_lines-front xs ys = omega (arith, whole_lines-append xs ys)

-- no digit ends a line
no_feed : (d : ℕ) → d < 10 → (digit_glyph false d == 10) ≡ false
no_feed d small = ap (λ b. cond b (48 + d) (87 + d) == 10) (lt-ltb d 10 small) ∙ above (48 + d) 10 (omega arith)
  where
    above : (a b : ℕ) → b < a → (a == b) ≡ false
    above a b h = search (arith, h)

digits_have_none : (k n : ℕ) (acc : List ℕ) → whole_lines acc ≡ 0 → whole_lines (digits_onto k 10 false n acc) ≡ 0
digits_have_none zero n acc none = none
digits_have_none (suc k) n acc none = by_last (n / 10 == 0) here (digits_have_none k (n / 10) (digit_glyph false (n % 10) ∷ acc) here)
  where
    here : whole_lines (digit_glyph false (n % 10) ∷ acc) ≡ 0
    here = let small : n % 10 < 10 = omega arith in
        whole_lines-cons (digit_glyph false (n % 10)) acc ∙ ap (λ b. cond b 1 0 + whole_lines acc) (no_feed (n % 10) small) ∙ sum (whole_lines acc) none
      where
        sum : (a : ℕ) → a ≡ 0 → 0 + a ≡ 0
        sum a x = omega (arith, x)

    by_last : (b : Bool) → whole_lines (digit_glyph false (n % 10) ∷ acc) ≡ 0 → whole_lines (digits_onto k 10 false (n / 10) (digit_glyph false (n % 10) ∷ acc)) ≡ 0
        → whole_lines (cond b (digit_glyph false (n % 10) ∷ acc) (digits_onto k 10 false (n / 10) (digit_glyph false (n % 10) ∷ acc))) ≡ 0
    by_last true x y = x
    by_last false x y = y

decimal_has_none : (n : ℕ) → whole_lines (decimal n) ≡ 0
unfolding digits
decimal_has_none n = digits_have_none 64 n [] refl

-- a line is one
line_is_one : (text : List ℕ) → whole_lines text ≡ 0 → whole_lines (line_of text) ≡ 1
line_is_one text none = whole_lines-append text (10 ∷ []) ∙ ap (λ a. a + 1) none

none_in_both : (xs ys : List ℕ) → whole_lines xs ≡ 0 → whole_lines ys ≡ 0 → whole_lines (xs ++ ys) ≡ 0
none_in_both xs ys x y = whole_lines-append xs ys ∙ ap₂ (λ a b. a + b) x y

pub start_line_is_one : (count : ℕ) → whole_lines (start_line count) ≡ 1
start_line_is_one count = line_is_one (codes "start " ++ decimal count) (none_in_both (codes "start ") (decimal count) refl (decimal_has_none count))

pub resume_line_is_one : (before count : ℕ) → whole_lines (resume_line before count) ≡ 1
resume_line_is_one before count = line_is_one (((codes "resume " ++ decimal before) ++ codes " of ") ++ decimal count)
    (none_in_both ((codes "resume " ++ decimal before) ++ codes " of ") (decimal count)
    (none_in_both (codes "resume " ++ decimal before) (codes " of ") (none_in_both (codes "resume ") (decimal before) refl (decimal_has_none before)) refl)
    (decimal_has_none count))

nodes_line_is_one : (line count : ℕ) → whole_lines (nodes_line line count) ≡ 1
nodes_line_is_one line count = line_is_one ((decimal line ++ codes ": nodes ") ++ decimal count)
    (none_in_both (decimal line ++ codes ": nodes ") (decimal count) (none_in_both (decimal line) (codes ": nodes ") (decimal_has_none line) refl) (decimal_has_none count))

dropped_line_is_one : (line : ℕ) → whole_lines (dropped_line line) ≡ 1
dropped_line_is_one line = line_is_one (decimal line ++ codes ": dropped") (none_in_both (decimal line) (codes ": dropped") (decimal_has_none line) refl)

truth_line_is_one : (line answer : ℕ) → whole_lines (truth_line line answer) ≡ 1
truth_line_is_one line answer = by_answer (answer == 1)
  where
    by_answer : (b : Bool) → whole_lines (line_of (decimal line ++ cond b (codes ": yes") (codes ": no"))) ≡ 1
    by_answer true = line_is_one (decimal line ++ codes ": yes") (none_in_both (decimal line) (codes ": yes") (decimal_has_none line) refl)
    by_answer false = line_is_one (decimal line ++ codes ": no") (none_in_both (decimal line) (codes ": no") (decimal_has_none line) refl)

value_line_is_one : (line answer : ℕ) → whole_lines (value_line line answer) ≡ 1
value_line_is_one line answer = by_answer (answer == 1)
  where
    by_answer : (b : Bool) → whole_lines (line_of (decimal line ++ cond b (codes ": 1") (codes ": 0"))) ≡ 1
    by_answer true = line_is_one (decimal line ++ codes ": 1") (none_in_both (decimal line) (codes ": 1") (decimal_has_none line) refl)
    by_answer false = line_is_one (decimal line ++ codes ": 0") (none_in_both (decimal line) (codes ": 0") (decimal_has_none line) refl)

answer_line_is_one : (line : ℕ) (step : Step) (answer count : ℕ) → whole_lines (answer_line line step answer count) ≡ 1
answer_line_is_one line (Const value) answer count = nodes_line_is_one line count
answer_line_is_one line (Var level) answer count = nodes_line_is_one line count
answer_line_is_one line (Pair op left right) answer count = nodes_line_is_one line count
answer_line_is_one line (Ite test if_one if_zero) answer count = nodes_line_is_one line count
answer_line_is_one line (Quantify kind operand level) answer count = nodes_line_is_one line count
answer_line_is_one line (Restrict operand level value) answer count = nodes_line_is_one line count
answer_line_is_one line (Drop gone) answer count = dropped_line_is_one line
answer_line_is_one line (Same left right) answer count = truth_line_is_one line answer
answer_line_is_one line (Leq left right) answer count = truth_line_is_one line answer
answer_line_is_one line (Eval operand at) answer count = value_line_is_one line answer
answer_line_is_one line (Size operand) answer count = nodes_line_is_one line count

pub entry_line_is_one : (steps : List Planned) (line : LineEnd) (e : Entry) → whole_lines (entry_line steps line e) ≡ 1
entry_line_is_one steps line e = answer_line_is_one line.line (get_or steps line.shows no_step).step e.answer e.count

-- so many lines are so many
pub lines_are : (job : Job) (lines : List LineEnd) → whole_lines (flat_map (said_line job) lines) ≡ length lines
lines_are job [] = refl
lines_are job (line ∷ lines) =
    whole_lines-append (said_line job line) (flat_map (said_line job) lines)
    ∙ ap₂ (λ a b. a + b) (answer_line_is_one line.line (step_at job line.shows).step (answer_of job (step_at job line.shows).step) (count_of job line.shows (step_at job line.shows).step)) (lines_are job lines)
    ∙ one_more (length lines)
  where
    one_more : (n : ℕ) → 1 + n ≡ suc n
    one_more n = omega arith

-- where no more is acknowledged than lines that end before a step, no more steps stand behind what was said
pub said_below : (done : ℕ) (lines : List LineEnd) (bytes : List ℕ) (place bound : ℕ) → ended_before done lines ≤ place
    → (whole_lines bytes ≤ 1 + (place - ended_before done lines)) ⊎ (length lines ≤ place)
    → ((i : ℕ) → i < place → (get_or lines i no_line).last < bound) → said_count done lines bytes ≤ bound
said_below done lines bytes place bound begun few earlier = counted (acknowledged done lines bytes) few_acknowledged
  where
    few_acknowledged : acknowledged done lines bytes ≤ place
    few_acknowledged = by_none (whole_lines bytes == 0)
      where
        by_none : (b : Bool) → cond b 0 (ended_before done lines + min (whole_lines bytes - 1) (length lines - ended_before done lines)) ≤ place
        by_none true = omega arith
        by_none false = elim few [ inl x ↦ omega (arith, x, begun) | inr x ↦ omega (arith, x, begun) ]

    counted : (a : ℕ) → a ≤ place → cond (a == 0) 0 ((get_or lines (a - 1) no_line).last + 1) ≤ bound
    counted zero h = omega arith
    counted (suc a) h = let before : (get_or lines a no_line).last < bound = earlier a (omega (arith, h)) in step a before
      where
        step : (n : ℕ) → (get_or lines n no_line).last < bound → cond (suc n == 0) 0 ((get_or lines (suc n - 1) no_line).last + 1) ≤ bound
        step n x = subst (λ b. cond b 0 ((get_or lines (suc n - 1) no_line).last + 1) ≤ bound) (sym (not_none n))
            (subst (λ m. (get_or lines m no_line).last + 1 ≤ bound) (sym (one_less n)) (omega (arith, x)))
          where
            not_none : (m : ℕ) → (suc m == 0) ≡ false
            not_none m = search arith

            one_less : (m : ℕ) → suc m - 1 ≡ m
            one_less m = omega arith

-- with the banner and so many whole lines behind it, so many lines are acknowledged
pub acknowledged_least : (done : ℕ) (lines : List LineEnd) (bytes : List ℕ) (place : ℕ) → place ≤ length lines → 1 + (place - ended_before done lines) ≤ whole_lines bytes
    → place ≤ acknowledged done lines bytes
acknowledged_least done lines bytes place within feeds =
    subst (λ b. place ≤ cond b 0 (ended_before done lines + min (whole_lines bytes - 1) (length lines - ended_before done lines))) (sym (some (whole_lines bytes) feeds)) (omega arith)
  where
    some : (n : ℕ) → 1 + (place - ended_before done lines) ≤ n → (n == 0) ≡ false
    some n h = let above : 0 < n = omega (arith, h) in search (arith, above)
