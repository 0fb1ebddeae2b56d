-- The order of said lines.
use Rattle.std.proofs.Common.{◌≡◌, ◌∙◌, ℕ, zero, suc, ◌+◌, ◌<◌, ◌≤◌, min, Bool, true, false, ◌&&◌, nat_le, nat_lt, List, [], ◌∷◌, ◌++◌, length, get_or, take, drop, refl, sym, ap, ap₂, subst, arith}
use Rattle.std.specs.Prelude.{IsTrue, cond, filter}
use Rattle.std.specs.List.{list_all}
use Rattle.std.proofs.lemmas.Bool.{leb-true, ltb-true, le-leb, lt-ltb, le-ltb, lt-leb, and_from, and_parts}
use Rattle.std.proofs.lemmas.List.{drop_more, take_more, take-append-drop, length-take-le, length-take}
use Rattle.std.proofs.lemmas.List.Sums.{sum_by-cons, sum_by-append}
use Rattle.std.proofs.lemmas.List.Folds.{list_all-append}
use Rattle.script_reader.specs.declared.plan.LineEnd.{LineEnd}
use Rattle.script_reader.specs.Lines.{rise_from, shows_past}
use Rattle.script_runner.specs.Text.{ended_before, lines_from_step}

-- lines that rise from a step rise from an earlier one
pub rises_earlier : (from step : ℕ) (lines : List LineEnd) → from ≤ step → IsTrue (rise_from step lines) → IsTrue (rise_from from lines)
rises_earlier from step [] earlier rise = refl
rises_earlier from step (line ∷ lines) earlier rise =
    let up : step ≤ line.last = leb-true step line.last (and_parts (nat_le step line.last) (rise_from line.last lines) rise).0 in
    and_from (nat_le from line.last) (rise_from line.last lines) (le-leb from line.last (omega (arith, earlier, up)))
    (and_parts (nat_le step line.last) (rise_from line.last lines) rise).1

-- the lines behind the first ones rise too
pub rises_behind : (from : ℕ) (lines : List LineEnd) (i : ℕ) → IsTrue (rise_from from lines) → IsTrue (rise_from from (drop i lines))
rises_behind from lines zero rise = rise
rises_behind from [] (suc i) rise = rise
rises_behind from (line ∷ lines) (suc i) rise =
    rises_behind from lines i (rises_earlier from line.last lines (leb-true from line.last (and_parts (nat_le from line.last) (rise_from line.last lines) rise).0)
    (and_parts (nat_le from line.last) (rise_from line.last lines) rise).1)

-- they rise from a later step where the first of them does
pub rises_later : (from step : ℕ) (lines : List LineEnd) (i : ℕ) (d : LineEnd) → i < length lines → step ≤ (get_or lines i d).last
    → IsTrue (rise_from from (drop i lines)) → IsTrue (rise_from step (drop i lines))
rises_later from step lines i d within later rise =
    let front : IsTrue (rise_from from (get_or lines i d ∷ drop (i + 1) lines)) = subst (λ ys. IsTrue (rise_from from ys)) (drop_more lines i d within) rise in
    subst (λ ys. IsTrue (rise_from step ys)) (sym (drop_more lines i d within))
    (and_from (nat_le step (get_or lines i d).last) (rise_from (get_or lines i d).last (drop (i + 1) lines)) (le-leb step (get_or lines i d).last later)
    (and_parts (nat_le from (get_or lines i d).last) (rise_from (get_or lines i d).last (drop (i + 1) lines)) front).1)

-- one line more that comes before a step
pub front_more : (step : ℕ) (lines : List LineEnd) (i : ℕ) (d : LineEnd) → i < length lines → (get_or lines i d).last < step
    → IsTrue (list_all (λ (l : LineEnd). nat_lt l.last step) (take i lines)) → IsTrue (list_all (λ (l : LineEnd). nat_lt l.last step) (take (i + 1) lines))
front_more step lines i d within before front =
    let test : LineEnd → Bool = λ l. nat_lt l.last step in
    subst (λ ys. IsTrue (list_all test ys)) (sym (take_more lines i d within))
    (subst IsTrue (sym (list_all-append test (take i lines) (get_or lines i d ∷ [])))
    (and_from (list_all test (take i lines)) (test (get_or lines i d) && true) front
    (and_from (test (get_or lines i d)) true (lt-ltb (get_or lines i d).last step before) refl)))

-- of lines that rise from a step none comes before it
pub none_before : (step : ℕ) (lines : List LineEnd) → IsTrue (rise_from step lines) → (ended_before step lines ≡ 0) × (lines_from_step step lines ≡ lines)
none_before step [] rise = (refl, refl)
none_before step (line ∷ lines) rise =
    let up : step ≤ line.last = leb-true step line.last (and_parts (nat_le step line.last) (rise_from line.last lines) rise).0 in
    let further : (ended_before step lines ≡ 0) × (lines_from_step step lines ≡ lines) =
    none_before step lines (rises_earlier step line.last lines up (and_parts (nat_le step line.last) (rise_from line.last lines) rise).1) in (
      sum_by-cons (λ (l : LineEnd). cond (nat_lt l.last step) 1 0) line lines
          ∙ ap₂ (λ a b. a + b) (ap (λ b. cond b 1 0) (le-ltb line.last step up)) further.0,
      ap (λ b. cond b (line ∷ lines_from_step step lines) (lines_from_step step lines)) (le-leb step line.last up) ∙ ap (λ ls. line ∷ ls) further.1,
    )

-- and of lines that all come before a step none comes later
all_before : (step : ℕ) (lines : List LineEnd) → IsTrue (list_all (λ (l : LineEnd). nat_lt l.last step) lines)
    → (ended_before step lines ≡ length lines) × (lines_from_step step lines ≡ [])
all_before step [] all = (refl, refl)
all_before step (line ∷ lines) all =
    let test : LineEnd → Bool = λ l. nat_lt l.last step in
    let here : IsTrue (nat_lt line.last step) = (and_parts (nat_lt line.last step) (list_all test lines) all).0 in
    let further : (ended_before step lines ≡ length lines) × (lines_from_step step lines ≡ []) =
    all_before step lines (and_parts (nat_lt line.last step) (list_all test lines) all).1 in (
      sum_by-cons (λ (l : LineEnd). cond (nat_lt l.last step) 1 0) line lines
          ∙ ap₂ (λ a b. a + b) (ap (λ b. cond b 1 0) here) further.0 ∙ one_more (length lines),
      ap (λ b. cond b (line ∷ lines_from_step step lines) (lines_from_step step lines)) (lt-leb step line.last (ltb-true line.last step here)) ∙ further.1,
    )
  where
    one_more : (n : ℕ) → 1 + n ≡ suc n
    one_more n = omega arith

filter-append : (p : LineEnd → Bool) (xs ys : List LineEnd) → filter p (xs ++ ys) ≡ filter p xs ++ filter p ys
filter-append p [] ys = refl
filter-append p (x ∷ xs) ys = by_head (p x) (filter-append p xs ys)
  where
    by_head : (b : Bool) → filter p (xs ++ ys) ≡ filter p xs ++ filter p ys
        → cond b (x ∷ filter p (xs ++ ys)) (filter p (xs ++ ys)) ≡ cond b (x ∷ filter p xs) (filter p xs) ++ filter p ys
    by_head true e = ap (λ ls. x ∷ ls) e
    by_head false e = e

-- how many lines come before a step, and which don't, from the first that doesn't
pub ended_is : (step : ℕ) (lines : List LineEnd) (count : ℕ) → count ≤ length lines → IsTrue (list_all (λ (l : LineEnd). nat_lt l.last step) (take count lines))
    → IsTrue (rise_from step (drop count lines)) → (ended_before step lines ≡ count) × (lines_from_step step lines ≡ drop count lines)
ended_is step lines count within front rest =
    let parts : take count lines ++ drop count lines ≡ lines = take-append-drop count lines in
    let first : (ended_before step (take count lines) ≡ length (take count lines)) × (lines_from_step step (take count lines) ≡ []) = all_before step (take count lines) front in
    let second : (ended_before step (drop count lines) ≡ 0) × (lines_from_step step (drop count lines) ≡ drop count lines) = none_before step (drop count lines) rest in
    let size : length (take count lines) ≡ count = length-take-le count lines within in (
      ap (ended_before step) (sym parts)
          ∙ sum_by-append (λ (l : LineEnd). cond (nat_lt l.last step) 1 0) (take count lines) (drop count lines)
          ∙ sums (ended_before step (take count lines)) (ended_before step (drop count lines)) count (first.0 ∙ size) second.0,
      ap (lines_from_step step) (sym parts)
          ∙ filter-append (λ (l : LineEnd). nat_le step l.last) (take count lines) (drop count lines)
          ∙ ap₂ (λ a b. a ++ b) first.1 second.1,
    )
  where
    sums : (a b c : ℕ) → a ≡ c → b ≡ 0 → a + b ≡ c
    sums a b c x y = omega (arith, x, y)

-- no line of a plan of so many steps comes behind them
pub none_left : (count : ℕ) (lines : List LineEnd) → IsTrue (rise_from count lines) → IsTrue (list_all (shows_past count) lines) → lines ≡ []
none_left count [] rise shown = refl
none_left count (line ∷ lines) rise shown =
    let up : count ≤ line.last = leb-true count line.last (and_parts (nat_le count line.last) (rise_from line.last lines) rise).0 in
    let here : IsTrue (shows_past count line) = (and_parts (shows_past count line) (list_all (shows_past count) lines) shown).0 in
    let below : line.last < count = ltb-true line.last count (and_parts (nat_le line.shows line.last) (nat_lt line.last count) here).1 in
    absurd (omega (arith, up, below))

-- lines that come before the step after a number show no step above it
pub shown_in_front : (count number : ℕ) (lines : List LineEnd) → IsTrue (list_all (shows_past count) lines) → IsTrue (list_all (λ (l : LineEnd). nat_lt l.last (number + 1)) lines)
    → IsTrue (list_all (λ (l : LineEnd). nat_le l.shows number) lines)
shown_in_front count number [] shown front = refl
shown_in_front count number (line ∷ lines) shown front =
    let here : IsTrue (shows_past count line) = (and_parts (shows_past count line) (list_all (shows_past count) lines) shown).0 in
    let up_to : line.shows ≤ line.last = leb-true line.shows line.last (and_parts (nat_le line.shows line.last) (nat_lt line.last count) here).0 in
    let before : line.last < number + 1 =
    ltb-true line.last (number + 1) (and_parts (nat_lt line.last (number + 1)) (list_all (λ (l : LineEnd). nat_lt l.last (number + 1)) lines) front).0 in
    and_from (nat_le line.shows number) (list_all (λ (l : LineEnd). nat_le l.shows number) lines) (le-leb line.shows number (omega (arith, up_to, before)))
    (shown_in_front count number lines (and_parts (shows_past count line) (list_all (shows_past count) lines) shown).1
    (and_parts (nat_lt line.last (number + 1)) (list_all (λ (l : LineEnd). nat_lt l.last (number + 1)) lines) front).1)

-- a front of lines passes a test that all pass
pub front_passes : (p : LineEnd → Bool) (lines : List LineEnd) (count : ℕ) → IsTrue (list_all p lines) → IsTrue (list_all p (take count lines))
front_passes p lines zero all = refl
front_passes p [] (suc count) all = refl
front_passes p (line ∷ lines) (suc count) all =
    and_from (p line) (list_all p (take count lines)) (and_parts (p line) (list_all p lines) all).0 (front_passes p lines count (and_parts (p line) (list_all p lines) all).1)

-- no fewer lines come before a later step
pub ended_rises : (a b : ℕ) (lines : List LineEnd) → a ≤ b → ended_before a lines ≤ ended_before b lines
ended_rises a b [] up = omega arith
ended_rises a b (line ∷ lines) up =
    let first : ended_before a (line ∷ lines) ≡ cond (nat_lt line.last a) 1 0 + ended_before a lines = sum_by-cons (λ (l : LineEnd). cond (nat_lt l.last a) 1 0) line lines in
    let second : ended_before b (line ∷ lines) ≡ cond (nat_lt line.last b) 1 0 + ended_before b lines = sum_by-cons (λ (l : LineEnd). cond (nat_lt l.last b) 1 0) line lines in
    let rest : ended_before a lines ≤ ended_before b lines = ended_rises a b lines up in
    let here : cond (nat_lt line.last a) 1 0 ≤ cond (nat_lt line.last b) 1 0 = by_test (nat_lt line.last a) refl in
    omega (arith, first, second, rest, here)
  where
    by_test : (t : Bool) → nat_lt line.last a ≡ t → cond t 1 0 ≤ cond (nat_lt line.last b) 1 0
    by_test true is =
        let below : line.last < a = ltb-true line.last a is in
        subst (λ u. 1 ≤ cond u 1 0) (sym (lt-ltb line.last b (omega (arith, below, up)))) (omega arith)
    by_test false is = omega arith

-- no more lines come before a step than stand before those that rise from it
pub ended_most : (step : ℕ) (lines : List LineEnd) (place : ℕ) → IsTrue (rise_from step (drop place lines)) → ended_before step lines ≤ place
ended_most step lines place rise =
    let both : ended_before step lines ≡ ended_before step (take place lines) + ended_before step (drop place lines) =
    ap (ended_before step) (sym (take-append-drop place lines)) ∙ sum_by-append (λ (l : LineEnd). cond (nat_lt l.last step) 1 0) (take place lines) (drop place lines) in
    let none : ended_before step (drop place lines) ≡ 0 = (none_before step (drop place lines) rise).0 in
    let few : ended_before step (take place lines) ≤ length (take place lines) = ended_few (take place lines) in
    let short : length (take place lines) ≡ min place (length lines) = length-take place lines in
    omega (arith, both, none, few, short)
  where
    ended_few : (ls : List LineEnd) → ended_before step ls ≤ length ls
    ended_few [] = omega arith
    ended_few (l ∷ ls) =
        let first : ended_before step (l ∷ ls) ≡ cond (nat_lt l.last step) 1 0 + ended_before step ls = sum_by-cons (λ (x : LineEnd). cond (nat_lt x.last step) 1 0) l ls in
        let rest : ended_before step ls ≤ length ls = ended_few ls in
        let one : cond (nat_lt l.last step) 1 0 ≤ 1 = by_bit (nat_lt l.last step) in
        more (length ls) (omega (arith, first, rest, one))
      where
        by_bit : (b : Bool) → cond b 1 0 ≤ 1
        by_bit true = omega arith
        by_bit false = omega arith

        more : (n : ℕ) → ended_before step (l ∷ ls) ≤ n + 1 → ended_before step (l ∷ ls) ≤ suc n
        more n h = omega (arith, h)
