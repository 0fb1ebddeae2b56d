-- What turns and saves take, in parts of the step and in calls of the folder.
use Rattle.std.proofs.Common.{◌≡◌, ◌⊎◌, ℕ, suc, ◌+◌, ◌-◌, ◌*◌, ◌≤◌, min, max, refl, sym, ap, subst, ◌∙◌, inl, inr, arith, mul-suc, mul-zero}
use Rattle.std.specs.Prelude.{Result, Ok, Err, OnOk, OnErr, IsErrAnd, Option, Some, None}
use Rattle.shelf_model.specs.World.{World}
use Rattle.run_tiers.specs.Parts.{Paid}
use Rattle.sweep_core.specs.declared.checkpoint.Checkpoint.{Checkpoint}
use Rattle.sweep_core.specs.Accounts.{Accounts}
use Rattle.sweep_checkpoint.specs.Retires.{first_taken}
use Rattle.sweep_checkpoint.specs.declared.going.Going.{Going}
use Rattle.sweep_checkpoint.specs.Going.{IsPaid, IsPaidTo, interval_of, first_owed, TakesParts, TakesCalls, WasNotSaved, WasSaved}

-- a sweep that was made sure was saved, and runs behind the last checkpoint were cut
pub save_calls : {P : Type 0} (accounts : Accounts P) (part last first : ℕ) (old sure saved new : World) (p q : P) → part ≡ accounts.next q → last ≡ first
    → Paid 65536 (accounts.credit p) (accounts.credit q) old sure → saved.clock ≤ sure.clock + 14 → new.clock ≤ saved.clock + 576 + (part - last)
    → TakesCalls accounts 0 1 first old new p q
save_calls accounts part last first old sure saved new p q part_is last_is carried gated cut = record {
  paid = let cuts : part - last ≡ accounts.next q - first = λ i. part_is i - last_is i in omega (arith, carried, gated, cut, cuts);
}

-- no more turns than these since the first moment, and saves, each of which shows an interval of turns more; what they took
-- of the parts; and what of the calls, which cut no part that was taken since the last save
pub record SpentOn {P : Type 0} (accounts : Accounts P) (interval from first turns : ℕ) (going : Going) (told : Type 0) (before after : World) (old new : P) : Type 0 where
  pub saves : ℕ
  pub spaced : interval * saves + first ≤ going.shown
  pub takes : TakesParts accounts turns saves old new
  pub owed : from ≤ first_taken going.last
  pub calls : told → Paid (224 * turns + 66126 * saves + (min (first_taken going.last) (max 5 (accounts.next new)) - from))
      (accounts.credit old) (accounts.credit new) before after

-- what is paid for by two numbers of calls, one after the other
paid_then : (m n k first mid last : ℕ) → mid ≤ first + m → last ≤ mid + n → m + n ≤ k → last ≤ first + k
paid_then m n k first mid last one two both = omega (arith, one, two, both)

-- one save more cuts no part twice: those of before are below the last checkpoint's next part, and it cuts from there on
cuts_then : (from last now later last_then : ℕ) → from ≤ last → now ≤ later → last_then ≡ max 5 later
    → (min last (max 5 now) - from) + (later - last) ≤ min last_then (max 5 later) - from
cuts_then from last now later last_then owed grew then = omega arith

-- as parts are taken, the bound on the cuts doesn't fall
cuts_grow : (from last now later : ℕ) → now ≤ later → min last (max 5 now) - from ≤ min last (max 5 later) - from
cuts_grow from last now later grew = omega arith

-- what was cut is no more than what was taken
cuts_few : (from last now : ℕ) → 5 ≤ from → min last (max 5 now) - from ≤ now - from
cuts_few from last now late = omega arith

-- the first part that is owed for is none of the arcs, and none that is taken later
pub owed_late : (last : Option Checkpoint) (next : ℕ) → 5 ≤ first_owed last next
owed_late None next = omega arith
owed_late (Some c) next = omega arith

pub owed_early : (last : Option Checkpoint) (next : ℕ) → first_owed last next ≤ max 5 next
owed_early last next = omega arith

-- and it is none that is owed for from a later part on
pub owed_then : (from : ℕ) (last : Option Checkpoint) (next later : ℕ) → from ≤ first_taken last → from ≤ max 5 next → next ≤ later → from ≤ first_owed last later
owed_then from last next later owed early more = omega (arith, owed, early, more)

-- a save is owed for from no earlier part on
pub owed_save : {P : Type 0} (accounts : Accounts P) (old new : Going) (at end : World) (p q : P) (from : ℕ) → from ≤ max 5 (accounts.next q)
    → WasNotSaved accounts old new at end p q ⊎ WasSaved accounts old new p q → from ≤ first_taken old.last → from ≤ first_taken new.last
owed_save accounts old new at end p q from early (inl not) owed = subst (λ o. from ≤ first_taken o) (sym not.last_is) owed
owed_save accounts old new at end p q from early (inr saved) owed =
    let last : first_taken new.last ≡ max 5 (accounts.next q) = ap first_taken saved.last_is ∙ ap (max 5) saved.part_is in
    omega (arith, last, early)

-- what holds anyway holds after a refusal
on_refusal : {T E X : Type 0} (result : Result T E) → X → OnErr result X
on_refusal (Ok x) holds = tt
on_refusal (Err e) holds = holds

-- and after a success
on_success : {T E X : Type 0} (result : Result T E) → X → OnOk result X
on_success (Ok x) holds = holds
on_success (Err e) holds = tt

-- of a refusal, nothing is said that is said of a success
no_success : {T E : Type 0} (result : Result T E) (e : E) (X : Type 0) → IsErrAnd result (λ x. x ≡ e) → OnOk result X
no_success (Ok x) e X is = absurd is
no_success (Err x) e X is = tt

module _ {P : Type 0} (accounts : Accounts P) (interval from first : ℕ) where
  -- before the first turn
  pub spent_none : (turns : ℕ) (going : Going) (told : Type 0) (w : World) (p : P) → first ≡ going.shown → from ≡ first_owed going.last (accounts.next p)
      → SpentOn accounts interval from first turns going told w w p p
  spent_none turns going told w p first_is from_is = record {
    saves = 0;
    spaced = let zero_is : interval * 0 ≡ 0 = mul-zero interval in omega (arith, zero_is, first_is);
    takes = record { spent = omega arith };
    owed = omega (arith, from_is);
    calls = λ _. omega (arith, from_is);
  }

  -- once it was looked whether a save is due
  pub spent_save : (turns : ℕ) (mid new : Going) (told_mid told : Type 0) (start at end : World) (p q r : P)
      → interval_of mid.budget ≡ interval → from ≤ max 5 (accounts.next p) → accounts.next p ≤ accounts.next q → accounts.next q ≤ accounts.next r → (told → told_mid)
      → SpentOn accounts interval from first turns mid told_mid start at p q
      → WasNotSaved accounts mid new at end q r ⊎ WasSaved accounts mid new q r → (told → TakesCalls accounts 0 1 (first_taken mid.last) at end q r)
      → SpentOn accounts interval from first turns new told start end p r
  spent_save turns mid new told_mid told start at end p q r every early one two before s (inl not) costs = record {
    saves = s.saves;
    spaced = let spaced = s.spaced in let same = not.shown_is in omega (arith, spaced, same);
    takes = record { spent = let spent = s.takes.spent in let next = not.next_is in let stock = not.stock_is in omega (arith, spent, next, stock) };
    owed = subst (λ o. from ≤ first_taken o) (sym not.last_is) s.owed;
    calls = λ is.
        let last : first_taken new.last ≡ first_taken mid.last = ap first_taken not.last_is in
        let grown : min (first_taken new.last) (max 5 (accounts.next q)) - from ≤ min (first_taken new.last) (max 5 (accounts.next r)) - from =
        cuts_grow from (first_taken new.last) (accounts.next q) (accounts.next r) two in
        let here : min (first_taken new.last) (max 5 (accounts.next q)) - from ≡ min (first_taken mid.last) (max 5 (accounts.next q)) - from = ap (λ n. min n (max 5 (accounts.next q)) - from) last in
        paid_then _ _ _ _ _ _ (s.calls (before is)) not.calls (omega (arith, grown, here));
  }
  spent_save turns mid new told_mid told start at end p q r every early one two before s (inr saved) costs =
      let last : first_taken new.last ≡ max 5 (accounts.next r) = ap first_taken saved.last_is ∙ ap (max 5) saved.part_is in
      record {
        saves = suc s.saves;
        spaced =
            let spaced = s.spaced in
            let due : mid.shown + interval ≤ mid.turns = subst (λ n. mid.shown + n ≤ mid.turns) every saved.due in
            let shown : new.shown ≡ mid.turns = saved.shown_is in
            let more : interval * suc s.saves ≡ interval * s.saves + interval = mul-suc interval s.saves in
            omega (arith, spaced, due, shown, more);
        takes = record { spent = let spent = s.takes.spent in let now = saved.takes.spent in omega (arith, spent, now, one, two) };
        owed = omega (arith, last, early, one, two);
        calls = λ is. paid_then _ _ _ _ _ _ (s.calls (before is)) ((costs is).paid)
            (let cuts = cuts_then from (first_taken mid.last) (accounts.next q) (accounts.next r) (first_taken new.last) s.owed two last in omega (arith, cuts));
      }

  -- once turns were made
  pub spent_turns : (turns made later : ℕ) (mid new : Going) (told_mid told : Type 0) (start at end : World) (p q r : P)
      → turns + made ≤ later → new.shown ≡ mid.shown → new.last ≡ mid.last → accounts.next p ≤ accounts.next q → accounts.next q ≤ accounts.next r
      → 256 * (accounts.next r - accounts.next q) + accounts.stock r ≤ accounts.stock q + 12 * made
      → (told → told_mid) → (told → Paid (224 * made) (accounts.credit q) (accounts.credit r) at end)
      → SpentOn accounts interval from first turns mid told_mid start at p q → SpentOn accounts interval from first later new told start end p r
  spent_turns turns made later mid new told_mid told start at end p q r counted shown last one two costs before calls s = record {
    saves = s.saves;
    spaced = let spaced = s.spaced in omega (arith, spaced, shown);
    takes = record { spent = let spent = s.takes.spent in omega (arith, spent, costs, counted, one, two) };
    owed = subst (λ o. from ≤ first_taken o) (sym last) s.owed;
    calls = λ is.
        let grown : min (first_taken mid.last) (max 5 (accounts.next q)) - from ≤ min (first_taken mid.last) (max 5 (accounts.next r)) - from =
        cuts_grow from (first_taken mid.last) (accounts.next q) (accounts.next r) two in
        let here : min (first_taken new.last) (max 5 (accounts.next r)) - from ≡ min (first_taken mid.last) (max 5 (accounts.next r)) - from = ap (λ o. min (first_taken o) (max 5 (accounts.next r)) - from) last in
        paid_then _ _ _ _ _ _ (s.calls (before is)) (calls is) (omega (arith, grown, here, counted));
  }

  -- what the turns and saves took, once the sweep has ended
  pub spent_saves : (turns : ℕ) (going : Going) (told : Type 0) (start end : World) (p q : P) → 5 ≤ from → SpentOn accounts interval from first turns going told start end p q
      → (saves : ℕ) × (interval * saves + first ≤ going.shown) × TakesParts accounts turns saves p q × (told → TakesCalls accounts turns saves from start end p q)
  spent_saves turns going told start end p q late s = (
    s.saves,
    s.spaced,
    s.takes,
    λ is. record { paid = let calls = s.calls is in let few = cuts_few from (first_taken going.last) (accounts.next q) late in omega (arith, calls, few) },
  )

  -- what they took of the calls, with no more turns than these and a save that was refused
  pub calls_save : (turns later : ℕ) (mid : Going) (told_mid told : Type 0) (start at end : World) (p q r : P)
      → 5 ≤ from → turns ≤ later → accounts.next q ≤ accounts.next r → (told → told_mid)
      → (s : SpentOn accounts interval from first turns mid told_mid start at p q) → (told → TakesCalls accounts 0 1 (first_taken mid.last) at end q r)
      → told → TakesCalls accounts later (s.saves + 1) from start end p r
  calls_save turns later mid told_mid told start at end p q r late less two before s costs is = record {
    paid =
        let cuts = cuts_then from (first_taken mid.last) (accounts.next q) (accounts.next r) (max 5 (accounts.next r)) s.owed two refl in
        let rest = cuts_few from (max 5 (accounts.next r)) (accounts.next r) late in
        paid_then _ _ _ _ _ _ (s.calls (before is)) ((costs is).paid) (omega (arith, cuts, rest, less));
  }

  -- and with turns behind them
  pub calls_turns : (turns made later : ℕ) (mid : Going) (told_mid told : Type 0) (start at end : World) (p q r : P)
      → 5 ≤ from → turns + made ≤ later → accounts.next q ≤ accounts.next r → (told → told_mid)
      → (s : SpentOn accounts interval from first turns mid told_mid start at p q) → (told → Paid (224 * made) (accounts.credit q) (accounts.credit r) at end)
      → told → TakesCalls accounts later s.saves from start end p r
  calls_turns turns made later mid told_mid told start at end p q r late less two before s calls is = record {
    paid =
        let grown : min (first_taken mid.last) (max 5 (accounts.next q)) - from ≤ min (first_taken mid.last) (max 5 (accounts.next r)) - from =
        cuts_grow from (first_taken mid.last) (accounts.next q) (accounts.next r) two in
        let rest = cuts_few from (first_taken mid.last) (accounts.next r) late in
        paid_then _ _ _ _ _ _ (s.calls (before is)) (calls is) (omega (arith, grown, rest, less));
  }

  -- no more turns than these were made, and with one save more than there were the calls are known
  abbrev SpentAnyway : ℕ → Going → Type 0 → World → World → P → P → Type 0
  SpentAnyway turns going told start end p q = (saves : ℕ) × (interval * saves + first ≤ going.shown) × (told → TakesCalls accounts turns (saves + 1) from start end p q)

  -- where a save was refused
  pub refused_save : {T E : Type 0} (result : Result T E) (turns later : ℕ) (mid new : Going) (told_mid told few : Type 0) (start at end : World) (p q r : P)
      → 5 ≤ from → turns ≤ later → new.shown ≡ mid.shown → accounts.next q ≤ accounts.next r → (told → told_mid)
      → (few → SpentOn accounts interval from first turns mid told_mid start at p q) → (told → TakesCalls accounts 0 1 (first_taken mid.last) at end q r)
      → OnErr result (few → SpentAnyway later new told start end p r)
  refused_save result turns later mid new told_mid told few start at end p q r late less shown two before so_far costs = on_refusal result (λ is_few.
      let s = so_far is_few in (
        s.saves,
        let spaced = s.spaced in omega (arith, spaced, shown),
        calls_save turns later mid told_mid told start at end p q r late less two before s costs,
      ))

  -- where a turn was refused
  pub refused_turns : {T E : Type 0} (result : Result T E) (turns made later : ℕ) (mid new : Going) (told_mid told few : Type 0) (start at end : World) (p q r : P)
      → 5 ≤ from → turns + made ≤ later → new.shown ≡ mid.shown → accounts.next q ≤ accounts.next r → (told → told_mid)
      → (few → SpentOn accounts interval from first turns mid told_mid start at p q) → (told → Paid (224 * made) (accounts.credit q) (accounts.credit r) at end)
      → OnErr result (few → SpentAnyway later new told start end p r)
  refused_turns result turns made later mid new told_mid told few start at end p q r late less shown two before so_far calls = on_refusal result (λ is_few.
      let s = so_far is_few in (
        s.saves,
        let spaced = s.spaced in omega (arith, spaced, shown),
        λ is. record { paid = let paid = (calls_turns turns made later mid told_mid told start at end p q r late less two before s calls is).paid in omega (arith, paid) },
      ))

  -- no more turns than these were made, of which no more than a number are shown, and with saves that were refused the calls are known;
  -- after a success so many turns are shown as its saves are apart
  abbrev pub Known : {T E : Type 0} → Result T E → ℕ → ℕ → Going → World → World → P → P → Type 0
  Known result most turns going start end p q = (saves : ℕ) × (interval * saves + first ≤ max first most) × TakesParts accounts turns saves p q × TakesCalls accounts turns saves from start end p q
      × OnOk result (interval * saves + first ≤ going.shown)

  -- where a save was refused, that was due
  pub known_save : {T E : Type 0} (result : Result T E) (e : E) (most turns later : ℕ) (mid new : Going) (told_mid told : Type 0) (start at end : World) (p q r : P) → IsErrAnd result (λ x. x ≡ e)
      → 5 ≤ from → turns ≤ later → accounts.next p ≤ accounts.next q → accounts.next q ≤ accounts.next r → (told → told_mid) → mid.turns ≤ most → mid.shown + interval_of mid.budget ≤ mid.turns → interval_of mid.budget ≡ interval
      → SpentOn accounts interval from first turns mid told_mid start at p q → TakesParts accounts 0 1 q r → (told → TakesCalls accounts 0 1 (first_taken mid.last) at end q r) → told → Known result most later new start end p r
  known_save result e most turns later mid new told_mid told start at end p q r refused late less one two before few due every s parts costs is = (
    s.saves + 1,
    let spaced = s.spaced in
        let more : interval * suc s.saves ≡ interval * s.saves + interval = mul-suc interval s.saves in
        omega (arith, spaced, more, due, few, every),
    record { spent = let spent = s.takes.spent in let now = parts.spent in omega (arith, spent, now, one, two, less) },
    calls_save turns later mid told_mid told start at end p q r late less two before s costs is,
    no_success result e _ refused,
  )

  -- once turns were made, or one was refused
  pub known_turns : {T E : Type 0} (result : Result T E) (most turns made later : ℕ) (mid new : Going) (told_mid told : Type 0) (start at end : World) (p q r : P)
      → 5 ≤ from → turns + made ≤ later → new.shown ≡ mid.shown → accounts.next p ≤ accounts.next q → accounts.next q ≤ accounts.next r → (told → told_mid) → mid.shown ≤ max first most
      → SpentOn accounts interval from first turns mid told_mid start at p q → 256 * (accounts.next r - accounts.next q) + accounts.stock r ≤ accounts.stock q + 12 * made
      → (told → Paid (224 * made) (accounts.credit q) (accounts.credit r) at end) → told → Known result most later new start end p r
  known_turns result most turns made later mid new told_mid told start at end p q r late less shown one two before few s costs calls is = (
    s.saves,
    let spaced = s.spaced in omega (arith, spaced, few),
    record { spent = let spent = s.takes.spent in omega (arith, spent, costs, one, two, less) },
    calls_turns turns made later mid told_mid told start at end p q r late less two before s calls is,
    let spaced = s.spaced in on_success result (omega (arith, spaced, shown)),
  )

-- what is shown is no more than what was made, once it was looked whether a save is due
pub saved_late : {P : Type 0} (accounts : Accounts P) (old new : Going) (at end : World) (p q : P) → new.turns ≡ old.turns → old.shown ≤ old.turns
    → WasNotSaved accounts old new at end p q ⊎ WasSaved accounts old new p q → new.shown ≤ new.turns
saved_late accounts old new at end p q turns late (inl not) = let shown = not.shown_is in omega (arith, turns, late, shown)
saved_late accounts old new at end p q turns late (inr saved) = let shown = saved.shown_is in omega (arith, turns, shown)

-- no more turns are shown than a number, and no more were made
pub saved_within : {P : Type 0} (accounts : Accounts P) (old new : Going) (at end : World) (p q : P) (first most : ℕ) → old.shown ≤ max first most → old.turns ≤ most
    → WasNotSaved accounts old new at end p q ⊎ WasSaved accounts old new p q → new.shown ≤ max first most
saved_within accounts old new at end p q first most few made (inl not) = let shown = not.shown_is in omega (arith, shown, few)
saved_within accounts old new at end p q first most few made (inr saved) = let shown = saved.shown_is in omega (arith, shown, made)

-- so what is shown grows
pub saved_more : {P : Type 0} (accounts : Accounts P) (old new : Going) (at end : World) (p q : P)
    → old.shown ≤ old.turns
    → WasNotSaved accounts old new at end p q ⊎ WasSaved accounts old new p q → old.shown ≤ new.shown
saved_more accounts old new at end p q late (inl not) = let shown = not.shown_is in omega (arith, shown)
saved_more accounts old new at end p q late (inr saved) = let shown = saved.shown_is in omega (arith, shown, late)

-- a checkpoint that is due has few part numbers for its turns
pub paid_point : {P : Type 0} (accounts : Accounts P) (going : Going) (c : Checkpoint) (p q : P) → IsPaidTo accounts going p → going.shown + interval_of going.budget ≤ going.turns
    → 256 * (accounts.next q - accounts.next p) + accounts.stock q ≤ accounts.stock p + 4608 → c.next_part ≡ accounts.next q → c.turns ≡ going.turns → IsPaid c
paid_point accounts going c p q few due spent part turns =
    let often = few.interval in
    let paid = few.paid in
    omega (arith, often, paid, due, spent, part, turns)

-- once it was looked whether a save is due, the next checkpoint is paid for
pub paid_save : {P : Type 0} (accounts : Accounts P) (old new : Going) (at end : World) (p q : P) → new.turns ≡ old.turns → new.budget ≡ old.budget → accounts.next p ≤ accounts.next q
    → WasNotSaved accounts old new at end p q ⊎ WasSaved accounts old new p q → IsPaidTo accounts old p → IsPaidTo accounts new q
paid_save accounts old new at end p q turns budget more (inl not) few = record {
  interval = subst (λ b. 16384 ≤ interval_of b) (sym budget) few.interval;
  shown = let shown = few.shown in let same = not.shown_is in omega (arith, shown, same, turns);
  paid = let paid = few.paid in let same = not.shown_is in let next = not.next_is in let stock = not.stock_is in omega (arith, paid, same, turns, next, stock);
}
paid_save accounts old new at end p q turns budget more (inr saved) few = record {
  interval = subst (λ b. 16384 ≤ interval_of b) (sym budget) few.interval;
  shown = let same = saved.shown_is in omega (arith, same, turns);
  paid =
      let often = few.interval in
      let paid = few.paid in
      let due = saved.due in
      let spent = saved.takes.spent in
      let same = saved.shown_is in
      omega (arith, often, paid, due, spent, same, turns, more);
}

-- and so it is once turns were made
pub paid_turns : {P : Type 0} (accounts : Accounts P) (made : ℕ) (old new : Going) (p q : P) → new.turns ≡ old.turns + made → new.shown ≡ old.shown → new.budget ≡ old.budget
    → accounts.next p ≤ accounts.next q → 256 * (accounts.next q - accounts.next p) + accounts.stock q ≤ accounts.stock p + 12 * made → IsPaidTo accounts old p → IsPaidTo accounts new q
paid_turns accounts made old new p q turns shown budget more spent few = record {
  interval = subst (λ b. 16384 ≤ interval_of b) (sym budget) few.interval;
  shown = let before = few.shown in omega (arith, before, turns, shown);
  paid = let before = few.shown in let paid = few.paid in omega (arith, before, paid, turns, shown, more, spent);
}
