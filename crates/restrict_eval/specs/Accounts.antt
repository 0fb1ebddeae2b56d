-- What a sweep that only reads changes and owes: nothing.
use Rattle.run_tiers.specs.declared.parts.Parts.{Parts}
use Rattle.sweep_core.specs.Accounts.{Accounts}

-- it makes no file, takes none of its parts, and has nothing paid for
abbrev pub reading_accounts : {P : Type 0} → (P → Parts) → Accounts P
reading_accounts parts_of = record {
  makes = λ s f. ⊥;
  step = λ s. (parts_of s).step;
  next = λ s. (parts_of s).next;
  credit = λ s. 0;
  stock = λ s. 0;
}
