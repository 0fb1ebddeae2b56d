-- How many asks wait, and which was taken last, by the answer of a call of the queue.
use Rattle.std.proofs.Common.{◌≡◌, ℕ, ◌+◌, ◌∙◌}
use Rattle.std.specs.Prelude.{Option, Some, None, Result, Ok, Err, OnOk}
use Rattle.shelf_model.specs.declared.sort_fault.SortFault.{SortFault}
use Rattle.run_merge.specs.Lists.{CountStays, CountsUp, AnswersShown}
use Rattle.level_queue.specs.Queues.{Reaches}
use Rattle.tuple_asks.specs.declared.ask.Ask.{Ask}

-- as many wait as before
pub as_many : (old new : ℕ) (result : Result (Option Ask) SortFault) → CountStays old new result
    → OnOk result (new ≡ old)
as_many old new (Ok (Some a)) count = count.1
as_many old new (Ok None) count = count.1
as_many old new (Err e) count = tt

-- one more waits
pub one_more : (old new : ℕ) (result : Result Unit SortFault) → CountsUp old new result → OnOk result (new ≡ old + 1)
one_more old new (Ok u) count = count
one_more old new (Err e) count = tt

-- the first one was taken last
pub taken_last : (old new first found : Option Ask) (a : Ask) → first ≡ Some a → AnswersShown first (Ok found)
    → Reaches old new (Ok found) → new ≡ Some a
taken_last old new None found a is again last = absurd (cc)
taken_last old new (Some b) None a is again last = absurd (cc)
taken_last old new (Some b) (Some x) a is again last = let same : Some x ≡ Some a = cc in last ∙ same
