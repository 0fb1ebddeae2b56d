use Rattle.std.proofs.Common.{◌≡◌}
use Rattle.rec_words.specs.Records.{IsRec}
use Rattle.level_queue.specs.Queues.{HoldsValues, Serves}
use Rattle.sorter_cases.proofs.frozen_queues.turns_agree.Given as goal

-- the items are records, and the parts can serve the queue
abbrev pub invariant-loop-turn : goal.invariant-loop-turn
invariant-loop-turn g l = record {
  values : HoldsValues IsRec (λ r. r.w) l.queue;
  serves : Serves l.parts l.queue;
  step : l.parts.step ≡ l.fn.parts.step;
}
