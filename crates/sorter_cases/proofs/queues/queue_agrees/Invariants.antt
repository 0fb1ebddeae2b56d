use Rattle.rec_words.specs.Records.{IsRec}
use Rattle.level_queue.specs.Queues.{HoldsValues, Serves}
use Rattle.sorter_cases.proofs.queues.queue_agrees.Given as goal

-- the items are records, and the parts can serve the queue
abbrev pub invariant-loop-turn : goal.invariant-loop-turn
invariant-loop-turn g l = record { values : HoldsValues IsRec (λ r. r.w) l.queue; serves : Serves l.parts l.queue }
