-- What stays of a machine where a call says what else it leaves.
use Rattle.std.proofs.Common.{◌≡◌, ap}
use Rattle.level_queue.specs.Queues.{last_of}
use Rattle.top_down_sweep.specs.declared.machine.Machine.{Machine}

-- only the queue and the part numbers are other ones
module _ (p q : Machine) (rest : q ≡ record p { queue = q.queue; parts = q.parts }) where
  pub queued_operands : q.operands ≡ p.operands
  queued_operands = ap (λ (m : Machine). m.operands) rest

  pub queued_place : q.place ≡ p.place
  queued_place = ap (λ (m : Machine). m.place) rest

  pub queued_phase : q.place.phase ≡ p.place.phase
  queued_phase = ap (λ (m : Machine). m.place.phase) rest

-- only the writer is another one
module _ (p q : Machine) (rest : q ≡ record p { writer = q.writer }) where
  pub written_place : q.place ≡ p.place
  written_place = ap (λ (m : Machine). m.place) rest

  pub written_phase : q.place.phase ≡ p.place.phase
  written_phase = ap (λ (m : Machine). m.place.phase) rest

  pub written_last : last_of q.queue ≡ last_of p.queue
  written_last = ap (λ (m : Machine). last_of m.queue) rest

-- only the phase and the writer are other ones
module _ (p q : Machine)
    (rest : q ≡ record p { place = record p.place { phase = q.place.phase }; writer = q.writer }) where
  pub numbered_operands : q.operands ≡ p.operands
  numbered_operands = ap (λ (m : Machine). m.operands) rest

  pub numbered_queue : q.queue ≡ p.queue
  numbered_queue = ap (λ (m : Machine). m.queue) rest

  pub numbered_last : last_of q.queue ≡ last_of p.queue
  numbered_last = ap (λ (m : Machine). last_of m.queue) rest
