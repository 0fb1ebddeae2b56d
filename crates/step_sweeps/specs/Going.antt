-- How far a step has come when one of the calls goes on with it, and what going on from a checkpoint costs.
use Rattle.std.specs.Prelude.{ℕ, ◌+◌, ◌*◌, ◌/◌, ◌^◌, ◌≤◌, Option, Some, None}
use Rattle.file_numbers.specs.Files.{inner_part}
use Rattle.sweep_core.specs.declared.checkpoint.Checkpoint.{Checkpoint}
use Rattle.sweep_core.specs.Tables.{records_named}
use Rattle.sweep_checkpoint.specs.declared.going.Going.{Going}
use Rattle.step_going.specs.Found.{IsGoingOf}

-- nothing was done of the step, or its last checkpoint keeps the rules, and says how far it has come; and a checkpoint
-- is due after no fewer turns than the least room has records
pub record MayGoOn (going : Going) : Type 0 where
  pub going_of : IsGoingOf going.step going.budget going
  pub budget : 16384 ≤ going.budget

-- the part number from which on none was taken
abbrev pub next_of : Option Checkpoint → ℕ
next_of None = inner_part
next_of (Some c) = c.next_part

-- what it costs to go on from a checkpoint, in calls of the folder: 2^20, one for eight nodes of the operands, 64 for
-- each record of its runs, and 396 for parts that turns before it paid for; a step that begins anew pays nothing
abbrev pub rest_calls : Option Checkpoint → ℕ → ℕ
rest_calls None nodes = 0
rest_calls (Some c) nodes = 2 ^ 20 + 396 + nodes / 8 + 64 * records_named c
