-- A sweep that begins in the next two parts of its step.
use Rattle.std.specs.Prelude.{◌≡◌, ◌≢◌, ◌↔◌, ℕ, ◌+◌, ◌^◌, ◌≤◌, Bool, IsTrue, Result, IsErrOf, IfErr, None}
use Rattle.shelf_model.specs.declared.sort_fault.SortFault.{SortFault}
use Rattle.shelf_model.specs.declared.sort_fault.SortFault.TheVariants.{RunsSpent}
use Rattle.shelf_model.specs.Calls.{Told}
use Rattle.shelf_model.specs.Faults.{Faults}
use Rattle.shelf_model.specs.World.{World}
use Rattle.run_tiers.specs.declared.parts.Parts.{Parts}
use Rattle.run_tiers.specs.Faults.{OnlySortShelf}
use Rattle.run_tiers.specs.Parts.{Spilled, Paid}
use Rattle.tuple_asks.specs.declared.files.Files.{Files}
use Rattle.top_down_sweep.specs.declared.beginning.OperandFiles.{OperandFiles}
use Rattle.top_down_sweep.specs.declared.sweep.TopDownSweep.{TopDownSweep}
use Rattle.top_down_sweep.specs.Sweeps.{files_of, parts_of, made_in, credit_of, stock_of, IsSound}
use Rattle.tuple_asks.specs.Operands.{IsStartDamage}
use Rattle.tuple_asks.specs.Damage.{IsStartFault}
use Rattle.top_down.specs.declared.tuple.Tuple.{Tuple}
use Rattle.top_down.specs.Rules.{Rule}
use Rattle.top_down_sweep.specs.Calls.{IsInStep, IsTrusted}

-- the part numbers behind the next two
abbrev pub after_two : Parts → Parts
after_two parts = record { step = parts.step; next = parts.next + 2 }

-- the operands, and the next two parts as the files of arcs
abbrev pub files_from : OperandFiles → Parts → Files
files_from operands parts = record {
  first = operands.first;
  second = operands.second;
  third = operands.third;
  inner = record { step = parts.step; part = parts.next };
  ends = record { step = parts.step; part = parts.next + 1 };
}

-- it is sound, and the files of arcs that it makes are two
pub record IsReady {O : Type 0} (s : TopDownSweep O) : Type 0 where
  pub sound : IsSound s
  pub two_files : (files_of s).inner ≢ (files_of s).ends

-- the sweep reads and makes those files and takes those parts from then on, nothing was made, and
-- at most eight calls were made or are paid for
pub record Begun {S O : Type 0} (rule : O → Rule) (begins : O → Tuple → Tuple) (tells : S → Bool) (world : S → World)
    (files : Files) (parts : Parts) (before after : S) (s : TopDownSweep O) : Type 0 where
  pub ready : IsReady s
  pub in_step : IsTrue (tells after) → IsInStep s (world after)
  pub trusts : IsTrue (tells after) → IsTrusted rule begins s (world after)
  pub files_are : files_of s ≡ files
  pub parts_are : parts_of s ≡ parts
  pub none_made : made_in s ≡ None
  pub stock_is : stock_of s ≡ 0
  pub calls : IsTrue (tells after) → Paid 8 0 (credit_of s) (world before) (world after)

-- only the files of the next two parts are changed; no part number is left for them, a call of the
-- folder failed, or an operand's file has no trailer for n variables where one had to stand
pub record Starts {S T : Type 0} (tells : S → Bool) (world : S → World) (counts : S → Faults)
    (n : ℕ) (files : Files) (parts : Parts) (before after : S) (result : Result T SortFault)
    : Type 0 where
  pub content : Told tells before after
      (Spilled parts (after_two parts) (world before) (world after))
  pub faults : OnlySortShelf (counts before) (counts after) result
  pub spent : IsErrOf result RunsSpent ↔ (2 ^ 32 ≤ parts.next + 1)
  pub refused : IfErr result (λ e. e ≢ RunsSpent → IsStartDamage files e)
  pub damage : IfErr result (λ e. e ≢ RunsSpent → IsTrue (tells after)
      → IsStartFault files n (world before) e)
