-- What a turn of a sweep with an answer does.
use Rattle.std.specs.Prelude.{◌≡◌, ℕ, Bool, IsTrue, Result, Option, None, OnOk, IfOk, IfErr, IsSome}
use Rattle.shelf_model.specs.declared.sort_fault.SortFault.{SortFault}
use Rattle.shelf_model.specs.Faults.{Faults}
use Rattle.shelf_model.specs.World.{World}
use Rattle.run_tiers.specs.declared.parts.Parts.{Parts}
use Rattle.sweep_core.specs.Accounts.{Leaves}
use Rattle.sweep_core.specs.Sweeps.{Falls, IsNoDamage}
use Rattle.sweep_core.specs.declared.turn.Turn.{Turn}
use Rattle.sweep_core.specs.declared.turn.Turn.TheVariants.{More, Ended}
use Rattle.restrict_eval.specs.Accounts.{reading_accounts}

-- what is seen of the sweeps of a kind
pub record Kind (P : Type 0) : Type 1 where
  pub Job : Type 0
  pub remains : P → World → Job → Type 0
  pub fuel : P → ℕ
  pub answer : P → Option Bool
  pub ready : P → Type 0
  pub in_step : P → World → Type 0
  pub trusts : P → World → Type 0
  pub damaged : P → World → SortFault → Type 0
  pub refuses : P → SortFault → Type 0
  pub parts : P → Parts
  -- what no turn changes
  pub Task : Type 0
  pub task : P → Task

-- what a turn answers tells whether the sweep's answer is known
abbrev pub AnswersAtEnd : Turn → Option Bool → Type 0
AnswersAtEnd More answer = answer ≡ None
AnswersAtEnd Ended answer = IsSome answer

-- what a turn does, leaves and costs, and why it is refused
pub record Turns {S P : Type 0} (kind : Kind P) (tells : S → Bool) (world : S → World) (counts : S → Faults)
    (before after : S) (old new : P) (result : Result Turn SortFault) : Type 0 where
  pub ready : OnOk result (kind.ready new)
  pub in_step : OnOk result (IsTrue (tells after) → kind.in_step new (world after))
  pub trusts : OnOk result (IsTrue (tells after) → kind.trusts old (world before) → kind.trusts new (world after))
  pub falls : Falls (kind.fuel old) (kind.fuel new) result
  pub ends : IfOk result (λ turn. AnswersAtEnd turn (kind.answer new))
  pub keeps : OnOk result (IsTrue (tells after) → (d : kind.Job) → kind.remains old (world before) d →
      kind.remains new (world after) d)
  pub undamaged : IfErr result (λ e. IsTrue (tells after) → (d : kind.Job) → kind.remains old (world before) d →
      IsNoDamage e)
  pub damage : IfErr result (λ e. IsTrue (tells after) → kind.trusts old (world before) →
      kind.damaged new (world after) e)
  pub refused : IfErr result (kind.refuses old)
  pub leaves : Leaves tells world counts (reading_accounts kind.parts) 1 0 before after old new result
  pub same : kind.task new ≡ kind.task old
