-- A call that does nothing.
use Rattle.std.proofs.Common.{ℕ, Bool, refl, arith}
use Rattle.std.specs.Prelude.{Ok}
use Rattle.shelf_model.specs.Faults.{Faults}
use Rattle.shelf_model.specs.World.{World}
use Rattle.sweep_core.proofs.Leaving.{leaves_none, leaves_more}
use Rattle.top_down_sweep.specs.declared.machine.Machine.{Machine}
use Rattle.top_down_sweep.specs.Calls.{Does}
use Rattle.top_down_sweep.specs.Sweeps.{machine_accounts}

-- it leaves all as it was, and costs no more than anything
pub does_none : {S T : Type 0} (tells : S → Bool) (world : S → World) (counts : S → Faults) (m a : ℕ) (s : S)
    (p : Machine) (x : T) → Does tells world counts m a s s p p (Ok x)
does_none tells world counts m a s p x = record {
  leaves = leaves_more tells world counts machine_accounts 0 m 0 a s s p p (Ok x) (omega arith) (omega arith)
      (leaves_none tells world counts machine_accounts s p x);
  same = record { files_are = refl; variables_are = refl };
  refused = tt;
}
