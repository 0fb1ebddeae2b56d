-- Tables of a netlist's signals before a plan and behind it.
use Rattle.std.specs.Prelude.{◌≡◌, ℕ, Bool, false, List, replicate}

-- no step is noted for a signal, and none is wanted
pub record AreBlank (signals : ℕ) (made : List ℕ) (kept : List Bool) : Type 0 where
  pub none_made : made ≡ replicate signals 0
  pub none_kept : kept ≡ replicate signals false
