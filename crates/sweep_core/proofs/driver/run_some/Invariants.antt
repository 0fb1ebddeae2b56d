use Rattle.std.proofs.Common.{◌≡◌, ◌<◌, IsTrue}
use Rattle.sweep_core.proofs.Counting.{TurnsMade}
use Rattle.sweep_core.proofs.driver.run_some.Given as goal

-- no turn ended the sweep so far, and what each turn keeps was kept
abbrev pub invariant-loop-turn : goal.invariant-loop-turn
invariant-loop-turn g l = record {
  ready : g.P.Sweep.ready l.sweep;
  in_step : IsTrue (g.S.Shelf.tells l.shelf) → g.P.Sweep.in_step l.sweep (g.S.Shelf.world l.shelf);
  trusts : IsTrue (g.S.Shelf.tells l.shelf) → g.P.Sweep.trusts l.fn.sweep (g.S.Shelf.world l.fn.shelf)
      → g.P.Sweep.trusts l.sweep (g.S.Shelf.world l.shelf);
  keeps : IsTrue (g.S.Shelf.tells l.shelf) → (job : g.P.Sweep.Job)
      → g.P.Sweep.remains l.fn.sweep (g.S.Shelf.world l.fn.shelf) job
      → g.P.Sweep.remains l.sweep (g.S.Shelf.world l.shelf) job;
  works : 0 < l.turn → 0 < g.P.Sweep.fuel l.sweep;
  same : g.P.Sweep.task l.sweep ≡ g.P.Sweep.task l.fn.sweep;
  so_far : TurnsMade g.P.Sweep g.S.Shelf l.turn l.fn.shelf l.shelf l.fn.sweep l.sweep;
}
