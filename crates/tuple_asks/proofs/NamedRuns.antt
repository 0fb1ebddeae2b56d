-- Which files are those of runs.
use Rattle.std.proofs.Common.{ℕ, ◌<◌, ◌≤◌, ◌∙◌, List, length, sym, subst, arith}
use Rattle.std.specs.Prelude.{get_or}
use Rattle.std.proofs.lemmas.List.{get_or_default}
use Rattle.shelf_model.specs.declared.file_no.FileNo.{FileNo}
use Rattle.run_tiers.specs.declared.run.Run.{Run}
use Rattle.run_tiers.specs.Tables.{no_run}
use Rattle.tuple_asks.specs.SavedRules.{IsOfRun, IsOfRuns}

-- that of none of them
pub none_named : (step : ℕ) (f : FileNo) (runs : List Run) (n : ℕ) → length runs ≤ n
    → ((k : ℕ) → k < n → IsOfRun step f (get_or runs k no_run) → ⊥) → ¬ IsOfRuns step runs f
none_named step f runs n all none (k, r, within, is, of) = none k (omega (arith, all, within))
    (subst (IsOfRun step f) (sym (get_or_default runs k no_run r within ∙ is)) of)
