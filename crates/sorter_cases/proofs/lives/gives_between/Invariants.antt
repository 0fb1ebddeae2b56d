use Rattle.rec_words.specs.Records.{IsRec}
use Rattle.run_tiers.specs.declared.parts.Parts.{Parts}
use Rattle.run_merge.specs.Sorters.{HoldsValues, Serves}
use Rattle.sorter_cases.proofs.lives.gives_between.Given as goal

-- the items are records, and what could serve the sorter still can
abbrev pub invariant-loop-key : goal.invariant-loop-key
invariant-loop-key g l = record {
  values : HoldsValues IsRec (λ r. r.w) l.sorter;
  serves : (p : Parts) → Serves p l.fn.sorter → Serves p l.sorter;
}
