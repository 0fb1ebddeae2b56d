use Rattle.rec_words.specs.Records.{IsRec}
use Rattle.run_merge.specs.Sorters.{HoldsValues}
use Rattle.sorter_cases.proofs.tables.take_all.Given as goal

-- the items are records
abbrev pub invariant-loop-item : goal.invariant-loop-item
invariant-loop-item g l = HoldsValues IsRec (λ r. r.w) l.sorter
