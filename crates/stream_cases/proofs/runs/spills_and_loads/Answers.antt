use Rattle.std.proofs.Common.{◌≡◌, ℕ, [], length, replicate, sym, ◌∙◌, arith}
use Rattle.std.proofs.lemmas.List.{get_or-replicate, length-replicate}
use Rattle.std.proofs.lemmas.List.Elements.{All-replicate}
use Rattle.rec_words.specs.declared.rec.Rec.{Rec}
use Rattle.rec_words.specs.Records.{IsRec}
use Rattle.run_files.specs.Items.{IsItem, Descends, is_less, record_at}
use Rattle.run_files.proofs.OutLaws.{head_anywhere}
use Rattle.run_files.proofs.RecordOrder.{record_order, not_itself}
use Rattle.stream_cases.proofs.runs.spills_and_loads.Goals as goal

-- equal records descend
equal_descend : (n : ℕ) (r : Rec) → Descends (replicate n r)
equal_descend n r i j order within =
    let d : Rec = record { w = [] } in
    let long : length (replicate n r) ≡ n = length-replicate n r in
    let here : record_at (replicate n r) i ≡ r = get_or-replicate n i r d (omega (arith, order, within, long)) in
    let there : record_at (replicate n r) j ≡ r = get_or-replicate n j r d (omega (arith, within, long)) in
    (λ k. is_less (here k) (there k)) ∙ not_itself is_less record_order r

pub spill-requires-clause-values : goal.spill-requires-clause-values
spill-requires-clause-values c =
    All-replicate (IsItem IsRec (λ (r : Rec). r.w)) 40 c.to_rec-item.result (c.keyed.result, c.to_rec-item.ensures.value, sym c.to_rec-item.ensures.words)

pub spill-requires-clause-descends : goal.spill-requires-clause-descends
spill-requires-clause-descends c = equal_descend 40 c.to_rec-item.result

pub load_head-requires-clause-is : goal.load_head-requires-clause-is
load_head-requires-clause-is c = head_anywhere IsRec (λ (r : Rec). r.w) c.in_ok-head.head c.in_ok-head.ensures.is _
