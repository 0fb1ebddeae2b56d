use Rattle.std.proofs.Common.{◌∙◌, ◌-◌, refl, ap, sym, subst, inl, inr, arith}
use Rattle.std.proofs.lemmas.Bool.{cases_eq}
use Rattle.run_files.specs.Items.{record_at}
use Rattle.packed_records.specs.Packed.{packed}
use Rattle.room_reduction.specs.Records.{word}
use Rattle.room_reduction.specs.Complements.{IsOther, other_end}
use Rattle.room_reduction.proofs.complement.exchange_nodes.Goals as goal

pub loop-place-preserved : goal.loop-place-preserved
loop-place-preserved c k below =
    let nodes = packed c.args.nodes.now in
    let place = c.loop-place.place in
    let put = c.if-not-put_record.ensures in
    let own = put.own refl in
    elim (cases_eq k place) [
      | inl here ↦
          subst (λ p. IsOther (record_at nodes (c.args.count - 1 - p)) (record_at (packed c.put_record.new.room) p))
          (sym here)
          (record {
            uid = ap (word 0) own ∙ c.word_at-uid.ensures;
            low = ap (word 1) own ∙ c.exchanged-low.ensures ∙ ap other_end c.word_at-first.ensures;
            high = ap (word 2) own ∙ c.exchanged-high.ensures ∙ ap other_end c.word_at-second.ensures;
          })
      | inr other ↦
          subst (IsOther (record_at nodes (c.args.count - 1 - k))) (sym (put.others k other))
          (c.loop-place.invariant k (omega (arith, below, other)))
    ]
