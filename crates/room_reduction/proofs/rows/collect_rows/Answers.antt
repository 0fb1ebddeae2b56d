use Rattle.std.proofs.Common.{◌≡◌, ◌∙◌, ◌+◌, ◌<◌, [], length, set, ap, sym, subst, inl, inr, arith}
use Rattle.std.proofs.lemmas.Bool.{cases_eq}
use Rattle.std.proofs.lemmas.List.{get_or-set_same, get_or-set_other}
use Rattle.rec_words.specs.declared.rec.Rec.{Rec}
use Rattle.run_files.specs.Items.{record_at}
use Rattle.room_reduction.specs.Sources.{sources_in}
use Rattle.room_reduction.specs.Levels.{IsRowOf}
use Rattle.room_reduction.proofs.rows.collect_rows.Goals as goal

pub loop-place-preserved : goal.loop-place-preserved
loop-place-preserved c =
    let none : Rec = record { w = [] } in
    let sources = sources_in c.args.index.total c.args.sources.now in
    let rows = c.loop-place.rows in
    let place = c.loop-place.place in
    let row = c.in-Some.row in
    let known = c.loop-place.invariant in
    let test = c.loop-place-test.true in
    let long = c.loop-place.auto.rows in
    let in_rows : place < length rows = omega (arith, long, test) in
    record {
      rows_are = λ f ends done k below.
          elim (cases_eq k place) [
            | inl e ↦
                let at : record_at (set rows place row) k ≡ row =
                ap (record_at (set rows place row)) e ∙ get_or-set_same rows place row none in_rows in
                subst (IsRowOf f (c.args.from + k) sources) (sym at)
                (subst (λ p. IsRowOf f (c.args.from + p) sources row) (sym e)
                (c.in-Some.ensures f ends done))
            | inr e ↦
                subst (IsRowOf f (c.args.from + k) sources) (sym (get_or-set_other rows place k row none e))
                (known.rows_are f ends done k (omega (arith, below, e)))
          ];
    }

pub returns : goal.returns
returns c is f ends done k below =
    let past = c.loop-place-test.false in
    let long = c.loop-place.auto.rows in
    c.loop-place.invariant.rows_are f ends done k (omega (arith, past, long, below))
