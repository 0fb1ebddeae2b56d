use Rattle.std.proofs.Common.{◌≡◌, ◌∙◌, ◌+◌, ◌<◌, ◌≤◌, [], refl, sym, subst, length, slice_index_or, arith}
use Rattle.std.proofs.lemmas.List.{take_all}
use Rattle.rec_words.specs.declared.rec.Rec.{Rec}
use Rattle.list_laws.proofs.SameMembers.{has_at}
use Rattle.run_files.specs.Items.{record_at}
use Rattle.canon_file.specs.Pairs.{word_in}
use Rattle.room_reduction.specs.Records.{row_in, word}
use Rattle.room_reduction.proofs.FirstPlaces.{same_there}
use Rattle.room_reduction.specs.Sources.{sources_in}
use Rattle.room_reduction.specs.Levels.{Names, distinct_rows}
use Rattle.room_reduction.proofs.Numbering.{none_numbered, row_named}
use Rattle.room_reduction.proofs.Naming.{same_later, none_named, sources_same, sources_on, one_named}
use Rattle.room_reduction.proofs.numbers.number_rows.Goals as goal

pub loop-place-init : goal.loop-place-init
loop-place-init c = let sources = sources_in c.args.total c.args.sources.now in record {
  within = omega arith;
  rest = refl;
  same = sources_same sources;
  numbering = none_numbered c.args.level c.args.rows.now (record { low = 0; high = 0 });
  names = λ rising f says. none_named f sources;
}

pub loop-place-preserved : goal.loop-place-preserved
loop-place-preserved c =
    let none : Rec = record { w = [] } in
    let first = c.args.rows.now in
    let sources = sources_in c.args.total c.args.sources.now in
    let rows = c.loop-place.rows in
    let place = c.loop-place.place in
    let known = c.loop-place.invariant in
    let did = c.number_row-done.ensures in
    let below : place < length first = c.loop-place-test.true in
    let row : Rec = slice_index_or rows place none in
    let is : row ≡ record_at first place = same_there rows first place none known.rest in
    let within = known.within in
    let one_more = did.within in
    let order : c.loop-place.done.count + 1 ≤ place + 1 = omega (arith, within) in
    let numbering = did.more first place below is known.numbering in
    record {
      within = omega (arith, within, one_more);
      rest = same_later _ _ _ _ order did.rest ∙ same_later _ _ place (place + 1) (omega arith) known.rest;
      same = sources_on _ _ _ known.same c.name_source.ensures.same;
      numbering = numbering;
      names = λ rising f says.
          let right = says (record_at first place) (has_at first place none below) in
          let named =
          row_named c.args.level first place row below is _ _ _ rising did.some did.low did.high numbering in
          one_named f first place _ row _ _ _ below is known.same c.name_source.ensures.same
          (c.name_source.ensures.name c.if-not-name_source.false) c.name_source.ensures.others
          (c.name_of.ensures ∙ named
          ∙ subst (λ x. word_in c.args.level (distinct_rows first) (row_in x)
          ≡ f (word 0 (record_at sources (word 2 x)))) (sym is) right)
          (known.names rising f says);
    }

pub returns-clause-names : goal.returns-clause-names
returns-clause-names c rising f says =
    let past = c.loop-place-test.false in
    let total = c.args.total in
    subst (λ xs. Names f xs (sources_in total c.args.sources.now) (sources_in total c.loop-place.sources))
    (take_all c.loop-place.place c.args.rows.now (omega (arith, past)))
    (c.loop-place.invariant.names rising f says)
