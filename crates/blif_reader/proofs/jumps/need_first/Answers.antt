use Rattle.std.proofs.Common.{◌≡◌, ◌<◌, ◌∙◌, ℕ, Bool, false, length, get_or, length-set, sym, arith}
use Rattle.std.proofs.lemmas.List.{get_or_default}
use Rattle.blif_reader.proofs.Jumping.{stood_more, repeats_more}
use Rattle.blif_reader.proofs.jumps.need_first.Goals as goal

pub loop-place-preserved : goal.loop-place-preserved
loop-place-preserved c =
    let words = c.args.words.now in
    let stood = c.loop-place.stood.items in
    let place : ℕ = c.loop-place.place in
    let w : ℕ = get_or words place 0 in
    let marks : length stood ≡ length c.args.stood.now.items = c.loop-place.invariant.marks in
    let size : length c.loop-place.needed.items ≡ length c.args.needed.now.items = c.loop-place.invariant.size in
    let inside : w < length stood = omega (arith, c.requires.inside place c.loop-place-test.true) in
    let before : Bool = c.index-before.result.now in
    let read : get_or stood w false ≡ before = get_or_default stood w false before inside ∙ sym c.index-before.ensures in
    record {
      marks = length-set stood w _ ∙ marks;
      size = length-set c.loop-place.needed.items place _ ∙ size;
      stood = stood_more words stood place c.loop-place-test.true inside c.loop-place.invariant.stood;
      repeats = repeats_more words c.loop-place.needed.items place before (omega (arith, c.loop-place-test.true, c.requires.size)) (sym read ∙ c.loop-place.invariant.stood w inside) c.loop-place.invariant.repeats;
    }
