use Rattle.std.proofs.Common.{◌≡◌, ap, sym, ◌∙◌}
use Rattle.std.specs.Prelude.{Some, string_bytes}
use Rattle.std.specs.Map.Iter.{deref_pair}
use Rattle.std.specs.String.{string_cmp_total}
use Rattle.std.proofs.lemmas.Map.Iter.{btree_map_turn, rest_more}
use Rattle.shelf_memory.specs.Benches.{world_of}
use Rattle.shelf_memory.proofs.Stops.{fresh_still, text_taken}
use Rattle.shelf_memory.proofs.bench.Bench.take_texts.Goals as goal

pub loop-path-preserved : goal.loop-path-preserved
loop-path-preserved c =
    let rest = rest_more deref_pair c.loop-path.path-iterator c.next.new.self c.next.result (c.in-Some.path, c.in-Some.text) c.in-Some.is c.next.ensures.steps in
    let given = c.into_iter-path-iterator.ensures.into_iter_gives in
    let turn = btree_map_turn deref_pair c.loop-path.yielded c.into_iter-path-iterator.result c.loop-path.path-iterator c.next.new.self c.next.result
    (c.in-Some.path, c.in-Some.text) c.loop-path.yielded_by c.in-Some.is c.next.ensures.steps string_cmp_total c.args.texts.now given.0 given.5 in
    let name : c.as_str.result.now ≡ string_bytes c.in-Some.path.now = c.as_str.ensures.value in
    record {
      fresh = fresh_still c.loop-path.self c.put_text.new.self c.loop-path.invariant.fresh c.put_text.ensures.still c.put_text.ensures.failures;
      taken = text_taken c.args.texts.now c.in-Some.path.now c.in-Some.text.now c.next.new.self c.loop-path.path-iterator (world_of c.loop-path.self).texts (world_of c.put_text.new.self).texts
          rest turn.1 c.loop-path.invariant.taken
          (ap (world_of c.put_text.new.self).texts (sym name) ∙ c.in_ok-put_text.ensures.ok ∙ ap (λ bytes. Some bytes) c.deref.ensures.value)
          (λ q differ. c.put_text.ensures.others q (λ same. differ (same ∙ name)));
      files = λ f. c.put_text.ensures.still.files_are f ∙ c.loop-path.invariant.files f;
    }
