use Rattle.std.proofs.Common.{ap, ◌∙◌, arith}
use Rattle.std.proofs.lemmas.Grind.{common_steps}
use Rattle.std.specs.Map.Iter.{deref_pair}
use Rattle.std.proofs.lemmas.Map.Iter.{btree_map_turn, rest_more}
use Rattle.shelf_model.specs.File.{firm_file}
use Rattle.shelf_model.proofs.Numbers.{file_cmp_total}
use Rattle.shelf_memory.specs.Benches.{file_at}
use Rattle.shelf_memory.proofs.Stops.{fresh_put, file_taken}
use Rattle.shelf_memory.proofs.bench.Bench.take_files.Goals as goal

pub put_file-requires : goal.put_file-requires
put_file-requires c = grind (arith, common_steps)

pub loop-f-preserved : goal.loop-f-preserved
loop-f-preserved c =
    let rest = rest_more deref_pair c.loop-f.f-iterator c.next.new.self c.next.result (c.in-Some.f, c.in-Some.stored) c.in-Some.is c.next.ensures.steps in
    let given = c.into_iter-f-iterator.ensures.into_iter_gives in
    let turn = btree_map_turn deref_pair c.loop-f.yielded c.into_iter-f-iterator.result c.loop-f.f-iterator c.next.new.self c.next.result (c.in-Some.f, c.in-Some.stored)
    c.loop-f.yielded_by c.in-Some.is c.next.ensures.steps file_cmp_total c.args.files.now given.0 given.5 in
    record {
      fresh = fresh_put c.in-Some.f.now c.loop-f.self c.put_file.new.self c.loop-f.invariant.fresh c.put_file.ensures.still c.put_file.ensures.lists c.in_ok-put_file.ensures.ok.watch_is;
      taken = file_taken c.args.files.now c.args.choice c.in-Some.f.now c.in-Some.stored.now c.next.new.self c.loop-f.f-iterator (file_at c.loop-f.self) (file_at c.put_file.new.self)
          rest turn.1 c.loop-f.invariant.taken
          (c.in_ok-put_file.ensures.ok.file_is ∙ ap firm_file (c.deref.ensures.value ∙ c.in_ok-bytes.ensures)) c.put_file.ensures.still.files_are;
      texts = λ path. c.put_file.ensures.texts path ∙ c.loop-f.invariant.texts path;
    }
