use Rattle.std.proofs.Common.{◌≡◌, ◌∙◌, ◌-◌, ◌≤◌, arith}
use Rattle.canon_file.proofs.LevelLaws.{level_words, words_begin, words_few, words_step, bytes_step, canon_done}
use Rattle.canon_file.proofs.plain.plain_canon.Goals as goal

pub loop-done-init : goal.loop-done-init
loop-done-init c =
    let all : c.args.n ≡ c.args.n - 0 = omega arith in
    record {
      pointers = c.in_ok-pointers.ensures ∙ words_begin c.args.n c.args.table.now c.requires.whole ∙ (λ j. level_words c.args.table.now (all j) 0);
      bytes = c.new-bytes.ensures.items;
    }

pub add_level-requires-clause-few : goal.add_level-requires-clause-few
add_level-requires-clause-few c =
    words_few c.args.table.now (c.args.n - c.loop-done.done) c.loop-done.done _ (c.as_slice.ensures.value ∙ c.loop-done.invariant.pointers) (omega arith)

pub loop-done-preserved : goal.loop-done-preserved
loop-done-preserved c =
    let few : c.args.n ≤ 47 = omega arith in
    let known = c.as_slice.ensures.value ∙ c.loop-done.invariant.pointers in
    record {
      pointers = c.in_ok-pointers-2.ensures.pointers ∙ words_step c.args.table.now c.args.n c.loop-done.done c.loop-done-test.true few c.requires.whole _ known;
      bytes = bytes_step c.args.table.now c.args.n c.loop-done.done c.loop-done-test.true few c.requires.whole _ _ _ known c.loop-done.invariant.bytes c.in_ok-pointers-2.ensures.nodes;
    }

pub returns : goal.returns
returns c =
    canon_done c.args.n c.loop-done.done c.args.table.now c.loop-done.pointers.items c.loop-done.bytes.items _ c.index.result.now c.len.result c.from.result (omega arith)
    c.loop-done.invariant.pointers c.loop-done.invariant.bytes c.index.ensures (omega arith) c.from.ensures c.in_ok-add_trailer.ensures
