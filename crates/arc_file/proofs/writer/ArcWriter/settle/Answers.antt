use Rattle.std.proofs.Common.{◌≡◌, sym, subst, ◌∙◌, arith}
use Rattle.std.proofs.lemmas.Grind.{common_steps}
use Rattle.shelf_model.specs.World.{file}
use Rattle.block_stream.specs.Appenders.{filling_of, HoldsItems}
use Rattle.arc_file.specs.Arcs.{arc_words, IsArc}
use Rattle.arc_file.specs.Writers.{inner_file, ends_file, inner_count, ends_count, IsFileOf}
use Rattle.arc_file.proofs.PairLaws.{wrote_leaves, both_written_on}
use Rattle.arc_file.proofs.WriterLaws.{files_apart, held_on, settled_items, settled_file}
use Rattle.arc_file.proofs.writer.ArcWriter.settle.Goals as goal

pub returns-in_err-settle-clause-content : goal.returns-in_err-settle-clause-content
returns-in_err-settle-clause-content g c = grind (arith, common_steps)

pub returns-in_err-settle-2-clause-content : goal.returns-in_err-settle-2-clause-content
returns-in_err-settle-2-clause-content g c =
    both_written_on g.S.Shelf.tells g.S.Shelf.world 2 2 _ _ _ _ _ (files_apart c.args.self.now) c.settle.ensures.content c.settle-2.ensures.content

pub returns-clause-settled : goal.returns-clause-settled
returns-clause-settled g c = grind (arith, common_steps)

pub returns-clause-content : goal.returns-clause-content
returns-clause-content g c =
    both_written_on g.S.Shelf.tells g.S.Shelf.world 2 2 _ _ _ _ _ (files_apart c.args.self.now) c.settle.ensures.content c.settle-2.ensures.content

pub returns-clause-arcs : goal.returns-clause-arcs
returns-clause-arcs g c t xs ys held =
    let w = c.args.self.now in
    let mid = c.settle-2.ensures.content.before t in
    let old = g.S.Shelf.world c.args.shelf.now in
    let between = g.S.Shelf.world c.settle.new.shelf in
    let new = g.S.Shelf.world c.settle-2.new.shelf in
    let kept : file between (ends_file w) ≡ file old (ends_file w) =
    wrote_leaves _ (inner_file w) (ends_file w) old between (λ same. files_apart w (sym same)) (c.settle.ensures.content.did mid) in
    let stays : file new (inner_file w) ≡ file between (inner_file w) =
    wrote_leaves _ (ends_file w) (inner_file w) between new (files_apart w) (c.settle-2.ensures.content.did t) in
    let same : file new (filling_of c.settle.new.self).file ≡ file between (filling_of c.settle.new.self).file =
    subst (λ f. file new f ≡ file between f) (sym c.settle.ensures.same.file_is) stays in
    let ends : HoldsItems IsArc arc_words w.ends between ys = held_on w.ends old between ys kept held.ends_are in
    let inner_count_is : c.count.result ≡ inner_count w = c.count.ensures ∙ c.in_ok-settle.ensures.count in
    let ends_count_is : c.count-2.result ≡ ends_count w = c.count-2.ensures ∙ c.in_ok-settle-2.ensures.count in (
      record {
        inner_are = held_on c.settle.new.self between new xs same (settled_items w.inner c.settle.new.self old between xs c.settle.ensures.same (c.in_ok-settle.ensures.holds mid) held.inner_are);
        inner_many = held.inner_many ∙ sym c.in_ok-settle.ensures.count;
        ends_are = settled_items w.ends c.settle-2.new.self between new ys c.settle-2.ensures.same (c.in_ok-settle-2.ensures.holds t) ends;
        ends_many = held.ends_many ∙ sym c.in_ok-settle-2.ensures.count;
      },
      subst (λ f. IsFileOf xs c.count.result (file new f)) w.inner_is
          (settled_file w.inner old xs c.count.result (file new (inner_file w)) w.inner_width (held.inner_many ∙ sym inner_count_is) (stays ∙ c.in_ok-settle.ensures.firm mid) held.inner_are),
      subst (λ f. IsFileOf ys c.count-2.result (file new f)) w.ends_are
          (settled_file w.ends between ys c.count-2.result (file new (ends_file w)) w.ends_width (held.ends_many ∙ sym ends_count_is) (c.in_ok-settle-2.ensures.firm t) ends),
    )
