use Rattle.std.proofs.Common.{◌≡◌, sym, subst, ◌∙◌}
use Rattle.shelf_model.specs.File.{File}
use Rattle.shelf_model.specs.World.{file}
use Rattle.block_stream.specs.Appenders.{filling_of}
use Rattle.arc_file.specs.Files.{BeginWith}
use Rattle.arc_file.proofs.PairLaws.{cut_leaves, both_cut_on}
use Rattle.arc_file.proofs.WriterLaws.{held_on, resumed}
use Rattle.arc_file.proofs.writer.ArcWriter.resume.Goals as goal

pub returns-in_err-to_values-clause-content : goal.returns-in_err-to_values-clause-content
returns-in_err-to_values-clause-content g c =
    both_cut_on g.S.Shelf.tells g.S.Shelf.world 2 2 _ _ _ _ _ _ _ c.requires.apart c.in_ok-to_nodes.ensures.content c.in_err-to_values.ensures.content

pub returns-clause-content : goal.returns-clause-content
returns-clause-content g c =
    both_cut_on g.S.Shelf.tells g.S.Shelf.world 2 2 _ _ _ _ _ _ _ c.requires.apart c.in_ok-to_nodes.ensures.content c.in_ok-to_values.ensures.content

pub returns-clause-arcs : goal.returns-clause-arcs
returns-clause-arcs g c t xs ys first second =
    let mid = c.in_ok-to_values.ensures.content.before t in
    let old = g.S.Shelf.world c.args.shelf.now in
    let between = g.S.Shelf.world c.resume.new.shelf in
    let new = g.S.Shelf.world c.resume-2.new.shelf in
    let inner = c.in_ok-to_nodes.to_nodes in
    let ends = c.in_ok-to_values.to_values in
    let kept : file between c.args.made.ends ≡ file old c.args.made.ends =
    cut_leaves _ c.args.made.inner c.args.made.ends _ old between (λ same. c.requires.apart (sym same)) (c.in_ok-to_nodes.ensures.content.did mid) in
    let stays : file new c.args.made.inner ≡ file between c.args.made.inner =
    cut_leaves _ c.args.made.ends c.args.made.inner _ between new c.requires.apart (c.in_ok-to_values.ensures.content.did t) in
    let same : file new (filling_of inner).file ≡ file between (filling_of inner).file =
    subst (λ f. file new f ≡ file between f) (sym c.in_ok-to_nodes.ensures.file) stays in
    record {
      inner_are = held_on inner between new xs same
          (resumed inner between c.args.made.inner_count (file old c.args.made.inner).bytes xs c.in_ok-to_nodes.ensures.words (c.in_ok-to_nodes.ensures.whole mid) (c.in_ok-to_nodes.ensures.holds mid) first);
      inner_many = first.count_is ∙ sym c.in_ok-to_nodes.ensures.count;
      ends_are = resumed ends new c.args.made.ends_count (file between c.args.made.ends).bytes ys c.in_ok-to_values.ensures.words (c.in_ok-to_values.ensures.whole t) (c.in_ok-to_values.ensures.holds t)
          (subst (λ (f : File). BeginWith ys c.args.made.ends_count f.bytes) (sym kept) second);
      ends_many = second.count_is ∙ sym c.in_ok-to_values.ensures.count;
    }
