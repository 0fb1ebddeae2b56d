use Rattle.std.proofs.Common.{◌≡◌, ◌∙◌, ◌*◌, ◌++◌, take, drop, ap, rules, arith}
use Rattle.shelf_model.specs.World.{file}
use Rattle.shelf_model.specs.Calls.{most_piece}
use Rattle.node_file.proofs.PieceRuns.{put_more}
use Rattle.node_file.proofs.copy.copy_pieces.Goals as goal

-- one piece more stands there
pub loop-piece-preserved : goal.loop-piece-preserved
loop-piece-preserved g c =
    let world = g.S.Shelf.world in
    record {
      copied = λ told.
          let begun = c.copy_piece.ensures.content.before told in
          let same : (file (world c.loop-piece.shelf) c.args.from).bytes ≡ (file (world c.args.shelf.now) c.args.from).bytes =
          search rules in
          put_more _ _ _ (c.loop-piece.piece * most_piece) _ (omega arith) (c.loop-piece.invariant.copied begun)
          (c.in_ok-copy_piece.ensures.put told
          ∙ ap (λ source. (file (world c.loop-piece.shelf) c.args.to).bytes
          ++ take most_piece (drop (c.loop-piece.piece * most_piece) source)) same);
      so_far = search rules;
      folder_later = search rules;
      say_is = search rules;
      text_is = search rules;
    }
