use Rattle.std.proofs.Common.{◌≡◌, ◌-◌, take, ap, sym, subst, ◌∙◌, arith}
use Rattle.shelf_model.specs.World.{file}
use Rattle.node_file.specs.declared.trailer.Trailer.{Trailer}
use Rattle.node_file.specs.Readers.{file_of, loads_of, Reads, AreLeft}
use Rattle.node_file.proofs.SkipLaws.{same_bytes, looked_told}
use Rattle.node_file.proofs.reader.NodeReader.resume.Goals as goal

pub returns-in_err-skip_to-clause-sound : goal.returns-in_err-skip_to-clause-sound
returns-in_err-skip_to-clause-sound g c = grind arith

pub returns-in_err-skip_to-clause-content : goal.returns-in_err-skip_to-clause-content
returns-in_err-skip_to-clause-content g c =
    looked_told g.S.Shelf.tells g.S.Shelf.world 2 _ _ _ _ _ c.in_ok-reader.ensures.content c.in_err-skip_to.ensures.content
    (λ told. ap (λ k. loads_of (k - c.args.place)) (c.in_ok-reader.ensures.place ∙ (c.in_ok-reader.ensures.trailer told).1))

pub returns-clause-reads : goal.returns-clause-reads
returns-clause-reads g c t =
    let before = c.in_ok-skip_to.ensures.content.before t in
    let same : (file (g.S.Shelf.world c.start.new.shelf) (file_of c.in_ok-reader.reader)).bytes ≡ (file (g.S.Shelf.world c.args.shelf.now) c.args.f).bytes =
    same_bytes 2 c.args.f (file_of c.in_ok-reader.reader) (g.S.Shelf.world c.args.shelf.now) (g.S.Shelf.world c.start.new.shelf) (c.in_ok-reader.ensures.content.did before) c.in_ok-reader.ensures.file in
    subst (Reads c.skip_to.new.self) same (c.in_ok-skip_to.ensures.reads t (c.in_ok-reader.ensures.reads _))

pub returns-clause-content : goal.returns-clause-content
returns-clause-content g c =
    looked_told g.S.Shelf.tells g.S.Shelf.world 2 _ _ _ _ _ c.in_ok-reader.ensures.content c.in_ok-skip_to.ensures.content
    (λ told. ap (λ k. loads_of (k - c.args.place)) (c.in_ok-reader.ensures.place ∙ (c.in_ok-reader.ensures.trailer told).1))

pub returns-clause-nodes : goal.returns-clause-nodes
returns-clause-nodes g c t root xs nodes =
    let before = c.in_ok-skip_to.ensures.content.before t in
    let same : (file (g.S.Shelf.world c.start.new.shelf) (file_of c.in_ok-reader.reader)).bytes ≡ (file (g.S.Shelf.world c.args.shelf.now) c.args.f).bytes =
    same_bytes 2 c.args.f (file_of c.in_ok-reader.reader) (g.S.Shelf.world c.args.shelf.now) (g.S.Shelf.world c.start.new.shelf) (c.in_ok-reader.ensures.content.did before) c.in_ok-reader.ensures.file in
    let began = c.in_ok-reader.ensures.nodes before root xs nodes in (
      ap (λ (trailer : Trailer). trailer.count) c.in_ok-skip_to.ensures.trailer ∙ began.0,
      subst (λ b. AreLeft c.skip_to.new.self b (take c.args.place xs)) same
          (c.in_ok-skip_to.ensures.nodes t (c.in_ok-reader.ensures.reads _) xs (subst (λ b. AreLeft c.in_ok-reader.reader b xs) (sym same) began.1)),
    )
