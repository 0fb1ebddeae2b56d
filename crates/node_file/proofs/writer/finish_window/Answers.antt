use Rattle.std.proofs.Common.{◌≡◌, ◌++◌, ap, subst, ◌∙◌, arith}
use Rattle.std.proofs.lemmas.Grind.{common_steps}
use Rattle.shelf_model.specs.File.{firm_file}
use Rattle.shelf_model.specs.World.{file}
use Rattle.canon_file.specs.Canon.{trailer_bytes}
use Rattle.block_stream.specs.Records.{record_bytes}
use Rattle.block_stream.specs.Writes.{written, count_of}
use Rattle.block_stream.proofs.WriteRuns.{wrote_on}
use Rattle.node_file.proofs.writer.finish_window.Goals as goal

pub returns-in_err-settle_records-clause-content : goal.returns-in_err-settle_records-clause-content
returns-in_err-settle_records-clause-content g c =
    wrote_on g.S.Shelf.tells g.S.Shelf.world 1 2 _ _ _ _ _ c.in_ok-put_record.ensures.same.file_is c.in_ok-put_record.ensures.content c.settle_records.ensures.content

pub returns-in_err-settle_records-clause-faults : goal.returns-in_err-settle_records-clause-faults
returns-in_err-settle_records-clause-faults g c = grind (arith, common_steps)

pub returns-clause-content : goal.returns-clause-content
returns-clause-content g c =
    wrote_on g.S.Shelf.tells g.S.Shelf.world 1 2 _ _ _ _ _ c.in_ok-put_record.ensures.same.file_is c.in_ok-put_record.ensures.content c.settle_records.ensures.content

pub returns-clause-firm : goal.returns-clause-firm
returns-clause-firm g c t =
    let before = c.in_ok-settle_records.ensures.content.before t in
    let bytes : record_bytes c.args.started.words c.trailer_record.result ≡ trailer_bytes c.args.root (count_of c.args.started) c.args.n =
    (λ j. record_bytes (c.requires.words j) c.trailer_record.result) ∙ c.trailer_record.ensures ∙ ap (λ k. trailer_bytes c.args.root k c.args.n) c.count-count.ensures in
    let front = written c.args.started c.args.window.now (g.S.Shelf.world c.args.shelf.now) in
    subst (λ f. file (g.S.Shelf.world c.settle_records.new.shelf) f ≡ firm_file (front ++ trailer_bytes c.args.root (count_of c.args.started) c.args.n)) c.in_ok-put_record.ensures.same.file_is
    (c.in_ok-settle_records.ensures.bytes t ∙ ap firm_file ((c.in_ok-put_record.ensures.bytes before).bytes_are ∙ ap (λ rest. front ++ rest) bytes))
