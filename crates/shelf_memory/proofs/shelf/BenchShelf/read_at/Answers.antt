use Rattle.shelf_memory.proofs.Answered.{did_read}
use Rattle.shelf_memory.proofs.shelf.BenchShelf.read_at.Goals as goal

pub returns-clause-content : goal.returns-clause-content
returns-clause-content c =
    did_read c.args.self.now c.look_into.new.self c.args.f c.args.at c.copy_piece.result _ c.args.buf.now c.copy_piece.new.buf c.bytes_of.ensures.value c.copy_piece.ensures.copied
    c.look_into.ensures.content
