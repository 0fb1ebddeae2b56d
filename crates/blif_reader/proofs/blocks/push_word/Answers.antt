use Rattle.std.proofs.Common.{arith}
use Rattle.blif_reader.proofs.WordEnds.{holds_more}
use Rattle.blif_reader.proofs.blocks.push_word.Goals as goal

pub returns : goal.returns
returns c =
    holds_more c.args.ends.now.items c.args.bytes.now.items c.push.new.self.items c.extend_from_slice.new.self.items c.args.word.now c.len.result c.requires
    c.in_ok-extend_from_slice.ensures.items (omega (arith, c.len.ensures)) c.in_ok-push.ensures.items
