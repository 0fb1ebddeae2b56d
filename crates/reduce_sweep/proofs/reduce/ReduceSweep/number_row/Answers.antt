use Rattle.std.proofs.Common.{◌-◌, ◌^◌, ◌∙◌, ap}
use Rattle.rec_words.specs.Words.{node_word}
use Rattle.reduce_sweep.specs.declared.reduce.ReduceSweep.{ReduceSweep}
use Rattle.std.proofs.lemmas.Result.{on_ok_weaker}
use Rattle.reduce_sweep.proofs.Doing.{does_then}
use Rattle.reduce_sweep.proofs.Putting.{row_named}
use Rattle.reduce_sweep.proofs.reduce.ReduceSweep.number_row.Goals as goal

-- the node was put, and the name pushed
pub returns-clause-does : goal.returns-clause-does
returns-clause-does g c = does_then g.S.Shelf.tells g.S.Shelf.world g.S.Shelf.faults 1 16 0 1 _ _ _ c.args.self.now
    c.put_node.new.self c.push_name.new.self c.put_node.result c.push_name.result
    c.requires.fit.sound (ap (λ (r : ReduceSweep). r.ahead.reader) c.put_node.ensures.rest)
    c.in_ok-numbered.ensures.trusts c.put_node.ensures.does c.push_name.ensures.does

pub returns-clause-named : goal.returns-clause-named
returns-clause-named g c = row_named c.args.self.now c.put_node.new.self c.push_name.new.self _ _ _ _ _ c.args.numbered
    c.args.row.now c.node.result c.push_name.result
    (c.node.ensures.value ∙ (λ j. node_word (c.put_node.ensures.rest j).place.level
    (2 ^ 47 - (c.in_ok-numbered.ensures.number j).number)))
    (λ told. c.push_name.ensures.does.leaves.content.before told) c.in_ok-numbered.ensures.put
    c.push_name.ensures.joined

pub returns-clause-trusts : goal.returns-clause-trusts
returns-clause-trusts g c = on_ok_weaker c.push_name.result
    (λ keeps told lists. keeps told (c.in_ok-numbered.ensures.trusts
    (c.push_name.ensures.does.leaves.content.before told) lists)) c.push_name.ensures.trusts
