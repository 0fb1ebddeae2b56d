use Rattle.std.proofs.Common.{◌-◌, ◌^◌, ◌∙◌, ap, sym, subst, refl, arith, rules, IsTrue}
use Rattle.rec_words.specs.Words.{node_word}
use Rattle.block_stream.specs.Writes.{count_of}
use Rattle.node_file.specs.Writers.{filling_of}
use Rattle.reduce_lists.proofs.Joining.{served_put, work_put, listed_put, own_wrote, wrote_empty}
use Rattle.reduce_lists.proofs.Refusing.{write_undamaged, damaged_anyhow}
use Rattle.reduce_sweep.specs.declared.phase.Numbered.{Numbered}
use Rattle.reduce_sweep.specs.declared.phase.Phase.TheVariants.{Number}
use Rattle.reduce_sweep.specs.Sweeps.{IsNumberedAt}
use Rattle.reduce_sweep.specs.Changes.{numbered_with}
use Rattle.reduce_sweep.proofs.Putting.{puts_none, puts_node, numbered_next}
use Rattle.reduce_sweep.proofs.Refusing.{write_refuses}
use Rattle.reduce_sweep.proofs.NumberingKeeps.{phase_numbered}
use Rattle.reduce_sweep.proofs.reduce.ReduceSweep.put_node.Goals as goal

-- no node is put for a pair that has one
pub returns-then-has_last-clause-put : goal.returns-then-has_last-clause-put
returns-then-has_last-clause-put g c = λ told k holds.
    puts_none c.args.self.now.place.level c.args.numbered c.args.row.now _ _ _ _ k
    (sym c.has_last.ensures ∙ c.if-has_last.true) holds

-- the node stands behind the others
pub returns-clause-put : goal.returns-clause-put
returns-clause-put g c = λ told k holds.
    puts_node c.args.self.now.place.level c.args.numbered c.args.row.now c.in-Some.uid 1 c.args.self.now _ _ _ k
    c.requires.fit.sound.served (sym c.has_last.ensures ∙ c.if-has_last.false)
    (c.in-Some.ensures.1 ∙ c.node.ensures.value ∙ ap (λ (n : Numbered). node_word c.args.self.now.place.level
    (2 ^ 47 - n.number)) c.with-next.ensures)
    (c.put.ensures.content.did told) (c.in_ok-put.ensures.holds told) c.in_ok-put.ensures.count holds

-- the row has a number and a node
pub returns-clause-fit : goal.returns-clause-fit
returns-clause-fit g c =
    let s = c.args.self.now in
    let sound = c.requires.fit.sound in
    let are = phase_numbered s.place.level (count_of (filling_of s.writer)) s.place.phase c.args.numbered
    c.requires.phase sound.phase in
    record {
      sound = record {
        served = served_put s.ahead s.lists s.writer c.put.new.self s.parts c.put.ensures.same.file_is sound.served;
        within = sound.within;
        few = sound.few;
        variables = c.put.ensures.variables ∙ sound.variables;
        phase = subst (IsNumberedAt s.place.level (count_of (filling_of c.put.new.self))) (sym c.with-next.ensures)
            (subst (λ m. IsNumberedAt s.place.level m (numbered_with c.args.numbered c.args.row.now))
            (sym c.in_ok-put.ensures.count)
            (numbered_next s.place.level (count_of (filling_of s.writer)) c.args.numbered c.args.row.now
            (sym c.has_last.ensures ∙ c.if-has_last.false) are));
      };
      at_work = λ told. work_put s.ahead s.lists s.writer c.put.new.self s.parts 1 _ _ sound.served
          (c.put.ensures.content.did told) (c.in_ok-put.ensures.holds told).in_step
          (c.requires.fit.at_work (c.put.ensures.content.before told));
    }

-- no list was touched
pub returns-clause-trusts : goal.returns-clause-trusts
returns-clause-trusts g c = λ told. listed_put c.args.self.now.ahead c.args.self.now.lists c.args.self.now.writer
    c.args.self.now.parts 1 _ _ c.requires.fit.sound.served
    (c.put.ensures.content.did told)

-- only the file of the nodes was written to
pub returns-clause-does : goal.returns-clause-does
returns-clause-does g c = record {
  leaves = record {
    made = λ f e. e ∙ c.put.ensures.same.file_is;
    making = λ f e. e ∙ sym c.put.ensures.same.file_is;
    step_is = refl;
    later = omega arith;
    within = λ few. few;
    content = own_wrote g.S.Shelf.tells g.S.Shelf.world _ _ _ 1 _ _ c.put.ensures.content;
    untaken = λ told. wrote_empty _ _ _ 1 _ _ (c.put.ensures.content.did told);
    calls = λ told. (let few = (c.put.ensures.content.did told).few in omega (arith, few));
    spent = omega arith;
    faults = search rules;
  };
  same = record {
    out_is = c.put.ensures.same.file_is;
    arcs_are = refl;
    inner_is = refl;
    ends_are = refl;
    variables_are = refl;
  };
  refused = tt;
  damage = tt;
}

-- a call of the folder failed
pub returns-in_err-put-clause-does : goal.returns-in_err-put-clause-does
returns-in_err-put-clause-does g c = record {
  leaves = record {
    made = λ f e. e ∙ c.put.ensures.same.file_is;
    making = λ f e. e ∙ sym c.put.ensures.same.file_is;
    step_is = refl;
    later = omega arith;
    within = λ few. few;
    content = own_wrote g.S.Shelf.tells g.S.Shelf.world _ _ _ 1 _ _ c.put.ensures.content;
    untaken = λ told. wrote_empty _ _ _ 1 _ _ (c.put.ensures.content.did told);
    calls = λ told. (let few = (c.put.ensures.content.did told).few in omega (arith, few));
    spent = omega arith;
    faults = search rules;
  };
  same = record {
    out_is = c.put.ensures.same.file_is;
    arcs_are = refl;
    inner_is = refl;
    ends_are = refl;
    variables_are = refl;
  };
  refused = write_refuses _ _ (record c.args.self.now {
    place = record c.args.self.now.place { phase = Number c.with-next.result };
    writer = c.put.new.self;
  }) c.from_residual.result c.in_err-put.field-0.0 c.from_residual.ensures.1 c.in_err-put.ensures.cause;
  damage = damaged_anyhow _ _ c.args.self.now.ahead.reader (g.S.Shelf.world c.args.shelf.now) c.from_residual.result
      (write_undamaged (IsTrue (g.S.Shelf.tells c.put.new.shelf)) c.args.self.now.ahead.reader
      (g.S.Shelf.world c.args.shelf.now) c.from_residual.result c.in_err-put.field-0.0 c.from_residual.ensures.1
      c.in_err-put.ensures.cause);
}
