use Rattle.std.proofs.Common.{rules}
use Rattle.copy_sweep.proofs.Copying.{ends_behind, copies_one, keeps_on}
use Rattle.copy_sweep.proofs.copy.CopySweep.copy_one.Goals as goal

-- a piece more stands there
pub returns : goal.returns
returns g c =
    let did = c.copy_piece.ensures.content in
    let put = c.in_ok-copy_piece.ensures.put in
    record {
      ready = search rules;
      in_step = λ told. ends_behind c.args.self.now _ _ c.requires.ready c.requires.more (did.did told) (put told)
          (c.requires.in_step (did.before told));
      trusts = λ told. copies_one c.args.self.now _ _ c.requires.ready c.requires.more (did.did told) (put told);
      falls = search rules;
      firm = search rules;
      keeps = λ told. keeps_on c.args.self.now _ _ c.requires.ready c.requires.more (did.did told) (put told);
      fewer = search rules;
      refused = search rules;
      leaves = search rules;
      same = search rules;
      parts_are = search rules;
    }
