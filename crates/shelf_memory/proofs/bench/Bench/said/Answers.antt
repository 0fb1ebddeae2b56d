use Rattle.std.proofs.Common.{sym, ◌∙◌}
use Rattle.std.proofs.lemmas.Bool.{ltb-true}
use Rattle.shelf_memory.specs.Laws.{present_said}
use Rattle.shelf_memory.proofs.bench.Bench.said.Goals as goal

pub returns-clause-told : goal.returns-clause-told
returns-clause-told c = λ tells. c.deref.ensures.value ∙ sym (present_said c.args.self.now.disk (ltb-true _ _ tells))
