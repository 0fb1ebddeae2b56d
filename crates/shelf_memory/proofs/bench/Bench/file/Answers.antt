use Rattle.std.proofs.Common.{sym, ap, ◌∙◌}
use Rattle.shelf_model.specs.File.{File}
use Rattle.shelf_memory.proofs.Answered.{present}
use Rattle.shelf_memory.proofs.bench.Bench.file.Goals as goal

pub returns-clause-told : goal.returns-clause-told
returns-clause-told c = λ tells. c.bytes_of.ensures.value ∙ ap (λ (x : File). x.bytes) (sym (present c.args.self.now tells c.args.f))
