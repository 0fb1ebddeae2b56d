use Rattle.std.proofs.Common.{◌≡◌, length, refl, ap, ◌∙◌, inl, inr, arith, false, true}
use Rattle.shelf_memory.specs.Benches.{file_at}
use Rattle.shelf_memory.proofs.Answered.{append_refused, append_torn, append_put, fails_as}
use Rattle.shelf_memory.proofs.shelf.BenchShelf.append.Goals as goal

pub returns-then-count-max-clause-content : goal.returns-then-count-max-clause-content
returns-then-count-max-clause-content c =
    let size : length c.bytes_of.result.now ≡ length (file_at c.args.self.now c.args.f).bytes = ap length c.bytes_of.ensures.value in
    append_refused c.args.self.now c.look.new.self c.args.f c.args.at c.args.bytes.now c.look.result c.requires.at_end
    (omega (arith, size, c.max.ensures, c.if-count-max.true)) (c.look.ensures.exactly.due refl) c.look.ensures.content

pub returns-then-fails-clause-content : goal.returns-then-fails-clause-content
returns-then-fails-clause-content c =
    let size : length c.bytes_of.result.now ≡ length (file_at c.args.self.now c.args.f).bytes = ap length c.bytes_of.ensures.value in
    append_torn c.args.self.now c.reach.new.self c.args.f c.args.bytes.now c.reach.result
    (omega (arith, size, c.max.ensures, c.if-count-max.false)) (c.reach.ensures.exactly.due refl) c.reach.ensures.content

pub returns-clause-content : goal.returns-clause-content
returns-clause-content c =
    let size : length c.bytes_of.result.now ≡ length (file_at c.args.self.now c.args.f).bytes = ap length c.bytes_of.ensures.value in
    append_put c.args.self.now c.put.new.self c.args.f c.args.bytes.now c.put.result (omega (arith, size, c.max.ensures, c.if-count-max.false)) c.put.ensures.content

pub returns-clause-exactly : goal.returns-clause-exactly
returns-clause-exactly c =
    let size : length c.bytes_of.result.now ≡ length (file_at c.args.self.now c.args.f).bytes = ap length c.bytes_of.ensures.value in
    fails_as _ _ c.put.result c.args.self.now c.put.new.self (λ e. inl (let wrong : false ≡ true = e in cc))
    (λ reason. elim reason [
      | inl named ↦ c.if-fails.ensures ∙ named
      | inr past ↦ absurd (omega (arith, size, c.max.ensures, c.if-count-max.false, past))
    ])
    c.put.ensures.exactly
