use Rattle.std.proofs.Common.{◌≡◌, ◌<◌, ◌-◌, ◌^◌, refl, ◌∙◌, arith, rules}
use Rattle.std.proofs.lemmas.Bool.{lt-ltb}
use Rattle.shelf_memory.specs.Laws.{present_file, present_said}
use Rattle.shelf_memory.proofs.bench.Bench.empty.Goals as goal

pub returns-clause-fresh : goal.returns-clause-fresh
returns-clause-fresh c =
    let zero_is : c.empty.result.clock ≡ 0 = c.empty.ensures.clock in
    let few : c.empty.result.clock < 2 ^ 64 - 1 = omega (arith, zero_is) in
    record {
      tells = lt-ltb _ _ few;
      clock_is = zero_is;
      said_is = present_said c.empty.result few ∙ c.empty.ensures.said;
      kept_is = c.empty.ensures.said;
      outside = refl;
      strays_are = refl;
      starved_is = refl;
      folder_is = refl;
      say_is = refl;
      text_is = search rules;
      reads_are = search rules;
      unlisted = c.none.ensures.listed;
      unwatched = c.none.ensures.watch;
    }

pub returns-clause-files : goal.returns-clause-files
returns-clause-files c = λ f.
    let zero_is : c.empty.result.clock ≡ 0 = c.empty.ensures.clock in
    present_file c.empty.result (omega (arith, zero_is)) f ∙ c.empty.ensures.files f
