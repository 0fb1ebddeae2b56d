use Rattle.std.proofs.Common.{◌≡◌, ◌<◌, ◌-◌, ◌^◌, refl, sym, ap, ◌∙◌, arith}
use Rattle.std.specs.Prelude.{nat_lt}
use Rattle.std.proofs.lemmas.Bool.{ltb-true}
use Rattle.shelf_memory.specs.Laws.{present_file, present_said}
use Rattle.shelf_memory.proofs.bench.Bench.put_file.Goals as goal

pub returns-clause-ok : goal.returns-clause-ok
returns-clause-ok c = record {
  file_is = c.in_ok-put_file.ensures.ok;
  told_is = λ tells. present_file c.put_file.new.self (ltb-true _ _ tells) c.args.f ∙ c.in_ok-put_file.ensures.ok;
  watch_is = c.observe.ensures.watch;
}

pub returns-clause-still : goal.returns-clause-still
returns-clause-still c =
    let clock : c.put_file.new.self.clock ≡ c.args.self.now.disk.clock = c.put_file.ensures.clock in
    record {
      tells_is = ap (λ k. nat_lt k (2 ^ 64 - 1)) clock;
      clock_is = clock;
      moments_are = λ tells k before. c.put_file.ensures.past (ltb-true _ _ tells) k before;
      told_are = λ tells q differ.
          let few : c.args.self.now.disk.clock < 2 ^ 64 - 1 = ltb-true _ _ tells in
          present_file c.put_file.new.self (omega (arith, few, clock)) q ∙ c.put_file.ensures.others.files_are q differ ∙ sym (present_file c.args.self.now.disk few q);
      told_said = λ tells.
          let few : c.args.self.now.disk.clock < 2 ^ 64 - 1 = ltb-true _ _ tells in
          present_said c.put_file.new.self (omega (arith, few, clock)) ∙ c.put_file.ensures.others.said_is ∙ sym (present_said c.args.self.now.disk few);
      inside_is = refl;
      strays_are = refl;
      files_are = c.put_file.ensures.others.files_are;
      said_is = c.put_file.ensures.others.said_is;
      starved_is = refl;
      folder_is = refl;
      say_is = refl;
      text_is = λ path. refl;
      reads_are = λ q. refl;
    }
