use Rattle.std.proofs.Common.{◌≡◌, ◌∙◌, ◌+◌, get_or, refl, sym, ap, subst, inl, inr, arith}
use Rattle.shelf_model.specs.World.{now}
use Rattle.catalogue.specs.declared.layout.Entry.{Entry}
use Rattle.step_work.specs.Plans.{no_step}
use Rattle.step_engine.specs.StepEntries.{nameless_entry, one_turn}
use Rattle.script_runner.specs.Together.{ArePutTogether}
use Rattle.script_runner.proofs.TogetherPuts.{first_put, next_put, put_on, faults_on}
use Rattle.script_runner.proofs.together.put_together.Goals as goal

pub loop-k-init : goal.loop-k-init
loop-k-init g c =
    let faults = c.in_ok-put_entry.ensures.faults in
    record {
      so_far = c.in_ok-put_entry.ensures.content;
      within = (omega arith, let within = c.requires.within.0 in omega (arith, within));
      put = λ told. first_put c.args.steps.now c.args.entry.now _ _ c.requires.entry
          (c.requires.ready (c.in_ok-put_entry.ensures.content.before told)) (c.in_ok-put_entry.ensures.ok told);
      last = (refl, inl (refl, refl));
      calls = λ told. let few = c.in_ok-put_entry.ensures.calls told in omega (arith, few);
      faults = record { later = faults.later; cause = tt; say_is = faults.say_is; text_is = faults.text_is };
    }

pub unreachable-requires : goal.unreachable-requires
unreachable-requires g c =
    let from = c.loop-k.invariant.within.0 in
    let is = c.requires.drops c.loop-k.k (omega (arith, from)) c.loop-k-test.true in
    c.in_default.not-Drop is.0 is.1

pub returns-in_err-put_entry-2-clause-content : goal.returns-in_err-put_entry-2-clause-content
returns-in_err-put_entry-2-clause-content g c =
    let number : c.drop_entry-last.result.number ≡ c.loop-k.k = ap (λ (y : Entry). y.number) c.drop_entry-last.ensures.is in
    let from = c.loop-k.invariant.within.0 in
    put_on g.S.Shelf.tells g.S.Shelf.world c.args.entry.now c.drop_entry-last.result _ _ _ (omega (arith, number, from))
    c.loop-k.invariant.so_far c.in_err-put_entry-2.ensures.content

pub loop-k-preserved : goal.loop-k-preserved
loop-k-preserved g c =
    let number : c.drop_entry-last.result.number ≡ c.loop-k.k = ap (λ (y : Entry). y.number) c.drop_entry-last.ensures.is in
    let from = c.loop-k.invariant.within.0 in
    record {
      so_far = put_on g.S.Shelf.tells g.S.Shelf.world c.args.entry.now c.drop_entry-last.result _ _ _ (omega (arith, number, from))
          c.loop-k.invariant.so_far c.in_ok-put_entry-2.ensures.content;
      within = (omega (arith, from), let below = c.loop-k-test.true in omega (arith, below));
      put = λ told. next_put c.args.steps.now c.args.entry.now c.drop_entry-last.result c.loop-k.k c.in-Drop.gone _ _ from
          c.drop_entry-last.ensures.entry c.drop_entry-last.ensures.is c.in-Drop.is
          (c.loop-k.invariant.put (c.in_ok-put_entry-2.ensures.content.before told)) (c.in_ok-put_entry-2.ensures.ok told);
      last = (
        ap (λ n. n + 1) number,
        inr (
          omega (arith, number, from),
          (
            c.in-Drop.gone,
            ap (λ i. (get_or c.args.steps.now i no_step).step) number ∙ c.in-Drop.is,
            c.drop_entry-last.ensures.is ∙ ap (λ i. nameless_entry i 2 0 c.in-Drop.gone one_turn) (sym number),
          ),
        ),
      );
      calls = λ told.
          let before = c.loop-k.invariant.calls (c.in_ok-put_entry-2.ensures.content.before told) in
          let few = c.in_ok-put_entry-2.ensures.calls told in
          omega (arith, before, few);
      faults = faults_on _ _ _ _ tt c.loop-k.invariant.faults c.in_ok-put_entry-2.ensures.faults;
    }

pub returns-clause-ok : goal.returns-clause-ok
returns-clause-ok g c = λ told.
    let all : c.loop-k.k ≡ c.args.end = let within = c.loop-k.invariant.within.1 in let last = c.loop-k-test.false in omega (arith, within, last) in
    subst (λ n. ArePutTogether c.args.steps.now c.args.entry.now n (now (g.S.Shelf.world c.loop-k.shelf)).folder) all (c.loop-k.invariant.put told)
