use Rattle.std.proofs.Common.{◌≡◌, ◌≤◌, ◌∙◌, refl, sym, ap, subst, inl, arith}
use Rattle.std.specs.Prelude.{IsSome}
use Rattle.file_numbers.specs.Files.{inner_part}
use Rattle.saved_words.specs.Fronts.{IsFront}
use Rattle.sweep_core.specs.Saving.{reads_of}
use Rattle.node_file.specs.Readers.{file_of}
use Rattle.restrict_eval.specs.declared.saved_eval.SavedEval.{SavedEval}
use Rattle.restrict_eval.specs.Eval.{turns_left}
use Rattle.restrict_eval.specs.SavedEval.{eval_count, eval_words, IsSaved}
use Rattle.restrict_eval.specs.EvalResumes.{KeepsRules, GoesOn}
use Rattle.restrict_eval.proofs.SameSaving.{read_as, few_nodes}
use Rattle.restrict_eval.proofs.EvalSaving.{saved_goes_on, stays_evaluated, following_back}
use Rattle.restrict_eval.proofs.eval.EvalSweepSweep.carry.Goals as goal

pub returns-clause-fits : goal.returns-clause-fits
returns-clause-fits g c =
    let filled = c.fill_without_runs.ensures in
    let s = c.args.self.now in
    let step : c.fill_without_runs.new.into.step ≡ s.parts.step = filled.head.step_is ∙ c.requires.step in
    let next : c.fill_without_runs.new.into.next_part ≡ s.parts.next = filled.filled.next_is in
    let parts : inner_part ≤ s.parts.next = c.requires.files.parts in
    record {
      tables = filled.tables;
      saved = c.saved.result;
      holds = subst (IsFront eval_count eval_words IsSaved c.saved.result) (sym filled.carry) c.words_of.ensures.front;
      rules = subst (KeepsRules c.fill_without_runs.new.into s.text.now) (sym c.saved.ensures) (record {
        parts = omega (arith, next, parts);
        other = read_as (file_of s.nodes) step next (c.requires.files.others (file_of s.nodes) refl);
        few = few_nodes s.nodes;
        bits = c.requires.ready.bits;
        come = subst IsSome (sym (following_back s.state)) refl;
      });
    }

pub returns-clause-names : goal.returns-clause-names
returns-clause-names g c =
    let filled = c.fill_without_runs.ensures in
    let is = c.saved.ensures in
    record {
      saved = c.saved.result;
      holds = subst (IsFront eval_count eval_words IsSaved c.saved.result) (sym filled.carry) c.words_of.ensures.front;
      file_is = ap (λ (x : SavedEval). x.unread.file) is;
      variables_are = ap (λ (x : SavedEval). x.n) is;
      at_is = ap (λ (x : SavedEval). x.at) is;
      step_is = filled.head.step_is ∙ c.requires.step;
      next_is = filled.filled.next_is;
    }

pub returns-clause-stands : goal.returns-clause-stands
returns-clause-stands g c = λ told d remains.
    let world = g.S.Shelf.world c.args.shelf.now in
    record {
      saved = c.saved.result;
      holds = subst (IsFront eval_count eval_words IsSaved c.saved.result) (sym c.fill_without_runs.ensures.carry)
          c.words_of.ensures.front;
      goes_on = subst (λ x. GoesOn x c.args.self.now.text.now (reads_of world) d (turns_left c.args.self.now))
          (sym c.saved.ensures) (saved_goes_on c.args.self.now world d remains);
    }

pub returns-clause-still : goal.returns-clause-still
returns-clause-still g c = λ later same.
    stays_evaluated c.args.self.now (g.S.Shelf.world c.args.shelf.now) later
    (same (file_of c.args.self.now.nodes) (inl refl))
