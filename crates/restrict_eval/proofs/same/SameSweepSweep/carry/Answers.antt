use Rattle.std.proofs.Common.{◌≡◌, ◌≤◌, ◌∙◌, refl, sym, ap, subst, inl, inr, arith}
use Rattle.file_numbers.specs.Files.{inner_part}
use Rattle.saved_words.specs.Fronts.{IsFront}
use Rattle.sweep_core.specs.Saving.{reads_of}
use Rattle.node_file.specs.Readers.{file_of}
use Rattle.restrict_eval.specs.declared.saved.SavedSame.{SavedSame}
use Rattle.restrict_eval.specs.Same.{turns_left}
use Rattle.restrict_eval.specs.SavedSame.{same_count, same_words, IsSaved}
use Rattle.restrict_eval.specs.SameResumes.{KeepsRules, GoesOn}
use Rattle.restrict_eval.proofs.SameSaving.{read_as, saved_goes_on, stays_compared, few_nodes}
use Rattle.restrict_eval.proofs.same.SameSweepSweep.carry.Goals as goal

pub returns-clause-fits : goal.returns-clause-fits
returns-clause-fits g c =
    let filled = c.fill_without_runs.ensures in
    let s = c.args.self.now in
    let step : c.fill_without_runs.new.into.step ≡ s.parts.step = filled.head.step_is ∙ c.requires.step in
    let next : c.fill_without_runs.new.into.next_part ≡ s.parts.next = filled.filled.next_is in
    let parts : inner_part ≤ s.parts.next = c.requires.files.parts in
    record {
      tables = filled.tables;
      saved = c.saved.result;
      holds = subst (IsFront same_count same_words IsSaved c.saved.result) (sym filled.carry) c.words_of.ensures.front;
      rules = subst (KeepsRules c.fill_without_runs.new.into) (sym c.saved.ensures) (record {
        parts = omega (arith, next, parts);
        first_other = read_as (file_of s.left) step next (c.requires.files.others (file_of s.left) (inl refl));
        second_other = read_as (file_of s.right) step next (c.requires.files.others (file_of s.right) (inr refl));
        first_few = few_nodes s.left;
        second_few = few_nodes s.right;
      });
    }

pub returns-clause-names : goal.returns-clause-names
returns-clause-names g c =
    let filled = c.fill_without_runs.ensures in
    let is = c.saved.ensures in
    record {
      saved = c.saved.result;
      holds = subst (IsFront same_count same_words IsSaved c.saved.result) (sym filled.carry) c.words_of.ensures.front;
      first_is = ap (λ (x : SavedSame). x.left.file) is;
      second_is = ap (λ (x : SavedSame). x.right.file) is;
      first_variables_are = ap (λ (x : SavedSame). x.n) is;
      second_variables_are = ap (λ (x : SavedSame). x.n) is ∙ c.requires.ready.variables;
      step_is = filled.head.step_is ∙ c.requires.step;
      next_is = filled.filled.next_is;
    }

pub returns-clause-stands : goal.returns-clause-stands
returns-clause-stands g c = λ told d remains.
    let world = g.S.Shelf.world c.args.shelf.now in
    record {
      saved = c.saved.result;
      holds = subst (IsFront same_count same_words IsSaved c.saved.result) (sym c.fill_without_runs.ensures.carry)
          c.words_of.ensures.front;
      goes_on = subst (λ x. GoesOn x (reads_of world) d (turns_left c.args.self.now)) (sym c.saved.ensures)
          (saved_goes_on c.args.self.now world d remains);
    }

pub returns-clause-still : goal.returns-clause-still
returns-clause-still g c = λ later same.
    stays_compared c.args.self.now (g.S.Shelf.world c.args.shelf.now) later
    (same (file_of c.args.self.now.left) (inl (inl refl))) (same (file_of c.args.self.now.right) (inl (inr refl)))
