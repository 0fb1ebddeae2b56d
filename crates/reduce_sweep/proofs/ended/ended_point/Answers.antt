use Rattle.std.proofs.Common.{◌≤◌, ◌∙◌, refl, sym, subst}
use Rattle.sweep_core.specs.Saving.{IsMadePart}
use Rattle.reduce_sweep.proofs.Ending.{ended_fits, ended_names, ended_stands}
use Rattle.reduce_sweep.proofs.ended.ended_point.Goals as goal

pub returns-clause-fits : goal.returns-clause-fits
returns-clause-fits c = λ past made.
    let filled = c.fill_without_runs.ensures in
    let at = c.checkpoint_file-none.ensures
    ∙ (λ j. record { step = sym filled.head.step_is j; part = 1 }) in
    ended_fits c.fill_without_runs.new.into _ c.args.count _ c.words_of.ensures.front (record {
      carry_is = filled.carry;
      phase_is = c.of.ensures;
      kept_is = refl;
      inner_is = at;
      ends_is = at;
      no_inner = refl;
      no_ends = refl;
      no_tables = filled.tables;
    })
    (subst (λ n. 3 ≤ n) (sym filled.filled.next_is) past)
    (subst (λ v. v) (λ j. IsMadePart (sym filled.head.step_is j) (sym filled.filled.next_is j) c.args.out) made)

pub returns-clause-names : goal.returns-clause-names
returns-clause-names c =
    let filled = c.fill_without_runs.ensures in
    let at = c.checkpoint_file-none.ensures
    ∙ (λ j. record { step = sym filled.head.step_is j; part = 1 }) in
    ended_names c.fill_without_runs.new.into _ c.args.count _ c.words_of.ensures.front (record {
      carry_is = filled.carry;
      phase_is = c.of.ensures;
      kept_is = refl;
      inner_is = at;
      ends_is = at;
      no_inner = refl;
      no_ends = refl;
      no_tables = filled.tables;
    })

pub returns-clause-stands : goal.returns-clause-stands
returns-clause-stands c = λ r d turns bytes many.
    let filled = c.fill_without_runs.ensures in
    let at = c.checkpoint_file-none.ensures
    ∙ (λ j. record { step = sym filled.head.step_is j; part = 1 }) in
    ended_stands c.fill_without_runs.new.into _ c.args.count _ c.words_of.ensures.front (record {
      carry_is = filled.carry;
      phase_is = c.of.ensures;
      kept_is = refl;
      inner_is = at;
      ends_is = at;
      no_inner = refl;
      no_ends = refl;
      no_tables = filled.tables;
    }) r d turns bytes many
