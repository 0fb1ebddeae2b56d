use Rattle.std.proofs.Common.{◌≡◌, ◌≢◌, ◌∙◌, refl, sym, ap}
use Rattle.std.specs.Prelude.{Option, Some, None, IfNone}
use Rattle.std.proofs.lemmas.Bool.{false≢true}
use Rattle.reduce_sweep.specs.declared.saved.Saved.{Saved}
use Rattle.reduce_sweep.specs.ResumeLaws.{one_reduction, fits_at}
use Rattle.reduce_sweep.specs.SavedPhase.{phase_of}
use Rattle.reduce_sweep.proofs.reduce.ReduceSweep.fits.Goals as goal

-- what is said of none
of_none : {X P : Type 0} (o : Option X) → ((x : X) → o ≢ Some x) → IfNone o P → P
of_none None other none = none
of_none (Some x) other none = absurd (other x refl)

-- no words of a reduction stand there
pub returns-in_default : goal.returns-in_default
returns-in_default c = (
  λ is. absurd (false≢true is),
  λ fits. absurd (of_none c.value_of.result c.in_default.not-Some c.value_of.ensures.none fits.saved fits.holds),
)

-- it has no phase
pub returns-in_default-phase : goal.returns-in_default-phase
returns-in_default-phase c = (
  λ is. absurd (false≢true is),
  λ fits.
      let same : fits.saved ≡ c.in-Some.saved = one_reduction c.args.point.now fits.saved c.in-Some.saved fits.holds
      c.in-Some.ensures.found in
      absurd (c.in_default-phase.not-Some fits.phase
      (c.phase.ensures ∙ ap (λ (y : Saved). phase_of y.phase) (sym same) ∙ fits.phase_is)),
)

pub returns : goal.returns
returns c =
    let phase_is : phase_of c.in-Some.saved.phase ≡ Some c.in-Some-phase.phase =
    sym c.phase.ensures ∙ c.in-Some-phase.is in (
      λ is. record {
        saved = c.in-Some.saved;
        holds = c.in-Some.ensures.found;
        phase = c.in-Some-phase.phase;
        phase_is = phase_is;
        rules = c.keeps_rules.ensures.0 is;
      },
      λ fits. c.keeps_rules.ensures.1
          (fits_at c.args.point.now c.in-Some.saved c.in-Some-phase.phase fits c.in-Some.ensures.found phase_is),
    )
