use Rattle.std.proofs.Common.{◌∙◌, sym, ap, refl}
use Rattle.catalogue.specs.declared.layout.Entry.{Entry}
use Rattle.catalogue.proofs.Fields.{same_entry}
use Rattle.step_engine.proofs.kinds.entry_of_kind.Goals as goal

pub returns-then-found-kind-clause-err : goal.returns-then-found-kind-clause-err
returns-then-found-kind-clause-err g c = λ t. (
  refl,
  refl,
  λ e is same.
      let found = c.in_ok-found.ensures.ok t in
      c.if-found-kind.true (ap (λ (x : Entry). x.kind) (same_entry c.in_ok-found.found e found.entry.fits is.entry.fits (sym found.bytes ∙ is.bytes)) ∙ same),
)
