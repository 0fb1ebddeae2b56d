use Rattle.std.proofs.Common.{◌∙◌, ◌<◌, ◌≤◌, ◌^◌, refl, sym, ap, subst, inl, arith}
use Rattle.catalogue.specs.Entries.{IsEntry}
use Rattle.step_engine.specs.StepEntries.{nameless_entry, one_turn}
use Rattle.step_engine.proofs.EntryLaws.{nameless_fits, one_turn_spent}
use Rattle.step_engine.proofs.entries.drop_entry.Goals as goal

pub returns-clause-is : goal.returns-clause-is
returns-clause-is c = c.nameless_entry.ensures ∙ ap (λ k. nameless_entry c.args.number 2 0 k one_turn) c.from.ensures

pub returns-clause-entry : goal.returns-clause-entry
returns-clause-entry c =
    subst IsEntry (sym (c.nameless_entry.ensures ∙ ap (λ k. nameless_entry c.args.number 2 0 k one_turn) c.from.ensures))
    (nameless_fits c.args.number 2 0 c.args.gone one_turn (omega arith) (omega arith, omega arith) (inl refl) (omega arith) one_turn_spent)
