use Rattle.std.proofs.Common.{◌∙◌, ◌<◌, nat_lt, refl, ap, sym, subst, inl, arith}
use Rattle.std.specs.Prelude.{IsTrue, Ok, Err}
use Rattle.std.specs.List.{list_all}
use Rattle.bool_tables.specs.Plans.{operands}
use Rattle.catalogue.specs.declared.layout.Entry.{Entry}
use Rattle.shelf_model.specs.SortFaults.{handed_on}
use Rattle.shelf_model.specs.World.{now}
use Rattle.step_work.specs.Tuples.{sweeps}
use Rattle.sound_image.specs.Files.{node_file}
use Rattle.sound_image.specs.Entries.{IsEntryOfStep, kind_of}
use Rattle.step_engine.proofs.EntryLaws.{for_nameless, size_entry_is, only_below, one_turn_spent}
use Rattle.step_engine.proofs.OneTurn.{first_parts, one_stops, size_calls, size_fault, size_sound, size_kind, size_makes, size_reads}
use Rattle.step_engine.proofs.Resuming.{one_resumes}
use Rattle.step_engine.proofs.RunFaults.{shelf_faults, shelf_fine}
use Rattle.step_engine.proofs.Runs.{handed_runs}
use Rattle.step_engine.proofs.Written.{changes_none, fills_none, same_bytes}
use Rattle.step_engine.proofs.simple.run_size.Goals as goal

pub returns-in_err-nodes : goal.returns-in_err-nodes
returns-in_err-nodes g c =
    let p = c.args.planned.now in
    let e = c.in_err-nodes.field-0.0 in
    let said = c.in_err-nodes.ensures in
    let below : c.args.of < c.args.number =
    only_below c.args.number c.args.of (subst (λ s. IsTrue (list_all (λ k. nat_lt k c.args.number) (operands s))) c.requires.kind c.requires.step.operands_are) in
    let content = changes_none g.S.Shelf.tells g.S.Shelf.world p.step c.args.number _ _ said.content in
    record {
      runs = handed_runs g.S.Shelf.tells g.S.Shelf.world g.S.Shelf.faults c.args.n c.args.text.now c.args.number p _ _ _ c.from_residual.result
          c.from_residual.ensures.1 (record {
            content = content;
            fits = tt;
            entry = tt;
            made = tt;
            untaken = tt;
            unmade = tt;
            resumes = one_resumes g.S.Shelf.tells g.S.Shelf.world c.args.n c.args.text.now c.args.number p g.met.S.Shelf.files_are _ _
                (ap sweeps c.requires.kind) content;
            sound = λ told job is holds. size_sound job c.args.n c.args.number c.args.of c.args.text.now p e (g.S.Shelf.world c.args.shelf.now) c.requires.kind is below
                holds (said.err told);
            damaged = λ told. inl (size_fault c.args.n c.args.of p.step c.requires.kind (g.S.Shelf.world c.args.shelf.now) e (said.err told));
            kind = size_kind p.step e;
            calls = tt;
            few_parts = tt;
            one_turn = λ told not. let few = said.calls told in omega (arith, few);
            few_calls = λ told job is holds rest pays. size_calls c.args.of p.step c.requires.kind _ rest _ _ (said.calls told);
            stops = λ told job is holds small. one_stops g.S.Shelf.tells g.S.Shelf.world c.args.n c.args.text.now c.args.number p g.met.S.Shelf.files_are _ _
                (ap sweeps c.requires.kind) content (λ sure. let few = said.calls sure in omega (arith, few)) (Err (handed_on e)) told job is holds;
            faults = shelf_faults _ _ e said.faults;
          });
    }

pub returns : goal.returns
returns g c =
    let p = c.args.planned.now in
    let found = c.in_ok-nodes.field-0 in
    let said = c.in_ok-nodes.ensures in
    let below : c.args.of < c.args.number =
    only_below c.args.number c.args.of (subst (λ s. IsTrue (list_all (λ k. nat_lt k c.args.number) (operands s))) c.requires.kind c.requires.step.operands_are) in
    let content = changes_none g.S.Shelf.tells g.S.Shelf.world p.step c.args.number _ _ said.content in
    record {
      runs = record {
        content = content;
        fits = for_nameless c.args.number 3 0 found.count _ p _ c.nameless_entry.ensures c.requires.step.few_steps (omega arith, omega arith) (inl refl) (search arith)
            one_turn_spent (ap kind_of c.requires.kind);
        entry = λ told job ready. subst (IsEntryOfStep job c.args.number) (sym c.nameless_entry.ensures)
            (size_entry_is job c.args.number c.args.of p found (now (g.S.Shelf.world c.args.shelf.now)).folder c.requires.step.few_steps ready.step.step_is c.requires.kind below
            (ready.holds (size_reads c.args.of p.step c.requires.kind)) (said.ok told) said.kind);
        made = λ told job ready diagram. absurd (size_makes job c.args.n c.args.number c.args.of c.args.text.now p c.requires.kind ready.step diagram);
        untaken = λ told. fills_none c.args.number c.nameless_entry.result.parts _ _ (said.content.did told);
        unmade = λ told not empty. same_bytes (node_file c.args.number) _ _ (said.content.did told) ∙ empty;
        resumes = one_resumes g.S.Shelf.tells g.S.Shelf.world c.args.n c.args.text.now c.args.number p g.met.S.Shelf.files_are _ _
            (ap sweeps c.requires.kind) content;
        sound = tt;
        damaged = tt;
        kind = tt;
        calls = λ told rest pays exact. size_calls c.args.of p.step c.requires.kind _ rest _ _ (said.calls told);
        few_parts = λ told spare spares. first_parts _ _ spare (ap (λ (x : Entry). x.parts) c.nameless_entry.ensures);
        one_turn = λ told not. let few = said.calls told in omega (arith, few);
        few_calls = λ told job is holds rest pays. size_calls c.args.of p.step c.requires.kind _ rest _ _ (said.calls told);
        stops = λ told job is holds small. one_stops g.S.Shelf.tells g.S.Shelf.world c.args.n c.args.text.now c.args.number p g.met.S.Shelf.files_are _ _
            (ap sweeps c.requires.kind) content (λ sure. let few = said.calls sure in omega (arith, few)) (Ok c.nameless_entry.result) told job is holds;
        faults = shelf_fine _ _ _ _ said.faults;
      };
    }
