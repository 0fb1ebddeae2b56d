use Rattle.std.proofs.Common.{rules, ap, sym, refl, option_map}
use Rattle.std.specs.Option.{option_map_or}
use Rattle.shelf_memory.specs.declared.texts.Text.{Text}
use Rattle.shelf_memory.proofs.Paths.{same_at, later_at, apart_at}
use Rattle.shelf_memory.proofs.texts.count_fault.Goals as goal

pub returns-in-Some-clause-texts : goal.returns-in-Some-clause-texts
returns-in-Some-clause-texts c =
    let w : Text = record { bytes = c.in-Some.text.now.bytes; faults = c.raise-text.result } in
    same_at (λ o. option_map (λ (t : Text). t.bytes.items) o) c.args.texts.now (c.get_mut.follows.lender w) c.args.path.now _ _
    ((c.get_mut.follows.holds w).3 (search rules)) (sym c.in-Some.ensures.value) refl

pub returns-in-Some-clause-later : goal.returns-in-Some-clause-later
returns-in-Some-clause-later c =
    let w : Text = record { bytes = c.in-Some.text.now.bytes; faults = c.raise-text.result } in
    later_at c.args.others.now c.args.texts.now (c.get_mut.follows.lender w) c.args.path.now _ _
    ((c.get_mut.follows.holds w).3 (search rules)) (sym c.in-Some.ensures.value) c.raise-text.ensures.later

pub returns-in-Some-clause-apart : goal.returns-in-Some-clause-apart
returns-in-Some-clause-apart c = λ q differ _.
    let w : Text = record { bytes = c.in-Some.text.now.bytes; faults = c.raise-text.result } in
    ap (λ o. option_map_or (λ (t : Text). t.faults) o c.args.others.now)
    (apart_at c.args.texts.now (c.get_mut.follows.lender w) c.args.path.now _ ((c.get_mut.follows.holds w).3 (search rules)) q differ)
