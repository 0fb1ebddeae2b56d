use Rattle.std.proofs.Common.{rules, refl, sym, ap, ◌∙◌, option_map}
use Rattle.std.specs.Prelude.{string_bytes}
use Rattle.std.specs.Option.{option_map_or}
use Rattle.std.specs.BTreeMap.{get_by_text}
use Rattle.shelf_memory.specs.declared.texts.Text.{Text}
use Rattle.shelf_memory.specs.Texts.{text_at, count_at}
use Rattle.shelf_memory.proofs.Paths.{same_at, apart_at}
use Rattle.shelf_memory.proofs.texts.put_text.Goals as goal

pub returns-in-Some-clause-apart : goal.returns-in-Some-clause-apart
returns-in-Some-clause-apart c = λ q differ.
    let w : Text = record { bytes = c.in_ok-copy.copy; faults = c.in-Some.text.now.faults } in
    ap (λ o. option_map (λ (t : Text). t.bytes.items) o)
    (apart_at c.args.texts.now (c.get_mut.follows.lender w) c.args.path.now _ ((c.get_mut.follows.holds w).3 (search rules)) q differ)

pub returns-in-Some-clause-counts : goal.returns-in-Some-clause-counts
returns-in-Some-clause-counts c =
    let w : Text = record { bytes = c.in_ok-copy.copy; faults = c.in-Some.text.now.faults } in
    same_at (λ o. option_map_or (λ (t : Text). t.faults) o c.args.others) c.args.texts.now (c.get_mut.follows.lender w) c.args.path.now _ _
    ((c.get_mut.follows.holds w).3 (search rules)) (sym c.in-Some.ensures.value) refl

pub returns-clause-apart : goal.returns-clause-apart
returns-clause-apart c = λ q differ.
    ap (λ o. option_map (λ (t : Text). t.bytes.items) o)
    (apart_at c.get_mut.follows.lender-at-none c.insert.new.self (string_bytes c.in_ok-name.name) _ c.in_ok-insert.ensures.updates q (λ e. differ (e ∙ c.in_ok-name.ensures.ok)))
    ∙ ap (λ m. text_at m q) c.get_mut.follows.holds-at-none

pub returns-clause-counts : goal.returns-clause-counts
returns-clause-counts c = λ q.
    same_at (λ o. option_map_or (λ (t : Text). t.faults) o c.args.others) c.get_mut.follows.lender-at-none c.insert.new.self (string_bytes c.in_ok-name.name) _ _
    c.in_ok-insert.ensures.updates
    (ap (λ m. get_by_text m (string_bytes c.in_ok-name.name)) c.get_mut.follows.holds-at-none ∙ ap (λ bs. get_by_text c.args.texts.now bs) c.in_ok-name.ensures.ok
    ∙ sym c.in_default.ensures.value) refl q
    ∙ ap (λ m. count_at c.args.others m q) c.get_mut.follows.holds-at-none
