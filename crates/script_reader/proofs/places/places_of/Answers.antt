use Rattle.std.proofs.Common.{◌≡◌, ◌+◌, ◌<◌, false, Option, Some, None, List, ℕ, [], length, get_or, take, drop, refl, sym, ap, subst, ◌∙◌, arith, inl, inr}
use Rattle.std.proofs.lemmas.Grind.{common_steps}
use Rattle.std.specs.Prelude.{is_some}
use Rattle.std.specs.List.{IsDistinct}
use Rattle.std.specs.Str.{bytes_eq}
use Rattle.std.proofs.lemmas.List.{length-map, length-take, take_all}
use Rattle.std.proofs.lemmas.Bool.{cases_Bool}
use Rattle.std.proofs.lemmas.Map.Text.{btree_map_updates_str}
use denote.Ref.{Bor}
use Rattle.script_reader.specs.Names.{place_of as level_of}
use Rattle.script_reader.specs.Names.{all_differ}
use Rattle.script_reader.specs.Views.{texts, found_in as number_in}
use Rattle.script_reader.proofs.Numbers.{distinct_from, distinct_to, level_of_more, differ_none, differ_more, no_level, texts_more, texts_split}
use Rattle.script_reader.proofs.places.places_of.Goals as goal

none_is : (o : Option ℕ) → false ≡ is_some o → o ≡ None
none_is None e = refl
none_is (Some level) e = absurd cc

abbrev no_slice : Bor (List ℕ)
no_slice = record { ref_ptr = (0, 0); now = [] }

pub loop-place-init : goal.loop-place-init
loop-place-init c = record {
  places = λ name. rw c.new-places.ensures.empty refl;
  differ = differ_none;
}

pub returns-then-is_some-clause-differ : goal.returns-then-is_some-clause-differ
returns-then-is_some-clause-differ c =
    let names = c.args.names.now in
    let i = c.loop-place.place in
    let lt : i < length names = omega arith in
    let name = (get_or names i no_slice).now in
    elim (cases_Bool (all_differ (texts names))) [
      | inl differ ↦
          let fresh : is_some (level_of (take i (texts names)) name) ≡ false =
          no_level (take i (texts names)) name (drop (i + 1) (texts names)) (subst (IsDistinct bytes_eq) (texts_split names i no_slice lt) (distinct_from (texts names) differ)) in
          let old : c.in_ok-insert.field-0 ≡ level_of (take i (texts names)) name = c.in_ok-insert.ensures.old ∙ c.loop-place.invariant.places name in
          let found = c.if-is_some.ensures ∙ ap is_some old ∙ fresh in
          absurd cc
      | inr twice ↦ sym twice
    ]

pub loop-place-preserved : goal.loop-place-preserved
loop-place-preserved c =
    let names = c.args.names.now in
    let i = c.loop-place.place in
    let lt : i < length names = omega arith in
    let name = (get_or names i no_slice).now in
    let old : number_in c.loop-place.places name ≡ None = sym c.in_ok-insert.ensures.old ∙ none_is _ c.if-is_some.ensures in
    let place : length (take i (texts names)) ≡ i = omega (arith, length-take i (texts names), length-map names (λ s. s.now)) in
    record {
      places = rw (texts_more names i no_slice lt) (level_of_more (take i (texts names)) name (number_in c.loop-place.places) (number_in c.insert.new.self) c.loop-place.invariant.places old
          (rw place (btree_map_updates_str name c.loop-place.places c.insert.new.self _ c.in_ok-insert.ensures.updates)));
      differ = rw (texts_more names i no_slice lt) (differ_more (take i (texts names)) name c.loop-place.invariant.differ (sym (c.loop-place.invariant.places name) ∙ old));
    }

pub returns-clause-places : goal.returns-clause-places
returns-clause-places c = grind (arith, common_steps)

pub returns-clause-differ : goal.returns-clause-differ
returns-clause-differ c =
    let names = c.args.names.now in
    let whole : take c.loop-place.place (texts names) ≡ texts names =
    take_all c.loop-place.place (texts names) (omega (arith, length-map names (λ s. s.now), c.loop-place-test.false)) in
    sym (distinct_to (texts names) (subst (IsDistinct bytes_eq) whole c.loop-place.invariant.differ))
