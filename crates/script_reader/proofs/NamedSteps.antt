-- Names that are live name live diagrams of the steps, and different names different ones.
use Rattle.std.proofs.Common.{◌≡◌, ℕ, zero, suc, ◌<◌, ◌≤◌, Bool, true, false, cond, List, [], ◌∷◌, ◌++◌, length, Option, Some, None, refl, sym, ap, subst, ◌∙◌, append_assoc, arith}
use Rattle.std.specs.Prelude.{Result, Ok, ◌&&◌, nat_lt}
use Rattle.std.specs.List.{list_any, list_all}
use Rattle.std.specs.Str.{bytes_eq}
use Rattle.std.specs.Map.{update}
use Rattle.std.proofs.lemmas.Bool.{and_from, and_parts, or_from, not-true, not_from_false, ne_eqb}
use Rattle.std.proofs.lemmas.List.{append-nil, length-append, length-map}
use Rattle.std.proofs.lemmas.List.Folds.{list_any-append}
use Rattle.std.proofs.lemmas.Slice.Eq.{bytes_eq-Decides}
use Rattle.bool_tables.specs.Plans.{makes_diagram, is_diagram, is_live, drops, operands, levels_of, has_bits, has_name, may_follow, all_may_follow}
use Rattle.bool_tables.specs.declared.steps.Planned.{Planned}
use Rattle.bool_tables.specs.declared.steps.Step.{Step}
use Rattle.bool_tables.specs.declared.steps.Step.TheVariants as step
use Rattle.script_reader.specs.declared.fault.ScriptKind.{ScriptKind}
use Rattle.script_reader.specs.declared.planning.Named.{Named}
use Rattle.net_plan.specs.Values.{steps_of}
use Rattle.net_plan.proofs.Follows.{live_is}
use Rattle.net_plan.proofs.Follows.{live as live_steps}
use Rattle.script_reader.specs.Names.{live_of}
use Rattle.script_reader.proofs.Tests.{any_map}

-- a diagram is that of one of the steps
diagram_below : (steps : List Planned) (step : ℕ) → is_diagram steps step ≡ true → step < length steps
diagram_below [] step h = absurd cc
diagram_below (s ∷ steps) zero h = omega arith
diagram_below (s ∷ steps) (suc step) h = omega (arith, diagram_below steps step h)

-- a diagram stays one behind further steps
diagram_stays : (steps : List Planned) (s : Planned) (step : ℕ) → is_diagram steps step ≡ true → is_diagram (steps ++ s ∷ []) step ≡ true
diagram_stays [] s step h = absurd cc
diagram_stays (first ∷ steps) s zero h = h
diagram_stays (first ∷ steps) s (suc step) h = diagram_stays steps s step h

-- the last step's diagram
last_diagram : (steps : List Planned) (s : Planned) → makes_diagram s.step ≡ true → is_diagram (steps ++ s ∷ []) (length steps) ≡ true
last_diagram [] s h = h
last_diagram (first ∷ steps) s h = last_diagram steps s h

-- a test that none of the elements passes, nor one more
none_more : {A : Type 0} (p : A → Bool) (xs : List A) (x : A) → list_any p xs ≡ false → p x ≡ false → list_any p (xs ++ x ∷ []) ≡ false
none_more p xs x none not = list_any-append p xs (x ∷ []) ∙ or_from _ _ none (or_from _ _ not refl)

-- a live step is that of one of the steps
pub live_below : (steps : List Planned) (number : ℕ) → is_live steps number ≡ true → number < length steps
live_below steps number h = diagram_below steps number (and_parts (is_diagram steps number) _ h).0

-- it stays live behind a step that doesn't drop it
stays_live : (steps : List Planned) (s : Planned) (number : ℕ) → is_live steps number ≡ true → drops number s.step ≡ false → is_live (steps ++ s ∷ []) number ≡ true
stays_live steps s number h kept =
    let p = and_parts (is_diagram steps number) _ h in
    and_from _ _ (diagram_stays steps s number p.0)
    (not_from_false _ (none_more (λ (s : Planned). drops number s.step) steps s (not-true _ p.1) kept))

-- a step that makes a diagram drops none
makes_or_drops : (made : Step) (number : ℕ) → makes_diagram made ≡ true → drops number made ≡ false
makes_or_drops (step.Const value) number h = refl
makes_or_drops (step.Var level) number h = refl
makes_or_drops (step.Pair op left right) number h = refl
makes_or_drops (step.Ite test if_one if_zero) number h = refl
makes_or_drops (step.Quantify kind of level) number h = refl
makes_or_drops (step.Restrict of level value) number h = refl
makes_or_drops (step.Drop gone) number h = absurd cc
makes_or_drops (step.Same left right) number h = refl
makes_or_drops (step.Leq left right) number h = refl
makes_or_drops (step.Eval of at) number h = refl
makes_or_drops (step.Size of) number h = refl

-- no step behind the steps is dropped by them, each live name names a live diagram, and no two the same
pub record NamesLive (steps : List Planned) (named : List ℕ → Option Named) : Type 0 where
  pub earlier : (number : ℕ) → length steps ≤ number → list_any (λ (s : Planned). drops number s.step) steps ≡ false
  pub live : (name : List ℕ) (number : ℕ) → live_of (named name) ≡ Ok number → is_live steps number ≡ true
  pub apart : (a b : List ℕ) (number : ℕ) → live_of (named a) ≡ Ok number → live_of (named b) ≡ Ok number → a ≡ b

-- no step and no name
pub none_live : NamesLive [] (λ _. None)
none_live = record { earlier = λ number h. refl; live = λ name number h. absurd cc; apart = λ a b number h k. absurd cc }

abbrev ok_number : ℕ → Result ℕ ScriptKind
ok_number a = Ok a

-- one number is live
same_number : (a b : ℕ) → ok_number a ≡ Ok b → a ≡ b
same_number a b e = cc

earlier_more : (steps : List Planned) (named : List ℕ → Option Named) (s : Planned) → NamesLive steps named → ((number : ℕ) → length steps ≤ number → drops number s.step ≡ false)
    → (number : ℕ) → length (steps ++ s ∷ []) ≤ number → list_any (λ (s : Planned). drops number s.step) (steps ++ s ∷ []) ≡ false
earlier_more steps named s h kept number behind =
    let within : length steps ≤ number = omega (arith, behind, length-append steps (s ∷ [])) in
    none_more (λ (s : Planned). drops number s.step) steps s (h.earlier number within) (kept number within)

-- a step more that drops nothing, and no name
pub names_stay : (steps : List Planned) (named : List ℕ → Option Named) (s : Planned) → NamesLive steps named → ((number : ℕ) → drops number s.step ≡ false) → NamesLive (steps ++ s ∷ []) named
names_stay steps named s h kept = record {
  earlier = earlier_more steps named s h (λ number within. kept number);
  live = λ name number e. stays_live steps s number (h.live name number e) (kept number);
  apart = h.apart;
}

-- a step more that makes the diagram of a name
pub name_more : (steps : List Planned) (named : List ℕ → Option Named) (s : Planned) (given : List ℕ) → NamesLive steps named → makes_diagram s.step ≡ true
    → NamesLive (steps ++ s ∷ []) (update bytes_eq named given (Some (record { step = length steps; dropped = false })))
name_more steps named s given h makes = record {
  earlier = earlier_more steps named s h (λ number within. kept number);
  live = λ name number e. live_by name number (bytes_eq given name) refl e;
  apart = λ a b number e k. apart_by a b number (bytes_eq given a) (bytes_eq given b) refl refl e k;
}
  where
    kept : (number : ℕ) → drops number s.step ≡ false
    kept number = makes_or_drops s.step number makes

    new : Option Named
    new = Some (record { step = length steps; dropped = false })

    last_live : is_live (steps ++ s ∷ []) (length steps) ≡ true
    last_live =
        and_from _ _ (last_diagram steps s makes)
        (not_from_false _ (none_more (λ (s : Planned). drops (length steps) s.step) steps s (h.earlier (length steps) (omega arith)) (kept (length steps))))

    live_by : (name : List ℕ) (number : ℕ) (same : Bool) → bytes_eq given name ≡ same → live_of (cond (bytes_eq given name) new (named name)) ≡ Ok number → is_live (steps ++ s ∷ []) number ≡ true
    live_by name number true same e =
        let is : length steps ≡ number = same_number _ _ (sym (ap (λ b. live_of (cond b new (named name))) same) ∙ e) in
        subst (λ n. is_live (steps ++ s ∷ []) n ≡ true) is last_live
    live_by name number false other e =
        stays_live steps s number (h.live name number (sym (ap (λ b. live_of (cond b new (named name))) other) ∙ e)) (kept number)

    apart_by : (a b : List ℕ) (number : ℕ) (at_a at_b : Bool) → bytes_eq given a ≡ at_a → bytes_eq given b ≡ at_b → live_of (cond (bytes_eq given a) new (named a)) ≡ Ok number
        → live_of (cond (bytes_eq given b) new (named b)) ≡ Ok number → a ≡ b
    apart_by a b number true true x y e k = sym ((bytes_eq-Decides given a).0 x) ∙ (bytes_eq-Decides given b).0 y
    apart_by a b number true false x y e k =
        let is : length steps ≡ number = same_number _ _ (sym (ap (λ t. live_of (cond t new (named a))) x) ∙ e) in
        let below : number < length steps = live_below steps number (h.live b number (sym (ap (λ t. live_of (cond t new (named b))) y) ∙ k)) in
        absurd (omega (arith, is, below))
    apart_by a b number false true x y e k =
        let is : length steps ≡ number = same_number _ _ (sym (ap (λ t. live_of (cond t new (named b))) y) ∙ k) in
        let below : number < length steps = live_below steps number (h.live a number (sym (ap (λ t. live_of (cond t new (named a))) x) ∙ e)) in
        absurd (omega (arith, is, below))
    apart_by a b number false false x y e k =
        h.apart a b number (sym (ap (λ t. live_of (cond t new (named a))) x) ∙ e) (sym (ap (λ t. live_of (cond t new (named b))) y) ∙ k)

-- a step more that drops the diagram of a live name, which is noted
pub name_dropped : (steps : List Planned) (named : List ℕ → Option Named) (s : Planned) (name : List ℕ) (gone : ℕ) → NamesLive steps named → live_of (named name) ≡ Ok gone → s.step ≡ step.Drop gone
    → NamesLive (steps ++ s ∷ []) (update bytes_eq named name (Some (record { step = gone; dropped = true })))
name_dropped steps named s name gone h is_named is_drop = record {
  earlier = earlier_more steps named s h (λ number within. kept number (λ same. omega (arith, same, within, live_below steps gone (h.live name gone is_named))));
  live = λ other number e.
      let p = other_name other number (bytes_eq name other) refl e in
      stays_live steps s number (h.live other number p.0) (kept number (λ same. p.1 (h.apart name other number (is_named ∙ ap Ok same) p.0)));
  apart = λ a b number e k. h.apart a b number (other_name a number (bytes_eq name a) refl e).0 (other_name b number (bytes_eq name b) refl k).0;
}
  where
    kept : (number : ℕ) → (gone ≡ number → ⊥) → drops number s.step ≡ false
    kept number apart = ap (drops number) is_drop ∙ ne_eqb gone number apart

    noted : Option Named
    noted = Some (record { step = gone; dropped = true })

    other_name : (other : List ℕ) (number : ℕ) (same : Bool) → bytes_eq name other ≡ same → live_of (cond (bytes_eq name other) noted (named other)) ≡ Ok number
        → (live_of (named other) ≡ Ok number) × (name ≡ other → ⊥)
    other_name other number true same e =
        let wrong = sym (ap (λ b. live_of (cond b noted (named other))) same) ∙ e in absurd cc
    other_name other number false apart e = (
      sym (ap (λ b. live_of (cond b noted (named other))) apart) ∙ e,
      λ same. let yes : bytes_eq name other ≡ true = (bytes_eq-Decides name other).1 same in absurd cc,
    )

-- the number of a live diagram that no live name names, given a name
pub name_live : (steps : List Planned) (named : List ℕ → Option Named) (given : List ℕ) (made : ℕ) → NamesLive steps named → is_live steps made ≡ true
    → ((name : List ℕ) → live_of (named name) ≡ Ok made → ⊥) → NamesLive steps (update bytes_eq named given (Some (record { step = made; dropped = false })))
name_live steps named given made h is fresh = record {
  earlier = h.earlier;
  live = λ name number e. live_by name number (bytes_eq given name) refl e;
  apart = λ a b number e k. apart_by a b number (bytes_eq given a) (bytes_eq given b) refl refl e k;
}
  where
    new : Option Named
    new = Some (record { step = made; dropped = false })

    live_by : (name : List ℕ) (number : ℕ) (same : Bool) → bytes_eq given name ≡ same → live_of (cond (bytes_eq given name) new (named name)) ≡ Ok number → is_live steps number ≡ true
    live_by name number true same e =
        let number_is : made ≡ number = same_number _ _ (sym (ap (λ b. live_of (cond b new (named name))) same) ∙ e) in
        subst (λ n. is_live steps n ≡ true) number_is is
    live_by name number false other e = h.live name number (sym (ap (λ b. live_of (cond b new (named name))) other) ∙ e)

    apart_by : (a b : List ℕ) (number : ℕ) (at_a at_b : Bool) → bytes_eq given a ≡ at_a → bytes_eq given b ≡ at_b → live_of (cond (bytes_eq given a) new (named a)) ≡ Ok number
        → live_of (cond (bytes_eq given b) new (named b)) ≡ Ok number → a ≡ b
    apart_by a b number true true x y e k = sym ((bytes_eq-Decides given a).0 x) ∙ (bytes_eq-Decides given b).0 y
    apart_by a b number true false x y e k =
        let number_is : made ≡ number = same_number _ _ (sym (ap (λ t. live_of (cond t new (named a))) x) ∙ e) in
        absurd (fresh b (sym (ap (λ t. live_of (cond t new (named b))) y) ∙ k ∙ ap Ok (sym number_is)))
    apart_by a b number false true x y e k =
        let number_is : made ≡ number = same_number _ _ (sym (ap (λ t. live_of (cond t new (named b))) y) ∙ k) in
        absurd (fresh a (sym (ap (λ t. live_of (cond t new (named a))) x) ∙ e ∙ ap Ok (sym number_is)))
    apart_by a b number false false x y e k =
        h.apart a b number (sym (ap (λ t. live_of (cond t new (named a))) x) ∙ e) (sym (ap (λ t. live_of (cond t new (named b))) y) ∙ k)

-- names of steps say nothing of what is live
pub live_same : (steps more : List Planned) (number : ℕ) → steps_of more ≡ steps_of steps → is_live more number ≡ is_live steps number
live_same steps more number same = live_is more number ∙ ap (λ (s : List Step). live_steps s number) same ∙ sym (live_is steps number)

pub names_same : (steps more : List Planned) (named : List ℕ → Option Named) → steps_of more ≡ steps_of steps → NamesLive steps named → NamesLive more named
names_same steps more named same h = record {
  earlier = λ number behind.
      let count : length more ≡ length steps = sym (length-map more (λ (s : Planned). s.step)) ∙ ap length same ∙ length-map steps (λ (s : Planned). s.step) in
      sym (any_map (drops number) (λ (s : Planned). s.step) more) ∙ ap (list_any (drops number)) same ∙ any_map (drops number) (λ (s : Planned). s.step) steps ∙ h.earlier number (omega (arith, behind, count));
  live = λ name number e. live_same steps more number same ∙ h.live name number e;
  apart = h.apart;
}

-- a step that may follow drops none behind those before it
drops_no_later : (before : List Planned) (made : Step) (number : ℕ) → list_all (is_live before) (operands made) ≡ true → length before ≤ number → drops number made ≡ false
drops_no_later before (step.Const value) number h late = refl
drops_no_later before (step.Var level) number h late = refl
drops_no_later before (step.Pair op left right) number h late = refl
drops_no_later before (step.Ite test if_one if_zero) number h late = refl
drops_no_later before (step.Quantify kind of level) number h late = refl
drops_no_later before (step.Restrict of level value) number h late = refl
drops_no_later before (step.Drop gone) number h late =
    ne_eqb gone number (λ same. let less : gone < length before = live_below before gone (and_parts (is_live before gone) true h).0 in absurd (omega (arith, less, same, late)))
drops_no_later before (step.Same left right) number h late = refl
drops_no_later before (step.Leq left right) number h late = refl
drops_no_later before (step.Eval of at) number h late = refl
drops_no_later before (step.Size of) number h late = refl

-- so steps that may follow each other drop none behind them
pub earlier_on : (n : ℕ) (text : List ℕ) (before steps : List Planned) → ((number : ℕ) → length before ≤ number → list_any (λ (s : Planned). drops number s.step) before ≡ false)
    → all_may_follow n text before steps ≡ true → (number : ℕ) → length (before ++ steps) ≤ number → list_any (λ (s : Planned). drops number s.step) (before ++ steps) ≡ false
earlier_on n text before [] h follow number late =
    ap (list_any (λ (s : Planned). drops number s.step)) (append-nil before) ∙ h number (omega (arith, late, ap length (append-nil before)))
earlier_on n text before (s ∷ steps) h follow number late =
    let p = and_parts (may_follow n text before s) (all_may_follow n text (before ++ s ∷ []) steps) follow in
    let q = and_parts (list_all (is_live before) (operands s.step) && list_all (λ level. nat_lt level n) (levels_of s.step)) (has_bits n text s.step && has_name text s) p.0 in
    let r = and_parts (list_all (is_live before) (operands s.step)) (list_all (λ level. nat_lt level n) (levels_of s.step)) q.0 in
    let next : (k : ℕ) → length (before ++ s ∷ []) ≤ k → list_any (λ (t : Planned). drops k t.step) (before ++ s ∷ []) ≡ false =
    λ k behind. let within : length before ≤ k = omega (arith, behind, length-append before (s ∷ [])) in none_more (λ (t : Planned). drops k t.step) before s (h k within) (drops_no_later before s.step k r.0 within) in
    let whole : (before ++ s ∷ []) ++ steps ≡ before ++ s ∷ steps = append_assoc before (s ∷ []) steps in
    ap (list_any (λ (t : Planned). drops number t.step)) (sym whole) ∙ earlier_on n text (before ++ s ∷ []) steps next p.1 number (omega (arith, late, ap length whole))
