-- How a sweep begins, and the order of its asks.
use Rattle.std.proofs.Common.{◌≡◌, ℕ, ◌≤◌, ◌∙◌, cond, List, [], ◌∷◌, refl, subst, sym, ap, inl, inr, arith}
use Rattle.std.specs.Prelude.{Option, Some, None, map, ◌==◌, get_or, set}
use Rattle.std.specs.List.{swap}
use Rattle.std.specs.List.Sorted.{IsPermutation, SwapsInRange, apply_swaps}
use Rattle.std.proofs.Math.ListN.{get_or-map}
use Rattle.std.proofs.lemmas.List.{map-set, length-map}
use Rattle.std.proofs.lemmas.List.Sorted.{IsPermutation-map, length_permutation, sum_by-IsPermutation}
use Rattle.list_laws.specs.Members.{SameMembers}
use Rattle.list_laws.proofs.SameMembers.{same_permuted}
use Rattle.rec_words.specs.Words.{terminal}
use Rattle.arc_file.specs.declared.arc.Arc.{Arc}
use Rattle.arc_diagrams.specs.Laws.{IsDiagramOf}
use Rattle.arc_diagrams.proofs.CanonArcs.{constant_is_diagram}
use Rattle.top_down.specs.declared.tuple.Tuple.{Tuple}
use Rattle.top_down.specs.Tuples.{level_of_tuple}
use Rattle.top_down.specs.Rules.{Rule, IsAsked}
use Rattle.top_down.proofs.TurnLaws.{asked_at, asks_permuted}
use Rattle.top_down_laws.specs.Forms.{Waiting, nobody, least}
use Rattle.top_down_laws.specs.Readings.{Diagrams, targets_in, Readings}
use Rattle.top_down_laws.specs.Remains.{IsTask, Open, waiting_of, ask_of, IsOpen, Waits, Numbered, identifier, IsMade}
use Rattle.top_down_laws.specs.Laws.{ConstantEnds, RootIsAsked, WaitInAnyOrder}
use Rattle.top_down_laws.proofs.CountLaws.{asks_added}
use Rattle.top_down_laws.proofs.FormLaws.{least_key, first_form-is}

pub root_is_asked : (n : ℕ) (rule : Rule) (d : Diagrams) (roots : Tuple) → IsTask n rule d roots
    → RootIsAsked n rule d roots
root_is_asked n rule d roots task x goes =
    let o : Open = record { asker = nobody; tuple = x; key = least x } in
    let asked : IsAsked n rule 0 x =
    task.is_rule.goes_asked 0 roots x (omega arith) task.asked goes in
    let opened : IsOpen n rule d o = record {
      members = task.picks.goal roots x task.roots_in goes;
      asked = asked_at n rule (targets_in d) task.is_rule (level_of_tuple x) 0 x
          (omega arith) asked;
      low = task.is_rule.goes_low 0 roots x (omega arith) task.asked goes;
      key_is = least_key x;
    } in
    record {
      opens = o ∷ [];
      are = λ i. record { form = first_form-is (targets_in d) x i; asker = nobody } ∷ [];
      waits = record {
        are_open = λ p m. elim m [
          | inl is ↦ subst (IsOpen n rule d) is opened
          | inr none ↦ absurd
              none
        ];
        behind = λ p m. tt;
        once = asks_added o [] (λ p m. absurd m) (λ w. omega arith);
        reading = record { first = refl; second = refl; third = refl };
        reach = λ p m. record { first = tt; second = tt; third = tt };
      };
      made = record {
        ask = o;
        only = refl;
        asker_is = refl;
        goes = goes;
        root_is = refl;
        no_inner = refl;
        no_ends = refl;
      };
    }

-- other asks in place of those that are open, as many of each
waits_permuted : (n : ℕ) (rule : Rule) (d : Diagrams) (r : Readings) (last : Option Waiting)
    (opens others : List Open) → IsPermutation opens others
    → Waits n rule d r last opens → Waits n rule d r last others
waits_permuted n rule d r last opens others moved w =
    let same : SameMembers opens others = same_permuted opens others moved in
    record {
      are_open = λ o m. w.are_open o (same.back o m);
      behind = λ o m. w.behind o (same.back o m);
      once = λ a. subst (λ k. k ≤ 1)
          (sym (sum_by-IsPermutation (λ (o : Open). cond (o.asker == a) 1 0) opens others moved))
          (w.once a);
      reading = w.reading;
      reach = λ o m. w.reach o (same.back o m);
    }

one_permuted : {X : Type 0} (x : X) (others : List X) → IsPermutation (x ∷ []) others
    → others ≡ x ∷ []
one_permuted x [] moved = absurd (omega (arith, length_permutation (x ∷ []) [] moved))
one_permuted x (y ∷ []) moved =
    elim ((same_permuted (x ∷ []) (y ∷ []) moved).back y (inl refl)) [
      | inl is ↦ (λ i. sym is i ∷ [])
      | inr none ↦ absurd none
    ]
one_permuted x (y ∷ z ∷ ys) moved =
    absurd (omega (arith, length_permutation (x ∷ []) (y ∷ z ∷ ys) moved))

made_permuted : (n : ℕ) (rule : Rule) (d : Diagrams) (roots : Tuple) → IsTask n rule d roots
    → (root : ℕ) (newest : Option Numbered) (last : Option Waiting)
    (inner ends : List Arc) (opens others : List Open) → IsPermutation opens others
    → IsMade n rule d roots root newest last inner ends opens
    → IsMade n rule d roots root newest last inner ends others
made_permuted n rule d roots task root None last inner ends opens others moved m = record {
  ask = m.ask;
  only = one_permuted m.ask others (subst (λ os. IsPermutation os others) m.only moved);
  asker_is = m.asker_is;
  goes = m.goes;
  root_is = m.root_is;
  no_inner = m.no_inner;
  no_ends = m.no_ends;
}
made_permuted n rule d roots task root (Some x) last inner ends opens others moved m = record {
  used = m.used;
  tuple = m.tuple;
  grows = asks_permuted n root rule (targets_in d) task.is_rule inner ends
      (identifier x ∷ m.used) m.tuple (map ask_of opens) (map ask_of others)
      (IsPermutation-map ask_of opens others moved) m.grows;
  goes = m.goes;
  members = m.members;
  is_met = m.is_met;
  few = m.few;
  form_is = m.form_is;
  key_is = m.key_is;
  upto = m.upto;
  taken = m.taken;
  last_is = m.last_is;
  reached = m.reached;
  answered = m.answered;
}

-- a list in another order is that of items in another order
map-swap : {X Y : Type 0} (f : X → Y) (xs : List X) (i j : ℕ)
    → map f (swap xs i j) ≡ swap (map f xs) i j
map-swap f [] i j = refl
map-swap {X = X} f (d ∷ ys) i j =
    let xs : List X = d ∷ ys in
    map-set f (set xs i (get_or xs j d)) j (get_or xs i d)
    ∙ (λ t. set ((map-set f xs i (get_or xs j d)
    ∙ ap (set (map f xs) i) (sym (get_or-map f xs j d))) t) j (sym (get_or-map f xs i d) t))

map-apply_swaps : {X Y : Type 0} (f : X → Y) (xs : List X) (moves : List (ℕ × ℕ))
    → map f (apply_swaps xs moves) ≡ apply_swaps (map f xs) moves
map-apply_swaps f xs [] = refl
map-apply_swaps f xs (p ∷ ps) = map-swap f (apply_swaps xs ps) p.0 p.1
    ∙ ap (λ l. swap l p.0 p.1) (map-apply_swaps f xs ps)

unmapped : {X Y : Type 0} (f : X → Y) (xs : List X) (ys : List Y) → IsPermutation (map f xs) ys
    → (zs : List X) × (ys ≡ map f zs) × IsPermutation xs zs
unmapped f xs ys moved = (
  apply_swaps xs moved.moves,
  moved.is ∙ sym (map-apply_swaps f xs moved.moves),
  record {
    moves = moved.moves;
    below = subst (λ k. SwapsInRange k moved.moves) (length-map xs f) moved.below;
    is = refl;
  },
)

pub in_any_order : (n : ℕ) (rule : Rule) (d : Diagrams) (roots : Tuple) → IsTask n rule d roots
    → WaitInAnyOrder n rule d roots
in_any_order n rule d roots task place waiting others last r inner ends moved m =
    let (opens, are, same) =
    unmapped (waiting_of (targets_in d)) m.opens others
    (subst (λ ws. IsPermutation ws others) m.are moved) in
    record {
      opens = opens;
      are = are;
      waits = waits_permuted n rule d r last m.opens opens same m.waits;
      made = made_permuted n rule d roots task place.root place.newest last inner ends m.opens opens
          same m.made;
    }

pub constant_ends : (n : ℕ) (rule : Rule) (d : Diagrams) (roots : Tuple) → IsTask n rule d roots
    → ConstantEnds n rule d roots
constant_ends n rule d roots task value says =
    subst (IsDiagramOf n (terminal value) [])
    (sym (task.is_rule.ends n 0 roots value (omega arith) task.asked says))
    (constant_is_diagram n value task.few)
