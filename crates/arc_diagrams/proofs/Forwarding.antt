-- the arcs to a level are read, and get their final targets
use Rattle.std.specs.Prelude.{◌≡◌, ◌≢◌, ◌<◌, ◌≤◌, ◌==◌, nat_lt, ℕ, suc, false, List, [], ◌∷◌, Option, Some}
use Rattle.std.proofs.Common.{refl, sym, ◌∙◌, ap, inl, inr, arith}
use Rattle.std.proofs.lemmas.Bool.Decides.{nat_tests}
use Rattle.rec_words.specs.Words.{level_of}
use Rattle.canon_file.specs.Members.{Has, SameMembers}
use Rattle.canon_file.proofs.MemberLaws.{either_bit}
use Rattle.arc_file.specs.declared.arc.Arc.{Arc}
use Rattle.arc_diagrams.specs.Arcs.{IsComplete}
use Rattle.arc_diagrams.specs.Reduction.{final_pointer}
use Rattle.arc_diagrams.specs.Reducing.{final_arc, Queues, Leaves, IsRightName, AreNamed, Forwards, KnowsRoot, FindsRoot}
use Rattle.arc_diagrams.specs.declared.name.Name.{Name}

-- with the sources of level i named, no arc to them is read yet
pub forward_first : (n root i : ℕ) (arcs queue unread : List Arc) (names : List Name) → i < n → IsComplete n root arcs
    → Queues n i (suc i) arcs queue → Leaves (suc i) arcs unread → AreNamed n i arcs names → Forwards n i arcs queue unread names
forward_first n root i arcs queue unread names below complete queued leaves named = record {
  queue_from = λ q m. let (a, in_arcs, above, to, is_q) = queued.from q m in (a, in_arcs, above, omega arith, is_q);
  each = λ a m above to. elim (either_bit (nat_lt i (level_of a.target))) [
    | inl e ↦ (let deep : suc i ≤ level_of a.target = grind (arith, nat_tests) in inl (queued.each a m above deep))
    | inr e ↦ (let here : level_of a.target ≡ i = grind (arith, nat_tests) in inr (leaves.each a m (omega arith), here))
  ];
  unread_from = leaves.from;
  unread_each = λ a m shallow. leaves.each a m (omega arith);
  named = λ a m here.
      let (in_arcs, _) = leaves.from a m in
      let (b, in_b, source, _) = complete.both a.target (inr (a, in_arcs, refl)) (omega arith) false in
      let (p, in_names, of_b) = named.each b in_b (ap level_of source ∙ here) in
      (p, in_names, of_b ∙ source);
  names_right = named.right;
}

-- an arc to a source that has its name gets that pointer
pub forward_one : (n root i : ℕ) (arcs queue unread rest : List Arc) (names : List Name) (u q : Arc) (m : Name) → IsComplete n root arcs
    → SameMembers unread (u ∷ rest) → Has m names → m.source ≡ u.target
    → q.source ≡ u.source → q.high ≡ u.high → q.target ≡ m.pointer
    → Forwards n i arcs queue unread names → Forwards n i arcs (q ∷ queue) rest names
forward_one n root i arcs queue unread rest names u q m complete taken in_names to_source source high target f =
    let (a, in_a, here, of_m, pointer) = f.names_right m in_names in
    let (in_arcs, _) = f.unread_from u (taken.back u (inl refl)) in
    let level : level_of u.target ≡ i = ap level_of (sym to_source ∙ sym of_m) ∙ here in
    let final : final_pointer n arcs u.target ≡ q.target = ap (final_pointer n arcs) (sym to_source ∙ sym of_m) ∙ pointer ∙ sym target in
    let is_final : final_arc n arcs u ≡ q = λ j. record { source = sym source j; high = sym high j; target = final j } in
    record {
      queue_from = λ x k. elim k [
        | inl e ↦ (u, in_arcs, omega (arith, complete.deeper u in_arcs), omega arith, is_final ∙ e)
        | inr l ↦ f.queue_from x l
      ];
      each = λ x k above to. elim (f.each x k above to) [
        | inl l ↦ inl (inr l)
        | inr (l, there) ↦ elim (taken.there x l) [
          | inl same ↦ inl (inl (sym is_final ∙ ap (final_arc n arcs) same))
          | inr later ↦ inr (later, there)
        ]
      ];
      unread_from = λ x k. f.unread_from x (taken.back x (inr k));
      unread_each = λ x k shallow. elim (taken.there x (f.unread_each x k shallow)) [
        | inl same ↦ absurd (omega (arith, level, ap (λ (y : Arc). level_of y.target) same))
        | inr later ↦ later
      ];
      named = λ x k there. f.named x (taken.back x (inr k)) there;
      names_right = f.names_right;
    }

-- a name to which no arc is left is done with
pub forward_name : (n i : ℕ) (arcs queue unread : List Arc) (names rest : List Name) (m : Name)
    → SameMembers names (m ∷ rest) → ((u : Arc) → Has u unread → u.target ≢ m.source)
    → Forwards n i arcs queue unread names → Forwards n i arcs queue unread rest
forward_name n i arcs queue unread names rest m taken none f = record {
  queue_from = f.queue_from;
  each = f.each;
  unread_from = f.unread_from;
  unread_each = f.unread_each;
  named = λ a k here.
      let (p, in_names, source) = f.named a k here in
      elim (taken.there p in_names) [
        | inl same ↦ absurd (none a k (sym source ∙ ap (λ (t : Name). t.source) (sym same)))
        | inr later ↦ (p, later, source)
      ];
  names_right = λ p k. f.names_right p (taken.back p (inr k));
}

-- no arc that isn't read leads further than to the greatest source that has a name
pub forward-below : (n i : ℕ) (arcs queue unread : List Arc) (names : List Name) (m : Name) (u : Arc)
    → Has m names → ((p : Name) → Has p names → p.source ≤ m.source) → Has u unread
    → Forwards n i arcs queue unread names → u.target ≤ m.source
forward-below n i arcs queue unread names m u in_names greatest k f =
    let (a, in_a, here, of_m, _) = f.names_right m in_names in
    let (in_arcs, shallow) = f.unread_from u k in
    elim (either_bit (level_of u.target == i)) [
      | inl e ↦
          let level : level_of u.target ≡ i = grind (arith, nat_tests) in
          let (p, in_p, source) = f.named u k level in
          omega (arith, greatest p in_p, source)
      | inr e ↦
          let level : level_of u.target ≢ i = λ same. by (level_of u.target) same e in
          omega (arith, ap level_of of_m)
    ]
  where
    by : (l : ℕ) → l ≡ i → (l == i) ≡ false → ⊥
    by l same e = grind (arith, nat_tests)

-- where the arc that is read next leads to no source that has a name, none does that isn't read
pub none-to : (n i : ℕ) (arcs queue unread : List Arc) (names : List Name) (m : Name) (u : Arc)
    → Has m names → ((p : Name) → Has p names → p.source ≤ m.source) → Has u unread → ((x : Arc) → Has x unread → x.target ≤ u.target)
    → u.target ≢ m.source → Forwards n i arcs queue unread names → (x : Arc) → Has x unread → x.target ≢ m.source
none-to n i arcs queue unread names m u in_names greatest member last other f x k same =
    let below : u.target ≤ m.source = forward-below n i arcs queue unread names m u in_names greatest member f in
    omega (arith, last x k)

-- with no name left, level i is done
pub forward_last-queue : (n i : ℕ) (arcs queue unread : List Arc) → Forwards n i arcs queue unread [] → Queues n i i arcs queue
forward_last-queue n i arcs queue unread f = record {
  from = f.queue_from;
  each = λ a m above to. elim (f.each a m above to) [
    | inl k ↦ k
    | inr (k, here) ↦ (let (p, none, _) = f.named a k here in absurd none)
  ];
}

pub forward_last-unread : (n i : ℕ) (arcs queue unread : List Arc) → Forwards n i arcs queue unread [] → Leaves i arcs unread
forward_last-unread n i arcs queue unread f = record {
  from = λ a m.
      let (in_arcs, shallow) = f.unread_from a m in
      let other : level_of a.target ≢ i = λ here. by a m here in
      (in_arcs, omega arith);
  each = f.unread_each;
}
  where
    by : (a : Arc) → Has a unread → level_of a.target ≡ i → ⊥
    by a m here = let (p, none, _) = f.named a m here in none

-- the root's final pointer: with the sources named, a root of the level has its name
pub root_first : (n root i : ℕ) (arcs : List Arc) (names : List Name) (known : Option ℕ) → i < n → IsComplete n root arcs
    → KnowsRoot n root (suc i) arcs known → AreNamed n i arcs names → FindsRoot n root i arcs names known
root_first n root i arcs names known below complete deeper named = record {
  deeper = deeper;
  here = λ level.
      let (b, in_b, source, _) = complete.both root (inl refl) (omega arith) false in
      let (p, in_names, of_b) = named.each b in_b (ap level_of source ∙ level) in
      inr (p, in_names, of_b ∙ source);
}

-- a name of another source leaves it
pub root_past : (n root i : ℕ) (arcs : List Arc) (names rest : List Name) (known : Option ℕ) (m : Name)
    → SameMembers names (m ∷ rest) → m.source ≢ root → FindsRoot n root i arcs names known → FindsRoot n root i arcs rest known
root_past n root i arcs names rest known m taken other f = record {
  deeper = f.deeper;
  here = λ level. elim (f.here level) [
    | inl found ↦ inl found
    | inr (p, in_names, source) ↦ elim (taken.there p in_names) [
      | inl same ↦ absurd (other (ap (λ (t : Name). t.source) same ∙ source))
      | inr later ↦ inr (p, later, source)
    ]
  ];
}

-- that of the root says it
pub root_found : (n root i : ℕ) (arcs : List Arc) (names rest : List Name) (known : Option ℕ) (m : Name)
    → IsRightName n i arcs m → m.source ≡ root → known ≡ Some m.pointer → FindsRoot n root i arcs rest known
root_found n root i arcs names rest known m (a, in_arcs, here, of_m, pointer) source is_known =
    let found : known ≡ Some (final_pointer n arcs root) =
    is_known ∙ ap (λ w. let known : Option ℕ = Some w in known) (sym pointer ∙ ap (final_pointer n arcs) (of_m ∙ source)) in
    record { deeper = λ deep. found; here = λ level. inl found }

pub root_last : (n root i : ℕ) (arcs : List Arc) (known : Option ℕ) → FindsRoot n root i arcs [] known → KnowsRoot n root i arcs known
root_last n root i arcs known f deep =
    elim (either_bit (level_of root == i)) [
      | inl e ↦ elim (f.here (grind (arith, nat_tests))) [ inl found ↦ found | inr (p, none, _) ↦ absurd none ]
      | inr e ↦
          let other : level_of root ≢ i = λ same. by (level_of root) same e in
          f.deeper (omega arith)
    ]
  where
    by : (l : ℕ) → l ≡ i → (l == i) ≡ false → ⊥
    by l same e = grind (arith, nat_tests)
