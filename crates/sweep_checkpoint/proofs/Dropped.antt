-- The runs that a newer checkpoint gives up: one more of them.
use Rattle.std.proofs.Common.{◌≡◌, ◌⊎◌, ℕ, ◌+◌, ◌<◌, ◌≤◌, min, max, Bool, List, [], length, take, get_or, sym, ap, subst, ◌∙◌, inl, inr, arith}
use Rattle.std.specs.Prelude.{IsTrue, Result, Ok, Err, OnOk, All, Some}
use Rattle.std.specs.List.{Any}
use Rattle.std.proofs.lemmas.Bool.{cases_lt}
use Rattle.std.proofs.lemmas.List.{length-take, get_or-take, get_or_default}
use Rattle.run_tiers.specs.declared.run.Run.{Run}
use Rattle.shelf_model.specs.declared.file_no.FileNo.{FileNo}
use Rattle.shelf_model.specs.declared.fault.Failed.{Failed}
use Rattle.shelf_model.specs.File.{File}
use Rattle.shelf_model.specs.World.{World, now, file}
use Rattle.shelf_model.specs.Calls.{Told, WasCut}
use Rattle.shelf_model.specs.Moments.{Ran, OnlyChanged}
use Rattle.shelf_model.proofs.Numbers.{cases_file}
use Rattle.shelf_model.proofs.Changing.{changes_none, changes_more, told_changed_then, told_changed_more}
use Rattle.shelf_model.proofs.Runs.{told, ran_call}
use Rattle.sweep_core.specs.declared.checkpoint.Checkpoint.{Checkpoint}
use Rattle.sweep_checkpoint.specs.Rules.{tables_in_use}
use Rattle.file_numbers.specs.Files.{first_run_part}
use Rattle.sweep_checkpoint.specs.Retires.{NamedAmong, NamedIn, Names, IsBetween, WasTaken, IsDropped, IsGivenUp, Emptied}

-- an item that has it
pub any_one : {X : Type 0} (P : X → Type 0) (xs : List X) (k : ℕ) (x : X) → k < length xs → get_or xs k x ≡ x → P x → Any P xs
any_one P xs k x within is has = (k, x, within, is, has)

-- none has it
pub none_any : {X : Type 0} (P : X → Type 0) (xs : List X) → All (λ x. ¬ (P x)) xs → ¬ (Any P xs)
none_any P xs each some = each some.0 some.1 some.2 (subst P (sym some.3) some.4)

-- one of the first items has it, or the next one does
pub any_more : {X : Type 0} (P : X → Type 0) (xs : List X) (k : ℕ) (d : X) → k < length xs → Any P (take (k + 1) xs) → Any P (take k xs) ⊎ P (get_or xs k d)
any_more P xs k d within some =
    let j : ℕ = some.0 in
    let inside : j < length (take (k + 1) xs) = some.2 in
    let cut : length (take (k + 1) xs) ≡ min (k + 1) (length xs) = length-take (k + 1) xs in
    let shorter : length (take k xs) ≡ min k (length xs) = length-take k xs in
    let is : get_or xs j some.1 ≡ some.1 = sym (get_or-take (k + 1) xs j some.1 (omega (arith, inside, cut))) ∙ some.3 in
    elim (cases_lt j k) [
      | inl earlier ↦ inl (j, some.1, omega (arith, earlier, shorter, within), get_or-take k xs j some.1 earlier ∙ is, some.4)
      | inr last ↦
          let same : j ≡ k = omega (arith, last, inside, cut) in
          inr (subst P (sym is ∙ ap (λ i. get_or xs i some.1) same ∙ get_or_default xs k some.1 d within) some.4)
    ]

-- fewer parts
pub dropped_more : (c : Checkpoint) (P Q : ℕ → Type 0) → ((p : ℕ) → P p → Q p) → (f : FileNo) → IsDropped c P f → IsDropped c Q f
dropped_more c P Q wider f is = record { step_is = is.step_is; from = is.from; one_of = wider f.part is.one_of; unnamed = is.unnamed }

-- nothing was cut
pub emptied_none : (these : FileNo → Type 0) (w : World) → ((f : FileNo) → ¬ (these f)) → Emptied these w w
emptied_none these w none = record { empty = λ f is. absurd (none f is); still = λ f is. is }

-- some files, and then others
pub emptied_then : (first second these : FileNo → Type 0) (old mid new : World) → ((f : FileNo) → these f → first f ⊎ second f) → Emptied first old mid → Emptied second mid new → Emptied these old new
emptied_then first second these old mid new either a b = record {
  empty = λ f is. elim (either f is) [
    | inl one ↦ b.still f (a.empty f one)
    | inr two ↦ b.empty f two
  ];
  still = λ f is. b.still f (a.still f is);
}

-- fewer of them
pub emptied_fewer : (some these : FileNo → Type 0) (old new : World) → ((f : FileNo) → some f → these f) → Emptied these old new → Emptied some old new
emptied_fewer some these old new wider is = record { empty = λ f one. is.empty f (wider f one); still = is.still }

-- file numbers of the same step and part are one
same_no : (f g : FileNo) → f.step ≡ g.step → f.part ≡ g.part → f ≡ g
same_no f g steps parts = λ i. record { step = steps i; part = parts i }

module _ {S : Type 0} (tells : S → Bool) (world : S → World) (c : Checkpoint) (part : ℕ) where
  abbrev pub these : FileNo → Type 0
  these = IsDropped c (λ p. p ≡ part)

  -- the file of the part is cut
  pub cut_one : (f : FileNo) (result : Result Unit Failed) (old s : S) → f.step ≡ c.step → f.part ≡ part → first_run_part ≤ part → ¬ (Names c part)
      → Told tells old s (WasCut f 0 result (world old) (world s)) → Told tells old s (Ran (OnlyChanged these (now (world old))) (world old) (world s))
  cut_one f result old s steps parts from unnamed call = told tells old s _ _ call (λ _ did.
      ran_call (world old) (world s) (OnlyChanged these (now (world old))) did.shelf (changes_none these (now (world old)).folder)
      (changes_more (λ q. q ≡ f) these (now (world old)).folder (now (world s)).folder
      (λ q same. record {
        step_is = ap (λ (g : FileNo). g.step) same ∙ steps;
        from = let p : q.part ≡ part = ap (λ (g : FileNo). g.part) same ∙ parts in omega (arith, p, from);
        one_of = ap (λ (g : FileNo). g.part) same ∙ parts;
        unnamed = subst (λ p. ¬ (Names c p)) (sym (ap (λ (g : FileNo). g.part) same ∙ parts)) unnamed;
      }) did.others))

  pub emptied_one : (f : FileNo) (result : Result Unit Failed) (old s : S) → f.step ≡ c.step → f.part ≡ part
      → Told tells old s (WasCut f 0 result (world old) (world s)) → OnOk result (IsTrue (tells s) → Emptied these (world old) (world s))
  emptied_one f (Ok x) old s steps parts call = λ tells_new.
      let did = call.did tells_new in
      let none : (file (world s) f).bytes ≡ [] = ap (λ (y : File). y.bytes) did.ok in
      record {
        empty = λ q is. ap (λ g. (file (world s) g).bytes) (same_no q f (is.step_is ∙ sym steps) (is.one_of ∙ sym parts)) ∙ none;
        still = λ q was. elim (cases_file q f) [
          | inl same ↦ ap (λ g. (file (world s) g).bytes) same ∙ none
          | inr differ ↦ ap (λ (y : File). y.bytes) (did.others q differ) ∙ was
        ];
      }
  emptied_one f (Err e) old s steps parts call = tt

  -- the part is no run, or it is named
  pub none_early : part < first_run_part → (f : FileNo) → ¬ (these f)
  none_early early f is = let from : first_run_part ≤ f.part = is.from in let same : f.part ≡ part = is.one_of in omega arith

  pub none_named : Names c part → (f : FileNo) → ¬ (these f)
  none_named named f is = is.unnamed (subst (Names c) (sym is.one_of) named)

-- one slot more
pub among_more : (c : Checkpoint) (table : List Run) (k : ℕ) (r : Run) → k < length table → get_or table k r ≡ r → (f : FileNo) → IsDropped c (λ p. NamedAmong p (take (k + 1) table)) f
    → IsDropped c (λ p. NamedAmong p (take k table)) f ⊎ IsDropped c (λ p. p ≡ r.part) f
among_more c table k r within is f dropped = elim (any_more (λ (x : Run). x.part ≡ f.part) table k r within dropped.one_of) [
  | inl earlier ↦ inl (record { step_is = dropped.step_is; from = dropped.from; one_of = earlier; unnamed = dropped.unnamed })
  | inr last ↦ inr (record { step_is = dropped.step_is; from = dropped.from; one_of = sym last ∙ ap (λ (x : Run). x.part) is; unnamed = dropped.unnamed })
]

-- one table more
pub in_more : (c : Checkpoint) (tables : List (List Run)) (k : ℕ) (t : List Run) → k < length tables → get_or tables k t ≡ t → (f : FileNo) → IsDropped c (λ p. NamedIn p (take (k + 1) tables)) f
    → IsDropped c (λ p. NamedIn p (take k tables)) f ⊎ IsDropped c (λ p. NamedAmong p t) f
in_more c tables k t within is f dropped = elim (any_more (NamedAmong f.part) tables k t within dropped.one_of) [
  | inl earlier ↦ inl (record { step_is = dropped.step_is; from = dropped.from; one_of = earlier; unnamed = dropped.unnamed })
  | inr last ↦ inr (record { step_is = dropped.step_is; from = dropped.from; one_of = subst (NamedAmong f.part) is last; unnamed = dropped.unnamed })
]

-- one part more
pub between_more : (c : Checkpoint) (first part : ℕ) (f : FileNo) → IsDropped c (IsBetween first (part + 1)) f → IsDropped c (IsBetween first part) f ⊎ IsDropped c (λ p. p ≡ part) f
between_more c first part f dropped =
    let below : f.part < part + 1 = dropped.one_of.below in
    elim (cases_lt f.part part) [
      | inl earlier ↦ inl (record { step_is = dropped.step_is; from = dropped.from; one_of = record { from = dropped.one_of.from; below = earlier }; unnamed = dropped.unnamed })
      | inr last ↦ inr (record { step_is = dropped.step_is; from = dropped.from; one_of = omega (arith, last, below); unnamed = dropped.unnamed })
    ]

-- the runs of the older checkpoint, and then the parts taken since
module _ {S : Type 0} (tells : S → Bool) (world : S → World) (older newer : Checkpoint) (tables : List (List Run)) (first : ℕ) (is_tables : tables ≡ tables_in_use older) (is_first : first ≡ max first_run_part older.next_part) where
  abbrev pub of_tables : FileNo → Type 0
  of_tables = IsDropped newer (λ p. NamedIn p tables)

  abbrev pub since : FileNo → Type 0
  since = IsDropped newer (IsBetween first newer.next_part)

  named_too : (f : FileNo) → of_tables f → IsGivenUp (Some older) newer f
  named_too = dropped_more newer (λ p. NamedIn p tables) (WasTaken (Some older) newer) (λ p named. inl (subst (NamedIn p) is_tables named))

  since_too : (f : FileNo) → since f → IsGivenUp (Some older) newer f
  since_too = dropped_more newer (IsBetween first newer.next_part) (WasTaken (Some older) newer) (λ p between. inr (subst (λ n. IsBetween n newer.next_part p) is_first between))

  either : (f : FileNo) → IsGivenUp (Some older) newer f → of_tables f ⊎ since f
  either f is = elim is.one_of [
    | inl named ↦ inl (record { step_is = is.step_is; from = is.from; one_of = subst (NamedIn f.part) (sym is_tables) named; unnamed = is.unnamed })
    | inr between ↦ inr (record { step_is = is.step_is; from = is.from; one_of = subst (λ n. IsBetween n newer.next_part f.part) (sym is_first) between; unnamed = is.unnamed })
  ]

  pub retires : (s t u : S) → Told tells s t (Ran (OnlyChanged of_tables (now (world s))) (world s) (world t)) → Told tells t u (Ran (OnlyChanged since (now (world t))) (world t) (world u))
      → Told tells s u (Ran (OnlyChanged (IsGivenUp (Some older) newer) (now (world s))) (world s) (world u))
  retires s t u one two = told_changed_then tells world (IsGivenUp (Some older) newer) since s t u since_too (told_changed_more tells world of_tables (IsGivenUp (Some older) newer) s t named_too one) two

  pub retires_first : (s t : S) → Told tells s t (Ran (OnlyChanged of_tables (now (world s))) (world s) (world t))
      → Told tells s t (Ran (OnlyChanged (IsGivenUp (Some older) newer) (now (world s))) (world s) (world t))
  retires_first s t one = told_changed_more tells world of_tables (IsGivenUp (Some older) newer) s t named_too one

  pub retired : (s t u : World) → Emptied of_tables s t → Emptied since t u → Emptied (IsGivenUp (Some older) newer) s u
  retired s t u one two = emptied_then of_tables since (IsGivenUp (Some older) newer) s t u either one two
