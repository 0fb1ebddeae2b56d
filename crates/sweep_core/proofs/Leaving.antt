-- Calls of a sweep, one behind the other: what they leave and cost together.
use Rattle.std.proofs.Common.{◌≡◌, ℕ, ◌+◌, ◌≤◌, ◌∙◌, Bool, refl, arith, subst, sym, ap}
use Rattle.std.specs.Prelude.{Result, Ok, Err, IsErrAnd}
use Rattle.shelf_model.specs.declared.file_no.FileNo.{FileNo}
use Rattle.shelf_model.specs.declared.sort_fault.SortFault.{SortFault}
use Rattle.shelf_model.specs.File.{IsKept}
use Rattle.shelf_model.specs.Folder.{Folder, file_in}
use Rattle.shelf_model.specs.World.{World, Moment, now}
use Rattle.shelf_model.specs.Faults.{Faults}
use Rattle.shelf_model.proofs.Runs.{told_then, told_here, ran_stands, ran_joins, ran_weakens, ran_end}
pub use Rattle.run_tiers.proofs.FaultLaws.{sort_shelf_then}
use Rattle.sweep_core.specs.Accounts.{Accounts, CanBeTaken, StayEmpty, OnlyOwn, Leaves}

-- what can be taken later could be taken before
pub taken_before : (step next now_step now_next : ℕ) (f : FileNo) → now_step ≡ step → next ≤ now_next → CanBeTaken now_step now_next f → CanBeTaken step next f
taken_before step next now_step now_next f same later free =
    let from : now_next ≤ f.part = free.from in
    record { step_is = free.step_is ∙ same; from = omega (arith, from, later) }

-- what changes no file changes none that isn't one's own
pub own_stays : (makes : FileNo → Type 0) (step next : ℕ) (old m : Moment) → m.folder ≡ old.folder → OnlyOwn makes step next old m
own_stays makes step next old m same = record {
  others = λ f _ _. ap (λ (d : Folder). file_in d f) same;
  kept = λ f _ front kept. subst (λ (d : Folder). IsKept front (file_in d f)) (sym same) kept;
}

-- from a moment at which one's own files were changed, another change of these
pub own_then : (makes now_makes : FileNo → Type 0) (step next now_step now_next : ℕ) (old mid m : Moment) → ((f : FileNo) → now_makes f → makes f) → ((f : FileNo) → makes f → now_makes f)
    → now_step ≡ step → next ≤ now_next → OnlyOwn makes step next old mid → OnlyOwn now_makes now_step now_next mid m → OnlyOwn makes step next old m
own_then makes now_makes step next now_step now_next old mid m made making same later first second = record {
  others = λ f other apart. second.others f (λ mine. other (made f mine)) (λ free. apart (taken_before step next now_step now_next f same later free)) ∙ first.others f other apart;
  kept = λ f mine front kept. second.kept f (making f mine) front (first.kept f mine front kept);
}

-- what is empty behind the parts that two calls took is so after both
pub stay_empty_then : (makes now_makes : FileNo → Type 0) (step now_step next last : ℕ) (old mid new : World)
    → ((f : FileNo) → now_makes f → makes f) → now_step ≡ step → next ≤ last → StayEmpty makes step next old mid
    → StayEmpty now_makes now_step last mid new → StayEmpty makes step last old new
stay_empty_then makes now_makes step now_step next last old mid new made same later first second f other free empty =
    second f (λ mine. other (made f mine)) (record { step_is = free.step_is ∙ sym same; from = free.from })
    (first f other (taken_before step next step last f refl later free) empty)

module _ {S P : Type 0} (tells : S → Bool) (world : S → World) (faults : S → Faults) (accounts : Accounts P) where
  -- nothing was done
  pub leaves_none : {T : Type 0} (s : S) (p : P) (x : T) → Leaves tells world faults accounts 0 0 s s p p (Ok x)
  leaves_none s p x = record {
    made = λ f mine. mine;
    making = λ f mine. mine;
    step_is = refl;
    later = omega arith;
    within = λ few. few;
    content = told_here tells s _ (λ _. ran_stands (world s) (OnlyOwn (accounts.makes p) (accounts.step p) (accounts.next p) (now (world s)))
        (own_stays (accounts.makes p) (accounts.step p) (accounts.next p) (now (world s)) (now (world s)) refl));
    untaken = λ _ f other free empty. empty;
    calls = λ _. omega arith;
    spent = omega arith;
    faults = record { later = omega arith; cause = λ is. cc; say_is = refl; text_is = λ path. refl };
  }

  -- one call after another
  pub leaves_then : {A B : Type 0} (m n a b : ℕ) (first second third : S) (p q r : P) (one : Result A SortFault) (two : Result B SortFault)
      → Leaves tells world faults accounts m a first second p q one → Leaves tells world faults accounts n b second third q r two
      → Leaves tells world faults accounts (m + n) (a + b) first third p r two
  leaves_then m n a b first second third p q r one two x y = record {
    made = λ f mine. x.made f (y.made f mine);
    making = λ f mine. y.making f (x.making f mine);
    step_is = y.step_is ∙ x.step_is;
    later = let i : accounts.next p ≤ accounts.next q = x.later in let j : accounts.next q ≤ accounts.next r = y.later in omega (arith, i, j);
    within = λ few. y.within (x.within few);
    content = told_then tells first second third _ _ _ x.content y.content (λ _ ran more.
        let own = OnlyOwn (accounts.makes p) (accounts.step p) (accounts.next p) (now (world first)) in
        ran_joins (world first) (world second) (world third) own ran
        (ran_weakens (world second) (world third) (OnlyOwn (accounts.makes q) (accounts.step q) (accounts.next q) (now (world second))) own
        (λ at then. own_then (accounts.makes p) (accounts.makes q) (accounts.step p) (accounts.next p) (accounts.step q) (accounts.next q) (now (world first)) (now (world second)) at
        x.made x.making x.step_is x.later (ran_end (world first) (world second) own ran) then) more));
    untaken = λ told. stay_empty_then (accounts.makes p) (accounts.makes q) (accounts.step p) (accounts.step q)
        (accounts.next q) (accounts.next r) (world first) (world second) (world third) x.made x.step_is y.later
        (x.untaken (y.content.before told)) (y.untaken told);
    calls = λ told. let i = x.calls (y.content.before told) in let j = y.calls told in omega (arith, i, j);
    spent =
        let i = x.spent in
        let j = y.spent in
        let k : accounts.next p ≤ accounts.next q = x.later in
        let l : accounts.next q ≤ accounts.next r = y.later in
        omega (arith, i, j, k, l);
    faults = sort_shelf_then (faults first) (faults second) (faults third) one two x.faults y.faults;
  }

  -- a call costs no more than what is more
  pub leaves_more : {T : Type 0} (m n a b : ℕ) (first second : S) (p q : P) (result : Result T SortFault) → m ≤ n → a ≤ b
      → Leaves tells world faults accounts m a first second p q result → Leaves tells world faults accounts n b first second p q result
  leaves_more m n a b first second p q result calls parts x = record {
    made = x.made;
    making = x.making;
    step_is = x.step_is;
    later = x.later;
    within = x.within;
    content = x.content;
    untaken = x.untaken;
    calls = λ told. let i = x.calls told in omega (arith, i, calls);
    spent = let i = x.spent in omega (arith, i, parts);
    faults = x.faults;
  }

  -- what is answered instead where nothing failed
  pub leaves_ok : {A B : Type 0} (m a : ℕ) (first second : S) (p q : P) (result : Result A SortFault) (x : B)
      → Leaves tells world faults accounts m a first second p q result → Leaves tells world faults accounts m a first second p q (Ok x)
  leaves_ok m a first second p q result x l = record {
    made = l.made;
    making = l.making;
    step_is = l.step_is;
    later = l.later;
    within = l.within;
    content = l.content;
    untaken = l.untaken;
    calls = l.calls;
    spent = l.spent;
    faults = record { later = l.faults.later; cause = λ is. cc; say_is = l.faults.say_is; text_is = l.faults.text_is };
  }

  -- a refusal that is handed on
  pub leaves_err : {A B : Type 0} (m a : ℕ) (first second : S) (p q : P) (result : Result A SortFault) (before : Result B SortFault) (e : SortFault)
      → IsErrAnd result (λ f. f ≡ e) → before ≡ Err e
      → Leaves tells world faults accounts m a first second p q before → Leaves tells world faults accounts m a first second p q result
  leaves_err m a first second p q (Ok x) before e is was l = absurd is
  leaves_err m a first second p q (Err f) before e is was l = record {
    made = l.made;
    making = l.making;
    step_is = l.step_is;
    later = l.later;
    within = l.within;
    content = l.content;
    untaken = l.untaken;
    calls = l.calls;
    spent = l.spent;
    faults = record {
      later = l.faults.later;
      cause = λ shelf. l.faults.cause (was ∙ ap Err (cc));
      say_is = l.faults.say_is;
      text_is = l.faults.text_is;
    };
  }
