-- Calls by which a sweep is made ready to be saved, one behind the other: what they leave and cost together.
use Rattle.std.proofs.Common.{◌≡◌, ℕ, ◌+◌, ◌≤◌, ◌∙◌, Bool, arith, subst, inl}
use Rattle.std.specs.Prelude.{Result, Ok, Err, IsErrAnd}
use Rattle.shelf_model.specs.declared.file_no.FileNo.{FileNo}
use Rattle.shelf_model.specs.declared.sort_fault.SortFault.{SortFault}
use Rattle.shelf_model.specs.World.{World, Moment, now}
use Rattle.shelf_model.specs.Faults.{Faults}
use Rattle.shelf_model.proofs.Runs.{told, told_then, ran_joins, ran_weakens, ran_end}
use Rattle.run_tiers.specs.declared.parts.Parts.{Parts}
use Rattle.run_tiers.specs.Syncs.{IsSameOrFirm, Froze}
use Rattle.run_tiers.proofs.SyncLaws.{same_or_firm_kept, same_or_firm_then, same_or_firm_more}
use Rattle.run_tiers.proofs.FaultLaws.{sort_shelf_then, sort_shelf_on}
use Rattle.sweep_core.specs.Accounts.{Accounts, CanBeTaken, OnlyOwn, Leaves}
use Rattle.sweep_core.specs.Carries.{IsBehindPoints, OnlySaved, Carries}
use Rattle.sweep_core.proofs.Leaving.{taken_before, stay_empty_then}

-- turns change no more than what is made ready to be saved
pub own_saved : (makes : FileNo → Type 0) (step next : ℕ) (old m : Moment) → OnlyOwn makes step next old m
    → OnlySaved makes step next old m
own_saved makes step next old m own = record { others = λ f other apart. inl (own.others f other apart); kept = own.kept }

-- nor do runs that are made sure, with the parts that are taken for them
pub froze_saved : (makes these : FileNo → Type 0) (before after : Parts) (old m : Moment)
    → ((f : FileNo) → these f → IsBehindPoints before.step f)
    → ((f : FileNo) → makes f → ¬ CanBeTaken before.step before.next f) → Froze these before after old m
    → OnlySaved makes before.step before.next old m
froze_saved makes these before after old m behind made froze = record {
  others = λ f other free. same_or_firm_more these (IsBehindPoints before.step) f old m (behind f)
      (froze f (λ taken. free (record { step_is = taken.step_is; from = taken.from })));
  kept = λ f mine front kept. same_or_firm_kept these f old m front
      (froze f (λ taken. made f mine (record { step_is = taken.step_is; from = taken.from }))) kept;
}

-- from a moment up to which no more than that was changed, another such change
pub saved_on : (makes now_makes : FileNo → Type 0) (step next now_step now_next : ℕ) (old mid m : Moment)
    → ((f : FileNo) → now_makes f → makes f) → ((f : FileNo) → makes f → now_makes f) → now_step ≡ step → next ≤ now_next
    → OnlySaved makes step next old mid → OnlySaved now_makes now_step now_next mid m → OnlySaved makes step next old m
saved_on makes now_makes step next now_step now_next old mid m made making same later first second = record {
  others = λ f other apart. same_or_firm_then (IsBehindPoints step) f old mid m (first.others f other apart)
      (subst (λ s. IsSameOrFirm (IsBehindPoints s) f mid m) same (second.others f (λ mine. other (made f mine))
      (λ free. apart (taken_before step next now_step now_next f same later free))));
  kept = λ f mine front kept. second.kept f (making f mine) front (first.kept f mine front kept);
}

module _ {S P : Type 0} (tells : S → Bool) (world : S → World) (faults : S → Faults) (accounts : Accounts P) where
  -- so it is with a call as turns make them
  pub leaves_carries : {T : Type 0} (m a : ℕ) (first second : S) (p q : P) (result : Result T SortFault)
      → Leaves tells world faults accounts m a first second p q result
      → Carries tells world faults accounts m a first second p q result
  leaves_carries m a first second p q result l = record {
    made = l.made;
    making = l.making;
    step_is = l.step_is;
    later = l.later;
    within = l.within;
    content = told tells first second _ _ l.content (λ _ ran. ran_weakens (world first) (world second)
        (OnlyOwn (accounts.makes p) (accounts.step p) (accounts.next p) (now (world first)))
        (OnlySaved (accounts.makes p) (accounts.step p) (accounts.next p) (now (world first)))
        (λ at own. own_saved (accounts.makes p) (accounts.step p) (accounts.next p) (now (world first)) at own) ran);
    untaken = l.untaken;
    calls = l.calls;
    spent = l.spent;
    faults = l.faults;
  }

  -- one call after another
  pub carries_then : {A B : Type 0} (m n a b : ℕ) (first second third : S) (p q r : P) (one : Result A SortFault)
      (two : Result B SortFault) → Carries tells world faults accounts m a first second p q one
      → Carries tells world faults accounts n b second third q r two
      → Carries tells world faults accounts (m + n) (a + b) first third p r two
  carries_then m n a b first second third p q r one two x y = record {
    made = λ f mine. x.made f (y.made f mine);
    making = λ f mine. y.making f (x.making f mine);
    step_is = y.step_is ∙ x.step_is;
    later =
        let i : accounts.next p ≤ accounts.next q = x.later in
        let j : accounts.next q ≤ accounts.next r = y.later in
        omega (arith, i, j);
    within = λ few. y.within (x.within few);
    content = told_then tells first second third _ _ _ x.content y.content (λ _ ran more.
        let saved = OnlySaved (accounts.makes p) (accounts.step p) (accounts.next p) (now (world first)) in
        ran_joins (world first) (world second) (world third) saved ran
        (ran_weakens (world second) (world third)
        (OnlySaved (accounts.makes q) (accounts.step q) (accounts.next q) (now (world second))) saved
        (λ at then. saved_on (accounts.makes p) (accounts.makes q) (accounts.step p) (accounts.next p) (accounts.step q)
        (accounts.next q) (now (world first)) (now (world second)) at x.made x.making x.step_is x.later
        (ran_end (world first) (world second) saved ran) then) more));
    untaken = λ is. stay_empty_then (accounts.makes p) (accounts.makes q) (accounts.step p) (accounts.step q)
        (accounts.next q) (accounts.next r) (world first) (world second) (world third) x.made x.step_is y.later
        (x.untaken (y.content.before is)) (y.untaken is);
    calls = λ is. let i = x.calls (y.content.before is) in let j = y.calls is in omega (arith, i, j);
    spent =
        let i = x.spent in
        let j = y.spent in
        let k : accounts.next p ≤ accounts.next q = x.later in
        let l : accounts.next q ≤ accounts.next r = y.later in
        omega (arith, i, j, k, l);
    faults = sort_shelf_then (faults first) (faults second) (faults third) one two x.faults y.faults;
  }

  -- a call costs no more than what is more
  pub carries_more : {T : Type 0} (m n a b : ℕ) (first second : S) (p q : P) (result : Result T SortFault) → m ≤ n → a ≤ b
      → Carries tells world faults accounts m a first second p q result
      → Carries tells world faults accounts n b first second p q result
  carries_more m n a b first second p q result calls parts x = record {
    made = x.made;
    making = x.making;
    step_is = x.step_is;
    later = x.later;
    within = x.within;
    content = x.content;
    untaken = x.untaken;
    calls = λ is. let i = x.calls is in omega (arith, i, calls);
    spent = let i = x.spent in omega (arith, i, parts);
    faults = x.faults;
  }

  -- what is answered instead where nothing failed
  pub carries_ok : {A B : Type 0} (m a : ℕ) (first second : S) (p q : P) (result : Result A SortFault) (x : B)
      → Carries tells world faults accounts m a first second p q result
      → Carries tells world faults accounts m a first second p q (Ok x)
  carries_ok m a first second p q result x c = record {
    made = c.made;
    making = c.making;
    step_is = c.step_is;
    later = c.later;
    within = c.within;
    content = c.content;
    untaken = c.untaken;
    calls = c.calls;
    spent = c.spent;
    faults = record { later = c.faults.later; cause = λ is. cc; say_is = c.faults.say_is; text_is = c.faults.text_is };
  }

  -- a refusal that is handed on
  pub carries_err : {A B : Type 0} (m a : ℕ) (first second : S) (p q : P) (result : Result B SortFault) (e : SortFault)
      → IsErrAnd result (λ f. f ≡ e) → Carries {T = A} tells world faults accounts m a first second p q (Err e)
      → Carries tells world faults accounts m a first second p q result
  carries_err m a first second p q result e is c = record {
    made = c.made;
    making = c.making;
    step_is = c.step_is;
    later = c.later;
    within = c.within;
    content = c.content;
    untaken = c.untaken;
    calls = c.calls;
    spent = c.spent;
    faults = sort_shelf_on (faults first) (faults second) e result is c.faults;
  }
