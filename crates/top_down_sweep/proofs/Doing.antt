-- Calls within a turn, one behind the other: what they leave and cost together.
use Rattle.std.proofs.Common.{◌≡◌, ℕ, ◌+◌, ◌^◌, ◌≤◌, ◌∙◌, Bool, List, refl, subst, sym, ap, inl, inr, arith}
use Rattle.std.specs.Prelude.{Result, Ok, Err, IsErrAnd, IfErr, OnOk, IsErrOf, IsTrue, ◌⊎◌}
use Rattle.shelf_model.specs.declared.file_no.FileNo.{FileNo}
use Rattle.shelf_model.specs.declared.sort_fault.SortFault.{SortFault}
use Rattle.shelf_model.specs.declared.sort_fault.SortFault.TheVariants.{Shelf, Damaged, RunsSpent}
use Rattle.shelf_model.specs.File.{File, IsKept}
use Rattle.shelf_model.specs.Folder.{file_in}
use Rattle.shelf_model.specs.Calls.{Told}
use Rattle.shelf_model.specs.Moments.{Ran, Stays}
use Rattle.shelf_model.specs.Faults.{Faults}
use Rattle.shelf_model.specs.World.{World, Moment, now}
use Rattle.shelf_model.proofs.Runs.{told, ran_weakens, ran_end}
use Rattle.block_stream.specs.Reads.{Looked}
use Rattle.arc_file.specs.Pairs.{DuringWrites, WroteBoth}
use Rattle.arc_file.specs.declared.writer.ArcWriter.{ArcWriter}
use Rattle.arc_file.specs.Writers.{inner_file, ends_file, SameFiles}
use Rattle.run_tiers.specs.Faults.{OnlySortShelf}
use Rattle.run_tiers.specs.declared.parts.Parts.{Parts}
use Rattle.run_tiers.specs.Parts.{Took, IsTaken, OnlyTaken, Spilled, Paid, PaidParts}
use Rattle.level_queue.specs.declared.queue.LevelQueue.{LevelQueue}
use Rattle.level_queue.specs.Queues as queues
use Rattle.sweep_core.specs.Accounts.{CanBeTaken, OnlyOwn}
use Rattle.sweep_core.proofs.Leaving.{own_stays, leaves_then, leaves_more, leaves_ok, leaves_err}
use Rattle.sweep_core.proofs.Untaken.{stays_empty, spilled_empty}
use Rattle.top_down.specs.declared.tuple.Tuple.{Tuple}
use Rattle.top_down.specs.Rules.{Rule}
use Rattle.top_down_sweep.specs.declared.machine.Machine.{Machine}
use Rattle.tuple_asks.specs.declared.ask.Ask.{Ask}
use Rattle.tuple_asks.specs.declared.place.Place.{Place}
use Rattle.top_down_sweep.specs.declared.sweep.TopDownSweep.{TopDownSweep}
use Rattle.top_down_sweep.specs.Sweeps.{IsMade, files_in, task_in, parts_of, IsServed, machine_accounts, Refuses, Refused}
use Rattle.sweep_core.specs.Sweeps.{IsNoDamage}
use Rattle.tuple_asks.specs.declared.operand.Operands.{Operands}
use Rattle.top_down_sweep.specs.Damage.{IsMachineDamage}
use Rattle.top_down_sweep.specs.Calls.{SameTask, Does}

-- a task that stays, and stays again
pub task_then : (p q r : Machine) → SameTask p q → SameTask q r → SameTask p r
task_then p q r first second = record {
  files_are = second.files_are ∙ first.files_are;
  variables_are = second.variables_are ∙ first.variables_are;
}

-- a task that stays, as one value
pub task_same : (p q : Machine) → SameTask p q → task_in q ≡ task_in p
task_same p q same = λ i. record { files = same.files_are i; variables = same.variables_are i }

-- where it is refused for want of a part number, no number below 2 ^ 32 is left
pub refused_spent : {O T : Type 0} (s : TopDownSweep O) (result : Result T SortFault)
    → IfErr result (Refused s) → IsErrOf result RunsSpent → 2 ^ 32 ≤ (parts_of s).next
refused_spent s result refused spent =
    subst (λ (r : Result _ SortFault). IfErr r (Refused s)) spent refused

-- what holds after a call holds where it succeeded
pub on_ok : {T : Type 0} {P : Type 0} (result : Result T SortFault) → P → OnOk result P
on_ok (Ok x) p = p
on_ok (Err e) p = tt

-- no damage is said
pub no_damage : (rule : Rule) (begins : Tuple → Tuple) (q : Machine) (world : World) (e : SortFault) → IsNoDamage e
    → IsMachineDamage rule begins q world e
no_damage rule begins q world Shelf none = tt
no_damage rule begins q world (Damaged f at) none = absurd none
no_damage rule begins q world RunsSpent none = tt

-- the files whose parts were taken aren't those that are made
own_took : (inner ends : FileNo) (before after : Parts) (old m : Moment)
    → ¬ CanBeTaken before.step before.next inner → ¬ CanBeTaken before.step before.next ends
    → OnlyTaken before after old m → OnlyOwn (λ f. (f ≡ inner) ⊎ (f ≡ ends)) before.step before.next
    old m
own_took inner ends before after old m first second only = record {
  others = λ f other apart. only f (λ t. apart (record { step_is = t.step_is; from = t.from }));
  kept = λ f mine front kept. subst (λ file. IsKept front file)
      (sym (only f (λ t. untaken f mine t))) kept;
}
  where
    untaken : (f : FileNo) → (f ≡ inner) ⊎ (f ≡ ends) → IsTaken before after f → ⊥
    untaken f (inl is) t = first (subst (CanBeTaken before.step before.next) is
        (record { step_is = t.step_is; from = t.from }))
    untaken f (inr is) t = second (subst (CanBeTaken before.step before.next) is
        (record { step_is = t.step_is; from = t.from }))

-- those that were written to are
own_wrote : (inner ends : FileNo) (step next : ℕ) (old m : Moment) → DuringWrites inner ends old m
    → OnlyOwn (λ f. (f ≡ inner) ⊎ (f ≡ ends)) step next old m
own_wrote inner ends step next old m during = record {
  others = λ f other apart. during.others f (λ is. other (inl is)) (λ is. other (inr is));
  kept = λ f mine front kept. by f mine front kept;
}
  where
    by : (f : FileNo) → (f ≡ inner) ⊎ (f ≡ ends) → (front : List ℕ)
        → IsKept front (file_in old.folder f) → IsKept front (file_in m.folder f)
    by f (inl is) front kept = subst (λ g. IsKept front (file_in m.folder g)) (sym is)
        (during.first_kept front (subst (λ g. IsKept front (file_in old.folder g)) is kept))
    by f (inr is) front kept = subst (λ g. IsKept front (file_in m.folder g)) (sym is)
        (during.second_kept front (subst (λ g. IsKept front (file_in old.folder g)) is kept))

module _ {S : Type 0} (tells : S → Bool) (world : S → World) (counts : S → Faults) where
  -- one call after another
  pub does_then : {A B : Type 0} (m n a b : ℕ) (s t u : S) (p q r : Machine)
      (one : Result A SortFault) (two : Result B SortFault)
      → Does tells world counts m a s t p q one → Does tells world counts n b t u q r two
      → Does tells world counts (m + n) (a + b) s u p r two
  does_then m n a b s t u p q r one two x y = record {
    leaves = leaves_then tells world counts machine_accounts m n a b s t u p q r one two x.leaves
        y.leaves;
    same = task_then p q r x.same y.same;
    refused = y.refused;
  }

  -- a call costs no more than what is more
  pub does_more : {T : Type 0} (m n a b : ℕ) (s t : S) (p q : Machine) (result : Result T SortFault)
      → m ≤ n → a ≤ b
      → Does tells world counts m a s t p q result → Does tells world counts n b s t p q result
  does_more m n a b s t p q result calls parts x = record {
    leaves = leaves_more tells world counts machine_accounts m n a b s t p q result calls parts
        x.leaves;
    same = x.same;
    refused = x.refused;
  }

  -- what is answered instead where nothing failed
  pub does_ok : {A B : Type 0} (m a : ℕ) (s t : S) (p q : Machine) (result : Result A SortFault)
      (x : B)
      → Does tells world counts m a s t p q result → Does tells world counts m a s t p q (Ok x)
  does_ok m a s t p q result x d = record {
    leaves = leaves_ok tells world counts machine_accounts m a s t p q result x d.leaves;
    same = d.same;
    refused = tt;
  }

  -- a refusal that is handed on
  pub does_err : {A B : Type 0} (m a : ℕ) (s t : S) (p q : Machine) (result : Result A SortFault)
      (before : Result B SortFault) (e : SortFault)
      → IsErrAnd result (λ f. f ≡ e) → before ≡ Err e → Does tells world counts m a s t p q before
      → Does tells world counts m a s t p q result
  does_err m a s t p q (Ok x) before e is was d = absurd is
  does_err m a s t p q (Err f) before e is was d = record {
    leaves = leaves_err tells world counts machine_accounts m a s t p q (Err f) before e is was
        d.leaves;
    same = d.same;
    refused = subst (λ r. IfErr r (Refuses q)) (was ∙ ap Err (sym is)) d.refused;
  }

  -- two calls, of which the second one was refused, and two that succeeded
  pub refused_second : {A B C : Type 0} (m n a b most parts : ℕ) (s t u : S) (p q r : Machine)
      (one : Result A SortFault) (two : Result B SortFault) (result : Result C SortFault)
      (e : SortFault)
      → m + n ≤ most → a + b ≤ parts → Does tells world counts m a s t p q one
      → Does tells world counts n b t u q r two
      → IsErrAnd result (λ f. f ≡ e) → two ≡ Err e
      → Does tells world counts most parts s u p r result
  refused_second m n a b most parts s t u p q r one two result e calls more x y is was =
      does_more (m + n) most (a + b) parts s u p r result calls more
      (does_err (m + n) (a + b) s u p r result two e is was
      (does_then m n a b s t u p q r one two x y))

  pub then_more : {A B : Type 0} (m n a b most parts : ℕ) (s t u : S) (p q r : Machine)
      (one : Result A SortFault) (two : Result B SortFault)
      → m + n ≤ most → a + b ≤ parts → Does tells world counts m a s t p q one
      → Does tells world counts n b t u q r two → Does tells world counts most parts s u p r two
  then_more m n a b most parts s t u p q r one two calls more x y =
      does_more (m + n) most (a + b) parts s u p r two calls more
      (does_then m n a b s t u p q r one two x y)

  pub then_ok : {A B C : Type 0} (m n a b most parts : ℕ) (s t u : S) (p q r : Machine)
      (one : Result A SortFault) (two : Result B SortFault) (x : C)
      → m + n ≤ most → a + b ≤ parts → Does tells world counts m a s t p q one
      → Does tells world counts n b t u q r two
      → Does tells world counts most parts s u p r (Ok x)
  then_ok m n a b most parts s t u p q r one two x calls more first second =
      does_ok most parts s u p r two x (then_more m n a b most parts s t u p q r one two calls more
      first second)

  -- a write to the two files that are made
  pub own_both : (inner ends : FileNo) (step next n : ℕ) (s t : S)
      → Told tells s t (WroteBoth n inner ends (world s) (world t))
      → Told tells s t (Ran (OnlyOwn (λ f. (f ≡ inner) ⊎ (f ≡ ends)) step next (now (world s)))
      (world s) (world t))
  own_both inner ends step next n s t did = told tells s t _ _ did (λ _ wrote.
      ran_weakens (world s) (world t) (DuringWrites inner ends (now (world s)))
      (OnlyOwn (λ f. (f ≡ inner) ⊎ (f ≡ ends)) step next (now (world s)))
      (λ m during. own_wrote inner ends step next (now (world s)) m during) wrote.run)

  -- parts that were taken
  pub own_spilled : (inner ends : FileNo) (before after : Parts) (s t : S)
      → ¬ CanBeTaken before.step before.next inner → ¬ CanBeTaken before.step before.next ends
      → Told tells s t (Spilled before after (world s) (world t))
      → Told tells s t (Ran (OnlyOwn (λ f. (f ≡ inner) ⊎ (f ≡ ends)) before.step before.next
      (now (world s))) (world s) (world t))
  own_spilled inner ends before after s t first second did = told tells s t _ _ did (λ _ ran.
      ran_weakens (world s) (world t) (OnlyTaken before after (now (world s)))
      (OnlyOwn (λ f. (f ≡ inner) ⊎ (f ≡ ends)) before.step before.next (now (world s)))
      (λ m only. own_took inner ends before after (now (world s)) m first second only) ran)

  -- only the files of arcs were written to
  pub does_wrote : {T : Type 0} (n : ℕ) (s t : S) (p : Machine) (place : Place) (w : ArcWriter)
      (result : Result T SortFault) → place.variables ≡ p.place.variables
      → SameFiles p.writer w → Told tells s t (WroteBoth n (inner_file p.writer)
      (ends_file p.writer) (world s) (world t))
      → OnlySortShelf (counts s) (counts t) result → IfErr result (λ e. e ≡ Shelf)
      → Does tells world counts n 0 s t p (record p { place = place; writer = w }) result
  does_wrote n s t p place w result variables same did faults cause = record {
    leaves = record {
      made = λ f mine. subst (λ v. v) (λ j. (f ≡ same.inner_is j) ⊎ (f ≡ same.ends_are j)) mine;
      making = λ f mine. subst (λ v. v) (λ j. (f ≡ sym same.inner_is j) ⊎ (f ≡ sym same.ends_are j))
          mine;
      step_is = refl;
      later = omega arith;
      within = λ few. few;
      content = own_both (inner_file p.writer) (ends_file p.writer) p.parts.step p.parts.next n s t
          did;
      untaken = λ is_told f other free empty. ap (λ (x : File). x.bytes) ((ran_end (world s) (world t)
          (DuringWrites (inner_file p.writer) (ends_file p.writer) (now (world s))) (did.did is_told).run).others f
          (λ is. other (inl is)) (λ is. other (inr is))) ∙ empty;
      calls = λ is_told. (let few = (did.did is_told).few in omega (arith, few));
      spent = omega arith;
      faults = faults;
    };
    same = record {
      files_are = λ j. record {
        first = p.operands.first.file;
        second = p.operands.second.file;
        third = p.operands.third.file;
        inner = same.inner_is j;
        ends = same.ends_are j;
      };
      variables_are = variables;
    };
    refused = by result cause;
  }
    where
      by : {X : Type 0} (r : Result X SortFault) → IfErr r (λ e. e ≡ Shelf)
          → IfErr r (Refuses (record p { place = place; writer = w }))
      by (Ok x) is = tt
      by (Err e) is = subst (Refuses (record p { place = place; writer = w })) (sym is) tt

  -- only files whose parts were taken were
  pub does_spilled : {T : Type 0} (m a : ℕ) (s t : S) (p : Machine) (q : LevelQueue Ask)
      (parts : Parts) (result : Result T SortFault) → IsServed p
      → Told tells s t (Spilled p.parts parts (world s) (world t))
      → (IsTrue (tells t) → Paid m (queues.credit p.queue) (queues.credit q) (world s)
      (world t))
      → Took p.parts parts → PaidParts a (queues.stock p.queue) (queues.stock q) p.parts parts
      → OnlySortShelf (counts s) (counts t) result
      → IfErr result (Refuses (record p { queue = q; parts = parts }))
      → Does tells world counts m a s t p (record p { queue = q; parts = parts }) result
  does_spilled m a s t p q parts result served did paid took spent faults refused =
      record {
        leaves = record {
          made = λ f mine. mine;
          making = λ f mine. mine;
          step_is = took.step_is;
          later = took.later;
          within = took.within;
          content = own_spilled (inner_file p.writer) (ends_file p.writer) p.parts parts s t
              served.inner_made served.ends_made did;
          untaken = λ is_told. spilled_empty (λ f. IsMade (files_in p) f) p.parts.step p.parts parts (world s)
              (world t) (did.did is_told);
          calls = paid;
          spent = (let all = spent in omega (arith, all));
          faults = faults;
        };
        same = record { files_are = refl; variables_are = refl };
        refused = refused;
      }

  -- an operand was looked at
  pub does_looked : {T : Type 0} (n : ℕ) (s t : S) (p : Machine) (o : Operands)
      (result : Result T SortFault) → files_in (record p { operands = o }) ≡ files_in p
      → Told tells s t (Looked n (world s) (world t)) → OnlySortShelf (counts s) (counts t) result
      → IfErr result (Refuses (record p { operands = o }))
      → Does tells world counts n 0 s t p (record p { operands = o }) result
  does_looked n s t p o result files did faults refused = record {
    leaves = record {
      made = λ f mine. mine;
      making = λ f mine. mine;
      step_is = refl;
      later = omega arith;
      within = λ few. few;
      content = told tells s t _ _ did (λ _ looked. ran_weakens (world s) (world t)
          (Stays (now (world s))) _ (λ m same. own_stays _ p.parts.step p.parts.next (now (world s))
          m same) looked.run);
      untaken = λ is_told. stays_empty (λ f. IsMade (files_in p) f) p.parts.step p.parts.next (world s) (world t)
          (did.did is_told).run;
      calls = λ is_told. (let few = (did.did is_told).few in omega (arith, few));
      spent = omega arith;
      faults = faults;
    };
    same = record { files_are = files; variables_are = refl };
    refused = refused;
  }
