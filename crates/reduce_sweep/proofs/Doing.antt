-- Calls within a turn, one behind the other: what they leave and cost together, and what is damaged.
use Rattle.std.proofs.Common.{◌≡◌, ℕ, ◌+◌, ◌≤◌, ◌∙◌, Bool, subst, sym, ap, inl, inr}
use Rattle.std.specs.Prelude.{Result, Ok, Err, IsErrAnd, IfErr, IsTrue}
use Rattle.shelf_model.specs.declared.sort_fault.SortFault.{SortFault}
use Rattle.shelf_model.specs.declared.sort_fault.SortFault.TheVariants.{Shelf, Damaged, RunsSpent}
use Rattle.shelf_model.specs.File.{File}
use Rattle.shelf_model.specs.Faults.{Faults}
use Rattle.shelf_model.specs.World.{World, now, file}
use Rattle.shelf_model.proofs.Runs.{told, ran_end}
use Rattle.arc_file.specs.declared.reader.ArcReader.{ArcReader}
use Rattle.arc_file.specs.declared.kind.Kind.TheVariants.{Inner, End}
use Rattle.arc_file.specs.Readers.{inner_of, ends_of}
use Rattle.sweep_core.specs.Accounts.{OnlyOwn}
use Rattle.sweep_core.proofs.Leaving.{leaves_then, leaves_more, leaves_ok, leaves_err}
use Rattle.reduce_lists.specs.AtWork.{AreListed}
use Rattle.reduce_lists.specs.Damage.{IsDamageOf, IsDamageAmong}
use Rattle.reduce_lists.proofs.DamageLaws.{damage_before, damaged_after}
use Rattle.reduce_lists.proofs.Refusing.{if_err_weaker}
use Rattle.reduce_sweep.specs.declared.place.Place.{Place}
use Rattle.reduce_sweep.specs.declared.reduce.ReduceSweep.{ReduceSweep}
use Rattle.reduce_sweep.specs.Sweeps.{inner_file, ends_file, task_of, accounts, IsSound, Refuses}
use Rattle.reduce_sweep.specs.Damage.{IsDamage}
use Rattle.reduce_sweep.specs.Calls.{KeepsLists, SameTask, Does}

-- a task that stays, and stays again
pub task_then : (p q r : ReduceSweep) → SameTask p q → SameTask q r → SameTask p r
task_then p q r first second = record {
  out_is = second.out_is ∙ first.out_is;
  arcs_are = second.arcs_are ∙ first.arcs_are;
  inner_is = second.inner_is ∙ first.inner_is;
  ends_are = second.ends_are ∙ first.ends_are;
  variables_are = second.variables_are ∙ first.variables_are;
}

-- a task that stays, as one value
pub task_same : (p q : ReduceSweep) → SameTask p q → task_of q ≡ task_of p
task_same p q same = λ i. record {
  out = same.out_is i;
  inner = same.inner_is i;
  ends = same.ends_are i;
  arcs = same.arcs_are i;
  variables = same.variables_are i;
}

module _ {S : Type 0} (tells : S → Bool) (world : S → World) (counts : S → Faults) where
  -- a call leaves the bytes of the arc files
  pub arcs_stay : {T : Type 0} (m a : ℕ) (s t : S) (p q : ReduceSweep) (result : Result T SortFault) → IsSound p
      → Does tells world counts m a s t p q result → IsTrue (tells t)
      → ((file (world t) (inner_file p)).bytes ≡ (file (world s) (inner_file p)).bytes)
      × ((file (world t) (ends_file p)).bytes ≡ (file (world s) (ends_file p)).bytes)
  arcs_stay m a s t p q result sound x told =
      let own = ran_end (world s) (world t) (OnlyOwn (accounts.makes p) p.parts.step p.parts.next (now (world s)))
      (x.leaves.content.did told) in (
        ap (λ (f : File). f.bytes) (own.others (inner_file p) sound.served.out_inner sound.served.inner_made),
        ap (λ (f : File). f.bytes) (own.others (ends_file p) sound.served.out_ends sound.served.ends_made),
      )

  -- one call after another that read no arc
  pub does_then : {A B : Type 0} (m n a b : ℕ) (s t u : S) (p q r : ReduceSweep) (one : Result A SortFault)
      (two : Result B SortFault) → IsSound p → q.ahead.reader ≡ p.ahead.reader → KeepsLists tells world s t p q
      → Does tells world counts m a s t p q one → Does tells world counts n b t u q r two
      → Does tells world counts (m + n) (a + b) s u p r two
  does_then m n a b s t u p q r one two sound reader keeps x y = record {
    leaves = leaves_then tells world counts accounts m n a b s t u p q r one two x.leaves y.leaves;
    same = task_then p q r x.same y.same;
    refused = subst (λ v. v) (λ j. IfErr two (Refuses (x.same.inner_is j) (x.same.ends_are j) r)) y.refused;
    damage = if_err_weaker two (λ e damage told lists.
        let before = y.leaves.content.before told in
        let stay = arcs_stay m a s t p q one sound x before in
        damage_before p.ahead.reader (world s) (world t) e stay.0 stay.1
        (subst (λ (v : ArcReader). IsDamageOf v (world t) e) reader (damage told (keeps before lists)))) y.damage;
  }

  -- a call costs no more than what is more
  pub does_more : {T : Type 0} (m n a b : ℕ) (s t : S) (p q : ReduceSweep) (result : Result T SortFault) → m ≤ n → a ≤ b
      → Does tells world counts m a s t p q result → Does tells world counts n b s t p q result
  does_more m n a b s t p q result calls parts x = record {
    leaves = leaves_more tells world counts accounts m n a b s t p q result calls parts x.leaves;
    same = x.same;
    refused = x.refused;
    damage = x.damage;
  }

  -- what is answered instead where nothing failed
  pub does_ok : {A B : Type 0} (m a : ℕ) (s t : S) (p q : ReduceSweep) (result : Result A SortFault) (x : B)
      → Does tells world counts m a s t p q result → Does tells world counts m a s t p q (Ok x)
  does_ok m a s t p q result x d = record {
    leaves = leaves_ok tells world counts accounts m a s t p q result x d.leaves;
    same = d.same;
    refused = tt;
    damage = tt;
  }

  -- a refusal that is handed on
  pub does_err : {A B : Type 0} (m a : ℕ) (s t : S) (p q : ReduceSweep) (result : Result A SortFault)
      (before : Result B SortFault) (e : SortFault)
      → IsErrAnd result (λ f. f ≡ e) → before ≡ Err e → Does tells world counts m a s t p q before
      → Does tells world counts m a s t p q result
  does_err m a s t p q (Ok x) before e is was d = absurd is
  does_err m a s t p q (Err f) before e is was d =
      let same : before ≡ Err f = was ∙ ap Err (sym is) in
      record {
        leaves = leaves_err tells world counts accounts m a s t p q (Err f) before e is was d.leaves;
        same = d.same;
        refused = subst (λ r. IfErr r (Refuses (inner_file p) (ends_file p) q)) same d.refused;
        damage = subst (λ r. IfErr r (λ g. IsTrue (tells t) → AreListed p.ahead p.lists (world s)
            → IsDamageOf p.ahead.reader (world s) g)) same d.damage;
      }

  -- two calls, of which the second one was refused, and two that succeeded
  pub refused_second : {A B C : Type 0} (m n a b most parts : ℕ) (s t u : S) (p q r : ReduceSweep)
      (one : Result A SortFault) (two : Result B SortFault) (result : Result C SortFault) (e : SortFault)
      → m + n ≤ most → a + b ≤ parts → IsSound p → q.ahead.reader ≡ p.ahead.reader → KeepsLists tells world s t p q
      → Does tells world counts m a s t p q one → Does tells world counts n b t u q r two
      → IsErrAnd result (λ f. f ≡ e) → two ≡ Err e → Does tells world counts most parts s u p r result
  refused_second m n a b most parts s t u p q r one two result e calls more sound reader keeps x y is was =
      does_more (m + n) most (a + b) parts s u p r result calls more
      (does_err (m + n) (a + b) s u p r result two e is was (does_then m n a b s t u p q r one two sound reader keeps x
      y))

  pub then_ok : {A B C : Type 0} (m n a b most parts : ℕ) (s t u : S) (p q r : ReduceSweep) (one : Result A SortFault)
      (two : Result B SortFault) (x : C)
      → m + n ≤ most → a + b ≤ parts → IsSound p → q.ahead.reader ≡ p.ahead.reader → KeepsLists tells world s t p q
      → Does tells world counts m a s t p q one → Does tells world counts n b t u q r two
      → Does tells world counts most parts s u p r (Ok x)
  then_ok m n a b most parts s t u p q r one two x calls more sound reader keeps first second =
      does_more (m + n) most (a + b) parts s u p r (Ok x) calls more
      (does_ok (m + n) (a + b) s u p r two x (does_then m n a b s t u p q r one two sound reader keeps first second))

  -- the place within the task is another
  pub does_placed : {T : Type 0} (m a : ℕ) (s t : S) (p q : ReduceSweep) (result : Result T SortFault) (place : Place)
      → place.variables ≡ q.place.variables → place.arcs ≡ q.place.arcs
      → Does tells world counts m a s t p q result → Does tells world counts m a s t p (record q { place = place })
      result
  does_placed m a s t p q result place variables arcs d = record {
    leaves = record {
      made = d.leaves.made;
      making = d.leaves.making;
      step_is = d.leaves.step_is;
      later = d.leaves.later;
      within = d.leaves.within;
      content = d.leaves.content;
      untaken = d.leaves.untaken;
      calls = d.leaves.calls;
      spent = d.leaves.spent;
      faults = d.leaves.faults;
    };
    same = record {
      out_is = d.same.out_is;
      arcs_are = arcs ∙ d.same.arcs_are;
      inner_is = d.same.inner_is;
      ends_are = d.same.ends_are;
      variables_are = variables ∙ d.same.variables_are;
    };
    refused = by result d.refused;
    damage = d.damage;
  }
    where
      by : {X : Type 0} (r : Result X SortFault) → IfErr r (Refuses (inner_file p) (ends_file p) q)
          → IfErr r (Refuses (inner_file p) (ends_file p) (record q { place = place }))
      by (Ok x) why = tt
      by (Err Shelf) why = why
      by (Err (Damaged f at)) why = why
      by (Err RunsSpent) why = why

  -- where damage is once a turn was refused, if the lists existed
  pub damage_after : {T : Type 0} (m a : ℕ) (s t : S) (p q : ReduceSweep) (result : Result T SortFault) → IsSound p
      → Does tells world counts m a s t p q result
      → IfErr result (λ e. IsTrue (tells t) → AreListed p.ahead p.lists (world s) → IsDamage q (world t) e)
  damage_after m a s t p q result sound x = if_err_weaker result (λ e damage told lists.
      subst (λ arcs. IsDamageAmong arcs (world t) e) (sym x.same.arcs_are)
      (by e (arcs_stay m a s t p q result sound x told) (damage told lists))) x.damage
    where
      by : (e : SortFault) → ((file (world t) (inner_file p)).bytes ≡ (file (world s) (inner_file p)).bytes)
          × ((file (world t) (ends_file p)).bytes ≡ (file (world s) (ends_file p)).bytes)
          → IsDamageOf p.ahead.reader (world s) e → IsDamage p (world t) e
      by Shelf stay damage = tt
      by (Damaged f at) stay damage = elim damage [
        | inl d ↦ inl (damaged_after Inner p.place.arcs.inner p.place.arcs.inner_count (inner_of p.ahead.reader)
            (world s) (world t)
            f at sound.within.inner_within stay.0 d)
        | inr d ↦ inr (damaged_after End p.place.arcs.ends p.place.arcs.ends_count (ends_of p.ahead.reader) (world s)
            (world t) f at
            sound.within.ends_within stay.1 d)
      ]
      by RunsSpent stay damage = tt
