-- What is still to be made of a table, and sweeps that are seen as a sweep from the root down.
use Rattle.std.proofs.Common.{◌≡◌, ◌≢◌, ◌↔◌, ℕ, ◌+◌, ◌≤◌, ◌∙◌, List, Bool, IsTrue, refl, sym, subst, ap, inl, inr, arith}
use Rattle.std.specs.Prelude.{Result, Ok, Err, Option, Some, None, IsSome, IfSome, OnOk, IfErr, IsErrAnd}
use Rattle.std.proofs.Math.Nat.{lt_of_not-le}
use Rattle.std.proofs.lemmas.Result.{on_ok_weaker}
use Rattle.shelf_model.specs.declared.file_no.FileNo.{FileNo}
use Rattle.shelf_model.specs.declared.sort_fault.SortFault.{SortFault}
use Rattle.shelf_model.specs.declared.sort_fault.SortFault.TheVariants.{RunsSpent}
use Rattle.shelf_model.specs.Faults.{Faults}
use Rattle.shelf_model.specs.World.{World}
use Rattle.arc_file.specs.declared.unreduced.Unreduced.{Unreduced}
use Rattle.arc_file.specs.declared.writer.ArcWriter.{ArcWriter}
use Rattle.arc_file.specs.Writers.{inner_file, ends_file}
use Rattle.run_tiers.specs.declared.parts.Parts.{Parts}
use Rattle.run_tiers.proofs.FaultLaws.{fault_in, sort_shelf_on}
use Rattle.sweep_core.specs.Accounts.{Accounts, CanBeTaken, Leaves}
use Rattle.sweep_core.specs.Sweeps.{IsNoDamage, StaysEnded}
use Rattle.sweep_core.specs.declared.turn.Turn.{Turn}
use Rattle.top_down.specs.declared.tuple.Tuple.{Tuple}
use Rattle.top_down.specs.Rules.{Rule}
use Rattle.top_down_laws.specs.Readings.{Diagrams}
use Rattle.tuple_asks.specs.declared.ask.Ask.{Ask}
use Rattle.tuple_asks.specs.declared.place.Phase.{Phase}
use Rattle.tuple_asks.specs.declared.place.Phase.TheVariants as phases
use Rattle.tuple_asks.specs.declared.files.Files.{Files}
use Rattle.top_down_sweep.specs.declared.beginning.OperandFiles.{OperandFiles}
use Rattle.top_down_sweep.specs.declared.sweep.TopDownSweep.{TopDownSweep}
use Rattle.top_down_sweep.specs.Beginning.{IsReady, Starts, files_from}
use Rattle.tuple_asks.specs.Damage.{IsStartFault}
use Rattle.top_down_sweep.specs.Fuel.{fuel_at, fuel_of, weight}
use Rattle.top_down_sweep.specs.Making.{TableJob, Makes, Gives, accounts_along}
use Rattle.top_down_sweep.specs.Meaning.{Task, table_of, IsTaskOn, Remains, IsMadeWhere}
use Rattle.top_down_sweep.specs.Sweeps.{accounts, files_of, made_in, made_at, IsMade, IsPhaseAt, IsSound, HasMade}
use Rattle.tuple_asks.specs.Operands.{IsStartDamage}
use Rattle.top_down_sweep.specs.Tasks.{AreArcFiles, IsTaskFor, MadeIsDiagram}
use Rattle.top_down_sweep.specs.Waiting.{IsApart, AreApart}
use Rattle.top_down_sweep.proofs.Holding.{if_err_map}
use Rattle.top_down_sweep.proofs.TurnKeeps.{made_where}

-- what was made of a task is a diagram of its table
pub diagram_made : MadeIsDiagram
diagram_made t world made is = record {
  inner = is.inner;
  ends = is.ends;
  inner_has = record {
    begin = is.files.inner_file.begin;
    lead = is.whole.inner_lead;
    ordered = is.whole.inner_order;
  };
  ends_has = record {
    begin = is.files.ends_file.begin;
    lead = is.whole.ends_lead;
    ordered = is.whole.end_order;
  };
  diagram = is.whole.diagram;
}

diagram_where : (t : Task) (n : ℕ) (table : List Bool) (world : World) (o : Option Unreduced)
    → t.n ≡ n → table_of t ≡ table → IsMadeWhere t world o
    → IfSome o (λ arcs. AreArcFiles n table arcs world)
diagram_where t n table world None variables tables made = tt
diagram_where t n table world (Some x) variables tables made =
    subst (λ v. v) (λ i. AreArcFiles (variables i) (tables i) x world) (diagram_made t world x made)

-- there is something made exactly once there is no fuel
ended_at : (p : Phase) (k : ℕ) → IsSome (made_at p) ↔ (fuel_at p k ≡ 0)
ended_at phases.Fresh k = (λ no. absurd (cc), λ none. absurd (omega (arith, none)))
ended_at (phases.Asking s) k = (λ no. absurd (cc), λ none. absurd (omega (arith, none)))
ended_at (phases.Ended made) k = (λ is. refl, λ none. refl)

-- what was made stands in the two files
made_files : (w : ArcWriter) (last : Option Ask) (p : Phase) → IsPhaseAt w last p
    → IfSome (made_at p) (HasMade (inner_file w) (ends_file w))
made_files w last phases.Fresh is = tt
made_files w last (phases.Asking s) is = tt
made_files w last (phases.Ended made) is = is

module _ {O : Type 0} (rule : O → Rule) (begins : O → Tuple → Tuple) where
  -- what is told of the arcs that a sweep has made
  pub gives : (s : TopDownSweep O) (o : Option Unreduced) → o ≡ made_in s → Gives rule begins s o
  gives s o is = record {
    made_is = is;
    at_end = subst (λ (x : Option Unreduced). IsSome x ↔ (fuel_of s ≡ 0)) (sym is)
        (ended_at s.machine.place.phase (weight s.machine));
    in_files = λ ready. subst (λ (x : Option Unreduced). IfSome x
        (HasMade (files_of s).inner (files_of s).ends)) (sym is)
        (made_files s.machine.writer _ s.machine.place.phase ready.sound.phase);
    of_table = λ world job makes. subst (λ (x : Option Unreduced). IfSome x
        (λ arcs. AreArcFiles job.n job.table arcs world)) (sym is)
        (diagram_where makes.task job.n job.table world (made_in s) makes.variables_are
        makes.table_is (made_where makes.task (begins s.operation) s.machine.place.phase s.machine
        world makes.remains.left));
  }

  -- where the task of a table remains, the table remains to be made
  pub makes_table : {d : Diagrams} {roots : Tuple} (operation : O) (s : TopDownSweep O) (n step : ℕ)
      (files : Files) (table : List Bool) (old new : World) → ((t : Task) → IsTaskOn t (rule operation)
      (begins operation) n files step old → Remains rule begins s new t)
      → IsTaskFor (rule operation) (begins operation) n files step old d roots table
      → Makes rule begins s new (record { n = n; table = table })
  makes_table operation s n step files table old new remains is = record {
    task = is.task;
    variables_are = is.on_files.variables_are;
    table_is = is.table_is;
    remains = remains is.task is.on_files;
  }

  -- what keeps each task keeps each table
  pub keeps_making : {T : Type 0} (told : Type 0) (r : Result T SortFault) (p q : TopDownSweep O)
      (old new : World) → OnOk r (told → (t : Task) → Remains rule begins p old t
      → Remains rule begins q new t) → OnOk r (told → (job : TableJob)
      → Makes rule begins p old job → Makes rule begins q new job)
  keeps_making told r p q old new = on_ok_weaker r (λ keeps is job makes. record {
    task = makes.task;
    variables_are = makes.variables_are;
    table_is = makes.table_is;
    remains = keeps is makes.task makes.remains;
  })

  -- no file is damaged while a table is to be made
  pub undamaged_making : {T : Type 0} (told : Type 0) (r : Result T SortFault)
      (p : TopDownSweep O) (old : World) → IfErr r (λ e. told → (t : Task)
      → Remains rule begins p old t → IsNoDamage e) → IfErr r (λ e. told → (job : TableJob)
      → Makes rule begins p old job → IsNoDamage e)
  undamaged_making told r p old = if_err_map r (λ e none is job makes. none is makes.task
      makes.remains)

-- operands of no part from the third on are apart from the next two
pub apart_from : (operands : OperandFiles) (parts : Parts) → 3 ≤ parts.next
    → ¬ CanBeTaken parts.step 3 operands.first → ¬ CanBeTaken parts.step 3 operands.second
    → ¬ CanBeTaken parts.step 3 operands.third → AreApart (files_from operands parts) parts.step
apart_from operands parts past first second third = record {
  first = one operands.first first;
  second = one operands.second second;
  third = one operands.third third;
}
  where
    one : (f : FileNo) → ¬ CanBeTaken parts.step 3 f
        → IsApart (files_from operands parts) parts.step f
    one f free = record {
      not_inner = λ is. free (record {
        step_is = ap (λ (x : FileNo). x.step) is;
        from = subst (λ (x : FileNo). 3 ≤ x.part) (sym is) past;
      });
      not_ends = λ is. free (record {
        step_is = ap (λ (x : FileNo). x.step) is;
        from = subst (λ (x : FileNo). 3 ≤ x.part) (sym is)
            (let more : 3 ≤ parts.next + 1 = omega (arith, past) in more);
      });
      no_part = λ same. lt_of_not-le (λ from. free (record { step_is = same; from = from }));
    }

-- the two files stay two
pub still_ready : {S O T : Type 0} (tells : S → Bool) (world : S → World) (counts : S → Faults)
    (calls parts : ℕ) (before after : S) (p q : TopDownSweep O) (r : Result T SortFault)
    → IsReady p → Leaves tells world counts (accounts O) calls parts before after p q r
    → OnOk r (IsSound q) → OnOk r (IsReady q)
still_ready tells world counts calls parts before after p q r ready leaves = on_ok_weaker r
    (λ sound. record {
      sound = sound;
      two_files = λ same. ready.two_files
          (one same (leaves.making (files_of p).inner (inl refl))
          ∙ sym (one same (leaves.making (files_of p).ends (inr refl))));
    })
  where
    one : {f : FileNo} → (files_of q).inner ≡ (files_of q).ends → IsMade (files_of q) f
        → f ≡ (files_of q).ends
    one same (inl is) = is ∙ same
    one same (inr is) = is

module _ {P Q : Type 0} (view : Q → P) where
  -- what a call of what is seen leaves and costs
  pub leaves_along : {S T : Type 0} (tells : S → Bool) (world : S → World) (counts : S → Faults)
      (accounts : Accounts P) (calls parts : ℕ) (before after : S) (old new : Q)
      (r : Result T SortFault)
      → Leaves tells world counts accounts calls parts before after (view old) (view new) r
      → Leaves tells world counts (accounts_along view accounts) calls parts before after old new r
  leaves_along tells world counts accounts calls parts before after old new r leaves = record {
    made = leaves.made;
    making = leaves.making;
    step_is = leaves.step_is;
    later = leaves.later;
    within = leaves.within;
    content = leaves.content;
    untaken = leaves.untaken;
    calls = leaves.calls;
    spent = leaves.spent;
    faults = leaves.faults;
  }

  -- and where that had ended
  pub ended_along : (back : P → Q) → ((q : Q) → back (view q) ≡ q) → {S : Type 0}
      (before after : S) (old new : Q) (r : Result Turn SortFault)
      → StaysEnded before after (view old) (view new) r → StaysEnded before after old new r
  ended_along back again before after old new r stays = record {
    result_is = stays.result_is;
    sweep_is = sym (again new) ∙ ap back stays.sweep_is ∙ again old;
    station_is = stays.station_is;
  }

module _ {S : Type 0} (tells : S → Bool) (world : S → World) (counts : S → Faults) (n : ℕ)
    (files : Files) (parts : Parts) (before after : S) where
  -- what a start leaves that is answered with another value
  pub starts_ok : {A B : Type 0} (x : A) (y : B)
      → Starts tells world counts n files parts before after (Ok x)
      → Starts tells world counts n files parts before after (Ok y)
  starts_ok x y starts = record {
    content = starts.content;
    faults = record {
      later = starts.faults.later;
      cause = λ was. absurd (cc);
      say_is = starts.faults.say_is;
      text_is = starts.faults.text_is;
    };
    spent = (λ was. absurd (cc), λ few. (let no = starts.spent.1 few in absurd (cc)));
    refused = tt;
    damage = tt;
  }

  -- and one whose fault is handed on
  pub starts_err : {A B : Type 0} (e : SortFault) (r : Result B SortFault)
      → IsErrAnd r (λ x. x ≡ e)
      → Starts {T = A} tells world counts n files parts before after (Err e)
      → Starts tells world counts n files parts before after r
  starts_err e (Ok y) is starts = absurd is
  starts_err {A} {B} e (Err x) is starts = record {
    content = starts.content;
    faults = sort_shelf_on (counts before) (counts after) e (Err x) is starts.faults;
    spent = (
      λ was. starts.spent.0 (ap refused_a (sym is ∙ ap fault_in was)),
      λ few. ap refused_b (is ∙ ap fault_in (starts.spent.1 few)),
    );
    refused = subst (λ (f : SortFault). f ≢ RunsSpent → IsStartDamage files f) (sym is)
        starts.refused;
    damage = subst (λ (f : SortFault). f ≢ RunsSpent → IsTrue (tells after)
        → IsStartFault files n (world before) f) (sym is) starts.damage;
  }
    where
      refused_a : SortFault → Result A SortFault
      refused_a f = Err f

      refused_b : SortFault → Result B SortFault
      refused_b f = Err f
