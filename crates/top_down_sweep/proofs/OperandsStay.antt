-- The operands' files stay those of a task's diagrams: no call writes to them.
use Rattle.std.proofs.Common.{◌≡◌, ℕ, ◌<◌, ◌≤◌, Bool, subst, sym, ap, inl, inr, arith}
use Rattle.std.specs.Prelude.{Result, IsTrue}
use Rattle.shelf_model.specs.declared.sort_fault.SortFault.{SortFault}
use Rattle.shelf_model.specs.Faults.{Faults}
use Rattle.shelf_model.specs.File.{File}
use Rattle.shelf_model.specs.World.{World, now}
use Rattle.shelf_model.proofs.Runs.{ran_end}
use Rattle.run_tiers.proofs.SyncLaws.{same_or_firm_bytes}
use Rattle.sweep_core.specs.Accounts.{OnlyOwn}
use Rattle.sweep_core.specs.Carries.{IsBehindPoints, OnlySaved, Carries}
use Rattle.top_down.specs.declared.tuple.Tuple.{Tuple}
use Rattle.top_down.specs.Rules.{Rule}
use Rattle.top_down_sweep.specs.declared.machine.Machine.{Machine}
use Rattle.tuple_asks.specs.declared.files.Files.{Files}
use Rattle.top_down_sweep.specs.Calls.{SameTask, Does}
use Rattle.top_down_sweep.specs.Meaning.{Task, IsTaskOn}
use Rattle.top_down_sweep.specs.Sweeps.{files_in, IsMade, IsSoundMachine, machine_accounts}
use Rattle.top_down_sweep.proofs.Holding.{SameApart}
use Rattle.top_down_sweep.proofs.OwnRuns.{serves_past}
use Rattle.tuple_asks.proofs.StartKeeps.{moved_file}

-- an operation on files is the task while the operands stay
pub task_on : (t : Task) (rule : Rule) (begins : Tuple → Tuple) (n : ℕ) (files now_files : Files)
    (step now_step : ℕ) (old new : World) → now_files ≡ files → now_step ≡ step
    → SameApart files step old new → IsTaskOn t rule begins n files step old
    → IsTaskOn t rule begins n now_files now_step new
task_on t rule begins n files now_files step now_step old new same_files same_step same is =
    subst (λ v. v) (λ i. IsTaskOn t rule begins n (sym same_files i) (sym same_step i) new) (record {
      variables_are = is.variables_are;
      rule_is = is.rule_is;
      roots = is.roots;
      begins_are = is.begins_are;
      nodes_are = record {
        first = moved_file files.first n is.roots.first t.diagrams.first old new
            (same files.first is.apart.first) is.nodes_are.first;
        second = moved_file files.second n is.roots.second t.diagrams.second old new
            (same files.second is.apart.second) is.nodes_are.second;
        third = moved_file files.third n is.roots.third t.diagrams.third old new
            (same files.third is.apart.third) is.nodes_are.third;
      };
      apart = is.apart;
    })

-- what is apart is none of what a machine may change
pub own_apart : (m : Machine) (old new : World) → 3 ≤ m.parts.next
    → OnlyOwn (λ f. IsMade (files_in m) f) m.parts.step m.parts.next (now old) (now new)
    → SameApart (files_in m) m.parts.step old new
own_apart m old new past own f apart = ap (λ (x : File). x.bytes) (own.others f
    (λ made. elim made [ inl is ↦ apart.not_inner is | inr is ↦ apart.not_ends is ])
    (λ taken. let early : f.part < 3 = apart.no_part taken.step_is in
    let from : m.parts.next ≤ f.part = taken.from in absurd (omega (arith, early, from, past))))

-- nor is it where what it made is made sure
pub saved_apart : (m : Machine) (old new : World) → 3 ≤ m.parts.next
    → OnlySaved (λ f. IsMade (files_in m) f) m.parts.step m.parts.next (now old) (now new)
    → SameApart (files_in m) m.parts.step old new
saved_apart m old new past saved f apart = same_or_firm_bytes (IsBehindPoints m.parts.step) f (now old) (now new)
    (saved.others f (λ made. elim made [ inl is ↦ apart.not_inner is | inr is ↦ apart.not_ends is ])
    (λ taken. let early : f.part < 3 = apart.no_part taken.step_is in
    let from : m.parts.next ≤ f.part = taken.from in absurd (omega (arith, early, from, past))))

-- so it is the task behind each call of a machine
pub still_on : {S T : Type 0} (tells : S → Bool) (world : S → World) (counts : S → Faults)
    (calls parts : ℕ) (before after : S) (p q : Machine) (r : Result T SortFault) (t : Task)
    (rule : Rule) (begins : Tuple → Tuple) → IsSoundMachine p
    → Does tells world counts calls parts before after p q r → IsTrue (tells after)
    → IsTaskOn t rule begins p.place.variables (files_in p) p.parts.step (world before)
    → IsTaskOn t rule begins q.place.variables (files_in q) q.parts.step (world after)
still_on tells world counts calls parts before after p q r t rule begins sound does told is =
    subst (λ n. IsTaskOn t rule begins n (files_in q) q.parts.step (world after))
    (sym does.same.variables_are) (task_on t rule begins p.place.variables (files_in p) (files_in q)
    p.parts.step q.parts.step (world before) (world after) does.same.files_are does.leaves.step_is
    (own_apart p (world before) (world after)
    (serves_past p.parts p.queue sound.served.serves)
    (ran_end (world before) (world after)
    (OnlyOwn (λ f. IsMade (files_in p) f) p.parts.step p.parts.next (now (world before)))
    (does.leaves.content.did told))) is)

-- and so it is where it is made ready to be saved
pub saved_on : {S T : Type 0} (tells : S → Bool) (world : S → World) (counts : S → Faults)
    (calls parts : ℕ) (before after : S) (p q : Machine) (r : Result T SortFault) (t : Task)
    (rule : Rule) (begins : Tuple → Tuple) → IsSoundMachine p → SameTask p q
    → Carries tells world counts machine_accounts calls parts before after p q r → IsTrue (tells after)
    → IsTaskOn t rule begins p.place.variables (files_in p) p.parts.step (world before)
    → IsTaskOn t rule begins q.place.variables (files_in q) q.parts.step (world after)
saved_on tells world counts calls parts before after p q r t rule begins sound same carries told is =
    subst (λ n. IsTaskOn t rule begins n (files_in q) q.parts.step (world after))
    (sym same.variables_are) (task_on t rule begins p.place.variables (files_in p) (files_in q)
    p.parts.step q.parts.step (world before) (world after) same.files_are carries.step_is
    (saved_apart p (world before) (world after)
    (serves_past p.parts p.queue sound.served.serves)
    (ran_end (world before) (world after)
    (OnlySaved (λ f. IsMade (files_in p) f) p.parts.step p.parts.next (now (world before)))
    (carries.content.did told))) is)
