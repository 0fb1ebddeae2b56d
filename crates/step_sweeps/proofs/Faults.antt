-- Where a step that sweeps finds a file damaged.
use Rattle.std.proofs.Common.{◌≡◌, ◌≢◌, ◌⊎◌, ℕ, ◌==◌, true, List, subst, inl, inr}
use Rattle.std.specs.Prelude.{Option, Some, None}
use Rattle.std.proofs.lemmas.Bool.{and_parts, eqb-true}
use Rattle.rec_words.specs.Words.{IsNodeWord}
use Rattle.shelf_model.specs.declared.file_no.FileNo.{FileNo}
use Rattle.shelf_model.specs.declared.sort_fault.SortFault.{SortFault}
use Rattle.shelf_model.specs.declared.sort_fault.SortFault.TheVariants.{Shelf, Damaged, RunsSpent}
use Rattle.shelf_model.specs.File.{File}
use Rattle.shelf_model.specs.World.{World, file}
use Rattle.sweep_core.specs.declared.checkpoint.Checkpoint.{Checkpoint}
use Rattle.sweep_core.specs.Sweeps.{IsNoDamage}
use Rattle.node_reading.specs.Reading.{IsDamagedNode, IsTrailerFault}
use Rattle.tuple_asks.specs.declared.ask.Member.{Member}
use Rattle.top_down_sweep.specs.declared.beginning.OperandFiles.{OperandFiles}
use Rattle.top_down_sweep.specs.declared.machine.Machine.{Machine}
use Rattle.tuple_asks.specs.declared.files.Files.{Files}
use Rattle.node_reading.specs.Missing.{IsAbsent, IsKnown}
use Rattle.tuple_asks.specs.Damage.{IsReadDamage, IsStartFault}
use Rattle.top_down_sweep.specs.Damage.{IsMachineDamage}
use Rattle.top_down_sweep.specs.Knowing.{bytes_in}
use Rattle.tuple_asks.specs.Knowing.{KnowsMember, StaysKnown}
use Rattle.tuple_asks.specs.Members.{is_node}
use Rattle.top_down_sweep.specs.Resumes.{Blames}
use Rattle.tuple_asks.specs.Resuming.{IsOperandFault, OfFirst, OfSecond, OfThird, OfArcs}
use Rattle.top_down_sweep.specs.Sweeps.{files_in}
use Rattle.top_down_sweep.specs.Waiting.{AreApart}
use Rattle.step_sweeps.specs.Damage.{IsDamagedBy, MissesAsked, IsOperandsFault}

-- a file without its trailer is damaged
no_trailer : (Misses : List ℕ → ℕ → Type 0) (n : ℕ) (read : FileNo) (world : World) (f : FileNo) (at : ℕ)
    → IsTrailerFault read n world (Damaged f at) → IsDamagedBy Misses n read world f at
no_trailer Misses n read world f at is = (is.0, inl is)

-- a start finds an operand's file damaged
pub start_fault : (Misses : List ℕ → ℕ → Type 0) (n : ℕ) (operands : OperandFiles) (files : Files) (world : World)
    (e : SortFault) → files.first ≡ operands.first → files.second ≡ operands.second → files.third ≡ operands.third
    → (e ≢ RunsSpent → IsStartFault files n world e) → IsOperandsFault Misses n operands world e
start_fault Misses n operands files world Shelf first second third is = tt
start_fault Misses n operands files world (Damaged f at) first second third is = elim (is (λ same. absurd (cc))) [
  | inl fault ↦ inl (no_trailer Misses n _ world f at
      (subst (λ x. IsTrailerFault x n world (Damaged f at)) first fault))
  | inr (inl fault) ↦ inr (inl (no_trailer Misses n _ world f at
      (subst (λ x. IsTrailerFault x n world (Damaged f at)) second fault)))
  | inr (inr fault) ↦ inr (inr (no_trailer Misses n _ world f at
      (subst (λ x. IsTrailerFault x n world (Damaged f at)) third fault)))
]
start_fault Misses n operands files world RunsSpent first second third is = tt

-- the operands' files are those of a sweep, and are as they were
pub record AreStill (operands : OperandFiles) (files : Files) (old new : World) : Type 0 where
  pub first : files.first ≡ operands.first
  pub second : files.second ≡ operands.second
  pub third : files.third ≡ operands.third
  pub first_kept : file new operands.first ≡ file old operands.first
  pub second_kept : file new operands.second ≡ file old operands.second
  pub third_kept : file new operands.third ≡ file old operands.third

-- so is one of which a record was read that is damaged, or in which a node isn't there
read_damage : (Own : Type 0) (m n : ℕ) (g read : FileNo) (old new : World) (key : ℕ) (f : FileNo) (at : ℕ) → m ≡ n
    → g ≡ read → file new read ≡ file old read → IsReadDamage m g key new (Damaged f at)
    → IsNodeWord key → (Own → IsKnown (file new g).bytes key) → IsDamagedBy (MissesAsked Own) n read old f at
read_damage Own m n g read old new key f at variables same kept damage node known =
    let here : IsReadDamage n read key new (Damaged f at) =
    subst (λ v. v) (λ i. IsReadDamage (variables i) (same i) key new (Damaged f at)) damage in
    let then : IsDamagedNode n (file old read).bytes at ⊎ IsAbsent (file old read).bytes key at =
    subst (λ (x : File). IsDamagedNode n x.bytes at ⊎ IsAbsent x.bytes key at) kept here.1 in
    let knows : Own → IsKnown (file old read).bytes key = λ own.
    subst (λ (x : File). IsKnown x.bytes key) kept (subst (λ h. IsKnown (file new h).bytes key) same (known own)) in (
      here.0,
      elim then [
        | inl node ↦ inr (inl node)
        | inr absent ↦ inr (inr (record { key = key; node = node; absent = absent; known = knows }))
      ],
    )

-- where the operation makes known pointers alone, what an ask wants is known to the files
key_known : (bytes : List ℕ) (key : ℕ) (m : Member) → is_node key m ≡ true → KnowsMember bytes m → IsKnown bytes key
key_known bytes key m is knows =
    let same : m.low ≡ key = eqb-true m.low key (and_parts (m.low == key) (m.high == key) is).0 in
    subst (IsKnown bytes) same knows.low

-- and so does a turn
pub turn_fault : (Own : Type 0) (n : ℕ) (operands : OperandFiles) (rule : _) (begins : _) (m : Machine)
    (old new : World) (e : SortFault) → m.place.variables ≡ n → AreStill operands (files_in m) old new
    → AreApart (files_in m) m.parts.step → (Own → StaysKnown rule begins (bytes_in m new))
    → IsMachineDamage rule begins m new e → IsOperandsFault (MissesAsked Own) n operands old e
turn_fault Own n operands rule begins m old new Shelf variables still apart stays is = tt
turn_fault Own n operands rule begins m old new (Damaged f at) variables still apart stays is =
    let damage = is apart in
    let key = damage.ask.key in
    let members = damage.ask.members in
    elim damage.damaged [
      | inl fault ↦ inl (read_damage Own _ n _ operands.first old new key f at variables still.first
          still.first_kept fault.1 damage.node
          (λ own. key_known _ key members.first fault.0 (damage.known (stays own)).first))
      | inr (inl fault) ↦ inr (inl (read_damage Own _ n _ operands.second old new key f at variables still.second
          still.second_kept fault.1 damage.node
          (λ own. key_known _ key members.second fault.0 (damage.known (stays own)).second)))
      | inr (inr fault) ↦ inr (inr (read_damage Own _ n _ operands.third old new key f at variables still.third
          still.third_kept fault.1 damage.node
          (λ own. key_known _ key members.third fault.0 (damage.known (stays own)).third)))
    ]
turn_fault Own n operands rule begins m old new RunsSpent variables still apart stays is = tt

-- a fault that is no damage is one of the step
pub no_damage : (Misses : List ℕ → ℕ → Type 0) (n : ℕ) (operands : OperandFiles) (world : World) (e : SortFault)
    → IsNoDamage e → IsOperandsFault Misses n operands world e
no_damage Misses n operands world Shelf none = tt
no_damage Misses n operands world (Damaged f at) none = absurd none
no_damage Misses n operands world RunsSpent none = tt

-- a cause that a sweep isn't rebuilt is no want of a part number
pub never_blamed : {O : Type 0} (o : _) (c : Checkpoint) (world : World) → ¬ (Blames {O = O} o c world RunsSpent)
never_blamed o c world blames = elim blames.cause [
  | OfFirst fault ↦ operand _ _ _ blames.saved.first.read fault
  | OfSecond fault ↦ operand _ _ _ blames.saved.second.read fault
  | OfThird fault ↦ operand _ _ _ blames.saved.third.read fault
  | OfArcs fault ↦ fault
]
  where
    operand : (n step : ℕ) (f : FileNo) (read : Option ℕ) → ¬ (IsOperandFault n step f read world RunsSpent)
    operand n step f None fault = fault
    operand n step f (Some place) (inl fault) = fault
    operand n step f (Some place) (inr fault) = fault
