-- The tables that stand in a checkpoint once all was made sure.
use Rattle.std.proofs.Common.{◌≡◌, ◌≢◌, ℕ, zero, suc, ◌+◌, ◌-◌, ◌<◌, ◌≤◌, ◌∙◌, List, [], ◌∷◌, All, length, map, get_or, refl, sym, ap, subst, arith, inl, inr}
use Rattle.std.specs.Prelude.{◌⊎◌}
use Rattle.std.proofs.lemmas.List.{get_or-map, get_or_default, length-map}
use Rattle.std.proofs.lemmas.List.Elements.{All-head, All-tail, All-weaker, All-get_or, All-from_get_or}
use Rattle.shelf_model.specs.declared.file_no.FileNo.{FileNo}
use Rattle.shelf_model.specs.File.{File}
use Rattle.shelf_model.specs.World.{World, file}
use Rattle.run_files.specs.declared.head.Head.{Head}
use Rattle.run_files.specs.Heads.{IsUsed, IsRun, AreRuns, bytes_of, head_at, no_head}
use Rattle.run_tiers.specs.declared.parts.Parts.{Parts}
use Rattle.run_tiers.specs.declared.run.Run.{Run}
use Rattle.run_tiers.specs.declared.run.RunTable.{RunTable}
use Rattle.run_tiers.specs.Syncs.{IsFirm}
use Rattle.run_tiers.specs.Tables.{no_run, IsInUse, IsSlot, IsTable, IsTidyTable, IsBareTable, IsEmptyTable, IsFirmTable, ServeTable, Names, head_of, heads_of}
use Rattle.run_tiers.specs.Tiers.{weigh, worth}
use Rattle.run_tiers.proofs.TableLaws.{anew, head_used, use_of}
use Rattle.run_merge.specs.Tables.{IsBeforeEnd}
use Rattle.sweep_core.specs.Tables as points
use Rattle.reduce_sweep.specs.SavedTables.{as_table}

-- five cases
pub five : (P : ℕ → Type 0) → P 0 → P 1 → P 2 → P 3 → P 4 → (k : ℕ) → k < 5 → P k
five P a b c d e zero below = a
five P a b c d e (suc zero) below = b
five P a b c d e (suc (suc zero)) below = c
five P a b c d e (suc (suc (suc zero))) below = d
five P a b c d e (suc (suc (suc (suc zero)))) below = e
five P a b c d e (suc (suc (suc (suc (suc k))))) below = absurd (omega (arith, below))

-- tables that were taken apart
pub tables_back : (tables : List RunTable) → map as_table (map (λ (t : RunTable). t.runs) tables) ≡ tables
tables_back [] = refl
tables_back (t ∷ tables) = ap (λ (ts : List RunTable). t ∷ ts) (tables_back tables)

-- no run is in use in a slot where none stands
pub unused : (r : Run) → r ≡ no_run → ¬ IsInUse r
unused r is used = absurd (let none : 0 < 0 = subst IsInUse is used in omega (arith, none))

-- slots without runs are worth nothing
worth_bare : (weight : ℕ → Head → ℕ) (step i : ℕ) (runs : List Run) → All (λ r. r ≡ no_run) runs
    → weigh weight i (map (head_of step) runs) ≡ 0
unfolding weigh
worth_bare weight step i [] bare = refl
worth_bare weight step i (r ∷ runs) bare =
    let first : r ≡ no_run = All-head (λ (q : Run). q ≡ no_run) r runs bare in
    let rest = worth_bare weight step (suc i) runs (All-tail (λ (q : Run). q ≡ no_run) r runs bare) in
    subst (λ (q : Run). weigh weight i (head_of step q ∷ map (head_of step) runs) ≡ 0) (sym first)
    (ap (λ n. 0 + n) rest)

-- a table without runs can be read, and parts serve it
pub bare_read : (table : RunTable) → IsBareTable table → IsTable table
bare_read table bare = record {
  many = bare.many;
  slots = All-weaker (λ (r : Run). r ≡ no_run) (λ (r : Run). IsInUse r → IsSlot r)
      (λ r is used. absurd (unused r is used)) table.runs bare.bare;
}

pub bare_served : (parts : Parts) (table : RunTable) → 3 ≤ parts.next → IsBareTable table → ServeTable parts table
bare_served parts table past bare = record {
  past_made = past;
  runs_made = All-weaker (λ (r : Run). r ≡ no_run) (λ (r : Run). IsInUse r → r.part < parts.next)
      (λ r is used. absurd (unused r is used)) table.runs bare.bare;
  worth_taken = let none : worth (heads_of parts.step table) ≡ 0 = worth_bare _ parts.step 0 table.runs bare.bare in
      omega (arith, none);
}

pub bare_empty : (table : RunTable) → IsBareTable table → IsEmptyTable table
bare_empty table bare = All-weaker (λ (r : Run). r ≡ no_run) (λ (r : Run). ¬ IsInUse r) unused table.runs bare.bare

pub bare_tidy : (table : RunTable) → IsBareTable table → IsTidyTable table
bare_tidy table bare = All-weaker (λ (r : Run). r ≡ no_run) (λ (r : Run). IsInUse r ⊎ (r ≡ no_run)) (λ r is. inr is)
    table.runs bare.bare

-- the slots of a table are those of a lawful one of a checkpoint
pub lawful_slots : (parts : Parts) (table : RunTable) → IsTable table → IsTidyTable table → ServeTable parts table
    → All (points.IsSlot parts.next) table.runs
lawful_slots parts table read tidy served =
    All-from_get_or (points.IsSlot parts.next) table.runs no_run (λ i below.
    let r : Run = get_or table.runs i no_run in
    elim (All-get_or (λ (q : Run). IsInUse q ⊎ (q ≡ no_run)) table.runs i no_run below tidy) [
      | inl used ↦ (
          let slot : IsSlot r = All-get_or (λ (q : Run). IsInUse q → IsSlot q) table.runs i no_run below read.slots used
          in
          inr (record {
            from = slot.past_made;
            below = All-get_or (λ (q : Run). IsInUse q → q.part < parts.next) table.runs i no_run below served.runs_made
                used;
            within = omega (arith, used);
            small = slot.far;
          }))
      | inr none ↦ inl (record {
        part = ap (λ (q : Run). q.part) none;
        next = ap (λ (q : Run). q.next) none;
        last = ap (λ (q : Run). q.end) none;
      })
    ])

-- the head of a slot that is in use
head_at_slot : (step : ℕ) (table : RunTable) (slot : ℕ) → slot < length table.runs
    → head_at (heads_of step table) slot ≡ head_of step (get_or table.runs slot no_run)
head_at_slot step table slot within = get_or-map (head_of step) table.runs slot no_run no_head within

-- a table names the file of each slot that is in use
pub names_in_use : (step : ℕ) (table : RunTable) (slot : ℕ) (f : FileNo) → slot < length table.runs
    → IsInUse (get_or table.runs slot no_run)
    → f ≡ record { step = step; part = (get_or table.runs slot no_run).part } → Names step table f
names_in_use step table slot f within used is =
    let r : Run = get_or table.runs slot no_run in
    let many = length-map table.runs (head_of step) in
    let head : head_at (heads_of step table) slot ≡ anew step r =
    head_at_slot step table slot within ∙ head_used step r used in (
      slot,
      omega (arith, within, many),
      subst IsUsed (sym head) used,
      is ∙ ap (λ (h : Head). h.file) (sym head),
    )

-- the file of a run of which records are left doesn't end before the run does, and so far it is sure
pub sure_front : {T : Type 0} (is_value : T → Type 0) (words : T → List ℕ) (step : ℕ) (table : RunTable) (world : World)
    (f : FileNo) (n : ℕ) → IsFirmTable step table world → AreRuns is_value words (heads_of step table) world
    → IsBeforeEnd step table f n → n ≤ (file world f).firm
sure_front is_value words step table world f n firm runs (slot, r, within, is, (used, file_is, front)) =
    let q : Run = get_or table.runs slot no_run in
    let same : q ≡ r = get_or_default table.runs slot no_run r within ∙ is in
    let head : head_at (heads_of step table) slot ≡ anew step r =
    head_at_slot step table slot within ∙ ap (head_of step) same ∙ head_used step r used in
    let many = length-map table.runs (head_of step) in
    let good : IsRun is_value words (anew step r) (bytes_of world (anew step r)) =
    subst (λ (h : Head). IsRun is_value words h (bytes_of world h)) head
    (All-get_or (λ (h : Head). IsRun is_value words h (bytes_of world h)) (heads_of step table) slot no_head
    (omega (arith, within, many)) runs) in
    let whole = (good (r.end - 1) (omega (arith, used)) (omega (arith, used))).whole in
    let bytes : length (file world f).bytes ≡ length (bytes_of world (anew step r)) =
    ap (λ (g : FileNo). length (file world g).bytes) file_is in
    let is_firm : IsFirm (file world f) = firm f (names_in_use step table slot f within (subst IsInUse (sym same) used)
    (file_is ∙ (λ j. record { step = step; part = (sym same j).part }))) in
    let all : (file world f).firm ≡ length (file world f).bytes = ap (λ (x : File). x.firm) is_firm in
    omega (arith, whole, bytes, all, front, used)

-- a part that is that of no run of the table
pub apart_from : (step : ℕ) (table : RunTable) (f : FileNo) → f.step ≡ step → ¬ Names step table f
    → All (λ r. IsInUse r → r.part ≢ f.part) table.runs
apart_from step table f step_is none =
    All-from_get_or (λ (r : Run). IsInUse r → r.part ≢ f.part) table.runs no_run (λ i below used same.
    none (names_in_use step table i f below used (λ j. record { step = step_is j; part = sym same j })))

-- a table without runs names none
pub bare_names : (step : ℕ) (table : RunTable) → IsBareTable table → (f : FileNo) → ¬ Names step table f
bare_names step table bare f (k, below, used, is) =
    let many = length-map table.runs (head_of step) in
    let within : k < length table.runs = omega (arith, below, many) in
    let none : get_or table.runs k no_run ≡ no_run =
    All-get_or (λ (q : Run). q ≡ no_run) table.runs k no_run within bare.bare in
    let head : head_at (heads_of step table) k ≡ head_of step no_run =
    head_at_slot step table k within ∙ ap (head_of step) none in
    let gone : 0 < 0 = subst IsUsed head used in
    absurd (omega (arith, gone))

-- a file that a table names is that of a slot in use
pub used_slot : (step : ℕ) (table : RunTable) (f : FileNo) → Names step table f
    → (slot : ℕ) × (slot < length table.runs) × IsInUse (get_or table.runs slot no_run)
    × (f ≡ record { step = step; part = (get_or table.runs slot no_run).part })
used_slot step table f (k, below, used, is) =
    let many = length-map table.runs (head_of step) in
    let within : k < length table.runs = omega (arith, below, many) in
    let r : Run = get_or table.runs k no_run in
    let head : head_at (heads_of step table) k ≡ head_of step r = head_at_slot step table k within in
    let in_use : IsInUse r = use_of step r (subst IsUsed head used) in
    (k, within, in_use, is ∙ ap (λ (h : Head). h.file) (head ∙ head_used step r in_use))

pub named_slot : (step : ℕ) (table : RunTable) (f : FileNo) → Names step table f
    → (slot : ℕ) × (slot < length table.runs) × (f ≡ record { step = step; part = (get_or table.runs slot no_run).part })
named_slot step table f names = let used = used_slot step table f names in (used.0, used.1, used.3)

-- it has the part of none of its runs in use
pub not_named : (step : ℕ) (table : RunTable) (f : FileNo) → All (λ r. IsInUse r → r.part ≢ f.part) table.runs
    → ¬ Names step table f
not_named step table f apart names =
    let used = used_slot step table f names in
    All-get_or (λ (r : Run). IsInUse r → r.part ≢ f.part) table.runs used.0 no_run used.1 apart used.2
    (sym (ap (λ (g : FileNo). g.part) used.3))
