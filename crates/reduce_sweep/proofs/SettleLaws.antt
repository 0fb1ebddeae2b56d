-- Calls by which all that a reduction made is made sure, one behind the other, and the tables that they answer.
use Rattle.std.proofs.Common.{◌≡◌, ℕ, ◌+◌, ◌*◌, ◌≤◌, ◌<◌, ◌∙◌, Bool, List, arith, subst, sym, ap, inl, inr}
use Rattle.std.specs.Prelude.{◌^◌, Result, Ok, Err, IsErrAnd, IsErrOf, IfErr, IsTrue}
use Rattle.std.specs.declared.cmp.Ordering.{Ordering}
use Rattle.std.proofs.lemmas.Result.{on_ok_weaker}
use Rattle.std.proofs.lemmas.List.Elements.{All-weaker}
use Rattle.shelf_model.specs.declared.file_no.FileNo.{FileNo}
use Rattle.shelf_model.specs.declared.sort_fault.SortFault.{SortFault}
use Rattle.shelf_model.specs.declared.sort_fault.SortFault.TheVariants.{Shelf, Damaged, RunsSpent}
use Rattle.shelf_model.specs.declared.fault.StreamFault.{StreamFault}
use Rattle.shelf_model.specs.declared.fault.StreamFault.TheVariants as stream
use Rattle.shelf_model.specs.SortFaults.{handed_on}
use Rattle.shelf_model.specs.Calls.{Told}
use Rattle.shelf_model.specs.Faults.{Faults}
use Rattle.shelf_model.specs.File.{File, firm_file}
use Rattle.shelf_model.specs.Moments.{Ran}
use Rattle.shelf_model.specs.World.{World, now, file}
use Rattle.shelf_model.proofs.Runs.{ran_end}
use Rattle.arc_file.specs.declared.unreduced.Unreduced.{Unreduced}
use Rattle.arc_file.specs.Streams.{left_of}
use Rattle.arc_file.specs.Readers.{inner_of, ends_of}
use Rattle.run_tiers.specs.declared.parts.Parts.{Parts}
use Rattle.run_tiers.specs.declared.run.Run.{Run}
use Rattle.run_tiers.specs.declared.run.RunTable.{RunTable}
use Rattle.run_tiers.specs.Parts.{Took}
use Rattle.run_tiers.specs.Syncs.{AnyFroze, IsSameOrFirm}
use Rattle.run_tiers.specs.Tables.{IsInUse, IsFirmTable, Names, ServeTable, heads_of}
use Rattle.run_tiers.specs.Tiers.{worth}
use Rattle.run_merge.specs.Tables.{TableLists}
use Rattle.run_merge.proofs.FreezeLaws.{table_kept_frozen}
use Rattle.sweep_core.specs.Sweeps.{IsNoDamage}
use Rattle.sweep_core.specs.Accounts.{CanBeTaken}
use Rattle.sweep_core.specs.Carries.{Carries}
use Rattle.sweep_core.proofs.Carrying.{carries_then, carries_more, carries_ok, carries_err}
use Rattle.reduce_lists.specs.AtWork.{AreListed}
use Rattle.reduce_lists.specs.Contents.{Contents}
use Rattle.reduce_lists.specs.Damage.{IsDamageAmong, IsListCause}
use Rattle.reduce_lists.proofs.Listing.{could_be}
use Rattle.reduce_lists.proofs.Refusing.{if_err_weaker}
use Rattle.reduce_sweep.specs.declared.reduce.ReduceSweep.{ReduceSweep}
use Rattle.reduce_sweep.specs.Sweeps.{out_of, accounts, fuel_at, turns_left, one_if_some}
use Rattle.reduce_sweep.specs.Settling.{KeepsAll, Settles, HasNodes, IsTableOf, StandsForList}
use Rattle.reduce_sweep.proofs.Doing.{task_then}

-- what is true of a failed call of the folder is so of a write that is refused
pub write_spares : {T : Type 0} (result : Result T SortFault) (fault : StreamFault) (P : SortFault → Type 0) → P Shelf
    → IsErrAnd result (λ e. e ≡ handed_on fault) → fault ≡ stream.Shelf → IfErr result P
write_spares (Ok x) fault P here is shelf = tt
write_spares (Err e) fault P here is shelf = subst P (sym (is ∙ ap handed_on shelf)) here

-- where no file is damaged, an arc that is would be among these
pub no_damage_among : (arcs : Unreduced) (world : World) (e : SortFault) → IsNoDamage e → IsDamageAmong arcs world e
no_damage_among arcs world Shelf none = tt
no_damage_among arcs world (Damaged f at) none = absurd none
no_damage_among arcs world RunsSpent none = tt

-- where a call of a list is refused for want of a part number, no number below 2 ^ 32 is left
pub list_spent : {T : Type 0} (parts : Parts) (result : Result T SortFault) → IfErr result (IsListCause parts)
    → IsErrOf result RunsSpent → 2 ^ 32 ≤ parts.next
list_spent parts result refused spent =
    subst (λ (r : Result _ SortFault). IfErr r (IsListCause parts)) spent refused

module _ {S : Type 0} (tells : S → Bool) (world : S → World) where
  -- what is kept, and kept again
  pub keeps_then : (s t u : S) (p q r : ReduceSweep) → (IsTrue (tells u) → IsTrue (tells t)) → KeepsAll tells world s t p q
      → KeepsAll tells world t u q r → KeepsAll tells world s u p r
  keeps_then s t u p q r before x y = record {
    fit = y.fit;
    place_is = y.place_is ∙ x.place_is;
    reader_is = y.reader_is ∙ x.reader_is;
    inner_is = y.inner_is ∙ x.inner_is;
    end_is = y.end_is ∙ x.end_is;
    queue_held = y.queue_held ∙ x.queue_held;
    rows_held = y.rows_held ∙ x.rows_held;
    names_held = y.names_held ∙ x.names_held;
    nodes_many = y.nodes_many ∙ x.nodes_many;
    listed = λ told lists. y.listed told (x.listed (before told) lists);
    holds = λ told k holds. y.holds told k (x.holds (before told) k holds);
  }

  module _ (counts : S → Faults) where
    -- one call after another
    pub settles_then : {A B : Type 0} (m n a b : ℕ) (s t u : S) (p q r : ReduceSweep) (one : Result A SortFault)
        (two : Result B SortFault) → KeepsAll tells world s t p q → Settles tells world counts m a s t p q one
        → Settles tells world counts n b t u q r two → Settles tells world counts (m + n) (a + b) s u p r two
    settles_then m n a b s t u p q r one two keeps x y = record {
      carries = carries_then tells world counts accounts m n a b s t u p q r one two x.carries y.carries;
      same = task_then p q r x.same y.same;
      refused = y.refused;
      spared = if_err_weaker two (λ e spared told lists.
          spared told (keeps.listed (y.carries.content.before told) lists)) y.spared;
      keeps = on_ok_weaker two (λ more. keeps_then s t u p q r y.carries.content.before keeps more) y.keeps;
    }

    -- what is answered instead where nothing failed, and a refusal that is handed on
    pub settles_ok : {A B : Type 0} (m a : ℕ) (s t : S) (p q : ReduceSweep) (result : Result A SortFault) (x : B)
        → KeepsAll tells world s t p q → Settles tells world counts m a s t p q result
        → Settles tells world counts m a s t p q (Ok x)
    settles_ok m a s t p q result x keeps d = record {
      carries = carries_ok tells world counts accounts m a s t p q result x d.carries;
      same = d.same;
      refused = tt;
      spared = tt;
      keeps = keeps;
    }

    pub settles_err : {A B : Type 0} (m n a b : ℕ) (s t : S) (p q : ReduceSweep) (result : Result A SortFault)
        (before : Result B SortFault) (e : SortFault) → m ≤ n → a ≤ b → IsErrAnd result (λ f. f ≡ e) → before ≡ Err e
        → Settles tells world counts m a s t p q before → Settles tells world counts n b s t p q result
    settles_err m n a b s t p q (Ok x) before e calls parts is was d = absurd is
    settles_err m n a b s t p q (Err f) before e calls parts is was d =
        let same : before ≡ Err f = was ∙ ap Err (sym is) in
        record {
          carries = carries_more tells world counts accounts m n a b s t p q (Err f) calls parts
              (carries_err tells world counts accounts m a s t p q (Err f) e is
              (subst (Carries tells world counts accounts m a s t p q) was d.carries));
          same = d.same;
          refused = subst (λ r. IfErr r (IsListCause q.parts)) same d.refused;
          spared = subst (λ r. IfErr r (λ g. IsTrue (tells t) → AreListed p.ahead p.lists (world s) → IsNoDamage g)) same
              d.spared;
          keeps = tt;
        }

  -- parts that serve a table serve it still when some of them were taken
  pub serves_table_on : (table : RunTable) (before after : Parts) → Took before after → ServeTable before table
      → ServeTable after table
  serves_table_on table before after took serves =
      let later = took.later in
      record {
        past_made = let past = serves.past_made in omega (arith, past, later);
        runs_made = All-weaker (λ (r : Run). IsInUse r → r.part < before.next) (λ (r : Run). IsInUse r → r.part < after.next)
            (λ r was used. let below = was used in omega (arith, below, later)) table.runs serves.runs_made;
        worth_taken = subst (λ s. worth (heads_of s table) ≤ after.next) (sym took.step_is)
            (let worth_is = serves.worth_taken in omega (arith, worth_is, later));
      }

  -- a table names the runs of its list still
  pub table_of_on : (q r : ReduceSweep) (is_run : FileNo → Type 0) (count : ℕ) (table : RunTable)
      → Took q.parts r.parts → IsTableOf q is_run count table → IsTableOf r is_run count table
  table_of_on q r is_run count table took is = record {
    read = is.read;
    tidy = is.tidy;
    served = serves_table_on table q.parts r.parts took is.served;
    counted = is.counted;
    named = λ f run. subst (λ s. Names s table f) (sym took.step_is) (is.named f run);
    only = λ f names. is.only f (subst (λ s. Names s table f) took.step_is names);
  }

  -- it stands for its list where other runs were frozen
  pub stands_on : {T : Type 0} (is_value : T → Type 0) (words : T → List ℕ) (cmp : T → T → Ordering) (s t u : S)
      (p q r : ReduceSweep) (list_of : Contents → List T) (table : RunTable) → Took q.parts r.parts
      → ServeTable q.parts table → Told tells t u (Ran (AnyFroze q.parts r.parts (now (world t))) (world t) (world u))
      → StandsForList is_value words cmp tells world s t p q list_of table
      → StandsForList is_value words cmp tells world s u p r list_of table
  stands_on is_value words cmp s t u p q r list_of table took serves others stands = λ told k holds.
      let was = stands (others.before told) k holds in
      let kept = table_kept_frozen is_value words cmp table q.parts r.parts (world t) (world u) (list_of k) serves
      (others.did told) was.0 was.1 in
      subst (λ st. IsFirmTable st table (world u)
      × TableLists is_value words cmp st table (world u) (list_of k))
      (sym took.step_is) kept

  -- and it stands for what the list held earlier
  pub stands_since : {T : Type 0} (is_value : T → Type 0) (words : T → List ℕ) (cmp : T → T → Ordering) (s t u : S)
      (p q r : ReduceSweep) (list_of : Contents → List T) (table : RunTable) → (IsTrue (tells u) → IsTrue (tells t))
      → KeepsAll tells world s t p q → StandsForList is_value words cmp tells world t u q r list_of table
      → StandsForList is_value words cmp tells world s u p r list_of table
  stands_since is_value words cmp s t u p q r list_of table before keeps stands = λ told k holds.
      stands told k (keeps.holds (before told) k holds)

  -- the file of the nodes has them all still
  pub nodes_on : (s t u : S) (p q r : ReduceSweep) → out_of r ≡ out_of q
      → ¬ CanBeTaken q.parts.step q.parts.next (out_of q)
      → Told tells t u (Ran (AnyFroze q.parts r.parts (now (world t))) (world t) (world u))
      → HasNodes tells world s t p q → HasNodes tells world s u p r
  nodes_on s t u p q r same apart others has = λ told k holds.
      let was = has (others.before told) k holds in
      let only : IsSameOrFirm (λ f. Unit) (out_of q) (now (world t)) (now (world u)) =
      ran_end (world t) (world u) (AnyFroze q.parts r.parts (now (world t))) (others.did told) (out_of q)
      (λ taken. apart (could_be q.parts r.parts (out_of q) taken)) in
      ap (file (world u)) same ∙ elim only [
        | inl stays ↦ stays ∙ was
        | inr (any, firm) ↦ firm ∙ ap (λ (x : File). firm_file x.bytes) was
      ]

  -- as many turns are left
  pub turns_stay : (s t : S) (p q : ReduceSweep) → KeepsAll tells world s t p q → turns_left q ≡ turns_left p
  turns_stay s t p q x = λ i. fuel_at ((x.place_is i).phase)
      (4 * (left_of (inner_of (x.reader_is i)) + one_if_some (x.inner_is i))
      + 3 * (left_of (ends_of (x.reader_is i)) + one_if_some (x.end_is i))
      + 3 * x.queue_held i + (2 * x.rows_held i + x.names_held i))
