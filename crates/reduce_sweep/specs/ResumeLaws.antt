-- With what it rests on alone a checkpoint of a reduction stands for the same, and no sweep of the step writes that.
use Rattle.std.specs.Prelude.{◌≡◌, ℕ, ◌+◌, ◌*◌, ◌<◌, ◌≤◌, List, [], ◌∷◌, length, take, get_or, Some}
use Rattle.std.proofs.Common.{refl, sym, ap, subst, ◌∙◌, inl, inr, arith}
use Rattle.std.proofs.lemmas.Bool.{cases_lt}
use Rattle.std.proofs.lemmas.List.{get_or-map, get_or_default, get_or_past, length-map}
use Rattle.std.proofs.lemmas.List.Elements.{All-get_or}
use Rattle.rec_words.specs.Words.{node_size}
use Rattle.block_stream.proofs.ItemLaws.{no_items}
use Rattle.shelf_model.specs.declared.file_no.FileNo.{FileNo}
use Rattle.arc_file.specs.declared.arc.Arc.{Arc}
use Rattle.arc_file.specs.declared.kind.Kind.{Kind}
use Rattle.arc_file.specs.Arcs.{arc_words, IsArc}
use Rattle.arc_file.specs.Files.{HasArcs}
use Rattle.arc_diagrams.specs.Items.{final_arc_words, IsFinalArc, final_arc_cmp, source_row_words, IsSourceRow, source_row_cmp, name_words, IsName, name_cmp}
use Rattle.run_tiers.specs.declared.run.Run.{Run}
use Rattle.run_tiers.specs.declared.run.RunTable.{RunTable}
use Rattle.run_tiers.specs.Tables.{IsInUse, IsSlot, no_runs}
use Rattle.run_merge.specs.Tables.{IsBeforeEnd}
use Rattle.run_merge.specs.Shown as sorters
use Rattle.level_queue.specs.Shown as queues
use Rattle.level_queue.specs.Tables.{table_at}
use Rattle.saved_words.specs.Fronts.{one_front}
use Rattle.sweep_core.specs.declared.checkpoint.Checkpoint.{Checkpoint}
use Rattle.sweep_core.specs.Saving.{IsMadePart, IsReadPart, IsRestingPlace}
use Rattle.sweep_core.specs.Resting.{same_fronts, read_rests, made_rests}
use Rattle.sweep_core.specs.Tables.{Names, tables_in_use}
use Rattle.reduce_sweep.specs.declared.phase.Phase.{Phase}
use Rattle.reduce_sweep.specs.declared.phase.Phase.TheVariants.{Between, Collect, Number, Forward, Ended}
use Rattle.reduce_sweep.specs.declared.saved.Saved.{Saved}
use Rattle.reduce_sweep.specs.Remaining.{Diagram}
use Rattle.reduce_sweep.specs.SavedPhase.{phase_of}
use Rattle.reduce_sweep.specs.SavedReduction.{saved_count, saved_words, IsSaved, saved_differs}
use Rattle.reduce_sweep.specs.SavedTables.{as_table, tables_of, IsSavedTable, AreSavedTables, IsRunFront}
use Rattle.reduce_sweep.specs.Resumes.{HasWords, IsKeptAt, KeepsRules, Fits, IsRest, RestsOn, arc_at, GoesOn, StandsAt, StandsFor}

-- the words are those of one reduction
pub one_reduction : (c : Checkpoint) (x y : Saved) → HasWords c x → HasWords c y → x ≡ y
one_reduction c x y = one_front saved_count saved_words IsSaved saved_differs x y c.carry

-- in one phase
some_same : {A : Type 0} (x y : A) → Some x ≡ Some y → x ≡ y
some_same x y same = cc

pub one_phase : (x : Saved) (p q : Phase) → phase_of x.phase ≡ Some p → phase_of x.phase ≡ Some q → p ≡ q
one_phase x p q first second = some_same p q (sym first ∙ second)

-- so the rules are kept by those words
pub fits_at : (c : Checkpoint) (x : Saved) (p : Phase) → Fits c → HasWords c x → phase_of x.phase ≡ Some p
    → KeepsRules c x p
fits_at c x p fits holds is =
    let same : fits.saved ≡ x = one_reduction c fits.saved x fits.holds holds in
    let phase : fits.phase ≡ p = one_phase x fits.phase p (ap (λ (y : Saved). phase_of y.phase) (sym same) ∙ fits.phase_is)
    is in
    subst (λ v. v) (λ i. KeepsRules c (same i) (phase i)) fits.rules

-- arcs that stand in the front of a file do so in the same bytes; where there are none, in any
pub arcs_stay : (kind : Kind) (xs : List Arc) (count : ℕ) (old new : List ℕ) → (0 < count → new ≡ old)
    → HasArcs kind xs count old → HasArcs kind xs count new
arcs_stay kind [] count old new same has = record {
  begin = record { items = no_items IsArc arc_words 2 new; count_is = has.begin.count_is };
  lead = has.lead;
  ordered = has.ordered;
}
arcs_stay kind (x ∷ xs) count old new same has =
    let some = has.begin.count_is in
    subst (HasArcs kind (x ∷ xs) count) (sym (same (omega (arith, some)))) has

-- with the same bytes below these lengths a reduction goes on in the same way
module _ (c : Checkpoint) (x : Saved) (old new : FileNo → List ℕ) (d : Diagram) (turns : ℕ)
    (same : (f : FileNo) (n : ℕ) → IsRest c x f n → take n (new f) ≡ take n (old f)) where
  table_same : (k : ℕ) → k < 5 → c.tables ≡ 5 → (f : FileNo) (n : ℕ)
      → IsBeforeEnd c.step (table_at (tables_of c) k) f n → take n (new f) ≡ take n (old f)
  table_same k below count f n before = same f n (inr (inr (k, omega (arith, below, count), before)))

  goes_on_with : (p : Phase) → c.tables ≡ 5 → GoesOn c x p old d turns → GoesOn c x p new d turns
  goes_on_with p count goes = record {
    contents = goes.contents;
    queue_shown = queues.shows_stay IsFinalArc final_arc_words final_arc_cmp c.step (tables_of c) (arc_at x.last) old new
        goes.contents.queue (table_same 0 (omega arith) count) goes.queue_shown;
    last_is = goes.last_is;
    inner_has = arcs_stay _ goes.contents.inner x.arcs.inner_count (old x.arcs.inner) (new x.arcs.inner)
        (λ some. same_fronts _ _ (λ n. same x.arcs.inner n (inl (inl (refl, some))))) goes.inner_has;
    ends_has = arcs_stay _ goes.contents.ends x.arcs.ends_count (old x.arcs.ends) (new x.arcs.ends)
        (λ some. same_fronts _ _ (λ n. same x.arcs.ends n (inl (inr (refl, some))))) goes.ends_has;
    rows_shown = sorters.shows_stay IsSourceRow source_row_words source_row_cmp c.step (table_at (tables_of c) 3) old new
        goes.contents.rows (table_same 3 (omega arith) count) goes.rows_shown;
    names_shown = sorters.shows_stay IsName name_words name_cmp c.step (table_at (tables_of c) 4) old new
        goes.contents.names (table_same 4 (omega arith) count) goes.names_shown;
    nodes_are = same x.out (node_size * x.kept) (inr (inl (refl, omega arith))) ∙ goes.nodes_are;
    nodes_many = goes.nodes_many;
    left = goes.left;
    few = goes.few;
  }

  stands_with : (p : Phase) → KeepsRules c x p → StandsAt p c x old d turns → StandsAt p c x new d turns
  stands_with Between rules stands = goes_on_with Between rules.kept_at.count stands
  stands_with (Collect s) rules stands = goes_on_with (Collect s) rules.kept_at.count stands
  stands_with (Number s) rules stands = goes_on_with (Number s) rules.kept_at.count stands
  stands_with Forward rules stands = goes_on_with Forward rules.kept_at.count stands
  stands_with (Ended count) rules stands =
      let kept = rules.kept_at.kept_is in
      record {
        bytes_are = same x.out (node_size * (count + 1)) (inr (inl (refl, omega (arith, kept)))) ∙ stands.bytes_are;
        count_is = stands.count_is;
      }

pub stays : (c : Checkpoint) (text : List ℕ) (old new : FileNo → List ℕ) (d : Diagram) (turns : ℕ) → Fits c
    → ((f : FileNo) (n : ℕ) → RestsOn c f n → take n (new f) ≡ take n (old f)) → StandsFor c old d turns
    → StandsFor c new d turns
stays c text old new d turns fits same stands = record {
  saved = stands.saved;
  holds = stands.holds;
  phase = stands.phase;
  phase_is = stands.phase_is;
  stands = stands_with c stands.saved old new d turns
      (λ f n rests. same f n (record { saved = stands.saved; holds = stands.holds; rests = rests })) stands.phase
      (fits_at c stands.saved stands.phase fits stands.holds stands.phase_is) stands.stands;
}

-- a run of a table in use is one that the checkpoint names
pub names_slot : (c : Checkpoint) (k slot : ℕ) (r : Run) → slot < length (table_at (tables_of c) k).runs
    → get_or (table_at (tables_of c) k).runs slot r ≡ r → Names c r.part
names_slot c k slot r within is = elim (cases_lt k (length (tables_in_use c))) [
  | inl below ↦ (
      let here : table_at (tables_of c) k ≡ as_table (get_or (tables_in_use c) k []) =
      get_or-map as_table (tables_in_use c) k [] no_runs below in
      let runs : (table_at (tables_of c) k).runs ≡ get_or (tables_in_use c) k [] = ap (λ (t : RunTable). t.runs) here in (
        k,
        get_or (tables_in_use c) k [],
        below,
        get_or_default (tables_in_use c) k (get_or (tables_in_use c) k []) [] below,
        (
          slot,
          r,
          subst (λ (rs : List Run). slot < length rs) runs within,
          subst (λ (rs : List Run). get_or rs slot r ≡ r) runs is,
          refl,
        ),
      ))
  | inr past ↦ (
      let all : length (tables_of c) ≡ length (tables_in_use c) = length-map (tables_in_use c) as_table in
      let none : table_at (tables_of c) k ≡ no_runs = get_or_past (tables_of c) k no_runs (omega (arith, past, all)) in
      let no_slot : slot < 0 = subst (λ (t : RunTable). slot < length t.runs) none within in
      absurd (omega (arith, no_slot)))
]

-- it is none that a sweep of the step may take, nor one that holds or counts checkpoints
run_apart : (c : Checkpoint) (part k : ℕ) (f : FileNo) (n : ℕ) → IsSavedTable c part (table_at (tables_of c) k)
    → IsBeforeEnd c.step (table_at (tables_of c) k) f n → IsRestingPlace c f
run_apart c part k f n table (slot, r, within, is, (in_use, file_is, front)) =
    let runs : List Run = (table_at (tables_of c) k).runs in
    let lawful : IsSlot r = subst (λ (q : Run). IsInUse q → IsSlot q) is
    (All-get_or (λ (q : Run). IsInUse q → IsSlot q) runs slot r within table.read.slots) in_use in
    let below : r.part < c.next_part = subst (λ (q : Run). IsInUse q → q.part < c.next_part) is
    (All-get_or (λ (q : Run). IsInUse q → q.part < c.next_part) runs slot r within table.served.runs_made) in_use in
    let part_is : f.part ≡ r.part = ap (λ (g : FileNo). g.part) file_is in
    let from : 3 ≤ r.part = lawful.past_made in
    record {
      taken = λ can. let first : c.next_part ≤ f.part = can.from in omega (arith, first, part_is, below);
      no_points = λ same. let one : f.part ≡ 1 = ap (λ (g : FileNo). g.part) same in omega (arith, one, part_is, from);
      no_gate = λ same. let two : f.part ≡ 2 = ap (λ (g : FileNo). g.part) same in omega (arith, two, part_is, from);
      named = λ step run. subst (Names c) (sym part_is) (names_slot c k slot r within is);
    }

runs_apart : (c : Checkpoint) (part : ℕ) (f : FileNo) (n : ℕ) → AreSavedTables c part → IsRunFront c f n
    → IsRestingPlace c f
runs_apart c part f n tables (k, below, before) =
    let count = tables.count in
    run_apart c part k f n (tables.each k (omega (arith, below, count))) before

-- whatever is kept, where runs are named there are tables
kept_apart : (p : Phase) (c : Checkpoint) (x : Saved) (f : FileNo) (n : ℕ) → IsKeptAt p c x → IsRunFront c f n
    → IsRestingPlace c f
kept_apart Between c x f n kept run = runs_apart c x.out.part f n kept run
kept_apart (Collect s) c x f n kept run = runs_apart c x.out.part f n kept run
kept_apart (Number s) c x f n kept run = runs_apart c x.out.part f n kept run
kept_apart Forward c x f n kept run = runs_apart c x.out.part f n kept run
kept_apart (Ended count) c x f n kept (k, below, before) =
    let none = kept.no_tables in absurd (omega (arith, none, below))

rests_apart : (c : Checkpoint) (x : Saved) (p : Phase) (f : FileNo) (n : ℕ) → KeepsRules c x p → IsRest c x f n
    → IsRestingPlace c f
rests_apart c x p f n rules (inl (inl (is, some))) =
    read_rests c f rules.parts (subst (IsReadPart c.step c.next_part) (sym is) (rules.inner.read some))
rests_apart c x p f n rules (inl (inr (is, some))) =
    read_rests c f rules.parts (subst (IsReadPart c.step c.next_part) (sym is) (rules.ends.read some))
rests_apart c x p f n rules (inr (inl (is, few))) =
    made_rests c f rules.parts (subst (IsMadePart c.step c.next_part) (sym is) rules.made)
rests_apart c x p f n rules (inr (inr run)) = kept_apart p c x f n rules.kept_at run

pub apart : (c : Checkpoint) (text : List ℕ) (f : FileNo) (n : ℕ) → Fits c → RestsOn c f n → IsRestingPlace c f
apart c text f n fits on =
    rests_apart c on.saved fits.phase f n
    (fits_at c on.saved fits.phase fits on.holds
    (ap (λ (y : Saved). phase_of y.phase) (one_reduction c on.saved fits.saved on.holds fits.holds) ∙ fits.phase_is))
    on.rests
