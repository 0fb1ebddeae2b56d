-- The tables of a queue in a checkpoint, and the rules that it keeps.
use Rattle.std.proofs.Common.{◌≡◌, ◌∙◌, ◌⊎◌, ℕ, ◌<◌, ◌≤◌, ◌^◌, false, List, [], ◌∷◌, All, length, refl, sym, ap, subst, inl, inr, arith}
use Rattle.std.specs.Prelude.{Option, Some, None, map, get_or, slice_index_or, IfSome}
use Rattle.std.proofs.lemmas.List.{length-map, get_or-map, get_or-take, get_or_default}
use Rattle.std.proofs.lemmas.List.Elements.{All-cons, All-nil, All-get_or, All-from_get_or}
use Rattle.rec_words.specs.Words.{terminal}
use Rattle.shelf_model.specs.declared.file_no.FileNo.{FileNo}
use Rattle.arc_file.specs.declared.unreduced.Unreduced.{Unreduced}
use Rattle.arc_file.specs.declared.writer.ArcWriter.{ArcWriter}
use Rattle.arc_file.specs.Writers.{made_of, inner_count}
use Rattle.arc_file.proofs.WriterLaws.{files_apart}
use Rattle.run_files.specs.declared.head.Head.{Head}
use Rattle.run_files.specs.Heads.{IsUsed, head_at, no_head}
use Rattle.run_tiers.specs.declared.run.Run.{Run}
use Rattle.run_tiers.specs.declared.run.RunTable.{RunTable}
use Rattle.run_tiers.specs.Tables.{IsInUse, IsSlot, no_run, no_runs, head_of, Names}
use Rattle.run_tiers.proofs.TableLaws.{head_used}
use Rattle.level_queue.specs.Queues as queues
use Rattle.level_queue.specs.Tables.{AreTables, AreTidyTables, ServeTables, NamesAny, table_at}
use Rattle.sweep_core.specs.declared.checkpoint.Checkpoint.{Checkpoint}
use Rattle.sweep_core.specs.Saving.{IsMadePart, IsReadPart, IsOfStep}
use Rattle.sweep_core.specs.Tables as core
use Rattle.tuple_asks.specs.declared.ask.Ask.{Ask}
use Rattle.top_down_sweep.specs.declared.machine.Machine.{Machine}
use Rattle.tuple_asks.specs.declared.place.Numbered.{Numbered}
use Rattle.tuple_asks.specs.declared.place.Phase.{Phase}
use Rattle.tuple_asks.specs.declared.place.Phase.TheVariants as phases
use Rattle.tuple_asks.specs.declared.saved.SavedArcs.{SavedArcs}
use Rattle.tuple_asks.specs.declared.files.Files.{Files}
use Rattle.top_down_sweep.specs.Fuel.{fuel_at}
use Rattle.top_down_sweep.specs.Rebuilds.{asking_in, saved_machine}
use Rattle.tuple_asks.specs.SavedRules.{table_in, IsOfRuns, IsSavedPhase, KeepsRules}
use Rattle.top_down_sweep.specs.Resumes.{queue_tables, parts_at, HasQueue}
use Rattle.top_down_sweep.specs.Sweeps.{files_in, IsMade, IsPhaseAt, IsSoundMachine}
use Rattle.tuple_asks.specs.Operands.{IsRead}
use Rattle.top_down_sweep.proofs.SavedNow.{few_unread_nodes}

-- the tables of three
three : (tables : List RunTable) → length tables ≡ 3
    → tables ≡ table_at tables 0 ∷ table_at tables 1 ∷ table_at tables 2 ∷ []
three [] many = absurd (omega (arith, many))
three (a ∷ []) many = absurd (omega (arith, many))
three (a ∷ b ∷ []) many = absurd (omega (arith, many))
three (a ∷ b ∷ d ∷ []) many = refl
three (a ∷ b ∷ d ∷ e ∷ rest) many = absurd (omega (arith, many))

abbrev pub runs_in : RunTable → List Run
runs_in table = table.runs

module _ (c : Checkpoint) (tables : List RunTable) (many : length tables ≡ 3) (count : c.tables ≡ length tables)
    (runs : core.tables_in_use c ≡ map runs_in tables) where
  three_used : c.tables ≡ 3
  three_used = count ∙ many

  same_table : (k : ℕ) → k < 3 → table_in c k ≡ table_at tables k
  same_table k few =
      let below : k < c.tables = omega (arith, few, three_used) in
      let within : k < length tables = omega (arith, few, many) in
      let same : slice_index_or c.runs k [] ≡ (table_at tables k).runs =
      sym (get_or-take c.tables c.runs k [] below) ∙ ap (λ rs. get_or rs k []) runs
      ∙ get_or-map runs_in tables k no_runs [] within in
      λ i. record { runs = same i }

  pub queue_again : queue_tables c ≡ tables
  queue_again =
      let one = same_table 0 (omega arith) in
      let two = same_table 1 (omega arith) in
      let last = same_table 2 (omega arith) in
      (λ i. one i ∷ two i ∷ last i ∷ []) ∙ sym (three tables many)

  -- they are those of a queue
  pub has_queue : AreTables tables → ServeTables (parts_at c) tables → HasQueue c
  has_queue are served = record {
    tables = three_used;
    are = subst AreTables (sym queue_again) are;
    served = subst (ServeTables (parts_at c)) (sym queue_again) served;
  }

  -- and lawful
  empty_slot : (r : Run) → r ≡ no_run → core.IsUnused r
  empty_slot r is = record {
    part = ap (λ (q : Run). q.part) is;
    next = ap (λ (q : Run). q.next) is;
    last = ap (λ (q : Run). q.end) is;
  }

  bare_slots : (rs : List Run) → All (λ r. r ≡ no_run) rs → All (core.IsSlot c.next_part) rs
  bare_slots rs bare = All-from_get_or (core.IsSlot c.next_part) rs no_run (λ i within.
      inl (empty_slot (get_or rs i no_run) (All-get_or (λ (r : Run). r ≡ no_run) rs i no_run within bare)))

  used_slots : (rs : List Run) → All (λ r. IsInUse r → IsSlot r) rs → All (λ r. IsInUse r ⊎ (r ≡ no_run)) rs
      → All (λ r. IsInUse r → r.part < c.next_part) rs → All (core.IsSlot c.next_part) rs
  used_slots rs slots tidy made = All-from_get_or (core.IsSlot c.next_part) rs no_run (λ i within.
      by (get_or rs i no_run) (All-get_or (λ (r : Run). IsInUse r → IsSlot r) rs i no_run within slots)
      (All-get_or (λ (r : Run). IsInUse r ⊎ (r ≡ no_run)) rs i no_run within tidy)
      (All-get_or (λ (r : Run). IsInUse r → r.part < c.next_part) rs i no_run within made))
    where
      by : (r : Run) → (IsInUse r → IsSlot r) → IsInUse r ⊎ (r ≡ no_run) → (IsInUse r → r.part < c.next_part)
          → core.IsSlot c.next_part r
      by r slot (inl used) below = inr (record {
        from = (slot used).past_made;
        below = below used;
        within = (let less : r.next < r.end = used in omega (arith, less));
        small = (slot used).far;
      })
      by r slot (inr is) below = inl (empty_slot r is)

  pub lawful : AreTables tables → AreTidyTables tables → ServeTables (parts_at c) tables → core.HasTables c
  lawful are tidy served = record {
    tables = (let used = three_used in omega (arith, used));
    runs = subst (All (All (core.IsSlot c.next_part))) (sym (runs ∙ ap (map runs_in) (three tables many)))
        (All-cons (All (core.IsSlot c.next_part)) (table_at tables 0).runs
        ((table_at tables 1).runs ∷ (table_at tables 2).runs ∷ [])
        (used_slots (table_at tables 0).runs are.first.slots tidy.first served.runs_made)
        (All-cons (All (core.IsSlot c.next_part)) (table_at tables 1).runs ((table_at tables 2).runs ∷ [])
        (bare_slots (table_at tables 1).runs tidy.second.bare)
        (All-cons (All (core.IsSlot c.next_part)) (table_at tables 2).runs []
        (bare_slots (table_at tables 2).runs tidy.third.bare) (All-nil (All (core.IsSlot c.next_part))))));
  }

-- a file of a run of which records are left is one that its table names
pub run_is_named : (step : ℕ) (table : RunTable) (f : FileNo) → IsOfRuns step table.runs f → Names step table f
run_is_named step table f (k, r, within, is, (used, file_is)) =
    let runs = table.runs in
    let long = length-map runs (head_of step) in
    let at : get_or runs k no_run ≡ r = get_or_default runs k no_run r within ∙ is in
    let here : head_at (map (head_of step) runs) k ≡ head_of step r =
    get_or-map (head_of step) runs k no_run no_head within ∙ ap (head_of step) at in
    let named : IsUsed (head_of step r) × (f ≡ (head_of step r).file) =
    subst (λ (h : Head). IsUsed h × (f ≡ h.file)) (sym (head_used step r used)) (used, file_is) in (
      k,
      omega (arith, within, long),
      subst IsUsed (sym here) named.0,
      named.1 ∙ ap (λ (h : Head). h.file) (sym here),
    )

-- the files of a step are still so where more parts were taken
part_later : (step next other later : ℕ) (f : FileNo) → other ≡ step → next ≤ later → IsMadePart step next f
    → IsMadePart other later f
part_later step next other later f same more is = record {
  step_is = is.step_is ∙ sym same;
  part = elim is.part [
    | inl nodes ↦ inl nodes
    | inr (from, to, below) ↦ inr (from, to, omega (arith, below, more))
  ];
}

read_later : (step next other later : ℕ) (f : FileNo) → other ≡ step → next ≤ later → IsReadPart step next f
    → IsReadPart other later f
read_later step next other later f same more (inl apart) = inl (λ is. apart (is ∙ same))
read_later step next other later f same more (inr made) = inr (part_later step next other later f same more made)

pub of_later : (files again : Files) (step next other later : ℕ) → again ≡ files → other ≡ step → next ≤ later
    → IsOfStep (λ f. IsMade files f) (λ f. IsRead files f) step next
    → IsOfStep (λ f. IsMade again f) (λ f. IsRead again f) other later
of_later files again step next other later same_files same more of =
    subst (λ (fs : Files). IsOfStep (λ f. IsMade fs f) (λ f. IsRead fs f) other later) (sym same_files) (record {
      parts = (let few = of.parts in omega (arith, few, more));
      made = λ f made. part_later step next other later f same more (of.made f made);
      others = λ f read. read_later step next other later f same more (of.others f read);
      apart = of.apart;
    })

-- where the machine works, its place keeps the rules
phase_saved : (w : ArcWriter) (last : Option Ask) (a : SavedArcs) (p : Phase) (n : ℕ) → 0 < fuel_at p n
    → a.inner_count ≡ inner_count w → IsPhaseAt w last p → IsSavedPhase a last (asking_in p)
phase_saved w last a phases.Fresh n works many is = is
phase_saved w last a (phases.Asking s) n works many is = below s.last is
  where
    below : (o : Option Numbered) → IfSome o (λ y. y.number ≤ inner_count w) → IfSome o (λ y. y.number ≤ a.inner_count)
    below None is = tt
    below (Some y) is = omega (arith, is, many)
phase_saved w last a (phases.Ended made) n works many is = absurd (omega (arith, works))

module _ (c : Checkpoint) (q : Machine) (made : Unreduced) (tables : List RunTable) (n : ℕ)
    (step : c.step ≡ q.parts.step) (sound : IsSoundMachine q) (works : 0 < fuel_at q.place.phase n)
    (of : IsOfStep (λ f. IsMade (files_in q) f) (λ f. IsRead (files_in q) f) c.step c.next_part)
    (is : made ≡ made_of q.writer (terminal false)) (inner_few : made.inner_count ≤ 2 ^ 46)
    (ends_few : made.ends_count ≤ 2 ^ 46) (again : queue_tables c ≡ tables)
    (only : (f : FileNo) → NamesAny q.parts.step tables f → queues.IsRunOf q.queue f) where
  inner_is : made.inner ≡ (files_in q).inner
  inner_is = ap (λ (u : Unreduced). u.inner) is

  ends_is : made.ends ≡ (files_in q).ends
  ends_is = ap (λ (u : Unreduced). u.ends) is

  run_again : (f : FileNo) → IsOfRuns c.step (table_in c 0).runs f → queues.IsRunOf q.queue f
  run_again f run = only f (subst (λ v. v) (λ i. NamesAny (step i) (again i) f) (run_is_named c.step (table_in c 0) f run))

  pub keeps_rules : KeepsRules c (saved_machine q made)
  keeps_rules = record {
    arcs = record {
      parts = of.parts;
      inner_made = of.made made.inner (inl inner_is);
      ends_made = of.made made.ends (inr ends_is);
      two_files = λ same. files_apart q.writer (sym inner_is ∙ same ∙ ends_is);
      inner_few = inner_few;
      ends_few = ends_few;
    };
    no_runs = record {
      inner = λ run. sound.served.inner_apart (subst (queues.IsRunOf q.queue) inner_is (run_again made.inner run));
      ends = λ run. sound.served.ends_apart (subst (queues.IsRunOf q.queue) ends_is (run_again made.ends run));
    };
    first = record {
      other = of.others q.operands.first.file (inl refl);
      not_inner = λ same. of.apart q.operands.first.file (inl refl) (inl (same ∙ inner_is));
      not_ends = λ same. of.apart q.operands.first.file (inl refl) (inr (same ∙ ends_is));
      few = few_unread_nodes q.operands.first.reader q.operands.first.hand;
    };
    second = record {
      other = of.others q.operands.second.file (inr (inl refl));
      not_inner = λ same. of.apart q.operands.second.file (inr (inl refl)) (inl (same ∙ inner_is));
      not_ends = λ same. of.apart q.operands.second.file (inr (inl refl)) (inr (same ∙ ends_is));
      few = few_unread_nodes q.operands.second.reader q.operands.second.hand;
    };
    third = record {
      other = of.others q.operands.third.file (inr (inr refl));
      not_inner = λ same. of.apart q.operands.third.file (inr (inr refl)) (inl (same ∙ inner_is));
      not_ends = λ same. of.apart q.operands.third.file (inr (inr refl)) (inr (same ∙ ends_is));
      few = few_unread_nodes q.operands.third.reader q.operands.third.hand;
    };
    phase = phase_saved q.writer (queues.last_of q.queue) (saved_machine q made).arcs q.place.phase n works
        (ap (λ (u : Unreduced). u.inner_count) is) sound.phase;
  }
