-- The runs of steps that take one turn.
use Rattle.std.proofs.Common.{◌≡◌, ◌∙◌, ℕ, ◌+◌, ◌-◌, ◌*◌, ◌/◌, ◌^◌, ◌<◌, ◌≤◌, Bool, true, false, cond, List, refl, sym, ap, subst, inl, arith}
use Rattle.std.specs.Prelude.{IsTrue, Result, Ok, Err, IfOk}
use Rattle.rec_words.specs.Words.{most_variables}
use Rattle.bool_tables.specs.declared.steps.Step.{Step}
use Rattle.bool_tables.specs.declared.steps.Step.TheVariants.{Const, Var, Drop, Size}
use Rattle.bool_tables.specs.declared.steps.Planned.{Planned}
use Rattle.bool_tables.specs.Plans.{makes_diagram}
use Rattle.canon_file.specs.Canon.{canon_bytes}
use Rattle.canon_file.specs.Constants.{const_table}
use Rattle.canon_file.specs.Variables.{var_table}
use Rattle.canon_file.specs.Laws.{HasForm}
use Rattle.shelf_model.specs.declared.file_no.FileNo.{FileNo}
use Rattle.shelf_model.specs.declared.sort_fault.SortFault.{SortFault}
use Rattle.shelf_model.specs.declared.sort_fault.SortFault.TheVariants as sort
use Rattle.shelf_model.specs.declared.fault.StreamFault.{StreamFault}
use Rattle.shelf_model.specs.declared.fault.StreamFault.TheVariants as stream
use Rattle.shelf_model.specs.Calls.{Told}
use Rattle.shelf_model.specs.Faults.{Faults}
use Rattle.shelf_model.specs.File.{firm_file}
use Rattle.shelf_model.specs.Folder.{Image, bytes_in, IsImage, AreFiles}
use Rattle.shelf_model.specs.Moments.{Ran, Stays}
use Rattle.shelf_model.proofs.Images.{chosen, standing_image}
use Rattle.shelf_model.proofs.Runs.{told_here, ran_stands}
use Rattle.shelf_model.specs.SortFaults.{handed_on}
use Rattle.shelf_model.specs.World.{Moment, World, now, file}
use Rattle.run_tiers.specs.Faults.{OnlySortShelf}
use Rattle.catalogue.specs.declared.layout.Entry.{Entry}
use Rattle.step_work.specs.Tuples.{sweeps}
use Rattle.sweep_core.proofs.Untaken.{none_changed}
use Rattle.sweep_checkpoint.specs.Stops.{turns_in, shown_turns, StopsCost, ShowAtLeast}
use Rattle.step_going.proofs.Gated.{none_gated}
use Rattle.sound_image.specs.Files.{node_file}
use Rattle.catalogue.specs.Counts.{present}
use Rattle.sound_image.specs.Jobs.{Job, step_at, table_at, file_of}
use Rattle.sound_image.specs.Entries.{IsEntryOfStep, kind_of, answer_of, count_of, work_of}
use Rattle.sound_image.specs.Holds.{Holds}
use Rattle.step_engine.specs.OneFile.{OnlyFile, OnlyMade}
use Rattle.step_engine.specs.Running.{run_calls, run_stop, IsGoneOn, RunsStep}
use Rattle.step_engine.specs.Simple.{reads, MayRun, IsStepOf}
use Rattle.step_engine.specs.StepEntries.{diagram_entry, nameless_entry, one_turn, IsEntryFor}
use Rattle.step_engine.specs.StepFaults.{IsKindFault, IsStepFault, IsSoundFault, IsOfKind}
use Rattle.step_engine.proofs.EntryLaws.{for_diagram, for_drop, diagram_entry_is, drop_entry_is, one_turn_spent, one_within, place_step, size_is_sound}
use Rattle.step_engine.proofs.TableLaws.{constant_nodes, variable_nodes, constant_is, variable_is, constant_form, variable_form}
use Rattle.step_engine.proofs.Resuming.{still_empty, one_resumes}
use Rattle.step_engine.proofs.Runs.{always_made}
use Rattle.step_engine.proofs.Written.{made_only, changes_none}

-- the calls of a step that takes one turn
pub one_calls : (step : Step) (turns rest now_clock clock : ℕ) → sweeps step ≡ false → now_clock ≤ clock + 5 → now_clock ≤ clock + (run_calls step turns + rest)
one_calls step turns rest now_clock clock not few =
    subst (λ b. now_clock ≤ clock + (cond b (229 * turns + 13) 5 + rest)) (sym not) (omega (arith, few))

-- what it costs at its end, where nothing of it was shown before
one_ends : (step : Step) (result : Result Entry SortFault) (shown rest now_clock clock : ℕ) → sweeps step ≡ false → shown ≡ 0 → now_clock ≤ clock + 5
    → IfOk result (λ e. (shown ≤ e.turns) × (now_clock ≤ clock + (run_calls step (e.turns - shown) + rest)))
one_ends step (Ok e) shown rest now_clock clock not none few =
    (omega (arith, none), one_calls step (e.turns - shown) rest now_clock clock not few)
one_ends step (Err fault) shown rest now_clock clock not none few = tt

-- nothing of such a step is shown, before it is run and at each moment, and it makes few calls
module _ {S : Type 0} (tells : S → Bool) (world : S → World) (n : ℕ) (text : List ℕ) (number : ℕ) (p : Planned)
    (files_are : (s : S) → IsTrue (tells s) → AreFiles (now (world s)).folder) (before after : S) (not : sweeps p.step ≡ false)
    (content : Told tells before after (Ran (OnlyMade p.step number (now (world before))) (world before) (world after)))
    (calls : IsTrue (tells after) → (world after).clock ≤ (world before).clock + 5) where
  none_shown : IsTrue (tells after) → (job : Job) → IsStepOf job n text number p → Holds job number (now (world before)).folder
      → (m : Moment) → OnlyMade p.step number (now (world before)) m → (image : Image) → IsImage m.folder image → shown_turns number (bytes_in image) ≡ 0
  none_shown told job is holds m only image is_image =
      ap turns_in (none_gated number (bytes_in image)
      (still_empty job number p.step (ap (λ (q : Planned). q.step) is.step_is) not is.within (now (world before)) (files_are before (content.before told))
      holds.resumable m only image is_image))

  none_before : IsTrue (tells after) → (job : Job) → IsStepOf job n text number p → Holds job number (now (world before)).folder
      → (shown : ℕ) → ShowAtLeast number shown (now (world before)).folder → shown ≡ 0
  none_before told job is holds shown shows =
      let image : Image = chosen (λ _ x. x.bytes) (now (world before)).folder in
      let is_image = standing_image (now (world before)).folder (files_are before (content.before told)) in
      let none = none_shown told job is holds (now (world before)) (λ q apart. refl) image is_image in
      let least = shows image is_image in
      omega (arith, none, least)

  pub one_stops : (result : Result Entry SortFault) → IsTrue (tells after) → (job : Job) → IsStepOf job n text number p
      → Holds job number (now (world before)).folder → (shown rest : ℕ) → IsGoneOn p.step number (world before) shown rest
      → StopsCost number shown ((world before).clock + (run_stop + rest)) (world before) (world after)
      × IfOk result (λ e. (shown ≤ e.turns) × ((world after).clock ≤ (world before).clock + (run_calls p.step (e.turns - shown) + rest)))
  one_stops result told job is holds shown rest gone =
      let none : shown ≡ 0 = none_before told job is holds shown gone.shows in
      let few = calls told in (
        (λ k from to image is_image. record { no_fewer = omega (arith, none); few = omega (arith, few, to) }),
        one_ends p.step result shown rest _ _ not none few,
      )

-- it takes no part number
pub first_parts : (parts turns spare : ℕ) → parts ≡ 3 → parts ≤ 5 + turns / 16 + spare
first_parts parts turns spare is = omega (arith, is)

-- what is known of a step that makes the diagram of a constant or of a variable, and which it is
pub record IsSimple (n number : ℕ) (step : Step) (nodes : ℕ) (bytes : List ℕ) : Type 0 where
  pub not_swept : sweeps step ≡ false
  pub makes : makes_diagram step ≡ true
  pub kind_is : kind_of step ≡ 1
  pub no_answer : (job : Job) → answer_of job step ≡ 0
  pub only_folder : (world : World) (e : SortFault) → e ≡ sort.Shelf → IsStepFault n step world e
  pub counts : (job : Job) (text : List ℕ) (p : Planned) → p.step ≡ step → IsStepOf job n text number p → count_of job number step ≡ nodes
  pub bytes_are : (job : Job) (text : List ℕ) (p : Planned) → p.step ≡ step → IsStepOf job n text number p → bytes ≡ file_of job number
  pub form : (job : Job) (text : List ℕ) (p : Planned) → p.step ≡ step → IsStepOf job n text number p → HasForm job.n (table_at job number)

module _ {S : Type 0} (tells : S → Bool) (world : S → World) (counts : S → Faults) (n : ℕ) (text : List ℕ) (number : ℕ) (p : Planned)
    (files_are : (s : S) → IsTrue (tells s) → AreFiles (now (world s)).folder) (f : FileNo) (f_is : f ≡ node_file number)
    (nodes : ℕ) (bytes : List ℕ) (simple : IsSimple n number p.step nodes bytes) (may : MayRun n text number p) (before after : S)
    (content : Told tells before after (Ran (OnlyFile f (now (world before))) (world before) (world after)))
    (calls : IsTrue (tells after) → (world after).clock ≤ (world before).clock + 5) where
  -- its node file alone was changed
  own_file : Told tells before after (Ran (OnlyFile (node_file number) (now (world before))) (world before) (world after))
  own_file = subst (λ h. Told tells before after (Ran (OnlyFile h (now (world before))) (world before) (world after))) f_is content

  made_so : Told tells before after (Ran (OnlyMade p.step number (now (world before))) (world before) (world after))
  made_so = made_only tells world p.step number before after simple.makes own_file

  -- such a step that is refused
  pub simple_refused : (e : SortFault) → e ≡ sort.Shelf → OnlySortShelf {T = Entry} (counts before) (counts after) (Err e)
      → RunsStep tells world counts n text number p before after (Err e)
  simple_refused e folder faults = record {
    content = made_so;
    fits = tt;
    entry = tt;
    made = tt;
    untaken = tt;
    unmade = tt;
    resumes = one_resumes tells world n text number p files_are before after simple.not_swept made_so;
    sound = λ told job is holds. subst (IsSoundFault p.step (work_of job p.step)) (sym folder) tt;
    damaged = λ told. inl (simple.only_folder (world before) e folder);
    kind = subst (IsOfKind p.step) (sym folder) tt;
    calls = tt;
    few_parts = tt;
    one_turn = λ told not. calls told;
    few_calls = λ told job is holds rest pays. one_calls p.step _ rest _ _ simple.not_swept (calls told);
    stops = λ told job is holds small. one_stops tells world n text number p files_are before after simple.not_swept made_so calls (Err e) told job is holds;
    faults = faults;
  }

  -- and one that made its diagram
  pub simple_made : (count : ℕ) (e : Entry) → count ≡ nodes → nodes < 2 ^ 64 → e ≡ diagram_entry text p number count one_turn
      → (IsTrue (tells after) → file (world after) f ≡ firm_file bytes)
      → OnlySortShelf (counts before) (counts after) (Ok e)
      → RunsStep tells world counts n text number p before after (Ok e)
  simple_made count e count_is small e_is made faults = record {
    content = made_so;
    fits = for_diagram number count one_turn text p e e_is may.few_steps may.named (subst (λ k. k < 2 ^ 64) (sym count_is) small) one_turn_spent simple.kind_is;
    entry = λ told job ready.
        subst (IsEntryOfStep job number) (sym e_is)
        (diagram_entry_is job number count one_turn text p may.few_steps may.named ready.step.text_is ready.step.step_is simple.kind_is simple.makes
        (simple.no_answer job) (simple.counts job text p refl ready.step ∙ sym count_is) (subst (λ k. k < 2 ^ 64) (sym count_is) small) one_turn_spent
        (one_within job p.step));
    made = λ told job ready _. (
      ap (file (world after)) (sym f_is) ∙ made told ∙ ap firm_file (simple.bytes_are job text p refl ready.step),
      simple.form job text p refl ready.step,
    );
    untaken = λ told. none_changed (λ q. q ≡ node_file number) number e.parts (world before) (world after)
        (λ q is free. let part : q.part ≡ 0 = ap (λ (x : FileNo). x.part) is in let from : e.parts ≤ q.part = free.from in
        let parts : e.parts ≡ 3 = ap (λ (x : Entry). x.parts) e_is in absurd (omega (arith, part, from, parts)))
        (own_file.did told);
    unmade = λ told not. always_made p.step simple.makes not;
    resumes = one_resumes tells world n text number p files_are before after simple.not_swept made_so;
    sound = tt;
    damaged = tt;
    kind = tt;
    calls = λ told rest pays exact. one_calls p.step _ rest _ _ simple.not_swept (calls told);
    few_parts = λ told spare spares. first_parts e.parts e.turns spare (ap (λ (x : Entry). x.parts) e_is);
    one_turn = λ told not. calls told;
    few_calls = λ told job is holds rest pays. one_calls p.step _ rest _ _ simple.not_swept (calls told);
    stops = λ told job is holds small. one_stops tells world n text number p files_are before after simple.not_swept made_so calls (Ok e) told job is holds;
    faults = faults;
  }

-- a constant, and a variable
pub constant_simple : (n number : ℕ) (value : Bool) (step : Step) → n ≤ most_variables → step ≡ Const value
    → IsSimple n number step 0 (canon_bytes n (const_table n value))
constant_simple n number value step few step_is = subst (λ s. IsSimple n number s 0 (canon_bytes n (const_table n value))) (sym step_is) (record {
  not_swept = refl;
  makes = refl;
  kind_is = refl;
  no_answer = λ job. refl;
  only_folder = λ world e is. is;
  counts = λ job text p p_is is. constant_nodes job number value is.within (place_step job number p (Const value) is.step_is p_is);
  bytes_are = λ job text p p_is is. constant_is job number n value is.n_is is.within (place_step job number p (Const value) is.step_is p_is);
  form = λ job text p p_is is. constant_form job number value is.well_formed.few_variables is.within (place_step job number p (Const value) is.step_is p_is);
})

pub variable_simple : (n number level : ℕ) (step : Step) → n ≤ most_variables → level < n → step ≡ Var level
    → IsSimple n number step 1 (canon_bytes n (var_table n level))
variable_simple n number level step few below step_is = subst (λ s. IsSimple n number s 1 (canon_bytes n (var_table n level))) (sym step_is) (record {
  not_swept = refl;
  makes = refl;
  kind_is = refl;
  no_answer = λ job. refl;
  only_folder = λ world e is. is;
  counts = λ job text p p_is is.
      variable_nodes job number level is.within (place_step job number p (Var level) is.step_is p_is) (subst (λ m. level < m) (sym is.n_is) below);
  bytes_are = λ job text p p_is is. variable_is job number n level is.n_is is.within (place_step job number p (Var level) is.step_is p_is);
  form = λ job text p p_is is.
      variable_form job number level is.well_formed.few_variables is.within (place_step job number p (Var level) is.step_is p_is)
      (subst (λ m. level < m) (sym is.n_is) below);
})

-- a size
pub size_calls : (of : ℕ) (step : Step) → step ≡ Size of → (turns rest now_clock clock : ℕ) → now_clock ≤ clock + 1 → now_clock ≤ clock + (run_calls step turns + rest)
size_calls of step is turns rest now_clock clock few = one_calls step turns rest now_clock clock (ap sweeps is) (omega (arith, few))

pub size_reads : (of : ℕ) (step : Step) → step ≡ Size of → IsTrue (reads step)
size_reads of step is = subst (λ s. IsTrue (reads s)) (sym is) refl

pub size_kind : (step : Step) (e : StreamFault) → IsOfKind step (handed_on e)
size_kind step stream.Shelf = tt
size_kind step (stream.Damaged f at) = tt

pub size_fault : (n of : ℕ) (step : Step) → step ≡ Size of → (world : World) (e : StreamFault)
    → IsKindFault of 1 (present (now world).folder) e → IsStepFault n step world (handed_on e)
size_fault n of step is world e fault = subst (λ s. IsStepFault n s world (handed_on e)) (sym is) (e, refl, fault)

pub size_sound : (job : Job) (n number of : ℕ) (text : List ℕ) (p : Planned) (e : StreamFault) (world : World) → p.step ≡ Size of → IsStepOf job n text number p
    → of < number → Holds job number (now world).folder → IsKindFault of 1 (present (now world).folder) e
    → IsSoundFault p.step (work_of job p.step) (handed_on e)
size_sound job n number of text p e world size is below holds fault =
    subst (λ x. IsSoundFault p.step (work_of job p.step) (handed_on x))
    (sym (size_is_sound job number of p e (now world).folder is.within is.well_formed is.step_is size below holds fault)) tt

pub size_makes : (job : Job) (n number of : ℕ) (text : List ℕ) (p : Planned) → p.step ≡ Size of → IsStepOf job n text number p
    → IsTrue (makes_diagram (step_at job number).step) → ⊥
size_makes job n number of text p size is diagram =
    let not : makes_diagram (step_at job number).step ≡ false = ap makes_diagram (place_step job number p (Size of) is.step_is size) in cc

-- a drop
pub drop_runs : {S : Type 0} (tells : S → Bool) (world : S → World) (counts : S → Faults) (n : ℕ) (text : List ℕ) (number gone : ℕ) (p : Planned)
    (files_are : (s : S) → IsTrue (tells s) → AreFiles (now (world s)).folder) (s : S) (e : Entry) → p.step ≡ Drop gone → gone < number → MayRun n text number p → e ≡ nameless_entry number 2 0 gone one_turn
    → RunsStep tells world counts n text number p s s (Ok e)
drop_runs tells world counts n text number gone p files_are s e drop below may e_is =
    let small : gone < 2 ^ 64 = let few = may.few_steps in omega (arith, few, below) in
    let content = changes_none tells world p.step number s s (told_here tells s _ (λ _. ran_stands (world s) (Stays (now (world s))) refl)) in
    record {
      content = content;
      fits = subst (IsEntryFor p.step number) (sym e_is) (for_drop number gone p drop small may.few_steps);
      entry = λ told job ready. subst (IsEntryOfStep job number) (sym e_is) (drop_entry_is job number gone p drop small may.few_steps ready.step.step_is);
      made = λ told job ready diagram. absurd (
          let not : makes_diagram (step_at job number).step ≡ false = ap makes_diagram (place_step job number p (Drop gone) ready.step.step_is drop) in cc);
      untaken = λ told f free empty. empty;
      unmade = λ told not empty. empty;
      resumes = one_resumes tells world n text number p files_are s s (ap sweeps drop) content;
      sound = tt;
      damaged = tt;
      kind = tt;
      calls = λ told rest pays exact. one_calls p.step _ rest _ _ (ap sweeps drop) (omega arith);
      few_parts = λ told spare spares. first_parts e.parts e.turns spare (ap (λ (x : Entry). x.parts) e_is);
      one_turn = λ told not. omega arith;
      few_calls = λ told job is holds rest pays. one_calls p.step _ rest _ _ (ap sweeps drop) (omega arith);
      stops = λ told job is holds small.
          one_stops tells world n text number p files_are s s (ap sweeps drop) content (λ _. omega arith) (Ok e) told job is holds;
      faults = record { later = omega arith; cause = λ is. cc; say_is = refl; text_is = λ path. refl };
    }
