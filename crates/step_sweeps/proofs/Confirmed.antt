-- What is known of a fault once the operand in which a sweep found damage was read whole.
use Rattle.std.proofs.Common.{◌≡◌, ◌⊎◌, ◌∙◌, ℕ, ◌-◌, ◌<◌, Bool, List, length, refl, sym, subst, ap, inl, inr}
use Rattle.std.specs.Prelude.{IsTrue, [], None, Result, Ok, Err, IfErr, IsErrOf}
use Rattle.rec_words.specs.Words.{node_size}
use Rattle.shelf_model.specs.declared.file_no.FileNo.{FileNo}
use Rattle.shelf_model.specs.declared.sort_fault.SortFault.{SortFault}
use Rattle.shelf_model.specs.declared.sort_fault.SortFault.TheVariants.{Shelf, Damaged, RunsSpent}
use Rattle.shelf_model.specs.Faults.{Faults}
use Rattle.shelf_model.specs.File.{File}
use Rattle.shelf_model.specs.Folder.{Folder, file_in}
use Rattle.shelf_model.specs.Moments.{Ran, Stays, OnlyChanged}
use Rattle.shelf_model.specs.World.{World, now, file}
use Rattle.shelf_model.proofs.Changing.{told_changed_then, changed_more}
use Rattle.shelf_model.proofs.Runs.{told, ran_weakens}
use Rattle.file_numbers.specs.Files.{checkpoint_gate}
use Rattle.run_tiers.specs.Faults.{OnlySortShelf}
use Rattle.run_tiers.proofs.FaultLaws.{sort_shelf_then, sort_shelf_on}
use Rattle.sweep_checkpoint.specs.declared.going.Going.{Going}
use Rattle.sweep_core.specs.Saving.{reads_of}
use Rattle.sweep_core.specs.Sweeps.{IsNoDamage}
use Rattle.node_file.specs.Nodes.{HasTrailer}
use Rattle.node_reading.specs.Missing.{IsWhole, IsWholeFault}
use Rattle.node_reading.specs.Reading.{IsDamagedNode}
use Rattle.node_reading.proofs.MissingLaws.{missed_where_whole}
use Rattle.top_down_sweep.specs.declared.beginning.OperandFiles.{OperandFiles}
use Rattle.table_work.specs.Tables.{operand_files}
use Rattle.step_sweeps.specs.declared.answers.Answered.{Answered}
use Rattle.step_sweeps.specs.declared.task.Making.{Making}
use Rattle.step_sweeps.specs.Answers.{TwoTables, Answers, IsAsked, IsBehindNodes, refuting, implying}
use Rattle.step_sweeps.specs.Confirming.{IsOneOf, NamesOperand, ReadsAgain, Confirms}
use Rattle.step_sweeps.specs.Damage.{IsDamagedBy, MissesAsked, MissesNamed, AsksOwn, MissesIn, IsDamagedOperand, IsOperandsFault, IsImplicationFault}
use Rattle.step_sweeps.specs.Given.{Tables, AreEarlier}
use Rattle.step_sweeps.specs.Makes.{IsGivenFor}
use Rattle.step_sweeps.specs.Sweeping.{SweepsArcs, MakesArcs}
use Rattle.step_sweeps.proofs.ImpliedWork.{implication_fault}
use Rattle.step_sweeps.proofs.Running.{earlier_stays, stays_step, ok_more, err_more}

-- a file in which damage was found is the one that is damaged
found_in : (Misses : List ℕ → ℕ → Type 0) (n : ℕ) (operands : OperandFiles) (world : World) (f : FileNo) (at : ℕ)
    → IsDamagedOperand Misses n operands world f at → IsOneOf operands f
found_in Misses n operands world f at (inl one) = inl one.0
found_in Misses n operands world f at (inr (inl two)) = inr (inl two.0)
found_in Misses n operands world f at (inr (inr three)) = inr (inr three.0)

-- damage of the file of an operand is damage of an operand
of_operand : (Misses : List ℕ → ℕ → Type 0) (n : ℕ) (operands : OperandFiles) (world : World) (read f : FileNo) (at : ℕ)
    → IsOneOf operands read → IsDamagedBy Misses n read world f at → IsDamagedOperand Misses n operands world f at
of_operand Misses n operands world read f at (inl is) damage =
    inl (subst (λ h. IsDamagedBy Misses n h world f at) is damage)
of_operand Misses n operands world read f at (inr (inl is)) damage =
    inr (inl (subst (λ h. IsDamagedBy Misses n h world f at) is damage))
of_operand Misses n operands world read f at (inr (inr is)) damage =
    inr (inr (subst (λ h. IsDamagedBy Misses n h world f at) is damage))

-- what was found in an operand is so to one who misses nodes in another way too
module _ (Misses More : List ℕ → ℕ → Type 0) (n : ℕ) (operands : OperandFiles) (world : World) (f : FileNo) (at : ℕ) where
  file_more : (read : FileNo) → (f ≡ read → Misses (file world read).bytes at → More (file world read).bytes at)
      → IsDamagedBy Misses n read world f at → IsDamagedBy More n read world f at
  file_more read more damage = (
    damage.0,
    elim damage.1 [
      | inl trailer ↦ inl trailer
      | inr (inl node) ↦ inr (inl node)
      | inr (inr misses) ↦ inr (inr (more damage.0 misses))
    ],
  )

  operand_more : ((read : FileNo) → f ≡ read → Misses (file world read).bytes at → More (file world read).bytes at)
      → IsDamagedOperand Misses n operands world f at → IsDamagedOperand More n operands world f at
  operand_more more (inl one) = inl (file_more operands.first (more operands.first) one)
  operand_more more (inr (inl two)) = inr (inl (file_more operands.second (more operands.second) two))
  operand_more more (inr (inr three)) = inr (inr (file_more operands.third (more operands.third) three))

-- what is damaged of a file that was read whole
whole_damage : (Misses : List ℕ → ℕ → Type 0) (n : ℕ) (operands : OperandFiles) (old mid : World) (read : FileNo)
    (e : SortFault) → IsOneOf operands read → file mid read ≡ file old read → IsWholeFault n read mid e
    → IsOperandsFault Misses n operands old e
whole_damage Misses n operands old mid read Shelf of same fault = tt
whole_damage Misses n operands old mid read (Damaged f at) of same (inl trailer) =
    of_operand Misses n operands old read f at of (
      trailer.0,
      inl (
        trailer.0,
        trailer.1 ∙ ap (λ (x : File). length x.bytes - node_size) same,
        subst (λ (x : File). (root : ℕ) → ¬ HasTrailer n root x.bytes) same trailer.2,
      ),
    )
whole_damage Misses n operands old mid read (Damaged f at) of same (inr node) =
    of_operand Misses n operands old read f at of
    (node.0, inr (inl (subst (λ (x : File). IsDamagedNode n x.bytes at) same node.1)))
whole_damage Misses n operands old mid read RunsSpent of same fault = absurd fault

-- the fault that is handed on is one to whoever misses nodes so, where a whole file misses a node so that the sweep misses
confirmed_fault : (Own : Type 0) (Misses : List ℕ → ℕ → Type 0)
    → ((n : ℕ) (bytes : List ℕ) (at : ℕ) → IsWhole n bytes → MissesAsked Own bytes at → Misses bytes at)
    → (n : ℕ) (operands : OperandFiles) (old mid : World) (read : FileNo) (at : ℕ) (e : SortFault) → IsOneOf operands read
    → file mid read ≡ file old read → IsOperandsFault (MissesAsked Own) n operands old (Damaged read at)
    → ((e ≡ Damaged read at) × IsWhole n (file mid read).bytes) ⊎ IsWholeFault n read mid e
    → IsOperandsFault Misses n operands old e
confirmed_fault Own Misses more n operands old mid read at e of same fault (inl whole) =
    subst (IsOperandsFault Misses n operands old) (sym whole.0)
    (operand_more (MissesAsked Own) Misses n operands old read at (λ f is asked. more n _ at
    (subst (λ h. IsWhole n (file old h).bytes) is (subst (λ (x : File). IsWhole n x.bytes) same whole.1)) asked) fault)
confirmed_fault Own Misses more n operands old mid read at e of same fault (inr damaged) =
    whole_damage Misses n operands old mid read e of same damaged

-- a fault that names no operand is one to anybody
other_fault : (Some Misses : List ℕ → ℕ → Type 0) (n : ℕ) (operands : OperandFiles) (world : World) (e : SortFault)
    → ¬ NamesOperand operands e → IsOperandsFault Some n operands world e → IsOperandsFault Misses n operands world e
other_fault Some Misses n operands world Shelf other fault = tt
other_fault Some Misses n operands world (Damaged f at) other fault =
    absurd (other (found_in Some n operands world f at fault))
other_fault Some Misses n operands world RunsSpent other fault = tt

-- a whole file misses a node that is named, where it was asked for one of its own
whole_misses : (n : ℕ) (bytes : List ℕ) (at : ℕ) → IsWhole n bytes → MissesAsked Unit bytes at → MissesNamed bytes at
whole_misses n bytes at whole asked =
    missed_where_whole n bytes asked.key at whole asked.node asked.absent (asked.known tt)

whole_misses_in : (operation : _) (operands : OperandFiles) (n : ℕ) (bytes : List ℕ) (at : ℕ) → IsWhole n bytes
    → MissesAsked (AsksOwn operation operands) bytes at → MissesIn operation operands bytes at
whole_misses_in operation operands n bytes at whole asked = record {
  key = asked.key;
  absent = asked.absent;
  named = λ own. missed_where_whole n bytes asked.key at whole asked.node asked.absent (asked.known own);
}

module _ {S : Type 0} (tells : S → Bool) (world : S → World) (counts : S → Faults) (before mid after : S)
    (fault result : SortFault) where
  module _ (n : ℕ) (operands : OperandFiles) (reads : ReadsAgain tells world counts n operands mid after fault result) where
    -- the file was damaged
    was_damaged : ¬ (IsNoDamage fault)
    was_damaged none = subst IsNoDamage reads.names none

    isnt_spent : {A : Type 0} → IsErrOf {T = A} (Err result) RunsSpent → ⊥
    isnt_spent was = reads.kind (let same : result ≡ RunsSpent = cc in same)

    faults_then : {A : Type 0} → OnlySortShelf {T = A} (counts before) (counts mid) (Err fault)
        → OnlySortShelf {T = A} (counts before) (counts after) (Err result)
    faults_then first = sort_shelf_then _ _ _ _ _ first (sort_shelf_on _ _ result (Err result) refl reads.faults)

    -- an operand is as it was before the step
    as_it_was : (number : ℕ) → AreEarlier number operands
        → Ran (OnlyChanged (λ q. q.step ≡ number) (now (world before))) (world before) (world mid)
        → file (world mid) reads.read ≡ file (world before) reads.read
    as_it_was number earlier ran = earlier_stays number (world before) (world mid) ran reads.read (elim reads.operand [
      | inl is ↦ subst (λ (f : FileNo). f.step < number) (sym is) earlier.first
      | inr (inl is) ↦ subst (λ (f : FileNo). f.step < number) (sym is) earlier.second
      | inr (inr is) ↦ subst (λ (f : FileNo). f.step < number) (sym is) earlier.third
    ])

    -- what is known of the fault that is handed on
    known : (Own : Type 0) (Misses : List ℕ → ℕ → Type 0)
        → ((n : ℕ) (bytes : List ℕ) (at : ℕ) → IsWhole n bytes → MissesAsked Own bytes at → Misses bytes at)
        → (number : ℕ) → AreEarlier number operands
        → Ran (OnlyChanged (λ q. q.step ≡ number) (now (world before))) (world before) (world mid)
        → IsTrue (tells after) → IsOperandsFault (MissesAsked Own) n operands (world before) fault
        → IsOperandsFault Misses n operands (world before) result
    known Own Misses more number earlier ran told found = confirmed_fault Own Misses more n operands (world before) (world mid)
        reads.read reads.at result reads.operand (as_it_was number earlier ran)
        (subst (IsOperandsFault (MissesAsked Own) n operands (world before)) reads.names found)
        (elim (reads.found told) [
          | inl whole ↦ inl (whole.0 ∙ reads.names, whole.1)
          | inr damaged ↦ inr damaged
        ])

  -- the sweep that makes arcs was refused
  module _ (making : Making) (earlier : AreEarlier making.number making.operands) (old new : Going)
      (first : SweepsArcs tells world counts making old new before mid (Err fault)) where
    arcs_read : ReadsAgain tells world counts making.n making.operands mid after fault result
        → MakesArcs tells world counts making old new before after (Err result)
    arcs_read reads =
        let never : IsTrue (tells after) → (g : Tables) → IsGivenFor making old (world before) g → ⊥ =
        λ told g given. was_damaged making.n making.operands reads (first.undamaged (reads.content.before told) g given) in
        record {
          going = first.going;
          files = tt;
          parts = tt;
          made = tt;
          undamaged = λ told g given. absurd (never told g given);
          spent = λ was. absurd (isnt_spent making.n making.operands reads was);
          images = λ told g given. absurd (never told g given);
          damaged = λ told none gate.
              let told_mid = reads.content.before told in
              known making.n making.operands reads (AsksOwn making.operation making.operands)
              (MissesIn making.operation making.operands) (whole_misses_in making.operation making.operands) making.number
              earlier (first.content.did told_mid) told (first.damaged told_mid none gate);
          ordered = tt;
          content = told_changed_then tells world (λ q. q.step ≡ making.number) (λ q. q.step ≡ making.number) before mid after
              (λ f is. is) first.content (stays_step tells world making.number mid after reads.content);
          grew = tt;
          paid = tt;
          taken = tt;
          untaken = tt;
          recent = tt;
          calls = tt;
          few_calls = λ told g given. absurd (never told g given);
          stops = λ told g given. absurd (never told g given);
          faults = faults_then making.n making.operands reads first.faults;
        }

-- the fault of a sweep that makes arcs was handed on at once
arcs_handed : {S : Type 0} (tells : S → Bool) (world : S → World) (counts : S → Faults) (making : Making)
    (old new : Going) (before mid : S) (fault : SortFault) → ¬ NamesOperand making.operands fault
    → SweepsArcs tells world counts making old new before mid (Err fault)
    → MakesArcs tells world counts making old new before mid (Err fault)
arcs_handed tells world counts making old new before mid fault other first = record {
  going = first.going;
  files = tt;
  parts = tt;
  made = tt;
  undamaged = first.undamaged;
  spent = first.spent;
  images = first.images;
  damaged = λ told none gate. other_fault (MissesAsked (AsksOwn making.operation making.operands))
      (MissesIn making.operation making.operands) making.n making.operands (world before) fault other
      (first.damaged told none gate);
  ordered = tt;
  content = first.content;
  grew = tt;
  paid = tt;
  taken = tt;
  untaken = tt;
  recent = tt;
  calls = tt;
  few_calls = first.few_calls;
  stops = first.stops;
  faults = first.faults;
}

pub arcs_confirmed : {S : Type 0} (tells : S → Bool) (world : S → World) (counts : S → Faults) (making : Making)
    → AreEarlier making.number making.operands → (old new : Going) (before mid after : S) (fault result : SortFault)
    → SweepsArcs tells world counts making old new before mid (Err fault)
    → Confirms tells world counts making.n making.operands mid after fault result
    → MakesArcs tells world counts making old new before after (Err result)
arcs_confirmed tells world counts making earlier old new before mid after fault result first (inl hands) =
    subst (λ s. MakesArcs tells world counts making old new before s (Err result)) (sym hands.same)
    (subst (λ (e : SortFault). MakesArcs tells world counts making old new before mid (Err e)) (sym hands.fault_is)
    (arcs_handed tells world counts making old new before mid fault hands.other first))
arcs_confirmed tells world counts making earlier old new before mid after fault result first (inr reads) =
    arcs_read tells world counts before mid after fault result making earlier old new first reads

-- and a fault of an implication is one of its operands
of_implied : (Misses : List ℕ → ℕ → Type 0) (n : ℕ) (left right : FileNo) (world : World) (e : SortFault)
    → IsImplicationFault Misses n left right world e → IsOperandsFault Misses n (operand_files left right right) world e
of_implied Misses n left right world Shelf is = tt
of_implied Misses n left right world (Damaged f at) (inl first) = inl first
of_implied Misses n left right world (Damaged f at) (inr second) = inr (inl second)
of_implied Misses n left right world RunsSpent is = tt

module _ {S : Type 0} (tells : S → Bool) (world : S → World) (counts : S → Faults) (n : ℕ) (left right : FileNo)
    (going : Going) where
  -- the sweep of an implication was refused
  implication_read : (left.step < going.step) × (right.step < going.step) → (before mid after : S) (fault result : SortFault)
      → Answers tells world counts (refuting n left right) going before mid (Err fault)
      → ReadsAgain tells world counts n (operand_files left right right) mid after fault result
      → Answers tells world counts (implying n left right) going before after (Err result)
  implication_read earlier before mid after fault result first reads =
      let operands = operand_files left right right in
      let own : AreEarlier going.step operands = record { first = earlier.0; second = earlier.1; third = earlier.1 } in
      let never : IsTrue (tells after) → (g : TwoTables) → IsAsked (implying n left right) going (world before) g → ⊥ =
      λ told g asked. was_damaged tells world counts before mid after fault result n operands reads
      (first.undamaged (reads.content.before told) g (record { given = asked.given; standing = asked.standing })) in
      record {
        answer = tt;
        undamaged = λ told g asked. absurd (never told g asked);
        spent = λ was. absurd (isnt_spent tells world counts before mid after fault result n operands reads was);
        few_calls = λ told g asked. absurd (never told g asked);
        images = λ told g asked. absurd (never told g asked);
        damaged = λ told none gate.
            let told_mid = reads.content.before told in
            implication_fault MissesNamed n left right (world before) result
            (known tells world counts before mid after fault result n operands reads Unit MissesNamed whole_misses
            going.step own (changed_more (IsBehindNodes going.step) (λ q. q.step ≡ going.step) (world before) (world mid)
            (λ f behind. behind.step_is) (first.content.did told_mid)) told
            (of_implied (MissesAsked Unit) n left right (world before) fault (first.damaged told_mid none gate)));
        content = told_changed_then tells world (IsBehindNodes going.step) (λ q. ⊥) before mid after
            (λ f none. absurd none) first.content (told tells mid after _ _ reads.content
            (λ _ ran. ran_weakens (world mid) (world after) (Stays (now (world mid))) (OnlyChanged (λ q. ⊥) (now (world mid)))
            (λ m stays f outside. ap (λ (d : Folder). file_in d f) stays) ran));
        counted = tt;
        few_anew = tt;
        untaken = tt;
        calls = tt;
        grew = tt;
        stops = λ told g asked. absurd (never told g asked);
        faults = faults_then tells world counts before mid after fault result n operands reads first.faults;
      }

  -- it was handed on at once, or answered
  implication_as_swept : (before after : S) (result : Result Answered SortFault)
      → (IsTrue (tells after) → (e : SortFault) → result ≡ Err e
      → IsImplicationFault (MissesAsked Unit) n left right (world before) e
      → IsImplicationFault MissesNamed n left right (world before) e)
      → Answers tells world counts (refuting n left right) going before after result
      → Answers tells world counts (implying n left right) going before after result
  implication_as_swept before after result more first =
      let asks : (g : TwoTables) → IsAsked (implying n left right) going (world before) g
      → IsAsked (refuting n left right) going (world before) g =
      λ g asked. record { given = asked.given; standing = asked.standing } in
      record {
        answer = ok_more result _ _ (λ a answer told g asked. answer told g (asks g asked)) first.answer;
        undamaged = err_more result _ _ (λ e none told g asked. none told g (asks g asked)) first.undamaged;
        spent = λ was told g asked. first.spent was told g (asks g asked);
        few_calls = λ told g asked. first.few_calls told g (asks g asked);
        images = λ told g asked. first.images told g (asks g asked);
        damaged = by result more first.damaged;
        content = first.content;
        counted = first.counted;
        few_anew = first.few_anew;
        untaken = first.untaken;
        calls = first.calls;
        grew = first.grew;
        stops = λ told g asked. first.stops told g (asks g asked);
        faults = first.faults;
      }
    where
      by : (r : Result Answered SortFault) → (IsTrue (tells after) → (e : SortFault) → r ≡ Err e
          → IsImplicationFault (MissesAsked Unit) n left right (world before) e
          → IsImplicationFault MissesNamed n left right (world before) e)
          → IfErr r (λ e. IsTrue (tells after) → going.last ≡ None
          → reads_of (world before) (checkpoint_gate going.step) ≡ []
          → IsImplicationFault (MissesAsked Unit) n left right (world before) e)
          → IfErr r (λ e. IsTrue (tells after) → going.last ≡ None
          → reads_of (world before) (checkpoint_gate going.step) ≡ []
          → IsImplicationFault MissesNamed n left right (world before) e)
      by (Ok a) more damaged = tt
      by (Err e) more damaged = λ told none gate. more told e refl (damaged told none gate)

  pub implication_answered : (before after : S) (a : Answered)
      → Answers tells world counts (refuting n left right) going before after (Ok a)
      → Answers tells world counts (implying n left right) going before after (Ok a)
  implication_answered before after a first = implication_as_swept before after (Ok a) (λ told e is. absurd (cc)) first

  pub implication_confirmed : (left.step < going.step) × (right.step < going.step) → (before mid after : S)
      (fault result : SortFault) → Answers tells world counts (refuting n left right) going before mid (Err fault)
      → Confirms tells world counts n (operand_files left right right) mid after fault result
      → Answers tells world counts (implying n left right) going before after (Err result)
  implication_confirmed earlier before mid after fault result first (inl hands) =
      subst (λ s. Answers tells world counts (implying n left right) going before s (Err result)) (sym hands.same)
      (subst (λ (e : SortFault). Answers tells world counts (implying n left right) going before mid (Err e)) (sym hands.fault_is)
      (implication_as_swept before mid (Err fault) (λ told e is found.
      let same : fault ≡ e = cc in
      implication_fault MissesNamed n left right (world before) e
      (other_fault (MissesAsked Unit) MissesNamed n (operand_files left right right) (world before) e
      (subst (λ x. ¬ NamesOperand (operand_files left right right) x) same hands.other)
      (of_implied (MissesAsked Unit) n left right (world before) e found))) first))
  implication_confirmed earlier before mid after fault result first (inr reads) =
      implication_read earlier before mid after fault result first reads
