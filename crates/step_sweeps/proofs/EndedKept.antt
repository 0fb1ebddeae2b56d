-- What the room made is saved: each image that a stop may leave meanwhile is safe.
use Rattle.std.proofs.Common.{◌≡◌, ◌≢◌, ◌⊎◌, ℕ, ◌+◌, ◌-◌, ◌*◌, ◌^◌, ◌<◌, ◌≤◌, ◌∙◌, Bool, IsTrue, List, [], length, take, refl, sym, ap, subst, inl, inr, arith}
use Rattle.std.specs.Prelude.{Option, Some, None, Result, Ok, Err, IfErr}
use Rattle.std.proofs.lemmas.List.{take_all}
use Rattle.rec_words.specs.Words.{node_size}
use Rattle.shelf_model.specs.declared.file_no.FileNo.{FileNo}
use Rattle.shelf_model.specs.declared.fault.StreamFault.{StreamFault}
use Rattle.shelf_model.specs.declared.fault.StreamFault.TheVariants.{Shelf, Damaged}
use Rattle.shelf_model.specs.declared.sort_fault.SortFault.{SortFault}
use Rattle.shelf_model.specs.declared.sort_fault.SortFault.TheVariants as sort
use Rattle.shelf_model.specs.SortFaults.{handed_on}
use Rattle.shelf_model.specs.Calls.{Told}
use Rattle.shelf_model.specs.Faults.{Faults, OnlyShelf}
use Rattle.shelf_model.specs.File.{IsLeft, firm_file}
use Rattle.shelf_model.specs.Folder.{Folder, Image, IsImage, AreFiles, bytes_in, file_in}
use Rattle.shelf_model.specs.Moments.{Ran, OnlyChanged, Quiet}
use Rattle.shelf_model.specs.World.{Moment, World, now, file}
use Rattle.shelf_model.proofs.Changing.{changed_none, told_changed_more}
use Rattle.shelf_model.proofs.Files.{only_image}
use Rattle.shelf_model.proofs.Runs.{stands, weakens, ran_weakens, told, told_here}
use Rattle.file_numbers.specs.Files.{checkpoint_file, checkpoint_gate}
use Rattle.run_tiers.specs.Faults.{OnlySortShelf}
use Rattle.canon_file.specs.Canon.{canon_nodes, canon_bytes}
use Rattle.copied_diagrams.proofs.TrailerFacts.{long_canonical}
use Rattle.node_file.specs.Canonical.{IsMade}
use Rattle.node_reading.proofs.Spent.{not_spent}
use Rattle.sweep_core.specs.declared.checkpoint.Checkpoint.{Checkpoint}
use Rattle.sweep_core.specs.Saving.{IsOfStep, IsMadePart, IsFilled}
use Rattle.sweep_core.specs.Sweeps.{IsNoDamage}
use Rattle.sweep_checkpoint.specs.declared.going.Going.{Going}
use Rattle.sweep_checkpoint.specs.Gated.{last_gated}
use Rattle.sweep_checkpoint.specs.Going.{IsPaid, IsAsBefore}
use Rattle.sweep_checkpoint.specs.Points.{point_bytes, Fits}
use Rattle.sweep_checkpoint.specs.Rules.{KeepsRules}
use Rattle.sweep_checkpoint.specs.Saves.{DuringSave, IsGateSure, IsLast, IsSaveFault, gated_size}
use Rattle.sweep_checkpoint.specs.Stops.{turns_in, shown_turns, ShowsAsBefore}
use Rattle.sweep_checkpoint.proofs.AsBefore.{before_saved}
use Rattle.sweep_checkpoint.proofs.PointTurns.{point_turns}
use Rattle.step_going.specs.Standing.{AreSafe}
use Rattle.step_going.proofs.Safe.{RestsSure, safe_as_before, safe_standing}
use Rattle.resumable.specs.Diagrams.{diagram_rests}
use Rattle.resumable.proofs.DiagramPoints.{diagram_local}
use Rattle.resumable.proofs.Makings.{reduction_goes}
use Rattle.reduce_sweep.specs.Ended.{NamesEnded}
use Rattle.reduce_sweep.specs.Remaining.{Diagram}
use Rattle.reduce_sweep.specs.Resumes.{StandsFor, reduce_saving}
use Rattle.reduce_sweep.specs.Resumes as reductions
use Rattle.step_sweeps.specs.declared.diagram.MadeDiagram.{MadeDiagram}
use Rattle.step_sweeps.specs.declared.task.Making.{Making}
use Rattle.step_sweeps.specs.Ended.{MayBeKept, IsOfPoints, IsReduced, KeepsMade}
use Rattle.step_sweeps.specs.Given.{Tables}
use Rattle.step_sweeps.specs.Made.{node_file, OnlyStep}
use Rattle.step_sweeps.specs.Makes.{goes_on_by, table_by}
use Rattle.step_sweeps.specs.Sweeping.{IsCovered}
use Rattle.step_sweeps.proofs.Running.{file_stays}
use Rattle.step_sweeps.proofs.StepStands.{gate_sure}

-- all of a canonical file are the nodes, so many, and the trailer
whole_file : (n : ℕ) (t : List Bool) (count : ℕ) → count ≡ length (canon_nodes n t)
    → take (node_size * (count + 1)) (canon_bytes n t) ≡ canon_bytes n t
whole_file n t count many =
    let size = long_canonical n t in
    take_all (node_size * (count + 1)) (canon_bytes n t) (omega (arith, size, many))

-- the checkpoint is of the end of a reduction to the step's node file, of so many nodes and behind so many turns
pub record IsEndOf (making : Making) (going : Going) (nodes next : ℕ) (c : Checkpoint) : Type 0 where
  pub step_is : c.step ≡ making.number
  pub sweep_is : c.sweep ≡ 1
  pub turns_are : c.turns ≡ going.turns - 1
  pub records : c.budget < 2 ^ 32
  pub filled : IsFilled next c
  pub words : Fits c
  pub fits : reductions.Fits c
  pub names : NamesEnded c (node_file making.number) making.n
  pub stands : (r : FileNo → List ℕ) (d : Diagram) (turns : ℕ)
      → take (node_size * (nodes + 1)) (r (node_file making.number)) ≡ canon_bytes making.n d.table
      → nodes ≡ length (canon_nodes making.n d.table) → StandsFor c r d turns

-- so it was filled
pub end_of : (making : Making) (going : Going) (nodes next : ℕ) (c : Checkpoint) (out : FileNo)
    → out ≡ node_file making.number → (3 ≤ next) × (next ≤ 2 ^ 32) → c.step ≡ making.number → c.sweep ≡ 1
    → c.turns ≡ going.turns - 1 → c.budget < 2 ^ 32 → IsFilled next c → Fits c
    → (3 ≤ next → IsMadePart making.number next out → reductions.Fits c) → NamesEnded c out making.n
    → ((r : FileNo → List ℕ) (d : Diagram) (turns : ℕ)
    → take (node_size * (nodes + 1)) (r out) ≡ canon_bytes making.n d.table
    → nodes ≡ length (canon_nodes making.n d.table) → StandsFor c r d turns)
    → IsEndOf making going nodes next c
end_of making going nodes next c out out_is parts step sweep turns records filled words fits names stands = record {
  step_is = step;
  sweep_is = sweep;
  turns_are = turns;
  records = records;
  filled = filled;
  words = words;
  fits = fits parts.0 (record {
    step_is = ap (λ (f : FileNo). f.step) out_is;
    part = inl (ap (λ (f : FileNo). f.part) out_is);
  });
  names = subst (λ f. NamesEnded c f making.n) out_is names;
  stands = subst (λ f. (r : FileNo → List ℕ) (d : Diagram) (turns : ℕ)
      → take (node_size * (nodes + 1)) (r f) ≡ canon_bytes making.n d.table
      → nodes ≡ length (canon_nodes making.n d.table) → StandsFor c r d turns) out_is stands;
}

-- no file is made by what saves it
abbrev Nothing : FileNo → Type 0
Nothing f = ⊥

makes_nothing : (step next : ℕ) → 3 ≤ next → IsOfStep Nothing Nothing step next
makes_nothing step next from = record {
  parts = from;
  made = λ f mine. absurd mine;
  others = λ f operand. absurd operand;
  apart = λ f operand mine. mine;
}

nothing_sure : (folder : Folder) (last : Option Checkpoint) → RestsSure diagram_rests Nothing folder last
nothing_sure folder None = tt
nothing_sure folder (Some c) = λ f n is mine. absurd mine

module _ (making : Making) (going : Going) (nodes next : ℕ) (c : Checkpoint) (parts : (3 ≤ next) × (next ≤ 2 ^ 32))
    (may : MayBeKept nodes next going) (end : IsEndOf making going nodes next c) where
  -- it keeps the rules
  end_rules : KeepsRules making.number c
  end_rules =
      let sweep = end.sweep_is in
      let turns = end.turns_are in
      let few = may.turns_few in
      let from = parts.0 in
      let below = parts.1 in
      let next_is = end.filled.next_is in
      record {
        step_is = end.step_is;
        budget = end.records;
        sweep = omega (arith, sweep);
        parts = (omega (arith, next_is, from), omega (arith, next_is, below));
        tables = end.filled.tables.tables;
        runs = end.filled.tables.runs;
        turns = omega (arith, turns, few);
      }

  end_paid : IsPaid c
  end_paid =
      let next_is = end.filled.next_is in
      let turns = end.turns_are in
      let few = may.parts_few in
      omega (arith, next_is, turns, few)

  module _ (g : Tables) (world : World) (is : IsReduced making going nodes next g world) where
    -- so it goes on where it is gated last and the node file stands
    end_goes_on : (r : FileNo → List ℕ) → IsLast c r
        → r (node_file making.number) ≡ canon_bytes making.n (table_by making g)
        → goes_on_by making g r
    end_goes_on r last bytes =
        let d : Diagram = record { arcs = []; table = table_by making g } in
        let step_is = end.step_is in
        let turns = end.turns_are in
        reduction_goes making.operation making.n making.operands making.number g going.turns r
        end.names.task d end.names.out_is end.names.variables_are (end.names.inner_own ∙ step_is)
        (end.names.ends_own ∙ step_is) refl is.made.form
        (record {
          point = c;
          last = subst (λ k. last_gated k r ≡ Some (point_bytes c)) step_is last;
          rules = end_rules;
          paid = end_paid;
          sweep_is = end.sweep_is;
          words = end.words;
          names = end.names.names;
          fits = end.fits;
          left = 0;
          stands = end.stands r d 0 (ap (take (node_size * (nodes + 1))) bytes
              ∙ whole_file making.n (table_by making g) nodes is.made.nodes_are) is.made.nodes_are;
          few = omega (arith, turns);
        }) is.few

    -- the node file is no checkpoint
    node_stays : (m : Moment) → DuringSave c (now world) m
        → file_in m.folder (node_file making.number) ≡ file_in (now world).folder (node_file making.number)
    node_stays m saves = saves.others (node_file making.number)
        (λ same. let part : 0 ≡ 1 = ap (λ (f : FileNo). f.part) same in absurd (omega (arith, part)))
        (λ same. let part : 0 ≡ 2 = ap (λ (f : FileNo). f.part) same in absurd (omega (arith, part)))

    node_bytes_left : (m : Moment) (image : Image) → DuringSave c (now world) m → IsImage m.folder image
        → bytes_in image (node_file making.number) ≡ canon_bytes making.n (table_by making g)
    node_bytes_left m image saves is_image =
        let now_is : file_in m.folder (node_file making.number) ≡ firm_file (canon_bytes making.n (table_by making g)) =
        node_stays m saves ∙ is.made.file_is in
        only_image (canon_bytes making.n (table_by making g)) (bytes_in image (node_file making.number))
        (subst (λ x. IsLeft x (bytes_in image (node_file making.number))) now_is (is_image (node_file making.number)))

    -- each image is safe
    safe_while_saved : AreFiles (now world).folder → (m : Moment) → DuringSave c (now world) m
        → AreSafe (goes_on_by making g) making.number m.folder
    safe_while_saved are_files m saves image is_image =
        let step_is = end.step_is in
        let gate : IsGateSure c.step (now world).folder = subst (λ s. IsGateSure s (now world).folder) (sym step_is)
        (gate_sure (goes_on_by making g) diagram_rests making.number next
        (now world).folder is.last is.standing) in
        elim (saves.images gate image is_image) [
          | inl was ↦ safe_as_before (goes_on_by making g) diagram_rests making.number
              (diagram_local making.operation making.n making.operands making.number g) Nothing next
              (now world).folder (bytes_in image) is.last is.standing (nothing_sure (now world).folder is.last)
              (subst (λ s. IsAsBefore Nothing s next (now world).folder (bytes_in image)) step_is
              (before_saved Nothing Nothing c next (now world) m image are_files (makes_nothing c.step next parts.0) saves
              is_image was))
          | inr last ↦ inr (end_goes_on (bytes_in image) last (node_bytes_left m image saves is_image))
        ]

module _ {S : Type 0} (tells : S → Bool) (world : S → World) (counts : S → Faults)
    (files_are : (s : S) → IsTrue (tells s) → AreFiles (now (world s)).folder) (making : Making) (going : Going)
    (nodes next : ℕ) where
  -- where it isn't due no call is made
  pub not_kept : (s : S) → OnlyShelf {T = Unit} (counts s) (counts s) (Ok tt)
      → KeepsMade tells world counts making nodes next going s s (Ok tt)
  not_kept s calm = record {
    images = λ told g is. stands (world s)
        (λ (m : Moment). AreSafe (goes_on_by making g) making.number m.folder)
        (safe_standing (goes_on_by making g) diagram_rests making.number
        (diagram_local making.operation making.n making.operands making.number g) next
        (now (world s)).folder is.last is.standing);
    cause = tt;
    content = told_here tells s _ (λ told. changed_none (IsOfPoints making.number) (world s));
    calls = λ told. omega arith;
    shows = λ told sure. stands (world s) (λ (m : Moment). (image : Image) → IsImage m.folder image
        → ShowsAsBefore making.number (now (world s)).folder (bytes_in image)
        ⊎ (shown_turns making.number (bytes_in image) ≡ going.turns - 1))
        (λ image is_image. inl (record { before = image; is_image = is_image; same = refl }));
    faults = calm;
  }

  -- a fault is the folder's, where no checkpoint is missing
  save_cause : (old new : Folder) (number : ℕ) (e : StreamFault) → IsSaveFault number old new e
      → gated_size number old ≤ length (file_in old (checkpoint_file number)).bytes → e ≡ Shelf
  save_cause old new number Shelf fault covered = refl
  save_cause old new number (Damaged f at) fault covered =
      let short = fault.2 in absurd (omega (arith, short, covered))

  -- while it is saved as many turns are shown as before, or those of the checkpoint
  shown_while_saved : (c : Checkpoint) (old m : Moment) → IsEndOf making going nodes next c
      → IsGateSure making.number old.folder → DuringSave c old m → (image : Image) → IsImage m.folder image
      → ShowsAsBefore making.number old.folder (bytes_in image)
      ⊎ (shown_turns making.number (bytes_in image) ≡ going.turns - 1)
  shown_while_saved c old m end sure saves image is_image =
      let step_is = end.step_is in
      elim (saves.images (subst (λ k. IsGateSure k old.folder) (sym step_is) sure) image is_image) [
        | inl was ↦ inl (record {
          before = was.before;
          is_image = was.is_image;
          same = ap turns_in (subst (λ k. last_gated k (bytes_in image) ≡ last_gated k (bytes_in was.before)) step_is
              was.same);
        })
        | inr last ↦ inr (ap turns_in (subst (λ k. last_gated k (bytes_in image) ≡ Some (point_bytes c)) step_is last)
            ∙ point_turns c end.words ∙ end.turns_are)
      ]

  -- it is saved
  pub kept_by : (c : Checkpoint) (old new : S) (r : Result Unit StreamFault) → (3 ≤ next) × (next ≤ 2 ^ 32)
      → MayBeKept nodes next going → IsEndOf making going nodes next c
      → Told tells old new (Ran (DuringSave c (now (world old))) (world old) (world new))
      → IfErr r (λ e. IsTrue (tells new) → IsSaveFault c.step (now (world old)).folder (now (world new)).folder e)
      → (IsTrue (tells new) → (world new).clock ≤ (world old).clock + 14) → OnlyShelf (counts old) (counts new) r
      → KeepsMade tells world counts making nodes next going old new r
  kept_by c old new r parts may end content fault calls faults = record {
    images = λ told g is. weakens (world old) (world new)
        (Quiet (now (world old)).said (DuringSave c (now (world old))))
        (λ (m : Moment). AreSafe (goes_on_by making g) making.number m.folder)
        (λ m quiet. safe_while_saved making going nodes next c parts may end g (world old) is
        (files_are old (content.before told)) m quiet.holds) (content.did told).moments;
    cause = cause_of r fault;
    content = told tells old new _ _ content (λ _ run. ran_weakens (world old) (world new)
        (DuringSave c (now (world old))) (OnlyChanged (IsOfPoints making.number) (now (world old)))
        (λ m saves f outside. saves.others f
        (λ is. outside (inl (is ∙ ap checkpoint_file end.step_is)))
        (λ is. outside (inr (is ∙ ap checkpoint_gate end.step_is)))) run);
    calls = calls;
    shows = λ told sure. weakens (world old) (world new)
        (Quiet (now (world old)).said (DuringSave c (now (world old))))
        (λ (m : Moment). (image : Image) → IsImage m.folder image
        → ShowsAsBefore making.number (now (world old)).folder (bytes_in image)
        ⊎ (shown_turns making.number (bytes_in image) ≡ going.turns - 1))
        (λ m quiet. shown_while_saved c (now (world old)) m end sure quiet.holds) (content.did told).moments;
    faults = faults;
  }
    where
      cause_of : (r : Result Unit StreamFault)
          → IfErr r (λ e. IsTrue (tells new) → IsSaveFault c.step (now (world old)).folder (now (world new)).folder e)
          → IfErr r (λ e. IsTrue (tells new) → IsCovered making.number (world old) → e ≡ Shelf)
      cause_of (Ok x) fault = tt
      cause_of (Err e) fault = λ told covered. save_cause (now (world old)).folder (now (world new)).folder
          making.number e (subst (λ s. IsSaveFault s (now (world old)).folder (now (world new)).folder e) end.step_is (fault told))
          covered

-- a fault of a save is handed on as the folder's, or as damage
pub never_spent : (e : StreamFault) (x : SortFault) → x ≡ handed_on e → x ≢ sort.RunsSpent
never_spent e x is was = not_spent e (sym is ∙ was)

pub no_damage_of : (e : StreamFault) (x : SortFault) → x ≡ handed_on e → e ≡ Shelf → IsNoDamage x
no_damage_of e x is shelf = subst IsNoDamage (sym (is ∙ ap handed_on shelf)) tt

pub faults_on : (old new : Faults) (e : StreamFault) (x : SortFault) → x ≡ handed_on e
    → OnlyShelf {T = Unit} old new (Err e) → OnlySortShelf {T = MadeDiagram} old new (Err x)
faults_on old new Shelf x is only =
    record { later = only.later; cause = λ _. only.cause refl; say_is = only.say_is; text_is = only.text_is }
faults_on old new (Damaged f at) x is only =
    record { later = only.later; cause = λ was. absurd (cc); say_is = only.say_is; text_is = only.text_is }

-- a save leaves the node file as it is, and so do all calls without one
module _ {S : Type 0} (tells : S → Bool) (world : S → World) (counts : S → Faults) (making : Making) (going : Going)
    (nodes next : ℕ) (old new : S) (r : Result Unit StreamFault)
    (keeps : KeepsMade tells world counts making nodes next going old new r) where
  pub kept_changes : Told tells old new (Ran (OnlyStep making.number (now (world old))) (world old) (world new))
  kept_changes = told_changed_more tells world (IsOfPoints making.number) (λ q. q.step ≡ making.number) old new
      (λ f points. elim points [
        | inl point ↦ ap (λ (x : FileNo). x.step) point
        | inr gate ↦ ap (λ (x : FileNo). x.step) gate
      ]) keeps.content

  kept_node : IsTrue (tells new)
      → file (world new) (node_file making.number) ≡ file (world old) (node_file making.number)
  kept_node told_new = file_stays (IsOfPoints making.number) (world old) (world new) (node_file making.number)
      (λ points. elim points [
        | inl point ↦ (let part : 0 ≡ 1 = ap (λ (f : FileNo). f.part) point in absurd (omega (arith, part)))
        | inr gate ↦ (let part : 0 ≡ 2 = ap (λ (f : FileNo). f.part) gate in absurd (omega (arith, part)))
      ]) (keeps.content.did told_new)

  -- so the diagram that was made is there
  pub kept_made : (t : List Bool) (many : ℕ) → IsTrue (tells new)
      → IsMade making.n t (node_file making.number) many (world old)
      → IsMade making.n t (node_file making.number) many (world new)
  kept_made t many told_new made = record {
    form = made.form;
    file_is = kept_node told_new ∙ made.file_is;
    nodes_are = made.nodes_are;
  }
