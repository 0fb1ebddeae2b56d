-- A step's node file that is copied in turns from its beginning on: what is made and taken, whether a turn was refused
-- or the copy ended.
use Rattle.std.proofs.Common.{◌≡◌, ◌⊎◌, ◌∙◌, ℕ, ◌+◌, ◌-◌, ◌*◌, ◌/◌, ◌^◌, ◌<◌, ◌≤◌, Bool, IsTrue, List, take, refl, ap, sym, subst, inl, inr, mul-le-mul_right, arith}
use Rattle.std.specs.Prelude.{min, max, length, None, Result, Ok, Err, IsErrOf, IsErrAnd}
use Rattle.std.proofs.lemmas.Bool.{cases_lt}
use Rattle.std.proofs.lemmas.List.{take_all}
use Rattle.rec_words.specs.Words.{node_size}
use Rattle.shelf_model.specs.declared.file_no.FileNo.{FileNo}
use Rattle.shelf_model.specs.declared.sort_fault.SortFault.{SortFault}
use Rattle.shelf_model.specs.declared.sort_fault.SortFault.TheVariants.{RunsSpent}
use Rattle.shelf_model.specs.Calls.{Told, most_piece}
use Rattle.shelf_model.specs.Faults.{Faults}
use Rattle.shelf_model.specs.File.{File, firm_file}
use Rattle.shelf_model.specs.Folder.{Image, IsImage, bytes_in}
use Rattle.shelf_model.specs.Moments.{Ran, Throughout, OnlyChanged}
use Rattle.shelf_model.specs.World.{Moment, World, now, file}
use Rattle.shelf_model.proofs.Changing.{told_changed_then}
use Rattle.shelf_model.proofs.Runs.{told, joins, ran_weakens}
use Rattle.block_stream.specs.Writes.{DuringCut, Cut}
use Rattle.file_numbers.specs.Files.{checkpoint_gate}
use Rattle.canon_file.specs.Canon.{canon_bytes}
use Rattle.copied_diagrams.specs.declared.source.Source.{Source}
use Rattle.copied_diagrams.specs.Pairs.{IsSourceOf}
use Rattle.copied_diagrams.proofs.TrailerFacts.{long_canonical}
use Rattle.copied_diagrams.specs.declared.way.Way.TheVariants as ways
use Rattle.copy_sweep.specs.declared.copy.CopySweep.{CopySweep}
use Rattle.copy_sweep.specs.declared.copy.CopyTask.{CopyTask}
use Rattle.copy_sweep.specs.Copies.{accounts, fuel_of, left_of, Copies, HasCopied, IsInStep}
use Rattle.copy_sweep.specs.Resumes.{copy_saving}
use Rattle.copy_sweep.specs.Resumes as laws
use Rattle.copy_sweep.proofs.Copying.{all_copied}
use Rattle.node_file.specs.Canonical.{IsMade}
use Rattle.run_tiers.specs.declared.parts.Parts.{Parts}
use Rattle.run_tiers.specs.Faults.{OnlySortShelf}
use Rattle.run_tiers.specs.Syncs.{IsFirm}
use Rattle.step_going.specs.Standing.{AreSafe}
use Rattle.step_going.proofs.GoneOn.{GoesOnBy}
use Rattle.sweep_checkpoint.specs.Going.{IsOfGoing, IsAsBefore, GoesOn, AreSure, TakesParts, TakesCalls, IsPaidTo, interval_of, first_owed}
use Rattle.sweep_checkpoint.specs.Saves.{IsGateSure}
use Rattle.sweep_checkpoint.specs.Stops.{AreStops, StopsCost, stop_calls}
use Rattle.sweep_checkpoint.specs.declared.going.Going.{Going}
use Rattle.step_going.proofs.Shown.{none_shows, stops_more, stops_join, saved_stops}
use Rattle.sweep_core.specs.Accounts.{NoneFilled, StayEmpty}
use Rattle.sweep_core.specs.Sweeps.{IsNoDamage}
use Rattle.resumable.specs.Diagrams.{copy_of, diagram_rests}
use Rattle.resumable.proofs.Makings.{copy_goes}
use Rattle.resumable.proofs.Resting.{copy_sees}
use Rattle.step_sweeps.specs.declared.diagram.MadeDiagram.{MadeDiagram}
use Rattle.step_sweeps.specs.declared.task.Making.{Making}
use Rattle.step_sweeps.specs.Damage.{MissesIn}
use Rattle.step_sweeps.specs.Given.{Tables, AreEarlier}
use Rattle.step_sweeps.specs.Kinds.{copy_kind}
use Rattle.step_sweeps.specs.Made.{node_file, OnlyStep}
use Rattle.step_sweeps.specs.Makes.{IsGiven, HasNoGate, goes_on_by, table_by, work_for, nodes_for}
use Rattle.step_sweeps.specs.Pairs.{Leads}
use Rattle.step_sweeps.specs.Started.{IsUnderWay}
use Rattle.step_sweeps.specs.Sweeping.{IsCovered, IsOperand}
use Rattle.step_sweeps.specs.Stops.{sweeps_stop}
use Rattle.step_sweeps.specs.Ways.{IsAnew, IsGivenAnew, MakesAnew}
use Rattle.step_sweeps.proofs.Costs.{few_saves}
use Rattle.step_sweeps.proofs.Faults.{no_damage}
use Rattle.step_sweeps.proofs.StopsAnew.{interval_few, stops_anew}
use Rattle.step_sweeps.proofs.UnderWay.{way_sure, way_safe}
use Rattle.step_sweeps.proofs.Running.{file_stays, nodes_apart}
use Rattle.step_sweeps.proofs.Unfilled.{none_on_nodes}
use Rattle.step_sweeps.proofs.WaysAnew.{node_changes, safe_anew}

-- the file is that of a step before
operand_before : (making : Making) (f : FileNo) → AreEarlier making.number making.operands → IsOperand making f
    → f.step < making.number
operand_before making f earlier (inl is) = subst (λ (x : FileNo). x.step < making.number) (sym is) earlier.first
operand_before making f earlier (inr is) = subst (λ (x : FileNo). x.step < making.number) (sym is) earlier.second

-- its file is its own only image
operand_firm : (making : Making) (f : FileNo) (world : World) → IsOperand making f
    → IsFirm (file world making.operands.first) → IsFirm (file world making.operands.second) → IsFirm (file world f)
operand_firm making f world (inl is) first second = subst (λ x. IsFirm (file world x)) (sym is) first
operand_firm making f world (inr is) first second = subst (λ x. IsFirm (file world x)) (sym is) second

-- how many pieces so many bytes make, and so those of a node file
abbrev pieces_in : ℕ → ℕ
pieces_in long = (long + (most_piece - 1)) / most_piece

pieces_are : (count many : ℕ) → (count + 1) * node_size ≤ many * most_piece
    → many * most_piece < (count + 1) * node_size + most_piece → many ≡ pieces_in ((count + 1) * node_size)
pieces_are count many enough no_more = omega (arith, enough, no_more)

-- the calls of so many turns, behind one that began the copy
calls_anew : (more interval saves next later from old mid new : ℕ) → 16384 ≤ interval → interval * saves ≤ more
    → next ≤ from → 256 * (later - next) ≤ 12 * more + 4608 * saves → mid ≤ old + 1
    → new ≤ mid + (224 * more + 66126 * saves + (later - from)) → new ≤ old + (229 * more + 1)
calls_anew more interval saves next later from old mid new long few owed parts begun calls =
    let less : 16384 * saves ≤ interval * saves = mul-le-mul_right saves long in
    omega (arith, less, few, owed, parts, begun, calls)

-- no part number is left only after long work
work_anew : (more interval saves next later work : ℕ) → 16384 ≤ interval → interval * saves ≤ more → next ≡ 3
    → 256 * (later - next) ≤ 12 * more + 4608 * saves → 2 ^ 32 ≤ later → more ≤ work → 2 ^ 35 ≤ work
work_anew more interval saves next later work long few next_is parts spent within =
    let less : 16384 * saves ≤ interval * saves = mul-le-mul_right saves long in
    omega (arith, less, few, next_is, parts, spent, within)

-- what was begun
pub record IsCopyBegun {S : Type 0} (tells : S → Bool) (world : S → World) (number : ℕ) (source : Source) (many : ℕ)
    (s : CopySweep) (old mid : S) : Type 0 where
  pub task_is : s.task ≡ record { from = source.from; to = node_file number; pieces = many }
  pub parts_are : s.parts ≡ record { step = number; next = 3 }
  pub turns_are : s.turns ≡ 0
  pub trusts : IsTrue (tells mid) → HasCopied s (world mid)
  pub content : Told tells old mid (Cut 1 (node_file number) 0 (world old) (world mid))
  pub enough : (source.trailer.count + 1) * node_size ≤ many * most_piece
  pub no_more : many * most_piece < (source.trailer.count + 1) * node_size + most_piece

-- so it is of a file that is the step's node file
pub begun_at : {S : Type 0} (tells : S → Bool) (world : S → World) (number : ℕ) (source : Source) (many : ℕ)
    (s : CopySweep) (old mid : S) (to : FileNo) → to ≡ node_file number
    → (s.task ≡ record { from = source.from; to = to; pieces = many }) × (s.parts ≡ record { step = number; next = 3 })
    × (s.turns ≡ 0) → (IsTrue (tells mid) → HasCopied s (world mid))
    → Told tells old mid (Cut 1 to 0 (world old) (world mid))
    → (source.trailer.count + 1) * node_size ≤ many * most_piece
    → many * most_piece < (source.trailer.count + 1) * node_size + most_piece
    → IsCopyBegun tells world number source many s old mid
begun_at tells world number source many s old mid to is begun trusts content enough no_more = record {
  task_is = begun.0 ∙ (λ i. record { from = source.from; to = is i; pieces = many });
  parts_are = begun.1;
  turns_are = begun.2;
  trusts = trusts;
  content = subst (λ f. Told tells old mid (Cut 1 f 0 (world old) (world mid))) is content;
  enough = enough;
  no_more = no_more;
}

-- the calls that a stop of a copy may cost beyond those for turns that it leaves shown
abbrev pub copy_stop : ℕ
copy_stop = sweeps_stop + 2 ^ 19 + 32

-- what is known of a copy that was run and saved, and of what that left, whichever way it ended
pub record RanCopy {S : Type 0} (tells : S → Bool) (world : S → World) (going : Going) (s t : CopySweep) (mid new : S)
    : Type 0 where
  pub changes : Told tells mid new (Ran (OnlyChanged (IsOfGoing (accounts.makes s) going.step)
      (now (world mid))) (world mid) (world new))
  pub took : IsTrue (tells new) → (bytes : List ℕ) → Copies s (world mid) bytes → (saves : ℕ)
      × (interval_of going.budget * saves + going.shown ≤ max going.shown (going.turns + left_of s))
      × TakesParts accounts (left_of s + 1) saves s t
      × TakesCalls accounts (left_of s + 1) saves (first_owed going.last s.parts.next) (world mid) (world new) s t
  pub images : IsTrue (tells new) → (bytes : List ℕ) → Copies s (world mid) bytes
      → AreSure (λ f. f ≡ s.task.from) going.step (now (world mid)).folder → IsPaidTo accounts going s
      → Throughout (world mid) (world new) (λ (x : Moment). (image : Image) → IsImage x.folder image
      → IsAsBefore (accounts.makes s) going.step s.parts.next (now (world mid)).folder (bytes_in image)
      ⊎ GoesOn copy_saving going.step going.sweep s.task bytes (going.turns + left_of s) (bytes_in image))
  pub stops : IsTrue (tells new) → IsGateSure going.step (now (world mid)).folder → 16384 ≤ interval_of going.budget
      → going.shown ≤ going.turns → (bytes : List ℕ) → Copies s (world mid) bytes → going.turns + left_of s < 2 ^ 61
      → AreStops going.step going.shown ((world mid).clock + stop_calls accounts going s) (world mid) (world new)

-- a fault is handed on
pub handed_anew : {S : Type 0} (tells : S → Bool) (world : S → World) (counts : S → Faults) (making : Making)
    (first : ℕ) (left : Tables → ℕ) (some stop : ℕ) (old new : S) (e : SortFault)
    (r : Result MadeDiagram SortFault) → IsErrAnd r (λ x. x ≡ e)
    → MakesAnew tells world counts making first left some stop old new (Err e)
    → MakesAnew tells world counts making first left some stop old new r
handed_anew tells world counts making first left some stop old new e (Ok x) is makes = absurd is
handed_anew tells world counts making first left some stop old new e (Err x) is makes =
    subst (λ y. MakesAnew tells world counts making first left some stop old new (Err y)) (sym is) makes

-- a cut of the node file changes nothing else
pub cut_alone : {S : Type 0} (tells : S → Bool) (world : S → World) (number : ℕ) (old mid : S)
    → Told tells old mid (Cut 1 (node_file number) 0 (world old) (world mid))
    → Told tells old mid (Ran (OnlyChanged (λ q. q ≡ node_file number) (now (world old))) (world old) (world mid))
cut_alone tells world number old mid cut = told tells old mid _ _ cut (λ _ did. ran_weakens (world old) (world mid)
    (DuringCut (node_file number) 0 (now (world old))) (OnlyChanged (λ q. q ≡ node_file number) (now (world old)))
    (λ x cut. cut.others) did.run)

module _ {S : Type 0} (tells : S → Bool) (world : S → World) (counts : S → Faults) (making : Making) (going : Going)
    (anew : IsAnew making.number going) (earlier : AreEarlier making.number making.operands) (source : Source)
    (operand : IsOperand making source.from) (many : ℕ) (s t : CopySweep) (old mid new : S)
    (leads : Leads tells world making (ways.CopyInTurns source) old)
    (begun : IsCopyBegun tells world making.number source many s old mid)
    (run : RanCopy tells world going s t mid new) where
  from_is : s.task.from ≡ source.from
  from_is = ap (λ (x : CopyTask). x.from) begun.task_is

  to_is : s.task.to ≡ node_file making.number
  to_is = ap (λ (x : CopyTask). x.to) begun.task_is

  next_is : s.parts.next ≡ 3
  next_is = ap (λ (p : Parts). p.next) begun.parts_are

  left_is : left_of s ≡ many
  left_is =
      let all = ap (λ (x : CopyTask). x.pieces) begun.task_is in
      let none : s.turns ≡ 0 = begun.turns_are in
      omega (arith, all, none)

  few_pieces : many ≤ source.trailer.count + 1
  few_pieces = let no_more = begun.no_more in omega (arith, no_more)

  long : 16384 ≤ interval_of going.budget
  long = let budget = anew.budget in omega (arith, budget)

  nodes_alone : Told tells old mid
      (Ran (OnlyChanged (λ q. q ≡ node_file making.number) (now (world old))) (world old) (world mid))
  nodes_alone = cut_alone tells world making.number old mid begun.content

  paid_so : IsPaidTo accounts going s
  paid_so =
      let turns = anew.turns_are in
      let shown = anew.shown_is in
      record { interval = long; shown = omega (arith, turns, shown); paid = omega (arith, next_is) }

  owed : s.parts.next ≤ first_owed going.last s.parts.next
  owed = subst (λ last. s.parts.next ≤ first_owed last s.parts.next) (sym anew.last_is) (omega (arith, next_is))

  copies_it : IsTrue (tells mid) → Copies s (world mid) (file (world mid) s.task.from).bytes
  copies_it told_mid = record { bytes_are = refl; copied = begun.trusts told_mid }

  -- only files of the step are changed
  copy_content : Told tells old new (Ran (OnlyStep making.number (now (world old))) (world old) (world new))
  copy_content = told_changed_then tells world (λ q. q.step ≡ making.number) (IsOfGoing (accounts.makes s) going.step)
      old mid new
      (λ f is. elim is [
        | inl mine ↦ ap (λ (x : FileNo). x.step) (mine ∙ to_is)
        | inr rest ↦ rest.0 ∙ anew.step_is
      ])
      (node_changes tells world making.number old mid nodes_alone) run.changes

  source_stays : IsTrue (tells mid) → file (world mid) source.from ≡ file (world old) source.from
  source_stays told_mid = file_stays (λ q. q ≡ node_file making.number) (world old) (world mid) source.from
      (nodes_apart making.number source.from (operand_before making source.from earlier operand))
      (nodes_alone.did told_mid)

  gate_stays : IsTrue (tells mid) → file (world mid) (checkpoint_gate making.number)
      ≡ file (world old) (checkpoint_gate making.number)
  gate_stays told_mid = file_stays (λ q. q ≡ node_file making.number) (world old) (world mid)
      (checkpoint_gate making.number)
      (λ same. absurd (let part = ap (λ (x : FileNo). x.part) same in omega (arith, part))) (nodes_alone.did told_mid)

  -- no checkpoint is gated, so that all that the gate counts is there
  covered : IsTrue (tells mid) → HasNoGate making.number (world old) → IsCovered going.step (world mid)
  covered told_mid none = subst (λ k. IsCovered k (world mid)) (sym anew.step_is)
      (let empty : length (file (world mid) (checkpoint_gate making.number)).bytes ≡ 0 =
      ap (λ (x : File). length x.bytes) (gate_stays told_mid) ∙ ap length none in
      omega (arith, empty))

  module _ (told_new : IsTrue (tells new)) where
    told_mid : IsTrue (tells mid)
    told_mid = run.changes.before told_new

    copy_calls : (g : Tables) → IsGiven making (world old) g
        → (world new).clock + 0 ≤ (world old).clock + (229 * work_for making g + 7)
    copy_calls g given =
        let its = run.took told_new (file (world mid) s.task.from).bytes (copies_it told_mid) in
        let leads_so = leads (begun.content.before told_mid) g given in
        let few = leads_so.few in
        let saves = its.1 in
        let parts = its.2.spent in
        let calls = its.3.paid in
        let turns = anew.turns_are in
        let shown = anew.shown_is in
        let begins = (begun.content.did told_mid).few in
        let sum = calls_anew (left_of s + 1) (interval_of going.budget) its.0 s.parts.next t.parts.next
        (first_owed going.last s.parts.next) (world old).clock (world mid).clock (world new).clock long
        (omega (arith, saves, turns, shown)) owed (omega (arith, parts)) begins (omega (arith, calls)) in
        omega (arith, sum, few, left_is, few_pieces)

    copy_work : (g : Tables) → IsGiven making (world old) g → 2 ^ 32 ≤ t.parts.next → 2 ^ 35 ≤ work_for making g
    copy_work g given spent =
        let its = run.took told_new (file (world mid) s.task.from).bytes (copies_it told_mid) in
        let leads_so = leads (begun.content.before told_mid) g given in
        let few = leads_so.few in
        let saves = its.1 in
        let parts = its.2.spent in
        let turns = anew.turns_are in
        let shown = anew.shown_is in
        work_anew (left_of s + 1) (interval_of going.budget) its.0 s.parts.next t.parts.next (work_for making g) long
        (omega (arith, saves, turns, shown)) next_is (omega (arith, parts)) spent
        (omega (arith, few, left_is, few_pieces))

    module _ (g : Tables) (given : IsGivenAnew making (world old) g) where
      abbrev bytes : List ℕ
      bytes = canon_bytes making.n (table_by making g)

      source_is : IsSourceOf making.n (table_by making g) (nodes_for making g) source (world old)
      source_is = leads (begun.content.before told_mid) g given.given

      copies_table : Copies s (world mid) bytes
      copies_table = record {
        bytes_are = ap (λ f. (file (world mid) f).bytes) from_is ∙ ap (λ (x : File). x.bytes) (source_stays told_mid)
            ∙ source_is.of.bytes_are;
        copied = begun.trusts told_mid;
      }

      task_so : s.task ≡ copy_of source.from making.number bytes
      task_so =
          let all : length bytes ≡ (source.trailer.count + 1) * 24 =
          long_canonical making.n (table_by making g)
          ∙ (let count = source_is.trailer.count_is in omega (arith, count)) in
          let same : many ≡ pieces_in (length bytes) =
          pieces_are source.trailer.count many begun.enough begun.no_more ∙ ap pieces_in (sym all) in
          begun.task_is ∙ (λ i. record { from = source.from; to = node_file making.number; pieces = same i })

      within : going.turns + left_of s < work_for making g
      within =
          let few = source_is.few in
          let turns = anew.turns_are in
          omega (arith, few, turns, left_is, few_pieces)

      way : IsUnderWay copy_kind making g None bytes s (world mid)
      way = record {
        remains = copies_table;
        operands = λ f is. subst (λ x. IsFirm (file (world mid) x)) (sym (is ∙ from_is))
            (subst IsFirm (sym (source_stays told_mid))
            (operand_firm making source.from (world old) operand given.firm.first given.firm.second));
        standing = gate_stays told_mid ∙ given.none;
        sure = λ c is. absurd (cc);
      }

      copy_by : GoesOnBy copy_saving (goes_on_by making g) diagram_rests making.number
          going.sweep s.task bytes (going.turns + left_of s)
      copy_by = subst (λ k. GoesOnBy copy_saving (goes_on_by making g) diagram_rests making.number
          k s.task bytes (going.turns + left_of s)) (sym anew.sweep_is) (record {
            goes_on = λ r goes. copy_goes making.operation making.n making.operands making.number g
                (going.turns + left_of s) r source.from operand source_is.of.form
                (subst (λ x. GoesOn copy_saving making.number 0 x bytes (going.turns + left_of s) r)
                task_so goes) within;
            rests_within = λ r goes. copy_sees making.number (going.turns + left_of s) r s.task bytes goes;
            apart = laws.apart;
          })

      copy_images : Throughout (world old) (world new)
          (λ (x : Moment). AreSafe (goes_on_by making g) making.number x.folder)
      copy_images = joins (world old) (world mid) (world new)
          (λ (x : Moment). AreSafe (goes_on_by making g) making.number x.folder)
          (safe_anew making g (world old) (world mid) given.none (nodes_alone.did told_mid))
          (way_safe copy_kind making going g None bytes s (world mid) way anew.step_is copy_by (world new)
          (run.images told_new bytes copies_table (way_sure copy_kind making going g None bytes s (world mid) way
          anew.step_is) paid_so))

      -- none was shown before
      copy_stops : work_for making g < 2 ^ 61
          → StopsCost making.number 0 ((world old).clock + copy_stop) (world old) (world new)
      copy_stops work =
          let most : ℕ = (world old).clock + copy_stop in
          let begins = (begun.content.did told_mid).few in
          let few = within in
          let sure = none_shows making.number (now (world mid)).folder (gate_stays told_mid ∙ given.none) in
          let turns = anew.turns_are in
          let shown = anew.shown_is in
          let interval = interval_few going.budget in
          stops_join making.number 0 most (world old) (world mid) (world new) (run.changes.did told_new).moments.past
          (stops_anew making.number most (world old) (world mid) given.none (nodes_alone.did told_mid)
          (omega (arith, begins)))
          (stops_more making.number 0 ((world mid).clock + stop_calls accounts going s) most (world mid) (world new)
          (omega (arith, begins, owed, turns, shown, interval))
          (saved_stops making.number 0 going.shown ((world mid).clock + stop_calls accounts going s) (world mid)
          (world new) sure (omega arith)
          (subst (λ k. AreStops k going.shown ((world mid).clock + stop_calls accounts going s) (world mid) (world new))
          anew.step_is
          (run.stops told_new (subst (λ k. IsGateSure k (now (world mid)).folder) (sym anew.step_is) sure.gate) long
          paid_so.shown bytes copies_table (omega (arith, few, work))))))

      -- all of it is copied at the end
      all_made : t.task ≡ s.task → fuel_of t ≡ 0 → IsInStep t (world new) → Copies t (world new) bytes
          → IsMade making.n (table_by making g) (node_file making.number) source.trailer.count (world new)
      all_made same none step copies =
          let task : t.task ≡ record { from = source.from; to = node_file making.number; pieces = many } =
          same ∙ begun.task_is in
          let all = long_canonical making.n (table_by making g) in
          let count = source_is.trailer.count_is in
          let enough = begun.enough in
          record {
            form = source_is.of.form;
            file_is = subst (λ (x : CopyTask). file (world new) x.to ≡ firm_file (take (x.pieces * most_piece) bytes))
                task (all_copied t (world new) bytes none step copies)
                ∙ ap firm_file (take_all (many * most_piece) bytes (omega (arith, enough, all, count)));
            nodes_are = count;
          }

  no_gate : (g : Tables) → IsGivenAnew making (world old) g → HasNoGate making.number (world old)
  no_gate g given = ap (λ (x : File). x.bytes) given.none

  -- a turn or a save was refused
  pub copy_refused : (e : SortFault) → (IsErrOf {T = MadeDiagram} (Err e) RunsSpent → 2 ^ 32 ≤ t.parts.next)
      → (IsTrue (tells new) → (bytes : List ℕ) → Copies s (world mid) bytes → IsCovered going.step (world mid)
      → IsNoDamage e)
      → OnlySortShelf {T = MadeDiagram} (counts old) (counts new) (Err e)
      → MakesAnew tells world counts making 0 (λ g. 0) 7 copy_stop old new (Err e)
  copy_refused e spent undamaged faults = record {
    made = tt;
    undamaged = λ told g given. none told (no_gate g given);
    spent = λ was told g given. copy_work told g given.given (spent was);
    few_calls = λ told g given. copy_calls told g given.given;
    images = copy_images;
    damaged = λ told empty. no_damage (MissesIn making.operation making.operands) making.n making.operands (world old) e (none told empty);
    content = copy_content;
    counted = tt;
    few_anew = tt;
    untaken = tt;
    calls = tt;
    stops = copy_stops;
    faults = faults;
  }
    where
      none : IsTrue (tells new) → HasNoGate making.number (world old) → IsNoDamage e
      none told empty = undamaged told _ (copies_it (told_mid told)) (covered (told_mid told) empty)

  -- or all was copied
  pub copy_ended : (later : Going) (m : MadeDiagram) → m.nodes ≡ source.trailer.count → m.turns ≡ later.turns
      → m.next ≡ min t.parts.next (2 ^ 32) → s.parts.next ≤ t.parts.next
      → (s.parts.next ≤ 2 ^ 32 → t.parts.next ≤ 2 ^ 32)
      → (IsTrue (tells new) → StayEmpty (accounts.makes s) going.step t.parts.next (world mid) (world new))
      → 0 < later.turns → (going.shown ≤ going.turns → later.shown ≤ later.turns)
      → (later.turns < 2 ^ 64 - 1 → (saves : ℕ)
      × (interval_of going.budget * saves + going.shown ≤ later.shown)
      × TakesParts accounts (later.turns - going.turns) saves s t
      × (IsTrue (tells new) → TakesCalls accounts (later.turns - going.turns) saves
      (first_owed going.last s.parts.next) (world mid) (world new) s t))
      → (IsTrue (tells new) → (bytes : List ℕ) → Copies s (world mid) bytes
      → later.turns ≤ going.turns + left_of s + 1)
      → (IsTrue (tells new) → (bytes : List ℕ) → Copies s (world mid) bytes → Copies t (world new) bytes)
      → t.task ≡ s.task → fuel_of t ≡ 0 → (IsTrue (tells new) → IsInStep t (world new))
      → OnlySortShelf {T = MadeDiagram} (counts old) (counts new) (Ok m)
      → MakesAnew tells world counts making 0 (λ g. 0) 7 copy_stop old new (Ok m)
  copy_ended later m nodes turns_are next more within_end stay made late counted few keeps same none step faults = record {
    made = λ told g given.
        let its = few told (canon_bytes making.n (table_by making g)) (copies_table told g given) in
        let all = within told g given in
        record {
          made = subst (λ k. IsMade making.n (table_by making g) (node_file making.number) k (world new)) (sym nodes)
              (all_made told g given same none (step told)
              (keeps told (canon_bytes making.n (table_by making g)) (copies_table told g given)));
          few = omega (arith, its, all, turns_are);
        };
    undamaged = tt;
    spent = λ was. absurd (cc);
    few_calls = λ told g given. copy_calls told g given.given;
    images = copy_images;
    damaged = tt;
    content = copy_content;
    counted = (
      omega arith,
      record {
        some = omega (arith, made, turns_are);
        from = (let first = next_is in omega (arith, next, more, first));
        below = omega (arith, next);
        few = (let few = few_next in omega (arith, few));
      },
    );
    few_anew = few_next;
    untaken =
        let first = next_is in
        let most = within_end (omega (arith, first)) in
        let last : t.parts.next ≡ m.next = omega (arith, next, most) in
        λ told. subst (λ k. NoneFilled making.number k (world old) (world new)) last
        (none_on_nodes (accounts.makes s) making.number s.parts.next t.parts.next (world old) (world mid) (world new)
        (omega (arith, first)) more (λ f mine. mine ∙ to_is) (nodes_alone.did (told_mid told))
        (subst (λ k. StayEmpty (accounts.makes s) k t.parts.next (world mid) (world new)) anew.step_is (stay told)));
    calls = λ told below.
        let its = counted (omega (arith, below, turns_are)) in
        let saves = its.1 in
        let parts = its.2.spent in
        let calls = (its.3 told).paid in
        let turns = anew.turns_are in
        let shown = anew.shown_is in
        let shows = late paid_so.shown in
        let begins = (begun.content.did (told_mid told)).few in
        let sum = calls_anew later.turns (interval_of going.budget) its.0 s.parts.next t.parts.next
        (first_owed going.last s.parts.next) (world old).clock (world mid).clock (world new).clock long
        (omega (arith, saves, shown, shows)) owed (omega (arith, parts, turns)) begins (omega (arith, calls, turns)) in
        omega (arith, sum, turns_are);
    stops = copy_stops;
    faults = faults;
  }
    where
      -- few parts can have been taken for so many turns
      few_next : m.next ≤ 5 + m.turns / 16
      few_next = elim (cases_lt later.turns (2 ^ 64 - 1)) [
        | inl exact ↦
            let its = counted exact in
            let shown = few_saves (interval_of going.budget) its.0 going.shown later.shown long its.1 in
            let shows = late paid_so.shown in
            let parts = its.2.spent in
            let first = next_is in
            omega (arith, shown, shows, parts, first, next, turns_are)
        | inr above ↦ omega (arith, above, turns_are, next)
      ]
