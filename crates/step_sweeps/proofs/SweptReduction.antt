-- The reduction of a step's arcs by a sweep, which was begun, and then run and saved, to its end or until it was refused.
use Rattle.std.proofs.Common.{◌≡◌, ◌⊎◌, ◌∙◌, ℕ, ◌+◌, ◌*◌, ◌^◌, ◌<◌, ◌≤◌, Bool, IsTrue, List, ◌++◌, refl, ap, sym, subst, inl, inr, arith}
use Rattle.std.specs.Prelude.{Option, Some, length}
use Rattle.std.proofs.lemmas.List.{length-append}
use Rattle.shelf_model.specs.declared.file_no.FileNo.{FileNo}
use Rattle.shelf_model.specs.Calls.{Told}
use Rattle.shelf_model.specs.File.{firm_file}
use Rattle.shelf_model.specs.Folder.{Image, IsImage, bytes_in}
use Rattle.shelf_model.specs.Moments.{Ran, Throughout, OnlyChanged}
use Rattle.shelf_model.specs.World.{Moment, World, now, file}
use Rattle.shelf_model.proofs.Runs.{joins, ran_weakens}
use Rattle.block_stream.specs.Writes.{DuringCut}
use Rattle.run_tiers.specs.declared.parts.Parts.{Parts}
use Rattle.run_tiers.specs.Syncs.{IsFirm}
use Rattle.step_going.specs.Standing.{AreSafe, IsStanding}
use Rattle.step_going.proofs.GoneOn.{GoesOnBy}
use Rattle.sweep_checkpoint.specs.Going.{IsAsBefore, GoesOn, AreSure}
use Rattle.sweep_checkpoint.specs.declared.going.Going.{Going}
use Rattle.resumable.specs.Diagrams.{diagram_rests}
use Rattle.resumable.proofs.Makings.{reduction_goes}
use Rattle.resumable.proofs.Resting.{reduction_sees}
use Rattle.resumable.proofs.Rests.{reductions_local}
use Rattle.canon_file.specs.Canon.{canon_nodes, canon_bytes}
use Rattle.canon_file.specs.Laws.{HasForm}
use Rattle.node_file.specs.Canonical.{IsMade}
use Rattle.arc_file.specs.declared.arc.Arc.{Arc}
use Rattle.arc_file.specs.declared.unreduced.Unreduced.{Unreduced}
use Rattle.arc_file.specs.declared.kind.Kind.TheVariants.{Inner, End}
use Rattle.arc_file.specs.Files.{HasArcs}
use Rattle.arc_diagrams.specs.Laws.{IsDiagramOf}
use Rattle.arc_diagrams.specs.Laws as diagrams
use Rattle.top_down_sweep.specs.Tasks.{AreArcFiles}
use Rattle.reduce_sweep.specs.declared.phase.Phase.{Phase}
use Rattle.reduce_sweep.specs.declared.phase.Phase.TheVariants.{Between, Collect, Number, Forward, Ended}
use Rattle.reduce_sweep.specs.declared.reduce.ReduceSweep.{ReduceSweep}
use Rattle.reduce_sweep.specs.Remaining as sweep
use Rattle.reduce_sweep.specs.Resumes.{reduce_saving, IsOperand}
use Rattle.reduce_sweep.specs.Sweeps as reduce
use Rattle.step_sweeps.specs.declared.arcs.MadeArcs.{MadeArcs}
use Rattle.step_sweeps.specs.declared.task.Making.{Making}
use Rattle.step_sweeps.specs.Given.{Tables}
use Rattle.step_sweeps.specs.Kinds.{reduce_kind}
use Rattle.step_sweeps.specs.Made.{node_file, HasArcFiles, arc_count}
use Rattle.step_sweeps.specs.Makes.{goes_on_by, table_by, work_for}
use Rattle.step_sweeps.specs.Started.{IsUnderWay}
use Rattle.step_sweeps.specs.Sweeping.{HasArcsOf, AreReducible, MayReduce}
use Rattle.step_sweeps.proofs.ArcsReduced.{safe_meanwhile, still_has}
use Rattle.step_sweeps.proofs.UnderWay.{way_sure, way_safe}

-- so few arcs to nodes and to truth values are few
few_arcs : (inner ends : List Arc) (inner_count ends_count : ℕ) → length inner ≡ inner_count
    → length ends ≡ ends_count → inner_count ≤ 2 ^ 46 → ends_count ≤ 2 ^ 46 → length (inner ++ ends) ≤ 2 ^ 47
few_arcs inner ends inner_count ends_count one other few_inner few_ends =
    omega (arith, length-append inner ends, one, other, few_inner, few_ends)

-- a table whose diagram has so few arcs has a canonical form
pub has_form : (n : ℕ) (table : List Bool) (made : Unreduced) (world : World) → diagrams.Reduces n → n ≤ 65535
    → made.inner_count ≤ 2 ^ 46 → made.ends_count ≤ 2 ^ 46 → AreArcFiles n table made world → HasForm n table
has_form n table made world reduces variables few_inner few_ends is =
    (reduces made.root (is.inner ++ is.ends) table variables
    (few_arcs is.inner is.ends made.inner_count made.ends_count is.inner_has.begin.count_is is.ends_has.begin.count_is
    few_inner few_ends) is.diagram).form

-- with no turn left the reduction has ended
ended_in : (p : Phase) (k : ℕ) (s : ReduceSweep) (world : World) (d : sweep.Diagram) → reduce.fuel_at p k ≡ 0
    → sweep.RemainsIn p s world d → sweep.IsReduced s world d
ended_in Between k s world d none remains = absurd (omega (arith, none))
ended_in (Collect source) k s world d none remains = absurd (omega (arith, none))
ended_in (Number numbered) k s world d none remains = absurd (omega (arith, none))
ended_in Forward k s world d none remains = absurd (omega (arith, none))
ended_in (Ended count) k s world d none remains = remains

the_count : (x : ℕ) (o : Option ℕ) (y : ℕ) → Some x ≡ o → o ≡ Some y → x ≡ y
the_count x o y one two = cc

-- then the node file is the canonical one
pub reduced_at_end : (n number : ℕ) (table : List Bool) (s : ReduceSweep) (world : World) (arcs : List Arc)
    (nodes : ℕ) → reduce.turns_left s ≡ 0 → reduce.out_of s ≡ node_file number → s.place.variables ≡ n
    → Some nodes ≡ reduce.count_in s → HasForm n table
    → sweep.RemainsOf s world (record { arcs = arcs; table = table }) → IsMade n table (node_file number) nodes world
reduced_at_end n number table s world arcs nodes none out variables counted form remains =
    let is = ended_in s.place.phase (reduce.arcs_weight s.ahead + reduce.lists_weight s.lists) s world
    (record { arcs = arcs; table = table }) none remains in
    record {
      form = form;
      file_is = subst (λ v. v) (λ i. file world (out i) ≡ firm_file (canon_bytes (variables i) table)) is.firm;
      nodes_are = the_count nodes (reduce.count_in s) _ counted (is.count_is
          ∙ ap (λ (k : ℕ). Some (length (canon_nodes k table))) variables);
    }

-- a start changes the node file alone
pub cut_only : (making : Making) (old new : World) → Ran (DuringCut (node_file making.number) 0 (now old)) old new
    → Ran (OnlyChanged (λ q. q ≡ node_file making.number) (now old)) old new
cut_only making old new run = ran_weakens old new (DuringCut (node_file making.number) 0 (now old))
    (OnlyChanged (λ q. q ≡ node_file making.number) (now old)) (λ x cut. cut.others) run

-- such a reduction has begun: it makes the node file of the step's arcs, which was cut
pub record HasBegun {S : Type 0} (tells : S → Bool) (world : S → World) (making : Making) (m : MadeArcs)
    (s : ReduceSweep) (old mid : S) : Type 0 where
  pub out_is : reduce.out_of s ≡ node_file making.number
  pub inner_is : reduce.inner_file s ≡ m.arcs.inner
  pub ends_are : reduce.ends_file s ≡ m.arcs.ends
  pub arcs_are : reduce.arcs_of s ≡ m.arcs
  pub variables_are : s.place.variables ≡ making.n
  pub parts_are : s.parts ≡ m.parts
  pub bound : (sources : ℕ) → arc_count m.arcs ≡ 2 * sources → reduce.turns_left s ≤ 8 * sources + 8
  pub remains : IsTrue (tells mid) → (d : sweep.Diagram) (inner ends : List Arc)
      → HasArcs Inner inner m.arcs.inner_count (file (world old) m.arcs.inner).bytes
      → HasArcs End ends m.arcs.ends_count (file (world old) m.arcs.ends).bytes
      → d.arcs ≡ inner ++ ends → IsDiagramOf making.n m.arcs.root d.arcs d.table → sweep.RemainsOf s (world mid) d
  pub content : Told tells old mid (Ran (DuringCut (node_file making.number) 0 (now (world old))) (world old) (world mid))
  pub forms : (table : List Bool) → AreArcFiles making.n table m.arcs (world old) → HasForm making.n table

module _ {S : Type 0} (tells : S → Bool) (world : S → World) (making : Making) (m : MadeArcs) (going : Going)
    (s : ReduceSweep) (old mid : S) (files : HasArcFiles making.number m.arcs) (may : MayReduce making.number going m.parts)
    (begun : HasBegun tells world making m s old mid) where
  -- its arcs, as they are to be reduced
  abbrev pub job_for : (g : Tables) → HasArcsOf making g m (world old) → sweep.Diagram
  job_for g has = record { arcs = has.arcs.inner ++ has.arcs.ends; table = table_by making g }

  -- the start changed the node file alone
  started : IsTrue (tells mid)
      → Ran (OnlyChanged (λ q. q ≡ node_file making.number) (now (world old))) (world old) (world mid)
  started told_mid = cut_only making (world old) (world mid) (begun.content.did told_mid)

  module _ (told_mid : IsTrue (tells mid)) (g : Tables) (are : AreReducible making going g 8 m (world old)) where
    mid_has : HasArcsOf making g m (world mid)
    mid_has = (still_has making m (world old) (world mid) files (started told_mid) g are.has).0

    -- so the reduction is under way
    under_way : IsUnderWay reduce_kind making g mid_has.last (job_for g are.has) s (world mid)
    under_way = record {
      remains = begun.remains told_mid (job_for g are.has) are.has.arcs.inner are.has.arcs.ends are.has.arcs.inner_has
          are.has.arcs.ends_has refl are.has.arcs.diagram;
      operands = λ f is. elim is [
        | inl at ↦ subst (λ h. IsFirm (file (world mid) h))
            (sym (at.0 ∙ ap (λ (u : Unreduced). u.inner) begun.arcs_are)) mid_has.inner_firm
        | inr at ↦ subst (λ h. IsFirm (file (world mid) h))
            (sym (at.0 ∙ ap (λ (u : Unreduced). u.ends) begun.arcs_are)) mid_has.ends_firm
      ];
      standing = subst (λ (p : Parts). IsStanding (goes_on_by making g) diagram_rests making.number
          p.next (now (world mid)).folder mid_has.last) (sym begun.parts_are) mid_has.standing;
      sure = λ c is f n on mine. absurd (mid_has.apart c is f n on (mine ∙ begun.out_is));
    }

    pub few_left : going.turns + reduce.turns_left s < work_for making g
    few_left =
        let bound = begun.bound are.has.sources are.has.has_sources in
        let few = are.few in
        omega (arith, bound, few)

    -- and where it goes on, the step does
    goes_by : GoesOnBy reduce_saving (goes_on_by making g) diagram_rests making.number 1
        (reduce.task_of s) (job_for g are.has) (going.turns + reduce.turns_left s)
    goes_by =
        let step : FileNo → ℕ = λ f. f.step in
        record {
          goes_on = λ r goes. reduction_goes making.operation making.n making.operands making.number g
              (going.turns + reduce.turns_left s) r (reduce.task_of s) (job_for g are.has) begun.out_is
              begun.variables_are (ap step (begun.inner_is ∙ files.inner_is)) (ap step (begun.ends_are ∙ files.ends_are))
              refl (begun.forms (table_by making g) are.has.arcs) goes few_left;
          rests_within = λ r goes. reduction_sees making.number (going.turns + reduce.turns_left s) r
              (reduce.task_of s) (job_for g are.has) goes;
          apart = reductions_local.apart;
        }

    -- while it is run and saved each image is safe, and so it was while it began
    pub reduced_safe : (new : World) → (AreSure (IsOperand (reduce.task_of s)) going.step (now (world mid)).folder
        → Throughout (world mid) new (λ (x : Moment). (image : Image) → IsImage x.folder image
        → IsAsBefore (reduce.accounts.makes s) going.step s.parts.next (now (world mid)).folder (bytes_in image)
        ⊎ GoesOn reduce_saving going.step 1 (reduce.task_of s) (job_for g are.has)
        (going.turns + reduce.turns_left s) (bytes_in image)))
        → Throughout (world old) new (λ (x : Moment). AreSafe (goes_on_by making g) making.number x.folder)
    reduced_safe new images = joins (world old) (world mid) new
        (λ (x : Moment). AreSafe (goes_on_by making g) making.number x.folder)
        (safe_meanwhile making m (world old) (world mid) files (started told_mid) g are.has)
        (way_safe reduce_kind making (record going { sweep = 1 }) g mid_has.last (job_for g are.has) s (world mid)
        under_way may.step_is goes_by new (images (way_sure reduce_kind making (record going { sweep = 1 }) g
        mid_has.last (job_for g are.has) s (world mid) under_way may.step_is)))
