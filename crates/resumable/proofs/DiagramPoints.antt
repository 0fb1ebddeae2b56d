-- A step that makes a diagram goes on from its last gated checkpoint, by that and by what it rests on alone; and the
-- checkpoint says in which way.
use Rattle.std.specs.Prelude.{◌≡◌, ℕ, ◌<◌, Bool, List}
use Rattle.std.proofs.Common.{subst, inl, inr, arith}
use Rattle.shelf_model.specs.declared.file_no.FileNo.{FileNo}
use Rattle.canon_file.specs.Canon.{canon_bytes}
use Rattle.step_going.specs.Standing.{IsLastOf, IsLocal, IsFromLast}
use Rattle.sweep_core.specs.declared.checkpoint.Checkpoint.{Checkpoint}
use Rattle.copy_sweep.specs.Resumes.{copy_saving}
use Rattle.top_down_sweep.specs.declared.beginning.OperandFiles.{OperandFiles}
use Rattle.sweep_operations.specs.declared.steps.StepOperation.{StepOperation}
use Rattle.table_work.specs.Given.{Tables}
use Rattle.table_work.specs.Tables.{work_of}
use Rattle.reduce_sweep.specs.Resumes.{reduce_saving}
use Rattle.resumable.specs.Diagrams.{made_by, work_by, arcs_saving, arcs_of, copy_of, CopyGoesOn, ArcsGoOn}
use Rattle.resumable.specs.Diagrams.{ReductionGoesOn, DiagramGoesOn, diagram_rests}
use Rattle.resumable.specs.Points.{CopiesFrom, ArcsFrom, ReducesFrom, DiagramFrom}
use Rattle.resumable.proofs.Continuing.{goes_last, goes_apart, goes_still, goes_from}
use Rattle.resumable.proofs.OnePoint.{one_last}
use Rattle.resumable.proofs.Rests.{copies_local, arcs_local, reductions_local}

module _ (operation : StepOperation) (n : ℕ) (operands : OperandFiles) (number : ℕ) (g : Tables) where
  abbrev Copy : (FileNo → List ℕ) → Type 0
  Copy r = CopyGoesOn operation n operands number g r

  abbrev Arcs : (FileNo → List ℕ) → Type 0
  Arcs r = ArcsGoOn operation n operands number g r

  -- the copy of an operand
  copy_local : IsLocal Copy diagram_rests number
  copy_local c old new is last same q =
      let bytes = canon_bytes n (made_by operation n g) in
      record {
        from = q.from;
        operand = q.operand;
        form = q.form;
        turns = q.turns;
        goes_on = goes_still copy_saving 0 diagram_rests copies_local number (copy_of q.from number bytes) bytes
            q.turns c old new is last same q.goes_on;
        few = q.few;
      }

  copy_last : IsFromLast Copy diagram_rests number
  copy_last r q =
      let bytes = canon_bytes n (made_by operation n g) in
      let task = copy_of q.from number bytes in (
        q.goes_on.point,
        goes_last copy_saving 0 diagram_rests copies_local number task bytes q.turns r q.goes_on,
        goes_apart copy_saving 0 diagram_rests copies_local number task bytes q.turns r q.goes_on,
      )

  copy_from : (r : FileNo → List ℕ) (q : Copy r) → CopiesFrom operation n operands number g r q.goes_on.point
  copy_from r q =
      let bytes = canon_bytes n (made_by operation n g) in
      let within = q.goes_on.few in
      let few = q.few in
      record {
        from = q.from;
        operand = q.operand;
        form = q.form;
        goes = goes_from copy_saving number 0 (copy_of q.from number bytes) bytes q.turns r q.goes_on;
        few = omega (arith, within, few);
      }

  -- the arcs of the operation
  arcs_are_local : IsLocal Arcs diagram_rests number
  arcs_are_local c old new is last same q = record {
    turns = q.turns;
    goes_on = goes_still arcs_saving 0 diagram_rests arcs_local number (arcs_of n operands number)
        (work_of operation n g) q.turns c old new is last same q.goes_on;
    few = q.few;
  }

  arcs_last : IsFromLast Arcs diagram_rests number
  arcs_last r q =
      let task = arcs_of n operands number in
      let work = work_of operation n g in (
        q.goes_on.point,
        goes_last arcs_saving 0 diagram_rests arcs_local number task work q.turns r q.goes_on,
        goes_apart arcs_saving 0 diagram_rests arcs_local number task work q.turns r q.goes_on,
      )

  arcs_from : (r : FileNo → List ℕ) (q : Arcs r) → ArcsFrom operation n operands number g r q.goes_on.point
  arcs_from r q =
      let within = q.goes_on.few in
      let few = q.few in
      record {
        goes = goes_from arcs_saving number 0 (arcs_of n operands number) (work_of operation n g) q.turns r
            q.goes_on;
        few = omega (arith, within, few);
      }

-- the reduction of its arcs
module _ (n number : ℕ) (table : List Bool) (work : ℕ) where
  abbrev Reduction : (FileNo → List ℕ) → Type 0
  Reduction r = ReductionGoesOn n number table work r

  reduction_local : IsLocal Reduction diagram_rests number
  reduction_local c old new is last same q = record {
    task = q.task;
    inner_own = q.inner_own;
    ends_own = q.ends_own;
    diagram = q.diagram;
    table_is = q.table_is;
    form = q.form;
    turns = q.turns;
    goes_on = goes_still reduce_saving 1 diagram_rests reductions_local number q.task q.diagram q.turns c old new
        is last same q.goes_on;
    makes = q.makes;
    few = q.few;
  }

  reduction_last : IsFromLast Reduction diagram_rests number
  reduction_last r q = (
    q.goes_on.point,
    goes_last reduce_saving 1 diagram_rests reductions_local number q.task q.diagram q.turns r q.goes_on,
    goes_apart reduce_saving 1 diagram_rests reductions_local number q.task q.diagram q.turns r q.goes_on,
  )

  reduction_from : (r : FileNo → List ℕ) (q : Reduction r) → ReducesFrom n number table work r q.goes_on.point
  reduction_from r q =
      let within = q.goes_on.few in
      let few = q.few in
      record {
        task = q.task;
        inner_own = q.inner_own;
        ends_own = q.ends_own;
        diagram = q.diagram;
        table_is = q.table_is;
        form = q.form;
        goes = goes_from reduce_saving number 1 q.task q.diagram q.turns r q.goes_on;
        makes = q.makes;
        few = omega (arith, within, few);
      }

module _ (operation : StepOperation) (n : ℕ) (operands : OperandFiles) (number : ℕ) (g : Tables) where
  abbrev Going : (FileNo → List ℕ) → Type 0
  Going r = DiagramGoesOn operation n operands number g r

  abbrev From : (FileNo → List ℕ) → Checkpoint → Type 0
  From r c = DiagramFrom operation n operands number g r c

  -- whether it goes on depends on the last gated checkpoint and on what that rests on alone
  pub diagram_local : IsLocal Going diagram_rests number
  diagram_local c old new is last same (inl q) =
      inl (copy_local operation n operands number g c old new is last same q)
  diagram_local c old new is last same (inr (inl q)) =
      inr (inl (arcs_are_local operation n operands number g c old new is last same q))
  diagram_local c old new is last same (inr (inr q)) =
      inr (inr (reduction_local n number (made_by operation n g) (work_by operation n g) c old new is last same
      q))

  -- which rests on no file that a sweep of the step takes
  pub diagram_last : IsFromLast Going diagram_rests number
  diagram_last r (inl q) = copy_last operation n operands number g r q
  diagram_last r (inr (inl q)) = arcs_last operation n operands number g r q
  diagram_last r (inr (inr q)) = reduction_last n number (made_by operation n g) (work_by operation n g) r q

  module _ (r : FileNo → List ℕ) (c : Checkpoint) (is : IsLastOf number r c) where
    to_last : (p : Checkpoint) → IsLastOf number r p → (P : Checkpoint → Type 0) → P p → P c
    to_last p other P = subst P (one_last number r p c other is)

    -- the last checkpoint is that of one of its ways
    pub diagram_from : Going r → From r c
    diagram_from (inl q) =
        let from = copy_from operation n operands number g r q in
        to_last q.goes_on.point from.goes.last (From r) (inl from)
    diagram_from (inr (inl q)) =
        let from = arcs_from operation n operands number g r q in
        to_last q.goes_on.point from.goes.last (From r) (inr (inl from))
    diagram_from (inr (inr q)) =
        let from = reduction_from n number (made_by operation n g) (work_by operation n g) r q in
        to_last q.goes_on.point from.goes.last (From r) (inr (inr from))

    is_reduction : c.sweep ≡ 1 → From r c
        → ReducesFrom n number (made_by operation n g) (work_by operation n g) r c
    is_reduction second (inl from) = let first = from.goes.sweep_is in absurd (omega (arith, first, second))
    is_reduction second (inr (inl from)) = let first = from.goes.sweep_is in absurd (omega (arith, first, second))
    is_reduction second (inr (inr from)) = from

    is_copy : c.sweep ≡ 0 → c.tables ≡ 0 → From r c → CopiesFrom operation n operands number g r c
    is_copy first none (inl from) = from
    is_copy first none (inr (inl from)) =
        let three = from.goes.fits.queue.tables in absurd (omega (arith, none, three))
    is_copy first none (inr (inr from)) = let second = from.goes.sweep_is in absurd (omega (arith, first, second))

    are_arcs : c.sweep ≡ 0 → 0 < c.tables → From r c → ArcsFrom operation n operands number g r c
    are_arcs first some (inl from) = let none = from.goes.fits.tables in absurd (omega (arith, none, some))
    are_arcs first some (inr (inl from)) = from
    are_arcs first some (inr (inr from)) = let second = from.goes.sweep_is in absurd (omega (arith, first, second))

    -- of which, its sweep and its tables say: of the second sweep it is a reduction's
    pub reduces_from : c.sweep ≡ 1 → Going r
        → ReducesFrom n number (made_by operation n g) (work_by operation n g) r c
    reduces_from second q = is_reduction second (diagram_from q)

    -- of the first sweep and without tables, a copy's
    pub copies_from : c.sweep ≡ 0 → c.tables ≡ 0 → Going r → CopiesFrom operation n operands number g r c
    copies_from first none q = is_copy first none (diagram_from q)

    -- and with some, one of the sweep that makes arcs
    pub makes_arcs_from : c.sweep ≡ 0 → 0 < c.tables → Going r → ArcsFrom operation n operands number g r c
    makes_arcs_from first some q = are_arcs first some (diagram_from q)
