-- A reduction that was just saved, where the files that it works on are as they were.
use Rattle.std.proofs.Common.{ℕ, ◌+◌, ◌<◌, ◌∙◌, refl, sym, ap, subst, arith, inl, inr}
use Rattle.std.specs.Prelude.{Option, Some, None, IsSome, length}
use Rattle.std.proofs.lemmas.Bool.{false≢true}
use Rattle.shelf_model.specs.declared.file_no.FileNo.{FileNo}
use Rattle.shelf_model.specs.World.{World}
use Rattle.canon_file.specs.Canon.{node_bytes}
use Rattle.arc_file.specs.declared.kind.Kind.TheVariants.{Inner, End}
use Rattle.arc_file.specs.Streams as streams
use Rattle.arc_file.specs.Readers.{inner_of, ends_of}
use Rattle.arc_diagrams.specs.Items.{final_arc_words, IsFinalArc, final_arc_cmp, source_row_words, IsSourceRow, source_row_cmp, name_words, IsName, name_cmp}
use Rattle.run_merge.proofs.SorterLaws.{in_step_kept, list_kept}
use Rattle.level_queue.proofs.QueueLaws.{queue_in_step_kept, queue_kept}
use Rattle.sweep_core.specs.Carries.{IsStill}
use Rattle.reduce_lists.specs.Held.{IsRun}
use Rattle.reduce_lists.specs.AtWork.{AreListed, IsAtWork}
use Rattle.reduce_lists.specs.Contents.{Contents, Holds}
use Rattle.reduce_lists.proofs.Holding.{BytesStay, writer_kept}
use Rattle.reduce_sweep.specs.declared.phase.Phase.{Phase}
use Rattle.reduce_sweep.specs.declared.phase.Phase.TheVariants.{Between, Collect, Number, Forward, Ended}
use Rattle.reduce_sweep.specs.declared.reduce.ReduceSweep.{ReduceSweep}
use Rattle.reduce_sweep.specs.Sweeps.{out_of, inner_file, ends_file, turns_left, one_if_some, IsGoing}
use Rattle.reduce_sweep.specs.Calls.{IsStepAt, IsInStep, HasListsAt, HasLists}
use Rattle.reduce_sweep.specs.Remaining.{Diagram, IsWorking, RemainsIn, RemainsOf}
use Rattle.reduce_sweep.proofs.Unhandled.{unread_kept}

-- where an arc is at hand, some aren't done with
pub some_left : {X : Type 0} (next : Option X) (n : ℕ) → IsSome next → 0 < n + one_if_some next
some_left None n some = absurd (false≢true some)
some_left (Some x) n some = omega arith

module _ (t : ReduceSweep) (old new : World) (out : BytesStay old new (out_of t))
    (inner : IsSome t.ahead.inner → BytesStay old new (inner_file t))
    (ends : IsSome t.ahead.end → BytesStay old new (ends_file t))
    (runs : (f : FileNo) → IsRun t.ahead t.lists f → BytesStay old new f) where
  -- what it knows of its files is so
  work_still : IsAtWork t.ahead t.lists t.writer old → IsAtWork t.ahead t.lists t.writer new
  work_still work = record {
    writes = ap length out ∙ work.writes;
    reads_inner = λ some. subst (λ bytes. streams.Reads Inner (inner_of t.ahead.reader) bytes) (sym (inner some))
        (work.reads_inner some);
    reads_ends = λ some. subst (λ bytes. streams.Reads End (ends_of t.ahead.reader) bytes) (sym (ends some))
        (work.reads_ends some);
    lists = record {
      queue_in_step = queue_in_step_kept t.ahead.queue old new (λ f run. runs f (inl run)) work.lists.queue_in_step;
      rows_in_step = in_step_kept t.lists.rows old new (λ f run. runs f (inr (inl run))) work.lists.rows_in_step;
      names_in_step = in_step_kept t.lists.names old new (λ f run. runs f (inr (inr run))) work.lists.names_in_step;
    };
  }

  -- its lists exist, and it holds what it held
  lists_still : AreListed t.ahead t.lists old → AreListed t.ahead t.lists new
  lists_still listed = record {
    queue_listed = (
      listed.queue_listed.0,
      queue_kept IsFinalArc final_arc_words final_arc_cmp t.ahead.queue old new listed.queue_listed.0
          (λ f run. runs f (inl run)) listed.queue_listed.1,
    );
    rows_listed = (
      listed.rows_listed.0,
      list_kept IsSourceRow source_row_words source_row_cmp t.lists.rows old new listed.rows_listed.0
          (λ f run. runs f (inr (inl run))) listed.rows_listed.1,
    );
    names_listed = (
      listed.names_listed.0,
      list_kept IsName name_words name_cmp t.lists.names old new listed.names_listed.0
          (λ f run. runs f (inr (inr run))) listed.names_listed.1,
    );
  }

  holds_still : (k : Contents) → Holds t.ahead t.lists t.writer old k → Holds t.ahead t.lists t.writer new k
  holds_still k holds = record {
    queue_is = queue_kept IsFinalArc final_arc_words final_arc_cmp t.ahead.queue old new k.queue
        (λ f run. runs f (inl run)) holds.queue_is;
    last_is = holds.last_is;
    inner_is = unread_kept Inner t.ahead.inner (inner_of t.ahead.reader) _ _ k.inner inner holds.inner_is;
    ends_is = unread_kept End t.ahead.end (ends_of t.ahead.reader) _ _ k.ends ends holds.ends_is;
    rows_is = list_kept IsSourceRow source_row_words source_row_cmp t.lists.rows old new k.rows
        (λ f run. runs f (inr (inl run))) holds.rows_is;
    names_is = list_kept IsName name_words name_cmp t.lists.names old new k.names (λ f run. runs f (inr (inr run)))
        holds.names_is;
    nodes_is = writer_kept t.writer old new (node_bytes k.nodes) out holds.nodes_is;
    nodes_many = holds.nodes_many;
  }

  step_still : (p : Phase) → IsGoing p → IsStepAt p t old → IsStepAt p t new
  step_still Between going step = work_still step
  step_still (Collect s) going step = work_still step
  step_still (Number s) going step = work_still step
  step_still Forward going step = work_still step
  step_still (Ended count) going step = absurd (going count refl)

  trust_still : (p : Phase) → HasListsAt p t old → HasListsAt p t new
  trust_still Between lists = lists_still lists
  trust_still (Collect s) lists = lists_still lists
  trust_still (Number s) lists = lists_still lists
  trust_still Forward lists = lists_still lists
  trust_still (Ended count) lists = tt

  works_still : (d : Diagram) → IsWorking t old d → IsWorking t new d
  works_still d working = record {
    contents = working.contents;
    holds = holds_still working.contents working.holds;
    left = working.left;
  }

  remains_still : (p : Phase) → IsGoing p → (d : Diagram) → RemainsIn p t old d → RemainsIn p t new d
  remains_still Between going d = works_still d
  remains_still (Collect s) going d = works_still d
  remains_still (Number s) going d = works_still d
  remains_still Forward going d = works_still d
  remains_still (Ended count) going d = absurd (going count refl)

  -- so it is still
  pub is_still : IsGoing t.place.phase → IsStill (IsInStep t) (HasLists t) (RemainsOf t) (λ w d. turns_left t) old new
  is_still going = record {
    steps = step_still t.place.phase going;
    trusted = trust_still t.place.phase;
    keeps = λ d. remains_still t.place.phase going d;
    fewer = λ d remains. omega arith;
  }
