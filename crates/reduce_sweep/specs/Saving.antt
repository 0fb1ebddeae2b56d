-- What is saved of a reduction.
use Rattle.std.specs.Prelude.{◌+◌, Option, Some, None}
use Rattle.arc_file.specs.Streams.{left_of}
use Rattle.arc_file.specs.Readers.{inner_of, ends_of}
use Rattle.arc_diagrams.specs.declared.final_arc.FinalArc.{FinalArc}
use Rattle.block_stream.specs.Writes.{count_of}
use Rattle.node_file.specs.Writers as nodes
use Rattle.level_queue.specs.Queues.{last_of}
use Rattle.saved_words.specs.declared.item.Item.{Item}
use Rattle.reduce_sweep.specs.declared.reduce.ReduceSweep.{ReduceSweep}
use Rattle.reduce_sweep.specs.declared.saved.Saved.{Saved}
use Rattle.reduce_sweep.specs.Sweeps.{out_of, inner_file, ends_file, one_if_some}
use Rattle.reduce_sweep.specs.SavedPhase.{saved_phase}

abbrev pub item_at : Option FinalArc → Option (Item FinalArc)
item_at None = None
item_at (Some a) = Some (record { value = a })

-- its place, its files, how many arcs of these aren't done with, those at hand counted, and how many nodes there are
abbrev pub saved_of : ReduceSweep → Saved
saved_of s = record {
  variables = s.place.variables;
  arcs = record {
    root = s.place.arcs.root;
    inner = inner_file s;
    inner_count = left_of (inner_of s.ahead.reader) + one_if_some s.ahead.inner;
    ends = ends_file s;
    ends_count = left_of (ends_of s.ahead.reader) + one_if_some s.ahead.end;
  };
  known = s.place.known;
  out = out_of s;
  kept = count_of (nodes.filling_of s.writer);
  level = s.place.level;
  phase = saved_phase s.place.phase;
  last = item_at (last_of s.ahead.queue);
}
