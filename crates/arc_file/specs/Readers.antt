-- What is seen of a reader of arc files.
use Rattle.std.specs.Prelude.{ℕ}
use Rattle.arc_file.specs.declared.stream.ArcStream.{ArcStream}
use Rattle.arc_file.specs.declared.reader.ArcReader.{ArcReader}
use Rattle.arc_file.specs.declared.unreduced.Unreduced.{Unreduced}
use Rattle.arc_file.specs.Streams.{file_of, left_of}

-- the diagram's root
abbrev pub root_of : ArcReader → ℕ
root_of r = r.root

-- the reading of the arcs to nodes
abbrev pub inner_of : ArcReader → ArcStream
inner_of r = r.inner

-- that of the arcs to truth values
abbrev pub ends_of : ArcReader → ArcStream
ends_of r = r.ends

-- what is not yet read
abbrev pub left_over_of : ArcReader → Unreduced
left_over_of r = record {
  root = r.root;
  inner = file_of r.inner;
  inner_count = left_of r.inner;
  ends = file_of r.ends;
  ends_count = left_of r.ends;
}
