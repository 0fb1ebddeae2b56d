-- The end of a reduction.
use Rattle.std.proofs.Common.{◌≡◌, ℕ, ap, sym, subst, ◌∙◌, ◌++◌}
use Rattle.std.specs.Prelude.{[], Some, false, length}
use Rattle.std.specs.Option.{unwrap_or}
use Rattle.rec_words.specs.Words.{terminal}
use Rattle.shelf_model.specs.File.{firm_file}
use Rattle.shelf_model.specs.World.{World, file}
use Rattle.block_stream.specs.declared.filling.Filling.{Filling}
use Rattle.block_stream.specs.Writes.{count_of}
use Rattle.node_file.specs.declared.writer.NodeWriter.{NodeWriter}
use Rattle.node_file.specs.Writers as writers
use Rattle.canon_file.specs.Canon.{node_bytes, trailer_bytes, canon_nodes, canon_root, canon_bytes}
use Rattle.canon_file.proofs.CanonLaws.{canon_bytes-is}
use Rattle.arc_diagrams.specs.Reducing.{Remains}
use Rattle.arc_diagrams.proofs.Remaining.{nothing_left}
use Rattle.reduce_lists.specs.Contents.{Contents, Holds, to_collect}
use Rattle.reduce_sweep.specs.declared.phase.Phase.TheVariants.{Between, Ended}
use Rattle.reduce_sweep.specs.declared.reduce.ReduceSweep.{ReduceSweep}
use Rattle.reduce_sweep.specs.Sweeps.{out_of}
use Rattle.reduce_sweep.specs.Remaining.{Diagram, IsLeft, RemainsAt, IsBetween, IsReduced}

-- where no arc is to be collected, what the writer holds with a trailer is the canonical file
pub file_ended : (s : ReduceSweep) (w : NodeWriter) (count : ℕ) (old new : World) (d : Diagram) (k : Contents) → s.place.phase ≡ Between → s.writer.n ≡ s.place.variables
    → Holds s.ahead s.lists s.writer old k → IsLeft s.place d k → to_collect k ≡ [] → writers.filling_of w ≡ writers.filling_of s.writer
    → count ≡ count_of (writers.filling_of s.writer)
    → file new (out_of s) ≡ firm_file (writers.written_of s.writer old ++ trailer_bytes s.place.known (count_of (writers.filling_of s.writer)) s.writer.n)
    → IsReduced (record s { place = record s.place { phase = Ended count }; writer = w }) new d
file_ended s w count old new d k phase variables holds left none same counted firm =
    let p = s.place in
    let n = p.variables in
    let between : IsBetween n p.arcs.root p.level p.known d k = subst (λ f. RemainsAt f n p.arcs.root p.level p.known d k) phase left.remains in
    let (_, nodes, known) = nothing_left n p.arcs.root p.level d.arcs k.inner k.nodes (Some p.known) d.table between.within left.is_of.few left.is_of.few_arcs left.is_of.diagram
    (subst (λ q. Remains n p.arcs.root p.level d.arcs q k.inner k.nodes (Some p.known)) none between.remains) in
    let many : count_of (writers.filling_of s.writer) ≡ length (canon_nodes n d.table) = sym holds.nodes_many ∙ ap length nodes in
    let root_is : p.known ≡ canon_root n d.table = ap (λ o. unwrap_or o (terminal false)) known in
    let bytes : writers.written_of s.writer old ++ trailer_bytes p.known (count_of (writers.filling_of s.writer)) s.writer.n ≡ canon_bytes n d.table =
    (λ j. (holds.nodes_is.bytes_are ∙ ap node_bytes nodes) j ++ trailer_bytes (root_is j) (many j) (variables j)) ∙ sym (canon_bytes-is n d.table) in
    record {
      firm = ap (λ (f : Filling). file new f.file) same ∙ firm ∙ ap firm_file bytes;
      count_is = ap Some (counted ∙ many);
    }
