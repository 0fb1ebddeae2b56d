-- What is read of operands at first.
use Rattle.std.proofs.Common.{◌≡◌, ℕ, ◌-◌, ◌/◌, ◌∙◌, List, length, refl, sym, subst, ap}
use Rattle.std.specs.Prelude.{None}
use Rattle.rec_words.specs.declared.node.Node.{Node}
use Rattle.shelf_model.specs.declared.file_no.FileNo.{FileNo}
use Rattle.shelf_model.specs.World.{World, file}
use Rattle.node_file.specs.declared.reader.NodeReader.{NodeReader}
use Rattle.node_file.specs.Nodes.{HasTrailer, HasNodes}
use Rattle.node_file.specs.Readers.{file_of, trailer_of, Reads, AreLeft}
use Rattle.node_reading.proofs.NodeReading.{starts_reading}
use Rattle.node_reading.proofs.Roots.{root_read}
use Rattle.tuple_asks.specs.Readings.{IsNodeFile, IsUnread}

-- a file of nodes is one while it stays
pub moved_file : (f : FileNo) (n root : ℕ) (nodes : List Node) (old new : World)
    → (file new f).bytes ≡ (file old f).bytes → IsNodeFile f old n root nodes
    → IsNodeFile f new n root nodes
moved_file f n root nodes old new same is = subst (HasNodes n root nodes) (sym same) is

-- a reader begins with all nodes of its file
pub begins_unread : (r : NodeReader) (f : FileNo) (n root : ℕ) (nodes : List Node)
    (old new : World) → file_of r ≡ f → (trailer_of r).n ≡ n
    → ((bytes : List ℕ) → Reads r bytes) → HasTrailer n (trailer_of r).root (file old f).bytes
    × ((trailer_of r).count ≡ length (file old f).bytes / 24 - 1)
    → (file new f).bytes ≡ (file old f).bytes → IsNodeFile f old n root nodes
    → AreLeft r (file old f).bytes nodes
    → IsUnread (record { file = f; reader = r; hand = None }) new root nodes
begins_unread r f n root nodes old new place variables reads has same is left = record {
  root_is = root_read n (trailer_of r).root root nodes (file old f).bytes has.0 is;
  read = record {
    hand_is = refl;
    reads = starts_reading r f n old new place variables reads has same;
    left = subst (λ b. AreLeft r b nodes)
        (sym (ap (λ g. (file new g).bytes) place ∙ same)) left;
  };
}
