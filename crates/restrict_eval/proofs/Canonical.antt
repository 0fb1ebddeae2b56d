-- How a reader goes through the canonical file of a table.
use Rattle.std.proofs.Common.{◌≡◌, ℕ, ◌∙◌, Bool, List, [], ◌∷◌, ◌++◌, length, sym, subst, ap, append_assoc}
use Rattle.std.specs.Prelude.{Ok, Some, None}
use Rattle.std.proofs.lemmas.List.{append-nil}
use Rattle.rec_words.specs.declared.node.Node.{Node}
use Rattle.shelf_model.specs.declared.file_no.FileNo.{FileNo}
use Rattle.shelf_model.specs.World.{World, file}
use Rattle.canon_file.specs.Canon.{canon_nodes, canon_root, canon_bytes}
use Rattle.canon_file.specs.Laws.{HasForm}
use Rattle.node_file.specs.declared.reader.NodeReader.{NodeReader}
use Rattle.node_file.specs.Nodes.{HasTrailer, HasNodes}
use Rattle.node_file.specs.Readers.{file_of, trailer_of, AreLeft}
use Rattle.node_reading.specs.Reading.{bytes_of, GivesOf}
use Rattle.restrict_eval.specs.Canonical.{IsCanonical, AreLeftBut}
use Rattle.restrict_eval.proofs.Starting.{canonical_trailer}

-- a file that is canonical stays so
pub canonical_stays : (n : ℕ) (t : List Bool) (old new : NodeReader) (before after : World) → trailer_of new ≡ trailer_of old → bytes_of new after ≡ bytes_of old before
    → IsCanonical n t old before → IsCanonical n t new after
canonical_stays n t old new before after trailer same is = record { form = is.form; bytes_are = same ∙ is.bytes_are; trailer_is = trailer ∙ is.trailer_is }

pub but_stays : (r : NodeReader) (now then : List ℕ) (nodes given : List Node) → then ≡ now → AreLeftBut r now nodes given → AreLeftBut r then nodes given
but_stays r now then nodes given same but = record { rest = but.rest; nodes_are = but.nodes_are; left = subst (λ bytes. AreLeft r bytes but.rest) (sym same) but.left }

-- a reader of a canonical file has its trailer, and all nodes are left
pub begins_canonical : (n : ℕ) (t : List Bool) (r : NodeReader) (f : FileNo) (old new : World) → HasForm n t → (file old f).bytes ≡ canon_bytes n t
    → HasNodes n (canon_root n t) (canon_nodes n t) (canon_bytes n t) → file_of r ≡ f → (trailer_of r).n ≡ n → HasTrailer n (trailer_of r).root (file old f).bytes
    → (trailer_of r).count ≡ length (canon_nodes n t) → (file new f).bytes ≡ (file old f).bytes → IsCanonical n t r new
begins_canonical n t r f old new form is nodes place variables has count same = record {
  form = form;
  bytes_are = ap (λ g. (file new g).bytes) place ∙ same ∙ is;
  trailer_is = canonical_trailer n t r (canon_bytes n t) form nodes variables (subst (HasTrailer n (trailer_of r).root) is has) count;
}

pub begins_left : (nodes : List Node) (r : NodeReader) (f : FileNo) (old new : World) → file_of r ≡ f → AreLeft r (file old f).bytes nodes → (file new f).bytes ≡ (file old f).bytes
    → AreLeftBut r (bytes_of r new) nodes []
begins_left nodes r f old new place left same = record {
  rest = nodes;
  nodes_are = sym (append-nil nodes);
  left = subst (λ bytes. AreLeft r bytes nodes) (sym (ap (λ g. (file new g).bytes) place ∙ same)) left;
}

-- one node more was given
pub one_more : (old new : NodeReader) (now then : List ℕ) (nodes given : List Node) (x : Node) → then ≡ now
    → ((xs : List Node) → AreLeft old now xs → GivesOf new now xs (Ok (Some x))) → AreLeftBut old now nodes given → AreLeftBut new then nodes (x ∷ given)
one_more old new now then nodes given x same gives but =
    let g = gives but.rest but.left in
    record {
      rest = g.0;
      nodes_are = but.nodes_are ∙ ap (λ xs. xs ++ given) g.1 ∙ append_assoc g.0 (x ∷ []) given;
      left = subst (λ bytes. AreLeft new bytes g.0) (sym same) g.2;
    }

-- none was left
pub none_left : (old new : NodeReader) (bytes : List ℕ) (nodes given : List Node) → ((xs : List Node) → AreLeft old bytes xs → GivesOf new bytes xs (Ok None))
    → AreLeftBut old bytes nodes given → nodes ≡ given
none_left old new bytes nodes given gives but = but.nodes_are ∙ ap (λ xs. xs ++ given) (gives but.rest but.left)
