-- Pointers that are of a deeper level than their piece.
use Rattle.std.specs.Prelude.{◌≡◌, ℕ, suc, ◌+◌, ◌<◌, Bool, List}
use Rattle.std.proofs.Common.{sym, ◌∙◌}
use Rattle.bool_tables.specs.Tables.{half_where}
use Rattle.rec_words.specs.Words.{level_of}
use Rattle.list_laws.specs.Members.{Has}
use Rattle.canon_file.specs.Pieces.{pieces}
use Rattle.canon_file.specs.Laws.{HasForm}
use Rattle.top_down.specs.Tuples.{canon_targets}
use Rattle.top_down.proofs.TupleLaws.{onward-past}
use Rattle.met_tuples.proofs.PointerLaws.{piece_pointer, piece_onward}

-- such a pointer is that of each half too
pub half_kept : (n : ℕ) (t : List Bool) → HasForm n t → (i h : ℕ) (side : Bool) (p : List Bool) → i + suc h ≡ n
    → Has p (pieces i (suc h) t) → i < level_of (piece_pointer t i (suc h) p)
    → piece_pointer t i (suc h) p ≡ piece_pointer t (suc i) h (half_where h side p)
half_kept n t form i h side p end member past =
    sym (onward-past (canon_targets n t) i (piece_pointer t i (suc h) p) side past)
    ∙ piece_onward n t form i h side p end member
