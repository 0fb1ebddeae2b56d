-- The trailer of a file: which records it is read from.
use Rattle.std.proofs.Common.{◌≡◌, ℕ, ◌+◌, ◌-◌, ◌*◌, ◌/◌, ◌<◌, ◌≤◌, min, Bool, List, length, get_or, refl, sym, ap, subst, ◌∙◌, arith}
use Rattle.std.specs.Prelude.{Result}
use Rattle.rec_words.specs.declared.rec.Rec.{Rec}
use Rattle.shelf_model.specs.declared.file_no.FileNo.{FileNo}
use Rattle.shelf_model.specs.declared.fault.Failed.{Failed}
use Rattle.shelf_model.specs.World.{World, now}
use Rattle.shelf_model.specs.Calls.{Told, Measured}
use Rattle.shelf_model.specs.Moments.{Stays}
use Rattle.shelf_model.proofs.Runs.{told, ran_call}
use Rattle.block_stream.specs.Records.{record_at}
use Rattle.block_stream.specs.Reads.{Looked, DidLoad}
use Rattle.block_stream.proofs.ReadLaws.{held_record}
use Rattle.block_stream.proofs.WriteRuns.{looked_on}
use Rattle.node_file.specs.Nodes.{IsTrailer, HasTrailer}

-- a read after the length was asked for
pub measured_then : {S : Type 0} (tells : S → Bool) (world : S → World) (f : FileNo) (result : Result ℕ Failed) (old s t : S)
    → Told tells old s (Measured f result (world old) (world s)) → Told tells s t (Looked 1 (world s) (world t)) → Told tells old t (Looked 2 (world old) (world t))
measured_then tells world f result old s t call look =
    looked_on tells world 1 1 old s t (told tells old s _ _ call (λ _ did. record {
      run = ran_call (world old) (world s) (Stays (now (world old))) did.shelf refl (ap (λ m. m.folder) did.same);
      few = let ticks : (world s).clock ≡ (world old).clock + 1 = did.shelf.ticks.clock_is in omega arith;
    })) look

-- the last record that was read is the last of the file
last_read : (len wanted loaded : ℕ) (window : List Rec) (bytes : List ℕ) (d : Rec) → len ≡ length bytes → 0 < len / 24 → wanted ≡ min (len / 24) 2 → wanted ≤ loaded
    → DidLoad 3 (len / 24 - wanted) wanted loaded window bytes → get_or window (wanted - 1) d ≡ record_at 3 (length bytes / 24 - 1) bytes
last_read len wanted loaded window bytes d len_is some wanted_is all did =
    let here : len / 24 - wanted + (wanted - 1) ≡ len / 24 - 1 = omega arith in
    held_record 3 (len / 24 - wanted) loaded (wanted - 1) window bytes d did.held (omega arith) ∙ (λ t. record_at 3 (here t) bytes) ∙ (λ t. record_at 3 (len_is t / 24 - 1) bytes)

-- and the first is the one before it, where there is one
first_read : (len wanted loaded : ℕ) (window : List Rec) (bytes : List ℕ) (d : Rec) → len ≡ length bytes → 0 < len / 24 → wanted ≡ min (len / 24) 2 → wanted ≤ loaded
    → DidLoad 3 (len / 24 - wanted) wanted loaded window bytes → get_or window 0 d ≡ record_at 3 (length bytes / 24 - 2) bytes
first_read len wanted loaded window bytes d len_is some wanted_is all did =
    let here : len / 24 - wanted + 0 ≡ len / 24 - 2 = omega arith in
    held_record 3 (len / 24 - wanted) loaded 0 window bytes d did.held (omega arith) ∙ (λ t. record_at 3 (here t) bytes) ∙ (λ t. record_at 3 (len_is t / 24 - 2) bytes)

pub trailer_read : (n root len wanted loaded : ℕ) (window : List Rec) (bytes : List ℕ) (d e : Rec) → len ≡ length bytes → 0 < len / 24 → len / 24 * 24 ≡ len → wanted ≡ min (len / 24) 2
    → wanted ≤ loaded → DidLoad 3 (len / 24 - wanted) wanted loaded window bytes → IsTrailer n (len / 24 - 1) root (get_or window (wanted - 1) d) (get_or window 0 e) → HasTrailer n root bytes
trailer_read n root len wanted loaded window bytes d e len_is some whole wanted_is all did trailer = record {
  long = omega arith;
  whole = subst (λ k. k / 24 * 24 ≡ k) len_is whole;
  trailer = subst (λ r. IsTrailer n (length bytes / 24 - 1) root (record_at 3 (length bytes / 24 - 1) bytes) r) (first_read len wanted loaded window bytes e len_is some wanted_is all did)
      (subst (λ r. IsTrailer n (length bytes / 24 - 1) root r (get_or window 0 e)) (last_read len wanted loaded window bytes d len_is some wanted_is all did)
      (subst (λ k. IsTrailer n (k / 24 - 1) root (get_or window (wanted - 1) d) (get_or window 0 e)) len_is trailer));
}

pub no_trailer : (n len wanted loaded : ℕ) (window : List Rec) (bytes : List ℕ) (d e : Rec) → len ≡ length bytes → 0 < len / 24 → wanted ≡ min (len / 24) 2
    → wanted ≤ loaded → DidLoad 3 (len / 24 - wanted) wanted loaded window bytes → ((root : ℕ) → ¬ IsTrailer n (len / 24 - 1) root (get_or window (wanted - 1) d) (get_or window 0 e))
    → (root : ℕ) → ¬ HasTrailer n root bytes
no_trailer n len wanted loaded window bytes d e len_is some wanted_is all did none root has =
    none root (subst (λ r. IsTrailer n (len / 24 - 1) root (get_or window (wanted - 1) d) r) (sym (first_read len wanted loaded window bytes e len_is some wanted_is all did))
    (subst (λ r. IsTrailer n (len / 24 - 1) root r (record_at 3 (length bytes / 24 - 2) bytes)) (sym (last_read len wanted loaded window bytes d len_is some wanted_is all did))
    (subst (λ k. IsTrailer n (k / 24 - 1) root (record_at 3 (length bytes / 24 - 1) bytes) (record_at 3 (length bytes / 24 - 2) bytes)) (sym len_is) has.trailer)))
