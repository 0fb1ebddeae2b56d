-- No more arcs are left of a file than were at first.
use Rattle.std.proofs.Common.{◌≡◌, ℕ, ◌+◌, ◌<◌, ◌∙◌, sym, ap, subst, arith}
use Rattle.std.specs.Prelude.{Option, Some, None, Ok, IfSome}
use Rattle.shelf_model.specs.declared.file_no.FileNo.{FileNo}
use Rattle.arc_file.specs.declared.arc.Arc.{Arc}
use Rattle.arc_file.specs.declared.kind.Kind.{Kind}
use Rattle.arc_file.specs.declared.kind.Kind.TheVariants.{Inner, End}
use Rattle.arc_file.specs.declared.reader.ArcReader.{ArcReader}
use Rattle.arc_file.specs.declared.stream.ArcStream.{ArcStream}
use Rattle.arc_file.specs.declared.unreduced.Unreduced.{Unreduced}
use Rattle.arc_file.specs.Streams.{file_of, left_of, given_of, GoesUp}
use Rattle.arc_file.specs.Readers.{inner_of, ends_of, left_over_of}
use Rattle.reduce_lists.specs.Held.{IsWithin, AreWithin}

-- one arc more was read of a file
pub within_read : (kind : Kind) (f : FileNo) (count : ℕ) (s t : ArcStream) (next : Option Arc) → file_of t ≡ file_of s
    → GoesUp kind s t (Ok next) → IsWithin f count s → IsWithin f count t
within_read kind f count s t None place up within = record {
  file_is = place ∙ within.file_is;
  left = omega arith;
  given = subst (λ g. IfSome g (λ a. left_of t < count)) (sym up.2)
      (subst (λ n. IfSome (given_of s) (λ a. n < count)) (up.0 ∙ sym up.1) within.given);
}
within_read kind f count s t (Some a) place up within =
    let goes : left_of s ≡ left_of t + 1 = up.2 in
    let left = within.left in
    record {
      file_is = place ∙ within.file_is;
      left = omega (arith, goes, left);
      given = subst (λ g. IfSome g (λ a. left_of t < count)) (sym up.4) (omega (arith, goes, left));
    }

pub within_read_inner : (arcs : Unreduced) (r q : ArcReader) (next : Option Arc) → ends_of q ≡ ends_of r
    → file_of (inner_of q) ≡ file_of (inner_of r)
    → GoesUp Inner (inner_of r) (inner_of q) (Ok next) → AreWithin arcs r → AreWithin arcs q
within_read_inner arcs r q next ends place up within = record {
  inner_within = within_read Inner arcs.inner arcs.inner_count (inner_of r) (inner_of q) next place up
      within.inner_within;
  ends_within = subst (IsWithin arcs.ends arcs.ends_count) (sym ends) within.ends_within;
}

pub within_read_end : (arcs : Unreduced) (r q : ArcReader) (next : Option Arc) → inner_of q ≡ inner_of r
    → file_of (ends_of q) ≡ file_of (ends_of r)
    → GoesUp End (ends_of r) (ends_of q) (Ok next) → AreWithin arcs r → AreWithin arcs q
within_read_end arcs r q next inner place up within = record {
  inner_within = subst (IsWithin arcs.inner arcs.inner_count) (sym inner) within.inner_within;
  ends_within = within_read End arcs.ends arcs.ends_count (ends_of r) (ends_of q) next place up within.ends_within;
}

-- none was read yet
pub within_at_first : (arcs : Unreduced) (r : ArcReader) → left_over_of r ≡ arcs → given_of (inner_of r) ≡ None
    → given_of (ends_of r) ≡ None → AreWithin arcs r
within_at_first arcs r left inner ends = record {
  inner_within = at_first arcs.inner arcs.inner_count (inner_of r) (ap (λ (u : Unreduced). u.inner) left)
      (ap (λ (u : Unreduced). u.inner_count) left) inner;
  ends_within = at_first arcs.ends arcs.ends_count (ends_of r) (ap (λ (u : Unreduced). u.ends) left)
      (ap (λ (u : Unreduced). u.ends_count) left) ends;
}
  where
    at_first : (f : FileNo) (count : ℕ) (s : ArcStream) → file_of s ≡ f → left_of s ≡ count → given_of s ≡ None
        → IsWithin f count s
    at_first f count s place all none = record {
      file_is = place;
      left = omega (arith, all);
      given = subst (λ g. IfSome g (λ a. left_of s < count)) (sym none) tt;
    }
