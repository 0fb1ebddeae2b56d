-- How many arcs aren't done with.
use Rattle.std.proofs.Common.{◌≡◌, ◌+◌, ◌≤◌, ap, sym, subst, arith}
use Rattle.std.specs.Prelude.{◌^◌, Option, Some, None, Ok}
use Rattle.arc_file.specs.declared.arc.Arc.{Arc}
use Rattle.arc_file.specs.declared.kind.Kind.{Kind}
use Rattle.arc_file.specs.declared.kind.Kind.TheVariants.{Inner, End}
use Rattle.arc_file.specs.declared.reader.ArcReader.{ArcReader}
use Rattle.arc_file.specs.declared.stream.ArcStream.{ArcStream}
use Rattle.arc_file.specs.declared.unreduced.Unreduced.{Unreduced}
use Rattle.arc_file.specs.Streams.{left_of, GoesUp}
use Rattle.arc_file.specs.Readers.{inner_of, ends_of, left_over_of}
use Rattle.reduce_sweep.specs.Sweeps.{one_if_some, AreFew}

-- an arc that is read is at hand from then on
pub read_on : (kind : Kind) (s t : ArcStream) (next : Option Arc) → GoesUp kind s t (Ok next)
    → left_of t + one_if_some next ≡ left_of s
read_on kind s t None up = let none = up.0 in let left = up.1 in omega (arith, none, left)
read_on kind s t (Some a) up = let goes = up.2 in omega (arith, goes)

-- so no more aren't done with
pub few_read_inner : (arcs : Unreduced) (r q : ArcReader) (inner end next : Option Arc) → ends_of q ≡ ends_of r
    → GoesUp Inner (inner_of r) (inner_of q) (Ok next) → AreFew arcs r inner end → AreFew arcs q next end
few_read_inner arcs r q inner end next same up few =
    let left = read_on Inner (inner_of r) (inner_of q) next up in
    let before = few.inner_few in
    record {
      inner_few = omega (arith, left, before);
      ends_few = subst (λ s. left_of s + one_if_some end ≤ arcs.ends_count) (sym same) few.ends_few;
      inner_most = few.inner_most;
      ends_most = few.ends_most;
    }

pub few_read_end : (arcs : Unreduced) (r q : ArcReader) (inner end next : Option Arc) → inner_of q ≡ inner_of r
    → GoesUp End (ends_of r) (ends_of q) (Ok next) → AreFew arcs r inner end → AreFew arcs q inner next
few_read_end arcs r q inner end next same up few =
    let left = read_on End (ends_of r) (ends_of q) next up in
    let before = few.ends_few in
    record {
      inner_few = subst (λ s. left_of s + one_if_some inner ≤ arcs.inner_count) (sym same) few.inner_few;
      ends_few = omega (arith, left, before);
      inner_most = few.inner_most;
      ends_most = few.ends_most;
    }

-- at first none is at hand
pub few_at_first : (arcs : Unreduced) (r : ArcReader) → left_over_of r ≡ arcs → arcs.inner_count ≤ 2 ^ 46
    → arcs.ends_count ≤ 2 ^ 46 → AreFew arcs r None None
few_at_first arcs r left inner ends =
    let inner_is : left_of (inner_of r) ≡ arcs.inner_count = ap (λ (u : Unreduced). u.inner_count) left in
    let ends_is : left_of (ends_of r) ≡ arcs.ends_count = ap (λ (u : Unreduced). u.ends_count) left in
    record {
      inner_few = omega (arith, inner_is);
      ends_few = omega (arith, ends_is);
      inner_most = inner;
      ends_most = ends;
    }
