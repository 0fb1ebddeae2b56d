-- What is damaged while the bytes of the arc files stay.
use Rattle.std.proofs.Common.{◌≡◌, ℕ, ◌+◌, ◌-◌, ◌<◌, ◌∙◌, subst, sym, inl, inr, arith}
use Rattle.std.specs.Prelude.{Option, Some, None, IfSome}
use Rattle.shelf_model.specs.declared.file_no.FileNo.{FileNo}
use Rattle.shelf_model.specs.declared.sort_fault.SortFault.{SortFault}
use Rattle.shelf_model.specs.declared.sort_fault.SortFault.TheVariants.{Shelf, Damaged, RunsSpent}
use Rattle.shelf_model.specs.World.{World, file}
use Rattle.arc_file.specs.declared.arc.Arc.{Arc}
use Rattle.arc_file.specs.declared.reader.ArcReader.{ArcReader}
use Rattle.arc_file.specs.declared.kind.Kind.{Kind}
use Rattle.arc_file.specs.declared.kind.Kind.TheVariants.{Inner, End}
use Rattle.arc_file.specs.declared.stream.ArcStream.{ArcStream}
use Rattle.arc_file.specs.Files.{IsDamagedArc}
use Rattle.arc_file.specs.Streams.{file_of, left_of, given_of}
use Rattle.arc_file.specs.Readers.{inner_of, ends_of}
use Rattle.reduce_lists.specs.Held.{IsWithin}
use Rattle.reduce_lists.specs.Damage.{IsDamagedIn, IsDamageOf, IsDamagedRecord}

-- what is damaged in a file was so while its bytes were the same
damaged_before : (kind : Kind) (s : ArcStream) (old new : World) (f : FileNo) (at : ℕ)
    → (file new (file_of s)).bytes ≡ (file old (file_of s)).bytes
    → IsDamagedIn kind s new f at → IsDamagedIn kind s old f at
damaged_before kind s old new f at same d = record {
  file_is = d.file_is;
  some = d.some;
  at_is = d.at_is;
  damaged = subst (λ bytes. IsDamagedArc kind (left_of s - 1) bytes (given_of s))
      (subst (λ g. (file new g).bytes ≡ (file old g).bytes) (sym d.file_is) same) d.damaged;
}

pub damage_before : (r : ArcReader) (old new : World) (e : SortFault)
    → (file new (file_of (inner_of r))).bytes ≡ (file old (file_of (inner_of r))).bytes
    → (file new (file_of (ends_of r))).bytes ≡ (file old (file_of (ends_of r))).bytes → IsDamageOf r new e
    → IsDamageOf r old e
damage_before r old new Shelf inner ends damage = tt
damage_before r old new (Damaged f at) inner ends damage = elim damage [
  | inl d ↦ inl (damaged_before Inner (inner_of r) old new f at inner d)
  | inr d ↦ inr (damaged_before End (ends_of r) old new f at ends d)
]
damage_before r old new RunsSpent inner ends damage = tt

-- what is damaged now is a record that is damaged then, where the bytes of the file are the same
pub damaged_after : (kind : Kind) (g : FileNo) (count : ℕ) (s : ArcStream) (old new : World) (f : FileNo) (at : ℕ)
    → IsWithin g count s
    → (file new (file_of s)).bytes ≡ (file old (file_of s)).bytes → IsDamagedIn kind s old f at
    → IsDamagedRecord kind g count new f at
damaged_after kind g count s old new f at within same d = record {
  place = left_of s - 1;
  given = given_of s;
  file_is = d.file_is ∙ within.file_is;
  within = let some = d.some in let left = within.left in omega (arith, some, left);
  behind = behind (given_of s) within.given;
  at_is = d.at_is;
  damaged = subst (λ bytes. IsDamagedArc kind (left_of s - 1) bytes (given_of s))
      (sym (subst (λ g. (file new g).bytes ≡ (file old g).bytes) (sym d.file_is) same)) d.damaged;
}
  where
    behind : (given : Option Arc) → IfSome given (λ a. left_of s < count)
        → IfSome given (λ a. left_of s - 1 + 1 < count)
    behind None fewer = tt
    behind (Some a) fewer = let some = d.some in omega (arith, some, fewer)
