-- A piece that is read from one file and put at the end of another.
use Rattle.std.proofs.Common.{◌≡◌, ◌∙◌, ℕ, ◌+◌, ◌≤◌, ◌-◌, Bool, List, ◌++◌, length, take, drop, refl, sym, ap, subst, arith}
use Rattle.std.proofs.Math.Seq.{take-add}
use Rattle.std.proofs.lemmas.List.{length-take, length-drop, take-take, take_min, take-append-le}
use Rattle.std.specs.Prelude.{min, Result, Ok, Err, OnOk, IsTrue}
use Rattle.shelf_model.specs.declared.file_no.FileNo.{FileNo}
use Rattle.shelf_model.specs.declared.fault.Failed.{Failed}
use Rattle.shelf_model.specs.Calls.{Told, DidRead, Appended, Copied, most_piece}
use Rattle.shelf_model.specs.File.{IsKept}
use Rattle.shelf_model.specs.Folder.{file_in}
use Rattle.shelf_model.specs.World.{Moment, World, now, file}
use Rattle.shelf_model.proofs.Files.{kept_append}
use Rattle.shelf_model.proofs.Runs.{told_then, ran_call, ran_on}
use Rattle.block_stream.specs.Writes.{DuringWrite, Wrote}

put : (f g : FileNo) (at : ℕ) (before after piece : List ℕ) (read : Result ℕ Failed) (result : Result Unit Failed) (old mid new : World)
    → DidRead g at before after read old mid → Appended f piece result mid new → Wrote 2 f old new
put f g at before after piece read result old mid new looked did =
    let none : DuringWrite f (now old) (now old) = record { others = λ q other. refl; kept = λ front kept. kept } in
    record {
      run = ran_on old mid new (DuringWrite f (now old))
          (ran_call old mid (DuringWrite f (now old)) looked.shelf none (subst (DuringWrite f (now old)) (sym looked.same) none))
          did.shelf (record {
            others = λ q other. did.others q other ∙ ap (λ (m : Moment). file_in m.folder q) looked.same;
            kept = λ front kept. kept_append f piece result mid new front did
                (subst (λ (m : Moment). IsKept front (file_in m.folder f)) (sym looked.same) kept);
          });
      few =
          let first = looked.shelf.ticks.clock_is in
          let second = did.shelf.ticks.clock_is in
          omega (arith, first, second);
    }

pub piece_put : {S : Type 0} (tells : S → Bool) (world : S → World) (f g : FileNo) (at : ℕ) (before after piece : List ℕ) (read : Result ℕ Failed) (result : Result Unit Failed) (old s t : S)
    → Told tells old s (DidRead g at before after read (world old) (world s)) → Told tells s t (Appended f piece result (world s) (world t))
    → Told tells old t (Wrote 2 f (world old) (world t))
piece_put tells world f g at before after piece read result old s t looked did =
    told_then tells old s t _ _ _ looked did (λ _ one two. put f g at before after piece read result (world old) (world s) (world t) one two)

-- what was read of a piece is the piece of the file from there on
piece_is : (source before after : List ℕ) (at k : ℕ) → length before ≡ most_piece → Copied source at before after k
    → take k after ≡ take most_piece (drop at source)
piece_is source before after at k room copied =
    let rest = drop at source in
    let long : length rest ≡ length source - at = length-drop at source in
    let count : k ≡ min most_piece (length rest) =
    copied.count ∙ ap (λ n. min n (length source - at)) room ∙ ap (min most_piece) (sym long) in
    let within : k ≤ length (take k rest) =
    let cut = length-take k rest in
    omega (arith, cut, count) in
    ap (take k) copied.bytes_are ∙ take-append-le k (take k rest) (drop k before) within
    ∙ take-take k k rest (omega arith) ∙ ap (λ n. take n rest) count ∙ take_min most_piece rest

-- where it was put, it stands behind what stood in the other file
pub piece_stands : {S : Type 0} (tells : S → Bool) (world : S → World) (f g : FileNo) (at k : ℕ) (before after : List ℕ) (result : Result Unit Failed) (old s t : S)
    → length before ≡ most_piece → Told tells old s (DidRead g at before after (Ok k) (world old) (world s))
    → Told tells s t (Appended f (take k after) result (world s) (world t))
    → OnOk result (IsTrue (tells t) → (file (world t) f).bytes ≡ (file (world old) f).bytes ++ take most_piece (drop at (file (world old) g).bytes))
piece_stands tells world f g at k before after (Ok _) old s t room looked did =
    λ told.
    let read = looked.did (did.before told) in
    ap (λ x. x.bytes) (did.did told).ok
    ∙ ap (λ (m : Moment). (file_in m.folder f).bytes ++ take k after) read.same
    ∙ ap (λ piece. (file (world old) f).bytes ++ piece) (piece_is (file (world old) g).bytes before after at k room read.ok)
piece_stands tells world f g at k before after (Err _) old s t room looked did = tt

-- behind the bytes before that place, those up to the next piece's place stand
pub put_more : (source old new : List ℕ) (at next : ℕ) → next ≡ at + most_piece → old ≡ take at source
    → new ≡ old ++ take most_piece (drop at source) → new ≡ take next source
put_more source old new at next is stood put =
    put ∙ ap (λ front. front ++ take most_piece (drop at source)) stood ∙ sym (take-add at most_piece source)
    ∙ ap (λ n. take n source) (sym is)
