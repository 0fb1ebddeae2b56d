-- What a start leaves: operands were looked at, and then the files of arcs were cut.
use Rattle.node_file.specs.Readers.{file_of}
use Rattle.std.proofs.Common.{refl, arith, ◌≡◌, ◌≢◌, ℕ, ◌≤◌, ◌∙◌, Bool, take, subst, sym, ap}
use Rattle.shelf_model.specs.declared.file_no.FileNo.{FileNo}
use Rattle.shelf_model.specs.File.{File, IsKept}
use Rattle.shelf_model.specs.Folder.{Folder, file_in}
use Rattle.shelf_model.specs.Calls.{Told}
use Rattle.shelf_model.specs.Moments.{Ran, Stays}
use Rattle.shelf_model.specs.World.{World, Moment, now, file}
use Rattle.shelf_model.proofs.Runs.{told, told_then, ran_weakens, ran_joins, ran_end}
use Rattle.block_stream.specs.Reads.{Looked}
use Rattle.arc_file.specs.Pairs.{DuringCuts, CutBoth}
use Rattle.node_file.specs.declared.reader.NodeReader.{NodeReader}
use Rattle.node_reading.specs.Reading.{IsReading}
use Rattle.node_reading.proofs.NodeReading.{still_reading}

-- while no file changes, none is cut
uncut : (inner ends : FileNo) (to until : ℕ) (old m : Moment) → Stays old m → DuringCuts inner to ends until old m
uncut inner ends to until old m same = record {
  others = λ f _ _. ap (λ (d : Folder). file_in d f) same;
  first_reads = λ n _. ap (λ (d : Folder). take n (file_in d inner).bytes) same;
  second_reads = λ n _. ap (λ (d : Folder). take n (file_in d ends).bytes) same;
  first_kept = λ front _ kept. subst (λ (d : Folder). IsKept front (file_in d inner)) (sym same)
      kept;
  second_kept = λ front _ kept. subst (λ (d : Folder). IsKept front (file_in d ends)) (sym same)
      kept;
}

-- a cut from a moment at which the folder was the same
pub cut_since : (inner ends : FileNo) (to until : ℕ) (old mid m : Moment) → Stays old mid
    → DuringCuts inner to ends until mid m → DuringCuts inner to ends until old m
cut_since inner ends to until old mid m same cut = record {
  others = λ f first second. cut.others f first second ∙ ap (λ (d : Folder). file_in d f) same;
  first_reads = λ n short. cut.first_reads n short ∙ ap (λ (d : Folder). take n (file_in d inner).bytes) same;
  second_reads = λ n short. cut.second_reads n short ∙ ap (λ (d : Folder). take n (file_in d ends).bytes) same;
  first_kept = λ front short kept. cut.first_kept front short
      (subst (λ (d : Folder). IsKept front (file_in d inner)) (sym same) kept);
  second_kept = λ front short kept. cut.second_kept front short
      (subst (λ (d : Folder). IsKept front (file_in d ends)) (sym same) kept);
}

module _ {S : Type 0} (tells : S → Bool) (world : S → World) (inner ends : FileNo) (to until : ℕ) where
  -- files were looked at
  pub only_looked : (s t : S) → Told tells s t (Ran (Stays (now (world s))) (world s) (world t))
      → Told tells s t (Ran (DuringCuts inner to ends until (now (world s))) (world s) (world t))
  only_looked s t did = told tells s t _ _ did (λ _ looked.
      ran_weakens (world s) (world t) (Stays (now (world s)))
      (DuringCuts inner to ends until (now (world s)))
      (λ m same. uncut inner ends to until (now (world s)) m same) looked)

  -- and then two were cut
  pub then_cut : (k : ℕ) (s t u : S) → Told tells s t (Ran (Stays (now (world s))) (world s) (world t))
      → Told tells t u (CutBoth k inner to ends until (world t) (world u))
      → Told tells s u (Ran (DuringCuts inner to ends until (now (world s))) (world s) (world u))
  then_cut k s t u first second = told_then tells s t u _ _ _ first second (λ _ looked cut.
      let same = ran_end (world s) (world t) (Stays (now (world s))) looked in
      ran_joins (world s) (world t) (world u) (DuringCuts inner to ends until (now (world s)))
      (ran_weakens (world s) (world t) (Stays (now (world s)))
      (DuringCuts inner to ends until (now (world s)))
      (λ m stays. uncut inner ends to until (now (world s)) m stays) looked)
      (ran_weakens (world t) (world u) (DuringCuts inner to ends until (now (world t)))
      (DuringCuts inner to ends until (now (world s)))
      (λ m during. cut_since inner ends to until (now (world s)) (now (world t)) m same during) cut.run))

-- a reader has read its file as it is
pub still_after : (n : ℕ) (r : NodeReader) (old new : World) → Looked n old new → IsReading r old
    → IsReading r new
still_after n r old new looked reading =
    still_reading r r old new refl (ap (λ (d : Folder). (file_in d (file_of r)).bytes)
    (ran_end old new (Stays (now old)) looked.run)) reading reading.reads

-- no more calls were made than more
pub looked_few : {S : Type 0} (tells : S → Bool) (world : S → World) (m n : ℕ) (s t : S) → m ≤ n
    → Told tells s t (Looked m (world s) (world t)) → Told tells s t (Looked n (world s) (world t))
looked_few tells world m n s t more did = told tells s t _ _ did
    (λ _ looked. record {
      run = looked.run;
      few = (let few = looked.few in omega (arith, few, more));
    })

-- each file but the two that were cut is as it was
pub others_uncut : {to until : ℕ} (n : ℕ) (inner ends f : FileNo) (old new : World)
    → CutBoth n inner to ends until old new → f ≢ inner → f ≢ ends
    → (file new f).bytes ≡ (file old f).bytes
others_uncut {to} {until} n inner ends f old new cut first second =
    ap (λ (x : File). x.bytes) ((ran_end old new (DuringCuts inner to ends until (now old))
    cut.run).others f first second)
