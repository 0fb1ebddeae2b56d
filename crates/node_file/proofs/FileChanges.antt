-- How the making of one file goes on.
use Rattle.std.proofs.Common.{◌≡◌, ℕ, ◌+◌, ◌≤◌, Bool, ap, subst, arith}
use Rattle.shelf_model.specs.declared.file_no.FileNo.{FileNo}
use Rattle.shelf_model.specs.World.{World, now}
use Rattle.shelf_model.specs.Calls.{Told}
use Rattle.shelf_model.specs.Folder.{Folder, file_in}
use Rattle.shelf_model.specs.Moments.{Stays, OnlyChanged}
use Rattle.shelf_model.proofs.Changing.{changed_then}
use Rattle.shelf_model.proofs.Runs.{told, told_then, ran_weakens}
use Rattle.block_stream.specs.Reads.{Looked}
use Rattle.block_stream.specs.Writes.{DuringWrite, DuringCut, Wrote, Cut}
use Rattle.node_file.specs.Changes.{Changed}

-- a look changes no file
pub looked_changes : (m n : ℕ) (f : FileNo) (old new : World) → m ≤ n → Looked m old new → Changed n f old new
looked_changes m n f old new within looked = record {
  run = ran_weakens old new (Stays (now old)) (OnlyChanged (λ q. q ≡ f) (now old))
      (λ moment same q apart. ap (λ (folder : Folder). file_in folder q) same) looked.run;
  few = let few = looked.few in omega (arith, few, within);
}

-- a cut and a write change their own file
cut_changes : (n to : ℕ) (f : FileNo) (old new : World) → Cut n f to old new → Changed n f old new
cut_changes n to f old new cut = record {
  run = ran_weakens old new (DuringCut f to (now old)) (OnlyChanged (λ q. q ≡ f) (now old))
      (λ m during. during.others) cut.run;
  few = cut.few;
}

wrote_changes : (n : ℕ) (f : FileNo) (old new : World) → Wrote n f old new → Changed n f old new
wrote_changes n f old new wrote = record {
  run = ran_weakens old new (DuringWrite f (now old)) (OnlyChanged (λ q. q ≡ f) (now old))
      (λ m during. during.others) wrote.run;
  few = wrote.few;
}

-- one change after another
pub changed_after : (m n k : ℕ) (f : FileNo) (old mid new : World) → m + n ≤ k → Changed m f old mid → Changed n f mid new
    → Changed k f old new
changed_after m n k f old mid new within first second = record {
  run = changed_then (λ q. q ≡ f) (λ q. q ≡ f) old mid new (λ q is. is) first.run second.run;
  few = let one = first.few in let two = second.few in omega (arith, one, two, within);
}

module _ {S : Type 0} (tells : S → Bool) (world : S → World) (f : FileNo) where
  -- a write behind a change
  pub then_wrote : (m n most : ℕ) (g : FileNo) (old mid new : S) → m + n ≤ most → g ≡ f
      → Told tells old mid (Changed m f (world old) (world mid))
      → Told tells mid new (Wrote n g (world mid) (world new))
      → Told tells old new (Changed most f (world old) (world new))
  then_wrote m n most g old mid new within same first second =
      told_then tells old mid new _ _ _ first second
      (λ _ one two. changed_after m n most f (world old) (world mid) (world new) within one
      (wrote_changes n f (world mid) (world new) (subst (λ q. Wrote n q (world mid) (world new)) same two)))

  -- a file that was cut, and then written to twice
  pub cut_and_wrote : (k m most : ℕ) (g h : FileNo) (old s t u : S) → k + m + 1 ≤ most → g ≡ f → h ≡ f
      → Told tells old s (Cut 1 f 0 (world old) (world s)) → Told tells s t (Wrote k g (world s) (world t))
      → Told tells t u (Wrote m h (world t) (world u)) → Told tells old u (Changed most f (world old) (world u))
  cut_and_wrote k m most g h old s t u within first second cut one two =
      let begun = told tells old s _ _ cut (λ _ did. cut_changes 1 0 f (world old) (world s) did) in
      let enough : 1 + k ≤ k + 1 = omega arith in
      let last : k + 1 + m ≤ most = omega (arith, within) in
      then_wrote (k + 1) m most h old t u last second (then_wrote 1 k (k + 1) g old s t enough first begun one) two
