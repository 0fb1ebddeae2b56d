-- Writing to one of two files, and to both.
use Rattle.std.proofs.Common.{◌≡◌, ◌≢◌, ℕ, ◌+◌, ◌≤◌, Bool, take, sym, ap, subst, ◌∙◌, arith}
use Rattle.shelf_model.specs.declared.file_no.FileNo.{FileNo}
use Rattle.shelf_model.specs.File.{File, IsKept}
use Rattle.shelf_model.specs.World.{Moment, World, now, file}
use Rattle.shelf_model.specs.Calls.{Told}
use Rattle.shelf_model.proofs.Runs.{told_then, ran_joins, ran_end, ran_weakens}
use Rattle.block_stream.specs.Writes.{DuringWrite, DuringCut, Wrote, Cut}
use Rattle.arc_file.specs.Pairs.{DuringWrites, DuringCuts, WroteBoth, CutBoth}

-- a file that wasn't written to, or cut, is as it was
pub wrote_leaves : (n : ℕ) (f q : FileNo) (old new : World) → q ≢ f → Wrote n f old new → file new q ≡ file old q
wrote_leaves n f q old new differ wrote = (ran_end old new (DuringWrite f (now old)) wrote.run).others q differ

pub cut_leaves : (n : ℕ) (f q : FileNo) (to : ℕ) (old new : World) → q ≢ f → Cut n f to old new → file new q ≡ file old q
cut_leaves n f q to old new differ cut = (ran_end old new (DuringCut f to (now old)) cut.run).others q differ

module _ (f g : FileNo) (apart : f ≢ g) where
  -- a moment of a write to the first of two files, and to the second
  during_first : (old m : Moment) → DuringWrite f old m → DuringWrites f g old m
  during_first old m during = record {
    others = λ q from_f from_g. during.others q from_f;
    first_kept = during.kept;
    second_kept = λ front kept. subst (IsKept front) (sym (during.others g (λ same. apart (sym same)))) kept;
  }

  during_second : (old m : Moment) → DuringWrite g old m → DuringWrites f g old m
  during_second old m during = record {
    others = λ q from_f from_g. during.others q from_g;
    first_kept = λ front kept. subst (IsKept front) (sym (during.others f apart)) kept;
    second_kept = during.kept;
  }

  -- a write to both
  both_written : (m n : ℕ) (old mid new : World) → Wrote m f old mid → Wrote n g mid new → WroteBoth (m + n) f g old new
  both_written m n old mid new first second =
      let before : DuringWrites f g (now old) (now mid) = during_first (now old) (now mid) (ran_end old mid (DuringWrite f (now old)) first.run) in
      record {
        run = ran_joins old mid new (DuringWrites f g (now old))
            (ran_weakens old mid (DuringWrite f (now old)) (DuringWrites f g (now old)) (during_first (now old)) first.run)
            (ran_weakens mid new (DuringWrite g (now mid)) (DuringWrites f g (now old)) (λ m during.
            let after : DuringWrites f g (now mid) m = during_second (now mid) m during in
            record {
              others = λ q from_f from_g. after.others q from_f from_g ∙ before.others q from_f from_g;
              first_kept = λ front kept. after.first_kept front (before.first_kept front kept);
              second_kept = λ front kept. after.second_kept front (before.second_kept front kept);
            }) second.run);
        few = let one : mid.clock ≤ old.clock + m = first.few in let two : new.clock ≤ mid.clock + n = second.few in omega arith;
      }

  -- the same of cuts
  during_first_cut : (to until : ℕ) (old m : Moment) → DuringCut f to old m → DuringCuts f to g until old m
  during_first_cut to until old m during = record {
    others = λ q from_f from_g. during.others q from_f;
    first_reads = during.reads;
    second_reads = λ n within. ap (λ (x : File). take n x.bytes) (during.others g (λ same. apart (sym same)));
    first_kept = during.kept;
    second_kept = λ front within kept. subst (IsKept front) (sym (during.others g (λ same. apart (sym same)))) kept;
  }

  during_second_cut : (to until : ℕ) (old m : Moment) → DuringCut g until old m → DuringCuts f to g until old m
  during_second_cut to until old m during = record {
    others = λ q from_f from_g. during.others q from_g;
    first_reads = λ n within. ap (λ (x : File). take n x.bytes) (during.others f apart);
    second_reads = during.reads;
    first_kept = λ front within kept. subst (IsKept front) (sym (during.others f apart)) kept;
    second_kept = during.kept;
  }

  both_cut : (m n to until : ℕ) (old mid new : World) → Cut m f to old mid → Cut n g until mid new → CutBoth (m + n) f to g until old new
  both_cut m n to until old mid new first second =
      let before : DuringCuts f to g until (now old) (now mid) = during_first_cut to until (now old) (now mid) (ran_end old mid (DuringCut f to (now old)) first.run) in
      record {
        run = ran_joins old mid new (DuringCuts f to g until (now old))
            (ran_weakens old mid (DuringCut f to (now old)) (DuringCuts f to g until (now old)) (during_first_cut to until (now old)) first.run)
            (ran_weakens mid new (DuringCut g until (now mid)) (DuringCuts f to g until (now old)) (λ m during.
            let after : DuringCuts f to g until (now mid) m = during_second_cut to until (now mid) m during in
            record {
              others = λ q from_f from_g. after.others q from_f from_g ∙ before.others q from_f from_g;
              first_reads = λ n within. after.first_reads n within ∙ before.first_reads n within;
              second_reads = λ n within. after.second_reads n within ∙ before.second_reads n within;
              first_kept = λ front within kept. after.first_kept front within (before.first_kept front within kept);
              second_kept = λ front within kept. after.second_kept front within (before.second_kept front within kept);
            }) second.run);
        few = let one : mid.clock ≤ old.clock + m = first.few in let two : new.clock ≤ mid.clock + n = second.few in omega arith;
      }

-- the same of what a station tells
pub both_written_on : {S : Type 0} (tells : S → Bool) (world : S → World) (m n : ℕ) (f g : FileNo) (old s t : S) → f ≢ g
    → Told tells old s (Wrote m f (world old) (world s)) → Told tells s t (Wrote n g (world s) (world t)) → Told tells old t (WroteBoth (m + n) f g (world old) (world t))
both_written_on tells world m n f g old s t apart first second =
    told_then tells old s t _ _ _ first second (λ _ one two. both_written f g apart m n (world old) (world s) (world t) one two)

pub both_cut_on : {S : Type 0} (tells : S → Bool) (world : S → World) (m n to until : ℕ) (f g : FileNo) (old s t : S) → f ≢ g
    → Told tells old s (Cut m f to (world old) (world s)) → Told tells s t (Cut n g until (world s) (world t)) → Told tells old t (CutBoth (m + n) f to g until (world old) (world t))
both_cut_on tells world m n to until f g old s t apart first second =
    told_then tells old s t _ _ _ first second (λ _ one two. both_cut f g apart m n to until (world old) (world s) (world t) one two)
