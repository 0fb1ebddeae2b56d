-- What a copy that is rebuilt leaves of the files.
use Rattle.std.proofs.Common.{◌≡◌, ◌≢◌, ◌∙◌, ℕ, ◌+◌, Bool, List, length, take, sym, ap, subst, inl, inr, arith}
use Rattle.shelf_model.specs.declared.file_no.FileNo.{FileNo}
use Rattle.shelf_model.specs.Calls.{Told}
use Rattle.shelf_model.specs.File.{File, IsKept}
use Rattle.shelf_model.specs.Folder.{Folder, file_in}
use Rattle.shelf_model.specs.Moments.{Ran, Stays}
use Rattle.shelf_model.specs.World.{Moment, World, now}
use Rattle.shelf_model.proofs.Runs.{told_then, ran_joins, ran_weakens, ran_end}
use Rattle.sweep_core.specs.declared.checkpoint.Checkpoint.{Checkpoint}
use Rattle.sweep_core.specs.Carries.{OnlyCutBehind}
use Rattle.sweep_core.specs.Saving.{IsMadePart}
use Rattle.copy_sweep.specs.declared.saved.Saved.{Saved}
use Rattle.copy_sweep.specs.Resumes.{Holds, KeepsRules, Fits, RestsOn, IsRest, OnlyBehind, one_copy}

-- what is saved keeps the rules
pub rules_of : (c : Checkpoint) (x : Saved) → Fits c → Holds c x → KeepsRules c x
rules_of c x fits holds = subst (KeepsRules c) (one_copy c fits.saved x fits.holds holds) fits.rules

-- where the files stay a file is only cut behind a length
stays_behind : (made : FileNo) (kept : ℕ) (old m : Moment) → Stays old m → OnlyBehind made kept old m
stays_behind made kept old m same = record {
  others = λ f other. ap (λ (d : Folder). file_in d f) same;
  reads = λ n below. ap (λ (d : Folder). take n (file_in d made).bytes) same;
  keeps = λ front below. subst (λ d. IsKept front (file_in d made)) (sym same);
}

-- and so it is since an earlier moment with the same files
behind_since : (made : FileNo) (kept : ℕ) (old mid m : Moment) → Stays old mid → OnlyBehind made kept mid m
    → OnlyBehind made kept old m
behind_since made kept old mid m same behind = record {
  others = λ f other. behind.others f other ∙ ap (λ (d : Folder). file_in d f) same;
  reads = λ n below. behind.reads n below ∙ ap (λ (d : Folder). take n (file_in d made).bytes) same;
  keeps = λ front below is. behind.keeps front below (subst (λ d. IsKept front (file_in d made)) (sym same) is);
}

-- the bytes that a checkpoint of a copy rests on stay where its file is cut behind them
module _ (c : Checkpoint) (x : Saved) (holds : Holds c x) (rules : KeepsRules c x) (old m : Moment)
    (behind : OnlyBehind x.task.to x.kept old m) where
  apart : x.task.from ≢ x.task.to
  apart = rules.apart

  rest_reads : (f : FileNo) (n : ℕ) → IsRest x f n
      → take n (file_in m.folder f).bytes ≡ take n (file_in old.folder f).bytes
  rest_reads f n (inl read) =
      ap (λ (y : File). take n y.bytes) (behind.others f (λ made. apart (sym read ∙ made)))
  rest_reads f n (inr (made, below)) =
      subst (λ q. take n (file_in m.folder q).bytes ≡ take n (file_in old.folder q).bytes) (sym made)
      (behind.reads n below)

  rest_kept : (f : FileNo) (front : List ℕ) → IsRest x f (length front) → IsKept front (file_in old.folder f)
      → IsKept front (file_in m.folder f)
  rest_kept f front (inl read) = subst (IsKept front) (sym (behind.others f (λ made. apart (sym read ∙ made))))
  rest_kept f front (inr (made, below)) =
      subst (λ q. IsKept front (file_in old.folder q) → IsKept front (file_in m.folder q)) (sym made)
      (behind.keeps front below)

  is_rest : (f : FileNo) (n : ℕ) → RestsOn c f n → IsRest x f n
  is_rest f n on = subst (λ (y : Saved). IsRest y f n) (one_copy c on.saved x on.holds holds) on.rests

  whole_same : (f : FileNo) → IsRest x f (x.kept + 1) → file_in m.folder f ≡ file_in old.folder f
  whole_same f (inl read) = behind.others f (λ made. apart (sym read ∙ made))
  whole_same f (inr (made, below)) = absurd (omega (arith, below))

  behind_rests : OnlyCutBehind c (RestsOn c) old m
  behind_rests = record {
    unmade = λ f free. behind.others f (λ made. free (subst (IsMadePart c.step c.next_part) (sym made) rules.made));
    others = λ f free. behind.others f
        (λ made. free (record { saved = x; holds = holds; rests = inr (made, omega arith) }));
    whole = λ f all. whole_same f (is_rest f (x.kept + 1) (all (x.kept + 1)));
    reads = λ f n on. rest_reads f n (is_rest f n on);
    kept = λ f n on front long. rest_kept f front (subst (IsRest x f) (sym long) (is_rest f n on));
  }

module _ {S : Type 0} (tells : S → Bool) (world : S → World) where
  -- a copy is rebuilt: other files are asked for their lengths, and its own is cut
  pub rebuilt_after : (c : Checkpoint) (x : Saved) → Holds c x → KeepsRules c x → (old mid new : S)
      → Told tells old mid (Ran (Stays (now (world old))) (world old) (world mid))
      → Told tells mid new (Ran (OnlyBehind x.task.to x.kept (now (world mid))) (world mid) (world new))
      → Told tells old new (Ran (OnlyCutBehind c (RestsOn c) (now (world old))) (world old) (world new))
  rebuilt_after c x holds rules old mid new first second =
      told_then tells old mid new _ _ _ first second
      (λ _ stays ran.
      let same = ran_end (world old) (world mid) (Stays (now (world old))) stays in
      let Q = OnlyCutBehind c (RestsOn c) (now (world old)) in
      ran_joins (world old) (world mid) (world new) Q
      (ran_weakens (world old) (world mid) (Stays (now (world old))) Q
      (λ m here. behind_rests c x holds rules (now (world old)) m
      (stays_behind x.task.to x.kept (now (world old)) m here))
      stays)
      (ran_weakens (world mid) (world new) (OnlyBehind x.task.to x.kept (now (world mid))) Q
      (λ m here. behind_rests c x holds rules (now (world old)) m
      (behind_since x.task.to x.kept (now (world old)) (now (world mid)) m same here)) ran))
