-- The rules of the checkpoints of copies, what these rest on, and what they stand for.
use Rattle.std.specs.Prelude.{◌≡◌, ◌≢◌, ◌⊎◌, ℕ, ◌*◌, ◌-◌, ◌/◌, ◌<◌, ◌≤◌, min, List, [], length, take}
use Rattle.std.proofs.Common.{refl, sym, ap, subst, ◌∙◌, inl, inr, arith}
use Rattle.rec_words.specs.Words.{node_size}
use Rattle.shelf_model.specs.declared.file_no.FileNo.{FileNo}
use Rattle.shelf_model.specs.declared.sort_fault.SortFault.{SortFault}
use Rattle.shelf_model.specs.declared.sort_fault.SortFault.TheVariants.{Shelf, Damaged, RunsSpent}
use Rattle.shelf_model.specs.Calls.{longest, most_piece}
use Rattle.shelf_model.specs.File.{IsKept}
use Rattle.shelf_model.specs.Folder.{file_in}
use Rattle.shelf_model.specs.Moments.{OnlyChanged}
use Rattle.shelf_model.specs.World.{Moment, World}
use Rattle.file_numbers.specs.Files.{inner_part, checkpoint_file}
use Rattle.saved_words.specs.Fronts.{IsFront, one_front}
use Rattle.sweep_core.specs.declared.checkpoint.Checkpoint.{Checkpoint}
use Rattle.sweep_core.specs.Saving.{Saving, IsMadePart, IsReadPart, IsRestingPlace, reads_of}
use Rattle.sweep_core.specs.Resting.{checkpoint_place, same_fronts, read_rests, made_rests}
use Rattle.copy_sweep.specs.declared.copy.CopyTask.{CopyTask}
use Rattle.copy_sweep.specs.declared.saved.Saved.{Saved}
use Rattle.copy_sweep.specs.Saved.{words_count, saved_words, IsSaved, saved_differs}

-- the first words of the checkpoint are those of a copy
abbrev pub Holds : Checkpoint → Saved → Type 0
Holds c x = IsFront words_count saved_words IsSaved x c.carry

-- the bytes of the pieces that were copied
abbrev pub pieces_of : Saved → ℕ
pieces_of x = x.turns * most_piece

-- a file of the step is made, which is no run, of one that the step may read; no more turns put pieces than there are,
-- and no more bytes stand than these pieces have
pub record KeepsRules (c : Checkpoint) (x : Saved) : Type 0 where
  pub parts : inner_part ≤ c.next_part
  pub made : IsMadePart c.step c.next_part x.task.to
  pub other : IsReadPart c.step c.next_part x.task.from
  pub apart : x.task.from ≢ x.task.to
  pub few : x.task.pieces * most_piece ≤ longest
  pub turns : x.turns ≤ x.task.pieces
  pub kept : x.kept ≤ pieces_of x

-- its words are those of a copy, by these rules, and it has no tables
pub record Fits (c : Checkpoint) : Type 0 where
  pub tables : c.tables ≡ 0
  pub saved : Saved
  pub holds : Holds c saved
  pub rules : KeepsRules c saved

-- a copy rests on the file that is read, and on what stands in the one that is made
abbrev pub IsRest : Saved → FileNo → ℕ → Type 0
IsRest x f n = (f ≡ x.task.from) ⊎ ((f ≡ x.task.to) × (n ≤ x.kept))

pub record RestsOn (c : Checkpoint) (f : FileNo) (n : ℕ) : Type 0 where
  pub saved : Saved
  pub holds : Holds c saved
  pub rests : IsRest saved f n

-- these bytes are copied: what stands are the pieces that the turns put, or all bytes where there are fewer; and no
-- more turns that put pieces remain
pub record GoesOn (x : Saved) (r : FileNo → List ℕ) (bytes : List ℕ) (turns : ℕ) : Type 0 where
  pub bytes_are : r x.task.from ≡ bytes
  pub kept_is : x.kept ≡ min (pieces_of x) (length (r x.task.from))
  pub copied : take x.kept (r x.task.to) ≡ take (pieces_of x) (r x.task.from)
  pub few : x.task.pieces - x.turns ≤ turns

pub record StandsFor (c : Checkpoint) (r : FileNo → List ℕ) (bytes : List ℕ) (turns : ℕ) : Type 0 where
  pub saved : Saved
  pub holds : Holds c saved
  pub goes_on : GoesOn saved r bytes turns

-- its words say that this is copied
pub record Names (c : Checkpoint) (task : CopyTask) : Type 0 where
  pub saved : Saved
  pub holds : Holds c saved
  pub task_is : saved.task ≡ task

abbrev pub copy_saving : Saving CopyTask (List ℕ)
copy_saving = record {
  operands = λ task f. f ≡ task.from;
  text = λ task. [];
  names = Names;
  fits = λ c text. Fits c;
  rests = RestsOn;
  reading = λ task r. 0;
  stands = λ c text r bytes turns. StandsFor c r bytes turns;
}

-- the checkpoint's place, where so many bytes can't stand of the file that is read
pub record IsMisfit (step : ℕ) (x : Saved) (r : FileNo → List ℕ) (f : FileNo) (at : ℕ) : Type 0 where
  pub file_is : f ≡ checkpoint_file step
  pub place_is : at ≡ checkpoint_place step r
  pub misfits : x.kept ≢ min (pieces_of x) (length (r x.task.from))

-- the first node that isn't whole, where fewer bytes stand than were kept
pub record IsShort (made : FileNo) (kept : ℕ) (r : FileNo → List ℕ) (f : FileNo) (at : ℕ) : Type 0 where
  pub file_is : f ≡ made
  pub place_is : at ≡ length (r made) / node_size * node_size
  pub short : length (r made) < kept

abbrev pub IsMisfitFault : ℕ → Saved → (FileNo → List ℕ) → SortFault → Type 0
IsMisfitFault step x r Shelf = Unit
IsMisfitFault step x r (Damaged f at) = IsMisfit step x r f at
IsMisfitFault step x r RunsSpent = ⊥

abbrev pub IsShortFault : FileNo → ℕ → (FileNo → List ℕ) → SortFault → Type 0
IsShortFault made kept r Shelf = Unit
IsShortFault made kept r (Damaged f at) = IsShort made kept r f at
IsShortFault made kept r RunsSpent = ⊥

-- one of them is the cause that a copy isn't rebuilt
pub record Blames (c : Checkpoint) (world : World) (e : SortFault) : Type 0 where
  pub saved : Saved
  pub holds : Holds c saved
  pub cause : IsMisfitFault c.step saved (reads_of world) e ⊎ IsShortFault saved.task.to saved.kept (reads_of world) e

-- at a moment while a file is cut behind a length, every other file is as it was, and what stands below that is read
-- and kept as it was
pub record OnlyBehind (made : FileNo) (kept : ℕ) (old m : Moment) : Type 0 where
  pub others : OnlyChanged (λ q. q ≡ made) old m
  pub reads : (n : ℕ) → n ≤ kept → take n (file_in m.folder made).bytes ≡ take n (file_in old.folder made).bytes
  pub keeps : (front : List ℕ) → length front ≤ kept → IsKept front (file_in old.folder made)
      → IsKept front (file_in m.folder made)

-- with the same bytes below these lengths a copy goes on in the same way
pub goes_on_with : (x : Saved) (old new : FileNo → List ℕ) (bytes : List ℕ) (turns : ℕ)
    → ((f : FileNo) (n : ℕ) → IsRest x f n → take n (new f) ≡ take n (old f)) → GoesOn x old bytes turns
    → GoesOn x new bytes turns
goes_on_with x old new bytes turns same goes =
    let source : new x.task.from ≡ old x.task.from = same_fronts _ _ (λ n. same x.task.from n (inl refl)) in
    record {
      bytes_are = source ∙ goes.bytes_are;
      kept_is = goes.kept_is ∙ ap (λ xs. min (pieces_of x) (length xs)) (sym source);
      copied = same x.task.to x.kept (inr (refl, omega arith)) ∙ goes.copied ∙ ap (take (pieces_of x)) (sym source);
      few = goes.few;
    }

pub stays : (c : Checkpoint) (text : List ℕ) (old new : FileNo → List ℕ) (bytes : List ℕ) (turns : ℕ) → Fits c
    → ((f : FileNo) (n : ℕ) → RestsOn c f n → take n (new f) ≡ take n (old f)) → StandsFor c old bytes turns
    → StandsFor c new bytes turns
stays c text old new bytes turns fits same stands = record {
  saved = stands.saved;
  holds = stands.holds;
  goes_on = goes_on_with stands.saved old new bytes turns
      (λ f n rests. same f n (record { saved = stands.saved; holds = stands.holds; rests = rests })) stands.goes_on;
}

-- the words are those of one copy
pub one_copy : (c : Checkpoint) (x y : Saved) → Holds c x → Holds c y → x ≡ y
one_copy c x y = one_front words_count saved_words IsSaved saved_differs x y c.carry

-- what it rests on no sweep of the step writes
rests_apart : (c : Checkpoint) (x : Saved) (f : FileNo) (n : ℕ) → KeepsRules c x → IsRest x f n → IsRestingPlace c f
rests_apart c x f n rules (inl read) =
    read_rests c f rules.parts (subst (IsReadPart c.step c.next_part) (sym read) rules.other)
rests_apart c x f n rules (inr (made, few)) =
    made_rests c f rules.parts (subst (IsMadePart c.step c.next_part) (sym made) rules.made)

pub apart : (c : Checkpoint) (text : List ℕ) (f : FileNo) (n : ℕ) → Fits c → RestsOn c f n → IsRestingPlace c f
apart c text f n fits on =
    rests_apart c on.saved f n (subst (KeepsRules c) (one_copy c fits.saved on.saved fits.holds on.holds) fits.rules)
    on.rests
