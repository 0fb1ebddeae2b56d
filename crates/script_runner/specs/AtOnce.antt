-- Steps that are made at once, while those before them wait for the commit of all of them.
use Rattle.std.specs.Prelude.{◌≡◌, ◌≢◌, ◌⊎◌, ℕ, ◌+◌, ◌*◌, ◌^◌, ◌<◌, ◌≤◌, max, Bool, IsTrue, List, length, take, get_or}
use Rattle.std.specs.Prelude.{Option, Some, None, Result, Ok, Err, IfOk, IfSome, IfNone}
use Rattle.bool_tables.specs.declared.steps.Step.{Step}
use Rattle.bool_tables.specs.declared.steps.Step.TheVariants.{Const, Var, Pair, Ite, Quantify, Restrict, Drop, Same}
use Rattle.bool_tables.specs.declared.steps.Step.TheVariants.{Leq, Eval, Size}
use Rattle.bool_tables.specs.declared.steps.Planned.{Planned}
use Rattle.bool_tables.specs.Plans.{makes_diagram}
use Rattle.shelf_model.specs.declared.fault.Failed.{Failed}
use Rattle.shelf_model.specs.declared.file_no.FileNo.{FileNo}
use Rattle.shelf_model.specs.File.{IsKept}
use Rattle.shelf_model.specs.Calls.{Told}
use Rattle.shelf_model.specs.Faults.{Faults, OnlyFolder}
use Rattle.shelf_model.specs.Folder.{Folder, Image, file_in, bytes_in, IsImage}
use Rattle.shelf_model.specs.Moments.{Ran, Throughout}
use Rattle.shelf_model.specs.World.{Moment, World, now}
use Rattle.block_stream.specs.Reads.{Looked}
use Rattle.catalogue.specs.declared.layout.Entry.{Entry}
use Rattle.catalogue.specs.Commits.{IsReady}
use Rattle.catalogue.specs.Counts.{present, entry_at, HasCount}
use Rattle.catalogue.specs.Entries.{entry_bytes}
use Rattle.catalogue.specs.Files.{catalogue}
use Rattle.step_work.specs.Plans.{no_step}
use Rattle.step_sweeps.specs.declared.at_once.AtMost.{AtMost}
use Rattle.sound_image.specs.Files.{node_file}
use Rattle.sound_image.specs.Jobs.{Job, step_at}
use Rattle.sound_image.specs.Entries.{IsEntryOfStep}
use Rattle.sound_image.specs.Holds.{Holds, NoneGated}
use Rattle.sound_image.specs.Waiting.{Waits}
use Rattle.step_engine.specs.AtOnce.{calls_now}
use Rattle.step_engine.specs.StepEntries.{IsEntryFor}
use Rattle.script_runner.specs.Calls.{step_calls, calls_before, EachTakesOne}
use Rattle.script_runner.specs.Lean.{IsLean}
use Rattle.script_runner.specs.Running.{AreEmptied}
use Rattle.script_runner.specs.StepRuns.{HasSteps, IsTaking, HasEntry, StaysEmpty, KeepsDiagrams, KeepsLater}
use Rattle.script_runner.specs.Stops.{committed_turns, paid_in}

-- the step behind the one with that entry, or this one where there is none
abbrev pub next_behind : Option Entry → ℕ → ℕ
next_behind None from = from
next_behind (Some e) from = e.number + 1

-- the same of an answer: where steps stopped the run, those up to another one may have been taken
abbrev pub reached_by : Result (Option Entry) Failed → ℕ → ℕ → ℕ
reached_by (Ok last) from until = next_behind last from
reached_by (Err fault) from until = until

-- the node file of a diagram that one of these steps makes
abbrev pub IsNodesOf : List Planned → ℕ → ℕ → FileNo → Type 0
IsNodesOf steps from until f = (k : ℕ) × (from ≤ k) × (k < until)
    × IsTrue (makes_diagram (get_or steps k no_step).step) × (f ≡ node_file k)

-- the folder holds so many steps of the job, and none behind them has a gated checkpoint
pub record HoldsUngated (job : Job) (count : ℕ) (folder : Folder) : Type 0 where
  pub holds : Holds job count folder
  pub none : NoneGated job count folder

-- the turns of the steps from that one on are bounded: each takes one, or the folder holds those before it
abbrev pub AreBounded : Job → ℕ → Folder → Type 0
AreBounded job count folder = EachTakesOne job ⊎ HoldsUngated job count folder

-- while steps are made at once and their entries are put, behind so many committed steps, from that one on and none
-- from `until` on: their node files and the catalogue alone change, no more steps are committed, and the entries before
-- theirs stay, as they are sure and as they are read
pub record DuringGather (steps : List Planned) (committed from until : ℕ) (old m : Moment) : Type 0 where
  pub others : (f : FileNo) → f ≢ catalogue → ¬ (IsNodesOf steps from until f)
      → file_in m.folder f ≡ file_in old.folder f
  pub images : (image : Image) → IsImage m.folder image → HasCount committed (bytes_in image)
  pub kept : (front : List ℕ) → length front ≤ 128 * from
      → IsKept front (file_in old.folder catalogue) → IsKept front (file_in m.folder catalogue)
  pub reads : take (128 * from) (file_in m.folder catalogue).bytes
      ≡ take (128 * from) (file_in old.folder catalogue).bytes

-- entries of these steps stand in their places
abbrev pub ArePut : List Planned → ℕ → ℕ → (FileNo → List ℕ) → Type 0
ArePut steps from until r = (k : ℕ) → from ≤ k → k < until
    → (x : Entry) × IsEntryFor (get_or steps k no_step).step k x × (entry_at k r ≡ entry_bytes x)

-- the calls of a step of so many turns that is made at once, and of putting its entry
abbrev pub gathering_calls : Step → ℕ → ℕ
gathering_calls step turns = calls_now step turns + 2

-- the calls that such a step is sure to spare of those that it is reckoned with, beside four with which it is committed
-- and what it drops is cut
abbrev pub gained : Step → ℕ → ℕ
gained (Const value) turns = 0
gained (Var level) turns = 0
gained (Pair op left right) turns = 200 * turns
gained (Ite test if_one if_zero) turns = 0
gained (Quantify kind operand level) turns = 0
gained (Restrict operand level value) turns = 0
gained (Drop gone) turns = 5
gained (Same left right) turns = 0
gained (Leq left right) turns = 0
gained (Eval operand at) turns = 0
gained (Size operand) turns = 0

-- so many calls at most are kept for looks
abbrev pub most_spare : ℕ
most_spare = 65536

-- a step was made at once, and its entry was put behind those that wait
pub record IsGatheredStep {S : Type 0} (tells : S → Bool) (world : S → World) (job : Job) (committed number : ℕ)
    (most : AtMost) (before after : S) (e : Entry) : Type 0 where
  pub fits : IsEntryFor (step_at job number).step number e
  pub few : e.turns ≤ max 1 most.turns
  pub ready : IsTrue (tells after) → IsReady committed (now (world after)).folder
  pub placed : IsTrue (tells after) → entry_at number (present (now (world after)).folder) ≡ entry_bytes e
  pub covers : IsTrue (tells after) → 128 * (number + 1) ≤ length (file_in (now (world after)).folder catalogue).bytes
  pub waits : IsTrue (tells after) → Waits job committed number (now (world before)).folder
      → NoneGated job committed (now (world before)).folder
      → Waits job committed (number + 1) (now (world after)).folder × IsEntryOfStep job number e
  pub calls : IsTrue (tells after) → (world after).clock
      ≤ (world before).clock + gathering_calls (step_at job number).step e.turns
  -- its calls, what it spares, and four with which it is committed are within those of the step, and within what its
  -- turns pay for
  pub counted : IsTrue (tells after) → EachTakesOne job
      ⊎ (Waits job committed number (now (world before)).folder × NoneGated job committed (now (world before)).folder)
      → (world after).clock + (gained (step_at job number).step e.turns + 4)
      ≤ (world before).clock + step_calls job (step_at job number)
  pub paid : IsTrue (tells after) → (world after).clock + (gained (step_at job number).step e.turns + 4)
      ≤ (world before).clock + 256 * e.turns

-- a step was made at once and its entry put, nothing was made, or a call of the folder failed
pub record GathersStep {S : Type 0} (tells : S → Bool) (world : S → World) (counts : S → Faults) (job : Job)
    (committed number : ℕ) (most : AtMost) (before after : S) (result : Result (Option Entry) Failed) : Type 0 where
  pub content : Told tells before after (Ran (DuringGather job.steps committed number (number + 1) (now (world before)))
      (world before) (world after))
  pub made : IfOk result (λ found. IfSome found (IsGatheredStep tells world job committed number most before after))
  pub not_made : IfOk result (λ found. IfNone found (Told tells before after
      (Looked (4 + most.looks) (world before) (world after))))
  -- at each moment the folder holds the committed steps
  pub holds : IsTrue (tells after) → Waits job committed number (now (world before)).folder
      → NoneGated job committed (now (world before)).folder
      → Throughout (world before) (world after) (λ (m : Moment). HoldsUngated job committed m.folder)
  pub within : IsTrue (tells after) → EachTakesOne job
      ⊎ (Waits job committed number (now (world before)).folder × NoneGated job committed (now (world before)).folder)
      → (world after).clock ≤ (world before).clock + step_calls job (step_at job number)
  pub short : IsTrue (tells after) → (world after).clock ≤ (world before).clock + (2 ^ 18 + 12)
  pub faults : OnlyFolder (counts before) (counts after) result

-- steps from that one on were made and wait, up to the one that has the last entry, where there is one; so many calls
-- are left of those that there were to spare
pub record AreGathered (job : Job) (from : ℕ) (last : Option Entry) (spare left : ℕ) (old new : World) : Type 0 where
  pub ready : IsReady from (now new).folder
  pub put : ArePut job.steps from (next_behind last from) (present (now new).folder)
  pub covers : 128 * next_behind last from ≤ length (file_in (now new).folder catalogue).bytes
  pub later : KeepsLater (next_behind last from) (now old).folder (now new).folder
  -- the last one stands in its place
  pub stands : IfSome last (λ e. IsEntryFor (step_at job e.number).step e.number e
      × (entry_at e.number (present (now new).folder) ≡ entry_bytes e))
  pub waits : HoldsUngated job from (now old).folder → Waits job from (next_behind last from) (now new).folder
      × IfSome last (λ e. IsEntryOfStep job e.number e)
  -- the turns of their entries
  pub turns : ℕ
  pub turns_are : committed_turns (next_behind last from) (present (now new).folder)
      ≡ committed_turns from (present (now new).folder) + turns
  -- what they took, what is left, and four calls for each with which it is committed are within what there was to spare,
  -- the calls of these steps, and what their turns pay for
  pub counted : AreBounded job from (now old).folder
      → new.clock + (left + 4 * (next_behind last from)) + calls_before job from
      ≤ old.clock + (spare + 4 * from) + calls_before job (next_behind last from)
  pub paid : new.clock + (left + 4 * (next_behind last from)) ≤ old.clock + (spare + 4 * from) + 256 * turns

-- steps were gathered from that one on, or a call of the folder failed meanwhile
pub record Gathers {S : Type 0} (tells : S → Bool) (world : S → World) (counts : S → Faults) (job : Job)
    (from until spare left : ℕ) (before after : S) (result : Result (Option Entry) Failed) : Type 0 where
  pub content : Told tells before after (Ran (DuringGather job.steps from from until (now (world before)))
      (world before) (world after))
  pub some : IfOk result (λ last. IfSome last (λ e. (from ≤ e.number) × (e.number < until) × (e.number < from + 1024)))
  pub gathered : IfOk result (λ last. IsTrue (tells after)
      → AreGathered job from last spare left (world before) (world after))
  pub holds : IsTrue (tells after) → HoldsUngated job from (now (world before)).folder
      → Throughout (world before) (world after) (λ (m : Moment). HoldsUngated job from m.folder)
  pub within : IsTrue (tells after) → AreBounded job from (now (world before)).folder
      → (world after).clock + calls_before job from ≤ (world before).clock + (calls_before job until + spare)
  pub short : IsTrue (tells after) → (world after).clock ≤ (world before).clock + 2 ^ 20
  pub left_few : left ≤ most_spare
  pub faults : OnlyFolder (counts before) (counts after) result

-- steps from that one on up to another one were made, committed together and tidied up
pub record TookMore (job : Job) (from end : ℕ) (old new : World) : Type 0 where
  pub ready : IsReady end (now new).folder
  pub made : (k : ℕ) → from ≤ k → k < end → (x : Entry) × HasEntry job.steps k x (present (now new).folder)
  pub emptied : AreEmptied job.steps from end (now new).folder
  pub still_empty : (k : ℕ) → k < from → StaysEmpty (node_file k) (now old).folder (now new).folder
  pub keeps : KeepsDiagrams job.steps from end (now old).folder (now new).folder
  pub later : KeepsLater end (now old).folder (now new).folder
  pub holds : HoldsUngated job from (now old).folder → Holds job end (now new).folder

-- so it was with those up to the one whose entry is answered, or a call of the folder failed meanwhile
pub record TakesMore (job : Job) (from until : ℕ) (result : Result (Option Entry) Failed) (old new : World) : Type 0 where
  pub run : Ran (λ m. IsTaking (length job.steps) from until (now old).folder m.folder) old new
  pub took : IfOk result (λ last. TookMore job from (next_behind last from) old new)
  pub last : IfOk result (λ last. IfSome last (λ e. HasEntry job.steps e.number e (present (now new).folder)
      × (HoldsUngated job from (now old).folder → IsEntryOfStep job e.number e)))
  pub images : HoldsUngated job from (now old).folder
      → Throughout old new (λ (m : Moment). (image : Image) → IsImage m.folder image → HasSteps job from (bytes_in image))

-- what a stop costs meanwhile: each image pays for what the turns of the committed steps do, at few calls; and once the
-- steps were taken it pays for these, but for what there was to spare, of which so many calls are left
pub record MorePays (job : Job) (from spare left : ℕ) (result : Result (Option Entry) Failed) (old new : World) : Type 0 where
  pub each : (k : ℕ) → old.clock ≤ k → k ≤ new.clock → (image : Image) → IsImage (new.moment k).folder image
      → (256 * committed_turns from (present (now old).folder) ≤ paid_in job (bytes_in image))
      × (k ≤ old.clock + 2 ^ 21)
  pub ends : IfOk result (λ last. (image : Image) → IsImage (now new).folder image
      → new.clock + left + 256 * committed_turns from (present (now old).folder)
      ≤ old.clock + spare + paid_in job (bytes_in image))

-- steps from that one on were taken at once, none from `until` on, or a call of the folder failed
pub record TakesAtOnce {S : Type 0} (tells : S → Bool) (world : S → World) (counts : S → Faults) (job : Job)
    (from until spare left : ℕ) (before after : S) (result : Result (Option Entry) Failed) : Type 0 where
  pub content : Told tells before after (TakesMore job from until result (world before) (world after))
  pub some : IfOk result (λ last. IfSome last (λ e. (from ≤ e.number) × (e.number < until)))
  pub calls : IfOk result (λ last. IsTrue (tells after) → AreBounded job from (now (world before)).folder
      → (world after).clock + left + calls_before job from
      ≤ (world before).clock + spare + calls_before job (next_behind last from))
  pub within : IsTrue (tells after) → AreBounded job from (now (world before)).folder
      → (world after).clock + calls_before job from ≤ (world before).clock + spare + calls_before job until
  pub stops : IsTrue (tells after) → HoldsUngated job from (now (world before)).folder
      → MorePays job from spare left result (world before) (world after)
  pub lean : IfOk result (λ last. IsTrue (tells after) → HoldsUngated job from (now (world before)).folder
      → IsLean job from (now (world before)).folder → IsLean job (next_behind last from) (now (world after)).folder)
  pub left_few : left ≤ most_spare
  pub faults : OnlyFolder (counts before) (counts after) result
