-- What a call of the program leaves, by what its words ask for and the texts of its station.
use Rattle.std.specs.Prelude.{◌≡◌, ℕ, ◌+◌, ◌*◌, ◌^◌, ◌<◌, ◌≤◌, ◌⊎◌, List, [], ◌∷◌, ◌++◌, length, ◌==◌, Bool, Option}
use Rattle.std.specs.Prelude.{Some, None, IsTrue}
use Rattle.std.specs.List.{list_any}
use Rattle.shelf_model.specs.World.{World, now, said}
use Rattle.shelf_model.specs.Calls.{Told}
use Rattle.shelf_model.specs.Faults.{Faults, Rose}
use Rattle.shelf_model.specs.Moments.{Throughout, OnlyOldImages}
use Rattle.blif_reader.specs.declared.fault.BlifFault.{BlifFault}
use Rattle.catalogue.specs.Counts.{present, count_in}
use Rattle.command_words.specs.Readings.{Reading, run, list, gen}
use Rattle.sound_image.specs.Jobs.{Job, step_at}
use Rattle.sound_image.specs.Entries.{work_of}
use Rattle.script_reader.specs.declared.plan.Plan.{Plan}
use Rattle.script_reader.specs.declared.fault.ScriptFault.{ScriptFault}
use Rattle.script_runner.specs.Source.{Source, IsSource, folder_of, NamesText, NamesNetlist, Plans, IsFaulty}
use Rattle.script_runner.specs.Source.{HasFaultyNetlist}
use Rattle.script_runner.specs.Text.{usage_line, refused_line, netlist_line}
use Rattle.script_runner.specs.Fetching.{OnlyFetched}
use Rattle.script_runner.specs.Running.{SaysOnly}
use Rattle.script_runner.specs.Calls.{most_calls, fetch_calls, AreCounted}
use Rattle.script_runner.specs.Stops.{StopsIn}
use Rattle.script_runner.specs.JobOf.{job_of}
use Rattle.script_runner.specs.Entered.{RunsIn}
use Rattle.script_runner.specs.Listed.{ListsIn}

-- the words, which have this reading if any, ask for this source to be run
pub record Asks (w : World) (asked : Option Reading) (source : Source) : Type 0 where
  pub reading : Reading
  pub asked_is : asked ≡ Some reading
  pub source_is : IsSource w reading source

-- and its script asks for this plan
pub record Accepts (w : World) (asked : Option Reading) (plan : Plan) : Type 0 where
  pub source : Source
  pub asks : Asks w asked source
  pub plans : Plans source plan

-- a line was said, or with 8 a front part of it, and nothing else was done
pub record SaysLine (line : List ℕ) (good status : ℕ) (old new : World) : Type 0 where
  pub status_is : (status ≡ good) ⊎ (status ≡ 8)
  pub only : SaysOnly line old new
  pub whole : status ≡ good → said new ≡ said old ++ line

-- the first fault of a source's script was said
pub record RefusesScript (source : Source) (status : ℕ) (old new : World) : Type 0 where
  pub fault : ScriptFault
  pub faulty : IsFaulty source fault
  pub says : SaysLine (refused_line fault) 3 status old new

-- the job of a source was run in a folder
pub record RunsSource (folder : List ℕ) (source : Source) (status : ℕ) (old new : World) : Type 0 where
  pub plan : Plan
  pub plans : Plans source plan
  pub run : RunsIn folder (job_of source plan) plan.lines status old new

-- there was no memory: nothing was said and no file touched
abbrev pub HasNoMemory : ℕ → World → World → Type 0
HasNoMemory status old new = (status ≡ 9) × OnlyFetched old new

-- a text couldn't be fetched: nothing was said and no file touched
abbrev pub HasNoText : ℕ → World → World → Type 0
HasNoText status old new = (status ≡ 6) × OnlyFetched old new

-- there was no memory, or a source's script was refused, or the source was run
abbrev pub EndsSource : List ℕ → Source → ℕ → World → World → Type 0
EndsSource folder source status old new =
    HasNoMemory status old new ⊎ RefusesScript source status old new ⊎ RunsSource folder source status old new

-- a source that words ask for was run so
pub record RunsAsked (reading : Reading) (status : ℕ) (old new : World) : Type 0 where
  pub source : Source
  pub source_is : IsSource old reading source
  pub ends : EndsSource (folder_of reading) source status old new

-- the netlist that words name isn't accepted, and its first fault was said
pub record RefusesNetlist (reading : Reading) (status : ℕ) (old new : World) : Type 0 where
  pub fault : BlifFault
  pub faulty : HasFaultyNetlist old reading fault
  pub says : SaysLine (netlist_line fault) 4 status old new

-- there was no memory, or a text that words name couldn't be fetched, or their netlist was refused, or they ask for a
-- source, which was run
abbrev pub RunsTexts : Reading → ℕ → World → World → Type 0
RunsTexts reading status old new =
    HasNoMemory status old new ⊎ HasNoText status old new ⊎ RefusesNetlist reading status old new
    ⊎ RunsAsked reading status old new

-- how the program ended, by what its words ask for: a field for each action, and one for words that have no reading
pub record Ends (asked : Option Reading) (status : ℕ) (old new : World) : Type 0 where
  pub ran : (folder script : List ℕ) (netlist : Option (List ℕ)) (budget : ℕ)
      → asked ≡ Some (run folder script netlist budget)
      → RunsTexts (run folder script netlist budget) status old new
  pub generated : (folder : List ℕ) (size budget : ℕ) → asked ≡ Some (gen folder size budget)
      → RunsAsked (gen folder size budget) status old new
  pub listed : (folder : List ℕ) → asked ≡ Some (list folder)
      → HasNoMemory status old new ⊎ ListsIn folder status old new
  pub unread : asked ≡ None → HasNoMemory status old new ⊎ SaysLine usage_line 2 status old new

-- a script is accepted that the words ask for, and its job was run in the folder that they name
pub record EndsRan (asked : Option Reading) (status : ℕ) (old new : World) : Type 0 where
  pub source : Source
  pub asks : Asks old asked source
  pub runs : RunsSource (folder_of asks.reading) source status old new

-- the statuses of the program
abbrev pub IsStatus : ℕ → Type 0
IsStatus status =
    IsTrue (list_any (λ s. s == status) (0 ∷ 2 ∷ 3 ∷ 4 ∷ 5 ∷ 6 ∷ 7 ∷ 8 ∷ 9 ∷ 10 ∷ 11 ∷ []))

-- those of a run of a source: neither the words nor a text that can't be fetched end it
pub record IsRunStatus (status : ℕ) : Type 0 where
  pub known : IsStatus status
  pub not_usage : ¬ (status ≡ 2)
  pub not_text : ¬ (status ≡ 6)

-- the words decide between the usage, a list and a run, unless saying failed or there was no memory
pub record ByWords (asked : Option Reading) (status : ℕ) : Type 0 where
  pub usage : status ≡ 2 → asked ≡ None
  pub unread : asked ≡ None → (status ≡ 2) ⊎ (status ≡ 8) ⊎ (status ≡ 9)
  pub listed : (folder : List ℕ) → asked ≡ Some (list folder)
      → IsTrue (list_any (λ s. s == status) (0 ∷ 7 ∷ 8 ∷ 9 ∷ 10 ∷ []))
  pub known : IsStatus status

-- 6, 7 and 8 come only where their count rose: that of a path that the words name, of the folder, of saying
pub record StatusHasCause (asked : Option Reading) (status : ℕ) (old new : Faults) : Type 0 where
  pub text_fault : status ≡ 6 → (reading : Reading) × (asked ≡ Some reading)
      × ((path : List ℕ) × NamesText reading path × Rose (old.text path) (new.text path))
  pub folder_fault : status ≡ 7 → Rose old.folder new.folder
  pub say_fault : status ≡ 8 → Rose old.say new.say

-- the netlist that words name couldn't be fetched, for the count of its path rose, or its text isn't refused
abbrev pub PassesNetlist : Reading → World → Faults → Faults → Type 0
PassesNetlist reading w old new =
    ((path : List ℕ) × NamesNetlist reading path × Rose (old.text path) (new.text path))
    ⊎ ((fault : BlifFault) → ¬ (HasFaultyNetlist w reading fault))

-- a netlist that is refused is told before a script that can't be fetched: 6 comes only where the netlist was passed
abbrev pub NetlistIsFirst : Option Reading → ℕ → World → Faults → Faults → Type 0
NetlistIsFirst asked status w old new =
    status ≡ 6 → (reading : Reading) → asked ≡ Some reading → PassesNetlist reading w old new

-- each step's work is below 2^35 turns
abbrev pub IsSmall : Job → Type 0
IsSmall job = (k : ℕ) → k < length job.steps → work_of job (step_at job k).step < 2 ^ 35

-- no call failed: neither the count of a path that the words name rose, nor that of the folder or of saying
pub record NoneRose (asked : Option Reading) (old new : Faults) : Type 0 where
  pub text_same : (reading : Reading) (path : List ℕ) → asked ≡ Some reading → NamesText reading path
      → ¬ (Rose (old.text path) (new.text path))
  pub folder_same : ¬ (Rose old.folder new.folder)
  pub say_same : ¬ (Rose old.say new.say)

-- the calls that read a netlist of at most 4,194,304 bytes and a script of at most 1,048,576
abbrev pub texts_calls : ℕ
texts_calls = fetch_calls 4194304 + fetch_calls 1048576

-- the calls of a run of a source: that of saying a line, and no image is new, or those of entering the folder and of a
-- run of its steps and lines, where each of the steps takes one turn or the folder was sound for the job, and what pays
-- for going on from its last checkpoint; and what a stop costs at any moment
abbrev pub RunsInCalls : ℕ → Source → World → World → Type 0
RunsInCalls before source old new =
    ((new.clock ≤ old.clock + before + 1) × Throughout old new (OnlyOldImages (now old)))
    ⊎ ((plan : Plan) × Plans source plan × ((rest : ℕ) → AreCounted (job_of source plan) (now old).folder rest
    → new.clock ≤ old.clock + before + 2 + most_calls (job_of source plan) (length plan.lines) + rest)
    × StopsIn (job_of source plan) (length plan.lines) (before + 2) old new)

-- the calls of the station: those of reading the texts and of saying a line, and no image is new, those of a run
-- besides, or those of entering a folder and reading each entry twice
abbrev pub MakesFewCalls : Option Reading → World → World → Type 0
MakesFewCalls asked old new =
    ((new.clock ≤ old.clock + texts_calls + 1) × Throughout old new (OnlyOldImages (now old)))
    ⊎ ((source : Source) × Asks old asked source × RunsInCalls texts_calls source old new)
    ⊎ (((folder : List ℕ) × (asked ≡ Some (list folder)))
    × (new.clock ≤ old.clock + 7 + 3 * count_in (present (now old).folder)))

-- what a call of the program does, says of its status, costs, and owes to the calls that failed
pub record Answers {S : Type 0} (tells : S → Bool) (world : S → World) (counts : S → Faults)
    (asked : Option Reading) (status : ℕ) (before after : S) : Type 0 where
  pub content : Told tells before after (Ends asked status (world before) (world after))
  pub calls : IsTrue (tells after) → MakesFewCalls asked (world before) (world after)
  pub by_words : ByWords asked status
  pub causes : StatusHasCause asked status (counts before) (counts after)
  pub in_order : IsTrue (tells after) → NetlistIsFirst asked status (world before) (counts before) (counts after)
