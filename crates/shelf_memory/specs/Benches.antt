-- What a station in memory tells, and which of its calls fail.
use Rattle.std.specs.Prelude.{◌≡◌, ◌≢◌, ℕ, ◌+◌, ◌-◌, ◌^◌, ◌<◌, ◌≤◌, ◌⊎◌, ◌||◌, Bool, IsTrue, nat_lt, min, true, false, List, [], codes, String, Option, None, Result, OnOk, OnErr, IsErr}
use Rattle.shelf_model.specs.declared.file_no.FileNo.{FileNo}
use Rattle.shelf_model.specs.declared.fault.Failed.{Failed}
use Rattle.shelf_model.specs.File.{File, firm_file}
use Rattle.shelf_model.specs.Calls.{SameBut}
use Rattle.shelf_memory.specs.declared.failures.Watch.{Watch}
use Rattle.shelf_model.specs.World.{World, now, file}
use Rattle.shelf_model.specs.Faults.{Faults, Rose}
use Rattle.std.specs.Global.{Global}
use Rattle.std.specs.BTreeMap.{BTreeMap}
use Rattle.shelf_memory.specs.declared.bench.Bench.{Bench}
use Rattle.shelf_memory.specs.declared.counts.Counts.{Counts}
use Rattle.shelf_memory.specs.declared.disk.Disk.{Disk}
use Rattle.shelf_memory.specs.declared.texts.Text.{Text}
use Rattle.shelf_memory.specs.Events.{moment_of}
use Rattle.shelf_memory.specs.Files.{stored_in}
use Rattle.shelf_memory.specs.Texts.{text_at, count_at, raised}
use Rattle.shelf_memory.specs.Reads.{read_count}
use Rattle.shelf_memory.specs.Failures.{is_listed, is_met, seen}

-- the path of the station's folder
abbrev pub home_path : List ℕ
home_path = codes "FOLDER"

-- the station tells its content while its clock is below its last value
abbrev pub tells_of : Bench → Bool
tells_of b = nat_lt b.disk.clock (2 ^ 64 - 1)

-- the content that a folder, texts and counts make
abbrev pub world_in : Disk → BTreeMap (String Global) Text → Counts → World
world_in disk texts counts = record {
  clock = disk.clock;
  moment = moment_of disk.events.items;
  texts = text_at texts;
  home = home_path;
  inside = counts.inside;
  strays = counts.strays;
}

-- its content, with all moments since it was made
abbrev pub world_of : Bench → World
world_of b = world_in b.disk b.texts b.counts

-- the counts of faults, with those of each text
abbrev pub faults_in : Counts → BTreeMap (String Global) Text → Faults
faults_in counts texts = record { folder = counts.folder; say = counts.say; text = count_at counts.pathless texts }

-- its counts of faults
abbrev pub faults_of : Bench → Faults
faults_of b = faults_in b.counts b.texts

-- the number of its next call
abbrev pub clock_of : Bench → ℕ
clock_of b = b.disk.clock

-- how often memory was refused
abbrev pub starved_of : Bench → ℕ
starved_of b = b.counts.starved

-- the file of that number, also where nothing is told
abbrev pub file_at : Bench → FileNo → File
file_at b f = stored_in b.disk.files f

-- what was said, also where nothing is told
abbrev pub said_of : Bench → List ℕ
said_of b = b.disk.said.items

-- how often `read_at` was called on the file of that number, but for the calls in which memory was refused
abbrev pub reads_of : Bench → FileNo → ℕ
reads_of b f = read_count b.reads f

-- the call of that number is to fail by its number
abbrev pub lists : Bench → ℕ → Bool
lists b n = is_listed b.failures n

-- the file that is watched, where there is one
abbrev pub watch_of : Bench → Option Watch
watch_of b = b.failures.watch

-- all calls are to fail, since the watched file was long enough
abbrev pub is_spent : Bench → Bool
is_spent b = is_met (watch_of b)

-- the next call is to fail
abbrev pub fails_next : Bench → Bool
fails_next b = lists b (clock_of b) || is_spent b

-- each file has the bytes that it had, and the same was said
pub record SameBytes (old new : Bench) : Type 0 where
  pub files_are : (f : FileNo) → (file_at new f).bytes ≡ (file_at old f).bytes
  pub said_is : said_of new ≡ said_of old
  pub told_are : IsTrue (tells_of new) → (f : FileNo) → (file (world_of new) f).bytes ≡ (file (world_of old) f).bytes

-- a call failed exactly where there is that reason or memory was refused, and then left all bytes as they were
pub record FailsExactly {T : Type 0} (Reason : Type 0) (result : Result T Failed) (old new : Bench) : Type 0 where
  pub cause : OnErr result (Reason ⊎ Rose (starved_of old) (starved_of new))
  pub due : Reason → IsErr result
  pub starving : starved_of old < starved_of new → IsErr result
  pub later : starved_of old ≤ starved_of new
  pub kept : OnErr result (SameBytes old new)
  pub ticks : starved_of new ≡ starved_of old → clock_of new ≡ min (clock_of old + 1) (2 ^ 64 - 1)
  pub dark : starved_of old < starved_of new → clock_of new ≡ 2 ^ 64 - 1
  pub lists_are : (n : ℕ) → lists new n ≡ lists old n
  pub watch_is : watch_of new ≡ seen (watch_of old) (file_at new)

-- no file was read
abbrev pub SameReads : Bench → Bench → Type 0
SameReads old new = (f : FileNo) → reads_of new f ≡ reads_of old f

-- one file was read once, whether that failed or not; where memory was refused, that isn't counted
pub record CountsRead {T : Type 0} (f : FileNo) (result : Result T Failed) (old new : Bench) : Type 0 where
  pub ok : OnOk result (reads_of new f ≡ raised true (reads_of old f))
  pub counted : starved_of new ≡ starved_of old → starved_of new < 2 ^ 64 - 1
      → reads_of new f ≡ raised true (reads_of old f)
  pub starving : starved_of old < starved_of new → reads_of new f ≡ reads_of old f
  pub others : (q : FileNo) → q ≢ f → reads_of new q ≡ reads_of old q

-- a station at its start: nothing was said or read, no call was made or failed, and none is to fail
pub record IsFresh (b : Bench) : Type 0 where
  pub tells : IsTrue (tells_of b)
  pub clock_is : clock_of b ≡ 0
  pub said_is : (now (world_of b)).said ≡ []
  pub kept_is : said_of b ≡ []
  pub outside : (world_of b).inside ≡ false
  pub strays_are : (world_of b).strays ≡ 0
  pub starved_is : starved_of b ≡ 0
  pub folder_is : (faults_of b).folder ≡ 0
  pub say_is : (faults_of b).say ≡ 0
  pub text_is : (path : List ℕ) → (faults_of b).text path ≡ 0
  pub reads_are : (f : FileNo) → reads_of b f ≡ 0
  pub unlisted : (n : ℕ) → lists b n ≡ false
  pub unwatched : watch_of b ≡ None

-- but for its texts and for what is to fail the station is as it was, its past with it
pub record StandsStill (old new : Bench) : Type 0 where
  pub tells_is : tells_of new ≡ tells_of old
  pub clock_is : clock_of new ≡ clock_of old
  pub moments_are : (k : ℕ) → (world_of new).moment k ≡ (world_of old).moment k
  pub now_is : now (world_of new) ≡ now (world_of old)
  pub inside_is : (world_of new).inside ≡ (world_of old).inside
  pub strays_are : (world_of new).strays ≡ (world_of old).strays
  pub files_are : (f : FileNo) → file_at new f ≡ file_at old f
  pub said_is : said_of new ≡ said_of old
  pub starved_is : starved_of new ≡ starved_of old
  pub folder_is : (faults_of new).folder ≡ (faults_of old).folder
  pub say_is : (faults_of new).say ≡ (faults_of old).say
  pub text_is : (path : List ℕ) → (faults_of new).text path ≡ (faults_of old).text path
  pub reads_are : SameReads old new

-- but for one file, its texts and what is to fail the station is as it was, its past with it
pub record StandsStillBut (f : FileNo) (old new : Bench) : Type 0 where
  pub tells_is : tells_of new ≡ tells_of old
  pub clock_is : clock_of new ≡ clock_of old
  pub moments_are : IsTrue (tells_of old) → (k : ℕ) → k < clock_of old
      → (world_of new).moment k ≡ (world_of old).moment k
  pub told_are : IsTrue (tells_of old) → SameBut f (world_of old) (world_of new)
  pub told_said : IsTrue (tells_of old) → (now (world_of new)).said ≡ (now (world_of old)).said
  pub inside_is : (world_of new).inside ≡ (world_of old).inside
  pub strays_are : (world_of new).strays ≡ (world_of old).strays
  pub files_are : (q : FileNo) → q ≢ f → file_at new q ≡ file_at old q
  pub said_is : said_of new ≡ said_of old
  pub starved_is : starved_of new ≡ starved_of old
  pub folder_is : (faults_of new).folder ≡ (faults_of old).folder
  pub say_is : (faults_of new).say ≡ (faults_of old).say
  pub text_is : (path : List ℕ) → (faults_of new).text path ≡ (faults_of old).text path
  pub reads_are : SameReads old new

-- the file has these bytes, all of them firm, and the watch looked at it
pub record PutsFile (f : FileNo) (bytes : List ℕ) (old new : Bench) : Type 0 where
  pub file_is : file_at new f ≡ firm_file bytes
  pub told_is : IsTrue (tells_of new) → file (world_of new) f ≡ firm_file bytes
  pub watch_is : watch_of new ≡ seen (watch_of old) (file_at new)

-- the texts are as they were
abbrev pub SameTexts : Bench → Bench → Type 0
SameTexts old new = (path : List ℕ) → (world_of new).texts path ≡ (world_of old).texts path

-- the same calls are to fail
pub record SameFailures (old new : Bench) : Type 0 where
  pub lists_are : (n : ℕ) → lists new n ≡ lists old n
  pub watch_is : watch_of new ≡ watch_of old
