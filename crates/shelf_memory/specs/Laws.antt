-- What holds of the present files of every station in memory that tells its content.
use Rattle.std.specs.Prelude.{◌≡◌, ℕ, List, [], ◌∷◌, refl, ◌<◌, ◌-◌, ◌^◌, IsTrue, Option, None, Some}
use Rattle.std.proofs.Common.{sym, ap, subst, ◌∙◌, lit≤}
use Rattle.std.proofs.lemmas.Bool.{ltb-true}
use Rattle.std.specs.Option.{option_map_or}
use Rattle.std.specs.BTreeMap.{BTreeMap, get}
use Rattle.shelf_model.specs.declared.file_no.FileNo.{FileNo}
use Rattle.shelf_model.specs.File.{File, no_file, IsFile}
use Rattle.shelf_model.specs.Folder.{file_cmp, file_in}
use Rattle.shelf_model.specs.World.{Moment, file}
use Rattle.shelf_memory.specs.declared.bench.Bench.{Bench}
use Rattle.shelf_memory.specs.declared.change.Stored.{Stored}
use Rattle.shelf_memory.specs.declared.disk.Disk.{Disk}
use Rattle.shelf_memory.specs.Changes.{file_of}
use Rattle.shelf_memory.specs.Events.{first_moment, replayed, calls_in, first_calls, moment_of}
use Rattle.shelf_memory.specs.Files.{stored_in}
use Rattle.shelf_memory.specs.Past.{Agrees}
use Rattle.shelf_memory.specs.declared.event.Event.{Event}
use Rattle.shelf_memory.specs.declared.event.Event.TheVariants.{Called, Put}
use Rattle.shelf_memory.specs.Benches.{tells_of, world_of}

-- the first calls are all of them
pub first_calls-all : (es : List Event) → first_calls (calls_in es) es ≡ es
unfolding first_calls calls_in
first_calls-all [] = refl
first_calls-all (Called call ∷ es) = ap (λ rest. Called call ∷ rest) (first_calls-all es)
first_calls-all (Put f bytes ∷ es) = ap (λ rest. Put f bytes ∷ rest) (first_calls-all es)

-- what stands after all calls is what the events lead to
pub moment_at_end : (clock : ℕ) (stored : FileNo → File) (bytes : List ℕ) (es : List Event)
    → Agrees clock stored bytes es
    → moment_of es clock ≡ replayed first_moment es
unfolding moment_of
moment_at_end clock stored bytes es agrees =
    ap (λ k. replayed first_moment (first_calls k es)) (sym agrees.calls_are) ∙ ap (replayed first_moment)
    (first_calls-all es)

-- the files that stand now are those that are stored
pub present_file : (d : Disk) → d.clock < 2 ^ 64 - 1 → (f : FileNo)
    → file_in (moment_of d.events.items d.clock).folder f ≡ stored_in d.files f
present_file d counts f =
    ap (λ (m : Moment). file_in m.folder f) (moment_at_end d.clock (stored_in d.files) d.said.items d.events.items
    (d.agrees counts)) ∙ (d.agrees counts).files_are f

-- what was said is what is kept of it
pub present_said : (d : Disk) → d.clock < 2 ^ 64 - 1 → (moment_of d.events.items d.clock).said ≡ d.said.items
present_said d counts =
    ap (λ (m : Moment). m.said) (moment_at_end d.clock (stored_in d.files) d.said.items d.events.items
    (d.agrees counts)) ∙ (d.agrees counts).said_is

-- what is found is a file
found_is_file : (found : Option Stored) → IsFile (option_map_or file_of found no_file)
found_is_file None = record { firm_within = lit≤ tt; reach_beyond = lit≤ tt }
found_is_file (Some stored) = record {
  firm_within = stored.is_stored.firm_within;
  reach_beyond =
      stored.is_stored.reach_beyond;
}

pub stored_is_file : (files : BTreeMap FileNo Stored) (f : FileNo) → IsFile (stored_in files f)
stored_is_file files f = found_is_file (get file_cmp files f)

pub all_are_files : (b : Bench) → IsTrue (tells_of b) → (f : FileNo) → IsFile (file (world_of b) f)
all_are_files b tells f = subst IsFile (sym (present_file b.disk (ltb-true _ _ tells) f))
    (stored_is_file b.disk.files f)
