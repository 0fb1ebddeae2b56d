-- The files of a job that ran to its end.
use Rattle.std.proofs.Common.{◌≡◌, ℕ, ◌∙◌, false, List, [], ◌∷◌, length, take, refl, sym, ap, subst, inl, inr, arith}
use Rattle.std.specs.Prelude.{◌↔◌, IsTrue, if◌then◌else◌}
use Rattle.std.proofs.lemmas.List.{take_all}
use Rattle.bool_tables.specs.declared.steps.Planned.{Planned}
use Rattle.bool_tables.specs.Plans.{is_live}
use Rattle.shelf_model.specs.declared.file_no.FileNo.{FileNo}
use Rattle.shelf_model.specs.Folder.{Image, bytes_in}
use Rattle.shelf_model.specs.World.{now}
use Rattle.catalogue.specs.Files.{step_gate}
use Rattle.catalogue.specs.Counts.{is_stored, count_in}
use Rattle.canon_file.specs.Canon.{canon_nodes, canon_root, canon_bytes}
use Rattle.canon_file.specs.Laws.{HasForm, IsUnique, Walks}
use Rattle.sound_image.specs.Jobs.{Job, table_at, file_of}
use Rattle.sound_image.specs.Files.{node_file}
use Rattle.sound_image.specs.Sound.{IsShown}
use Rattle.script_runner.specs.Entered.{IsMoment}
use Rattle.script_runner.specs.Running.{IsSafe}
use Rattle.script_runner.specs.Finished.{IsDiagramOf, IsFinished}

-- no step is live where there is none
none_live : (steps : List Planned) (s : ℕ) → length steps ≡ 0 → IsTrue (is_live steps s) → ⊥
none_live [] s none live = absurd cc
none_live (x ∷ steps) s none live = absurd (omega (arith, none))

-- without a job no step counts
none_counts : (r : FileNo → List ℕ) → is_stored r ≡ false → count_in r ≡ 0
none_counts r none = ap (λ stored. if stored then length (r step_gate) else 0) none

-- where all steps count, each diagram that is live has its canonical file, which is defined for its table
shown_live : (job : Job) (r : FileNo → List ℕ) → IsShown job r → count_in r ≡ length job.steps → (s : ℕ)
    → IsTrue (is_live job.steps s) → (r (node_file s) ≡ file_of job s) × HasForm job.n (table_at job s)
shown_live job r (inl none) all s live =
    absurd (none_live job.steps s (sym all ∙ none_counts r none.0) live)
shown_live job r (inr shows) all s live =
    let steps : take (count_in r) job.steps ≡ job.steps =
    ap (λ k. take k job.steps) all ∙ take_all (length job.steps) job.steps (omega arith) in
    let counted : IsTrue (is_live (take (count_in r) job.steps) s) =
    subst (λ (x : List Planned). IsTrue (is_live x s)) (sym steps) live in
    (shows.files s counted, shows.forms s counted)

-- so it is in an image that a run to the end leaves
pub finished_live : (job : Job) (image : Image) → IsFinished job image → (s : ℕ) → IsTrue (is_live job.steps s)
    → (bytes_in image (node_file s) ≡ file_of job s) × HasForm job.n (table_at job s)
finished_live job image done s live =
    let last : IsMoment job done.lines done.start (now done.new) =
    done.ran.moments.each done.new.clock done.ran.moments.later (omega arith) in
    let safe : IsSafe job done.lines done.start.folder last.front (bytes_in image) =
    (last.running.safe_run done.sound).safe image done.is_image in
    shown_live job (bytes_in image) safe.sound.shown (done.ran.all refl image done.is_image) s live

pub finished_means : (walks : (n : ℕ) → Walks n) (job : Job) (image : Image) → IsFinished job image → (s : ℕ)
    → IsTrue (is_live job.steps s) → IsDiagramOf job.n (table_at job s) (bytes_in image (node_file s))
unfolding canon_bytes
finished_means walks job image done s live =
    let has : (bytes_in image (node_file s) ≡ file_of job s) × HasForm job.n (table_at job s) =
    finished_live job image done s live in
    record {
      nodes = canon_nodes job.n (table_at job s);
      root = canon_root job.n (table_at job s);
      bytes_are = has.0;
      leads = λ bits digits. walks job.n (table_at job s) bits has.1 digits;
    }

pub finished_equal : (unique : (n : ℕ) → IsUnique n) (job other : Job) (image second : Image) → IsFinished job image
    → IsFinished other second → other.n ≡ job.n → (s k : ℕ) → IsTrue (is_live job.steps s)
    → IsTrue (is_live other.steps k)
    → (bytes_in image (node_file s) ≡ bytes_in second (node_file k)) ↔ (table_at job s ≡ table_at other k)
finished_equal unique job other image second done ended many s k live lives =
    let one : (bytes_in image (node_file s) ≡ file_of job s) × HasForm job.n (table_at job s) =
    finished_live job image done s live in
    let two : (bytes_in second (node_file k) ≡ file_of other k) × HasForm other.n (table_at other k) =
    finished_live other second ended k lives in
    let there : bytes_in second (node_file k) ≡ canon_bytes job.n (table_at other k) =
    two.0 ∙ ap (λ n. canon_bytes n (table_at other k)) many in
    let form : HasForm job.n (table_at other k) = subst (λ n. HasForm n (table_at other k)) many two.1 in
    let both : (canon_bytes job.n (table_at job s) ≡ canon_bytes job.n (table_at other k)) ↔ (table_at job s ≡ table_at other k) =
    unique job.n (table_at job s) (table_at other k) one.1 form in (
      λ same. both.0 (sym one.0 ∙ (same ∙ there)),
      λ same. one.0 ∙ (both.1 same ∙ sym there),
    )
