-- Reading the entries of all steps, and saying their lines.
use Rattle.std.proofs.Common.{◌≡◌, ◌∙◌, ℕ, ◌+◌, ◌<◌, ◌≤◌, Bool, false, List, length, sym, ap, subst, arith}
use Rattle.std.specs.Prelude.{Result, Ok, Err, slice_index_or}
use Rattle.std.specs.List.{flat_map}
use Rattle.shelf_model.specs.Folder.{Folder}
use Rattle.shelf_model.specs.World.{World, now}
use Rattle.shelf_model.proofs.Runs.{at_end}
use Rattle.catalogue.specs.Counts.{present, count_in}
use Rattle.diagram_list.specs.declared.fault.ListFault.{ListFault}
use Rattle.diagram_list.specs.Listing.{is_dropped, step_line, first_steps, listing}
use Rattle.diagram_list.specs.Saying.{IsSaying}
use Rattle.diagram_list.specs.Lists.{WereRead, IsNext, SaysText}
use Rattle.diagram_list.proofs.Steps.{lines_more, lines_first}
use Rattle.diagram_list.proofs.Saying.{says_then, says_longer}

-- the lines of the first steps of a folder
abbrev pub lines_before : ℕ → Folder → List ℕ
lines_before k folder = flat_map (step_line (present folder) (count_in (present folder))) (first_steps k)

-- a committed step whose entry was read is the next
pub next_step : (k n : ℕ) (marks : List Bool) (mark : Bool) (old new : Folder) → new ≡ old → n ≡ count_in (present old) → k < n → n ≤ length marks → mark ≡ slice_index_or marks k false
    → WereRead n (present old) marks → IsNext k mark (present new)
next_step k n marks mark old new same counts before room mark_is read =
    subst (λ folder. IsNext k mark (present folder)) (sym same) (record {
      within = subst (λ m. k < m) counts before;
      mark_is = mark_is ∙ read.marks_are k (omega (arith, before, room)) ∙ ap (λ m. is_dropped (present old) m k) counts;
      stands = read.stand k before;
    })

-- its line was said behind the others
pub lines_on : (k : ℕ) (result : Result Unit ListFault) (old mid new : World) → SaysText (lines_before k (now old).folder) (Ok tt) old mid
    → SaysText (step_line (present (now mid).folder) (count_in (present (now mid).folder)) k) result mid new → SaysText (lines_before (k + 1) (now old).folder) result old new
lines_on k result old mid new so_far says =
    let same : (now mid).folder ≡ (now old).folder = (at_end old mid (IsSaying (lines_before k (now old).folder) (now old)) so_far.moments).folder_is in
    let line : SaysText (step_line (present (now old).folder) (count_in (present (now old).folder)) k) result mid new =
    subst (λ folder. SaysText (step_line (present folder) (count_in (present folder)) k) result mid new) same says in
    subst (λ text. SaysText text result old new) (lines_more (step_line (present (now old).folder) (count_in (present (now old).folder))) k)
    (says_then (lines_before k (now old).folder) (step_line (present (now old).folder) (count_in (present (now old).folder)) k) result old mid new so_far line)

-- a list that a fault stopped
pub lines_stopped : (k n : ℕ) (fault : ListFault) (old new : World) → n ≡ count_in (present (now old).folder) → k < n → SaysText (lines_before (k + 1) (now old).folder) (Err fault) old new
    → SaysText (listing (present (now old).folder)) (Err fault) old new
lines_stopped k n fault old new counts before says =
    let within : k + 1 ≤ count_in (present (now old).folder) = omega (arith, counts, before) in
    let first = lines_first (step_line (present (now old).folder) (count_in (present (now old).folder))) (k + 1) (count_in (present (now old).folder)) within in
    subst (λ text. SaysText text (Err fault) old new) (sym first.1) (says_longer (lines_before (k + 1) (now old).folder) first.0 fault old new says)

-- all lines
pub lines_all : (n : ℕ) (old new : World) → n ≡ count_in (present (now old).folder) → SaysText (lines_before n (now old).folder) (Ok tt) old new → SaysText (listing (present (now old).folder)) (Ok tt) old new
lines_all n old new counts says = subst (λ m. SaysText (lines_before m (now old).folder) (Ok tt) old new) counts says
