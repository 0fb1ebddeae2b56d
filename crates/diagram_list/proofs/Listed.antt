-- What a list leaves, by its parts.
use Rattle.std.proofs.Common.{◌≡◌, ◌≢◌, ◌∙◌, ℕ, Bool, List, ◌++◌, sym, ap, subst, inl, inr}
use Rattle.std.specs.Prelude.{Result, Ok, Err}
use Rattle.shelf_model.specs.declared.file_no.FileNo.{FileNo}
use Rattle.shelf_model.specs.declared.fault.StreamFault.{StreamFault}
use Rattle.shelf_model.specs.declared.fault.StreamFault.TheVariants as stream
use Rattle.shelf_model.specs.World.{Moment, World, now, said}
use Rattle.shelf_model.specs.Moments.{Throughout, Quiet, Stays, Ran}
use Rattle.shelf_model.proofs.Runs.{joins, weakens, ran_end}
use Rattle.catalogue.specs.declared.standing.Standing.{Standing}
use Rattle.catalogue.specs.Counts.{present, count_in}
use Rattle.catalogue.specs.Standings.{standing_found, DuringSyncs}
use Rattle.catalogue.proofs.Synced.{syncs_stay}
use Rattle.diagram_list.specs.declared.fault.ListFault.{ListFault}
use Rattle.diagram_list.specs.declared.fault.ListFault.TheVariants.{Damaged}
use Rattle.diagram_list.specs.Faults.{list_fault}
use Rattle.diagram_list.specs.Listing.{listing}
use Rattle.diagram_list.specs.Saying.{IsSaying, StaysThere}
use Rattle.diagram_list.specs.Lists.{StandWhole, WereRead, LacksEntry, SaysText, DuringList, Lists}
use Rattle.diagram_list.proofs.SayingLaws.{says_nothing, stays_on_shelf, stays_then}

-- what is read of a folder while files are made sure
reads_same : (old m : Moment) → DuringSyncs old m → present m.folder ≡ present old.folder
reads_same old m syncs = λ i q. syncs.reads q i

-- the folder was looked at, and nothing was said
looking : (text : List ℕ) (old mid : World) → Ran (DuringSyncs (now old)) old mid → Throughout old mid (DuringList text (now old))
looking text old mid run =
    weakens old mid (Quiet (now old).said (DuringSyncs (now old))) (DuringList text (now old))
    (λ m quiet. record { says = says_nothing (now old).said text m.said quiet.said_is; files = quiet.holds }) run.moments

-- and then its entries were read
pub looked : (text : List ℕ) (old mid new : World) → Ran (DuringSyncs (now old)) old mid → Ran (Stays (now mid)) mid new → Throughout old new (DuringList text (now old))
looked text old mid new run reads =
    let syncs : DuringSyncs (now old) (now mid) = ran_end old mid (DuringSyncs (now old)) run in
    joins old mid new (DuringList text (now old)) (looking text old mid run)
    (weakens mid new (Quiet (now mid).said (Stays (now mid))) (DuringList text (now old))
    (λ m quiet. record {
      says = says_nothing (now old).said text m.said (quiet.said_is ∙ run.station.said_is);
      files = syncs_stay (now old) (now mid) m quiet.holds syncs;
    }) reads.moments)

-- the folder couldn't be looked at, or is damaged
pub lists_not : (fault : StreamFault) (old new : World) → Ran (DuringSyncs (now old)) old new
    → (◌≢◌ {A = Result Standing StreamFault} (Err fault) (Err stream.Shelf) → ◌≡◌ {A = Result Standing StreamFault} (Err fault) (standing_found (present (now old).folder)))
    → Lists (Err (list_fault fault)) old new
lists_not fault old new run answer = record {
  moments = looking (listing (present (now old).folder)) old new run;
  place = stays_on_shelf old new run.station;
  ok = tt;
  whole = tt;
  damaged = λ file at same. record { place = inl (found fault answer file at same); said_is = run.station.said_is };
}
  where
    found : (fault : StreamFault)
        → (◌≢◌ {A = Result Standing StreamFault} (Err fault) (Err stream.Shelf) → ◌≡◌ {A = Result Standing StreamFault} (Err fault) (standing_found (present (now old).folder)))
        → (file : FileNo) (at : ℕ) → list_fault fault ≡ Damaged file at → standing_found (present (now old).folder) ≡ Err (stream.Damaged file at)
    found stream.Shelf answer file at same = absurd cc
    found (stream.Damaged f a) answer file at same =
        let fault_is : ◌≡◌ {A = StreamFault} (stream.Damaged f a) (stream.Damaged file at) = cc in
        sym (answer (λ e. cc)) ∙ ap (λ x. Err x) fault_is

-- an entry couldn't be read, or is damaged
pub lists_none : (fault : StreamFault) (n : ℕ) (old mid new : World) → Ran (DuringSyncs (now old)) old mid → Ran (Stays (now mid)) mid new
    → n ≡ count_in (present (now mid).folder) → LacksEntry n (present (now mid).folder) fault → Lists (Err (list_fault fault)) old new
lists_none fault n old mid new run reads counts lacks = record {
  moments = looked (listing (present (now old).folder)) old mid new run reads;
  place = stays_then old mid new (stays_on_shelf old mid run.station) (stays_on_shelf mid new reads.station);
  ok = tt;
  whole = tt;
  damaged = λ file at same. record {
    place = inr (named fault file at same here);
    said_is = reads.station.said_is ∙ run.station.said_is;
  };
}
  where
    syncs : DuringSyncs (now old) (now mid)
    syncs = ran_end old mid (DuringSyncs (now old)) run

    here : LacksEntry (count_in (present (now old).folder)) (present (now old).folder) fault
    here = subst (λ r. LacksEntry (count_in r) r fault) (reads_same (now old) (now mid) syncs) (subst (λ k. LacksEntry k (present (now mid).folder) fault) counts lacks)

    named : (fault : StreamFault) (file : FileNo) (at : ℕ) → list_fault fault ≡ Damaged file at → LacksEntry (count_in (present (now old).folder)) (present (now old).folder) fault
        → LacksEntry (count_in (present (now old).folder)) (present (now old).folder) (stream.Damaged file at)
    named stream.Shelf file at same lacks = absurd cc
    named (stream.Damaged f a) file at same lacks =
        let fault_is : ◌≡◌ {A = StreamFault} (stream.Damaged f a) (stream.Damaged file at) = cc in
        subst (LacksEntry (count_in (present (now old).folder)) (present (now old).folder)) fault_is lacks

-- the lines were said, or a front part of them
pub lists_said : (result : Result Unit ListFault) (n : ℕ) (marks : List Bool) (old mid late new : World) → Ran (DuringSyncs (now old)) old mid → Ran (Stays (now mid)) mid late
    → n ≡ count_in (present (now mid).folder) → WereRead n (present (now mid).folder) marks → SaysText (listing (present (now late).folder)) result late new → Lists result old new
lists_said result n marks old mid late new run reads counts read says =
    let syncs : DuringSyncs (now old) (now mid) = ran_end old mid (DuringSyncs (now old)) run in
    let stays : (now late).folder ≡ (now mid).folder = ran_end mid late (Stays (now mid)) reads in
    let shown : present (now mid).folder ≡ present (now old).folder = reads_same (now old) (now mid) syncs in
    let text_is : listing (present (now late).folder) ≡ listing (present (now old).folder) = ap (λ folder. listing (present folder)) stays ∙ ap listing shown in
    let before : said late ≡ said old = reads.station.said_is ∙ run.station.said_is in
    let line : SaysText (listing (present (now old).folder)) result late new = subst (λ text. SaysText text result late new) text_is says in
    let stand : StandWhole (count_in (present (now old).folder)) (present (now old).folder) =
    subst (λ r. StandWhole (count_in r) r) shown (subst (λ k. StandWhole k (present (now mid).folder)) counts read.stand) in
    let whole_run : Throughout old new (DuringList (listing (present (now old).folder)) (now old)) =
    joins old late new (DuringList (listing (present (now old).folder)) (now old)) (looked (listing (present (now old).folder)) old mid late run reads)
    (weakens late new (IsSaying (listing (present (now old).folder)) (now late)) (DuringList (listing (present (now old).folder)) (now old))
    (λ m saying. record {
      says = record { front = saying.says.front; rest = saying.says.rest; text_is = saying.says.text_is; said_is = saying.says.said_is ∙ ap (λ b. b ++ saying.says.front) before };
      files = syncs_stay (now old) (now mid) m (saying.folder_is ∙ stays) syncs;
    }) line.moments) in
    let place : StaysThere old new = stays_then old late new (stays_then old mid late (stays_on_shelf old mid run.station) (stays_on_shelf mid late reads.station)) line.place in
    by_result result whole_run place line stand before
  where
    by_result : (result : Result Unit ListFault) → Throughout old new (DuringList (listing (present (now old).folder)) (now old)) → StaysThere old new
        → SaysText (listing (present (now old).folder)) result late new → StandWhole (count_in (present (now old).folder)) (present (now old).folder) → said late ≡ said old → Lists result old new
    by_result (Ok x) run place line stand before = record {
      moments = run;
      place = place;
      ok = line.ok ∙ ap (λ b. b ++ listing (present (now old).folder)) before;
      whole = stand;
      damaged = tt;
    }
    by_result (Err e) run place line stand before = record {
      moments = run;
      place = place;
      ok = tt;
      whole = tt;
      damaged = λ file at same. absurd (line.err (file, at, same));
    }
