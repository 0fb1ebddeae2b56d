-- What a step that begins anew makes, leaves and costs, by what a way of it does, and after files were looked at.
use Rattle.std.proofs.Common.{◌≡◌, ◌⊎◌, ◌∙◌, ℕ, ◌+◌, ◌-◌, ◌*◌, ◌^◌, ◌<◌, ◌≤◌, Bool, IsTrue, List, length, refl, sym, subst, ap, inl, inr, arith}
use Rattle.std.specs.Prelude.{Result, Ok, Err, IsErrAnd, None}
use Rattle.rec_words.specs.Words.{node_size}
use Rattle.shelf_model.specs.declared.file_no.FileNo.{FileNo}
use Rattle.shelf_model.specs.declared.fault.StreamFault.{StreamFault}
use Rattle.shelf_model.specs.declared.fault.StreamFault.TheVariants as stream
use Rattle.shelf_model.specs.declared.sort_fault.SortFault.{SortFault}
use Rattle.shelf_model.specs.declared.sort_fault.SortFault.TheVariants.{Shelf, Damaged, RunsSpent}
use Rattle.shelf_model.specs.Calls.{Told}
use Rattle.shelf_model.specs.Faults.{Faults}
use Rattle.shelf_model.specs.File.{File}
use Rattle.shelf_model.specs.Folder.{Folder, file_in}
use Rattle.shelf_model.specs.Moments.{Ran, Stays, Throughout, OnlyChanged}
use Rattle.shelf_model.specs.SortFaults.{handed_on}
use Rattle.shelf_model.specs.World.{Moment, World, now, file}
use Rattle.shelf_model.proofs.Changing.{told_changed_then, told_changed_more}
use Rattle.shelf_model.proofs.Runs.{joins, told, told_here, ran_stands, ran_weakens}
use Rattle.block_stream.specs.Reads.{Looked}
use Rattle.file_numbers.specs.Files.{checkpoint_gate}
use Rattle.run_tiers.specs.Faults.{OnlySortShelf}
use Rattle.run_tiers.specs.Syncs.{IsFirm}
use Rattle.run_tiers.proofs.FaultLaws.{sort_shelf_then}
use Rattle.step_going.specs.Standing.{AreSafe, HasNone}
use Rattle.step_going.proofs.Kept.{safe_over}
use Rattle.sweep_core.specs.Sweeps.{IsNoDamage}
use Rattle.sweep_core.proofs.Untaken.{none_then}
use Rattle.node_file.specs.Nodes.{HasTrailer}
use Rattle.node_reading.specs.Reading.{IsDamagedNode}
use Rattle.node_file.specs.Canonical.{IsMade}
use Rattle.node_file.specs.Changes.{Changed}
use Rattle.copied_diagrams.specs.Pairs.{ArePair, IsPairDamage}
use Rattle.copied_diagrams.proofs.PairRuns.{looked_same, file_before}
use Rattle.top_down_sweep.specs.declared.beginning.OperandFiles.{OperandFiles}
use Rattle.resumable.specs.Diagrams.{diagram_rests}
use Rattle.resumable.proofs.DiagramPoints.{diagram_local}
use Rattle.step_sweeps.specs.declared.diagram.MadeDiagram.{MadeDiagram}
use Rattle.step_sweeps.specs.declared.task.Making.{Making}
use Rattle.step_sweeps.specs.Damage.{MissesIn, IsDamagedBy, IsOperandsFault, IsArcsFault}
use Rattle.step_sweeps.specs.Given.{Tables}
use Rattle.step_sweeps.specs.Made.{node_file, OnlyStep}
use Rattle.step_sweeps.specs.Makes.{IsGiven, HasNoGate, table_by, nodes_for, work_for, goes_on_by}
use Rattle.step_sweeps.specs.Ways.{IsGivenAnew, MakesAtOnce, MakesAnew}
use Rattle.step_going.proofs.Shown.{stops_more, stops_join}
use Rattle.step_sweeps.proofs.Faults.{no_damage}
use Rattle.step_sweeps.proofs.StopsAnew.{stops_anew}
use Rattle.step_sweeps.proofs.Running.{gate_apart, ok_more, ok_both, err_more}
use Rattle.step_sweeps.proofs.Unfilled.{none_by_nodes}

-- damage of a file that is as it was
still_damaged : (Misses : List ℕ → ℕ → Type 0) (n : ℕ) (read : FileNo) (old new : World) (f : FileNo) (at : ℕ)
    → file new read ≡ file old read → IsDamagedBy Misses n read new f at → IsDamagedBy Misses n read old f at
still_damaged Misses n read old new f at same damage =
    subst (λ (x : File). (f ≡ read) × (((f ≡ read) × (at ≡ length x.bytes - node_size) × ((root : ℕ) → ¬ HasTrailer n root x.bytes))
    ⊎ (IsDamagedNode n x.bytes at ⊎ Misses x.bytes at))) same damage

-- so a fault that is found after a look was there before
fault_before : (Misses : List ℕ → ℕ → Type 0) (n looked : ℕ) (operands : OperandFiles) (old mid : World) (e : SortFault)
    → Looked looked old mid → IsOperandsFault Misses n operands mid e → IsOperandsFault Misses n operands old e
fault_before Misses n looked operands old mid Shelf look is = tt
fault_before Misses n looked operands old mid (Damaged f at) look (inl one) =
    inl (still_damaged Misses n operands.first old mid f at (looked_same looked operands.first old mid look) one)
fault_before Misses n looked operands old mid (Damaged f at) look (inr (inl two)) =
    inr (inl (still_damaged Misses n operands.second old mid f at (looked_same looked operands.second old mid look) two))
fault_before Misses n looked operands old mid (Damaged f at) look (inr (inr three)) =
    inr (inr (still_damaged Misses n operands.third old mid f at (looked_same looked operands.third old mid look) three))
fault_before Misses n looked operands old mid RunsSpent look is = tt

-- a trailer that isn't there is damage of an operand
pub pair_fault : (Misses : List ℕ → ℕ → Type 0) (n : ℕ) (operands : OperandFiles) (world : World) (e : StreamFault)
    → IsPairDamage n operands.first operands.second world e → IsOperandsFault Misses n operands world (handed_on e)
pair_fault Misses n operands world stream.Shelf damage = tt
pair_fault Misses n operands world (stream.Damaged f at) (inl one) =
    inl (one.0, inl (one.0, one.1.0, one.1.1))
pair_fault Misses n operands world (stream.Damaged f at) (inr two) =
    inr (inl (two.0, inl (two.0, two.1.0, two.1.1)))

-- what a step is given is as it was
still_firm : (looked : ℕ) (f : FileNo) (old mid : World) → Looked looked old mid → IsFirm (file old f)
    → IsFirm (file mid f)
still_firm looked f old mid look = subst IsFirm (sym (looked_same looked f old mid look))

pub still_given : (making : Making) (looked : ℕ) (old mid : World) (g : Tables) → Looked looked old mid
    → IsGivenAnew making old g → IsGivenAnew making mid g
still_given making looked old mid g look is = record {
  given = record {
    first = file_before making.n looked g.first making.operands.first old mid look is.given.first;
    second = file_before making.n looked g.second making.operands.second old mid look is.given.second;
    third = file_before making.n looked g.third making.operands.third old mid look is.given.third;
    repeated = is.given.repeated;
  };
  firm = record {
    first = still_firm looked making.operands.first old mid look is.firm.first;
    second = still_firm looked making.operands.second old mid look is.firm.second;
    third = still_firm looked making.operands.third old mid look is.firm.third;
  };
  none = looked_same looked (checkpoint_gate making.number) old mid look ∙ is.none;
}

still_none : (number looked : ℕ) (old mid : World) → Looked looked old mid → HasNoGate number old
    → HasNoGate number mid
still_none number looked old mid look none =
    ap (λ (x : File). x.bytes) (looked_same looked (checkpoint_gate number) old mid look) ∙ none

-- a look changes no file, and so not the step's node file either
pub looked_changed : (number looked : ℕ) (old new : World) → Looked looked old new
    → Ran (OnlyChanged (λ q. q ≡ node_file number) (now old)) old new
looked_changed number looked old new look =
    ran_weakens old new (Stays (now old)) (OnlyChanged (λ q. q ≡ node_file number) (now old))
    (λ m stays f outside. ap (λ (d : Folder). file_in d f) stays) look.run

pub looked_step : {S : Type 0} (tells : S → Bool) (world : S → World) (number looked : ℕ) (old new : S)
    → Told tells old new (Looked looked (world old) (world new))
    → Told tells old new (Ran (OnlyStep number (now (world old))) (world old) (world new))
looked_step tells world number looked old new look = told tells old new _ _ look
    (λ _ did. ran_weakens (world old) (world new) (Stays (now (world old))) (OnlyStep number (now (world old)))
    (λ m stays f outside. ap (λ (d : Folder). file_in d f) stays) did.run)

-- the node file is one of the step
pub node_changes : {S : Type 0} (tells : S → Bool) (world : S → World) (number : ℕ) (old new : S)
    → Told tells old new (Ran (OnlyChanged (λ q. q ≡ node_file number) (now (world old))) (world old) (world new))
    → Told tells old new (Ran (OnlyStep number (now (world old))) (world old) (world new))
node_changes tells world number old new did = told_changed_more tells world (λ q. q ≡ node_file number)
    (λ q. q.step ≡ number) old new (λ f is. ap (λ (x : FileNo). x.step) is) did

-- what is made changes it alone
pub changed_run : {S : Type 0} (tells : S → Bool) (world : S → World) (number most : ℕ) (old new : S)
    → Told tells old new (Changed most (node_file number) (world old) (world new))
    → Told tells old new (Ran (OnlyChanged (λ q. q ≡ node_file number) (now (world old))) (world old) (world new))
changed_run tells world number most old new did = told tells old new _ _ did (λ _ changed. changed.run)

-- where no checkpoint is gated and only the node file changes, what a stop leaves can be begun again
pub safe_anew : (making : Making) (g : Tables) (old new : World) → HasNone making.number (now old).folder
    → Ran (OnlyChanged (λ q. q ≡ node_file making.number) (now old)) old new
    → Throughout old new (λ (m : Moment). AreSafe (goes_on_by making g) making.number m.folder)
safe_anew making g old new none run = safe_over (goes_on_by making g) diagram_rests making.number
    (diagram_local making.operation making.n making.operands making.number g) (λ q. q ≡ node_file making.number)
    0 None (gate_apart making.number) tt old new run none

-- a look of so many calls counts as turns that pay for it: so many were made before it, and so many are made with it
pub record Pays (making : Making) (world : World) (looked first counted : ℕ) (left later : Tables → ℕ) (some more : ℕ)
    : Type 0 where
  pub turns : (g : Tables) → IsGiven making world g → counted + left g ≤ first + later g
  pub few_calls : (g : Tables) → IsGiven making world g → looked + 229 * left g + more ≤ 229 * later g + some
  pub calls : counted < 2 ^ 64 - 1 → looked + 229 * first + more ≤ 229 * counted + some

module _ {S : Type 0} (tells : S → Bool) (world : S → World) (counts : S → Faults) (making : Making) where
  -- a diagram of so many nodes that was made at once, with a turn for each node and one
  pub made_at_once : (count : ℕ) (m : MadeDiagram) (old new : S)
      → m ≡ record { nodes = count; turns = count + 1; next = 3 }
      → (IsTrue (tells new) → (g : Tables) → IsGiven making (world old) g
      → IsMade making.n (table_by making g) (node_file making.number) count (world new) × (count ≤ nodes_for making g))
      → count < 65536 → Told tells old new (Changed (2 * count + 4) (node_file making.number) (world old) (world new))
      → OnlySortShelf {T = MadeDiagram} (counts old) (counts new) (Ok m)
      → MakesAtOnce tells world counts making old new (Ok m)
  made_at_once count m old new is made small content faults =
      let nodes : m.nodes ≡ count = ap (λ (x : MadeDiagram). x.nodes) is in
      let turns_are : m.turns ≡ count + 1 = ap (λ (x : MadeDiagram). x.turns) is in
      let next : m.next ≡ 3 = ap (λ (x : MadeDiagram). x.next) is in
      record {
        made = λ told g given.
            let done = made told g given in
            let fewer = done.1 in
            record {
              made = record {
                form = done.0.form;
                file_is = done.0.file_is;
                nodes_are = nodes ∙ done.0.nodes_are;
              };
              few = omega (arith, turns_are, fewer);
            };
        cause = tt;
        few_calls = λ told g given.
            let fewer = (made told g given).1 in
            let calls = (content.did told).few in
            omega (arith, fewer, calls);
        content = changed_run tells world making.number (2 * count + 4) old new content;
        counted = record {
          some = omega (arith, turns_are);
          from = omega (arith, next);
          below = omega (arith, next);
          few = omega (arith, next);
        };
        few_anew = omega (arith, next);
        calls = λ told below. let calls = (content.did told).few in omega (arith, calls, turns_are);
        short = λ told. let calls = (content.did told).few in omega (arith, calls, small);
        faults = faults;
      }

  -- the folder failed while it was made
  pub failed_at_once : (count : ℕ) (old new : S) (r : Result MadeDiagram SortFault)
      → IsErrAnd r (λ x. IsTrue (tells new) → x ≡ Shelf) → count < 65536
      → Told tells old new (Changed (2 * count + 4) (node_file making.number) (world old) (world new))
      → (IsTrue (tells old) → (g : Tables) → IsGiven making (world old) g → count ≤ nodes_for making g)
      → OnlySortShelf (counts old) (counts new) r
      → MakesAtOnce tells world counts making old new r
  failed_at_once count old new (Ok x) is small content few faults = absurd is
  failed_at_once count old new (Err x) is small content few faults = record {
    made = tt;
    cause = λ told. (
      subst IsNoDamage (sym (is told)) tt,
      λ same. absurd (let never : Shelf ≡ RunsSpent = sym (is told) ∙ same in cc),
    );
    few_calls = λ told g given.
        let calls = (content.did told).few in
        let within = few (content.before told) g given in
        omega (arith, calls, within);
    content = changed_run tells world making.number (2 * count + 4) old new content;
    counted = tt;
    few_anew = tt;
    calls = tt;
    short = λ told. let calls = (content.did told).few in omega (arith, calls, small);
    faults = faults;
  }

  -- what is made at once is made anew
  pub at_once_anew : (stop : ℕ) (old new : S) (r : Result MadeDiagram SortFault) → 2 ^ 18 ≤ stop
      → MakesAtOnce tells world counts making old new r → MakesAnew tells world counts making 0 (λ g. 0) 7 stop old new r
  at_once_anew stop old new (Ok m) more makes = record {
    made = λ told g is. makes.made told g is.given;
    undamaged = tt;
    spent = λ was. absurd (cc);
    few_calls = λ told g is. let calls = makes.few_calls told g is.given in omega (arith, calls);
    images = λ told g is. safe_anew making g (world old) (world new) is.none (makes.content.did told);
    damaged = tt;
    content = node_changes tells world making.number old new makes.content;
    counted = (omega arith, makes.counted);
    few_anew = makes.few_anew;
    untaken = λ told. let from = makes.counted.from in
        none_by_nodes making.number m.next (world old) (world new) (omega (arith, from)) (makes.content.did told);
    calls = λ told below. let calls = makes.calls told below in omega (arith, calls);
    stops = λ told g is work. stops_anew making.number ((world old).clock + stop) (world old) (world new) is.none
        (makes.content.did told) (let short = makes.short told in omega (arith, short, more));
    faults = makes.faults;
  }
  at_once_anew stop old new (Err e) more makes = record {
    made = tt;
    undamaged = λ told g is. (makes.cause told).0;
    spent = λ was told g is. absurd (let same : e ≡ RunsSpent = cc in (makes.cause told).1 same);
    few_calls = λ told g is. let calls = makes.few_calls told g is.given in omega (arith, calls);
    images = λ told g is. safe_anew making g (world old) (world new) is.none (makes.content.did told);
    damaged = λ told none. no_damage (MissesIn making.operation making.operands) making.n making.operands (world old) e (makes.cause told).0;
    content = node_changes tells world making.number old new makes.content;
    counted = tt;
    few_anew = tt;
    untaken = tt;
    calls = tt;
    stops = λ told g is work. stops_anew making.number ((world old).clock + stop) (world old) (world new) is.none
        (makes.content.did told) (let short = makes.short told in omega (arith, short, more));
    faults = makes.faults;
  }

  -- the folder failed while the node file was made
  pub failed : (first : ℕ) (left : Tables → ℕ) (some stop : ℕ) (old new : S) (r : Result MadeDiagram SortFault)
      → IsErrAnd r (λ x. IsTrue (tells new) → x ≡ Shelf)
      → (IsTrue (tells new) → (g : Tables) → IsGiven making (world old) g
      → (world new).clock + 229 * left g ≤ (world old).clock + (229 * work_for making g + some))
      → (IsTrue (tells new) → (world new).clock ≤ (world old).clock + stop)
      → Told tells old new (Ran (OnlyChanged (λ q. q ≡ node_file making.number) (now (world old))) (world old) (world new))
      → OnlySortShelf (counts old) (counts new) r
      → MakesAnew tells world counts making first left some stop old new r
  failed first left some stop old new (Ok x) is few short content faults = absurd is
  failed first left some stop old new (Err x) is few short content faults = record {
    made = tt;
    undamaged = λ told g given. subst IsNoDamage (sym (is told)) tt;
    spent = λ was told. absurd
        (let same : x ≡ RunsSpent = cc in let never : Shelf ≡ RunsSpent = sym (is told) ∙ same in cc);
    few_calls = λ told g given. few told g given.given;
    images = λ told g given. safe_anew making g (world old) (world new) given.none (content.did told);
    damaged = λ told none. subst (IsArcsFault making.operation making.n making.operands (world old)) (sym (is told)) tt;
    content = node_changes tells world making.number old new content;
    counted = tt;
    few_anew = tt;
    untaken = tt;
    calls = tt;
    stops = λ told g given work. stops_anew making.number ((world old).clock + stop) (world old) (world new) given.none
        (content.did told) (short told);
    faults = faults;
  }

  -- what is made after a look, which counts as turns that were made before
  pub after_look : (looked first counted : ℕ) (left later : Tables → ℕ) (some more stop within : ℕ) (old mid new : S)
      (r : Result MadeDiagram SortFault) → first ≤ counted
      → (IsTrue (tells mid) → (world mid).clock + within ≤ (world old).clock + stop)
      → (IsTrue (tells old) → Pays making (world old) looked first counted left later some more)
      → Told tells old mid (Looked looked (world old) (world mid))
      → OnlySortShelf {T = Unit} (counts old) (counts mid) (Ok tt)
      → MakesAnew tells world counts making counted later more within mid new r
      → MakesAnew tells world counts making first left some stop old new r
  after_look looked first counted left later some more stop within old mid new r counts_on soon pays look calm makes =
      let looked_at : IsTrue (tells new) → Looked looked (world old) (world mid) =
      λ told. look.did (makes.content.before told) in
      let paid : IsTrue (tells new) → Pays making (world old) looked first counted left later some more =
      λ told. pays (look.before (makes.content.before told)) in
      record {
        made = ok_more r _ _ (λ m made told g given.
            let diagram = made told g (still_given making looked (world old) (world mid) g (looked_at told) given) in
            let few = diagram.few in
            let pay = (paid told).turns g given.given in
            record { made = diagram.made; few = omega (arith, few, pay) }) makes.made;
        undamaged = err_more r _ _ (λ e none told g given.
            none told g (still_given making looked (world old) (world mid) g (looked_at told) given)) makes.undamaged;
        spent = λ was told g given.
            makes.spent was told g (still_given making looked (world old) (world mid) g (looked_at told) given);
        few_calls = λ told g given.
            let first_calls = (looked_at told).few in
            let calls = makes.few_calls told g
            (still_given making looked (world old) (world mid) g (looked_at told) given) in
            let pay = (paid told).few_calls g given.given in
            omega (arith, first_calls, calls, pay);
        images = λ told g given.
            joins (world old) (world mid) (world new) _
            (safe_anew making g (world old) (world mid) given.none
            (looked_changed making.number looked (world old) (world mid) (looked_at told)))
            (makes.images told g (still_given making looked (world old) (world mid) g (looked_at told) given));
        damaged = err_more r _ _ (λ e damaged told none.
            fault_before (MissesIn making.operation making.operands) making.n looked making.operands (world old) (world mid) e (looked_at told)
            (damaged told (still_none making.number looked (world old) (world mid) (looked_at told) none)))
            makes.damaged;
        content = told_changed_then tells world _ _ old mid new (λ f is. is)
            (looked_step tells world making.number looked old mid look) makes.content;
        counted = ok_more r _ _ (λ m is.
            let within = is.0 in (omega (arith, counts_on, within), is.1)) makes.counted;
        few_anew = makes.few_anew;
        untaken = ok_both r _ _ _ (λ m is none told. none_then making.number m.next m.next (world old) (world mid)
            (world new) (omega arith) (let from = is.1.from in none_by_nodes making.number m.next (world old) (world mid)
            (omega (arith, from)) (looked_changed making.number looked (world old) (world mid) (looked_at told)))
            (none told)) makes.counted makes.untaken;
        calls = ok_both r _ _ _ (λ m is calls told below.
            let first_calls = (looked_at told).few in
            let within = is.0 in
            let then_calls = calls told below in
            let pay = (paid told).calls (omega (arith, within, below)) in
            omega (arith, first_calls, then_calls, pay)) makes.counted makes.calls;
        stops = λ told g given work.
            let most : ℕ = (world old).clock + stop in
            let told_mid = makes.content.before told in
            let less = soon told_mid in
            stops_join making.number 0 most (world old) (world mid) (world new) (makes.content.did told).moments.past
            (stops_anew making.number most (world old) (world mid) given.none
            (looked_changed making.number looked (world old) (world mid) (looked_at told)) (omega (arith, less)))
            (stops_more making.number 0 ((world mid).clock + within) most (world mid) (world new) less
            (makes.stops told g (still_given making looked (world old) (world mid) g (looked_at told) given) work));
        faults = sort_shelf_then _ _ _ (Ok tt) r calm makes.faults;
      }

  -- what leaves more of the work, and makes no more calls
  pub with_less : (first : ℕ) (left later : Tables → ℕ) (some more stop within : ℕ) (old new : S)
      (r : Result MadeDiagram SortFault) → ((g : Tables) → left g ≤ later g) → more ≤ some → within ≤ stop
      → MakesAnew tells world counts making first later more within old new r
      → MakesAnew tells world counts making first left some stop old new r
  with_less first left later some more stop within old new r less few soon makes =
      after_look 0 first first left later some more stop within old old new r
      (omega arith) (λ told. omega (arith, soon))
      (λ told. record {
        turns = λ g _. let fewer = less g in omega (arith, fewer);
        few_calls = λ g _. let fewer = less g in omega (arith, fewer, few);
        calls = λ _. omega (arith, few);
      })
      (told_here tells old _ (λ _. record {
        run = ran_stands (world old) (Stays (now (world old))) refl;
        few = omega arith;
      }))
      (record { later = omega arith; cause = λ is. absurd (cc); say_is = refl; text_is = λ path. refl })
      makes

  -- the operands' trailers weren't read
  pub look_refused : (stop : ℕ) (old new : S) (e : StreamFault) (r : Result MadeDiagram SortFault) → 4 ≤ stop
      → IsErrAnd r (λ x. x ≡ handed_on e)
      → (IsTrue (tells new) → (t u : List Bool)
      → ArePair making.n making.operands.first making.operands.second t u (world old) → e ≡ stream.Shelf)
      → (IsTrue (tells new) → IsPairDamage making.n making.operands.first making.operands.second (world old) e)
      → Told tells old new (Looked 4 (world old) (world new))
      → OnlySortShelf (counts old) (counts new) r
      → MakesAnew tells world counts making 0 (λ g. 0) 11 stop old new r
  look_refused stop old new e (Ok x) some is sound damaged look faults = absurd is
  look_refused stop old new e (Err x) some is sound damaged look faults = record {
    made = tt;
    undamaged = λ told g given. subst IsNoDamage (sym is) (none_damaged e
        (sound told g.first g.second (record { first = given.given.first; second = given.given.second })));
    spent = λ was. absurd (never_spent e (let same : x ≡ RunsSpent = cc in sym is ∙ same));
    few_calls = λ told g given. let few = (look.did told).few in omega (arith, few);
    images = λ told g given. safe_anew making g (world old) (world new) given.none
        (looked_changed making.number 4 (world old) (world new) (look.did told));
    damaged = λ told none. subst (IsArcsFault making.operation making.n making.operands (world old)) (sym is)
        (pair_fault (MissesIn making.operation making.operands) making.n making.operands (world old) e (damaged told));
    content = looked_step tells world making.number 4 old new look;
    counted = tt;
    few_anew = tt;
    untaken = tt;
    calls = tt;
    stops = λ told g given work. stops_anew making.number ((world old).clock + stop) (world old) (world new) given.none
        (looked_changed making.number 4 (world old) (world new) (look.did told))
        (let few = (look.did told).few in omega (arith, few, some));
    faults = faults;
  }
    where
      none_damaged : (e : StreamFault) → e ≡ stream.Shelf → IsNoDamage (handed_on e)
      none_damaged e is = subst (λ x. IsNoDamage (handed_on x)) (sym is) tt

      never_spent : (e : StreamFault) → handed_on e ≡ RunsSpent → ⊥
      never_spent stream.Shelf is = cc
      never_spent (stream.Damaged f at) is = cc
