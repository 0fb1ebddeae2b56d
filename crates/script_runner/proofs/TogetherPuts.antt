-- Entries that are put behind one another and committed together, and files that are emptied then.
use Rattle.std.proofs.Common.{◌≡◌, ◌∙◌, ℕ, ◌+◌, ◌*◌, ◌<◌, ◌≤◌, Bool, List, [], ◌++◌, length, take, drop, get_or, refl, sym, ap, subst, inl, inr, arith}
use Rattle.std.specs.Prelude.{IsTrue, Result, Ok, Err, OnOk}
use Rattle.std.proofs.lemmas.Bool.{cases_lt}
use Rattle.std.proofs.lemmas.Cmp.{nat_eq_equiv}
use Rattle.std.proofs.lemmas.List.{take-take, take_at, length-take-le}
use Rattle.bool_tables.specs.declared.steps.Step.{Step}
use Rattle.bool_tables.specs.declared.steps.Step.TheVariants.{Drop}
use Rattle.bool_tables.specs.declared.steps.Planned.{Planned}
use Rattle.shelf_model.specs.declared.file_no.FileNo.{FileNo}
use Rattle.shelf_model.specs.declared.fault.Failed.{Failed}
use Rattle.shelf_model.specs.File.{File, firm_file}
use Rattle.shelf_model.specs.Folder.{Folder, file_in, bytes_in}
use Rattle.shelf_model.specs.World.{Moment, World, now, file}
use Rattle.shelf_model.specs.Calls.{Told, WasCut}
use Rattle.shelf_model.specs.Faults.{Faults, OnlyFolder}
use Rattle.shelf_model.specs.Moments.{Ran}
use Rattle.shelf_model.proofs.Runs.{told, told_then, told_here, ran_stands, ran_call, ran_joins, ran_weakens, ran_end}
use Rattle.catalogue.specs.declared.layout.Entry.{Entry}
use Rattle.catalogue.specs.Files.{catalogue}
use Rattle.catalogue.specs.Counts.{present, entry_at}
use Rattle.catalogue.specs.Entries.{entry_bytes, IsEntry}
use Rattle.catalogue.specs.Commits.{IsReady, DuringPut, IsPut, IsCountedWithin, DuringCommits, AreCommitted}
use Rattle.catalogue.proofs.Counted.{entry_placed}
use Rattle.catalogue.proofs.Places.{length_entry}
use Rattle.step_work.specs.Plans.{no_step}
use Rattle.sound_image.specs.Files.{node_file}
use Rattle.sound_image.specs.Steps.{IsCutBy, IsTidied}
use Rattle.sound_image.proofs.HoldsLaws.{entry_in_front}
use Rattle.step_engine.specs.OneFile.{OnlyTidied}
use Rattle.step_engine.specs.StepEntries.{nameless_entry, one_turn}
use Rattle.step_engine.proofs.Cutting.{cut_tidies}
use Rattle.script_runner.specs.Together.{ArePutTogether, DuringTogether, AreTogether, OnlyEmptied, IsDropped, TidiedTogether}

-- the entries of two catalogues that have the same front are the same there
same_entry_at : (k n : ℕ) (xs ys : List ℕ) → k < n → 128 * n ≤ length ys → take (128 * n) xs ≡ take (128 * n) ys
    → take 128 (drop (128 * k) xs) ≡ take 128 (drop (128 * k) ys)
same_entry_at k n xs ys below covers same =
    let front : List ℕ = take (128 * n) ys in
    let size : length front ≡ 128 * n = length-take-le (128 * n) ys covers in
    entry_in_front k n front xs size below (ap (λ c. take c xs) size ∙ same)
    ∙ sym (entry_in_front k n front ys size below (ap (λ c. take c ys) size))

-- so an entry stands as it did where others are put behind it
entry_stays : (k n : ℕ) (old new : Folder) (rest : List ℕ) → k < n → 128 * n ≤ length (file_in old catalogue).bytes
    → (file_in new catalogue).bytes ≡ take (128 * n) (file_in old catalogue).bytes ++ rest
    → entry_at k (present new) ≡ entry_at k (present old)
entry_stays k n old new rest below covers is =
    let front : List ℕ = take (128 * n) (file_in old catalogue).bytes in
    let size : length front ≡ 128 * n = length-take-le (128 * n) (file_in old catalogue).bytes covers in
    same_entry_at k n (file_in new catalogue).bytes (file_in old catalogue).bytes below covers
    (ap (take (128 * n)) is ∙ take_at front rest (128 * n) size)

-- the entry of a step is put behind the committed ones
pub first_put : (steps : List Planned) (e : Entry) (old new : Folder) → IsEntry e → IsReady e.number old → IsPut e.number e old new
    → ArePutTogether steps e (e.number + 1) new
first_put steps e old new is ready put = record {
  ready = put.ready;
  placed = λ k from below.
      let same : k ≡ e.number = omega (arith, from, below) in (
        e,
        inl (same, refl),
        ap (λ j. entry_at j (present new)) same
            ∙ entry_placed e.number (file_in old catalogue).bytes (entry_bytes e) (present new) ready.covers (length_entry e is.fits) put.catalogue_is,
      );
  size = put.size;
}

-- and that of a drop behind it
pub next_put : (steps : List Planned) (e x : Entry) (k gone : ℕ) (old new : Folder) → e.number < k → IsEntry x
    → x ≡ nameless_entry k 2 0 gone one_turn → (get_or steps k no_step).step ≡ Drop gone → ArePutTogether steps e k old
    → IsPut e.number x old new → ArePutTogether steps e (k + 1) new
next_put steps e x k gone old new behind is x_is drops_it before put =
    let number : x.number ≡ k = ap (λ (y : Entry). y.number) x_is in
    let size = before.size in
    let covers : 128 * x.number ≤ length (file_in old catalogue).bytes = omega (arith, size, number) in
    record {
      ready = put.ready;
      placed = λ j from below. elim (cases_lt j k) [
        | inl earlier ↦
            let found = before.placed j from earlier in (
              found.0,
              found.1,
              entry_stays j x.number old new (entry_bytes x) (omega (arith, earlier, number)) covers put.catalogue_is ∙ found.2,
            )
        | inr last ↦
            let same : j ≡ k = omega (arith, below, last) in (
              x,
              inr (
                omega (arith, same, behind),
                (
                  gone,
                  ap (λ i. (get_or steps i no_step).step) same ∙ drops_it,
                  x_is ∙ ap (λ i. nameless_entry i 2 0 gone one_turn) (sym same),
                ),
              ),
              ap (λ i. entry_at i (present new)) (same ∙ sym number)
                  ∙ entry_placed x.number (file_in old catalogue).bytes (entry_bytes x) (present new) covers (length_entry x is.fits) put.catalogue_is,
            )
      ];
      size = put.size ∙ ap (λ i. 128 * (i + 1)) number;
    }

-- while it is put, what was so while the first one was put is so
puts_on : (e x : Entry) (old mid m : Moment) → e.number ≤ x.number → DuringPut e.number e old mid → DuringPut e.number x mid m
    → DuringPut e.number e old m
puts_on e x old mid m behind before during = record {
  others = λ q apart. during.others q apart ∙ before.others q apart;
  images = during.images;
  kept = λ front short kept. during.kept front (omega (arith, short, behind)) (before.kept front short kept);
  reads = sym (take-take (128 * e.number) (128 * x.number) (file_in m.folder catalogue).bytes (omega (arith, behind)))
      ∙ ap (take (128 * e.number)) during.reads
      ∙ take-take (128 * e.number) (128 * x.number) (file_in mid.folder catalogue).bytes (omega (arith, behind)) ∙ before.reads;
}

-- while all are put, and while they are committed
together_put : (steps : List Planned) (e : Entry) (until : ℕ) (old m : Moment) → e.number ≤ until → DuringPut e.number e old m
    → DuringTogether steps e until old m
together_put steps e until old m within during = record {
  others = λ q no_catalogue no_gate. during.others q no_catalogue;
  images = λ image is_image. record {
    count = e.number;
    no_fewer = omega arith;
    no_more = within;
    counts = during.images image is_image;
    placed = λ k from below. absurd (omega (arith, from, below));
  };
  kept = during.kept;
  reads = during.reads;
}

together_commits : (steps : List Planned) (e : Entry) (until waiting : ℕ) (old mid m : Moment) → e.number + waiting ≡ until
    → ArePutTogether steps e until mid.folder → DuringPut e.number e old mid → DuringCommits e.number waiting mid m
    → DuringTogether steps e until old m
together_commits steps e until waiting old mid m all put before during = record {
  others = λ q no_catalogue no_gate. during.others q no_catalogue no_gate ∙ before.others q no_catalogue;
  images = λ image is_image.
      let counted : IsCountedWithin e.number waiting (file_in mid.folder catalogue).bytes (bytes_in image) = during.images image is_image in
      let count : ℕ = counted.count in
      let most = counted.most in
      let size = put.size in
      record {
        count = counted.count;
        no_fewer = counted.least;
        no_more = omega (arith, most, all);
        counts = counted.counts;
        placed = λ k from below.
            let found = put.placed k from (omega (arith, below, most, all)) in (
              found.0,
              found.1,
              same_entry_at k counted.count (bytes_in image catalogue) (file_in mid.folder catalogue).bytes below (omega (arith, most, all, size))
                  (counted.placed (omega (arith, from, below))) ∙ found.2,
            );
      };
  kept = λ front short kept. during.kept front (before.kept front short kept);
  reads = ap (take (128 * e.number)) during.reads ∙ before.reads;
}

-- then they are committed
are_together : (steps : List Planned) (e : Entry) (until waiting : ℕ) (mid new : Folder) → e.number + waiting ≡ until
    → ArePutTogether steps e until mid → AreCommitted e.number waiting mid new → AreTogether steps e until new
are_together steps e until waiting mid new all put committed = record {
  ready = subst (λ n. IsReady n new) all committed.ready;
  placed = λ k from below.
      let found = put.placed k from below in
      (found.0, found.1, ap (λ (x : File). take 128 (drop (128 * k) x.bytes)) committed.catalogue_is ∙ found.2);
  sure = committed.catalogue_is ∙ ap (λ (x : File). firm_file x.bytes) (sym committed.catalogue_is);
}

-- some of these files were emptied, and then others
pub emptied_here : (these : FileNo → Type 0) (m : Moment) → OnlyEmptied these m m
emptied_here these m = record { only = λ q apart. refl; empty = λ q none. none; stays = λ q none. none }

pub emptied_on : (these : FileNo → Type 0) (old mid m : Moment) → OnlyEmptied these old mid → OnlyEmptied these mid m → OnlyEmptied these old m
emptied_on these old mid m first second = record {
  only = λ q apart. second.only q apart ∙ first.only q apart;
  empty = λ q none. second.empty q (first.empty q none);
  stays = λ q none. second.stays q (first.stays q none);
}

pub emptied_more : (these more : FileNo → Type 0) (old m : Moment) → ((f : FileNo) → these f → more f) → OnlyEmptied these old m
    → OnlyEmptied more old m
emptied_more these more old m wider emptied = record {
  only = λ q apart. emptied.only q (λ is. apart (wider q is));
  empty = emptied.empty;
  stays = emptied.stays;
}

-- one of them was cut
cut_empties : (these : FileNo → Type 0) (gone : ℕ) (r : Result Unit Failed) (old new : World) → these (node_file gone)
    → WasCut (node_file gone) 0 r old new → OnlyEmptied these (now old) (now new)
cut_empties these gone r old new is was =
    let tidied : IsTidied (Drop gone) 0 0 (now old).folder (now new).folder =
    cut_tidies (Drop gone) 0 0 (node_file gone) r old new (inl (gone, nat_eq_equiv.refl gone, refl)) was in
    record {
      only = λ q apart. was.others q (λ same. apart (subst these (sym same) is));
      empty = tidied.empty;
      stays = tidied.stays;
    }

module _ {S : Type 0} (tells : S → Bool) (world : S → World) where
  -- an entry was put behind others
  pub put_on : (e x : Entry) (old mid new : S) → e.number ≤ x.number
      → Told tells old mid (Ran (DuringPut e.number e (now (world old))) (world old) (world mid))
      → Told tells mid new (Ran (DuringPut e.number x (now (world mid))) (world mid) (world new))
      → Told tells old new (Ran (DuringPut e.number e (now (world old))) (world old) (world new))
  put_on e x old mid new behind first second = told_then tells old mid new _ _ _ first second (λ _ run more.
      let P : Moment → Type 0 = DuringPut e.number e (now (world old)) in
      ran_joins (world old) (world mid) (world new) P run
      (ran_weakens (world mid) (world new) (DuringPut e.number x (now (world mid))) P
      (λ m during. puts_on e x (now (world old)) (now (world mid)) m behind (ran_end (world old) (world mid) P run) during) more))

  module _ (steps : List Planned) (e : Entry) (until : ℕ) (within : e.number < until) (old mid : S)
      (puts : Told tells old mid (Ran (DuringPut e.number e (now (world old))) (world old) (world mid))) where
    abbrev P : Moment → Type 0
    P = DuringTogether steps e until (now (world old))

    all_put : Told tells old mid (Ran P (world old) (world mid))
    all_put = told tells old mid _ _ puts (λ _ run.
        ran_weakens (world old) (world mid) (DuringPut e.number e (now (world old))) P
        (λ m during. together_put steps e until (now (world old)) m (omega (arith, within)) during) run)

    -- they weren't all put
    pub put_failed : Told tells old mid (Ran P (world old) (world mid))
    put_failed = all_put

    -- they were put, and committed, or some of them
    pub commits : (waiting : ℕ) (new : S) → e.number + waiting ≡ until
        → (IsTrue (tells mid) → ArePutTogether steps e until (now (world mid)).folder)
        → Told tells mid new (Ran (DuringCommits e.number waiting (now (world mid))) (world mid) (world new))
        → Told tells old new (Ran P (world old) (world new))
    commits waiting new all put did = record {
      before = λ tells_new. puts.before (did.before tells_new);
      did = λ tells_new.
          let tells_mid : IsTrue (tells mid) = did.before tells_new in
          let run : Ran (DuringPut e.number e (now (world old))) (world old) (world mid) = puts.did tells_mid in
          ran_joins (world old) (world mid) (world new) P (all_put.did tells_mid)
          (ran_weakens (world mid) (world new) (DuringCommits e.number waiting (now (world mid))) P
          (λ m during. together_commits steps e until waiting (now (world old)) (now (world mid)) m all (put tells_mid)
          (ran_end (world old) (world mid) (DuringPut e.number e (now (world old))) run) during) (did.did tells_new));
    }

    pub committed : (waiting : ℕ) (new : S) → e.number + waiting ≡ until
        → (IsTrue (tells mid) → ArePutTogether steps e until (now (world mid)).folder)
        → Told tells mid new (Ran (DuringCommits e.number waiting (now (world mid))) (world mid) (world new))
        → (IsTrue (tells new) → AreCommitted e.number waiting (now (world mid)).folder (now (world new)).folder)
        → IsTrue (tells new) → AreTogether steps e until (now (world new)).folder
    committed waiting new all put did ok tells_new =
        are_together steps e until waiting (now (world mid)).folder (now (world new)).folder all (put (did.before tells_new)) (ok tells_new)

  -- one more file was cut
  module _ (these : FileNo → Type 0) (old mid : S)
      (so_far : Told tells old mid (Ran (OnlyEmptied these (now (world old))) (world old) (world mid))) where
    abbrev Q : Moment → Type 0
    Q = OnlyEmptied these (now (world old))

    pub cut_on : (gone : ℕ) (f : FileNo) (r : Result Unit Failed) (new : S) → f ≡ node_file gone → these (node_file gone)
        → Told tells mid new (WasCut f 0 r (world mid) (world new)) → Told tells old new (Ran Q (world old) (world new))
    cut_on gone f r new f_is is did = told_then tells old mid new _ _ _ so_far
        (subst (λ q. Told tells mid new (WasCut q 0 r (world mid) (world new))) f_is did) (λ _ run was.
        let before : Q (now (world mid)) = ran_end (world old) (world mid) Q run in
        ran_joins (world old) (world mid) (world new) Q run
        (ran_call (world mid) (world new) Q was.shelf before
        (emptied_on these (now (world old)) (now (world mid)) (now (world new)) before (cut_empties these gone r (world mid) (world new) is was))))

    -- or a run of such cuts
    pub empties_on : (fewer : FileNo → Type 0) (new : S) → ((f : FileNo) → fewer f → these f)
        → Told tells mid new (Ran (OnlyEmptied fewer (now (world mid))) (world mid) (world new))
        → Told tells old new (Ran Q (world old) (world new))
    empties_on fewer new wider did = told_then tells old mid new _ _ _ so_far did (λ _ run more.
        let before : Q (now (world mid)) = ran_end (world old) (world mid) Q run in
        ran_joins (world old) (world mid) (world new) Q run
        (ran_weakens (world mid) (world new) (OnlyEmptied fewer (now (world mid))) Q
        (λ m then. emptied_on these (now (world old)) (now (world mid)) m before (emptied_more fewer these (now (world mid)) m wider then)) more))

  pub emptied_none : (these : FileNo → Type 0) (s : S) → Told tells s s (Ran (OnlyEmptied these (now (world s))) (world s) (world s))
  emptied_none these s = told_here tells s (Ran (OnlyEmptied these (now (world s))) (world s) (world s))
      (λ _. ran_stands (world s) (OnlyEmptied these (now (world s))) (emptied_here these (now (world s))))

  -- what the first step leaves behind was cut
  pub tidied : (steps : List Planned) (e : Entry) (until : ℕ) (s : Step) (old new : S) → (get_or steps e.number no_step).step ≡ s
      → Told tells old new (Ran (OnlyTidied s e.number e.parts (now (world old))) (world old) (world new))
      → Told tells old new (Ran (TidiedTogether steps e until (now (world old))) (world old) (world new))
  tidied steps e until s old new step did = told tells old new _ _ did (λ _ run.
      ran_weakens (world old) (world new) (OnlyTidied s e.number e.parts (now (world old))) (TidiedTogether steps e until (now (world old)))
      (λ m cuts. record {
        only = λ f apart. cuts.only f (λ cut. apart (inl (subst (λ x. IsCutBy x e.number e.parts f) (sym step) cut)));
        empty = cuts.empty;
        stays = cuts.stays;
      }) run)

-- the file that was cut is empty, and so are those that were cut before
pub dropped_more : (steps : List Planned) (from k gone : ℕ) (f : FileNo) (old new : World) → f ≡ node_file gone
    → ((j other : ℕ) → from ≤ j → j < k → (get_or steps j no_step).step ≡ Drop other → (file old (node_file other)).bytes ≡ [])
    → (get_or steps k no_step).step ≡ Drop gone → WasCut f 0 (Ok tt) old new
    → (j other : ℕ) → from ≤ j → j < k + 1 → (get_or steps j no_step).step ≡ Drop other → (file new (node_file other)).bytes ≡ []
dropped_more steps from k gone f old new f_is before drops_it cut j other least below is = elim (cases_lt j k) [
  | inl earlier ↦ (cut_empties (λ q. q ≡ node_file gone) gone (Ok tt) old new refl was).stays (node_file other) (before j other least earlier is)
  | inr last ↦
      let same : k ≡ j = omega (arith, below, last) in
      let step : Drop gone ≡ Drop other = sym drops_it ∙ ap (λ i. (get_or steps i no_step).step) same ∙ is in
      let number : gone ≡ other = cc in
      subst (λ i. (file new (node_file i)).bytes ≡ []) number (ap (λ (x : File). x.bytes) was.ok)
]
  where
    was : WasCut (node_file gone) 0 (Ok tt) old new
    was = subst (λ q. WasCut q 0 (Ok tt) old new) f_is cut

-- a step that is no drop leaves what was cut before
pub dropped_none : (steps : List Planned) (from k : ℕ) (at : World)
    → ((j other : ℕ) → from ≤ j → j < k → (get_or steps j no_step).step ≡ Drop other → (file at (node_file other)).bytes ≡ [])
    → ((gone : ℕ) → (get_or steps k no_step).step ≡ Drop gone → ⊥)
    → (j other : ℕ) → from ≤ j → j < k + 1 → (get_or steps j no_step).step ≡ Drop other → (file at (node_file other)).bytes ≡ []
dropped_none steps from k at before none j other least below is = elim (cases_lt j k) [
  | inl earlier ↦ before j other least earlier is
  | inr last ↦
      let same : k ≡ j = omega (arith, below, last) in
      absurd (none other (ap (λ i. (get_or steps i no_step).step) same ∙ is))
]

-- the counts of two calls, one after the other
pub faults_on : {T U : Type 0} (old mid new : Faults) (x : T) (y : U) → OnlyFolder {T = Unit} old mid (Ok tt)
    → OnlyFolder {T = T} mid new (Ok x) → OnlyFolder {T = U} old new (Ok y)
faults_on old mid new x y first second = record {
  later = let a = first.later in let b = second.later in omega (arith, a, b);
  cause = tt;
  say_is = second.say_is ∙ first.say_is;
  text_is = λ path. second.text_is path ∙ first.text_is path;
}

-- what the first step drops stays empty while the files of the others are emptied
pub dropped_together : {S : Type 0} (tells : S → Bool) (world : S → World) (steps : List Planned) (e : Entry) (end : ℕ) (result : Result Unit Failed)
    (mid new : S) → Told tells mid new (Ran (OnlyEmptied (IsDropped steps (e.number + 1) end) (now (world mid))) (world mid) (world new))
    → (IsTrue (tells mid) → (gone : ℕ) → (get_or steps e.number no_step).step ≡ Drop gone → (file (world mid) (node_file gone)).bytes ≡ [])
    → OnOk result (IsTrue (tells new) → (k gone : ℕ) → e.number + 1 ≤ k → k < end → (get_or steps k no_step).step ≡ Drop gone
    → (file (world new) (node_file gone)).bytes ≡ [])
    → OnOk result (IsTrue (tells new) → (k gone : ℕ) → e.number ≤ k → k < end → (get_or steps k no_step).step ≡ Drop gone
    → (file (world new) (node_file gone)).bytes ≡ [])
dropped_together tells world steps e end (Err f) mid new did first rest = tt
dropped_together tells world steps e end (Ok x) mid new did first rest = λ told k gone from below is. elim (cases_lt e.number k) [
  | inl behind ↦ rest told k gone (omega (arith, behind)) below is
  | inr here ↦
      let same : e.number ≡ k = omega (arith, from, here) in
      let emptied : OnlyEmptied (IsDropped steps (e.number + 1) end) (now (world mid)) (now (world new)) =
      ran_end (world mid) (world new) (OnlyEmptied (IsDropped steps (e.number + 1) end) (now (world mid))) (did.did told) in
      emptied.stays (node_file gone) (first (did.before told) gone (ap (λ i. (get_or steps i no_step).step) same ∙ is))
]
