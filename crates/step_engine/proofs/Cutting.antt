-- What cutting the files that a step leaves behind changes.
use Rattle.std.proofs.Common.{◌≡◌, ◌∙◌, ℕ, ◌+◌, ◌<◌, ◌≤◌, Bool, [], min, refl, sym, ap, subst, inl, inr, arith}
use Rattle.std.specs.Prelude.{Result, Ok, Err}
use Rattle.std.proofs.lemmas.Bool.{cases_lt}
use Rattle.bool_tables.specs.declared.steps.Step.{Step}
use Rattle.shelf_model.specs.declared.file_no.FileNo.{FileNo}
use Rattle.shelf_model.specs.declared.fault.Failed.{Failed}
use Rattle.shelf_model.specs.File.{File, no_file, cut_to, TornCut}
use Rattle.shelf_model.specs.Folder.{Folder}
use Rattle.shelf_model.specs.World.{World, Moment, now, file}
use Rattle.shelf_model.specs.Calls.{Told, WasCut}
use Rattle.shelf_model.specs.Moments.{Ran}
use Rattle.shelf_model.proofs.Files.{same_file}
use Rattle.shelf_model.proofs.Numbers.{cases_file}
use Rattle.shelf_model.proofs.Runs.{told, told_then, told_here, ran_stands, ran_call, ran_joins, ran_weakens, ran_end}
use Rattle.sound_image.specs.Steps.{IsCutBy, IsTidied, parts_end}
use Rattle.step_engine.specs.OneFile.{OnlyTidied}

-- an empty file that is cut is empty
cut_empty : (f : FileNo) (r : Result Unit Failed) (old new : World) → WasCut f 0 r old new → file old f ≡ no_file → file new f ≡ no_file
cut_empty f (Ok u) old new was none = was.ok ∙ ap (cut_to 0) none
cut_empty f (Err e) old new was none = torn (file old f) (file new f) none was.failed
  where
    torn : (a b : File) → a ≡ no_file → TornCut 0 a b → b ≡ no_file
    torn a b none t = same_file b no_file
        (elim t.which [ inl same ↦ same ∙ ap (λ (x : File). x.bytes) none | inr cut ↦ cut ])
        (t.firm_is ∙ ap (λ (x : File). min x.firm 0) none) (t.reach_is ∙ ap (λ (x : File). x.reach) none)

-- and one that held no byte holds none
cut_stays : (f : FileNo) (r : Result Unit Failed) (old new : World) → WasCut f 0 r old new → (file old f).bytes ≡ [] → (file new f).bytes ≡ []
cut_stays f (Ok u) old new was none = ap (λ (x : File). x.bytes) was.ok
cut_stays f (Err e) old new was none = torn (file old f) (file new f) none was.failed
  where
    torn : (a b : File) → a.bytes ≡ [] → TornCut 0 a b → b.bytes ≡ []
    torn a b none t = elim t.which [ inl same ↦ same ∙ none | inr cut ↦ cut ]

-- a cut of one of the step's files changes no other, and leaves what was empty empty
pub cut_tidies : (step : Step) (number next : ℕ) (f : FileNo) (r : Result Unit Failed) (old new : World) → IsCutBy step number next f → WasCut f 0 r old new
    → IsTidied step number next (now old).folder (now new).folder
cut_tidies step number next f r old new cut_by was = record {
  only = λ q apart. was.others q (λ same. apart (subst (IsCutBy step number next) (sym same) cut_by));
  empty = λ q none. elim (cases_file q f) [
    | inl same ↦
        subst (λ x. file new x ≡ no_file) (sym same) (cut_empty f r old new was (subst (λ x. file old x ≡ no_file) same none))
    | inr other ↦ was.others q other ∙ none
  ];
  stays = λ q none. elim (cases_file q f) [
    | inl same ↦
        subst (λ x. (file new x).bytes ≡ []) (sym same) (cut_stays f r old new was (subst (λ x. (file old x).bytes ≡ []) same none))
    | inr other ↦ ap (λ (x : File). x.bytes) (was.others q other) ∙ none
  ];
}

pub stays_tidy : (step : Step) (number next : ℕ) (folder : Folder) → IsTidied step number next folder folder
stays_tidy step number next folder = record { only = λ q apart. refl; empty = λ q none. none; stays = λ q none. none }

tidy_then : (step : Step) (number next : ℕ) (old mid new : Folder) → IsTidied step number next old mid → IsTidied step number next mid new → IsTidied step number next old new
tidy_then step number next old mid new first second = record {
  only = λ q apart. second.only q apart ∙ first.only q apart;
  empty = λ q none. second.empty q (first.empty q none);
  stays = λ q none. second.stays q (first.stays q none);
}

-- fewer of the step's files
cut_more : (step : Step) (number fewer next : ℕ) (f : FileNo) → parts_end fewer ≤ parts_end next → IsCutBy step number fewer f
    → IsCutBy step number next f
cut_more step number fewer next f less (inl dropped) = inl dropped
cut_more step number fewer next f less (inr (swept, behind)) =
    inr (swept, record { step_is = behind.step_is; from = behind.from; until = let until = behind.until in omega (arith, until, less) })

tidied_more : (step : Step) (number fewer next : ℕ) (old new : Folder) → parts_end fewer ≤ parts_end next
    → IsTidied step number fewer old new → IsTidied step number next old new
tidied_more step number fewer next old new less tidied = record {
  only = λ q apart. tidied.only q (λ cut. apart (cut_more step number fewer next q less cut));
  empty = tidied.empty;
  stays = tidied.stays;
}

module _ {S : Type 0} (tells : S → Bool) (world : S → World) (step : Step) (number next : ℕ) where
  -- one cut
  pub cut_runs : (f : FileNo) (r : Result Unit Failed) (old new : S) → IsCutBy step number next f
      → Told tells old new (WasCut f 0 r (world old) (world new))
      → Told tells old new (Ran (OnlyTidied step number next (now (world old))) (world old) (world new))
  cut_runs f r old new cut_by did = told tells old new _ _ did (λ _ was.
      ran_call (world old) (world new) (OnlyTidied step number next (now (world old))) was.shelf (stays_tidy step number next (now (world old)).folder)
      (cut_tidies step number next f r (world old) (world new) cut_by was))

  -- one run of them behind another
  pub tidied_then : (old mid new : S)
      → Told tells old mid (Ran (OnlyTidied step number next (now (world old))) (world old) (world mid))
      → Told tells mid new (Ran (OnlyTidied step number next (now (world mid))) (world mid) (world new))
      → Told tells old new (Ran (OnlyTidied step number next (now (world old))) (world old) (world new))
  tidied_then old mid new first second = told_then tells old mid new _ _ _ first second (λ _ ran more.
      let P : Moment → Type 0 = OnlyTidied step number next (now (world old)) in
      ran_joins (world old) (world mid) (world new) P ran
      (ran_weakens (world mid) (world new) (OnlyTidied step number next (now (world mid))) P
      (λ m then. tidy_then step number next (now (world old)).folder (now (world mid)).folder m.folder (ran_end (world old) (world mid) P ran) then) more))

  -- and one cut behind others
  pub cut_on : (f : FileNo) (r : Result Unit Failed) (old mid new : S) → IsCutBy step number next f
      → Told tells old mid (Ran (OnlyTidied step number next (now (world old))) (world old) (world mid))
      → Told tells mid new (WasCut f 0 r (world mid) (world new))
      → Told tells old new (Ran (OnlyTidied step number next (now (world old))) (world old) (world new))
  cut_on f r old mid new cut_by first did = tidied_then old mid new first (cut_runs f r mid new cut_by did)

  -- no call was made
  pub tidied_none : (s : S) → Told tells s s (Ran (OnlyTidied step number next (now (world s))) (world s) (world s))
  tidied_none s = told_here tells s (Ran (OnlyTidied step number next (now (world s))) (world s) (world s)) (λ _.
      ran_stands (world s) (OnlyTidied step number next (now (world s))) (stays_tidy step number next (now (world s)).folder))

  -- a run in which fewer of the step's files were cut
  pub tidied_fewer : (fewer : ℕ) (old new : S) → parts_end fewer ≤ parts_end next
      → Told tells old new (Ran (OnlyTidied step number fewer (now (world old))) (world old) (world new))
      → Told tells old new (Ran (OnlyTidied step number next (now (world old))) (world old) (world new))
  tidied_fewer fewer old new less did = told tells old new _ _ did (λ _ ran.
      ran_weakens (world old) (world new) (OnlyTidied step number fewer (now (world old))) (OnlyTidied step number next (now (world old)))
      (λ m tidied. tidied_more step number fewer next (now (world old)).folder m.folder less tidied) ran)

-- the file of a part that was cut well is empty, and so are those that were
pub empty_then : (number from part : ℕ) (old new : World)
    → ((f : FileNo) → f.step ≡ number → from ≤ f.part → f.part < part → (file old f).bytes ≡ [])
    → WasCut (record { step = number; part = part }) 0 (Ok tt) old new
    → (f : FileNo) → f.step ≡ number → from ≤ f.part → f.part < part + 1 → (file new f).bytes ≡ []
empty_then number from part old new before was f own least less = elim (cases_lt f.part part) [
  | inl earlier ↦
      ap (λ (x : File). x.bytes) (was.others f (λ same.
      let parts : f.part ≡ part = ap (λ (q : FileNo). q.part) same in omega (arith, earlier, parts))) ∙ before f own least earlier
  | inr beyond ↦
      let parts : f.part ≡ part = omega (arith, less, beyond) in
      let same : f ≡ record { step = number; part = part } = λ j. record { step = own j; part = parts j } in
      subst (λ q. (file new q).bytes ≡ []) (sym same) (ap (λ (x : File). x.bytes) was.ok)
]
