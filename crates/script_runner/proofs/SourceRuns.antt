-- The run of a source, from its texts on.
use Rattle.std.proofs.Common.{◌≡◌, ◌∙◌, ◌⊎◌, ℕ, ◌+◌, ◌≤◌, Bool, List, ◌++◌, length, refl, sym, ap, subst, inl, inr, arith}
use Rattle.std.specs.Prelude.{IsTrue, Option, Some, None}
use Rattle.blif_reader.specs.Answers.{net_of}
use Rattle.blif_reader.specs.Netlist.{Net}
use Rattle.blif_reader.specs.declared.fault.BlifFault.{BlifFault}
use Rattle.catalogue.specs.Standings.{without_budget}
use Rattle.command_words.specs.Readings.{Reading, run, gen}
use Rattle.shelf_model.specs.Calls.{Told}
use Rattle.shelf_model.specs.Faults.{Faults, Rose}
use Rattle.shelf_model.specs.Folder.{Folder}
use Rattle.shelf_model.specs.World.{World, said}
use Rattle.sound_image.specs.Jobs.{Job}
use Rattle.script_reader.specs.declared.fault.ScriptFault.{ScriptFault}
use Rattle.bool_tables.specs.declared.steps.Planned.{Planned}
use Rattle.script_reader.specs.declared.plan.LineEnd.{LineEnd}
use Rattle.script_reader.specs.declared.plan.Plan.{Plan}
use Rattle.script_reader.specs.Reads.{Reads, Refuses}
use Rattle.script_runner.specs.declared.ending.Ending.{Ending}
use Rattle.script_runner.specs.declared.ending.Ending.TheVariants as ending
use Rattle.script_runner.specs.declared.ending.Ending.TheVariants.{SayFault}
use Rattle.script_runner.specs.declared.read_netlist.ReadNetlist.{ReadNetlist}
use Rattle.script_runner.specs.Calls.{most_calls, fetch_calls, AreCounted}
use Rattle.script_runner.specs.Entered.{RunsIn, EndingHasCause}
use Rattle.script_runner.specs.Fetching.{OnlyFetched, OnlyTexts, IsText}
use Rattle.script_runner.specs.JobOf.{source_of, job_bytes, given_job, job_of, IsShort}
use Rattle.script_runner.specs.Netlists.{netlist_in, netlist_text, IsSpelled}
use Rattle.script_runner.specs.Outcome.{SaysLine, EndsSource, Ends, ByWords, IsStatus, StatusHasCause, RunsInCalls, MakesFewCalls, texts_calls}
use Rattle.script_runner.specs.Running.{SaysOnly}
use Rattle.script_runner.specs.Source.{Source, IsNamed, IsSource, Spells, Plans, IsFaulty, HasFaultyText}
use Rattle.script_runner.specs.Status.{status_of}
use Rattle.script_runner.specs.Stops.{StopsIn}
use Rattle.script_runner.specs.Text.{refused_line, netlist_line}
use Rattle.script_runner.proofs.Endings.{fetched_then, fetched_line, fetched_source, ends_whole, calls_whole, fetched_calls, ends_texts, accepted_is_short}
use Rattle.script_runner.proofs.Sources.{job_without_budget}

-- a netlist that was read is spelled by its text, which is short
spelled_there : (netlist : Option ReadNetlist) → IsSpelled netlist → Spells (netlist_text netlist) (netlist_in netlist)
spelled_there None x = refl
spelled_there (Some given) x = (net_of given.net, refl, record { reads = x; sound = given.net.sound })

pub short_there : (netlist : Option ReadNetlist) (text : Option (List ℕ)) → text ≡ netlist_text netlist
    → IsSpelled netlist → IsShort text
short_there None text is x = subst IsShort (sym is) tt
short_there (Some given) text is x =
    subst IsShort (sym is) (accepted_is_short given.text.items (net_of given.net) x)

-- what the script asks for over the netlist that was read, the source asks for
pub plans_of : (script : List ℕ) (netlist : Option ReadNetlist) (net : Option Net) (plan : Plan)
    → net ≡ netlist_in netlist → IsSpelled netlist → Reads net script plan
    → Plans (source_of script (netlist_text netlist)) plan
plans_of script netlist net plan is spelled reads = record {
  netlist = netlist_in netlist;
  spelled = spelled_there netlist spelled;
  reads = subst (λ n. Reads n script plan) is reads;
}

pub faulty_of : (script : List ℕ) (netlist : Option ReadNetlist) (net : Option Net) (fault : ScriptFault)
    → net ≡ netlist_in netlist → IsSpelled netlist → Refuses net script fault
    → IsFaulty (source_of script (netlist_text netlist)) fault
faulty_of script netlist net fault is spelled refuses = record {
  netlist = netlist_in netlist;
  spelled = spelled_there netlist spelled;
  refuses = subst (λ n. Refuses n script fault) is refuses;
}

-- the job that is given is the source's, whatever budget is in its bytes
given_job_is : (source : Source) (plan : Plan) (steps : List Planned) (budget : ℕ) (job : List ℕ) → steps ≡ plan.steps
    → job ≡ job_bytes budget source → given_job plan.n source.script steps job ≡ job_of source plan
given_job_is source plan steps budget job steps_are is i =
    let bytes : without_budget job ≡ job_bytes 0 source = ap without_budget is ∙ job_without_budget budget source in
    record { n = plan.n; text = source.script; steps = steps_are i; bytes = bytes i }

-- the calls of a run of the plan are those of the source's job
pub calls_of : (source : Source) (plan : Plan) (steps : List Planned) (budget : ℕ) (spoken : List LineEnd) (job : List ℕ) (folder : Folder)
    (old new : World) → steps ≡ plan.steps → spoken ≡ plan.lines → job ≡ job_bytes budget source
    → ((rest : ℕ) → AreCounted (given_job plan.n source.script steps job) folder rest
    → new.clock ≤ old.clock + 2 + (most_calls (given_job plan.n source.script steps job) (length spoken) + rest))
    → (rest : ℕ) → AreCounted (job_of source plan) folder rest
    → new.clock ≤ old.clock + 0 + 2 + most_calls (job_of source plan) (length plan.lines) + rest
calls_of source plan steps budget spoken job folder old new steps_are lines_are is few rest counted =
    let within = subst IsFew (given_job_is source plan steps budget job steps_are is) few rest counted in
    let lines = ap length lines_are in
    omega (arith, within, lines)
  where
    IsFew : Job → Type 0
    IsFew j = (rest : ℕ) → AreCounted j folder rest → new.clock ≤ old.clock + 2 + (most_calls j (length spoken) + rest)

-- and so is what a stop costs
pub stops_of : (source : Source) (plan : Plan) (steps : List Planned) (budget : ℕ) (spoken : List LineEnd) (job : List ℕ) (old new : World)
    → steps ≡ plan.steps → spoken ≡ plan.lines → job ≡ job_bytes budget source
    → StopsIn (given_job plan.n source.script steps job) (length spoken) 2 old new → StopsIn (job_of source plan) (length plan.lines) 2 old new
stops_of source plan steps budget spoken job old new steps_are lines_are is stops =
    subst (λ v. v) (λ i. StopsIn (given_job_is source plan steps budget job steps_are is i) (length (lines_are i)) 2 old new) stops

-- a status of an ending that is one of two
pub one_of_two : (P : ℕ → Type 0) (e f : Ending) → (e ≡ f) ⊎ (e ≡ SayFault) → P (status_of f) → P 8 → P (status_of e)
one_of_two P e f (inl is) x y = subst (λ a. P (status_of a)) (sym is) x
one_of_two P e f (inr is) x y = subst (λ a. P (status_of a)) (sym is) y

-- a line was said where the status is that of its ending
pub line_said : (line : List ℕ) (e f : Ending) (old new : World) → (e ≡ f) ⊎ (e ≡ SayFault) → ¬ (status_of f ≡ 8)
    → SaysOnly line old new → (e ≡ f → said new ≡ said old ++ line)
    → SaysLine line (status_of f) (status_of e) old new
line_said line e f old new (inl is) other only whole = record {
  status_is = inl (ap status_of is);
  only = only;
  whole = λ x. whole is;
}
line_said line e f old new (inr is) other only whole = record {
  status_is = inr (ap status_of is);
  only = only;
  whole = λ x. absurd (other (sym x ∙ ap status_of is));
}

pub folder_fault_is : (e : Ending) → status_of e ≡ 7 → e ≡ ending.FolderFault
folder_fault_is ending.Done x = absurd (omega (arith, x))
folder_fault_is ending.Usage x = absurd (omega (arith, x))
folder_fault_is ending.Script x = absurd (omega (arith, x))
folder_fault_is ending.Netlist x = absurd (omega (arith, x))
folder_fault_is ending.OtherJob x = absurd (omega (arith, x))
folder_fault_is ending.TextFault x = absurd (omega (arith, x))
folder_fault_is ending.FolderFault x = refl
folder_fault_is ending.SayFault x = absurd (omega (arith, x))
folder_fault_is ending.NoMemory x = absurd (omega (arith, x))
folder_fault_is ending.Damaged x = absurd (omega (arith, x))
folder_fault_is ending.RunsSpent x = absurd (omega (arith, x))

pub say_fault_is : (e : Ending) → status_of e ≡ 8 → e ≡ ending.SayFault
say_fault_is ending.Done x = absurd (omega (arith, x))
say_fault_is ending.Usage x = absurd (omega (arith, x))
say_fault_is ending.Script x = absurd (omega (arith, x))
say_fault_is ending.Netlist x = absurd (omega (arith, x))
say_fault_is ending.OtherJob x = absurd (omega (arith, x))
say_fault_is ending.TextFault x = absurd (omega (arith, x))
say_fault_is ending.FolderFault x = absurd (omega (arith, x))
say_fault_is ending.SayFault x = refl
say_fault_is ending.NoMemory x = absurd (omega (arith, x))
say_fault_is ending.Damaged x = absurd (omega (arith, x))
say_fault_is ending.RunsSpent x = absurd (omega (arith, x))

-- the cause of a status that isn't that of a text
pub has_cause : (asked : Option Reading) (e : Ending) (old new : Faults) → ¬ (status_of e ≡ 6) → EndingHasCause old new e
    → StatusHasCause asked (status_of e) old new
has_cause asked e old new not_text cause = record {
  text_fault = λ six. absurd (not_text six);
  folder_fault = λ seven. cause.folder_fault (folder_fault_is e seven);
  say_fault = λ eight. cause.say_fault (say_fault_is e eight);
}

-- texts were fetched before
pub cause_since : (e : Ending) (old mid new : Faults) → OnlyTexts old mid → EndingHasCause mid new e → EndingHasCause old new e
cause_since e old mid new texts cause = record {
  folder_fault = λ is. subst (λ n. Rose n new.folder) texts.folder_is (cause.folder_fault is);
  say_fault = λ is. subst (λ n. Rose n new.say) texts.say_is (cause.say_fault is);
}

-- a count of a path that rose after other texts were fetched rose since
pub rose_later : (path : List ℕ) (old mid new : Faults) → OnlyTexts old mid → Rose (mid.text path) (new.text path)
    → Rose (old.text path) (new.text path)
rose_later path old mid new texts rose = later (texts.text_later path) rose
  where
    later : {a b c : ℕ} → a ≤ b → Rose b c → Rose a c
    later within rose = grind (arith, within, rose)

-- words that ask for a run end it with a status of a run
pub words_run : (folder script : List ℕ) (netlist : Option (List ℕ)) (budget status : ℕ) → IsStatus status → ¬ (status ≡ 2)
    → ByWords (Some (run folder script netlist budget)) status
words_run folder script netlist budget status known not_usage = record {
  usage = λ two. absurd (not_usage two);
  unread = λ none. absurd cc;
  listed = λ other is. absurd cc;
  known = known;
}

pub words_gen : (folder : List ℕ) (size budget status : ℕ) → IsStatus status → ¬ (status ≡ 2)
    → ByWords (Some (gen folder size budget)) status
words_gen folder size budget status known not_usage = record {
  usage = λ two. absurd (not_usage two);
  unread = λ none. absurd cc;
  listed = λ other is. absurd cc;
  known = known;
}

module _ {S : Type 0} (tells : S → Bool) (world : S → World) where
  -- the first fault of a source's script was said
  pub refused_source : (folder : List ℕ) (source : Source) (line : List ℕ) (fault : ScriptFault) (e : Ending) (s t : S)
      → IsFaulty source fault → line ≡ refused_line fault → (e ≡ ending.Script) ⊎ (e ≡ SayFault)
      → Told tells s t (SaysOnly line (world s) (world t))
      → (e ≡ ending.Script → IsTrue (tells t) → said (world t) ≡ said (world s) ++ line)
      → Told tells s t (EndsSource folder source (status_of e) (world s) (world t))
  refused_source folder source line fault e s t faulty line_is which says whole = record {
    before = says.before;
    did = λ tells_t. inr (inl (record {
      fault = fault;
      faulty = faulty;
      says = subst (λ l. SaysLine l 3 (status_of e) (world s) (world t)) line_is
          (line_said line e ending.Script (world s) (world t) which (λ x. omega (arith, x)) (says.did tells_t)
          (λ is. whole is tells_t));
    }));
  }

  -- a source's job was run
  pub ran_source : (folder : List ℕ) (source : Source) (plan : Plan) (steps : List Planned) (budget : ℕ) (spoken : List LineEnd)
      (job : List ℕ) (status : ℕ) (s t : S) → Plans source plan → steps ≡ plan.steps → spoken ≡ plan.lines
      → job ≡ job_bytes budget source
      → Told tells s t (RunsIn folder (given_job plan.n source.script steps job) spoken status (world s) (world t))
      → Told tells s t (EndsSource folder source status (world s) (world t))
  ran_source folder source plan steps budget spoken job status s t plans steps_are lines_are is runs = record {
    before = runs.before;
    did = λ tells_t. inr (inr (record {
      plan = plan;
      plans = plans;
      run = subst (λ (j : Job). RunsIn folder j plan.lines status (world s) (world t))
          (given_job_is source plan steps budget job steps_are is)
          (subst (λ ls. RunsIn folder (given_job plan.n source.script steps job) ls status (world s) (world t)) lines_are
          (runs.did tells_t));
    }));
  }

  -- the netlist that was fetched is faulty, and that was said
  pub faulty_netlist : (folder script : List ℕ) (path : Option (List ℕ)) (budget : ℕ) (line : List ℕ) (fault : BlifFault)
      (e : Ending) (old s t : S) → (IsTrue (tells s) → HasFaultyText (world old) path fault) → line ≡ netlist_line fault
      → (e ≡ ending.Netlist) ⊎ (e ≡ SayFault) → Told tells old s (OnlyFetched (world old) (world s))
      → Told tells s t (SaysOnly line (world s) (world t))
      → (e ≡ ending.Netlist → IsTrue (tells t) → said (world t) ≡ said (world s) ++ line)
      → Told tells old t (Ends (Some (run folder script path budget)) (status_of e) (world old) (world t))
  faulty_netlist folder script path budget line fault e old s t faulty line_is which looked says whole = record {
    before = λ tells_t. looked.before (says.before tells_t);
    did = λ tells_t.
        let tells_s : IsTrue (tells s) = says.before tells_t in
        ends_texts folder script path budget (status_of e) (world old) (world t) (inr (inr (inl (record {
          fault = fault;
          faulty = faulty tells_s;
          says = subst (λ l. SaysLine l 4 (status_of e) (world old) (world t)) line_is
              (fetched_line line 4 (status_of e) (world old) (world s) (world t) (looked.did tells_s)
              (line_said line e ending.Netlist (world s) (world t) which (λ x. omega (arith, x)) (says.did tells_t)
              (λ is. whole is tells_t)));
        }))));
  }

  -- what was fetched is a source, which was run
  module _ (folder script : List ℕ) (path : Option (List ℕ)) (budget : ℕ) (bytes : List ℕ) (netlist : Option (List ℕ))
      (old r s t : S) (named : IsTrue (tells r) → IsNamed (world old) path netlist)
      (text : IsTrue (tells s) → IsText script 1048576 bytes (world r))
      (first : Told tells old r (OnlyFetched (world old) (world r)))
      (second : Told tells r s (OnlyFetched (world r) (world s))) where
    looked : IsTrue (tells s) → OnlyFetched (world old) (world s)
    looked here = fetched_then (world old) (world r) (world s) (first.did (second.before here)) (second.did here)

    abbrev source : IsTrue (tells s) → Source
    source here = source_of (text here).text netlist

    is_source : (here : IsTrue (tells s)) → IsSource (world old) (run folder script path budget) (source here)
    is_source here = (
      ap (λ texts. texts script) (sym (first.did (second.before here)).texts_are) ∙ (text here).there,
      named (second.before here),
    )

    pub ran_texts : (status : ℕ) → Told tells s t (EndsSource folder (source_of bytes netlist) status (world s) (world t))
        → Told tells old t (Ends (Some (run folder script path budget)) status (world old) (world t))
    ran_texts status runs = record {
      before = λ tells_t. first.before (second.before (runs.before tells_t));
      did = λ tells_t.
          let here : IsTrue (tells s) = runs.before tells_t in
          ends_texts folder script path budget status (world old) (world t) (inr (inr (inr (record {
            source = source here;
            source_is = is_source here;
            ends = ends_whole folder (text here).text bytes netlist status (world old) (world t) (text here).bytes_are
                (fetched_source folder (source_of bytes netlist) status (world old) (world s) (world t) (looked here)
                (runs.did tells_t));
          }))));
    }

    pub calls_texts : (IsTrue (tells t) → IsTrue (tells s)) → (IsTrue (tells r) → (world r).clock ≤ (world old).clock + fetch_calls 4194304)
        → (IsTrue (tells s) → (world s).clock ≤ (world r).clock + fetch_calls 1048576)
        → (IsTrue (tells t) → RunsInCalls 0 (source_of bytes netlist) (world s) (world t))
        → IsTrue (tells t) → MakesFewCalls (Some (run folder script path budget)) (world old) (world t)
    calls_texts back one two runs tells_t =
        let here : IsTrue (tells s) = back tells_t in
        let a = one (second.before here) in
        let b = two here in
        inr (inl (
          source here,
          record { reading = run folder script path budget; asked_is = refl; source_is = is_source here },
          calls_whole (text here).text bytes netlist texts_calls (world old) (world t) (text here).bytes_are
              (fetched_calls (source_of bytes netlist) texts_calls texts_calls (world old) (world s) (world t) (looked here)
              (omega (arith, a, b)) (omega arith) (runs tells_t)),
        ))
