-- The endings of a call of the program.
use Rattle.std.proofs.Common.{◌≡◌, ◌∙◌, ◌⊎◌, ℕ, ◌+◌, ◌<◌, ◌≤◌, min, true, List, ◌++◌, length, take, refl, sym, ap, subst, inl, inr, arith}
use Rattle.std.specs.Prelude.{◌≢◌, Option, Some, None, Ok, Err, nat_lt}
use Rattle.std.proofs.lemmas.Bool.{cases_lt, lt-ltb}
use Rattle.std.proofs.lemmas.List.{take_all, length-take}
use Rattle.shelf_model.specs.World.{Moment, World, now, said}
use Rattle.shelf_model.specs.Moments.{Throughout}
use Rattle.shelf_model.specs.Faults.{Faults, Rose}
use Rattle.shelf_model.proofs.Runs.{joins, weakens, at_end}
use Rattle.blif_reader.specs.Netlist.{Net, IsReading, reading}
use Rattle.blif_reader.specs.declared.fault.BlifFault.{BlifFault}
use Rattle.command_words.specs.Readings.{Reading, run, list, gen}
use Rattle.example_script.specs.Script.{script_of}
use Rattle.sound_image.specs.Jobs.{Job}
use Rattle.script_reader.specs.declared.plan.LineEnd.{LineEnd}
use Rattle.script_reader.specs.Reads.{Refuses}
use Rattle.script_reader.specs.declared.fault.ScriptFault.{ScriptFault}
use Rattle.script_reader.specs.declared.fault.ScriptKind.TheVariants as kind
use Rattle.script_reader.proofs.PlanReads.{text_is_short, too_long}
use Rattle.diagram_list.specs.Saying.{IsSaying}
use Rattle.script_runner.specs.Running.{SaysOnly}
use Rattle.script_runner.specs.Fetching.{OnlyFetched}
use Rattle.script_runner.specs.JobOf.{source_of, job_of}
use Rattle.script_runner.specs.Entered.{RunsFrom, RunsIn}
use Rattle.script_runner.specs.Calls.{AreCounted}
use Rattle.script_runner.specs.Listed.{ListsIn}
use Rattle.script_runner.specs.Source.{Source}
use Rattle.script_runner.specs.Text.{usage_line}
use Rattle.script_runner.proofs.RunPaying.{fetched_stops}
use Rattle.script_runner.proofs.StopLaws.{fetched_old, old_then}
use Rattle.script_runner.specs.Outcome.{SaysLine, EndsSource, RunsAsked, RunsTexts, Ends, RunsInCalls}
use Rattle.diagram_list.proofs.SayingLaws.{says_nothing}
use Rattle.script_runner.proofs.EnteredRuns.{earlier}

-- the bytes that were read are the whole text where they are few
pub whole_text : (most : ℕ) (text bytes : List ℕ) → bytes ≡ take (most + 1) text → length bytes ≤ most → bytes ≡ text
whole_text most text bytes read short =
    let counted : length bytes ≡ min (most + 1) (length text) = ap length read ∙ length-take (most + 1) text in
    let fits : length text ≤ most + 1 = omega (arith, counted, short) in
    read ∙ take_all (most + 1) text fits

-- where they aren't few, the text isn't either
long_text : (most : ℕ) (text bytes : List ℕ) → bytes ≡ take (most + 1) text → most < length bytes → most < length text
long_text most text bytes read long =
    let counted : length bytes ≡ min (most + 1) (length text) = ap length read ∙ length-take (most + 1) text in
    omega (arith, counted, long)

-- a refusal for another cause than memory is that of the text
pub not_memory : (netlist : Option Net) (text : List ℕ) (fault : ScriptFault) → fault.kind ≢ kind.Memory
    → Refuses netlist text fault ⊎ (fault ≡ record { line = 0; kind = kind.Memory }) → Refuses netlist text fault
not_memory netlist text fault other (inl refused) = refused
not_memory netlist text fault other (inr memory) = absurd (other (ap (λ (f : ScriptFault). f.kind) memory))

pub still_there : (old mid : World) → OnlyFetched old mid → now mid ≡ now old
still_there old mid looked = at_end old mid (λ m. m ≡ now old) looked.moments

-- texts were fetched after others
pub fetched_then : (old mid new : World) → OnlyFetched old mid → OnlyFetched mid new → OnlyFetched old new
fetched_then old mid new first second = record {
  moments = joins old mid new (λ m. m ≡ now old) first.moments
      (subst (λ (start : Moment). Throughout mid new (λ m. m ≡ start)) (still_there old mid first) second.moments);
  texts_are = second.texts_are ∙ first.texts_are;
  home_is = second.home_is ∙ first.home_is;
  inside_is = second.inside_is ∙ first.inside_is;
  strays_are = second.strays_are ∙ first.strays_are;
}

-- a line was said after texts were fetched
pub fetched_says : (line : List ℕ) (old mid new : World) → OnlyFetched old mid → SaysOnly line mid new → SaysOnly line old new
fetched_says line old mid new looked says = record {
  moments = joins old mid new (IsSaying line (now old))
      (weakens old mid (λ m. m ≡ now old) (IsSaying line (now old))
      (λ m same. subst (IsSaying line (now old)) (sym same) (record { says = says_nothing (said old) line (said old) refl; folder_is = refl })) looked.moments)
      (subst (λ (start : Moment). Throughout mid new (IsSaying line start)) (still_there old mid looked) says.moments);
  texts_are = says.texts_are ∙ looked.texts_are;
  home_is = says.home_is ∙ looked.home_is;
  inside_is = says.inside_is ∙ looked.inside_is;
  strays_are = says.strays_are ∙ looked.strays_are;
}

pub fetched_line : (line : List ℕ) (good status : ℕ) (old mid new : World) → OnlyFetched old mid
    → SaysLine line good status mid new → SaysLine line good status old new
fetched_line line good status old mid new looked says = record {
  status_is = says.status_is;
  only = fetched_says line old mid new looked says.only;
  whole = λ is_good. says.whole is_good ∙ ap (λ (m : Moment). m.said ++ line) (still_there old mid looked);
}

-- a job was run after its texts were fetched
fetched_runs : (folder : List ℕ) (job : Job) (lines : List LineEnd) (status : ℕ) (old mid new : World) → OnlyFetched old mid
    → RunsIn folder job lines status mid new → RunsIn folder job lines status old new
fetched_runs folder job lines status old mid new looked ran = record {
  status_is = ran.status_is;
  leaves = earlier job lines status (now old) old mid new looked.moments
      (subst (λ (start : Moment). RunsFrom job lines status start mid new) (still_there old mid looked) ran.leaves);
  texts_are = ran.texts_are ∙ looked.texts_are;
  home_is = ran.home_is ∙ looked.home_is;
  strays_are = λ home. ran.strays_are (home ∙ sym looked.home_is) ∙ looked.strays_are;
}

-- a source was run after its texts were fetched
pub fetched_source : (folder : List ℕ) (source : Source) (status : ℕ) (old mid new : World) → OnlyFetched old mid
    → EndsSource folder source status mid new → EndsSource folder source status old new
fetched_source folder source status old mid new looked (inl silent) =
    inl (silent.0, fetched_then old mid new looked silent.1)
fetched_source folder source status old mid new looked (inr (inl refuses)) = inr (inl (record {
  fault = refuses.fault;
  faulty = refuses.faulty;
  says = fetched_line _ 3 status old mid new looked refuses.says;
}))
fetched_source folder source status old mid new looked (inr (inr runs)) = inr (inr (record {
  plan = runs.plan;
  plans = runs.plans;
  run = fetched_runs folder (job_of source runs.plan) runs.plan.lines status old mid new looked runs.run;
}))

-- a source of which too many bytes were read is refused as that of those bytes is; one of few bytes is theirs
pub ends_whole : (folder : List ℕ) (text bytes : List ℕ) (netlist : Option (List ℕ)) (status : ℕ) (old new : World)
    → bytes ≡ take (1048576 + 1) text → EndsSource folder (source_of bytes netlist) status old new
    → EndsSource folder (source_of text netlist) status old new
ends_whole folder text bytes netlist status old new read ends = elim (cases_lt 1048576 (length bytes)) [
  | inl long ↦ by_length long ends
  | inr short ↦ subst (λ t. EndsSource folder (source_of t netlist) status old new)
      (whole_text 1048576 text bytes read short) ends
]
  where
    by_length : 1048576 < length bytes → EndsSource folder (source_of bytes netlist) status old new
        → EndsSource folder (source_of text netlist) status old new
    by_length long (inl silent) = inl silent
    by_length long (inr (inl refuses)) = inr (inl (record {
      fault = refuses.fault;
      faulty = record {
        netlist = refuses.faulty.netlist;
        spelled = refuses.faulty.spelled;
        refuses = too_long refuses.faulty.netlist bytes text refuses.fault long
            (long_text 1048576 text bytes read long) refuses.faulty.refuses;
      };
      says = refuses.says;
    }))
    by_length long (inr (inr runs)) =
        let short = text_is_short runs.plans.netlist bytes runs.plan runs.plans.reads in absurd (omega (arith, long, short))

-- the same of the calls
pub calls_whole : (text bytes : List ℕ) (netlist : Option (List ℕ)) (before : ℕ) (old new : World)
    → bytes ≡ take (1048576 + 1) text → RunsInCalls before (source_of bytes netlist) old new
    → RunsInCalls before (source_of text netlist) old new
calls_whole text bytes netlist before old new read (inl few) = inl few
calls_whole text bytes netlist before old new read (inr ran) =
    let short = text_is_short ran.1.netlist bytes ran.0 ran.1.reads in
    subst (λ t. RunsInCalls before (source_of t netlist) old new) (whole_text 1048576 text bytes read short) (inr ran)

-- and after texts were fetched
pub fetched_calls : (source : Source) (fetch most : ℕ) (old mid new : World) → OnlyFetched old mid
    → mid.clock ≤ old.clock + fetch → fetch ≤ most → RunsInCalls 0 source mid new → RunsInCalls most source old new
fetched_calls source fetch most old mid new looked clock within (inl (few, still)) =
    inl (omega (arith, clock, few, within), old_then old mid new (fetched_old old mid looked) still)
fetched_calls source fetch most old mid new looked clock within (inr (plan, plans, calls, stops)) = inr (
  plan,
  plans,
  λ rest counted.
      let few = calls rest (subst (λ (m : Moment). AreCounted (job_of source plan) m.folder rest)
      (sym (still_there old mid looked)) counted) in
      omega (arith, clock, few, within),
  fetched_stops (job_of source plan) (length plan.lines) 2 fetch (most + 2) old mid new looked clock (omega (arith, within)) stops,
)

-- a call ends so whose words have no other reading: those of a run over texts, of a run of a size, and of a list
pub same_reading : (a b : Reading) → Some a ≡ Some b → a ≡ b
same_reading a b same = cc

same_folder : (a b : List ℕ) → Some (list a) ≡ Some (list b) → a ≡ b
same_folder a b same = cc

pub ends_texts : (folder script : List ℕ) (netlist : Option (List ℕ)) (budget status : ℕ) (old new : World)
    → RunsTexts (run folder script netlist budget) status old new
    → Ends (Some (run folder script netlist budget)) status old new
ends_texts folder script netlist budget status old new runs = record {
  ran = λ f s n b same. subst (λ (r : Reading). RunsTexts r status old new) (same_reading _ _ same) runs;
  generated = λ f size b same. absurd cc;
  listed = λ f same. absurd cc;
  unread = λ none. absurd cc;
}

pub ends_size : (folder : List ℕ) (size budget status : ℕ) (old new : World)
    → RunsAsked (gen folder size budget) status old new → Ends (Some (gen folder size budget)) status old new
ends_size folder size budget status old new runs = record {
  ran = λ f s n b same. absurd cc;
  generated = λ f z b same. subst (λ (r : Reading). RunsAsked r status old new) (same_reading _ _ same) runs;
  listed = λ f same. absurd cc;
  unread = λ none. absurd cc;
}

pub ends_list : (folder : List ℕ) (status : ℕ) (old new : World) → ListsIn folder status old new
    → Ends (Some (list folder)) status old new
ends_list folder status old new lists = record {
  ran = λ f s n b same. absurd cc;
  generated = λ f size b same. absurd cc;
  listed = λ f same. inr (subst (λ g. ListsIn g status old new) (same_folder _ _ same) lists);
  unread = λ none. absurd cc;
}

-- words that have no reading end with the usage
pub ends_unread : (asked : Option Reading) (status : ℕ) (old new : World) → asked ≡ None
    → SaysLine usage_line 2 status old new → Ends asked status old new
ends_unread asked status old new none says = record {
  ran = λ f s n b is. absurd cc;
  generated = λ f size b is. absurd cc;
  listed = λ f is. absurd cc;
  unread = λ _. inr says;
}

-- where there was no memory all words end alike: those of a size have a source
pub ends_without_memory : (asked : Option Reading) (old new : World) → OnlyFetched old new → Ends asked 9 old new
ends_without_memory asked old new looked = record {
  ran = λ f s n b is. inl (refl, looked);
  generated = λ f size b is. record {
    source = source_of (script_of size) None;
    source_is = refl;
    ends = inl (refl, looked);
  };
  listed = λ f is. inl (refl, looked);
  unread = λ none. inl (refl, looked);
}

-- a netlist that is accepted is short
pub accepted_is_short : (bytes : List ℕ) (net : Net) → IsReading bytes (Ok net) → length bytes ≤ 4194304
unfolding reading
accepted_is_short bytes net reads = elim (cases_lt 4194304 (length bytes)) [
  | inl long ↦ absurd (let e : nat_lt 4194304 (length bytes) ≡ true = lt-ltb _ _ long in let wrong = (rw e at reads) in cc)
  | inr short ↦ short
]

-- texts of netlists that are too long are refused alike
long_netlists : (a b : List ℕ) (fault : BlifFault) → 4194304 < length a → 4194304 < length b
    → IsReading a (Err fault) → IsReading b (Err fault)
unfolding reading
long_netlists a b fault long_a long_b refused =
    let e : nat_lt 4194304 (length a) ≡ true = lt-ltb _ _ long_a in
    let f : nat_lt 4194304 (length b) ≡ true = lt-ltb _ _ long_b in
    rw f (rw e at refused)

-- the fault of the bytes that were read is that of the text
pub faulty_whole : (text bytes : List ℕ) (fault : BlifFault) → bytes ≡ take (4194304 + 1) text → IsReading bytes (Err fault)
    → IsReading text (Err fault)
faulty_whole text bytes fault read refused = elim (cases_lt 4194304 (length bytes)) [
  | inl long ↦ long_netlists bytes text fault long (long_text 4194304 text bytes read long) refused
  | inr short ↦ subst (λ t. IsReading t (Err fault)) (whole_text 4194304 text bytes read short) refused
]

-- a count that rose later rose, where it stood still before
pub rose_since : (a b c : Faults) → b.folder ≡ a.folder → Rose b.folder c.folder → Rose a.folder c.folder
rose_since a b c same rose = subst (λ n. Rose n c.folder) same rose

pub said_since : (a b c : Faults) → b.say ≡ a.say → Rose b.say c.say → Rose a.say c.say
said_since a b c same rose = subst (λ n. Rose n c.say) same rose
