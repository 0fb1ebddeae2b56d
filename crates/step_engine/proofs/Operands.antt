-- What a step is given of the steps before it, where the folder has the files of their diagrams.
use Rattle.std.proofs.Common.{◌≡◌, ◌∙◌, ℕ, ◌+◌, ◌*◌, ◌<◌, Bool, false, true, cond, List, [], ◌∷◌, length, map, take, refl, sym, ap, ap₂, subst, arith}
use Rattle.std.specs.Prelude.{IsTrue, Some}
use Rattle.std.specs.List.{list_all}
use Rattle.std.proofs.lemmas.Bool.{and_parts}
use Rattle.std.proofs.lemmas.Option.{same_Some}
use Rattle.bool_tables.specs.declared.steps.Step.{Step}
use Rattle.bool_tables.specs.declared.steps.Step.TheVariants.{Const, Var, Pair, Ite, Quantify, Restrict, Drop, Same, Leq, Eval, Size}
use Rattle.bool_tables.specs.declared.steps.Bin.{Bin}
use Rattle.bool_tables.specs.declared.steps.Quant.{Quant}
use Rattle.bool_tables.specs.declared.steps.Planned.{Planned}
use Rattle.bool_tables.specs.Plans.{is_live, operands}
use Rattle.bool_tables.specs.Steps.{step_table, op_value, quant_value}
use Rattle.bool_tables.specs.Tables.{value_at, table_with, with_digit}
use Rattle.canon_file.specs.Canon.{canon_nodes, canon_bytes}
use Rattle.canon_file.specs.Laws.{HasForm}
use Rattle.shelf_model.specs.declared.file_no.FileNo.{FileNo}
use Rattle.shelf_model.specs.File.{File, firm_file}
use Rattle.shelf_model.specs.Folder.{Folder, file_in}
use Rattle.shelf_model.specs.World.{World, now, file}
use Rattle.run_tiers.specs.Syncs.{IsFirm}
use Rattle.sound_image.specs.Files.{node_file}
use Rattle.sound_image.specs.Jobs.{Job, step_at, table_at, nodes_at, file_of}
use Rattle.sound_image.specs.Entries.{work_of}
use Rattle.sound_image.specs.Holds.{Holds}
use Rattle.sound_image.specs.Waiting.{Waits}
use Rattle.sound_image.proofs.Live.{live_below}
use Rattle.sound_image.proofs.Waiting.{waiting_diagram}
use Rattle.step_work.specs.Tuples.{joins}
use Rattle.step_work.specs.Works.{work_for, nodes_of}
use Rattle.step_work.proofs.SameTuples.{LeadAlike, same_count}
use Rattle.node_file.specs.Canonical.{IsCanonicalFile}
use Rattle.sweep_operations.specs.declared.steps.StepOperation.TheVariants as operations
use Rattle.top_down_sweep.specs.declared.beginning.OperandFiles.{OperandFiles}
use Rattle.resumable.specs.Diagrams.{DiagramGoesOn, diagram_rests}
use Rattle.resumable.specs.Kinds.{StepGoesOn, RestsOn}
use Rattle.step_sweeps.specs.Answers.{IsFirmFile, AreTwo}
use Rattle.step_sweeps.specs.Given.{Tables, AreGiven, made_by, work_by}
use Rattle.step_engine.specs.declared.sweeping.Sweeping.{Sweeping}
use Rattle.step_engine.specs.Finding.{JobGoesOn, JobRests}
use Rattle.step_engine.specs.Simple.{IsStepOf}
use Rattle.step_engine.specs.Sweeping.{files_of, sweeping_of}
use Rattle.step_engine.proofs.PlanLaws.{follows_at, operands_live}
use Rattle.step_engine.proofs.TableLaws.{made_from}

-- the folder has the canonical file, which is defined, of each diagram that is live behind so many steps
pub record HasDiagrams (job : Job) (number : ℕ) (folder : Folder) : Type 0 where
  pub files : (s : ℕ) → IsTrue (is_live (take number job.steps) s)
      → file_in folder (node_file s) ≡ firm_file (file_of job s)
  pub forms : (s : ℕ) → IsTrue (is_live (take number job.steps) s) → HasForm job.n (table_at job s)

-- so it has where these steps are committed, and where some of them are and the others wait
pub held_diagrams : (job : Job) (number : ℕ) (folder : Folder) → Holds job number folder → HasDiagrams job number folder
held_diagrams job number folder holds = record { files = holds.files; forms = holds.forms }

pub waiting_diagrams : (job : Job) (committed number : ℕ) (folder : Folder) → Waits job committed number folder
    → HasDiagrams job number folder
waiting_diagrams job committed number folder waits = record {
  files = λ s live. (waiting_diagram job committed number number s folder waits waits.from (omega arith) live).0;
  forms = λ s live. (waiting_diagram job committed number number s folder waits waits.from (omega arith) live).1;
}

-- the step is the job's, under that number, and the folder has the diagrams that are live before it
pub record IsHeld (job : Job) (number : ℕ) (step : Step) (world : World) : Type 0 where
  pub within : number < length job.steps
  pub step_is : (step_at job number).step ≡ step
  pub live : IsTrue (list_all (is_live (take number job.steps)) (operands step))
  pub has : HasDiagrams job number (now world).folder

pub held_step : (job : Job) (n number : ℕ) (text : List ℕ) (p : Planned) (step : Step) (world : World) → IsStepOf job n text number p → p.step ≡ step
    → HasDiagrams job number (now world).folder → IsHeld job number step world
held_step job n number text p step world is step_is has =
    let found : (step_at job number).step ≡ step = ap (λ (q : Planned). q.step) is.step_is ∙ step_is in
    record {
      within = is.within;
      step_is = found;
      live = subst (λ s. IsTrue (list_all (is_live (take number job.steps)) (operands s))) found
          (operands_live job.n job.text (take number job.steps) (step_at job number) (follows_at job.n job.text job.steps number _ is.within is.well_formed));
      has = has;
    }

-- the file of a live diagram is the canonical one of its table
canonical : (job : Job) (number j : ℕ) (world : World) → HasDiagrams job number (now world).folder → IsTrue (is_live (take number job.steps) j)
    → IsCanonicalFile job.n (table_at job j) (node_file j) world
canonical job number j world has live = record { form = has.forms j live; bytes_are = ap (λ (f : File). f.bytes) (has.files j live) }

canonical_at : (job : Job) (n number j : ℕ) (f : FileNo) (world : World) → f ≡ node_file j → job.n ≡ n → HasDiagrams job number (now world).folder
    → IsTrue (is_live (take number job.steps) j) → IsCanonicalFile n (table_at job j) f world
canonical_at job n number j f world f_is n_is has live =
    subst (λ v. v) (λ i. IsCanonicalFile (n_is i) (table_at job j) (sym f_is i) world) (canonical job number j world has live)

-- whatever a stop leaves
firm : (job : Job) (number j : ℕ) (world : World) → HasDiagrams job number (now world).folder → IsTrue (is_live (take number job.steps) j) → IsFirm (file world (node_file j))
firm job number j world has live = has.files j live ∙ ap (λ (f : File). firm_file f.bytes) (sym (has.files j live))

firm_at : (job : Job) (n number j : ℕ) (f : FileNo) (world : World) → f ≡ node_file j → job.n ≡ n → HasDiagrams job number (now world).folder
    → IsTrue (is_live (take number job.steps) j) → IsFirmFile n (table_at job j) f world
firm_at job n number j f world f_is n_is has live = record {
  canonical = canonical_at job n number j f world f_is n_is has live;
  firm = subst (λ g. IsFirm (file world g)) (sym f_is) (firm job number j world has live);
}

-- of a list of live diagrams the first, the second and the third one
first_live : (steps : List Planned) (a : ℕ) (more : List ℕ) → IsTrue (list_all (is_live steps) (a ∷ more)) → IsTrue (is_live steps a)
first_live steps a more live = (and_parts (is_live steps a) (list_all (is_live steps) more) live).0

more_live : (steps : List Planned) (a : ℕ) (more : List ℕ) → IsTrue (list_all (is_live steps) (a ∷ more)) → IsTrue (list_all (is_live steps) more)
more_live steps a more live = (and_parts (is_live steps a) (list_all (is_live steps) more) live).1

-- of three operands the files are firm
pub record AreFirm (operands : OperandFiles) (world : World) : Type 0 where
  pub first : IsFirm (file world operands.first)
  pub second : IsFirm (file world operands.second)
  pub third : IsFirm (file world operands.third)

-- what a step is given that makes a diagram of others: the tables of the operands, whose files are canonical and firm,
-- the step's table as the operation makes it of these, and the step's work; and in which words the step goes on
pub record IsGivenTo (job : Job) (number : ℕ) (step : Step) (sweeping : Sweeping) (world : World) (n : ℕ) : Type 1 where
  pub tables : Tables
  pub are : AreGiven sweeping.operation n sweeping.operands world tables
  pub firm : AreFirm sweeping.operands world
  pub goes_is : JobGoesOn job number ≡ DiagramGoesOn sweeping.operation n sweeping.operands number tables
  pub rests_is : JobRests job number ≡ diagram_rests
  pub bytes_are : canon_bytes n (made_by sweeping.operation n tables) ≡ file_of job number
  pub nodes_are : length (canon_nodes n (made_by sweeping.operation n tables)) ≡ nodes_at job number
  pub form : HasForm n (made_by sweeping.operation n tables) → HasForm job.n (table_at job number)
  pub work_is : work_by sweeping.operation n tables ≡ work_of job step

-- so it is given these tables of as many variables as the job has
given_tables : (job : Job) (number : ℕ) (step : Step) (sweeping : Sweeping) (world : World) (g : Tables)
    → AreGiven sweeping.operation job.n sweeping.operands world g → AreFirm sweeping.operands world
    → JobGoesOn job number ≡ DiagramGoesOn sweeping.operation job.n sweeping.operands number g → JobRests job number ≡ diagram_rests
    → made_by sweeping.operation job.n g ≡ table_at job number
    → work_by sweeping.operation job.n g ≡ work_of job step → IsGivenTo job number step sweeping world job.n
given_tables job number step sweeping world g are firm goes_is rests_is table_is work_is = record {
  tables = g;
  are = are;
  firm = firm;
  goes_is = goes_is;
  rests_is = rests_is;
  bytes_are = ap (canon_bytes job.n) table_is;
  nodes_are = ap (λ t. length (canon_nodes job.n t)) table_is;
  form = subst (HasForm job.n) table_is;
  work_is = work_is;
}

-- the tables of three steps
abbrev three : Job → ℕ → ℕ → ℕ → Tables
three job a b c = record { first = table_at job a; second = table_at job b; third = table_at job c }

-- work is counted alike for steps that lead alike
same_work : (s t : Step) → joins s ≡ joins t → LeadAlike s t → (n : ℕ) (tables : List (List Bool)) → work_for n s tables ≡ work_for n t tables
same_work s t both alike n tables = ap (λ k. 16 * (k + nodes_of n tables + 1)) (same_count s t both alike n tables)

module _ (job : Job) (number : ℕ) (world : World) where
  pub pair_given : (op : Bin) (left right : ℕ) → IsHeld job number (Pair op left right) world
      → IsGivenTo job number (Pair op left right) (record { operation = operations.Operator op; operands = files_of left right right }) world job.n
  pair_given op left right is =
      let from = made_from job number is.within in
      let steps = take number job.steps in
      let left_live = first_live steps left (right ∷ []) is.live in
      let right_live = first_live steps right [] (more_live steps left (right ∷ []) is.live) in
      given_tables job number _ _ world (three job left right right) (record {
        first = canonical job number left world is.has left_live;
        second = canonical job number right world is.has right_live;
        third = canonical job number right world is.has right_live;
        repeated = refl;
      })
      (record {
        first = firm job number left world is.has left_live;
        second = firm job number right world is.has right_live;
        third = firm job number right world is.has right_live;
      })
      (ap (λ s r. StepGoesOn job.n job.text job.steps number s r) is.step_is) (ap (λ s c f many. RestsOn s c f many) is.step_is)
      (sym (from.table_is ∙ ap (step_table job.n from.seen) is.step_is
      ∙ ap₂ (λ a b. table_with job.n (λ p. op_value op (value_at a p) (value_at b p)))
      (from.are left (live_below job.steps number left left_live)) (from.are right (live_below job.steps number right right_live))))
      (same_work (Pair op 0 1) (Pair op left right) refl (λ i h x. refl) job.n (table_at job left ∷ table_at job right ∷ []))

  pub choice_given : (test if_one if_zero : ℕ) → IsHeld job number (Ite test if_one if_zero) world
      → IsGivenTo job number (Ite test if_one if_zero) (record { operation = operations.Choice; operands = files_of test if_one if_zero }) world job.n
  choice_given test if_one if_zero is =
      let from = made_from job number is.within in
      let steps = take number job.steps in
      let test_live = first_live steps test (if_one ∷ if_zero ∷ []) is.live in
      let more = more_live steps test (if_one ∷ if_zero ∷ []) is.live in
      let if_one_live = first_live steps if_one (if_zero ∷ []) more in
      let if_zero_live = first_live steps if_zero [] (more_live steps if_one (if_zero ∷ []) more) in
      given_tables job number _ _ world (three job test if_one if_zero) (record {
        first = canonical job number test world is.has test_live;
        second = canonical job number if_one world is.has if_one_live;
        third = canonical job number if_zero world is.has if_zero_live;
        repeated = tt;
      })
      (record {
        first = firm job number test world is.has test_live;
        second = firm job number if_one world is.has if_one_live;
        third = firm job number if_zero world is.has if_zero_live;
      })
      (ap (λ s r. StepGoesOn job.n job.text job.steps number s r) is.step_is) (ap (λ s c f many. RestsOn s c f many) is.step_is)
      (sym (from.table_is ∙ ap (step_table job.n from.seen) is.step_is
      ∙ (λ j. table_with job.n (λ p. cond (value_at (from.are test (live_below job.steps number test test_live) j) p)
      (value_at (from.are if_one (live_below job.steps number if_one if_one_live) j) p) (value_at (from.are if_zero (live_below job.steps number if_zero if_zero_live) j) p)))))
      (same_work (Ite 0 1 2) (Ite test if_one if_zero) refl (λ i h x. refl) job.n (table_at job test ∷ table_at job if_one ∷ table_at job if_zero ∷ []))

  pub quantifier_given : (kind : Quant) (of level : ℕ) → IsHeld job number (Quantify kind of level) world
      → IsGivenTo job number (Quantify kind of level) (record { operation = operations.Quantifier kind level; operands = files_of of of of }) world job.n
  quantifier_given kind of level is =
      let from = made_from job number is.within in
      let live = first_live (take number job.steps) of [] is.live in
      let file = canonical job number of world is.has live in
      let sure = firm job number of world is.has live in
      given_tables job number _ _ world (three job of of of) (record { first = file; second = file; third = file; repeated = (refl, refl) })
      (record { first = sure; second = sure; third = sure })
      (ap (λ s r. StepGoesOn job.n job.text job.steps number s r) is.step_is) (ap (λ s c f many. RestsOn s c f many) is.step_is)
      (sym (from.table_is ∙ ap (step_table job.n from.seen) is.step_is
      ∙ ap (λ a. table_with job.n (λ p. quant_value kind (value_at a (with_digit job.n level false p)) (value_at a (with_digit job.n level true p))))
      (from.are of (live_below job.steps number of live))))
      (same_work (Quantify kind 0 level) (Quantify kind of level) refl (λ i h x. refl) job.n (table_at job of ∷ []))

  pub restriction_given : (of level : ℕ) (value : Bool) → IsHeld job number (Restrict of level value) world
      → IsGivenTo job number (Restrict of level value) (record { operation = operations.Restriction level value; operands = files_of of of of }) world job.n
  restriction_given of level value is =
      let from = made_from job number is.within in
      let live = first_live (take number job.steps) of [] is.live in
      let file = canonical job number of world is.has live in
      let sure = firm job number of world is.has live in
      given_tables job number _ _ world (three job of of of) (record { first = file; second = file; third = file; repeated = (refl, refl) })
      (record { first = sure; second = sure; third = sure })
      (ap (λ s r. StepGoesOn job.n job.text job.steps number s r) is.step_is) (ap (λ s c f many. RestsOn s c f many) is.step_is)
      (sym (from.table_is ∙ ap (step_table job.n from.seen) is.step_is
      ∙ ap (λ a. table_with job.n (λ p. value_at a (with_digit job.n level value p)))
      (from.are of (live_below job.steps number of live))))
      (same_work (Restrict 0 level value) (Restrict of level value) refl (λ i h x. refl) job.n (table_at job of ∷ []))

-- whichever of these the step is
sweeping_given : (job : Job) (number : ℕ) (world : World) (step : Step) (sweeping : Sweeping) → sweeping_of step ≡ Some sweeping
    → IsHeld job number step world → IsGivenTo job number step sweeping world job.n
sweeping_given job number world (Const value) sweeping none is = cc
sweeping_given job number world (Var level) sweeping none is = cc
sweeping_given job number world (Pair op left right) sweeping some is =
    subst (λ s. IsGivenTo job number (Pair op left right) s world job.n) (same_Some _ sweeping some) (pair_given job number world op left right is)
sweeping_given job number world (Ite test if_one if_zero) sweeping some is =
    subst (λ s. IsGivenTo job number (Ite test if_one if_zero) s world job.n) (same_Some _ sweeping some) (choice_given job number world test if_one if_zero is)
sweeping_given job number world (Quantify kind of level) sweeping some is =
    subst (λ s. IsGivenTo job number (Quantify kind of level) s world job.n) (same_Some _ sweeping some) (quantifier_given job number world kind of level is)
sweeping_given job number world (Restrict of level value) sweeping some is =
    subst (λ s. IsGivenTo job number (Restrict of level value) s world job.n) (same_Some _ sweeping some) (restriction_given job number world of level value is)
sweeping_given job number world (Drop gone) sweeping none is = cc
sweeping_given job number world (Same left right) sweeping none is = cc
sweeping_given job number world (Leq left right) sweeping none is = cc
sweeping_given job number world (Eval of at) sweeping none is = cc
sweeping_given job number world (Size of) sweeping none is = cc

-- and of n variables
pub step_given : (job : Job) (n number : ℕ) (text : List ℕ) (p : Planned) (sweeping : Sweeping) (world : World) → sweeping_of p.step ≡ Some sweeping
    → IsStepOf job n text number p → HasDiagrams job number (now world).folder → IsGivenTo job number p.step sweeping world n
step_given job n number text p sweeping world some is has =
    subst (IsGivenTo job number p.step sweeping world) is.n_is
    (sweeping_given job number world p.step sweeping some (held_step job n number text p p.step world is refl has))

-- the files of two operands, and of one, are the canonical ones of their tables, and firm
pub two_given : (job : Job) (n number : ℕ) (text : List ℕ) (p : Planned) (world : World) (step : Step) (left right : ℕ)
    (f g : FileNo) → f ≡ node_file left → g ≡ node_file right → p.step ≡ step
    → operands step ≡ left ∷ right ∷ [] → IsStepOf job n text number p → HasDiagrams job number (now world).folder
    → AreTwo n f g world (record { left = table_at job left; right = table_at job right })
two_given job n number text p world step left right f g f_is g_is step_is names is has =
    let held = held_step job n number text p step world is step_is has in
    let live = subst (λ ks. IsTrue (list_all (is_live (take number job.steps)) ks)) names held.live in
    let second_live = first_live (take number job.steps) right [] (more_live (take number job.steps) left (right ∷ []) live) in
    record {
      left_is = firm_at job n number left f world f_is is.n_is has (first_live (take number job.steps) left (right ∷ []) live);
      right_is = firm_at job n number right g world g_is is.n_is has second_live;
    }

pub one_given : (job : Job) (n number : ℕ) (text : List ℕ) (p : Planned) (world : World) (step : Step) (of : ℕ)
    (f : FileNo) → f ≡ node_file of → p.step ≡ step
    → operands step ≡ of ∷ [] → IsStepOf job n text number p → HasDiagrams job number (now world).folder
    → IsFirmFile n (table_at job of) f world
one_given job n number text p world step of f f_is step_is names is has =
    let held = held_step job n number text p step world is step_is has in
    let live = subst (λ ks. IsTrue (list_all (is_live (take number job.steps)) ks)) names held.live in
    firm_at job n number of f world f_is is.n_is has (first_live (take number job.steps) of [] live)

-- the work of a step, by one that leads alike
pub work_given : (job : Job) (n number : ℕ) (text : List ℕ) (p : Planned) (s t : Step) → p.step ≡ t → joins s ≡ joins t → LeadAlike s t
    → IsStepOf job n text number p → work_for n s (map (table_at job) (operands t)) ≡ work_of job p.step
work_given job n number text p s t step_is both alike is =
    ap (λ m. work_for m s (map (table_at job) (operands t))) (sym is.n_is)
    ∙ same_work s t both alike job.n (map (table_at job) (operands t)) ∙ ap (work_of job) (sym step_is)
