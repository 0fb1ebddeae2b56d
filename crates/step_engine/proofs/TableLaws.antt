-- The tables and files of constants and variables in a plan.
use Rattle.std.proofs.Common.{◌≡◌, ◌∙◌, ℕ, zero, suc, ◌+◌, ◌<◌, ◌≤◌, Bool, List, [], ◌∷◌, ◌++◌, length, get_or, sym, ap, subst, arith, length-append}
use Rattle.std.proofs.lemmas.List.{get_or-append-add}
use Rattle.bool_tables.specs.declared.steps.Step.TheVariants.{Const, Var}
use Rattle.bool_tables.specs.declared.steps.Planned.{Planned}
use Rattle.bool_tables.specs.Steps.{step_table, table_of_step, tables_after}
use Rattle.bool_tables.proofs.Halves.{length-table_with}
use Rattle.bool_tables.proofs.TableSteps.{tables_keep}
use Rattle.rec_words.specs.Words.{most_variables, level_numbers}
use Rattle.canon_file.specs.declared.row.Row.{Row}
use Rattle.canon_file.specs.Canon.{numbered, nodes_of, canon_nodes, canon_bytes}
use Rattle.canon_file.specs.Laws.{HasForm}
use Rattle.canon_file.specs.Rows.{levels, Fits}
use Rattle.canon_file.specs.Constants.{const_table}
use Rattle.canon_file.specs.Variables.{var_table}
use Rattle.canon_file.proofs.ConstDiagram.{no_node-const}
use Rattle.canon_file.proofs.LevelLaws.{length-numbered}
use Rattle.canon_file.proofs.VarDiagram.{one_node-var}
use Rattle.step_work.specs.Plans.{no_step}
use Rattle.sound_image.specs.Jobs.{Job, step_at, table_at, nodes_at, file_of}

-- each step's table is made from those before it, which are the first of all
made_at : (n : ℕ) (done : List (List Bool)) (steps : List Planned) (k : ℕ) (d : Planned) → k < length steps
    → (seen : List (List Bool)) × (get_or (tables_after n done steps) (length done + k) [] ≡ step_table n seen (get_or steps k d).step)
    × ((j : ℕ) → j < length done + k → get_or seen j [] ≡ get_or (tables_after n done steps) j [])
made_at n done [] k d within = absurd (omega arith)
made_at n done (s ∷ steps) zero d within =
    let more : List (List Bool) = done ++ step_table n done s.step ∷ [] in (
      done,
      tables_keep n more steps (length done + 0) (omega (arith, length-append done (step_table n done s.step ∷ []))) ∙ get_or-append-add done (step_table n done s.step ∷ []) 0 [],
      λ j below. sym (tables_keep n done (s ∷ steps) j (omega (arith, below))),
    )
made_at n done (s ∷ steps) (suc k) d within =
    let less : k < length steps = omega arith in
    let found = made_at n (done ++ step_table n done s.step ∷ []) steps k d less in
    let place : length done + suc k ≡ length (done ++ step_table n done s.step ∷ []) + k = omega (arith, length-append done (step_table n done s.step ∷ [])) in (
      found.0,
      ap (λ i. get_or (tables_after n done (s ∷ steps)) i []) place ∙ found.1,
      λ j below. found.2 j (omega (arith, below, place)),
    )

here : (job : Job) (k : ℕ) → table_at job k ≡ get_or (tables_after job.n [] job.steps) (0 + k) []
here job k = let place : k ≡ 0 + k = omega arith in ap (λ i. get_or (tables_after job.n [] job.steps) i []) place

-- the table of a constant's step, and of a variable's
pub constant_table : (job : Job) (k : ℕ) (value : Bool) → k < length job.steps → (step_at job k).step ≡ Const value → table_at job k ≡ const_table job.n value
constant_table job k value within step =
    let found = made_at job.n [] job.steps k no_step within in
    here job k ∙ found.1 ∙ ap (step_table job.n found.0) step

pub variable_table : (job : Job) (k level : ℕ) → k < length job.steps → (step_at job k).step ≡ Var level → table_at job k ≡ var_table job.n level
variable_table job k level within step =
    let found = made_at job.n [] job.steps k no_step within in
    here job k ∙ found.1 ∙ ap (step_table job.n found.0) step

-- their files and their numbers of nodes
pub constant_is : (job : Job) (k n : ℕ) (value : Bool) → job.n ≡ n → k < length job.steps → (step_at job k).step ≡ Const value → canon_bytes n (const_table n value) ≡ file_of job k
constant_is job k n value n_is within step =
    ap (λ m. canon_bytes m (const_table m value)) (sym n_is) ∙ ap (canon_bytes job.n) (sym (constant_table job k value within step))

pub variable_is : (job : Job) (k n level : ℕ) → job.n ≡ n → k < length job.steps → (step_at job k).step ≡ Var level → canon_bytes n (var_table n level) ≡ file_of job k
variable_is job k n level n_is within step =
    ap (λ m. canon_bytes m (var_table m level)) (sym n_is) ∙ ap (canon_bytes job.n) (sym (variable_table job k level within step))

pub constant_nodes : (job : Job) (k : ℕ) (value : Bool) → k < length job.steps → (step_at job k).step ≡ Const value → nodes_at job k ≡ 0
constant_nodes job k value within step =
    ap (λ t. length (canon_nodes job.n t)) (constant_table job k value within step) ∙ ap length (no_node-const job.n value).nodes

pub variable_nodes : (job : Job) (k level : ℕ) → k < length job.steps → (step_at job k).step ≡ Var level → level < job.n → nodes_at job k ≡ 1
variable_nodes job k level within step below =
    ap (λ t. length (canon_nodes job.n t)) (variable_table job k level within step) ∙ ap length (one_node-var job.n level below).nodes

-- the table of a step is made from the tables of earlier steps
pub record IsMadeFrom (job : Job) (k : ℕ) : Type 0 where
  pub seen : List (List Bool)
  pub table_is : table_at job k ≡ step_table job.n seen (step_at job k).step
  pub are : (j : ℕ) → j < k → table_of_step seen j ≡ table_at job j

pub made_from : (job : Job) (k : ℕ) → k < length job.steps → IsMadeFrom job k
made_from job k within =
    let found = made_at job.n [] job.steps k no_step within in
    record { seen = found.0; table_is = here job k ∙ found.1; are = λ j below. found.2 j (omega (arith, below)) }

-- where there are few nodes, each level has few rows
fits_nodes : (i : ℕ) (rows : List (List Row)) → length (nodes_of i rows) ≤ level_numbers → Fits rows
fits_nodes i [] few = tt
fits_nodes i (rs ∷ deeper) few =
    let all = length-append (nodes_of (suc i) deeper) (numbered i 0 rs) in
    let here_many = length-numbered i 0 rs in
    (omega (arith, few, all, here_many), fits_nodes (suc i) deeper (omega (arith, few, all, here_many)))

-- the canonical forms of constants and of variables are defined
pub constant_form : (job : Job) (k : ℕ) (value : Bool) → job.n ≤ most_variables → k < length job.steps → (step_at job k).step ≡ Const value → HasForm job.n (table_at job k)
unfolding canon_nodes
constant_form job k value few within step = subst (HasForm job.n) (sym (constant_table job k value within step)) (record {
  few = few;
  whole = length-table_with job.n _;
  fits = fits_nodes 0 (levels job.n 0 (const_table job.n value ∷ []))
      (let none = ap length (no_node-const job.n value).nodes in omega (arith, none));
})

pub variable_form : (job : Job) (k level : ℕ) → job.n ≤ most_variables → k < length job.steps → (step_at job k).step ≡ Var level → level < job.n → HasForm job.n (table_at job k)
unfolding canon_nodes
variable_form job k level few within step below = subst (HasForm job.n) (sym (variable_table job k level within step)) (record {
  few = few;
  whole = length-table_with job.n _;
  fits = fits_nodes 0 (levels job.n 0 (var_table job.n level ∷ []))
      (let one = ap length (one_node-var job.n level below).nodes in omega (arith, one));
})
