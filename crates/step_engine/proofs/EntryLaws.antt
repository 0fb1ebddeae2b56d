-- The entries that are made are those of their steps.
use Rattle.std.proofs.Common.{◌≡◌, ◌∙◌, ◌⊎◌, ℕ, zero, suc, ◌+◌, ◌-◌, ◌/◌, ◌^◌, Bool, ◌<◌, ◌≤◌, true, false, cond, ◌&&◌, nat_le, nat_lt, List, [], ◌∷◌, ◌++◌, length, take, drop, get_or, replicate, refl, sym, ap, ap₂, subst, inl, inr, arith, length-append}
use Rattle.std.specs.Prelude.{IsTrue, All, not, Result, Ok, Err, IfErr}
use Rattle.std.specs.Result.{IsErrAnd}
use Rattle.std.specs.List.{list_all, list_any}
use Rattle.std.proofs.lemmas.Bool.{and_parts, leb-true, ltb-true}
use Rattle.std.proofs.lemmas.List.{length-take-le, length-drop, drop_at, length-replicate, get_or-take}
use Rattle.std.proofs.lemmas.List.Elements.{All-replicate}
use Rattle.bool_tables.specs.declared.steps.Step.{Step}
use Rattle.bool_tables.specs.declared.steps.Step.TheVariants.{Const, Var, Pair, Ite, Quantify, Restrict, Drop, Same, Leq, Eval, Size}
use Rattle.bool_tables.specs.declared.steps.Planned.{Planned}
use Rattle.bool_tables.specs.Plans.{IsWellFormed, is_live, is_diagram, drops, operands, makes_diagram, has_name}
use Rattle.shelf_model.specs.declared.fault.StreamFault.{StreamFault}
use Rattle.shelf_model.specs.declared.fault.StreamFault.TheVariants as stream
use Rattle.shelf_model.specs.declared.sort_fault.SortFault.{SortFault}
use Rattle.shelf_model.specs.SortFaults.{handed_on}
use Rattle.shelf_model.specs.Folder.{Folder}
use Rattle.catalogue.specs.declared.layout.Entry.{Entry}
use Rattle.catalogue.specs.Counts.{present}
use Rattle.catalogue.specs.Entries.{IsEntry, IsEntryOf}
use Rattle.catalogue.specs.Standings.{most_steps}
use Rattle.step_work.specs.Plans.{no_step}
use Rattle.sound_image.specs.Jobs.{Job, step_at, nodes_at}
use Rattle.sound_image.specs.Entries.{IsEntryOfStep, kind_of, answer_of, bit_of, count_of, name_of, work_of}
use Rattle.sound_image.specs.Holds.{Holds}
use Rattle.sound_image.proofs.EntryLaws.{entry_stands, held_entry}
use Rattle.step_engine.specs.declared.entries.Spent.{Spent}
use Rattle.step_engine.specs.StepEntries.{diagram_entry, nameless_entry, one_turn, IsEntryFor}
use Rattle.step_engine.specs.StepFaults.{IsKindFault}
use Rattle.step_engine.proofs.PlanLaws.{follows_at, operands_live}

all_zero : (n : ℕ) → All (λ (b : ℕ). b ≡ 0) (replicate n 0)
all_zero n = All-replicate (λ (b : ℕ). b ≡ 0) n 0 refl

filled : (n : ℕ) → n ≤ 63 → n + (63 - n) ≡ 63
filled n h = omega arith

-- what a step took fits its places
pub record IsSpent (spent : Spent) : Type 0 where
  pub some : 1 ≤ spent.turns
  pub turns : spent.turns < 2 ^ 64
  pub from : 3 ≤ spent.parts
  pub parts : spent.parts ≤ 2 ^ 32
  pub few : spent.parts ≤ 1024 + spent.turns / 16

-- one turn and no part do
pub one_turn_spent : IsSpent one_turn
one_turn_spent = record {
  some = omega arith;
  turns = omega arith;
  from = omega arith;
  parts = omega arith;
  few = omega arith;
}

-- the fields of a diagram's entry fit their places
pub diagram_fits : (k nodes : ℕ) (spent : Spent) (text : List ℕ) (p : Planned) → k < most_steps → IsTrue (has_name text p) → nodes < 2 ^ 64 → IsSpent spent
    → IsEntry (diagram_entry text p k nodes spent)
diagram_fits k nodes spent text p few named small took =
    let within : p.name_at + p.name_len ≤ length text = leb-true (p.name_at + p.name_len) (length text) (and_parts (nat_le (p.name_at + p.name_len) (length text)) (nat_le p.name_len 63) named).0 in
    let short : p.name_len ≤ 63 = leb-true p.name_len 63 (and_parts (nat_le (p.name_at + p.name_len) (length text)) (nat_le p.name_len 63) named).1 in
    let name : List ℕ = take p.name_len (drop p.name_at text) in
    let size : length name ≡ p.name_len = length-take-le p.name_len (drop p.name_at text) (omega (arith, length-drop p.name_at text, within)) in
    record {
      fits = record {
        number = omega (arith, few);
        count = small;
        turns = took.turns;
        parts = let most = took.parts in omega (arith, most);
        name = length-append name (replicate (63 - p.name_len) 0) ∙ ap₂ (λ a b. a + b) size (length-replicate (63 - p.name_len) 0) ∙ filled p.name_len short;
      };
      layout = record {
        kind = (omega arith, omega arith);
        answer = inl refl;
        named = inr (short, refl);
        padded = subst (λ xs. All (λ (b : ℕ). b ≡ 0) xs) (sym (drop_at name (replicate (63 - p.name_len) 0) p.name_len size)) (all_zero (63 - p.name_len));
        worked = took.some;
      };
    }

-- and those of the entry of a drop or an answer
pub nameless_fits : (k kind answer count : ℕ) (spent : Spent) → k < 2 ^ 32 → (1 ≤ kind) × (kind ≤ 3)
    → (answer ≡ 0) ⊎ ((answer ≡ 1) × (kind ≡ 3) × (count ≡ 0)) → count < 2 ^ 64 → IsSpent spent
    → IsEntry (nameless_entry k kind answer count spent)
nameless_fits k kind answer count spent few kinds says small took = record {
  fits = record {
    number = omega (arith, few);
    count = small;
    turns = took.turns;
    parts = let most = took.parts in omega (arith, most);
    name = length-replicate {A = ℕ} 63 0;
  };
  layout = record {
    kind = kinds;
    answer = says;
    named = inl refl;
    padded = all_zero 63;
    worked = took.some;
  };
}

-- an answer is 0 or 1
pub bit_says : (b : Bool) → (bit_of b ≡ 0) ⊎ ((bit_of b ≡ 1) × (◌≡◌ {A = ℕ} 3 3) × (◌≡◌ {A = ℕ} 0 0))
bit_says true = inr (refl, refl, refl)
bit_says false = inl refl

-- the entries that can be committed for their steps
pub for_diagram : (k nodes : ℕ) (spent : Spent) (text : List ℕ) (p : Planned) (e : Entry) → e ≡ diagram_entry text p k nodes spent → k < most_steps
    → IsTrue (has_name text p) → nodes < 2 ^ 64 → IsSpent spent → kind_of p.step ≡ 1 → IsEntryFor p.step k e
for_diagram k nodes spent text p e e_is few named small took kind =
    subst (IsEntryFor p.step k) (sym e_is)
    (record { entry_is = diagram_fits k nodes spent text p few named small took; number_is = refl; kind_is = sym kind })

pub for_nameless : (k kind answer count : ℕ) (spent : Spent) (p : Planned) (e : Entry) → e ≡ nameless_entry k kind answer count spent → k < most_steps
    → (1 ≤ kind) × (kind ≤ 3) → (answer ≡ 0) ⊎ ((answer ≡ 1) × (kind ≡ 3) × (count ≡ 0)) → count < 2 ^ 64 → IsSpent spent → kind_of p.step ≡ kind
    → IsEntryFor p.step k e
for_nameless k kind answer count spent p e e_is few kinds says small took kind_is =
    subst (IsEntryFor p.step k) (sym e_is)
    (record { entry_is = nameless_fits k kind answer count spent (omega (arith, few)) kinds says small took; number_is = refl; kind_is = sym kind_is })

-- a turn is within the work of each step
pub one_within : (job : Job) (step : Step) → 1 ≤ work_of job step
one_within job step = omega arith

-- a diagram's entry
pub diagram_entry_is : (job : Job) (k nodes : ℕ) (spent : Spent) (text : List ℕ) (p : Planned) → k < most_steps → IsTrue (has_name text p) → job.text ≡ text → step_at job k ≡ p
    → kind_of p.step ≡ 1 → makes_diagram p.step ≡ true → answer_of job p.step ≡ 0 → count_of job k p.step ≡ nodes → nodes < 2 ^ 64
    → IsSpent spent → spent.turns ≤ work_of job p.step → IsEntryOfStep job k (diagram_entry text p k nodes spent)
diagram_entry_is job k nodes spent text p few named text_is p_is kind diagram answer count small took within_work =
    let within : p.name_at + p.name_len ≤ length text = leb-true (p.name_at + p.name_len) (length text) (and_parts (nat_le (p.name_at + p.name_len) (length text)) (nat_le p.name_len 63) named).0 in
    let name : List ℕ = take p.name_len (drop p.name_at text) in
    let size : length name ≡ p.name_len = length-take-le p.name_len (drop p.name_at text) (omega (arith, length-drop p.name_at text, within)) in
    let name_is : name_of job (step_at job k) ≡ name =
    ap (name_of job) p_is ∙ ap (λ b. cond b (take p.name_len (drop p.name_at job.text)) []) diagram ∙ ap (λ t. take p.name_len (drop p.name_at t)) text_is in
    record {
      entry_is = diagram_fits k nodes spent text p few named small took;
      number_is = refl;
      kind_is = sym kind ∙ ap (λ (q : Planned). kind_of q.step) (sym p_is);
      answer_is = sym answer ∙ ap (λ (q : Planned). answer_of job q.step) (sym p_is);
      count_is = sym count ∙ ap (λ (q : Planned). count_of job k q.step) (sym p_is);
      name_len_is = sym size ∙ ap length (sym name_is);
      name_is = ap₂ (λ a b. a ++ replicate (63 - b) 0) (sym name_is) (sym size ∙ ap length (sym name_is));
      turns_are = (took.some, subst (λ (q : Planned). spent.turns ≤ work_of job q.step) (sym p_is) within_work);
      parts_are = (took.from, took.parts, took.few);
    }

-- the entry of a drop or an answer
pub nameless_entry_is : (job : Job) (k kind answer count : ℕ) (spent : Spent) (p : Planned) → k < most_steps → step_at job k ≡ p → kind_of p.step ≡ kind
    → (1 ≤ kind) × (kind ≤ 3) → (answer ≡ 0) ⊎ ((answer ≡ 1) × (kind ≡ 3) × (count ≡ 0))
    → makes_diagram p.step ≡ false → answer_of job p.step ≡ answer → count_of job k p.step ≡ count → count < 2 ^ 64
    → IsSpent spent → spent.turns ≤ work_of job p.step → IsEntryOfStep job k (nameless_entry k kind answer count spent)
nameless_entry_is job k kind answer count spent p few p_is kind_is kinds says diagram answer_is count_is small took within_work =
    let none : name_of job (step_at job k) ≡ [] = ap (name_of job) p_is ∙ ap (λ b. cond b (take p.name_len (drop p.name_at job.text)) []) diagram in
    record {
      entry_is = nameless_fits k kind answer count spent (omega (arith, few)) kinds says small took;
      number_is = refl;
      kind_is = sym kind_is ∙ ap (λ (q : Planned). kind_of q.step) (sym p_is);
      answer_is = sym answer_is ∙ ap (λ (q : Planned). answer_of job q.step) (sym p_is);
      count_is = sym count_is ∙ ap (λ (q : Planned). count_of job k q.step) (sym p_is);
      name_len_is = ap length (sym none);
      name_is = ap (λ name. name ++ replicate (63 - length name) 0) (sym none);
      turns_are = (took.some, subst (λ (q : Planned). spent.turns ≤ work_of job q.step) (sym p_is) within_work);
      parts_are = (took.from, took.parts, took.few);
    }

-- an entry of the kind of diagrams counts nodes
diagram_count : (job : Job) (k : ℕ) (s : Step) → kind_of s ≡ 1 → count_of job k s ≡ nodes_at job k
diagram_count job k (Const value) h = refl
diagram_count job k (Var level) h = refl
diagram_count job k (Pair op left right) h = refl
diagram_count job k (Ite test if_one if_zero) h = refl
diagram_count job k (Quantify kind operand level) h = refl
diagram_count job k (Restrict operand level value) h = refl
diagram_count job k (Drop gone) h = absurd (omega (arith, h))
diagram_count job k (Same left right) h = absurd (omega (arith, h))
diagram_count job k (Leq left right) h = absurd (omega (arith, h))
diagram_count job k (Eval operand at) h = absurd (omega (arith, h))
diagram_count job k (Size operand) h = absurd (omega (arith, h))

diagram_kind : (s : Step) → IsTrue (makes_diagram s) → kind_of s ≡ 1
diagram_kind (Const value) h = refl
diagram_kind (Var level) h = refl
diagram_kind (Pair op left right) h = refl
diagram_kind (Ite test if_one if_zero) h = refl
diagram_kind (Quantify kind operand level) h = refl
diagram_kind (Restrict operand level value) h = refl
diagram_kind (Drop gone) h = cc
diagram_kind (Same left right) h = cc
diagram_kind (Leq left right) h = cc
diagram_kind (Eval operand at) h = cc
diagram_kind (Size operand) h = cc

-- the entry of a size counts the nodes that its operand's entry counts
pub size_entry_is : (job : Job) (k operand : ℕ) (p : Planned) (e : Entry) (folder : Folder) → k < most_steps → step_at job k ≡ p → p.step ≡ Size operand → operand < k
    → Holds job k folder → IsEntryOf operand (present folder) e → e.kind ≡ 1 → IsEntryOfStep job k (nameless_entry k 3 0 e.count one_turn)
size_entry_is job k operand p e folder few p_is size below holds is kind =
    let of_step : IsEntryOfStep job operand e = held_entry job k operand folder e holds below is in
    let counts : count_of job k p.step ≡ e.count =
    ap (count_of job k) size ∙ sym (of_step.count_is ∙ diagram_count job operand (step_at job operand).step (sym of_step.kind_is ∙ kind)) in
    nameless_entry_is job k 3 0 e.count one_turn p few p_is (ap kind_of size) (omega arith, omega arith) (inl refl) (ap makes_diagram size)
    (ap (answer_of job) size) counts is.entry.fits.count one_turn_spent (one_within job p.step)

-- a step of a list that makes a diagram
diagram_made : (steps : List Planned) (j : ℕ) (d : Planned) → IsTrue (is_diagram steps j) → IsTrue (makes_diagram (get_or steps j d).step)
diagram_made [] j d h = absurd cc
diagram_made (s ∷ steps) zero d h = h
diagram_made (s ∷ steps) (suc j) d h = diagram_made steps j d h

-- the operand of a size in a well-formed plan is a diagram
pub operand_kind : (n : ℕ) (text : List ℕ) (steps : List Planned) (k operand : ℕ) → k < length steps → IsWellFormed n text steps → (get_or steps k no_step).step ≡ Size operand
    → operand < k → kind_of (get_or steps operand no_step).step ≡ 1
operand_kind n text steps k operand within plan size below =
    let live : IsTrue (list_all (is_live (take k steps)) (operand ∷ [])) =
    subst (λ s. IsTrue (list_all (is_live (take k steps)) (operands s))) size
    (operands_live n text (take k steps) (get_or steps k no_step) (follows_at n text steps k no_step within plan)) in
    let diagram : IsTrue (is_diagram (take k steps) operand) =
    (and_parts (is_diagram (take k steps) operand) (not (list_any (λ (s : Planned). drops operand s.step) (take k steps)))
    (and_parts (is_live (take k steps) operand) true live).0).0 in
    diagram_kind (get_or steps operand no_step).step
    (subst (λ (q : Planned). IsTrue (makes_diagram q.step)) (get_or-take k steps operand no_step below) (diagram_made (take k steps) operand no_step diagram))

-- where the folder holds the steps before, the entry of a size's operand isn't damaged
pub size_is_sound : (job : Job) (k operand : ℕ) (p : Planned) (fault : StreamFault) (folder : Folder) → k < length job.steps → IsWellFormed job.n job.text job.steps
    → step_at job k ≡ p → p.step ≡ Size operand → operand < k → Holds job k folder → IsKindFault operand 1 (present folder) fault → fault ≡ stream.Shelf
size_is_sound job k operand p stream.Shelf folder within plan p_is size below holds is = refl
size_is_sound job k operand p (stream.Damaged f at) folder within plan p_is size below holds is =
    let found = entry_stands job k operand folder holds below in
    let kind : kind_of (step_at job operand).step ≡ 1 =
    operand_kind job.n job.text job.steps k operand within plan (ap (λ (q : Planned). q.step) p_is ∙ size) below in
    absurd (is.2 found.0 (record { entry = found.1.entry_is; number = found.1.number_is; bytes = found.2 }) (found.1.kind_is ∙ kind))

-- a step that was found in its place
pub place_step : (job : Job) (k : ℕ) (p : Planned) (s : Step) → step_at job k ≡ p → p.step ≡ s → (step_at job k).step ≡ s
place_step job k p s p_is step = ap (λ (q : Planned). q.step) p_is ∙ step

-- a step's only operand is an earlier step, and its only level one of n
pub only_below : (n x : ℕ) → IsTrue (nat_lt x n && true) → x < n
only_below n x h = ltb-true x n (and_parts (nat_lt x n) true h).0

-- what is said of a fault that was handed on
pub handed : {T : Type 0} (result : Result T SortFault) (fault : StreamFault) (P : SortFault → Type 0) → IsErrAnd result (λ f. f ≡ handed_on fault) → P (handed_on fault) → IfErr result P
handed (Ok x) fault P is fact = absurd is
handed (Err f) fault P is fact = subst P (sym is) fact

-- the entry of a drop can be committed for its step
pub for_drop : (k gone : ℕ) (p : Planned) → p.step ≡ Drop gone → gone < 2 ^ 64 → k < most_steps → IsEntryFor p.step k (nameless_entry k 2 0 gone one_turn)
for_drop k gone p drop small few =
    for_nameless k 2 0 gone one_turn p (nameless_entry k 2 0 gone one_turn) refl few (omega arith, omega arith) (inl refl) small one_turn_spent (ap kind_of drop)

-- and it is the one that the step has
pub drop_entry_is : (job : Job) (k gone : ℕ) (p : Planned) → p.step ≡ Drop gone → gone < 2 ^ 64 → k < most_steps → step_at job k ≡ p
    → IsEntryOfStep job k (nameless_entry k 2 0 gone one_turn)
drop_entry_is job k gone p drop small few p_is =
    nameless_entry_is job k 2 0 gone one_turn p few p_is (ap kind_of drop) (omega arith, omega arith) (inl refl)
    (ap makes_diagram drop) (ap (answer_of job) drop) (ap (count_of job k) drop) small one_turn_spent (one_within job p.step)
