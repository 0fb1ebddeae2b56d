-- One reading has one source, a source one plan, and a job one script and one netlist.
use Rattle.std.proofs.Common.{◌≡◌, ◌∙◌, ℕ, ◌+◌, ◌^◌, ◌<◌, ◌≤◌, List, [], ◌++◌, length, take, drop, replicate, refl, sym, ap, ap₂, subst, arith, append_assoc}
use Rattle.std.specs.Prelude.{Option, Some, None, Result, Ok, Err, codes}
use Rattle.std.proofs.lemmas.List.{take_at, drop_at, length-append}
use Rattle.byteorder.specs.Endian.{big_bytes, big_number}
use Rattle.byteorder.specs.Numbers.{length-bytes_high_first, big_number-reads_back}
use Rattle.shelf_model.specs.World.{World}
use Rattle.catalogue.specs.Standings.{without_budget}
use Rattle.catalogue.proofs.Budget.{without_budget-parts}
use Rattle.blif_reader.specs.Answers.{net_of}
use Rattle.blif_reader.specs.Netlist.{Net, Settles, IsReading, reading}
use Rattle.blif_reader.specs.declared.fault.BlifFault.{BlifFault}
use Rattle.command_words.specs.Readings.{Reading, run, list, gen}
use Rattle.script_reader.specs.declared.fault.ScriptFault.{ScriptFault}
use Rattle.script_reader.specs.declared.plan.Plan.{Plan}
use Rattle.script_reader.specs.Reads.{Reads}
use Rattle.script_reader.proofs.PlanReads.{one_plan, plan_or_refusal, text_is_short}
use Rattle.script_runner.specs.declared.read_netlist.ReadNetlist.{ReadNetlist}
use Rattle.script_runner.specs.Netlists.{netlist_text, IsSpelled}
use Rattle.script_runner.specs.JobOf.{netlist_size, netlist_bytes, budget_in, job_bytes, job_of, IsShort}
use Rattle.script_runner.specs.Source.{Source, IsNamed, IsSource, with_budget, Spells, Plans, IsFaulty, HasFaultyText, HasFaultyNetlist}
use Rattle.script_runner.specs.Outcome.{Asks, Accepts}
use Rattle.script_runner.proofs.Endings.{accepted_is_short}

-- what is there is one thing
pub one_some : {X : Type 0} (x y : X) (o : Option X) → o ≡ Some x → o ≡ Some y → x ≡ y
one_some x y o a b = cc

pub some_or_none : {X : Type 0} (x : X) (o : Option X) → o ≡ Some x → o ≡ None → ⊥
some_or_none x o a b = cc

same_source : (a b : Source) → a.script ≡ b.script → a.netlist ≡ b.netlist → a ≡ b
same_source a b scripts netlists i = record { script = scripts i; netlist = netlists i }

one_named : (w : World) (path a b : Option (List ℕ)) → IsNamed w path a → IsNamed w path b → a ≡ b
one_named w None a b x y = x ∙ sym y
one_named w (Some path) a b x y =
    x.1 ∙ ap Some (one_some x.0 y.0 (w.texts path) x.2 y.2) ∙ sym y.1

-- a reading has one source
pub one_source : (w : World) (r : Reading) (a b : Source) → IsSource w r a → IsSource w r b → a ≡ b
one_source w (run folder script netlist budget) a b x y =
    same_source a b (one_some a.script b.script (w.texts script) x.0 y.0) (one_named w netlist a.netlist b.netlist x.1 y.1)
one_source w (list folder) a b x y = absurd x
one_source w (gen folder size budget) a b x y = x ∙ sym y

-- and with another budget it has that one too
pub any_budget : (w : World) (r : Reading) (budget : ℕ) (s : Source) → IsSource w r s → IsSource w (with_budget budget r) s
any_budget w (run folder script netlist other) budget s is = is
any_budget w (list folder) budget s is = is
any_budget w (gen folder size other) budget s is = is

-- words ask for one source
pub one_asked : (w : World) (asked : Option Reading) (a b : Source) → Asks w asked a → Asks w asked b → a ≡ b
one_asked w asked a b x y =
    let readings : x.reading ≡ y.reading = one_some x.reading y.reading asked x.asked_is y.asked_is in
    one_source w y.reading a b (subst (λ r. IsSource w r a) readings x.source_is) y.source_is

-- a text spells one netlist, and isn't refused then
settled_once : (r : Result Net BlifFault) (m n : Net) → Settles r (Ok m) → Settles r (Ok n) → m ≡ n
settled_once (Err fault) m n x y = absurd cc
settled_once (Ok net) m n x y = x.0 ∙ sym y.0

settled_or_not : (r : Result Net BlifFault) (n : Net) (fault : BlifFault) → Settles r (Ok n) → Settles r (Err fault) → ⊥
settled_or_not (Err other) n fault x y = cc
settled_or_not (Ok net) n fault x y = x.1 y.0 y.1.around

one_spelled : (text : Option (List ℕ)) (a b : Option Net) → Spells text a → Spells text b → a ≡ b
one_spelled None a b x y = x ∙ sym y
one_spelled (Some text) a b x y =
    x.1 ∙ ap Some (settled_once (reading text) x.0 y.0 x.2.reads y.2.reads) ∙ sym y.1

-- sources of one script and one netlist have one plan
pub one_planned : (a b : Source) (p q : Plan) → a.script ≡ b.script → a.netlist ≡ b.netlist → Plans a p → Plans b q → p ≡ q
one_planned a b p q scripts netlists x y =
    let nets : x.netlist ≡ y.netlist = one_spelled b.netlist x.netlist y.netlist
    (subst (λ t. Spells t x.netlist) netlists x.spelled) y.spelled in
    one_plan y.netlist b.script p q (subst (λ t. Reads y.netlist t p) scripts
    (subst (λ n. Reads n a.script p) nets x.reads)) y.reads

-- and no fault
pub planned_or_faulty : (s : Source) (p : Plan) (fault : ScriptFault) → Plans s p → IsFaulty s fault → ⊥
planned_or_faulty s p fault x y =
    let nets : x.netlist ≡ y.netlist = one_spelled s.netlist x.netlist y.netlist x.spelled y.spelled in
    plan_or_refusal y.netlist s.script p fault (subst (λ n. Reads n s.script p) nets x.reads) y.refuses

-- the netlist of a run stands at the path that names it
netlist_of_run : (w : World) (folder script : List ℕ) (netlist : Option (List ℕ)) (budget : ℕ) (s : Source)
    → IsSource w (run folder script netlist budget) s → IsNamed w netlist s.netlist
netlist_of_run w folder script netlist budget s is = is.1

-- a source that is planned has no faulty netlist
pub netlist_is_good : (w : World) (r : Reading) (s : Source) (p : Plan) (fault : BlifFault) → IsSource w r s → Plans s p
    → HasFaultyNetlist w r fault → ⊥
netlist_is_good w (run folder script (Some path) budget) s p fault is plans faulty =
    let named = netlist_of_run w folder script (Some path) budget s is in
    let bytes : named.0 ≡ faulty.0 = one_some named.0 faulty.0 (w.texts path) named.2 faulty.1 in
    let spelled : Spells (Some faulty.0) plans.netlist = subst (λ b. Spells (Some b) plans.netlist) bytes
    (subst (λ t. Spells t plans.netlist) named.1 plans.spelled) in
    settled_or_not (reading faulty.0) spelled.0 fault spelled.2.reads faulty.2
netlist_is_good w (run folder script None budget) s p fault is plans faulty = absurd faulty
netlist_is_good w (list folder) s p fault is plans faulty = absurd faulty
netlist_is_good w (gen folder size budget) s p fault is plans faulty = absurd faulty

-- nor is a netlist that was read
pub read_is_good : (w : World) (path : Option (List ℕ)) (given : Option ReadNetlist) (fault : BlifFault)
    → IsNamed w path (netlist_text given) → IsSpelled given → HasFaultyText w path fault → ⊥
read_is_good w None given fault named spelled faulty = faulty
read_is_good w (Some path) None fault named spelled faulty = absurd (let none = named.1 in cc)
read_is_good w (Some path) (Some given) fault named spelled faulty =
    let bytes : named.0 ≡ faulty.0 = one_some named.0 faulty.0 (w.texts path) named.2 faulty.1 in
    let text : given.text.items ≡ faulty.0 = one_some given.text.items faulty.0 (Some given.text.items) refl (named.1 ∙ ap Some bytes) in
    settled_or_not (reading faulty.0) (net_of given.net) fault (subst (λ b. IsReading b (Ok (net_of given.net))) text spelled) faulty.2

-- the netlist of a source that is planned is short
spelled_is_short : (text : Option (List ℕ)) (net : Option Net) → Spells text net → IsShort text
spelled_is_short None net x = tt
spelled_is_short (Some text) net x = accepted_is_short text x.0 x.2.reads

pub planned_is_short : (s : Source) (p : Plan) → Plans s p → (length s.script ≤ 1048576) × IsShort s.netlist
planned_is_short s p plans =
    (text_is_short plans.netlist s.script p plans.reads, spelled_is_short s.netlist plans.netlist plans.spelled)

-- lists that are joined alike are alike, where their fronts are as long
front_same : (p q r s : List ℕ) → length p ≡ length r → p ++ q ≡ r ++ s → p ≡ r
front_same p q r s sizes same = sym (take_at p q (length r) sizes) ∙ ap (take (length r)) same ∙ take_at r s (length r) refl

rest_same : (p q r s : List ℕ) → length p ≡ length r → p ++ q ≡ r ++ s → q ≡ s
rest_same p q r s sizes same = sym (drop_at p q (length r) sizes) ∙ ap (drop (length r)) same ∙ drop_at r s (length r) refl

-- four bytes are those of one number
number_same : (m n : ℕ) → m < 2 ^ 32 → n < 2 ^ 32 → big_bytes 4 m ≡ big_bytes 4 n → m ≡ n
number_same m n small_m small_n same =
    sym (big_number-reads_back 4 m [] (omega (arith, small_m))) ∙ ap (λ bytes. big_number 4 (bytes ++ [])) same
    ∙ big_number-reads_back 4 n [] (omega (arith, small_n))

size_size : (netlist : Option (List ℕ)) → length (netlist_size netlist) ≡ 4
size_size None = refl
size_size (Some netlist) = length-bytes_high_first 4 (length netlist)

-- four bytes 255 are the length of no netlist
no_netlist : (netlist : List ℕ) → length netlist ≤ 4194304 → replicate 4 255 ≡ big_bytes 4 (length netlist) → ⊥
no_netlist netlist short same =
    let all : big_bytes 4 4294967295 ≡ replicate 4 255 = refl in
    let is : 4294967295 ≡ length netlist = number_same 4294967295 (length netlist) (omega arith) (omega (arith, short))
    (all ∙ same) in
    omega (arith, is, short)

same_netlist : (a b : Option (List ℕ)) → IsShort a → IsShort b → netlist_size a ≡ netlist_size b → netlist_bytes a ≡ netlist_bytes b → a ≡ b
same_netlist None None x y sizes bytes = refl
same_netlist None (Some b) x y sizes bytes = absurd (no_netlist b y sizes)
same_netlist (Some a) None x y sizes bytes = absurd (no_netlist a x (sym sizes))
same_netlist (Some a) (Some b) x y sizes bytes = ap Some bytes

-- what stands in a job's bytes behind the budget
abbrev behind_budget : Source → List ℕ
behind_budget s = big_bytes 4 (length s.script) ++ netlist_size s.netlist ++ s.script ++ netlist_bytes s.netlist

-- a job's bytes have the budget
pub budget_of_job : (budget : ℕ) (s : Source) → budget < 2 ^ 32 → budget_in (job_bytes budget s) ≡ budget
unfolding budget_in job_bytes
budget_of_job budget s small =
    ap (big_number 4) (drop_at (codes "ADIARJ01") (big_bytes 4 budget ++ behind_budget s) 8 refl)
    ∙ big_number-reads_back 4 budget (behind_budget s) (omega (arith, small))

-- and without it they are those with the budget 0
pub job_without_budget : (budget : ℕ) (s : Source) → without_budget (job_bytes budget s) ≡ job_bytes 0 s
unfolding job_bytes
job_without_budget budget s =
    without_budget-parts (codes "ADIARJ01") (big_bytes 4 budget) (behind_budget s) refl (length-bytes_high_first 4 budget)

-- a job is of one script and one netlist
pub job_has_texts : (a b : Source) (p q : Plan) → Plans a p → Plans b q → job_bytes 0 a ≡ job_bytes 0 b
    → (a.script ≡ b.script) × (a.netlist ≡ b.netlist)
unfolding job_bytes
job_has_texts a b p q plans_a plans_b same = (scripts, same_netlist a.netlist b.netlist short_a.1 short_b.1 sizes netlists)
  where
    short_a : (length a.script ≤ 1048576) × IsShort a.netlist
    short_a = planned_is_short a p plans_a

    short_b : (length b.script ≤ 1048576) × IsShort b.netlist
    short_b = planned_is_short b q plans_b

    front : List ℕ
    front = codes "ADIARJ01" ++ big_bytes 4 0

    lengths : Source → List ℕ
    lengths s = front ++ big_bytes 4 (length s.script)

    head : Source → List ℕ
    head s = lengths s ++ netlist_size s.netlist

    size_lengths : (s : Source) → length (lengths s) ≡ 16
    size_lengths s = length-append front (big_bytes 4 (length s.script)) ∙ ap (λ n. 12 + n) (length-bytes_high_first 4 (length s.script))

    size_head : (s : Source) → length (head s) ≡ 20
    size_head s = length-append (lengths s) (netlist_size s.netlist) ∙ ap₂ (λ m n. m + n) (size_lengths s) (size_size s.netlist)

    regrouped : head a ++ (a.script ++ netlist_bytes a.netlist) ≡ head b ++ (b.script ++ netlist_bytes b.netlist)
    regrouped = sym (append_assoc (head a) a.script (netlist_bytes a.netlist)) ∙ same
        ∙ append_assoc (head b) b.script (netlist_bytes b.netlist)

    heads : head a ≡ head b
    heads = front_same (head a) _ (head b) _ (size_head a ∙ sym (size_head b)) regrouped

    behind : a.script ++ netlist_bytes a.netlist ≡ b.script ++ netlist_bytes b.netlist
    behind = rest_same (head a) _ (head b) _ (size_head a ∙ sym (size_head b)) regrouped

    sizes : netlist_size a.netlist ≡ netlist_size b.netlist
    sizes = rest_same (lengths a) _ (lengths b) _ (size_lengths a ∙ sym (size_lengths b)) heads

    fronts : lengths a ≡ lengths b
    fronts = front_same (lengths a) _ (lengths b) _ (size_lengths a ∙ sym (size_lengths b)) heads

    script_sizes : length a.script ≡ length b.script
    script_sizes =
        let x = short_a.0 in
        let y = short_b.0 in
        number_same (length a.script) (length b.script) (omega (arith, x)) (omega (arith, y))
        (rest_same front _ front _ refl fronts)

    scripts : a.script ≡ b.script
    scripts = front_same a.script _ b.script _ script_sizes behind

    netlists : netlist_bytes a.netlist ≡ netlist_bytes b.netlist
    netlists = rest_same a.script _ b.script _ script_sizes behind

-- jobs of the same bytes, scripts and plans are the same
pub same_job : (a b : Source) (p q : Plan) → job_bytes 0 a ≡ job_bytes 0 b → a.script ≡ b.script → p ≡ q → job_of a p ≡ job_of b q
same_job a b p q bytes scripts plans i =
    record { n = (plans i).n; text = scripts i; steps = (plans i).steps; bytes = bytes i }

-- words that ask for a plan ask for one source and one plan
pub one_accepted : (w : World) (asked : Option Reading) (p q : Plan) (a : Accepts w asked p) (b : Accepts w asked q)
    → (a.source ≡ b.source) × (p ≡ q)
one_accepted w asked p q a b =
    let sources : a.source ≡ b.source = one_asked w asked a.source b.source a.asks b.asks in (
      sources,
      one_planned a.source b.source p q (ap (λ (s : Source). s.script) sources)
          (ap (λ (s : Source). s.netlist) sources) a.plans b.plans,
    )
