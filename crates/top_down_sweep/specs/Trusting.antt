-- Where something of a task remains, what the turns put stands in the files of a sweep.
use Rattle.std.proofs.Common.{◌≡◌, ℕ, ◌+◌, ◌*◌, ◌^◌, ◌≤◌, ◌<◌, ◌∙◌, Bool, true, false, List, [], ◌∷◌, ◌++◌, All, length, refl, sym, subst, ap, inl, inr, arith}
use Rattle.std.specs.Prelude.{Option, Some, None, IfSome, map, option_map, get_or}
use Rattle.std.specs.Cmp.Lexicographic.{slice_cmp}
use Rattle.std.specs.Ordering.{nat_cmp, ordering_then, is_lt}
use Rattle.std.specs.declared.cmp.Ordering.{Ordering}
use Rattle.std.specs.declared.cmp.Ordering.TheVariants.{Less, Equal, Greater}
use Rattle.std.proofs.lemmas.Bool.Decides.{nat_tests}
use Rattle.list_laws.proofs.MemberLaws.{has_map, map_has}
use Rattle.list_laws.proofs.SameMembers.{has_at}
use Rattle.rec_words.specs.Words.{level_of, IsTerminal}
use Rattle.rec_words.specs.declared.node.Node.{Node}
use Rattle.shelf_model.specs.World.{World}
use Rattle.canon_file.specs.Members.{Has}
use Rattle.canon_file.proofs.FileLaws.{terminal_ends}
use Rattle.node_file.specs.Nodes.{HasNodes}
use Rattle.arc_file.specs.declared.arc.Arc.{Arc}
use Rattle.arc_file.specs.declared.kind.Kind.TheVariants.{Inner, End}
use Rattle.arc_file.specs.declared.unreduced.Unreduced.{Unreduced}
use Rattle.arc_file.specs.Files.{Leads}
use Rattle.level_queue.specs.Queues.{last_of}
use Rattle.top_down.specs.declared.tuple.Tuple.{Tuple}
use Rattle.top_down.specs.Rules.{Rule}
use Rattle.top_down.proofs.NumberLaws.{newest_above}
use Rattle.top_down.proofs.TurnLaws.{goes_below}
use Rattle.top_down_laws.specs.Forms as forms
use Rattle.top_down_laws.specs.Readings.{Diagrams, IsUpToHand, targets_in}
use Rattle.top_down_laws.specs.Remains as laws
use Rattle.tuple_asks.specs.declared.ask.Ask.{Ask}
use Rattle.tuple_asks.specs.declared.operand.Operand.{Operand}
use Rattle.tuple_asks.specs.declared.place.Numbered.{Numbered}
use Rattle.tuple_asks.specs.declared.place.Asking.{Asking}
use Rattle.tuple_asks.specs.declared.place.Phase.{Phase}
use Rattle.tuple_asks.specs.declared.place.Phase.TheVariants as phases
use Rattle.top_down_sweep.specs.declared.machine.Machine.{Machine}
use Rattle.top_down_sweep.specs.declared.sweep.TopDownSweep.{TopDownSweep}
use Rattle.tuple_asks.specs.Items.{ask_cmp}
use Rattle.tuple_asks.specs.ItemLaws.{ask_order}
use Rattle.tuple_asks.specs.Soundness.{side_number, asker_word, identifier}
use Rattle.tuple_asks.specs.Knowing.{FileBytes, KnowsBelow, KnowsHands}
use Rattle.top_down_sweep.specs.Knowing.{bytes_in}
use Rattle.top_down_sweep.specs.KnowingLaws.{AreOfTask, open_known, hands_known}
use Rattle.tuple_asks.specs.Operands.{IsReadTo, Fits, AreReading}
use Rattle.top_down_sweep.specs.Waiting.{KnowsAsk, Holds, HoldsSome, HoldsFirst}
use Rattle.top_down_sweep.specs.Ordered.{AreOrdered, source_word, ArePutTo, ArePut}
use Rattle.top_down_sweep.specs.Meaning.{Task, waiting_of, numbered_of, Contents, StandsFor, IsLeft, IsWorking, IsHandling, IsFresh, IsMadeOf, RemainsIn, RemainsOf, Remains}
use Rattle.top_down_sweep.specs.Calls.{IsTrustedAt, IsMachineTrusted, IsTrusted}

-- no node at hand lies behind the key of an ask that waits
hand_to : (o : Operand) (hand : Option Node) (k l : ℕ) → o.hand ≡ hand → k ≡ l → IsUpToHand hand k
    → IsReadTo l o
hand_to o hand k l same is reach = subst (λ v. v) (λ i. IfSome (sym same i) (λ x. x.uid ≤ is i)) reach

asks_fit : (t : Task) (s : Asking) (m : Machine) (world : World) (k : Contents) (last : Option Ask)
    → StandsFor m world k → IsLeft t s last k → All (Fits m.operands) k.asks
asks_fit t s m world k last stands left = λ i d within. one (get_or k.asks i d) (has_at k.asks i d within)
  where
    one : (b : Ask) → Has b k.asks → Fits m.operands b
    one b there =
        let (o, is_open, same) = map_has (laws.waiting_of (targets_in t.diagrams)) (waiting_of b) left.opens
        (subst (Has (waiting_of b)) left.are (has_map waiting_of b k.asks there)) in
        let reach = left.waits.reach o is_open in
        let key : o.key ≡ b.key = ap (λ (w : forms.Waiting). w.form.key) same in
        record {
          first = hand_to m.operands.first _ o.key b.key stands.read.first.hand_is key reach.first;
          second = hand_to m.operands.second _ o.key b.key stands.read.second.hand_is key reach.second;
          third = hand_to m.operands.third _ o.key b.key stands.read.third.hand_is key reach.third;
        }

-- what was read is as the files say
reads_of : (m : Machine) (world : World) (k : Contents) → StandsFor m world k → AreReading m.operands world
reads_of m world k stands = record {
  first = stands.read.first.reads;
  second = stands.read.second.reads;
  third = stands.read.third.reads;
}

-- where the files are those of the task's diagrams, they know what the asks name
asks_known : (t : Task) (b : FileBytes) → AreOfTask t b → (s : Asking) (k : Contents) (last : Option Ask)
    → IsLeft t s last k → All (KnowsAsk (Some b)) k.asks
asks_known t b are s k last left = λ i d within. one (get_or k.asks i d) (has_at k.asks i d within)
  where
    one : (a : Ask) → Has a k.asks → KnowsAsk (Some b) a
    one a there =
        let (o, is_open, same) = map_has (laws.waiting_of (targets_in t.diagrams)) (waiting_of a) left.opens
        (subst (Has (waiting_of a)) left.are (has_map waiting_of a k.asks there)) in
        open_known t b are a o (left.waits.are_open o is_open) same

-- so asks wait that fit, and name what such files know
stands_holds : (t : Task) (bytes : Option FileBytes) → IfSome bytes (AreOfTask t) → (s : Asking) (m : Machine)
    (world : World) (k : Contents) (last : Option Ask) → StandsFor m world k → IsLeft t s last k
    → Holds bytes m world k.asks
stands_holds t bytes are s m world k last stands left = record {
  wait = stands.asks_are;
  fit = asks_fit t s m world k last stands left;
  known = known bytes are;
  hands = hands bytes are;
  no_run = stands.no_run;
  reading = λ apart. reads_of m world k stands;
}
  where
    known : (bs : Option FileBytes) → IfSome bs (AreOfTask t) → All (KnowsAsk bs) k.asks
    known None are = λ i d within. tt
    known (Some b) are = asks_known t b are s k last left

    hands : (bs : Option FileBytes) → IfSome bs (AreOfTask t) → IfSome bs (λ b. KnowsHands b m.operands)
    hands None are = tt
    hands (Some b) are = hands_known t b are m.operands world k.readings stands.read left.waits.reading

some_holds : (t : Task) (bytes : Option FileBytes) → IfSome bytes (AreOfTask t) → (s : Asking) (m : Machine)
    (world : World) → IsWorking t s m world → HoldsSome bytes m world
some_holds t bytes are s m world w =
    (w.contents.asks, stands_holds t bytes are s m world w.contents _ w.stands w.left)

pub working_holds : (t : Task) (s : Asking) (m : Machine) (world : World) → IsWorking t s m world
    → HoldsSome None m world
working_holds t s m world w = some_holds t None tt s m world w

pub handling_holds : (t : Task) (s : Asking) (a : Ask) (m : Machine) (world : World)
    → IsHandling t s a m world → HoldsFirst None a m world
handling_holds t s a m world h = (
  h.rest,
  subst (Holds None m world) h.first_is (stands_holds t None tt s m world h.contents _ h.stands h.left),
)

-- two words more are compared where all others are the same
then_assoc : (o p q : Ordering) → ordering_then o (ordering_then p q) ≡ ordering_then (ordering_then o p) q
then_assoc Less p q = refl
then_assoc Equal p q = refl
then_assoc Greater p q = refl

then_end : (o : Ordering) → ordering_then o Equal ≡ o
then_end Less = refl
then_end Equal = refl
then_end Greater = refl

words_more : (xs ys : List ℕ) (v w : ℕ) → length xs ≡ length ys
    → slice_cmp nat_cmp (xs ++ v ∷ []) (ys ++ w ∷ [])
    ≡ ordering_then (slice_cmp nat_cmp xs ys) (nat_cmp v w)
words_more [] [] v w long = then_end (nat_cmp v w)
words_more [] (y ∷ ys) v w long = absurd (omega (arith, long))
words_more (x ∷ xs) [] v w long = absurd (omega (arith, long))
words_more (x ∷ xs) (y ∷ ys) v w long =
    ap (ordering_then (nat_cmp x y)) (words_more xs ys v w (omega (arith, long)))
    ∙ then_assoc (nat_cmp x y) (slice_cmp nat_cmp xs ys) (nat_cmp v w)

nat_same : (k : ℕ) → nat_cmp k k ≡ Equal
nat_same k = grind (arith, nat_tests)

side_is : (source : ℕ) (high : Bool)
    → forms.asker_word source high ≡ asker_word (record { uid = source; high = high })
side_is source false = refl
side_is source true = refl

none_less : (v w : ℕ) → is_lt (nat_cmp v w) ≡ false → w ≤ v
none_less v w none = grind (arith, nat_tests)

-- the side of a node is no later than that of one that isn't before it
side_upto : (a : Arc) (s : ℕ) → a.source ≤ s → source_word a ≤ asker_word (record { uid = s; high = true })
side_upto a s upto = by a.high
  where
    by : (b : Bool) → 2 * a.source + side_number b ≤ 2 * s + 1
    by false = omega (arith, upto)
    by true = omega (arith, upto)

module _ (n : ℕ) (rule : Rule) (d : Diagrams) (roots : Tuple) (task : laws.IsTask n rule d roots)
    (root : ℕ) (inner ends : List Arc) (opens : List laws.Open) where
  module _ (x : Numbered) (l : Ask) (g : laws.IsGrown n rule d roots root (numbered_of x)
      (Some (waiting_of l)) inner ends opens) where
    abbrev used : List ℕ
    used = identifier x ∷ g.used

    -- no identifier comes behind the newest one
    upto_newest : (v : ℕ) → Has v used → v ≤ identifier x
    upto_newest v (inl is) = omega (arith, is)
    upto_newest v (inr k) =
        (let below : v < identifier x = newest_above (identifier x) g.used g.grows.numbered v k in
        omega (arith, below))

    source_in : (a : Arc) → Has a inner → Has a.source used
    source_in a m = (g.grows.inner_right a m).0

    inner_leads : (a : Arc) → Has a inner → Leads Inner a
    inner_leads a m =
        let (source, target, goes) = g.grows.inner_right a m in
        let (level, low) = g.grows.levels a.target target in
        let below = goes_below n root rule (targets_in d) task.is_rule inner ends used g.tuple
        (map laws.ask_of opens) g.grows a.source a.high (g.tuple a.target) source goes in
        (omega (arith, low, task.few), omega (arith, level, below.deeper))

    ends_lead : (a : Arc) → Has a ends → Leads End a
    ends_lead a m = let (value, _, target, _) = g.grows.end_right a m in
        subst IsTerminal (sym target) (terminal_ends value)

    abbrev form : Ordering
    form = slice_cmp nat_cmp (forms.form_words (waiting_of l).form) (forms.form_words (numbered_of x).form)

    -- the last ask taken is compared by its form, and then by its asker
    compared : (v : ℕ) → ask_cmp l (record { key = x.key; members = x.members; asker = v })
        ≡ ordering_then form (nat_cmp l.asker v)
    compared v = ask_order l (record { key = x.key; members = x.members; asker = v })
        ∙ words_more (forms.form_words (waiting_of l).form) (forms.form_words (numbered_of x).form)
        l.asker v refl

    taken_is : waiting_of l ≡ g.taken
    taken_is = (let same : Some (waiting_of l) ≡ Some g.taken = g.last_is in cc)

    not_less : is_lt form ≡ false
    not_less = subst (λ (w : forms.Waiting). is_lt (slice_cmp nat_cmp (forms.form_words w.form)
        (forms.form_words (numbered_of x).form)) ≡ false) (sym taken_is) g.reached

    answered : (a : Arc) → Has a inner → a.target ≡ identifier x
        → is_lt (ordering_then form (nat_cmp l.asker (source_word a))) ≡ false
    answered a m same =
        let before = subst (λ (w : forms.Waiting). forms.comes_before w (record {
          form = (numbered_of x).form;
          asker = forms.asker_word a.source a.high;
        }) ≡ false) (sym taken_is) (g.answered a m same) in
        subst (λ v. is_lt (ordering_then form (nat_cmp l.asker v)) ≡ false) (side_is a.source a.high)
        (sym (ap is_lt (words_more (forms.form_words (waiting_of l).form)
        (forms.form_words (numbered_of x).form) l.asker (forms.asker_word a.source a.high) refl)) ∙ before)

    -- so they are put up to such an asker
    put_upto : (asker : ℕ)
        → is_lt (ask_cmp l (record { key = x.key; members = x.members; asker = asker })) ≡ false
        → ((a : Arc) → Has a inner → a.target ≡ identifier x → source_word a ≤ asker)
        → ArePutTo x (Some l) inner ends
    put_upto asker reached askers = record {
      last = l;
      last_is = refl;
      asker = asker;
      reached = reached;
      inner_are = record {
        lead = λ k e within. inner_leads _ (has_at inner k e within);
        ordered = g.grows.inner_order;
        targets = λ k e within. upto_newest _ (g.grows.inner_right _ (has_at inner k e within)).1;
        askers = λ k e within same. askers _ (has_at inner k e within) same;
      };
      ends_are = record {
        lead = λ k e within. ends_lead _ (has_at ends k e within);
        ordered = g.grows.end_order;
        askers = λ k e within. side_upto (get_or ends k e) (identifier x)
            (upto_newest _ (g.grows.end_right _ (has_at ends k e within)).1);
      };
    }

    source_few : (a : Arc) → level_of a.source < n → source_word a ≤ 2 ^ 64
    source_few a low = side a.high (omega (arith, low, task.few))
      where
        side : (b : Bool) → a.source < 2 ^ 63 → 2 * a.source + side_number b ≤ 2 ^ 64
        side false few = omega (arith, few)
        side true few = omega (arith, few)

    pub put_grown : ArePutTo x (Some l) inner ends
    put_grown = by form refl
      where
        by : (o : Ordering) → form ≡ o → ArePutTo x (Some l) inner ends
        by Less is = (let no : true ≡ false = sym (ap is_lt is) ∙ not_less in absurd (cc))
        by Equal is = put_upto l.asker
            (ap is_lt (compared l.asker ∙ ap (λ o. ordering_then o (nat_cmp l.asker l.asker)) is
            ∙ nat_same l.asker))
            (λ a m same. none_less l.asker (source_word a)
            (sym (ap (λ o. is_lt (ordering_then o (nat_cmp l.asker (source_word a)))) is)
            ∙ answered a m same))
        by Greater is = put_upto (2 ^ 64)
            (ap is_lt (compared (2 ^ 64) ∙ ap (λ o. ordering_then o (nat_cmp l.asker (2 ^ 64))) is))
            (λ a m same. source_few a (g.grows.levels a.source (source_in a m)).1)

  -- whatever was numbered
  pub put_made : (last : Option Numbered) (taken : Option Ask)
      → laws.IsMade n rule d roots root (option_map numbered_of last) (option_map waiting_of taken)
      inner ends opens → ArePut last taken inner ends
  put_made None taken made = (made.no_inner, made.no_ends)
  put_made (Some x) None made = (let no : None ≡ Some made.taken = made.last_is in absurd (cc))
  put_made (Some x) (Some l) made = put_grown x l made

-- where nothing waits, nothing is named
none_holds : (bytes : Option FileBytes) (t : Task) (begins : Tuple → Tuple) (m : Machine) (world : World)
    → IsFresh t begins m world → HoldsSome bytes m world
none_holds bytes t begins m world f = (
  [],
  record {
    wait = f.stands.asks_are;
    fit = λ k d within. absurd (omega (arith, within));
    known = λ k d within. absurd (omega (arith, within));
    hands = no_hands bytes;
    no_run = f.stands.no_run;
    reading = λ apart. reads_of m world _ f.stands;
  },
)
  where
    below : (bs : List ℕ) (o : Operand) → o.hand ≡ None → KnowsBelow bs o.hand
    below bs o is = subst (KnowsBelow bs) (sym is) tt

    no_hands : (bs : Option FileBytes) → IfSome bs (λ b. KnowsHands b m.operands)
    no_hands None = tt
    no_hands (Some b) = record {
      first = below b.first m.operands.first f.stands.read.first.hand_is;
      second = below b.second m.operands.second f.stands.read.second.hand_is;
      third = below b.third m.operands.third f.stands.read.third.hand_is;
    }

pub fresh_holds : (t : Task) (begins : Tuple → Tuple) (m : Machine) (world : World)
    → IsFresh t begins m world → HoldsSome None m world
fresh_holds t begins m world f = none_holds None t begins m world f

-- before the root is asked for, nothing waits, and nothing was read or put
fresh_trusts : (rule : Rule) (t : Task) (begins : Tuple → Tuple) (m : Machine) (world : World)
    → IsFresh t begins m world → IsTrustedAt rule begins phases.Fresh m world
fresh_trusts rule t begins m world f = (
  record {
    some = fresh_holds t begins m world f;
    known = λ apart stays. none_holds (Some (bytes_in m world)) t begins m world f;
  },
  record {
    first = f.stands.read.first.hand_is;
    second = f.stands.read.second.hand_is;
    third = f.stands.read.third.hand_is;
  },
  f.stands.written,
)

working_trusts : (rule : Rule) (begins : Tuple → Tuple) (t : Task) (s : Asking) (m : Machine) (world : World)
    → AreOfTask t (bytes_in m world) → IsWorking t s m world → IsTrustedAt rule begins (phases.Asking s) m world
working_trusts rule begins t s m world are w = (
  record {
    some = working_holds t s m world w;
    known = λ apart stays. some_holds t (Some (bytes_in m world)) are s m world w;
  },
  record {
    inner = w.contents.inner;
    ends = w.contents.ends;
    held = w.stands.written;
    put = put_made t.n t.rule t.diagrams t.roots t.is_task s.root w.contents.inner w.contents.ends
        w.left.opens s.last (last_of m.queue) w.left.made;
  },
)

-- what was made of a task is in order
made_ordered : (t : Task) (world : World) (made : Unreduced) → IsMadeOf t world made
    → AreOrdered made world
made_ordered t world made is = record {
  inner = is.inner;
  ends = is.ends;
  inner_has = record {
    begin = is.files.inner_file.begin;
    lead = is.whole.inner_lead;
    ordered = is.whole.inner_order;
  };
  ends_has = record {
    begin = is.files.ends_file.begin;
    lead = is.whole.ends_lead;
    ordered = is.whole.end_order;
  };
}

-- so it is in each phase
remains_trusted : (rule : Rule) (t : Task) (begins : Tuple → Tuple) (m : Machine) (world : World)
    → AreOfTask t (bytes_in m world) → RemainsOf t begins m world → IsMachineTrusted rule begins m world
remains_trusted rule t begins m world are remains = by m.place.phase remains
  where
    by : (p : Phase) → RemainsIn t begins p m world → IsTrustedAt rule begins p m world
    by phases.Fresh fresh = fresh_trusts rule t begins m world fresh
    by (phases.Asking s) working = working_trusts rule begins t s m world are working
    by (phases.Ended made) done = made_ordered t world made done.made_of

pub sweep_trusted : {O : Type 0} (rule : O → Rule) (begins : O → Tuple → Tuple) (s : TopDownSweep O)
    (world : World) (t : Task) → Remains rule begins s world t → IsTrusted rule begins s world
sweep_trusted rule begins s world t remains =
    let on = remains.on_files in
    remains_trusted (rule s.operation) t (begins s.operation) s.machine world (record {
      roots = on.roots;
      first = subst (λ n. HasNodes n on.roots.first t.diagrams.first (bytes_in s.machine world).first)
          (sym on.variables_are) on.nodes_are.first;
      second = subst (λ n. HasNodes n on.roots.second t.diagrams.second (bytes_in s.machine world).second)
          (sym on.variables_are) on.nodes_are.second;
      third = subst (λ n. HasNodes n on.roots.third t.diagrams.third (bytes_in s.machine world).third)
          (sym on.variables_are) on.nodes_are.third;
    }) remains.left
