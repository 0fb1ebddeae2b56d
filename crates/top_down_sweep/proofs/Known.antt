-- What the operands' files know is kept by each call: of the pointers that an ask names, and of those that come of them.
use Rattle.std.proofs.Common.{◌≡◌, ℕ, zero, suc, ◌-◌, ◌/◌, ◌<◌, ◌∙◌, Bool, true, false, cond, List, [], length, refl}
use Rattle.std.proofs.Common.{sym, subst, ap, inl, inr, arith}
use Rattle.std.specs.Prelude.{◌⊎◌, Option, Some, None, Result, IfSome, IsTrue, ◌==◌, ◌&&◌}
use Rattle.rec_words.specs.declared.node.Node.{Node}
use Rattle.shelf_model.specs.declared.file_no.FileNo.{FileNo}
use Rattle.shelf_model.specs.declared.sort_fault.SortFault.{SortFault}
use Rattle.shelf_model.specs.Faults.{Faults}
use Rattle.shelf_model.specs.World.{World, now, file}
use Rattle.shelf_model.proofs.Runs.{ran_end}
use Rattle.node_file.specs.declared.reader.NodeReader.{NodeReader}
use Rattle.node_file.specs.Readers.{trailer_of}
use Rattle.node_reading.specs.Missing.{IsKnown}
use Rattle.node_reading.specs.Reading.{bytes_of, count_of, IsReading}
use Rattle.sweep_core.specs.Accounts.{OnlyOwn}
use Rattle.sweep_core.specs.Carries.{OnlySaved, Carries}
use Rattle.level_queue.specs.Queues as queues
use Rattle.top_down.specs.declared.tuple.Tuple.{Tuple}
use Rattle.top_down.specs.declared.tuple.Goal.TheVariants.{Go}
use Rattle.top_down.specs.Rules.{Rule}
use Rattle.tuple_asks.specs.declared.ask.Ask.{Ask}
use Rattle.tuple_asks.specs.declared.ask.Member.{Member}
use Rattle.tuple_asks.specs.declared.ask.Members.{Members}
use Rattle.tuple_asks.specs.declared.operand.Operand.{Operand}
use Rattle.tuple_asks.specs.declared.operand.Operands.{Operands}
use Rattle.top_down_sweep.specs.declared.machine.Machine.{Machine}
use Rattle.tuple_asks.specs.declared.files.Files.{Files}
use Rattle.top_down_sweep.specs.Calls.{SameTask, Does, HoldsAsks, HoldsAskFirst, KeepsAsks}
use Rattle.top_down_sweep.specs.Changes.{goal_below}
use Rattle.tuple_asks.specs.Knowing.{FileBytes, KnowsTuple, KnowsMember, KnowsMembers, KnowsBelow}
use Rattle.top_down_sweep.specs.Knowing.{bytes_in}
use Rattle.tuple_asks.specs.Knowing.{KnowsHands, StaysKnown}
use Rattle.tuple_asks.specs.Readings.{roots_of}
use Rattle.tuple_asks.specs.Members.{is_node, filled, all_filled, on_side, members_of}
use Rattle.top_down_sweep.specs.Sweeps.{files_in, IsMade, IsSoundMachine, machine_accounts}
use Rattle.tuple_asks.specs.Operands.{IsOperand, AreOperands}
use Rattle.top_down_sweep.specs.Waiting.{Waits, AreApart, AreBytesOf, KnowsAsk, HoldsSome}
use Rattle.tuple_asks.specs.Operands.{AreReading, HasNoHands}
use Rattle.top_down_sweep.specs.Waiting.{HoldsFirst}
use Rattle.top_down_sweep.proofs.Holding.{SameApart}
use Rattle.top_down_sweep.proofs.OperandsStay.{own_apart, saved_apart}
use Rattle.top_down_sweep.proofs.OwnRuns.{serves_past}

-- what follows where something is given
pub some_on : {A : Type 0} {P Q : A → Type 0} (o : Option A) → ((a : A) → P a → Q a) → IfSome o P → IfSome o Q
some_on None f is = tt
some_on (Some a) f is = f a is

pub some_both : {A : Type 0} {P Q R : A → Type 0} (o : Option A) → ((a : A) → P a → Q a → R a) → IfSome o P
    → IfSome o Q → IfSome o R
some_both None f p q = tt
some_both (Some a) f p q = f a p q

-- the members of a tuple whose pointers are known
pub tuple_known : (b : FileBytes) (x : Tuple) → KnowsTuple b x → KnowsMembers b (members_of x)
tuple_known b x is = record {
  first = record { low = is.first; high = is.first };
  second = record { low = is.second; high = is.second };
  third = record { low = is.third; high = is.third };
}

-- and the tuple of a side of members
side_known : (b : FileBytes) (m : Members) (side : Bool) → KnowsMembers b m → KnowsTuple b (on_side side m)
side_known b m false is = record { first = is.first.low; second = is.second.low; third = is.third.low }
side_known b m true is = record { first = is.first.high; second = is.second.high; third = is.third.high }

-- what the operation goes on to on a side
pub below_known : (rule : Rule) (begins : Tuple → Tuple) (b : FileBytes) (level : ℕ) (side : Bool) (m : Members)
    (y : Tuple) → StaysKnown rule begins b → KnowsMembers b m → goal_below rule level side m ≡ Go y → KnowsTuple b y
below_known rule begins b level side m y stays is says = stays.goal _ y
    (stays.below level side _ _ (side_known b m false is) (side_known b m true is)) says

-- a member, or the pointers of the node that it is
member_filled : (bytes : List ℕ) (key : ℕ) (hand : Option Node) (m : Member) → KnowsBelow bytes hand
    → KnowsMember bytes m → KnowsMember bytes (filled key hand m)
member_filled bytes key None m below is = is
member_filled bytes key (Some x) m below is = by ((x.uid == key) && is_node key m)
  where
    by : (c : Bool) → KnowsMember bytes (cond c (record { low = x.low; high = x.high }) m)
    by true = record { low = below.0; high = below.1 }
    by false = is

pub filled_known : (b : FileBytes) (o : Operands) (a : Ask) → KnowsHands b o → KnowsMembers b a.members
    → KnowsMembers b (all_filled o a)
filled_known b o a hands is = record {
  first = member_filled b.first a.key o.first.hand a.members.first hands.first is.first;
  second = member_filled b.second a.key o.second.hand a.members.second hands.second is.second;
  third = member_filled b.third a.key o.third.hand a.members.third hands.third is.third;
}

-- where files are given that know what the ask and the nodes at hand name
pub known_with : (m : Machine) (a : Ask) (filled_members : Members) (bytes : Option FileBytes)
    → filled_members ≡ all_filled m.operands a → IfSome bytes (λ b. KnowsHands b m.operands) → KnowsAsk bytes a
    → IfSome bytes (λ b. KnowsMembers b filled_members)
known_with m a filled_members bytes same hands known = some_both bytes (λ b hand know.
    subst (λ (ms : Members). KnowsMembers b ms) (sym same) (filled_known b m.operands a hand know)) hands known

-- a file knows its root
root_known : (r : NodeReader) (world : World) → IsReading r world → IsKnown (bytes_of r world) (trailer_of r).root
root_known r world reading = by (nat_cases (count_of (bytes_of r world)))
  where
    nat_cases : (k : ℕ) → (k ≡ 0) ⊎ (0 < k)
    nat_cases zero = inl refl
    nat_cases (suc k) = inr (omega arith)

    by : (count_of (bytes_of r world) ≡ 0) ⊎ (0 < count_of (bytes_of r world))
        → IsKnown (bytes_of r world) (trailer_of r).root
    by (inl none) = inl (reading.trailer.trailer.none none)
    by (inr some) = inr (inl (record {
      place = length (bytes_of r world) / 24 - 2;
      among = omega (arith, some);
      is = (reading.trailer.trailer.some some).1;
    }))

operand_root : (n : ℕ) (o : Operand) (world : World) → IsOperand n o → IsReading o.reader world
    → IsKnown (file world o.file).bytes (trailer_of o.reader).root
operand_root n o world is reading = subst (λ f. IsKnown (file world f).bytes (trailer_of o.reader).root) is.file_is
    (root_known o.reader world reading)

pub roots_known : (m : Machine) (world : World) → AreOperands m.place.variables m.operands
    → AreReading m.operands world → KnowsTuple (bytes_in m world) (roots_of m.operands)
roots_known m world are reading = record {
  first = operand_root m.place.variables m.operands.first world are.first reading.first;
  second = operand_root m.place.variables m.operands.second world are.second reading.second;
  third = operand_root m.place.variables m.operands.third world are.third reading.third;
}

-- so the first tuple that is asked for is one that the files know
pub first_known : (rule : Rule) (begins : Tuple → Tuple) (m : Machine) (world : World) (x : Tuple)
    (bytes : Option FileBytes) → AreOperands m.place.variables m.operands
    → (AreApart (files_in m) m.parts.step → AreReading m.operands world)
    → rule.goal (begins (roots_of m.operands)) ≡ Go x → IfSome bytes (StaysKnown rule begins) → AreBytesOf bytes m world
    → IfSome bytes (λ b. KnowsTuple b x)
first_known rule begins m world x bytes are reading says stays of = some_both bytes (λ b stay is.
    stay.goal (begins (roots_of m.operands)) x (stay.begun (roots_of m.operands)
    (subst (λ (v : FileBytes). KnowsTuple v (roots_of m.operands)) (sym is.0)
    (roots_known m world are (reading is.1)))) says) stays of

-- where nothing waits and no node is at hand, nothing is named
pub none_asks : (rule : Rule) (begins : Tuple → Tuple) (m : Machine) (world : World) → Waits m.queue world []
    → ((f : FileNo) → IsMade (files_in m) f → ¬ queues.IsRunOf m.queue f) → HasNoHands m.operands
    → (AreApart (files_in m) m.parts.step → AreReading m.operands world) → HoldsAsks rule begins m world
none_asks rule begins m world waits no_run none reading = record {
  some = holds None;
  known = λ apart stays. holds (Some (bytes_in m world));
}
  where
    below : (bs : List ℕ) (o : Operand) → o.hand ≡ None → KnowsBelow bs o.hand
    below bs o is = subst (KnowsBelow bs) (sym is) tt

    hands : (bytes : Option FileBytes) → IfSome bytes (λ b. KnowsHands b m.operands)
    hands None = tt
    hands (Some b) = record {
      first = below b.first m.operands.first none.first;
      second = below b.second m.operands.second none.second;
      third = below b.third m.operands.third none.third;
    }

    holds : (bytes : Option FileBytes) → HoldsSome bytes m world
    holds bytes = (
      [],
      record {
        wait = waits;
        fit = λ k d within. absurd (omega (arith, within));
        known = λ k d within. absurd (omega (arith, within));
        hands = hands bytes;
        no_run = no_run;
        reading = reading;
      },
    )

module _ (m q : Machine) (old new : World) (files : files_in q ≡ files_in m) where
  -- what the operands' files hold stays where they are apart from what is written
  pub bytes_same : SameApart (files_in m) m.parts.step old new → AreApart (files_in m) m.parts.step → bytes_in q new ≡ bytes_in m old
  bytes_same same apart = ap (λ (fs : Files). record {
    first = (file new fs.first).bytes;
    second = (file new fs.second).bytes;
    third = (file new fs.third).bytes;
  }) files ∙ (λ i. record {
    first = same m.operands.first.file apart.first i;
    second = same m.operands.second.file apart.second i;
    third = same m.operands.third.file apart.third i;
  })

  module _ (rule : Rule) (begins : Tuple → Tuple) (step : q.parts.step ≡ m.parts.step) where
    apart_before : AreApart (files_in q) q.parts.step → AreApart (files_in m) m.parts.step
    apart_before = subst (λ v. v) (λ i. AreApart (files i) (step i))

    -- asks that wait so do where each call keeps them
    pub asks_kept : (AreApart (files_in m) m.parts.step → bytes_in q new ≡ bytes_in m old)
        → ((bytes : Option FileBytes) → IfSome bytes (StaysKnown rule begins) → AreBytesOf bytes m old
        → KeepsAsks bytes m old q new) → HoldsAsks rule begins m old → HoldsAsks rule begins q new
    asks_kept same keeps h = record {
      some = keeps None tt tt h.some;
      known = λ apart stays. (let before = apart_before apart in let is = same before in
          let stay = subst (StaysKnown rule begins) is stays in
          subst (λ (b : FileBytes). HoldsSome (Some b) q new) (sym is)
          (keeps (Some (bytes_in m old)) stay (refl, before) (h.known before stay)));
    }

    -- where the first of them is shown
    pub asks_shown : (a : Ask) → (AreApart (files_in m) m.parts.step → bytes_in q new ≡ bytes_in m old)
        → ((bytes : Option FileBytes) → HoldsSome bytes m old → HoldsFirst bytes a q new)
        → HoldsAsks rule begins m old → HoldsAskFirst rule begins a q new
    asks_shown a same shows h = record {
      some = shows None h.some;
      known = λ apart stays. (let before = apart_before apart in let is = same before in
          let stay = subst (StaysKnown rule begins) is stays in
          subst (λ (b : FileBytes). HoldsFirst (Some b) a q new) (sym is)
          (shows (Some (bytes_in m old)) (h.known before stay)));
    }

    -- and where that one is handled
    pub asks_handled : (a : Ask) → (AreApart (files_in m) m.parts.step → bytes_in q new ≡ bytes_in m old)
        → ((bytes : Option FileBytes) → IfSome bytes (StaysKnown rule begins) → AreBytesOf bytes m old
        → HoldsFirst bytes a m old → HoldsSome bytes q new) → HoldsAskFirst rule begins a m old
        → HoldsAsks rule begins q new
    asks_handled a same keeps h = record {
      some = keeps None tt tt h.some;
      known = λ apart stays. (let before = apart_before apart in let is = same before in
          let stay = subst (StaysKnown rule begins) is stays in
          subst (λ (b : FileBytes). HoldsSome (Some b) q new) (sym is)
          (keeps (Some (bytes_in m old)) stay (refl, before) (h.known before stay)));
    }

-- so it does over each call of a machine
pub does_bytes : {S T : Type 0} (tells : S → Bool) (world : S → World) (counts : S → Faults) (calls parts : ℕ)
    (before after : S) (p q : Machine) (r : Result T SortFault) → IsSoundMachine p
    → Does tells world counts calls parts before after p q r → IsTrue (tells after)
    → AreApart (files_in p) p.parts.step → bytes_in q (world after) ≡ bytes_in p (world before)
does_bytes tells world counts calls parts before after p q r sound does told =
    bytes_same p q (world before) (world after) does.same.files_are (own_apart p (world before) (world after)
    (serves_past p.parts p.queue sound.served.serves)
    (ran_end (world before) (world after)
    (OnlyOwn (λ f. IsMade (files_in p) f) p.parts.step p.parts.next (now (world before)))
    (does.leaves.content.did told)))

-- and where it is made ready to be saved
pub saved_bytes : {S T : Type 0} (tells : S → Bool) (world : S → World) (counts : S → Faults) (calls parts : ℕ)
    (before after : S) (p q : Machine) (r : Result T SortFault) → IsSoundMachine p → SameTask p q
    → Carries tells world counts machine_accounts calls parts before after p q r → IsTrue (tells after)
    → AreApart (files_in p) p.parts.step → bytes_in q (world after) ≡ bytes_in p (world before)
saved_bytes tells world counts calls parts before after p q r sound same carries told =
    bytes_same p q (world before) (world after) same.files_are (saved_apart p (world before) (world after)
    (serves_past p.parts p.queue sound.served.serves)
    (ran_end (world before) (world after)
    (OnlySaved (λ f. IsMade (files_in p) f) p.parts.step p.parts.next (now (world before)))
    (carries.content.did told)))

module _ {S T : Type 0} (tells : S → Bool) (world : S → World) (counts : S → Faults) (calls parts : ℕ)
    (before after : S) (p q : Machine) (r : Result T SortFault) (rule : Rule) (begins : Tuple → Tuple) where
  -- the first of the asks that wait was shown by a call
  pub shown_asks : (a : Ask) → IsSoundMachine p → Does tells world counts calls parts before after p q r
      → IsTrue (tells after)
      → ((bytes : Option FileBytes) → HoldsSome bytes p (world before) → HoldsFirst bytes a q (world after))
      → HoldsAsks rule begins p (world before) → HoldsAskFirst rule begins a q (world after)
  shown_asks a sound does told shows h = asks_shown p q (world before) (world after) does.same.files_are rule begins
      does.leaves.step_is a (does_bytes tells world counts calls parts before after p q r sound does told) shows h

  -- and was handled by one
  pub handled_asks : (a : Ask) → IsSoundMachine p → Does tells world counts calls parts before after p q r
      → IsTrue (tells after)
      → ((bytes : Option FileBytes) → IfSome bytes (StaysKnown rule begins) → AreBytesOf bytes p (world before)
      → HoldsFirst bytes a p (world before) → HoldsSome bytes q (world after))
      → HoldsAskFirst rule begins a p (world before) → HoldsAsks rule begins q (world after)
  handled_asks a sound does told keeps h = asks_handled p q (world before) (world after) does.same.files_are rule begins
      does.leaves.step_is a (does_bytes tells world counts calls parts before after p q r sound does told) keeps h

  -- a call keeps the asks that wait, where it does for each files that are given
  pub kept_asks : IsSoundMachine p → Does tells world counts calls parts before after p q r → IsTrue (tells after)
      → ((bytes : Option FileBytes) → IfSome bytes (StaysKnown rule begins) → AreBytesOf bytes p (world before)
      → KeepsAsks bytes p (world before) q (world after))
      → HoldsAsks rule begins p (world before) → HoldsAsks rule begins q (world after)
  kept_asks sound does told keeps h = asks_kept p q (world before) (world after) does.same.files_are rule begins
      does.leaves.step_is (does_bytes tells world counts calls parts before after p q r sound does told) keeps h
