use Rattle.top_down_sweep.specs.Changes.{JoinAsks}
use Rattle.tuple_asks.specs.declared.ask.Ask.{Ask}
use Rattle.std.proofs.Common.{◌≡◌, ◌∙◌, true, [], ◌∷◌, subst, sym}
use Rattle.std.proofs.lemmas.Result.{on_ok_weaker}
use Rattle.tuple_asks.specs.declared.ask.Members.{Members}
use Rattle.tuple_asks.specs.Soundness.{is_sound}
use Rattle.tuple_asks.specs.Operands.{Fits}
use Rattle.top_down_sweep.specs.Waiting.{KnowsAsk}
use Rattle.tuple_asks.specs.Knowing.{KnowsMembers}
use Rattle.top_down_sweep.proofs.Known.{some_on, tuple_known}
use Rattle.rec_words.specs.Words.{level_of}
use Rattle.level_queue.specs.Queues.{last_of, IsNoLess}
use Rattle.tuple_asks.specs.Items.{ask_cmp}
use Rattle.top_down_sweep.proofs.Holding.{deeper_fits, deeper_no_less}
use Rattle.tuple_asks.proofs.SoundAsks.{side_sound, side_deeper}
use Rattle.top_down_sweep.proofs.machine.Machine.ask_for.Goals as goal

-- the ask is sound, since the tuple lies deeper than its source
pub new-requires : goal.new-requires
new-requires g c = subst (λ (m : Members). is_sound
    (record { key = c.in-Some.key; members = m; asker = c.word.result }) ≡ true) (sym c.of.ensures)
    (side_sound c.args.source c.args.tuple.now _ _ c.in-Some.ensures.1 c.word.ensures
    c.requires.deeper c.requires.node)

-- it comes behind the last one taken, which is of no deeper level than its source
pub push-requires-clause-order : goal.push-requires-clause-order
push-requires-clause-order g c = subst (λ (a : Ask). IsNoLess ask_cmp (last_of c.args.self.now.queue) a)
    (sym c.new.ensures) (deeper_no_less _ (level_of c.args.source.uid) _ c.requires.taken
    (side_deeper c.args.tuple.now _ _ c.in-Some.ensures.1 c.requires.deeper))

-- it fits, since no operand was read past its source's level
pub returns-clause-holds : goal.returns-clause-holds
returns-clause-holds g c = on_ok_weaker c.push.result (λ holds told read bytes knows.
    holds told (subst (λ (a : Ask). Fits c.args.self.now.operands a)
    (sym c.new.ensures) (deeper_fits c.args.self.now.operands (level_of c.args.source.uid) _
    (side_deeper c.args.tuple.now _ _ c.in-Some.ensures.1 c.requires.deeper) read)) bytes
    (subst (λ (a : Ask). KnowsAsk bytes a) (sym c.new.ensures) (some_on bytes (λ b known.
    subst (λ (m : Members). KnowsMembers b m) (sym c.of.ensures) (tuple_known b c.args.tuple.now known)) knows)))
    c.push.ensures.holds

-- it is the ask for the tuple
pub returns-clause-list : goal.returns-clause-list
returns-clause-list g c = on_ok_weaker c.push.result (λ joins told k stands.
    subst (λ (a : Ask). JoinAsks c.push.new.self (g.S.Shelf.world c.push.new.shelf) k (a ∷ []))
    (c.new.ensures ∙ (λ i. record {
      key = c.in-Some.ensures.1 i;
      members = c.of.ensures i;
      asker = c.word.ensures i;
    })) (joins told k stands)) c.push.ensures.list
