use Rattle.top_down_sweep.proofs.StandingOn.{stands_placed}
use Rattle.top_down_sweep.specs.Changes.{JoinAsks}
use Rattle.top_down_sweep.specs.Meaning.{first_contents}
use Rattle.top_down_laws.specs.Forms.{nobody}
use Rattle.tuple_asks.specs.declared.place.Phase.TheVariants as phases
use Rattle.tuple_asks.specs.declared.place.Place.{Place}
use Rattle.tuple_asks.specs.declared.ask.Ask.{Ask}
use Rattle.tuple_asks.specs.declared.ask.Members.{Members}
use Rattle.tuple_asks.specs.Soundness.{is_sound}
use Rattle.top_down_sweep.proofs.Holding.{fresh_fits, holds_placed, if_err_map}
use Rattle.tuple_asks.proofs.SoundAsks.{root_sound}
use Rattle.top_down_sweep.specs.Waiting.{KnowsAsk}
use Rattle.tuple_asks.specs.Knowing.{KnowsMembers}
use Rattle.top_down_sweep.proofs.Known.{some_on, tuple_known}
use Rattle.std.specs.Prelude.{None}
use Rattle.std.proofs.Common.{◌≡◌, true, [], ◌∷◌, refl, ◌∙◌, subst, sym, ap}
use Rattle.rec_words.specs.Words.{node_word}
use Rattle.std.proofs.lemmas.Result.{on_ok_weaker}
use Rattle.top_down_sweep.proofs.TurnKeeps.{asked_works}
use Rattle.top_down_sweep.specs.declared.machine.Machine.{Machine}
use Rattle.top_down_sweep.proofs.FuelLaws.{weight_put}
use Rattle.top_down_sweep.proofs.Orders.{put_at}
use Rattle.top_down_sweep.specs.Ordered.{IsOrderedAt}
use Rattle.top_down_sweep.proofs.machine.Machine.ask_first.Goals as goal

-- the root's ask is sound
pub new-requires : goal.new-requires
new-requires g c = subst (λ (m : Members). is_sound
    (record { key = c.in-Some.key; members = m; asker = nobody }) ≡ true) (sym c.of-2.ensures)
    (root_sound c.args.tuple.now _ nobody c.in-Some.ensures.1 refl)

-- it fits, since no node was read
pub returns-clause-holds : goal.returns-clause-holds
returns-clause-holds g c =
    let m = c.args.self.now in
    let place : Place = record m.place {
      phase = phases.Asking (record { root = c.in-Some-of.root; last = None });
    } in
    on_ok_weaker c.push.result (λ holds told unread bytes knows asks. holds told (fresh_fits m.operands _ unread) bytes
    (subst (λ (a : Ask). KnowsAsk bytes a) (sym c.new.ensures) (some_on bytes (λ b known.
    subst (λ (ms : Members). KnowsMembers b ms) (sym c.of-2.ensures) (tuple_known b c.args.tuple.now known)) knows))
    (holds_placed bytes m (record m { place = place }) place _ refl asks)) c.push.ensures.holds

pub returns-clause-undamaged : goal.returns-clause-undamaged
returns-clause-undamaged g c =
    let m = c.args.self.now in
    let place : Place = record m.place {
      phase = phases.Asking (record { root = c.in-Some-of.root; last = None });
    } in
    if_err_map c.push.result (λ e none told bytes asks. none told bytes
    (holds_placed bytes m (record m { place = place }) place _ refl asks)) c.push.ensures.undamaged

-- one ask more waits
pub returns-clause-weight : goal.returns-clause-weight
returns-clause-weight g c = weight_put c.args.self.now c.push.new.self c.push.result
    (ap (λ (m : Machine). m.operands) c.push.ensures.rest) c.push.ensures.last c.push.ensures.load

-- the root's ask waits
pub returns-clause-keeps : goal.returns-clause-keeps
returns-clause-keeps g c = on_ok_weaker c.push.result (λ joins told t goes stands.
    let m = c.args.self.now in
    let place : Place = record m.place {
      phase = phases.Asking (record { root = c.in-Some-of.root; last = None });
    } in
    asked_works t m c.push.new.self (g.S.Shelf.world c.args.shelf.now)
    (g.S.Shelf.world c.push.new.shelf) c.args.tuple.now c.in-Some.key c.in-Some-of.root goes
    c.in-Some.ensures.1
    (c.in-Some-of.ensures.1 ∙ c.node.ensures ∙ ap (λ l. node_word l 0) c.level_at.ensures.level)
    (c.push.ensures.last ∙ c.requires.none) (ap (λ (q : Machine). q.place.phase) c.push.ensures.rest)
    stands (subst (λ (a : Ask). JoinAsks c.push.new.self (g.S.Shelf.world c.push.new.shelf)
    (first_contents t) (a ∷ []))
    (c.new.ensures ∙ (λ i. record {
      key = c.in-Some.ensures.1 i;
      members = c.of-2.ensures i;
      asker = nobody;
    })) (joins told (first_contents t) (stands_placed m (record m { place = place }) place
    (g.S.Shelf.world c.args.shelf.now) (first_contents t) refl refl stands)))) c.push.ensures.list

-- nothing was put
pub returns-clause-ordered : goal.returns-clause-ordered
returns-clause-ordered g c = on_ok_weaker c.push.result (λ keeps told ordered.
    put_at c.push.new.self (g.S.Shelf.world c.push.new.shelf)
    (record { root = c.in-Some-of.root; last = None })
    (ap (λ (q : Machine). q.place.phase) c.push.ensures.rest)
    (record {
      inner = [];
      ends = [];
      held = keeps told [] [] (subst (λ p. IsOrderedAt p c.args.self.now (g.S.Shelf.world c.args.shelf.now))
          c.requires.fresh ordered);
      put = (refl, refl);
    })) c.push.ensures.arcs
