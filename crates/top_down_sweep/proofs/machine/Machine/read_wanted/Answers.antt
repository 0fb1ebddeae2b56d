use Rattle.top_down_sweep.proofs.WorkingOn.{first_has_next, second_has_next, third_has_next}
use Rattle.top_down_sweep.proofs.ReadKeeps.{first_kept, second_kept, third_kept}
use Rattle.std.proofs.Common.{◌≡◌, ◌∙◌, true, refl, sym, subst, rules}
use Rattle.std.proofs.lemmas.Result.{on_ok_weaker}
use Rattle.tuple_asks.specs.Members.{wants}
use Rattle.top_down_sweep.proofs.Doing.{does_looked, on_ok}
use Rattle.top_down_sweep.proofs.OwnRuns.{checkpoint_refuses}
use Rattle.top_down_sweep.specs.Trusting.{handling_holds}
use Rattle.std.specs.Prelude.{None, Err}
use Rattle.tuple_asks.specs.Knowing.{FileBytes, KnowsMembers, StaysKnown}
use Rattle.top_down_sweep.proofs.StandingOn.{arcs_shown}
use Rattle.tuple_asks.proofs.OperandReading.{wanted_is, behind_hand}
use Rattle.top_down_sweep.proofs.Holding.{first_fits, first_node, first_knows, if_err_map, third_wanted, first_files, first_bytes, first_damage, first_read, second_files, second_bytes, second_damage, second_read, third_files, third_bytes, third_damage, third_read}
use Rattle.top_down_sweep.proofs.machine.Machine.read_wanted.Goals as goal

-- an operand was read past the ask's node
pub returns-then-not-fits-clause-does : goal.returns-then-not-fits-clause-does
returns-then-not-fits-clause-does g c =
    let s = c.args.self.now in
    does_looked g.S.Shelf.tells g.S.Shelf.world g.S.Shelf.faults 1 _ _ s s.operands
    (Err c.checkpoint_fault.result) refl c.checkpoint_fault.ensures.content
    c.checkpoint_fault.ensures.faults (checkpoint_refuses s c.checkpoint_fault.result
    c.checkpoint_fault.ensures.says)

pub returns-then-not-fits-clause-damage : goal.returns-then-not-fits-clause-damage
returns-then-not-fits-clause-damage g c told rule begins first = absurd (c.fits.ensures.no c.if-not-fits.true
    (first_fits None c.args.ask.now c.args.self.now _ first.some))

pub returns-then-not-fits-clause-undamaged : goal.returns-then-not-fits-clause-undamaged
returns-then-not-fits-clause-undamaged g c told t s h = absurd (c.fits.ensures.no c.if-not-fits.true
    (first_fits None c.args.ask.now c.args.self.now _
    (handling_holds t s c.args.ask.now c.args.self.now _ h)))

-- the first operand's next node
pub returns-then-wants-clause-does : goal.returns-then-wants-clause-does
returns-then-wants-clause-does g c =
    let s = c.args.self.now in
    does_looked g.S.Shelf.tells g.S.Shelf.world g.S.Shelf.faults 1 _ _ s _ c.read.result
    (first_files s c.read.new.self c.read.ensures.file) c.read.ensures.content
    c.read.ensures.faults (search rules)

pub returns-then-wants-clause-damage : goal.returns-then-wants-clause-damage
returns-then-wants-clause-damage g c =
    let s = c.args.self.now in
    let a = c.args.ask.now in
    let o = s.operands.first in
    let asked : wants a.key o.hand a.members.first ≡ true = sym c.wants.ensures ∙ c.if-wants.true in
    if_err_map c.read.result (λ e damaged told rule begins first. first_damage rule begins s c.read.new.self a _ e
    c.read.ensures.file (first_node None a s _ first.some) c.requires.shown (wanted_is o.hand a.key a.members.first asked)
    (λ apart. damaged told s.place.variables c.requires.fit.sound.operands.first
    (first.some.1.reading apart).first
    (behind_hand o a.key a.members.first asked (first_fits None a s _ first.some).first))
    (λ apart stays. let same = first_bytes s c.read.new.self _ _ c.read.ensures.file (c.read.ensures.content.did told).run in
    subst (λ (b : FileBytes). KnowsMembers b a.members) (sym same) (first_knows _ a s _
    (first.known apart (subst (λ (b : FileBytes). StaysKnown rule begins b) same stays)))))
    c.read.ensures.damaged

pub returns-then-wants-clause-holds : goal.returns-then-wants-clause-holds
returns-then-wants-clause-holds g c =
    let s = c.args.self.now in
    let are = c.requires.fit.sound.operands in
    first_read _ s c.read.new.self c.args.ask.now c.read.result _ _ are c.read.ensures.file
    c.read.ensures.hand
    (λ told reading. on_ok_weaker c.read.result
    (λ reads. reads told s.place.variables are.first reading) c.read.ensures.reads)
    (λ told reading. on_ok_weaker c.read.result
    (λ below. below told s.place.variables are.first reading) c.read.ensures.below)
    (λ told. (c.read.ensures.content.did told).run)

-- the second operand's next node
pub returns-then-wants-2-clause-does : goal.returns-then-wants-2-clause-does
returns-then-wants-2-clause-does g c =
    let s = c.args.self.now in
    does_looked g.S.Shelf.tells g.S.Shelf.world g.S.Shelf.faults 1 _ _ s _
    c.read-then-wants-2.result (second_files s c.read-then-wants-2.new.self
    c.read-then-wants-2.ensures.file) c.read-then-wants-2.ensures.content
    c.read-then-wants-2.ensures.faults (search rules)

pub returns-then-wants-2-clause-damage : goal.returns-then-wants-2-clause-damage
returns-then-wants-2-clause-damage g c =
    let s = c.args.self.now in
    let a = c.args.ask.now in
    let o = s.operands.second in
    let asked : wants a.key o.hand a.members.second ≡ true = sym c.wants-2.ensures
    ∙ c.if-wants-2.true in
    if_err_map c.read-then-wants-2.result (λ e damaged told rule begins first. second_damage rule begins s
    c.read-then-wants-2.new.self a _ e c.read-then-wants-2.ensures.file
    (first_node None a s _ first.some) c.requires.shown (wanted_is o.hand a.key a.members.second asked)
    (λ apart. damaged told s.place.variables c.requires.fit.sound.operands.second
    (first.some.1.reading apart).second
    (behind_hand o a.key a.members.second asked (first_fits None a s _ first.some).second))
    (λ apart stays. let same = second_bytes s c.read-then-wants-2.new.self _ _ c.read-then-wants-2.ensures.file (c.read-then-wants-2.ensures.content.did told).run in
    subst (λ (b : FileBytes). KnowsMembers b a.members) (sym same) (first_knows _ a s _
    (first.known apart (subst (λ (b : FileBytes). StaysKnown rule begins b) same stays)))))
    c.read-then-wants-2.ensures.damaged

pub returns-then-wants-2-clause-holds : goal.returns-then-wants-2-clause-holds
returns-then-wants-2-clause-holds g c =
    let s = c.args.self.now in
    let are = c.requires.fit.sound.operands in
    second_read _ s c.read-then-wants-2.new.self c.args.ask.now c.read-then-wants-2.result _ _ are
    c.read-then-wants-2.ensures.file c.read-then-wants-2.ensures.hand
    (λ told reading. on_ok_weaker c.read-then-wants-2.result
    (λ reads. reads told s.place.variables are.second reading)
    c.read-then-wants-2.ensures.reads)
    (λ told reading. on_ok_weaker c.read-then-wants-2.result
    (λ below. below told s.place.variables are.second reading) c.read-then-wants-2.ensures.below)
    (λ told. (c.read-then-wants-2.ensures.content.did told).run)

-- the third operand's next node
pub returns-clause-does : goal.returns-clause-does
returns-clause-does g c =
    let s = c.args.self.now in
    does_looked g.S.Shelf.tells g.S.Shelf.world g.S.Shelf.faults 1 _ _ s _ c.read-2.result
    (third_files s c.read-2.new.self c.read-2.ensures.file) c.read-2.ensures.content
    c.read-2.ensures.faults (search rules)

pub returns-clause-damage : goal.returns-clause-damage
returns-clause-damage g c =
    let s = c.args.self.now in
    let a = c.args.ask.now in
    let o = s.operands.third in
    let asked : wants a.key o.hand a.members.third ≡ true = third_wanted _
    _ _ (sym c.wants.ensures ∙ c.if-wants.false) (sym c.wants-2.ensures ∙ c.if-wants-2.false)
    c.requires.wanted in
    if_err_map c.read-2.result (λ e damaged told rule begins first. third_damage rule begins s c.read-2.new.self a _
    e c.read-2.ensures.file (first_node None a s _ first.some) c.requires.shown (wanted_is o.hand a.key a.members.third asked)
    (λ apart. damaged told s.place.variables c.requires.fit.sound.operands.third
    (first.some.1.reading apart).third
    (behind_hand o a.key a.members.third asked (first_fits None a s _ first.some).third))
    (λ apart stays. let same = third_bytes s c.read-2.new.self _ _ c.read-2.ensures.file (c.read-2.ensures.content.did told).run in
    subst (λ (b : FileBytes). KnowsMembers b a.members) (sym same) (first_knows _ a s _
    (first.known apart (subst (λ (b : FileBytes). StaysKnown rule begins b) same stays)))))
    c.read-2.ensures.damaged

pub returns-clause-holds : goal.returns-clause-holds
returns-clause-holds g c =
    let s = c.args.self.now in
    let are = c.requires.fit.sound.operands in
    third_read _ s c.read-2.new.self c.args.ask.now c.read-2.result _ _ are c.read-2.ensures.file
    c.read-2.ensures.hand
    (λ told reading. on_ok_weaker c.read-2.result
    (λ reads. reads told s.place.variables are.third reading) c.read-2.ensures.reads)
    (λ told reading. on_ok_weaker c.read-2.result
    (λ below. below told s.place.variables are.third reading) c.read-2.ensures.below)
    (λ told. (c.read-2.ensures.content.did told).run)

-- the files of arcs stay
pub returns-then-wants-clause-arcs : goal.returns-then-wants-clause-arcs
returns-then-wants-clause-arcs g c = on_ok c.read.result (λ told.
    arcs_shown c.args.self.now.writer _ _ (c.read.ensures.content.did told).run)

pub returns-then-wants-2-clause-arcs : goal.returns-then-wants-2-clause-arcs
returns-then-wants-2-clause-arcs g c = on_ok c.read-then-wants-2.result (λ told.
    arcs_shown c.args.self.now.writer _ _ (c.read-then-wants-2.ensures.content.did told).run)

pub returns-clause-arcs : goal.returns-clause-arcs
returns-clause-arcs g c = on_ok c.read-2.result (λ told.
    arcs_shown c.args.self.now.writer _ _ (c.read-2.ensures.content.did told).run)

-- what remains of a task stays when the first operand's next node was read
pub returns-then-wants-clause-keeps : goal.returns-then-wants-clause-keeps
returns-then-wants-clause-keeps g c = on_ok_weaker c.read.result (λ next told t s h.
    first_kept t s c.args.ask.now c.args.self.now c.read.new.self _ _ h
    c.requires.fit.sound.operands (sym c.wants.ensures ∙ c.if-wants.true) c.read.ensures.file
    (c.read.ensures.content.did told).run (next told h.contents.readings.first h.stands.read.first))
    c.read.ensures.next

pub returns-then-wants-clause-undamaged : goal.returns-then-wants-clause-undamaged
returns-then-wants-clause-undamaged g c = if_err_map c.read.result (λ e none told t s h.
    none told h.contents.readings.first h.stands.read.first
    (first_has_next t s c.args.self.now c.args.ask.now _ h.contents h.rest h.first_is h.stands
    h.left (sym c.wants.ensures ∙ c.if-wants.true))) c.read.ensures.undamaged

-- what remains of a task stays when the second operand's next node was read
pub returns-then-wants-2-clause-keeps : goal.returns-then-wants-2-clause-keeps
returns-then-wants-2-clause-keeps g c = on_ok_weaker c.read-then-wants-2.result (λ next told t s h.
    second_kept t s c.args.ask.now c.args.self.now c.read-then-wants-2.new.self _ _ h
    c.requires.fit.sound.operands (sym c.wants-2.ensures ∙ c.if-wants-2.true) c.read-then-wants-2.ensures.file
    (c.read-then-wants-2.ensures.content.did told).run (next told h.contents.readings.second h.stands.read.second))
    c.read-then-wants-2.ensures.next

pub returns-then-wants-2-clause-undamaged : goal.returns-then-wants-2-clause-undamaged
returns-then-wants-2-clause-undamaged g c = if_err_map c.read-then-wants-2.result (λ e none told t s h.
    none told h.contents.readings.second h.stands.read.second
    (second_has_next t s c.args.self.now c.args.ask.now _ h.contents h.rest h.first_is h.stands
    h.left (sym c.wants-2.ensures ∙ c.if-wants-2.true))) c.read-then-wants-2.ensures.undamaged

-- and when the third one's was
pub returns-clause-keeps : goal.returns-clause-keeps
returns-clause-keeps g c = on_ok_weaker c.read-2.result (λ next told t s h.
    third_kept t s c.args.ask.now c.args.self.now c.read-2.new.self _ _ h
    c.requires.fit.sound.operands (third_wanted _ _ _ (sym c.wants.ensures ∙ c.if-wants.false)
    (sym c.wants-2.ensures ∙ c.if-wants-2.false) c.requires.wanted) c.read-2.ensures.file
    (c.read-2.ensures.content.did told).run (next told h.contents.readings.third h.stands.read.third))
    c.read-2.ensures.next

pub returns-clause-undamaged : goal.returns-clause-undamaged
returns-clause-undamaged g c = if_err_map c.read-2.result (λ e none told t s h.
    none told h.contents.readings.third h.stands.read.third
    (third_has_next t s c.args.self.now c.args.ask.now _ h.contents h.rest h.first_is h.stands
    h.left (third_wanted _ _ _ (sym c.wants.ensures ∙ c.if-wants.false)
    (sym c.wants-2.ensures ∙ c.if-wants-2.false) c.requires.wanted))) c.read-2.ensures.undamaged
