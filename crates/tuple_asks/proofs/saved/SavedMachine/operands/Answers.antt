use Rattle.std.proofs.Common.{◌∙◌, arith}
use Rattle.node_reading.proofs.NodeReading.{if_handed}
use Rattle.node_reading.proofs.Staying.{stays_on}
use Rattle.node_reading.proofs.Wholes.{fine}
use Rattle.run_tiers.proofs.FaultLaws.{sort_shelf_then, sort_shelf_on}
use Rattle.tuple_asks.specs.Resuming.{OfFirst, OfSecond, OfThird, reading_at}
use Rattle.tuple_asks.proofs.Staying.{looked_same}
use Rattle.tuple_asks.proofs.Staying.{fault_before, calls_before}
use Rattle.tuple_asks.proofs.Staying.{read_still}
use Rattle.tuple_asks.proofs.StartKeeps.{moved_file}
use Rattle.tuple_asks.proofs.saved.SavedMachine.operands.Goals as goal

-- the first operand can't be read on, nor the second, nor the third
pub returns-in_err-first-clause-damage : goal.returns-in_err-first-clause-damage
returns-in_err-first-clause-damage g c = if_handed _ c.from_residual.result _ c.from_residual.ensures.1
    (λ told. OfFirst (c.in_err-first.ensures.damage told))

pub returns-in_err-second-clause-damage : goal.returns-in_err-second-clause-damage
returns-in_err-second-clause-damage g c = if_handed _ c.from_residual-in_err-second.result _
    c.from_residual-in_err-second.ensures.1 (λ told.
    let x = c.args.self.now.second in
    OfSecond (fault_before c.args.self.now.variables c.args.step x.file x.read _ _ _
    (c.resume.ensures.content.did (c.resume-2.ensures.content.before told)) (c.in_err-second.ensures.damage told)))

pub returns-in_err-third-clause-damage : goal.returns-in_err-third-clause-damage
returns-in_err-third-clause-damage g c = if_handed _ c.from_residual-in_err-third.result _
    c.from_residual-in_err-third.ensures.1 (λ told.
    let x = c.args.self.now.third in
    let both = stays_on g.S.Shelf.tells g.S.Shelf.world _ _ _ c.resume.ensures.content c.resume-2.ensures.content in
    OfThird (fault_before c.args.self.now.variables c.args.step x.file x.read _ _ _
    (both.did (c.resume-3.ensures.content.before told)) (c.in_err-third.ensures.damage told)))

-- and never for want of a part number
pub returns-in_err-first-clause-kind : goal.returns-in_err-first-clause-kind
returns-in_err-first-clause-kind g c = if_handed _ c.from_residual.result _ c.from_residual.ensures.1
    c.in_err-first.ensures.kind

pub returns-in_err-second-clause-kind : goal.returns-in_err-second-clause-kind
returns-in_err-second-clause-kind g c = if_handed _ c.from_residual-in_err-second.result _
    c.from_residual-in_err-second.ensures.1 c.in_err-second.ensures.kind

pub returns-in_err-third-clause-kind : goal.returns-in_err-third-clause-kind
returns-in_err-third-clause-kind g c = if_handed _ c.from_residual-in_err-third.result _
    c.from_residual-in_err-third.ensures.1 c.in_err-third.ensures.kind

-- where the diagrams' nodes are there, it is
pub returns-in_err-first-clause-undamaged : goal.returns-in_err-first-clause-undamaged
returns-in_err-first-clause-undamaged g c = if_handed _ c.from_residual.result _ c.from_residual.ensures.1
    (λ told roots d files among. c.in_err-first.ensures.undamaged told roots.first d.first files.first among.first)

pub returns-in_err-second-clause-undamaged : goal.returns-in_err-second-clause-undamaged
returns-in_err-second-clause-undamaged g c = if_handed _ c.from_residual-in_err-second.result _
    c.from_residual-in_err-second.ensures.1 (λ told roots d files among.
    let x = c.args.self.now.second in
    let old = g.S.Shelf.world c.args.shelf.now in
    let one = g.S.Shelf.world c.resume.new.shelf in
    let looked = c.resume.ensures.content.did (c.resume-2.ensures.content.before told) in
    c.in_err-second.ensures.undamaged told roots.second d.second
    (moved_file x.file c.args.self.now.variables roots.second d.second old one (looked_same old one looked x.file)
    files.second) among.second)

pub returns-in_err-third-clause-undamaged : goal.returns-in_err-third-clause-undamaged
returns-in_err-third-clause-undamaged g c = if_handed _ c.from_residual-in_err-third.result _
    c.from_residual-in_err-third.ensures.1 (λ told roots d files among.
    let x = c.args.self.now.third in
    let both = stays_on g.S.Shelf.tells g.S.Shelf.world _ _ _ c.resume.ensures.content c.resume-2.ensures.content in
    let old = g.S.Shelf.world c.args.shelf.now in
    let two = g.S.Shelf.world c.resume-2.new.shelf in
    c.in_err-third.ensures.undamaged told roots.third d.third
    (moved_file x.file c.args.self.now.variables roots.third d.third old two
    (looked_same old two (both.did (c.resume-3.ensures.content.before told)) x.file) files.third) among.third)

-- the files stay
pub returns-in_err-second-clause-content : goal.returns-in_err-second-clause-content
returns-in_err-second-clause-content g c =
    stays_on g.S.Shelf.tells g.S.Shelf.world _ _ _ c.resume.ensures.content c.resume-2.ensures.content

pub returns-in_err-third-clause-content : goal.returns-in_err-third-clause-content
returns-in_err-third-clause-content g c = stays_on g.S.Shelf.tells g.S.Shelf.world _ _ _
    (stays_on g.S.Shelf.tells g.S.Shelf.world _ _ _ c.resume.ensures.content c.resume-2.ensures.content)
    c.resume-3.ensures.content

pub returns-clause-content : goal.returns-clause-content
returns-clause-content g c = stays_on g.S.Shelf.tells g.S.Shelf.world _ _ _
    (stays_on g.S.Shelf.tells g.S.Shelf.world _ _ _ c.resume.ensures.content c.resume-2.ensures.content)
    c.resume-3.ensures.content

-- and each is read by few calls
pub returns-in_err-second-clause-calls : goal.returns-in_err-second-clause-calls
returns-in_err-second-clause-calls g c = λ told.
    let mid = c.resume-2.ensures.content.before told in
    let first = c.resume.ensures.calls mid in
    let second = c.resume-2.ensures.calls told in
    let same = calls_before c.args.self.now.second.file _ _ (c.resume.ensures.content.did mid) in
    omega (arith, first, second, same)

pub returns-in_err-third-clause-calls : goal.returns-in_err-third-clause-calls
returns-in_err-third-clause-calls g c = λ told.
    let late = c.resume-3.ensures.content.before told in
    let mid = c.resume-2.ensures.content.before late in
    let first = c.resume.ensures.calls mid in
    let second = c.resume-2.ensures.calls late in
    let third = c.resume-3.ensures.calls told in
    let both = stays_on g.S.Shelf.tells g.S.Shelf.world _ _ _ c.resume.ensures.content c.resume-2.ensures.content in
    let same = calls_before c.args.self.now.second.file _ _ (c.resume.ensures.content.did mid) in
    let again = calls_before c.args.self.now.third.file _ _ (both.did late) in
    omega (arith, first, second, third, same, again)

pub returns-clause-calls : goal.returns-clause-calls
returns-clause-calls g c = λ told.
    let late = c.resume-3.ensures.content.before told in
    let mid = c.resume-2.ensures.content.before late in
    let first = c.resume.ensures.calls mid in
    let second = c.resume-2.ensures.calls late in
    let third = c.resume-3.ensures.calls told in
    let both = stays_on g.S.Shelf.tells g.S.Shelf.world _ _ _ c.resume.ensures.content c.resume-2.ensures.content in
    let same = calls_before c.args.self.now.second.file _ _ (c.resume.ensures.content.did mid) in
    let again = calls_before c.args.self.now.third.file _ _ (both.did late) in
    omega (arith, first, second, third, same, again)

-- each was read so far
pub returns-clause-nodes : goal.returns-clause-nodes
returns-clause-nodes g c = λ told roots d files among.
    let m = c.args.self.now in
    let n = m.variables in
    let old = g.S.Shelf.world c.args.shelf.now in
    let one = g.S.Shelf.world c.resume.new.shelf in
    let two = g.S.Shelf.world c.resume-2.new.shelf in
    let three = g.S.Shelf.world c.resume-3.new.shelf in
    let late = c.resume-3.ensures.content.before told in
    let mid = c.resume-2.ensures.content.before late in
    let on_one = looked_same old one (c.resume.ensures.content.did mid) in
    let on_two = looked_same one two (c.resume-2.ensures.content.did late) in
    let on_three = looked_same two three (c.resume-3.ensures.content.did told) in
    let first = c.in_ok-first.ensures.nodes mid roots.first d.first files.first among.first in
    let second = c.in_ok-second.ensures.nodes late roots.second d.second
    (moved_file m.second.file n roots.second d.second old one (on_one m.second.file) files.second) among.second in
    let third = c.in_ok-third.ensures.nodes told roots.third d.third
    (moved_file m.third.file n roots.third d.third old two (on_two m.third.file ∙ on_one m.third.file) files.third) among.third in
    record {
      roots_are = λ i. record {
        first = first.root_is i;
        second = second.root_is i;
        third = third.root_is i;
      };
      read = record {
        first = read_still n c.in_ok-first.first one three (reading_at d.first m.first.read) c.in_ok-first.ensures.is
            (on_three c.in_ok-first.first.file ∙ on_two c.in_ok-first.first.file) first.read;
        second = read_still n c.in_ok-second.second two three (reading_at d.second m.second.read)
            c.in_ok-second.ensures.is (on_three c.in_ok-second.second.file) second.read;
        third = third.read;
      };
    }

-- the first one was looked at alone
pub returns-in_err-first-clause-content : goal.returns-in_err-first-clause-content
returns-in_err-first-clause-content g c = c.resume.ensures.content

pub returns-in_err-first-clause-calls : goal.returns-in_err-first-clause-calls
returns-in_err-first-clause-calls g c = λ told. let first = c.resume.ensures.calls told in omega (arith, first)

-- and no fault but that of a failed call is counted
pub returns-in_err-first-clause-faults : goal.returns-in_err-first-clause-faults
returns-in_err-first-clause-faults g c = sort_shelf_on _ _ c.in_err-first.field-0.0 c.from_residual.result
    c.from_residual.ensures.1 c.in_err-first.ensures.faults

pub returns-in_err-second-clause-faults : goal.returns-in_err-second-clause-faults
returns-in_err-second-clause-faults g c = sort_shelf_then _ _ _ _ _ c.in_ok-first.ensures.faults
    (sort_shelf_on _ _ c.in_err-second.field-0.0 c.from_residual-in_err-second.result
    c.from_residual-in_err-second.ensures.1 c.in_err-second.ensures.faults)

pub returns-in_err-third-clause-faults : goal.returns-in_err-third-clause-faults
returns-in_err-third-clause-faults g c = sort_shelf_then _ _ _ _ _ c.in_ok-first.ensures.faults
    (sort_shelf_then _ _ _ _ _ c.in_ok-second.ensures.faults
    (sort_shelf_on _ _ c.in_err-third.field-0.0 c.from_residual-in_err-third.result
    c.from_residual-in_err-third.ensures.1 c.in_err-third.ensures.faults))

pub returns-clause-faults : goal.returns-clause-faults
returns-clause-faults g c = sort_shelf_then _ _ _ _ _ c.in_ok-first.ensures.faults
    (sort_shelf_then _ _ _ _ _ c.in_ok-second.ensures.faults (fine _ _ _ _ c.in_ok-third.ensures.faults))

-- all three are read on
pub returns-clause-are : goal.returns-clause-are
returns-clause-are g c = record {
  first = c.in_ok-first.ensures.is;
  second = c.in_ok-second.ensures.is;
  third = c.in_ok-third.ensures.is;
}

pub returns-clause-files : goal.returns-clause-files
returns-clause-files g c = record {
  first_is = c.in_ok-first.ensures.file;
  second_is = c.in_ok-second.ensures.file;
  third_is = c.in_ok-third.ensures.file;
}
