use Rattle.std.proofs.Common.{◌≡◌, ◌+◌, ◌<◌, ◌∙◌, sym, ap, inl, inr, arith}
use Rattle.shelf_model.specs.File.{File}
use Rattle.sweep_core.specs.Saving.{reads_of}
use Rattle.arc_file.specs.Streams.{left_of}
use Rattle.arc_file.specs.Readers.{inner_of, ends_of}
use Rattle.reduce_lists.proofs.Refusing.{if_err_weaker}
use Rattle.reduce_sweep.specs.Sweeps.{out_of, inner_file, ends_file, arcs_of, turns_left, arcs_weight, lists_weight, IsGoing}
use Rattle.reduce_sweep.specs.RemainingLaws.{lists_remain}
use Rattle.reduce_sweep.specs.Saving.{saved_of}
use Rattle.reduce_sweep.proofs.Carried.{IsFilledWith, filled_with, working_on, left_on, going_of, stands_going, phase_back, filled_tables, carried_fits, carried_goes, carried_sure, inner_operand, ends_operand, used_run}
use Rattle.reduce_sweep.proofs.SettleLaws.{turns_stay, no_damage_among, settles_err}
use Rattle.reduce_sweep.proofs.Still.{some_left, is_still}
use Rattle.reduce_sweep.proofs.TurnKeeps.{going_works, going_lists, lists_in, left_remains}
use Rattle.reduce_sweep.proofs.reduce.ReduceSweepSweep.carry.Goals as goal

-- a call was refused
pub returns-in_err-tables-clause-damage : goal.returns-in_err-tables-clause-damage
returns-in_err-tables-clause-damage g c =
    let tells = g.S.Shelf.tells in
    let world = g.S.Shelf.world in
    let refused = settles_err tells world g.S.Shelf.faults 6146 65536 1536 4608 c.args.shelf.now c.settle.new.shelf
    c.args.self.now c.settle.new.self c.from_residual.result c.settle.result c.in_err-tables.field-0.0 (omega arith)
    (omega arith) c.from_residual.ensures.1 c.in_err-tables.was c.settle.ensures.settles in
    let s = c.args.self.now in
    if_err_weaker c.from_residual.result (λ e spared told trusts.
    no_damage_among (arcs_of c.settle.new.self) (world c.settle.new.shelf) e
    (spared told (going_lists s.place.phase s (world c.args.shelf.now)
    (going_of s.place.phase (arcs_weight s.ahead + lists_weight s.lists) c.requires.works) trusts))) refused.spared

pub returns-in_err-tables-clause-undamaged : goal.returns-in_err-tables-clause-undamaged
returns-in_err-tables-clause-undamaged g c =
    let tells = g.S.Shelf.tells in
    let world = g.S.Shelf.world in
    let refused = settles_err tells world g.S.Shelf.faults 6146 65536 1536 4608 c.args.shelf.now c.settle.new.shelf
    c.args.self.now c.settle.new.self c.from_residual.result c.settle.result c.in_err-tables.field-0.0 (omega arith)
    (omega arith) c.from_residual.ensures.1 c.in_err-tables.was c.settle.ensures.settles in
    let s = c.args.self.now in
    if_err_weaker c.from_residual.result (λ e spared told d remains.
    spared told (going_lists s.place.phase s (world c.args.shelf.now)
    (going_of s.place.phase (arcs_weight s.ahead + lists_weight s.lists) c.requires.works)
    (lists_remain s (world c.args.shelf.now) d remains))) refused.spared

-- all is sure, and stands in the checkpoint
pub returns-clause-keeps : goal.returns-clause-keeps
returns-clause-keeps g c =
    let tells = g.S.Shelf.tells in
    let world = g.S.Shelf.world in
    let before = c.args.shelf.now in
    let after = c.settle.new.shelf in
    let s = c.args.self.now in
    let t = c.settle.new.self in
    let settled = c.in_ok-tables.ensures.settles in
    let keeps = settled.keeps in
    let stay : turns_left t ≡ turns_left s = turns_stay tells world before after s t keeps in
    let works : 0 < turns_left s = c.requires.works in
    let left : 0 < turns_left t = omega (arith, works, stay) in
    let going : IsGoing s.place.phase = going_of s.place.phase (arcs_weight s.ahead + lists_weight s.lists) works in
    λ told d remains. left_remains t.place.phase (arcs_weight t.ahead + lists_weight t.lists) t (world after) d left
    (working_on tells world before after s t keeps told d
    (going_works s.place.phase s (world before) d going remains))

pub returns-clause-trusts : goal.returns-clause-trusts
returns-clause-trusts g c =
    let world = g.S.Shelf.world in
    let before = c.args.shelf.now in
    let after = c.settle.new.shelf in
    let s = c.args.self.now in
    let t = c.settle.new.self in
    let settled = c.in_ok-tables.ensures.settles in
    let keeps = settled.keeps in
    let works : 0 < turns_left s = c.requires.works in
    let going : IsGoing s.place.phase = going_of s.place.phase (arcs_weight s.ahead + lists_weight s.lists) works in
    λ told trusts. lists_in t.place.phase t (world after)
    (keeps.listed told (going_lists s.place.phase s (world before) going trusts))

pub returns-clause-filled : goal.returns-clause-filled
returns-clause-filled g c =
    let tells = g.S.Shelf.tells in
    let world = g.S.Shelf.world in
    let before = c.args.shelf.now in
    let after = c.settle.new.shelf in
    let s = c.args.self.now in
    let t = c.settle.new.self in
    let settled = c.in_ok-tables.ensures.settles in
    let keeps = settled.keeps in
    let tables = c.in_ok-tables.tables in
    let froze = c.in_ok-tables.ensures.froze in
    let put = c.fill_with_runs.ensures in
    let into = c.fill_with_runs.new.into in
    let filled : IsFilledWith into t tables = filled_with into t tables c.saved.result c.words_of.result
    (put.head.step_is ∙ c.requires.step ∙ sym settled.carries.step_is) put.next put.count froze.many put.carry put.runs
    c.saved.ensures c.words_of.ensures.front in
    record { next_is = put.next; tables = filled_tables tells world before after s t tables into keeps.fit.sound settled.same froze filled }

pub returns-clause-fits : goal.returns-clause-fits
returns-clause-fits g c =
    let tells = g.S.Shelf.tells in
    let world = g.S.Shelf.world in
    let before = c.args.shelf.now in
    let after = c.settle.new.shelf in
    let s = c.args.self.now in
    let t = c.settle.new.self in
    let settled = c.in_ok-tables.ensures.settles in
    let keeps = settled.keeps in
    let stay : turns_left t ≡ turns_left s = turns_stay tells world before after s t keeps in
    let works : 0 < turns_left s = c.requires.works in
    let left : 0 < turns_left t = omega (arith, works, stay) in
    let going_on : IsGoing t.place.phase = going_of t.place.phase (arcs_weight t.ahead + lists_weight t.lists) left in
    let tables = c.in_ok-tables.tables in
    let froze = c.in_ok-tables.ensures.froze in
    let put = c.fill_with_runs.ensures in
    let into = c.fill_with_runs.new.into in
    let filled : IsFilledWith into t tables = filled_with into t tables c.saved.result c.words_of.result
    (put.head.step_is ∙ c.requires.step ∙ sym settled.carries.step_is) put.next put.count froze.many put.carry put.runs
    c.saved.ensures c.words_of.ensures.front in
    carried_fits tells world before after s t tables into keeps.fit.sound settled.same froze filled c.requires.files
    settled.carries.step_is settled.carries.later going_on

pub returns-clause-stands : goal.returns-clause-stands
returns-clause-stands g c =
    let tells = g.S.Shelf.tells in
    let world = g.S.Shelf.world in
    let before = c.args.shelf.now in
    let after = c.settle.new.shelf in
    let s = c.args.self.now in
    let t = c.settle.new.self in
    let settled = c.in_ok-tables.ensures.settles in
    let keeps = settled.keeps in
    let stay : turns_left t ≡ turns_left s = turns_stay tells world before after s t keeps in
    let works : 0 < turns_left s = c.requires.works in
    let left : 0 < turns_left t = omega (arith, works, stay) in
    let going : IsGoing s.place.phase = going_of s.place.phase (arcs_weight s.ahead + lists_weight s.lists) works in
    let going_on : IsGoing t.place.phase = going_of t.place.phase (arcs_weight t.ahead + lists_weight t.lists) left in
    let tables = c.in_ok-tables.tables in
    let froze = c.in_ok-tables.ensures.froze in
    let put = c.fill_with_runs.ensures in
    let into = c.fill_with_runs.new.into in
    let filled : IsFilledWith into t tables = filled_with into t tables c.saved.result c.words_of.result
    (put.head.step_is ∙ c.requires.step ∙ sym settled.carries.step_is) put.next put.count froze.many put.carry put.runs
    c.saved.ensures c.words_of.ensures.front in
    λ told d remains.
    let working = going_works s.place.phase s (world before) d going remains in
    record {
      saved = saved_of t;
      holds = filled.holds;
      phase = t.place.phase;
      phase_is = phase_back t.place.phase;
      stands = stands_going t.place.phase into (saved_of t) (reads_of (world after)) d (turns_left t) going_on
          (carried_goes tells world before after s t tables into keeps.fit.sound settled.same froze filled told
          working.contents working.holds (keeps.holds told working.contents working.holds) d
          (left_on s t d working.contents keeps.place_is working.left) (keeps.fit.at_work told));
    }

pub returns-clause-sure : goal.returns-clause-sure
returns-clause-sure g c =
    let tells = g.S.Shelf.tells in
    let world = g.S.Shelf.world in
    let before = c.args.shelf.now in
    let after = c.settle.new.shelf in
    let s = c.args.self.now in
    let t = c.settle.new.self in
    let settled = c.in_ok-tables.ensures.settles in
    let keeps = settled.keeps in
    let works : 0 < turns_left s = c.requires.works in
    let going : IsGoing s.place.phase = going_of s.place.phase (arcs_weight s.ahead + lists_weight s.lists) works in
    let tables = c.in_ok-tables.tables in
    let froze = c.in_ok-tables.ensures.froze in
    let put = c.fill_with_runs.ensures in
    let into = c.fill_with_runs.new.into in
    let filled : IsFilledWith into t tables = filled_with into t tables c.saved.result c.words_of.result
    (put.head.step_is ∙ c.requires.step ∙ sym settled.carries.step_is) put.next put.count froze.many put.carry put.runs
    c.saved.ensures c.words_of.ensures.front in
    λ told d remains f n on.
    let working = going_works s.place.phase s (world before) d going remains in
    carried_sure tells world before after s t tables into keeps.fit.sound settled.same froze filled told
    working.contents working.holds (keeps.holds told working.contents working.holds) f n on

pub returns-clause-still : goal.returns-clause-still
returns-clause-still g c =
    let tells = g.S.Shelf.tells in
    let world = g.S.Shelf.world in
    let before = c.args.shelf.now in
    let after = c.settle.new.shelf in
    let s = c.args.self.now in
    let t = c.settle.new.self in
    let settled = c.in_ok-tables.ensures.settles in
    let keeps = settled.keeps in
    let stay : turns_left t ≡ turns_left s = turns_stay tells world before after s t keeps in
    let works : 0 < turns_left s = c.requires.works in
    let left : 0 < turns_left t = omega (arith, works, stay) in
    let going_on : IsGoing t.place.phase = going_of t.place.phase (arcs_weight t.ahead + lists_weight t.lists) left in
    let tables = c.in_ok-tables.tables in
    let froze = c.in_ok-tables.ensures.froze in
    let put = c.fill_with_runs.ensures in
    let into = c.fill_with_runs.new.into in
    let filled : IsFilledWith into t tables = filled_with into t tables c.saved.result c.words_of.result
    (put.head.step_is ∙ c.requires.step ∙ sym settled.carries.step_is) put.next put.count froze.many put.carry put.runs
    c.saved.ensures c.words_of.ensures.front in
    λ later same. is_still t (world after) later
    (ap (λ (x : File). x.bytes) (same (out_of t) (inr (inl settled.same.out_is))))
    (λ some. ap (λ (x : File). x.bytes) (same (inner_file t) (inl (inner_operand tells world before after s t tables into keeps.fit.sound settled.same froze filled
    (some_left t.ahead.inner (left_of (inner_of t.ahead.reader)) some)))))
    (λ some. ap (λ (x : File). x.bytes) (same (ends_file t) (inl (ends_operand tells world before after s t tables into keeps.fit.sound settled.same froze filled
    (some_left t.ahead.end (left_of (ends_of t.ahead.reader)) some)))))
    (λ f run. ap (λ (x : File). x.bytes) (same f (inr (inr (used_run tells world before after s t tables into keeps.fit.sound settled.same froze filled
    f run))))) going_on
