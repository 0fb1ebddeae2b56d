use Rattle.std.proofs.Common.{◌≡◌, ℕ, ◌+◌, ◌-◌, min, List, length, take, drop, ap, subst, rules, arith}
use Rattle.std.proofs.lemmas.List.{length-take, length-drop}
use Rattle.shelf_model.specs.Folder.{file_in}
use Rattle.shelf_model.specs.World.{now, file}
use Rattle.shelf_model.specs.Calls.{Copied}
use Rattle.shelf_model.specs.Moments.{Stays}
use Rattle.shelf_model.proofs.Runs.{ran_end}
use Rattle.sweep_checkpoint.proofs.Loaded.{stays_on, read_piece}
use Rattle.sweep_checkpoint.proofs.loading.read_whole.Goals as goal

pub loop-done-preserved : goal.loop-done-preserved
loop-done-preserved g c = record {
  within = omega arith;
  so_far = stays_on g.S.Shelf.tells g.S.Shelf.world c.args.f _ _ _ _ _ _ _ c.loop-done.invariant.so_far c.in_ok-got.ensures.content;
  reads = λ tells.
      let tells_before = c.in_ok-got.ensures.content.before tells in
      let done : ℕ = c.loop-done.done in
      let next : ℕ = c.loop-done.done + c.min.result in
      let stays = ran_end (g.S.Shelf.world c.args.shelf.now) (g.S.Shelf.world c.loop-done.shelf) (Stays (now (g.S.Shelf.world c.args.shelf.now))) (c.loop-done.invariant.so_far.did tells_before) in
      let same : (file (g.S.Shelf.world c.loop-done.shelf) c.args.f).bytes ≡ (file (g.S.Shelf.world c.args.shelf.now) c.args.f).bytes = ap (λ d. (file_in d c.args.f).bytes) stays in
      let before : List ℕ = take (next - done) (drop done c.loop-done.bytes) in
      let cut : length before ≡ min (next - done) (length (drop done c.loop-done.bytes)) = length-take (next - done) (drop done c.loop-done.bytes) in
      let behind : length (drop done c.loop-done.bytes) ≡ length c.loop-done.bytes - done = length-drop done c.loop-done.bytes in
      let room : length before ≡ next - done = omega arith in
      let read : Copied (file (g.S.Shelf.world c.args.shelf.now) c.args.f).bytes (c.args.at + done) before c.read_at.new.buf c.in_ok-got.got =
      subst (λ s. Copied s (c.args.at + done) before c.read_at.new.buf c.in_ok-got.got) same (c.in_ok-got.ensures.content.did tells).ok in
      read_piece (file (g.S.Shelf.world c.args.shelf.now) c.args.f).bytes c.loop-done.bytes before c.read_at.new.buf c.args.at done next c.in_ok-got.got (omega arith) (omega arith) room (omega arith)
      (c.loop-done.invariant.reads tells_before) read;
  calls = λ tells.
      let did = c.in_ok-got.ensures.content.did tells in
      let clock : (g.S.Shelf.world c.read_at.new.self).clock ≡ (g.S.Shelf.world c.loop-done.shelf).clock + 1 = did.shelf.ticks.clock_is in
      let before = c.loop-done.invariant.calls (c.in_ok-got.ensures.content.before tells) in
      omega arith;
  faults = search rules;
}
