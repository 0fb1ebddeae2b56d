use Rattle.std.proofs.Common.{rules, ◌≡◌, ◌+◌, ◌-◌, ◌<◌, ◌≤◌, min, ◌∙◌, length, ◌++◌, take, drop, arith, sym, ap, subst}
use Rattle.std.proofs.lemmas.List.{take-append-le, length-take-le}
use Rattle.std.proofs.lemmas.Grind.{common_steps}
use Rattle.script_runner.proofs.FetchRuns.{IsFront, HasCalled, fetched_on, all_is_read, more_is_read, called_on, called_last, called_none}
use Rattle.script_runner.proofs.fetch.fetch_text.Goals as goal

pub returns-then-count-eq0-clause-text : goal.returns-then-count-eq0-clause-text
returns-then-count-eq0-clause-text g c =
    let at : c.len-in-pieces-2.result ≡ length c.pieces.bytes.items = search rules in
    let room : 0 < length (take c.min-room.result c.pieces.piece) = grind (arith, common_steps) in
    let within : length c.pieces.bytes.items ≤ c.args.most + 1 = search rules in
    all_is_read g.W.Shelf.tells g.W.Shelf.world c.args.path.now c.pieces.bytes.items _ _ _ c.args.most c.in-Ok.count _ _ _ at
    c.pieces.invariant.so_far c.in-Ok.ensures.content c.pieces.invariant.front c.if-count-eq0.true room within

pub pieces-preserved : goal.pieces-preserved
pieces-preserved g c =
    let at : c.len-in-pieces-2.result ≡ length c.pieces.bytes.items = search rules in
    let short : c.in-Ok.count ≤ length c.fetch.new.buf = grind (arith, common_steps) in
    let items : c.extend_from_slice.new.self.items ≡ c.pieces.bytes.items ++ take c.in-Ok.count c.fetch.new.buf =
    c.in_ok-extend_from_slice.ensures.items
    ∙ ap (λ piece. c.pieces.bytes.items ++ piece) (take-append-le c.in-Ok.count c.fetch.new.buf (drop c.min-room.result c.pieces.piece) short) in
    let piece : length (take c.in-Ok.count c.fetch.new.buf) ≡ c.in-Ok.count = length-take-le c.in-Ok.count c.fetch.new.buf short in
    let room : length (take c.min-room.result c.pieces.piece) ≡ min (c.args.most + 1 - length c.pieces.bytes.items) 2048 = grind (arith, common_steps) in
    record {
      called = λ tells_now. subst (λ bytes. HasCalled c.args.path.now c.args.most bytes (g.W.Shelf.world c.args.station.now) (g.W.Shelf.world c.fetch.new.self)) (sym items)
          (called_on g.W.Shelf.tells g.W.Shelf.world c.args.path.now c.pieces.bytes.items _ _ _ c.args.most c.in-Ok.count _ _ _ at (search (rules, arith)) room
          c.pieces.invariant.so_far c.pieces.invariant.called c.in-Ok.ensures.content c.if-count-eq0.false piece tells_now);
      so_far = fetched_on g.W.Shelf.tells g.W.Shelf.world c.args.path.now _ _ _ _ _ _ _ c.pieces.invariant.so_far c.in-Ok.ensures.content;
      front = λ tells_now. subst (λ bytes. IsFront c.args.path.now bytes (g.W.Shelf.world c.args.station.now)) (sym items)
          (more_is_read g.W.Shelf.tells g.W.Shelf.world c.args.path.now c.pieces.bytes.items _ _ _ c.in-Ok.count _ _ _ at
          c.pieces.invariant.so_far c.in-Ok.ensures.content c.pieces.invariant.front tells_now);
      within = grind (arith, common_steps);
      room = grind (arith, common_steps);
      faults = record {
        folder_is = c.in-Ok.ensures.faults.folder_is ∙ c.pieces.invariant.faults.folder_is;
        say_is = c.in-Ok.ensures.faults.say_is ∙ c.pieces.invariant.faults.say_is;
        text_later = λ path. let before = c.pieces.invariant.faults.text_later path in let after = c.in-Ok.ensures.faults.later path in omega (arith, before, after);
      };
    }

pub returns-then-count-eq0-clause-calls : goal.returns-then-count-eq0-clause-calls
returns-then-count-eq0-clause-calls g c =
    called_last g.W.Shelf.tells g.W.Shelf.world c.args.path.now c.pieces.bytes.items _ _ _ c.args.most _ _ _ _ (search rules) c.pieces.invariant.called c.in-Ok.ensures.content

pub returns-in_default-clause-calls : goal.returns-in_default-clause-calls
returns-in_default-clause-calls g c =
    called_last g.W.Shelf.tells g.W.Shelf.world c.args.path.now c.pieces.bytes.items _ _ _ c.args.most _ _ _ _ (search rules) c.pieces.invariant.called c.in_default.ensures.content

pub returns-in_err-extend_from_slice-clause-calls : goal.returns-in_err-extend_from_slice-clause-calls
returns-in_err-extend_from_slice-clause-calls g c =
    called_last g.W.Shelf.tells g.W.Shelf.world c.args.path.now c.pieces.bytes.items _ _ _ c.args.most _ _ _ _ (search rules) c.pieces.invariant.called c.in-Ok.ensures.content

pub returns-clause-calls : goal.returns-clause-calls
returns-clause-calls g c =
    called_none g.W.Shelf.tells g.W.Shelf.world c.args.path.now c.pieces.bytes.items c.args.most _ _ (search rules) c.pieces.invariant.called
