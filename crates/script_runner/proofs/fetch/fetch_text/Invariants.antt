use Rattle.std.proofs.Common.{◌≡◌, ◌+◌, ◌-◌, ◌≤◌, IsTrue, vec_len, length}
use Rattle.shelf_model.specs.Calls.{Told}
use Rattle.script_runner.specs.Fetching.{OnlyFetched, OnlyTexts}
use Rattle.script_runner.proofs.FetchRuns.{IsFront, HasCalled}
use Rattle.script_runner.proofs.fetch.fetch_text.Given as goal

-- the bytes so far are the front of the text, and only texts were fetched
abbrev pub invariant-pieces : goal.invariant-pieces
invariant-pieces g l = record {
  so_far : Told g.W.Shelf.tells l.fn.station l.station (OnlyFetched (g.W.Shelf.world l.fn.station) (g.W.Shelf.world l.station));
  front : IsTrue (g.W.Shelf.tells l.station) → IsFront l.path l.bytes.items (g.W.Shelf.world l.fn.station);
  called : IsTrue (g.W.Shelf.tells l.station) → HasCalled l.path l.most l.bytes.items (g.W.Shelf.world l.fn.station) (g.W.Shelf.world l.station);
  within : vec_len l.bytes ≤ l.most + 1;
  room : length l.piece ≡ 2048;
  faults : OnlyTexts (g.W.Shelf.faults l.fn.station) (g.W.Shelf.faults l.station);
}

abbrev pub decreases-pieces : goal.decreases-pieces
decreases-pieces g l = l.most + 1 - vec_len l.bytes
