use Rattle.std.proofs.Common.{ℕ, List, Option, ap}
use Rattle.std.proofs.lemmas.Map.Text.{btree_map_updates_str}
use Rattle.script_reader.specs.declared.planning.Named.{Named}
use Rattle.script_reader.specs.Views.{state_of}
use Rattle.script_reader.proofs.planning.Planning.put_name.Goals as goal

pub returns : goal.returns
returns c =
    ap (λ (f : List ℕ → Option Named). record (state_of c.args.self.now) { named = f })
    (λ i other. btree_map_updates_str c.args.name.now c.args.self.now.named c.insert.new.self _ c.in_ok-insert.ensures.updates other i)
