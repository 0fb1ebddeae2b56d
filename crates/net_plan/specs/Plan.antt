-- The steps of a netlist's signals.
use Rattle.std.specs.Prelude.{ℕ, ◌<◌, ◌≡◌, Bool, false, List, [], ◌∷◌, ◌++◌, length, map, replicate, slice_index, slice_set, nat_lt, if◌then◌else◌}
use Rattle.std.specs.List.{flat_map, slice_index_or}
use Rattle.depth_first.specs.Graph.{edges_of, has, visits}
use Rattle.blif_reader.specs.Netlist.{Net, cover_at}
use Rattle.bool_tables.specs.declared.steps.Step.{Step}
use Rattle.bool_tables.specs.declared.steps.Step.TheVariants.{Var, Drop}
use Rattle.net_plan.specs.Covers.{Draft, put, block}

-- steps, and for each signal the number of the step that made its diagram
pub record Planning : Type 0 where
  pub steps : List Step
  pub made : List ℕ

-- the steps of one signal: an input is a variable, a block is made from what it reads
abbrev pub signal_draft : Net → List ℕ → ℕ → Planning → ℕ → Draft
signal_draft net levels first p s =
    if nat_lt s net.inputs then put first p.steps (Var (slice_index levels s))
    else block first p.steps (cover_at net s).value (cover_at net s).rows
    (map (slice_index p.made) (edges_of net.edges s))

-- the signal was made
abbrev pub with_signal : Planning → ℕ → Draft → Planning
with_signal p s d = record { steps = d.steps; made = slice_set p.made s d.at }

-- the steps of signals in order
abbrev pub make_signals : Net → List ℕ → ℕ → Planning → List ℕ → Planning
make_signals net levels first p [] = p
make_signals net levels first p (s ∷ ss) = make_signals net levels first
    (with_signal p s (signal_draft net levels first p s)) ss

-- a signal that isn't wanted is dropped
abbrev pub drop_one : List ℕ → List ℕ → ℕ → List Step
drop_one wanted made s = if has wanted s then [] else Drop (slice_index made s) ∷ []

-- nothing is planned yet
abbrev pub no_plan : Net → Planning
no_plan net = record { steps = []; made = replicate (length net.names) 0 }

-- the signals that are visited are made in the order of the visits, and then those that aren't wanted are dropped
abbrev pub made_signals : Net → List ℕ → List ℕ → ℕ → Planning
made_signals net levels wanted first = make_signals net levels first (no_plan net) (visits net.edges wanted)

abbrev pub plan_steps : Net → List ℕ → List ℕ → ℕ → List Step
plan_steps net levels wanted first =
    (made_signals net levels wanted first).steps ++ flat_map
    (drop_one wanted (made_signals net levels wanted first).made) (visits net.edges wanted)

-- the numbers of the steps that made the wanted signals
abbrev pub plan_made : Net → List ℕ → List ℕ → ℕ → List ℕ
plan_made net levels wanted first = map (slice_index (made_signals net levels wanted first).made) wanted

-- for each signal whether it is wanted
pub record IsWanted (signals : ℕ) (wanted : List ℕ) (kept : List Bool) : Type 0 where
  pub size : length kept ≡ signals
  pub marks : (s : ℕ) → s < signals → slice_index_or kept s false ≡ has wanted s
