-- What the words give, by what clap found.
use Rattle.std.proofs.Common.{◌≡◌, ◌∙◌, ◌≢◌, Bool, true, false, List, [], refl, sym, ap, codes}
use Rattle.std.specs.Prelude.{Option, Some, None, if◌then◌else◌}
use Rattle.clap.specs.Words.{Kinds, Text, first_value, first_of, rows_of, fault_of, matches_of}
use Rattle.clap.specs.Walk.{is_empty}
use Rattle.clap.specs.declared.parser.matches.Found.{Found}
use Rattle.clap.proofs.SimpleLemmas.{is_nil}
use Rattle.clap.proofs.WalkLemmas.{first_value-rows}
use Rattle.command_words.specs.Command.{command}
use Rattle.command_words.specs.Readings.{Given, given_in, given_of}

-- nothing stands for what has a kind
nothing : {X : Type 0} (kinds : Kinds) (o : Option X) → kinds ≢ [] → (b : Bool) → is_empty kinds ≡ b → (if is_empty kinds then o else None) ≡ None
nothing kinds o some true e = absurd (some (is_nil kinds e))
nothing kinds o some false e = ap (λ (empty : Bool). if empty then o else None) e

-- what clap refuses gives nothing
pub refused_words : (words : List Text) → fault_of command words ≢ [] → given_of words ≡ None
unfolding given_of
refused_words words some = nothing (fault_of command words) (Some (given_in (matches_of command words))) some (is_empty (fault_of command words)) refl

-- what clap reads gives the values of its rows
given_rows : (words : List Text) (g : Given) → fault_of command words ≡ [] → g ≡ given_in (matches_of command words) → given_of words ≡ Some g
unfolding given_of
given_rows words g none is =
    ap (λ (kinds : Kinds). if is_empty kinds then Some (given_in (matches_of command words)) else None) none ∙ ap Some (sym is)

module _ (words : List Text) (f : Found) (rows_are : rows_of f ≡ matches_of command words) where
  value_of : (id : Text) (v : Option Text) → v ≡ first_value f id → v ≡ first_of id (matches_of command words)
  value_of id v is = is ∙ first_value-rows f id ∙ ap (first_of id) rows_are

  -- the values that clap found under the names of the command's places and options
  pub given_values : (action folder script netlist budget size : Option Text) → fault_of command words ≡ []
      → action ≡ first_value f (codes "action") → folder ≡ first_value f (codes "folder") → script ≡ first_value f (codes "script")
      → netlist ≡ first_value f (codes "netlist") → budget ≡ first_value f (codes "budget") → size ≡ first_value f (codes "size")
      → given_of words ≡ Some (record { action = action; folder = folder; script = script; netlist = netlist; budget = budget; size = size })
  given_values action folder script netlist budget size none a f s n b z = given_rows words _ none (λ i. record {
    action = value_of (codes "action") action a i;
    folder = value_of (codes "folder") folder f i;
    script = value_of (codes "script") script s i;
    netlist = value_of (codes "netlist") netlist n i;
    budget = value_of (codes "budget") budget b i;
    size = value_of (codes "size") size z i;
  })
