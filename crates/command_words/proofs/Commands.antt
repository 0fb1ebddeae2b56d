-- What clap's words say of the command.
use Rattle.std.proofs.Common.{◌≡◌, ◌∙◌, ◌≢◌, List, [], true, refl, ap, subst, inl, inr}
use Rattle.std.specs.Prelude.{Ok}
use Rattle.clap.specs.Words.{App, Text, HasMatchesOf, FailsBy, HasKind, Kinds, is_simple, is_simple_and_free, rows_of, found_of, fault_of, matches_of, kind_of}
use Rattle.clap.specs.declared.error.Error.{Error}
use Rattle.clap.specs.declared.error.kind.ErrorKind.TheVariants.{OutOfMemory}
use Rattle.clap.specs.declared.parser.matches.ArgMatches.{ArgMatches}
use Rattle.command_words.specs.Command.{command}

-- the command uses no setting that changes how words are read
simple : is_simple command ≡ true
unfolding command
simple = refl

free : is_simple_and_free command ≡ true
unfolding command
free = refl

-- what was found is what clap finds
pub finds : (a : App) (words : List Text) (m : ArgMatches) → a ≡ command → HasMatchesOf a words m → rows_of (found_of m) ≡ matches_of command words
finds a words m is has = (has (ap is_simple is ∙ simple)).0 ∙ ap (λ b. matches_of b words) is

-- what was read isn't refused
pub accepts : (a : App) (words : List Text) (m : ArgMatches) → a ≡ command → (is_simple_and_free a ≡ true → FailsBy (fault_of a words) (Ok m)) → fault_of command words ≡ []
accepts a words m is fails = subst (λ (b : App). fault_of b words ≡ []) is (fails (ap is_simple_and_free is ∙ free))

-- what was refused for another cause than memory has a kind
pub refuses : (a : App) (words : List Text) (e : Error) → a ≡ command → (is_simple_and_free a ≡ true → HasKind (fault_of a words) e) → kind_of e ≢ OutOfMemory
    → fault_of command words ≢ []
refuses a words e is fails other none = has_none (fault_of command words) none (subst (λ (b : App). HasKind (fault_of b words) e) is (fails (ap is_simple_and_free is ∙ free)))
  where
    has_none : (kinds : Kinds) → kinds ≡ [] → HasKind kinds e → ⊥
    has_none kinds empty has = elim (subst (λ (ks : Kinds). HasKind ks e) empty has) [
      | inl memory ↦ other memory
      | inr among ↦ among
    ]
