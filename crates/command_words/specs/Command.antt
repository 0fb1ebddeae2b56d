-- The command as `clap` is told of it.
use Rattle.std.specs.Prelude.{true, [], ◌∷◌, Some, codes}
use Rattle.clap.specs.Words.{App, Rule, Text, new_rule}
use Rattle.clap.specs.Simple.{new_shape}
use Rattle.clap.specs.declared.builder.action.ArgAction.TheVariants.{Set}

-- an argument that stands at its place, and has to be there
abbrev pub place_of : Text → Rule
place_of name = record (new_rule name) { action = Some Set; required = true }

-- an option with one value, under its own name
abbrev pub option_of : Text → Rule
option_of name = record (new_rule name) { long = Some name; action = Some Set }

-- what is done, in which folder, and four options; neither help nor a version
unfoldable pub command : App
command = record {
  top = record (new_shape (codes "adiar")) {
    rules = place_of (codes "action") ∷ place_of (codes "folder") ∷ option_of (codes "script")
        ∷ option_of (codes "netlist") ∷ option_of (codes "budget") ∷ option_of (codes "size") ∷ [];
    disable_help_flag = true;
    disable_version_flag = true;
  };
  subs = [];
}
