-- What the values in memory stand for.
use Rattle.std.specs.Prelude.{ℕ, List, Option, option_map}
use Rattle.std.specs.Borrow.{Bor}
use Rattle.command_words.specs.Readings as asks
use Rattle.command_words.specs.Readings.{Reading}
use Rattle.command_words.specs.declared.given.Given.{Given}
use Rattle.command_words.specs.declared.words.Words.{Words}
use Rattle.command_words.specs.declared.words.Words.TheVariants.{Run, List as Listing, Gen}

-- the text behind a reference that may be there
abbrev pub text_of : Option (Bor (List ℕ)) → Option (List ℕ)
text_of = option_map (λ s. s.now)

-- the values that were given
abbrev pub view_of : Given → asks.Given
view_of g = record {
  action = text_of g.action;
  folder = text_of g.folder;
  script = text_of g.script;
  netlist = text_of g.netlist;
  budget = text_of g.budget;
  size = text_of g.size;
}

-- what is asked for
abbrev pub meaning_of : Words → Reading
meaning_of (Run folder script netlist budget) = asks.run folder.now script.now (text_of netlist) budget
meaning_of (Listing folder) = asks.list folder.now
meaning_of (Gen folder size budget) = asks.gen folder.now size budget
