-- Fronts of texts, and a station that stays where it is.
use Rattle.std.proofs.Common.{◌≡◌, ◌∙◌, ℕ, List, [], ◌++◌, refl, sym, ap, subst, append_assoc}
use Rattle.std.specs.Prelude.{IsTrue}
use Rattle.std.proofs.lemmas.List.{append-nil}
use Rattle.shelf_model.specs.World.{World}
use Rattle.shelf_model.specs.Calls.{SameStation}
use Rattle.diagram_list.specs.Saying.{SaysFront, StaysThere}

-- nothing was said yet
pub says_nothing : (before text bytes : List ℕ) → bytes ≡ before → SaysFront before text bytes
says_nothing before text bytes same = record { front = []; rest = text; text_is = refl; said_is = same ∙ sym (append-nil before) }

-- a front of a text is one of a longer text
pub longer_front : (before text more bytes : List ℕ) → SaysFront before text bytes → SaysFront before (text ++ more) bytes
longer_front before text more bytes says = record {
  front = says.front;
  rest = says.rest ++ more;
  text_is = ap (λ t. t ++ more) says.text_is ∙ append_assoc says.front says.rest more;
  said_is = says.said_is;
}

-- a front of what follows a text that was said
pub later_front : (before text more mid bytes : List ℕ) → mid ≡ before ++ text → SaysFront mid more bytes → SaysFront before (text ++ more) bytes
later_front before text more mid bytes so_far says = record {
  front = text ++ says.front;
  rest = says.rest;
  text_is = ap (λ t. text ++ t) says.text_is ∙ sym (append_assoc text says.front says.rest);
  said_is = says.said_is ∙ ap (λ b. b ++ says.front) so_far ∙ append_assoc before text says.front;
}

-- no call was made
pub stays_here : (w : World) → StaysThere w w
stays_here w = record { texts_are = refl; home_is = refl; inside_is = refl; strays_are = λ inside. refl }

-- calls of the folder were made
pub stays_on_shelf : (old new : World) → SameStation old new → StaysThere old new
stays_on_shelf old new same = record { texts_are = same.texts_are; home_is = same.home_is; inside_is = same.inside_is; strays_are = same.strays_are }

-- and more calls
pub stays_then : (old mid new : World) → StaysThere old mid → StaysThere mid new → StaysThere old new
stays_then old mid new first second = record {
  texts_are = second.texts_are ∙ first.texts_are;
  home_is = second.home_is ∙ first.home_is;
  inside_is = second.inside_is ∙ first.inside_is;
  strays_are = λ inside. second.strays_are (subst IsTrue (sym first.inside_is) inside) ∙ first.strays_are inside;
}
