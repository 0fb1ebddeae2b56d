-- What saying a text leaves.
use Rattle.std.specs.Prelude.{◌≡◌, ℕ, IsTrue, List, ◌++◌}
use Rattle.shelf_model.specs.World.{Moment, World}

-- after what was said before, a front part of the text was said
pub record SaysFront (before text bytes : List ℕ) : Type 0 where
  pub front : List ℕ
  pub rest : List ℕ
  pub text_is : text ≡ front ++ rest
  pub said_is : bytes ≡ before ++ front

-- a moment at which a front part of the text was said, and the files are as they were
pub record IsSaying (text : List ℕ) (old m : Moment) : Type 0 where
  pub says : SaysFront old.said text m.said
  pub folder_is : m.folder ≡ old.folder

-- but for its files and what was said the station is as it was; it strays no more where it is inside its folder
pub record StaysThere (old new : World) : Type 0 where
  pub texts_are : new.texts ≡ old.texts
  pub home_is : new.home ≡ old.home
  pub inside_is : new.inside ≡ old.inside
  pub strays_are : IsTrue old.inside → new.strays ≡ old.strays
