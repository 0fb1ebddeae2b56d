-- What reading a text leaves, and what was read.
use Rattle.std.specs.Prelude.{◌≡◌, ℕ, ◌+◌, ◌≤◌, List, take, Some}
use Rattle.shelf_model.specs.World.{World, now}
use Rattle.shelf_model.specs.Moments.{Throughout}
use Rattle.shelf_model.specs.Faults.{Faults}

-- nothing was said, no file changed, and no folder was reached for
pub record OnlyFetched (old new : World) : Type 0 where
  pub moments : Throughout old new (λ m. m ≡ now old)
  pub texts_are : new.texts ≡ old.texts
  pub home_is : new.home ≡ old.home
  pub inside_is : new.inside ≡ old.inside
  pub strays_are : new.strays ≡ old.strays

-- the bytes are those of the text at the path, up to one byte past the most that is wanted
pub record IsText (path : List ℕ) (most : ℕ) (bytes : List ℕ) (w : World) : Type 0 where
  pub text : List ℕ
  pub there : w.texts path ≡ Some text
  pub bytes_are : bytes ≡ take (most + 1) text

-- only counts of texts rose
pub record OnlyTexts (old new : Faults) : Type 0 where
  pub folder_is : new.folder ≡ old.folder
  pub say_is : new.say ≡ old.say
  pub text_later : (path : List ℕ) → old.text path ≤ new.text path
