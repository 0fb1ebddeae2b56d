-- Tables that are blank but for a few entries.
use Rattle.std.proofs.Common.{◌≡◌, ℕ, ◌<◌, List, [], length, replicate, refl, sym, ◌∙◌, subst}
use Rattle.std.proofs.lemmas.List.{ext_get_or, get_or-replicate, length-replicate}
use Rattle.depth_first.specs.Tables.{IsBlankBut}

-- where no entry may be other, all are blank
pub blank_all : {X : Type 0} (blank : X) (table : List X) (n : ℕ) → length table ≡ n
    → IsBlankBut [] blank table → table ≡ replicate n blank
blank_all blank table n size others =
    ext_get_or blank table (replicate n blank) (size ∙ sym (length-replicate n blank))
    (λ i lt. others i lt refl ∙ sym (get_or-replicate n i blank blank (subst (λ m. i < m) size lt)))
