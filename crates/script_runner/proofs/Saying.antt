-- Saying a text in pieces.
use Rattle.std.proofs.Common.{◌≡◌, ◌∙◌, ℕ, ◌+◌, ◌<◌, Bool, List, [], ◌∷◌, ◌++◌, length, get_or, take, drop, refl, sym, ap, subst, append_assoc}
use Rattle.std.specs.Prelude.{Result, Ok, Err, OnOk}
use Rattle.std.specs.List.{flat_map}
use Rattle.std.proofs.lemmas.List.{append-nil, take-append-drop, drop_more, take_more}
use Rattle.std.proofs.lemmas.Grind.{flat_map-append}
use Rattle.shelf_model.specs.declared.fault.Failed.{Failed}
use Rattle.shelf_model.specs.World.{World, now, said}
use Rattle.shelf_model.specs.Calls.{Told, Said, Elsewhere}
use Rattle.shelf_model.proofs.Runs.{stands, goes_on, at_end, told, told_then, told_here}
use Rattle.diagram_list.specs.Saying.{SaysFront, IsSaying, StaysThere}
use Rattle.script_runner.specs.Running.{SaysOnly}
use Rattle.diagram_list.proofs.SayingLaws.{says_nothing, stays_then}

-- a text that is a list of lines, up to a line, that line, and the rest
pub text_at : {X : Type 0} (f : X → List ℕ) (xs : List X) (i : ℕ) (d : X) → i < length xs
    → flat_map f xs ≡ flat_map f (take i xs) ++ (f (get_or xs i d) ++ flat_map f (drop (i + 1) xs))
text_at f xs i d within =
    ap (flat_map f) (sym (take-append-drop i xs)) ∙ flat_map-append f (take i xs) (drop i xs)
    ∙ ap (λ ys. flat_map f (take i xs) ++ flat_map f ys) (drop_more xs i d within)

-- after what was done, a front part of the next piece
pub says_more : (before text done front rest bytes : List ℕ) → text ≡ done ++ (front ++ rest) → bytes ≡ (before ++ done) ++ front → SaysFront before text bytes
says_more before text done front rest bytes parts saying = record {
  front = done ++ front;
  rest = rest;
  text_is = parts ∙ sym (append_assoc done front rest);
  said_is = saying ∙ append_assoc before done front;
}

-- a station that says a text stays where it is
pub says_there : (text : List ℕ) (old new : World) → SaysOnly text old new → StaysThere old new
says_there text old new says = record { texts_are = says.texts_are; home_is = says.home_is; inside_is = says.inside_is; strays_are = λ inside. says.strays_are }

-- and so it does behind other calls
pub stays_and_says : (text : List ℕ) (old mid new : World) → StaysThere old mid → SaysOnly text mid new → StaysThere old new
stays_and_says text old mid new stays says = stays_then old mid new stays (says_there text mid new says)

-- the run so far, and what it said
abbrev pub SoFar : (text done : List ℕ) (old new : World) → Type 0
SoFar text done old new = SaysOnly text old new × (said new ≡ said old ++ done)

says_then : (text : List ℕ) (old mid new : World) → SaysOnly text old mid → Elsewhere mid new → SaysFront (said old) text (said new) → SaysOnly text old new
says_then text old mid new run call front = record {
  moments = goes_on old mid new (IsSaying text (now old)) run.moments call.ticks
      (record { says = front; folder_is = call.folder_is ∙ (at_end old mid (IsSaying text (now old)) run.moments).folder_is });
  texts_are = call.texts_are ∙ run.texts_are;
  home_is = call.home_is ∙ run.home_is;
  inside_is = call.inside_is ∙ run.inside_is;
  strays_are = call.strays_are ∙ run.strays_are;
}

pub said_piece : (text done piece more : List ℕ) (result : Result Unit Failed) (old mid new : World) → text ≡ done ++ (piece ++ more)
    → SoFar text done old mid → Said piece result mid new → SaysOnly text old new × OnOk result (said new ≡ said old ++ (done ++ piece))
said_piece text done piece more (Ok x) old mid new parts so_far did =
    let saying : said new ≡ (said old ++ done) ++ piece = did.ok ∙ ap (λ bytes. bytes ++ piece) so_far.1 in (
      says_then text old mid new so_far.0 did.elsewhere (says_more (said old) text done piece more (said new) parts saying),
      saying ∙ append_assoc (said old) done piece,
    )
said_piece text done piece more (Err e) old mid new parts so_far did =
    let front : List ℕ = did.failed.0 in
    let rest : List ℕ = did.failed.1 in
    let piece_is : piece ≡ front ++ rest = did.failed.2 in
    let saying : said new ≡ (said old ++ done) ++ front = did.failed.3 ∙ ap (λ bytes. bytes ++ front) so_far.1 in
    let whole : text ≡ done ++ (front ++ (rest ++ more)) =
    parts ∙ ap (λ p. done ++ (p ++ more)) piece_is ∙ ap (λ q. done ++ q) (append_assoc front rest more) in
    (says_then text old mid new so_far.0 did.elsewhere (says_more (said old) text done front (rest ++ more) (said new) whole saying), tt)

-- one piece by itself
pub one_piece : (piece : List ℕ) (result : Result Unit Failed) (old new : World) → Said piece result old new → SaysOnly piece old new × OnOk result (said new ≡ said old ++ piece)
one_piece piece result old new did =
    said_piece piece [] piece [] result old old new (sym (append-nil piece)) (
      record {
        moments = stands old (IsSaying piece (now old)) (record { says = says_nothing (said old) piece (said old) refl; folder_is = refl });
        texts_are = refl;
        home_is = refl;
        inside_is = refl;
        strays_are = refl;
      },
      sym (append-nil (said old)),
    ) did

module _ {S : Type 0} (tells : S → Bool) (world : S → World) where
  pub saying_at_first : (text : List ℕ) (s : S) → Told tells s s (SoFar text [] (world s) (world s))
  saying_at_first text s = told_here tells s _ (λ _. (
    record {
      moments = stands (world s) (IsSaying text (now (world s))) (record { says = says_nothing (said (world s)) text (said (world s)) refl; folder_is = refl });
      texts_are = refl;
      home_is = refl;
      inside_is = refl;
      strays_are = refl;
    },
    sym (append-nil (said (world s))),
  ))

  -- one piece more is said, or a front part of it
  pub saying_on : (text done piece more : List ℕ) (result : Result Unit Failed) (old s t : S) → text ≡ done ++ (piece ++ more)
      → Told tells old s (SoFar text done (world old) (world s)) → Told tells s t (Said piece result (world s) (world t))
      → Told tells old t (SaysOnly text (world old) (world t) × OnOk result (said (world t) ≡ said (world old) ++ (done ++ piece)))
  saying_on text done piece more result old s t parts so_far call =
      told_then tells old s t _ _ _ so_far call (λ _ a b. said_piece text done piece more result (world old) (world s) (world t) parts a b)

  -- one line more of a list of lines
  pub saying_line : {X : Type 0} (f : X → List ℕ) (xs : List X) (i : ℕ) (d : X) (piece : List ℕ) (result : Result Unit Failed) (old s t : S)
      → i < length xs → piece ≡ f (get_or xs i d)
      → Told tells old s (SoFar (flat_map f xs) (flat_map f (take i xs)) (world old) (world s)) → Told tells s t (Said piece result (world s) (world t))
      → Told tells old t (SaysOnly (flat_map f xs) (world old) (world t) × OnOk result (said (world t) ≡ said (world old) ++ flat_map f (take (i + 1) xs)))
  saying_line f xs i d piece result old s t within piece_is so_far call =
      let parts : flat_map f xs ≡ flat_map f (take i xs) ++ (piece ++ flat_map f (drop (i + 1) xs)) =
      text_at f xs i d within ∙ ap (λ p. flat_map f (take i xs) ++ (p ++ flat_map f (drop (i + 1) xs))) (sym piece_is) in
      let more : flat_map f (take i xs) ++ piece ≡ flat_map f (take (i + 1) xs) =
      ap (λ p. flat_map f (take i xs) ++ p) (piece_is ∙ sym (append-nil (f (get_or xs i d))))
      ∙ sym (ap (flat_map f) (take_more xs i d within) ∙ flat_map-append f (take i xs) (get_or xs i d ∷ [])) in
      subst (λ done. Told tells old t (SaysOnly (flat_map f xs) (world old) (world t) × OnOk result (said (world t) ≡ said (world old) ++ done))) more
      (saying_on (flat_map f xs) (flat_map f (take i xs)) piece (flat_map f (drop (i + 1) xs)) result old s t parts so_far call)

  -- the first of two facts
  pub told_first : (X Y : Type 0) (old t : S) → Told tells old t (X × Y) → Told tells old t X
  told_first X Y old t both = told tells old t (X × Y) X both (λ _ b. b.0)

  -- and the second
  pub told_second : (X Y : Type 0) (old t : S) → Told tells old t (X × Y) → Told tells old t Y
  told_second X Y old t both = told tells old t (X × Y) Y both (λ _ b. b.1)
