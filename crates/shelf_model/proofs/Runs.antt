-- How runs of calls begin, go on and join.
use Rattle.std.proofs.Common.{◌≡◌, ℕ, ◌+◌, ◌≤◌, Bool, List, refl, sym, subst, ◌∙◌, inl, inr, arith}
use Rattle.std.specs.Prelude.{IsTrue, Result, Ok, Err}
use Rattle.std.proofs.lemmas.Bool.{cases_lt}
use Rattle.shelf_model.specs.declared.fault.Failed.{Failed}
use Rattle.shelf_model.specs.Folder.{Image}
use Rattle.shelf_model.specs.World.{Moment, World, now}
use Rattle.shelf_model.specs.Calls.{Told, Ticks, SameStation, OnShelf}
use Rattle.shelf_model.specs.Faults.{Faults, OnlyFolder}
use Rattle.shelf_model.specs.Moments.{Left, Throughout, InEveryImage, Quiet, Ran}

-- a run without a call
pub stands : (w : World) (P : Moment → Type 0) → P (now w) → Throughout w w P
stands w P here = record {
  later = omega arith;
  past = λ k _. refl;
  each = λ k from to. let same : k ≡ w.clock = omega (arith, from, to) in subst (λ i. P (w.moment i)) (sym same) here;
}

-- a run of two parts
pub joins : (old mid new : World) (P : Moment → Type 0) → Throughout old mid P → Throughout mid new P → Throughout old new P
joins old mid new P first second =
    let before : old.clock ≤ mid.clock = first.later in
    let after : mid.clock ≤ new.clock = second.later in
    record {
      later = omega arith;
      past = λ k within. let earlier : k ≤ mid.clock = omega (arith, within) in second.past k earlier ∙ first.past k within;
      each = λ k from to. elim (cases_lt mid.clock k) [
        | inl beyond ↦ let since : mid.clock ≤ k = omega (arith, beyond) in second.each k since to
        | inr until ↦ subst P (sym (second.past k until)) (first.each k from until)
      ];
    }

-- one call is a run
pub one_call : (old new : World) (P : Moment → Type 0) → Ticks old new → P (now old) → P (now new) → Throughout old new P
one_call old new P ticks before after =
    let clock : new.clock ≡ old.clock + 1 = ticks.clock_is in
    record {
      later = omega arith;
      past = ticks.past;
      each = λ k from to. elim (cases_lt old.clock k) [
        | inl beyond ↦ let same : k ≡ new.clock = omega (arith, beyond, to) in subst (λ i. P (new.moment i)) (sym same) after
        | inr until ↦ let same : k ≡ old.clock = omega (arith, from, until) in
            subst P (sym (ticks.past k until)) (subst (λ i. P (old.moment i)) (sym same) before)
      ];
    }

-- P holds where a run began and where it ended
pub at_end : (old new : World) (P : Moment → Type 0) → Throughout old new P → P (now new)
at_end old new P run = run.each new.clock run.later (omega arith)

pub at_start : (old new : World) (P : Moment → Type 0) → Throughout old new P → P (now old)
at_start old new P run =
    let begin : old.clock ≤ old.clock = omega arith in
    subst P (run.past old.clock begin) (run.each old.clock begin run.later)

-- one call more
pub goes_on : (old mid new : World) (P : Moment → Type 0) → Throughout old mid P → Ticks mid new → P (now new) → Throughout old new P
goes_on old mid new P run ticks after = joins old mid new P run (one_call mid new P ticks (at_end old mid P run) after)

-- a weaker fact
pub weakens : (old new : World) (P Q : Moment → Type 0) → ((m : Moment) → P m → Q m) → Throughout old new P → Throughout old new Q
weakens old new P Q follows run = record {
  later = run.later;
  past = run.past;
  each = λ k from to. follows (new.moment k) (run.each k from to);
}

-- what holds of every image throughout holds of each that a stop may have left since
pub left_has : (old new : World) (t : ℕ) (P : List ℕ → Image → Type 0) (bytes : List ℕ) (image : Image)
    → Throughout old new (InEveryImage P) → old.clock ≤ t → Left new t bytes image → P bytes image
left_has old new t P bytes image run since left =
    let from : old.clock ≤ left.at = let begins : t ≤ left.at = left.since in omega (arith, since) in
    subst (λ s. P s image) left.said_then (run.each left.at from left.until image left.image_then)

pub same_station : (w : World) → SameStation w w
same_station w = record { said_is = refl; texts_are = refl; home_is = refl; inside_is = refl; strays_are = λ _. refl }

pub same_station_then : (old mid new : World) → SameStation old mid → SameStation mid new → SameStation old new
same_station_then old mid new first second = record {
  said_is = second.said_is ∙ first.said_is;
  texts_are = second.texts_are ∙ first.texts_are;
  home_is = second.home_is ∙ first.home_is;
  inside_is = second.inside_is ∙ first.inside_is;
  strays_are = λ inside. second.strays_are (subst IsTrue (sym first.inside_is) inside) ∙ first.strays_are inside;
}

-- the same of runs of the shelf
pub ran_stands : (w : World) (P : Moment → Type 0) → P (now w) → Ran P w w
ran_stands w P here = record { moments = stands w (Quiet (now w).said P) (record { said_is = refl; holds = here }); station = same_station w }

said_before : (old mid new : World) (P : Moment → Type 0) → SameStation old mid → Throughout mid new (Quiet (now mid).said P) → Throughout mid new (Quiet (now old).said P)
said_before old mid new P same run =
    weakens mid new (Quiet (now mid).said P) (Quiet (now old).said P) (λ m quiet. record { said_is = quiet.said_is ∙ same.said_is; holds = quiet.holds }) run

pub ran_joins : (old mid new : World) (P : Moment → Type 0) → Ran P old mid → Ran P mid new → Ran P old new
ran_joins old mid new P first second = record {
  moments = joins old mid new (Quiet (now old).said P) first.moments (said_before old mid new P first.station second.moments);
  station = same_station_then old mid new first.station second.station;
}

pub ran_call : (old new : World) (P : Moment → Type 0) → OnShelf old new → P (now old) → P (now new) → Ran P old new
ran_call old new P call before after = record {
  moments = one_call old new (Quiet (now old).said P) call.ticks
      (record { said_is = refl; holds = before }) (record { said_is = call.station.said_is; holds = after });
  station = call.station;
}

pub ran_end : (old new : World) (P : Moment → Type 0) → Ran P old new → P (now new)
ran_end old new P run = (at_end old new (Quiet (now old).said P) run.moments).holds

pub ran_start : (old new : World) (P : Moment → Type 0) → Ran P old new → P (now old)
ran_start old new P run = (at_start old new (Quiet (now old).said P) run.moments).holds

pub ran_on : (old mid new : World) (P : Moment → Type 0) → Ran P old mid → OnShelf mid new → P (now new) → Ran P old new
ran_on old mid new P run call after = ran_joins old mid new P run (ran_call mid new P call (ran_end old mid P run) after)

pub ran_weakens : (old new : World) (P Q : Moment → Type 0) → ((m : Moment) → P m → Q m) → Ran P old new → Ran Q old new
ran_weakens old new P Q follows run = record {
  moments = weakens old new (Quiet (now old).said P) (Quiet (now old).said Q) (λ m quiet. record { said_is = quiet.said_is; holds = follows m quiet.holds }) run.moments;
  station = run.station;
}

-- what follows from what a call did
pub told : {S : Type 0} (tells : S → Bool) (old new : S) (X Y : Type 0) → Told tells old new X → (IsTrue (tells old) → X → Y) → Told tells old new Y
told tells old new X Y did follows = record { before = did.before; did = λ tells_new. follows (did.before tells_new) (did.did tells_new) }

-- what follows from two calls, one after the other
pub told_then : {S : Type 0} (tells : S → Bool) (old mid new : S) (X Y Z : Type 0) → Told tells old mid X → Told tells mid new Y → (IsTrue (tells old) → X → Y → Z) → Told tells old new Z
told_then tells old mid new X Y Z first second follows = record {
  before = λ tells_new. first.before (second.before tells_new);
  did = λ tells_new. let tells_mid : IsTrue (tells mid) = second.before tells_new in
      follows (first.before tells_mid) (first.did tells_mid) (second.did tells_new);
}

-- no call was made
pub told_here : {S : Type 0} (tells : S → Bool) (s : S) (X : Type 0) → (IsTrue (tells s) → X) → Told tells s s X
told_here tells s X here = record { before = λ t. t; did = here }

-- a run of calls of the shelf goes on by one, to a fact of its own
pub call_on : {S : Type 0} (tells : S → Bool) (world : S → World) (P : Moment → Type 0) (Before After : World → Type 0) (old s t : S) (X : Type 0)
    → Told tells old s (Ran P (world old) (world s) × Before (world s)) → Told tells s t X → (X → OnShelf (world s) (world t))
    → (IsTrue (tells old) → Before (world s) → X → P (now (world t)) × After (world t))
    → Told tells old t (Ran P (world old) (world t) × After (world t))
call_on tells world P Before After old s t X so_far call on_shelf follows =
    told_then tells old s t (Ran P (world old) (world s) × Before (world s)) X (Ran P (world old) (world t) × After (world t)) so_far call
    (λ tells_old before did. let then : P (now (world t)) × After (world t) = follows tells_old before.1 did in
    (ran_on (world old) (world s) (world t) P before.0 (on_shelf did) then.0, then.1))

-- the same over a run of the crate below, whose own fact is Q
pub run_on : {S : Type 0} (tells : S → Bool) (world : S → World) (P Q : Moment → Type 0) (Before After : World → Type 0) (old s t : S)
    → Told tells old s (Ran P (world old) (world s) × Before (world s)) → Told tells s t (Ran Q (world s) (world t))
    → (IsTrue (tells old) → Before (world s) → (m : Moment) → Q m → P m)
    → (IsTrue (tells old) → Before (world s) → Q (now (world t)) → After (world t))
    → Told tells old t (Ran P (world old) (world t) × After (world t))
run_on tells world P Q Before After old s t so_far run weaker follows =
    told_then tells old s t (Ran P (world old) (world s) × Before (world s)) (Ran Q (world s) (world t)) (Ran P (world old) (world t) × After (world t)) so_far run
    (λ tells_old before did. (
      ran_joins (world old) (world s) (world t) P before.0 (ran_weakens (world s) (world t) Q P (weaker tells_old before.1) did),
      follows tells_old before.1 (ran_end (world s) (world t) Q did),
    ))

pub ran_alone : {S : Type 0} (tells : S → Bool) (world : S → World) (P : Moment → Type 0) (Before : World → Type 0) (old s : S)
    → Told tells old s (Ran P (world old) (world s) × Before (world s)) → Told tells old s (Ran P (world old) (world s))
ran_alone tells world P Before old s so_far =
    told tells old s (Ran P (world old) (world s) × Before (world s)) (Ran P (world old) (world s)) so_far (λ _ both. both.0)

-- counts over two calls, the second of which decides
pub only_folder_then : {T : Type 0} (old mid new : Faults) (result : Result T Failed) → OnlyFolder {T = Unit} old mid (Ok tt) → OnlyFolder mid new result → OnlyFolder old new result
only_folder_then old mid new (Ok x) first second = record {
  later = let a : old.folder ≤ mid.folder = first.later in let b : mid.folder ≤ new.folder = second.later in omega arith;
  cause = tt;
  say_is = second.say_is ∙ first.say_is;
  text_is = λ path. second.text_is path ∙ first.text_is path;
}
only_folder_then old mid new (Err e) first second = record {
  later = let a : old.folder ≤ mid.folder = first.later in let b : mid.folder ≤ new.folder = second.later in omega arith;
  cause = let a : old.folder ≤ mid.folder = first.later in let b = second.cause in omega (arith, b);
  say_is = second.say_is ∙ first.say_is;
  text_is = λ path. second.text_is path ∙ first.text_is path;
}
