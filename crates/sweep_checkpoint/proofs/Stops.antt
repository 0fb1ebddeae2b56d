-- What a stop costs while a step goes on, over runs of calls.
use Rattle.std.proofs.Common.{◌≡◌, ◌⊎◌, ℕ, ◌+◌, ◌-◌, ◌*◌, ◌/◌, ◌^◌, ◌<◌, ◌≤◌, max, List, refl, subst, inl, inr, mul-le-mul_right, arith}
use Rattle.std.proofs.lemmas.Bool.{cases_lt}
use Rattle.shelf_model.specs.declared.file_no.FileNo.{FileNo}
use Rattle.shelf_model.specs.Folder.{Folder, Image, bytes_in, IsImage, AreFiles}
use Rattle.shelf_model.specs.World.{Moment, World, now}
use Rattle.shelf_model.specs.Moments.{Throughout}
use Rattle.run_tiers.specs.Parts.{Paid}
use Rattle.sweep_core.specs.declared.turn.Turn.{Turn}
use Rattle.sweep_core.specs.declared.turn.Turn.TheVariants.{More, Ended}
use Rattle.sweep_core.specs.Counted.{AreAll}
use Rattle.sweep_core.specs.Accounts.{Accounts}
use Rattle.sweep_checkpoint.specs.Saves.{IsGateSure}
use Rattle.sweep_checkpoint.specs.Retires.{first_taken}
use Rattle.sweep_checkpoint.specs.declared.going.Going.{Going}
use Rattle.sweep_checkpoint.specs.Going.{interval_of, first_owed, TakesParts, TakesCalls}
use Rattle.sweep_checkpoint.specs.Stops.{SamePoints, ShowsAsBefore, IsStop, AreStops, ImagesShow, stop_calls}
use Rattle.sweep_checkpoint.proofs.Shown.{gate_same, shows_same, show_then, images_show, images_show_then, images_show_same, AreShown}
use Rattle.sweep_checkpoint.proofs.Spent.{SpentOn, owed_late, calls_save, calls_turns}

-- no call was made
pub stops_none : (step shown most : ℕ) (w : World) → w.clock ≤ most → AreStops step shown most w w
stops_none step shown most w calls = λ k from to image is_image.
    let same : k ≡ w.clock = omega (arith, from, to) in
    inl (
      record { before = image; is_image = subst (λ i. IsImage (w.moment i).folder image) same is_image; same = refl },
      omega (arith, to, calls),
    )

-- what one of an earlier folder shows, or what was said then
pub stop_then : (step first shown most k : ℕ) (old mid : Folder) (r : FileNo → List ℕ)
    → k ≤ most + 229 * (shown - first) → ImagesShow step first shown old mid → ShowsAsBefore step mid r
    → IsStop step old first most k r
stop_then step first shown most k old mid r calls so_far shows =
    elim (show_then step first shown old mid r so_far shows) [
      | inl was ↦ let same = was.1 in inl (was.0, omega (arith, calls, same))
      | inr is ↦ let shows = is.0 in let more = is.1 in inr (omega (arith, shows, more), omega (arith, shows, calls))
    ]

-- one run of calls after another: while the checkpoints stay, and while the sweep is saved
module _ (step first shown most : ℕ) (old mid new : World)
    (so_far : ImagesShow step first shown (now old).folder (now mid).folder)
    (stops : AreStops step first most old mid) where
  stops_then : ((k : ℕ) → k ≤ mid.clock → new.moment k ≡ mid.moment k)
      → ((k : ℕ) → mid.clock ≤ k → k ≤ new.clock → (image : Image) → IsImage (new.moment k).folder image
      → IsStop step (now old).folder first most k (bytes_in image))
      → AreStops step first most old new
  stops_then past then = λ k from to image is_image. elim (cases_lt mid.clock k) [
    | inl beyond ↦ then k (omega (arith, beyond)) to image is_image
    | inr until ↦ stops k from until image (subst (λ (m : Moment). IsImage m.folder image) (past k until) is_image)
  ]

  pub stops_same : AreFiles (now mid).folder → new.clock ≤ most + 229 * (shown - first)
      → Throughout mid new (λ (m : Moment). SamePoints step (now mid).folder m.folder)
      → AreStops step first most old new
  stops_same mid_files calls run = stops_then run.past (λ k from to image is_image.
      stop_then step first shown most k (now old).folder (now mid).folder (bytes_in image)
      (omega (arith, to, calls)) so_far
      (shows_same step (now mid).folder (new.moment k).folder image mid_files (run.each k from to) is_image))

  pub stops_shown : (turns : ℕ) → first ≤ shown → shown ≤ turns → new.clock ≤ most + 229 * (shown - first)
      → Throughout mid new (AreShown step turns (now mid).folder)
      → AreStops step first most old new
  stops_shown turns least late calls run =
      stops_then run.past (λ k from to image is_image. elim (run.each k from to image is_image) [
        | inl was ↦ stop_then step first shown most k (now old).folder (now mid).folder (bytes_in image)
            (omega (arith, to, calls)) so_far was
        | inr is ↦ inr (omega (arith, is, least, late), omega (arith, is, late, to, calls))
      ])

-- turns of an interval that no checkpoint shows yet, and saves that show 16,384 turns or more each: what they take
pub few_stops : (interval since first shown turns saves next later stock left first_part clock at credit rest : ℕ)
    → 16384 ≤ interval → interval ≤ 65536
    → 16384 * saves + first ≤ shown → turns ≤ (shown - first) + (interval - since)
    → 256 * (later - next) + left ≤ stock + (12 * turns + 4608 * (saves + 1))
    → at + rest ≤ clock + credit + (224 * turns + 66126 * (saves + 1) + (later - first_part))
    → at ≤ clock + (credit + ((next - first_part) + stock / 256) + 224 * (interval - since) + 2 ^ 17)
    + 229 * (shown - first)
few_stops interval since first shown turns saves next later stock left first_part clock at credit rest often seldom
    spaced few parts calls = omega arith

-- turns that were made, of so many that were to be
pub all_few : (most turns : ℕ) (turn : Turn) → AreAll most turns turn → turns ≤ most
all_few most turns More all = omega (arith, all)
all_few most turns Ended all = all.1

-- once turns were made behind a save that was looked for: no more than an interval of them that no checkpoint shows
pub few_unshown : (interval first began turns shown made most : ℕ) → 0 < interval → first ≤ began → began ≤ turns
    → first ≤ shown → shown ≤ turns
    → (turns - shown < interval) ⊎ (shown ≡ turns) → made ≤ most → most ≡ max (interval - (turns - shown)) 1
    → (turns - began) + made ≤ (shown - first) + (interval - (began - first))
few_unshown interval first began turns shown made most some early grew least late (inl short) few chosen = omega arith
few_unshown interval first began turns shown made most some early grew least late (inr saved) few chosen = omega arith

-- what images show since then, and what is said of it: nothing was done, a save was looked for, and turns were made
pub record ShownOn (step first shown : ℕ) (old at : Folder) : Type 0 where
  pub sure : IsGateSure step at
  pub least : first ≤ shown
  pub images : ImagesShow step first shown old at

pub shown_on_none : (step shown : ℕ) (folder : Folder) → IsGateSure step folder → ShownOn step shown shown folder folder
shown_on_none step shown folder sure =
    record { sure = sure; least = omega arith; images = images_show step shown folder }

pub shown_on_save : (s step first shown last : ℕ) (old at new : Folder) → s ≡ step → shown ≤ last
    → ShownOn step first shown old at
    → (IsGateSure s at → IsGateSure s new × ImagesShow s shown last at new) → ShownOn step first last old new
shown_on_save s step first shown last old at new step_is grew on then =
    let both : IsGateSure step new × ImagesShow step shown last at new =
    subst (λ k. IsGateSure k at → IsGateSure k new × ImagesShow k shown last at new) step_is then on.sure in
    record {
      sure = both.0;
      least = let least = on.least in omega (arith, least, grew);
      images = images_show_then step first shown last old at new on.least on.images both.1;
    }

pub shown_on_same : (step first shown : ℕ) (old at new : Folder) → AreFiles at → SamePoints step at new
    → ShownOn step first shown old at → ShownOn step first shown old new
shown_on_same step first shown old at new at_files same on = record {
  sure = gate_same step at new same on.sure;
  least = on.least;
  images = images_show_same step first shown old at new at_files on.images same;
}

-- the calls up to a save, with it, and up to the turns behind it
module _ {P : Type 0} (accounts : Accounts P) (going mid : Going) (told_mid told : Type 0) (start at end : World)
    (p q r : P) (turns : ℕ) (often : 16384 ≤ interval_of going.budget)
    (one : accounts.next p ≤ accounts.next q) (two : accounts.next q ≤ accounts.next r) (before : told → told_mid)
    (s : SpentOn accounts (interval_of going.budget) (first_owed going.last (accounts.next p)) going.shown turns mid
    told_mid start at p q) (is : told) where
  pub save_stop : turns ≤ (mid.shown - going.shown) + (interval_of going.budget - (going.turns - going.shown))
      → TakesParts accounts 0 1 q r → (told → TakesCalls accounts 0 1 (first_taken mid.last) at end q r)
      → end.clock ≤ start.clock + stop_calls accounts going p + 229 * (mid.shown - going.shown)
  save_stop few parts costs =
      let spaced = s.spaced in
      let wide : 16384 * s.saves ≤ interval_of going.budget * s.saves = mul-le-mul_right s.saves often in
      let spent = s.takes.spent in
      let now = parts.spent in
      let calls = (calls_save accounts (interval_of going.budget) (first_owed going.last (accounts.next p))
      going.shown turns turns mid told_mid told start at end p q r
      (owed_late going.last (accounts.next p)) (omega arith) two before s costs is).paid in
      few_stops (interval_of going.budget) (going.turns - going.shown) going.shown mid.shown turns s.saves
      (accounts.next p) (accounts.next r) (accounts.stock p) (accounts.stock r)
      (first_owed going.last (accounts.next p)) start.clock end.clock (accounts.credit p) (accounts.credit r) often
      (omega arith) (omega (arith, spaced, wide)) few
      (omega (arith, spent, now, one, two)) (omega (arith, calls))

  pub turns_stop : (made : ℕ)
      → turns + made ≤ (mid.shown - going.shown) + (interval_of going.budget - (going.turns - going.shown))
      → 256 * (accounts.next r - accounts.next q) + accounts.stock r ≤ accounts.stock q + 12 * made
      → (told → Paid (224 * made) (accounts.credit q) (accounts.credit r) at end)
      → end.clock ≤ start.clock + stop_calls accounts going p + 229 * (mid.shown - going.shown)
  turns_stop made few parts costs =
      let spaced = s.spaced in
      let wide : 16384 * s.saves ≤ interval_of going.budget * s.saves = mul-le-mul_right s.saves often in
      let spent = s.takes.spent in
      let calls = (calls_turns accounts (interval_of going.budget) (first_owed going.last (accounts.next p))
      going.shown turns made (turns + made) mid told_mid told start at end p q r
      (owed_late going.last (accounts.next p)) (omega arith) two before s costs is).paid in
      few_stops (interval_of going.budget) (going.turns - going.shown) going.shown mid.shown (turns + made) s.saves
      (accounts.next p) (accounts.next r) (accounts.stock p) (accounts.stock r)
      (first_owed going.last (accounts.next p)) start.clock end.clock (accounts.credit p) (accounts.credit r) often
      (omega arith) (omega (arith, spaced, wide)) few
      (omega (arith, spent, parts, one, two)) (omega (arith, calls))
