-- What a stop in the middle of a step costs: while a sweep of it is begun, run and saved, and over both sweeps.
use Rattle.std.proofs.Common.{◌≡◌, ◌⊎◌, ◌∙◌, ℕ, ◌+◌, ◌-◌, ◌*◌, ◌/◌, ◌^◌, ◌<◌, ◌≤◌, Bool, IsTrue, List, ap, sym, subst, refl, inl, inr, arith}
use Rattle.std.proofs.lemmas.Bool.{cases_lt}
use Rattle.std.specs.Prelude.{Option, Some, None}
use Rattle.shelf_model.specs.declared.file_no.FileNo.{FileNo}
use Rattle.shelf_model.specs.Calls.{Ticks}
use Rattle.shelf_model.specs.Faults.{Faults}
use Rattle.shelf_model.specs.File.{File}
use Rattle.shelf_model.specs.Folder.{Folder, IsImage}
use Rattle.shelf_model.specs.Moments.{Ran, Throughout, Quiet}
use Rattle.shelf_model.specs.World.{Moment, World, now}
use Rattle.shelf_model.proofs.Runs.{weakens, at_end}
use Rattle.file_numbers.specs.Files.{checkpoint_file, checkpoint_gate}
use Rattle.sweep_checkpoint.specs.declared.going.Going.{Going}
use Rattle.sweep_checkpoint.specs.Gated.{present, last_gated}
use Rattle.sweep_checkpoint.specs.Going.{interval_of, first_owed, SameShown, IsShown}
use Rattle.sweep_checkpoint.specs.Points.{point_bytes}
use Rattle.sweep_checkpoint.specs.Saves.{IsGateSure}
use Rattle.sweep_checkpoint.specs.Stops.{turns_in, shown_by, SamePoints, AreStops, StopsCost, stop_calls}
use Rattle.sweep_checkpoint.proofs.PointTurns.{word_turns}
use Rattle.sweep_core.specs.declared.checkpoint.Checkpoint.{Checkpoint}
use Rattle.sweep_core.specs.declared.sweep.Sweep as sweep
use Rattle.sweep_core.specs.Carries.{OnlyCutBehind}
use Rattle.sweep_core.specs.Saving.{reads_of}
use Rattle.step_going.specs.Standing.{IsStanding}
use Rattle.step_going.proofs.Gated.{none_gated}
use Rattle.step_going.proofs.Shown.{ShowsSurely, shows_still, standing_shows, stops_more, stops_join, quiet_stops, saved_stops}
use Rattle.resumable.specs.Diagrams.{diagram_rests}
use Rattle.step_sweeps.specs.declared.task.Making.{Making}
use Rattle.step_sweeps.specs.Given.{Tables}
use Rattle.step_sweeps.specs.Going.{next_of, rest_calls}
use Rattle.step_sweeps.specs.Makes.{IsGivenFor, goes_on_by, operand_nodes}
use Rattle.step_sweeps.specs.Started.{Starts}
use Rattle.step_sweeps.specs.Stops.{sweeps_stop, IsSaidOf}
use Rattle.step_sweeps.specs.Sweeping.{MaySweep, IsComeToArcs, MayResume, Takes, calls_of, owed_parts}

-- while calls leave the checkpoints of a step and their gate as they were
pub along : (number : ℕ) (P : Moment → Type 0) (old new : World)
    → ((m : Moment) → P m → SamePoints number (now old).folder m.folder) → Ran P old new
    → Throughout old new (λ (m : Moment). SamePoints number (now old).folder m.folder)
along number P old new stays run = weakens old new (Quiet (now old).said P)
    (λ (m : Moment). SamePoints number (now old).folder m.folder) (λ m quiet. stays m quiet.holds) run.moments

-- as do those that rebuild a sweep
cut_points : (c : Checkpoint) (rests : FileNo → ℕ → Type 0) (old m : Moment) → OnlyCutBehind c rests old m
    → SamePoints c.step old.folder m.folder
cut_points c rests old m only = record {
  points = only.unmade (checkpoint_file c.step) (λ made. elim made.part [
    | inl nodes ↦ absurd (omega (arith, nodes))
    | inr arcs ↦ (let from = arcs.0 in absurd (omega (arith, from)))
  ]);
  gate = only.unmade (checkpoint_gate c.step) (λ made. elim made.part [
    | inl nodes ↦ absurd (omega (arith, nodes))
    | inr arcs ↦ (let from = arcs.0 in absurd (omega (arith, from)))
  ]);
}

pub along_cuts : (number : ℕ) (c : Checkpoint) (rests : FileNo → ℕ → Type 0) (old new : World) → c.step ≡ number
    → Ran (OnlyCutBehind c rests (now old)) old new
    → Throughout old new (λ (m : Moment). SamePoints number (now old).folder m.folder)
along_cuts number c rests old new is run = subst (λ k. Throughout old new
    (λ (m : Moment). SamePoints k (now old).folder m.folder)) is
    (along c.step (OnlyCutBehind c rests (now old)) old new (λ m only. cut_points c rests (now old) m only) run)

-- then what is shown is shown still
pub still_shows : (number turns : ℕ) (old new : World) → ShowsSurely number turns (now old).folder
    → Throughout old new (λ (m : Moment). SamePoints number (now old).folder m.folder)
    → ShowsSurely number turns (now new).folder
still_shows number turns old new sure same = shows_still number turns (now old).folder (now new).folder
    (at_end old new (λ (m : Moment). SamePoints number (now old).folder m.folder) same) sure

-- where a step that is given its tables stands its last checkpoint is shown
pub given_shows : (making : Making) (going : Going) (world : World) (g : Tables) → IsGivenFor making going world g
    → ShowsSurely making.number (shown_by going.last) (now world).folder
given_shows making going world g given = standing_shows (goes_on_by making g) diagram_rests making.number
    (next_of going.last) (now world).folder going.last given.standing

-- the last checkpoint of a step that comes to its sweeps shows the turns that are said, and no more where it has none
pub come_turns : (number : ℕ) (going : Going) → MaySweep number going → (c : Checkpoint) → going.last ≡ Some c
    → c.turns ≡ going.shown
come_turns number going may c last =
    let come : IsComeToArcs (Some c) going = subst (λ o. IsComeToArcs o going) last may.come_to in
    sym come.0.turns_are ∙ sym may.shown_is

pub come_shown : (number : ℕ) (going : Going) → MaySweep number going → shown_by going.last ≤ going.shown
come_shown number going may = by going.last refl
  where
    by : (o : Option Checkpoint) → going.last ≡ o → shown_by o ≤ going.shown
    by None last = omega arith
    by (Some c) last = let turns = come_turns number going may c last in omega (arith, turns)

-- where a step goes on from its last checkpoint that shows what is said
pub resumed_shown : (number : ℕ) (going : Going) → MayResume number going → shown_by going.last ≤ going.shown
resumed_shown number going may =
    let turns = may.at_point.turns_are in
    let shown = may.shown_is in
    let last : shown_by going.last ≡ may.point.turns = ap shown_by may.at_point.last_is in
    omega (arith, turns, shown, last)

-- what is said of the stops while a sweep of a kind is run and saved
abbrev pub RunStops : {P : Type 0} → sweep.Ghosts P → Going → P → World → World → Type 0
RunStops kind going s mid after = IsGateSure going.step (now mid).folder → 16384 ≤ interval_of going.budget
    → going.shown ≤ going.turns → (job : kind.Job) → kind.remains s mid job → going.turns + kind.left s mid job < 2 ^ 61
    → AreStops going.step going.shown (mid.clock + stop_calls kind.accounts going s) mid after

-- so it costs no more than its stops may, where the last checkpoint shows no more than is said
pub run_stops : {P : Type 0} (kind : sweep.Ghosts P) (number shown : ℕ) (going : Going) (s : P) (job : kind.Job)
    (mid after : World) → going.step ≡ number → ShowsSurely number shown (now mid).folder → shown ≤ going.shown
    → 16384 ≤ interval_of going.budget → going.shown ≤ going.turns → kind.remains s mid job
    → going.turns + kind.left s mid job < 2 ^ 61 → RunStops kind going s mid after
    → StopsCost number shown (mid.clock + stop_calls kind.accounts going s) mid after
run_stops kind number shown going s job mid after step_is sure less long late remains few stops =
    saved_stops number shown going.shown (mid.clock + stop_calls kind.accounts going s) mid after sure less
    (subst (λ k. AreStops k going.shown (mid.clock + stop_calls kind.accounts going s) mid after) step_is
    (stops (subst (λ k. IsGateSure k (now mid).folder) (sym step_is) sure.gate) long late job remains few))

-- what beginning it and an interval of it cost
begun_few : (credit next first stock owed interval since some rest old mid : ℕ) → next ≤ first → stock ≤ 256 * owed
    → interval ≤ 65536 → mid + credit + 2 * owed ≤ old + (some + rest)
    → mid + (credit + ((next - first) + stock / 256) + 224 * (interval - since) + 2 ^ 17)
    ≤ old + (some + (224 * 65536 + 2 ^ 17) + rest)
begun_few credit next first stock owed interval since some rest old mid none few long calls =
    omega (arith, none, few, long, calls)

-- a sweep was begun or rebuilt
module _ {S P : Type 0} (tells : S → Bool) (world : S → World) (counts : S → Faults) (kind : sweep.Ghosts P)
    (does : Tables → kind.Job → P → Type 0) (most : Tables → ℕ) (some : ℕ) (making : Making) (going : Going)
    (before mid : S) (s : P) (starts : Starts tells world counts kind does most some making going before mid s)
    (told : IsTrue (tells mid)) (g : Tables) (given : IsGivenFor making going (world before) g) where
  abbrev rest : ℕ
  rest = rest_calls going.last (operand_nodes making (reads_of (world before)))

  -- the last checkpoint is shown still
  pub begun_shows : ShowsSurely making.number (shown_by going.last) (now (world mid)).folder
  begun_shows = still_shows making.number (shown_by going.last) (world before) (world mid)
      (given_shows making going (world before) g given) (starts.points told)

  -- and then run and saved
  pub started_stops : (after : S) → going.step ≡ making.number → shown_by going.last ≤ going.shown
      → most g < 2 ^ 61 → ((k : ℕ) → k ≤ (world mid).clock → (world after).moment k ≡ (world mid).moment k)
      → RunStops kind going s (world mid) (world after)
      → StopsCost making.number (shown_by going.last)
      ((world before).clock + (some + (224 * 65536 + 2 ^ 17) + rest)) (world before) (world after)
  started_stops after step_is less within past stops =
      let way = starts.under_way told g given in
      let few = way.3 in
      let calls = starts.calls told in
      let all : ℕ = (world before).clock + (some + (224 * 65536 + 2 ^ 17) + rest) in
      stops_join making.number (shown_by going.last) all (world before) (world mid) (world after) past
      (quiet_stops making.number (shown_by going.last) all (world before) (world mid)
      (given_shows making going (world before) g given) (starts.points told) (omega (arith, calls)))
      (stops_more making.number (shown_by going.last)
      ((world mid).clock + stop_calls kind.accounts going s) all (world mid) (world after)
      (begun_few (kind.accounts.credit s) (kind.accounts.next s) (first_owed going.last (kind.accounts.next s))
      (kind.accounts.stock s) (owed_parts going.last) (interval_of going.budget) (going.turns - going.shown) some rest
      (world before).clock (world mid).clock starts.owed starts.stock (omega arith) calls)
      (run_stops kind making.number (shown_by going.last) going s way.0 (world mid) (world after) step_is begun_shows
      less starts.may.paid.interval starts.may.paid.shown way.2.remains (omega (arith, few, within)) stops))

-- where a step stands without a checkpoint none is gated
pub none_stands : (Q : (FileNo → List ℕ) → Type 0) (rests : Checkpoint → FileNo → ℕ → Type 0) (number next : ℕ)
    (folder : Folder) (last : Option Checkpoint) → IsStanding Q rests number next folder last → last ≡ None
    → last_gated number (present folder) ≡ None
none_stands Q rests number next folder None stands is =
    none_gated number (present folder) (ap (λ (x : File). x.bytes) stands)
none_stands Q rests number next folder (Some c) stands is = absurd (cc)

-- what is said of the turns that are shown is so of the checkpoint that is gated last
pub said_of : (number : ℕ) (old new : Going) (mid after : Folder) (last : Option Checkpoint) → old.step ≡ number
    → ShowsSurely number (shown_by old.last) mid → ShowsSurely number (shown_by last) after → old.shown ≤ new.shown
    → new.shown < 2 ^ 64 → ((c : Checkpoint) → old.last ≡ Some c → c.turns ≡ old.shown)
    → (old.last ≡ None → last_gated number (present mid) ≡ None)
    → (last ≡ old.last) ⊎ ((c : Checkpoint) × (last_gated number (present after) ≡ Some (point_bytes c)))
    → SameShown old new mid after ⊎ IsShown old.step new after → IsSaidOf old new last
said_of number old new mid after last step_is sure shows more word turns none which (inr is) =
    let gated : last_gated number (present after) ≡ Some (point_bytes is.point) =
    subst (λ k. last_gated k (present after) ≡ Some (point_bytes is.point)) step_is is.gated_is in
    let turns_are = is.turns_are in
    inr (more, sym shows.shows ∙ ap turns_in gated ∙ word_turns is.point (omega (arith, turns_are, word)) ∙ turns_are)
said_of number old new mid after last step_is sure shows more word turns none (inl last_is) (inl same) =
    inl (last_is, same.shown_is)
said_of number old new mid after last step_is sure shows more word turns none (inr (c, gated)) (inl same) =
    by old.last refl
  where
    still : last_gated number (present after) ≡ last_gated number (present mid)
    still = subst (λ k. last_gated k (present after) ≡ last_gated k (present mid)) step_is same.gated_is

    by : (o : Option Checkpoint) → old.last ≡ o → IsSaidOf old new last
    by None is =
        let never : Some (point_bytes c) ≡ None = sym gated ∙ still ∙ none is in absurd (cc)
    by (Some d) is = inr (
      more,
      sym shows.shows ∙ ap turns_in still ∙ sure.shows ∙ ap shown_by is ∙ turns d is
          ∙ sym same.shown_is,
    )

-- so the checkpoint shows no more than is said, and as many more than before as is said
pub said_few : (old new : Going) (last : Option Checkpoint) → shown_by old.last ≤ old.shown → old.shown ≤ new.shown
    → IsSaidOf old new last
    → (shown_by old.last + (new.shown - old.shown) ≤ shown_by last) × (shown_by last ≤ new.shown)
said_few old new last less more (inl same) =
    let is : shown_by last ≡ shown_by old.last = ap shown_by same.0 in
    let shown = same.1 in
    (omega (arith, is, shown), omega (arith, is, shown, less))
said_few old new last less more (inr is) =
    let shown = is.1 in
    (omega (arith, shown, less, more), omega (arith, shown))

-- both sweeps: what the first one took for the turns that it showed and for those of an interval that it didn't, and what
-- a stop of the second one may cost
pub both_few : (fewer more first mid before shown owed next from interval rest old at : ℕ)
    (t : Takes (mid - first) (shown - before) owed) → before ≡ first → before ≤ shown → shown ≤ mid
    → mid - shown ≤ interval → interval ≤ 65536 → fewer + (shown - before) ≤ more → next ≤ from + t.parts
    → at + 2 * owed ≤ old + (calls_of t + 8 + rest)
    → at + ((next - from) + 224 * (interval - (mid - shown)) + 2 ^ 17 + 2 ^ 10 + 2 ^ 19)
    ≤ old + (sweeps_stop + rest) + 229 * (more - fewer)
both_few fewer more first mid before shown owed next from interval rest old at t is shows late since long said again
    calls =
    let saves = t.few_saves in
    let parts = t.few_parts in
    omega (arith, is, shows, late, since, long, said, again, calls, saves, parts)

-- seen from fewer turns that were shown, for each of which 229 calls are paid
pub stops_from : (number shown more most fewer : ℕ) (old new : World) → shown ≤ more
    → most ≤ fewer + 229 * (more - shown) → StopsCost number more most old new → StopsCost number shown fewer old new
stops_from number shown more most fewer old new less within stops k from to image is_image =
    let stop = stops k from to image is_image in
    let no_fewer = stop.no_fewer in
    record {
      no_fewer = omega (arith, no_fewer, less);
      few = let few = stop.few in omega (arith, few, within, no_fewer, less);
    }

-- a call that leaves the folder as it was
pub stops_call : (number shown most : ℕ) (old new end : World) → old.clock ≤ new.clock → Ticks new end
    → now end ≡ now new → StopsCost number shown most old new → StopsCost number shown (most + 1) old end
stops_call number shown most old new end later ticks same stops =
    let clock = ticks.clock_is in
    stops_join number shown (most + 1) old new end ticks.past
    (stops_more number shown most (most + 1) old new (omega arith) stops)
    (λ k from to image is_image.
    let here : IsImage (now new).folder image = elim (cases_lt new.clock k) [
      | inl beyond ↦
          let last : k ≡ end.clock = omega (arith, beyond, to, clock) in
          subst (λ (m : Moment). IsImage m.folder image) (ap end.moment last ∙ same) is_image
      | inr until ↦
          let first : k ≡ new.clock = omega (arith, from, until) in
          subst (λ (m : Moment). IsImage m.folder image) (ticks.past k until ∙ ap new.moment first) is_image
    ] in
    let stop = stops new.clock later (omega arith) image here in
    let few = stop.few in
    record { no_fewer = stop.no_fewer; few = omega (arith, few, to, clock) })
