-- A sweep that goes on from one save to the next: what a stop may leave, from the first moment on.
use Rattle.std.proofs.Common.{◌≡◌, ◌≢◌, ◌⊎◌, ℕ, ◌+◌, ◌≤◌, Bool, List, length, take, refl, sym, ap, subst, ◌∙◌, inl, inr, arith}
use Rattle.std.specs.Prelude.{Ok}
use Rattle.shelf_model.specs.declared.file_no.FileNo.{FileNo}
use Rattle.shelf_model.specs.File.{File, firm_file}
use Rattle.shelf_model.specs.Folder.{Folder, file_in, bytes_in, AreFiles}
use Rattle.shelf_model.specs.World.{Moment, World, now}
use Rattle.shelf_model.specs.Calls.{Told}
use Rattle.shelf_model.specs.Moments.{Throughout, Ran, OnlyChanged}
use Rattle.shelf_model.proofs.Runs.{stands, joins, weakens, ran_weakens, ran_joins, ran_end, told_then}
use Rattle.run_tiers.specs.Syncs.{IsFirm, IsSameOrFirm}
use Rattle.sweep_core.specs.declared.checkpoint.Checkpoint.{Checkpoint}
use Rattle.file_numbers.specs.Files.{checkpoint_file, checkpoint_gate}
use Rattle.sweep_core.specs.declared.turn.Turn.{Turn}
use Rattle.sweep_core.specs.declared.turn.Turn.TheVariants.{More, Ended}
use Rattle.sweep_core.specs.Sweeps.{AtEnd}
use Rattle.sweep_core.specs.Counted.{Fell}
use Rattle.sweep_core.specs.Accounts.{CanBeTaken, OnlyOwn}
use Rattle.sweep_core.specs.Saving.{Saving, IsOfStep, IsRestingPlace}
use Rattle.sweep_core.specs.Carries.{IsBehindPoints, OnlySaved}
use Rattle.sweep_checkpoint.specs.Saves.{gated_size}
use Rattle.sweep_checkpoint.specs.Gated.{present, last_gated}
use Rattle.sweep_checkpoint.specs.declared.going.Going.{Going}
use Rattle.sweep_checkpoint.specs.Going.{IsOfGoing, IsAsBefore, GoesOn, Stands, AreSure, SameShown, IsShown}
use Rattle.sweep_checkpoint.proofs.AsBefore.{of_step_later, as_before, as_before_then, points_stay, gate_stays, same_last}
use Rattle.sweep_checkpoint.proofs.Standing.{operand_firm, stands_saved, stands_later, as_before_stands}
use Rattle.sweep_checkpoint.proofs.SavedHere.{AreLeft, saved_changes, ran_changes, moments}

-- nothing was done
pub saved_none : (makes : FileNo → Type 0) (step next : ℕ) (m : Moment) → OnlySaved makes step next m m
saved_none makes step next m = record { others = λ f _ _. inl refl; kept = λ f _ front kept. kept }

-- turns change no more than what is made ready to be saved
pub own_saved : (makes : FileNo → Type 0) (step next : ℕ) (old m : Moment) → OnlyOwn makes step next old m → OnlySaved makes step next old m
own_saved makes step next old m own = record { others = λ f other apart. inl (own.others f other apart); kept = own.kept }

pub saved_as : (makes makes_now : FileNo → Type 0) (step next : ℕ) (old m : Moment) → ((f : FileNo) → makes_now f → makes f) → ((f : FileNo) → makes f → makes_now f)
    → OnlySaved makes_now step next old m → OnlySaved makes step next old m
saved_as makes makes_now step next old m made making saved = record {
  others = λ f other apart. saved.others f (λ mine. other (made f mine)) apart;
  kept = λ f mine. saved.kept f (making f mine);
}

same_or_firm_then : (these : FileNo → Type 0) (f : FileNo) (old mid m : Moment) → IsSameOrFirm these f old mid → IsSameOrFirm these f mid m → IsSameOrFirm these f old m
same_or_firm_then these f old mid m (inl same) (inl again) = inl (again ∙ same)
same_or_firm_then these f old mid m (inr firm) (inl again) = inr (firm.0, again ∙ firm.1)
same_or_firm_then these f old mid m (inl same) (inr again) = inr (again.0, again.1 ∙ ap (λ (x : File). firm_file x.bytes) same)
same_or_firm_then these f old mid m (inr firm) (inr again) = inr (firm.0, again.1 ∙ ap (λ (x : File). firm_file x.bytes) firm.1)

-- one after another
pub saved_then : (makes : FileNo → Type 0) (step next later : ℕ) (old mid m : Moment) → next ≤ later → OnlySaved makes step next old mid → OnlySaved makes step later mid m
    → OnlySaved makes step next old m
saved_then makes step next later old mid m more first second = record {
  others = λ f other apart. same_or_firm_then (IsBehindPoints step) f old mid m (first.others f other apart)
      (second.others f other (λ (free : CanBeTaken step later f). let from = free.from in apart (record { step_is = free.step_is; from = omega (arith, from, more) })));
  kept = λ f mine front kept. second.kept f mine front (first.kept f mine front kept);
}

as_before_as : (makes makes_now : FileNo → Type 0) (step next : ℕ) (old : Folder) (r : FileNo → List ℕ) → ((f : FileNo) → makes_now f → makes f)
    → ((f : FileNo) → makes f → makes_now f) → IsAsBefore makes_now step next old r → IsAsBefore makes step next old r
as_before_as makes makes_now step next old r made making agrees = record {
  before = agrees.before;
  is_image = agrees.is_image;
  last = agrees.last;
  others = λ f other apart no_points no_gate. agrees.others f (λ mine. other (made f mine)) apart no_points no_gate;
  fronts = λ f mine. agrees.fronts f (making f mine);
}

-- where the sweep has come to: nothing was saved yet, or the last checkpoint is one of it
abbrev pub HasCome : {Task Job : Type 0} → Saving Task Job → (FileNo → Type 0) → (FileNo → Type 0) → ℕ → ℕ → ℕ → Task → Job → ℕ → ℕ → Moment → Moment → Type 0
HasCome saving makes operands step next sweep task job turns later old m = OnlySaved makes step next old m
    ⊎ Stands saving makes operands step later sweep task job turns m.folder

-- from the first moment on: what a stop may leave, and where the sweep has come to
pub record Stage {Task Job : Type 0} (saving : Saving Task Job) (makes operands : FileNo → Type 0) (step next sweep : ℕ) (task : Task) (job : Job) (turns later : ℕ)
    (old at : World) : Type 0 where
  pub more : next ≤ later
  pub images : Throughout old at (AreLeft saving makes step next sweep task job turns (now old).folder)
  pub come : HasCome saving makes operands step next sweep task job turns later (now old) (now at)

module _ {Task Job : Type 0} (saving : Saving Task Job)
    (stays : (c : Checkpoint) (text : List ℕ) (old new : FileNo → List ℕ) (job : Job) (turns : ℕ) → saving.fits c text
    → ((f : FileNo) (n : ℕ) → saving.rests c f n → take n (new f) ≡ take n (old f))
    → saving.stands c text old job turns → saving.stands c text new job turns)
    (apart : (c : Checkpoint) (text : List ℕ) (f : FileNo) (n : ℕ) → saving.fits c text → saving.rests c f n → IsRestingPlace c f)
    (makes operands : FileNo → Type 0) (step next sweep : ℕ) (task : Task) (job : Job) (turns : ℕ) where
  goes_on_more : (fewer : ℕ) (r : FileNo → List ℕ) → fewer ≤ turns → GoesOn saving step sweep task job fewer r → GoesOn saving step sweep task job turns r
  goes_on_more fewer r less g = record {
    point = g.point;
    last = g.last;
    rules = g.rules;
    paid = g.paid;
    sweep_is = g.sweep_is;
    words = g.words;
    names = g.names;
    fits = g.fits;
    left = g.left;
    stands = g.stands;
    few = let few = g.few in omega (arith, few, less);
  }

  stands_as : (makes_now : FileNo → Type 0) (later fewer : ℕ) (folder : Folder) → ((f : FileNo) → makes_now f → makes f) → ((f : FileNo) → makes f → makes_now f)
      → fewer ≤ turns → Stands saving makes_now operands step later sweep task job fewer folder → Stands saving makes operands step later sweep task job turns folder
  unfolding goes_on_more
  stands_as makes_now later fewer folder made making less s = record {
    goes_on = goes_on_more fewer _ less s.goes_on;
    gate = s.gate;
    points = s.points;
    sure = λ f n is. elim (s.sure f n is) [
      | inl operand ↦ inl operand
      | inr sure ↦ elim sure.0 [
        | inl mine ↦ inr (inl (made f mine), sure.1)
        | inr other ↦ inr (inr (λ mine. other (making f mine)), sure.1)
      ]
    ];
    operands_are = s.operands_are;
    taken = s.taken;
  }

  -- what a stop may leave behind that moment, it may leave from the first one on
  pub left_on : (makes_now : FileNo → Type 0) (later fewer : ℕ) (old mid m : Moment) → ((f : FileNo) → makes_now f → makes f) → ((f : FileNo) → makes f → makes_now f)
      → AreFiles old.folder → IsOfStep makes operands step next → next ≤ later → fewer ≤ turns → HasCome saving makes operands step next sweep task job turns later old mid
      → AreLeft saving makes_now step later sweep task job fewer mid.folder m → AreLeft saving makes step next sweep task job turns old.folder m
  left_on makes_now later fewer old mid m made making are_files files more less come left = λ image is_image. elim (left image is_image) [
    | inl agrees ↦
        let now_agrees : IsAsBefore makes step later mid.folder (bytes_in image) = as_before_as makes makes_now step later mid.folder (bytes_in image) made making agrees in
        elim come [
          | inl saved ↦ inl (as_before_then makes operands step next later old mid (bytes_in image) are_files files more saved now_agrees)
          | inr stood ↦ inr (as_before_stands saving stays apart makes operands step later sweep task job turns mid.folder (bytes_in image)
              (of_step_later makes operands step next later more files) stood now_agrees)
        ]
    | inr goes ↦ inr (goes_on_more fewer (bytes_in image) less goes)
  ]

  -- and so where it has come to
  pub come_on : (makes_now : FileNo → Type 0) (later last fewer : ℕ) (old mid m : Moment) → ((f : FileNo) → makes_now f → makes f) → ((f : FileNo) → makes f → makes_now f)
      → AreFiles mid.folder → IsOfStep makes operands step next → next ≤ later → later ≤ last → fewer ≤ turns → HasCome saving makes operands step next sweep task job turns later old mid
      → (OnlySaved makes_now step later mid m ⊎ Stands saving makes_now operands step last sweep task job fewer m.folder)
      → HasCome saving makes operands step next sweep task job turns last old m
  come_on makes_now later last fewer old mid m made making mid_files files more again less come (inr stood) = inr (stands_as makes_now last fewer m.folder made making less stood)
  come_on makes_now later last fewer old mid m made making mid_files files more again less come (inl saved) =
      let now_saved : OnlySaved makes step later mid m = saved_as makes makes_now step later mid m made making saved in
      elim come [
        | inl first ↦ inl (saved_then makes step next later old mid m more first now_saved)
        | inr stood ↦ inr (stands_later saving stays apart makes operands step later sweep task job turns last m.folder again
            (stands_saved saving stays apart makes operands step later sweep task job turns mid m mid_files
            (of_step_later makes operands step next later more files) stood now_saved))
      ]

  -- over runs of calls, the second of which began where the sweep has come to
  pub images_on : (makes_now : FileNo → Type 0) (later fewer : ℕ) (old mid new : World) → ((f : FileNo) → makes_now f → makes f) → ((f : FileNo) → makes f → makes_now f)
      → AreFiles (now old).folder → IsOfStep makes operands step next → next ≤ later → fewer ≤ turns → HasCome saving makes operands step next sweep task job turns later (now old) (now mid)
      → Throughout old mid (AreLeft saving makes step next sweep task job turns (now old).folder)
      → Throughout mid new (AreLeft saving makes_now step later sweep task job fewer (now mid).folder)
      → Throughout old new (AreLeft saving makes step next sweep task job turns (now old).folder)
  images_on makes_now later fewer old mid new made making are_files files more less come first second =
      joins old mid new (AreLeft saving makes step next sweep task job turns (now old).folder) first
      (weakens mid new (AreLeft saving makes_now step later sweep task job fewer (now mid).folder) (AreLeft saving makes step next sweep task job turns (now old).folder)
      (λ m left. left_on makes_now later fewer (now old) (now mid) m made making are_files files more less come left) second)

  -- turns leave images of before
  pub turns_left : (old new : World) → AreFiles (now old).folder → IsOfStep makes operands step next → Ran (OnlyOwn makes step next (now old)) old new
      → Throughout old new (AreLeft saving makes step next sweep task job turns (now old).folder)
  turns_left old new are_files files run = moments old new (OnlyOwn makes step next (now old)) (AreLeft saving makes step next sweep task job turns (now old).folder)
      (λ m own image is_image. inl (as_before makes operands step next (now old) m image are_files files (own_saved makes step next (now old) m own) is_image)) run

  -- before the first call
  pub images_none : (w : World) → AreFiles (now w).folder → IsOfStep makes operands step next
      → Throughout w w (AreLeft saving makes step next sweep task job turns (now w).folder)
  images_none w are_files files = stands w (AreLeft saving makes step next sweep task job turns (now w).folder)
      (λ image is_image. inl (as_before makes operands step next (now w) (now w) image are_files files (saved_none makes step next (now w)) is_image))

  -- once the sweep was saved, if that was due
  pub stage_save : (makes_now : FileNo → Type 0) (later last fewer : ℕ) (old at new : World) → ((f : FileNo) → makes_now f → makes f) → ((f : FileNo) → makes f → makes_now f)
      → AreFiles (now old).folder → AreFiles (now at).folder → IsOfStep makes operands step next → later ≤ last → fewer ≤ turns → Stage saving makes operands step next sweep task job turns later old at
      → Throughout at new (AreLeft saving makes_now step later sweep task job fewer (now at).folder)
      → (OnlySaved makes_now step later (now at) (now new) ⊎ Stands saving makes_now operands step last sweep task job fewer (now new).folder)
      → Stage saving makes operands step next sweep task job turns last old new
  stage_save makes_now later last fewer old at new made making are_files at_files files again less stage left come = record {
    more = let more = stage.more in omega (arith, more, again);
    images = images_on makes_now later fewer old at new made making are_files files stage.more less stage.come stage.images left;
    come = come_on makes_now later last fewer (now old) (now at) (now new) made making at_files files stage.more again less stage.come come;
  }

  -- once turns were made
  pub stage_turns : (makes_now : FileNo → Type 0) (later last : ℕ) (old at new : World) → ((f : FileNo) → makes_now f → makes f) → ((f : FileNo) → makes f → makes_now f)
      → AreFiles (now old).folder → AreFiles (now at).folder → IsOfStep makes operands step next → later ≤ last → Stage saving makes operands step next sweep task job turns later old at
      → Ran (OnlyOwn makes_now step later (now at)) at new → Stage saving makes operands step next sweep task job turns last old new
  stage_turns makes_now later last old at new made making are_files at_files files again stage run =
      let then : IsOfStep makes operands step later = of_step_later makes operands step next later stage.more files in
      let own : Ran (OnlyOwn makes step later (now at)) at new = ran_weakens at new (OnlyOwn makes_now step later (now at)) (OnlyOwn makes step later (now at))
      (λ m only. record { others = λ f other apart. only.others f (λ mine. other (made f mine)) apart; kept = λ f mine. only.kept f (making f mine) }) run in
      let left : Throughout at new (AreLeft saving makes step later sweep task job turns (now at).folder) =
      moments at new (OnlyOwn makes step later (now at)) (AreLeft saving makes step later sweep task job turns (now at).folder)
      (λ m only image is_image. inl (as_before makes operands step later (now at) m image at_files then (own_saved makes step later (now at) m only) is_image)) own in
      stage_save makes later last turns old at new (λ f mine. mine) (λ f mine. mine) are_files at_files files again (omega arith) stage left
      (inl (own_saved makes step later (now at) (now new) (ran_end at new (OnlyOwn makes step later (now at)) own)))

-- the same under other numbers and another task that are the same
module _ {Task Job : Type 0} (saving : Saving Task Job) (t t0 : Task) (s s0 v v0 : ℕ) (task_is : t ≡ t0) (step_is : s ≡ s0) (sweep_is : v ≡ v0) where
  pub left_of : (makes : FileNo → Type 0) (next : ℕ) (job : Job) (turns : ℕ) (old new : World) (folder : Folder)
      → Throughout old new (AreLeft saving makes s next v t job turns folder) → Throughout old new (AreLeft saving makes s0 next v0 t0 job turns folder)
  left_of makes next job turns old new folder left =
      subst (λ k. Throughout old new (AreLeft saving makes s0 next v0 k job turns folder)) task_is
      (subst (λ k. Throughout old new (AreLeft saving makes s0 next k t job turns folder)) sweep_is
      (subst (λ k. Throughout old new (AreLeft saving makes k next v t job turns folder)) step_is left))

  pub come_of : (makes : FileNo → Type 0) (next later : ℕ) (job : Job) (turns : ℕ) (old new : Moment)
      → (OnlySaved makes s next old new ⊎ Stands saving makes (saving.operands t) s later v t job turns new.folder)
      → OnlySaved makes s0 next old new ⊎ Stands saving makes (saving.operands t0) s0 later v0 t0 job turns new.folder
  come_of makes next later job turns old new (inl saved) = inl (subst (λ k. OnlySaved makes k next old new) step_is saved)
  come_of makes next later job turns old new (inr stood) = inr
      (subst (λ k. Stands saving makes (saving.operands k) s0 later v0 k job turns new.folder) task_is
      (subst (λ k. Stands saving makes (saving.operands t) s0 later k t job turns new.folder) sweep_is
      (subst (λ k. Stands saving makes (saving.operands t) k later v t job turns new.folder) step_is stood)))

  -- what was sure is sure
  pub sure_of : {turns : ℕ} (makes : FileNo → Type 0) (next later : ℕ) (job : Job) (old m : Moment) → IsOfStep makes (saving.operands t0) s0 next
      → HasCome saving makes (saving.operands t0) s0 next v0 t0 job turns later old m
      → AreSure (saving.operands t0) s0 old.folder → AreSure (saving.operands t) s m.folder
  sure_of makes next later job old m files come sure =
      let here : AreSure (saving.operands t0) s0 m.folder = record {
        gate = elim come [
          | inl saved ↦ subst IsFirm (sym (gate_stays makes (saving.operands t0) s0 next old m files saved)) sure.gate
          | inr stood ↦ stood.gate
        ];
        operands_are = λ f operand. elim come [
          | inl saved ↦ operand_firm makes (saving.operands t0) s0 next old m f files saved operand (sure.operands_are f operand)
          | inr stood ↦ (stood.operands_are f operand).0
        ];
      } in
      subst (λ k. AreSure (saving.operands t) k m.folder) (sym step_is) (subst (λ k. AreSure (saving.operands k) s0 m.folder) (sym task_is) here)

-- turns change no other files of the step
pub turns_on : {S : Type 0} (tells : S → Bool) (world : S → World) (makes makes_now operands : FileNo → Type 0) (step next later : ℕ) (old mid new : S)
    → ((f : FileNo) → makes_now f → makes f) → ((f : FileNo) → makes f → makes_now f) → IsOfStep makes operands step next → next ≤ later
    → Told tells old mid (Ran (OnlyChanged (IsOfGoing makes step) (now (world old))) (world old) (world mid))
    → Told tells mid new (Ran (OnlyOwn makes_now step later (now (world mid))) (world mid) (world new))
    → Told tells old new (Ran (OnlyChanged (IsOfGoing makes step) (now (world old))) (world old) (world new))
turns_on tells world makes makes_now operands step next later old mid new made making files more first second = told_then tells old mid new _ _ _ first second (λ _ a b.
    ran_joins (world old) (world mid) (world new) (OnlyChanged (IsOfGoing makes step) (now (world old))) a
    (ran_changes (IsOfGoing makes step) (world old) (world mid) (world new) (OnlyOwn makes_now step later (now (world mid)))
    (ran_end (world old) (world mid) (OnlyChanged (IsOfGoing makes step) (now (world old))) a)
    (λ m own. saved_changes makes operands step later (now (world mid)) m (of_step_later makes operands step next later more files)
    (saved_as makes makes_now step later (now (world mid)) m made making (own_saved makes_now step later (now (world mid)) m own))) b))

-- the gated checkpoints are all there still
pub covers_still : (makes operands : FileNo → Type 0) (step next : ℕ) (old m : Moment) → IsOfStep makes operands step next → OnlySaved makes step next old m
    → gated_size step old.folder ≤ length (file_in old.folder (checkpoint_file step)).bytes → gated_size step m.folder ≤ length (file_in m.folder (checkpoint_file step)).bytes
covers_still makes operands step next old m files saved covers =
    let points : length (file_in m.folder (checkpoint_file step)).bytes ≡ length (file_in old.folder (checkpoint_file step)).bytes = ap (λ (x : File). length x.bytes) (points_stay makes operands step next old m files saved) in
    let gate : length (file_in m.folder (checkpoint_gate step)).bytes ≡ length (file_in old.folder (checkpoint_gate step)).bytes = ap (λ (x : File). length x.bytes) (gate_stays makes operands step next old m files saved) in
    omega (arith, points, gate, covers)

-- what holds where a turn ended the sweep
pub where_ended : {P : Type 0} (turn : Turn) → turn ≡ Ended → AtEnd (Ok turn) P → P
where_ended More is holds = absurd (cc)
where_ended Ended is holds = holds

-- how many turns were made
pub fell_ended : (old new turns : ℕ) (turn : Turn) → turn ≡ Ended → Fell old new turns turn → turns ≤ old + 1
fell_ended old new turns More is fell = absurd (cc)
fell_ended old new turns Ended is fell = fell.1

pub fell_more : (old new turns : ℕ) (turn : Turn) → turn ≢ Ended → Fell old new turns turn → new + turns ≤ old
fell_more old new turns More is fell = fell
fell_more old new turns Ended is fell = absurd (is refl)

-- where neither the checkpoints nor their gate changed, the last one is as it was
pub gated_still : (makes operands : FileNo → Type 0) (step next : ℕ) (old m : Moment) → IsOfStep makes operands step next → OnlySaved makes step next old m
    → last_gated step (present m.folder) ≡ last_gated step (present old.folder)
gated_still makes operands step next old m files saved = same_last step (present m.folder) (present old.folder)
    (ap (λ (x : File). x.bytes) (points_stay makes operands step next old m files saved)) (ap (λ (x : File). x.bytes) (gate_stays makes operands step next old m files saved))

-- what is said of the last checkpoint, from the first moment on
abbrev pub SaysLast : Going → Going → Folder → Folder → Type 0
SaysLast old new before after = SameShown old new before after ⊎ IsShown old.step new after

pub says_then : (old mid new : Going) (a b c : Folder) → mid.step ≡ old.step → SaysLast old mid a b → SaysLast mid new b c → SaysLast old new a c
says_then old mid new a b c step_is first (inr shown) = inr (subst (λ s. IsShown s new c) step_is shown)
says_then old mid new a b c step_is (inl same) (inl again) = inl (record {
  shown_is = again.shown_is ∙ same.shown_is;
  last_is = again.last_is ∙ same.last_is;
  gated_is = subst (λ s. last_gated s (present c) ≡ last_gated s (present b)) step_is again.gated_is ∙ same.gated_is;
})
says_then old mid new a b c step_is (inr shown) (inl again) = inr (record {
  point = shown.point;
  last_is = again.last_is ∙ shown.last_is;
  turns_are = shown.turns_are ∙ sym again.shown_is;
  gated_is = subst (λ s. last_gated s (present c) ≡ last_gated s (present b)) step_is again.gated_is ∙ shown.gated_is;
})
