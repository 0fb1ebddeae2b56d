-- What a call leaves of the content of a station in memory.
use Rattle.std.proofs.Common.{inl, inr, ◌||◌, ◌++◌, [], append-nil, ◌≡◌, ℕ, ◌+◌, ◌-◌, ◌^◌, ◌<◌, ◌≤◌, min, Bool, true, false, not, List, refl, sym, ap, subst, ◌∙◌, arith}
use Rattle.std.specs.Prelude.{IsTrue, nat_lt, Result, Ok, Err, OnOk, OnErr, is_err}
use Rattle.std.specs.declared.alloc.AllocError.{AllocError}
use Rattle.std.proofs.lemmas.Bool.{ltb-true, lt-ltb}
use Rattle.shelf_model.specs.declared.file_no.FileNo.{FileNo}
use Rattle.shelf_model.specs.File.{File}
use Rattle.shelf_model.specs.World.{now, file}
use Rattle.shelf_model.specs.Calls.{OnShelf, SameBut, Said}
use Rattle.shelf_model.specs.declared.fault.Failed.{Failed}
use Rattle.shelf_memory.proofs.Answered.{on_ok, on_err}
use Rattle.shelf_memory.specs.declared.bench.Bench.{Bench}
use Rattle.shelf_memory.specs.declared.disk.Disk.{Disk}
use Rattle.shelf_model.proofs.Numbers.{cases_file}
use Rattle.shelf_memory.specs.Disks.{Stays, StaysBut, Ticked, SameFolder, clock_after}
use Rattle.shelf_memory.specs.Texts.{raised}
use Rattle.shelf_memory.specs.Benches.{tells_of, world_in, world_of, file_at}
use Rattle.shelf_memory.specs.Files.{stored_in}
use Rattle.shelf_memory.specs.declared.counts.Counts.{Counts}
use Rattle.shelf_memory.specs.Laws.{present_file, present_said}

-- where a call is told, memory wasn't refused in it
pub told_ok : {T : Type 0} (result : Result T AllocError) (clock new : ℕ) (X : Type 0) → new ≡ clock_after (is_err result) clock → OnOk result X → new < 2 ^ 64 - 1 → X
told_ok (Ok x) clock new X tick holds counts = holds
told_ok (Err e) clock new X tick holds counts = let dark : new ≡ 2 ^ 64 - 1 = tick in absurd (omega (arith, dark, counts))

inside_stays : (inside : Bool) (old new : ℕ) → new ≡ raised (not inside) old → IsTrue inside → new ≡ old
inside_stays true old new rise tells = rise
inside_stays false old new rise tells = let wrong : false ≡ true = tells in cc

outside_strays : (inside : Bool) (old new : ℕ) → new ≡ raised (not inside) old → old < 2 ^ 64 - 1 → ¬ (IsTrue inside) → old < new
outside_strays true old new rise few away = absurd (away refl)
outside_strays false old new rise few away = let rises : new ≡ min (old + 1) (2 ^ 64 - 1) = rise in omega (arith, rises, few)

-- a call that reaches for the folder
pub on_shelf : (old : Bench) (d : Disk) (counts : Counts) → Ticked old.disk d → d.clock < 2 ^ 64 - 1 → d.said.items ≡ old.disk.said.items
    → counts.inside ≡ old.counts.inside → counts.strays ≡ raised (not old.counts.inside) old.counts.strays → OnShelf (world_of old) (world_in d old.texts counts)
on_shelf old d counts ticked few said inside strays =
    let clock : d.clock ≡ old.disk.clock + 1 = ticked.clock_is in
    let before : old.disk.clock < 2 ^ 64 - 1 = omega (arith, few, clock) in
    let within : old.counts.strays ≤ old.disk.clock = (old.counts_are before).0 in
    record {
      ticks = record { clock_is = ticked.clock_is; past = ticked.past };
      station = record {
        said_is = present_said d few ∙ said ∙ sym (present_said old.disk before);
        texts_are = refl;
        home_is = refl;
        inside_is = inside;
        strays_are = λ tells. inside_stays old.counts.inside old.counts.strays counts.strays strays tells;
      };
      astray = λ away. outside_strays old.counts.inside old.counts.strays counts.strays strays (omega (arith, within, before)) away;
    }

-- where a call is told, the station told before it
pub told_before : (old : Bench) (d : Disk) → (d.clock < 2 ^ 64 - 1 → Ticked old.disk d) → IsTrue (nat_lt d.clock (2 ^ 64 - 1)) → IsTrue (tells_of old)
told_before old d ticked tells = lt-ltb _ _ (
    let few : d.clock < 2 ^ 64 - 1 = ltb-true _ _ tells in
    let clock : d.clock ≡ old.disk.clock + 1 = (ticked few).clock_is in
    omega (arith, few, clock))

-- a call that changes one file
pub reached : (old : Bench) (d : Disk) (counts : Counts) (f : FileNo) (change : File → File) (result : Result Unit AllocError)
    → d.clock ≡ clock_after (is_err result) old.disk.clock → (d.clock < 2 ^ 64 - 1 → Ticked old.disk d)
    → OnOk result (stored_in d.files f ≡ change (file_at old f)) → StaysBut f old.disk d
    → counts.inside ≡ old.counts.inside → counts.strays ≡ raised (not old.counts.inside) old.counts.strays
    → IsTrue (nat_lt d.clock (2 ^ 64 - 1))
    → OnShelf (world_of old) (world_in d old.texts counts) × SameBut f (world_of old) (world_in d old.texts counts)
    × (file (world_in d old.texts counts) f ≡ change (file (world_of old) f))
reached old d counts f change result tick ticked here others inside strays tells =
    let few : d.clock < 2 ^ 64 - 1 = ltb-true _ _ tells in
    let clock : d.clock ≡ old.disk.clock + 1 = (ticked few).clock_is in
    let before : old.disk.clock < 2 ^ 64 - 1 = omega (arith, few, clock) in (
      on_shelf old d counts (ticked few) few others.said_is inside strays,
      (λ q differ. present_file d few q ∙ others.files_are q differ ∙ sym (present_file old.disk before q)),
      present_file d few f ∙ told_ok result old.disk.clock d.clock (stored_in d.files f ≡ change (file_at old f)) tick here few
          ∙ ap change (sym (present_file old.disk before f)),
    )

-- a call that says a piece
pub said_so : (old : Bench) (d : Disk) (counts : Counts) (piece : List ℕ) (done : Result Unit AllocError) (result : Result Unit Failed)
    → d.clock ≡ clock_after (is_err done) old.disk.clock → (d.clock < 2 ^ 64 - 1 → Ticked old.disk d) → (d.clock < 2 ^ 64 - 1 → SameFolder old.disk d)
    → OnOk done (d.said.items ≡ old.disk.said.items ++ piece) → counts.inside ≡ old.counts.inside → counts.strays ≡ old.counts.strays
    → IsTrue (nat_lt d.clock (2 ^ 64 - 1)) → Said piece result (world_of old) (world_in d old.texts counts)
said_so old d counts piece done result tick ticked folder more inside strays tells =
    let few : d.clock < 2 ^ 64 - 1 = ltb-true _ _ tells in
    let clock : d.clock ≡ old.disk.clock + 1 = (ticked few).clock_is in
    let before : old.disk.clock < 2 ^ 64 - 1 = omega (arith, few, clock) in
    let whole : (now (world_in d old.texts counts)).said ≡ (now (world_of old)).said ++ piece =
    present_said d few ∙ told_ok done old.disk.clock d.clock (d.said.items ≡ old.disk.said.items ++ piece) tick more few
    ∙ ap (λ bytes. bytes ++ piece) (sym (present_said old.disk before)) in
    record {
      elsewhere = record {
        ticks = record { clock_is = clock; past = (ticked few).past };
        folder_is = folder few;
        texts_are = refl;
        home_is = refl;
        inside_is = inside;
        strays_are = strays;
      };
      ok = on_ok result _ whole;
      failed = on_err result _ (piece, [], sym (append-nil piece), whole);
    }

-- a change that is to fail leaves the bytes, and so does one for which memory was refused
pub bytes_kept : (old : Bench) (d : Disk) (f : FileNo) (change : File → File) (fails : Bool) (done : Result Unit AllocError)
    → (IsTrue fails → (change (file_at old f)).bytes ≡ (file_at old f).bytes) → OnOk done (stored_in d.files f ≡ change (file_at old f)) → OnErr done (Stays old.disk d)
    → StaysBut f old.disk d → (fails || is_err done) ≡ true → (q : FileNo) → (stored_in d.files q).bytes ≡ (file_at old q).bytes
bytes_kept old d f change fails (Err e) harmless here refused others failed q = ap (λ (x : File). x.bytes) (refused.files_are q)
bytes_kept old d f change false (Ok x) harmless here refused others failed q = let wrong : false ≡ true = failed in cc
bytes_kept old d f change true (Ok x) harmless here refused others failed q = elim (cases_file q f) [
  | inl same ↦ subst (λ p. (stored_in d.files p).bytes ≡ (file_at old p).bytes) (sym same) (ap (λ (x : File). x.bytes) here ∙ harmless refl)
  | inr differ ↦ ap (λ (x : File). x.bytes) (others.files_are q differ)
]

-- and where the content is told, so do those that are told
pub told_bytes : (old : Bench) (d : Disk) (counts : Counts) → (d.clock < 2 ^ 64 - 1 → Ticked old.disk d) → ((q : FileNo) → (stored_in d.files q).bytes ≡ (file_at old q).bytes)
    → IsTrue (nat_lt d.clock (2 ^ 64 - 1)) → (q : FileNo) → (file (world_in d old.texts counts) q).bytes ≡ (file (world_of old) q).bytes
told_bytes old d counts ticked same tells q =
    let few : d.clock < 2 ^ 64 - 1 = ltb-true _ _ tells in
    let clock : d.clock ≡ old.disk.clock + 1 = (ticked few).clock_is in
    let before : old.disk.clock < 2 ^ 64 - 1 = omega (arith, few, clock) in
    ap (λ (x : File). x.bytes) (present_file d few q) ∙ same q ∙ sym (ap (λ (x : File). x.bytes) (present_file old.disk before q))
