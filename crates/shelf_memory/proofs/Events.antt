-- One event more: the past stays, and what stands follows from what the event did.
use Rattle.std.proofs.Common.{◌≡◌, ◌≢◌, ℕ, ◌+◌, ◌<◌, ◌≤◌, suc, zero, List, [], ◌∷◌, ◌++◌, refl, sym, ap, subst, ◌∙◌, arith, inl, inr}
use Rattle.shelf_model.specs.declared.file_no.FileNo.{FileNo}
use Rattle.shelf_model.specs.File.{File, firm_file}
use Rattle.shelf_model.specs.Folder.{file_in}
use Rattle.shelf_model.specs.World.{Moment}
use Rattle.shelf_model.proofs.Numbers.{cases_file}
use Rattle.shelf_model.proofs.Maps.{file_in-insert, file_in-insert_other}
use Rattle.shelf_memory.specs.Changes.{changed}
use Rattle.shelf_memory.specs.Events.{with_file, after_call, after, first_moment, replayed, calls_in, first_calls, moment_of}
use Rattle.shelf_memory.specs.Past.{Agrees}
use Rattle.shelf_memory.specs.Laws.{moment_at_end}
use Rattle.shelf_memory.specs.Disks.{Ticked}
use Rattle.shelf_memory.specs.declared.change.Change.{Change}
use Rattle.shelf_memory.specs.declared.disk.Disk.{Disk}
use Rattle.shelf_memory.specs.declared.event.Call.{Call}
use Rattle.shelf_memory.specs.declared.event.Call.TheVariants.{Nothing, Changed, Said}
use Rattle.shelf_memory.specs.declared.event.Event.{Event}
use Rattle.shelf_memory.specs.declared.event.Event.TheVariants.{Called, Put}
use Rattle.std.specs.Global.{Vec}

pub replayed-more : (m : Moment) (es : List Event) (e : Event) → replayed m (es ++ e ∷ []) ≡ after e (replayed m es)
unfolding replayed
replayed-more m [] e = refl
replayed-more m (x ∷ xs) e = replayed-more (after x m) xs e

pub calls_in-more : (es : List Event) (call : Call) → calls_in (es ++ Called call ∷ []) ≡ calls_in es + 1
unfolding calls_in
calls_in-more [] call = refl
calls_in-more (Called x ∷ xs) call = let rest : calls_in (xs ++ Called call ∷ []) ≡ calls_in xs + 1 = calls_in-more xs call in omega (arith, rest)
calls_in-more (Put f bytes ∷ xs) call = calls_in-more xs call

-- the first calls stay
pub first_calls-more : (k : ℕ) (es : List Event) (call : Call) → k ≤ calls_in es → first_calls k (es ++ Called call ∷ []) ≡ first_calls k es
unfolding first_calls calls_in
first_calls-more zero [] call within = refl
first_calls-more (suc k) [] call within = absurd (omega (arith, within))
first_calls-more k (Put f bytes ∷ xs) call within = ap (λ rest. Put f bytes ∷ rest) (first_calls-more k xs call within)
first_calls-more zero (Called x ∷ xs) call within = refl
first_calls-more (suc k) (Called x ∷ xs) call within = ap (λ rest. Called x ∷ rest) (first_calls-more k xs call (omega (arith, within)))

pub moment_of-more : (k : ℕ) (es : List Event) (call : Call) → k ≤ calls_in es → moment_of (es ++ Called call ∷ []) k ≡ moment_of es k
unfolding moment_of
moment_of-more k es call within = ap (replayed first_moment) (first_calls-more k es call within)

pub ticked : (old new : Disk) (call : Call) → calls_in old.events.items ≡ old.clock → new.clock ≡ old.clock + 1
    → new.events.items ≡ old.events.items ++ Called call ∷ [] → Ticked old new
ticked old new call counted clock events = record {
  clock_is = clock;
  past = λ k within.
      let among : k ≤ calls_in old.events.items = omega (arith, within, counted) in
      ap (λ es. moment_of es k) events ∙ moment_of-more k old.events.items call among;
}

-- what the events lead to after one call more
abbrev led : List Event → Moment
led es = replayed first_moment es

pub agrees_kept : (n : ℕ) (stored : FileNo → File) (bytes : List ℕ) (es : List Event) → Agrees n stored bytes es → Agrees (n + 1) stored bytes (es ++ Called Nothing ∷ [])
agrees_kept n stored bytes es agrees = record {
  calls_are = calls_in-more es Nothing ∙ ap (λ k. k + 1) agrees.calls_are;
  files_are = λ f. ap (λ (m : Moment). file_in m.folder f) (replayed-more first_moment es (Called Nothing)) ∙ agrees.files_are f;
  said_is = ap (λ (m : Moment). m.said) (replayed-more first_moment es (Called Nothing)) ∙ agrees.said_is;
}

pub agrees_changed : (n : ℕ) (before stored : FileNo → File) (bytes : List ℕ) (es : List Event) (f : FileNo) (change : Change) → Agrees n before bytes es
    → stored f ≡ changed change (before f) → ((q : FileNo) → q ≢ f → stored q ≡ before q)
    → Agrees (n + 1) stored bytes (es ++ Called (Changed f change) ∷ [])
agrees_changed n before stored bytes es f change agrees here others =
    let step : led (es ++ Called (Changed f change) ∷ []) ≡ with_file f (changed change (file_in (led es).folder f)) (led es) = replayed-more first_moment es (Called (Changed f change)) in
    record {
      calls_are = calls_in-more es (Changed f change) ∙ ap (λ k. k + 1) agrees.calls_are;
      files_are = λ q. ap (λ (m : Moment). file_in m.folder q) step ∙ (elim (cases_file q f) [
        | inl same ↦ subst (λ p. file_in (with_file f (changed change (file_in (led es).folder f)) (led es)).folder p ≡ stored p) (sym same)
            (file_in-insert (led es).folder f (changed change (file_in (led es).folder f)) ∙ ap (changed change) (agrees.files_are f) ∙ sym here)
        | inr differ ↦ file_in-insert_other (led es).folder f q (changed change (file_in (led es).folder f)) differ ∙ agrees.files_are q ∙ sym (others q differ)
      ]);
      said_is = ap (λ (m : Moment). m.said) step ∙ agrees.said_is;
    }

pub agrees_said : (n : ℕ) (stored : FileNo → File) (bytes after_it : List ℕ) (es : List Event) (piece : Vec ℕ) → Agrees n stored bytes es
    → after_it ≡ bytes ++ piece.items → Agrees (n + 1) stored after_it (es ++ Called (Said piece) ∷ [])
agrees_said n stored bytes after_it es piece agrees more = record {
  calls_are = calls_in-more es (Said piece) ∙ ap (λ k. k + 1) agrees.calls_are;
  files_are = λ f. ap (λ (m : Moment). file_in m.folder f) (replayed-more first_moment es (Called (Said piece))) ∙ agrees.files_are f;
  said_is = ap (λ (m : Moment). m.said) (replayed-more first_moment es (Called (Said piece))) ∙ ap (λ b. b ++ piece.items) agrees.said_is ∙ sym more;
}

-- what stands after one call more is what the call made of what stood
pub called_moment : (n k : ℕ) (before stored : FileNo → File) (bytes more : List ℕ) (es fs : List Event) (call : Call) → Agrees n before bytes es → Agrees k stored more fs
    → fs ≡ es ++ Called call ∷ [] → moment_of fs k ≡ after_call call (moment_of es n)
called_moment n k before stored bytes more es fs call was is events =
    moment_at_end k stored more fs is ∙ ap (replayed first_moment) events ∙ replayed-more first_moment es (Called call) ∙ ap (after_call call) (sym (moment_at_end n before bytes es was))

pub calls_in-put : (es : List Event) (f : FileNo) (bytes : Vec ℕ) → calls_in (es ++ Put f bytes ∷ []) ≡ calls_in es
unfolding calls_in
calls_in-put [] f bytes = refl
calls_in-put (Called x ∷ xs) f bytes = ap suc (calls_in-put xs f bytes)
calls_in-put (Put q more ∷ xs) f bytes = calls_in-put xs f bytes

-- a file that is put changes nothing of what stood before
pub first_calls-put : (k : ℕ) (es : List Event) (f : FileNo) (bytes : Vec ℕ) → k < calls_in es → first_calls k (es ++ Put f bytes ∷ []) ≡ first_calls k es
unfolding first_calls calls_in
first_calls-put k [] f bytes before = absurd (omega (arith, before))
first_calls-put k (Put q more ∷ xs) f bytes before = ap (λ rest. Put q more ∷ rest) (first_calls-put k xs f bytes before)
first_calls-put zero (Called x ∷ xs) f bytes before = refl
first_calls-put (suc k) (Called x ∷ xs) f bytes before = ap (λ rest. Called x ∷ rest) (first_calls-put k xs f bytes (omega (arith, before)))

pub moment_of-put : (k : ℕ) (es : List Event) (f : FileNo) (bytes : Vec ℕ) → k < calls_in es → moment_of (es ++ Put f bytes ∷ []) k ≡ moment_of es k
unfolding moment_of
moment_of-put k es f bytes before = ap (replayed first_moment) (first_calls-put k es f bytes before)

pub agrees_put : (n : ℕ) (before stored : FileNo → File) (bytes : List ℕ) (es : List Event) (f : FileNo) (piece : Vec ℕ) → Agrees n before bytes es
    → stored f ≡ firm_file piece.items → ((q : FileNo) → q ≢ f → stored q ≡ before q) → Agrees n stored bytes (es ++ Put f piece ∷ [])
agrees_put n before stored bytes es f piece agrees here others =
    let step : led (es ++ Put f piece ∷ []) ≡ with_file f (firm_file piece.items) (led es) = replayed-more first_moment es (Put f piece) in
    record {
      calls_are = calls_in-put es f piece ∙ agrees.calls_are;
      files_are = λ q. ap (λ (m : Moment). file_in m.folder q) step ∙ (elim (cases_file q f) [
        | inl same ↦ subst (λ p. file_in (with_file f (firm_file piece.items) (led es)).folder p ≡ stored p) (sym same)
            (file_in-insert (led es).folder f (firm_file piece.items) ∙ sym here)
        | inr differ ↦ file_in-insert_other (led es).folder f q (firm_file piece.items) differ ∙ agrees.files_are q ∙ sym (others q differ)
      ]);
      said_is = ap (λ (m : Moment). m.said) step ∙ agrees.said_is;
    }

pub agrees_empty : (stored : FileNo → File) (bytes : List ℕ) (es : List Event) → ((f : FileNo) → stored f ≡ file_in first_moment.folder f) → bytes ≡ [] → es ≡ [] → Agrees 0 stored bytes es
unfolding replayed calls_in
agrees_empty stored bytes es files said events = record {
  calls_are = ap calls_in events;
  files_are = λ f. ap (λ (list : List Event). file_in (replayed first_moment list).folder f) events ∙ sym (files f);
  said_is = ap (λ (list : List Event). (replayed first_moment list).said) events ∙ sym said;
}
