-- Reading a text in pieces.
use Rattle.std.proofs.Common.{◌≡◌, ◌∙◌, ◌⊎◌, ℕ, zero, suc, ◌+◌, ◌-◌, ◌*◌, ◌<◌, ◌≤◌, min, Bool, List, ◌++◌, length, take, drop, refl, sym, ap, subst, inl, inr, arith, length-append}
use Rattle.std.proofs.lemmas.Bool.{cases_lt}
use Rattle.std.specs.Prelude.{IsTrue, Some, is_some, Result, Ok}
use Rattle.std.proofs.lemmas.List.{take-append-drop, take_at, take_all, take-take, drop-take, length-take-le, length-drop}
use Rattle.shelf_model.specs.World.{World, now}
use Rattle.shelf_model.specs.declared.fault.Failed.{Failed}
use Rattle.shelf_model.specs.Calls.{Told, Fetched}
use Rattle.shelf_model.proofs.Runs.{goes_on, at_end, told_then}
use Rattle.file_writes.specs.Writes.{pieces}
use Rattle.script_runner.specs.Calls.{fetch_calls}
use Rattle.script_runner.specs.Fetching.{OnlyFetched, IsText}

-- the bytes are the front of the text at the path, which is there where any were read
pub record IsFront (path bytes : List ℕ) (w : World) : Type 0 where
  pub there : 0 < length bytes → IsTrue (is_some (w.texts path))
  pub same : (text : List ℕ) → w.texts path ≡ Some text → bytes ≡ take (length bytes) text

-- the calls so far: each but the last one read a whole piece
pub record HasCalled (path : List ℕ) (most : ℕ) (bytes : List ℕ) (old new : World) : Type 0 where
  pub calls : new.clock ≤ old.clock + pieces (length bytes)
  pub full : (length bytes ≡ 2048 * pieces (length bytes)) ⊎ (length bytes ≡ most + 1) ⊎ ((text : List ℕ) → old.texts path ≡ Some text → length text ≤ length bytes)

-- one more call that read something
called_more : (path bytes before after : List ℕ) (most count : ℕ) (old mid new : World) → mid.texts ≡ old.texts → length bytes ≤ most → length before ≡ min (most + 1 - length bytes) 2048
    → HasCalled path most bytes old mid → Fetched path (length bytes) before after (Ok count) mid new → (count ≡ 0 → ⊥) → length (take count after) ≡ count
    → HasCalled path most (bytes ++ take count after) old new
called_more path bytes before after most count old mid new texts few room so_far did some piece = record {
  calls = let within : mid.clock ≤ old.clock + pieces (length bytes) = so_far.calls in subst (λ n. new.clock ≤ old.clock + pieces n) (sym total) (omega (arith, within, clock, steps));
  full = subst (λ n. (n ≡ 2048 * pieces n) ⊎ (n ≡ most + 1) ⊎ ((t : List ℕ) → old.texts path ≡ Some t → length t ≤ n)) (sym total) then_full;
}
  where
    text : List ℕ
    text = did.ok.0

    there : old.texts path ≡ Some text
    there = ap (λ t. t path) (sym texts) ∙ did.ok.1

    counted : count ≡ min (length before) (length text - length bytes)
    counted = did.ok.2.count

    clock : new.clock ≡ mid.clock + 1
    clock = did.elsewhere.ticks.clock_is

    positive : 0 < count
    positive = above count some
      where
        above : (n : ℕ) → (n ≡ 0 → ⊥) → 0 < n
        above zero h = absurd (h refl)
        above (suc n) h = omega arith

    total : length (bytes ++ take count after) ≡ length bytes + count
    total = length-append bytes (take count after) ∙ ap (λ k. length bytes + k) piece

    multiple : length bytes ≡ 2048 * pieces (length bytes)
    multiple = elim so_far.full [
      | inl whole ↦ whole
      | inr rest ↦ elim rest [
        | inl last ↦ absurd (omega (arith, last, few))
        | inr ended ↦ absurd (let short : length text ≤ length bytes = ended text there in omega (arith, short, counted, positive))
      ]
    ]

    steps : pieces (length bytes + count) ≡ pieces (length bytes) + 1
    steps = one_more (length bytes) count (pieces (length bytes)) multiple positive (omega (arith, counted, room))
      where
        one_more : (a n p : ℕ) → a ≡ 2048 * p → 0 < n → n ≤ 2048 → pieces (a + n) ≡ p + 1
        one_more a n p x y z = omega (arith, x, y, z)

    then_full : (length bytes + count ≡ 2048 * pieces (length bytes + count)) ⊎ (length bytes + count ≡ most + 1) ⊎ ((t : List ℕ) → old.texts path ≡ Some t → length t ≤ length bytes + count)
    then_full = elim (cases_lt count 2048) [
      | inr whole ↦ inl (let most_piece : count ≤ 2048 = omega (arith, counted, room) in omega (arith, whole, most_piece, steps, multiple))
      | inl part ↦ elim (cases_lt (length text) (length bytes + length before)) [
        | inl short ↦ inr (inr (λ t is. let same : text ≡ t = same_text text t (sym there ∙ is) in let size : length text ≡ length t = ap length same in omega (arith, short, counted, size)))
        | inr long ↦ inr (inl (omega (arith, long, counted, room, part, few)))
      ]
    ]
      where
        same_text : (a b : List ℕ) → Some a ≡ Some b → a ≡ b
        same_text a b e = cc

-- the first of two parts of a list, and the second
take_both : (m n : ℕ) (xs : List ℕ) → take (m + n) xs ≡ take m xs ++ take n (drop m xs)
take_both m n xs =
    sym (take-append-drop m (take (m + n) xs))
    ∙ (λ i. take-take m (m + n) xs (more m n) i ++ drop-take m n xs i)
  where
    more : (a b : ℕ) → a ≤ a + b
    more a b = omega arith

-- what stands at a moment stands still over a fetch
same_moment : (path : List ℕ) (at : ℕ) (before after : List ℕ) (result : Result ℕ Failed) (old new : World) → Fetched path at before after result old new → now new ≡ now old
same_moment path at before after result old new did = λ i. record { folder = did.elsewhere.folder_is i; said = did.said_is i }

fetched_then : (path : List ℕ) (at : ℕ) (before after : List ℕ) (result : Result ℕ Failed) (old mid new : World) → OnlyFetched old mid → Fetched path at before after result mid new → OnlyFetched old new
fetched_then path at before after result old mid new run did = record {
  moments = goes_on old mid new (λ m. m ≡ now old) run.moments did.elsewhere.ticks
      (same_moment path at before after result mid new did ∙ at_end old mid (λ m. m ≡ now old) run.moments);
  texts_are = did.elsewhere.texts_are ∙ run.texts_are;
  home_is = did.elsewhere.home_is ∙ run.home_is;
  inside_is = did.elsewhere.inside_is ∙ run.inside_is;
  strays_are = did.elsewhere.strays_are ∙ run.strays_are;
}

-- where nothing was read any more, the text is read
read_all : (path bytes before after : List ℕ) (most count : ℕ) (old mid new : World) → mid.texts ≡ old.texts → IsFront path bytes old
    → Fetched path (length bytes) before after (Ok count) mid new → count ≡ 0 → 0 < length before → length bytes ≤ most + 1 → IsText path most bytes old
read_all path bytes before after most count old mid new texts front did none some within =
    let text : List ℕ = did.ok.0 in
    let there : old.texts path ≡ Some text = ap (λ t. t path) (sym texts) ∙ did.ok.1 in
    let counted : count ≡ min (length before) (length text - length bytes) = did.ok.2.count in
    let short : length text ≤ length bytes = omega arith in
    let same : bytes ≡ text = front.same text there ∙ take_all (length bytes) text short in
    let fits : length text ≤ most + 1 = omega (arith, ap length same) in
    record { text = text; there = there; bytes_are = same ∙ sym (take_all (most + 1) text fits) }

-- what was read goes on the front
read_more : (path bytes before after : List ℕ) (count : ℕ) (old mid new : World) → mid.texts ≡ old.texts → IsFront path bytes old
    → Fetched path (length bytes) before after (Ok count) mid new → IsFront path (bytes ++ take count after) old
read_more path bytes before after count old mid new texts front did =
    let text : List ℕ = did.ok.0 in
    let there : old.texts path ≡ Some text = ap (λ t. t path) (sym texts) ∙ did.ok.1 in
    let counted : count ≡ min (length before) (length text - length bytes) = did.ok.2.count in
    let filled : after ≡ take count (drop (length bytes) text) ++ drop count before = did.ok.2.bytes_are in
    record {
      there = λ _. ap is_some there;
      same = λ other other_there.
          let one : text ≡ other = cc in
          let long : count ≤ length (drop (length bytes) text) = simp length-drop (omega arith) in
          let piece_long : length (take count (drop (length bytes) text)) ≡ count = length-take-le count (drop (length bytes) text) long in
          let piece : take count after ≡ take count (drop (length bytes) text) =
          ap (take count) filled ∙ take_at (take count (drop (length bytes) text)) (drop count before) count piece_long in
          let both : bytes ++ take count after ≡ take (length bytes + count) text =
          (λ i. front.same text there i ++ piece i) ∙ sym (take_both (length bytes) count text) in
          let total : length (bytes ++ take count after) ≡ length bytes + count =
          length-append bytes (take count after) ∙ ap (λ k. length bytes + k) (ap length piece ∙ piece_long) in
          both ∙ ap (λ k. take k text) (sym total) ∙ ap (take (length (bytes ++ take count after))) one;
    }

module _ {S : Type 0} (tells : S → Bool) (world : S → World) where
  pub fetched_on : (path : List ℕ) (at : ℕ) (before after : List ℕ) (result : Result ℕ Failed) (old s t : S)
      → Told tells old s (OnlyFetched (world old) (world s)) → Told tells s t (Fetched path at before after result (world s) (world t))
      → Told tells old t (OnlyFetched (world old) (world t))
  fetched_on path at before after result old s t so_far call =
      told_then tells old s t _ _ _ so_far call (λ _ run did. fetched_then path at before after result (world old) (world s) (world t) run did)

  pub all_is_read : (path bytes before after : List ℕ) (at most count : ℕ) (old s t : S) → at ≡ length bytes
      → Told tells old s (OnlyFetched (world old) (world s)) → Told tells s t (Fetched path at before after (Ok count) (world s) (world t))
      → (IsTrue (tells s) → IsFront path bytes (world old)) → count ≡ 0 → 0 < length before → length bytes ≤ most + 1
      → IsTrue (tells t) → IsText path most bytes (world old)
  all_is_read path bytes before after at most count old s t at_is so_far call front none some within tells_t =
      read_all path bytes before after most count (world old) (world s) (world t) (so_far.did (call.before tells_t)).texts_are
      (front (call.before tells_t)) (subst (λ k. Fetched path k before after (Ok count) (world s) (world t)) at_is (call.did tells_t)) none some within

  pub more_is_read : (path bytes before after : List ℕ) (at count : ℕ) (old s t : S) → at ≡ length bytes
      → Told tells old s (OnlyFetched (world old) (world s)) → Told tells s t (Fetched path at before after (Ok count) (world s) (world t))
      → (IsTrue (tells s) → IsFront path bytes (world old)) → IsTrue (tells t) → IsFront path (bytes ++ take count after) (world old)
  more_is_read path bytes before after at count old s t at_is so_far call front tells_t =
      read_more path bytes before after count (world old) (world s) (world t) (so_far.did (call.before tells_t)).texts_are
      (front (call.before tells_t)) (subst (λ k. Fetched path k before after (Ok count) (world s) (world t)) at_is (call.did tells_t))

  pub called_on : (path bytes before after : List ℕ) (at most count : ℕ) (old s t : S) → at ≡ length bytes → length bytes ≤ most → length before ≡ min (most + 1 - length bytes) 2048
      → Told tells old s (OnlyFetched (world old) (world s)) → (IsTrue (tells s) → HasCalled path most bytes (world old) (world s))
      → Told tells s t (Fetched path at before after (Ok count) (world s) (world t)) → (count ≡ 0 → ⊥) → length (take count after) ≡ count
      → IsTrue (tells t) → HasCalled path most (bytes ++ take count after) (world old) (world t)
  called_on path bytes before after at most count old s t at_is few room so_far called call some piece tells_t =
      called_more path bytes before after most count (world old) (world s) (world t) (so_far.did (call.before tells_t)).texts_are few room (called (call.before tells_t))
      (subst (λ k. Fetched path k before after (Ok count) (world s) (world t)) at_is (call.did tells_t)) some piece

  -- the last call
  pub called_last : (path bytes before after : List ℕ) (at most : ℕ) (result : Result ℕ Failed) (old s t : S) → length bytes ≤ most + 1
      → (IsTrue (tells s) → HasCalled path most bytes (world old) (world s)) → Told tells s t (Fetched path at before after result (world s) (world t))
      → IsTrue (tells t) → (world t).clock ≤ (world old).clock + fetch_calls most
  called_last path bytes before after at most result old s t few called call tells_t =
      let so_far : (world s).clock ≤ (world old).clock + pieces (length bytes) = (called (call.before tells_t)).calls in
      let clock : (world t).clock ≡ (world s).clock + 1 = (call.did tells_t).elsewhere.ticks.clock_is in
      let up : pieces (length bytes) ≤ pieces (most + 1) = rises (length bytes) (most + 1) few in
      omega (arith, so_far, clock, up)
    where
      rises : (a b : ℕ) → a ≤ b → pieces a ≤ pieces b
      rises a b h = omega (arith, h)

  pub called_none : (path bytes : List ℕ) (most : ℕ) (old s : S) → length bytes ≤ most + 1
      → (IsTrue (tells s) → HasCalled path most bytes (world old) (world s)) → IsTrue (tells s) → (world s).clock ≤ (world old).clock + fetch_calls most
  called_none path bytes most old s few called tells_s =
      let so_far : (world s).clock ≤ (world old).clock + pieces (length bytes) = (called tells_s).calls in
      let up : pieces (length bytes) ≤ pieces (most + 1) = rises (length bytes) (most + 1) few in
      omega (arith, so_far, up)
    where
      rises : (a b : ℕ) → a ≤ b → pieces a ≤ pieces b
      rises a b h = omega (arith, h)
