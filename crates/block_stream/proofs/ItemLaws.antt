-- Values in the bytes of a file: the first and the last of them, and that a stream gives them.
use Rattle.std.proofs.Common.{All, ◌≡◌, ℕ, suc, ◌+◌, ◌-◌, ◌*◌, ◌<◌, ◌≤◌, List, [], ◌∷◌, ◌++◌, length, take, drop, map, replicate, get_or, refl, sym, ap, subst, ◌∙◌, arith}
use Rattle.std.specs.Prelude.{◌^◌, Result, Option, Ok, Err, Some, None}
use Rattle.std.specs.List.{flat_map}
use Rattle.std.specs.Int.{w64, to_be_bytes}
use Rattle.std.proofs.lemmas.Nat.{from_be_bytes-to_be_bytes_8}
use Rattle.std.proofs.lemmas.List.{append-nil, drop-drop, drop_at, length-append, length-take-le, length_push, map_push, nil_from_length, take-append-drop, take_more, take_all, take-map, get_or-map}
use Rattle.std.proofs.lemmas.List.Elements.{All-nil, All-push, All-head, All-tail, All-take, All-get_or}
use Rattle.rec_words.specs.declared.rec.Rec.{Rec}
use Rattle.shelf_model.specs.declared.fault.StreamFault.{StreamFault}
use Rattle.shelf_model.specs.declared.fault.StreamFault.TheVariants.{Shelf, Damaged}
use Rattle.block_stream.specs.declared.reading.Reading.{Reading}
use Rattle.block_stream.specs.Records.{words_of, record_of, records_of, record_bytes, from_place, record_at}
use Rattle.block_stream.specs.Reads.{IsRecordOf, IsAnswer, SameRange, GoesOn, GoesBack, place_of}
use Rattle.block_stream.specs.Items.{item_record, item_bytes, AreItems, AreAhead, AreBehind, GivesFirst, GivesLast}
use Rattle.block_stream.proofs.RecordLaws.{length-word_bytes, records_append, records_more, take-records_of, nth_record, scaled}

-- the bytes one record further
one_further : (k place : ℕ) (bytes : List ℕ) → drop (8 * k) (from_place k place bytes) ≡ from_place k (place + 1) bytes
one_further k place bytes =
    let far : place * (8 * k) + 8 * k ≡ (place + 1) * (8 * k) = omega arith in
    drop-drop (8 * k) (place * (8 * k)) bytes ∙ ap (λ m. drop m bytes) far

module _ {T : Type 0} (is_value : T → Type 0) (words : T → List ℕ) where
  -- one of the values is that of the record at its place
  pub nth_item : (k place i : ℕ) (bytes : List ℕ) (xs : List T) (d : T) → AreItems is_value words k place bytes xs → i < length xs
      → IsRecordOf words k (place + i) bytes (get_or xs i d)
  nth_item k place i bytes xs d items below =
      let e : Rec = item_record words d in
      let far : place * (8 * k) + i * (8 * k) ≡ (place + i) * (8 * k) = omega arith in
      let at : item_record words (get_or xs i d) ≡ record_at k (place + i) bytes =
      sym (get_or-map (item_record words) xs i d e below) ∙ ap (λ rs. get_or rs i e) items.same ∙ nth_record k (length xs) i (from_place k place bytes) e below
      ∙ ap (record_of k) (drop-drop (i * (8 * k)) (place * (8 * k)) bytes ∙ ap (λ m. drop m bytes) far) in
      record {
        whole = let all : (place + length xs) * (8 * k) ≤ length bytes = items.whole in
            let within : (place + i + 1) * (8 * k) ≤ (place + length xs) * (8 * k) = scaled (place + i + 1) (place + length xs) (8 * k) (omega arith) in omega arith;
        same = ap (λ (r : Rec). r.w) at;
      }

  -- the values behind the first
  pub items_rest : (k place : ℕ) (bytes : List ℕ) (x : T) (xs : List T) → AreItems is_value words k place bytes (x ∷ xs) → AreItems is_value words k (place + 1) bytes xs
  items_rest k place bytes x xs items = record {
    values = All-tail is_value x xs items.values;
    whole = let all : (place + suc (length xs)) * (8 * k) ≤ length bytes = items.whole in
        let same : (place + suc (length xs)) * (8 * k) ≡ (place + 1 + length xs) * (8 * k) = omega arith in omega arith;
    same = ap (drop 1) items.same ∙ ap (records_of k (length xs)) (one_further k place bytes);
  }

  -- the values before the last
  pub items_front : (k place m : ℕ) (bytes : List ℕ) (xs : List T) → m ≤ length xs → AreItems is_value words k place bytes xs → AreItems is_value words k place bytes (take m xs)
  items_front k place m bytes xs within items =
      let long : length (take m xs) ≡ m = length-take-le m xs within in
      record {
        values = All-take is_value m xs items.values;
        whole = let all : (place + length xs) * (8 * k) ≤ length bytes = items.whole in
            let less : (place + length (take m xs)) * (8 * k) ≤ (place + length xs) * (8 * k) = scaled (place + length (take m xs)) (place + length xs) (8 * k) (omega arith) in omega arith;
        same = sym (take-map (item_record words) m xs) ∙ ap (take m) items.same ∙ take-records_of k m (length xs) (from_place k place bytes) within
            ∙ ap (λ n. records_of k n (from_place k place bytes)) (sym long);
      }

  module _ (differ : (x y : T) → is_value x → is_value y → words x ≡ words y → x ≡ y) where
    -- the value of a record is no other
    same_value : (k place : ℕ) (bytes : List ℕ) (x y : T) → is_value x → is_value y → IsRecordOf words k place bytes x → IsRecordOf words k place bytes y → x ≡ y
    same_value k place bytes x y is_x is_y of_x of_y = differ x y is_x is_y (of_x.same ∙ sym of_y.same)

    first_item : (old : Reading) (bytes : List ℕ) (y : T) (ys : List T) → AreAhead is_value words old bytes (y ∷ ys) → IsRecordOf words old.words (place_of old) bytes y
    first_item old bytes y ys ahead =
        let here : place_of old + 0 ≡ place_of old = omega arith in
        subst (λ p. IsRecordOf words old.words p bytes y) here (nth_item old.words (place_of old) 0 bytes (y ∷ ys) y ahead.items (omega arith))

    last_item : (old : Reading) (bytes : List ℕ) (m : ℕ) (xs : List T) (d : T) → length xs ≡ m + 1 → AreBehind is_value words old bytes xs → IsRecordOf words old.words (place_of old - 1) bytes (get_or xs m d)
    last_item old bytes m xs d long behind =
        let all : old.bound + length xs ≡ place_of old = behind.all in
        let here : old.bound + m ≡ place_of old - 1 = omega arith in
        subst (λ p. IsRecordOf words old.words p bytes (get_or xs m d)) here (nth_item old.words old.bound m bytes xs d behind.items (omega arith))

    -- a stream that goes forward gives the first of the values that are ahead
    pub first_ahead : (old new : Reading) (bytes : List ℕ) (xs : List T) (result : Result (Option T) StreamFault) → SameRange old new → GoesOn is_value old new result
        → IsAnswer is_value words old.words (place_of old) bytes result → AreAhead is_value words old bytes xs → GivesFirst (AreAhead is_value words new bytes) xs result
    first_ahead old new bytes xs (Ok None) same goes answer ahead =
        let all : place_of old + length xs ≡ old.bound = ahead.all in let ended : place_of old ≡ old.bound = goes.0 in nil_from_length xs (omega arith)
    first_ahead old new bytes xs (Err Shelf) same goes answer ahead = tt
    first_ahead old new bytes [] (Err (Damaged f at)) same goes answer ahead =
        let all : place_of old + 0 ≡ old.bound = ahead.all in let left : place_of old < old.bound = goes.0 in absurd (omega arith)
    first_ahead old new bytes (y ∷ ys) (Err (Damaged f at)) same goes answer ahead =
        let first : IsRecordOf words old.words (place_of old) bytes y = first_item old bytes y ys ahead in
        answer first.whole y (All-head is_value y ys ahead.items.values) first.same
    first_ahead old new bytes [] (Ok (Some x)) same goes answer ahead =
        let all : place_of old + 0 ≡ old.bound = ahead.all in let left : place_of old < old.bound = goes.1 in absurd (omega arith)
    first_ahead old new bytes (y ∷ ys) (Ok (Some x)) same goes answer ahead =
        let first : IsRecordOf words old.words (place_of old) bytes y = first_item old bytes y ys ahead in
        let one : y ≡ x = same_value old.words (place_of old) bytes y x (All-head is_value y ys ahead.items.values) goes.0 first answer in
        let rest : AreItems is_value words old.words (place_of old + 1) bytes ys = items_rest old.words (place_of old) bytes y ys ahead.items in (
          ys,
          ap (λ z. z ∷ ys) one,
          record {
            items = subst (λ p. AreItems is_value words new.words p bytes ys) (sym goes.2) (subst (λ k. AreItems is_value words k (place_of old + 1) bytes ys) (sym same.words_are) rest);
            all = let all : place_of old + suc (length ys) ≡ old.bound = ahead.all in let on : place_of new ≡ place_of old + 1 = goes.2 in let bound : new.bound ≡ old.bound = same.bound_is in omega arith;
          },
        )

    -- a stream that comes from behind gives the last of the values that are behind
    pub last_behind : (old new : Reading) (bytes : List ℕ) (xs : List T) (result : Result (Option T) StreamFault) → SameRange old new → GoesBack is_value old new result
        → IsAnswer is_value words old.words (place_of old - 1) bytes result → AreBehind is_value words old bytes xs → GivesLast (AreBehind is_value words new bytes) xs result
    last_behind old new bytes xs (Ok None) same goes answer behind =
        let all : old.bound + length xs ≡ place_of old = behind.all in let ended : place_of old ≡ old.bound = goes.0 in nil_from_length xs (omega arith)
    last_behind old new bytes xs (Err Shelf) same goes answer behind = tt
    last_behind old new bytes [] (Err (Damaged f at)) same goes answer behind =
        let all : old.bound + 0 ≡ place_of old = behind.all in let left : old.bound < place_of old = goes.0 in absurd (omega arith)
    last_behind old new bytes (y ∷ ys) (Err (Damaged f at)) same goes answer behind =
        let last : IsRecordOf words old.words (place_of old - 1) bytes (get_or (y ∷ ys) (length ys) y) = last_item old bytes (length ys) (y ∷ ys) y (omega arith) behind in
        answer last.whole (get_or (y ∷ ys) (length ys) y) (All-get_or is_value (y ∷ ys) (length ys) y (omega arith) behind.items.values) last.same
    last_behind old new bytes [] (Ok (Some x)) same goes answer behind =
        let all : old.bound + 0 ≡ place_of old = behind.all in let left : old.bound < place_of old = goes.1 in absurd (omega arith)
    last_behind old new bytes (y ∷ ys) (Ok (Some x)) same goes answer behind =
        let m : ℕ = length ys in
        let last : IsRecordOf words old.words (place_of old - 1) bytes (get_or (y ∷ ys) m y) = last_item old bytes m (y ∷ ys) y (omega arith) behind in
        let one : get_or (y ∷ ys) m y ≡ x =
        same_value old.words (place_of old - 1) bytes (get_or (y ∷ ys) m y) x (All-get_or is_value (y ∷ ys) m y (omega arith) behind.items.values) goes.0 last answer in
        let rest : AreItems is_value words old.words old.bound bytes (take m (y ∷ ys)) = items_front old.words old.bound m bytes (y ∷ ys) (omega arith) behind.items in
        let long : length (take m (y ∷ ys)) ≡ m = length-take-le m (y ∷ ys) (omega arith) in (
          take m (y ∷ ys),
          sym (take_all (m + 1) (y ∷ ys) (omega arith)) ∙ take_more (y ∷ ys) m y (omega arith) ∙ ap (λ z. take m (y ∷ ys) ++ z ∷ []) one,
          record {
            items = subst (λ p. AreItems is_value words new.words p bytes (take m (y ∷ ys))) (sym same.bound_is)
                (subst (λ k. AreItems is_value words k old.bound bytes (take m (y ∷ ys))) (sym same.words_are) rest);
            all = let all : old.bound + suc m ≡ place_of old = behind.all in let back : place_of old ≡ place_of new + 1 = goes.2 in let bound : new.bound ≡ old.bound = same.bound_is in omega arith;
          },
        )

-- words of 64 bits are read back
words_back : (ws rest : List ℕ) → All (λ word. word < 2 ^ 64) ws → words_of (length ws) (flat_map (to_be_bytes w64) ws ++ rest) ≡ ws
words_back [] rest fits = refl
words_back (x ∷ ws) rest fits =
    let first : x < 2 ^ 64 = All-head (λ word. word < 2 ^ 64) x ws fits in
    (λ t. from_be_bytes-to_be_bytes_8 x first t ∷ words_of (length ws) (flat_map (to_be_bytes w64) ws ++ rest))
    ∙ ap (λ more. x ∷ more) (words_back ws rest (All-tail (λ word. word < 2 ^ 64) x ws fits))

-- a record's bytes are read back, where the words behind them are 0
pub record_back : (k : ℕ) (ws rest : List ℕ) → k ≤ length ws → All (λ word. word < 2 ^ 64) ws → drop k ws ≡ replicate {A = ℕ} (8 - k) 0
    → record_of k (flat_map (to_be_bytes w64) (take k ws) ++ rest) ≡ record { w = ws }
record_back k ws rest long fits unused =
    let front : words_of k (flat_map (to_be_bytes w64) (take k ws) ++ rest) ≡ take k ws =
    ap (λ n. words_of n (flat_map (to_be_bytes w64) (take k ws) ++ rest)) (sym (length-take-le k ws long)) ∙ words_back (take k ws) rest (All-take (λ word. word < 2 ^ 64) k ws fits) in
    ap (λ (vs : List ℕ). let r : Rec = record { w = vs } in r) ((λ t. front t ++ sym unused t) ∙ take-append-drop k ws)

-- a value more stands behind the others
pub item_more : {T : Type 0} (is_value : T → Type 0) (words : T → List ℕ) (k : ℕ) (bytes : List ℕ) (xs : List T) (x : T) → k ≤ length (words x) → All (λ word. word < 2 ^ 64) (words x)
    → drop k (words x) ≡ replicate {A = ℕ} (8 - k) 0 → is_value x → AreItems is_value words k 0 bytes xs → length bytes ≡ length xs * (8 * k)
    → AreItems is_value words k 0 (bytes ++ item_bytes words k x) (xs ++ x ∷ []) × (length (bytes ++ item_bytes words k x) ≡ length (xs ++ x ∷ []) * (8 * k))
item_more is_value words k bytes xs x long fits unused is items all =
    let n : ℕ = length xs in
    let piece : List ℕ = item_bytes words k x in
    let eight : length piece ≡ 8 * k = length-word_bytes (take k (words x)) ∙ ap (λ m. 8 * m) (length-take-le k (words x) long) in
    let total : length (bytes ++ piece) ≡ length bytes + length piece = length-append bytes piece in
    let count : length (xs ++ x ∷ []) ≡ n + 1 = length_push xs x in
    let whole : length (bytes ++ piece) ≡ length (xs ++ x ∷ []) * (8 * k) =
    total ∙ (λ t. all t + eight t) ∙ (let same : n * (8 * k) + 8 * k ≡ (n + 1) * (8 * k) = omega arith in same) ∙ ap (λ m. m * (8 * k)) (sym count) in
    let front : from_place k 0 (bytes ++ piece) ≡ bytes ++ piece = none k (bytes ++ piece) in
    let fits_bytes : n * (8 * k) ≤ length bytes = omega (arith, all) in
    let earlier : map (item_record words) xs ≡ records_of k n (bytes ++ piece) =
    items.same ∙ ap (records_of k n) (none k bytes) ∙ sym (records_append k n bytes piece fits_bytes) in
    let last : item_record words x ≡ record_of k (drop (n * (8 * k)) (bytes ++ piece)) =
    sym (record_back k (words x) [] long fits unused) ∙ ap (record_of k) (append-nil piece ∙ sym (drop_at bytes piece (n * (8 * k)) all)) in (
      record {
        values = All-push is_value xs x items.values is;
        whole = let zero_place : (0 + length (xs ++ x ∷ [])) * (8 * k) ≡ length (xs ++ x ∷ []) * (8 * k) = omega arith in omega (arith, whole, zero_place);
        same = map_push (item_record words) xs x ∙ (λ t. earlier t ++ last t ∷ []) ∙ sym (records_more k n (bytes ++ piece))
            ∙ (λ t. records_of k (sym count t) (sym front t));
      },
      whole,
    )
  where
    none : (k : ℕ) (bytes : List ℕ) → from_place k 0 bytes ≡ bytes
    none k bytes = let z : 0 * (8 * k) ≡ 0 = omega arith in ap (λ m. drop m bytes) z

-- no value stands in no bytes
pub no_items : {T : Type 0} (is_value : T → Type 0) (words : T → List ℕ) (k : ℕ) (bytes : List ℕ) → AreItems is_value words k 0 bytes []
no_items is_value words k bytes = record {
  values = All-nil is_value;
  whole = let z : (0 + 0) * (8 * k) ≡ 0 = omega arith in omega (arith, z);
  same = refl;
}

-- the same of what was put as a record
pub item_put : {T : Type 0} (is_value : T → Type 0) (words : T → List ℕ) (k j m : ℕ) (before after : List ℕ) (r : Rec) (xs : List T) (x : T) → k ≡ m → j ≡ k → m ≤ 8 → length (words x) ≡ 8
    → All (λ word. word < 2 ^ 64) (words x) → drop m (words x) ≡ replicate {A = ℕ} (8 - m) 0 → is_value x → r.w ≡ words x → after ≡ before ++ record_bytes k r
    → AreItems is_value words k 0 before xs → length before ≡ length xs * (8 * k)
    → AreItems is_value words j 0 after (xs ++ x ∷ []) × (length after ≡ length (xs ++ x ∷ []) * (8 * j))
item_put is_value words k j m before after r xs x width same most eight fits unused is is_words after_is items all =
    let bytes : after ≡ before ++ item_bytes words k x = after_is ∙ ap (λ w. before ++ flat_map (to_be_bytes w64) (take k w)) is_words in
    let long : k ≤ length (words x) = omega arith in
    let rest : drop k (words x) ≡ replicate {A = ℕ} (8 - k) 0 = subst (λ i. drop i (words x) ≡ replicate {A = ℕ} (8 - i) 0) (sym width) unused in
    let more = item_more is_value words k before xs x long fits rest is items all in (
      subst (λ b. AreItems is_value words j 0 b (xs ++ x ∷ [])) (sym bytes) (subst (λ i. AreItems is_value words i 0 (before ++ item_bytes words k x) (xs ++ x ∷ [])) (sym same) more.0),
      ap length bytes ∙ more.1 ∙ ap (λ i. length (xs ++ x ∷ []) * (8 * i)) (sym same),
    )
