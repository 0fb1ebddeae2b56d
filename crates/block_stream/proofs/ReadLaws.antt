-- What a read puts into a window, and what the records there say.
use Rattle.std.proofs.Common.{◌≡◌, ◌≢◌, ℕ, ◌+◌, ◌-◌, ◌*◌, ◌/◌, ◌<◌, ◌≤◌, min, List, [], ◌++◌, All, length, take, drop, get_or, refl, sym, ap, subst, ◌∙◌, inl, inr, arith}
use Rattle.std.proofs.Math.Nat.{div-mul-le_self, lt-div-mul-add}
use Rattle.std.proofs.lemmas.List.{append_assoc, take-append-drop, length-take-le, length-drop, get_or-take, take-take, drop-drop}
use Rattle.rec_words.specs.declared.rec.Rec.{Rec}
use Rattle.std.specs.Prelude.{Err, Some, IfSome, slice_get}
use Rattle.std.proofs.lemmas.Bool.{cases_lt}
use Rattle.std.proofs.lemmas.Option.{slice_get-get_or, slice_get_past}
use Rattle.std.proofs.lemmas.List.Elements.{All-more}
use Rattle.shelf_model.specs.declared.file_no.FileNo.{FileNo}
use Rattle.shelf_model.specs.declared.fault.StreamFault.{StreamFault}
use Rattle.shelf_model.specs.declared.fault.StreamFault.TheVariants.{Damaged}
use Rattle.shelf_model.specs.Calls.{Copied}
use Rattle.block_stream.specs.Records.{record_of, records_of, from_place, record_at, IsWhole}
use Rattle.block_stream.specs.Reads.{HoldsRecords, DidLoad, IsRecordOf, IsDamaged, IsTorn, IsAnswer, AreValues, IsNoValueAt}
use Rattle.block_stream.proofs.RecordLaws.{length-records_of, records_append, take-records_of, nth_record, scaled}

-- the records of a read are those of the file, as many as are whole
pub loaded_front : (k place at wanted got n : ℕ) (window : List Rec) (before after piece rest source : List ℕ)
    → 1 ≤ k → at ≡ place * (8 * k) → length before ≡ wanted * (8 * k) → Copied source at before after got → piece ≡ after ++ rest → n ≡ got / (8 * k)
    → take n window ≡ records_of k n piece → DidLoad k place wanted n window source
loaded_front k place at wanted got n window before after piece rest source some at_is room read piece_is n_is held =
    let copied : Copied source (place * (8 * k)) before after got = subst (λ a. Copied source a before after got) at_is read in
    let width : 0 < 8 * k = omega arith in
    let count : got ≡ min (length before) (length source - place * (8 * k)) = copied.count in
    let down : n * (8 * k) ≤ got = let d : got / (8 * k) * (8 * k) ≤ got = div-mul-le_self got (8 * k) in let e : n * (8 * k) ≡ got / (8 * k) * (8 * k) = ap (λ m. m * (8 * k)) n_is in omega arith in
    let up : got < n * (8 * k) + 8 * k = let d : got < got / (8 * k) * (8 * k) + 8 * k = lt-div-mul-add width in let e : n * (8 * k) ≡ got / (8 * k) * (8 * k) = ap (λ m. m * (8 * k)) n_is in omega arith in
    let behind : List ℕ = drop (place * (8 * k)) source in
    let long : length behind ≡ length source - place * (8 * k) = length-drop (place * (8 * k)) source in
    let enough : length (take got behind) ≡ got = length-take-le got behind (omega arith) in
    let fits : n * (8 * k) ≤ length (take got behind) = omega arith in
    let front : piece ≡ take got behind ++ (drop got before ++ rest) =
    piece_is ∙ ap (λ bytes. bytes ++ rest) copied.bytes_are ∙ append_assoc (take got behind) (drop got before) rest in
    record {
      held = record {
        whole = λ some_n. let one : 1 * (8 * k) ≤ n * (8 * k) = scaled 1 n (8 * k) (omega (arith, some_n)) in omega arith;
        same = held ∙ ap (records_of k n) front ∙ records_append k n (take got behind) (drop got before ++ rest) fits
            ∙ sym (records_append k n (take got behind) (drop got behind) fits) ∙ ap (records_of k n) (take-append-drop got behind);
      };
      short = λ less. let full : (n + 1) * (8 * k) ≤ wanted * (8 * k) = scaled (n + 1) wanted (8 * k) (omega (arith, less)) in omega arith;
    }

-- the last record of a piece isn't whole where fewer were read than the piece has
pub torn_behind : (k end place wanted n : ℕ) (window : List Rec) (bytes : List ℕ) → wanted ≤ end → n < wanted → place ≡ end
    → DidLoad k (end - wanted) wanted n window bytes → length bytes < (place - 1 + 1) * (8 * k)
torn_behind k end place wanted n window bytes within less place_is did =
    let short : length bytes < (end - wanted + n + 1) * (8 * k) = did.short less in
    let far : (end - wanted + n + 1) * (8 * k) ≤ (place - 1 + 1) * (8 * k) = scaled (end - wanted + n + 1) (place - 1 + 1) (8 * k) (omega arith) in
    omega (arith, short, far)

-- a record of the window is the one at its place
pub held_record : (k base n i : ℕ) (window : List Rec) (bytes : List ℕ) (d : Rec) → HoldsRecords k base n window bytes → i < n
    → get_or window i d ≡ record_at k (base + i) bytes
held_record k base n i window bytes d held below =
    let far : base * (8 * k) + i * (8 * k) ≡ (base + i) * (8 * k) = omega arith in
    sym (get_or-take n window i d below) ∙ ap (λ rs. get_or rs i d) held.same ∙ nth_record k n i (from_place k base bytes) d below
    ∙ ap (record_of k) (drop-drop (i * (8 * k)) (base * (8 * k)) bytes ∙ ap (λ m. drop m bytes) far)

-- and it is whole
pub held_whole : (k base n i : ℕ) (window : List Rec) (bytes : List ℕ) → HoldsRecords k base n window bytes → i < n → IsWhole k (base + i) bytes
held_whole k base n i window bytes held below =
    let whole : (base + n) * (8 * k) ≤ length bytes = held.whole (omega arith) in
    let within : (base + i + 1) * (8 * k) ≤ (base + n) * (8 * k) = scaled (base + i + 1) (base + n) (8 * k) (omega arith) in
    omega arith

-- what is made of a record that waits is the value of the record at its place
pub gives_value : {T : Type 0} (words : T → List ℕ) (k j place base n i : ℕ) (window : List Rec) (bytes : List ℕ) (r d : Rec) (x : T)
    → HoldsRecords j base n window bytes → j ≡ k → i < n → base + i ≡ place → r ≡ get_or window i d → words x ≡ r.w → IsRecordOf words k place bytes x
gives_value words k j place base n i window bytes r d x held width below here is_r word = record {
  whole = let whole : IsWhole j (base + i) bytes = held_whole j base n i window bytes held below in
      let same : (base + i + 1) * (8 * j) ≡ (place + 1) * (8 * k) = (λ t. (here t + 1) * (8 * width t)) in omega arith;
  same = word ∙ ap (λ (q : Rec). q.w) (is_r ∙ held_record j base n i window bytes d held below ∙ (λ t. record_at (width t) (here t) bytes));
}

-- where no value is made of it, the record at its place is damaged
pub gives_damage : {T : Type 0} (is_value : T → Type 0) (words : T → List ℕ) (k j place base n i : ℕ) (window : List Rec) (bytes : List ℕ) (r d : Rec)
    → HoldsRecords j base n window bytes → j ≡ k → i < n → base + i ≡ place → r ≡ get_or window i d → ((x : T) → is_value x → words x ≢ r.w)
    → IsDamaged is_value words k place bytes
gives_damage is_value words k j place base n i window bytes r d held width below here is_r none =
    λ whole x is word. none x is (word ∙ ap (λ (q : Rec). q.w) (sym (is_r ∙ held_record j base n i window bytes d held below ∙ (λ t. record_at (width t) (here t) bytes))))

-- a record that isn't whole is damaged
pub torn_damage : {T : Type 0} (is_value : T → Type 0) (words : T → List ℕ) (k place : ℕ) (bytes : List ℕ) → length bytes < (place + 1) * (8 * k) → IsDamaged is_value words k place bytes
torn_damage is_value words k place bytes torn = λ whole _ _ _. absurd (omega (arith, torn, whole))

-- what is answered is damage, where it is found
pub torn_answer : (X : Type 0) (k place : ℕ) (bytes : List ℕ) (e : StreamFault) (f : FileNo) (at : ℕ) → e ≡ Damaged f at → length bytes < (place + 1) * (8 * k) → IsTorn {X = X} k place bytes (Err e)
torn_answer X k place bytes e f at is torn = subst (λ x. IsTorn {X = X} k place bytes (Err x)) (sym is) torn

pub damage_answer : {T : Type 0} (is_value : T → Type 0) (words : T → List ℕ) (k place : ℕ) (bytes : List ℕ) (e : StreamFault) (f : FileNo) (at : ℕ) → e ≡ Damaged f at
    → IsDamaged is_value words k place bytes → IsAnswer is_value words k place bytes (Err e)
damage_answer is_value words k place bytes e f at is damaged = subst (λ x. IsAnswer is_value words k place bytes (Err x)) (sym is) damaged

-- fewer of the records that a window holds
pub fewer_held : (k j place n m : ℕ) (window : List Rec) (bytes : List ℕ) → j ≡ k → n ≤ m → HoldsRecords j place m window bytes → HoldsRecords k place n window bytes
fewer_held k j place n m window bytes width fewer held =
    subst (λ i. HoldsRecords i place n window bytes) width (record {
      whole = λ some. let whole : (place + m) * (8 * j) ≤ length bytes = held.whole (omega (arith, some)) in
          let within : (place + n) * (8 * j) ≤ (place + m) * (8 * j) = scaled (place + n) (place + m) (8 * j) (omega arith) in omega (arith, whole, within);
      same = sym (take-take n m window fewer) ∙ ap (take n) held.same ∙ take-records_of j n m (from_place j place bytes) fewer;
    })

module _ {T : Type 0} (is_value : T → Type 0) (words : T → List ℕ) where
  -- one record more that is that of a value
  pub value_more : (n : ℕ) (records : List Rec) (d : Rec) (x : T) → n < length records → AreValues is_value words n records → is_value x → words x ≡ (get_or records n d).w
      → AreValues is_value words (n + 1) records
  value_more n records d x below so_far is word = All-more (λ r. (y : T) × is_value y × (words y ≡ r.w)) records n d below so_far (x, is, word)

  pub values_at : (n m : ℕ) (records : List Rec) → n ≡ m → AreValues is_value words n records → AreValues is_value words m records
  values_at n m records same values = subst (λ i. AreValues is_value words i records) same values

  -- of the front of a list
  pub values_front : (n m : ℕ) (records : List Rec) → n ≤ m → AreValues is_value words n (take m records) → AreValues is_value words n records
  values_front n m records fewer values = subst (All (λ r. (y : T) × is_value y × (words y ≡ r.w))) (take-take n m records fewer) values

  -- no record stands behind the last
  pub none_past : (n : ℕ) (records : List Rec) → length records ≤ n → IsNoValueAt is_value words n records
  none_past n records past = subst (λ o. IfSome o (λ r. (x : T) → is_value x → words x ≢ r.w)) (sym (slice_get_past records n past)) tt

  -- behind the records of values that were read the next one is damaged, where more were wanted
  pub fill_damage : (k j place wanted m n : ℕ) (window : List Rec) (bytes : List ℕ) → j ≡ k → n ≤ m → n < wanted → DidLoad j place wanted m window bytes → IsNoValueAt is_value words n (take m window)
      → IsDamaged is_value words k (place + n) bytes
  fill_damage k j place wanted m n window bytes width within some did none = elim (cases_lt n m) [
    | inl read ↦
        let d : Rec = record { w = [] } in
        let next : slice_get (take m window) n ≡ Some (get_or (take m window) n d) = slice_get-get_or (take m window) n d (longer read) in
        gives_damage is_value words k j (place + n) place m n window bytes (get_or (take m window) n d) d did.held width read refl (get_or-take m window n d read)
        (subst (λ o. IfSome o (λ r. (x : T) → is_value x → words x ≢ r.w)) next none)
    | inr nothing ↦
        let all : m ≡ n = omega (arith, within, nothing) in
        let short : length bytes < (place + m + 1) * (8 * j) = did.short (omega (arith, all, some)) in
        torn_damage is_value words k (place + n) bytes (subst (λ i. length bytes < i) (λ t. (place + all t + 1) * (8 * width t)) short)
  ]
    where
      longer : n < m → n < length (take m window)
      longer read = omega (arith, ap length did.held.same, length-records_of j m (from_place j place bytes), read)
