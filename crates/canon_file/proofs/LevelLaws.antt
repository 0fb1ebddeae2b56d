-- the pointers, rows and nodes of a level, from the pointers of the next one
use Rattle.std.specs.Prelude.{◌≡◌, ℕ, zero, suc, ◌+◌, ◌-◌, ◌*◌, ◌/◌, ◌^◌, ◌<◌, ◌≤◌, ◌==◌, Bool, true, false, not, cond, List, [], ◌∷◌, ◌++◌, length, get_or, drop, map, filter}
use Rattle.std.proofs.Common.{subst, refl, sym, ◌∙◌, ap, inl, inr, true≢false, arith}
use Rattle.std.proofs.lemmas.Bool.Decides.{nat_tests}
use Rattle.std.proofs.lemmas.List.Sums.{length-filter, count_by-le-length}
use Rattle.list_laws.proofs.MemberLaws.{length-ascending}
use Rattle.std.proofs.Math.Nat.{le-mul_of_pos_right, pow-le-pow_right}
use Rattle.std.proofs.lemmas.Nat.{pow_pos, pow-add}
use Rattle.std.proofs.lemmas.List.{append-nil, get_or_read, append_assoc, length-drop, length-map, drop_more, drop_all, get_or-take, get_or-drop}
use Rattle.bool_tables.specs.Tables.{low_half, high_half}
use Rattle.bool_tables.proofs.Halves.{twice}
use Rattle.rec_words.specs.declared.node.Node.{Node}
use Rattle.rec_words.specs.Words.{terminal}
use Rattle.canon_file.specs.declared.row.Row.{Row}
use Rattle.list_laws.specs.Members.{Has, ascending, IsAscending}
use Rattle.canon_file.specs.Pieces.{splits, halves, pieces, part_at, parts}
use Rattle.canon_file.specs.Rows.{row_before, row_word, place_of, row_of, rows_with, pointer, levels, Fits}
use Rattle.canon_file.specs.Canon.{numbered, nodes_of, node_bytes, trailer_bytes, canon_nodes, canon_root, canon_bytes}
use Rattle.canon_file.proofs.ByteLaws.{length-node_bytes, node_bytes-append}
use Rattle.canon_file.specs.Laws.{HasForm}
use Rattle.canon_file.specs.Pairs.{pairs, differs, distinct_rows, word_in, words_above}
use Rattle.list_laws.proofs.MemberLaws.{ascending_ascends, ascending_keeps, has_filter}
use Rattle.canon_file.proofs.RowLaws.{row_order}
use Rattle.canon_file.proofs.PieceLaws.{half_has, has_low, has_high, length-low, length-high, unsplit_same, split_differ}
use Rattle.canon_file.proofs.StandLaws.{injective}
use Rattle.canon_file.proofs.PartLaws.{pieces-parts}

-- a piece splits exactly where its pair differs, if different halves have different pointers
split_differs : (f : List Bool → ℕ) (h : ℕ) (p : List Bool) → (f (low_half h p) ≡ f (high_half h p) → low_half h p ≡ high_half h p)
    → differs (row_of f h p) ≡ splits h p
split_differs f h p apart = by (f (low_half h p) == f (high_half h p)) refl
  where
    by : (b : Bool) → (f (low_half h p) == f (high_half h p)) ≡ b → not b ≡ splits h p
    by true e = sym (unsplit_same h p (apart (grind (arith, nat_tests))))
    by false e = sym (split_differ h p (λ same. true≢false (sym (other (ap f same)) ∙ e)))
      where
        other : f (low_half h p) ≡ f (high_half h p) → (f (low_half h p) == f (high_half h p)) ≡ true
        other k = grind (arith, nat_tests)

-- the pairs of the halves' pointers are the rows of the pieces
pairs-halves : (f : List Bool → ℕ) (h : ℕ) (ps : List (List Bool)) → pairs (map f (halves h ps)) ≡ map (row_of f h) ps
pairs-halves f h [] = refl
pairs-halves f h (p ∷ ps) = ap (λ rs. row_of f h p ∷ rs) (pairs-halves f h ps)

filter-pairs : (f : List Bool → ℕ) (h : ℕ) (ps : List (List Bool)) → ((p : List Bool) → Has p ps → differs (row_of f h p) ≡ splits h p)
    → filter differs (map (row_of f h) ps) ≡ map (row_of f h) (filter (splits h) ps)
filter-pairs f h [] alike = refl
filter-pairs f h (p ∷ ps) alike =
    let rest : filter differs (map (row_of f h) ps) ≡ map (row_of f h) (filter (splits h) ps) = filter-pairs f h ps (λ q m. alike q (inr m)) in
    (λ j. cond (alike p (inl refl) j) (row_of f h p ∷ rest j) (rest j)) ∙ by (splits h p)
  where
    by : (b : Bool) → cond b (row_of f h p ∷ map (row_of f h) (filter (splits h) ps)) (map (row_of f h) (filter (splits h) ps))
        ≡ map (row_of f h) (cond b (p ∷ filter (splits h) ps) (filter (splits h) ps))
    by true = refl
    by false = refl

module _ (h i : ℕ) (ps : List (List Bool)) (few : i + suc h ≤ 65535)
    (fits : Fits (levels h (suc i) (halves h ps))) (long : (p : List Bool) → Has p ps → length p ≡ 2 ^ suc h) where
  below : List Bool → ℕ
  below = pointer h (suc i) (halves h ps)

  alike : (p : List Bool) → Has p ps → differs (row_of (pointer h (suc i) (halves h ps)) h p) ≡ splits h p
  alike p m = split_differs (pointer h (suc i) (halves h ps)) h p (injective h (suc i) (halves h ps) (low_half h p) (high_half h p) (omega arith) fits
      (has_low h p ps m) (has_high h p ps m) (length-low h p (long p m)) (length-high h p (long p m)))

  -- the rows of the level
  pub rows_are : distinct_rows (map (pointer h (suc i) (halves h ps)) (halves h ps)) ≡ rows_with (pointer h (suc i) (halves h ps)) h ps
  rows_are = ap (λ rs. ascending row_before (filter differs rs)) (pairs-halves (pointer h (suc i) (halves h ps)) h ps)
      ∙ ap (ascending row_before) (filter-pairs (pointer h (suc i) (halves h ps)) h ps alike)

  -- the pointers of some of its pieces
  words_of : (qs : List (List Bool)) → ((q : List Bool) → Has q qs → Has q ps)
      → map (word_in i (rows_with (pointer h (suc i) (halves h ps)) h ps)) (map (row_of (pointer h (suc i) (halves h ps)) h) qs) ≡ map (pointer (suc h) i ps) qs
  words_of [] sub = refl
  words_of (q ∷ qs) sub =
      let f : List Bool → ℕ = pointer h (suc i) (halves h ps) in
      let rest = words_of qs (λ r m. sub r (inr m)) in
      λ j. cond (alike q (sub q (inl refl)) j) (row_word i (place_of (row_of f h q) (rows_with f h ps))) (f (low_half h q)) ∷ rest j

  pub words_are : words_above i (map (pointer h (suc i) (halves h ps)) (halves h ps)) ≡ map (pointer (suc h) i ps) ps
  words_are =
      (λ j. map (word_in i (rows_are j)) (pairs-halves (pointer h (suc i) (halves h ps)) h ps j)) ∙ words_of ps (λ q m. m)

-- a level has no more rows than pieces
pub length-rows : (f : List Bool → ℕ) (h : ℕ) (ps : List (List Bool)) → length (rows_with f h ps) ≤ length ps
length-rows f h ps =
    omega (
      arith,
      length-ascending row_before (map (row_of f h) (filter (splits h) ps)),
      length-map (filter (splits h) ps) (row_of f h),
      length-filter (splits h) ps,
      count_by-le-length (splits h) ps,
    )

length-pairs : (words : List ℕ) → length (pairs words) ≤ length words
length-pairs [] = omega arith
length-pairs (x ∷ []) = omega arith
length-pairs (x ∷ y ∷ words) = omega (arith, length-pairs words)

pub length-distinct : (words : List ℕ) → length (distinct_rows words) ≤ length words
length-distinct words = omega (
  arith,
  length-ascending row_before (filter differs (pairs words)),
  length-filter differs (pairs words),
  count_by-le-length differs (pairs words),
  length-pairs words,
)

length-halves : (h : ℕ) (ps : List (List Bool)) → length (halves h ps) ≡ length ps + length ps
length-halves h [] = refl
length-halves h (p ∷ ps) = omega (arith, length-halves h ps)

pub length-pieces : (i h : ℕ) (t : List Bool) → length (pieces i h t) ≡ 2 ^ i
length-pieces zero h t = refl
length-pieces (suc i) h t = omega (arith, length-halves h (pieces i (suc h) t), length-pieces i (suc h) t, twice i)

doubled : (k h : ℕ) → (k + k) * 2 ^ h ≡ k * 2 ^ suc h
doubled k h = grind (arith, twice h)

-- few pieces have few rows, on each level
pub fits_few : (h i : ℕ) (ps : List (List Bool)) → length ps * 2 ^ h ≤ 2 ^ 47 → Fits (levels h i ps)
fits_few zero i ps few = tt
fits_few (suc h) i ps few =
    let f : List Bool → ℕ = pointer h (suc i) (halves h ps) in
    let twice_as_many : length (halves h ps) * 2 ^ h ≡ length ps * 2 ^ suc h = ap (λ k. k * 2 ^ h) (length-halves h ps) ∙ doubled (length ps) h in
    let pieces_few : length ps ≤ length ps * 2 ^ suc h = le-mul_of_pos_right (length ps) (pow_pos (suc h)) in
    (omega (arith, length-rows f h ps), fits_few h (suc i) (halves h ps) (omega arith))

-- each piece has its part of the values
pub piece_long : (i h : ℕ) (t p : List Bool) → length t ≡ 2 ^ (i + h) → Has p (pieces i h t) → length p ≡ 2 ^ h
piece_long zero h t p n (inl e) = ap length (sym e) ∙ n ∙ ap (λ k. 2 ^ k) (omega arith)
piece_long zero h t p n (inr m) = absurd m
piece_long (suc i) h t p n m =
    let longer : length t ≡ 2 ^ (i + suc h) = n ∙ ap (λ k. 2 ^ k) (omega arith) in
    let (q, k, e) = half_has h p (pieces i (suc h) t) m in
    let whole : length q ≡ 2 ^ suc h = piece_long i (suc h) t q longer k in
    elim e [ inl low ↦ ap length (sym low) ∙ length-low h q whole | inr high ↦ ap length (sym high) ∙ length-high h q whole ]

-- there are as many levels as variables
pub length-levels : (h i : ℕ) (ps : List (List Bool)) → length (levels h i ps) ≡ h
length-levels zero i ps = refl
length-levels (suc h) i ps = ap suc (length-levels h (suc i) (halves h ps))

-- and on each as many nodes as rows
pub length-numbered : (i k : ℕ) (rs : List Row) → length (numbered i k rs) ≡ length rs
length-numbered i k [] = refl
length-numbered i k (r ∷ rs) = ap suc (length-numbered i (suc k) rs)

-- single values have their words
base_words : (t : List Bool) (k m : ℕ) → k + m ≡ length t → map (λ p. terminal (get_or p 0 false)) (parts 0 t k m) ≡ map terminal (drop k t)
base_words t k zero n = ap (map terminal) (sym (drop_all k t (omega arith)))
base_words t k (suc m) n =
    let start : k * 1 ≡ k = omega arith in
    let next : k + 1 ≡ suc k = omega arith in
    let first : get_or (part_at 0 t k) 0 false ≡ get_or t k false =
    get_or-take 1 (drop (k * 1) t) 0 false (omega arith) ∙ get_or-drop (k * 1) t 0 false ∙ ap (λ j. get_or t j false) (omega arith) in
    (λ j. terminal (first j) ∷ base_words t (suc k) m (omega arith) j)
    ∙ (λ j. terminal (get_or t k false) ∷ map terminal (drop (sym next j) t))
    ∙ ap (map terminal) (sym (drop_more t k false (omega arith)))

-- the pointers of the pieces of the level at which h levels follow
abbrev pub level_words : List Bool → ℕ → ℕ → List ℕ
level_words t i h = map (pointer h i (pieces i h t)) (pieces i h t)

-- the bytes of the nodes of that level and of each deeper one
abbrev pub level_bytes : List Bool → ℕ → ℕ → List ℕ
level_bytes t i h = node_bytes (nodes_of i (levels h i (pieces i h t)))

pub words_begin : (n : ℕ) (t : List Bool) → length t ≡ 2 ^ n → map terminal t ≡ level_words t n 0
words_begin n t long =
    let same : 2 ^ (n + 0) ≡ 2 ^ n = ap (λ k. 2 ^ k) (omega arith) in
    let whole : 0 + 2 ^ n ≡ length t = omega arith in
    sym (base_words t 0 (2 ^ n) whole) ∙ ap (map (λ p. terminal (get_or p 0 false))) (sym (pieces-parts n 0 t (long ∙ sym same)))

fits_pieces : (i h : ℕ) (t : List Bool) → i + h ≤ 47 → Fits (levels h i (pieces i h t))
fits_pieces i h t few =
    let values : length (pieces i h t) * 2 ^ h ≡ 2 ^ (i + h) = ap (λ k. k * 2 ^ h) (length-pieces i h t) ∙ sym (pow-add 2 i h) in
    let small : 2 ^ (i + h) ≤ 2 ^ 47 = pow-le-pow_right (omega arith) few in
    fits_few h i (pieces i h t) (omega arith)

pub length-level_words : (t : List Bool) (i h : ℕ) → length (level_words t i h) ≡ 2 ^ i
length-level_words t i h = length-map (pieces i h t) (pointer h i (pieces i h t)) ∙ length-pieces i h t

-- the level above the one at which h levels follow
above_here : (n h : ℕ) → h < n → n - h ≡ suc (n - 1 - h)
above_here n h left = omega arith

next_level : (n h : ℕ) → h < n → n - 1 - h ≡ n - (h + 1)
next_level n h left = omega arith

next_height : (h : ℕ) → suc h ≡ h + 1
next_height h = omega arith

module _ (t : List Bool) (n h : ℕ) (left : h < n) (few : n ≤ 47) (whole : length t ≡ 2 ^ n) where
  long : (p : List Bool) → Has p (pieces (n - 1 - h) (suc h) t) → length p ≡ 2 ^ suc h
  long p m = piece_long (n - 1 - h) (suc h) t p (whole ∙ ap (λ k. 2 ^ k) (omega arith)) m

  -- the rows of a level, from the pointers of the next one
  rows_step : (words : List ℕ) → words ≡ level_words t (n - h) h
      → distinct_rows words ≡ rows_with (pointer h (suc (n - 1 - h)) (halves h (pieces (n - 1 - h) (suc h) t))) h (pieces (n - 1 - h) (suc h) t)
  rows_step words known =
      ap distinct_rows (known ∙ (λ j. level_words t (above_here n h left j) h))
      ∙ rows_are h (n - 1 - h) (pieces (n - 1 - h) (suc h) t) (omega arith) (fits_pieces (suc (n - 1 - h)) h t (omega arith)) long

  -- its pointers
  pub words_step : (words : List ℕ) → words ≡ level_words t (n - h) h → words_above (n - 1 - h) words ≡ level_words t (n - (h + 1)) (h + 1)
  words_step words known =
      ap (words_above (n - 1 - h)) (known ∙ (λ j. level_words t (above_here n h left j) h))
      ∙ words_are h (n - 1 - h) (pieces (n - 1 - h) (suc h) t) (omega arith) (fits_pieces (suc (n - 1 - h)) h t (omega arith)) long
      ∙ (λ j. level_words t (next_level n h left j) (next_height h j))

  -- and the bytes of its nodes and of deeper ones
  pub bytes_step : (words bytes more : List ℕ) → words ≡ level_words t (n - h) h → bytes ≡ level_bytes t (n - h) h
      → more ≡ bytes ++ node_bytes (numbered (n - 1 - h) 0 (distinct_rows words)) → more ≡ level_bytes t (n - (h + 1)) (h + 1)
  bytes_step words bytes more known written added =
      let up : n - h ≡ suc (n - 1 - h) = above_here n h left in
      let deeper : bytes ≡ level_bytes t (suc (n - 1 - h)) h = written ∙ (λ j. level_bytes t (up j) h) in
      let rows = rows_step words known in
      added ∙ (λ j. deeper j ++ node_bytes (numbered (n - 1 - h) 0 (rows j)))
      ∙ sym (node_bytes-append (nodes_of (suc (n - 1 - h)) (levels h (suc (n - 1 - h)) (pieces (suc (n - 1 - h)) h t))) (numbered (n - 1 - h) 0 (rows_with (pointer h (suc (n - 1 - h)) (halves h (pieces (n - 1 - h) (suc h) t))) h (pieces (n - 1 - h) (suc h) t))))
      ∙ (λ j. level_bytes t (next_level n h left j) (next_height h j))

-- neighbours, two at a time
pub pairs_more : (words : List ℕ) (k : ℕ) → 2 * k + 1 < length words
    → pairs (drop (2 * k) words) ≡ record { low = get_or words (2 * k) 0; high = get_or words (2 * k + 1) 0 } ∷ pairs (drop (2 * (k + 1)) words)
pairs_more words k b =
    let next : 2 * k + 1 + 1 ≡ 2 * (k + 1) = omega arith in
    let first : drop (2 * k) words ≡ get_or words (2 * k) 0 ∷ drop (2 * k + 1) words = drop_more words (2 * k) 0 (omega arith) in
    let second : drop (2 * k + 1) words ≡ get_or words (2 * k + 1) 0 ∷ drop (2 * k + 1 + 1) words = drop_more words (2 * k + 1) 0 b in
    ap pairs (first ∙ ap (λ rest. get_or words (2 * k) 0 ∷ rest) second)
    ∙ (λ j. record { low = get_or words (2 * k) 0; high = get_or words (2 * k + 1) 0 } ∷ pairs (drop (next j) words))

pairs_short : (words : List ℕ) → length words ≤ 1 → pairs words ≡ []
pairs_short [] b = refl
pairs_short (x ∷ []) b = refl
pairs_short (x ∷ y ∷ words) b = absurd (omega arith)

pub pairs_end : (words : List ℕ) → pairs (drop (2 * (length words / 2)) words) ≡ []
pairs_end words = pairs_short (drop (2 * (length words / 2)) words) (omega (arith, length-drop (2 * (length words / 2)) words))

-- a pair is added
pub pairs_pushed : (words : List ℕ) (k low high : ℕ) (rows more all : List Row) → 2 * k + 1 < length words
    → low ≡ get_or words (2 * k) low → high ≡ get_or words (2 * k + 1) high → more ≡ rows ++ record { low = low; high = high } ∷ []
    → rows ++ pairs (drop (2 * k) words) ≡ all → more ++ pairs (drop (2 * (k + 1)) words) ≡ all
pairs_pushed words k low high rows more all b read-low read-high pushed so_far =
    let is-low : low ≡ get_or words (2 * k) 0 = get_or_read words (2 * k) low (omega arith) read-low 0 in
    let is-high : high ≡ get_or words (2 * k + 1) 0 = get_or_read words (2 * k + 1) high b read-high 0 in
    (λ j. pushed j ++ pairs (drop (2 * (k + 1)) words))
    ∙ append_assoc rows (record { low = low; high = high } ∷ []) (pairs (drop (2 * (k + 1)) words))
    ∙ (λ j. rows ++ record { low = is-low j; high = is-high j } ∷ pairs (drop (2 * (k + 1)) words))
    ∙ (λ j. rows ++ sym (pairs_more words k b) j)
    ∙ so_far

-- all pairs are there
pub pairs_all : (words : List ℕ) (k : ℕ) (rows : List Row) → k ≡ length words / 2 → rows ++ pairs (drop (2 * k) words) ≡ pairs words → rows ≡ pairs words
pairs_all words k rows end all = sym (append-nil rows) ∙ (λ j. rows ++ sym (pairs_end words) j) ∙ (λ j. rows ++ pairs (drop (2 * sym end j) words)) ∙ all

-- a node is added
pub nodes_pushed : (i k : ℕ) (rows : List Row) (uid : ℕ) (row : Row) (bytes more all : List ℕ) → k < length rows → uid ≡ row_word i k
    → row ≡ get_or rows k row → more ≡ bytes ++ node_bytes (record { uid = uid; low = row.low; high = row.high } ∷ [])
    → bytes ++ node_bytes (numbered i k (drop k rows)) ≡ all → more ++ node_bytes (numbered i (k + 1) (drop (k + 1) rows)) ≡ all
nodes_pushed i k rows uid row bytes more all b is-uid is-row pushed so_far =
    let next : k + 1 ≡ suc k = omega arith in
    let rest : List Node = numbered i (k + 1) (drop (k + 1) rows) in
    let first : drop k rows ≡ row ∷ drop (k + 1) rows = drop_more rows k row b ∙ (λ j. sym is-row j ∷ drop (k + 1) rows) in
    (λ j. pushed j ++ node_bytes rest)
    ∙ append_assoc bytes (node_bytes (record { uid = uid; low = row.low; high = row.high } ∷ [])) (node_bytes rest)
    ∙ (λ j. bytes ++ node_bytes (record { uid = is-uid j; low = row.low; high = row.high } ∷ numbered i (next j) (drop (k + 1) rows)))
    ∙ (λ j. bytes ++ node_bytes (numbered i k (sym first j)))
    ∙ so_far

-- the rows that are seen are those of the pointers
pub seen_rows : (words : List ℕ) (seen rows pairs_seen pairs_made : List Row) → seen ≡ rows → rows ≡ ascending row_before (filter differs pairs_seen)
    → pairs_seen ≡ pairs_made → pairs_made ≡ pairs words → seen ≡ distinct_rows words
seen_rows words seen rows pairs_seen pairs_made a b c d = a ∙ b ∙ (λ j. ascending row_before (filter differs ((c ∙ d) j)))

pub rows_ascend : (words : List ℕ) (seen : List Row) → seen ≡ distinct_rows words → IsAscending row_before seen
rows_ascend words seen e = subst (IsAscending row_before) (sym e) (ascending_ascends row_before row_order (filter differs (pairs words)))

pub rows_few : (words : List ℕ) (seen : List Row) → seen ≡ distinct_rows words → length words ≤ 2 ^ 47 → length seen ≤ 2 ^ 47
rows_few words seen e few = omega (arith, length-distinct words, ap length e)

pub rows_known : (words : List ℕ) (seen pairs_seen : List Row) → seen ≡ distinct_rows words → pairs_seen ≡ pairs words
    → (r : Row) → Has r pairs_seen → differs r ≡ true → Has r seen
rows_known words seen pairs_seen e d r m split =
    subst (Has r) (sym e) (ascending_keeps row_before row_order r (filter differs (pairs words)) (has_filter differs r (pairs words) (subst (Has r) d m) split))

pub words_few : (t : List Bool) (i h : ℕ) (words : List ℕ) → words ≡ level_words t i h → i ≤ 47 → length words ≤ 2 ^ 47
words_few t i h words e few =
    let small : 2 ^ i ≤ 2 ^ 47 = pow-le-pow_right (omega arith) few in
    omega (arith, ap length e, length-level_words t i h)

-- with all levels done and the trailer added, the bytes are canonical
pub canon_done : (n k : ℕ) (t : List Bool) (words bytes more : List ℕ) (root size last : ℕ) → k ≡ n
    → words ≡ level_words t (n - k) k → bytes ≡ level_bytes t (n - k) k → root ≡ get_or words 0 root → size ≡ length bytes
    → last ≡ n → more ≡ bytes ++ trailer_bytes root (size / 24) last → more ≡ canon_bytes n t
unfolding canon_nodes canon_root canon_bytes
canon_done n k t words bytes more root size last end known written read measured variables added =
    let none : n - k ≡ 0 = omega arith in
    let all-words : words ≡ level_words t 0 n = known ∙ (λ j. level_words t (none j) (end j)) in
    let all-bytes : bytes ≡ level_bytes t 0 n = written ∙ (λ j. level_bytes t (none j) (end j)) in
    let is-root : root ≡ pointer n 0 (t ∷ []) t = read ∙ (λ j. get_or (all-words j) 0 root) in
    let count : size / 24 ≡ length (nodes_of 0 (levels n 0 (t ∷ []))) =
    omega (arith, measured, ap length all-bytes, length-node_bytes (nodes_of 0 (levels n 0 (t ∷ [])))) in
    added ∙ (λ j. all-bytes j ++ trailer_bytes (is-root j) (count j) (variables j))

-- a table of at most 47 variables has no level with too many rows
pub has_form : (n : ℕ) → n ≤ 47 → (t : List Bool) → length t ≡ 2 ^ n → HasForm n t
has_form n few t whole = record { few = omega arith; whole = whole; fits = fits_pieces 0 n t (omega arith) }
