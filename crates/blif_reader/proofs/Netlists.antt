-- Netlists made from statements.
use Rattle.std.proofs.Common.{◌≡◌, ℕ, Bool, not, List, [], ◌∷◌, ◌++◌, length, map, replicate, cond, Option, Some, None, is_some, option_map, unwrap_or, Ok, Err, refl, sym, ap, ap₂, ◌∙◌, ◌+◌, ◌-◌, ◌<◌, get_or, subst, arith}
use Rattle.std.specs.Prelude.{find}
use Rattle.blif_reader.specs.declared.fault.BlifKind.TheVariants as fault
use Rattle.blif_reader.specs.declared.parts.Part.TheVariants.{Inputs, Outputs, Drivers, Uses}
use Rattle.blif_reader.specs.Statements.{Statement}
use Rattle.blif_reader.specs.Parts.{Use, is_one, uses_in, words_in, first_again, first_missing}
use Rattle.blif_reader.specs.Index.{Index, found_in, place_of, signal_of}
use Rattle.blif_reader.specs.Netlist.{Cover, Net, IsTables, IsBlock, IsRow, cover_at, names_of, net_of_text, covers_of, reads_of, driven_once, unless_on}
use Rattle.blif_reader.specs.Views.{number_in}

-- tests that agree find the same
find_congr : (p q : Use → Bool) (us : List Use) → ((u : Use) → p u ≡ q u) → find p us ≡ find q us
find_congr p q [] same = refl
find_congr p q (u ∷ us) same = ap₂ (λ b o. cond b (Some u) o) (same u) (find_congr p q us same)

-- a word is driven again
pub drives_again : (ss : List Statement) (uses : List Use) (line : ℕ) → uses ≡ uses_in Drivers ss → Some line ≡ first_again [] uses → driven_once ss ≡ Err (record { line = line; kind = fault.DrivenTwice })
drives_again ss uses line e again =
    ap (λ o. unless_on o fault.DrivenTwice (unless_on (first_missing (words_in Drivers ss) (uses_in Uses ss)) fault.Undriven (Ok ss))) (ap (first_again []) (sym e) ∙ sym again)

-- what an index finds missing is missing
missing_same : (index : Index) (words : List (List ℕ)) (uses : List Use) → ((q : List ℕ) → is_some (found_in index q) ≡ is_one words q)
    → first_missing words uses ≡ option_map (λ (u : Use). u.line) (find (λ u. not (is_some (found_in index u.word))) uses)
missing_same index words uses has = ap (option_map (λ (u : Use). u.line)) (find_congr (λ u. not (is_one words u.word)) (λ u. not (is_some (found_in index u.word))) uses (λ u. ap not (sym (has u.word))))

-- where none is driven again, the first that is missing decides
pub drives_on : (ss : List Statement) (drivers uses : List Use) (index : Index) (line : Option ℕ) → drivers ≡ uses_in Drivers ss → uses ≡ uses_in Uses ss → None ≡ first_again [] drivers
    → ((q : List ℕ) → is_some (found_in index q) ≡ is_one (map (λ (u : Use). u.word) drivers) q)
    → line ≡ option_map (λ (u : Use). u.line) (find (λ u. not (is_some (found_in index u.word))) uses) → driven_once ss ≡ unless_on line fault.Undriven (Ok ss)
drives_on ss drivers uses index line d u once has found =
    let same : first_missing (words_in Drivers ss) (uses_in Uses ss) ≡ line =
    sym (ap₂ first_missing (ap (map (λ (v : Use). v.word)) d) u) ∙ missing_same index _ uses has ∙ sym found in
    ap (λ o. unless_on o fault.DrivenTwice (unless_on (first_missing (words_in Drivers ss) (uses_in Uses ss)) fault.Undriven (Ok ss))) (ap (first_again []) (sym d) ∙ sym once)
    ∙ ap (λ o. unless_on o fault.Undriven (Ok ss)) same

-- an index with the places of names gives the signals
numbers_same : (index : Index) (names words : List (List ℕ)) → ((q : List ℕ) → found_in index q ≡ place_of names q) → map (number_in index) words ≡ map (signal_of names) words
numbers_same index names [] has = refl
numbers_same index names (w ∷ ws) has = ap₂ (λ n ns. n ∷ ns) (ap (λ o. unwrap_or o 0) (has w)) (numbers_same index names ws has)

numbers_all : (index : Index) (names : List (List ℕ)) (reads : List (List (List ℕ))) → ((q : List ℕ) → found_in index q ≡ place_of names q) → map (λ ws. map (number_in index) ws) reads ≡ map (λ ws. map (signal_of names) ws) reads
numbers_all index names [] has = refl
numbers_all index names (ws ∷ reads) has = ap₂ (λ n ns. n ∷ ns) (numbers_same index names ws has) (numbers_all index names reads has)

-- tables of a netlist
pub makes_tables : (ss : List Statement) (inputs : ℕ) (names : List (List ℕ)) (index : Index) (edges : List (List ℕ)) (covers : List Cover) (outputs : List ℕ) → inputs ≡ length (words_in Inputs ss) → names ≡ names_of ss → ((q : List ℕ) → found_in index q ≡ place_of names q)
    → edges ≡ replicate inputs [] ++ map (λ ws. map (number_in index) ws) (reads_of ss) → covers ≡ covers_of ss → outputs ≡ map (number_in index) (words_in Outputs ss)
    → record { inputs = inputs; names = names; edges = edges; covers = covers; outputs = outputs } ≡ net_of_text ss
makes_tables ss inputs names index edges covers outputs i n has e c o =
    let edges_same : edges ≡ replicate (length (words_in Inputs ss)) [] ++ map (λ ws. map (signal_of (names_of ss)) ws) (reads_of ss) =
    e ∙ ap₂ (λ k es. replicate k [] ++ es) i (numbers_all index names (reads_of ss) has ∙ ap (λ ns. map (λ ws. map (signal_of ns) ws) (reads_of ss)) n) in
    let outputs_same : outputs ≡ map (signal_of (names_of ss)) (words_in Outputs ss) = o ∙ numbers_same index names (words_in Outputs ss) has ∙ ap (λ ns. map (signal_of ns) (words_in Outputs ss)) n in
    rw (i, n, edges_same, c, outputs_same) refl

-- a row of a block has a character for each signal that the block reads
pub row_fits : (net : Net) (s r : ℕ) → IsTables net → IsBlock net s → r < length (cover_at net s).rows → IsRow (length (get_or net.edges s [])) (get_or (cover_at net s).rows r [])
row_fits net s r tables block lt =
    let place : net.inputs + (s - net.inputs) ≡ s = omega (arith, block.behind) in
    subst (λ k. IsRow (length (get_or net.edges k [])) (get_or (cover_at net s).rows r [])) place (tables.cells (s - net.inputs) (omega (arith, block.behind, block.inside, tables.blocks)) r [] lt)
