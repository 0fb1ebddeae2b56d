-- the rows of a level are numbered, in ascending order
use Rattle.std.specs.Prelude.{◌≤◌, ◌<◌, ◌≡◌, ◌-◌, ◌<◌, ◌==◌, ◌&&◌, ℕ, true, false, cond, List, [], ◌∷◌, ◌++◌, length, map, filter, Option, Some, None}
use Rattle.std.proofs.Common.{refl, sym, ◌∙◌, ap, subst, inl, inr, true≢false, arith}
use Rattle.std.proofs.lemmas.List.{append_assoc, append-nil, length-append}
use Rattle.std.proofs.lemmas.Bool.Decides.{nat_tests}
use Rattle.rec_words.specs.Words.{level_of}
use Rattle.canon_file.specs.declared.row.Row.{Row}
use Rattle.canon_file.specs.Members.{Has, IsAscending, ascending}
use Rattle.canon_file.specs.Rows.{row_before, row_word, place_of}
use Rattle.canon_file.specs.Pairs.{differs, word_in}
use Rattle.canon_file.proofs.MemberLaws.{has_map, map_has, has_filter, filter_has, ascending_ascends}
use Rattle.canon_file.proofs.RowLaws.{row_order, ascending_same}
use Rattle.canon_file.proofs.StandLaws.{same_words}
use Rattle.arc_file.specs.declared.arc.Arc.{Arc}
use Rattle.arc_diagrams.specs.Arcs.{sources_of, IsComplete}
use Rattle.arc_diagrams.specs.Reduction.{final_pointer, final_pair, final_rows, AreFinal}
use Rattle.arc_diagrams.specs.Items.{pair}
use Rattle.arc_diagrams.specs.Reducing.{IsCollected, IsRightRow, IsRightName, Collects, distinct_after, IsRising, Numbers, AreNamed}
use Rattle.arc_diagrams.specs.declared.source_row.SourceRow.{SourceRow}
use Rattle.arc_diagrams.specs.declared.name.Name.{Name}
use Rattle.arc_diagrams.proofs.ReduceLaws.{length-final_rows}
use Rattle.arc_diagrams.proofs.RowPlaces.{place_at}
use Rattle.arc_diagrams.proofs.RowLists.{after-same, distinct_is}
use Rattle.arc_diagrams.proofs.Collecting.{all_collected}

-- a source of the level is that of an arc
source-of : (arcs : List Arc) (i s : ℕ) → Has s (sources_of arcs i) → (a : Arc) × Has a arcs × (a.source ≡ s) × (level_of a.source ≡ i)
source-of arcs i s k =
    let (m, e) = filter_has (λ v. level_of v == i) s (map (λ (a : Arc). a.source) arcs) k in
    let (a, in_arcs, source) = map_has (λ (a : Arc). a.source) s arcs m in
    let here : level_of s ≡ i = grind (arith, nat_tests) in
    (a, in_arcs, source, ap level_of source ∙ here)

has_source : (arcs : List Arc) (i : ℕ) (a : Arc) → Has a arcs → level_of a.source ≡ i → Has a.source (sources_of arcs i)
has_source arcs i a m here =
    has_filter (λ v. level_of v == i) a.source (map (λ (b : Arc). b.source) arcs) (has_map (λ (b : Arc). b.source) a arcs m) (grind (arith, nat_tests))

-- the rows of a level are the pairs of its sources that differ
rows-collected : (n i : ℕ) (arcs : List Arc) (rows : List SourceRow) (names : List Name)
    → ((a : Arc) → Has a arcs → level_of a.source ≡ i → IsCollected rows names a.source)
    → ((r : SourceRow) → Has r rows → IsRightRow n i arcs r) → ((m : Name) → Has m names → differs (final_pair n arcs m.source) ≡ false)
    → final_rows n arcs i ≡ ascending row_before (map pair rows)
unfolding final_rows
rows-collected n i arcs rows names each right plain =
    ascending_same (filter differs (map (final_pair n arcs) (sources_of arcs i))) (map pair rows) (record {
      there = λ x k.
          let (m, differ) = filter_has differs x (map (final_pair n arcs) (sources_of arcs i)) k in
          let (s, in_sources, is_x) = map_has (final_pair n arcs) x (sources_of arcs i) m in
          let (a, in_arcs, source, here) = source-of arcs i s in_sources in
          elim (each a in_arcs here) [
            | inl (r, in_rows, e) ↦
                let (b, _, _, of_r, is_pair, _) = right r in_rows in
                subst (λ y. Has y (map pair rows)) (sym is_pair ∙ ap (final_pair n arcs) (of_r ∙ e ∙ source) ∙ is_x) (has_map pair r rows in_rows)
            | inr (m, in_names, e) ↦
                absurd (true≢false (sym differ ∙ ap differs (sym is_x) ∙ ap (λ v. differs (final_pair n arcs v)) (sym source ∙ sym e) ∙ plain m in_names))
          ];
      back = λ x k.
          let (r, in_rows, is_x) = map_has pair x rows k in
          let (a, in_arcs, here, of_r, is_pair, differ) = right r in_rows in
          has_filter differs x (map (final_pair n arcs) (sources_of arcs i))
          (subst (λ y. Has y (map (final_pair n arcs) (sources_of arcs i))) (is_pair ∙ is_x)
          (has_map (final_pair n arcs) a.source (sources_of arcs i) (has_source arcs i a in_arcs here)))
          (ap differs (sym is_x) ∙ differ);
    })

none_some : (last : Option Row) (p : Row) → last ≡ None → last ≡ Some p → ⊥
none_some last p none some = cc

-- with the sources collected and the rows ascending, no row has a number yet
pub number_first : (n root i : ℕ) (arcs queue : List Arc) (rows : List SourceRow) (names : List Name) → IsComplete n root arcs
    → Collects n i arcs queue [] rows names → ((q : Arc) → Has q queue → level_of q.source < i) → IsRising (map pair rows)
    → Numbers n i arcs [] None rows names
number_first n root i arcs queue rows names complete c low rising =
    let each : (a : Arc) → Has a arcs → level_of a.source ≡ i → IsCollected rows names a.source = all_collected n root i arcs queue rows names complete c low in
    record {
      whole = rows-collected n i arcs rows names each c.rows_right c.names_plain ∙ sym (distinct_is (map pair rows) rising);
      ends = λ p e. absurd (none_some None p refl e);
      each = each;
      rows_right = c.rows_right;
      names_right = c.names_right;
    }

final_rows-ascend : (n i : ℕ) (arcs : List Arc) → IsAscending row_before (final_rows n arcs i)
unfolding final_rows
final_rows-ascend n i arcs = ascending_ascends row_before row_order (filter differs (map (final_pair n arcs) (sources_of arcs i)))

-- the name of a source whose row stands among the rows of the level
row-named : (n i : ℕ) (arcs : List Arc) (r : SourceRow) (m : Name) (front rest : List Row) → AreFinal n arcs → IsRightRow n i arcs r
    → final_rows n arcs i ≡ front ++ pair r ∷ rest → m.source ≡ r.source → m.pointer ≡ row_word i (length front) → IsRightName n i arcs m
row-named n i arcs r m front rest final (a, in_arcs, here, source, is_pair, differ) rows is_source is_pointer =
    let place : place_of (pair r) (final_rows n arcs i) ≡ length front =
    ap (place_of (pair r)) rows ∙ place_at front (pair r) rest (subst (IsAscending row_before) rows (final_rows-ascend n i arcs)) in
    let pointer : final_pointer n arcs a.source ≡ m.pointer =
    final.sources a in_arcs ∙ (λ j. word_in (here j) (final_rows n arcs (here j)) (is_pair j))
    ∙ ap (λ b. cond b (row_word i (place_of (pair r) (final_rows n arcs i))) r.low) differ ∙ ap (row_word i) place ∙ sym is_pointer in
    (a, in_arcs, here, source ∙ sym is_source, pointer)

-- a row that is taken leaves its source a name
one_named : (r : SourceRow) (rows : List SourceRow) (names : List Name) (m : Name) (source : ℕ) → m.source ≡ r.source
    → IsCollected (r ∷ rows) names source → IsCollected rows (m ∷ names) source
one_named r rows names m source same (inl (s, inl e, of_s)) = inr (m, inl refl, same ∙ ap (λ (t : SourceRow). t.source) e ∙ of_s)
one_named r rows names m source same (inl (s, inr k, of_s)) = inl (s, k, of_s)
one_named r rows names m source same (inr (p, k, of_p)) = inr (p, inr k, of_p)

-- the next row is new: it is numbered behind those that have a number
pub number_new : (n i : ℕ) (arcs : List Arc) (done : List Row) (last : Option Row) (r : SourceRow) (rows : List SourceRow) (names : List Name) (m : Name)
    → AreFinal n arcs → distinct_after last (pair r ∷ map pair rows) ≡ pair r ∷ distinct_after (Some (pair r)) (map pair rows)
    → m.source ≡ r.source → m.pointer ≡ row_word i (length done)
    → Numbers n i arcs done last (r ∷ rows) names → Numbers n i arcs (done ++ pair r ∷ []) (Some (pair r)) rows (m ∷ names)
number_new n i arcs done last r rows names m final is_new is_source is_pointer c =
    let rows-are : final_rows n arcs i ≡ done ++ pair r ∷ distinct_after (Some (pair r)) (map pair rows) = c.whole ∙ ap (λ l. done ++ l) is_new in
    let right : IsRightName n i arcs m =
    row-named n i arcs r m done (distinct_after (Some (pair r)) (map pair rows)) final (c.rows_right r (inl refl)) rows-are is_source is_pointer in
    record {
      whole = rows-are ∙ sym (append_assoc done (pair r ∷ []) (distinct_after (Some (pair r)) (map pair rows)));
      ends = λ p e. (done, ap (λ x. done ++ x ∷ []) (same_some (pair r) p e));
      each = λ a k here. one_named r rows names m a.source is_source (c.each a k here);
      rows_right = λ s k. c.rows_right s (inr k);
      names_right = λ s k. elim k [ inl e ↦ subst (IsRightName n i arcs) e right | inr l ↦ c.names_right s l ];
    }
  where
    same_some : (x y : Row) → Some x ≡ Some y → x ≡ y
    same_some x y e = cc

-- the first row of a level is new
pub new-first : (r : Row) (rows : List Row) → distinct_after None (r ∷ rows) ≡ r ∷ distinct_after (Some r) rows
new-first r rows = refl

-- the next row is the one before: it has the same number
pub number_same : (n i : ℕ) (arcs : List Arc) (done : List Row) (p : Row) (r : SourceRow) (rows : List SourceRow) (names : List Name) (m : Name)
    → AreFinal n arcs → ((p.low == r.low) && (p.high == r.high)) ≡ true → m.source ≡ r.source
    → m.pointer ≡ row_word i (length done - 1)
    → Numbers n i arcs done (Some p) (r ∷ rows) names → Numbers n i arcs done (Some p) rows (m ∷ names)
number_same n i arcs done p r rows names m final same is_source is_pointer c =
    let (front, is_done) = c.ends p refl in
    let rest : List Row = distinct_after (Some p) (map pair rows) in
    let rows-are : final_rows n arcs i ≡ done ++ rest = c.whole ∙ ap (λ l. done ++ l) (after-same p (pair r) (map pair rows) same) in
    let stands : final_rows n arcs i ≡ front ++ pair r ∷ rest =
    rows-are ∙ ap (λ l. l ++ rest) is_done ∙ append_assoc front (p ∷ []) rest ∙ ap (λ x. front ++ x ∷ rest) (same_words p (pair r) same) in
    let place : length done - 1 ≡ length front = omega (arith, ap length is_done, length-append front (p ∷ [])) in
    let right : IsRightName n i arcs m = row-named n i arcs r m front rest final (c.rows_right r (inl refl)) stands is_source (is_pointer ∙ ap (row_word i) place) in
    record {
      whole = rows-are;
      ends = c.ends;
      each = λ a k here. one_named r rows names m a.source is_source (c.each a k here);
      rows_right = λ s k. c.rows_right s (inr k);
      names_right = λ s k. elim k [ inl e ↦ subst (IsRightName n i arcs) e right | inr l ↦ c.names_right s l ];
    }

-- the rows with a number are no more than the arcs, and fewer where the next row is new
pub few_done : (n i : ℕ) (arcs : List Arc) (done : List Row) (last : Option Row) (rows : List SourceRow) (names : List Name)
    → Numbers n i arcs done last rows names → length done ≤ length arcs
few_done n i arcs done last rows names c =
    omega (arith, length-final_rows n arcs i, ap length c.whole, length-append done (distinct_after last (map pair rows)))

pub fewer_done : (n i : ℕ) (arcs : List Arc) (done : List Row) (last : Option Row) (r : SourceRow) (rows : List SourceRow) (names : List Name)
    → distinct_after last (pair r ∷ map pair rows) ≡ pair r ∷ distinct_after (Some (pair r)) (map pair rows)
    → Numbers n i arcs done last (r ∷ rows) names → length done < length arcs
fewer_done n i arcs done last r rows names is_new c =
    omega (arith, length-final_rows n arcs i, ap length c.whole, length-append done (distinct_after last (map pair (r ∷ rows))), ap length is_new)

-- when no row is left, those with a number are the rows of the level, and each source has its name
pub number_last-rows : (n i : ℕ) (arcs : List Arc) (done : List Row) (last : Option Row) (names : List Name)
    → Numbers n i arcs done last [] names → final_rows n arcs i ≡ done
number_last-rows n i arcs done last names c = c.whole ∙ append-nil done

pub number_last : (n i : ℕ) (arcs : List Arc) (done : List Row) (last : Option Row) (names : List Name)
    → Numbers n i arcs done last [] names → AreNamed n i arcs names
number_last n i arcs done last names c = record {
  each = λ a m here. elim (c.each a m here) [ inl (r, k, e) ↦ absurd k | inr named ↦ named ];
  right = c.names_right;
}
