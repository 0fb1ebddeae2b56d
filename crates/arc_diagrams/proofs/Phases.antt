-- the phases of a level, and the turns within each
use Rattle.std.specs.Prelude.{◌≡◌, ◌≢◌, ◌-◌, ◌+◌, ◌<◌, ◌≤◌, ◌==◌, ◌&&◌, ℕ, suc, true, false, List, [], ◌∷◌, ◌++◌, length, map, Option, Some, None}
use Rattle.std.proofs.Common.{refl, sym, ◌∙◌, ap, inl, arith}
use Rattle.std.proofs.lemmas.List.{append_assoc, append-nil}
use Rattle.rec_words.specs.Words.{level_of}
use Rattle.rec_words.specs.declared.node.Node.{Node}
use Rattle.canon_file.specs.declared.row.Row.{Row}
use Rattle.canon_file.specs.Members.{Has, SameMembers}
use Rattle.canon_file.specs.Rows.{row_word}
use Rattle.canon_file.specs.Pairs.{differs}
use Rattle.canon_file.specs.Canon.{numbered}
use Rattle.arc_file.specs.declared.arc.Arc.{Arc}
use Rattle.arc_diagrams.specs.Arcs.{target_on, targets_of, IsComplete}
use Rattle.arc_diagrams.specs.Items.{pair}
use Rattle.arc_diagrams.specs.Reduction.{AreFinal}
use Rattle.arc_diagrams.specs.Reducing.{nodes_from, Remains, distinct_after, IsRising, IsCollecting, IsNumbering, IsForwarding}
use Rattle.arc_diagrams.specs.declared.source_row.SourceRow.{SourceRow}
use Rattle.arc_diagrams.specs.declared.name.Name.{Name}
use Rattle.arc_diagrams.proofs.RowLists.{numbered_more}
use Rattle.arc_diagrams.proofs.Collecting.{collect_first, collect_one, collect_again, close_row, close_name, collect_last}
use Rattle.arc_diagrams.proofs.Numbering.{number_first, number_new, number_same, number_last, number_last-rows}
use Rattle.arc_diagrams.proofs.Forwarding.{forward_first, forward_one, forward_name, forward_last-queue, forward_last-unread, root_first, root_past, root_found, root_last}
use Rattle.arc_diagrams.proofs.Remaining.{nodes_from-level, skip_levels}

-- a level opens: that of the greatest source in the queue
pub level_opens : (n root i : ℕ) (arcs queue unread : List Arc) (nodes : List Node) (known : Option ℕ) (q : Arc) → i ≤ n → IsComplete n root arcs
    → Has q queue → ((x : Arc) → Has x queue → x.source ≤ q.source)
    → Remains n root i arcs queue unread nodes known → IsCollecting n root (level_of q.source) arcs queue [] unread [] [] nodes known
level_opens n root i arcs queue unread nodes known q within complete member greatest r =
    let (a, _, above, _, is_q) = r.queued.from q member in
    let below : level_of q.source < i = omega (arith, ap (λ (x : Arc). level_of x.source) is_q) in
    let opened = skip_levels n root i (suc (level_of q.source)) arcs queue unread nodes known within (omega arith) complete
    (λ x m. omega (arith, greatest x m)) r in
    record {
      level = omega arith;
      collects = collect_first n (level_of q.source) arcs queue opened.queued;
      leaves = opened.leaves;
      made = opened.made;
      root_known = opened.root_known;
    }

-- an arc is noted
pub one_noted : (n root i : ℕ) (arcs queue rest noted unread : List Arc) (rows : List SourceRow) (names : List Name) (nodes : List Node) (known : Option ℕ) (q : Arc)
    → SameMembers queue (q ∷ rest) → ((x : Arc) → Has x rest → x.source ≤ q.source) → level_of q.source ≡ i → ((p : Arc) → Has p noted → p.source ≡ q.source)
    → IsCollecting n root i arcs queue noted unread rows names nodes known → IsCollecting n root i arcs rest (q ∷ noted) unread rows names nodes known
one_noted n root i arcs queue rest noted unread rows names nodes known q taken greatest here one s = record {
  level = s.level;
  collects = collect_one n i arcs queue rest noted rows names q taken greatest here one s.collects;
  leaves = s.leaves;
  made = s.made;
  root_known = s.root_known;
}

-- one that was noted is passed by
pub one_passed : (n root i : ℕ) (arcs queue rest noted unread : List Arc) (rows : List SourceRow) (names : List Name) (nodes : List Node) (known : Option ℕ) (p q : Arc)
    → IsComplete n root arcs → SameMembers queue (q ∷ rest) → Has p noted → p.source ≡ q.source → p.high ≡ q.high
    → IsCollecting n root i arcs queue noted unread rows names nodes known → IsCollecting n root i arcs rest noted unread rows names nodes known
one_passed n root i arcs queue rest noted unread rows names nodes known p q complete taken member source high s = record {
  level = s.level;
  collects = collect_again n root i arcs queue rest noted rows names p q complete taken member source high s.collects;
  leaves = s.leaves;
  made = s.made;
  root_known = s.root_known;
}

-- the source at hand becomes a row
pub row_closed : (n root i : ℕ) (arcs queue noted unread : List Arc) (rows : List SourceRow) (names : List Name) (nodes : List Node) (known : Option ℕ) (p : Arc) (r : SourceRow)
    → IsComplete n root arcs → Has p noted → ((q : Arc) → Has q queue → q.source ≢ p.source)
    → pair r ≡ targets_of noted p.source → r.source ≡ p.source → differs (pair r) ≡ true
    → IsCollecting n root i arcs queue noted unread rows names nodes known → IsCollecting n root i arcs queue [] unread (r ∷ rows) names nodes known
row_closed n root i arcs queue noted unread rows names nodes known p r complete member none is_pair is_source differ s = record {
  level = s.level;
  collects = close_row n root i arcs queue noted rows names p s.level complete s.collects member none r is_pair is_source differ;
  leaves = s.leaves;
  made = s.made;
  root_known = s.root_known;
}

-- or gets its name
pub name_closed : (n root i : ℕ) (arcs queue noted unread : List Arc) (rows : List SourceRow) (names : List Name) (nodes : List Node) (known : Option ℕ) (p : Arc) (m : Name)
    → IsComplete n root arcs → AreFinal n arcs → Has p noted → ((q : Arc) → Has q queue → q.source ≢ p.source)
    → m.source ≡ p.source → m.pointer ≡ target_on noted p.source false → differs (targets_of noted p.source) ≡ false
    → IsCollecting n root i arcs queue noted unread rows names nodes known → IsCollecting n root i arcs queue [] unread rows (m ∷ names) nodes known
name_closed n root i arcs queue noted unread rows names nodes known p m complete final member none is_source is_pointer differ s = record {
  level = s.level;
  collects = close_name n root i arcs queue noted rows names p s.level complete s.collects member none final m is_source is_pointer differ;
  leaves = s.leaves;
  made = s.made;
  root_known = s.root_known;
}

-- the sources of the level are collected
pub rows_begin : (n root i : ℕ) (arcs queue unread : List Arc) (rows : List SourceRow) (names : List Name) (nodes : List Node) (known : Option ℕ)
    → IsComplete n root arcs → ((q : Arc) → Has q queue → level_of q.source < i) → IsRising (map pair rows)
    → IsCollecting n root i arcs queue [] unread rows names nodes known → IsNumbering n root i arcs queue unread [] None rows names nodes known
rows_begin n root i arcs queue unread rows names nodes known complete low up s = record {
  level = s.level;
  numbers = number_first n root i arcs queue rows names complete s.collects low up;
  queued = collect_last n i arcs queue rows names s.collects low;
  leaves = s.leaves;
  made = s.made ∙ sym (append-nil (nodes_from n arcs (suc i)));
  root_known = s.root_known;
}

-- a new row is numbered, and its node is written
pub row_numbered : (n root i : ℕ) (arcs queue unread : List Arc) (done : List Row) (last : Option Row) (r : SourceRow) (rows : List SourceRow) (names : List Name)
    (nodes more : List Node) (known : Option ℕ) (m : Name) → AreFinal n arcs
    → distinct_after last (pair r ∷ map pair rows) ≡ pair r ∷ distinct_after (Some (pair r)) (map pair rows)
    → m.source ≡ r.source → m.pointer ≡ row_word i (length done)
    → more ≡ nodes ++ record { uid = row_word i (length done); low = r.low; high = r.high } ∷ []
    → IsNumbering n root i arcs queue unread done last (r ∷ rows) names nodes known
    → IsNumbering n root i arcs queue unread (done ++ pair r ∷ []) (Some (pair r)) rows (m ∷ names) more known
row_numbered n root i arcs queue unread done last r rows names nodes more known m final is_new is_source is_pointer written s =
    let place : length done ≡ 0 + length done = omega arith in
    record {
      level = s.level;
      numbers = number_new n i arcs done last r rows names m final is_new is_source is_pointer s.numbers;
      queued = s.queued;
      leaves = s.leaves;
      made =
          written ∙ (λ j. s.made j ++ record { uid = row_word i (place j); low = r.low; high = r.high } ∷ [])
          ∙ append_assoc (nodes_from n arcs (suc i)) (numbered i 0 done) (record { uid = row_word i (0 + length done); low = r.low; high = r.high } ∷ [])
          ∙ ap (λ xs. nodes_from n arcs (suc i) ++ xs) (sym (numbered_more i 0 done (pair r)));
      root_known = s.root_known;
    }

-- a row that is the one before has its number
pub row_shared : (n root i : ℕ) (arcs queue unread : List Arc) (done : List Row) (p : Row) (r : SourceRow) (rows : List SourceRow) (names : List Name)
    (nodes : List Node) (known : Option ℕ) (m : Name) → AreFinal n arcs
    → ((p.low == r.low) && (p.high == r.high)) ≡ true → m.source ≡ r.source → m.pointer ≡ row_word i (length done - 1)
    → IsNumbering n root i arcs queue unread done (Some p) (r ∷ rows) names nodes known
    → IsNumbering n root i arcs queue unread done (Some p) rows (m ∷ names) nodes known
row_shared n root i arcs queue unread done p r rows names nodes known m final same is_source is_pointer s = record {
  level = s.level;
  numbers = number_same n i arcs done p r rows names m final same is_source is_pointer s.numbers;
  queued = s.queued;
  leaves = s.leaves;
  made = s.made;
  root_known = s.root_known;
}

-- the rows of the level are numbered
pub names_begin : (n root i : ℕ) (arcs queue unread : List Arc) (done : List Row) (last : Option Row) (names : List Name) (nodes : List Node) (known : Option ℕ)
    → IsComplete n root arcs → IsNumbering n root i arcs queue unread done last [] names nodes known → IsForwarding n root i arcs queue unread names nodes known
names_begin n root i arcs queue unread done last names nodes known complete s =
    let named = number_last n i arcs done last names s.numbers in
    record {
      level = s.level;
      forwards = forward_first n root i arcs queue unread names s.level complete s.queued s.leaves named;
      made =
          s.made ∙ (λ j. nodes_from n arcs (suc i) ++ numbered i 0 (sym (number_last-rows n i arcs done last names s.numbers) j))
          ∙ sym (nodes_from-level n arcs i s.level);
      root_found = root_first n root i arcs names known s.level complete s.root_known named;
    }

-- an arc to the level is read
pub one_forwarded : (n root i : ℕ) (arcs queue unread rest : List Arc) (names : List Name) (nodes : List Node) (known : Option ℕ) (u q : Arc) (m : Name)
    → IsComplete n root arcs → SameMembers unread (u ∷ rest) → Has m names → m.source ≡ u.target → q.source ≡ u.source → q.high ≡ u.high → q.target ≡ m.pointer
    → IsForwarding n root i arcs queue unread names nodes known → IsForwarding n root i arcs (q ∷ queue) rest names nodes known
one_forwarded n root i arcs queue unread rest names nodes known u q m complete taken member to_source source high target s = record {
  level = s.level;
  forwards = forward_one n root i arcs queue unread rest names u q m complete taken member to_source source high target s.forwards;
  made = s.made;
  root_found = s.root_found;
}

-- a name is done with: that of the root says the root's final pointer
pub name_done : (n root i : ℕ) (arcs queue unread : List Arc) (names rest : List Name) (nodes : List Node) (known : Option ℕ) (m : Name)
    → SameMembers names (m ∷ rest) → ((u : Arc) → Has u unread → u.target ≢ m.source) → m.source ≢ root
    → IsForwarding n root i arcs queue unread names nodes known → IsForwarding n root i arcs queue unread rest nodes known
name_done n root i arcs queue unread names rest nodes known m taken none other s = record {
  level = s.level;
  forwards = forward_name n i arcs queue unread names rest m taken none s.forwards;
  made = s.made;
  root_found = root_past n root i arcs names rest known m taken other s.root_found;
}

pub root_done : (n root i : ℕ) (arcs queue unread : List Arc) (names rest : List Name) (nodes : List Node) (known more : Option ℕ) (m : Name)
    → SameMembers names (m ∷ rest) → ((u : Arc) → Has u unread → u.target ≢ m.source) → m.source ≡ root → more ≡ Some m.pointer
    → IsForwarding n root i arcs queue unread names nodes known → IsForwarding n root i arcs queue unread rest nodes more
root_done n root i arcs queue unread names rest nodes known more m taken none same is_known s = record {
  level = s.level;
  forwards = forward_name n i arcs queue unread names rest m taken none s.forwards;
  made = s.made;
  root_found = root_found n root i arcs names rest more m (s.forwards.names_right m (taken.back m (inl refl))) same is_known;
}

-- the level is done
pub level_done : (n root i : ℕ) (arcs queue unread : List Arc) (nodes : List Node) (known : Option ℕ)
    → IsForwarding n root i arcs queue unread [] nodes known → Remains n root i arcs queue unread nodes known
level_done n root i arcs queue unread nodes known s = record {
  queued = forward_last-queue n i arcs queue unread s.forwards;
  leaves = forward_last-unread n i arcs queue unread s.forwards;
  made = s.made;
  root_known = root_last n root i arcs known s.root_found;
}
