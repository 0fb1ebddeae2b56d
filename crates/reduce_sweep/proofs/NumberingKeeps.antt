-- The numbering of a row keeps what remains of a reduction.
use Rattle.std.proofs.lemmas.Bool.Decides.{nat_tests}
use Rattle.std.proofs.lemmas.Bool.{true≢false}
use Rattle.std.proofs.lemmas.List.{length-append}
use Rattle.std.proofs.Common.{◌≡◌, ℕ, ◌≤◌, arith, refl, ap, sym, subst, ◌∙◌, inl, List, ◌++◌}
use Rattle.std.specs.List.Sorted.{IsPermutation}
use Rattle.std.specs.Prelude.{◌+◌, ◌-◌, ◌^◌, ◌∷◌, [], Bool, true, false, cond, Option, Some, None, IsSome, map, length}
use Rattle.rec_words.specs.Words.{node_word, level_of}
use Rattle.rec_words.specs.declared.node.Node.{Node}
use Rattle.shelf_model.specs.World.{World}
use Rattle.canon_file.specs.declared.row.Row.{Row}
use Rattle.canon_file.specs.Members.{Has}
use Rattle.canon_file.specs.Rows.{row_word}
use Rattle.arc_file.specs.declared.arc.Arc.{Arc}
use Rattle.arc_diagrams.specs.Items.{pair}
use Rattle.arc_diagrams.specs.Reduction.{AreFinal}
use Rattle.arc_diagrams.specs.Reducing.{IsNumbering, distinct_after}
use Rattle.arc_diagrams.specs.declared.source_row.SourceRow.{SourceRow}
use Rattle.arc_diagrams.specs.declared.name.Name.{Name}
use Rattle.arc_diagrams.proofs.FinalLaws.{finds_final}
use Rattle.arc_diagrams.proofs.ListViews.{same_permuted}
use Rattle.arc_diagrams.proofs.Phases.{row_numbered, row_shared, names_begin}
use Rattle.arc_diagrams.proofs.RowLists.{after-new}
use Rattle.arc_diagrams.proofs.SameLists.{numbers-same}
use Rattle.reduce_lists.specs.Contents.{Contents, Holds, to_collect}
use Rattle.reduce_sweep.specs.declared.phase.Numbered.{Numbered}
use Rattle.reduce_sweep.specs.declared.phase.Phase.{Phase}
use Rattle.reduce_sweep.specs.declared.phase.Phase.TheVariants.{Number, Forward}
use Rattle.reduce_sweep.specs.declared.place.Place.{Place}
use Rattle.reduce_sweep.specs.declared.reduce.ReduceSweep.{ReduceSweep}
use Rattle.reduce_sweep.specs.Sweeps.{IsPhaseAt, IsNumberedAt}
use Rattle.reduce_sweep.specs.Remaining.{Diagram, IsLeft, IsWorking, RemainsAt, IsNumbered}
use Rattle.reduce_sweep.specs.Changes.{is_last, numbered_with, nodes_with, NumbersRow}

-- names in another order are the same
numbering-same : (n root i : ℕ) (arcs queue unread : List Arc) (done : List Row) (last : Option Row) (rows : List SourceRow) (names other : List Name) (nodes : List Node) (known : Option ℕ)
    → IsPermutation names other → IsNumbering n root i arcs queue unread done last rows names nodes known → IsNumbering n root i arcs queue unread done last rows other nodes known
numbering-same n root i arcs queue unread done last rows names other nodes known same s = record {
  level = s.level;
  numbers = numbers-same n i arcs done last rows names other (same_permuted names other same) s.numbers;
  queued = s.queued;
  leaves = s.leaves;
  made = s.made;
  root_known = s.root_known;
}

-- a row with a new pair is the next of those that differ
differs-next : (last : Option Row) (r : SourceRow) (rows : List SourceRow) → is_last last r ≡ false
    → distinct_after last (pair r ∷ map pair rows) ≡ pair r ∷ distinct_after (Some (pair r)) (map pair rows)
differs-next None r rows fresh = refl
differs-next (Some last) r rows fresh = after-new last (pair r) (map pair rows) fresh

-- what a row with its number leaves to be numbered
record NumbersOne (n root level : ℕ) (d : Diagram) (queue unread : List Arc) (last : Option Row) (number : ℕ) (r : SourceRow) (rows : List SourceRow) (names : List Name) (nodes : List Node) (known : Option ℕ) : Type 0 where
  pub done : List Row
  pub numbering : IsNumbering n root level d.arcs queue unread done (Some (pair r)) rows names (cond (is_last last r) nodes (nodes ++ record { uid = row_word level number; low = r.low; high = r.high } ∷ [])) known
  pub number_is : cond (is_last last r) number (number + 1) ≡ length done

one_numbered : (n root level : ℕ) (d : Diagram) (queue unread : List Arc) (last : Option Row) (number : ℕ) (done : List Row) (r : SourceRow) (rows : List SourceRow) (names other : List Name)
    (nodes : List Node) (known : Option ℕ) (m : Name) (shared : Bool) → is_last last r ≡ shared → AreFinal n d.arcs → number ≡ length done → m.source ≡ r.source
    → m.pointer ≡ node_word level (2 ^ 47 - cond shared number (number + 1)) → (IsSome last → 1 ≤ number) → IsPermutation (m ∷ names) other
    → IsNumbering n root level d.arcs queue unread done last (r ∷ rows) names nodes known
    → NumbersOne n root level d queue unread last number r rows other nodes known
one_numbered n root level d queue unread last number done r rows names other nodes known m false fresh final count is_source is_pointer some joined s =
    let word : m.pointer ≡ row_word level (length done) = is_pointer ∙ ap (λ k. node_word level k) (omega (arith, count)) in
    let node : List Node = record { uid = row_word level number; low = r.low; high = r.high } ∷ [] in
    let put : cond (is_last last r) nodes (nodes ++ node) ≡ nodes ++ record { uid = row_word level (length done); low = r.low; high = r.high } ∷ [] =
    ap (λ b. cond b nodes (nodes ++ node)) fresh ∙ (λ j. nodes ++ record { uid = row_word level (count j); low = r.low; high = r.high } ∷ []) in
    let after = row_numbered n root level d.arcs queue unread done last r rows names nodes (cond (is_last last r) nodes (nodes ++ node)) known m final
    (differs-next last r rows fresh) is_source word put s in
    record {
      done = done ++ pair r ∷ [];
      numbering = numbering-same n root level d.arcs queue unread (done ++ pair r ∷ []) (Some (pair r)) rows (m ∷ names) other _ known joined after;
      number_is = ap (λ b. cond b number (number + 1)) fresh ∙ ap (λ k. k + 1) count ∙ sym (length-append done (pair r ∷ []));
    }
one_numbered n root level d queue unread None number done r rows names other nodes known m true same final count is_source is_pointer some joined s = absurd (true≢false (sym same))
one_numbered n root level d queue unread (Some last) number done r rows names other nodes known m true same final count is_source is_pointer some joined s =
    let one : 1 ≤ number = some refl in
    let word : m.pointer ≡ row_word level (length done - 1) = is_pointer ∙ ap (λ k. node_word level k) (omega (arith, count, one)) in
    let node : List Node = record { uid = row_word level number; low = r.low; high = r.high } ∷ [] in
    let after = row_shared n root level d.arcs queue unread done last r rows names nodes known m final same is_source word s in
    let low_is : last.low ≡ r.low = grind (arith, nat_tests) in
    let high_is : last.high ≡ r.high = grind (arith, nat_tests) in
    let is_pair : last ≡ pair r = λ j. record { low = low_is j; high = high_is j } in
    record {
      done = done;
      numbering = numbering-same n root level d.arcs queue unread done (Some (pair r)) rows (m ∷ names) other _ known joined
          (subst (λ p. IsNumbering n root level d.arcs queue unread done (Some p) rows (m ∷ names) (cond (is_last (Some last) r) nodes (nodes ++ node)) known) is_pair
          (subst (λ b. IsNumbering n root level d.arcs queue unread done (Some last) rows (m ∷ names) (cond b nodes (nodes ++ node)) known) (sym same) after));
      number_is = ap (λ b. cond b number (number + 1)) same ∙ count;
    }

-- what remains while rows are numbered
numbered_at : (p : Place) (s : Numbered) (d : Diagram) (k : Contents) → p.phase ≡ Number s → IsLeft p d k → IsNumbered p.variables p.arcs.root p.level p.known s d k
numbered_at p s d k phase left = subst (λ f. RemainsAt f p.variables p.arcs.root p.level p.known d k) phase left.remains

-- a row is one of a source of the level
pub row_here : (p : Place) (s : Numbered) (d : Diagram) (k : Contents) (r : SourceRow) (rest : List SourceRow) → p.phase ≡ Number s → IsLeft p d k → k.rows ≡ r ∷ rest → level_of r.source ≡ p.level
row_here p s d k r rest phase left is =
    let (a, _, level, source, _, _) = (numbered_at p s d k phase left).numbering.numbers.rows_right r (subst (Has r) (sym is) (inl refl)) in
    ap level_of (sym source) ∙ level

-- the row at hand has its number
pub row_numbered_on : (p : Place) (s : Numbered) (u : ReduceSweep) (world : World) (d : Diagram) (k : Contents) (r : SourceRow) (rest : List SourceRow) → p.phase ≡ Number s
    → u.place ≡ record p { phase = Number (numbered_with s r) } → (IsSome s.last → 1 ≤ s.number) → IsLeft p d k → k.rows ≡ r ∷ rest
    → NumbersRow p.level s u world (record k { rows = rest }) r → IsWorking u world d
row_numbered_on p s u world d k r rest phase place some left taken (names, joined, holds) =
    let are = numbered_at p s d k phase left in
    let final = finds_final p.variables p.arcs.root d.arcs left.is_of.few left.is_of.diagram.complete in
    let m : Name = record { source = r.source; pointer = node_word p.level (2 ^ 47 - (numbered_with s r).number) } in
    let one = one_numbered p.variables p.arcs.root p.level d (to_collect k) k.inner s.last s.number are.done r rest k.names names k.nodes (Some p.known) m (is_last s.last r) refl final
    are.number_is refl refl some joined
    (subst (λ rows. IsNumbering p.variables p.arcs.root p.level d.arcs (to_collect k) k.inner are.done s.last rows k.names k.nodes (Some p.known)) taken are.numbering) in
    let l : Contents = record k { rows = rest; names = names; nodes = nodes_with p.level s r k.nodes } in
    record {
      contents = l;
      holds = holds;
      left = subst (λ (q : Place). IsLeft q d l) (sym place)
          (record { is_of = left.is_of; taken = left.taken; remains = record { done = one.done; numbering = one.numbering; number_is = one.number_is } });
    }

-- all rows have their numbers
pub rows_numbered : (p : Place) (s : Numbered) (u : ReduceSweep) (world : World) (d : Diagram) (k : Contents) → p.phase ≡ Number s → u.place ≡ record p { phase = Forward } → IsLeft p d k → k.rows ≡ []
    → Holds u.ahead u.lists u.writer world k → IsWorking u world d
rows_numbered p s u world d k phase place left none holds =
    let are = numbered_at p s d k phase left in
    record {
      contents = k;
      holds = holds;
      left = subst (λ (q : Place). IsLeft q d k) (sym place) (record {
        is_of = left.is_of;
        taken = left.taken;
        remains = record {
          forwarding = names_begin p.variables p.arcs.root p.level d.arcs (to_collect k) k.inner are.done s.last k.names k.nodes (Some p.known) left.is_of.diagram.complete
              (subst (λ rows. IsNumbering p.variables p.arcs.root p.level d.arcs (to_collect k) k.inner are.done s.last rows k.names k.nodes (Some p.known)) none are.numbering);
          no_rows = none;
        };
      });
    }

-- what is true of a phase of a place
pub phase_numbered : (level count : ℕ) (phase : Phase) (s : Numbered) → phase ≡ Number s → IsPhaseAt level count phase → IsNumberedAt level count s
phase_numbered level count phase s is true_of = subst (IsPhaseAt level count) is true_of
