-- The node of a row is put, and its source named.
use Rattle.std.proofs.Common.{◌≡◌, ℕ, ◌+◌, ◌-◌, ◌^◌, arith, ap, sym, subst, ◌∙◌, List, ◌++◌}
use Rattle.std.proofs.lemmas.List.{length-append}
use Rattle.std.specs.List.Sorted.{IsPermutation}
use Rattle.std.specs.Prelude.{◌∷◌, [], true, false, cond, Result, Ok, Err, OnOk, length}
use Rattle.rec_words.specs.declared.node.Node.{Node}
use Rattle.rec_words.specs.Words.{node_word}
use Rattle.shelf_model.specs.declared.sort_fault.SortFault.{SortFault}
use Rattle.shelf_model.specs.World.{World}
use Rattle.block_stream.specs.Writes.{count_of, Wrote}
use Rattle.canon_file.specs.Rows.{row_word}
use Rattle.canon_file.specs.Canon.{node_bytes}
use Rattle.node_file.specs.declared.writer.NodeWriter.{NodeWriter}
use Rattle.node_file.specs.Writers as writers
use Rattle.arc_diagrams.specs.declared.source_row.SourceRow.{SourceRow}
use Rattle.reduce_lists.specs.declared.held.Ahead.{Ahead}
use Rattle.reduce_lists.specs.declared.held.Lists.{Lists}
use Rattle.reduce_lists.specs.Held.{AreServed}
use Rattle.reduce_lists.specs.Contents.{Contents, Holds}
use Rattle.reduce_lists.specs.Changes.{JoinsNames}
use Rattle.reduce_lists.proofs.Holding.{with_nodes}
use Rattle.canon_file.proofs.ByteLaws.{node_bytes-append}
use Rattle.reduce_sweep.specs.declared.phase.Numbered.{Numbered}
use Rattle.reduce_sweep.specs.declared.reduce.ReduceSweep.{ReduceSweep}
use Rattle.reduce_sweep.specs.Sweeps.{held_of, IsNumberedAt}
use Rattle.reduce_sweep.specs.Changes.{is_last, numbered_with, nodes_with, NumbersRow}

-- no node is put for a row whose pair was the last one
pub puts_none : (level : ℕ) (s : Numbered) (r : SourceRow) (a : Ahead) (l : Lists) (w : NodeWriter) (world : World)
    (k : Contents) → is_last s.last r ≡ true → Holds a l w world k
    → Holds a l w world (record k { nodes = nodes_with level s r k.nodes })
puts_none level s r a l w world k same holds =
    subst (λ b. Holds a l w world (record k {
      nodes = cond b k.nodes (k.nodes ++ record { uid = row_word level s.number; low = r.low; high = r.high } ∷ []);
    })) (sym same) holds

-- the node of a row with a new pair is put
pub puts_node : (level : ℕ) (s : Numbered) (r : SourceRow) (uid n : ℕ) (t : ReduceSweep) (v : NodeWriter)
    (old new : World) (k : Contents) → AreServed t.ahead t.lists t.writer t.parts
    → is_last s.last r ≡ false → uid ≡ node_word level (2 ^ 47 - (numbered_with s r).number)
    → Wrote n (writers.filling_of t.writer).file old new
    → writers.Holds v new (writers.written_of t.writer old ++ node_bytes
    (record { uid = uid; low = r.low; high = r.high } ∷ []))
    → count_of (writers.filling_of v) ≡ count_of (writers.filling_of t.writer) + 1
    → Holds t.ahead t.lists t.writer old k
    → Holds t.ahead t.lists v new (record k { nodes = nodes_with level s r k.nodes })
puts_node level s r uid n t v old new k served fresh is_uid wrote written counted holds =
    let next : (numbered_with s r).number ≡ s.number + 1 = ap (λ b. cond b s.number (s.number + 1)) fresh in
    let word : uid ≡ row_word level s.number = is_uid ∙ ap (λ m. node_word level m) (omega (arith, next)) in
    let put : List Node = record { uid = uid; low = r.low; high = r.high } ∷ [] in
    let row : List Node = record { uid = row_word level s.number; low = r.low; high = r.high } ∷ [] in
    let puts : nodes_with level s r k.nodes ≡ k.nodes ++ row = ap (λ b. cond b k.nodes (k.nodes ++ row)) fresh in
    let same_node : put ≡ row = λ j. record { uid = word j; low = r.low; high = r.high } ∷ [] in
    let bytes : writers.written_of t.writer old ++ node_bytes put ≡ node_bytes (nodes_with level s r k.nodes) =
    ap (λ front. front ++ node_bytes put) holds.nodes_is.bytes_are ∙ sym (node_bytes-append k.nodes put)
    ∙ ap (λ xs. node_bytes (k.nodes ++ xs)) same_node ∙ ap node_bytes (sym puts) in
    let many : length (nodes_with level s r k.nodes) ≡ count_of (writers.filling_of v) =
    ap length puts ∙ length-append k.nodes row ∙ ap (λ m. m + 1) holds.nodes_many ∙ sym counted in
    with_nodes t.ahead t.lists t.writer v t.parts n old new k (nodes_with level s r k.nodes) served wrote
    (subst (writers.Holds v new) bytes written) many holds

-- the node of a row was put, and the name of its source pushed
pub row_named : (s t u : ReduceSweep) (told later : Type 0) (old between new : World) (n : Numbered) (r : SourceRow)
    (pointer : ℕ) (result : Result Unit SortFault)
    → pointer ≡ node_word s.place.level (2 ^ 47 - (numbered_with n r).number) → (later → told)
    → (told → (k : Contents) → Holds s.ahead s.lists s.writer old k
    → Holds t.ahead t.lists t.writer between (record k { nodes = nodes_with s.place.level n r k.nodes }))
    → OnOk result (later → (k : Contents) → Holds t.ahead t.lists t.writer between k
    → JoinsNames (held_of u) new k (record { source = r.source; pointer = pointer }))
    → OnOk result (later → (k : Contents) → Holds s.ahead s.lists s.writer old k → NumbersRow s.place.level n u new k r)
row_named s t u told later old between new n r pointer (Err e) is before put joined = tt
row_named s t u told later old between new n r pointer (Ok x) is before put joined = λ tell k holds.
    let (names, permuted, held) = joined tell (record k { nodes = nodes_with s.place.level n r k.nodes })
    (put (before tell) k holds) in
    (names, subst (λ w. IsPermutation (record { source = r.source; pointer = w } ∷ k.names) names) is permuted, held)

-- a row with a new pair has a number and a node of its own
pub numbered_next : (level count : ℕ) (s : Numbered) (r : SourceRow) → is_last s.last r ≡ false
    → IsNumberedAt level count s → IsNumberedAt level (count + 1) (numbered_with s r)
numbered_next level count s r fresh are =
    let next : (numbered_with s r).number ≡ s.number + 1 = ap (λ b. cond b s.number (s.number + 1)) fresh in
    record {
      level_is = are.level_is;
      numbered = omega (arith, next, are.numbered);
      some = λ _. omega (arith, next);
    }
