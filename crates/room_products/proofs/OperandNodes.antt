-- The nodes of a canonical file, as they are read.
use Rattle.std.proofs.Common.{◌≡◌, ◌∙◌, ℕ, ◌<◌, ◌≤◌, Bool, true, false, List, [], ◌∷◌, length, take}
use Rattle.std.proofs.Common.{sym, ap, subst, inl, inr, arith}
use Rattle.std.specs.Prelude.{◌==◌}
use Rattle.std.proofs.lemmas.Bool.Decides.{nat_tests}
use Rattle.std.proofs.lemmas.List.{length-take-le, get_or-take}
use Rattle.rec_words.specs.Records.{node_words}
use Rattle.rec_words.specs.declared.rec.Rec.{Rec}
use Rattle.rec_words.specs.declared.node.Node.{Node}
use Rattle.list_laws.specs.Members.{Has}
use Rattle.list_laws.proofs.MemberLaws.{map_has}
use Rattle.list_laws.proofs.SameMembers.{has_at}
use Rattle.run_files.specs.Items.{record_at}
use Rattle.shelf_model.specs.declared.file_no.FileNo.{FileNo}
use Rattle.shelf_model.specs.World.{World, file}
use Rattle.block_stream.specs.Items.{item_record}
use Rattle.block_stream.proofs.RecordLaws.{length-records_of}
use Rattle.canon_file.specs.declared.row.Row.{Row}
use Rattle.canon_file.specs.Canon.{canon_nodes}
use Rattle.canon_file.specs.NodeFiles.{IsDescending, IsNodeFile}
use Rattle.canon_file.specs.Laws.{HasForm}
use Rattle.canon_file.specs.Walks.{row_at}
use Rattle.canon_file.proofs.FileLaws.{is_node_file}
use Rattle.node_file.specs.Nodes.{node_records, records_in}
use Rattle.room_reduction.specs.Records.{word}
use Rattle.node_file.proofs.HeldNodes.{canon_read}
use Rattle.node_file.specs.Canonical.{IsCanonicalFile}
use Rattle.top_down.specs.Tuples.{canon_targets}
use Rattle.room_reduction.proofs.LevelSources.{member_place}
use Rattle.room_products.specs.Goals.{GivesRows}
use Rattle.room_reduction.specs.Reading.{HoldNodes}

-- a node's pointers are found by its identifier
row_at-node : (nodes : List Node) → IsDescending nodes → (x : Node) → Has x nodes
    → row_at nodes x.uid ≡ record { low = x.low; high = x.high }
row_at-node [] down x has = absurd has
row_at-node (y ∷ ys) down x (inl is) =
    let same : (y.uid == x.uid) ≡ true = let uid = ap (λ (z : Node). z.uid) is in grind (arith, nat_tests) in
    rw same (ap (λ (z : Node). let r : Row = record { low = z.low; high = z.high } in r) is)
row_at-node (y ∷ ys) down x (inr has) =
    let below : x.uid < y.uid = down.0 x has in
    let other : (y.uid == x.uid) ≡ false = grind (arith, nat_tests) in
    rw other (row_at-node ys down.1 x has)

-- the records of the canonical nodes give their rows
records_give : (n : ℕ) (t : List Bool) → IsNodeFile n t → GivesRows (canon_targets n t) (node_records (canon_nodes n t))
records_give n t rules r has =
    let (x, member, is) = map_has (item_record node_words) r (canon_nodes n t) has in
    subst (λ (v : Rec). canon_targets n t (word 0 v) ≡ record { low = word 1 v; high = word 2 v }) is
    (row_at-node (canon_nodes n t) rules.descend x member)

-- and so do those that hold what is read from a canonical file
pub read_gives : (n : ℕ) (t : List Bool) (f : FileNo) (world : World) (count : ℕ) (nodes : List Rec)
    → IsCanonicalFile n t f world → count ≡ length (canon_nodes n t) → count ≤ length nodes
    → HoldNodes count (records_in count (file world f).bytes) nodes → GivesRows (canon_targets n t) (take count nodes)
read_gives n t f world count nodes is_file many room held r has =
    let form : HasForm n t = is_file.form in
    let rules : IsNodeFile n t = is_node_file n t form.few form.whole form.fits in
    let read : List Rec = records_in count (file world f).bytes in
    let is : read ≡ node_records (canon_nodes n t) = canon_read n t f world count is_file many in
    let gives : GivesRows (canon_targets n t) read =
    subst (GivesRows (canon_targets n t)) (sym is) (records_give n t rules) in
    let (k, among, at) = member_place r (take count nodes) has in
    let below : k < count = omega (arith, among, length-take-le count nodes room) in
    let here : r ≡ record_at nodes k = sym at ∙ get_or-take count nodes k (record { w = [] }) below in
    let same : (c : ℕ) → c < 3 → word c r ≡ word c (record_at read k) =
    λ c few. ap (word c) here ∙ held k c below few in
    let first = same 0 (omega arith) in
    let second = same 1 (omega arith) in
    let third = same 2 (omega arith) in
    let within = length-records_of 3 count (file world f).bytes in
    ap (canon_targets n t) first
    ∙ gives (record_at read k) (has_at read k (record { w = [] }) (omega (arith, below, within)))
    ∙ (λ j. record { low = sym second j; high = sym third j })
