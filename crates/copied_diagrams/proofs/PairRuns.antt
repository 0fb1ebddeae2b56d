-- Which way leads to an operator's diagram, and what is made in it.
use Rattle.std.proofs.Common.{◌≡◌, ◌∙◌, ℕ, ◌+◌, ◌*◌, ◌≤◌, Bool, IsTrue, List, length, take, sym, ap, subst, inl, inr, arith}
use Rattle.std.proofs.lemmas.List.{take_all}
use Rattle.bool_tables.specs.declared.steps.Bin.{Bin}
use Rattle.shelf_model.specs.declared.file_no.FileNo.{FileNo}
use Rattle.shelf_model.specs.declared.fault.StreamFault.{StreamFault}
use Rattle.shelf_model.specs.declared.fault.StreamFault.TheVariants.{Shelf, Damaged}
use Rattle.shelf_model.specs.File.{File, firm_file}
use Rattle.shelf_model.specs.Folder.{Folder, file_in}
use Rattle.shelf_model.specs.Moments.{Stays}
use Rattle.shelf_model.specs.World.{World, now, file}
use Rattle.shelf_model.proofs.Runs.{ran_end}
use Rattle.block_stream.specs.Reads.{Looked}
use Rattle.canon_file.specs.Canon.{canon_nodes, canon_root, canon_bytes, trailer_bytes}
use Rattle.canon_file.specs.Constants.{const_table}
use Rattle.rec_words.specs.Words.{terminal}
use Rattle.canon_file.specs.Laws.{HasForm}
use Rattle.canon_file.proofs.ConstDiagram.{no_node-const}
use Rattle.canon_file.proofs.ByteLaws.{bytes_unique}
use Rattle.node_file.specs.Canonical.{IsCanonicalFile, IsMade}
use Rattle.node_file.specs.Nodes.{IsTrailerDamage}
use Rattle.copied_diagrams.specs.declared.operand.Operand.{Operand}
use Rattle.copied_diagrams.specs.declared.operand.Operand.TheVariants.{Left, Right}
use Rattle.copied_diagrams.specs.declared.operand.Choice.{Choice}
use Rattle.copied_diagrams.specs.declared.operand.Choice.TheVariants as choices
use Rattle.copied_diagrams.specs.declared.pair.Pair.{Pair}
use Rattle.copied_diagrams.specs.declared.source.Source.{Source}
use Rattle.copied_diagrams.specs.declared.way.Way.{Way}
use Rattle.copied_diagrams.specs.declared.way.Way.TheVariants.{Constant, Copy, CopyInTurns, Complement, Join}
use Rattle.room_reduction.specs.Complements.{complement}
use Rattle.copied_diagrams.specs.Operands.{pair_table, IsResult}
use Rattle.copied_diagrams.specs.Pairs.{ArePair, IsTrailerOf, AreTrailersOf, IsSourceOf, IsOperandDamage, of_operand, nodes_of_both}
use Rattle.copied_diagrams.specs.Ways.{IsWayBy, IsOneOf, IsOfPair, LeadsTo}
use Rattle.copied_diagrams.proofs.PairTables.{copy_is, complement_is, constant_is, constant_form}
use Rattle.copied_diagrams.proofs.TrailerFacts.{long_canonical}

-- a file is as it was after a look
pub looked_same : (n : ℕ) (f : FileNo) (old new : World) → Looked n old new → file new f ≡ file old f
looked_same n f old new looked = ap (λ (folder : Folder). file_in folder f) (ran_end old new (Stays (now old)) looked.run)

-- an operand that isn't damaged, or is, after a look
pub damaged_before : (n k : ℕ) (f : FileNo) (old new : World) (e : StreamFault) → Looked k old new → IsOperandDamage n f new e → IsOperandDamage n f old e
damaged_before n k f old new Shelf looked damage = tt
damaged_before n k f old new (Damaged g at) looked damage =
    subst (λ (x : File). (g ≡ f) × IsTrailerDamage n x.bytes (Damaged g at)) (looked_same k f old new looked) damage

pub file_before : (n k : ℕ) (t : List Bool) (f : FileNo) (old new : World) → Looked k old new → IsCanonicalFile n t f old → IsCanonicalFile n t f new
file_before n k t f old new looked is = record {
  form = is.form;
  bytes_are = ap (λ (x : File). x.bytes) (looked_same k f old new looked) ∙ is.bytes_are;
}

-- one file is that of one table
one_table : (n : ℕ) (left right : FileNo) (t u : List Bool) (world : World) → ArePair n left right t u world → left ≡ right → t ≡ u
one_table n left right t u world pair same =
    bytes_unique n t u pair.first.form.few pair.first.form.whole pair.second.form.whole pair.first.form.fits pair.second.form.fits
    (sym pair.first.bytes_are ∙ ap (λ f. (file world f).bytes) same ∙ pair.second.bytes_are)

-- an operand is the canonical file of its table
source_has : (n : ℕ) (o : Operand) (pair : Pair) (t u : List Bool) (s : Source) (world : World)
    → ArePair n pair.left.from pair.right.from t u world → AreTrailersOf n t u pair
    → s ≡ of_operand o pair.left pair.right → IsSourceOf n (of_operand o t u) (nodes_of_both n t u) s world
source_has n Left pair t u s world are trailers is =
    let count = trailers.0.count_is in
    subst (λ x. IsSourceOf n t (nodes_of_both n t u) x world) (sym is)
    (record { of = are.first; trailer = trailers.0; few = omega (arith, count) })
source_has n Right pair t u s world are trailers is =
    let count = trailers.1.count_is in
    subst (λ x. IsSourceOf n u (nodes_of_both n t u) x world) (sym is)
    (record { of = are.second; trailer = trailers.1; few = omega (arith, count) })

-- the way of a choice that gives the operator's values leads to the diagram of its table
module _ (op : Bin) (same : Bool) (pair : Pair) (choice : Choice) (same_is : IsTrue same → pair.left.from ≡ pair.right.from)
    (gives : IsResult op same pair.left.trailer.root pair.right.trailer.root choice) (n : ℕ) (t u : List Bool) (world : World)
    (are : ArePair n pair.left.from pair.right.from t u world) (trailers : AreTrailersOf n t u pair) where
  equal : IsTrue same → t ≡ u
  equal is = one_table n pair.left.from pair.right.from t u world are (same_is is)

  result : IsResult op same (canon_root n t) (canon_root n u) choice
  result = subst (λ v. v) (λ i. IsResult op same (trailers.0.root_is i) (trailers.1.root_is i) choice) gives

  of_choice : (c : Choice) → choice ≡ c → IsResult op same (canon_root n t) (canon_root n u) c
  of_choice c chosen = subst (IsResult op same (canon_root n t) (canon_root n u)) chosen result

  copy_leads : (o : Operand) (s : Source) → choice ≡ choices.Copy o → s ≡ of_operand o pair.left pair.right
      → IsSourceOf n (pair_table n op t u) (nodes_of_both n t u) s world
  copy_leads o s chosen is =
      subst (λ x. IsSourceOf n x (nodes_of_both n t u) s world)
      (sym (copy_is n op same t u o are.first.form are.second.form equal (of_choice (choices.Copy o) chosen)))
      (source_has n o pair t u s world are trailers is)

  pub way_leads : (way : Way) → IsWayBy choice pair way → LeadsTo n (pair_table n op t u) (nodes_of_both n t u) way world
  way_leads (Constant value) chosen =
      constant_is n op same t u value are.first.form are.second.form equal (of_choice (choices.Constant value) chosen)
  way_leads (Copy source) (operand, chosen, is) = copy_leads operand source chosen is
  way_leads (CopyInTurns source) (operand, chosen, is) = copy_leads operand source chosen is
  way_leads (Complement source) (operand, chosen, is) = (
    of_operand operand t u,
    complement_is n op same t u operand are.first.form are.second.form equal (of_choice (choices.Complement operand) chosen),
    source_has n operand pair t u source world are trailers is,
  )
  way_leads Join chosen = tt

-- and what it copies is of an operand
one_of : (o : Operand) (pair : Pair) (source : Source) → source ≡ of_operand o pair.left pair.right → IsOneOf pair source
one_of Left pair source is = inl is
one_of Right pair source is = inr is

pub way_of_pair : (choice : Choice) (pair : Pair) (way : Way) → IsWayBy choice pair way → IsOfPair pair way
way_of_pair choice pair (Constant value) by = tt
way_of_pair choice pair (Copy source) by = one_of by.0 pair source by.2
way_of_pair choice pair (CopyInTurns source) by = one_of by.0 pair source by.2
way_of_pair choice pair (Complement source) by = one_of by.0 pair source by.2
way_of_pair choice pair Join by = tt

-- a copy of a canonical file is that of its table
pub copy_made : (n : ℕ) (table : List Bool) (most pieces : ℕ) (s : Source) (to : FileNo) (old new : World)
    → (s.trailer.count + 1) * 24 ≤ pieces * 2048
    → file new to ≡ firm_file (take (pieces * 2048) (file old s.from).bytes) → IsSourceOf n table most s old
    → IsMade n table to s.trailer.count new
copy_made n table most pieces s to old new enough copied has =
    let bytes = has.of.bytes_are in
    let count = has.trailer.count_is in
    let long : length (file old s.from).bytes ≡ (length (canon_nodes n table) + 1) * 24 =
    ap length bytes ∙ long_canonical n table in
    record {
      form = has.of.form;
      file_is = copied
          ∙ ap firm_file (take_all (pieces * 2048) (file old s.from).bytes (omega (arith, enough, long, count)) ∙ bytes);
      nodes_are = count;
    }

-- the complement of a source's diagram is that of the complement of its table
pub complement_made : (n : ℕ) (table wanted : List Bool) (most : ℕ) (s : Source) (to : FileNo) (old new : World)
    → wanted ≡ complement table → IsSourceOf n table most s old
    → ((t : List Bool) → IsCanonicalFile n t s.from old → IsTrailerOf n t s.trailer
    → IsMade n (complement t) to s.trailer.count new)
    → IsMade n wanted to s.trailer.count new
complement_made n table wanted most s to old new is has made =
    let other = made table has.of has.trailer in
    record {
      form = subst (HasForm n) (sym is) other.form;
      file_is = other.file_is ∙ ap firm_file (ap (canon_bytes n) (sym is));
      nodes_are = other.nodes_are ∙ ap (λ x. length (canon_nodes n x)) (sym is);
    }

-- and a constant's file is that of its table
pub constant_made : (n : ℕ) (value : Bool) (to : FileNo) (new : World) → n ≤ 65535
    → file new to ≡ firm_file (trailer_bytes (terminal value) 0 n) → IsMade n (const_table n value) to 0 new
constant_made n value to new few made =
    let none = no_node-const n value in
    record {
      form = constant_form n value few;
      file_is = made ∙ ap firm_file (sym none.bytes);
      nodes_are = sym (ap length none.nodes);
    }
