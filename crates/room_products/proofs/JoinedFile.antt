-- The file that is made of the sources, and the table whose canonical one it is.
use Rattle.std.proofs.Common.{◌≡◌, ◌∙◌, ℕ, ◌*◌, ◌^◌, ◌≤◌, Bool, List, [], length, sym, subst, arith}
use Rattle.std.specs.Prelude.{map, Result, Ok, Err, Option, Some, None, IfOk, IfSome}
use Rattle.std.proofs.lemmas.List.{length-map}
use Rattle.bool_tables.specs.Steps.{op_value}
use Rattle.bool_tables.specs.declared.steps.Bin.{Bin}
use Rattle.rec_words.specs.declared.rec.Rec.{Rec}
use Rattle.shelf_model.specs.declared.fault.StreamFault.{StreamFault}
use Rattle.shelf_model.specs.declared.file_no.FileNo.{FileNo}
use Rattle.shelf_model.specs.File.{firm_file}
use Rattle.shelf_model.specs.World.{World, file}
use Rattle.canon_file.specs.Canon.{canon_nodes, canon_root, canon_bytes}
use Rattle.canon_file.specs.Laws.{HasForm}
use Rattle.arc_file.specs.declared.arc.Arc.{Arc}
use Rattle.arc_diagrams.specs.Laws.{IsDiagramOf}
use Rattle.arc_diagrams.proofs.ReduceLaws.{reduces}
use Rattle.copied_diagrams.specs.Operands.{pair_table}
use Rattle.top_down.specs.Laws.{targets_of_two}
use Rattle.top_down.specs.Operations.{product_rule, two}
use Rattle.top_down.specs.Rules.{IsRule, IsAsked, table_for}
use Rattle.top_down.specs.Tuples.{joined_by}
use Rattle.top_down.proofs.OperationDiagrams.{product_stands}
use Rattle.top_down.proofs.TupleLaws.{root-table}
use Rattle.room_reduction.specs.Sources.{AreSources}
use Rattle.room_reduction.proofs.ComplementSources.{arcs_many}
use Rattle.node_file.specs.Canonical.{IsMade}
use Rattle.room_products.specs.Joined.{node_of, arcs_in, AreOfTable}

-- so few sources have no more arcs than a diagram that is reduced may have
few_arcs : (sources : List Rec) → length sources ≤ 2 ^ 17 → length (arcs_in sources) ≤ 2 ^ 47
few_arcs sources few =
    let arcs : length (arcs_in sources) ≡ 2 * length (map node_of sources) = arcs_many (map node_of sources) in
    let many : length (map node_of sources) ≡ length sources = length-map sources node_of in
    omega (arith, arcs, many, few)

-- so the file that is made of few sources is the canonical one of their diagram's table
pub joined_of : (n root word : ℕ) (out : FileNo) (world : World) (sources : List Rec) (X : Type 0)
    (r : Result (Option ℕ) StreamFault) → n ≤ 65535 → length sources ≤ 2 ^ 17 → root ≡ word
    → IfOk r (λ done. X → (arcs : List Arc) → (t : List Bool) → length arcs ≤ 2 ^ 47 → IsDiagramOf n root arcs t
    → AreSources n root arcs sources → IfSome done (λ nodes.
    (file world out ≡ firm_file (canon_bytes n t)) × (nodes ≡ length (canon_nodes n t))))
    → IfOk r (λ done. X → (t : List Bool) → AreOfTable n word t sources
    → IfSome done (λ nodes. IsMade n t out nodes world))
joined_of n root word out world sources X (Err e) variables few same made = tt
joined_of n root word out world sources X (Ok None) variables few same made = λ told t are. tt
joined_of n root word out world sources X (Ok (Some nodes)) variables few same made = λ told t has_word.
    let are : AreOfTable n root t sources = subst (λ w. AreOfTable n w t sources) (sym same) has_word in
    let arcs : List Arc = arcs_in sources in
    let (file_is, nodes_are) = made told arcs t (few_arcs sources few) are.diagram are.sources_are in
    record {
      form = (reduces n root arcs t variables (few_arcs sources few) are.diagram).form;
      file_is = file_is;
      nodes_are = nodes_are;
    }

-- the pair of the roots of two canonical diagrams may be asked for, and stands for the operator's table
module _ (n : ℕ) (op : Bin) (t u : List Bool) (form_t : HasForm n t) (form_u : HasForm n u) (first second : ℕ)
    (first_is : first ≡ canon_root n t) (second_is : second ≡ canon_root n u) where
  pub product_rules : IsRule n (product_rule op) (targets_of_two n t u)
  product_rules = (product_stands n op t u form_t form_u).is_rule

  pub product_asked : IsAsked n (product_rule op) 0 (two first second)
  product_asked =
      subst (λ v. v) (λ j. IsAsked n (product_rule op) 0 (two (sym first_is j) (sym second_is j)))
      (product_stands n op t u form_t form_u).asked

  pub product_table : table_for (product_rule op) (targets_of_two n t u) n 0 (two first second) ≡ pair_table n op t u
  product_table =
      (λ j. table_for (product_rule op) (targets_of_two n t u) n 0 (two (first_is j) (second_is j)))
      ∙ (λ j. joined_by (λ b c d. op_value op b c) n (root-table n t form_t j) (root-table n u form_u j) [])
