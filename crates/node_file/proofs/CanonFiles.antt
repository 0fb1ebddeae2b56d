-- the canonical file of a table is a node file
use Rattle.std.specs.Prelude.{◌≡◌, ℕ, suc, ◌+◌, ◌*◌, ◌^◌, ◌<◌, ◌≤◌, Bool, List, [], ◌∷◌, ◌++◌, length}
use Rattle.std.proofs.Common.{ap, subst, sym, ◌∙◌, arith}
use Rattle.std.proofs.lemmas.List.{length-append}
use Rattle.rec_words.specs.Words.{level_numbers}
use Rattle.canon_file.specs.declared.row.Row.{Row}
use Rattle.canon_file.specs.Rows.{levels, Fits}
use Rattle.canon_file.specs.Canon.{numbered, nodes_of, canon_nodes, canon_root, canon_bytes}
use Rattle.canon_file.specs.Laws.{HasForm}
use Rattle.canon_file.proofs.FileLaws.{is_node_file}
use Rattle.canon_file.proofs.LevelLaws.{length-levels, length-numbered}
use Rattle.canon_file.proofs.CanonLaws.{canon_nodes-is, canon_bytes-is}
use Rattle.node_file.specs.Nodes.{HasNodes}

-- there are no more nodes than numbers
length-nodes_of : (i : ℕ) (ls : List (List Row)) → Fits ls → length (nodes_of i ls) ≤ length ls * level_numbers
length-nodes_of i [] fits = omega arith
length-nodes_of i (rs ∷ deeper) fits =
    let rest : length (nodes_of (suc i) deeper) ≤ length deeper * level_numbers = length-nodes_of (suc i) deeper fits.1 in
    let here : length rs ≤ level_numbers = fits.0 in
    omega (arith, length-append (nodes_of (suc i) deeper) (numbered i 0 rs), length-numbered i 0 rs, rest, here)

pub canonical_file : (n : ℕ) (t : List Bool) → HasForm n t → HasNodes n (canon_root n t) (canon_nodes n t) (canon_bytes n t)
canonical_file n t form =
    let file = is_node_file n t form.few form.whole form.fits in
    let many : length (canon_nodes n t) ≡ length (nodes_of 0 (levels n 0 (t ∷ []))) = ap length (canon_nodes-is n t) in
    let few : length (nodes_of 0 (levels n 0 (t ∷ []))) ≤ length (levels n 0 (t ∷ [])) * level_numbers = length-nodes_of 0 (levels n 0 (t ∷ [])) form.fits in
    let deep : length (levels n 0 (t ∷ [])) ≡ n = length-levels n 0 (t ∷ []) in
    let within : n ≤ 65535 = form.few in
    record {
      bytes_are = canon_bytes-is n t;
      few = omega (arith, many, few, deep, within);
      proper = file.proper;
      descend = file.descend;
      ends = file.root;
    }
