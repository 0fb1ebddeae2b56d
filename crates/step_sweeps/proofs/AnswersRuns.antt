-- A turn for each node of canonical files is within a step's work.
use Rattle.std.proofs.Common.{◌≡◌, ℕ, ◌+◌, ◌*◌, ◌≤◌, ◌∙◌, Bool, List, [], ◌∷◌, length, ap}
use Rattle.std.proofs.Common.{arith, length-append}
use Rattle.bool_tables.specs.declared.steps.Step.{Step}
use Rattle.canon_file.specs.Canon.{canon_nodes, canon_root, canon_bytes, node_bytes, trailer_bytes}
use Rattle.canon_file.proofs.ByteLaws.{length-node_bytes}
use Rattle.node_reading.specs.Reading.{count_of}
use Rattle.step_work.specs.Works.{work_for}

-- a canonical file has as many nodes as its table's canonical form
pub count_canonical : (n : ℕ) (t : List Bool) (bytes : List ℕ) → bytes ≡ canon_bytes n t
    → count_of bytes ≡ length (canon_nodes n t)
unfolding canon_bytes
count_canonical n t bytes is =
    let long : length bytes ≡ 24 * length (canon_nodes n t) + 24 = ap length is
    ∙ length-append (node_bytes (canon_nodes n t)) (trailer_bytes (canon_root n t) (length (canon_nodes n t)) n)
    ∙ ap (λ k. k + 24) (length-node_bytes (canon_nodes n t)) in
    omega (arith, long)

-- a turn for each node of two canonical files, and two, are within the work
pub two_within : (n : ℕ) (step : Step) (t u : List Bool) (left : ℕ) (first second : List ℕ)
    → first ≡ canon_bytes n t → second ≡ canon_bytes n u → left ≡ count_of first + count_of second + 1
    → left + 1 ≤ work_for n step (t ∷ u ∷ [])
two_within n step t u left first second here there is =
    let one : count_of first ≡ length (canon_nodes n t) = count_canonical n t first here in
    let two : count_of second ≡ length (canon_nodes n u) = count_canonical n u second there in
    omega (arith, one, two, is)

-- so are a turn for each node of one, and two
pub one_within : (n : ℕ) (step : Step) (t : List Bool) (left : ℕ) (bytes : List ℕ) → bytes ≡ canon_bytes n t
    → left ≡ count_of bytes + 1 → left + 1 ≤ work_for n step (t ∷ [])
one_within n step t left bytes here is =
    let one : count_of bytes ≡ length (canon_nodes n t) = count_canonical n t bytes here in
    omega (arith, one, is)
