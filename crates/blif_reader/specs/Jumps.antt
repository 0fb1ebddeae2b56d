-- Jumps over the places of a block that tell nothing of its value.
use Rattle.std.specs.Prelude.{◌≡◌, ℕ, ◌+◌, ◌<◌, ◌≤◌, Bool, true, false, List, [], length, take, slice_index}
use Rattle.std.specs.List.{slice_index_or}
use Rattle.depth_first.specs.Graph.{edges_of, has}
use Rattle.blif_reader.specs.Netlist.{Net, cover_at}

-- a place of a block tells nothing: the word there stands at a place before it, and each row has a hyphen there
pub record IsIdle (words : List ℕ) (rows : List (List ℕ)) (k : ℕ) : Type 0 where
  pub repeats : has (take k words) (slice_index words k) ≡ true
  pub hyphens : (r : ℕ) → r < length rows → slice_index_or (slice_index_or rows r []) k 45 ≡ 45

-- jumps from the places of a block lead on, over places alone that tell nothing; the next place is that where no jump
-- is noted
pub record JumpIdle (words : List ℕ) (rows : List (List ℕ)) (jumps : List ℕ) : Type 0 where
  pub on : (i : ℕ) → i < length words → i < slice_index_or jumps i (i + 1)
  pub within : (i : ℕ) → i < length words → slice_index_or jumps i (i + 1) ≤ length words
  pub idle : (i k : ℕ) → i < length words → i < k → k < slice_index_or jumps i (i + 1) → IsIdle words rows k

-- each block has such jumps
abbrev pub HaveJumps : Net → List (List ℕ) → Type 0
HaveJumps net jumps =
    (s : ℕ) → s < length net.names → JumpIdle (edges_of net.edges s) (cover_at net s).rows (edges_of jumps s)

-- a place has to be looked at
abbrev pub is_needed : List Bool → ℕ → Bool
is_needed needed k = slice_index_or needed k true

-- a jump leads on, over places alone that need no look
pub record JumpsOver (needed : List Bool) (i j : ℕ) : Type 0 where
  pub on : i < j
  pub within : j ≤ length needed
  pub free : (k : ℕ) → i < k → k < j → is_needed needed k ≡ false

-- from each place
abbrev pub AllJumpOver : List Bool → List ℕ → Type 0
AllJumpOver needed jumps = (i : ℕ) → i < length needed → JumpsOver needed i (slice_index_or jumps i (i + 1))
