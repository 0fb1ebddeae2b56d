-- One file of the disk model, what a call does to it, and what a stop may leave of it.
use Rattle.std.specs.Prelude.{◌≡◌, ℕ, ◌+◌, ◌≤◌, ◌⊎◌, min, max, List, [], ◌++◌, length, take}

-- what a read gives, the length that is sure to survive a stop, and the greatest length that a stop may leave
pub record File : Type 0 where
  pub bytes : List ℕ
  pub firm : ℕ
  pub reach : ℕ

-- the empty file
abbrev pub no_file : File
no_file = record { bytes = []; firm = 0; reach = 0 }

-- a file of these bytes, all of them sure
abbrev pub firm_file : List ℕ → File
firm_file bytes = record { bytes = bytes; firm = length bytes; reach = length bytes }

-- the file with a piece put at its end
abbrev pub appended : List ℕ → File → File
appended piece file = record {
  bytes = file.bytes ++ piece;
  firm = file.firm;
  reach = max file.reach (length file.bytes + length piece);
}

-- the file cut to a length
abbrev pub cut_to : ℕ → File → File
cut_to to file = record { bytes = take to file.bytes; firm = min file.firm to; reach = file.reach }

-- what is sure lies within the bytes, and the bytes within what a stop may leave
pub record IsFile (file : File) : Type 0 where
  pub firm_within : file.firm ≤ length file.bytes
  pub reach_beyond : length file.bytes ≤ file.reach

-- a stop may leave these bytes of the file
pub record IsLeft (file : File) (left : List ℕ) : Type 0 where
  pub no_shorter : file.firm ≤ length left
  pub no_longer : length left ≤ file.reach
  pub same : take file.firm left ≡ take file.firm file.bytes

-- whatever a stop leaves of the file begins with these bytes, and so does the file
pub record IsKept (front : List ℕ) (file : File) : Type 0 where
  pub sure : length front ≤ file.firm
  pub same : take (length front) file.bytes ≡ front

-- after an append of n bytes that failed: some bytes may have been put at the end
pub record TornAppend (n : ℕ) (old new : File) : Type 0 where
  pub piece : List ℕ
  pub short : length piece ≤ n
  pub bytes_are : new.bytes ≡ old.bytes ++ piece
  pub firm_is : new.firm ≡ old.firm
  pub reach_is : new.reach ≡ max old.reach (length old.bytes + n)

-- after a cut that failed: the bytes may be cut or not, and what is behind the cut isn't sure any more
pub record TornCut (to : ℕ) (old new : File) : Type 0 where
  pub which : (new.bytes ≡ old.bytes) ⊎ (new.bytes ≡ take to old.bytes)
  pub firm_is : new.firm ≡ min old.firm to
  pub reach_is : new.reach ≡ old.reach
