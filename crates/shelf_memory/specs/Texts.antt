-- The texts in memory, and the counts of their faults.
use Rattle.std.specs.Prelude.{ℕ, ◌+◌, ◌-◌, ◌^◌, min, Bool, cond, List, Option, option_map, String}
use Rattle.std.specs.Global.{Global}
use Rattle.std.specs.Option.{option_map_or}
use Rattle.std.specs.BTreeMap.{BTreeMap, get_by_text}
use Rattle.shelf_memory.specs.declared.texts.Text.{Text}

-- one more, where it is to rise, up to the last value of 64 bits
abbrev pub raised : Bool → ℕ → ℕ
raised rises count = cond rises (min (count + 1) (2 ^ 64 - 1)) count

-- the text at a path
abbrev pub text_at : BTreeMap (String Global) Text → List ℕ → Option (List ℕ)
text_at texts path = option_map (λ (t : Text). t.bytes.items) (get_by_text texts path)

-- the count of faults at a path; paths without a text share one
abbrev pub count_at : ℕ → BTreeMap (String Global) Text → List ℕ → ℕ
count_at others texts path = option_map_or (λ (t : Text). t.faults) (get_by_text texts path) others
