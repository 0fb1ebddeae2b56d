-- The forms in which tuples are asked for, while their nodes are read one after the other.
use Rattle.std.specs.Prelude.{◌≡◌, ◌⊎◌, ℕ, ◌+◌, ◌*◌, ◌-◌, ◌^◌, ◌≤◌, ◌==◌, ◌&&◌, nat_lt, min, Bool, false, true, cond, List, [], ◌∷◌, Option, Some, None}
use Rattle.std.specs.Ordering.{is_lt, nat_cmp}
use Rattle.std.specs.Cmp.Lexicographic.{slice_cmp}
use Rattle.rec_words.specs.Words.{terminal, level_of}
use Rattle.rec_words.specs.declared.node.Node.{Node}
use Rattle.canon_file.specs.declared.row.Row.{Row}
use Rattle.top_down.specs.declared.tuple.Tuple.{Tuple}
use Rattle.top_down.specs.Tuples.{Targets, level_of_tuple}

-- a tuple as it is asked for: the node that is read next for it, and for each member its pointer,
-- which stands twice, or both pointers of a node of the key's level that was read
pub record Form : Type 0 where
  pub key : ℕ
  pub first : Row
  pub second : Row
  pub third : Row

-- an ask that waits: the tuple that is wanted, and who wants it
pub record Waiting : Type 0 where
  pub form : Form
  pub asker : ℕ

-- the asker of the root's ask, which no node asks for
abbrev pub nobody : ℕ
nobody = 2 ^ 64 - 1

-- the word of a node that asks, on one of its sides
abbrev pub asker_word : ℕ → Bool → ℕ
asker_word source high = 2 * source + cond high 1 0

-- the words of a form, and of an ask that waits
abbrev pub form_words : Form → List ℕ
form_words f = f.key ∷ f.first.low ∷ f.first.high ∷ f.second.low ∷ f.second.high
    ∷ f.third.low ∷ f.third.high ∷ []

abbrev pub words_of : Waiting → List ℕ
words_of a = a.form.key ∷ a.form.first.low ∷ a.form.first.high ∷ a.form.second.low ∷
    a.form.second.high
    ∷ a.form.third.low ∷ a.form.third.high ∷ a.asker ∷ []

-- one ask comes before another in a queue, which orders asks by their words
abbrev pub comes_before : Waiting → Waiting → Bool
comes_before a b = is_lt (slice_cmp nat_cmp (words_of a) (words_of b))

-- one form is no later than another
abbrev pub IsNoLater : Form → Form → Type 0
IsNoLater f g = is_lt (slice_cmp nat_cmp (form_words g) (form_words f)) ≡ false

-- a pointer as a member
abbrev pub twice : ℕ → Row
twice w = record { low = w; high = w }

-- the least of a tuple's pointers
abbrev pub least : Tuple → ℕ
least x = min x.first (min x.second x.third)

-- a tuple none of whose nodes was read
abbrev pub first_form : Tuple → Form
first_form x = record {
  key = least x;
  first = twice x.first;
  second = twice x.second;
  third = twice x.third;
}

-- the member is that node
abbrev pub is_node : ℕ → Row → Bool
is_node key m = (m.low == key) && (m.high == key)

-- it is that node, which isn't the one at hand
abbrev pub wants : ℕ → Option Node → Row → Bool
wants key None m = is_node key m
wants key (Some x) m = cond (x.uid == key) false (is_node key m)

-- a node's two pointers
abbrev pub pointers_of : Node → Row
pointers_of x = record { low = x.low; high = x.high }

-- the member, or the pointers of the node that it is, where that is at hand
abbrev pub filled : ℕ → Option Node → Row → Row
filled key None m = m
filled key (Some x) m = cond ((x.uid == key) && is_node key m) (pointers_of x) m

-- the member's node, where it is one of that level that wasn't read, and a truth value else
abbrev pub unread_at : ℕ → Row → ℕ
unread_at level m = cond ((m.low == m.high) && (level_of m.low == level)) m.low (terminal true)

-- the least node of the key's level that wasn't read, or a truth value where there is none
abbrev pub next_key : Form → ℕ
next_key f = min (unread_at (level_of f.key) f.first)
    (min (unread_at (level_of f.key) f.second) (unread_at (level_of f.key) f.third))

-- the members' pointers on a side
abbrev pub on_side : Bool → Form → Tuple
on_side false f = record { first = f.first.low; second = f.second.low; third = f.third.low }
on_side true f = record { first = f.first.high; second = f.second.high; third = f.third.high }

-- a member of a tuple in the form with that key: what comes before the key was read
abbrev pub member_at : (ℕ → Row) → ℕ → ℕ → Row
member_at targets key w = cond (nat_lt w key) (targets w) (twice w)

-- the tuple in that form
abbrev pub form_at : Targets → ℕ → Tuple → Form
form_at targets key x = record {
  key = key;
  first = member_at targets.first key x.first;
  second = member_at targets.second key x.second;
  third = member_at targets.third key x.third;
}

-- the key is a node of the tuple, of its level
pub record IsKey (key : ℕ) (x : Tuple) : Type 0 where
  pub here : (key ≡ x.first) ⊎ ((key ≡ x.second) ⊎ (key ≡ x.third))
  pub level : level_of key ≡ level_of_tuple x

-- the pointer is no node of the key's level behind the key
abbrev pub IsUpToKey : ℕ → ℕ → Type 0
IsUpToKey key w = level_of w ≡ level_of key → w ≤ key

-- the key is the last node of the tuple that is read
pub record IsLastKey (key : ℕ) (x : Tuple) : Type 0 where
  pub is_key : IsKey key x
  pub first : IsUpToKey key x.first
  pub second : IsUpToKey key x.second
  pub third : IsUpToKey key x.third
