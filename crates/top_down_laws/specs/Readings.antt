-- The diagrams that a sweep reads, and how far it has read them.
use Rattle.std.specs.Prelude.{◌≡◌, ◌⊎◌, ℕ, ◌≤◌, ◌||◌, Bool, List, ◌∷◌, ◌++◌, Option, Some, None, IfSome}
use Rattle.rec_words.specs.Words.{level_of, IsTerminal}
use Rattle.rec_words.specs.declared.node.Node.{Node}
use Rattle.canon_file.specs.Members.{Has}
use Rattle.canon_file.specs.NodeFiles.{IsProper, IsDescending}
use Rattle.canon_file.specs.Walks.{row_at}
use Rattle.top_down.specs.declared.tuple.Tuple.{Tuple}
use Rattle.top_down.specs.Tuples.{Targets}
use Rattle.top_down_laws.specs.Forms.{Form, Waiting, wants, filled, next_key}

-- the nodes of the diagram of each member, in the order of their file
pub record Diagrams : Type 0 where
  pub first : List Node
  pub second : List Node
  pub third : List Node

-- the pointers of their nodes
abbrev pub targets_in : Diagrams → Targets
targets_in d = record { first = row_at d.first; second = row_at d.second; third = row_at d.third }

-- the pointer is a truth value or one of the nodes
abbrev pub IsIn : List Node → ℕ → Type 0
IsIn nodes w = IsTerminal w ⊎ ((x : Node) × Has x nodes × (x.uid ≡ w))

-- each member is one of its diagram
pub record AreIn (d : Diagrams) (x : Tuple) : Type 0 where
  pub first : IsIn d.first x.first
  pub second : IsIn d.second x.second
  pub third : IsIn d.third x.third

-- the nodes are those of a reduced diagram of n variables: their identifiers descend, their
-- pointers lead to nodes among them, and no two of a level have the same pointers
pub record IsReduced (n : ℕ) (nodes : List Node) : Type 0 where
  pub proper : (x : Node) → Has x nodes → IsProper n x
  pub descend : IsDescending nodes
  pub leads_low : (x : Node) → Has x nodes → IsIn nodes x.low
  pub leads_high : (x : Node) → Has x nodes → IsIn nodes x.high
  pub differ : (x y : Node) → Has x nodes → Has y nodes → level_of x.uid ≡ level_of y.uid
      → x.low ≡ y.low → x.high ≡ y.high → x.uid ≡ y.uid

pub record AreReduced (n : ℕ) (d : Diagrams) : Type 0 where
  pub first : IsReduced n d.first
  pub second : IsReduced n d.second
  pub third : IsReduced n d.third

-- how far the nodes were read, from the end on: the last one that was read, and those that weren't
pub record Reading : Type 0 where
  pub hand : Option Node
  pub unread : List Node

-- they are the nodes that weren't read, the one at hand, and others behind it
abbrev pub IsReadTo : List Node → List Node → Option Node → Type 0
IsReadTo nodes unread None = nodes ≡ unread
IsReadTo nodes unread (Some x) = (behind : List Node) × (nodes ≡ unread ++ x ∷ behind)

abbrev pub IsReading : List Node → Reading → Type 0
IsReading nodes r = IsReadTo nodes r.unread r.hand

-- how far the diagram of each member was read
pub record Readings : Type 0 where
  pub first : Reading
  pub second : Reading
  pub third : Reading

pub record AreReadings (d : Diagrams) (r : Readings) : Type 0 where
  pub first : IsReading d.first r.first
  pub second : IsReading d.second r.second
  pub third : IsReading d.third r.third

-- the node at hand is none behind the key
abbrev pub IsUpToHand : Option Node → ℕ → Type 0
IsUpToHand hand key = IfSome hand (λ x. x.uid ≤ key)

pub record HandsReach (r : Readings) (key : ℕ) : Type 0 where
  pub first : IsUpToHand r.first.hand key
  pub second : IsUpToHand r.second.hand key
  pub third : IsUpToHand r.third.hand key

-- the form's key isn't at hand of each diagram whose member it is
abbrev pub want : Readings → Form → Bool
want r f = wants f.key r.first.hand f.first
    || (wants f.key r.second.hand f.second || wants f.key r.third.hand f.third)

-- the form with the pointers of its key for each member that it is
abbrev pub filled_form : Readings → Form → Form
filled_form r f = record {
  key = f.key;
  first = filled f.key r.first.hand f.first;
  second = filled f.key r.second.hand f.second;
  third = filled f.key r.third.hand f.third;
}

-- that form, to be read on at the next key
abbrev pub read_on : Readings → Form → Form
read_on r f = record {
  key = next_key (filled_form r f);
  first = filled f.key r.first.hand f.first;
  second = filled f.key r.second.hand f.second;
  third = filled f.key r.third.hand f.third;
}

-- an ask that was read on, as it waits
abbrev pub asked_on : Readings → Waiting → Waiting
asked_on r a = record { form = read_on r a.form; asker = a.asker }

-- other readings of one diagram
abbrev pub with_first : Readings → Reading → Readings
with_first r now = record { first = now; second = r.second; third = r.third }

abbrev pub with_second : Readings → Reading → Readings
with_second r now = record { first = r.first; second = now; third = r.third }

abbrev pub with_third : Readings → Reading → Readings
with_third r now = record { first = r.first; second = r.second; third = now }
