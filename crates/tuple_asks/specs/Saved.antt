-- What a checkpoint keeps of a sweep but for its operation and its runs, and the words of that.
use Rattle.std.specs.Prelude.{◌≡◌, ℕ, Bool, Option, Some, None, option_map, refl}
use Rattle.std.proofs.Common.{ap, sym, ◌∙◌}
use Rattle.shelf_model.specs.declared.file_no.FileNo.{FileNo}
use Rattle.saved_words.specs.declared.item.Item.{Item}
use Rattle.tuple_asks.specs.declared.ask.Ask.{Ask}
use Rattle.tuple_asks.specs.declared.place.Numbered.{Numbered}
use Rattle.tuple_asks.specs.declared.place.Asking.{Asking}
use Rattle.tuple_asks.specs.declared.saved.SavedOperand.{SavedOperand}
use Rattle.tuple_asks.specs.declared.saved.SavedArcs.{SavedArcs}
use Rattle.tuple_asks.specs.declared.saved.SavedMachine.{SavedMachine}
use Rattle.sweep_operations.specs.Spellings.{Spelling, word, half, bit, pointer, identifier, file_number}
use Rattle.tuple_asks.specs.AskWords.{ask_item}
use Rattle.sweep_operations.specs.Spellings.{both, maybe, by_parts}

-- the two pointers of a member
abbrev pub Pair : Type 0
Pair = ℕ × ℕ

-- the key, the members and the number of a tuple
abbrev pub NumberedParts : Type 0
NumberedParts = ℕ × ((Pair × (Pair × Pair)) × ℕ)

abbrev pub numbered_parts : Numbered → NumberedParts
numbered_parts x = (
  x.key,
  (
    (
      (x.members.first.low, x.members.first.high),
      ((x.members.second.low, x.members.second.high), (x.members.third.low, x.members.third.high)),
    ),
    x.number,
  ),
)

abbrev pub numbered_by : NumberedParts → Numbered
numbered_by (key, (((a, b), ((c, d), (e, f))), number)) = record {
  key = key;
  members = record {
    first = record { low = a; high = b };
    second = record { low = c; high = d };
    third = record { low = e; high = f };
  };
  number = number;
}

abbrev pub numbered_parts_spelling : Spelling NumberedParts
numbered_parts_spelling =
    both identifier (both (both (both pointer pointer) (both (both pointer pointer) (both pointer pointer))) word)

abbrev pub numbered_spelling : Spelling Numbered
numbered_spelling = by_parts numbered_parts (λ x y same. ap numbered_by same) numbered_parts_spelling

-- the root, and the tuple that was numbered last
abbrev pub asking_parts : Asking → ℕ × Option Numbered
asking_parts s = (s.root, s.last)

abbrev pub asking_by : ℕ × Option Numbered → Asking
asking_by (root, last) = record { root = root; last = last }

abbrev pub asking_spelling : Spelling Asking
asking_spelling = by_parts asking_parts (λ x y same. ap asking_by same) (both identifier (maybe numbered_spelling))

-- an operand's file, and how many nodes before the one at hand weren't read
abbrev pub operand_parts : SavedOperand → FileNo × Option ℕ
operand_parts o = (o.file, o.read)

abbrev pub operand_by : FileNo × Option ℕ → SavedOperand
operand_by (f, read) = record { file = f; read = read }

abbrev pub operand_spelling : Spelling SavedOperand
operand_spelling = by_parts operand_parts (λ x y same. ap operand_by same) (both file_number (maybe word))

-- the files of arcs, and how many arcs each has
abbrev pub ArcsParts : Type 0
ArcsParts = (FileNo × ℕ) × (FileNo × ℕ)

abbrev pub arcs_parts : SavedArcs → ArcsParts
arcs_parts a = ((a.inner, a.inner_count), (a.ends, a.ends_count))

abbrev pub arcs_by : ArcsParts → SavedArcs
arcs_by ((inner, inner_count), (ends, ends_count)) = record {
  inner = inner;
  inner_count = inner_count;
  ends = ends;
  ends_count = ends_count;
}

abbrev pub arcs_spelling : Spelling SavedArcs
arcs_spelling = by_parts arcs_parts (λ x y same. ap arcs_by same) (both (both file_number word) (both file_number word))

-- all of it: the variables and whether an arc leads to 1, the operands, the arcs, and where it stands
abbrev pub MachineParts : Type 0
MachineParts = ((ℕ × Bool) × (SavedOperand × (SavedOperand × SavedOperand)))
    × (SavedArcs × (Option Asking × Option (Item Ask)))

-- an ask with its record, and without
abbrev pub as_item : Ask → Item Ask
as_item a = record { value = a }

abbrev pub value_in : Item Ask → Ask
value_in x = x.value

abbrev pub machine_parts : SavedMachine → MachineParts
machine_parts m = (
  ((m.variables, m.has_one), (m.first, (m.second, m.third))),
  (m.arcs, (m.asking, option_map as_item m.taken)),
)

abbrev pub machine_by : MachineParts → SavedMachine
machine_by (((variables, has_one), (first, (second, third))), (arcs, (asking, taken))) = record {
  variables = variables;
  has_one = has_one;
  first = first;
  second = second;
  third = third;
  arcs = arcs;
  asking = asking;
  taken = option_map value_in taken;
}

same_items : (o : Option Ask) → option_map value_in (option_map as_item o) ≡ o
same_items None = refl
same_items (Some a) = refl

machine_again : (m : SavedMachine) → machine_by (machine_parts m) ≡ m
machine_again m = λ i. record m { taken = same_items m.taken i }

pub same_machine : (x y : SavedMachine) → machine_parts x ≡ machine_parts y → x ≡ y
same_machine x y same = sym (machine_again x) ∙ ap machine_by same ∙ machine_again y

abbrev pub machine_parts_spelling : Spelling MachineParts
machine_parts_spelling = both
    (both (both half bit) (both operand_spelling (both operand_spelling operand_spelling)))
    (both arcs_spelling (both (maybe asking_spelling) (maybe ask_item)))

abbrev pub machine_spelling : Spelling SavedMachine
machine_spelling = by_parts machine_parts same_machine machine_parts_spelling
