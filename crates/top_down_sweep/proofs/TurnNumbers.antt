-- How many turns remain, by the numbers of a machine and by those of the lists that it stands for.
use Rattle.std.proofs.Common.{◌≡◌, ℕ, ◌≤◌, ◌+◌, ◌-◌, ◌*◌, ◌∙◌, Bool, cond, List, [], ◌∷◌, length, refl, sym, ap, arith}
use Rattle.std.specs.Prelude.{zero, suc, Option, Some, None, map, option_map, nat_le, get_or}
use Rattle.std.specs.List.{sum_by, count_by}
use Rattle.std.proofs.lemmas.List.{length-map, length-append}
use Rattle.std.proofs.lemmas.List.Sums.{sum_by-cons, sum_by-le}
use Rattle.rec_words.specs.declared.rec.Rec.{Rec}
use Rattle.rec_words.specs.declared.node.Node.{Node}
use Rattle.shelf_model.specs.World.{World}
use Rattle.run_files.specs.Items.{record_of}
use Rattle.node_file.specs.Readers.{left_of}
use Rattle.level_queue.specs.Queues as queues
use Rattle.level_queue.specs.Records.{records_of}
use Rattle.level_queue.proofs.QueueLaws.{queue_counted}
use Rattle.level_queue.proofs.RecordLaws.{queue_records}
use Rattle.top_down_laws.specs.Forms as forms
use Rattle.top_down_laws.specs.Readings as readings
use Rattle.top_down_laws.specs.Remains as laws
use Rattle.top_down_laws.specs.Laws.{unread_all}
use Rattle.top_down_laws.specs.Turns.{stages, unread_count, owed, sides_count, IsCounted}
use Rattle.top_down_laws.proofs.TurnCounts.{three_stages, turns_are_few}
use Rattle.tuple_asks.specs.declared.ask.Ask.{Ask}
use Rattle.tuple_asks.specs.declared.operand.Operand.{Operand}
use Rattle.tuple_asks.specs.declared.place.Numbered.{Numbered}
use Rattle.tuple_asks.specs.declared.place.Asking.{Asking}
use Rattle.tuple_asks.specs.declared.place.Phase.TheVariants as phases
use Rattle.top_down_sweep.specs.declared.machine.Machine.{Machine}
use Rattle.tuple_asks.specs.Items.{ask_words, IsAsk, ask_cmp}
use Rattle.top_down_sweep.specs.Fuel.{unread}
use Rattle.top_down_sweep.specs.Meaning.{Task, waiting_of, numbered_of, place_of, Contents, StandsFor, IsLeft, IsWorking}
use Rattle.tuple_asks.specs.Readings.{IsReadOf}
use Rattle.top_down_sweep.specs.Turns.{form_in, owed_by, sides_at, left_at, HasFewer}
use Rattle.top_down_sweep.proofs.WorkingOn.{CountedAt, StepsTo}

-- a number up to three, by what it reaches
by_reach : (k : ℕ) → k ≤ 3
    → k ≡ cond (nat_le 1 k) 1 0 + (cond (nat_le 2 k) 1 0 + cond (nat_le 3 k) 1 0)
by_reach zero few = refl
by_reach (suc zero) few = refl
by_reach (suc (suc zero)) few = refl
by_reach (suc (suc (suc zero))) few = refl
by_reach (suc (suc (suc (suc k)))) few = absurd (omega (arith, few))

-- how many items reach a number
abbrev reaching : {X : Type 0} → (X → ℕ) → ℕ → List X → ℕ
reaching f k xs = sum_by (λ x. cond (nat_le k (f x)) 1 0) xs

sum_reach : {X : Type 0} (f : X → ℕ) → ((x : X) → f x ≤ 3) → (xs : List X)
    → sum_by f xs ≡ reaching f 1 xs + (reaching f 2 xs + reaching f 3 xs)
sum_reach f few [] = refl
sum_reach f few (x ∷ xs) =
    let one : f x ≡ cond (nat_le 1 (f x)) 1 0 + (cond (nat_le 2 (f x)) 1 0
    + cond (nat_le 3 (f x)) 1 0) = by_reach (f x) (few x) in
    let rest : sum_by f xs ≡ reaching f 1 xs + (reaching f 2 xs + reaching f 3 xs) =
    sum_reach f few xs in
    let all : sum_by f (x ∷ xs) ≡ f x + sum_by f xs = sum_by-cons f x xs in
    let first : reaching f 1 (x ∷ xs) ≡ cond (nat_le 1 (f x)) 1 0 + reaching f 1 xs =
    sum_by-cons (λ y. cond (nat_le 1 (f y)) 1 0) x xs in
    let second : reaching f 2 (x ∷ xs) ≡ cond (nat_le 2 (f x)) 1 0 + reaching f 2 xs =
    sum_by-cons (λ y. cond (nat_le 2 (f y)) 1 0) x xs in
    let third : reaching f 3 (x ∷ xs) ≡ cond (nat_le 3 (f x)) 1 0 + reaching f 3 xs =
    sum_by-cons (λ y. cond (nat_le 3 (f y)) 1 0) x xs in
    omega (arith, one, rest, all, first, second, third)

sum_same : {X : Type 0} (f : X → ℕ) → ((x : X) → f x ≤ 3) → (xs ys : List X)
    → ((test : X → Bool) → count_by test xs ≡ count_by test ys) → sum_by f xs ≡ sum_by f ys
sum_same f few xs ys same = sum_reach f few xs
    ∙ (λ i. same (λ x. nat_le 1 (f x)) i + (same (λ x. nat_le 2 (f x)) i
    + same (λ x. nat_le 3 (f x)) i))
    ∙ sym (sum_reach f few ys)

sum_mapped : {X Y : Type 0} (g : Y → ℕ) (f : X → Y) (xs : List X)
    → sum_by g (map f xs) ≡ sum_by (λ x. g (f x)) xs
sum_mapped g f [] = refl
sum_mapped g f (x ∷ xs) =
    let rest : sum_by g (map f xs) ≡ sum_by (λ y. g (f y)) xs = sum_mapped g f xs in
    let first : sum_by g (f x ∷ map f xs) ≡ g (f x) + sum_by g (map f xs) =
    sum_by-cons g (f x) (map f xs) in
    let other : sum_by (λ y. g (f y)) (x ∷ xs) ≡ g (f x) + sum_by (λ y. g (f y)) xs =
    sum_by-cons (λ y. g (f y)) x xs in
    omega (arith, rest, first, other)

few_stages : (waiting : List forms.Waiting)
    → sum_by (λ (a : forms.Waiting). stages a.form) waiting ≤ length waiting * 3
few_stages waiting = sum_by-le (λ (a : forms.Waiting). stages a.form) 3 waiting
    (λ i d within. three_stages (get_or waiting i d).form)

-- the nodes that weren't read
pub operand_left : (o : Operand) (world : World) (r : readings.Reading) → IsReadOf o world r
    → length r.unread ≡ left_of o.reader
operand_left o world r read =
    let all = read.left.behind.all in
    let front = o.reader.front in
    omega (arith, all, front)

pub unread_is : (m : Machine) (world : World) (k : Contents) → StandsFor m world k
    → unread m.operands ≡ unread_count k.readings
unread_is m world k stands = omega (
  arith,
  operand_left m.operands.first world k.readings.first stands.read.first,
  operand_left m.operands.second world k.readings.second stands.read.second,
  operand_left m.operands.third world k.readings.third stands.read.third,
)

-- what is owed
pub owed_is : (m : Machine) (world : World) (k : Contents) → StandsFor m world k
    → owed_by m world ≡ owed k.readings (map waiting_of k.asks)
owed_is m world k stands =
    let same : sum_by (λ (r : Rec). stages (form_in r)) (map (record_of ask_words) k.asks)
    ≡ sum_by (λ (r : Rec). stages (form_in r)) (records_of m.queue world) =
    sum_same (λ (r : Rec). stages (form_in r)) (λ r. three_stages (form_in r))
    (map (record_of ask_words) k.asks) (records_of m.queue world)
    (queue_records IsAsk ask_words ask_cmp m.queue world k.asks stands.asks_are) in
    let records : sum_by (λ (r : Rec). stages (form_in r)) (map (record_of ask_words) k.asks)
    ≡ sum_by (λ (a : Ask). stages (waiting_of a).form) k.asks =
    sum_mapped (λ (r : Rec). stages (form_in r)) (record_of ask_words) k.asks in
    let waits : sum_by (λ (a : forms.Waiting). stages a.form) (map waiting_of k.asks)
    ≡ sum_by (λ (a : Ask). stages (waiting_of a).form) k.asks =
    sum_mapped (λ (a : forms.Waiting). stages a.form) waiting_of k.asks in
    let read = unread_is m world k stands in
    omega (arith, same, records, waits, read)

-- the sides that have an arc or an ask
pub sides_are : (last : Option Numbered) (m : Machine) (world : World) (k : Contents)
    → StandsFor m world k → sides_at last m
    ≡ sides_count (option_map numbered_of last) (map waiting_of k.asks) k.inner k.ends
sides_are None m world k stands = refl
sides_are (Some x) m world k stands =
    let inner = stands.written.inner_many in
    let ends = stands.written.ends_many in
    let held = queue_counted IsAsk ask_words ask_cmp m.queue world k.asks stands.asks_are in
    let waits = length-map k.asks waiting_of in
    omega (arith, inner, ends, held, waits)

-- of each diagram no more nodes are left than it has
few_unread : (nodes unread : List Node) (hand : Option Node)
    → readings.IsReadTo nodes unread hand → length unread ≤ length nodes
few_unread nodes unread None is = omega (arith, ap length is)
few_unread nodes unread (Some x) (behind, is) =
    let all : length nodes ≡ length unread + length (x ∷ behind) = ap length is
    ∙ length-append unread (x ∷ behind) in
    omega (arith, all)

-- what remains is counted from its first turn on
pub counted_first : (t : Task) (s : Asking) (last : Option Ask) (k : Contents) → IsLeft t s last k
    → CountedAt t s k 0
counted_first t s last k left =
    let reading = left.waits.reading in
    let one = few_unread t.diagrams.first k.readings.first.unread k.readings.first.hand reading.first in
    let two = few_unread t.diagrams.second k.readings.second.unread k.readings.second.hand
    reading.second in
    let three = few_unread t.diagrams.third k.readings.third.unread k.readings.third.hand
    reading.third in
    let waits : sum_by (λ (a : forms.Waiting). stages a.form) (map waiting_of k.asks)
    ≤ length (map waiting_of k.asks) * 3 =
    few_stages (map waiting_of k.asks) in
    by s.last left.made one two three waits
  where
    by : (o : Option Numbered)
        → laws.IsMade t.n t.rule t.diagrams t.roots s.root (option_map numbered_of o)
        (option_map waiting_of last) k.inner k.ends left.opens
        → length k.readings.first.unread ≤ length t.diagrams.first
        → length k.readings.second.unread ≤ length t.diagrams.second
        → length k.readings.third.unread ≤ length t.diagrams.third
        → sum_by (λ (a : forms.Waiting). stages a.form) (map waiting_of k.asks)
        ≤ length (map waiting_of k.asks) * 3
        → IsCounted t.diagrams 0 (option_map numbered_of o) k.readings (map waiting_of k.asks)
        k.inner k.ends
    by None made one two three waits =
        let long : length (map waiting_of k.asks) ≡ 1 = ap length left.are
        ∙ length-map left.opens (laws.waiting_of (readings.targets_in t.diagrams))
        ∙ ap length made.only in
        omega (arith, one, two, three, waits, long)
    by (Some x) made one two three waits = omega (arith, one, two, three, waits)

-- a turn that is counted leaves less that is owed, or more sides
less_owed : (nodes old_owed old_sides new_owed new_sides : ℕ)
    → old_owed ≤ nodes + 3 + 3 * old_sides
    → ((turns : ℕ) → turns + old_owed ≤ nodes + 3 + 3 * old_sides
    → suc turns + new_owed ≤ nodes + 3 + 3 * new_sides)
    → new_owed + 1 + 3 * old_sides ≤ old_owed + 3 * new_sides
less_owed nodes old_owed old_sides new_owed new_sides first step =
    let most : ℕ = nodes + 3 + 3 * old_sides - old_owed in
    let all : most + old_owed ≤ nodes + 3 + 3 * old_sides = omega (arith, first) in
    let then = step most all in
    omega (arith, first, then)

-- and three for each side are never more than six for each tuple, with what is owed
few_sides : (nodes asked sides left most : ℕ) → asked ≤ nodes + 3 + 3 * sides
    → ((turns : ℕ) → turns + asked ≤ nodes + 3 + 3 * sides → turns + left ≤ 6 * most + nodes + 3)
    → 3 * sides ≤ 6 * most + asked
few_sides nodes asked sides left most first few =
    let turns : ℕ = nodes + 3 + 3 * sides - asked in
    let all : turns + asked ≤ nodes + 3 + 3 * sides = omega (arith, first) in
    let then = few turns all in
    omega (arith, first, then)

-- one turn less remains after one that is counted
pub fewer_left : (t : Task) (s after : Asking) (m q : Machine) (old new : World) (k : Contents)
    (last : Option Ask) → StandsFor m old k → IsLeft t s last k → (g : IsWorking t after q new)
    → StepsTo t s k after g.contents
    → HasFewer t (phases.Asking s) m old (phases.Asking after) q new
fewer_left t s after m q old new k last stands left g steps tuples all_met =
    let then : Contents = g.contents in
    let nodes : ℕ = unread_count (unread_all t.diagrams) in
    let none = counted_first t s last k left in
    let first : owed k.readings (map waiting_of k.asks) ≤ nodes + 3
    + 3 * sides_count (option_map numbered_of s.last) (map waiting_of k.asks) k.inner k.ends =
    omega (arith, none) in
    let none_then = counted_first t after (queues.last_of q.queue) then g.left in
    let second : owed then.readings (map waiting_of then.asks) ≤ nodes + 3
    + 3 * sides_count (option_map numbered_of after.last) (map waiting_of then.asks) then.inner
    then.ends = omega (arith, none_then) in
    let less = less_owed nodes (owed k.readings (map waiting_of k.asks))
    (sides_count (option_map numbered_of s.last) (map waiting_of k.asks) k.inner k.ends)
    (owed then.readings (map waiting_of then.asks))
    (sides_count (option_map numbered_of after.last) (map waiting_of then.asks) then.inner then.ends)
    first steps in
    let few = few_sides nodes (owed then.readings (map waiting_of then.asks))
    (sides_count (option_map numbered_of after.last) (map waiting_of then.asks) then.inner then.ends)
    (unread_count then.readings) (length tuples) second
    (λ turns counted. turns_are_few t.n t.rule t.diagrams t.roots t.is_task turns (place_of after)
    (map waiting_of then.asks) (option_map waiting_of (queues.last_of q.queue)) then.readings
    then.inner then.ends tuples g.left counted all_met) in
    let old_owed = owed_is m old k stands in
    let old_sides = sides_are s.last m old k stands in
    let new_owed = owed_is q new then g.stands in
    let new_sides = sides_are after.last q new then g.stands in
    omega (arith, less, few, old_owed, old_sides, new_owed, new_sides)

-- the numbers are those of the lists: the same for two machines that stand for the same
pub same_left : (t : Task) (s : Asking) (m n : Machine) (old new : World) (k : Contents)
    (tuples : ℕ) → StandsFor m old k → StandsFor n new k
    → left_at (phases.Asking s) n new tuples ≡ left_at (phases.Asking s) m old tuples
same_left t s m n old new k tuples first second =
    let owed_both : owed_by n new ≡ owed_by m old = owed_is n new k second
    ∙ sym (owed_is m old k first) in
    let sides_both : sides_at s.last n ≡ sides_at s.last m = sides_are s.last n new k second
    ∙ sym (sides_are s.last m old k first) in
    λ i. 6 * tuples + owed_both i + 1 - 3 * sides_both i

-- the root's ask is owed three times at most
pub first_left : (t : Task) (m q : Machine) (old new : World) (k then : Contents)
    (root tuples : ℕ) → StandsFor m old k → StandsFor q new then → then.readings ≡ k.readings
    → length then.asks ≡ 1
    → left_at (phases.Asking (record { root = root; last = None })) q new tuples + 1
    ≤ left_at phases.Fresh m old tuples
first_left t m q old new k then root tuples first second same one =
    let read = unread_is m old k first in
    let owes = owed_is q new then second in
    let reads : unread_count then.readings ≡ unread_count k.readings = ap unread_count same in
    let waits : sum_by (λ (a : forms.Waiting). stages a.form) (map waiting_of then.asks)
    ≤ length (map waiting_of then.asks) * 3 =
    few_stages (map waiting_of then.asks) in
    let long = length-map then.asks waiting_of in
    omega (arith, read, owes, reads, waits, long, one)
