-- What a turn of a comparison keeps.
use Rattle.std.proofs.Common.{◌≡◌, ◌+◌, ◌∙◌, Bool, true, false, List, [], ◌∷◌, ◌++◌, length, eqb, not, ◌&&◌, tests, true≢false, refl, rules, sym, subst, ap, inl, inr, arith, length-append}
use Rattle.std.specs.Prelude.{Result, Option, Ok, Err, Some, None, IsTrue, OnOk, IfOk, IsSome}
use Rattle.std.proofs.lemmas.Bool.{cases_Bool}
use Rattle.std.specs.Option.{option_eq}
use Rattle.bool_tables.specs.Tables.{same_bits}
use Rattle.rec_words.specs.declared.node.Node.{Node}
use Rattle.shelf_model.specs.declared.sort_fault.SortFault.{SortFault}
use Rattle.shelf_model.specs.declared.sort_fault.SortFault.TheVariants.{Shelf, Damaged, RunsSpent}
use Rattle.shelf_model.specs.Faults.{Faults}
use Rattle.shelf_model.specs.World.{World}
use Rattle.canon_file.specs.Canon.{canon_nodes, canon_root}
use Rattle.restrict_eval.proofs.Canonical.{canonical_stays, but_stays, one_more, none_left}
use Rattle.canon_file.proofs.PieceLaws.{same_bits-self, same_from_bits}
use Rattle.canon_file.proofs.StandLaws.{tables_unique}
use Rattle.node_file.specs.declared.reader.NodeReader.{NodeReader}
use Rattle.node_file.specs.declared.trailer.Trailer.{Trailer}
use Rattle.node_file.specs.Readers.{file_of, trailer_of, left_of, AreLeft}
use Rattle.shelf_model.specs.Calls.{Told}
use Rattle.block_stream.specs.Reads.{Looked}
use Rattle.shelf_model.specs.declared.file_no.FileNo.{FileNo}
use Rattle.sweep_core.specs.Sweeps.{IsNoDamage, AtEnd}
use Rattle.sweep_core.specs.declared.turn.Turn.{Turn}
use Rattle.sweep_core.specs.declared.turn.Turn.TheVariants.{More, Ended}
use Rattle.restrict_eval.specs.declared.comparing.Comparing.{Comparing}
use Rattle.restrict_eval.specs.declared.comparing.Comparing.TheVariants.{Level, Ahead, Answered}
use Rattle.restrict_eval.specs.declared.same.SameSweep.{SameSweep}
use Rattle.node_reading.specs.Reading.{bytes_of, IsReading, IsNodeFault, IsFaultOf, GivesOf, GivesNode}
use Rattle.restrict_eval.specs.Canonical.{IsCanonical}
use Rattle.restrict_eval.specs.Turns.{AnswersAtEnd, Turns}
use Rattle.restrict_eval.specs.Same.{fuel_at, answer_at, answer_of, parts_of, task_of, IsReady, IsInStep, Tables, AreCompared, RemainsOf, IsDamage, IsFaultOfEither, comparisons}
use Rattle.node_reading.proofs.NodeReading.{looked_same, still_reading, node_fault_after}
use Rattle.restrict_eval.proofs.Looking.{faults_ok, faults_err, looked_leaves, still_leaves}

-- tables that differ
differ_bits : (t u : List Bool) → ¬ (t ≡ u) → false ≡ same_bits t u
differ_bits t u differ = elim (cases_Bool (same_bits t u)) [ inl e ↦ absurd (differ (same_from_bits t u e)) | inr e ↦ sym e ]

same_tables : (t u : List Bool) → t ≡ u → true ≡ same_bits t u
same_tables t u same = sym (ap (same_bits t) (sym same) ∙ same_bits-self t)

empty_front : (xs ys : List Node) → length (xs ++ ys) ≡ length ys → xs ++ ys ≡ ys
empty_front [] ys long = refl
empty_front (x ∷ xs) ys long = absurd (omega (arith, long, length-append xs ys))

-- one list has a node more
longer : (xs given : List Node) (x : Node) → ¬ (xs ++ x ∷ given ≡ given)
longer xs given x same = let long : length (xs ++ x ∷ given) ≡ length given = ap length same in omega (arith, long, length-append xs (x ∷ given))

head_or : List Node → Node → Node
head_or [] z = z
head_or (v ∷ vs) z = v

tail_of : List Node → List Node
tail_of [] = []
tail_of (v ∷ vs) = vs

-- lists of nodes that end with the same ones and go on with different ones
other_node : (xs ys given : List Node) (x y : Node) → xs ++ x ∷ given ≡ ys ++ y ∷ given → x ≡ y
unfolding head_or tail_of
other_node [] [] given x y same = ap (λ (zs : List Node). head_or zs x) same
other_node [] (v ∷ ys) given x y same = absurd (longer ys given y (sym (ap tail_of same)))
other_node (v ∷ xs) [] given x y same = absurd (longer xs given x (ap tail_of same))
other_node (v ∷ xs) (w ∷ ys) given x y same = other_node xs ys given x y (ap tail_of same)

-- tables whose canonical files have the same trailer and the same nodes are the same
same_if : (d : Tables) (left right : NodeReader) (world : World) → IsCanonical d.n d.first left world → IsCanonical d.n d.second right world → trailer_of left ≡ trailer_of right
    → canon_nodes d.n d.first ≡ canon_nodes d.n d.second → d.first ≡ d.second
same_if d left right world first second trailers nodes =
    tables_unique d.n d.first d.second first.form.few first.form.whole second.form.whole first.form.fits second.form.fits nodes
    (ap (λ (t : Trailer). t.root) (sym first.trailer_is ∙ trailers ∙ second.trailer_is))

-- tables that are the same have files with the same trailer
trailers_same : (d : Tables) (left right : NodeReader) (world : World) → IsCanonical d.n d.first left world → IsCanonical d.n d.second right world → d.first ≡ d.second
    → trailer_of left ≡ trailer_of right
trailers_same d left right world first second same =
    first.trailer_is ∙ (λ j. record { root = canon_root d.n (same j); count = length (canon_nodes d.n (same j)); n = d.n }) ∙ sym second.trailer_is

-- where the first file has no more nodes, the second has none
all_given : (d : Tables) (left right : NodeReader) (world : World) (given rest : List Node) → IsCanonical d.n d.first left world → IsCanonical d.n d.second right world
    → trailer_of left ≡ trailer_of right → canon_nodes d.n d.first ≡ given → canon_nodes d.n d.second ≡ rest ++ given → d.first ≡ d.second
all_given d left right world given rest first second trailers here there =
    let counts : length (canon_nodes d.n d.first) ≡ length (canon_nodes d.n d.second) = ap (λ (t : Trailer). t.count) (sym first.trailer_is ∙ trailers ∙ second.trailer_is) in
    let long : length (rest ++ given) ≡ length given = sym (ap length there) ∙ sym counts ∙ ap length here in
    same_if d left right world first second trailers (here ∙ sym (empty_front rest given long) ∙ sym there)

-- trailers that the test finds different, and the same
pub trailers_apart : (a b : Trailer) → not (eqb a.root b.root && (eqb a.count b.count && eqb a.n b.n)) ≡ true → ¬ (a ≡ b)
trailers_apart a b apart same =
    let root : a.root ≡ b.root = ap (λ (t : Trailer). t.root) same in
    let count : a.count ≡ b.count = ap (λ (t : Trailer). t.count) same in
    let n : a.n ≡ b.n = ap (λ (t : Trailer). t.n) same in
    grind (arith, tests)

pub trailers_alike : (a b : Trailer) → not (eqb a.root b.root && (eqb a.count b.count && eqb a.n b.n)) ≡ false → a ≡ b
trailers_alike a b alike =
    let root : a.root ≡ b.root = grind (arith, tests) in
    let count : a.count ≡ b.count = grind (arith, tests) in
    let n : a.n ≡ b.n = grind (arith, tests) in
    λ i. record { root = root i; count = count i; n = n i }

-- a node that was found and the one that it has to be, as the test compares them
abbrev same_node : Node → Node → Bool
same_node x y = eqb x.uid y.uid && (eqb x.low y.low && eqb x.high y.high)

pub found_apart : (found : Option Node) (x : Node) → not (option_eq same_node found (Some x)) ≡ true → ¬ (found ≡ Some x)
found_apart found x apart same =
    let here : not (same_node x x) ≡ true = subst (λ o. not (option_eq same_node o (Some x)) ≡ true) same apart in
    grind (arith, tests)

pub found_alike : (found : Option Node) (x : Node) → not (option_eq same_node found (Some x)) ≡ false → found ≡ Some x
found_alike None x alike = absurd (true≢false alike)
found_alike (Some y) x alike =
    let uid : y.uid ≡ x.uid = grind (arith, tests) in
    let low : y.low ≡ x.low = grind (arith, tests) in
    let high : y.high ≡ x.high = grind (arith, tests) in
    λ i. Some (record { uid = uid i; low = low i; high = high i })

-- a fault of one file is one of both
left_damage : (e : SortFault) (s : SameSweep) (world : World) → IsNodeFault s.left world e → IsDamage s world e
left_damage Shelf s world fault = tt
left_damage (Damaged f at) s world fault = inl fault
left_damage RunsSpent s world fault = fault

right_damage : (e : SortFault) (s : SameSweep) (world : World) → IsNodeFault s.right world e → IsDamage s world e
right_damage Shelf s world fault = tt
right_damage (Damaged f at) s world fault = inr fault
right_damage RunsSpent s world fault = fault

pub first_fault : (f g : FileNo) (e : SortFault) → IsFaultOf f e → IsFaultOfEither f g e
first_fault f g Shelf fault = tt
first_fault f g (Damaged h at) fault = inl fault
first_fault f g RunsSpent fault = fault

pub second_fault : (f g : FileNo) (e : SortFault) → IsFaultOf g e → IsFaultOfEither f g e
second_fault f g Shelf fault = tt
second_fault f g (Damaged h at) fault = inr fault
second_fault f g RunsSpent fault = fault

-- with another reader of the same file for one of the two, come to another state, the sweep has the same task
task_left : (s : SameSweep) (new : NodeReader) (state : Comparing) → file_of new ≡ file_of s.left
    → trailer_of new ≡ trailer_of s.left
    → task_of (record { left = new; right = s.right; state = state; parts = s.parts }) ≡ task_of s
task_left s new state files trailers = λ i. record {
  first = files i;
  second = file_of s.right;
  first_variables = (trailers i).n;
  second_variables = (trailer_of s.right).n;
  parts = s.parts;
}

task_right : (s : SameSweep) (new : NodeReader) (state : Comparing) → file_of new ≡ file_of s.right
    → trailer_of new ≡ trailer_of s.right
    → task_of (record { left = s.left; right = new; state = state; parts = s.parts }) ≡ task_of s
task_right s new state files trailers = λ i. record {
  first = file_of s.left;
  second = files i;
  first_variables = (trailer_of s.left).n;
  second_variables = (trailers i).n;
  parts = s.parts;
}

module _ {S : Type 0} (tells : S → Bool) (world : S → World) (counts : S → Faults) where
  -- the trailers differ
  pub trailers_differ : (at : S) (s : SameSweep) → s.state ≡ Level → IsReady s → (IsTrue (tells at) → IsInStep s (world at)) → ¬ (trailer_of s.left ≡ trailer_of s.right)
      → Turns comparisons tells world counts at at s (record { left = s.left; right = s.right; state = Answered false; parts = s.parts }) (Ok Ended)
  trailers_differ at s level ready step differ = record {
    ready = record { left_begun = ready.left_begun; right_begun = ready.right_begun; variables = ready.variables };
    in_step = λ told. let now = step told in record { left_reads = now.left_reads; right_reads = now.right_reads };
    trusts = λ told trusts. tt;
    falls = refl;
    ends = search rules;
    keeps = λ told d remains. record {
      first_is = remains.first_is;
      second_is = remains.second_is;
      compared = differ_bits d.first d.second (λ same. differ (trailers_same d s.left s.right (world at) remains.first_is remains.second_is same));
    };
    undamaged = tt;
    damage = tt;
    refused = tt;
    leaves = still_leaves tells world counts parts_of at s _ Ended refl;
    same = refl;
  }

  module _ (before after : S) (s : SameSweep) (ready : IsReady s) (step : IsTrue (tells before) → IsInStep s (world before)) where
    -- the file that isn't read has the same bytes
    other_bytes : (r : NodeReader) → Told tells before after (Looked 1 (world before) (world after)) → IsTrue (tells after) → bytes_of r (world after) ≡ bytes_of r (world before)
    other_bytes r content told = looked_same 1 (file_of r) (file_of r) (world before) (world after) (content.did told) refl

    other_reads : (r : NodeReader) → (IsTrue (tells before) → IsReading r (world before)) → Told tells before after (Looked 1 (world before) (world after)) → IsTrue (tells after) → IsReading r (world after)
    other_reads r reads content told =
        let now = reads (content.before told) in
        still_reading r r (world before) (world after) refl (other_bytes r content told) now now.reads

    module _ (new : NodeReader) where
      -- a node of the first file was read
      pub left_read : (x : Node) → s.state ≡ Level → GivesNode tells world counts before after s.left new (Ok (Some x))
          → Turns comparisons tells world counts before after s (record { left = new; right = s.right; state = Ahead x; parts = s.parts }) (Ok More)
      left_read x level gives =
          let fewer : left_of s.left ≡ left_of new + 1 = gives.rises.1 in
          let fuel : fuel_at s.state (left_of s.left + left_of s.right) ≡ left_of s.left + left_of s.right + 1 = ap (λ st. fuel_at st (left_of s.left + left_of s.right)) level in
          record {
            ready = record { left_begun = gives.begun; right_begun = ready.right_begun; variables = ap (λ (t : Trailer). t.n) gives.trailer_is ∙ ready.variables };
            in_step = λ told. record { left_reads = gives.reads told; right_reads = other_reads s.right (λ is. (step is).right_reads) gives.content told };
            trusts = λ told trusts. tt;
            falls = (omega arith, omega (arith, fewer, fuel));
            ends = refl;
            keeps = λ told d remains.
                let at = subst (λ st. AreCompared st d s.left s.right (world before)) level remains.compared in
                record {
                  first_is = canonical_stays d.n d.first s.left new (world before) (world after) gives.trailer_is (gives.same told) remains.first_is;
                  second_is = canonical_stays d.n d.second s.right s.right (world before) (world after) refl (other_bytes s.right gives.content told) remains.second_is;
                  compared = (
                    at.0,
                    one_more s.left new (bytes_of s.left (world before)) (bytes_of new (world after)) (canon_nodes d.n d.first) at.0 x (gives.same told) (gives.items told) at.1,
                    but_stays s.right (bytes_of s.right (world before)) (bytes_of s.right (world after)) (canon_nodes d.n d.second) at.0 (other_bytes s.right gives.content told) at.2,
                  );
                };
            undamaged = tt;
            damage = tt;
            refused = tt;
            leaves = looked_leaves tells world counts parts_of before after s _ (Ok More) refl gives.content (faults_ok (counts before) (counts after) (Ok (Some x)) More gives.faults);
            same = task_left s new (Ahead x) gives.file_is gives.trailer_is;
          }

      -- the first file has no more nodes
      pub left_ends : s.state ≡ Level → trailer_of s.left ≡ trailer_of s.right → GivesNode tells world counts before after s.left new (Ok None)
          → Turns comparisons tells world counts before after s (record { left = new; right = s.right; state = Answered true; parts = s.parts }) (Ok Ended)
      left_ends level trailers gives = record {
        ready = record { left_begun = gives.begun; right_begun = ready.right_begun; variables = ap (λ (t : Trailer). t.n) gives.trailer_is ∙ ready.variables };
        in_step = λ told. record { left_reads = gives.reads told; right_reads = other_reads s.right (λ is. (step is).right_reads) gives.content told };
        trusts = λ told trusts. tt;
        falls = refl;
        ends = search rules;
        keeps = λ told d remains.
            let at = subst (λ st. AreCompared st d s.left s.right (world before)) level remains.compared in
            record {
              first_is = canonical_stays d.n d.first s.left new (world before) (world after) gives.trailer_is (gives.same told) remains.first_is;
              second_is = canonical_stays d.n d.second s.right s.right (world before) (world after) refl (other_bytes s.right gives.content told) remains.second_is;
              compared = same_tables d.first d.second (all_given d s.left s.right (world before) at.0 at.2.rest remains.first_is remains.second_is trailers
                  (none_left s.left new (bytes_of s.left (world before)) (canon_nodes d.n d.first) at.0 (gives.items told) at.1) at.2.nodes_are);
            };
        undamaged = tt;
        damage = tt;
        refused = tt;
        leaves = looked_leaves tells world counts parts_of before after s _ (Ok Ended) refl gives.content (faults_ok (counts before) (counts after) (Ok None) Ended gives.faults);
        same = task_left s new (Answered true) gives.file_is gives.trailer_is;
      }

      -- the reading was refused
      pub left_refused : (e : SortFault) → s.state ≡ Level → GivesNode tells world counts before after s.left new (Err e)
          → Turns comparisons tells world counts before after s (record { left = new; right = s.right; state = s.state; parts = s.parts }) (Err e)
      left_refused e level gives = record {
        ready = tt;
        in_step = tt;
        trusts = tt;
        falls = tt;
        ends = tt;
        keeps = tt;
        undamaged = λ told d remains.
            let at = subst (λ st. AreCompared st d s.left s.right (world before)) level remains.compared in
            subst IsNoDamage (sym (gives.items told at.1.rest at.1.left)) tt;
        damage = λ told trusts. left_damage e (record { left = new; right = s.right; state = s.state; parts = s.parts }) (world after) (node_fault_after s.left new (world before) (world after) e gives.file_is gives.trailer_is (gives.same told) (gives.damage told));
        refused = first_fault (file_of s.left) (file_of s.right) e gives.refused;
        leaves = looked_leaves tells world counts parts_of before after s _ (Err e) refl gives.content (faults_err (counts before) (counts after) e gives.faults);
        same = task_left s new s.state gives.file_is gives.trailer_is;
      }

      -- the next node of the second file is the one that was read of the first
      pub right_read : (x : Node) (found : Option Node) → s.state ≡ Ahead x → found ≡ Some x → GivesNode tells world counts before after s.right new (Ok found)
          → Turns comparisons tells world counts before after s (record { left = s.left; right = new; state = Level; parts = s.parts }) (Ok More)
      right_read x found ahead same given =
          let gives = subst (λ o. GivesNode tells world counts before after s.right new (Ok o)) same given in
          let fewer : left_of s.right ≡ left_of new + 1 = gives.rises.1 in
          let fuel : fuel_at s.state (left_of s.left + left_of s.right) ≡ left_of s.left + left_of s.right + 1 = ap (λ st. fuel_at st (left_of s.left + left_of s.right)) ahead in
          record {
            ready = record { left_begun = ready.left_begun; right_begun = gives.begun; variables = ready.variables ∙ sym (ap (λ (t : Trailer). t.n) gives.trailer_is) };
            in_step = λ told. record { left_reads = other_reads s.left (λ is. (step is).left_reads) gives.content told; right_reads = gives.reads told };
            trusts = λ told trusts. tt;
            falls = (omega arith, omega (arith, fewer, fuel));
            ends = refl;
            keeps = λ told d remains.
                let at = subst (λ st. AreCompared st d s.left s.right (world before)) ahead remains.compared in
                record {
                  first_is = canonical_stays d.n d.first s.left s.left (world before) (world after) refl (other_bytes s.left gives.content told) remains.first_is;
                  second_is = canonical_stays d.n d.second s.right new (world before) (world after) gives.trailer_is (gives.same told) remains.second_is;
                  compared = (
                    x ∷ at.0,
                    but_stays s.left (bytes_of s.left (world before)) (bytes_of s.left (world after)) (canon_nodes d.n d.first) (x ∷ at.0) (other_bytes s.left gives.content told) at.1,
                    one_more s.right new (bytes_of s.right (world before)) (bytes_of new (world after)) (canon_nodes d.n d.second) at.0 x (gives.same told) (gives.items told) at.2,
                  );
                };
            undamaged = tt;
            damage = tt;
            refused = tt;
            leaves = looked_leaves tells world counts parts_of before after s _ (Ok More) refl gives.content (faults_ok (counts before) (counts after) (Ok (Some x)) More gives.faults);
            same = task_right s new Level gives.file_is gives.trailer_is;
          }

      -- it is another one, or there is none
      right_other : (d : Tables) (x : Node) (found : Option Node) → ¬ (found ≡ Some x) → AreCompared (Ahead x) d s.left s.right (world before)
          → ((xs : List Node) → AreLeft s.right (bytes_of s.right (world before)) xs → GivesOf new (bytes_of s.right (world before)) xs (Ok found)) → ¬ (canon_nodes d.n d.first ≡ canon_nodes d.n d.second)
      right_other d x None differ at gives same =
          longer at.1.rest at.0 x (sym at.1.nodes_are ∙ same ∙ none_left s.right new (bytes_of s.right (world before)) (canon_nodes d.n d.second) at.0 gives at.2)
      right_other d x (Some y) differ at gives same =
          let more = one_more s.right new (bytes_of s.right (world before)) (bytes_of s.right (world before)) (canon_nodes d.n d.second) at.0 y refl gives at.2 in
          differ (ap Some (sym (other_node at.1.rest more.rest at.0 x y (sym at.1.nodes_are ∙ same ∙ more.nodes_are))))

      pub right_differs : (x : Node) (found : Option Node) → s.state ≡ Ahead x → ¬ (found ≡ Some x) → GivesNode tells world counts before after s.right new (Ok found)
          → Turns comparisons tells world counts before after s (record { left = s.left; right = new; state = Answered false; parts = s.parts }) (Ok Ended)
      right_differs x found ahead differ gives = record {
        ready = record { left_begun = ready.left_begun; right_begun = gives.begun; variables = ready.variables ∙ sym (ap (λ (t : Trailer). t.n) gives.trailer_is) };
        in_step = λ told. record { left_reads = other_reads s.left (λ is. (step is).left_reads) gives.content told; right_reads = gives.reads told };
        trusts = λ told trusts. tt;
        falls = refl;
        ends = search rules;
        keeps = λ told d remains.
            let at = subst (λ st. AreCompared st d s.left s.right (world before)) ahead remains.compared in
            record {
              first_is = canonical_stays d.n d.first s.left s.left (world before) (world after) refl (other_bytes s.left gives.content told) remains.first_is;
              second_is = canonical_stays d.n d.second s.right new (world before) (world after) gives.trailer_is (gives.same told) remains.second_is;
              compared = differ_bits d.first d.second (λ same. right_other d x found differ at (gives.items told) (ap (canon_nodes d.n) same));
            };
        undamaged = tt;
        damage = tt;
        refused = tt;
        leaves = looked_leaves tells world counts parts_of before after s _ (Ok Ended) refl gives.content (faults_ok (counts before) (counts after) (Ok found) Ended gives.faults);
        same = task_right s new (Answered false) gives.file_is gives.trailer_is;
      }

      -- its reading was refused
      pub right_refused : (x : Node) (e : SortFault) → s.state ≡ Ahead x → GivesNode tells world counts before after s.right new (Err e)
          → Turns comparisons tells world counts before after s (record { left = s.left; right = new; state = s.state; parts = s.parts }) (Err e)
      right_refused x e ahead gives = record {
        ready = tt;
        in_step = tt;
        trusts = tt;
        falls = tt;
        ends = tt;
        keeps = tt;
        undamaged = λ told d remains.
            let at = subst (λ st. AreCompared st d s.left s.right (world before)) ahead remains.compared in
            subst IsNoDamage (sym (gives.items told at.2.rest at.2.left)) tt;
        damage = λ told trusts. right_damage e (record { left = s.left; right = new; state = s.state; parts = s.parts }) (world after) (node_fault_after s.right new (world before) (world after) e gives.file_is gives.trailer_is (gives.same told) (gives.damage told));
        refused = second_fault (file_of s.left) (file_of s.right) e gives.refused;
        leaves = looked_leaves tells world counts parts_of before after s _ (Err e) refl gives.content (faults_err (counts before) (counts after) e gives.faults);
        same = task_right s new s.state gives.file_is gives.trailer_is;
      }

-- the answer that is known is the right one
answered : (state : Comparing) (d : Tables) (left right : NodeReader) (world : World) → IsSome (answer_at state) → AreCompared state d left right world
    → answer_at state ≡ Some (same_bits d.first d.second)
answered Level d left right world some compared = absurd (true≢false (sym some))
answered (Ahead x) d left right world some compared = absurd (true≢false (sym some))
answered (Answered b) d left right world some compared = ap Some compared

pub answers : (A : Type 0) (s new : SameSweep) (old now : World) (result : Result Turn SortFault) → IfOk result (λ turn. AnswersAtEnd turn (answer_of new))
    → OnOk result (A → (d : Tables) → RemainsOf s old d → RemainsOf new now d)
    → AtEnd result (A → (d : Tables) → RemainsOf s old d → answer_of new ≡ Some (same_bits d.first d.second))
answers A s new old now (Ok More) ends keeps = tt
answers A s new old now (Ok Ended) ends keeps = λ told d remains. answered new.state d new.left new.right now ends (keeps told d remains).compared
answers A s new old now (Err e) ends keeps = tt
