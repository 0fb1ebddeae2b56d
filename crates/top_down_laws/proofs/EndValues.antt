-- The truth value to which an arc leads is a value of the table.
use Rattle.std.proofs.Common.{◌≡◌, ℕ, zero, suc, ◌+◌, ◌-◌, ◌^◌, ◌<◌, ◌≤◌, ◌∙◌, Bool, true, false, List, ◌++◌, refl, subst, sym, inl, inr, arith}
use Rattle.std.specs.Prelude.{Option, Some, None, replicate}
use Rattle.bool_tables.proofs.Halves.{twice}
use Rattle.list_laws.proofs.MemberLaws.{has_left, has_right}
use Rattle.rec_words.specs.Words.{terminal}
use Rattle.canon_file.specs.Members.{Has}
use Rattle.top_down.specs.declared.tuple.Tuple.{Tuple}
use Rattle.top_down.specs.declared.tuple.Goal.TheVariants.{End, Go}
use Rattle.top_down.specs.Tuples.{Targets, level_of_tuple}
use Rattle.top_down.specs.Rules.{Rule, IsAsked, IsRule, below_on, table_for}
use Rattle.top_down.proofs.PointwiseLaws.{are_later}
use Rattle.top_down.proofs.TurnLaws.{asked_at, tuple_deep}
use Rattle.top_down_laws.specs.Readings.{Diagrams, targets_in}
use Rattle.top_down_laws.specs.Remains.{IsTask, Numbered, IsMade, IsMet, AtRoot, Below, Open}
use Rattle.top_down_laws.specs.Laws.{EndIsValue, task_table}

-- a constant table has its value
has_value : (value : Bool) (h : ℕ) → Has value (replicate (2 ^ h) value)
has_value value zero = inl refl
has_value value (suc h) = subst (λ k. Has value (replicate k value)) (sym (twice h))
    (more (2 ^ h) (2 ^ h) (has_value value h))
  where
    more : (k m : ℕ) → Has value (replicate k value) → Has value (replicate (k + m) value)
    more k zero there = let same : k ≡ k + 0 = omega arith in
        subst (λ l. Has value (replicate l value)) same there
    more k (suc l) there = let next : suc (k + l) ≡ k + suc l = omega arith in
        subst (λ i. Has value (replicate i value)) next (inr (more k l there))

same_value : (v w : Bool) → terminal v ≡ terminal w → v ≡ w
same_value false false same = refl
same_value false true same = absurd (omega (arith, same))
same_value true false same = absurd (omega (arith, same))
same_value true true same = refl

module _ (n : ℕ) (rule : Rule) (targets : Targets) (laws : IsRule n rule targets) (roots : Tuple)
    (begins : IsAsked n rule 0 roots) (value : Bool) where
  -- where the tuple's function from a level on has the value, that of the roots has it
  abbrev Reaches : ℕ → Tuple → Type 0
  Reaches i x = (h : ℕ) → i + h ≡ n → Has value (table_for rule targets h i x)
      → Has value (table_for rule targets n 0 roots)

  to_own : (k i : ℕ) (x : Tuple) → i + k ≡ level_of_tuple x → level_of_tuple x < n
      → IsAsked n rule i x → Reaches i x → Reaches (level_of_tuple x) x
  to_own zero i x end low asked reach = let here : i ≡ level_of_tuple x = omega arith in
      subst (λ l. Reaches l x) here reach
  to_own (suc k) i x end low asked reach =
      to_own k (suc i) x (omega arith) low
      (record {
        from = are_later n i x asked.from (omega arith);
        may = laws.later i x asked (omega arith);
      })
      (λ h rest there. reach (suc h) (omega arith)
      (subst (Has value) (sym (laws.passes h i x asked (omega arith) (omega arith)))
      (has_left value (table_for rule targets h (suc i) x) (table_for rule targets h (suc i) x)
      there)))

  -- so does what the rule says for a tuple, and what stands on a side of one
  goes_reaches : (i : ℕ) (x y : Tuple) → i ≤ n → IsAsked n rule i x → rule.goal x ≡ Go y
      → Reaches i x → Reaches (level_of_tuple y) y
  goes_reaches i x y within asked goes reach =
      let there : IsAsked n rule i y = laws.goes_asked i x y within asked goes in
      let deep : i ≤ level_of_tuple y = tuple_deep n i y there.from in
      to_own (level_of_tuple y - i) i y (omega arith) (laws.goes_low i x y within asked goes) there
      (λ h rest m. reach h rest (subst (Has value) (sym (laws.goes h i x y rest asked goes)) m))

  side_reaches : (x : Tuple) (side : Bool) → IsAsked n rule (level_of_tuple x) x
      → Reaches (level_of_tuple x) x
      → Reaches (suc (level_of_tuple x)) (below_on rule targets side x)
  side_reaches x side asked reach h rest m =
      reach (suc h) (omega arith) (subst (Has value) (sym (laws.splits h x asked (omega arith)))
      (by side m))
    where
      half : Bool → List Bool
      half s = table_for rule targets h (suc (level_of_tuple x)) (below_on rule targets s x)

      by : (s : Bool) → Has value (half s) → Has value (half false ++ half true)
      by false k = has_left value (half false) (half true) k
      by true k = has_right value (half false) (half true) k

  -- a tuple that is asked for
  record IsReached (x : Tuple) : Type 0 where
    asked : IsAsked n rule (level_of_tuple x) x
    low : level_of_tuple x < n
    reaches : Reaches (level_of_tuple x) x

  reached_by : (i : ℕ) (x y : Tuple) → i ≤ n → IsAsked n rule i x → rule.goal x ≡ Go y
      → Reaches i x → IsReached y
  reached_by i x y within asked goes reach =
      let there : IsAsked n rule i y = laws.goes_asked i x y within asked goes in
      let deep : i ≤ level_of_tuple y = tuple_deep n i y there.from in
      let rest : i + (level_of_tuple y - i) ≡ level_of_tuple y = omega arith in
      record {
        asked = asked_at n rule targets laws (level_of_tuple y - i) i y rest there;
        low = laws.goes_low i x y within asked goes;
        reaches = goes_reaches i x y within asked goes reach;
      }

  is_reached : (x : Tuple) → IsMet rule targets roots x → IsReached x
  is_reached x (AtRoot y says) =
      reached_by 0 roots x (omega arith) begins says
      (λ h rest m. let whole : h ≡ n = omega (arith, rest) in
      subst (λ k. Has value (table_for rule targets k 0 roots)) whole m)
  is_reached x (Below y z side met says) =
      let above : IsReached y = is_reached y met in
      reached_by (suc (level_of_tuple y)) (below_on rule targets side y) x (omega (arith, above.low))
      (laws.sides_asked y side above.low above.asked) says
      (side_reaches y side above.asked above.reaches)

  -- where the rule says the value for a side of such a tuple, the roots' function has it
  end_reaches : (x : Tuple) (side : Bool) → IsMet rule targets roots x
      → rule.goal (below_on rule targets side x) ≡ End value
      → Has value (table_for rule targets n 0 roots)
  end_reaches x side met ends =
      let there : IsReached x = is_reached x met in
      let low : level_of_tuple x < n = there.low in
      let h : ℕ = n - suc (level_of_tuple x) in
      let rest : suc (level_of_tuple x) + h ≡ n = omega (arith, low) in
      side_reaches x side there.asked there.reaches h rest
      (subst (Has value) (sym (laws.ends h (suc (level_of_tuple x)) (below_on rule targets side x)
      value rest (laws.sides_asked x side low there.asked) ends)) (has_value value h))

pub end_is_value : (n : ℕ) (rule : Rule) (d : Diagrams) (roots : Tuple) → IsTask n rule d roots
    → EndIsValue n rule d roots
end_is_value n rule d roots task place waiting last r inner ends m a value there leads =
    by place.newest m.opens m.made
  where
    by : (newest : Option Numbered) (opens : List Open)
        → IsMade n rule d roots place.root newest last inner ends opens
        → Has value (task_table n rule d roots)
    by None opens made = absurd (subst (Has a) made.no_ends there)
    by (Some x) opens made =
        let (found, source, target, says) = made.grows.end_right a there in
        let same : found ≡ value = same_value found value (sym target ∙ leads) in
        end_reaches n rule (targets_in d) task.is_rule roots task.asked value
        (made.tuple a.source) a.high (made.is_met a.source source)
        (subst (λ v. rule.goal (below_on rule (targets_in d) a.high (made.tuple a.source)) ≡ End v)
        same says)
