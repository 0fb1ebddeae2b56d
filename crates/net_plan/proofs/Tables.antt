-- The tables of steps that stand one after the other, behind tables of steps before them.
use Rattle.std.proofs.Common.{◌≡◌, ℕ, ◌+◌, ◌<◌, ◌≤◌, ◌^◌, Bool, true, false, cond, List, [], ◌∷◌, ◌++◌, length, get_or, refl, ap, ◌∙◌, arith, length-append}
use Rattle.std.proofs.Math.Seq.{get_or-append_seam}
use Rattle.std.proofs.lemmas.List.{get_or_append_left}
use Rattle.std.proofs.lemmas.List.FromFn.{get_or-map-range_with_len, length-map-range_with_len}
use Rattle.bool_tables.specs.Tables.{value_at, table_with}
use Rattle.bool_tables.specs.Plans.{makes_diagram}
use Rattle.bool_tables.specs.Steps.{op_value, step_value, step_table, tables_after}
use Rattle.bool_tables.specs.declared.steps.Bin.{Bin}
use Rattle.bool_tables.specs.declared.steps.Step.{Step}
use Rattle.bool_tables.specs.declared.steps.Step.TheVariants.{Const, Pair}
use Rattle.bool_tables.specs.declared.steps.Planned.{Planned}
use Rattle.net_plan.specs.Values.{steps_of}

-- the tables of all steps, where done are those of the steps before
pub after : ℕ → List (List Bool) → List Step → List (List Bool)
after n done [] = done
after n done (s ∷ ss) = after n (done ++ step_table n done s ∷ []) ss

-- names change no table
after_named : (n : ℕ) (done : List (List Bool)) (planned : List Planned) → tables_after n done planned ≡ after n done (steps_of planned)
unfolding after
after_named n done [] = refl
after_named n done (s ∷ ss) = after_named n (done ++ step_table n done s.step ∷ []) ss

after-append : (n : ℕ) (done : List (List Bool)) (xs ys : List Step) → after n done (xs ++ ys) ≡ after n (after n done xs) ys
unfolding after
after-append n done [] ys = refl
after-append n done (x ∷ xs) ys = after-append n (done ++ step_table n done x ∷ []) xs ys

length-after : (n : ℕ) (done : List (List Bool)) (xs : List Step) → length (after n done xs) ≡ length done + length xs
unfolding after
length-after n done [] = omega arith
length-after n done (x ∷ xs) = omega (arith, length-after n (done ++ step_table n done x ∷ []) xs, length-append done (step_table n done x ∷ []))

after_keeps : (n : ℕ) (done : List (List Bool)) (xs : List Step) (k : ℕ) → k < length done → get_or (after n done xs) k [] ≡ get_or done k []
unfolding after
after_keeps n done [] k b = refl
after_keeps n done (x ∷ xs) k b =
    after_keeps n (done ++ step_table n done x ∷ []) xs k (omega (arith, length-append done (step_table n done x ∷ [])))
    ∙ get_or_append_left done (step_table n done x ∷ []) [] k b

-- the table that the step with a number makes
pub table : ℕ → List (List Bool) → List Step → ℕ → List Bool
table n before steps k = get_or (after n before steps) k []

-- so it does in a plan
pub table_named : (n : ℕ) (before : List (List Bool)) (planned : List Planned) (steps : List Step) (k : ℕ) → steps_of planned ≡ steps → get_or (tables_after n before planned) k [] ≡ table n before steps k
unfolding table
table_named n before planned steps k e = ap (λ ts. get_or ts k []) (after_named n before planned ∙ ap (after n before) e)

-- the step with a number makes the table with these values
pub record Gives (n : ℕ) (before : List (List Bool)) (steps : List Step) (k : ℕ) (value : ℕ → Bool) : Type 0 where
  pub inside : k < length before + length steps
  pub size : length (table n before steps k) ≡ 2 ^ n
  pub values : (p : ℕ) → p < 2 ^ n → value_at (table n before steps k) p ≡ value p

-- steps are kept, and others may stand behind them
pub record Keeps (n : ℕ) (before : List (List Bool)) (steps steps2 : List Step) : Type 0 where
  pub longer : length steps ≤ length steps2
  pub same : (k : ℕ) → k < length before + length steps → table n before steps2 k ≡ table n before steps k

module _ (n : ℕ) (before : List (List Bool)) where
  pub keeps_itself : (steps : List Step) → Keeps n before steps steps
  keeps_itself steps = record { longer = omega arith; same = λ k b. refl }

  pub keeps_on : (xs ys zs : List Step) → Keeps n before xs ys → Keeps n before ys zs → Keeps n before xs zs
  keeps_on xs ys zs a b = record { longer = omega arith; same = λ k inside. b.same k (omega arith) ∙ a.same k inside }

  pub keeps_front : (xs ys : List Step) → Keeps n before xs (xs ++ ys)
  unfolding table
  keeps_front xs ys = record {
    longer = omega (arith, length-append xs ys);
    same = λ k b. ap (λ ts. get_or ts k []) (after-append n before xs ys) ∙ after_keeps n (after n before xs) ys k (omega (arith, length-after n before xs));
  }

  pub gives_still : (xs ys : List Step) (k : ℕ) (value : ℕ → Bool) → Keeps n before xs ys → Gives n before xs k value → Gives n before ys k value
  gives_still xs ys k value keeps g =
      let e : table n before ys k ≡ table n before xs k = keeps.same k g.inside in
      record {
        inside = omega arith;
        size = ap length e ∙ g.size;
        values = λ p b. ap (λ t. value_at t p) e ∙ g.values p b;
      }

  pub gives_same : (xs : List Step) (k : ℕ) (value value2 : ℕ → Bool) → ((p : ℕ) → value p ≡ value2 p) → Gives n before xs k value → Gives n before xs k value2
  gives_same xs k value value2 e g = record { inside = g.inside; size = g.size; values = λ p b. g.values p b ∙ e p }

  -- the table of a step that was put last
  table_put : (first : ℕ) (xs : List Step) (s : Step) → length before ≡ first → table n before (xs ++ s ∷ []) (first + length xs) ≡ step_table n (after n before xs) s
  unfolding table after
  table_put first xs s e =
      let done : List (List Bool) = after n before xs in
      let at : first + length xs ≡ length done = omega (arith, length-after n before xs) in
      ap (λ ts. get_or ts (first + length xs) []) (after-append n before xs (s ∷ []))
      ∙ ap (λ k. get_or (done ++ step_table n done s ∷ []) k []) at
      ∙ get_or-append_seam done (step_table n done s) [] []

  pub put_gives : (first : ℕ) (xs : List Step) (s : Step) → length before ≡ first → makes_diagram s ≡ true → Gives n before (xs ++ s ∷ []) (first + length xs) (step_value n (after n before xs) s)
  put_gives first xs s e d =
      let t : table n before (xs ++ s ∷ []) (first + length xs) ≡ table_with n (step_value n (after n before xs) s) =
      table_put first xs s e ∙ ap (λ b. cond b (table_with n (step_value n (after n before xs) s)) []) d in
      record {
        inside = omega (arith, length-append xs (s ∷ []));
        size = ap length t ∙ length-map-range_with_len (step_value n (after n before xs) s) 0 (2 ^ n);
        values = λ p b. ap (λ u. value_at u p) t ∙ get_or-map-range_with_len (step_value n (after n before xs) s) 0 (2 ^ n) p p false b (omega arith);
      }

  pub const_gives : (first : ℕ) (xs : List Step) (b : Bool) → length before ≡ first → Gives n before (xs ++ Const b ∷ []) (first + length xs) (λ p. b)
  const_gives first xs b e = put_gives first xs (Const b) e refl

  pub pair_gives : (first : ℕ) (xs : List Step) (op : Bin) (j k : ℕ) (f g : ℕ → Bool) → length before ≡ first → Gives n before xs j f → Gives n before xs k g
      → Gives n before (xs ++ Pair op j k ∷ []) (first + length xs) (λ p. op_value op (f p) (g p))
  unfolding table
  pair_gives first xs op j k f g e left right =
      let made = put_gives first xs (Pair op j k) e refl in
      record {
        inside = made.inside;
        size = made.size;
        values = λ p b. made.values p b ∙ ap (λ v. op_value op v (value_at (get_or (after n before xs) k []) p)) (left.values p b) ∙ ap (λ v. op_value op (f p) v) (right.values p b);
      }
