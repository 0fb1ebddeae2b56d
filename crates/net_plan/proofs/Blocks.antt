-- The values of the steps of a block.
use Rattle.std.proofs.Common.{◌≡◌, ℕ, ◌+◌, ◌==◌, Bool, true, false, cond, not, ◌&&◌, ◌||◌, List, [], ◌∷◌, ◌++◌, length, map, refl, ap, eq-eqb}
use Rattle.std.specs.List.{list_any}
use Rattle.depth_first.specs.Graph.{has}
use Rattle.blif_reader.specs.Netlist.{Cover}
use Rattle.bool_tables.specs.Steps.{op_value}
use Rattle.bool_tables.specs.declared.steps.Bin.{Bin}
use Rattle.bool_tables.specs.declared.steps.Step.{Step}
use Rattle.bool_tables.specs.declared.steps.Step.TheVariants.{Const, Pair, Drop}
use Rattle.net_plan.specs.Covers.{Draft, put, join, column, columns, cube, summed, row, rows, signed, block, both, left_alone, either, not_both}
use Rattle.net_plan.specs.Values.{holds, covers, cover_value}
use Rattle.net_plan.proofs.Tables.{Gives, Keeps, keeps_itself, keeps_on, keeps_front, gives_still, gives_same, const_gives, pair_gives}

both_is : (a b : Bool) → op_value both a b ≡ (a && b)
both_is true true = refl
both_is true false = refl
both_is false true = refl
both_is false false = refl

left_alone_is : (a b : Bool) → op_value left_alone a b ≡ (a && not b)
left_alone_is true true = refl
left_alone_is true false = refl
left_alone_is false true = refl
left_alone_is false false = refl

either_is : (a b : Bool) → op_value either a b ≡ (a || b)
either_is true true = refl
either_is true false = refl
either_is false true = refl
either_is false false = refl

not_both_is : (a : Bool) → op_value not_both a a ≡ cond a false true
not_both_is true = refl
not_both_is false = refl

and-true : (a : Bool) → a ≡ (a && true)
and-true true = refl
and-true false = refl

and_and : (a b c : Bool) → ((a && b) && c) ≡ (a && (b && c))
and_and true b c = refl
and_and false b c = refl

or-false : (a : Bool) → a ≡ (a || false)
or-false true = refl
or-false false = refl

or_or : (a b c : Bool) → ((a || b) || c) ≡ (a || (b || c))
or_or true b c = refl
or_or false b c = refl

-- one of two drafts, by a test
cond_keeps : (n : ℕ) (before : List (List Bool)) (steps : List Step) (t : Bool) (d e : Draft) → Keeps n before steps d.steps → Keeps n before steps e.steps → Keeps n before steps (cond t d e).steps
cond_keeps n before steps true d e a b = a
cond_keeps n before steps false d e a b = b

cond_gives : (n : ℕ) (before : List (List Bool)) (t : Bool) (d e : Draft) (f g : ℕ → Bool) → Gives n before d.steps d.at f → Gives n before e.steps e.at g → Gives n before (cond t d e).steps (cond t d e).at (λ p. cond t (f p) (g p))
cond_gives n before true d e f g a b = a
cond_gives n before false d e f g a b = b

cond_and : (t : Bool) (a b c : Bool) → cond t (a && b) (a && c) ≡ (a && cond t b c)
cond_and true a b c = refl
cond_and false a b c = refl

pub has_head : (e : ℕ) (es : List ℕ) → has (e ∷ es) e ≡ true
has_head e es = ap (λ b. b || has es e) (eq-eqb e e refl)

pub has_tail : (e : ℕ) (es : List ℕ) (t : ℕ) → has es t ≡ true → has (e ∷ es) t ≡ true
has_tail e es t h = right (e == t) (has es t) h where
  right : (a b : Bool) → b ≡ true → (a || b) ≡ true
  right true b h = refl
  right false b h = h

module _ (n : ℕ) (before : List (List Bool)) (first : ℕ) (size : length before ≡ first) where
  join_keeps : (op : Bin) (d : Draft) (t : ℕ) → Keeps n before d.steps (join first op d t).steps
  join_keeps op d t =
      keeps_on n before d.steps (d.steps ++ Pair op d.at t ∷ []) _ (keeps_front n before d.steps (Pair op d.at t ∷ [])) (keeps_front n before (d.steps ++ Pair op d.at t ∷ []) (Drop d.at ∷ []))

  join_gives : (op : Bin) (d : Draft) (t : ℕ) (f g : ℕ → Bool) → Gives n before d.steps d.at f → Gives n before d.steps t g → Gives n before (join first op d t).steps (join first op d t).at (λ p. op_value op (f p) (g p))
  join_gives op d t f g a b =
      gives_still n before (d.steps ++ Pair op d.at t ∷ []) _ _ _ (keeps_front n before (d.steps ++ Pair op d.at t ∷ []) (Drop d.at ∷ [])) (pair_gives n before first d.steps op d.at t f g size a b)

  column_keeps : (d : Draft) (c t : ℕ) → Keeps n before d.steps (column first d c t).steps
  column_keeps d c t =
      cond_keeps n before d.steps (c == 49) (join first both d t) _ (join_keeps both d t)
      (cond_keeps n before d.steps (c == 48) (join first left_alone d t) d (join_keeps left_alone d t) (keeps_itself n before d.steps))

  -- a column asks for its character
  column_gives : (d : Draft) (c t : ℕ) (f g : ℕ → Bool) → Gives n before d.steps d.at f → Gives n before d.steps t g → Gives n before (column first d c t).steps (column first d c t).at (λ p. f p && holds c (g p))
  column_gives d c t f g a b =
      let one = gives_same n before (join first both d t).steps (join first both d t).at (λ p. op_value both (f p) (g p)) (λ p. f p && g p) (λ p. both_is (f p) (g p)) (join_gives both d t f g a b) in
      let zero = gives_same n before (join first left_alone d t).steps (join first left_alone d t).at (λ p. op_value left_alone (f p) (g p)) (λ p. f p && not (g p)) (λ p. left_alone_is (f p) (g p)) (join_gives left_alone d t f g a b) in
      let any = gives_same n before d.steps d.at f (λ p. f p && true) (λ p. and-true (f p)) a in
      let rest : Draft = cond (c == 48) (join first left_alone d t) d in
      let other = gives_same n before rest.steps rest.at _ (λ p. f p && cond (c == 48) (not (g p)) true) (λ p. cond_and (c == 48) (f p) (not (g p)) true) (cond_gives n before (c == 48) (join first left_alone d t) d _ _ zero any) in
      gives_same n before (column first d c t).steps (column first d c t).at _ _ (λ p. cond_and (c == 49) (f p) (g p) (cond (c == 48) (not (g p)) true)) (cond_gives n before (c == 49) (join first both d t) rest _ _ one other)

  columns_keep : (d : Draft) (cs ts : List ℕ) → Keeps n before d.steps (columns first d cs ts).steps
  columns_keep d [] ts = keeps_itself n before d.steps
  columns_keep d (c ∷ cs) [] = keeps_itself n before d.steps
  columns_keep d (c ∷ cs) (t ∷ ts) = keeps_on n before d.steps (column first d c t).steps _ (column_keeps d c t) (columns_keep (column first d c t) cs ts)

  summed_keeps : (sum c : Draft) → Keeps n before c.steps (summed first sum c).steps
  summed_keeps sum c =
      let xs : List Step = c.steps ++ Pair either sum.at c.at ∷ [] in
      let ys : List Step = xs ++ Drop sum.at ∷ [] in
      keeps_on n before c.steps xs _ (keeps_front n before c.steps (Pair either sum.at c.at ∷ [])) (keeps_on n before xs ys _ (keeps_front n before xs (Drop sum.at ∷ [])) (keeps_front n before ys (Drop c.at ∷ [])))

  summed_gives : (sum c : Draft) (f g : ℕ → Bool) → Gives n before c.steps sum.at f → Gives n before c.steps c.at g → Gives n before (summed first sum c).steps (summed first sum c).at (λ p. f p || g p)
  summed_gives sum c f g a b =
      let xs : List Step = c.steps ++ Pair either sum.at c.at ∷ [] in
      let ys : List Step = xs ++ Drop sum.at ∷ [] in
      gives_still n before xs _ _ _ (keeps_on n before xs ys _ (keeps_front n before xs (Drop sum.at ∷ [])) (keeps_front n before ys (Drop c.at ∷ [])))
      (gives_same n before xs (first + length c.steps) (λ p. op_value either (f p) (g p)) (λ p. f p || g p) (λ p. either_is (f p) (g p)) (pair_gives n before first c.steps either sum.at c.at f g size a b))

  cube_keeps : (steps : List Step) (cs ts : List ℕ) → Keeps n before steps (cube first steps cs ts).steps
  cube_keeps steps cs ts = keeps_on n before steps (steps ++ Const true ∷ []) _ (keeps_front n before steps (Const true ∷ [])) (columns_keep (put first steps (Const true)) cs ts)

  row_keeps : (sum : Draft) (cs ts : List ℕ) → Keeps n before sum.steps (row first sum cs ts).steps
  row_keeps sum cs ts = keeps_on n before sum.steps (cube first sum.steps cs ts).steps _ (cube_keeps sum.steps cs ts) (summed_keeps sum (cube first sum.steps cs ts))

  rows_keep : (sum : Draft) (rs : List (List ℕ)) (ts : List ℕ) → Keeps n before sum.steps (rows first sum rs ts).steps
  rows_keep sum [] ts = keeps_itself n before sum.steps
  rows_keep sum (r ∷ rs) ts = keeps_on n before sum.steps (row first sum r ts).steps _ (row_keeps sum r ts) (rows_keep (row first sum r ts) rs ts)

  signed_keeps : (value : Bool) (sum : Draft) → Keeps n before sum.steps (signed first value sum).steps
  signed_keeps true sum = keeps_itself n before sum.steps
  signed_keeps false sum = join_keeps not_both sum sum.at

  pub block_keeps : (steps : List Step) (value : Bool) (rs : List (List ℕ)) (ts : List ℕ) → Keeps n before steps (block first steps value rs ts).steps
  block_keeps steps value rs ts =
      let start : Draft = put first steps (Const false) in
      keeps_on n before steps start.steps _ (keeps_front n before steps (Const false ∷ []))
      (keeps_on n before start.steps (rows first start rs ts).steps _ (rows_keep start rs ts) (signed_keeps value (rows first start rs ts)))

  -- the signals that a block reads, the numbers of their steps, and the values of these
  module _ (made : ℕ → ℕ) (value : ℕ → ℕ → Bool) where
    columns_give : (d : Draft) (cs es : List ℕ) (f : ℕ → Bool) → Gives n before d.steps d.at f → ((e : ℕ) → has es e ≡ true → Gives n before d.steps (made e) (value e))
        → Gives n before (columns first d cs (map made es)).steps (columns first d cs (map made es)).at (λ p. f p && covers cs (map (λ e. value e p) es))
    columns_give d [] es f a b = gives_same n before d.steps d.at f _ (λ p. and-true (f p)) a
    columns_give d (c ∷ cs) [] f a b = gives_same n before d.steps d.at f _ (λ p. and-true (f p)) a
    columns_give d (c ∷ cs) (e ∷ es) f a b =
        let next : Draft = column first d c (made e) in
        gives_same n before (columns first next cs (map made es)).steps (columns first next cs (map made es)).at _ _
        (λ p. and_and (f p) (holds c (value e p)) (covers cs (map (λ e. value e p) es)))
        (columns_give next cs es (λ p. f p && holds c (value e p)) (column_gives d c (made e) f (value e) a (b e (has_head e es)))
        (λ t h. gives_still n before d.steps next.steps (made t) (value t) (column_keeps d c (made e)) (b t (has_tail e es t h))))

    cube_gives : (steps : List Step) (cs es : List ℕ) → ((e : ℕ) → has es e ≡ true → Gives n before steps (made e) (value e))
        → Gives n before (cube first steps cs (map made es)).steps (cube first steps cs (map made es)).at (λ p. covers cs (map (λ e. value e p) es))
    cube_gives steps cs es b =
        columns_give (put first steps (Const true)) cs es (λ p. true) (const_gives n before first steps true size)
        (λ t h. gives_still n before steps (steps ++ Const true ∷ []) (made t) (value t) (keeps_front n before steps (Const true ∷ [])) (b t h))

    row_gives : (sum : Draft) (r es : List ℕ) (f : ℕ → Bool) → Gives n before sum.steps sum.at f → ((e : ℕ) → has es e ≡ true → Gives n before sum.steps (made e) (value e))
        → Gives n before (row first sum r (map made es)).steps (row first sum r (map made es)).at (λ p. f p || covers r (map (λ e. value e p) es))
    row_gives sum r es f a b =
        summed_gives sum (cube first sum.steps r (map made es)) f _ (gives_still n before sum.steps (cube first sum.steps r (map made es)).steps sum.at f (cube_keeps sum.steps r (map made es)) a) (cube_gives sum.steps r es b)

    rows_give : (sum : Draft) (rs : List (List ℕ)) (es : List ℕ) (f : ℕ → Bool) → Gives n before sum.steps sum.at f → ((e : ℕ) → has es e ≡ true → Gives n before sum.steps (made e) (value e))
        → Gives n before (rows first sum rs (map made es)).steps (rows first sum rs (map made es)).at (λ p. f p || list_any (λ r. covers r (map (λ e. value e p) es)) rs)
    rows_give sum [] es f a b = gives_same n before sum.steps sum.at f _ (λ p. or-false (f p)) a
    rows_give sum (r ∷ rs) es f a b =
        let next : Draft = row first sum r (map made es) in
        gives_same n before (rows first next rs (map made es)).steps (rows first next rs (map made es)).at _ _
        (λ p. or_or (f p) (covers r (map (λ e. value e p) es)) (list_any (λ r. covers r (map (λ e. value e p) es)) rs))
        (rows_give next rs es (λ p. f p || covers r (map (λ e. value e p) es)) (row_gives sum r es f a b)
        (λ t h. gives_still n before sum.steps next.steps (made t) (value t) (row_keeps sum r (map made es)) (b t h)))

    signed_gives : (output : Bool) (sum : Draft) (f : ℕ → Bool) → Gives n before sum.steps sum.at f → Gives n before (signed first output sum).steps (signed first output sum).at (λ p. cond (f p) output (not output))
    signed_gives true sum f a = gives_same n before sum.steps sum.at f _ (λ p. itself (f p)) a where
      itself : (b : Bool) → b ≡ cond b true false
      itself true = refl
      itself false = refl
    signed_gives false sum f a =
        gives_same n before (join first not_both sum sum.at).steps (join first not_both sum sum.at).at (λ p. op_value not_both (f p) (f p)) _ (λ p. not_both_is (f p)) (join_gives not_both sum sum.at f f a a)

    -- a block's steps give the values of its cover
    pub block_gives : (steps : List Step) (cover : Cover) (es : List ℕ) → ((e : ℕ) → has es e ≡ true → Gives n before steps (made e) (value e))
        → Gives n before (block first steps cover.value cover.rows (map made es)).steps (block first steps cover.value cover.rows (map made es)).at (λ p. cover_value cover (map (λ e. value e p) es))
    block_gives steps cover es b =
        let start : Draft = put first steps (Const false) in
        signed_gives cover.value (rows first start cover.rows (map made es)) _
        (rows_give start cover.rows es (λ p. false) (const_gives n before first steps false size)
        (λ t h. gives_still n before steps start.steps (made t) (value t) (keeps_front n before steps (Const false ∷ [])) (b t h)))
