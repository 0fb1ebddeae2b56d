-- worked cases: each is computed
use Rattle.std.specs.Prelude.{◌≡◌, true, false, List, [], ◌∷◌}
use Rattle.std.proofs.Common.{refl}
use Rattle.bool_tables.specs.Tables.{same_bits, is_leq}
use Rattle.bool_tables.specs.Steps.{plan_tables, step_table, eval_at}
use Rattle.bool_tables.specs.Plans.{all_may_follow}
use Rattle.bool_tables.specs.declared.steps.Bin.{Bin}
use Rattle.bool_tables.specs.declared.steps.Quant.TheVariants.{Exists, Forall}
use Rattle.bool_tables.specs.declared.steps.Step.{Step}
use Rattle.bool_tables.specs.declared.steps.Step.TheVariants.{Const, Var, Pair, Ite, Quantify, Restrict, Drop, Same, Eval, Size}
use Rattle.bool_tables.specs.declared.steps.Planned.{Planned}

-- of two variables the second is 0, 1, 0, 1 over the four places
second_variable : step_table 2 [] (Var 1) ≡ false ∷ true ∷ false ∷ true ∷ []
second_variable = refl

-- and the first is 0, 0, 1, 1
first_variable : step_table 2 [] (Var 0) ≡ false ∷ false ∷ true ∷ true ∷ []
first_variable = refl

-- with no variable there is one place
constant : step_table 0 [] (Const true) ≡ true ∷ []
constant = refl

-- a step without a name
abbrev unnamed : Step → Planned
unnamed s = record { step = s; name_at = 0; name_len = 0 }

abbrev xor : Bin
xor = record { v00 = false; v01 = true; v10 = true; v11 = false }

abbrev and : Bin
and = record { v00 = false; v01 = false; v10 = false; v11 = true }

-- three variables a, b and c; b and c; if a then b and c else c; that for some a and for each a; and the latter for a = 1
abbrev choice_plan : List Planned
choice_plan =
    unnamed (Var 0) ∷ unnamed (Var 1) ∷ unnamed (Var 2) ∷ unnamed (Pair and 1 2) ∷ unnamed (Ite 0 3 2)
    ∷ unnamed (Quantify Exists 4 0) ∷ unnamed (Quantify Forall 4 0) ∷ unnamed (Restrict 4 0 true)
    ∷ unnamed (Same 5 2) ∷ unnamed (Drop 0) ∷ []

choice_tables : plan_tables 3 choice_plan ≡
    (false ∷ false ∷ false ∷ false ∷ true ∷ true ∷ true ∷ true ∷ [])
    ∷ (false ∷ false ∷ true ∷ true ∷ false ∷ false ∷ true ∷ true ∷ [])
    ∷ (false ∷ true ∷ false ∷ true ∷ false ∷ true ∷ false ∷ true ∷ [])
    ∷ (false ∷ false ∷ false ∷ true ∷ false ∷ false ∷ false ∷ true ∷ [])
    ∷ (false ∷ true ∷ false ∷ true ∷ false ∷ false ∷ false ∷ true ∷ [])
    ∷ (false ∷ true ∷ false ∷ true ∷ false ∷ true ∷ false ∷ true ∷ [])
    ∷ (false ∷ false ∷ false ∷ true ∷ false ∷ false ∷ false ∷ true ∷ [])
    ∷ (false ∷ false ∷ false ∷ true ∷ false ∷ false ∷ false ∷ true ∷ [])
    ∷ [] ∷ [] ∷ []
choice_tables = refl

-- the plan is well formed
choice_is_allowed : all_may_follow 3 [] [] choice_plan ≡ true
choice_is_allowed = refl

-- a dropped diagram is not named again, an answer has no diagram, and a level is below the number of variables
dropped_operand : all_may_follow 1 [] [] (unnamed (Var 0) ∷ unnamed (Drop 0) ∷ unnamed (Size 0) ∷ []) ≡ false
dropped_operand = refl

answer_as_operand : all_may_follow 1 [] [] (unnamed (Var 0) ∷ unnamed (Size 0) ∷ unnamed (Size 1) ∷ []) ≡ false
answer_as_operand = refl

level_too_deep : all_may_follow 1 [] [] (unnamed (Var 1) ∷ []) ≡ false
level_too_deep = refl

-- a or b, but not both, has the value 1 where a is 1 and b is 0, which the text says by `10` from its second byte on
xor_at : eval_at 2 (32 ∷ 49 ∷ 48 ∷ 10 ∷ []) (false ∷ true ∷ true ∷ false ∷ []) 1 ≡ true
xor_at = refl

bits_in_text : all_may_follow 2 (32 ∷ 49 ∷ 48 ∷ 10 ∷ []) [] (unnamed (Var 0) ∷ unnamed (Eval 0 1) ∷ []) ≡ true
bits_in_text = refl

no_bits_in_text : all_may_follow 2 (32 ∷ 49 ∷ 48 ∷ 10 ∷ []) [] (unnamed (Var 0) ∷ unnamed (Eval 0 2) ∷ []) ≡ false
no_bits_in_text = refl

leq_holds : is_leq (false ∷ true ∷ []) (true ∷ true ∷ []) ≡ true
leq_holds = refl

leq_fails : is_leq (true ∷ true ∷ []) (false ∷ true ∷ []) ≡ false
leq_fails = refl

same_fails : same_bits (true ∷ true ∷ []) (false ∷ true ∷ []) ≡ false
same_fails = refl
