-- The step that a line asks for may follow the steps before it.
use Rattle.std.proofs.Common.{◌≡◌, ℕ, zero, suc, ◌+◌, ◌<◌, Bool, true, false, List, [], ◌∷◌, length, take, drop, refl, sym, ap, subst, ◌∙◌, arith}
use Rattle.std.specs.Prelude.{Result, Ok, Err, ◌&&◌, ◌||◌, ◌==◌, nat_le, nat_lt, if◌then◌else◌}
use Rattle.std.specs.List.{AllByRecursion, list_all}
use Rattle.std.proofs.lemmas.Bool.{and_from, and_parts, lt-ltb, le-leb, eqb-true}
use Rattle.bool_tables.specs.Plans.{makes_diagram, is_live, operands, levels_of, has_bits, is_bit}
use Rattle.bool_tables.specs.declared.steps.Planned.{Planned}
use Rattle.bool_tables.specs.declared.steps.Step.{Step}
use Rattle.bool_tables.specs.declared.steps.Step.TheVariants as step
use Rattle.text_words.specs.Text.{Word}
use Rattle.text_words.specs.Places.{StandsIn}
use Rattle.script_reader.specs.declared.fault.ScriptKind.{ScriptKind}
use Rattle.script_reader.specs.declared.fault.ScriptKind.TheVariants as kind
use Rattle.script_reader.specs.declared.keyword.Keyword.{Keyword}
use Rattle.script_reader.specs.declared.keyword.Keyword.TheVariants.{Vars, Inputs, Const, Var, Not, Pair, Ite, Quantify, Restrict, Net, Drop, Same, Leq, Eval, Size}
use Rattle.script_reader.specs.Results.{◌>>=◌, check}
use Rattle.script_reader.specs.Keywords.{word_at, is_formed, gives_name}
use Rattle.script_reader.specs.Names.{State, live, level_of}
use Rattle.script_reader.specs.Requests.{are_bits, bits_in, bits_at, step_of}

-- what follows was asked of an answer without a fault
pub then_ok : {A B P : Type 0} (r : Result A ScriptKind) (f : A → Result B ScriptKind) (y : B) → (r >>= f) ≡ Ok y → ((x : A) → r ≡ Ok x → f x ≡ Ok y → P) → P
then_ok (Err fault) f y e next = absurd cc
then_ok (Ok x) f y e next = next x refl e

-- a test passed
pub passed : (fault : ScriptKind) (b : Bool) → check fault b ≡ Ok tt → b ≡ true
passed fault true e = refl
passed fault false e = absurd cc

abbrev pub is_ok : {A : Type 0} → A → Result A ScriptKind
is_ok x = Ok x

pub same_ok : {A : Type 0} (x y : A) → is_ok x ≡ Ok y → x ≡ y
same_ok x y e = cc

gone_is : (a b : ℕ) → step.Drop a ≡ step.Drop b → a ≡ b
gone_is a b e = cc

-- each word of a line, by its place, stands in the text; and so does the word that isn't there
pub word_stands : (text : List ℕ) (words : List Word) (k : ℕ) → AllByRecursion (λ (w : Word). StandsIn text w.at w.bytes) words → StandsIn text (word_at k words).at (word_at k words).bytes
word_stands text [] k all = record { within = omega arith; same = refl }
word_stands text (w ∷ words) zero all = all.0
word_stands text (w ∷ words) (suc k) all = word_stands text words k all.1

-- what the steps so far and the text allow
pub record Allows (text : List ℕ) (s : State) (words : List Word) : Type 0 where
  pub live : (name : Word) (number : ℕ) → live s name ≡ Ok number → is_live s.steps number ≡ true
  pub level : (name : Word) (level : ℕ) → level_of s name ≡ Ok level → level < s.n
  pub stand : AllByRecursion (λ (w : Word). StandsIn text w.at w.bytes) words

-- the step names live diagrams, levels of variables, and bits that stand in the text; where its line gives a name it makes
-- a diagram, and a dropped diagram is that of the line's second word
pub record Follows (text : List ℕ) (s : State) (k : Keyword) (words : List Word) (made : Step) : Type 0 where
  pub operands_live : list_all (is_live s.steps) (operands made) ≡ true
  pub levels_below : list_all (λ (level : ℕ). nat_lt level s.n) (levels_of made) ≡ true
  pub bits_stand : has_bits s.n text made ≡ true
  pub makes : gives_name k ≡ true → makes_diagram made ≡ true
  pub drops_word : (gone : ℕ) → made ≡ step.Drop gone → live s (word_at 1 words) ≡ Ok gone

one_live : (steps : List Planned) (a : ℕ) → is_live steps a ≡ true → list_all (is_live steps) (a ∷ []) ≡ true
one_live steps a x = and_from _ _ x refl

two_live : (steps : List Planned) (a b : ℕ) → is_live steps a ≡ true → is_live steps b ≡ true → list_all (is_live steps) (a ∷ b ∷ []) ≡ true
two_live steps a b x y = and_from _ _ x (one_live steps b y)

one_below : (n level : ℕ) → level < n → list_all (λ (level : ℕ). nat_lt level n) (level ∷ []) ≡ true
one_below n level below = and_from _ _ (lt-ltb _ _ below) refl

-- the bits of a word stand in the text
bits_of : (text : List ℕ) (n : ℕ) (w : Word) (at : ℕ) → StandsIn text w.at w.bytes → bits_in n w ≡ Ok at → (nat_le (at + n) (length text) && list_all is_bit (take n (drop at text))) ≡ true
bits_of text n w at stands e = by (are_bits n w) refl
  where
    by : (b : Bool) → are_bits n w ≡ b → (nat_le (at + n) (length text) && list_all is_bit (take n (drop at text))) ≡ true
    by false other = let wrong = sym (ap (λ b. if b then Ok w.at else Err kind.Bits) other) ∙ e in absurd cc
    by true are_so =
        let p = and_parts (length w.bytes == n) (list_all is_bit w.bytes) are_so in
        let count : length w.bytes ≡ n = eqb-true _ _ p.0 in
        let place : w.at ≡ at = same_ok _ _ (sym (ap (λ b. if b then Ok w.at else Err kind.Bits) are_so) ∙ e) in
        let are : take n (drop at text) ≡ w.bytes = sym (ap (λ k. take k (drop at text)) count) ∙ sym (ap (λ k. take (length w.bytes) (drop k text)) place) ∙ stands.same in
        and_from _ _ (le-leb _ _ (omega (arith, stands.within, count, place))) (ap (list_all is_bit) are ∙ p.1)

-- and so do those of an evaluation; where they are left out there is no variable
bits_follow : (text : List ℕ) (s : State) (begun : Bool) (words : List Word) (of at : ℕ) → AllByRecursion (λ (w : Word). StandsIn text w.at w.bytes) words → is_formed begun s.n Eval words ≡ true → bits_at s.n words ≡ Ok at
    → has_bits s.n text (step.Eval of at) ≡ true
bits_follow text s begun words of at all formed e = by (length words == 3) refl
  where
    by : (b : Bool) → (length words == 3) ≡ b → has_bits s.n text (step.Eval of at) ≡ true
    by true three =
        bits_of text s.n (word_at 2 words) at (word_stands text words 2 all)
        (sym (ap (λ b. if b then bits_in s.n (word_at 2 words) else Ok 0) three) ∙ e)
    by false other =
        let place : 0 ≡ at = same_ok _ _ (sym (ap (λ b. if b then bits_in s.n (word_at 2 words) else Ok 0) other) ∙ e) in
        let left : ((length words == 2) && (s.n == 0)) ≡ true = sym (ap (λ b. b || ((length words == 2) && (s.n == 0))) other) ∙ formed in
        let none : s.n ≡ 0 = eqb-true _ _ (and_parts (length words == 2) (s.n == 0) left).1 in
        and_from _ _ (le-leb _ _ (omega (arith, none, place))) (ap (λ k. list_all is_bit (take k (drop at text))) none)

-- the step of a line follows
pub step_follows : (text : List ℕ) (s : State) (begun : Bool) (k : Keyword) (words : List Word) (made : Step) → Allows text s words → is_formed begun s.n k words ≡ true → step_of s k words ≡ Ok made → Follows text s k words made
step_follows text s begun Vars words made a formed e = absurd cc
step_follows text s begun Inputs words made a formed e = absurd cc
step_follows text s begun Net words made a formed e = absurd cc
step_follows text s begun Const words made a formed e =
    subst (Follows text s Const words) (same_ok _ _ e) (record { operands_live = refl; levels_below = refl; bits_stand = refl; makes = λ h. refl; drops_word = λ number same. absurd cc })
step_follows text s begun Var words made a formed e =
    then_ok (level_of s (word_at 2 words)) _ made e (λ level is rest.
    subst (Follows text s Var words) (same_ok _ _ rest)
    (record { operands_live = refl; levels_below = one_below s.n level (a.level (word_at 2 words) level is); bits_stand = refl; makes = λ h. refl; drops_word = λ number same. absurd cc }))
step_follows text s begun Not words made a formed e =
    then_ok (live s (word_at 2 words)) _ made e (λ of is rest.
    let x = a.live (word_at 2 words) of is in
    subst (Follows text s Not words) (same_ok _ _ rest)
    (record { operands_live = two_live s.steps of of x x; levels_below = refl; bits_stand = refl; makes = λ h. refl; drops_word = λ number same. absurd cc }))
step_follows text s begun (Pair operator) words made a formed e =
    then_ok (live s (word_at 2 words)) _ made e (λ left is_left more.
    then_ok (live s (word_at 3 words)) _ made more (λ right is_right rest.
    subst (Follows text s (Pair operator) words) (same_ok _ _ rest)
    (record { operands_live = two_live s.steps left right (a.live (word_at 2 words) left is_left) (a.live (word_at 3 words) right is_right); levels_below = refl; bits_stand = refl; makes = λ h. refl; drops_word = λ number same. absurd cc })))
step_follows text s begun Ite words made a formed e =
    then_ok (live s (word_at 2 words)) _ made e (λ test is_test more.
    then_ok (live s (word_at 3 words)) _ made more (λ if_one is_one last.
    then_ok (live s (word_at 4 words)) _ made last (λ if_zero is_zero rest.
    subst (Follows text s Ite words) (same_ok _ _ rest)
    (record { operands_live = and_from _ _ (a.live (word_at 2 words) test is_test) (two_live s.steps if_one if_zero (a.live (word_at 3 words) if_one is_one) (a.live (word_at 4 words) if_zero is_zero)); levels_below = refl; bits_stand = refl; makes = λ h. refl; drops_word = λ number same. absurd cc }))))
step_follows text s begun (Quantify quant) words made a formed e =
    then_ok (live s (word_at 2 words)) _ made e (λ of is_of more.
    then_ok (level_of s (word_at 3 words)) _ made more (λ level is rest.
    subst (Follows text s (Quantify quant) words) (same_ok _ _ rest)
    (record { operands_live = one_live s.steps of (a.live (word_at 2 words) of is_of); levels_below = one_below s.n level (a.level (word_at 3 words) level is); bits_stand = refl; makes = λ h. refl; drops_word = λ number same. absurd cc })))
step_follows text s begun Restrict words made a formed e =
    then_ok (live s (word_at 2 words)) _ made e (λ of is_of more.
    then_ok (level_of s (word_at 3 words)) _ made more (λ level is rest.
    subst (Follows text s Restrict words) (same_ok _ _ rest)
    (record { operands_live = one_live s.steps of (a.live (word_at 2 words) of is_of); levels_below = one_below s.n level (a.level (word_at 3 words) level is); bits_stand = refl; makes = λ h. refl; drops_word = λ number same. absurd cc })))
step_follows text s begun Drop words made a formed e =
    then_ok (live s (word_at 1 words)) _ made e (λ gone is rest.
    subst (Follows text s Drop words) (same_ok _ _ rest)
    (record { operands_live = one_live s.steps gone (a.live (word_at 1 words) gone is); levels_below = refl; bits_stand = refl; makes = λ h. absurd cc; drops_word = λ number same. is ∙ ap Ok (gone_is gone number same) }))
step_follows text s begun Same words made a formed e =
    then_ok (live s (word_at 1 words)) _ made e (λ left is_left more.
    then_ok (live s (word_at 2 words)) _ made more (λ right is_right rest.
    subst (Follows text s Same words) (same_ok _ _ rest)
    (record { operands_live = two_live s.steps left right (a.live (word_at 1 words) left is_left) (a.live (word_at 2 words) right is_right); levels_below = refl; bits_stand = refl; makes = λ h. absurd cc; drops_word = λ number same. absurd cc })))
step_follows text s begun Leq words made a formed e =
    then_ok (live s (word_at 1 words)) _ made e (λ left is_left more.
    then_ok (live s (word_at 2 words)) _ made more (λ right is_right rest.
    subst (Follows text s Leq words) (same_ok _ _ rest)
    (record { operands_live = two_live s.steps left right (a.live (word_at 1 words) left is_left) (a.live (word_at 2 words) right is_right); levels_below = refl; bits_stand = refl; makes = λ h. absurd cc; drops_word = λ number same. absurd cc })))
step_follows text s begun Eval words made a formed e =
    then_ok (live s (word_at 1 words)) _ made e (λ of is_of more.
    then_ok (bits_at s.n words) _ made more (λ at is rest.
    subst (Follows text s Eval words) (same_ok _ _ rest)
    (record { operands_live = one_live s.steps of (a.live (word_at 1 words) of is_of); levels_below = refl; bits_stand = bits_follow text s begun words of at a.stand formed is; makes = λ h. absurd cc; drops_word = λ number same. absurd cc })))
step_follows text s begun Size words made a formed e =
    then_ok (live s (word_at 1 words)) _ made e (λ of is rest.
    subst (Follows text s Size words) (same_ok _ _ rest)
    (record { operands_live = one_live s.steps of (a.live (word_at 1 words) of is); levels_below = refl; bits_stand = refl; makes = λ h. absurd cc; drops_word = λ number same. absurd cc }))
