-- what a quantifier says of two pointers
use Rattle.std.specs.Prelude.{◌≡◌, ◌≤◌, nat_le, ℕ, Bool, true, false, cond}
use Rattle.std.proofs.Common.{refl, sym, ◌∙◌, ap, subst, true≢false, arith}
use Rattle.std.proofs.lemmas.Bool.Decides.{nat_tests}
use Rattle.bool_tables.specs.Tables.{same_bit}
use Rattle.bool_tables.specs.declared.steps.Quant.{Quant}
use Rattle.rec_words.specs.Words.{level_of}
use Rattle.arc_diagrams.proofs.TargetLaws.{bit_same}
use Rattle.top_down.specs.declared.tuple.Tuple.{Tuple}
use Rattle.top_down.specs.declared.tuple.Goal.{Goal}
use Rattle.top_down.specs.declared.tuple.Goal.TheVariants.{End, Go}
use Rattle.top_down.specs.Tuples.{level_of_tuple}
use Rattle.top_down.specs.Operations.{is_end, is_one, ends_or, two, strong, sorted, quantify_goal}
use Rattle.top_down.proofs.GoalLaws.{go_tuple, end_go}

-- the pointer is a truth value that doesn't decide the quantifier
pub record IsWeak (kind : Quant) (w : ℕ) : Type 0 where
  pub ended : is_end w ≡ true
  pub other : same_bit (is_one w) (strong kind) ≡ false

-- two values that differ from a third are the same
bits_other : (b c s : Bool) → same_bit b s ≡ false → same_bit c s ≡ false → b ≡ c
bits_other true true s e f = refl
bits_other true false true e f = absurd (true≢false e)
bits_other true false false e f = absurd (true≢false f)
bits_other false true true e f = absurd (true≢false f)
bits_other false true false e f = absurd (true≢false e)
bits_other false false s e f = refl

-- the order of two pointers doesn't tell in which they are sorted
sorted_swap : (a b : ℕ) → sorted (two a b) ≡ sorted (two b a)
sorted_swap a b = by (nat_le a b) (nat_le b a) refl refl
  where
    by : (c d : Bool) → nat_le a b ≡ c → nat_le b a ≡ d → cond c (two a b) (two b a) ≡ cond d (two b a) (two a b)
    by true true e f = let same : a ≡ b = grind (arith, nat_tests) in λ j. two (same j) (sym same j)
    by true false e f = refl
    by false true e f = refl
    by false false e f = absurd (grind (arith, nat_tests))

-- a pointer that stands twice is in order
sorted_twice : (a : ℕ) → sorted (two a a) ≡ two a a
sorted_twice a = by (nat_le a a)
  where
    by : (c : Bool) → cond c (two a a) (two a a) ≡ two a a
    by true = refl
    by false = refl

-- what is said of two pointers, where the tests are known
abbrev says_of : Quant → Bool → Bool → Bool → Bool → ℕ → ℕ → Goal
says_of kind first decides second other a b =
    cond first (cond decides (End (strong kind)) (cond second (End (is_one b)) (Go (two b b))))
    (cond second (cond other (End (strong kind)) (Go (two a a))) (Go (sorted (two a b))))

-- it is the same of both orders
pub goal_swap : (kind : Quant) (a b : ℕ) → quantify_goal kind (two a b) ≡ quantify_goal kind (two b a)
goal_swap kind a b =
    by (is_end a) (same_bit (is_one a) (strong kind)) (is_end b) (same_bit (is_one b) (strong kind)) refl refl
  where
    by : (first decides second other : Bool) → same_bit (is_one a) (strong kind) ≡ decides
        → same_bit (is_one b) (strong kind) ≡ other
        → says_of kind first decides second other a b ≡ says_of kind second other first decides b a
    by true true true true e f = refl
    by true true true false e f = ap End (sym (bit_same (is_one a) (strong kind) e))
    by true false true true e f = ap End (bit_same (is_one b) (strong kind) f)
    by true false true false e f = ap End (bits_other (is_one b) (is_one a) (strong kind) f e)
    by true true false other e f = refl
    by true false false other e f = refl
    by false decides true true e f = refl
    by false decides true false e f = refl
    by false decides false other e f = ap Go (sorted_swap a b)

-- of one pointer twice, where the tests are known
abbrev says_twice : Quant → Bool → Bool → ℕ → Goal
says_twice kind first decides a = says_of kind first decides first decides a a

-- a weak truth value leaves the other pointer alone, as one that stands twice
pub goal_weak : (kind : Quant) (w c : ℕ) → IsWeak kind w
    → quantify_goal kind (two w c) ≡ quantify_goal kind (two c c)
goal_weak kind w c weak =
    (λ j. cond (weak.ended j)
    (cond (weak.other j) (End (strong kind)) (ends_or c (two c c)))
    (cond (is_end c) (cond (same_bit (is_one c) (strong kind)) (End (strong kind)) (Go (two w w)))
    (Go (sorted (two w c)))))
    ∙ by (is_end c) (same_bit (is_one c) (strong kind)) refl
  where
    by : (first decides : Bool) → same_bit (is_one c) (strong kind) ≡ decides
        → cond first (End (is_one c)) (Go (two c c)) ≡ says_twice kind first decides c
    by true true e = ap End (bit_same (is_one c) (strong kind) e)
    by true false e = refl
    by false decides e = ap Go (sym (sorted_twice c))

-- so it does where it stands second
pub goal_weak_second : (kind : Quant) (c w : ℕ) → IsWeak kind w
    → quantify_goal kind (two c w) ≡ quantify_goal kind (two c c)
goal_weak_second kind c w weak = goal_swap kind c w ∙ goal_weak kind w c weak

-- which tuple is asked for of two pointers
pub data Asks (kind : Quant) (a b : ℕ) (x : Tuple) : Type 0 where
  LeavesSecond : (weak : IsWeak kind a) → (same : two b b ≡ x) → Asks kind a b x
  LeavesFirst : (weak : IsWeak kind b) → (same : two a a ≡ x) → Asks kind a b x
  InOrder : (same : two a b ≡ x) → Asks kind a b x
  Swapped : (same : two b a ≡ x) → Asks kind a b x

-- what is asked for is one of these
pub goal_asks : (kind : Quant) (a b : ℕ) (x : Tuple) → quantify_goal kind (two a b) ≡ Go x → Asks kind a b x
goal_asks kind a b x says =
    by (is_end a) (same_bit (is_one a) (strong kind)) (is_end b) (same_bit (is_one b) (strong kind)) refl refl refl refl
    says
  where
    in_order : (c : Bool) → Go (cond c (two a b) (two b a)) ≡ Go x → Asks kind a b x
    in_order true says = InOrder (go_tuple (two a b) x says)
    in_order false says = Swapped (go_tuple (two b a) x says)

    by : (first decides second other : Bool) → is_end a ≡ first → same_bit (is_one a) (strong kind) ≡ decides
        → is_end b ≡ second → same_bit (is_one b) (strong kind) ≡ other
        → says_of kind first decides second other a b ≡ Go x → Asks kind a b x
    by true true second other ended decided e f says = absurd (end_go (strong kind) x says)
    by true false true other ended decided e f says = absurd (end_go (is_one b) x says)
    by true false false other ended decided e f says =
        LeavesSecond (record { ended = ended; other = decided }) (go_tuple (two b b) x says)
    by false decides true true e f ended decided says = absurd (end_go (strong kind) x says)
    by false decides true false e f ended decided says =
        LeavesFirst (record { ended = ended; other = decided }) (go_tuple (two a a) x says)
    by false decides false other e f ended decided says = in_order (nat_le a b) says

-- one pointer twice is asked for itself
pub asks_twice : (kind : Quant) (a : ℕ) (x : Tuple) → quantify_goal kind (two a a) ≡ Go x → two a a ≡ x
asks_twice kind a x says = elim (goal_asks kind a a x says) [
  | LeavesSecond weak same ↦ same
  | LeavesFirst weak same ↦ same
  | InOrder same ↦ same
  | Swapped same ↦ same
]

-- of two truth values nothing is asked
pub ends_ask_nothing : (kind : Quant) (a b : ℕ) (x : Tuple) → is_end a ≡ true → is_end b ≡ true
    → quantify_goal kind (two a b) ≡ Go x → ⊥
ends_ask_nothing kind a b x first second says =
    by (same_bit (is_one a) (strong kind))
    (sym (λ j. says_of kind (first j) (same_bit (is_one a) (strong kind)) (second j)
    (same_bit (is_one b) (strong kind)) a b) ∙ says)
  where
    by : (decides : Bool) → says_of kind true decides true (same_bit (is_one b) (strong kind)) a b ≡ Go x → ⊥
    by true says = end_go (strong kind) x says
    by false says = end_go (is_one b) x says

-- the tuple that is asked for has the level of the two pointers
pub asked_level : (kind : Quant) (a b : ℕ) (x : Tuple) → quantify_goal kind (two a b) ≡ Go x
    → level_of_tuple x ≡ level_of_tuple (two a b)
asked_level kind a b x says = elim (goal_asks kind a b x says) [
  | LeavesSecond weak same ↦
      let deep : 65536 ≤ level_of a = end_deep a weak.ended in
      let level : level_of_tuple (two b b) ≡ level_of_tuple (two a b) = omega arith in
      sym (ap level_of_tuple same) ∙ level
  | LeavesFirst weak same ↦
      let deep : 65536 ≤ level_of b = end_deep b weak.ended in
      let level : level_of_tuple (two a a) ≡ level_of_tuple (two a b) = omega arith in
      sym (ap level_of_tuple same) ∙ level
  | InOrder same ↦ sym (ap level_of_tuple same)
  | Swapped same ↦
      let level : level_of_tuple (two b a) ≡ level_of_tuple (two a b) = omega arith in
      sym (ap level_of_tuple same) ∙ level
]
  where
    end_deep : (w : ℕ) → is_end w ≡ true → 65536 ≤ level_of w
    end_deep w e = grind (arith, nat_tests)

-- where f moves no truth value, what is made of the tuple that is asked for, both pointers moved, is what is made of
-- the two pointers moved
pub goal_moved : (kind : Quant) (f : ℕ → ℕ) (a b : ℕ) (x : Tuple) → ((w : ℕ) → is_end w ≡ true → f w ≡ w)
    → quantify_goal kind (two a b) ≡ Go x
    → quantify_goal kind (two (f x.first) (f x.second)) ≡ quantify_goal kind (two (f a) (f b))
goal_moved kind f a b x stays says = elim (goal_asks kind a b x says) [
  | LeavesSecond weak same ↦
      moved b b same
      ∙ sym (goal_weak kind (f a) (f b) (kept a weak))
  | LeavesFirst weak same ↦
      moved a a same
      ∙ sym (goal_weak_second kind (f a) (f b) (kept b weak))
  | InOrder same ↦ moved a b same
  | Swapped same ↦ moved b a same ∙ goal_swap kind (f b) (f a)
]
  where
    moved : (c d : ℕ) → two c d ≡ x
        → quantify_goal kind (two (f x.first) (f x.second)) ≡ quantify_goal kind (two (f c) (f d))
    moved c d same = λ j. quantify_goal kind (two (f (sym same j).first) (f (sym same j).second))

    kept : (w : ℕ) → IsWeak kind w → IsWeak kind (f w)
    kept w weak = subst (IsWeak kind) (sym (stays w weak.ended)) weak

-- it is made of two pointers
pub asks_two : (kind : Quant) (a b : ℕ) (x : Tuple) → quantify_goal kind (two a b) ≡ Go x → two x.first x.second ≡ x
asks_two kind a b x says = elim (goal_asks kind a b x says) [
  | LeavesSecond weak same ↦ of b b same
  | LeavesFirst weak same ↦ of a a same
  | InOrder same ↦ of a b same
  | Swapped same ↦ of b a same
]
  where
    of : (c d : ℕ) → two c d ≡ x → two x.first x.second ≡ x
    of c d same = (λ j. two (sym same j).first (sym same j).second) ∙ same
