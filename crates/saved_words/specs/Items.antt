-- The words of a value that can be spilled, and their laws.
use Rattle.std.specs.Prelude.{◌≡◌, ℕ, ◌-◌, ◌<◌, ◌≤◌, ◌^◌, List, ◌++◌, All, length, take, drop, replicate}
use Rattle.std.proofs.Common.{sym, ◌∙◌, arith}
use Rattle.std.proofs.lemmas.List.{length-take-le, take-append-drop}
use Rattle.std.proofs.lemmas.List.Elements.{All-take}
use Rattle.saved_words.specs.declared.item.Item.{Item}

-- the words that its type takes
abbrev pub item_words : {T : Type 0} → ℕ → (T → List ℕ) → Item T → List ℕ
item_words n words x = take n (words x.value)

-- it is a value
abbrev pub IsItem : {T : Type 0} → (T → Type 0) → Item T → Type 0
IsItem is_value x = is_value x.value

module _ {T : Type 0} (n : ℕ) (words : T → List ℕ) (is_value : T → Type 0) where
  pub item_long : (1 ≤ n) × (n ≤ 8) → ((x : T) → is_value x → length (words x) ≡ 8) → (x : Item T) → IsItem is_value x
      → length (item_words n words x) ≡ n
  item_long few eight x is =
      let long : length (words x.value) ≡ 8 = eight x.value is in
      let most : n ≤ 8 = few.1 in
      length-take-le n (words x.value) (omega (arith, long, most))

  pub item_fits : ((x : T) → is_value x → All (λ word. word < 2 ^ 64) (words x)) → (x : Item T) → IsItem is_value x
      → All (λ word. word < 2 ^ 64) (item_words n words x)
  item_fits fits x is = All-take (λ word. word < 2 ^ 64) n (words x.value) (fits x.value is)

  pub item_differs : ((x : T) → is_value x → drop n (words x) ≡ replicate (8 - n) 0)
      → ((x y : T) → is_value x → is_value y → words x ≡ words y → x ≡ y)
      → (x y : Item T) → IsItem is_value x → IsItem is_value y → item_words n words x ≡ item_words n words y → x ≡ y
  item_differs unused one x y a b same =
      let rest : drop n (words x.value) ≡ drop n (words y.value) = unused x.value a ∙ sym (unused y.value b) in
      let all : words x.value ≡ words y.value = sym (take-append-drop n (words x.value)) ∙ (λ i. same i ++ rest i)
      ∙ take-append-drop n (words y.value) in
      let value : x.value ≡ y.value = one x.value y.value a b all in
      λ i. record { value = value i }
