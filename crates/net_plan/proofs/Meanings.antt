-- The steps of signals make their tables.
use Rattle.std.proofs.Common.{◌≡◌, ⊎_elim, ℕ, suc, ◌+◌, ◌<◌, ◌^◌, Bool, true, List, [], ◌∷◌, ◌++◌, length, get_or, take, map, set, nat_lt, refl, sym, ap, ◌∙◌, subst, arith, append_assoc}
use Rattle.std.proofs.Math.ListN.{length-set, length-replicate}
use Rattle.std.proofs.lemmas.Bool.{cond_both, cases_eq, ltb-true, ltb-false, true≢false}
use Rattle.std.proofs.lemmas.List.{append-nil, get_or-map, get_or-set_same, get_or-set_other}
use Rattle.std.specs.List.{flat_map}
use Rattle.depth_first.specs.Graph.{edges_of, has, visits, IsTopological}
use Rattle.depth_first.proofs.Frames.{has_other}
use Rattle.depth_first.proofs.Searches.{has_where}
use Rattle.blif_reader.specs.Netlist.{Net, IsNet, IsBlock, cover_at}
use Rattle.bool_tables.specs.Tables.{value_at}
use Rattle.bool_tables.specs.Steps.{tables_after}
use Rattle.bool_tables.specs.declared.steps.Step.{Step}
use Rattle.bool_tables.specs.declared.steps.Step.TheVariants.{Var}
use Rattle.net_plan.specs.Covers.{Draft, put, block}
use Rattle.net_plan.specs.Plan.{Planning, signal_draft, with_signal, make_signals, drop_one, no_plan, made_signals, plan_steps, plan_made}
use Rattle.net_plan.specs.Values.{HasValue, IsTableOf, MakeTables, inputs_at}
use Rattle.net_plan.proofs.Tables.{table, table_named, Gives, Keeps, keeps_front, put_gives}
use Rattle.net_plan.proofs.Blocks.{block_keeps, block_gives}
use Rattle.net_plan.proofs.Visits.{roots_visited}

-- the step with a number makes the table of a signal
pub record IsSignal (n : ℕ) (before : List (List Bool)) (net : Net) (levels : List ℕ) (steps : List Step) (k s : ℕ) : Type 0 where
  pub inside : k < length before + length steps
  pub is_table : IsTableOf n net levels s (table n before steps k)

-- each signal that was seen has its number
pub record IsPlanning (n : ℕ) (before : List (List Bool)) (net : Net) (levels : List ℕ) (p : Planning) (seen : List ℕ) : Type 0 where
  pub size : length p.made ≡ length net.names
  pub signals : (s : ℕ) → has seen s ≡ true → IsSignal n before net levels p.steps (get_or p.made s 0) s

-- the steps of one signal keep those before, and the last of them makes its table
pub record IsSignalDraft (n : ℕ) (before : List (List Bool)) (net : Net) (levels : List ℕ) (steps : List Step) (s : ℕ) (d : Draft) : Type 0 where
  pub keeps : Keeps n before steps d.steps
  pub signal : IsSignal n before net levels d.steps d.at s

module _ (n : ℕ) (before : List (List Bool)) (net : Net) (levels : List ℕ) (first : ℕ) (size : length before ≡ first) where
  signal_still : (xs ys : List Step) (k s : ℕ) → Keeps n before xs ys → IsSignal n before net levels xs k s → IsSignal n before net levels ys k s
  signal_still xs ys k s keeps is = record {
    inside = omega (arith, keeps.longer, is.inside);
    is_table = subst (IsTableOf n net levels s) (sym (keeps.same k is.inside)) is.is_table;
  }

  -- a step gives the values of a signal
  gives_signal : (steps : List Step) (k s : ℕ) (value : ℕ → Bool) → Gives n before steps k value → ((p : ℕ) → p < 2 ^ n → HasValue net (inputs_at n levels p) s (value p)) → IsSignal n before net levels steps k s
  gives_signal steps k s value g has_value = record {
    inside = g.inside;
    is_table = record { size = g.size; values = λ p b. subst (HasValue net (inputs_at n levels p) s) (sym (g.values p b)) (has_value p b) };
  }

  input_signal : (p : Planning) (s : ℕ) → s < net.inputs → IsSignalDraft n before net levels p.steps s (put first p.steps (Var (get_or levels s 0)))
  input_signal p s b = record {
    keeps = keeps_front n before p.steps (Var (get_or levels s 0) ∷ []);
    signal = gives_signal (p.steps ++ Var (get_or levels s 0) ∷ []) (first + length p.steps) s _ (put_gives n before first p.steps (Var (get_or levels s 0)) size refl) (λ q c. HasValue.input s b);
  }

  block_signal : (p : Planning) (seen : List ℕ) (s : ℕ) → IsBlock net s → IsPlanning n before net levels p seen → ((t : ℕ) → has (edges_of net.edges s) t ≡ true → has seen t ≡ true)
      → IsSignalDraft n before net levels p.steps s (block first p.steps (cover_at net s).value (cover_at net s).rows (map (λ t. get_or p.made t 0) (edges_of net.edges s)))
  block_signal p seen s b is reads =
      let value : ℕ → ℕ → Bool = λ t q. value_at (table n before p.steps (get_or p.made t 0)) q in
      record {
        keeps = block_keeps n before first size p.steps (cover_at net s).value (cover_at net s).rows (map (λ t. get_or p.made t 0) (edges_of net.edges s));
        signal = gives_signal _ _ s _
            (block_gives n before first size (λ t. get_or p.made t 0) value p.steps (cover_at net s) (edges_of net.edges s)
            (λ t h. record { inside = (is.signals t (reads t h)).inside; size = (is.signals t (reads t h)).is_table.size; values = λ q c. refl }))
            (λ q c. HasValue.block s (λ t. value t q) b (λ t h. (is.signals t (reads t h)).is_table.values q c));
      }

  signal_drafted : (p : Planning) (seen : List ℕ) (s : ℕ) → s < length net.names → IsPlanning n before net levels p seen → ((t : ℕ) → has (edges_of net.edges s) t ≡ true → has seen t ≡ true)
      → IsSignalDraft n before net levels p.steps s (signal_draft net levels first p s)
  signal_drafted p seen s inside is reads =
      cond_both (nat_lt s net.inputs) _ _ (IsSignalDraft n before net levels p.steps s)
      (λ e. input_signal p s (ltb-true s net.inputs e))
      (λ e. block_signal p seen s (record { behind = ltb-false s net.inputs e; inside = inside }) is reads)

  -- one signal more
  signal_made : (p : Planning) (seen : List ℕ) (s : ℕ) (d : Draft) → s < length net.names → IsPlanning n before net levels p seen → IsSignalDraft n before net levels p.steps s d
      → IsPlanning n before net levels (with_signal p s d) (seen ++ s ∷ [])
  signal_made p seen s d inside is drafted = record {
    size = length-set p.made s d.at ∙ is.size;
    signals = λ t h. ⊎_elim
        (λ (e : s ≡ t). subst (λ u. IsSignal n before net levels d.steps (get_or (set p.made s d.at) u 0) u) e
        (subst (λ k. IsSignal n before net levels d.steps k s) (sym (here (omega (arith, is.size)))) drafted.signal))
        (λ (e : s ≡ t → ⊥). subst (λ k. IsSignal n before net levels d.steps k t) (sym (there t e))
        (signal_still p.steps d.steps (get_or p.made t 0) t drafted.keeps (is.signals t (sym (has_other seen s t e) ∙ h))))
        (cases_eq s t);
  } where
    here : s < length p.made → get_or (set p.made s d.at) s 0 ≡ d.at
    here b = get_or-set_same p.made s d.at 0 b

    there : (t : ℕ) → (s ≡ t → ⊥) → get_or (set p.made s d.at) t 0 ≡ get_or p.made t 0
    there t e = get_or-set_other p.made s t d.at 0 (λ f. e (sym f))

  -- signals in an order in which each stands behind those that it reads
  signals_made : (p : Planning) (seen ss : List ℕ) → IsPlanning n before net levels p seen → ((k : ℕ) → k < length ss → get_or ss k 0 < length net.names)
      → ((k i : ℕ) → k < length ss → i < length (edges_of net.edges (get_or ss k 0)) → has (seen ++ take k ss) (get_or (edges_of net.edges (get_or ss k 0)) i 0) ≡ true)
      → IsPlanning n before net levels (make_signals net levels first p ss) (seen ++ ss)
  signals_made p seen [] is inside above = subst (IsPlanning n before net levels p) (sym (append-nil seen)) is
  signals_made p seen (s ∷ ss) is inside above =
      let reads : (t : ℕ) → has (edges_of net.edges s) t ≡ true → has seen t ≡ true =
      λ t h. let place = has_where (edges_of net.edges s) t h in
      subst (λ u. has seen u ≡ true) place.2 (ap (λ us. has us (get_or (edges_of net.edges s) place.0 0)) (sym (append-nil seen)) ∙ above 0 place.0 (omega arith) place.1) in
      let d : Draft = signal_draft net levels first p s in
      subst (IsPlanning n before net levels (make_signals net levels first p (s ∷ ss))) (append_assoc seen (s ∷ []) ss)
      (signals_made (with_signal p s d) (seen ++ s ∷ []) ss
      (signal_made p seen s d (inside 0 (omega arith)) is (signal_drafted p seen s (inside 0 (omega arith)) is reads))
      (λ k b. inside (suc k) (omega arith))
      (λ k i b c. ap (λ us. has us (get_or (edges_of net.edges (get_or ss k 0)) i 0)) (append_assoc seen (s ∷ []) (take k ss)) ∙ above (suc k) i (omega arith) c))

-- the steps of a plan make the tables of the wanted signals
pub tables_made : (net : Net) (levels wanted : List ℕ) (first : ℕ) (order : List ℕ) → IsNet net → order ≡ visits net.edges wanted → IsTopological net.edges order
    → ((k : ℕ) → k < length order → get_or order k 0 < length net.names) → ((i : ℕ) → i < length wanted → get_or wanted i 0 < length net.names)
    → MakeTables net levels wanted first (plan_steps net levels wanted first) (plan_made net levels wanted first)
tables_made net levels wanted first order sound same above inside exist n i before planned size steps b =
    let planning : IsPlanning n before net levels (made_signals net levels wanted first) (visits net.edges wanted) =
    subst (λ us. IsPlanning n before net levels (make_signals net levels first (no_plan net) us) us) same
    (signals_made n before net levels first size (no_plan net) [] order (record { size = length-replicate (length net.names) 0; signals = λ s h. absurd (true≢false (sym h)) }) inside above) in
    let s : ℕ = get_or wanted i 0 in
    let ps : List Step = (made_signals net levels wanted first).steps in
    let drops : List Step = flat_map (drop_one wanted (made_signals net levels wanted first).made) (visits net.edges wanted) in
    let visited : has (visits net.edges wanted) s ≡ true = roots_visited net.edges wanted i b (subst (λ m. s < m) (sym sound.tables.signals) (exist i b)) in
    let kept = signal_still n before net levels first size ps (ps ++ drops) (get_or (made_signals net levels wanted first).made s 0) s (keeps_front n before ps drops) (planning.signals s visited) in
    let made : ℕ → ℕ = λ t. get_or (made_signals net levels wanted first).made t 0 in
    let at : get_or (map made wanted) i 0 ≡ made s = get_or-map made wanted i 0 0 b in
    let same_table : get_or (tables_after n before planned) (get_or (map made wanted) i 0) [] ≡ table n before (ps ++ drops) (made s) =
    table_named n before planned (ps ++ drops) (get_or (map made wanted) i 0) steps ∙ ap (table n before (ps ++ drops)) at in
    subst (IsTableOf n net levels s) (sym same_table) kept.is_table
