-- The steps of signals go on with any well-formed plan.
use Rattle.std.proofs.Common.{◌≡◌, ◌⊎◌, inl, inr, ⊎_elim, ℕ, suc, ◌+◌, ◌<◌, ◌≤◌, Bool, true, false, cond, List, [], ◌∷◌, ◌++◌, length, get_or, take, map, set, nat_lt, refl, sym, ap, ◌∙◌, subst, arith, append_assoc}
use Rattle.std.specs.List.{list_all, flat_map}
use Rattle.std.proofs.lemmas.Bool.{cond_both, cases_eq, cases_Bool, ltb-true, and_from, or_cases, eqb-true, true≢false}
use Rattle.std.proofs.lemmas.List.{append-nil, length-set, length-replicate, map-append, get_or-map, length-map, get_or-set_same, get_or-set_other}
use Rattle.std.proofs.lemmas.List.Elements.{All-get_or}
use Rattle.std.proofs.lemmas.List.Sums.{AllPass-from_list_all}
use Rattle.depth_first.specs.Graph.{edges_of, has, visits, IsTopological}
use Rattle.depth_first.proofs.Frames.{has_other, has_at}
use Rattle.depth_first.proofs.Searches.{has_where}
use Rattle.depth_first.proofs.Walks.{visits_above, visits_inside}
use Rattle.blif_reader.specs.Netlist.{Net, IsNet, cover_at}
use Rattle.bool_tables.specs.declared.steps.Step.{Step}
use Rattle.bool_tables.specs.declared.steps.Step.TheVariants.{Var, Drop}
use Rattle.bool_tables.specs.declared.steps.Planned.{Planned}
use Rattle.net_plan.specs.Covers.{Draft, put}
use Rattle.net_plan.specs.Plan.{Planning, signal_draft, with_signal, make_signals, drop_one, no_plan, made_signals, plan_steps, plan_made}
use Rattle.net_plan.specs.Values.{steps_of}
use Rattle.net_plan.specs.WellFormed.{StaysWellFormed}
use Rattle.net_plan.proofs.Blocks.{has_head, has_tail}
use Rattle.net_plan.proofs.Visits.{roots_visited}
use Rattle.net_plan.proofs.Distinct.{IsDistinct, distinct_head, distinct_rest, visits_distinct}
use Rattle.net_plan.proofs.Follows.{live, live_is, live_inside, follows, all_follow, IsBelow, below_follows, may_from, follow_from, below_none, follow_none}
use Rattle.net_plan.proofs.Lives.{Fits, IsLive, Adds, lives_inside, adds_one, block_adds, drop_fits, drop_stays}

-- the signals that were seen are live, and have numbers of their own
pub record IsLivePlanning (n : ℕ) (text : List ℕ) (base : List Step) (net : Net) (p : Planning) (seen : List ℕ) : Type 0 where
  pub size : length p.made ≡ length net.names
  pub fits : Fits n text base p.steps
  pub lives : (s : ℕ) → has seen s ≡ true → IsLive base p.steps (get_or p.made s 0)
  pub apart : (s t : ℕ) → has seen s ≡ true → has seen t ≡ true → get_or p.made s 0 ≡ get_or p.made t 0 → s ≡ t
  pub late : (s : ℕ) → has seen s ≡ true → length base ≤ get_or p.made s 0
  pub early : (k : ℕ) → live base k ≡ true → IsLive base p.steps k

module _ (n : ℕ) (text : List ℕ) (base : List Step) (below : IsBelow base) (first : ℕ) (size : length base ≡ first) (net : Net) (levels : List ℕ) (few : (i : ℕ) → i < length levels → nat_lt (get_or levels i 0) n ≡ true) (each : length levels ≡ net.inputs) where
  input_adds : (p : Planning) (s : ℕ) → Fits n text base p.steps → s < net.inputs → Adds n text base p.steps (put first p.steps (Var (get_or levels s 0))).steps (put first p.steps (Var (get_or levels s 0))).at (first + length p.steps)
  unfolding follows
  input_adds p s f b = adds_one n text base below first size p.steps (Var (get_or levels s 0)) f (and_from _ true (and_from true _ refl (and_from (nat_lt (get_or levels s 0) n) true (few s (omega arith)) refl)) refl) refl (λ k. refl)

  -- the numbers of the steps that a block reads are those of signals
  numbers_lives : (made es : List ℕ) (P : ℕ → Type 0) → ((s : ℕ) → has es s ≡ true → P (get_or made s 0)) → (t : ℕ) → has (map (λ s. get_or made s 0) es) t ≡ true → P t
  numbers_lives made [] P all t h = absurd (true≢false (sym h))
  numbers_lives made (e ∷ es) P all t h =
      ⊎_elim
      (λ (a : _ ≡ true). subst P (eqb-true (get_or made e 0) t a) (all e (has_head e es)))
      (λ (a : has (map (λ s. get_or made s 0) es) t ≡ true). numbers_lives made es P (λ s b. all s (has_tail e es s b)) t a)
      (or_cases _ (has (map (λ s. get_or made s 0) es) t) h)

  signal_adds : (p : Planning) (seen : List ℕ) (s : ℕ) → IsLivePlanning n text base net p seen → ((t : ℕ) → has (edges_of net.edges s) t ≡ true → has seen t ≡ true)
      → Adds n text base p.steps (signal_draft net levels first p s).steps (signal_draft net levels first p s).at (first + length p.steps)
  signal_adds p seen s is reads =
      cond_both (nat_lt s net.inputs) _ _ (λ (d : Draft). Adds n text base p.steps d.steps d.at (first + length p.steps))
      (λ e. input_adds p s is.fits (ltb-true s net.inputs e))
      (λ e. block_adds n text base below first size p.steps (cover_at net s).value (cover_at net s).rows (map (λ t. get_or p.made t 0) (edges_of net.edges s)) is.fits
      (numbers_lives p.made (edges_of net.edges s) (IsLive base p.steps) (λ t h. is.lives t (reads t h))))

  signal_lives : (p : Planning) (seen : List ℕ) (s : ℕ) (d : Draft) → s < length net.names → has seen s ≡ false → IsLivePlanning n text base net p seen → Adds n text base p.steps d.steps d.at (first + length p.steps)
      → IsLivePlanning n text base net (with_signal p s d) (seen ++ s ∷ [])
  signal_lives p seen s d inside fresh is adds = record {
    size = length-set p.made s d.at ∙ is.size;
    fits = adds.fits;
    lives = λ t h. ⊎_elim
        (λ (e : s ≡ t). subst (λ u. IsLive base d.steps (get_or (set p.made s d.at) u 0)) e (subst (IsLive base d.steps) (sym here) adds.made))
        (λ (e : s ≡ t → ⊥). subst (IsLive base d.steps) (sym (there t e)) (adds.stays (get_or p.made t 0) (low t (old t e h)) (is.lives t (old t e h))))
        (cases_eq s t);
    apart = λ t u h k e. ⊎_elim
        (λ (a : s ≡ t). ⊎_elim
        (λ (b : s ≡ u). sym a ∙ b)
        (λ (b : s ≡ u → ⊥). absurd (mixed u (old u b k) (sym here ∙ ap (λ v. get_or (set p.made s d.at) v 0) a ∙ e ∙ there u b)))
        (cases_eq s u))
        (λ (a : s ≡ t → ⊥). ⊎_elim
        (λ (b : s ≡ u). absurd (mixed t (old t a h) (sym here ∙ ap (λ v. get_or (set p.made s d.at) v 0) b ∙ sym e ∙ there t a)))
        (λ (b : s ≡ u → ⊥). is.apart t u (old t a h) (old u b k) (sym (there t a) ∙ e ∙ there u b))
        (cases_eq s u))
        (cases_eq s t);
    late = λ t h. ⊎_elim
        (λ (e : s ≡ t). subst (λ u. length base ≤ get_or (set p.made s d.at) u 0) e (subst (λ k. length base ≤ k) (sym here) (omega (arith, adds.low, size))))
        (λ (e : s ≡ t → ⊥). subst (λ k. length base ≤ k) (sym (there t e)) (is.late t (old t e h)))
        (cases_eq s t);
    early = λ k l. adds.stays k (omega (arith, live_inside base k l, size)) (is.early k l);
  } where
    here : get_or (set p.made s d.at) s 0 ≡ d.at
    here = get_or-set_same p.made s d.at 0 (omega (arith, is.size))

    there : (t : ℕ) → (s ≡ t → ⊥) → get_or (set p.made s d.at) t 0 ≡ get_or p.made t 0
    there t e = get_or-set_other p.made s t d.at 0 (λ f. e (sym f))

    old : (t : ℕ) → (s ≡ t → ⊥) → has (seen ++ s ∷ []) t ≡ true → has seen t ≡ true
    old t e h = sym (has_other seen s t e) ∙ h

    low : (t : ℕ) → has seen t ≡ true → get_or p.made t 0 < first + length p.steps
    low t h = lives_inside n text base below first size p.steps (get_or p.made t 0) (is.lives t h)

    mixed : (t : ℕ) → has seen t ≡ true → d.at ≡ get_or p.made t 0 → ⊥
    mixed t h e = absurd (omega (arith, low t h, adds.low))

  -- signals without repeats, in an order in which each stands behind those that it reads
  signals_live : (p : Planning) (seen ss : List ℕ) → IsLivePlanning n text base net p seen → ((k : ℕ) → k < length ss → get_or ss k 0 < length net.names)
      → ((k i : ℕ) → k < length ss → i < length (edges_of net.edges (get_or ss k 0)) → has (seen ++ take k ss) (get_or (edges_of net.edges (get_or ss k 0)) i 0) ≡ true)
      → IsDistinct ss → ((t : ℕ) → has ss t ≡ true → has seen t ≡ false)
      → IsLivePlanning n text base net (make_signals net levels first p ss) (seen ++ ss)
  signals_live p seen [] is inside above distinct fresh = subst (IsLivePlanning n text base net p) (sym (append-nil seen)) is
  signals_live p seen (s ∷ ss) is inside above distinct fresh =
      let reads : (t : ℕ) → has (edges_of net.edges s) t ≡ true → has seen t ≡ true =
      λ t h. let place = has_where (edges_of net.edges s) t h in
      subst (λ u. has seen u ≡ true) place.2 (ap (λ us. has us (get_or (edges_of net.edges s) place.0 0)) (sym (append-nil seen)) ∙ above 0 place.0 (omega arith) place.1) in
      let d : Draft = signal_draft net levels first p s in
      subst (IsLivePlanning n text base net (make_signals net levels first p (s ∷ ss))) (append_assoc seen (s ∷ []) ss)
      (signals_live (with_signal p s d) (seen ++ s ∷ []) ss
      (signal_lives p seen s d (inside 0 (omega arith)) (fresh s (has_head s ss)) is (signal_adds p seen s is reads))
      (λ k b. inside (suc k) (omega arith))
      (λ k i b c. ap (λ us. has us (get_or (edges_of net.edges (get_or ss k 0)) i 0)) (append_assoc seen (s ∷ []) (take k ss)) ∙ above (suc k) i (omega arith) c)
      (distinct_rest s ss distinct)
      (λ t h. has_other seen s t (λ e. true≢false (sym h ∙ ap (has ss) (sym e) ∙ distinct_head s ss distinct)) ∙ fresh t (has_tail s ss t h)))

  -- the signals that aren't wanted are dropped one by one, and the others stay
  drops_fit : (made wanted visited : List ℕ) → ((s t : ℕ) → has visited s ≡ true → has visited t ≡ true → get_or made s 0 ≡ get_or made t 0 → s ≡ t)
      → (ss : List ℕ) (xs : List Step) → IsDistinct ss → ((s : ℕ) → has ss s ≡ true → has visited s ≡ true) → Fits n text base xs
      → ((s : ℕ) → has visited s ≡ true → (has ss s ≡ true) ⊎ (has wanted s ≡ true) → IsLive base xs (get_or made s 0))
      → Fits n text base (xs ++ flat_map (drop_one wanted made) ss) × ((s : ℕ) → has visited s ≡ true → has wanted s ≡ true → IsLive base (xs ++ flat_map (drop_one wanted made) ss) (get_or made s 0))
  drops_fit made wanted visited apart [] xs distinct among f lives =
      subst (λ zs. Fits n text base zs × ((s : ℕ) → has visited s ≡ true → has wanted s ≡ true → IsLive base zs (get_or made s 0))) (sym (append-nil xs)) (f, λ s v w. lives s v (inr w))
  drops_fit made wanted visited apart (s ∷ ss) xs distinct among f lives =
      let P : List Step → Type 0 = λ zs. Fits n text base zs × ((t : ℕ) → has visited t ≡ true → has wanted t ≡ true → IsLive base zs (get_or made t 0)) in
      let rest : List Step = flat_map (drop_one wanted made) ss in
      ⊎_elim
      (λ (e : has wanted s ≡ true).
      subst (λ b. P (xs ++ (cond b [] (Drop (get_or made s 0) ∷ []) ++ rest))) (sym e)
      (drops_fit made wanted visited apart ss xs (distinct_rest s ss distinct) (λ t h. among t (has_tail s ss t h)) f
      (λ t v h. lives t v (⊎_elim (λ (a : has ss t ≡ true). inl (has_tail s ss t a)) (λ (a : has wanted t ≡ true). inr a) h))))
      (λ (e : has wanted s ≡ false).
      let gone : ℕ = get_or made s 0 in
      let here : IsLive base xs gone = lives s (among s (has_head s ss)) (inl (has_head s ss)) in
      subst (λ b. P (xs ++ (cond b [] (Drop gone ∷ []) ++ rest))) (sym e)
      (subst P (append_assoc xs (Drop gone ∷ []) rest)
      (drops_fit made wanted visited apart ss (xs ++ Drop gone ∷ []) (distinct_rest s ss distinct) (λ t h. among t (has_tail s ss t h)) (drop_fits n text base below first size xs gone f here)
      (λ t v h. drop_stays n text base below first size xs gone (get_or made t 0)
      (λ same. let st : s ≡ t = apart s t (among s (has_head s ss)) v same in
      ⊎_elim
      (λ (a : has ss t ≡ true). true≢false (sym a ∙ ap (has ss) (sym st) ∙ distinct_head s ss distinct))
      (λ (a : has wanted t ≡ true). true≢false (sym a ∙ ap (has wanted) (sym st) ∙ e))
      h)
      (lives t v (⊎_elim (λ (a : has ss t ≡ true). inl (has_tail s ss t a)) (λ (a : has wanted t ≡ true). inr a) h))))))
      (cases_Bool (has wanted s))

  -- what was live before stays
  drops_keep : (made wanted : List ℕ) (k : ℕ) → k < length base → (ss : List ℕ) (xs : List Step) → ((s : ℕ) → has ss s ≡ true → length base ≤ get_or made s 0) → IsLive base xs k → IsLive base (xs ++ flat_map (drop_one wanted made) ss) k
  drops_keep made wanted k lt [] xs late l = subst (λ zs. IsLive base zs k) (sym (append-nil xs)) l
  drops_keep made wanted k lt (s ∷ ss) xs late l =
      let rest : List Step = flat_map (drop_one wanted made) ss in
      let gone : ℕ = get_or made s 0 in
      ⊎_elim
      (λ (e : has wanted s ≡ true). subst (λ b. IsLive base (xs ++ (cond b [] (Drop gone ∷ []) ++ rest)) k) (sym e) (drops_keep made wanted k lt ss xs (λ t h. late t (has_tail s ss t h)) l))
      (λ (e : has wanted s ≡ false).
      let behind : length base ≤ gone = late s (has_head s ss) in
      subst (λ b. IsLive base (xs ++ (cond b [] (Drop gone ∷ []) ++ rest)) k) (sym e)
      (subst (λ zs. IsLive base zs k) (append_assoc xs (Drop gone ∷ []) rest)
      (drops_keep made wanted k lt ss (xs ++ Drop gone ∷ []) (λ t h. late t (has_tail s ss t h)) (drop_stays n text base below first size xs gone k (λ same. absurd (omega (arith, behind, same))) l))))
      (cases_Bool (has wanted s))

-- each number of a list passes a test that all pass
pub each_passes : (p : ℕ → Bool) (xs : List ℕ) → list_all p xs ≡ true → (i : ℕ) → i < length xs → p (get_or xs i 0) ≡ true
each_passes p xs h i b = All-get_or (λ x. p x ≡ true) xs i 0 b (AllPass-from_list_all p xs h)

-- the steps of a plan go on with any plan
pub plan_goes_on : (net : Net) (levels wanted : List ℕ) (first : ℕ) (order : List ℕ) → IsNet net → length levels ≡ net.inputs → order ≡ visits net.edges wanted → IsTopological net.edges order
    → ((k : ℕ) → k < length order → get_or order k 0 < length net.names) → ((i : ℕ) → i < length wanted → get_or wanted i 0 < length net.names)
    → StaysWellFormed levels wanted first (plan_steps net levels wanted first) (plan_made net levels wanted first)
plan_goes_on net levels wanted first order sound each same above inside exist n text before planned size ok steps names few =
    let base : List Step = steps_of before in
    let size2 : length base ≡ first = length-map before (λ (s : Planned). s.step) ∙ size in
    let below : IsBelow base = below_follows n text [] base below_none (follow_from n text [] before ok) in
    let visited : List ℕ = visits net.edges wanted in
    let distinct : IsDistinct visited = visits_distinct net.edges wanted sound.acyclic in
    let planning : IsLivePlanning n text base net (made_signals net levels wanted first) visited =
    subst (λ us. IsLivePlanning n text base net (make_signals net levels first (no_plan net) us) us) same
    (signals_live n text base below first size2 net levels (each_passes (λ level. nat_lt level n) levels few) each (no_plan net) [] order
    (record {
      size = length-replicate (length net.names) 0;
      fits = record { ok = follow_none n text base };
      lives = λ s h. absurd (true≢false (sym h));
      apart = λ s t h k e. absurd (true≢false (sym h));
      late = λ s h. absurd (true≢false (sym h));
      early = λ k l. record { ok = ap (λ zs. live zs k) (append-nil base) ∙ l };
    })
    inside above (subst IsDistinct (sym same) distinct) (λ t h. refl)) in
    let made : List ℕ = (made_signals net levels wanted first).made in
    let ps : List Step = (made_signals net levels wanted first).steps in
    let drops : List Step = flat_map (drop_one wanted made) visited in
    let ends = drops_fit n text base below first size2 net levels (each_passes (λ level. nat_lt level n) levels few) each made wanted visited planning.apart visited ps distinct (λ s h. h) planning.fits (λ s v h. planning.lives s v) in
    let place : (i : ℕ) → i < length (plan_made net levels wanted first) → i < length wanted = λ i b. subst (λ m. i < m) (length-map wanted (λ s. get_or made s 0)) b in
    let at : (i : ℕ) → i < length wanted → get_or (map (λ s. get_or made s 0) wanted) i 0 ≡ get_or made (get_or wanted i 0) 0 = λ i within. get_or-map (λ s. get_or made s 0) wanted i 0 0 within in
    let seen : (i : ℕ) → i < length wanted → has visited (get_or wanted i 0) ≡ true = λ i within. roots_visited net.edges wanted i within (subst (λ m. get_or wanted i 0 < m) (sym sound.tables.signals) (exist i within)) in
    let joined : steps_of (before ++ planned) ≡ base ++ (ps ++ drops) = map-append (λ (s : Planned). s.step) before planned ∙ ap (λ ss. base ++ ss) steps in
    record {
      in_order = may_from n text before planned (ap (all_follow n text base) steps ∙ ends.0.ok) names;
      new = λ i b.
          let late : length base ≤ get_or made (get_or wanted i 0) 0 = planning.late (get_or wanted i 0) (seen i (place i b)) in
          subst (λ k. length before ≤ k) (sym (at i (place i b))) (omega (arith, late, length-map before (λ (s : Planned). s.step)));
      live = λ i b.
          let within = place i b in
          live_is (before ++ planned) (get_or (map (λ s. get_or made s 0) wanted) i 0) ∙ ap (λ ss. live ss (get_or (map (λ s. get_or made s 0) wanted) i 0)) joined ∙ ap (live (base ++ (ps ++ drops))) (at i within)
          ∙ (ends.1 (get_or wanted i 0) (seen i within) (has_at wanted i within)).ok;
      apart = λ i j b c e.
          planning.apart (get_or wanted i 0) (get_or wanted j 0) (seen i (place i b)) (seen j (place j c)) (sym (at i (place i b)) ∙ e ∙ at j (place j c));
      stays = λ k l.
          let before_live : live base k ≡ true = sym (live_is before k) ∙ l in
          live_is (before ++ planned) k ∙ ap (λ ss. live ss k) joined
          ∙ (drops_keep n text base below first size2 net levels (each_passes (λ level. nat_lt level n) levels few) each made wanted k (live_inside base k before_live) visited ps planning.late (planning.early k before_live)).ok;
    }

-- so do those of any netlist
pub steps_go_on : (net : Net) (levels wanted : List ℕ) (first : ℕ) → IsNet net → length levels ≡ net.inputs → ((i : ℕ) → i < length wanted → get_or wanted i 0 < length net.names)
    → StaysWellFormed levels wanted first (plan_steps net levels wanted first) (plan_made net levels wanted first)
steps_go_on net levels wanted first sound each exist =
    let signals : length net.edges ≡ length net.names = sound.tables.signals in
    let few : length net.names < 4294967294 = sound.tables.few in
    let small : length net.edges < 4294967294 = omega (arith, signals, few) in
    let roots : (i : ℕ) → i < length wanted → get_or wanted i 0 < length net.edges = λ i b. subst (λ m. get_or wanted i 0 < m) (sym signals) (exist i b) in
    let graph = sound.tables.graph in
    plan_goes_on net levels wanted first (visits net.edges wanted) sound each refl (visits_above net.edges graph sound.acyclic small wanted roots)
    (λ k b. subst (λ m. get_or (visits net.edges wanted) k 0 < m) signals (visits_inside net.edges graph sound.acyclic small wanted roots k b)) exist
