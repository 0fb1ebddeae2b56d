-- Which steps are live while a block's are put.
use Rattle.std.proofs.Common.{◌≡◌, ℕ, ◌+◌, ◌<◌, ◌≤◌, ◌==◌, Bool, true, false, cond, List, [], ◌∷◌, ◌++◌, length, refl, sym, ap, ◌∙◌, arith, append_assoc, length-append}
use Rattle.std.proofs.lemmas.Bool.{and_from, ne_eqb}
use Rattle.depth_first.specs.Graph.{has}
use Rattle.bool_tables.specs.Plans.{makes_diagram, drops}
use Rattle.bool_tables.specs.declared.steps.Bin.{Bin}
use Rattle.bool_tables.specs.declared.steps.Step.{Step}
use Rattle.bool_tables.specs.declared.steps.Step.TheVariants.{Const, Pair, Drop}
use Rattle.net_plan.specs.Covers.{Draft, put, join, column, columns, cube, summed, row, rows, signed, block, both, left_alone, either, not_both}
use Rattle.net_plan.proofs.Blocks.{has_head, has_tail}
use Rattle.net_plan.proofs.Follows.{live, follows, all_follow, live_inside, IsBelow, below_follows, follow_push, live_push, live_last}

-- the steps may follow those before them
pub record Fits (n : ℕ) (text : List ℕ) (base xs : List Step) : Type 0 where
  pub ok : all_follow n text base xs ≡ true

-- the step with a number is live
pub record IsLive (base xs : List Step) (k : ℕ) : Type 0 where
  pub ok : live (base ++ xs) k ≡ true

-- more steps: one of them, not below m, is live, and those below m stay live
pub record Adds (n : ℕ) (text : List ℕ) (base xs ys : List Step) (at m : ℕ) : Type 0 where
  pub fits : Fits n text base ys
  pub made : IsLive base ys at
  pub low : m ≤ at
  pub stays : (k : ℕ) → k < m → IsLive base xs k → IsLive base ys k

module _ (n : ℕ) (text : List ℕ) (base : List Step) (below : IsBelow base) (first : ℕ) (size : length base ≡ first) where
  pub lives_inside : (xs : List Step) (k : ℕ) → IsLive base xs k → k < first + length xs
  lives_inside xs k l = omega (arith, live_inside (base ++ xs) k l.ok, length-append base xs)

  -- one step more
  fits_push : (xs : List Step) (s : Step) → Fits n text base xs → follows n text (base ++ xs) s ≡ true → Fits n text base (xs ++ s ∷ [])
  fits_push xs s f h = record { ok = follow_push n text base xs s f.ok h }

  stays_push : (xs : List Step) (s : Step) (k : ℕ) → IsLive base xs k → drops k s ≡ false → IsLive base (xs ++ s ∷ []) k
  stays_push xs s k l e = record { ok = ap (λ steps. live steps k) (sym (append_assoc base xs (s ∷ []))) ∙ live_push (base ++ xs) s k l.ok e }

  made_push : (xs : List Step) (s : Step) → Fits n text base xs → makes_diagram s ≡ true → ((k : ℕ) → drops k s ≡ false) → IsLive base (xs ++ s ∷ []) (first + length xs)
  made_push xs s f made e =
      let at : first + length xs ≡ length (base ++ xs) = omega (arith, length-append base xs) in
      record {
        ok = ap (λ k. live (base ++ (xs ++ s ∷ [])) k) at ∙ ap (λ steps. live steps (length (base ++ xs))) (sym (append_assoc base xs (s ∷ [])))
            ∙ live_last (base ++ xs) s (below_follows n text base xs below f.ok) made (e (length (base ++ xs)));
      }

  -- a step that makes a diagram and drops none
  pub adds_one : (xs : List Step) (s : Step) → Fits n text base xs → follows n text (base ++ xs) s ≡ true → makes_diagram s ≡ true → ((k : ℕ) → drops k s ≡ false) → Adds n text base xs (xs ++ s ∷ []) (first + length xs) (first + length xs)
  adds_one xs s f h made e = record {
    fits = fits_push xs s f h;
    made = made_push xs s f made e;
    low = omega arith;
    stays = λ k b l. stays_push xs s k l (e k);
  }

  -- a live step is dropped
  pub drop_fits : (xs : List Step) (k : ℕ) → Fits n text base xs → IsLive base xs k → Fits n text base (xs ++ Drop k ∷ [])
  unfolding follows
  drop_fits xs k f l = fits_push xs (Drop k) f (and_from _ true (and_from _ true (and_from (live (base ++ xs) k) true l.ok refl) refl) refl)

  pub drop_stays : (xs : List Step) (gone k : ℕ) → (gone ≡ k → ⊥) → IsLive base xs k → IsLive base (xs ++ Drop gone ∷ []) k
  drop_stays xs gone k ne l = stays_push xs (Drop gone) k l (ne_eqb gone k ne)

  adds_const : (xs : List Step) (b : Bool) → Fits n text base xs → Adds n text base xs (xs ++ Const b ∷ []) (first + length xs) (first + length xs)
  unfolding follows
  adds_const xs b f = adds_one xs (Const b) f refl refl (λ k. refl)

  adds_pair : (xs : List Step) (op : Bin) (j k : ℕ) → Fits n text base xs → IsLive base xs j → IsLive base xs k → Adds n text base xs (xs ++ Pair op j k ∷ []) (first + length xs) (first + length xs)
  unfolding follows
  adds_pair xs op j k f a b = adds_one xs (Pair op j k) f (and_from _ true (and_from _ true (and_from (live (base ++ xs) j) _ a.ok (and_from (live (base ++ xs) k) true b.ok refl)) refl) refl) refl (λ i. refl)

  -- parts of a block

  adds_none : (d : Draft) (m : ℕ) → Fits n text base d.steps → IsLive base d.steps d.at → m ≤ d.at → Adds n text base d.steps d.steps d.at m
  adds_none d m f l low = record { fits = f; made = l; low = low; stays = λ k b i. i }

  adds_on : (xs ys zs : List Step) (at1 at2 m : ℕ) → Adds n text base xs ys at1 m → Adds n text base ys zs at2 m → Adds n text base xs zs at2 m
  adds_on xs ys zs at1 at2 m a b = record { fits = b.fits; made = b.made; low = b.low; stays = λ k c l. b.stays k c (a.stays k c l) }

  join_adds : (op : Bin) (d : Draft) (t m : ℕ) → Fits n text base d.steps → IsLive base d.steps d.at → IsLive base d.steps t → m ≤ d.at → Adds n text base d.steps (join first op d t).steps (join first op d t).at m
  join_adds op d t m f a b low =
      let ys : List Step = d.steps ++ Pair op d.at t ∷ [] in
      let one = adds_pair d.steps op d.at t f a b in
      let less : d.at < first + length d.steps = lives_inside d.steps d.at a in
      record {
        fits = drop_fits ys d.at one.fits (one.stays d.at less a);
        made = drop_stays ys d.at (first + length d.steps) (λ e. absurd (omega arith)) one.made;
        low = omega arith;
        stays = λ k c l. drop_stays ys d.at k (λ e. absurd (omega arith)) (one.stays k (omega arith) l);
      }

  cond_adds : (xs : List Step) (t : Bool) (d e : Draft) (m : ℕ) → Adds n text base xs d.steps d.at m → Adds n text base xs e.steps e.at m → Adds n text base xs (cond t d e).steps (cond t d e).at m
  cond_adds xs true d e m a b = a
  cond_adds xs false d e m a b = b

  column_adds : (d : Draft) (c t m : ℕ) → Fits n text base d.steps → IsLive base d.steps d.at → IsLive base d.steps t → m ≤ d.at → Adds n text base d.steps (column first d c t).steps (column first d c t).at m
  column_adds d c t m f a b low =
      cond_adds d.steps (c == 49) (join first both d t) _ m (join_adds both d t m f a b low)
      (cond_adds d.steps (c == 48) (join first left_alone d t) d m (join_adds left_alone d t m f a b low) (adds_none d m f a low))

  columns_add : (d : Draft) (cs ts : List ℕ) (m : ℕ) → Fits n text base d.steps → IsLive base d.steps d.at → m ≤ d.at → ((t : ℕ) → has ts t ≡ true → t < m) → ((t : ℕ) → has ts t ≡ true → IsLive base d.steps t)
      → Adds n text base d.steps (columns first d cs ts).steps (columns first d cs ts).at m
  columns_add d [] ts m f a low early lives = adds_none d m f a low
  columns_add d (c ∷ cs) [] m f a low early lives = adds_none d m f a low
  columns_add d (c ∷ cs) (t ∷ ts) m f a low early lives =
      let next : Draft = column first d c t in
      let one = column_adds d c t m f a (lives t (has_head t ts)) low in
      adds_on d.steps next.steps _ next.at _ m one
      (columns_add next cs ts m one.fits one.made one.low (λ u h. early u (has_tail t ts u h)) (λ u h. one.stays u (early u (has_tail t ts u h)) (lives u (has_tail t ts u h))))

  cube_adds : (steps : List Step) (cs ts : List ℕ) → Fits n text base steps → ((t : ℕ) → has ts t ≡ true → IsLive base steps t) → Adds n text base steps (cube first steps cs ts).steps (cube first steps cs ts).at (first + length steps)
  cube_adds steps cs ts f lives =
      let one = adds_const steps true f in
      adds_on steps (steps ++ Const true ∷ []) _ (first + length steps) _ (first + length steps) one
      (columns_add (put first steps (Const true)) cs ts (first + length steps) one.fits one.made one.low (λ t h. lives_inside steps t (lives t h)) (λ t h. one.stays t (lives_inside steps t (lives t h)) (lives t h)))

  summed_adds : (sum c : Draft) (m : ℕ) → Fits n text base c.steps → IsLive base c.steps sum.at → IsLive base c.steps c.at → sum.at < c.at → m ≤ sum.at → Adds n text base c.steps (summed first sum c).steps (summed first sum c).at m
  summed_adds sum c m f a b apart low =
      let ys : List Step = c.steps ++ Pair either sum.at c.at ∷ [] in
      let zs : List Step = ys ++ Drop sum.at ∷ [] in
      let one = adds_pair c.steps either sum.at c.at f a b in
      let less : c.at < first + length c.steps = lives_inside c.steps c.at b in
      record {
        fits = drop_fits zs c.at (drop_fits ys sum.at one.fits (one.stays sum.at (omega arith) a)) (drop_stays ys sum.at c.at (λ e. absurd (omega arith)) (one.stays c.at less b));
        made = drop_stays zs c.at (first + length c.steps) (λ e. absurd (omega arith)) (drop_stays ys sum.at (first + length c.steps) (λ e. absurd (omega arith)) one.made);
        low = omega arith;
        stays = λ k i l. drop_stays zs c.at k (λ e. absurd (omega arith)) (drop_stays ys sum.at k (λ e. absurd (omega arith)) (one.stays k (omega arith) l));
      }

  row_adds : (sum : Draft) (cs ts : List ℕ) (m : ℕ) → Fits n text base sum.steps → IsLive base sum.steps sum.at → m ≤ sum.at → ((t : ℕ) → has ts t ≡ true → IsLive base sum.steps t) → Adds n text base sum.steps (row first sum cs ts).steps (row first sum cs ts).at m
  row_adds sum cs ts m f a low lives =
      let c : Draft = cube first sum.steps cs ts in
      let one = cube_adds sum.steps cs ts f lives in
      let less : sum.at < first + length sum.steps = lives_inside sum.steps sum.at a in
      let two = summed_adds sum c m one.fits (one.stays sum.at less a) one.made (omega (arith, one.low)) low in
      record { fits = two.fits; made = two.made; low = two.low; stays = λ k i l. two.stays k i (one.stays k (omega arith) l) }

  rows_add : (sum : Draft) (rs : List (List ℕ)) (ts : List ℕ) (m : ℕ) → Fits n text base sum.steps → IsLive base sum.steps sum.at → m ≤ sum.at → ((t : ℕ) → has ts t ≡ true → t < m) → ((t : ℕ) → has ts t ≡ true → IsLive base sum.steps t)
      → Adds n text base sum.steps (rows first sum rs ts).steps (rows first sum rs ts).at m
  rows_add sum [] ts m f a low early lives = adds_none sum m f a low
  rows_add sum (r ∷ rs) ts m f a low early lives =
      let next : Draft = row first sum r ts in
      let one = row_adds sum r ts m f a low lives in
      adds_on sum.steps next.steps _ next.at _ m one (rows_add next rs ts m one.fits one.made one.low early (λ t h. one.stays t (early t h) (lives t h)))

  signed_adds : (value : Bool) (sum : Draft) (m : ℕ) → Fits n text base sum.steps → IsLive base sum.steps sum.at → m ≤ sum.at → Adds n text base sum.steps (signed first value sum).steps (signed first value sum).at m
  signed_adds true sum m f a low = adds_none sum m f a low
  signed_adds false sum m f a low = join_adds not_both sum sum.at m f a a low

  -- a block keeps all that was live before it, and its diagram is live
  pub block_adds : (steps : List Step) (value : Bool) (rs : List (List ℕ)) (ts : List ℕ) → Fits n text base steps → ((t : ℕ) → has ts t ≡ true → IsLive base steps t)
      → Adds n text base steps (block first steps value rs ts).steps (block first steps value rs ts).at (first + length steps)
  block_adds steps value rs ts f lives =
      let m : ℕ = first + length steps in
      let start : Draft = put first steps (Const false) in
      let sum : Draft = rows first start rs ts in
      let one = adds_const steps false f in
      let two = rows_add start rs ts m one.fits one.made one.low (λ t h. lives_inside steps t (lives t h)) (λ t h. one.stays t (lives_inside steps t (lives t h)) (lives t h)) in
      adds_on steps start.steps _ start.at _ m one (adds_on start.steps sum.steps _ sum.at _ m two (signed_adds value sum m two.fits two.made two.low))
