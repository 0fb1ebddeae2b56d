-- Jumps over the places of a block that tell nothing.
use Rattle.std.proofs.Common.{◌≡◌, ℕ, ◌+◌, ◌<◌, ◌≤◌, Bool, true, false, not, List, [], ◌∷◌, ◌++◌, length, get_or, set, take, Vec, refl, sym, ap, ◌∙◌, subst, arith, ⊎_elim, get_or-set_same, get_or-set_other, length-set}
use Rattle.std.proofs.lemmas.Bool.{cases_eq}
use Rattle.std.proofs.lemmas.List.{get_or_append_left, length-map, map-append, take_more}
use Rattle.std.proofs.Math.Seq.{get_or-append_seam}
use Rattle.std.specs.declared.alloc.Global.{Global}
use Rattle.depth_first.specs.Graph.{edges_of, has}
use Rattle.depth_first.specs.Jumps.{JumpRepeats}
use Rattle.depth_first.specs.Views.{graph_of}
use Rattle.depth_first.proofs.Frames.{has_last, has_other}
use Rattle.depth_first.proofs.Keeps.{before_or_last}
use Rattle.blif_reader.specs.Jumps.{JumpIdle, HaveJumps, is_needed, JumpsOver, AllJumpOver}
use Rattle.blif_reader.specs.Netlist.{Net, IsTables, cover_at}

-- one more word that stood
pub stood_more : (words : List ℕ) (stood : List Bool) (place : ℕ) → place < length words → get_or words place 0 < length stood → ((t : ℕ) → t < length stood → get_or stood t false ≡ has (take place words) t)
    → (t : ℕ) → t < length (set stood (get_or words place 0) true) → get_or (set stood (get_or words place 0) true) t false ≡ has (take (place + 1) words) t
stood_more words stood place more inside marks t lt =
    let w : ℕ = get_or words place 0 in
    let size : length (set stood w true) ≡ length stood = length-set stood w true in
    let all : take (place + 1) words ≡ take place words ++ w ∷ [] = take_more words place 0 more in
    ⊎_elim
    (λ (e : t ≡ w).
    let here : get_or (set stood w true) t false ≡ true = ap (λ k. get_or (set stood w true) k false) e ∙ get_or-set_same stood w true false inside in
    let last : has (take (place + 1) words) t ≡ true = ap (λ ws. has ws t) all ∙ ap (has (take place words ++ w ∷ [])) e ∙ has_last (take place words) w in
    here ∙ sym last)
    (λ (ne : t ≡ w → ⊥).
    let other : has (take (place + 1) words) t ≡ has (take place words) t = ap (λ ws. has ws t) all ∙ has_other (take place words) w t (λ e. ne (sym e)) in
    get_or-set_other stood w t true false ne ∙ marks t (omega arith) ∙ sym other)
    (cases_eq t w)

not_false : (b : Bool) → not b ≡ false → b ≡ true
not_false true e = refl
not_false false e = absurd (cc)

-- one more place that is noted, or repeats a word
pub repeats_more : (words : List ℕ) (needed : List Bool) (place : ℕ) (before : Bool) → place < length needed → before ≡ has (take place words) (get_or words place 0) → ((k : ℕ) → k < place → is_needed needed k ≡ false → has (take k words) (get_or words k 0) ≡ true)
    → (k : ℕ) → k < place + 1 → is_needed (set needed place (not before)) k ≡ false → has (take k words) (get_or words k 0) ≡ true
repeats_more words needed place before inside is so_far k lt free = ⊎_elim
    (λ (b : k < place).
    let ne : k ≡ place → ⊥ = (λ e. absurd (omega arith)) in
    so_far k b (sym (get_or-set_other needed place k (not before) true ne) ∙ free))
    (λ (e : k ≡ place).
    let here : not before ≡ false = sym (ap (λ j. get_or (set needed place (not before)) j true) e ∙ get_or-set_same needed place (not before) true inside) ∙ free in
    ap (λ j. has (take j words) (get_or words j 0)) e ∙ sym is ∙ not_false before here)
    (before_or_last k place lt)

-- places that need no look tell nothing
pub idle_jumps : (words : List ℕ) (rows : List (List ℕ)) (needed : List Bool) (jumps : List ℕ) → length needed ≡ length words → ((k : ℕ) → k < length words → is_needed needed k ≡ false → has (take k words) (get_or words k 0) ≡ true)
    → ((r k : ℕ) → r < length rows → is_needed needed k ≡ false → get_or (get_or rows r []) k 45 ≡ 45) → AllJumpOver needed jumps → JumpIdle words rows jumps
idle_jumps words rows needed jumps size repeats hyphens over = record {
  on = λ i more. (over i (omega arith)).on;
  within = λ i more. let h : get_or jumps i (i + 1) ≤ length needed = (over i (omega arith)).within in omega arith;
  idle = λ i k more past below.
      let o : JumpsOver needed i (get_or jumps i (i + 1)) = over i (omega arith) in
      let w : get_or jumps i (i + 1) ≤ length needed = o.within in
      let free : is_needed needed k ≡ false = o.free k past below in
      record { repeats = repeats k (omega arith) free; hyphens = λ r less. hyphens r k less free };
}

-- where no jump is noted, each place is looked at
pub step_by_step : (words : List ℕ) (rows : List (List ℕ)) → JumpIdle words rows []
step_by_step words rows = record {
  on = λ i more. omega arith;
  within = λ i more. omega arith;
  idle = λ i k more past below. absurd (omega arith);
}

-- no block has jumps
pub no_jumps : (net : Net) → HaveJumps net []
no_jumps net s inside = step_by_step (edges_of net.edges s) (cover_at net s).rows

-- one more list of jumps
pub jumps_push : (net : Net) (jumps more : List (Vec ℕ Global)) (v : Vec ℕ Global) → more ≡ jumps ++ v ∷ [] → ((s : ℕ) → s < length jumps → JumpIdle (edges_of net.edges s) (cover_at net s).rows (edges_of (graph_of jumps) s))
    → JumpIdle (edges_of net.edges (length jumps)) (cover_at net (length jumps)).rows v.items → (s : ℕ) → s < length jumps + 1 → JumpIdle (edges_of net.edges s) (cover_at net s).rows (edges_of (graph_of more) s)
jumps_push net jumps more v e so_far one s lt =
    let g : List (List ℕ) = graph_of jumps in
    let n : length g ≡ length jumps = simp length-map in
    let all : graph_of more ≡ g ++ v.items ∷ [] = ap graph_of e ∙ map-append (λ (u : Vec ℕ Global). u.items) jumps (v ∷ []) in
    ⊎_elim
    (λ (b : s < length jumps).
    let here : edges_of (graph_of more) s ≡ edges_of g s = ap (λ xs. edges_of xs s) all ∙ get_or_append_left g (v.items ∷ []) [] s (omega arith) in
    subst (JumpIdle (edges_of net.edges s) (cover_at net s).rows) (sym here) (so_far s b))
    (λ (b : s ≡ length jumps).
    let place : s ≡ length g = omega arith in
    let here : edges_of (graph_of more) s ≡ v.items = ap (λ xs. edges_of xs s) all ∙ ap (λ k. edges_of (g ++ v.items ∷ []) k) place ∙ get_or-append_seam g (v.items) [] [] in
    subst (JumpIdle (edges_of net.edges s) (cover_at net s).rows) (sym here) (subst (λ k. JumpIdle (edges_of net.edges k) (cover_at net k).rows v.items) (sym b) one))
    (before_or_last s (length jumps) lt)

-- the jumps of a netlist pass edges that repeat others
pub net_jumps : (net : Net) (jumps : List (List ℕ)) → IsTables net → HaveJumps net jumps → JumpRepeats net.edges jumps
net_jumps net jumps tables leaps =
    let signals : length net.edges ≡ length net.names = tables.signals in
    record {
      on = λ s i inside more. (leaps s (omega arith)).on i more;
      within = λ s i inside more. (leaps s (omega arith)).within i more;
      repeats = λ s i k inside more past below. ((leaps s (omega arith)).idle i k more past below).repeats;
    }
