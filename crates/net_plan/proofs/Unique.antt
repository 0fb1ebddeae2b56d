-- A signal has one value.
use Rattle.std.proofs.Common.{◌≡◌, ℕ, Bool, true, List, [], ◌∷◌, map, refl, ap, ◌∙◌, arith}
use Rattle.depth_first.specs.Graph.{edges_of, has}
use Rattle.blif_reader.specs.Netlist.{Net, cover_at}
use Rattle.net_plan.specs.Values.{HasValue, cover_value}
use Rattle.net_plan.proofs.Blocks.{has_head, has_tail}

-- two functions that agree on a list
pub map_same : (f g : ℕ → Bool) (es : List ℕ) → ((t : ℕ) → has es t ≡ true → f t ≡ g t) → map f es ≡ map g es
map_same f g [] same = refl
map_same f g (e ∷ es) same =
    ap (λ b. b ∷ map f es) (same e (has_head e es)) ∙ ap (λ bs. g e ∷ bs) (map_same f g es (λ t h. same t (has_tail e es t h)))

pub one_value : (net : Net) (inputs : ℕ → Bool) (s : ℕ) (v w : Bool) → HasValue net inputs s v → HasValue net inputs s w → v ≡ w
one_value net inputs s v w (HasValue.input s' b) (HasValue.input s'' c) = refl
one_value net inputs s v w (HasValue.input s' b) (HasValue.block s'' g c h) = absurd (omega (arith, c.behind))
one_value net inputs s v w (HasValue.block s' f b h) (HasValue.input s'' c) = absurd (omega (arith, b.behind))
one_value net inputs s v w (HasValue.block s' f b h) (HasValue.block s'' g c k) =
    ap (cover_value (cover_at net s)) (map_same f g (edges_of net.edges s) (λ t m. one_value net inputs t (f t) (g t) (h t m) (k t m)))
