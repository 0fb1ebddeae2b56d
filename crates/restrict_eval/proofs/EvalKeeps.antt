-- What a turn of an evaluation keeps.
use Rattle.std.proofs.Common.{◌≡◌, ◌⊎◌, ℕ, ◌+◌, ◌-◌, ◌*◌, ◌<◌, ◌≤◌, ◌^◌, ◌∙◌, Bool, List, [], ◌∷◌, ◌++◌, length, drop, take, length-drop, length-take-le, refl, rules, sym, subst, ap, inl, inr, arith, true≢false, append_assoc}
use Rattle.std.specs.Prelude.{Result, Ok, Err, Some, None, is_some, IsTrue, OnOk, IfOk, IsSome, ◌==◌}
use Rattle.bool_tables.specs.Tables.{value_at, place_of_bits}
use Rattle.bool_tables.specs.Steps.{bits_at, eval_at}
use Rattle.rec_words.specs.Words.{IsTerminal, IsPointer}
use Rattle.rec_words.specs.declared.node.Node.{Node}
use Rattle.shelf_model.specs.declared.sort_fault.SortFault.{SortFault}
use Rattle.shelf_model.specs.declared.sort_fault.SortFault.TheVariants.{Shelf, Damaged, RunsSpent}
use Rattle.shelf_model.specs.Faults.{Faults}
use Rattle.shelf_model.specs.World.{World}
use Rattle.list_laws.specs.Members.{Has}
use Rattle.list_laws.proofs.MemberLaws.{has_append}
use Rattle.canon_file.specs.Canon.{canon_nodes, canon_root}
use Rattle.canon_file.specs.Laws.{HasForm}
use Rattle.canon_file.specs.Walks.{walk}
use Rattle.arc_diagrams.specs.Arcs.{targets_of, arcs_of}
use Rattle.arc_diagrams.proofs.WordLaws.{value-terminal}
use Rattle.arc_diagrams.proofs.CanonArcs.{canon_stands}
use Rattle.node_file.specs.declared.reader.NodeReader.{NodeReader}
use Rattle.node_file.specs.declared.trailer.Trailer.{Trailer}
use Rattle.node_file.specs.Readers.{file_of, trailer_of, left_of, given_of, AreLeft}
use Rattle.sweep_core.specs.Sweeps.{AtEnd, IsNoDamage}
use Rattle.sweep_core.specs.declared.turn.Turn.{Turn}
use Rattle.sweep_core.specs.declared.turn.Turn.TheVariants.{More, Ended}
use Rattle.restrict_eval.specs.declared.following.Following.{Following}
use Rattle.restrict_eval.specs.declared.following.Next.{Next}
use Rattle.canon_file.specs.NodeFiles.{IsProper, IsDescending}
use Rattle.node_file.specs.Nodes.{IsNodeAt, IsRoot}
use Rattle.std.proofs.lemmas.Bool.{cases_lt}
use Rattle.std.proofs.lemmas.List.{length-map, append-nil}
use Rattle.restrict_eval.specs.declared.following.Following.TheVariants.{To, Past, Answered}
use Rattle.restrict_eval.specs.declared.eval.EvalSweep.{EvalSweep}
use Rattle.node_reading.specs.Reading.{bytes_of, count_of, GivesNode, IsNodeFault}
use Rattle.node_reading.specs.Missing.{IsMissedAt}
use Rattle.restrict_eval.specs.Turns.{AnswersAtEnd, Turns}
use Rattle.top_down_laws.specs.Readings.{IsIn}
use Rattle.restrict_eval.specs.Eval.{bits_of, fuel_at, answer_at, answer_of, parts_of, task_of, side_by, IsReady, IsInStep, HasCome, IsPlaceAt, IsOn, IsOnWay, IsFollowed, IsPath, IsPassed, OneTable, RemainsOf, IsDamage, evaluations}
use Rattle.node_reading.proofs.NodeReading.{node_fault_after}
use Rattle.restrict_eval.proofs.Looking.{faults_ok, faults_err, looked_leaves, still_leaves}
use Rattle.restrict_eval.proofs.Canonical.{canonical_stays}
use Rattle.restrict_eval.proofs.PathLaws.{root_one, walk_stays, before_above, side_one, side_walks}
use Rattle.restrict_eval.proofs.MissingLaws.{node_word, path_found, path_on, path_past, passed_on, missed_first, missed_beside}

-- there is a bit for each variable
pub bits_long : (n : ℕ) (text : List ℕ) (at : ℕ) → at + n ≤ length text → length (bits_at n text at) ≡ n
bits_long n text at within =
    let rest : length (drop at text) ≡ length text - at = length-drop at text in
    length-map (take n (drop at text)) (λ byte. byte == 49) ∙ length-take-le n (drop at text) (omega (arith, within, rest))

-- the sweep with another reader, come to another state
abbrev pub come_to : EvalSweep → NodeReader → Following → EvalSweep
come_to s new state = record { nodes = new; file = s.file; text = s.text; at = s.at; state = state; parts = s.parts }

-- with another reader of the same file, come to another state, the sweep has the same task
task_come : (s : EvalSweep) (new : NodeReader) (state : Following) → file_of new ≡ file_of s.nodes
    → trailer_of new ≡ trailer_of s.nodes → task_of (come_to s new state) ≡ task_of s
task_come s new state files trailers = λ i. record {
  file = files i;
  variables = (trailers i).n;
  text = s.text.now;
  at = s.at;
  parts = s.parts;
}

-- a node of the file that is damaged is damage of the evaluation
node_damage : (e : SortFault) (s : EvalSweep) (world : World) → IsNodeFault s.nodes world e → IsDamage s world e
node_damage Shelf s world fault = tt
node_damage (Damaged f at) s world fault = inl fault
node_damage RunsSpent s world fault = fault

-- where something of an evaluation that hasn't ended remains, nodes are left
left_nodes : (state : Following) (r : NodeReader) (bytes : List ℕ) (nodes : List Node) (bits : List Bool) (value : Bool)
    → answer_at state ≡ None → IsFollowed state r bytes nodes bits value → (rest : List Node) × AreLeft r bytes rest
left_nodes (To next) r bytes nodes bits value none followed = (followed.but.rest, followed.but.left)
left_nodes (Past q) r bytes nodes bits value none followed = absurd followed
left_nodes (Answered b) r bytes nodes bits value none followed = absurd (true≢false (ap is_some none))

-- the value that the path has to lead to
abbrev pub value_of : EvalSweep → OneTable → Bool
value_of s d = value_at d.table (place_of_bits (bits_of s))

module _ {S : Type 0} (tells : S → Bool) (world : S → World) (counts : S → Faults) where
  module _ (before after : S) (s : EvalSweep) (ready : IsReady s) (step : IsTrue (tells before) → IsInStep s (world before)) (new : NodeReader) where
    -- a node was read, and the path goes on
    pub goes_on : (x : Node) (state old_state : Following) → s.state ≡ old_state → fuel_at old_state (left_of s.nodes) ≡ left_of s.nodes + 1 → fuel_at state (left_of new) ≡ left_of new + 1 → answer_at state ≡ None
        → GivesNode tells world counts before after s.nodes new (Ok (Some x))
        → IsPlaceAt state (trailer_of s.nodes).count
        → (IsTrue (tells after) → IsInStep s (world before) → HasCome s (world before) → IsOn state (trailer_of s.nodes).root (left_of new) (given_of new) (bytes_of s.nodes (world before)))
        → (IsTrue (tells after) → (d : OneTable) → RemainsOf s (world before) d
        → IsFollowed state new (bytes_of s.nodes (world before)) (canon_nodes d.n d.table) (bits_of s) (value_of s d))
        → Turns evaluations tells world counts before after s (come_to s new state) (Ok More)
    goes_on x state old_state was fuel_was fuel none gives place on followed =
        let fewer : left_of s.nodes ≡ left_of new + 1 = gives.rises.1 in
        let spent : fuel_at s.state (left_of s.nodes) ≡ left_of s.nodes + 1 = ap (λ st. fuel_at st (left_of s.nodes)) was ∙ fuel_was in
        let comes : IsTrue (tells after) → HasCome s (world before) → HasCome (come_to s new state) (world after) =
        λ told come. subst (λ (t : Trailer). IsOn state t.root (left_of new) (given_of new) (bytes_of new (world after))) (sym gives.trailer_is)
        (subst (λ bytes. IsOn state (trailer_of s.nodes).root (left_of new) (given_of new) bytes) (sym (gives.same told)) (on told (step (gives.content.before told)) come)) in
        record {
          ready = record {
            begun = gives.begun;
            file_is = ready.file_is ∙ sym gives.file_is;
            bits = subst (λ (t : Trailer). s.at + t.n ≤ length s.text.now) (sym gives.trailer_is) ready.bits;
            place = subst (λ (t : Trailer). IsPlaceAt state t.count) (sym gives.trailer_is) place;
          };
          in_step = λ told. gives.reads told;
          trusts = comes;
          falls = (omega (arith, fuel), omega (arith, fewer, spent, fuel));
          ends = none;
          keeps = λ told d remains. record {
            file_is = canonical_stays d.n d.table s.nodes new (world before) (world after) gives.trailer_is (gives.same told) remains.file_is;
            followed = subst (λ (t : Trailer). IsFollowed state new (bytes_of new (world after)) (canon_nodes d.n d.table) (bits_at t.n s.text.now s.at)
                (value_at d.table (place_of_bits (bits_at t.n s.text.now s.at)))) (sym gives.trailer_is)
                (subst (λ bytes. IsFollowed state new bytes (canon_nodes d.n d.table) (bits_of s) (value_of s d)) (sym (gives.same told)) (followed told d remains));
            come = comes told remains.come;
          };
          undamaged = tt;
          damage = tt;
          refused = tt;
          leaves = looked_leaves tells world counts parts_of before after s _ (Ok More) refl gives.content (faults_ok (counts before) (counts after) (Ok (Some x)) More gives.faults);
          same = task_come s new state gives.file_is gives.trailer_is;
        }

    -- no node is left, and one is missing at a place
    pub misses : (at : ℕ) → GivesNode tells world counts before after s.nodes new (Ok None)
        → (IsTrue (tells after) → IsInStep s (world before) → HasCome s (world before) → IsMissedAt (bytes_of s.nodes (world before)) at)
        → (IsTrue (tells after) → (d : OneTable) → ¬ RemainsOf s (world before) d)
        → Turns evaluations tells world counts before after s (come_to s new s.state) (Err (Damaged s.file at))
    misses at gives missed none = record {
      ready = tt;
      in_step = tt;
      trusts = tt;
      falls = tt;
      ends = tt;
      keeps = tt;
      undamaged = λ told d remains. none told d remains;
      damage = λ told come. inr (ready.file_is ∙ sym gives.file_is, subst (λ bytes. IsMissedAt bytes at) (sym (gives.same told)) (missed told (step (gives.content.before told)) come));
      refused = ready.file_is;
      leaves = looked_leaves tells world counts parts_of before after s _ (Err (Damaged s.file at)) refl gives.content
          (record { later = gives.faults.later; cause = λ is. cc; say_is = gives.faults.say_is; text_is = gives.faults.text_is });
      same = task_come s new s.state gives.file_is gives.trailer_is;
    }

    -- no node was given
    pub refuses : (e : SortFault) (old_state : Following) → s.state ≡ old_state → answer_at old_state ≡ None
        → GivesNode tells world counts before after s.nodes new (Err e)
        → Turns evaluations tells world counts before after s (come_to s new s.state) (Err e)
    refuses e old_state was none gives = record {
      ready = tt;
      in_step = tt;
      trusts = tt;
      falls = tt;
      ends = tt;
      keeps = tt;
      undamaged = λ told d remains.
          let left = left_nodes s.state s.nodes (bytes_of s.nodes (world before)) (canon_nodes d.n d.table) (bits_of s) (value_of s d) (ap answer_at was ∙ none) remains.followed in
          subst IsNoDamage (sym (gives.items told left.0 left.1)) tt;
      damage = λ told come. node_damage e (come_to s new s.state) (world after)
          (node_fault_after s.nodes new (world before) (world after) e gives.file_is gives.trailer_is (gives.same told) (gives.damage told));
      refused = gives.refused;
      leaves = looked_leaves tells world counts parts_of before after s _ (Err e) refl gives.content (faults_err (counts before) (counts after) e gives.faults);
      same = task_come s new s.state gives.file_is gives.trailer_is;
    }

    -- a node was read behind the one that is missing
    pub reads_on : (x : Node) (q : ℕ) → s.state ≡ Past q → GivesNode tells world counts before after s.nodes new (Ok (Some x))
        → Turns evaluations tells world counts before after s (come_to s new s.state) (Ok More)
    reads_on x q was gives =
        let bytes : List ℕ = bytes_of s.nodes (world before) in
        subst (λ st. Turns evaluations tells world counts before after s (come_to s new st) (Ok More)) (sym was)
        (goes_on x (Past q) (Past q) was refl refl refl gives (subst (λ st. IsPlaceAt st (trailer_of s.nodes).count) was ready.place)
        (λ told now come. passed_on (trailer_of new).n (left_of new) q (given_of s.nodes) (given_of new) bytes x (gives.value told) gives.rises.2 gives.rises.3
        (subst (λ l. IsPassed l (given_of s.nodes) bytes q) gives.rises.1
        (subst (λ st. IsOn st (trailer_of s.nodes).root (left_of s.nodes) (given_of s.nodes) bytes) was come)))
        (λ told d remains. absurd (subst (λ st. IsFollowed st s.nodes bytes (canon_nodes d.n d.table) (bits_of s) (value_of s d)) was remains.followed)))

    -- no node is left behind it
    pub misses_beside : (q : ℕ) → s.state ≡ Past q → GivesNode tells world counts before after s.nodes new (Ok None)
        → Turns evaluations tells world counts before after s (come_to s new s.state) (Err (Damaged s.file (q * 24)))
    misses_beside q was gives =
        let bytes : List ℕ = bytes_of s.nodes (world before) in
        misses (q * 24) gives
        (λ told now come. missed_beside q (given_of s.nodes) bytes
        (subst (λ l. IsPassed l (given_of s.nodes) bytes q) gives.rises.0
        (subst (λ st. IsOn st (trailer_of s.nodes).root (left_of s.nodes) (given_of s.nodes) bytes) was come)))
        (λ told d remains. subst (λ st. IsFollowed st s.nodes bytes (canon_nodes d.n d.table) (bits_of s) (value_of s d)) was remains.followed)

    module _ (next : Next) (was : s.state ≡ To next) (other : ¬ IsTerminal next.pointer) where
      path : HasCome s (world before) → IsPath (trailer_of s.nodes).root (left_of s.nodes) (bytes_of s.nodes (world before)) next.pointer
      path come = subst (λ st. IsOn st (trailer_of s.nodes).root (left_of s.nodes) (given_of s.nodes) (bytes_of s.nodes (world before))) was come

      way : (d : OneTable) → RemainsOf s (world before) d → IsOnWay s.nodes (bytes_of s.nodes (world before)) (canon_nodes d.n d.table) (bits_of s) (value_of s d) next.pointer
      way d remains = subst (λ st. IsFollowed st s.nodes (bytes_of s.nodes (world before)) (canon_nodes d.n d.table) (bits_of s) (value_of s d)) was remains.followed

      -- no node is left, and the path leads to one
      pub misses_first : GivesNode tells world counts before after s.nodes new (Ok None) → Turns evaluations tells world counts before after s (come_to s new s.state) (Err (Damaged s.file 0))
      misses_first gives =
          misses 0 gives
          (λ told now come. missed_first (trailer_of s.nodes).n (trailer_of s.nodes).root next.pointer (bytes_of s.nodes (world before)) now.trailer
          (node_word next.pointer (path come).pointer other)
          (subst (λ l. IsPath (trailer_of s.nodes).root l (bytes_of s.nodes (world before)) next.pointer) gives.rises.0 (path come)))
          (λ told d remains. let w = way d remains in
          elim w.next [ inl end ↦ other end | inr one ↦ subst (Has one.0) (gives.items told w.but.rest w.but.left) one.1 ])

      module _ (x : Node) (gives : GivesNode tells world counts before after s.nodes new (Ok (Some x))) where
        -- the file's node
        among : IsInStep s (world before) → left_of new < count_of (bytes_of s.nodes (world before))
        among now =
            let fewer : left_of s.nodes ≡ left_of new + 1 = gives.rises.1 in
            let within : left_of s.nodes ≤ (trailer_of s.nodes).count = s.nodes.within in
            let count : (trailer_of s.nodes).count ≡ count_of (bytes_of s.nodes (world before)) = now.count in
            omega (arith, fewer, within, count)

        stands : IsTrue (tells after) → IsNodeAt (trailer_of s.nodes).n (left_of new) (bytes_of s.nodes (world before)) x
        stands told = subst (λ (t : Trailer). IsNodeAt t.n (left_of new) (bytes_of s.nodes (world before)) x) gives.trailer_is (gives.value told)

        path_here : HasCome s (world before) → IsPath (trailer_of s.nodes).root (left_of new + 1) (bytes_of s.nodes (world before)) next.pointer
        path_here come = subst (λ l. IsPath (trailer_of s.nodes).root l (bytes_of s.nodes (world before)) next.pointer) gives.rises.1 (path come)

        -- what is left but this node
        left_but : (d : OneTable) (nodes given rest : List Node) → nodes ≡ rest ++ given
            → (g : (front : List Node) × (rest ≡ front ++ x ∷ []) × AreLeft new (bytes_of s.nodes (world before)) front) → nodes ≡ g.0 ++ x ∷ given
        left_but d nodes given rest all g = all ∙ ap (λ xs. xs ++ given) g.1 ∙ append_assoc g.0 (x ∷ []) given

        -- the node that the path leads to lies before this one, or is it
        front_or : (rest front : List Node) (z : Node) → rest ≡ front ++ x ∷ [] → Has z rest → Has z front ⊎ (x ≡ z)
        front_or rest front z split m = elim (has_append z front (x ∷ []) (subst (Has z) split m)) [ inl k ↦ inl k | inr k ↦ elim k [ inl e ↦ inr e | inr none ↦ absurd none ] ]

        pub node_below : x.uid < next.pointer → Turns evaluations tells world counts before after s (come_to s new (To next)) (Ok More)
        node_below less =
            goes_on x (To next) (To next) was refl refl refl gives tt
            (λ told now come. path_on (trailer_of s.nodes).n (left_of new) (trailer_of s.nodes).root next.pointer (bytes_of s.nodes (world before)) x (stands told) (among now) (path_here come) now.trailer less)
            (λ told d remains.
            let w = way d remains in
            let g = gives.items told w.but.rest w.but.left in
            record {
              given = x ∷ w.given;
              but = record { rest = g.0; nodes_are = left_but d (canon_nodes d.n d.table) w.given w.but.rest w.but.nodes_are g; left = g.2 };
              next = elim w.next [
                | inl end ↦ inl end
                | inr one ↦ elim (front_or w.but.rest g.0 one.0 g.1 one.1) [
                  | inl k ↦ inr (one.0, k, one.2)
                  | inr same ↦ absurd (let uid : x.uid ≡ next.pointer = ap (λ (v : Node). v.uid) same ∙ one.2 in omega (arith, less, uid))
                ]
              ];
              walks = w.walks;
            })

        pub node_above : next.pointer < x.uid → Turns evaluations tells world counts before after s (come_to s new (Past (left_of new))) (Ok More)
        node_above greater =
            let fewer : left_of s.nodes ≡ left_of new + 1 = gives.rises.1 in
            let within : left_of s.nodes ≤ (trailer_of s.nodes).count = s.nodes.within in
            goes_on x (Past (left_of new)) (To next) was refl refl refl gives (omega (arith, fewer, within))
            (λ told now come. path_past (trailer_of s.nodes).n (left_of new) (trailer_of s.nodes).root next.pointer (bytes_of s.nodes (world before)) x (stands told) (among now) (path_here come) now.trailer
            (given_of new) gives.rises.3 (node_word next.pointer (path come).pointer other) greater)
            (λ told d remains.
            let w = way d remains in
            let g = gives.items told w.but.rest w.but.left in
            elim w.next [
              | inl end ↦ other end
              | inr one ↦ (let uid : one.0.uid ≡ next.pointer = one.2 in
                  elim (front_or w.but.rest g.0 one.0 g.1 one.1) [
                    | inl k ↦ (let above : x.uid < one.0.uid = before_above g.0 [] x one.0 (subst IsDescending g.1 w.but.left.descend) k in omega (arith, above, greater, uid))
                    | inr same ↦ (let alike : x.uid ≡ one.0.uid = ap (λ (v : Node). v.uid) same in omega (arith, alike, greater, uid))
                  ])
            ])

        pub node_found : x.uid ≡ next.pointer → Turns evaluations tells world counts before after s (come_to s new (To (record { pointer = side_by (bits_of s) x }))) (Ok More)
        node_found same =
            goes_on x (To (record { pointer = side_by (bits_of s) x })) (To next) was refl refl refl gives tt
            (λ told now come. path_found (trailer_of s.nodes).n (left_of new) (trailer_of s.nodes).root next.pointer (bytes_of s.nodes (world before)) x (stands told) (among now) (path_here come) (bits_of s) same)
            (λ told d remains.
            let w = way d remains in
            let g = gives.items told w.but.rest w.but.left in
            let split : canon_nodes d.n d.table ≡ g.0 ++ x ∷ w.given = left_but d (canon_nodes d.n d.table) w.given w.but.rest w.but.nodes_are g in
            let proper : IsProper d.n x = subst (λ (t : Trailer). IsProper t.n x) remains.file_is.trailer_is gives.rises.0 in
            let long : length (bits_of s) ≡ d.n = bits_long (trailer_of s.nodes).n s.text.now s.at ready.bits ∙ ap (λ (t : Trailer). t.n) remains.file_is.trailer_is in
            record {
              given = x ∷ w.given;
              but = record { rest = g.0; nodes_are = split; left = g.2 };
              next = side_one d.n d.table remains.file_is.form g.0 w.given x split proper (bits_of s);
              walks = sym (side_walks d.n d.table remains.file_is.form g.0 w.given x split proper (bits_of s) long)
                  ∙ ap (walk (targets_of (arcs_of (canon_nodes d.n d.table))) 0 (bits_of s)) same ∙ w.walks;
            })

        -- the path goes on as the node says
        pub follows : (state : Following) → (x.uid ≡ next.pointer → state ≡ To (record { pointer = side_by (bits_at (trailer_of new).n s.text.now s.at) x }))
            → (x.uid < next.pointer → state ≡ To next) → (next.pointer < x.uid → state ≡ Past (left_of new))
            → Turns evaluations tells world counts before after s (come_to s new state) (Ok More)
        follows state found below above =
            let to : Following → Type 0 = λ st. Turns evaluations tells world counts before after s (come_to s new st) (Ok More) in
            elim (cases_lt x.uid next.pointer) [
              | inl less ↦ subst to (sym (below less)) (node_below less)
              | inr most ↦ elim (cases_lt next.pointer x.uid) [
                | inl greater ↦ subst to (sym (above greater)) (node_above greater)
                | inr least ↦ (let same : x.uid ≡ next.pointer = omega (arith, most, least) in
                    subst to (sym (found same ∙ ap (λ (t : Trailer). To (record { pointer = side_by (bits_at t.n s.text.now s.at) x })) gives.trailer_is)) (node_found same))
              ]
            ]

  -- the path has come to a truth value
  pub value_found : (at : S) (s : EvalSweep) (next : Next) (value : Bool) → s.state ≡ To next → IsReady s → (IsTrue (tells at) → IsInStep s (world at))
      → IsTerminal next.pointer → value ≡ (next.pointer == 2 ^ 63 + 1) → Turns evaluations tells world counts at at s (come_to s s.nodes (Answered value)) (Ok Ended)
  value_found at s next value was ready step end is = record {
    ready = record { begun = ready.begun; file_is = ready.file_is; bits = ready.bits; place = tt };
    in_step = step;
    trusts = λ told come. tt;
    falls = refl;
    ends = search rules;
    keeps = λ told d remains.
        let w = subst (λ st. IsFollowed st s.nodes (bytes_of s.nodes (world at)) (canon_nodes d.n d.table) (bits_of s) (value_of s d)) was remains.followed in
        let n : (trailer_of s.nodes).n ≡ d.n = ap (λ (t : Trailer). t.n) remains.file_is.trailer_is in
        let few : d.n ≤ 65535 = remains.file_is.form.few in
        let long : length (bits_of s) ≡ (trailer_of s.nodes).n = bits_long (trailer_of s.nodes).n s.text.now s.at ready.bits in
        let stays = walk_stays (targets_of (arcs_of (canon_nodes d.n d.table))) 0 (bits_of s) next.pointer end (omega (arith, n, few, long)) in
        record {
          file_is = remains.file_is;
          followed = is ∙ ap (λ p. p == 2 ^ 63 + 1) (sym stays ∙ w.walks) ∙ value-terminal (value_of s d);
          come = tt;
        };
    undamaged = tt;
    damage = tt;
    refused = tt;
    leaves = still_leaves tells world counts parts_of at s _ Ended refl;
    same = refl;
  }

-- the answer that is known is the right one
answered : (state : Following) (r : NodeReader) (bytes : List ℕ) (nodes : List Node) (bits : List Bool) (value : Bool) → IsSome (answer_at state) → IsFollowed state r bytes nodes bits value
    → answer_at state ≡ Some value
answered (To next) r bytes nodes bits value some followed = absurd (true≢false (sym some))
answered (Past q) r bytes nodes bits value some followed = absurd (true≢false (sym some))
answered (Answered b) r bytes nodes bits value some followed = ap Some followed

pub answers : (A : Type 0) (s new : EvalSweep) (old now : World) (result : Result Turn SortFault) → IfOk result (λ turn. AnswersAtEnd turn (answer_of new))
    → OnOk result (new.text ≡ s.text) → OnOk result (new.at ≡ s.at) → OnOk result (A → (d : OneTable) → RemainsOf s old d → RemainsOf new now d)
    → AtEnd result (A → (d : OneTable) → RemainsOf s old d → answer_of new ≡ Some (eval_at d.n s.text.now d.table s.at))
answers A s new old now (Ok More) ends text at keeps = tt
answers A s new old now (Ok Ended) ends text at keeps = λ told d remains.
    let kept = keeps told d remains in
    let n : (trailer_of new.nodes).n ≡ d.n = ap (λ (t : Trailer). t.n) kept.file_is.trailer_is in
    answered new.state new.nodes (bytes_of new.nodes now) (canon_nodes d.n d.table) (bits_of new) (value_of new d) ends kept.followed
    ∙ (λ i. Some (eval_at (n i) (text i).now d.table (at i)))
answers A s new old now (Err e) ends text at keeps = tt

root_pointer : (count root : ℕ) → IsRoot count root → IsPointer root
root_pointer count root is = elim (cases_lt 0 count) [ inl some ↦ inl (is.some some) | inr none ↦ inr (is.none (omega (arith, none))) ]

-- at first the path leads to the root
pub begins_path : (r : NodeReader) (root : ℕ) (bytes : List ℕ) → root ≡ (trailer_of r).root → IsRoot (trailer_of r).count (trailer_of r).root → left_of r ≡ (trailer_of r).count
    → (trailer_of r).count ≡ count_of bytes → IsPath (trailer_of r).root (left_of r) bytes root
begins_path r root bytes is pointer all count = record {
  pointer = subst IsPointer (sym is) (root_pointer (trailer_of r).count (trailer_of r).root pointer);
  above = λ k from below. absurd (omega (arith, from, below, all, count));
  named = inl (all ∙ count, is);
}

-- and all nodes are left
pub begins_way : (n : ℕ) (t : List Bool) (r : NodeReader) (now then : List ℕ) (bits : List Bool) (root : ℕ) → HasForm n t → root ≡ canon_root n t → length bits ≡ n
    → AreLeft r now (canon_nodes n t) → then ≡ now → IsOnWay r then (canon_nodes n t) bits (value_at t (place_of_bits bits)) root
begins_way n t r now then bits root form is long left same = record {
  given = [];
  but = record {
    rest = canon_nodes n t;
    nodes_are = sym (append-nil (canon_nodes n t));
    left = subst (λ bytes. AreLeft r bytes (canon_nodes n t)) (sym same) left;
  };
  next = subst (IsIn (canon_nodes n t)) (sym is) (root_one n t form);
  walks = ap (walk (targets_of (arcs_of (canon_nodes n t))) 0 bits) is ∙ (canon_stands n t form).walks bits long;
}
