-- The diagram of an operator: the ways to it, and how it is made in the room, or by sweeps after the room was tried.
use Rattle.std.proofs.Common.{◌≡◌, ◌∙◌, ℕ, ◌+◌, ◌-◌, ◌*◌, ◌^◌, ◌<◌, ◌≤◌, Bool, IsTrue, List, ap, sym, subst, inl, inr, arith}
use Rattle.std.specs.Prelude.{min, Ok}
use Rattle.bool_tables.specs.declared.steps.Bin.{Bin}
use Rattle.shelf_model.specs.declared.file_no.FileNo.{FileNo}
use Rattle.shelf_model.specs.Calls.{Told}
use Rattle.shelf_model.specs.Faults.{Faults}
use Rattle.shelf_model.specs.File.{File}
use Rattle.shelf_model.specs.World.{World}
use Rattle.block_stream.specs.Reads.{Looked}
use Rattle.run_tiers.specs.Faults.{OnlySortShelf}
use Rattle.node_file.specs.Canonical.{IsCanonicalFile, IsMade}
use Rattle.room_reduction.specs.Complements.{complement}
use Rattle.node_file.specs.Changes.{Changed}
use Rattle.copied_diagrams.specs.declared.pair.Pair.{Pair}
use Rattle.copied_diagrams.specs.declared.source.Source.{Source}
use Rattle.copied_diagrams.specs.declared.way.Way.{Way}
use Rattle.copied_diagrams.specs.declared.way.Way.TheVariants.{Constant, Copy, CopyInTurns, Complement, Join}
use Rattle.copied_diagrams.specs.Operands.{pair_table}
use Rattle.copied_diagrams.specs.Pairs.{ArePair, AreTrailersOf, IsOf, IsTrailerOf, nodes_of_both}
use Rattle.copied_diagrams.specs.Ways.{IsWayOf, IsOneOf, LeadsTo}
use Rattle.copied_diagrams.proofs.PairRuns.{complement_made, looked_same}
use Rattle.room_products.specs.declared.join.Joined.{Joined}
use Rattle.room_products.specs.Joined.{IsOperandOf}
use Rattle.step_sweeps.specs.declared.diagram.MadeDiagram.{MadeDiagram}
use Rattle.step_sweeps.specs.declared.task.Making.{Making}
use Rattle.sweep_operations.specs.declared.steps.StepOperation.{StepOperation}
use Rattle.sweep_operations.specs.declared.steps.StepOperation.TheVariants.{Operator}
use Rattle.step_sweeps.specs.Given.{Tables, AreEarlier, made_by, nodes_by}
use Rattle.step_sweeps.specs.Made.{node_file}
use Rattle.step_sweeps.specs.Makes.{IsGiven, table_by, nodes_for, work_for}
use Rattle.step_sweeps.specs.Ways.{MakesAnew, left_by_sweeps}
use Rattle.step_sweeps.specs.Operations.{IsWithin}
use Rattle.step_sweeps.specs.Pairs.{IsPairOf, Leads}
use Rattle.step_sweeps.specs.Stops.{sweeps_stop}
use Rattle.step_sweeps.proofs.StopsAnew.{stops_anew}
use Rattle.step_sweeps.proofs.Unfilled.{none_by_nodes}
use Rattle.step_sweeps.proofs.WaysAnew.{Pays, changed_run, node_changes, safe_anew}

-- a file that is canonical after a look was so before
was_canonical : (looked n : ℕ) (t : List Bool) (f : FileNo) (old mid : World) → Looked looked old mid
    → IsCanonicalFile n t f mid → IsCanonicalFile n t f old
was_canonical looked n t f old mid look is = record {
  form = is.form;
  bytes_are = ap (λ (x : File). x.bytes) (sym (looked_same looked f old mid look)) ∙ is.bytes_are;
}

-- as many nodes as both operands have
both_nodes : (op : Bin) (n : ℕ) (operation : StepOperation) (g : Tables) → operation ≡ Operator op
    → nodes_of_both n g.first g.second ≡ nodes_by operation n g
both_nodes op n operation g is =
    subst (λ o. nodes_of_both n g.first g.second ≡ nodes_by o n g) (sym is)
    (let same : nodes_of_both n g.first g.second ≡ nodes_by (Operator op) n g = omega arith in same)

-- a way to a table of so many nodes is one of more
leads_more : (n : ℕ) (table : List Bool) (most more : ℕ) (way : Way) (world : World) → most ≤ more
    → LeadsTo n table most way world → LeadsTo n table more way world
leads_more n table most more (Constant value) world fewer leads = leads
leads_more n table most more (Copy source) world fewer leads =
    record { of = leads.of; trailer = leads.trailer; few = let few = leads.few in omega (arith, few, fewer) }
leads_more n table most more (CopyInTurns source) world fewer leads =
    record { of = leads.of; trailer = leads.trailer; few = let few = leads.few in omega (arith, few, fewer) }
leads_more n table most more (Complement source) world fewer leads = (
  leads.0,
  leads.1,
  record { of = leads.2.of; trailer = leads.2.trailer; few = let few = leads.2.few in omega (arith, few, fewer) },
)
leads_more n table most more Join world fewer leads = tt

-- what is copied, or of which the complement is made, is of an earlier step
pub of_earlier : (making : Making) (pair : Pair) (source : Source) → AreEarlier making.number making.operands
    → IsOf making.n making.operands.first pair.left → IsOf making.n making.operands.second pair.right
    → IsOneOf pair source → (source.from.step < making.number) × (source.trailer.n ≡ making.n)
of_earlier making pair source earlier left right (inl is) = (
  let step : source.from.step ≡ making.operands.first.step =
      ap (λ (s : Source). s.from.step) is ∙ ap (λ (f : FileNo). f.step) left.0 in
      let before = earlier.first in
      omega (arith, step, before),
  ap (λ (s : Source). s.trailer.n) is ∙ left.1,
)
of_earlier making pair source earlier left right (inr is) = (
  let step : source.from.step ≡ making.operands.second.step =
      ap (λ (s : Source). s.from.step) is ∙ ap (λ (f : FileNo). f.step) right.0 in
      let before = earlier.second in
      omega (arith, step, before),
  ap (λ (s : Source). s.trailer.n) is ∙ right.1,
)

-- the trailers of an operator's operands were read
pub pair_read : {S : Type 0} (tells : S → Bool) (world : S → World) (op : Bin) (making : Making) (pair : Pair) (old mid : S)
    → making.operation ≡ Operator op → IsOf making.n making.operands.first pair.left
    → IsOf making.n making.operands.second pair.right
    → Told tells old mid (Looked 4 (world old) (world mid))
    → (IsTrue (tells mid) → (t u : List Bool)
    → ArePair making.n making.operands.first making.operands.second t u (world old) → AreTrailersOf making.n t u pair)
    → IsPairOf tells world op making pair mid
pair_read tells world op making pair old mid is left right look trailers = record {
  operation_is = is;
  left = left;
  right = right;
  trailers = λ told g given. trailers told g.first g.second (record {
    first = was_canonical 4 making.n g.first making.operands.first (world old) (world mid) (look.did told) given.first;
    second = was_canonical 4 making.n g.second making.operands.second (world old) (world mid) (look.did told) given.second;
  });
}

-- the complement of an operand, whose trailer is of so many variables
pub complement_is : (n : ℕ) (table : List Bool) (most : ℕ) (source : Source) (to : FileNo) (old new : World)
    → source.trailer.n ≡ n → LeadsTo n table most (Complement source) old
    → ((t : List Bool) → IsCanonicalFile source.trailer.n t source.from old → IsTrailerOf source.trailer.n t source.trailer
    → IsMade source.trailer.n (complement t) to source.trailer.count new)
    → IsMade n table to source.trailer.count new
complement_is n table most source to old new variables leads made =
    complement_made n leads.0 table most source to old new leads.1 leads.2
    (subst (λ k. (t : List Bool) → IsCanonicalFile k t source.from old → IsTrailerOf k t source.trailer
    → IsMade k (complement t) to source.trailer.count new) variables made)

module _ {S : Type 0} (tells : S → Bool) (world : S → World) (counts : S → Faults) (op : Bin) (making : Making)
    (pair : Pair) (old : S) (are : IsPairOf tells world op making pair old) where
  -- the way that was chosen leads to the diagram that the step makes
  pub chosen_leads : (way : Way) → IsWayOf op pair way → Leads tells world making way old
  chosen_leads way chosen told g given =
      let files : ArePair making.n pair.left.from pair.right.from g.first g.second (world old) = record {
        first = subst (λ f. IsCanonicalFile making.n g.first f (world old)) (sym are.left.0) given.first;
        second = subst (λ f. IsCanonicalFile making.n g.second f (world old)) (sym are.right.0) given.second;
      } in
      let leads = chosen making.n g.first g.second (world old) files (are.trailers told g given) in
      let same = both_nodes op making.n making.operation g are.operation_is in
      leads_more making.n (table_by making g) (nodes_of_both making.n g.first g.second) (nodes_for making g) way (world old)
      (omega (arith, same))
      (subst (λ o. LeadsTo making.n (made_by o making.n g) (nodes_of_both making.n g.first g.second) way (world old))
      (sym are.operation_is) leads)

  -- an operator has no level
  pub within : IsWithin making.n making.operation
  within = subst (IsWithin making.n) (sym are.operation_is) tt

  -- the operands' files and trailers, as the room takes them
  pub operands_are : IsTrue (tells old) → (g : Tables) → IsGiven making (world old) g
      → IsOperandOf making.n g.first pair.left (world old) × IsOperandOf making.n g.second pair.right (world old)
  operands_are told g given = (
    record {
      file_of = subst (λ f. IsCanonicalFile making.n g.first f (world old)) (sym are.left.0) given.first;
      trailer_of = (are.trailers told g given).0;
    },
    record {
      file_of = subst (λ f. IsCanonicalFile making.n g.second f (world old)) (sym are.right.0) given.second;
      trailer_of = (are.trailers told g given).1;
    },
  )

  -- the trailers count the nodes of both
  pub nodes_are : IsTrue (tells old) → (g : Tables) → IsGiven making (world old) g
      → pair.left.trailer.count + pair.right.trailer.count ≡ nodes_for making g
  nodes_are told g given =
      let first = (are.trailers told g given).0.count_is in
      let second = (are.trailers told g given).1.count_is in
      let same = both_nodes op making.n making.operation g are.operation_is in
      omega (arith, first, second, same)

  -- calls after which the folder failed
  pub failed_calls : (new : S) → IsTrue (tells old) → (world new).clock
      ≤ (world old).clock + (16 * (pair.left.trailer.count + pair.right.trailer.count) + 21)
      → (g : Tables) → IsGiven making (world old) g
      → (world new).clock + 229 * nodes_for making g ≤ (world old).clock + (229 * work_for making g + 7)
  failed_calls new told few g given =
      let count = nodes_are told g given in
      omega (arith, count, few)

  -- the look at both operands before they are swept
  pub look_pays : (first nodes looked counted : ℕ)
      → nodes ≡ min (pair.left.trailer.count + pair.right.trailer.count) (2 ^ 64 - 1)
      → looked ≡ min (first + nodes) (2 ^ 64 - 1) → counted ≡ min (looked + 1) (2 ^ 64 - 1) → IsTrue (tells old)
      → Pays making (world old) (pair.left.trailer.count + pair.right.trailer.count) first counted
      (nodes_for making) (left_by_sweeps making) 7 11
  look_pays first nodes looked counted one two three told = record {
    turns = λ g given. let count = nodes_are told g given in omega (arith, count, one, two, three);
    few_calls = λ g given. let count = nodes_are told g given in omega (arith, count);
    calls = λ below. omega (arith, below, one, two, three);
  }

  -- what was joined in the room
  pub joined_makes : (first most : ℕ) (j : Joined) (m : MadeDiagram) (new : S) → first < 2 ^ 64
      → m.nodes ≡ j.nodes → m.turns ≡ min (first + j.turns) (2 ^ 64 - 1) → m.next ≡ 3
      → 0 < j.turns → j.turns ≤ 15 * (pair.left.trailer.count + pair.right.trailer.count + 1)
      → (IsTrue (tells new) → (t u : List Bool) → IsOperandOf making.n t pair.left (world old)
      → IsOperandOf making.n u pair.right (world old)
      → IsMade making.n (pair_table making.n op t u) (node_file making.number) j.nodes (world new))
      → (IsTrue (tells new) → (world new).clock ≤ (world old).clock + (8 * j.turns + 6))
      → (IsTrue (tells new) → (world new).clock ≤ (world old).clock + (2 ^ 18 + 6))
      → Told tells old new (Changed most (node_file making.number) (world old) (world new))
      → OnlySortShelf {T = MadeDiagram} (counts old) (counts new) (Ok m)
      → MakesAnew tells world counts making first (nodes_for making) 7 (sweeps_stop + 2 ^ 18 + 6) old new (Ok m)
  joined_makes first most j m new fits nodes turns next some few made paid short content faults =
      let run = changed_run tells world making.number most old new content in
      record {
        made = λ told g given.
            let of = operands_are (content.before told) g given.given in
            let joined = made told g.first g.second of.0 of.1 in
            let count = nodes_are (content.before told) g given.given in
            record {
              made = subst (λ o. IsMade making.n (made_by o making.n g) (node_file making.number) m.nodes (world new))
                  (sym are.operation_is)
                  (record { form = joined.form; file_is = joined.file_is; nodes_are = nodes ∙ joined.nodes_are });
              few = omega (arith, turns, few, count);
            };
        undamaged = tt;
        spent = λ was. absurd (cc);
        few_calls = λ told g given.
            let calls = paid told in
            let count = nodes_are (content.before told) g given.given in
            omega (arith, calls, few, count);
        images = λ told g given. safe_anew making g (world old) (world new) given.none (run.did told);
        damaged = tt;
        content = node_changes tells world making.number old new run;
        counted = (
          omega (arith, turns, fits),
          record {
            some = omega (arith, turns, some);
            from = omega (arith, next);
            below = omega (arith, next);
            few = omega (arith, next);
          },
        );
        few_anew = omega (arith, next);
        untaken = λ told. none_by_nodes making.number m.next (world old) (world new) (omega (arith, next))
            (run.did told);
        calls = λ told below. let calls = paid told in omega (arith, calls, turns, below);
        stops = λ told g given work. stops_anew making.number ((world old).clock + (sweeps_stop + 2 ^ 18 + 6)) (world old)
            (world new) given.none (run.did told) (let calls = short told in omega (arith, calls));
        faults = faults;
      }
