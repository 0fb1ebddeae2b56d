use Rattle.std.proofs.Common.{◌≡◌, ◌∙◌, ◌+◌, ◌-◌, ◌<◌, ◌++◌, ℕ, suc, length, refl, rules, sym, ap, subst, arith}
use Rattle.std.proofs.lemmas.List.{append_assoc, append-nil}
use Rattle.std.proofs.lemmas.Grind.{flat_map-append}
use Rattle.shelf_model.proofs.Runs.{told}
use Rattle.block_stream.proofs.WriteRuns.{wrote_on}
use Rattle.node_file.specs.Nodes.{node_records, held_node, held_nodes}
use Rattle.node_file.specs.Writers.{written_of}
use Rattle.canon_file.specs.Canon.{numbered}
use Rattle.arc_diagrams.specs.Reduction.{final_rows}
use Rattle.room_reduction.specs.Sources.{sources_in}
use Rattle.room_reduction.specs.Levels.{IsDone, IsCounted, nodes_down_to}
use Rattle.room_reduction.proofs.FewerCalls.{wrote_within}
use Rattle.room_reduction.proofs.PackedSources.{sources_many}
use Rattle.room_reduction.proofs.LevelSteps.{none_done, none_made, nodes_onward}
use Rattle.room_reduction.proofs.writing.write_levels.Goals as goal

pub loop-deeper-init : goal.loop-deeper-init
loop-deeper-init g c =
    let n = c.args.n in
    let begun = written_of c.args.writer.now (g.S.Shelf.world c.args.shelf.now) in
    record {
      within = omega arith;
      counted = omega arith;
      same = record { file_is = refl; words_are = refl };
      variables = refl;
      in_step = c.requires.in_step;
      done_is = λ root arcs complete are. record {
        done = none_done n root arcs (n - 0) _ _ (omega arith) (sym (sources_many _ _ c.requires.many)) are;
        count_is = ap length (none_made n arcs (n - 0) (omega arith));
      };
      bytes = λ tells root arcs complete are. record {
        in_step = c.requires.in_step tells;
        bytes_are = sym (append-nil begun)
            ∙ ap (λ xs. begun ++ held_nodes xs) (none_made n arcs (n - 0) (omega arith));
      };
      wrote = search rules;
      folder_later = omega arith;
      say_is = refl;
      text_is = λ path. refl;
    }

pub write_level-requires-clause-in_step : goal.write_level-requires-clause-in_step
write_level-requires-clause-in_step g c = c.loop-deeper.invariant.in_step

pub returns-in_err-next-clause-content : goal.returns-in_err-next-clause-content
returns-in_err-next-clause-content g c =
    let known = c.loop-deeper.invariant in
    let done = c.loop-deeper.done in
    let room = known.within in
    told g.S.Shelf.tells _ _ _ _
    (wrote_on g.S.Shelf.tells g.S.Shelf.world done.count done.from _ _ _ _ _ known.same.file_is known.wrote
    c.write_level.ensures.content)
    (λ _ did. wrote_within (done.count + done.from) c.args.index.total _ _ _ (omega (arith, room)) did)

pub loop-deeper-preserved : goal.loop-deeper-preserved
loop-deeper-preserved g c =
    let n = c.args.n in
    let k = c.loop-deeper.deeper in
    let known = c.loop-deeper.invariant in
    let was = c.loop-deeper.done in
    let next = c.in-Some.next in
    let now = c.in_ok-next.ensures in
    let within = rw c.in-Some.is at now.within in
    let more = within.0 in
    let counted = known.counted in
    let one_level = rw c.in-Some.is at now.count in
    let variables = c.requires.variables in
    let test = c.loop-deeper-test.true in
    let level : ℕ = n - 1 - k in
    let step : n - k ≡ suc level = omega (arith, test) in
    let onward : level ≡ n - (k + 1) = omega (arith, test) in
    let below : level < n = omega (arith, test) in
    let sources = sources_in c.args.index.total c.loop-deeper.sources in
    let later = sources_in c.args.index.total c.write_level.new.sources in
    let begun = written_of c.args.writer.now (g.S.Shelf.world c.args.shelf.now) in
    record {
      within = within.1;
      counted = omega (arith, counted, one_level);
      same = record {
        file_is = now.same.file_is ∙ known.same.file_is;
        words_are = now.same.words_are ∙ known.same.words_are;
      };
      variables = now.variables ∙ known.variables;
      in_step = now.in_step;
      done_is = λ root arcs complete are.
          subst (λ i. IsCounted n root arcs i next.from next.count later) onward
          ((rw c.in-Some.is at now.done) n root arcs variables below complete
          (subst (λ i. IsCounted n root arcs i was.from was.count sources) step
          (known.done_is root arcs complete are)));
      bytes = λ tells root arcs complete are.
          let own = node_records (numbered level 0 (final_rows n arcs level)) in
          let front = nodes_down_to (n - k) n arcs in
          let deeper = known.done_is root arcs complete are in
          let put = (rw c.in-Some.is at now.bytes) tells n root arcs variables below complete
          (subst (λ i. IsDone n root arcs i was.from sources) step deeper.done) in
          let before = known.bytes (now.content.before tells) root arcs complete are in
          let all : front ++ own ≡ nodes_down_to (n - (k + 1)) n arcs =
          ap (λ i. nodes_down_to i n arcs ++ own) step ∙ nodes_onward n arcs level below
          ∙ ap (λ i. nodes_down_to i n arcs) onward in
          record {
            in_step = put.in_step;
            bytes_are = put.bytes_are ∙ ap (λ bytes. bytes ++ held_nodes own) before.bytes_are
                ∙ append_assoc begun (held_nodes front) (held_nodes own)
                ∙ ap (λ bytes. begun ++ bytes)
                (sym (flat_map-append held_node front own) ∙ ap held_nodes all);
          };
      wrote = told g.S.Shelf.tells _ _ _ _
          (wrote_on g.S.Shelf.tells g.S.Shelf.world was.count (next.count - was.count) _ _ _ _ _ known.same.file_is
          known.wrote (rw c.in-Some.is at now.paid))
          (λ _ did. wrote_within (was.count + (next.count - was.count)) next.count _ _ _ (omega (arith, more)) did);
      folder_later = let earlier = known.folder_later in let last = now.faults.later in omega (arith, earlier, last);
      say_is = now.faults.say_is ∙ known.say_is;
      text_is = λ path. now.faults.text_is path ∙ known.text_is path;
    }
