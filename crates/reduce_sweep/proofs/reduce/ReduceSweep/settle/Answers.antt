use Rattle.std.proofs.Common.{◌≡◌, ◌∙◌, refl, sym, ap, subst, arith}
use Rattle.arc_diagrams.specs.Items.{final_arc_words, IsFinalArc, final_arc_cmp, source_row_words, IsSourceRow, source_row_cmp, name_words, IsName, name_cmp}
use Rattle.run_merge.specs.declared.sorter.Sorter.{Sorter}
use Rattle.run_merge.specs.Sorters as sorters
use Rattle.level_queue.specs.Queues as queues
use Rattle.level_queue.specs.Tables.{table_at}
use Rattle.arc_diagrams.specs.declared.source_row.SourceRow.{SourceRow}
use Rattle.reduce_lists.specs.declared.held.Ahead.{Ahead}
use Rattle.reduce_sweep.specs.declared.reduce.ReduceSweep.{ReduceSweep}
use Rattle.reduce_sweep.specs.Settling.{IsTableOf}
use Rattle.reduce_sweep.proofs.SettleLaws.{keeps_then, settles_then, settles_ok, settles_err, table_of_on, stands_on, stands_since, nodes_on}
use Rattle.reduce_sweep.proofs.reduce.ReduceSweep.settle.Goals as goal

-- a call was refused
pub returns-in_err-settle_nodes-clause-settles : goal.returns-in_err-settle_nodes-clause-settles
returns-in_err-settle_nodes-clause-settles g c =
    settles_err g.S.Shelf.tells g.S.Shelf.world g.S.Shelf.faults 2 6146 0 1536 _ _ _ _ c.from_residual.result
    c.settle_nodes.result c.in_err-settle_nodes.field-0.0 (omega arith) (omega arith) c.from_residual.ensures.1
    c.in_err-settle_nodes.was c.settle_nodes.ensures.settles

pub returns-in_err-queue-clause-settles : goal.returns-in_err-queue-clause-settles
returns-in_err-queue-clause-settles g c =
    settles_err g.S.Shelf.tells g.S.Shelf.world g.S.Shelf.faults 2050 6146 512 1536 _ _ _ _
    c.from_residual-in_err-queue.result c.freeze_queue.result c.in_err-queue.field-0.0 (omega arith) (omega arith)
    c.from_residual-in_err-queue.ensures.1 c.in_err-queue.was
    (settles_then g.S.Shelf.tells g.S.Shelf.world g.S.Shelf.faults 2 2048 0 512 _ _ _ _ _ _ c.settle_nodes.result
    c.freeze_queue.result c.in_ok-settle_nodes.ensures.settles.keeps c.settle_nodes.ensures.settles
    c.freeze_queue.ensures.settles)

pub returns-in_err-rows-clause-settles : goal.returns-in_err-rows-clause-settles
returns-in_err-rows-clause-settles g c =
    let first = c.in_ok-settle_nodes.ensures.settles.keeps in
    let second = keeps_then g.S.Shelf.tells g.S.Shelf.world _ _ _ _ _ _
    c.freeze_queue.ensures.settles.carries.content.before first c.in_ok-queue.ensures.settles.keeps in
    settles_err g.S.Shelf.tells g.S.Shelf.world g.S.Shelf.faults 4098 6146 1024 1536 _ _ _ _
    c.from_residual-in_err-rows.result c.freeze_rows.result c.in_err-rows.field-0.0 (omega arith) (omega arith)
    c.from_residual-in_err-rows.ensures.1 c.in_err-rows.was
    (settles_then g.S.Shelf.tells g.S.Shelf.world g.S.Shelf.faults 2050 2048 512 512 _ _ _ _ _ _ c.freeze_queue.result
    c.freeze_rows.result second
    (settles_then g.S.Shelf.tells g.S.Shelf.world g.S.Shelf.faults 2 2048 0 512 _ _ _ _ _ _ c.settle_nodes.result
    c.freeze_queue.result first c.settle_nodes.ensures.settles c.freeze_queue.ensures.settles)
    c.freeze_rows.ensures.settles)

pub returns-in_err-names-clause-settles : goal.returns-in_err-names-clause-settles
returns-in_err-names-clause-settles g c =
    let first = c.in_ok-settle_nodes.ensures.settles.keeps in
    let second = keeps_then g.S.Shelf.tells g.S.Shelf.world _ _ _ _ _ _
    c.freeze_queue.ensures.settles.carries.content.before first c.in_ok-queue.ensures.settles.keeps in
    let third = keeps_then g.S.Shelf.tells g.S.Shelf.world _ _ _ _ _ _
    c.freeze_rows.ensures.settles.carries.content.before second c.in_ok-rows.ensures.settles.keeps in
    settles_err g.S.Shelf.tells g.S.Shelf.world g.S.Shelf.faults 6146 6146 1536 1536 _ _ _ _
    c.from_residual-in_err-names.result c.freeze_names.result c.in_err-names.field-0.0 (omega arith) (omega arith)
    c.from_residual-in_err-names.ensures.1 c.in_err-names.was
    (settles_then g.S.Shelf.tells g.S.Shelf.world g.S.Shelf.faults 4098 2048 1024 512 _ _ _ _ _ _ c.freeze_rows.result
    c.freeze_names.result third
    (settles_then g.S.Shelf.tells g.S.Shelf.world g.S.Shelf.faults 2050 2048 512 512 _ _ _ _ _ _ c.freeze_queue.result
    c.freeze_rows.result second
    (settles_then g.S.Shelf.tells g.S.Shelf.world g.S.Shelf.faults 2 2048 0 512 _ _ _ _ _ _ c.settle_nodes.result
    c.freeze_queue.result first c.settle_nodes.ensures.settles c.freeze_queue.ensures.settles)
    c.freeze_rows.ensures.settles) c.freeze_names.ensures.settles)

-- all is made sure
pub returns-clause-settles : goal.returns-clause-settles
returns-clause-settles g c =
    let first = c.in_ok-settle_nodes.ensures.settles.keeps in
    let second = keeps_then g.S.Shelf.tells g.S.Shelf.world _ _ _ _ _ _
    c.freeze_queue.ensures.settles.carries.content.before first c.in_ok-queue.ensures.settles.keeps in
    let third = keeps_then g.S.Shelf.tells g.S.Shelf.world _ _ _ _ _ _
    c.freeze_rows.ensures.settles.carries.content.before second c.in_ok-rows.ensures.settles.keeps in
    let fourth = keeps_then g.S.Shelf.tells g.S.Shelf.world _ _ _ _ _ _
    c.freeze_names.ensures.settles.carries.content.before third c.in_ok-names.ensures.settles.keeps in
    settles_ok g.S.Shelf.tells g.S.Shelf.world g.S.Shelf.faults 6146 1536 _ _ _ _ c.freeze_names.result _ fourth
    (settles_then g.S.Shelf.tells g.S.Shelf.world g.S.Shelf.faults 4098 2048 1024 512 _ _ _ _ _ _ c.freeze_rows.result
    c.freeze_names.result third
    (settles_then g.S.Shelf.tells g.S.Shelf.world g.S.Shelf.faults 2050 2048 512 512 _ _ _ _ _ _ c.freeze_queue.result
    c.freeze_rows.result second
    (settles_then g.S.Shelf.tells g.S.Shelf.world g.S.Shelf.faults 2 2048 0 512 _ _ _ _ _ _ c.settle_nodes.result
    c.freeze_queue.result first c.settle_nodes.ensures.settles c.freeze_queue.ensures.settles)
    c.freeze_rows.ensures.settles) c.freeze_names.ensures.settles)

-- and the tables stand for what the lists held at first
pub returns-clause-froze : goal.returns-clause-froze
returns-clause-froze g c =
    let tells = g.S.Shelf.tells in
    let world = g.S.Shelf.world in
    let queue = c.freeze_queue.ensures in
    let rows = c.freeze_rows.ensures in
    let names = c.freeze_names.ensures in
    let first = c.in_ok-settle_nodes.ensures.settles.keeps in
    let second = keeps_then tells world _ _ _ _ _ _ queue.settles.carries.content.before first
    c.in_ok-queue.ensures.settles.keeps in
    let third = keeps_then tells world _ _ _ _ _ _ rows.settles.carries.content.before second
    c.in_ok-rows.ensures.settles.keeps in
    let of_queue = c.in_ok-queue.ensures.froze.0 in
    let of_rows = c.in_ok-rows.ensures.froze in
    let of_names = c.in_ok-names.ensures.froze in
    let s0 = c.args.shelf.now in
    let s1 = c.settle_nodes.new.shelf in
    let s2 = c.freeze_queue.new.shelf in
    let s3 = c.freeze_rows.new.shelf in
    let s4 = c.freeze_names.new.shelf in
    let r0 = c.args.self.now in
    let r1 = c.settle_nodes.new.self in
    let r2 = c.freeze_queue.new.self in
    let r3 = c.freeze_rows.new.self in
    let r4 = c.freeze_names.new.self in
    let table = table_at c.in_ok-queue.queue 0 in
    let queue_on = table_of_on tells world r2 r3 _ _ table rows.took of_queue.is in
    let ahead : r4.ahead ≡ r2.ahead =
    ap (λ (r : ReduceSweep). r.ahead) names.rest ∙ ap (λ (r : ReduceSweep). r.ahead) rows.rest in
    let rows_are : r4.lists.rows ≡ r3.lists.rows = ap (λ (r : ReduceSweep). r.lists.rows) names.rest in
    record {
      queue = record {
        is = subst (λ (a : Ahead). IsTableOf r4 (queues.IsRunOf a.queue) (queues.held a.queue) table)
            (sym ahead) (table_of_on tells world r3 r4 _ _ table names.took queue_on);
        stands = stands_since tells world IsFinalArc final_arc_words final_arc_cmp s0 s1 s4 r0 r1 r4 (λ k. k.queue) table
            (λ told. queue.settles.carries.content.before (rows.settles.carries.content.before
            (names.settles.carries.content.before told))) first
            (stands_on tells world IsFinalArc final_arc_words final_arc_cmp s1 s3 s4 r1 r3 r4 (λ k. k.queue) table
            names.took queue_on.served names.others
            (stands_on tells world IsFinalArc final_arc_words final_arc_cmp s1 s2 s3 r1 r2 r3 (λ k. k.queue) table
            rows.took of_queue.is.served rows.others of_queue.stands));
      };
      second = c.in_ok-queue.ensures.froze.1;
      third = c.in_ok-queue.ensures.froze.2;
      rows = record {
        is = subst (λ (r : Sorter SourceRow). IsTableOf r4 (sorters.IsRunOf r) (sorters.held r) c.in_ok-rows.rows)
            (sym rows_are) (table_of_on tells world r3 r4 _ _ c.in_ok-rows.rows names.took of_rows.is);
        stands = stands_since tells world IsSourceRow source_row_words source_row_cmp s0 s2 s4 r0 r2 r4 (λ k. k.rows)
            c.in_ok-rows.rows
            (λ told. rows.settles.carries.content.before (names.settles.carries.content.before told)) second
            (stands_on tells world IsSourceRow source_row_words source_row_cmp s2 s3 s4 r2 r3 r4 (λ k. k.rows)
            c.in_ok-rows.rows names.took of_rows.is.served names.others of_rows.stands);
      };
      names = record {
        is = of_names.is;
        stands = stands_since tells world IsName name_words name_cmp s0 s3 s4 r0 r3 r4 (λ k. k.names)
            c.in_ok-names.names names.settles.carries.content.before third of_names.stands;
      };
      nodes_are = nodes_on tells world s0 s3 s4 r0 r3 r4 names.settles.same.out_is third.fit.sound.served.out_made
          names.others
          (nodes_on tells world s0 s2 s3 r0 r2 r3 rows.settles.same.out_is second.fit.sound.served.out_made rows.others
          (nodes_on tells world s0 s1 s2 r0 r1 r2 queue.settles.same.out_is first.fit.sound.served.out_made queue.others
          c.in_ok-settle_nodes.ensures.nodes));
      many = refl;
    }
