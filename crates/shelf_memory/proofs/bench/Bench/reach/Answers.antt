use Rattle.std.proofs.Common.{sym, ap, ◌∙◌, ◌||◌, IsTrue, IsErr}
use Rattle.shelf_memory.specs.Changes.{changed}
use Rattle.shelf_memory.specs.Disks.{clock_after}
use Rattle.shelf_memory.proofs.Endings.{fails_exactly, on_failure}
use Rattle.shelf_memory.proofs.Reached.{reached, told_before, bytes_kept, told_bytes}
use Rattle.shelf_memory.proofs.bench.Bench.reach.Goals as goal

pub returns-clause-content : goal.returns-clause-content
returns-clause-content c = record {
  before = told_before c.args.self.now c.change.new.self c.change.ensures.past;
  did = reached c.args.self.now c.change.new.self c.end_folder_call.new.self c.args.f (changed c.args.change) c.change.result c.change.ensures.clock c.change.ensures.past
      c.change.ensures.ok c.change.ensures.others c.end_folder_call.ensures.inside_is c.end_folder_call.ensures.strays_are;
}

pub returns-clause-exactly : goal.returns-clause-exactly
returns-clause-exactly c =
    let ends = c.end_folder_call.ensures in
    let same = λ (failed : IsErr c.end_folder_call.result). bytes_kept c.args.self.now c.change.new.self c.args.f (changed c.args.change) c.args.fails c.change.result
    c.requires.harmless c.change.ensures.ok c.change.ensures.err c.change.ensures.others
    (ap (λ b. c.args.fails || b) (sym c.is_err-refused.ensures.value) ∙ sym ends.answer_is ∙ failed) in
    fails_exactly (IsTrue c.args.fails) c.args.fails c.is_err-refused.result c.end_folder_call.result c.args.self.now _ ((λ e. e), (λ e. e)) ends.answer_is ends.starved_is ends.starved_later
    (c.change.ensures.clock ∙ ap (λ b. clock_after b c.args.self.now.disk.clock) (sym c.is_err-refused.ensures.value))
    (on_failure c.end_folder_call.result _ (λ failed. record {
      files_are = same failed;
      said_is = c.change.ensures.others.said_is;
      told_are = told_bytes c.args.self.now c.change.new.self c.end_folder_call.new.self c.change.ensures.past (same failed);
    }))
    c.observe.ensures.listed c.observe.ensures.watch
