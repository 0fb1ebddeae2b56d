use Rattle.std.proofs.Common.{◌∙◌, arith}
use Rattle.std.specs.Prelude.{Ok, Err}
use Rattle.diagram_list.specs.declared.fault.ListFault.TheVariants.{Shelf, Say, Damaged}
use Rattle.script_runner.specs.declared.ending.Ending.TheVariants as ending
use Rattle.script_runner.proofs.EnteredRuns.{said_or, whole_line}
use Rattle.script_runner.proofs.Listings.{same_fault, list_not_entered, entered_list, entered_damaged}
use Rattle.script_runner.proofs.listed.list_in.Goals as goal

pub returns-in_default-clause-content : goal.returns-in_default-clause-content
returns-in_default-clause-content g c =
    list_not_entered g.W.Shelf.tells g.W.Shelf.world (λ s told f. g.met.W.Shelf.files_are s told f) c.args.folder.now _ _ _ c.in_default.ensures.content

pub returns-in-Ok-list_diagrams-clause-content : goal.returns-in-Ok-list_diagrams-clause-content
returns-in-Ok-list_diagrams-clause-content g c =
    entered_list g.W.Shelf.tells g.W.Shelf.world (λ s told f. g.met.W.Shelf.files_are s told f) c.args.folder.now (Ok c.in-Ok-list_diagrams.field-0) c.in-Ok.field-0 _ _ _ tt
    c.in-Ok.ensures.content c.in-Ok-list_diagrams.ensures.content

pub returns-in-Err-Shelf-clause-content : goal.returns-in-Err-Shelf-clause-content
returns-in-Err-Shelf-clause-content g c =
    entered_list g.W.Shelf.tells g.W.Shelf.world (λ s told f. g.met.W.Shelf.files_are s told f) c.args.folder.now (Err Shelf) c.in-Ok.field-0 _ _ _ tt
    c.in-Ok.ensures.content (same_fault g.W.Shelf.tells g.W.Shelf.world _ Shelf _ _ c.in-Err-Shelf.field-0-is c.in-Err-Shelf.ensures.content)

pub returns-in-Err-Say-clause-content : goal.returns-in-Err-Say-clause-content
returns-in-Err-Say-clause-content g c =
    entered_list g.W.Shelf.tells g.W.Shelf.world (λ s told f. g.met.W.Shelf.files_are s told f) c.args.folder.now (Err Say) c.in-Ok.field-0 _ _ _ tt
    c.in-Ok.ensures.content (same_fault g.W.Shelf.tells g.W.Shelf.world _ Say _ _ c.in-Err-Say.field-0-is c.in-Err-Say.ensures.content)

pub returns-in-Err-Damaged-clause-content : goal.returns-in-Err-Damaged-clause-content
returns-in-Err-Damaged-clause-content g c =
    entered_damaged g.W.Shelf.tells g.W.Shelf.world (λ s told f. g.met.W.Shelf.files_are s told f) c.args.folder.now c.in-Err-Damaged.file c.in-Err-Damaged.at _ c.as_bytes.result.now c.in-Ok.field-0 _ _ _ _
    (said_or ending.Damaged c.say_refusal.result c.say_refusal.ensures.which) (c.as_bytes.ensures.value ∙ c.as_str.ensures.value ∙ c.damaged_line.ensures.text)
    c.in-Ok.ensures.content
    (same_fault g.W.Shelf.tells g.W.Shelf.world _ (Damaged c.in-Err-Damaged.file c.in-Err-Damaged.at) _ _ c.in-Err-Damaged.field-0-is c.in-Err-Damaged.ensures.content)
    c.say_refusal.ensures.content
    (λ ten. c.say_refusal.ensures.whole (whole_line ending.Damaged c.say_refusal.result (λ x. omega (arith, x)) c.say_refusal.ensures.which ten))
