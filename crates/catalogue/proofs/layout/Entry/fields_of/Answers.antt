use Rattle.std.proofs.Common.{sym, ◌∙◌}
use Rattle.catalogue.proofs.Fields.{entry_reads, same_fields}
use Rattle.catalogue.proofs.layout.Entry.fields_of.Goals as goal

pub returns-clause-read : goal.returns-clause-read
returns-clause-read c = λ e fits same.
    let reads = entry_reads e c.args.bytes.now fits same in
    same_fields e _ (reads.number ∙ sym c.read_u32.ensures) reads.kind reads.answer (reads.count ∙ sym c.read_u64.ensures) (reads.turns ∙ sym c.read_u64-2.ensures) (reads.parts ∙ sym c.read_u64-3.ensures) reads.name_len (reads.name ∙ sym c.copy_from_slice.ensures.after)
