use Rattle.top_down.proofs.GrownLaws.{open_stands, closed_stands}
use Rattle.top_down.proofs.laws.what_is_made_stands_for_the_roots.Goals as goal

pub returns : goal.returns
returns c = record {
  opened = λ n rule targets top laws roots root inner ends asks used tuple whole asked goes g completes.
      open_stands n root rule targets top laws inner ends asks used tuple g whole completes roots asked goes;
  closed = λ n rule targets top laws roots root inner ends used tuple asked goes g. closed_stands n root rule targets top laws inner ends used tuple g roots asked goes;
}
