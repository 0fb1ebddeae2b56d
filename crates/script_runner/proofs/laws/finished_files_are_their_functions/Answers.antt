use Rattle.script_runner.proofs.FinishedFiles.{finished_means, finished_equal}
use Rattle.script_runner.proofs.laws.finished_files_are_their_functions.Goals as goal

pub returns-clause-means : goal.returns-clause-means
returns-clause-means c = finished_means c.nodes_stand_for_the_table.ensures.walks

pub returns-clause-equal : goal.returns-clause-equal
returns-clause-equal c = finished_equal c.bytes_are_unique.ensures
