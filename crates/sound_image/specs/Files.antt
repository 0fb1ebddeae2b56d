-- The files of a step.
pub use Rattle.file_numbers.specs.Files.{nodes_part, checkpoint_part, inner_part, ends_part, node_file, checkpoint_gate}
