-- The netlist that tables in memory stand for.
use Rattle.std.specs.Prelude.{map}
use Rattle.depth_first.specs.Views.{graph_of}
use Rattle.blif_reader.specs.declared.tables.Tables.{Tables}
use Rattle.blif_reader.specs.Netlist.{Net}
use Rattle.blif_reader.specs.Views.{names_in, cover_of}

abbrev pub net_in : Tables → Net
net_in t = record {
  inputs = t.inputs;
  names = names_in t.names;
  edges = graph_of t.edges.items;
  covers = map cover_of t.covers.items;
  outputs = t.outputs.items;
}
