-- What remains of a reduction: a relation between its place and the lists that it holds.
use Rattle.std.specs.Prelude.{◌≡◌, ℕ, ◌≤◌, ◌^◌, Bool, List, [], length, Some}
use Rattle.shelf_model.specs.File.{firm_file}
use Rattle.shelf_model.specs.World.{World, file}
use Rattle.canon_file.specs.declared.row.Row.{Row}
use Rattle.canon_file.specs.Members.{Has}
use Rattle.canon_file.specs.Canon.{canon_nodes, canon_bytes}
use Rattle.arc_file.specs.declared.arc.Arc.{Arc}
use Rattle.arc_diagrams.specs.Laws.{IsDiagramOf}
use Rattle.arc_diagrams.specs.Reducing.{Remains, IsCollecting, IsNumbering, IsForwarding, noted_arcs}
use Rattle.reduce_lists.specs.Contents.{Contents, to_collect, IsTakenTo, Holds}
use Rattle.reduce_sweep.specs.declared.source.Source.{Source}
use Rattle.reduce_sweep.specs.declared.phase.Numbered.{Numbered}
use Rattle.reduce_sweep.specs.declared.phase.Phase.{Phase}
use Rattle.reduce_sweep.specs.declared.phase.Phase.TheVariants.{Between, Collect, Number, Forward, Ended}
use Rattle.reduce_sweep.specs.declared.place.Place.{Place}
use Rattle.reduce_sweep.specs.declared.reduce.ReduceSweep.{ReduceSweep}
use Rattle.reduce_sweep.specs.Sweeps.{out_of, count_in}

-- a diagram that is to be reduced: its arcs, and the table that they stand for
pub record Diagram : Type 0 where
  pub arcs : List Arc
  pub table : List Bool

-- the arcs of the source at hand that were noted
abbrev pub noted : Source → List Arc
noted source = noted_arcs source.uid source.low source.high

-- the deeper levels are done
pub record IsBetween (n root level known : ℕ) (d : Diagram) (k : Contents) : Type 0 where
  pub within : level ≤ n
  pub remains : Remains n root level d.arcs (to_collect k) k.inner k.nodes (Some known)
  pub no_rows : k.rows ≡ []
  pub no_names : k.names ≡ []

-- the sources of the level are collected, and an arc of the one at hand was noted
pub record IsCollected (n root level known : ℕ) (source : Source) (d : Diagram)
    (k : Contents) : Type 0 where
  pub collecting : IsCollecting n root level d.arcs (to_collect k) (noted source) k.inner k.rows k.names k.nodes (Some known)
  pub one : (p : Arc) × Has p (noted source)

-- some rows have numbers: as many as were given, and the last of them is at hand
pub record IsNumbered (n root level known : ℕ) (numbered : Numbered) (d : Diagram)
    (k : Contents) : Type 0 where
  pub done : List Row
  pub numbering : IsNumbering n root level d.arcs (to_collect k) k.inner done numbered.last k.rows k.names k.nodes (Some known)
  pub number_is : numbered.number ≡ length done

-- names are forwarded
pub record IsForwarded (n root level known : ℕ) (d : Diagram) (k : Contents) : Type 0 where
  pub forwarding : IsForwarding n root level d.arcs (to_collect k) k.inner k.names k.nodes (Some known)
  pub no_rows : k.rows ≡ []

-- what remains in each phase
abbrev pub RemainsAt : Phase → ℕ → ℕ → ℕ → ℕ → Diagram → Contents → Type 0
RemainsAt Between n root level known d k = IsBetween n root level known d k
RemainsAt (Collect source) n root level known d k = IsCollected n root level known source d k
RemainsAt (Number numbered) n root level known d k = IsNumbered n root level known numbered d k
RemainsAt Forward n root level known d k = IsForwarded n root level known d k
RemainsAt (Ended count) n root level known d k = ⊥

-- the diagram is one of so many variables and of that root, of at most 2 ^ 47 arcs
pub record IsOf (n root : ℕ) (d : Diagram) : Type 0 where
  pub few : n ≤ 65535
  pub few_arcs : length d.arcs ≤ 2 ^ 47
  pub diagram : IsDiagramOf n root d.arcs d.table

-- what remains to be done from a place on, with these lists
pub record IsLeft (p : Place) (d : Diagram) (k : Contents) : Type 0 where
  pub is_of : IsOf p.variables p.arcs.root d
  pub taken : IsTakenTo p.level k.last
  pub remains : RemainsAt p.phase p.variables p.arcs.root p.level p.known d k

-- while the sweep works: what it holds is what remains from its place on
pub record IsWorking (s : ReduceSweep) (world : World) (d : Diagram) : Type 0 where
  pub contents : Contents
  pub holds : Holds s.ahead s.lists s.writer world contents
  pub left : IsLeft s.place d contents

-- the file has the canonical bytes of the table, whatever a stop leaves, and its nodes are counted
pub record IsReduced (s : ReduceSweep) (world : World) (d : Diagram) : Type 0 where
  pub firm : file world (out_of s) ≡ firm_file (canon_bytes s.place.variables d.table)
  pub count_is : count_in s ≡ Some (length (canon_nodes s.place.variables d.table))

-- what remains of the reduction of a diagram leads to the canonical file of its table
abbrev pub RemainsIn : Phase → ReduceSweep → World → Diagram → Type 0
RemainsIn Between s world d = IsWorking s world d
RemainsIn (Collect source) s world d = IsWorking s world d
RemainsIn (Number numbered) s world d = IsWorking s world d
RemainsIn Forward s world d = IsWorking s world d
RemainsIn (Ended count) s world d = IsReduced s world d

abbrev pub RemainsOf : ReduceSweep → World → Diagram → Type 0
RemainsOf s world d = RemainsIn s.place.phase s world d
