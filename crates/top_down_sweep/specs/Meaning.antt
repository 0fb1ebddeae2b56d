-- What a sweep from the root down stands for as lists, and what remains of its task.
use Rattle.std.specs.Prelude.{◌≡◌, ◌==◌, ℕ, List, [], ◌∷◌, map, Bool, true, Option, Some, None, option_map}
use Rattle.std.specs.List.{list_any}
use Rattle.rec_words.specs.Words.{terminal}
use Rattle.shelf_model.specs.declared.file_no.FileNo.{FileNo}
use Rattle.shelf_model.specs.World.{World, file}
use Rattle.canon_file.specs.declared.row.Row.{Row}
use Rattle.arc_file.specs.declared.arc.Arc.{Arc}
use Rattle.arc_file.specs.declared.unreduced.Unreduced.{Unreduced}
use Rattle.arc_file.specs.Writers.{HoldsArcs, IsFileOf}
use Rattle.sweep_core.specs.Saving.{reads_of}
use Rattle.level_queue.specs.Queues as queues
use Rattle.top_down.specs.declared.tuple.Tuple.{Tuple}
use Rattle.top_down.specs.Rules.{Rule}
use Rattle.top_down_laws.specs.Forms.{Form, Waiting}
use Rattle.top_down_laws.specs.Readings.{Diagrams, Readings}
use Rattle.top_down_laws.specs.Remains as laws
use Rattle.top_down_laws.specs.Laws.{unread_all, task_table, IsWhole}
use Rattle.tuple_asks.specs.declared.ask.Member.{Member}
use Rattle.tuple_asks.specs.declared.ask.Members.{Members}
use Rattle.tuple_asks.specs.declared.ask.Ask.{Ask}
use Rattle.tuple_asks.specs.declared.place.Numbered.{Numbered}
use Rattle.tuple_asks.specs.declared.place.Asking.{Asking}
use Rattle.tuple_asks.specs.declared.place.Phase.{Phase}
use Rattle.tuple_asks.specs.declared.place.Phase.TheVariants as phases
use Rattle.top_down_sweep.specs.declared.machine.Machine.{Machine}
use Rattle.tuple_asks.specs.declared.files.Files.{Files}
use Rattle.top_down_sweep.specs.declared.sweep.TopDownSweep.{TopDownSweep}
use Rattle.top_down_sweep.specs.Sweeps.{files_in, files_of, parts_of, variables_of, IsMade}
use Rattle.top_down_sweep.specs.Waiting.{Waits, AreApart}
use Rattle.tuple_asks.specs.Readings.{AreRead, roots_of, HaveNodes}

-- an operation on diagrams of n variables: its rule, the diagrams' nodes, and the tuple of pointers
-- that it is to be made of
pub record Task : Type 0 where
  pub n : ℕ
  pub rule : Rule
  pub diagrams : Diagrams
  pub roots : Tuple
  pub is_task : laws.IsTask n rule diagrams roots

-- the table that is to be made
abbrev pub table_of : Task → List Bool
table_of t = task_table t.n t.rule t.diagrams t.roots

-- a member's two pointers, and the members as a form
abbrev pub row_of : Member → Row
row_of m = record { low = m.low; high = m.high }

abbrev pub form_of : ℕ → Members → Form
form_of key m = record {
  key = key;
  first = row_of m.first;
  second = row_of m.second;
  third = row_of m.third;
}

-- an ask as it waits, and those of a list
abbrev pub waiting_of : Ask → Waiting
waiting_of a = record { form = form_of a.key a.members; asker = a.asker }

-- the tuple that was numbered, as it was asked for
abbrev pub numbered_of : Numbered → laws.Numbered
numbered_of x = record { form = form_of x.key x.members; number = x.number }

-- the root's identifier, and the tuple that was numbered last
abbrev pub place_of : Asking → laws.Place
place_of s = laws.at_place s.root (option_map numbered_of s.last)

-- the asks that wait, how far the operands were read, and the arcs that were put
pub record Contents : Type 0 where
  pub asks : List Ask
  pub readings : Readings
  pub inner : List Arc
  pub ends : List Arc

-- an arc leads to the truth value 1, and one of those of a list does
abbrev pub leads_to_one : Arc → Bool
leads_to_one a = a.target == terminal true

abbrev pub some_one : List Arc → Bool
some_one arcs = list_any leads_to_one arcs

-- in that world the machine stands for these lists, and none of its files is another one of them
pub record StandsFor (m : Machine) (world : World) (k : Contents) : Type 0 where
  pub asks_are : Waits m.queue world k.asks
  pub read : AreRead m.operands world k.readings
  pub written : HoldsArcs m.writer world k.inner k.ends
  pub one_is : m.place.has_one ≡ some_one k.ends
  pub no_run : (f : FileNo) → IsMade (files_in m) f → ¬ queues.IsRunOf m.queue f
  pub apart : AreApart (files_in m) m.parts.step

-- what remains while asks are answered, where that ask was taken last
abbrev pub IsLeft : Task → Asking → Option Ask → Contents → Type 0
IsLeft t s last k = laws.Remains t.n t.rule t.diagrams t.roots (place_of s) (map waiting_of k.asks)
    (option_map waiting_of last) k.readings k.inner k.ends

-- the machine stands for lists that remain of the task
pub record IsWorking (t : Task) (s : Asking) (m : Machine) (world : World) : Type 0 where
  pub contents : Contents
  pub stands : StandsFor m world contents
  pub left : IsLeft t s (queues.last_of m.queue) contents

-- and that ask is the first of those that wait
pub record IsHandling (t : Task) (s : Asking) (a : Ask) (m : Machine) (world : World) : Type 0 where
  pub contents : Contents
  pub rest : List Ask
  pub first_is : contents.asks ≡ a ∷ rest
  pub stands : StandsFor m world contents
  pub left : IsLeft t s (queues.last_of m.queue) contents

-- at first nothing waits, nothing was read, and nothing was put
abbrev pub first_contents : Task → Contents
first_contents t = record { asks = []; readings = unread_all t.diagrams; inner = []; ends = [] }

-- nothing is done of the task, which begins with the operands' roots
pub record IsFresh (t : Task) (begins : Tuple → Tuple) (m : Machine) (world : World) : Type 0 where
  pub roots_are : begins (roots_of m.operands) ≡ t.roots
  pub stands : StandsFor m world (first_contents t)

-- whatever a stop leaves, the two files are these arcs and nothing else
pub record AreFilesOf (made : Unreduced) (world : World) (inner ends : List Arc) : Type 0 where
  pub inner_file : IsFileOf inner made.inner_count (file world made.inner)
  pub ends_file : IsFileOf ends made.ends_count (file world made.ends)

-- so the files are arcs in their order, which are a diagram of the task's table
pub record IsMadeOf (t : Task) (world : World) (made : Unreduced) : Type 0 where
  pub inner : List Arc
  pub ends : List Arc
  pub whole : IsWhole t.n t.rule t.diagrams t.roots made.root inner ends
  pub files : AreFilesOf made world inner ends

-- and whether one of them leads to 1 is known
pub record IsDone (t : Task) (m : Machine) (world : World) (made : Unreduced) : Type 0 where
  pub made_of : IsMadeOf t world made
  pub one_is : m.place.has_one ≡ some_one made_of.ends

-- what remains of the task in each phase
abbrev pub RemainsIn : Task → (Tuple → Tuple) → Phase → Machine → World → Type 0
RemainsIn t begins phases.Fresh m world = IsFresh t begins m world
RemainsIn t begins (phases.Asking s) m world = IsWorking t s m world
RemainsIn t begins (phases.Ended made) m world = IsDone t m world made

abbrev pub RemainsOf : Task → (Tuple → Tuple) → Machine → World → Type 0
RemainsOf t begins m world = RemainsIn t begins m.place.phase m world

-- asks are answered, and the machine stands for lists that remain of the task
abbrev pub WorksIn : Task → Phase → Machine → World → Type 0
WorksIn t phases.Fresh m world = ⊥
WorksIn t (phases.Asking s) m world = IsWorking t s m world
WorksIn t (phases.Ended made) m world = ⊥

abbrev pub WorksOn : Task → Machine → World → Type 0
WorksOn t m world = WorksIn t m.place.phase m world

-- what was made, where that is known, is of the task
abbrev pub IsMadeWhere : Task → World → Option Unreduced → Type 0
IsMadeWhere t world None = Unit
IsMadeWhere t world (Some made) = IsMadeOf t world made

-- the operation of that rule on these files is the task: by what they hold the files are those of its
-- diagrams, and none of those that the sweep writes
pub record IsTaskOver (t : Task) (rule : Rule) (begins : Tuple → Tuple) (n : ℕ) (files : Files)
    (step : ℕ) (r : FileNo → List ℕ) : Type 0 where
  pub variables_are : t.n ≡ n
  pub rule_is : t.rule ≡ rule
  pub roots : Tuple
  pub begins_are : begins roots ≡ t.roots
  pub nodes_are : HaveNodes files r n roots t.diagrams
  pub apart : AreApart files step

-- so it is in that world
abbrev pub IsTaskOn : Task → Rule → (Tuple → Tuple) → ℕ → Files → ℕ → World → Type 0
IsTaskOn t rule begins n files step world = IsTaskOver t rule begins n files step (reads_of world)

-- the operation on the files that the sweep reads is the task, and what it has done, with what is
-- left of it, does the task
pub record Remains {O : Type 0} (rule : O → Rule) (begins : O → Tuple → Tuple) (s : TopDownSweep O)
    (world : World) (t : Task) : Type 0 where
  pub on_files : IsTaskOn t (rule s.operation) (begins s.operation) (variables_of s) (files_of s)
      (parts_of s).step world
  pub left : RemainsOf t (begins s.operation) s.machine world
