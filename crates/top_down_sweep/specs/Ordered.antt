-- The arcs that a sweep has put, in the order of their files, whatever the operands' files hold.
use Rattle.std.specs.Prelude.{◌≡◌, ℕ, ◌≤◌, false, true, List, [], All, Option, Some, None}
use Rattle.std.specs.Ordering.{is_lt}
use Rattle.shelf_model.specs.World.{World, file}
use Rattle.arc_file.specs.declared.arc.Arc.{Arc}
use Rattle.arc_file.specs.declared.kind.Kind.TheVariants.{Inner, End}
use Rattle.arc_file.specs.declared.unreduced.Unreduced.{Unreduced}
use Rattle.arc_file.specs.declared.writer.ArcWriter.{ArcWriter}
use Rattle.arc_file.specs.Files.{Leads, IsInnerOrder, IsEndOrder, HasArcs}
use Rattle.arc_file.specs.Writers.{HoldsArcs}
use Rattle.level_queue.specs.Queues.{last_of}
use Rattle.tuple_asks.specs.declared.ask.Ask.{Ask}
use Rattle.tuple_asks.specs.declared.place.Numbered.{Numbered}
use Rattle.tuple_asks.specs.declared.place.Asking.{Asking}
use Rattle.tuple_asks.specs.declared.place.Phase.{Phase}
use Rattle.tuple_asks.specs.declared.place.Phase.TheVariants as phases
use Rattle.top_down_sweep.specs.declared.machine.Machine.{Machine}
use Rattle.tuple_asks.specs.Items.{ask_cmp}
use Rattle.tuple_asks.specs.Soundness.{asker_word, identifier}

-- the two files have arcs, each in the order of its file
pub record AreOrdered (made : Unreduced) (world : World) : Type 0 where
  pub inner : List Arc
  pub ends : List Arc
  pub inner_has : HasArcs Inner inner made.inner_count (file world made.inner).bytes
  pub ends_has : HasArcs End ends made.ends_count (file world made.ends).bytes

-- the word of an arc's source, on its side
abbrev pub source_word : Arc → ℕ
source_word a = asker_word (record { uid = a.source; high = a.high })

-- arcs to nodes, in their order: none leads behind that node, and to it none from behind that asker
pub record AreInnerTo (target asker : ℕ) (xs : List Arc) : Type 0 where
  pub lead : All (Leads Inner) xs
  pub ordered : IsInnerOrder xs
  pub targets : All (λ a. a.target ≤ target) xs
  pub askers : All (λ a. a.target ≡ target → source_word a ≤ asker) xs

-- arcs to truth values, in their order: none is from behind that asker
pub record AreEndsTo (asker : ℕ) (xs : List Arc) : Type 0 where
  pub lead : All (Leads End) xs
  pub ordered : IsEndOrder xs
  pub askers : All (λ a. source_word a ≤ asker) xs

-- the arcs to nodes go up to the tuple that was numbered last, and to the last of its asks that was answered, which
-- comes no later than the last ask that was taken; those to truth values are from nodes up to that tuple
pub record ArePutTo (x : Numbered) (taken : Option Ask) (inner ends : List Arc) : Type 0 where
  pub last : Ask
  pub last_is : taken ≡ Some last
  pub asker : ℕ
  pub reached : is_lt (ask_cmp last (record { key = x.key; members = x.members; asker = asker })) ≡ false
  pub inner_are : AreInnerTo (identifier x) asker inner
  pub ends_are : AreEndsTo (asker_word (record { uid = identifier x; high = true })) ends

-- and while no tuple has a number there are none
abbrev pub ArePut : Option Numbered → Option Ask → List Arc → List Arc → Type 0
ArePut None taken inner ends = (inner ≡ []) × (ends ≡ [])
ArePut (Some x) taken inner ends = ArePutTo x taken inner ends

-- such arcs the machine's files are to hold
pub record HoldsPut (s : Asking) (m : Machine) (world : World) : Type 0 where
  pub inner : List Arc
  pub ends : List Arc
  pub held : HoldsArcs m.writer world inner ends
  pub put : ArePut s.last (last_of m.queue) inner ends

-- the files are to hold arcs in their order
pub record HoldsOrdered (w : ArcWriter) (world : World) : Type 0 where
  pub inner : List Arc
  pub ends : List Arc
  pub held : HoldsArcs w world inner ends
  pub inner_lead : All (Leads Inner) inner
  pub inner_order : IsInnerOrder inner
  pub ends_lead : All (Leads End) ends
  pub ends_order : IsEndOrder ends

-- what was put in each phase
abbrev pub IsOrderedAt : Phase → Machine → World → Type 0
IsOrderedAt phases.Fresh m world = HoldsArcs m.writer world [] []
IsOrderedAt (phases.Asking s) m world = HoldsPut s m world
IsOrderedAt (phases.Ended made) m world = AreOrdered made world

abbrev pub IsOrdered : Machine → World → Type 0
IsOrdered m world = IsOrderedAt m.place.phase m world

-- what the files were to hold, they are to hold still
abbrev pub KeepsArcs : Machine → World → Machine → World → Type 0
KeepsArcs m old q new = (xs ys : List Arc) → HoldsArcs m.writer old xs ys → HoldsArcs q.writer new xs ys
