-- What a sweep that has ended answers.
use Rattle.std.proofs.Common.{◌≡◌, ℕ, ◌∙◌, Bool, List}
use Rattle.std.specs.Prelude.{Some}
use Rattle.bool_tables.specs.Steps.{eval_at}
use Rattle.bool_tables.specs.Tables.{same_bits}
use Rattle.rec_words.specs.declared.node.Node.{Node}
use Rattle.shelf_model.specs.World.{World}
use Rattle.node_file.specs.declared.reader.NodeReader.{NodeReader}
use Rattle.node_file.specs.Readers.{trailer_of}
use Rattle.restrict_eval.specs.declared.comparing.Comparing.{Comparing}
use Rattle.restrict_eval.specs.declared.comparing.Comparing.TheVariants as comparing
use Rattle.restrict_eval.specs.declared.following.Following.{Following}
use Rattle.restrict_eval.specs.declared.following.Following.TheVariants as following
use Rattle.restrict_eval.specs.declared.eval.EvalSweep.{EvalSweep}
use Rattle.restrict_eval.specs.declared.same.SameSweep.{SameSweep}
use Rattle.restrict_eval.specs.Eval as eval
use Rattle.restrict_eval.specs.Same as same

compared_answer : (state : Comparing) (d : same.Tables) (left right : NodeReader) (world : World) (answer : Bool)
    → same.answer_at state ≡ Some answer → same.AreCompared state d left right world
    → answer ≡ same_bits d.first d.second
compared_answer comparing.Level d left right world answer is compared = cc
compared_answer (comparing.Ahead x) d left right world answer is compared = cc
compared_answer (comparing.Answered b) d left right world answer is compared = cc

-- the answer of a comparison is whether the tables are the same
pub same_answer : (s : SameSweep) (world : World) (d : same.Tables) (answer : Bool) → same.answer_of s ≡ Some answer
    → same.RemainsOf s world d → answer ≡ same_bits d.first d.second
same_answer s world d answer is remains = compared_answer s.state d s.left s.right world answer is remains.compared

followed_answer : (state : Following) (r : NodeReader) (bytes : List ℕ) (nodes : List Node) (bits : List Bool)
    (value answer : Bool) → eval.answer_at state ≡ Some answer → eval.IsFollowed state r bytes nodes bits value
    → answer ≡ value
followed_answer (following.To next) r bytes nodes bits value answer is followed = cc
followed_answer (following.Past q) r bytes nodes bits value answer is followed = cc
followed_answer (following.Answered b) r bytes nodes bits value answer is followed = cc

-- the answer of an evaluation is the table's value
pub eval_answer : (s : EvalSweep) (world : World) (d : eval.OneTable) (n at : ℕ) (text : List ℕ) (answer : Bool)
    → eval.answer_of s ≡ Some answer → (trailer_of s.nodes).n ≡ n → s.text.now ≡ text → s.at ≡ at
    → eval.RemainsOf s world d → answer ≡ eval_at n text d.table at
eval_answer s world d n at text answer is variables bytes place remains =
    followed_answer s.state s.nodes _ _ _ _ answer is remains.followed
    ∙ (λ i. eval_at (variables i) (bytes i) d.table (place i))
