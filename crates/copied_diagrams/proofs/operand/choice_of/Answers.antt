use Rattle.std.specs.Prelude.{true, false}
use Rattle.copied_diagrams.specs.declared.operand.Operand.TheVariants.{Left, Right}
use Rattle.copied_diagrams.specs.declared.operand.Choice.{Choice}
use Rattle.copied_diagrams.specs.declared.operand.Choice.TheVariants.{Constant, Copy, Complement}
use Rattle.copied_diagrams.specs.Operands.{IsResult}
use Rattle.copied_diagrams.proofs.operand.choice_of.Goals as goal

-- each was tried
pub returns-else-is_result-6-clause-none : goal.returns-else-is_result-6-clause-none
returns-else-is_result-6-clause-none c choice is = by choice is
  where
    by : (choice : Choice) → IsResult c.args.op c.args.known.now.same c.args.known.now.left c.args.known.now.right choice → ⊥
    by (Constant false) is = let no = c.if-is_result.false in let yes = c.is_result.ensures.1 is in cc
    by (Constant true) is = let no = c.if-is_result-2.false in let yes = c.is_result-else-is_result.ensures.1 is in cc
    by (Copy Left) is = let no = c.if-is_result-3.false in let yes = c.is_result-else-is_result-2.ensures.1 is in cc
    by (Copy Right) is = let no = c.if-is_result-4.false in let yes = c.is_result-else-is_result-3.ensures.1 is in cc
    by (Complement Left) is = let no = c.if-is_result-5.false in let yes = c.is_result-else-is_result-4.ensures.1 is in cc
    by (Complement Right) is = let no = c.if-is_result-6.false in let yes = c.is_result-else-is_result-5.ensures.1 is in cc
