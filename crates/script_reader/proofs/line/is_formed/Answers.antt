use Rattle.std.proofs.Common.{arith}
use Rattle.std.proofs.lemmas.Grind.{common_steps}
use Rattle.script_reader.proofs.line.is_formed.Goals as goal

pub returns-then-not-begun : goal.returns-then-not-begun
returns-then-not-begun c = grind (arith, common_steps)

pub returns-then-words-eq3 : goal.returns-then-words-eq3
returns-then-words-eq3 c = grind (arith, common_steps)

pub returns-else-words-eq3 : goal.returns-else-words-eq3
returns-else-words-eq3 c = grind (arith, common_steps)

pub returns-in-Var : goal.returns-in-Var
returns-in-Var c = grind (arith, common_steps)

pub returns-in-Not : goal.returns-in-Not
returns-in-Not c = grind (arith, common_steps)

pub returns-in-Pair : goal.returns-in-Pair
returns-in-Pair c = grind (arith, common_steps)

pub returns-in-Ite : goal.returns-in-Ite
returns-in-Ite c = grind (arith, common_steps)

pub returns-in-Quantify : goal.returns-in-Quantify
returns-in-Quantify c = grind (arith, common_steps)

pub returns-then-words-eq5 : goal.returns-then-words-eq5
returns-then-words-eq5 c = grind (arith, common_steps)

pub returns-else-words-eq5 : goal.returns-else-words-eq5
returns-else-words-eq5 c = grind (arith, common_steps)

pub returns-then-words-ge3 : goal.returns-then-words-ge3
returns-then-words-ge3 c = grind (arith, common_steps)

pub returns-else-words-ge3 : goal.returns-else-words-ge3
returns-else-words-ge3 c = grind (arith, common_steps)

pub returns-in-Drop : goal.returns-in-Drop
returns-in-Drop c = grind (arith, common_steps)

pub returns-in-Same : goal.returns-in-Same
returns-in-Same c = grind (arith, common_steps)

pub returns-in-Leq : goal.returns-in-Leq
returns-in-Leq c = grind (arith, common_steps)

pub returns-then-words-eq3-2 : goal.returns-then-words-eq3-2
returns-then-words-eq3-2 c = grind (arith, common_steps)

pub returns-then-words-eq2 : goal.returns-then-words-eq2
returns-then-words-eq2 c = grind (arith, common_steps)

pub returns-else-words-eq2 : goal.returns-else-words-eq2
returns-else-words-eq2 c = grind (arith, common_steps)

pub returns-in-Size : goal.returns-in-Size
returns-in-Size c = grind (arith, common_steps)
