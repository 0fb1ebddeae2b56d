use Rattle.std.proofs.Common.{refl, sym, ◌∙◌}
use Rattle.std.proofs.lemmas.Bool.{true≢false}
use Rattle.saved_words.proofs.Placing.{if_none}
use Rattle.saved_words.proofs.Missing.{none_stands, some_stands, not_zeros, not_value}
use Rattle.saved_words.proofs.joined.OptionCarried.get.Goals as goal

pub returns-in_err-get-in-1-clause-none : goal.returns-in_err-get-in-1-clause-none
returns-in_err-get-in-1-clause-none g c = if_none c.from_residual-in_err-get-in-1.result
    (not_value _ g.A.Carried.words g.A.Carried.is_value _ _ _ c.in_ok-next.ensures.found.0
    c.in_ok-next.ensures.found.1 c.in-1.is c.in_err-get-in-1.ensures.none)

pub returns-then-get_none-clause-found : goal.returns-then-get_none-clause-found
returns-then-get_none-clause-found g c =
    none_stands _ g.A.Carried.words g.A.Carried.is_value _ _ _ c.in_ok-next.ensures.found.0
    c.in_ok-next.ensures.found.1 c.in-0.is (c.if-get_none.ensures.zeros.0 refl)

pub returns-else-get_none-clause-none : goal.returns-else-get_none-clause-none
returns-else-get_none-clause-none g c =
    not_zeros _ g.A.Carried.words g.A.Carried.is_value _ _ _ c.in_ok-next.ensures.found.0 c.in_ok-next.ensures.found.1
    c.in-0.is
    (λ zeros. true≢false (sym (c.get_none.ensures.zeros.1 zeros) ∙ c.if-get_none.false))

pub returns-in_ok-get-in-1-clause-found : goal.returns-in_ok-get-in-1-clause-found
returns-in_ok-get-in-1-clause-found g c =
    some_stands _ g.A.Carried.words g.A.Carried.is_value _ _ _ c.in_ok-next.ensures.found.0
    c.in_ok-next.ensures.found.1 _ c.in-1.is c.in_ok-get-in-1.ensures.found
