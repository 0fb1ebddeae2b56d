-- Statements read one after the other.
use Rattle.std.proofs.Common.{◌≡◌, true, false, List, [], ◌∷◌, ◌++◌, filter, cond, Result, Ok, Err, refl, sym, ap, ◌∙◌, append_assoc}
use Rattle.std.specs.Result.{IsErrAnd}
use Rattle.std.proofs.lemmas.Result.{err_from_is_err_and}
use Rattle.std.proofs.lemmas.List.{append-nil}
use Rattle.text_words.specs.Text as text
use Rattle.blif_reader.specs.declared.fault.BlifFault.{BlifFault}
use Rattle.blif_reader.specs.declared.fault.Refusal.{Refusal}
use Rattle.blif_reader.specs.declared.fault.Refusal.TheVariants as refusals
use Rattle.blif_reader.specs.declared.fault.BlifKind.{BlifKind}
use Rattle.blif_reader.specs.declared.grammar.Kind.{Kind}
use Rattle.blif_reader.specs.declared.grammar.Context.{Context}
use Rattle.blif_reader.specs.Grammar.{kind_of}
use Rattle.blif_reader.specs.Text.{Line, has_words, joined}
use Rattle.blif_reader.proofs.Joins.{joined_none}
use Rattle.blif_reader.specs.Statements.{◌>>=◌, on_line, Fails, Gives, Statement, statement, after_statement, at_end, statements}

-- statements that were read, before those that are still read
abbrev pub with_front : List Statement → Result (List Statement) BlifFault → Result (List Statement) BlifFault
with_front front read = read >>= λ ss. Ok (front ++ ss)

regroup : (front : List Statement) (s : Statement) (read : Result (List Statement) BlifFault) → with_front front (read >>= λ ss. Ok (s ∷ ss)) ≡ with_front (front ++ s ∷ []) read
regroup front s (Ok ss) = ap Ok (sym (append_assoc front (s ∷ []) ss))
regroup front s (Err f) = refl

-- none was read so far
pub none_so_far : (read : Result (List Statement) BlifFault) → with_front [] read ≡ read
none_so_far (Ok ss) = refl
none_so_far (Err f) = refl

-- a line without words adds nothing
pub skips : (front : List Statement) (context : Context) (l : Line) (ls all : List Line) (total : Result (List Statement) BlifFault) → all ≡ l ∷ ls → has_words l ≡ false
    → with_front front (statements context (filter has_words all)) ≡ total → with_front front (statements context (filter has_words ls)) ≡ total
skips front context l ls all total split none so_far =
    sym (ap (λ us. with_front front (statements context (filter has_words us))) split ∙ ap (λ b. with_front front (statements context (cond b (l ∷ filter has_words ls) (filter has_words ls)))) none) ∙ so_far

taken : (context : Context) (l : Line) (ls all : List Line) → all ≡ l ∷ ls → has_words l ≡ true → filter has_words all ≡ l ∷ filter has_words ls
taken context l ls all split some = ap (filter has_words) split ∙ ap (λ b. cond b (l ∷ filter has_words ls) (filter has_words ls)) some

-- a statement is added
pub reads : (front : List Statement) (context : Context) (l : Line) (ls all : List Line) (s : Statement) (total : Result (List Statement) BlifFault) → all ≡ l ∷ ls → has_words l ≡ true → statement context l ≡ Ok s
    → with_front front (statements context (filter has_words all)) ≡ total → with_front (front ++ s ∷ []) (statements (after_statement context s) (filter has_words ls)) ≡ total
unfolding statements
reads front context l ls all s total split some e so_far =
    let rest = statements (after_statement context s) (filter has_words ls) in
    sym (ap (λ us. with_front front (statements context us)) (taken context l ls all split some)
    ∙ ap (λ r. with_front front (r >>= λ t. statements (after_statement context t) (filter has_words ls) >>= λ ss. Ok (t ∷ ss))) e
    ∙ regroup front s rest) ∙ so_far

-- a line that is no statement ends the reading
pub stops : (e : Refusal) (front : List Statement) (context : Context) (l : Line) (ls all : List Line) (total : Result (List Statement) BlifFault) → all ≡ l ∷ ls → has_words l ≡ true → Fails e (statement context l)
    → with_front front (statements context (filter has_words all)) ≡ total → Fails e total
unfolding statements
stops refusals.Memory front context l ls all total split some fails so_far = tt
stops (refusals.Fault f) front context l ls all total split some fails so_far =
    sym so_far ∙ ap (λ us. with_front front (statements context us)) (taken context l ls all split some)
    ∙ ap (λ r. with_front front (r >>= λ t. statements (after_statement context t) (filter has_words ls) >>= λ ss. Ok (t ∷ ss))) fails

-- the end of the text
pub ends : (front : List Statement) (context : Context) (total : Result (List Statement) BlifFault) → with_front front (statements context []) ≡ total → with_front front (at_end context) ≡ total
unfolding statements
ends front context total so_far = so_far

-- where the end is no fault, what was read is all
pub ends_well : (front : List Statement) (context : Context) (total : Result (List Statement) BlifFault) → at_end context ≡ Ok [] → with_front front (statements context []) ≡ total → total ≡ Ok front
unfolding statements
ends_well front context total e so_far = sym so_far ∙ ap (with_front front) e ∙ ap Ok (append-nil front)

-- where it is one, it is the fault of the text
pub ends_badly : (e : Refusal) (front : List Statement) (context : Context) (total : Result (List Statement) BlifFault) → Fails e (at_end context) → with_front front (statements context []) ≡ total → Fails e total
unfolding statements
ends_badly refusals.Memory front context total fails so_far = tt
ends_badly (refusals.Fault f) front context total fails so_far = sym so_far ∙ ap (with_front front) fails

-- no line is left
pub at_the_end : (ls : List text.Line) → ls ≡ [] → filter has_words (joined ls) ≡ []
at_the_end ls e = ap (λ us. filter has_words (joined us)) e ∙ ap (filter has_words) joined_none

-- what a question mark passes on
pub passes_on : {X : Type 0} (view : X → List Statement) (r : Result X Refusal) (e : Refusal) (total : Result (List Statement) BlifFault) → IsErrAnd r (λ y. y ≡ e) → Fails e total → Gives view r total
passes_on view r e total exits fails =
    let p = err_from_is_err_and r exits in
    rw (p.1, p.2) fails

-- a statement has the words of its line
pub words_stay : (context : Context) (l : Line) (s : Statement) → statement context l ≡ Ok s → s.words ≡ l.words
words_stay context l s h = by_kind l s (kind_of context l.words) h where
  by_kind : (l : Line) (s : Statement) (r : Result Kind BlifKind) → (on_line l.number r >>= λ k. Ok (record { line = l.number; kind = k; words = l.words })) ≡ Ok s → s.words ≡ l.words
  by_kind l s (Ok k) q = let e : record { line = l.number; kind = k; words = l.words } ≡ s = cc in sym (ap (λ (t : Statement). t.words) e)
  by_kind l s (Err k) q = absurd (cc)
