use Rattle.std.proofs.Common.{◌≡◌, ◌∙◌, ◌++◌, ◌∷◌, [], refl, sym, map, ap, arith, length}
use Rattle.std.proofs.lemmas.Grind.{common_steps}
use Rattle.std.proofs.lemmas.List.{map_push}
use Rattle.text_words.specs.Text as text
use Rattle.text_words.specs.Left.{lines_left}
use Rattle.blif_reader.specs.Grammar.{Shape, after}
use Rattle.blif_reader.specs.Text.{joined}
use Rattle.blif_reader.specs.Lines.{line_of}
use Rattle.blif_reader.specs.Statements.{statement_of, after_statement}
use Rattle.blif_reader.proofs.Pieces.{lines_few}
use Rattle.blif_reader.proofs.Joins.{has_some}
use Rattle.blif_reader.proofs.Reading.{words_stay, reads, stops, ends_well, ends_badly, at_the_end, passes_on}
use Rattle.blif_reader.proofs.statements.read_statements.Goals as goal

pub returns-in_err-next-clause-read : goal.returns-in_err-next-clause-read
returns-in_err-next-clause-read c =
    let some = has_some c.in-Some.line c.in-Some.ensures.shown c.if-line-eq0.false in
    passes_on _ _ c.in_err-next.field-0.0 _ c.from_residual.ensures.1
    (stops c.in_err-next.field-0.0 (map statement_of c.lines.found.items) c.lines.context (line_of c.in-Some.line) (joined (lines_left c.next_line.new.lines)) (joined (lines_left c.lines.lines)) _ c.in-Some.ensures.first some c.in_err-next.ensures c.lines.invariant.same)

pub lines-preserved : goal.lines-preserved
lines-preserved c =
    let next = statement_of c.in_ok-next.next in
    let line = line_of c.in-Some.line in
    let some = has_some c.in-Some.line c.in-Some.ensures.shown c.if-line-eq0.false in
    let pushed : map statement_of c.push.new.self.items ≡ map statement_of c.lines.found.items ++ next ∷ [] = rw c.in_ok-push.ensures.items (map_push _ c.lines.found.items c.in_ok-next.next) in
    let same : next.words ≡ line.words = words_stay c.lines.context line next c.in_ok-next.ensures in
    let count : c.in-Some.line.shape.count ≡ length next.words = ap (λ (s : Shape). s.count) c.in-Some.ensures.shown ∙ ap length (sym same) in
    let behind : c.context_after-context.result ≡ after_statement c.lines.context next = c.context_after-context.ensures ∙ ap (after c.lines.context c.in_ok-next.next.kind) count in
    record {
      same = rw (pushed, behind) (reads (map statement_of c.lines.found.items) c.lines.context line (joined (lines_left c.next_line.new.lines)) (joined (lines_left c.lines.lines)) next _ c.in-Some.ensures.first some c.in_ok-next.ensures c.lines.invariant.same);
      count = grind (arith, common_steps);
    }

pub returns-in_err-read_end-clause-read : goal.returns-in_err-read_end-clause-read
returns-in_err-read_end-clause-read c =
    let none = at_the_end (lines_left c.lines.lines) c.in_default.ensures in
    let so_far = rw none at c.lines.invariant.same in
    passes_on _ _ c.in_err-read_end.field-0.0 _ c.from_residual-in_err-read_end.ensures.1 (ends_badly c.in_err-read_end.field-0.0 (map statement_of c.lines.found.items) c.lines.context _ c.in_err-read_end.ensures so_far)

pub returns-clause-read : goal.returns-clause-read
returns-clause-read c =
    let none = at_the_end (lines_left c.lines.lines) c.in_default.ensures in
    let so_far = rw none at c.lines.invariant.same in
    ends_well (map statement_of c.lines.found.items) c.lines.context _ c.in_ok-read_end.ensures so_far

pub returns-clause-few : goal.returns-clause-few
returns-clause-few c =
    let few = lines_few 1 c.args.bytes.now (text.lines_of c.args.bytes.now) (record { at = 0; same = refl; few = omega (arith, c.requires) }) in
    omega (arith, few, c.lines.invariant.count)
