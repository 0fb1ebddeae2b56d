use Rattle.std.proofs.Common.{◌≡◌, ℕ, List, take, get_or, true, refl, sym, ap, subst, ◌∙◌, inl, inr, arith}
use Rattle.std.specs.Prelude.{All, Some}
use Rattle.std.proofs.lemmas.Bool.{false≢true}
use Rattle.sweep_core.specs.declared.checkpoint.Checkpoint.{Checkpoint}
use Rattle.sweep_checkpoint.specs.Points.{head_words}
use Rattle.sweep_checkpoint.specs.Rules.{IsSlot}
use Rattle.sweep_checkpoint.proofs.Parts.{IsReadFrom, same_head, same_point, read_fits, read_used, point_from, head_from}
use Rattle.sweep_checkpoint.proofs.point.point_of.Goals as goal
use Rattle.sweep_checkpoint.proofs.point.point_of.Goals.{then-number-from-via-then-number-from, then-number-from-via-else-number-from+then-records-gt-MOST_RECORDS}

pub returns-then-number-from-clause-only : goal.returns-then-number-from-clause-only
returns-then-number-from-clause-only c = λ other is.
    let head : List ℕ = c.read_words.new.words in
    let same : head_words other ≡ head = same_head c.args.bytes.now head other c.read_words.auto.words c.read_words.ensures.words c.read_words.ensures.bytes is.fits is.used in
    let number : get_or head 0 0 ≡ c.args.step = sym (ap (λ xs. get_or xs 0 0) same) ∙ is.rules.step_is in
    let records : other.budget ≡ get_or head 4 0 = ap (λ xs. get_or xs 4 0) same in
    let few_records = is.rules.budget in
    elim c.then-number-from.branch [
      | then-number-from-via-then-number-from w ↦ absurd (w.if-number-from.true (number ∙ sym c.from.ensures))
      | then-number-from-via-else-number-from+then-records-gt-MOST_RECORDS w ↦ absurd (omega (arith, w.if-records-gt-MOST_RECORDS.true, records, few_records))
    ]

pub returns-then-sweep-gt1-clause-only : goal.returns-then-sweep-gt1-clause-only
returns-then-sweep-gt1-clause-only c = λ other is.
    let head : List ℕ = c.read_words.new.words in
    let same : head_words other ≡ head = same_head c.args.bytes.now head other c.read_words.auto.words c.read_words.ensures.words c.read_words.ensures.bytes is.fits is.used in
    let sweep : other.sweep ≡ get_or head 1 0 = ap (λ xs. get_or xs 1 0) same in
    let turns : other.turns ≡ get_or head 2 0 = ap (λ xs. get_or xs 2 0) same in
    let next : other.next_part ≡ get_or head 3 0 = ap (λ xs. get_or xs 3 0) same in
    let tables : other.tables ≡ get_or head 5 0 = ap (λ xs. get_or xs 5 0) same in
    let few_sweeps = is.rules.sweep in
    let parts = is.rules.parts in
    let few_tables = is.rules.tables in
    let few_turns = is.rules.turns in
    elim c.then-sweep-gt1.either [
      | inl a ↦ absurd (omega (arith, a, sweep, few_sweeps))
      | inr more ↦ elim more [
        | inl a ↦ absurd (omega (arith, a, next, parts.0))
        | inr more ↦ elim more [
          | inl a ↦ absurd (omega (arith, a, next, parts.1))
          | inr more ↦ elim more [
            | inl a ↦ absurd (omega (arith, a, tables, few_tables))
            | inr a ↦ absurd (omega (arith, a, turns, few_turns))
          ]
        ]
      ]
    ]

pub returns-then-keeps_tables-clause-found : goal.returns-then-keeps_tables-clause-found
returns-then-keeps_tables-clause-found c =
    let head : List ℕ = c.read_words.new.words in
    let read : IsReadFrom c.args.bytes.now head c.read_words-2.new.words c.read_tables.new.tables = record {
      six = c.read_words.auto.words;
      words = c.read_words.ensures.words;
      head_is = c.read_words.ensures.bytes;
      carried = c.read_words-2.auto.words;
      carry_words = c.read_words-2.ensures.words;
      carry_is = c.read_words-2.ensures.bytes;
      tabled = c.read_tables.auto.tables;
      tables = c.read_tables.ensures.tables;
      runs_are = c.read_tables.ensures.bytes;
    } in
    let point : Checkpoint = point_from c.args.step (get_or head 4 0) head c.read_words-2.new.words c.read_tables.new.tables in
    let words : head_words point ≡ head = head_from c.args.step (get_or head 4 0) head c.read_words-2.new.words c.read_tables.new.tables c.read_words.auto.words
    (c.if-number-from.false ∙ c.from.ensures) refl in
    record {
      whole = c.told-bytes;
      used = read_used c.args.bytes.now head c.read_words-2.new.words c.read_tables.new.tables point read words refl refl;
      fits = read_fits c.args.bytes.now head c.read_words-2.new.words c.read_tables.new.tables point read words refl refl;
      rules = record {
        step_is = refl;
        budget = omega (arith, c.if-records-gt-MOST_RECORDS.false);
        sweep = c.if-sweep-gt1.false;
        parts = (c.if-next_part-lt3.false, c.if-next_part-gt-MOST_PARTS.false);
        tables = c.if-tables-gt9.false;
        runs = c.keeps_tables.ensures.0 c.if-keeps_tables.true;
        turns = c.if-turns-ge-TURNS_END.false;
      };
    }

pub returns-then-keeps_tables-clause-only : goal.returns-then-keeps_tables-clause-only
returns-then-keeps_tables-clause-only c = λ other is.
    let head : List ℕ = c.read_words.new.words in
    let read : IsReadFrom c.args.bytes.now head c.read_words-2.new.words c.read_tables.new.tables = record {
      six = c.read_words.auto.words;
      words = c.read_words.ensures.words;
      head_is = c.read_words.ensures.bytes;
      carried = c.read_words-2.auto.words;
      carry_words = c.read_words-2.ensures.words;
      carry_is = c.read_words-2.ensures.bytes;
      tabled = c.read_tables.auto.tables;
      tables = c.read_tables.ensures.tables;
      runs_are = c.read_tables.ensures.bytes;
    } in
    let point : Checkpoint = point_from c.args.step (get_or head 4 0) head c.read_words-2.new.words c.read_tables.new.tables in
    let words : head_words point ≡ head = head_from c.args.step (get_or head 4 0) head c.read_words-2.new.words c.read_tables.new.tables c.read_words.auto.words
    (c.if-number-from.false ∙ c.from.ensures) refl in
    ap Some (same_point c.args.bytes.now head c.read_words-2.new.words c.read_tables.new.tables other point read words refl refl is.fits is.used)

pub returns-else-keeps_tables-clause-only : goal.returns-else-keeps_tables-clause-only
returns-else-keeps_tables-clause-only c = λ other is.
    let head : List ℕ = c.read_words.new.words in
    let read : IsReadFrom c.args.bytes.now head c.read_words-2.new.words c.read_tables.new.tables = record {
      six = c.read_words.auto.words;
      words = c.read_words.ensures.words;
      head_is = c.read_words.ensures.bytes;
      carried = c.read_words-2.auto.words;
      carry_words = c.read_words-2.ensures.words;
      carry_is = c.read_words-2.ensures.bytes;
      tabled = c.read_tables.auto.tables;
      tables = c.read_tables.ensures.tables;
      runs_are = c.read_tables.ensures.bytes;
    } in
    let point : Checkpoint = point_from c.args.step (get_or head 4 0) head c.read_words-2.new.words c.read_tables.new.tables in
    let words : head_words point ≡ head = head_from c.args.step (get_or head 4 0) head c.read_words-2.new.words c.read_tables.new.tables c.read_words.auto.words
    (c.if-number-from.false ∙ c.from.ensures) refl in
    let same : point ≡ other = same_point c.args.bytes.now head c.read_words-2.new.words c.read_tables.new.tables other point read words refl refl is.fits is.used in
    let yes : c.keeps_tables.result ≡ true = c.keeps_tables.ensures.1 (subst (λ (p : Checkpoint). All (All (IsSlot p.next_part)) (take p.tables p.runs)) (sym same) is.rules.runs) in
    absurd (false≢true (sym c.if-keeps_tables.false ∙ yes))
