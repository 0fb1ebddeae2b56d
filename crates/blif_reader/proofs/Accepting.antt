-- From the steps of the reader to what reading a text gives.
use Rattle.std.proofs.Common.{◌≡◌, ℕ, ◌<◌, ◌≤◌, List, length, cond, Result, Ok, Err, refl, sym, ap, ◌∙◌, subst}
use Rattle.std.specs.Result.{IsErrAnd}
use Rattle.std.proofs.lemmas.Result.{err_from_is_err_and}
use Rattle.std.proofs.lemmas.Bool.{lt-ltb, le-ltb}
use Rattle.blif_reader.specs.declared.fault.BlifKind.TheVariants as fault
use Rattle.blif_reader.specs.declared.fault.Refusal.{Refusal}
use Rattle.blif_reader.specs.declared.fault.Refusal.TheVariants as refusals
use Rattle.blif_reader.specs.declared.netlist.Netlist.{Netlist}
use Rattle.blif_reader.specs.Statements.{◌>>=◌, Fails, Statement, parsed}
use Rattle.blif_reader.specs.Netlist.{reading, netlist_of, Settles, IsReading}
use Rattle.blif_reader.specs.Answers.{Answers}

-- a text with too many bytes
pub too_long : (bytes : List ℕ) → 4194304 < length bytes → IsReading bytes (Err (record { line = 0; kind = fault.TooLong }))
unfolding reading
too_long bytes long =
    let e : reading bytes ≡ Err (record { line = 0; kind = fault.TooLong }) = ap (λ b. cond b (Err (record { line = 0; kind = fault.TooLong })) (parsed bytes >>= netlist_of)) (lt-ltb 4194304 (length bytes) long) in
    subst (λ r. Settles r (Err (record { line = 0; kind = fault.TooLong }))) (sym e) refl

-- another text is read from its statements
short : (bytes : List ℕ) → length bytes ≤ 4194304 → reading bytes ≡ (parsed bytes >>= netlist_of)
unfolding reading
short bytes le = ap (λ b. cond b (Err (record { line = 0; kind = fault.TooLong })) (parsed bytes >>= netlist_of)) (le-ltb 4194304 (length bytes) le)

-- a line that is no statement
pub parses_badly : (bytes : List ℕ) (r : Result Netlist Refusal) (e : Refusal) → length bytes ≤ 4194304 → IsErrAnd r (λ y. y ≡ e) → Fails e (parsed bytes) → Answers (IsReading bytes) r
parses_badly bytes r refusals.Memory le exits fails =
    let p = err_from_is_err_and r exits in
    rw (p.1, p.2) tt
parses_badly bytes r (refusals.Fault f) le exits fails =
    let p = err_from_is_err_and r exits in
    let e : reading bytes ≡ Err f = short bytes le ∙ ap (λ s. s >>= netlist_of) fails in
    rw (p.1, p.2) (subst (λ s. Settles s (Err f)) (sym e) refl)

-- statements that were read
pub parses_well : (bytes : List ℕ) (ss : List Statement) (r : Result Netlist Refusal) → length bytes ≤ 4194304 → parsed bytes ≡ Ok ss → Answers (Settles (netlist_of ss)) r → Answers (IsReading bytes) r
parses_well bytes ss r le e answers =
    let same : reading bytes ≡ netlist_of ss = short bytes le ∙ ap (λ s. s >>= netlist_of) e in
    subst (λ s. Answers (Settles s) r) (sym same) answers
