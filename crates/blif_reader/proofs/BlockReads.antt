-- What the blocks of some lines read.
use Rattle.std.proofs.Common.{◌≡◌, ◌+◌, ℕ, Bool, true, false, List, [], ◌∷◌, ◌++◌, length, get_or, take, drop, map, filter, cond, refl, sym, ap, ◌∙◌, arith}
use Rattle.std.proofs.lemmas.List.{append-nil, drop-drop}
use Rattle.blif_reader.specs.declared.grammar.Kind.{Kind}
use Rattle.blif_reader.specs.declared.grammar.Kind.TheVariants as kind
use Rattle.blif_reader.specs.declared.parts.Part.TheVariants.{Uses}
use Rattle.blif_reader.specs.declared.statement.Statement as declared
use Rattle.blif_reader.specs.Statements.{Statement, statement_of}
use Rattle.blif_reader.specs.Parts.{Use, block_inputs, part_words, part_of, uses_in}
use Rattle.blif_reader.specs.Netlist.{is_names, begins_block, reads_of}
use Rattle.blif_reader.proofs.Windows.{words_on_each}

-- what the first line reads, and what those behind it read
reads_first : (s : Statement) (ss : List Statement) (b : Bool) → begins_block s ≡ b → reads_of (s ∷ ss) ≡ cond b (block_inputs s.words ∷ []) [] ++ reads_of ss
reads_first s ss true e = ap (λ b. map (λ (t : Statement). block_inputs t.words) (cond b (s ∷ filter begins_block ss) (filter begins_block ss))) e
reads_first s ss false e = ap (λ b. map (λ (t : Statement). block_inputs t.words) (cond b (s ∷ filter begins_block ss) (filter begins_block ss))) e

reads_split : (ss : List Statement) → reads_of ss ≡ reads_of (take 1 ss) ++ reads_of (drop 1 ss)
reads_split [] = refl
reads_split (s ∷ ss) =
    let b : Bool = begins_block s in
    reads_first s ss b refl ∙ ap (λ rs. rs ++ reads_of ss) (sym (reads_first s [] b refl ∙ append-nil (cond b (block_inputs s.words ∷ []) [])))

-- a block's line reads its uses
read_names : (k : Kind) (words : List (List ℕ)) → is_names k ≡ true → part_words Uses k words ≡ block_inputs words
read_names kind.Model words e = absurd (cc)
read_names kind.Inputs words e = absurd (cc)
read_names kind.Outputs words e = absurd (cc)
read_names kind.Names words e = refl
read_names (kind.Row v) words e = absurd (cc)
read_names kind.End words e = absurd (cc)

-- one line that begins a block
pub reads_one : (ds : List declared.Statement) (d : declared.Statement) → length ds ≡ 1 → is_names (get_or ds 0 d).kind ≡ true → reads_of (map statement_of ds) ≡ map (λ (u : Use). u.word) (uses_in Uses (map statement_of ds)) ∷ []
reads_one [] d one e = absurd (omega (arith, one))
reads_one (x ∷ []) d one e =
    let s : Statement = statement_of x in
    reads_first s [] true e ∙ ap (λ rs. rs ∷ []) (sym (ap (map (λ (u : Use). u.word)) (append-nil (part_of Uses s)) ∙ words_on_each s.line (part_words Uses s.kind s.words) ∙ read_names s.kind s.words e))
reads_one (x ∷ y ∷ ds) d one e = absurd (omega (arith, one))

-- what the lines from a place on read
pub reads_from : (ds one : List declared.Statement) (place : ℕ) → one ≡ take 1 (drop place ds) → reads_of (map statement_of (drop place ds)) ≡ reads_of (map statement_of one) ++ reads_of (map statement_of (drop (place + 1) ds))
reads_from ds one place e = by_list (drop place ds) one e ∙ ap (λ ts. reads_of (map statement_of one) ++ reads_of (map statement_of ts)) (drop-drop 1 place ds) where
  by_list : (xs one : List declared.Statement) → one ≡ take 1 xs → reads_of (map statement_of xs) ≡ reads_of (map statement_of one) ++ reads_of (map statement_of (drop 1 xs))
  by_list [] one e = rw e refl
  by_list (x ∷ xs) one e = rw e (reads_split (map statement_of (x ∷ xs)))
