use Rattle.std.proofs.Common.{◌≡◌, ℕ, ◌*◌, ◌++◌, [], ◌∷◌, List, length, drop, refl, ap, subst, ◌∙◌, rules, arith}
use Rattle.std.specs.List.{flat_map}
use Rattle.std.proofs.lemmas.Grind.{common_steps}
use Rattle.sweep_checkpoint.specs.Points.{words_bytes, table_bytes, head_words, used_bytes, AreWords}
use Rattle.sweep_checkpoint.proofs.Parts.{put_three, length_words, length_tables}
use Rattle.sweep_checkpoint.proofs.layout.put_point.Goals as goal

pub returns-clause-bytes : goal.returns-clause-bytes
unfolding used_bytes
returns-clause-bytes c =
    let head : List ℕ = c.from.result ∷ c.from-2.result ∷ c.args.point.now.turns ∷ c.args.point.now.next_part ∷ c.from-3.result ∷ c.from-4.result ∷ [] in
    let same : head ≡ head_words c.args.point.now = (λ i. c.from.ensures i ∷ c.from-2.ensures i ∷ c.args.point.now.turns ∷ c.args.point.now.next_part ∷ c.from-3.ensures i ∷ c.from-4.ensures i ∷ []) in
    let carried : length c.args.point.now.carry ≡ 250 = first_of (omega arith, search rules, grind (arith, common_steps)) in
    let tabled : length c.args.point.now.runs ≡ 9 = first_of (omega arith, search rules, grind (arith, common_steps)) in
    let one : length c.put_words.new.bytes ≡ 48 = grind (arith, common_steps) in
    let two : length c.put_words-2.new.bytes ≡ 2000 = grind (arith, common_steps) in
    let three : length c.put_tables.new.bytes ≡ 13824 = grind (arith, common_steps) in
    put_three c.args.bytes.now c.put_words.new.bytes c.put_words-2.new.bytes c.put_tables.new.bytes (words_bytes head) (words_bytes c.args.point.now.carry) (flat_map table_bytes c.args.point.now.runs) _ _ _
    c.requires c.put_words.ensures.bytes one refl
    c.put_words-2.ensures.bytes two (length_words c.args.point.now.carry c.put_words-2.ensures.words ∙ ap (λ n. 8 * n) carried)
    c.put_tables.ensures.bytes three (length_tables c.args.point.now.runs c.put_tables.ensures.tables ∙ ap (λ n. 1536 * n) tabled)
    ∙ ap (λ ws. words_bytes ws ++ words_bytes c.args.point.now.carry ++ flat_map table_bytes c.args.point.now.runs ++ drop 15872 c.args.bytes.now) same

pub returns-clause-fits : goal.returns-clause-fits
returns-clause-fits c =
    let head : List ℕ = c.from.result ∷ c.from-2.result ∷ c.args.point.now.turns ∷ c.args.point.now.next_part ∷ c.from-3.result ∷ c.from-4.result ∷ [] in
    let same : head ≡ head_words c.args.point.now = (λ i. c.from.ensures i ∷ c.from-2.ensures i ∷ c.args.point.now.turns ∷ c.args.point.now.next_part ∷ c.from-3.ensures i ∷ c.from-4.ensures i ∷ []) in
    record {
      words = subst AreWords same c.put_words.ensures.words;
      carried = first_of (omega arith, search rules, grind (arith, common_steps));
      carry = c.put_words-2.ensures.words;
      tabled = first_of (omega arith, search rules, grind (arith, common_steps));
      tables = c.put_tables.ensures.tables;
    }
