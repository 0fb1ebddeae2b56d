-- What the files of a writer are to hold, over the calls on one of them.
use Rattle.std.proofs.Common.{◌≡◌, ◌≢◌, ℕ, ◌+◌, ◌*◌, ◌<◌, ◌≤◌, ◌^◌, List, [], ◌∷◌, ◌++◌, length, take, drop, map, sym, ap, subst, ◌∙◌, arith}
use Rattle.std.specs.Prelude.{Result, Ok, Err, OnOk}
use Rattle.std.proofs.lemmas.Bool.Decides.{nat_tests}
use Rattle.std.proofs.lemmas.List.{append-nil, length-take-le, length_push, take-append-drop}
use Rattle.shelf_model.specs.File.{File, firm_file}
use Rattle.shelf_model.specs.World.{World, file}
use Rattle.block_stream.specs.declared.appender.Appender.{Appender}
use Rattle.block_stream.specs.Records.{records_of, records_bytes}
use Rattle.block_stream.specs.Items.{item_record, AreItems}
use Rattle.block_stream.specs.Writes.{SameFile, count_of}
use Rattle.block_stream.specs.Appenders.{filling_of, written_of, Holds, HoldsItems}
use Rattle.block_stream.proofs.RecordLaws.{records_append}
use Rattle.arc_file.specs.declared.arc.Arc.{Arc}
use Rattle.arc_file.specs.declared.writer.ArcWriter.{ArcWriter}
use Rattle.arc_file.specs.Arcs.{arc_words, IsArc}
use Rattle.arc_file.specs.Files.{inner_arcs, end_arcs, BeginWith}
use Rattle.arc_file.specs.Writers.{inner_file, ends_file, inner_count, ends_count, HoldsArcs, IsFileOf}

-- the two files of a writer differ
pub files_apart : (w : ArcWriter) → inner_file w ≢ ends_file w
files_apart w same = w.apart (sym w.inner_is ∙ same ∙ w.ends_are)

-- what a file is to hold stays where the file does
pub held_on : (a : Appender Arc) (before after : World) (xs : List Arc) → file after (filling_of a).file ≡ file before (filling_of a).file
    → HoldsItems IsArc arc_words a before xs → HoldsItems IsArc arc_words a after xs
held_on a before after xs same held =
    let bytes : written_of a after ≡ written_of a before = ap (λ (f : File). f.bytes ++ records_bytes a.filling.words (take a.filling.waiting a.window.now)) same in
    record {
      items = subst (λ b. AreItems IsArc arc_words a.filling.words 0 b xs) (sym bytes) held.items;
      all = ap length bytes ∙ held.all;
    }

-- an arc goes to the file that its target chooses
one_inner : (a : Arc) → a.target < 2 ^ 63 → inner_arcs (a ∷ []) ≡ a ∷ []
one_inner a node = grind (arith, nat_tests)

no_end : (a : Arc) → a.target < 2 ^ 63 → end_arcs (a ∷ []) ≡ []
no_end a node = grind (arith, nat_tests)

no_inner : (a : Arc) → 2 ^ 63 ≤ a.target → inner_arcs (a ∷ []) ≡ []
no_inner a value = grind (arith, nat_tests)

one_end : (a : Arc) → 2 ^ 63 ≤ a.target → end_arcs (a ∷ []) ≡ a ∷ []
one_end a value = grind (arith, nat_tests)

pub put_inner : (old new : ArcWriter) (before after : World) (xs ys : List Arc) (a : Arc) → a.target < 2 ^ 63 → new.ends ≡ old.ends
    → file after (ends_file old) ≡ file before (ends_file old) → HoldsItems IsArc arc_words new.inner after (xs ++ a ∷ []) → inner_count new ≡ inner_count old + 1
    → HoldsArcs old before xs ys → HoldsArcs new after (xs ++ inner_arcs (a ∷ [])) (ys ++ end_arcs (a ∷ []))
put_inner old new before after xs ys a node same stays items more held =
    let here : xs ++ a ∷ [] ≡ xs ++ inner_arcs (a ∷ []) = ap (λ zs. xs ++ zs) (sym (one_inner a node)) in
    let there : ys ≡ ys ++ end_arcs (a ∷ []) = sym (append-nil ys) ∙ ap (λ zs. ys ++ zs) (sym (no_end a node)) in
    record {
      inner_are = subst (HoldsItems IsArc arc_words new.inner after) here items;
      inner_many = ap length (sym here) ∙ length_push xs a ∙ ap (λ k. k + 1) held.inner_many ∙ sym more;
      ends_are = subst (λ (e : Appender Arc). HoldsItems IsArc arc_words e after (ys ++ end_arcs (a ∷ []))) (sym same) (subst (HoldsItems IsArc arc_words old.ends after) there (held_on old.ends before after ys stays held.ends_are));
      ends_many = ap length (sym there) ∙ held.ends_many ∙ ap (λ (e : Appender Arc). count_of (filling_of e)) (sym same);
    }

pub put_end : (old new : ArcWriter) (before after : World) (xs ys : List Arc) (a : Arc) → 2 ^ 63 ≤ a.target → new.inner ≡ old.inner
    → file after (inner_file old) ≡ file before (inner_file old) → HoldsItems IsArc arc_words new.ends after (ys ++ a ∷ []) → ends_count new ≡ ends_count old + 1
    → HoldsArcs old before xs ys → HoldsArcs new after (xs ++ inner_arcs (a ∷ [])) (ys ++ end_arcs (a ∷ []))
put_end old new before after xs ys a value same stays items more held =
    let here : ys ++ a ∷ [] ≡ ys ++ end_arcs (a ∷ []) = ap (λ zs. ys ++ zs) (sym (one_end a value)) in
    let there : xs ≡ xs ++ inner_arcs (a ∷ []) = sym (append-nil xs) ∙ ap (λ zs. xs ++ zs) (sym (no_inner a value)) in
    record {
      inner_are = subst (λ (e : Appender Arc). HoldsItems IsArc arc_words e after (xs ++ inner_arcs (a ∷ []))) (sym same) (subst (HoldsItems IsArc arc_words old.inner after) there (held_on old.inner before after xs stays held.inner_are));
      inner_many = ap length (sym there) ∙ held.inner_many ∙ ap (λ (e : Appender Arc). count_of (filling_of e)) (sym same);
      ends_are = subst (HoldsItems IsArc arc_words new.ends after) here items;
      ends_many = ap length (sym here) ∙ length_push ys a ∙ ap (λ k. k + 1) held.ends_many ∙ sym more;
    }

-- a writer goes on behind the first arcs of a file
pub resumed : (a : Appender Arc) (world : World) (count : ℕ) (bytes : List ℕ) (xs : List Arc) → (filling_of a).words ≡ 2 → count * 16 ≤ length bytes
    → Holds a world (take (count * 16) bytes) → BeginWith xs count bytes → HoldsItems IsArc arc_words a world xs
resumed a world count bytes xs width whole holds begin =
    let front : List ℕ = take (count * 16) bytes in
    let written : written_of a world ≡ front = holds.bytes_are in
    let long : length front ≡ count * 16 = length-take-le (count * 16) bytes whole in
    let many : length xs ≡ count = begin.count_is in
    let fits : length xs * (8 * 2) ≤ length front = omega arith in
    let same : map (item_record arc_words) xs ≡ records_of 2 (length xs) front =
    begin.items.same ∙ ap (records_of 2 (length xs)) (sym (take-append-drop (count * 16) bytes)) ∙ records_append 2 (length xs) front (drop (count * 16) bytes) fits in
    let items : AreItems IsArc arc_words 2 0 front xs = record { values = begin.items.values; whole = omega arith; same = same } in
    record {
      items = subst (λ b. AreItems IsArc arc_words a.filling.words 0 b xs) (sym written) (subst (λ k. AreItems IsArc arc_words k 0 front xs) (sym width) items);
      all = ap length written ∙ long ∙ ap (λ k. k * 16) (sym many) ∙ ap (λ k. length xs * (8 * k)) (sym width);
    }

-- a writer that was settled holds what it held
pub settled_items : (a b : Appender Arc) (before after : World) (xs : List Arc) → SameFile (filling_of a) (filling_of b) → Holds b after (written_of a before)
    → HoldsItems IsArc arc_words a before xs → HoldsItems IsArc arc_words b after xs
settled_items a b before after xs same holds held =
    let written : written_of b after ≡ written_of a before = holds.bytes_are in
    record {
      items = subst (λ c. AreItems IsArc arc_words b.filling.words 0 c xs) (sym written) (subst (λ k. AreItems IsArc arc_words k 0 (written_of a before) xs) (sym same.words_are) held.items);
      all = ap length written ∙ held.all ∙ ap (λ k. length xs * (8 * k)) (sym same.words_are);
    }

-- and its file has that, whatever a stop leaves
pub settled_file : (a : Appender Arc) (before : World) (xs : List Arc) (count : ℕ) (f : File) → (filling_of a).words ≡ 2 → length xs ≡ count
    → f ≡ firm_file (written_of a before) → HoldsItems IsArc arc_words a before xs → IsFileOf xs count f
settled_file a before xs count f width many firm held =
    let bytes : f.bytes ≡ written_of a before = ap (λ (g : File). g.bytes) firm in
    let items : AreItems IsArc arc_words 2 0 (written_of a before) xs = subst (λ k. AreItems IsArc arc_words k 0 (written_of a before) xs) width held.items in
    record {
      firm = firm ∙ ap firm_file (sym bytes);
      begin = record {
        items = subst (λ b. AreItems IsArc arc_words 2 0 b xs) (sym bytes) items;
        count_is = many;
      };
      all = ap length bytes ∙ held.all ∙ ap (λ k. length xs * (8 * k)) width ∙ ap (λ k. k * 16) many;
    }
