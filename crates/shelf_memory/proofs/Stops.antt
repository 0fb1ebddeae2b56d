-- The next life of a station in memory: what is handed on to it, and that it begins on an image.
use Rattle.std.proofs.Common.{◌≡◌, ◌≢◌, ℕ, ◌+◌, ◌%◌, ◌==◌, Bool, true, false, cond, List, ◌∷◌, option_map, sym, ap, subst, ◌∙◌, inl, inr}
use Rattle.std.specs.Prelude.{Option, Some, None, String, string_bytes}
use Rattle.std.specs.Global.{Global}
use Rattle.std.specs.Option.{option_map_or}
use Rattle.std.specs.Ordering.{nat_cmp}
use Rattle.std.specs.Cmp.Lexicographic.{slice_cmp}
use Rattle.std.specs.Map.{lookup}
use Rattle.std.specs.BTreeMap.{BTreeMap, is_at, get, get_by_text}
use Rattle.std.specs.Str.{bytes_eq}
use Rattle.std.proofs.lemmas.Bool.{cases_Bool}
use Rattle.std.proofs.lemmas.Slice.Eq.{bytes_eq-Decides}
use Rattle.std.proofs.lemmas.Map.Text.{is_eq-slice_cmp}
use Rattle.shelf_model.specs.declared.file_no.FileNo.{FileNo}
use Rattle.shelf_model.specs.File.{File, no_file, firm_file, IsFile, IsLeft}
use Rattle.shelf_model.specs.Folder.{file_cmp}
use Rattle.shelf_model.proofs.Numbers.{cases_file, apart}
use Rattle.shelf_model.proofs.Images.{shortest_left, longest_left, standing_left}
use Rattle.shelf_memory.specs.declared.bench.Bench.{Bench}
use Rattle.shelf_memory.specs.declared.change.Stored.{Stored}
use Rattle.shelf_memory.specs.declared.choice.Choice.{Choice}
use Rattle.shelf_memory.specs.declared.choice.Choice.TheVariants.{Firm, Present, Fill, Mixed}
use Rattle.shelf_memory.specs.declared.texts.Text.{Text}
use Rattle.shelf_memory.specs.Changes.{file_of}
use Rattle.shelf_memory.specs.Choices.{sure_of, filled_of, chosen_of}
use Rattle.shelf_memory.specs.Failures.{seen}
use Rattle.shelf_memory.specs.Files.{stored_in}
use Rattle.shelf_memory.specs.Texts.{text_at}
use Rattle.shelf_memory.specs.Benches.{IsFresh, StandsStill, StandsStillBut, SameFailures, file_at, lists, watch_of}

-- a station at its start stays one when a file is put
pub fresh_put : (f : FileNo) (old new : Bench) → IsFresh old → StandsStillBut f old new → ((n : ℕ) → lists new n ≡ lists old n) → watch_of new ≡ seen (watch_of old) (file_at new) → IsFresh new
fresh_put f old new fresh still listed watched = record {
  tells = still.tells_is ∙ fresh.tells;
  clock_is = still.clock_is ∙ fresh.clock_is;
  said_is = still.told_said fresh.tells ∙ fresh.said_is;
  kept_is = still.said_is ∙ fresh.kept_is;
  outside = still.inside_is ∙ fresh.outside;
  strays_are = still.strays_are ∙ fresh.strays_are;
  starved_is = still.starved_is ∙ fresh.starved_is;
  folder_is = still.folder_is ∙ fresh.folder_is;
  say_is = still.say_is ∙ fresh.say_is;
  text_is = λ path. still.text_is path ∙ fresh.text_is path;
  reads_are = λ q. still.reads_are q ∙ fresh.reads_are q;
  unlisted = λ n. listed n ∙ fresh.unlisted n;
  unwatched = watched ∙ ap (λ w. seen w (file_at new)) fresh.unwatched;
}

-- and when a text is put
pub fresh_still : (old new : Bench) → IsFresh old → StandsStill old new → SameFailures old new → IsFresh new
fresh_still old new fresh still failures = record {
  tells = still.tells_is ∙ fresh.tells;
  clock_is = still.clock_is ∙ fresh.clock_is;
  said_is = ap (λ m. m.said) still.now_is ∙ fresh.said_is;
  kept_is = still.said_is ∙ fresh.kept_is;
  outside = still.inside_is ∙ fresh.outside;
  strays_are = still.strays_are ∙ fresh.strays_are;
  starved_is = still.starved_is ∙ fresh.starved_is;
  folder_is = still.folder_is ∙ fresh.folder_is;
  say_is = still.say_is ∙ fresh.say_is;
  text_is = λ path. still.text_is path ∙ fresh.text_is path;
  reads_are = λ q. still.reads_are q ∙ fresh.reads_are q;
  unlisted = λ n. failures.lists_are n ∙ fresh.unlisted n;
  unwatched = failures.watch_is ∙ fresh.unwatched;
}

-- what is found behind an entry of another key
found_behind : {K X : Type 0} (test : K → Bool) (k : K) (x : X) (rest : List (K × X)) → test k ≡ false → lookup test rest ≡ None → lookup test ((k, x) ∷ rest) ≡ None
found_behind test k x rest other none = ap (λ b. cond b (Some x) (lookup test rest)) other ∙ none

-- one file more is as the choice takes it
pub file_taken : (files : BTreeMap FileNo Stored) (choice : Choice) (f : FileNo) (stored : Stored) (rest all : List (FileNo × Stored)) (old new : FileNo → File)
    → all ≡ (f, stored) ∷ rest → get file_cmp files f ≡ Some stored
    → ((q : FileNo) → lookup (is_at (file_cmp q)) all ≡ None → old q ≡ firm_file (chosen_of choice q (stored_in files q)))
    → new f ≡ firm_file (chosen_of choice f (file_of stored)) → ((q : FileNo) → q ≢ f → new q ≡ old q)
    → (q : FileNo) → lookup (is_at (file_cmp q)) rest ≡ None → new q ≡ firm_file (chosen_of choice q (stored_in files q))
file_taken files choice f stored rest all old new is found before here others q none = elim (cases_file q f) [
  | inl same ↦ subst (λ p. new p ≡ firm_file (chosen_of choice p (stored_in files p))) (sym same)
      (here ∙ ap (λ o. firm_file (chosen_of choice f (option_map_or file_of o no_file))) (sym found))
  | inr differ ↦ others q differ ∙ before q (ap (lookup (is_at (file_cmp q))) is ∙ found_behind (is_at (file_cmp q)) f stored rest (apart f q differ) none)
]

-- one text more is there
pub text_taken : (texts : BTreeMap (String Global) Text) (path : String Global) (text : Text) (rest all : List (String Global × Text)) (old new : List ℕ → Option (List ℕ))
    → all ≡ (path, text) ∷ rest → get_by_text texts (string_bytes path) ≡ Some text
    → ((q : List ℕ) → lookup (is_at (λ k. slice_cmp nat_cmp q (string_bytes k))) all ≡ None → old q ≡ text_at texts q)
    → new (string_bytes path) ≡ Some text.bytes.items → ((q : List ℕ) → q ≢ string_bytes path → new q ≡ old q)
    → (q : List ℕ) → lookup (is_at (λ k. slice_cmp nat_cmp q (string_bytes k))) rest ≡ None → new q ≡ text_at texts q
text_taken texts path text rest all old new is found before here others q none = elim (cases_Bool (bytes_eq q (string_bytes path))) [
  | inl tie ↦ let same : q ≡ string_bytes path = (bytes_eq-Decides q (string_bytes path)).0 tie in
      subst (λ p. new p ≡ text_at texts p) (sym same) (here ∙ ap (λ o. option_map (λ (t : Text). t.bytes.items) o) (sym found))
  | inr apart ↦ others q (λ same. let tie : bytes_eq q (string_bytes path) ≡ true = (bytes_eq-Decides q (string_bytes path)).1 same in cc)
      ∙ before q (ap (lookup (is_at (λ k. slice_cmp nat_cmp q (string_bytes k)))) is
      ∙ found_behind (is_at (λ k. slice_cmp nat_cmp q (string_bytes k))) path text rest (is_eq-slice_cmp q (string_bytes path) ∙ apart) none)
]

-- a stop may leave what the choice takes
pub chosen_left : (choice : Choice) (f : FileNo) (x : File) → IsFile x → IsLeft x (chosen_of choice f x)
chosen_left Firm f x is_file = shortest_left x is_file
chosen_left Present f x is_file = standing_left x is_file
chosen_left (Fill byte) f x is_file = longest_left x byte is_file
chosen_left (Mixed number) f x is_file = elim (cases_Bool ((f.step + f.part + number) % 3 == 0)) [
  | inl first ↦ subst (λ b. IsLeft x (cond b (sure_of x) (cond ((f.step + f.part + number) % 3 == 1) x.bytes (filled_of 255 x)))) (sym first) (shortest_left x is_file)
  | inr other ↦ subst (λ b. IsLeft x (cond b (sure_of x) (cond ((f.step + f.part + number) % 3 == 1) x.bytes (filled_of 255 x)))) (sym other)
      (elim (cases_Bool ((f.step + f.part + number) % 3 == 1)) [
        | inl second ↦ subst (λ b. IsLeft x (cond b x.bytes (filled_of 255 x))) (sym second) (standing_left x is_file)
        | inr third ↦ subst (λ b. IsLeft x (cond b x.bytes (filled_of 255 x))) (sym third) (longest_left x 255 is_file)
      ])
]
