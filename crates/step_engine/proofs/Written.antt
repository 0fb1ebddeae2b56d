-- What a writer's calls leave, as the canonical file of a constant or a variable.
use Rattle.std.proofs.Common.{◌≡◌, ◌∙◌, ℕ, ◌<◌, Bool, true, List, [], ◌∷◌, ◌++◌, sym, ap, subst, inl}
use Rattle.std.specs.Prelude.{Result, Ok, Err, OnOk}
use Rattle.rec_words.specs.declared.node.Node.{Node}
use Rattle.rec_words.specs.Words.{terminal}
use Rattle.canon_file.specs.Rows.{row_word}
use Rattle.canon_file.specs.Canon.{node_bytes, trailer_bytes, canon_bytes}
use Rattle.canon_file.specs.Constants.{const_table}
use Rattle.canon_file.specs.Variables.{var_table, var_node}
use Rattle.canon_file.proofs.ConstDiagram.{no_node-const}
use Rattle.canon_file.proofs.VarDiagram.{one_node-var}
use Rattle.shelf_model.specs.declared.file_no.FileNo.{FileNo}
use Rattle.shelf_model.specs.Folder.{Folder, file_in}
use Rattle.shelf_model.specs.World.{World, now, file}
use Rattle.shelf_model.specs.Calls.{Told}
use Rattle.shelf_model.specs.Moments.{Stays, Ran}
use Rattle.shelf_model.proofs.Runs.{told, told_then, ran_end, ran_joins, ran_weakens}
use Rattle.block_stream.specs.Writes.{DuringWrite, DuringCut, Wrote, Cut}
use Rattle.sweep_core.specs.Accounts.{NoneFilled}
use Rattle.sound_image.specs.Files.{node_file}
use Rattle.bool_tables.specs.declared.steps.Step.{Step}
use Rattle.bool_tables.specs.Plans.{makes_diagram}
use Rattle.step_engine.specs.OneFile.{OnlyFile, OnlyMade}

-- what follows from a fact of an answer that is Ok
pub then : {T E : Type 0} (result : Result T E) {X Y : Type 0} → (X → Y) → OnOk result X → OnOk result Y
then (Ok x) f fact = f fact
then (Err e) f fact = tt

-- a trailer alone
pub constant_file : (n m count root : ℕ) (value : Bool) (before : List ℕ) → before ≡ [] → root ≡ terminal value → count ≡ 0 → m ≡ n
    → before ++ trailer_bytes root count m ≡ canon_bytes n (const_table n value)
constant_file n m count root value before none root_is count_is n_is =
    (λ j. none j ++ trailer_bytes (root_is j) (count_is j) (n_is j)) ∙ sym (no_node-const n value).bytes

-- one node and a trailer
pub variable_file : (n m level count root : ℕ) (node : Node) (first before : List ℕ) → level < n → first ≡ [] → before ≡ first ++ node_bytes (node ∷ [])
    → node ≡ var_node level → root ≡ row_word level 0 → count ≡ 1 → m ≡ n → before ++ trailer_bytes root count m ≡ canon_bytes n (var_table n level)
variable_file n m level count root node first before below none one node_is root_is count_is n_is =
    ap (λ bytes. bytes ++ trailer_bytes root count m) (one ∙ ap (λ bytes. bytes ++ node_bytes (node ∷ [])) none)
    ∙ (λ j. node_bytes (node_is j ∷ []) ++ trailer_bytes (root_is j) (count_is j) (n_is j)) ∙ sym (one_node-var n level below).bytes

only_then : (f : FileNo) (old mid new : World) → Ran (OnlyFile f (now old)) old mid → Ran (OnlyFile f (now mid)) mid new → Ran (OnlyFile f (now old)) old new
only_then f old mid new first second =
    ran_joins old mid new (OnlyFile f (now old)) first
    (ran_weakens mid new (OnlyFile f (now mid)) (OnlyFile f (now old)) (λ m only q differ. only q differ ∙ ran_end old mid (OnlyFile f (now old)) first q differ) second)

wrote_only : (k : ℕ) (f : FileNo) (old new : World) → Wrote k f old new → Ran (OnlyFile f (now old)) old new
wrote_only k f old new wrote = ran_weakens old new (DuringWrite f (now old)) (OnlyFile f (now old)) (λ m during. during.others) wrote.run

-- no file was changed
pub same_bytes : (f : FileNo) (old new : World) → Ran (Stays (now old)) old new → (file new f).bytes ≡ (file old f).bytes
same_bytes f old new ran = ap (λ (folder : Folder). (file_in folder f).bytes) (ran_end old new (Stays (now old)) ran)

-- and so none of the step is filled
pub fills_none : (number next : ℕ) (old new : World) → Ran (Stays (now old)) old new → NoneFilled number next old new
fills_none number next old new ran f free empty = same_bytes f old new ran ∙ empty

module _ {S : Type 0} (tells : S → Bool) (world : S → World) where
  -- a file that was begun and then written to twice
  pub written_only : (j k : ℕ) (f g h : FileNo) (old s t u : S) → g ≡ f → h ≡ f
      → Told tells old s (Cut 1 f 0 (world old) (world s)) → Told tells s t (Wrote j g (world s) (world t)) → Told tells t u (Wrote k h (world t) (world u))
      → Told tells old u (Ran (OnlyFile f (now (world old))) (world old) (world u))
  written_only j k f g h old s t u g_is h_is cut first second =
      told_then tells old t u _ _ _
      (told_then tells old s t _ _ _ cut first (λ _ a b. only_then f (world old) (world s) (world t)
      (ran_weakens (world old) (world s) (DuringCut f 0 (now (world old))) (OnlyFile f (now (world old))) (λ m during. during.others) a.run)
      (wrote_only j f (world s) (world t) (subst (λ q. Wrote j q (world s) (world t)) g_is b))))
      second
      (λ _ a b. only_then f (world old) (world t) (world u) a (wrote_only k f (world t) (world u) (subst (λ q. Wrote k q (world t) (world u)) h_is b)))

  -- the step's node file alone was changed, and the step makes a diagram
  pub made_only : (step : Step) (number : ℕ) (old s : S) → makes_diagram step ≡ true
      → Told tells old s (Ran (OnlyFile (node_file number) (now (world old))) (world old) (world s))
      → Told tells old s (Ran (OnlyMade step number (now (world old))) (world old) (world s))
  made_only step number old s diagram ran = told tells old s _ _ ran (λ _ run.
      ran_weakens (world old) (world s) (OnlyFile (node_file number) (now (world old))) (OnlyMade step number (now (world old)))
      (λ m only q apart. only q (λ same. apart (inl (diagram, same)))) run)

  -- no file was changed
  pub changes_none : (step : Step) (number : ℕ) (old s : S) → Told tells old s (Ran (Stays (now (world old))) (world old) (world s))
      → Told tells old s (Ran (OnlyMade step number (now (world old))) (world old) (world s))
  changes_none step number old s ran = told tells old s _ _ ran (λ _ run.
      ran_weakens (world old) (world s) (Stays (now (world old))) (OnlyMade step number (now (world old)))
      (λ m same q apart. ap (λ (folder : Folder). file_in folder q) same) run)
