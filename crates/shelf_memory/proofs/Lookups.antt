-- The files in memory after a change of one, and their counts after a read of one.
use Rattle.std.proofs.Common.{◌≡◌, ◌≢◌, ℕ, [], sym, ap}
use Rattle.std.specs.Prelude.{Option}
use Rattle.std.specs.Option.{option_map_or}
use Rattle.std.specs.BTreeMap.{BTreeMap, UpdatesBy, is_at}
use Rattle.std.specs.Map.{lookup}
use Rattle.shelf_model.specs.declared.file_no.FileNo.{FileNo}
use Rattle.shelf_model.specs.File.{no_file}
use Rattle.shelf_model.specs.Folder.{file_cmp}
use Rattle.shelf_model.proofs.Numbers.{apart}
use Rattle.shelf_memory.specs.declared.change.Stored.{Stored}
use Rattle.shelf_memory.specs.Changes.{file_of}
use Rattle.shelf_memory.specs.Files.{stored_in}
use Rattle.shelf_memory.specs.Reads.{read_count}

pub others_stay : (m n : BTreeMap FileNo Stored) (f : FileNo) (w : Option Stored) → UpdatesBy file_cmp (file_cmp f) m n w
    → (q : FileNo) → q ≢ f → stored_in n q ≡ stored_in m q
others_stay m n f w updates q differ = ap (λ o. option_map_or file_of o no_file) (updates.2 q (apart q f (λ e. differ (sym e))))

pub counts_stay : (m n : BTreeMap FileNo ℕ) (f : FileNo) (w : Option ℕ) → UpdatesBy file_cmp (file_cmp f) m n w
    → (q : FileNo) → q ≢ f → read_count n q ≡ read_count m q
counts_stay m n f w updates q differ = ap (λ o. option_map_or (λ (count : ℕ). count) o 0) (updates.2 q (apart q f (λ e. differ (sym e))))

pub none_stored : (m : BTreeMap FileNo Stored) → m.entries ≡ [] → (q : FileNo) → stored_in m q ≡ no_file
none_stored m none q = ap (λ es. option_map_or file_of (lookup (is_at (file_cmp q)) es) no_file) none
