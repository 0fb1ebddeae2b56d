-- A list of a folder's diagrams, from entering it on.
use Rattle.std.proofs.Common.{◌≡◌, ◌∙◌, ◌⊎◌, ℕ, zero, suc, ◌+◌, ◌-◌, ◌*◌, ◌/◌, ◌<◌, ◌≤◌, min, Bool, true, false, not, cond, ◌&&◌, ◌||◌, List, [], ◌∷◌, ◌++◌, length, take, drop, get_or, replicate, refl, sym, ap, ap₂, subst, inl, inr, arith}
use Rattle.std.specs.Prelude.{IsTrue, Result, Ok, Err, ◌==◌, decimal, nat_lt}
use Rattle.std.specs.List.{flat_map, list_any, range_with_len}
use Rattle.std.proofs.lemmas.List.{append-nil, length-take, length-drop, take_at}
use Rattle.shelf_model.specs.declared.file_no.FileNo.{FileNo}
use Rattle.shelf_model.specs.declared.fault.Failed.{Failed}
use Rattle.shelf_model.specs.declared.fault.StreamFault.{StreamFault}
use Rattle.shelf_model.specs.declared.fault.StreamFault.TheVariants as stream
use Rattle.shelf_model.specs.Folder.{Folder, Image, bytes_in, IsImage, AreFiles}
use Rattle.shelf_model.specs.World.{Moment, World, now, said}
use Rattle.shelf_model.specs.Calls.{Told, Entered}
use Rattle.shelf_model.specs.Moments.{Throughout}
use Rattle.shelf_model.proofs.Images.{chosen, standing_image}
use Rattle.shelf_model.proofs.Runs.{one_call, joins, weakens, at_end, told, told_then}
use Rattle.bool_tables.specs.declared.steps.Step.{Step}
use Rattle.bool_tables.specs.declared.steps.Step.TheVariants.{Const, Var, Pair, Ite, Quantify, Restrict, Drop, Same, Leq, Eval, Size}
use Rattle.bool_tables.specs.declared.steps.Planned.{Planned}
use Rattle.bool_tables.specs.Plans.{makes_diagram, is_diagram, drops}
use Rattle.catalogue.specs.declared.layout.Entry.{Entry}
use Rattle.catalogue.specs.declared.standing.Standing.{Standing}
use Rattle.catalogue.specs.Files.{catalogue, step_gate}
use Rattle.catalogue.specs.Counts.{present, count_in, entry_at}
use Rattle.catalogue.specs.Entries.{IsEntryOf}
use Rattle.catalogue.specs.Standings.{counted_or, most_steps, standing_found}
use Rattle.catalogue.proofs.Places.{length_entry}
use Rattle.diagram_list.specs.declared.fault.ListFault.{ListFault}
use Rattle.diagram_list.specs.declared.fault.ListFault.TheVariants.{Shelf, Say, Damaged}
use Rattle.diagram_list.specs.Listing.{entry_in, first_steps, is_dropped, step_line, listing}
use Rattle.diagram_list.specs.Listing as found
use Rattle.diagram_list.specs.Lists.{StandWhole, DuringList, IsDamagedPlace, NamesDamage, Lists}
use Rattle.diagram_list.proofs.Steps.{read_is}
use Rattle.step_work.specs.Plans.{no_step}
use Rattle.sound_image.specs.Jobs.{Job, step_at}
use Rattle.sound_image.specs.Entries.{kind_of, count_of, name_of, IsEntryOfStep}
use Rattle.sound_image.specs.Sound.{ShowsSteps, IsShown}
use Rattle.sound_image.specs.Holds.{AreSound}
use Rattle.sound_image.proofs.AttachLaws.{standing}
use Rattle.script_runner.specs.Text.{damaged_line}
use Rattle.diagram_list.specs.Saying.{IsSaying, StaysThere}
use Rattle.script_runner.specs.Running.{SaysOnly}
use Rattle.script_runner.proofs.Saying.{stays_and_says}
use Rattle.script_runner.specs.Listed.{EndsList, diagram_line, diagram_lines, IsListing, NamesPlace, ListsFrom, ListsIn}

-- what is read of a sound folder shows the job
present_shown : (job : Job) (folder : Folder) → AreFiles folder → AreSound job folder → IsShown job (present folder)
present_shown job folder files sound =
    let image : Image = chosen (λ _ x. x.bytes) folder in
    let reads : bytes_in image ≡ present folder = λ i f. standing folder files f i in
    subst (IsShown job) reads (sound image (standing_image folder files)).shown

-- a committed step has an entry that stands whole
stands : (job : Job) (r : FileNo → List ℕ) (k : ℕ) → ShowsSteps job r → k < count_in r → (e : Entry) × IsEntryOfStep job k e × IsEntryOf k r e
stands job r k shown within =
    let there = shown.entries k within in
    (there.0, there.1, record { entry = there.1.entry_is; number = there.1.number_is; bytes = there.2 })

-- and it is that of the step
entry_of_step : (job : Job) (r : FileNo → List ℕ) (k : ℕ) → ShowsSteps job r → k < count_in r → IsEntryOfStep job k (entry_in r k)
entry_of_step job r k shown within =
    let there = stands job r k shown within in
    subst (IsEntryOfStep job k) (sym (read_is k r there.0 there.2)) there.1

-- the catalogue reaches to the end of an entry that stands
reaches : (k : ℕ) (r : FileNo → List ℕ) (e : Entry) → IsEntryOf k r e → 128 * (k + 1) ≤ length (r catalogue)
reaches k r e is =
    let there : length (entry_at k r) ≡ min 128 (length (drop (128 * k) (r catalogue))) = length-take 128 (drop (128 * k) (r catalogue)) in
    let behind : length (drop (128 * k) (r catalogue)) ≡ length (r catalogue) - 128 * k = length-drop (128 * k) (r catalogue) in
    let long : length (entry_at k r) ≡ 128 = ap length is.bytes ∙ length_entry e is.entry.fits in
    omega arith

-- so it covers the entries of all committed steps
covers : (job : Job) (r : FileNo → List ℕ) (n : ℕ) → ShowsSteps job r → n ≤ count_in r → 128 * n ≤ length (r catalogue)
covers job r zero shown within = omega arith
covers job r (suc n) shown within =
    let there = stands job r n shown (omega (arith, within)) in
    let far : 128 * (n + 1) ≤ length (r catalogue) = reaches n r there.0 there.2 in
    omega (arith, far)

-- neither the gate nor the catalogue is damaged where the gate counts few steps and the catalogue covers them
counts_well : (done size : ℕ) → done ≤ most_steps → 128 * done ≤ size → counted_or stream.Damaged most_steps done size ≡ Ok (record { fresh = false; done = done })
counts_well done size few covered = by_gate (nat_lt most_steps done) refl
  where
    counted : Result Standing StreamFault
    counted = Ok (record { fresh = false; done = done })

    sized : Bool → Result Standing StreamFault
    sized short = cond short (Err (stream.Damaged catalogue (128 * (size / 128)))) counted

    -- a number that isn't less
    less : (a b : ℕ) → nat_lt a b ≡ true → b ≤ a → ⊥
    less a b h k = search (arith, h, k)

    by_size : (b : Bool) → nat_lt size (128 * done) ≡ b → sized b ≡ counted
    by_size true e = absurd (less size (128 * done) e covered)
    by_size false e = refl

    by_gate : (b : Bool) → nat_lt most_steps done ≡ b → cond b (Err (stream.Damaged step_gate most_steps)) (sized (nat_lt size (128 * done))) ≡ counted
    by_gate true e = absurd (less most_steps done e few)
    by_gate false e = by_size (nat_lt size (128 * done)) refl

-- no place is damaged where a job is shown
none_damaged : (job : Job) (file : FileNo) (at : ℕ) (r : FileNo → List ℕ) → length job.steps ≤ most_steps → IsShown job r → ¬ (IsDamagedPlace file at r)
none_damaged job file at r few (inl none) (inl refused) =
    let fresh : standing_found r ≡ Ok (record { fresh = true; done = 0 }) =
    ap (λ b. cond b (counted_or stream.Damaged most_steps (length (r step_gate)) (length (r catalogue))) (Ok (record { fresh = true; done = 0 }))) none.0 in
    no_fault _ (stream.Damaged file at) (sym fresh ∙ refused)
  where
    no_fault : (s : Standing) (fault : StreamFault) → ◌≡◌ {A = Result Standing StreamFault} (Ok s) (Err fault) → ⊥
    no_fault s fault same = cc
none_damaged job file at r few (inl none) (inr lacks) =
    let count : count_in r ≡ 0 = ap (λ b. cond b (length (r step_gate)) 0) none.0 in
    let within : lacks.step < count_in r = lacks.within in
    omega (arith, count, within)
none_damaged job file at r few (inr shown) (inl refused) =
    let count : count_in r ≡ length (r step_gate) = ap (λ b. cond b (length (r step_gate)) 0) shown.stored in
    let counted : count_in r ≤ length job.steps = shown.few in
    let covered : 128 * count_in r ≤ length (r catalogue) = covers job r (count_in r) shown (omega arith) in
    let found_so : standing_found r ≡ Ok (record { fresh = false; done = length (r step_gate) }) =
    ap (λ b. cond b (counted_or stream.Damaged most_steps (length (r step_gate)) (length (r catalogue))) (Ok (record { fresh = true; done = 0 }))) shown.stored
    ∙ counts_well (length (r step_gate)) (length (r catalogue)) (omega (arith, count, counted, few)) (omega (arith, count, covered)) in
    no_fault _ (stream.Damaged file at) (sym found_so ∙ refused)
  where
    no_fault : (s : Standing) (fault : StreamFault) → ◌≡◌ {A = Result Standing StreamFault} (Ok s) (Err fault) → ⊥
    no_fault s fault same = cc
none_damaged job file at r few (inr shown) (inr lacks) =
    let there = stands job r lacks.step shown lacks.within in
    lacks.lacks.2 there.0 there.2

-- the kind of an entry says whether its step makes a diagram
kind_makes : (step : Step) → (kind_of step == 1) ≡ makes_diagram step
kind_makes (Const value) = refl
kind_makes (Var level) = refl
kind_makes (Pair op left right) = refl
kind_makes (Ite test if_one if_zero) = refl
kind_makes (Quantify kind operand level) = refl
kind_makes (Restrict operand level value) = refl
kind_makes (Drop gone) = refl
kind_makes (Same left right) = refl
kind_makes (Leq left right) = refl
kind_makes (Eval operand at) = refl
kind_makes (Size operand) = refl

-- and, with its count, which diagram it drops
kind_drops : (job : Job) (j k : ℕ) (step : Step) → ((kind_of step == 2) && (count_of job j step == k)) ≡ drops k step
kind_drops job j k (Const value) = refl
kind_drops job j k (Var level) = refl
kind_drops job j k (Pair op left right) = refl
kind_drops job j k (Ite test if_one if_zero) = refl
kind_drops job j k (Quantify kind operand level) = refl
kind_drops job j k (Restrict operand level value) = refl
kind_drops job j k (Drop gone) = refl
kind_drops job j k (Same left right) = refl
kind_drops job j k (Leq left right) = refl
kind_drops job j k (Eval operand at) = refl
kind_drops job j k (Size operand) = refl

-- a test of the first numbers that says what a test of the first steps says
any_first : (p : ℕ → Bool) (q : Planned → Bool) (a n : ℕ) (steps : List Planned) → n ≤ length steps
    → ((j : ℕ) → j < n → p (a + j) ≡ q (get_or steps j no_step)) → list_any p (range_with_len a n) ≡ list_any q (take n steps)
any_first p q a zero steps within same = refl
any_first p q a (suc n) [] within same = absurd (omega (arith, within))
any_first p q a (suc n) (s ∷ steps) within same =
    let here : a ≡ a + 0 = omega arith in
    let first : p a ≡ q s = ap p here ∙ same 0 (omega arith) in
    let later : list_any p (range_with_len (a + 1) n) ≡ list_any q (take n steps) =
    any_first p q (a + 1) n steps (omega (arith, within)) (λ j less. let place : a + 1 + j ≡ a + suc j = omega arith in ap p place ∙ same (suc j) (omega (arith, less))) in
    ap₂ (λ u v. u || v) first later

-- a step among the first makes a diagram
diagram_among : (steps : List Planned) (n k : ℕ) → k < n → n ≤ length steps → is_diagram (take n steps) k ≡ makes_diagram (get_or steps k no_step).step
diagram_among steps zero k below within = absurd (omega (arith, below))
diagram_among [] (suc n) k below within = absurd (omega (arith, within))
diagram_among (s ∷ steps) (suc n) zero below within = refl
diagram_among (s ∷ steps) (suc n) (suc k) below within = diagram_among steps n k (omega (arith, below)) (omega (arith, within))

-- the committed steps drop what their entries say
dropped_is : (job : Job) (r : FileNo → List ℕ) (k : ℕ) → ShowsSteps job r → is_dropped r (count_in r) k ≡ list_any (λ (s : Planned). drops k s.step) (take (count_in r) job.steps)
dropped_is job r k shown =
    any_first (λ j. found.drops k (entry_in r j)) (λ (s : Planned). drops k s.step) 0 (count_in r) job.steps shown.few (λ j within. says j (entry_of_step job r j shown within))
  where
    says : (j : ℕ) → IsEntryOfStep job j (entry_in r j) → found.drops k (entry_in r (0 + j)) ≡ drops k (step_at job j).step
    says j is = let place : 0 + j ≡ j = omega arith in ap (λ i. found.drops k (entry_in r i)) place ∙ ap₂ (λ kind count. (kind == 2) && (count == k)) is.kind_is is.count_is ∙ kind_drops job j k (step_at job j).step

-- the line of an entry is that of its step
line_of_entry : (job : Job) (k : ℕ) (e : Entry) → IsEntryOfStep job k e
    → found.diagram_line e ≡ name_of job (step_at job k) ++ (32 ∷ (decimal (count_of job k (step_at job k).step) ++ 10 ∷ []))
line_of_entry job k e is =
    let name : List ℕ = name_of job (step_at job k) in
    let named : take e.name_len e.name ≡ name =
    ap₂ take is.name_len_is is.name_is ∙ take_at name (replicate (63 - length name) 0) (length name) refl in
    ap₂ (λ xs count. xs ++ (32 ∷ (decimal count ++ 10 ∷ []))) named is.count_is

-- a committed step has the line of the job
line_is : (job : Job) (r : FileNo → List ℕ) (k : ℕ) → ShowsSteps job r → k < count_in r → step_line r (count_in r) k ≡ diagram_line job (count_in r) k
line_is job r k shown within =
    let e : Entry = entry_in r k in
    let is : IsEntryOfStep job k e = entry_of_step job r k shown within in
    let made : (e.kind == 1) ≡ is_diagram (take (count_in r) job.steps) k =
    ap (λ kind. kind == 1) is.kind_is ∙ kind_makes (step_at job k).step ∙ sym (diagram_among job.steps (count_in r) k within shown.few) in
    let named : nat_lt 0 e.name_len ≡ nat_lt 0 (length (name_of job (step_at job k))) = ap (nat_lt 0) is.name_len_is in
    let dropped = dropped_is job r k shown in
    chosen_by (ap₂ (λ a b. a && b) made named) (ap not dropped) (line_of_entry job k e is)
    ∙ ap (λ b. cond b (name_of job (step_at job k) ++ (32 ∷ (decimal (count_of job k (step_at job k).step) ++ 10 ∷ []))) [])
    (other_order (is_diagram (take (count_in r) job.steps) k) (nat_lt 0 (length (name_of job (step_at job k))))
    (not (list_any (λ (s : Planned). drops k s.step) (take (count_in r) job.steps))))
  where
    chosen_by : {a b c d : Bool} {x y : List ℕ} → a ≡ c → b ≡ d → x ≡ y → cond (a && b) x [] ≡ cond (c && d) y []
    chosen_by first second line = λ i. cond (first i && second i) (line i) []

    other_order : (a b c : Bool) → ((a && b) && c) ≡ ((a && c) && b)
    other_order true true true = refl
    other_order true true false = refl
    other_order true false true = refl
    other_order true false false = refl
    other_order false b c = refl

lines_alike : (f g : ℕ → List ℕ) (a n : ℕ) → ((k : ℕ) → k < a + n → f k ≡ g k) → flat_map f (range_with_len a n) ≡ flat_map g (range_with_len a n)
lines_alike f g a zero same = refl
lines_alike f g a (suc n) same =
    ap₂ (λ x y. x ++ y) (same a (omega arith)) (lines_alike f g (a + 1) n (λ k within. same k (omega (arith, within))))

-- the lines of a folder that shows a job
lines_shown : (job : Job) (r : FileNo → List ℕ) → IsShown job r → listing r ≡ diagram_lines job (count_in r)
lines_shown job r (inl none) =
    let count : count_in r ≡ 0 = ap (λ b. cond b (length (r step_gate)) 0) none.0 in
    ap (λ n. flat_map (step_line r n) (first_steps n)) count ∙ sym (ap (diagram_lines job) count)
lines_shown job r (inr shown) = lines_alike (step_line r (count_in r)) (diagram_line job (count_in r)) 0 (count_in r) (λ k within. line_is job r k shown (omega (arith, within)))

-- what a list leaves, where its folder is one that can be
listed : (status : ℕ) (old new : World) → AreFiles (now old).folder → Throughout old new (IsListing (now old))
    → (status ≡ 0 → said new ≡ said old ++ listing (present (now old).folder)) → (status ≡ 0 → StandWhole (count_in (present (now old).folder)) (present (now old).folder))
    → (status ≡ 10 → NamesPlace (now old) new) → ListsFrom status (now old) old new
listed status old new files moments whole stand names = record {
  moments = moments;
  whole = whole;
  stand = stand;
  damaged = names;
  goes_on = λ job few sound ten. none_damaged job (names ten).file (names ten).at (present (now old).folder) few (present_shown job (now old).folder files sound) (names ten).place;
  lines_are = λ job sound. lines_shown job (present (now old).folder) (present_shown job (now old).folder files sound);
}

-- while the lines are said
said_so_far : (old new : World) → Throughout old new (DuringList (listing (present (now old).folder)) (now old)) → Throughout old new (IsListing (now old))
said_so_far old new moments =
    weakens old new (DuringList (listing (present (now old).folder)) (now old)) (IsListing (now old)) (λ m during. record {
      images = during.files.images;
      says = inl (record { front = during.says.front; rest = during.says.rest; text_is = during.says.text_is; said_is = during.says.said_is });
    }) moments

-- the status of a list
abbrev pub list_status : Result Unit ListFault → ℕ
list_status (Ok x) = 0
list_status (Err Shelf) = 7
list_status (Err Say) = 8
list_status (Err (Damaged file at)) = 10

-- a list that ended without a line of its own
abbrev pub IsQuietList : Result Unit ListFault → Type 0
IsQuietList (Ok x) = Unit {0}
IsQuietList (Err Shelf) = Unit {0}
IsQuietList (Err Say) = Unit {0}
IsQuietList (Err (Damaged file at)) = ⊥

ends_list : (result : Result Unit ListFault) → EndsList (list_status result)
ends_list (Ok x) = inl refl
ends_list (Err Shelf) = inr (inl refl)
ends_list (Err Say) = inr (inr (inl refl))
ends_list (Err (Damaged file at)) = inr (inr (inr refl))

-- the lines were said, or a call failed
lists_from : (result : Result Unit ListFault) (old new : World) → AreFiles (now old).folder → IsQuietList result → Lists result old new → ListsFrom (list_status result) (now old) old new
lists_from (Ok x) old new files quiet lists =
    listed 0 old new files (said_so_far old new lists.moments) (λ zero. lists.ok) (λ zero. lists.whole) (λ ten. absurd (omega (arith, ten)))
lists_from (Err Shelf) old new files quiet lists =
    listed 7 old new files (said_so_far old new lists.moments) (λ zero. absurd (omega (arith, zero))) (λ zero. absurd (omega (arith, zero))) (λ ten. absurd (omega (arith, ten)))
lists_from (Err Say) old new files quiet lists =
    listed 8 old new files (said_so_far old new lists.moments) (λ zero. absurd (omega (arith, zero))) (λ zero. absurd (omega (arith, zero))) (λ ten. absurd (omega (arith, ten)))
lists_from (Err (Damaged file at)) old new files quiet lists = absurd quiet

-- a damaged place was met, and that was said, or a front part of it
lists_damage : (file : FileNo) (at status : ℕ) (old mid new : World) → AreFiles (now old).folder → (status ≡ 10) ⊎ (status ≡ 8) → Lists (Err (Damaged file at)) old mid
    → SaysOnly (damaged_line file at) mid new → (status ≡ 10 → said new ≡ said mid ++ damaged_line file at) → ListsFrom status (now old) old new
lists_damage file at status old mid new files which lists says whole =
    listed status old new files
    (joins old mid new (IsListing (now old)) (said_so_far old mid lists.moments)
    (weakens mid new (IsSaying (damaged_line file at) (now mid)) (IsListing (now old)) (λ m saying. record {
      images = subst (λ (folder : Folder). (image : Image) → IsImage folder image → IsImage (now old).folder image) (sym saying.folder_is) end.files.images;
      says = inr (
        file,
        at,
        names.place,
        record {
          front = saying.says.front;
          rest = saying.says.rest;
          text_is = saying.says.text_is;
          said_is = saying.says.said_is ∙ ap (λ b. b ++ saying.says.front) names.said_is;
        },
      );
    }) says.moments))
    (λ zero. absurd (not_zero zero)) (λ zero. absurd (not_zero zero))
    (λ ten. record { file = file; at = at; place = names.place; said_is = whole ten ∙ ap (λ b. b ++ damaged_line file at) names.said_is })
  where
    names : NamesDamage file at old mid
    names = lists.damaged file at refl

    end : DuringList (listing (present (now old).folder)) (now old) (now mid)
    end = at_end old mid (DuringList (listing (present (now old).folder)) (now old)) lists.moments

    not_zero : status ≡ 0 → ⊥
    not_zero none = elim which [ inl x ↦ omega (arith, x, none) | inr x ↦ omega (arith, x, none) ]

-- nothing was said
not_listing : (m : Moment) → IsListing m m
not_listing m = record {
  images = λ image is_image. is_image;
  says = inl (record { front = []; rest = listing (present m.folder); text_is = refl; said_is = sym (append-nil m.said) });
}

-- the folder was entered first
earlier_list : (status : ℕ) (old mid new : World) → Throughout old mid (λ m. m ≡ now old) → ListsFrom status (now old) mid new → ListsFrom status (now old) old new
earlier_list status old mid new stay lists = record {
  moments = joins old mid new (IsListing (now old)) (weakens old mid (λ m. m ≡ now old) (IsListing (now old)) (λ m same. subst (IsListing (now old)) (sym same) (not_listing (now old))) stay) lists.moments;
  whole = lists.whole;
  stand = lists.stand;
  damaged = lists.damaged;
  goes_on = lists.goes_on;
  lines_are = lists.lines_are;
}

enters_list : (folder : List ℕ) (status : ℕ) (x : Unit) (old mid new : World) → EndsList status → Entered folder (Ok x) old mid → StaysThere mid new
    → ListsFrom status (now mid) mid new → ListsIn folder status old new
enters_list folder status x old mid new ends entered place lists = record {
  status_is = ends;
  leaves = earlier_list status old mid new (one_call old mid (λ m. m ≡ now old) entered.ticks refl entered.same)
      (subst (λ start. ListsFrom status start mid new) entered.same lists);
  texts_are = place.texts_are ∙ entered.texts_are;
  home_is = place.home_is ∙ entered.home_is;
  strays_are = λ home. place.strays_are (entered.ok home) ∙ entered.at_home home;
}

-- the fault that was answered
pub same_fault : {S : Type 0} (tells : S → Bool) (world : S → World) (fault other : ListFault) (s t : S) → fault ≡ other
    → Told tells s t (Lists (Err fault) (world s) (world t)) → Told tells s t (Lists (Err other) (world s) (world t))
same_fault tells world fault other s t same list = subst (λ f. Told tells s t (Lists (Err f) (world s) (world t))) same list

module _ {S : Type 0} (tells : S → Bool) (world : S → World) (law : (s : S) → IsTrue (tells s) → AreFiles (now (world s)).folder) where
  -- the folder couldn't be entered
  pub list_not_entered : (folder : List ℕ) (result : Result Unit Failed) (old s : S)
      → Told tells old s (Entered folder result (world old) (world s)) → Told tells old s (ListsIn folder 7 (world old) (world s))
  list_not_entered folder result old s entered = told tells old s _ _ entered (λ tells_old e. record {
    status_is = inr (inl refl);
    leaves = listed 7 (world old) (world s) (law old tells_old)
        (one_call (world old) (world s) (IsListing (now (world old))) e.ticks (not_listing (now (world old))) (subst (IsListing (now (world old))) (sym e.same) (not_listing (now (world old)))))
        (λ zero. absurd (omega (arith, zero))) (λ zero. absurd (omega (arith, zero))) (λ ten. absurd (omega (arith, ten)));
    texts_are = e.texts_are;
    home_is = e.home_is;
    strays_are = λ home. e.at_home home;
  })

  files_entered : (folder : List ℕ) (x : Unit) (old s : S) → IsTrue (tells old) → Entered folder (Ok x) (world old) (world s) → AreFiles (now (world s)).folder
  files_entered folder x old s tells_old e = subst (λ (m : Moment). AreFiles m.folder) (sym e.same) (law old tells_old)

  -- its diagrams were listed, or a call failed
  pub entered_list : (folder : List ℕ) (result : Result Unit ListFault) (x : Unit) (old s t : S) → IsQuietList result
      → Told tells old s (Entered folder (Ok x) (world old) (world s)) → Told tells s t (Lists result (world s) (world t))
      → Told tells old t (ListsIn folder (list_status result) (world old) (world t))
  entered_list folder result x old s t quiet entered list =
      told_then tells old s t _ _ _ entered list (λ tells_old e l. enters_list folder (list_status result) x (world old) (world s) (world t) (ends_list result) e l.place
      (lists_from result (world s) (world t) (files_entered folder x old s tells_old e) quiet l))

  -- a damaged place was met, with the line that says so
  pub entered_damaged : (folder : List ℕ) (file : FileNo) (at status : ℕ) (line : List ℕ) (x : Unit) (old s t u : S) → (status ≡ 10) ⊎ (status ≡ 8) → line ≡ damaged_line file at
      → Told tells old s (Entered folder (Ok x) (world old) (world s)) → Told tells s t (Lists (Err (Damaged file at)) (world s) (world t))
      → Told tells t u (SaysOnly line (world t) (world u)) → (status ≡ 10 → IsTrue (tells u) → said (world u) ≡ said (world t) ++ line)
      → Told tells old u (ListsIn folder status (world old) (world u))
  entered_damaged folder file at status line x old s t u which line_is entered list says whole = record {
    before = λ tells_u. entered.before (list.before (says.before tells_u));
    did = λ tells_u.
        let tells_t : IsTrue (tells t) = says.before tells_u in
        let tells_s : IsTrue (tells s) = list.before tells_t in
        let tells_old : IsTrue (tells old) = entered.before tells_s in
        let e = entered.did tells_s in
        let l = list.did tells_t in
        let only : SaysOnly (damaged_line file at) (world t) (world u) = subst (λ text. SaysOnly text (world t) (world u)) line_is (says.did tells_u) in
        enters_list folder status x (world old) (world s) (world u) (elim which [ inl a ↦ inr (inr (inr a)) | inr a ↦ inr (inr (inl a)) ]) e
        (stays_and_says (damaged_line file at) (world s) (world t) (world u) l.place only)
        (lists_damage file at status (world s) (world t) (world u) (files_entered folder x old s tells_old e) which l only
        (λ ten. whole ten tells_u ∙ ap (λ text. said (world t) ++ text) line_is));
  }
