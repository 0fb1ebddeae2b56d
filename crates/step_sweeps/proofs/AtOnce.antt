-- What a step makes that is sure to be made at once, by what a way of it does, and after the trailers were looked at.
use Rattle.std.proofs.Common.{◌≡◌, ◌∙◌, ℕ, ◌+◌, ◌*◌, ◌^◌, ◌<◌, ◌≤◌, Bool, IsTrue, List, refl, ap, subst, sym, arith}
use Rattle.std.specs.Prelude.{Option, Some, None, Result, Ok, Err, IfOk, IfSome, IfNone}
use Rattle.bool_tables.specs.declared.steps.Bin.{Bin}
use Rattle.shelf_model.specs.declared.fault.Failed.{Failed}
use Rattle.shelf_model.specs.declared.fault.StreamFault.{StreamFault}
use Rattle.shelf_model.specs.declared.fault.StreamFault.TheVariants as stream
use Rattle.shelf_model.specs.Calls.{Told}
use Rattle.shelf_model.specs.Faults.{Faults, OnlyFolder, OnlyShelf}
use Rattle.shelf_model.specs.Moments.{Ran, Stays, OnlyChanged}
use Rattle.shelf_model.specs.World.{World, now}
use Rattle.shelf_model.proofs.Changing.{told_changed_then}
use Rattle.shelf_model.proofs.Runs.{told, told_then, told_here, ran_stands, ran_joins, ran_end, ran_weakens, only_folder_then}
use Rattle.block_stream.specs.Reads.{Looked}
use Rattle.node_file.specs.Canonical.{IsMade}
use Rattle.node_file.specs.Changes.{Changed}
use Rattle.copied_diagrams.specs.declared.pair.Pair.{Pair}
use Rattle.copied_diagrams.specs.Operands.{pair_table}
use Rattle.copied_diagrams.proofs.PairRuns.{file_before}
use Rattle.room_products.specs.declared.join.Joined.{Joined}
use Rattle.room_products.specs.Joined.{IsOperandOf}
use Rattle.step_sweeps.specs.declared.at_once.AtMost.{AtMost}
use Rattle.step_sweeps.specs.declared.diagram.MadeDiagram.{MadeDiagram}
use Rattle.step_sweeps.specs.declared.task.Making.{Making}
use Rattle.step_sweeps.specs.AtOnce.{MakesNow}
use Rattle.step_sweeps.specs.Given.{Tables, made_by}
use Rattle.step_sweeps.specs.Made.{node_file}
use Rattle.step_sweeps.specs.Makes.{IsGiven, table_by, nodes_for}
use Rattle.step_sweeps.specs.Pairs.{IsPairOf}
use Rattle.step_sweeps.proofs.JoinsAnew.{nodes_are, operands_are}
use Rattle.step_sweeps.proofs.WaysAnew.{changed_run, looked_changed}

-- a call that ended well, and one for which the folder failed
pub folder_fine : {A B : Type 0} (old new : Faults) (x : A) (y : B) → OnlyShelf old new (Ok x) → OnlyFolder old new (Ok y)
folder_fine old new x y only = record { later = only.later; cause = tt; say_is = only.say_is; text_is = only.text_is }

pub folder_failed : {A B : Type 0} (old new : Faults) (e : StreamFault) (f : Failed) → e ≡ stream.Shelf
    → OnlyShelf {T = A} old new (Err e) → OnlyFolder {T = B} old new (Err f)
folder_failed {A} old new e f is only = record {
  later = only.later;
  cause = only.cause (ap (λ (x : StreamFault). Err x) is);
  say_is = only.say_is;
  text_is = only.text_is;
}

-- the same of a call whose answer is handed on
pub folder_answered : {A B : Type 0} (old new : Faults) (x : A) (y : B) → OnlyFolder old new (Ok x) → OnlyFolder old new (Ok y)
folder_answered old new x y only = record { later = only.later; cause = tt; say_is = only.say_is; text_is = only.text_is }

pub folder_refused : {A B : Type 0} (old new : Faults) (e f : Failed) → OnlyFolder {T = A} old new (Err e)
    → OnlyFolder {T = B} old new (Err f)
folder_refused old new e f only = record { later = only.later; cause = only.cause; say_is = only.say_is; text_is = only.text_is }

-- damage is no fault of the folder
pub folder_damage : {A B : Type 0} (old new : Faults) (e : StreamFault) (y : B) → OnlyShelf {T = A} old new (Err e)
    → OnlyFolder old new (Ok y)
folder_damage old new e y only = record { later = only.later; cause = tt; say_is = only.say_is; text_is = only.text_is }

-- a look changes no file, and so not the step's node file either
pub looked_only : {S : Type 0} (tells : S → Bool) (world : S → World) (number looked : ℕ) (old new : S)
    → Told tells old new (Looked looked (world old) (world new))
    → Told tells old new (Ran (OnlyChanged (λ q. q ≡ node_file number) (now (world old))) (world old) (world new))
looked_only tells world number looked old new look =
    told tells old new _ _ look (λ _ did. looked_changed number looked (world old) (world new) did)

-- operands that are given before a look are given behind it
given_then : (making : Making) (looked : ℕ) (old mid : World) (g : Tables) → Looked looked old mid
    → IsGiven making old g → IsGiven making mid g
given_then making looked old mid g look is = record {
  first = file_before making.n looked g.first making.operands.first old mid look is.first;
  second = file_before making.n looked g.second making.operands.second old mid look is.second;
  third = file_before making.n looked g.third making.operands.third old mid look is.third;
  repeated = is.repeated;
}

module _ {S : Type 0} (tells : S → Bool) (world : S → World) (counts : S → Faults) (making : Making) (most : AtMost) where
  -- nothing is made behind a look
  pub nothing_made : (trailers looked : ℕ) (old new : S) → looked ≤ trailers + most.looks
      → (IsTrue (tells new) → (g : Tables) → IsGiven making (world old) g
      → (world new).clock ≤ (world old).clock + (16 * nodes_for making g + 21 + trailers))
      → (IsTrue (tells new) → (world new).clock ≤ (world old).clock + (2 ^ 18 + 6 + trailers))
      → Told tells old new (Looked looked (world old) (world new))
      → OnlyFolder {T = Option MadeDiagram} (counts old) (counts new) (Ok None)
      → MakesNow tells world counts making most trailers old new (Ok None)
  nothing_made trailers looked old new less few short look faults = record {
    made = tt;
    not_made = told tells old new _ _ look (λ _ did. record {
      run = did.run;
      few = let calls = did.few in omega (arith, calls, less);
    });
    few_calls = few;
    short = short;
    content = looked_only tells world making.number looked old new look;
    faults = faults;
  }

  -- the folder failed
  pub nothing_left : (trailers : ℕ) (f : Failed) (old new : S)
      → (IsTrue (tells new) → (g : Tables) → IsGiven making (world old) g
      → (world new).clock ≤ (world old).clock + (16 * nodes_for making g + 21 + trailers))
      → (IsTrue (tells new) → (world new).clock ≤ (world old).clock + (2 ^ 18 + 6 + trailers))
      → Told tells old new (Ran (OnlyChanged (λ q. q ≡ node_file making.number) (now (world old))) (world old) (world new))
      → OnlyFolder {T = Option MadeDiagram} (counts old) (counts new) (Err f)
      → MakesNow tells world counts making most trailers old new (Err f)
  nothing_left trailers f old new few short content faults = record {
    made = tt;
    not_made = tt;
    few_calls = few;
    short = short;
    content = content;
    faults = faults;
  }

  -- the node file was made, in so many turns, of no more than fifteen for each node and as many more
  pub made_now : (calls : ℕ) (m : MadeDiagram) (old new : S) → 0 < m.turns → m.turns ≤ most.turns → m.next ≡ 3
      → (IsTrue (tells new) → (g : Tables) → IsGiven making (world old) g
      → IsMade making.n (table_by making g) (node_file making.number) m.nodes (world new)
      × (m.turns ≤ 15 * (nodes_for making g + 1)) × (calls ≤ 16 * nodes_for making g + 21))
      → (IsTrue (tells new) → (world new).clock ≤ (world old).clock + (8 * m.turns + 6))
      → (IsTrue (tells new) → (world new).clock ≤ (world old).clock + (2 ^ 18 + 6))
      → Told tells old new (Changed calls (node_file making.number) (world old) (world new))
      → OnlyFolder {T = Option MadeDiagram} (counts old) (counts new) (Ok (Some m))
      → MakesNow tells world counts making most 0 old new (Ok (Some m))
  made_now calls m old new some within next made paid short content faults = record {
    made = record {
      made = λ told g given.
          let done = made told g given in
          let few = done.1 in
          record { made = done.0; few = omega (arith, few) };
      some = some;
      few = within;
      next_is = next;
      calls = λ told. let few = paid told in omega (arith, few);
    };
    not_made = tt;
    few_calls = λ told g given.
        let few = (made told g given).2 in
        let called = (content.did told).few in
        omega (arith, few, called);
    short = λ told. let few = short told in omega (arith, few);
    content = changed_run tells world making.number calls old new content;
    faults = faults;
  }

  -- a diagram of so many nodes was made, with a turn for each node and one
  pub made_of_nodes : (count : ℕ) (m : MadeDiagram) (old new : S) → count < most.turns → count < 65536
      → m ≡ record { nodes = count; turns = count + 1; next = 3 }
      → (IsTrue (tells new) → (g : Tables) → IsGiven making (world old) g
      → IsMade making.n (table_by making g) (node_file making.number) count (world new) × (count ≤ nodes_for making g))
      → Told tells old new (Changed (2 * count + 4) (node_file making.number) (world old) (world new))
      → OnlyFolder {T = Option MadeDiagram} (counts old) (counts new) (Ok (Some m))
      → MakesNow tells world counts making most 0 old new (Ok (Some m))
  made_of_nodes count m old new less small is made content faults =
      let nodes : m.nodes ≡ count = ap (λ (x : MadeDiagram). x.nodes) is in
      let turns : m.turns ≡ count + 1 = ap (λ (x : MadeDiagram). x.turns) is in
      made_now (2 * count + 4) m old new (omega (arith, turns)) (omega (arith, turns, less))
      (ap (λ (x : MadeDiagram). x.next) is)
      (λ told g given.
      let done = made told g given in
      let few = done.1 in (
        record { form = done.0.form; file_is = done.0.file_is; nodes_are = nodes ∙ done.0.nodes_are },
        omega (arith, turns, few),
        omega (arith, few),
      ))
      (λ told. let called = (content.did told).few in omega (arith, turns, called))
      (λ told. let called = (content.did told).few in omega (arith, small, called))
      content faults

  -- or it was begun, and the folder failed
  pub failed_of_nodes : (count : ℕ) (f : Failed) (old new : S) → count < 65536
      → (IsTrue (tells old) → (g : Tables) → IsGiven making (world old) g → count ≤ nodes_for making g)
      → Told tells old new (Changed (2 * count + 4) (node_file making.number) (world old) (world new))
      → OnlyFolder {T = Option MadeDiagram} (counts old) (counts new) (Err f)
      → MakesNow tells world counts making most 0 old new (Err f)
  failed_of_nodes count f old new small few content faults =
      nothing_left 0 f old new
      (λ told g given.
      let called = (content.did told).few in
      let fewer = few (content.before told) g given in
      omega (arith, called, fewer))
      (λ told. let called = (content.did told).few in omega (arith, called, small))
      (changed_run tells world making.number (2 * count + 4) old new content) faults

  -- two operands were joined in the room, or not, or the folder failed
  module _ (op : Bin) (pair : Pair) (old : S) (are : IsPairOf tells world op making pair old) where
    -- the nodes of both
    abbrev both : ℕ
    both = pair.left.trailer.count + pair.right.trailer.count

    pub joined_now : (j : Joined) (new : S) → 15 * (both + 1) ≤ most.turns → 0 < j.turns → j.turns ≤ 15 * (both + 1)
        → (IsTrue (tells new) → (t u : List Bool) → IsOperandOf making.n t pair.left (world old)
        → IsOperandOf making.n u pair.right (world old)
        → IsMade making.n (pair_table making.n op t u) (node_file making.number) j.nodes (world new))
        → (IsTrue (tells new) → (world new).clock ≤ (world old).clock + (8 * j.turns + 6))
        → (IsTrue (tells new) → (world new).clock ≤ (world old).clock + (2 ^ 18 + 6))
        → Told tells old new (Changed (16 * both + 21) (node_file making.number) (world old) (world new))
        → OnlyFolder {T = Option MadeDiagram} (counts old) (counts new)
        (Ok (Some (record { nodes = j.nodes; turns = j.turns; next = 3 })))
        → MakesNow tells world counts making most 0 old new
        (Ok (Some (record { nodes = j.nodes; turns = j.turns; next = 3 })))
    joined_now j new enough some few made paid short content faults =
        made_now (16 * both + 21) (record { nodes = j.nodes; turns = j.turns; next = 3 }) old new some
        (omega (arith, few, enough)) refl
        (λ told g given.
        let told_old = content.before told in
        let of = operands_are tells world counts op making pair old are told_old g given in
        let count = nodes_are tells world counts op making pair old are told_old g given in (
          subst (λ o. IsMade making.n (made_by o making.n g) (node_file making.number) j.nodes (world new))
              (sym are.operation_is) (made told g.first g.second of.0 of.1),
          omega (arith, few, count),
          omega (arith, count),
        ))
        paid short content faults

    pub unjoined_now : (new : S) → both ≤ most.looks
        → (IsTrue (tells new) → (world new).clock ≤ (world old).clock + (2 ^ 18 + 6))
        → Told tells old new (Looked both (world old) (world new))
        → OnlyFolder {T = Option MadeDiagram} (counts old) (counts new) (Ok None)
        → MakesNow tells world counts making most 0 old new (Ok None)
    unjoined_now new within short look faults =
        nothing_made 0 both old new (omega (arith, within))
        (λ told g given.
        let few = (look.did told).few in
        let count = nodes_are tells world counts op making pair old are (look.before told) g given in
        omega (arith, few, count))
        (λ told. let few = short told in omega (arith, few)) look faults

    pub failed_joining : (f : Failed) (new : S)
        → (IsTrue (tells new) → (world new).clock ≤ (world old).clock + (2 ^ 18 + 6))
        → Told tells old new (Changed (16 * both + 21) (node_file making.number) (world old) (world new))
        → OnlyFolder {T = Option MadeDiagram} (counts old) (counts new) (Err f)
        → MakesNow tells world counts making most 0 old new (Err f)
    failed_joining f new short content faults =
        nothing_left 0 f old new
        (λ told g given.
        let few = (content.did told).few in
        let count = nodes_are tells world counts op making pair old are (content.before told) g given in
        omega (arith, few, count))
        (λ told. let few = short told in omega (arith, few))
        (changed_run tells world making.number (16 * both + 21) old new content) faults

  -- nothing was called
  pub nothing_called : (trailers : ℕ) (s : S) → MakesNow tells world counts making most trailers s s (Ok None)
  nothing_called trailers s = nothing_made trailers 0 s s (omega arith) (λ told g given. omega arith) (λ told. omega arith)
      (told_here tells s _ (λ _. record { run = ran_stands (world s) (Stays (now (world s))) refl; few = omega arith }))
      (record { later = omega arith; cause = tt; say_is = refl; text_is = λ path. refl })

  -- what is made behind the look at the trailers
  pub behind_trailers : (old mid new : S) (r : Result (Option MadeDiagram) Failed)
      → Told tells old mid (Looked 4 (world old) (world mid))
      → OnlyFolder {T = Unit} (counts old) (counts mid) (Ok tt)
      → MakesNow tells world counts making most 0 mid new r
      → MakesNow tells world counts making most 4 old new r
  behind_trailers old mid new r look calm makes = record {
    made = ok_some r _ _ (λ m is. record {
      made = λ told g given. is.made told g (given_then making 4 (world old) (world mid) g (looked_at told) given);
      some = is.some;
      few = is.few;
      next_is = is.next_is;
      calls = λ told. let first = (looked_at told).few in let then = is.calls told in omega (arith, first, then);
    }) makes.made;
    not_made = ok_none r _ _ (λ none. told_then tells old mid new _ _ _ look none (λ _ first second. record {
      run = ran_joins (world old) (world mid) (world new) (Stays (now (world old))) first.run
          (ran_weakens (world mid) (world new) (Stays (now (world mid))) (Stays (now (world old)))
          (λ m stays. stays ∙ ran_end (world old) (world mid) (Stays (now (world old))) first.run) second.run);
      few = let one = first.few in let two = second.few in omega (arith, one, two);
    })) makes.not_made;
    few_calls = λ told g given.
        let first = (looked_at told).few in
        let then = makes.few_calls told g (given_then making 4 (world old) (world mid) g (looked_at told) given) in
        omega (arith, first, then);
    short = λ told. let first = (looked_at told).few in let then = makes.short told in omega (arith, first, then);
    content = told_changed_then tells world _ _ old mid new (λ f is. is)
        (looked_only tells world making.number 4 old mid look) makes.content;
    faults = only_folder_then (counts old) (counts mid) (counts new) r calm makes.faults;
  }
    where
      looked_at : IsTrue (tells new) → Looked 4 (world old) (world mid)
      looked_at told_new = look.did (makes.content.before told_new)

      ok_some : {A E : Type 0} (q : Result (Option A) E) (P Q : A → Type 0) → ((x : A) → P x → Q x)
          → IfOk q (λ found. IfSome found P) → IfOk q (λ found. IfSome found Q)
      ok_some (Ok (Some x)) P Q more is = more x is
      ok_some (Ok None) P Q more is = tt
      ok_some (Err e) P Q more is = tt

      ok_none : {A E : Type 0} (q : Result (Option A) E) (P Q : Type 0) → (P → Q)
          → IfOk q (λ found. IfNone found P) → IfOk q (λ found. IfNone found Q)
      ok_none (Ok (Some x)) P Q more is = tt
      ok_none (Ok None) P Q more is = more is
      ok_none (Err e) P Q more is = tt
