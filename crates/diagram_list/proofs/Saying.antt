-- Saying lines one behind the other.
use Rattle.std.proofs.Common.{◌≡◌, ◌∙◌, ℕ, List, [], ◌++◌, refl, sym, ap, append_assoc}
use Rattle.std.specs.Prelude.{Result, Ok, Err}
use Rattle.std.specs.Result.{IsErrAnd}
use Rattle.std.proofs.lemmas.List.{append-nil}
use Rattle.shelf_model.specs.declared.fault.Failed.{Failed}
use Rattle.shelf_model.specs.World.{World, now, said}
use Rattle.shelf_model.specs.Calls.{Said}
use Rattle.shelf_model.specs.Moments.{Throughout, Quiet, Stays, Ran}
use Rattle.shelf_model.proofs.Runs.{stands, joins, goes_on, weakens, at_end, ran_end}
use Rattle.diagram_list.specs.declared.fault.ListFault.{ListFault}
use Rattle.diagram_list.specs.declared.fault.ListFault.TheVariants.{Say}
use Rattle.diagram_list.specs.Saying.{SaysFront, IsSaying, StaysThere}
use Rattle.diagram_list.specs.Lists.{SaysText, IsDamage}
use Rattle.diagram_list.proofs.SayingLaws.{says_nothing, longer_front, later_front, stays_here, stays_on_shelf, stays_then}

-- while a file is read nothing is said
reading : (text : List ℕ) (old new : World) → Ran (Stays (now old)) old new → Throughout old new (IsSaying text (now old))
reading text old new run =
    weakens old new (Quiet (now old).said (Stays (now old))) (IsSaying text (now old))
    (λ m quiet. record { says = says_nothing (now old).said text m.said quiet.said_is; folder_is = quiet.holds }) run.moments

-- an empty text
pub says_empty : (text : List ℕ) (old new : World) → Ran (Stays (now old)) old new → text ≡ [] → SaysText text (Ok tt) old new
says_empty text old new run none = record {
  moments = reading text old new run;
  place = stays_on_shelf old new run.station;
  ok = run.station.said_is ∙ sym (append-nil (said old)) ∙ ap (λ t. said old ++ t) (sym none);
  err = tt;
}

-- no line yet
pub says_first : (w : World) → SaysText [] (Ok tt) w w
says_first w = record {
  moments = stands w (IsSaying [] (now w)) (record { says = says_nothing (said w) [] (said w) refl; folder_is = refl });
  place = stays_here w;
  ok = sym (append-nil (said w));
  err = tt;
}

-- the entry couldn't be read
pub says_not : (text : List ℕ) (fault : ListFault) (old new : World) → Ran (Stays (now old)) old new → ¬ (IsDamage fault) → SaysText text (Err fault) old new
says_not text fault old new run other = record { moments = reading text old new run; place = stays_on_shelf old new run.station; ok = tt; err = other }

-- an entry was read, and a call of saying made
saying : (text : List ℕ) (result : Result Unit Failed) (old mid new : World) → Ran (Stays (now old)) old mid → Said text result mid new → SaysFront (said old) text (said new)
    → Throughout old new (IsSaying text (now old)) × StaysThere old new
saying text result old mid new run call front = (
  goes_on old mid new (IsSaying text (now old)) (reading text old mid run) call.elsewhere.ticks (record { says = front; folder_is = call.elsewhere.folder_is ∙ ran_end old mid (Stays (now old)) run }),
  stays_then old mid new (stays_on_shelf old mid run.station) (record {
    texts_are = call.elsewhere.texts_are;
    home_is = call.elsewhere.home_is;
    inside_is = call.elsewhere.inside_is;
    strays_are = λ inside. call.elsewhere.strays_are;
  }),
)

pub says_line : (text : List ℕ) (old mid new : World) → Ran (Stays (now old)) old mid → Said text (Ok tt) mid new → SaysText text (Ok tt) old new
says_line text old mid new run call =
    let whole : said new ≡ said old ++ text = call.ok ∙ ap (λ b. b ++ text) run.station.said_is in
    let both = saying text (Ok tt) old mid new run call (record { front = text; rest = []; text_is = sym (append-nil text); said_is = whole }) in
    record { moments = both.0; place = both.1; ok = whole; err = tt }

pub says_part : (text : List ℕ) (e : Failed) (old mid new : World) → Ran (Stays (now old)) old mid → Said text (Err e) mid new → SaysText text (Err Say) old new
says_part text e old mid new run call =
    let failed = call.failed in
    let both = saying text (Err e) old mid new run call (record { front = failed.0; rest = failed.1; text_is = failed.2; said_is = failed.3 ∙ ap (λ b. b ++ failed.0) run.station.said_is }) in
    record { moments = both.0; place = both.1; ok = tt; err = λ damage. absurd (let same = damage.2 in cc) }

-- while a front part of a text is said it is one of a longer text
longer_moments : (text more : List ℕ) (old new : World) → Throughout old new (IsSaying text (now old)) → Throughout old new (IsSaying (text ++ more) (now old))
longer_moments text more old new run =
    weakens old new (IsSaying text (now old)) (IsSaying (text ++ more) (now old))
    (λ m says. record { says = longer_front (said old) text more m.said says.says; folder_is = says.folder_is }) run

then_moments : (text more : List ℕ) (result : Result Unit ListFault) (old mid new : World) → SaysText text (Ok tt) old mid → SaysText more result mid new → Throughout old new (IsSaying (text ++ more) (now old))
then_moments text more result old mid new first second =
    joins old mid new (IsSaying (text ++ more) (now old)) (longer_moments text more old mid first.moments)
    (weakens mid new (IsSaying more (now mid)) (IsSaying (text ++ more) (now old))
    (λ m says. record {
      says = later_front (said old) text more (said mid) m.said first.ok says.says;
      folder_is = says.folder_is ∙ (at_end old mid (IsSaying text (now old)) first.moments).folder_is;
    }) second.moments)

-- a text and then another one
pub says_then : (text more : List ℕ) (result : Result Unit ListFault) (old mid new : World) → SaysText text (Ok tt) old mid → SaysText more result mid new → SaysText (text ++ more) result old new
says_then text more (Ok x) old mid new first second = record {
  moments = then_moments text more (Ok x) old mid new first second;
  place = stays_then old mid new first.place second.place;
  ok = second.ok ∙ ap (λ b. b ++ more) first.ok ∙ append_assoc (said old) text more;
  err = tt;
}
says_then text more (Err e) old mid new first second = record {
  moments = then_moments text more (Err e) old mid new first second;
  place = stays_then old mid new first.place second.place;
  ok = tt;
  err = second.err;
}

-- a part of a longer text
pub says_longer : (text more : List ℕ) (fault : ListFault) (old new : World) → SaysText text (Err fault) old new → SaysText (text ++ more) (Err fault) old new
says_longer text more fault old new says = record {
  moments = longer_moments text more old new says.moments;
  place = says.place;
  ok = tt;
  err = says.err;
}

-- the fault that is handed on
pub err_is : (result : Result Unit ListFault) (fault : ListFault) → IsErrAnd result (λ f. f ≡ fault) → result ≡ Err fault
err_is (Ok x) fault is = absurd is
err_is (Err f) fault is = ap Err is
