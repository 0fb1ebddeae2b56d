use Rattle.std.proofs.Common.{◌≡◌, ℕ, ◌+◌, ◌-◌, List, subst, arith}
use Rattle.std.specs.Prelude.{Ok, Some}
use Rattle.shelf_model.specs.World.{file}
use Rattle.block_stream.specs.Backwards.{reading_of, room_of}
use Rattle.block_stream.specs.Reads.{IsAnswer, IsRecordOf, GoesBack, TakesBehind, place_of}
use Rattle.block_stream.specs.Items.{AreBehind, GivesLast}
use Rattle.arc_file.specs.Arcs.{arc_words, IsArc}
use Rattle.arc_file.specs.Streams.{file_of}
use Rattle.arc_file.proofs.StreamLaws.{arc_at, arc_damaged, last_is_sound, front_lead, front_ordered}
use Rattle.arc_file.proofs.stream.ArcStream.next.Goals as goal

pub returns-then-not-may_stand-clause-value : goal.returns-then-not-may_stand-clause-value
returns-then-not-may_stand-clause-value g c t reads =
    let r = reading_of c.args.self.now.arcs in
    let bytes : List ℕ = (file (g.S.Shelf.world c.args.shelf.now) (file_of c.args.self.now)).bytes in
    let goes : GoesBack IsArc r (reading_of c.next.new.self) (Ok (Some c.in-Some.arc)) =
    subst (λ o. GoesBack IsArc r (reading_of c.next.new.self) (Ok o)) c.in-Some.is c.in_ok-arc.ensures.place in
    let is : IsRecordOf arc_words r.words (place_of r - 1) bytes c.in-Some.arc =
    subst (λ o. IsAnswer IsArc arc_words r.words (place_of r - 1) bytes (Ok o)) c.in-Some.is (c.in_ok-arc.ensures.value t reads.loaded) in
    let back : place_of r ≡ place_of (reading_of c.next.new.self) + 1 = goes.2 in
    arc_damaged c.args.kind r.words (place_of r) bytes c.in-Some.arc c.args.self.now.given c.args.self.now.width (omega (arith, back)) goes.0 is reads.last c.if-not-may_stand.ensures

pub returns-then-not-may_stand-clause-items : goal.returns-then-not-may_stand-clause-items
returns-then-not-may_stand-clause-items g c t reads xs left =
    let bytes : List ℕ = (file (g.S.Shelf.world c.args.shelf.now) (file_of c.args.self.now)).bytes in
    let gives : GivesLast (AreBehind IsArc arc_words (reading_of c.next.new.self) bytes) xs (Ok (Some c.in-Some.arc)) =
    subst (λ o. GivesLast (AreBehind IsArc arc_words (reading_of c.next.new.self) bytes) xs (Ok o)) c.in-Some.is (c.in_ok-arc.ensures.items t reads.loaded xs left.behind) in
    last_is_sound c.args.kind xs gives.0 c.in-Some.arc c.args.self.now.given gives.1 left.lead left.ordered c.if-not-may_stand.ensures

pub returns-clause-reads : goal.returns-clause-reads
returns-clause-reads g c t reads =
    let r = reading_of c.args.self.now.arcs in
    let bytes : List ℕ = (file (g.S.Shelf.world c.args.shelf.now) (file_of c.args.self.now)).bytes in
    let goes : GoesBack IsArc r (reading_of c.next.new.self) (Ok (Some c.in-Some.arc)) =
    subst (λ o. GoesBack IsArc r (reading_of c.next.new.self) (Ok o)) c.in-Some.is c.in_ok-arc.ensures.place in
    let is : IsRecordOf arc_words r.words (place_of r - 1) bytes c.in-Some.arc =
    subst (λ o. IsAnswer IsArc arc_words r.words (place_of r - 1) bytes (Ok o)) c.in-Some.is (c.in_ok-arc.ensures.value t reads.loaded) in
    let back : place_of r ≡ place_of (reading_of c.next.new.self) + 1 = goes.2 in
    let here : place_of r - 1 ≡ place_of (reading_of c.next.new.self) = omega (arith, back) in
    record {
      loaded = c.in_ok-arc.ensures.reads t reads.loaded;
      last = arc_at c.args.kind r.words (place_of (reading_of c.next.new.self)) bytes c.in-Some.arc c.args.self.now.width goes.0 c.if-not-may_stand.ensures.0
          (subst (λ p. IsRecordOf arc_words r.words p bytes c.in-Some.arc) here is);
    }

pub returns-clause-value : goal.returns-clause-value
returns-clause-value g c t reads =
    let r = reading_of c.args.self.now.arcs in
    let bytes : List ℕ = (file (g.S.Shelf.world c.args.shelf.now) (file_of c.args.self.now)).bytes in
    let goes : GoesBack IsArc r (reading_of c.next.new.self) (Ok (Some c.in-Some.arc)) =
    subst (λ o. GoesBack IsArc r (reading_of c.next.new.self) (Ok o)) c.in-Some.is c.in_ok-arc.ensures.place in
    let is : IsRecordOf arc_words r.words (place_of r - 1) bytes c.in-Some.arc =
    subst (λ o. IsAnswer IsArc arc_words r.words (place_of r - 1) bytes (Ok o)) c.in-Some.is (c.in_ok-arc.ensures.value t reads.loaded) in
    arc_at c.args.kind r.words (place_of r - 1) bytes c.in-Some.arc c.args.self.now.width goes.0 c.if-not-may_stand.ensures.0 is

pub returns-clause-items : goal.returns-clause-items
returns-clause-items g c t reads xs left =
    let bytes : List ℕ = (file (g.S.Shelf.world c.args.shelf.now) (file_of c.args.self.now)).bytes in
    let gives : GivesLast (AreBehind IsArc arc_words (reading_of c.next.new.self) bytes) xs (Ok (Some c.in-Some.arc)) =
    subst (λ o. GivesLast (AreBehind IsArc arc_words (reading_of c.next.new.self) bytes) xs (Ok o)) c.in-Some.is (c.in_ok-arc.ensures.items t reads.loaded xs left.behind) in (
      gives.0,
      gives.1,
      record {
        behind = gives.2;
        lead = front_lead c.args.kind xs gives.0 c.in-Some.arc gives.1 left.lead;
        ordered = front_ordered c.args.kind xs gives.0 c.in-Some.arc c.args.self.now.given gives.1 left.ordered;
      },
    )

pub returns-clause-waits : goal.returns-clause-waits
returns-clause-waits g c =
    let r = reading_of c.args.self.now.arcs in
    (c.in_ok-arc.ensures.room, subst (λ o. TakesBehind (room_of c.args.self.now.arcs) r (reading_of c.next.new.self) (Ok o)) c.in-Some.is c.in_ok-arc.ensures.waits)
