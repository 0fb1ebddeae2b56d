use Rattle.std.proofs.Common.{◌≡◌, ◌∙◌, ap, inl, inr, refl, sym, subst, arith}
use Rattle.std.specs.Prelude.{[], Some, Err}
use Rattle.std.proofs.lemmas.Result.{err_from_is_err_and}
use Rattle.rec_words.specs.Words.{IsTerminal}
use Rattle.arc_file.specs.declared.kind.Kind.TheVariants.{End}
use Rattle.arc_file.specs.declared.unreduced.Unreduced.{Unreduced}
use Rattle.arc_file.specs.Streams.{file_of, left_of, given_of}
use Rattle.arc_file.specs.Readers.{inner_of, ends_of, left_over_of}
use Rattle.arc_diagrams.specs.Laws.{IsDiagramOf}
use Rattle.arc_diagrams.specs.Reducing.{Remains}
use Rattle.sweep_core.specs.Accounts.{CanBeTaken}
use Rattle.reduce_lists.specs.declared.held.Ahead.{Ahead}
use Rattle.reduce_lists.specs.Held.{AreWithin}
use Rattle.reduce_lists.proofs.Beginning.{at_first, held_at_first, work_begins, as_before, emptied, ReadsNothing, inner_damaged, ends_damaged, was_cut, then_looked}
use Rattle.reduce_lists.proofs.Undamaged.{begins_undamaged}
use Rattle.reduce_lists.proofs.Within.{within_read_inner, within_read_end, within_at_first}
use Rattle.reduce_sweep.specs.Sweeps.{AreFew}
use Rattle.reduce_sweep.proofs.Counting.{few_at_first, few_read_inner, few_read_end}
use Rattle.reduce_sweep.proofs.StartKeeps.{begins, few_at_start}
use Rattle.reduce_sweep.proofs.reduce.ReduceSweep.start.Goals as goal

pub returns-in_err-inner-clause-content : goal.returns-in_err-inner-clause-content
returns-in_err-inner-clause-content g c = then_looked g.S.Shelf.tells g.S.Shelf.world c.args.out 0 _ _ _
    (was_cut g.S.Shelf.tells g.S.Shelf.world c.args.out 0 1 _ _ c.start.ensures.content) c.next_inner.ensures.content

pub returns-in_err-end-clause-content : goal.returns-in_err-end-clause-content
returns-in_err-end-clause-content g c = then_looked g.S.Shelf.tells g.S.Shelf.world c.args.out 0 _ _ _
    (then_looked g.S.Shelf.tells g.S.Shelf.world c.args.out 0 _ _ _
    (was_cut g.S.Shelf.tells g.S.Shelf.world c.args.out 0 1 _ _ c.start.ensures.content) c.next_inner.ensures.content)
    c.next_end.ensures.content

pub returns-clause-content : goal.returns-clause-content
returns-clause-content g c = then_looked g.S.Shelf.tells g.S.Shelf.world c.args.out 0 _ _ _
    (then_looked g.S.Shelf.tells g.S.Shelf.world c.args.out 0 _ _ _
    (was_cut g.S.Shelf.tells g.S.Shelf.world c.args.out 0 1 _ _ c.start.ensures.content) c.next_inner.ensures.content)
    c.next_end.ensures.content

-- the files differ, and the lists are empty
pub returns-clause-ready : goal.returns-clause-ready
returns-clause-ready g c =
    let left : left_over_of c.start-reader.result ≡ c.args.made = c.start-reader.ensures.left_over in
    let out = c.in_ok-writer.ensures.file in
    let inner = ap file_of c.in_ok-end.ensures.inner ∙ c.in_ok-inner.ensures.file
    ∙ ap (λ (u : Unreduced). u.inner) left in
    let ends = c.in_ok-end.ensures.file ∙ ap file_of c.in_ok-inner.ensures.ends ∙ ap (λ (u : Unreduced). u.ends) left in
    record {
      served = record {
        queue_values = c.start-2.ensures.values;
        row_values = c.start-3.ensures.values;
        name_values = c.start-4.ensures.values;
        queue_served = c.start-2.ensures.serves c.args.parts c.requires.past_made;
        rows_served = c.start-3.ensures.serves c.args.parts c.requires.past_made;
        names_served = c.start-4.ensures.serves c.args.parts c.requires.past_made;
        out_made = subst (λ f. ¬ CanBeTaken c.args.parts.step c.args.parts.next f) (sym out) c.requires.out_made;
        inner_made = subst (λ f. ¬ CanBeTaken c.args.parts.step c.args.parts.next f) (sym inner) c.requires.inner_made;
        ends_made = subst (λ f. ¬ CanBeTaken c.args.parts.step c.args.parts.next f) (sym ends) c.requires.ends_made;
        out_inner = λ e. c.requires.apart_inner (sym (sym inner ∙ e ∙ out));
        out_ends = λ e. c.requires.apart_ends (sym (sym ends ∙ e ∙ out));
        no_run = λ run. elim run [
          | inl q ↦ c.start-2.ensures.runs _ q
          | inr other ↦ elim other [ inl q ↦ c.start-3.ensures.runs _ q | inr q ↦ c.start-4.ensures.runs _ q ]
        ];
      };
      within = subst (λ arcs. AreWithin arcs c.next_end.new.self) (sym (c.left_over-arcs.ensures ∙ left))
          (within_read_end c.args.made c.next_inner.new.self c.next_end.new.self _ c.in_ok-end.ensures.inner
          c.in_ok-end.ensures.file c.in_ok-end.ensures.place
          (within_read_inner c.args.made c.start-reader.result c.next_inner.new.self _ c.in_ok-inner.ensures.ends
          c.in_ok-inner.ensures.file c.in_ok-inner.ensures.place
          (within_at_first c.args.made c.start-reader.result left c.start-reader.ensures.given.0
          c.start-reader.ensures.given.1)));
      few = subst (λ arcs. AreFew arcs c.next_end.new.self c.in_ok-inner.inner c.in_ok-end.end)
          (sym (c.left_over-arcs.ensures ∙ left))
          (few_read_end c.args.made c.next_inner.new.self c.next_end.new.self _ _ _ c.in_ok-end.ensures.inner
          c.in_ok-end.ensures.place
          (few_read_inner c.args.made c.start-reader.result c.next_inner.new.self _ _ _ c.in_ok-inner.ensures.ends
          c.in_ok-inner.ensures.place
          (few_at_first c.args.made c.start-reader.result left c.requires.inner_few c.requires.ends_few)));
      variables = c.in_ok-writer.ensures.variables;
      phase = tt;
    }

-- it holds nothing yet, and its lists are empty
pub returns-clause-in_step : goal.returns-clause-in_step
returns-clause-in_step g c = λ told.
    let left : left_over_of c.start-reader.result ≡ c.args.made = c.start-reader.ensures.left_over in
    let read_told = c.next_end.ensures.content.before told in
    let cut_told = c.next_inner.ensures.content.before read_told in
    let a : Ahead = record {
      reader = c.next_end.new.self;
      inner = c.in_ok-inner.inner;
      end = c.in_ok-end.end;
      queue =
          c.start-2.result;
    } in
    work_begins a c.in_ok-writer.writer c.args.made c.args.out 0 [] c.start-reader.result c.next_inner.new.self
    (g.S.Shelf.world c.args.shelf.now) (g.S.Shelf.world c.start.new.shelf)
    (g.S.Shelf.world c.next_inner.new.shelf) (g.S.Shelf.world c.next_end.new.shelf) (record {
      apart_inner = c.requires.apart_inner;
      apart_ends = c.requires.apart_ends;
      cut = (c.start.ensures.content.did cut_told).run;
      looked = c.next_inner.ensures.content.did read_told;
      again = c.next_end.ensures.content.did told;
      no_inner = record {
        place = ap (λ (u : Unreduced). u.inner) left;
        reads = c.start-reader.ensures.reads_inner;
        arcs = c.start-reader.ensures.inner_arcs;
      };
      no_end = record {
        place = ap (λ (u : Unreduced). u.ends) left;
        reads = c.start-reader.ensures.reads_ends;
        arcs =
            c.start-reader.ensures.end_arcs;
      };
      ends_kept = c.in_ok-inner.ensures.ends;
      inner_kept = c.in_ok-end.ensures.inner;
      one_inner = record {
        place = c.in_ok-inner.ensures.file;
        up = c.in_ok-inner.ensures.place;
        reads =
            c.in_ok-inner.ensures.reads read_told;
        arcs = c.in_ok-inner.ensures.arcs read_told;
      };
      one_end = record {
        place = c.in_ok-end.ensures.file;
        up = c.in_ok-end.ensures.place;
        reads =
            c.in_ok-end.ensures.reads told;
        arcs = c.in_ok-end.ensures.arcs told;
      };
      written = c.in_ok-writer.ensures.holds cut_told;
    })
    _ (record {
      queue_in_step = c.start-2.ensures.in_step _;
      rows_in_step = c.start-3.ensures.in_step _;
      names_in_step = c.start-4.ensures.in_step _;
    })

-- so these exist
pub returns-clause-trusts : goal.returns-clause-trusts
returns-clause-trusts g c = λ told. record {
  queue_listed = ([], c.start-2.ensures.list _);
  rows_listed = ([], c.start-3.ensures.list _);
  names_listed = ([], c.start-4.ensures.list _);
}

-- what remains at first is the whole diagram
pub returns-clause-remains : goal.returns-clause-remains
returns-clause-remains g c = λ told d inner ends has_inner has_ends arcs diagram.
    let left : left_over_of c.start-reader.result ≡ c.args.made = c.start-reader.ensures.left_over in
    let root : c.left_over-arcs.result.root ≡ c.args.made.root = ap (λ (u : Unreduced). u.root)
    (c.left_over-arcs.ensures ∙ left) in
    let read_told = c.next_end.ensures.content.before told in
    let cut_told = c.next_inner.ensures.content.before read_told in
    let a : Ahead = record {
      reader = c.next_end.new.self;
      inner = c.in_ok-inner.inner;
      end = c.in_ok-end.end;
      queue =
          c.start-2.result;
    } in
    record {
      contents = at_first inner ends;
      holds = held_at_first a c.in_ok-writer.writer c.args.made c.args.out 0 [] c.start-reader.result c.next_inner.new.self
          (g.S.Shelf.world c.args.shelf.now) (g.S.Shelf.world c.start.new.shelf)
          (g.S.Shelf.world c.next_inner.new.shelf) (g.S.Shelf.world c.next_end.new.shelf) (record {
            apart_inner = c.requires.apart_inner;
            apart_ends = c.requires.apart_ends;
            cut = (c.start.ensures.content.did cut_told).run;
            looked = c.next_inner.ensures.content.did read_told;
            again = c.next_end.ensures.content.did told;
            no_inner = record {
              place = ap (λ (u : Unreduced). u.inner) left;
              reads =
                  c.start-reader.ensures.reads_inner;
              arcs = c.start-reader.ensures.inner_arcs;
            };
            no_end = record {
              place = ap (λ (u : Unreduced). u.ends) left;
              reads = c.start-reader.ensures.reads_ends;
              arcs = c.start-reader.ensures.end_arcs;
            };
            ends_kept = c.in_ok-inner.ensures.ends;
            inner_kept = c.in_ok-end.ensures.inner;
            one_inner = record {
              place = c.in_ok-inner.ensures.file;
              up = c.in_ok-inner.ensures.place;
              reads =
                  c.in_ok-inner.ensures.reads read_told;
              arcs = c.in_ok-inner.ensures.arcs read_told;
            };
            one_end = record {
              place = c.in_ok-end.ensures.file;
              up = c.in_ok-end.ensures.place;
              reads =
                  c.in_ok-end.ensures.reads told;
              arcs = c.in_ok-end.ensures.arcs told;
            };
            written = c.in_ok-writer.ensures.holds cut_told;
          })
          _ (at_first inner ends)
          (record {
            queue_is = c.start-2.ensures.list _;
            last_is = c.start-2.ensures.last;
            rows_is = c.start-3.ensures.list _;
            names_is = c.start-4.ensures.list _;
          })
          refl (sym c.in_ok-writer.ensures.count) has_inner has_ends;
      left = record {
        is_of = record {
          few = c.requires.variables;
          few_arcs = few_at_start d.arcs inner ends c.args.made.inner_count c.args.made.ends_count _ _ has_inner
              has_ends arcs c.requires.inner_few c.requires.ends_few;
          diagram = subst (λ r. IsDiagramOf c.args.n r d.arcs d.table) (sym root) diagram;
        };
        taken = tt;
        remains = record {
          within = omega arith;
          remains = subst (λ r. Remains c.args.n r c.args.n d.arcs ends inner [] (Some c.final_from_start-known.result))
              (sym root)
              (begins c.args.n c.args.made.root d.arcs inner ends _ _ _ _ (Some c.final_from_start-known.result)
              c.requires.variables has_inner has_ends arcs diagram.complete
              (λ t. ap Some (subst (λ w. IsTerminal w → c.final_from_start-known.result ≡ w) root
              c.final_from_start-known.ensures t)));
          no_rows = refl;
          no_names = refl;
        };
      };
    }

-- what is damaged is the last arc of a file
pub returns-in_err-inner-clause-damage : goal.returns-in_err-inner-clause-damage
returns-in_err-inner-clause-damage g c =
    let out = err_from_is_err_and c.from_residual-in_err-inner.result c.from_residual-in_err-inner.ensures.1 in
    let left : left_over_of c.start-reader.result ≡ c.args.made = c.start-reader.ensures.left_over in
    inner_damaged _ c.args.made (g.S.Shelf.world c.args.shelf.now) (g.S.Shelf.world c.start.new.shelf)
    (inner_of c.start-reader.result) (inner_of c.next_inner.new.self)
    c.from_residual-in_err-inner.result c.in_err-inner.field-0.0 (out.1 ∙ ap Err out.2)
    (record {
      place = ap (λ (u : Unreduced). u.inner) left;
      reads = c.start-reader.ensures.reads_inner;
      arcs =
          c.start-reader.ensures.inner_arcs;
    })
    (ap (λ (u : Unreduced). u.inner_count) left) c.start-reader.ensures.given.0
    (λ told. emptied c.args.out c.args.made.inner 0 _ _ (λ e. c.requires.apart_inner (sym e))
    (c.start.ensures.content.did (c.next_inner.ensures.content.before told)).run)
    c.in_err-inner.ensures.place (λ told. c.in_err-inner.ensures.value told (c.start-reader.ensures.reads_inner _))

pub returns-in_err-end-clause-damage : goal.returns-in_err-end-clause-damage
returns-in_err-end-clause-damage g c =
    let out = err_from_is_err_and c.from_residual-in_err-end.result c.from_residual-in_err-end.ensures.1 in
    let left : left_over_of c.start-reader.result ≡ c.args.made = c.start-reader.ensures.left_over in
    let kept : ends_of c.next_inner.new.self ≡ ends_of c.start-reader.result = c.in_ok-inner.ensures.ends in
    let nothing : ReadsNothing End (ends_of c.start-reader.result) c.args.made.ends c.args.made.ends_count =
    record {
      place = ap (λ (u : Unreduced). u.ends) left;
      reads = c.start-reader.ensures.reads_ends;
      arcs =
          c.start-reader.ensures.end_arcs;
    } in
    let reads = subst (λ r. ReadsNothing End r c.args.made.ends c.args.made.ends_count) (sym kept) nothing in
    ends_damaged _ c.args.made (g.S.Shelf.world c.args.shelf.now) (g.S.Shelf.world c.next_inner.new.shelf)
    (ends_of c.next_inner.new.self) (ends_of c.next_end.new.self)
    c.from_residual-in_err-end.result c.in_err-end.field-0.0 (out.1 ∙ ap Err out.2)
    reads
    (ap left_of kept ∙ ap (λ (u : Unreduced). u.ends_count) left) (ap given_of kept ∙ c.start-reader.ensures.given.1)
    (λ told.
    let read_told = c.next_end.ensures.content.before told in
    let stays = as_before c.args.out c.args.made.ends 0 _ _ _ _ (λ e. c.requires.apart_ends (sym e))
    (c.start.ensures.content.did (c.next_inner.ensures.content.before read_told)).run
    (c.next_inner.ensures.content.did read_told) (c.next_end.ensures.content.did told) in
    stays.1.0 ∙ stays.0)
    c.in_err-end.ensures.place (λ told. c.in_err-end.ensures.value told (reads.reads _))

-- nothing is damaged where the files are whole
pub returns-in_err-inner-clause-undamaged : goal.returns-in_err-inner-clause-undamaged
returns-in_err-inner-clause-undamaged g c =
    begins_undamaged _ c.args.made (g.S.Shelf.world c.args.shelf.now) c.from_residual-in_err-inner.result
    (returns-in_err-inner-clause-damage g c)

pub returns-in_err-end-clause-undamaged : goal.returns-in_err-end-clause-undamaged
returns-in_err-end-clause-undamaged g c =
    begins_undamaged _ c.args.made (g.S.Shelf.world c.args.shelf.now) c.from_residual-in_err-end.result
    (returns-in_err-end-clause-damage g c)
