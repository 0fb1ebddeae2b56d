-- The nodes that wait are put into their file, and made sure.
use Rattle.std.proofs.Common.{◌≡◌, ℕ, ◌∙◌, Bool, IsTrue, refl, sym, ap, subst, inl}
use Rattle.shelf_model.specs.declared.file_no.FileNo.{FileNo}
use Rattle.shelf_model.specs.Calls.{Told}
use Rattle.shelf_model.specs.File.{IsKept, firm_file}
use Rattle.shelf_model.specs.Folder.{file_in}
use Rattle.shelf_model.specs.Moments.{Ran}
use Rattle.shelf_model.specs.World.{World, now, file}
use Rattle.shelf_model.proofs.Runs.{told, ran_weakens}
use Rattle.block_stream.specs.Writes.{Wrote, DuringWrite, SameFile, count_of}
use Rattle.node_file.specs.declared.writer.NodeWriter.{NodeWriter}
use Rattle.node_file.specs.Writers as writers
use Rattle.sweep_core.specs.Carries.{OnlySaved}
use Rattle.reduce_lists.proofs.Holding.{with_nodes}
use Rattle.reduce_lists.proofs.Joining.{served_put, work_put, listed_put}
use Rattle.reduce_sweep.specs.declared.reduce.ReduceSweep.{ReduceSweep}
use Rattle.reduce_sweep.specs.Sweeps.{IsPhaseAt}
use Rattle.reduce_sweep.specs.Calls.{IsFit}
use Rattle.reduce_sweep.specs.Settling.{KeepsAll, HasNodes}

-- a write to the file that is made
pub wrote_saved : {S : Type 0} (tells : S → Bool) (world : S → World) (out : FileNo) (step next n : ℕ) (s t : S)
    → Told tells s t (Wrote n out (world s) (world t))
    → Told tells s t (Ran (OnlySaved (λ f. f ≡ out) step next (now (world s))) (world s) (world t))
wrote_saved tells world out step next n s t did = told tells s t _ _ did (λ _ wrote.
    ran_weakens (world s) (world t) (DuringWrite out (now (world s))) (OnlySaved (λ f. f ≡ out) step next (now (world s)))
    (λ m during. record {
      others = λ f other apart. inl (during.others f other);
      kept = λ f mine front kept. subst (λ g. IsKept front (file_in m.folder g)) (sym mine)
          (during.kept front (subst (λ g. IsKept front (file_in (now (world s)).folder g)) mine kept));
    }) wrote.run)

module _ {S : Type 0} (tells : S → Bool) (world : S → World) (old new : S) (s : ReduceSweep)
    (fit : IsFit tells world old s) (w : NodeWriter)
    (same : SameFile (writers.filling_of s.writer) (writers.filling_of w)) (variables : w.n ≡ s.writer.n)
    (count : count_of (writers.filling_of w) ≡ count_of (writers.filling_of s.writer))
    (content : Told tells old new (Wrote 2 (writers.filling_of s.writer).file (world old) (world new)))
    (written : IsTrue (tells new) → writers.Holds w (world new) (writers.written_of s.writer (world old))) where
  pub settled_keeps : KeepsAll tells world old new s (record s { writer = w })
  settled_keeps = record {
    fit = record {
      sound = record {
        served = served_put s.ahead s.lists s.writer w s.parts same.file_is fit.sound.served;
        within = fit.sound.within;
        few = fit.sound.few;
        variables = variables ∙ fit.sound.variables;
        phase = subst (λ n. IsPhaseAt s.place.level n s.place.phase) (sym count) fit.sound.phase;
      };
      at_work = λ told. work_put s.ahead s.lists s.writer w s.parts 2 (world old) (world new) fit.sound.served
          (content.did told) (written told).in_step (fit.at_work (content.before told));
    };
    place_is = refl;
    reader_is = refl;
    inner_is = refl;
    end_is = refl;
    queue_held = refl;
    rows_held = refl;
    names_held = refl;
    nodes_many = count;
    listed = λ told. listed_put s.ahead s.lists s.writer s.parts 2 (world old) (world new) fit.sound.served
        (content.did told);
    holds = λ told k holds. with_nodes s.ahead s.lists s.writer w s.parts 2 (world old) (world new) k k.nodes
        fit.sound.served (content.did told)
        (subst (writers.Holds w (world new)) holds.nodes_is.bytes_are (written told)) (holds.nodes_many ∙ sym count)
        holds;
  }

  pub settled_nodes : (IsTrue (tells new) → file (world new) (writers.filling_of s.writer).file
      ≡ firm_file (writers.written_of s.writer (world old))) → HasNodes tells world old new s (record s { writer = w })
  settled_nodes firm = λ told k holds.
      ap (file (world new)) same.file_is ∙ firm told ∙ ap firm_file holds.nodes_is.bytes_are
