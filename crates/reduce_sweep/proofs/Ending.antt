-- The checkpoint of a reduction that has ended.
use Rattle.std.proofs.Common.{◌≡◌, ◌≢◌, ℕ, ◌+◌, ◌*◌, ◌≤◌, ◌∙◌, List, length, take, refl, sym, ap, subst, arith, inl, inr}
use Rattle.rec_words.specs.Words.{node_size}
use Rattle.shelf_model.specs.declared.file_no.FileNo.{FileNo}
use Rattle.file_numbers.specs.Files.{checkpoint_file}
use Rattle.canon_file.specs.Canon.{canon_nodes, canon_bytes}
use Rattle.saved_words.specs.Fronts.{IsFront}
use Rattle.sweep_core.specs.declared.checkpoint.Checkpoint.{Checkpoint}
use Rattle.sweep_core.specs.Saving.{IsMadePart}
use Rattle.reduce_sweep.specs.declared.phase.Phase.TheVariants.{Ended}
use Rattle.reduce_sweep.specs.declared.saved.Saved.{Saved}
use Rattle.reduce_sweep.specs.Ended.{NamesEnded}
use Rattle.reduce_sweep.specs.Remaining.{Diagram}
use Rattle.reduce_sweep.specs.SavedPhase.{phase_of, saved_phase}
use Rattle.reduce_sweep.specs.SavedReduction.{saved_count, saved_words, IsSaved}
use Rattle.reduce_sweep.specs.Resumes.{HasWords, IsArcFile, Fits, StandsFor}

-- a file that holds checkpoints is none that a step makes
apart_of_points : (step next : ℕ) (f out : FileNo) → f ≡ checkpoint_file step → IsMadePart step next out → f ≢ out
apart_of_points step next f out is made same =
    let here : out.part ≡ 1 = ap (λ (g : FileNo). g.part) (sym same ∙ is) in
    elim made.part [
      | inl nodes ↦ absurd (omega (arith, here, nodes))
      | inr arcs ↦ absurd (let from = arcs.0 in omega (arith, here, from))
    ]

-- it may stand for a file of no arcs
no_arcs_there : (c : Checkpoint) (f : FileNo) (count : ℕ) → 3 ≤ c.next_part → f ≡ checkpoint_file c.step → count ≡ 0
    → IsArcFile c f count
no_arcs_there c f count past is none = record {
  made = λ can.
      let from = can.from in
      let here : f.part ≡ 1 = ap (λ (g : FileNo). g.part) is in
      absurd (omega (arith, from, here, past));
  read = λ some. absurd (omega (arith, some, none));
  few = omega (arith, none);
}

-- the words of a reduction that has ended were put there
pub record IsEnd (c : Checkpoint) (x : Saved) (count : ℕ) (carry : List ℕ) : Type 0 where
  pub carry_is : c.carry ≡ carry
  pub phase_is : x.phase ≡ saved_phase (Ended count)
  pub kept_is : x.kept ≡ count + 1
  pub inner_is : x.arcs.inner ≡ checkpoint_file c.step
  pub ends_is : x.arcs.ends ≡ checkpoint_file c.step
  pub no_inner : x.arcs.inner_count ≡ 0
  pub no_ends : x.arcs.ends_count ≡ 0
  pub no_tables : c.tables ≡ 0

module _ (c : Checkpoint) (x : Saved) (count : ℕ) (carry : List ℕ)
    (front : IsFront saved_count saved_words IsSaved x carry) (end : IsEnd c x count carry) where
  holds : HasWords c x
  holds = subst (IsFront saved_count saved_words IsSaved x) (sym end.carry_is) front

  pub ended_fits : 3 ≤ c.next_part → IsMadePart c.step c.next_part x.out → Fits c
  ended_fits past made = record {
    saved = x;
    holds = holds;
    phase = Ended count;
    phase_is = ap phase_of end.phase_is;
    rules = record {
      parts = past;
      made = made;
      inner_apart = apart_of_points c.step c.next_part x.arcs.inner x.out end.inner_is made;
      ends_apart = apart_of_points c.step c.next_part x.arcs.ends x.out end.ends_is made;
      inner = no_arcs_there c x.arcs.inner x.arcs.inner_count past end.inner_is end.no_inner;
      ends = no_arcs_there c x.arcs.ends x.arcs.ends_count past end.ends_is end.no_ends;
      phase_at = tt;
      kept_at = record {
        kept_is = end.kept_is;
        no_inner = end.no_inner;
        no_ends = end.no_ends;
        no_tables = end.no_tables;
      };
    };
  }

  pub ended_stands : (r : FileNo → List ℕ) (d : Diagram) (turns : ℕ)
      → take (node_size * (count + 1)) (r x.out) ≡ canon_bytes x.variables d.table
      → count ≡ length (canon_nodes x.variables d.table) → StandsFor c r d turns
  ended_stands r d turns bytes many = record {
    saved = x;
    holds = holds;
    phase = Ended count;
    phase_is = ap phase_of end.phase_is;
    stands = record { bytes_are = bytes; count_is = many };
  }

  pub ended_names : NamesEnded c x.out x.variables
  ended_names = record {
    task = record {
      out = x.out;
      inner = x.arcs.inner;
      ends = x.arcs.ends;
      arcs = x.arcs;
      variables = x.variables;
    };
    names = record {
      saved = x;
      holds = holds;
      out_is = refl;
      inner_is = refl;
      ends_are = refl;
      root_is = refl;
      variables_are = refl;
    };
    out_is = refl;
    variables_are = refl;
    inner_own = ap (λ (f : FileNo). f.step) end.inner_is;
    ends_own = ap (λ (f : FileNo). f.step) end.ends_is;
  }
