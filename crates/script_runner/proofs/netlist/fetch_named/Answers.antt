use Rattle.std.proofs.Common.{◌≡◌, ◌∙◌, ◌⊎◌, ℕ, List, sym, ap, subst, inl, inr}
use Rattle.std.specs.Prelude.{◌≢◌, Some, Ok, Err}
use Rattle.blif_reader.specs.Answers.{net_of}
use Rattle.blif_reader.specs.Netlist.{IsReading}
use Rattle.blif_reader.specs.declared.fault.BlifFault.{BlifFault}
use Rattle.blif_reader.specs.declared.fault.BlifKind.TheVariants as kind
use Rattle.script_runner.proofs.Endings.{whole_text, accepted_is_short, faulty_whole}
use Rattle.script_runner.proofs.netlist.fetch_named.Goals as goal

not_memory : (text : List ℕ) (fault : BlifFault) → fault.kind ≢ kind.Memory
    → IsReading text (Err fault) ⊎ (fault ≡ record { line = 0; kind = kind.Memory }) → IsReading text (Err fault)
not_memory text fault other (inl refused) = refused
not_memory text fault other (inr memory) = absurd (other (ap (λ (f : BlifFault). f.kind) memory))

pub returns-in-Ok-clause-there : goal.returns-in-Ok-clause-there
returns-in-Ok-clause-there g c t =
    let read = c.in_ok-text.ensures.text t in
    let same : c.deref.result.now ≡ c.in_ok-text.text.items = c.deref.ensures.value in
    let whole : c.in_ok-text.text.items ≡ read.text =
    whole_text 4194304 read.text c.in_ok-text.text.items read.bytes_are
    (accepted_is_short c.in_ok-text.text.items (net_of c.in-Ok.net) (subst (λ b. IsReading b (Ok (net_of c.in-Ok.net))) same c.in-Ok.ensures.ok)) in
    read.there ∙ ap Some (sym whole)

pub returns : goal.returns
returns g c = record {
  content = c.in_ok-text.ensures.content;
  there = tt;
  spelled = tt;
  faulty = λ t.
      let read = c.in_ok-text.ensures.text t in (
        read.text,
        read.there,
        faulty_whole read.text c.in_ok-text.text.items c.in-Err.fault read.bytes_are
            (subst (λ b. IsReading b (Err c.in-Err.fault)) c.deref.ensures.value
            (not_memory c.deref.result.now c.in-Err.fault c.in_default.not-Memory c.in-Err.ensures.fault)),
      );
  cause = λ other. absurd cc;
  calls = c.in_ok-text.ensures.calls;
  faults = c.in_ok-text.ensures.faults;
}
