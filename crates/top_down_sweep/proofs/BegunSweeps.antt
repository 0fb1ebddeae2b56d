-- What a start leaves as that of the next two parts.
use Rattle.std.proofs.Common.{◌≡◌, ◌≢◌, ◌∙◌, Bool, ap, sym}
use Rattle.std.specs.Prelude.{None, Result, Ok, Err, IfOk, IsTrue}
use Rattle.shelf_model.specs.declared.sort_fault.SortFault.{SortFault}
use Rattle.shelf_model.specs.World.{World}
use Rattle.run_tiers.specs.declared.parts.Parts.{Parts}
use Rattle.run_tiers.specs.Parts.{Paid}
use Rattle.top_down.specs.declared.tuple.Tuple.{Tuple}
use Rattle.top_down.specs.Rules.{Rule}
use Rattle.tuple_asks.specs.declared.files.Files.{Files}
use Rattle.top_down_sweep.specs.declared.sweep.TopDownSweep.{TopDownSweep}
use Rattle.top_down_sweep.specs.Beginning.{Begun}
use Rattle.top_down_sweep.specs.Calls.{IsInStep, IsTrusted}
use Rattle.top_down_sweep.specs.Sweeps.{files_of, parts_of, made_in, credit_of, stock_of, IsSound}

module _ {S O : Type 0} (rule : O → Rule) (begins : O → Tuple → Tuple) (tells : S → Bool) (world : S → World)
    (before after : S) (files want : Files) (parts behind : Parts) where
  -- it has begun with these files and parts, which are the ones that are wanted
  pub begun_of : (result : Result (TopDownSweep O) SortFault) → files ≡ want → parts ≡ behind
      → want.inner ≢ want.ends → IfOk result IsSound
      → IfOk result (λ s. IsTrue (tells after) → IsInStep s (world after))
      → IfOk result (λ s. IsTrue (tells after) → IsTrusted rule begins s (world after))
      → IfOk result (λ s. files_of s ≡ files) → IfOk result (λ s. parts_of s ≡ parts)
      → IfOk result (λ s. made_in s ≡ None) → IfOk result (λ s. stock_of s ≡ 0)
      → IfOk result (λ s. IsTrue (tells after) → Paid 8 0 (credit_of s) (world before) (world after))
      → IfOk result (Begun rule begins tells world want behind before after)
  begun_of (Ok s) as_files as_parts two sound step trusts files_is parts_is made stock calls = record {
    ready = record {
      sound = sound;
      two_files = λ same. two (sym (ap (λ (f : Files). f.inner) (files_is ∙ as_files)) ∙ same
          ∙ ap (λ (f : Files). f.ends) (files_is ∙ as_files));
    };
    in_step = step;
    trusts = trusts;
    files_are = files_is ∙ as_files;
    parts_are = parts_is ∙ as_parts;
    none_made = made;
    stock_is = stock;
    calls = calls;
  }
  begun_of (Err e) as_files as_parts two sound step trusts files_is parts_is made stock calls = tt
