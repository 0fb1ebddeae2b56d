use Rattle.std.proofs.Common.{◌≡◌, ◌+◌, ◌-◌, List, ℕ, [], drop, get_or, sym, subst, arith}
use Rattle.std.specs.List.{position_from}
use Rattle.std.specs.Str.{bytes_eq}
use Rattle.blif_reader.specs.Index.{Puts, found_in}
use Rattle.blif_reader.specs.Views.{names_in}
use Rattle.blif_reader.proofs.Indexing.{places_before}
use Rattle.blif_reader.proofs.index.index_of.Goals as goal
use Rattle.std.proofs.lemmas.Grind.{common_steps}

pub names-preserved : goal.names-preserved
names-preserved c =
    let names = names_in c.args.names.now in
    let place : ℕ = c.names.place - 1 in
    let next : place + 1 ≡ c.names.place = omega (arith, c.names-test.true) in
    let puts : Puts c.names.index c.put.new.index (get_or names place []) place = subst (λ w. Puts c.names.index c.put.new.index w place) c.at.ensures c.in_ok-put.ensures.puts in
    let so_far = subst (λ n. (q : List ℕ) → found_in c.names.index q ≡ position_from (bytes_eq q) n (drop n names)) (sym next) c.names.invariant.has in
    record {
      has = places_before c.names.index c.put.new.index names place (omega (arith, next, c.names.invariant.within)) puts so_far;
      within = omega (arith, c.names.invariant.within);
    }

pub names-init : goal.names-init
names-init c = grind (arith, common_steps)
