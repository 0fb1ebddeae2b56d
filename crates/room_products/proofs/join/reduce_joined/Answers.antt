use Rattle.std.proofs.Common.{◌≡◌, ◌+◌, ◌/◌, ◌≤◌, ◌^◌, length, subst, arith}
use Rattle.std.specs.Prelude.{Ok, IfSome}
use Rattle.room_reduction.specs.Sources.{sources_in}
use Rattle.room_reduction.proofs.PackedSources.{sources_many}
use Rattle.node_file.specs.Canonical.{IsMade}
use Rattle.room_products.specs.Joined.{AreOfTable}
use Rattle.room_products.proofs.FrontSources.{split_sources}
use Rattle.room_products.proofs.JoinedFile.{joined_of}
use Rattle.room_products.proofs.join.reduce_joined.Goals as goal

-- a diagram of so few sources has a canonical form
pub returns-clause-made : goal.returns-clause-made
returns-clause-made g c told t are =
    let count = c.args.tabled.now.count in
    let sources = c.split_at_mut-sources.result.0.now in
    let front_len = c.split_at_mut-sources.ensures.front_len in
    let long : length (sources_in count sources) ≡ count = sources_many count sources (omega (arith, front_len)) in
    let most : count ≤ 2 ^ 17 = c.requires.few in
    let few : length (sources_in count sources) ≤ 2 ^ 17 = omega (arith, long, most) in
    let same : sources_in count c.args.area.now ≡ sources_in count sources =
    split_sources count (count / 4 + 1) c.args.area.now sources c.split_at_mut-sources.ensures.front front_len
    (omega arith) in
    subst (λ o. IfSome o (λ nodes. IsMade c.args.n t c.args.out nodes (g.S.Shelf.world c.reduce_sources.new.shelf)))
    c.in-Some-made.is
    (joined_of c.args.n c.in-Some.root c.args.tabled.now.root c.args.out _ _ _ (Ok c.in_ok-made.made)
    c.requires.variables few c.in-Some.ensures.1 c.in_ok-made.ensures.made told t
    (subst (AreOfTable c.args.n c.args.tabled.now.root t) same are))
