use Rattle.std.proofs.Common.{◌≡◌, ◌/◌, ◌*◌, ◌<◌, ◌≤◌, min, length, subst, arith}
use Rattle.shelf_model.specs.World.{file}
use Rattle.std.specs.Prelude.{Ok, ◌-◌}
use Rattle.shelf_model.specs.Calls.{Measured}
use Rattle.shelf_model.specs.File.{File}
use Rattle.shelf_model.proofs.Files.{same_files}
use Rattle.block_stream.specs.Reads.{DidLoad}
use Rattle.node_file.proofs.TrailerLaws.{measured_then, trailer_read, no_trailer}
use Rattle.node_file.proofs.trailer.read_trailer.Goals as goal

pub returns-in-Some-clause-content : goal.returns-in-Some-clause-content
returns-in-Some-clause-content g c =
    measured_then g.S.Shelf.tells g.S.Shelf.world _ _ _ _ _ c.in_ok-len.ensures.content c.in_ok-loaded.ensures.content

pub returns-in-Some-clause-trailer : goal.returns-in-Some-clause-trailer
returns-in-Some-clause-trailer g c t =
    let measured : Measured c.args.f (Ok c.in_ok-len.len) (g.S.Shelf.world c.args.shelf.now) (g.S.Shelf.world c.len.new.self) = c.in_ok-len.ensures.content.did (c.in_ok-loaded.ensures.content.before t) in
    let some : 0 < c.in_ok-len.len / 24 = omega arith in
    let whole : c.in_ok-len.len / 24 * 24 ≡ c.in_ok-len.len = omega arith in
    let wanted : c.min-wanted.result ≡ min (c.in_ok-len.len / 24) 2 = omega arith in
    let all : c.min-wanted.result ≤ c.in_ok-loaded.loaded = omega arith in
    let same = same_files c.args.f (g.S.Shelf.world c.args.shelf.now) (g.S.Shelf.world c.len.new.self) measured.same in
    trailer_read c.args.n c.in-Some.trailer.root c.in_ok-len.len c.min-wanted.result c.in_ok-loaded.loaded c.load.new.window _ _ _ measured.ok some whole wanted all
    (subst (λ (x : File). DidLoad 3 (c.in_ok-len.len / 24 - c.min-wanted.result) c.min-wanted.result c.in_ok-loaded.loaded c.load.new.window x.bytes) same (c.in_ok-loaded.ensures.loaded t)) c.in-Some.ensures.found

pub returns-in-None-clause-damaged : goal.returns-in-None-clause-damaged
returns-in-None-clause-damaged g c t =
    let measured : Measured c.args.f (Ok c.in_ok-len.len) (g.S.Shelf.world c.args.shelf.now) (g.S.Shelf.world c.len.new.self) = c.in_ok-len.ensures.content.did (c.in_ok-loaded.ensures.content.before t) in
    let some : 0 < c.in_ok-len.len / 24 = omega arith in
    let wanted : c.min-wanted.result ≡ min (c.in_ok-len.len / 24) 2 = omega arith in
    let all : c.min-wanted.result ≤ c.in_ok-loaded.loaded = omega arith in
    let same = same_files c.args.f (g.S.Shelf.world c.args.shelf.now) (g.S.Shelf.world c.len.new.self) measured.same in
    let len_is : c.in_ok-len.len ≡ length (file (g.S.Shelf.world c.args.shelf.now) c.args.f).bytes = measured.ok in (
      omega (arith, len_is),
      no_trailer c.args.n c.in_ok-len.len c.min-wanted.result c.in_ok-loaded.loaded c.load.new.window _ _ _ measured.ok some wanted all
          (subst (λ (x : File). DidLoad 3 (c.in_ok-len.len / 24 - c.min-wanted.result) c.min-wanted.result c.in_ok-loaded.loaded c.load.new.window x.bytes) same (c.in_ok-loaded.ensures.loaded t)) c.in-None.ensures.none,
    )
