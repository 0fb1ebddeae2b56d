use Rattle.std.proofs.Common.{ap}
use Rattle.canon_file.specs.Canon.{canon_bytes}
use Rattle.canon_file.proofs.ByteLaws.{bytes_unique}
use Rattle.canon_file.proofs.laws.bytes_are_unique.Goals as goal

pub returns : goal.returns
returns c n t u a b = (bytes_unique n t u a.few a.whole b.whole a.fits b.fits, ap (canon_bytes n))
