use Rattle.std.proofs.Common.{◌≡◌, ◌<◌, length, ap, subst, arith}
use Rattle.std.specs.Io.Take.{take_limit}
use Rattle.std.specs.Prelude.{IfSome}
use Rattle.tc_base.proofs.KnownBytes.{all-is_read}
use Rattle.tc_base.proofs.file_shelf.read_whole.Goals as goal

pub returns-clause-all : goal.returns-clause-all
returns-clause-all g c =
    let bytes = c.read_to_end.new.buf in
    let short : length bytes.items < take_limit c.take.result = omega (arith, bytes.ok.0, c.take.ensures.limit, c.len.ensures) in
    subst (λ told. IfSome told (λ rest. bytes.items ≡ rest)) (ap g.F.Read.remaining c.take.ensures.inner)
    (all-is_read _ _ _ _ c.in_ok-bytes.ensures.items short c.in_ok-read_to_end.ensures.bytes)
