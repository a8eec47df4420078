use Rattle.tc_base.proofs.AskedCalls.{Asked-puts}
use Rattle.tc_base.proofs.file_shelf.replace_by_pieces.Goals as goal

pub returns : goal.returns
returns g c =
    Asked-puts g.D.File.Write.contents _ _ c.in_ok-file.field-0 _ _ _ _ _ _ c.in_ok-file.ensures
    c.write_joined-written.ensures c.settle.ensures.calls c.settle.ensures.written
