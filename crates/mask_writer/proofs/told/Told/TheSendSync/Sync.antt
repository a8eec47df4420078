use denote.Param.Send.{IsSync}
use Rattle.mask_writer.specs.contracts.told.Told.{the_row}
use Rattle.mask_writer.proofs.Sent.{told_sync}

pub sync : IsSync the_row
sync = told_sync
