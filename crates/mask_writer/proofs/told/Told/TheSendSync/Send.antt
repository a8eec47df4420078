use denote.Param.Send.{IsSend}
use Rattle.mask_writer.specs.contracts.told.Told.{the_row}
use Rattle.mask_writer.proofs.Sent.{told_send}

pub send : IsSend the_row
send = told_send
