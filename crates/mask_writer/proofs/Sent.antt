-- What is told of orders owns nothing, so it may go to any thread, and any thread may share it.
use denote.Param.Send.{IsSend, IsSync, part_keyless}
use Rattle.mask_writer.specs.contracts.told.Told.{the_row}

pub told_send : IsSend the_row
told_send = record { owned = λ d vs. ((λ vss. (tt, ((λ uss. (tt, tt)), tt))), tt); leaving = λ k f vs. tt }

pub told_sync : IsSync the_row
told_sync = record { shared = λ d b o κ q. part_keyless the_row told_send q d b o }
