-- What a worker's thread takes along and brings back may cross to it, part by part.
use denote.Param.Send.{IsSend, sendable}
use denote.Param.SendFields.{declared_send}
use Rattle.pin_store.proofs.reader.Reader.TheSendSync as reader
use Rattle.kept_records.proofs.records.HookRecords.TheSendSync as records
use Rattle.hook_reader.proofs.slot_points.SlotPoints.TheSendSync as points
use Rattle.hook_reader.proofs.kept_head.KeptHead.TheSendSync as kept
use Rattle.hook_reader.specs.contracts.head_seen.HeadSeen as head
use Rattle.hook_reader.specs.contracts.reader.HookReader as hook_reader
use Rattle.walk_steps.proofs.walk.Walk.TheSendSync as walk
use Rattle.worker_rounds.specs.contracts.worker.Worker as worker
use Rattle.step_counts.proofs.seats.Held.TheSendSync as seat
use Rattle.worker_rounds.proofs.logs.walk_log.WalkLog.TheSendSync as log
use Rattle.job_rounds.specs.contracts.one_round.hands.Hand as hand
use Rattle.job_rounds.specs.contracts.one_round.hands.Ended as ended

head_send : IsSend head.the_row
head_send = search sendable depth 20

reader_send : IsSend hook_reader.the_row
reader_send = search (sendable, reader.the_field_send, records.the_field_send, points.the_send, head_send, kept.the_send) depth 20

worker_send : IsSend worker.the_row
worker_send = search (sendable, reader_send, walk.the_send) depth 20

pub hand_send : IsSend hand.the_row
hand_send = declared_send hand.the_type (worker_send, search (sendable, seat.the_send) depth 20)

pub ended_send : IsSend ended.the_row
ended_send = declared_send ended.the_type (worker_send, (search (sendable, seat.the_send) depth 20, search (sendable, log.the_send) depth 20))
