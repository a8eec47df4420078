-- A reader of a hook may cross to another thread, part by part.
use denote.Param.Send.{IsSend, sendable}
use Rattle.pin_store.proofs.reader.Reader.TheSendSync as reader
use Rattle.kept_records.proofs.records.HookRecords.TheSendSync as records
use Rattle.hook_reader.proofs.slot_points.SlotPoints.TheSendSync as points
use Rattle.hook_reader.proofs.kept_head.KeptHead.TheSendSync as kept
use Rattle.hook_reader.specs.contracts.head_seen.HeadSeen as head
use Rattle.hook_reader.specs.contracts.reader.HookReader as hook_reader

head_send : IsSend head.the_row
head_send = search sendable depth 20

pub reader_send : IsSend hook_reader.the_row
reader_send = search (sendable, reader.the_field_send, records.the_field_send, points.the_send, head_send, kept.the_send) depth 20
