use Rattle.std.proofs.Crossing.{crosses}
use denote.Ref.{NamedLft}
use denote.Param.Send.{IsSend, sendable}
use denote.Param.SendFields.{declared_send}
use Rattle.pin_store.proofs.store.Store.TheSendSync as store
use Rattle.hook_cases.specs.contracts.recorder.Recorder as recorder
use Rattle.hook_cases.proofs.log.Log.TheSendSync as told_log
use Rattle.hook_cases.proofs.Sends.{reader_send}
use Rattle.hook_cases.proofs.meanwhile.work.Goals as goal

-- The reader may cross to its thread with what it writes down.
recorder_send : (κ : NamedLft) → IsSend (recorder.the_row κ)
recorder_send κ = declared_send (recorder.the_type κ) (search (sendable, store.the_field_sync) depth 20, (reader_send, (told_log.the_send, search sendable depth 20)))

pub join-log-requires-send-F : goal.join-log-requires-send-F
join-log-requires-send-F g c κs within = search (sendable, crosses, recorder_send) depth 20
