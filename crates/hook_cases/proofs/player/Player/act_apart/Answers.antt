use Rattle.std.proofs.Crossing.{crosses}
use denote.Ref.{NamedLft}
use denote.Param.Send.{IsSend, sendable, view_send}
use denote.Param.SendFields.{declared_send, variants_send}
use Rattle.pin_store.proofs.store.Store.TheSendSync as store
use Rattle.walk_steps.proofs.walk.Walk.TheSendSync as walk
use Rattle.hook_cases.specs.contracts.recorder.Recorder as recorder
use Rattle.hook_cases.specs.contracts.recorder.Recording as recording
use Rattle.hook_cases.specs.contracts.walker.Walker as walker
use Rattle.hook_cases.specs.contracts.walker.Walker.TheInside as fields
use Rattle.hook_cases.specs.contracts.player.Player as player
use Rattle.hook_cases.proofs.log.Log.TheSendSync as told_log
use Rattle.hook_cases.proofs.Sends.{reader_send}
use Rattle.hook_cases.proofs.player.Player.act_apart.Goals as goal

-- A reader may cross to its thread and back with what it has written down, outside or inside,
recorder_send : (κ : NamedLft) → IsSend (recorder.the_row κ)
recorder_send κ = declared_send (recorder.the_type κ) (search (sendable, store.the_field_sync) depth 20, (reader_send, (told_log.the_send, search sendable depth 20)))

recording_send : (κ : NamedLft) → IsSend (recording.the_row κ)
recording_send κ = declared_send (recording.the_type κ) (search (sendable, store.the_field_sync) depth 20, (reader_send, (told_log.the_send, search sendable depth 20)))

-- and so may its walk with it.
walker_send : (κ : NamedLft) → IsSend (walker.the_row κ)
walker_send κ = view_send (fields.the_row κ) _ _ _ _ (declared_send (fields.the_type κ) (recording_send κ, (walk.the_send, search sendable depth 20)))

player_send : (κ : NamedLft) → IsSend (player.the_row κ)
player_send κ = variants_send (player.enum κ) ((recorder_send κ, (walk.the_send, search sendable depth 20)), ((walker_send κ, tt), (tt, tt)))

pub join-player-requires-send-F : goal.join-player-requires-send-F
join-player-requires-send-F g c κs within = search (sendable, crosses, player_send) depth 20

pub join-player-requires-send-A : goal.join-player-requires-send-A
join-player-requires-send-A g c κs within = search (sendable, crosses, player_send) depth 20
