use contract.Lifetimes.{Lfts}
use denote.Param.Send.{IsSend, IsSync, sendable, param_send}
use Rattle.std.proofs.Crossing.{crosses}
use Rattle.std.proofs.alloc.Global.TheSendSync as heap
use Rattle.pin_store.proofs.store.Store.TheSendSync as store
use Rattle.step_counts.proofs.claims.Claims.TheSendSync as claims
use Rattle.pcap_io.proofs.packets.Packets.TheSendSync as packets
use Rattle.job_rounds.specs.contracts.one_round.starting.start_worker.{G-row, R-row}
use Rattle.job_rounds.proofs.one_round.bell.Bell.TheSendSync as bell
use Rattle.job_rounds.proofs.OfOneRound.Crossing.{hand_send, ended_send}
use Rattle.job_rounds.proofs.one_round.starting.start_worker.Given as given
use Rattle.job_rounds.proofs.one_round.starting.start_worker.Lts.{arg-5-2}
use Rattle.job_rounds.proofs.one_round.starting.start_worker.Goals as goal

-- What the thread takes along, where nothing else is known: beside all that is known in the function the search would not end.
closure_send : (g : given.Over) (κs : Lfts 12) → IsSync (G-row g.row.G g.row.R) → IsSync (R-row g.row.G g.row.R) → IsSend (arg-5-2 g.row.G g.row.R g.G.laws g.R.laws g.G.Gate-dict g.R.Threads-dict g.R.Wait-dict κs)
closure_send g κs gate runtime = search (sendable, hand_send, heap.the_field_send, store.the_field_sync, claims.the_sync, packets.the_sync, bell.the_sync) depth 20

pub spawn_with-requires-send-F : goal.spawn_with-requires-send-F
spawn_with-requires-send-F g c κs within = param_send 2 _ (closure_send g κs c.type_bounds.sync-G c.type_bounds.sync-R)

pub spawn_with-requires-send-T : goal.spawn_with-requires-send-T
spawn_with-requires-send-T g c κs within = search (sendable, crosses, ended_send) depth 20
