use Rattle.std.proofs.Common.{◌≡◌, ◌∙◌, ◌++◌, ℕ, List, ap, subst, append_assoc, arith}
use Rattle.change_fates.proofs.Paging.{on_front}
use Rattle.change_fates.proofs.PacketLines.{head_page}
use Rattle.change_fates.proofs.packets.write_packet.Goals as goal

pub write_fates-requires-clause-found : goal.write_fates-requires-clause-found
write_fates-requires-clause-found g c = c.in_ok-seen.ensures.fates

pub write_fates-requires-clause-times : goal.write_fates-requires-clause-times
write_fates-requires-clause-times g c = c.in_ok-seen.ensures.times

pub returns-in_err-seen-clause-up_to : goal.returns-in_err-seen-clause-up_to
returns-in_err-seen-clause-up_to g c = λ first whole rest at. on_front first _ whole _ _ at

pub returns-in_err-put_packet-clause-up_to : goal.returns-in_err-put_packet-clause-up_to
returns-in_err-put_packet-clause-up_to g c = λ first whole rest at. on_front first _ whole _ _ at

pub returns-in_err-write_fates-clause-up_to : goal.returns-in_err-write_fates-clause-up_to
returns-in_err-write_fates-clause-up_to g c = λ first whole rest at.
    c.write_fates.ensures.up_to first whole rest
    (head_page c.args.known.now c.args.number c.args.bytes.now _ _ _ first _ whole _ _ rest c.in_ok-seen.ensures.kind c.in_ok-seen.ensures.ways c.in_ok-seen.ensures.more c.in_ok-put_packet.ensures at)

pub returns-clause-on : goal.returns-clause-on
returns-clause-on g c = λ first whole rest at.
    c.in_ok-write_fates.ensures.on first whole rest
    (head_page c.args.known.now c.args.number c.args.bytes.now _ _ _ first _ whole _ _ rest c.in_ok-seen.ensures.kind c.in_ok-seen.ensures.ways c.in_ok-seen.ensures.more c.in_ok-put_packet.ensures at)

pub returns-clause-up_to : goal.returns-clause-up_to
returns-clause-up_to g c = λ first whole rest at.
    c.write_fates.ensures.up_to first whole rest
    (head_page c.args.known.now c.args.number c.args.bytes.now _ _ _ first _ whole _ _ rest c.in_ok-seen.ensures.kind c.in_ok-seen.ensures.ways c.in_ok-seen.ensures.more c.in_ok-put_packet.ensures at)
