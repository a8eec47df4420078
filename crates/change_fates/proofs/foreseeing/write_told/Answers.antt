use Rattle.std.proofs.Common.{◌≡◌, ◌∙◌, ◌++◌, [], ℕ, List, length, sym, ap, subst}
use Rattle.tc_base.specs.Outside.{AppendsUpTo}
use Rattle.tc_base.proofs.Appends.{AppendsUpTo-nothing}
use Rattle.change_fates.specs.Told.{kinds_in, counts_of, closing_text, told_text}
use Rattle.change_fates.specs.Paging.{IsOnPage}
use Rattle.change_fates.proofs.Paging.{on_front}
use Rattle.change_fates.proofs.Written.{behind_lines, at_opening, at_lines, at_packets, at_closing}
use Rattle.change_fates.proofs.foreseeing.write_told.Goals as goal

pub returns-in_err-room-clause-up_to : goal.returns-in_err-room-clause-up_to
returns-in_err-room-clause-up_to g c = AppendsUpTo-nothing _ _

pub returns-in_err-opening-clause-up_to : goal.returns-in_err-opening-clause-up_to
returns-in_err-opening-clause-up_to g c = AppendsUpTo-nothing _ _

pub returns-in_err-put-clause-up_to : goal.returns-in_err-put-clause-up_to
returns-in_err-put-clause-up_to g c =
    let known = c.args.known.now in
    let stop = c.args.applied.now.stop.items in
    let lines = c.args.applied.now.lines.items in
    let packets = c.args.packets.now in
    let a = g.O.Sink.written c.args.out.now in
    c.put.ensures.up_to a (told_text known stop lines packets) (lines ++ behind_lines known packets)
    (at_opening known stop lines packets a c.deref.result.now (c.deref.ensures.value ∙ c.in_ok-opening.ensures))

pub returns-in_err-put-2-clause-up_to : goal.returns-in_err-put-2-clause-up_to
returns-in_err-put-2-clause-up_to g c =
    let known = c.args.known.now in
    let stop = c.args.applied.now.stop.items in
    let lines = c.args.applied.now.lines.items in
    let packets = c.args.packets.now in
    let a = g.O.Sink.written c.args.out.now in
    let opened = c.in_ok-put.ensures.on a (told_text known stop lines packets) (lines ++ behind_lines known packets)
    (at_opening known stop lines packets a c.deref.result.now (c.deref.ensures.value ∙ c.in_ok-opening.ensures)) in
    c.put-2.ensures.up_to a (told_text known stop lines packets) (behind_lines known packets)
    (at_lines known stop lines packets a (g.O.Sink.written c.put.new.out) c.deref-2.result.now c.deref-2.ensures.value opened)

pub returns-in_err-counts-clause-up_to : goal.returns-in_err-counts-clause-up_to
returns-in_err-counts-clause-up_to g c =
    let known = c.args.known.now in
    let stop = c.args.applied.now.stop.items in
    let lines = c.args.applied.now.lines.items in
    let packets = c.args.packets.now in
    let a = g.O.Sink.written c.args.out.now in
    let opened = c.in_ok-put.ensures.on a (told_text known stop lines packets) (lines ++ behind_lines known packets)
    (at_opening known stop lines packets a c.deref.result.now (c.deref.ensures.value ∙ c.in_ok-opening.ensures)) in
    let lined = c.in_ok-put-2.ensures.on a (told_text known stop lines packets) (behind_lines known packets)
    (at_lines known stop lines packets a (g.O.Sink.written c.put.new.out) c.deref-2.result.now c.deref-2.ensures.value opened) in
    c.write_packets.ensures.up_to a (told_text known stop lines packets) (closing_text (length packets) (counts_of (kinds_in known packets)))
    (at_packets known stop lines packets a (g.O.Sink.written c.put-2.new.out) c.in_ok-room.room.page c.in_ok-room.ensures lined)

pub returns-in_err-closing-clause-up_to : goal.returns-in_err-closing-clause-up_to
returns-in_err-closing-clause-up_to g c =
    let known = c.args.known.now in
    let stop = c.args.applied.now.stop.items in
    let lines = c.args.applied.now.lines.items in
    let packets = c.args.packets.now in
    let a = g.O.Sink.written c.args.out.now in
    let opened = c.in_ok-put.ensures.on a (told_text known stop lines packets) (lines ++ behind_lines known packets)
    (at_opening known stop lines packets a c.deref.result.now (c.deref.ensures.value ∙ c.in_ok-opening.ensures)) in
    let lined = c.in_ok-put-2.ensures.on a (told_text known stop lines packets) (behind_lines known packets)
    (at_lines known stop lines packets a (g.O.Sink.written c.put.new.out) c.deref-2.result.now c.deref-2.ensures.value opened) in
    on_front a _ (told_text known stop lines packets) _ _
    (c.in_ok-counts.ensures.on a (told_text known stop lines packets) (closing_text (length packets) (counts_of (kinds_in known packets)))
    (at_packets known stop lines packets a (g.O.Sink.written c.put-2.new.out) c.in_ok-room.room.page c.in_ok-room.ensures lined))

pub returns-in_err-put_last-clause-up_to : goal.returns-in_err-put_last-clause-up_to
returns-in_err-put_last-clause-up_to g c =
    let known = c.args.known.now in
    let stop = c.args.applied.now.stop.items in
    let lines = c.args.applied.now.lines.items in
    let packets = c.args.packets.now in
    let a = g.O.Sink.written c.args.out.now in
    let opened = c.in_ok-put.ensures.on a (told_text known stop lines packets) (lines ++ behind_lines known packets)
    (at_opening known stop lines packets a c.deref.result.now (c.deref.ensures.value ∙ c.in_ok-opening.ensures)) in
    let lined = c.in_ok-put-2.ensures.on a (told_text known stop lines packets) (behind_lines known packets)
    (at_lines known stop lines packets a (g.O.Sink.written c.put.new.out) c.deref-2.result.now c.deref-2.ensures.value opened) in
    let packed = c.in_ok-counts.ensures.on a (told_text known stop lines packets) (closing_text (length packets) (counts_of (kinds_in known packets)))
    (at_packets known stop lines packets a (g.O.Sink.written c.put-2.new.out) c.in_ok-room.room.page c.in_ok-room.ensures lined) in
    let closing = c.deref-3.ensures.value ∙ c.in_ok-closing.ensures ∙ ap (λ (n : ℕ). closing_text n c.in_ok-counts.counts) c.len.ensures in
    c.put_last.ensures.up_to a (told_text known stop lines packets)
    (at_closing known stop lines packets a (g.O.Sink.written c.write_packets.new.out) c.write_packets.new.room.page c.deref-3.result.now c.in_ok-counts.counts closing c.in_ok-counts.ensures.counts packed)

pub returns-clause-all : goal.returns-clause-all
returns-clause-all g c =
    let known = c.args.known.now in
    let stop = c.args.applied.now.stop.items in
    let lines = c.args.applied.now.lines.items in
    let packets = c.args.packets.now in
    let a = g.O.Sink.written c.args.out.now in
    let opened = c.in_ok-put.ensures.on a (told_text known stop lines packets) (lines ++ behind_lines known packets)
    (at_opening known stop lines packets a c.deref.result.now (c.deref.ensures.value ∙ c.in_ok-opening.ensures)) in
    let lined = c.in_ok-put-2.ensures.on a (told_text known stop lines packets) (behind_lines known packets)
    (at_lines known stop lines packets a (g.O.Sink.written c.put.new.out) c.deref-2.result.now c.deref-2.ensures.value opened) in
    let packed = c.in_ok-counts.ensures.on a (told_text known stop lines packets) (closing_text (length packets) (counts_of (kinds_in known packets)))
    (at_packets known stop lines packets a (g.O.Sink.written c.put-2.new.out) c.in_ok-room.room.page c.in_ok-room.ensures lined) in
    let closing = c.deref-3.ensures.value ∙ c.in_ok-closing.ensures ∙ ap (λ (n : ℕ). closing_text n c.in_ok-counts.counts) c.len.ensures in
    c.in_ok-put_last.ensures.all a (told_text known stop lines packets)
    (at_closing known stop lines packets a (g.O.Sink.written c.write_packets.new.out) c.write_packets.new.room.page c.deref-3.result.now c.in_ok-counts.counts closing c.in_ok-counts.ensures.counts packed)

pub returns-clause-up_to : goal.returns-clause-up_to
returns-clause-up_to g c =
    let known = c.args.known.now in
    let stop = c.args.applied.now.stop.items in
    let lines = c.args.applied.now.lines.items in
    let packets = c.args.packets.now in
    let a = g.O.Sink.written c.args.out.now in
    let opened = c.in_ok-put.ensures.on a (told_text known stop lines packets) (lines ++ behind_lines known packets)
    (at_opening known stop lines packets a c.deref.result.now (c.deref.ensures.value ∙ c.in_ok-opening.ensures)) in
    let lined = c.in_ok-put-2.ensures.on a (told_text known stop lines packets) (behind_lines known packets)
    (at_lines known stop lines packets a (g.O.Sink.written c.put.new.out) c.deref-2.result.now c.deref-2.ensures.value opened) in
    let packed = c.in_ok-counts.ensures.on a (told_text known stop lines packets) (closing_text (length packets) (counts_of (kinds_in known packets)))
    (at_packets known stop lines packets a (g.O.Sink.written c.put-2.new.out) c.in_ok-room.room.page c.in_ok-room.ensures lined) in
    let closing = c.deref-3.ensures.value ∙ c.in_ok-closing.ensures ∙ ap (λ (n : ℕ). closing_text n c.in_ok-counts.counts) c.len.ensures in
    c.put_last.ensures.up_to a (told_text known stop lines packets)
    (at_closing known stop lines packets a (g.O.Sink.written c.write_packets.new.out) c.write_packets.new.room.page c.deref-3.result.now c.in_ok-counts.counts closing c.in_ok-counts.ensures.counts packed)
