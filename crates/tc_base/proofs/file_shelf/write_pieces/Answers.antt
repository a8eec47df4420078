use Rattle.std.proofs.Common.{sym, ap, subst, arith}
use Rattle.std.proofs.KnownBytes.{Appends-trans, Appends-kept}
use Rattle.std.proofs.lemmas.List.{take_all}
use Rattle.std.specs.Io.KnownBytes.{Appends}
use Rattle.tc_base.specs.Pieces.{joined}
use Rattle.tc_base.proofs.KnownBytes.{buffer-begins, buffer-ends}
use Rattle.tc_base.proofs.Stretches.{one_more}
use Rattle.tc_base.proofs.file_shelf.write_pieces.Goals as goal

pub loop-index-init : goal.loop-index-init
loop-index-init g c = buffer-begins _ _ _ (ap g.F.Write.contents c.in_ok-out.ensures.inner) c.in_ok-out.ensures.empty

pub loop-index-preserved : goal.loop-index-preserved
loop-index-preserved g c =
    let more = one_more c.args.pieces.now.pieces c.loop-index.index c.piece.result.now c.piece.ensures in
    subst (Appends _ _) (sym more) (Appends-trans _ _ _ _ _ c.loop-index.invariant c.in_ok-write_all.ensures.bytes)

pub returns : goal.returns
returns g c =
    let all = ap joined (take_all c.loop-index.index c.args.pieces.now.pieces (omega arith)) in
    let flushed = Appends-kept _ _ _ _ c.loop-index.invariant c.in_ok-flush.ensures.bytes in
    let parts = c.into_parts-file.ensures in
    subst (Appends _ _) all (buffer-ends _ _ _ _ _ flushed c.in_ok-flush.ensures.ok (ap g.F.Write.contents parts.inner))
