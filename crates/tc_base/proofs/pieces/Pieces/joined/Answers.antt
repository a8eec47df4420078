use Rattle.std.proofs.Common.{◌++◌, sym, ap, ◌∙◌}
use Rattle.tc_base.proofs.Stretches.{one_more}
use Rattle.tc_base.proofs.pieces.Pieces.joined.Goals as goal

pub loop-index-preserved : goal.loop-index-preserved
loop-index-preserved c =
    c.in_ok-extend_from_slice.ensures.items ∙ ap (λ front. front ++ c.piece.result.now) c.loop-index.invariant
    ∙ sym (one_more c.args.self.now.pieces c.loop-index.index c.piece.result.now c.piece.ensures)
