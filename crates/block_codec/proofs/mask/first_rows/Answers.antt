use Rattle.std.proofs.Common.{◌∙◌, ap, sym, arith, length}
use Rattle.std.proofs.lemmas.List.FromFn.{length-map-range_with_len, map-range_with_len_more}
use Rattle.block_codec.specs.Reading.{row_in}
use Rattle.block_codec.proofs.mask.first_rows.Goals as goal

pub push-requires : goal.push-requires
push-requires c = let low = c.loop-place-test.true in let most = c.requires in
    let long = ap length c.loop-place.invariant ∙ length-map-range_with_len (row_in c.args.words.now) 0 c.loop-place.place in omega arith

pub loop-place-preserved : goal.loop-place-preserved
loop-place-preserved c = rw (c.push.ensures, c.loop-place.invariant, c.row_in.ensures) (sym (map-range_with_len_more (row_in c.args.words.now) 0 c.loop-place.place c.loop-place.place (omega arith)))
