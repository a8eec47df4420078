use Rattle.std.proofs.Common.{◌∙◌, ◌++◌, ◌∷◌, [], map, ap, sym, append_assoc, length-append, arith}
use Rattle.std.specs.List.{range_with_len}
use Rattle.std.proofs.lemmas.List.FromFn.{map-range_with_len_more}
use Rattle.block_codec.specs.Masks.{rows_word}
use Rattle.block_codec.proofs.mask.write_mask.Goals as goal

pub loop-at-preserved : goal.loop-at-preserved
loop-at-preserved c = let stored = c.args.stored.now in let at = c.loop-at.at in record {
  named = rw (c.push-in-loop-at.ensures, c.loop-at.invariant.named, c.rows_word.ensures, c.items-rows.ensures.same)
      (ap (λ words. 2 ∷ stored.serial ∷ stored.size ∷ words)
      (append_assoc stored.mask.words (map (rows_word stored.rows) (range_with_len 0 at)) (rows_word stored.rows at ∷ [])
      ∙ ap (λ words. stored.mask.words ++ words) (sym (map-range_with_len_more (rows_word stored.rows) 0 at at (omega arith)))));
  long = let before = c.loop-at.invariant.long in let n = length-append c.loop-at.named (c.rows_word.result ∷ []) in rw c.push-in-loop-at.ensures (omega arith);
}
