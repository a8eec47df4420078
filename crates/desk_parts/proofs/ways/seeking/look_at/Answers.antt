use Rattle.std.proofs.Common.{◌∙◌, ℕ, List, ap}
use Rattle.std.specs.Str.{bytes_eq}
use Rattle.desk_parts.proofs.OfWays.Looked.{mask_with, mask_few}
use Rattle.desk_parts.proofs.ways.seeking.look_at.Goals as goal

pub returns-clause-some : goal.returns-clause-some
returns-clause-some c =
    let parts = c.args.parts.now in
    let found = c.in_ok-found.found in
    let is = c.in_ok-found.ensures.some in
    record {
      row = is.row;
      there = is.there;
      mask = mask_with parts c.requires is.row.mask_serial found.mask is.stands;
      few = mask_few parts c.requires is.row.mask_serial found.mask is.stands;
      has_mask = c.eq.ensures ∙ ap (λ (words : List ℕ). bytes_eq words c.args.line.now.mask.words) is.words;
      has_key = c.eq-2.ensures ∙ ap (λ (words : List ℕ). bytes_eq words c.args.line.now.key.words) is.key;
    }
