use Rattle.desk_masks.proofs.OfMaskResizes.Resizing.{resize_lawful}
use Rattle.desk_masks.proofs.mask_resizes.laws.resizes_are_lawful.Goals as goal

pub returns : goal.returns
returns c = resize_lawful
