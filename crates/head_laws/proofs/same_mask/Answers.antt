use Rattle.head_laws.proofs.OnePlace.{mask_once}
use Rattle.head_laws.proofs.same_mask.Goals as goal

pub returns : goal.returns
returns c = λ s sound hook other i j k l serial first second. mask_once s sound hook other serial i j k l first second
