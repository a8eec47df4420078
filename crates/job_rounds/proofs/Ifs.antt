-- What is said of an answer, where it is one or none.
use Rattle.std.specs.Prelude.{Option, Some, None, IfSome, IfNone}

pub some_with : {A : Type 0} {P Q : A → Type 0} (o : Option A) → ((a : A) → P a → Q a) → IfSome o P → IfSome o Q
some_with None f p = tt
some_with (Some a) f p = f a p

pub none_with : {A : Type 0} {P Q : Type 0} (o : Option A) → (P → Q) → IfNone o P → IfNone o Q
none_with None f p = f p
none_with (Some a) f p = tt
