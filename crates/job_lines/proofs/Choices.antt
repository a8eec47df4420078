-- Cases on tests, and on what a test leaves.
use Rattle.std.proofs.Common.{◌≡◌, Bool, true, false, Option, Some, None, refl}
use Rattle.std.specs.Prelude.{◌&&◌, if◌then◌else◌}

-- both tests hold
pub both : (a b : Bool) → a ≡ true → b ≡ true → (a && b) ≡ true
both true b p q = q
both false b p q = absurd (cc p)

pub both_hold : (a b : Bool) → (a && b) ≡ true → (a ≡ true) × (b ≡ true)
both_hold true b e = (refl, e)
both_hold false b e = absurd (cc e)

-- what a test lets through
pub let_through : {X : Type 0} (a : Bool) (o : Option X) → a ≡ true → (if a then o else None) ≡ o
let_through true o e = refl
let_through false o e = absurd (cc e)

pub was_let : {X : Type 0} (a : Bool) (o : Option X) (x : X) → (if a then o else None) ≡ Some x → (a ≡ true) × (o ≡ Some x)
was_let true o x e = (refl, e)
was_let false o x e = absurd (cc e)
