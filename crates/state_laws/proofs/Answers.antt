-- Answers that are refusals, or a sound state.
use Rattle.std.proofs.Common.{◌≡◌, Bool, true, false, not, Option, Some, None, Result, Ok, Err, refl, sym}
use Rattle.std.proofs.lemmas.Bool.{false≢true}
use Rattle.std.proofs.lemmas.Option.{none-some}
use Rattle.filter_state.specs.declared.refusal.Refusal.{Refusal}
use Rattle.filter_state.specs.States.{State}
use Rattle.filter_state.specs.Actions.{and_then}
use Rattle.filter_state.specs.Refusals.{when, or_else}
use Rattle.filter_state.specs.Steps.{Stepped, unless}
use Rattle.filter_state.specs.Sound.{Sound}
use Rattle.filter_state.specs.Journals.{state_after}

-- ---- no refusal
pub not_refused : (b : Bool) (refusal : Refusal) → when b refusal ≡ None → b ≡ false
not_refused true refusal e = absurd (none-some refusal (sym e))
not_refused false refusal e = refl

pub not_not : (b : Bool) → not b ≡ false → b ≡ true
not_not true e = refl
not_not false e = absurd (false≢true (sym e))

pub neither : (first rest : Option Refusal) → or_else first rest ≡ None → (first ≡ None) × (rest ≡ None)
neither (Some refusal) rest e = absurd (none-some refusal (sym e))
neither None rest e = (refl, e)

-- ---- answers
abbrev pub ok : {A : Type 0} → A → Result A Refusal
ok a = Ok a

pub same_ok : {A : Type 0} (a b : A) → ok a ≡ ok b → a ≡ b
same_ok a b e = cc

pub err_ok : {A : Type 0} (refusal : Refusal) (a : A) → Err refusal ≡ ok a → ⊥
err_ok refusal a e = cc

pub and_then_ok : {A B : Type 0} (more : A → Result B Refusal) (first : Result A Refusal) (b : B) → and_then more first ≡ Ok b → (a : A) × (first ≡ Ok a) × (more a ≡ Ok b)
and_then_ok more (Ok a) b e = (a, refl, e)
and_then_ok more (Err refusal) b e = absurd (err_ok refusal b e)

-- ---- what is refused leaves a sound state sound
abbrev pub SoundAfter : State → Stepped → Type 0
SoundAfter s stepped = Sound (state_after s stepped)

pub unless_sound : (s : State) (refused : Option Refusal) (rest : Stepped) → Sound s → (refused ≡ None → SoundAfter s rest) → SoundAfter s (unless refused rest)
unless_sound s (Some refusal) rest sound more = sound
unless_sound s None rest sound more = more refl

pub then_sound : {A : Type 0} (s : State) (more : A → Stepped) (first : Result A Refusal) → Sound s → ((a : A) → first ≡ Ok a → SoundAfter s (more a)) → SoundAfter s (and_then more first)
then_sound s more (Ok a) sound go = go a refl
then_sound s more (Err refusal) sound go = sound
