-- Known bytes behind a buffer.
use Rattle.std.proofs.Common.{◌≡◌, ℕ, ◌<◌, List, [], ◌++◌, length, take, Option, Some, None, refl, sym, ap, ◌∙◌, subst, append-nil, arith}
use Rattle.std.proofs.lemmas.List.{take_all, length-take}
use Rattle.std.specs.Io.KnownBytes.{Appends, append_known}
use Rattle.std.specs.Prelude.{IfSome}
use Rattle.std.specs.Option.{option_map}

append_known-nil : (told : Option (List ℕ)) → append_known told [] ≡ told
append_known-nil None = refl
append_known-nil (Some bytes) = ap Some (append-nil bytes)

Appends-nothing : (told : Option (List ℕ)) → Appends told told []
Appends-nothing None = tt
Appends-nothing (Some bytes) = sym (append-nil bytes)

-- an empty buffer before a writer holds nothing more
pub buffer-begins : (a b : Option (List ℕ)) (buffer : List ℕ) → b ≡ a → buffer ≡ [] → Appends a (append_known b buffer) []
buffer-begins a b buffer same empty =
    subst (λ (w : Option (List ℕ)). Appends a w []) (sym (ap (append_known b) empty ∙ append_known-nil b ∙ same)) (Appends-nothing a)

pub buffer-ends : (a b c : Option (List ℕ)) (buffer x : List ℕ) → Appends a (append_known b buffer) x → buffer ≡ [] → c ≡ b → Appends a c x
buffer-ends a b c buffer x p empty same =
    subst (λ (w : Option (List ℕ)). Appends a w x) (ap (append_known b) empty ∙ append_known-nil b ∙ sym same) p

-- what was read behind nothing, and is shorter than the most that was to be read, is all
pub all-is_read : (told : Option (List ℕ)) (most : ℕ) (before bytes : List ℕ) → before ≡ [] → length bytes < most
    → IfSome (option_map (take most) told) (λ front. bytes ≡ before ++ front) → IfSome told (λ rest. bytes ≡ rest)
all-is_read None most before bytes none short e = tt
all-is_read (Some xs) most before bytes none short e =
    let front : bytes ≡ take most xs = e ∙ ap (λ (w : List ℕ). w ++ take most xs) none in
    front ∙ take_all most xs (omega (arith, ap length front ∙ length-take most xs))
