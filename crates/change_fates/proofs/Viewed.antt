-- A fate, as it is read.
use Rattle.std.proofs.Common.{◌≡◌, ◌∙◌, ℕ, List, Option, Some, None, refl, ap}
use Rattle.std.specs.Prelude.{IfSome}
use Rattle.frame_edit.specs.declared.meta.Meta.{Meta}
use Rattle.walk_rules.specs.declared.verdict.Verdict.{Verdict}
use Rattle.fate_search.specs.Found.{Found}

abbrev pub found_with : Verdict → ℕ → Meta → List ℕ → List ℕ → Found
found_with verdict length meta bytes points = record { verdict = verdict; length = length; meta = meta; bytes = bytes; points = points }

pub is_seen : (o : Option Found) (verdict : Verdict) (length : ℕ) (meta : Meta) (bytes points : List ℕ) → IfSome o (λ f. verdict ≡ f.verdict) → IfSome o (λ f. length ≡ f.length) → IfSome o (λ f. meta ≡ f.meta)
    → IfSome o (λ f. bytes ≡ f.bytes) → IfSome o (λ f. points ≡ f.points) → IfSome o (λ f. found_with verdict length meta bytes points ≡ f)
is_seen None verdict length meta bytes points a b c d e = tt
is_seen (Some f) verdict length meta bytes points a b c d e =
    ap (λ (v : Verdict). found_with v length meta bytes points) a
    ∙ ap (λ (n : ℕ). found_with f.verdict n meta bytes points) b
    ∙ ap (λ (m : Meta). found_with f.verdict f.length m bytes points) c
    ∙ ap (λ (bs : List ℕ). found_with f.verdict f.length f.meta bs points) d
    ∙ ap (λ (ps : List ℕ). found_with f.verdict f.length f.meta f.bytes ps) e

-- of something that is there
pub of_some : {X : Type 0} (o : Option X) (x : X) (P : X → Type 0) → o ≡ Some x → IfSome o P → P x
of_some None x P is holds = absurd (cc is)
of_some (Some y) x P is holds = let same : y ≡ x = cc is in Rattle.std.proofs.Common.subst P same holds
