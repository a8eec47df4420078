-- Marks by slots.
use Rattle.std.proofs.Common.{◌≡◌, ◌∙◌, ℕ, suc, ◌+◌, ◌≤◌, eqb, cond, Bool, true, false, List, [], ◌∷◌, length, map, replicate, refl, sym, ap, subst, arith, eqb-true}
use Rattle.std.specs.Prelude.{All}
use Rattle.std.proofs.lemmas.Simd.{splat_is_map}
use Rattle.std.proofs.lemmas.List.{length-replicate}
use Rattle.std.proofs.lemmas.List.Elements.{All-replicate, All-weaker}
use Rattle.hook_reader.specs.declared.slot_points.Mark.{Mark}
use Rattle.hook_reader.specs.Marks.{point_in, points_in}

abbrev IsNone : ℕ → Mark → Type 0
IsNone walk mark = point_in walk mark ≡ 0

none_each : (walk : ℕ) (marks : List Mark) → All (IsNone walk) marks → points_in walk marks ≡ map (λ (mark : Mark). 0) marks
none_each walk [] all = refl
none_each walk (m ∷ ms) all = let first = all 0 m (omega arith) in let rest = none_each walk ms (λ k d less. all (suc k) d (omega (arith, less))) in λ t. first t ∷ rest t

pub none_all : (walk n : ℕ) (marks : List Mark) → length marks ≡ n → All (IsNone walk) marks → points_in walk marks ≡ replicate n 0
none_all walk n marks long all = none_each walk marks all ∙ sym (splat_is_map marks n 0 long)

none_here : (walk : ℕ) (mark : Mark) → mark.point ≡ 0 → IsNone walk mark
none_here walk mark is = pick (eqb mark.walk walk)
  where
    pick : (t : Bool) → cond t mark.point 0 ≡ 0
    pick true = is
    pick false = refl

pub none_filled : (walk n : ℕ) (mark : Mark) (marks : List Mark) → mark.point ≡ 0 → marks ≡ replicate n mark → points_in walk marks ≡ replicate n 0
none_filled walk n mark marks is filled = none_all walk n marks (ap length filled ∙ length-replicate n mark)
    (subst (All (IsNone walk)) (sym filled) (All-replicate (IsNone walk) n mark (none_here walk mark is)))

-- a mark of an earlier walk
none_later : (walk : ℕ) (mark : Mark) → mark.walk ≤ walk → IsNone (walk + 1) mark
none_later walk mark low = pick (eqb mark.walk (walk + 1)) refl
  where
    pick : (t : Bool) → eqb mark.walk (walk + 1) ≡ t → cond t mark.point 0 ≡ 0
    pick true e = let same = eqb-true mark.walk (walk + 1) e in absurd (omega (arith, low, same))
    pick false e = refl

pub forgotten : (walk n : ℕ) (marks : List Mark) → length marks ≡ n → All (λ (mark : Mark). mark.walk ≤ walk) marks → points_in (walk + 1) marks ≡ replicate n 0
forgotten walk n marks long all = none_all (walk + 1) n marks long (All-weaker (λ (mark : Mark). mark.walk ≤ walk) (IsNone (walk + 1)) (none_later walk) marks all)
