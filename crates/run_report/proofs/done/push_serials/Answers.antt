use Rattle.std.proofs.Common.{◌≡◌, ◌∙◌, ℕ, List, [], ◌∷◌, ◌++◌, OnOk, append-nil, append_assoc, sym, ap, subst, decimal, codes}
use Rattle.std.specs.Prelude.{map}
use Rattle.std.specs.List.{flat_map, join_with_byte}
use Rattle.walk_texts.specs.Texts.{counted}
use Rattle.run_report.specs.EventTexts.{serials_text}
use Rattle.run_report.proofs.done.push_serials.Goals as goal

-- behind the first number each has a comma before it
commas : (serial : ℕ) (serials : List ℕ) → decimal serial ++ flat_map (λ (s : ℕ). counted (codes ",") s) serials ≡ join_with_byte 44 (map decimal (serial ∷ serials))
unfolding counted
commas serial [] = append-nil (decimal serial)
commas serial (next ∷ serials) = ap (λ (t : List ℕ). decimal serial ++ (44 ∷ t)) (commas next serials)

grown : (old middle : List ℕ) (number first : ℕ) (others serials : List ℕ) → middle ≡ old ++ decimal number → number ≡ first → serials ≡ first ∷ others →
    middle ++ flat_map (λ (s : ℕ). counted (codes ",") s) others ≡ old ++ serials_text serials
grown old middle number first others serials put is all =
    let rest : List ℕ = flat_map (λ (s : ℕ). counted (codes ",") s) others in
    ap (λ (t : List ℕ). t ++ rest) (put ∙ ap (λ (n : ℕ). old ++ decimal n) is) ∙ append_assoc old (decimal first) rest
    ∙ ap (λ (t : List ℕ). old ++ t) (commas first others) ∙ ap (λ (ns : List ℕ). old ++ serials_text ns) (sym all)

pub returns : goal.returns
returns c =
    subst (λ (t : List ℕ). OnOk c.push_other_serials.result (c.push_other_serials.new.out.items ≡ t))
    (grown c.args.out.now.items _ _ _ c.in-Some.others.now _ c.in_ok-push_number.ensures c.from.ensures c.in-Some.ensures.cases.0) c.push_other_serials.ensures
