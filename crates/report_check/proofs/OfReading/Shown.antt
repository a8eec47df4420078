-- A line between what stands before a packet's end and its points.
use Rattle.std.proofs.Common.{◌≡◌, ◌∙◌, ℕ, ◌<◌, ◌^◌, List, ◌∷◌, ◌++◌, sym, ap, append_assoc}
use Rattle.std.specs.Prelude.{codes}
use Rattle.std.proofs.lemmas.List.{append_cancel_left}
use Rattle.filter_state.specs.Sound.{Each}
use Rattle.run_report.specs.PacketTexts.{packet_name, points_text}
use Rattle.report_check.specs.OfReading.Packets.{ShowsPoints}

module _ (line : List ℕ) (number worker : ℕ) (points front back : List ℕ) (front_is : front ≡ packet_name number worker ++ codes " ") (back_is : back ≡ points_text points ++ codes "\n") where
  blank_moved : (rest : List ℕ) → front ++ rest ≡ packet_name number worker ++ (32 ∷ rest)
  blank_moved rest = ap (λ (t : List ℕ). t ++ rest) front_is ∙ append_assoc (packet_name number worker) (codes " ") rest

  pub shown_between : (rest middle : List ℕ) → worker < 2 ^ 32 → Each (λ (point : ℕ). point < 2 ^ 32) points → line ≡ front ++ rest → rest ≡ middle ++ back → ShowsPoints line number worker points
  shown_between rest middle few small begins ends = record {
    middle = middle;
    worker_small = few;
    points_small = small;
    text = begins ∙ blank_moved rest ∙ ap (λ (t : List ℕ). packet_name number worker ++ (32 ∷ t)) (ends ∙ ap (λ (t : List ℕ). middle ++ t) back_is);
  }

  between : (it : ShowsPoints line number worker points) → line ≡ front ++ (it.middle ++ back)
  between it = it.text ∙ ap (λ (t : List ℕ). packet_name number worker ++ (32 ∷ (it.middle ++ t))) (sym back_is) ∙ sym (blank_moved (it.middle ++ back))

  pub begins_not : ((rest : List ℕ) → line ≡ front ++ rest → ⊥) → ShowsPoints line number worker points → ⊥
  begins_not other it = other (it.middle ++ back) (between it)

  pub ends_not : (rest : List ℕ) → line ≡ front ++ rest → ((middle : List ℕ) → rest ≡ middle ++ back → ⊥) → ShowsPoints line number worker points → ⊥
  ends_not rest begins other it = other it.middle (append_cancel_left front rest (it.middle ++ back) (sym begins ∙ between it))
