-- A packet's line as its number and what it tells behind that.
use Rattle.std.proofs.Common.{◌≡◌, ◌∙◌, ℕ, List, ◌++◌, length, refl, sym, ap, append_assoc}
use Rattle.std.specs.Prelude.{codes}
use Rattle.walk_texts.specs.Texts.{counted, end_text}
use Rattle.run_report.specs.declared.outcomes.Outcome.{Outcome}
use Rattle.run_report.specs.PacketTexts.{packet_name, points_text, packet_line}
use Rattle.run_report.specs.PacketTails.{packet_tail}

name_is : (number worker : ℕ)
    → packet_name number worker ≡ counted (codes "packet ") number ++ counted (codes " worker ") worker
unfolding packet_name
name_is number worker = refl

-- the line in two parts
pub line_in_two : (number : ℕ) (outcome : Outcome)
    → counted (codes "packet ") number ++ packet_tail outcome ≡ packet_line number outcome
line_in_two number outcome =
    let name = packet_name number outcome.worker in
    let end = end_text outcome.verdict (length outcome.bytes) outcome.meta in
    let points = points_text outcome.points in
    let feed : List ℕ = codes "\n" in
    sym (append_assoc (counted (codes "packet ") number) (counted (codes " worker ") outcome.worker) (end ++ (points ++ feed)))
    ∙ ap (λ (first : List ℕ). first ++ (end ++ (points ++ feed))) (sym (name_is number outcome.worker))
    ∙ sym (append_assoc name end (points ++ feed))
    ∙ sym (append_assoc (name ++ end) points feed)

-- a number and a tail that are put behind a text are a line behind it
pub line_put : (before middle after : List ℕ) (number : ℕ) (outcome : Outcome)
    → middle ≡ before ++ counted (codes "packet ") number → after ≡ middle ++ packet_tail outcome
    → after ≡ before ++ packet_line number outcome
line_put before middle after number outcome named told =
    told ∙ ap (λ (text : List ℕ). text ++ packet_tail outcome) named
    ∙ append_assoc before (counted (codes "packet ") number) (packet_tail outcome)
    ∙ ap (λ (line : List ℕ). before ++ line) (line_in_two number outcome)
