-- The worker and the points that a line shows.
use Rattle.std.proofs.Common.{◌≡◌, ◌∙◌, ℕ, ◌<◌, ◌^◌, List, [], ◌∷◌, ◌++◌, drop, length, refl, sym, ap, append_assoc, arith, lit<}
use Rattle.std.specs.Prelude.{codes}
use Rattle.std.specs.Fmt.{decimal}
use Rattle.std.proofs.lemmas.List.{append_cancel_left}
use Rattle.frame_edit.specs.declared.meta.Meta.{Meta}
use Rattle.filter_state.specs.Sound.{Each}
use Rattle.walk_rules.specs.declared.verdict.Verdict.{Verdict}
use Rattle.walk_rules.specs.declared.verdict.Verdict.TheVariants as verdicts
use Rattle.walk_texts.specs.Texts.{counted, end_text, meta_text}
use Rattle.run_report.specs.declared.outcomes.Outcome.{Outcome}
use Rattle.run_report.specs.PacketTexts.{packet_name, points_text, packet_line}
use Rattle.report_laws.specs.OfLineCuts.Numbers.{Low, numbers_text, AreShort}
use Rattle.report_laws.proofs.LineTexts.{points_split}
use Rattle.report_laws.proofs.OfLineCuts.Tails.{number_split, numbers_same, numbers_free, last_same}
use Rattle.report_check.specs.OfReading.Packets.{IsSmall, ShowsPoints}

-- what follows the worker
abbrev pub behind_worker : List ℕ → List ℕ → List ℕ
behind_worker middle points = 32 ∷ (middle ++ (points_text points ++ (10 ∷ [])))

pub behind_low : (middle points : List ℕ) → Low (behind_worker middle points)
behind_low middle points = lit< tt

regrouped : (a b c d e : List ℕ) → ((a ++ b) ++ (c ++ d)) ++ e ≡ a ++ (b ++ (c ++ (d ++ e)))
regrouped a b c d e = simp append_assoc

name_placed : (number worker : ℕ) (rest : List ℕ) → packet_name number worker ++ rest ≡ codes "packet " ++ (decimal number ++ (codes " worker " ++ (decimal worker ++ rest)))
unfolding packet_name counted
name_placed number worker rest = regrouped (codes "packet ") (decimal number) (codes " worker ") (decimal worker) rest

pub shown_placed : (line : List ℕ) (number worker : ℕ) (points : List ℕ) → (it : ShowsPoints line number worker points)
    → line ≡ codes "packet " ++ (decimal number ++ (codes " worker " ++ (decimal worker ++ behind_worker it.middle points)))
shown_placed line number worker points it = it.text ∙ name_placed number worker (behind_worker it.middle points)

-- behind `packet ` stands a number, and behind ` worker ` another
pub behind_label : (line : List ℕ) (number worker : ℕ) (points : List ℕ) → (it : ShowsPoints line number worker points)
    → drop 7 line ≡ decimal number ++ (codes " worker " ++ (decimal worker ++ behind_worker it.middle points))
behind_label line number worker points it = ap (drop 7) (shown_placed line number worker points it)

pub behind_word : (rest : List ℕ) → drop 8 (codes " worker " ++ rest) ≡ rest
behind_word rest = refl

pub word_low : (rest : List ℕ) → Low (codes " worker " ++ rest)
word_low rest = lit< tt

-- the points stand behind the last `s`
pub points_there : (line : List ℕ) (number worker : ℕ) (points : List ℕ) → ShowsPoints line number worker points → (front : List ℕ) × (line ≡ front ++ (115 ∷ (numbers_text points ++ (10 ∷ []))))
points_there line number worker points it =
    let front : List ℕ = packet_name number worker ++ (32 ∷ it.middle) in
    (front ++ codes " point", it.text ∙ sym (append_assoc (packet_name number worker) (32 ∷ it.middle) (points_text points ++ (10 ∷ []))) ∙ points_split front points)

-- ---- the line of a packet shows its worker and its points
record BeginsBlank (text : List ℕ) : Type 0 where
  more : List ℕ
  is : text ≡ 32 ∷ more

end_blank : (verdict : Verdict) (len : ℕ) (meta : Meta) → BeginsBlank (end_text verdict len meta)
unfolding end_text counted
end_blank verdicts.Pass len meta = record { more = (codes "pass length " ++ decimal len) ++ meta_text meta; is = refl }
end_blank verdicts.Drop len meta = record { more = (codes "drop length " ++ decimal len) ++ meta_text meta; is = refl }

line_regrouped : (a b c d : List ℕ) → ((a ++ b) ++ c) ++ d ≡ a ++ (b ++ (c ++ d))
line_regrouped a b c d = simp append_assoc

pub shows_packet : (line : List ℕ) (number : ℕ) (o : Outcome) → IsSmall o → line ≡ packet_line number o → ShowsPoints line number o.worker o.points
shows_packet line number o small is =
    let blank = end_blank o.verdict (length o.bytes) o.meta in
    record {
      middle = blank.more;
      worker_small = small.worker;
      points_small = small.points;
      text = is ∙ line_regrouped (packet_name number o.worker) (end_text o.verdict (length o.bytes) o.meta) (points_text o.points) (10 ∷ [])
          ∙ ap (λ (t : List ℕ). packet_name number o.worker ++ (t ++ (points_text o.points ++ (10 ∷ [])))) blank.is;
    }

-- ---- and a line shows one worker, and the same points
short_of : (points : List ℕ) → Each (λ (point : ℕ). point < 2 ^ 32) points → AreShort points
short_of [] small = tt
short_of (point ∷ points) small = ((let few = small.0 in omega (arith, few)), short_of points small.1)

pub shows_one : (line : List ℕ) (number worker other : ℕ) (points others : List ℕ) → ShowsPoints line number worker points → ShowsPoints line number other others → (worker ≡ other) × (points ≡ others)
shows_one line number worker other points others one two =
    let first = append_cancel_left (codes "packet ") (decimal number ++ (codes " worker " ++ (decimal worker ++ behind_worker one.middle points))) (decimal number ++ (codes " worker " ++ (decimal other ++ behind_worker two.middle others)))
    (sym (shown_placed line number worker points one) ∙ shown_placed line number other others two) in
    let second = append_cancel_left (decimal number) (codes " worker " ++ (decimal worker ++ behind_worker one.middle points)) (codes " worker " ++ (decimal other ++ behind_worker two.middle others)) first in
    let third = append_cancel_left (codes " worker ") (decimal worker ++ behind_worker one.middle points) (decimal other ++ behind_worker two.middle others) second in
    let few = one.worker_small in
    let less = two.worker_small in
    let both = number_split worker other (behind_worker one.middle points) (behind_worker two.middle others) (omega (arith, few)) (omega (arith, less)) (behind_low one.middle points) (behind_low two.middle others) third in
    let a = points_there line number worker points one in
    let b = points_there line number other others two in (
      both.0,
      numbers_same points others (short_of points one.points_small) (short_of others two.points_small)
          (last_same 115 a.0 b.0 (numbers_text points ++ (10 ∷ [])) (numbers_text others ++ (10 ∷ [])) (numbers_free points) (numbers_free others) (sym a.1 ∙ b.1)),
    )
