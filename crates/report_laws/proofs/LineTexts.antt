-- What the text of a line tells.
use Rattle.std.proofs.Common.{◌≡◌, ◌∙◌, ℕ, ◌+◌, ◌<◌, ◌^◌, List, [], ◌∷◌, ◌++◌, length, take, refl, sym, ap, append_assoc, arith, ◌⊎◌, inl, inr, lit<}
use Rattle.std.specs.Prelude.{codes}
use Rattle.std.specs.Fmt.{decimal}
use Rattle.std.specs.List.{join_with_byte}
use Rattle.std.proofs.lemmas.List.{append_cancel_left}
use Rattle.frame_edit.specs.declared.meta.Meta.{Meta}
use Rattle.walk_rules.specs.declared.verdict.Verdict.{Verdict}
use Rattle.walk_rules.specs.declared.verdict.Verdict.TheVariants as verdicts
use Rattle.tc_report.specs.Refusals.{refused_line, refusal_words, syntax_words}
use Rattle.walk_texts.specs.Texts.{counted, end_text}
use Rattle.run_report.specs.declared.events.EventKind.{EventKind}
use Rattle.run_report.specs.declared.events.EventKind.TheVariants as kinds
use Rattle.run_report.specs.declared.outcomes.Outcome.{Outcome}
use Rattle.run_report.specs.EventTexts.{edit_place, done_text, kind_line}
use Rattle.run_report.specs.PacketTexts.{packet_name, points_text, packet_line}
use Rattle.run_report.specs.Reports.{numbered_line}
use Rattle.report_laws.specs.OfLineCuts.Numbers.{Low, numbers_text, AreShort}
use Rattle.report_laws.proofs.OfLineCuts.Tails.{number_split, numbers_same, numbers_free, last_same}

regrouped : (a b c d e : List ℕ) → (((a ++ b) ++ c) ++ d) ++ e ≡ a ++ (b ++ (c ++ (d ++ e)))
regrouped a b c d e = simp append_assoc

-- ---- the first two bytes
edit_head : (place control line : ℕ) (text : List ℕ) → take 2 ((edit_place place control line ++ text) ++ codes "\n") ≡ codes "ed"
unfolding edit_place counted
edit_head place control line text = refl

pub kind_head : (before control line : ℕ) (kind : EventKind) → (take 2 (kind_line before control line kind) ≡ codes "ed") ⊎ (take 2 (kind_line before control line kind) ≡ codes "re")
kind_head before control line (kinds.Accepted done) = inl (edit_head (before + 1) control line (done_text done))
kind_head before control line (kinds.Refused refusal) = inr refl
kind_head before control line (kinds.Syntax word) = inr refl

pub packet_head : (number : ℕ) (outcome : Outcome) → take 2 (packet_line number outcome) ≡ codes "pa"
unfolding packet_name counted
packet_head number outcome = refl

pub end_head : (number : ℕ) → take 2 (numbered_line (codes "end round ") number) ≡ codes "en"
unfolding numbered_line counted
end_head number = refl

pub first_of : (a b c d : ℕ) → a ∷ b ∷ [] ≡ c ∷ d ∷ [] → a ≡ c
first_of a b c d is = cc is

pub second_of : (a b c d : ℕ) → a ∷ b ∷ [] ≡ c ∷ d ∷ [] → b ≡ d
second_of a b c d is = cc is

-- ---- the control of an event
placed : (place control line : ℕ) (rest : List ℕ) → edit_place place control line ++ rest ≡ counted (codes "edit ") place ++ (codes " control " ++ (decimal control ++ (counted (codes " line ") line ++ (codes " " ++ rest))))
unfolding edit_place counted
placed place control line rest =
    regrouped (codes "edit " ++ decimal place) (codes " control " ++ decimal control) (codes " line " ++ decimal line) (codes " ") rest
    ∙ ap (λ (t : List ℕ). (codes "edit " ++ decimal place) ++ t) (append_assoc (codes " control ") (decimal control) ((codes " line " ++ decimal line) ++ (codes " " ++ rest)))

line_low : (line : ℕ) (rest : List ℕ) → Low (counted (codes " line ") line ++ rest)
unfolding counted
line_low line rest = lit< tt

edit_control : (place control other line next : ℕ) (rest more : List ℕ) → control < 2 ^ 64 → other < 2 ^ 64 → edit_place place control line ++ rest ≡ edit_place place other next ++ more → control ≡ other
edit_control place control other line next rest more small less is =
    let tail : ℕ → List ℕ → List ℕ = λ (l : ℕ) (r : List ℕ). counted (codes " line ") l ++ (codes " " ++ r) in
    let first : codes " control " ++ (decimal control ++ tail line rest) ≡ codes " control " ++ (decimal other ++ tail next more) =
    append_cancel_left (counted (codes "edit ") place) (codes " control " ++ (decimal control ++ tail line rest)) (codes " control " ++ (decimal other ++ tail next more)) (sym (placed place control line rest) ∙ is ∙ placed place other next more) in
    let same = append_cancel_left (codes " control ") (decimal control ++ tail line rest) (decimal other ++ tail next more) first in
    (number_split control other (tail line rest) (tail next more) small less (line_low line (codes " " ++ rest)) (line_low next (codes " " ++ more)) same).0

refused_tail : ℕ → List (List ℕ) → List ℕ
refused_tail line reason = 32 ∷ (codes "line" ++ (32 ∷ join_with_byte 32 (decimal line ∷ reason)))

refused_placed : (before control line : ℕ) (reason : List (List ℕ)) → refused_line before control line reason ≡ codes "refused " ++ (decimal before ++ (codes " control " ++ (decimal control ++ (refused_tail line reason ++ (10 ∷ [])))))
unfolding refused_tail
refused_placed before control line reason =
    ap (λ (t : List ℕ). codes "refused " ++ t)
    (append_assoc (decimal before) (codes " control " ++ (decimal control ++ refused_tail line reason)) (10 ∷ [])
    ∙ ap (λ (t : List ℕ). decimal before ++ (codes " control " ++ t)) (append_assoc (decimal control) (refused_tail line reason) (10 ∷ [])))

refused_low : (line : ℕ) (reason : List (List ℕ)) → Low (refused_tail line reason ++ (10 ∷ []))
unfolding refused_tail
refused_low line reason = lit< tt

refused_control : (before control other line next : ℕ) (reason others : List (List ℕ)) → control < 2 ^ 64 → other < 2 ^ 64 → refused_line before control line reason ≡ refused_line before other next others → control ≡ other
refused_control before control other line next reason others small less is =
    let one : List ℕ = decimal control ++ (refused_tail line reason ++ (10 ∷ [])) in
    let two : List ℕ = decimal other ++ (refused_tail next others ++ (10 ∷ [])) in
    let first = append_cancel_left (codes "refused ") (decimal before ++ (codes " control " ++ one)) (decimal before ++ (codes " control " ++ two))
    (sym (refused_placed before control line reason) ∙ is ∙ refused_placed before other next others) in
    let second = append_cancel_left (decimal before) (codes " control " ++ one) (codes " control " ++ two) first in
    let third = append_cancel_left (codes " control ") one two second in
    (number_split control other (refused_tail line reason ++ (10 ∷ [])) (refused_tail next others ++ (10 ∷ [])) small less (refused_low line reason) (refused_low next others) third).0

heads_differ : (x y : List ℕ) {A : Type 0} → take 2 x ≡ codes "ed" → take 2 y ≡ codes "re" → x ≡ y → A
heads_differ x y first second is = let same = first_of 101 100 114 101 (sym first ∙ ap (take 2) is ∙ second) in absurd (omega (arith, same))

pub control_told : (before control other line next : ℕ) (kind another : EventKind) → control < 2 ^ 64 → other < 2 ^ 64 → kind_line before control line kind ≡ kind_line before other next another → control ≡ other
control_told before control other line next (kinds.Accepted done) (kinds.Accepted again) small less is =
    edit_control (before + 1) control other line next (done_text done ++ codes "\n") (done_text again ++ codes "\n") small less
    (sym (append_assoc (edit_place (before + 1) control line) (done_text done) (codes "\n")) ∙ is ∙ append_assoc (edit_place (before + 1) other next) (done_text again) (codes "\n"))
control_told before control other line next (kinds.Accepted done) (kinds.Refused refusal) small less is =
    heads_differ (kind_line before control line (kinds.Accepted done)) (kind_line before other next (kinds.Refused refusal)) (edit_head (before + 1) control line (done_text done)) refl is
control_told before control other line next (kinds.Accepted done) (kinds.Syntax word) small less is =
    heads_differ (kind_line before control line (kinds.Accepted done)) (kind_line before other next (kinds.Syntax word)) (edit_head (before + 1) control line (done_text done)) refl is
control_told before control other line next (kinds.Refused refusal) (kinds.Accepted again) small less is =
    heads_differ (kind_line before other next (kinds.Accepted again)) (kind_line before control line (kinds.Refused refusal)) (edit_head (before + 1) other next (done_text again)) refl (sym is)
control_told before control other line next (kinds.Syntax word) (kinds.Accepted again) small less is =
    heads_differ (kind_line before other next (kinds.Accepted again)) (kind_line before control line (kinds.Syntax word)) (edit_head (before + 1) other next (done_text again)) refl (sym is)
control_told before control other line next (kinds.Refused refusal) (kinds.Refused again) small less is =
    refused_control before control other line next (refusal_words refusal) (refusal_words again) small less is
control_told before control other line next (kinds.Refused refusal) (kinds.Syntax word) small less is =
    refused_control before control other line next (refusal_words refusal) (syntax_words word) small less is
control_told before control other line next (kinds.Syntax word) (kinds.Refused again) small less is =
    refused_control before control other line next (syntax_words word) (refusal_words again) small less is
control_told before control other line next (kinds.Syntax word) (kinds.Syntax again) small less is =
    refused_control before control other line next (syntax_words word) (syntax_words again) small less is

-- ---- the worker and the points of a packet
pub record IsToldBy (one other : Outcome) : Type 0 where
  pub worker : one.worker ≡ other.worker
  pub points : one.points ≡ other.points

pub end_low : (verdict : Verdict) (len : ℕ) (meta : Meta) (rest : List ℕ) → Low (end_text verdict len meta ++ rest)
unfolding end_text counted
end_low verdicts.Pass len meta rest = lit< tt
end_low verdicts.Drop len meta rest = lit< tt

pub points_split : (front : List ℕ) (points : List ℕ) → front ++ (points_text points ++ (10 ∷ [])) ≡ (front ++ codes " point") ++ (115 ∷ (numbers_text points ++ (10 ∷ [])))
unfolding points_text counted
points_split front points = sym (append_assoc front (codes " point") (115 ∷ (numbers_text points ++ (10 ∷ []))))

points_told : (front other : List ℕ) (ms ns : List ℕ) → AreShort ms → AreShort ns → front ++ (points_text ms ++ (10 ∷ [])) ≡ other ++ (points_text ns ++ (10 ∷ [])) → ms ≡ ns
points_told front other ms ns sm sn is =
    numbers_same ms ns sm sn (last_same 115 (front ++ codes " point") (other ++ codes " point") (numbers_text ms ++ (10 ∷ [])) (numbers_text ns ++ (10 ∷ [])) (numbers_free ms) (numbers_free ns)
    (sym (points_split front ms) ∙ is ∙ points_split other ns))

regrouped_line : (a b c d e : List ℕ) → (((a ++ (b ++ c)) ++ d) ++ e) ++ (10 ∷ []) ≡ a ++ (b ++ (c ++ (d ++ (e ++ (10 ∷ [])))))
regrouped_line a b c d e = simp append_assoc

pub packet_placed : (number : ℕ) (o : Outcome) → packet_line number o
    ≡ counted (codes "packet ") number ++ (codes " worker " ++ (decimal o.worker ++ (end_text o.verdict (length o.bytes) o.meta ++ (points_text o.points ++ (10 ∷ [])))))
unfolding packet_name counted
packet_placed number o = regrouped_line (codes "packet " ++ decimal number) (codes " worker ") (decimal o.worker) (end_text o.verdict (length o.bytes) o.meta) (points_text o.points)

pub outcome_told : (number : ℕ) (one other : Outcome) → one.worker < 2 ^ 64 → other.worker < 2 ^ 64 → AreShort one.points → AreShort other.points → packet_line number one ≡ packet_line number other → IsToldBy one other
outcome_told number one other small less short few is =
    let rest : Outcome → List ℕ = λ (o : Outcome). end_text o.verdict (length o.bytes) o.meta ++ (points_text o.points ++ (10 ∷ [])) in
    let first = append_cancel_left (counted (codes "packet ") number) (codes " worker " ++ (decimal one.worker ++ rest one)) (codes " worker " ++ (decimal other.worker ++ rest other))
    (sym (packet_placed number one) ∙ is ∙ packet_placed number other) in
    let second = append_cancel_left (codes " worker ") (decimal one.worker ++ rest one) (decimal other.worker ++ rest other) first in
    let both = number_split one.worker other.worker (rest one) (rest other) small less (end_low one.verdict (length one.bytes) one.meta (points_text one.points ++ (10 ∷ [])))
    (end_low other.verdict (length other.bytes) other.meta (points_text other.points ++ (10 ∷ []))) second in
    record {
      worker = both.0;
      points = points_told (end_text one.verdict (length one.bytes) one.meta) (end_text other.verdict (length other.bytes) other.meta) one.points other.points short few both.1;
    }
