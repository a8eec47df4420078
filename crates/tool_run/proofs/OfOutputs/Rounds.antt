-- Rounds whose outputs are put one after the other.
use Rattle.std.proofs.Common.{◌≡◌, ◌∙◌, ℕ, ◌+◌, ◌<◌, ◌≤◌, List, [], ◌∷◌, ◌++◌, length, drop, get_or, Option, refl, sym, ap, subst, arith}
use Rattle.std.proofs.lemmas.List.{drop_more, drop_all}
use Rattle.tc_base.specs.Outside.{Held}
use Rattle.pcap_io.specs.declared.capture.Capture.{Capture}
use Rattle.job_lines.specs.declared.job.Round.{Round}
use Rattle.run_report.specs.declared.rounds.RoundRecord.{RoundRecord}
use Rattle.lawful_runs.specs.Given.{capture_count}
use Rattle.tool_run.specs.OfOutputs.Outputs.{output_of, outputs_from}
use Rattle.tool_run.specs.OfOutputs.Puts.{ArePut, ArePutUpTo}
use Rattle.tool_run.specs.OfOutputs.Ready.{IsReady, AreReady}
use Rattle.tool_run.proofs.OfOutputs.Puts.{put_on, put_on_up_to, up_to_among}

-- as many records as rounds
pub each_recorded : (rounds : List Round) (captures : List Capture) (its : List RoundRecord)
    → AreReady rounds captures its → length rounds ≡ length its
each_recorded [] captures [] ready = refl
each_recorded [] captures (it ∷ its) ready = absurd ready
each_recorded (round ∷ rounds) captures [] ready = absurd ready
each_recorded (round ∷ rounds) captures (it ∷ its) ready =
    let rest = each_recorded rounds (drop (capture_count round.capture) captures) its ready.1 in
    omega (arith, rest)

-- what is left of a list from a place on
pub left_at : {X : Type 0} (xs : List X) (at : ℕ) (x : X) → at < length xs → get_or xs at x ≡ x
    → drop at xs ≡ x ∷ drop (at + 1) xs
left_at xs at x within is = drop_more xs at x within ∙ ap (λ first. first ∷ drop (at + 1) xs) is

-- ---- the first of the rounds that are left
-- a round with its record, and the rounds and records behind it
pub record IsNext (rounds after : List Round) (round : Round) (its its_after : List RoundRecord)
    (it : RoundRecord) : Type 0 where
  pub rounds_are : rounds ≡ round ∷ after
  pub its_are : its ≡ it ∷ its_after

pub next_at : (rounds : List Round) (its : List RoundRecord) (captures : List Capture) (at : ℕ) (round : Round)
    (it : RoundRecord) → AreReady rounds captures its → at < length rounds → get_or rounds at round ≡ round
    → get_or its at it ≡ it
    → IsNext (drop at rounds) (drop (at + 1) rounds) round (drop at its) (drop (at + 1) its) it
next_at rounds its captures at round it ready within round_is it_is =
    let same = each_recorded rounds captures its ready in
    let recorded : at < length its = omega (arith, same, within) in
    record {
      rounds_are = left_at rounds at round within round_is;
      its_are = left_at its at it recorded it_is;
    }

next_ready : (rounds after : List Round) (round : Round) (captures : List Capture)
    (its its_after : List RoundRecord) (it : RoundRecord) → IsNext rounds after round its its_after it
    → AreReady rounds captures its → AreReady (round ∷ after) captures (it ∷ its_after)
next_ready rounds after round captures its its_after it next ready =
    subst (AreReady (round ∷ after) captures) next.its_are
    (subst (λ (rs : List Round). AreReady rs captures its) next.rounds_are ready)

-- its output can be put
pub ready_now : (rounds after : List Round) (round : Round) (captures : List Capture)
    (its its_after : List RoundRecord) (it : RoundRecord) → IsNext rounds after round its its_after it
    → AreReady rounds captures its → IsReady round.capture captures it
ready_now rounds after round captures its its_after it next ready =
    (next_ready rounds after round captures its its_after it next ready).0

-- so can those of the rounds behind it
pub ready_then : (rounds after : List Round) (round : Round) (captures left : List Capture)
    (its its_after : List RoundRecord) (it : RoundRecord) → IsNext rounds after round its its_after it
    → left ≡ drop (capture_count round.capture) captures → AreReady rounds captures its
    → AreReady after left its_after
ready_then rounds after round captures left its its_after it next taken ready =
    subst (λ (cs : List Capture). AreReady after cs its_after) (sym taken)
    (next_ready rounds after round captures its its_after it next ready).1

-- what is put: its output, and then theirs
outputs_now : (rounds after : List Round) (round : Round) (captures : List Capture)
    (its its_after : List RoundRecord) (it : RoundRecord) → IsNext rounds after round its its_after it
    → outputs_from rounds captures its
    ≡ output_of round.capture captures it
    ++ outputs_from after (drop (capture_count round.capture) captures) its_after
outputs_now rounds after round captures its its_after it next =
    ap (λ (rs : List Round). outputs_from rs captures its) next.rounds_are
    ∙ ap (outputs_from (round ∷ after) captures) next.its_are

outputs_then : (rounds after : List Round) (round : Round) (captures left : List Capture)
    (its its_after : List RoundRecord) (it : RoundRecord) → IsNext rounds after round its its_after it
    → left ≡ drop (capture_count round.capture) captures
    → output_of round.capture captures it ++ outputs_from after left its_after
    ≡ outputs_from rounds captures its
outputs_then rounds after round captures left its its_after it next taken =
    ap (λ (cs : List Capture). output_of round.capture captures it ++ outputs_from after cs its_after) taken
    ∙ sym (outputs_now rounds after round captures its its_after it next)

-- ---- puts go on with the next round
pub put_next : (rounds after : List Round) (round : Round) (captures left : List Capture)
    (its its_after : List RoundRecord) (it : RoundRecord) (old between new : Option Held)
    → IsNext rounds after round its its_after it → left ≡ drop (capture_count round.capture) captures
    → ArePut old between (output_of round.capture captures it)
    → ArePut between new (outputs_from after left its_after) → ArePut old new (outputs_from rounds captures its)
put_next rounds after round captures left its its_after it old between new next taken put rest =
    subst (ArePut old new) (outputs_then rounds after round captures left its its_after it next taken)
    (put_on old between new (output_of round.capture captures it) (outputs_from after left its_after) put rest)

pub up_to_next : (rounds after : List Round) (round : Round) (captures left : List Capture)
    (its its_after : List RoundRecord) (it : RoundRecord) (old between new : Option Held)
    → IsNext rounds after round its its_after it → left ≡ drop (capture_count round.capture) captures
    → ArePut old between (output_of round.capture captures it)
    → ArePutUpTo between new (outputs_from after left its_after)
    → ArePutUpTo old new (outputs_from rounds captures its)
up_to_next rounds after round captures left its its_after it old between new next taken put rest =
    subst (ArePutUpTo old new) (outputs_then rounds after round captures left its its_after it next taken)
    (put_on_up_to old between new (output_of round.capture captures it) (outputs_from after left its_after) put
    rest)

-- or end with it
pub ends_next : (rounds after : List Round) (round : Round) (captures : List Capture)
    (its its_after : List RoundRecord) (it : RoundRecord) (old new : Option Held)
    → IsNext rounds after round its its_after it → ArePutUpTo old new (output_of round.capture captures it)
    → ArePutUpTo old new (outputs_from rounds captures its)
ends_next rounds after round captures its its_after it old new next put =
    subst (ArePutUpTo old new) (sym (outputs_now rounds after round captures its its_after it next))
    (up_to_among old new (output_of round.capture captures it)
    (outputs_from after (drop (capture_count round.capture) captures) its_after) put)

-- ---- no round is left
pub none_left : (rounds : List Round) (at : ℕ) (captures : List Capture) (its : List RoundRecord)
    → length rounds ≤ at → [] ≡ outputs_from (drop at rounds) captures its
none_left rounds at captures its past =
    sym (ap (λ (rs : List Round). outputs_from rs captures its) (drop_all at rounds past))
