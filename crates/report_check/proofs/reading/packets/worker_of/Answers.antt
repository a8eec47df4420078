use Rattle.std.proofs.Common.{◌≡◌, ◌∙◌, ℕ, List, ◌++◌, Some, ap}
use Rattle.std.specs.Prelude.{codes, drop}
use Rattle.std.specs.Fmt.{decimal}
use Rattle.report_laws.specs.OfLineCuts.Numbers.{Low}
use Rattle.report_check.specs.OfReading.Packets.{ShowsPoints}
use Rattle.report_check.proofs.OfReading.Reading.{same_pair, no_pair}
use Rattle.report_check.proofs.OfReading.PacketParts.{behind_worker, behind_low, behind_label, behind_word, word_low}
use Rattle.report_check.proofs.reading.packets.worker_of.Goals as goal

-- what follows ` worker `, from what was cut off before it
worker_there : (line first second rest : List ℕ) (number worker : ℕ) (points : List ℕ) → first ≡ drop 7 line
    → ((n : ℕ) (later : List ℕ) → Low later → first ≡ decimal n ++ later → rest ≡ later)
    → second ≡ drop 8 rest → (it : ShowsPoints line number worker points) → second ≡ decimal worker ++ behind_worker it.middle points
worker_there line first second rest number worker points is cut next it =
    let later : List ℕ = codes " worker " ++ (decimal worker ++ behind_worker it.middle points) in
    let after : rest ≡ later = cut number later (word_low (decimal worker ++ behind_worker it.middle points)) (is ∙ behind_label line number worker points it) in
    next ∙ ap (drop 8) after ∙ behind_word (decimal worker ++ behind_worker it.middle points)

pub returns-in_err-worker : goal.returns-in_err-worker
returns-in_err-worker c = λ number worker points it.
    let there = worker_there c.args.line.now c.behind.result.now c.behind-2.result.now c.cut_number.result.1.now number worker points c.behind.ensures
    (λ n later low is. (c.cut_number.ensures.cut n later low is).1) c.behind-2.ensures it in
    absurd (no_pair _ (c.in_err-worker.ensures.read worker (behind_worker it.middle points) it.worker_small (behind_low it.middle points) there))

pub returns : goal.returns
returns c = λ number worker points it.
    let there = worker_there c.args.line.now c.behind.result.now c.behind-2.result.now c.cut_number.result.1.now number worker points c.behind.ensures
    (λ n later low is. (c.cut_number.ensures.cut n later low is).1) c.behind-2.ensures it in
    ap (λ (n : ℕ). Some n) (same_pair _ _ _ _ (c.in_ok-worker.ensures.read worker (behind_worker it.middle points) it.worker_small (behind_low it.middle points) there)).0
