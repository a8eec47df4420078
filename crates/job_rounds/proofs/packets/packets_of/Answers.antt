use Rattle.std.proofs.Common.{◌≡◌, ◌∙◌, ◌-◌, ◌+◌, ℕ, List, length, ap, sym, subst, arith, drop, get_or}
use Rattle.tc_base.specs.declared.hook.Hook.TheVariants as hooks
use Rattle.pcap_io.specs.declared.capture.Capture.{Capture}
use Rattle.pcap_io.specs.declared.capture.Packet.{Packet}
use Rattle.pcap_io.specs.Captures.{AreShort}
use Rattle.job_lines.specs.declared.job.Round.{Round}
use Rattle.lawful_runs.specs.Given.{given_arrivals}
use Rattle.worker_rounds.specs.Worked.{arrivals_of}
use Rattle.job_rounds.specs.Left.{packets_left}
use Rattle.job_rounds.proofs.RoundPackets.{arrivals_from, some_arrivals, no_arrivals, some_within, some_left, none_left}
use Rattle.job_rounds.proofs.packets.packets_of.Goals as goal

-- the capture that the code looks at is the job's
here : (old new : List Capture) (at : ℕ) (e : Capture) → new ≡ old → get_or old at e ≡ get_or new at e
here old new at e same = ap (λ (cs : List Capture). get_or cs at e) (sym same)

pub returns-in-Some-clause-arrivals : goal.returns-in-Some-clause-arrivals
returns-in-Some-clause-arrivals c = λ given is.
    let job = c.args.job.now in
    let d = c.index-as_slice-number.result in
    let e = c.index-as_slice-before.result in
    let named = ap (λ (rs : List Round). (get_or rs (c.args.number - 1) d).capture) (sym c.as_slice.ensures) ∙ c.in-Some.is in
    let within = some_within job.job.rounds (c.args.number - 1) d c.in-Some.capture (omega arith) named in
    arrivals_from job.job.rounds job.batches job.captures (c.args.number - 1) d given (omega arith) is
    ∙ ap (λ (n : ℕ). given_arrivals (get_or job.job.rounds (c.args.number - 1) d).capture (drop n job.captures)) (sym c.requires.before)
    ∙ some_arrivals _ c.in-Some.capture job.captures c.args.before e named (omega (arith, within, c.requires.before, c.requires.loaded.captures))
    ∙ ap (λ (capture : Capture). arrivals_of c.in-Some.capture.hook capture.packets) (here job.captures c.as_slice-in-Some.result.now c.args.before e c.as_slice-in-Some.ensures)

pub returns-in-Some-clause-short : goal.returns-in-Some-clause-short
returns-in-Some-clause-short c =
    let job = c.args.job.now in
    let d = c.index-as_slice-number.result in
    let e = c.index-as_slice-before.result in
    let named = ap (λ (rs : List Round). (get_or rs (c.args.number - 1) d).capture) (sym c.as_slice.ensures) ∙ c.in-Some.is in
    let within = some_within job.job.rounds (c.args.number - 1) d c.in-Some.capture (omega arith) named in
    subst (λ (capture : Capture). AreShort capture.packets) (here job.captures c.as_slice-in-Some.result.now c.args.before e c.as_slice-in-Some.ensures)
    (c.requires.loaded.frames c.args.before e (omega (arith, within, c.requires.before, c.requires.loaded.captures)))

pub returns-in-Some-clause-left : goal.returns-in-Some-clause-left
returns-in-Some-clause-left c =
    let job = c.args.job.now in
    let d = c.index-as_slice-number.result in
    let e = c.index-as_slice-before.result in
    let named = ap (λ (rs : List Round). (get_or rs (c.args.number - 1) d).capture) (sym c.as_slice.ensures) ∙ c.in-Some.is in
    some_left job c.args.number d e c.in-Some.capture c.requires.loaded (omega arith) (omega arith) named
    ∙ ap (λ (n : ℕ). length (get_or job.captures n e).packets + packets_left job c.args.number) (sym c.requires.before)
    ∙ ap (λ (capture : Capture). length capture.packets + packets_left job c.args.number) (here job.captures c.as_slice-in-Some.result.now c.args.before e c.as_slice-in-Some.ensures)

pub returns-in-None-clause-arrivals : goal.returns-in-None-clause-arrivals
returns-in-None-clause-arrivals c = λ given is.
    let job = c.args.job.now in
    let d = c.index-as_slice-number.result in
    arrivals_from job.job.rounds job.batches job.captures (c.args.number - 1) d given (omega arith) is
    ∙ no_arrivals _ _ (ap (λ (rs : List Round). (get_or rs (c.args.number - 1) d).capture) (sym c.as_slice.ensures) ∙ c.in-None.is)
    ∙ ap (arrivals_of hooks.Ingress) (sym c.requires.none)

pub returns-in-None-clause-left : goal.returns-in-None-clause-left
returns-in-None-clause-left c =
    let job = c.args.job.now in
    let d = c.index-as_slice-number.result in
    let left = none_left job c.args.number d (omega arith) (omega arith) (ap (λ (rs : List Round). (get_or rs (c.args.number - 1) d).capture) (sym c.as_slice.ensures) ∙ c.in-None.is) in
    let none = ap (λ (packets : List Packet). length packets) c.requires.none in
    omega (arith, left, none)
