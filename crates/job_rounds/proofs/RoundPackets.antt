-- The packets of a round of a job.
use Rattle.std.proofs.Common.{◌≡◌, ◌∙◌, ℕ, zero, suc, ◌+◌, ◌-◌, ◌<◌, ◌≤◌, List, [], ◌∷◌, ◌++◌, length, take, drop, get_or, Option, Some, None, refl, sym, ap, arith}
use Rattle.std.specs.List.{slice_get}
use Rattle.std.proofs.lemmas.List.{drop-drop, drop_more}
use Rattle.std.proofs.lemmas.List.Sums.{sum_by-cons}
use Rattle.pcap_io.specs.declared.capture.Capture.{Capture}
use Rattle.job_lines.specs.declared.job.CaptureName.{CaptureName}
use Rattle.job_lines.specs.declared.job.Round.{Round}
use Rattle.lawful_runs.specs.declared.loaded.LoadedJob.{LoadedJob}
use Rattle.lawful_runs.specs.Given.{GivenRound, capture_count, captures_named, packet_count, given_arrivals, rounds_from, IsLoaded}
use Rattle.worker_rounds.specs.Worked.{arrivals_of}
use Rattle.job_rounds.specs.Left.{packets_left}

-- they are those of the capture that stands behind the captures of the rounds before
pub arrivals_from : (rounds : List Round) (files : List (List ℕ)) (captures : List Capture) (at : ℕ) (d : Round) (given : GivenRound) → at < length rounds
    → slice_get (rounds_from rounds files captures) at ≡ Some given → given.arrivals ≡ given_arrivals (get_or rounds at d).capture (drop (captures_named (take at rounds)) captures)
arrivals_from [] files captures at d given less is = absurd (omega (arith, less))
arrivals_from (round ∷ rounds) files captures zero d given less is = sym (let same : given_arrivals round.capture captures ≡ given.arrivals = cc in same)
arrivals_from (round ∷ rounds) files captures (suc at) d given less is =
    let many : captures_named (round ∷ take at rounds) ≡ capture_count round.capture + captures_named (take at rounds) = sum_by-cons (λ (r : Round). capture_count r.capture) round (take at rounds) in
    arrivals_from rounds (drop (length round.batches) files) (drop (capture_count round.capture) captures) at d given (omega (arith, less)) is
    ∙ ap (given_arrivals (get_or rounds at d).capture) (drop-drop (captures_named (take at rounds)) (capture_count round.capture) captures ∙ ap (λ (n : ℕ). drop n captures) (sym many))

pub some_arrivals : (capture : Option CaptureName) (name : CaptureName) (captures : List Capture) (before : ℕ) (d : Capture) → capture ≡ Some name → before < length captures
    → given_arrivals capture (drop before captures) ≡ arrivals_of name.hook (get_or captures before d).packets
some_arrivals capture name captures before d is less =
    ap (λ (c : Option CaptureName). given_arrivals c (drop before captures)) is ∙ ap (given_arrivals (Some name)) (drop_more captures before d less)

pub no_arrivals : (capture : Option CaptureName) (captures : List Capture) → capture ≡ None → given_arrivals capture captures ≡ []
no_arrivals capture captures is = ap (λ (c : Option CaptureName). given_arrivals c captures) is

-- a round with a capture isn't behind all captures
captures_taken : (rounds : List Round) (at : ℕ) (d : Round) → at < length rounds → captures_named (take at rounds) + capture_count (get_or rounds at d).capture ≡ captures_named (take (suc at) rounds)
captures_taken [] at d less = absurd (omega (arith, less))
captures_taken (round ∷ rounds) zero d less = let a = sum_by-cons (λ (r : Round). capture_count r.capture) round [] in omega (arith, a)
captures_taken (round ∷ rounds) (suc at) d less =
    let rest = captures_taken rounds at d (omega (arith, less)) in
    let a = sum_by-cons (λ (r : Round). capture_count r.capture) round (take at rounds) in
    let b = sum_by-cons (λ (r : Round). capture_count r.capture) round (take (suc at) rounds) in
    omega (arith, rest, a, b)

taken_most : (rounds : List Round) (at : ℕ) → captures_named (take at rounds) ≤ captures_named rounds
taken_most [] zero = omega arith
taken_most [] (suc at) = omega arith
taken_most (round ∷ rounds) zero = omega arith
taken_most (round ∷ rounds) (suc at) =
    let rest = taken_most rounds at in
    let a = sum_by-cons (λ (r : Round). capture_count r.capture) round (take at rounds) in
    let b = sum_by-cons (λ (r : Round). capture_count r.capture) round rounds in
    omega (arith, rest, a, b)

one_counted : (capture : Option CaptureName) (name : CaptureName) → capture ≡ Some name → capture_count capture ≡ 1
one_counted capture name is = ap capture_count is

none_counted : (capture : Option CaptureName) → capture ≡ None → capture_count capture ≡ 0
none_counted capture is = ap capture_count is

pub some_further : (rounds : List Round) (at : ℕ) (d : Round) (name : CaptureName) → at < length rounds → (get_or rounds at d).capture ≡ Some name → captures_named (take at rounds) + 1 ≡ captures_named (take (at + 1) rounds)
some_further rounds at d name less is =
    let one = one_counted (get_or rounds at d).capture name is in
    let more = captures_taken rounds at d less in
    let next : at + 1 ≡ suc at = omega arith in
    let count : captures_named (take at rounds) + 1 ≡ captures_named (take (suc at) rounds) = omega (arith, one, more) in
    count ∙ ap (λ (n : ℕ). captures_named (take n rounds)) (sym next)

pub none_further : (rounds : List Round) (at : ℕ) (d : Round) → at < length rounds → (get_or rounds at d).capture ≡ None → captures_named (take at rounds) ≡ captures_named (take (at + 1) rounds)
none_further rounds at d less is =
    let none = none_counted (get_or rounds at d).capture is in
    let more = captures_taken rounds at d less in
    let next : at + 1 ≡ suc at = omega arith in
    let count : captures_named (take at rounds) ≡ captures_named (take (suc at) rounds) = omega (arith, none, more) in
    count ∙ ap (λ (n : ℕ). captures_named (take n rounds)) (sym next)

pub some_within : (rounds : List Round) (at : ℕ) (d : Round) (name : CaptureName) → at < length rounds → (get_or rounds at d).capture ≡ Some name → captures_named (take at rounds) < captures_named rounds
some_within rounds at d name less is =
    let next = some_further rounds at d name less is in
    let most = taken_most rounds (at + 1) in
    omega (arith, next, most)

-- ---- how many are left
-- the first of some captures, and the others
one_less : (captures : List Capture) (before : ℕ) (d : Capture) → before < length captures → packet_count (drop before captures) ≡ length (get_or captures before d).packets + packet_count (drop (before + 1) captures)
one_less captures before d less =
    ap packet_count (drop_more captures before d less) ∙ sum_by-cons (λ (capture : Capture). length capture.packets) (get_or captures before d) (drop (before + 1) captures)

pub some_left : (loaded : LoadedJob) (number : ℕ) (d : Round) (e : Capture) (name : CaptureName) → IsLoaded loaded → 1 ≤ number → number ≤ length loaded.job.rounds → (get_or loaded.job.rounds (number - 1) d).capture ≡ Some name
    → packets_left loaded (number - 1) ≡ length (get_or loaded.captures (captures_named (take (number - 1) loaded.job.rounds)) e).packets + packets_left loaded number
some_left loaded number d e name is first last named =
    let rounds = loaded.job.rounds in
    let less : number - 1 < length rounds = omega (arith, first, last) in
    let within = some_within rounds (number - 1) d name less named in
    let further = some_further rounds (number - 1) d name less named in
    let next : number - 1 + 1 ≡ number = omega (arith, first) in
    let many = is.captures in
    one_less loaded.captures (captures_named (take (number - 1) rounds)) e (omega (arith, within, many))
    ∙ ap (λ (n : ℕ). length (get_or loaded.captures (captures_named (take (number - 1) rounds)) e).packets + packet_count (drop n loaded.captures))
    (further ∙ ap (λ (n : ℕ). captures_named (take n rounds)) next)

pub none_left : (loaded : LoadedJob) (number : ℕ) (d : Round) → 1 ≤ number → number ≤ length loaded.job.rounds → (get_or loaded.job.rounds (number - 1) d).capture ≡ None
    → packets_left loaded (number - 1) ≡ packets_left loaded number
none_left loaded number d first last named =
    let rounds = loaded.job.rounds in
    let less : number - 1 < length rounds = omega (arith, first, last) in
    let further = none_further rounds (number - 1) d less named in
    let next : number - 1 + 1 ≡ number = omega (arith, first) in
    ap (λ (n : ℕ). packet_count (drop n loaded.captures)) (further ∙ ap (λ (n : ℕ). captures_named (take n rounds)) next)

drop_most : (captures : List Capture) (n : ℕ) → packet_count (drop n captures) ≤ packet_count captures
drop_most [] zero = omega arith
drop_most [] (suc n) = omega arith
drop_most (capture ∷ captures) zero = omega arith
drop_most (capture ∷ captures) (suc n) =
    let rest = drop_most captures n in
    let all = sum_by-cons (λ (c : Capture). length c.packets) capture captures in
    omega (arith, rest, all)

pub left_most : (loaded : LoadedJob) (rounds : ℕ) → packets_left loaded rounds ≤ packet_count loaded.captures
left_most loaded rounds = drop_most loaded.captures (captures_named (take rounds loaded.job.rounds))

one_at_most : (capture : Option CaptureName) → capture_count capture ≤ 1
one_at_most None = omega arith
one_at_most (Some name) = omega arith

pub few_captures : (rounds : List Round) → captures_named rounds ≤ length rounds
few_captures [] = omega arith
few_captures (round ∷ rounds) =
    let rest = few_captures rounds in
    let one = one_at_most round.capture in
    let all = sum_by-cons (λ (r : Round). capture_count r.capture) round rounds in
    omega (arith, rest, one, all)

-- ---- the round itself
pub given_there : (rounds : List Round) (files : List (List ℕ)) (captures : List Capture) (at : ℕ) → at < length rounds → (given : GivenRound) × (slice_get (rounds_from rounds files captures) at ≡ Some given)
given_there [] files captures at less = absurd (omega (arith, less))
given_there (round ∷ rounds) files captures zero less = (_, refl)
given_there (round ∷ rounds) files captures (suc at) less =
    given_there rounds (drop (length round.batches) files) (drop (capture_count round.capture) captures) at (omega (arith, less))

pub one_taken : {X : Type 0} (xs : List X) (at : ℕ) (x : X) → slice_get xs at ≡ Some x → take (suc at) xs ≡ take at xs ++ x ∷ []
one_taken [] at x is = absurd (cc is)
one_taken (y ∷ xs) zero x is = (let same : y ≡ x = cc is in ap (λ (z : _). z ∷ []) same)
one_taken (y ∷ xs) (suc at) x is = ap (λ (zs : List _). y ∷ zs) (one_taken xs at x is)
