-- The captures of a job, and the packets of a round.
use Rattle.std.proofs.Common.{◌≡◌, ◌∙◌, ℕ, zero, suc, ◌+◌, ◌<◌, ◌≤◌, List, [], ◌∷◌, length, map, take, drop, get_or, Option, Some, None, refl, sym, ap, subst, arith}
use Rattle.std.specs.Prelude.{slice_get, sum_by}
use Rattle.std.proofs.lemmas.List.Sums.{sum_by-cons}
use Rattle.pcap_io.specs.declared.capture.Packet.{Packet}
use Rattle.pcap_io.specs.declared.capture.Capture.{Capture}
use Rattle.pcap_io.specs.Captures.{AreShort}
use Rattle.job_lines.specs.declared.job.CaptureName.{CaptureName}
use Rattle.job_lines.specs.declared.job.Round.{Round}
use Rattle.lawful_runs.specs.declared.loaded.LoadedJob.{LoadedJob}
use Rattle.lawful_runs.specs.Given.{GivenRound, IsLoaded, given_batches, given_arrivals, capture_count, captures_named, packet_count, rounds_from, given_rounds}

-- ---- sums over the first of a list
taken_more : {X : Type 0} (f : X → ℕ) (xs : List X) (k : ℕ) (x : X) → slice_get xs k ≡ Some x → sum_by f (take (k + 1) xs) ≡ sum_by f (take k xs) + f x
taken_more f [] k x is = absurd (cc is)
taken_more f (first ∷ xs) zero x is =
    let same : first ≡ x = cc in
    let one = sum_by-cons f first [] in
    let none : sum_by f [] ≡ 0 = refl in
    let value = ap f same in
    omega (arith, one, none, value)
taken_more f (first ∷ xs) (suc k) x is =
    let more : suc k + 1 ≡ suc (k + 1) = omega arith in
    let rest = taken_more f xs k x is in
    let a = sum_by-cons f first (take (k + 1) xs) in
    let b = sum_by-cons f first (take k xs) in
    let whole = ap (λ (n : ℕ). sum_by f (take n (first ∷ xs))) more in
    omega (arith, rest, a, b, whole)

taken_within : {X : Type 0} (f : X → ℕ) (xs : List X) (k : ℕ) → sum_by f (take k xs) ≤ sum_by f xs
taken_within f [] zero = omega arith
taken_within f [] (suc k) = omega arith
taken_within f (first ∷ xs) zero = omega arith
taken_within f (first ∷ xs) (suc k) =
    let rest = taken_within f xs k in
    let a = sum_by-cons f first (take k xs) in
    let b = sum_by-cons f first xs in
    omega (arith, rest, a, b)

pub captures_next : (rounds : List Round) (k : ℕ) (round : Round) → slice_get rounds k ≡ Some round → captures_named (take (k + 1) rounds) ≡ captures_named (take k rounds) + capture_count round.capture
captures_next rounds k round is = taken_more (λ (r : Round). capture_count r.capture) rounds k round is

pub packets_next : (captures : List Capture) (n : ℕ) (capture : Capture) → slice_get captures n ≡ Some capture → packet_count (take (n + 1) captures) ≡ packet_count (take n captures) + length capture.packets
packets_next captures n capture is = taken_more (λ (c : Capture). length c.packets) captures n capture is

pub packets_within : (captures : List Capture) (n : ℕ) → packet_count (take n captures) ≤ packet_count captures
packets_within captures n = taken_within (λ (c : Capture). length c.packets) captures n

pub capture_within : (loaded : LoadedJob) (k : ℕ) (round : Round) (name : CaptureName) → IsLoaded loaded → slice_get loaded.job.rounds k ≡ Some round → round.capture ≡ Some name → captures_named (take k loaded.job.rounds) < length loaded.captures
capture_within loaded k round name is there named =
    let more = captures_next loaded.job.rounds k round there in
    let own = ap capture_count named in
    let all = taken_within (λ (r : Round). capture_count r.capture) loaded.job.rounds (k + 1) in
    let many = is.captures in
    omega (arith, more, own, all, many)

-- ---- the packets of a round
nothing : (X : Type 0) (k : ℕ) → ◌≡◌ {A = List X} (drop k []) []
nothing X zero = refl
nothing X (suc k) = refl

drop_more : {X : Type 0} (n m : ℕ) (xs : List X) → drop n (drop m xs) ≡ drop (m + n) xs
drop_more n zero xs = let same : n ≡ zero + n = omega arith in ap (λ (k : ℕ). drop k xs) same
drop_more {X = X} n (suc m) [] = nothing X n ∙ sym (nothing X (suc m + n))
drop_more n (suc m) (x ∷ xs) = let same : suc (m + n) ≡ suc m + n = omega arith in drop_more n m xs ∙ ap (λ (k : ℕ). drop k (x ∷ xs)) same

arrivals_from : (rounds : List Round) (files : List (List ℕ)) (captures : List Capture) (k : ℕ) (round : Round) (given : GivenRound) → slice_get rounds k ≡ Some round → slice_get (rounds_from rounds files captures) k ≡ Some given
    → given.arrivals ≡ given_arrivals round.capture (drop (captures_named (take k rounds)) captures)
arrivals_from [] files captures k round given is there = absurd (cc is)
arrivals_from (first ∷ rounds) files captures zero round given is there =
    let same : first ≡ round = cc in
    let here : GivenRound = record { batches = given_batches first.batches files; arrivals = given_arrivals first.capture captures } in
    let one : here ≡ given = cc there in
    sym (ap (λ (g : GivenRound). g.arrivals) one) ∙ ap (λ (r : Round). given_arrivals r.capture captures) same
arrivals_from (first ∷ rounds) files captures (suc k) round given is there =
    let rest = arrivals_from rounds (drop (length first.batches) files) (drop (capture_count first.capture) captures) k round given is there in
    let sum : captures_named (take (suc k) (first ∷ rounds)) ≡ capture_count first.capture + captures_named (take k rounds) = sum_by-cons (λ (r : Round). capture_count r.capture) first (take k rounds) in
    rest ∙ ap (given_arrivals round.capture) (drop_more (captures_named (take k rounds)) (capture_count first.capture) captures ∙ ap (λ (n : ℕ). drop n captures) (sym sum))

pub arrivals_none : (loaded : LoadedJob) (k : ℕ) (round : Round) (given : GivenRound) → slice_get loaded.job.rounds k ≡ Some round → slice_get (given_rounds loaded) k ≡ Some given → round.capture ≡ None → given.arrivals ≡ []
arrivals_none loaded k round given is there none =
    arrivals_from loaded.job.rounds loaded.batches loaded.captures k round given is there
    ∙ ap (λ (c : Option CaptureName). given_arrivals c (drop (captures_named (take k loaded.job.rounds)) loaded.captures)) none

drop_at : {X : Type 0} (xs : List X) (n : ℕ) (x : X) → slice_get xs n ≡ Some x → drop n xs ≡ x ∷ drop (n + 1) xs
drop_at [] n x is = absurd (cc is)
drop_at {X = X} (first ∷ xs) zero x is = let same : first ≡ x = cc in ap (λ (y : X). y ∷ xs) same
drop_at (first ∷ xs) (suc n) x is = let same : suc (n + 1) ≡ suc n + 1 = omega arith in drop_at xs n x is ∙ ap (λ (k : ℕ). x ∷ drop k (first ∷ xs)) same

pub arrivals_some : (loaded : LoadedJob) (k : ℕ) (round : Round) (given : GivenRound) (name : CaptureName) (capture : Capture) → slice_get loaded.job.rounds k ≡ Some round → slice_get (given_rounds loaded) k ≡ Some given → round.capture ≡ Some name
    → slice_get loaded.captures (captures_named (take k loaded.job.rounds)) ≡ Some capture → given.arrivals ≡ map (λ (p : Packet). record { hook = name.hook; packet = p }) capture.packets
arrivals_some loaded k round given name capture is there named held =
    let n = captures_named (take k loaded.job.rounds) in
    arrivals_from loaded.job.rounds loaded.batches loaded.captures k round given is there
    ∙ ap (λ (c : Option CaptureName). given_arrivals c (drop n loaded.captures)) named
    ∙ ap (given_arrivals (Some name)) (drop_at loaded.captures n capture held)

-- ---- the round at a place
pub given_there : (rounds : List Round) (files : List (List ℕ)) (captures : List Capture) (k : ℕ) (round : Round) → slice_get rounds k ≡ Some round → (given : GivenRound) × (slice_get (rounds_from rounds files captures) k ≡ Some given)
given_there [] files captures k round is = absurd (cc is)
given_there (first ∷ rounds) files captures zero round is = (record { batches = given_batches first.batches files; arrivals = given_arrivals first.capture captures }, refl)
given_there (first ∷ rounds) files captures (suc k) round is = given_there rounds (drop (length first.batches) files) (drop (capture_count first.capture) captures) k round is

pub given_end : (rounds : List Round) (files : List (List ℕ)) (captures : List Capture) → slice_get (rounds_from rounds files captures) (length rounds) ≡ None
given_end [] files captures = refl
given_end (first ∷ rounds) files captures = given_end rounds (drop (length first.batches) files) (drop (capture_count first.capture) captures)

-- ---- the capture of a round
pub got_is : {X : Type 0} (xs : List X) (n : ℕ) (x d : X) → slice_get xs n ≡ Some x → get_or xs n d ≡ x
got_is [] n x d is = absurd (cc is)
got_is (first ∷ xs) zero x d is = cc is
got_is (first ∷ xs) (suc n) x d is = got_is xs n x d is

pub got_within : {X : Type 0} (xs : List X) (n : ℕ) (x : X) → slice_get xs n ≡ Some x → n < length xs
got_within [] n x is = absurd (cc is)
got_within (first ∷ xs) zero x is = omega arith
got_within (first ∷ xs) (suc n) x is = let rest = got_within xs n x is in omega (arith, rest)

pub short_packets : (loaded : LoadedJob) (n : ℕ) (capture : Capture) → IsLoaded loaded → slice_get loaded.captures n ≡ Some capture → AreShort capture.packets
short_packets loaded n capture is held =
    subst (λ (c : Capture). AreShort c.packets) (got_is loaded.captures n capture capture held) (is.frames n capture (got_within loaded.captures n capture held))

pub few_packets : (loaded : LoadedJob) (n told : ℕ) (capture : Capture) → IsLoaded loaded → slice_get loaded.captures n ≡ Some capture → told ≡ packet_count (take n loaded.captures) → told + length capture.packets ≤ 1048576
few_packets loaded n told capture is held count =
    let next = packets_next loaded.captures n capture held in
    let all = packets_within loaded.captures (n + 1) in
    let few : packet_count loaded.captures ≤ 1048576 = is.packets in
    omega (arith, next, all, few, count)

-- ---- few captures
pub count_most : (c : Option CaptureName) → capture_count c ≤ 1
count_most None = omega arith
count_most (Some name) = omega arith

pub captures_few : (rounds : List Round) (k : ℕ) → captures_named (take k rounds) ≤ k
captures_few [] zero = omega arith
captures_few [] (suc k) = omega arith
captures_few (first ∷ rounds) zero = omega arith
captures_few (first ∷ rounds) (suc k) =
    let rest = captures_few rounds k in
    let one = count_most first.capture in
    let sum = sum_by-cons (λ (r : Round). capture_count r.capture) first (take k rounds) in
    omega (arith, rest, one, sum)
