-- The bytes of packets that passed, put one behind the other.
use Rattle.std.proofs.Common.{◌≡◌, ◌∙◌, ℕ, ◌+◌, ◌^◌, ◌<◌, ◌≤◌, Bool, true, false, ◌&&◌, nat_eq, List, [], ◌∷◌, ◌++◌, length, drop, Some, refl, sym, ap, subst, append-nil, append_assoc, arith}
use lib.Pointwise.{pointwise}
use Rattle.std.specs.List.{All, slice_get, flat_map}
use Rattle.std.proofs.lemmas.Bool.{eqb-true}
use Rattle.std.proofs.lemmas.List.{drop_more, drop_all, length-map}
use Rattle.std.proofs.lemmas.Option.{slice_get_within, get_or_from_slice_get, slice_get-map}
use Rattle.std.proofs.lemmas.Grind.{flat_map-append}
use Rattle.tc_base.specs.declared.hook.Hook.{Hook}
use Rattle.pcap_io.specs.declared.capture.Packet.{Packet}
use Rattle.pcap_io.specs.declared.capture.Capture.{Capture}
use Rattle.pcap_io.specs.Written.{packet_bytes}
use Rattle.std.specs.Option.{option_map}
use Rattle.walk_rules.specs.declared.verdict.Verdict.{Verdict}
use Rattle.walk_rules.specs.declared.verdict.Verdict.TheVariants as verdicts
use Rattle.walk_ends.specs.Passing.{regrown, passed_by}
use Rattle.run_report.specs.declared.outcomes.Outcome.{Outcome}
use Rattle.lawful_runs.specs.Given.{Arrival, arrivals_at}
use Rattle.lawful_runs.specs.Outcomes.{left_packet, passed_of}

-- ---- a packet whose frame stays
both : (a b : Bool) → (a && b) ≡ true → (a ≡ true) × (b ≡ true)
both true b is = (refl, is)
both false b is = absurd (cc is)

pub same_bytes : (xs ys : List ℕ) → pointwise nat_eq xs ys ≡ true → xs ≡ ys
same_bytes [] [] same = refl
same_bytes [] (y ∷ ys) same = absurd (cc same)
same_bytes (x ∷ xs) [] same = absurd (cc same)
same_bytes (x ∷ xs) (y ∷ ys) same =
    let each = both (nat_eq x y) (pointwise nat_eq xs ys) same in
    let first : x ≡ y = eqb-true x y each.0 in
    ap (λ (z : ℕ). z ∷ xs) first ∙ ap (λ (zs : List ℕ). y ∷ zs) (same_bytes xs ys each.1)

-- passes as it came
pub same_left : (packet : Packet) (outcome : Outcome) → packet.original < 2 ^ 32
    → outcome.bytes ≡ packet.bytes → left_packet packet outcome ≡ packet
same_left packet outcome fits same =
    let made : ℕ → List ℕ → Packet =
    λ original bytes. record {
      seconds = packet.seconds;
      fraction = packet.fraction;
      original = original;
      bytes = bytes;
    } in
    let original : regrown packet.original (length packet.bytes) (length outcome.bytes) ≡ packet.original =
    ap (λ (bytes : List ℕ). regrown packet.original (length packet.bytes) (length bytes)) same ∙ omega arith in
    ap (λ (original : ℕ). made original outcome.bytes) original ∙ ap (made packet.original) same

-- an item of a list that has each with P
pub held_at : {X : Type 0} (P : X → Type 0) (xs : List X) (at : ℕ) (x : X) → All P xs
    → slice_get xs at ≡ Some x → P x
held_at P xs at x each there =
    subst P (get_or_from_slice_get xs at x x there) (each at x (slice_get_within xs at x there))

-- ---- what is left from a place on
left_from : {X : Type 0} (xs : List X) (at : ℕ) (x : X) → slice_get xs at ≡ Some x
    → drop at xs ≡ x ∷ drop (at + 1) xs
left_from xs at x there =
    drop_more xs at x (slice_get_within xs at x there)
    ∙ ap (λ first. first ∷ drop (at + 1) xs) (get_or_from_slice_get xs at x x there)

-- the packets from a place on that passed
abbrev pub passed_from : Hook → Capture → List Outcome → ℕ → List Packet
passed_from hook capture outcomes at = passed_of (drop at (arrivals_at hook capture)) (drop at outcomes)

-- are the one of the place, if it passed, and those behind it
passed_at : (hook : Hook) (capture : Capture) (outcomes : List Outcome) (at : ℕ) (packet : Packet)
    (outcome : Outcome) → slice_get capture.packets at ≡ Some packet → slice_get outcomes at ≡ Some outcome
    → passed_from hook capture outcomes at
    ≡ passed_by outcome.verdict (left_packet packet outcome) ++ passed_from hook capture outcomes (at + 1)
passed_at hook capture outcomes at packet outcome came left =
    let come : Packet → Arrival = λ p. record { hook = hook; packet = p } in
    let arrival : slice_get (arrivals_at hook capture) at ≡ Some (come packet) =
    slice_get-map come capture.packets at ∙ ap (option_map come) came in
    ap (λ (arrivals : List Arrival). passed_of arrivals (drop at outcomes))
    (left_from (arrivals_at hook capture) at (come packet) arrival)
    ∙ ap (passed_of (come packet ∷ drop (at + 1) (arrivals_at hook capture)))
    (left_from outcomes at outcome left)

-- ---- the bytes so far, and those of the packets from a place on
abbrev pub with_rest : Hook → Capture → List Outcome → ℕ → List ℕ → List ℕ
with_rest hook capture outcomes at bytes =
    bytes ++ flat_map (packet_bytes capture.big) (passed_from hook capture outcomes at)

-- stay the same where the packet of the place was put, if it passed
pub passed_more : (hook : Hook) (capture of : Capture) (outcomes : List Outcome) (at : ℕ) (packet : Packet)
    (outcome : Outcome) (old new all : List ℕ) → slice_get capture.packets at ≡ Some packet
    → slice_get outcomes at ≡ Some outcome → of ≡ capture
    → new ≡ old ++ flat_map (packet_bytes of.big) (passed_by outcome.verdict (left_packet packet outcome))
    → with_rest hook capture outcomes at old ≡ all → with_rest hook capture outcomes (at + 1) new ≡ all
passed_more hook capture of outcomes at packet outcome old new all came left is put so_far =
    let bytes : List Packet → List ℕ = flat_map (packet_bytes capture.big) in
    let one = passed_by outcome.verdict (left_packet packet outcome) in
    let rest = passed_from hook capture outcomes (at + 1) in
    let put_here : new ≡ old ++ bytes one =
    subst (λ (c : Capture). new ≡ old ++ flat_map (packet_bytes c.big) one) is put in
    ap (λ (xs : List ℕ). xs ++ bytes rest) put_here
    ∙ append_assoc old (bytes one) (bytes rest)
    ∙ ap (λ (xs : List ℕ). old ++ xs) (sym (flat_map-append (packet_bytes capture.big) one rest))
    ∙ ap (λ (packets : List Packet). old ++ bytes packets)
    (sym (passed_at hook capture outcomes at packet outcome came left))
    ∙ so_far

-- and are the bytes alone where none is left
pub passed_all : (hook : Hook) (capture : Capture) (outcomes : List Outcome) (at count : ℕ)
    (bytes all : List ℕ) → count ≡ length capture.packets → count ≤ at
    → with_rest hook capture outcomes at bytes ≡ all → bytes ≡ all
passed_all hook capture outcomes at count bytes all is past so_far =
    let come : Packet → Arrival = λ p. record { hook = hook; packet = p } in
    let long = length-map capture.packets come in
    let none : drop at (arrivals_at hook capture) ≡ [] =
    drop_all at (arrivals_at hook capture) (omega (arith, long, is, past)) in
    sym (append-nil bytes)
    ∙ ap (λ (arrivals : List Arrival). bytes ++ flat_map (packet_bytes capture.big)
    (passed_of arrivals (drop at outcomes))) (sym none)
    ∙ so_far

-- one that is put as it came is put as its walk left it
pub kept_as_left : (big : Bool) (packet : Packet) (outcome : Outcome) (old new : List ℕ)
    → packet.original < 2 ^ 32 → outcome.verdict ≡ verdicts.Pass → outcome.bytes ≡ packet.bytes
    → new ≡ old ++ packet_bytes big packet
    → new ≡ old ++ flat_map (packet_bytes big) (passed_by outcome.verdict (left_packet packet outcome))
kept_as_left big packet outcome old new fits passes same kept =
    let one : passed_by outcome.verdict (left_packet packet outcome) ≡ packet ∷ [] =
    ap (λ (verdict : Verdict). passed_by verdict (left_packet packet outcome)) passes
    ∙ ap (λ (p : Packet). p ∷ []) (same_left packet outcome fits same) in
    kept
    ∙ ap (λ (bytes : List ℕ). old ++ bytes)
    (sym (ap (flat_map (packet_bytes big)) one ∙ append-nil (packet_bytes big packet)))
