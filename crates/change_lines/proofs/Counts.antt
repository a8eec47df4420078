-- What is counted of events.
use Rattle.std.proofs.Common.{◌≡◌, ◌∙◌, ℕ, ◌+◌, ◌≤◌, Bool, true, false, List, [], ◌∷◌, ◌++◌, length, refl, sym, ap, arith}
use Rattle.std.specs.Prelude.{not, map, filter, if◌then◌else◌}
use Rattle.std.specs.List.{flat_map}
use Rattle.std.proofs.lemmas.List.Elements.{filter-append}
use Rattle.std.proofs.lemmas.List.{length-append, length-map}
use Rattle.std.proofs.lemmas.List.Sums.{length-filter}
use Rattle.walk_texts.specs.Texts.{joined}
use Rattle.journal_replay.specs.Passed.{Event}
use Rattle.journal_replay.specs.Passed.{EventKind}
use Rattle.journal_replay.specs.Passed.{is_accepted, accepted_count}
use Rattle.journal_replay.specs.Passed.{event_line, event_lines}
use Rattle.journal_replay.specs.Placed.{place_of, places_of}
use Rattle.change_lines.proofs.Lines.{event_lines_are}
use Rattle.change_lines.proofs.Lines.{lines_after-append}
use Rattle.change_lines.specs.Lines.{is_refused, refused_count, stops_at}

pub refused_append : (xs ys : List Event) → refused_count (xs ++ ys) ≡ refused_count xs + refused_count ys
refused_append xs ys =
    let all = length-filter is_refused (xs ++ ys) in
    let ones = length-filter is_refused xs in
    let others = length-filter is_refused ys in
    let split = ap length (filter-append is_refused xs ys) in
    let sum = length-append (filter is_refused xs) (filter is_refused ys) in
    omega (arith, all, ones, others, split, sum)

-- one event
abbrev pub one_refused : Bool → ℕ
one_refused accepted = if accepted then 0 else 1

by_kind : (accepted : Bool) (event : Event) → length (if not accepted then event ∷ [] else []) ≡ one_refused accepted
by_kind true event = refl
by_kind false event = refl

pub refused_one : (event : Event) → refused_count (event ∷ []) ≡ one_refused (is_accepted event.kind)
refused_one event = sym (length-filter is_refused (event ∷ [])) ∙ by_kind (is_accepted event.kind) event

pub accepted_none : (event : Event) → is_accepted event.kind ≡ false → accepted_count (event ∷ []) ≡ 0
accepted_none event refused =
    sym (length-filter (λ (e : Event). is_accepted e.kind) (event ∷ []))
    ∙ ap (λ (b : Bool). length (if b then event ∷ [] else [])) refused

-- no more than there are
pub refused_few : (events : List Event) → refused_count events ≤ length events
refused_few events = Rattle.std.proofs.lemmas.List.Sums.count_by-le-length is_refused events

pub accepted_few : (events : List Event) → accepted_count events ≤ length events
accepted_few events = Rattle.std.proofs.lemmas.List.Sums.count_by-le-length (λ (event : Event). is_accepted event.kind) events

-- each accepted edit has a place
pub places_counted : (events : List Event) → length (places_of events) ≡ accepted_count events
places_counted events =
    length-map (filter (λ (event : Event). is_accepted event.kind) events) place_of ∙ length-filter (λ (event : Event). is_accepted event.kind) events

-- ---- the lines
pub joined_push : (lines : List (List ℕ)) (line : List ℕ) → joined (lines ++ (line ∷ [])) ≡ joined lines ++ line
joined_push [] line = Rattle.std.proofs.Common.append-nil line
joined_push (first ∷ lines) line =
    ap (λ (text : List ℕ). first ++ text) (joined_push lines line) ∙ sym (Rattle.std.proofs.Common.append_assoc first (joined lines) line)

pub lines_push : (before : ℕ) (events : List Event) (event : Event) → event_lines before (events ++ (event ∷ [])) ≡ event_lines before events ++ (event_line (before + accepted_count events) event ∷ [])
lines_push before events event =
    event_lines_are before (events ++ (event ∷ [])) ∙ lines_after-append before events (event ∷ [])
    ∙ ap (λ (ls : List (List ℕ)). ls ++ (event_line (before + accepted_count events) event ∷ [])) (sym (event_lines_are before events))

-- the line at which a batch stops: it is the only one that was refused
pub stops_once : (before : ℕ) (events : List Event) (event : Event) → filter is_refused events ≡ [] → is_accepted event.kind ≡ false
    → stops_at before (events ++ (event ∷ [])) ≡ event_line before event ∷ []
stops_once before events event none refused =
    ap (map (event_line before)) (filter-append is_refused events (event ∷ [])
    ∙ ap (λ (es : List Event). es ++ filter is_refused (event ∷ [])) none
    ∙ ap (λ (b : Bool). if not b then event ∷ [] else []) refused)

pub stops_never : (before : ℕ) (events : List Event) → filter is_refused events ≡ [] → joined (stops_at before events) ≡ []
stops_never before events none = ap (λ (es : List Event). joined (map (event_line before) es)) none

pub none_more : (events : List Event) (event : Event) → filter is_refused events ≡ [] → is_accepted event.kind ≡ true → filter is_refused (events ++ (event ∷ [])) ≡ []
none_more events event none accepted =
    filter-append is_refused events (event ∷ [])
    ∙ ap (λ (es : List Event). es ++ filter is_refused (event ∷ [])) none
    ∙ ap (λ (b : Bool). if not b then event ∷ [] else []) accepted
