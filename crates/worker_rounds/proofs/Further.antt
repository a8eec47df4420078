-- One packet more of a worker's round.
use Rattle.std.proofs.Common.{◌≡◌, ◌∙◌, ℕ, zero, suc, ◌+◌, ◌≤◌, ◌<◌, List, [], ◌∷◌, ◌++◌, length, Some, Ok, Err, refl, sym, ap, subst, inl, inr, arith}
use Rattle.std.specs.Prelude.{All, min, Result, OnOk}
use Rattle.std.specs.List.{slice_get, AllByRecursion}
use Rattle.std.proofs.lemmas.List.{length-append, get_or-append-add}
use Rattle.std.proofs.lemmas.List.Elements.{All-get_or}
use Rattle.std.proofs.lemmas.Option.{slice_get_within, get_or_from_slice_get}
use mathlib.Core.List.{IsPrefix}
use Rattle.tc_base.specs.declared.hook.Hook.{Hook}
use Rattle.store_history.proofs.Histories.{prefix_self, prefix_trans}
use Rattle.pin_store.specs.Calls.{seen_by, number_of, pin_of}
use Rattle.filter_state.specs.declared.edit.Edit.{Edit}
use Rattle.filter_state.proofs.Pairs.{each_weaker}
use Rattle.pcap_io.specs.declared.capture.Packet.{Packet}
use Rattle.pcap_io.specs.Captures.{AreShort}
use Rattle.walk_rules.proofs.OfPoints.Pushing.{at_push}
use Rattle.walk_steps.specs.Walking.{Walking}
use Rattle.lawful_runs.specs.Given.{Arrival}
use Rattle.lawful_runs.specs.Outcomes.{IsWalked}
use Rattle.lawful_runs.specs.OfLogs.Logs.{LogRow, ArePointsTo, IsRowAt}
use Rattle.hook_reader.specs.Seats.{HookSeat}
use Rattle.worker_rounds.specs.OfWalks.Walked.{journal_of, IsWalkedBy}
use Rattle.worker_rounds.proofs.OfWalks.Reading.{edits_prefix}
use Rattle.step_counts.specs.Drawn.{IsDrawnTo}
use Rattle.step_counts.specs.Seats.{Holding, with_deed}
use Rattle.worker_rounds.specs.OfLogs.Rows.{numbers_of, AreBelow}
use Rattle.worker_rounds.specs.Worked.{arrivals_of, visits_after, HasDrawn, IsWorked}

-- ---- packets
pub arrival_at : (hook : Hook) (packets : List Packet) (number : ℕ) (packet : Packet) → slice_get packets number ≡ Some packet
    → slice_get (arrivals_of hook packets) number ≡ Some (record { hook = hook; packet = packet })
arrival_at hook [] number packet is = absurd (cc is)
arrival_at hook (first ∷ packets) zero packet is =
    let same : first ≡ packet = cc is in ap (λ (p : Packet). Some (record { hook = hook; packet = p })) same
arrival_at hook (first ∷ packets) (suc number) packet is = arrival_at hook packets number packet is

pub short_at : (packets : List Packet) (number : ℕ) (packet : Packet) → AreShort packets → slice_get packets number ≡ Some packet → length packet.bytes ≤ 262144
short_at packets number packet short is =
    subst (λ (p : Packet). length p.bytes ≤ 262144) (get_or_from_slice_get packets number packet packet is)
    (All-get_or (λ (p : Packet). length p.bytes ≤ 262144) packets number packet (slice_get_within packets number packet is) short)

-- ---- rows
-- a row among more rows, over a longer journal
row_kept : (worker start : ℕ) (old new : List Edit) (arrivals : List Arrival) (rows : List LogRow) (last : LogRow) (at : ℕ) (it : LogRow) → IsPrefix old new
    → slice_get rows at ≡ Some it → IsRowAt worker start old arrivals rows at it → IsRowAt worker start new arrivals (rows ++ last ∷ []) at it
row_kept worker start old new arrivals rows last at it longer is own = record {
  arrival = own.arrival;
  there = own.there;
  seen = own.seen;
  beginning = prefix_trans own.seen old new own.beginning longer;
  floor = own.floor;
  walked = own.walked;
  by = own.by;
  least = own.least;
  behind = λ early other less there. elim (at_push rows last early other there) [
    | inl before ↦ own.behind early other less before
    | inr final ↦ (let inside = slice_get_within rows at it is in let e = final.0 in absurd (omega (arith, less, inside, e)))
  ];
}

-- the row of a walk behind all others
new_row : (worker : ℕ) (arrivals : List Arrival) (first old new : HookSeat) (rows : List LogRow) (last : LogRow) (arrival : Arrival) → IsWorked worker arrivals first old rows
    → slice_get arrivals last.number ≡ Some arrival → IsWalked (journal_of new) old.latest (length (journal_of new)) arrival last.outcome → last.outcome.worker ≡ worker → AreBelow last.number rows
    → IsRowAt worker first.latest (journal_of new) arrivals (rows ++ last ∷ []) (length rows) last
new_row worker arrivals first old new rows last arrival it there walked by below = record {
  arrival = arrival;
  there = there;
  seen = journal_of new;
  beginning = prefix_self (journal_of new);
  floor = old.latest;
  walked = walked;
  by = by;
  least = it.late;
  behind = λ early other less there_too. elim (at_push rows last early other there_too) [
    | inl before ↦ (below early other before, it.seen early other before)
    | inr final ↦ (let e = final.0 in absurd (omega (arith, less, e)))
  ];
}

visits_more : (visits : ℕ) (rows : List LogRow) (last : LogRow) → visits_after visits (rows ++ last ∷ []) ≡ min (visits_after visits rows + length last.outcome.points) 18446744073709551615
visits_more visits [] last = refl
visits_more visits (row ∷ rows) last = visits_more (min (visits + length row.outcome.points) 18446744073709551615) rows last

pub one_more : (worker : ℕ) (arrivals : List Arrival) (first old new : HookSeat) (rows : List LogRow) (last : LogRow) (arrival : Arrival) (hook : Hook) (bytes : List ℕ) (walk : Walking)
    → IsWorked worker arrivals first old rows → IsWalkedBy old new hook bytes walk → last.outcome.points ≡ walk.points
    → (number_of new.place ≡ number_of old.place) × (pin_of new.place ≡ pin_of old.place + 2)
    → slice_get arrivals last.number ≡ Some arrival → IsWalked (journal_of new) old.latest (length (journal_of new)) arrival last.outcome → last.outcome.worker ≡ worker
    → AreBelow last.number rows → IsWorked worker arrivals first new (rows ++ last ∷ [])
one_more worker arrivals first old new rows last arrival hook bytes walk it passed points place there walked by below =
    let later = passed.later in
    let late = it.late in
    let pin = it.walks in
    let two = place.1 in
    let long = length-append rows (last ∷ []) in
    let counted = it.counted in
    let more = passed.counted in
    let visits = visits_more first.visits rows last in
    let same = ap length points in
    let longer = edits_prefix (seen_by old.place) (seen_by new.place) passed.grown in
    let own = new_row worker arrivals first old new rows last arrival it there walked by below in
    record {
      are_rows = λ at row is. elim (at_push rows last at row is) [
        | inl before ↦ row_kept worker first.latest (journal_of old) (journal_of new) arrivals rows last at row longer before (it.are_rows at row before)
        | inr final ↦ subst (λ (n : ℕ). IsRowAt worker first.latest (journal_of new) arrivals (rows ++ last ∷ []) n row) (sym final.0)
            (subst (IsRowAt worker first.latest (journal_of new) arrivals (rows ++ last ∷ []) (length rows)) final.1 own)
      ];
      seen = λ at row is. elim (at_push rows last at row is) [
        | inl before ↦ each_weaker (λ (p : ℕ). p ≤ old.latest) (λ (p : ℕ). p ≤ new.latest) (λ point most. omega (arith, most, later)) row.outcome.points (it.seen at row before)
        | inr final ↦ subst (λ (r : LogRow). ArePointsTo new.latest r.outcome.points) final.1 (subst (ArePointsTo new.latest) (sym points) passed.seen)
      ];
      late = omega (arith, late, later);
      grown = prefix_trans (seen_by first.place) (seen_by old.place) (seen_by new.place) it.grown passed.grown;
      same = place.0 ∙ it.same;
      walks = omega (arith, two, pin, long);
      counted = omega (arith, counted, more, visits, same);
    }

pub no_rows : (worker : ℕ) (arrivals : List Arrival) (first : HookSeat) → IsWorked worker arrivals first first []
no_rows worker arrivals first = record {
  are_rows = λ at row is. absurd (cc is);
  seen = λ at row is. absurd (cc is);
  late = omega arith;
  grown = prefix_self (seen_by first.place);
  same = refl;
  walks = omega arith;
  counted = refl;
}

-- ---- numbers
-- the numbers drawn so far: each that is above all of them is at least `least`, which none reaches
pub record AreDrawn (count least : ℕ) (rows : List LogRow) (deeds : List ℕ) : Type 0 where
  pub drawn : deeds ≡ numbers_of rows
  pub below : AllByRecursion (λ (number : ℕ). number < count) (numbers_of rows)
  pub above : (number : ℕ) → All (λ (earlier : ℕ). earlier < number) deeds → least ≤ number
  pub many : length deeds ≤ least

pub none_drawn : (count : ℕ) (deeds : List ℕ) → deeds ≡ [] → AreDrawn count 0 [] deeds
none_drawn count deeds none = record {
  drawn = none;
  below = tt;
  above = λ number all. omega arith;
  many = (let e = ap length none in omega (arith, e));
}

last_of : (P : ℕ → Type 0) (deeds : List ℕ) (number : ℕ) → All P (deeds ++ number ∷ []) → P number
last_of P deeds number all =
    let long = length-append deeds (number ∷ []) in
    subst P (get_or-append-add deeds (number ∷ []) 0 number) (All-get_or P (deeds ++ number ∷ []) (length deeds + 0) number (omega (arith, long)) all)

all_push : (P : ℕ → Type 0) (xs : List ℕ) (x : ℕ) → AllByRecursion P xs → P x → AllByRecursion P (xs ++ x ∷ [])
all_push P [] x each own = (own, tt)
all_push P (y ∷ xs) x each own = (each.0, all_push P xs x each.1 own)

pub one_drawn : (count least number : ℕ) (rows now : List LogRow) (deeds later : List ℕ) → AreDrawn count least rows deeds → All (λ (earlier : ℕ). earlier < number) deeds
    → later ≡ deeds ++ number ∷ [] → numbers_of now ≡ numbers_of rows ++ number ∷ [] → number < count → AreDrawn count (number + 1) now later
one_drawn count least number rows now deeds later it rising pushed more less =
    let high = it.above number rising in
    let many = it.many in
    let long = ap length pushed in
    let both = length-append deeds (number ∷ []) in
    record {
      drawn = pushed ∙ ap (λ (ns : List ℕ). ns ++ number ∷ []) it.drawn ∙ sym more;
      below = subst (AllByRecursion (λ (n : ℕ). n < count)) (sym more) (all_push (λ (n : ℕ). n < count) (numbers_of rows) number it.below less);
      above = λ next all. let above_it = last_of (λ (earlier : ℕ). earlier < next) deeds number (subst (All (λ (earlier : ℕ). earlier < next)) pushed all) in omega (arith, above_it);
      many = omega (arith, many, high, long, both);
    }

-- the last one is past the packets
pub all_drawn : (count packets least number : ℕ) (rows : List LogRow) (deeds later : List ℕ) → AreDrawn count least rows deeds → count ≡ packets → later ≡ deeds ++ number ∷ [] → count ≤ number
    → HasDrawn packets later (numbers_of rows)
all_drawn count packets least number rows deeds later it same pushed past = (
  record { numbers = numbers_of rows; last = number },
  subst (λ (bound : ℕ). IsDrawnTo bound (record { numbers = numbers_of rows; last = number })) same (record { below = it.below; past = past }),
  refl,
  pushed ∙ ap (λ (ns : List ℕ). ns ++ number ∷ []) it.drawn,
)

-- ---- a number that is above all drawn ones is above all rows'
below_at : (number : ℕ) (rows : List LogRow) → All (λ (earlier : ℕ). earlier < number) (numbers_of rows) → AreBelow number rows
below_at number [] all at row is = absurd (cc is)
below_at number (first ∷ rows) all zero row is = let same : first ≡ row = cc is in subst (λ (r : LogRow). r.number < number) same (all 0 0 (omega arith))
below_at number (first ∷ rows) all (suc at) row is = below_at number rows (λ k d less. all (suc k) d (omega (arith, less))) at row is

pub below_next : (count least number : ℕ) (rows : List LogRow) (deeds : List ℕ) → AreDrawn count least rows deeds → All (λ (earlier : ℕ). earlier < number) deeds → AreBelow number rows
below_next count least number rows deeds it rising = below_at number rows (subst (All (λ (earlier : ℕ). earlier < number)) it.drawn rising)

-- ---- the seat
-- of a seat that drew one number more, nothing but its deeds is another than at first
pub seat_kept : (first old new : Holding ℕ) (number : ℕ) → old ≡ record first { deeds = old.deeds } → new ≡ with_deed number old → new ≡ record first { deeds = new.deeds }
seat_kept first old new number kept drawn =
    drawn ∙ ap (λ (deeds : List ℕ). record old { deeds = deeds }) (sym (ap (λ (s : Holding ℕ). s.deeds) drawn)) ∙ ap (λ (s : Holding ℕ). record s { deeds = new.deeds }) kept

-- ---- answers
pub ok_then : {X E : Type 0} {P Q : Type 0} (r : Result X E) → OnOk r P → (P → Q) → OnOk r Q
ok_then (Ok x) holds then = then holds
ok_then (Err e) holds then = tt
