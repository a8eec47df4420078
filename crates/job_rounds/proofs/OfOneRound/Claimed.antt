-- Workers that have their seats.
use Rattle.std.proofs.Common.{◌≡◌, ◌∙◌, ℕ, suc, ◌≤◌, List, [], ◌∷◌, ◌++◌, length, map, append_assoc, Some, refl, sym, ap, subst, arith}
use Rattle.std.specs.Prelude.{option_map}
use Rattle.std.specs.List.{AllByRecursion, slice_get}
use Rattle.std.proofs.lemmas.Option.{slice_get-map}
use Rattle.std.proofs.lemmas.List.{length-map, map-append}
use Rattle.atomic_table.specs.Seated.{TableId}
use Rattle.step_counts.specs.Seats.{Holding, Untaken, new_seat}
use Rattle.worker_rounds.specs.declared.worker.Worker.{Worker}
use Rattle.job_rounds.specs.OfRoundState.Rounds.{StoreName}
use Rattle.job_rounds.specs.declared.one_round.hands.Hand.{Hand}
use Rattle.job_rounds.specs.OfOneRound.Hands.{AreClaimed, AreReady, CanWork, IsReady, fresh_seat}
use Rattle.job_rounds.proofs.OfOneRound.Zips.{each_push}

-- ---- list by list
pub there_map : {A B : Type 0} (f : A → B) (xs : List A) (at : ℕ) (x : A) → slice_get xs at ≡ Some x → slice_get (map f xs) at ≡ Some (f x)
there_map f xs at x is = slice_get-map f xs at ∙ ap (option_map f) is

each_from : {A : Type 0} (P : A → Type 0) (xs : List A) → ((at : ℕ) (x : A) → slice_get xs at ≡ Some x → P x) → AllByRecursion P xs
each_from P [] each = tt
each_from P (x ∷ xs) each = (each 0 x refl, each_from P xs (λ at y is. each (suc at) y is))

-- ---- seats
-- one worker more has a seat
pub worker_next : (hands now : List Hand) (hand : Hand) (items rest workers : List Worker) → now ≡ hands ++ hand ∷ [] → items ≡ hand.worker ∷ rest → map (λ (h : Hand). h.worker) hands ++ items ≡ workers
    → map (λ (h : Hand). h.worker) now ++ rest ≡ workers
worker_next hands now hand items rest workers pushed next same =
    ap (λ (hs : List Hand). map (λ (h : Hand). h.worker) hs ++ rest) pushed ∙ ap (λ (ws : List Worker). ws ++ rest) (map-append (λ (h : Hand). h.worker) hands (hand ∷ []))
    ∙ append_assoc (map (λ (h : Hand). h.worker) hands) (hand.worker ∷ []) rest ∙ ap (λ (ws : List Worker). map (λ (h : Hand). h.worker) hands ++ ws) (sym next) ∙ same

pub seat_next : (making : TableId) (seats : ℕ) (hands now : List Hand) (hand : Hand) (left : Untaken) → now ≡ hands ++ hand ∷ [] → hand.seat ≡ new_seat left → left.making ≡ making → left.seats ≡ seats
    → AllByRecursion (λ (h : Hand). h.seat ≡ fresh_seat making seats) hands → AllByRecursion (λ (h : Hand). h.seat ≡ fresh_seat making seats) now
seat_next making seats hands now hand left pushed taken of_making of_seats each =
    subst (AllByRecursion (λ (h : Hand). h.seat ≡ fresh_seat making seats)) (sym pushed)
    (each_push (λ (h : Hand). h.seat ≡ fresh_seat making seats) hands hand each (taken ∙ ap (λ (m : TableId). fresh_seat m left.seats) of_making ∙ ap (fresh_seat making) of_seats))

pub claimed : (store : StoreName) (making : TableId) (count many : ℕ) (workers : List Worker) (hands : List Hand) → AreReady store count many workers → 1 ≤ many → many ≤ 8 → map (λ (hand : Hand). hand.worker) hands ≡ workers
    → AllByRecursion (λ (hand : Hand). hand.seat ≡ fresh_seat making many) hands → AreClaimed store making count hands
claimed store making count many workers hands ready least most same seats =
    let long : length hands ≡ many = sym (length-map hands (λ (hand : Hand). hand.worker)) ∙ ap length same ∙ ready.many_are in
    let own = λ (at : ℕ) (hand : Hand) (is : slice_get hands at ≡ Some hand).
    ready.each at hand.worker (subst (λ (ws : List Worker). slice_get ws at ≡ Some hand.worker) same (there_map (λ (hand : Hand). hand.worker) hands at hand is)) in
    record {
      some = omega (arith, long, least);
      few = omega (arith, long, most);
      seats = subst (λ (n : ℕ). AllByRecursion (λ (hand : Hand). hand.seat ≡ fresh_seat making n) hands) (sym long) seats;
      ready = each_from (λ (hand : Hand). IsReady store count hand.worker) hands (λ at hand is. (own at hand is).1);
      numbered = λ at hand is. (own at hand is).0;
    }

can_each : (store : StoreName) (making : TableId) (count seats : ℕ) (hands : List Hand) → AllByRecursion (λ (hand : Hand). hand.seat ≡ fresh_seat making seats) hands → AllByRecursion (λ (hand : Hand). IsReady store count hand.worker) hands
    → AllByRecursion (CanWork store making count) hands
can_each store making count seats [] own ready = tt
can_each store making count seats (hand ∷ hands) own ready = (
  record { ready = ready.0; of_making = ap (λ (s : Holding ℕ). s.making) own.0; fresh = ap (λ (s : Holding ℕ). s.deeds) own.0 },
  can_each store making count seats hands own.1 ready.1,
)

pub can_all : (store : StoreName) (making : TableId) (count : ℕ) (hands : List Hand) → AreClaimed store making count hands → AllByRecursion (CanWork store making count) hands
can_all store making count hands it = can_each store making count (length hands) hands it.seats it.ready
