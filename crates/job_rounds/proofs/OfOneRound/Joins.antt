-- Workers that are joined one after the other.
use Rattle.std.proofs.Common.{◌≡◌, ◌∙◌, ℕ, List, [], ◌∷◌, ◌++◌, append_assoc, append-nil, refl, sym, ap, subst, Ok}
use Rattle.std.proofs.lemmas.List.{map-append}
use Rattle.std.specs.List.{AllZip}
use Rattle.tc_base.specs.declared.hook.Hook.{Hook}
use Rattle.pcap_io.specs.declared.capture.Packet.{Packet}
use Rattle.lawful_runs.specs.OfLogs.Logs.{LogRow}
use Rattle.step_counts.specs.Seats.{Holding}
use Rattle.worker_rounds.specs.declared.worker.Worker.{Worker}
use Rattle.job_rounds.specs.OfRoundState.Rounds.{StoreName}
use Rattle.job_rounds.specs.declared.one_round.hands.Hand.{Hand}
use Rattle.job_rounds.specs.declared.one_round.hands.Ended.{Ended}
use Rattle.job_rounds.specs.declared.one_round.hands.Started.{Started}
use Rattle.job_rounds.specs.declared.one_round.joining.Back.{Back}
use Rattle.job_rounds.specs.OfOneRound.Hands.{HasWorked, IsPut, IsStartedFor, IsBackFrom}
use Rattle.job_rounds.proofs.OfOneRound.Zips.{zip_push}

-- the first are back, and the rest is still to be joined
pub record AreJoining (store : StoreName) (hook : Hook) (packets : List Packet) (hands : List Hand) (left : List Started) (back : Back) : Type 0 where
  pub first : List Hand
  pub rest : List Hand
  pub whole : hands ≡ first ++ rest
  pub going : AllZip (IsStartedFor store hook packets) rest left
  pub joined : IsBackFrom store hook packets first back

module _ {store : StoreName} {hook : Hook} {packets : List Packet} where
  pub none_joined : (hands : List Hand) (all left : List Started) (back : Back) → (back.workers.items ≡ []) × (back.seats.items ≡ []) × (back.logs.items ≡ []) → left ≡ all → AllZip (IsStartedFor store hook packets) hands all
      → AreJoining store hook packets hands left back
  none_joined hands all left back empty same going = record {
    first = [];
    rest = hands;
    whole = refl;
    going = subst (AllZip (IsStartedFor store hook packets) hands) (sym same) going;
    joined = record {
      ends = [];
      worked = tt;
      workers = empty.0;
      seats = empty.1;
      logs = subst (AllZip (λ (end : Ended) (log : List LogRow). end.log ≡ Ok log) []) (sym empty.2) tt;
    };
  }

  put_back : (first : List Hand) (hand : Hand) (old new : Back) (end : Ended) → IsBackFrom store hook packets first old → HasWorked store hook packets hand end → IsPut old new end → IsBackFrom store hook packets (first ++ hand ∷ []) new
  put_back first hand old new end it own put = record {
    ends = it.ends ++ end ∷ [];
    worked = zip_push (HasWorked store hook packets) first it.ends hand end it.worked own;
    workers = put.workers ∙ ap (λ (ws : List Worker). ws ++ end.worker ∷ []) it.workers ∙ sym (map-append (λ (e : Ended). e.worker) it.ends (end ∷ []));
    seats = put.seats ∙ ap (λ (ss : List (Holding ℕ)). ss ++ end.seat ∷ []) it.seats ∙ sym (map-append (λ (e : Ended). e.seat) it.ends (end ∷ []));
    logs = subst (AllZip (λ (e : Ended) (log : List LogRow). e.log ≡ Ok log) (it.ends ++ end ∷ [])) (sym put.logs)
        (zip_push (λ (e : Ended) (log : List LogRow). e.log ≡ Ok log) it.ends old.logs.items end put.log it.logs put.sufficed);
  }

  pub one_joined : (hands : List Hand) (left more : List Started) (old new : Back) (one : Started) (end : Ended) → AreJoining store hook packets hands left old → left ≡ one ∷ more
      → ((hand : Hand) → IsStartedFor store hook packets hand one → HasWorked store hook packets hand end) → IsPut old new end → AreJoining store hook packets hands more new
  one_joined hands left more old new one end it next keeps put =
      joined_at it.rest it.whole (subst (AllZip (IsStartedFor store hook packets) it.rest) next it.going)
    where
      joined_at : (rest : List Hand) → hands ≡ it.first ++ rest → AllZip (IsStartedFor store hook packets) rest (one ∷ more) → AreJoining store hook packets hands more new
      joined_at [] whole going = absurd going
      joined_at (hand ∷ rest) whole going = record {
        first = it.first ++ hand ∷ [];
        rest = rest;
        whole = whole ∙ sym (append_assoc it.first (hand ∷ []) rest);
        going = going.1;
        joined = put_back it.first hand old new end it.joined (keeps hand going.0) put;
      }

  pub all_joined : (hands : List Hand) (left : List Started) (back : Back) → AreJoining store hook packets hands left back → left ≡ [] → IsBackFrom store hook packets hands back
  all_joined hands left back it over = over_at it.rest it.whole (subst (AllZip (IsStartedFor store hook packets) it.rest) over it.going)
    where
      over_at : (rest : List Hand) → hands ≡ it.first ++ rest → AllZip (IsStartedFor store hook packets) rest [] → IsBackFrom store hook packets hands back
      over_at [] whole going = subst (λ (hs : List Hand). IsBackFrom store hook packets hs back) (sym (whole ∙ append-nil it.first)) it.joined
      over_at (hand ∷ rest) whole going = absurd going
