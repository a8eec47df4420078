-- Workers that are started one after the other.
use Rattle.std.proofs.Common.{◌≡◌, ◌∙◌, List, [], ◌∷◌, ◌++◌, append_assoc, sym, ap, subst}
use Rattle.std.specs.List.{AllByRecursion, AllZip}
use Rattle.tc_base.specs.declared.hook.Hook.{Hook}
use Rattle.pcap_io.specs.declared.capture.Packet.{Packet}
use Rattle.job_rounds.specs.OfRoundState.Rounds.{StoreName}
use Rattle.job_rounds.specs.declared.one_round.hands.Hand.{Hand}
use Rattle.job_rounds.specs.declared.one_round.hands.Started.{Started}
use Rattle.job_rounds.specs.OfOneRound.Hands.{IsStartedFor}
use Rattle.job_rounds.proofs.OfOneRound.Zips.{zip_push}

-- the first hands are started, the rest is still to be
pub record AreStarting (store : StoreName) (hook : Hook) (packets : List Packet) (can : Hand → Type 0) (hands rest : List Hand) (all : List Started) : Type 0 where
  pub first : List Hand
  pub whole : hands ≡ first ++ rest
  pub can_all : AllByRecursion can rest
  pub started : AllZip (IsStartedFor store hook packets) first all

module _ {store : StoreName} {hook : Hook} {packets : List Packet} {can : Hand → Type 0} where
  pub one_started : (hands rest more : List Hand) (all now : List Started) (hand : Hand) (one : Started) → AreStarting store hook packets can hands rest all → rest ≡ hand ∷ more → now ≡ all ++ one ∷ []
      → IsStartedFor store hook packets hand one → AreStarting store hook packets can hands more now
  one_started hands rest more all now hand one it next pushed own = record {
    first = it.first ++ hand ∷ [];
    whole = it.whole ∙ ap (λ (hs : List Hand). it.first ++ hs) next ∙ sym (append_assoc it.first (hand ∷ []) more);
    can_all = (subst (AllByRecursion can) next it.can_all).1;
    started = subst (AllZip (IsStartedFor store hook packets) (it.first ++ hand ∷ [])) (sym pushed) (zip_push (IsStartedFor store hook packets) it.first all hand one it.started own);
  }
