-- A desk that meets one worker's reader after the other.
use Rattle.std.proofs.Common.{◌≡◌, ◌∙◌, ℕ, zero, suc, ◌+◌, ◌<◌, List, [], ◌∷◌, length, get_or, refl, sym, ap, subst, inl, inr, arith}
use Rattle.std.proofs.Math.ListN.{set}
use Rattle.std.proofs.lemmas.Bool.{cases_lt}
use Rattle.std.proofs.lemmas.List.Elements.{AllZip-get_or}
use Rattle.std.specs.List.{AllZip}
use mathlib.Core.List.{IsPrefix}
use Rattle.store_history.specs.declared.history.Commit.{Commit}
use Rattle.pin_store.specs.Calls.{seen_by}
use Rattle.filter_state.specs.declared.edit.Edit.{Edit}
use Rattle.worker_rounds.specs.declared.worker.Worker.{Worker}
use Rattle.job_rounds.specs.OfRoundState.Views.{DeskView}
use Rattle.job_rounds.specs.OfOneRound.OfOutcomes.Met.{IsSameDesk, IsSameWorker}

pub same_desk_self : (desk : DeskView) → IsSameDesk desk desk
same_desk_self desk = record { seen = refl; sheet = refl; rest = refl }

pub same_desk_on : (old mid new : DeskView) → IsSameDesk old mid → IsSameDesk mid new → IsSameDesk old new
same_desk_on old mid new first then = record {
  seen = then.seen ∙ first.seen;
  sheet = then.sheet ∙ first.sheet;
  rest = then.rest ∙ ap (λ (desk : DeskView). record desk { place = new.place }) first.rest;
}

same_worker_self : (worker : Worker) → IsSameWorker worker worker
same_worker_self worker = record { me = refl; rest = refl }

same_worker_on : (old mid new : Worker) → IsSameWorker old mid → IsSameWorker mid new → IsSameWorker old new
same_worker_on old mid new first then = record {
  me = then.me ∙ first.me;
  rest = then.rest ∙ ap (λ (worker : Worker). record worker { reader = record worker.reader { place = new.reader.place } }) first.rest;
}

pub same_all : (workers : List Worker) → AllZip IsSameWorker workers workers
same_all [] = tt
same_all (worker ∷ workers) = (same_worker_self worker, same_all workers)

pub same_set : (old now : List Worker) (at : ℕ) (worker new : Worker) → AllZip IsSameWorker old now → at < length now → worker ≡ get_or now at worker → IsSameWorker worker new → AllZip IsSameWorker old (set now at new)
same_set old [] at worker new all within is same = absurd (omega (arith, within))
same_set [] (second ∷ now) at worker new all within is same = absurd all
same_set (first ∷ old) (second ∷ now) zero worker new all within is same = (same_worker_on first second new all.0 (subst (λ (it : Worker). IsSameWorker it new) is same), all.1)
same_set (first ∷ old) (second ∷ now) (suc at) worker new all within is same = (all.0, same_set old now at worker new all.1 (omega (arith, within)) is same)

-- the readers of the first workers are met, and one more
pub met_next : (old now : List Worker) (at : ℕ) (worker : Worker) (desk_old desk_now : DeskView) → AllZip IsSameWorker old now → at < length old → worker ≡ get_or now at worker → IsSameDesk desk_old desk_now
    → IsPrefix (seen_by worker.reader.place) (seen_by desk_now.place)
    → ((k : ℕ) (d : Worker) → k < at → IsPrefix (seen_by (get_or old k d).reader.place) (seen_by desk_old.place))
    → (k : ℕ) (d : Worker) → k < at + 1 → IsPrefix (seen_by (get_or old k d).reader.place) (seen_by desk_old.place)
met_next old now at worker desk_old desk_now all within is same met before k d less = elim (cases_lt k at) [
  | inl earlier ↦ before k d earlier
  | inr later ↦ (
      let here : at ≡ k = omega (arith, less, later) in
      subst (λ (n : ℕ). IsPrefix (seen_by (get_or old n d).reader.place) (seen_by desk_old.place)) here own)
]
  where
    kept : IsSameWorker (get_or old at d) worker
    kept = subst (IsSameWorker (get_or old at d)) (sym is) (AllZip-get_or IsSameWorker old now at d worker all within)

    own : IsPrefix (seen_by (get_or old at d).reader.place) (seen_by desk_old.place)
    own =
        subst (λ (h : List (Commit Edit)). IsPrefix h (seen_by desk_old.place)) (ap (λ me. me.0.seen) kept.me)
        (subst (IsPrefix (seen_by worker.reader.place)) same.seen met)
