-- Workers that walked no packet.
use Rattle.std.proofs.Common.{◌≡◌, ◌∙◌, ℕ, zero, suc, ◌+◌, List, [], ◌∷◌, ◌++◌, length, Some, refl, sym, ap, subst, arith}
use Rattle.std.specs.Prelude.{slice_get}
use Rattle.filter_state.specs.States.{no_state}
use Rattle.filter_state.specs.Journals.{state_at}
use Rattle.filter_lists.specs.Spells.{Spells}
use Rattle.walk_ends.specs.declared.counts.Count.{Count}
use Rattle.report_check.specs.declared.walker.Walker.{Walker}
use Rattle.report_check.specs.declared.walkers.Walkers.{Walkers}
use Rattle.run_counts.specs.Counting.{no_count, count_of}
use Rattle.report_check.specs.Walked.{IsWalker, AreWalkers}

pub record IsFresh (walker : Walker) : Type 0 where
  pub spells : Spells walker.lists no_state
  pub at_start : walker.at ≡ 0
  pub unseen : walker.seen ≡ 0

-- one more of them
pub one_more : (each : List Walker) (next : Walker) → IsFresh next → ((index : ℕ) (walker : Walker) → slice_get each index ≡ Some walker → IsFresh walker) → (index : ℕ) (walker : Walker) → slice_get (each ++ (next ∷ [])) index ≡ Some walker → IsFresh walker
one_more [] next fresh all zero walker is = let same : next ≡ walker = cc in subst IsFresh same fresh
one_more [] next fresh all (suc index) walker is = absurd (cc is)
one_more (first ∷ each) next fresh all zero walker is = all 0 walker is
one_more (first ∷ each) next fresh all (suc index) walker is = one_more each next fresh (λ i w there. all (suc i) w there) index walker is

no_place : (n : ℕ) → count_of [] n ≡ no_count
no_place zero = refl
no_place (suc n) = refl

fresh_walker : (walker : Walker) (number : ℕ) → IsFresh walker → IsWalker [] [] number walker
fresh_walker walker number fresh = record {
  seen = fresh.unseen;
  early = (let at = fresh.at_start in omega (arith, at));
  within = (let at = fresh.at_start in omega (arith, at));
  spells = subst (λ (n : ℕ). Spells walker.lists (state_at n [])) (sym fresh.at_start) fresh.spells;
}

pub all_fresh : (workers : ℕ) (walkers : Walkers) → length walkers.each.items ≡ workers → ((index : ℕ) (walker : Walker) → slice_get walkers.each.items index ≡ Some walker → IsFresh walker) → walkers.counts ≡ [] → walkers.passed ≡ 0 → walkers.dropped ≡ 0
    → AreWalkers workers [] [] walkers
all_fresh workers walkers many fresh none passed dropped = record {
  many = many;
  stand = λ index walker is. fresh_walker walker (index + 1) (fresh index walker is);
  counts = λ serial. ap (λ (cs : List Count). count_of cs serial) none ∙ no_place serial;
  short = tt;
  passed = passed;
  all = omega (arith, passed, dropped);
}
