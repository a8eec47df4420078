-- Each step on the claim word keeps its rule.
use Rattle.std.proofs.Common.{◌≡◌, ℕ, ◌+◌, ◌-◌, ◌%◌, ◌<◌, List, [], ◌∷◌, ◌++◌, length, get_or, set, refl, ap, sym, ◌∙◌, subst, arith, length-append, length-set, get_or-set_same}
use mathlib.Core.Option.{some, none}
use lib.ListN.{get_elem?}
use Rattle.std.specs.Prelude.{sum_by}
use Rattle.std.proofs.lemmas.List.Sums.{sum_by-append}
use Rattle.std.proofs.lemmas.List.Elements.{All-push, All-weaker, All-append, All-nil}
use Rattle.std.proofs.lemmas.Bool.Decides.{nat_tests}
use Rattle.atomic_table.specs.Table.{Me, step, keeps, Allows, Splits, Joins}
use Rattle.step_counts.specs.declared.hand.Hand.{Hand}
use Rattle.step_counts.specs.Claims.{times, once_below, IsFair, Claimed, hand, Draws}
use Rattle.step_counts.proofs.Views.{sum_set, sum_split, sum_join, sum_few, sum_alone, set_stays, split_stays, other_at}

shares_of : Hand → ℕ
shares_of v = v.shares

times-append : (x : ℕ) (xs ys : List ℕ) → times x (xs ++ ys) ≡ times x xs + times x ys
times-append x xs ys = sum_by-append _ xs ys

once_more : (n x : ℕ) → once_below (n + 1) x ≡ once_below n x + times x (n ∷ [])
once_more n x = grind (arith, nat_tests)

wraps_not : (n : ℕ) → n < 9223372036854775808 → (n + 1) % 18446744073709551616 ≡ n + 1
wraps_not n low = omega arith

-- the word grows
fair_still : (seats n : ℕ) (v : Hand) → IsFair seats n v → IsFair seats (n + 1) v
fair_still seats n v k = record { made = k.made; idle = k.idle; few = k.few; given = All-weaker (λ x. x < n) (λ x. x < n + 1) (λ x l. omega arith) v.drawn k.given }

-- the word's number is drawn
fair_more : (seats n : ℕ) (v : Hand) → 0 < v.shares → length v.drawn < 2147483648 → IsFair seats n v → IsFair seats (n + 1) (hand v.seats v.shares (v.drawn ++ n ∷ []))
fair_more seats n v share low k = record {
  made = k.made;
  idle = λ z. absurd (omega arith);
  few = let long = length-append v.drawn (n ∷ []) in omega arith;
  given = All-push (λ x. x < n + 1) v.drawn n (All-weaker (λ x. x < n) (λ x. x < n + 1) (λ x l. omega arith) v.drawn k.given) (omega arith);
}

pub draws : (seats slots id : ℕ) (me : Me (Unit {0}) Hand) → 0 < me.0.shares → length me.0.drawn < 2147483648
    → Allows (Claimed seats) slots id me 0 (λ n. (n + 1) % 18446744073709551616) (Draws (step slots 0 1 0 none) me)
draws seats slots id me share low s r _ at _ =
    let n : ℕ = get_or s.words 0 0 in
    let v : Hand = me.0 in
    let w : Hand = hand v.seats v.shares (v.drawn ++ n ∷ []) in
    let small = r.small in let shares = r.shares in let count = r.count in let wide = r.wide in
    let most = sum_few (λ v. v.shares) (λ v. length v.drawn) s.views (λ j v e. (r.fair j v e).few) in
    let next : (n + 1) % 18446744073709551616 ≡ n + 1 = wraps_not n (omega arith) in
    let long : length w.drawn ≡ length v.drawn + 1 = length-append v.drawn (n ∷ []) in
    let parts = sum_set (λ v. v.shares) s.views id v w at in
    let lengths = sum_set (λ v. length v.drawn) s.views id v w at in
    let once : (x : ℕ) → sum_by (λ u. times x u.drawn) (set s.views id w) ≡ once_below (n + 1) x = λ x.
    let a = sum_set (λ u. times x u.drawn) s.views id v w at in let b = times-append x v.drawn (n ∷ []) in let c = r.once x in let d = once_more n x in omega arith in
    let here : get_or (set s.words 0 (n + 1)) 0 0 ≡ n + 1 = get_or-set_same s.words 0 (n + 1) 0 (omega arith) in
    let after : ℕ → Type 0 = λ z. Claimed seats record { words = set s.words 0 z; homes = s.homes; views = set s.views id w } in (
      w,
      keeps,
      tt,
      subst after (sym next) record {
        wide = length-set s.words 0 (n + 1) ∙ r.wide;
        small = r.small;
        shares = omega arith;
        count = sym (here ∙ (omega arith));
        once = λ x. once x ∙ ap (λ (z : ℕ). once_below z x) (sym here);
        fair = subst (λ (z : ℕ). (j : ℕ) (u : Hand) → get_elem? (set s.views id w) j ≡ some u → IsFair seats z u) (sym here)
            (set_stays (IsFair seats (n + 1)) s.views id w (fair_more seats n v share low (r.fair id v at)) (λ j u e. fair_still seats n u (r.fair j u e)));
      },
      record {
        drawn = refl;
        rising = (r.fair id v at).given;
        all = λ mine x. let made = (r.fair id v at).made share in
            let t = sum_alone (λ u. u.shares) (λ u. times x u.drawn) s.views id v at (omega arith) (λ i u e z. ap (times x) ((r.fair i u e).idle z)) in
            times-append x v.drawn (n ∷ []) ∙ (let c = r.once x in let d = once_more n x in omega arith);
      },
    )

pub deals : (seats id : ℕ) (v : Hand) → 0 < v.shares → v.drawn ≡ [] → Splits (Claimed seats) id v (record v { shares = v.shares - 1 }) (hand v.seats 1 [])
deals seats id v share empty s r at =
    let l : Hand = record v { shares = v.shares - 1 } in
    let one : Hand = hand v.seats 1 [] in
    let n : ℕ = get_or s.words 0 0 in
    let k = r.fair id v at in let made = k.made share in
    let shares = r.shares in let count = r.count in
    let bare : length v.drawn ≡ 0 = ap length empty in
    let parts = sum_split (λ u. u.shares) s.views id v l one at in
    let lengths = sum_split (λ u. length u.drawn) s.views id v l one at in record {
      wide = r.wide;
      small = r.small;
      shares = omega arith;
      count = omega arith;
      once = λ x. let a = sum_split (λ u. times x u.drawn) s.views id v l one at in let b = r.once x in omega arith;
      fair = split_stays (IsFair seats n) s.views id l one
          record { made = λ _. made; idle = λ _. empty; few = omega arith; given = k.given }
          record { made = λ _. made; idle = λ z. refl; few = omega arith; given = All-nil (λ x. x < n) }
          r.fair;
    }

pub merges : (seats id : ℕ) (v : Hand) (other : ℕ) (w : Hand) → 0 < v.shares → Joins (Claimed seats) id v other w (hand v.seats (v.shares + w.shares) (v.drawn ++ w.drawn)) (hand 0 0 [])
merges seats id v other w share s r at apart there =
    let b : Hand = hand v.seats (v.shares + w.shares) (v.drawn ++ w.drawn) in
    let spent : Hand = hand 0 0 [] in
    let n : ℕ = get_or s.words 0 0 in
    let kv = r.fair id v at in
    let kw = r.fair other w (other_at s.views id b other w apart there) in
    let shares = r.shares in let count = r.count in
    let parts = sum_join (λ u. u.shares) s.views id v other w b spent at there in
    let lengths = sum_join (λ u. length u.drawn) s.views id v other w b spent at there in
    let long = length-append v.drawn w.drawn in
    let few1 = kv.few in let few2 = kw.few in record {
      wide = r.wide;
      small = r.small;
      shares = omega arith;
      count = omega arith;
      once = λ x. let a = sum_join (λ u. times x u.drawn) s.views id v other w b spent at there in let c = times-append x v.drawn w.drawn in let o = r.once x in omega arith;
      fair = set_stays (IsFair seats n) (set s.views id b) other spent
          record { made = λ z. absurd (omega arith); idle = λ _. refl; few = omega arith; given = All-nil (λ x. x < n) }
          (set_stays (IsFair seats n) s.views id b
          record { made = λ _. kv.made share; idle = λ z. absurd (omega arith); few = omega arith; given = All-append (λ x. x < n) v.drawn w.drawn kv.given kw.given }
          r.fair);
    }
