-- All ways, one by one.
use Rattle.std.proofs.Common.{◌≡◌, ◌∙◌, ℕ, zero, suc, ◌+◌, ◌-◌, ◌<◌, ◌≤◌, nat_lt, Bool, true, false, List, [], ◌∷◌, ◌++◌}
use Rattle.std.proofs.Common.{length, map, take, Option, Some, None, is_some, IfSome, refl, sym, ap, subst, append_assoc, arith}
use Rattle.std.specs.Prelude.{if◌then◌else◌, ◌==◌}
use Rattle.std.proofs.lemmas.Bool.Decides.{nat_tests}
use Rattle.tc_base.specs.declared.hook.Hook.{Hook}
use Rattle.frame_edit.specs.EditedFrame.{EditedFrame}
use Rattle.point_walks.specs.Over.{Answering}
use Rattle.walk_rules.specs.declared.limits.TheConstants.{VISITS_MAX}
use Rattle.walk_rules.specs.declared.verdict.Verdict.{Verdict}
use Rattle.walk_rules.specs.declared.verdict.Verdict.TheVariants as verdicts
use Rattle.walk_rules.specs.Steps.{Place, at_head, at_mask, at_action, ended, Standing}
use Rattle.walk_rules.specs.Walks.{Outcome, outcome_with, outcome_at, outcome_of}
use Rattle.walk_fate_laws.specs.declared.limits.TheConstants.{WAYS_MAX}
use Rattle.walk_fate_laws.specs.Told.{first_fates, told_fates, has_more}
use Rattle.fate_search.specs.declared.branch_points.Branch.{Branch}
use Rattle.fate_search.specs.Found.{Found, found_with, found_by, all_found, noted}
use Rattle.fate_search.specs.Paths.{Sought, WalkWay, points_of, AreToCome}
use Rattle.fate_search.specs.Turned.{weight_most, points_to, weight_of, IsTurnedBack, IsHigher}
use Rattle.fate_search.specs.Looking.{all_ways, AreLooked, AreLookedAt, AreMore, IsLook}
use Rattle.fate_search.specs.Searched.{HasCome}
use Rattle.fate_search.proofs.Noting.{one_noted}
use Rattle.fate_search.proofs.Standing.{length_joined}
use Rattle.fate_search.proofs.Weights.{path_below, longer_heavier}

-- ---- at the start
map_itself : (ways : List WalkWay) → map (λ (way : WalkWay). way) ways ++ [] ≡ ways
map_itself [] = refl
map_itself (way ∷ ways) = ap (λ (rest : List WalkWay). way ∷ rest) (map_itself ways)

pub begins : (s : Sought) → AreToCome s [] None (all_ways s)
begins s = record { turns = []; kept = refl; are = tt; through = sym (map_itself (all_ways s)) }

pub none_looked : (s : Sought) → AreLooked s None [] 0 []
none_looked s = record {
  seen = [];
  rest = all_ways s;
  whole = refl;
  come = begins s;
  count = refl;
  few = omega arith;
  told = refl;
}

-- ---- one way
either_frame : (b : Bool) (one outcome : Outcome) (frame : EditedFrame) → one.frame ≡ frame
    → (if b then Some one else None) ≡ Some outcome → outcome.frame ≡ frame
either_frame true one outcome frame is ends = let same : one ≡ outcome = cc ends in sym (ap (λ (o : Outcome). o.frame) same) ∙ is
either_frame false one outcome frame is ends = absurd (cc ends)

frame_at : (st : Standing) (place : Place) (outcome : Outcome) → outcome_at place st ≡ Some outcome
    → outcome.frame ≡ st.frame
frame_at st (ended verdict) outcome ends =
    let same : outcome_with verdict st ≡ outcome = cc ends in sym (ap (λ (o : Outcome). o.frame) same)
frame_at st at_head outcome ends =
    either_frame (st.visits == VISITS_MAX) (outcome_with verdicts.Drop st) outcome st.frame refl ends
frame_at st (at_mask head masks tables) outcome ends =
    either_frame (st.visits == VISITS_MAX) (outcome_with verdicts.Drop st) outcome st.frame refl ends
frame_at st (at_action head actions position jumps tables) outcome ends =
    either_frame (st.visits == VISITS_MAX) (outcome_with verdicts.Drop st) outcome st.frame refl ends

pub way_noted : (s : Sought) (from : Option ℕ) (old path : List Branch) (ways : ℕ) (fates now : List Found)
    (st : Standing) (verdict : Verdict) (frame : EditedFrame) (it : AreLooked s from old ways fates)
    → HasCome s old from path st it.rest true → ways < WAYS_MAX
    → IfSome (outcome_of st) (λ outcome. verdict ≡ outcome.verdict) → frame ≡ st.frame
    → now ≡ noted fates (found_with (points_of path) verdict frame)
    → AreLookedAt s from old path (ways + 1) now
way_noted s from old path ways fates now st verdict frame it has few verdicts_are frame_is is =
    let come = has.come in let way = come.way in let outcome = come.outcome in
    let count = it.count in let more = length_joined it.seen (way ∷ []) in
    let its : verdict ≡ outcome.verdict =
    subst (λ (o : Option Outcome). IfSome o (λ out. verdict ≡ out.verdict)) come.ends verdicts_are in
    let its_frame : frame ≡ outcome.frame = frame_is ∙ sym (frame_at st st.place outcome come.ends) in
    let found : found_with (points_of path) verdict frame ≡ found_by way.points outcome =
    ap (λ (v : Verdict). found_with (points_of path) v frame) its
    ∙ ap (found_with (points_of path) outcome.verdict) its_frame
    ∙ ap (λ (ps : List ℕ). found_by ps outcome) (sym come.points) in
    record {
      seen = it.seen ++ (way ∷ []);
      rest = come.rest;
      more = has.more;
      whole = it.whole ∙ ap (λ (ws : List WalkWay). it.seen ++ ws) come.are
          ∙ sym (append_assoc it.seen (way ∷ []) come.rest);
      behind = come.behind;
      count = omega (arith, count, more);
      few = omega (arith, few);
      told = is ∙ ap (λ (all : List Found). noted all (found_with (points_of path) verdict frame)) it.told
          ∙ ap (noted (all_found (first_fates it.seen))) found
          ∙ sym (one_noted it.seen way outcome (ap outcome_of come.end ∙ come.ends));
      longer = has.longer;
    }

pub none_noted : (s : Sought) (from : Option ℕ) (old path : List Branch) (ways : ℕ) (fates : List Found)
    (st : Standing) (it : AreLooked s from old ways fates) → HasCome s old from path st it.rest false
    → AreLookedAt s from old path ways fates
none_noted s from old path ways fates st it has = record {
  seen = it.seen;
  rest = it.rest;
  more = has.more;
  whole = it.whole;
  behind = has.come;
  count = it.count;
  few = it.few;
  told = it.told;
  longer = has.longer;
}

pub one_more : (s : Sought) (from : Option ℕ) (old path : List Branch) (ways : ℕ) (fates : List Found)
    (st : Standing) (it : AreLooked s from old ways fates) → HasCome s old from path st it.rest true
    → ways ≡ WAYS_MAX → AreMore s ways fates
one_more s from old path ways fates st it has most =
    let come = has.come in
    record {
      seen = it.seen;
      way = come.way;
      rest = come.rest;
      whole = it.whole ∙ ap (λ (ws : List WalkWay). it.seen ++ ws) come.are;
      count = it.count;
      most = most;
      told = it.told;
    }

-- ---- back
pub next_looked : (s : Sought) (from : Option ℕ) (old path left : List Branch) (ways next : ℕ) (fates : List Found)
    (it : AreLookedAt s from old path ways fates) → IsTurnedBack s left (Some next) it.rest
    → AreLooked s (Some next) left ways fates
next_looked s from old path left ways next fates it come = record {
  seen = it.seen;
  rest = it.rest;
  whole = it.whole;
  come = come;
  count = it.count;
  few = it.few;
  told = it.told;
}

-- ---- the end
front_taken : {X : Type 0} (xs ys : List X) → take (length xs) (xs ++ ys) ≡ xs
front_taken [] ys = refl
front_taken (x ∷ xs) ys = ap (λ (zs : List _). x ∷ zs) (front_taken xs ys)

all_taken : {X : Type 0} (n : ℕ) (xs : List X) → length xs ≤ n → take n (xs ++ []) ≡ xs
all_taken zero [] few = refl
all_taken (suc n) [] few = refl
all_taken zero (x ∷ xs) few = absurd (omega (arith, few))
all_taken (suc n) (x ∷ xs) few = ap (λ (zs : List _). x ∷ zs) (all_taken n xs (omega (arith, few)))

is_less : (n m : ℕ) → n < m → true ≡ nat_lt n m
is_less n m less = grind (arith, nat_tests, less)

is_not_less : (n m : ℕ) → m ≤ n → false ≡ nat_lt n m
is_not_less n m most = grind (arith, nat_tests, most)

-- what the search tells
pub record IsTold (s : Sought) (ways : ℕ) (more : Bool) (fates : List Found) : Type 0 where
  pub told : fates ≡ all_found (told_fates s.answers s.before s.ceiling s.hook s.bytes)
  pub looked : ways ≡ length (take WAYS_MAX (all_ways s))
  pub left : more ≡ has_more s.answers s.before s.ceiling s.hook s.bytes

told_by : (s : Sought) (ways : ℕ) (more : Bool) (fates : List Found) (seen : List WalkWay)
    → take WAYS_MAX (all_ways s) ≡ seen → length seen ≡ ways → fates ≡ all_found (first_fates seen)
    → more ≡ nat_lt WAYS_MAX (length (all_ways s)) → IsTold s ways more fates
told_by s ways more fates seen taken count are lt = record {
  told = are ∙ ap (λ (ws : List WalkWay). all_found (first_fates ws)) (sym taken);
  looked = sym count ∙ ap (λ (ws : List WalkWay). length ws) (sym taken);
  left = lt;
}

pub all_told : (s : Sought) (from : Option ℕ) (old path left : List Branch) (ways : ℕ) (fates : List Found)
    (it : AreLookedAt s from old path ways fates) → IsTurnedBack s left None it.rest → IsTold s ways false fates
all_told s from old path left ways fates it nothing =
    let whole : all_ways s ≡ it.seen ++ [] = it.whole ∙ ap (λ (ws : List WalkWay). it.seen ++ ws) nothing in
    let count = it.count in let few = it.few in
    let many = ap (λ (ws : List WalkWay). length ws) whole in let same = length_joined it.seen [] in
    told_by s ways false fates it.seen
    (ap (take WAYS_MAX) whole ∙ all_taken WAYS_MAX it.seen (omega (arith, count, few))) count it.told
    (is_not_less WAYS_MAX (length (all_ways s)) (omega (arith, many, same, count, few)))

pub more_told : (s : Sought) (ways : ℕ) (fates : List Found) → AreMore s ways fates → IsTold s ways true fates
more_told s ways fates it =
    let count = it.count in let most = it.most in
    let many = ap (λ (ws : List WalkWay). length ws) it.whole in
    let same = length_joined it.seen (it.way ∷ it.rest) in
    told_by s ways true fates it.seen
    (ap (take WAYS_MAX) it.whole ∙ ap (λ (n : ℕ). take n (it.seen ++ (it.way ∷ it.rest))) (sym (count ∙ most))
    ∙ front_taken it.seen (it.way ∷ it.rest)) count it.told
    (is_less WAYS_MAX (length (all_ways s)) (omega (arith, many, same, count, most)))

-- ---- by whether there is a further branch
pub looked_on : (s : Sought) (from : Option ℕ) (old path left : List Branch) (ways : ℕ) (fates : List Found)
    (o : Option ℕ) (it : AreLookedAt s from old path ways fates) → is_some o ≡ true
    → IsTurnedBack s left o it.rest → AreLooked s o left ways fates
looked_on s from old path left ways fates None it some back = absurd (cc some)
looked_on s from old path left ways fates (Some next) it some back =
    next_looked s from old path left ways next fates it back

pub told_back : (s : Sought) (from : Option ℕ) (old path left : List Branch) (ways : ℕ) (fates : List Found)
    (o : Option ℕ) (it : AreLookedAt s from old path ways fates) → is_some o ≡ false
    → IsTurnedBack s left o it.rest → IsTold s ways false fates
told_back s from old path left ways fates None it none back = all_told s from old path left ways fates it back
told_back s from old path left ways fates (Some next) it none back = absurd (cc none)

pub falls : (s : Sought) (from : Option ℕ) (old path left : List Branch) (ways : ℕ) (fates : List Found)
    (o : Option ℕ) (it : AreLookedAt s from old path ways fates) → is_some o ≡ true
    → IsHigher s.ceiling path left o
    → weight_most (s.ceiling + 2) VISITS_MAX - weight_of s.ceiling (points_to left o)
    < weight_most (s.ceiling + 2) VISITS_MAX - weight_of s.ceiling (points_to old from)
falls s from old path left ways fates None it some higher = absurd (cc some)
falls s from old path left ways fates (Some next) it some higher =
    let below = path_below s path it.rest it.behind in
    let longer = longer_heavier s.ceiling (points_to old from) (points_of path) it.more it.longer in
    omega (arith, below, longer, higher)

pub as_look : (s : Sought) (from : Option ℕ) (old path : List Branch) (ways : ℕ) (fates : List Found)
    (o : Option ℕ) (now : ℕ) → o ≡ Some now → IsLook s from old path ways fates o
    → AreLookedAt s from old path now fates
as_look s from old path ways fates o now is look = subst (IsLook s from old path ways fates) is look

not_some : (o : Option ℕ) → ((n : ℕ) → o ≡ Some n → ⊥) → o ≡ None
not_some None other = refl
not_some (Some n) other = absurd (other n refl)

pub as_more : (s : Sought) (from : Option ℕ) (old path : List Branch) (ways : ℕ) (fates : List Found)
    (o : Option ℕ) → ((n : ℕ) → o ≡ Some n → ⊥) → IsLook s from old path ways fates o → IsTold s ways true fates
as_more s from old path ways fates o other look =
    more_told s ways fates (subst (IsLook s from old path ways fates) (not_some o other) look)

pub as_come : (s : Sought) (old : List Branch) (from : Option ℕ) (path : List Branch) (st : Standing)
    (ways : List WalkWay) (b t : Bool) → b ≡ t → HasCome s old from path st ways b → HasCome s old from path st ways t
as_come s old from path st ways b t is has = subst (HasCome s old from path st ways) is has

pub looked_first : (s : Sought) (path : List Branch) (fates : List Found) → path ≡ [] → fates ≡ []
    → AreLooked s None path 0 fates
looked_first s path fates none nothing =
    subst (λ (p : List Branch). AreLooked s None p 0 fates) (sym none)
    (subst (λ (f : List Found). AreLooked s None [] 0 f) (sym nothing) (none_looked s))

-- ---- whose ways are looked for, by the arguments of the call
abbrev pub sought_of : Answering → Hook → List ℕ → ℕ → ℕ → Sought
sought_of answers hook bytes before ceiling =
    record { answers = answers; hook = hook; bytes = bytes; before = before; ceiling = ceiling }
