-- Counts that grow, execution by execution.
use Rattle.std.proofs.Common.{◌≡◌, ℕ, zero, suc, ◌+◌, ◌*◌, ◌^◌, ◌<◌, ◌≤◌, ◌⊎◌, inl, inr, Bool, true, false, cond, List, [], ◌∷◌, ◌++◌, length, map, set, get_or, replicate, take, refl, sym, ap, ap₂, ◌∙◌, arith, add-zero, zero-add, add_assoc, eq-eqb, ne_eqb}
use Rattle.std.specs.Prelude.{◌==◌}
use Rattle.std.proofs.lemmas.List.{length-take, length-map, map_more}
use Rattle.std.proofs.lemmas.List.Sums.{sum_by-append, sum_by-cons, count_by-le-length}
use Rattle.filter_state.specs.Sound.{Each}
use Rattle.walk_rules.specs.Steps.{Execution}
use Rattle.walk_steps.specs.Told.{execution, IsShortRun}
use Rattle.walk_ends.specs.declared.counts.Count.{Count}
use Rattle.capture_walk.specs.Captures.{count_at, counts_from, counts_of, no_counts, together, each_added, AreFew}
use Rattle.capture_walk.specs.Room.{HasRoom, HasRoomForRun}

abbrev pub count : ℕ → ℕ → Count
count packets bytes = record { packets = packets; bytes = bytes }

-- ---- one after the other
count_at-append : (xs ys : List Execution) (serial : ℕ) → count_at (xs ++ ys) serial ≡ together (count_at xs serial) (count_at ys serial)
count_at-append xs ys serial =
    ap₂ count (sum_by-append (λ (e : Execution). cond (e.serial == serial) 1 0) xs ys)
    (sum_by-append (λ (e : Execution). cond (e.serial == serial) e.length 0) xs ys)

together-assoc : (a b c : Count) → together a (together b c) ≡ together (together a b) c
together-assoc a b c = ap₂ count (sym (add_assoc a.packets b.packets c.packets)) (sym (add_assoc a.bytes b.bytes c.bytes))

together-none : (a : Count) → together a (count 0 0) ≡ a
together-none a = ap₂ count (add-zero a.packets) (add-zero a.bytes)

-- nothing that is added changes nothing
pub added-none : (n : ℕ) (cs : List Count) → each_added n cs [] ≡ cs
added-none n [] = refl
added-none n (c ∷ cs) = ap₂ (λ (x : Count) (xs : List Count). x ∷ xs) (together-none c) (added-none (n + 1) cs)

pub added-append : (n : ℕ) (cs : List Count) (xs ys : List Execution) → each_added n cs (xs ++ ys) ≡ each_added n (each_added n cs xs) ys
added-append n [] xs ys = refl
added-append n (c ∷ cs) xs ys =
    ap₂ (λ (x : Count) (xs : List Count). x ∷ xs)
    (ap (together c) (count_at-append xs ys n) ∙ together-assoc c (count_at xs n) (count_at ys n))
    (added-append (n + 1) cs xs ys)

-- the counts of all executions so far, with further ones
counts_from-append : (n actions : ℕ) (xs ys : List Execution) → counts_from n actions (xs ++ ys) ≡ each_added n (counts_from n actions xs) ys
counts_from-append n zero xs ys = refl
counts_from-append n (suc actions) xs ys =
    ap₂ (λ (x : Count) (xs : List Count). x ∷ xs) (count_at-append xs ys n) (counts_from-append (n + 1) actions xs ys)

pub counts-append : (actions : ℕ) (xs ys : List Execution) → counts_of actions (xs ++ ys) ≡ each_added 1 (counts_of actions xs) ys
counts-append actions xs ys = counts_from-append 1 actions xs ys

none-from : (n actions : ℕ) → replicate actions (count 0 0) ≡ counts_from n actions []
none-from n zero = refl
none-from n (suc actions) = ap (λ (xs : List Count). count 0 0 ∷ xs) (none-from (n + 1) actions)

pub none-counted : (actions : ℕ) → replicate actions (count 0 0) ≡ no_counts actions
none-counted actions = none-from 1 actions

-- ---- one execution
one-other : (c : Count) (e : Execution) (serial : ℕ) → (e.serial ≡ serial → ⊥) → together c (count_at (e ∷ []) serial) ≡ c
one-other c e serial other =
    ap (λ (b : Bool). together c (count (0 + cond b 1 0) (0 + cond b e.length 0))) (ne_eqb e.serial serial other) ∙ together-none c

one-same : (c : Count) (e : Execution) (serial : ℕ) → e.serial ≡ serial → together c (count_at (e ∷ []) serial) ≡ together c (count 1 e.length)
one-same c e serial same =
    ap (λ (b : Bool). together c (count (0 + cond b 1 0) (0 + cond b e.length 0))) (eq-eqb e.serial serial same)
    ∙ ap (λ (bytes : ℕ). together c (count 1 bytes)) (zero-add e.length)

-- of an action before the first or behind the last that is counted
pub one-outside : (n : ℕ) (cs : List Count) (e : Execution) → (e.serial < n) ⊎ (n + length cs ≤ e.serial) → each_added n cs (e ∷ []) ≡ cs
one-outside n [] e outside = refl
one-outside n (c ∷ cs) e (inl before) =
    ap₂ (λ (x : Count) (xs : List Count). x ∷ xs) (one-other c e n (λ same. absurd (omega arith))) (one-outside (n + 1) cs e (inl (omega arith)))
one-outside n (c ∷ cs) e (inr behind) =
    ap₂ (λ (x : Count) (xs : List Count). x ∷ xs) (one-other c e n (λ same. absurd (omega arith))) (one-outside (n + 1) cs e (inr (omega arith)))

pub one-at : (n place : ℕ) (cs : List Count) (e : Execution) (d : Count) → e.serial ≡ n + place → place < length cs →
    set cs place (together (get_or cs place d) (count 1 e.length)) ≡ each_added n cs (e ∷ [])
one-at n place [] e d is within = absurd (omega arith)
one-at n zero (c ∷ cs) e d is within =
    ap₂ (λ (x : Count) (xs : List Count). x ∷ xs) (sym (one-same c e n (is ∙ add-zero n)))
    (sym (one-outside (n + 1) cs e (inl (omega arith))))
one-at n (suc place) (c ∷ cs) e d is within =
    ap₂ (λ (x : Count) (xs : List Count). x ∷ xs) (sym (one-other c e n (λ same. absurd (omega arith))))
    (one-at (n + 1) place cs e d (omega arith) (omega arith))

-- ---- how much is counted
each-weaker : {X : Type 0} (P Q : X → Type 0) (xs : List X) → ((x : X) → P x → Q x) → Each P xs → Each Q xs
each-weaker P Q [] weaker all = tt
each-weaker P Q (x ∷ xs) weaker all = (weaker x all.0, each-weaker P Q xs weaker all.1)

each-taken : {X : Type 0} (P : X → Type 0) (i : ℕ) (xs : List X) → Each P xs → Each P (take i xs)
each-taken P zero xs all = tt
each-taken P (suc i) [] all = tt
each-taken P (suc i) (x ∷ xs) all = (all.0, each-taken P i xs all.1)

abbrev IsShort : ℕ × ℕ → Type 0
IsShort pair = pair.1 ≤ 262144

pub run-taken : (i : ℕ) (run : List (ℕ × ℕ)) → IsShortRun run → IsShortRun (take i run)
run-taken i run short = (rw length-take (omega (arith, short.0)), each-taken IsShort i run short.1)

-- the executions of a run at one serial
packets-le : (run : List (ℕ × ℕ)) (serial : ℕ) → (count_at (map execution run) serial).packets ≤ length run
packets-le run serial =
    let le = count_by-le-length (λ (e : Execution). e.serial == serial) (map execution run) in
    omega (arith, le, length-map run execution)

one-le : (pair : ℕ × ℕ) (b : Bool) → pair.1 ≤ 262144 → cond b pair.1 0 ≤ 262144
one-le pair true short = short
one-le pair false short = omega arith

bytes-le : (run : List (ℕ × ℕ)) (serial : ℕ) → Each IsShort run → (count_at (map execution run) serial).bytes ≤ length run * 262144
bytes-le [] serial short = omega arith
bytes-le (pair ∷ run) serial short =
    let rest = bytes-le run serial short.1 in
    let step = sum_by-cons (λ (e : Execution). cond (e.serial == serial) e.length 0) (execution pair) (map execution run) in
    let first = one-le pair (pair.0 == serial) short.0 in
    omega arith

-- counts of so much at most
abbrev Within : ℕ → ℕ → Count → Type 0
Within packets bytes c = (c.packets ≤ packets) × (c.bytes ≤ bytes)

grown : (packets bytes n : ℕ) (cs : List Count) (run : List (ℕ × ℕ)) → Each (Within packets bytes) cs → Each IsShort run →
    Each (Within (packets + length run) (bytes + length run * 262144)) (each_added n cs (map execution run))
grown packets bytes n [] run within short = tt
grown packets bytes n (c ∷ cs) run within short =
    let more-packets = packets-le run n in
    let more-bytes = bytes-le run n short in
    ((omega arith, omega arith), grown packets bytes (n + 1) cs run within.1 short)

pub room-left : (cs : List Count) (run : List (ℕ × ℕ)) → Each HasRoomForRun cs → IsShortRun run → Each HasRoom (each_added 1 cs (map execution run))
room-left cs run room short =
    each-weaker (Within (2 ^ 62 + length run) (2 ^ 62 + length run * 262144)) HasRoom (each_added 1 cs (map execution run))
    (λ c grew. (omega arith, omega arith)) (grown (2 ^ 62) (2 ^ 62) 1 cs run room short.1)

-- after at most 1,048,576 walks there is room for one more
pub room-for-run : (walks : ℕ) (cs : List Count) → AreFew walks cs → walks ≤ 1048576 → Each HasRoomForRun cs
room-for-run walks cs few most = each-weaker (Within (walks * 65536) (walks * 17179869184)) HasRoomForRun cs (λ c all. (omega arith, omega arith)) few

pub few-more : (walks : ℕ) (cs : List Count) (run : List (ℕ × ℕ)) → AreFew walks cs → IsShortRun run → AreFew (walks + 1) (each_added 1 cs (map execution run))
few-more walks cs run few short =
    each-weaker (Within (walks * 65536 + length run) (walks * 17179869184 + length run * 262144))
    (Within ((walks + 1) * 65536) ((walks + 1) * 17179869184))
    (each_added 1 cs (map execution run)) (λ c grew. (omega arith, omega arith)) (grown (walks * 65536) (walks * 17179869184) 1 cs run few short.1)

none-few : (n actions : ℕ) → AreFew 0 (counts_from n actions [])
none-few n zero = tt
none-few n (suc actions) = ((omega arith, omega arith), none-few (n + 1) actions)

pub few-none : (actions : ℕ) → AreFew 0 (no_counts actions)
few-none actions = none-few 1 actions

-- ---- one pair more
pub added-more : (cs new : List Count) (run : List (ℕ × ℕ)) (i : ℕ) (d : ℕ × ℕ) → i < length run →
    new ≡ each_added 1 (each_added 1 cs (map execution (take i run))) (execution (get_or run i d) ∷ []) →
    new ≡ each_added 1 cs (map execution (take (i + 1) run))
added-more cs new run i d within is =
    is ∙ sym (added-append 1 cs (map execution (take i run)) (execution (get_or run i d) ∷ []))
    ∙ ap (each_added 1 cs) (sym (map_more execution run i d within))
