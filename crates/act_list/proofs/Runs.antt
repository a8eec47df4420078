-- Steps of a run, and the ends that they come to.
use Rattle.std.proofs.Common.{◌≡◌, ℕ, zero, suc, ◌+◌, ◌-◌, ◌<◌, ◌==◌, ◌||◌, nat_le, Bool, true, false, if◌then◌else◌, List, ◌∷◌, length, drop, get_or, refl, sym, ap, ◌∙◌, arith, eqb-true}
use Rattle.std.proofs.lemmas.Bool.Decides.{nat_tests}
use Rattle.std.proofs.lemmas.List.{at_drop_more, drop_all}
use Rattle.act_kinds.specs.declared.params.Control.{Control}
use Rattle.act_kinds.specs.declared.params.Control.TheVariants as controls
use Rattle.act_list.specs.declared.run.Ending.{Ending}
use Rattle.act_list.specs.declared.run.Ending.TheVariants as endings
use Rattle.act_list.specs.declared.run.Next.{Next}
use Rattle.act_list.specs.declared.run.Next.TheVariants as nexts
use Rattle.act_list.specs.Run.{Run, Stand, on, over, stand_after, after, told, moved}
use Rattle.act_list.specs.Endings.{ending_from}

-- how a list ends from where a run of it stands
abbrev pub ending_at : List Control → Stand → Ending
ending_at all (on at jumps) = ending_from all jumps (drop at all)
ending_at all (over ending) = ending

pipe-case : (all : List Control) (at jumps : ℕ) (last : Bool) → (at + 1 == length all) ≡ last → ending_from all jumps (drop (at + 1) all) ≡ ending_at all (if last then over endings.Pipe else on (at + 1) jumps)
pipe-case all at jumps true is = let end : at + 1 ≡ length all = eqb-true _ _ is in rw (drop_all (at + 1) all (omega (arith, end))) refl
pipe-case all at jumps false is = refl

jump-none : (all : List Control) (to less : ℕ) (first far : Bool) → endings.Accept ≡ ending_at all (if first || (far || true) then over endings.Accept else on to less)
jump-none all to less true far = refl
jump-none all to less false true = refl
jump-none all to less false false = refl

jump-some : (all : List Control) (to jumps less : ℕ) (first far none : Bool) → none ≡ false → less ≡ jumps → (if first || far then endings.Accept else ending_from all jumps (drop to all)) ≡ ending_at all (if first || (far || none) then over endings.Accept else on to less)
jump-some all to jumps less true far none are-some is-less = refl
jump-some all to jumps less false true none are-some is-less = refl
jump-some all to jumps less false false none are-some is-less = rw (are-some, is-less) refl

-- the recursion of the ending goes as a run does
step-ends : (all : List Control) (at jumps : ℕ) (control : Control) → ending_from all jumps (control ∷ drop (at + 1) all) ≡ ending_at all (stand_after (length all) at jumps control)
step-ends all at jumps controls.Accept = refl
step-ends all at jumps controls.Shot = refl
step-ends all at jumps controls.Unspec = refl
step-ends all at jumps controls.Reclassify = refl
step-ends all at jumps (controls.Goto chain) = refl
step-ends all at jumps controls.Pipe = pipe-case all at jumps (at + 1 == length all) refl
step-ends all at zero (controls.Jump to) = jump-none all to (zero - 1) (to == 0) (nat_le (length all) to)
step-ends all at (suc jumps) (controls.Jump to) = jump-some all to jumps (suc jumps - 1) (to == 0) (nat_le (length all) to) (suc jumps == 0) (grind (arith, nat_tests)) (omega arith)

goes-on : (all : List Control) (run new : Run) (next : Next) (place : ℕ) (stand : Stand) → run.ended ≡ false → run.length ≡ length all → next ≡ told stand → new ≡ moved run stand → next ≡ nexts.At place → (new.ended ≡ false) × (new.length ≡ length all) × (ending_from all new.jumps (drop new.at all) ≡ ending_at all stand)
goes-on all run new next place (on at jumps) going same is-told is-moved is-at = rw is-moved (going, same, refl)
goes-on all run new next place (over ending) going same is-told is-moved is-at = absurd (grind (arith, is-told, is-at))

-- a step that doesn't end the run keeps how the list ends
pub steps-on : (all : List Control) (run new : Run) (next : Next) (place at : ℕ) → run.ended ≡ false → run.length ≡ length all → at ≡ run.at → run.at < length all → next ≡ told (after run (get_or all at controls.Accept)) → new ≡ moved run (after run (get_or all at controls.Accept)) → next ≡ nexts.At place → (new.ended ≡ false) × (new.length ≡ length all) × (ending_from all new.jumps (drop new.at all) ≡ ending_from all run.jumps (drop run.at all))
steps-on all run new next place at going same here within is-told is-moved is-at =
    let control = get_or all run.at controls.Accept in
    let told' : next ≡ told (after run control) = is-told ∙ ap (λ n. told (after run (get_or all n controls.Accept))) here in
    let moved' : new ≡ moved run (after run control) = is-moved ∙ ap (λ n. moved run (after run (get_or all n controls.Accept))) here in
    let rest = goes-on all run new next place (after run control) going same told' moved' is-at in
    let stand : after run control ≡ stand_after (length all) run.at run.jumps control = ap (λ n. stand_after n run.at run.jumps control) same in
    let step : ending_from all run.jumps (drop run.at all) ≡ ending_from all run.jumps (control ∷ drop (run.at + 1) all) =
    at_drop_more (ending_from all run.jumps) all run.at controls.Accept within in
    (rest.0, rest.1, rest.2 ∙ ap (ending_at all) stand ∙ sym (step-ends all run.at run.jumps control) ∙ sym step)
