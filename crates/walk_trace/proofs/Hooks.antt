-- No answer takes a walk to another hook.
use Rattle.std.proofs.Common.{◌≡◌, ◌==◌, Bool, true, false, cond, ◌∷◌, [], List, ℕ, length, refl}
use Rattle.act_list.specs.declared.run.Ending.{Ending}
use Rattle.act_list.specs.declared.run.Ending.TheVariants as endings
use Rattle.act_list.specs.Run.{Stand, on, over, stand_after}
use Rattle.act_kinds.specs.Acts.{control_given}
use Rattle.tc_base.specs.declared.hook.Hook.{Hook}
use Rattle.walk_rules.specs.Questions.{Head, Answer, told_heads, told_no_filter, told_actions, told_params}
use Rattle.walk_rules.specs.Steps.{Place, at_head, at_mask, at_action, Standing, after_list, after_action, after_found, after_at, after, ran, action_at}

of_two : (hook : Hook) (b : Bool) (one other : Standing) → one.hook ≡ hook → other.hook ≡ hook → (cond b one other).hook ≡ hook
of_two hook true one other e f = e
of_two hook false one other e f = f

list_hooked : (st : Standing) (head : Head) (tables : List Head) (ending : Ending) → (after_list st head tables ending).hook ≡ st.hook
list_hooked st head tables endings.Accept = refl
list_hooked st head tables endings.Pipe = refl
list_hooked st head tables endings.Shot = refl
list_hooked st head tables endings.Unspec = refl
list_hooked st head tables endings.Reclassify = of_two st.hook (st.restarts == 0) _ _ refl refl
list_hooked st head tables (endings.Goto chain) = of_two st.hook (st.restarts == 0) _ _ refl refl

action_hooked : (st : Standing) (head : Head) (actions : List ℕ) (tables : List Head) (stand : Stand) → (after_action st head actions tables stand).hook ≡ st.hook
action_hooked st head actions tables (on position jumps) = refl
action_hooked st head actions tables (over ending) = list_hooked st head tables ending

found_hooked : (st : Standing) (head : Head) (tables : List Head) (actions : List ℕ) → (after_found st head tables actions).hook ≡ st.hook
found_hooked st head tables [] = refl
found_hooked st head tables (action ∷ actions) = refl

hooked_at : (st : Standing) (place : Place) (answer : Answer) → (after_at st place answer).hook ≡ st.hook
hooked_at st (at_mask head (mask ∷ masks) tables) (told_actions actions) = found_hooked st head tables actions
hooked_at st (at_action head actions position jumps tables) (told_params params) =
    action_hooked (ran st (action_at actions position) params) head actions tables (stand_after (length actions) position jumps (control_given params st.frame))
hooked_at st at_head (told_heads heads) = refl
hooked_at st (at_mask head (mask ∷ masks) tables) told_no_filter = refl
hooked_at st place answer = refl

pub same_hook : (st : Standing) (answer : Answer) → (after st answer).hook ≡ st.hook
same_hook st answer = hooked_at st st.place answer
