-- What words read as an action is the one action whose words they are.
use Rattle.std.proofs.Common.{◌≡◌, ◌∙◌, ◌⊎◌, inl, inr, ℕ, ◌-◌, ◌/◌, ◌%◌, ◌<◌, List, length, get_or, Option, Some, None, refl, sym, ap, subst, arith}
use Rattle.std.specs.Prelude.{◌==◌, ◌&&◌, Bool, true, false, slice_range, unwrap_or, IfSome, if◌then◌else◌}
use Rattle.std.specs.Str.{bytes_eq}
use Rattle.std.specs.Option.{option_map}
use Rattle.std.proofs.lemmas.Bool.{true≢false}
use Rattle.std.proofs.lemmas.Bool.Decides.{nat_tests}
use Rattle.act_kinds.specs.declared.params.Control.{Control}
use Rattle.act_kinds.specs.declared.params.Control.TheVariants as controls
use Rattle.act_kinds.specs.declared.params.VlanOp.{VlanOp}
use Rattle.act_kinds.specs.declared.params.VlanOp.TheVariants as ops
use Rattle.act_kinds.specs.declared.params.Params.{Params}
use Rattle.act_kinds.specs.declared.params.Params.TheVariants as params
use Rattle.act_kinds.specs.Ranges.{IsControl}
use Rattle.block_codec.specs.declared.action.StoredAction.{StoredAction}
use Rattle.block_codec.specs.Blocks.{IsTheOnly}
use Rattle.block_codec.specs.Parameters.{params_words, AreStorable, FitsOp, FitParams, AreParamsIn}
use Rattle.block_codec.specs.ReadingParameters.{priority_in, vlan_in, given_if, skbedit_in, vlan_with, params_with, params_in, control_in}
use Rattle.block_codec.specs.Actions.{IsActionBlock}
use Rattle.std.proofs.lemmas.Slice.Eq.{bytes_eq-Decides}
use Rattle.block_codec.proofs.Standing.{none_only, part_at}
use Rattle.block_codec.proofs.Giving.{read_back, equal_words}
use Rattle.block_codec.proofs.Acting as actions
use Rattle.block_codec.specs.OfReadings.Read.{link_in, is_within, is_storable, checked, params_of_words, is_action, action_with, action_of_words}
use Rattle.block_codec.proofs.OfReadings.Testing.{action_has, action_tested}
use Rattle.block_codec.proofs.OfReadings.Only.{linked}

the_one : {A : Type 0} (a b : A) → Some a ≡ Some b → a ≡ b
the_one a b e = ap (λ o. unwrap_or o a) e

same_bytes : (xs ys : List ℕ) → bytes_eq xs ys ≡ true → xs ≡ ys
same_bytes xs ys e = (bytes_eq-Decides xs ys).0 e

-- ---- what is read fits
fits_if : (flag number most : ℕ) → number < most → IfSome (given_if flag number) (λ n. n < most)
fits_if flag number most low = pick (flag == 1)
  where
    pick : (t : Bool) → IfSome (if t then Some number else None) (λ n. n < most)
    pick true = low
    pick false = tt

fits_priority : (word : ℕ) → IfSome (priority_in word) (λ n. n < 256)
fits_priority word = pick (word == 0)
  where
    pick : (t : Bool) → IfSome (if t then None else Some ((word - 1) % 256)) (λ n. n < 256)
    pick true = tt
    pick false = omega arith

fits_vlan : (number tag priority : ℕ) (op : VlanOp) → vlan_in number tag priority ≡ Some op → FitsOp op
fits_vlan number tag priority op e = pick (number == 1) (number == 2) (number == 3) e
  where
    push : VlanOp
    push = ops.Push (tag / 4294967296 % 65536) (tag % 65536) ((priority - 1) % 256)

    modify : VlanOp
    modify = ops.Modify (tag / 4294967296 % 65536) (tag % 65536) (priority_in priority)

    pick : (a b c : Bool) → (if a then Some push else if b then Some ops.Pop else if c then Some modify else None) ≡ Some op → FitsOp op
    pick true b c is = subst FitsOp (the_one push op is) (omega arith, omega arith, omega arith)
    pick false true c is = subst FitsOp (the_one ops.Pop op is) tt
    pick false false true is = subst FitsOp (the_one modify op is) (omega arith, omega arith, fits_priority priority)
    pick false false false is = absurd (cc (is))

fits_with : (kind a b c : ℕ) (control : Option Control) (given : Params) → b < 18446744073709551616 → params_with kind control a b c ≡ Some given → FitParams given
fits_with kind a b c None given low e = absurd (cc (e))
fits_with kind a b c (Some control) given low e = pick (kind == 1) (kind == 2) (kind == 3) e
  where
    tag : (op : Option VlanOp) → vlan_in a b c ≡ op → vlan_with control op ≡ Some given → FitParams given
    tag None was is = absurd (cc (is))
    tag (Some op) was is = subst FitParams (the_one (params.Vlan op control) given is) (fits_vlan a b c op was)

    pick : (x y z : Bool) → (if x then Some (params.Gact control) else if y then vlan_with control (vlan_in a b c) else if z then Some (skbedit_in a b c control) else None) ≡ Some given → FitParams given
    pick true y z is = subst FitParams (the_one (params.Gact control) given is) tt
    pick false true z is = tag (vlan_in a b c) refl is
    pick false false true is = subst FitParams (the_one (skbedit_in a b c control) given is)
        (fits_if (a % 2) (b % 4294967296) 4294967296 (omega arith), fits_if (a / 2 % 2) (b / 4294967296) 4294967296 (omega arith), fits_if (a / 4 % 2) (c % 65536) 65536 (omega arith))
    pick false false false is = absurd (cc (is))

-- ---- what may be stored
within : (control : Control) → is_within control ≡ true → IsControl control
within controls.Accept e = tt
within controls.Shot e = tt
within controls.Unspec e = tt
within controls.Pipe e = tt
within controls.Reclassify e = tt
within (controls.Jump place) e = grind (arith, nat_tests, e)
within (controls.Goto chain) e = grind (arith, nat_tests, e)

within_test : (control : Control) → IsControl control → is_within control ≡ true
within_test controls.Accept is = refl
within_test controls.Shot is = refl
within_test controls.Unspec is = refl
within_test controls.Pipe is = refl
within_test controls.Reclassify is = refl
within_test (controls.Jump place) is = grind (arith, nat_tests, is)
within_test (controls.Goto chain) is = grind (arith, nat_tests, is)

storable : (given : Params) → is_storable given ≡ true → AreStorable given
storable (params.Gact control) e = within control e
storable (params.Vlan op control) e = within control e
storable (params.Skbedit priority mark queue control) e = within control e

storable_test : (given : Params) → AreStorable given → is_storable given ≡ true
storable_test (params.Gact control) is = within_test control is
storable_test (params.Vlan op control) is = within_test control is
storable_test (params.Skbedit priority mark queue control) is = within_test control is

-- ---- parameters
pub params_only : (part : List ℕ) → get_or part 3 0 < 18446744073709551616 → IsTheOnly (AreParamsIn part) (params_of_words part)
params_only part fits = by (params_in part) refl
  where
    none : (given : Params) → params_in part ≡ Some given → is_storable given ≡ false ⊎ (bytes_eq (params_words given) part ≡ false) → IsTheOnly (AreParamsIn part) None
    none given was lacks = none_only (AreParamsIn part) (λ other is. lost other is (the_one given other (sym was ∙ read_back part other is)) lacks)
      where
        lost : (other : Params) → AreParamsIn part other → given ≡ other → is_storable given ≡ false ⊎ (bytes_eq (params_words given) part ≡ false) → ⊥
        lost other is same (inl e) = true≢false (sym (storable_test given (subst AreStorable (sym same) is.storable)) ∙ e)
        lost other is same (inr e) = true≢false (sym (equal_words (params_words given) part (ap params_words same ∙ sym is.words_are)) ∙ e)

    some : (given : Params) → params_in part ≡ Some given → (a b : Bool) → is_storable given ≡ a → bytes_eq (params_words given) part ≡ b → IsTheOnly (AreParamsIn part) (if a && b then Some given else None)
    some given was true true x y = record {
      found = record { storable = storable given x; fit = fits_with (get_or part 0 0) (get_or part 2 0) (get_or part 3 0) (get_or part 4 0) (control_in (get_or part 1 0)) given fits was; words_are = sym (same_bytes (params_words given) part y) };
      only = λ other is. sym was ∙ read_back part other is;
    }
    some given was false b x y = none given was (inl x)
    some given was true false x y = none given was (inr y)

    by : (found : Option Params) → params_in part ≡ found → IsTheOnly (AreParamsIn part) (checked part found)
    by None was = none_only (AreParamsIn part) (λ other is. absurd (cc (was, read_back part other is)))
    by (Some given) was = some given was (is_storable given) (bytes_eq (params_words given) part) refl refl

-- ---- the action
pub action_only : (words : List ℕ) → length words ≡ 40 → ((place : ℕ) → get_or words place 0 < 18446744073709551616)
    → IsTheOnly (IsActionBlock words) (option_map (λ (it : StoredAction). (it, link_in words)) (action_of_words words))
action_only words wide fits = by (is_action words) refl
  where
    part : List ℕ
    part = slice_range words 2 7

    only : IsTheOnly (AreParamsIn part) (params_of_words part)
    only = params_only part (subst (λ (n : ℕ). n < 18446744073709551616) (sym (part_at words 2 7 3 (omega arith))) (fits 5))

    given_by : (found : Option Params) → params_of_words part ≡ found → is_action words ≡ true
        → IsTheOnly (IsActionBlock words) (option_map (λ (it : StoredAction). (it, link_in words)) (option_map (action_with words) found))
    given_by None was e = actions.none_given words wide (λ given is. absurd (cc (was, only.only given is)))
    given_by (Some given) was e = actions.some_read words _ _ given (link_in words) wide fits (action_has words e) refl refl (linked (get_or words 39 0))
        (subst (λ (found : Option Params). IfSome found (AreParamsIn part)) was only.found) (λ other is. sym was ∙ only.only other is)

    by : (t : Bool) → is_action words ≡ t → IsTheOnly (IsActionBlock words) (option_map (λ (it : StoredAction). (it, link_in words)) (if t then option_map (action_with words) (params_of_words part) else None))
    by true e = given_by (params_of_words part) refl e
    by false e = actions.none_read words wide (λ has. true≢false (sym (action_tested words has) ∙ e))
