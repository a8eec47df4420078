-- The lowest free index, looked for from one below which all are used.
use Rattle.std.proofs.Common.{◌≡◌, ℕ, zero, suc, ◌+◌, ◌-◌, ◌<◌, ◌≤◌, Bool, true, false, cond, not, List, length, Option, Some, None, refl, sym, ◌∙◌, ap, arith}
use Rattle.std.specs.Prelude.{find, unwrap_or, is_some, if◌then◌else◌}
use Rattle.std.specs.List.{range_with_len}
use Rattle.std.proofs.lemmas.Bool.{false≢true}
use Rattle.std.proofs.lemmas.List.{length-map}
use Rattle.act_kinds.specs.declared.params.Kind.{Kind}
use Rattle.act_kinds.specs.declared.params.Params.{Params}
use Rattle.act_kinds.specs.Params.{kind_number, number_of_kind}
use Rattle.act_registry.specs.declared.entry.Entry.{Entry}
use Rattle.act_registry.specs.Entries as entries
use Rattle.act_registry.specs.Kept as registries
use Rattle.filter_state.specs.Actions.{is_live, first_free, free_index, serial_of}
use Rattle.action_plan.specs.declared.planned.PlannedAction.{PlannedAction}
use Rattle.action_plan.specs.Entries.{action_of, actions_of}
use Rattle.action_plan.specs.Plans.{made_of, carried, AreFit, made_by, serial_to_make}
use Rattle.action_plan.proofs.Entries.{used_live}
use Rattle.action_plan.proofs.Named.{or_serial, serial_carried, live_serial}
use Rattle.action_plan.proofs.Counts.{length_carried}

-- ---- one step
first_used : (used : ℕ → Bool) (left index : ℕ) → used index ≡ true → first_free used (suc left) index ≡ first_free used left (index + 1)
first_used used left index is = ap (λ b. if b then first_free used left (index + 1) else index) is

first_unused : (used : ℕ → Bool) (left index : ℕ) → used index ≡ false → first_free used (suc left) index ≡ index
first_unused used left index is = ap (λ b. if b then first_free used left (index + 1) else index) is

pub used_on : (used : ℕ → Bool) (left index : ℕ) → 0 < left → used index ≡ true → first_free used left index ≡ first_free used (left - 1) (index + 1)
used_on used zero index some is = absurd (omega (arith, some))
used_on used (suc left) index some is = first_used used left index is ∙ ap (λ n. first_free used n (index + 1)) one_less
  where
    one_less : left ≡ suc left - 1
    one_less = omega arith

pub none_left : (used : ℕ → Bool) (left index : ℕ) → left ≡ 0 → first_free used left index ≡ index
none_left used zero index none = refl
none_left used (suc left) index none = absurd (omega (arith, none))

pub unused_here : (used : ℕ → Bool) (left index : ℕ) → used index ≡ false → first_free used left index ≡ index
unused_here used zero index is = refl
unused_here used (suc left) index is = first_unused used left index is

-- ---- those below are used
skipped : (used : ℕ → Bool) (below left least : ℕ) → ((n : ℕ) → least ≤ n → n < least + below → used n ≡ true) →
    first_free used (below + left) least ≡ first_free used left (least + below)
skipped used zero left least all =
    let none : 0 + left ≡ left = omega arith in
    let here : least ≡ least + 0 = omega arith in
    ap (λ n. first_free used n least) none ∙ ap (first_free used left) here
skipped used (suc below) left least all =
    let one_more : suc below + left ≡ suc (below + left) = omega arith in
    let further : least + 1 + below ≡ least + suc below = omega arith in
    ap (λ n. first_free used n least) one_more ∙ first_used used (below + left) least (all least (omega arith) (omega arith))
    ∙ skipped used below left (least + 1) (λ n from to. all n (omega (arith, from)) (omega (arith, to)))
    ∙ ap (first_free used left) further

-- ---- where the registry's lowest stands
within_step : (b : Bool) (least bound : ℕ) (found : Option ℕ) → least < bound → unwrap_or found 0 < bound → unwrap_or (cond b (Some least) found) 0 < bound
within_step true least bound found here rest = here
within_step false least bound found here rest = rest

lowest_within : (p : ℕ → Bool) (count least bound : ℕ) → least + count ≤ bound → 0 < bound → unwrap_or (find p (range_with_len least count)) 0 < bound
lowest_within p zero least bound most some = some
lowest_within p (suc count) least bound most some =
    within_step (p least) least bound (find p (range_with_len (least + 1) count)) (omega (arith, most)) (lowest_within p count (least + 1) bound (omega (arith, most)) some)

pub registry_within : (kind : ℕ) (es : List (Entry Params)) (index : ℕ) → index ≡ entries.lowest_unused kind_number kind es → index ≤ length es + 1
registry_within kind es index is =
    omega (arith, is, lowest_within (λ n. not (entries.is_used kind_number kind es n)) (length es + 1) 1 (length es + 2) (omega arith) (omega arith))

-- ---- an index that the registry uses is used after a plan too
or_some : (o rest : Option ℕ) → is_some o ≡ true → is_some (or_serial o rest) ≡ true
or_some (Some serial) rest some = refl
or_some None rest some = absurd (false≢true some)

still_used : (kind : Kind) (r : registries.Kept Params) (plan : List PlannedAction) (index : ℕ) → AreFit (made_of r) plan →
    entries.is_used kind_number (number_of_kind kind) r.entries index ≡ true → is_live kind index (carried (made_of r) plan).actions ≡ true
still_used kind r plan index fit used =
    live_serial kind index (carried (made_of r) plan).actions
    ∙ ap (λ (o : Option ℕ). is_some o) (serial_carried kind index (made_of r) plan fit)
    ∙ or_some (serial_of kind index (actions_of r.entries)) (serial_to_make kind index plan)
    (sym (live_serial kind index (actions_of r.entries)) ∙ sym (used_live kind r.entries index) ∙ used)

-- the search from the registry's lowest is the search from 1
pub from_lowest : (kind : Kind) (r : registries.Kept Params) (plan : List PlannedAction) (index left : ℕ) → AreFit (made_of r) plan →
    1 ≤ index → index + left ≡ length r.entries + made_by plan + 1 →
    ((below : ℕ) → 1 ≤ below → below < index → entries.is_used kind_number (number_of_kind kind) r.entries below ≡ true) →
    first_free (λ n. is_live kind n (carried (made_of r) plan).actions) left index ≡ free_index kind (carried (made_of r) plan).actions
from_lowest kind r plan index left fit from sum lowest =
    let used : ℕ → Bool = λ n. is_live kind n (carried (made_of r) plan).actions in
    let from_one : index ≡ 1 + (index - 1) = omega (arith, from) in
    let in_all : index - 1 + left ≡ length (carried (made_of r) plan).actions =
    omega (arith, from, sum, length_carried (made_of r) plan, length-map r.entries action_of) in
    ap (first_free used left) from_one
    ∙ sym (skipped used (index - 1) left 1 (λ n least most. still_used kind r plan n fit (lowest n least (omega (arith, most, from)))))
    ∙ ap (λ n. first_free used n 1) in_all
