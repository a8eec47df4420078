-- Shared actions: found by kind and index, made, bound and unbound (the kernel's tcf_idr_create and its kin,
-- net/sched/act_api.c).
use Rattle.std.specs.Prelude.{ℕ, suc, zero, ◌+◌, ◌-◌, ◌==◌, ◌&&◌, Bool, true, false, not, List, [], ◌∷◌, ◌++◌}
use Rattle.std.specs.Prelude.{length, map, filter, fold, Option, Some, None, if◌then◌else◌, Result, Ok, Err}
use Rattle.std.specs.List.{list_any}
use Rattle.act_kinds.specs.declared.params.Kind.{Kind}
use Rattle.act_kinds.specs.declared.params.Kind.TheVariants as kinds
use Rattle.act_kinds.specs.declared.params.Params.{Params}
use Rattle.act_kinds.specs.Params.{kind_of}
use Rattle.filter_state.specs.declared.action_line.ActionLine.{ActionLine}
use Rattle.filter_state.specs.declared.refusal.Refusal.{Refusal}
use Rattle.filter_state.specs.declared.refusal.Refusal.TheVariants as refusals
use Rattle.filter_state.specs.States.{Action}

abbrev pub kind_eq : Kind → Kind → Bool
kind_eq kinds.Gact kinds.Gact = true
kind_eq kinds.Vlan kinds.Vlan = true
kind_eq kinds.Skbedit kinds.Skbedit = true
kind_eq a b = false

-- the action has that kind and index
abbrev pub is_named : Kind → ℕ → Action → Bool
is_named kind index action = kind_eq (kind_of action.params) kind && action.index == index

abbrev pub is_live : Kind → ℕ → List Action → Bool
is_live kind index actions = list_any (is_named kind index) actions

-- the first number from a least one that isn't used, where so many are looked at
abbrev pub first_free : (ℕ → Bool) → ℕ → ℕ → ℕ
first_free used zero least = least
first_free used (suc more) least = if used least then first_free used more (least + 1) else least

-- the lowest index from 1 that the kind doesn't use: so many actions leave one of the first so many and one
-- free
abbrev pub free_index : Kind → List Action → ℕ
free_index kind actions = first_free (λ index. is_live kind index actions) (length actions) 1

-- what a change makes of the entries that pass a test
abbrev pub change_where : {X : Type 0} → (X → Bool) → (X → X) → List X → List X
change_where test change xs = map (λ x. if test x then change x else x) xs

abbrev pub more_bound : Action → Action
more_bound action = record action { references = action.references + 1; binds = action.binds + 1 }

abbrev pub less_bound : Action → Action
less_bound action = record action { references = action.references - 1; binds = action.binds - 1 }

abbrev pub has_serial : ℕ → Action → Bool
has_serial serial action = action.serial == serial

abbrev pub is_referred : Action → Bool
is_referred action = not (action.references == 0)

-- both counts of an action lowered; at 0 references it is gone
abbrev pub unbound : ℕ → List Action → List Action
unbound serial actions = filter is_referred (change_where (has_serial serial) less_bound actions)

-- the actions of lists that are gone: both counts are lowered for each place
abbrev pub all_unbound : List ℕ → List Action → List Action
all_unbound serials actions = fold (λ left serial. unbound serial left) actions serials

-- actions, and how many were made so far
pub record Made : Type 0 where
  pub actions : List Action
  pub made : ℕ

-- an action more, with the next serial: one of a filter is bound, one apart from filters is not
abbrev pub made_more : Made → Params → ℕ → ℕ → Made
made_more so_far params index binds = record {
  actions = so_far.actions
      ++ (record { serial = so_far.made + 1; index = index; params = params; references = 1; binds = binds }
      ∷ []);
  made = so_far.made + 1;
}

-- the index that is given, or the lowest free one
abbrev pub index_or_free : Option ℕ → Kind → List Action → ℕ
index_or_free (Some index) kind actions = index
index_or_free None kind actions = free_index kind actions

-- the serial of the action of that kind and index
abbrev pub serial_of : Kind → ℕ → List Action → Option ℕ
serial_of kind index [] = None
serial_of kind index (action ∷ actions) = if is_named kind index action then Some action.serial
    else serial_of kind index actions

-- actions with a list of serials that name some of them
pub record Resolved : Type 0 where
  pub so_far : Made
  pub serials : List ℕ

abbrev pub bound_more : Resolved → Kind → ℕ → ℕ → Resolved
bound_more r kind index serial = record {
  so_far = record {
    actions = change_where (is_named kind index) more_bound r.so_far.actions;
    made = r.so_far.made;
  };
  serials = r.serials ++ (serial ∷ []);
}

abbrev pub made_bound : Resolved → Params → ℕ → Resolved
made_bound r params index = record {
  so_far = made_more r.so_far params index 1;
  serials = r.serials ++ ((r.so_far.made + 1) ∷ []);
}

-- what follows an answer that is no refusal
abbrev pub and_then : {A B : Type 0} → (A → Result B Refusal) → Result A Refusal → Result B Refusal
and_then more (Ok it) = more it
and_then more (Err refusal) = Err refusal

-- an action of a filter that is there is bound, and what else the line says of it is ignored; else it is
-- made, where the line writes it in full
abbrev pub bound_or_made : Resolved → ActionLine → ℕ → Option ℕ → Option Params → Result Resolved Refusal
bound_or_made r line index (Some serial) given = Ok (bound_more r line.kind index serial)
bound_or_made r line index None (Some params) = Ok (made_bound r params index)
bound_or_made r line index None None = Err (refusals.NoSuchAction line.kind index)

abbrev pub resolved_at : Resolved → ActionLine → ℕ → Result Resolved Refusal
resolved_at r line index = bound_or_made r line index (serial_of line.kind index r.so_far.actions) line.params

abbrev pub resolved_by : Resolved → ActionLine → Result Resolved Refusal
resolved_by r line = resolved_at r line (index_or_free line.index line.kind r.so_far.actions)

-- the actions of a filter in order, so that a later one may bind what an earlier one made
abbrev pub resolved : Resolved → List ActionLine → Result Resolved Refusal
resolved r [] = Ok r
resolved r (line ∷ lines) = and_then (λ next. resolved next lines) (resolved_by r line)
