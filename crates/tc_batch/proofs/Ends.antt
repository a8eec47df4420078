-- A line may end in a state exactly where the state has an edit.
use Rattle.std.proofs.Common.{◌≡◌, ℕ, zero, suc, Bool, true, false, List, [], ◌∷◌, ◌++◌, Some, None, refl, sym, ap, inl, inr}
use Rattle.std.specs.Prelude.{is_some, if◌then◌else◌}
use Rattle.act_kinds.specs.declared.params.Kind.{Kind}
use Rattle.act_kinds.specs.declared.params.Kind.TheVariants as kinds
use Rattle.act_kinds.specs.declared.params.Params.{Params}
use Rattle.filter_state.specs.declared.action_line.ActionLine.{ActionLine}
use Rattle.filter_state.specs.declared.edit.Edit.{Edit}
use Rattle.tc_batch.specs.declared.draft.Head.{Head}
use Rattle.tc_batch.specs.States.{Context, State}
use Rattle.tc_batch.specs.declared.stage.Place.{Place}
use Rattle.tc_batch.specs.declared.stage.Place.TheVariants as places
use Rattle.tc_batch.specs.States.{State}
use Rattle.tc_batch.specs.Options.{may_end, del_edit}
use Rattle.tc_batch.specs.Fields.{filter_edit}
use Rattle.tc_batch.specs.Actions.{tag_params, has_mark, mark_params, full_action}
use Rattle.tc_batch.specs.Grammar.{Tail, Placed, AfterKind, ActionList}
use Rattle.tc_batch.specs.Machine.{site_of, ends_action, ends_place, edit_at}
use Rattle.tc_batch.proofs.Languages.{After, ActionLanguage, Language}

may : (b : Bool) (edit given : Edit) → b ≡ true → edit ≡ given → (if b then Some given else None) ≡ Some edit
may true edit given is same = ap (λ (e : Edit). Some e) (sym same)
may false edit given is same = absurd (cc is)

may_back : (b : Bool) (edit given : Edit) → (if b then Some given else None) ≡ Some edit → (b ≡ true) × (edit ≡ given)
may_back true edit given is = (refl, cc is)
may_back false edit given is = absurd (cc is)

list_end : (edit : Edit) (head : Head) (actions : List ActionLine) (more : ℕ) → ActionList more head edit actions [] → edit ≡ filter_edit head actions
list_end edit head actions zero (ends, is) = is
list_end edit head actions (suc more) (inl (ends, is)) = is
list_end edit head actions (suc more) (inr h) = absurd h

list_end_back : (edit : Edit) (head : Head) (actions : List ActionLine) (more : ℕ) → edit ≡ filter_edit head actions → ActionList more head edit actions []
list_end_back edit head actions zero is = (refl, is)
list_end_back edit head actions (suc more) is = inl (refl, is)

some_same : (a b : Edit) → Some a ≡ Some b → b ≡ a
some_same a b h = cc h

tail_end : (edit : Edit) (context : Context) (given : Params) → Tail (site_of context) (After edit context) given [] → ends_action context given ≡ Some edit
tail_end edit (Context.Filter head actions more) given (inl h) = ap (λ (e : Edit). Some e) (sym (list_end edit head (actions ++ (full_action given None ∷ [])) more h))
tail_end edit (Context.Filter head actions more) given (inr h) = absurd h
tail_end edit Context.Add given (inl (ends, is)) = ap (λ (e : Edit). Some e) (sym is)
tail_end edit Context.Add given (inr h) = absurd h
tail_end edit Context.Change given h = absurd h

tail_end_back : (edit : Edit) (context : Context) (given : Params) → ends_action context given ≡ Some edit → Tail (site_of context) (After edit context) given []
tail_end_back edit (Context.Filter head actions more) given h = inl (list_end_back edit head (actions ++ (full_action given None ∷ [])) more (some_same _ _ h))
tail_end_back edit Context.Add given h = inl (refl, some_same _ _ h)
tail_end_back edit Context.Change given h = absurd (cc h)

placed_end : (edit : Edit) (context : Context) (given : Params) → Placed (site_of context) (After edit context) given [] → ends_action context given ≡ Some edit
placed_end edit context given (inl h) = tail_end edit context given h
placed_end edit context given (inr h) = absurd h

if_end : (edit : Edit) (context : Context) (given : Params) (b : Bool) → (b ≡ true) × Placed (site_of context) (After edit context) given [] → (if b then ends_action context given else None) ≡ Some edit
if_end edit context given true (is, h) = placed_end edit context given h
if_end edit context given false (is, h) = absurd (cc is)

if_end_back : (edit : Edit) (context : Context) (given : Params) (b : Bool) → (if b then ends_action context given else None) ≡ Some edit → (b ≡ true) × Placed (site_of context) (After edit context) given []
if_end_back edit context given true h = (refl, inl (tail_end_back edit context given h))
if_end_back edit context given false h = absurd (cc h)

kind_end : {A : Type 0} (edit : Edit) (context : Context) (kind : Kind) → AfterKind (site_of context) (After edit context) kind [] → A
kind_end edit (Context.Filter head actions more) kinds.Gact (inl h) = absurd h
kind_end edit (Context.Filter head actions more) kinds.Vlan (inl h) = absurd h
kind_end edit (Context.Filter head actions more) kinds.Skbedit (inl (is, h)) = absurd (cc is)
kind_end edit (Context.Filter head actions more) kind (inr h) = absurd h
kind_end edit Context.Add kinds.Gact h = absurd h
kind_end edit Context.Add kinds.Vlan h = absurd h
kind_end edit Context.Add kinds.Skbedit (is, h) = absurd (cc is)
kind_end edit Context.Change kinds.Gact h = absurd h
kind_end edit Context.Change kinds.Vlan h = absurd h
kind_end edit Context.Change kinds.Skbedit (is, h) = absurd (cc is)

place_end : (edit : Edit) (context : Context) (place : Place) → ActionLanguage edit context place [] → ends_place context place ≡ Some edit
place_end edit context places.Begun (inl h) = absurd h
place_end edit context places.Begun (inr h) = absurd h
place_end edit context (places.Kinded kind) h = kind_end edit context kind h
place_end edit context (places.Tagging verb tag) h = if_end edit context (tag_params verb tag) (is_some tag.id) h
place_end edit context (places.TagValue verb tag name) h = absurd h
place_end edit context (places.Marking set) h = if_end edit context (mark_params set) (has_mark set) h
place_end edit context (places.MarkValue set name) h = absurd h
place_end edit context (places.Placed base) h = placed_end edit context base h
place_end edit context (places.JumpNumber base) h = absurd h
place_end edit context (places.GotoChain base) h = absurd h
place_end edit context (places.GotoNumber base) h = absurd h
place_end edit context (places.Whole given) h = tail_end edit context given h
place_end edit context (places.FullIndex given) h = absurd h
place_end edit context (places.NamedIndex kind) h = absurd h

place_end_back : (edit : Edit) (context : Context) (place : Place) → ends_place context place ≡ Some edit → ActionLanguage edit context place []
place_end_back edit context (places.Whole given) h = tail_end_back edit context given h
place_end_back edit context (places.Placed given) h = inl (tail_end_back edit context given h)
place_end_back edit context (places.Tagging verb tag) h = if_end_back edit context (tag_params verb tag) (is_some tag.id) h
place_end_back edit context (places.Marking set) h = if_end_back edit context (mark_params set) (has_mark set) h
place_end_back edit context places.Begun h = absurd (cc h)
place_end_back edit context (places.Kinded kind) h = absurd (cc h)
place_end_back edit context (places.TagValue verb tag name) h = absurd (cc h)
place_end_back edit context (places.MarkValue set name) h = absurd (cc h)
place_end_back edit context (places.JumpNumber base) h = absurd (cc h)
place_end_back edit context (places.GotoChain base) h = absurd (cc h)
place_end_back edit context (places.GotoNumber base) h = absurd (cc h)
place_end_back edit context (places.FullIndex given) h = absurd (cc h)
place_end_back edit context (places.NamedIndex kind) h = absurd (cc h)

pub end_to : (edit : Edit) (state : State) → Language edit state [] → edit_at state ≡ Some edit
end_to edit (State.Done given) (ends, is) = ap (λ (e : Edit). Some e) (sym is)
end_to edit (State.Settings verb hook options) (inl (ends, (nil, is))) = may (may_end verb options) edit (del_edit hook options) ends is
end_to edit (State.Settings verb hook options) (inr (flower, h)) = absurd h
end_to edit (State.Fielding head) h = ap (λ (e : Edit). Some e) (sym (list_end edit head [] 16 h))
end_to edit (State.FieldValue head name) h = absurd h
end_to edit (State.Listed head actions more) h = ap (λ (e : Edit). Some e) (sym (list_end edit head actions more h))
end_to edit (State.Acting context place) h = place_end edit context place h
end_to edit State.Start h = absurd h
end_to edit State.Qdisc h = absurd h
end_to edit (State.QdiscDev verb) h = absurd h
end_to edit (State.QdiscName verb) h = absurd h
end_to edit (State.QdiscClsact verb) h = absurd h
end_to edit State.FilterLine h = absurd h
end_to edit (State.FilterDev verb) h = absurd h
end_to edit (State.FilterName verb) h = absurd h
end_to edit (State.FilterHook verb) h = absurd h
end_to edit (State.SettingValue verb hook options name) h = absurd h
end_to edit State.Actions h = absurd h
end_to edit (State.ActionsAction verb) h = absurd h
end_to edit State.DelKind h = absurd h
end_to edit (State.DelIndex kind) h = absurd h
end_to edit (State.DelNumber kind) h = absurd h

pub end_from : (edit : Edit) (state : State) → edit_at state ≡ Some edit → Language edit state []
end_from edit (State.Done given) h = (refl, some_same _ _ h)
end_from edit (State.Settings verb hook options) h =
    let is : (may_end verb options ≡ true) × (edit ≡ del_edit hook options) = may_back (may_end verb options) edit (del_edit hook options) h in
    inl (is.0, (refl, is.1))
end_from edit (State.Fielding head) h = list_end_back edit head [] 16 (some_same _ _ h)
end_from edit (State.FieldValue head name) h = absurd (cc h)
end_from edit (State.Listed head actions more) h = list_end_back edit head actions more (some_same _ _ h)
end_from edit (State.Acting context place) h = place_end_back edit context place h
end_from edit State.Start h = absurd (cc h)
end_from edit State.Qdisc h = absurd (cc h)
end_from edit (State.QdiscDev verb) h = absurd (cc h)
end_from edit (State.QdiscName verb) h = absurd (cc h)
end_from edit (State.QdiscClsact verb) h = absurd (cc h)
end_from edit State.FilterLine h = absurd (cc h)
end_from edit (State.FilterDev verb) h = absurd (cc h)
end_from edit (State.FilterName verb) h = absurd (cc h)
end_from edit (State.FilterHook verb) h = absurd (cc h)
end_from edit (State.SettingValue verb hook options name) h = absurd (cc h)
end_from edit State.Actions h = absurd (cc h)
end_from edit (State.ActionsAction verb) h = absurd (cc h)
end_from edit State.DelKind h = absurd (cc h)
end_from edit (State.DelIndex kind) h = absurd (cc h)
end_from edit (State.DelNumber kind) h = absurd (cc h)
