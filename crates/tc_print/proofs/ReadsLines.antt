-- The printed words of an edit are a line that gives it.
use Rattle.std.proofs.Common.{◌≡◌, ℕ, true, false, List, [], ◌∷◌, ◌++◌, Option, Some, None, refl, sym, ap, ap₂, inl, inr}
use Rattle.std.specs.Prelude.{◌&&◌, codes, IsSome, is_some}
use Rattle.std.specs.Fmt.{decimal}
use Rattle.flow_fields.specs.declared.key.Key.{Key}
use Rattle.tc_base.specs.declared.hook.Hook.{Hook}
use Rattle.tc_base.specs.declared.hook.Hook.TheVariants.{Ingress, Egress}
use Rattle.tc_base.specs.declared.hook.Proto.{Proto}
use Rattle.act_kinds.specs.declared.params.Kind.{Kind}
use Rattle.act_kinds.specs.declared.params.Kind.TheVariants as kinds
use Rattle.filter_state.specs.declared.edit.FilterLine.{FilterLine}
use Rattle.filter_state.specs.declared.edit.Edit.{Edit}
use Rattle.filter_state.specs.declared.edit.Edit.TheVariants as edits
use Rattle.filter_state.specs.Lines.{IsIndex, IsFilter, IsLine}
use Rattle.tc_batch.specs.declared.keywords.FilterVerb.{FilterVerb}
use Rattle.tc_batch.specs.declared.keywords.FilterVerb.TheVariants as filter_verbs
use Rattle.tc_batch.specs.declared.options.Options.{Options}
use Rattle.tc_batch.specs.declared.draft.Head.{Head}
use Rattle.tc_batch.specs.Keywords.{hook_word}
use Rattle.tc_batch.specs.Options.{no_options, option_setting, index_number, may_flower}
use Rattle.tc_batch.specs.Fields.{field_setting, filter_head}
use Rattle.tc_batch.specs.Grammar.{Pairs, Ends, AfterFields, AfterFlower, AfterSettings, FilterRest, Gives}
use Rattle.tc_print.specs.ActionWords.{list_words}
use Rattle.tc_print.specs.FieldWords.{fields_words}
use Rattle.tc_print.specs.EditWords.{hook_text, option_words, flower_words, body_words, edit_words}
use Rattle.tc_print.proofs.Pairs.{reads_is}
use Rattle.tc_print.proofs.ReadsControls.{index_read}
use Rattle.tc_print.proofs.ReadsLists.{list_is, added_is, changed_is}
use Rattle.tc_print.proofs.ReadsOptions.{options_of, options_are}
use Rattle.tc_print.proofs.ReadsFields.{head_with}
use Rattle.tc_print.proofs.ReadsPrefixes.{all_fields_are}

hook_is : (hook : Hook) → hook_word (hook_text hook) ≡ Some hook
hook_is Ingress = refl
hook_is Egress = refl

-- from the device of a filter line on
device_is : (edit : Edit) (verb : FilterVerb) (hook : Hook) (rest : List (List ℕ)) → Pairs option_setting (AfterSettings verb hook edit) no_options rest
    → FilterRest edit verb (codes "dev" ∷ codes "eth0" ∷ hook_text hook ∷ rest)
device_is edit verb hook rest more = (refl, (refl, reads_is hook_word (λ h. Pairs option_setting (AfterSettings verb h edit) no_options) (hook_text hook) rest hook (hook_is hook) more))

-- keys are told by their words
key_is : (a b : Key 14) → a.words ≡ b.words → a ≡ b
key_is a b is = ap (λ (ws : List ℕ). let key : Key 14 = record { words = ws } in key) is

-- the options of a filter
abbrev given_options : FilterLine → Options
given_options line = options_of (Some line.protocol) line.pref (Some line.chain) line.handle

-- a head whose key and mask have the words of the filter's makes the filter
made : (make : FilterLine → Edit) (line : FilterLine) (key mask : Key 14) → key.words ≡ line.key.words → mask.words ≡ line.mask.words
    → make line ≡ make (record line { key = key; mask = mask })
made make line key mask key_words mask_words =
    sym (ap₂ (λ (k m : Key 14). make (record line { key = k; mask = m })) (key_is key line.key key_words) (key_is mask line.mask mask_words))

add_is : (line : FilterLine) → IsFilter line
    → Pairs field_setting (AfterFields (edits.FilterAdd line)) (filter_head false line.hook (given_options line)) (fields_words line.key.words line.mask.words ++ list_words line.actions)
add_is line is =
    let keys = is.keys in
    let head : Head = filter_head false line.hook (given_options line) in
    all_fields_are line.key.words line.mask.words keys.key_count keys.mask_count keys (AfterFields (edits.FilterAdd line)) head (list_words line.actions)
    (λ next key_words mask_words.
    list_is (head_with head next) (edits.FilterAdd line) [] line.actions 16 is.actions is.most (made edits.FilterAdd line next.key next.mask key_words mask_words))

replace_is : (line : FilterLine) → IsFilter line
    → Pairs field_setting (AfterFields (edits.FilterReplace line)) (filter_head true line.hook (given_options line)) (fields_words line.key.words line.mask.words ++ list_words line.actions)
replace_is line is =
    let keys = is.keys in
    let head : Head = filter_head true line.hook (given_options line) in
    all_fields_are line.key.words line.mask.words keys.key_count keys.mask_count keys (AfterFields (edits.FilterReplace line)) head (list_words line.actions)
    (λ next key_words mask_words.
    list_is (head_with head next) (edits.FilterReplace line) [] line.actions 16 is.actions is.most (made edits.FilterReplace line next.key next.mask key_words mask_words))

-- the options of a filter, and what stands behind `flower`
settings_are : (verb : FilterVerb) (edit : Edit) (line : FilterLine) → IsFilter line → may_flower verb (given_options line) ≡ true
    → AfterFlower verb line.hook (given_options line) edit (fields_words line.key.words line.mask.words ++ list_words line.actions)
    → Pairs option_setting (AfterSettings verb line.hook edit) no_options
    (option_words (Some line.protocol) line.pref line.chain line.handle ++ body_words line)
settings_are verb edit line is may more =
    options_are (AfterSettings verb line.hook edit) (Some line.protocol) line.pref line.chain line.handle (body_words line) is.protocol is.pref is.chain is.handle
    (inr (may, (refl, more)))

both_given : (pref handle : Option ℕ) → IsSome pref → IsSome handle → (is_some pref && is_some handle) ≡ true
both_given (Some p) (Some h) some_pref some_handle = refl
both_given None handle some_pref some_handle = absurd (cc some_pref)
both_given (Some p) None some_pref some_handle = absurd (cc some_handle)

-- a removal
removal_is : (hook : Hook) (protocol : Option Proto) (chain pref : ℕ) (handle : Option ℕ) →
    AfterSettings filter_verbs.Del hook (edits.FilterDel hook protocol chain pref handle) (options_of protocol (Some pref) (Some chain) handle) (flower_words handle)
removal_is hook protocol chain pref None = inl (refl, (refl, refl))
removal_is hook protocol chain pref (Some handle) = inr (refl, (refl, (refl, refl)))

gone_is : (kind : Kind) (index : ℕ) → IsIndex index → Gives (edit_words (edits.ActionDel kind index)) (edits.ActionDel kind index)
gone_is kinds.Gact index h = (refl, (refl, reads_is index_number (λ n. Ends (edits.ActionDel kinds.Gact index) (edits.ActionDel kinds.Gact n)) (decimal index) [] index (index_read index h) (refl, refl)))
gone_is kinds.Vlan index h = (refl, (refl, reads_is index_number (λ n. Ends (edits.ActionDel kinds.Vlan index) (edits.ActionDel kinds.Vlan n)) (decimal index) [] index (index_read index h) (refl, refl)))
gone_is kinds.Skbedit index h = (refl, (refl, reads_is index_number (λ n. Ends (edits.ActionDel kinds.Skbedit index) (edits.ActionDel kinds.Skbedit n)) (decimal index) [] index (index_read index h) (refl, refl)))

-- each edit that a line can say is said by its printed words
pub words_give : (edit : Edit) → IsLine edit → Gives (edit_words edit) edit
words_give edits.HookAdd is = (refl, (refl, (refl, (refl, refl))))
words_give edits.HookDel is = (refl, (refl, (refl, (refl, refl))))
words_give (edits.FilterAdd line) is =
    device_is (edits.FilterAdd line) filter_verbs.Add line.hook (option_words (Some line.protocol) line.pref line.chain line.handle ++ body_words line)
    (settings_are filter_verbs.Add (edits.FilterAdd line) line is refl (add_is line is))
words_give (edits.FilterReplace line) (is, some_pref, some_handle) =
    device_is (edits.FilterReplace line) filter_verbs.Replace line.hook (option_words (Some line.protocol) line.pref line.chain line.handle ++ body_words line)
    (settings_are filter_verbs.Replace (edits.FilterReplace line) line is (both_given line.pref line.handle some_pref some_handle) (replace_is line is))
words_give (edits.FilterDel hook protocol chain pref handle) (p, c, f, h) =
    let edit : Edit = edits.FilterDel hook protocol chain pref handle in
    device_is edit filter_verbs.Del hook _
    (options_are (AfterSettings filter_verbs.Del hook edit) protocol (Some pref) chain handle (flower_words handle) p f c h (removal_is hook protocol chain pref handle))
words_give (edits.ActionAdd action) is = (refl, added_is (λ it. Ends (edits.ActionAdd action) (edits.ActionAdd it)) action is (refl, refl))
words_give (edits.ActionChange action) (is, some) = (refl, changed_is (λ it. Ends (edits.ActionChange action) (edits.ActionChange it)) action is some (refl, refl))
words_give (edits.ActionDel kind index) is = gone_is kind index is
