-- Actions by their kinds, a word on.
use Rattle.std.proofs.Common.{◌≡◌, ℕ, Bool, true, false, List, ◌∷◌, Option, Some, None, refl, sym, subst, inl, inr}
use Rattle.std.specs.Prelude.{is_some, if◌then◌else◌, codes, IsSomeAnd}
use Rattle.std.specs.Str.{bytes_eq}
use Rattle.act_kinds.specs.declared.params.Kind.{Kind}
use Rattle.act_kinds.specs.declared.params.Kind.TheVariants as kinds
use Rattle.act_kinds.specs.declared.params.Control.TheVariants as controls
use Rattle.act_kinds.specs.declared.params.Params.{Params}
use Rattle.act_kinds.specs.declared.params.Params.TheVariants as params
use Rattle.filter_state.specs.declared.action_line.ActionLine.{ActionLine}
use Rattle.filter_state.specs.declared.edit.Edit.{Edit}
use Rattle.tc_batch.specs.declared.action_keywords.VlanVerb.{VlanVerb}
use Rattle.tc_batch.specs.declared.action_keywords.VlanVerb.TheVariants as vlan_verbs
use Rattle.tc_batch.specs.declared.action_keywords.TagVerb.{TagVerb}
use Rattle.tc_batch.specs.declared.action_keywords.TagName.TheVariants as tag_names
use Rattle.tc_batch.specs.declared.action_keywords.MarkName.TheVariants as mark_names
use Rattle.tc_batch.specs.declared.tag.Tag.{Tag}
use Rattle.tc_batch.specs.declared.marks.Marks.{Marks}
use Rattle.tc_batch.specs.States.{Context, State}
use Rattle.tc_batch.specs.declared.stage.Place.TheVariants as places
use Rattle.tc_batch.specs.ActionKeywords.{kind_word, vlan_verb, tag_name, mark_name}
use Rattle.tc_batch.specs.Actions.{is_tagged, with_tag, tag_params, no_marks, is_marked, with_mark, has_mark, mark_params}
use Rattle.tc_batch.specs.Grammar.{Placed, AfterTag, AfterMarks, VlanRest, GactRest, KindRest, AfterKind}
use Rattle.tc_batch.specs.Machine.{site_of, acted, on_placed, on_tagging, on_marking, after_vlan, on_kind, on_kinded, on_begun, on_acting}
use Rattle.tc_batch.proofs.Languages.{After, ActionLanguage, Language}
use Rattle.tc_batch.proofs.Choices.{Goes, choose, chosen, only, map_to, map_from, is_text}
use Rattle.tc_batch.proofs.PairSteps.{pairs_to, pairs_from}
use Rattle.tc_batch.proofs.ControlSteps.{control_to, control_from, no_control, placed_to, placed_from, placed_not}

-- names of tags and marks, by their texts
pub tag_named : (edit : Edit) (context : Context) (base : Params) (word : List ℕ) (words : List (List ℕ)) (a b c : Bool) → bytes_eq word (codes "id") ≡ a → bytes_eq word (codes "priority") ≡ b → bytes_eq word (codes "protocol") ≡ c
    → Placed (site_of context) (After edit context) base (word ∷ words) → (if a then Some tag_names.Id else if b then Some tag_names.Priority else if c then Some tag_names.Protocol else None) ≡ None
tag_named edit context base word words true b c p q r h = placed_not edit context base (codes "id") word words refl refl refl (is_text word (codes "id") p) h
tag_named edit context base word words false true c p q r h = placed_not edit context base (codes "priority") word words refl refl refl (is_text word (codes "priority") q) h
tag_named edit context base word words false false true p q r h = placed_not edit context base (codes "protocol") word words refl refl refl (is_text word (codes "protocol") r) h
tag_named edit context base word words false false false p q r h = refl

pub mark_named : (edit : Edit) (context : Context) (base : Params) (word : List ℕ) (words : List (List ℕ)) (a b c : Bool) → bytes_eq word (codes "priority") ≡ a → bytes_eq word (codes "mark") ≡ b → bytes_eq word (codes "queue_mapping") ≡ c
    → Placed (site_of context) (After edit context) base (word ∷ words) → (if a then Some mark_names.Priority else if b then Some mark_names.Mark else if c then Some mark_names.Queue else None) ≡ None
mark_named edit context base word words true b c p q r h = placed_not edit context base (codes "priority") word words refl refl refl (is_text word (codes "priority") p) h
mark_named edit context base word words false true c p q r h = placed_not edit context base (codes "mark") word words refl refl refl (is_text word (codes "mark") q) h
mark_named edit context base word words false false true p q r h = placed_not edit context base (codes "queue_mapping") word words refl refl refl (is_text word (codes "queue_mapping") r) h
mark_named edit context base word words false false false p q r h = refl

pub allowed : (edit : Edit) (context : Context) (base : Params) (b : Bool) (word : List ℕ) (words : List (List ℕ)) → (b ≡ true) × Placed (site_of context) (After edit context) base (word ∷ words) → Goes edit (if b then on_placed context base word else None) words
allowed edit context base b word words (is, h) = choose b (on_placed context base word) None (λ s. Language edit s words) (λ hit. placed_to edit context base word words h) (λ miss. absurd (cc (is, miss)))

pub allowed_back : (edit : Edit) (context : Context) (base : Params) (b : Bool) (word : List ℕ) (words : List (List ℕ)) → Goes edit (if b then on_placed context base word else None) words → (b ≡ true) × Placed (site_of context) (After edit context) base (word ∷ words)
allowed_back edit context base b word words h = let o : (b ≡ true) × Goes edit (on_placed context base word) words = only b (on_placed context base word) (λ s. Language edit s words) h in (o.0, placed_from edit context base word words o.1)

pub tagging_to : (edit : Edit) (context : Context) (verb : TagVerb) (tag : Tag) (word : List ℕ) (words : List (List ℕ)) → ActionLanguage edit context (places.Tagging verb tag) (word ∷ words) → Goes edit (on_tagging context verb tag word) words
tagging_to edit context verb tag word words h =
    pairs_to edit tag_name is_tagged with_tag (AfterTag (site_of context) (After edit context) verb) tag (λ n. State.Acting context (places.TagValue verb tag n)) (if is_some tag.id then on_placed context (tag_params verb tag) word else None) word words (λ name more it. it)
    (λ it. (tag_named edit context (tag_params verb tag) word words _ _ _ refl refl refl it.1, allowed edit context (tag_params verb tag) (is_some tag.id) word words it)) h

pub tagging_from : (edit : Edit) (context : Context) (verb : TagVerb) (tag : Tag) (word : List ℕ) (words : List (List ℕ)) → Goes edit (on_tagging context verb tag word) words → ActionLanguage edit context (places.Tagging verb tag) (word ∷ words)
tagging_from edit context verb tag word words h =
    pairs_from edit tag_name is_tagged with_tag (AfterTag (site_of context) (After edit context) verb) tag (λ n. State.Acting context (places.TagValue verb tag n)) (if is_some tag.id then on_placed context (tag_params verb tag) word else None) word words (λ name more it. it)
    (allowed_back edit context (tag_params verb tag) (is_some tag.id) word words) (tag_name word) refl h

pub marking_to : (edit : Edit) (context : Context) (set : Marks) (word : List ℕ) (words : List (List ℕ)) → ActionLanguage edit context (places.Marking set) (word ∷ words) → Goes edit (on_marking context set word) words
marking_to edit context set word words h =
    pairs_to edit mark_name is_marked with_mark (AfterMarks (site_of context) (After edit context)) set (λ n. State.Acting context (places.MarkValue set n)) (if has_mark set then on_placed context (mark_params set) word else None) word words (λ name more it. it)
    (λ it. (mark_named edit context (mark_params set) word words _ _ _ refl refl refl it.1, allowed edit context (mark_params set) (has_mark set) word words it)) h

pub marking_from : (edit : Edit) (context : Context) (set : Marks) (word : List ℕ) (words : List (List ℕ)) → Goes edit (on_marking context set word) words → ActionLanguage edit context (places.Marking set) (word ∷ words)
marking_from edit context set word words h =
    pairs_from edit mark_name is_marked with_mark (AfterMarks (site_of context) (After edit context)) set (λ n. State.Acting context (places.MarkValue set n)) (if has_mark set then on_placed context (mark_params set) word else None) word words (λ name more it. it)
    (allowed_back edit context (mark_params set) (has_mark set) word words) (mark_name word) refl h

-- kinds
pub vlan_to : (edit : Edit) (context : Context) (words : List (List ℕ)) (verb : VlanVerb) → VlanRest (site_of context) (After edit context) verb words → Language edit (after_vlan context verb) words
vlan_to edit context words (vlan_verbs.Tagged verb) h = h
vlan_to edit context words vlan_verbs.Pop h = h

pub vlan_from : (edit : Edit) (context : Context) (words : List (List ℕ)) (verb : VlanVerb) → Language edit (after_vlan context verb) words → VlanRest (site_of context) (After edit context) verb words
vlan_from edit context words (vlan_verbs.Tagged verb) h = h
vlan_from edit context words vlan_verbs.Pop h = h

pub on_kind_to : (edit : Edit) (context : Context) (kind : Kind) (word : List ℕ) (words : List (List ℕ)) → KindRest (site_of context) (After edit context) kind (word ∷ words) → Goes edit (on_kind context kind word) words
on_kind_to edit context kinds.Gact word words h = control_to edit context (params.Gact controls.Accept) word words h
on_kind_to edit context kinds.Vlan word words h = map_to (vlan_verb word) (after_vlan context) (λ v. VlanRest (site_of context) (After edit context) v words) (λ s. Language edit s words) (vlan_to edit context words) h
on_kind_to edit context kinds.Skbedit word words h = marking_to edit context no_marks word words h

pub on_kind_from : (edit : Edit) (context : Context) (kind : Kind) (word : List ℕ) (words : List (List ℕ)) → Goes edit (on_kind context kind word) words → KindRest (site_of context) (After edit context) kind (word ∷ words)
on_kind_from edit context kinds.Gact word words h = control_from edit context (params.Gact controls.Accept) word words h
on_kind_from edit context kinds.Vlan word words h = map_from (vlan_verb word) (after_vlan context) (λ v. VlanRest (site_of context) (After edit context) v words) (λ s. Language edit s words) (vlan_from edit context words) h
on_kind_from edit context kinds.Skbedit word words h = marking_from edit context no_marks word words h

-- no kind goes on by "index"
pub kind_not_index : {A : Type 0} (edit : Edit) (context : Context) (kind : Kind) (words : List (List ℕ)) → Goes edit (on_kind context kind (codes "index")) words → A
kind_not_index edit context kinds.Gact words h = absurd h
kind_not_index edit context kinds.Vlan words h = absurd h
kind_not_index edit context kinds.Skbedit words h = absurd h

pub kinded_kind : (edit : Edit) (context : Context) (kind : Kind) (word : List ℕ) (words : List (List ℕ)) → KindRest (site_of context) (After edit context) kind (word ∷ words) → Goes edit (on_kinded context kind word) words
kinded_kind edit context kind word words h =
    let goes : Goes edit (on_kind context kind word) words = on_kind_to edit context kind word words h in
    choose (bytes_eq word (codes "index")) _ _ (λ s. Language edit s words) (λ hit. kind_not_index edit context kind words (subst (λ (w : List ℕ). Goes edit (on_kind context kind w) words) (is_text word (codes "index") hit) goes)) (λ miss. goes)

pub kinded_to : (edit : Edit) (context : Context) (kind : Kind) (word : List ℕ) (words : List (List ℕ)) → ActionLanguage edit context (places.Kinded kind) (word ∷ words) → Goes edit (on_kinded context kind word) words
kinded_to edit (Context.Filter head actions more) kind word words (inl h) = kinded_kind edit (Context.Filter head actions more) kind word words h
kinded_to edit (Context.Filter head actions more) kind word words (inr (is, h)) = choose (bytes_eq word (codes "index")) _ _ (λ s. Language edit s words) (λ hit. h) (λ miss. absurd (cc (is, miss)))
kinded_to edit Context.Add kind word words h = kinded_kind edit Context.Add kind word words h
kinded_to edit Context.Change kind word words h = kinded_kind edit Context.Change kind word words h

pub kinded_from : (edit : Edit) (context : Context) (kind : Kind) (word : List ℕ) (words : List (List ℕ)) → Goes edit (on_kinded context kind word) words → ActionLanguage edit context (places.Kinded kind) (word ∷ words)
kinded_from edit (Context.Filter head actions more) kind word words h =
    elim (chosen (bytes_eq word (codes "index")) _ _ (λ s. Language edit s words) h) [
      | inl hit ↦ inr (hit.0, hit.1)
      | inr miss ↦ inl (on_kind_from edit (Context.Filter head actions more) kind word words miss.1)
    ]
kinded_from edit Context.Add kind word words h = elim (chosen (bytes_eq word (codes "index")) _ _ (λ s. Language edit s words) h) [ inl hit ↦ absurd hit.1 | inr miss ↦ on_kind_from edit Context.Add kind word words miss.1 ]
kinded_from edit Context.Change kind word words h = elim (chosen (bytes_eq word (codes "index")) _ _ (λ s. Language edit s words) h) [ inl hit ↦ absurd hit.1 | inr miss ↦ on_kind_from edit Context.Change kind word words miss.1 ]

-- a control is no kind
pub control_kind : (edit : Edit) (context : Context) (word : List ℕ) (words : List (List ℕ)) (a b c : Bool) → bytes_eq word (codes "gact") ≡ a → bytes_eq word (codes "vlan") ≡ b → bytes_eq word (codes "skbedit") ≡ c → GactRest (site_of context) (After edit context) (word ∷ words)
    → Goes edit (on_begun context word (if a then Some kinds.Gact else if b then Some kinds.Vlan else if c then Some kinds.Skbedit else None)) words
control_kind edit context word words true b c p q r h = no_control edit context (params.Gact controls.Accept) (codes "gact") word words refl (is_text word (codes "gact") p) h
control_kind edit context word words false true c p q r h = no_control edit context (params.Gact controls.Accept) (codes "vlan") word words refl (is_text word (codes "vlan") q) h
control_kind edit context word words false false true p q r h = no_control edit context (params.Gact controls.Accept) (codes "skbedit") word words refl (is_text word (codes "skbedit") r) h
control_kind edit context word words false false false p q r h = control_to edit context (params.Gact controls.Accept) word words h

pub kind_begun : (edit : Edit) (context : Context) (word : List ℕ) (words : List (List ℕ)) (kind : Option Kind) → IsSomeAnd kind (λ k. AfterKind (site_of context) (After edit context) k words) → Goes edit (on_begun context word kind) words
kind_begun edit context word words None h = absurd h
kind_begun edit context word words (Some kind) h = h

pub begun_to : (edit : Edit) (context : Context) (word : List ℕ) (words : List (List ℕ)) → ActionLanguage edit context places.Begun (word ∷ words) → Goes edit (on_acting context places.Begun word) words
begun_to edit context word words (inl h) = control_kind edit context word words _ _ _ refl refl refl h
begun_to edit context word words (inr h) = kind_begun edit context word words (kind_word word) h

pub begun_at : (edit : Edit) (context : Context) (word : List ℕ) (words : List (List ℕ)) (kind : Option Kind) → kind_word word ≡ kind → Goes edit (on_begun context word kind) words → ActionLanguage edit context places.Begun (word ∷ words)
begun_at edit context word words None is h = inl (control_from edit context (params.Gact controls.Accept) word words h)
begun_at edit context word words (Some kind) is h = inr (subst (λ (o : Option Kind). IsSomeAnd o (λ k. AfterKind (site_of context) (After edit context) k words)) (sym is) h)

pub begun_from : (edit : Edit) (context : Context) (word : List ℕ) (words : List (List ℕ)) → Goes edit (on_acting context places.Begun word) words → ActionLanguage edit context places.Begun (word ∷ words)
begun_from edit context word words h = begun_at edit context word words (kind_word word) refl h

pub acted_to : (edit : Edit) (context : Context) (action : ActionLine) (words : List (List ℕ)) → After edit context action words → Language edit (acted context action) words
acted_to edit (Context.Filter head actions more) action words h = h
acted_to edit Context.Add action words h = h
acted_to edit Context.Change action words h = h

pub acted_from : (edit : Edit) (context : Context) (action : ActionLine) (words : List (List ℕ)) → Language edit (acted context action) words → After edit context action words
acted_from edit (Context.Filter head actions more) action words h = h
acted_from edit Context.Add action words h = h
acted_from edit Context.Change action words h = h
