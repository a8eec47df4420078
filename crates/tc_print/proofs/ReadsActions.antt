-- Printed actions are read back, alone and in lists.
use Rattle.std.proofs.Common.{◌≡◌, ℕ, ◌^◌, ◌<◌, ◌⊎◌, true, List, ◌++◌, Option, Some, None, refl, ap, inl, inr, arith}
use Rattle.std.specs.Prelude.{codes, IfSome, IsSome}
use Rattle.std.specs.Option.{option_map}
use Rattle.std.specs.Fmt.{decimal}
use Rattle.line_words.specs.Forms.{tpid_of}
use Rattle.line_texts.specs.Texts.{ether_type_text, class_text}
use Rattle.line_texts.proofs.Decimals.{number-read_between}
use Rattle.line_texts.proofs.EtherTypes.{tpid-read}
use Rattle.line_texts.proofs.Classes.{class-read}
use Rattle.act_kinds.specs.declared.params.Control.TheVariants as controls
use Rattle.act_kinds.specs.declared.params.Kind.{Kind}
use Rattle.act_kinds.specs.declared.params.Kind.TheVariants as kinds
use Rattle.act_kinds.specs.declared.params.VlanOp.{VlanOp}
use Rattle.act_kinds.specs.declared.params.VlanOp.TheVariants as ops
use Rattle.act_kinds.specs.declared.params.Params.{Params}
use Rattle.act_kinds.specs.declared.params.Params.TheVariants as params
use Rattle.act_kinds.specs.Ranges.{IsTpid, IsVlanId, IsVlanPriority, IsVlanOp, AreMarks, AreParams}
use Rattle.filter_state.specs.declared.action_line.ActionLine.{ActionLine}
use Rattle.filter_state.specs.Lines.{control_of}
use Rattle.tc_batch.specs.declared.action_keywords.Site.{Site}
use Rattle.tc_batch.specs.declared.action_keywords.Site.TheVariants as sites
use Rattle.tc_batch.specs.declared.action_keywords.TagVerb.TheVariants as tag_verbs
use Rattle.tc_batch.specs.declared.action_keywords.TagName.TheVariants as tag_names
use Rattle.tc_batch.specs.declared.action_keywords.MarkName.TheVariants as mark_names
use Rattle.tc_batch.specs.declared.tag.Tag.{Tag}
use Rattle.tc_batch.specs.declared.marks.Marks.{Marks}
use Rattle.tc_batch.specs.ActionKeywords.{tag_name, mark_name}
use Rattle.tc_batch.specs.Actions.{no_tag, is_tagged, with_tag, tag_setting, no_marks, is_marked, with_mark, mark_setting, has_mark, full_action}
use Rattle.tc_batch.specs.Grammar.{Pairs, Placed, AfterTag, AfterMarks, KindRest, AfterKind, Action}
use Rattle.tc_print.specs.ActionWords.{control_words, number_words, index_words, tag_words, op_words, class_words, mark_words, params_words}
use Rattle.tc_print.proofs.Pairs.{pairs_end, pair_is, joined_is}
use Rattle.tc_print.proofs.ReadsControls.{HasIndex, HasControl, controlled_is}

tpid_read : (tpid : ℕ) → IsTpid tpid → tpid_of (ether_type_text tpid) ≡ Some tpid
tpid_read tpid is = tpid-read tpid is

-- a tag
abbrev tag_of : Option ℕ → Option ℕ → Option ℕ → Tag
tag_of id priority protocol = record { id = id; priority = priority; protocol = protocol }

tag_is : (More : Tag → List (List ℕ) → Type 0) (tpid id : ℕ) (rest : List (List ℕ)) → IsTpid tpid → IsVlanId id
    → Pairs tag_setting More (tag_of (Some id) None (Some tpid)) rest → Pairs tag_setting More no_tag (tag_words tpid id ++ rest)
tag_is More tpid id rest is_tpid is_id more =
    pair_is tag_name is_tagged with_tag More no_tag (codes "protocol") (ether_type_text tpid) _ tag_names.Protocol (tag_of None None (Some tpid)) refl refl
    (ap (option_map (λ n. tag_of None None (Some n))) (tpid_read tpid is_tpid))
    (pair_is tag_name is_tagged with_tag More (tag_of None None (Some tpid)) (codes "id") (decimal id) rest tag_names.Id (tag_of (Some id) None (Some tpid)) refl refl
    (ap (option_map (λ n. tag_of (Some n) None (Some tpid))) (number-read_between 0 4094 id (omega arith) (omega arith) is_id)) more)

priority_is : (More : Tag → List (List ℕ) → Type 0) (tpid id : ℕ) (priority : Option ℕ) (rest : List (List ℕ)) → IfSome priority IsVlanPriority
    → More (tag_of (Some id) priority (Some tpid)) rest
    → Pairs tag_setting More (tag_of (Some id) None (Some tpid)) (number_words (codes "priority") priority ++ rest)
priority_is More tpid id None rest is_priority more = pairs_end tag_setting More _ rest more
priority_is More tpid id (Some priority) rest is_priority more =
    pair_is tag_name is_tagged with_tag More (tag_of (Some id) None (Some tpid)) (codes "priority") (decimal priority) rest tag_names.Priority
    (tag_of (Some id) (Some priority) (Some tpid)) refl refl
    (ap (option_map (λ n. tag_of (Some id) (Some n) (Some tpid))) (number-read_between 0 7 priority (omega arith) (omega arith) is_priority))
    (pairs_end tag_setting More _ rest more)

-- what an action does, up to its control
vlan_is : (site : Site) (More : ActionLine → List (List ℕ) → Type 0) (op : VlanOp) (rest : List (List ℕ)) → IsVlanOp op
    → Placed site More (params.Vlan op controls.Pipe) rest → KindRest site More kinds.Vlan (op_words op ++ rest)
vlan_is site More (ops.Push tpid id priority) rest (is_tpid, is_id, is_priority) more =
    joined_is (Pairs tag_setting (AfterTag site More tag_verbs.Push) no_tag) (tag_words tpid id) (number_words (codes "priority") (Some priority)) rest
    (tag_is (AfterTag site More tag_verbs.Push) tpid id (number_words (codes "priority") (Some priority) ++ rest) is_tpid is_id
    (priority_is (AfterTag site More tag_verbs.Push) tpid id (Some priority) rest is_priority (refl, more)))
vlan_is site More ops.Pop rest is_op more = more
vlan_is site More (ops.Modify tpid id priority) rest (is_tpid, is_id, is_priority) more =
    joined_is (Pairs tag_setting (AfterTag site More tag_verbs.Modify) no_tag) (tag_words tpid id) (number_words (codes "priority") priority) rest
    (tag_is (AfterTag site More tag_verbs.Modify) tpid id (number_words (codes "priority") priority ++ rest) is_tpid is_id
    (priority_is (AfterTag site More tag_verbs.Modify) tpid id priority rest is_priority (refl, more)))

abbrev marks_of : Option ℕ → Option ℕ → Option ℕ → Marks
marks_of priority mark queue = record { priority = priority; mark = mark; queue = queue }

queue_is : (More : Marks → List (List ℕ) → Type 0) (queue : Option ℕ) (rest : List (List ℕ)) → IfSome queue (λ n. n < 2 ^ 16)
    → Pairs mark_setting More (marks_of None None queue) rest → Pairs mark_setting More no_marks (number_words (codes "queue_mapping") queue ++ rest)
queue_is More None rest fits more = more
queue_is More (Some queue) rest fits more =
    pair_is mark_name is_marked with_mark More no_marks (codes "queue_mapping") (decimal queue) rest mark_names.Queue (marks_of None None (Some queue)) refl refl
    (ap (option_map (λ n. marks_of None None (Some n))) (number-read_between 0 65535 queue (omega arith) (omega arith) (omega arith))) more

class_is : (More : Marks → List (List ℕ) → Type 0) (priority queue : Option ℕ) (rest : List (List ℕ)) → IfSome priority (λ n. n < 2 ^ 32)
    → Pairs mark_setting More (marks_of priority None queue) rest → Pairs mark_setting More (marks_of None None queue) (class_words priority ++ rest)
class_is More None queue rest fits more = more
class_is More (Some class) queue rest fits more =
    pair_is mark_name is_marked with_mark More (marks_of None None queue) (codes "priority") (class_text class) rest mark_names.Priority (marks_of (Some class) None queue) refl refl
    (ap (option_map (λ n. marks_of (Some n) None queue)) (class-read class fits)) more

mark_is : (More : Marks → List (List ℕ) → Type 0) (priority mark queue : Option ℕ) (rest : List (List ℕ)) → IfSome mark (λ n. n < 2 ^ 32)
    → More (marks_of priority mark queue) rest → Pairs mark_setting More (marks_of priority None queue) (number_words (codes "mark") mark ++ rest)
mark_is More priority None queue rest fits more = pairs_end mark_setting More _ rest more
mark_is More priority (Some mark) queue rest fits more =
    pair_is mark_name is_marked with_mark More (marks_of priority None queue) (codes "mark") (decimal mark) rest mark_names.Mark (marks_of priority (Some mark) queue) refl refl
    (ap (option_map (λ n. marks_of priority (Some n) queue)) (number-read_between 0 4294967295 mark (omega arith) (omega arith) (omega arith)))
    (pairs_end mark_setting More _ rest more)

-- one of the three is there
one_marked : (priority mark queue : Option ℕ) → IsSome priority ⊎ IsSome mark ⊎ IsSome queue → has_mark (marks_of priority mark queue) ≡ true
one_marked (Some p) mark queue h = refl
one_marked None (Some m) queue h = refl
one_marked None None (Some q) h = refl
one_marked None None None (inl h) = absurd (cc h)
one_marked None None None (inr (inl h)) = absurd (cc h)
one_marked None None None (inr (inr h)) = absurd (cc h)

skbedit_is : (site : Site) (More : ActionLine → List (List ℕ) → Type 0) (priority mark queue : Option ℕ) (rest : List (List ℕ)) → AreMarks priority mark queue
    → Placed site More (params.Skbedit priority mark queue controls.Pipe) rest → KindRest site More kinds.Skbedit (mark_words priority mark queue ++ rest)
skbedit_is site More priority mark queue rest (one, p, m, q) more =
    joined_is (Pairs mark_setting (AfterMarks site More) no_marks) (number_words (codes "queue_mapping") queue) (class_words priority ++ number_words (codes "mark") mark) rest
    (queue_is (AfterMarks site More) queue _ q
    (joined_is (Pairs mark_setting (AfterMarks site More) (marks_of None None queue)) (class_words priority) (number_words (codes "mark") mark) rest
    (class_is (AfterMarks site More) priority queue _ p
    (mark_is (AfterMarks site More) priority mark queue rest m (one_marked priority mark queue one, more)))))

-- an action in full may stand at each place
in_full : (site : Site) (More : ActionLine → List (List ℕ) → Type 0) (kind : Kind) (words : List (List ℕ)) → KindRest site More kind words → AfterKind site More kind words
in_full sites.Filter More kind words more = inl more
in_full sites.Add More kind words more = more
in_full sites.Change More kind words more = more

pub full_is : (site : Site) (More : ActionLine → List (List ℕ) → Type 0) (given : Params) (index : Option ℕ) (rest : List (List ℕ))
    → AreParams given → HasControl site (control_of given) → HasIndex site index → More (full_action given index) rest
    → Action site More (params_words given ++ (index_words index ++ rest))
full_is site More (params.Gact control) index rest p c i more =
    inr (in_full site More kinds.Gact _ (controlled_is site More (params.Gact controls.Accept) control index rest c i more))
full_is site More (params.Vlan op control) index rest (is_op, p) c i more =
    let base : Params = params.Vlan op controls.Pipe in
    inr (in_full site More kinds.Vlan _ (joined_is (KindRest site More kinds.Vlan) (op_words op) (control_words control) (index_words index ++ rest)
    (vlan_is site More op (control_words control ++ (index_words index ++ rest)) is_op (inr (controlled_is site More base control index rest c i more)))))
full_is site More (params.Skbedit priority mark queue control) index rest (marked, p) c i more =
    let base : Params = params.Skbedit priority mark queue controls.Pipe in
    inr (in_full site More kinds.Skbedit _ (joined_is (KindRest site More kinds.Skbedit) (mark_words priority mark queue) (control_words control) (index_words index ++ rest)
    (skbedit_is site More priority mark queue (control_words control ++ (index_words index ++ rest)) marked (inr (controlled_is site More base control index rest c i more)))))
