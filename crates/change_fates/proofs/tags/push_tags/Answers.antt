use Rattle.std.proofs.Common.{◌∙◌, ◌++◌, List, ℕ, ap}
use Rattle.change_fates.specs.declared.tags.Tag.{Tag}
use Rattle.change_fates.specs.Tags.{is_tag_at, tag_at}
use Rattle.change_fates.specs.Texts.{tag_text, tags_text}
use Rattle.change_fates.proofs.Tagging.{all_left, one_more, none_left, read_tag, no_tag}
use Rattle.change_fates.proofs.tags.push_tags.Goals as goal

pub loop-tag-init : goal.loop-tag-init
loop-tag-init c = all_left c.args.bytes.now c.args.out.now.items

pub loop-tag-preserved : goal.loop-tag-preserved
loop-tag-preserved c =
    let bytes = c.args.bytes.now in
    let at = c.loop-tag.at in
    let out = c.loop-tag.out.items in
    let label = c.loop-tag.label.now in
    let tag = c.in-Some.tag in
    let read = read_tag (is_tag_at bytes at) (tag_at bytes at) tag c.tag_at.result c.tag_at.ensures c.in-Some.is in
    one_more bytes out label c.push_tag.new.out.items (c.args.out.now.items ++ tags_text bytes) at read.0
    (c.in_ok-push_tag.ensures
    ∙ ap (λ (xs : List ℕ). xs ++ tag_text tag) c.in_ok-extend_from_slice.ensures.items
    ∙ ap (λ (t : Tag). (out ++ label) ++ tag_text t) read.1) c.loop-tag.invariant

pub returns : goal.returns
returns c =
    let bytes = c.args.bytes.now in
    let at = c.loop-tag.at in
    none_left bytes c.loop-tag.out.items c.loop-tag.label.now (c.args.out.now.items ++ tags_text bytes) at
    (no_tag (is_tag_at bytes at) (tag_at bytes at) c.tag_at.result c.tag_at.ensures c.in_default.not-Some)
    c.loop-tag.invariant
