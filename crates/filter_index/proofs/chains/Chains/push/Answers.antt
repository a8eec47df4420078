use Rattle.std.proofs.Common.{◌≡◌, ◌<◌, ◌+◌, ◌∷◌, [], ◌++◌, Some, length, set, sym, ap, subst, ◌∙◌, arith}
use Rattle.std.proofs.lemmas.List.{get_or_default, length-set}
use Rattle.filter_index.specs.Chains.{chain_of, AreLinked}
use Rattle.filter_index.proofs.Linked.{linked_more}
use Rattle.filter_index.proofs.chains.Chains.push.Goals as goal

pub invariant_of-self : goal.invariant_of-self
invariant_of-self c =
    let inside = c.self.inside in
    let heads = inside.heads.items in
    let digests = inside.digests.items in
    let nexts = inside.nexts.items in
    let chain = c.chain-chain.result in
    let size : c.len.result ≡ length heads = omega (arith, inside.heads.ok.0, c.len.ensures) in
    let own : chain ≡ chain_of (length heads) c.args.digest = c.chain-chain.ensures.chain ∙ ap (λ n. chain_of n c.args.digest) size in
    let within : chain < length heads = omega (arith, c.chain-chain.ensures.within, size) in
    let before = c.index-before.ensures ∙ get_or_default heads chain c.index-before.result.now 0 within in
    let number : c.len-2.result + 1 ≡ length digests + 1 = omega (arith, inside.digests.ok.0, c.len-2.ensures) in
    let spare = ap (λ v. v.spare) c.self.view_is in
    let room : length digests < length heads = omega (arith, spare, c.requires) in
    rw (c.push_reserved-2.ensures.items, c.push_reserved.ensures.items)
    (subst (λ n. AreLinked n (set heads chain (c.len-2.result + 1)) (digests ++ Some c.args.digest ∷ []) (nexts ++ c.index-before.result.now ∷ []))
    (sym (length-set heads chain (c.len-2.result + 1)))
    (linked_more (length heads) heads digests nexts c.self.invariant c.args.digest chain c.index-before.result.now (c.len-2.result + 1) own within before number room))
