use Rattle.std.proofs.Common.{◌≡◌, ◌<◌, ◌+◌, suc, length, get_or, set, Some, None, sym, ap, subst, ◌∙◌, arith}
use Rattle.std.proofs.lemmas.List.{get_or_default, length-set}
use Rattle.filter_index.specs.Chains.{chain_of, is_on, last_of, AreLinked, IsBehind}
use Rattle.filter_index.proofs.Linked.{linked_first, linked_behind}
use Rattle.filter_index.proofs.Walking.{there_within}
use Rattle.filter_index.proofs.chains.Chains.remove.Goals as goal
use Rattle.filter_index.proofs.chains.Chains.remove.Goals.{After-index-before}

size_is : (c : After-index-before) → c.len.result ≡ length c.self.inside.heads.items
size_is c = omega (arith, c.self.inside.heads.ok.0, c.len.ensures)

own : (c : After-index-before) → c.chain-chain.result ≡ chain_of (length c.self.inside.heads.items) c.args.digest
own c = c.chain-chain.ensures.chain ∙ ap (λ n. chain_of n c.args.digest) (size_is c)

within : (c : After-index-before) → c.chain-chain.result < length c.self.inside.heads.items
within c = omega (arith, c.chain-chain.ensures.within, size_is c)

there : (c : After-index-before) → get_or c.self.inside.digests.items c.args.slot None ≡ Some c.args.digest
there c = ap (λ v. get_or v.digests c.args.slot None) c.self.view_is ∙ c.requires

below : (c : After-index-before) → c.args.slot < length c.self.inside.digests.items
below c = there_within c.self.inside.digests.items c.args.slot c.args.digest (there c)

next_is : (c : After-index-before) → c.index-before.result.now ≡ get_or c.self.inside.nexts.items c.args.slot 0
next_is c =
    let known = below c in
    c.index-before.ensures ∙ get_or_default c.self.inside.nexts.items c.args.slot c.index-before.result.now 0 (omega (arith, known, c.self.invariant.even))

pub invariant_of-self : goal.invariant_of-self
invariant_of-self c =
    let inside = c.self.inside in
    let heads = inside.heads.items in
    let digests = inside.digests.items in
    let at = (goal.at.invariant_of-self c).After-index-before in
    let chain = c.chain-chain.result in
    let none : last_of (is_on (length heads) chain) digests (length digests) ≡ c.args.slot + 1 =
    rw (c.deref.ensures.value, c.deref-2.ensures.value) at c.in-None.ensures.none in
    subst (λ n. AreLinked n (set heads chain c.index-before.result.now) (set digests c.args.slot None) inside.nexts.items)
    (sym (length-set heads chain c.index-before.result.now))
    (linked_first (length heads) heads digests inside.nexts.items c.self.invariant c.args.digest chain c.index-before.result.now c.args.slot
    (own at) (within at) (below at) (there at) (next_is at) (let e : last_of (is_on (length heads) chain) digests (length digests) ≡ suc c.args.slot = omega (arith, none) in e))

pub invariant_of-self-in-Some : goal.invariant_of-self-in-Some
invariant_of-self-in-Some c =
    let inside = c.self.inside in
    let heads = inside.heads.items in
    let digests = inside.digests.items in
    let at = (goal.at.invariant_of-self-in-Some c).After-index-before in
    let chain = c.chain-chain.result in
    let behind : IsBehind (is_on (length heads) chain) digests c.args.slot c.in-Some.next =
    rw (c.deref.ensures.value, c.deref-2.ensures.value) at c.in-Some.ensures.some in
    linked_behind (length heads) heads digests inside.nexts.items c.self.invariant c.args.digest chain c.index-before.result.now c.args.slot
    (own at) (within at) (below at) (there at) (next_is at) c.in-Some.next behind
