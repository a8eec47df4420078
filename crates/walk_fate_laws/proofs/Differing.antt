-- No two ways have the same answers.
use Rattle.std.proofs.Common.{◌≡◌, ◌∙◌, ℕ, zero, suc, ◌+◌, ◌-◌, List, [], ◌∷◌, map, Option, Some, None, inl}
use Rattle.std.proofs.Common.{inr, sym, ap, subst}
use Rattle.std.specs.List.{range_with_len}
use Rattle.walk_fate_laws.specs.Firsts.{IsAmong, First}
use Rattle.walk_fate_laws.specs.Games.{Game, IsExact, raised}
use Rattle.walk_fate_laws.specs.Ways.{Way, branches, put_before, ways_through, ways_by, ways_from}
use Rattle.walk_fate_laws.proofs.Members.{of_map, of_flat}
use Rattle.walk_fate_laws.proofs.Finding.{one_first}
use Rattle.walk_fate_laws.proofs.Searching.{ways_after, ways_on}

first_same : {A : Type 0} (a b : A) (ones others : List A) → (a ∷ ones) ≡ (b ∷ others) → a ≡ b
first_same a b ones others is = cc is

rest_same : {A : Type 0} (a b : A) (ones others : List A) → (a ∷ ones) ≡ (b ∷ others) → ones ≡ others
rest_same a b ones others is = cc is

module _ {S A : Type 0} where
  by_both : {Q : Type 0} (st : S) (o : Option Q) (more : Q → List (Way S A)) (w v : Way S A)
      → IsAmong w (ways_by st o more) → IsAmong v (ways_by st o more)
      → ((q : Q) → IsAmong w (more q) → IsAmong v (more q) → w ≡ v) → w ≡ v
  by_both st None more w v one other rest = elim one [
    | inl first ↦ elim other [
      | inl second ↦ first ∙ sym second
      | inr none ↦ absurd none
    ]
    | inr none ↦ absurd none
  ]
  by_both st (Some q) more w v one other rest = rest q one other

  both_through : (more : First ℕ A → List (Way S A)) (bs : List (First ℕ A)) (w v : Way S A)
      → IsAmong w (ways_through more bs) → IsAmong v (ways_through more bs) → w.answers ≡ v.answers
      → ((b c : First ℕ A) → IsAmong b bs → IsAmong c bs → b.key ≡ c.key → b ≡ c)
      → ((b : First ℕ A) (x y : Way S A) → IsAmong x (more b) → IsAmong y (more b) → x.answers ≡ y.answers
      → x ≡ y) → w ≡ v
  both_through more bs w v one other is one_of each =
      let first = of_flat (λ (b : First ℕ A). map (put_before b) (more b)) w bs one in
      let second = of_flat (λ (b : First ℕ A). map (put_before b) (more b)) v bs other in
      let own = of_map (put_before first.0) w (more first.0) first.2 in
      let its = of_map (put_before second.0) v (more second.0) second.2 in
      let answers : (first.0.key ∷ own.0.answers) ≡ (second.0.key ∷ its.0.answers) =
      sym (ap (λ (x : Way S A). x.answers) own.2) ∙ is ∙ ap (λ (x : Way S A). x.answers) its.2 in
      let branch : first.0 ≡ second.0 = one_of first.0 second.0 first.1 second.1
      (first_same first.0.key second.0.key own.0.answers its.0.answers answers) in
      let there : IsAmong its.0 (more first.0) =
      subst (λ (b : First ℕ A). IsAmong its.0 (more b)) (sym branch) its.1 in
      let rest : own.0 ≡ its.0 = each first.0 own.0 its.0 own.1 there
      (rest_same first.0.key second.0.key own.0.answers its.0.answers answers) in
      own.2 ∙ ap (put_before first.0) rest ∙ ap (λ (b : First ℕ A). put_before b its.0) branch ∙ sym its.2

module _ {S Q A : Type 0} (g : Game S Q A) (ceiling : ℕ) where
  one_branch : IsExact g → (low : Q → ℕ) (q : Q) (b c : First ℕ A) → IsAmong b (branches g ceiling low q)
      → IsAmong c (branches g ceiling low q) → b.key ≡ c.key → b ≡ c
  one_branch exact low q b c there also is =
      one_first g.same (λ point. g.answer point q) exact.itself []
      (range_with_len (low q) ((ceiling + 1) - low q)) b c there also is

  pub one_way : IsExact g → (depth : ℕ) (st : S) (low : Q → ℕ) (w v : Way S A)
      → IsAmong w (ways_from g ceiling depth st low) → IsAmong v (ways_from g ceiling depth st low)
      → w.answers ≡ v.answers → w ≡ v
  unfolding ways_from
  one_way exact zero st low w v one other is =
      by_both st (g.question st) (λ q. []) w v one other (λ q none also. absurd none)
  one_way exact (suc depth) st low w v one other is =
      by_both st (g.question st) (λ q. ways_on g ceiling depth st low q) w v one other
      (λ q first second. both_through (ways_after g ceiling depth st low q) (branches g ceiling low q) w v
      first second is (one_branch exact low q)
      (λ b x y there also same. one_way exact depth (g.after st b.key)
      (raised g low q b.item) x y there also same))
