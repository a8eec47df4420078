use Rattle.std.proofs.Common.{◌≡◌, ℕ, false, List, get_or, bit_and, arith, refl, ap, sym, ◌∙◌, inl, inr}
use Rattle.std.proofs.lemmas.Bool.{cases_Bool, false≢true}
use Rattle.std.proofs.lemmas.Slice.Eq.{bytes_eq-Decides}
use Rattle.flow_mask.specs.Masks.{each_and, is_match}
use Rattle.flow_mask.proofs.Ands.{get_or-each_and, each_and_is}
use Rattle.flow_mask.proofs.matching.slices_match.Goals as goal

-- a word that differs
differ : (frame mask key : List ℕ) (i : ℕ) → (bit_and (get_or frame i 0) (get_or mask i 0) ≡ get_or key i 0 → ⊥) → each_and frame mask ≡ key → ⊥
differ frame mask key i other same =
    other (sym (get_or-each_and frame mask i) ∙ ap (λ (words : List ℕ). get_or words i 0) same)

no_match : (frame mask key : List ℕ) → (each_and frame mask ≡ key → ⊥) → false ≡ is_match frame mask key
no_match frame mask key other =
    elim (cases_Bool (is_match frame mask key)) [
      | inl same ↦ absurd (other ((bytes_eq-Decides (each_and frame mask) key).0 same))
      | inr differs ↦ sym differs
    ]

pub returns-then-frame-i-clause-words : goal.returns-then-frame-i-clause-words
returns-then-frame-i-clause-words c = (
  λ impossible. absurd (false≢true impossible),
  λ same. absurd (differ c.args.frame.now c.args.mask.now c.args.key.now c.loop-i.i c.if-frame-i.true same),
)

pub returns-then-frame-i-clause-test : goal.returns-then-frame-i-clause-test
returns-then-frame-i-clause-test c =
    no_match c.args.frame.now c.args.mask.now c.args.key.now
    (differ c.args.frame.now c.args.mask.now c.args.key.now c.loop-i.i c.if-frame-i.true)

pub returns-clause-words : goal.returns-clause-words
returns-clause-words c = (
  λ _. each_and_is c.args.frame.now c.args.mask.now c.args.key.now c.requires.frame c.requires.mask
      (λ k here. c.loop-i.invariant k (omega arith)),
  λ _. refl,
)

pub returns-clause-test : goal.returns-clause-test
returns-clause-test c = sym ((bytes_eq-Decides _ _).1 ((returns-clause-words c).0 refl))
