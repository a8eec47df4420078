-- The block of an action reads as the action.
use Rattle.std.proofs.Common.{◌≡◌, inl, inr, ℕ, ◌+◌, ◌-◌, ◌^◌, ◌<◌, ◌≤◌, List, [], ◌∷◌, ◌++◌, length, get_or, replicate, Option, Some, None, IfSome, refl, ap, arith}
use Rattle.std.specs.Prelude.{All}
use Rattle.std.specs.Option.{option_map}
use mathlib.Core.Logic.{dite}
use native.Mathlib.Decide.{dec_lt}
use Rattle.std.proofs.lemmas.List.{get_or_past}
use Rattle.std.proofs.lemmas.List.Elements.{All-cons, All-nil, All-append, All-replicate, All-get_or}
use Rattle.act_kinds.specs.declared.params.Control.{Control}
use Rattle.act_kinds.specs.declared.params.Control.TheVariants as controls
use Rattle.act_kinds.specs.declared.params.VlanOp.{VlanOp}
use Rattle.act_kinds.specs.declared.params.VlanOp.TheVariants as ops
use Rattle.act_kinds.specs.declared.params.Params.{Params}
use Rattle.act_kinds.specs.declared.params.Params.TheVariants as params
use Rattle.act_kinds.specs.Ranges.{IsControl, IsVlanOp, IsVlanPriority, IsTpid, AreParams}
use Rattle.block_codec.specs.declared.action.StoredAction.{StoredAction}
use Rattle.block_codec.specs.Blocks.{both, block, plus_one}
use Rattle.block_codec.specs.Parameters.{control_word, vlan_words, flag_of, number_of, skbedit_words, params_words, AreStorable, FitsOp, FitParams}
use Rattle.block_codec.specs.Actions.{action_words, IsStorableAction, IsActionBlock}
use Rattle.block_codec.proofs.Standing.{length_block}
use Rattle.block_codec.specs.OfReadings.Read.{link_in, action_of_words}
use Rattle.block_codec.proofs.OfReadings.Acting.{action_only}

-- ---- parameters that a line can give
small_tpid : (n : ℕ) → IsTpid n → n < 2 ^ 16
small_tpid n (inl e) = omega (arith, e)
small_tpid n (inr e) = omega (arith, e)

small_priority : (o : Option ℕ) → IfSome o IsVlanPriority → IfSome o (λ n. n < 2 ^ 8)
small_priority None r = tt
small_priority (Some n) r = omega (arith, r)

fits_op : (op : VlanOp) → IsVlanOp op → FitsOp op
fits_op (ops.Push tpid id priority) r = let a = r.1 in let b = r.2 in (small_tpid tpid r.0, omega (arith, a), omega (arith, b))
fits_op ops.Pop r = tt
fits_op (ops.Modify tpid id priority) r = let a = r.1 in (small_tpid tpid r.0, omega (arith, a), small_priority priority r.2)

pub params_stored : (given : Params) → AreParams given → AreStorable given × FitParams given
params_stored (params.Gact control) r = (r, tt)
params_stored (params.Vlan op control) r = (r.1, fits_op op r.0)
params_stored (params.Skbedit priority mark queue control) r = (r.1, (r.0.1, r.0.2, r.0.3))

-- ---- words of 64 bits
abbrev Is64 : ℕ → Type 0
Is64 word = word < 18446744073709551616

control_small : (control : Control) → IsControl control → Is64 (control_word control)
control_small controls.Accept r = omega arith
control_small controls.Shot r = omega arith
control_small controls.Unspec r = omega arith
control_small controls.Pipe r = omega arith
control_small controls.Reclassify r = omega arith
control_small (controls.Jump place) r = omega (arith, r)
control_small (controls.Goto chain) r = omega (arith, r)

three_small : (a b d : ℕ) → Is64 a → Is64 b → Is64 d → All Is64 (a ∷ b ∷ d ∷ [])
three_small a b d small_a small_b small_d = All-cons Is64 a (b ∷ d ∷ []) small_a (All-cons Is64 b (d ∷ []) small_b (All-cons Is64 d [] small_d (All-nil Is64)))

plus_one_small : (o : Option ℕ) → IfSome o (λ n. n < 2 ^ 8) → Is64 (plus_one o)
plus_one_small None r = omega arith
plus_one_small (Some n) r = omega (arith, r)

op_small : (op : VlanOp) → FitsOp op → All Is64 (vlan_words op)
op_small (ops.Push tpid id priority) r = let a = r.0 in let b = r.1 in let d = r.2 in three_small 1 (both id tpid) (priority + 1) (omega arith) (omega (arith, a, b)) (omega (arith, d))
op_small ops.Pop r = three_small 2 0 0 (omega arith) (omega arith) (omega arith)
op_small (ops.Modify tpid id priority) r = let a = r.0 in let b = r.1 in three_small 3 (both id tpid) (plus_one priority) (omega arith) (omega (arith, a, b)) (plus_one_small priority r.2)

number_small : (o : Option ℕ) (n : ℕ) → IfSome o (λ k. k < n) → number_of o ≤ n
number_small None n r = omega arith
number_small (Some k) n r = omega (arith, r)

flag_small : (flag : ℕ) (o : Option ℕ) → flag_of flag o ≤ flag
flag_small flag None = omega arith
flag_small flag (Some k) = omega arith

marks_small : (priority mark queue : Option ℕ) → IfSome priority (λ n. n < 2 ^ 32) → IfSome mark (λ n. n < 2 ^ 32) → IfSome queue (λ n. n < 2 ^ 16) → All Is64 (skbedit_words priority mark queue)
marks_small priority mark queue p m q =
    let a = flag_small 1 priority in let b = flag_small 2 mark in let d = flag_small 4 queue in
    three_small (flag_of 1 priority + flag_of 2 mark + flag_of 4 queue) (both (number_of priority) (number_of mark)) (number_of queue)
    (omega (arith, a, b, d)) (halves_small priority mark p m) (let e = number_small queue (2 ^ 16) q in omega (arith, e))
  where
    halves_small : (one other : Option ℕ) → IfSome one (λ n. n < 2 ^ 32) → IfSome other (λ n. n < 2 ^ 32) → Is64 (both (number_of one) (number_of other))
    halves_small None None p m = omega arith
    halves_small None (Some k) p m = omega (arith, m)
    halves_small (Some n) None p m = omega (arith, p)
    halves_small (Some n) (Some k) p m = omega (arith, p, m)

params_small : (given : Params) → AreStorable given → FitParams given → All Is64 (params_words given)
params_small (params.Gact control) s f = All-cons Is64 1 (control_word control ∷ 0 ∷ 0 ∷ 0 ∷ []) (omega arith)
    (All-cons Is64 (control_word control) (0 ∷ 0 ∷ 0 ∷ []) (control_small control s) (three_small 0 0 0 (omega arith) (omega arith) (omega arith)))
params_small (params.Vlan op control) s f = All-cons Is64 2 (control_word control ∷ vlan_words op) (omega arith)
    (All-cons Is64 (control_word control) (vlan_words op) (control_small control s) (op_small op f))
params_small (params.Skbedit priority mark queue control) s f = All-cons Is64 3 (control_word control ∷ skbedit_words priority mark queue) (omega arith)
    (All-cons Is64 (control_word control) (skbedit_words priority mark queue) (control_small control s) (marks_small priority mark queue f.0 f.1 f.2))

-- ---- the block of an action
few_words : (action : StoredAction) → length (action_words action) ≤ 39
few_words action = pick action.params
  where
    pick : (given : Params) → length (4 ∷ both action.serial action.index ∷ params_words given) ≤ 39
    pick (params.Gact control) = omega arith
    pick (params.Vlan (ops.Push tpid id priority) control) = omega arith
    pick (params.Vlan ops.Pop control) = omega arith
    pick (params.Vlan (ops.Modify tpid id priority) control) = omega arith
    pick (params.Skbedit priority mark queue control) = omega arith

module _ (action : StoredAction) (storable : IsStorableAction action) (fit : FitParams action.params) where
  abbrev words : List ℕ
  words = block (action_words action) None

  named_small : All Is64 (action_words action)
  named_small = let s = storable.serial in let i = storable.index in
      All-cons Is64 4 (both action.serial action.index ∷ params_words action.params) (omega arith)
      (All-cons Is64 (both action.serial action.index) (params_words action.params) (let most = s.1 in let top = i.1 in omega (arith, most, top))
      (params_small action.params storable.params fit))

  all_small : All Is64 words
  all_small = All-append Is64 (action_words action ++ replicate (39 - length (action_words action)) 0) (0 ∷ [])
      (All-append Is64 (action_words action) (replicate (39 - length (action_words action)) 0) named_small (All-replicate Is64 (39 - length (action_words action)) 0 (omega arith)))
      (All-cons Is64 0 [] (omega arith) (All-nil Is64))

  small : (place : ℕ) → Is64 (get_or words place 0)
  small place = dite (dec_lt place (length words))
      (λ (less : place < length words). All-get_or Is64 words place 0 less all_small)
      (λ (past : place < length words → ⊥). let none = get_or_past words place 0 (omega arith) in omega arith)

  is_block : IsActionBlock words (action, None)
  is_block = record { storable = storable; fit = fit; link = tt; words_are = refl }

  pub action_reads : action_of_words words ≡ Some action
  action_reads = pick (action_of_words words) ((action_only words (length_block (action_words action) None (few_words action)) small).only (action, None) is_block)
    where
      pick : (found : Option StoredAction) → option_map {U = StoredAction × Option ℕ} (λ (it : StoredAction). (it, link_in words)) found ≡ Some (action, None) → found ≡ Some action
      pick None e = absurd (cc e)
      pick (Some it) e = let same : ◌≡◌ {A = StoredAction × Option ℕ} (it, link_in words) (action, None) = cc e in ap (λ (p : StoredAction × Option ℕ). Some p.0) same
