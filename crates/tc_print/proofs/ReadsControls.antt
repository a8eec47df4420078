-- Printed numbers, indices and controls are read back.
use Rattle.std.proofs.Common.{◌≡◌, ℕ, List, ◌++◌, Option, Some, None, refl, inl, inr, arith}
use Rattle.std.specs.Prelude.{IfSome, IsSomeAnd}
use Rattle.std.specs.Fmt.{decimal}
use Rattle.line_texts.specs.Texts.{handle_text}
use Rattle.line_texts.proofs.Decimals.{number-read_between}
use Rattle.line_texts.proofs.Handles.{handle-read}
use Rattle.act_kinds.specs.declared.params.Control.{Control}
use Rattle.act_kinds.specs.declared.params.Control.TheVariants as controls
use Rattle.act_kinds.specs.declared.params.Params.{Params}
use Rattle.act_kinds.specs.Params.{with_control}
use Rattle.act_kinds.specs.Ranges.{IsChain, IsControl}
use Rattle.filter_state.specs.declared.action_line.ActionLine.{ActionLine}
use Rattle.filter_state.specs.Lines.{IsPref, IsIndex, GoesToNoChain}
use Rattle.tc_batch.specs.declared.action_keywords.Site.{Site}
use Rattle.tc_batch.specs.declared.action_keywords.Site.TheVariants as sites
use Rattle.tc_batch.specs.Options.{chain_number, index_number, pref_number}
use Rattle.tc_batch.specs.Actions.{full_action}
use Rattle.tc_batch.specs.Grammar.{Tail, Controlled, ControlledBy}
use Rattle.tc_print.specs.ActionWords.{control_words, index_words}
use Rattle.tc_print.proofs.Pairs.{reads_is}

pub chain_read : (chain : ℕ) → IsChain chain → chain_number (decimal chain) ≡ Some chain
chain_read chain most = number-read_between 0 268435455 chain (omega arith) (omega arith) most

pub index_read : (index : ℕ) → IsIndex index → index_number (decimal index) ≡ Some index
index_read index (least, most) = number-read_between 1 4294967295 index (omega arith) least most

pub pref_read : (pref : ℕ) → IsPref pref → pref_number (decimal pref) ≡ Some pref
pref_read pref (least, most) = number-read_between 1 65535 pref (omega arith) least most

pub handle_read : (handle : ℕ) → IsIndex handle → index_number (handle_text handle) ≡ Some handle
handle_read handle (least, most) = handle-read 1 4294967295 handle (omega arith) least most

-- the index that an action may have by its place, and has to have in a change
abbrev pub HasIndex : Site → Option ℕ → Type 0
HasIndex sites.Filter index = IfSome index IsIndex
HasIndex sites.Add index = IfSome index IsIndex
HasIndex sites.Change index = IsSomeAnd index IsIndex

-- the control that an action may have by its place
abbrev pub HasControl : Site → Control → Type 0
HasControl sites.Filter control = IsControl control
HasControl sites.Add control = IsControl control × GoesToNoChain control
HasControl sites.Change control = IsControl control × GoesToNoChain control

pub tail_is : (site : Site) (More : ActionLine → List (List ℕ) → Type 0) (given : Params) (index : Option ℕ) (rest : List (List ℕ))
    → HasIndex site index → More (full_action given index) rest → Tail site More given (index_words index ++ rest)
tail_is sites.Filter More given None rest h more = inl more
tail_is sites.Filter More given (Some n) rest h more = inr (refl, reads_is index_number (λ m. More (full_action given (Some m))) (decimal n) rest n (index_read n h) more)
tail_is sites.Add More given None rest h more = inl more
tail_is sites.Add More given (Some n) rest h more = inr (refl, reads_is index_number (λ m. More (full_action given (Some m))) (decimal n) rest n (index_read n h) more)
tail_is sites.Change More given None rest h more = absurd h
tail_is sites.Change More given (Some n) rest h more = (refl, reads_is index_number (λ m. More (full_action given (Some m))) (decimal n) rest n (index_read n h) more)

goto_is : (site : Site) (More : Control → List (List ℕ) → Type 0) (chain : ℕ) (rest : List (List ℕ))
    → HasControl site (controls.Goto chain) → More (controls.Goto chain) rest → Controlled site More (control_words (controls.Goto chain) ++ rest)
goto_is sites.Filter More n rest h more = (refl, reads_is chain_number (λ m. More (controls.Goto m)) (decimal n) rest n (chain_read n h) more)
goto_is sites.Add More n rest (h, none) more = absurd none
goto_is sites.Change More n rest (h, none) more = absurd none

jump_is : (site : Site) (More : Control → List (List ℕ) → Type 0) (place : ℕ) (rest : List (List ℕ))
    → HasControl site (controls.Jump place) → More (controls.Jump place) rest → Controlled site More (control_words (controls.Jump place) ++ rest)
jump_is sites.Filter More n rest h more = reads_is chain_number (λ m. More (controls.Jump m)) (decimal n) rest n (chain_read n h) more
jump_is sites.Add More n rest (h, _) more = reads_is chain_number (λ m. More (controls.Jump m)) (decimal n) rest n (chain_read n h) more
jump_is sites.Change More n rest (h, _) more = reads_is chain_number (λ m. More (controls.Jump m)) (decimal n) rest n (chain_read n h) more

pub control_is : (site : Site) (More : Control → List (List ℕ) → Type 0) (control : Control) (rest : List (List ℕ))
    → HasControl site control → More control rest → Controlled site More (control_words control ++ rest)
control_is site More controls.Accept rest h more = more
control_is site More controls.Shot rest h more = more
control_is site More controls.Unspec rest h more = more
control_is site More controls.Pipe rest h more = more
control_is site More controls.Reclassify rest h more = more
control_is site More (controls.Jump place) rest h more = jump_is site More place rest h more
control_is site More (controls.Goto chain) rest h more = goto_is site More chain rest h more

-- a control and an index behind what an action does
pub controlled_is : (site : Site) (More : ActionLine → List (List ℕ) → Type 0) (base : Params) (control : Control) (index : Option ℕ) (rest : List (List ℕ))
    → HasControl site control → HasIndex site index → More (full_action (with_control base control) index) rest
    → ControlledBy site More base (control_words control ++ (index_words index ++ rest))
controlled_is site More base control index rest c i more =
    control_is site (λ it. Tail site More (with_control base it)) control (index_words index ++ rest) c
    (tail_is site More (with_control base control) index rest i more)
