-- The parameters that are read from the words of parameters are those.
use Rattle.std.proofs.Common.{◌≡◌, ℕ, ◌+◌, ◌-◌, ◌/◌, ◌%◌, ◌<◌, Bool, cond, List, [], ◌∷◌, Option, None, Some, refl, ap, sym, ◌∙◌, arith, ne_eqb, eq-eqb, eqb, true, ◌&&◌}
use lib.Pointwise.{pointwise}
use Rattle.act_kinds.specs.declared.params.Control.{Control}
use Rattle.act_kinds.specs.declared.params.Control.TheVariants as controls
use Rattle.act_kinds.specs.declared.params.VlanOp.TheVariants as ops
use Rattle.act_kinds.specs.declared.params.Params.{Params}
use Rattle.act_kinds.specs.declared.params.Params.TheVariants as params
use Rattle.act_kinds.specs.Ranges.{IsControl}
use Rattle.block_codec.specs.Blocks.{both}
use Rattle.block_codec.specs.Parameters.{control_word, params_words, AreStorable, FitParams, AreParamsIn}
use Rattle.block_codec.specs.ReadingParameters.{control_of, control_in, priority_in, vlan_in, vlan_with, params_with, params_in}
use Rattle.block_codec.proofs.Halves.{low_of, high_of}

control_back : (control : Control) → IsControl control → control_in (control_word control) ≡ Some control
control_back controls.Accept within = refl
control_back controls.Shot within = refl
control_back controls.Unspec within = refl
control_back controls.Pipe within = refl
control_back controls.Reclassify within = refl
control_back (controls.Jump place) within = let number = low_of 6 place (omega arith) in let goes = high_of 6 place (omega arith) in λ i. control_of (number i) (goes i)
control_back (controls.Goto place) within = let number = low_of 7 place (omega arith) in let goes = high_of 7 place (omega arith) in λ i. control_of (number i) (goes i)

tpid_back : (id tpid : ℕ) → id < 65536 → tpid < 65536 → both id tpid / 4294967296 % 65536 ≡ tpid
tpid_back id tpid l m = omega arith

id_back : (id tpid : ℕ) → id < 65536 → tpid < 65536 → both id tpid % 65536 ≡ id
id_back id tpid l m = omega arith

priority_back : (priority : ℕ) → priority < 256 → priority_in (priority + 1) ≡ Some priority
priority_back priority low = ap (λ (b : Bool). cond b None (Some ((priority + 1 - 1) % 256))) (ne_eqb (priority + 1) 0 (λ e. absurd (omega arith))) ∙ ap Some (omega arith)

push_back : (tpid id priority : ℕ) → tpid < 65536 → id < 65536 → priority < 256 → vlan_in 1 (both id tpid) (priority + 1) ≡ Some (ops.Push tpid id priority)
push_back tpid id priority l m n = let a = tpid_back id tpid m l in let b = id_back id tpid m l in let c : (priority + 1 - 1) % 256 ≡ priority = omega arith in λ i. Some (ops.Push (a i) (b i) (c i))

modify_back : (tpid id word : ℕ) (priority : Option ℕ) → tpid < 65536 → id < 65536 → priority_in word ≡ priority → vlan_in 3 (both id tpid) word ≡ Some (ops.Modify tpid id priority)
modify_back tpid id word priority l m e = let a = tpid_back id tpid m l in let b = id_back id tpid m l in λ i. Some (ops.Modify (a i) (b i) (e i))

queue_back : (queue : ℕ) → queue < 65536 → queue % 65536 ≡ queue
queue_back queue low = omega arith

-- with a control that is read back
with_control : (kind a b c : ℕ) (control : Control) → IsControl control → params_with kind (control_in (control_word control)) a b c ≡ params_with kind (Some control) a b c
with_control kind a b c control within = ap (λ o. params_with kind o a b c) (control_back control within)

pub params_back : (given : Params) → AreStorable given → FitParams given → params_in (params_words given) ≡ Some given
params_back (params.Gact control) s f = with_control 1 0 0 0 control s
params_back (params.Vlan (ops.Push tpid id priority) control) s f = with_control 2 1 (both id tpid) (priority + 1) control s ∙ ap (vlan_with control) (push_back tpid id priority f.0 f.1 f.2)
params_back (params.Vlan ops.Pop control) s f = with_control 2 2 0 0 control s
params_back (params.Vlan (ops.Modify tpid id None) control) s f = with_control 2 3 (both id tpid) 0 control s ∙ ap (vlan_with control) (modify_back tpid id 0 None f.0 f.1 refl)
params_back (params.Vlan (ops.Modify tpid id (Some priority)) control) s f =
    with_control 2 3 (both id tpid) (priority + 1) control s ∙ ap (vlan_with control) (modify_back tpid id (priority + 1) (Some priority) f.0 f.1 (priority_back priority f.2))
params_back (params.Skbedit None None None control) s f = with_control 3 0 (both 0 0) 0 control s
params_back (params.Skbedit None None (Some queue) control) s f = with_control 3 4 (both 0 0) queue control s ∙ (let q = queue_back queue f.2 in λ i. Some (params.Skbedit None None (Some (q i)) control))
params_back (params.Skbedit None (Some mark) None control) s f = with_control 3 2 (both 0 mark) 0 control s ∙ (let m = high_of 0 mark (omega arith) in λ i. Some (params.Skbedit None (Some (m i)) None control))
params_back (params.Skbedit None (Some mark) (Some queue) control) s f =
    with_control 3 6 (both 0 mark) queue control s ∙ (let m = high_of 0 mark (omega arith) in let q = queue_back queue f.2 in λ i. Some (params.Skbedit None (Some (m i)) (Some (q i)) control))
params_back (params.Skbedit (Some priority) None None control) s f = with_control 3 1 (both priority 0) 0 control s ∙ (let p = low_of priority 0 f.0 in λ i. Some (params.Skbedit (Some (p i)) None None control))
params_back (params.Skbedit (Some priority) None (Some queue) control) s f =
    with_control 3 5 (both priority 0) queue control s ∙ (let p = low_of priority 0 f.0 in let q = queue_back queue f.2 in λ i. Some (params.Skbedit (Some (p i)) None (Some (q i)) control))
params_back (params.Skbedit (Some priority) (Some mark) None control) s f =
    with_control 3 3 (both priority mark) 0 control s ∙ (let p = low_of priority mark f.0 in let m = high_of priority mark f.0 in λ i. Some (params.Skbedit (Some (p i)) (Some (m i)) None control))
params_back (params.Skbedit (Some priority) (Some mark) (Some queue) control) s f =
    with_control 3 7 (both priority mark) queue control s
    ∙ (let p = low_of priority mark f.0 in let m = high_of priority mark f.0 in let q = queue_back queue f.2 in λ i. Some (params.Skbedit (Some (p i)) (Some (m i)) (Some (q i)) control))

pub read_back : (words : List ℕ) (given : Params) → AreParamsIn words given → params_in words ≡ Some given
read_back words given is = ap params_in is.words_are ∙ params_back given is.storable is.fit

same_words : (xs : List ℕ) → pointwise eqb xs xs ≡ true
same_words [] = refl
same_words (x ∷ xs) = ap (λ (b : Bool). b && pointwise eqb xs xs) (eq-eqb x x refl) ∙ same_words xs

-- equal words compare as equal
pub equal_words : (xs ys : List ℕ) → xs ≡ ys → pointwise eqb xs ys ≡ true
equal_words xs ys e = ap (pointwise eqb xs) (sym e) ∙ same_words xs
