-- The tests of answers and of fates say which are one.
use Rattle.std.proofs.Common.{◌≡◌, ℕ, ◌==◌, ◌&&◌, Bool, true, false, List, Option, Some, None, refl, ap}
use Rattle.std.proofs.Common.{subst, arith}
use lib.Pointwise.{pointwise, pointwise_decides, bytes_decides}
use Rattle.std.specs.Prelude.{nat_eq}
use Rattle.std.specs.Option.{option_eq}
use Rattle.std.proofs.lemmas.Bool.Decides.{nat_tests}
use Rattle.tc_base.specs.declared.hook.Proto.TheVariants as protocols
use Rattle.act_kinds.specs.declared.params.Control.{Control}
use Rattle.act_kinds.specs.declared.params.Control.TheVariants as controls
use Rattle.act_kinds.specs.declared.params.VlanOp.TheVariants as vlans
use Rattle.act_kinds.specs.declared.params.Params.{Params}
use Rattle.act_kinds.specs.declared.params.Params.TheVariants as params
use Rattle.filter_state.specs.Tables.{protocol_eq}
use Rattle.walk_rules.specs.Questions.{Head, told_heads, told_no_filter, told_actions, told_params}
use Rattle.walk_fate_laws.specs.Fates.{dropped, passed, same_meta, same_fate}
use Rattle.walk_fate_laws.specs.Walks.{same_head, same_control, same_vlan, same_params, same_answer}

abbrev pub Exact : {X : Type 0} → (X → X → Bool) → Type 0
Exact {X = X} same = (one other : X) → same one other ≡ true → one ≡ other

abbrev pub Itself : {X : Type 0} → (X → X → Bool) → Type 0
Itself {X = X} same = (one : X) → same one one ≡ true

both : (a b : Bool) → (a && b) ≡ true → (a ≡ true) × (b ≡ true)
both true b is = (refl, is)
both false b is = absurd (cc is)

together : (a b : Bool) → a ≡ true → b ≡ true → (a && b) ≡ true
together true b first second = second
together false b first second = absurd (cc first)

three : (a b c : Bool) → (a && b && c) ≡ true → (a ≡ true) × (b ≡ true) × (c ≡ true)
three a b c is = let last = both (a && b) c is in let rest = both a b last.0 in (rest.0, rest.1, last.1)

four : (a b c d : Bool) → (a && b && c && d) ≡ true → (a ≡ true) × (b ≡ true) × (c ≡ true) × (d ≡ true)
four a b c d is =
    let last = both (a && b && c) d is in let rest = three a b c last.0 in (rest.0, rest.1, rest.2, last.1)

five : (a b c d e : Bool) → (a && b && c && d && e) ≡ true
    → (a ≡ true) × (b ≡ true) × (c ≡ true) × (d ≡ true) × (e ≡ true)
five a b c d e is =
    let last = both (a && b && c && d) e is in let rest = four a b c d last.0 in
    (rest.0, rest.1, rest.2, rest.3, last.1)

all_three : (a b c : Bool) → a ≡ true → b ≡ true → c ≡ true → (a && b && c) ≡ true
all_three a b c one two last = together (a && b) c (together a b one two) last

all_four : (a b c d : Bool) → a ≡ true → b ≡ true → c ≡ true → d ≡ true → (a && b && c && d) ≡ true
all_four a b c d one two other last = together (a && b && c) d (all_three a b c one two other) last

-- ---- numbers and lists
number : (n m : ℕ) → (n == m) ≡ true → n ≡ m
number n m is = grind (arith, nat_tests, is)

own_number : (n : ℕ) → (n == n) ≡ true
own_number n = grind (arith, nat_tests)

module _ {X : Type 0} (same : X → X → Bool) (exact : Exact same) (itself : Itself same) where
  decides : (x y : X) → (same x y ≡ true → x ≡ y) × (x ≡ y → same x y ≡ true)
  decides x y = (exact x y, λ is. subst (λ (z : X). same x z ≡ true) is (itself x))

  list_exact : (xs ys : List X) → pointwise same xs ys ≡ true → xs ≡ ys
  list_exact xs ys = (pointwise_decides decides xs ys).0

  list_itself : (xs : List X) → pointwise same xs xs ≡ true
  list_itself xs = (pointwise_decides decides xs xs).1 refl

numbers : (ns ms : List ℕ) → pointwise nat_eq ns ms ≡ true → ns ≡ ms
numbers ns ms = (bytes_decides ns ms).0

own_numbers : (ns : List ℕ) → pointwise nat_eq ns ns ≡ true
own_numbers ns = (bytes_decides ns ns).1 refl

given : (o p : Option ℕ) → option_eq nat_eq o p ≡ true → o ≡ p
given None None is = refl
given None (Some m) is = absurd (cc is)
given (Some n) None is = absurd (cc is)
given (Some n) (Some m) is = ap (λ (k : ℕ). Some k) (number n m is)

own_given : (o : Option ℕ) → option_eq nat_eq o o ≡ true
own_given None = refl
own_given (Some n) = own_number n

-- ---- parameters
control_exact : Exact same_control
control_exact controls.Accept controls.Accept is = refl
control_exact controls.Shot controls.Shot is = refl
control_exact controls.Unspec controls.Unspec is = refl
control_exact controls.Pipe controls.Pipe is = refl
control_exact controls.Reclassify controls.Reclassify is = refl
control_exact (controls.Jump n) (controls.Jump m) is = ap (λ (k : ℕ). controls.Jump k) (number n m is)
control_exact (controls.Goto n) (controls.Goto m) is = ap (λ (k : ℕ). controls.Goto k) (number n m is)
control_exact one other is = absurd (cc is)

control_itself : Itself same_control
control_itself controls.Accept = refl
control_itself controls.Shot = refl
control_itself controls.Unspec = refl
control_itself controls.Pipe = refl
control_itself controls.Reclassify = refl
control_itself (controls.Jump n) = own_number n
control_itself (controls.Goto n) = own_number n

vlan_exact : Exact same_vlan
vlan_exact (vlans.Push t i p) (vlans.Push t' i' p') is =
    let parts = three (t == t') (i == i') (p == p') is in
    let tpid = number t t' parts.0 in let id = number i i' parts.1 in let priority = number p p' parts.2 in
    λ x. vlans.Push (tpid x) (id x) (priority x)
vlan_exact vlans.Pop vlans.Pop is = refl
vlan_exact (vlans.Modify t i p) (vlans.Modify t' i' p') is =
    let parts = three (t == t') (i == i') (option_eq nat_eq p p') is in
    let tpid = number t t' parts.0 in let id = number i i' parts.1 in let priority = given p p' parts.2 in
    λ x. vlans.Modify (tpid x) (id x) (priority x)
vlan_exact one other is = absurd (cc is)

vlan_itself : Itself same_vlan
vlan_itself (vlans.Push t i p) =
    all_three (t == t) (i == i) (p == p) (own_number t) (own_number i) (own_number p)
vlan_itself vlans.Pop = refl
vlan_itself (vlans.Modify t i p) =
    all_three (t == t) (i == i) (option_eq nat_eq p p) (own_number t) (own_number i) (own_given p)

params_exact : Exact same_params
params_exact (params.Gact c) (params.Gact c') is = ap (λ (k : Control). params.Gact k) (control_exact c c' is)
params_exact (params.Vlan op c) (params.Vlan op' c') is =
    let parts = both (same_vlan op op') (same_control c c') is in
    let ops = vlan_exact op op' parts.0 in let cs = control_exact c c' parts.1 in
    λ x. params.Vlan (ops x) (cs x)
params_exact (params.Skbedit p m q c) (params.Skbedit p' m' q' c') is =
    let parts = four (option_eq nat_eq p p') (option_eq nat_eq m m') (option_eq nat_eq q q')
    (same_control c c') is in
    let ps = given p p' parts.0 in let ms = given m m' parts.1 in
    let qs = given q q' parts.2 in let cs = control_exact c c' parts.3 in
    λ x. params.Skbedit (ps x) (ms x) (qs x) (cs x)
params_exact one other is = absurd (cc is)

params_itself : Itself same_params
params_itself (params.Gact c) = control_itself c
params_itself (params.Vlan op c) =
    together (same_vlan op op) (same_control c c) (vlan_itself op) (control_itself c)
params_itself (params.Skbedit p m q c) =
    all_four (option_eq nat_eq p p) (option_eq nat_eq m m) (option_eq nat_eq q q) (same_control c c)
    (own_given p) (own_given m) (own_given q) (control_itself c)

-- ---- heads
proto_exact : Exact protocol_eq
proto_exact protocols.All protocols.All is = refl
proto_exact (protocols.Ether n) (protocols.Ether m) is = ap (λ (k : ℕ). protocols.Ether k) (number n m is)
proto_exact one other is = absurd (cc is)

proto_itself : Itself protocol_eq
proto_itself protocols.All = refl
proto_itself (protocols.Ether n) = own_number n

head_exact : Exact same_head
head_exact a b is =
    let parts = five (a.serial == b.serial) (a.chain == b.chain) (a.pref == b.pref)
    (protocol_eq a.protocol b.protocol) (pointwise nat_eq a.masks b.masks) is in
    let serials = number a.serial b.serial parts.0 in let chains = number a.chain b.chain parts.1 in
    let prefs = number a.pref b.pref parts.2 in let protos = proto_exact a.protocol b.protocol parts.3 in
    let masks = numbers a.masks b.masks parts.4 in
    λ x. record {
      serial = serials x;
      chain = chains x;
      pref = prefs x;
      protocol = protos x;
      masks = masks x;
    }

head_itself : Itself same_head
head_itself a =
    together (a.serial == a.serial && a.chain == a.chain && a.pref == a.pref
    && protocol_eq a.protocol a.protocol) (pointwise nat_eq a.masks a.masks)
    (all_four (a.serial == a.serial) (a.chain == a.chain) (a.pref == a.pref)
    (protocol_eq a.protocol a.protocol) (own_number a.serial) (own_number a.chain) (own_number a.pref)
    (proto_itself a.protocol)) (own_numbers a.masks)

-- ---- answers
pub answer_exact : Exact same_answer
answer_exact (told_heads ones) (told_heads others) is =
    ap (λ (hs : List Head). told_heads hs) (list_exact same_head head_exact head_itself ones others is)
answer_exact told_no_filter told_no_filter is = refl
answer_exact (told_actions ones) (told_actions others) is =
    ap (λ (ns : List ℕ). told_actions ns) (numbers ones others is)
answer_exact (told_params one) (told_params other) is =
    ap (λ (p : Params). told_params p) (params_exact one other is)
answer_exact one other is = absurd (cc is)

pub answer_itself : Itself same_answer
answer_itself (told_heads ones) = list_itself same_head head_exact head_itself ones
answer_itself told_no_filter = refl
answer_itself (told_actions ones) = own_numbers ones
answer_itself (told_params one) = params_itself one

-- ---- fates
meta_exact : Exact same_meta
meta_exact a b is =
    let parts = three (a.priority == b.priority) (a.mark == b.mark) (a.queue == b.queue) is in
    let priorities = number a.priority b.priority parts.0 in let marks = number a.mark b.mark parts.1 in
    let queues = number a.queue b.queue parts.2 in
    λ x. record { priority = priorities x; mark = marks x; queue = queues x }

meta_itself : Itself same_meta
meta_itself a =
    all_three (a.priority == a.priority) (a.mark == a.mark) (a.queue == a.queue) (own_number a.priority)
    (own_number a.mark) (own_number a.queue)

pub fate_exact : Exact same_fate
fate_exact dropped dropped is = refl
fate_exact (passed bytes meta) (passed others other) is =
    let parts = both (pointwise nat_eq bytes others) (same_meta meta other) is in
    let same = numbers bytes others parts.0 in let metas = meta_exact meta other parts.1 in
    λ x. passed (same x) (metas x)
fate_exact one other is = absurd (cc is)

pub fate_itself : Itself same_fate
fate_itself dropped = refl
fate_itself (passed bytes meta) =
    together (pointwise nat_eq bytes bytes) (same_meta meta meta) (own_numbers bytes) (meta_itself meta)
