-- What follows the list of a filter, a table, and the tables of a chain.
use Rattle.std.proofs.Common.{◌≡◌, ◌∙◌, ℕ, zero, suc, ◌+◌, ◌-◌, ◌<◌, ◌==◌, ◌&&◌, true, false, Bool, cond, List, [], ◌∷◌, length, get_or, drop, refl, sym, ap, subst, arith}
use Rattle.std.specs.Prelude.{map}
use Rattle.std.proofs.lemmas.List.{drop_more}
use Rattle.act_list.specs.declared.limits.TheConstants.{JUMPS_MAX}
use Rattle.frame_edit.specs.Tags.{ether_type_of}
use Rattle.filter_state.specs.States.{State}
use Rattle.filter_tables.specs.declared.filter_table.FilterTable.{FilterTable}
use Rattle.filter_tables.specs.Plain.{PlainTable}
use Rattle.filter_tables.specs.Changes.{comes_before}
use Rattle.filter_tables.specs.Room.{AreRising}
use Rattle.filter_tables.specs.Seen.{plain_table}
use Rattle.filter_state.specs.Sound.{Each}
use Rattle.std.proofs.lemmas.Bool.Decides.{nat_tests}
use Rattle.walk_rules.specs.declared.verdict.Verdict.TheVariants as verdicts
use Rattle.walk_rules.specs.declared.limits.TheConstants.{VISITS_MAX, RESTARTS_MAX}
use Rattle.walk_rules.specs.Questions.{Head}
use Rattle.walk_rules.specs.Heads.{heads_on}
use Rattle.walk_rules.specs.Walks.{Outcome}
use Rattle.walk_rules.specs.Steps.{admits, tries}
use Rattle.walk_rules.specs.Plain.{Carried, ends_with, run_list, after_end, filter_outcome, decider, table_outcome, tables_outcome, chain_outcome, plain_walk}
use Rattle.head_laws.specs.Heads.{head_of}
use Rattle.tc_base.specs.declared.hook.Hook.{Hook}
use Rattle.plain_walk.specs.Courses.{begun}

-- ---- a list that isn't empty
pub some_filter : (s : State) (restart : ℕ → ℕ → Carried → Outcome) (next : ℕ → Carried → Outcome) (left : ℕ) (carried : Carried) (actions : List ℕ) → 0 < length actions →
    filter_outcome s restart next left carried actions ≡ after_end restart next (run_list s actions left carried 0 JUMPS_MAX)
some_filter s restart next left carried [] some = absurd (omega (arith, some))
some_filter s restart next left carried (action ∷ actions) some = refl

-- ---- a table in front of others
pub tried_table : (s : State) (restart : ℕ → ℕ → Carried → Outcome) (chain : ℕ) (head : Head) (tables : List Head) (left : ℕ) (carried : Carried) →
    tries chain (ether_type_of carried.frame.bytes) head ≡ true →
    tables_outcome s restart chain (head ∷ tables) left carried
    ≡ table_outcome s restart (tables_outcome s restart chain tables) left carried head (decider s head carried.frame)
tried_table s restart chain head tables left carried is =
    ap (λ b. cond b (table_outcome s restart (tables_outcome s restart chain tables) left carried head (decider s head carried.frame)) (tables_outcome s restart chain tables left carried)) is

pub passed_table : (s : State) (restart : ℕ → ℕ → Carried → Outcome) (chain : ℕ) (head : Head) (tables : List Head) (left : ℕ) (carried : Carried) →
    tries chain (ether_type_of carried.frame.bytes) head ≡ false → tables_outcome s restart chain (head ∷ tables) left carried ≡ tables_outcome s restart chain tables left carried
passed_table s restart chain head tables left carried is =
    ap (λ b. cond b (table_outcome s restart (tables_outcome s restart chain tables) left carried head (decider s head carried.frame)) (tables_outcome s restart chain tables left carried)) is

-- the heads of the tables from a place on
abbrev pub heads_from : ℕ → List FilterTable → List Head
heads_from place tables = map head_of (map plain_table (drop place tables))

pub heads_more : (tables : List FilterTable) (place : ℕ) (table : FilterTable) → place < length tables → table ≡ get_or tables place table →
    heads_from place tables ≡ head_of (plain_table table) ∷ heads_from (place + 1) tables
heads_more tables place table within is =
    ap (λ ts. map head_of (map plain_table ts)) (drop_more tables place table within)
    ∙ ap (λ (t : FilterTable). head_of (plain_table t) ∷ heads_from (place + 1) tables) (sym is)

-- ---- tables behind those of a chain
later_chain : (chain : ℕ) (t u : PlainTable) → chain < t.chain → comes_before t u ≡ true → chain < u.chain
later_chain chain t u above before = grind (arith, nat_tests)

abbrev IsLater : ℕ → Head → Type 0
IsLater chain head = chain < head.chain

all_later : (chain : ℕ) (t : PlainTable) (us : List PlainTable) → chain < t.chain → Each (λ u. comes_before t u ≡ true) us → Each (IsLater chain) (map head_of us)
all_later chain t [] above before = tt
all_later chain t (u ∷ us) above before = (later_chain chain t u above before.0, all_later chain t us above before.1)

rest_later : (chain : ℕ) (tables : List FilterTable) (place : ℕ) (table : FilterTable) → AreRising (map plain_table tables) → place < length tables → table ≡ get_or tables place table →
    chain < table.chain → Each (IsLater chain) (heads_from place tables)
rest_later chain [] place table rising within is above = absurd (omega arith)
rest_later chain (t ∷ tables) zero table rising within is above =
    let here : chain < t.chain = subst (λ (u : FilterTable). chain < u.chain) is above in
    (here, all_later chain (plain_table t) (map plain_table tables) here rising.0)
rest_later chain (t ∷ tables) (suc place) table rising within is above = rest_later chain tables place table rising.1 (omega arith) is above

other_chain : (m n : ℕ) (b : Bool) → m < n → (n == m && b) ≡ false
other_chain m n b less = grind (arith, nat_tests)

pass_later : (s : State) (restart : ℕ → ℕ → Carried → Outcome) (chain : ℕ) (heads : List Head) (left : ℕ) (carried : Carried) → Each (IsLater chain) heads →
    tables_outcome s restart chain heads left carried ≡ ends_with verdicts.Pass carried
pass_later s restart chain [] left carried later = refl
pass_later s restart chain (head ∷ heads) left carried later =
    passed_table s restart chain head heads left carried (other_chain chain head.chain (admits head.protocol (ether_type_of carried.frame.bytes)) later.0)
    ∙ pass_later s restart chain heads left carried later.1

pub none_behind : (s : State) (restart : ℕ → ℕ → Carried → Outcome) (chain : ℕ) (tables : List FilterTable) (place : ℕ) (table : FilterTable) (left : ℕ) (carried : Carried) →
    AreRising (map plain_table tables) → place < length tables → table ≡ get_or tables place table → chain < table.chain →
    tables_outcome s restart chain (heads_from place tables) left carried ≡ ends_with verdicts.Pass carried
none_behind s restart chain tables place table left carried rising within is above =
    pass_later s restart chain (heads_from place tables) left carried (rest_later chain tables place table rising within is above)

-- ---- chains
-- what a restart leads to, where so many are left
abbrev pub restart_with : State → List Head → ℕ → ℕ → ℕ → Carried → Outcome
restart_with s heads zero chain left carried = ends_with verdicts.Drop carried
restart_with s heads (suc restarts) chain left carried = chain_outcome s heads restarts chain left carried

pub chain_opened : (s : State) (heads : List Head) (restarts chain left : ℕ) (carried : Carried) →
    chain_outcome s heads restarts chain left carried ≡ tables_outcome s (restart_with s heads restarts) chain heads left carried
chain_opened s heads zero chain left carried = refl
chain_opened s heads (suc restarts) chain left carried = refl

pub one_restart : (s : State) (heads : List Head) (restarts chain left : ℕ) (carried : Carried) → (restarts ≡ 0 → ⊥) →
    restart_with s heads restarts chain left carried ≡ chain_outcome s heads (restarts - 1) chain left carried
one_restart s heads zero chain left carried some = absurd (some refl)
one_restart s heads (suc restarts) chain left carried some =
    let same : restarts ≡ suc restarts - 1 = omega arith in
    ap (λ r. chain_outcome s heads r chain left carried) same

pub plain_opened : (s : State) (hook : Hook) (bytes : List ℕ) (left : ℕ) (carried : Carried) → left ≡ VISITS_MAX - 1 → carried ≡ begun bytes →
    plain_walk s hook bytes ≡ chain_outcome s (heads_on hook s) RESTARTS_MAX 0 left carried
unfolding plain_walk
plain_opened s hook bytes left carried is same =
    ap (λ n. chain_outcome s (heads_on hook s) RESTARTS_MAX 0 n (begun bytes)) (sym is) ∙ ap (chain_outcome s (heads_on hook s) RESTARTS_MAX 0 left) (sym same)
