-- In a sound state rows of one mask look alike to their table, and have the same words.
use Rattle.std.proofs.Common.{◌≡◌, ℕ, List, [], sym, ◌∙◌, ap}
use Rattle.tc_base.specs.declared.hook.Hook.{Hook}
use Rattle.tc_base.specs.declared.hook.Proto.{Proto}
use Rattle.filter_state.specs.States.{Row}
use Rattle.filter_state.specs.Sound.{Each}
use Rattle.filter_state.proofs.Pairs.{each_weaker, each_both}
use Rattle.state_laws.proofs.Fits.{Akin, TableFits, MaskFits}
use Rattle.edit_effects.proofs.OfEffects.Sorted.{bare}
use Rattle.edit_effects.proofs.OfEffects.Heads.{LookAlike}

abbrev looks : Hook → ℕ → ℕ → Proto → ℕ → ℕ → Row
looks hook chain pref protocol table mask =
    record { hook = hook; chain = chain; pref = pref; protocol = protocol; table = table; mask_serial = mask; mask = []; handle = 0; key = []; actions = [] }

pub look_alike : (x y : Row) → x.hook ≡ y.hook → x.chain ≡ y.chain → x.pref ≡ y.pref → x.protocol ≡ y.protocol → x.table ≡ y.table → x.mask_serial ≡ y.mask_serial → bare x ≡ bare y
look_alike x y hook chain pref protocol table mask =
    ap (λ h. looks h x.chain x.pref x.protocol x.table x.mask_serial) hook
    ∙ ap (λ c. looks y.hook c x.pref x.protocol x.table x.mask_serial) chain
    ∙ ap (λ p. looks y.hook y.chain p x.protocol x.table x.mask_serial) pref
    ∙ ap (λ p. looks y.hook y.chain y.pref p x.table x.mask_serial) protocol
    ∙ ap (λ n. looks y.hook y.chain y.pref y.protocol n x.mask_serial) table
    ∙ ap (λ n. looks y.hook y.chain y.pref y.protocol y.table n) mask

-- the words of a mask
abbrev pub HasWords : ℕ → List ℕ → Row → Type 0
HasWords mask words x = x.mask_serial ≡ mask → x.mask ≡ words

-- ---- two rows of a sound state
pub akin_alike : (x y : Row) → Akin x y → LookAlike x y
akin_alike x y akin same =
    let table = (akin.same_mask same).0 in
    let at = akin.same_table table in
    look_alike x y at.0 at.1 at.2 at.3 table same

pub all_alike : (x : Row) (rows : List Row) → Each (Akin x) rows → Each (LookAlike x) rows
all_alike x = each_weaker (Akin x) (LookAlike x) (akin_alike x)

pub all_words : (x : Row) (rows : List Row) → Each (Akin x) rows → Each (HasWords x.mask_serial x.mask) rows
all_words x = each_weaker (Akin x) (HasWords x.mask_serial x.mask) (λ y akin same. sym (akin.same_mask (sym same)).1)

-- ---- a new row, by its table and its mask
fits_alike : (new x : Row) → TableFits new.hook new.chain new.pref new.protocol new.table x → MaskFits new.table new.mask new.mask_serial x → LookAlike new x
fits_alike new x t m same =
    let table = (m.same (sym same)).0 in
    let at = t.same table in
    look_alike new x (sym at.0) (sym at.1) (sym at.2) (sym at.3) (sym table) same

pub new_alike : (new : Row) (rows : List Row) → Each (TableFits new.hook new.chain new.pref new.protocol new.table) rows → Each (MaskFits new.table new.mask new.mask_serial) rows → Each (LookAlike new) rows
new_alike new rows t m =
    each_both (TableFits new.hook new.chain new.pref new.protocol new.table) (MaskFits new.table new.mask new.mask_serial) (LookAlike new) (fits_alike new) rows t m

pub new_words : (table serial : ℕ) (words : List ℕ) (rows : List Row) → Each (MaskFits table words serial) rows → Each (HasWords serial words) rows
new_words table serial words rows = each_weaker (MaskFits table words serial) (HasWords serial words) (λ x m same. (m.same same).1) rows
