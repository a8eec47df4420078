-- The order of the filters of a state (this project's own): ingress first, then by chain, pref and mask, and
-- those of one mask as they were accepted.
use Rattle.std.specs.Prelude.{ℕ, ◌==◌, ◌&&◌, ◌||◌, nat_lt, Bool, true, false}
use Rattle.tc_base.specs.declared.hook.Hook.{Hook}
use Rattle.tc_base.specs.declared.hook.Hook.TheVariants as hooks
use Rattle.filter_state.specs.States.{Row}
use Rattle.filter_state.specs.Tables.{hook_eq}

abbrev pub hook_before : Hook → Hook → Bool
hook_before hooks.Ingress hooks.Egress = true
hook_before a b = false

abbrev pub row_before : Row → Row → Bool
row_before a b =
    hook_before a.hook b.hook
    || (hook_eq a.hook b.hook && (nat_lt a.chain b.chain
    || (a.chain == b.chain && (nat_lt a.pref b.pref
    || (a.pref == b.pref && nat_lt a.mask_serial b.mask_serial)))))
