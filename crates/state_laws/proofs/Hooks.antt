-- The qdisc is put or taken off.
use Rattle.std.proofs.Common.{◌==◌, true, false, not, length, Ok, refl, arith, eqb-true}
use Rattle.filter_state.specs.declared.refusal.Refusal.TheVariants as refusals
use Rattle.filter_state.specs.declared.refusal.Done.TheVariants as dones
use Rattle.filter_state.specs.States.{State}
use Rattle.filter_state.specs.Refusals.{or_else, no_hook, hook_exists, hook_in_use}
use Rattle.filter_state.specs.Steps.{step}
use Rattle.filter_state.specs.declared.edit.Edit.TheVariants as edits
use Rattle.filter_state.specs.Sound.{Sound}
use Rattle.state_laws.proofs.Answers.{not_refused, not_not, neither, SoundAfter, unless_sound}
use Rattle.state_laws.proofs.Whole.{rows_of, held_of, sound_from}

pub hook_add_sound : (s : State) → Sound s → SoundAfter s (step s edits.HookAdd)
hook_add_sound s sound =
    let next : State = record s { hooked = true } in
    unless_sound s (hook_exists s) (Ok (next, dones.Hooked)) sound (λ _. sound_from next (rows_of s sound) (held_of s sound) (λ some. refl) sound.live sound.made)

pub hook_del_sound : (s : State) → Sound s → SoundAfter s (step s edits.HookDel)
hook_del_sound s sound =
    let next : State = record s { hooked = false } in
    unless_sound s (or_else (no_hook s) (hook_in_use s)) (Ok (next, dones.Unhooked)) sound
    (λ e.
    let unused = not_not (length s.rows == 0) (not_refused (not (length s.rows == 0)) refusals.HookInUse (neither (no_hook s) (hook_in_use s) e).1) in
    let none = eqb-true (length s.rows) 0 unused in
    sound_from next (rows_of s sound) (held_of s sound) (λ some. absurd (omega arith)) sound.live sound.made)
