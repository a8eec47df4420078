-- Filters are taken out, and their actions unbound.
use Rattle.std.proofs.Common.{◌≡◌, ℕ, Bool, not, ◌&&◌, List, ◌++◌, Option, Some, None, Ok, arith}
use Rattle.std.specs.Prelude.{filter}
use Rattle.tc_base.specs.declared.hook.Hook.{Hook}
use Rattle.tc_base.specs.declared.hook.Proto.{Proto}
use Rattle.filter_state.specs.declared.refusal.Done.TheVariants as dones
use Rattle.filter_state.specs.States.{State, Row}
use Rattle.filter_state.specs.Tables.{in_table, has_handle}
use Rattle.filter_state.specs.Refusals.{or_else, no_hook, protocol_clash_if, no_such_table, no_such_filter}
use Rattle.filter_state.specs.Steps.{taken_out, filter_del}
use Rattle.filter_state.specs.Sound.{Sound, places}
use Rattle.state_laws.proofs.Answers.{SoundAfter, unless_sound}
use Rattle.filter_state.proofs.Free.{length_filter_le}
use Rattle.filter_state.proofs.Times.{times, times_append, places_split}
use Rattle.state_laws.proofs.Held.{held_same}
use Rattle.state_laws.proofs.Unbinding.{held_all_unbound, length_all_unbound}
use Rattle.state_laws.proofs.Rows.{rows_filter}
use Rattle.state_laws.proofs.Whole.{rows_of, held_of, sound_from}

-- the places of those that go stand before those of the others
gone_first : (gone : Row → Bool) (rows : List Row) (n : ℕ) → times n (places (filter gone rows) ++ places (filter (λ row. not (gone row)) rows)) ≡ times n (places rows)
gone_first gone rows n =
    let both = times_append n (places (filter gone rows)) (places (filter (λ row. not (gone row)) rows)) in
    let split = places_split n gone rows in
    omega arith

pub taken_sound : (s : State) (gone : Row → Bool) → Sound s → Sound (taken_out s gone)
taken_sound s gone sound =
    let serials : List ℕ = places (filter gone s.rows) in
    let stay : List Row = filter (λ row. not (gone row)) s.rows in
    let fewer = length_filter_le (λ row. not (gone row)) s.rows in
    let less = length_all_unbound serials s.actions in
    let few = sound.live in
    sound_from (taken_out s gone) (rows_filter s.tables_made s.masks_made (λ row. not (gone row)) s.rows (rows_of s sound))
    (held_all_unbound serials (places stay) s.actions_made s.actions (held_same (places s.rows) (serials ++ places stay) s.actions_made s.actions (gone_first gone s.rows) (held_of s sound)))
    (λ some. sound.hooked (omega arith)) (omega arith) sound.made

pub filter_del_sound : (s : State) (hook : Hook) (protocol : Option Proto) (chain pref : ℕ) (handle : Option ℕ) → Sound s → SoundAfter s (filter_del s hook protocol chain pref handle)
filter_del_sound s hook protocol chain pref (Some handle) sound =
    let gone : Row → Bool = λ row. in_table hook chain pref row && has_handle handle row in
    unless_sound s (or_else (no_hook s) (or_else (protocol_clash_if s hook chain pref protocol) (or_else (no_such_table s hook chain pref) (no_such_filter s hook chain pref handle))))
    (Ok (taken_out s gone, dones.FilterGone)) sound (λ _. taken_sound s gone sound)
filter_del_sound s hook protocol chain pref None sound =
    unless_sound s (or_else (no_hook s) (or_else (protocol_clash_if s hook chain pref protocol) (no_such_table s hook chain pref)))
    (Ok (taken_out s (in_table hook chain pref), dones.TableGone)) sound (λ _. taken_sound s (in_table hook chain pref) sound)
