use Rattle.std.proofs.Common.{◌≡◌, ◌∙◌, ℕ, ◌+◌, ◌-◌, ◌<◌, List, length, get_or, Some, sym, ap, subst, arith, inl, inr}
use Rattle.std.specs.List.{slice_get}
use Rattle.std.proofs.lemmas.Bool.{cases_lt}
use Rattle.std.proofs.lemmas.List.{get_or_default}
use Rattle.std.proofs.lemmas.Option.{get_or_from_slice_get, slice_get_within}
use Rattle.job_lines.specs.declared.job.BatchName.{BatchName}
use Rattle.job_lines.specs.declared.job.Round.{Round}
use Rattle.round_terms.proofs.JobFiles.{there_at, first_within, batch_there, none_named}
use Rattle.round_terms.proofs.batches.batch_of.Goals as goal

pub bounds-as_slice-first : goal.bounds-as_slice-first
bounds-as_slice-first c =
    let loaded = c.args.job.now in
    let d = c.index-as_slice-round.result in
    let long = ap length c.as_slice.ensures in
    let range = c.requires.round in
    let here : c.args.round - 1 < length c.as_slice.result.now = omega (arith, long, range.0, range.1) in
    let is = there_at c.as_slice.result.now loaded.job.rounds (c.args.round - 1) d c.as_slice.ensures here in
    let within = first_within loaded (c.args.round - 1) (get_or c.as_slice.result.now (c.args.round - 1) d) c.requires.loaded is in
    let first = c.requires.first in
    let less = c.loop-at-test.true in
    let names = ap length c.as_slice-named.ensures in
    let files = ap length c.as_slice-then-named-at.ensures in
    omega (arith, within, first, less, names, files)

pub returns-then-named-at-clause-some : goal.returns-then-named-at-clause-some
returns-then-named-at-clause-some c =
    let loaded = c.args.job.now in
    let at = c.loop-at.at in
    let named = c.as_slice-named.result.now in
    let d = c.index-as_slice-round.result in
    let e = c.index-named-at-then-named-at.result in
    let f = c.index-as_slice-first.result in
    let less = c.loop-at-test.true in
    let long = ap length c.as_slice.ensures in
    let range = c.requires.round in
    let here : c.args.round - 1 < length c.as_slice.result.now = omega (arith, long, range.0, range.1) in
    let round : Round = get_or c.as_slice.result.now (c.args.round - 1) d in
    let is = there_at c.as_slice.result.now loaded.job.rounds (c.args.round - 1) d c.as_slice.ensures here in
    let name : BatchName = get_or named at e in
    let name_is = there_at named round.batches at e c.as_slice-named.ensures less in
    let within = first_within loaded (c.args.round - 1) round c.requires.loaded is in
    let first = c.requires.first in
    let names = ap length c.as_slice-named.ensures in
    let files = ap length c.as_slice-then-named-at.ensures in
    let inside : c.args.first + at < length c.as_slice-then-named-at.result.now = omega (arith, within, first, less, names, files) in
    let bytes_is = ap (λ (n : ℕ). slice_get loaded.batches (n + at)) (sym first) ∙ there_at c.as_slice-then-named-at.result.now loaded.batches (c.args.first + at) f c.as_slice-then-named-at.ensures inside in
    let control : name.control ≡ c.args.control = subst (λ (n : BatchName). n.control ≡ c.args.control) (get_or_default named at c.index-named-at.result e less) c.if-named-at.true in (
      at,
      batch_there loaded c.args.round at round name (get_or c.as_slice-then-named-at.result.now (c.args.first + at) f) is name_is bytes_is
          ∙ ap (λ (n : ℕ). Some (record { control = n; force = name.force; bytes = get_or c.as_slice-then-named-at.result.now (c.args.first + at) f })) control
          ∙ ap (λ (bytes : List ℕ). Some (record { control = c.args.control; force = name.force; bytes = bytes })) (sym (c.as_slice-then-named-at-2.ensures ∙ c.index-as_slice-first.is)),
    )

pub loop-at-preserved : goal.loop-at-preserved
loop-at-preserved c = λ at name less there same.
    let l = c.loop-at in
    let named = c.as_slice-named.result.now in
    elim (cases_lt at l.at) [
      | inl low ↦ l.invariant at name low there same
      | inr high ↦
          let here : at ≡ l.at = omega (arith, less, high) in
          let there' : slice_get named l.at ≡ Some name = ap (slice_get named) (sym here) ∙ there in
          c.if-named-at.false (ap (λ (n : BatchName). n.control) (get_or_from_slice_get named l.at name c.index-named-at.result there') ∙ same)
    ]

pub returns-clause-none : goal.returns-clause-none
returns-clause-none c =
    let loaded = c.args.job.now in
    let named = c.as_slice-named.result.now in
    let d = c.index-as_slice-round.result in
    let long = ap length c.as_slice.ensures in
    let range = c.requires.round in
    let here : c.args.round - 1 < length c.as_slice.result.now = omega (arith, long, range.0, range.1) in
    let round : Round = get_or c.as_slice.result.now (c.args.round - 1) d in
    let is = there_at c.as_slice.result.now loaded.job.rounds (c.args.round - 1) d c.as_slice.ensures here in
    none_named loaded c.args.round round c.args.control is (λ at name there same.
    let there' : slice_get named at ≡ Some name = ap (λ (names : List BatchName). slice_get names at) c.as_slice-named.ensures ∙ there in
    let less = slice_get_within named at name there' in
    let end = c.loop-at-test.false in
    c.loop-at.invariant at name (omega (arith, less, end)) there' same)
