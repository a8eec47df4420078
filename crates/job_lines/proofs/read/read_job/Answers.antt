use Rattle.std.proofs.Common.{◌≡◌, ◌∙◌, ℕ, ◌+◌, ◌<◌, List, [], map, length, get_or, Option, Some, None, Bor, refl, sym, ap, arith}
use Rattle.std.specs.Prelude.{IfOk, IfErr}
use Rattle.std.specs.Option.{ok_or}
use Rattle.std.proofs.lemmas.List.{length-map, get_or-map}
use Rattle.std.proofs.lemmas.Result.{err_from_is_err_and}
use Rattle.tc_words.specs.Lines.{lines_of}
use Rattle.job_lines.specs.declared.fault.JobFault.{JobFault}
use Rattle.job_lines.specs.declared.job.Job.{Job}
use Rattle.job_lines.specs.Files.{IsJobOf, IsFaultOf}
use Rattle.job_lines.specs.States.{state_of}
use Rattle.job_lines.proofs.FileLines.{turn}
use Rattle.job_lines.proofs.Faults.{line_fault, job_of_file, cut_short}
use Rattle.job_lines.proofs.read.read_job.Goals as goal

-- the line that is lent at an index is the file's line there
record IsLine (texts : List (List ℕ)) (i : ℕ) (text : List ℕ) : Type 0 where
  within : i < length texts
  is : text ≡ get_or texts i text

lent : (items : List (Bor (List ℕ))) (texts : List (List ℕ)) (i : ℕ) (d : Bor (List ℕ)) → map (λ line. line.now) items ≡ texts → i < length items → IsLine texts i (get_or items i d).now
lent items texts i d are lt = record {
  within = omega (arith, ap length are, length-map items (λ line. line.now));
  is = sym (ap (λ (ts : List (List ℕ)). get_or ts i (get_or items i d).now) (sym are) ∙ get_or-map (λ line. line.now) items i d (get_or items i d).now lt);
}

-- as many lines are lent as the file has
as_many : (items : List (Bor (List ℕ))) (texts : List (List ℕ)) → map (λ line. line.now) items ≡ texts → length texts ≡ length items
as_many items texts are = ap length (sym are) ∙ length-map items (λ line. line.now)

-- what an index past the end is given
abbrev no_line : Bor (List ℕ)
no_line = record { ref_ptr = (0, 0); now = [] }

-- what is answered with a job, and without one
with_job : (o : Option Job) (fault : JobFault) (P : Job → Type 0) → ((job : Job) → o ≡ Some job → P job) → IfOk (ok_or o fault) P
with_job None fault P each = tt
with_job (Some job) fault P each = each job refl

without_job : (o : Option Job) (fault : JobFault) (P : JobFault → Type 0) → (o ≡ None → P fault) → IfErr (ok_or o fault) P
without_job None fault P none = none refl
without_job (Some job) fault P none = tt

pub returns-in_err-read_line-clause-fault : goal.returns-in_err-read_line-clause-fault
returns-in_err-read_line-clause-fault c =
    let p = err_from_is_err_and c.from_residual-in_err-read_line.result c.from_residual-in_err-read_line.ensures.1 in
    let items = c.deref-line-items.result.now in
    let i = c.loop-index.index in
    let line = lent items (lines_of c.args.bytes.now) i no_line (ap (map (λ line. line.now)) c.deref-line-items.ensures.value ∙ c.in_ok-lines.ensures) c.loop-index-test.true in
    rw (p.1, p.2) (line_fault c.args.bytes.now i (get_or items i no_line).now (state_of c.loop-index.draft) c.in_err-read_line.field-0.0 line.within line.is c.loop-index.invariant.ran c.loop-index.invariant.within c.in_err-read_line.ensures.fault)

pub loop-index-preserved : goal.loop-index-preserved
loop-index-preserved c =
    let items = c.deref-line-items.result.now in
    let i = c.loop-index.index in
    let line = lent items (lines_of c.args.bytes.now) i no_line (ap (map (λ line. line.now)) c.deref-line-items.ensures.value ∙ c.in_ok-lines.ensures) c.loop-index-test.true in
    record {
      ran = turn (lines_of c.args.bytes.now) i (get_or items i no_line).now (state_of c.loop-index.draft) line.within line.is c.loop-index.invariant.ran ∙ c.in_ok-read_line.ensures.state;
      within = c.in_ok-read_line.ensures.within;
    }

pub returns-clause-job : goal.returns-clause-job
returns-clause-job c =
    let many = as_many c.deref-line-items.result.now (lines_of c.args.bytes.now) (ap (map (λ line. line.now)) c.deref-line-items.ensures.value ∙ c.in_ok-lines.ensures) in
    rw c.ok_or.ensures.value (with_job c.job.result _ (IsJobOf c.args.bytes.now)
    (λ job is. job_of_file c.args.bytes.now c.loop-index.index (state_of c.loop-index.draft) job (omega arith) c.loop-index.invariant.ran c.loop-index.invariant.within (sym c.job.ensures ∙ is)))

pub returns-clause-fault : goal.returns-clause-fault
returns-clause-fault c =
    let many = as_many c.deref-line-items.result.now (lines_of c.args.bytes.now) (ap (map (λ line. line.now)) c.deref-line-items.ensures.value ∙ c.in_ok-lines.ensures) in
    let number : c.len.result + 1 ≡ length (lines_of c.args.bytes.now) + 1 = omega (arith, c.len.ensures, c.deref-line-items.ensures.len) in
    rw c.ok_or.ensures.value (without_job c.job.result _ (IsFaultOf c.args.bytes.now)
    (λ is. cut_short c.args.bytes.now c.loop-index.index (c.len.result + 1) (state_of c.loop-index.draft) (omega arith) c.loop-index.invariant.ran c.loop-index.invariant.within (sym c.job.ensures ∙ is) number))
