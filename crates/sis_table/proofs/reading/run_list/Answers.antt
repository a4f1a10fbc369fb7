use Rattle.std.proofs.Common.{◌+◌, ◌<◌, ◌^◌, None, arith}
use Rattle.std.proofs.lemmas.Result.{err_from_is_err_and}
use Rattle.sis_ranges.specs.declared.run.Run.{Run}
use Rattle.sis_table.specs.Reading.{runs_at}
use Rattle.sis_table.proofs.ReadingLoops.{run_read, run_fails, runs_read, small_next}
use Rattle.sis_table.proofs.reading.run_list.Goals as goal

pub returns-in_err-run-clause-value : goal.returns-in_err-run-clause-value
returns-in_err-run-clause-value c =
    let p = err_from_is_err_and c.from_residual.result c.from_residual.ensures.1 in
    rw (p.1, p.2) (run_fails c.args.total c.args.layout.now c.args.blocks c.in_err-run.field-0.0 c.loop.runs.items c.args.count c.loop.counter c.loop.before c.loop.rest.now
    (runs_at c.args.total c.args.layout.now c.args.blocks None c.args.count c.args.bytes.now) c.loop-test.true c.in_err-run.ensures.value c.loop.invariant.told)

pub loop-preserved : goal.loop-preserved
loop-preserved c =
    let r = c.in_ok-run.run' in
    record {
      told = rw c.in_ok-push.ensures.items (run_read c.args.total c.args.layout.now c.args.blocks c.loop.runs.items c.args.count c.loop.counter c.loop.before c.loop.rest.now r c.in_ok-run.after.now
          (runs_at c.args.total c.args.layout.now c.args.blocks None c.args.count c.args.bytes.now) c.loop-test.true c.in_ok-run.ensures.value c.loop.invariant.told);
      whole = c.in_ok-run.ensures.shorter;
      first = λ x e. small_next (λ (q : Run). q.first + q.count < 2 ^ 32) r x e (omega (arith, c.in_ok-run.ensures.first));
      place = λ x e. small_next (λ (q : Run). q.place + q.count < 2 ^ 32) r x e (omega (arith, c.in_ok-run.ensures.place));
    }

pub returns-clause-value : goal.returns-clause-value
returns-clause-value c = runs_read c.args.total c.args.layout.now c.args.blocks c.loop.runs.items c.args.count c.loop.counter c.loop.before c.loop.rest.now
    (runs_at c.args.total c.args.layout.now c.args.blocks None c.args.count c.args.bytes.now) c.loop-test.false c.loop.invariant.told
