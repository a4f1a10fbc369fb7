use Rattle.sis_script.specs.Views.{parts_of}
use Rattle.sis_cli.proofs.Cores.{exec_runs, none_yet, replay_runs}
use Rattle.sis_cli.proofs.top.run_lines.Goals as goal
use Rattle.sis_cli.proofs.top.run_lines.Goals.{in-Exec, in-Replay}

-- What `exec` and `replay` say of the entries is used here alone.
pub returns-clause-runs : goal.returns-clause-runs
returns-clause-runs g c =
    let parts = parts_of c.args.script in
    let fresh =
    none_yet c.args.core.now c.reserve.new.self c.reserve.new.self.spare c.reserve.ensures.same
    c.requires.fresh in
    elim c.match-verb.branch [
      | in-Exec w ↦
          rw (w.in-Exec.is, w.core-is)
          (exec_runs parts c.reserve.new.self.entries w.exec.new.self.entries fresh
          w.exec.ensures.kept)
      | in-Replay w ↦
          rw (w.in-Replay.is, w.core-is)
          (replay_runs parts w.deref.result.now c.reserve.new.self.entries
          w.replay.new.self.entries w.deref.ensures.value fresh w.replay.ensures.kept)
    ]
