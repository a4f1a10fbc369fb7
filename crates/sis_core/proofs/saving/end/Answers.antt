use Rattle.sis_model.specs.declared.command.Command.TheVariants as command
use Rattle.sis_volume.proofs.Stopping.{stops_tried}
use Rattle.sis_core.specs.Session.{session}
use Rattle.sis_core.proofs.Committed.{commit_err, end_done, ends}
use Rattle.sis_core.proofs.saving.end.Goals as goal

pub returns-clause-decides : goal.returns-clause-decides
returns-clause-decides g c w shows =
    end_done c.commit.result c.in_default.field-0 w
    (session c.args.volume.now c.args.opens.now) c.commit.new.self c.drop_client.new.self
    c.args.client c.count-closed.result c.new.result c.in_default.is shows c.requires.up
    c.requires.table c.count-closed.ensures c.drop_client.ensures c.new.ensures (record {
      ok = c.commit.ensures.ok;
      unchanged = c.commit.ensures.unchanged;
      well = c.commit.ensures.well;
      err = c.commit.ensures.err;
      failed = c.commit.ensures.at;
      quiet = c.commit.ensures.quiet;
      files = c.commit.ensures.files;
      elapses = c.commit.ensures.elapses;
      calls = c.commit.ensures.calls;
      number = c.commit.ensures.number;
    })

pub returns-in-Err-clause-decides : goal.returns-in-Err-clause-decides
returns-in-Err-clause-decides g c w shows =
    commit_err c.commit.result w (session c.args.volume.now c.args.opens.now) c.commit.new.self
    c.args.client command.End c.in-Err.by c.in-Err.is shows c.requires.up c.requires.table
    (ends w c.args.volume.now c.args.client) (record {
      ok = c.commit.ensures.ok;
      unchanged = c.commit.ensures.unchanged;
      well = c.commit.ensures.well;
      err = c.commit.ensures.err;
      failed = c.commit.ensures.at;
      quiet = c.commit.ensures.quiet;
      files = c.commit.ensures.files;
      elapses = c.commit.ensures.elapses;
      calls = c.commit.ensures.calls;
      number = c.commit.ensures.number;
    })

pub returns-clause-stops : goal.returns-clause-stops
returns-clause-stops g c =
    stops_tried c.commit.result c.args.volume.now c.commit.new.self c.requires.up
    c.commit.ensures.images c.commit.ensures.files c.commit.ensures.ok c.commit.ensures.at

pub returns-in-Err-clause-stops : goal.returns-in-Err-clause-stops
returns-in-Err-clause-stops g c =
    stops_tried c.commit.result c.args.volume.now c.commit.new.self c.requires.up
    c.commit.ensures.images c.commit.ensures.files c.commit.ensures.ok c.commit.ensures.at
