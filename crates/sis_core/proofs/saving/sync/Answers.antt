use Rattle.sis_model.specs.declared.command.Command.TheVariants as command
use Rattle.sis_volume.proofs.Stopping.{stops_tried}
use Rattle.sis_core.specs.Session.{session}
use Rattle.sis_core.proofs.Committed.{commit_err, sync_done, syncs}
use Rattle.sis_core.proofs.saving.sync.Goals as goal

pub returns-in-Ok-clause-decides : goal.returns-in-Ok-clause-decides
returns-in-Ok-clause-decides g c w opens client shows =
    sync_done c.commit.result c.in-Ok.field-0 w (session c.args.volume.now opens)
    c.commit.new.self client c.in-Ok.is shows c.requires.up c.requires.table (record {
      ok = c.commit.ensures.ok;
      unchanged = c.commit.ensures.unchanged;
      well = c.commit.ensures.well;
      err = c.commit.ensures.err;
      failed = c.commit.ensures.at;
      quiet = c.commit.ensures.quiet;
      files = c.commit.ensures.files;
      elapses = c.commit.ensures.elapses;
      calls = c.commit.ensures.calls;
      number = c.commit.ensures.number;
    })

pub returns-in-Err-clause-decides : goal.returns-in-Err-clause-decides
returns-in-Err-clause-decides g c w opens client shows =
    commit_err c.commit.result w (session c.args.volume.now opens) c.commit.new.self client
    command.Sync c.in-Err.by c.in-Err.is shows c.requires.up c.requires.table
    (syncs w c.args.volume.now client) (record {
      ok = c.commit.ensures.ok;
      unchanged = c.commit.ensures.unchanged;
      well = c.commit.ensures.well;
      err = c.commit.ensures.err;
      failed = c.commit.ensures.at;
      quiet = c.commit.ensures.quiet;
      files = c.commit.ensures.files;
      elapses = c.commit.ensures.elapses;
      calls = c.commit.ensures.calls;
      number = c.commit.ensures.number;
    })

pub returns-in-Ok-clause-stops : goal.returns-in-Ok-clause-stops
returns-in-Ok-clause-stops g c =
    stops_tried c.commit.result c.args.volume.now c.commit.new.self c.requires.up
    c.commit.ensures.images c.commit.ensures.files c.commit.ensures.ok c.commit.ensures.at

pub returns-in-Err-clause-stops : goal.returns-in-Err-clause-stops
returns-in-Err-clause-stops g c =
    stops_tried c.commit.result c.args.volume.now c.commit.new.self c.requires.up
    c.commit.ensures.images c.commit.ensures.files c.commit.ensures.ok c.commit.ensures.at
