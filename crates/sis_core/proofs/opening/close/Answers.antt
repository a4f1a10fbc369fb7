use Rattle.std.proofs.Common.{ap, None, Option, refl, sym, ◌∙◌}
use Rattle.sis_model.specs.World.{OpenFile}
use Rattle.sis_model.specs.Answer.{refusal_of_open}
use Rattle.sis_model.specs.declared.command.Command.TheVariants as command
use Rattle.sis_volume.proofs.Stopping.{stops_tried}
use Rattle.sis_core.specs.Session.{session}
use Rattle.sis_core.proofs.Committed.{close_done, closes, commit_err}
use Rattle.sis_core.proofs.Opened.{is_opened, unopened}
use Rattle.sis_core.proofs.opening.close.Goals as goal

pub returns-in_default-clause-decides : goal.returns-in_default-clause-decides
returns-in_default-clause-decides g c w shows =
    unopened w (session c.args.volume.now c.args.opens.now) c.args.client c.args.number
    (command.Close c.args.number) c.find.result shows c.requires.up c.find.ensures c.in_default.is
    refl (λ none. ap (λ (o : Option OpenFile). refusal_of_open o None) none)

pub returns-clause-decides : goal.returns-clause-decides
returns-clause-decides g c w shows =
    close_done c.commit.result c.in_default-commit.field-0 w
    (session c.args.volume.now c.args.opens.now) c.commit.new.self c.drop_one.new.self
    c.args.client c.args.number c.in-Some.this c.fate_of-fate.result c.in_default-commit.is shows
    c.requires.up c.requires.table (sym c.find.ensures ∙ c.in-Some.is) c.fate_of-fate.ensures
    c.drop_one.ensures (record {
      ok = c.commit.ensures.ok;
      unchanged = c.commit.ensures.unchanged;
      well = c.commit.ensures.well;
      err = c.commit.ensures.err;
      failed = c.commit.ensures.at;
      quiet = c.commit.ensures.quiet;
      files = c.commit.ensures.files;
      elapses = c.commit.ensures.elapses;
      calls = c.commit.ensures.calls;
      number = c.commit.ensures.number;
    })

pub returns-in-Err-clause-decides : goal.returns-in-Err-clause-decides
returns-in-Err-clause-decides g c w shows =
    let s = session c.args.volume.now c.args.opens.now in
    let opened = is_opened w s c.args.client c.args.number c.in-Some.this shows c.requires.table
    (sym c.find.ensures ∙ c.in-Some.is) in
    commit_err c.commit.result w s c.commit.new.self c.args.client (command.Close c.args.number)
    c.in-Err.by c.in-Err.is shows c.requires.up c.requires.table
    (closes w s c.args.client c.args.number c.in-Some.this opened.0 opened.1) (record {
      ok = c.commit.ensures.ok;
      unchanged = c.commit.ensures.unchanged;
      well = c.commit.ensures.well;
      err = c.commit.ensures.err;
      failed = c.commit.ensures.at;
      quiet = c.commit.ensures.quiet;
      files = c.commit.ensures.files;
      elapses = c.commit.ensures.elapses;
      calls = c.commit.ensures.calls;
      number = c.commit.ensures.number;
    })

pub returns-clause-stops : goal.returns-clause-stops
returns-clause-stops g c =
    stops_tried c.commit.result c.args.volume.now c.commit.new.self c.requires.up
    c.commit.ensures.images c.commit.ensures.files c.commit.ensures.ok c.commit.ensures.at

pub returns-in-Err-clause-stops : goal.returns-in-Err-clause-stops
returns-in-Err-clause-stops g c =
    stops_tried c.commit.result c.args.volume.now c.commit.new.self c.requires.up
    c.commit.ensures.images c.commit.ensures.files c.commit.ensures.ok c.commit.ensures.at
