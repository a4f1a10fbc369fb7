use Rattle.std.proofs.Common.{sym}
use Rattle.sis_request.proofs.NameFields.{no_null_read, early_read, name_read, is_lent, units_cut}
use Rattle.sis_request.proofs.reading.name_of.Goals as goal

pub returns-then-read_u16-ne0-clause-value : goal.returns-then-read_u16-ne0-clause-value
returns-then-read_u16-ne0-clause-value c =
    no_null_read c.args.field c.args.bytes.now _ _
    (units_cut c.args.bytes.now _ _ _ c.requires.even c.requires.low c.split_at.ensures.front c.split_at.ensures.back c.read_u16.ensures) c.if-read_u16-ne0.true

pub returns-in-Some-clause-value : goal.returns-in-Some-clause-value
returns-in-Some-clause-value c =
    early_read c.args.field c.args.bytes.now _ _ c.in-Some.at
    (units_cut c.args.bytes.now _ _ _ c.requires.even c.requires.low c.split_at.ensures.front c.split_at.ensures.back c.read_u16.ensures) c.if-read_u16-ne0.false (sym c.in-Some.ensures)

pub returns-in-None-clause-value : goal.returns-in-None-clause-value
returns-in-None-clause-value c =
    name_read c.args.field c.args.bytes.now _ _
    (units_cut c.args.bytes.now _ _ _ c.requires.even c.requires.low c.split_at.ensures.front c.split_at.ensures.back c.read_u16.ensures) c.if-read_u16-ne0.false (sym c.in-None.ensures)

pub returns-in-None-clause-name : goal.returns-in-None-clause-name
returns-in-None-clause-name c = is_lent c.args.bytes.now _ c.requires.even c.requires.low c.requires.high c.split_at.ensures.front_len (sym c.in-None.ensures)
