use Rattle.std.proofs.Common.{ap, refl, Err, ◌∙◌}
use Rattle.std.specs.Prelude.{is_some}
use Rattle.sis_disk.specs.Record.{Seen}
use Rattle.sis_script.specs.Views.{parts_of}
use Rattle.sis_script.specs.declared.faults.ScriptFault.{ScriptFault}
use Rattle.sis_cli.specs.Exit.{risen}
use Rattle.sis_cli.proofs.Early.{serves_no_image, serves_no_room, serves_no_script}
use Rattle.sis_cli.proofs.Ran.{is_script, none_opened, serves_ran}
use Rattle.sis_cli.proofs.top.serve.Goals as goal

pub returns-in-Err : goal.returns-in-Err
returns-in-Err g c =
    let ends = c.without_lines.ensures in
    let read = c.in-Err.ensures in
    rw (ends.entries, ends.ending, ends.disk)
    (serves_no_script c.args.verb _ _ _ _ _ _ (g.met.D.Disk.counted c.args.disk) read.taken 0
    c.in-Err.fault refl read.script (λ e. read.cause (ap (λ (f : ScriptFault). Err f) e)))

pub returns-in-Err-open : goal.returns-in-Err-open
returns-in-Err-open g c =
    let ends = c.without_lines-in-Err-open.ensures in
    let is_open = c.in-Err-open.ensures in
    let read = c.in-Ok.ensures in
    rw (ends.entries, ends.ending, ends.disk)
    (serves_no_image c.args.verb _ _ _ _ _ _ (g.met.D.Disk.counted c.args.disk) read.taken _
    c.in-Err-open.field-0.fault
    (ap (λ (d : g.row.D.Denot). risen (g.D.Disk.seen c.args.disk).faults (g.D.Disk.seen d).faults)
    ends.disk) (is_script _ (parts_of c.in-Ok.script) read.script) is_open.fault
    is_open.cause is_open.refused is_open.refused_quiet is_open.synced)

pub returns-in-Err-run_lines : goal.returns-in-Err-run_lines
returns-in-Err-run_lines g c =
    let ends = c.without_lines-in-Err-run_lines.ensures in
    let lines = c.in-Err-run_lines.ensures in
    let is_open = c.in-Ok-open.ensures in
    rw (ends.entries, ends.ending, ends.disk, c.into_parts.ensures.seen)
    (serves_no_room c.args.verb _ _ _ _ _ _ (g.met.D.Disk.counted c.args.disk)
    c.in-Ok.ensures.taken 0
    (none_opened _ c.in-Ok-open.core c.run_lines.new.core is_open.opened is_open.sound lines.sound
    lines.opening lines.idle lines.none))

pub returns-in-Ok-run_lines : goal.returns-in-Ok-run_lines
returns-in-Ok-run_lines g c =
    let read = c.in-Ok.ensures in
    let is_open = c.in-Ok-open.ensures in
    let lines = c.in-Ok-run_lines.ensures in
    let print = c.print_history-printed.ensures in
    rw (c.into_parts-disk.ensures.seen, c.into_parts-disk.ensures.entries)
    (serves_ran c.args.verb _ _ (parts_of c.in-Ok.script) _ c.in-Ok-open.core c.run_lines.new.core
    (record {
      some = read.some;
      says = read.script;
      clients = read.clients;
      built = read.built;
      taken = read.taken;
      ended = read.ended;
      from = is_open.opened;
      before = is_open.sound;
      sound = lines.sound;
      idle = lines.idle;
      opening = lines.opening;
      runs = lines.runs;
      saved = lines.saved (λ up. is_open.opened.clean);
      holds = c.into_parts-disk.ensures.holds;
    }) _ _ _ _ _ _ _ c.print_history-printed.result c.is_some-is_down.result
    (ap (λ (s : Seen). risen (g.D.Disk.seen c.args.disk).faults s.faults)
    c.into_parts-disk.ensures.seen)
    (c.is_some-is_down.ensures ∙ ap is_some c.down.ensures)
    (rw c.history.ensures.entries at print.ok) (rw c.history.ensures.entries at print.err)
    print.cause)
