use Rattle.std.proofs.Common.{◌≡◌, ℕ, ◌+◌, ◌<◌, length, inl, ap, ◌∙◌, arith}
use Rattle.sis_disk.specs.Areas.{area_bytes}
use Rattle.sis_disk.specs.Record.{live_of, state_of}
use Rattle.sis_disk.specs.Causes.{GoesDown}
use Rattle.sis_disk.specs.Layout.{first_byte}
use Rattle.sis_disk.proofs.GoesOn.{well_down, well_trans}
use Rattle.sis_disk.proofs.Images.{leaves_trans, leaves_weaker}
use Rattle.sis_journal.specs.declared.fault.CommitFault.TheVariants.{Down}
use Rattle.sis_journal.proofs.Readings.{passed_on}
use Rattle.sis_journal.specs.Texts.{HoldsText, KeepsData, OldOrNew}
use Rattle.sis_journal.proofs.Commits.{area_fits, rest_trans}
use Rattle.sis_journal.proofs.journal.Journal.commit.Goals as goal

pub write_area-requires-clause-fits : goal.write_area-requires-clause-fits
write_area-requires-clause-fits g c =
    let text : c.deref.result.now ≡ area_bytes (g.K.Kept.text c.args.value.now) = c.deref.ensures.value ∙ c.spell_area.ensures.text in
    let fits = area_fits c.self.inside.layout c.self.invariant.0 (g.K.Kept.text c.args.value.now) (rw (← c.self.view_is) at c.requires.fits) in
    omega (arith, ap length text)

pub returns-in_err-write_area-clause-images : goal.returns-in_err-write_area-clause-images
returns-in_err-write_area-clause-images g c = rw (← c.self.view_is) (λ r old told keeps.
    let l = c.self.inside.layout in
    leaves_weaker (λ m. HoldsText l old m × KeepsData l (state_of r) m) (OldOrNew l old (g.K.Kept.text c.args.value.now) (state_of r)) (g.D.Disk.seen c.args.disk.now) (g.D.Disk.seen c.write_area.new.disk)
    (λ m h. inl h) (c.write_area.ensures.images r old told keeps))

pub returns-in_err-select_other-clause-images : goal.returns-in_err-select_other-clause-images
returns-in_err-select_other-clause-images g c = rw (← c.self.view_is) (λ r old told keeps.
    let l = c.self.inside.layout in
    let text = g.K.Kept.text c.args.value.now in
    let P = OldOrNew l old text (state_of r) in
    leaves_trans P (g.D.Disk.seen c.args.disk.now) (g.D.Disk.seen c.write_area.new.disk) (g.D.Disk.seen c.select_other.new.disk)
    (leaves_weaker (λ m. HoldsText l old m × KeepsData l (state_of r) m) P (g.D.Disk.seen c.args.disk.now) (g.D.Disk.seen c.write_area.new.disk) (λ m h. inl h) (c.write_area.ensures.images r old told keeps))
    (c.select_other.ensures.images (state_of r) old text (c.in_ok-write_area.ensures.ok r old text told keeps (c.deref.ensures.value ∙ c.spell_area.ensures.text) (rw (← c.self.view_is) at c.requires.fits))))

pub returns-clause-images : goal.returns-clause-images
returns-clause-images g c = rw (← c.self.view_is) (λ r old told keeps.
    let l = c.self.inside.layout in
    let text = g.K.Kept.text c.args.value.now in
    let P = OldOrNew l old text (state_of r) in
    leaves_trans P (g.D.Disk.seen c.args.disk.now) (g.D.Disk.seen c.write_area.new.disk) (g.D.Disk.seen c.select_other.new.disk)
    (leaves_weaker (λ m. HoldsText l old m × KeepsData l (state_of r) m) P (g.D.Disk.seen c.args.disk.now) (g.D.Disk.seen c.write_area.new.disk) (λ m h. inl h) (c.write_area.ensures.images r old told keeps))
    (c.select_other.ensures.images (state_of r) old text (c.in_ok-write_area.ensures.ok r old text told keeps (c.deref.ensures.value ∙ c.spell_area.ensures.text) (rw (← c.self.view_is) at c.requires.fits))))

pub returns-clause-kept : goal.returns-clause-kept
returns-clause-kept g c = rw (← c.self.view_is) (λ r old told keeps.
    let text = g.K.Kept.text c.args.value.now in
    c.in_ok-select_other.ensures.ok (state_of r) old text (c.in_ok-write_area.ensures.ok r old text told keeps (c.deref.ensures.value ∙ c.spell_area.ensures.text) (rw (← c.self.view_is) at c.requires.fits)))

pub returns-in_err-select_other-clause-rest : goal.returns-in_err-select_other-clause-rest
returns-in_err-select_other-clause-rest g c =
    rw (← c.self.view_is) (rest_trans c.self.inside.layout c.self.invariant.0 c.self.inside.second (live_of (g.D.Disk.seen c.args.disk.now)) (live_of (g.D.Disk.seen c.write_area.new.disk)) (live_of (g.D.Disk.seen c.select_other.new.disk))
    c.write_area.ensures.rest c.select_other.ensures.rest)

pub returns-clause-rest : goal.returns-clause-rest
returns-clause-rest g c =
    rw (← c.self.view_is) (rest_trans c.self.inside.layout c.self.invariant.0 c.self.inside.second (live_of (g.D.Disk.seen c.args.disk.now)) (live_of (g.D.Disk.seen c.write_area.new.disk)) (live_of (g.D.Disk.seen c.select_other.new.disk))
    c.write_area.ensures.rest c.select_other.ensures.rest)

pub returns-clause-well : goal.returns-clause-well
returns-clause-well g c =
    rw (← c.self.view_is) (well_trans (first_byte c.self.inside.layout) (g.D.Disk.seen c.args.disk.now)
    (g.D.Disk.seen c.write_area.new.disk) (g.D.Disk.seen c.select_other.new.disk)
    c.in_ok-write_area.ensures.well c.in_ok-select_other.ensures.well)

pub returns-in_err-select_other-clause-down : goal.returns-in_err-select_other-clause-down
returns-in_err-select_other-clause-down g c = rw (← c.self.view_is) (
    let first = first_byte c.self.inside.layout in
    let old = g.D.Disk.seen c.args.disk.now in
    let mid = g.D.Disk.seen c.write_area.new.disk in
    let new = g.D.Disk.seen c.select_other.new.disk in
    let down = c.in_err-select_other.ensures.down in
    passed_on c.from_residual-in_err-select_other.result c.in_err-select_other.field-0.0
    (λ fault. (call : ℕ) × (fault ≡ Down call) × GoesDown first call old new)
    c.from_residual-in_err-select_other.ensures.1 (
      down.0,
      down.1,
      well_down first down.0 old mid new c.write_area.ensures.elapses
          c.in_ok-write_area.ensures.quiet c.in_ok-write_area.ensures.well down.2,
    ))

pub returns-in_err-write_area-clause-number : goal.returns-in_err-write_area-clause-number
returns-in_err-write_area-clause-number g c =
    let number = c.in_err-write_area.ensures.number in
    passed_on c.from_residual.result c.in_err-write_area.field-0.0
    (λ fault. (call : ℕ) × (fault ≡ Down call) × (call < (g.D.Disk.seen c.args.disk.now).calls + 4))
    c.from_residual.ensures.1 (number.0, number.1, (let few = number.2 in omega arith))

pub returns-in_err-select_other-clause-number : goal.returns-in_err-select_other-clause-number
returns-in_err-select_other-clause-number g c =
    let number = c.in_err-select_other.ensures.number in
    let before = c.write_area.ensures.calls in
    passed_on c.from_residual-in_err-select_other.result c.in_err-select_other.field-0.0
    (λ fault. (call : ℕ) × (fault ≡ Down call) × (call < (g.D.Disk.seen c.args.disk.now).calls + 4))
    c.from_residual-in_err-select_other.ensures.1 (number.0, number.1, (let few = number.2 in omega arith))
