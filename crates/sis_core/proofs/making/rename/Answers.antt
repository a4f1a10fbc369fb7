use Rattle.std.proofs.Common.{◌≡◌, ◌∙◌, ◌||◌, true, sym}
use Rattle.sis_name.specs.Units.{is_store_name}
use Rattle.sis_core.specs.Session.{session}
use Rattle.sis_core.proofs.Made.{none_true, one_true, plain_there, rename_done, rename_failed, rename_in_use, rename_missing, rename_store, rename_taken, two_true}
use Rattle.sis_core.proofs.Named.{free_in, is_found}
use Rattle.sis_core.proofs.making.rename.Goals as goal
use Rattle.sis_core.proofs.making.rename.Goals.{then-is_store-via-then-is_store, then-is_store-via-else-is_store+then-is_store-2}

pub returns-then-is_store-clause-decides : goal.returns-then-is_store-clause-decides
returns-then-is_store-clause-decides g c = λ w client shows.
    let store : (is_store_name c.args.old.now || is_store_name c.args.new.now) ≡ true =
    elim c.then-is_store.branch [
      | then-is_store-via-then-is_store w ↦ one_true _ _
          (sym c.is_store.ensures.value ∙ w.if-is_store.true)
      | then-is_store-via-else-is_store+then-is_store-2 w ↦ two_true _ _
          (sym w.is_store-else-is_store.ensures.value ∙ w.if-is_store-2.true)
    ] in
    rename_store w (session c.args.volume.now c.args.opens.now) client c.args.old.now
    c.args.new.now shows c.requires.up store

pub returns-in_default-clause-decides : goal.returns-in_default-clause-decides
returns-in_default-clause-decides g c = λ w client shows.
    rename_missing w (session c.args.volume.now c.args.opens.now) client c.args.old.now
    c.args.new.now shows c.requires.up
    (none_true _ _ (sym c.is_store.ensures.value ∙ c.if-is_store.false)
    (sym c.is_store-else-is_store.ensures.value ∙ c.if-is_store-2.false))
    c.find.result c.find.ensures c.in_default.is

pub returns-then-is_some-clause-decides : goal.returns-then-is_some-clause-decides
returns-then-is_some-clause-decides g c = λ w client shows.
    rename_taken w (session c.args.volume.now c.args.opens.now) client c.args.old.now
    c.args.new.now shows c.requires.up
    (none_true _ _ (sym c.is_store.ensures.value ∙ c.if-is_store.false)
    (sym c.is_store-else-is_store.ensures.value ∙ c.if-is_store-2.false))
    c.find.result c.find.ensures c.in-Some.file c.in-Some.is c.requires.table
    (is_found c.args.volume.now.table c.args.old.now c.find.result c.in-Some.file
    c.requires.table c.find.ensures c.in-Some.is)
    c.find-2.result c.find-2.ensures (sym c.is_some.ensures ∙ c.if-is_some.true)

pub returns-then-has_file-clause-decides : goal.returns-then-has_file-clause-decides
returns-then-has_file-clause-decides g c = λ w client shows.
    rename_in_use w (session c.args.volume.now c.args.opens.now) client c.args.old.now
    c.args.new.now shows c.requires.up
    (none_true _ _ (sym c.is_store.ensures.value ∙ c.if-is_store.false)
    (sym c.is_store-else-is_store.ensures.value ∙ c.if-is_store-2.false))
    c.find.result c.find.ensures c.in-Some.file c.in-Some.is c.requires.table
    (is_found c.args.volume.now.table c.args.old.now c.find.result c.in-Some.file
    c.requires.table c.find.ensures c.in-Some.is)
    c.find-2.result c.find-2.ensures (sym c.is_some.ensures ∙ c.if-is_some.false)
    (sym c.has_file.ensures ∙ c.if-has_file.true)

pub rename-requires-clause-there : goal.rename-requires-clause-there
rename-requires-clause-there g c =
    plain_there c.args.volume.now.table c.args.old.now c.in-Some.file
    (is_found c.args.volume.now.table c.args.old.now c.find.result c.in-Some.file
    c.requires.table c.find.ensures c.in-Some.is)

pub rename-requires-clause-free : goal.rename-requires-clause-free
rename-requires-clause-free g c =
    free_in c.args.volume.now.table c.args.new.now c.find-2.result c.find-2.ensures
    (sym c.is_some.ensures ∙ c.if-is_some.false)

pub returns-in-Ok-clause-decides : goal.returns-in-Ok-clause-decides
returns-in-Ok-clause-decides g c = λ w client shows.
    rename_done w (session c.args.volume.now c.args.opens.now) client c.args.old.now
    c.args.new.now shows c.requires.up
    (none_true _ _ (sym c.is_store.ensures.value ∙ c.if-is_store.false)
    (sym c.is_store-else-is_store.ensures.value ∙ c.if-is_store-2.false))
    c.find.result c.find.ensures c.in-Some.file c.in-Some.is c.requires.table
    (is_found c.args.volume.now.table c.args.old.now c.find.result c.in-Some.file
    c.requires.table c.find.ensures c.in-Some.is)
    c.find-2.result c.find-2.ensures (sym c.is_some.ensures ∙ c.if-is_some.false)
    c.rename.result c.in-Ok.field-0 c.rename.new.volume
    (sym c.has_file.ensures ∙ c.if-has_file.false) c.rename.ensures c.in-Ok.is

pub returns-in-Err-clause-decides : goal.returns-in-Err-clause-decides
returns-in-Err-clause-decides g c = λ w client shows.
    rename_failed w (session c.args.volume.now c.args.opens.now) client c.args.old.now
    c.args.new.now shows c.requires.up
    (none_true _ _ (sym c.is_store.ensures.value ∙ c.if-is_store.false)
    (sym c.is_store-else-is_store.ensures.value ∙ c.if-is_store-2.false))
    c.find.result c.find.ensures c.in-Some.file c.in-Some.is c.requires.table
    (is_found c.args.volume.now.table c.args.old.now c.find.result c.in-Some.file
    c.requires.table c.find.ensures c.in-Some.is)
    c.find-2.result c.find-2.ensures (sym c.is_some.ensures ∙ c.if-is_some.false)
    c.rename.result c.in-Err.by c.rename.new.volume
    (sym c.has_file.ensures ∙ c.if-has_file.false) c.rename.ensures c.in-Err.is
