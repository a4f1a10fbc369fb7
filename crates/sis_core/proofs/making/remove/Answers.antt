use Rattle.std.proofs.Common.{◌∙◌, sym}
use Rattle.sis_core.specs.Session.{session}
use Rattle.sis_core.proofs.Made.{plain_there, remove_done, remove_failed, remove_in_use, remove_missing, remove_store}
use Rattle.sis_core.proofs.Named.{is_found}
use Rattle.sis_core.proofs.making.remove.Goals as goal

pub returns-then-is_store-clause-decides : goal.returns-then-is_store-clause-decides
returns-then-is_store-clause-decides g c = λ w client shows.
    remove_store w (session c.args.volume.now c.args.opens.now) client c.args.name.now shows
    c.requires.up (sym c.is_store.ensures.value ∙ c.if-is_store.true)

pub returns-in_default-clause-decides : goal.returns-in_default-clause-decides
returns-in_default-clause-decides g c = λ w client shows.
    remove_missing w (session c.args.volume.now c.args.opens.now) client c.args.name.now shows
    c.requires.up (sym c.is_store.ensures.value ∙ c.if-is_store.false) c.find.result
    c.find.ensures c.in_default.is

pub returns-then-has_file-clause-decides : goal.returns-then-has_file-clause-decides
returns-then-has_file-clause-decides g c = λ w client shows.
    remove_in_use w (session c.args.volume.now c.args.opens.now) client c.args.name.now shows
    c.requires.up (sym c.is_store.ensures.value ∙ c.if-is_store.false) c.find.result
    c.find.ensures c.in-Some.file c.in-Some.is c.requires.table
    (is_found c.args.volume.now.table c.args.name.now c.find.result c.in-Some.file
    c.requires.table c.find.ensures c.in-Some.is)
    (sym c.has_file.ensures ∙ c.if-has_file.true)

pub remove-requires : goal.remove-requires
remove-requires g c =
    plain_there c.args.volume.now.table c.args.name.now c.in-Some.file
    (is_found c.args.volume.now.table c.args.name.now c.find.result c.in-Some.file
    c.requires.table c.find.ensures c.in-Some.is)

pub returns-in-Ok-clause-decides : goal.returns-in-Ok-clause-decides
returns-in-Ok-clause-decides g c = λ w client shows.
    remove_done w (session c.args.volume.now c.args.opens.now) client c.args.name.now shows
    c.requires.up (sym c.is_store.ensures.value ∙ c.if-is_store.false) c.find.result
    c.find.ensures c.in-Some.file c.in-Some.is c.requires.table
    (is_found c.args.volume.now.table c.args.name.now c.find.result c.in-Some.file
    c.requires.table c.find.ensures c.in-Some.is)
    c.remove.result c.in-Ok.field-0 c.remove.new.volume
    (sym c.has_file.ensures ∙ c.if-has_file.false) c.remove.ensures.leaves c.in-Ok.is

pub returns-in-Err-clause-decides : goal.returns-in-Err-clause-decides
returns-in-Err-clause-decides g c = λ w client shows.
    remove_failed w (session c.args.volume.now c.args.opens.now) client c.args.name.now shows
    c.requires.up (sym c.is_store.ensures.value ∙ c.if-is_store.false) c.find.result
    c.find.ensures c.in-Some.file c.in-Some.is c.requires.table
    (is_found c.args.volume.now.table c.args.name.now c.find.result c.in-Some.file
    c.requires.table c.find.ensures c.in-Some.is)
    c.remove.result c.in-Err.by c.remove.new.volume
    (sym c.has_file.ensures ∙ c.if-has_file.false) c.remove.ensures.leaves c.in-Err.is
