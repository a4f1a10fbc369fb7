use Rattle.std.proofs.Common.{◌∙◌, ap, sym, length, arith}
use Rattle.sis_core.specs.Session.{session}
use Rattle.sis_core.proofs.Made.{put_done, put_failed, put_long, put_store, put_taken}
use Rattle.sis_core.proofs.Named.{free_in}
use Rattle.sis_core.proofs.making.put.Goals as goal

pub returns-then-as_slice-gt-MOST_PUT_BYTES-clause-decides :
    goal.returns-then-as_slice-gt-MOST_PUT_BYTES-clause-decides
returns-then-as_slice-gt-MOST_PUT_BYTES-clause-decides g c = λ w opens client shows.
    put_long w (session c.args.volume.now opens) client c.args.name.now c.args.bytes.now shows
    c.requires.up (omega (arith, ap length c.as_slice.ensures))

pub returns-then-is_store-clause-decides : goal.returns-then-is_store-clause-decides
returns-then-is_store-clause-decides g c = λ w opens client shows.
    put_store w (session c.args.volume.now opens) client c.args.name.now c.args.bytes.now shows
    c.requires.up (omega (arith, ap length c.as_slice.ensures))
    (sym c.is_store.ensures.value ∙ c.if-is_store.true)

pub returns-then-is_some-clause-decides : goal.returns-then-is_some-clause-decides
returns-then-is_some-clause-decides g c = λ w opens client shows.
    put_taken w (session c.args.volume.now opens) client c.args.name.now c.args.bytes.now shows
    c.requires.up (omega (arith, ap length c.as_slice.ensures))
    (sym c.is_store.ensures.value ∙ c.if-is_store.false) c.find.result c.find.ensures
    (sym c.is_some.ensures ∙ c.if-is_some.true)

pub put-requires-clause-free : goal.put-requires-clause-free
put-requires-clause-free g c =
    free_in c.args.volume.now.table c.args.name.now c.find.result c.find.ensures
    (sym c.is_some.ensures ∙ c.if-is_some.false)

pub returns-in-Ok-clause-decides : goal.returns-in-Ok-clause-decides
returns-in-Ok-clause-decides g c = λ w opens client shows.
    rw c.as_slice-2.ensures at (put_done w (session c.args.volume.now opens) client
    c.args.name.now c.as_slice-2.result.now shows c.requires.up
    (omega (arith, ap length c.as_slice.ensures, ap length c.as_slice-2.ensures))
    (sym c.is_store.ensures.value ∙ c.if-is_store.false) c.find.result c.find.ensures
    c.put.result c.in-Ok.field-0 c.put.new.volume (sym c.is_some.ensures ∙ c.if-is_some.false)
    c.put.ensures c.in-Ok.is)

pub returns-in-Err-clause-decides : goal.returns-in-Err-clause-decides
returns-in-Err-clause-decides g c = λ w opens client shows.
    rw c.as_slice-2.ensures at (put_failed w (session c.args.volume.now opens) client
    c.args.name.now c.as_slice-2.result.now shows c.requires.up
    (omega (arith, ap length c.as_slice.ensures, ap length c.as_slice-2.ensures))
    (sym c.is_store.ensures.value ∙ c.if-is_store.false) c.find.result c.find.ensures
    c.put.result c.in-Err.by c.put.new.volume (sym c.is_some.ensures ∙ c.if-is_some.false)
    c.put.ensures c.in-Err.is)
