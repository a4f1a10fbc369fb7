use Rattle.std.proofs.Common.{◌≡◌, ℕ, ◌++◌, List, replicate, take, sym, ap, ◌∙◌, arith}
use Rattle.std.specs.Prelude.{min}
use Rattle.std.proofs.lemmas.List.{take-replicate}
use Rattle.sis_disk.specs.Record.{live_of}
use Rattle.sis_volume.specs.Lending.{piece_bytes, piece_len}
use Rattle.sis_copyclose.proofs.ReadParts.{added_part}
use Rattle.sis_copyclose.proofs.reading.add_piece.Goals as goal

pub
    returns-in_ok-add_zeros-in-Ok-Zeros-clause-added : goal.returns-in_ok-add_zeros-in-Ok-Zeros-clause-added
returns-in_ok-add_zeros-in-Ok-Zeros-clause-added g c =
    let count = c.min-count-in-Ok-Zeros.result in
    let zeros = c.in-Ok-Zeros.zeros in
    let lent = c.in-Ok-Zeros.field-0 in
    let len : piece_len lent ≡ zeros = ap piece_len c.in-Ok-Zeros.field-0-is in
    let bytes : piece_bytes lent ≡ replicate zeros 0 = ap piece_bytes c.in-Ok-Zeros.field-0-is in
    let count_is : count ≡ min c.args.most (piece_len lent) = omega arith in
    let front : replicate count 0 ≡ take count (piece_bytes lent) =
    sym (take-replicate count zeros 0 (omega arith)) ∙ ap (take count) (sym bytes) in
    added_part c.args.volume.now.table c.args.file c.args.at c.args.most count lent (live_of c.args.volume.now.seen)
    c.args.out.now.items c.add_zeros.new.out.items c.requires.most c.requires.there c.in-Ok-Zeros.ensures.piece
    c.in-Ok-Zeros.ensures.content count_is
    (c.in_ok-add_zeros-in-Ok-Zeros.ensures.ok ∙ ap (λ (xs : List ℕ). c.args.out.now.items ++ xs) front)
