use Rattle.std.proofs.Common.{◌∙◌, List, length, take, refl, ap, arith}
use Rattle.sis_volume.specs.View.{VolumeView}
use Rattle.sis_copyclose.proofs.Operations.{given_up}
use Rattle.sis_copyclose.proofs.ReadParts.{part_count, pieces_all, pieces_failed, pieces_front, pieces_last, pieces_more, pieces_none, pieces_quiet, pieces_reads, pieces_there}
use Rattle.sis_copyclose.proofs.reading.add_pieces.Goals as goal

pub loop-next-init : goal.loop-next-init
loop-next-init g c = record {
  same = refl;
  reading = pieces_none c.args.volume.now c.args.file c.args.at c.args.end c.args.out.now.items _ c.requires.there;
}

pub add_piece-requires : goal.add_piece-requires
add_piece-requires g c = record {
  up = ap (λ (v : VolumeView). v.down) c.loop-next.invariant.same ∙ c.requires.up;
  there =
      pieces_there c.args.volume.now c.loop-next.volume c.args.file c.loop-next.next c.args.end c.loop-next.invariant.same
      c.loop-next-test.true c.requires.there;
  most = omega (arith, c.loop-next-test.true);
}

pub overflow_add-next : goal.overflow_add-next
overflow_add-next g c =
    let few = part_count c.loop-next.volume.table c.args.file c.loop-next.next _ _ _ _ _ c.in_ok-next.ensures.added in
    omega (arith, few.1, c.loop-next-test.true, c.ranges.end.fits)

pub loop-next-smaller : goal.loop-next-smaller
loop-next-smaller g c =
    let few = part_count c.loop-next.volume.table c.args.file c.loop-next.next _ _ _ _ _ c.in_ok-next.ensures.added in
    omega (arith, few.0, few.1, c.loop-next-test.true)

pub loop-next-preserved : goal.loop-next-preserved
loop-next-preserved g c = record {
  same =
      c.add_piece.ensures.same
      ∙ ap (λ (v : VolumeView). record v { seen = c.add_piece.new.volume.seen }) c.loop-next.invariant.same;
  reading =
      pieces_more c.args.volume.now c.loop-next.volume c.add_piece.new.volume c.args.file c.args.at c.loop-next.next c.args.end _
      c.args.out.now.items c.loop-next.out.items c.add_piece.new.out.items c.loop-next-test.true c.loop-next.invariant.same
      c.loop-next.invariant.reading c.in_ok-next.ensures.added c.add_piece.ensures.reads
      c.in_ok-next.ensures.quiet;
}

pub returns-in_err-next-clause-front : goal.returns-in_err-next-clause-front
returns-in_err-next-clause-front g c =
    ap (λ (xs : List _). take (length c.args.out.now.items) xs) c.in_err-next.ensures.err
    ∙ pieces_front c.args.volume.now c.loop-next.volume c.args.file c.args.at c.loop-next.next c.args.end c.args.out.now.items c.loop-next.out.items
    c.loop-next.invariant.reading

pub returns-in_err-next-clause-cause : goal.returns-in_err-next-clause-cause
returns-in_err-next-clause-cause g c =
    let by = c.in_err-next.field-0.0 in
    given_up c.from_residual.result by _ c.from_residual.ensures.1
    (pieces_failed c.args.volume.now c.loop-next.volume c.add_piece.new.volume c.args.file c.args.at
    c.loop-next.next c.args.end c.args.out.now.items
    c.loop-next.out.items by c.loop-next.invariant.same c.loop-next.invariant.reading
    c.loop-next-test.true c.in_err-next.ensures.cause)

pub returns-in_err-next-clause-same : goal.returns-in_err-next-clause-same
returns-in_err-next-clause-same g c =
    c.add_piece.ensures.same
    ∙ ap (λ (v : VolumeView). record v { seen = c.add_piece.new.volume.seen }) c.loop-next.invariant.same

pub returns-in_err-next-clause-reads : goal.returns-in_err-next-clause-reads
returns-in_err-next-clause-reads g c =
    pieces_last c.args.volume.now c.loop-next.volume c.add_piece.new.volume c.args.file c.args.at c.loop-next.next c.args.end c.args.out.now.items
    c.loop-next.out.items c.loop-next-test.true c.loop-next.invariant.same
    c.loop-next.invariant.reading c.add_piece.ensures.reads

pub returns-clause-added : goal.returns-clause-added
returns-clause-added g c =
    pieces_all c.args.volume.now c.loop-next.volume c.args.file c.args.at c.loop-next.next c.args.end c.args.out.now.items c.loop-next.out.items
    c.loop-next-test.false c.loop-next.invariant.reading

pub returns-clause-front : goal.returns-clause-front
returns-clause-front g c =
    pieces_front c.args.volume.now c.loop-next.volume c.args.file c.args.at c.loop-next.next c.args.end c.args.out.now.items c.loop-next.out.items
    c.loop-next.invariant.reading

pub returns-clause-reads : goal.returns-clause-reads
returns-clause-reads g c =
    pieces_reads c.args.volume.now c.loop-next.volume c.args.file c.args.at c.loop-next.next c.args.end c.args.out.now.items c.loop-next.out.items
    c.loop-next.invariant.reading

pub returns-clause-quiet : goal.returns-clause-quiet
returns-clause-quiet g c =
    pieces_quiet c.args.volume.now c.loop-next.volume c.args.file c.args.at c.loop-next.next
    c.args.end c.args.out.now.items c.loop-next.out.items
    c.loop-next.invariant.reading
