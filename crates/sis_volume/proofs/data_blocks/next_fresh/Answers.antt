use Rattle.std.proofs.Common.{arith}
use Rattle.sis_places.proofs.CallerLemmas.{length-spare_bits}
use Rattle.sis_volume.proofs.Freshness.{found_fresh, passed_all, passed_mapped}
use Rattle.sis_volume.proofs.data_blocks.next_fresh.Goals as goal

pub overflow_add-low : goal.overflow_add-low
overflow_add-low c =
    let low = c.first_place-low.ensures in
    let within = c.in-Some.ensures.within in
    let layout = c.requires.layout in
    let high = layout.total_high in
    let has = layout.has_data in
    let size = c.requires.size in
    let all = length-spare_bits c.args.places.now in
    omega arith

pub front-requires-clause-end : goal.front-requires-clause-end
front-requires-clause-end c =
    let low = c.first_place-low.ensures in
    let within = c.in-Some.ensures.within in
    let layout = c.requires.layout in
    let high = layout.total_high in
    let has = layout.has_data in
    let size = c.requires.size in
    let all = length-spare_bits c.args.places.now in
    omega arith

pub search-smaller : goal.search-smaller
search-smaller c =
    let within = c.in-Some.ensures.within in
    let some = c.in-Some.ensures.some in
    let behind' = c.in-Some.ensures.behind in
    let later = c.in-Mapped.ensures.0 in
    let all = length-spare_bits c.args.places.now in
    omega arith

pub search-preserved : goal.search-preserved
search-preserved c = rw c.first_place-low.ensures
    (passed_mapped c.args.layout.now c.args.places.now c.args.txn.now.edits c.requires.layout c.requires.size
    c.args.from c.search.from c.args.most c.in-Mapped.end c.in-Some.spare c.search.invariant c.in-Some.ensures
    (rw c.first_place-low.ensures at c.in-Mapped.ensures))

pub returns-in-Free : goal.returns-in-Free
returns-in-Free c =
    found_fresh c.args.layout.now c.args.places.now c.args.txn.now.edits c.requires.layout c.requires.size
    c.args.from c.search.from c.args.most c.in-Free.count c.in-Some.spare c.search.invariant c.in-Some.ensures
    (rw c.first_place-low.ensures at c.in-Free.ensures)

pub returns : goal.returns
returns c =
    passed_all c.args.layout.now c.args.places.now c.args.txn.now.edits c.requires.layout c.requires.size
    c.args.from c.search.from c.args.most c.search.invariant c.in_default.ensures
