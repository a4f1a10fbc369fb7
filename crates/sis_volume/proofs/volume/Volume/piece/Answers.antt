use Rattle.std.proofs.Common.{◌≡◌, ℕ, ◌+◌, ◌*◌, ◌/◌, ◌<◌, true, List, length, Option, Some, None, refl, sym, ap, subst}
use Rattle.std.specs.FinMap.{get}
use Rattle.std.specs.Prelude.{IfOk, IfSome, IsSome, OnErr, Result, Ok, Err, slice_range}
use Rattle.std.specs.Option.{option_map}
use Rattle.sis_disk.specs.Record.{DiskRecord, live_bytes, live_of}
use Rattle.sis_table.specs.Content.{content_of, own_content}
use Rattle.sis_table.specs.Edits.{IfThere}
use Rattle.sis_table.specs.Kinds.{plain_node}
use Rattle.sis_table.specs.Volume.{node_with}
use Rattle.sis_view.specs.Reading.{Fetched}
use Rattle.sis_volume.specs.Lending.{HasShape, IsPiece, IsStored, Lends, calls_of_piece, piece_bytes, piece_len}
use Rattle.sis_volume.specs.View.{VolumeView}
use Rattle.sis_volume.proofs.Lent.{kept-read}
use Rattle.sis_volume.proofs.Pieces.{content_there, mapped_there, own_there, piece_there, within_there}
use Rattle.sis_volume.proofs.volume.Volume.piece.Goals as goal

pub lend-requires : goal.lend-requires
lend-requires g c =
    let v = c.self.inside.kept in
    let there = subst (λ (x : VolumeView). IfThere (node_with x.table c.args.file) (λ n. c.args.at < n.size)) (sym c.self.view_is) c.requires.there in
    within_there v c.args.file c.args.at c.part_in-part.result c.self.invariant.table there c.part_in-part.ensures
    (g.D.Disk.seen c.self.inside.disk).size c.self.invariant.size

pub invariant_of-self : goal.invariant_of-self
invariant_of-self g c =
    let h = c.lend.follows.holds-at-none in
    kept-read c.self.inside.kept c.self.inside.journal c.self.inside.places c.self.inside.is_changed c.self.inside.down (calls_of_piece c.lend.result)
    (g.D.Disk.seen c.self.inside.disk) (g.D.Disk.seen c.lend.follows.lender-at-none) h.0.reads c.self.invariant

-- what is told of the result, by what is told of its shape and its bytes
told : {T E : Type 0} (r : Result T E) (o : Option DiskRecord) (n : ℕ) (Shape : T → Type 0) (Bytes Out : List ℕ → T → Type 0)
    → ((live : List ℕ) (x : T) → length live ≡ n → Shape x → Bytes live x → Out live x)
    → IfSome o (λ q. length (live_bytes q) ≡ n) → IfOk r Shape
    → IfOk r (λ x. IfSome (option_map live_bytes o) (λ live. Bytes live x))
    → IfOk r (λ x. IfSome (option_map live_bytes o) (λ live. Out live x))
told (Ok x) None n Shape Bytes Out f sized shape bytes = tt
told (Ok x) (Some q) n Shape Bytes Out f sized shape bytes = f (live_bytes q) x sized shape bytes
told (Err e) o n Shape Bytes Out f sized shape bytes = tt

ok_weaker : {T E : Type 0} (r : Result T E) (P Q : T → Type 0) → ((x : T) → P x → Q x) → IfOk r P
    → IfOk r Q
ok_weaker (Ok x) P Q f h = f x h
ok_weaker (Err e) P Q f h = h

err_weaker : {T E : Type 0} (r : Result T E) (P Q : Type 0) → (P → Q) → OnErr r P → OnErr r Q
err_weaker (Ok x) P Q f h = h
err_weaker (Err e) P Q f h = f h

pub returns : goal.returns
returns g c =
    let v = c.self.inside.kept in
    let file = c.args.file in
    let at = c.args.at in
    let part = c.part_in-part.result in
    let seen = g.D.Disk.seen c.lend.follows.lender-at-none in
    let old = g.D.Disk.seen c.self.inside.disk in
    let table = c.self.invariant.table in
    let there = subst (λ (x : VolumeView). IfThere (node_with x.table file) (λ n. at < n.size)) (sym c.self.view_is) c.requires.there in
    let has = c.part_in-part.ensures in
    let sized = subst (λ (n : ℕ). IfSome old.told (λ q. length (live_bytes q) ≡ n)) c.self.invariant.size (g.met.D.Disk.sized c.self.inside.disk) in (
      (
        refl,
        λ x. tt,
        record {
          same = ap (λ (x : VolumeView). record x { seen = seen }) c.self.view_is;
          fetched = subst (λ (x : VolumeView). Fetched (calls_of_piece c.lend.result) c.lend.result x.seen seen) c.self.view_is c.lend.follows.holds-at-none.0;
          idle = λ none. subst (λ (x : VolumeView). seen ≡ x.seen) c.self.view_is (c.lend.follows.holds-at-none.1 none);
        },
      ),
      record {
        piece = subst (λ (x : VolumeView). IfOk c.lend.result (λ lent. IfThere (node_with x.table file) (λ n. IsPiece n at lent))) c.self.view_is
            (ok_weaker c.lend.result (HasShape part) _ (λ lent shape. piece_there v file at part table there has lent shape) c.lend.ensures.shape);
        own = subst (λ (x : VolumeView). IfOk c.lend.result (λ lent. IfSome (live_of x.seen) (λ live. IfThere (node_with x.table file)
            (λ n. piece_bytes lent ≡ slice_range (own_content live n) at (at + piece_len lent))))) c.self.view_is
            (told c.lend.result old.told (4096 * v.layout.total) (HasShape part) (λ live lent. Lends live part lent) _
            (λ live lent whole shape lends. own_there v file at part table there has live lent whole shape lends) sized c.lend.ensures.shape c.lend.ensures.lent);
        content = subst (λ (x : VolumeView). IfOk c.lend.result (λ lent. IfSome (live_of x.seen) (λ live. IfThere (node_with x.table file)
            (λ n. plain_node n ≡ true → piece_bytes lent ≡ slice_range (content_of x.table live n) at (at + piece_len lent))))) c.self.view_is
            (told c.lend.result old.told (4096 * v.layout.total) (HasShape part) (λ live lent. Lends live part lent) _
            (λ live lent whole shape lends. content_there v file at part table there has live lent whole shape lends) sized c.lend.ensures.shape c.lend.ensures.lent);
        mapped = subst (λ (x : VolumeView). OnErr c.lend.result (IfThere (node_with x.table file) (λ n. IsSome (get n.map (at / 4096))))) c.self.view_is
            (err_weaker c.lend.result (IsStored part) _ (λ stored. mapped_there v file at part table there has stored) c.lend.ensures.stored);
        after = tt;
      },
    )
