use Rattle.std.proofs.Common.{◌≡◌, refl, ap, subst}
use Rattle.std.specs.Prelude.{IfOk, IfSome}
use Rattle.sis_disk.specs.Record.{live_of}
use Rattle.sis_table.specs.Content.{block_at}
use Rattle.sis_view.specs.Reading.{Fetched}
use Rattle.sis_volume.specs.View.{VolumeView}
use Rattle.sis_volume.proofs.Lent.{kept-read}
use Rattle.sis_volume.proofs.volume.Volume.pair.Goals as goal

pub invariant_of-self : goal.invariant_of-self
invariant_of-self g c =
    let h = c.fetch_two.follows.holds-at-none in
    kept-read c.self.inside.kept c.self.inside.journal c.self.inside.places c.self.inside.is_changed c.self.inside.down 2
    (g.D.Disk.seen c.self.inside.disk) (g.D.Disk.seen c.fetch_two.follows.lender-at-none) h.reads c.self.invariant

pub returns : goal.returns
returns g c =
    let seen = g.D.Disk.seen c.fetch_two.follows.lender-at-none in (
      (
        refl,
        λ v. tt,
        record {
          same = ap (λ (v : VolumeView). record v { seen = seen }) c.self.view_is;
          fetched = subst (λ (v : VolumeView). Fetched 2 c.fetch_two.result v.seen seen) c.self.view_is c.fetch_two.follows.holds-at-none;
          idle = λ none. absurd {A = seen ≡ c.args.self.now.seen} cc;
        },
      ),
      record {
        first = subst (λ (v : VolumeView). IfOk c.fetch_two.result (λ pair. IfSome (live_of v.seen) (λ live. pair.first.now ≡ block_at live c.args.a))) c.self.view_is c.fetch_two.ensures.first;
        second = subst (λ (v : VolumeView). IfOk c.fetch_two.result (λ pair. IfSome (live_of v.seen) (λ live. pair.second.now ≡ block_at live c.args.b))) c.self.view_is c.fetch_two.ensures.second;
        first_len = c.fetch_two.ensures.first_len;
        second_len = c.fetch_two.ensures.second_len;
        after = tt;
      },
    )
