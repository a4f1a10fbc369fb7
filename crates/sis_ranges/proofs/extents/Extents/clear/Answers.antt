use Rattle.std.proofs.Common.{◌≡◌, ℕ, OnOk, subst}
use Rattle.std.specs.Ordering.{nat_cmp}
use Rattle.std.specs.FinMap.{FinMap}
use Rattle.sis_ranges.proofs.MapLemmas.{without_one}
use Rattle.sis_ranges.proofs.extents.Extents.clear.Goals as goal

pub returns-clause-ok : goal.returns-clause-ok
returns-clause-ok c =
    subst (λ (m : FinMap nat_cmp ℕ). OnOk c.clear_run.result (c.clear_run.new.self ≡ m)) (without_one c.args.self.now c.args.block) c.clear_run.ensures.ok
