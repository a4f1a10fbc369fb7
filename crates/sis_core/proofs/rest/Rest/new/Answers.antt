use Rattle.std.proofs.Common.{◌∙◌, ◌++◌, ℕ, List, ap, drop, false}
use Rattle.std.specs.Prelude.{◌==◌, slice_index_or}
use Rattle.std.specs.List.{list_any}
use Rattle.std.proofs.lemmas.List.{get_or-replicate}
use Rattle.sis_model.specs.Order.{commands_of}
use Rattle.sis_model.specs.declared.history.Line.{Line}
use Rattle.sis_core.specs.Rest.{end_if}
use Rattle.sis_core.proofs.LineLemmas.{left_at_start}
use Rattle.sis_core.proofs.rest.Rest.new.Goals as goal

pub returns : goal.returns
returns c = λ client lt.
    ap (λ (n : ℕ). commands_of client (drop n c.args.lines.items)
    ++ end_if (slice_index_or c.clients_with_lines-ends.result client false))
    (get_or-replicate 17 client 0 0 lt)
    ∙ left_at_start client c.args.lines.items _ (c.clients_with_lines-ends.ensures client lt
    ∙ ap (λ (ls : List Line). list_any (λ m. m.client == client) ls) c.deref.ensures.value)
