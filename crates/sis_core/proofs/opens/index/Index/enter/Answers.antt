use Rattle.std.proofs.Common.{[], ℕ, List, ap, sym, subst, ◌∙◌}
use Rattle.std.proofs.lemmas.List.{append-nil}
use Rattle.std.specs.BTreeMap.{is_at}
use Rattle.std.specs.Map.{lookup}
use Rattle.sis_core.specs.Opens.{CountsClients, CountsFiles, pair_cmp}
use Rattle.sis_core.specs.declared.opens.Open.{Open}
use Rattle.sis_core.proofs.OpensIndex.{at_err, at_ok, entered}
use Rattle.sis_core.proofs.opens.index.Index.enter.Goals as goal

pub returns-then-is_err-clause-err : goal.returns-then-is_err-clause-err
returns-then-is_err-clause-err c = λ opens is. record {
  numbered = is.numbered;
  numbers = is.numbers;
  clients =
      subst (λ (os : List Open). CountsClients os c.leave_client.new.clients) (append-nil opens)
      (c.leave_client.ensures opens [] (c.in_ok-enter_client.ensures.ok opens is.clients));
  files =
      at_err c.enter_file.result (sym c.if-is_err.ensures.value) c.enter_file.ensures.err opens
      is.files;
}

pub returns-then-is_err-2-clause-err : goal.returns-then-is_err-2-clause-err
returns-then-is_err-2-clause-err c = λ opens is.
    let files = at_ok c.enter_file.result (sym c.if-is_err.ensures.value) c.enter_file.ensures.ok
    opens is.files in
    record {
      numbered = is.numbered;
      numbers =
          λ client number. ap (λ (es : List ((ℕ × ℕ) × Open)).
          lookup (is_at (pair_cmp (client, number))) es)
          (at_err c.insert.result (sym c.if-is_err-2.ensures.value) c.insert.ensures.err)
          ∙ is.numbers client number;
      clients =
          subst (λ (os : List Open). CountsClients os c.leave_client-then-is_err-2.new.clients)
          (append-nil opens) (c.leave_client-then-is_err-2.ensures opens []
          (c.in_ok-enter_client.ensures.ok opens is.clients));
      files =
          subst (λ (os : List Open). CountsFiles os c.leave_file.new.files) (append-nil opens)
          (c.leave_file.ensures opens [] files);
    }

pub returns-clause-ok : goal.returns-clause-ok
returns-clause-ok c = λ opens is free.
    entered opens c.args.this c.args.self.now _ is free
    (at_ok c.insert.result (sym c.if-is_err-2.ensures.value) c.insert.ensures.updates)
    (c.in_ok-enter_client.ensures.ok opens is.clients)
    (at_ok c.enter_file.result (sym c.if-is_err.ensures.value) c.enter_file.ensures.ok opens
    is.files)
