use Rattle.std.proofs.Common.{arith, ◌++◌, ◌∷◌, [], List, ℕ, ap, ◌∙◌, append_assoc}
use Rattle.sis_request.proofs.NameUnits.{text_lent}
use Rattle.sis_request.proofs.writing.put_name.Goals as goal

pub returns-clause-items : goal.returns-clause-items
returns-clause-items c =
    c.put-2.ensures.items ∙ ap (λ (t : List ℕ). t ++ 0 ∷ 0 ∷ []) c.put.ensures.items
    ∙ append_assoc c.args.out.now.items c.args.name.now (0 ∷ 0 ∷ [])
    ∙ ap (λ (t : List ℕ). c.args.out.now.items ++ t) (text_lent c.args.name.now c.requires.name.even (λ i. omega (arith, c.type_inv.name i)))
