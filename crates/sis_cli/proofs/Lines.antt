-- The lines of a script as a core takes them.
use Rattle.std.proofs.Common.{◌≡◌, ℕ, zero, suc, ◌+◌, ◌≤◌, false, List, [], ◌∷◌}
use Rattle.std.proofs.Common.{length, arith}
use Rattle.std.specs.Prelude.{All, if◌then◌else◌}
use Rattle.std.proofs.lemmas.Bool.Decides.{nat_tests}
use Rattle.sis_history.specs.Replies.{IsServed}
use Rattle.sis_model.specs.Order.{exec_order}
use Rattle.sis_model.specs.declared.command.Command.{Command}
use Rattle.sis_model.specs.declared.command.Command.TheVariants as command
use Rattle.sis_model.specs.declared.history.Line.{Line}
use Rattle.sis_model.proofs.Orders.{has}
use Rattle.sis_script.specs.Script.{IsBuilt, IsClient}

built_served : (c : Command) → IsBuilt c → IsServed c
built_served (command.Tell name) h = h
built_served (command.Fsctl code bytes) h = h
built_served command.Grovel h = h
built_served _ h = tt

pub all_served : (ls : List Line) → All (λ l. IsBuilt l.command) ls
    → All (λ l. IsServed l.command) ls
all_served ls built = λ k d lt. built_served _ (built k d lt)

-- ---- how many entries there will be

-- how many of the clients 1 to n have a line
abbrev ends_in : ℕ → List Line → ℕ
ends_in zero ls = 0
ends_in (suc n) ls = (if has (suc n) ls then 1 else 0) + ends_in n ls

few_ends : (n : ℕ) (ls : List Line) → ends_in n ls ≤ n
few_ends zero ls = omega arith
few_ends (suc n) ls = grind (arith, few_ends n ls)

ends_kept : (n : ℕ) (l : Line) (ls : List Line) → ends_in n ls ≤ ends_in n (l ∷ ls)
ends_kept zero l ls = omega arith
ends_kept (suc n) l ls = grind (arith, ends_kept n l ls)

ends_more : (n : ℕ) (l : Line) (ls : List Line) → 1 ≤ l.client → l.client ≤ n
    → has l.client ls ≡ false → 1 + ends_in n ls ≤ ends_in n (l ∷ ls)
ends_more zero l ls low high none = absurd (omega (arith, low, high))
ends_more (suc n) l ls low high none =
    let less : l.client ≤ n → 1 + ends_in n ls ≤ ends_in n (l ∷ ls) =
    λ le. ends_more n l ls low le none in
    grind (arith, nat_tests, ends_kept n l ls, less)

order_within : (n : ℕ) (ls : List Line) → All (λ l. (1 ≤ l.client) × (l.client ≤ n)) ls
    → length (exec_order ls) ≤ length ls + ends_in n ls
order_within n [] all = omega arith
order_within n (l ∷ ls) all =
    let rest = order_within n ls (λ k d lt. all (suc k) d (omega (arith, lt))) in
    let client = all 0 l (omega arith) in
    grind (arith, rest, ends_kept n l ls, ends_more n l ls client.0 client.1)

-- one for each line, and one for each client that has lines
pub order_length : (ls : List Line) → All (λ l. IsClient l.client) ls
    → length (exec_order ls) ≤ length ls + 16
order_length ls all = omega (arith, order_within 16 ls all, few_ends 16 ls)
