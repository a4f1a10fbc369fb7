-- One more line of a script.
use Rattle.std.proofs.Common.{◌≡◌, ℕ, ◌+◌, ◌<◌, ◌≤◌, List, ◌∷◌, length, replicate, Result, Ok, Err, OnOk, false, refl, arith, lit<}
use Rattle.std.proofs.lemmas.Bool.Decides.{nat_tests}
use Rattle.std.proofs.lemmas.List.{append_assoc, length-append, length-replicate}
use Rattle.std.proofs.lemmas.List.Elements.{All-append}
use Rattle.std.specs.Result.{is_err}
use Rattle.sis_script.specs.Script.{Parts, IsClient, IsBuilt, AreAllowed, joined, with_front, parts_from, item_of, script_of}
use Rattle.sis_script.specs.Views.{parts_in}
use Rattle.sis_script.specs.declared.commands.Item.{Item}
use Rattle.sis_script.specs.declared.commands.Item.TheVariants as item
use Rattle.sis_script.specs.declared.faults.ScriptFault.{ScriptFault}
use Rattle.sis_script.specs.declared.faults.ScriptFault.TheVariants as fault
use Rattle.sis_script.specs.declared.faults.ScriptLimit.TheVariants as limit
use Rattle.sis_script.specs.declared.limits.TheConstants.{MOST_LINES, MOST_SCRIPT_BYTES}

pub made : {A E : Type 0} (P : Type 0) (r : Result A E) → is_err r ≡ false → OnOk r P → P
made P (Ok x) h p = p
made P (Err e) h p = cc

front_twice : (p q : Parts) (r : Result Parts ScriptFault) → with_front p (with_front q r) ≡ with_front (joined p q) r
front_twice p q (Ok r) =
    let lines = append_assoc p.lines q.lines r.lines in
    let schedule = append_assoc p.schedule q.schedule r.schedule in
    cc
front_twice p q (Err e) = refl

line_read : (n : ℕ) (line : List ℕ) (lines : List (List ℕ)) (q : Parts) → n < MOST_LINES → item_of line ≡ Ok q → parts_from n (line ∷ lines) ≡ with_front q (parts_from (n + 1) lines)
line_read n line lines q below is = grind (arith, nat_tests)

-- what a line adds goes behind what was read before it
pub one_more : (p q : Parts) (n : ℕ) (line : List ℕ) (lines : List (List ℕ)) → n < MOST_LINES → item_of line ≡ Ok q → with_front (joined p q) (parts_from (n + 1) lines) ≡ with_front p (parts_from n (line ∷ lines))
one_more p q n line lines below is =
    let read = line_read n line lines q below is in
    let twice = front_twice p q (parts_from (n + 1) lines) in
    cc

few_in : (i : Item) → length (parts_in i).lines ≤ 1
few_in item.Nothing = omega arith
few_in (item.Runs line) = omega arith
few_in (item.Turns clients) = omega arith

-- a line adds at most one command
pub few_more : (p : Parts) (i : Item) (n : ℕ) → length p.lines ≤ n → length (joined p (parts_in i)).lines ≤ n + 1
few_more p i n h = omega (arith, h, few_in i, length-append p.lines (parts_in i).lines)

pub allowed_more : (p q : Parts) → AreAllowed p → AreAllowed q → AreAllowed (joined p q)
allowed_more p q a b = record {
  clients = All-append (λ l. IsClient l.client) p.lines q.lines a.clients b.clients;
  built = All-append (λ l. IsBuilt l.command) p.lines q.lines a.built b.built;
  turns = All-append IsClient p.schedule q.schedule a.turns b.turns;
}

-- bytes of any length
of_length : (n : ℕ) → (bytes : List ℕ) × (length bytes ≡ n)
of_length n = (replicate n 0, length-replicate n 0)

above : (n : ℕ) (bytes : List ℕ) → length bytes ≡ n → MOST_SCRIPT_BYTES < n
    → script_of bytes ≡ Err (fault.Limit limit.Bytes (MOST_SCRIPT_BYTES + 1))
above n bytes is more = grind (arith, nat_tests)

-- some bytes are too many for a script
pub too_long : (bytes : List ℕ)
    × (script_of bytes ≡ Err (fault.Limit limit.Bytes (MOST_SCRIPT_BYTES + 1)))
too_long =
    let long = of_length (MOST_SCRIPT_BYTES + 1) in
    (long.0, above (MOST_SCRIPT_BYTES + 1) long.0 long.1 (lit< tt))
