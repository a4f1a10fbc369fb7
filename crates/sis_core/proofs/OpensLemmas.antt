-- Opens of files in the world, and in a session.
use Rattle.std.proofs.Common.{eqb, ◌≡◌, ℕ, zero, suc, ◌+◌, ◌-◌, ◌<◌, ◌≤◌, ◌||◌, ◌&&◌, Bool, true, false, not, cond, is_some, List, [], ◌∷◌, ◌++◌, length, map, filter, None, Some, Option, refl, sym, ap, subst, ◌∙◌, arith}
use Rattle.std.specs.Prelude.{find, nat_le, unwrap_or, ◌==◌}
use Rattle.std.specs.List.{AllByRecursion, list_any, range_with_len}
use Rattle.std.specs.Option.{option_map}
use Rattle.std.proofs.Math.Path.{fun_ext}
use Rattle.std.proofs.lemmas.Bool.Decides.{nat_tests}
use Rattle.std.proofs.lemmas.List.{length-map, map-append}
use Rattle.std.proofs.lemmas.Map.Steps.{le-length_from_below}
use Rattle.sis_history.proofs.NamedLemmas.{is_named}
use Rattle.sis_history.specs.Stage as history
use Rattle.sis_model.specs.Answer.{MayReply, refusal_of}
use Rattle.sis_model.specs.World as world
use Rattle.sis_model.specs.World.{World, OpenFile, bytes_of, is_open_as, opens_of}
use Rattle.sis_model.specs.declared.command.Command.TheVariants as command
use Rattle.sis_model.specs.declared.reply.Reply.TheVariants as reply
use Rattle.sis_name.specs.Files.{same_name}
use Rattle.sis_name.specs.Units.{is_store_name}
use Rattle.sis_table.specs.Volume.{VolumeTable, IsTable, id_of, node_named, node_with}
use Rattle.sis_table.specs.declared.node.Node.{Node}
use Rattle.sis_core.specs.Deciding.{DecidesFor}
use Rattle.sis_core.specs.Opens.{free_number, has_other_writer, is_as, is_of, open_as}
use Rattle.sis_core.specs.Session.{AreThere, SessionView, ShowsWorld, name_by, open_in, session}
use Rattle.sis_core.specs.declared.opens.Open.{Open}
use Rattle.sis_core.proofs.Named.{IsFound, found_in, found_passes, found_there, is_found, same_file}
use Rattle.sis_core.proofs.Opened.{IsOpened}
use Rattle.sis_core.proofs.OpensIndex.{some_as}
use Rattle.sis_core.proofs.Told.{told_decided}

-- ---- the least free number

-- the first of the numbers from `n` to 64 that passes is `n`, or one behind it
from_here : (test : ℕ → Bool) (n left : ℕ) → left ≡ 65 - n → n ≤ 64
    → find test (range_with_len n left)
    ≡ cond (test n) (Some n) (find test (range_with_len (n + 1) (65 - (n + 1))))
from_here test n zero is low = absurd (omega arith)
from_here test n (suc left) is low =
    let same : left ≡ 65 - (n + 1) = omega arith in
    ap (λ (k : ℕ). cond (test n) (Some n) (find test (range_with_len (n + 1) k))) same

-- the first that passes is this one
pub least_found : (test : ℕ → Bool) (n : ℕ) → n ≤ 64 → test n ≡ true
    → find test (range_with_len n (65 - n)) ≡ find test (range_with_len 1 64)
    → n ≡ unwrap_or (find test (range_with_len 1 64)) 0
least_found test n low is all =
    ap (λ (o : Option ℕ). unwrap_or o 0)
    (sym (ap (λ (b : Bool). cond b (Some n) (find test (range_with_len (n + 1) (65 - (n + 1))))) is)
    ∙ sym (from_here test n (65 - n) refl low) ∙ all)

-- it is behind this one
pub least_behind : (test : ℕ → Bool) (n : ℕ) → n ≤ 64 → test n ≡ false
    → find test (range_with_len n (65 - n)) ≡ find test (range_with_len 1 64)
    → find test (range_with_len (n + 1) (65 - (n + 1))) ≡ find test (range_with_len 1 64)
least_behind test n low is all =
    sym (ap (λ (b : Bool). cond b (Some n) (find test (range_with_len (n + 1) (65 - (n + 1))))) is)
    ∙ sym (from_here test n (65 - n) refl low) ∙ all

-- there is none
pub least_none : (test : ℕ → Bool) (n : ℕ) → 64 < n
    → find test (range_with_len n (65 - n)) ≡ find test (range_with_len 1 64)
    → 0 ≡ unwrap_or (find test (range_with_len 1 64)) 0
least_none test n above all =
    let none : 65 - n ≡ 0 = omega arith in
    ap (λ (o : Option ℕ). unwrap_or o 0)
    (ap (λ (k : ℕ). find test (range_with_len n k)) (sym none) ∙ all)

-- ---- a client with few opens has a number free

none_passes : (test : ℕ → Bool) (first len : ℕ) → find test (range_with_len first len) ≡ None
    → (q : ℕ) → q < len → test (first + q) ≡ false
none_passes test first zero none q lt = absurd (omega arith)
none_passes test first (suc len) none q lt =
    elim (test first) as (λ b. test first ≡ b
    → cond b (Some first) (find test (range_with_len (first + 1) len)) ≡ None
    → test (first + q) ≡ false) [
      | true ↦ λ is h. absurd cc
      | false ↦ λ is h. by q lt is (none_passes test (first + 1) len h)
    ] refl none
  where
    by : (k : ℕ) → k < suc len → test first ≡ false
        → ((p : ℕ) → p < len → test ((first + 1) + p) ≡ false) → test (first + k) ≡ false
    by zero low is others =
        let same : first ≡ first + 0 = omega arith in
        subst (λ (p : ℕ). test p ≡ false) same is
    by (suc k) low is others =
        let same : (first + 1) + k ≡ first + suc k = omega arith in
        subst (λ (p : ℕ). test p ≡ false) same (others k (omega arith))

-- a client's numbers, counted from 0
abbrev numbers_of : ℕ → List Open → List ℕ
numbers_of client opens = map (λ o. o.number - 1) (filter (is_of client) opens)

in_use : (client q : ℕ) (opens : List Open) → list_any (is_as client (1 + q)) opens ≡ true
    → list_any (eqb q) (numbers_of client opens) ≡ true
in_use client q [] used = absurd cc
in_use client q (o ∷ os) used =
    elim (is_of client o) as (λ b. is_of client o ≡ b
    → list_any (eqb q) (map (λ p. p.number - 1)
    (cond b (o ∷ filter (is_of client) os) (filter (is_of client) os))) ≡ true) [
      | true ↦ λ is.
          elim (is_as client (1 + q) o) as (λ b. is_as client (1 + q) o ≡ b
          → (b || list_any (is_as client (1 + q)) os) ≡ true
          → (eqb q (o.number - 1) || list_any (eqb q) (numbers_of client os)) ≡ true) [
            | true ↦ λ this h.
                let same : eqb q (o.number - 1) ≡ true = grind (arith, nat_tests) in
                rw same refl
            | false ↦ λ other h. or_true (eqb q (o.number - 1)) _ (in_use client q os h)
          ] refl used
      | false ↦ λ other.
          let this : is_as client (1 + q) o ≡ false = rw other refl in
          in_use client q os
          (subst (λ (b : Bool). (b || list_any (is_as client (1 + q)) os) ≡ true) this used)
    ] refl
  where
    or_true : (a b : Bool) → b ≡ true → (a || b) ≡ true
    or_true true b is = refl
    or_true false b is = is

-- the client has this number free
abbrev is_free : ℕ → List Open → ℕ → Bool
is_free client opens number = not (list_any (is_as client number) opens)

-- no open has the least free number
pub free_there : (client : ℕ) (opens : List Open) → length (filter (is_of client) opens) < 64
    → open_as client (free_number client opens) opens ≡ None
free_there client opens few =
    let found = find (is_free client opens) (range_with_len 1 64) in
    elim found as (λ q. found ≡ q → open_as client (unwrap_or q 0) opens ≡ None) [
      | None ↦ λ none.
          let full : 64 ≤ length (numbers_of client opens) =
          le-length_from_below (numbers_of client opens) 64 (λ q lt. in_use client q opens
          (taken _ (none_passes (is_free client opens) 1 64 none q lt))) in
          absurd (omega (
            arith,
            few,
            full,
            length-map (filter (is_of client) opens) (λ (o : Open). o.number - 1),
          ))
      | Some n ↦ λ is.
          unused n (found_passes (is_free client opens) (range_with_len 1 64) n is)
    ] refl
  where
    taken : (b : Bool) → not b ≡ false → b ≡ true
    taken true is = refl
    taken false is = absurd cc

    none_left : (q : Option Open) → not (is_some q) ≡ true → q ≡ None
    none_left None is = refl
    none_left (Some o) is = absurd cc

    unused : (n : ℕ) → is_free client opens n ≡ true → open_as client n opens ≡ None
    unused n is =
        none_left (open_as client n opens) (ap not (some_as (is_as client n) opens) ∙ is)

-- ---- the opens of a client

filter_mapped : {X Y : Type 0} (f : X → Y) (q : Y → Bool) (p : X → Bool) (xs : List X)
    → ((x : X) → q (f x) ≡ p x) → filter q (map f xs) ≡ map f (filter p xs)
filter_mapped f q p [] same = refl
filter_mapped {Y = Y} f q p (x ∷ xs) same =
    ap (λ (b : Bool). cond b (f x ∷ filter q (map f xs)) (filter q (map f xs))) (same x)
    ∙ by (p x) (filter_mapped f q p xs same)
  where
    by : (b : Bool) → filter q (map f xs) ≡ map f (filter p xs)
        → cond b (f x ∷ filter q (map f xs)) (filter q (map f xs))
        ≡ map f (cond b (x ∷ filter p xs) (filter p xs))
    by true rest = ap (λ (ys : List Y). f x ∷ ys) rest
    by false rest = rest

any_mapped : (v : VolumeTable) (client number : ℕ) (opens : List Open)
    → list_any (is_open_as client number) (map (open_in v) opens)
    ≡ list_any (is_as client number) opens
any_mapped v client number [] = refl
any_mapped v client number (o ∷ os) =
    ap (λ (b : Bool). is_as client number o || b) (any_mapped v client number os)

-- the least free number, and how many there are
pub free_shown : (w : World) (s : SessionView) (client : ℕ) → ShowsWorld w s
    → world.free_number w client ≡ free_number client s.opens
free_shown w s client shows =
    ap (λ (test : ℕ → Bool). unwrap_or (find test (range_with_len 1 64)) 0)
    (fun_ext (λ (number : ℕ).
    ap not (ap (list_any (is_open_as client number)) shows.opens
    ∙ any_mapped s.volume.table client number s.opens)))

pub count_shown : (w : World) (s : SessionView) (client : ℕ) → ShowsWorld w s
    → length (opens_of w client) ≡ length (filter (is_of client) s.opens)
count_shown w s client shows =
    ap (λ (os : List OpenFile). length (filter (λ o. o.client == client) os)) shows.opens
    ∙ ap (λ (os : List OpenFile). length os)
    (filter_mapped (open_in s.volume.table) (λ (o : OpenFile). o.client == client) (is_of client)
    s.opens (λ o. refl))
    ∙ length-map (filter (is_of client) s.opens) (open_in s.volume.table)

-- the opens that pass a test are those of the session that do
pub passing_shown : (w : World) (s : SessionView) (v : VolumeTable) (q : OpenFile → Bool)
    (p : Open → Bool) → ShowsWorld w s → v ≡ s.volume.table
    → ((o : Open) → q (open_in s.volume.table o) ≡ p o)
    → filter q w.opens ≡ map (open_in v) (filter p s.opens)
passing_shown w s v q p shows table same =
    ap (λ (os : List OpenFile). filter q os) shows.opens
    ∙ filter_mapped (open_in s.volume.table) q p s.opens same
    ∙ ap (λ (u : VolumeTable). map (open_in u) (filter p s.opens)) (sym table)

all_push : {X : Type 0} (P : X → Type 0) (xs : List X) (x : X) → AllByRecursion P xs → P x
    → AllByRecursion P (xs ++ x ∷ [])
all_push P [] x all is = (is, tt)
all_push P (y ∷ ys) x all is = (all.0, all_push P ys x all.1 is)

all_passing : {X : Type 0} (P : X → Type 0) (p : X → Bool) (xs : List X) → AllByRecursion P xs
    → AllByRecursion P (filter p xs)
all_passing P p [] all = tt
all_passing P p (x ∷ xs) all = by (p x) (all_passing P p xs all.1)
  where
    by : (b : Bool) → AllByRecursion P (filter p xs)
        → AllByRecursion P (cond b (x ∷ filter p xs) (filter p xs))
    by true rest = (all.0, rest)
    by false rest = rest

pub passing_there : (v : VolumeTable) (p : Open → Bool) (opens : List Open) → AreThere v opens
    → AreThere v (filter p opens)
passing_there v p opens there =
    all_passing (λ (o : Open). is_some (node_with v o.file) ≡ true) p opens there

-- ---- a file is opened

pub low_count : (count : ℕ) (w : World) (s : SessionView) (client : ℕ) → ShowsWorld w s
    → count ≡ length (filter (is_of client) s.opens) → count < 64
    → nat_le 64 (length (opens_of w client)) ≡ false
low_count count w s client shows is low =
    let same : length (opens_of w client) ≡ count = count_shown w s client shows ∙ sym is in
    grind (arith, nat_tests, same, low)

pub full_count : (count : ℕ) (w : World) (s : SessionView) (client : ℕ) → ShowsWorld w s
    → count ≡ length (filter (is_of client) s.opens) → 64 ≤ count
    → nat_le 64 (length (opens_of w client)) ≡ true
full_count count w s client shows is low =
    let same : length (opens_of w client) ≡ count = count_shown w s client shows ∙ sym is in
    grind (arith, nat_tests, same, low)

pub opened_decides : (w : World) (s : SessionView) (client number id : ℕ) (name : List ℕ)
    (writes : Bool) (found : Option ℕ) (new : List Open) → ShowsWorld w s
    → s.volume.down ≡ None → IsTable s.volume.table
    → found ≡ option_map id_of (node_named s.volume.table name) → found ≡ Some id
    → is_store_name name ≡ false → nat_le 64 (length (opens_of w client)) ≡ false
    → number ≡ free_number client s.opens
    → new
    ≡ s.opens ++ record { client = client; number = number; file = id; writes = writes } ∷ []
    → DecidesFor w s (session s.volume new) client (command.Open name writes) (reply.Opened number)
opened_decides w s client number id name writes found new shows up t e is user few number_is added =
    let v = s.volume.table in
    let this : Open =
    record { client = client; number = number; file = id; writes = writes } in
    let f = is_found v name found id t e is in
    let node : node_with v id ≡ Some f.node = found_there v name id f in
    let some : is_some (bytes_of w name) ≡ true =
    found_in w s name found shows e ∙ ap (λ (o : Option ℕ). is_some o) is in
    let number_shown : world.free_number w client ≡ number =
    free_shown w s client shows ∙ sym number_is in
    let name_is : name_by (node_with v id) ≡ name = ap name_by node ∙ f.named.name_is in
    let accepted : refusal_of w client (command.Open name writes) ≡ None =
    rw (user, some, few) refl in
    let may : MayReply w client (command.Open name writes) (reply.Opened number) =
    (accepted, ap reply.Opened (sym number_shown)) in
    record {
      decided =
          told_decided w s.volume client (command.Open name writes) (reply.Opened number) up t
          (record { needs = λ jobs. refl; table = λ jobs. refl }) refl refl refl may may
          (λ jobs later next h. h);
      stands = shows.stands;
      opens =
          ap (λ (os : List OpenFile). os ++ record {
            client = client;
            number = world.free_number w client;
            name = name;
            writes = writes;
          } ∷ []) shows.opens
          ∙ ap (λ (n : ℕ). map (open_in v) s.opens ++ record {
            client = client;
            number = n;
            name = name;
            writes = writes;
          } ∷ []) number_shown
          ∙ ap (λ (q : List ℕ). map (open_in v) s.opens ++ record {
            client = client;
            number = number;
            name = q;
            writes = writes;
          } ∷ []) (sym name_is)
          ∙ sym (map-append (open_in v) s.opens (this ∷ []))
          ∙ ap (λ (os : List Open). map (open_in v) os) (sym added);
      there =
          subst (λ (os : List Open). AreThere v os) (sym added)
          (all_push (λ (o : Open). is_some (node_with v o.file) ≡ true) s.opens this shows.there
          (ap (λ (o : Option Node). is_some o) node));
    }

-- ---- another open may write the same file

pub writers_shown : (w : World) (s : SessionView) (client number : ℕ) (this : Open) (n : Node)
    → ShowsWorld w s → IsTable s.volume.table → IsOpened w s client number this n
    → history.has_other_writer w
    (record { client = this.client; number = this.number; name = n.name; writes = this.writes })
    ≡ has_other_writer this s.opens
writers_shown w s client number this n shows t is =
    ap (λ (os : List OpenFile). list_any (λ p. same_name p.name n.name && p.writes
    && not (is_open_as this.client this.number p)) os) shows.opens
    ∙ each s.opens shows.there
  where
    own_id : n.id ≡ this.file
    own_id =
        let test : (n.id == this.file) ≡ true =
        found_passes (λ k. k.id == this.file) s.volume.table.nodes n is.there in
        grind (arith, nat_tests)

    found : IsFound s.volume.table n.name this.file
    found = record {
      node = n;
      named = is_named s.volume.table n.name n t is.named;
      id_is = own_id;
    }

    each : (opens : List Open) → AreThere s.volume.table opens
        → list_any (λ p. same_name p.name n.name && p.writes
        && not (is_open_as this.client this.number p)) (map (open_in s.volume.table) opens)
        ≡ has_other_writer this opens
    each [] there = refl
    each (p ∷ ps) there =
        ap (λ (b : Bool). (b && p.writes && not (is_as this.client this.number p))
        || list_any (λ q. same_name q.name n.name && q.writes
        && not (is_open_as this.client this.number q)) (map (open_in s.volume.table) ps))
        (same_file s.volume.table n.name this.file t found p.file
        (node_with s.volume.table p.file) refl there.0)
        ∙ ap (λ (b : Bool).
        ((p.file == this.file) && p.writes && not (is_as this.client this.number p)) || b)
        (each ps there.1)
