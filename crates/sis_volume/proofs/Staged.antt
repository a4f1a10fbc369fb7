-- Staging, run by run.
use Rattle.std.proofs.Common.{◌≡◌, ℕ, ◌+◌, ◌*◌, ◌/◌, ◌%◌, ◌<◌, ◌≤◌, Bool, true, List, [], ◌∷◌, ◌++◌, length, take, drop, map, flat_map, Option, Some, None, refl, sym, ap, ap₂, ◌∙◌, subst, arith, append-nil, append_assoc, length-drop}
use Rattle.std.specs.Prelude.{IfSome, nat_le, nat_lt, ◌&&◌, ◌||◌}
use Rattle.std.specs.List.{list_any}
use Rattle.std.specs.Option.{option_map}
use Rattle.std.proofs.Math.Bool.{or-true}
use Rattle.std.proofs.Math.Seq.{take-add}
use Rattle.std.proofs.lemmas.Bool.Decides.{nat_tests}
use Rattle.std.proofs.lemmas.List.{take_all, map-append}
use Rattle.std.proofs.lemmas.List.Folds.{list_any-append}
use Rattle.std.proofs.lemmas.Grind.{flat_map-append}
use Rattle.sis_disk.specs.declared.layout.Layout.{Layout}
use Rattle.sis_disk.specs.Layout.{IsLayout, data_blocks, first_byte}
use Rattle.sis_disk.specs.Record.{DiskRecord, IsImage, Seen, State, live_bytes, live_of, state_of}
use Rattle.sis_disk.specs.Stops.{GoesOn, Shows}
use Rattle.sis_places.specs.Places.{PlacesView}
use Rattle.sis_ranges.specs.declared.run.Run.{Run}
use Rattle.sis_table.specs.declared.edit.Edit.{Edit}
use Rattle.sis_ranges.specs.Extents.{IsChain, block_end, place_end}
use Rattle.sis_table.specs.Edits.{map_edit}
use Rattle.sis_table.specs.Content.{run_bytes}
use Rattle.sis_volume.specs.View.{TxnView, count_of, is_fresh, maps_to}
use Rattle.sis_volume.specs.Staging.{AreFreshRuns, IsFreshRun, Stages}
use Rattle.sis_volume.specs.Keeping.{AgreesOut, KeepsOut, StagesRun, WritesOnly}
use Rattle.sis_volume.proofs.Freshness.{fewer_fresh, fresh_taken, mapped_first}
use Rattle.sis_volume.proofs.Slices.{slice_below}
use Rattle.sis_volume.proofs.Writes.{IsNarrower, same_record, writes_none, writes_trans}

-- So many blocks are staged.
pub record IsStaged (l : Layout) (p : PlacesView) (old now : TxnView) (file first done : ℕ)
    (bytes : List ℕ) (before after : Seen) : Type 0 where
  pub runs : List Run
  pub stages : Stages l p old now file first done (take (4096 * done) bytes) (live_of after) runs
  pub left : count_of l (is_fresh l p now.edits) + done ≡ count_of l (is_fresh l p old.edits)
  pub writes : WritesOnly (first_byte l) (is_fresh l p old.edits) before after
  pub few : after.calls ≤ before.calls + done
  pub quiet : after.faults ≡ before.faults
  pub whole : done ≤ length bytes / 4096

chain-push : (first mid end : ℕ) (runs : List Run) (r : Run) → IsChain first mid runs → r.first ≡ mid
    → 1 ≤ r.count → block_end r ≡ end → IsChain first end (runs ++ r ∷ [])
chain-push first mid end [] r chain begins some ends = (begins ∙ sym chain, some, ends)
chain-push first mid end (s ∷ ss) r chain begins some ends =
    (chain.0, chain.1, chain-push (block_end s) mid end ss r chain.2 begins some ends)

-- a disk that makes no call leaves what its images have
pub leaves_none : (P : List ℕ → Type 0) (o : Option DiskRecord)
    → ((r : DiskRecord) → o ≡ Some r → Shows P (state_of r)) → GoesOn P o o
leaves_none P None h = refl
leaves_none P (Some r) h =
    ([], ap (λ cs. Some (record { opening = r.opening; calls = cs })) (sym (append-nil r.calls)), h r refl)

told_written : (P : List ℕ → Type 0) (o : Option DiskRecord) (r : DiskRecord) → o ≡ Some r
    → P (live_bytes r) → IfSome (option_map live_bytes o) P
told_written P o r is h =
    subst (λ (x : Option DiskRecord). IfSome (option_map live_bytes x) P) (sym is) h

none_written : (P : List ℕ → Type 0) (o : Option DiskRecord) → o ≡ None
    → IfSome (option_map live_bytes o) P
none_written P o is =
    subst (λ (x : Option DiskRecord). IfSome (option_map live_bytes x) P) (sym is) tt

abbrev no_bytes : List ℕ
no_bytes = []

nothing : (live : Option (List ℕ)) → IfSome live (λ now. no_bytes ≡ no_bytes)
nothing None = tt
nothing (Some live) = refl

-- the edits that map runs map their places
mapped_runs : (file q : ℕ) (front : List Edit) (runs : List Run) (r : Run) (back : List Run)
    → runs ≡ r ∷ back → (nat_le r.place q && nat_lt q (place_end r)) ≡ true
    → list_any (maps_to q) (front ++ map (map_edit file) runs) ≡ true
mapped_runs file q front runs r back is has =
    ap (λ (rs : List Run). list_any (maps_to q) (front ++ map (map_edit file) rs)) is
    ∙ list_any-append (maps_to q) front (map (map_edit file) (r ∷ back))
    ∙ ap (λ (b : Bool). list_any (maps_to q) front || (b || list_any (maps_to q) (map (map_edit file) back))) has
    ∙ or-true (list_any (maps_to q) front)

-- an image agrees with the state that it is one of
agrees : (test : ℕ → Bool) (o : Option DiskRecord) (r q : DiskRecord) → o ≡ Some r → o ≡ Some q
    → (m : List ℕ) → IsImage (state_of q) m → AgreesOut test (state_of r) m
agrees test o r q is is_q m image =
    let here : IsImage (state_of r) m = subst (λ (x : DiskRecord). IsImage (state_of x) m) (sym (same_record o r q is is_q)) image in
    record { size = here.size; same = λ i lt out firm. here.same i lt firm }

module _ (l : Layout) (p : PlacesView) (file : ℕ) where
  fresh-push : (edits : List Edit) (runs : List Run) (r : Run) → AreFreshRuns l p file edits runs
      → IsFreshRun l p (edits ++ map (map_edit file) runs) r
      → AreFreshRuns l p file edits (runs ++ r ∷ [])
  fresh-push edits [] r are is =
      (subst (λ (es : List Edit). IsFreshRun l p es r) (append-nil edits) is, tt)
  fresh-push edits (s ∷ ss) r are is = (
    are.0,
    fresh-push (edits ++ map_edit file s ∷ []) ss r are.1
        (subst (λ (es : List Edit). IsFreshRun l p es r)
        (sym (append_assoc edits (map_edit file s ∷ []) (map (map_edit file) ss))) is),
  )

  -- runs that edits map keep their bytes where places are written that are fresh behind them
  runs_kept : (front : List Edit) (runs : List Run) (edits : List Edit) (s t : State)
      → edits ≡ front ++ map (map_edit file) runs → KeepsOut (is_fresh l p edits) s t
      → flat_map (run_bytes t.live) runs ≡ flat_map (run_bytes s.live) runs
  runs_kept front [] edits s t is keeps = refl
  runs_kept front (r ∷ rs) edits s t is keeps =
      ap₂ (λ (xs ys : List ℕ). xs ++ ys)
      (slice_below s.live t.live (4096 * r.place) (4096 * (r.place + r.count)) keeps.size
      (λ i lt ge below. keeps.live i lt
      (mapped_first l p edits (i / 4096)
      (ap (list_any (maps_to (i / 4096))) is
      ∙ mapped_runs file (i / 4096) front (r ∷ rs) r rs refl
      (let low : r.place ≤ i / 4096 = omega arith in let high : i / 4096 < r.place + r.count = omega arith in grind (arith, nat_tests))))))
      (runs_kept (front ++ map_edit file r ∷ []) rs edits s t
      (is ∙ sym (append_assoc front (map_edit file r ∷ []) (map (map_edit file) rs))) keeps)

  both_written : (front : List Edit) (runs : List Run) (edits : List Edit) (r : Run)
      (xs ys : List ℕ) (old new : Option DiskRecord) → edits ≡ front ++ map (map_edit file) runs
      → (old ≡ None → new ≡ None)
      → ((q : DiskRecord) → old ≡ Some q → (s : DiskRecord) × (new ≡ Some s)
      × KeepsOut (is_fresh l p edits) (state_of q) (state_of s))
      → IfSome (option_map live_bytes old) (λ live. flat_map (run_bytes live) runs ≡ xs)
      → IfSome (option_map live_bytes new) (λ live. run_bytes live r ≡ ys)
      → IfSome (option_map live_bytes new) (λ live. flat_map (run_bytes live) (runs ++ r ∷ []) ≡ xs ++ ys)
  both_written front runs edits r xs ys None new mapped untold keeps was is =
      none_written _ new (untold refl)
  both_written front runs edits r xs ys (Some q) new mapped untold keeps was is =
      let s = keeps q refl in
      let there : run_bytes (live_bytes s.0) r ≡ ys = subst (λ (x : Option DiskRecord). IfSome (option_map live_bytes x) (λ live. run_bytes live r ≡ ys)) s.1 is in
      told_written _ new s.0 s.1
      (flat_map-append (run_bytes (live_bytes s.0)) runs (r ∷ [])
      ∙ ap₂ (λ (front' back : List ℕ). front' ++ back)
      (runs_kept front runs edits (state_of q) (state_of s.0) mapped s.2 ∙ was)
      (append-nil (run_bytes (live_bytes s.0) r) ∙ there))

  -- no block is staged yet
  pub staged_none : (txn : TxnView) (first : ℕ) (bytes : List ℕ) (seen : Seen)
      → IsStaged l p txn txn file first 0 bytes seen seen
  staged_none txn first bytes seen = record {
    runs = [];
    stages = record {
      edits = sym (append-nil txn.edits);
      chain = omega arith;
      fresh = tt;
      written = nothing (live_of seen);
    };
    left = omega arith;
    writes = writes_none (is_fresh l p txn.edits) (first_byte l) seen
        (λ r is. record { told = leaves_none _ seen.told (λ q is_q m image. agrees (is_fresh l p txn.edits) seen.told r q is is_q m image) });
    few = omega arith;
    quiet = refl;
    whole = omega arith;
  }

  -- with the edits of a transaction that went on fewer places are fresh
  pub narrower : (edits more : List Edit) (now : List Edit) → now ≡ edits ++ more
      → IsNarrower (is_fresh l p now) (is_fresh l p edits)
  narrower edits more now is place out =
      ap (λ (es : List Edit). is_fresh l p es place) is ∙ fewer_fresh l p edits more place out

  -- one run more is staged
  pub staged_more : (old now new : TxnView) (first done : ℕ) (bytes : List ℕ)
      (before mid after : Seen) (r : Run) → IsLayout l → length p.current ≡ data_blocks l
      → IsStaged l p old now file first done bytes before mid
      → StagesRun l p now new file (first + done) (drop (4096 * done) bytes) (live_of after) r
      → WritesOnly (first_byte l) (is_fresh l p now.edits) mid after → after.calls ≤ mid.calls + 1
      → after.faults ≡ mid.faults
      → IsStaged l p old new file first (done + r.count) bytes before after
  staged_more old now new first done bytes before mid after r layout size staged run writes calls quiet =
      let stages = staged.stages in
      let next = run.next in
      let some = next.some in
      let begins = next.begins in
      let few = next.few in
      let left_before = staged.left in
      let calls_before = staged.few in
      let whole = staged.whole in
      let len = length-drop (4096 * done) bytes in
      let is_new : new.edits ≡ now.edits ++ map_edit file r ∷ [] = ap (λ (t : TxnView). t.edits) run.txn in
      let count = ap (λ (es : List Edit). count_of l (is_fresh l p es)) is_new in
      let taken = fresh_taken l p now.edits layout size file (first + done) (length (drop (4096 * done) bytes) / 4096) r next in
      let joined : take (4096 * done) bytes ++ take (4096 * r.count) (drop (4096 * done) bytes) ≡ take (4096 * (done + r.count)) bytes
      = sym (take-add (4096 * done) (4096 * r.count) bytes) ∙ (let e : 4096 * done + 4096 * r.count ≡ 4096 * (done + r.count) = omega arith in ap (λ (n : ℕ). take n bytes) e) in
      record {
        runs = staged.runs ++ r ∷ [];
        stages = record {
          edits = is_new
              ∙ ap (λ (es : List Edit). es ++ map_edit file r ∷ []) stages.edits
              ∙ append_assoc old.edits (map (map_edit file) staged.runs) (map_edit file r ∷ [])
              ∙ ap (λ (es : List Edit). old.edits ++ es) (sym (map-append (map_edit file) staged.runs (r ∷ [])));
          chain = chain-push first (first + done) (first + (done + r.count)) staged.runs r stages.chain begins some (omega arith);
          fresh = fresh-push old.edits staged.runs r stages.fresh
              (subst (λ (es : List Edit). IsFreshRun l p es r) stages.edits next.fresh);
          written = subst (λ (xs : List ℕ). IfSome (live_of after) (λ live. flat_map (run_bytes live) (staged.runs ++ r ∷ []) ≡ xs)) joined
              (both_written old.edits staged.runs now.edits r (take (4096 * done) bytes) (take (4096 * r.count) (drop (4096 * done) bytes)) mid.told after.told
              stages.edits writes.untold writes.keeps stages.written run.written);
        };
        left = omega arith;
        writes = writes_trans (is_fresh l p now.edits) (is_fresh l p old.edits)
            (narrower old.edits (map (map_edit file) staged.runs) now.edits stages.edits)
            (first_byte l) before mid after staged.writes writes;
        few = omega arith;
        quiet = quiet ∙ staged.quiet;
        whole = omega arith;
      }

  -- all blocks are staged
  pub staged_all : (old now : TxnView) (first done : ℕ) (bytes : List ℕ) (before after : Seen)
      → IsStaged l p old now file first done bytes before after → length bytes / 4096 ≤ done
      → length bytes % 4096 ≡ 0
      → (runs : List Run) × Stages l p old now file first (length bytes / 4096) bytes (live_of after) runs
  staged_all old now first done bytes before after staged ends whole =
      let most = staged.whole in
      let all : done ≡ length bytes / 4096 = omega arith in
      let every : take (4096 * done) bytes ≡ bytes = take_all (4096 * done) bytes (omega arith) in (
        staged.runs,
        subst (λ (n : ℕ). Stages l p old now file first n bytes (live_of after) staged.runs) all
            (subst (λ (xs : List ℕ). Stages l p old now file first done xs (live_of after) staged.runs) every staged.stages),
      )
