-- What the bytes of an image say, piece by piece and as a whole.
use Rattle.std.specs.Result.{IsErrAnd}
use Rattle.std.proofs.Common.{◌≡◌, ℕ, ◌+◌, ◌-◌, ◌<◌, ◌≤◌, Bool, List, ◌++◌, length, take, drop, slice_index, Option, Some, None, refl, sym, ap, ap₂, subst, ◌∙◌, arith, take-add}
use Rattle.std.specs.Prelude.{Result, Ok, Err, IfSome, IfErr, nat_lt, ◌==◌, slice_range}
use Rattle.std.specs.Option.{option_map}
use Rattle.std.proofs.lemmas.List.{take_all, drop-drop}
use Rattle.std.proofs.lemmas.Bool.{le-ltb, lt-ltb}
use Rattle.byteorder.specs.Endian.{little_bytes, little_number}
use Rattle.byteorder.specs.Numbers.{little_from-take}
use Rattle.sis_disk.specs.declared.layout.ImageKind.TheVariants as kind
use Rattle.sis_disk.specs.declared.layout.Layout.{Layout}
use Rattle.sis_disk.specs.Areas.{TextFault, area_bytes, area_start, read_by, selected_at, shifted, text_at}
use Rattle.sis_disk.proofs.Areas.{length-area_bytes}
use Rattle.sis_disk.proofs.Bytes.{IsBytes, bytes_again}
use Rattle.sis_disk.specs.Layout.{table_cap}
use Rattle.sis_disk.specs.Record.{DiskRecord, live_bytes}
use Rattle.sis_disk.specs.Superblock.{ImageFault, superblock_at}
use Rattle.sis_reading.specs.Steps.{◌>>=◌, guard}
use Rattle.sis_journal.specs.declared.fault.OpenFault.{OpenFault}
use Rattle.sis_journal.specs.declared.fault.OpenFault.TheVariants as faults
use Rattle.sis_journal.specs.Opening.{FailsReading}
use Rattle.sis_journal.proofs.SuperblockLaws.{superblock_at-short}

pub if_some : {A : Type 0} (o : Option A) (P Q : A → Type 0) → ((x : A) → P x → Q x) → IfSome o P → IfSome o Q
if_some None P Q f h = tt
if_some (Some x) P Q f h = f x h

pub if_both : {A : Type 0} (o : Option A) (P Q R : A → Type 0) → ((x : A) → P x → Q x → R x) → IfSome o P → IfSome o Q → IfSome o R
if_both None P Q R f h k = tt
if_both (Some x) P Q R f h k = f x h k

pub moved : {A : Type 0} (a b : Option A) (P : A → Type 0) → a ≡ b → IfSome a P → IfSome b P
moved a b P e h = subst (λ (o : Option _). IfSome o P) e h

-- the live bytes are as long as the disk
pub live_sized : (told : Option DiskRecord) (size : ℕ) → IfSome told (λ r. length (live_bytes r) ≡ size) → IfSome (option_map live_bytes told) (λ live. length live ≡ size)
live_sized None size h = tt
live_sized (Some r) size h = h

pub short_image : (live : Option (List ℕ)) (size : ℕ) → IfSome live (λ m. length m ≡ size) → size < 4096
    → IfSome live (λ m. superblock_at (length m) (take 4096 m) ≡ Err (0, kind.Length))
short_image live size h short =
    if_some live (λ m. length m ≡ size) (λ m. superblock_at (length m) (take 4096 m) ≡ Err (0, kind.Length)) (λ m e. superblock_at-short (length m) (take 4096 m) (omega (arith, e))) h

-- the selected area begins where the selector's byte says
pub selected_is : (l : Layout) (m : List ℕ) (second : Bool) → (slice_index m 4096 == 1) ≡ second → selected_at l m ≡ area_start l second
selected_is l m second e = ap (area_start l) e

-- the length that an area says, of the eight bytes that were read there
pub stated_by : (m bytes : List ℕ) (at : ℕ) → bytes ≡ slice_range m at (at + 8)
    → little_number 8 (drop at m) ≡ little_number 8 bytes
stated_by m bytes at e =
    sym (little_from-take 0 8 (at + 8 - at) (drop at m) (omega arith)) ∙ ap (little_number 8) (sym e)

-- the same, where the disk tells its bytes
pub stated_read : (live : Option (List ℕ)) (bytes : List ℕ) (at : ℕ)
    → IfSome live (λ m. bytes ≡ slice_range m at (at + 8))
    → IfSome live (λ m. little_number 8 (drop at m) ≡ little_number 8 bytes)
stated_read live bytes at h =
    if_some live (λ m. bytes ≡ slice_range m at (at + 8)) _ (λ m e. stated_by m bytes at e) h

-- eight bytes are the spelling of the number that they spell
pub spelled_again : (bytes : List ℕ) → IsBytes bytes → 8 ≤ length bytes → length bytes ≤ 8
    → little_bytes 8 (little_number 8 bytes) ≡ bytes
spelled_again bytes fits long short = bytes_again 8 bytes fits long ∙ take_all 8 bytes short

-- the same, where the disk tells its bytes
pub spelled_read : (live : Option (List ℕ)) (bytes : List ℕ) (at number : ℕ)
    → little_bytes 8 number ≡ bytes → IfSome live (λ m. bytes ≡ slice_range m at (at + 8))
    → IfSome live (λ m. slice_range m at (at + 8) ≡ little_bytes 8 number)
spelled_read live bytes at number is h =
    if_some live (λ m. bytes ≡ slice_range m at (at + 8)) _ (λ m e. sym e ∙ sym is) h

module _ (l : Layout) (m : List ℕ) (at len : ℕ) (start : selected_at l m ≡ at)
    (stated : little_number 8 (drop at m) ≡ len) where
  judged : text_at l m ≡ guard (at, kind.TableLength) (nat_lt (table_cap l) len)
      (slice_range m (at + 8) (at + 8 + len))
  judged =
      ap (λ (s : ℕ). guard (s, kind.TableLength) (nat_lt (table_cap l) (little_number 8 (drop s m)))
      (slice_range m (s + 8) (s + 8 + little_number 8 (drop s m)))) start
      ∙ ap (λ (n : ℕ). guard (at, kind.TableLength) (nat_lt (table_cap l) n)
      (slice_range m (at + 8) (at + 8 + n))) stated

  -- a text that has room in its area
  text_fitting : (text : List ℕ) → len ≤ table_cap l → text ≡ slice_range m (at + 8) (at + 8 + len)
      → text_at l m ≡ Ok text
  text_fitting text fits e =
      judged ∙ ap (λ (wrong : Bool). guard (at, kind.TableLength) wrong
      (slice_range m (at + 8) (at + 8 + len))) (le-ltb (table_cap l) len fits)
      ∙ ap (λ (b : List ℕ). Ok b) (sym e)

  -- one that has none
  text_long : table_cap l < len → text_at l m ≡ Err (at, kind.TableLength)
  text_long more =
      judged ∙ ap (λ (wrong : Bool). guard (at, kind.TableLength) wrong
      (slice_range m (at + 8) (at + 8 + len))) (lt-ltb (table_cap l) len more)

-- the text that was read, where the disk tells its bytes
pub area_text : (live : Option (List ℕ)) (l : Layout) (second : Bool) (at len : ℕ) (text : List ℕ)
    → at ≡ area_start l second → len ≤ table_cap l
    → IfSome live (λ m. (slice_index m 4096 == 1) ≡ second)
    → IfSome live (λ m. little_number 8 (drop at m) ≡ len)
    → IfSome live (λ m. text ≡ slice_range m (at + 8) (at + 8 + len))
    → IfSome live (λ m. text_at l m ≡ Ok text)
area_text None l second at len text place fits sel stated there = tt
area_text (Some m) l second at len text place fits sel stated there =
    text_fitting l m at len (selected_is l m second sel ∙ sym place) stated text fits there

pub area_long : (live : Option (List ℕ)) (l : Layout) (second : Bool) (at len : ℕ)
    → at ≡ area_start l second → table_cap l < len
    → IfSome live (λ m. (slice_index m 4096 == 1) ≡ second)
    → IfSome live (λ m. little_number 8 (drop at m) ≡ len)
    → IfSome live (λ m. text_at l m ≡ Err (at, kind.TableLength))
area_long None l second at len place more sel stated = tt
area_long (Some m) l second at len place more sel stated =
    text_long l m at len (selected_is l m second sel ∙ sym place) stated more

-- a length and a text behind it are the bytes of an area
area_joined : (m text : List ℕ) (at len : ℕ) → slice_range m at (at + 8) ≡ little_bytes 8 len
    → text ≡ slice_range m (at + 8) (at + 8 + len) → length text ≡ len
    → slice_range m at (at + length (area_bytes text)) ≡ area_bytes text
unfolding area_bytes
area_joined m text at len stated there size =
    let whole : at + length (area_bytes text) - at ≡ 8 + len = omega (arith, length-area_bytes text) in
    let eight : at + 8 - at ≡ 8 = omega arith in
    let rest : at + 8 + len - (at + 8) ≡ len = omega arith in
    ap (λ (n : ℕ). take n (drop at m)) whole ∙ take-add 8 len (drop at m)
    ∙ ap₂ (λ (x y : List ℕ). x ++ y)
    (ap (λ (n : ℕ). take n (drop at m)) (sym eight) ∙ stated ∙ ap (little_bytes 8) (sym size))
    (ap (take len) (drop-drop 8 at m) ∙ ap (λ (n : ℕ). take n (drop (at + 8) m)) (sym rest)
    ∙ sym there)

pub area_whole : (live : Option (List ℕ)) (text : List ℕ) (at len : ℕ)
    → IfSome live (λ m. slice_range m at (at + 8) ≡ little_bytes 8 len)
    → IfSome live (λ m. text ≡ slice_range m (at + 8) (at + 8 + len)) → length text ≡ len
    → IfSome live (λ m. slice_range m at (at + length (area_bytes text)) ≡ area_bytes text)
area_whole None text at len stated there size = tt
area_whole (Some m) text at len stated there size = area_joined m text at len stated there size

-- a text that was read has no fault to be shifted
pub shifted_ok : {V : Type 0} (at : ℕ) (read : Result V TextFault) (v : V) → read ≡ Ok v
    → shifted at read ≡ Ok v
shifted_ok at read v e = ap (shifted at) e

-- an error that a `?` passes on
pub passed_on : {X E : Type 0} (r : Result X E) (fault : E) (P : E → Type 0)
    → IsErrAnd r (λ e. e ≡ fault) → P fault → IfErr r P
passed_on (Ok x) fault P is h = tt
passed_on (Err e) fault P is h = subst P (sym is) h

module _ {V : Type 0} (read : Layout → List ℕ → Result V TextFault) where
  -- an image is read by its first block and the selected area's text
  image_by : (m : List ℕ) (l : Layout) (second : Bool) (at : ℕ) (text : List ℕ)
      → superblock_at (length m) (take 4096 m) ≡ Ok l → (slice_index m 4096 == 1) ≡ second
      → at ≡ area_start l second → text_at l m ≡ Ok text
      → read_by read m ≡ shifted (at + 8) (read l text)
  unfolding read_by
  image_by m l second at text block sel place found =
      ap (λ (r : Result Layout ImageFault). r >>= λ layout. text_at layout m
      >>= λ t. shifted (selected_at layout m + 8) (read layout t)) block
      ∙ ap (λ (r : Result (List ℕ) ImageFault). r
      >>= λ t. shifted (selected_at l m + 8) (read l t)) found
      ∙ ap (λ (s : ℕ). shifted (s + 8) (read l text)) (selected_is l m second sel ∙ sym place)

  -- the same, where the disk tells its bytes, and what is behind the first block was read later
  pub image_read : (old mid : Option (List ℕ)) (l : Layout) (second : Bool) (at : ℕ)
      (text seen : List ℕ) → mid ≡ old
      → IfSome old (λ m. superblock_at (length m) (take 4096 m) ≡ Ok l)
      → IfSome mid (λ m. (slice_index m 4096 == 1) ≡ second) → at ≡ area_start l second
      → IfSome mid (λ m. text_at l m ≡ Ok text) → seen ≡ text
      → IfSome old (λ m. read_by read m ≡ shifted (at + 8) (read l seen))
  image_read None mid l second at text seen same block sel place found as_seen = tt
  image_read (Some m) mid l second at text seen same block sel place found as_seen =
      image_by m l second at text block
      (moved mid (Some m) (λ m. (slice_index m 4096 == 1) ≡ second) same sel) place
      (moved mid (Some m) (λ m. text_at l m ≡ Ok text) same found)
      ∙ ap (λ (t : List ℕ). shifted (at + 8) (read l t)) (sym as_seen)

  -- the first block's fault is the image's
  first_fails : (fault : OpenFault) (m : List ℕ)
      → FailsReading fault (superblock_at (length m) (take 4096 m)) → FailsReading fault (read_by read m)
  unfolding read_by
  first_fails faults.Disk m h = tt
  first_fails faults.Memory m h = tt
  first_fails (faults.Image at k) m h = rw h refl
  first_fails (faults.Bad k file index) m h = absurd h

  pub block_fails : (live : Option (List ℕ)) (fault : OpenFault)
      → IfSome live (λ m. FailsReading fault (superblock_at (length m) (take 4096 m)))
      → IfSome live (λ m. FailsReading fault (read_by read m))
  block_fails live fault h = if_some live _ _ (λ m. first_fails fault m) h

  -- and so is that of the area
  second_fails : (fault : OpenFault) (m : List ℕ) (l : Layout)
      → superblock_at (length m) (take 4096 m) ≡ Ok l → FailsReading fault (text_at l m)
      → FailsReading fault (read_by read m)
  unfolding read_by
  second_fails faults.Disk m l block h = tt
  second_fails faults.Memory m l block h = tt
  second_fails (faults.Image at k) m l block h =
      ap (λ (r : Result Layout ImageFault). r >>= λ layout. text_at layout m
      >>= λ t. shifted (selected_at layout m + 8) (read layout t)) block
      ∙ ap (λ (r : Result (List ℕ) ImageFault). r
      >>= λ t. shifted (selected_at l m + 8) (read l t)) h
  second_fails (faults.Bad k file index) m l block h = absurd h

  pub area_fails : (old mid : Option (List ℕ)) (fault : OpenFault) (l : Layout) → mid ≡ old
      → IfSome old (λ m. superblock_at (length m) (take 4096 m) ≡ Ok l)
      → IfSome mid (λ m. FailsReading fault (text_at l m))
      → IfSome old (λ m. FailsReading fault (read_by read m))
  area_fails None mid fault l same block h = tt
  area_fails (Some m) mid fault l same block h =
      second_fails fault m l block (moved mid (Some m) (λ m. FailsReading fault (text_at l m)) same h)

  -- a fault of reading the text
  pub text_fails : (live : Option (List ℕ)) (fault : OpenFault) (by : Result V ImageFault)
      → IfSome live (λ m. read_by read m ≡ by) → FailsReading fault by
      → IfSome live (λ m. FailsReading fault (read_by read m))
  text_fails live fault by same h =
      if_some live _ _ (λ m e. subst (FailsReading fault) (sym e) h) same
