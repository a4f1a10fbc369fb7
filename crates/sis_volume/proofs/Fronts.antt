-- Images that hold the same text, and images whose files are the same.
use Rattle.std.proofs.Common.{◌≡◌, ℕ, ◌+◌, ◌*◌, ◌<◌, ◌≤◌, Bool, true, false, List, length, take, drop, slice_index, sym, ap, ◌∙◌, arith}
use Rattle.std.specs.Prelude.{slice_range, ◌==◌, Ok}
use Rattle.std.proofs.lemmas.List.{take-take, get_or-take}
use Rattle.std.proofs.lemmas.Slice.{between_is}
use Rattle.sis_disk.specs.declared.layout.Layout.{Layout}
use Rattle.sis_disk.specs.Areas.{area_bytes, area_start, selected_at}
use Rattle.sis_disk.specs.Layout.{IsLayout, first_place, table_cap}
use Rattle.sis_disk.specs.Record.{IsImage, State, is_loose}
use Rattle.sis_disk.specs.Stops.{IsFirm}
use Rattle.sis_disk.proofs.Areas.{area_end, length-area_bytes}
use Rattle.sis_journal.specs.Texts.{HoldsText, KeepsData}
use Rattle.sis_journal.proofs.HeldTexts.{read_by-held}
use Rattle.sis_table.specs.Content.{files_of}
use Rattle.sis_name.specs.Files.{Files}
use Rattle.sis_table.specs.Good.{IsGood}
use Rattle.sis_table.specs.Image.{Holds, image_at}
use Rattle.sis_table.specs.Opens.{OpensAs}
use Rattle.sis_table.specs.Reading.{table_at}
use Rattle.sis_table.specs.Spelling.{spelling}
use Rattle.sis_table.specs.Volume.{VolumeTable, IsTable, is_used}
use Rattle.sis_table.proofs.CallerLemmas.{files_of-same}
use Rattle.sis_table.proofs.CallerLemmas.{is_used-between}
use Rattle.sis_table.proofs.ReadingLaws.{table_at-only}
use Rattle.sis_volume.specs.Invariant.{KeepsTable}
use Rattle.sis_volume.proofs.Slices.{slice_same, take_same}

pub slice_kept : (old new : List ℕ) (n a b : ℕ) → take n new ≡ take n old → b ≤ n → slice_range new a b ≡ slice_range old a b
slice_kept old new n a b e le =
    between_is new a b ∙ ap (drop a) (sym (take-take b n new le) ∙ ap (take b) e ∙ take-take b n old le) ∙ sym (between_is old a b)

pub index_kept : (old new : List ℕ) (n i : ℕ) → take n new ≡ take n old → i < n → slice_index new i ≡ slice_index old i
index_kept old new n i e lt = sym (get_or-take n new i 0 lt) ∙ ap (λ (xs : List ℕ). slice_index xs i) e ∙ get_or-take n old i 0 lt

-- an area ends before the data blocks
text_within : (l : Layout) (text : List ℕ) (second : Bool) → IsLayout l → length text ≤ table_cap l → area_start l second + length (area_bytes text) ≤ 4096 * first_place l
text_within l text second layout fits =
    let low = layout.area_low in
    let len = length-area_bytes text in
    area_end l second (length (area_bytes text)) (omega arith)

-- an image holds a text where the bytes before the data blocks are those of one that does
pub text-front : (l : Layout) (text old new : List ℕ) → IsLayout l → length new ≡ length old → take (4096 * first_place l) new ≡ take (4096 * first_place l) old
    → HoldsText l text old → HoldsText l text new
text-front l text old new layout size e h =
    let n = 4096 * first_place l in
    let less : 4096 ≤ n = omega arith in
    let at : selected_at l new ≡ selected_at l old = ap (λ (b : ℕ). area_start l (b == 1)) (index_kept old new n 4096 e (omega arith)) in
    record {
      size = size ∙ h.size;
      superblock = sym (take-take 4096 n new less) ∙ ap (take 4096) e ∙ take-take 4096 n old less ∙ h.superblock;
      fits = h.fits;
      area = ap (λ (k : ℕ). slice_range new k (k + length (area_bytes text))) at
          ∙ slice_kept old new n (selected_at l old) (selected_at l old + length (area_bytes text)) e (text_within l text (slice_index old 4096 == 1) layout h.fits)
          ∙ h.area;
    }

-- the front of an image, where nothing of it is loose
pub front-image : (l : Layout) (s : State) (m : List ℕ) → IsFirm s.loose 0 (4096 * first_place l) → 4096 * first_place l ≤ length s.live → length m ≡ length s.live
    → ((i : ℕ) → i < 4096 * first_place l → is_loose s.loose i ≡ false → slice_index m i ≡ slice_index s.live i)
    → take (4096 * first_place l) m ≡ take (4096 * first_place l) s.live
front-image l s m firm within size same = take_same s.live m (4096 * first_place l) size within (λ i lt. same i lt (firm i (omega arith) (omega arith)))

-- the files are the same where the data blocks that the table maps are
pub files-data : (v : VolumeTable) (s : State) (m : List ℕ) → IsTable v → length s.live ≡ 4096 * v.layout.total → ((place : ℕ) → is_used v place ≡ true → IsFirm s.loose (4096 * place) 4096)
    → KeepsData v.layout s m → files_of v m ≡ files_of v s.live
files-data v s m table size firm keeps = files_of-same v s.live m (λ place used.
    let between = is_used-between v place table used in
    let low = between.0 in
    let high = between.1 in
    let same_size = keeps.size in
    slice_same s.live m (4096 * place) (4096 * place + 4096) same_size (omega arith) (λ i ge lt. keeps.same i (omega arith) (omega arith) (firm place used i ge lt)))

-- a table that an image has the text of is the one that it is read as
pub text-read : (v : VolumeTable) (m : List ℕ) → IsTable v → v.layout.log ≡ 0 → HoldsText v.layout (spelling v) m → image_at m ≡ Ok v
text-read v m table log h = read_by-held table_at v.layout (spelling v) m v table.layout log h (table_at-only v table)

pub text-holds : (v : VolumeTable) (m : List ℕ) → IsTable v → HoldsText v.layout (spelling v) m → Holds m v
text-holds v m table h = record { table = table; size = h.size; superblock = h.superblock; fits = h.fits; area = h.area }

-- and stands for the files that it maps
pub text-opens : (v : VolumeTable) (m : List ℕ) (files : Files) → IsTable v → v.layout.log ≡ 0 → IsGood v → HoldsText v.layout (spelling v) m → files ≡ files_of v m → OpensAs files m
text-opens v m files table log good h stands = record { table = v; read = text-read v m table log h; good = good; stands = stands }

within_image : (v : VolumeTable) (s : State) → IsTable v → length s.live ≡ 4096 * v.layout.total → 4096 * first_place v.layout ≤ length s.live
within_image v s table size = let data_ = table.layout.has_data in omega arith

-- each image of a state that keeps a table holds its text
pub kept-text : (second : Bool) (c : VolumeTable) (s : State) (m : List ℕ) → IsTable c → KeepsTable second c s → IsImage s m → HoldsText c.layout (spelling c) m
kept-text second c s m table keeps image =
    let size = keeps.text.holds.size in
    let within = within_image c s table size in
    text-front c.layout (spelling c) s.live m table.layout image.size
    (front-image c.layout s m keeps.text.firm within image.size (λ i lt firm. image.same i (let len = image.size in omega arith) firm)) keeps.text.holds

-- and opens as its files
pub kept-opens : (second : Bool) (c : VolumeTable) (s : State) (m : List ℕ) → IsTable c → c.layout.log ≡ 0 → IsGood c → KeepsTable second c s → IsImage s m → OpensAs (files_of c s.live) m
kept-opens second c s m table log good keeps image =
    text-opens c m (files_of c s.live) table log good (kept-text second c s m table keeps image)
    (sym (files-data c s m table keeps.text.holds.size keeps.firm (record { size = image.size; same = λ i ge lt firm. image.same i lt firm })))
