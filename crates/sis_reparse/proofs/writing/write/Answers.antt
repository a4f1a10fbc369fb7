use Rattle.std.proofs.Common.{◌≡◌, ◌∙◌, ◌++◌, [], List, ℕ, length, length-append, replicate, refl, sym, arith}
use Rattle.std.proofs.lemmas.List.{append-nil}
use Rattle.byteorder.specs.Endian.{little_bytes}
use Rattle.sis_reparse.proofs.Filling.{put_behind}
use Rattle.sis_reparse.proofs.Spelled.{head_text, point_text-is}
use Rattle.sis_reparse.proofs.writing.write.Goals as goal

pub returns-clause-value : goal.returns-clause-value
returns-clause-value c =
    let p = c.args.point.now in
    let zeros : ℕ → List ℕ = λ n. replicate n 0 in
    let to_length : List ℕ = little_bytes 4 0x80000007 ++ little_bytes 2 56 in
    let to_guid : List ℕ = head_text ++ p.guid in
    let to_index : List ℕ = to_guid ++ little_bytes 8 p.index in
    let to_file : List ℕ = to_index ++ little_bytes 8 p.file in
    let to_store : List ℕ = to_file ++ little_bytes 8 p.store in
    let guid_len : length p.guid ≡ 16 = omega arith in
    let signature_len : length p.signature ≡ 8 = omega arith in
    let index_len : length to_index ≡ 40 = omega (arith, length-append to_guid (little_bytes 8 p.index)) in
    let file_len : length to_file ≡ 48 = omega (arith, length-append to_index (little_bytes 8 p.file)) in
    let store_len : length to_store ≡ 56 = omega (arith, length-append to_file (little_bytes 8 p.store)) in
    let tag = c.put_u32.ensures in
    let data_len = c.put_u16.ensures ∙ put_behind 4 2 (little_bytes 4 0x80000007) (zeros 2) (little_bytes 2 56) (zeros 58) c.put_u32.new.buffer tag refl refl in
    let version = c.put_u32-2.ensures ∙ put_behind 8 4 (to_length ++ zeros 2) (zeros 4) (little_bytes 4 1) (zeros 52) c.put_u16.new.buffer data_len refl refl in
    let guid = c.put.ensures.buffer ∙ put_behind 16 (length p.guid) head_text (zeros 16) p.guid (zeros 32) c.put_u32-2.new.buffer version refl (sym guid_len) in
    let index = c.put_u64.ensures.buffer ∙ put_behind 32 8 to_guid (zeros 8) (little_bytes 8 p.index) (zeros 24) c.put.new.buffer guid (omega arith) refl in
    let file = c.put_u64-2.ensures.buffer ∙ put_behind 40 8 to_index (zeros 8) (little_bytes 8 p.file) (zeros 16) c.put_u64.new.buffer index index_len refl in
    let store = c.put_u64-3.ensures.buffer ∙ put_behind 48 8 to_file (zeros 8) (little_bytes 8 p.store) (zeros 8) c.put_u64-2.new.buffer file file_len refl in
    let signature = c.put-2.ensures.buffer ∙ put_behind 56 (length p.signature) to_store (zeros 8) p.signature [] c.put_u64-3.new.buffer store store_len (sym signature_len) in
    signature ∙ append-nil (to_store ++ p.signature) ∙ sym (point_text-is p)
