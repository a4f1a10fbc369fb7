use Rattle.std.proofs.Common.{◌≡◌, ◌*◌, ◌∙◌, ◌++◌, ◌-◌, ℕ, List, length, replicate, take, ap, ap₂, arith}
use Rattle.std.specs.Vec.{vec_len}
use Rattle.sis_model.specs.World.{resized}
use Rattle.sis_table.specs.Volume.{blocks_of}
use Rattle.sis_copyclose.proofs.ReadParts.{resized_vec}
use Rattle.sis_copyclose.proofs.putting.whole_blocks.Goals as goal

pub returns : goal.returns
returns c =
    let bytes = c.args.bytes.now in
    let size = c.next_multiple_of-size.result in
    let there : c.extend_from_slice.new.self.items ≡ bytes = c.in_ok-extend_from_slice.ensures.items ∙ ap (λ (xs : List ℕ). xs ++ bytes) c.in_ok-blocks.ensures.items in
    let len : vec_len c.extend_from_slice.new.self ≡ length bytes = omega (arith, c.in_ok-extend_from_slice.ensures.len, c.in_ok-blocks.ensures.len) in
    let whole : size ≡ 4096 * blocks_of (length bytes) =
    omega (arith, c.next_multiple_of-size.ensures.lower_bound, c.next_multiple_of-size.ensures.upper_bound, c.next_multiple_of-size.ensures.multiple) in
    c.in_ok-resize.ensures.items
    ∙ ap₂ (λ (xs : List ℕ) (k : ℕ). take size xs ++ replicate (size - k) 0) there len
    ∙ resized_vec bytes size c.next_multiple_of-size.ensures.lower_bound
    ∙ ap (λ (n : ℕ). resized n bytes) whole
