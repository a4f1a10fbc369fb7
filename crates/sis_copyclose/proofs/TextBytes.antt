-- The bytes of the texts of a change.
use Rattle.std.proofs.Common.{◌≡◌, ℕ, ◌+◌, ◌-◌, ◌*◌, ◌/◌, ◌%◌, List, [], ◌++◌, length, drop, Option, None, Some, ap, ap₂, ◌∙◌, subst, arith}
use Rattle.std.specs.Prelude.{IfSome}
use Rattle.sis_disk.specs.Record.{live_of}
use Rattle.sis_journal.specs.Committing.{Both}
use Rattle.sis_model.specs.World.{resized}
use Rattle.sis_model.specs.declared.range.ByteRange.{ByteRange}
use Rattle.sis_table.specs.Content.{content_of}
use Rattle.sis_table.specs.Edits.{IfThere}
use Rattle.sis_table.specs.Volume.{VolumeTable, blocks_of, node_with}
use Rattle.sis_volume.specs.View.{VolumeView}
use Rattle.sis_copyclose.specs.Inside.{AddsOld, AreTexts, Works, before_text, behind_text}
use Rattle.sis_copyclose.specs.Operating.{KeepsPlaces}
use Rattle.sis_copyclose.specs.declared.plan.Plan.{Plan}
use Rattle.sis_copyclose.proofs.FileBytes.{content_kept, there_has, there_map}

module _ (v : VolumeTable) (file at : ℕ) (more empty one two three : List ℕ) (first second : ByteRange)
    (none : empty ≡ []) (joined : two ≡ one ++ more) (start : first.at ≡ 4096 * (at / 4096))
    (len : first.len ≡ at % 4096) (begins : second.at ≡ at + length more)
    (rest : second.len ≡ 4096 * blocks_of (at + length more) - (at + length more)) where
  around : (o p : Option (List ℕ)) → Both (KeepsPlaces v) o p
      → IfThere (node_with v file) (λ n. AddsOld v n first o empty one)
      → IfThere (node_with v file) (λ n. AddsOld v n second p two three)
      → IfSome o (λ live. IfThere (node_with v file) (λ n. three
      ≡ before_text at (content_of v live n) ++ more ++ behind_text (at + length more) (content_of v live n)))
  around None p keeps a b = tt
  around (Some l) None keeps a b = absurd keeps
  around (Some l) (Some m) keeps a b =
      there_map (node_with v file) _ _ (λ n is h.
      let k = there_has (node_with v file) n (λ x. AddsOld v x second (Some m) two three) is b in
      let before : h.bytes ≡ before_text at (content_of v l n) =
      h.told ∙ ap₂ (λ (i j : ℕ). resized i (drop j (content_of v l n))) len start in
      let behind : k.bytes ≡ behind_text (at + length more) (content_of v l n) =
      k.told ∙ ap₂ (λ (i j : ℕ). resized i (drop j (content_of v m n))) rest begins
      ∙ ap (behind_text (at + length more)) (content_kept v file n is l m keeps) in
      k.added
      ∙ ap (λ (xs : List ℕ). xs ++ k.bytes) (joined ∙ ap (λ (xs : List ℕ). xs ++ more) (h.added ∙ ap (λ (xs : List ℕ). xs ++ h.bytes) none))
      ∙ ap₂ (λ (xs ys : List ℕ). xs ++ more ++ ys) before behind) a

  pub around_told : (old mid : VolumeView) → old.table ≡ v → mid.table ≡ old.table
      → Both (KeepsPlaces old.table) (live_of old.seen) (live_of mid.seen)
      → IfThere (node_with v file) (λ n. AddsOld v n first (live_of old.seen) empty one)
      → IfThere (node_with mid.table file) (λ n. AddsOld mid.table n second (live_of mid.seen) two three)
      → IfSome (live_of old.seen) (λ live. IfThere (node_with v file) (λ n. three
      ≡ before_text at (content_of v live n) ++ more ++ behind_text (at + length more) (content_of v live n)))
  around_told old mid same table keeps a b =
      around (live_of old.seen) (live_of mid.seen)
      (subst (λ (w : VolumeTable). Both (KeepsPlaces w) (live_of old.seen) (live_of mid.seen)) same keeps) a
      (subst (λ (w : VolumeTable). IfThere (node_with w file) (λ n. AddsOld w n second (live_of mid.seen) two three)) (table ∙ same) b)

module _ (v : VolumeTable) (file at : ℕ) (more end touched : List ℕ) (plan : Plan)
    (end_size : length end ≡ 4096 * plan.ends)
    (touched_size : length touched ≡ 4096 * blocks_of (at + length more) - 4096 * (at / 4096))
    (count : plan.count ≡ blocks_of (at + length more) - at / 4096) where
  both_texts : (o p : Option (List ℕ)) → Both (KeepsPlaces v) o p
      → IfThere (node_with v file) (λ n. plan.old_size ≡ n.size)
      → IfSome o (λ live. IfThere (node_with v file) (λ n. end
      ≡ resized (4096 * plan.ends) (drop (4096 * (plan.old_size / 4096)) (content_of v live n))))
      → IfSome p (λ live. IfThere (node_with v file) (λ n. touched
      ≡ before_text at (content_of v live n) ++ more ++ behind_text (at + length more) (content_of v live n)))
      → IfThere (node_with v file) (λ n. AreTexts v n plan at more o end touched)
  both_texts None p keeps sizes a b =
      there_map (node_with v file) _ _ (λ n is h. record {
        end_size = end_size;
        touched_size = omega (arith, touched_size, count);
        end_told = tt;
        touched_told = tt;
      }) sizes
  both_texts (Some l) None keeps sizes a b = absurd keeps
  both_texts (Some l) (Some m) keeps sizes a b =
      there_map (node_with v file) _ _ (λ n is h. record {
        end_size = end_size;
        touched_size = omega (arith, touched_size, count);
        end_told =
            there_has (node_with v file) n (λ x. end ≡ resized (4096 * plan.ends) (drop (4096 * (plan.old_size / 4096)) (content_of v l x))) is a
            ∙ ap (λ (k : ℕ). resized (4096 * plan.ends) (drop (4096 * (k / 4096)) (content_of v l n))) h;
        touched_told =
            there_has (node_with v file) n (λ x. touched ≡ before_text at (content_of v m x) ++ more ++ behind_text (at + length more) (content_of v m x)) is b
            ∙ ap (λ (xs : List ℕ). before_text at xs ++ more ++ behind_text (at + length more) xs) (content_kept v file n is l m keeps);
      }) sizes

  pub texts_told : (old mid : VolumeView) → old.table ≡ v → Works plan.ends old mid
      → IfThere (node_with v file) (λ n. plan.old_size ≡ n.size)
      → IfSome (live_of old.seen) (λ live. IfThere (node_with v file) (λ n. end
      ≡ resized (4096 * plan.ends) (drop (4096 * (plan.old_size / 4096)) (content_of v live n))))
      → IfSome (live_of mid.seen) (λ live. IfThere (node_with mid.table file) (λ n. touched
      ≡ before_text at (content_of mid.table live n) ++ more ++ behind_text (at + length more) (content_of mid.table live n)))
      → IfThere (node_with v file) (λ n. AreTexts v n plan at more (live_of old.seen) end touched)
  texts_told old mid same works sizes a b =
      both_texts (live_of old.seen) (live_of mid.seen)
      (subst (λ (w : VolumeTable). Both (KeepsPlaces w) (live_of old.seen) (live_of mid.seen)) same works.places) sizes a
      (subst (λ (w : VolumeTable). IfSome (live_of mid.seen) (λ live. IfThere (node_with w file) (λ n. touched
      ≡ before_text at (content_of w live n) ++ more ++ behind_text (at + length more) (content_of w live n))))
      (ap (λ (x : VolumeView). x.table) works.same ∙ same) b)
