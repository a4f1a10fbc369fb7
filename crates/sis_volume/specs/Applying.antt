-- Why edits may be hindered, and whether there are some.
use Rattle.std.specs.Prelude.{◌≡◌, ℕ, ◌<◌, Bool, true, false, List, [], ◌∷◌, ⊤}
use Rattle.sis_table.specs.declared.edit.Edit.{Edit}
use Rattle.sis_model.specs.declared.reply.Hindrance.{Hindrance}
use Rattle.sis_model.specs.declared.reply.Hindrance.TheVariants as hindrance

-- why edits may be hindered: want of memory, or a table of this length above the greatest length
abbrev pub HindersApplying : ℕ → ℕ → Hindrance → Type 0
HindersApplying len cap hindrance.Memory = ⊤
HindersApplying len cap (hindrance.TableFull needed most) =
    (needed ≡ len) × (most ≡ cap) × (cap < len)
HindersApplying len cap (hindrance.Limit kind) = ⊥
HindersApplying len cap (hindrance.Full needed used total) = ⊥
HindersApplying len cap hindrance.Disk = ⊥
HindersApplying len cap (hindrance.Down at) = ⊥

-- there is an edit
abbrev pub is_edit : List Edit → Bool
is_edit [] = false
is_edit (e ∷ es) = true
