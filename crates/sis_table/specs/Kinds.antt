-- The kinds of files, how they are spelled, and which names they may have.
use Rattle.std.specs.Prelude.{ℕ, zero, suc, Bool, true, not, List, Option, Some, None}
use Rattle.sis_name.specs.Units.{is_store_name}
use Rattle.sis_table.specs.declared.node.Node.{Node}
use Rattle.sis_table.specs.declared.kind.NodeKind.{NodeKind}
use Rattle.sis_table.specs.declared.kind.NodeKind.TheVariants.{Plain}

-- the byte that spells a kind, and the kind that a byte spells
abbrev pub kind_byte : NodeKind → ℕ
kind_byte Plain = 0

abbrev pub kind_of : ℕ → Option NodeKind
kind_of zero = Some Plain
kind_of (suc n) = None

-- a file whose blocks are its own alone
abbrev pub is_plain : NodeKind → Bool
is_plain Plain = true

-- a file that users see
abbrev pub is_user : NodeKind → Bool
is_user Plain = true

-- a name that a file of this kind may have: a user's file has none of the common store
abbrev pub is_fit : NodeKind → List ℕ → Bool
is_fit Plain name = not (is_store_name name)

abbrev pub plain_node : Node → Bool
plain_node n = is_plain n.kind

abbrev pub user_node : Node → Bool
user_node n = is_user n.kind
