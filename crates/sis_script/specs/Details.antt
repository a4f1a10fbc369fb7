-- What stands behind the status of a printed line.
use Rattle.std.specs.Prelude.{ℕ, Bool, true, false, List, [], ◌∷◌, ◌++◌, flat_map, codes}
use Rattle.std.specs.Fmt.{decimal}
use Rattle.hex.specs.Hex.{encode_lower}
use Rattle.uuid.specs.Parts.{swap_fields}
use Rattle.uuid.specs.Text.{hyphenated_text, lower}
use Rattle.sis_name.specs.Units.{name_text}
use Rattle.sis_request.specs.declared.fault.Field.{Field}
use Rattle.sis_request.specs.declared.fault.Field.TheVariants as field
use Rattle.sis_request.specs.declared.fault.RequestFault.{RequestFault}
use Rattle.sis_request.specs.declared.fault.RequestFault.TheVariants as fault
use Rattle.sis_model.specs.declared.reply.Fate.{Fate}
use Rattle.sis_model.specs.declared.reply.Fate.TheVariants as fate
use Rattle.sis_model.specs.declared.reply.GrovelReport.{GrovelReport}
use Rattle.sis_model.specs.declared.reply.Hindrance.{Hindrance}
use Rattle.sis_model.specs.declared.reply.Hindrance.TheVariants as hindrance
use Rattle.sis_model.specs.declared.reply.Kind.{Kind}
use Rattle.sis_model.specs.declared.reply.Kind.TheVariants as kind
use Rattle.sis_model.specs.declared.reply.LimitKind.{LimitKind}
use Rattle.sis_model.specs.declared.reply.LimitKind.TheVariants as limit
use Rattle.sis_model.specs.declared.reply.Reply.{Reply}
use Rattle.sis_model.specs.declared.reply.Reply.TheVariants as reply
use Rattle.sis_model.specs.declared.unsettled.UnsettledFile.{UnsettledFile}

-- a word after a space
abbrev pub word : List ℕ → List ℕ
word w = 32 ∷ w

-- a number after a space
abbrev pub number : ℕ → List ℕ
number n = word (decimal n)

-- a name between quotation marks, after a space
abbrev pub quoted : List ℕ → List ℕ
quoted name = word (34 ∷ name_text name ++ 34 ∷ [])

-- bytes as two hex digits each in lower case, or a dash for none
abbrev pub hex_text : List ℕ → List ℕ
hex_text [] = codes "-"
hex_text (b ∷ bytes) = encode_lower (b ∷ bytes)

-- a GUID in the hyphenated form, lower case: its first three fields are little-endian
abbrev pub guid_text : List ℕ → List ℕ
guid_text guid = hyphenated_text lower (swap_fields guid)

-- what there is too much of
abbrev pub limit_text : LimitKind → List ℕ
limit_text limit.Opens = codes "opens"
limit_text limit.Files = codes "files"
limit_text limit.Ids = codes "ids"
limit_text limit.Indexes = codes "indexes"
limit_text limit.Versions = codes "versions"

-- a hindrance
abbrev pub hindrance_text : Hindrance → List ℕ
hindrance_text (hindrance.Limit kind) = word (codes "limit") ++ word (limit_text kind)
hindrance_text (hindrance.Full needed used total) =
    word (codes "full") ++ number needed ++ number used ++ number total
hindrance_text (hindrance.TableFull needed cap) =
    word (codes "table") ++ number needed ++ number cap
hindrance_text hindrance.Disk = word (codes "disk")
hindrance_text (hindrance.Down at) = word (codes "down") ++ number at
hindrance_text hindrance.Memory = word (codes "memory")

-- what a close left of its file
abbrev pub fate_text : Fate → List ℕ
fate_text fate.Read = word (codes "read")
fate_text fate.Writer = word (codes "writer")
fate_text fate.Plain = word (codes "plain")
fate_text fate.Link = word (codes "link")
fate_text fate.Settled = word (codes "settled")
fate_text (fate.Unsettled left cause) =
    word (codes "unsettled") ++ number left ++ hindrance_text cause

-- names, and whether more follow
abbrev pub names_text : List (List ℕ) → Bool → List ℕ
names_text names true = flat_map quoted names ++ word (codes "more")
names_text names false = flat_map quoted names

-- how a file is kept
abbrev pub kind_text : Kind → List ℕ
kind_text kind.Plain = word (codes "plain")
kind_text (kind.Link guid) = word (codes "link") ++ word (guid_text guid)
kind_text (kind.Dirty guid left) = word (codes "dirty") ++ word (guid_text guid) ++ number left

-- what a grovel did
abbrev pub report_text : GrovelReport → List ℕ
report_text r =
    number r.seen ++ number r.merged ++ number r.skipped ++ number r.refused ++ number r.faulted

-- a file that an end left unsettled
unfoldable pub unsettled_text : UnsettledFile → List ℕ
unsettled_text f =
    word (codes "unsettled") ++ quoted f.name ++ number f.left ++ hindrance_text f.cause

-- one of the two names of a request
abbrev pub field_text : Field → List ℕ
field_text field.Source = codes "source"
field_text field.Destination = codes "destination"

-- what is wrong with a request, behind the word `request`
abbrev pub fault_text : RequestFault → List ℕ
fault_text (fault.Short have need) = word (codes "short") ++ number have ++ number need
fault_text (fault.OddLength f) = word (codes "odd") ++ word (field_text f)
fault_text (fault.LengthRange f value) = word (codes "range") ++ word (field_text f) ++ number value
fault_text (fault.NoNull f) = word (codes "nonull") ++ word (field_text f)
fault_text (fault.EarlyNull f at) = word (codes "early") ++ word (field_text f) ++ number at

-- the details of a reply, each after one space
abbrev pub details : Reply → List ℕ
details reply.Done = []
details (reply.Opened open_number) = number open_number
details (reply.Read bytes) = word (hex_text bytes)
details (reply.Closed left) = fate_text left
details (reply.Sized size) = number size
details (reply.Names names more) = names_text names more
details (reply.Told how) = kind_text how
details (reply.Space used total) = number used ++ number total
details (reply.Groveled report) = report_text report
details (reply.Ended closed unsettled) = number closed ++ flat_map unsettled_text unsettled
details reply.InvalidOpen = []
details reply.InvalidParameter = []
details (reply.InvalidRequest wrong) = word (codes "request") ++ fault_text wrong
details reply.InvalidDeviceRequest = []
details reply.AccessDenied = []
details reply.NotShared = []
details reply.NameInvalid = []
details reply.NotFound = []
details reply.Collision = []
details reply.InUse = []
details reply.NotSameDevice = []
details (reply.Unsettled left) = word (codes "unsettled") ++ number left
details (reply.Hindered by) = hindrance_text by
