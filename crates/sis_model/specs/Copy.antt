-- What the control that copies a file asks for. A request has the paths of two files and flags.
use Rattle.std.specs.Prelude.{ℕ, ◌+◌, ◌/◌, ◌%◌, ◌==◌, ◌&&◌, ◌||◌, nat_lt, nat_eq, Bool, not, if◌then◌else◌, List, drop, length, slice_index, codes, is_some, Option, Some, None, Result, Ok, Err}
use Rattle.std.specs.List.{starts_with}
use Rattle.sis_name.specs.Name.{name_fault}
use Rattle.sis_name.specs.Units.{is_store_name}
use Rattle.sis_request.specs.Request.{Request, request_at}
use Rattle.sis_request.specs.declared.fault.RequestFault.{RequestFault}
use Rattle.sis_name.specs.Files.{same_name}
use Rattle.sis_model.specs.World.{World, bytes_of, content, with_file, is_open, is_written}
use Rattle.sis_model.specs.declared.reply.Reply.{Reply}
use Rattle.sis_model.specs.declared.reply.Reply.TheVariants as reply

-- the control's code, FSCTL_SIS_COPYFILE
abbrev pub copy_code : ℕ
copy_code = 0x00090100

-- COPYFILE_SIS_LINK: only a source that is a link already is copied
abbrev pub only_links : ℕ → Bool
only_links flags = flags % 2 == 1

-- COPYFILE_SIS_REPLACE: the destination may exist
abbrev pub may_replace : ℕ → Bool
may_replace flags = (flags / 2) % 2 == 1

-- the letter in either case, a colon and a backslash
abbrev pub is_root : ℕ → List ℕ → Bool
is_root letter units =
    nat_lt 2 (length units) && (slice_index units 0 == letter || slice_index units 0 == letter + 32)
    && slice_index units 1 == 58 && slice_index units 2 == 92

-- what stands behind `X:\` or `\??\X:\`, X being the volume's letter
abbrev pub path_in : ℕ → List ℕ → Option (List ℕ)
path_in letter units =
    if is_root letter units then Some (drop 3 units)
    else if starts_with nat_eq units (codes "\\??\\") && is_root letter (drop 4 units)
    then Some (drop 7 units)
    else None

-- the first of some tests that holds gives the refusal
abbrev pub or_refused : Bool → Reply → Option Reply → Option Reply
or_refused test refusal next = if test then Some refusal else next

-- the first refusal of a copy of a file under another name
abbrev pub refusal_of_files : World → List ℕ → List ℕ → ℕ → Option Reply
refusal_of_files w source destination flags =
    or_refused (is_store_name source || is_store_name destination) reply.AccessDenied
    (or_refused (same_name source destination) reply.InvalidParameter
    (or_refused (not (is_some (bytes_of w source))) reply.NotFound
    (or_refused (is_some (bytes_of w destination) && not (may_replace flags)) reply.Collision
    (or_refused (is_written w source) reply.InUse
    (or_refused (is_open w destination) reply.InUse None)))))

-- the first refusal of a copy between two paths of this volume
abbrev pub refusal_of_names : World → List ℕ → List ℕ → ℕ → Option Reply
refusal_of_names w source destination flags =
    or_refused (is_some (name_fault source)) reply.NotFound
    (or_refused (is_some (name_fault destination)) reply.NameInvalid
    (refusal_of_files w source destination flags))

-- the same, where both paths have to be on this volume
abbrev pub refusal_of_paths : World → Option (List ℕ) → Option (List ℕ) → ℕ → Option Reply
refusal_of_paths w None destination flags = Some reply.NotSameDevice
refusal_of_paths w (Some source) None flags = Some reply.NotSameDevice
refusal_of_paths w (Some source) (Some destination) flags =
    refusal_of_names w source destination flags

-- the first refusal of what a request asks for, or of the request
abbrev pub refusal_of_request : World → Result Request RequestFault → Option Reply
refusal_of_request w (Err fault) = Some (reply.InvalidRequest fault)
refusal_of_request w (Ok r) =
    refusal_of_paths w (path_in w.letter r.source) (path_in w.letter r.destination) r.flags

-- the first refusal of a control
abbrev pub refusal_of_control : World → ℕ → List ℕ → Option Reply
refusal_of_control w code bytes =
    or_refused (not (code == copy_code)) reply.InvalidDeviceRequest
    (refusal_of_request w (request_at bytes))

-- what stands in a request behind the volume's letter, and its flags
pub record Asked : Type 0 where
  pub source : List ℕ
  pub destination : List ℕ
  pub flags : ℕ

abbrev pub asked_paths : Option (List ℕ) → Option (List ℕ) → ℕ → Option Asked
asked_paths None destination flags = None
asked_paths (Some source) None flags = None
asked_paths (Some source) (Some destination) flags =
    Some (record { source = source; destination = destination; flags = flags })

abbrev pub asked_in : ℕ → Result Request RequestFault → Option Asked
asked_in letter (Err fault) = None
asked_in letter (Ok r) = asked_paths (path_in letter r.source) (path_in letter r.destination) r.flags

-- the destination has the source's bytes
abbrev pub copied_paths : World → Option (List ℕ) → Option (List ℕ) → World
copied_paths w (Some source) (Some destination) = with_file w destination (content w source)
copied_paths w _ _ = w

abbrev pub copied : World → Result Request RequestFault → World
copied w (Err fault) = w
copied w (Ok r) = copied_paths w (path_in w.letter r.source) (path_in w.letter r.destination)
