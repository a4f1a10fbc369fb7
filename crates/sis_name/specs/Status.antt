-- The numbers that Windows gives to statuses.
use Rattle.std.specs.Prelude.{ℕ}
use Rattle.sis_name.specs.declared.status.Status.{Status}
use Rattle.sis_name.specs.declared.status.Status.TheVariants.{Success, InvalidHandle, InvalidParameter, InvalidDeviceRequest, AccessDenied, ObjectTypeMismatch, ObjectNameInvalid, ObjectNameNotFound, ObjectNameCollision, SharingViolation, DiskFull, InsufficientResources, NotSameDevice, IoDeviceError}

-- the NTSTATUS value of a status
abbrev pub status_number : Status → ℕ
status_number Success = 0x00000000
status_number InvalidHandle = 0xC0000008
status_number InvalidParameter = 0xC000000D
status_number InvalidDeviceRequest = 0xC0000010
status_number AccessDenied = 0xC0000022
status_number ObjectTypeMismatch = 0xC0000024
status_number ObjectNameInvalid = 0xC0000033
status_number ObjectNameNotFound = 0xC0000034
status_number ObjectNameCollision = 0xC0000035
status_number SharingViolation = 0xC0000043
status_number DiskFull = 0xC000007F
status_number InsufficientResources = 0xC000009A
status_number NotSameDevice = 0xC00000D4
status_number IoDeviceError = 0xC0000185
