-- Statuses (UEFI 2.8, appendix D).
use Rattle.std.specs.Prelude.{ℕ, ◌^◌, Bool, nat_eq, nat_le, List, [], ◌∷◌, Option, codes}
use Rattle.std.specs.Map.{lookup}
use Rattle.fw_types.specs.declared.status.Status.{Status}
use Rattle.fw_types.specs.declared.status.TheConstants.Status.{SUCCESS, LOAD_ERROR, INVALID_PARAMETER, UNSUPPORTED, BAD_BUFFER_SIZE, BUFFER_TOO_SMALL, NOT_READY, DEVICE_ERROR, OUT_OF_RESOURCES, NOT_FOUND, ACCESS_DENIED, ALREADY_STARTED, ABORTED}

-- whether a status is an error: bit 63 is set
abbrev pub is_error : Status → Bool
is_error status = nat_le (2 ^ 63) status.0

-- the statuses that have a name
abbrev pub names : List (ℕ × List ℕ)
names =
    (SUCCESS.0, codes "SUCCESS")
    ∷ (LOAD_ERROR.0, codes "LOAD_ERROR")
    ∷ (INVALID_PARAMETER.0, codes "INVALID_PARAMETER")
    ∷ (UNSUPPORTED.0, codes "UNSUPPORTED")
    ∷ (BAD_BUFFER_SIZE.0, codes "BAD_BUFFER_SIZE")
    ∷ (BUFFER_TOO_SMALL.0, codes "BUFFER_TOO_SMALL")
    ∷ (NOT_READY.0, codes "NOT_READY")
    ∷ (DEVICE_ERROR.0, codes "DEVICE_ERROR")
    ∷ (OUT_OF_RESOURCES.0, codes "OUT_OF_RESOURCES")
    ∷ (NOT_FOUND.0, codes "NOT_FOUND")
    ∷ (ACCESS_DENIED.0, codes "ACCESS_DENIED")
    ∷ (ALREADY_STARTED.0, codes "ALREADY_STARTED")
    ∷ (ABORTED.0, codes "ABORTED")
    ∷ []

-- the name of a status
abbrev pub name_of : Status → Option (List ℕ)
name_of status = lookup (nat_eq status.0) names
