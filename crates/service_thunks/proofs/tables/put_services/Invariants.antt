use Rattle.std.proofs.Common.{◌≡◌, take}
use Rattle.service_thunks.specs.Services.{boot_services}
use Rattle.fw_types.specs.Layout.{put_all}
use Rattle.service_thunks.specs.Tables.{service_fields}
use Rattle.service_thunks.proofs.tables.put_services.Given as goal

-- the table has the addresses of the services so far
abbrev pub invariant-loop-place : goal.invariant-loop-place
invariant-loop-place l = l.table ≡ put_all (take l.place (service_fields boot_services)) l.fn.table
