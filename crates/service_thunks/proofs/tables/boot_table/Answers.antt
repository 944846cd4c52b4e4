use Rattle.std.proofs.Common.{replicate, sym, ap, ◌∙◌}
use Rattle.service_thunks.specs.Services.{boot_services}
use Rattle.fw_types.specs.Layout.{put_all}
use Rattle.fw_types.proofs.LayoutLemmas.{put_all-append}
use Rattle.service_thunks.specs.Tables.{boot_signature, boot_table, boot_table_size, header_fields, service_fields}
use Rattle.service_thunks.proofs.tables.boot_table.Goals as goal

-- the header, and then the services
pub returns : goal.returns
unfolding boot_table
returns c =
    c.put_services.ensures ∙ ap (put_all (service_fields boot_services)) c.put_header.ensures
    ∙ sym (put_all-append (header_fields boot_signature boot_table_size) (service_fields boot_services) (replicate boot_table_size 0))
