use Rattle.std.proofs.Common.{◌+◌, ◌*◌, sym, ap, ◌∙◌}
use Rattle.byteorder.specs.Endian.{little_bytes}
use Rattle.fw_types.specs.Layout.{put}
use Rattle.guest_memory.specs.declared.address_map.TheConstants.{BOOT_SERVICES}
use Rattle.service_thunks.proofs.FieldLemmas.{service_more}
use Rattle.service_thunks.proofs.tables.put_services.Goals as goal

-- one more address
pub loop-place-preserved : goal.loop-place-preserved
loop-place-preserved c =
    let place = c.loop-place.place in
    c.put_u64.ensures
    ∙ ap (put (24 + 8 * place) (little_bytes 8 (BOOT_SERVICES + (24 + 8 * place)))) c.loop-place.invariant
    ∙ sym (service_more place c.args.table.now c.loop-place-test.true)
