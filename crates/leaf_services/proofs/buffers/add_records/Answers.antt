use Rattle.std.proofs.Common.{List, ℕ, ◌++◌, ap, ◌∙◌}
use Rattle.service_model.specs.Contents.{record_bytes}
use Rattle.leaf_services.proofs.BlockContents.{records_more}
use Rattle.leaf_services.proofs.buffers.add_records.Goals as goal

pub loop-rec-preserved : goal.loop-rec-preserved
loop-rec-preserved c =
    c.in_ok-add_record.ensures
    ∙ ap (λ (bytes : List ℕ). bytes ++ record_bytes c.rec-item.result) c.loop-rec.invariant
    ∙ records_more c.args.bytes.now.items c.args.records.now c.loop-rec.rec-index c.rec-item.result c.loop-rec-test.true c.rec-item.is
