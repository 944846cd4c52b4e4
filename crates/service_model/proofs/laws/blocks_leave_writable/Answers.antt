use Rattle.service_model.proofs.SoftPart.{block-writable}
use Rattle.service_model.proofs.laws.blocks_leave_writable.Goals as goal

pub returns : goal.returns
returns c = block-writable c.segments_fit.ensures.block
