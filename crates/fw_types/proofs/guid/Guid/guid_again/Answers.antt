use Rattle.std.proofs.Common.{◌∙◌, ap}
use Rattle.uuid.specs.Parts.{swap_fields}
use Rattle.uuid.proofs.RoundTrips.{swap_twice}
use Rattle.fw_types.proofs.guid.Guid.guid_again.Goals as goal

-- turning the fields twice gives the bytes back
pub returns : goal.returns
returns c = c.from_guest.ensures ∙ ap swap_fields c.to_guest.ensures.form ∙ swap_twice c.args.self c.to_guest.ensures.sixteen
