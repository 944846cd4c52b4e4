use Rattle.std.proofs.Common.{◌∙◌, ap}
use Rattle.uuid.specs.Parts.{swap_fields}
use Rattle.uuid.proofs.RoundTrips.{swap_twice}
use Rattle.fw_types.proofs.guid.Guid.guest_form_again.Goals as goal

-- turning the fields twice gives the bytes back
pub returns : goal.returns
returns c = c.to_guest.ensures.form ∙ ap swap_fields c.from_guest.ensures ∙ swap_twice c.args.b.now c.told-b
