use Rattle.driver_model.proofs.WhatSweepsLeave.{sweeps_leave_others, swept_images_are_gone}
use Rattle.driver_model.proofs.unload_laws.sweeps_take_images.Goals as goal

pub returns : goal.returns
returns c = record { gone = swept_images_are_gone; others = sweeps_leave_others }
