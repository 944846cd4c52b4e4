-- How a step ends if its instruction makes a request.
use Rattle.ebc_machine.specs.declared.cpu.Request.{Request}
use Rattle.ebc_machine.specs.declared.cpu.Request.TheVariants.{Nothing, Native as CallNative, MakeThunk as WantThunk}
use Rattle.ebc_machine.specs.declared.cpu.StepOut.{StepOut}
use Rattle.ebc_machine.specs.declared.cpu.StepOut.TheVariants.{Next, Native, MakeThunk}

abbrev pub outcome : Request → StepOut
outcome Nothing = Next
outcome (CallNative target) = Native target
outcome (WantThunk place) = MakeThunk place
