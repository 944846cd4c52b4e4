use Rattle.std.proofs.Common.{append_assoc}
use Rattle.std.specs.Fmt.{decimal}
use Rattle.report_text.proofs.ReportLemmas.{join-handles}
use Rattle.report_text.proofs.lines.write_platform.Goals as goal

pub returns : goal.returns
returns c = simp (c.in_ok-push_str.ensures.bytes, c.in_ok-write_handles.ensures, c.in_ok-write.ensures.bytes, join-handles (decimal c.args.controller) c.args.drivers.now, append_assoc)
