use Rattle.std.proofs.Common.{append_assoc}
use Rattle.report_text.specs.Report.{path_word}
use Rattle.report_text.proofs.ReportLemmas.{join-handles}
use Rattle.report_text.proofs.lines.write_connect.Goals as goal

pub returns : goal.returns
returns c = simp (c.in_ok-push_str.ensures.bytes, c.in_ok-write_handles.ensures, c.in_ok-write.ensures.bytes, join-handles (path_word c.args.path) c.args.context.now, c.recursion_name-recursion.ensures, append_assoc)
