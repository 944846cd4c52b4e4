use Rattle.std.proofs.Common.{◌≡◌, List, ℕ, ap, ◌∙◌}
use Rattle.fw_shelf.specs.Sink.{with_bytes}
use Rattle.image_tools.specs.declared.answer.Answer.{Answer}
use Rattle.image_tools.specs.Tools.{answer_of, words_in}
use Rattle.image_tools.proofs.StatusLemmas.{not_four}
use Rattle.image_tools.proofs.tools.tools.Goals as goal

-- if the sink did not fail, the whole answer was written
pub returns-in-Ok-clause-complete : goal.returns-in-Ok-clause-complete
returns-in-Ok-clause-complete g c = λ files known shelf_calm sink_calm memory.
    let whole = c.written.ensures.written (not_four c.written.result _ _ c.written.ensures.failed sink_calm) in
    let is : c.in-Ok.answer ≡ answer_of files (words_in c.args.words.now.items) = rw c.as_slice.ensures.value at (c.in-Ok.ensures.answered files known) in (
      whole.0 ∙ ap (λ (a : Answer). a.status) is,
      whole.1 ∙ ap (λ (bytes : List ℕ). with_bytes (g.K.Sink.taken c.args.sink.now) bytes) (c.as_slice-in-Ok.ensures ∙ ap (λ (a : Answer). a.output) is),
    )
