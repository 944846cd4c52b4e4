use Rattle.std.proofs.Common.{◌≡◌, ◌+◌, ◌++◌, [], ◌∷◌, append_assoc, arith}
use Rattle.script_text.specs.ScriptGrammar.{handle_at, handles_from}
use Rattle.script_text.proofs.ValuesLemmas.{handles_from-more}
use Rattle.script_text.proofs.values.handles_from.Goals as goal

pub loop-i-preserved : goal.loop-i-preserved
loop-i-preserved c =
    let words = c.args.words.now in
    let i = c.loop-i.i in
    let more : handles_from words i ≡ handle_at words i ∷ handles_from words (i + 1) = handles_from-more words i (omega arith) in
    let one : c.push.new.self.items ≡ c.loop-i.handles.items ++ c.handle_at.result ∷ [] = c.in_ok-push.ensures.items in
    let joined = append_assoc c.loop-i.handles.items (c.handle_at.result ∷ []) (handles_from words (i + 1)) in
    cc
