-- How a replay goes on after a command.
use Rattle.std.proofs.Common.{inl, inr, ◌≡◌, ◌≢◌, ℕ, zero, suc, ◌+◌, ◌<◌, ◌≤◌, true, List, [], ◌∷◌, ◌++◌, length, take, drop, refl, sym, ap, ◌∙◌, arith, append_assoc, length-append, get_or, add-one}
use Rattle.std.specs.Prelude.{Option, Some, None, Result, Ok, Err, slice_get}
use Rattle.std.specs.List.{concat}
use Rattle.std.proofs.lemmas.List.{append-nil}
use Rattle.std.proofs.lemmas.Grind.{common_steps}
use Rattle.fw_types.specs.declared.command.Command.{Command}
use Rattle.fw_shelf.specs.Shelf.{Files}
use Rattle.fw_shelf.specs.Sink.{TakesProperPrefix, with_bytes, with_bytes-again}
use Rattle.pci_model.specs.Devices.{board_of}
use Rattle.script_text.specs.declared.script.Script.{Script}
use Rattle.bind_engine.specs.Machine.{MachineView}
use Rattle.bind_engine.specs.Boot.{booted}
use Rattle.bind_engine.specs.Commands.{exec}
use Rattle.replay_shell.specs.Endings.{EndsWith, reads_at}
use Rattle.replay_shell.specs.Headline.{answer, opening_text, reply_texts, report, texts}
use Rattle.replay_shell.specs.declared.replay.Stop.{Stop}
use Rattle.replay_shell.specs.declared.replay.Stop.TheVariants.{Shelf, Sink, Memory}
use Rattle.replay_shell.specs.Replay.{Replays, TakesTurn, TakesTurns, text_of}

-- after the first commands, their texts were taken, and the texts of the others are those of the machine from there on
pub record SoFar (files : Files) (first : MachineView) (commands : List Command) (done : ℕ) (machine : MachineView) (old now : Option (List ℕ)) : Type 0 where
  pub left : texts files machine (drop done commands) ≡ drop done (texts files first commands)
  pub taken : now ≡ with_bytes old (concat (take done (texts files first commands)))

-- to take no more bytes changes nothing
pub with_bytes-nil : (taken : Option (List ℕ)) → with_bytes taken [] ≡ taken
with_bytes-nil None = refl
with_bytes-nil (Some before) = ap Some (append-nil before)

-- a list of lists, joined up to and including the one at a place
concat-take : (xss rest : List (List ℕ)) (i : ℕ) (x : List ℕ) → drop i xss ≡ x ∷ rest → concat (take (suc i) xss) ≡ concat (take i xss) ++ x
concat-take [] rest zero x h = absurd (cc)
concat-take [] rest (suc i) x h = absurd (cc)
concat-take (y ∷ ys) rest zero x h = let same : y ≡ x = cc in append-nil y ∙ same
concat-take (y ∷ ys) rest (suc i) x h = ap (λ (zs : List ℕ). y ++ zs) (concat-take ys rest i x h) ∙ sym (append_assoc y (concat (take i ys)) x)

concat-split : (xss rest : List (List ℕ)) (i : ℕ) (x : List ℕ) → drop i xss ≡ x ∷ rest → concat xss ≡ concat (take i xss) ++ (x ++ concat rest)
concat-split xss rest zero x h = ap concat h
concat-split [] rest (suc i) x h = absurd (cc)
concat-split (y ∷ ys) rest (suc i) x h = ap (λ (zs : List ℕ). y ++ zs) (concat-split ys rest i x h) ∙ sym (append_assoc y (concat (take i ys)) (x ++ concat rest))

drop-suc : (xss rest : List (List ℕ)) (i : ℕ) (x : List ℕ) → drop i xss ≡ x ∷ rest → drop (suc i) xss ≡ rest
drop-suc xss rest zero x h = ap (drop 1) h
drop-suc [] rest (suc i) x h = absurd (cc)
drop-suc (y ∷ ys) rest (suc i) x h = drop-suc ys rest i x h

-- the command at a place
pub record IsAt (commands : List Command) (i : ℕ) (command : Command) : Type 0 where
  pub here : drop i commands ≡ command ∷ drop (suc i) commands
  pub got : slice_get commands i ≡ Some command

pub is_at : (commands : List Command) (i : ℕ) (command : Command) → i < length commands → command ≡ get_or commands i command → IsAt commands i command
is_at [] i command within is = absurd (omega arith)
is_at (x ∷ xs) zero command within is = let same : x ≡ command = sym is in record { here = ap (λ (c : Command). c ∷ xs) same; got = ap Some same }
is_at (x ∷ xs) (suc i) command within is = let later = is_at xs i command (omega arith) is in record { here = later.here; got = later.got }

-- the texts from a command on
texts-here : (files : Files) (first : MachineView) (commands : List Command) (i : ℕ) (machine : MachineView) (old now : Option (List ℕ)) (command : Command) → SoFar files first commands i machine old now → IsAt commands i command
    → drop i (texts files first commands) ≡ text_of files machine command ∷ texts files (exec command files machine).1 (drop (suc i) commands)
texts-here files first commands i machine old now command so_far there = sym so_far.left ∙ ap (texts files machine) there.here

-- one more command
pub SoFar-more : (files : Files) (first : MachineView) (commands : List Command) (i : ℕ) (machine next : MachineView) (old now new : Option (List ℕ)) (command : Command) → SoFar files first commands i machine old now → IsAt commands i command
    → next ≡ (exec command files machine).1 → new ≡ with_bytes now (text_of files machine command) → SoFar files first commands (i + 1) next old new
SoFar-more files first commands i machine next old now new command so_far there went wrote =
    let all = texts files first commands in
    let text = text_of files machine command in
    let rest = texts files (exec command files machine).1 (drop (suc i) commands) in
    let here : drop i all ≡ text ∷ rest = texts-here files first commands i machine old now command so_far there in
    rw (add-one i) (record {
      left = ap (λ (m : MachineView). texts files m (drop (suc i) commands)) went ∙ sym (drop-suc all rest i text here);
      taken = wrote ∙ ap (λ (t : Option (List ℕ)). with_bytes t text) so_far.taken ∙ with_bytes-again old (concat (take i all)) text ∙ ap (with_bytes old) (sym (concat-take all rest i text here));
    })

pub drop-past : (commands : List Command) (i : ℕ) → length commands ≤ i → drop i commands ≡ []
drop-past commands i past = grind (arith, common_steps)

take-past : (xss : List (List ℕ)) (i : ℕ) → drop i xss ≡ [] → take i xss ≡ xss
take-past xss zero gone = sym gone
take-past [] (suc i) gone = refl
take-past (x ∷ xs) (suc i) gone = ap (λ (ys : List (List ℕ)). x ∷ ys) (take-past xs i gone)

take-append-le : (n : ℕ) (xs ys : List ℕ) → n < length xs → take n (xs ++ ys) ≡ take n xs
take-append-le zero xs ys h = refl
take-append-le (suc n) [] ys h = absurd (omega arith)
take-append-le (suc n) (x ∷ xs) ys h = ap (λ (zs : List ℕ). x ∷ zs) (take-append-le n xs ys (omega arith))

-- the end of all commands
pub SoFar-end : (files : Files) (first : MachineView) (commands : List Command) (i : ℕ) (machine : MachineView) (old now : Option (List ℕ)) → length commands ≤ i → SoFar files first commands i machine old now → now ≡ with_bytes old (concat (texts files first commands))
SoFar-end files first commands i machine old now past so_far =
    let all = texts files first commands in
    let none : drop i commands ≡ [] = drop-past commands i past in
    let gone : drop i all ≡ [] = sym so_far.left ∙ ap (texts files machine) none in
    so_far.taken ∙ ap (λ (xss : List (List ℕ)). with_bytes old (concat xss)) (take-past all i gone)

take-past-prefix : (xs ys : List ℕ) (n : ℕ) → take (length xs + n) (xs ++ ys) ≡ xs ++ take n ys
take-past-prefix [] ys n = let same : 0 + n ≡ n = omega arith in ap (λ (k : ℕ). take k ys) same
take-past-prefix (x ∷ xs) ys n = let next : suc (length xs) + n ≡ suc (length xs + n) = omega arith in rw next (ap (λ (zs : List ℕ). x ∷ zs) (take-past-prefix xs ys n))

-- how a replay ends if one command is the last
pub stopped-here : (files : Files) (first : MachineView) (commands : List Command) (i : ℕ) (machine : MachineView) (old now new : Option (List ℕ)) (command : Command) (stop : Stop) → SoFar files first commands i machine old now → IsAt commands i command
    → TakesTurn files machine command (Err stop) now new → TakesTurns files first commands (Err stop) old new
stopped-here files first commands i machine old now new command Shelf so_far there took =
    let reads : reads_at commands i ≡ true = rw there.got took.0 in
    (i, reads, took.1 ∙ so_far.taken)
stopped-here files first commands i machine old now new command Memory so_far there took =
    let all = texts files first commands in
    let text = text_of files machine command in
    let rest = texts files (exec command files machine).1 (drop (suc i) commands) in
    let here : drop i all ≡ text ∷ rest = texts-here files first commands i machine old now command so_far there in
    let before = concat (take i all) in
    let whole : concat all ≡ before ++ (text ++ concat rest) = concat-split all rest i text here in
    (length before + 0, took ∙ so_far.taken ∙ ap (with_bytes old) (sym (append-nil before) ∙ sym (take-past-prefix before (text ++ concat rest) 0) ∙ ap (take (length before + 0)) (sym whole)))
stopped-here files first commands i machine old now new command Sink so_far there took =
    let all = texts files first commands in
    let text = text_of files machine command in
    let rest = texts files (exec command files machine).1 (drop (suc i) commands) in
    let here : drop i all ≡ text ∷ rest = texts-here files first commands i machine old now command so_far there in
    let before = concat (take i all) in
    let n = took.0 in
    let whole : concat all ≡ before ++ (text ++ concat rest) = concat-split all rest i text here in
    let short : length before + n < length (concat all) = rw whole (omega (arith, took.1, length-append before (text ++ concat rest), length-append text (concat rest))) in (
      length before + n,
      short,
      took.2 ∙ ap (λ (t : Option (List ℕ)). with_bytes t (take n text)) so_far.taken ∙ with_bytes-again old before (take n text)
          ∙ ap (with_bytes old) (ap (λ (xs : List ℕ). before ++ xs) (sym (take-append-le n text (concat rest) took.1)) ∙ sym (take-past-prefix before (text ++ concat rest) n) ∙ ap (take (length before + n)) (sym whole)),
    )

-- ---- the opening, and then the commands

-- more bytes are taken after a text
after-text : (old mid new : Option (List ℕ)) (text more : List ℕ) → mid ≡ with_bytes old text → new ≡ with_bytes mid more → new ≡ with_bytes old (text ++ more)
after-text old mid new text more before later = later ∙ ap (λ (t : Option (List ℕ)). with_bytes t more) before ∙ with_bytes-again old text more

-- a prefix taken after a text is a prefix of both texts together
after-prefix : (old mid new : Option (List ℕ)) (text more : List ℕ) (n : ℕ) → mid ≡ with_bytes old text → new ≡ with_bytes mid (take n more) → new ≡ with_bytes old (take (length text + n) (text ++ more))
after-prefix old mid new text more n before later = after-text old mid new text (take n more) before later ∙ ap (with_bytes old) (sym (take-past-prefix text more n))

-- how a replay ends if the sink failed at the notes
pub notes-stopped : (files : Files) (script : Script) (old new : Option (List ℕ)) → TakesProperPrefix old (opening_text files script) new → Replays files script (Err Sink) old new
notes-stopped files script old new took =
    let notes = opening_text files script in
    let replies = concat (reply_texts files script) in
    (took.0, omega (arith, took.1, length-append notes replies), took.2 ∙ ap (with_bytes old) (sym (take-append-le took.0 notes replies took.1)))

-- how a replay ends if nothing was taken
pub nothing-taken : (files : Files) (script : Script) (stop : Stop) (old : Option (List ℕ)) → stop ≢ Sink → Replays files script (Err stop) old old
nothing-taken files script Shelf old other = inl refl
nothing-taken files script Memory old other = (0, sym (with_bytes-nil old))
nothing-taken files script Sink old other = absurd (other refl)

-- how a replay ends if the commands end like this
commands-stopped : (files : Files) (script : Script) (stop : Stop) (old mid new : Option (List ℕ)) → mid ≡ with_bytes old (opening_text files script)
    → TakesTurns files (booted files (board_of script.board)) script.commands (Err stop) mid new → Replays files script (Err stop) old new
commands-stopped files script Shelf old mid new opened took =
    inr (took.0, took.1, after-text old mid new (opening_text files script) (concat (take took.0 (reply_texts files script))) opened took.2)
commands-stopped files script Memory old mid new opened took =
    let notes = opening_text files script in
    (length notes + took.0, after-prefix old mid new notes (concat (reply_texts files script)) took.0 opened took.1)
commands-stopped files script Sink old mid new opened took =
    let notes = opening_text files script in
    let replies = concat (reply_texts files script) in
    (length notes + took.0, omega (arith, took.1, length-append notes replies), after-prefix old mid new notes replies took.0 opened took.2)

commands-done : (files : Files) (script : Script) (old mid new : Option (List ℕ)) → mid ≡ with_bytes old (opening_text files script)
    → new ≡ with_bytes mid (concat (reply_texts files script)) → new ≡ with_bytes old (report files script)
commands-done files script old mid new opened took = after-text old mid new (opening_text files script) (concat (reply_texts files script)) opened took

pub commands-end : (files : Files) (script : Script) (result : Result (Unit {0}) Stop) (old mid new : Option (List ℕ)) → mid ≡ with_bytes old (opening_text files script)
    → TakesTurns files (booted files (board_of script.board)) script.commands result mid new → Replays files script result old new
commands-end files script (Ok done) old mid new opened took = commands-done files script old mid new opened took
commands-end files script (Err stop) old mid new opened took = commands-stopped files script stop old mid new opened took

-- if a replay stopped, so did the answer whose text is its report
pub EndsWith-stopped : (files : Files) (script : Script) (stop : Stop) (old new : Option (List ℕ)) → Replays files script (Err stop) old new → EndsWith (answer 0 (report files script)) files script (Err stop) old new
EndsWith-stopped files script Shelf old new h = h
EndsWith-stopped files script Sink old new h = h
EndsWith-stopped files script Memory old new h = h
