use Rattle.std.proofs.Common.{◌≡◌, ◌<◌, ◌≤◌, ℕ, List, length, map, refl, sym, subst, ap, ◌∙◌, get_or, arith}
use Rattle.std.specs.List.{filter_map, range_with_len}
use Rattle.std.proofs.lemmas.List.{length-map, take_all}
use Rattle.std.proofs.lemmas.List.FromFn.{length-map-range_with_len}
use Rattle.pci_model.specs.BoardLines.{functions}
use Rattle.pci_model.specs.declared.line.BoardLine.{BoardLine}
use Rattle.world_model.specs.Boards.{roms_in}
use Rattle.bind_engine.specs.Boot.{note_of_line}
use Rattle.bind_engine.specs.BootLines.{no_rom}
use Rattle.bind_engine.proofs.BootRoms.{all_roms, length-roms_in, no_roms_at_first, none-in, notes_more, roms_at}
use Rattle.bind_engine.proofs.boot.read_roms.Goals as goal

pub loop-line-init : goal.loop-line-init
loop-line-init g c =
    let lines = c.args.board.now.lines in
    let first : roms_in c.in_ok-no_roms.field-0.items ≡ map no_rom (range_with_len 0 (length (functions lines))) =
    ap roms_in c.in_ok-no_roms.ensures ∙ none-in (range_with_len 0 c.functions.result) ∙ ap (λ (n : ℕ). map no_rom (range_with_len 0 n)) c.functions.ensures in
    record {
      roms = λ files known. first ∙ no_roms_at_first files lines;
      notes = λ files known. c.new.ensures.items;
      size = sym (length-roms_in c.in_ok-no_roms.field-0.items) ∙ ap length first ∙ length-map-range_with_len no_rom 0 (length (functions lines));
      same_files = refl;
      faults = omega arith;
      becomes = g.met.F.Shelf.becomes_same c.args.shelf.now;
    }

pub loop-line-preserved : goal.loop-line-preserved
loop-line-preserved g c =
    let lines = c.args.board.now.lines in
    let i = c.loop-line.line-index in
    let line = c.line-item.result in
    let listed : c.lines-line-items.result.now ≡ lines = c.lines-line-items.ensures in
    let within : i < length lines = subst (λ (xs : List BoardLine). i < length xs) listed c.loop-line-test.true in
    let is : line ≡ get_or lines i line = subst (λ (xs : List BoardLine). line ≡ get_or xs i line) listed c.line-item.is in
    let before = c.loop-line.invariant in
    let step = c.in_ok-read_line.ensures in
    record {
      roms = λ files known.
          roms_at c.locations_are_numbers.ensures.found c.locations_are_numbers.ensures.there c.roms_are_apart.ensures files lines i line
          (roms_in c.loop-line.read.roms.items) (roms_in c.read_line.new.self.roms.items) within is c.soundness.ensures.lines (before.roms files known) (step.roms files (before.same_files ∙ known));
      notes = λ files known.
          notes_more (note_of_line files) lines i line c.loop-line.read.notes.items c.read_line.new.self.notes.items within is (before.notes files known) (step.notes files (before.same_files ∙ known));
      size = step.size ∙ before.size;
      same_files = step.same_files ∙ before.same_files;
      faults = omega (arith, step.faults, before.faults);
      becomes = g.met.F.Shelf.becomes_again c.args.shelf.now c.loop-line.shelf c.read_line.new.shelf before.becomes step.becomes;
    }

pub returns-clause-roms : goal.returns-clause-roms
returns-clause-roms g c = λ files known.
    let lines = c.args.board.now.lines in
    let past : length lines ≤ c.loop-line.line-index = subst (λ (xs : List BoardLine). length xs ≤ c.loop-line.line-index) c.lines-line-items.ensures c.loop-line-test.false in
    c.loop-line.invariant.roms files known ∙ all_roms files lines c.loop-line.line-index past

pub returns-clause-notes : goal.returns-clause-notes
returns-clause-notes g c = λ files known.
    let lines = c.args.board.now.lines in
    let past : length lines ≤ c.loop-line.line-index = subst (λ (xs : List BoardLine). length xs ≤ c.loop-line.line-index) c.lines-line-items.ensures c.loop-line-test.false in
    c.loop-line.invariant.notes files known ∙ ap (filter_map (note_of_line files)) (take_all c.loop-line.line-index lines past)
