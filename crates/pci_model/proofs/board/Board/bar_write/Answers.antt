use Rattle.std.proofs.Common.{◌≡◌, ◌≤◌, ◌<◌, ◌+◌, Some, None, if◌then◌else◌, ℕ, List, length, nat_eq, ap, sym, subst, ◌∙◌, arith, rules}
use Rattle.std.specs.Prelude.{find, option_copied, option_map}
use Rattle.std.specs.List.{slice_get}
use Rattle.byteorder.specs.Endian.{little_bytes}
use Rattle.std.proofs.lemmas.List.{with_items_is}
use Rattle.pci_model.specs.DeviceState.{DeviceState}
use Rattle.pci_model.specs.Devices.{BoardState, IsSound, bar_refusal, bar_written, bars_after, ok_unless, with_change_at}
use Rattle.pci_model.specs.declared.device.BarBytes.{BarBytes}
use Rattle.pci_model.specs.declared.refusal.DevRefusal.TheVariants.{PastEnd}
use Rattle.pci_model.proofs.DeviceLemmas.{bar_refusal-missing, bar_refusal-bytes, bar_fits, get-below, low_size, not_past, length-with_change_at, sound-bar_written}
use Rattle.pci_model.proofs.board.Board.bar_write.Goals as goal

pub returns-in_default-bar-clause-answer : goal.returns-in_default-bar-clause-answer
returns-in_default-bar-clause-answer c =
    let board : BoardState = record { lines = c.self.inside.lines.items; devices = c.self.inside.devices.items } in
    let device : DeviceState = c.in-Some.device.now in
    let there : slice_get board.devices c.args.f ≡ Some device =
    ap (λ (devices : List DeviceState). slice_get devices c.args.f) (sym c.as_slice.ensures.value) ∙ sym c.device_at.ensures ∙ ap option_copied c.in-Some.is in
    sym (ap (λ o. ok_unless o tt) (bar_refusal-missing board c.args.f c.args.bar c.args.at c.args.n device c.self.invariant.sound there (sym c.bar.ensures ∙ ap option_copied c.in_default-bar.is)))
    ∙ ap (λ (board : BoardState). ok_unless (bar_refusal board.lines c.args.f c.args.bar c.args.at c.args.n) tt) c.self.view_is

pub returns-then-is_past-clause-answer : goal.returns-then-is_past-clause-answer
returns-then-is_past-clause-answer c =
    let board : BoardState = record { lines = c.self.inside.lines.items; devices = c.self.inside.devices.items } in
    let device : DeviceState = c.in-Some.device.now in
    let there : slice_get board.devices c.args.f ≡ Some device =
    ap (λ (devices : List DeviceState). slice_get devices c.args.f) (sym c.as_slice.ensures.value) ∙ sym c.device_at.ensures ∙ ap option_copied c.in-Some.is in
    let bytes : List ℕ = c.in-Some-bar.bytes.now in
    let found : option_map (λ (bar : BarBytes). bar.bytes) (find (λ (bar : BarBytes). nat_eq bar.index c.args.bar) device.bars) ≡ Some bytes = sym c.bar.ensures ∙ ap option_copied c.in-Some-bar.is in
    ap (λ b. ok_unless (if b then Some PastEnd else None) tt) (sym c.if-is_past.true ∙ c.is_past.ensures)
    ∙ sym (ap (λ o. ok_unless o tt) (bar_refusal-bytes board c.args.f c.args.bar c.args.at c.args.n device bytes c.self.invariant.sound there found))
    ∙ ap (λ (board : BoardState). ok_unless (bar_refusal board.lines c.args.f c.args.bar c.args.at c.args.n) tt) c.self.view_is

pub write_bar-requires-clause-there : goal.write_bar-requires-clause-there
write_bar-requires-clause-there c =
    let board : BoardState = record { lines = c.self.inside.lines.items; devices = c.self.inside.devices.items } in
    let device : DeviceState = c.in-Some.device.now in
    let there : slice_get board.devices c.args.f ≡ Some device =
    ap (λ (devices : List DeviceState). slice_get devices c.args.f) (sym c.as_slice.ensures.value) ∙ sym c.device_at.ensures ∙ ap option_copied c.in-Some.is in
    let inside : c.args.f < length c.self.inside.devices.items = get-below board.devices c.args.f device there in
    omega (arith, c.self.inside.devices.ok.0)

pub write_bar-requires-clause-fits : goal.write_bar-requires-clause-fits
write_bar-requires-clause-fits c other is =
    let board : BoardState = record { lines = c.self.inside.lines.items; devices = c.self.inside.devices.items } in
    let device : DeviceState = c.in-Some.device.now in
    let there : slice_get board.devices c.args.f ≡ Some device =
    ap (λ (devices : List DeviceState). slice_get devices c.args.f) (sym c.as_slice.ensures.value) ∙ sym c.device_at.ensures ∙ ap option_copied c.in-Some.is in
    let bytes : List ℕ = c.in-Some-bar.bytes.now in
    let found : option_map (λ (bar : BarBytes). bar.bytes) (find (λ (bar : BarBytes). nat_eq bar.index c.args.bar) device.bars) ≡ Some bytes = sym c.bar.ensures ∙ ap option_copied c.in-Some-bar.is in
    let size : length c.low_bytes.result.now ≡ c.args.n = low_size c.args.n c.to_le_bytes.result c.low_bytes.result.now c.requires (omega arith) c.low_bytes.ensures in
    let fits : c.args.at + c.args.n ≤ length bytes = not_past (length bytes) (c.args.at + c.args.n) (sym c.is_past.ensures ∙ c.if-is_past.false) in
    bar_fits board.devices c.args.f c.args.bar c.args.at c.low_bytes.result.now bytes device there found (omega (arith, fits, size)) other
    (ap (λ (devices : List DeviceState). slice_get devices c.args.f) (sym c.as_mut_slice.ensures.value) ∙ is)

pub invariant_of-self : goal.invariant_of-self
invariant_of-self c =
    let board : BoardState = record { lines = c.self.inside.lines.items; devices = c.self.inside.devices.items } in
    let device : DeviceState = c.in-Some.device.now in
    let there : slice_get board.devices c.args.f ≡ Some device =
    ap (λ (devices : List DeviceState). slice_get devices c.args.f) (sym c.as_slice.ensures.value) ∙ sym c.device_at.ensures ∙ ap option_copied c.in-Some.is in
    let bytes : List ℕ = c.in-Some-bar.bytes.now in
    let found : option_map (λ (bar : BarBytes). bar.bytes) (find (λ (bar : BarBytes). nat_eq bar.index c.args.bar) device.bars) ≡ Some bytes = sym c.bar.ensures ∙ ap option_copied c.in-Some-bar.is in
    let size : length c.low_bytes.result.now ≡ c.args.n = low_size c.args.n c.to_le_bytes.result c.low_bytes.result.now c.requires (omega arith) c.low_bytes.ensures in
    let fits : c.args.at + c.args.n ≤ length bytes = not_past (length bytes) (c.args.at + c.args.n) (sym c.is_past.ensures ∙ c.if-is_past.false) in
    let written =
    c.write_bar.ensures ∙ ap (with_change_at c.args.f (λ (device : DeviceState). record device { bars = bars_after c.args.bar c.args.at c.low_bytes.result.now device.bars })) c.as_mut_slice.ensures.value in
    let as_many : length c.write_bar.new.devices ≡ c.self.inside.devices.len =
    omega (arith, ap length written, length-with_change_at c.self.inside.devices.items c.args.f (λ (device : DeviceState). record device { bars = bars_after c.args.bar c.args.at c.low_bytes.result.now device.bars }), c.self.inside.devices.ok.0) in
    record {
      sound =
          subst (λ (devices : List DeviceState). IsSound (record { lines = board.lines; devices = devices })) (sym (with_items_is c.self.inside.devices c.write_bar.new.devices as_many ∙ written))
          (sound-bar_written board c.args.f c.args.bar c.args.at c.low_bytes.result.now c.self.invariant.sound
          (bar_fits board.devices c.args.f c.args.bar c.args.at c.low_bytes.result.now bytes device there found (omega (arith, fits, size))));
      roots = c.self.invariant.roots;
      functions = c.self.invariant.functions;
      numbers = c.self.invariant.numbers;
    }

pub returns-clause-answer : goal.returns-clause-answer
returns-clause-answer c =
    let board : BoardState = record { lines = c.self.inside.lines.items; devices = c.self.inside.devices.items } in
    let device : DeviceState = c.in-Some.device.now in
    let there : slice_get board.devices c.args.f ≡ Some device =
    ap (λ (devices : List DeviceState). slice_get devices c.args.f) (sym c.as_slice.ensures.value) ∙ sym c.device_at.ensures ∙ ap option_copied c.in-Some.is in
    let bytes : List ℕ = c.in-Some-bar.bytes.now in
    let found : option_map (λ (bar : BarBytes). bar.bytes) (find (λ (bar : BarBytes). nat_eq bar.index c.args.bar) device.bars) ≡ Some bytes = sym c.bar.ensures ∙ ap option_copied c.in-Some-bar.is in
    ap (λ b. ok_unless (if b then Some PastEnd else None) tt) (sym c.if-is_past.false ∙ c.is_past.ensures)
    ∙ sym (ap (λ o. ok_unless o tt) (bar_refusal-bytes board c.args.f c.args.bar c.args.at c.args.n device bytes c.self.invariant.sound there found))
    ∙ ap (λ (board : BoardState). ok_unless (bar_refusal board.lines c.args.f c.args.bar c.args.at c.args.n) tt) c.self.view_is

pub returns-clause-written : goal.returns-clause-written
returns-clause-written c =
    let change = λ (devices : List DeviceState). with_change_at c.args.f (λ (device : DeviceState). record device { bars = bars_after c.args.bar c.args.at c.low_bytes.result.now device.bars }) devices in
    let written : c.write_bar.new.devices ≡ change c.self.inside.devices.items = c.write_bar.ensures ∙ ap change c.as_mut_slice.ensures.value in
    let as_many : length c.write_bar.new.devices ≡ c.self.inside.devices.len =
    omega (arith, ap length written, length-with_change_at c.self.inside.devices.items c.args.f (λ (device : DeviceState). record device { bars = bars_after c.args.bar c.args.at c.low_bytes.result.now device.bars }), c.self.inside.devices.ok.0) in
    let low : c.low_bytes.result.now ≡ little_bytes c.args.n c.args.value = search rules in
    ap (λ (devices : List DeviceState). record { lines = c.self.inside.lines.items; devices = devices }) (with_items_is c.self.inside.devices c.write_bar.new.devices as_many ∙ written)
    ∙ ap (λ (bytes : List ℕ). bar_written c.args.f c.args.bar c.args.at bytes (record { lines = c.self.inside.lines.items; devices = c.self.inside.devices.items })) low
    ∙ ap (bar_written c.args.f c.args.bar c.args.at (little_bytes c.args.n c.args.value)) c.self.view_is
