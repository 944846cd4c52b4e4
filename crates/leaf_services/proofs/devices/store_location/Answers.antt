use Rattle.std.proofs.Common.{ℕ, Bool, ◌&&◌}
use Rattle.std.proofs.lemmas.Bool.{and_parts}
use Rattle.guest_memory.specs.GuestMemory.{is_writable_range}
use Rattle.leaf_services.proofs.NumbersStored.{after_three}
use Rattle.leaf_services.proofs.devices.store_location.Goals as goal

pub store-requires-4 : goal.store-requires-4
store-requires-4 c =
    let can : ℕ → Bool = λ at. is_writable_range c.args.w.now.now.soft.memory at 8 in
    let one = and_parts (can c.args.segment) (can c.args.bus && (can c.args.device && can c.args.function)) c.requires in
    let two = and_parts (can c.args.bus) (can c.args.device && can c.args.function) one.1 in
    let three = and_parts (can c.args.device) (can c.args.function) two.1 in
    after_three c.puts_leave_writable.ensures c.args.w.now.now c.store.new.w.now c.store-2.new.w.now c.store-3.new.w.now c.args.segment 0 c.args.bus c.from.result c.args.device c.from-2.result c.args.function
    c.in_ok-store.ensures.now c.in_ok-store-2.ensures.now c.in_ok-store-3.ensures.now three.1
