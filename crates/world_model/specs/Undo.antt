-- Taking changes back: the soft part before a change, from the soft part after it and from what was noted of the
-- change; and what a mark keeps, from the changes that were noted since. Open records stay as they are: they have a log
-- of their own.
use Rattle.std.specs.Prelude.{◌≡◌, ℕ, ◌-◌, ◌<◌, ◌≤◌, Bool, true, false, ◌||◌, not, nat_eq, List, [], ◌∷◌, insert, length, nat_lt, take, filter, Option, Some, None, slice_index_or, slice_set, if◌then◌else◌}
use Rattle.std.specs.List.{list_any, range_with_len}
use Rattle.fw_types.specs.declared.limits.TheConstants.{MOST_LEVELS}
use Rattle.guest_memory.specs.declared.segment.Segment.{Segment}
use Rattle.guest_memory.specs.GuestMemory.{is_writable_range, mapped, put_bytes, unmapped}
use Rattle.fw_types.specs.Guid.{known_guid}
use Rattle.fw_types.specs.declared.guid.Known.TheVariants.{LoadedImage as LoadedImageProtocol}
use Rattle.handle_db.specs.Undoing.{install_undone, remove_undone}
use Rattle.world_model.specs.declared.change.Change.{Change}
use Rattle.world_model.specs.declared.change.Change.TheVariants.{SetTpl, Write, Put, Allot, Free, Install, Uninstall, DropImage, AddImage, MakeThunk, NoteChild, SetBusList}
use Rattle.world_model.specs.declared.bus_child.BusChild.{BusChild}
use Rattle.world_model.specs.declared.thunk.Thunk.{Thunk}
use Rattle.world_model.specs.declared.stack_levels.StackLevels.{StackLevels}
use Rattle.world_model.specs.World.{Soft, with_memory, with_tpl}
use Rattle.world_model.specs.Stacks.{has_stack, list_base, stack_base}

-- ---- one change

-- The earlier bytes are put back where they were. If no segment that drivers may write has their range, as after a
-- stack was popped, nothing changes.
abbrev pub put_if_there : (at : ℕ) → (before : List ℕ) → List Segment → List Segment
put_if_there at before segments = if is_writable_range segments at (length before) then put_bytes segments at before else segments

-- a list without its last element
abbrev pub front : {X : Type 0} → List X → List X
front xs = take (length xs - 1) xs

-- a thunk in its place by number
abbrev pub with_thunk : Thunk → List Thunk → List Thunk
with_thunk new [] = new ∷ []
with_thunk new (thunk ∷ thunks) = if nat_lt thunk.number new.number then thunk ∷ with_thunk new thunks else new ∷ thunk ∷ thunks

-- thunks that were removed, each in its place again
abbrev pub with_thunks : (gone : List Thunk) → List Thunk → List Thunk
with_thunks [] thunks = thunks
with_thunks (new ∷ gone) thunks = with_thunks gone (with_thunk new thunks)

-- a child of the bus that was removed, in its place again
abbrev pub with_child : Option (ℕ × BusChild) → List BusChild → List BusChild
with_child None children = children
with_child (Some gone) children = insert children gone.0 gone.1

-- the soft part before a change that was noted
unfoldable pub taken_back : Change → Soft → Soft
taken_back (SetTpl before) soft = with_tpl before soft
taken_back (Write at n before) soft = with_memory (put_if_there at (take n before) soft.memory) soft
taken_back (Put at before) soft = with_memory (put_if_there at before soft.memory) soft
taken_back (Allot at) soft = record soft { memory = unmapped soft.memory at; next_block = at }
taken_back (Free segment) soft = with_memory (mapped segment soft.memory) soft
taken_back (Install handle guid made) soft = record soft { database = install_undone handle guid made soft.database }
taken_back (Uninstall went) soft = record soft {
  database = remove_undone went.handle went.guid went.removed soft.database;
  bus_children = with_child went.child soft.bus_children;
}
taken_back (DropImage dropped) soft = record soft {
  memory = mapped dropped.segment (mapped dropped.block soft.memory);
  database = remove_undone dropped.image.handle (known_guid LoadedImageProtocol) dropped.removed soft.database;
  images = insert soft.images dropped.place dropped.image;
  thunks = with_thunks dropped.thunks soft.thunks;
}
taken_back (AddImage image) soft = record soft {
  memory = unmapped (unmapped soft.memory image.base) image.block;
  database = install_undone image.handle (known_guid LoadedImageProtocol) true soft.database;
  images = front soft.images;
  next_image = image.base;
  next_block = image.block;
}
taken_back MakeThunk soft = record soft { thunks = front soft.thunks; next_thunk = soft.next_thunk - 1 }
taken_back (NoteChild count) soft = record soft { bus_children = take count soft.bus_children }
taken_back (SetBusList function before) soft = record soft { bus_lists = slice_set soft.bus_lists function before }

-- the soft part before some changes, the last of which comes first
unfoldable pub undone : List Change → Soft → Soft
undone [] soft = soft
undone (change ∷ changes) soft = undone changes (taken_back change soft)

-- ---- what a mark keeps

-- whether an address is that of the stack, or of the list of children, of one of some levels
abbrev pub is_of_levels : List ℕ → (base : ℕ) → Bool
is_of_levels levels base = list_any (λ (level : ℕ). nat_eq base (stack_base level) || nat_eq base (list_base level)) levels

-- the soft part without the stacks, and lists of children, of some levels
abbrev pub without_stacks : (levels : List ℕ) → Soft → Soft
without_stacks levels soft = with_memory (filter (λ (segment : Segment). not (is_of_levels levels segment.base)) soft.memory) soft

-- whether a level had a stack
abbrev pub had_stack : StackLevels → (level : ℕ) → Bool
had_stack levels level = slice_index_or levels.has_stack level false

-- the levels that had none
abbrev pub later_levels : StackLevels → List ℕ
later_levels levels = filter (λ (level : ℕ). not (had_stack levels level)) (range_with_len 1 MOST_LEVELS)

-- whether these are the levels that have a stack
abbrev pub AreLevelsOf : StackLevels → Soft → Type 0
AreLevelsOf levels soft = (level : ℕ) → 0 < level → level ≤ MOST_LEVELS → had_stack levels level ≡ has_stack level soft.memory

-- What a mark keeps, by the levels that had a stack when it was made: the changes since are taken back. The stacks of
-- other levels were pushed since, which is noted nowhere, so they are left out first.
abbrev pub kept_by : StackLevels → (since : List Change) → Soft → Soft
kept_by levels since soft = undone since (without_stacks (later_levels levels) soft)
