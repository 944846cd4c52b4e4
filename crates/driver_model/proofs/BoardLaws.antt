-- No move changes the lines of the board, the option ROMs, or how many bus lists there are.
use Rattle.std.proofs.Common.{◌≡◌, ℕ, Bool, true, false, length, List, Some, None, refl, ap, sym, ◌∙◌, nat_lt}
use Rattle.std.specs.Prelude.{is_ok, Option}
use Rattle.std.proofs.lemmas.List.{length-set}
use Rattle.guest_memory.specs.declared.segment.SegKind.TheVariants.{Firmware}
use Rattle.world_model.specs.Blocks.{free_answer}
use Rattle.world_model.specs.Images.{image_of}
use Rattle.world_model.specs.ImageSweep.{image_swept, swept_of}
use Rattle.world_model.specs.NewChild.{child_added, has_rom, path_below}
use Rattle.world_model.specs.World.{Hard, Soft, State}
use Rattle.world_model.specs.declared.image.LoadedImage.{LoadedImage}
use Rattle.service_model.proofs.UntouchedParts.{lines-stay, looks-leave-lists, looks-spend-nothing}
use Rattle.pci_model.specs.BoardLines.{functions}
use Rattle.driver_model.specs.Moves.{Move, adds_child, begins_event, caps, changed, drops_all, ends_event, frees, lists_images, looks_again, pays, puts_back, returns, serves}
use Rattle.driver_model.specs.Allowed.{is_allowed}
use Rattle.driver_model.specs.BoardLaws.{BoardStays, BusListsStay, HasSameBoard}
use Rattle.driver_model.specs.BusChildren.{firmware_block_freed}
use Rattle.driver_model.specs.Chains.{begins, joined, moves, none, on_stack, sets_aside, undoes}
use Rattle.driver_model.proofs.Keeping.{choose_by}

-- ---- changes of the soft part

abbrev lists : Soft → List (Option (List ℕ))
lists soft = soft.bus_lists

swept_lists : (found : Option LoadedImage) (soft : Soft) → lists (swept_of found soft) ≡ lists soft
swept_lists None soft = refl
swept_lists (Some image) soft = refl

sweeping : (image : ℕ) (soft : Soft) → lists (image_swept image soft) ≡ lists soft
unfolding image_swept
sweeping image soft = swept_lists (image_of image soft.images) soft

noting : (function : ℕ) (rom : Bool) (path : List ℕ) (soft : Soft) → lists (child_added path rom function soft) ≡ lists soft
noting function true path soft = choose_by (λ (s : Soft). lists s ≡ lists soft) (nat_lt function (length soft.bus_lists)) _ _ (λ is. refl) (λ is. refl)
noting function false path soft = choose_by (λ (s : Soft). lists s ≡ lists soft) (nat_lt function (length soft.bus_lists)) _ _ (λ is. refl) (λ is. refl)

freeing : (at : ℕ) (soft : Soft) → lists (firmware_block_freed at soft) ≡ lists soft
freeing at soft = choose_by (λ (s : Soft). lists s ≡ lists soft) (is_ok (free_answer at Firmware soft)) _ _ (λ is. refl) (λ is. refl)

-- ---- a move

same : (w : State) → HasSameBoard w w
same w = record { lines = refl; roms = refl; lists = refl }

soft_alone : (old new : State) → new.hard ≡ old.hard → lists new.soft ≡ lists old.soft → HasSameBoard old new
soft_alone old new hard soft = record {
  lines = ap (λ (hard : Hard). hard.board.lines) hard;
  roms = ap (λ (hard : Hard). hard.roms) hard;
  lists = ap length soft;
}

moving : (move : Move) (w : State) → is_allowed move w ≡ true → HasSameBoard w (changed move w)
moving (pays price) w can = record { lines = refl; roms = refl; lists = refl }
moving (caps most) w can = record { lines = refl; roms = refl; lists = refl }
moving (returns aside) w can = record { lines = refl; roms = refl; lists = refl }
moving (begins_event parent kind driver controller extra) w can = record { lines = refl; roms = refl; lists = refl }
moving (ends_event serial outcome) w can = record { lines = refl; roms = refl; lists = refl }
moving (serves service caller) w can =
    let stay = lines-stay service caller w in
    record { lines = stay.0; roms = stay.1.0; lists = ap length stay.1.1 }
moving (looks_again opening) w can = soft_alone w _ (looks-spend-nothing opening w) (looks-leave-lists opening w)
moving (drops_all image) w can = soft_alone w _ refl (sweeping image w.soft)
moving (adds_child controller function) w can = soft_alone w _ refl (noting function (has_rom function w) (path_below controller function w) w.soft)
moving (lists_images function images) w can = record { lines = refl; roms = refl; lists = length-set w.soft.bus_lists function (Some images) }
moving (frees at) w can = soft_alone w _ refl (freeing at w.soft)
moving (puts_back before) w can = absurd cc
moving move w can = soft_alone w (changed move w) refl refl

-- ---- chains

after : (one two three : State) → HasSameBoard one two → HasSameBoard two three → HasSameBoard one three
after one two three first second = record {
  lines = second.lines ∙ first.lines;
  roms = second.roms ∙ first.roms;
  lists = second.lists ∙ first.lists;
}

pub board_stays : BoardStays
board_stays first last (none w) = same w
board_stays first last (joined one next two left right) = after one next two (board_stays one next left) (board_stays next two right)
board_stays first last (moves move w can) = moving move w can
board_stays first last (begins parent kind driver controller extra w paid) = record { lines = refl; roms = refl; lists = refl }
board_stays first last (sets_aside most w end inner) =
    let stays = board_stays _ end inner in
    record { lines = stays.lines; roms = stays.roms; lists = stays.lists }
board_stays first last (on_stack level slots children w end less long inner) =
    let stays = board_stays _ end inner in
    record { lines = stays.lines; roms = stays.roms; lists = stays.lists }
board_stays first last (undoes w end inner) =
    let stays = board_stays w end inner in
    record { lines = stays.lines; roms = stays.roms; lists = refl }

pub bus_lists_stay : BusListsStay
bus_lists_stay first last chain has =
    let stays = board_stays first last chain in
    stays.lists ∙ has ∙ ap (λ lines. length (functions lines)) (sym stays.lines)
