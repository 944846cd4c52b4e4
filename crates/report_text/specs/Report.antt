-- The report: first a line for each function of the board whose option ROM could not be read. Then for
-- each command a line with its words, its events, what became of its images, the end of a ROM, a dump,
-- and its status with its units.
use Rattle.std.specs.Prelude.{ℕ, ◌+◌, ◌-◌, List, [], ◌∷◌, ◌++◌, Bool, true, false, Option, Some, None, codes, length, map, replicate}
use Rattle.std.specs.List.{flat_map, join_with_byte}
use Rattle.std.specs.Fmt.{decimal, digits}
use Rattle.uuid.specs.Text.{hyphenated_text, lower}
use Rattle.fw_types.specs.Status.{name_of}
use Rattle.fw_types.specs.declared.status.Status.{Status}
use Rattle.fw_types.specs.declared.command.Command.{Command}
use Rattle.fw_types.specs.declared.command.Command.TheVariants.{Load, Connect, Disconnect, Unload, Platform, Budget, Dump}
use Rattle.fw_types.specs.declared.command.PathArg.{PathArg}
use Rattle.fw_types.specs.declared.command.PathArg.TheVariants.{Null, End, Pci}
use Rattle.fw_types.specs.declared.event.Cause.{Cause}
use Rattle.fw_types.specs.declared.event.Cause.TheVariants as cause
use Rattle.fw_types.specs.declared.event.EventKind.{EventKind}
use Rattle.fw_types.specs.declared.event.EventKind.TheVariants as kind
use Rattle.fw_types.specs.declared.event.Outcome.{Outcome}
use Rattle.fw_types.specs.declared.event.Outcome.TheVariants.{Value, Trapped}
use Rattle.fw_types.specs.declared.event.Event.{Event}
use Rattle.fw_types.specs.declared.image.PeRefusal.{PeRefusal}
use Rattle.fw_types.specs.declared.image.PeRefusal.TheVariants as refusal
use Rattle.fw_types.specs.declared.image.RomEnd.{RomEnd}
use Rattle.fw_types.specs.declared.image.RomEnd.TheVariants.{Done, BadSignature, BadPcir, LengthZero, PastEnd}
use Rattle.fw_types.specs.declared.image.ImageNote.{ImageNote}
use Rattle.fw_types.specs.declared.image.ImageNote.TheVariants.{Loaded, Failed, Refused, Compressed, Skipped}
use Rattle.fw_types.specs.declared.image.RomNote.{RomNote}
use Rattle.fw_types.specs.declared.image.RomNoteKind.{RomNoteKind}
use Rattle.fw_types.specs.declared.image.RomNoteKind.TheVariants.{Missing, TooLong}
use Rattle.fw_types.specs.declared.dump.DumpLine.{DumpLine}
use Rattle.fw_types.specs.declared.dump.DumpLine.TheVariants.{Handle, Proto, Entry}
use Rattle.fw_types.specs.declared.reply.Reply.{Reply}

-- Words.

-- lower-case hexadecimal digits without leading zeros
abbrev pub hex : ℕ → List ℕ
hex n = digits 16 false n

-- sixteen of them, with leading zeros
abbrev pub hex_16 : ℕ → List ℕ
hex_16 n = replicate (16 - length (hex n)) 48 ++ hex n

-- a status by its name, or by its value
abbrev pub name_or_value : Option (List ℕ) → ℕ → List ℕ
name_or_value (Some name) value = name
name_or_value None value = codes "0x" ++ hex_16 value

abbrev pub status_word : Status → List ℕ
status_word status = name_or_value (name_of status) status.0

abbrev pub cause_word : Cause → List ℕ
cause_word cause.Illegal = codes "Illegal"
cause_word cause.Fetch = codes "Fetch"
cause_word cause.Memory = codes "Memory"
cause_word cause.Align = codes "Align"
cause_word cause.Divide = codes "Divide"
cause_word cause.Break = codes "Break"
cause_word cause.BadCall = codes "BadCall"
cause_word cause.Nest = codes "Nest"
cause_word cause.Budget = codes "Budget"
cause_word cause.Thunks = codes "Thunks"

abbrev pub outcome_word : Outcome → List ℕ
outcome_word (Value status) = status_word status
outcome_word (Trapped cause) = codes "trap:" ++ cause_word cause

abbrev pub kind_word : EventKind → List ℕ
kind_word kind.Entry = codes "entry"
kind_word kind.Supported = codes "supported"
kind_word kind.Start = codes "start"
kind_word kind.Stop = codes "stop"
kind_word kind.Unload = codes "unload"
kind_word kind.Connect = codes "connect"
kind_word kind.Disconnect = codes "disconnect"

abbrev pub refusal_word : PeRefusal → List ℕ
refusal_word refusal.Short = codes "Short"
refusal_word refusal.NoMz = codes "NoMz"
refusal_word refusal.NoPe = codes "NoPe"
refusal_word refusal.Machine = codes "Machine"
refusal_word refusal.Magic = codes "Magic"
refusal_word refusal.Subsystem = codes "Subsystem"
refusal_word refusal.Stripped = codes "Stripped"
refusal_word refusal.Size = codes "Size"
refusal_word refusal.Headers = codes "Headers"
refusal_word refusal.Section = codes "Section"
refusal_word refusal.Reloc = codes "Reloc"
refusal_word refusal.Entry = codes "Entry"

abbrev pub end_word : RomEnd → List ℕ
end_word Done = codes "Done"
end_word BadSignature = codes "BadSignature"
end_word BadPcir = codes "BadPcir"
end_word LengthZero = codes "LengthZero"
end_word PastEnd = codes "PastEnd"

abbrev pub rom_note_word : RomNoteKind → List ℕ
rom_note_word Missing = codes "missing"
rom_note_word TooLong = codes "too-long"

-- where a function is: its bus, its device and its function number
abbrev pub location_word : (bus device function : ℕ) → List ℕ
location_word bus device function = decimal bus ++ codes ":" ++ decimal device ++ codes "." ++ decimal function

-- `all` for a recursive connection
abbrev pub recursion_word : Bool → List ℕ
recursion_word true = codes "all"
recursion_word false = codes "one"

abbrev pub path_word : PathArg → List ℕ
path_word Null = codes "none"
path_word End = codes "end"
path_word (Pci device function) = codes "pci:" ++ decimal device ++ codes "." ++ decimal function

-- Lines: words with one space between them, and a line feed.

abbrev pub line : List (List ℕ) → List ℕ
line words = join_with_byte 32 words ++ 10 ∷ []

abbrev pub rom_note_line : RomNote → List ℕ
rom_note_line note = line (codes "rom" ∷ location_word note.bus note.device note.function ∷ rom_note_word note.kind ∷ [])

-- the text of the opening: the notes, in their order
abbrev pub boot_text : List RomNote → List ℕ
boot_text notes = flat_map rom_note_line notes

abbrev pub command_words : Command → List (List ℕ)
command_words (Load name) = codes "load" ∷ name ∷ []
command_words (Connect controller recursive path context) = codes "connect" ∷ decimal controller ∷ recursion_word recursive ∷ path_word path ∷ map decimal context
command_words (Disconnect controller driver child) = codes "disconnect" ∷ decimal controller ∷ decimal driver ∷ decimal child ∷ []
command_words (Unload image) = codes "unload" ∷ decimal image ∷ []
command_words (Platform controller drivers) = codes "platform" ∷ decimal controller ∷ map decimal drivers
command_words (Budget all call) = codes "budget" ∷ decimal all ∷ decimal call ∷ []
command_words Dump = codes "dump" ∷ []

abbrev pub event_line : Event → List ℕ
event_line event = line (decimal event.serial ∷ decimal event.parent ∷ kind_word event.kind ∷ decimal event.driver ∷ decimal event.controller ∷ decimal event.extra ∷ outcome_word event.result ∷ [])

abbrev pub note_words : ImageNote → List (List ℕ)
note_words (Loaded handle) = codes "handle" ∷ decimal handle ∷ []
note_words (Failed status) = status_word status ∷ []
note_words (Refused refusal) = codes "refused" ∷ refusal_word refusal ∷ []
note_words Compressed = codes "compressed" ∷ []
note_words Skipped = codes "skipped" ∷ []

-- images count from 1
abbrev pub image_lines : ℕ → List ImageNote → List ℕ
image_lines number [] = []
image_lines number (note ∷ notes) = line (codes "image" ∷ decimal number ∷ note_words note) ++ image_lines (number + 1) notes

abbrev pub rom_line : Option RomEnd → List ℕ
rom_line None = []
rom_line (Some end) = line (codes "rom" ∷ end_word end ∷ [])

abbrev pub dump_words : DumpLine → List (List ℕ)
dump_words (Handle handle) = codes "handle" ∷ decimal handle ∷ []
dump_words (Proto guid interface owner) = codes "proto" ∷ hyphenated_text lower guid ∷ (codes "0x" ++ hex interface) ∷ decimal owner ∷ []
dump_words (Entry agent controller attr count) = codes "open" ∷ decimal agent ∷ decimal controller ∷ (codes "0x" ++ hex attr) ∷ decimal count ∷ []

abbrev pub dump_line : DumpLine → List ℕ
dump_line entry = line (dump_words entry)

-- the text of a command and its reply
abbrev pub reply_text : Command → Reply → List ℕ
reply_text command reply =
    line (codes ">" ∷ command_words command)
    ++ flat_map event_line reply.events
    ++ image_lines 1 reply.images
    ++ rom_line reply.rom
    ++ flat_map dump_line reply.dump
    ++ line (codes "=" ∷ status_word reply.status ∷ decimal reply.units ∷ [])
