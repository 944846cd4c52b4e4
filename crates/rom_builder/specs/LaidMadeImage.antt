-- What a made image has once it is laid: itself, with the base address added at each relocation (PE/COFF:
-- Base Relocation Types).
use Rattle.std.specs.Prelude.{ℕ, ◌+◌, ◌%◌, ◌^◌, List}
use Rattle.byteorder.specs.Endian.{little_bytes}
use Rattle.fw_types.specs.Layout.{put, uint64_at}

-- an image with a base address added to the 8 bytes at a place, in 64 bits that wrap
abbrev pub with_base : ℕ → List ℕ → ℕ → List ℕ
with_base base image place = put place (little_bytes 8 ((uint64_at place image + base) % 2 ^ 64)) image
