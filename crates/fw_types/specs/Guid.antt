-- The GUIDs that this firmware knows by name.
use Rattle.std.specs.Prelude.{ℕ, List}
use Rattle.std.specs.Int.{to_be_bytes, w128}
use Rattle.fw_types.specs.declared.guid.Known.{Known}
use Rattle.fw_types.specs.declared.guid.Known.TheVariants.{DevicePath, LoadedImage, DriverBinding, PciIo, RootBridgeIo, BusOverride}

-- a GUID by the digits of its text form: its sixteen bytes in that order
abbrev pub guid : ℕ → List ℕ
guid digits = to_be_bytes w128 digits

-- UEFI 2.8, 'EFI Device Path Protocol', 'EFI Loaded Image Protocol', 'EFI Driver Binding Protocol',
-- 'EFI PCI I/O Protocol', 'PCI Root Bridge I/O Protocol', 'EFI Bus Specific Driver Override Protocol'
abbrev pub known_guid : Known → List ℕ
known_guid DevicePath = guid 0x09576e91_6d3f_11d2_8e39_00a0c969723b
known_guid LoadedImage = guid 0x5b1b31a1_9562_11d2_8e3f_00a0c969723b
known_guid DriverBinding = guid 0x18a031ab_b443_4d1a_a5c0_0c09261e9f71
known_guid PciIo = guid 0x4cf5b200_68b8_4ca5_9eec_b23e3f50029a
known_guid RootBridgeIo = guid 0x2f707ebb_4a1a_11d4_9a38_0090273fc14d
known_guid BusOverride = guid 0x3bc1b285_8a15_4a82_aabf_4d7d13fb3265
