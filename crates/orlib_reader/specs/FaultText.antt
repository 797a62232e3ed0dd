-- The text of a fault.
use Rattle.std.specs.Prelude.{ℕ, List, ◌++◌, codes, decimal}
use Rattle.orlib_reader.specs.declared.fault.InputFault.{InputFault}
use Rattle.orlib_reader.specs.declared.fault.InputFault.TheVariants.{Empty, BadToken, Size, Cost, Index, Truncated, Extra, TooLong, Read, Memory}

-- the line that reports a fault, without its line feed
abbrev pub fault_text : InputFault → List ℕ
fault_text Empty = codes "input: empty"
fault_text (BadToken place) = codes "input: bad number at byte " ++ decimal place
fault_text Size = codes "input: size out of range"
fault_text (Cost place) = codes "input: cost out of range at byte " ++ decimal place
fault_text (Index place) = codes "input: index out of range at byte " ++ decimal place
fault_text (Truncated count) = codes "input: truncated after " ++ decimal count ++ codes " numbers"
fault_text (Extra place) = codes "input: extra data at byte " ++ decimal place
fault_text TooLong = codes "input: longer than 1073741824 bytes"
fault_text Read = codes "device: read failed"
fault_text Memory = codes "memory refused"
