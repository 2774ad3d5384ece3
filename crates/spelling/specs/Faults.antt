-- The faults of a decoder of digits.
use Rattle.hex.specs.declared.error.FromHexError.{FromHexError}
use Rattle.hex.specs.declared.error.FromHexError.TheVariants.{InvalidHexCharacter, InvalidStringLength, OddLength, OutOfMemory}
use Rattle.spelling.specs.declared.fault.SpellingFault.{SpellingFault}
use Rattle.spelling.specs.declared.fault.SpellingFault.TheVariants.{Malformed, Memory}
use Rattle.std.specs.Prelude.{alloc_error}

-- memory that ran out, and any other fault as a word that spells nothing
abbrev pub fault_of : FromHexError → SpellingFault
fault_of (InvalidHexCharacter c at) = Malformed
fault_of OddLength = Malformed
fault_of InvalidStringLength = Malformed
fault_of OutOfMemory = Memory alloc_error
