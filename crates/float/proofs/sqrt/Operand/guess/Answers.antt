-- `float::sqrt::Operand::guess` meets its contract: the pattern that it makes is no NaN's, and of the result only the range is said.
use Rattle.std.proofs.Common.{◌≤◌, arith}
use Rattle.float.proofs.sqrt.Guessed.{plain, read}
use Rattle.float.proofs.sqrt.Operand.guess.Goals as goal
use Rattle.float.proofs.sqrt.Operand.guess.Goals.{else-m-lt9007199254740992, then-m-lt9007199254740992}

bits_le : (c : goal.Joined-m-lt9007199254740992) → c.if-m-lt9007199254740992.bits ≤ 0x4350_0000_0000_0000
bits_le c = elim c.if-m-lt9007199254740992.branch [ then-m-lt9007199254740992 w ↦ omega arith | else-m-lt9007199254740992 w ↦ omega arith ]

pub float_from_bits-bits : goal.float_from_bits-bits
float_from_bits-bits c = plain c.if-m-lt9007199254740992.bits (omega (arith, bits_le c))

pub estimate-g-requires : goal.estimate-g-requires
estimate-g-requires c = read c.if-m-lt9007199254740992.bits (omega (arith, bits_le c))
