-- `stl::word`: four bytes, the least first, come to the word that they are (`u32_of`). Assumes nothing.
use native.Mathlib.Omega.{arith}
use Rattle.stl.specs.File.{u32_at}
use Rattle.stl.proofs.word.Goals as goal

pub returns : goal.returns
unfolding u32_at
returns c = omega (arith, c.from_le_bytes.ensures)
