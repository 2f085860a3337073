-- "80 bytes ignored", "normals and attribute bytes are not used", "a header that begins with 'solid' means nothing" (document 02, §1): two files
-- that differ nowhere else. Definitions only.
use Rattle.std.specs.Prelude.{ℕ, ◌+◌, ◌<◌, ◌≡◌, List, length, get_or}
use Rattle.stl.specs.File.{length_for}

pub record Alike (file other : List ℕ) : Type 0 where
  pub long : length file ≡ length other
  -- the four bytes of the count
  pub count : (i : ℕ) → i < 4 → get_or file (80 + i) 0 ≡ get_or other (80 + i) 0
  -- the 36 bytes of each facet's corners
  pub corners : (k i : ℕ) → i < 36 → get_or file (length_for k + (12 + i)) 0 ≡ get_or other (length_for k + (12 + i)) 0
