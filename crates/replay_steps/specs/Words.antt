-- The text of the sample as a list of bytes (samples/README.md has the format): words of eight hex digits, each with one byte after it, so word n
-- begins at byte 9 n. What a word, a float, a point, a cell and a grid of a case are, and when a stored value is the port's. Definitions only.
use Rattle.std.specs.Prelude.{Bool, ◌&&◌, List, ℕ, ◌+◌, ◌-◌, ◌*◌, ◌/◌, ltb, leb, eqb, length, get_or, Float, if◌then◌else◌}
use Rattle.std.specs.Float.{binary32}
use Rattle.std.specs.Float.Ieee.{of_bits, to_bits}
use Rattle.c_records.specs.declared.SdfPoint.{SdfPoint}
use Rattle.c_records.specs.declared.SdfCell.{SdfCell}
use Rattle.c_records.specs.declared.SdfGrid.{SdfGrid}

-- the value of a hex digit, 0 to 9 and then a to f, and 0 of any other byte
unfoldable pub sample_digit : ℕ → ℕ
sample_digit b =
    if ltb b 48 then 0
    else (if ltb b 58 then b - 48
    else (if ltb b 97 then 0
    else (if ltb b 103 then b - 87
    else 0)))

-- two digits
unfoldable pub sample_byte : List ℕ → ℕ → ℕ
sample_byte text at = sample_digit (get_or text at 0) * 16 + sample_digit (get_or text (at + 1) 0)

-- four bytes, the highest first
unfoldable pub sample_bytes : List ℕ → ℕ → ℕ
sample_bytes text at = ((sample_byte text at * 256 + sample_byte text (at + 2)) * 256 + sample_byte text (at + 4)) * 256 + sample_byte text (at + 6)

-- word k of the case that begins with word `base`, and 0 past the end of the text
unfoldable pub sample_word : List ℕ → ℕ → ℕ → ℕ
sample_word text base k = if leb (length text / 9) (base + k) then 0 else sample_bytes text ((base + k) * 9)

-- the values that begin at word k of a case. Every NaN's pattern is the one NaN.
abbrev pub sample_real : List ℕ → ℕ → ℕ → Float
sample_real text base k = of_bits binary32 (sample_word text base k)

abbrev pub sample_point : List ℕ → ℕ → ℕ → SdfPoint
sample_point text base k = record { x = sample_real text base k; y = sample_real text base (k + 1); z = sample_real text base (k + 2) }

abbrev pub sample_cell : List ℕ → ℕ → ℕ → SdfCell
sample_cell text base k = record { x = sample_word text base k; y = sample_word text base (k + 1); z = sample_word text base (k + 2) }

-- a grid is the first that goes into a step
abbrev pub sample_grid : List ℕ → ℕ → SdfGrid
sample_grid text base =
    record { first = sample_point text base 1; size = sample_point text base 4; count = sample_cell text base 7; upright = sample_word text base 10 }

-- whether the value that begins at word k of a case is the given one, bit for bit. The NaN is written as 7fc00000.
abbrev pub is_sample_word : List ℕ → ℕ → ℕ → ℕ → Bool
is_sample_word text base k w = eqb (sample_word text base k) w

abbrev pub is_sample_real : List ℕ → ℕ → ℕ → Float → Bool
is_sample_real text base k x = eqb (sample_word text base k) (to_bits binary32 x)

abbrev pub is_sample_point : List ℕ → ℕ → ℕ → SdfPoint → Bool
is_sample_point text base k p = is_sample_real text base k p.x && is_sample_real text base (k + 1) p.y && is_sample_real text base (k + 2) p.z

abbrev pub is_sample_cell : List ℕ → ℕ → ℕ → SdfCell → Bool
is_sample_cell text base k c = is_sample_word text base k c.x && is_sample_word text base (k + 1) c.y && is_sample_word text base (k + 2) c.z
