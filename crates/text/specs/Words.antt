-- "Floats are eight lower-case hex digits of their bits, other numbers decimal up to 4,294,967,295 without leading zeros, one space
-- between, LF after every line" (document 01, "One job, one listing"). A text is the list of its bytes. Definitions only.
use Rattle.std.specs.Prelude.{ℕ, zero, suc, ◌+◌, ◌/◌, ◌%◌, cond, List, [], ◌∷◌, ◌++◌, ltb}
use Prim.Native.Char.{code}
use Prim.Native.String.{String, [] as []ˢ, ◌∷◌ as ◌∷ˢ◌}
use Rattle.lists.specs.Joined.{each}

-- the bytes of a word of this text, all of whose characters are ASCII
abbrev pub bytes : String → List ℕ
bytes []ˢ = []
bytes (c ∷ˢ s) = code c ∷ bytes s

abbrev pub space : ℕ
space = 32

abbrev pub lf : ℕ
lf = 10

-- ---- numbers

-- The decimal digits of n: those of n / 10, where it is above 0, and then the last one. At most k digits stand before the last, so these
-- are all of them where n is below 10 ^ (k + 1).
unfoldable pub digits : ℕ → ℕ → List ℕ
digits zero n = (48 + n) ∷ []
digits (suc k) n = cond (ltb n 10) ((48 + n) ∷ []) (digits k (n / 10) ++ (48 + n % 10) ∷ [])

-- "decimal .. without leading zeros": 0 is "0". Every number of a text is at most 4,294,967,295, which has ten digits.
abbrev pub decimal : ℕ → List ℕ
decimal n = digits 9 n

-- The same of a count in a listing that may pass 32 bits: it is at most 18,446,744,073,709,551,615, which has twenty digits.
abbrev pub decimal_long : ℕ → List ℕ
decimal_long n = digits 19 n

-- the lower-case hex digit of a number below 16: 0 to 9, then a to f
abbrev pub hex_digit : ℕ → ℕ
hex_digit n = cond (ltb n 10) (48 + n) (87 + n)

-- the last k hex digits of b
unfoldable pub hex : ℕ → ℕ → List ℕ
hex zero b = []
hex (suc k) b = hex k (b / 16) ++ hex_digit (b % 16) ∷ []

-- "eight lower-case hex digits of their bits"
abbrev pub hex8 : ℕ → List ℕ
hex8 b = hex 8 b

-- ---- lines

-- "one space between"
abbrev pub spaced : List ℕ → List ℕ → List ℕ → List ℕ
spaced a b c = a ++ space ∷ b ++ space ∷ c

-- a line: its key, its value, "LF after every line"
unfoldable pub line : String → List ℕ → List ℕ
line key value = bytes key ++ value ++ lf ∷ []

-- a line for each value of a list, in order
abbrev pub lines : {A : Type 0} → (A → List ℕ) → List A → List ℕ
lines f xs = each f xs
