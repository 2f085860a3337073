-- How a program answers a text: what it owes is put at the front of lent bytes. Definitions only.
use Rattle.std.specs.Prelude.{ℕ, ◌≤◌, ◌≡◌, List, length, take}
use Rattle.lists.specs.Put.{Put}
use Rattle.text.specs.Words.{decimal, line}

-- a number alone, or before what follows it
abbrev pub answer_line : ℕ → List ℕ
answer_line n = line "answer=" (decimal n)

-- the first n bytes of `new` are what the program owes the input, and the others are those of `old`
pub record Answered (Owes : List ℕ → List ℕ → Type 0) (input old new : List ℕ) (n : ℕ) : Type 0 where
  pub output : List ℕ
  pub owes : Owes input output
  pub put : Put old 0 output new n

-- n counts bytes at the front of xs. The second part follows from the first; a caller that cuts xs there asks for both.
abbrev pub Front : ℕ → List ℕ → Type 0
Front n xs = (n ≤ length xs) × (n ≡ length (take n xs))
