-- How the functions of the reader tell what they found: a value, and a place of the text, behind which the rest stands. Definitions only.
use Rattle.std.specs.Prelude.{ℕ, List, drop, Option, Some, None}
use Rattle.text.specs.Reader.{Got, took, nothing}
use Rattle.text_read_words.specs.declared.Read.{Read}

-- a value that the place alone tells
abbrev pub got_next : {A : Type 0} → A → List ℕ → Option ℕ → Got A
got_next a text (Some k) = took a (drop k text)
got_next a text None = nothing

abbrev pub got : {A : Type 0} → List ℕ → Option (Read A) → Got A
got text (Some r) = took r.value (drop r.next text)
got text None = nothing
