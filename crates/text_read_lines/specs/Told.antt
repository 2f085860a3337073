-- How a function tells of a line that may be left out: of such a line there is always a value, and a place of the text, behind which the rest
-- stands. Definitions only.
use Rattle.std.specs.Prelude.{ℕ, List, drop}
use Rattle.text.specs.Reader.{Got, took}
use Rattle.text_read_words.specs.declared.Read.{Read}

abbrev pub got_always : {A : Type 0} → List ℕ → Read A → Got A
got_always text r = took r.value (drop r.next text)
