-- The entry that fills the gap which the first leaves. Nothing here is part of what a caller must believe. Definitions only.
use Rattle.std.specs.Prelude.{ℕ, zero, suc}
use Rattle.queue.specs.declared.Entry.{Entry}
use Rattle.queue.specs.Queue.{blank}

-- e, or nothing where none is left
abbrev pub kept_of : Entry → ℕ → Entry
kept_of e zero = blank
kept_of e (suc m) = e
