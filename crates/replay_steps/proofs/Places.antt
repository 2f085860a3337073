-- A word of the text by the test that chooses its case: past the end it is 0, and else its four bytes. Assumes nothing.
use mathlib.Core.Path.{◌≡◌}
use mathlib.Core.List.{List}
use Prim.Native.Nat.{ℕ, ◌+◌, ◌*◌, ◌/◌, ◌≤◌, ◌<◌}
use lib.ListN.{length}
use borrow.Author.Tests.{le-leb, lt-leb}
use Rattle.replay_steps.specs.Words.{sample_byte, sample_bytes, sample_word}

pub word_past : (text : List ℕ) (base k : ℕ) → length text / 9 ≤ base + k → 0 ≡ sample_word text base k
unfolding sample_word
word_past text base k h = rw (le-leb (length text / 9) (base + k) h)

pub word_here : (text : List ℕ) (base k a b c d : ℕ) → base + k < length text / 9
    → a ≡ sample_byte text ((base + k) * 9)
    → b ≡ sample_byte text ((base + k) * 9 + 2)
    → c ≡ sample_byte text ((base + k) * 9 + 4)
    → d ≡ sample_byte text ((base + k) * 9 + 6)
    → ((a * 256 + b) * 256 + c) * 256 + d ≡ sample_word text base k
unfolding sample_word sample_bytes
word_here text base k a b c d h p q r s = rw (lt-leb (length text / 9) (base + k) h, p, q, r, s)
