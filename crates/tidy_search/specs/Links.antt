-- The row of links, in which items are found by their keys: how a search goes, and what is true of the row when the items below v are
-- entered. No one need believe it: it carries the promise from one function to the next. Definitions only.
use Rattle.std.specs.Prelude.{ℕ, suc, ◌+◌, ◌*◌, ◌/◌, ◌%◌, ◌^◌, ◌≤◌, ◌<◌, ◌≡◌, Bool, true, List, length, get_or}
use Rattle.tidy.specs.declared.ThreeWords.{ThreeWords}

-- ---- how the keys are spread. Nothing that is found depends on it.

unfoldable pub mixed_of : ℕ → ℕ → ℕ
mixed_of h x = (h + x) * 0x4F1B_BCDD / 0x1_0000 % 0x1_0000_0000

unfoldable pub head_link : ℕ → ThreeWords → ℕ
unfolding mixed_of
head_link n k = mixed_of (mixed_of (mixed_of 0 k.a) k.b) k.c * n / 0x1_0000_0000

-- what is left of a key behind one step
unfoldable pub turned_key : ThreeWords → ThreeWords
turned_key rest = record { a = rest.b; b = rest.c; c = rest.a / 2 }

-- the link of item w by which a search goes on
unfoldable pub link_of : ℕ → ℕ → ThreeWords → ℕ
link_of n w rest = n + 2 * w + rest.a % 2

-- ---- a search

-- n is how many items there may be, key the key of each, row the links
module _ (key : ℕ → ThreeWords) (n : ℕ) (row : List ℕ) where
  -- from the link `at`, with `rest` left of it, a search for the key k comes to item w
  pub data Leads (k : ThreeWords) : ThreeWords → ℕ → ℕ → Type 0 where
    here : {rest : ThreeWords} {at w : ℕ} → get_or row at 0 ≡ suc w → key w ≡ k → Leads k rest at w
    on : {rest : ThreeWords} {at w : ℕ} (u : ℕ) → get_or row at 0 ≡ suc u → (key u ≡ k → ⊥)
        → Leads k (turned_key rest) (link_of n u rest) w → Leads k rest at w

  -- a search for k that began with its head has come to the link `at`, with `rest` left of it
  pub data Comes (k : ThreeWords) : ThreeWords → ℕ → Type 0 where
    begins : Comes k k (head_link n k)
    passes : {rest : ThreeWords} {at : ℕ} (u : ℕ) → Comes k rest at → get_or row at 0 ≡ suc u → (key u ≡ k → ⊥)
        → Comes k (turned_key rest) (link_of n u rest)

  -- a search for k has ended at the link `at`: it is 0, or names an item with that key
  pub record Ends (k : ThreeWords) (at : ℕ) : Type 0 where
    pub rest : ThreeWords
    pub comes : Comes k rest at
    pub within : at < 3 * n
    pub found : (w : ℕ) → get_or row at 0 ≡ suc w → key w ≡ k

-- no item before w has its key
abbrev pub FirstOfKey : (ℕ → ThreeWords) → ℕ → Type 0
FirstOfKey key w = (u : ℕ) → u < w → key u ≡ key w → ⊥

-- item w is named by the link `at`: it is one of those below v and the first with its key, and its own links lie behind
pub record Named (key : ℕ → ThreeWords) (n v at w : ℕ) : Type 0 where
  pub earlier : w < v
  pub first : FirstOfKey key w
  pub behind : at < n + 2 * w

-- The items below v are entered, those whose keys are to be: each that is the first with its key is found by it, and no other is named.
pub record Entered (key : ℕ → ThreeWords) (enters : ThreeWords → Bool) (n v : ℕ) (row : List ℕ) : Type 0 where
  pub few : (v ≤ n) × (n < 2 ^ 32)
  pub long : length row ≡ 3 * n
  pub names : (at w : ℕ) → get_or row at 0 ≡ suc w → Named key n v at w
  pub leads : (w : ℕ) → w < v → enters (key w) ≡ true → FirstOfKey key w → Leads key n row (key w) (key w) (head_link n (key w)) w
