-- The vertices that a slice holds three by three: a store behind them leaves them, three more numbers are one more vertex, and row by row
-- they are the front of the slice.
use Prim.Native.Nat.{ℕ, zero, suc, ◌+◌, ◌*◌, ◌≤◌, ◌<◌}
use native.Mathlib.Numerals.{add-one}
use native.Mathlib.Omega.{arith}
use mathlib.Core.Path.{◌≡◌, refl, sym, ap, ◌∙◌}
use mathlib.Core.List.{List, [], ◌∷◌, ◌++◌, append_assoc}
use lib.ListN.{length, get_or, take, set, length-set, length-append}
use lib.Seq.{get_or-set_same, get_or-set_other, take-suc}
use Rattle.text.specs.declared.Three.{Three}
use Rattle.text.specs.TextJob.{flat}
use Rattle.text_read_parts.specs.Told.{threes_in}

-- a store behind the first n
pub threes_kept : (n m v : ℕ) (out : List ℕ) → 3 * n ≤ m → threes_in n (set out m v) ≡ threes_in n out
unfolding threes_in
threes_kept zero m v out h = refl
threes_kept (suc n) m v out h =
    rw (threes_kept n m v out (omega arith), get_or-set_other out m (3 * n) v 0 (λ e. omega arith), get_or-set_other out m (3 * n + 1) v 0 (λ e. omega arith), get_or-set_other out m (3 * n + 2) v 0 (λ e. omega arith))

-- three stores
abbrev pub stored : List ℕ → ℕ → Three → List ℕ
stored out n t = set (set (set out (3 * n) t.x) (3 * n + 1) t.y) (3 * n + 2) t.z

pub threes_more : (n : ℕ) (t : Three) (out : List ℕ) → 3 * n + 2 < length out → threes_in (n + 1) (stored out n t) ≡ threes_in n out ++ t ∷ []
unfolding threes_in
threes_more n t out h =
    let a = set out (3 * n) t.x in
    let b = set a (3 * n + 1) t.y in
    let la : length a ≡ length out = length-set out (3 * n) t.x in
    let lb : length b ≡ length a = length-set a (3 * n + 1) t.y in
    let front : threes_in n (stored out n t) ≡ threes_in n out =
    threes_kept n (3 * n + 2) t.z b (omega arith)
    ∙ threes_kept n (3 * n + 1) t.y a (omega arith)
    ∙ threes_kept n (3 * n) t.x out (omega arith) in
    let x : get_or (stored out n t) (3 * n) 0 ≡ t.x =
    get_or-set_other b (3 * n + 2) (3 * n) t.z 0 (λ e. omega arith)
    ∙ get_or-set_other a (3 * n + 1) (3 * n) t.y 0 (λ e. omega arith)
    ∙ get_or-set_same out (3 * n) t.x 0 (omega arith) in
    let y : get_or (stored out n t) (3 * n + 1) 0 ≡ t.y =
    get_or-set_other b (3 * n + 2) (3 * n + 1) t.z 0 (λ e. omega arith) ∙ get_or-set_same a (3 * n + 1) t.y 0 (omega arith) in
    let z : get_or (stored out n t) (3 * n + 2) 0 ≡ t.z = get_or-set_same b (3 * n + 2) t.z 0 (omega arith) in
    ap (λ (k : ℕ). threes_in k (stored out n t)) (add-one n) ∙ rw (front, x, y, z)

pub threes_length : (n : ℕ) (out : List ℕ) → length (threes_in n out) ≡ n
unfolding threes_in
threes_length zero out = refl
threes_length (suc n) out = length-append (threes_in n out) _ ∙ rw (threes_length n out) (omega arith)

flat_append : (a b : List Three) → flat (a ++ b) ≡ flat a ++ flat b
unfolding flat
flat_append [] b = refl
flat_append (v ∷ a) b = ap (λ (l : List ℕ). v.x ∷ v.y ∷ v.z ∷ l) (flat_append a b)

three_taken : (m : ℕ) (l : List ℕ) → m + 2 < length l → take (m + 3) l ≡ take m l ++ (get_or l m 0 ∷ get_or l (m + 1) 0 ∷ get_or l (m + 2) 0 ∷ [])
three_taken m l h =
    let p : m + 3 ≡ suc (suc (suc m)) = omega arith in
    let q : m + 2 ≡ suc (suc m) = omega arith in
    rw (p, q, add-one, take-suc l (suc (suc m)) 0 (omega arith), take-suc l (suc m) 0 (omega arith), take-suc l m 0 (omega arith)) (simp append_assoc)

pub threes_flat : (n : ℕ) (out : List ℕ) → 3 * n ≤ length out → flat (threes_in n out) ≡ take (3 * n) out
unfolding threes_in flat
threes_flat zero out h = refl
threes_flat (suc n) out h =
    let e : 3 * n + 3 ≡ 3 * suc n = omega arith in
    flat_append (threes_in n out) _
    ∙ ap (λ (l : List ℕ). l ++ (get_or out (3 * n) 0 ∷ get_or out (3 * n + 1) 0 ∷ get_or out (3 * n + 2) 0 ∷ [])) (threes_flat n out (omega arith))
    ∙ sym (three_taken (3 * n) out (omega arith))
    ∙ ap (λ (k : ℕ). take k out) e
