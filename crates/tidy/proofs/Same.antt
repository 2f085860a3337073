-- Three numbers are the same just where the test says so. Assumes nothing.
use Prim.Native.Nat.{ℕ}
use mathlib.Core.Path.{◌≡◌, sym, ap, ap₂, ◌∙◌}
use mathlib.Core.Bool.{Bool, true, ◌&&◌, and-eq-true_iff}
use lib.Dec.{eqb}
use borrow.Author.Tests.{eqb-true, eq-eqb}
use Rattle.std.proofs.Math.Bool.{and_assoc}
use Rattle.tidy.specs.declared.ThreeWords.{ThreeWords}
use Rattle.tidy.specs.Same.{same_words}

pub threes : {x y : ThreeWords} → x.a ≡ y.a → x.b ≡ y.b → x.c ≡ y.c → x ≡ y
threes e f g = λ i. record { a = e i; b = f i; c = g i }

-- that is what `==` tells of them
pub same_told : {k l x y : ThreeWords} {told : Bool} → told ≡ (eqb x.a y.a && (eqb x.b y.b && eqb x.c y.c)) → x ≡ k → y ≡ l → same_words k l ≡ told
unfolding same_words
same_told {x = x} {y} e f g = sym (ap₂ same_words f g) ∙ and_assoc (eqb x.a y.a) (eqb x.b y.b) (eqb x.c y.c) ∙ sym e

pub same_eq : (x y : ThreeWords) → same_words x y ≡ true → x ≡ y
unfolding same_words
same_eq x y h =
    let p = (and-eq-true_iff (eqb x.a y.a && eqb x.b y.b) (eqb x.c y.c)).0 h in
    let q = (and-eq-true_iff (eqb x.a y.a) (eqb x.b y.b)).0 p.0 in
    threes (eqb-true x.a y.a q.0) (eqb-true x.b y.b q.1) (eqb-true x.c y.c p.1)

pub eq_same : (x y : ThreeWords) → x ≡ y → same_words x y ≡ true
unfolding same_words
eq_same x y e = rw (eq-eqb x.a y.a (ap a e), eq-eqb x.b y.b (ap b e), eq-eqb x.c y.c (ap c e))
  where
    a : ThreeWords → ℕ
    a t = t.a

    b : ThreeWords → ℕ
    b t = t.b

    c : ThreeWords → ℕ
    c t = t.c
