-- What was put at the front of a lent part of a slice was put into the slice, where the part begins. Assumes nothing.
use Prim.Native.Nat.{ℕ, ◌+◌, ◌≤◌}
use native.Mathlib.Omega.{arith}
use mathlib.Core.Path.{◌≡◌, sym, ap, ◌∙◌}
use mathlib.Core.List.{List, ◌++◌}
use lib.ListN.{length, take, drop, take-append-drop}
use lib.Seq.{length-take-le, take-add, drop-drop, take-append-le, drop-append-le, drop_at}
use borrow.Rule.Slice.PartMut.{mid_of, post_of, put_mid, same_len_mid, take_put}
use Rattle.lists.specs.Put.{Put}
use Rattle.lists.proofs.Puts.{inside}

pub within : {A : Type 0} (old part xs : List A) (at k r : ℕ) → at ≤ length old
    → Put (mid_of at k old) 0 xs part r
    → Put old at xs (put_mid at k old part) (at + r)
within {A} old part xs at k r h p =
    record {
      next = omega (arith, p.next);
      long = same_len_mid at k old part p.long;
      front =
          take-add at r new
          ∙ ap (λ l. l ++ take r (drop at new)) (take_put at k old part h)
          ∙ ap (λ l. take at old ++ l) (ap (take r) behind ∙ take-append-le r part (post_of at k old) fits ∙ p.front);
      back =
          sym (drop-drop r at new)
          ∙ ap (drop r) behind
          ∙ drop-append-le r part (post_of at k old) fits
          ∙ ap (λ l. l ++ post_of at k old) p.back
          ∙ sym (drop-append-le r (mid_of at k old) (post_of at k old) (omega (arith, fits, p.long)))
          ∙ ap (drop r) (take-append-drop k (drop at old))
          ∙ drop-drop r at old;
    }
  where
    new : List A
    new = put_mid at k old part

    behind : drop at new ≡ part ++ post_of at k old
    behind = drop_at (take at old) (part ++ post_of at k old) at (length-take-le at old h)

    fits : r ≤ length part
    fits = inside (omega arith) p
