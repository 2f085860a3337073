-- `tidy_squeeze::renumber`: three marks, each less one. Assumes nothing.
use Prim.Native.Nat.{ℕ, ◌-◌}
use mathlib.Core.Path.{◌≡◌, ap, ◌∙◌}
use Rattle.mesh_topology.specs.Topology.{triangle}
use Rattle.tidy.specs.Numbers.{renumbered}
use Rattle.tidy_squeeze.proofs.renumber.Goals as goal

less : {x y z : ℕ} → x ≡ y - 1 → y ≡ z → x ≡ z - 1
less e f = e ∙ ap (λ (k : ℕ). k - 1) f

make : {x y z x' y' z' : ℕ} → x ≡ x' → y ≡ y' → z ≡ z' → triangle x y z ≡ triangle x' y' z'
make e f g = cc

pub returns : goal.returns
unfolding renumbered
returns c =
    make (less c.less_one.ensures c.number_at.ensures) (less c.less_one-2.ensures c.number_at-2.ensures) (less c.less_one-3.ensures c.number_at-3.ensures)
