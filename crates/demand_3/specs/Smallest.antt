-- "The entry with the smallest distance is taken; equal: the larger cell" (document 01, "The run", 3), and with signs: "magnitude, then positive
-- first, then larger cell" (document 02, §8), of every pop of a run and in floats. No third key is asked for: two waiting entries never agree in
-- both distance and cell (`never_agree`, proofs/States.antt). Definitions only; proofs/Smallest.antt shows it of every job that comes to its run
-- (`smallest_taken`).
use Rattle.std.specs.Prelude.{◌<◌, ◌≡◌, true, Float}
use mathlib.Core.List.{List, ◌∷◌, Memᴰ}
use Rattle.float.specs.Arith.{◌≦◌, ◌≐◌}
use Rattle.float.specs.Steps.{abs_of, sign_bit}
use Rattle.float_order.specs.Nearer.{key_of}
use Rattle.queue.specs.declared.Entry.{Entry}
use Rattle.run.specs.Run.{RunInput, State}
use Rattle.demand_3.specs.States.{BeforePop}

-- the distance of an entry's triangle from its cell. With Raycast it has no sign bit, and is its own magnitude
abbrev pub distance_of : RunInput → Entry → Float
distance_of g e = g.distance e.triangle e.cell

-- two entries have one magnitude
abbrev pub Level : RunInput → Entry → Entry → Type 0
Level g e x = (abs_of (distance_of g e) ≐ abs_of (distance_of g x)) ≡ true

-- entry e, where the entries w wait besides
pub record Smallest (g : RunInput) (e : Entry) (w : List Entry) : Type 0 where
  -- it holds the key of its distance
  pub is_key : e.distance ≡ key_of (distance_of g e)
  pub at_most_each : (x : Entry) → Memᴰ x w → (abs_of (distance_of g e) ≦ abs_of (distance_of g x)) ≡ true
  pub positive_first_lem : (x : Entry) → Memᴰ x w → Level g e x → sign_bit (distance_of g e) ≡ true → sign_bit (distance_of g x) ≡ true
  pub larger_cell : (x : Entry) → Memᴰ x w → Level g e x → sign_bit (distance_of g e) ≡ sign_bit (distance_of g x) → x.cell < e.cell

-- before each pop of the run, of the entry that it takes: the first of those that wait
abbrev pub SmallestTaken : RunInput → Type 0
SmallestTaken g = (s : State) (e : Entry) (w : List Entry) → BeforePop g s → s.waiting ≡ e ∷ w → Smallest g e w
