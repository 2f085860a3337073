-- What is true of the state in which a run ends: how long its lists are, that nothing waits, and that pops and peak keep to the limit
-- and the room. Assumes nothing but what `Fair` asks of the input.
use Prim.Native.Nat.{◌≤◌}
use native.Mathlib.Omega.{arith}
use mathlib.Core.Path.{◌≡◌, ◌∙◌}
use mathlib.Core.List.{[]}
use lib.ListN.{length}
use Rattle.lists.specs.Turns.{goes}
use Rattle.run.specs.Run.{RunInput, State, run}
use Rattle.run.proofs.Values.{Fair}
use Rattle.run.proofs.Offers.{run_went}
use Rattle.run.proofs.Seeding.{seeding_good, seeding_empty, seeding_pops}
use Rattle.run.proofs.Queueing.{queueing_to}
use Rattle.run.proofs.Spreading.{ends}

pub record Done (g : RunInput) (t : State) : Type 0 where
  pub field_long : length t.field ≡ g.cells
  pub names_long : length t.names ≡ g.cells
  pub nothing_waits : t.waiting ≡ []
  pub pops_few : t.pops ≤ g.limit
  pub peak_few : t.peak ≤ g.room

pub run_done : (g : RunInput) → Fair g → (t : State) → run g ≡ goes t → Done g t
run_done g F t h =
    let r = run_went g t h in
    let Q = queueing_to g F r.seeded r.queued_all (seeding_good g F r.seeded r.by_seeding) (seeding_empty g F r.seeded r.by_seeding) r.by_queueing in
    let E = ends g F g.limit r.queued_all t Q.good r.by_spreading in
    record {
      field_long = E.good.sound.field_long;
      names_long = E.good.sound.names_long;
      nothing_waits = E.nothing_waits;
      pops_few = omega (arith, E.pops_few, Q.pops_same ∙ seeding_pops g F r.seeded r.by_seeding);
      peak_few = E.good.in_room;
    }
