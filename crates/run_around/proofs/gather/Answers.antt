-- `gather`: after j turns the first j entries of each list are those of the first j steps. Assumes nothing.
use native.Mathlib.Omega.{arith}
use mathlib.Core.Path.{◌≡◌, sym, ap, ◌∙◌}
use lib.ListN.{length}
use lib.Ieee.{nan}
use Rattle.point.specs.declared.Point.{Point}
use Rattle.lists.proofs.Table.{filled_none, filled_more, filled_all}
use Rattle.grid.specs.Place.{centre_of}
use Rattle.run_around.specs.declared.Spot.{Spot}
use Rattle.run_around.specs.Around.{spot_of}
use Rattle.run_around.proofs.Steps.{table_step, table_long, spot_inside, near_enough}
use Rattle.run_around.proofs.gather.Invariants.{centre, spot}
use Rattle.run_around.proofs.gather.Goals as goal
use Rattle.run_around.proofs.gather.Goals.{After-get_cell_center-centre}

-- the lists are as long as there are steps
long : (l : After-get_cell_center-centre) →
    let o = l.loop-j in
    (length o.to ≡ 27) × (length o.xs ≡ 27) × (length o.ys ≡ 27) × (length o.zs ≡ 27)
long l =
    let i = l.loop-j.invariant in
    let p = l.requires.to_len in
    (i.0.long ∙ p.0, i.1.long ∙ p.1, i.2.long ∙ p.2, i.3.long ∙ p.3)

-- what the calls found is the spot of step j and its centre
spot_is : (c : After-get_cell_center-centre) →
    let a = c.args in
    c.step_from-spot.result ≡ spot a.grid a.cell c.loop-j.j
spot_is c =
    c.step_from-spot.ensures ∙ ap (spot_of c.args.grid c.args.cell) (table_step _ c.loop-j.j c.requires.grid_value.2 c.loop-j-test.true)

centre_is : (c : After-get_cell_center-centre) →
    let a = c.args in
    c.get_cell_center-centre.result ≡ centre a.grid a.cell c.loop-j.j
centre_is c = c.get_cell_center-centre.ensures ∙ ap (λ (v : Spot). centre_of c.args.grid v.cell) (spot_is c)

pub loop-j-init : goal.loop-j-init
loop-j-init c = (filled_none 0 _ _, filled_none nan _ _, filled_none nan _ _, filled_none nan _ _)

pub bounds-steps-j : goal.bounds-steps-j
bounds-steps-j c = omega (arith, table_long _ c.requires.grid_value.2)

pub step_from-spot-requires : goal.step_from-spot-requires
step_from-spot-requires c = let p = c.requires.grid_value in (p.0, p.1)

pub get_cell_center-centre-requires : goal.get_cell_center-centre-requires
get_cell_center-centre-requires c =
    rw c.step_from-spot.ensures (near_enough c.args.grid _ c.requires.grid_value.0 (spot_inside c.args.grid c.args.cell _ c.requires.grid_value.1))

pub bounds-to-j : goal.bounds-to-j
bounds-to-j c = omega (arith, (long c).0)

pub bounds-xs-j : goal.bounds-xs-j
bounds-xs-j c = omega (arith, (long c).1)

pub bounds-ys-j : goal.bounds-ys-j
bounds-ys-j c = omega (arith, (long c).2)

pub bounds-zs-j : goal.bounds-zs-j
bounds-zs-j c = omega (arith, (long c).3)

pub loop-j-preserved : goal.loop-j-preserved
loop-j-preserved c =
    let p = c.requires.to_len in
    let l = c.loop-j.invariant in (
      filled_more 0 _ _ _ _ _ (omega (arith, p.0)) (ap (λ (v : Spot). v.index) (spot_is c)) l.0,
      filled_more nan _ _ _ _ _ (omega (arith, p.1)) (ap (λ (p : Point). p.x) (centre_is c)) l.1,
      filled_more nan _ _ _ _ _ (omega (arith, p.2)) (ap (λ (p : Point). p.y) (centre_is c)) l.2,
      filled_more nan _ _ _ _ _ (omega (arith, p.3)) (ap (λ (p : Point). p.z) (centre_is c)) l.3,
    )

pub shape_of-to : goal.shape_of-to
shape_of-to c = c.loop-j.invariant.0.long

pub shape_of-xs : goal.shape_of-xs
shape_of-xs c = c.loop-j.invariant.1.long

pub shape_of-ys : goal.shape_of-ys
shape_of-ys c = c.loop-j.invariant.2.long

pub shape_of-zs : goal.shape_of-zs
shape_of-zs c = c.loop-j.invariant.3.long

pub returns : goal.returns
returns c =
    let p = c.requires.to_len in
    let l = c.loop-j.invariant in
    record {
      leads = filled_all 0 _ _ _ _ 27 (sym p.0) c.loop-j-test.false l.0;
      on_x = filled_all nan _ _ _ _ 27 (sym p.1) c.loop-j-test.false l.1;
      on_y = filled_all nan _ _ _ _ 27 (sym p.2) c.loop-j-test.false l.2;
      on_z = filled_all nan _ _ _ _ 27 (sym p.3) c.loop-j-test.false l.3;
    }
