-- What is listed of a job depends on the lengths of the lent buffers alone; and of a job that is done the peak keeps to the queue's
-- room. Assumes nothing.
use Prim.Native.Nat.{ℕ, zero, suc, ◌*◌, ◌≤◌, ◌<◌}
use native.Mathlib.Nat.{zero-mul, suc-mul, mul_assoc, mul_comm, mul_right_comm}
use native.Mathlib.Decide.{dec_lt}
use native.Mathlib.Omega.{arith}
use mathlib.Core.Path.{◌≡◌, refl, sym, ap, ◌∙◌, subst}
use mathlib.Core.Bool.{true, and-false}
use mathlib.Core.List.{List, ◌++◌}
use lib.ListN.{length, take, replicate, length-replicate, length-map}
use lib.Seq.{length-take-le, take_at}
use lib.Ieee.{Float, binary32, of_bits}
use Rattle.float.specs.Arith.{f0}
use Rattle.lists.specs.Turns.{Turn, goes, refuses}
use Rattle.point.specs.declared.Axis.{Axis}
use Rattle.point.specs.declared.Axis.TheVariants.{X, Y, Z}
use Rattle.grid.specs.declared.Grid.{Grid}
use Rattle.grid.specs.Axes.{count_on, on_every}
use Rattle.grid.specs.Index.{total}
use Rattle.grid.specs.Layers.{upright_of, layers}
use Rattle.grid.specs.Bounds.{is_axis, is_upright, in_bounds}
use Rattle.grid.proofs.Facts.{bounds_of, on_axis}
use Rattle.run.specs.Run.{State}
use Rattle.run.specs.Input.{run_input}
use Rattle.run.proofs.Done.{run_done}
use Rattle.run.proofs.Inputs.{fair_input}
use Rattle.refusals.specs.Numbers.{Reply, reply_of}
use Rattle.refusals.specs.Numbers as Is
use Rattle.job_outcome.specs.declared.Tally.{Tally}
use Rattle.job_checks.specs.Job.{Job, Lent, lent_of}
use Rattle.job_checks.specs.Refusals.{wrong_grid, refusal, refusal_by, lengths_of}
use Rattle.job_outcome.specs.Outcome.{Answer, Outcome, Gives, ended, run_of, unless_refused, outcome, peak_of}
use Rattle.job_checks.proofs.Accepted.{accepted}
use Rattle.job_clear.proofs.Lengths.{lengths_same}
use Rattle.job_outcome.proofs.Outcomes.{same_ended, same_run}
use Rattle.text.specs.Limits.{most_cells, most_entries, crossing_room}
use Rattle.float_bits.specs.Patterns.{floats_of}
use Rattle.listing.specs.Listing.{lent_by, listed}
use Rattle.lists.specs.Put.{Put}
use Rattle.lists.proofs.Puts.{said}
use Rattle.listing.specs.Written.{shown, RoomToList, Listable}
use Rattle.entries_own.specs.Own.{GivesFour}
use Rattle.listing_run.specs.Parts.{listed_of, Sizes}

-- a listing shows no other buffers
pub as_shown : (a : Reply Tally) (b : Lent) → listed a (shown b.field b.names b.rows) ≡ listed a b
unfolding listed
as_shown (Is.refused n) b = refl
as_shown (Is.given t) b = refl

-- ---- buffers of the same lengths

pub same_listed : (j : Job) (b c : Lent) → lengths_of b ≡ lengths_of c → listed_of j b ≡ listed_of j c
unfolding listed_of outcome unless_refused listed
same_listed j b c e =
    by (refusal j b)
    ∙ ap (λ (n : ℕ). listed (unless_refused n c (ended j c (run_of j c))).answer (unless_refused n c (ended j c (run_of j c))).left) (ap (refusal_by j.grid j.edition j.mesh) e)
  where
    by : (n : ℕ) → listed (unless_refused n b (ended j b (run_of j b))).answer (unless_refused n b (ended j b (run_of j b))).left
        ≡ listed (unless_refused n c (ended j c (run_of j c))).answer (unless_refused n c (ended j c (run_of j c))).left
    by zero = ap (λ o. listed o.answer o.left) (same_ended j b c (run_of j b) e ∙ ap (ended j c) (same_run j b c e))
    by (suc n) = refl

-- ---- the peak

ran_low : (j : Job) (b : Lent) → refusal j b ≡ 0 → (s : State) → run_of j b ≡ goes s → s.peak ≤ length b.distances
unfolding run_input
ran_low j b r s h =
    let room = length b.distances in
    let fit = (accepted j.grid j.edition j.mesh (lengths_of b) r).fit in
    (run_done (run_input j.grid j.mesh j.sign room j.limit)
    (fair_input j.grid j.mesh j.sign room j.limit (λ a. (on_axis (bounds_of j.grid fit.ready.bounded) a).some) (omega (arith, fit.few)))
    s
    h
    ).peak_few

pub peak_low : (j : Job) (b : Lent) → peak_of (outcome j b).answer ≤ length b.distances
unfolding outcome unless_refused ended
peak_low j b = check (refusal j b) refl
  where
    turn : (o : Turn State) → refusal j b ≡ 0 → run_of j b ≡ o → peak_of (ended j b o).answer ≤ length b.distances
    turn (goes s) r e = ran_low j b r s e
    turn (refuses n) r e = omega arith

    check : (n : ℕ) → refusal j b ≡ n → peak_of (unless_refused n b (ended j b (run_of j b))).answer ≤ length b.distances
    check zero r = turn (run_of j b) r refl
    check (suc n) r = omega arith

-- ---- what a call gives is listed, and can be

-- what a call over all the buffers gives in the first four
pub of_four : {o : Outcome} {answer : Answer} {left : Lent} → Gives o answer left → GivesFour o answer left.field left.names left.crossings left.rows
of_four given =
    record {
      answers = given.answers;
      field_left = ap (λ (l : Lent). l.field) given.leaves;
      names_left = ap (λ (l : Lent). l.names) given.leaves;
      crossings_left = ap (λ (l : Lent). l.crossings) given.leaves;
      rows_left = ap (λ (l : Lent). l.rows) given.leaves;
    }

module _ {o : Outcome} {answer : Answer} {field : List Float} {names crossings rows : List ℕ} (given : GivesFour o answer field names crossings rows) where
  pub given_listed : {old new : List ℕ} {n : ℕ} → Put old 0 (listed (reply_of answer) (shown field names rows)) new n → Put old 0 (listed o.answer o.left) new n
  given_listed p =
      said ((λ i. listed (given.answers i) (shown (given.field_left i) (given.names_left i) (given.rows_left i))) ∙ as_shown o.answer o.left) refl p

  pub can_be_listed : {old-field : List Float} {old-names old-rows out : List ℕ} → peak_of o.answer ≤ most_entries → RoomToList old-field old-names old-rows out
      → length field ≡ length old-field → length names ≡ length old-names → length rows ≡ length old-rows → Listable (reply_of answer) field names rows out
  can_be_listed low few f n r =
      record {
        few = record { room = few.room; cells_few = omega (arith, few.cells_few, f); all_named = n ∙ few.all_named ∙ sym f; rows_few = omega (arith, few.rows_few, r) };
        peak_fits = omega (arith, ap peak_of given.answers, low);
      }

-- ---- buffers cut to a length

pub prefix : {A : Type 0} (l : List A) (n m : ℕ) → m ≡ length l → n ≤ m → length (take n l) ≡ n
prefix l n m e h = length-take-le n l (omega arith)

pub as_long : {A : Type 0} (l : List A) (a : A) (n m : ℕ) → m ≡ length l → n ≤ m → length (take n l) ≡ length (replicate n a)
as_long l a n m e h = prefix l n m e h ∙ sym (length-replicate n a)

-- the buffers that the program has
pub record Whole (field : List Float) (names crossings rows : List ℕ) : Type 0 where
  pub field_long : most_cells ≡ length field
  pub names_long : most_cells ≡ length names
  pub crossings_long : crossing_room ≡ length crossings
  pub rows_long : most_cells ≡ length rows

module _ {field : List Float} {names crossings rows : List ℕ} (w : Whole field names crossings rows) {cells layers room : ℕ} {out : List ℕ} (h : Sizes cells layers room out) where
  -- cut to a job's size they have room for a listing
  pub few_cut : RoomToList (take cells field) (take cells names) (take layers rows) out
  few_cut =
      let long = prefix field cells most_cells w.field_long h.cells_few in
      record {
        room = h.room;
        cells_few = omega (arith, long, h.cells_few);
        all_named = prefix names cells most_cells w.names_long h.cells_few ∙ sym long;
        rows_few = omega (arith, prefix rows layers most_cells w.rows_long h.layers_few, h.layers_few);
      }

  -- what is listed over them, cut to a job's size, and any queue of the room
  pub cut_listed : (j : Job) (ds cs ts : List ℕ) {old new : List ℕ} {n : ℕ}
      → length ds ≡ room
      → length cs ≡ room
      → length ts ≡ room
      → Put old 0 (listed_of j (lent_of (take cells field) (take cells names) (take (3 * cells) crossings) (take layers rows) ds cs ts)) new n
      → Put old 0 (listed_of j (lent_by cells layers room)) new n
  cut_listed j ds cs ts d c t p =
      let cut = lent_of (take cells field) (take cells names) (take (3 * cells) crossings) (take layers rows) ds cs ts in
      let made = lent_by cells layers room in
      let zero-long : length {A = ℕ} (replicate room 0) ≡ room = length-replicate room 0 in
      said
      (same_listed j cut made
      (lengths_same cut made
      (as_long field f0 cells most_cells w.field_long h.cells_few)
      (as_long names 0 cells most_cells w.names_long h.cells_few)
      (as_long crossings 0 (3 * cells) crossing_room w.crossings_long (omega (arith, h.cells_few)))
      (as_long rows 0 layers most_cells w.rows_long h.layers_few)
      (d ∙ sym zero-long)
      (c ∙ sym zero-long)
      (t ∙ sym zero-long)))
      refl
      p

-- ---- a grid with no cells

no_cells : (g : Grid) → total g ≡ 0 → wrong_grid g ≡ true
unfolding in_bounds
no_cells g e = rw (e, and-false (is_upright g.upright), and-false (on_every (is_axis g)))

pub refused_first : (j : Job) (b c : Lent) → total j.grid ≡ 0 → listed_of j b ≡ listed_of j c
unfolding listed_of outcome unless_refused listed refusal_by
refused_first j b c e = rw (no_cells j.grid e)

-- with few cells, more layers are those of a grid with no cells, whichever axis is upright
wide : (m n : ℕ) → m * n ≤ most_cells → most_cells < n → m * n ≡ 0
wide zero n h k = zero-mul n
wide (suc m) n h k = absurd (omega (arith, suc-mul m n))

-- the cells of a layer, by how many layers there are
by_layers : (a : Axis) (g : Grid) → (m : ℕ) × (total g ≡ m * count_on a g)
by_layers X g = (count_on Y g * count_on Z g, mul_assoc (count_on X g) (count_on Y g) (count_on Z g) ∙ mul_comm (count_on X g) (count_on Y g * count_on Z g))
by_layers Y g = (count_on X g * count_on Z g, mul_right_comm (count_on X g) (count_on Y g) (count_on Z g))
by_layers Z g = (count_on X g * count_on Y g, refl)

pub same_layers : (j : Job) (n room : ℕ) → total j.grid ≤ most_cells → (layers j.grid ≤ most_cells → n ≡ layers j.grid)
    → listed_of j (lent_by (total j.grid) n room) ≡ listed_of j (lent_by (total j.grid) (layers j.grid) room)
same_layers j n room h e = by (dec_lt most_cells (layers g))
  where
    g : Grid
    g = j.grid

    none : most_cells < layers g → total g ≡ 0
    none w = let (m, t) = by_layers (upright_of g) g in t ∙ wide m (layers g) (subst (λ (k : ℕ). k ≤ most_cells) t h) w

    by : Dec (most_cells < layers g) → listed_of j (lent_by (total g) n room) ≡ listed_of j (lent_by (total g) (layers g) room)
    by (yes w) = refused_first j (lent_by (total g) n room) (lent_by (total g) (layers g) room) (none w)
    by (no w) = ap (λ (k : ℕ). listed_of j (lent_by (total g) k room)) (e (omega arith))

-- ---- the floats of a job, at the front of their buffer

pub long_as : {floats : List Float} (bits : List ℕ) → floats ≡ floats_of bits → length floats ≡ length bits
long_as bits e = ap length e ∙ length-map bits (of_bits binary32)

pub front_of : {floats : List Float} (bits : List ℕ) (rest : List Float) → floats ≡ floats_of bits → take (length bits) (floats ++ rest) ≡ floats_of bits
front_of {floats} bits rest e = take_at floats rest (length bits) (long_as bits e) ∙ e
