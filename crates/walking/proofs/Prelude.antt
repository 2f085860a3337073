-- The names that every walk uses, passed on from where they are.
pub use mathlib.Core.Path.{◌≡◌, refl, sym, ◌∙◌, ap, subst}
pub use Prim.Native.Nat.{ℕ, ◌/◌, ◌*◌, ◌+◌, ◌-◌, ◌^◌, ◌<◌, ◌≤◌}
pub use native.Mathlib.Omega.{arith}
pub use mathlib.Core.Bool.{Bool}
pub use mathlib.Core.List.{List, [], ◌∷◌, ◌++◌, map}
pub use lib.ListN.{length, get_or, set as put, length-set}
pub use lib.Dec.{ltb, T, ltb→lt, nltb→le, eqb→eq}
pub use lib.Ieee.{Float}
pub use seplogic.Ra.Ura.{Ura}
pub use mir.Val.{Val}
pub use base.Logic.{SProp, ent, emp, via, fst∗}
pub use prog.Memory.{Memory}
pub use prog.Routine.{Routine}
pub use prog.Wp.{Heap, Env, WpFn, Tables}
unfoldable pub use prog.Wp.{after_turn}
pub use ghost.Atoms.{Atoms}
pub use contract.Monad.{Fun}
pub use contract.Running.{tables}
unfoldable pub use contract.Running.{tables_of}
pub use types.Kit.{Item, Sq, prop, runs, at_ret, ◌$◌, !, by, move}
pub use types.Run.{bin, first, blocks, exec}
pub use types.Part.{agg, rep}
pub use sound.WpLaws.{WpFn-mono}
pub use denote.Laws.{Is}
pub use denote.Builtin.{u32, f32}
pub use denote.Triple.Spec.{Meets, triple_of}
pub use denote.Triple.Statement.{Triple}
pub use denote.Triple.Table.{entered, cited}
pub use denote.Triple.Walked.{needs, walk_of, Walks, ends_at, walked, walk_Meets}
pub use denote.Triple.Entry.{on_entry}
pub use Rattle.walking.proofs.Frame.{empty, holds, Blocks, env_of, Locals, opd, opds, copies, copies_last, puts, puts_last, returns_at, lends_on, keeps_first, enters}
pub use Rattle.walking.proofs.Tests.{is_so, not_so, knowing, whiles, breaks, breaks_last, returns_if}
pub use Rattle.walking.proofs.Lends.{Slice, taken, holding, fits_at, Kind, Valued, Arg, value, shown, lent, seen, slices, Changes, lefts, Long, fitting, after, bound_to, words}
pub use Rattle.walking.proofs.Calls.{asking, asking_nothing, calls, calls_is}
pub use Rattle.walking.proofs.Own.{own_bound, typed, from_entry, to_exit, in_turn, again_at, loops_at}
pub use Rattle.walking.proofs.Access.{points, points_first, reads_at, writes_at}
pub use Rattle.walking.proofs.ByValue.{a_u32, a_usize, a_bool, a_unit, a_struct}
pub use Rattle.walking.proofs.Sorts.{Sort, a_value, to_look, to_write, stays, spells, tells, all_go}
