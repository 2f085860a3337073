-- `stl_write::write_stl`: the head and the records that were put, one behind the other, are the file of the corners. Assumes nothing.
use mathlib.Core.Path.{refl, sym, ◌∙◌}
use Rattle.lists.proofs.Puts.{and_then, whole}
use Rattle.stl.proofs.Replies.{writable, done_by}
use Rattle.stl.proofs.Written.{stl_of_floats}
use Rattle.stl_write.proofs.write_stl.Goals as goal

pub returns : goal.returns
returns c =
    let passed = sym c.in_ok-writing_refusal.ensures in
    let put = and_then c.write_head.ensures c.write_facets.ensures in
    done_by _ _ _ passed refl (whole (sym (writable _ _ passed).long) put ∙ stl_of_floats c.args.vertices.now)
