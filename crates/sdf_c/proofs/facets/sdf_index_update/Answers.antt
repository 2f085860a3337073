-- `facets::sdf_index_update`: what the call answers and leaves. Assumes nothing.
use Rattle.sdf_c.proofs.facets.sdf_index_update.Goals as goal

pub returns : goal.returns
returns c = rw c.number_in.ensures c.index_update.ensures
