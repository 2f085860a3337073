-- The run whose entries go by what lies in them alone, as the code compares them. No one need believe that it is the run: proofs/Keys.antt
-- shows that from a good state no turn of it comes to anything else. Definitions only.
use Rattle.queue.specs.Keys.{by_keys}
use Rattle.run.specs.Run.{RunInput}

-- the same input, with the entries in the order by keys
abbrev pub keyed : RunInput → RunInput
keyed g =
    record {
      cells = g.cells;
      triangles = g.triangles;
      index = g.index;
      box = g.box;
      distance = g.distance;
      around = g.around;
      goes_first = by_keys;
      room = g.room;
      limit = g.limit;
    }
