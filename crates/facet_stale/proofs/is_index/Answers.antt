-- `facet_stale::is_index`: what the passes see is the index (`seen_index`), and of an index each sees what it looks for (`index_seen`). Assumes
-- nothing.
use native.Mathlib.Omega.{arith}
use Rattle.facet_index.specs.Index.{index_of}
use Rattle.facet_index.proofs.Told.{told_yes, told_no, tells_no, tells_same}
use Rattle.facet_index.proofs.Sight.{index_seen, seen_index}
use Rattle.facet_stale.proofs.is_index.Goals as goal

pub returns-then-starts-ne0 : goal.returns-then-starts-ne0
returns-then-starts-ne0 c = tells_no (λ x. c.if-starts-ne0.true x.first)

pub returns-then-end-count_named : goal.returns-then-end-count_named
returns-then-end-count_named c =
    tells_no (λ x. absurd (omega (arith, c.if-end-count_named.true, (index_seen _ _ _ x).end, c.count_named.ensures)))

pub returns-then-not-all_orderly : goal.returns-then-not-all_orderly
returns-then-not-all_orderly c =
    tells_no (λ x. told_no _ c.all_orderly.ensures c.if-not-all_orderly.true (index_seen _ _ _ x).orderly)

pub returns : goal.returns
returns c =
    tells_same _ c.is_tail.ensures
    (λ tail.
    seen_index c.args.triangles c.args.names.now (index_of c.args.starts.now c.args.list.now)
    (record {
      starts_long = c.requires.starts_len;
      list_long = c.requires.list_len;
      first = c.if-starts-ne0.false;
      orderly = told_yes _ c.all_orderly.ensures c.if-not-all_orderly.false;
      end = omega (arith, c.if-end-count_named.false, c.count_named.ensures);
      tail = tail;
    }))
    (λ x. x.tail)
