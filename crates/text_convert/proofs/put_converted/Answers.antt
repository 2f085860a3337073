-- `text_convert::put_converted`: a list as it is, a strip with its triangles listed. Assumes nothing.
use mathlib.Core.Path.{refl, sym, ap}
use Rattle.text.specs.TextJob.{job_text}
use Rattle.lists.proofs.Puts.{said}
use Rattle.text_convert.proofs.Laws.{list_stays, strip_listed}
use Rattle.text_convert.proofs.put_converted.Goals as goal

pub returns-in-TriangleList : goal.returns-in-TriangleList
returns-in-TriangleList c =
    said (ap job_text (sym (list_stays _ c.in-TriangleList.is))) refl c.put_job.ensures

pub returns-in-TriangleStrip : goal.returns-in-TriangleStrip
returns-in-TriangleStrip c =
    said (ap job_text (sym (strip_listed _ c.in-TriangleStrip.is))) refl c.put_listed.ensures
