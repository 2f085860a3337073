-- The job that a text asks for is the one that a call has of the text's terms, by either pass: what is run is what was asked for, the method of the
-- signs and the edition of the table included. What is said of the upright axis stands its grid up and does nothing else, so a text without that
-- line asks for what the same text with `upright=z` asks for, and has the same listing; and so does a text without the line of the edition as
-- with `table=1`. By the definitions. Assumes nothing.
use Prim.Native.Nat.{ℕ}
use mathlib.Core.Path.{◌≡◌, refl, ap}
use mathlib.Core.Bool.{true, false}
use mathlib.Core.List.{List}
use lib.Ieee.{Float}
use Rattle.terms.specs.declared.Pass.{Pass}
use Rattle.mesh_topology.specs.declared.Indices.{Indices}
use Rattle.grid.specs.Layers.{stood}
use Rattle.job_checks.specs.Job.{Job, job_of}
use Rattle.job_checks.specs.Refusals.{wrong_grid, wrong_edition, refusal_by}
use Rattle.mesh.specs.Mesh.{mesh_of}
use Rattle.job_outcome.specs.Outcome.{unless_refused, outcome}
use Rattle.job_outcome.proofs.SameMesh.{job_with}
use Rattle.text.specs.declared.Head.{Head}
use Rattle.text.specs.declared.Tail.{Tail}
use Rattle.point.specs.declared.Axis.{Axis}
use Rattle.point.specs.declared.Axis.TheVariants.{Z}
use Rattle.std.specs.Prelude.{Option, Some, None}
use Rattle.text.specs.Answering.{answer_line}
use Rattle.text.specs.TextJob.{TextJob, upright_meant, table_meant}
use Rattle.text.proofs.Said.{saying, unsaid_is_z, saying_table, unsaid_is_one}
use Rattle.listing.specs.Listing.{grid_of, terms_of, job_by, asked_job, listed, listing}

pub asked_of_terms : (h : Head) (vertices : List Float) (given : Indices) (indices : List ℕ) (t : Tail) (pass : Pass)
    → job_by h vertices given indices t ≡ job_of (grid_of h) (mesh_of vertices h.topology given indices) (terms_of h t pass)
asked_of_terms h vertices given indices t pass = refl

-- ---- the upright axis

module _ (j : TextJob) where
  -- the same job with the axis of this number upright
  abbrev standing : ℕ → Job
  standing n = job_with (stood n (asked_job j).grid) (asked_job j).sign (asked_job j).limit (asked_job j).edition (asked_job j).mesh

  pub said_stands : (u : Option Axis) → asked_job (saying u j) ≡ standing (upright_meant u)
  said_stands u = refl

  -- "without the line it is z"
  pub z_or_nothing : asked_job (saying None j) ≡ asked_job (saying (Some Z) j)
  z_or_nothing = ap standing unsaid_is_z

  pub z_or_nothing_listed : listing (saying None j) ≡ listing (saying (Some Z) j)
  z_or_nothing_listed = refl

-- ---- the edition of the layer table

module _ (j : TextJob) where
  -- the same job by the edition of this number
  abbrev by_edition : ℕ → Job
  by_edition n = job_with (asked_job j).grid (asked_job j).sign (asked_job j).limit n (asked_job j).mesh

  pub said_edition : (t : Option ℕ) → asked_job (saying_table t j) ≡ by_edition (table_meant t)
  said_edition t = refl

  -- "a job without it is edition 1"
  pub one_or_nothing : asked_job (saying_table None j) ≡ asked_job (saying_table (Some 1) j)
  one_or_nothing = ap by_edition unsaid_is_one

  pub one_or_nothing_listed : listing (saying_table None j) ≡ listing (saying_table (Some 1) j)
  one_or_nothing_listed = refl

  -- "any other edition is 14, after 1"
  pub other_edition_listed : (n : ℕ)
      → wrong_grid (grid_of j.head) ≡ false
      → wrong_edition n ≡ true
      → listing (saying_table (Some n) j) ≡ answer_line 14
  unfolding outcome unless_refused refusal_by listed
  other_edition_listed n g e = rw (g, e)
