-- A reader of the job's text as functions on lists of bytes, in the order in which the code of crate `text_read_job` goes. That it takes the text of every
-- job within the limits and nothing else is proved (proofs/Job.antt); nobody need believe these. Definitions only.
use Rattle.std.specs.Prelude.{ℕ, zero, suc, ◌+◌, ◌-◌, ◌*◌, ◌^◌, Bool, cond, List, [], ◌∷◌, eqb, leb, ltb}
use Rattle.mesh_topology.specs.declared.Topology.{Topology}
use Rattle.mesh_topology.specs.declared.Topology.TheVariants.{TriangleList, TriangleStrip}
use Rattle.terms.specs.declared.SignMethod.{SignMethod}
use Rattle.terms.specs.declared.SignMethod.TheVariants.{Raycast, Normal}
use Rattle.text.specs.declared.Form.{Form}
use Rattle.text.specs.declared.Form.TheVariants.{Decimal, Hex8}
use Rattle.text.specs.declared.Three.{Three}
use Rattle.point.specs.declared.Axis.{Axis}
use Rattle.point.specs.declared.Axis.TheVariants.{X, Y, Z}
use Rattle.text.specs.declared.Head.{Head}
use Rattle.std.specs.Prelude.{Option, Some, None}
use Rattle.text.specs.declared.Tail.{Tail}
use Rattle.text.specs.Words.{bytes, space, lf, line}
use Rattle.text.specs.Limits.{most_vertices, most_indices, most_cells, most_entries}
use Rattle.text.specs.TextJob.{TextJob, TextIndices, none, these, upright_text, topology_text, sign_text, cells_of}

-- what stands at the front of a text: a value, and what follows it; or no such value
pub data Got (A : Type 0) : Type 0 where
  took : A → List ℕ → Got A
  nothing : Got A

unfoldable pub follow : {A B : Type 0} → Got A → (A → List ℕ → Got B) → Got B
follow (took a s) f = f a s
follow nothing f = nothing

-- a value that passes a test
unfoldable pub kept : {A : Type 0} → (A → Bool) → Got A → Got A
kept t (took a s) = cond (t a) (took a s) nothing
kept t nothing = nothing

-- the first, or where there is none the second
unfoldable pub or_try : {A : Type 0} → Got A → Got A → Got A
or_try (took a s) other = took a s
or_try nothing other = other

-- what a line says by the reader p; or, where that line does not stand there, the value c that is meant without it
unfoldable pub optional : {A : Type 0} → A → (List ℕ → Got A) → List ℕ → Got A
optional c p s = or_try (p s) (took c s)

-- ---- words and numbers

unfoldable pub word_at : List ℕ → List ℕ → Got Unit
word_at [] s = took tt s
word_at (w ∷ ws) [] = nothing
word_at (w ∷ ws) (b ∷ s) = cond (eqb b w) (word_at ws s) nothing

-- the first of some values whose word stands there; f has the words
unfoldable pub one_of : {A : Type 0} → (A → List ℕ) → List A → List ℕ → Got A
one_of f [] s = nothing
one_of f (a ∷ rest) s = or_try (follow (word_at (f a) s) (λ _ s. took a s)) (one_of f rest s)

-- the value of a lower-case hex digit, and 16 of any other byte
unfoldable pub hex_value : ℕ → ℕ
hex_value b = cond (ltb b 48) 16 (cond (ltb b 58) (b - 48) (cond (ltb b 97) 16 (cond (ltb b 103) (b - 87) 16)))

-- the digits after the first ones, whose value is v, up to the byte `stop`; after a 0 there are none
unfoldable pub digits_at : ℕ → ℕ → List ℕ → Got ℕ
digits_at stop v [] = nothing
digits_at stop v (b ∷ s) =
    cond (eqb b stop) (took v s)
    (cond (ltb 0 v)
    (cond (ltb (hex_value b) 10)
    (cond (ltb (10 * v + hex_value b) (2 ^ 32)) (digits_at stop (10 * v + hex_value b) s) nothing)
    nothing)
    nothing)

-- a decimal number and the byte `stop`
unfoldable pub number_at : ℕ → List ℕ → Got ℕ
number_at stop [] = nothing
number_at stop (b ∷ s) = cond (ltb (hex_value b) 10) (digits_at stop (hex_value b) s) nothing

-- a value that the byte `stop` ends
unfoldable pub end_at : ℕ → ℕ → List ℕ → Got ℕ
end_at stop v [] = nothing
end_at stop v (b ∷ s) = cond (eqb b stop) (took v s) nothing

-- n more hex digits after those whose value is v, and the byte `stop`
unfoldable pub hex_at : ℕ → ℕ → ℕ → List ℕ → Got ℕ
hex_at stop zero v s = end_at stop v s
hex_at stop (suc n) v [] = nothing
hex_at stop (suc n) v (b ∷ s) = cond (ltb (hex_value b) 16) (hex_at stop n (16 * v + hex_value b) s) nothing

-- eight hex digits and the byte `stop`
abbrev pub bits_at : ℕ → List ℕ → Got ℕ
bits_at stop s = hex_at stop 8 0 s

-- a number in either form, and the byte `stop`
abbrev pub value_at : Form → ℕ → List ℕ → Got ℕ
value_at Decimal = number_at
value_at Hex8 = bits_at

-- ---- lines

abbrev pub three : ℕ → ℕ → ℕ → Three
three x y z = record { x = x; y = y; z = z }

-- three numbers to the end of the line, each by the reader p
unfoldable pub three_numbers : (ℕ → List ℕ → Got ℕ) → List ℕ → Got Three
three_numbers p s = follow (p space s) (λ x s. follow (p space s) (λ y s. follow (p lf s) (λ z s. took (three x y z) s)))

-- a line with a number that is at most `most`
unfoldable pub number_line : List ℕ → ℕ → List ℕ → Got ℕ
number_line key most s = kept (λ n. leb n most) (follow (word_at key s) (λ _ s. number_at lf s))

-- a line with three floats
unfoldable pub floats_line : List ℕ → List ℕ → Got Three
floats_line key s = follow (word_at key s) (λ _ s. three_numbers bits_at s)

-- "512 cells"
abbrev pub few_cells : Three → Bool
few_cells c = leb (cells_of c) most_cells

unfoldable pub count_line : List ℕ → Got Three
count_line s = kept few_cells (follow (word_at (bytes "count=") s) (λ _ s. three_numbers number_at s))

-- what the line of the upright axis may say
abbrev pub axes_said : List (Option Axis)
axes_said = Some X ∷ Some Y ∷ Some Z ∷ []

unfoldable pub upright_line : List ℕ → Got (Option Axis)
upright_line s = one_of upright_text axes_said s

abbrev pub upright_at : List ℕ → Got (Option Axis)
upright_at s = optional None upright_line s

unfoldable pub topology_line : List ℕ → Got Topology
topology_line s = one_of (λ t. line "topology=" (topology_text t)) (TriangleList ∷ TriangleStrip ∷ []) s

-- the line that asks for Normal
unfoldable pub normal_line : List ℕ → Got SignMethod
normal_line s = one_of sign_text (Normal ∷ []) s

abbrev pub sign_at : List ℕ → Got SignMethod
sign_at s = optional Raycast normal_line s

-- the line of the table's edition, whatever number it says
unfoldable pub table_line : List ℕ → Got (Option ℕ)
table_line s = follow (number_line (bytes "table=") 4294967295 s) (λ n s. took (Some n) s)

abbrev pub table_at : List ℕ → Got (Option ℕ)
table_at s = optional None table_line s

-- n lines, each by the reader p
unfoldable pub lines_at : {A : Type 0} → ℕ → (List ℕ → Got A) → List ℕ → Got (List A)
lines_at zero p s = took [] s
lines_at (suc n) p s = follow (p s) (λ a s. follow (lines_at n p s) (λ rest s. took (a ∷ rest) s))

-- ---- the parts of a job

abbrev pub head : Three → Three → Three → Option Axis → Topology → SignMethod → Head
head count first size upright topology sign =
    record { count = count; first = first; size = size; upright = upright; topology = topology; sign = sign }

unfoldable pub head_at : List ℕ → Got Head
head_at s =
    follow (count_line s)
    (λ count s.
    follow (floats_line (bytes "first=") s)
    (λ first s.
    follow (floats_line (bytes "size=") s)
    (λ size s.
    follow (upright_at s)
    (λ upright s.
    follow (topology_line s)
    (λ topology s. follow (sign_at s) (λ sign s. took (head count first size upright topology sign) s))))))

abbrev pub vertex_line_at : List ℕ → Got Three
vertex_line_at s = floats_line (bytes "v=") s

unfoldable pub vertices_at : List ℕ → Got (List Three)
vertices_at s = follow (number_line (bytes "vertices=") most_vertices s) (λ n s. lines_at n vertex_line_at s)

abbrev pub index_at : List ℕ → Got ℕ
index_at s = number_line (bytes "i=") 4294967295 s

-- of a topology
unfoldable pub indices_at : Topology → List ℕ → Got TextIndices
indices_at t s =
    or_try (follow (word_at (bytes "indices=none\n") s) (λ _ s. took none s))
    (follow (number_line (bytes "indices=") (most_indices t) s)
    (λ n s. follow (lines_at n index_at s) (λ is s. took (these is) s)))

abbrev pub tail : ℕ → ℕ → Option ℕ → Tail
tail room limit table = record { room = room; limit = limit; table = table }

unfoldable pub tail_at : List ℕ → Got Tail
tail_at s =
    follow (number_line (bytes "queue=") most_entries s)
    (λ room s.
    follow (number_line (bytes "pops=") 4294967295 s) (λ limit s. follow (table_at s) (λ table s. took (tail room limit table) s)))

abbrev pub assembled : Head → List Three → TextIndices → Tail → TextJob
assembled h vs is t = record { head = h; vertices = vs; indices = is; tail = t }

unfoldable pub job_at : List ℕ → Got TextJob
job_at s =
    follow (head_at s)
    (λ h s.
    follow (vertices_at s)
    (λ vs s. follow (indices_at h.topology s) (λ is s. follow (tail_at s) (λ t s. took (assembled h vs is t) s))))

-- "nothing after the last"
unfoldable pub at_end : {A : Type 0} → A → List ℕ → Got A
at_end a [] = took a []
at_end a (b ∷ s) = nothing

-- the job that a whole text is
unfoldable pub whole_job : List ℕ → Got TextJob
whole_job s = follow (job_at s) at_end
