-- Steps 0 to 7 and 19, the root, the comparison and the geometry: when the answer that a case stores is that of the definitions which the asked function's own
-- contract names. A case has what goes in from word 1 on, and then what comes out. Definitions only.
use Rattle.std.specs.Prelude.{Bool, ◌&&◌, List, ℕ, zero, suc, ◌+◌, ℤ, pos, negsuc}
use Rattle.float.specs.RootOf.{root_of, root_bits}
use Rattle.point.specs.Point.{axis_numbered}
use Rattle.ask_geo.specs.Asked.{asked_box, asked_segment, asked_triangle, asked_distance, asked_signed_distance, asked_ray}
use Rattle.c_records.specs.C as C
use Rattle.c_records.specs.C.{point_in}
use Rattle.c_records.specs.declared.SdfPointAnswer.{SdfPointAnswer}
use Rattle.c_records.specs.declared.SdfBoxAnswer.{SdfBoxAnswer}
use Rattle.c_records.specs.declared.SdfDistanceAnswer.{SdfDistanceAnswer}
use Rattle.c_records.specs.declared.SdfRayAnswer.{SdfRayAnswer}
use Rattle.c_records.specs.declared.SdfOrderAnswer.{SdfOrderAnswer}
use Rattle.replay_steps.specs.Words.{sample_word, sample_real, sample_point, is_sample_word, is_sample_real, is_sample_point}

-- ---- an answer that is stored from word k on

abbrev pub is_point_answer : List ℕ → ℕ → ℕ → SdfPointAnswer → Bool
is_point_answer text base k r = is_sample_word text base k r.number && is_sample_point text base (k + 1) r.point

abbrev pub is_box_answer : List ℕ → ℕ → ℕ → SdfBoxAnswer → Bool
is_box_answer text base k r = is_sample_word text base k r.number && is_sample_point text base (k + 1) r.min && is_sample_point text base (k + 4) r.max

abbrev pub is_distance_answer : List ℕ → ℕ → ℕ → SdfDistanceAnswer → Bool
is_distance_answer text base k r = is_sample_word text base k r.number && is_sample_real text base (k + 1) r.distance

abbrev pub is_ray_answer : List ℕ → ℕ → ℕ → SdfRayAnswer → Bool
is_ray_answer text base k r =
    is_sample_word text base k r.number
    && is_sample_word text base (k + 1) r.hit
    && is_sample_word text base (k + 2) r.grazed
    && is_sample_real text base (k + 3) r.t

-- -1, 0 or 1 in 32 bits
abbrev pub order_word : ℤ → ℕ
order_word (pos zero) = 0
order_word (pos (suc zero)) = 1
order_word (pos (suc (suc n))) = 4294967295
order_word (negsuc n) = 4294967295

abbrev pub is_order_answer : List ℕ → ℕ → ℕ → SdfOrderAnswer → Bool
is_order_answer text base k r = is_sample_word text base k r.number && is_sample_word text base (k + 1) (order_word r.order)

-- ---- the steps

abbrev pub stored_root : List ℕ → ℕ → Bool
stored_root text base = is_sample_real text base 2 (root_of (sample_real text base 1))

abbrev pub stored_root_bits : List ℕ → ℕ → Bool
stored_root_bits text base = is_sample_word text base 2 (root_bits (sample_word text base 1))

abbrev pub stored_order : List ℕ → ℕ → Bool
stored_order text base = is_order_answer text base 3 (C.compared_for_c (sample_real text base 1) (sample_real text base 2))

abbrev pub stored_triangle_box : List ℕ → ℕ → Bool
stored_triangle_box text base =
    is_box_answer text base 10
    (C.triangle_box_for_c (asked_box (point_in (sample_point text base 1)) (point_in (sample_point text base 4)) (point_in (sample_point text base 7))))

abbrev pub stored_segment : List ℕ → ℕ → Bool
stored_segment text base =
    is_point_answer text base 10
    (C.closest_for_c (asked_segment (point_in (sample_point text base 1)) (point_in (sample_point text base 4)) (point_in (sample_point text base 7))))

abbrev pub stored_triangle : List ℕ → ℕ → Bool
stored_triangle text base =
    is_point_answer text base 13
    (C.closest_for_c
    (asked_triangle (point_in (sample_point text base 1)) (point_in (sample_point text base 4)) (point_in (sample_point text base 7)) (point_in (sample_point text base 10))))

abbrev pub stored_distance : List ℕ → ℕ → Bool
stored_distance text base =
    is_distance_answer text base 13
    (C.distance_for_c
    (asked_distance (point_in (sample_point text base 1)) (point_in (sample_point text base 4)) (point_in (sample_point text base 7)) (point_in (sample_point text base 10))))

abbrev pub stored_signed_distance : List ℕ → ℕ → Bool
stored_signed_distance text base =
    is_distance_answer text base 13
    (C.distance_for_c
    (asked_signed_distance (point_in (sample_point text base 1)) (point_in (sample_point text base 4)) (point_in (sample_point text base 7)) (point_in (sample_point text base 10))))

abbrev pub stored_ray : List ℕ → ℕ → Bool
stored_ray text base =
    is_ray_answer text base 14
    (C.ray_for_c
    (asked_ray (point_in (sample_point text base 1)) (point_in (sample_point text base 4)) (point_in (sample_point text base 7)) (point_in (sample_point text base 10)) (axis_numbered (sample_word text base 13))))
