-- "Triangle box: least and greatest corner per axis, then −0.0001 and +0.0001 as f32" (document 01). Definitions only.
use Rattle.std.specs.Prelude.{Float}
use Rattle.std.specs.Float.{binary32}
use Rattle.std.specs.Float.Ieee.{of_bits}
use Rattle.float.specs.Steps.{least_of, greatest_of}
use Rattle.point.specs.Point.{vec, ◌+ᵥ◌, ◌-ᵥ◌}
use Rattle.point.specs.declared.Point.{Point}
use Rattle.geo_box.specs.declared.TriangleBox.{TriangleBox}

-- 0.0001, rounded to binary32
abbrev pub box_margin : Float
box_margin = of_bits binary32 0x38d1_b717

-- f32::min(a, f32::min(b, c)), and so for max
unfoldable pub least_of3 : Float → Float → Float → Float
least_of3 a b c = least_of a (least_of b c)

unfoldable pub greatest_of3 : Float → Float → Float → Float
greatest_of3 a b c = greatest_of a (greatest_of b c)

unfoldable pub padded_box : Point → Point → Point → TriangleBox
padded_box a b c =
    record {
      low = vec (least_of3 a.x b.x c.x) (least_of3 a.y b.y c.y) (least_of3 a.z b.z c.z) -ᵥ vec box_margin box_margin box_margin;
      high = vec (greatest_of3 a.x b.x c.x) (greatest_of3 a.y b.y c.y) (greatest_of3 a.z b.z c.z) +ᵥ vec box_margin box_margin box_margin;
    }
