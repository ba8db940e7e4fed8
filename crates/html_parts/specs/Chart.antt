-- A chart of points: SVG that stands in a page. Each definition is a text with a part behind it.
use Rattle.std.specs.Prelude.{ℕ, ◌+◌, ◌-◌, ◌^◌, max, min, List, [], ◌∷◌, ◌++◌, length, codes}
use Rattle.html_parts.specs.Numbers.{with_grouped, with_number}
use Rattle.std.specs.List.{sum}

-- the greatest of some points, and 0 where there are none
abbrev pub greatest_of : List ℕ → ℕ
greatest_of [] = 0
greatest_of (point ∷ points) = max point (greatest_of points)

-- their sum, up to 2^64 - 1
abbrev pub total_of : List ℕ → ℕ
total_of points = min (sum points) (2 ^ 64 - 1)

-- the title of a chart: a name
abbrev pub with_title : List ℕ → List ℕ → List ℕ
with_title text name = (text ++ codes "<section><h2>") ++ name

-- or a name and a number
abbrev pub with_numbered_title : List ℕ → List ℕ → ℕ → List ℕ
with_numbered_title text name number = with_number (with_title text name) number

-- the unit of points, how many seconds wide a bucket is, and the greatest of them
abbrev pub with_most : List ℕ → List ℕ → ℕ → ℕ → List ℕ
with_most text unit width most =
    with_grouped (with_number (((text ++ codes "Most ") ++ unit) ++ codes " in ") width ++ codes " s: ") most

-- that stands between a title and a chart
abbrev pub with_caption : List ℕ → List ℕ → ℕ → ℕ → List ℕ
with_caption text unit width most = with_most (text ++ codes "</h2><p>") unit width most ++ codes "</p>\n"

-- and a chart is called so where it isn't seen
abbrev pub with_label : List ℕ → List ℕ → ℕ → ℕ → List ℕ
with_label text unit width most = with_most (text ++ codes "<svg role=img aria-label='") unit width most

-- how the line is drawn: in a frame of so many buckets to the right and so much upwards, from the lower left corner on
abbrev pub with_frame : List ℕ → ℕ → ℕ → List ℕ
with_frame text count high =
    with_number (with_number
    (with_number (text ++ codes "' preserveAspectRatio=none viewBox='0 0 ") count ++ codes " ") high
    ++ codes "'><path transform='matrix(1 0 0 -1 0 ") high ++ codes ")' d='M0 0"

-- a step: upwards or down to a point, and to the right
abbrev pub with_point : List ℕ → ℕ → ℕ → List ℕ
with_point text right point = with_number (with_number (text ++ codes "V") point ++ codes "H") right

-- points, the first at this place, each as wide as a bucket
abbrev pub with_points : List ℕ → ℕ → List ℕ → List ℕ
with_points text place [] = text
with_points text place (point ∷ points) = with_points (with_point text (place + 1) point) (place + 1) points

-- a chart behind its title: its unit, how many seconds wide a bucket is, and its points
abbrev pub with_chart : List ℕ → List ℕ → ℕ → List ℕ → List ℕ
with_chart text unit width points =
    with_points (with_frame (with_label (with_caption text unit width (greatest_of points)) unit width
    (greatest_of points)) (length points) (max (greatest_of points) 1)) 0 points ++ codes "'/></svg></section>\n"
