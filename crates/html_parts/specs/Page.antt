-- A page that stands alone: HTML with no script and nothing to fetch. Each definition is a text with a part behind it.
use Rattle.std.specs.Prelude.{ℕ, List, ◌++◌, codes}
use Rattle.html_parts.specs.Numbers.{with_grouped, with_number, with_tenths}

-- what the head says of itself
abbrev pub head_line : List ℕ
head_line =
    codes "<!DOCTYPE html>\n<html lang=en><head><meta charset=utf-8><meta name=viewport content='width=device-width'>\n"

-- its title, and how texts look
abbrev pub title_line : List ℕ
title_line =
    codes "<title>RIST session</title><style>body{font-family:sans-serif;max-width:60em;margin:auto;padding:1em}\n"

-- how the table looks
abbrev pub table_line : List ℕ
table_line = codes "th,td{text-align:left;vertical-align:top;padding:.2em .8em .2em 0}th+td{text-align:right}\n"

-- how charts look: a thin frame, with room between it and the line, which is drawn whole at the greatest point and at 0
abbrev pub chart_line : List ℕ
chart_line =
    codes "svg{box-sizing:border-box;width:100%;height:8em;padding:6px;border:1px solid #999;overflow:visible}\n"

-- how their lines look; and room below a table
abbrev pub stroke_line : List ℕ
stroke_line = codes "table{margin-bottom:1em}path{fill:none;stroke:#000;vector-effect:non-scaling-stroke}\n"

-- where the page begins
abbrev pub begin_line : List ℕ
begin_line = codes "section{break-inside:avoid}</style></head><body><h1>RIST session</h1><table>\n"

-- the head, up to where the rows of the table begin
abbrev pub with_head : List ℕ → List ℕ
with_head text = (((((text ++ head_line) ++ title_line) ++ table_line) ++ chart_line) ++ stroke_line) ++ begin_line

-- a row of the table: a name, a number with commas between groups of three digits, its unit, and the rule that it is
-- counted by
abbrev pub with_row : List ℕ → List ℕ → ℕ → List ℕ → List ℕ → List ℕ
with_row text name number unit rule =
    ((((with_grouped (((text ++ codes "<tr><th>") ++ name) ++ codes "</th><td>") number ++ codes "</td><td>") ++ unit)
    ++ codes "</td><td>") ++ rule) ++ codes "</td></tr>\n"

-- a row of a number of tenths
abbrev pub with_tenths_row : List ℕ → List ℕ → ℕ → List ℕ → List ℕ → List ℕ
with_tenths_row text name tenths unit rule =
    ((((with_tenths (((text ++ codes "<tr><th>") ++ name) ++ codes "</th><td>") tenths ++ codes "</td><td>") ++ unit)
    ++ codes "</td><td>") ++ rule) ++ codes "</td></tr>\n"

-- a sentence of a number between two texts
abbrev pub with_note : List ℕ → List ℕ → ℕ → List ℕ → List ℕ
with_note text before number after =
    (with_number ((text ++ codes "<p>") ++ before) number ++ after) ++ codes "</p>\n"

-- the name of a column
abbrev pub with_name : List ℕ → List ℕ → List ℕ
with_name text name = ((text ++ codes "<th>") ++ name) ++ codes "</th>"

-- where a table of numbers begins: the names of its four columns
abbrev pub with_columns : List ℕ → List ℕ → List ℕ → List ℕ → List ℕ → List ℕ
with_columns text first second third fourth =
    with_name (with_name (with_name (with_name (text ++ codes "<table>\n<tr>") first) second) third) fourth
    ++ codes "</tr>\n"

-- a number in a cell of its own
abbrev pub with_cell : List ℕ → ℕ → List ℕ
with_cell text number = with_grouped (text ++ codes "<td>") number ++ codes "</td>"

-- a row of four numbers
abbrev pub with_numbers : List ℕ → ℕ → ℕ → ℕ → ℕ → List ℕ
with_numbers text first second third fourth =
    with_cell (with_cell (with_cell (with_cell (text ++ codes "<tr>") first) second) third) fourth ++ codes "</tr>\n"

-- the end of the table
abbrev pub with_table_end : List ℕ → List ℕ
with_table_end text = text ++ codes "</table>\n"

-- the end of the page
abbrev pub with_foot : List ℕ → List ℕ
with_foot text = text ++ codes "</body></html>\n"
