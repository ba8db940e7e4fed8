-- One link more.
use Rattle.std.proofs.Common.{◌≡◌, ℕ, suc, ◌+◌, ◌<◌, ◌≤◌, List, [], ◌∷◌, ◌++◌, map, length, take, get_or, refl, sym, ap, ◌∙◌, arith}
use Rattle.std.specs.Prelude.{Result, Ok, Err, OnOk, OnErr}
use Rattle.std.proofs.Math.Seq.{take-length}
use Rattle.std.proofs.lemmas.List.{take_more, length-take, map-append, length-map, get_or-map, get_or_past}
use Rattle.time_series.specs.Points.{SeriesState, shown_points}
use Rattle.html_parts.specs.Chart.{total_of}
use Rattle.html_parts.specs.Page.{with_columns, with_table_end}
use Rattle.report_page.specs.Page.{total_on, with_link, with_link_row, with_link_rows, with_links}

-- links behind others go on from the next place
pub links_push : (text name unit : List ℕ) (width link next : ℕ) (links : List (List ℕ)) (points : List ℕ) → next ≡ link + length links
    → with_links text name unit width link (links ++ points ∷ []) ≡ with_link (with_links text name unit width link links) name unit width next points
links_push text name unit width link next [] points is = ap (λ (n : ℕ). with_link text name unit width n points) (omega (arith, is))
links_push text name unit width link next (l ∷ links) points is = links_push (with_link text name unit width link l) name unit width (link + 1) next links points (omega (arith, is))

pub links_more : (series : List SeriesState) (d : SeriesState) (i width : ℕ) (name unit text before after : List ℕ) → i < length series
    → before ≡ with_links text name unit width 0 (map shown_points (take i series)) → after ≡ with_link before name unit width i (shown_points (get_or series i d))
    → after ≡ with_links text name unit width 0 (map shown_points (take (i + 1) series))
links_more series d i width name unit text before after low was is =
    let count : length (map shown_points (take i series)) ≡ i = length-map (take i series) shown_points ∙ length-take i series ∙ omega (arith, low) in
    is ∙ ap (λ (t : List ℕ). with_link t name unit width i (shown_points (get_or series i d))) was
    ∙ sym (ap (λ (l : List SeriesState). with_links text name unit width 0 (map shown_points l)) (take_more series i d low)
    ∙ ap (with_links text name unit width 0) (map-append shown_points (take i series) (get_or series i d ∷ []))
    ∙ links_push text name unit width 0 i (map shown_points (take i series)) (shown_points (get_or series i d)) (omega (arith, count)))

-- ---- rows of links

-- one row more
pub rows_more : (text : List ℕ) (link : ℕ) (links firsts recovered : List (List ℕ)) (before after : List ℕ) (octets first again : ℕ) → before ≡ with_link_rows text link links firsts recovered
    → octets ≡ total_on link links → first ≡ total_on link firsts → again ≡ total_on link recovered → after ≡ with_link_row before link octets first again
    → after ≡ with_link_rows text (link + 1) links firsts recovered
unfolding with_link_rows
rows_more text link links firsts recovered before after octets first again was o f a is =
    is ∙ ap (λ (t : List ℕ). with_link_row t link octets first again) was
    ∙ ap (λ (n : ℕ). with_link_row (with_link_rows text link links firsts recovered) link n first again) o
    ∙ ap (λ (n : ℕ). with_link_row (with_link_rows text link links firsts recovered) link (total_on link links) n again) f
    ∙ ap (λ (n : ℕ). with_link_row (with_link_rows text link links firsts recovered) link (total_on link links) (total_on link firsts) n) a
    ∙ sym (ap (λ (n : ℕ). with_link_rows text n links firsts recovered) (next link))
  where
    next : (n : ℕ) → n + 1 ≡ suc n
    next n = omega arith

pub no_rows : (text : List ℕ) (links firsts recovered : List (List ℕ)) → text ≡ with_link_rows text 0 links firsts recovered
unfolding with_link_rows
no_rows text links firsts recovered = refl

-- the sum of a link's series
pub total_read : (series : List SeriesState) (link sum : ℕ) (d : SeriesState) → link < length series → sum ≡ total_of (shown_points (get_or series link d)) → sum ≡ total_on link (map shown_points series)
total_read series link sum d low is = is ∙ sym (ap total_of (get_or-map shown_points series link d [] low))

pub total_none : (series : List SeriesState) (link : ℕ) → length series ≤ link → 0 ≡ total_on link (map shown_points series)
total_none series link past = sym (ap total_of (get_or_past (map shown_points series) link [] (omega (arith, past, length-map series shown_points))))

-- all links that there may be
pub all_taken : (series : List SeriesState) (given : List SeriesState) → given ≡ take 16 series → length series ≡ 16 → map shown_points given ≡ map shown_points series
all_taken series given is count = ap (map shown_points) (is ∙ ap (λ (n : ℕ). take n series) (sym count) ∙ take-length series)

pub all_count : (series : List SeriesState) (given : List SeriesState) → given ≡ take 16 series → length series ≡ 16 → length given ≡ 16
all_count series given is count = ap length is ∙ length-take 16 series ∙ omega (arith, count)

-- three kinds of charts, one behind another
pub three_kinds : (text a b c : List ℕ) (n m o u v w : List ℕ) (given width : ℕ) (l f r links firsts recovered : List (List ℕ)) → given ≡ width → l ≡ links → f ≡ firsts → r ≡ recovered
    → a ≡ with_links text n u given 0 l → b ≡ with_links a m v given 0 f → c ≡ with_links b o w given 0 r
    → c ≡ with_links (with_links (with_links text n u width 0 links) m v width 0 firsts) o w width 0 recovered
three_kinds text a b c n m o u v w given width l f r links firsts recovered same one two three first second third = cc

-- the table of links
pub whole_table : (text a b c : List ℕ) (n m o p : List ℕ) (count : ℕ) (l f r links firsts recovered : List (List ℕ)) → count ≡ 16 → l ≡ links → f ≡ firsts → r ≡ recovered
    → a ≡ with_columns text n m o p → b ≡ with_link_rows a count l f r → c ≡ with_table_end b
    → c ≡ with_table_end (with_link_rows (with_columns text n m o p) 16 links firsts recovered)
whole_table text a b c n m o p count l f r links firsts recovered all one two three first second third = cc

-- ---- what holds where a call succeeded or failed

pub on_ok_to : {T E : Type 0} (r : Result T E) (P Q : Type 0) → OnOk r P → (P → Q) → OnOk r Q
on_ok_to (Ok x) P Q p to = to p
on_ok_to (Err e) P Q p to = tt

pub on_err_to : {T E : Type 0} (r : Result T E) (P Q : Type 0) → OnErr r P → (P → Q) → OnErr r Q
on_err_to (Ok x) P Q p to = tt
on_err_to (Err e) P Q p to = to p
