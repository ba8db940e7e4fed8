-- The names, one behind another.
use Rattle.std.proofs.Common.{List, ℕ, ap, ◌∙◌, ◌++◌}
use Rattle.std.specs.Prelude.{codes}
use Rattle.html_parts.specs.Page.{with_name}
use Rattle.html_parts.proofs.page.put_columns.Goals as goal

pub returns-clause-octets : goal.returns-clause-octets
returns-clause-octets c =
    c.put_at.ensures.octets
    ∙ ap (λ (t : List ℕ). t ++ codes "</tr>\n") (c.put_name-at-4.ensures.octets
    ∙ ap (λ (t : List ℕ). with_name t c.args.fourth.now) (c.put_name-at-3.ensures.octets
    ∙ ap (λ (t : List ℕ). with_name t c.args.third.now) (c.put_name-at-2.ensures.octets
    ∙ ap (λ (t : List ℕ). with_name t c.args.second.now) (c.put_name-at.ensures.octets
    ∙ ap (λ (t : List ℕ). with_name t c.args.first.now) c.put_at-at.ensures.octets))))
