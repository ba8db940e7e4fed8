use Rattle.std.proofs.Common.{sym, ap, drop, ◌∙◌}
use Rattle.gre_tunnel.specs.Gre.{Header}
use Rattle.gre_tunnel.specs.Reading.{value_of}
use Rattle.gre_tunnel.proofs.HeaderLemmas.{header-spelled, rest-spelled}
use Rattle.gre_tunnel.proofs.laws.one_header_is_spelled.Goals as goal

pub returns : goal.returns
returns c = λ g h x y octets first second.
    let same = sym (header-spelled g x octets first) ∙ header-spelled h y octets second in
    (same, sym (rest-spelled g x octets first) ∙ ap (λ (k : Header). drop (value_of k).rest octets) same ∙ rest-spelled h y octets second)
