-- What is printed for each fault.
use Rattle.std.specs.Prelude.{ℕ, List, ◌++◌, codes, string_bytes}
use Rattle.link_words.specs.declared.no_link.NoLink.{NoLink}
use Rattle.link_words.specs.declared.no_link.NoLink.TheVariants as refused

-- why a link has no address
abbrev pub no_link_text : NoLink → List ℕ
no_link_text refused.Memory = codes "out of memory"
no_link_text (refused.NoEndpoint url) = codes "no HOST:PORT in " ++ string_bytes url
no_link_text (refused.Listens url) = codes "cannot take @ in " ++ string_bytes url
no_link_text (refused.Parameter name url) =
    codes "cannot take " ++ (string_bytes name ++ (codes "= in " ++ string_bytes url))
no_link_text (refused.TooMany url) = codes "more than 16 parameters in " ++ string_bytes url
no_link_text (refused.Unknown name) = codes "no address: " ++ string_bytes name
