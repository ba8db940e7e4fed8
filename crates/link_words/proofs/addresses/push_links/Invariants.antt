use Rattle.std.proofs.Common.{◌≡◌, ℕ, List, Option, Some, drop, map, string_bytes}
use Rattle.std.specs.declared.net.ip_addr.IpAddr.{IpAddr}
use Rattle.link_words.specs.Addresses.{links_from}
use Rattle.link_words.proofs.addresses.push_links.Given as goal

abbrev pub invariant-loop-word : goal.invariant-loop-word
invariant-loop-word g l = record {
  table : g.L.Lookup.table l.lookup ≡ g.L.Lookup.table l.fn.lookup;
  links : (t : List ℕ → Option IpAddr) → g.L.Lookup.table l.fn.lookup ≡ Some t
      → links_from t l.fn.scan (map string_bytes l.fn.line.items) (map string_bytes l.words)
      ≡ links_from t l.at (map string_bytes l.line.items) (map string_bytes (drop l.word-index l.words));
}
