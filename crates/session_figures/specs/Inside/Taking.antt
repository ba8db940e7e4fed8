-- What private contracts of the counting cite.
use Rattle.session_figures.specs.declared.amounts.Amounts.{Amounts}
use Rattle.session_figures.specs.declared.amounts.Passed.{Passed}

-- what a step adds, with what it adds whatever came with it
abbrev pub with_passed : Amounts → Passed → Amounts
with_passed a passed =
    record {
      link = a.link;
      octets = a.octets;
      kept = a.kept;
      first = a.first;
      recovered = a.recovered;
      late = a.late;
      passed = passed;
    }
