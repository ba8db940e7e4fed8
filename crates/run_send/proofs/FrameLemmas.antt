-- What a sending leaves as it stood, part by part.
use Rattle.std.proofs.Common.{◌≡◌, ◌∙◌, List, length, map, Bool, is_some, sym, ap, subst}
use mathlib.Core.Logic.{inr}
use Rattle.link_channels.specs.declared.profile.Profile.{Profile}
use Rattle.outside_net.specs.declared.link_spec.LinkSpec.{LinkSpec}
use Rattle.outside_net.specs.declared.link_spec.Role.{Role}
use Rattle.outside_host.specs.declared.host.Opened.{Opened}
use Rattle.outside_host.specs.Shelf.{Shelf, HandsOut, TakesBack, ChangesSources}
use Rattle.rist_words.specs.CommandLine.{SendCommand}
use Rattle.run_parts.specs.Places.{CameBack}
use Rattle.run_parts.specs.Frame.{KeepsFiles, KeepsLinksBut}
use Rattle.run_send.specs.Frame.{KeepsTimes, KeepsAround}

-- clocks and random words that are the same before and after
pub times_between : {I O E L C : Type 0} (old mid later new : Shelf I O E L C) (draws : Bool)
    → mid.clocks ≡ old.clocks → mid.entropies ≡ old.entropies → new.clocks ≡ later.clocks → new.entropies ≡ later.entropies
    → KeepsTimes mid later draws → KeepsTimes old new draws
times_between old mid later new draws a b d e k = record {
  clocks = λ place other. ap (λ x. x place) d ∙ k.clocks place other ∙ ap (λ x. x place) a;
  clock = subst (λ x. CameBack (x 0) (new.clocks 0)) a (subst (λ x. CameBack (mid.clocks 0) (x 0)) (sym d) k.clock);
  entropies = λ place other. ap (λ x. x place) e ∙ k.entropies place other ∙ ap (λ x. x place) b;
  first = subst (λ x. CameBack (x 0) (new.entropies 0)) b (subst (λ x. CameBack (mid.entropies 0) (x 0)) (sym e) k.first);
  undrawn = λ none. ap (λ x. x 0) e ∙ k.undrawn none ∙ ap (λ x. x 0) b;
}

-- all of that between a source that was handed out and came back
pub around_source : {I O E L C : Type 0} (old mid later new : Shelf I O E L C) (c : SendCommand) (source spent : I) → HandsOut old.sources mid.sources c.source source → ChangesSources old mid
    → KeepsFiles mid later → KeepsLinksBut (length c.links) mid.links later.links → KeepsTimes mid later (is_some c.session.pass)
    → TakesBack later.sources new.sources c.source spent → ChangesSources later new → KeepsAround old new c
around_source old mid later new c source spent out e files links times back f = record {
  sources = λ name other. back.others name other ∙ ap (λ x. x name) files.sources ∙ out.others name other;
  source = inr (source, spent, out.was, back.now (ap (λ x. x c.source) files.sources ∙ out.now));
  sinks = ap (λ s. s.sinks) f ∙ files.sinks ∙ ap (λ s. s.sinks) e;
  links = subst (λ x. KeepsLinksBut (length c.links) x new.links) (ap (λ s. s.links) e) (subst (λ x. KeepsLinksBut (length c.links) mid.links x) (sym (ap (λ s. s.links) f)) links);
  times = times_between old mid later new (is_some c.session.pass) (ap (λ s. s.clocks) e) (ap (λ s. s.entropies) e) (ap (λ s. s.clocks) f) (ap (λ s. s.entropies) f) times;
}

-- links that are opened in a role
abbrev pub links_over : Role → Profile → List LinkSpec → List Opened
links_over role profile specs = map (λ spec. record { spec = spec; role = role; profile = profile }) specs
